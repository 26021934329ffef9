-- `next` of the bytes of a name meets its contract.
use Prim.Native.Nat.{◌+◌}
use mathlib.Core.Path.{◌≡◌, sym, ap, ◌∙◌}
use mathlib.Core.List.{◌∷◌}
use native.Mathlib.Omega.{arith}
use lib.ListN.{length}
use Rattle.blif.specs.Scan.{ends_word, name_at}
use Rattle.scan.proofs.Naming.{name-past, name-ends, name-byte}
use Rattle.scan.proofs.name.NameBytesIterator.next.Goals.{After-self-2-1}
use Rattle.scan.proofs.name.NameBytesIterator.next.Goals as goal

pub returns-in_err-b-clause-steps : goal.returns-in_err-b-clause-steps
returns-in_err-b-clause-steps c =
    let s = c.args.self.now.text.now in
    let e = c.after_joins-self.ensures.0 in
    rw c.from_residual.ensures (name-past s c.args.self.now.at c.after_joins-self.result e c.in_err-b.ensures.lookup.3)

pub returns-then-ends_word-clause-steps : goal.returns-then-ends_word-clause-steps
returns-then-ends_word-clause-steps c =
    let s = c.args.self.now.text.now in
    let e = c.after_joins-self.ensures.0 in
    let k = c.in_ok-b.ensures.lookup.3 in
    name-ends s c.args.self.now.at c.after_joins-self.result e k.0 (ap ends_word (sym (k.1 0)) ∙ sym c.if-ends_word.ensures)

-- the byte at the position where the joins end is the name's next
given : (c : After-self-2-1) → name_at c.args.self.now.text.now c.args.self.now.at ≡ c.in_ok-b.field-0.now ∷ name_at c.args.self.now.text.now (c.after_joins-self.result + 1)
given c =
    let s = c.args.self.now.text.now in
    let e = c.after_joins-self.ensures.0 in
    let k = c.in_ok-b.ensures.lookup.3 in
    name-byte s c.args.self.now.at c.after_joins-self.result e k.0 (ap ends_word (sym (k.1 0)) ∙ sym c.if-ends_word.ensures)
    ∙ ap (λ b. b ∷ name_at s (c.after_joins-self.result + 1)) (sym (k.1 0))

pub returns-clause-steps : goal.returns-clause-steps
returns-clause-steps c = given c

pub returns-clause-goes : goal.returns-clause-goes
returns-clause-goes c = record { on = λ _. (tt, tt, omega (arith, ap length (given c))); keeps = tt; rests = λ _. tt }
