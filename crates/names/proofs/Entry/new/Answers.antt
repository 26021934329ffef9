-- `Entry::new` meets its contract: the bytes in the entry, with what is left of the name, are the name.
use Prim.Native.Nat.{◌<◌}
use mathlib.Core.Path.{◌≡◌, ◌∙◌}
use mathlib.Core.List.{◌∷◌}
use native.Mathlib.Omega.{arith}
use lib.ListN.{length, length-set}
use Rattle.blif.specs.Scan.{name_at}
use Rattle.scan.specs.Name.{bytes_left}
use Rattle.names.proofs.Entries.{begun-room, begun_more}
use Rattle.names.proofs.Entry.new.Goals as goal

pub loop-b-preserved : goal.loop-b-preserved
loop-b-preserved c =
    let l = c.loop-b in
    let w = name_at c.args.text.now c.args.at in
    let next : bytes_left l.b-iterator ≡ c.in-Some.b ∷ bytes_left c.next.new.self = c.in-Some.ensures.steps in
    let room = begun-room l.bytes w l.size c.in-Some.b (bytes_left l.b-iterator) (bytes_left c.next.new.self) l.invariant.1 l.invariant.0 next in
    let inside : l.size < length l.bytes = omega (arith, room, c.requires) in
    rw c.from.ensures (
      begun_more l.bytes w l.size c.in-Some.b (bytes_left l.b-iterator) (bytes_left c.next.new.self) inside l.invariant.0 next,
      omega (arith, length-set l.bytes l.size c.in-Some.b),
      length-set l.bytes l.size c.in-Some.b ∙ l.invariant.2,
    )
