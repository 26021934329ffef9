-- `Entry::is_at` meets its contract.
use mathlib.Core.Path.{◌≡◌, refl}
use Rattle.std.proofs.lemmas.Iterator.{YieldsList-from_slice, YieldsList-from_take}
use Rattle.std.proofs.lemmas.Iterator.Consumers.{YieldsList-from_first, YieldsList-from_copied}
use Rattle.blif.specs.Scan.{name_at}
use Rattle.scan.specs.Name.{bytes_left}
use Rattle.scan.proofs.Comparing.{equal_from_yields_List}
use Rattle.names.proofs.Entry.is_at.Goals as goal

pub returns : goal.returns
returns c =
    equal_from_yields_List (λ x y. y ≡ x) _ c.eq.result c.eq.ensures.ran (YieldsList-from_first (λ x. x) bytes_left (name_at c.args.text.now c.args.at) (cc))
    (λ it e. YieldsList-from_take c.args.self.now.size (YieldsList-from_copied (YieldsList-from_slice c.args.self.now.bytes (cc))) (cc)) (λ x y. refl)
