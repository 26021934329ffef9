-- `Cuts::new` meets its contract.
use Rattle.std.proofs.Common.{refl, replicate}
use Rattle.std.proofs.lemmas.List.Elements.{All-replicate}
use Rattle.level.specs.declared.cuts.Cut.{Cut}
use Rattle.level.specs.Numbers.{Seven}
use Rattle.level.proofs.Numbers.{numbers-none}
use Rattle.level.proofs.cuts.Cuts.new.Goals as goal

pub returns : goal.returns
returns c = numbers-none 256

pub invariant_of-result : goal.invariant_of-result
invariant_of-result c = (refl, All-replicate (λ (d : Cut). Seven d.leaves) 256 (record { count = 0; leaves = replicate 7 0 }) refl)
