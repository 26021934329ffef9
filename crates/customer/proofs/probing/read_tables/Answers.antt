-- `probing::read_tables` meets its contract.
use native.Mathlib.Omega.{arith}
use Rattle.maps.specs.Number.{Bytes}
use Rattle.demands.proofs.Reading.{reads}
use Rattle.customer.proofs.probing.read_tables.Goals as goal

pub returns : goal.returns
returns c =
    let b : Bytes c.args.sheet.now = record { small = λ i. omega (arith, c.shared_slice_known-1.given i) } in
    reads _ _ _ _ _ _ _ b c.maps_read.ensures
