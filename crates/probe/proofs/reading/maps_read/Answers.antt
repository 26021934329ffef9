-- `probe::maps_read` meets its contract.
use mathlib.Core.Path.{refl}
use Rattle.sheet.proofs.Readings.{exported, read_whole, read-refused}
use Rattle.probe.proofs.reading.maps_read.Goals as goal

pub returns-in-Ok : goal.returns-in-Ok
returns-in-Ok c =
    rw (c.from.ensures.0, c.from.ensures.1) (exported _ _ _ _ (read_whole _ _ _ _ c.in-Ok.ensures _ _ _ refl _ _))

pub returns-in-Err : goal.returns-in-Err
returns-in-Err c =
    rw (c.from-in-Err.ensures.0, c.from-in-Err.ensures.1)
    (exported _ _ _ _ (read-refused _ _ _ _ c.in-Err.ensures _ _ refl _ _))
