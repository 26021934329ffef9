-- What the iterator over the bytes of a name has still to give.
use Rattle.std.specs.Prelude.{ℕ, List}
use Rattle.blif.specs.Scan.{name_at}
use Rattle.scan.specs.declared.name.NameBytes.{NameBytes}

-- the name that goes on at its position
abbrev pub bytes_left : NameBytes → List ℕ
bytes_left it = name_at it.text.now it.at
