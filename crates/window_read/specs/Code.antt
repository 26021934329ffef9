-- What the code's answers mean in the terms of document 02, U8.
use Rattle.std.specs.Prelude.{Result, Ok, Err}
use Rattle.maps.specs.Number.{Got, got}
use Rattle.maps.specs.Sheet.{Window}
use Rattle.types.specs.declared.Refusal.{Refusal}
use Rattle.number.specs.declared.Cursor.{Cursor}
use Rattle.number.specs.Code.{refusal_meant}
use Rattle.window_read.specs.declared.Entry.{Entry}

abbrev pub entry_meant : Entry → Window
entry_meant e = record { id = e.id; from = e.window.from; to = e.window.to }

abbrev pub window_read : Result (Entry × Cursor) Refusal → Got Window
window_read (Ok (e, next)) = got (entry_meant e) next.at
window_read (Err w) = refusal_meant w
