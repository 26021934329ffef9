-- What the code's answers mean in document 01's terms.
use Rattle.std.specs.Prelude.{Result, Ok, Err}
use Rattle.maps.specs.Number.{Got, got}
use Rattle.maps.specs.Sheet.{Difference}
use Rattle.maps.specs.Read.{Head, Header}
use Rattle.types.specs.Code.{number_of, place_of}
use Rattle.types.specs.declared.Refusal.{Refusal}
use Rattle.types.specs.declared.Node.{Node}
use Rattle.number.specs.declared.Cursor.{Cursor}
use Rattle.number.specs.Code.{refusal_meant}
use Rattle.rows.specs.declared.Difference as D
use Rattle.rows.specs.declared.Header as H
use Rattle.rows.specs.Code.{head_meant, difference_meant, header_meant}
use Rattle.sheet.specs.Answer.{Answer, header}
use Rattle.sheet.specs.Answer as Answers

abbrev pub head_read : Result (Node × Cursor) Refusal → Got Head
head_read (Ok (v, next)) = got (head_meant v) next.at
head_read (Err w) = refusal_meant w

abbrev pub difference_read : Result (D.Difference × Cursor) Refusal → Got Difference
difference_read (Ok (d, next)) = got (difference_meant d) next.at
difference_read (Err w) = refusal_meant w

abbrev pub progress_meant : Result Cursor Refusal → Got (Unit {0})
progress_meant (Ok next) = got tt next.at
progress_meant (Err w) = refusal_meant w

abbrev pub header_read : Result (H.Header × Cursor) Refusal → Got Header
header_read (Ok (h, next)) = got (header_meant h) next.at
header_read (Err w) = refusal_meant w

-- what reading a sheet answers
abbrev pub answer_meant : Result H.Header Refusal → Answer
answer_meant (Ok h) = header (header_meant h) h.period h.windows
answer_meant (Err w) = Answers.refusal (number_of w) (place_of w)
