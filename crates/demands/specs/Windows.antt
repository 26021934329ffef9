-- Document 02, U8, of the sheet that is planned: "Legality gains this rule, and labels are least among legal ones with it."
use Rattle.std.specs.Prelude.{ℕ, ◌%◌, ◌≤◌, ◌<◌, List, ◌↔◌}
use Rattle.maps.specs.Lists.{All}
use Rattle.maps.specs.Label.{Label}
use Rattle.maps.specs.Sheet.{Sheet, Window}
use Rattle.maps.specs.Legal.{Legal}
use Rattle.maps.specs.Reading.{ReadsAs}
use Rattle.former.specs.Plain.{Plain}

-- "Such a box may start in step s only if the remainder of s by P is at least from and below to": each box with an entry does
abbrev pub InWindows : Sheet → (ℕ → Label) → Type 0
InWindows S L = All (λ (w : Window). (w.from ≤ (L w.id).step % S.period) × ((L w.id).step % S.period < w.to)) S.windows

-- legal is what was legal without windows, and this rule; so nothing else is asked of a box with an entry, and nothing of a node without one
pub record WindowRule (bytes : List ℕ) : Type 0 where
  pub gained : (S : Sheet) → ReadsAs bytes S → (L : ℕ → Label) (H : ℕ) → Legal S L H ↔ (Plain S L H × InWindows S L)
