-- A call that answers the outcome of its sheet answers, where that is an earlier sheet rewritten, the earlier outcome.
use Prim.Native.Nat.{ℕ}
use mathlib.Core.Path.{subst}
use mathlib.Core.List.{List}
use lib.ListN.{length}
use Rattle.maps.specs.Outcome.{Outcome, outcome}
use Rattle.out_bytes.specs.Outcome.{Answered}
use Rattle.former.proofs.Rewriting.{keeps, keeps-ready, rewrites, keeps-unwindowed, unwindows}
use Rattle.demands.specs.Keeping.{FormerKept, UnwindowedKept}

module _ (bytes buffer : List ℕ) (number place : ℕ) (after : List ℕ) (is : Answered (outcome bytes (length buffer)) number place buffer after) where
  pub former-kept : FormerKept bytes buffer number place after
  former-kept =
      record {
        kept = λ old r. subst (λ (o : Outcome). Answered o number place buffer after) ((keeps old bytes r).outcomes (length buffer)) is;
        same = λ old r. (keeps old bytes r, keeps-ready old bytes r);
        rewritable = rewrites;
      }

  pub unwindowed-kept : UnwindowedKept bytes buffer number place after
  unwindowed-kept =
      record {
        kept = λ old r. subst (λ (o : Outcome). Answered o number place buffer after) ((keeps-unwindowed old bytes r).outcomes (length buffer)) is;
        same = λ old r. keeps-unwindowed old bytes r;
        rewritable = unwindows;
      }
