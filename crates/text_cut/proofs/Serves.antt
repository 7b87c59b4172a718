-- A program's step: `next_line`, and the answer to the line that ended, if one did.
--   served_none      nothing
--   served_whole     a whole line ended, and its answer is put
--   served_broken    a line that is too long ended, and is refused
--   served_pending   the piece ended
--   served_then      one step after another
use mathlib.Core.Path.{sym, subst}
use mathlib.Core.List.{List, [], ◌∷◌, ◌++◌, append_assoc, append-nil}
use Prim.Native.Nat.{ℕ}
use lib.ListN.{length, take}
use Rattle.base_lists.specs.Pieces.{Put}
use Rattle.text_put.specs.Print.{refused_text}
use Rattle.base_lists.proofs.Puts.{placed_none, put_then}
use Rattle.text_cut.specs.Lines.{Line, whole, broken}
use Rattle.text_cut.specs.Tells.{CutTells}
use Rattle.text_cut.specs.Feed.{Fed, line_ends, long_line_ends, piece_ends, Answered, no_line, whole_line, broken_line, Served}
use Rattle.text_cut.specs.declared.Step.TheVariants.{Whole, Broken, Pending}
use Rattle.text_cut.proofs.Feeds.{answered_append}

pub same_lines : {earlier s : List ℕ} {at : ℕ} {before : List Line} {k : List ℕ} {m : ℕ} → Fed earlier s at before k m → Fed earlier s at (before ++ []) k m
same_lines {earlier} {s} {at} {before} {k} {m} f = subst (λ (z : List Line). Fed earlier s at z k m) (sym (append-nil before)) f

module _ {A : List ℕ → List ℕ → Type 0} where
  unfoldable pub served_none : (k : List ℕ) (m : ℕ) (s : List ℕ) (at : ℕ) (d : List ℕ) (to : ℕ) → Served A k m s at d to k m at d to
  served_none k m s at d to =
      record { lines = []; text = []; fed = λ f. same_lines f; answered = no_line; put = placed_none (length d) d to }

  unfoldable pub served_whole : (k : List ℕ) (m : ℕ) (s : List ℕ) (at : ℕ) (d : List ℕ) (to m' next : ℕ) (k' t : List ℕ) (to' : ℕ) (d' : List ℕ)
      → CutTells k m s at (Whole m' next) k' → A (take m' k') t → Put d to t to' d' → Served A k m s at d to k' 0 next d' to'
  served_whole k m s at d to m' next k' t to' d' c a p =
      record {
        lines = whole (take m' k') ∷ [];
        text = t;
        fed = λ f. line_ends m' next k' f c;
        answered = subst (λ (z : List ℕ). Answered A (whole (take m' k') ∷ []) z) (append-nil t) (whole_line a no_line);
        put = p;
      }

  unfoldable pub served_broken : (k : List ℕ) (m : ℕ) (s : List ℕ) (at : ℕ) (d : List ℕ) (to next : ℕ) (k' : List ℕ) (to' : ℕ) (d' : List ℕ)
      → CutTells k m s at (Broken next) k' → Put d to (refused_text 12) to' d' → Served A k m s at d to k' 0 next d' to'
  served_broken k m s at d to next k' to' d' c p =
      record {
        lines = broken ∷ [];
        text = refused_text 12;
        fed = λ f. long_line_ends next k' f c;
        answered = subst (λ (z : List ℕ). Answered A (broken ∷ []) z) (append-nil (refused_text 12)) (broken_line no_line);
        put = p;
      }

  unfoldable pub served_pending : (k : List ℕ) (m : ℕ) (s : List ℕ) (at : ℕ) (d : List ℕ) (to m' : ℕ) (k' : List ℕ)
      → CutTells k m s at (Pending m') k' → Served A k m s at d to k' m' (length s) d to
  served_pending k m s at d to m' k' c =
      record { lines = []; text = []; fed = λ f. same_lines (piece_ends m' k' f c); answered = no_line; put = placed_none (length d) d to }

  unfoldable pub served_then : {k : List ℕ} {m : ℕ} {s : List ℕ} {at : ℕ} {d : List ℕ} {to : ℕ} {k₁ : List ℕ} {m₁ at₁ : ℕ} {d₁ : List ℕ} {to₁ : ℕ} {k₂ : List ℕ} {m₂ at₂ : ℕ} {d₂ : List ℕ} {to₂ : ℕ}
      → Served A k m s at d to k₁ m₁ at₁ d₁ to₁ → Served A k₁ m₁ s at₁ d₁ to₁ k₂ m₂ at₂ d₂ to₂ → Served A k m s at d to k₂ m₂ at₂ d₂ to₂
  served_then {s = s} {d = d} {to} {d₁ = d₁} {to₁} {k₂} {m₂} {at₂} {d₂} {to₂} a b =
      record {
        lines = a.lines ++ b.lines;
        text = a.text ++ b.text;
        fed = λ {earlier} {before} f. subst (λ (z : List Line). Fed earlier s at₂ z k₂ m₂) (append_assoc before a.lines b.lines) (b.fed (a.fed f));
        answered = answered_append a.answered b.answered;
        put = put_then d to a.text to₁ d₁ b.text to₂ d₂ a.put b.put;
      }
