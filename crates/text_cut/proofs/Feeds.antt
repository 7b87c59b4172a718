-- Whatever the pieces in which the input arrives, the lines met are those of the input.
--   fed_lines   of a program that goes through its input by `next_line`: the lines met, and what is pending, are lines_of the input so far
--   fed_output  the same for what is written, with a slice of 255 bytes
--   fed_same    two such programs with slices of one length meet the same lines in the same input, whatever the pieces
use mathlib.Core.Path.{◌≡◌, refl, sym, ap, ◌∙◌, subst}
use mathlib.Core.Bool.{Bool, true, false}
use mathlib.Core.List.{List, [], ◌∷◌, ◌++◌, append_assoc, append-nil}
use Prim.Native.Nat.{ℕ, zero, suc, ◌+◌, ◌-◌, ◌≤◌, ◌<◌, min, max}
use native.Mathlib.Omega.{arith}
use lib.ListN.{length, take, drop, length-append, length-drop, take-append-drop}
use lib.Seq.{sets-eq, take_all, take-length, take_at, take-add}
use borrow.Author.Tests.{le-leb, lt-leb}
use Rattle.text_put.specs.Print.{newline, refused_text}
use Rattle.base_lists.proofs.Puts.{placed_same}
use Rattle.base_lists.specs.Pieces.{between}
use Rattle.text_cut.specs.Lines.{Line, whole, broken, ended, left, lines_in, lines_of, Kept}
use Rattle.text_cut.specs.Tells.{Carried, CutAt, up_to}
use Rattle.text_cut.specs.Feed.{Fed, start, line_ends, long_line_ends, piece_ends, next_piece, at_end, end_text, Answered, no_line, whole_line, broken_line, Output}
use Rattle.text_cut.proofs.Cuts.{until_take, until_stop, until_free, Free, free_append, pieces_free, pieces_next, pieces_some}

-- ---- lines_of by its first line
lines_free : (n : ℕ) (x : List ℕ) → Free newline x → lines_of n x ≡ left x
unfolding lines_of lines_in
lines_free n x f = ap (lines_in n) (pieces_free newline x f)

lines_next : (n : ℕ) (x J : List ℕ) → Free newline x → lines_of n (x ++ newline ∷ J) ≡ ended n x ∷ lines_of n J
unfolding lines_of lines_in
lines_next n x J f =
    let r = pieces_some newline J in
    ap (lines_in n) (pieces_next newline x J f ∙ ap (λ (z : List (List ℕ)). x ∷ z) r.2)
    ∙ ap (λ (z : List (List ℕ)). ended n x ∷ lines_in n z) (sym r.2)

pick_line : List ℕ → Bool → Line
pick_line s b = elim b [ true ↦ whole s | false ↦ broken ]

ended_whole : (n : ℕ) (s : List ℕ) → length s ≤ n → ended n s ≡ whole s
unfolding ended pick_line
ended_whole n s h = ap (pick_line s) (le-leb (length s) n h)

ended_long : (n : ℕ) (s : List ℕ) → n < length s → ended n s ≡ broken
unfolding ended pick_line
ended_long n s h = ap (pick_line s) (lt-leb (length s) n h)

-- ---- what is kept
module _ (k : List ℕ) (m : ℕ) (x u : List ℕ) (m' : ℕ) (k' : List ℕ) (a : Kept k m x) (c : Carried k m u m' k') where
  more_counts : m' ≡ min (length (x ++ u)) (length k' + 1)
  more_counts =
      let p : m ≡ min (length x) (length k + 1) = a.counts in
      let q : m' ≡ max m (min (m + length u) (length k + 1)) = c.next in
      let l : length (x ++ u) ≡ length x + length u = length-append x u in
      let s : length k' ≡ length k = placed_same c in
      omega arith

  more_holds : length (x ++ u) ≤ length k' → take m' k' ≡ x ++ u
  more_holds h =
      let p : m ≡ min (length x) (length k + 1) = a.counts in
      let q : m' ≡ min (length (x ++ u)) (length k' + 1) = more_counts in
      let l : length (x ++ u) ≡ length x + length u = length-append x u in
      let s : length k' ≡ length k = placed_same c in
      let f : k' ≡ take m k ++ u ++ drop (m + length u) k = c.done ∙ sets-eq u k m (omega arith) in
      ap (take m') (f ∙ ap (λ (z : List ℕ). z ++ u ++ drop (m + length u) k) (a.holds (omega arith)))
      ∙ take_at (x ++ u) (drop (m + length u) k) m' (omega arith)

  kept_more : Kept k' m' (x ++ u)
  kept_more = record { counts = more_counts; holds = more_holds }

  -- the line that x and u make, ended by a newline
  ended_fits : m' ≤ length k → ended (length k) (x ++ u) ≡ whole (take m' k')
  ended_fits h =
      let q : m' ≡ min (length (x ++ u)) (length k' + 1) = more_counts in
      let s : length k' ≡ length k = placed_same c in
      ended_whole (length k) (x ++ u) (omega arith) ∙ ap whole (sym (more_holds (omega arith)))

  ended_over : length k < m' → ended (length k) (x ++ u) ≡ broken
  ended_over h =
      let q : m' ≡ min (length (x ++ u)) (length k' + 1) = more_counts in
      ended_long (length k) (x ++ u) (omega arith)

kept_none : (k : List ℕ) → Kept k 0 []
kept_none k = record { counts = (let e : 0 ≡ min 0 (length k + 1) = omega arith in e); holds = λ h. refl }

-- ---- what a step passes
up_to_all : (s : List ℕ) (at : ℕ) → length s ≤ at + length (up_to s at) → up_to s at ≡ drop at s
up_to_all s at h =
    let l : length (drop at s) ≡ length s - at = length-drop at s in
    until_take newline (drop at s) ∙ take_all (length (up_to s at)) (drop at s) (omega arith)

passed_line : (s : List ℕ) (at next : ℕ) → next ≡ at + length (up_to s at) + 1 → next ≤ length s → between at next s ≡ up_to s at ++ newline ∷ []
passed_line s at next e h =
    let n : ℕ = length (up_to s at) in
    let l : length (drop at s) ≡ length s - at = length-drop at s in
    let j : next - at ≡ n + 1 = omega arith in
    ap (λ (z : ℕ). take z (drop at s)) j
    ∙ take-add n 1 (drop at s)
    ∙ ap (λ (z : List ℕ). z ++ take 1 (drop n (drop at s))) (sym (until_take newline (drop at s)))
    ∙ ap (λ (z : List ℕ). up_to s at ++ take 1 z) (until_stop newline (drop at s) (omega arith))

-- ---- a program half-way: x is pending, and whatever comes, its lines are those met and those of x and what comes
record Halfway (input : List ℕ) (lines : List Line) (k : List ℕ) (m : ℕ) : Type 0 where
  x : List ℕ
  free : Free newline x
  kept : Kept k m x
  coming : (J : List ℕ) → lines_of (length k) (input ++ J) ≡ lines ++ lines_of (length k) (x ++ J)

module _ {input : List ℕ} {lines : List Line} {k : List ℕ} {m : ℕ} (a : Halfway input lines k m) (s : List ℕ) (at : ℕ) where
  longer : Free newline (a.x ++ up_to s at)
  longer = free_append newline a.x (up_to s at) a.free (until_free newline (drop at s))

  pending_step : (m' : ℕ) (k' : List ℕ) → Carried k m (up_to s at) m' k' → length s ≤ at + length (up_to s at) → Halfway (input ++ drop at s) lines k' m'
  pending_step m' k' c h =
      record { x = a.x ++ up_to s at; free = longer; kept = kept_more k m a.x (up_to s at) m' k' a.kept c; coming = then }
    where
      long : length k ≡ length k'
      long = sym (placed_same c)

      then : (J : List ℕ) → lines_of (length k') ((input ++ drop at s) ++ J) ≡ lines ++ lines_of (length k') ((a.x ++ up_to s at) ++ J)
      then J =
          subst (λ (n : ℕ). lines_of n ((input ++ drop at s) ++ J) ≡ lines ++ lines_of n ((a.x ++ up_to s at) ++ J)) long
          (ap (lines_of (length k)) (append_assoc input (drop at s) J)
          ∙ a.coming (drop at s ++ J)
          ∙ ap (λ (z : List ℕ). lines ++ lines_of (length k) (a.x ++ (z ++ J))) (sym (up_to_all s at h))
          ∙ ap (λ (z : List ℕ). lines ++ lines_of (length k) z) (sym (append_assoc a.x (up_to s at) J)))

  line_step : (m' next : ℕ) (k' : List ℕ) (l : Line) → CutAt k m s at m' next k' → next ≤ length s → ended (length k) (a.x ++ up_to s at) ≡ l
      → Halfway (input ++ between at next s) (lines ++ l ∷ []) k' 0
  line_step m' next k' l c h e =
      record { x = []; free = λ j q. absurd (omega arith); kept = kept_none k'; coming = then }
    where
      long : length k ≡ length k'
      long = sym (placed_same c.carried)

      step : (J : List ℕ) → lines_of (length k) ((input ++ between at next s) ++ J) ≡ (lines ++ l ∷ []) ++ lines_of (length k) J
      step J =
          ap (lines_of (length k)) (append_assoc input (between at next s) J)
          ∙ a.coming (between at next s ++ J)
          ∙ ap (λ (z : List ℕ). lines ++ lines_of (length k) (a.x ++ (z ++ J))) (passed_line s at next c.place h)
          ∙ ap (λ (z : List ℕ). lines ++ lines_of (length k) (a.x ++ z)) (append_assoc (up_to s at) (newline ∷ []) J)
          ∙ ap (λ (z : List ℕ). lines ++ lines_of (length k) z) (sym (append_assoc a.x (up_to s at) (newline ∷ J)))
          ∙ ap (λ (z : List Line). lines ++ z) (lines_next (length k) (a.x ++ up_to s at) J longer ∙ ap (λ (y : Line). y ∷ lines_of (length k) J) e)
          ∙ sym (append_assoc lines (l ∷ []) (lines_of (length k) J))

      then : (J : List ℕ) → lines_of (length k') ((input ++ between at next s) ++ J) ≡ (lines ++ l ∷ []) ++ lines_of (length k') ([] ++ J)
      then J = subst (λ (n : ℕ). lines_of n ((input ++ between at next s) ++ J) ≡ (lines ++ l ∷ []) ++ lines_of n J) long (step J)

-- the bytes passed in a piece
take_next : (s : List ℕ) (at next : ℕ) → next ≡ at + length (up_to s at) + 1 → take at s ++ between at next s ≡ take next s
take_next s at next e =
    let j : at + (next - at) ≡ next = omega arith in
    sym (take-add at (next - at) s) ∙ ap (λ (z : ℕ). take z s) j

moved : {input input₂ : List ℕ} {lines : List Line} {k : List ℕ} {m : ℕ} → input ≡ input₂ → Halfway input lines k m → Halfway input₂ lines k m
moved {lines = lines} {k} {m} e a = subst (λ (z : List ℕ). Halfway z lines k m) e a

fed_halfway : {earlier s : List ℕ} {at : ℕ} {lines : List Line} {k : List ℕ} {m : ℕ} → Fed earlier s at lines k m → Halfway (earlier ++ take at s) lines k m
fed_halfway (start {k = k} s) = record { x = []; free = λ j q. absurd (omega arith); kept = kept_none k; coming = λ J. refl }
fed_halfway (line_ends {earlier} {s} {at} {k = k} {m = m} m' next k' f c) =
    let a = fed_halfway f in
    moved (append_assoc earlier (take at s) (between at next s) ∙ ap (λ (z : List ℕ). earlier ++ z) (take_next s at next c.0.place))
    (line_step a s at m' next k' (whole (take m' k')) c.0 c.1 (ended_fits k m a.x (up_to s at) m' k' a.kept c.0.carried c.2))
fed_halfway (long_line_ends {earlier} {s} {at} {k = k} {m = m} next k' f c) =
    let a = fed_halfway f in
    moved (append_assoc earlier (take at s) (between at next s) ∙ ap (λ (z : List ℕ). earlier ++ z) (take_next s at next c.1.place))
    (line_step a s at c.0 next k' broken c.1 c.2 (ended_over k m a.x (up_to s at) c.0 k' a.kept c.1.carried c.3))
fed_halfway (piece_ends {earlier} {s} {at} m' k' f c) =
    moved (append_assoc earlier (take at s) (drop at s) ∙ ap (λ (z : List ℕ). earlier ++ z) (take-append-drop at s ∙ sym (take-length s)))
    (pending_step (fed_halfway f) s at m' k' c.0 c.1)
fed_halfway (next_piece {earlier} {s} {at} t f h) =
    moved (ap (λ (z : List ℕ). earlier ++ z) (take_all at s h) ∙ sym (append-nil (earlier ++ s))) (fed_halfway f)

left_end : (x : List ℕ) (k : List ℕ) (m : ℕ) → Kept k m x → left x ≡ at_end m
unfolding left at_end
left_end [] k zero a = refl
left_end [] k (suc m) a = absurd (let e : suc m ≡ min 0 (length k + 1) = a.counts in omega arith)
left_end (b ∷ x) k zero a = absurd (let e : 0 ≡ min (suc (length x)) (length k + 1) = a.counts in omega arith)
left_end (b ∷ x) k (suc m) a = refl

pub fed_lines : {earlier s : List ℕ} {at : ℕ} {lines : List Line} {k : List ℕ} {m : ℕ} → Fed earlier s at lines k m
    → lines_of (length k) (earlier ++ take at s) ≡ lines ++ at_end m
fed_lines {earlier} {s} {at} {lines} {k} {m} f =
    let a = fed_halfway f in
    ap (lines_of (length k)) (sym (append-nil (earlier ++ take at s))) ∙ a.coming []
    ∙ ap (λ (z : List ℕ). lines ++ lines_of (length k) z) (append-nil a.x)
    ∙ ap (λ (z : List Line). lines ++ z) (lines_free (length k) a.x a.free ∙ left_end a.x k m a.kept)

-- two programs that have passed one input in whatever pieces, with slices of one length
pub fed_same : {earlier s : List ℕ} {at : ℕ} {lines : List Line} {k : List ℕ} {m : ℕ} {earlier₂ s₂ : List ℕ} {at₂ : ℕ} {lines₂ : List Line} {k₂ : List ℕ} {m₂ : ℕ}
    → Fed earlier s at lines k m → Fed earlier₂ s₂ at₂ lines₂ k₂ m₂ → earlier ++ take at s ≡ earlier₂ ++ take at₂ s₂ → length k ≡ length k₂
    → lines ++ at_end m ≡ lines₂ ++ at_end m₂
fed_same {k = k} {earlier₂ = earlier₂} {s₂} {at₂} f g e l =
    sym (fed_lines f) ∙ ap (lines_of (length k)) e ∙ ap (λ (n : ℕ). lines_of n (earlier₂ ++ take at₂ s₂)) l ∙ fed_lines g

-- ---- what is written
module _ {A : List ℕ → List ℕ → Type 0} where
  pub answered_append : {a b : List Line} {t u : List ℕ} → Answered A a t → Answered A b u → Answered A (a ++ b) (t ++ u)
  answered_append no_line q = q
  answered_append {b = b} {u = u} (whole_line {s} {t} {lines} {u = v} x p) q =
      subst (λ (z : List ℕ). Answered A (whole s ∷ (lines ++ b)) z) (sym (append_assoc t v u)) (whole_line x (answered_append p q))
  answered_append {b = b} {u = u} (broken_line {lines} {u = v} p) q =
      subst (λ (z : List ℕ). Answered A (broken ∷ (lines ++ b)) z) (sym (append_assoc (refused_text 12) v u)) (broken_line (answered_append p q))

  end_answered : (m : ℕ) → Answered A (at_end m) (end_text m)
  unfolding at_end end_text
  end_answered zero = no_line
  end_answered (suc m) = subst (λ (z : List ℕ). Answered A (broken ∷ []) z) (append-nil (refused_text 12)) (broken_line no_line)

  pub fed_output : {earlier s : List ℕ} {at : ℕ} {lines : List Line} {k : List ℕ} {m : ℕ} {t : List ℕ} → Fed earlier s at lines k m → length k ≡ 255
      → Answered A lines t → Output A (earlier ++ take at s) (t ++ end_text m)
  fed_output {earlier} {s} {at} {lines} {k} {m} {t} f e a =
      subst (λ (z : List Line). Answered A z (t ++ end_text m)) (sym (fed_lines f) ∙ ap (λ (n : ℕ). lines_of n (earlier ++ take at s)) e)
      (answered_append a (end_answered m))
