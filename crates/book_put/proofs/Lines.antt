-- The contents, line by line.
use mathlib.Core.Path.{◌≡◌, refl, sym, ap, ap₂, ◌∙◌, subst}
use mathlib.Core.List.{List, ◌++◌}
use Prim.Native.Nat.{ℕ, zero, suc, ◌+◌, ◌*◌, ◌<◌, ◌≤◌}
use native.Mathlib.Numerals.{add-one}
use native.Mathlib.Omega.{arith}
use lib.ListN.{length}
use Rattle.base_lists.specs.Pieces.{Written}
use Rattle.book_bytes.specs.Bytes.{le, val, u4}
use Rattle.base_lists.proofs.Puts.{written_then, drop_put}
use Rattle.book_check.specs.Book.{length_at}
use Rattle.book_put.specs.Code.{line_end, lines}

pub line_end_more : (s : List ℕ) (at i : ℕ) → line_end s at (i + 1) ≡ line_end s at i + length_at s i
unfolding line_end
line_end_more s at i = rw add-one refl

lines_suc : (s : List ℕ) (at i : ℕ) → lines s at (i + 1) ≡ lines s at i ++ (le 4 (line_end s at i) ++ le 4 (length_at s i))
unfolding lines
lines_suc s at i = rw add-one refl

pub line_end_first : (s : List ℕ) (at : ℕ) → line_end s at 0 ≡ at
unfolding line_end
line_end_first s at = refl

-- they depend on the lengths alone
pub line_end_same : (s t : List ℕ) (at i : ℕ) → ((j : ℕ) → j < i → length_at s j ≡ length_at t j) → line_end s at i ≡ line_end t at i
unfolding line_end
line_end_same s t at zero h = refl
line_end_same s t at (suc i) h = ap₂ (λ (x y : ℕ). x + y) (line_end_same s t at i (λ j u. h j (omega arith))) (h i (omega arith))

pub lines_same : (s t : List ℕ) (at i : ℕ) → ((j : ℕ) → j < i → length_at s j ≡ length_at t j) → lines s at i ≡ lines t at i
unfolding lines
lines_same s t at zero h = refl
lines_same s t at (suc i) h =
    let g : (j : ℕ) → j < i → length_at s j ≡ length_at t j = λ j u. h j (omega arith) in
    ap₂ (λ (x y : List ℕ). x ++ y) (lines_same s t at i g) (ap₂ (λ (x y : ℕ). le 4 x ++ le 4 y) (line_end_same s t at i g) (h i (omega arith)))

-- ---- as the code writes them
pub lines_none : (d : List ℕ) (at : ℕ) → Written d 6 (lines d at 0) (8 * 0) 6 d
unfolding lines
lines_none d at = record { next = refl; size = refl; done = refl; same = refl }

-- the line that is read next is as it was
pub line_read : (d : List ℕ) (at i o : ℕ) (d' : List ℕ) (l : ℕ) → Written d 6 (lines d at i) (8 * i) o d' → l ≡ u4 d' (10 + 8 * i) → l ≡ length_at d i
line_read d at i o d' l q e =
    let z : length (lines d at i) ≡ 8 * i = q.size in
    e ∙ ap (λ (w : List ℕ). u4 w (10 + 8 * i)) q.done ∙ ap (val 4) (drop_put d 6 (10 + 8 * i) (lines d at i) (omega arith))

pub lines_more : (d : List ℕ) (at i o : ℕ) (d' : List ℕ) (e l q : ℕ) (d2 : List ℕ) → e ≡ line_end d at i → l ≡ length_at d i
    → Written d 6 (lines d at i) (8 * i) o d' → Written d' o (le 4 e ++ le 4 l) 8 q d2 → Written d 6 (lines d at (i + 1)) (8 * (i + 1)) q d2
lines_more d at i o d' e l q d2 f g a b =
    let w : lines d at i ++ (le 4 e ++ le 4 l) ≡ lines d at (i + 1) =
    ap₂ (λ (x y : ℕ). lines d at i ++ (le 4 x ++ le 4 y)) f g ∙ sym (lines_suc d at i) in
    let n : 8 * i + 8 ≡ 8 * (i + 1) = omega arith in
    subst (λ (k : ℕ). Written d 6 (lines d at (i + 1)) k q d2) n
    (subst (λ (x : List ℕ). Written d 6 x (8 * i + 8) q d2) w (written_then d 6 (lines d at i) (8 * i) o d' (le 4 e ++ le 4 l) 8 q d2 a b))

pub lines_all : (d : List ℕ) (at c i o : ℕ) (d' : List ℕ) → i ≤ c → c ≤ i → Written d 6 (lines d at i) (8 * i) o d' → Written d 6 (lines d at c) (8 * c) o d'
lines_all d at c i o d' h k q = let e : i ≡ c = omega arith in subst (λ (j : ℕ). Written d 6 (lines d at j) (8 * j) o d') e q

pub line_put : (d0 d1 d2 : List ℕ) (at x r s l : ℕ) → Written d0 at (le 4 s) 4 x d1 → Written d1 x (le 4 l) 4 r d2 → Written d0 at (le 4 s ++ le 4 l) 8 r d2
line_put d0 d1 d2 at x r s l = written_then d0 at (le 4 s) 4 x d1 (le 4 l) 4 r d2
