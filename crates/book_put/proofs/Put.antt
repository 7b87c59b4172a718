-- The code's pieces, put together: the new book's bytes in the slice.
use mathlib.Core.Path.{◌≡◌, sym, ap, ◌∙◌, subst}
use mathlib.Core.List.{List, ◌++◌}
use Prim.Native.Nat.{ℕ, suc, ◌+◌, ◌-◌, ◌*◌, ◌<◌, ◌≤◌}
use native.Mathlib.Omega.{arith}
use lib.ListN.{length, take, drop}
use lib.Seq.{sets}
use Rattle.base_lists.specs.Pieces.{Written}
use Rattle.book_bytes.specs.Bytes.{le, val, u4}
use Rattle.base_lists.proofs.Puts.{written_then, drop_put}
use Rattle.book_check.specs.Book.{width, length_at}
use Rattle.book_put.specs.Code.{new_length, line_end, lines, new_bytes, Place}
use Rattle.book_put.proofs.Sets.{u4_below, three_pieces}
use Rattle.book_put.proofs.Lines.{line_end_same, lines_same}

-- ---- the slice before the contents are rewritten: the bodies moved up, the count raised
module _ (d : List ℕ) (c n : ℕ) (B : List ℕ) (k e : ℕ) (d1 : List ℕ) (x : ℕ) (d2 : List ℕ)
    (q1 : Written d (6 + width * c + width) B k e d1) (q2 : Written d1 4 (le 2 (c + 1)) 2 x d2) where
  -- the lengths in the contents are as they were
  pub lengths_kept : (j : ℕ) → j < c → length_at d2 j ≡ length_at d j
  lengths_kept j h =
      let z : length (le 2 (c + 1)) ≡ 2 = q2.size in
      ap (λ (w : List ℕ). u4 w (10 + width * j)) q2.done
      ∙ ap (val 4) (drop_put d1 4 (10 + width * j) (le 2 (c + 1)) (omega arith))
      ∙ ap (λ (w : List ℕ). u4 w (10 + width * j)) q1.done
      ∙ u4_below d (6 + width * c + width) (10 + width * j) B (omega arith)

  pub ends_kept : (at i : ℕ) → i ≤ c → line_end d2 at i ≡ line_end d at i
  ends_kept at i h = line_end_same d2 d at i (λ j u. lengths_kept j (omega arith))

  pub long_kept : length d2 ≡ length d
  long_kept = q2.same ∙ q1.same

pub assemble : (d : List ℕ) (n c : ℕ) (b : List ℕ) (e : ℕ) (d1 : List ℕ) (x : ℕ) (d2 : List ℕ) (y : ℕ) (d3 : List ℕ) (z : ℕ) (d4 : List ℕ) (r : ℕ) (d5 : List ℕ)
    → Place d n c b
    → Written d (6 + width * c + width) (take (n - (6 + width * c)) (drop (6 + width * c) d)) (n - (6 + width * c)) e d1
    → Written d1 4 (le 2 (c + 1)) 2 x d2
    → Written d2 6 (lines d2 (6 + width * suc c) c) (8 * c) y d3
    → Written d3 y (le 4 (n + width) ++ le 4 (length b)) 8 z d4
    → Written d4 e b (length b) r d5
    → (r ≡ new_length n b) × (d5 ≡ new_bytes d n c b ++ drop (new_length n b) d)
unfolding new_bytes
assemble d n c b e d1 x d2 y d3 z d4 r d5 w q1 q2 q3 q4 q5 =
    let from : ℕ = 6 + width * c in
    let at : ℕ = 6 + width * suc c in
    let B : List ℕ = take (n - from) (drop from d) in
    let ex : 6 ≡ x = sym q2.next in
    let L : List ℕ = lines d at c in
    let same : lines d2 at c ≡ L = lines_same d2 d at c (lengths_kept d c n B (n - from) e d1 x d2 q1 q2) in
    let q3' : Written d2 x L (8 * c) y d3 = subst (λ (j : ℕ). Written d2 j L (8 * c) y d3) ex (subst (λ (l : List ℕ). Written d2 6 l (8 * c) y d3) same q3) in
    let tail : List ℕ = le 4 (n + width) ++ le 4 (length b) in
    let s1 : Written d1 4 (le 2 (c + 1) ++ L) (2 + 8 * c) y d3 = written_then d1 4 (le 2 (c + 1)) 2 x d2 L (8 * c) y d3 q2 q3' in
    let s2 : Written d1 4 ((le 2 (c + 1) ++ L) ++ tail) ((2 + 8 * c) + 8) z d4 = written_then d1 4 (le 2 (c + 1) ++ L) (2 + 8 * c) y d3 tail 8 z d4 s1 q4 in
    let X : List ℕ = (le 2 (c + 1) ++ L) ++ tail in
    let sx : length X ≡ (2 + 8 * c) + 8 = s2.size in
    let sB : length B ≡ n - from = q1.size in
    let ne : e ≡ (from + width) + (n - from) = q1.next in
    let nr : r ≡ e + length b = q5.next in
    let lo : from ≤ n = w.low in
    let room : n + width + length b ≤ length d = w.room in
    let er : r ≡ new_length n b = omega arith in
    let ee : e + length b ≡ new_length n b = omega arith in (
      er,
      q5.done
          ∙ ap (λ (u : List ℕ). sets u e b) (s2.done ∙ ap (λ (u : List ℕ). sets u 4 X) q1.done)
          ∙ three_pieces d X B b (from + width) e (omega arith) (omega arith) (omega arith)
          ∙ ap (λ (k : ℕ). (take 4 d ++ ((X ++ B) ++ b)) ++ drop k d) ee,
    )
