-- One piece after another: the numbers of a body, and its lists.
use mathlib.Core.List.{List}
use Prim.Native.Nat.{ℕ, ◌*◌}
use lib.ListN.{length}
use Rattle.base_lists.specs.Pieces.{Written}
use Rattle.base_lists.proofs.Puts.{written_then}
use Rattle.book_bytes.specs.Bytes.{le, words}
use Rattle.book_pieces.specs.Code.{head_bytes, list_bytes, list_long}

-- ---- the numbers of a body
pub head_put : (d0 d1 d2 d3 d4 d5 d6 d7 : List ℕ) (p g h a b c t x0 x1 x2 x3 x4 x5 r : ℕ)
    → Written d0 0 (le 2 p) 2 x0 d1 → Written d1 x0 (le 2 g) 2 x1 d2 → Written d2 x1 (le 2 h) 2 x2 d3 → Written d3 x2 (le 2 a) 2 x3 d4 → Written d4 x3 (le 2 b) 2 x4 d5
    → Written d5 x4 (le 2 c) 2 x5 d6 → Written d6 x5 (le 4 t) 4 r d7 → Written d0 0 (head_bytes p g h a b c t) 16 r d7
unfolding head_bytes
head_put d0 d1 d2 d3 d4 d5 d6 d7 p g h a b c t x0 x1 x2 x3 x4 x5 r q0 q1 q2 q3 q4 q5 q6 =
    let s1 = written_then d0 0 _ 2 x0 d1 (le 2 g) 2 x1 d2 q0 q1 in
    let s2 = written_then d0 0 _ 4 x1 d2 (le 2 h) 2 x2 d3 s1 q2 in
    let s3 = written_then d0 0 _ 6 x2 d3 (le 2 a) 2 x3 d4 s2 q3 in
    let s4 = written_then d0 0 _ 8 x3 d4 (le 2 b) 2 x4 d5 s3 q4 in
    let s5 = written_then d0 0 _ 10 x4 d5 (le 2 c) 2 x5 d6 s4 q5 in
    written_then d0 0 _ 12 x5 d6 (le 4 t) 4 r d7 s5 q6

-- ---- the lists of a body
abbrev pub PutLists : List ℕ → ℕ → List ℕ → List ℕ → List ℕ → List ℕ → List ℕ → ℕ → List ℕ → Type 0
PutLists d at g h a b c r d' = Written d at (list_bytes g h a b c) (list_long g h a b c) r d'

pub lists_put : (d0 d1 d2 d3 d4 d5 : List ℕ) (at : ℕ) (g h a b c : List ℕ) (x0 x1 x2 x3 r : ℕ)
    → Written d0 at (words g) (2 * length g) x0 d1 → Written d1 x0 (words h) (2 * length h) x1 d2 → Written d2 x1 (words a) (2 * length a) x2 d3
    → Written d3 x2 (words b) (2 * length b) x3 d4 → Written d4 x3 (words c) (2 * length c) r d5 → PutLists d0 at g h a b c r d5
unfolding list_bytes
lists_put d0 d1 d2 d3 d4 d5 at g h a b c x0 x1 x2 x3 r q0 q1 q2 q3 q4 =
    let s1 = written_then d0 at _ _ x0 d1 (words h) _ x1 d2 q0 q1 in
    let s2 = written_then d0 at _ _ x1 d2 (words a) _ x2 d3 s1 q2 in
    let s3 = written_then d0 at _ _ x2 d3 (words b) _ x3 d4 s2 q3 in
    written_then d0 at _ _ x3 d4 (words c) _ r d5 s3 q4
