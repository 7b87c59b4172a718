-- A slice in which a piece was written: what stands before the piece, and what stands after it.
use mathlib.Core.Path.{◌≡◌, sym, ap, ap₂, ◌∙◌}
use mathlib.Core.List.{List, ◌++◌, append_assoc}
use Prim.Native.Nat.{ℕ, ◌+◌, ◌*◌, ◌≤◌}
use native.Mathlib.Omega.{arith}
use lib.ListN.{length, get_or, take, drop, length-append}
use lib.Seq.{sets, length-sets, length-take-le, drop_at, take_at, drop-drop, sets-eq}
use Rattle.book_bytes.specs.Bytes.{u2, u4}
use Rattle.book_bytes.proofs.Read.{val2, val4}
use Rattle.base_lists.proofs.Puts.{put_before, take_put}

pub u4_below : (d : List ℕ) (j k : ℕ) (x : List ℕ) → k + 4 ≤ j → u4 (sets d j x) k ≡ u4 d k
u4_below d j k x h =
    let a0 : get_or (sets d j x) k 0 ≡ get_or d k 0 = put_before d j k x (omega arith) in
    let a1 : get_or (sets d j x) (k + 1) 0 ≡ get_or d (k + 1) 0 = put_before d j (k + 1) x (omega arith) in
    let a2 : get_or (sets d j x) (k + 2) 0 ≡ get_or d (k + 2) 0 = put_before d j (k + 2) x (omega arith) in
    let a3 : get_or (sets d j x) (k + 2 + 1) 0 ≡ get_or d (k + 2 + 1) 0 = put_before d j (k + 2 + 1) x (omega arith) in
    let l : u4 (sets d j x) k ≡ u2 (sets d j x) k + 65536 * u2 (sets d j x) (k + 2) = val4 (sets d j x) k in
    let m : u4 d k ≡ u2 d k + 65536 * u2 d (k + 2) = val4 d k in
    let l0 : u2 (sets d j x) k ≡ get_or (sets d j x) k 0 + 256 * get_or (sets d j x) (k + 1) 0 = val2 (sets d j x) k in
    let l2 : u2 (sets d j x) (k + 2) ≡ get_or (sets d j x) (k + 2) 0 + 256 * get_or (sets d j x) (k + 2 + 1) 0 = val2 (sets d j x) (k + 2) in
    let m0 : u2 d k ≡ get_or d k 0 + 256 * get_or d (k + 1) 0 = val2 d k in
    let m2 : u2 d (k + 2) ≡ get_or d (k + 2) 0 + 256 * get_or d (k + 2 + 1) 0 = val2 d (k + 2) in
    omega arith

-- a piece, then what was moved up behind it, then a piece at the end of that
pub three_pieces : (d X B b : List ℕ) (a n : ℕ) → 4 + length X ≡ a → a + length B ≡ n → n + length b ≤ length d
    → sets (sets (sets d a B) 4 X) n b ≡ (take 4 d ++ ((X ++ B) ++ b)) ++ drop (n + length b) d
three_pieces d X B b a n ex eb h =
    let d1 : List ℕ = sets d a B in
    let d5 : List ℕ = sets d1 4 X in
    let l1 : length d1 ≡ length d = length-sets d a B in
    let l5 : length d5 ≡ length d1 = length-sets d1 4 X in
    let e1 : drop a d1 ≡ B ++ drop n d =
    ap (drop a) (sets-eq B d a (omega arith) ∙ append_assoc (take a d) B (drop (a + length B) d))
    ∙ drop_at (take a d) (B ++ drop (a + length B) d) a (length-take-le a d (omega arith))
    ∙ ap (λ (k : ℕ). B ++ drop k d) eb in
    let f : List ℕ = take 4 d ++ (X ++ B) in
    let e5 : d5 ≡ f ++ drop n d =
    sets-eq X d1 4 (omega arith)
    ∙ ap₂ (λ (u v : List ℕ). (u ++ X) ++ v) (take_put d a 4 B (omega arith)) (ap (λ (k : ℕ). drop k d1) ex ∙ e1)
    ∙ sym (append_assoc (take 4 d ++ X) B (drop n d))
    ∙ ap (λ (u : List ℕ). u ++ drop n d) (append_assoc (take 4 d) X B) in
    let t4 : length (take 4 d) ≡ 4 = length-take-le 4 d (omega arith) in
    let lf : length f ≡ length (take 4 d) + length (X ++ B) = length-append (take 4 d) (X ++ B) in
    let lx : length (X ++ B) ≡ length X + length B = length-append X B in
    let q : length f ≡ n = omega arith in
    sets-eq b d5 n (omega arith)
    ∙ ap₂ (λ (u v : List ℕ). (u ++ b) ++ v)
    (ap (take n) e5 ∙ take_at f (drop n d) n q)
    (sym (drop-drop (length b) n d5) ∙ ap (drop (length b)) (ap (drop n) e5 ∙ drop_at f (drop n d) n q) ∙ drop-drop (length b) n d)
    ∙ ap (λ (u : List ℕ). u ++ drop (n + length b) d) (append_assoc (take 4 d) (X ++ B) b)
