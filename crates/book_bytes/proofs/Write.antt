-- Numbers and lists written into a slice, and bytes moved within one.
--   two_bytes, four_bytes, bytes_put   a number in 2 and in 4 bytes
--   list_none, list_more               a list, number by number
--   pasted, lifted                     bytes put over others, or moved up within the slice
use mathlib.Core.Path.{◌≡◌, refl, sym, ap, ap₂, ◌∙◌, subst}
use mathlib.Core.List.{List, [], ◌∷◌, ◌++◌, append_assoc}
use Prim.Native.Nat.{ℕ, ◌+◌, ◌-◌, ◌*◌, ◌<◌, ◌≤◌}
use native.Mathlib.Numerals.{add-one}
use native.Mathlib.Omega.{arith}
use lib.ListN.{length, get_or, take, drop, length-drop}
use lib.Seq.{sets, sets-eq, length-sets, take-suc, length-take-le}
use Rattle.std.specs.Int.{to_le_bytes}
use mir.Syntax.{w16, w32}
use Rattle.base_lists.specs.Pieces.{Written}
use Rattle.base_lists.proofs.Puts.{written_then}
use Rattle.book_bytes.specs.Bytes.{le, words}

pub two_bytes : (v : ℕ) → to_le_bytes w16 v ≡ le 2 v
unfolding le
two_bytes v = ap₂ (λ (x y : ℕ). x ∷ y ∷ []) (omega arith) (omega arith)

pub four_bytes : (v : ℕ) → to_le_bytes w32 v ≡ le 4 v
unfolding le
four_bytes v =
    ap₂ (λ (x : ℕ) (l : List ℕ). x ∷ l) (omega arith)
    (ap₂ (λ (x : ℕ) (l : List ℕ). x ∷ l) (omega arith) (ap₂ (λ (x y : ℕ). x ∷ y ∷ []) (omega arith) (omega arith)))

pub bytes_put : {d : List ℕ} {at : ℕ} {x y : List ℕ} {k r : ℕ} {d' : List ℕ} → x ≡ y → length y ≡ k → Written d at x (length x) r d' → Written d at y k r d'
bytes_put {d} {at} {x} {y} {k} {r} {d'} e l w =
    subst (λ (n : ℕ). Written d at y n r d') l (subst (λ (z : List ℕ). Written d at z (length z) r d') e w)

words_append : (x y : List ℕ) → words (x ++ y) ≡ words x ++ words y
unfolding words
words_append [] y = refl
words_append (a ∷ x) y = ap (λ (z : List ℕ). le 2 a ++ z) (words_append x y) ∙ sym (append_assoc (le 2 a) (words x) (words y))

words_one : (a : ℕ) → words (a ∷ []) ≡ le 2 a
unfolding words le
words_one a = refl

pub list_none : (d : List ℕ) (at : ℕ) (l : List ℕ) → Written d at (words (take 0 l)) (2 * 0) at d
unfolding words
list_none d at l = record { next = (let e : at ≡ at + 0 = omega arith in e); size = refl; done = refl; same = refl }

pub list_more : (d : List ℕ) (at : ℕ) (l : List ℕ) (i o : ℕ) (d' : List ℕ) (q : ℕ) (e : List ℕ) → i < length l
    → Written d at (words (take i l)) (2 * i) o d' → Written d' o (le 2 (get_or l i 0)) 2 q e → Written d at (words (take (i + 1) l)) (2 * (i + 1)) q e
list_more d at l i o d' q e h a b =
    let w : words (take i l) ++ le 2 (get_or l i 0) ≡ words (take (i + 1) l) =
    ap (λ (z : List ℕ). words (take i l) ++ z) (sym (words_one (get_or l i 0))) ∙ sym (words_append (take i l) (get_or l i 0 ∷ []))
    ∙ ap words (sym (take-suc l i 0 h)) ∙ ap (λ (k : ℕ). words (take k l)) (sym (add-one i)) in
    let n : 2 * i + 2 ≡ 2 * (i + 1) = omega arith in
    subst (λ (k : ℕ). Written d at (words (take (i + 1) l)) k q e) n
    (subst (λ (x : List ℕ). Written d at x (2 * i + 2) q e) w (written_then d at (words (take i l)) (2 * i) o d' (le 2 (get_or l i 0)) 2 q e a b))

-- ---- bytes moved at once
pub pasted : (d x : List ℕ) (at k r : ℕ) (d' : List ℕ) → at + k ≤ length d → length x ≡ k → r ≡ at + k → d' ≡ (take at d ++ x) ++ drop (at + k) d
    → Written d at x k r d'
pasted d x at k r d' l e n q =
    let done : d' ≡ sets d at x = q ∙ ap (λ (z : ℕ). (take at d ++ x) ++ drop (at + z) d) (sym e) ∙ sym (sets-eq x d at (omega arith)) in
    record { next = n; size = e; done = done; same = ap length done ∙ length-sets d at x }

pub lifted : (d : List ℕ) (from to by : ℕ) (d' : List ℕ) → from ≤ to → to + by ≤ length d
    → d' ≡ (take (from + by) d ++ take (to - from) (drop from d)) ++ drop ((from + by) + (to - from)) d
    → Written d (from + by) (take (to - from) (drop from d)) (to - from) (to + by) d'
lifted d from to by d' l m e =
    let n : length (drop from d) ≡ length d - from = length-drop from d in
    pasted d (take (to - from) (drop from d)) (from + by) (to - from) (to + by) d' (omega arith)
    (length-take-le (to - from) (drop from d) (omega arith)) (omega arith) e
