-- Pieces of a list.
--   piece_length, piece_at   how long a piece is, and what stands in it
--   piece_cut                inside the list a piece and a cut are the same
--   between_length, between_cut   the same for the numbers between two places
--   cut_same                 a cut is settled by its numbers
--   drop_take                what is behind a front's first numbers
--   three, six               what holds in three rows of c numbers, and in six, holds of all their numbers
use mathlib.Core.Path.{◌≡◌, refl, sym, ap, ◌∙◌, subst}
use mathlib.Core.List.{List, [], ◌∷◌}
use Prim.Native.Nat.{ℕ, zero, suc, ◌+◌, ◌*◌, ◌-◌, ◌<◌, ◌≤◌}
use native.Mathlib.Omega.{arith}
use native.Mathlib.Decide.{dec_lt}
use lib.ListN.{length, get_or, take, drop, length-drop}
use lib.Seq.{ext_get_or, get_or-take, get_or-drop, length-take-le, take-nil}
use Rattle.base_lists.specs.Pieces.{piece, between, cut}
use Rattle.base_lists.proofs.Tabs.{length_tab, at_tab}

pub piece_length : (at n : ℕ) (l : List ℕ) → at + n ≤ length l → length (piece at n l) ≡ n
piece_length at n l h = length-take-le n (drop at l) (let e : length (drop at l) ≡ length l - at = length-drop at l in omega arith)

pub piece_at : (at n : ℕ) (l : List ℕ) (i : ℕ) → i < n → get_or (piece at n l) i 0 ≡ get_or l (at + i) 0
piece_at at n l i h = get_or-take n (drop at l) i 0 h ∙ get_or-drop at l i 0

pub length_cut : (at n : ℕ) (l : List ℕ) → length (cut at n l) ≡ n
length_cut at n l = length_tab n (λ i. get_or l (at + i) 0)

pub cut_at : (at n : ℕ) (l : List ℕ) (i : ℕ) → i < n → get_or (cut at n l) i 0 ≡ get_or l (at + i) 0
cut_at at n l i h = at_tab n (λ i. get_or l (at + i) 0) i h

pub piece_cut : (at n : ℕ) (l : List ℕ) → at + n ≤ length l → piece at n l ≡ cut at n l
piece_cut at n l h =
    let s : length (piece at n l) ≡ n = piece_length at n l h in
    ext_get_or 0 (piece at n l) (cut at n l) (s ∙ sym (length_cut at n l))
    (λ i u. let v : i < n = omega arith in piece_at at n l i v ∙ sym (cut_at at n l i v))

pub between_length : (f t : ℕ) (l : List ℕ) → f ≤ t → t ≤ length l → length (between f t l) ≡ t - f
between_length f t l a b = piece_length f (t - f) l (omega arith)

pub between_cut : (f t : ℕ) (l : List ℕ) → f ≤ t → t ≤ length l → between f t l ≡ cut f (t - f) l
between_cut f t l a b = piece_cut f (t - f) l (omega arith)

pub cut_same : (at n : ℕ) (s z : List ℕ) → ((i : ℕ) → i < n → get_or s (at + i) 0 ≡ get_or z (at + i) 0) → cut at n s ≡ cut at n z
cut_same at n s z h =
    let e : length (cut at n s) ≡ n = length_cut at n s in
    ext_get_or 0 (cut at n s) (cut at n z) (e ∙ sym (length_cut at n z))
    (λ i u. let v : i < n = omega arith in cut_at at n s i v ∙ h i v ∙ sym (cut_at at n z i v))

pub drop_take : (m n : ℕ) (d : List ℕ) → drop m (take n d) ≡ piece m (n - m) d
drop_take zero n d = ap (λ (k : ℕ). take k d) (let e : n ≡ n - 0 = omega arith in e)
drop_take (suc m) zero d = let e : 0 - suc m ≡ 0 = omega arith in rw e refl
drop_take (suc m) (suc n) [] = let e : suc n - suc m ≡ n - m = omega arith in rw e (sym (take-nil (n - m)))
drop_take (suc m) (suc n) (x ∷ d) = let e : suc n - suc m ≡ n - m = omega arith in rw e (drop_take m n d)

-- ---- rows of c numbers one after another: what holds at three rows holds from the first to the last; so at six
pub three : (c at : ℕ) (P : ℕ → Type 0) → ((i : ℕ) → i < c → P (at + i)) → ((i : ℕ) → i < c → P (at + c + i)) → ((i : ℕ) → i < c → P (at + c + c + i))
    → (i : ℕ) → at ≤ i → i < at + c + c + c → P i
three c at P a b d i u v = elim (dec_lt i (at + c)) [
  | yes k ↦ subst P (let o : at + (i - at) ≡ i = omega arith in o) (a (i - at) (omega arith))
  | no k ↦ elim (dec_lt i (at + c + c)) [
    | yes m ↦ subst P (let o : at + c + (i - (at + c)) ≡ i = omega arith in o) (b (i - (at + c)) (omega arith))
    | no m ↦ subst P (let o : at + c + c + (i - (at + c + c)) ≡ i = omega arith in o) (d (i - (at + c + c)) (omega arith))
  ]
]

pub six : (c : ℕ) (P : ℕ → Type 0) → ((i : ℕ) → 0 ≤ i → i < 0 + c + c + c → P i) → ((i : ℕ) → c + c + c ≤ i → i < c + c + c + c + c + c → P i) → (i : ℕ) → i < 6 * c → P i
six c P a b i u = elim (dec_lt i (c + c + c)) [ yes k ↦ a i (omega arith) (omega arith) | no k ↦ b i (omega arith) (omega arith) ]
