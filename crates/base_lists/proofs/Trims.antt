-- A list without the zeros at its end.
--   last_here, all_zeros   the size where the last number that is not 0 was found, and where there is none
--   sized         every list has a size
--   trim_size     the trimmed list is the front of the list, as long as its size
--   trim_length, trim_last   so long it is, and its last number is not 0
use mathlib.Core.Path.{◌≡◌, refl, sym, ap, ap₂, ◌∙◌}
use mathlib.Core.Logic.{◌≢◌}
use mathlib.Core.List.{List, [], ◌∷◌}
use Prim.Native.Nat.{ℕ, zero, suc, ◌+◌, ◌-◌, ◌≤◌, ◌<◌}
use native.Mathlib.Omega.{arith}
use native.Mathlib.Decide.{ℕ_discrete, dec_lt}
use lib.ListN.{length, get_or, take, get_or-eq_default}
use lib.Seq.{take-nil, get_or-take, length-take-le}
use Rattle.base_lists.specs.Coefficients.{Size, ahead, trim}

pub last_here : (l : List ℕ) (k : ℕ) → k < length l → get_or l k 0 ≢ 0 → ((i : ℕ) → k < i → i < length l → get_or l i 0 ≡ 0) → Size l (k + 1)
last_here l k b t h = record {
  fits = omega arith;
  above = λ i u. elim (dec_lt i (length l)) [ yes v ↦ h i (omega arith) v | no v ↦ get_or-eq_default l 0 {n = i} (omega arith) ];
  top = λ u e. t (ap (λ j. get_or l j 0) (let o : k ≡ k + 1 - 1 = omega arith in o) ∙ e);
}

pub all_zeros : (l : List ℕ) → ((i : ℕ) → i < length l → get_or l i 0 ≡ 0) → Size l 0
all_zeros l h = record {
  fits = omega arith;
  above = λ i u. elim (dec_lt i (length l)) [ yes v ↦ h i v | no v ↦ get_or-eq_default l 0 {n = i} (omega arith) ];
  top = λ u. absurd (omega arith);
}

pub sized : (l : List ℕ) → (n : ℕ) × Size l n
sized l = down (length l) (omega arith) (λ i h. get_or-eq_default l 0 {n = i} h)
  where
    down : (n : ℕ) → n ≤ length l → ((i : ℕ) → n ≤ i → get_or l i 0 ≡ 0) → (n : ℕ) × Size l n
    down zero b h = (0, record { fits = b; above = h; top = λ z. absurd (omega arith) })
    down (suc n) b h = go (ℕ_discrete (get_or l n 0) 0) (down n (omega arith))
      where
        go : Dec (get_or l n 0 ≡ 0) → (((i : ℕ) → n ≤ i → get_or l i 0 ≡ 0) → (n : ℕ) × Size l n) → (n : ℕ) × Size l n
        go (yes z) k = k (λ i u. at i u (ℕ_discrete i n))
          where
            at : (i : ℕ) → n ≤ i → Dec (i ≡ n) → get_or l i 0 ≡ 0
            at i u (yes q) = ap (λ m. get_or l m 0) q ∙ z
            at i u (no q) = h i (omega arith)
        go (no z) k = (suc n, record { fits = b; above = h; top = λ q. λ w. z (ap (λ m. get_or l m 0) (let o : n ≡ suc n - 1 = omega arith in o) ∙ w) })

-- ---- trimming, number by number
ahead_top : (x : ℕ) (l : List ℕ) → x ≢ 0 → ahead x l ≡ x ∷ l
ahead_top zero l h = absurd (h refl)
ahead_top (suc x) l h = refl

ahead_more : (x y : ℕ) (l : List ℕ) → ahead x (y ∷ l) ≡ x ∷ y ∷ l
ahead_more zero y l = refl
ahead_more (suc x) y l = refl

size_none : {x : ℕ} {l : List ℕ} → Size (x ∷ l) 0 → Size l 0
size_none s = record { fits = omega arith; above = λ i u. s.above (suc i) (omega arith); top = λ u. absurd (omega arith) }

size_tail : {x : ℕ} {l : List ℕ} (m : ℕ) → Size (x ∷ l) (suc m) → Size l m
size_tail {x} {l} m s = record {
  fits = (let h : suc m ≤ suc (length l) = s.fits in omega arith);
  above = λ i u. s.above (suc i) (omega arith);
  top = top m s;
}
  where
    top : (m : ℕ) → Size (x ∷ l) (suc m) → 0 < m → get_or l (m - 1) 0 ≢ 0
    top zero s u = absurd (omega arith)
    top (suc k) s u = λ (e : get_or l (suc k - 1) 0 ≡ 0).
        s.top (omega arith) (ap (λ (n : ℕ). get_or (x ∷ l) n 0) (let o : suc (suc k) - 1 ≡ suc (suc k - 1) = omega arith in o) ∙ e)

size_step : (x : ℕ) (l : List ℕ) (m : ℕ) → Size (x ∷ l) (suc m) → ahead x (take m l) ≡ x ∷ take m l
size_step x l zero s = ahead_top x [] (s.top (omega arith))
size_step x [] (suc k) s = absurd (let h : suc (suc k) ≤ 1 = s.fits in omega arith)
size_step x (y ∷ l) (suc k) s = ahead_more x y (take k l)

pub trim_size : (l : List ℕ) (n : ℕ) → Size l n → trim l ≡ take n l
trim_size [] n s = sym (take-nil n)
trim_size (x ∷ l) zero s = ap₂ ahead (s.above 0 (omega arith)) (trim_size l zero (size_none s))
trim_size (x ∷ l) (suc m) s = ap (ahead x) (trim_size l m (size_tail m s)) ∙ size_step x l m s

-- ---- what trimming keeps
pub trim_length : (l : List ℕ) (n : ℕ) → Size l n → length (trim l) ≡ n
trim_length l n s = ap length (trim_size l n s) ∙ length-take-le n l s.fits

pub trim_last : (l : List ℕ) → 0 < length (trim l) → get_or (trim l) (length (trim l) - 1) 0 ≢ 0
trim_last l h e =
    let (n, s) = sized l in
    let q : trim l ≡ take n l = trim_size l n s in
    let w : length (trim l) ≡ n = trim_length l n s in
    s.top (omega arith)
    (sym (get_or-take n l (n - 1) 0 (omega arith)) ∙ ap (λ z. get_or z (n - 1) 0) (sym q) ∙ ap (λ k. get_or (trim l) (k - 1) 0) (sym w) ∙ e)
