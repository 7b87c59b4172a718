-- The number that digits stand for.
--   value_last                 the value of digits by their last
--   value_small, value_bound   4 digits stand for a number below 10,000, 5 for one below 100,000
--   value_text                 the digits of n stand for n
use mathlib.Core.Path.{◌≡◌, refl, ap, ◌∙◌}
use mathlib.Core.List.{List, [], ◌∷◌, ◌++◌}
use Prim.Native.Nat.{ℕ, zero, suc, ◌+◌, ◌-◌, ◌*◌, ◌/◌, ◌%◌, ◌^◌, ◌≤◌, ◌<◌}
use native.Mathlib.Nat.{pow-suc, mul-le-mul_right}
use native.Mathlib.Decide.{dec_le}
use native.Mathlib.Omega.{arith}
use lib.Dec.{lit≤}
use lib.ListN.{length, get_or}
use Rattle.text_put.specs.Print.{number_text}
use Rattle.text_put.proofs.Digits.{text_small, text_more}
use Rattle.text_number.specs.Grammar.{Digit, value, value_from}

last_from : (v : ℕ) (s : List ℕ) (b : ℕ) → value_from v (s ++ b ∷ []) ≡ value_from v s * 10 + (b - 48)
unfolding value_from
last_from v [] b = refl
last_from v (x ∷ s) b = last_from (v * 10 + (x - 48)) s b

pub value_last : (s : List ℕ) (b : ℕ) → value (s ++ b ∷ []) ≡ value s * 10 + (b - 48)
value_last s b = last_from 0 s b

-- ---- how large
from_bound : (v : ℕ) (s : List ℕ) → ((k : ℕ) → k < length s → Digit (get_or s k 0)) → value_from v s < (v + 1) * 10 ^ length s
unfolding value_from
from_bound v [] d = omega arith
from_bound v (b ∷ s) d =
    let h : value_from (v * 10 + (b - 48)) s < (v * 10 + (b - 48) + 1) * 10 ^ length s = from_bound (v * 10 + (b - 48)) s (λ k l. d (suc k) (omega arith)) in
    let e : 48 ≤ b = (d 0 (omega arith)).0 in
    let f : b ≤ 57 = (d 0 (omega arith)).1 in
    let g : v * 10 + (b - 48) + 1 ≤ (v + 1) * 10 = omega arith in
    let m : (v * 10 + (b - 48) + 1) * 10 ^ length s ≤ (v + 1) * 10 * 10 ^ length s = mul-le-mul_right (10 ^ length s) g in
    let p : 10 ^ suc (length s) ≡ 10 ^ length s * 10 = pow-suc 10 (length s) in
    let q : (v + 1) * 10 ^ suc (length s) ≡ (v + 1) * (10 ^ length s * 10) = ap (λ (z : ℕ). (v + 1) * z) p in
    omega arith

ten_small : (k : ℕ) → k ≤ 4 → 10 ^ k ≤ 10000
ten_small zero h = lit≤ tt
ten_small (suc zero) h = lit≤ tt
ten_small (suc (suc zero)) h = lit≤ tt
ten_small (suc (suc (suc zero))) h = lit≤ tt
ten_small (suc (suc (suc (suc zero)))) h = lit≤ tt
ten_small (suc (suc (suc (suc (suc k))))) h = absurd (omega arith)

pub value_small : (s : List ℕ) → length s ≤ 4 → ((k : ℕ) → k < length s → Digit (get_or s k 0)) → value s < 10000
value_small s h d =
    let a : value s < (0 + 1) * 10 ^ length s = from_bound 0 s d in
    let b : 10 ^ length s ≤ 10000 = ten_small (length s) h in
    omega arith

ten_large : (k : ℕ) → k ≤ 5 → 10 ^ k ≤ 100000
ten_large zero h = lit≤ tt
ten_large (suc k) h =
    let p : 10 ^ suc k ≡ 10 ^ k * 10 = pow-suc 10 k in
    let q : 10 ^ k ≤ 10000 = ten_small k (omega arith) in
    omega arith

pub value_bound : (s : List ℕ) → length s ≤ 5 → ((k : ℕ) → k < length s → Digit (get_or s k 0)) → value s < 100000
value_bound s h d =
    let a : value s < (0 + 1) * 10 ^ length s = from_bound 0 s d in
    let b : 10 ^ length s ≤ 100000 = ten_large (length s) h in
    omega arith

-- ---- what number_text says
value_lt : (n : ℕ) → n < 10 → value (number_text n) ≡ n
unfolding value_from
value_lt n h = ap value (text_small n h) ∙ (let e : 0 * 10 + (48 + n % 10 - 48) ≡ n = omega arith in e)

value_ge : (n : ℕ) → 10 ≤ n → value (number_text (n / 10)) ≡ n / 10 → value (number_text n) ≡ n
value_ge n h e =
    ap value (text_more n h) ∙ value_last (number_text (n / 10)) (48 + n % 10)
    ∙ (let q : value (number_text (n / 10)) * 10 + (48 + n % 10 - 48) ≡ n = omega arith in q)

value_to : (f n : ℕ) → n ≤ f → value (number_text n) ≡ n
value_to zero n h = value_lt n (omega arith)
value_to (suc f) n h = elim (dec_le 10 n) [ yes p ↦ value_ge n p (value_to f (n / 10) (omega arith)) | no p ↦ value_lt n (omega arith) ]

pub value_text : (n : ℕ) → value (number_text n) ≡ n
value_text n = value_to n n (omega arith)
