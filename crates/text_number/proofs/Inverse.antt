-- Numbers: reading and printing are each other's inverse.
--   text_numeral    the digits of a number below 100,000 are a numeral
--   numeral_text    a numeral is the digits of what it stands for
--   text_number     the digits of a number below 100,000 read as that number
--   number_is_text  a text that reads as a number is the digits of that number
--   number_below    what reads as a number is below 100,000
use mathlib.Core.Path.{◌≡◌, sym, ap, ◌∙◌, subst}
use mathlib.Core.Logic.{◌≢◌}
use mathlib.Core.List.{List, [], ◌∷◌, ◌++◌}
use Prim.Native.Nat.{ℕ, zero, suc, ◌+◌, ◌-◌, ◌*◌, ◌/◌, ◌%◌, ◌^◌, ◌≤◌, ◌<◌}
use native.Mathlib.Nat.{pow-suc}
use native.Mathlib.Decide.{dec_le}
use native.Mathlib.Omega.{arith}
use lib.ListN.{length, get_or, take, length-append, get_or-append}
use lib.Seq.{take-suc, take-length, get_or-take, get_or_at, length-take-le}
use Rattle.text_put.specs.Print.{number_text}
use Rattle.text_put.proofs.Digits.{text_small, text_more}
use Rattle.text_number.specs.Grammar.{Digit, value, value_from, Numeral, Number}
use Rattle.text_number.proofs.Values.{value_last, value_text, value_bound}

abbrev Digits : List ℕ → Type 0
Digits s = (k : ℕ) → k < length s → Digit (get_or s k 0)

-- ---- the digits of a number
record Decimal (n : ℕ) (s : List ℕ) : Type 0 where
  some : 1 ≤ length s
  digits : Digits s
  front : 0 < n → get_or s 0 0 ≢ 48

one_digit : (b : ℕ) → Digit b → Digits (b ∷ [])
one_digit b d zero h = d
one_digit b d (suc k) h = absurd (omega arith)

more_digits : (s : List ℕ) (b : ℕ) → Digits s → Digit b → Digits (s ++ b ∷ [])
more_digits s b ds d k h = elim (dec_le (suc k) (length s)) [ yes p ↦ inside p | no p ↦ last p ]
  where
    long : length (s ++ b ∷ []) ≡ length s + 1
    long = length-append s (b ∷ [])

    inside : k < length s → Digit (get_or (s ++ b ∷ []) k 0)
    inside p = subst Digit (sym (get_or-append s (b ∷ []) 0 k p)) (ds k p)

    last : ¬ (k < length s) → Digit (get_or (s ++ b ∷ []) k 0)
    last p =
        let l : length (s ++ b ∷ []) ≡ length s + 1 = long in
        let e : length s ≡ k = omega arith in
        subst Digit (sym (get_or_at s b [] 0 k e)) d

decimal_small : (n : ℕ) → n < 10 → Decimal n (number_text n)
decimal_small n h =
    subst (Decimal n) (sym (text_small n h))
    record { some = omega arith; digits = one_digit (48 + n % 10) (omega arith, omega arith); front = λ p e. (let q : 48 + n % 10 ≡ 48 = e in omega arith) }

decimal_more : (n : ℕ) → 10 ≤ n → Decimal (n / 10) (number_text (n / 10)) → Decimal n (number_text n)
decimal_more n h a =
    let x : 1 ≤ length (number_text (n / 10)) = a.some in
    subst (Decimal n) (sym (text_more n h))
    record {
      some = (let l : length (number_text (n / 10) ++ (48 + n % 10) ∷ []) ≡ length (number_text (n / 10)) + 1 = length-append (number_text (n / 10)) ((48 + n % 10) ∷ []) in omega arith);
      digits = more_digits (number_text (n / 10)) (48 + n % 10) a.digits (omega arith, omega arith);
      front = λ p e. a.front (omega arith) (sym (get_or-append (number_text (n / 10)) ((48 + n % 10) ∷ []) 0 0 x) ∙ e);
    }

decimal_to : (f n : ℕ) → n ≤ f → Decimal n (number_text n)
decimal_to zero n h = decimal_small n (omega arith)
decimal_to (suc f) n h = elim (dec_le 10 n) [ yes p ↦ decimal_more n p (decimal_to f (n / 10) (omega arith)) | no p ↦ decimal_small n (omega arith) ]

decimal : (n : ℕ) → Decimal n (number_text n)
decimal n = decimal_to n n (omega arith)

text_size : (k n : ℕ) → n < 10 * 10 ^ k → length (number_text n) ≤ suc k
text_size zero n h = let e : length (number_text n) ≡ 1 = ap length (text_small n (omega arith)) in omega arith
text_size (suc k) n h = elim (dec_le 10 n) [ yes p ↦ more p (text_size k (n / 10) (small p)) | no p ↦ few p ]
  where
    small : 10 ≤ n → n / 10 < 10 * 10 ^ k
    small p = let e : 10 ^ suc k ≡ 10 ^ k * 10 = pow-suc 10 k in omega arith

    more : 10 ≤ n → length (number_text (n / 10)) ≤ suc k → length (number_text n) ≤ suc (suc k)
    more p q =
        let e : length (number_text n) ≡ length (number_text (n / 10) ++ (48 + n % 10) ∷ []) = ap length (text_more n p) in
        let l : length (number_text (n / 10) ++ (48 + n % 10) ∷ []) ≡ length (number_text (n / 10)) + 1 = length-append (number_text (n / 10)) ((48 + n % 10) ∷ []) in
        omega arith

    few : ¬ (10 ≤ n) → length (number_text n) ≤ suc (suc k)
    few p = let e : length (number_text n) ≡ 1 = ap length (text_small n (omega arith)) in omega arith

text_plain : (n : ℕ) → 1 < length (number_text n) → get_or (number_text n) 0 0 ≢ 48
text_plain zero h = absurd (let e : length (number_text 0) ≡ 1 = ap length (text_small 0 (omega arith)) in omega arith)
text_plain (suc n) h = (decimal (suc n)).front (omega arith)

pub text_numeral : (n : ℕ) → n < 100000 → Numeral (number_text n)
text_numeral n h = record { some = (decimal n).some; few = text_size 4 n h; digits = (decimal n).digits; plain = text_plain n }

pub text_number : (n : ℕ) → n < 100000 → Number (number_text n) n
text_number n h = record { numeral = text_numeral n h; means = sym (value_text n) }

-- ---- a numeral is the digits of its value
from_least : (v : ℕ) (s : List ℕ) → v ≤ value_from v s
unfolding value_from
from_least v [] = omega arith
from_least v (b ∷ s) = let h : v * 10 + (b - 48) ≤ value_from (v * 10 + (b - 48)) s = from_least (v * 10 + (b - 48)) s in omega arith

value_positive : (s : List ℕ) → 1 ≤ length s → Digits s → get_or s 0 0 ≢ 48 → 0 < value s
unfolding value_from
value_positive [] h d e = absurd (omega arith)
value_positive (b ∷ s) h d e =
    let l : 48 ≤ b = (d 0 (omega arith)).0 in
    let g : b ≢ 48 = e in
    let m : 0 * 10 + (b - 48) ≤ value_from (0 * 10 + (b - 48)) s = from_least (0 * 10 + (b - 48)) s in
    omega arith

single : (s : List ℕ) → length s ≡ 1 → Digits s → s ≡ number_text (value s)
unfolding value_from
single [] l d = absurd (omega arith)
single (b ∷ []) l d =
    let u : 48 ≤ b = (d 0 (omega arith)).0 in
    let v : b ≤ 57 = (d 0 (omega arith)).1 in
    let e : 48 + (0 * 10 + (b - 48)) % 10 ≡ b = omega arith in
    ap (λ (x : ℕ). x ∷ []) (sym e) ∙ sym (text_small (0 * 10 + (b - 48)) (omega arith))
single (b ∷ x ∷ s) l d = absurd (omega arith)

last_of : (s : List ℕ) (k : ℕ) → length s ≡ suc k → s ≡ take k s ++ get_or s k 0 ∷ []
last_of s k l = sym (take-length s) ∙ ap (λ (j : ℕ). take j s) l ∙ take-suc s k 0 (omega arith)

-- t followed by a digit b
by_last : (t : List ℕ) (b : ℕ) → 0 < value t → Digit b → t ≡ number_text (value t) → t ++ b ∷ [] ≡ number_text (value (t ++ b ∷ []))
by_last t b p d e =
    let u : 48 ≤ b = d.0 in
    let v : b ≤ 57 = d.1 in
    let w : value (t ++ b ∷ []) ≡ value t * 10 + (b - 48) = value_last t b in
    let x : (value (t ++ b ∷ [])) / 10 ≡ value t = omega arith in
    let y : 48 + (value (t ++ b ∷ [])) % 10 ≡ b = omega arith in
    ap (λ (z : List ℕ). z ++ b ∷ []) (e ∙ ap number_text (sym x))
    ∙ ap (λ (z : ℕ). number_text (value (t ++ b ∷ []) / 10) ++ z ∷ []) (sym y)
    ∙ sym (text_more (value (t ++ b ∷ [])) (omega arith))

digits_text : (k : ℕ) (s : List ℕ) → length s ≡ suc k → Digits s → (1 < length s → get_or s 0 0 ≢ 48) → s ≡ number_text (value s)
digits_text zero s l d p = single s l d
digits_text (suc k) s l d p =
    let t : List ℕ = take (suc k) s in
    let n : length t ≡ suc k = length-take-le (suc k) s (omega arith) in
    let front : get_or t 0 0 ≢ 48 = (λ e. p (omega arith) (sym (get_or-take (suc k) s 0 0 (omega arith)) ∙ e)) in
    let dt : Digits t = (λ j h. let q : j < suc k = omega arith in subst Digit (sym (get_or-take (suc k) s j 0 q)) (d j (omega arith))) in
    let pos : 0 < value t = value_positive t (omega arith) dt front in
    subst (λ (z : List ℕ). z ≡ number_text (value z)) (sym (last_of s (suc k) l))
    (by_last t (get_or s (suc k) 0) pos (d (suc k) (omega arith)) (digits_text k t n dt (λ h. front)))

pub numeral_text : (s : List ℕ) → Numeral s → s ≡ number_text (value s)
numeral_text s a =
    let h : 1 ≤ length s = a.some in
    let k : length s ≡ suc (length s - 1) = omega arith in
    digits_text (length s - 1) s k a.digits a.plain

pub number_is_text : {s : List ℕ} {n : ℕ} → Number s n → s ≡ number_text n
number_is_text {s} a = numeral_text s a.numeral ∙ ap number_text (sym a.means)

pub number_below : {s : List ℕ} {n : ℕ} → Number s n → n < 100000
number_below {s} {n} a =
    let b : value s < 100000 = value_bound s a.numeral.few a.numeral.digits in
    let e : n ≡ value s = a.means in
    omega arith
