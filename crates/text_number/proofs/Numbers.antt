-- A number read digit by digit.
--   Sofar s v i   the first i bytes of s are digits, of value v; sofar_none, sofar_more, sofar_small, sofar_all
use mathlib.Core.Path.{◌≡◌, refl, sym, ap, ◌∙◌, subst}
use mathlib.Core.Logic.{◌≢◌}
use mathlib.Core.List.{List}
use Prim.Native.Nat.{ℕ, ◌+◌, ◌-◌, ◌*◌, ◌≤◌, ◌<◌}
use native.Mathlib.Numerals.{add-one}
use native.Mathlib.Omega.{arith}
use lib.ListN.{length, get_or, take}
use lib.Seq.{take-suc, take_all, get_or-take, length-take-le}
use borrow.Author.Count.{below_more}
use Rattle.text_number.specs.Grammar.{Digit, value, value_from, Number}
use Rattle.text_number.proofs.Values.{value_last, value_small}

pub record Sofar (s : List ℕ) (v i : ℕ) : Type 0 where
  pub place : i ≤ length s
  pub means : v ≡ value (take i s)
  pub digits : (k : ℕ) → k < i → Digit (get_or s k 0)

pub sofar_none : (s : List ℕ) → Sofar s 0 0
unfolding value_from
sofar_none s = record { place = omega arith; means = refl; digits = λ k h. absurd (omega arith) }

pub sofar_more : (s : List ℕ) (v i : ℕ) {w : ℕ} → Sofar s v i → i < length s → Digit (get_or s i 0) → w ≡ get_or s i 0 - 48 → Sofar s (v * 10 + w) (i + 1)
sofar_more s v i a h d e =
    record {
      place = omega arith;
      means =
          ap (λ (z : ℕ). v * 10 + z) e ∙ ap (λ (z : ℕ). z * 10 + (get_or s i 0 - 48)) a.means ∙ sym (value_last (take i s) (get_or s i 0))
          ∙ ap value (sym (take-suc s i 0 h) ∙ ap (λ (k : ℕ). take k s) (sym (add-one i)));
      digits = below_more _ _ a.digits d;
    }

pub sofar_small : (s : List ℕ) (v i : ℕ) → Sofar s v i → i ≤ 4 → v < 10000
sofar_small s v i a h =
    let p : i ≤ length s = a.place in
    let l : length (take i s) ≡ i = length-take-le i s p in
    let b : value (take i s) < 10000 = value_small (take i s) (omega arith) (λ k q. let r : k < i = omega arith in subst Digit (sym (get_or-take i s k 0 r)) (a.digits k r)) in
    let m : v ≡ value (take i s) = a.means in
    omega arith

pub sofar_all : (s : List ℕ) (v i : ℕ) → Sofar s v i → length s ≤ i → 1 ≤ length s → length s ≤ 5 → (1 < length s → get_or s 0 0 ≢ 48) → Number s v
sofar_all s v i a h some few plain =
    record {
      numeral = record { some = some; few = few; digits = λ k q. a.digits k (omega arith); plain = plain };
      means = a.means ∙ ap value (take_all i s h);
    }
