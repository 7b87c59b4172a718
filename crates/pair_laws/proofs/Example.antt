-- The field of the request: once as G, H and once as H, G with G multiplied by 2. And two pairs that are not of one field.
--   twice_in_the_table   t³ + t, 1 and 1, 2t³ + 2t over the integers mod 5
--   not_one              t³ + t, 1 and t³ + 2t, 1
use mathlib.Core.Path.{◌≡◌, refl}
use mathlib.Core.Logic.{inl, inr}
use mathlib.Core.List.{List, [], ◌∷◌}
use Prim.Native.Nat.{ℕ, zero, suc, ◌*◌, ◌%◌, ◌<◌}
use native.Mathlib.Omega.{arith}
use lib.ListN.{get_or}
use Rattle.base_lists.specs.Coefficients.{Coefficients}
use Rattle.math_fp.specs.Fp.{Prime}
use Rattle.math_fp.proofs.Trial.{prime}
use Rattle.pair_laws.specs.OneField.{OneField}
use Rattle.pair_laws.proofs.Lists.{cross_of, agree_of}

five : Prime 5
five = prime 5 1 tt

abbrev G : List ℕ
G = 0 ∷ 1 ∷ 0 ∷ 1 ∷ []

abbrev H : List ℕ
H = 1 ∷ []

abbrev twice_G : List ℕ
twice_G = 0 ∷ 2 ∷ 0 ∷ 2 ∷ []

abbrev other_G : List ℕ
other_G = 0 ∷ 2 ∷ 0 ∷ 1 ∷ []

at_g : (i : ℕ) → (2 * get_or G i 0) % 5 ≡ (1 * get_or twice_G i 0) % 5
at_g zero = refl
at_g (suc zero) = refl
at_g (suc (suc zero)) = refl
at_g (suc (suc (suc zero))) = refl
at_g (suc (suc (suc (suc i)))) = refl

below_G : (i : ℕ) → i < 4 → get_or G i 0 < 5
below_G zero l = omega arith
below_G (suc zero) l = omega arith
below_G (suc (suc zero)) l = omega arith
below_G (suc (suc (suc zero))) l = omega arith
below_G (suc (suc (suc (suc i)))) l = absurd (omega arith)

below_H : (i : ℕ) → i < 1 → get_or H i 0 < 5
below_H zero l = omega arith
below_H (suc i) l = absurd (omega arith)

listed_G : Coefficients 13 5 G 3
listed_G = record { whole = refl; short = omega arith; each = below_G; last = λ e. omega arith }

listed_H : Coefficients 13 5 H 0
listed_H = record { whole = refl; short = omega arith; each = below_H; last = λ e. omega arith }

pub twice_in_the_table : OneField 5 G H H twice_G
twice_in_the_table = inr (agree_of 5 five listed_G twice_G (record { long = refl; cross = at_g }), agree_of 5 five listed_H H (record { long = refl; cross = λ i. refl }))

pub not_one : OneField 5 G H other_G H → ⊥
not_one (inl (a, b)) = let e : ◌≡◌ {A = ℕ} 1 2 = (cross_of 5 five G other_G a).cross 1 in omega arith
not_one (inr (a, b)) = let e : ◌≡◌ {A = ℕ} 4 1 = (cross_of 5 five G H a).long in omega arith
