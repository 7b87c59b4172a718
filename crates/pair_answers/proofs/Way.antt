-- The way from one accepted pair to another of the same field.
--   Way                     the order in which the pairs agree, and the factors as numbers
--   way, one_of             of two accepted pairs of one field; and back
--   split                   two pairs of one field are refused alike, or both are accepted
--   map                     how the orders carry over
--   map_same, map_swapped   what that does to an element
--   map_plus, map_minus     its sign
use mathlib.Core.Path.{◌≡◌, ap₂, ◌∙◌, subst}
use mathlib.Core.Logic.{◌≢◌, inl, inr}
use mathlib.Core.List.{List}
use Prim.Native.Nat.{ℕ}
use native.Mathlib.Decide.{ℕ_discrete}
use Rattle.math_fp.specs.Fp.{Prime}
use Rattle.math_valued.specs.Val.{Valued}
use Rattle.math_valued.specs.Polynomial.{polys}
use Rattle.math_rows.specs.Made.{reading}
use Rattle.field_open.specs.Refusal.{Refusal, Accepted}
use Rattle.field_open.proofs.Accept.{accepted}
use Rattle.pair_laws.specs.OneField.{leading, Agree, OneField}
use Rattle.pair_agree.specs.Answer.{Coefficients}
use Rattle.pair_laws.specs.Rows.{Law}
use Rattle.basis_record.specs.Setting.{roots}
use Rattle.math_carry.specs.Carries.{El, Carries, stretch, exchange}
use Rattle.pair_theory.proofs.OneField as one
use Rattle.pair_theory.proofs.Refused.{refusal_carry}
use Rattle.pair_answers.proofs.Numbers.{constant, laws, constants}

pub data Way (p : ℕ) (G H G' H' : List ℕ) : Type 0 where
  same : Agree p G G' → Agree p H H' → (x y : ℕ) → Law p x y (leading G) (leading H) (leading G') (leading H') → Way p G H G' H'
  swapped : Agree p G H' → Agree p H G' → (x y : ℕ) → Law p x y (leading H) (leading G) (leading G') (leading H') → Way p G H G' H'

pub split : (p : ℕ) {G H G' H' : List ℕ} → Coefficients p G H → Coefficients p G' H' → OneField p G H G' H' → {X : Type 0} (n : ℕ) → Refusal p G H n
    → (n ≢ 0 → Refusal p G' H' n → X) → (n ≡ 0 → Accepted p G H → Accepted p G' H' → Refusal p G' H' n → X) → X
split p {G} {H} {G'} {H'} s s' one n r f g =
    let r' : Refusal p G' H' n = refusal_carry p s s' one n r in
    elim (ℕ_discrete n 0) [ yes z ↦ g z (accepted p G H (subst (Refusal p G H) z r)) (accepted p G' H' (subst (Refusal p G' H') z r')) r' | no z ↦ f z r' ]

module _ {p : ℕ} {G H G' H' : List ℕ} where
  pub one_of : Way p G H G' H' → OneField p G H G' H'
  one_of (same a b x y l) = inl (a, b)
  one_of (swapped a b x y l) = inr (a, b)

  module _ (A : Accepted p G H) (A' : Accepted p G' H') where
    pub way : OneField p G H G' H' → Way p G H G' H'
    way (inl (a, b)) =
        let (c, k) = one.straight A A' A.prime a b in
        let (x, y, l) = laws p A.prime k.factors A.list_g A.list_h A'.list_g A'.list_h k.pair.0 k.pair.1 in
        same a b x y l
    way (inr (a, b)) =
        let (c, k) = one.crossed A A' A.prime a b in
        let (x, y, l) = laws p A.prime k.factors A.list_h A.list_g A'.list_g A'.list_h k.pair.0 k.pair.1 in
        swapped a b x y l

    module _ (pr : Prime p) where
      abbrev 𝓥 : Valued
      𝓥 = (reading p pr).𝓥

      abbrev pub map : Way p G H G' H' → Carries (roots A pr) (roots A' pr)
      map (same a b x y l) = (one.straight A A' pr a b).0
      map (swapped a b x y l) = (one.crossed A A' pr a b).0

      pub map_same : (a : Agree p G G') (b : Agree p H H') (x y : ℕ) (l : Law p x y (leading G) (leading H) (leading G') (leading H'))
          → (v : El 𝓥) → (map (same a b x y l)).to v ≡ stretch 𝓥 (constant p pr x) (constant p pr y) v
      map_same a b x y l v =
          let (c, k) = one.straight A A' pr a b in
          let (ex, ey) = constants p pr k.factors A.list_g A.list_h A'.list_g A'.list_h k.pair.0 k.pair.1 A.kind l in
          k.rows v ∙ ap₂ (λ s t. stretch 𝓥 s t v) ex ey

      pub map_swapped : (a : Agree p G H') (b : Agree p H G') (x y : ℕ) (l : Law p x y (leading H) (leading G) (leading G') (leading H'))
          → (v : El 𝓥) → (map (swapped a b x y l)).to v ≡ exchange 𝓥 (constant p pr x) (constant p pr y) v
      map_swapped a b x y l v =
          let (c, k) = one.crossed A A' pr a b in
          let (ex, ey) = constants p pr k.factors A.list_h A.list_g A'.list_g A'.list_h k.pair.0 k.pair.1 A.kind l in
          k.rows v ∙ ap₂ (λ s t. exchange 𝓥 s t v) ex ey

      pub map_plus : (a : Agree p G G') (b : Agree p H H') (x y : ℕ) (l : Law p x y (leading G) (leading H) (leading G') (leading H'))
          → (map (same a b x y l)).σ ≡ (polys 𝓥).ops.𝟏
      map_plus a b x y l = (one.straight A A' pr a b).1.plus

      pub map_minus : (a : Agree p G H') (b : Agree p H G') (x y : ℕ) (l : Law p x y (leading H) (leading G) (leading G') (leading H'))
          → (map (swapped a b x y l)).σ ≡ (polys 𝓥).ops.neg (polys 𝓥).ops.𝟏
      map_minus a b x y l = (one.crossed A A' pr a b).1.minus
