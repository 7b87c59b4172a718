-- What the functions ask and answer.
--   Coefficients p G H   G and H are lists of coefficients: what refusal 3 leaves
--   Both p G H G' H'     two accepted pairs over one p
--   Pairs p G H G' H' k  k is the order in which the pairs agree: straight, swapped, or apart, that is, not at all
-- `Agree` and `OneField` are those of crate pair_laws. In proofs/: Relation (`one_refl`, `one_sym`, `one_trans`: to be of one field is an
-- equivalence; `not_both`: accepted pairs agree in one order only), Polynomials (`agree_poly`: the polynomials of lists that agree differ
-- by a constant that is not 0), Once (`pairs_unique`: two outcomes that meet Pairs are equal).
use Rattle.std.specs.Prelude.{List, ℕ}
use Rattle.field_open.specs.Refusal.{Degree, Accepted}
use Rattle.pair_laws.specs.OneField.{Agree, OneField}
use Rattle.pair_agree.specs.declared.Pairing.{Pairing}
use Rattle.pair_agree.specs.declared.Pairing.TheVariants.{Straight, Swapped, Apart}

pub record Coefficients (p : ℕ) (G H : List ℕ) : Type 0 where
  pub deg_g : ℕ
  pub deg_h : ℕ
  pub list_g : Degree p G deg_g
  pub list_h : Degree p H deg_h

pub record Both (p : ℕ) (G H G' H' : List ℕ) : Type 0 where
  pub first : Accepted p G H
  pub second : Accepted p G' H'

abbrev pub Pairs : ℕ → List ℕ → List ℕ → List ℕ → List ℕ → Pairing → Type 0
Pairs p G H G' H' Straight = Agree p G G' × Agree p H H'
Pairs p G H G' H' Swapped = Agree p G H' × Agree p H G'
Pairs p G H G' H' Apart = OneField p G H G' H' → ⊥
