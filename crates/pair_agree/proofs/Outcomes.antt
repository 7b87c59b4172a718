-- What `paired` and the functions above it find out of two accepted pairs.
--   first_apart   not of one field: G agrees with G', but H not with H'
--   apart_none    apart, they are not of one field
use mathlib.Core.Path.{◌≡◌, subst}
use mathlib.Core.Logic.{inl, inr}
use mathlib.Core.List.{List}
use Prim.Native.Nat.{ℕ}
use Rattle.pair_laws.specs.OneField.{Agree, OneField}
use Rattle.pair_agree.specs.Answer.{Both, Pairs}
use Rattle.pair_agree.specs.declared.Pairing.{Pairing}
use Rattle.pair_agree.specs.declared.Pairing.TheVariants.{Apart}
use Rattle.pair_agree.proofs.Relation.{not_both}

module _ {p : ℕ} {G H G' H' : List ℕ} where
  pub first_apart : Both p G H G' H' → Agree p G G' → (Agree p H H' → ⊥) → OneField p G H G' H' → ⊥
  first_apart s a f (inl (b, c)) = f c
  first_apart s a f (inr (b, c)) = not_both s.first.list_g s.second a b

  module _ {k : Pairing} (w : Pairs p G H G' H' k) where
    pub apart_none : k ≡ Apart → OneField p G H G' H' → ⊥
    apart_none e = subst (Pairs p G H G' H') e w
