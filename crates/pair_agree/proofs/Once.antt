-- `pairs_unique`: there is one order in which two accepted pairs agree, by `not_both`.
use mathlib.Core.Path.{◌≡◌, refl}
use mathlib.Core.Logic.{inl, inr}
use mathlib.Core.List.{List}
use Prim.Native.Nat.{ℕ}
use Rattle.pair_agree.specs.Answer.{Both, Pairs}
use Rattle.pair_agree.specs.declared.Pairing.{Pairing}
use Rattle.pair_agree.specs.declared.Pairing.TheVariants.{Straight, Swapped, Apart}
use Rattle.pair_agree.proofs.Relation.{not_both}

module _ {p : ℕ} {G H G' H' : List ℕ} where
  pub pairs_unique : Both p G H G' H' → (k k' : Pairing) → Pairs p G H G' H' k → Pairs p G H G' H' k' → k ≡ k'
  pairs_unique s Straight Straight a b = refl
  pairs_unique s Swapped Swapped a b = refl
  pairs_unique s Apart Apart a b = refl
  pairs_unique s Straight Swapped a b = absurd (not_both s.first.list_g s.second a.0 b.0)
  pairs_unique s Swapped Straight a b = absurd (not_both s.first.list_g s.second b.0 a.0)
  pairs_unique s Straight Apart a b = absurd (b (inl a))
  pairs_unique s Apart Straight a b = absurd (a (inl b))
  pairs_unique s Swapped Apart a b = absurd (b (inr a))
  pairs_unique s Apart Swapped a b = absurd (a (inr b))
