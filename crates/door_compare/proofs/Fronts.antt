-- Two pairs as callers give them, and the fronts that their four lists stand for.
--   front_both   the fronts are accepted where the lists that they stand for are
--   four         what holds of the four fronts holds of the lists that they stand for
use mathlib.Core.List.{List}
use Prim.Native.Nat.{ℕ}
use lib.ListN.{take}
use Rattle.base_lists.proofs.Paddings.{fronts}
use Rattle.field_open.specs.Padding.{unpad, Unpadded}
use Rattle.field_open.proofs.Paddings.{front_accepted}
use Rattle.pair_agree.specs.Answer.{Both}

module _ {G H G' H' : List ℕ} {i j k l : ℕ} (a : Unpadded G i) (b : Unpadded H j) (c : Unpadded G' k) (d : Unpadded H' l) where
  pub front_both : {p : ℕ} → Both p (unpad G) (unpad H) (unpad G') (unpad H') → Both p (take i G) (take j H) (take k G') (take l H')
  front_both t = record { first = front_accepted a b t.first; second = front_accepted c d t.second }

  pub four : (P : List ℕ → List ℕ → List ℕ → List ℕ → Type 0) → P (take i G) (take j H) (take k G') (take l H') → P (unpad G) (unpad H) (unpad G') (unpad H')
  four P x = fronts (λ g h. P g h (unpad G') (unpad H')) a b (fronts (P (take i G) (take j H)) c d x)
