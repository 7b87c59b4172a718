-- Two parts of a list exchanged.
--   first_at, second_at   a number of the one part and of the other
use mathlib.Core.Path.{◌≡◌, ap, sym, ◌∙◌}
use mathlib.Core.List.{List}
use Prim.Native.Nat.{ℕ, ◌+◌, ◌<◌}
use lib.ListN.{get_or}
use Rattle.pair_rows.specs.Code.{Exchanged}

-- the places as another function counts them
module _ (a b c : ℕ) (l l' : List ℕ) (h : Exchanged a b c l l') (i j k : ℕ) (u : i < c) where
  pub first_at : j ≡ a + i → k ≡ b + i → get_or l' j 0 ≡ get_or l k 0
  first_at e f = ap (λ z. get_or l' z 0) e ∙ h.first i u ∙ ap (λ z. get_or l z 0) (sym f)

  pub second_at : j ≡ b + i → k ≡ a + i → get_or l' j 0 ≡ get_or l k 0
  second_at e f = ap (λ z. get_or l' z 0) e ∙ h.second i u ∙ ap (λ z. get_or l z 0) (sym f)
