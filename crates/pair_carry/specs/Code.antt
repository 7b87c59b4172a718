-- What the functions ask and hand out.
--   carry           Carried: the six rows for a pair that agrees in the same order
--   carry_swapped   CarriedSwapped: for a pair that agrees in the other order
use Rattle.std.specs.Prelude.{◌≡◌, List, ℕ, ◌+◌, ◌*◌, length}
use Rattle.pair_laws.specs.OneField.{leading}
use Rattle.pair_agree.specs.Answer.{Coefficients}
use Rattle.pair_laws.specs.Rows.{Law, Straight, Crossed}
use Rattle.pair_factors.specs.Code.{Kind}

pub record CarryAsks (p : ℕ) (G H G' H' : List ℕ) (c : ℕ) (l : List ℕ) : Type 0 where
  pub modulus : Kind p
  pub first : Coefficients p G H
  pub second : Coefficients p G' H'
  pub whole : length l ≡ 6 * c

module _ (p : ℕ) (G H G' H' : List ℕ) (c : ℕ) (l l' : List ℕ) where
  pub record Carried : Type 0 where
    pub size : length l' ≡ length l
    pub x : ℕ
    pub y : ℕ
    pub law : Law p x y (leading G) (leading H) (leading G') (leading H')
    pub E : Straight p c x y l 0 l'
    pub F : Straight p c x y l (c + c + c) l'

  pub record CarriedSwapped : Type 0 where
    pub size : length l' ≡ length l
    pub x : ℕ
    pub y : ℕ
    pub law : Law p x y (leading H) (leading G) (leading G') (leading H')
    pub E : Crossed p c x y l 0 l'
    pub F : Crossed p c x y l (c + c + c) l'
