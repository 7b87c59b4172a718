-- How rows of numbers carry over from the pair G, H to the pair G', H' of the same field. With G' = αG, H' = βH and κ³ = αβ² the second
-- pair has the series r' = κr and w' = (κ²/β)w, so A + Br + Cw becomes A + xBr' + yCw' with x = 1/κ and y = β/κ². For G' = αH, H' = βG
-- the parts B and C change places first.
--   Law p x y g h g' h'       the factors x and y by the leading coefficients: x³ g'h'² = g h² and y h = x² h' mod p
--   Stays c l at l'           c numbers from place at on are the same in l and l'
--   Times p c k l a l' b      the c numbers of l' from place b on are k times those of l from place a on, mod p
--   Straight, Crossed         three rows of c numbers from place at on: A, xB, yC; or A, xC, yB
--   Turned                    −A, −xC, −yB
--   RowsCarry                 six rows of c numbers, E0, E1, E2, F0, F1, F2, of the one pair and of the other
--   RecordCarries             a record of 119 numbers, M0, M1, M2, N0, N1, N2, U, of the one pair and of the other: m carries over, n with
--                             the other sign where the pairs are exchanged
-- In proofs/Laws: `law_unique`, the leading coefficients settle x and y. In crate door_transfer: `rows_unique`, and so the rows; `there_and_back`, rows
-- carried over and back are the rows.
use Rattle.std.specs.Prelude.{◌≡◌, List, ℕ, ◌+◌, ◌*◌, ◌-◌, ◌%◌, ◌<◌, get_or}
use Rattle.pair_laws.specs.OneField.{leading, Agree}

pub record Law (p x y g h g' h' : ℕ) : Type 0 where
  pub x_below : x < p
  pub y_below : y < p
  pub cube : (x * x * x * (g' * (h' * h'))) % p ≡ (g * (h * h)) % p
  pub square : (y * h) % p ≡ (x * x * h') % p

abbrev pub Stays : ℕ → List ℕ → ℕ → List ℕ → Type 0
Stays c l at l' = (i : ℕ) → i < c → get_or l' (at + i) 0 ≡ get_or l (at + i) 0

abbrev pub Times : ℕ → ℕ → ℕ → List ℕ → ℕ → List ℕ → ℕ → Type 0
Times p c k l a l' b = (i : ℕ) → i < c → get_or l' (b + i) 0 ≡ (k * get_or l (a + i) 0) % p

module _ (p c x y : ℕ) (l : List ℕ) (at : ℕ) (l' : List ℕ) where
  pub record Straight : Type 0 where
    pub A : Stays c l at l'
    pub B : Times p c x l (at + c) l' (at + c)
    pub C : Times p c y l (at + c + c) l' (at + c + c)

  pub record Crossed : Type 0 where
    pub A : Stays c l at l'
    pub B : Times p c x l (at + c + c) l' (at + c)
    pub C : Times p c y l (at + c) l' (at + c + c)

  pub record Turned : Type 0 where
    pub A : Times p c (p - 1) l at l' at
    pub B : Times p c (p - x) l (at + c + c) l' (at + c)
    pub C : Times p c (p - y) l (at + c) l' (at + c + c)

module _ (p : ℕ) (G H G' H' : List ℕ) where
  pub data RowsCarry (c : ℕ) (l l' : List ℕ) : Type 0 where
    straight : Agree p G G' → Agree p H H' → (x y : ℕ) → Law p x y (leading G) (leading H) (leading G') (leading H')
        → Straight p c x y l 0 l' → Straight p c x y l (c + c + c) l' → RowsCarry c l l'
    crossed : Agree p G H' → Agree p H G' → (x y : ℕ) → Law p x y (leading H) (leading G) (leading G') (leading H')
        → Crossed p c x y l 0 l' → Crossed p c x y l (c + c + c) l' → RowsCarry c l l'

  pub data RecordCarries (l l' : List ℕ) : Type 0 where
    straight : Agree p G G' → Agree p H H' → (x y : ℕ) → Law p x y (leading G) (leading H) (leading G') (leading H')
        → Straight p 17 x y l 0 l' → Straight p 17 x y l 51 l' → Stays 17 l 102 l' → RecordCarries l l'
    crossed : Agree p G H' → Agree p H G' → (x y : ℕ) → Law p x y (leading H) (leading G) (leading G') (leading H')
        → Crossed p 17 x y l 0 l' → Turned p 17 x y l 51 l' → Stays 17 l 102 l' → RecordCarries l l'
