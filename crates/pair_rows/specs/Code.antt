-- What the functions ask and hand out.
--   exchange     Exchanged: c numbers from place a on and those from place b on have changed places, the others stay
--   part         Part: c numbers from place at on are multiplied by k, the others stay
--   multiplied   Multiplied: the six rows, each times its factor
use Rattle.std.specs.Prelude.{◌≡◌, List, ℕ, ◌+◌, ◌*◌, ◌<◌, ◌≤◌, length, get_or}
use Rattle.poly_long.specs.Long.{Storable}
use Rattle.pair_laws.specs.Rows.{Times, Straight}

pub record ExchangeAsks (a b c : ℕ) (l : List ℕ) : Type 0 where
  pub apart : a + c ≤ b
  pub inside : b + c ≤ length l

pub record Exchanged (a b c : ℕ) (l l' : List ℕ) : Type 0 where
  pub size : length l' ≡ length l
  pub first : (i : ℕ) → i < c → get_or l' (a + i) 0 ≡ get_or l (b + i) 0
  pub second : (i : ℕ) → i < c → get_or l' (b + i) 0 ≡ get_or l (a + i) 0
  pub before : (i : ℕ) → i < a → get_or l' i 0 ≡ get_or l i 0
  pub between : (i : ℕ) → a + c ≤ i → i < b → get_or l' i 0 ≡ get_or l i 0
  pub after : (i : ℕ) → b + c ≤ i → get_or l' i 0 ≡ get_or l i 0

pub record PartAsks (p k at c : ℕ) (l : List ℕ) : Type 0 where
  pub modulus : Storable p
  pub below : k < p
  pub inside : at + c ≤ length l

pub record Part (p k at c : ℕ) (l l' : List ℕ) : Type 0 where
  pub size : length l' ≡ length l
  pub before : (i : ℕ) → i < at → get_or l' i 0 ≡ get_or l i 0
  pub times : Times p c k l at l' at
  pub after : (i : ℕ) → at + c ≤ i → get_or l' i 0 ≡ get_or l i 0

pub record MultipliedAsks (p x y c : ℕ) (l : List ℕ) : Type 0 where
  pub modulus : Storable p
  pub x_below : x < p
  pub y_below : y < p
  pub whole : length l ≡ 6 * c

pub record Multiplied (p x y c : ℕ) (l l' : List ℕ) : Type 0 where
  pub size : length l' ≡ length l
  pub E : Straight p c x y l 0 l'
  pub F : Straight p c x y l (c + c + c) l'
