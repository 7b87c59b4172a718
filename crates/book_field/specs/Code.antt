-- What the code's own functions promise each other.
--   pair_of p G H     a body of the field p, G, H: OneField looks at these three alone
--   Sold p G H b     the field p, G, H and the field of the body b, as bytes, are accepted; SoldOver p G H b over one p besides
--   Clipped n r      r is the smaller of n and 14
use Rattle.std.specs.Prelude.{◌≡◌, List, [], ℕ, ◌<◌, ◌≤◌}
use Rattle.book_bytes.specs.Bytes.{u2}
use Rattle.book_body.specs.Body.{Body, FieldSays, body_of}

abbrev pub pair_of : ℕ → List ℕ → List ℕ → Body
pair_of p G H = record { p = p; G = G; H = H; period = 0; E0 = []; E1 = []; E2 = [] }

pub record Sold (p : ℕ) (G H b : List ℕ) : Type 0 where
  pub first : FieldSays (pair_of p G H) 0
  pub second : FieldSays (body_of b) 0

pub record SoldOver (p : ℕ) (G H b : List ℕ) : Type 0 where
  pub sold : Sold p G H b
  pub over : p ≡ u2 b 0

pub record Clipped (n r : ℕ) : Type 0 where
  pub within : r ≤ 14
  pub short : n ≤ 14 → r ≡ n
  pub long : 14 < n → r ≡ 14
