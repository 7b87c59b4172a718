-- E made monic: what `monic` asks and hands out.
use Rattle.std.specs.Prelude.{◌≡◌, List, ℕ, ◌+◌, ◌*◌, ◌-◌, ◌%◌, ◌<◌, ◌≤◌, length, get_or}
use Rattle.poly_long.specs.Long.{Storable}

-- the first three rows, times the inverse of the coefficient n − 1 of the first
pub record MonicAsks (p c n : ℕ) (rows : List ℕ) : Type 0 where
  pub modulus : Storable p
  pub some : 0 < n
  pub upto : n ≤ c
  pub room : c + c + c ≤ length rows
  pub most : c ≤ 4096
  pub top : 0 < get_or rows (n - 1) 0
  pub top_below : get_or rows (n - 1) 0 < p

pub record MonicMade (p c n : ℕ) (rows rows' : List ℕ) : Type 0 where
  pub size : length rows' ≡ length rows
  pub each : (i : ℕ) → i < c + c + c → get_or rows' i 0 < p
  pub rest : (i : ℕ) → c + c + c ≤ i → get_or rows' i 0 ≡ get_or rows i 0
  pub by : ℕ
  pub by_below : by < p
  pub one : (get_or rows (n - 1) 0 * by) % p ≡ 1
  pub at : (i : ℕ) → i < c + c + c → get_or rows' i 0 ≡ (get_or rows i 0 * by) % p
