-- The prepared modulus, and remainders by it.
--   Scale p m         m = 2^42 / p, rounded down
--   Quick p m x       and p is at most 65,535, x below 64 p²: then x m / 2^42 is x / p or one less
--   Prepared q        what the remainders need of p: q.p is a modulus, and below q.lim a remainder is found by one multiplication with q.m
--                     (`bare` in proofs/Prepared.antt: its number is a modulus)
--   ready p           the modulus p with what goes with it
--   PreparedOf p q    q is ready p, and prepared
--   ReduceOnceAsks p v        v is below 2 p, so that one subtraction finds the remainder
--   AddProductAsks, Added      s + x y up to a multiple of p, below 2^63 before and after
use Rattle.std.specs.Prelude.{◌≡◌, ℕ, ◌+◌, ◌*◌, ◌/◌, ◌%◌, ◌<◌, ◌≤◌}
use Rattle.std.proofs.Math.Decide.{dec_lt}
use Rattle.num_mod.specs.Residue.{IsModulus}
use Rattle.num_mod.specs.declared.Modulus.{Modulus}

abbrev pub Scale : ℕ → ℕ → Type 0
Scale p m = m ≡ 4398046511104 / p

pub record Quick (p m x : ℕ) : Type 0 where
  pub pos : 0 < p
  pub small : p ≤ 65535
  pub scale : Scale p m
  pub below : x < 64 * (p * p)

pub record Prepared (q : Modulus) : Type 0 where
  pub big : 1 < q.p
  pub small : q.p < 2147483648
  pub quick : (x : ℕ) → x < q.lim → Quick q.p q.m x

-- 64 p² where p is below 2^16; above, no remainder is found so
abbrev pub limit : (p : ℕ) → Dec (p < 65536) → ℕ
limit p (yes l) = 64 * (p * p)
limit p (no l) = 0

abbrev pub ready : ℕ → Modulus
ready p = record { p = p; m = 4398046511104 / p; lim = limit p (dec_lt p 65536) }

pub record PreparedOf (p : ℕ) (q : Modulus) : Type 0 where
  pub is : q.p ≡ p
  pub same : q ≡ ready p
  pub prepared : Prepared q

pub record ReduceOnceAsks (p v : ℕ) : Type 0 where
  pub modulus : IsModulus p
  pub low : v < p + p

pub record AddProductAsks (p s x y : ℕ) : Type 0 where
  pub modulus : IsModulus p
  pub low : s < 9223372036854775808
  pub hx : x < p
  pub hy : y < p

pub record Added (p s x y r : ℕ) : Type 0 where
  pub low : r < 9223372036854775808
  pub law : r % p ≡ (s + x * y) % p
