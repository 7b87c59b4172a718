-- What holds of each of the seven rows holds of every row.
use mathlib.Core.List.{List}
use Prim.Native.Nat.{ℕ, zero, suc, ◌<◌}
use native.Mathlib.Omega.{arith}
use Rattle.basis_record.specs.Seven.{row_at}
use Rattle.basis_record.specs.declared.Seven.{Seven}

pub every : {b : Seven} (P : List ℕ → Type 0) → P b.m0 → P b.m1 → P b.m2 → P b.n0 → P b.n1 → P b.n2 → P b.u → (i : ℕ) → P (row_at b i)
every P h0 h1 h2 k0 k1 k2 hu zero = h0
every P h0 h1 h2 k0 k1 k2 hu (suc zero) = h1
every P h0 h1 h2 k0 k1 k2 hu (suc (suc zero)) = h2
every P h0 h1 h2 k0 k1 k2 hu (suc (suc (suc zero))) = k0
every P h0 h1 h2 k0 k1 k2 hu (suc (suc (suc (suc zero)))) = k1
every P h0 h1 h2 k0 k1 k2 hu (suc (suc (suc (suc (suc zero))))) = k2
every P h0 h1 h2 k0 k1 k2 hu (suc (suc (suc (suc (suc (suc i)))))) = hu
