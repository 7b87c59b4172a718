-- 2 and its half mod p.
use mathlib.Core.Path.{◌≡◌, sym, ap, ap₂, ◌∙◌}
use Prim.Native.Nat.{ℕ, ◌%◌, ◌/◌}
use Prim.Native.Nat as N
use native.Mathlib.Nat.{mod_self}
use native.Mathlib.Omega.{arith}
use Rattle.math_ring.proofs.Laws as r
use Rattle.math_rows.specs.Reading.{Reading}

module _ {p : ℕ} (ρ : Reading p) where
  open ρ use {𝓥, cast}
  open 𝓥 use {K, L, const}
  open K.ops use {add as ◌+ᵏ◌, 𝟏 as 1ᵏ}
  open L.ops use {add as ◌+◌, 𝟏}

  infixl 60 ◌+◌ ◌+ᵏ◌
  pub cast_two : cast 2 ≡ 1ᵏ +ᵏ 1ᵏ
  cast_two = ρ.cast_add 1 1 ∙ ap₂ ◌+ᵏ◌ ρ.cast_one ρ.cast_one

  pub const_two : const (cast 2) ≡ 𝟏 + 𝟏
  const_two = ap const cast_two ∙ ρ.const_add 1ᵏ 1ᵏ ∙ ap₂ ◌+◌ ρ.const_one ρ.const_one

  -- (p + 1)/2 is a half
  pub half : p % 2 ≡ 1 → const (cast (N.◌+◌ p 1 / 2)) + const (cast (N.◌+◌ p 1 / 2)) ≡ 𝟏
  half h =
      let n = N.◌+◌ p 1 / 2 in
      let e : N.◌+◌ n n ≡ N.◌+◌ p 1 = omega arith in
      sym (ρ.const_add (cast n) (cast n)) ∙ ap const (sym (ρ.cast_add n n) ∙ ap cast e ∙ ρ.cast_add p 1
      ∙ ap₂ ◌+ᵏ◌ (sym (ρ.cast_mod p) ∙ ap cast (mod_self p) ∙ ρ.cast_zero) ρ.cast_one ∙ r.zero_add' K 1ᵏ) ∙ ρ.const_one
