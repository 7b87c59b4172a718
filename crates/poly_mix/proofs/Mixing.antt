-- What the loop of `mix` ends with (`mixed`), and all of g x + h y where there is room (`whole`).
use mathlib.Core.Path.{◌≡◌, sym, subst}
use mathlib.Core.List.{List}
use Prim.Native.Nat.{ℕ, ◌<◌, ◌≤◌, ◌%◌}
use Prim.Native.Nat as N
use native.Mathlib.Nat.{mod-lt}
use native.Mathlib.Omega.{arith}
use lib.ListN.{length}
use Rattle.math_fp.specs.Fp.{Prime}
use Rattle.math_rows.specs.Made.{reading}
use Rattle.math_rows.specs.Row.{tab, row}
use Rattle.math_rows.specs.Sum.{sum_to, term_at}
use Rattle.math_rows.proofs.Tab.{Filled, filled_end}
use Rattle.poly_long.specs.Long.{Low}
use Rattle.poly_long.proofs.Low.{below, mix_law, whole_law}
use Rattle.poly_mix.specs.Mixing.{MixAsks, Mixed}

pub mixed : (p : ℕ) (g x h y d₀ d : List ℕ) (i : ℕ) → MixAsks p g h d₀ → Filled (length d₀) (λ k. N.◌+◌ (sum_to (term_at g x k) (length g)) (sum_to (term_at h y k) (length h)) % p) d i → length d₀ ≤ i → Mixed p g x h y d₀ d
mixed p g x h y d₀ d i m w l =
    let f : ℕ → ℕ = (λ k. N.◌+◌ (sum_to (term_at g x k) (length g)) (sum_to (term_at h y k) (length h)) % p) in
    let e : d ≡ tab (length d₀) f = filled_end (length d₀) f d i w l in
    let pos : 0 < p = let b : 1 < p = m.modulus.prime.big in omega arith in record {
      size = w.size;
      each = below p (length d₀) f d pos (λ k. mod-lt (N.◌+◌ (sum_to (term_at g x k) (length g)) (sum_to (term_at h y k) (length h))) pos) e;
      law = λ pr. let ρ = reading p pr in let o = ρ.𝓥.L.ops in
          subst (λ r. Low ρ (length d₀) (o.add (o.mul (row ρ g) (row ρ x)) (o.mul (row ρ h) (row ρ y))) r) (sym e) (mix_law ρ (length d₀) g x h y);
    }

pub whole : {p : ℕ} {g x h y d r : List ℕ} → N.◌+◌ (length g) (length x) ≤ length d → N.◌+◌ (length h) (length y) ≤ length d → Mixed p g x h y d r
    → (pr : Prime p) → let ρ = reading p pr in let o = ρ.𝓥.L.ops in row ρ r ≡ o.add (o.mul (row ρ g) (row ρ x)) (o.mul (row ρ h) (row ρ y))
whole {p} {g} {x} {h} {y} a b m pr = whole_law (reading p pr) g x h y a b (m.law pr)
