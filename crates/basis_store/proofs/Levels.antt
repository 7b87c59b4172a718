-- What `row_zero` makes: half of x less the remainder of k by u.
use mathlib.Core.Path.{◌≡◌, sym, ap, ◌∙◌}
use mathlib.Core.Bool.{true}
use mathlib.Core.List.{List, [], ◌∷◌}
use Prim.Native.Nat.{ℕ, ◌<◌, ◌≤◌, ◌%◌, ◌/◌}
use Prim.Native.Nat as N
use native.Mathlib.Nat.{mod-eq_of_lt}
use native.Mathlib.Omega.{arith}
use lib.ListN.{get_or}
use Rattle.math_ring.proofs.Solve.{var, one, minus, ◌:+◌, ◌:*◌, hyp, solve_by}
use Rattle.math_fp.specs.Fp.{Prime}
use Rattle.math_valued.specs.Degree.{Has, Lt}
use Rattle.math_valued.proofs.Degree.{lt_eq, lt_neg, lt_up}
use Rattle.num_mod.specs.declared.Modulus.{Modulus}
use Rattle.num_mod.proofs.Prepared.{bare}
use Rattle.math_rows.specs.Made.{reading}
use Rattle.math_rows.specs.Row.{row, shift_at, tpow}
use Rattle.math_rows.proofs.Rows.{row_poly, size_has_at}
use Rattle.poly_cross.specs.Cross.{CrossInAsks, CrossInGives}
use Rattle.poly_rows.specs.Division.{DivisionAsks, Quotient}
use Rattle.poly_rows.proofs.Leaf.{size_unique}
use Rattle.poly_lent.specs.Sized.{Mixed}
use Rattle.basis_parts.specs.Frame.{Short}
use Rattle.basis_store.specs.Levels.{RowZeroAsks, Leveled}
use Rattle.basis_store.proofs.Two.{half}
use Rattle.poly_rows.proofs.Lengths.{row_short}

module _ {M : Modulus} {u : List ℕ} {lu : ℕ} {k : List ℕ} {n : ℕ} {x : List ℕ} {top : ℕ} (i : RowZeroAsks M u lu k n x top) where
  pub level_divide : DivisionAsks M.p k u 1
  level_divide = let b : 1 < M.p = i.modulus.big in record {
    modulus = bare i.modulus;
    prime = i.prime;
    ha = i.hk;
    hb = i.monic.is_row;
    hi = b;
    inv = λ m s. ap (λ a. N.◌*◌ 1 (get_or u (N.◌-◌ a 1) 0) % M.p) (size_unique s i.monic.size) ∙ ap (λ a. N.◌*◌ 1 a % M.p) i.monic.lead ∙ mod-eq_of_lt b;
  }

  -- what is left of k where the product of its quotient and u is taken off
  module _ {q r : List ℕ} {l : ℕ} (g : Quotient M.p k u q) (f : Mixed M.p true q l u lu k r) where
    low : (pr : Prime M.p) (n : ℕ) → Has (reading M.p pr).𝓥 (row (reading M.p pr) u) n → Lt (reading M.p pr).𝓥 (row (reading M.p pr) r) n
    low pr n h = lt_eq (reading M.p pr).𝓥 (g.law pr n h) (sym (f.law pr))

    pub level_rest : Short M.p r top
    level_rest =
        let ρ = reading M.p i.prime in
        let l : lu ≤ top = i.low in
        row_short ρ top f.is_row (lt_up ρ.𝓥 top (low i.prime (N.◌-◌ lu 1) (size_has_at ρ lu i.monic.is_row i.monic.size i.monic.pos)) (omega arith))

    pub level_half : CrossInAsks M (N.◌+◌ M.p 1 / 2) x (N.◌+◌ M.p 1 / 2) 0 r top
    unfolding shift_at
    level_half = let b : 1 < M.p = i.modulus.big in record {
      modulus = i.modulus;
      prime = i.prime;
      hs = omega arith;
      hx = i.hx;
      hc = omega arith;
      hy = f.is_row;
      fits = i.fits;
      low = omega arith;
      above = level_rest.above;
    }

    module _ {a : List ℕ} (h : CrossInGives M.p (N.◌+◌ M.p 1 / 2) x (N.◌+◌ M.p 1 / 2) 0 r top a) where
      -- 2a = x − r
      twice : (pr : Prime M.p) → let ρ = reading M.p pr in let o = ρ.𝓥.L.ops in o.mul (o.add o.𝟏 o.𝟏) (row ρ a) ≡ o.add (row ρ x) (o.neg (row ρ r))
      unfolding tpow
      twice pr = let ρ = reading M.p pr in
          solve_by ρ.𝓥.L ((one :+ one) :* var 0) (var 1 :+ minus (var 2)) (hyp (one :+ one) (var 0) (var 3 :* var 1 :+ minus (var 3 :* (one :* var 2))) ∷ hyp (var 1 :+ minus (var 2)) (var 3 :+ var 3) one ∷ []) tt
          (row ρ a ∷ row ρ x ∷ row ρ r ∷ ρ.𝓥.const (ρ.cast (N.◌+◌ M.p 1 / 2)) ∷ []) (h.crossed.law pr, (half ρ i.odd, tt))

      -- r = k − q u
      pub leveled : Leveled M.p u k x top a
      leveled = record {
        short = h.short;
        law = λ pr.
            let ρ = reading M.p pr in (
              row ρ q,
              row_poly ρ q,
              solve_by ρ.𝓥.L ((one :+ one) :* var 0 :+ (var 1 :+ minus (var 2))) (var 3 :* var 4)
                  (hyp one ((one :+ one) :* var 0) (var 2 :+ minus (var 5)) ∷ hyp (minus one) (var 5) (var 1 :+ minus (var 4 :* var 3)) ∷ []) tt
                  (row ρ a ∷ row ρ k ∷ row ρ x ∷ row ρ u ∷ row ρ q ∷ row ρ r ∷ []) (twice pr, (f.law pr, tt)),
            );
        low = λ pr n g.
            let ρ = reading M.p pr in
            lt_eq ρ.𝓥 (lt_neg ρ.𝓥 (low pr n g))
            (solve_by ρ.𝓥.L (minus (var 2)) ((one :+ one) :* var 0 :+ minus (var 1)) (hyp (minus one) ((one :+ one) :* var 0) (var 1 :+ minus (var 2)) ∷ []) tt
            (row ρ a ∷ row ρ x ∷ row ρ r ∷ []) (twice pr, tt));
      }
