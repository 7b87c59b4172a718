-- From sums to the contracts: r ± x y, r ± x y ± z v, and their cases into a row of zeros.
--   mix_gather, mix_settle, mixed           r ± x y
--   both_first, both_second, both_settle,   r ± x y ± z v
--   both_cut, both_made
--   times_first, times_product, times_cut   x y
--   det_both, det_made                      x y − z v
use mathlib.Core.Path.{◌≡◌, sym, ap, ◌∙◌, subst}
use mathlib.Core.Bool.{Bool, true, false}
use mathlib.Core.List.{List}
use Prim.Native.Nat.{ℕ, ◌+◌, ◌%◌, ◌<◌, ◌≤◌}
use native.Mathlib.Nat.{mod-eq_of_lt, zero-mod}
use native.Mathlib.Omega.{arith}
use lib.ListN.{length, get_or, replicate}
use Rattle.math_ring.proofs.Laws as laws
use Rattle.num_mod.specs.declared.Modulus.{Modulus}
use Rattle.num_mod.proofs.Prepared.{bare}
use Rattle.math_rows.specs.Reading.{Reading}
use Rattle.math_rows.specs.Made.{reading}
use Rattle.math_rows.specs.Row.{Row, Size, row}
use Rattle.math_rows.proofs.Tab.{zeros_at}
use Rattle.math_rows.proofs.Floors.{zero_row}
use Rattle.poly_rows.specs.Leaf.{Cut, Product}
use Rattle.poly_rows.proofs.Leaf.{zeros_row, zeros_size}
use Rattle.poly_sums.specs.Sums.{sign_of, GatherAsks, Gathered, SettleAsks, Settled}
use Rattle.poly_sums.proofs.Sums.{loose_row}
use Rattle.poly_lent.specs.Sized.{Reach, MixAsks, Mixed, BothInAsks, BothInGives, TimesInAsks, DetInAsks, DetInGives}

-- a row ends before its length
pub size_cut : {p : ℕ} {x : List ℕ} {n : ℕ} → Row p x → Size x n → Cut x n
size_cut {p} {x} {n} h s = let f : n ≤ length x = s.fits in let l : length x ≡ 32 = h.size in record { size = l; fits = omega arith; above = s.above }

-- ---- r ± x y
module _ {M : Modulus} {x : List ℕ} {n : ℕ} {y : List ℕ} {m : ℕ} {r : List ℕ} (h : MixAsks M x n y m r) where
  pub mix_gather : GatherAsks M.p x n y m r
  mix_gather = record { modulus = bare h.modulus; hx = h.hx; hy = h.hy; cx = size_cut h.hx h.sx; cy = size_cut h.hy h.sy; fits = h.fits; loose = loose_row h.modulus.small h.hr }

  module _ {e : Bool} {g : List ℕ} {t : ℕ} (s : Gathered M.p e x n y m r g) (c : Reach (n + m) 0 t) where
    pub mix_settle : SettleAsks M g t
    mix_settle = record {
      modulus = h.modulus;
      size = s.loose.size;
      fits = c.fits;
      below = λ i u. let l : n + m ≤ t + 1 = c.past_a in let q : get_or g i 0 ≡ get_or r i 0 = s.above i (omega arith) in let b : get_or r i 0 < M.p = h.hr.each i in omega arith;
    }

    pub mixed : {o : List ℕ} → Settled M.p g o → Mixed M.p e x n y m r o
    mixed {o} w = record {
      is_row = w.is_row;
      law = λ pr. w.law pr ∙ s.law pr;
      above = λ i u. w.each i ∙ ap (λ a. a % M.p) (s.above i u) ∙ mod-eq_of_lt (h.hr.each i);
    }

-- ---- r ± x y ± z v
module _ {M : Modulus} {x : List ℕ} {nx : ℕ} {y : List ℕ} {ny : ℕ} {z : List ℕ} {nz : ℕ} {v : List ℕ} {nv : ℕ} {r : List ℕ} {l : ℕ} (h : BothInAsks M x nx y ny z nz v nv r l) where
  pub both_first : GatherAsks M.p x nx y ny r
  both_first = record { modulus = bare h.modulus; hx = h.hx; hy = h.hy; cx = h.cx; cy = h.cy; fits = h.left; loose = loose_row h.modulus.small h.hr }

  module _ {e : Bool} {g : List ℕ} (s : Gathered M.p e x nx y ny r g) where
    pub both_second : GatherAsks M.p z nz v nv g
    both_second = record { modulus = bare h.modulus; hx = h.hz; hy = h.hv; cx = h.cz; cy = h.cv; fits = h.right; loose = s.loose }

    module _ {f : Bool} {w : List ℕ} {a t : ℕ} (u : Gathered M.p f z nz v nv g w) (b : Reach (nx + ny) (nz + nv) a) (c : Reach (a + 1) (l + 1) t) where
      none : (i : ℕ) → t ≤ i → get_or w i 0 ≡ 0
      none i k =
          let b1 : nx + ny ≤ a + 1 = b.past_a in
          let b2 : nz + nv ≤ a + 1 = b.past_b in
          let c1 : a + 1 ≤ t + 1 = c.past_a in
          let c2 : l + 1 ≤ t + 1 = c.past_b in
          u.above i (omega arith) ∙ s.above i (omega arith) ∙ h.cr.above i (omega arith)

      pub both_settle : SettleAsks M w t
      both_settle = record {
        modulus = h.modulus;
        size = u.loose.size;
        fits = c.fits;
        below = λ i k. let q : get_or w i 0 ≡ 0 = none i k in let d : 1 < M.p = h.modulus.big in omega arith;
      }

      module _ {o : List ℕ} (d : Settled M.p w o) where
        pub both_cut : Cut o t
        both_cut = record { size = d.is_row.size; fits = c.fits; above = λ i k. d.each i ∙ ap (λ q. q % M.p) (none i k) ∙ zero-mod M.p }

        pub both_made : {n : ℕ} → Size o n → BothInGives M.p e x y f z v r o n
        both_made k = record {
          is_row = d.is_row;
          law = λ pr. let ρ = reading M.p pr in let o = ρ.𝓥.L.ops in
              d.law pr ∙ u.law pr ∙ ap (λ q. o.add q (sign_of o f (o.mul (row ρ z) (row ρ v)))) (s.law pr);
          size = k;
        }

-- ---- into a row of zeros
zeros_to : {p : ℕ} {r : List ℕ} → 1 < p → r ≡ replicate 32 0 → Row p r
zeros_to b e = subst (Row _) (sym e) (zeros_row _ b)

zeros_none : {p : ℕ} {r : List ℕ} (ρ : Reading p) → r ≡ replicate 32 0 → row ρ r ≡ ρ.𝓥.L.ops.𝟎
zeros_none ρ e = ap (row ρ) e ∙ zero_row ρ (replicate 32 0) zeros_size

module _ {M : Modulus} {x : List ℕ} {n : ℕ} {y : List ℕ} {m : ℕ} {r : List ℕ} (h : TimesInAsks M x n y m r) where
  pub times_first : MixAsks M x n y m r
  times_first = record { modulus = h.modulus; prime = h.prime; hx = h.hx; hy = h.hy; sx = h.sx; sy = h.sy; fits = h.fits; hr = zeros_to h.modulus.big h.blank }

  module _ {o : List ℕ} (g : Mixed M.p false x n y m r o) where
    pub times_product : Product M.p x y o
    times_product = record {
      is_row = g.is_row;
      law = λ pr. let R = (reading M.p pr).𝓥.L in
          g.law pr ∙ ap (λ a. R.ops.add a (R.ops.mul (row (reading M.p pr) x) (row (reading M.p pr) y))) (zeros_none (reading M.p pr) h.blank) ∙ laws.zero_add' R _;
    }

    pub times_cut : (t : ℕ) → Reach (n + m) 0 t → Cut o t
    times_cut t c = record {
      size = g.is_row.size;
      fits = c.fits;
      above = λ i u. let l : n + m ≤ t + 1 = c.past_a in g.above i (omega arith) ∙ ap (λ a. get_or a i 0) h.blank ∙ zeros_at 32 i;
    }

module _ {M : Modulus} {x : List ℕ} {nx : ℕ} {y : List ℕ} {ny : ℕ} {z : List ℕ} {nz : ℕ} {v : List ℕ} {nv : ℕ} {r : List ℕ} (h : DetInAsks M x nx y ny z nz v nv r) where
  pub det_both : BothInAsks M x nx y ny z nz v nv r 0
  det_both = record {
    modulus = h.modulus;
    prime = h.prime;
    hx = h.hx;
    hy = h.hy;
    hz = h.hz;
    hv = h.hv;
    cx = size_cut h.hx h.sx;
    cy = size_cut h.hy h.sy;
    cz = size_cut h.hz h.sz;
    cv = size_cut h.hv h.sv;
    left = h.left;
    right = h.right;
    hr = zeros_to h.modulus.big h.blank;
    cr = record { size = ap length h.blank; fits = omega arith; above = λ i u. ap (λ a. get_or a i 0) h.blank ∙ zeros_at 32 i };
  }

  pub det_made : {o : List ℕ} {l : ℕ} → BothInGives M.p false x y true z v r o l → DetInGives M.p x y z v o l
  det_made g = record {
    is_row = g.is_row;
    law = λ pr. let R = (reading M.p pr).𝓥.L in let ρ = reading M.p pr in
        g.law pr ∙ ap (λ a. R.ops.add a (R.ops.neg (R.ops.mul (row ρ z) (row ρ v)))) (ap (λ a. R.ops.add a (R.ops.mul (row ρ x) (row ρ y))) (zeros_none ρ h.blank) ∙ laws.zero_add' R _);
    size = g.size;
  }
