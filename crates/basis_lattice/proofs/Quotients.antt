-- What `outer` and `coordinates` ask of their calls, and what they hand out.
--   s_asks, t_asks, by_e      the two determinants, and the division by e
--   both_asks, by_u           what is left for α, and the division by U
--   coords_made               the three quotients are every exact one
use mathlib.Core.Path.{◌≡◌, sym, ap₂, ◌∙◌}
use mathlib.Core.Bool.{true}
use mathlib.Core.List.{List, [], ◌∷◌}
use Prim.Native.Nat.{ℕ, zero, suc, ◌+◌, ◌≤◌}
use native.Mathlib.Omega.{arith}
use lib.ListN.{replicate}
use Rattle.num_mod.specs.declared.Modulus.{Modulus}
use Rattle.num_mod.proofs.Prepared.{bare}
use Rattle.math_ring.proofs.Solve.{var, minus, ◌:+◌, ◌:*◌, solve}
use Rattle.math_fp.specs.Fp.{Prime}
use Rattle.math_valued.proofs.Degree as d
use Rattle.math_rows.specs.Made.{reading}
use Rattle.math_rows.specs.Row.{Row, Size, row}
use Rattle.math_rows.proofs.Rows.{size_le}
use Rattle.poly_rows.proofs.Lengths.{by_inverse}
use Rattle.poly_lent.specs.Sized.{BothInAsks, BothInGives, DetInAsks}
use Rattle.poly_divide.specs.Divide.{QuotientAsks, QuotientInGives}
use Rattle.poly_lent.proofs.Mixing.{size_cut}
use Rattle.basis_record.specs.Seven.{Three, three}
use Rattle.basis_record.specs.declared.Seven.{Seven}
use Rattle.basis_lattice.specs.Coordinates.{Quotients, AreLengths, ElementAsks, OuterGives, CoordinatesAsks, Coordinates}
use Rattle.basis_lattice.specs.declared.Lengths.{Lengths}
use Rattle.basis_lattice.specs.declared.OuterSpans.{OuterSpans}

-- seven lengths, by number
pub measured : {b : Seven} {m0 m1 m2 n0 n1 n2 u : ℕ} (k : ℕ) → Size b.m0 m0 → Size b.m1 m1 → Size b.m2 m2 → Size b.n0 n0 → Size b.n1 n1 → Size b.n2 n2 → Size b.u u
    → AreLengths b (record { m0 = m0; m1 = m1; m2 = m2; n0 = n0; n1 = n1; n2 = n2; u = u; e = k })
measured k h0 h1 h2 k0 k1 k2 hu zero = h0
measured k h0 h1 h2 k0 k1 k2 hu (suc zero) = h1
measured k h0 h1 h2 k0 k1 k2 hu (suc (suc zero)) = h2
measured k h0 h1 h2 k0 k1 k2 hu (suc (suc (suc zero))) = k0
measured k h0 h1 h2 k0 k1 k2 hu (suc (suc (suc (suc zero)))) = k1
measured k h0 h1 h2 k0 k1 k2 hu (suc (suc (suc (suc (suc zero))))) = k2
measured k h0 h1 h2 k0 k1 k2 hu (suc (suc (suc (suc (suc (suc i)))))) = hu

module _ {M : Modulus} {va : List ℕ} {na : ℕ} {vb : List ℕ} {nb : ℕ} {vc : List ℕ} {nc : ℕ} {b : Seven} {l : Lengths} {e : List ℕ} {ie : ℕ} (h : ElementAsks M va na vb nb vc nc b l e ie) where
  pub s_asks : {s : List ℕ} → s ≡ replicate 32 0 → DetInAsks M vb nb b.n2 l.n2 vc nc b.n1 l.n1 s
  s_asks z = record {
    modulus = h.modulus;
    prime = h.prime;
    hx = h.hb;
    hy = h.rows 5;
    hz = h.hc;
    hv = h.rows 4;
    sx = h.sb;
    sy = h.sizes 5;
    sz = h.sc;
    sv = h.sizes 4;
    left = h.b_n2 _ _ h.sb (h.sizes 5);
    right = h.c_n1 _ _ h.sc (h.sizes 4);
    blank = z;
  }

  pub t_asks : {t : List ℕ} → t ≡ replicate 32 0 → DetInAsks M vc nc b.m1 l.m1 vb nb b.m2 l.m2 t
  t_asks z = record {
    modulus = h.modulus;
    prime = h.prime;
    hx = h.hc;
    hy = h.rows 1;
    hz = h.hb;
    hv = h.rows 2;
    sx = h.sc;
    sy = h.sizes 1;
    sz = h.sb;
    sv = h.sizes 2;
    left = h.c_m1 _ _ h.sc (h.sizes 1);
    right = h.b_m2 _ _ h.sb (h.sizes 2);
    blank = z;
  }

  pub by_e : {s r : List ℕ} {n : ℕ} → Row M.p s → Size s n → r ≡ replicate 32 0 → QuotientAsks M s n e l.e ie r
  by_e hs n z = record { inp = by_inverse (bare h.modulus) h.prime hs h.he h.by_e; modulus = h.modulus; sa = n; sb = h.se; blank = z }

  pub by_u : {s r : List ℕ} {n : ℕ} → Row M.p s → Size s n → r ≡ replicate 32 0 → QuotientAsks M s n b.u l.u 1 r
  by_u hs n z = record { inp = by_inverse (bare h.modulus) h.prime hs (h.rows 6) h.by_u; modulus = h.modulus; sa = n; sb = h.sizes 6; blank = z }

module _ {M : Modulus} {va : List ℕ} {na : ℕ} {vb : List ℕ} {nb : ℕ} {vc : List ℕ} {nc : ℕ} {b : Seven} {l : Lengths} {e : List ℕ} {ie : ℕ} {t : Three} (c : CoordinatesAsks M va na vb nb vc nc b l e ie t)
    {s₁ t₁ β γ : List ℕ} {o : OuterSpans} (h : OuterGives M.p vb vc b e s₁ t₁ β γ o) where
  β_is : (pr : Prime M.p) {x y z : (reading M.p pr).𝓥.L.El} → Quotients pr va vb vc b e x y z → row (reading M.p pr) β ≡ y
  β_is pr {x} {y} q = h.β_is.exact.law pr y q.β_poly (sym q.e_β ∙ sym (h.s_is.law pr))

  γ_is : (pr : Prime M.p) {x y z : (reading M.p pr).𝓥.L.El} → Quotients pr va vb vc b e x y z → row (reading M.p pr) γ ≡ z
  γ_is pr {x} {y} {z} q = h.γ_is.exact.law pr z q.γ_poly (sym q.e_γ ∙ sym (h.t_is.law pr))

  pub both_asks : BothInAsks M β o.b b.m0 l.m0 γ o.c b.n0 l.n0 va na
  both_asks =
      let i = c.inp in
      let ρ = reading M.p c.inp.prime in
      let hβ : o.b ≤ c.kβ = size_le ρ c.kβ h.β_is.quotient.is_row h.β_is.size (d.lt_eq ρ.𝓥 c.β_lt (sym (β_is c.inp.prime c.some))) in
      let hγ : o.c ≤ c.kγ = size_le ρ c.kγ h.γ_is.quotient.is_row h.γ_is.size (d.lt_eq ρ.𝓥 c.γ_lt (sym (γ_is c.inp.prime c.some))) in
      let rβ : c.kβ + l.m0 ≤ 33 = c.room_m0 l.m0 (i.sizes 0) in
      let rγ : c.kγ + l.n0 ≤ 33 = c.room_n0 l.n0 (i.sizes 3) in record {
        modulus = i.modulus;
        prime = i.prime;
        hx = h.β_is.quotient.is_row;
        hy = i.rows 0;
        hz = h.γ_is.quotient.is_row;
        hv = i.rows 3;
        cx = size_cut h.β_is.quotient.is_row h.β_is.size;
        cy = size_cut (i.rows 0) (i.sizes 0);
        cz = size_cut h.γ_is.quotient.is_row h.γ_is.size;
        cv = size_cut (i.rows 3) (i.sizes 3);
        left = omega arith;
        right = omega arith;
        hr = i.ha;
        cr = size_cut i.ha i.sa;
      }

  pub coords_made : {k α : List ℕ} {n m : ℕ} → BothInGives M.p true β b.m0 true γ b.n0 va k n → QuotientInGives M.p k b.u α m
      → Coordinates M.p va vb vc b e (three α β γ) k (record { a = m; b = o.b; c = o.c })
  coords_made {k} {α} g ha = record {
    spans = record { ha = ha.quotient.is_row; hb = h.β_is.quotient.is_row; hc = h.γ_is.quotient.is_row; sa = ha.size; sb = h.β_is.size; sc = h.γ_is.size };
    is_row = g.is_row;
    law = λ pr α' β' γ' q. (ha.exact.law pr α' q.α_poly (sym q.U_α ∙ sym (off pr q)), β_is pr q, γ_is pr q, off pr q ∙ q.U_α);
  }
    where
      off : (pr : Prime M.p) {α' β' γ' : (reading M.p pr).𝓥.L.El} → Quotients pr va vb vc b e α' β' γ'
          → row (reading M.p pr) k ≡ (let o = (reading M.p pr).𝓥.L.ops in o.add (row (reading M.p pr) va) (o.neg (o.add (o.mul β' (row (reading M.p pr) b.m0)) (o.mul γ' (row (reading M.p pr) b.n0)))))
      off pr {α'} {β'} {γ'} q = let L = (reading M.p pr).𝓥.L in let o = L.ops in let R = row (reading M.p pr) in
          g.law pr
          ∙ ap₂ (λ s t. o.add (o.add (R va) (o.neg (o.mul s (R b.m0)))) (o.neg (o.mul t (R b.n0)))) (β_is pr q) (γ_is pr q)
          ∙ solve L (var 0 :+ minus (var 1 :* var 2) :+ minus (var 3 :* var 4)) (var 0 :+ minus (var 1 :* var 2 :+ var 3 :* var 4)) tt (R va ∷ β' ∷ R b.m0 ∷ γ' ∷ R b.n0 ∷ [])
