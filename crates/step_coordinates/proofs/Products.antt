-- From a good basis to the generators of the next ideal: sizes of all products on the way, the exact quotients, and `AreGenerators`.
use mathlib.Core.Path.{◌≡◌, refl, sym, ap, ◌∙◌}
use mathlib.Core.Logic.{◌≢◌}
use mathlib.Core.List.{List, [], ◌∷◌}
use Prim.Native.Nat.{ℕ, zero, suc, ◌+◌, ◌*◌, ◌-◌, ◌%◌, ◌<◌, ◌≤◌}
use native.Mathlib.Omega.{arith}
use lib.ListN.{get_or, replicate}
use Rattle.math_ring.proofs.Solve.{var, hyp, one as one₁, minus, ◌:*◌, solve_by}
use Rattle.math_valued.specs.Degree.{Has, Lt}
use Rattle.math_valued.proofs.Degree as d
use Rattle.math_valued.proofs.Polynomial.{not_zero}
use Rattle.num_mod.specs.Residue.{IsModulus}
use Rattle.math_rows.specs.Reading.{Reading}
use Rattle.math_rows.specs.Made.{reading}
use Rattle.math_rows.specs.Row.{Row, Size, row}
use Rattle.math_rows.proofs.Rows.{size_le, size_lead, size_top, size_has, cast_sub}
use Rattle.math_rows.proofs.Floors.{sized, zero_row}
use Rattle.poly_rows.specs.Leaf.{Cut, Product}
use Rattle.num_mod.specs.Prepared.{Prepared}
use Rattle.num_mod.specs.declared.Modulus.{Modulus}
use Rattle.poly_rows.specs.Division.{Inverts}
use Rattle.poly_rows.proofs.Lengths.{one_mod, fits_of, monic_inverts}
use Rattle.poly_lent.specs.Sized.{TimesInAsks, DetInGives}
use Rattle.math_ideals.specs.Setting.{Setting, d_gh}
use Rattle.math_ideals.specs.Basis.{Good}
use Rattle.math_ideals.proofs.Values.{dr_dw, dr_eq, dr_pos, dw_pos}
use Rattle.math_ideals.specs.Ideal.{Coords}
use Rattle.math_ideals.specs.Element.{times_r, times_w}
use Rattle.math_ideals.proofs.Degrees.{Small, small, det_lead}
use Rattle.field_open.specs.Refusal.{Accepted}
use Rattle.basis_record.specs.Record.{setting}
use Rattle.basis_record.specs.Seven.{row_at, rows_of, Holds}
use Rattle.basis_record.specs.declared.Seven.{Seven}
use Rattle.basis_lattice.specs.Coordinates.{Quotients, LengthsOfAsks}
use Rattle.basis_lattice.proofs.Elements.{quot_of, times_g_is, times_h_is, times_gh_is}
use Rattle.step_coordinates.specs.Turns.{GeneratorsAsks}

-- how large the i-th row of a good basis can be
abbrev of : ℕ → ℕ → ℕ → Modulus
of p mul lim = record { p = p; m = mul; lim = lim }

abbrev pub bound : Setting → ℕ → ℕ
bound S zero = suc (d_gh S)
bound S (suc zero) = suc S.roots.dw
bound S (suc (suc zero)) = suc S.roots.dr
bound S (suc (suc (suc zero))) = d_gh S
bound S (suc (suc (suc (suc zero)))) = S.roots.dw
bound S (suc (suc (suc (suc (suc zero))))) = S.roots.dr
bound S (suc (suc (suc (suc (suc (suc i)))))) = d_gh S

bound_low : (S : Setting) (i : ℕ) → bound S i ≤ suc (d_gh S)
bound_low S zero = omega arith
bound_low S (suc zero) = omega (arith, dr_dw S)
bound_low S (suc (suc zero)) = omega (arith, dr_dw S)
bound_low S (suc (suc (suc zero))) = omega arith
bound_low S (suc (suc (suc (suc zero)))) = omega (arith, dr_dw S)
bound_low S (suc (suc (suc (suc (suc zero))))) = omega (arith, dr_dw S)
bound_low S (suc (suc (suc (suc (suc (suc i)))))) = omega arith

module _ {p : ℕ} {G H : List ℕ} (σ : Accepted p G H) (b : Seven) where
  -- what the sizes of a good basis say of its rows
  pub record Sizes : Type 0 where
    pub rows : (i : ℕ) → Lt (reading p σ.prime).𝓥 (row (reading p σ.prime) (row_at b i)) (bound (setting σ) i)
    pub two_r : (setting σ).roots.dr + (setting σ).roots.dr ≡ σ.deg_h + (setting σ).roots.dw
    pub both : (setting σ).roots.dr + (setting σ).roots.dw ≡ σ.deg_g + σ.deg_h
    pub r_pos : 1 ≤ (setting σ).roots.dr
    pub w_pos : 1 ≤ (setting σ).roots.dw
    pub all : σ.deg_g + σ.deg_h ≤ 16

  module _ (good : Good (setting σ) (rows_of σ b)) where
    s : Small (setting σ) (rows_of σ b)
    s = small (setting σ) (rows_of σ b) good

    both : (setting σ).roots.dr + (setting σ).roots.dw ≡ d_gh (setting σ)
    both = dr_dw (setting σ)

    row_bound : (i : ℕ) → Lt (reading p σ.prime).𝓥 (row (reading p σ.prime) (row_at b i)) (bound (setting σ) i)
    row_bound zero = d.has_up (reading p σ.prime).𝓥 (suc (d_gh (setting σ))) s.M0 (let l : s.x ≤ d_gh (setting σ) = s.x≤n in omega arith)
    row_bound (suc zero) = let 𝓥 = (reading p σ.prime).𝓥 in let l : s.x ≤ d_gh (setting σ) = s.x≤n in
        d.lt_cancel 𝓥 (suc (setting σ).roots.dw) (setting σ).roots.r_deg (d.lt_eq 𝓥 (d.has_up 𝓥 ((setting σ).roots.dr + suc (setting σ).roots.dw) s.M1 (omega (arith, both))) (𝓥.L.laws.mul_comm _ _))
    row_bound (suc (suc zero)) = let 𝓥 = (reading p σ.prime).𝓥 in let l : s.x ≤ d_gh (setting σ) = s.x≤n in
        d.lt_cancel 𝓥 (suc (setting σ).roots.dr) (setting σ).roots.w_deg (d.lt_eq 𝓥 (d.has_up 𝓥 ((setting σ).roots.dw + suc (setting σ).roots.dr) s.M2 (omega (arith, both))) (𝓥.L.laws.mul_comm _ _))
    row_bound (suc (suc (suc zero))) = s.N0
    row_bound (suc (suc (suc (suc zero)))) = let 𝓥 = (reading p σ.prime).𝓥 in
        d.lt_cancel 𝓥 (setting σ).roots.dw (setting σ).roots.r_deg (d.lt_eq 𝓥 (d.lt_up 𝓥 ((setting σ).roots.dr + (setting σ).roots.dw) s.N1 (omega (arith, both))) (𝓥.L.laws.mul_comm _ _))
    row_bound (suc (suc (suc (suc (suc zero))))) = let 𝓥 = (reading p σ.prime).𝓥 in
        d.lt_cancel 𝓥 (setting σ).roots.dr (setting σ).roots.w_deg (d.lt_eq 𝓥 (d.lt_up 𝓥 ((setting σ).roots.dw + (setting σ).roots.dr) s.N2 (omega (arith, both))) (𝓥.L.laws.mul_comm _ _))
    row_bound (suc (suc (suc (suc (suc (suc i)))))) = d.has_up (reading p σ.prime).𝓥 (d_gh (setting σ)) s.U_has s.u<n

    pub sizes : Sizes
    sizes = record { rows = row_bound; two_r = dr_eq (setting σ); both = both; r_pos = dr_pos (setting σ); w_pos = dw_pos (setting σ); all = σ.sum }

-- ---- the products that `next_generators` makes
module _ {p cap : ℕ} {g h gh : List ℕ} {ie : ℕ} {b : Seven} (i : GeneratorsAsks p cap g h gh ie b) where
  abbrev ρ : Reading p
  ρ = reading p i.σ.prime

  z : Sizes i.σ b
  z = sizes i.σ b i.good

  pub modulus : IsModulus p
  modulus = record { big = i.σ.prime.big; small = (let l : p ≤ 65535 = i.σ.high in omega arith) }

  pub g_lt : Lt ρ.𝓥 (row ρ g) (suc i.σ.deg_g)
  g_lt = d.lt_eq ρ.𝓥 (d.has_up ρ.𝓥 (suc i.σ.deg_g) (setting i.σ).roots.G_deg (omega arith)) (sym i.holds.g_is)

  pub h_lt : Lt ρ.𝓥 (row ρ h) (suc i.σ.deg_h)
  h_lt = d.lt_eq ρ.𝓥 (d.has_up ρ.𝓥 (suc i.σ.deg_h) (setting i.σ).roots.H_deg (omega arith)) (sym i.holds.h_is)

  gh_has : Has ρ.𝓥 (row ρ gh) (i.σ.deg_g + i.σ.deg_h)
  gh_has = d.has_eq ρ.𝓥 (d.has_mul ρ.𝓥 (setting i.σ).roots.G_deg (setting i.σ).roots.H_deg) (sym i.holds.gh_is)

  -- G, H and G H, each no larger than G H
  pub record Factor (y : List ℕ) : Type 0 where
    pub is_row : Row p y
    pub low : Lt ρ.𝓥 (row ρ y) (suc (i.σ.deg_g + i.σ.deg_h))

  pub by_g : Factor g
  by_g = record { is_row = i.hg; low = d.lt_up ρ.𝓥 (suc (i.σ.deg_g + i.σ.deg_h)) g_lt (omega arith) }

  pub by_h : Factor h
  by_h = record { is_row = i.hh; low = d.lt_up ρ.𝓥 (suc (i.σ.deg_g + i.σ.deg_h)) h_lt (omega arith) }

  pub by_gh : Factor gh
  by_gh = record { is_row = i.hgh; low = d.has_up ρ.𝓥 (suc (i.σ.deg_g + i.σ.deg_h)) gh_has (omega arith) }

  times_by : {mul lim : ℕ} {x y r : List ℕ} {n m : ℕ} (j k : ℕ) → Prepared (of p mul lim) → Row p x → Factor y → Lt ρ.𝓥 (row ρ x) j → suc (i.σ.deg_g + i.σ.deg_h) ≤ k → j + k ≤ 33
      → Size x n → Size y m → r ≡ replicate 32 0 → TimesInAsks (of p mul lim) x n y m r
  times_by j k w hx f lx u l sx sy t = record { modulus = w; prime = i.σ.prime; hx = hx; hy = f.is_row; sx = sx; sy = sy; fits = fits_of ρ j k hx f.is_row lx (d.lt_up ρ.𝓥 k f.low u) l _ _ sx sy; blank = t }

  pub m1_by : {mul lim : ℕ} {y r : List ℕ} {n m : ℕ} → Prepared (of p mul lim) → Factor y → Size b.m1 n → Size y m → r ≡ replicate 32 0 → TimesInAsks (of p mul lim) b.m1 n y m r
  m1_by w f = times_by (suc (setting i.σ).roots.dw) (suc (i.σ.deg_g + i.σ.deg_h)) w (i.rows 1) f (z.rows 1) (omega arith) (omega (arith, z.both, z.r_pos, z.all))

  pub m2_by : {mul lim : ℕ} {y r : List ℕ} {n m : ℕ} → Prepared (of p mul lim) → Factor y → Size b.m2 n → Size y m → r ≡ replicate 32 0 → TimesInAsks (of p mul lim) b.m2 n y m r
  m2_by w f = times_by (suc (setting i.σ).roots.dr) (suc (i.σ.deg_g + i.σ.deg_h)) w (i.rows 2) f (z.rows 2) (omega arith) (omega (arith, z.both, z.w_pos, z.all))

  -- ---- every row ends before cap
  ends : (j : ℕ) → Cut (row_at b j) cap
  ends j =
      let (n, s) = sized (row_at b j) in
      let q : n ≤ bound (setting i.σ) j = size_le ρ (bound (setting i.σ) j) (i.rows j) s (z.rows j) in
      record { size = (i.rows j).size; fits = i.fits; above = λ k w. s.above k (omega (arith, bound_low (setting i.σ) j, i.past)) }

  pub lengths_in : {mul lim : ℕ} {e : List ℕ} → Prepared (of p mul lim) → e ≡ replicate 32 0 → LengthsOfAsks (of p mul lim) cap b e
  lengths_in w t = record {
    modulus = w;
    prime = i.σ.prime;
    rows = i.rows;
    ends = ends;
    left = fits_of ρ (suc (setting i.σ).roots.dw) (setting i.σ).roots.dr (i.rows 1) (i.rows 5) (z.rows 1) (z.rows 5) (omega (arith, z.both, z.all));
    right = fits_of ρ (suc (setting i.σ).roots.dr) (setting i.σ).roots.dw (i.rows 2) (i.rows 4) (z.rows 2) (z.rows 4) (omega (arith, z.both, z.all));
    blank = t;
  }

  -- ---- division by e and by U
  pub by_e : {e : List ℕ} {k : ℕ} → DetInGives p b.m1 b.n2 b.m2 b.n1 e k → Inverts p e ie
  by_e {e} de = go (sized gh)
    where
      law_at : (n : ℕ) → Size gh (suc n) → (m : ℕ) → Size e m → (ie * get_or e (m - 1) 0) % p ≡ 1
      law_at n s zero t = absurd (i.good.ideal.rank (sym (de.law i.σ.prime) ∙ zero_row ρ e t))
      law_at n s (suc k) t =
          let K = ρ.𝓥.K in
          let a : ℕ = get_or gh n 0 in
          let l : ℕ = get_or e k 0 in
          let la : a < p = i.hgh.each n in
          let ei : ie ≡ p - a = i.inverse (suc n) s ∙ ap (λ j. p - get_or gh j 0) (let w : suc n - 1 ≡ n = omega arith in w) in
          let deg : n ≡ i.σ.deg_g + i.σ.deg_h = d.same ρ.𝓥 (size_has ρ i.hgh s) gh_has in
          let one : K.ops.mul (ρ.cast l) (ρ.cast a) ≡ K.ops.neg K.ops.𝟏 = det_lead (setting i.σ) (rows_of i.σ b) i.good
          (d.lead_eq ρ.𝓥 (size_lead ρ t) (de.law i.σ.prime) refl) (size_top ρ de.is_row t)
          (d.lead_eq ρ.𝓥 (ρ.𝓥.lead_move (i.σ.deg_g + i.σ.deg_h) 0 (size_lead ρ s) (omega arith)) i.holds.gh_is refl) in
          let c : ρ.cast ie ≡ K.ops.neg (ρ.cast a) = ap ρ.cast ei ∙ cast_sub ρ a (omega arith) in
          ap (λ j. (ie * get_or e j 0) % p) (let w : suc k - 1 ≡ k = omega arith in w)
          ∙ one_mod ρ (ie * l) i.σ.prime.big (ρ.cast_mul ie l ∙ ap (λ y. K.ops.mul y (ρ.cast l)) c
          ∙ solve_by K (minus (var 0) :* var 1) one₁ (hyp (minus one₁) (var 1 :* var 0) (minus one₁) ∷ []) tt (ρ.cast a ∷ ρ.cast l ∷ []) (one, tt))

      go : (n : ℕ) × Size gh n → Inverts p e ie
      go (zero, s) = absurd (not_zero ρ.𝓥 gh_has (zero_row ρ gh s))
      go (suc n, s) = record {
        below = (
            let a : ℕ = get_or gh n 0 in
            let la : a < p = i.hgh.each n in
            let w : suc n - 1 ≡ n = omega arith in
            let ei : ie ≡ p - a = i.inverse (suc n) s ∙ ap (λ j. p - get_or gh j 0) w in
            let nz : a ≢ 0 = λ q. s.top (omega arith) (ap (λ j. get_or gh j 0) w ∙ q) in
            omega (arith, nz));
        law = law_at n s;
      }

  pub by_u : Inverts p b.u 1
  by_u = monic_inverts i.σ.prime (i.rows 6) i.good.scaled.monic

-- ---- r m and w m
module _ {p : ℕ} {G H : List ℕ} (σ : Accepted p G H) {g h gh : List ℕ} (k : Holds σ g h gh) (b : Seven) {e : List ℕ} {n : ℕ} (de : DetInGives p b.m1 b.n2 b.m2 b.n1 e n) where
  pub quot_r : {v c : List ℕ} → Product p b.m2 gh v → Product p b.m1 h c → (q : Coords (setting σ) (rows_of σ b) (times_r (setting σ) (rows_of σ b).M))
      → Quotients σ.prime v b.m0 c b e q.α.0 q.β.0 q.γ.0
  quot_r hv hc q = quot_of σ b de _ (times_gh_is σ k hv) refl (times_h_is σ k hc) q

  pub quot_w : {v c : List ℕ} → Product p b.m1 gh v → Product p b.m2 g c → (q : Coords (setting σ) (rows_of σ b) (times_w (setting σ) (rows_of σ b).M))
      → Quotients σ.prime v c b.m0 b e q.α.0 q.β.0 q.γ.0
  quot_w hv hc q = quot_of σ b de _ (times_gh_is σ k hv) (times_g_is σ k hc) refl q
