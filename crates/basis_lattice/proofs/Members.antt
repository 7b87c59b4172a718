-- Membership by exact divisions.
--   rest_none, rest_some   a division is exact exactly where its rest has no coefficient
--   inside_both            a rest by U times a row of 17 fits
--   inside_yes, inside_only   U divides a − (b m + c n) exactly where the last rest is 0
--   member_first, member_second, member_of, member_in   and the three divisions
use mathlib.Core.Path.{◌≡◌, sym, ap, ap₂, ◌∙◌, subst}
use mathlib.Core.Bool.{true}
use mathlib.Core.List.{List, [], ◌∷◌}
use Prim.Native.Nat.{ℕ, suc, ◌+◌, ◌<◌, ◌≤◌}
use native.Mathlib.Omega.{arith}
use Rattle.num_mod.specs.declared.Modulus.{Modulus}
use Rattle.math_ring.proofs.Solve.{var, hyp, one, zer, minus, ◌:+◌, ◌:*◌, solve, solve_by}
use Rattle.math_fp.specs.Fp.{Prime}
use Rattle.math_valued.specs.Degree.{Has}
use Rattle.math_valued.proofs.Degree as d
use Rattle.math_rows.specs.Reading.{Reading}
use Rattle.math_rows.specs.Made.{reading}
use Rattle.math_rows.specs.Row.{Size, row}
use Rattle.math_rows.proofs.Rows.{row_poly, size_le}
use Rattle.math_rows.proofs.Floors.{zero_row}
use Rattle.math_rows.proofs.Quotient.{division_unique}
use Rattle.poly_rows.specs.Leaf.{Short}
use Rattle.poly_rows.specs.Division.{Inverts, Divided}
use Rattle.poly_rows.proofs.Division.{divided}
use Rattle.poly_rows.proofs.Lengths.{size_below, size_of, inverts_has}
use Rattle.poly_lent.specs.Sized.{BothInAsks, BothInGives}
use Rattle.poly_divide.specs.Divide.{LessInGives, DivideInGives}
use Rattle.poly_lent.proofs.Mixing.{size_cut}
use Rattle.basis_record.specs.declared.Seven.{Seven}
use Rattle.basis_lattice.specs.Coordinates.{ElementAsks, OuterGives}
use Rattle.basis_lattice.specs.Lattice.{InsideAsks, InsideAt, MemberAt}
use Rattle.basis_lattice.specs.declared.Lengths.{Lengths}
use Rattle.basis_lattice.specs.declared.OuterSpans.{OuterSpans}

abbrev of : ℕ → ℕ → ℕ → Modulus
of p mul lim = record { p = p; m = mul; lim = lim }

module _ {p : ℕ} (pr : Prime p) where
  abbrev ρ : Reading p
  ρ = reading p pr

  open reading p pr use {𝓥}
  open 𝓥 use {L, IsPoly}
  open L.ops use {add as ◌⊕◌, mul as ◌⊗◌, neg as ⊖◌, 𝟎}

  infixl 60 ◌⊕◌
  infixl 70 ◌⊗◌
  infix 80 ⊖◌
  module _ {a b q r : List ℕ} {m : ℕ} (h : Divided p a b q r) (s : Size r m) where
    pub rest_none : m ≡ 0 → row ρ a ≡ row ρ b ⊗ row ρ q
    rest_none e = h.law pr ∙ ap (λ z. row ρ q ⊗ row ρ b ⊕ z) (zero_row ρ r (subst (Size r) e s)) ∙ solve L (var 0 :* var 1 :+ zer) (var 1 :* var 0) tt (row ρ q ∷ row ρ b ∷ [])

    pub rest_some : (n : ℕ) → Has 𝓥 (row ρ b) n → (w : L.El) → IsPoly w → row ρ a ≡ row ρ b ⊗ w → (m ≡ 0) × (row ρ q ≡ w)
    rest_some n hb w hw e =
        let (eq, er) = division_unique ρ (row ρ a) (row ρ b) (row ρ q) (row ρ r) w 𝟎 n hb (row_poly ρ q) hw (h.law pr) (e ∙ solve L (var 0 :* var 1) (var 1 :* var 0 :+ zer) tt (row ρ b ∷ w ∷ [])) (h.low pr n hb) (𝓥.lead_zero n 0) in
        let l : m ≤ 0 = size_le ρ 0 h.r_row s (d.lt_eq 𝓥 (𝓥.lead_zero 0 0) (sym er)) in
        (omega arith, eq)

  -- a rest by u times a row of 17
  rest_room : {b q r m u : List ℕ} {i j : ℕ} → Divided p b u q r → Short p u 17 → Inverts p u 1 → Short p m 17 → Size r i → Size m j → i + j ≤ 33
  rest_room {b} {q} {r} {m} {u} {i} {j} h hu by hm si sj =
      let (n, hn) = inverts_has pr hu.is_row by in
      let l : i ≤ n = size_le ρ n h.r_row si (h.low pr n hn) in
      let k : n < 17 = small n hn in
      let t : j ≤ 17 = size_below hm sj in
      omega arith
    where
      small : (n : ℕ) → Has 𝓥 (row ρ u) n → n < 17
      small n hn = let k : suc n ≤ 17 = size_below hu (size_of ρ hu.is_row hn) in omega arith

  module _ {mul lim : ℕ} {a : List ℕ} {na : ℕ} {b : List ℕ} {nb : ℕ} {c : List ℕ} {nc : ℕ} {m : List ℕ} {lm : ℕ} {n : List ℕ} {ln : ℕ} {u : List ℕ} {lu : ℕ}
      (i : InsideAsks (of p mul lim) a na b nb c nc m lm n ln u lu) {q₁ r₁ q₂ r₂ : List ℕ} {j₁ k₁ j₂ k₂ : ℕ} (db : DivideInGives p b u q₁ r₁ j₁ k₁) (dc : DivideInGives p c u q₂ r₂ j₂ k₂) where
    pub inside_both : BothInAsks (of p mul lim) r₁ k₁ m lm r₂ k₂ n ln a na
    inside_both = record {
      modulus = i.modulus;
      prime = pr;
      hx = db.divided.r_row;
      hy = i.hm.is_row;
      hz = dc.divided.r_row;
      hv = i.hn.is_row;
      cx = size_cut db.divided.r_row db.sr;
      cy = size_cut i.hm.is_row i.sm;
      cz = size_cut dc.divided.r_row dc.sr;
      cv = size_cut i.hn.is_row i.sn;
      left = rest_room db.divided i.hu i.by_u i.hm db.sr i.sm;
      right = rest_room dc.divided i.hu i.by_u i.hn dc.sr i.sn;
      hr = i.ha;
      cr = size_cut i.ha i.sa;
    }

  module _ {mul lim : ℕ} {a : List ℕ} {na : ℕ} {b : List ℕ} {nb : ℕ} {c : List ℕ} {nc : ℕ} {m : List ℕ} {lm : ℕ} {n : List ℕ} {ln : ℕ} {u : List ℕ} {lu : ℕ}
      (i : InsideAsks (of p mul lim) a na b nb c nc m lm n ln u lu) {q₁ r₁ q₂ r₂ h q r : List ℕ} {k l : ℕ} (db : Divided p b u q₁ r₁) (dc : Divided p c u q₂ r₂)
      (hh : BothInGives p true r₁ m true r₂ n a h k) (dh : Divided p h u q r) (s : Size r l) where
    -- h = a − (r₁ m + r₂ n)
    h_is : row ρ h ≡ row ρ a ⊕ ⊖ (row ρ r₁ ⊗ row ρ m ⊕ row ρ r₂ ⊗ row ρ n)
    h_is = hh.law pr ∙ solve L (var 0 :+ minus (var 1 :* var 2) :+ minus (var 3 :* var 4)) (var 0 :+ minus (var 1 :* var 2 :+ var 3 :* var 4)) tt (row ρ a ∷ row ρ r₁ ∷ row ρ m ∷ row ρ r₂ ∷ row ρ n ∷ [])

    pub inside_yes : l ≡ 0 → InsideAt pr a b c m n u
    inside_yes e = record {
      α = row ρ q ⊕ ⊖ (row ρ q₁ ⊗ row ρ m ⊕ row ρ q₂ ⊗ row ρ n);
      α_poly = 𝓥.closed.add _ _ (row_poly ρ q) (𝓥.closed.neg _ (𝓥.closed.add _ _ (𝓥.closed.mul _ _ (row_poly ρ q₁) (row_poly ρ m)) (𝓥.closed.mul _ _ (row_poly ρ q₂) (row_poly ρ n))));
      U_α = solve_by L (var 0 :+ minus (var 1 :* var 3 :+ var 2 :* var 4)) (var 5 :* (var 6 :+ minus (var 7 :* var 3 :+ var 8 :* var 4)))
          (hyp (minus (var 3)) (var 1) (var 7 :* var 5 :+ var 9) ∷ hyp (minus (var 4)) (var 2) (var 8 :* var 5 :+ var 10) ∷ hyp one (var 0 :+ minus (var 9 :* var 3 :+ var 10 :* var 4)) (var 5 :* var 6) ∷ []) tt
          (row ρ a ∷ row ρ b ∷ row ρ c ∷ row ρ m ∷ row ρ n ∷ row ρ u ∷ row ρ q ∷ row ρ q₁ ∷ row ρ q₂ ∷ row ρ r₁ ∷ row ρ r₂ ∷ [])
          (db.law pr, (dc.law pr, (sym h_is ∙ rest_none dh s e, tt)));
    }

    pub inside_only : InsideAt pr a b c m n u → l ≡ 0
    inside_only t =
        let (k, hk) = inverts_has pr i.hu.is_row i.by_u in
        (rest_some dh s k hk (t.α ⊕ (row ρ q₁ ⊗ row ρ m ⊕ row ρ q₂ ⊗ row ρ n))
        (𝓥.closed.add _ _ t.α_poly (𝓥.closed.add _ _ (𝓥.closed.mul _ _ (row_poly ρ q₁) (row_poly ρ m)) (𝓥.closed.mul _ _ (row_poly ρ q₂) (row_poly ρ n))))
        (h_is ∙ solve_by L (var 0 :+ minus (var 9 :* var 3 :+ var 10 :* var 4)) (var 5 :* (var 6 :+ (var 7 :* var 3 :+ var 8 :* var 4)))
        (hyp (var 3) (var 1) (var 7 :* var 5 :+ var 9) ∷ hyp (var 4) (var 2) (var 8 :* var 5 :+ var 10) ∷ hyp one (var 0 :+ minus (var 1 :* var 3 :+ var 2 :* var 4)) (var 5 :* var 6) ∷ []) tt
        (row ρ a ∷ row ρ b ∷ row ρ c ∷ row ρ m ∷ row ρ n ∷ row ρ u ∷ t.α ∷ row ρ q₁ ∷ row ρ q₂ ∷ row ρ r₁ ∷ row ρ r₂ ∷ [])
        (db.law pr, (dc.law pr, (t.U_α, tt))))).0

  module _ {mul lim : ℕ} {va : List ℕ} {na : ℕ} {vb : List ℕ} {nb : ℕ} {vc : List ℕ} {nc : ℕ} {b : Seven} {l : Lengths} {e : List ℕ} {ie : ℕ} (i : ElementAsks (of p mul lim) va na vb nb vc nc b l e ie)
      {s t q₁ q₂ : List ℕ} {o : OuterSpans} (h : OuterGives p vb vc b e s t q₁ q₂ o) {r₁ : List ℕ} {k : ℕ} (x : LessInGives p q₁ e s r₁ k) where
    he : (n : ℕ) × Has 𝓥 (row ρ e) n
    he = inverts_has pr i.he i.by_e

    by_β : Divided p s e q₁ r₁
    by_β = divided p s e q₁ r₁ h.β_is.quotient x.is_row x.law

    first : MemberAt pr va vb vc b e → (k ≡ 0) × ((m : MemberAt pr va vb vc b e) → row ρ q₁ ≡ m.β)
    first m = ((rest_some by_β x.size he.0 he.1 m.β m.quotients.β_poly (h.s_is.law pr ∙ m.quotients.e_β)).0, λ o. (rest_some by_β x.size he.0 he.1 o.β o.quotients.β_poly (h.s_is.law pr ∙ o.quotients.e_β)).1)

    pub member_first : MemberAt pr va vb vc b e → k ≡ 0
    member_first m = (first m).0

    module _ {r₂ : List ℕ} {j : ℕ} (y : LessInGives p q₂ e t r₂ j) where
      by_γ : Divided p t e q₂ r₂
      by_γ = divided p t e q₂ r₂ h.γ_is.quotient y.is_row y.law

      second : (m : MemberAt pr va vb vc b e) → (j ≡ 0) × (row ρ q₂ ≡ m.γ)
      second m = rest_some by_γ y.size he.0 he.1 m.γ m.quotients.γ_poly (h.t_is.law pr ∙ m.quotients.e_γ)

      pub member_second : MemberAt pr va vb vc b e → j ≡ 0
      member_second m = (second m).0

      pub member_of : k ≡ 0 → j ≡ 0 → InsideAt pr va q₁ q₂ b.m0 b.n0 b.u → MemberAt pr va vb vc b e
      member_of ek el n = record {
        α = n.α;
        β = row ρ q₁;
        γ = row ρ q₂;
        quotients = record {
          α_poly = n.α_poly;
          β_poly = row_poly ρ q₁;
          γ_poly = row_poly ρ q₂;
          e_β = sym (h.s_is.law pr) ∙ rest_none by_β x.size ek;
          e_γ = sym (h.t_is.law pr) ∙ rest_none by_γ y.size el;
          U_α = n.U_α;
        };
      }

      pub member_in : MemberAt pr va vb vc b e → InsideAt pr va q₁ q₂ b.m0 b.n0 b.u
      member_in m = record {
        α = m.α;
        α_poly = m.quotients.α_poly;
        U_α = ap₂ (λ β γ. row ρ va ⊕ ⊖ (β ⊗ row ρ b.m0 ⊕ γ ⊗ row ρ b.n0)) ((first m).1 m) (second m).1 ∙ m.quotients.U_α;
      }
