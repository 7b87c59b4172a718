-- What `step_on_rows` makes is the step: the seven polynomials that come back.
use mathlib.Core.Path.{◌≡◌, sym, subst}
use mathlib.Core.List.{List}
use Prim.Native.Nat.{ℕ, ◌+◌, ◌-◌, ◌≤◌}
use Rattle.math_valued.specs.Val.{Valued}
use Rattle.math_valued.proofs.Polynomial.{P_path, const_unit}
use Rattle.num_mod.specs.Prepared.{PreparedOf, ready}
use Rattle.num_mod.specs.declared.Modulus.{Modulus}
use Rattle.math_rows.specs.Made.{reading}
use Rattle.math_rows.specs.Row.{Size}
use Rattle.field_open.specs.Refusal.{Accepted}
use Rattle.math_ideals.specs.Ideal.{Basis}
use Rattle.math_ideals.specs.Basis.{Good}
use Rattle.math_ideals.specs.Next.{Next}
use Rattle.math_chain.specs.Chain.{Degree}
use Rattle.math_chain.specs.Parts.{x1, y1, base}
use Rattle.math_chain.proofs.Changed.{changed_of}
use Rattle.math_chain.proofs.Frame.{pair, Framed, Rebased}
use Rattle.math_chain.proofs.Correct.{base_framed, step_correct}
use Rattle.basis_record.specs.Record.{setting, poly_of, basis_of}
use Rattle.basis_record.specs.Seven.{rows_of}
use Rattle.basis_record.specs.declared.Seven.{Seven}
use Rattle.step_divide.specs.Generated.{Generators, Generated, AreGenerators}
use Rattle.basis_parts.specs.Frame.{frame}
use Rattle.basis_clear.specs.Clear as reduced
use Rattle.basis_record.specs.Store.{SevenLoaded}
use Rattle.basis_finish.specs.Based.{BasisAsks, BasedAt, Based}
use Rattle.basis_record.proofs.Loads.{rows_are, rows_path, rows_good}
use Rattle.field_series.specs.Keeps.{Keeps}
use Rattle.basis_field.proofs.Keeps.{holds_of}
use Rattle.step_part.specs.Parting.{StepOnRowsAsks}
use Rattle.step_part.proofs.Loaded.{good_rows, degree_of}
use Rattle.step_next.specs.Steps.{Advanced}
use Rattle.step_next.specs.declared.StepTaken.{StepTaken}
use Rattle.step_next.proofs.Reduction.{pair_of, RowsOf, meaning, cut_low, basis_in}

-- ---- from the end of the reduction to the next basis
module _ {p : ℕ} {G H : List ℕ} (A : Accepted p G H) {g h gh : List ℕ} {dr dw : ℕ} {r w : List ℕ} (k : Keeps p G H g h gh dr dw r w)
    (b : Seven) (good : Good (setting A) (rows_of A b)) {o : Generators} (m : Generated A b o) (B' : List ℕ) where
  abbrev 𝓥 : Valued
  𝓥 = (setting A).𝓥

  abbrev base₀ : Basis (setting A)
  base₀ = base (setting A) (rows_of A b) m.k m.c

  -- base, with its rows in place of its polynomials
  abbrev base₁ : Basis (setting A)
  base₁ = record {
    U = poly_of A o.u;
    M = record { a = (base (setting A) (rows_of A b) m.k m.c).M.a; b = poly_of A o.mb; c = poly_of A o.mc };
    N = record { a = (base (setting A) (rows_of A b) m.k m.c).N.a; b = poly_of A o.nb; c = poly_of A o.nc };
  }

  same_base : base₁ ≡ base₀
  same_base = λ i. record {
    U = m.u_is i;
    M = record { a = (base (setting A) (rows_of A b) m.k m.c).M.a; b = m.mb_is i; c = m.mc_is i };
    N = record { a = (base (setting A) (rows_of A b) m.k m.c).N.a; b = m.nb_is i; c = m.nc_is i };
  }

  module _ (e : BasedAt (meaning A k) (pair_of o) o.u o.x o.y B') where
    rebased : Rebased (setting A) (poly_of A o.x) (poly_of A o.y) base₁ (basis_of A B')
    rebased = record {
      old = subst (λ z. Framed (setting A) (poly_of A o.x) (poly_of A o.y) z) (sym same_base)
          (subst (λ z. Framed (setting A) z (poly_of A o.y) base₀) (sym m.x_is) (subst (λ z. Framed (setting A) (x1 (setting A) (rows_of A b) m.k) z base₀) (sym m.y_is) (base_framed (setting A) (rows_of A b) m.k m.c)));
      new = record { M_a = ((e.k_m, e.k_m_poly), P_path 𝓥 e.M_a); N_a = ((e.k_n, e.k_n_poly), P_path 𝓥 e.N_a) };
      unit = (𝓥.const e.ν, 𝓥.const_poly e.ν);
      is_a_unit = const_unit 𝓥 (𝓥.const e.ν, 𝓥.const_poly e.ν) (e.ν, e.ν_unit, 𝓥.const_lead e.ν);
      U_eq = P_path 𝓥 e.U_eq;
      change = changed_of (reading p A.prime) (pair (setting A) base₁.M) (pair (setting A) base₁.N) (pair (setting A) (basis_of A B').M) (pair (setting A) (basis_of A B').N) e.moved;
    }

    pub made : Good (setting A) (basis_of A B') × Next (setting A) (rows_of A b) (basis_of A B')
    made = step_correct (setting A) (rows_of A b) good m.k m.c (basis_of A B')
        (subst (λ z. Rebased (setting A) z (y1 (setting A) (rows_of A b) m.k) base₀ (basis_of A B')) m.x_is
        (subst (λ z. Rebased (setting A) (poly_of A o.x) z base₀ (basis_of A B')) m.y_is
        (subst (λ z. Rebased (setting A) (poly_of A o.x) (poly_of A o.y) z (basis_of A B')) same_base rebased)))
        e.numbers

-- ---- what `step_on_rows` asks and makes
-- the prepared modulus in place of its number
module _ {q : Modulus} (e : PreparedOf q.p q) {r w : List ℕ} {dr dw : ℕ} {o : reduced.Pair} {d x y : List ℕ} where
  pub basis_by : {top : ℕ} → BasisAsks (frame (ready q.p) r w dr dw) o top d x y → BasisAsks (frame q r w dr dw) o top d x y
  basis_by {top} h = subst (λ m. BasisAsks (frame m r w dr dw) o top d x y) (sym e.same) h

  pub based_by : {B : List ℕ} → Based (frame q r w dr dw) o d x y B → Based (frame (ready q.p) r w dr dw) o d x y B
  based_by {B} h = subst (λ m. Based (frame m r w dr dw) o d x y B) e.same h

pub advance_by : {p : ℕ} {q : Modulus} {g h gh : List ℕ} {dr dw : ℕ} {r w B : List ℕ} → PreparedOf p q → StepOnRowsAsks p g h gh dr dw r w B → StepOnRowsAsks q.p g h gh dr dw r w B
advance_by {g = g} {h = h} {gh = gh} {dr = dr} {dw = dw} {r = r} {w = w} {B = B} e i = subst (λ p. StepOnRowsAsks p g h gh dr dw r w B) (sym e.is) i

pub advanced_by : {p : ℕ} {q : Modulus} {g h gh : List ℕ} {dr dw : ℕ} {r w B : List ℕ} {a : StepTaken} → PreparedOf p q → Advanced q.p g h gh dr dw r w B a → Advanced p g h gh dr dw r w B a
advanced_by {g = g} {h = h} {gh = gh} {dr = dr} {dw = dw} {r = r} {w = w} {B = B} {a = a} e i = subst (λ p. Advanced p g h gh dr dw r w B a) e.is i

module _ {p : ℕ} {g h gh : List ℕ} {n dr dw : ℕ} {r w B : List ℕ} (i : StepOnRowsAsks p g h gh dr dw r w B) (n_is : n ≡ dr + dw) {b : Seven} (l : SevenLoaded B b) where
  abbrev A : Accepted p i.G i.H
  A = i.keeps.accepted

  abbrev good_here : Good (setting i.keeps.accepted) (rows_of i.keeps.accepted b)
  good_here = good_rows i n_is l

  generator_rows : {o : Generators} → AreGenerators p g h gh b o → RowsOf p o
  generator_rows ho = record { hx = ho.hx; hy = ho.hy; hmb = ho.hmb; hmc = ho.hmc; hnb = ho.hnb; hnc = ho.hnc; hu = ho.hu }

  pub cut_fits : {o : Generators} → AreGenerators p g h gh b o → o.cut ≤ n
  cut_fits ho = cut_low A i.keeps n_is b good_here (generator_rows ho) (ho.each A (holds_of i.keeps A) good_here)

  pub reduced_in : {o : Generators} → AreGenerators p g h gh b o → BasisAsks (frame (ready p) r w dr dw) (pair_of o) (n + 1 - o.cut) o.u o.x o.y
  reduced_in ho = basis_in A i.keeps n_is b good_here (generator_rows ho) (ho.each A (holds_of i.keeps A) good_here)

  pub advanced_of : {o : Generators} → AreGenerators p g h gh b o → (lm lu : ℕ) → Size b.m0 lm → Size b.u lu
      → (a : StepTaken) → Based (frame (ready p) r w dr dw) (pair_of o) o.u o.x o.y a.basis → a.degree ≡ lm - lu → Advanced p g h gh dr dw r w B a
  advanced_of {o} ho lm lu sm su a hb e = λ G H kp rec.
      let goodAt : (A : Accepted p G H) → Good (setting A) (rows_of A b) = λ A. rows_good A l (rec.good A) in
      let step : (A : Accepted p G H) → Good (setting A) (basis_of A a.basis) × Next (setting A) (rows_of A b) (basis_of A a.basis) =
      λ A. made A kp b (goodAt A) (ho.each A (holds_of kp A) (goodAt A)) a.basis (hb.meant (meaning A kp)) in
      record {
        is_a_record = record { size = hb.size; each = hb.each; good = λ A. (step A).0 };
        next = λ A. subst (λ z. Next (setting A) z (basis_of A a.basis)) (rows_path A l) (step A).1;
        degree = λ A. subst (λ z. Degree (setting A) z a.degree) (rows_path A l) (subst (Degree (setting A) (rows_of A b)) (sym e) (degree_of A b (rows_are l rec.each) (goodAt A) lm lu sm su).1);
      }
