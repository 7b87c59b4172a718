-- What `next_generators` asks of its calls, and what it hands out.
--   turn_in            the rows, measured
--   lent_turn          the same of the basis lent, and turned_r_rows, turned_w_rows back
--   take_in, divided   the four that lose their common factor, and the generators
use mathlib.Core.Path.{◌≡◌, refl, sym, ap, ap₂, ◌∙◌, subst}
use mathlib.Core.List.{List, [], ◌∷◌}
use Prim.Native.Nat.{ℕ}
use native.Mathlib.Omega.{arith}
use lib.ListN.{replicate}
use Rattle.math_ring.specs.Ring.{CRing}
use Rattle.math_ring.proofs.Solve.{var, minus, one, hyp, ◌:+◌, ◌:*◌, solve, solve_by}
use Rattle.math_fp.specs.Fp.{Prime}
use Rattle.math_valued.specs.Degree.{Lt}
use Rattle.math_valued.specs.Polynomial.{polys, Poly, Divides}
use Rattle.math_valued.proofs.Degree as d
use Rattle.math_valued.proofs.Divide.{p_cancel}
use Rattle.math_valued.proofs.Polynomial.{P_path}
use Rattle.math_rows.specs.Reading.{Reading}
use Rattle.math_rows.specs.Made.{reading}
use Rattle.math_rows.specs.Row.{Size, row}
use Rattle.num_mod.specs.Prepared.{Prepared}
use Rattle.num_mod.specs.declared.Modulus.{Modulus}
use Rattle.math_ideals.specs.Basis.{Good}
use Rattle.math_chain.specs.Parts.{Parts, Cut, base}
use Rattle.math_chain.proofs.Parts.{parts, base_d}
use Rattle.math_chain.proofs.Room.{d_not_zero}
use Rattle.field_open.specs.Refusal.{Accepted}
use Rattle.basis_record.specs.Record.{setting, poly_of}
use Rattle.poly_rows.proofs.Lengths.{fits_of}
use Rattle.poly_content.specs.Common.{four, four_det, CutAsks, WithoutContentAsks, Taken}
use Rattle.basis_record.specs.Seven.{rows_of, Holds, Three, Blank}
use Rattle.basis_record.specs.declared.Seven.{Seven}
use Rattle.basis_lattice.specs.Coordinates.{Found}
use Rattle.basis_lattice.specs.declared.Spans.{Spans}
use Rattle.basis_lattice.specs.declared.Lengths.{Lengths}
use Rattle.basis_lattice.specs.declared.Lattice.{Lattice}
use Rattle.basis_lattice.specs.Lent.{Lent, seven_of, sizes_of}
use Rattle.basis_lattice.proofs.Lent.{as_lent}
use Rattle.step_coordinates.specs.Turns.{GeneratorsAsks, TurnAsks, TurnedR, TurnedW, Negated}
use Rattle.step_coordinates.proofs.Products.{Sizes, sizes, modulus}
use Rattle.step_coordinates.proofs.Turned.{r_near, w_near}
use Rattle.step_divide.specs.Generated.{Generators, generators, Generated, Divided}
use Rattle.step_divide.specs.declared.Cuts.{Cuts}

abbrev of : ℕ → ℕ → ℕ → Modulus
of p mul lim = record { p = p; m = mul; lim = lim }

-- the turns of a lent basis are those of its rows
pub lent_turn : {q : Modulus} {g h gh : List ℕ} {lk : ℕ} {b : Seven} {l : Lengths} {e : List ℕ} {ie : ℕ} {o : Three} {k : Lattice} → Lent b l e ie k → TurnAsks q g h gh lk b l e ie o
    → TurnAsks q g h gh lk (seven_of k) (sizes_of k) k.e.row.now k.ie o
lent_turn {q} {g} {h} {gh} {lk} {b} {l} {e} {ie} {o} s = as_lent s (λ b l e ie. TurnAsks q g h gh lk b l e ie o)

pub turned_r_rows : {p : ℕ} {h gh : List ℕ} {b b' : Seven} {t : Three} {o : Spans} → b' ≡ b → TurnedR p h gh b' t o → TurnedR p h gh b t o
turned_r_rows {p} {h} {gh} {b} {b'} {t} {o} = subst (λ s. TurnedR p h gh s t o)

pub turned_w_rows : {p : ℕ} {g gh : List ℕ} {b b' : Seven} {t : Three} {o : Spans} → b' ≡ b → TurnedW p g gh b' t o → TurnedW p g gh b t o
turned_w_rows {p} {g} {gh} {b} {b'} {t} {o} = subst (λ s. TurnedW p g gh s t o)

module _ {p cap : ℕ} {g h gh : List ℕ} {ie : ℕ} {b : Seven} (i : GeneratorsAsks p cap g h gh ie b) where
  abbrev ρ : Reading p
  ρ = reading p i.σ.prime

  abbrev k : Parts (setting i.σ) (rows_of i.σ b)
  k = parts (setting i.σ) (rows_of i.σ b) i.good.ideal

  z : Sizes i.σ b
  z = sizes i.σ b i.good

  pub turn_in : {mul lim lk : ℕ} {e : List ℕ} {l : Lengths} {o : Three} → Prepared (of p mul lim) → Size gh lk → Found p b e l → Blank o → TurnAsks (of p mul lim) g h gh lk b l e ie o
  turn_in r s f k = record { cap = cap; inp = i; modulus = r; sk = s; found = f; blank = k }

  -- ---- what they have in common
  module _ {x y : Three} {ox oy : Spans} (tx : TurnedR p h gh b x ox) (ty : TurnedW p g gh b y oy) {xa yc : List ℕ} (na : Negated p x.a xa ox.a) (nc : Negated p y.c yc oy.c) where
    low : (l : List ℕ) (s : Poly ρ.𝓥) (m : ℕ) → poly_of i.σ l ≡ s → Lt ρ.𝓥 s.0 m → Lt ρ.𝓥 (row ρ l) m
    low l s m e h = d.lt_eq ρ.𝓥 h (sym (ap (λ t. t.0) e))

    low_neg : {l m : List ℕ} {j : ℕ} (n : ℕ) → Negated p l m j → Lt ρ.𝓥 (row ρ l) n → Lt ρ.𝓥 (row ρ m) n
    low_neg n h u = d.lt_eq ρ.𝓥 (d.lt_neg ρ.𝓥 u) (sym (h.opposite.law i.σ.prime))

    -- the determinant does not change with the two signs
    signs : (pr : Prime p) → four_det p pr xa x.c y.a yc ≡ four_det p pr x.a x.c y.a y.c
    signs pr = let R = (reading p pr).𝓥.L in let w = row (reading p pr) in
        P_path (reading p pr).𝓥 {a = four_det p pr xa x.c y.a yc} {b = four_det p pr x.a x.c y.a y.c}
        (ap₂ (λ s t. R.ops.add (R.ops.mul (w x.c) (w y.a)) (R.ops.neg (R.ops.mul s t))) (na.opposite.law pr) (nc.opposite.law pr)
        ∙ solve R (var 0 :* var 1 :+ minus (minus (var 2) :* minus (var 3))) (var 0 :* var 1 :+ minus (var 2 :* var 3)) tt (w x.c ∷ w y.a ∷ w x.a ∷ w y.c ∷ []))

    cut_in : CutAsks p xa x.c y.a yc
    cut_in =
        let (ea, eb, ec) = tx.law i.σ i.holds k.of_r in
        let (fa, fb, fc) = ty.law i.σ i.holds k.of_w in
        let sx = tx.spans in
        let sy = ty.spans in
        record {
          rows = record { modulus = modulus i; prime = i.σ.prime; h0 = na.opposite.is_row; h2 = sx.hc; k0 = sy.ha; k2 = nc.opposite.is_row };
          left = fits_of ρ (setting i.σ).roots.dr (setting i.σ).roots.dw sx.hc sy.ha (low x.c _ (setting i.σ).roots.dr ec (r_near i).γ_lt) (low y.a _ (setting i.σ).roots.dw fa (w_near i).α_lt) (omega (arith, z.both, z.all));
          right = fits_of ρ (setting i.σ).roots.dr (setting i.σ).roots.dw na.opposite.is_row nc.opposite.is_row
              (low_neg (setting i.σ).roots.dr na (low x.a _ (setting i.σ).roots.dr ea (r_near i).α_lt)) (low_neg (setting i.σ).roots.dw nc (low y.c _ (setting i.σ).roots.dw fc (w_near i).γ_lt)) (omega (arith, z.both, z.all));
          nz = λ t. d_not_zero (setting i.σ) (rows_of i.σ b) i.good k
              (let o = (polys ρ.𝓥).ops in
              ap (λ s. s.0) (ap₂ (λ s u. o.add s (o.neg u)) (ap₂ o.mul (sym ec) (sym fa)) (ap₂ o.mul (sym ea) (sym fc)) ∙ sym (signs i.σ.prime)) ∙ t);
        }

    pub take_in : {mul lim : ℕ} {d : List ℕ} → Prepared (of p mul lim) → d ≡ replicate 32 0 → WithoutContentAsks (of p mul lim) xa ox.a x.c ox.c y.a oy.a yc oy.c d
    take_in r e = record { inp = cut_in; modulus = r; sx0 = na.size; sx2 = tx.spans.sc; sy0 = ty.spans.sa; sy2 = nc.size; blank = e }

    -- ---- the generators
    module _ {nc' mc nb mb u : List ℕ} {c l : ℕ} (t : Taken p xa x.c y.a yc (four nc' mc nb mb u c) l) where
      abbrev made : Generators
      made = generators x.b y.b mb mc nb nc' u c

      module _ {G H : List ℕ} (σ : Accepted p G H) (holds : Holds σ g h gh) (good : Good (setting σ) (rows_of σ b)) where
        abbrev q : Parts (setting σ) (rows_of σ b)
        q = parts (setting σ) (rows_of σ b) good.ideal

        abbrev R : CRing
        R = polys (setting σ).𝓥

        -- from − s = g a to s = g (− a)
        turn : {l m : List ℕ} {j : ℕ} (s f a : Poly (setting σ).𝓥) → Negated p l m j → poly_of σ l ≡ s → poly_of σ m ≡ R.ops.mul f a → s ≡ R.ops.mul f (R.ops.neg a)
        turn {l} {m} s f a h e w =
            let o : poly_of σ m ≡ R.ops.neg (poly_of σ l) = P_path (setting σ).𝓥 {a = poly_of σ m} {b = R.ops.neg (poly_of σ l)} (h.opposite.law σ.prime) in
            sym e ∙ solve_by R (var 0) (var 1 :* minus (var 2)) (hyp one (var 3) (minus (var 0)) ∷ hyp (minus one) (var 3) (var 1 :* var 2) ∷ []) tt (poly_of σ l ∷ f ∷ a ∷ poly_of σ m ∷ []) (o, (w, tt))

        off_neg : (f a : Poly (setting σ).𝓥) → Divides (setting σ).𝓥 f (R.ops.neg a) → Divides (setting σ).𝓥 f a
        off_neg f a (w, e) = (R.ops.neg w, solve_by R (var 1) (var 0 :* minus (var 2)) (hyp (minus one) (minus (var 1)) (var 0 :* var 2) ∷ []) tt (f ∷ a ∷ w ∷ []) (e, tt))

        cut : Cut (setting σ) (rows_of σ b) q
        cut =
            let w = t.off.law σ.prime in
            let (ea, eb, ec) = tx.law σ holds q.of_r in
            let (fa, fb, fc) = ty.law σ holds q.of_w in record {
              g = w.g;
              a0 = R.ops.neg (poly_of σ nc');
              a2 = poly_of σ mc;
              b0 = poly_of σ nb;
              b2 = R.ops.neg (poly_of σ mb);
              x0_eq = turn _ w.g (poly_of σ nc') na ea w.x0_eq;
              x2_eq = sym ec ∙ w.x2_eq;
              y0_eq = sym fa ∙ w.y0_eq;
              y2_eq = turn _ w.g (poly_of σ mb) nc fc w.y2_eq;
              alone = λ f a0 a2 b0 b2. w.alone f (off_neg f (poly_of σ nc') a0) a2 b0 (off_neg f (poly_of σ mb) b2);
            }

        -- d/g is the denominator of base
        d_is : poly_of σ u ≡ (base (setting σ) (rows_of σ b) q cut).U
        unfolding cut
        d_is =
            let w = t.off.law σ.prime in
            let (ea, eb, ec) = tx.law σ holds q.of_r in
            let (fa, fb, fc) = ty.law σ holds q.of_w in
            p_cancel (setting σ).𝓥 w.g _ _ w.g_has (sym w.d_eq ∙ signs σ.prime
            ∙ ap₂ (λ s u. R.ops.add s (R.ops.neg u)) (ap₂ R.ops.mul ec fa) (ap₂ R.ops.mul ea fc)
            ∙ sym (base_d (setting σ) (rows_of σ b) q good.ideal.rank cut))

        twice : (a : Poly (setting σ).𝓥) → a ≡ R.ops.neg (R.ops.neg a)
        twice a = solve R (var 0) (minus (minus (var 0))) tt (a ∷ [])

        generated : Generated σ b made
        unfolding cut
        generated =
            let (ea, eb, ec) = tx.law σ holds q.of_r in
            let (fa, fb, fc) = ty.law σ holds q.of_w in record {
              k = q;
              c = cut;
              x_is = eb;
              y_is = fb;
              mb_is = twice (poly_of σ mb);
              mc_is = refl;
              nb_is = refl;
              nc_is = twice (poly_of σ nc');
              u_is = d_is;
              g_has = (t.off.law σ.prime).g_has;
            }

      pub divided : (o : Cuts) → o.x ≡ ox.b → o.y ≡ oy.b → o.d ≡ l → Size b.m0 o.m0 → Size b.u o.u → Divided p g h gh b made o
      divided o ex ey ed sm su = record {
        are = record {
          hx = tx.spans.hb;
          hy = ty.spans.hb;
          hmb = t.off.k2;
          hmc = t.off.h2;
          hnb = t.off.k0;
          hnc = t.off.h0;
          hu = t.off.hd;
          each = λ {G} {H} σ holds good. generated σ holds good;
        };
        x_size = subst (Size x.b) (sym ex) tx.spans.sb;
        y_size = subst (Size y.b) (sym ey) ty.spans.sb;
        size_u = subst (Size u) (sym ed) t.size;
        was_m0 = sm;
        was_u = su;
      }
