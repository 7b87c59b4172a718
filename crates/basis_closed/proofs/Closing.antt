-- Rank and closure: from the answers on U, M and N to `Under`.
--   lengths_in                    what `lengths_of` asks
--   e_nonzero, e_inverts          e = M1 N2 − M2 N1 and the inverse of its leading coefficient
--   keep                          what `closed_on` asks
--   no_rank no_U no_M of_N        the answer of `closed_under_r_and_w`
--   under_unique                     two answers of one question are equal
use mathlib.Core.Path.{◌≡◌, refl, sym, ap, ◌∙◌, subst}
use mathlib.Core.Logic.{◌≢◌}
use mathlib.Core.Bool.{Bool, true, false, true≢false}
use mathlib.Core.List.{List}
use Prim.Native.Nat.{ℕ, ◌*◌, ◌-◌, ◌%◌, ◌<◌, ◌≤◌}
use native.Mathlib.Nat.{mul_comm}
use native.Mathlib.Omega.{arith}
use lib.ListN.{get_or, replicate}
use Rattle.math_ring.proofs.Laws as rg
use Rattle.math_valued.specs.Polynomial.{polys}
use Rattle.math_valued.proofs.Degree.{lt_eq}
use Rattle.math_valued.proofs.Polynomial.{P_path}
use Rattle.num_power.specs.Powers.{Nonzero, Inverse}
use Rattle.math_rows.specs.Made.{reading}
use Rattle.math_rows.specs.Row.{Size}
use Rattle.math_rows.proofs.Rows.{size_le}
use Rattle.math_rows.proofs.Floors.{zero_row}
use Rattle.poly_rows.specs.Leaf.{Cut, Short}
use Rattle.num_mod.specs.declared.Modulus.{Modulus}
use Rattle.poly_rows.specs.Division.{Inverts}
use Rattle.poly_rows.proofs.Leaf.{size_unique, zeros_row, zeros_size}
use Rattle.poly_rows.proofs.Lengths.{short_up, short_cut, fits_short}
use Rattle.math_ideals.specs.Setting.{P}
use Rattle.math_ideals.specs.Ideal.{det, Coords}
use Rattle.math_ideals.proofs.Sizes.{O_path}
use Rattle.math_ideals.specs.Element.{times_r, times_w}
use Rattle.field_open.specs.Refusal.{Accepted}
use Rattle.basis_record.specs.Record.{setting, poly_of}
use Rattle.base_answers.specs.Decides.{Decides}
use Rattle.base_answers.proofs.Tests.{answer_no, decides_unique, carried}
use Rattle.basis_record.specs.Seven.{rows_of, Holds}
use Rattle.basis_record.specs.declared.Seven.{Seven}
use Rattle.basis_record.proofs.Sevens.{every}
use Rattle.basis_lattice.specs.Coordinates.{LengthsOfAsks, Found}
use Rattle.basis_closed.specs.Closed.{ClosedUnderRAndWAsks, Under, ClosedOnAsks, Keeps, Kept, Closed, element}
use Rattle.basis_lattice.specs.declared.Lengths.{Lengths}

refused : {r : Bool} {A : Type 0} → r ≡ false → (A → ⊥) → Decides r A
refused f n = record { yes! = λ e. absurd (true≢false (sym e ∙ f)); no! = λ e. n }

abbrev pub zeros : List ℕ
zeros = replicate 32 0

pub zeros_short : {p : ℕ} → 1 < p → Short p zeros 10
zeros_short l = record { is_row = zeros_row _ l; above = λ i k. zeros_size.above i (omega arith) }

-- what the rows of a lent basis keep
pub on_rows : {p : ℕ} {g h gh : List ℕ} {b b' : Seven} {o : Bool} (va vb vc : Seven → List ℕ) → b' ≡ b → Keeps p g h gh (va b') (vb b') (vc b') b' o → Keeps p g h gh (va b) (vb b) (vc b) b o
on_rows {p} {g} {h} {gh} {b} {b'} {o} va vb vc = subst (λ s. Keeps p g h gh (va s) (vb s) (vc s) s o)

module _ {M : Modulus} {g h gh : List ℕ} {b : Seven} (i : ClosedUnderRAndWAsks M g h gh b) where
  pub lengths_in : {e : List ℕ} → e ≡ replicate 32 0 → LengthsOfAsks M 17 b e
  lengths_in z = let r = i.room.rows in record {
    modulus = i.modulus;
    prime = i.given.σ.prime;
    rows = λ j. (r j).is_row;
    ends = every {b = b} (λ x. Cut x 17) (cut (r 0) (omega arith)) (cut (r 1) (omega arith)) (cut (r 2) (omega arith)) (cut (r 3) (omega arith)) (cut (r 4) (omega arith)) (cut (r 5) (omega arith)) (cut (r 6) (omega arith));
    left = fits_short (r 1) (r 5) (omega arith);
    right = fits_short (r 2) (r 4) (omega arith);
    blank = z;
  }
    where
      cut : {x : List ℕ} {n : ℕ} → Short M.p x n → n ≤ 17 → Cut x 17
      cut h l = short_cut (short_up h l) (omega arith)

  module _ {e : List ℕ} {l : Lengths} (f : Found M.p b e l) where
    pub no_rank : l.e ≡ 0 → Under M.p g h gh b false
    no_rank z G H σ k = answer_no (λ c. c.rank (sym (f.det.law σ.prime) ∙ zero_row (reading M.p σ.prime) e (subst (Size e) z f.det.size)))

    pub e_nonzero : l.e ≢ 0 → Nonzero M.p (get_or e (l.e - 1) 0)
    e_nonzero nz = record {
      modulus = i.given.modulus;
      prime = i.given.σ.prime;
      pos = (let t : get_or e (l.e - 1) 0 ≢ 0 = f.det.size.top (omega (arith, nz)) in omega (arith, t));
      below = f.det.is_row.each (l.e - 1);
    }

    module _ {ie : ℕ} (inv : Inverse M.p (get_or e (l.e - 1) 0) ie) where
      e_inverts : Inverts M.p e ie
      e_inverts = record { below = inv.below; law = λ n t. ap (λ j. (ie * get_or e (j - 1) 0) % M.p) (size_unique t f.det.size) ∙ ap (λ z. z % M.p) (mul_comm ie (get_or e (l.e - 1) 0)) ∙ inv.law }

      pub keep : {lg lh lk na nb nc : ℕ} {va vb vc : List ℕ} → Size g lg → Size h lh → Size gh lk → Short M.p va 17 → Short M.p vb 10 → Short M.p vc 10
          → Size va na → Size vb nb → Size vc nc → ClosedOnAsks M g lg h lh gh lk va na vb nb vc nc b l e ie
      keep sg sh sk ha hb hc sa sb sc = record {
        given = i.given;
        modulus = i.modulus;
        sg = sg;
        sh = sh;
        sk = sk;
        room = i.room;
        ha = ha;
        hb = hb;
        hc = hc;
        sa = sa;
        sb = sb;
        sc = sc;
        found = f;
        by_e = e_inverts;
      }

    -- r U and w U, where U has no part of r and w
    module _ {G H : List ℕ} (σ : Accepted M.p G H) where
      none : poly_of σ zeros ≡ (polys (setting σ).𝓥).ops.𝟎
      none = P_path (setting σ).𝓥 (zero_row (reading M.p σ.prime) zeros zeros_size)

      none_by : (x : P (setting σ)) → (polys (setting σ).𝓥).ops.mul (poly_of σ zeros) x ≡ (polys (setting σ).𝓥).ops.𝟎
      none_by x = ap (λ z. (polys (setting σ).𝓥).ops.mul z x) none ∙ rg.zero_mul' (polys (setting σ).𝓥) x

      r_flat : times_r (setting σ) (element σ b.u zeros zeros) ≡ record { a = (polys (setting σ).𝓥).ops.𝟎; b = poly_of σ b.u; c = (polys (setting σ).𝓥).ops.𝟎 }
      r_flat = O_path (setting σ) (none_by _) refl (none_by _)

      w_flat : times_w (setting σ) (element σ b.u zeros zeros) ≡ record { a = (polys (setting σ).𝓥).ops.𝟎; b = (polys (setting σ).𝓥).ops.𝟎; c = poly_of σ b.u }
      w_flat = O_path (setting σ) (none_by _) (none_by _) refl

      kept_one : Closed σ b → Kept σ b (element σ b.u zeros zeros)
      kept_one c = record { by_r = subst (Coords (setting σ) (rows_of σ b)) (sym r_flat) c.r_one; by_w = subst (Coords (setting σ) (rows_of σ b)) (sym w_flat) c.w_one }

      rank_of : l.e ≢ 0 → (det (setting σ) (rows_of σ b)).0 ≢ (setting σ).𝓥.L.ops.𝟎
      rank_of nz z =
          let ρ = reading M.p σ.prime in
          let k : l.e ≤ 0 = size_le ρ 0 f.det.is_row f.det.size (lt_eq ρ.𝓥 (ρ.𝓥.lead_zero 0 0) (sym (f.det.law σ.prime ∙ z))) in
          nz (omega arith)

      closed_of : l.e ≢ 0 → Kept σ b (element σ b.u zeros zeros) → Kept σ b (rows_of σ b).M → Kept σ b (rows_of σ b).N → Closed σ b
      closed_of nz one m n = record {
        rank = rank_of nz;
        r_one = subst (Coords (setting σ) (rows_of σ b)) r_flat one.by_r;
        w_one = subst (Coords (setting σ) (rows_of σ b)) w_flat one.by_w;
        r_M = m.by_r;
        w_M = m.by_w;
        r_N = n.by_r;
        w_N = n.by_w;
      }

    module _ {o : Bool} (hU : Keeps M.p g h gh b.u zeros zeros b o) where
      pub no_U : {v : Bool} → v ≡ false → o ≡ false → Under M.p g h gh b v
      no_U f t G H σ k = refused f (λ c. (hU G H σ k).no! t (kept_one σ c))

      module _ (tU : o ≡ true) {o₁ : Bool} (hM : Keeps M.p g h gh b.m0 b.m1 b.m2 b o₁) where
        pub no_M : {v : Bool} → v ≡ false → o₁ ≡ false → Under M.p g h gh b v
        no_M f t G H σ k = refused f (λ c. (hM G H σ k).no! t (record { by_r = c.r_M; by_w = c.w_M }))

        pub of_N : o₁ ≡ true → l.e ≢ 0 → {o₂ : Bool} → Keeps M.p g h gh b.n0 b.n1 b.n2 b o₂ → Under M.p g h gh b o₂
        of_N t nz hN G H σ k = carried (closed_of σ nz ((hU G H σ k).yes! tU) ((hM G H σ k).yes! t)) (λ c. record { by_r = c.r_N; by_w = c.w_N }) (hN G H σ k)

pub under_unique : {p : ℕ} {g h gh G H : List ℕ} {b : Seven} (σ : Accepted p G H) → Holds σ g h gh → (o q : Bool) → Under p g h gh b o → Under p g h gh b q → o ≡ q
under_unique σ k o q x y = decides_unique o q (Closed σ _) (x _ _ σ k) (y _ _ σ k)
