-- The tests together are the definition: what each asks of an opened field, and what its answer says of the record.
--   given_of                      the rows of G, H and G·H, as the test of closure takes them
--   shaped_in, under_in           what the tests ask, one after the other
--   not_narrow, not_shaped, not_alone, passes_as    the answer after each
--   accepts_as, not_below         from seven rows to the 119 numbers
--   accepts_unique                   two answers to one record are equal
use mathlib.Core.Path.{◌≡◌, refl, sym, ◌∙◌, subst}
use mathlib.Core.Bool.{Bool, true, false, true≢false}
use mathlib.Core.List.{List}
use Prim.Native.Nat.{ℕ, zero, suc, ◌+◌, ◌*◌, ◌<◌, ◌≤◌}
use native.Mathlib.Omega.{arith}
use lib.ListN.{length, get_or}
use Rattle.math_valued.proofs.Degree as d
use Rattle.math_fp.specs.Fp.{Prime}
use Rattle.num_mod.specs.Prepared.{PreparedOf}
use Rattle.num_mod.specs.declared.Modulus.{Modulus}
use Rattle.math_rows.specs.Made.{reading}
use Rattle.math_ideals.specs.Basis.{Good}
use Rattle.math_ideals.specs.Tests.{Tests}
use Rattle.math_ideals.proofs.Tests.{good_of, tests_of}
use Rattle.field_open.specs.Refusal.{Accepted}
use Rattle.basis_record.specs.Record.{setting, IsRecord}
use Rattle.field_series.specs.Keeps.{Kept, Known}
use Rattle.field_series.specs.declared.OpenedField.{OpenedField}
use Rattle.basis_parts.specs.Frame.{frame, Fine, Meaning, Short}
use Rattle.poly_rows.proofs.Lengths.{row_short, monic_inverts}
use Rattle.basis_record.specs.Seven.{row_at, AreRows, rows_of}
use Rattle.basis_record.specs.declared.Seven.{Seven}
use Rattle.basis_record.specs.Store.{Loaded, SevenLoaded}
use Rattle.basis_record.proofs.Sevens.{every}
use Rattle.basis_record.proofs.Loads.{rows_path, rows_good}
use Rattle.step_coordinates.proofs.Products.{Sizes, sizes}
use Rattle.basis_scale.proofs.Start.{meaning}
use Rattle.basis_field.proofs.Keeps.{rows_hold, g_row, h_row, gh_row, holds_of, r_series, w_series, modulus, dr_is, dw_is, room}
use Rattle.basis_field.proofs.Ground.{frame_of, frame_is, frame_by, fine}
use Rattle.base_answers.specs.Decides.{Decides}
use Rattle.base_answers.proofs.Tests.{decides_unique}
use Rattle.basis_closed.specs.Closed.{Closed, Given, Room, longest, ClosedUnderRAndWAsks, Under}
use Rattle.basis_coprime.specs.Coprime.{NoCommonFactorAsks, Alone}
use Rattle.basis_bounds.specs.Bounds.{Below}
use Rattle.basis_shape.specs.Lengths.{Narrow, RowsFitAsks}
use Rattle.basis_accept.specs.Tests.{SizesRightAsks, Shaped, Numbers}
use Rattle.basis_accept.specs.Answer.{Seventeen, PassesAsks, Passes, Accepts}

refused : {r : Bool} {A : Type 0} → r ≡ false → (A → ⊥) → Decides r A
refused f n = record { yes! = λ e. absurd (true≢false (sym e ∙ f)); no! = λ e. n }

-- ---- the field
module _ (c : OpenedField) {G H : List ℕ} (h : Kept c G H) (A : Accepted c.field.p G H) where
  abbrev p : ℕ
  p = c.field.p

  degrees_low : (A.deg_g ≤ 12) × (A.deg_h ≤ 12)
  degrees_low =
      let eG : length G ≡ suc A.deg_g = A.list_g.whole in
      let lG : length G ≤ 13 = A.list_g.short in
      let eH : length H ≡ suc A.deg_h = A.list_h.whole in
      let lH : length H ≤ 13 = A.list_h.short in
      (omega arith, omega arith)

  -- 3 deg r = deg G + 2 deg H, and the same of w
  low : (c.field.dr ≤ 9) × (c.field.dw ≤ 9)
  low =
      let (g, k) = degrees_low in
      let s : A.deg_g + A.deg_h ≤ 16 = A.sum in
      let e : 3 * c.field.dr ≡ A.deg_g + 2 * A.deg_h = (rows_hold h A).deg_r in
      let f : 3 * c.field.dw ≡ 2 * A.deg_g + A.deg_h = (rows_hold h A).deg_w in
      (omega (arith, k), omega (arith, g))

  pub given_of : Given p c.field.g c.field.h c.field.gh
  given_of =
      let ρ = reading p A.prime in
      let (lg, lh) = degrees_low in
      let s : A.deg_g + A.deg_h ≤ 16 = A.sum in
      record {
        modulus = modulus h;
        G = G;
        H = H;
        σ = A;
        holds = holds_of h A;
        hg = row_short ρ 13 (g_row h) (d.lt_eq ρ.𝓥 (d.has_up ρ.𝓥 13 (setting A).roots.G_deg (omega (arith, lg))) (sym (holds_of h A).g_is));
        hh = row_short ρ 13 (h_row h) (d.lt_eq ρ.𝓥 (d.has_up ρ.𝓥 13 (setting A).roots.H_deg (omega (arith, lh))) (sym (holds_of h A).h_is));
        hgh = row_short ρ 17 (gh_row h) (d.lt_eq ρ.𝓥 (d.has_up ρ.𝓥 17 (d.has_mul ρ.𝓥 (setting A).roots.G_deg (setting A).roots.H_deg) (omega arith)) (sym (holds_of h A).gh_is));
      }

  pub meaning_of_lem : Meaning (frame_of c)
  meaning_of_lem = subst Meaning (frame_is h A) (meaning A c.r c.w (r_series h A) (w_series h A))

  pub fine_of : Fine (frame_of c)
  fine_of = subst Fine (frame_is h A) (fine h A)

  module _ (b : Seven) where
    -- a test on the series that the field keeps is one on those of the theory
    shaped_at_lem : {o : Bool} → Shaped (frame_of c) b o → Decides o (Numbers (meaning A c.r c.w (r_series h A) (w_series h A)) b)
    shaped_at_lem {o} s = subst (λ F. Shaped F b o) (sym (frame_is h A)) s (meaning A c.r c.w (r_series h A) (w_series h A))

    numbers_in : Tests (setting A) (rows_of A b) → Numbers (meaning A c.r c.w (r_series h A) (w_series h A)) b
    numbers_in t = t.sizes

    closed_in : Tests (setting A) (rows_of A b) → Closed A b
    closed_in t = let k = t.closed in record { rank = k.rank; r_one = k.r_one; w_one = k.w_one; r_M = k.r_M; w_M = k.w_M; r_N = k.r_N; w_N = k.w_N }

    -- Good, from the answers
    good_from : Shaped (frame_of c) b true → Alone p b true → Closed A b → Good (setting A) (rows_of A b)
    good_from s a k = good_of (setting A) (rows_of A b) (record {
      sizes = (shaped_at_lem s).yes! refl;
      seven = λ d b₀ b₁ b₂ b₃ b₄ b₅ b₆. (a A.prime).yes! refl d (b₀, b₁, b₂, b₃, b₄, b₅, b₆);
      closed = record { rank = k.rank; r_one = k.r_one; w_one = k.w_one; r_M = k.r_M; w_M = k.w_M; r_N = k.r_N; w_N = k.w_N };
    })

    -- the rows of a good basis end where `narrow` asks
    narrow_of : AreRows p b → Good (setting A) (rows_of A b) → Narrow (c.field.dw + 1) (c.field.dr + 1) b.m1 b.m2 b.n1 b.n2
    narrow_of rows good =
        let ρ = reading p A.prime in
        let z : Sizes A b = sizes A b good in
        let er : c.field.dr ≡ (setting A).roots.dr = dr_is h A in
        let ew : c.field.dw ≡ (setting A).roots.dw = dw_is h A in
        record {
          h1 = λ i l. (row_short ρ (suc (setting A).roots.dw) (rows 1) (z.rows 1)).above i (omega arith);
          h2 = λ i l. (row_short ρ (suc (setting A).roots.dr) (rows 2) (z.rows 2)).above i (omega arith);
          k1 = λ i l. (row_short ρ (setting A).roots.dw (rows 4) (z.rows 4)).above i (omega arith);
          k2 = λ i l. (row_short ρ (setting A).roots.dr (rows 5) (z.rows 5)).above i (omega arith);
        }

pub are_rows : {p : ℕ} {b : Seven} → Seventeen p b → AreRows p b
are_rows s i = (s.each i).is_row

-- four rows of 10, the others of 17
each_row : {p : ℕ} {b : Seven} → Seventeen p b → Short p b.m1 10 → Short p b.m2 10 → Short p b.n1 10 → Short p b.n2 10 → (i : ℕ) → Short p (row_at b i) (longest i)
each_row z h1 h2 k1 k2 zero = z.each 0
each_row z h1 h2 k1 k2 (suc zero) = h1
each_row z h1 h2 k1 k2 (suc (suc zero)) = h2
each_row z h1 h2 k1 k2 (suc (suc (suc zero))) = z.each 3
each_row z h1 h2 k1 k2 (suc (suc (suc (suc zero)))) = k1
each_row z h1 h2 k1 k2 (suc (suc (suc (suc (suc zero))))) = k2
each_row z h1 h2 k1 k2 (suc (suc (suc (suc (suc (suc i)))))) = z.each 6

-- ---- what is prepared of p in place of p
module _ {c : OpenedField} {b : Seven} (i : PassesAsks c b) {q : Modulus} (e : PreparedOf c.field.p q) where
  pub shaped_by : (top : ℕ) → SizesRightAsks (frame_of c) top b → SizesRightAsks (frame q c.r c.w c.field.dr c.field.dw) top b
  shaped_by top s = subst (λ F. SizesRightAsks F top b) (frame_by e c.r c.w c.field.dr c.field.dw) s

  pub shaped_from : {o : Bool} → Shaped (frame q c.r c.w c.field.dr c.field.dw) b o → Shaped (frame_of c) b o
  shaped_from {o} s = subst (λ F. Shaped F b o) (sym (frame_by e c.r c.w c.field.dr c.field.dw)) s

  pub under_from : {o : Bool} → Under q.p c.field.g c.field.h c.field.gh b o → Under c.field.p c.field.g c.field.h c.field.gh b o
  under_from {o} s = subst (λ p. Under p c.field.g c.field.h c.field.gh b o) e.is s

  pub alone_from : {o : Bool} → Alone q.p b o → Alone c.field.p b o
  alone_from {o} s = subst (λ p. Alone p b o) e.is s

-- ---- one test after the other
module _ {c : OpenedField} {b : Seven} (i : PassesAsks c b) where
  abbrev k₀ : Kept c i.known.G i.known.H
  k₀ = i.known.kept

  abbrev A₀ : Accepted c.field.p i.known.G i.known.H
  A₀ = k₀.accepted

  pub narrow_in : RowsFitAsks b.m1 b.m2 b.n1 b.n2
  narrow_in = record { h1 = (i.rows.each 1).is_row.size; h2 = (i.rows.each 2).is_row.size; k1 = (i.rows.each 4).is_row.size; k2 = (i.rows.each 5).is_row.size }

  pub not_narrow : {v o : Bool} → v ≡ false → o ≡ false → Decides o (Narrow (c.field.dw + 1) (c.field.dr + 1) b.m1 b.m2 b.n1 b.n2) → Passes c b v
  not_narrow f e n G H A h = refused f (λ good. n.no! e (narrow_of c h A b (are_rows i.rows) good))

  pub not_shaped : {v o : Bool} → v ≡ false → o ≡ false → Shaped (frame_of c) b o → Passes c b v
  not_shaped f e s G H A h = refused f (λ good. (shaped_at_lem c h A b s).no! e (numbers_in c h A b (tests_of (setting A) (rows_of A b) good)))

  pub not_alone : {v o : Bool} → v ≡ false → o ≡ false → Alone c.field.p b o → Passes c b v
  not_alone f e a G H A h = refused f (λ good. (a A.prime).no! e (λ d (b₀, b₁, b₂, b₃, b₄, b₅, b₆). good.scaled.seven d b₀ b₁ b₂ b₃ b₄ b₅ b₆))

  -- the bounds of the field
  pub sum_low : c.field.dr + c.field.dw ≤ 16
  sum_low = room k₀

  module _ {o : Bool} (e : o ≡ true) (n : Decides o (Narrow (c.field.dw + 1) (c.field.dr + 1) b.m1 b.m2 b.n1 b.n2)) where
    slim : Narrow (c.field.dw + 1) (c.field.dr + 1) b.m1 b.m2 b.n1 b.n2
    slim = n.yes! e

    pub shaped_in : SizesRightAsks (frame_of c) (c.field.dr + c.field.dw + 1) b
    shaped_in =
        let l : c.field.dr + c.field.dw ≤ 16 = sum_low in
        let t : 5 ≤ c.field.p = A₀.low in
        record {
          fine = fine_of c k₀ A₀;
          some = meaning_of_lem c k₀ A₀;
          two = omega arith;
          fits = omega arith;
          low_r = omega arith;
          low_w = omega arith;
          rows = are_rows i.rows;
          h1 = record { is_row = (i.rows.each 1).is_row; above = λ j w. slim.h1 j (omega arith) };
          h2 = record { is_row = (i.rows.each 2).is_row; above = λ j w. slim.h2 j (omega arith) };
          k1 = record { is_row = (i.rows.each 4).is_row; above = λ j w. slim.k1 j (omega arith) };
          k2 = record { is_row = (i.rows.each 5).is_row; above = λ j w. slim.k2 j (omega arith) };
        }

    module _ {o₂ : Bool} (e₂ : o₂ ≡ true) (s : Shaped (frame_of c) b o₂) where
      room_of : Room c.field.p b
      room_of =
          let (lr, lw) = low c k₀ A₀ in
          let z : Seventeen c.field.p b = i.rows in
          let m = ((shaped_at_lem c k₀ A₀ b s).yes! e₂).numbers in
          let v = (reading c.field.p A₀.prime).𝓥 in
          let ten : (k : ℕ) → ((j : ℕ) → 10 ≤ j → get_or (row_at b k) j 0 ≡ 0) → Short c.field.p (row_at b k) 10 = λ k h. record { is_row = (z.each k).is_row; above = h } in
          record {
            rows = each_row z
                (ten 1 (λ j w. slim.h1 j (omega (arith, lw))))
                (ten 2 (λ j w. slim.h2 j (omega (arith, lr))))
                (ten 4 (λ j w. slim.k1 j (omega (arith, lw))))
                (ten 5 (λ j w. slim.k2 j (omega (arith, lr))));
            by_u = monic_inverts A₀.prime (z.each 6).is_row (m.u, 0, v.one≢zero, m.U_lead);
          }

      pub under_in : {q : Modulus} → PreparedOf c.field.p q → ClosedUnderRAndWAsks q c.field.g c.field.h c.field.gh b
      under_in {q} e =
          let u : c.field.p ≡ q.p = sym e.is in
          record { given = subst (λ p. Given p c.field.g c.field.h c.field.gh) u (given_of c k₀ A₀); modulus = e.prepared; room = subst (λ p. Room p b) u room_of }

      module _ {o₃ : Bool} (e₃ : o₃ ≡ true) (a : Alone c.field.p b o₃) where
        pub passes_as : (o₄ : Bool) → Under c.field.p c.field.g c.field.h c.field.gh b o₄ → Passes c b o₄
        passes_as o₄ k G H A h =
            let k' : Decides o₄ (Closed A b) = k G H A (holds_of h A) in
            record {
              yes! = λ q. good_from c h A b (subst (Shaped (frame_of c) b) e₂ s) (subst (Alone c.field.p b) e₃ a) (k'.yes! q);
              no! = λ q good. k'.no! q (closed_in c h A b (tests_of (setting A) (rows_of A b) good));
            }

-- ---- the 119 numbers
short_of : (q : ℕ) {B : List ℕ} → Below q B → {j : ℕ} {r : List ℕ} → Loaded B j r → Short q r 17
short_of q e k = record { is_row = k.is_row q e; above = k.above }

module _ {c : OpenedField} {B : List ℕ} where
  pub not_below : {o : Bool} → o ≡ false → Decides o (Below c.field.p B) → Accepts c B o
  not_below e n G H h = refused e (λ rec. n.no! e rec.each)

  module _ {o : Bool} (e : o ≡ true) (n : Decides o (Below c.field.p B)) {b : Seven} (l : SevenLoaded B b) where
    pub pass_in : Known c → PassesAsks c b
    pass_in k = record {
      known = k;
      rows = record { each = every {b = b} (λ r. Short c.field.p r 17) (at 0 (omega arith)) (at 1 (omega arith)) (at 2 (omega arith)) (at 3 (omega arith)) (at 4 (omega arith)) (at 5 (omega arith)) (at 6 (omega arith)) };
    }
      where
        at : (k : ℕ) → k < 7 → Short c.field.p (row_at b k) 17
        at k w = short_of c.field.p (n.yes! e) (l.each k w)

    pub accepts_as : length B ≡ 119 → (o₂ : Bool) → Passes c b o₂ → Accepts c B o₂
    accepts_as z o₂ s G H h = record {
      yes! = λ q. record {
        size = z;
        each = n.yes! e;
        good = λ A. subst (Good (setting A)) (rows_path A l) ((s G H A h).yes! q);
      };
      no! = λ q rec. (s G H h.accepted h).no! q (rows_good h.accepted l (rec.good h.accepted));
    }

pub accepts_unique : {c : OpenedField} {B : List ℕ} → Known c → (o o' : Bool) → Accepts c B o → Accepts c B o' → o ≡ o'
accepts_unique {c} {B} k o o' h h' = decides_unique o o' (IsRecord c.field.p k.G k.H B) (h k.G k.H k.kept) (h' k.G k.H k.kept)
