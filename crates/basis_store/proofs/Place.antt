-- What `store_element` and `filled` ask of their callees, and what they make.
use mathlib.Core.Path.{◌≡◌, refl, sym, ap, ap₂, ◌∙◌}
use mathlib.Core.Logic.{◌⊎◌, inl, inr}
use mathlib.Core.Bool.{false}
use mathlib.Core.List.{List, [], ◌∷◌, ◌++◌}
use Prim.Native.Nat.{ℕ, ◌+◌, ◌*◌, ◌-◌, ◌<◌, ◌≤◌}
use native.Mathlib.Omega.{arith}
use native.Mathlib.Decide.{dec_lt}
use lib.ListN.{length, get_or, replicate, length-append, get_or-append}
use lib.Seq.{ext_get_or, get_or-append-add}
use Rattle.math_ring.proofs.Solve.{var, minus, ◌:+◌, solve}
use Rattle.math_fp.specs.Fp.{Prime}
use Rattle.math_valued.proofs.Degree.{lt_eq}
use Rattle.num_mod.specs.declared.Modulus.{Modulus}
use Rattle.math_rows.specs.Reading.{Reading}
use Rattle.math_rows.specs.Made.{reading}
use Rattle.math_rows.specs.Row.{Size, row}
use Rattle.math_rows.proofs.Tab.{length_tab, at_tab, zeros_at}
use Rattle.poly_rows.specs.Leaf.{Cut}
use Rattle.poly_cross.specs.Cross.{ScaleInGives}
use Rattle.poly_rows.proofs.Lengths.{size_below, short_cut, scaled_short}
use Rattle.poly_lent.specs.Sized.{BothInAsks, BothInGives}
use Rattle.poly_lent.proofs.Mixing.{size_cut}
use Rattle.basis_record.specs.Record.{part}
use Rattle.basis_parts.specs.Frame.{Short}
use Rattle.basis_record.specs.Store.{StoredAsks, Stored}
use Rattle.basis_store.specs.Levels.{Leveled}
use Rattle.basis_store.specs.Place.{StoreElementAsks, padded, Placed, FilledAsks}
use Rattle.basis_store.specs.declared.Factors.{Factors}
use Rattle.basis_record.proofs.Store.{stored_part, stored_other, stored_each}

-- a row that was stored is the record's, padded
pub stored_padded : {B : List ℕ} {i : ℕ} {a B' : List ℕ} {p n : ℕ} → Stored B i a B' → Short p a n → n ≤ 17 → a ≡ padded i B'
stored_padded {B} {i} {a} {B'} {n = n} h s f = ext_get_or 0 a (padded i B') (s.is_row.size ∙ sym (length-append (part i B') (replicate 15 0) ∙ ap (λ n. n + 15) full)) (λ j l. at j (dec_lt j 17))
  where
    full : length (part i B') ≡ 17
    full = length_tab 17 (λ j. get_or B' (17 * i + j) 0)

    at : (j : ℕ) → Dec (j < 17) → get_or a j 0 ≡ get_or (padded i B') j 0
    at j (yes l) = sym (get_or-append (part i B') (replicate 15 0) 0 j (let e : length (part i B') ≡ 17 = full in omega arith) ∙ at_tab 17 (λ j. get_or B' (17 * i + j) 0) j l ∙ h.here j l)
    at j (no l) =
        let e : length (part i B') + (j - 17) ≡ j = let e : length (part i B') ≡ 17 = full in omega arith in
        s.above j (let f : n ≤ 17 = f in omega arith) ∙ sym (ap (λ n. get_or (padded i B') n 0) (sym e) ∙ get_or-append-add (part i B') (replicate 15 0) (j - 17) 0 ∙ zeros_at 15 (j - 17))

module _ {M : Modulus} {i top s : ℕ} {b c x x1 : List ℕ} {n1 : ℕ} {y1 : List ℕ} {n2 : ℕ} {u : List ℕ} {lu : ℕ} {B : List ℕ} (g : StoreElementAsks M i top s b c x x1 n1 y1 n2 u lu B) where
  pub place_cut : {l : List ℕ} → Short M.p l top → Cut l top
  place_cut h = let f : top ≤ 17 = g.inp.fits in short_cut h (omega arith)

  module _ {mb mc t : List ℕ} (sb : ScaleInGives M.p s b top mb) (sc : ScaleInGives M.p s c top mc) (st : ScaleInGives M.p s x top t) where
    -- a length is bounded by where the row ended before it was scaled
    within : {l m : List ℕ} {j n : ℕ} → Short M.p l n → ScaleInGives M.p s l top m → Size m j → j ≤ n
    within h e = size_below (scaled_short {c = s} (reading M.p g.inp.prime) h e.short.is_row (e.scaled.law g.inp.prime))

    pub place_both : {n m : ℕ} → Size mb n → Size mc m → BothInAsks M mb n x1 n1 mc m y1 n2 t top
    place_both {n} {m} en em =
        let w : n ≤ g.inp.lb = within g.inp.hb sb en in
        let v : m ≤ g.inp.lc = within g.inp.hc sc em in
        let b : g.inp.lb + n1 ≤ 33 = g.inp.room_b in
        let d : g.inp.lc + n2 ≤ 33 = g.inp.room_c in record {
          modulus = g.inp.modulus;
          prime = g.inp.prime;
          hx = sb.short.is_row;
          hy = g.inp.h1.is_row;
          hz = sc.short.is_row;
          hv = g.inp.h2.is_row;
          cx = size_cut sb.short.is_row en;
          cy = short_cut g.inp.h1 g.inp.fits_1;
          cz = size_cut sc.short.is_row em;
          cv = short_cut g.inp.h2 g.inp.fits_2;
          left = omega arith;
          right = omega arith;
          hr = st.short.is_row;
          cr = place_cut st.short;
        }

    -- k = s x + s b x1 + s c y1
    module _ {k : List ℕ} {l : ℕ} (ek : BothInGives M.p false mb x1 false mc y1 t k l) where
      module _ {a : List ℕ} (la : Leveled M.p u k t top a) where
        module _ {B₀ : List ℕ} (s₀ : Stored B i a B₀) where
          module _ {B₁ : List ℕ} (s₁ : Stored B₀ (i + 1) mb B₁) where
            module _ {B₂ : List ℕ} (s₂ : Stored B₁ (i + 2) mc B₂) where
              is_a : (ρ : Reading M.p) → row ρ (part i B₂) ≡ row ρ a
              is_a ρ = ap (row ρ) (stored_other B₁ (i + 2) mc B₂ s₂ i (inl (omega arith)) ∙ stored_other B₀ (i + 1) mb B₁ s₁ i (inl (omega arith))) ∙ stored_part B i a B₀ s₀ (λ j l. let f : top ≤ 17 = g.inp.fits in la.short.above j (omega arith)) ρ

              is_b : (ρ : Reading M.p) → row ρ (part (i + 1) B₂) ≡ row ρ mb
              is_b ρ = ap (row ρ) (stored_other B₁ (i + 2) mc B₂ s₂ (i + 1) (inl (omega arith))) ∙ stored_part B₀ (i + 1) mb B₁ s₁ (λ j l. let f : top ≤ 17 = g.inp.fits in sb.short.above j (omega arith)) ρ

              is_c : (ρ : Reading M.p) → row ρ (part (i + 2) B₂) ≡ row ρ mc
              is_c ρ = stored_part B₁ (i + 2) mc B₂ s₂ (λ j l. let f : top ≤ 17 = g.inp.fits in sc.short.above j (omega arith)) ρ

              pub placed : Placed M.p i s b c x x1 y1 u B mb mc a B₂
              placed = record {
                size = s₂.size;
                each = λ h. stored_each M.p B₁ (i + 2) mc B₂ s₂ (stored_each M.p B₀ (i + 1) mb B₁ s₁ (stored_each M.p B i a B₀ s₀ h la.short.is_row.each) sb.short.is_row.each) sc.short.is_row.each;
                there = λ m w. s₂.there m (away (i + 2) (omega arith) (omega arith) m w) ∙ s₁.there m (away (i + 1) (omega arith) (omega arith) m w) ∙ s₀.there m (away i (omega arith) (omega arith) m w);
                at = λ pr.
                    let ρ = reading M.p pr in
                    let o = ρ.𝓥.L.ops in
                    let (k, kp, e₁) = la.law pr in record {
                      is_b = is_b ρ ∙ sb.scaled.law pr;
                      is_c = is_c ρ ∙ sc.scaled.law pr;
                      k = k;
                      k_poly = kp;
                      framed = ap₂ o.add (ap (o.mul (o.add o.𝟏 o.𝟏)) (is_a ρ)) (ap₂ (λ y z. o.add (o.mul y (row ρ x1)) (o.mul z (row ρ y1))) (is_b ρ) (is_c ρ) ∙ over pr) ∙ e₁;
                      low = λ n h. lt_eq ρ.𝓥 (la.low pr n h) (ap₂ (λ y z. o.add (o.mul (o.add o.𝟏 o.𝟏) y) (o.neg z)) (sym (is_a ρ)) (st.scaled.law pr));
                    };
                left_b = stored_padded s₁ sb.short g.inp.fits
                    ∙ ap (λ z. z ++ replicate 15 0) (sym (stored_other B₁ (i + 2) mc B₂ s₂ (i + 1) (inl (omega arith))));
                left_c = stored_padded s₂ sc.short g.inp.fits;
                left_x = stored_padded s₀ la.short g.inp.fits
                    ∙ ap (λ z. z ++ replicate 15 0)
                    (sym (stored_other B₁ (i + 2) mc B₂ s₂ i (inl (omega arith)) ∙ stored_other B₀ (i + 1) mb B₁ s₁ i (inl (omega arith))));
              }
                where
                  away : (j : ℕ) → i ≤ j → j ≤ i + 2 → (m : ℕ) → (m < 17 * i) ⊎ (17 * (i + 3) ≤ m) → (m < 17 * j) ⊎ (17 * j + 17 ≤ m)
                  away j l h m (inl w) = inl (omega arith)
                  away j l h m (inr w) = inr (omega arith)

                  over : (pr : Prime M.p) → let ρ = reading M.p pr in let o = ρ.𝓥.L.ops in o.add (o.mul (row ρ mb) (row ρ x1)) (o.mul (row ρ mc) (row ρ y1)) ≡ o.add (row ρ k) (o.neg (row ρ t))
                  over pr = let ρ = reading M.p pr in let o = ρ.𝓥.L.ops in
                      solve ρ.𝓥.L (var 1 :+ var 2) (var 0 :+ var 1 :+ var 2 :+ minus (var 0)) tt (row ρ t ∷ o.mul (row ρ mb) (row ρ x1) ∷ o.mul (row ρ mc) (row ρ y1) ∷ []) ∙ ap (λ z. o.add z (o.neg (row ρ t))) (sym (ek.law pr))

-- ---- m, n and u in turn
module _ {M : Modulus} {top : ℕ} {k : Factors} {mb mc mx nb nc nx x1 : List ℕ} {n1 : ℕ} {y1 : List ℕ} {n2 : ℕ} {u : List ℕ} {lu : ℕ} (g : FilledAsks M top k mb mc mx nb nc nx x1 n1 y1 n2 u lu) where
  pub fill_m : StoreElementAsks M 0 top k.m mb mc mx x1 n1 y1 n2 u lu (replicate 119 0)
  fill_m = record { inp = g.m; at = omega arith; size = refl; blank = λ j w. zeros_at 119 j }

  module _ {mb₁ mc₁ mx₁ B₁ : List ℕ} (pm : Placed M.p 0 k.m mb mc mx x1 y1 u (replicate 119 0) mb₁ mc₁ mx₁ B₁) where
    pub fill_n : StoreElementAsks M 3 top k.n nb nc nx x1 n1 y1 n2 u lu B₁
    fill_n = record { inp = g.n; at = omega arith; size = pm.size; blank = λ j w. pm.there j (inr (omega arith)) ∙ zeros_at 119 j }

    module _ {nb₁ nc₁ nx₁ B₂ : List ℕ} (pn : Placed M.p 3 k.n nb nc nx x1 y1 u B₁ nb₁ nc₁ nx₁ B₂) where
      pub fill_u : StoredAsks B₂ 6 u lu
      fill_u = let l : lu ≤ top = g.m.low_u in let f : top ≤ 17 = g.m.fits in record {
        size = pn.size;
        blank = λ j w. pn.there j (inr (omega arith)) ∙ pm.there j (inr (omega arith)) ∙ zeros_at 119 j;
        row = omega arith;
        each = λ j. let w : get_or u j 0 < M.p = g.m.monic.is_row.each j in let s : M.p ≤ 65535 = g.m.small in omega arith;
        fits = omega arith;
        above = g.m.monic.size.above;
      }
