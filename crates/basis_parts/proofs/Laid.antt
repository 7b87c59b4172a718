-- Rows that a loop fills from the front with numbers of given classes mod p.
--   Laid p n f l i             the first i of n places hold the classes f, the rest are 0
--   laid_short, laid_row       what that is at the end
--   Swept p n f l₀ l i         the invariant of a loop that starts from l₀: the rest is as it was
--   swept_start, swept_more, swept_laid
use mathlib.Core.Path.{◌≡◌, refl, sym, ap, ◌∙◌}
use mathlib.Core.List.{List}
use Prim.Native.Nat.{ℕ, ◌+◌, ◌<◌, ◌≤◌}
use native.Mathlib.Omega.{arith}
use native.Mathlib.Decide.{dec_lt, ℕ_discrete}
use lib.ListN.{length, get_or, set, length-set, get_or-eq_default}
use lib.Seq.{get_or-set_same, get_or-set_other}
use Rattle.math_fp.specs.Fp.{Prime}
use Rattle.math_rows.specs.Made.{reading}
use Rattle.math_rows.specs.Row.{Row, row, psum, coefs}
use Rattle.math_rows.proofs.Rows.{row_32, psum_ext}
use Rattle.basis_parts.specs.Frame.{Short}

-- one entry of a row is set
pub set_row : (p : ℕ) (l : List ℕ) (i v : ℕ) → Row p l → v < p → Row p (set l i v)
set_row p l i v h b = record { size = length-set l i v ∙ h.size; each = λ j. at j (ℕ_discrete j i) (dec_lt i (length l)) }
  where
    at : (j : ℕ) → Dec (j ≡ i) → Dec (i < length l) → get_or (set l i v) j 0 < p
    at j (yes e) (yes u) = let z : get_or (set l i v) j 0 ≡ v = ap (λ m. get_or (set l i v) m 0) e ∙ get_or-set_same l i v 0 u in omega arith
    at j (yes e) (no u) = outside (dec_lt j (length l))
      where
        outside : Dec (j < length l) → get_or (set l i v) j 0 < p
        outside (yes w) = absurd (omega arith)
        outside (no w) =
            let z : get_or (set l i v) j 0 ≡ 0 = get_or-eq_default (set l i v) 0 {n = j} (let s : length (set l i v) ≡ length l = length-set l i v in omega arith) in
            let y : get_or l j 0 < p = h.each j in
            omega arith
    at j (no e) d = let z : get_or (set l i v) j 0 ≡ get_or l j 0 = get_or-set_other l i j v 0 e in let y : get_or l j 0 < p = h.each j in omega arith

-- the classes of the first places, where one more is set
set_class : {p : ℕ} (pr : Prime p) (f : (pr : Prime p) → ℕ → (reading p pr).𝓥.K.El) (l : List ℕ) (i v j : ℕ) → j < i + 1 → length l ≡ 32 → i < 32 → (reading p pr).cast v ≡ f pr i
    → ((j : ℕ) → j < i → (reading p pr).cast (get_or l j 0) ≡ f pr j) → Dec (j ≡ i) → (reading p pr).cast (get_or (set l i v) j 0) ≡ f pr j
set_class {p} pr f l i v j w s m e h (yes q) = ap (λ k. (reading p pr).cast (get_or (set l i v) k 0)) q ∙ ap (reading p pr).cast (get_or-set_same l i v 0 (omega arith)) ∙ e ∙ ap (f pr) (sym q)
set_class {p} pr f l i v j w s m e h (no q) = ap (reading p pr).cast (get_or-set_other l i j v 0 q) ∙ h j (omega arith)

pub record Laid (p n : ℕ) (f : (pr : Prime p) → ℕ → (reading p pr).𝓥.K.El) (l : List ℕ) (i : ℕ) : Type 0 where
  pub is_row : Row p l
  pub upto : i ≤ n
  pub done : (pr : Prime p) (j : ℕ) → j < i → (reading p pr).cast (get_or l j 0) ≡ f pr j
  pub rest : (j : ℕ) → i ≤ j → get_or l j 0 ≡ 0

module _ {p n : ℕ} {f : (pr : Prime p) → ℕ → (reading p pr).𝓥.K.El} where
  pub laid_short : {l : List ℕ} {i : ℕ} → Laid p n f l i → n ≤ i → Short p l n
  laid_short {l} {i} h u = record { is_row = h.is_row; above = λ j w. let y : i ≤ n = h.upto in h.rest j (omega arith) }

  pub laid_row : {l : List ℕ} {i : ℕ} → Laid p n f l i → n ≤ i → (pr : Prime p) → ((j : ℕ) → n ≤ j → f pr j ≡ (reading p pr).𝓥.K.ops.𝟎) → row (reading p pr) l ≡ psum (reading p pr) 32 (f pr)
  laid_row {l} {i} h u pr z = row_32 (reading p pr) l h.is_row.size ∙ psum_ext (reading p pr) 32 (coefs (reading p pr) l) (f pr) (λ j w. at j (dec_lt j i))
    where
      at : (j : ℕ) → Dec (j < i) → (reading p pr).cast (get_or l j 0) ≡ f pr j
      at j (yes w) = h.done pr j w
      at j (no w) = let y : i ≤ n = h.upto in ap (reading p pr).cast (h.rest j (omega arith)) ∙ (reading p pr).cast_zero ∙ sym (z j (omega arith))

-- ---- in place of a row
pub record Swept (p n : ℕ) (f : (pr : Prime p) → ℕ → (reading p pr).𝓥.K.El) (l₀ l : List ℕ) (i : ℕ) : Type 0 where
  pub is_row : Row p l
  pub upto : i ≤ n
  pub done : (pr : Prime p) (j : ℕ) → j < i → (reading p pr).cast (get_or l j 0) ≡ f pr j
  pub rest : (j : ℕ) → i ≤ j → get_or l j 0 ≡ get_or l₀ j 0

module _ {p n : ℕ} {f : (pr : Prime p) → ℕ → (reading p pr).𝓥.K.El} {l₀ : List ℕ} where
  pub swept_start : Row p l₀ → Swept p n f l₀ l₀ 0
  swept_start h = record { is_row = h; upto = omega arith; done = λ pr j l. absurd (omega arith); rest = λ j l. refl }

  pub swept_more : (l : List ℕ) (i v : ℕ) → Swept p n f l₀ l i → i < n → n ≤ 32 → v < p → ((pr : Prime p) → (reading p pr).cast v ≡ f pr i) → Swept p n f l₀ (set l i v) (i + 1)
  swept_more l i v h u m b e = record {
    is_row = set_row p l i v h.is_row b;
    upto = omega arith;
    done = λ pr j w. set_class pr f l i v j w h.is_row.size (omega arith) (e pr) (h.done pr) (ℕ_discrete j i);
    rest = λ j w. get_or-set_other l i j v 0 (λ q. absurd (omega arith)) ∙ h.rest j (omega arith);
  }

  pub swept_laid : {l : List ℕ} {i : ℕ} → Swept p n f l₀ l i → n ≤ i → Short p l₀ n → Laid p n f l i
  swept_laid {l} {i} h u s = record { is_row = h.is_row; upto = h.upto; done = h.done; rest = λ j w. h.rest j w ∙ s.above j (omega arith) }
