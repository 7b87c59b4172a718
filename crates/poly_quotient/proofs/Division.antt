-- The exact quotient, top-down. `Down`: q agrees from k on with every list that times u gives a x + b y + c z. One digit more makes it
-- agree at one place more.
use mathlib.Core.Path.{◌≡◌, refl, sym, ap, ap₂, ◌∙◌, subst}
use mathlib.Core.List.{List, [], ◌∷◌}
use Prim.Native.Nat.{ℕ, suc, ◌<◌, ◌≤◌, ◌%◌, ◌-◌, ◌+◌, ◌*◌}
use native.Mathlib.Nat.{mod-lt}
use native.Mathlib.Omega.{arith}
use native.Mathlib.Decide.{ℕ_discrete}
use lib.ListN.{length, get_or, set, length-set, get_or-eq_default}
use lib.Seq.{ext_get_or, get_or-set_same, get_or-set_other}
use Rattle.math_ring.proofs.Solve.{var, minus, ◌:+◌, solve}
use Rattle.math_fp.specs.Fp.{Prime}
use Rattle.math_rows.specs.Reading.{Reading}
use Rattle.math_rows.specs.Made.{reading}
use Rattle.math_rows.specs.Row.{row}
use Rattle.math_rows.specs.Sum.{sum_to, term_at}
use Rattle.math_rows.proofs.Tab.{shift_high}
use Rattle.math_rows.proofs.Rows.{cast_sub}
use Rattle.math_rows.proofs.Unique.{psum_unique, cast_inj}
use Rattle.math_rows.proofs.Product.{sum_more, sum_ext}
use Rattle.poly_quotient.specs.Quotients.{terms_at, Digit, QuotientAsks, Quotient}
use Rattle.poly_long.proofs.Low.{product_whole, sum₃}

-- u l = a x + b y + c z, with l of n numbers below p
pub record Fits {p : ℕ} (ρ : Reading p) (a x b y c z u : List ℕ) (n : ℕ) (l : List ℕ) : Type 0 where
  pub size : length l ≡ n
  pub each : (i : ℕ) → get_or l i 0 < p
  pub law : let o = ρ.𝓥.L.ops in o.mul (row ρ u) (row ρ l) ≡ o.add (o.add (o.mul (row ρ a) (row ρ x)) (o.mul (row ρ b) (row ρ y))) (o.mul (row ρ c) (row ρ z))

module _ {p : ℕ} (ρ : Reading p) (a x b y c z u : List ℕ) (n : ℕ) (l : List ℕ) (h : Fits ρ a x b y c z u n l) where
  -- coefficient by coefficient
  pub fits_at : (k : ℕ) → ρ.cast (terms_at a x b y c z k) ≡ ρ.cast (sum_to (term_at u l k) (length u))
  fits_at k =
      let j : ℕ = suc (k + (length a + length x) + (length b + length y) + (length c + length z) + (length u + length l)) in
      psum_unique ρ j (λ i. ρ.cast (terms_at a x b y c z i)) (λ i. ρ.cast (sum_to (term_at u l i) (length u)))
      (sum₃ ρ j a x b y c z (omega arith) (omega arith) (omega arith) ∙ sym h.law ∙ sym (product_whole ρ j u l (omega arith))) k (omega arith)

-- the digit at k, for a monic u of length m + 1
module _ {p : ℕ} (ρ : Reading p) (a x b y c z u : List ℕ) (n : ℕ) (l : List ℕ) (h : Fits ρ a x b y c z u n l) (m : ℕ) (s : length u ≡ suc m) (monic : get_or u m 0 ≡ 1) where
  open ρ.𝓥.K.ops use {add as ◌⊕◌, neg as ⊖◌}

  infixl 60 ◌⊕◌
  infix 80 ⊖◌
  pub digit_is : (q : List ℕ) (k v : ℕ) → ((i : ℕ) → k < i → get_or q i 0 ≡ get_or l i 0) → v ≡ (terms_at a x b y c z (k + m) + (p - sum_to (term_at u q (k + m)) m % p)) % p → v ≡ get_or l k 0
  digit_is q k v same e =
      let t : ℕ = terms_at a x b y c z (k + m) in
      let w : ℕ = sum_to (term_at u q (k + m)) m in
      let g : w % p < p = mod-lt w ρ.pos in
      let alike : w ≡ sum_to (term_at u l (k + m)) m = sum_ext (term_at u q (k + m)) (term_at u l (k + m)) m (λ i o. ap (λ d. get_or u i 0 * d)
      (shift_high q i (k + m) (omega arith) ∙ same (k + m - i) (omega arith) ∙ sym (shift_high l i (k + m) (omega arith)))) in
      let top : term_at u l (k + m) m ≡ get_or l k 0 = ap₂ ◌*◌ monic (shift_high l m (k + m) (omega arith) ∙ ap (λ i. get_or l i 0) (let o : k + m - m ≡ k = omega arith in o)) ∙ (let o : 1 * get_or l k 0 ≡ get_or l k 0 = omega arith in o) in
      let whole : sum_to (term_at u l (k + m)) (length u) ≡ w + get_or l k 0 = ap (sum_to (term_at u l (k + m))) s ∙ sum_more (term_at u l (k + m)) m ∙ ap₂ ◌+◌ (sym alike) top in
      cast_inj ρ v (get_or l k 0) (subst (λ i. i < p) (sym e) (mod-lt (t + (p - w % p)) ρ.pos)) (h.each k)
      (ap ρ.cast e ∙ ρ.cast_mod (t + (p - w % p)) ∙ ρ.cast_add t (p - w % p)
      ∙ ap₂ ◌⊕◌ (fits_at ρ a x b y c z u n l h (k + m) ∙ ap ρ.cast whole ∙ ρ.cast_add w (get_or l k 0)) (cast_sub ρ (w % p) (omega arith) ∙ ap (λ i. ⊖ i) (ρ.cast_mod w))
      ∙ solve ρ.𝓥.K (var 0 :+ var 1 :+ minus (var 0)) (var 1) tt (ρ.cast w ∷ ρ.cast (get_or l k 0) ∷ []))

-- ---- the loop
pub record Down (p : ℕ) (a x b y c z u q₀ q : List ℕ) (k : ℕ) : Type 0 where
  pub size : length q ≡ length q₀
  pub upto : k ≤ length q₀
  pub each : (i : ℕ) → k ≤ i → get_or q i 0 < p
  pub same : (pr : Prime p) (l : List ℕ) → Fits (reading p pr) a x b y c z u (length q₀) l → (i : ℕ) → k ≤ i → get_or q i 0 ≡ get_or l i 0

pub down_start : (p : ℕ) (a x b y c z u q : List ℕ) → 1 < p → Down p a x b y c z u q q (length q)
down_start p a x b y c z u q g = record {
  size = refl;
  upto = omega arith;
  each = λ i o. subst (λ v. v < p) (sym (get_or-eq_default q 0 {n = i} o)) (omega arith);
  same = λ pr l h i o. get_or-eq_default q 0 {n = i} o ∙ sym (get_or-eq_default l 0 {n = i} (let s : length l ≡ length q = h.size in omega arith));
}

pub down_more : (p : ℕ) (a x b y c z u q₀ q : List ℕ) (k v : ℕ) → QuotientAsks p a b c u q₀ → Down p a x b y c z u q₀ q k → 0 < k → Digit p a x b y c z u q (k - 1) v → Down p a x b y c z u q₀ (set q (k - 1) v) (k - 1)
down_more p a x b y c z u q₀ q k v g d o e = record {
  size = length-set q (k - 1) v ∙ d.size;
  upto = let f : k ≤ length q₀ = d.upto in omega arith;
  each = λ i w. elim (ℕ_discrete i (k - 1)) [
    | yes f ↦ subst (λ j. j < p) (sym (here i f)) e.below
    | no f ↦ subst (λ j. j < p) (sym (get_or-set_other q (k - 1) i v 0 f)) (d.each i (omega arith))
  ];
  same = λ pr l h i w. elim (ℕ_discrete i (k - 1)) [
    | yes f ↦ here i f ∙ digit_is (reading p pr) a x b y c z u (length q₀) l h (length u - 1) (let s : 0 < length u = g.u_some in omega arith) g.monic q (k - 1) v (λ j m. d.same pr l h j (omega arith)) e.value ∙ ap (λ j. get_or l j 0) (sym f)
    | no f ↦ get_or-set_other q (k - 1) i v 0 f ∙ d.same pr l h i (omega arith)
  ];
}
  where
    here : (i : ℕ) → i ≡ k - 1 → get_or (set q (k - 1) v) i 0 ≡ v
    here i f = ap (λ j. get_or (set q (k - 1) v) j 0) f ∙ get_or-set_same q (k - 1) v 0 (let s : length q ≡ length q₀ = d.size in let m : k ≤ length q₀ = d.upto in omega arith)

pub down_end : (p : ℕ) (a x b y c z u q₀ q : List ℕ) (k : ℕ) → Down p a x b y c z u q₀ q k → k ≤ 0 → Quotient p a x b y c z u q₀ q
down_end p a x b y c z u q₀ q k d o = record {
  size = d.size;
  each = λ i. d.each i (omega arith);
  law = λ pr l s e w. ext_get_or 0 q l (d.size ∙ sym s) (λ i f. d.same pr l (record { size = s; each = e; law = w }) i (omega arith));
}
