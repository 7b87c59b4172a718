-- Each polynomial of degree below 32 has just one row: numbers below p are told apart by their classes, coefficients by the polynomial.
--   cast_inj      numbers below p with one class are one number
--   same_cast     numbers with one remainder have one class; mod_of: numbers with one class have one remainder
--   const_inj     constants that are one series are one element
--   psum_unique   two sums of n terms that are one polynomial have the same coefficients
--   list_unique   two lists of one length, entries below p, with one polynomial are one list
--   row_unique    two rows with one polynomial are one row
--   psum_exists   a polynomial of degree below n is a sum of n terms
--   list_exists   it has a list of n entries below p; row_exists: a row where n = 32
use mathlib.Core.Path.{◌≡◌, refl, sym, ap, ap₂, ◌∙◌}
use mathlib.Core.List.{List, [], ◌∷◌}
use Prim.Native.Nat.{ℕ, zero, suc, ◌%◌, ◌≤◌, ◌<◌}
use Prim.Native.Nat as N
use native.Mathlib.Nat.{mod-lt}
use native.Mathlib.Omega.{arith}
use native.Mathlib.Decide.{dec_le, dec_lt, ℕ_discrete}
use lib.ListN.{length, get_or}
use lib.Seq.{ext_get_or}
use Rattle.math_ring.proofs.Laws as r
use Rattle.math_ring.proofs.Solve.{var, minus, ◌:+◌, solve}
use Rattle.math_valued.specs.Degree.{Lt}
use Rattle.math_valued.proofs.Degree.{lead_eq}
use Rattle.math_rows.specs.Reading.{Reading}
use Rattle.math_rows.specs.Row.{tab, Row, tpow, psum, coefs, row}
use Rattle.math_rows.proofs.Tab.{length_tab, at_tab, past_tab}
use Rattle.math_rows.proofs.Rows.{psum_lead, psum_ext, row_tab, tpow_poly, term_lead}

module _ {p : ℕ} (ρ : Reading p) where
  open ρ use {𝓥, cast}
  open 𝓥 use {K, L, Lead, IsPoly, const}
  open L.ops use {add as ◌+◌, mul as ◌*◌, neg as -◌}

  infixl 60 ◌+◌
  infixl 70 ◌*◌
  infix 80 -◌
  -- a ≤ b < p with one class: the class of b − a is 0
  cast_gap : (a b : ℕ) → a ≤ b → b < p → cast a ≡ cast b → a ≡ b
  cast_gap a b l h e =
      let s : N.◌+◌ (N.◌-◌ b a) a ≡ b = omega arith in
      let z : cast (N.◌-◌ b a) ≡ K.ops.𝟎 = r.add_cancel K (cast (N.◌-◌ b a)) K.ops.𝟎 (cast a)
      (sym (ρ.cast_add (N.◌-◌ b a) a) ∙ ap cast s ∙ sym e ∙ sym (r.zero_add' K (cast a))) in
      let d : N.◌-◌ b a ≡ 0 = ρ.cast_small (N.◌-◌ b a) (omega arith) z in
      omega arith

  pub cast_inj : (a b : ℕ) → a < p → b < p → cast a ≡ cast b → a ≡ b
  cast_inj a b g h e = elim (dec_le a b) [ yes l ↦ cast_gap a b l h e | no l ↦ sym (cast_gap b a (omega arith) g (sym e)) ]

  pub same_cast : (a b : ℕ) → a % p ≡ b % p → cast a ≡ cast b
  same_cast a b e = sym (ρ.cast_mod a) ∙ ap cast e ∙ ρ.cast_mod b

  pub mod_of : (a b : ℕ) → cast a ≡ cast b → a % p ≡ b % p
  mod_of a b e = cast_inj (a % p) (b % p) (mod-lt a ρ.pos) (mod-lt b ρ.pos) (ρ.cast_mod a ∙ e ∙ sym (ρ.cast_mod b))

  pub const_inj : (a b : K.El) → const a ≡ const b → a ≡ b
  const_inj a b e = 𝓥.lead_unique (𝓥.const_lead a) (lead_eq 𝓥 (𝓥.const_lead b) (sym e) refl)

  pub psum_unique : (n : ℕ) (f g : ℕ → K.El) → psum ρ n f ≡ psum ρ n g → (i : ℕ) → i < n → f i ≡ g i
  unfolding psum
  psum_unique zero f g e i l = absurd (omega arith)
  psum_unique (suc n) f g e i l = go (ℕ_discrete i n) (λ m. psum_unique n f g under i m)
    where
      top : f n ≡ g n
      top = 𝓥.lead_unique (psum_lead ρ n f) (lead_eq 𝓥 (psum_lead ρ n g) (sym e) refl)

      under : psum ρ n f ≡ psum ρ n g
      under = r.add_cancel L (psum ρ n f) (psum ρ n g) (const (f n) * tpow ρ n) (e ∙ ap (λ c. psum ρ n g + const c * tpow ρ n) (sym top))

      go : Dec (i ≡ n) → (i < n → f i ≡ g i) → f i ≡ g i
      go (yes z) k = ap f z ∙ top ∙ ap g (sym z)
      go (no z) k = k (omega arith)

  pub list_unique : (a b : List ℕ) → length a ≡ length b
      → ((i : ℕ) → get_or a i 0 < p) → ((i : ℕ) → get_or b i 0 < p)
      → row ρ a ≡ row ρ b → a ≡ b
  unfolding row
  list_unique a b n g h e =
      ext_get_or 0 a b n (λ i l. cast_inj (get_or a i 0) (get_or b i 0) (g i) (h i)
      (psum_unique (length a) (coefs ρ a) (coefs ρ b) (e ∙ ap (λ m. psum ρ m (coefs ρ b)) (sym n)) i l))

  pub row_unique : {a b : List ℕ} → Row p a → Row p b → row ρ a ≡ row ρ b → a ≡ b
  row_unique {a} {b} g h e = list_unique a b (g.size ∙ sym h.size) g.each h.each e

  -- ---- from a polynomial to its list: the highest coefficient is taken off
  abbrev put : ℕ → K.El → (ℕ → K.El) → ℕ → K.El
  put n c f i = elim (ℕ_discrete i n) [ yes e ↦ c | no e ↦ f i ]

  put_here : (n : ℕ) (c : K.El) (f : ℕ → K.El) → put n c f n ≡ c
  put_here n c f = go (ℕ_discrete n n)
    where
      go : (d : Dec (n ≡ n)) → elim d [ yes e ↦ c | no e ↦ f n ] ≡ c
      go (yes e) = refl
      go (no e) = absurd (e refl)

  put_else : (n : ℕ) (c : K.El) (f : ℕ → K.El) (i : ℕ) → i < n → put n c f i ≡ f i
  put_else n c f i l = go (ℕ_discrete i n)
    where
      go : (d : Dec (i ≡ n)) → elim d [ yes e ↦ c | no e ↦ f i ] ≡ f i
      go (yes e) = absurd (omega arith)
      go (no e) = refl

  -- x − c t^n, for x of degree n with coefficient c there
  top_off : (n : ℕ) (x : L.El) (c : K.El) → Lead x n 0 c → Lt 𝓥 (x + - (const c * tpow ρ n)) n
  top_off n x c d = lead_eq 𝓥 (𝓥.lead_add d (𝓥.lead_neg (term_lead ρ c n))) refl (K.laws.add_neg c)

  top_off_poly : (n : ℕ) (x : L.El) (c : K.El) → IsPoly x → IsPoly (x + - (const c * tpow ρ n))
  top_off_poly n x c h = 𝓥.closed.add _ _ h (𝓥.closed.neg _ (𝓥.closed.mul _ _ (𝓥.const_poly c) (tpow_poly ρ n)))

  pub psum_exists : (n : ℕ) (x : L.El) → IsPoly x → Lt 𝓥 x n → (f : ℕ → K.El) × (psum ρ n f ≡ x)
  unfolding psum
  psum_exists zero x h l = ((λ i. K.ops.𝟎), sym (𝓥.poly_small x h l))
  psum_exists (suc n) x h l =
      let (c, d) = 𝓥.lead_down l in
      let (f, e) = psum_exists n (x + - (const c * tpow ρ n)) (top_off_poly n x c h) (top_off n x c (𝓥.lead_move n 0 d (omega arith))) in (
        put n c f,
        ap₂ (λ y b. y + const b * tpow ρ n) (psum_ext ρ n (put n c f) f (put_else n c f) ∙ e) (put_here n c f)
            ∙ solve L (var 0 :+ minus (var 1) :+ var 1) (var 0) tt (x ∷ const c * tpow ρ n ∷ []),
      )

  pub list_exists : (n : ℕ) (x : L.El) → IsPoly x → Lt 𝓥 x n → (l : List ℕ) × (length l ≡ n) × ((i : ℕ) → get_or l i 0 < p) × (row ρ l ≡ x)
  list_exists n x h b =
      let (f, e) = psum_exists n x h b in
      let g : ℕ → ℕ = λ i. (ρ.cast_onto (f i)).0 in
      (tab n g, length_tab n g, (λ i. at g (λ j. (ρ.cast_onto (f j)).1) i (dec_lt i n)), row_tab ρ n g ∙ psum_ext ρ n (λ i. cast (g i)) f (λ i l. (ρ.cast_onto (f i)).2) ∙ e)
    where
      at : (g : ℕ → ℕ) → ((j : ℕ) → g j < p) → (i : ℕ) → Dec (i < n) → get_or (tab n g) i 0 < p
      at g k i (yes l) = let e : get_or (tab n g) i 0 ≡ g i = at_tab n g i l in omega (arith, k i)
      at g k i (no l) = let e : get_or (tab n g) i 0 ≡ 0 = past_tab n g i (omega arith) in omega (arith, ρ.pos)

  pub row_exists : (x : L.El) → IsPoly x → Lt 𝓥 x 32 → (l : List ℕ) × Row p l × (row ρ l ≡ x)
  row_exists x h b = let (l, n, k, e) = list_exists 32 x h b in (l, record { size = n; each = k }, e)
