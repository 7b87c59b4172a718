-- From the body's bytes to the lists that the norm is made of, and from the norm's size to the answer.
use mathlib.Core.Path.{◌≡◌, sym, ap, ap₂, ◌∙◌, subst}
use mathlib.Core.Logic.{◌≢◌}
use mathlib.Core.List.{List}
use Prim.Native.Nat.{ℕ, ◌+◌, ◌<◌, ◌≤◌}
use native.Mathlib.Omega.{arith}
use native.Mathlib.Decide.{dec_lt}
use lib.ListN.{length, get_or, replicate, get_or-eq_default}
use Rattle.math_triple.specs.Tri.{norm_t}
use Rattle.math_fp.specs.Fp.{Prime}
use Rattle.math_rows.specs.Reading.{Reading}
use Rattle.math_rows.specs.Made.{reading}
use Rattle.math_rows.specs.Row.{Size, coefs, row}
use Rattle.math_rows.proofs.Rows.{psum_ext, row_upto}
use Rattle.field_open.specs.Refusal as field
use Rattle.field_open.proofs.Accept.{accepted}
use Rattle.book_body.specs.Body.{list_at, body_of, Finished}
use Rattle.unit_norm.specs.Norm.{NonZeroConstant}
use Rattle.unit_norm.specs.Code.{NormAsks, Norm}
use Rattle.unit_norm.proofs.Constant.{constant_yes, constant_no}
use Rattle.book_norm.specs.Attested.{Attested}
use Rattle.book_norm.specs.Code.{LoadAsks, Loaded, BodyNorm}

-- ---- one list
past : (l : List ℕ) (i : ℕ) → length l ≤ i → get_or l i 0 ≡ 0
past l i h = get_or-eq_default l 0 {n = i} h

below : (p : ℕ) (l : List ℕ) → 0 < p → ((i : ℕ) → i < length l → get_or l i 0 < p) → (i : ℕ) → get_or l i 0 < p
below p l z h i = at (dec_lt i (length l))
  where
    at : Dec (i < length l) → get_or l i 0 < p
    at (yes u) = h i u
    at (no u) = omega (arith, past l i (omega arith))

module _ (s : List ℕ) (w : Finished s) where
  lists : field.Accepted (body_of s).p (body_of s).G (body_of s).H
  lists = accepted (body_of s).p (body_of s).G (body_of s).H w.field

  load_in : (k : ℕ) (d : List ℕ) → k < 5 → length (list_at s k) ≤ length d → ((i : ℕ) → i < length (list_at s k) → get_or (list_at s k) i 0 < (body_of s).p) → LoadAsks s k d
  load_in k d h f g =
      let low : 5 ≤ (body_of s).p = lists.low in
      let high : (body_of s).p ≤ 65535 = lists.high in
      record { list = h; fits = f; small = λ i. omega (arith, below (body_of s).p (list_at s k) (omega arith) g i) }

  pub g_in : LoadAsks s 0 (replicate 13 0)
  unfolding body_of
  g_in = load_in 0 (replicate 13 0) (omega arith) lists.list_g.short lists.list_g.each

  pub h_in : LoadAsks s 1 (replicate 13 0)
  unfolding body_of
  h_in = load_in 1 (replicate 13 0) (omega arith) lists.list_h.short lists.list_h.each

  pub a_in : LoadAsks s 2 (replicate 4096 0)
  unfolding body_of
  a_in = load_in 2 (replicate 4096 0) (omega arith) w.formed.rule.row0.short w.formed.rule.row0.each

  pub b_in : LoadAsks s 3 (replicate 4096 0)
  unfolding body_of
  b_in = load_in 3 (replicate 4096 0) (omega arith) w.formed.rule.row1.short w.formed.rule.row1.each

  pub c_in : LoadAsks s 4 (replicate 4096 0)
  unfolding body_of
  c_in = load_in 4 (replicate 4096 0) (omega arith) w.formed.rule.row2.short w.formed.rule.row2.each

-- ---- the norm
same_row : {p : ℕ} (ρ : Reading p) (a b : List ℕ) → ((i : ℕ) → get_or a i 0 ≡ get_or b i 0) → row ρ a ≡ row ρ b
same_row ρ a b h =
    let n = length a + length b in
    row_upto ρ a n (λ i u. past a i (omega arith)) ∙ psum_ext ρ n (coefs ρ a) (coefs ρ b) (λ i u. ap ρ.cast (h i)) ∙ sym (row_upto ρ b n (λ i u. past b i (omega arith)))

module _ (s : List ℕ) (w : Finished s) (p : ℕ) (e : p ≡ (body_of s).p) where
  pub norm_in : (g h a b c out zg zh za zb zc : List ℕ) → length out ≡ 12327
      → length zg ≡ 13 → length zh ≡ 13 → length za ≡ 4096 → length zb ≡ 4096 → length zc ≡ 4096
      → Loaded s 0 zg g → Loaded s 1 zh h → Loaded s 2 za a → Loaded s 3 zb b → Loaded s 4 zc c → NormAsks p g h a b c out
  norm_in g h a b c out zg zh za zb zc m eg eh ea eb ec qg qh qa qb qc =
      let low : 5 ≤ (body_of s).p = (lists s w).low in
      let high : (body_of s).p ≤ 65535 = (lists s w).high in
      record {
        modulus = record { prime = subst Prime (sym e) (lists s w).prime; small = omega arith };
        three = omega arith;
        size_g = qg.size ∙ eg;
        size_h = qh.size ∙ eh;
        size_a = qa.size ∙ ea;
        size_b = qb.size ∙ eb;
        size_c = qc.size ∙ ec;
        room = m;
      }

  pub body_norm : (g h a b c out r zg zh za zb zc : List ℕ)
      → Loaded s 0 zg g → Loaded s 1 zh h → Loaded s 2 za a → Loaded s 3 zb b → Loaded s 4 zc c → Norm p g h a b c out r → BodyNorm s out r
  unfolding body_of
  body_norm g h a b c out r zg zh za zb zc qg qh qa qb qc q =
      let n : Norm (body_of s).p g h a b c out r = subst (λ (k : ℕ). Norm k g h a b c out r) e q in
      record {
        size = n.size;
        each = n.each;
        law = λ pr.
            (let ρ = reading (body_of s).p pr in
            let f : ρ.𝓥.L.El → ρ.𝓥.L.El → ρ.𝓥.L.El → ρ.𝓥.L.El → ρ.𝓥.L.El → ρ.𝓥.L.El =
            λ x y u v z. norm_t ρ.𝓥.L.ops x y record { a = u; b = v; c = z } in
            let g_is = same_row ρ g (body_of s).G qg.places in
            let h_is = same_row ρ h (body_of s).H qh.places in
            let a-is = same_row ρ a (body_of s).E0 qa.places in
            let b-is = same_row ρ b (body_of s).E1 qb.places in
            let c-is = same_row ρ c (body_of s).E2 qc.places in
            n.law pr ∙ ap₂ (λ x y. f x y (row ρ a) (row ρ b) (row ρ c)) g_is h_is ∙ ap₂ (λ x y. f (row ρ (body_of s).G) (row ρ (body_of s).H) x y (row ρ c)) a-is b-is
            ∙ ap (f (row ρ (body_of s).G) (row ρ (body_of s).H) (row ρ (body_of s).E0) (row ρ (body_of s).E1)) c-is);
      }

-- ---- the answer
pub attested_yes : (s d r : List ℕ) (n : ℕ) → BodyNorm s d r → Size r n → n ≡ 1 → Attested (body_of s)
attested_yes s d r n w z e pr =
    let ρ = reading (body_of s).p pr in
    subst (NonZeroConstant ρ) (w.law pr) (constant_yes ρ r w.each (subst (Size r) e z))

pub attested_no : (s d r : List ℕ) (n : ℕ) → Finished s → BodyNorm s d r → Size r n → n ≢ 1 → Attested (body_of s) → ⊥
attested_no s d r n f w z ne a =
    let pr : Prime (body_of s).p = (lists s f).prime in
    let ρ = reading (body_of s).p pr in
    constant_no ρ r n w.each z ne (subst (NonZeroConstant ρ) (sym (w.law pr)) (a pr))
