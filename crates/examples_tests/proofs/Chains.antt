-- Walks and units by computed tests.
--   chain_of      the chain of a written walk
--   good_at       where it stands is a good basis
--   open_of       no count so far closes
--   closing_of    the last one does, and is the first
--   start_of      a good basis with U = 1 is that of the order
--   scaled_of     an element scaled by a convention
--   unit_of       the unit of a closing walk from the order
use mathlib.Core.Path.{◌≡◌, refl, sym, ap, ap₂, ◌∙◌}
use mathlib.Core.Logic.{◌≢◌}
use mathlib.Core.Bool.{true, ◌&&◌}
use mathlib.Core.List.{List, [], ◌∷◌}
use Prim.Native.Nat.{ℕ, suc, ◌<◌}
use native.Mathlib.Omega.{arith}
use lib.Dec.{T, ltb, eqb→eq, ltb→lt}
use lib.ListN.{length, get_or}
use Rattle.math_triple.specs.Tri.{Tri, norm_t}
use Rattle.math_fp.proofs.Trial.{and_l, and_r}
use Rattle.math_valued.specs.Polynomial.{polys}
use Rattle.math_valued.proofs.Degree as d
use Rattle.math_rows.specs.Reading.{Reading}
use Rattle.math_rows.specs.Made.{reading}
use Rattle.field_open.specs.Refusal.{Accepted}
use Rattle.math_ideals.specs.Setting.{Setting}
use Rattle.math_ideals.specs.Element.{O, sc}
use Rattle.math_ideals.specs.Basis.{Good}
use Rattle.math_ideals.specs.Next.{Start}
use Rattle.math_chain.specs.Chain.{Degree, Chain, here, then, tops, bottoms, Open, Closing}
use Rattle.math_chain.specs.Convention.{Convention, e0_monic, norm_one, Scaled}
use Rattle.math_chain.specs.Unit.{UnitOf}
use Rattle.math_chain.proofs.Walk.{degree_M0, closes, open_none, open_more}
use Rattle.math_chain.proofs.Closing.{start_of_one}
use Rattle.basis_record.specs.Record.{setting, poly_of}
use Rattle.examples_lists.specs.Lists.{lists, alike, ends}
use Rattle.examples_lists.proofs.Lists.{lead_list}
use Rattle.examples_lists.proofs.Meaning.{poly_hom, poly_alike, el, el_hom, el_alike}
use Rattle.examples_tests.specs.Rows.{Rows}
use Rattle.examples_tests.specs.Tests.{every, last, has_top, pure, by, good}
use Rattle.examples_tests.specs.Walks.{at, degree_l, total, unclosed, step, walks, tops_l, bottoms_l, is_scaled, ratio, is_unit_by, is_unit}
use Rattle.examples_tests.proofs.Fields.{every_at}
use Rattle.examples_tests.proofs.Floors.{has_top_lem}
use Rattle.examples_tests.proofs.Bases.{basis_l, pure_is, by_is, norm_is, good_rows}
use Rattle.examples_tests.proofs.Steps.{next_rows}

module _ {p : ℕ} {G H : List ℕ} (A : Accepted p G H) (r w : List ℕ) where
  abbrev S : Setting
  S = setting A

  abbrev ρ : Reading p
  ρ = reading p A.prime

  open (polys (reading p A.prime).𝓥).ops use {mul as ◌⊠◌, 𝟏 as 1ₚ}
  open (O (setting A)).ops use {mul as ◌⊗◌, 𝟏 as 1ₒ}

  infixl 70 ◌⊗◌ ◌⊠◌
  module _ (b : Rows) (g : T (every (good p G H r w b))) where
    pub good_at : (cs : List Rows) → T (walks p G H r w b cs) → Good (setting A) (basis_l A (at b cs))
    good_at [] t = good_rows A r w b g
    good_at (c ∷ cs) t = good_rows A r w c (every_at (step p G H r w (at b cs) c) (and_r (walks p G H r w b cs) _ t) 0)

    pub degree_at : (cs : List Rows) (c : Rows) → T (walks p G H r w b cs) → T (every (step p G H r w (at b cs) c)) → Degree (setting A) (basis_l A (at b cs)) (degree_l (at b cs))
    degree_at cs c t s =
        let k : (i : ℕ) → T (get_or (step p G H r w (at b cs) c) i true) = every_at (step p G H r w (at b cs) c) s in
        degree_M0 S (basis_l A (at b cs)) (good_at cs t) (has_top_lem ρ (at b cs).M.a (k 2)) (has_top_lem ρ (at b cs).U (k 3))

    pub chain_of : (cs : List Rows) → T (walks p G H r w b cs) → Chain (setting A) (basis_l A b) (length cs) (total b cs) (basis_l A (at b cs))
    chain_of [] t = here
    chain_of (c ∷ cs) t =
        then (degree_l (at b cs)) (basis_l A c) (chain_of cs (and_l (walks p G H r w b cs) _ t))
        (degree_at cs c (and_l (walks p G H r w b cs) _ t) (and_r (walks p G H r w b cs) _ t))
        (next_rows A (at b cs) c (every_at (step p G H r w (at b cs) c) (and_r (walks p G H r w b cs) _ t) 1))
        (good_at (c ∷ cs) t)

    -- U of degree above 0 is not 1
    not_one : (c : Rows) → T (ltb 0 (last c.U) && has_top p c.U) → (basis_l A c).U ≢ 1ₚ
    not_one c t e =
        let l : 0 < last c.U = ltb→lt 0 (last c.U) (and_l (ltb 0 (last c.U)) (has_top p c.U) t) in
        let z : last c.U ≡ 0 = d.same ρ.𝓥 (d.has_eq ρ.𝓥 (has_top_lem ρ c.U (and_r (ltb 0 (last c.U)) (has_top p c.U) t)) (ap (λ x. x.0) e)) (d.has_one ρ.𝓥) in
        omega arith

    pub open_of : (cs : List Rows) → T (walks p G H r w b cs) → T (unclosed p cs) → Open (setting A) (basis_l A b) (length cs)
    open_of [] t o = open_none S (basis_l A b)
    open_of (c ∷ cs) t o =
        open_more S (basis_l A b) (good_rows A r w b g) (open_of cs (and_l (walks p G H r w b cs) _ t) (and_l (unclosed p cs) _ o)) (chain_of (c ∷ cs) t)
        (not_one c (and_r (unclosed p cs) _ o))

    one_is : (c : Rows) → T (alike p c.U (1 ∷ [])) → (basis_l A c).U ≡ 1ₚ
    one_is c t = poly_alike p A.prime c.U (1 ∷ []) t ∙ (poly_hom p A.prime).𝟏

    pub closing_of : (c : Rows) (cs : List Rows) (t : T (walks p G H r w b (c ∷ cs))) → T (unclosed p cs) → T (alike p c.U (1 ∷ [])) → Closing (setting A) (basis_l A b) (suc (length cs)) (total b (c ∷ cs)) (basis_l A c)
    closing_of c cs t o e = closes S (basis_l A b) (open_of cs (and_l (walks p G H r w b cs) _ t) o) (chain_of (c ∷ cs) t) (one_is c e)

    pub start_of : T (alike p b.U (1 ∷ [])) → Start (setting A) (basis_l A b)
    start_of e = start_of_one S (basis_l A b) (good_rows A r w b g) (one_is b e)

    -- ---- the products
    one_el : el p A.prime (pure p (1 ∷ [])) ≡ 1ₒ
    one_el = (el_hom p A.prime G H).𝟏

    tops_is : (cs : List Rows) (t : T (walks p G H r w b cs)) → tops (setting A) (chain_of cs t) ≡ el p A.prime (tops_l p G H b cs)
    unfolding tops chain_of
    tops_is [] t = sym one_el
    tops_is (c ∷ cs) t = ap (λ z. z ⊗ el p A.prime (at b cs).M) (tops_is cs (and_l (walks p G H r w b cs) _ t)) ∙ sym (by_is A (tops_l p G H b cs) (at b cs).M)

    bottoms_is : (cs : List Rows) (t : T (walks p G H r w b cs)) → bottoms (setting A) (chain_of cs t) ≡ poly_of A (bottoms_l p G H b cs)
    unfolding bottoms chain_of
    bottoms_is [] t = sym (poly_hom p A.prime).𝟏
    bottoms_is (c ∷ cs) t = ap (λ z. z ⊠ poly_of A (at b cs).U) (bottoms_is cs (and_l (walks p G H r w b cs) _ t)) ∙ sym ((poly_hom p A.prime).mul (bottoms_l p G H b cs) (at b cs).U)

    scaled_of : (k : Convention) (E : Tri (List ℕ)) → T (is_scaled p G H k E) → Scaled (setting A) k (el p A.prime E)
    scaled_of e0_monic E t =
        let n : ℕ = last E.a in
        (n, 0, ρ.𝓥.one≢zero, d.lead_eq ρ.𝓥 (lead_list ρ E.a n (and_l (ends E.a (suc n)) _ t)) refl (ap ρ.cast (eqb→eq (get_or E.a n 0) 1 (and_r (ends E.a (suc n)) _ t)) ∙ ρ.cast_one))
    scaled_of norm_one E t = sym (norm_is A E) ∙ poly_alike p A.prime (norm_t (lists p) G H E) (1 ∷ []) t ∙ (poly_hom p A.prime).𝟏

    pub unit_of : (k : Convention) (c : Rows) (cs : List Rows) → T (alike p b.U (1 ∷ [])) → T (walks p G H r w b (c ∷ cs)) → T (unclosed p cs) → T (alike p c.U (1 ∷ []))
        → (E F : Tri (List ℕ)) → T (every (is_unit p G H k b (c ∷ cs) E F)) → UnitOf (setting A) k (basis_l A b) (suc (length cs)) (total b (c ∷ cs)) (el p A.prime E) (el p A.prime F)
    unit_of k c cs e t o f E F u =
        let top : Tri (List ℕ) = tops_l p G H b (c ∷ cs) in
        let bottom : List ℕ = bottoms_l p G H b (c ∷ cs) in
        let s : List ℕ = ratio p G H top E in
        let i : List ℕ = ratio p G H E top in
        let q : (n : ℕ) → T (get_or (is_unit_by p G H k top bottom s i E F) n true) = every_at (is_unit_by p G H k top bottom s i E F) u in
        let k₀ : Closing (setting A) (basis_l A b) (suc (length cs)) (total b (c ∷ cs)) (basis_l A c) = closing_of c cs t o f in
        record {
          start = start_of e;
          B = basis_l A c;
          closing = record { chain = chain_of (c ∷ cs) t; some = k₀.some; closed = k₀.closed; none = k₀.none };
          scale = poly_of A s;
          is_a_unit = (poly_of A i, sym (sym ((poly_hom p A.prime).mul s i) ∙ poly_alike p A.prime ((lists p).mul s i) (1 ∷ []) (q 0) ∙ (poly_hom p A.prime).𝟏));
          product =
              ap₂ (λ x y. sc S x ⊗ y) (bottoms_is (c ∷ cs) t) refl
              ∙ ap (λ x. x ⊗ el p A.prime E) (sym (pure_is A bottom))
              ∙ sym (by_is A (pure p bottom) E)
              ∙ el_alike p A.prime (by p G H (pure p bottom) E) (by p G H (pure p s) top) (q 1)
              ∙ by_is A (pure p s) top
              ∙ ap₂ (λ x y. x ⊗ y) (pure_is A s) (sym (tops_is (c ∷ cs) t));
          scaled = scaled_of k E (q 2);
          inverse = sym (by_is A E F) ∙ el_alike p A.prime (by p G H E F) (pure p (1 ∷ [])) (q 3) ∙ one_el;
        }
