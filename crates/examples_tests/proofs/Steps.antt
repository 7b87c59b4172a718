-- Steps and records by computed tests.
--   next_of        the next ideal by four elements: two that M takes the new lattice to, two that it takes to the old one
--   next_rows      the same of written rows
--   basis_is       the record's seven polynomials are those of the rows
--   record_of      it is a record of the field
use mathlib.Core.Path.{◌≡◌, sym, ap, ◌∙◌, subst}
use mathlib.Core.Bool.{true}
use mathlib.Core.List.{List, [], ◌∷◌}
use Prim.Native.Nat.{ℕ}
use native.Mathlib.Omega.{arith}
use native.Mathlib.Decide.{dec_lt}
use lib.Dec.{T, eqb→eq}
use lib.ListN.{length, get_or, get_or-eq_default}
use Rattle.math_ring.proofs.Solve.{var, hyp, ◌:+◌, ◌:*◌, solve_by}
use Rattle.math_triple.specs.Tri.{Tri}
use Rattle.math_fp.proofs.Trial.{and_l, and_r}
use Rattle.field_open.specs.Refusal.{Accepted}
use Rattle.math_ideals.specs.Setting.{Setting}
use Rattle.math_ideals.specs.Element.{O, sc}
use Rattle.math_ideals.specs.Ideal.{Basis, In}
use Rattle.math_ideals.specs.Basis.{Good}
use Rattle.math_ideals.specs.Next.{Next}
use Rattle.math_ideals.proofs.Lattice.{in_U, in_M, in_add, in_scale}
use Rattle.basis_record.specs.Record.{part, setting, poly_of, basis_of, IsRecord}
use Rattle.examples_lists.proofs.Meaning.{el, el_alike, poly_alike}
use Rattle.examples_tests.specs.Rows.{Rows}
use Rattle.examples_tests.specs.Tests.{every, lies, pure, by, over, back_by, meets, goes, kept}
use Rattle.examples_tests.proofs.Fields.{every_at, below_sound}
use Rattle.examples_tests.proofs.Bases.{basis_l, lies_in, pure_is, by_is}

module _ (S : Setting) (B B' : Basis S) where
  open (O S).ops use {add as ◌⊕◌, mul as ◌⊗◌}

  infixl 60 ◌⊕◌
  infixl 70 ◌⊗◌
  pub next_of : (u₁ u₂ v₁ v₂ : (O S).El) → In S B u₁ → In S B u₂ → In S B' v₁ → In S B' v₂
      → B.M ⊗ B'.M ≡ sc S B'.U ⊗ u₁ → B.M ⊗ B'.N ≡ sc S B'.U ⊗ u₂ → B.M ⊗ v₁ ≡ sc S B'.U ⊗ sc S B.U → B.M ⊗ v₂ ≡ sc S B'.U ⊗ B.N → Next S B B'
  next_of u₁ u₂ v₁ v₂ i₁ i₂ j₁ j₂ e₁ e₂ f₁ f₂ = record {
    into = λ v i. (
      sc S i.α ⊗ B.M ⊕ sc S i.β ⊗ u₁ ⊕ sc S i.γ ⊗ u₂,
      in_add S B _ _ (in_add S B _ _ (in_scale S B i.α _ (in_M S B)) (in_scale S B i.β _ i₁)) (in_scale S B i.γ _ i₂),
      ap (λ z. B.M ⊗ z) i.eq
          ∙ solve_by (O S) (var 0 :* (var 1 :* var 4 :+ var 2 :* var 5 :+ var 3 :* var 6)) (var 4 :* (var 1 :* var 0 :+ var 2 :* var 7 :+ var 3 :* var 8))
          (hyp (var 2) (var 0 :* var 5) (var 4 :* var 7) ∷ hyp (var 3) (var 0 :* var 6) (var 4 :* var 8) ∷ []) tt
          (B.M ∷ sc S i.α ∷ sc S i.β ∷ sc S i.γ ∷ sc S B'.U ∷ B'.M ∷ B'.N ∷ u₁ ∷ u₂ ∷ []) (e₁, (e₂, tt)),
    );
    onto = λ u i. (
      sc S i.α ⊗ v₁ ⊕ sc S i.β ⊗ sc S B'.U ⊕ sc S i.γ ⊗ v₂,
      in_add S B' _ _ (in_add S B' _ _ (in_scale S B' i.α _ j₁) (in_scale S B' i.β _ (in_U S B'))) (in_scale S B' i.γ _ j₂),
      solve_by (O S) (var 0 :* (var 1 :* var 7 :+ var 2 :* var 4 :+ var 3 :* var 8)) (var 4 :* (var 1 :* var 5 :+ var 2 :* var 0 :+ var 3 :* var 6))
          (hyp (var 1) (var 0 :* var 7) (var 4 :* var 5) ∷ hyp (var 3) (var 0 :* var 8) (var 4 :* var 6) ∷ []) tt
          (B.M ∷ sc S i.α ∷ sc S i.β ∷ sc S i.γ ∷ sc S B'.U ∷ sc S B.U ∷ B.N ∷ v₁ ∷ v₂ ∷ []) (f₁, (f₂, tt))
          ∙ ap (λ z. sc S B'.U ⊗ z) (sym i.eq),
    );
  }

module _ {p : ℕ} {G H : List ℕ} (A : Accepted p G H) where
  open (O (setting A)).ops use {mul as ◌⊗◌}

  infixl 70 ◌⊗◌
  meets_is : (M : Tri (List ℕ)) (U : List ℕ) (v w : Tri (List ℕ)) → T (meets p G H M U v w) → el p A.prime M ⊗ el p A.prime v ≡ sc (setting A) (poly_of A U) ⊗ el p A.prime w
  meets_is M U v w t =
      sym (by_is A M v)
      ∙ el_alike p A.prime (by p G H M v) (by p G H (pure p U) w) t
      ∙ by_is A (pure p U) w
      ∙ ap (λ z. z ⊗ el p A.prime w) (pure_is A U)

  pub next_rows : (b b' : Rows) → T (every (goes p G H b b')) → Next (setting A) (basis_l A b) (basis_l A b')
  next_rows b b' t =
      let at : (i : ℕ) → T (get_or (goes p G H b b') i true) = every_at (goes p G H b b') t in
      let u₁ : Tri (List ℕ) = over p G H (by p G H b.M b'.M) b'.U in
      let u₂ : Tri (List ℕ) = over p G H (by p G H b.M b'.N) b'.U in
      let v₁ : Tri (List ℕ) = back_by p G H b.M b'.U (pure p b.U) in
      let v₂ : Tri (List ℕ) = back_by p G H b.M b'.U b.N in
      next_of (setting A) (basis_l A b) (basis_l A b') (el p A.prime u₁) (el p A.prime u₂) (el p A.prime v₁) (el p A.prime v₂)
      (lies_in A b u₁ (and_l (lies p b u₁) (meets p G H b.M b'.U b'.M u₁) (at 0)))
      (lies_in A b u₂ (and_l (lies p b u₂) (meets p G H b.M b'.U b'.N u₂) (at 1)))
      (lies_in A b' v₁ (and_l (lies p b' v₁) (meets p G H b.M b'.U v₁ (pure p b.U)) (at 2)))
      (lies_in A b' v₂ (and_l (lies p b' v₂) (meets p G H b.M b'.U v₂ b.N) (at 3)))
      (meets_is b.M b'.U b'.M u₁ (and_r (lies p b u₁) (meets p G H b.M b'.U b'.M u₁) (at 0)))
      (meets_is b.M b'.U b'.N u₂ (and_r (lies p b u₂) (meets p G H b.M b'.U b'.N u₂) (at 1)))
      (meets_is b.M b'.U v₁ (pure p b.U) (and_r (lies p b' v₁) (meets p G H b.M b'.U v₁ (pure p b.U)) (at 2)) ∙ ap (λ z. sc (setting A) (poly_of A b'.U) ⊗ z) (pure_is A b.U))
      (meets_is b.M b'.U v₂ b.N (and_r (lies p b' v₂) (meets p G H b.M b'.U v₂ b.N) (at 3)))

  -- ---- the record
  pub basis_is : (B : List ℕ) (b : Rows) → T (every (kept p B b)) → basis_of A B ≡ basis_l A b
  basis_is B b t =
      let at : (i : ℕ) → T (get_or (kept p B b) i true) = every_at (kept p B b) t in
      let e₀ : poly_of A (part 0 B) ≡ poly_of A b.M.a = poly_alike p A.prime (part 0 B) b.M.a (at 2) in
      let e₁ : poly_of A (part 1 B) ≡ poly_of A b.M.b = poly_alike p A.prime (part 1 B) b.M.b (at 3) in
      let e₂ : poly_of A (part 2 B) ≡ poly_of A b.M.c = poly_alike p A.prime (part 2 B) b.M.c (at 4) in
      let e₃ : poly_of A (part 3 B) ≡ poly_of A b.N.a = poly_alike p A.prime (part 3 B) b.N.a (at 5) in
      let e₄ : poly_of A (part 4 B) ≡ poly_of A b.N.b = poly_alike p A.prime (part 4 B) b.N.b (at 6) in
      let e₅ : poly_of A (part 5 B) ≡ poly_of A b.N.c = poly_alike p A.prime (part 5 B) b.N.c (at 7) in
      let e₆ : poly_of A (part 6 B) ≡ poly_of A b.U = poly_alike p A.prime (part 6 B) b.U (at 8) in
      λ i. record { U = e₆ i; M = record { a = e₀ i; b = e₁ i; c = e₂ i }; N = record { a = e₃ i; b = e₄ i; c = e₅ i } }

pub record_of : {p : ℕ} {G H : List ℕ} (B : List ℕ) (b : Rows) → Accepted p G H → T (every (kept p B b)) → ((A : Accepted p G H) → Good (setting A) (basis_l A b)) → IsRecord p G H B
record_of {p} {G} {H} B b A k g =
    let at : (i : ℕ) → T (get_or (kept p B b) i true) = every_at (kept p B b) k in
    record {
      size = eqb→eq (length B) 119 (at 0);
      each = λ i. elim (dec_lt i (length B)) [
        | yes l ↦ below_sound p B (at 1) i l
        | no l ↦ let z : get_or B i 0 ≡ 0 = get_or-eq_default B 0 {n = i} (omega arith) in omega (arith, A.low)
      ];
      good = λ A'. subst (Good (setting A')) (sym (basis_is A' B b k)) (g A');
    }
