-- Bases whose first row is settled by their pairs. In the step the first coordinate of an element with the pair c₁, c₂ is −(c₁ x + c₂ y), up to
-- multiples of U: so only the pairs are carried through the reduction, and the first row is found at its end.
--   Framed x y B    M0 = −(M1 x + M2 y) and N0 = −(N1 x + N2 y) modulo U
--   Rebased B B'    both framed, U' = U times a unit, and the pairs of B' are those of B changed
--   rebased_to rebased_from   then their lattices are one
--   rebased_over rebased_rank rebased_alone   and what B is over, its rank and its lack of a common factor pass to B'
use mathlib.Core.Path.{◌≡◌, sym, ap, ◌∙◌, subst}
use mathlib.Core.List.{[], ◌∷◌}
use mathlib.Core.Logic.{◌≢◌}
use Rattle.math_ring.proofs.Laws as rg
use Rattle.math_ring.specs.Ring.{CRing}
use Rattle.math_ring.proofs.Solve.{var, hyp, one, minus, ◌:+◌, ◌:*◌, ◌:=◌, solve_by, ring₃}
use Rattle.math_valued.specs.Polynomial.{polys, Divides, IsUnit}
use Rattle.math_valued.proofs.Gcds.{divides_trans}
use Rattle.math_ideals.specs.Setting.{Setting, P}
use Rattle.math_ideals.specs.Element.{O, sc}
use Rattle.math_ideals.specs.Ideal.{Basis, In, det}
use Rattle.math_ideals.specs.Basis.{NoFactor}
use Rattle.math_ideals.specs.Next.{Over}
use Rattle.math_ideals.proofs.Sizes.{O_path}
use Rattle.math_ideals.proofs.Lattice.{in_U, in_scale, in_lin, lin_a, lin_b, lin_c, sc_mul}
use Rattle.math_chain.proofs.Changed.{Pair, Changed, Alone, changed_back, changed_det, changed_alone}

module _ (S : Setting) where
  open S use {𝓥}
  open 𝓥 use {L}
  open L.ops use {𝟎}
  open (polys 𝓥).ops use {add as ◌⊞◌, mul as ◌⊠◌, neg as ⊟◌, 𝟎 as 0ₚ, 𝟏 as 1ₚ}
  open (O S).ops use {add as ◌⊕◌, mul as ◌⊗◌}

  infixl 60 ◌⊕◌ ◌⊞◌
  infixl 70 ◌⊗◌ ◌⊠◌
  infix 80 ⊟◌
  abbrev R : CRing
  R = polys 𝓥

  abbrev pub pair : (O S).El → Pair 𝓥
  pair v = record { b = v.b; c = v.c }

  -- a + b x + c y
  abbrev pub off : P S → P S → (O S).El → P S
  off x y v = v.a ⊞ (v.b ⊠ x ⊞ v.c ⊠ y)

  pub record Framed (x y : P S) (B : Basis S) : Type 0 where
    pub M_a : Divides 𝓥 B.U (off x y B.M)
    pub N_a : Divides 𝓥 B.U (off x y B.N)

  pub record Rebased (x y : P S) (B B' : Basis S) : Type 0 where
    pub old : Framed x y B
    pub new : Framed x y B'
    pub unit : P S
    pub is_a_unit : IsUnit 𝓥 unit
    pub U_eq : B'.U ≡ unit ⊠ B.U
    pub change : Changed 𝓥 (pair B.M) (pair B.N) (pair B'.M) (pair B'.N)

  -- the other way round
  abbrev pub rebased_back : {x y : P S} {B B' : Basis S} → Rebased x y B B' → Rebased x y B' B
  rebased_back {B = B} {B' = B'} h = record {
    old = h.new;
    new = h.old;
    unit = h.is_a_unit.0;
    is_a_unit = (h.unit, h.is_a_unit.1 ∙ R.laws.mul_comm h.unit h.is_a_unit.0);
    U_eq = solve_by R (var 0) (var 1 :* var 3) (hyp (var 0) one (var 2 :* var 1) ∷ hyp (minus (var 1)) (var 3) (var 2 :* var 0) ∷ []) tt (B.U ∷ h.is_a_unit.0 ∷ h.unit ∷ B'.U ∷ []) (h.is_a_unit.1, (h.U_eq, tt));
    change = changed_back 𝓥 h.change;
  }

  -- an element framed by U whose pair is a combination of those of M and N lies in Λ
  within : (x y : P S) (B : Basis S) → Framed x y B → (v : (O S).El) (α β : P S) → v.b ≡ α ⊠ B.M.b ⊞ β ⊠ B.N.b → v.c ≡ α ⊠ B.M.c ⊞ β ⊠ B.N.c → Divides 𝓥 B.U (off x y v) → In S B v
  within x y B f v α β eb ec (k, e) =
      let (i, ei) = f.M_a in
      let (j, ej) = f.N_a in
      record {
        α = k ⊞ ⊟ (α ⊠ i ⊞ β ⊠ j);
        β = α;
        γ = β;
        eq = O_path S
            (solve_by R (var 0) ((var 13 :+ minus (var 9 :* var 11 :+ var 10 :* var 12)) :* var 14 :+ var 9 :* var 3 :+ var 10 :* var 6)
            (hyp one (var 0 :+ (var 1 :* var 15 :+ var 2 :* var 16)) (var 14 :* var 13) ∷ hyp (minus (var 9)) (var 3 :+ (var 4 :* var 15 :+ var 5 :* var 16)) (var 14 :* var 11)
            ∷ hyp (minus (var 10)) (var 6 :+ (var 7 :* var 15 :+ var 8 :* var 16)) (var 14 :* var 12)
            ∷ hyp (minus (var 15)) (var 1) (var 9 :* var 4 :+ var 10 :* var 7) ∷ hyp (minus (var 16)) (var 2) (var 9 :* var 5 :+ var 10 :* var 8) ∷ []) tt
            (v.a ∷ v.b ∷ v.c ∷ B.M.a ∷ B.M.b ∷ B.M.c ∷ B.N.a ∷ B.N.b ∷ B.N.c ∷ α ∷ β ∷ i ∷ j ∷ k ∷ B.U ∷ x ∷ y ∷ []) (e, (ei, (ej, (eb, (ec, tt))))) ∙ sym (lin_a S B _ α β))
            (eb ∙ sym (lin_b S B _ α β))
            (ec ∙ sym (lin_c S B _ α β));
      }

  module _ {x y : P S} {B B' : Basis S} (h : Rebased x y B B') where
    -- U divides U' times anything
    pub rebased_from : (v : (O S).El) → In S B' v → In S B v
    rebased_from = in_lin S B B'
        (subst (In S B) (sym (ap (sc S) h.U_eq ∙ sc_mul S h.unit B.U)) (in_scale S B h.unit _ (in_U S B)))
        (within x y B h.old B'.M h.change.α h.change.β h.change.m_b h.change.m_c (divides_trans 𝓥 B.U B'.U _ U_U h.new.M_a))
        (within x y B h.old B'.N h.change.γ h.change.δ h.change.n_b h.change.n_c (divides_trans 𝓥 B.U B'.U _ U_U h.new.N_a))
      where
        U_U : Divides 𝓥 B.U B'.U
        U_U = (h.unit, h.U_eq ∙ R.laws.mul_comm h.unit B.U)

    -- e' is e times the determinant of the change
    pub rebased_det : det S B' ≡ (h.change.α ⊠ h.change.δ ⊞ ⊟ (h.change.β ⊠ h.change.γ)) ⊠ det S B
    rebased_det = changed_det 𝓥 h.change

    -- the pairs have no common factor, so the seven have none
    pub rebased_alone : Alone 𝓥 (pair B.M) (pair B.N) → NoFactor S B'
    rebased_alone alone d a₀ a₁ a₂ a₃ a₄ a₅ a₆ = changed_alone 𝓥 h.change alone d a₂ a₃ a₅ a₆

  module _ {x y : P S} {B B' : Basis S} (h : Rebased x y B B') where
    pub rebased_to : (v : (O S).El) → In S B v → In S B' v
    rebased_to = rebased_from (rebased_back h)

    pub rebased_U : B.U.0 ≢ 𝟎 → B'.U.0 ≢ 𝟎
    rebased_U nz z = nz (ap (λ t. t.0) (rebased_back h).U_eq ∙ ap (λ t. L.ops.mul (rebased_back h).unit.0 t) z ∙ rg.mul-zero L (rebased_back h).unit.0)

    pub rebased_rank : (det S B).0 ≢ 𝟎 → (det S B').0 ≢ 𝟎
    rebased_rank nz z =
        let t = (rebased_back h).change in
        nz (ap (λ s. s.0) (rebased_det (rebased_back h)) ∙ ap (λ s. L.ops.mul (t.α ⊠ t.δ ⊞ ⊟ (t.β ⊠ t.γ)).0 s) z ∙ rg.mul-zero L (t.α ⊠ t.δ ⊞ ⊟ (t.β ⊠ t.γ)).0)

    -- E (Λ/U) = E (Λ'/U')
    pub rebased_over : (Λ : (O S).El → Type 0) (E : (O S).El) → ((a : P S) (u : (O S).El) → Λ u → Λ (sc S a ⊗ u)) → Over S Λ E B → Over S Λ E B'
    rebased_over Λ E closed over = record {
      into = λ v iv.
          let (u, l, e) = over.into v (rebased_from h v iv) in
          (sc S h.is_a_unit.0 ⊗ u, closed h.is_a_unit.0 u l, e ∙ same u);
      onto = λ u l.
          let (v, iv, e) = over.onto (sc S h.unit ⊗ u) (closed h.unit u l) in
          (v, rebased_to v iv, e ∙ ring₃ (O S) (λ b c u. b :* (c :* u) := c :* b :* u) tt (sc S B.U) (sc S h.unit) u ∙ ap (λ s. s ⊗ u) (sym (sc_mul S h.unit B.U) ∙ ap (sc S) (sym h.U_eq)));
    }
      where
        same : (u : (O S).El) → sc S B.U ⊗ u ≡ sc S B'.U ⊗ (sc S h.is_a_unit.0 ⊗ u)
        same u =
            ap (λ s. sc S s ⊗ u) (rebased_back h).U_eq ∙ ap (λ s. s ⊗ u) (sc_mul S h.is_a_unit.0 B'.U)
            ∙ ring₃ (O S) (λ c b u. c :* b :* u := b :* (c :* u)) tt (sc S h.is_a_unit.0) (sc S B'.U) u
