-- The lattice of a basis: what lies in it, and coordinates.
--   in_U in_M in_N       U, M and N do
--   in_add in_scale in_lin   sums, multiples, and the lattice of a basis that lies in another
--   lin_a lin_b lin_c    the coordinates of αU + βM + γN; lin_M lin_N with two of the three coefficients 0
--   sc_add sc_mul        polynomials as elements
--   by_r by_w            r and w times an element
--   by_all               an ideal is closed under every element of the order
--   divides_all all_divides   a polynomial divides an element exactly where it divides the three coordinates
use mathlib.Core.Path.{◌≡◌, refl, sym, ap, ap₂, ◌∙◌, subst}
use mathlib.Core.List.{List, [], ◌∷◌}
use Rattle.math_ring.specs.Ring.{CRing}
use Rattle.math_ring.proofs.Solve.{var, exprs, one, zer, ◌:+◌, ◌:*◌, ◌:=◌, solve, ring₃}
use Rattle.math_triple.specs.Tri.{tri_e, solve₃}
use Rattle.math_triple.specs.Order.{triops}
use Rattle.math_valued.specs.Polynomial.{polys, Divides}
use Rattle.math_valued.proofs.Polynomial.{P_path}
use Rattle.math_ideals.specs.Setting.{Setting, P}
use Rattle.math_ideals.specs.Element.{O, sc, el_r, el_w}
use Rattle.math_ideals.specs.Ideal.{Basis, lin, In, Ideal}
use Rattle.math_ideals.proofs.Sizes.{O_path, sc_a, sc_b, sc_c, lin_e, sc_e, g_e, h_e}

module _ (S : Setting) where
  open S use {𝓥}
  open S.roots use {G, H}
  open 𝓥.L.ops use {𝟎}
  open (polys 𝓥).ops use {add as ◌⊞◌, mul as ◌⊠◌, neg as ⊟◌, 𝟎 as 0ₚ, 𝟏 as 1ₚ}
  open (O S).ops use {add as ◌⊕◌, mul as ◌⊗◌}

  infixl 60 ◌⊕◌ ◌⊞◌
  infixl 70 ◌⊗◌ ◌⊠◌
  infix 80 ⊟◌
  abbrev R : CRing
  R = polys 𝓥

  -- U, M and N are in the lattice
  pub in_M : (B : Basis S) → In S B B.M
  in_M B = record { α = 0ₚ; β = 1ₚ; γ = 0ₚ; eq = ring₃ (O S) (λ u m n. m := zer :* u :+ one :* m :+ zer :* n) tt (sc S B.U) B.M B.N }

  pub in_N : (B : Basis S) → In S B B.N
  in_N B = record { α = 0ₚ; β = 0ₚ; γ = 1ₚ; eq = ring₃ (O S) (λ u m n. n := zer :* u :+ zer :* m :+ one :* n) tt (sc S B.U) B.M B.N }

  pub in_U : (B : Basis S) → In S B (sc S B.U)
  in_U B = record { α = 1ₚ; β = 0ₚ; γ = 0ₚ; eq = ring₃ (O S) (λ u m n. u := one :* u :+ zer :* m :+ zer :* n) tt (sc S B.U) B.M B.N }

  pub sc_add : (a b : P S) → sc S (a ⊞ b) ≡ sc S a ⊕ sc S b
  sc_add a b = O_path S refl (sym (R.laws.add-zero 0ₚ)) (sym (R.laws.add-zero 0ₚ))

  abbrev env_p : List (P S) → List (P S)
  env_p l = G ∷ H ∷ 0ₚ ∷ 0ₚ ∷ l

  open triops exprs g_e h_e use {add as ◌:⊕◌, mul as ◌:⊗◌}

  infixl 60 ◌:⊕◌
  infixl 70 ◌:⊗◌
  pub sc_mul : (a b : P S) → sc S (a ⊠ b) ≡ sc S a ⊗ sc S b
  sc_mul a b =
      let x = sc_e (var 4) in
      let y = sc_e (var 5) in
      let l : List (P S) = env_p (a ∷ b ∷ []) in
      O_path S (solve R (var 4 :* var 5) (x :⊗ y).a tt l) (solve R zer (x :⊗ y).b tt l) (solve R zer (x :⊗ y).c tt l)

  pub in_add : (B : Basis S) (u v : (O S).El) → In S B u → In S B v → In S B (u ⊕ v)
  in_add B u v i j = record {
    α = i.α ⊞ j.α;
    β = i.β ⊞ j.β;
    γ = i.γ ⊞ j.γ;
    eq = ap₂ ◌⊕◌ i.eq j.eq ∙
        (solve (O S) (var 0 :* var 6 :+ var 1 :* var 7 :+ var 2 :* var 8 :+ (var 3 :* var 6 :+ var 4 :* var 7 :+ var 5 :* var 8))
        ((var 0 :+ var 3) :* var 6 :+ (var 1 :+ var 4) :* var 7 :+ (var 2 :+ var 5) :* var 8) tt
        (sc S i.α ∷ sc S i.β ∷ sc S i.γ ∷ sc S j.α ∷ sc S j.β ∷ sc S j.γ ∷ sc S B.U ∷ B.M ∷ B.N ∷ []) ∙
        ap₂ (λ s t. s ⊗ sc S B.U ⊕ t ⊗ B.M ⊕ (sc S i.γ ⊕ sc S j.γ) ⊗ B.N) (sym (sc_add i.α j.α)) (sym (sc_add i.β j.β)) ∙
        ap (λ s. sc S (i.α ⊞ j.α) ⊗ sc S B.U ⊕ sc S (i.β ⊞ j.β) ⊗ B.M ⊕ s ⊗ B.N) (sym (sc_add i.γ j.γ)));
  }

  pub in_scale : (B : Basis S) (a : P S) (v : (O S).El) → In S B v → In S B (sc S a ⊗ v)
  in_scale B a v i = record {
    α = a ⊠ i.α;
    β = a ⊠ i.β;
    γ = a ⊠ i.γ;
    eq = ap (λ z. sc S a ⊗ z) i.eq ∙
        (solve (O S) (var 6 :* (var 0 :* var 3 :+ var 1 :* var 4 :+ var 2 :* var 5)) (var 6 :* var 0 :* var 3 :+ var 6 :* var 1 :* var 4 :+ var 6 :* var 2 :* var 5) tt
        (sc S i.α ∷ sc S i.β ∷ sc S i.γ ∷ sc S B.U ∷ B.M ∷ B.N ∷ sc S a ∷ []) ∙
        ap₂ (λ s t. s ⊗ sc S B.U ⊕ t ⊗ B.M ⊕ sc S a ⊗ sc S i.γ ⊗ B.N) (sym (sc_mul a i.α)) (sym (sc_mul a i.β)) ∙
        ap (λ s. sc S (a ⊠ i.α) ⊗ sc S B.U ⊕ sc S (a ⊠ i.β) ⊗ B.M ⊕ s ⊗ B.N) (sym (sc_mul a i.γ)));
  }

  -- ---- coordinates
  abbrev env_b : Basis S → P S → P S → P S → List (P S)
  env_b B α β γ = env_p (B.M.a ∷ B.M.b ∷ B.M.c ∷ B.N.a ∷ B.N.b ∷ B.N.c ∷ α ∷ B.U ∷ β ∷ γ ∷ [])

  pub lin_a : (B : Basis S) (α β γ : P S) → (lin S B α β γ).a ≡ α ⊠ B.U ⊞ β ⊠ B.M.a ⊞ γ ⊠ B.N.a
  lin_a B α β γ = solve R lin_e.a (var 10 :* var 11 :+ var 12 :* var 4 :+ var 13 :* var 7) tt (env_b B α β γ)

  pub lin_b : (B : Basis S) (α β γ : P S) → (lin S B α β γ).b ≡ β ⊠ B.M.b ⊞ γ ⊠ B.N.b
  lin_b B α β γ = solve R lin_e.b (var 12 :* var 5 :+ var 13 :* var 8) tt (env_b B α β γ)

  pub lin_c : (B : Basis S) (α β γ : P S) → (lin S B α β γ).c ≡ β ⊠ B.M.c ⊞ γ ⊠ B.N.c
  lin_c B α β γ = solve R lin_e.c (var 12 :* var 6 :+ var 13 :* var 9) tt (env_b B α β γ)

  -- r and w times an element
  pub by_r : (v : (O S).El) → el_r S ⊗ v ≡ record { a = v.c ⊠ (G ⊠ H); b = v.a; c = v.b ⊠ H }
  by_r v = solve₃ R (tri_e zer one zer :⊗ tri_e (var 2) (var 3) (var 4)) (tri_e (var 4 :* (var 0 :* var 1)) (var 2) (var 3 :* var 1)) (tt, tt, tt) (G ∷ H ∷ v.a ∷ v.b ∷ v.c ∷ [])

  pub by_w : (v : (O S).El) → el_w S ⊗ v ≡ record { a = v.b ⊠ (G ⊠ H); b = v.c ⊠ G; c = v.a }
  by_w v = solve₃ R (tri_e zer zer one :⊗ tri_e (var 2) (var 3) (var 4)) (tri_e (var 3 :* (var 0 :* var 1)) (var 4 :* var 0) (var 2)) (tt, tt, tt) (G ∷ H ∷ v.a ∷ v.b ∷ v.c ∷ [])

  pub by_r_poly : (a : P S) → el_r S ⊗ sc S a ≡ record { a = 0ₚ; b = a; c = 0ₚ }
  by_r_poly a = solve₃ R (tri_e zer one zer :⊗ sc_e (var 2)) (tri_e zer (var 2) zer) (tt, tt, tt) (G ∷ H ∷ a ∷ [])

  pub by_w_poly : (a : P S) → el_w S ⊗ sc S a ≡ record { a = 0ₚ; b = 0ₚ; c = a }
  by_w_poly a = solve₃ R (tri_e zer zer one :⊗ sc_e (var 2)) (tri_e zer zer (var 2)) (tt, tt, tt) (G ∷ H ∷ a ∷ [])

  -- with no part of U and none of N, or none of M
  pub lin_M : (B : Basis S) (α β γ : P S) → α.0 ≡ 𝟎 → γ.0 ≡ 𝟎 → lin S B α β γ ≡ sc S β ⊗ B.M
  lin_M B α β γ a c =
      ap₂ (λ s t. sc S s ⊗ sc S B.U ⊕ sc S β ⊗ B.M ⊕ sc S t ⊗ B.N) (P_path 𝓥 a) (P_path 𝓥 c) ∙ ring₃ (O S) (λ u m n. zer :* u :+ m :+ zer :* n := m) tt (sc S B.U) (sc S β ⊗ B.M) B.N

  pub lin_N : (B : Basis S) (α β γ : P S) → α.0 ≡ 𝟎 → β.0 ≡ 𝟎 → lin S B α β γ ≡ sc S γ ⊗ B.N
  lin_N B α β γ a c =
      ap₂ (λ s t. sc S s ⊗ sc S B.U ⊕ sc S t ⊗ B.M ⊕ sc S γ ⊗ B.N) (P_path 𝓥 a) (P_path 𝓥 c) ∙ ring₃ (O S) (λ u m n. zer :* u :+ zer :* m :+ n := n) tt (sc S B.U) B.M (sc S γ ⊗ B.N)

  -- a lattice whose U, M and N lie in another lies in it
  pub in_lin : (B B' : Basis S) → In S B (sc S B'.U) → In S B B'.M → In S B B'.N → (v : (O S).El) → In S B' v → In S B v
  in_lin B B' iu im in' v i = subst (In S B) (sym i.eq) (in_add B _ _ (in_add B _ _ (in_scale B i.α _ iu) (in_scale B i.β _ im)) (in_scale B i.γ _ in'))

  -- ---- an ideal is closed under every element of the order
  split : (x : (O S).El) → x ≡ sc S x.a ⊕ sc S x.b ⊗ el_r S ⊕ sc S x.c ⊗ el_w S
  split x =
      solve₃ R (tri_e (var 2) (var 3) (var 4)) (sc_e (var 2) :⊕ sc_e (var 3) :⊗ tri_e zer one zer :⊕ sc_e (var 4) :⊗ tri_e zer zer one) (tt, tt, tt) (G ∷ H ∷ x.a ∷ x.b ∷ x.c ∷ [])

  pub by_all : (B : Basis S) → Ideal S B → (x v : (O S).El) → In S B v → In S B (x ⊗ v)
  by_all B i x v k = subst (In S B)
      (solve (O S) (var 0 :* var 5 :+ var 1 :* (var 2 :* var 5) :+ var 3 :* (var 4 :* var 5)) ((var 0 :+ var 1 :* var 2 :+ var 3 :* var 4) :* var 5) tt
      (sc S x.a ∷ sc S x.b ∷ el_r S ∷ sc S x.c ∷ el_w S ∷ v ∷ []) ∙ ap (λ z. z ⊗ v) (sym (split x)))
      (in_add B _ _ (in_add B _ _ (in_scale B x.a v k) (in_scale B x.b _ (i.by_r v k))) (in_scale B x.c _ (i.by_w v k)))

  -- ---- divisors of an element and of its coordinates
  module _ (e : P S) (v : (O S).El) where
    abbrev Divided : P S → Type 0
    Divided = Divides 𝓥 e

    pub divides_all : Divided v.a → Divided v.b → Divided v.c → (q : (O S).El) × (v ≡ sc S e ⊗ q)
    divides_all (a, ea) (b, eb) (c, ec) =
        let q : (O S).El = record { a = a; b = b; c = c } in
        (q, O_path S (ea ∙ sym (P_path 𝓥 (sc_a S e q))) (eb ∙ sym (P_path 𝓥 (sc_b S e q))) (ec ∙ sym (P_path 𝓥 (sc_c S e q))))

    pub all_divides : (q : (O S).El) → v ≡ sc S e ⊗ q → Divided v.a × Divided v.b × Divided v.c
    all_divides q h = (
      (q.a, ap (λ z. z.a) h ∙ P_path 𝓥 (sc_a S e q)),
      (q.b, ap (λ z. z.b) h ∙ P_path 𝓥 (sc_b S e q)),
      (q.c, ap (λ z. z.c) h ∙ P_path 𝓥 (sc_c S e q)),
    )
