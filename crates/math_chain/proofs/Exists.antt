-- The next basis exists, so does that of the order, and so a chain of every length.
--   finish         pairs of reduced shape, scaled and levelled
--   step_exists    every good basis has a next
--   order_exists   the order has its basis
--   chain_exists   from a good basis there is a chain of every length
use mathlib.Core.Path.{◌≡◌, refl, sym, ap, ◌∙◌, subst}
use mathlib.Core.List.{[], ◌∷◌}
use mathlib.Core.Logic.{◌≢◌}
use Prim.Native.Nat.{ℕ, zero, suc, ◌+◌ as ◌+ⁿ◌}
use native.Mathlib.Omega.{arith}
use Rattle.math_ring.proofs.Laws as rg
use Rattle.math_ring.proofs.Solve.{var, one, zer, minus, ◌:+◌, ◌:*◌, ◌:=◌, solve, ring₁, ring₃}
use Rattle.math_valued.specs.Degree.{HasDeg, Has}
use Rattle.math_valued.specs.Polynomial.{polys, IsUnit}
use Rattle.math_valued.proofs.Degree as d
use Rattle.math_valued.proofs.Compare.{lt_≺, has_≼, leads_one}
use Rattle.math_valued.proofs.Polynomial.{not_zero, unit_of, one_of, unit_const}
use Rattle.math_ideals.specs.Setting.{Setting, P}
use Rattle.math_ideals.specs.Element.{O, X, Y}
use Rattle.math_ideals.specs.Ideal.{Basis, det}
use Rattle.math_ideals.specs.Basis.{Good}
use Rattle.math_ideals.specs.Next.{Next, Start}
use Rattle.math_chain.specs.Chain.{Chain, here, then}
use Rattle.math_chain.specs.Parts.{Parts, Cut, x1, y1, base}
use Rattle.math_chain.proofs.Parts.{parts, cut}
use Rattle.math_chain.proofs.Room.{Room, room, d_not_zero}
use Rattle.math_chain.proofs.Changed.{Pair, Changed, changed_then, changed_scale}
use Rattle.math_chain.proofs.Frame.{pair, Framed, Rebased}
use Rattle.math_chain.proofs.Level.{level}
use Rattle.math_chain.proofs.Reduce.{el, Shape, reduce}
use Rattle.math_chain.proofs.Correct.{Finished, base_framed, step_finished, first, framed_one, order_finished}
use Rattle.math_chain.proofs.Walk.{degree_of, chain_good}

module _ (S : Setting) where
  open S use {𝓥}
  open S.roots use {r, w}
  open 𝓥 use {K, L, Lead}
  open L.ops use {add as ◌+◌, mul as ◌*◌, neg as -◌, 𝟎, 𝟏}
  open K.ops use {add as ◌+ᵏ◌, mul as ◌*ᵏ◌, 𝟎 as 0ᵏ, 𝟏 as 1ᵏ}
  open (polys 𝓥).ops use {add as ◌⊞◌, mul as ◌⊠◌, 𝟎 as 0ₚ, 𝟏 as 1ₚ}

  infixl 60 ◌+◌ ◌+ᵏ◌ ◌⊞◌
  infixl 70 ◌*◌ ◌*ᵏ◌ ◌⊠◌
  infix 80 -◌
  -- a constant that makes what leads with c lead with k
  record Made (k c : K.El) : Type 0 where
    pub s : P S
    pub unit : IsUnit 𝓥 s
    pub κ : K.El
    pub κ≢ : κ ≢ 0ᵏ
    pub lead : Lead s.0 0 0 κ
    pub eq : κ *ᵏ c ≡ k

  made : (k c : K.El) → k ≢ 0ᵏ → c ≢ 0ᵏ → Made k c
  made k c hk hc =
      let (i, e) = 𝓥.field.inv c hc in
      let hi : k *ᵏ i ≢ 0ᵏ = d.k_domain 𝓥 k i hk (λ z. 𝓥.one≢zero (sym e ∙ ap (λ t. c *ᵏ t) z ∙ rg.mul-zero K c)) in
      let u = unit_of 𝓥 (k *ᵏ i) hi in
      record { s = u.a; unit = (u.a', sym u.inverse); κ = k *ᵏ i; κ≢ = hi; lead = u.lead; eq = ring₃ K (λ k i c. k :* i :* c := k :* (c :* i)) tt k i c ∙ ap (λ t. k *ᵏ t) e ∙ K.laws.mul-one k }

  lead_times : {k c a : K.El} {x y : L.El} {p q : ℕ} (m : Made k c) → Lead x p q a → y ≡ m.s.0 * x → Lead y p q (m.κ *ᵏ a)
  lead_times {p = p} {q = q} m h e = d.lead_eq 𝓥 (𝓥.lead_move p q (𝓥.lead_mul m.lead h) (omega arith)) (sym e) refl

  zero_times : {k c : K.El} {x y : L.El} {p q : ℕ} (m : Made k c) → Lead x p q 0ᵏ → y ≡ m.s.0 * x → Lead y p q 0ᵏ
  zero_times m h e = d.lead_eq 𝓥 (lead_times m h e) refl (rg.mul-zero K m.κ)

  -- X and Y of a scaled pair, whatever the first row
  X_times : (s a : P S) (m : Pair 𝓥) → X S (record { a = a; b = s ⊠ m.b; c = s ⊠ m.c }) ≡ s.0 * X S (el S m)
  X_times s a m = solve L (var 0 :* var 1 :* var 3 :+ var 0 :* var 2 :* var 4) (var 0 :* (var 1 :* var 3 :+ var 2 :* var 4)) tt (s.0 ∷ m.b.0 ∷ m.c.0 ∷ r ∷ w ∷ [])

  Y_times : (s a : P S) (m : Pair 𝓥) → Y S (record { a = a; b = s ⊠ m.b; c = s ⊠ m.c }) ≡ s.0 * Y S (el S m)
  Y_times s a m = solve L (var 0 :* var 1 :* var 3 :+ minus (var 0 :* var 2 :* var 4)) (var 0 :* (var 1 :* var 3 :+ minus (var 2 :* var 4))) tt (s.0 ∷ m.b.0 ∷ m.c.0 ∷ r ∷ w ∷ [])

  pub finish : {u : ℕ} (x y : P S) (B₀ : Basis S) → Framed S x y B₀ → Has 𝓥 B₀.U.0 u → (m n : Pair 𝓥) → Changed 𝓥 (pair S B₀.M) (pair S B₀.N) m n → Shape S u m n → (B' : Basis S) × Rebased S x y B₀ B' × Finished S B'
  finish {u} x y B₀ old (cu, hu, lu) m n ch sh = go sh.X_m sh.Y_n
    where
      go : HasDeg 𝓥 (X S (el S m)) sh.p sh.q → Has 𝓥 (Y S (el S n)) sh.y → (B' : Basis S) × Rebased S x y B₀ B' × Finished S B'
      go (cx, hx, lx) (cy, hy, ly) =
          let α : Made (1ᵏ +ᵏ 1ᵏ) cx = made (1ᵏ +ᵏ 1ᵏ) cx S.roots.two≢ hx in
          let β : Made 1ᵏ cy = made 1ᵏ cy 𝓥.one≢zero hy in
          let υ : Made 1ᵏ cu = made 1ᵏ cu 𝓥.one≢zero hu in
          let U' : P S = υ.s ⊠ B₀.U in
          let lU : Lead U'.0 u 0 1ᵏ = d.lead_eq 𝓥 (lead_times υ lu refl) refl υ.eq in
          let hU : Has 𝓥 U'.0 u = (1ᵏ, 𝓥.one≢zero, lU) in
          let (aM, dM, zM) = level S x y U' (α.s ⊠ m.b) (α.s ⊠ m.c) hU in
          let (aN, dN, zN) = level S x y U' (β.s ⊠ n.b) (β.s ⊠ n.c) hU in
          let M' : (O S).El = record { a = aM; b = α.s ⊠ m.b; c = α.s ⊠ m.c } in
          let N' : (O S).El = record { a = aN; b = β.s ⊠ n.b; c = β.s ⊠ n.c } in
          let lX : Lead (X S M') sh.p sh.q (1ᵏ +ᵏ 1ᵏ) = d.lead_eq 𝓥 (lead_times α lx (X_times α.s aM m)) refl α.eq in
          let lY : Lead (Y S N') sh.y 0 1ᵏ = d.lead_eq 𝓥 (lead_times β ly (Y_times β.s aN n)) refl β.eq in (
            record { U = U'; M = M'; N = N' },
            record {
              old = old;
              new = record { M_a = dM; N_a = dN };
              unit = υ.s;
              is_a_unit = υ.unit;
              U_eq = refl;
              change = changed_then 𝓥 ch (changed_scale 𝓥 α.s β.s m n α.unit β.unit);
            },
            record {
              basis = record {
                X_N = (sh.p, sh.q, (1ᵏ +ᵏ 1ᵏ, S.roots.two≢, lX), zero_times β sh.X_n (X_times β.s aN n));
                Y_M = lt_≺ 𝓥 (zero_times α sh.Y_m (Y_times α.s aM m)) hU;
                Y_N = has_≼ 𝓥 hU (1ᵏ, 𝓥.one≢zero, lY) sh.u≤y;
                Z_M = lt_≺ 𝓥 zM hU;
                Z_N = lt_≺ 𝓥 zN hU;
              };
              X_M = (sh.p, sh.q, S.roots.two≢, lX);
              Y_N = (sh.y, 0, 𝓥.one≢zero, lY);
              monic = (u, 0, 𝓥.one≢zero, lU);
            },
          )

  pub step_exists : (B : Basis S) → Good S B → (B' : Basis S) × Good S B' × Next S B B'
  step_exists B good =
      let k : Parts S B = parts S B good.ideal in
      let c : Cut S B k = cut S B k (d_not_zero S B good k) in
      let rm : Room S B k c = room S B good k c in
      let (m, n, ch, sh) = reduce S rm.u (pair S (base S B k c).M) (pair S (base S B k c).N) rm.rank in
      let (B', h, e) = finish (x1 S B k) (y1 S B k) (base S B k c) (base_framed S B k c) rm.d_has m n ch sh in
      let (g, next) = step_finished S B good k c B' h e in
      (B', g, next)

  pub order_exists : (B : Basis S) × Start S B
  order_exists =
      let rank : (det S (first S)).0 ≢ 𝟎 = not_zero 𝓥 (d.has_eq 𝓥 (d.has_one 𝓥) (ring₁ L (λ x. one := one :* one :+ minus (zer :* zer)) tt 𝟏)) in
      let (m, n, ch, sh) = reduce S 0 (pair S (first S).M) (pair S (first S).N) rank in
      let (B', h, e) = finish 0ₚ 0ₚ (first S) (framed_one S (first S) refl) (d.has_one 𝓥) m n ch sh in
      let one' : B'.U ≡ h.unit = h.U_eq ∙ (polys 𝓥).laws.mul-one h.unit in
      (B', order_finished S B' (one_of 𝓥 B'.U B'.U.0 𝟏 𝟏 𝟏 1ᵏ (subst (λ z. Has 𝓥 z.0 0) (sym one') (unit_const 𝓥 h.unit h.is_a_unit)) e.monic (leads_one 𝓥) (leads_one 𝓥) (leads_one 𝓥) (ring₁ L (λ u. u :* one := one :* (u :* one)) tt B'.U.0)) h.change e)

  pub chain_exists : (B₀ : Basis S) → Good S B₀ → (s : ℕ) → (n : ℕ) × (B : Basis S) × Chain S B₀ s n B
  chain_exists B₀ good zero = (0, B₀, here)
  chain_exists B₀ good (suc s) =
      let (n, B, c) = chain_exists B₀ good s in
      let g : Good S B = chain_good S B₀ good c in
      let (m, deg, l, k) = degree_of S B g in
      let (B', g', next) = step_exists B g in
      (n +ⁿ m, B', then m B' c deg next g')
