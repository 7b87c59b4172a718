-- A product gathered row by row: each turn of a loop adds one term to the polynomial that the row stands for.
--   row_set            a coefficient changed by d adds d t^k
--   Laying, Gathering  the loops' invariants of `laid` and `gather`
--   Over n f r₀ r k    the loop's invariant of `settle`: the first k places hold f, the rest is as it was
use mathlib.Core.Path.{◌≡◌, refl, sym, ap, ap₂, ◌∙◌}
use mathlib.Core.Logic.{◌≢◌}
use mathlib.Core.Bool.{Bool, true, false}
use mathlib.Core.List.{List, [], ◌∷◌}
use Prim.Native.Nat.{ℕ, zero, suc, ◌%◌, ◌<◌, ◌≤◌}
use Prim.Native.Nat as N
use native.Mathlib.Nat.{mod-lt, mod-eq_of_lt}
use native.Mathlib.Numerals.{add-one}
use native.Mathlib.Omega.{arith}
use native.Mathlib.Decide.{dec_lt, ℕ_discrete}
use lib.ListN.{length, get_or, set, length-set}
use lib.Seq.{get_or-set_same, get_or-set_other}
use Rattle.math_ring.proofs.Solve.{var, zer, minus, ◌:+◌, ◌:*◌, solve}
use Rattle.math_fp.specs.Fp.{Prime}
use Rattle.math_rows.specs.Reading.{Reading}
use Rattle.math_rows.specs.Made.{reading}
use Rattle.math_rows.specs.Row.{Row, row, coefs, tpow, psum}
use Rattle.math_rows.proofs.Rows.{const_neg, psum_ext, row_32, row_upto, tpow_add}
use Rattle.math_rows.proofs.Unique.{same_cast}
use Rattle.num_mod.specs.Prepared.{Added}
use Rattle.num_mod.specs.declared.Modulus.{Modulus}
use Rattle.poly_sums.specs.Sums.{sign_of, Loose, Signed, LaidAsks, Laid, GatherAsks, Gathered, SettleAsks, Settled}

-- ---- one coefficient changed
module _ {p : ℕ} (ρ : Reading p) where
  open ρ use {𝓥, cast}
  open 𝓥 use {K, L, const}
  open K.ops use {add as ◌+ᵏ◌, mul as ◌*ᵏ◌}
  open L.ops use {add as ◌+◌, mul as ◌*◌, 𝟎}

  infixl 60 ◌+◌ ◌+ᵏ◌
  infixl 70 ◌*◌ ◌*ᵏ◌
  -- the sums of the next term
  pub psum_more : (n : ℕ) (f : ℕ → K.El) → psum ρ (N.◌+◌ n 1) f ≡ psum ρ n f + const (f n) * tpow ρ n
  unfolding psum
  psum_more n f = ap (λ m. psum ρ m f) (add-one n)

  pub psum_none : (f : ℕ → K.El) → psum ρ 0 f ≡ 𝟎
  unfolding psum
  psum_none f = refl

  psum_set : (n k : ℕ) (f g : ℕ → K.El) (d : K.El) → k < n → g k ≡ f k +ᵏ d → ((i : ℕ) → i ≢ k → g i ≡ f i) → psum ρ n g ≡ psum ρ n f + const d * tpow ρ k
  unfolding psum
  psum_set zero k f g d l h o = absurd (omega arith)
  psum_set (suc n) k f g d l h o = go (ℕ_discrete k n) (λ u. psum_set n k f g d u h o)
    where
      go : Dec (k ≡ n) → (k < n → psum ρ n g ≡ psum ρ n f + const d * tpow ρ k) → psum ρ n g + const (g n) * tpow ρ n ≡ psum ρ n f + const (f n) * tpow ρ n + const d * tpow ρ k
      go (yes e) w =
          ap₂ (λ x y. x + y * tpow ρ n) (psum_ext ρ n g f (λ i u. o i (λ z. absurd (omega arith)))) (ap (λ m. const (g m)) (sym e) ∙ ap const h ∙ ρ.const_add (f k) d ∙ ap (λ m. const (f m) + const d) e)
          ∙ solve L (var 0 :+ (var 1 :+ var 2) :* var 3) (var 0 :+ var 1 :* var 3 :+ var 2 :* var 3) tt (psum ρ n f ∷ const (f n) ∷ const d ∷ tpow ρ n ∷ [])
          ∙ ap (λ m. psum ρ n f + const (f n) * tpow ρ n + const d * tpow ρ m) (sym e)
      go (no e) w =
          ap₂ (λ x y. x + const y * tpow ρ n) (w (omega arith)) (o n (λ z. e (sym z)))
          ∙ solve L (var 0 :+ var 1 :+ var 2) (var 0 :+ var 2 :+ var 1) tt (psum ρ n f ∷ const d * tpow ρ k ∷ const (f n) * tpow ρ n ∷ [])

  pub row_set : (l : List ℕ) (k w : ℕ) (d : K.El) → length l ≡ 32 → k < 32 → cast w ≡ cast (get_or l k 0) +ᵏ d → row ρ (set l k w) ≡ row ρ l + const d * tpow ρ k
  row_set l k w d s u h =
      row_32 ρ (set l k w) (length-set l k w ∙ s)
      ∙ psum_set 32 k (coefs ρ l) (coefs ρ (set l k w)) d u (ap cast (get_or-set_same l k w 0 (omega arith)) ∙ h) (λ i o. ap cast (get_or-set_other l k i w 0 o))
      ∙ ap (λ z. z + const d * tpow ρ k) (sym (row_32 ρ l s))

pub loose_row : {p : ℕ} {l : List ℕ} → p < 2147483648 → Row p l → Loose l
loose_row s h = record { size = h.size; low = λ i. omega (arith, h.each i) }

loose_set : {l : List ℕ} (k w : ℕ) → Loose l → k < 32 → w < 9223372036854775808 → Loose (set l k w)
loose_set {l} k w h u b = record { size = length-set l k w ∙ h.size; low = λ i. at i (ℕ_discrete i k) }
  where
    at : (i : ℕ) → Dec (i ≡ k) → get_or (set l k w) i 0 < 9223372036854775808
    at i (yes z) = let q : get_or (set l k w) i 0 ≡ w = ap (λ m. get_or (set l k w) m 0) z ∙ get_or-set_same l k w 0 (let s : length l ≡ 32 = h.size in omega arith) in omega arith
    at i (no z) = let q : get_or (set l k w) i 0 ≡ get_or l i 0 = get_or-set_other l k i w 0 z in omega (arith, h.low i)

-- ---- acc + v t^i y
pub record Laying (p v : ℕ) (y : List ℕ) (m i : ℕ) (acc o : List ℕ) (j : ℕ) : Type 0 where
  pub loose : Loose o
  pub law : (pr : Prime p) → let ρ = reading p pr in let k = ρ.𝓥.L.ops in
      row ρ o ≡ k.add (row ρ acc) (k.mul (ρ.𝓥.const (ρ.cast v)) (k.mul (tpow ρ i) (psum ρ j (coefs ρ y))))
  pub above : (k : ℕ) → N.◌+◌ i m ≤ k → get_or o k 0 ≡ get_or acc k 0

module _ {p v : ℕ} {y : List ℕ} {m i : ℕ} {acc : List ℕ} (h : LaidAsks p v y m i acc) where
  pub laying_start : Laying p v y m i acc acc 0
  laying_start = record {
    loose = h.loose;
    law = λ pr. let ρ = reading p pr in let k = ρ.𝓥.L.ops in
        solve ρ.𝓥.L (var 0) (var 0 :+ var 1 :* (var 2 :* zer)) tt (row ρ acc ∷ ρ.𝓥.const (ρ.cast v) ∷ tpow ρ i ∷ [])
        ∙ ap (λ z. k.add (row ρ acc) (k.mul (ρ.𝓥.const (ρ.cast v)) (k.mul (tpow ρ i) z))) (sym (psum_none ρ (coefs ρ y)));
    above = λ k u. refl;
  }

  pub laying_turn : {o : List ℕ} {j : ℕ} (a : ℕ) → Laying p v y m i acc o j → j < m → Added p (get_or o (N.◌+◌ i j) 0) v (get_or y j 0) a → Laying p v y m i acc (set o (N.◌+◌ i j) a) (N.◌+◌ j 1)
  laying_turn {o} {j} a g l w = record {
    loose = loose_set (N.◌+◌ i j) a g.loose inside w.low;
    law = λ pr. let ρ = reading p pr in let K = ρ.𝓥.K.ops in let k = ρ.𝓥.L.ops in let c = ρ.𝓥.const in let s = get_or o (N.◌+◌ i j) 0 in
        row_set ρ o (N.◌+◌ i j) a (ρ.cast (N.◌*◌ v (get_or y j 0))) g.loose.size inside (same_cast ρ a (N.◌+◌ s (N.◌*◌ v (get_or y j 0))) w.law ∙ ρ.cast_add s (N.◌*◌ v (get_or y j 0)))
        ∙ ap₂ (λ a b. k.add a b) (g.law pr) (ap₂ (λ a b. k.mul a b) (ap c (ρ.cast_mul v (get_or y j 0)) ∙ ρ.const_mul (ρ.cast v) (ρ.cast (get_or y j 0))) (tpow_add ρ i j))
        ∙ solve ρ.𝓥.L (var 0 :+ var 1 :* (var 2 :* var 3) :+ var 1 :* var 4 :* (var 2 :* var 5)) (var 0 :+ var 1 :* (var 2 :* (var 3 :+ var 4 :* var 5))) tt
        (row ρ acc ∷ c (ρ.cast v) ∷ tpow ρ i ∷ psum ρ j (coefs ρ y) ∷ c (ρ.cast (get_or y j 0)) ∷ tpow ρ j ∷ [])
        ∙ ap (λ z. k.add (row ρ acc) (k.mul (c (ρ.cast v)) (k.mul (tpow ρ i) z))) (sym (psum_more ρ j (coefs ρ y)));
    above = λ k u. get_or-set_other o (N.◌+◌ i j) k a 0 (λ z. absurd (omega arith)) ∙ g.above k u;
  }
    where
      inside : N.◌+◌ i j < 32
      inside = let f : N.◌+◌ i m ≤ 32 = h.fits in omega arith

  pub laying_end : {o : List ℕ} (j : ℕ) → m ≤ j → Laying p v y m i acc o j → Laid p v y m i acc o
  laying_end {o} j l g = record {
    loose = g.loose;
    law = λ pr. let ρ = reading p pr in let k = ρ.𝓥.L.ops in
        g.law pr ∙ ap (λ z. k.add (row ρ acc) (k.mul (ρ.𝓥.const (ρ.cast v)) (k.mul (tpow ρ i) z))) (sym (row_upto ρ y j (λ n u. h.cy.above n (omega arith))));
    above = g.above;
  }

-- ---- acc ± x y
pub record Gathering (p : ℕ) (e : Bool) (x : List ℕ) (n : ℕ) (y : List ℕ) (m : ℕ) (acc o : List ℕ) (i : ℕ) : Type 0 where
  pub loose : Loose o
  pub law : (pr : Prime p) → let ρ = reading p pr in let k = ρ.𝓥.L.ops in
      row ρ o ≡ k.add (row ρ acc) (sign_of k e (k.mul (psum ρ i (coefs ρ x)) (row ρ y)))
  pub above : (k : ℕ) → N.◌+◌ n m ≤ N.◌+◌ k 1 → get_or o k 0 ≡ get_or acc k 0

-- one more term of a signed product
module _ {p : ℕ} (ρ : Reading p) where
  sign_start : (e : Bool) (a y : ρ.𝓥.L.El) → let k = ρ.𝓥.L.ops in a ≡ k.add a (sign_of k e (k.mul k.𝟎 y))
  sign_start true a y = solve ρ.𝓥.L (var 0) (var 0 :+ minus (zer :* var 1)) tt (a ∷ y ∷ [])
  sign_start false a y = solve ρ.𝓥.L (var 0) (var 0 :+ zer :* var 1) tt (a ∷ y ∷ [])

  sign_turn : (e : Bool) (v u : ρ.𝓥.K.El) (a s t y : ρ.𝓥.L.El) → let k = ρ.𝓥.L.ops in v ≡ sign_of ρ.𝓥.K.ops e u
      → k.add (k.add a (sign_of k e (k.mul s y))) (k.mul (ρ.𝓥.const v) (k.mul t y)) ≡ k.add a (sign_of k e (k.mul (k.add s (k.mul (ρ.𝓥.const u) t)) y))
  sign_turn true v u a s t y h =
      let k = ρ.𝓥.L.ops in
      ap (λ z. k.add (k.add a (k.neg (k.mul s y))) (k.mul z (k.mul t y))) (ap ρ.𝓥.const h ∙ const_neg ρ u)
      ∙ solve ρ.𝓥.L (var 0 :+ minus (var 1 :* var 3) :+ minus (var 4) :* (var 2 :* var 3)) (var 0 :+ minus ((var 1 :+ var 4 :* var 2) :* var 3)) tt (a ∷ s ∷ t ∷ y ∷ ρ.𝓥.const u ∷ [])
  sign_turn false v u a s t y h =
      let k = ρ.𝓥.L.ops in
      ap (λ z. k.add (k.add a (k.mul s y)) (k.mul (ρ.𝓥.const z) (k.mul t y))) h
      ∙ solve ρ.𝓥.L (var 0 :+ var 1 :* var 3 :+ var 4 :* (var 2 :* var 3)) (var 0 :+ (var 1 :+ var 4 :* var 2) :* var 3) tt (a ∷ s ∷ t ∷ y ∷ ρ.𝓥.const u ∷ [])

module _ {p : ℕ} {x : List ℕ} {n : ℕ} {y : List ℕ} {m : ℕ} {acc : List ℕ} (h : GatherAsks p x n y m acc) (e : Bool) where
  pub gathering_start : Gathering p e x n y m acc acc 0
  gathering_start = record {
    loose = h.loose;
    law = λ pr. let ρ = reading p pr in let k = ρ.𝓥.L.ops in
        sign_start ρ e (row ρ acc) (row ρ y) ∙ ap (λ z. k.add (row ρ acc) (sign_of k e (k.mul z (row ρ y)))) (sym (psum_none ρ (coefs ρ x)));
    above = λ k u. refl;
  }

  pub lay_in : {o : List ℕ} {i v : ℕ} → Gathering p e x n y m acc o i → i < n → v < p → LaidAsks p v y m i o
  lay_in g l b = record { modulus = h.modulus; hv = b; hy = h.hy; cy = h.cy; fits = let f : N.◌+◌ n m ≤ 33 = h.fits in omega arith; loose = g.loose }

  pub gathering_turn : {o w : List ℕ} {i : ℕ} (v : ℕ) → Gathering p e x n y m acc o i → i < n → Signed p e (get_or x i 0) v → Laid p v y m i o w → Gathering p e x n y m acc w (N.◌+◌ i 1)
  gathering_turn {o} {w} {i} v g l s d = record {
    loose = d.loose;
    law = λ pr. let ρ = reading p pr in let k = ρ.𝓥.L.ops in
        d.law pr
        ∙ ap (λ z. k.add z (k.mul (ρ.𝓥.const (ρ.cast v)) (k.mul (tpow ρ i) (row ρ y)))) (g.law pr)
        ∙ sign_turn ρ e (ρ.cast v) (ρ.cast (get_or x i 0)) (row ρ acc) (psum ρ i (coefs ρ x)) (tpow ρ i) (row ρ y) (s.law pr)
        ∙ ap (λ z. k.add (row ρ acc) (sign_of k e (k.mul z (row ρ y)))) (sym (psum_more ρ i (coefs ρ x)));
    above = λ k u. d.above k (omega arith) ∙ g.above k u;
  }

  pub gathering_end : {o : List ℕ} (i : ℕ) → n ≤ i → Gathering p e x n y m acc o i → Gathered p e x n y m acc o
  gathering_end {o} i l g = record {
    loose = g.loose;
    law = λ pr. let ρ = reading p pr in let k = ρ.𝓥.L.ops in
        g.law pr ∙ ap (λ z. k.add (row ρ acc) (sign_of k e (k.mul z (row ρ y)))) (sym (row_upto ρ x i (λ j u. h.cx.above j (omega arith))));
    above = g.above;
  }

-- ---- reduced in place
pub record Over (n : ℕ) (f : ℕ → ℕ) (r₀ r : List ℕ) (k : ℕ) : Type 0 where
  pub size : length r ≡ n
  pub done : (j : ℕ) → j < k → get_or r j 0 ≡ f j
  pub rest : (j : ℕ) → k ≤ j → get_or r j 0 ≡ get_or r₀ j 0

pub over_start : (n : ℕ) (f : ℕ → ℕ) (r₀ : List ℕ) → length r₀ ≡ n → Over n f r₀ r₀ 0
over_start n f r₀ e = record { size = e; done = λ j l. absurd (omega arith); rest = λ j l. refl }

pub over_more : (n : ℕ) (f : ℕ → ℕ) (r₀ r : List ℕ) (k v : ℕ) → Over n f r₀ r k → k < n → v ≡ f k → Over n f r₀ (set r k v) (N.◌+◌ k 1)
over_more n f r₀ r k v h l e = record {
  size = length-set r k v ∙ h.size;
  done = λ j u. at j u (ℕ_discrete j k);
  rest = λ j u. get_or-set_other r k j v 0 (omega arith) ∙ h.rest j (omega arith);
}
  where
    at : (j : ℕ) → j < N.◌+◌ k 1 → Dec (j ≡ k) → get_or (set r k v) j 0 ≡ f j
    at j u (yes z) = ap (λ m. get_or (set r k v) m 0) z ∙ get_or-set_same r k v 0 (let s : length r ≡ n = h.size in omega arith) ∙ e ∙ ap f (sym z)
    at j u (no z) = get_or-set_other r k j v 0 z ∙ h.done j (omega arith)

pub settled : {q : Modulus} {acc : List ℕ} {t : ℕ} {o : List ℕ} (k : ℕ) → SettleAsks q acc t → t ≤ k → Over 32 (λ j. get_or acc j 0 % q.p) acc o k → Settled q.p acc o
settled {q} {acc} {t} {o} k h e g = record {
  is_row = record { size = g.size; each = λ i. let b : 1 < q.p = h.modulus.big in let u : get_or o i 0 ≡ get_or acc i 0 % q.p = at i in let w : get_or acc i 0 % q.p < q.p = mod-lt (get_or acc i 0) (omega arith) in omega arith };
  law = λ pr. let ρ = reading q.p pr in
      row_32 ρ o g.size ∙ psum_ext ρ 32 (coefs ρ o) (coefs ρ acc) (λ i u. ap ρ.cast (at i) ∙ ρ.cast_mod (get_or acc i 0)) ∙ sym (row_32 ρ acc h.size);
  each = at;
}
  where
    at : (i : ℕ) → get_or o i 0 ≡ get_or acc i 0 % q.p
    at i = elim (dec_lt i k) [ yes l ↦ g.done i l | no l ↦ g.rest i (omega arith) ∙ sym (mod-eq_of_lt (h.below i (omega arith))) ]
