-- One turn of the loop that fills the two lists.
--   more       the state after one more place
--   turned     what `next_pair` writes is the pair of the next place
use mathlib.Core.Path.{◌≡◌, refl, sym, ap, ap₂, ◌∙◌}
use mathlib.Core.List.{List}
use Prim.Native.Nat.{ℕ, zero, suc, ◌+◌, ◌*◌, ◌%◌, ◌<◌}
use native.Mathlib.Nat.{add-zero, zero-add}
use native.Mathlib.Decide.{ℕ_discrete}
use native.Mathlib.Omega.{arith}
use lib.ListN.{length, set, length-set}
use lib.Seq.{get_or-set_same, get_or-set_other}
use Rattle.base_lists.specs.Sums.{entry, conv, prod}
use Rattle.field_next.specs.Next.{Filled, Filling, Turned}
use Rattle.field_next.proofs.Sums.{prod_ext, prod_change}
use Rattle.field_next.proofs.Step.{lack, r_next, w_next, r_next_below, w_next_below, next_square, next_product}

-- a list with another number at i
other : (l : List ℕ) (i v j : ℕ) → j < i → entry (set l i v) j ≡ entry l j
other l i v j u = get_or-set_other l i j v 0 (λ e. absurd (omega arith))

-- with two, one after the other
twice : (l : List ℕ) (i v w j : ℕ) → j < i → entry (set (set l i v) i w) j ≡ entry l j
twice l i v w j u = other (set l i v) i w j u ∙ other l i v j u

size₂ : (l : List ℕ) (i v w : ℕ) → length (set (set l i v) i w) ≡ length l
size₂ l i v w = length-set (set l i v) i w ∙ length-set l i v

-- the state after one more place
pub more : (p : ℕ) (g h r w r' w' : List ℕ) (i : ℕ) → Filled p g h r w i → length w' ≡ length r'
    → ((j : ℕ) → j < i → entry r' j ≡ entry r j) → ((j : ℕ) → j < i → entry w' j ≡ entry w j) → entry r' i < p → entry w' i < p
    → prod (entry r') (entry r') i % p ≡ prod (entry h) (entry w') i % p → prod (entry r') (entry w') i % p ≡ prod (entry g) (entry h) i % p
    → Filled p g h r' w' (i + 1)
more p g h r w r' w' i f e hr hw br bw sq pd = record {
  even = e;
  r_below = λ j u. at (λ k. entry r' k < p) (λ k l. let z : entry r' k ≡ entry r k = hr k l in let y : entry r k < p = f.r_below k l in omega arith) br j u (ℕ_discrete j i);
  w_below = λ j u. at (λ k. entry w' k < p) (λ k l. let z : entry w' k ≡ entry w k = hw k l in let y : entry w k < p = f.w_below k l in omega arith) bw j u (ℕ_discrete j i);
  square = λ j u. at (λ k. prod (entry r') (entry r') k % p ≡ prod (entry h) (entry w') k % p)
      (λ k l. ap (λ x. x % p) (prod_ext (entry r) (entry r) (entry r') (entry r') k (λ m q. hr m (omega arith)) (λ m q. hr m (omega arith))) ∙ f.square k l
      ∙ ap (λ x. x % p) (sym (prod_ext (entry h) (entry w) (entry h) (entry w') k (λ m q. refl) (λ m q. hw m (omega arith))))) sq j u (ℕ_discrete j i);
  product = λ j u. at (λ k. prod (entry r') (entry w') k % p ≡ prod (entry g) (entry h) k % p)
      (λ k l. ap (λ x. x % p) (prod_ext (entry r) (entry w) (entry r') (entry w') k (λ m q. hr m (omega arith)) (λ m q. hw m (omega arith))) ∙ f.product k l) pd j u (ℕ_discrete j i);
}
  where
    at : (P : ℕ → Type 0) → ((k : ℕ) → k < i → P k) → P i → (j : ℕ) → j < i + 1 → Dec (j ≡ i) → P j
    at P lo hi j u (yes q) = rw q hi
    at P lo hi j u (no q) = lo j (omega arith)

module _ (p : ℕ) (g h : List ℕ) (u : ℕ) (r w : List ℕ) (i : ℕ) (f : Filling p g h u r w i) where
  -- the lists with 0 at i
  abbrev pub r₀ : List ℕ
  r₀ = set r i 0

  abbrev pub w₀ : List ℕ
  w₀ = set w i 0

  abbrev pub short_a : ℕ
  short_a = lack p (prod (entry g) (entry h) i) (prod (entry r₀) (entry w₀) i)

  abbrev pub short_b : ℕ
  short_b = lack p (prod (entry h) (entry w₀) i) (prod (entry r₀) (entry r₀) i)

  abbrev pub new_r : ℕ
  new_r = r_next p u (entry h 0) (entry r₀ 0) short_a short_b

  abbrev pub new_w : ℕ
  new_w = w_next p u (entry w₀ 0) (entry r₀ 0) short_a short_b

-- the first coefficient
first_square : (p : ℕ) (g h r w : List ℕ) (n : ℕ) → Filled p g h r w n → 0 < n → (entry r 0 * entry r 0) % p ≡ (entry h 0 * entry w 0) % p
unfolding conv
first_square p g h r w n s l = s.square 0 l

-- one turn
pub turned : (p : ℕ) (g h : List ℕ) (u : ℕ) (r w : List ℕ) (i v x : ℕ) → (f : Filling p g h u r w i) → v ≡ new_r p g h u r w i f → x ≡ new_w p g h u r w i f
    → Turned p g h r w (set (set r i 0) i v) (set (set w i 0) i x) i
turned p g h u r w zero v x f ev ex = absurd (omega (arith, f.some))
turned p g h u r w (suc m) v x f ev ex =
    let i : ℕ = suc m in
    let a : List ℕ = set r i 0 in
    let b : List ℕ = set w i 0 in
    let even : length w ≡ length r = f.done.even in
    let la : length a ≡ length r = length-set r i 0 in
    let lb : length b ≡ length w = length-set w i 0 in
    let in-r : i < length r = f.inside in
    let in-a : i < length a = omega arith in
    let in_b : i < length b = omega arith in
    let a-none : entry a i ≡ 0 = get_or-set_same r i 0 0 (omega arith) in
    let b-none : entry b i ≡ 0 = get_or-set_same w i 0 0 (omega arith) in
    let a-new : entry (set a i v) i ≡ v = get_or-set_same a i v 0 in-a in
    let b-new : entry (set b i x) i ≡ x = get_or-set_same b i x 0 in_b in
    let first-a : entry a 0 ≡ entry r 0 = other r i 0 0 (omega arith) in
    let first-b : entry b 0 ≡ entry w 0 = other w i 0 0 (omega arith) in
    let unit : (3 * (entry a 0 * entry a 0) * u) % p ≡ 1 % p = ap (λ y. (3 * (y * y) * u) % p) first-a ∙ f.unit in
    let sq : (entry a 0 * entry a 0) % p ≡ (entry h 0 * entry b 0) % p = ap₂ (λ y z. (y * z) % p) first-a first-a ∙ first_square p g h r w i f.done (omega arith) ∙ ap (λ y. (entry h 0 * y) % p) (sym first-b) in
    let gh : ℕ = prod (entry g) (entry h) i in
    let rw₁ : ℕ = prod (entry a) (entry b) i in
    let hw : ℕ = prod (entry h) (entry b) i in
    let rr : ℕ = prod (entry a) (entry a) i in
    let ra : entry (set a i v) (suc m) ≡ entry a (suc m) + v = a-new ∙ sym (ap (λ y. y + v) a-none ∙ zero-add v) in
    let wb : entry (set b i x) (suc m) ≡ entry b (suc m) + x = b-new ∙ sym (ap (λ y. y + x) b-none ∙ zero-add x) in
    let pr₁ : prod (entry (set a i v)) (entry (set a i v)) i ≡ rr + (v * entry a 0 + entry a 0 * v) = prod_change (entry a) (entry a) (entry (set a i v)) (entry (set a i v)) v v m (λ j l. other a i v j l) ra (λ j l. other a i v j l) ra in
    let pr₂ : prod (entry h) (entry (set b i x)) i ≡ hw + (0 * entry b 0 + entry h 0 * x) = prod_change (entry h) (entry b) (entry h) (entry (set b i x)) 0 x m (λ j l. refl) (sym (add-zero (entry h (suc m)))) (λ j l. other b i x j l) wb in
    let pr₃ : prod (entry (set a i v)) (entry (set b i x)) i ≡ rw₁ + (v * entry b 0 + entry a 0 * x) = prod_change (entry a) (entry b) (entry (set a i v)) (entry (set b i x)) v x m (λ j l. other a i v j l) ra (λ j l. other b i x j l) wb in
    record {
      size = size₂ r i 0 v;
      first = twice r i 0 v 0 (omega arith);
      done = more p g h r w (set a i v) (set b i x) i f.done (size₂ w i 0 x ∙ even ∙ sym (size₂ r i 0 v)) (λ j l. twice r i 0 v j l) (λ j l. twice w i 0 x j l)
          (let q : new_r p g h u r w i f < p = r_next_below p u (entry h 0) (entry a 0) (short_a p g h u r w i f) (short_b p g h u r w i f) f.pos in omega arith)
          (let q : new_w p g h u r w i f < p = w_next_below p u (entry b 0) (entry a 0) (short_a p g h u r w i f) (short_b p g h u r w i f) f.pos in omega arith)
          (ap (λ y. y % p) pr₁ ∙ ap (λ y. (rr + (y * entry a 0 + entry a 0 * y)) % p) ev ∙ next_square p f.pos (entry h 0) (entry a 0) (entry b 0) u gh rw₁ hw rr unit sq
          ∙ sym (ap (λ y. y % p) pr₂ ∙ ap (λ y. (hw + (0 * entry b 0 + entry h 0 * y)) % p) ex))
          (ap (λ y. y % p) pr₃ ∙ ap₂ (λ y z. (rw₁ + (y * entry b 0 + entry a 0 * z)) % p) ev ex ∙ next_product p f.pos (entry h 0) (entry a 0) (entry b 0) u gh rw₁ hw rr unit sq);
    }
