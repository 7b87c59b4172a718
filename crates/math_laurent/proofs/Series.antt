-- The ring of power series. Each law is one induction on the index, with the series general.
--   series R     the ring
--   mul_right    the product's recursion from the right: (f g)(n + 1) = f(n + 1) g(0) + (f · tail g)(n)
--   conv_mul     so the product of Laurent series is made of the product here
--   up_mul ..    multiplication by s goes through the product
--   mul_ends     (f g)(n + 1) = f(0) g(n + 1) + f(n + 1) g(0) + inner f g n, and `inner` asks only for the coefficients 1 .. n
--   mul_sum      (f g)(n) = Σ f(i) g(n − i) over i ≤ n
--   mul_local    (f g)(n) asks only for the coefficients 0 .. n
--   keep_in ..   what `keep`, `after` and `ups` do at one place
use mathlib.Core.Path.{◌≡◌, refl, sym, ◌∙◌, ap, ap₂, fun_ext}
use mathlib.Core.HLevel.{→_set}
use Prim.Native.Nat.{ℕ, zero, suc, ◌≤◌, ◌<◌, ◌-◌}
use Prim.Native.Nat as Nt
use native.Mathlib.Nat as N
use native.Mathlib.Omega.{arith}
use Rattle.math_ring.specs.Ring.{Laws, CRing}
use Rattle.math_ring.proofs.Laws as r
use Rattle.math_laurent.specs.Series.{Ser, tail, after, cons, zero_s, up, ups, const_s, scale_s, keep, mul_s, conv, sops}
use Rattle.math_laurent.specs.Laurent.{up_add}

module _ (R : CRing) where
  open R.ops use {add as ◌+◌, mul as ◌*◌, neg as -◌, 𝟎, 𝟏}
  open R.laws use {is_set, add_assoc, add_comm, add-zero, add_neg, mul_assoc, mul_comm, mul-one, mul-add}

  infixl 60 ◌+◌
  infixl 70 ◌*◌
  infix 80 -◌
  -- ---- the product's clauses
  pub mul_first : (f g : Ser R) → mul_s R f g 0 ≡ f 0 * g 0
  unfolding mul_s
  mul_first f g = refl

  pub mul_next : (f g : Ser R) (n : ℕ) → mul_s R f g (suc n) ≡ f 0 * g (suc n) + mul_s R (tail f) g n
  unfolding mul_s
  mul_next f g n = refl

  tail_mul : (f g : Ser R) → tail (mul_s R f g) ≡ (sops R).add (scale_s R (f 0) (tail g)) (mul_s R (tail f) g)
  unfolding mul_s
  tail_mul f g = refl

  -- ---- the laws at one coefficient
  mul_add_at : (f g h : Ser R) (n : ℕ) → mul_s R f ((sops R).add g h) n ≡ mul_s R f g n + mul_s R f h n
  mul_add_at f g h zero = simp (mul_first, mul-add)
  mul_add_at f g h (suc n) = simp (mul_next, mul_add_at (tail f) g h n, mul-add, add_assoc, r.add_left_comm R)

  add_mul_at : (f g h : Ser R) (n : ℕ) → mul_s R ((sops R).add f g) h n ≡ mul_s R f h n + mul_s R g h n
  add_mul_at f g h zero = simp (mul_first, r.add-mul R)
  add_mul_at f g h (suc n) = simp (mul_next, add_mul_at (tail f) (tail g) h n, r.add-mul R, add_assoc, r.add_left_comm R)

  pub scale_mul_at : (a : R.El) (f g : Ser R) (n : ℕ) → mul_s R (scale_s R a f) g n ≡ a * mul_s R f g n
  scale_mul_at a f g zero = simp (mul_first, mul_assoc)
  scale_mul_at a f g (suc n) = simp (mul_next, scale_mul_at a (tail f) g n, mul-add, mul_assoc)

  mul_assoc_at : (f g h : Ser R) (n : ℕ) → mul_s R (mul_s R f g) h n ≡ mul_s R f (mul_s R g h) n
  mul_assoc_at f g h zero = simp (mul_first, mul_assoc)
  mul_assoc_at f g h (suc n) =
      simp (mul_next, mul_first, tail_mul, add_mul_at (scale_s R (f 0) (tail g)) (mul_s R (tail f) g) h n, scale_mul_at (f 0) (tail g) h n, mul_assoc_at (tail f) g h n, mul-add, mul_assoc, add_assoc)

  pub mul_right : (f g : Ser R) (n : ℕ) → mul_s R f g (suc n) ≡ f (suc n) * g 0 + mul_s R f (tail g) n
  mul_right f g zero = rw (mul_next f g 0, mul_first (tail f) g, mul_first f (tail g)) (add_comm _ _)
  mul_right f g (suc n) = rw (mul_next f g (suc n), mul_right (tail f) g n, mul_next f (tail g) n) (r.add_left_comm R _ _ _)

  pub conv_mul : (f g : Ser R) → conv R f g ≡ mul_s R f g
  unfolding conv
  conv_mul f g = fun_ext (at f g)
    where
      at : (f g : Ser R) (n : ℕ) → conv R f g n ≡ mul_s R f g n
      at f g zero = sym (mul_first f g)
      at f g (suc n) = ap (◌+◌ (f (suc n) * g 0)) (at f (tail g) n) ∙ sym (mul_right f g n)

  pub up_mul : (f g : Ser R) → mul_s R (up R f) g ≡ up R (mul_s R f g)
  unfolding cons mul_s
  up_mul f g = fun_ext at
    where
      at : (n : ℕ) → mul_s R (up R f) g n ≡ up R (mul_s R f g) n
      at zero = r.zero_mul' R (g 0)
      at (suc n) = ap (λ x. R.ops.add x (mul_s R f g n)) (r.zero_mul' R (g (suc n))) ∙ r.zero_add' R (mul_s R f g n)

  mul_up_at : (f g : Ser R) (n : ℕ) → mul_s R f (up R g) (suc n) ≡ mul_s R f g n
  unfolding cons mul_s
  mul_up_at f g zero = ap (R.ops.add (R.ops.mul (f 0) (g 0))) (r.mul-zero R (f 1)) ∙ R.laws.add-zero (R.ops.mul (f 0) (g 0))
  mul_up_at f g (suc n) = ap (R.ops.add (R.ops.mul (f 0) (g (suc n)))) (mul_up_at (tail f) g n)

  pub mul_up : (f g : Ser R) → mul_s R f (up R g) ≡ up R (mul_s R f g)
  unfolding cons mul_s
  mul_up f g = fun_ext at
    where
      at : (n : ℕ) → mul_s R f (up R g) n ≡ up R (mul_s R f g) n
      at zero = r.mul-zero R (f 0)
      at (suc n) = mul_up_at f g n

  mul_comm_at : (f g : Ser R) (n : ℕ) → mul_s R f g n ≡ mul_s R g f n
  mul_comm_at f g zero = simp (mul_first, mul_comm)
  mul_comm_at f g (suc n) = rw (mul_right g f n, mul_next f g n, mul_comm_at (tail f) g n, mul_comm (f 0) (g (suc n)))

  zero_mul_at : (g : Ser R) (n : ℕ) → mul_s R (zero_s R) g n ≡ 𝟎
  zero_mul_at g zero = simp (mul_first, r.zero_mul' R)
  zero_mul_at g (suc n) = simp (mul_next, zero_mul_at g n, r.zero_mul' R, add-zero)

  pub const_mul_at : (a : R.El) (g : Ser R) (n : ℕ) → mul_s R (const_s R a) g n ≡ a * g n
  unfolding cons
  const_mul_at a g zero = simp (mul_first)
  const_mul_at a g (suc n) = simp (mul_next, zero_mul_at g n, add-zero)

  -- shut: a proof unfolds the operations, never the laws
  pub slaws : Laws (Ser R) (sops R)
  slaws = record {
    is_set = →_set is_set;
    add_assoc = λ f g h. fun_ext (λ n. add_assoc (f n) (g n) (h n));
    add_comm = λ f g. fun_ext (λ n. add_comm (f n) (g n));
    add-zero = λ f. fun_ext (λ n. add-zero (f n));
    add_neg = λ f. fun_ext (λ n. add_neg (f n));
    mul_assoc = λ f g h. fun_ext (mul_assoc_at f g h);
    mul_comm = λ f g. fun_ext (mul_comm_at f g);
    mul-one = λ f. fun_ext (λ n. mul_comm_at f (const_s R 𝟏) n ∙ const_mul_at 𝟏 f n ∙ r.one-mul R (f n));
    mul-add = λ f g h. fun_ext (mul_add_at f g h);
  }

  abbrev pub series : CRing
  series = record { El = Ser R; ops = sops R; laws = slaws }

  -- ---- which coefficients a product asks for
  pub mul_local : (n : ℕ) (f f' g g' : Ser R) → ((i : ℕ) → i ≤ n → f i ≡ f' i) → ((i : ℕ) → i ≤ n → g i ≡ g' i) → mul_s R f g n ≡ mul_s R f' g' n
  unfolding mul_s
  mul_local zero f f' g g' hf hg = ap₂ ◌*◌ (hf 0 (omega arith)) (hg 0 (omega arith))
  mul_local (suc n) f f' g g' hf hg =
      ap₂ ◌+◌ (ap₂ ◌*◌ (hf 0 (omega arith)) (hg (suc n) (omega arith)))
      (mul_local n (tail f) (tail f') g g' (λ i l. hf (suc i) (omega arith)) (λ i l. hg i (omega arith)))

  -- Σ f(j) g(n + 1 − j) over 0 < j < n + 1
  abbrev pub inner : Ser R → Ser R → ℕ → R.El
  inner f g zero = 𝟎
  inner f g (suc n) = mul_s R (tail f) (tail g) n

  pub mul_ends : (f g : Ser R) (n : ℕ) → mul_s R f g (suc n) ≡ f 0 * g (suc n) + f (suc n) * g 0 + inner f g n
  mul_ends f g zero = mul_next f g 0 ∙ ap (λ x. f 0 * g 1 + x) (mul_first (tail f) g) ∙ sym (add-zero _)
  mul_ends f g (suc n) = mul_next f g (suc n) ∙ ap (λ x. f 0 * g (suc (suc n)) + x) (mul_right (tail f) g n) ∙ sym (add_assoc _ _ _)

  pub inner_local : (n : ℕ) (f f' g g' : Ser R) → ((i : ℕ) → i ≤ n → f i ≡ f' i) → ((i : ℕ) → i ≤ n → g i ≡ g' i) → inner f g n ≡ inner f' g' n
  inner_local zero f f' g g' hf hg = refl
  inner_local (suc n) f f' g g' hf hg = mul_local n (tail f) (tail f') (tail g) (tail g') (λ i l. hf (suc i) (omega arith)) (λ i l. hg (suc i) (omega arith))

  -- ---- the product as a reader knows it
  unfoldable pub sum : ℕ → (ℕ → R.El) → R.El
  sum zero h = h 0
  sum (suc n) h = h 0 + sum n (λ i. h (suc i))

  sum_ext : (n : ℕ) (h g : ℕ → R.El) → ((i : ℕ) → i ≤ n → h i ≡ g i) → sum n h ≡ sum n g
  unfolding sum
  sum_ext zero h g e = e 0 (omega arith)
  sum_ext (suc n) h g e = ap₂ ◌+◌ (e 0 (omega arith)) (sum_ext n (λ i. h (suc i)) (λ i. g (suc i)) (λ i l. e (suc i) (omega arith)))

  pub mul_sum : (f g : Ser R) (n : ℕ) → mul_s R f g n ≡ sum n (λ i. f i * g (n - i))
  unfolding sum
  mul_sum f g zero = mul_first f g
  mul_sum f g (suc n) =
      mul_next f g n ∙ ap₂ ◌+◌ (ap (λ m. f 0 * g m) (omega arith))
      (mul_sum (tail f) g n ∙ sum_ext n _ _ (λ i l. ap (λ m. f (suc i) * g m) (omega arith)))

  -- ---- one place of what is kept, dropped or moved
  pub after_at : (n i : ℕ) (f : Ser R) → after n f i ≡ f (Nt.◌+◌ n i)
  after_at zero i f = ap f (omega arith)
  after_at (suc n) i f = after_at n i (tail f) ∙ ap f (omega arith)

  pub keep_in : (n i : ℕ) (f : Ser R) → i < n → keep R n f i ≡ f i
  unfolding keep cons
  keep_in zero i f l = absurd (omega arith)
  keep_in (suc n) zero f l = refl
  keep_in (suc n) (suc i) f l = keep_in n i (tail f) (omega arith)

  pub keep_out : (n i : ℕ) (f : Ser R) → n ≤ i → keep R n f i ≡ 𝟎
  unfolding keep cons
  keep_out zero i f l = refl
  keep_out (suc n) zero f l = absurd (omega arith)
  keep_out (suc n) (suc i) f l = keep_out n i (tail f) (omega arith)

  pub ups_low : (q n : ℕ) (f : Ser R) → n < q → ups R q f n ≡ 𝟎
  unfolding ups cons
  ups_low zero n f h = absurd (omega arith)
  ups_low (suc q) zero f h = refl
  ups_low (suc q) (suc n) f h = ups_low q n f (omega arith)

  pub ups_high : (q n : ℕ) (f : Ser R) → ups R q f (Nt.◌+◌ q n) ≡ f n
  unfolding ups cons
  ups_high zero n f = ap f (N.zero-add n)
  ups_high (suc q) n f = ap (ups R (suc q) f) (N.suc-add q n) ∙ ups_high q n f

  -- a series that begins with n zeros is s^n times the rest
  pub ups_after : (n : ℕ) (f : Ser R) → ((i : ℕ) → i < n → f i ≡ 𝟎) → f ≡ ups R n (after n f)
  unfolding ups cons
  ups_after zero f h = refl
  ups_after (suc n) f h = fun_ext (at (ups_after n (tail f) (λ i l. h (suc i) (omega arith))))
    where
      at : tail f ≡ ups R n (after n (tail f)) → (i : ℕ) → f i ≡ ups R (suc n) (after n (tail f)) i
      at ih zero = h 0 (omega arith)
      at ih (suc i) = ap (λ g. g i) ih

  -- ---- powers of s go through the operations
  pub up_zero : up R (zero_s R) ≡ zero_s R
  unfolding cons
  up_zero = fun_ext at
    where
      at : (n : ℕ) → up R (zero_s R) n ≡ zero_s R n
      at zero = refl
      at (suc n) = refl

  pub ups_add : (n : ℕ) (f g : Ser R) → ups R n ((sops R).add f g) ≡ (sops R).add (ups R n f) (ups R n g)
  unfolding ups
  ups_add zero f g = refl
  ups_add (suc n) f g = ap (up R) (ups_add n f g) ∙ up_add R (ups R n f) (ups R n g)

  pub ups_ups : (m n : ℕ) (f : Ser R) → ups R m (ups R n f) ≡ ups R (Nt.◌+◌ m n) f
  unfolding ups
  ups_ups zero n f = ap (λ z. ups R z f) (sym (N.zero-add n))
  ups_ups (suc m) n f = ap (up R) (ups_ups m n f) ∙ ap (λ z. ups R z f) (sym (N.suc-add m n))

  pub ups_mul : (m n : ℕ) (f g : Ser R) → mul_s R (ups R m f) (ups R n g) ≡ ups R (Nt.◌+◌ m n) (mul_s R f g)
  unfolding ups
  ups_mul zero zero f g = refl
  ups_mul zero (suc n) f g = mul_up f (ups R n g) ∙ ap (up R) (ups_mul zero n f g) ∙ ap (λ z. ups R z (mul_s R f g)) (sym (N.add-suc 0 n))
  ups_mul (suc m) n f g = up_mul (ups R m f) (ups R n g) ∙ ap (up R) (ups_mul m n f g) ∙ ap (λ z. ups R z (mul_s R f g)) (sym (N.suc-add m n))

  pub ups_inj : (n : ℕ) (f g : Ser R) → ups R n f ≡ ups R n g → f ≡ g
  ups_inj n f g e = fun_ext (λ i. sym (ups_high n i f) ∙ ap (λ h. h (Nt.◌+◌ n i)) e ∙ ups_high n i g)
