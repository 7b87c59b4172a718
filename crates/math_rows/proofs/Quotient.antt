-- Division of lists from the top. If from place m − 1 on the coefficients of a are those of q b, then a − q b lies below the degree
-- of b, and q is the quotient where b divides a. One digit more makes them agree at one place more. Quotient and rest are unique:
-- `division_unique`.
use mathlib.Core.Path.{◌≡◌, refl, sym, ap, ap₂, ◌∙◌}
use mathlib.Core.Logic.{◌≢◌}
use mathlib.Core.List.{List, [], ◌∷◌}
use Prim.Native.Nat.{ℕ, zero, suc, ◌≤◌, ◌<◌, ◌%◌}
use Prim.Native.Nat as N
use native.Mathlib.Nat.{mod-lt, mul-zero}
use native.Mathlib.Omega.{arith}
use native.Mathlib.Decide.{ℕ_discrete}
use lib.ListN.{length, get_or, set, get_or-eq_default}
use lib.Seq.{get_or-set_same, get_or-set_other}
use Rattle.math_ring.proofs.Laws as r
use Rattle.math_ring.proofs.Solve.{var, one, zer, minus, ◌:+◌, ◌:*◌, hyp, solve, solve_by}
use Rattle.math_valued.specs.Degree.{Has, Lt}
use Rattle.math_valued.proofs.Degree.{lt_eq, lt_add, lt_neg, lt_up, lt_cancel}
use Rattle.math_rows.specs.Reading.{Reading}
use Rattle.math_rows.specs.Row.{Size, shift_at, psum, coefs, row}
use Rattle.math_rows.specs.Sum.{sum_to, term_at}
use Rattle.math_rows.proofs.Tab.{shift_high}
use Rattle.math_rows.proofs.Rows.{const_neg, cast_sub, psum_cut, psum_plus, psum_lt, row_32, row_upto}
use Rattle.math_rows.proofs.Product.{product_law, sum_ext}

-- a sum of which one term, that was 0, is changed
pub sum_change : (f g : ℕ → ℕ) (k n : ℕ) → k < n → f k ≡ 0 → ((i : ℕ) → i ≢ k → g i ≡ f i) → sum_to g n ≡ N.◌+◌ (sum_to f n) (g k)
unfolding sum_to
sum_change f g k zero l z h = absurd (omega arith)
sum_change f g k (suc n) l z h = go (ℕ_discrete k n) (λ u. sum_change f g k n u z h)
  where
    go : Dec (k ≡ n) → (k < n → sum_to g n ≡ N.◌+◌ (sum_to f n) (g k)) → N.◌+◌ (sum_to g n) (g n) ≡ N.◌+◌ (N.◌+◌ (sum_to f n) (f n)) (g k)
    go (yes e) i =
        let a : sum_to g n ≡ sum_to f n = sum_ext g f n (λ j u. h j (omega arith)) in
        let b : g n ≡ g k = ap g (sym e) in
        let d : f n ≡ 0 = ap f (sym e) ∙ z in
        omega arith
    go (no e) i = let a : sum_to g n ≡ N.◌+◌ (sum_to f n) (g k) = i (omega arith) in let b : g n ≡ f n = h n (λ u. e (sym u)) in omega arith

-- coefficient j of q b
abbrev pub prod_at : List ℕ → List ℕ → ℕ → ℕ
prod_at q b j = sum_to (term_at q b j) 32

pub prod_set : (q b : List ℕ) (k v j : ℕ) → length q ≡ 32 → k < 32 → get_or q k 0 ≡ 0 → prod_at (set q k v) b j ≡ N.◌+◌ (prod_at q b j) (N.◌*◌ v (shift_at b k j))
prod_set q b k v j s l z =
    sum_change (term_at q b j) (term_at (set q k v) b j) k 32 l (ap (λ a. N.◌*◌ a (shift_at b k j)) z ∙ (let e : N.◌*◌ 0 (shift_at b k j) ≡ 0 = omega arith in e))
    (λ i u. ap (λ a. N.◌*◌ a (shift_at b i j)) (get_or-set_other q k i v 0 u))
    ∙ ap (λ a. N.◌+◌ (prod_at q b j) (N.◌*◌ a (shift_at b k j))) (get_or-set_same q k v 0 (omega arith))

module _ {p : ℕ} (ρ : Reading p) where
  open ρ use {𝓥, cast}
  open 𝓥 use {K, L, const, IsPoly}
  open K.ops use {add as ◌+ᵏ◌, mul as ◌*ᵏ◌, neg as -ᵏ◌, 𝟎 as 0ᵏ, 𝟏 as 1ᵏ}
  open L.ops use {add as ◌+◌, mul as ◌*◌, neg as -◌, 𝟎, 𝟏}

  infixl 60 ◌+◌ ◌+ᵏ◌
  infixl 70 ◌*◌ ◌*ᵏ◌
  infix 80 -◌ -ᵏ◌
  -- from place n on a and q b agree
  abbrev pub Agree : List ℕ → List ℕ → List ℕ → ℕ → Type 0
  Agree a q b n = (j : ℕ) → n ≤ j → cast (get_or a j 0) ≡ cast (prod_at q b j)

  -- a digit more
  module _ (a q b : List ℕ) (m k il v : ℕ) (s : length q ≡ 32) (l : k < 32) (z : get_or q k 0 ≡ 0) (sb : Size b m) (pos : 0 < m) (inv : cast il *ᵏ cast (get_or b (N.◌-◌ m 1) 0) ≡ 1ᵏ) where
    abbrev at : ℕ
    at = N.◌+◌ k (N.◌-◌ m 1)

    high : (j : ℕ) → at < j → shift_at b k j ≡ 0
    high j w = shift_high b k j (omega arith) ∙ sb.above (N.◌-◌ j k) (omega arith)

    module _ (ev : v ≡ N.◌*◌ (N.◌+◌ (get_or a at 0) (N.◌-◌ p (prod_at q b at % p))) il % p) where
      digit : cast v ≡ (cast (get_or a at 0) +ᵏ -ᵏ cast (prod_at q b at)) *ᵏ cast il
      digit =
          let g : prod_at q b at % p < p = mod-lt (prod_at q b at) ρ.pos in
          ap cast ev
          ∙ ρ.cast_mod (N.◌*◌ (N.◌+◌ (get_or a at 0) (N.◌-◌ p (prod_at q b at % p))) il)
          ∙ ρ.cast_mul (N.◌+◌ (get_or a at 0) (N.◌-◌ p (prod_at q b at % p))) il
          ∙ ap (λ x. x *ᵏ cast il) (ρ.cast_add (get_or a at 0) (N.◌-◌ p (prod_at q b at % p)) ∙ ap (λ x. cast (get_or a at 0) +ᵏ x) (cast_sub ρ (prod_at q b at % p) (omega arith) ∙ ap (λ x. -ᵏ x) (ρ.cast_mod (prod_at q b at))))

      new : cast (get_or a at 0) ≡ cast (prod_at (set q k v) b at)
      new =
          solve_by K (var 0) (var 1 :+ (var 0 :+ minus (var 1)) :* var 2 :* var 3) (hyp (minus (var 0 :+ minus (var 1))) (var 2 :* var 3) one ∷ []) tt (cast (get_or a at 0) ∷ cast (prod_at q b at) ∷ cast il ∷ cast (get_or b (N.◌-◌ m 1) 0) ∷ []) (inv, tt)
          ∙ ap (λ x. cast (prod_at q b at) +ᵏ x *ᵏ cast (get_or b (N.◌-◌ m 1) 0)) (sym digit)
          ∙ ap (λ x. cast (prod_at q b at) +ᵏ cast v *ᵏ cast x) (sym (shift_high b k at (omega arith) ∙ ap (λ n. get_or b n 0) (let w : N.◌-◌ at k ≡ N.◌-◌ m 1 = omega arith in w)))
          ∙ ap (λ x. cast (prod_at q b at) +ᵏ x) (sym (ρ.cast_mul v (shift_at b k at)))
          ∙ sym (ρ.cast_add (prod_at q b at) (N.◌*◌ v (shift_at b k at)))
          ∙ ap cast (sym (prod_set q b k v at s l z))

      pub agree_more : Agree a q b (N.◌+◌ (N.◌+◌ k 1) (N.◌-◌ m 1)) → Agree a (set q k v) b (N.◌+◌ k (N.◌-◌ m 1))
      agree_more h j u = elim (ℕ_discrete j at) [
        | yes e ↦ ap (λ n. cast (get_or a n 0)) e ∙ new ∙ ap (λ n. cast (prod_at (set q k v) b n)) (sym e)
        | no e ↦ h j (omega arith) ∙ ap cast (sym (prod_set q b k v j s l z ∙ ap (λ x. N.◌+◌ (prod_at q b j) (N.◌*◌ v x)) (high j (omega arith)) ∙ (let w : N.◌+◌ (prod_at q b j) (N.◌*◌ v 0) ≡ prod_at q b j = omega (arith, mul-zero v) in w)))
      ]

  -- at the end the rest lies below the degree of b
  module _ (a q b : List ℕ) (n : ℕ) (sa : length a ≡ 32) (sq : length q ≡ 32) (sb : length b ≡ 32) (l : n ≤ 63) (h : Agree a q b n) where
    past : (x : List ℕ) (i : ℕ) → length x ≤ i → get_or x i 0 ≡ 0
    past x i u = get_or-eq_default x 0 {n = i} u

    abbrev gap : ℕ → K.El
    gap j = coefs ρ a j +ᵏ -ᵏ 1ᵏ *ᵏ cast (prod_at q b j)

    none : (j : ℕ) → n ≤ j → gap j ≡ 0ᵏ
    none j u = ap (λ x. x +ᵏ -ᵏ 1ᵏ *ᵏ cast (prod_at q b j)) (h j u) ∙ solve K (var 0 :+ minus one :* var 0) zer tt (cast (prod_at q b j) ∷ [])

    pub agree_end : Lt 𝓥 (row ρ a + - (row ρ q * row ρ b)) n
    agree_end =
        lt_eq 𝓥 (psum_lt ρ n gap) (sym (psum_cut ρ n (N.◌-◌ 63 n) gap none) ∙ ap (λ j. psum ρ j gap) (let e : N.◌+◌ (N.◌-◌ 63 n) n ≡ 63 = omega arith in e)
        ∙ psum_plus ρ 63 (-ᵏ 1ᵏ) (coefs ρ a) (λ j. cast (prod_at q b j))
        ∙ ap₂ (λ x y. x + const (-ᵏ 1ᵏ) * y) (sym (row_upto ρ a 63 (λ i u. past a i (omega arith)))) (product_law ρ 63 32 32 q b (λ i u. past b i (omega arith)) (omega arith) ∙ ap (λ x. x * row ρ b) (sym (row_32 ρ q sq)))
        ∙ ap (λ x. row ρ a + x * (row ρ q * row ρ b)) (const_neg ρ 1ᵏ ∙ ap (λ x. - x) ρ.const_one)
        ∙ solve L (var 0 :+ minus one :* var 1) (var 0 :+ minus (var 1)) tt (row ρ a ∷ row ρ q * row ρ b ∷ []))

  -- what b times gives a is the quotient
  pub exact_law : (a q b : L.El) (n : ℕ) → Has 𝓥 b n → Lt 𝓥 (a + - (q * b)) n → IsPoly q → (w : L.El) → IsPoly w → b * w ≡ a → q ≡ w
  exact_law a q b n hb h hq w hw e =
      let z : w + - q ≡ 𝟎 = 𝓥.poly_small (w + - q) (𝓥.closed.add _ _ hw (𝓥.closed.neg _ hq))
      (lt_cancel 𝓥 0 hb (lt_up 𝓥 (N.◌+◌ n 0) (lt_eq 𝓥 h (ap (λ x. x + - (q * b)) (sym e) ∙ solve L (var 0 :* var 1 :+ minus (var 2 :* var 0)) (var 0 :* (var 1 :+ minus (var 2))) tt (b ∷ w ∷ q ∷ []))) (omega arith))) in
      sym (r.eq_of_sub L w q z)

  -- there is one quotient and one rest
  pub division_unique : (a b q r q' r' : L.El) (n : ℕ) → Has 𝓥 b n → IsPoly q → IsPoly q' → a ≡ q * b + r → a ≡ q' * b + r' → Lt 𝓥 r n → Lt 𝓥 r' n → (q ≡ q') × (r ≡ r')
  division_unique a b q r q' r' n hb hq hq' e f l l' =
      let same : q ≡ q' = exact_law (b * q') q b n hb
      (lt_eq 𝓥 (lt_add 𝓥 l (lt_neg 𝓥 l')) (solve_by L (var 2 :+ minus (var 4)) (var 0 :* var 3 :+ minus (var 1 :* var 0)) (hyp (minus one) (var 5) (var 1 :* var 0 :+ var 2) ∷ hyp one (var 5) (var 3 :* var 0 :+ var 4) ∷ []) tt (b ∷ q ∷ r ∷ q' ∷ r' ∷ a ∷ []) (e, (f, tt))))
      hq q' hq' refl in (
        same,
        solve_by L (var 2) (var 4) (hyp (minus one) (var 5) (var 1 :* var 0 :+ var 2) ∷ hyp one (var 5) (var 3 :* var 0 :+ var 4) ∷ hyp (minus (var 0)) (var 1) (var 3) ∷ []) tt (b ∷ q ∷ r ∷ q' ∷ r' ∷ a ∷ []) (e, (f, (same, tt))),
      )
