-- Lists that agree after they are made monic.
--   agree_sym, agree_degree   in either order; equally long
--   leading_at, leading_below, leading_some, leading_not   of a list of coefficients: its leading coefficient
--   cross_of, agree_of        agreeing is cross multiplication; `cross_from`: only the entries that are there need be looked at
use mathlib.Core.Path.{◌≡◌, sym, ap, ◌∙◌, subst}
use mathlib.Core.Logic.{◌≢◌}
use mathlib.Core.List.{List, [], ◌∷◌}
use Prim.Native.Nat.{ℕ, suc, ◌%◌, ◌<◌}
use Prim.Native.Nat as N
use native.Mathlib.Nat.{mod-lt, mul_comm, mul-zero}
use native.Mathlib.Omega.{arith}
use native.Mathlib.Decide.{dec_lt}
use lib.ListN.{length, get_or, get_or-eq_default}
use Rattle.base_lists.specs.Coefficients.{Coefficients}
use Rattle.math_ring.proofs.Laws as rg
use Rattle.math_ring.proofs.Solve.{var, one, ◌:*◌, ◌:=◌, hyp, solve_by, ring₃}
use Rattle.math_fp.specs.Fp.{Prime, pow_mod}
use Rattle.math_fp.proofs.Value.{inverse_value}
use Rattle.math_rows.specs.Reading.{Reading}
use Rattle.math_rows.specs.Made.{reading}
use Rattle.math_rows.specs.Row.{tab}
use Rattle.math_rows.proofs.Tab.{length_tab, at_tab, past_tab}
use Rattle.math_rows.proofs.Unique.{same_cast, mod_of}
use Rattle.pair_laws.specs.OneField.{leading, Monic, Agree, Cross}

pub cross_from : (p : ℕ) (l l' : List ℕ) → length l ≡ length l' → ((i : ℕ) → i < length l → (N.◌*◌ (leading l') (get_or l i 0)) % p ≡ (N.◌*◌ (leading l) (get_or l' i 0)) % p) → Cross p l l'
cross_from p l l' e h = record {
  long = e;
  cross = λ i. elim (dec_lt i (length l)) [
    | yes k ↦ h i k
    | no k ↦
        let z : get_or l i 0 ≡ 0 = get_or-eq_default l 0 {n = i} (omega arith) in
        let z' : get_or l' i 0 ≡ 0 = get_or-eq_default l' 0 {n = i} (omega arith) in
        ap (λ x. (N.◌*◌ (leading l') x) % p) z ∙ ap (λ x. x % p) (mul-zero (leading l') ∙ sym (mul-zero (leading l))) ∙ sym (ap (λ x. (N.◌*◌ (leading l) x) % p) z')
  ];
}

pub agree_sym : {p : ℕ} {l l' : List ℕ} → Agree p l l' → Agree p l' l
agree_sym (m, a, b) = (m, b, a)

pub agree_degree : {p : ℕ} {l l' : List ℕ} {n n' most : ℕ} → Coefficients most p l n → Coefficients most p l' n' → Agree p l l' → n ≡ n'
agree_degree {l} {l'} {n} {n'} h h' (m, a, b) =
    let e : length l ≡ suc n = h.whole in
    let e' : length l' ≡ suc n' = h'.whole in
    let f : length m ≡ length l = a.long in
    let f' : length m ≡ length l' = b.long in
    omega arith

module _ (p : ℕ) (pr : Prime p) where
  abbrev ρ : Reading p
  ρ = reading p pr

  open ρ use {𝓥, cast}
  open 𝓥 use {K}
  open K.ops use {mul as ◌*ᵏ◌, 𝟎 as 0ᵏ, 𝟏 as 1ᵏ}

  infixl 70 ◌*ᵏ◌
  -- lc(l) · x = y, at numbers
  product_of : (a b c : ℕ) → (N.◌*◌ a b) % p ≡ c % p → cast a *ᵏ cast b ≡ cast c
  product_of a b c e = sym (ρ.cast_mul a b) ∙ same_cast ρ (N.◌*◌ a b) c e

  pub cross_of : (l l' : List ℕ) → Agree p l l' → Cross p l l'
  cross_of l l' (m, a, b) = record {
    long = sym a.long ∙ b.long;
    cross = λ i. mod_of ρ (N.◌*◌ (leading l') (get_or l i 0)) (N.◌*◌ (leading l) (get_or l' i 0))
        (ρ.cast_mul (leading l') (get_or l i 0)
        ∙ ap (λ z. cast (leading l') *ᵏ z) (sym (product_of (leading l) (get_or m i 0) (get_or l i 0) (a.times i)))
        ∙ ring₃ K (λ x y z. x :* (y :* z) := y :* (x :* z)) tt (cast (leading l')) (cast (leading l)) (cast (get_or m i 0))
        ∙ ap (λ z. cast (leading l) *ᵏ z) (product_of (leading l') (get_or m i 0) (get_or l' i 0) (b.times i))
        ∙ sym (ρ.cast_mul (leading l) (get_or l' i 0)));
  }

  module _ {l : List ℕ} {n most : ℕ} (h : Coefficients most p l n) where
    pub leading_at : leading l ≡ get_or l n 0
    leading_at = let e : length l ≡ suc n = h.whole in let f : N.◌-◌ (length l) 1 ≡ n = omega arith in ap (λ i. get_or l i 0) f

    pub leading_below : leading l < p
    leading_below = subst (λ x. x < p) (sym leading_at) (h.each n (let e : length l ≡ suc n = h.whole in omega arith))

    pub leading_some : leading l ≢ 0
    leading_some z = h.last (sym leading_at ∙ z)

    pub leading_not : cast (leading l) ≢ 0ᵏ
    leading_not z = leading_some (ρ.cast_small (leading l) leading_below z)

  -- ---- made monic
  module _ {l : List ℕ} {n most : ℕ} (h : Coefficients most p l n) where
    abbrev i₀ : ℕ
    i₀ = pow_mod p (leading l) (N.◌-◌ p 2)

    i₀_is : (N.◌*◌ (leading l) i₀) % p ≡ 1
    i₀_is = inverse_value p pr (leading l) (leading_below h) (let s : leading l ≢ 0 = leading_some h in omega arith)

    i₀_one : cast (leading l) *ᵏ cast i₀ ≡ 1ᵏ
    i₀_one = sym (ρ.cast_mul (leading l) i₀) ∙ sym (ρ.cast_mod (N.◌*◌ (leading l) i₀)) ∙ ap cast i₀_is ∙ ρ.cast_one

    abbrev entry_of : ℕ → ℕ
    entry_of i = (N.◌*◌ i₀ (get_or l i 0)) % p

    abbrev made : List ℕ
    made = tab (length l) entry_of

    -- past the end both are 0
    made_at : (i : ℕ) → cast (get_or made i 0) ≡ cast i₀ *ᵏ cast (get_or l i 0)
    made_at i = elim (dec_lt i (length l)) [
      | yes k ↦ ap cast (at_tab (length l) entry_of i k) ∙ ρ.cast_mod (N.◌*◌ i₀ (get_or l i 0)) ∙ ρ.cast_mul i₀ (get_or l i 0)
      | no k ↦ let z : get_or l i 0 ≡ 0 = get_or-eq_default l 0 {n = i} (omega arith) in
          ap cast (past_tab (length l) entry_of i (omega arith)) ∙ ρ.cast_zero ∙ sym (ap (λ x. cast i₀ *ᵏ cast x) z ∙ ap (λ x. cast i₀ *ᵏ x) ρ.cast_zero ∙ rg.mul-zero K (cast i₀))
    ]

    made_below : (i : ℕ) → get_or made i 0 < p
    made_below i = elim (dec_lt i (length l)) [
      | yes k ↦ subst (λ x. x < p) (sym (at_tab (length l) entry_of i k)) (mod-lt (N.◌*◌ i₀ (get_or l i 0)) ρ.pos)
      | no k ↦ subst (λ x. x < p) (sym (past_tab (length l) entry_of i (omega arith))) ρ.pos
    ]

    made_long : length made ≡ length l
    made_long = length_tab (length l) entry_of

    made_one : leading made ≡ 1
    made_one =
        let e : length l ≡ suc n = h.whole in
        let k : N.◌-◌ (length l) 1 < length l = omega arith in
        ap (λ j. get_or made (N.◌-◌ j 1) 0) made_long ∙ at_tab (length l) entry_of (N.◌-◌ (length l) 1) k ∙ ap (λ x. x % p) (mul_comm i₀ (leading l)) ∙ i₀_is

    pub agree_of : (l' : List ℕ) → Cross p l l' → Agree p l l'
    agree_of l' c = (
      made,
      record {
        long = made_long;
        below = made_below;
        one = made_one;
        times = λ i. mod_of ρ (N.◌*◌ (leading l) (get_or made i 0)) (get_or l i 0)
            (ρ.cast_mul (leading l) (get_or made i 0) ∙ ap (λ z. cast (leading l) *ᵏ z) (made_at i)
            ∙ solve_by K (var 0 :* (var 1 :* var 2)) (var 2) (hyp (var 2) (var 0 :* var 1) one ∷ []) tt (cast (leading l) ∷ cast i₀ ∷ cast (get_or l i 0) ∷ []) (i₀_one, tt));
      },
      record {
        long = made_long ∙ c.long;
        below = made_below;
        one = made_one;
        times = λ i. mod_of ρ (N.◌*◌ (leading l') (get_or made i 0)) (get_or l' i 0)
            (ρ.cast_mul (leading l') (get_or made i 0) ∙ ap (λ z. cast (leading l') *ᵏ z) (made_at i)
            ∙ solve_by K (var 3 :* (var 1 :* var 2)) (var 4) (hyp (var 1) (var 3 :* var 2) (var 0 :* var 4) ∷ hyp (var 4) (var 0 :* var 1) one ∷ []) tt
            (cast (leading l) ∷ cast i₀ ∷ cast (get_or l i 0) ∷ cast (leading l') ∷ cast (get_or l' i 0) ∷ [])
            (sym (ρ.cast_mul (leading l') (get_or l i 0)) ∙ same_cast ρ _ _ (c.cross i) ∙ ρ.cast_mul (leading l) (get_or l' i 0), (i₀_one, tt)));
      },
    )
