-- Two outcomes of one walk, put in place, are equal: refusal, steps, degree sum and the lent record.
use mathlib.Core.Path.{◌≡◌, ◌∙◌, sym, subst}
use mathlib.Core.Logic.{inl, inr}
use mathlib.Core.List.{List}
use Prim.Native.Nat.{ℕ}
use native.Mathlib.Decide.{ℕ_discrete}
use Rattle.capi_walk.specs.Puts.{Ends, Puts}

ends_unique : (n : ℕ) {a b b' x x' : List ℕ} → x ≡ x' → Ends n a b x → Ends n a b' x' → b ≡ b'
ends_unique n {b = b} {b' = b'} f l l' = at_zero (ℕ_discrete n 0)
  where
    at_ten : (n ≡ 0 → ⊥) → Dec (n ≡ 10) → b ≡ b'
    at_ten z (yes e) = l.stored (inr e) ∙ f ∙ sym (l'.stored (inr e))
    at_ten z (no w) = l.kept z w ∙ sym (l'.kept z w)

    at_zero : Dec (n ≡ 0) → b ≡ b'
    at_zero (yes e) = l.stored (inl e) ∙ f ∙ sym (l'.stored (inl e))
    at_zero (no z) = at_ten z (ℕ_discrete n 10)

module _ {k k' l l' e e' : ℕ} {x x' : List ℕ} (p : k ≡ k') (q : l ≡ l') (w : e ≡ e') (f : x ≡ x') where
  pub puts_unique : {a : List ℕ} {n n' s s' d d' : ℕ} {b b' : List ℕ} → Puts k l e x a n s d b → Puts k' l' e' x' a n' s' d' b' → (n ≡ n') × (s ≡ s') × (d ≡ d') × (b ≡ b')
  puts_unique {a = a} {n = n} {b' = b'} t u =
      let m = t.number ∙ p ∙ sym u.number in (
        m,
        t.steps_is ∙ q ∙ sym u.steps_is,
        t.sum_is ∙ w ∙ sym u.sum_is,
        ends_unique n f t.rows (subst (λ z. Ends z a b' x') (sym m) u.rows),
      )
