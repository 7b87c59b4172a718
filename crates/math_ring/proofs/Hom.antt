-- A map that keeps the operations keeps every expression: `hom_eval`.
use mathlib.Core.Path.{◌≡◌, refl, ap, ap₂, ◌∙◌}
use mathlib.Core.List.{List, [], ◌∷◌, map}
use Prim.Native.Nat.{ℕ, zero, suc}
use Rattle.math_ring.specs.Ring.{Ops, nat, Hom}
use Rattle.math_ring.proofs.Solve.{Expr, var, lit, zer, one, plus as plusE, times as timesE, minus as minusE, hd, tl, nth, eval}

module _ {A B : Type 0} {o : Ops A} {q : Ops B} (f : A → B) (h : Hom o q f) where
  hd_map : (e : List A) → f (hd o e) ≡ hd q (map f e)
  hd_map [] = h.𝟎
  hd_map (x ∷ e) = refl

  tl_map : (e : List A) → map f (tl o e) ≡ tl q (map f e)
  tl_map [] = refl
  tl_map (x ∷ e) = refl

  nth_map : (i : ℕ) (e : List A) → f (nth o e i) ≡ nth q (map f e) i
  nth_map zero e = hd_map e
  nth_map (suc i) e = nth_map i (tl o e) ∙ ap (λ l. nth q l i) (tl_map e)

  nat_map : (n : ℕ) → f (nat o n) ≡ nat q n
  unfolding nat
  nat_map zero = h.𝟎
  nat_map (suc n) = h.add o.𝟏 (nat o n) ∙ ap₂ q.add h.𝟏 (nat_map n)

  pub hom_eval : (x : Expr) (e : List A) → f (eval o x e) ≡ eval q x (map f e)
  hom_eval (var i) e = nth_map i e
  hom_eval (lit n) e = nat_map n
  hom_eval zer e = h.𝟎
  hom_eval one e = h.𝟏
  hom_eval (plusE x y) e = h.add (eval o x e) (eval o y e) ∙ ap₂ q.add (hom_eval x e) (hom_eval y e)
  hom_eval (timesE x y) e = h.mul (eval o x e) (eval o y e) ∙ ap₂ q.mul (hom_eval x e) (hom_eval y e)
  hom_eval (minusE x) e = h.neg (eval o x e) ∙ ap q.neg (hom_eval x e)
