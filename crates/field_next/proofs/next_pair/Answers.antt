-- `field_next::next_pair` meets its contract: `turned` of proofs/Turns.antt, at what the calls hand out.
use Prim.Native.Nat.{ℕ}
use mathlib.Core.Path.{◌∙◌, ap₂}
use native.Mathlib.Omega.{arith}
use lib.ListN.{length-set, set}
use Rattle.base_lists.specs.Sums.{entry}
use Rattle.field_next.proofs.Step.{r_next, w_next}
use Rattle.field_next.proofs.Turns.{turned}
use Rattle.field_next.proofs.next_pair.Goals as goal

pub bounds-w-i-2 : goal.bounds-w-i-2
bounds-w-i-2 c = omega (arith, length-set c.args.w.now c.args.i 0, c.requires.inside, c.requires.done.even)

pub returns : goal.returns
returns c = let p = c.args.p in
    let u = c.args.u in
    let i = c.args.i in
    let h₀ = c.coefficient-h0 in
    let r₀ = c.coefficient-r0 in
    let w₀ = c.coefficient-w0 in
    let a = c.shortfall-a in
    let b = c.shortfall-b in
    let h₁ : ℕ = entry c.args.h.now 0 in
    let r₁ : ℕ = entry (set c.args.r.now i 0) 0 in
    let w₁ : ℕ = entry (set c.args.w.now i 0) 0 in
    turned p c.args.g.now c.args.h.now u c.args.r.now c.args.w.now i c.next_r.result c.next_w.result c.requires
    (c.next_r.ensures.value ∙ ap₂ (λ x y. r_next p u x y a.result b.result) h₀.ensures.value r₀.ensures.value ∙ ap₂
    (λ x y. r_next p u h₁ r₁ x y) a.ensures.value b.ensures.value)
    (c.next_w.ensures.value ∙ ap₂ (λ x y. w_next p u x y a.result b.result) w₀.ensures.value r₀.ensures.value ∙ ap₂ (λ x y. w_next p u w₁ r₁ x y)
    a.ensures.value b.ensures.value)
