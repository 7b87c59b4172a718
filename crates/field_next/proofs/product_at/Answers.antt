-- `field_next::product_at` meets its contract. The loop's invariant: the sum of the products passed; past the end of the first list there are none.
use Prim.Native.Nat.{ℕ, suc, ◌≤◌, ◌-◌, ◌*◌, ◌+◌, ◌%◌, min}
use mathlib.Core.Path.{◌≡◌, ◌∙◌, sym, ap, ap₂}
use native.Mathlib.Omega.{arith}
use native.Mathlib.Numerals.{add-one}
use lib.ListN.{length, get_or-eq_default}
use native.Mathlib.Nat.{zero-mul, mod-lt}
use Rattle.base_lists.specs.Sums.{entry}
use Rattle.field_next.proofs.Sums.{prod_sum, product_small}
use Rattle.math_rows.specs.Sum.{sum_to}
use Rattle.math_rows.proofs.Product.{sum_more, sum_skip, sum_none}
use Rattle.field_next.proofs.product_at.Goals as goal

pub loop-j-init : goal.loop-j-init
loop-j-init c = (omega arith, sym (sum_none _ 0 (λ i l. absurd (omega arith))))

abbrev C : Type 0
C = goal.After-coefficient-in-loop-j

small : (c : C) → c.coefficient.result * c.coefficient-in-loop-j.result ≤ 4294836225
small c = product_small c.coefficient.result c.coefficient-in-loop-j.result c.coefficient.ensures.small c.coefficient-in-loop-j.ensures.small

pub overflow_mul-sum : goal.overflow_mul-sum
overflow_mul-sum c = omega (arith, small c)

pub overflow_add-sum : goal.overflow_add-sum
overflow_add-sum c = omega (arith, small c)

pub loop-j-preserved : goal.loop-j-preserved
loop-j-preserved c = let a = c.args in
    let inv = c.loop-j.invariant in
    let term : ℕ → ℕ = (λ m. entry a.f.now m * entry a.g.now (a.i - m)) in (
      omega (arith, small c),
      ap₂ ◌+◌ inv.1 (ap₂ ◌*◌ c.coefficient.ensures.value c.coefficient-in-loop-j.ensures.value)
          ∙ sym (sum_more term c.loop-j.j) ∙ ap (sum_to term) (sym (add-one c.loop-j.j)),
    )

pub returns : goal.returns
returns c = let a = c.args in
    let term : ℕ → ℕ = (λ m. entry a.f.now m * entry a.g.now (a.i - m)) in
    let n : ℕ = c.min-n.result in
    let h : n ≡ min (length a.f.now) (a.i + 1) = c.min-n.ensures in
    let e : c.loop-j.j ≡ n = omega arith in
    let skip : sum_to term n ≡ sum_to term (suc a.i) = sym (sum_skip term n (suc a.i) (omega arith)
    (λ m u v. ap (λ x. x * entry a.g.now (a.i - m)) (get_or-eq_default a.f.now 0 {n = m} (omega arith)) ∙ zero-mul (entry a.g.now (a.i - m)))) in
    record {
      below = mod-lt c.loop-j.sum c.requires.pos;
      value = ap (λ x. x % a.p) (c.loop-j.invariant.1 ∙ ap (sum_to term) e ∙ skip ∙ sym (prod_sum (entry a.f.now) (entry a.g.now) a.i));
    }
