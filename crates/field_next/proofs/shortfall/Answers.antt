-- `field_next::shortfall` meets its contract.
use Prim.Native.Nat.{◌-◌, ◌+◌, ◌%◌}
use mathlib.Core.Path.{◌∙◌, ap₂}
use Rattle.field_next.proofs.shortfall.Goals as goal

pub returns : goal.returns
returns c = let p = c.args.p in
    record {
      value = c.lack.ensures.value ∙ ap₂ (λ a b. (a + (p - b)) % p) c.product_at.ensures.value
          c.product_at-2.ensures.value;
      below = c.lack.ensures.below;
    }
