-- `field_next::coefficient` meets its contract.
use mathlib.Core.Path.{sym}
use native.Mathlib.Omega.{arith}
use lib.ListN.{get_or-eq_default}
use Rattle.field_next.proofs.coefficient.Goals as goal

pub returns-then-i-s : goal.returns-then-i-s
returns-then-i-s c = record {
  value = c.wide.ensures;
  small = omega (arith, c.wide.ensures, c.type_inv.s c.args.i);
}

pub returns-else-i-s : goal.returns-else-i-s
returns-else-i-s c = record { value = sym (get_or-eq_default c.args.s.now 0 {n = c.args.i} c.if-i-s.false); small = omega arith }
