-- `carried`: what carries over corresponds.
use mathlib.Core.Path.{sym}
use Rattle.math_valued.specs.Val.{Valued}
use Rattle.math_valued.specs.Polynomial.{polys}
use Rattle.math_valued.proofs.Degree.{has_eq}
use Rattle.math_ideals.specs.Setting.{Roots, at}
use Rattle.math_carry.specs.Carries.{Carries}
use Rattle.math_carry.specs.Corresponds.{Corresponds}
use Rattle.math_carry.proofs.Inverse.{back, ev_kept}

pub carried : (𝓥 : Valued) {s s' : Roots 𝓥} → Carries s s' → Corresponds (at s) (at s')
carried 𝓥 c = record {
  to = c.to;
  from = c.from;
  to_from = c.to_from;
  from_to = c.from_to;
  to_one = c.poly (polys 𝓥).ops.𝟏;
  from_one = (back 𝓥 c).poly (polys 𝓥).ops.𝟏;
  to_mul = c.mul;
  from_mul = (back 𝓥 c).mul;
  to_deg = λ {p} {q} u h. has_eq 𝓥 h (sym (ev_kept 𝓥 c u));
  from_deg = λ {p} {q} v h. has_eq 𝓥 h (sym (ev_kept 𝓥 (back 𝓥 c) v));
}
