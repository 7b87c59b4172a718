-- Laurent series over a field have all that the theory asks of series: the instance of `Valued`.
use mathlib.Core.Logic.{◌≢◌}
use Prim.Native.Nat.{suc}
use Rattle.math_ring.specs.Ring.{CRing}
use Rattle.math_ring.specs.Field.{Field}
use Rattle.math_valued.specs.Val.{Valued}
use Rattle.math_laurent.specs.Laurent.{const, t}
use Rattle.math_laurent.specs.Degree.{coef, Lead}
use Rattle.math_laurent.specs.Polynomial.{IsPoly}
use Rattle.math_laurent.proofs.Laurent.{laurent}
use Rattle.math_laurent.proofs.Degree.{lead_zero, lead_add, lead_neg, lead_mul, lead_const, lead_t, lead_move, lead_up, lead_down, lead_unique}
use Rattle.math_laurent.proofs.Inverse.{lead_inv}
use Rattle.math_laurent.proofs.Polynomial.{closed, const-IsPoly, t-IsPoly, poly_small}
use Rattle.math_laurent.proofs.Division.{poly_view}
use Rattle.math_laurent.proofs.Gcd.{bezout}

module _ (K : CRing) (F : Field K) (one≢zero : K.ops.𝟏 ≢ K.ops.𝟎) where
  abbrev pub valued : Valued
  valued = record {
    K = K;
    field = F;
    one≢zero = one≢zero;
    L = laurent K;
    Lead = Lead K;
    lead_zero = lead_zero K;
    lead_one = lead_const K K.ops.𝟏;
    lead_add = lead_add K;
    lead_neg = lead_neg K;
    lead_mul = lead_mul K;
    lead_inv = λ {x} {p} {q} {a} h ha. let (u, e) = F.inv a ha in let (y, f, g) = lead_inv K h u e in (y, u, f, g);
    lead_move = lead_move K;
    lead_up = lead_up K;
    lead_down = λ {x} {p} {q} h. (coef K p (suc q) x, lead_down K h);
    lead_unique = lead_unique K;
    IsPoly = IsPoly K;
    closed = closed K;
    poly_view = poly_view K F;
    poly_small = poly_small K;
    const = const K;
    const_poly = const-IsPoly K;
    const_lead = lead_const K;
    t = t K;
    t_poly = t-IsPoly K;
    t_lead = lead_t K;
    bezout = λ f g. let z = bezout K F f g in (z.d, z.u, z.v, z.a, z.b, z.is_sum, z.divides_f, z.divides_g);
  }
