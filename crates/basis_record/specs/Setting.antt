-- The accepted field p, G, H as the theory of ideals takes it.
--   roots A pr   G and H with the two series r, w of the field, over the series at pr, a proof that p is prime
--   setting A    the field
-- Two accepted pairs over one p, at one and the same proof, stand over one ring of series. r and w are those of crate field_roots,
-- proofs/Root.antt: they stay shut, and `field_roots_unique` in proofs/Setting.antt says that no other two series obey their laws.
use Rattle.std.specs.Prelude.{List, ℕ, ◌≤◌}
use Rattle.std.proofs.Common.{arith}
use Rattle.math_fp.specs.Fp.{Prime}
use Rattle.math_ideals.specs.Setting.{Roots, Setting, at}
use Rattle.math_rows.specs.Made.{reading}
use Rattle.math_rows.proofs.Constants as constants
use Rattle.poly_rows.specs.Polynomial.{polynomial}
use Rattle.field_open.specs.Refusal.{Accepted}
use Rattle.field_roots.specs.Pair.{deg_r, deg_w}
use Rattle.field_roots.proofs.Root as root

module _ {p : ℕ} {G H : List ℕ} (A : Accepted p G H) where
  abbrev pub roots : (pr : Prime p) → Roots (reading p pr).𝓥
  roots pr = record {
    two≢ = constants.two≢ (reading p pr) pr A.kind (let l : 5 ≤ p = A.low in omega arith);
    form = constants.form (reading p pr) pr A.kind;
    G = polynomial p pr G;
    H = polynomial p pr H;
    G_free = A.free_g pr;
    H_free = A.free_h pr;
    coprime = A.apart pr;
    d_g = A.deg_g;
    d_h = A.deg_h;
    G_deg = root.G_has A pr;
    H_deg = root.H_has A pr;
    not_const = A.some;
    r = root.root_r_lem A pr;
    w = root.root_w_lem A pr;
    dr = deg_r A.deg_g A.deg_h;
    dw = deg_w A.deg_g A.deg_h;
    r_deg = root.r_has A pr;
    w_deg = root.w_degree A pr;
    r_r = (root.root_pair A pr).r_r;
    r_w = (root.root_pair A pr).r_w;
  }

  abbrev pub setting : Setting
  setting = at (roots A.prime)
