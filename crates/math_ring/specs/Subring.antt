-- The subring of the elements with a property that the operations keep.
use Rattle.std.specs.Prelude.{◌≡◌}
use mathlib.Core.HLevel.{Σ_prop_path, Σ_set, prop→set}
use Rattle.math_ring.specs.Ring.{Ops, Laws, CRing}

pub record Closed (R : CRing) (P : R.El → Type 0) : Type 0 where
  pub prop : (x : R.El) → IsProp (P x)
  pub add : (x y : R.El) → P x → P y → P (R.ops.add x y)
  pub mul : (x y : R.El) → P x → P y → P (R.ops.mul x y)
  pub neg : (x : R.El) → P x → P (R.ops.neg x)
  pub 𝟎 : P R.ops.𝟎
  pub 𝟏 : P R.ops.𝟏

module _ (R : CRing) (P : R.El → Type 0) (k : Closed R P) where
  abbrev pub Sub : Type 0
  Sub = (x : R.El) × P x

  pub sub_path : {x y : Sub} → x.0 ≡ y.0 → x ≡ y
  sub_path {x} {y} e = Σ_prop_path k.prop {u = x} {v = y} e

  abbrev pub subops : Ops Sub
  subops = record {
    add = λ x y. (R.ops.add x.0 y.0, k.add x.0 y.0 x.1 y.1);
    mul = λ x y. (R.ops.mul x.0 y.0, k.mul x.0 y.0 x.1 y.1);
    neg = λ x. (R.ops.neg x.0, k.neg x.0 x.1);
    𝟎 = (R.ops.𝟎, k.𝟎);
    𝟏 = (R.ops.𝟏, k.𝟏);
  }

  pub sublaws : Laws Sub subops
  sublaws = record {
    is_set = Σ_set R.laws.is_set (λ x. prop→set (k.prop x));
    add_assoc = λ x y z. sub_path (R.laws.add_assoc x.0 y.0 z.0);
    add_comm = λ x y. sub_path (R.laws.add_comm x.0 y.0);
    add-zero = λ x. sub_path (R.laws.add-zero x.0);
    add_neg = λ x. sub_path (R.laws.add_neg x.0);
    mul_assoc = λ x y z. sub_path (R.laws.mul_assoc x.0 y.0 z.0);
    mul_comm = λ x y. sub_path (R.laws.mul_comm x.0 y.0);
    mul-one = λ x. sub_path (R.laws.mul-one x.0);
    mul-add = λ x y z. sub_path (R.laws.mul-add x.0 y.0 z.0);
  }

  abbrev pub subring : CRing
  subring = record { El = Sub; ops = subops; laws = sublaws }
