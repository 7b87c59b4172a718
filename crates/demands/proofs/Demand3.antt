-- Demand 3 holds: the chain theorem; what the functions hand out is a chain; the inverse that is part of what a unit is.
use mathlib.Core.Path.{subst}
use mathlib.Core.List.{List}
use native.Mathlib.Omega.{arith}
use Prim.Native.Nat.{ℕ, suc}
use Rattle.math_valued.proofs.Degree as d
use Rattle.field_open.specs.Refusal.{Accepted}
use Rattle.math_ideals.specs.Setting.{Setting, d_gh}
use Rattle.math_ideals.specs.Ideal.{Basis}
use Rattle.math_ideals.specs.Next.{Start}
use Rattle.math_chain.specs.Chain.{Chain, here, then}
use Rattle.math_chain.proofs.Walk.{chain_then}
use Rattle.math_chain.proofs.Exists.{order_exists, chain_exists}
use Rattle.math_chain.proofs.Closing.{start_unique}
use Rattle.math_chain.proofs.Passed.{chain_theorem}
use Rattle.basis_record.specs.Record.{setting, basis_of, IsRecord}
use Rattle.door_order.proofs.Answer.{orders_first}
use Rattle.demands.specs.Chain.{After, HandedOut, by_order, by_step, by_walk, Demand3}
use Rattle.demands.proofs.Cases.{walk_reaches}
use Rattle.demands.proofs.Demand2.{step_taken, unit_is}

after : (S : Setting) (B₀ : Basis S) → Start S B₀ → {s d : ℕ} {B : Basis S} (c : Chain S B₀ s d B) → After S c
after S B₀ st c =
    let f = chain_theorem S B₀ st c in
    record {
      E = f.E;
      Em = f.Em;
      En = f.En;
      product = f.product;
      times_m = f.m_eq;
      times_n = f.n_eq;
      determinant = f.unit;
      denominator = f.rows_fit.U;
      M0 = f.rows_fit.M0;
      M1 = f.rows_fit.M1;
      M2 = f.rows_fit.M2;
      N0 = d.lt_up S.𝓥 (suc (d_gh S)) f.rows_fit.N0 (omega arith);
      N1 = d.lt_up S.𝓥 (suc (d_gh S)) f.rows_fit.N1 (omega arith);
      N2 = d.lt_up S.𝓥 (suc (d_gh S)) f.rows_fit.N2 (omega arith);
    }

-- ---- what the functions hand out
module _ (p : ℕ) (G H : List ℕ) where
  handed_accepted : {s d : ℕ} {B : List ℕ} → HandedOut p G H s d B → Accepted p G H
  handed_accepted (by_order o h z) = (orders_first h z).0
  handed_accepted (by_step a t h z) = handed_accepted t
  handed_accepted (by_walk n w t h z) = handed_accepted t

  handed_record : {s d : ℕ} {B : List ℕ} → HandedOut p G H s d B → IsRecord p G H B
  handed_record (by_order o h z) = (orders_first h z).1.is_a_record
  handed_record (by_step {B = B} a t h z) = (step_taken p G H B a z h).is_a_record
  handed_record (by_walk {B = B} n w t h z) = (walk_reaches p n G H B w h z).is_a_record

  module _ (A : Accepted p G H) (B₀ : Basis (setting A)) (st : Start (setting A) B₀) where
    handed_chain : {s d : ℕ} {B : List ℕ} → HandedOut p G H s d B → Chain (setting A) B₀ s d (basis_of A B)
    handed_chain (by_order o h z) =
        let e = start_unique (setting A) B₀ (basis_of A o.basis) st ((orders_first h z).1.start A) in
        subst (Chain (setting A) B₀ 0 0) e here
    handed_chain (by_step {B = B} a t h z) =
        let k = step_taken p G H B a z h in
        then a.degree (basis_of A a.basis) (handed_chain t) (k.degree A) (k.next A) (k.is_a_record.good A)
    handed_chain (by_walk {B = B} n w t h z) = chain_then (setting A) (handed_chain t) ((walk_reaches p n G H B w h z).chain A)

pub demand_3 : Demand3
demand_3 = record {
  order = λ A. order_exists (setting A);
  any_steps = λ A B₀ st s. chain_exists (setting A) B₀ st.good s;
  after = λ A B₀ st c. after (setting A) B₀ st c;
  handed_out = λ t. (
    handed_accepted _ _ _ t,
    handed_record _ _ _ t,
    λ A B₀ st. let c = handed_chain _ _ _ A B₀ st t in (c, after (setting A) B₀ st c),
  );
  exactly_one = λ A B₀ u. u.inverse;
  rows_one = λ m h z.
      let (k, e, u) = unit_is _ _ _ _ _ _ _ _ _ m h z in
      (u.c, u.long, λ A. let (B₀, st) = order_exists (setting A) in (u.unit A B₀ st).inverse);
}
