-- Request E8 holds: crate math_fundamental, of the setting of an accepted field and of what the functions answer.
use mathlib.Core.Path.{◌≡◌, sym, ◌∙◌, subst}
use mathlib.Core.List.{List}
use Prim.Native.Nat.{ℕ, ◌+◌, ◌*◌}
use native.Mathlib.Omega.{arith}
use lib.ListN.{length}
use Rattle.field_open.specs.Refusal.{Accepted}
use Rattle.math_chain.specs.Convention.{Convention, number}
use Rattle.math_chain.proofs.Exists.{order_exists}
use Rattle.math_chain.proofs.Scaling.{number_unique}
use Rattle.math_chain.proofs.Unit.{unit_unique}
use Rattle.math_fundamental.proofs.Complete.{completeness}
use Rattle.math_fundamental.proofs.Units.{unit_closes, none_below, none_within}
use Rattle.math_fundamental.proofs.Fundamental.{unit_fundamental, unit_smallest, closing_least}
use Rattle.math_fundamental.proofs.Agree.{least_unique, smallest_unique, constant_norm}
use Rattle.basis_record.specs.Record.{setting, basis_of}
use Rattle.pair_theory.proofs.Least.{least_agree}
use Rattle.walk_chain.specs.Walk as walk
use Rattle.walk_chain.proofs.Walk.{closes_unique}
use Rattle.door_period.specs.Order.{PeriodAnswer}
use Rattle.door_period.specs.Order as walks
use Rattle.basis_field.proofs.First.{first_unique}
use Rattle.door_unit.specs.Unit.{UnitAnswer, Makes, Success}
use Rattle.unit_finish.specs.Rows.{six}
use Rattle.demands_requests.specs.Smallest.{SmallestRows, SmallestUnit}
use Rattle.demands.proofs.Cases.{walk_closed, walk_spent, told_closed, told_spent, told_accepted, unit_made, unit_spent, unit_narrow, unit_accepted, success_unit}

-- ---- what the functions answer
unit_rows : (i p n : ℕ) (G H rows scratch rows' scratch' : List ℕ) (m : UnitAnswer) → Makes i p G H n rows scratch m rows' scratch' → m.refusal ≡ 0 → (k : Convention) × (number k ≡ i) × SmallestRows k p G H m rows'
unit_rows i p n G H rows scratch rows' scratch' m h z =
    let (k, c, l, d, e, r) = unit_made i p n G H rows scratch rows' scratch' m h z in (
      k,
      e.named,
      record {
        c = c;
        long = r.rows_hold.whole;
        smallest = λ A. let (B₀, st) = order_exists (setting A) in unit_smallest (setting A) (success_unit p G H rows' m r A B₀ st);
        fundamental = λ A. let (B₀, st) = order_exists (setting A) in unit_fundamental (setting A) (success_unit p G H rows' m r A B₀ st);
      },
    )

-- ---- two walks that close
told_agree : (p n n' : ℕ) (G H : List ℕ) (o o' : PeriodAnswer) → walks.FromOrder p G H n o → o.refusal ≡ 0 → walks.FromOrder p G H n' o' → o'.refusal ≡ 0 → o ≡ o'
told_agree p n n' G H o o' h z h' z' =
    let A = told_accepted p n G H o h z in
    let (B, f, c) = told_closed p n G H o h z in
    let (B', f', c') = told_closed p n' G H o' h' z' in
    let same : walk.Closes p G H B o'.period.0 (o'.regulator.0 + o'.regulator.0) c'.last
    = subst (λ b. walk.Closes p G H b o'.period.0 (o'.regulator.0 + o'.regulator.0) c'.last) (first_unique A B' B f' f) c'.closes in
    let (x, y, e) = closes_unique p G H A B f.is_a_record c.closes same in
    let r : o.regulator.0 ≡ o'.regulator.0 = omega (arith, y) in
    λ i. record { refusal = (z ∙ sym z') i; period = record { 0 = x i }; regulator = record { 0 = r i } }

module _ (i p n n' : ℕ) (G H rows scratch r s rows' scratch' r' s' : List ℕ) (m m' : UnitAnswer) where
  -- the rows hold one unit, whatever their lengths
  made_agree : {k : Convention} {c l d c' l' d' : ℕ} → Success k p G H l d c scratch m r s → Success k p G H l' d' c' scratch' m' r' s' → Accepted p G H →
      (m ≡ m') × ((A : Accepted p G H) → (six A c 0 r ≡ six A c' 0 r') × (six A c (c + c + c) r ≡ six A c' (c' + c' + c') r'))
  made_agree x x' A₀ =
      let (B₀, st) = order_exists (setting A₀) in
      let (el, ed, e_e, eF) = unit_unique (setting A₀) B₀ st (success_unit p G H r m x A₀ B₀ st) (success_unit p G H r' m' x' A₀ B₀ st) in
      let er : m.regulator.0 ≡ m'.regulator.0 = omega (arith, ed) in (
        λ j. record { refusal = (x.number ∙ sym x'.number) j; period = record { 0 = el j }; regulator = record { 0 = er j } },
        λ A. let (B₁, st₁) = order_exists (setting A) in let (a, b, e, f) = unit_unique (setting A) B₁ st₁ (success_unit p G H r m x A B₁ st₁) (success_unit p G H r' m' x' A B₁ st₁) in (e, f),
      )

  units_agree : Makes i p G H n rows scratch m r s → m.refusal ≡ 0 → Makes i p G H n' rows' scratch' m' r' s' → m'.refusal ≡ 0 → (c c' : ℕ) → length r ≡ 6 * c → length r' ≡ 6 * c' →
      (m ≡ m') × ((A : Accepted p G H) → (six A c 0 r ≡ six A c' 0 r') × (six A c (c + c + c) r ≡ six A c' (c' + c' + c') r'))
  units_agree h z h' z' c c' e e' =
      let (v, c₁, l, d, f, x) = unit_made i p n G H rows scratch r s m h z in
      let (v', c₂, l', d', f', x') = unit_made i p n' G H rows' scratch' r' s' m' h' z' in
      let a : length r ≡ 6 * c₁ = x.rows_hold.whole in
      let b : length r' ≡ 6 * c₂ = x'.rows_hold.whole in
      let one : v' ≡ v = number_unique v' v (f'.named ∙ sym f.named) in
      let k : c₁ ≡ c = omega arith in
      let k' : c₂ ≡ c' = omega arith in
      made_agree (subst (λ t. Success v p G H l d t scratch m r s) k x) (subst (λ t. Success v p G H l' d' t scratch' m' r' s') k' (subst (λ t. Success t p G H l' d' c₂ scratch' m' r' s') one x')) (unit_accepted i p n G H rows scratch r s m h z)

pub smallest_unit : SmallestUnit
smallest_unit = record {
  fundamental = λ A B₀ u. unit_fundamental (setting A) u;
  closing_least = λ A B₀ st c. closing_least (setting A) st c;
  complete = λ A. completeness (setting A);
  unit_rows = λ m h z. unit_rows _ _ _ _ _ _ _ _ _ m h z;
  regulator = λ o h z A. let (B, f, c) = told_closed _ _ _ _ o h z in closing_least (setting A) (f.start A) (c.closes.closing A);
  walk_sum = λ w f h z A. closing_least (setting A) (f.start A) ((walk_closed _ _ _ _ _ w h z).closes.closing A);
  regulator_open = λ o h z A. let (B, f, g) = told_spent _ _ _ _ o h z in none_within (setting A) (basis_of A B) (f.start A) _ (g A);
  walk_open = λ w f h z A. let s = walk_spent _ _ _ _ _ w h z in none_below (setting A) _ (f.start A) (s.reaches.chain A) (s.none A);
  unit_open = λ m h z A. let (B₀, st) = order_exists (setting A) in none_within (setting A) B₀ st _ (unit_spent _ _ _ _ _ _ _ _ _ m h z A B₀ st);
  unit_narrow = λ m h z c e A.
      let (v, c', l, d, t, f, g) = unit_narrow _ _ _ _ _ _ _ _ _ m h z in
      let (B₀, st) = order_exists (setting A) in
      let e' = t.six.whole in
      (d, closing_least (setting A) st (f A B₀ st).1, omega arith);
  closes = λ A B₀ st η inv h l. unit_closes (setting A) B₀ st η inv h l;
  least_unique = λ A. least_unique (setting A);
  smallest_unique = λ A a b. smallest_unique (setting A) a b;
  constant_norm = λ A B₀ u x c h. constant_norm (setting A) (unit_fundamental (setting A) u).least x c h;
  one_field = least_agree;
  walks_agree = λ o o' h z h' z'. told_agree _ _ _ _ _ o o' h z h' z';
  units_agree = λ m m' h z h' z' c c' e e'. units_agree _ _ _ _ _ _ _ _ _ _ _ _ _ _ m m' h z h' z' c c' e e';
}
