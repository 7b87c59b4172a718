-- Both conventions (request E6).
--   cubes         every constant of an accepted field has a cube root
--   closing_unit  the unit of a closing chain under a convention
--   tabled        exactly when `rescale` answers with which number
--   one_answer    the answer beside the rows, under two conventions
--   unit_turned   what `unit` gives under one convention, turned
use mathlib.Core.Path.{◌≡◌, refl, sym, ap, ◌∙◌, subst}
use mathlib.Core.List.{List, [], ◌∷◌}
use mathlib.Core.Logic.{inl, inr}
use Prim.Native.Nat.{ℕ, ◌*◌, ◌≤◌}
use native.Mathlib.Omega.{arith}
use lib.ListN.{length}
use Rattle.math_ring.proofs.Solve.{var, hyp, one, minus, ◌:*◌, solve_by}
use Rattle.math_rows.specs.Made.{reading}
use Rattle.math_rows.proofs.Constants.{root}
use Rattle.field_open.specs.Refusal.{Refusal, Accepted}
use Rattle.math_ideals.specs.Element.{O, sc}
use Rattle.math_ideals.specs.Ideal.{Basis}
use Rattle.math_ideals.specs.Next.{Start}
use Rattle.math_ideals.proofs.Lattice.{sc_mul}
use Rattle.math_chain.specs.Chain.{Closing}
use Rattle.math_chain.specs.Convention.{Convention, number, Cubes}
use Rattle.math_chain.proofs.Unit.{unit_exists, unit_unique, unit_positive, unit_rescaled, positive_scaling}
use Rattle.basis_record.specs.Record.{setting}
use Rattle.unit_finish.specs.Rows.{Holds}
use Rattle.unit_finish.proofs.Rows.{rows_unique}
use Rattle.door_unit.specs.Unit.{UnitAnswer, Makes}
use Rattle.door_unit.proofs.Once.{makes_alike}
use Rattle.door_rescale.specs.Rescale.{Goes, unfit, turned, Rescales}
use Rattle.door_rescale.proofs.Back.{done, turned_rows, holds_rows, rescales_back, rescales_holds, rows_accepted}
use Rattle.demands.proofs.Cases.{unit_made, unit_accepted}
use Rattle.demands.proofs.Tabled.{both, neither, never, field_refused, field_passed, door_tabled}
use Rattle.demands_requests.specs.Conventions.{OnlyUnit, Fits, RescaleTabled, Conventions}

cubes : {p : ℕ} {G H : List ℕ} (A : Accepted p G H) → Cubes (setting A).𝓥.K
cubes {p} A = root (reading p A.prime) A.prime A.kind

module _ {p : ℕ} {G H : List ℕ} (A : Accepted p G H) (B₀ : Basis (setting A)) (st : Start (setting A) B₀) where
  open (O (setting A)).ops use {mul as ◌⊗◌, 𝟏 as 1ₒ}

  infixl 70 ◌⊗◌
  closing_unit : {l d : ℕ} {B : Basis (setting A)} → Closing (setting A) B₀ l d B → (k : Convention) → OnlyUnit (setting A) k B₀ l d
  closing_unit c k =
      let S = setting A in
      let (E, F, u) = unit_exists S B₀ st c in
      let o = positive_scaling S (cubes A) k (unit_positive S B₀ st u) in
      let (t, e) = o.is_a_unit in
      let inverse : sc S o.by ⊗ E ⊗ (sc S t ⊗ F) ≡ 1ₒ =
      solve_by (O S) (var 0 :* var 1 :* (var 2 :* var 3)) one (hyp (var 0 :* var 2) (var 1 :* var 3) one ∷ hyp (minus one) one (var 0 :* var 2) ∷ []) tt (sc S o.by ∷ E ∷ sc S t ∷ F ∷ [])
      (u.inverse, (ap (sc S) e ∙ sc_mul S o.by t, tt)) in
      let v = unit_rescaled S B₀ st k o.by (sc S t ⊗ F) u o.is_a_unit o.scaled inverse in
      record { E = sc S o.by ⊗ E; F = sc S t ⊗ F; unit = v; only = λ E' F' w. let (a, b, x, y) = unit_unique S B₀ st v w in (x, y) }

unit_turned : {p i j n n' k : ℕ} {G H x y x' y' r s r' s' r₁ : List ℕ} (m m' : UnitAnswer) →
    Makes i p G H n x y m r s → m.refusal ≡ 0 → Makes j p G H n' x' y' m' r' s' → m'.refusal ≡ 0 → length x ≡ length x' → Rescales p G H i j r k r₁ → (k ≡ 0) × (r₁ ≡ r')
unit_turned {p} {i} {j} {n} {n'} {k} {G} {H} {x} {y} {x'} {y'} {r} {s} {r'} {s'} {r₁} m m' h z h' z' e t =
    let A = unit_accepted i p n G H x y r s m h z in
    let (k₁, c, l, d, b, u) = unit_made i p n G H x y r s m h z in
    let (k₂, c', l', d', b', u') = unit_made j p n' G H x' y' r' s' m' h' z' in
    let w : length x ≡ 6 * c = b.six.whole in
    let w' : length x' ≡ 6 * c' = b'.six.whole in
    let same : c' ≡ c = omega arith in
    let zero : k ≡ 0 = rows_accepted k₁ k₂ b.named b'.named A (holds_rows b.six.room u.rows_hold) t in
    (zero, rows_unique A c r₁ r' (rescales_holds t zero k₁ k₂ b.named b'.named u.rows_hold) (subst (λ q. Holds k₂ p G H l' d' q r') same u'.rows_hold))

-- ---- the table of `rescale`
module _ (i j p : ℕ) (G H rows : List ℕ) where
  abbrev At : ℕ → Type 0
  At = RescaleTabled i j p G H rows

  at_refused : (k : ℕ) → Refusal p G H k → 1 ≤ k → k ≤ 8 → At k
  at_refused k r lo hi = record {
    field = field_refused p G H k r;
    out_of_rule = neither (λ e. omega arith) (λ c. never p G H k r lo c.0);
    passes = neither (λ e. omega arith) (λ c. never p G H k r lo c.0);
    only = inl hi;
  }

  at_out : Accepted p G H → (Fits i j p G H rows → ⊥) → At 14
  at_out A f = record {
    field = field_passed p G H 14 A (λ k lo hi e. omega arith);
    out_of_rule = both refl (A, f);
    passes = neither (λ e. omega arith) (λ c. f c.1);
    only = inr refl;
  }

  at_turned : Accepted p G H → Fits i j p G H rows → At 0
  at_turned A t = record {
    field = field_passed p G H 0 A (λ k lo hi e. omega arith);
    out_of_rule = neither (λ e. omega arith) (λ c. c.1 t);
    passes = both refl (A, t);
    only = inl (omega arith);
  }

  tabled : {n : ℕ} {rows' : List ℕ} → Rescales p G H i j rows n rows' → At n
  tabled {n} {rows'} = door_tabled p G H At (λ k r. r.number) at_refused goes
    where
      goes : Accepted p G H → Goes p G H i j rows n rows' → At n
      goes A (unfit a r) = subst At (sym r.number) (at_out A (λ (k, k', c, e, e', s). a k k' c e e' s))
      goes A (turned k k' c e e' s z t) = subst At (sym z) (at_turned A (k, k', c, e, e', s))

one_answer : {p i j n : ℕ} {G H x y r s r' s' : List ℕ} (k k' : Convention) → number k ≡ i → number k' ≡ j → (m m' : UnitAnswer) →
    Makes i p G H n x y m r s → Makes j p G H n x y m' r' s' → (m ≡ m') × (s ≡ s')
one_answer {p} {i} {j} {n} {G} {H} {x} {y} {r} {s} {r'} {s'} k k' e e' m m' h h' =
    let a = makes_alike i j p G H n x y (λ _ _. (k', e')) (λ _ _. (k, e)) m m' r r' s s' h h' in
    (λ t. record { refusal = a.number_same t; period = record { 0 = a.period_same t }; regulator = record { 0 = a.regulator_same t } }, a.scratch_alike)

pub conventions : Conventions
conventions = record {
  one_scaling = λ A k u. positive_scaling (setting A) (cubes A) k u;
  one_unit = λ A B₀ st c k. closing_unit A B₀ st c k;
  tabled = λ x. tabled _ _ _ _ _ _ x;
  turns = λ x z. let d = done x z in record {
    field = d.field;
    from = d.k;
    to = d.k';
    from_is = d.from;
    to_is = d.to;
    c = d.c;
    before = d.before;
    after = turned_rows d.before d.over;
    same = d.over;
  };
  there_and_back = λ x z y. rescales_back x z y;
  one_answer = one_answer;
  unit_turned = unit_turned;
}
