-- Rows turned from one convention to another.
--   holds_unit       the unit of a closing chain is a unit of positive degree
--   turned_unit      what comes out is a unit of positive degree
--   turned_unique    the rows, the field and the convention settle it
--   turned_holds     the unit of a closing chain is turned into that of the other convention
--   turned_back      what was scaled by k is what comes out of it, scaled by k again
--   turned_scaled    what comes out is scaled
use mathlib.Core.Path.{◌≡◌, sym, ap, ◌∙◌, subst}
use mathlib.Core.List.{List, [], ◌∷◌}
use Prim.Native.Nat.{ℕ, ◌+◌}
use Rattle.math_ring.proofs.Solve.{var, hyp, one, ◌:*◌, solve_by}
use Rattle.math_valued.specs.Polynomial.{polys}
use Rattle.math_valued.proofs.Degree.{has_eq}
use Rattle.math_valued.proofs.Compare.{has_scale}
use Rattle.math_valued.proofs.Polynomial.{unit_const}
use Rattle.field_open.specs.Refusal.{Accepted}
use Rattle.math_ideals.specs.Element.{O, sc, ev}
use Rattle.math_ideals.proofs.Sizes.{ev_sc}
use Rattle.math_ideals.proofs.Lattice.{sc_mul}
use Rattle.math_chain.specs.Convention.{Convention, Scaled}
use Rattle.math_chain.specs.Unit.{UnitOf}
use Rattle.math_chain.proofs.Exists.{order_exists}
use Rattle.math_chain.proofs.Scaling.{scale_unique}
use Rattle.math_chain.proofs.Unit.{inverse_unique, unit_positive, unit_rescaled, positive_weight}
use Rattle.basis_record.specs.Record.{setting}
use Rattle.unit_finish.specs.Rows.{six, Holds, HoldsUnit}
use Rattle.unit_finish.proofs.Rows.{same_rows}
use Rattle.unit_scale.specs.Scale.{Turned}

module _ {p : ℕ} {G H : List ℕ} where
  pub holds_unit : {k : Convention} {l d c : ℕ} {rows : List ℕ} → Holds k p G H l d c rows → HoldsUnit p G H c rows
  holds_unit h = record { whole = h.whole; each = h.each; unit = λ A. let (B₀, st) = order_exists (setting A) in unit_positive (setting A) B₀ st (h.unit A B₀ st) }

  pub turned_unit : {k : Convention} {c : ℕ} {rows rows' : List ℕ} → HoldsUnit p G H c rows → Turned k p G H c rows rows' → HoldsUnit p G H c rows'
  turned_unit {c = c} {rows = rows} h t = record {
    whole = t.size ∙ h.whole;
    each = t.each;
    unit = λ A.
        let S = setting A in let u = h.unit A in let o = t.over A in
        record {
          inverse = o.inverse;
          degree = u.degree;
          has = has_eq S.𝓥 (has_scale S.𝓥 (unit_const S.𝓥 o.by o.is_a_unit) u.has) (sym (ap (ev S) o.times ∙ ev_sc S o.by (six A c 0 rows)));
          positive = u.positive;
        };
  }

  pub turned_unique : (A : Accepted p G H) {k : Convention} {c : ℕ} {rows x y : List ℕ} → HoldsUnit p G H c rows → Turned k p G H c rows x → Turned k p G H c rows y → x ≡ y
  turned_unique A {k} {c} {rows} {x} {y} h s t =
      let S = setting A in let o = s.over A in let q = t.over A in
      let (e, w) = positive_weight S k (h.unit A) in
      let same : o.by ≡ q.by = scale_unique S k (six A c 0 rows) o.by q.by w o.is_a_unit q.is_a_unit (subst (Scaled S k) o.times o.scaled) (subst (Scaled S k) q.times q.scaled) in
      let first : six A c 0 x ≡ six A c 0 y = o.times ∙ ap (λ z. (O S).ops.mul (sc S z) (six A c 0 rows)) same ∙ sym q.times in
      same_rows A c x y (s.size ∙ h.whole) (t.size ∙ h.whole) s.each t.each first
      (inverse_unique S (six A c 0 x) (six A c (c + c + c) x) o.inverse (six A c (c + c + c) y) (ap (λ z. (O S).ops.mul z (six A c (c + c + c) y)) first ∙ q.inverse))

  pub turned_holds : {k k' : Convention} {l d c : ℕ} {rows rows' : List ℕ} → Holds k p G H l d c rows → Turned k' p G H c rows rows' → Holds k' p G H l d c rows'
  turned_holds {k} {k'} {l} {d} {c} {rows} {rows'} h t = record {
    whole = t.size ∙ h.whole;
    each = t.each;
    unit = λ A B₀ st.
        let S = setting A in let o = t.over A in
        subst (λ E. UnitOf S k' B₀ l d E (six A c (c + c + c) rows')) (sym o.times)
        (unit_rescaled S B₀ st k' o.by (six A c (c + c + c) rows') (h.unit A B₀ st) o.is_a_unit (subst (Scaled S k') o.times o.scaled)
        (ap (λ E. (O S).ops.mul E (six A c (c + c + c) rows')) (sym o.times) ∙ o.inverse));
  }

  pub turned_scaled : {k : Convention} {c : ℕ} {rows rows' : List ℕ} → Turned k p G H c rows rows' → (A : Accepted p G H) → Scaled (setting A) k (six A c 0 rows')
  turned_scaled t A = (t.over A).scaled

  pub turned_back : {k k' : Convention} {c : ℕ} {rows rows' : List ℕ} → HoldsUnit p G H c rows → ((A : Accepted p G H) → Scaled (setting A) k (six A c 0 rows)) → Turned k' p G H c rows rows' → Turned k p G H c rows' rows
  turned_back {k} {k'} {c} {rows} {rows'} h m t = record {
    size = sym t.size;
    each = h.each;
    over = λ A.
        let S = setting A in let o = t.over A in let (i, e) = o.is_a_unit in
        record {
          by = i;
          is_a_unit = (o.by, e ∙ (polys S.𝓥).laws.mul_comm o.by i);
          times = solve_by (O S) (var 1) (var 2 :* (var 0 :* var 1)) (hyp (var 1) one (var 0 :* var 2) ∷ []) tt (sc S o.by ∷ six A c 0 rows ∷ sc S i ∷ []) (ap (sc S) e ∙ sc_mul S o.by i, tt)
              ∙ ap (λ x. (O S).ops.mul (sc S i) x) (sym o.times);
          scaled = m A;
          inverse = (h.unit A).inverse;
        };
  }
