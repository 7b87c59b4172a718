-- One step more, and all of them: what `step_and_multiply` and the loop of `product` ask of their parts and hand out.
--   further_next, further_below, further_multiply, further_made   the parts of `step_and_multiply`
--   Stepping          the state of the loop: after i steps, with the record b and the degree sum d
--   stepping_start, stepping_further, stepping_below, stepping_more, stepping_end   its turns
use mathlib.Core.Path.{◌≡◌, refl, sym, ap, ◌∙◌, subst}
use mathlib.Core.List.{List}
use Prim.Native.Nat.{ℕ, suc, ◌+◌, ◌-◌, ◌<◌, ◌≤◌}
use native.Mathlib.Omega.{arith}
use lib.ListN.{length, replicate, length-replicate}
use Rattle.base_answers.specs.Limits.{longest}
use Rattle.field_series.specs.declared.OpenedField.{OpenedField}
use Rattle.step_next.specs.Steps.{Steps}
use Rattle.step_next.specs.declared.StepTaken.{StepTaken}
use Rattle.step_next.specs.InField.{StepInFieldAsks, StepInFieldGives}
use Rattle.unit_finish.specs.Finish.{Along}
use Rattle.unit_make.specs.Making.{Blank, MultipliedAsks, Multiplies, StepAndMultiplyAsks, Further, ProductAsks, ProductOf}
use Rattle.unit_make.proofs.Passing.{stays_below, step_below, along_more, along_end}

-- zeros as long as another list
pub blank_as : (s₀ s : List ℕ) → s ≡ replicate (length s₀) 0 → Blank s × (length s ≡ length s₀)
blank_as s₀ s e =
    let l : length s ≡ length s₀ = ap length e ∙ length-replicate (length s₀) 0 in
    (e ∙ ap (λ k. replicate k 0) (sym l), l)

module _ (f : OpenedField) (c d : ℕ) (b rows s : List ℕ) where
  module _ (t : StepAndMultiplyAsks f c d b rows s) where
    pub further_next : StepInFieldAsks f b
    further_next = record { G = t.task.known.G; H = t.task.known.H; keeps = t.task.known.kept; is_a_record = t.along.is_a_record }

    module _ (o : StepTaken) (out : StepInFieldGives f b o) where
      pub further_step : Steps f.field.p t.task.known.G t.task.known.H b o
      further_step = out t.task.known.G t.task.known.H t.task.known.kept t.along.is_a_record

      pub further_below : d + o.degree < c
      further_below =
          let l : d + o.degree ≤ t.all = step_below f.field.p t.task.known.G t.task.known.H t.B t.task.is_first c t.task.closes t.task.known.kept.accepted t.left t.along o further_step in
          let r : t.all < c = t.task.room in
          omega arith

      pub further_multiply : MultipliedAsks f c (d + o.degree + 1) b rows s
      further_multiply = let l : d + o.degree < c = further_below in record {
        known = t.task.known;
        is_a_record = t.along.is_a_record;
        space = record { most = t.task.most; whole = t.along.whole; even = t.even };
        upto = omega arith;
        blank = t.blank;
      }

  pub further_made : (o : StepTaken) → StepInFieldGives f b o → (rows' s' : List ℕ) → Multiplies f c (d + o.degree + 1) b rows s rows' s' → Further f c d b rows s o rows' s'
  further_made o out rows' s' m = record {
    size = m.size;
    blank = m.blank;
    goes = λ t. let k = t.task.known in
        along_more f.field.p k.G k.H t.B t.task.is_first c t.along o (further_step t o out) rows' m.size
        m.each m.rest (λ A. m.law k.G k.H A k.kept);
  }

module _ (f : OpenedField) (c : ℕ) (B : List ℕ) (l : ℕ) (rows₀ s₀ : List ℕ) where
  pub record Stepping (b : List ℕ) (d i : ℕ) (rows s : List ℕ) : Type 0 where
    pub upto : i ≤ l
    pub size : length rows ≡ length rows₀
    pub blank : s ≡ replicate (length s₀) 0
    pub goes : (t : ProductAsks f c B l rows₀ s₀) → Along f.field.p t.task.known.G t.task.known.H B c i d b rows

  pub stepping_start : Blank s₀ → Stepping B 0 0 rows₀ s₀
  stepping_start e = record { upto = omega arith; size = refl; blank = e; goes = λ t. t.along }

  module _ (b : List ℕ) (d i : ℕ) (rows s : List ℕ) (st : Stepping b d i rows s) where
    pub stepping_end : i ≡ l → ProductOf f c B l rows₀ s₀ rows s
    stepping_end e = record {
      size = st.size;
      blank = st.blank;
      goes = λ t. let k = t.task.known in
          along_end f.field.p k.G k.H B t.task.is_first c t.task.closes k.kept.accepted (subst (λ j. Along f.field.p k.G k.H B c j d b rows) e (st.goes t));
    }

    module _ (u : i < l) where
      pub stepping_further : ProductAsks f c B l rows₀ s₀ → StepAndMultiplyAsks f c d b rows s
      stepping_further t = let (x, y) = blank_as s₀ s st.blank in record {
        B = B;
        l = l;
        all = t.d;
        task = t.task;
        i = i;
        left = u;
        along = st.goes t;
        even = y ∙ t.even ∙ sym st.size;
        blank = x;
      }

      pub stepping_below : ProductAsks f c B l rows₀ s₀ → (o : StepTaken) (rows' s' : List ℕ) → Further f c d b rows s o rows' s' → d + o.degree ≤ longest
      unfolding stepping_further
      stepping_below t o rows' s' g =
          let k = t.task.known in
          let n : d + o.degree ≤ t.d = stays_below f.field.p k.G k.H B t.task.is_first c t.task.closes k.kept.accepted u (g.goes (stepping_further t)) in
          let r : t.d < c = t.task.room in
          let m : c ≤ longest = t.task.most in
          omega arith

      pub stepping_more : (o : StepTaken) (rows' s' : List ℕ) → Further f c d b rows s o rows' s' → (i' : ℕ) → i' ≡ suc i → Stepping o.basis (d + o.degree) i' rows' s'
      unfolding stepping_further
      stepping_more o rows' s' g i' e = subst (λ j. Stepping o.basis (d + o.degree) j rows' s') (sym e) (record {
        upto = omega arith;
        size = g.size ∙ st.size;
        blank = g.blank ∙ ap (λ k. replicate k 0) (blank_as s₀ s st.blank).1;
        goes = λ t. g.goes (stepping_further t);
      })
