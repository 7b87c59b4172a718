-- The turns of the walk's loop: one step more, and then it closes or no count so far does.
use mathlib.Core.Path.{◌≡◌, refl, sym, ap, subst}
use mathlib.Core.Logic.{◌≢◌, inl, inr}
use mathlib.Core.Bool.{Bool, true, false}
use mathlib.Core.List.{List}
use Prim.Native.Nat.{ℕ, suc, ◌+◌, ◌*◌, ◌≤◌, ◌<◌}
use native.Mathlib.Omega.{arith}
use Rattle.math_ring.specs.Subring.{sub_path}
use Rattle.math_valued.specs.Val.{Valued}
use Rattle.math_valued.specs.Polynomial.{polys}
use Rattle.field_open.specs.Refusal.{Accepted}
use Rattle.math_chain.specs.Chain.{Chain, Closing, Open, here, then}
use Rattle.math_chain.proofs.Walk.{degree_of, degree_unique, open_none, closes, open_more}
use Rattle.basis_record.specs.Record.{setting, basis_of, IsRecord}
use Rattle.field_series.specs.Keeps.{Keeps}
use Rattle.step_next.specs.Steps.{Steps, Advanced}
use Rattle.step_next.specs.declared.StepTaken.{StepTaken}
use Rattle.walk_closed.specs.Closed.{IsClosedAsks, OnePart}
use Rattle.walk_chain.specs.Walk.{Reaches, Closes, StaysOpen, Closed, Spent}
use Rattle.base_answers.specs.Limits.{most}
use Rattle.walk_chain.specs.Going.{WalkOnRowsAsks, Gone, Going}

-- U = 1, of numbers and of polynomials
module _ {p : ℕ} {G H : List ℕ} (A : Accepted p G H) (b : List ℕ) where
  U_one : OnePart p b true → (basis_of A b).U ≡ (polys (setting A).𝓥).ops.𝟏
  U_one e = sub_path (setting A).𝓥.L (setting A).𝓥.IsPoly (setting A).𝓥.closed {x = (basis_of A b).U} {y = (polys (setting A).𝓥).ops.𝟏} (e A.prime)

  U_other : OnePart p b false → (basis_of A b).U ≢ (polys (setting A).𝓥).ops.𝟏
  U_other f e = f A.prime (ap (λ x. x.0) e)

pub closed_in : (p : ℕ) (G H b : List ℕ) → IsRecord p G H b → IsClosedAsks p b
closed_in p G H b h = record { size = h.size; each = h.each }

-- one step more
module _ (p : ℕ) (G H B b : List ℕ) (s d : ℕ) (reaches : Reaches p G H B s d b) (o : StepTaken) (step : Steps p G H b o) where
  pub reaches_more : Reaches p G H B (suc s) (d + o.degree) o.basis
  reaches_more = record {
    is_a_record = step.is_a_record;
    chain = λ A. then o.degree (basis_of A o.basis) (reaches.chain A) (step.degree A) (step.next A) (step.is_a_record.good A);
  }

  -- a step passes a degree of at most 16
  pub degree_small : Accepted p G H → o.degree ≤ 16
  degree_small A =
      let (n, deg, l, k) = degree_of (setting A) (basis_of A b) (reaches.is_a_record.good A) in
      let e : n ≡ o.degree = degree_unique (setting A) (basis_of A b) deg (step.degree A) in
      let q : A.deg_g + A.deg_h ≤ 16 = A.sum in
      omega arith

module _ (p : ℕ) (g h gh : List ℕ) (dr dw : ℕ) (r w B : List ℕ) (budget : ℕ) where
  pub going_start : Going p g h gh dr dw r w B budget B 0 0
  going_start = record {
    upto = omega arith;
    small = omega arith;
    reaches = λ G H k is. record { is_a_record = is; chain = λ A. here };
    free = λ G H k is A. open_none (setting A) (basis_of A B);
  }

  module _ (i : WalkOnRowsAsks p g h gh dr dw r w B budget) (b : List ℕ) (s d : ℕ) (st : Going p g h gh dr dw r w B budget b s d) where
    pub record_at : IsRecord p i.G i.H b
    record_at = (st.reaches i.G i.H i.keeps i.is_a_record).is_a_record

    -- the budget is spent
    pub gone_spent : s ≡ budget → Gone p g h gh dr dw r w B budget (record { refusal = 10; steps = budget; sum = d; basis = b })
    gone_spent e G H k is = inr (record {
      number = refl;
      all = refl;
      none = subst (λ m. StaysOpen p G H B m) e (st.free G H k is);
      reaches = subst (λ m. Reaches p G H B m d b) e (st.reaches G H k is);
    })

    module _ (o : StepTaken) (adv : Advanced p g h gh dr dw r w b o) where
      more : (G H : List ℕ) → Keeps p G H g h gh dr dw r w → IsRecord p G H B → Reaches p G H B (suc s) (d + o.degree) o.basis
      more G H k is = reaches_more p G H B b s d (st.reaches G H k is) o (adv G H k (st.reaches G H k is).is_a_record)

      pub degree_at : o.degree ≤ 16
      degree_at = degree_small p i.G i.H B b s d (st.reaches i.G i.H i.keeps i.is_a_record) o (adv i.G i.H i.keeps record_at) i.keeps.accepted

      pub closed_at : IsClosedAsks p o.basis
      closed_at = closed_in p i.G i.H o.basis (adv i.G i.H i.keeps record_at).is_a_record

      -- it closes
      pub gone_closed : s < budget → (s' d' : ℕ) → s' ≡ suc s → d' ≡ d + o.degree → OnePart p o.basis true → Gone p g h gh dr dw r w B budget (record { refusal = 0; steps = s'; sum = d'; basis = o.basis })
      gone_closed l s' d' e f one G H k is = inl (record {
        within = omega arith;
        number = refl;
        closes = record {
          is_a_record = (more G H k is).is_a_record;
          closing = λ A. subst (λ m. Closing (setting A) (basis_of A B) m d' (basis_of A o.basis)) (sym e)
              (subst (λ m. Closing (setting A) (basis_of A B) (suc s) m (basis_of A o.basis)) (sym f)
              (closes (setting A) (basis_of A B) (st.free G H k is A) ((more G H k is).chain A) (U_one A o.basis one)));
        };
      })

      -- it goes on
      pub going_more : s < budget → (s' d' : ℕ) → s' ≡ suc s → d' ≡ d + o.degree → OnePart p o.basis false → Going p g h gh dr dw r w B budget o.basis s' d'
      going_more l s' d' e f other =
          let q : o.degree ≤ 16 = degree_at in
          let t : d ≤ 16 * s = st.small in record {
            upto = omega arith;
            small = omega arith;
            reaches = λ G H k is. subst (λ m. Reaches p G H B m d' o.basis) (sym e) (subst (λ m. Reaches p G H B (suc s) m o.basis) (sym f) (more G H k is));
            free = λ G H k is. subst (λ m. StaysOpen p G H B m) (sym e) (λ A. open_more (setting A) (basis_of A B) (is.good A) (st.free G H k is A) ((more G H k is).chain A) (U_other A o.basis other));
          }
