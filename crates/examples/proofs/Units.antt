-- The lines of units.
--   finds_of            from the order the chain closes
--   unit_sound, norm_sound, narrow_sound
use mathlib.Core.Path.{◌≡◌, refl, sym, ap, ◌∙◌, subst}
use mathlib.Core.Bool.{true}
use mathlib.Core.List.{List, [], ◌∷◌}
use Prim.Native.Nat.{ℕ, ◌+◌, ◌*◌, ◌/◌, ◌<◌, ◌≤◌}
use native.Mathlib.Omega.{arith}
use native.Mathlib.Decide.{dec_lt}
use lib.Dec.{T, leb, eqb→eq, ltb→lt, leb→le}
use lib.ListN.{length, get_or, replicate, get_or-eq_default}
use Rattle.math_triple.specs.Tri.{Tri, norm_t}
use Rattle.math_fp.proofs.Trial.{and_l, and_r}
use Rattle.field_open.specs.Refusal.{Accepted}
use Rattle.field_open.proofs.Accept.{accepted_none}
use Rattle.math_ideals.specs.Element.{norm}
use Rattle.math_ideals.specs.Ideal.{Basis}
use Rattle.math_ideals.specs.Next.{Start}
use Rattle.math_chain.specs.Chain.{Closing}
use Rattle.math_chain.specs.Convention.{Convention, e0_monic, number}
use Rattle.math_chain.specs.Unit.{UnitOf}
use Rattle.math_chain.proofs.Closing.{start_unique}
use Rattle.basis_record.specs.Record.{setting}
use Rattle.base_answers.specs.Limits.{most}
use Rattle.field_open.proofs.Door.{door_goes}
use Rattle.door_unit.specs.Unit as unitAnswer
use Rattle.door_unit.specs.Unit.{Lent, Finds, Makes, Goes, UnitAnswer}
use Rattle.unit_finish.specs.Rows as unitRows
use Rattle.unit_finish.specs.Rows.{six}
use Rattle.door_unit.proofs.Once.{Same, makes_unique}
use Rattle.examples_lists.specs.Lists.{lists, alike}
use Rattle.examples_lists.proofs.Meaning.{poly_alike, el, el_alike}
use Rattle.examples_tests.specs.Rows.{Rows}
use Rattle.examples_tests.specs.Tests.{every}
use Rattle.examples_tests.specs.Walks.{total, unclosed, walks, is_unit}
use Rattle.examples_tests.proofs.Fields.{every_at, below_sound}
use Rattle.examples_tests.proofs.Bases.{basis_l, norm_is}
use Rattle.examples_tests.proofs.Chains.{closing_of, start_of, unit_of}
use Rattle.examples_table.specs.Lines.{Input, six_rows, unit, unit_norm, narrow}
use Rattle.examples_table.specs.Decide.{Hints, closed, from_order, rows_at, is_six, makes, decide}
use Rattle.examples.specs.Lines.{Only, Outcome, made, Holds}
use Rattle.examples.proofs.Records.{field_of}

-- an outcome is the only one
only : (i : ℕ) (k : Input) (n : ℕ) (rows scratch : List ℕ) (m : UnitAnswer) (rows' scratch' : List ℕ) → Makes i k.p k.G k.H n rows scratch m rows' scratch'
    → Only {A = Outcome} (λ o. Makes i k.p k.G k.H n rows scratch o.0 o.1 o.2) (m, rows', scratch')
only i k n rows scratch m rows' scratch' h = record {
  meets = h;
  alone = λ o u.
      let e : Same o.0 m o.1 rows' o.2 scratch' = makes_unique i k.p k.G k.H n rows scratch o.0 m o.1 rows' o.2 scratch' u h in
      λ j. (record { refusal = e.number j; period = record { 0 = e.period j }; regulator = record { 0 = e.regulator j } }, e.rows_same j, e.scratch_same j);
}

module _ (k : Input) (h : Hints) where
  -- ---- the walk from the order
  module _ (c l : ℕ) (t : T (every (from_order k h c l))) where
    q : (i : ℕ) → T (get_or (from_order k h c l) i true)
    q = every_at (from_order k h c l) t

    -- the order has one basis
    start_is : (A : Accepted k.p k.G k.H) (B₀ : Basis (setting A)) → Start (setting A) B₀ → basis_l A h.start ≡ B₀
    start_is A B₀ st = start_unique (setting A) (basis_l A h.start) B₀ (start_of A h.r h.w h.start (q 2) (q 3)) st

    closing_is : (A : Accepted k.p k.G k.H) → (B : Basis (setting A)) × Closing (setting A) (basis_l A h.start) (length h.passed) (total h.start h.passed) B
    closing_is A = go h.passed (q 4) (q 5)
      where
        go : (cs : List Rows) → T (walks k.p k.G k.H h.r h.w h.start cs) → T (closed k.p cs) → (B : Basis (setting A)) × Closing (setting A) (basis_l A h.start) (length cs) (total h.start cs) B
        go [] w o = absurd o
        go (b ∷ cs) w o = (basis_l A b, closing_of A h.r h.w h.start (q 2) b cs w (and_l (unclosed k.p cs) (alike k.p b.U (1 ∷ [])) o) (and_r (unclosed k.p cs) (alike k.p b.U (1 ∷ [])) o))

    finds_of : Finds k.p k.G k.H (length h.passed) (total h.start h.passed)
    finds_of A B₀ st = subst (λ x. (B : Basis (setting A)) × Closing (setting A) x (length h.passed) (total h.start h.passed) B) (start_is A B₀ st) (closing_is A)

    lent_of : (by : Convention) (n : ℕ) → n ≤ most → (rows scratch : List ℕ) → length rows ≡ 6 * c → length scratch ≡ 6 * c → Lent (number by) by c rows scratch n
    lent_of by n b rows scratch e f = record { named = refl; six = record { room = leb→le c 4096 (q 1); whole = e }; even = f ∙ sym e; budget = b }

    -- the whole answer, once the case is known
    answer_of_lem : (i n : ℕ) (rows scratch : List ℕ) (m : UnitAnswer) (rows' scratch' : List ℕ) → Goes i k.p k.G k.H n rows scratch m rows' scratch' → Makes i k.p k.G k.H n rows scratch m rows' scratch'
    answer_of_lem i n rows scratch m rows' scratch' g = door_goes (accepted_none k.p k.G k.H (field_of k h (q 0))) refl g

  -- ---- the unit
  module _ (by : Convention) (c l e : ℕ) (E F : Tri (List ℕ)) (t : T (every (makes k h by c l e E F))) where
    s : (i : ℕ) → T (get_or (makes k h by c l e E F) i true)
    s = every_at (makes k h by c l e E F) t

    six_at : (i : ℕ) → T (get_or (is_six k h c E F (six_rows c E F)) i true)
    six_at = every_at (is_six k h c E F (six_rows c E F)) (s 4)

    six_E : (A : Accepted k.p k.G k.H) → six A c 0 (six_rows c E F) ≡ el k.p A.prime E
    six_E A = el_alike k.p A.prime (rows_at k h c 0 (six_rows c E F)) E (six_at 2)

    six_F : (A : Accepted k.p k.G k.H) → six A c (c + c + c) (six_rows c E F) ≡ el k.p A.prime F
    six_F A = el_alike k.p A.prime (rows_at k h c (c + c + c) (six_rows c E F)) F (six_at 3)

    unit_is : (A : Accepted k.p k.G k.H) → UnitOf (setting A) by (basis_l A h.start) (length h.passed) (total h.start h.passed) (el k.p A.prime E) (el k.p A.prime F)
    unit_is A = go h.passed (q c l (s 0) 4) (q c l (s 0) 5) (s 3)
      where
        go : (cs : List Rows) → T (walks k.p k.G k.H h.r h.w h.start cs) → T (closed k.p cs) → T (every (is_unit k.p k.G k.H by h.start cs E F))
            → UnitOf (setting A) by (basis_l A h.start) (length cs) (total h.start cs) (el k.p A.prime E) (el k.p A.prime F)
        go [] w o u = absurd o
        go (b ∷ cs) w o u = unit_of A h.r h.w h.start (q c l (s 0) 2) by b cs (q c l (s 0) 3) w (and_l (unclosed k.p cs) (alike k.p b.U (1 ∷ [])) o) (and_r (unclosed k.p cs) (alike k.p b.U (1 ∷ [])) o) E F u

    below_six : (i : ℕ) → get_or (six_rows c E F) i 0 < k.p
    below_six i = elim (dec_lt i (length (six_rows c E F))) [
      | yes u ↦ below_sound k.p (six_rows c E F) (six_at 1) i u
      | no u ↦ let z : get_or (six_rows c E F) i 0 ≡ 0 = get_or-eq_default (six_rows c E F) 0 {n = i} (omega arith) in omega (arith, (field_of k h (q c l (s 0) 0)).low)
    ]

    rows_hold : unitRows.Holds by k.p k.G k.H (length h.passed) (total h.start h.passed) c (six_rows c E F)
    rows_hold = record {
      whole = eqb→eq (length (six_rows c E F)) (6 * c) (six_at 0);
      each = below_six;
      unit = λ A B₀ st.
          subst (λ x. UnitOf (setting A) by x (length h.passed) (total h.start h.passed) (six A c 0 (six_rows c E F)) (six A c (c + c + c) (six_rows c E F))) (start_is c l (s 0) A B₀ st)
          (subst (λ x. UnitOf (setting A) by (basis_l A h.start) (length h.passed) (total h.start h.passed) x (six A c (c + c + c) (six_rows c E F))) (sym (six_E A))
          (subst (UnitOf (setting A) by (basis_l A h.start) (length h.passed) (total h.start h.passed) (el k.p A.prime E)) (sym (six_F A)) (unit_is A)));
    }

    -- the line's own outcome, and every other
    made_only : Holds (unit by k c l e E F)
    made_only n u b rows scratch er es =
        let p : length h.passed ≡ l = eqb→eq (length h.passed) l (q c l (s 0) 6) in
        let m : Makes (number by) k.p k.G k.H n rows scratch (made l e) (six_rows c E F) (replicate (6 * c) 0) =
        answer_of_lem c l (s 0) (number by) n rows scratch (made l e) (six_rows c E F) (replicate (6 * c) 0)
        (unitAnswer.made by c (length h.passed) (total h.start h.passed) (lent_of c l (s 0) by n b rows scratch er es) (omega arith) (finds_of c l (s 0))
        (ltb→lt (total h.start h.passed) c (s 2))
        (record { number = refl; period = sym p; regulator = eqb→eq (e + e) (total h.start h.passed) (s 1); rows_hold = rows_hold; scratch_blank = ap (λ i. replicate i 0) (sym es) })) in
        only (number by) k n rows scratch (made l e) (six_rows c E F) (replicate (6 * c) 0) m

  pub unit_sound : (by : Convention) (c l e : ℕ) (E F : Tri (List ℕ)) → T (decide (unit by k c l e E F) h) → Holds (unit by k c l e E F)
  unit_sound by c l e E F t = made_only by c l e E F t

  pub norm_sound : (c l : ℕ) (N : List ℕ) → T (decide (unit_norm k c l N) h) → Holds (unit_norm k c l N)
  norm_sound c l N t n u b rows scratch er es o m A =
      let e : ℕ = total h.start h.passed / 2 in
      let E : Tri (List ℕ) = h.E in
      let a : T (every (makes k h e0_monic c l e E h.F)) = and_l (every (makes k h e0_monic c l e E h.F)) _ t in
      let z : T (alike k.p (norm_t (lists k.p) k.G k.H E) N) = and_l (alike k.p (norm_t (lists k.p) k.G k.H E) N) _ (and_r (every (makes k h e0_monic c l e E h.F)) _ t) in
      ap (λ x. norm (setting A) (six A c 0 x.1)) ((made_only e0_monic c l e E h.F a n u b rows scratch er es).alone o m)
      ∙ ap (norm (setting A)) (six_E e0_monic c l e E h.F a A) ∙ sym (norm_is A E)
      ∙ poly_alike k.p A.prime (norm_t (lists k.p) k.G k.H E) N z

  pub narrow_sound : (c l : ℕ) → T (decide (narrow k c l) h) → Holds (narrow k c l)
  narrow_sound c l t n u b rows scratch er es =
      let a : T (every (from_order k h c l)) = and_l (every (from_order k h c l)) _ t in
      let z : T (leb c (total h.start h.passed)) = and_l (leb c (total h.start h.passed)) _ (and_r (every (from_order k h c l)) _ t) in
      let p : length h.passed ≡ l = eqb→eq (length h.passed) l (q c l a 6) in
      only 1 k n rows scratch (unitAnswer.refusal 11) rows scratch
      (answer_of_lem c l a 1 n rows scratch (unitAnswer.refusal 11) rows scratch
      (unitAnswer.narrow e0_monic c (length h.passed) (total h.start h.passed) (lent_of c l a e0_monic n b rows scratch er es) (omega arith) (finds_of c l a) (leb→le c (total h.start h.passed) z)
      (record { answer = refl; rows_same = refl; scratch_same = refl })))
