-- The unit that `unit` made, by convention 1, is a body of the book: its rows obey the body rule, and its norm is a constant.
--   unit_sizes      E0 has the degree of the unit, an even number from 2 on; E1 and E2 are not 0; the norm is a constant
--   row_list        a row that is not 0, without the zeros at its end, is a list of coefficients of its degree
--   unit_bookable   the body of the unit can be written and attested
use mathlib.Core.Path.{◌≡◌, sym, ap, ◌∙◌, subst}
use mathlib.Core.Logic.{◌⊎◌, inl, inr}
use mathlib.Core.List.{List}
use Prim.Native.Nat.{ℕ, zero, suc, ◌≤◌, ◌<◌}
use Prim.Native.Nat as N
use native.Mathlib.Omega.{arith}
use native.Mathlib.Decide.{dec_lt}
use lib.ListN.{length, get_or}
use lib.Seq.{get_or-take}
use Rattle.base_lists.specs.Pieces.{cut}
use Rattle.base_lists.specs.Coefficients.{Size, trim}
use Rattle.base_lists.proofs.Tabs.{past_tab}
use Rattle.base_lists.proofs.Pieces.{length_cut, cut_at}
use Rattle.base_lists.proofs.Trims.{sized, trim_size, trim_length, trim_last}
use Rattle.base_answers.specs.Said.{Said, passed, refused}
use Rattle.math_ring.proofs.Laws as rg
use Rattle.math_ring.proofs.Solve.{one, minus, ◌:+◌, ◌:*◌, ◌:=◌, ring₂}
use Rattle.math_triple.specs.Tri.{norm_t}
use Rattle.math_fp.specs.Fp.{Prime}
use Rattle.math_valued.specs.Val.{Valued}
use Rattle.math_valued.specs.Degree.{Has, Leads}
use Rattle.math_valued.proofs.Degree as d
use Rattle.math_valued.proofs.Compare.{has_scale, has_unscale, leads_unique}
use Rattle.math_valued.proofs.Polynomial.{view, not_zero, const_path, unit_const}
use Rattle.math_rows.specs.Made.{reading}
use Rattle.math_rows.specs.Row.{row}
use Rattle.math_rows.proofs.Rows.{size_lead}
use Rattle.math_rows.proofs.Floors.{zero_row}
use Rattle.math_rows.proofs.Trims.{trim_row}
use Rattle.math_rows.proofs.Unique.{cast_inj}
use Rattle.math_ideals.specs.Setting.{Setting, P}
use Rattle.math_ideals.specs.Element.{O, X, Z, norm}
use Rattle.math_ideals.specs.Ideal.{Basis}
use Rattle.math_ideals.specs.Next.{Start}
use Rattle.math_ideals.proofs.Sizes.{ev_xz, two_b, two_c}
use Rattle.math_ideals.proofs.Form.{has_two, has_three}
use Rattle.math_chain.specs.Convention.{Convention, e0_monic}
use Rattle.math_chain.specs.Unit.{UnitOf}
use Rattle.math_chain.proofs.Unit.{norm_unit, large, closing_pos, unit_degree}
use Rattle.math_chain.proofs.Exists.{order_exists}
use Rattle.math_chain.proofs.Scaling.{named_one}
use Rattle.field_open.specs.Refusal.{Accepted}
use Rattle.field_open.proofs.Stages.{refusal_unique}
use Rattle.field_open.proofs.Accept.{accepted_none, with_prime}
use Rattle.field_open.proofs.Door.{door_out}
use Rattle.basis_record.specs.Record.{setting}
use Rattle.door_unit.specs.Unit.{UnitAnswer}
use Rattle.door_unit.specs.Unit as unit
use Rattle.door_unit.proofs.Once.{refused_number}
use Rattle.unit_finish.specs.Rows.{six, Holds}
use Rattle.book_body.specs.Body.{Body, UnitList, Rule, body_bytes}
use Rattle.book_write.specs.Write as write
use Rattle.book_check.specs.Book as book
use Rattle.book_attest.specs.Attest as attest
use Rattle.book_norm.specs.Attested as judged
use Rattle.demands_calls.specs.BookCalls.{unit_body, Bookable}
use Rattle.base_answers.proofs.Said.{number_of}

-- ---- the theory: E0, E1, E2 of a unit of positive degree
module _ (S : Setting) where
  open S use {𝓥}
  open S.roots use {r, w}
  open 𝓥 use {K, L, Lead}
  open L.ops use {add as ◌+◌, mul as ◌*◌, neg as -◌, 𝟎, 𝟏}

  infixl 60 ◌+◌
  infixl 70 ◌*◌
  infix 80 -◌
  pub record Sizes (E : (O S).El) (n : ℕ) : Type 0 where
    pub a : Has 𝓥 E.a.0 n
    pub b : (j : ℕ) × Has 𝓥 E.b.0 j
    pub c : (j : ℕ) × Has 𝓥 E.c.0 j
    pub half : ℕ
    pub even : n ≡ N.◌+◌ half half
    pub pos : 1 ≤ n
    pub constant : Has 𝓥 (norm S E).0 0

  -- a factor of what has a degree has one
  factor_has : (x : P S) {y : L.El} {m : ℕ} → Has 𝓥 (x.0 * y) m → (j : ℕ) × Has 𝓥 x.0 j
  factor_has x {y} h = elim (view 𝓥 x) [ inl z ↦ absurd (not_zero 𝓥 h (ap (λ t. t * y) z ∙ rg.zero_mul' L y)) | inr k ↦ k ]

  -- E1 r, E2 w and X are of the degree of E
  pub unit_sizes : (B₀ : Basis S) → Start S B₀ → {k : Convention} {l n : ℕ} {E F : (O S).El} → UnitOf S k B₀ l n E F → Sizes E n
  unit_sizes B₀ st {n = n} {E} {F} u =
      let (h_e, hA, h, e) = unit_degree S B₀ st u in
      let pos = closing_pos S B₀ st u.closing in
      let (y, z, _) = large S E F u.inverse h_e pos in
      let hX : Has 𝓥 (X S E) n = has_unscale 𝓥 (has_three S) (d.has_eq 𝓥 (d.has_lt 𝓥 (has_scale 𝓥 (has_two S) h_e) (d.lt_up 𝓥 n (d.lt_neg 𝓥 z) (omega arith)))
      (ap (λ t. t + - Z S E) (ev_xz S E) ∙ ring₂ L (λ x z. (one :+ one :+ one) :* x :+ z :+ minus z := (one :+ one :+ one) :* x) tt (X S E) (Z S E))) in
      record {
        a = hA;
        b = factor_has E.b (has_unscale 𝓥 (has_two S) (d.has_eq 𝓥 (d.has_lt 𝓥 hX (d.lt_up 𝓥 n y (omega arith))) (two_b S E)));
        c = factor_has E.c (has_unscale 𝓥 (has_two S) (d.has_eq 𝓥 (d.has_lt 𝓥 hX (d.lt_up 𝓥 n (d.lt_neg 𝓥 y) (omega arith))) (two_c S E)));
        half = h;
        even = e;
        pos = pos;
        constant = unit_const 𝓥 (norm S E) (norm_unit S E F u.inverse);
      }

-- ---- a row, trimmed
module _ (p : ℕ) (pr : Prime p) (x : List ℕ) (each : (i : ℕ) → get_or x i 0 < p) where
  abbrev 𝓥 : Valued
  𝓥 = (reading p pr).𝓥

  abbrev value : 𝓥.L.El
  value = row (reading p pr) x

  -- the number below the size is the leading coefficient
  top_has : (k : ℕ) → Size x (suc k) → Has 𝓥 value k
  top_has k s =
      let e : N.◌-◌ (suc k) 1 ≡ k = omega arith in (
        (reading p pr).cast (get_or x k 0),
        (λ z. s.top (omega arith) (ap (λ i. get_or x i 0) e ∙ (reading p pr).cast_small (get_or x k 0) (each k) z)),
        size_lead (reading p pr) s,
      )

  row_size : (j : ℕ) → Has 𝓥 value j → Size x (suc j)
  row_size j h = go (sized x)
    where
      go : (m : ℕ) × Size x m → Size x (suc j)
      go (zero, s) = absurd (not_zero 𝓥 h (zero_row (reading p pr) x s))
      go (suc k, s) = let e : k ≡ j = d.same 𝓥 (top_has k s) h in subst (λ i. Size x (suc i)) e s

  module _ (j : ℕ) (h : Has 𝓥 value j) where
    row_long : length (trim x) ≡ suc j
    row_long = trim_length x (suc j) (row_size j h)

    row_at : (i : ℕ) → i < suc j → get_or (trim x) i 0 ≡ get_or x i 0
    row_at i u = ap (λ z. get_or z i 0) (trim_size x (suc j) (row_size j h)) ∙ get_or-take (suc j) x i 0 u

    row_list : length x ≤ 4096 → UnitList p (trim x)
    row_list l =
        let n : length (trim x) ≡ suc j = row_long in
        let f : suc j ≤ length x = (row_size j h).fits in
        record {
          whole = omega arith;
          short = omega arith;
          each = λ i u. subst (λ z. z < p) (sym (row_at i (omega arith))) (each i);
          last = trim_last x (omega arith);
        }

    -- the leading coefficient is 1 where the polynomial is monic
    row_monic : 1 < p → Leads 𝓥 value 𝓥.K.ops.𝟏 → get_or (trim x) (N.◌-◌ (length (trim x)) 1) 0 ≡ 1
    unfolding top_has
    row_monic l m =
        let n : length (trim x) ≡ suc j = row_long in
        let e : N.◌-◌ (length (trim x)) 1 ≡ j = omega arith in
        let (a, ha, lead) = top_has j (row_size j h) in
        let c : (reading p pr).cast (get_or x j 0) ≡ 𝓥.K.ops.𝟏 = leads_unique 𝓥 (j, 0, ha, lead) m in
        ap (λ i. get_or (trim x) i 0) e ∙ row_at j (omega arith) ∙ cast_inj (reading p pr) (get_or x j 0) 1 (each j) l (c ∙ sym (reading p pr).cast_one)

cut_each : (p at c : ℕ) (l : List ℕ) → 0 < p → ((i : ℕ) → get_or l i 0 < p) → (i : ℕ) → get_or (cut at c l) i 0 < p
cut_each p at c l pos h i = elim (dec_lt i c) [
  | yes u ↦ subst (λ z. z < p) (sym (cut_at at c l i u)) (h (N.◌+◌ at i))
  | no u ↦ subst (λ z. z < p) (sym (past_tab c (λ i. get_or l (N.◌+◌ at i) 0) i (omega arith))) pos
]

-- ---- what the case of a unit that was made says
record Made (p : ℕ) (G H : List ℕ) (n c : ℕ) (m : UnitAnswer) (rows : List ℕ) : Type 0 where
  field : Accepted p G H
  room : c ≤ 4096
  some : 1 ≤ m.period.0
  within : m.period.0 ≤ 1000000
  each : (i : ℕ) → get_or rows i 0 < p
  degree : ℕ
  sizes : (A : Accepted p G H) → Sizes (setting A) (six A c 0 rows) degree
  monic : (A : Accepted p G H) → Leads (setting A).𝓥 (six A c 0 rows).a.0 (setting A).𝓥.K.ops.𝟏

made_of : {p n : ℕ} {G H rows scratch rows' scratch' : List ℕ} (m : UnitAnswer) → unit.Makes 1 p G H n rows scratch m rows' scratch' → m.refusal ≡ 0
    → (c : ℕ) → length rows' ≡ N.◌*◌ 6 c → Made p G H n c m rows'
made_of {p} {n} {G} {H} {rows} {scratch} {rows'} {scratch'} m h z c e = door_out (λ k f l r. let q = refused_number r in absurd (f (sym q ∙ z))) goes h
  where
    goes : Accepted p G H → unit.Goes 1 p G H n rows scratch m rows' scratch' → Made p G H n c m rows'
    goes A (unit.bad f r) = let k = refused_number r in absurd (omega arith)
    goes A (unit.spent v c b f r) = let k = refused_number r in absurd (omega arith)
    goes A (unit.narrow v c l d b s f g r) = let k = refused_number r in absurd (omega arith)
    goes A (unit.made v c₁ l d b s f g r) =
        let w : length rows' ≡ N.◌*◌ 6 c₁ = r.rows_hold.whole in
        let k : c₁ ≡ c = omega arith in
        let q : Holds e0_monic p G H l d c rows' = subst (λ x. Holds e0_monic p G H l d x rows') k (subst (λ x. Holds x p G H l d c₁ rows') (named_one v b.named) r.rows_hold) in
        let (B₀, st) = order_exists (setting A) in
        let a : 1 ≤ l = (q.unit A B₀ st).closing.some in
        let t : m.period.0 ≡ l = r.period in
        let y : n ≤ 1000000 = b.budget in
        let fit : c₁ ≤ 4096 = b.six.room in
        record {
          field = A;
          room = omega arith;
          some = omega arith;
          within = omega arith;
          each = q.each;
          degree = d;
          sizes = λ A. let (B₀, st) = order_exists (setting A) in unit_sizes (setting A) B₀ st (q.unit A B₀ st);
          monic = λ A. let (B₀, st) = order_exists (setting A) in (q.unit A B₀ st).scaled;
        }

module _ {p n : ℕ} {G H : List ℕ} (c : ℕ) (m : UnitAnswer) (rows : List ℕ) (t : Made p G H n c m rows) where
  abbrev b : Body
  b = unit_body p G H m c rows

  -- the three rows, where the theory's places are 0, 0 + c and 0 + c + c
  second : cut (N.◌+◌ 0 c) c rows ≡ cut c c rows
  second = ap (λ k. cut k c rows) (let e : N.◌+◌ 0 c ≡ c = omega arith in e)

  third : cut (N.◌+◌ (N.◌+◌ 0 c) c) c rows ≡ cut (N.◌+◌ c c) c rows
  third = ap (λ k. cut k c rows) (let e : N.◌+◌ (N.◌+◌ 0 c) c ≡ N.◌+◌ c c = omega arith in e)

  below : (at i : ℕ) → get_or (cut at c rows) i 0 < p
  below at = let l : 5 ≤ p = t.field.low in cut_each p at c rows (omega arith) t.each

  few : (at : ℕ) → length (cut at c rows) ≤ 4096
  few at = let e : length (cut at c rows) ≡ c = length_cut at c rows in let l : c ≤ 4096 = t.room in omega arith

  unit_rule : Rule b
  unit_rule =
      let A = t.field in
      let pr = A.prime in
      let s = t.sizes A in
      let (j, hb) = s.b in
      let (k, hc) = s.c in
      let low : 5 ≤ p = A.low in
      let n₀ : length (trim (cut 0 c rows)) ≡ suc t.degree = row_long p pr (cut 0 c rows) (below 0) t.degree s.a in
      let even : t.degree ≡ N.◌+◌ s.half s.half = s.even in
      let pos : 1 ≤ t.degree = s.pos in
      record {
        from = t.some;
        to = t.within;
        row0 = row_list p pr (cut 0 c rows) (below 0) t.degree s.a (few 0);
        row1 = row_list p pr (cut c c rows) (below c) j (subst (λ x. Has (setting A).𝓥 (row (reading p pr) x) j) second hb) (few c);
        row2 = row_list p pr (cut (N.◌+◌ c c) c rows) (below (N.◌+◌ c c)) k (subst (λ x. Has (setting A).𝓥 (row (reading p pr) x) k) third hc) (few (N.◌+◌ c c));
        first = record {
          monic = row_monic p pr (cut 0 c rows) (below 0) t.degree s.a (omega arith) (t.monic A);
          odd = omega arith;
          three = omega arith;
        };
      }

  -- the norm of three rows
  abbrev norm_of : (pr : Prime p) → (reading p pr).𝓥.L.El → (reading p pr).𝓥.L.El → (reading p pr).𝓥.L.El → (reading p pr).𝓥.L.El
  norm_of pr x y z = let ρ = reading p pr in norm_t ρ.𝓥.L.ops (row ρ G) (row ρ H) record { a = x; b = y; c = z }

  unit_attested : judged.Attested b
  unit_attested pr =
      let A = with_prime t.field pr in
      let ρ = reading p pr in
      let E = six A c 0 rows in
      let (k, hk, lead) = (t.sizes A).constant in (
        k,
        hk,
        ap (λ x. norm_of pr x (row ρ b.E1) (row ρ b.E2)) (trim_row ρ (cut 0 c rows))
            ∙ ap (λ x. norm_of pr E.a.0 x (row ρ b.E2)) (trim_row ρ (cut c c rows) ∙ sym (ap (row ρ) second))
            ∙ ap (norm_of pr E.a.0 E.b.0) (trim_row ρ (cut (N.◌+◌ c c) c rows) ∙ sym (ap (row ρ) third))
            ∙ ap (λ (z : P (setting A)). z.0) (const_path ρ.𝓥 {a = norm (setting A) E} {b = (ρ.𝓥.const k, ρ.𝓥.const_poly k)} lead (ρ.𝓥.const_lead k)),
      )

  unit_writes : {d d' : List ℕ} {x : Said} → write.WriteTells b d x d' → (x.number ≡ 0) ⊎ ((x ≡ refused 11) × (length d < length (body_bytes b)))
  unit_writes (write.field n h s e q) = absurd (h (refusal_unique p G H n 0 s (accepted_none p G H t.field)))
  unit_writes (write.rule s f e q) = absurd (f unit_rule)
  unit_writes (write.short s r l e q) = inr (e, l)
  unit_writes (write.done s r l e q) = inl (number_of e)

  unit_attests : {s : List ℕ} {i : ℕ} {x : Said} → book.Accepted s → i < book.count s → book.entry s i ≡ b → attest.AttestTells s i x → x ≡ passed 1
  unit_attests a h e (attest.book f _) = absurd (f a)
  unit_attests a h e (attest.no_entry _ l _) = absurd (omega arith)
  unit_attests a h e (attest.yes _ _ _ q) = q
  unit_attests a h e (attest.no _ _ f q) = absurd (f (subst judged.Attested (sym e) unit_attested))

pub unit_bookable : {p n : ℕ} {G H rows scratch rows' scratch' : List ℕ} (m : UnitAnswer) → unit.Makes 1 p G H n rows scratch m rows' scratch' → m.refusal ≡ 0
    → (c : ℕ) → length rows' ≡ N.◌*◌ 6 c → Bookable (unit_body p G H m c rows')
unit_bookable {p} {n} {G} {H} {rows' = rows} m h z c e =
    let t = made_of m h z c e in
    record {
      field = accepted_none p G H t.field;
      rule = unit_rule c m rows t;
      attested = unit_attested c m rows t;
      writes = unit_writes c m rows t;
      attests = unit_attests c m rows t;
    }
