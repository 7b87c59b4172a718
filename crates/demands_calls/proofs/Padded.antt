-- Request E1 holds: the contracts speak of what is read of the lists, so that what demand 1 says of one pair of lists carries over to another.
use mathlib.Core.Path.{◌≡◌, sym, ap, ap₂, ◌∙◌, subst}
use mathlib.Core.Logic.{◌⊎◌, inl, inr}
use mathlib.Core.List.{List, ◌∷◌, ◌++◌, append_assoc}
use Prim.Native.Nat.{ℕ, ◌<◌}
use native.Mathlib.Omega.{arith}
use native.Mathlib.Decide.{ℕ_discrete}
use lib.ListN.{take}
use Rattle.base_lists.specs.Pieces.{cut}
use Rattle.base_lists.specs.Coefficients.{trim}
use Rattle.base_lists.proofs.Paddings as lists
use Rattle.base_answers.specs.Said.{Said}
use Rattle.field_open.specs.Refusal.{Degree, Accepted, Refusal}
use Rattle.field_open.specs.Padding.{entries, unpad}
use Rattle.field_open.specs.Opening.{pad, Opens, FieldAnswer}
use Rattle.field_open.proofs.Accept.{accepted}
use Rattle.field_open.proofs.Opening.{opens_held}
use Rattle.field_open.proofs.Door.{door_out}
use Rattle.field_open.proofs.Paddings.{degree_padded, padded_degree, three_padded, padded_three, accepted_stands, unpad_zeros}
use Rattle.field_series.specs.Answer as series
use Rattle.door_order.specs.Answer.{Orders}
use Rattle.door_check.specs.Answer.{Checks}
use Rattle.door_step.specs.Answer.{Answers}
use Rattle.walk_chain.specs.Walk.{Walks}
use Rattle.door_period.specs.Order.{FromOrder}
use Rattle.door_unit.specs.Unit.{UnitAnswer, Makes}
use Rattle.door_unit.proofs.Once.{refused_number}
use Rattle.door_compare.specs.Answer.{Refusals, Compares}
use Rattle.door_transfer.specs.Transfer.{Transfers}
use Rattle.door_rescale.specs.Rescale.{Rescales}
use Rattle.book_body.specs.Body.{Body, FieldSays, body_of}
use Rattle.book_write.specs.Write.{body_from, WriteTells}
use Rattle.book_rows.specs.Rows.{RowsSays}
use Rattle.text_put.specs.Print.{semicolon, number_text, line_text, refused_text}
use Rattle.text_read.specs.Grammar.{Reads}
use Rattle.text_read.proofs.Writings.{reads_unique}
use Rattle.lister_print.proofs.Prints.{made_unit, made_refused}
use Rattle.lister_rows.specs.Text.{rows_text}
use Rattle.lister_print.specs.Text.{unit_text}
use Rattle.lister.specs.Listing.{Lists, malformed, read}
use Rattle.lister.proofs.Once.{read_unique}
use Rattle.demands_calls.specs.Fixed.{Demand1}
use Rattle.demands_calls.specs.Padded.{Stand, PaddedLists}
use Rattle.demands_calls.proofs.Demand1.{demand_1}
use Rattle.demands_calls.proofs.BookCalls.{book_calls}

module _ {G H G' H' : List ℕ} (a : Stand G G') (b : Stand H H') (C : List ℕ → List ℕ → Type 0) where
  any : C (unpad G) (unpad H) → C (unpad G') (unpad H')
  any x = subst (C (unpad G')) b.one (subst (λ z. C z (unpad H)) a.one x)

  back : C (unpad G') (unpad H') → C (unpad G) (unpad H)
  back x = subst (C (unpad G)) (sym b.one) (subst (λ z. C z (unpad H')) (sym a.one) x)

-- ---- the lists of an accepted field
trim_of : {p : ℕ} (l : List ℕ) {d : ℕ} → 0 < p → Degree p (unpad l) d → unpad l ≡ trim l
trim_of l h c = lists.unpad_short entries l (degree_padded h l c).entries

module _ {p : ℕ} (G H : List ℕ) (A : Accepted p (unpad G) (unpad H)) where
  pos : 0 < p
  pos = let o = A.low in omega arith

  trim_G : unpad G ≡ trim G
  trim_G = trim_of G pos A.list_g

  trim_H : unpad H ≡ trim H
  trim_H = trim_of H pos A.list_h

-- ---- kept, printed, written
kept : {p : ℕ} (G H : List ℕ) (o : FieldAnswer) → Opens p (unpad G) (unpad H) o → o.refusal ≡ 0 → (o.field.g ≡ pad (trim G)) × (o.field.h ≡ pad (trim H))
kept G H o h z =
    let (A, k) = opens_held h z in
    let w = k A.deg_g A.deg_h A.list_g A.list_h in
    (w.row_g ∙ ap pad (trim_G G H A), w.row_h ∙ ap pad (trim_H G H A))

unit_accepted : {i p : ℕ} {G H : List ℕ} {n : ℕ} {rows scratch r s : List ℕ} {m : UnitAnswer} → Makes i p G H n rows scratch m r s → m.refusal ≡ 0 → Accepted p G H
unit_accepted x = door_out (λ k f h y z. absurd (f (sym (refused_number y) ∙ z))) (λ A g z. A) x

-- the unit's text is the field and what stands behind it
behind : (l R : ℕ) (E0 E1 E2 : List ℕ) → (rest : List ℕ) × ((z : List ℕ) → unit_text z l R E0 E1 E2 ≡ z ++ rest)
unfolding unit_text
behind l R E0 E1 E2 =
    let a = semicolon ∷ number_text l in
    let b = semicolon ∷ number_text R in
    let c = rows_text E0 E1 E2 in
    (a ++ b ++ c, λ z. ap (λ y. y ++ c) (append_assoc z a b) ∙ append_assoc z (a ++ b) c)

printed : {line t : List ℕ} {p : ℕ} {G H : List ℕ} → Reads line p G H → Lists line t → ((n : ℕ) × (t ≡ refused_text n)) ⊎ ((rest : List ℕ) × (t ≡ line_text p (trim G) (trim H) ++ rest))
printed {p = p} {G} {H} r (malformed h) = absurd (h p G H r)
printed {p = p} {G} {H} r (read p₁ G₁ H₁ m rows scratch r₁ x) = elim (ℕ_discrete m.refusal 0) [
  | no f ↦ inl (m.refusal, made_refused (line_text p₁ (unpad G₁) (unpad H₁)) m rows f)
  | yes z ↦
      let A = unit_accepted x z in
      let (a, b, c) = reads_unique r₁ r in
      let s = line_text p₁ (unpad G₁) (unpad H₁) in
      let e : s ≡ line_text p (trim G) (trim H) =
      ap₂ (line_text p₁) (trim_G G₁ H₁ A ∙ ap trim b) (trim_H G₁ H₁ A ∙ ap trim c) ∙ ap (λ q. line_text q (trim G) (trim H)) a in
      let (rest, w) = behind m.period.0 m.regulator.0 (trim (cut 0 1024 rows)) (trim (cut 1024 1024 rows)) (trim (cut 2048 1024 rows)) in
      inr (rest, made_unit s m rows z ∙ w s ∙ ap (λ y. y ++ rest) e)
]

line_same : {line line' t t' : List ℕ} {p : ℕ} {G H G' H' : List ℕ} → Reads line p G H → Reads line' p G' H' → Stand G G' → Stand H H' → Lists line t → Lists line' t' → t ≡ t'
line_same {p = p} {G} {H} r r' s v (malformed h) y = absurd (h p G H r)
line_same {p = p} {G' = G'} {H'} r r' s v (read p₁ G₁ H₁ m rows scratch r₁ x) (malformed h) = absurd (h p G' H' r')
line_same r r' s v (read p₁ G₁ H₁ m rows scratch r₁ x) (read p₂ G₂ H₂ m' rows' scratch' r₂ y) =
    let (a, b, c) = reads_unique r₁ r in
    let (a', b', c') = reads_unique r' r₂ in
    read_unique p₁ (unpad G₁) (unpad H₁) p₂ (unpad G₂) (unpad H₂) m m' rows scratch rows' scratch' (a ∙ a') (ap unpad b ∙ s.one ∙ ap unpad b') (ap unpad c ∙ v.one ∙ ap unpad c') x y

written : {p u : ℕ} (G H : List ℕ) {a b c d d' : List ℕ} {x : Said} → WriteTells (body_from p (unpad G) (unpad H) u a b c) d x d' → x.number ≡ 0
    → body_of (take x.result d') ≡ body_from p (trim G) (trim H) u a b c
written {p} {u} G H {a} {b} {c} h z =
    let w = book_calls.written h z in
    let A = accepted p (unpad G) (unpad H) (subst (λ y. FieldSays y 0) w.says w.finished.field) in
    w.says ∙ ap₂ (λ g k. body_from p g k u a b c) (trim_G G H A) (trim_H G H A)

book_strict : (b : Body) → FieldSays b 0 → (trim b.G ≡ b.G) × (trim b.H ≡ b.H)
book_strict b f =
    let A = accepted b.p b.G b.H f in
    let (g, h) = accepted_stands A in (
      sym (lists.unpad_short entries b.G (let o = A.list_g.short in omega arith)) ∙ g,
      sym (lists.unpad_short entries b.H (let o = A.list_h.short in omega arith)) ∙ h,
    )

abbrev D : Demand1
D = demand_1

pub padded_lists : PaddedLists
padded_lists = record {
  trimmed = λ l h. let e = lists.unpad_short entries l h in (e, record { one = sym (lists.unpad_again entries l) ∙ ap unpad e });
  longer = lists.unpad_long entries;
  padded = λ l k h. record { one = unpad_zeros l k h };
  degree = λ h l. (degree_padded h l, padded_degree h l);
  three = λ h l. (three_padded h l, padded_three h l);
  strict = accepted_stands;
  any = any;
  refusal_same = λ p m n a b x y. D.refusal_fixed p _ _ m n x (back a b (λ g h. Refusal p g h n) y);
  open_same = λ {p} o o' a b x y. D.open_fixed o o' x (back a b (λ g h. Opens p g h o') y);
  series_same = λ {p} {n} {n'} {r = r} {w} {r₂ = r₂} {w₂} a b x y. D.series_fixed x (back a b (λ g h. series.Answer p g h r w r₂ w₂ n') y);
  open_series_same = λ {p} o o' a b x y. D.open_series_fixed o o' x (back a b (λ g h. series.Expands p g h o') y);
  order_same = λ {p} o o' a b x y. D.order_fixed o o' x (back a b (λ g h. Orders p g h o') y);
  check_same = λ {p} {B = B} n n' a b x y. D.check_fixed p _ _ B n n' x (back a b (λ g h. Checks p g h B n') y);
  step_same = λ {p} {B = B} s s' a b x y. D.step_fixed s s' x (back a b (λ g h. Answers p g h B s') y);
  walk_same = λ {p} {n} {B = B} v w a b x y. D.walk_fixed v w x (back a b (λ g h. Walks p g h n B w) y);
  from_order_same = λ {p} {n} v w a b x y. D.from_order_fixed v w x (back a b (λ g h. FromOrder p g h n w) y);
  unit_same = λ {i} {p} {n} {rows = rows} {scratch} {r' = r'} {s'} m m' a b x y. D.unit_fixed m m' x (back a b (λ g h. Makes i p g h n rows scratch m' r' s') y);
  rescale_same = λ {p} {i} {j} {n} {n'} {rows = rows} {r' = r'} a b x y. D.rescale_fixed x (back a b (λ g h. Rescales p g h i j rows n' r') y);
  pairs_same = λ {p} {m} {n} {K = K} {L} {G'} {H'} a b c d x y.
      D.pairs_fixed x (back a b (λ g h. Refusals p g h (unpad K) (unpad L) n) (back c d (λ k l. Refusals p (unpad G') (unpad H') k l n) y));
  compare_same = λ {p} {K = K} {L} {G'} {H'} v w a b c d x y.
      D.compare_fixed v w x (back a b (λ g h. Compares p g h (unpad K) (unpad L) w) (back c d (λ k l. Compares p (unpad G') (unpad H') k l w) y));
  transfer_same = λ {p} {n} {n'} {K = K} {L} {G'} {H'} {rows = rows} {r' = r'} a b c d x y.
      D.transfer_fixed x (back a b (λ g h. Transfers p g h (unpad K) (unpad L) rows n' r') (back c d (λ k l. Transfers p (unpad G') (unpad H') k l rows n' r') y));
  write_same = λ {p} {t} {a = e} {b} {c} {d} {f = f} {y = z} u v x y. D.write_fixed x (back u v (λ g h. WriteTells (body_from p g h t e b c) d z f) y);
  rows_same = λ {p} {t} {l = l} {d} {e' = e'} {o' = o'} a b x y. D.from_c.rows_fixed x (back a b (λ g h. RowsSays p g h t l d e' o') y);
  line_same = line_same;
  kept = kept;
  printed = printed;
  written = written;
  book_strict = book_strict;
}
