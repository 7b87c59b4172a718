-- One walk record advanced (request E2).
--   passed_on         closed or a refusal: it is passed over
--   advanced_tabled   its state afterwards, by the table
--   refused_marked    a refusal changes nothing but the state
--   field_kept        its field never changes
--   padded            zeros above the coefficients change nothing
use mathlib.Core.Path.{◌≡◌, refl, sym, ap, ◌∙◌, subst}
use mathlib.Core.Logic.{◌≢◌, ◌⊎◌, inl, inr, ◌↔◌}
use mathlib.Core.List.{List}
use Prim.Native.Nat.{ℕ, ◌+◌, ◌≤◌, ◌<◌}
use native.Mathlib.Omega.{arith}
use Rattle.base_answers.specs.Limits.{most}
use Rattle.field_open.specs.Refusal.{Refusal, Accepted}
use Rattle.field_open.specs.Door.{Door}
use Rattle.field_open.proofs.Door.{door_out, door_unique}
use Rattle.walk_chain.specs.Walk.{WalkAnswer, Walks}
use Rattle.walk_chain.proofs.Walk.{walks_unique}
use Rattle.walk_record.specs.declared.WalkRecord.{WalkRecord}
use Rattle.walk_record.specs.State.{going, closed, IsRefusal, Passed}
use Rattle.walk_record.proofs.States.{not_going, not_closed}
use Rattle.walk_record.specs.Record.{list_g, list_h, marked, moved, Unfit}
use Rattle.door_record.specs.Advance as advance
use Rattle.door_record.specs.Advance.{After, Advances}
use Rattle.demands.proofs.Tabled.{both, neither, never, field_refused, field_passed, door_tabled, walk_tabled}
use Rattle.demands_requests.specs.Sheets.{AdvanceTabled, OneField}

abbrev pub state : WalkRecord → ℕ
state r = r.state

-- the number x of a walk and the state s that it leaves
record Codes (x s : ℕ) : Type 0 where
  stays : (s ≡ going) ↔ (x ≡ 10)
  closes : (s ≡ closed) ↔ (x ≡ 0)
  refuses : (k : ℕ) → IsRefusal k → (s ≡ k) ↔ (x ≡ k)
  known : (s ≡ going) ⊎ Passed s

pub named : {x : ℕ} → (x ≤ 10) ⊎ (x ≡ 14) → x ≢ 0 → x ≢ 10 → IsRefusal x
named (inl l) f g = inl (omega arith, omega arith)
named (inr e) f g = inr e

codes : {r o : WalkRecord} (w : WalkAnswer) → (w.refusal ≤ 10) ⊎ (w.refusal ≡ 14) → After r w o → Codes w.refusal o.state
codes w only (advance.closed z e) =
    let s = ap state e in record {
      stays = neither (λ a. omega arith) (λ b. omega arith);
      closes = both s z;
      refuses = λ k c. neither (λ a. not_closed c (sym a ∙ s)) (λ b. not_going (inr c) (sym b ∙ z));
      known = inr (inl s);
    }
codes w only (advance.spent t e) =
    let s = ap state e in record {
      stays = both s t;
      closes = neither (λ a. omega arith) (λ b. omega arith);
      refuses = λ k c. neither (λ a. not_going (inr c) (sym a ∙ s)) (λ b. ten c (sym b ∙ t));
      known = inl s;
    }
  where
    ten : {k : ℕ} → IsRefusal k → k ≢ 10
    ten (inl (a, b)) e = omega arith
    ten (inr a) e = omega arith
codes w only (advance.refused f g e) =
    let s = ap state e in
    let c = named only f g in record {
      stays = neither (λ a. f (sym s ∙ a)) g;
      closes = neither (λ a. not_closed c (sym s ∙ a)) f;
      refuses = λ k d. (λ a. sym s ∙ a, λ b. s ∙ b);
      known = inr (inr (subst IsRefusal (sym s) c));
    }

-- a record that is closed or a refusal is passed over
pub passed_on : {c : ℕ} {o z : WalkRecord} → Passed o.state → Advances c o z → z ≡ o
passed_on s (advance.passed t e) = e
passed_on s (advance.unfit f u d) = absurd (f s)
passed_on s (advance.walked f u w h a) = absurd (f s)

-- ---- the table
module _ (b : ℕ) (r : WalkRecord) where
  abbrev T : ℕ → Type 0
  T = AdvanceTabled b r

  field_bad : (k : ℕ) → Refusal r.p (list_g r) (list_h r) k → 1 ≤ k → k ≤ 8 → T k
  field_bad k q lo hi =
      let n = never r.p (list_g r) (list_h r) k q lo in record {
        field = field_refused r.p (list_g r) (list_h r) k q;
        out_of_rule = neither (λ e. omega arith) (λ x. n x.0);
        no_record = neither (λ e. omega arith) (λ x. n x.0);
        stays = neither (λ e. omega arith) (λ x. n x.0);
        closes = neither (λ e. omega arith) (λ x. n x.0);
        only = inr (inr (inl (lo, omega arith)));
      }

  record_bad : Unfit r → Accepted r.p (list_g r) (list_h r) → T 14
  record_bad u A = record {
    field = field_passed r.p (list_g r) (list_h r) 14 A (λ k lo hi e. omega arith);
    out_of_rule = both refl (A, inl u);
    no_record = neither (λ e. omega arith) (λ x. x.1.0 u);
    stays = neither (λ e. omega arith) (λ x. x.1.0 u);
    closes = neither (λ e. omega arith) (λ x. x.1.0 u);
    only = inr (inr (inr refl));
  }

  module _ (f : Unfit r → ⊥) (w : WalkAnswer) (h : Walks r.p (list_g r) (list_h r) b r.basis w) where
    walked_tabled : {o : WalkRecord} → After r w o → T o.state
    walked_tabled a =
        let t = walk_tabled r.p (list_g r) (list_h r) b r.basis w h in
        let c = codes w t.only a in record {
          field = λ k lo hi.
              let q = c.refuses k (inl (lo, omega arith)) in
              (λ e. (t.field k lo hi).0 (q.0 e), λ z. q.1 ((t.field k lo hi).1 z));
          out_of_rule =
              let q = c.refuses 14 (inr refl) in
              (λ e. let (A, l) = t.out_of_rule.0 (q.0 e) in (A, inr l), λ (A, x). q.1 (t.out_of_rule.1 (A, over x)));
          no_record =
              let q = c.refuses 9 (inl (omega arith, omega arith)) in
              (λ e. let (A, l, x) = t.no_record.0 (q.0 e) in (A, (f, l), x), λ (A, (g, l), x). q.1 (t.no_record.1 (A, l, x)));
          stays = (
            λ e. let (A, l, x, y) = t.no_closing.0 (c.stays.0 e) in (A, (f, l), x, y),
            λ (A, (g, l), x, y). c.stays.1 (t.no_closing.1 (A, l, x, y)),
          );
          closes = (
            λ e. let (A, l, x, y) = t.passes.0 (c.closes.0 e) in (A, (f, l), x, y),
            λ (A, (g, l), x, y). c.closes.1 (t.passes.1 (A, l, x, y)),
          );
          only = c.known;
        }
      where
        over : Unfit r ⊎ (most < b) → most < b
        over (inl u) = absurd (f u)
        over (inr l) = l

pub advanced_tabled : {b : ℕ} {r o : WalkRecord} → Advances b r o → (Passed r.state → ⊥) → AdvanceTabled b r o.state
advanced_tabled {b} {r} {o} (advance.passed s e) f = absurd (f s)
advanced_tabled {b} {r} {o} (advance.unfit g u d) f =
    door_tabled r.p (list_g r) (list_h r) (AdvanceTabled b r) (λ k e. ap state e) (field_bad b r)
    (λ A e. subst (AdvanceTabled b r) (sym (ap state e)) (record_bad b r u A)) d
advanced_tabled {b} {r} {o} (advance.walked g u w h a) f = walked_tabled b r u w h a

-- ---- what changes
abbrev Field : WalkRecord → WalkRecord → Type 0
Field o r = (o.p ≡ r.p) × (o.g ≡ r.g) × (o.ng ≡ r.ng) × (o.h ≡ r.h) × (o.nh ≡ r.nh)

parts : {o x : WalkRecord} → o ≡ x → Field o x
parts e = (ap (λ (r : WalkRecord). r.p) e, ap (λ (r : WalkRecord). r.g) e, ap (λ (r : WalkRecord). r.ng) e, ap (λ (r : WalkRecord). r.h) e, ap (λ (r : WalkRecord). r.nh) e)

pub field_kept : {b : ℕ} {r o : WalkRecord} → Advances b r o → Field o r
field_kept (advance.passed s e) = parts e
field_kept {r = r} {o} (advance.unfit g u d) = door_out {C = Field o r} (λ k f l e. parts e) (λ A e. parts e) d
field_kept (advance.walked g u w h (advance.closed z e)) = parts e
field_kept (advance.walked g u w h (advance.spent z e)) = parts e
field_kept (advance.walked g u w h (advance.refused x y e)) = parts e

marked_own : (r : WalkRecord) {o : WalkRecord} {n : ℕ} → o ≡ marked r n → o ≡ marked r o.state
marked_own r e = e ∙ ap (marked r) (sym (ap state e))

pub refused_marked : {b : ℕ} {r o : WalkRecord} → Advances b r o → IsRefusal o.state → o ≡ marked r o.state
refused_marked {r = r} (advance.passed s e) c = e ∙ ap (λ (x : WalkRecord). marked r x.state) (sym e)
refused_marked {r = r} (advance.unfit g u d) c = door_out (λ k f l e. marked_own r e) (λ A e. marked_own r e) d
refused_marked (advance.walked g u w h (advance.closed z e)) c = absurd (not_closed c (ap state e))
refused_marked (advance.walked g u w h (advance.spent z e)) c = absurd (not_going (inr c) (ap state e))
refused_marked {r = r} (advance.walked g u w h (advance.refused x y e)) c = marked_own r e

-- ---- zeros above the coefficients
module _ {r r' : WalkRecord} (s : OneField r r') where
  passed_same : Passed r.state → Passed r'.state
  passed_same = subst Passed s.state

  passed_back : Passed r'.state → Passed r.state
  passed_back = subst Passed (sym s.state)

  unfit_same : Unfit r → Unfit r'
  unfit_same (inl (a, f)) = inl (λ e. a (s.state ∙ e), λ c. f (passed_back c))
  unfit_same (inr (inl l)) = let e = s.steps in inr (inl (omega arith))
  unfit_same (inr (inr l)) = let e = s.steps in let d = s.sum in inr (inr (omega arith))

  unfit_back : Unfit r' → Unfit r
  unfit_back (inl (a, f)) = inl (λ e. a (sym s.state ∙ e), λ c. f (passed_same c))
  unfit_back (inr (inl l)) = let e = s.steps in inr (inl (omega arith))
  unfit_back (inr (inr l)) = let e = s.steps in let d = s.sum in inr (inr (omega arith))

  marked_same : {o o' : WalkRecord} {n : ℕ} → o ≡ marked r n → o' ≡ marked r' n → OneField o o'
  marked_same {o' = o'} {n} e f =
      subst (λ x. OneField x o') (sym e) (subst (λ x. OneField (marked r n) x) (sym f)
      (record { p = s.p; G = s.G; H = s.H; basis = s.basis; steps = s.steps; sum = s.sum; state = refl }))

  moved_same : {o o' : WalkRecord} {B : List ℕ} (n d : ℕ) {k : ℕ} → o ≡ moved r B n d k → o' ≡ moved r' B n d k → OneField o o'
  moved_same {o' = o'} {B} n d {k} e f =
      subst (λ x. OneField x o') (sym e) (subst (λ x. OneField (moved r B n d k) x) (sym f)
      (record { p = s.p; G = s.G; H = s.H; basis = refl; steps = ap (λ m. m + n) s.steps; sum = ap (λ m. m + d) s.sum; state = refl }))

  -- what is so of the field and the basis of r' is so of those of r
  back : (P : ℕ → List ℕ → List ℕ → List ℕ → Type 0) → P r'.p (list_g r') (list_h r') r'.basis → P r.p (list_g r) (list_h r) r.basis
  back P x =
      subst (λ p. P p (list_g r) (list_h r) r.basis) (sym s.p)
      (subst (λ G. P r'.p G (list_h r) r.basis) (sym s.G)
      (subst (λ H. P r'.p (list_g r') H r.basis) (sym s.H)
      (subst (λ B. P r'.p (list_g r') (list_h r') B) (sym s.basis) x)))

  after_same : {o o' : WalkRecord} (w : WalkAnswer) → After r w o → After r' w o' → OneField o o'
  after_same w (advance.closed z e) (advance.closed z' e') = moved_same w.steps w.sum e e'
  after_same w (advance.closed z e) (advance.spent t e') = absurd (omega arith)
  after_same w (advance.closed z e) (advance.refused f g e') = absurd (f z)
  after_same w (advance.spent t e) (advance.closed z e') = absurd (omega arith)
  after_same w (advance.spent t e) (advance.spent t' e') = moved_same w.steps w.sum e e'
  after_same w (advance.spent t e) (advance.refused f g e') = absurd (g t)
  after_same w (advance.refused f g e) (advance.closed z e') = absurd (f z)
  after_same w (advance.refused f g e) (advance.spent t e') = absurd (g t)
  after_same w (advance.refused f g e) (advance.refused f' g' e') = marked_same e e'

  pub padded : {b : ℕ} {o o' : WalkRecord} → Advances b r o → Advances b r' o' → OneField o o'
  padded {o = o} {o'} (advance.passed c e) (advance.passed c' e') = subst (λ x. OneField x o') (sym e) (subst (λ x. OneField r x) (sym e') s)
  padded (advance.passed c e) (advance.unfit f u d) = absurd (f (passed_same c))
  padded (advance.passed c e) (advance.walked f u w h a) = absurd (f (passed_same c))
  padded (advance.unfit f u d) (advance.passed c e) = absurd (f (passed_back c))
  padded {o' = o'} (advance.unfit f u d) (advance.unfit f' u' d') =
      door_unique (λ n x y. marked_same x y) (λ A x y. marked_same x y) d (back (λ p G H B. Door p G H (λ n. o' ≡ marked r' n) (o' ≡ marked r' 14)) d')
  padded (advance.unfit f u d) (advance.walked f' u' w h a) = absurd (u' (unfit_same u))
  padded (advance.walked f u w h a) (advance.passed c e) = absurd (f (passed_back c))
  padded (advance.walked f u w h a) (advance.unfit f' u' d) = absurd (u (unfit_back u'))
  padded {b} {o' = o'} (advance.walked f u w h a) (advance.walked f' u' v k c) =
      let e = walks_unique _ _ _ _ _ v w (back (λ p G H B. Walks p G H b B v) k) h in
      after_same w a (subst (λ x. After r' x o') e c)
