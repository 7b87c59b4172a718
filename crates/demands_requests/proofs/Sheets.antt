-- Sheets of walk records (request E2): from one record to the list.
--   each_at, each_picked   of any place, of any places in any order
--   each_together          two sheets one after the other
--   sheets                 the theorem
use mathlib.Core.Path.{◌≡◌, refl, sym, ap, subst}
use mathlib.Core.Logic.{inl, inr}
use mathlib.Core.List.{List, [], ◌∷◌}
use Prim.Native.Nat.{ℕ, zero, suc, ◌+◌, ◌≤◌}
use native.Mathlib.Omega.{arith}
use lib.ListN.{length}
use Rattle.base_answers.specs.Limits.{most}
use Rattle.walk_record.specs.declared.WalkRecord.{WalkRecord}
use Rattle.walk_record.specs.State.{closed}
use Rattle.walk_record.specs.Record.{Beyond, list_g, list_h}
use Rattle.walk_chain.specs.Walk.{Closes}
use Rattle.door_record.specs.Advance.{Advances}
use Rattle.door_sheet.specs.Sheet.{Each, Sheet, refused, walked}
use Rattle.demands.proofs.Tabled.{both, neither}
use Rattle.demands.proofs.TakenUp.{closes_agrees}
use Rattle.demands.proofs.Demand2.{closes_first}
use Rattle.demands_requests.specs.Sheets.{SheetTabled, At, Picked, GoesOn, Stands, still_open, has_closed, Sheets}
use Rattle.demands_requests.proofs.Advanced.{passed_on, advanced_tabled, refused_marked, field_kept, padded}
use Rattle.demands_requests.proofs.Onward.{both_calls, goes_on, begins, stands}

abbrev Rs : Type 0
Rs = List WalkRecord

tabled : (rs os : Rs) (b n : ℕ) → Sheet rs b n os → SheetTabled (length rs) b n
tabled rs os b n (refused v e f) = record {
  out_of_rule = both e v;
  passes = neither (λ z. omega arith) (λ g. g v);
  only = inr e;
}
tabled rs os b n (walked g e s) = record {
  out_of_rule = neither (λ z. omega arith) g;
  passes = both e g;
  only = inl e;
}

done : {rs os : Rs} {b n : ℕ} → Sheet rs b n os → n ≡ 0 → (Beyond (length rs) b → ⊥) × Each b rs os
done (refused v e f) z = absurd (omega arith)
done (walked g e s) z = (g, s)

each_length : (b : ℕ) (rs os : Rs) → Each b rs os → length os ≡ length rs
each_length b [] [] s = refl
each_length b [] (o ∷ os) s = absurd s
each_length b (r ∷ rs) [] s = absurd s
each_length b (r ∷ rs) (o ∷ os) (a, s) = ap suc (each_length b rs os s)

each_at : (b : ℕ) (rs os : Rs) → Each b rs os → (i : ℕ) (r o : WalkRecord) → At rs i r → At os i o → Advances b r o
each_at b [] os s i r o x y = absurd x
each_at b (q ∷ rs) [] s i r o x y = absurd s
each_at b (q ∷ rs) (z ∷ os) (a, s) zero r o x y = subst (λ k. Advances b k o) (sym x) (subst (Advances b q) (sym y) a)
each_at b (q ∷ rs) (z ∷ os) (a, s) (suc i) r o x y = each_at b rs os s i r o x y

each_picked : (b : ℕ) (rs os : Rs) → Each b rs os → (is : List ℕ) (qs zs : Rs) → Picked rs is qs → Picked os is zs → Each b qs zs
each_picked b rs os s [] [] [] x y = tt
each_picked b rs os s [] [] (z ∷ zs) x y = absurd y
each_picked b rs os s [] (q ∷ qs) zs x y = absurd x
each_picked b rs os s (i ∷ is) [] zs x y = absurd x
each_picked b rs os s (i ∷ is) (q ∷ qs) [] x y = absurd y
each_picked b rs os s (i ∷ is) (q ∷ qs) (z ∷ zs) (x, xs) (y, ys) = (each_at b rs os s i q z x y, each_picked b rs os s is qs zs xs ys)

picked_length : (rs : Rs) (is : List ℕ) (qs : Rs) → Picked rs is qs → length qs ≡ length is
picked_length rs [] [] x = refl
picked_length rs [] (q ∷ qs) x = absurd x
picked_length rs (i ∷ is) [] x = absurd x
picked_length rs (i ∷ is) (q ∷ qs) (x, xs) = ap suc (picked_length rs is qs xs)

each_together : (b c : ℕ) → b + c ≤ most → (rs os zs : Rs) → Each b rs os → Each c os zs → GoesOn os → Each (b + c) rs zs
each_together b c l [] [] [] s t g = tt
each_together b c l [] [] (z ∷ zs) s t g = absurd t
each_together b c l [] (o ∷ os) zs s t g = absurd s
each_together b c l (r ∷ rs) [] zs s t g = absurd s
each_together b c l (r ∷ rs) (o ∷ os) [] s t g = absurd t
each_together b c l (r ∷ rs) (o ∷ os) (z ∷ zs) (a, s) (d, t) g = (both_calls l a d (g 0 o refl), each_together b c l rs os zs s t (λ i q x. g (suc i) q x))

picked : {rs os qs zs : Rs} {b n : ℕ} → Sheet rs b n os → n ≡ 0 → (is : List ℕ) → length is ≤ 64 → Picked rs is qs → Picked os is zs → Sheet qs b 0 zs
picked {rs} {os} {qs} {zs} {b} h z is l x y =
    let (g, s) = done h z in
    let e = picked_length rs is qs x in
    walked (out g e) refl (each_picked b rs os s is qs zs x y)
  where
    out : (Beyond (length rs) b → ⊥) → length qs ≡ length is → Beyond (length qs) b → ⊥
    out g e (inl k) = omega arith
    out g e (inr k) = g (inr k)

together : {b c n m : ℕ} {rs os zs : Rs} → b + c ≤ most → Sheet rs b n os → n ≡ 0 → Sheet os c m zs → m ≡ 0 → GoesOn os → Sheet rs (b + c) 0 zs
together {b} {c} {rs = rs} {os} {zs} l h z k y on =
    let (g, s) = done h z in
    let (g', t) = done k y in
    walked (out g) refl (each_together b c l rs os zs s t on)
  where
    out : (Beyond (length rs) b → ⊥) → Beyond (length rs) (b + c) → ⊥
    out g (inl x) = g (inl x)
    out g (inr x) = omega arith

closes_of : {B : List ℕ} {r : WalkRecord} → Stands B r → r.state ≡ closed → Closes r.p (list_g r) (list_h r) B r.steps r.sum r.basis
closes_of (still_open q x y) e = absurd (omega arith)
closes_of (has_closed q k) e = k

pub sheets : Sheets
sheets = record {
  tabled = λ h. tabled _ _ _ _ h;
  each = λ {rs} {os} {b} h z i r o x y. each_at b rs os (done h z).1 i r o x y;
  every = λ {rs} {os} {b} h z. each_length b rs os (done h z).1;
  picked = picked;
  passed_over = λ a s. passed_on s a;
  advanced = advanced_tabled;
  refused = refused_marked;
  field_kept = field_kept;
  padded = λ s a a'. padded s a a';
  together = both_calls;
  sheets_together = together;
  goes_on = goes_on;
  begins = begins;
  stands = stands;
  period = λ f s q. closes_first f (closes_of s q);
  agrees = λ t f s q h z. closes_agrees _ _ _ _ t f (closes_of s q) h z;
}
