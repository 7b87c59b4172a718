-- What the functions of a turn are proved with.
--   moved_within               the bytes that a call moved
--   settle_again, settle_fails     the phase after a call
--   came_piece, heard_came, heard_ended   what `heard` gives, by the answer of the read
--   part_starts, part_ends     where the part that `plan` names lies
--   moved_told, moved_read     a call moved at most the bytes that it was handed
--   nothing_read, keeps_read, one_read, none_read, not_read   what a call, or none, took from the reader
--   nothing_written, keeps_written, one_written, none_written, not_written   what it put into the writer
--   brought_more, took_more, reads_more, writes_more   one row of calls after another
--   turn_writes, turn_answers, turn_reads, turn_stops   a turn, from its arm
use mathlib.Core.Path.{◌≡◌, refl, sym, ap, subst, ◌∙◌}
use mathlib.Core.Logic.{inl, inr}
use mathlib.Core.List.{List, [], ◌∷◌, ◌++◌, append_assoc, append-nil}
use Prim.Native.Nat.{ℕ, zero, suc, ◌+◌, ◌≤◌, ◌-◌}
use native.Mathlib.Omega.{arith}
use lib.ListN.{length, take}
use lib.IntN.{ℤ, pos, negsuc}
use Rattle.std.specs.Prelude.{Option, Some, None, Result, Ok, Err, IfOk}
use Rattle.std.specs.Io.{ReadsAtMost}
use Rattle.std.specs.Io.KnownBytes.{Keeps, Consumes, Appends, WriteAppends, ReadConsumes}
use Rattle.base_lists.specs.Pieces.{between}
use Rattle.lister_turn.specs.declared.Stand.{Stand}
use Rattle.lister_turn.specs.declared.Act.{Act}
use Rattle.lister_turn.specs.declared.Act.TheVariants.{Write, Answer, Read, Stop}
use Rattle.units.specs.Serve.{Call, write, read, Moved, told, moved, took, brought, Settles, Wrote, Answers, Came, Heard, writes, answers, reads, stops, Turns}
use Rattle.lister_turn.specs.Turn.{Plans, Ended, with_piece, at_stop}

pub moved_within : (n : ℕ) (z : ℤ) → Moved n z → moved z ≤ n
moved_within n (pos k) h = h
moved_within n (negsuc k) h = omega arith

pub settle_again : (w p : ℕ) → Settles w p p
settle_again zero p = inl refl
settle_again (suc w) p = refl

pub settle_fails : (w p : ℕ) → w ≤ 0 → Settles w p 3
settle_fails zero p h = inr refl
settle_fails (suc w) p h = absurd (omega arith)

pub came_piece : {d : List ℕ} {s r : Stand} {got : ℤ} {m p : ℕ} → r ≡ with_piece s m p → m ≡ moved got → Settles m s.phase p → Came d s got r d
came_piece {s = s} {got = got} {p = p} x e h = record {
  n = ap (λ z. z.n) x;
  at = ap (λ z. z.at) x;
  m = ap (λ z. z.m) x ∙ e;
  from = ap (λ z. z.from) x;
  to = ap (λ z. z.to) x;
  phase = subst (Settles (moved got) s.phase) (sym (ap (λ z. z.phase) x)) (subst (λ z. Settles z s.phase p) e h);
  same = refl;
}

pub heard_came : {d : List ℕ} {s r : Stand} {d' : List ℕ} (got : ℤ) → (got ≡ pos 0 → ⊥) → Came d s got r d' → Heard d s got r d'
heard_came (pos zero) h x = absurd (h refl)
heard_came (pos (suc g)) h x = x
heard_came (negsuc g) h x = x

pub heard_ended : {d : List ℕ} {s r : Stand} {d' : List ℕ} (got : ℤ) → got ≡ pos 0 → Ended d s r d' → Heard d s got r d'
heard_ended {d} {s} {r} {d'} got e x = subst (λ z. Heard d s z r d') (sym e) x

module _ (s : Stand) where
  planned : {a a' : Act} → a ≡ a' → Plans s a → Plans s a'
  planned e x = subst (Plans s) e x

  pub part_starts : {a : Act} {fd : ℤ} {f t : ℕ} → a ≡ Write fd f t → Plans s a → f ≤ t
  part_starts e x = let (y, b, c, d) = planned e x in omega arith

  pub part_ends : {a : Act} {fd : ℤ} {f t n : ℕ} → a ≡ Write fd f t → Plans s a → s.to ≤ n → t ≤ n
  part_ends e x h = let (y, b, c, d) = planned e x in omega arith

moved_told : {E : Type 0} (n : ℕ) (r : Result ℕ E) → IfOk r (λ k. k ≤ n) → Moved n (told r)
moved_told n (Ok k) h = h
moved_told n (Err e) h = refl

moved_read : {E : Type 0} (b : List ℕ) (r : Result ℕ E) → ReadsAtMost r b → Moved (length b) (told r)
moved_read b (Ok k) h = h.0
moved_read b (Err e) h = refl

nothing_read : (i : Option (List ℕ)) → Consumes i i []
nothing_read None = tt
nothing_read (Some xs) = refl

nothing_written : (o : Option (List ℕ)) → Appends o o []
nothing_written None = tt
nothing_written (Some xs) = sym (append-nil xs)

keeps_read : (i i' : Option (List ℕ)) → Keeps i i' → Consumes i i' []
keeps_read None i' h = tt
keeps_read (Some xs) None h = h
keeps_read (Some xs) (Some ys) h = sym h

keeps_written : (o o' : Option (List ℕ)) → Keeps o o' → Appends o o' []
keeps_written None o' h = tt
keeps_written (Some xs) None h = h
keeps_written (Some xs) (Some ys) h = h ∙ sym (append-nil xs)

one_written : {E : Type 0} (o o' : Option (List ℕ)) (bytes : List ℕ) (r : Result ℕ E) → WriteAppends o o' r bytes → Appends o o' (took (write bytes (told r) ∷ []))
unfolding took
one_written o o' bytes (Ok n) h = h
one_written o o' bytes (Err e) h = keeps_written o o' h

one_read : {E : Type 0} (i i' : Option (List ℕ)) (bytes : List ℕ) (r : Result ℕ E) → ReadConsumes i i' r bytes → Consumes i i' (brought (read (told r) bytes ∷ []))
unfolding brought
one_read i i' bytes (Ok n) h = h.0
one_read i i' bytes (Err e) h = keeps_read i i' h

-- ---- one row of calls after another
pub brought_more : (c cs : List Call) → brought (c ++ cs) ≡ brought cs ++ brought c
unfolding brought
brought_more [] cs = sym (append-nil (brought cs))
brought_more (write bytes got ∷ c) cs = brought_more c cs
brought_more (read got bytes ∷ c) cs =
    ap (λ z. z ++ take (moved got) bytes) (brought_more c cs) ∙ append_assoc (brought cs) (brought c) (take (moved got) bytes)

pub took_more : (c cs : List Call) → took (c ++ cs) ≡ took cs ++ took c
unfolding took
took_more [] cs = sym (append-nil (took cs))
took_more (write bytes got ∷ c) cs =
    ap (λ z. z ++ take (moved got) bytes) (took_more c cs) ∙ append_assoc (took cs) (took c) (take (moved got) bytes)
took_more (read got bytes ∷ c) cs = took_more c cs

consumes_then : (i j k : Option (List ℕ)) (x y : List ℕ) → Consumes i j x → Consumes j k y → Consumes i k (x ++ y)
consumes_then None j k x y p q = tt
consumes_then (Some a) None k x y p q = absurd p
consumes_then (Some a) (Some b) None x y p q = q
consumes_then (Some a) (Some b) (Some c) x y p q = p ∙ ap (λ z. x ++ z) q ∙ sym (append_assoc x y c)

appends_then : (i j k : Option (List ℕ)) (x y : List ℕ) → Appends i j x → Appends j k y → Appends i k (x ++ y)
appends_then None j k x y p q = tt
appends_then (Some a) None k x y p q = absurd p
appends_then (Some a) (Some b) None x y p q = q
appends_then (Some a) (Some b) (Some c) x y p q = q ∙ ap (λ z. z ++ y) p ∙ append_assoc a x y

pub reads_more : (i j k : Option (List ℕ)) (c cs : List Call) → Consumes i j (brought cs) → Consumes j k (brought c) → Consumes i k (brought (c ++ cs))
reads_more i j k c cs p q = subst (Consumes i k) (sym (brought_more c cs)) (consumes_then i j k (brought cs) (brought c) p q)

pub writes_more : (i j k : Option (List ℕ)) (c cs : List Call) → Appends i j (took cs) → Appends j k (took c) → Appends i k (took (c ++ cs))
writes_more i j k c cs p q = subst (Appends i k) (sym (took_more c cs)) (appends_then i j k (took cs) (took c) p q)

pub none_read : (i : Option (List ℕ)) → Consumes i i (brought [])
unfolding brought
none_read i = nothing_read i

pub none_written : (o : Option (List ℕ)) → Appends o o (took [])
unfolding took
none_written o = nothing_written o

not_read : (bytes : List ℕ) (got : ℤ) (i : Option (List ℕ)) → Consumes i i (brought (write bytes got ∷ []))
unfolding brought
not_read bytes got i = nothing_read i

not_written : (bytes : List ℕ) (got : ℤ) (o : Option (List ℕ)) → Appends o o (took (read got bytes ∷ []))
unfolding took
not_written bytes got o = nothing_written o

-- ---- a turn, from what `plan` said and what the function of its arm gives
module _ (s : Stand) (k b d : List ℕ) (i o : Option (List ℕ)) where
  pub turn_writes : {E : Type 0} {fd : ℤ} {f t : ℕ} {r : Stand} {o' : Option (List ℕ)} (got : Result ℕ E) → Plans s (Write fd f t)
      → IfOk got (λ n. n ≤ length (between f t d)) → WriteAppends o o' got (between f t d) → Wrote s (told got) r → Turns i i o o' k b d s r k b d
  turn_writes {f = f} {t} {o' = o'} got (y, u, v, l) m a w =
      let e : between f t d ≡ between s.from s.to d = ap (λ z. between z t d) u ∙ ap (λ z. between s.from z d) v in
      let m' = subst (λ z. IfOk got (λ n. n ≤ length z)) e m in
      let a' = subst (WriteAppends o o' got) e a in
      record {
        calls = write (between s.from s.to d) (told got) ∷ [];
        turn = writes (told got) (refl, refl, refl, l) (moved_told (length (between s.from s.to d)) got m') w;
        input = not_read _ _ i;
        output = one_written o o' _ got a';
      }

  pub turn_answers : {r : Stand} {k' d' : List ℕ} → Plans s Answer → Answers k b d s r k' d' → Turns i i o o k b d s r k' b d'
  turn_answers p x = record { calls = []; turn = answers p x; input = none_read i; output = none_written o }

  pub turn_reads : {E : Type 0} {fd : ℤ} {r : Stand} {b' d' : List ℕ} {i' : Option (List ℕ)} (got : Result ℕ E) → Plans s (Read fd)
      → length b' ≡ length b → ReadsAtMost got b' → ReadConsumes i i' got b' → Heard d s (told got) r d' → Turns i i' o o k b d s r k b' d'
  turn_reads {b' = b'} {i' = i'} got (y, u, v, w) e m a h = record {
    calls = read (told got) b' ∷ [];
    turn = reads (told got) (refl, u, v, w) e (subst (λ z. Moved z (told got)) e (moved_read b' got m)) h;
    input = one_read i i' b' got a;
    output = not_written _ _ o;
  }

  pub turn_stops : {r : Stand} → Plans s Stop → r ≡ at_stop s → Turns i i o o k b d s r k b d
  turn_stops p e = record { calls = []; turn = stops p e; input = none_read i; output = none_written o }
