-- The turns of a run, one after the other.
--   run_asks      what a turn asks holds all along
--   run_output    in phase 2 what was taken is the output to what came
--   run_begins    in any phase it is a beginning of the answers to the lines that have ended or, once the end was read, of the output
use mathlib.Core.Path.{◌≡◌, refl, sym, ap, ap₂, ◌∙◌, subst}
use mathlib.Core.Logic.{◌⊎◌, inl, inr}
use mathlib.Core.List.{List, [], ◌∷◌, ◌++◌, append_assoc, append-nil}
use Prim.Native.Nat.{ℕ, zero, suc, ◌+◌, ◌-◌, ◌≤◌, ◌<◌, min, max}
use native.Mathlib.Omega.{arith}
use lib.ListN.{length, take, drop, length-take, take-append-drop}
use lib.Seq.{drop-drop}
use lib.IntN.{ℤ, pos, negsuc}
use Rattle.std.specs.Prelude.{Option}
use Rattle.std.specs.Io.KnownBytes.{Consumes, Appends}
use Rattle.base_lists.specs.Pieces.{Put, between, piece}
use Rattle.base_lists.proofs.Pieces.{drop_take}
use Rattle.base_lists.proofs.Puts.{placed_same, front_is}
use Rattle.text_cut.specs.Lines.{Line, lines_of}
use Rattle.text_cut.specs.Feed.{Fed, start, next_piece, Answered, no_line, Output, end_text}
use Rattle.text_cut.proofs.Feeds.{answered_append, fed_lines, fed_output}
use Rattle.lister.specs.declared.Going.{Going}
use Rattle.lister.specs.Listing.{room, Lists, Passes}
use Rattle.lister.proofs.Short.{refused_short}
use Rattle.lister.proofs.Paces.{Pace, passes_pace}
use Rattle.lister_turn.specs.declared.Stand.{Stand}
use Rattle.units.specs.Serve.{Call, write, read, Moved, moved, took, brought, Settles, Wrote, Answers, Came, Heard, Turn, writes, answers, reads, stops}
use Rattle.units.specs.Serve.{Asks, Run, begin, more, Begun, Ending, Ran}
use Rattle.lister_turn.specs.Turn.{at_stop}

-- ---- the part of the answers that is not written yet
end_short : (n : ℕ) → length (end_text n) ≤ room
unfolding end_text
end_short zero = omega arith
end_short (suc n) = let o = refused_short 12 (omega arith) in omega arith

put_front : {d x : List ℕ} {r : ℕ} {d' : List ℕ} → length x ≤ length d → Put d 0 x r d' → (r ≤ length d) × (between 0 r d' ≡ x)
put_front {d} {x} {r} {d'} h p =
    let a : r ≡ max 0 (min (0 + length x) (length d)) = p.next in
    let b : r ≡ 0 + length x = omega arith in
    let c : r - 0 ≡ r = omega arith in
    (omega arith, ap (λ z. take z d') c ∙ front_is (record { next = b; size = refl; done = p.done; same = placed_same p }) h)

none_left : {f t : ℕ} (d : List ℕ) → t ≤ f → between f t d ≡ []
none_left {f} {t} d h = let e : t - f ≡ 0 = omega arith in ap (λ z. take z (drop f d)) e

between_split : (f t w : ℕ) (d : List ℕ) → between f t d ≡ take w (between f t d) ++ between (f + w) t d
between_split f t w d =
    let e : t - f - w ≡ t - (f + w) = omega arith in
    sym (take-append-drop w (between f t d))
    ∙ ap (λ z. take w (between f t d) ++ z) (drop_take w (t - f) (drop f d) ∙ ap₂ take e (drop-drop w f d))

-- ---- what a turn asks
heard_asks : {b b' d : List ℕ} {s r : Stand} {d' : List ℕ} (got : ℤ) → length b' ≡ length b → Moved (length b) got → Heard d s got r d' → Asks b d s → Asks b' d' r
heard_asks {b} {b'} {d} {s} {r} {d'} (pos zero) l m x a =
    let o = end_short s.n in
    let g = a.large in
    let (p, q) = put_front (omega arith) x.ends in
    let i : length d' ≡ length d = placed_same x.ends in
    let e : r.m ≡ 0 = x.m in
    record { piece = omega arith; answers = omega arith; large = omega arith }
heard_asks {b} {b'} {d} {s} {r} {d'} (pos (suc k)) l m x a = came_asks l m x a
  where
    came_asks : length b' ≡ length b → Moved (length b) (pos (suc k)) → Came d s (pos (suc k)) r d' → Asks b d s → Asks b' d' r
    came_asks l m x a =
        let e : r.m ≡ suc k = x.m in
        let i : length d' ≡ length d = ap length x.same in
        let o : r.to ≡ 0 = x.to in
        let g = a.large in
        record { piece = omega arith; answers = omega arith; large = omega arith }
heard_asks {b} {b'} {d} {s} {r} {d'} (negsuc k) l m x a =
    let e : r.m ≡ 0 = x.m in
    let i : length d' ≡ length d = ap length x.same in
    let o : r.to ≡ 0 = x.to in
    let g = a.large in
    record { piece = omega arith; answers = omega arith; large = omega arith }

asks_same : {b d : List ℕ} {s r : Stand} → r.m ≡ s.m → r.to ≡ s.to → Asks b d s → Asks b d r
asks_same e f a = let u = a.piece in let v = a.answers in record { piece = omega arith; answers = omega arith; large = a.large }

turn_asks : {k b d k' b' d' : List ℕ} {s r : Stand} {c : List Call} → Turn k b d s r c k' b' d' → Asks b d s → Asks b' d' r
turn_asks (writes got p m w) a = asks_same w.m w.to a
turn_asks {d = d} {d' = d'} {r = r} (answers p x) a =
    let y = passes_pace x.passes in
    let i : length d' ≡ length d = y.out_same in
    let o : r.to ≤ length d = y.inside (omega arith) in
    let g = a.large in
    let u = a.piece in
    let e = x.m in
    record { piece = omega arith; answers = omega arith; large = omega arith }
turn_asks (reads got p l m x) a = heard_asks got l m x a
turn_asks (stops p x) a = asks_same (ap (λ z. z.m) x) (ap (λ z. z.to) x) a

pub run_asks : {cs : List Call} {k b d : List ℕ} {s : Stand} → Run cs k b d s → Asks b d s
run_asks (begin k b d e h) = record { piece = omega arith; answers = omega arith; large = h }
run_asks (more x h t) = turn_asks t (run_asks x)

-- ---- where a run stands: before the input's end was read
record Open (cs : List Call) (k b d : List ℕ) (s : Stand) : Type 0 where
  pub phase : (s.phase ≡ 0) ⊎ (s.phase ≡ 3)
  pub lines : List Line
  pub text : List ℕ
  pub earlier : List ℕ
  pub answered : Answered Lists lines text
  pub split : text ≡ took cs ++ between s.from s.to d
  pub size : length k ≡ 255
  pub fed : Fed earlier (take s.m b) s.at lines k s.n
  pub input : brought cs ≡ earlier ++ take s.m b

-- and after it
record Closed (cs : List Call) (k b d : List ℕ) (s : Stand) : Type 0 where
  pub phase : s.phase ≡ 0 → ⊥
  pub idle : s.m ≤ s.at
  pub done : s.phase ≡ 2 → s.to ≤ s.from
  pub output : Output Lists (brought cs) (took cs ++ between s.from s.to d)

abbrev Stands : List Call → List ℕ → List ℕ → List ℕ → Stand → Type 0
Stands cs k b d s = Open cs k b d s ⊎ Closed cs k b d s

stand_same : {r q : Stand} → r.n ≡ q.n → r.at ≡ q.at → r.m ≡ q.m → r.from ≡ q.from → r.to ≡ q.to → r.phase ≡ q.phase → r ≡ q
stand_same a b c d e f = λ i. record { n = a i; at = b i; m = c i; from = d i; to = e i; phase = f i }

settled : (w p q : ℕ) → Settles w p q → (q ≡ p) ⊎ (q ≡ 3)
settled zero p q h = h
settled (suc w) p q h = inl h

module _ (cs : List Call) (k b d : List ℕ) (s : Stand) where
  regroup : (w : ℕ) → took cs ++ between s.from s.to d ≡ (took cs ++ take w (between s.from s.to d)) ++ between (s.from + w) s.to d
  regroup w =
      ap (λ z. took cs ++ z) (between_split s.from s.to w d)
      ∙ sym (append_assoc (took cs) (take w (between s.from s.to d)) (between (s.from + w) s.to d))

  all_taken : s.to ≤ s.from → took cs ++ between s.from s.to d ≡ took cs
  all_taken h = ap (λ z. took cs ++ z) (none_left d h) ∙ append-nil (took cs)

  -- a write that moved w bytes
  after_write : (got : ℤ) (p : ℕ) → s.phase < 2 → Settles (moved got) s.phase p → Stands cs k b d s
      → Stands (write (between s.from s.to d) got ∷ cs) k b d (record { n = s.n; at = s.at; m = s.m; from = s.from + moved got; to = s.to; phase = p })
  unfolding took brought
  after_write got p l h (inl x) = inl (record {
    phase = go (settled (moved got) s.phase p h) x.phase;
    lines = x.lines;
    text = x.text;
    earlier = x.earlier;
    answered = x.answered;
    split = x.split ∙ regroup (moved got);
    size = x.size;
    fed = x.fed;
    input = x.input;
  })
    where
      go : (p ≡ s.phase) ⊎ (p ≡ 3) → (s.phase ≡ 0) ⊎ (s.phase ≡ 3) → (p ≡ 0) ⊎ (p ≡ 3)
      go (inl a) (inl e) = inl (a ∙ e)
      go (inl a) (inr e) = inr (a ∙ e)
      go (inr a) e = inr a
  after_write got p l h (inr x) = inr (record {
    phase = λ e. go (settled (moved got) s.phase p h) e;
    idle = x.idle;
    done = λ e. absurd (two (settled (moved got) s.phase p h) e);
    output = subst (Output Lists (brought cs)) (regroup (moved got)) x.output;
  })
    where
      go : (p ≡ s.phase) ⊎ (p ≡ 3) → p ≡ 0 → ⊥
      go (inl a) e = x.phase (sym a ∙ e)
      go (inr a) e = omega arith

      two : (p ≡ s.phase) ⊎ (p ≡ 3) → p ≡ 2 → ⊥
      two (inl a) e = omega arith
      two (inr a) e = omega arith

  -- lines answered
  after_answer : (r : Stand) (k' d' : List ℕ) → s.to ≤ s.from → s.at < s.m → Answers k b d s r k' d' → Asks b d s → Stands cs k b d s
      → Stands cs k' b d' (record { n = r.n; at = r.at; m = s.m; from = 0; to = r.to; phase = s.phase })
  after_answer r k' d' l i x a (inl y) =
      let z = passes_pace x.passes in
      let q = z.served in
      let w : r.to ≡ 0 + length q.text = z.whole in
      let o : r.to ≤ length d = z.inside (omega arith) in
      let e : between 0 r.to d' ≡ q.text = (put_front (omega arith) q.put).1 in
      inl (record {
        phase = y.phase;
        lines = y.lines ++ q.lines;
        text = y.text ++ q.text;
        earlier = y.earlier;
        answered = answered_append y.answered q.answered;
        split = ap₂ ◌++◌ (y.split ∙ all_taken l) (sym e);
        size = x.kept ∙ y.size;
        fed = q.fed y.fed;
        input = y.input;
      })
  after_answer r k' d' l i x a (inr y) = absurd (let o : s.m ≤ s.at = y.idle in omega arith)

  -- a read that brought some bytes, or none
  after_read : (got : ℤ) (b' : List ℕ) (p : ℕ) → s.to ≤ s.from → s.m ≤ s.at → s.phase ≡ 0 → Settles (moved got) s.phase p → Stands cs k b d s
      → Stands (read got b' ∷ cs) k b' d (record { n = s.n; at = 0; m = moved got; from = 0; to = 0; phase = p })
  unfolding took brought
  after_read got b' p l i e h (inl y) =
      let o = length-take s.m b in
      inl (record {
        phase = go (settled (moved got) s.phase p h);
        lines = y.lines;
        text = y.text;
        earlier = y.earlier ++ take s.m b;
        answered = y.answered;
        split = y.split ∙ all_taken l ∙ sym (append-nil (took cs));
        size = y.size;
        fed = next_piece (take (moved got) b') y.fed (omega arith);
        input = ap (λ z. z ++ take (moved got) b') y.input;
      })
    where
      go : (p ≡ s.phase) ⊎ (p ≡ 3) → (p ≡ 0) ⊎ (p ≡ 3)
      go (inl a) = inl (a ∙ e)
      go (inr a) = inr a
  after_read got b' p l i e h (inr y) = absurd (y.phase e)

  -- a read that met the input's end
  after_end : (b' d' : List ℕ) (to : ℕ) → s.to ≤ s.from → s.m ≤ s.at → s.phase ≡ 0 → Put d 0 (end_text s.n) to d' → Asks b d s → Stands cs k b d s
      → Stands (read (pos 0) b' ∷ cs) k b' d' (record { n = 0; at = 0; m = 0; from = 0; to = to; phase = 1 })
  unfolding took brought
  after_end b' d' to l i e h a (inl y) =
      let o = length-take s.m b in
      let u = end_short s.n in
      let g = a.large in
      let q : between 0 to d' ≡ end_text s.n = (put_front (omega arith) h).1 in
      let f = fed_output (next_piece [] y.fed (omega arith)) y.size y.answered in
      let w : (y.earlier ++ take s.m b) ++ [] ≡ brought cs ++ [] = ap (λ z. z ++ []) (sym y.input) in
      inr (record {
        phase = λ z. omega arith;
        idle = omega arith;
        done = λ z. absurd (omega arith);
        output = subst (Output Lists (brought cs ++ [])) (ap₂ ◌++◌ (y.split ∙ all_taken l) (sym q)) (subst (λ z. Output Lists z (y.text ++ end_text s.n)) w f);
      })
  after_end b' d' to l i e h a (inr y) = absurd (y.phase e)

heard_stands : {cs : List Call} {k b d : List ℕ} {s : Stand} (got : ℤ) {r : Stand} {b' d' : List ℕ} → s.to ≤ s.from → s.m ≤ s.at → s.phase ≡ 0
    → Heard d s got r d' → Asks b d s → Stands cs k b d s → Stands (read got b' ∷ cs) k b' d' r
heard_stands {cs} {k} {b} {d} {s} (pos zero) {r} {b'} {d'} l i e x a y =
    subst (Stands (read (pos zero) b' ∷ cs) k b' d') (sym (stand_same x.n x.at x.m x.from refl x.phase))
    (after_end cs k b d s b' d' r.to l i e x.ends a y)
heard_stands {cs} {k} {b} {d} {s} (pos (suc g)) {r} {b'} {d'} l i e x a y =
    subst (λ z. Stands (read (pos (suc g)) b' ∷ cs) k b' z r) (sym x.same)
    (subst (Stands (read (pos (suc g)) b' ∷ cs) k b' d) (sym (stand_same x.n x.at x.m x.from x.to refl))
    (after_read cs k b d s (pos (suc g)) b' r.phase l i e x.phase y))
heard_stands {cs} {k} {b} {d} {s} (negsuc g) {r} {b'} {d'} l i e x a y =
    subst (λ z. Stands (read (negsuc g) b' ∷ cs) k b' z r) (sym x.same)
    (subst (Stands (read (negsuc g) b' ∷ cs) k b' d) (sym (stand_same x.n x.at x.m x.from x.to refl))
    (after_read cs k b d s (negsuc g) b' r.phase l i e x.phase y))

stopped_stands : {cs : List Call} {k b d : List ℕ} {s r : Stand} → s.phase < 2 → s.to ≤ s.from → s.m ≤ s.at → (s.phase ≡ 0 → ⊥)
    → r ≡ at_stop s → Stands cs k b d s → Stands cs k b d r
stopped_stands {s = s} h l i e x (inl y) = absurd (go y.phase)
  where
    go : (s.phase ≡ 0) ⊎ (s.phase ≡ 3) → ⊥
    go (inl a) = e a
    go (inr a) = omega arith
stopped_stands {cs} {k} {b} {d} {s} h l i e x (inr y) =
    subst (Stands cs k b d) (sym x)
    (inr (record { phase = λ z. omega arith; idle = i; done = λ z. l; output = y.output }))

turn_stands : {cs : List Call} {k b d k' b' d' : List ℕ} {s r : Stand} {c : List Call} → s.phase < 2 → Turn k b d s r c k' b' d'
    → Asks b d s → Stands cs k b d s → Stands (c ++ cs) k' b' d' r
turn_stands {cs} {k} {b} {d} {s = s} {r = r} h (writes got p m w) a y =
    subst (Stands (write (between s.from s.to d) got ∷ cs) k b d) (sym (stand_same w.n w.at w.m w.from w.to refl))
    (after_write cs k b d s got r.phase h w.phase y)
turn_stands {cs} {k} {b} {d} {k'} {d' = d'} {s = s} {r = r} h (answers (l, i) x) a y =
    subst (Stands cs k' b d') (sym (stand_same refl refl x.m x.from refl x.phase)) (after_answer cs k b d s r k' d' l i x a y)
turn_stands h (reads got (e, l, i, z) n m x) a y = heard_stands got l i z x a y
turn_stands h (stops (l, i, e) x) a y = stopped_stands h l i e x y

run_stands : {cs : List Call} {k b d : List ℕ} {s : Stand} → Run cs k b d s → Stands cs k b d s
unfolding took brought
run_stands (begin k b d e h) = inl (record {
  phase = inl refl;
  lines = [];
  text = [];
  earlier = [];
  answered = no_line;
  split = refl;
  size = e;
  fed = start [];
  input = refl;
})
run_stands (more x h t) = turn_stands h t (run_asks x) (run_stands x)

-- ---- the two theorems
module _ {cs : List Call} {k b d : List ℕ} {s : Stand} (x : Run cs k b d s) where
  pub run_output : s.phase ≡ 2 → Output Lists (brought cs) (took cs)
  run_output e = go (run_stands x)
    where
      go : Stands cs k b d s → Output Lists (brought cs) (took cs)
      go (inl y) = absurd (no y.phase)
        where
          no : (s.phase ≡ 0) ⊎ (s.phase ≡ 3) → ⊥
          no (inl a) = omega arith
          no (inr a) = omega arith
      go (inr y) = subst (Output Lists (brought cs)) (all_taken cs k b d s (y.done e)) y.output

  pub run_begins : Begun cs ⊎ Ending cs
  run_begins = go (run_stands x)
    where
      go : Stands cs k b d s → Begun cs ⊎ Ending cs
      go (inl y) = inl (record {
        seen = y.earlier ++ take s.at (take s.m b);
        unseen = drop s.at (take s.m b);
        input = y.input ∙ ap (λ z. y.earlier ++ z) (sym (take-append-drop s.at (take s.m b)))
            ∙ sym (append_assoc y.earlier (take s.at (take s.m b)) (drop s.at (take s.m b)));
        lines = y.lines;
        left = s.n;
        cut = ap (λ z. lines_of z (y.earlier ++ take s.at (take s.m b))) (sym y.size) ∙ fed_lines y.fed;
        rest = between s.from s.to d;
        answered = subst (Answered Lists y.lines) y.split y.answered;
      })
      go (inr y) = inr (record { rest = between s.from s.to d; output = y.output })

  pub ran : (i i' o o' : Option (List ℕ)) → Consumes i i' (brought cs) → Appends o o' (took cs) → Ran i i' o o' s
  ran i i' o o' p q = record { calls = cs; input = p; output = q; k = k; b = b; d = d; run = x; whole = run_output; part = run_begins }
