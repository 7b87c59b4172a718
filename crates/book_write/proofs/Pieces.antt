-- Head and lists, one piece after another, are the body; what the code knows on the way.
use mathlib.Core.Path.{◌≡◌, refl, sym, ap, ◌∙◌, subst}
use mathlib.Core.List.{List, [], ◌++◌, append_assoc, append-nil}
use Prim.Native.Nat.{ℕ, ◌+◌, ◌≤◌}
use native.Mathlib.Omega.{arith}
use lib.ListN.{length, drop, length-append}
use lib.Seq.{sets-eq}
use Rattle.field_open.specs.Refusal.{Refusal}
use Rattle.base_lists.specs.Pieces.{Written}
use Rattle.book_bytes.specs.Bytes.{le}
use Rattle.book_bytes.proofs.Read.{length_words}
use Rattle.base_lists.proofs.Puts.{written_then}
use Rattle.base_answers.specs.Said.{passed}
use Rattle.book_body.specs.Body.{Body, Rule, FieldSays, body_bytes}
use Rattle.book_body.proofs.Field.{Fits, fits}
use Rattle.book_write.specs.Write.{body_from, WriteTells, done}
use Rattle.book_pieces.specs.Code.{Head, head_bytes, Lists, list_bytes, list_long}
use Rattle.book_pieces.proofs.Put.{PutLists}

-- numbers and lists are the body's bytes
pub body_bytes_lem : (b : Body)
    → head_bytes b.p (length b.G) (length b.H) (length b.E0) (length b.E1) (length b.E2) b.period
    ++ list_bytes b.G b.H b.E0 b.E1 b.E2
    ≡ body_bytes b
unfolding head_bytes list_bytes body_bytes
body_bytes_lem b = simp (append_assoc, append-nil)

pub long_head : (p g h a b c t : ℕ) → length (head_bytes p g h a b c t) ≡ 16
unfolding head_bytes le
long_head p g h a b c t = refl

pub long_lists : (g h a b c : List ℕ) → length (list_bytes g h a b c) ≡ list_long g h a b c
unfolding list_bytes
long_lists g h a b c = simp (length-append, length_words)

-- the rule does not look at G and H
pub rule_any : (p : ℕ) (G H G' H' : List ℕ) (t : ℕ) (a b c : List ℕ) → Rule (body_from p G H t a b c) → Rule (body_from p G' H' t a b c)
rule_any p G H G' H' t a b c r =
    record { from = r.from; to = r.to; row0 = r.row0; row1 = r.row1; row2 = r.row2; first = r.first }

-- head and lists, one after the other, are the body
pub body_put : (b : Body) (d d1 d2 : List ℕ) (x r : ℕ)
    → Written d 0 (head_bytes b.p (length b.G) (length b.H) (length b.E0) (length b.E1) (length b.E2) b.period) 16 x d1
    → PutLists d1 x b.G b.H b.E0 b.E1 b.E2 r d2
    → Written d 0 (body_bytes b) (16 + list_long b.G b.H b.E0 b.E1 b.E2) r d2
body_put b d d1 d2 x r q u =
    subst (λ (z : List ℕ). Written d 0 z (16 + list_long b.G b.H b.E0 b.E1 b.E2) r d2) (body_bytes_lem b)
    (written_then d 0 _ 16 x d1 (list_bytes b.G b.H b.E0 b.E1 b.E2) _ r d2 q u)

pub done_of : (b : Body) (d d1 d2 : List ℕ) (x r : ℕ) → FieldSays b 0 → Rule b
    → 16 + list_long b.G b.H b.E0 b.E1 b.E2 ≤ length d
    → Written d 0 (head_bytes b.p (length b.G) (length b.H) (length b.E0) (length b.E1) (length b.E2) b.period) 16 x d1
    → PutLists d1 x b.G b.H b.E0 b.E1 b.E2 r d2
    → WriteTells b d (passed r) d2
done_of b d d1 d2 x r o ru m q u =
    let w : Written d 0 (body_bytes b) (16 + list_long b.G b.H b.E0 b.E1 b.E2) r d2 = body_put b d d1 d2 x r q u in
    let k : ℕ = 16 + list_long b.G b.H b.E0 b.E1 b.E2 in
    let n : r ≡ 0 + k = w.next in
    let s : length (body_bytes b) ≡ k = w.size in
    let e : r ≡ length (body_bytes b) = omega arith in
    let f : 0 + length (body_bytes b) ≡ length (body_bytes b) = omega arith in
    done o ru (omega arith) (ap passed e) (w.done ∙ sets-eq (body_bytes b) d 0 (omega arith) ∙ ap (λ (z : ℕ). body_bytes b ++ drop z d) f)

-- ---- what the code knows once the field and the rule are passed
pub record Known (b : Body) : Type 0 where
  pub field : FieldSays b 0
  pub rule : Rule b

pub known : (p : ℕ) (G H : List ℕ) (t : ℕ) (a b c : List ℕ) → Refusal p G H 0 → Rule (body_from p [] [] t a b c) → Known (body_from p G H t a b c)
known p G H t a b c o r = record { field = o; rule = rule_any p [] [] G H t a b c r }

pub head_of : (b : Body) (d : List ℕ) → Known b → 16 + list_long b.G b.H b.E0 b.E1 b.E2 ≤ length d
    → Head d b.p (length b.G) (length b.H) (length b.E0) (length b.E1) (length b.E2) b.period
head_of b d k h =
    let f : Fits b = fits b k.rule k.field in
    record {
      room = omega arith;
      p_fits = f.p;
      g_fits = f.n_g;
      h_fits = f.n_h;
      a_fits = f.n0;
      b_fits = f.n1;
      c_fits = f.n2;
      t_fits = f.period;
    }

pub lists_of : (b : Body) (d d1 y : List ℕ) (x : ℕ) → Known b → 16 + list_long b.G b.H b.E0 b.E1 b.E2 ≤ length d
    → Written d 0 y 16 x d1 → Lists d1 x b.G b.H b.E0 b.E1 b.E2
lists_of b d d1 y x k h q =
    let f : Fits b = fits b k.rule k.field in
    let n : x ≡ 0 + 16 = q.next in
    let s : length d1 ≡ length d = q.same in
    record { room = omega arith; g_small = f.G; h_small = f.H; a_small = f.E0; b_small = f.E1; c_small = f.E2 }

pub long_body : (b : Body) → length (body_bytes b) ≡ 16 + list_long b.G b.H b.E0 b.E1 b.E2
long_body b =
    let e : length (list_bytes b.G b.H b.E0 b.E1 b.E2) ≡ list_long b.G b.H b.E0 b.E1 b.E2 = long_lists b.G b.H b.E0 b.E1 b.E2 in
    ap length (sym (body_bytes_lem b)) ∙ length-append (head_bytes b.p (length b.G) (length b.H) (length b.E0) (length b.E1) (length b.E2) b.period) (list_bytes b.G b.H b.E0 b.E1 b.E2)
    ∙ ap (λ (z : ℕ). z + length (list_bytes b.G b.H b.E0 b.E1 b.E2)) (long_head b.p (length b.G) (length b.H) (length b.E0) (length b.E1) (length b.E2) b.period)
    ∙ ap (λ (z : ℕ). 16 + z) e
