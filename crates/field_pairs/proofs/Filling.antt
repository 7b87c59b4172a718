-- The loop that fills the two lists: its start and its end. One turn is `turned` of crate field_next.
use mathlib.Core.Path.{◌≡◌, refl, sym, ap, ap₂, ◌∙◌}
use mathlib.Core.List.{List}
use Prim.Native.Nat.{ℕ, ◌*◌, ◌%◌, ◌≤◌, ◌<◌}
use native.Mathlib.Nat.{mod-lt}
use native.Mathlib.Omega.{arith}
use lib.ListN.{length, set, length-set}
use lib.Seq.{get_or-set_same}
use Rattle.base_lists.specs.Sums.{entry, conv}
use Rattle.field_next.specs.Next.{Filled}
use Rattle.field_next.proofs.Step.{w_first, start_square, start_product}
use Rattle.field_next.proofs.Turns.{more}
use Rattle.field_pairs.specs.Pairs.{Filler, Made}

-- nothing yet, and the first pair
none : (p : ℕ) (g h r w : List ℕ) → length w ≡ length r → Filled p g h r w 0
none p g h r w e = record {
  even = e;
  r_below = λ i l. absurd (omega arith);
  w_below = λ i l. absurd (omega arith);
  square = λ i l. absurd (omega arith);
  product = λ i l. absurd (omega arith);
}

pub started : (p : ℕ) (g h : List ℕ) (c u : ℕ) (r w : List ℕ) (x : ℕ) → (f : Filler p g h c u r w) → 0 < length r → x ≡ w_first p (entry g 0) (entry h 0) c u
    → Filled p g h (set r 0 c) (set w 0 x) 1
unfolding conv
started p g h c u r w x f l ex =
    let even : length w ≡ length r = f.even in
    let new-c : entry (set r 0 c) 0 ≡ c = get_or-set_same r 0 c 0 l in
    let new-x : entry (set w 0 x) 0 ≡ x = get_or-set_same w 0 x 0 (omega arith) in
    let low : x < p = rw ex (mod-lt (3 * ((entry g 0 * entry h 0) % p) * ((c * u) % p)) f.pos) in
    let cl : c < p = f.c_below in
    more p g h r w (set r 0 c) (set w 0 x) 0 (none p g h r w even) (length-set w 0 x ∙ even ∙ sym (length-set r 0 c)) (λ j q. absurd (omega arith)) (λ j q. absurd (omega arith))
    (omega arith) (omega arith)
    (ap₂ (λ y z. (y * z) % p) new-c new-c ∙ start_square p f.pos (entry g 0) (entry h 0) c u f.unit f.cube ∙ ap (λ y. (entry h 0 * y) % p) (sym (new-x ∙ ex)))
    (ap₂ (λ y z. (y * z) % p) new-c (new-x ∙ ex) ∙ start_product p f.pos (entry g 0) (entry h 0) c u f.unit f.cube)

pub made_none : (p : ℕ) (g h : List ℕ) (c u : ℕ) (r w : List ℕ) → Filler p g h c u r w → length r ≤ 0 → Made p g h c r r w
made_none p g h c u r w f l = record { size = refl; first = λ q. absurd (omega arith); done = rw (let e : length r ≡ 0 = omega arith in e) (none p g h r w f.even) }
