-- Fields and series by computed tests.
--   every_at                  one of a list of tests
--   below_sound, up_to_sound   numbers below p; a test at all numbers below n
--   accepted_of               an accepted field
--   series_of                 the first coefficients of its two series
use mathlib.Core.Path.{◌≡◌, sym, subst}
use mathlib.Core.Logic.{◌≢◌}
use mathlib.Core.Bool.{Bool, true, not}
use mathlib.Core.List.{List, [], ◌∷◌}
use Prim.Native.Nat.{ℕ, zero, suc, ◌+◌, ◌-◌, ◌%◌, ◌<◌, ◌≤◌}
use native.Mathlib.Omega.{arith}
use native.Mathlib.Decide.{ℕ_discrete}
use lib.Dec.{T, eqb, ltb, eqb→eq, ltb→lt, leb→le, eqb_refl, T_not}
use lib.ListN.{length, get_or}
use Rattle.base_lists.specs.Sums.{entry, prod}
use Rattle.math_fp.proofs.Trial.{and_l, and_r, primeb_sound}
use Rattle.field_open.specs.Refusal.{Degree, Accepted}
use Rattle.field_roots.specs.SeriesOf.{top, SeriesOf}
use Rattle.examples_lists.specs.Lists.{slope}
use Rattle.examples_lists.specs.Quotients.{bezout}
use Rattle.examples_lists.proofs.Meaning.{coprime_list, squarefree_list}
use Rattle.examples_tests.specs.Tests.{every, up_to, below, listed, accepts, begins}

pub every_at : (l : List Bool) → T (every l) → (i : ℕ) → T (get_or l i true)
every_at [] t i = tt
every_at (b ∷ l) t zero = and_l b (every l) t
every_at (b ∷ l) t (suc i) = every_at l (and_r b (every l) t) i

pub up_to_sound : (n : ℕ) (f : ℕ → Bool) → T (up_to n f) → (i : ℕ) → i < n → T (f i)
up_to_sound zero f t i h = absurd (omega arith)
up_to_sound (suc n) f t i h = elim (ℕ_discrete i n) [
  | yes e ↦ subst (λ j. T (f j)) (sym e) (and_l (f n) (up_to n f) t)
  | no e ↦ up_to_sound n f (and_r (f n) (up_to n f) t) i (omega arith)
]

pub below_sound : (p : ℕ) (l : List ℕ) → T (below p l) → (i : ℕ) → i < length l → get_or l i 0 < p
below_sound p [] t i h = absurd (omega arith)
below_sound p (a ∷ x) t zero h = ltb→lt a p (and_l (ltb a p) (below p x) t)
below_sound p (a ∷ x) t (suc i) h = below_sound p x (and_r (ltb a p) (below p x) t) i (omega arith)

pub differ : (a b : ℕ) → T (not (eqb a b)) → a ≢ b
differ a b t e = T_not (eqb a b) t (subst (λ n. T (eqb a n)) e (eqb_refl a))

module _ (p : ℕ) where
  pub listed_sound : (l : List ℕ) → T (every (listed p l)) → Degree p l (length l - 1)
  listed_sound l t =
      let at : (i : ℕ) → T (get_or (listed p l) i true) = every_at (listed p l) t in
      let s : 1 ≤ length l = leb→le 1 (length l) (at 0) in
      record {
        whole = omega arith;
        short = leb→le (length l) 13 (at 1);
        each = below_sound p l (at 2);
        last = differ (get_or l (length l - 1) 0) 0 (at 3);
      }

  module _ (G H : List ℕ) where
    pub accepted_of : T (every (accepts p G H)) → Accepted p G H
    accepted_of t =
        let at : (i : ℕ) → T (get_or (accepts p G H) i true) = every_at (accepts p G H) t in
        record {
          prime = primeb_sound p (at 0);
          low = leb→le 5 p (at 1);
          high = leb→le p 65535 (at 2);
          kind = eqb→eq (p % 3) 2 (at 3);
          deg_g = length G - 1;
          deg_h = length H - 1;
          list_g = listed_sound G (at 4);
          list_h = listed_sound H (at 5);
          some = ltb→lt 0 (length G - 1 + (length H - 1)) (at 6);
          sum = leb→le (length G - 1 + (length H - 1)) 16 (at 7);
          thirds = eqb→eq ((length G - 1) % 3) ((length H - 1) % 3) (at 8);
          free_g = λ pr. squarefree_list p pr (bezout p G (slope p G)).0 (bezout p G (slope p G)).1 G (at 9);
          free_h = λ pr. squarefree_list p pr (bezout p H (slope p H)).0 (bezout p H (slope p H)).1 H (at 10);
          apart = λ pr. coprime_list p pr (bezout p G H).0 (bezout p G H).1 G H (at 11);
        }

    pub series_of : (r w : List ℕ) → T (every (begins p G H r w)) → SeriesOf p G H r w
    series_of r w t =
        let at : (i : ℕ) → T (get_or (begins p G H r w) i true) = every_at (begins p G H r w) t in
        let e : length w ≡ length r = eqb→eq (length w) (length r) (at 0) in
        record {
          even = e;
          r_below = below_sound p r (at 1);
          w_below = λ i h. below_sound p w (at 2) i (omega arith);
          first = λ h. eqb→eq _ _ (at 3);
          square = λ i h. eqb→eq _ _ (up_to_sound (length r) (λ i. eqb (prod (entry r) (entry r) i % p) (prod (top H) (entry w) i % p)) (at 4) i h);
          product = λ i h. eqb→eq _ _ (up_to_sound (length r) (λ i. eqb (prod (entry r) (entry w) i % p) (prod (top G) (top H) i % p)) (at 5) i h);
        }
