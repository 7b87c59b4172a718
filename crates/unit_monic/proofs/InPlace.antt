-- What `monic` leaves in the slice: the first three rows are new, the others as they were.
--   mid_at, front   the front of a list that is lent and given back
use mathlib.Core.Path.{◌≡◌, sym, ap, ◌∙◌, subst}
use mathlib.Core.List.{List, ◌++◌}
use Prim.Native.Nat.{ℕ, ◌+◌, ◌*◌, ◌-◌, ◌%◌, ◌<◌, ◌≤◌}
use native.Mathlib.Omega.{arith}
use lib.ListN.{length, get_or, take, drop}
use lib.Seq.{get_or-take, get_or-drop}
use Rattle.num_power.specs.Powers.{Inverse, Nonzero}
use Rattle.poly_long.specs.Long.{Scaled}
use Rattle.base_lists.specs.Pieces.{between}
use Rattle.base_lists.proofs.Pieces.{between_length}
use Rattle.base_lists.proofs.Puts.{Around, put_back}
use Rattle.unit_monic.specs.Monic.{MonicAsks, MonicMade}

-- a number of the first k
pub mid_at : (k : ℕ) (l : List ℕ) (i : ℕ) → i < k → get_or (between 0 k l) i 0 ≡ get_or l i 0
mid_at k l i u = get_or-take (k - 0) (drop 0 l) i 0 (omega arith) ∙ get_or-drop 0 l i 0 ∙ ap (λ j. get_or l j 0) (let o : 0 + i ≡ i = omega arith in o)

-- the front given back
pub front : (k : ℕ) (l q : List ℕ) (m : ℕ) → m ≡ k → k ≤ length l → length q ≡ k → Around 0 k l q (take 0 l ++ (q ++ drop m (drop 0 l)))
front k l q m e u s = subst (λ j. Around 0 k l q (take 0 l ++ (q ++ drop j (drop 0 l)))) (sym e) (put_back 0 k l q (omega arith) s)

module _ (p c n : ℕ) (rows : List ℕ) (h : MonicAsks p c n rows) (v : ℕ) (e : v ≡ get_or rows (n - 1) 0) where
  pub monic_asks : Nonzero p v
  monic_asks = record {
    modulus = record { big = h.modulus.prime.big; small = let o : p < 65536 = h.modulus.small in omega arith };
    prime = h.modulus.prime;
    pos = let o : 0 < get_or rows (n - 1) 0 = h.top in omega arith;
    below = let o : get_or rows (n - 1) 0 < p = h.top_below in omega arith;
  }

  pub monic_made : (q : ℕ) (d : List ℕ) (m : ℕ) → m ≡ c + c + c → Inverse p v q → Scaled p q (between 0 (c + c + c) rows) d → MonicMade p c n rows (take 0 rows ++ (d ++ drop m (drop 0 rows)))
  monic_made q d m em i s =
      let r = take 0 rows ++ (d ++ drop m (drop 0 rows)) in
      let part : length (between 0 (c + c + c) rows) ≡ c + c + c = between_length 0 (c + c + c) rows (omega arith) h.room ∙ (let o : c + c + c - 0 ≡ c + c + c = omega arith in o) in
      let put : Around 0 (c + c + c) rows d r = front (c + c + c) rows d m em h.room (s.size ∙ part) in
      let at : (j : ℕ) → j < c + c + c → get_or r j 0 ≡ get_or d j 0 = (λ j u. ap (λ k. get_or r k 0) (let o : j ≡ 0 + j = omega arith in o) ∙ put.inside j u) in
      record {
        size = put.size;
        each = λ j u. subst (λ x. x < p) (sym (at j u)) (s.each j);
        rest = λ j u. put.after j (omega arith);
        by = q;
        by_below = i.below;
        one = ap (λ x. (x * q) % p) (sym e) ∙ i.law;
        at = λ j u. at j u ∙ s.at j (omega arith) ∙ ap (λ x. (x * q) % p) (mid_at (c + c + c) rows j u);
      }
