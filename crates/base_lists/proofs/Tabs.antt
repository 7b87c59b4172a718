-- Lists given by a formula, and the loops that fill one.
--   length_tab, at_tab, past_tab        how long `tab` is, what stands in it, and 0 past its end
--   Filled, filled_start, _more, _end   a loop that fills a list from the front: three lemmas prove every such function
--   Begun, begun_start, _more, _end     the same for a loop that starts from zeros and stops where the formula is 0
use mathlib.Core.Path.{◌≡◌, refl, sym, ap, ◌∙◌}
use mathlib.Core.List.{List}
use Prim.Native.Nat.{ℕ, zero, suc, ◌+◌, ◌<◌, ◌≤◌}
use native.Mathlib.Nat.{zero-add, add-zero, add-suc, suc-add}
use native.Mathlib.Omega.{arith}
use native.Mathlib.Decide.{dec_lt, ℕ_discrete}
use lib.ListN.{length, get_or, set, replicate, length-set, length-replicate, get_or-eq_default}
use lib.Seq.{ext_get_or, get_or-set_same, get_or-set_other}
use Rattle.base_lists.specs.Pieces.{tab_from, tab}

length_from : (i n : ℕ) (f : ℕ → ℕ) → length (tab_from i n f) ≡ n
length_from i zero f = refl
length_from i (suc n) f = ap suc (length_from (suc i) n f)

pub length_tab : (n : ℕ) (f : ℕ → ℕ) → length (tab n f) ≡ n
unfolding tab
length_tab n f = length_from 0 n f

at_from : (i n : ℕ) (f : ℕ → ℕ) (k : ℕ) → k < n → get_or (tab_from i n f) k 0 ≡ f (i + k)
at_from i zero f k l = absurd (omega arith)
at_from i (suc n) f zero l = ap f (sym (add-zero i))
at_from i (suc n) f (suc k) l = at_from (suc i) n f k (omega arith) ∙ ap f (suc-add i k ∙ sym (add-suc i k))

pub at_tab : (n : ℕ) (f : ℕ → ℕ) (k : ℕ) → k < n → get_or (tab n f) k 0 ≡ f k
unfolding tab
at_tab n f k l = at_from 0 n f k l ∙ ap f (zero-add k)

pub past_tab : (n : ℕ) (f : ℕ → ℕ) (k : ℕ) → n ≤ k → get_or (tab n f) k 0 ≡ 0
past_tab n f k l = get_or-eq_default (tab n f) 0 {n = k} (let e : length (tab n f) ≡ n = length_tab n f in omega arith)

-- ---- the invariant of a loop that fills a row of n from the front
pub record Filled (n : ℕ) (f : ℕ → ℕ) (r : List ℕ) (i : ℕ) : Type 0 where
  pub size : length r ≡ n
  pub upto : i ≤ n
  pub done : (k : ℕ) → k < i → get_or r k 0 ≡ f k

pub filled_start : (n : ℕ) (f : ℕ → ℕ) (r : List ℕ) → length r ≡ n → Filled n f r 0
filled_start n f r e = record { size = e; upto = omega arith; done = λ k l. absurd (omega arith) }

pub filled_more : (n : ℕ) (f : ℕ → ℕ) (r : List ℕ) (i v : ℕ) → Filled n f r i → i < n → v ≡ f i → Filled n f (set r i v) (i + 1)
filled_more n f r i v h l e = record {
  size = length-set r i v ∙ h.size;
  upto = omega arith;
  done = λ k u. at k u (ℕ_discrete k i);
}
  where
    at : (k : ℕ) → k < i + 1 → Dec (k ≡ i) → get_or (set r i v) k 0 ≡ f k
    at k u (yes z) = ap (λ m. get_or (set r i v) m 0) z ∙ get_or-set_same r i v 0 (let s : length r ≡ n = h.size in omega arith) ∙ e ∙ ap f (sym z)
    at k u (no z) = get_or-set_other r i k v 0 z ∙ h.done k (omega arith)

pub filled_end : (n : ℕ) (f : ℕ → ℕ) (r : List ℕ) (i : ℕ) → Filled n f r i → n ≤ i → r ≡ tab n f
filled_end n f r i h l =
    ext_get_or 0 r (tab n f) (h.size ∙ sym (length_tab n f)) (λ k u. let s : length r ≡ n = h.size in let w : k < n = omega arith in h.done k (omega arith) ∙ sym (at_tab n f k w))

-- ---- the same for a loop that starts from zeros and stops where the formula is 0
pub zeros_at : (n i : ℕ) → ◌≡◌ {A = ℕ} (get_or (replicate n 0) i 0) 0
zeros_at zero i = refl
zeros_at (suc n) zero = refl
zeros_at (suc n) (suc i) = zeros_at n i

pub record Begun (n : ℕ) (f : ℕ → ℕ) (r : List ℕ) (i : ℕ) : Type 0 where
  pub size : length r ≡ n
  pub done : (k : ℕ) → k < i → get_or r k 0 ≡ f k
  pub rest : (k : ℕ) → i ≤ k → get_or r k 0 ≡ 0

pub begun_start : (n : ℕ) (f : ℕ → ℕ) → Begun n f (replicate n 0) 0
begun_start n f = record { size = length-replicate n 0; done = λ k l. absurd (omega arith); rest = λ k l. zeros_at n k }

pub begun_more : (n : ℕ) (f : ℕ → ℕ) (r : List ℕ) (i v : ℕ) → Begun n f r i → i < n → v ≡ f i → Begun n f (set r i v) (i + 1)
begun_more n f r i v h l e = record {
  size = length-set r i v ∙ h.size;
  done = λ k u. at k u (ℕ_discrete k i);
  rest = λ k u. get_or-set_other r i k v 0 (omega arith) ∙ h.rest k (omega arith);
}
  where
    at : (k : ℕ) → k < i + 1 → Dec (k ≡ i) → get_or (set r i v) k 0 ≡ f k
    at k u (yes z) = ap (λ m. get_or (set r i v) m 0) z ∙ get_or-set_same r i v 0 (let s : length r ≡ n = h.size in omega arith) ∙ e ∙ ap f (sym z)
    at k u (no z) = get_or-set_other r i k v 0 z ∙ h.done k (omega arith)

pub begun_end : (n : ℕ) (f : ℕ → ℕ) (r : List ℕ) (i : ℕ) → Begun n f r i → ((k : ℕ) → i ≤ k → k < n → f k ≡ 0) → r ≡ tab n f
begun_end n f r i h z = ext_get_or 0 r (tab n f) (h.size ∙ sym (length_tab n f)) (λ k u. let s : length r ≡ n = h.size in let w : k < n = omega arith in at k w (dec_lt k i) ∙ sym (at_tab n f k w))
  where
    at : (k : ℕ) → k < n → Dec (k < i) → get_or r k 0 ≡ f k
    at k w (yes l) = h.done k l
    at k w (no l) = h.rest k (omega arith) ∙ sym (z k (omega arith) w)
