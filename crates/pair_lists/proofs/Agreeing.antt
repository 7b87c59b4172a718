-- What `agree` finds out of two lists of coefficients over one prime: lengths that differ, an entry whose products differ, or neither.
--   swap_in, some_in           the lists in the other order; they are not empty
--   entries_in, product_fits   the entries that are multiplied fit 16 bits, and a product of two 64
--   long_no       lists of two lengths do not agree
--   pairs_settle  what all pairs of entries of lists of one length say
use mathlib.Core.Path.{◌≡◌, sym, ap, ◌∙◌, subst}
use mathlib.Core.Logic.{◌≢◌}
use mathlib.Core.List.{List}
use Prim.Native.Nat.{ℕ, suc, ◌-◌, ◌*◌, ◌%◌, ◌<◌, ◌≤◌}
use native.Mathlib.Nat.{mul-le-mul}
use native.Mathlib.Omega.{arith}
use mir.Syntax.{w64}
use mir.Val.{Fits}
use lib.ListN.{length, get_or}
use mathlib.Core.Bool.{Bool, true, false}
use Rattle.std.specs.Bool.{MatchBool}
use Rattle.std.specs.List.{zip, AllWithin, HoldsAt}
use Rattle.std.proofs.lemmas.Slice.Zip.{length-zip, get_or-zip}
use Rattle.base_answers.specs.Decides.{Decides}
use Rattle.base_answers.proofs.Tests.{answer_yes, answer_no}
use Rattle.pair_laws.specs.OneField.{leading, Agree}
use Rattle.pair_laws.proofs.Lists.{cross_from, cross_of, agree_of}
use Rattle.pair_lists.specs.Code.{AgreeAsks}

pub swap_in : {p : ℕ} {a b : List ℕ} → AgreeAsks p a b → AgreeAsks p b a
swap_in s = record { prime = s.prime; small = s.small; most = s.most; d = s.d'; d' = s.d; list = s.list'; list' = s.list }

pub some_in : {p : ℕ} {a b : List ℕ} → AgreeAsks p a b → 1 ≤ length a
some_in {a} s = let e : length a ≡ suc s.d = s.list.whole in omega arith

entry_in : {p : ℕ} {a b : List ℕ} → AgreeAsks p a b → (i : ℕ) → i < length a → get_or a i 0 ≤ 65535
entry_in s i k = omega (arith, s.list.each i k, s.small)

pub entries_in : {p : ℕ} {a b : List ℕ} → AgreeAsks p a b → length a ≡ length b → (i : ℕ) → i < length a →
    (get_or a (length a - 1) 0 ≤ 65535) × (get_or b (length a - 1) 0 ≤ 65535) × (get_or a i 0 ≤ 65535) × (get_or b i 0 ≤ 65535)
entries_in {a} s e i k = let t = length a - 1 in (entry_in s t (omega arith), entry_in (swap_in s) t (omega arith), entry_in s i k, entry_in (swap_in s) i (omega arith))

pub product_fits : {u v : ℕ} → u ≤ 65535 → v ≤ 65535 → Fits w64 (u * v)
product_fits h k = omega (arith, mul-le-mul h k)

pub long_no : {p : ℕ} {a b : List ℕ} → length a ≢ length b → Agree p a b → ⊥
long_no ne (m, f, g) = ne (sym f.long ∙ g.long)

-- n is the length of both, as the code has it
module _ {p : ℕ} {a b : List ℕ} (s : AgreeAsks p a b) (e : length a ≡ length b) where
  abbrev Even : ℕ → Type 0
  Even i = (get_or b (length a - 1) 0 * get_or a i 0) % p ≡ (get_or a (length a - 1) 0 * get_or b i 0) % p

  lead : get_or b (length a - 1) 0 ≡ leading b
  lead = ap (λ n. get_or b (n - 1) 0) e

  entry_no : (i : ℕ) → (Even i → ⊥) → Agree p a b → ⊥
  entry_no i ne h = ne (ap (λ y. (y * get_or a i 0) % p) lead ∙ (cross_of p s.prime a b h).cross i)

  agree_yes : ((i : ℕ) → i < length a → Even i) → Agree p a b
  agree_yes f = agree_of p s.prime s.list b (cross_from p a b e (λ i k. ap (λ y. (y * get_or a i 0) % p) (sym lead) ∙ f i k))

  -- the products of a pair of entries are equal
  abbrev pub Same : ℕ × ℕ → Type 0
  Same z = (get_or b (length a - 1) 0 * z.0) % p ≡ (get_or a (length a - 1) 0 * z.1) % p

  pub pair_at : (i : ℕ) (d : ℕ × ℕ) → i < length a → get_or (zip a b) i d ≡ (get_or a i d.0, get_or b i d.1)
  pair_at i d k = get_or-zip a b i d k (omega arith)

  pub pairs_settle : (r : Bool) → MatchBool r (AllWithin Same (zip a b) 0 (length (zip a b))) ((k : ℕ) × (k < length (zip a b)) × HoldsAt (λ z. Same z → ⊥) (zip a b) k) → Decides r (Agree p a b)
  pairs_settle true h = answer_yes (agree_yes (λ i k. subst Same (pair_at i (0, 0) k) (h i (0, 0) (omega arith) (omega (arith, length-zip a b)))))
  pairs_settle false (k, l, h) = answer_no (entry_no k (subst (λ z. Same z → ⊥) (pair_at k (0, 0) (omega (arith, length-zip a b))) (h (0, 0))))
