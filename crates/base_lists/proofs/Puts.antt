-- A piece put into a list, and one piece after another.
--   sets_append, sets_out   one piece behind another is the two joined; past the list's end nothing is put
--   put_before, put_inside, put_after   what stands before the piece, in it, and behind it
--   take_put, drop_put      the same of whole parts
--   Around, around          the same, number by number, for a piece of k numbers; around_cut: the piece is what stands there
--   put_back                what stands in a slice after a part of it was lent
--   placed_none, placed_then, placed_more, placed_all   pieces placed one after the other, number by number
--   placed_same             the list keeps its length; placed_unique: two outcomes are equal
--   put_in, put_out, put_then, put_more, put_fits   the same for places counted to the list's end
--   written, written_none, written_then, written_more, written_all, written_unique   the same where there is room
--   front_is, front_count   what was written at the front is read there
use mathlib.Core.Path.{◌≡◌, refl, sym, ap, ap₂, ◌∙◌, subst}
use mathlib.Core.List.{List, [], ◌∷◌, ◌++◌, append_assoc}
use Prim.Native.Nat.{ℕ, zero, suc, ◌+◌, ◌≤◌, ◌<◌, min, max}
use native.Mathlib.Nat.{add-zero}
use native.Mathlib.Decide.{dec_le}
use native.Mathlib.Omega.{arith}
use native.Mathlib.Numerals.{add-one}
use lib.ListN.{length, get_or, take, drop, set, length-append, length-set}
use lib.Seq.{sets, length-sets, sets-eq, set_out, set_comm, get_or-set_same, get_or-set_other, take-set-le, drop-set-lt, take-suc, take_all, take_at, drop-drop, ext_get_or}
use Rattle.base_lists.specs.Pieces.{cut, With, Placed, Put, Written}
use Rattle.base_lists.proofs.Pieces.{length_cut, cut_at}

-- ---- a run of numbers
pub sets_append : (d : List ℕ) (i : ℕ) (x y : List ℕ) → sets (sets d i x) (i + length x) y ≡ sets d i (x ++ y)
sets_append d i [] y = ap (λ (k : ℕ). sets d k y) (add-zero i)
sets_append d i (a ∷ x) y =
    ap (λ (k : ℕ). sets (sets (set d i a) (suc i) x) k y) (let e : i + suc (length x) ≡ suc i + length x = omega arith in e)
    ∙ sets_append (set d i a) (suc i) x y

pub sets_out : (d : List ℕ) (i : ℕ) (x : List ℕ) → length d ≤ i → sets d i x ≡ d
sets_out d i [] h = refl
sets_out d i (a ∷ x) h =
    let e : set d i a ≡ d = set_out d i a h in
    ap (λ (z : List ℕ). sets z (suc i) x) e ∙ sets_out d (suc i) x (omega arith)

-- one number more, in front of a run
pub set_sets : (d : List ℕ) (j k v : ℕ) (x : List ℕ) → k < j → set (sets d j x) k v ≡ sets (set d k v) j x
set_sets d j k v [] h = refl
set_sets d j k v (a ∷ x) h =
    set_sets (set d j a) (suc j) k v x (omega arith) ∙ ap (λ (z : List ℕ). sets z (suc j) x) (set_comm d j k a v (λ e. omega arith))

pub put_before : (d : List ℕ) (j k : ℕ) (x : List ℕ) → k < j → get_or (sets d j x) k 0 ≡ get_or d k 0
put_before d j k [] h = refl
put_before d j k (a ∷ x) h = put_before (set d j a) (suc j) k x (omega arith) ∙ get_or-set_other d j k a 0 (λ e. omega arith)

pub put_after : (d : List ℕ) (j k : ℕ) (x : List ℕ) → j + length x ≤ k → get_or (sets d j x) k 0 ≡ get_or d k 0
put_after d j k [] h = refl
put_after d j k (a ∷ x) h = put_after (set d j a) (suc j) k x (omega arith) ∙ get_or-set_other d j k a 0 (λ e. omega arith)

pub put_inside : (d : List ℕ) (j : ℕ) (x : List ℕ) (i : ℕ) → j + length x ≤ length d → i < length x → get_or (sets d j x) (j + i) 0 ≡ get_or x i 0
put_inside d j [] i h u = absurd (omega arith)
put_inside d j (a ∷ x) zero h u =
    ap (λ (k : ℕ). get_or (sets (set d j a) (suc j) x) k 0) (add-zero j) ∙ put_before (set d j a) (suc j) j x (omega arith)
    ∙ get_or-set_same d j a 0 (omega arith)
put_inside d j (a ∷ x) (suc i) h u =
    let e : length (set d j a) ≡ length d = length-set d j a in
    ap (λ (k : ℕ). get_or (sets (set d j a) (suc j) x) k 0) (let o : j + suc i ≡ suc j + i = omega arith in o)
    ∙ put_inside (set d j a) (suc j) x i (omega arith) (omega arith)

pub take_put : (d : List ℕ) (j k : ℕ) (x : List ℕ) → k ≤ j → take k (sets d j x) ≡ take k d
take_put d j k [] h = refl
take_put d j k (a ∷ x) h = take_put (set d j a) (suc j) k x (omega arith) ∙ take-set-le k d j a h

pub drop_put : (d : List ℕ) (j k : ℕ) (x : List ℕ) → j + length x ≤ k → drop k (sets d j x) ≡ drop k d
drop_put d j k [] h = refl
drop_put d j k (a ∷ x) h = drop_put (set d j a) (suc j) k x (omega arith) ∙ drop-set-lt k d j a (omega arith)

-- ---- the same, number by number
pub record Around (a k : ℕ) (xs ys z : List ℕ) : Type 0 where
  pub size : length z ≡ length xs
  pub before : (i : ℕ) → i < a → get_or z i 0 ≡ get_or xs i 0
  pub inside : (i : ℕ) → i < k → get_or z (a + i) 0 ≡ get_or ys i 0
  pub after : (i : ℕ) → a + k ≤ i → get_or z i 0 ≡ get_or xs i 0

pub around : {a k : ℕ} {xs ys z : List ℕ} → a + k ≤ length xs → length ys ≡ k → With xs a ys z → Around a k xs ys z
around {a} {k} {xs} {ys} {z} l e q = record {
  size = ap length q ∙ length-sets xs a ys;
  before = λ i u. ap (λ w. get_or w i 0) q ∙ put_before xs a i ys u;
  inside = λ i u. ap (λ w. get_or w (a + i) 0) q ∙ put_inside xs a ys i (omega arith) (omega arith);
  after = λ i u. ap (λ w. get_or w i 0) q ∙ put_after xs a i ys (omega arith);
}

pub put_back : (a k : ℕ) (xs ys : List ℕ) → a + k ≤ length xs → length ys ≡ k → Around a k xs ys (take a xs ++ (ys ++ drop k (drop a xs)))
put_back a k xs ys l e =
    around l e
    (sym (sets-eq ys xs a (omega arith) ∙ append_assoc (take a xs) ys (drop (a + length ys) xs)
    ∙ ap (λ z. take a xs ++ (ys ++ z)) (ap (λ n. drop (a + n) xs) e ∙ sym (drop-drop k a xs))))

pub around_cut : {a k : ℕ} {xs ys z : List ℕ} → Around a k xs ys z → length ys ≡ k → cut a k z ≡ ys
around_cut {a} {k} {xs} {ys} {z} h e =
    let s : length (cut a k z) ≡ k = length_cut a k z in
    ext_get_or 0 (cut a k z) ys (s ∙ sym e) (λ i u. let v : i < k = omega arith in cut_at a k z i v ∙ h.inside i v)

-- ---- places counted up to n
pub placed_none : (n : ℕ) (d : List ℕ) (at : ℕ) → Placed n d at [] at d
placed_none n d at = record { next = (let e : at ≡ max at (min (at + 0) n) = omega arith in e); done = refl }

pub placed_same : {n : ℕ} {d : List ℕ} {at : ℕ} {x : List ℕ} {r : ℕ} {d' : List ℕ} → Placed n d at x r d' → length d' ≡ length d
placed_same {d = d} {at} {x} q = ap length q.done ∙ length-sets d at x

module _ (n : ℕ) (d : List ℕ) (at : ℕ) (x : List ℕ) (r : ℕ) (d' : List ℕ) (y : List ℕ) (q : ℕ) (e : List ℕ) (h : length d ≤ n)
    (a : Placed n d at x r d') (b : Placed n d' r y q e) where
  then_place : q ≡ max at (min (at + length (x ++ y)) n)
  then_place =
      let u : r ≡ max at (min (at + length x) n) = a.next in
      let v : q ≡ max r (min (r + length y) n) = b.next in
      let l : length (x ++ y) ≡ length x + length y = length-append x y in
      let w : q ≡ max at (min (at + length (x ++ y)) n) = omega arith in
      w

  then_bytes : With d at (x ++ y) e
  then_bytes =
      b.done
      ∙ ap (λ (z : List ℕ). sets z r y) a.done
      ∙ elim (dec_le (at + length x) n) [ yes l ↦ inside l | no l ↦ beyond l ]
      ∙ sets_append d at x y
    where
      beyond : ¬ (at + length x ≤ n) → sets (sets d at x) r y ≡ sets (sets d at x) (at + length x) y
      beyond l =
          let u : r ≡ max at (min (at + length x) n) = a.next in
          let s : length (sets d at x) ≡ length d = length-sets d at x in
          sets_out (sets d at x) r y (omega arith) ∙ sym (sets_out (sets d at x) (at + length x) y (omega arith))

      inside : at + length x ≤ n → sets (sets d at x) r y ≡ sets (sets d at x) (at + length x) y
      inside l =
          let u : r ≡ max at (min (at + length x) n) = a.next in
          let v : r ≡ at + length x = omega arith in
          ap (λ (k : ℕ). sets (sets d at x) k y) v

  pub placed_then : Placed n d at (x ++ y) q e
  placed_then = record { next = then_place; done = then_bytes }

pub placed_more : (n : ℕ) (s : List ℕ) (i : ℕ) {d : List ℕ} {at r : ℕ} {d' : List ℕ} {q : ℕ} {e : List ℕ} → length d ≤ n → i < length s
    → Placed n d at (take i s) r d' → Placed n d' r (get_or s i 0 ∷ []) q e → Placed n d at (take (i + 1) s) q e
placed_more n s i {d} {at} {r} {d'} {q} {e} l h a b =
    rw (add-one, take-suc s i 0) (placed_then n d at (take i s) r d' (get_or s i 0 ∷ []) q e l a b)

pub placed_all : {n : ℕ} (s : List ℕ) (i : ℕ) {d : List ℕ} {at r : ℕ} {d' : List ℕ} → length s ≤ i → Placed n d at (take i s) r d' → Placed n d at s r d'
placed_all s i h a = rw (take_all i s) at a

pub placed_unique : {n : ℕ} {d : List ℕ} {at : ℕ} {x : List ℕ} {r q : ℕ} {d' e : List ℕ} → Placed n d at x r d' → Placed n d at x q e
    → (r ≡ q) × (d' ≡ e)
placed_unique a b = (a.next ∙ sym b.next, a.done ∙ sym b.done)

-- ---- places counted to the slice's end
pub put_in : (d : List ℕ) (at b : ℕ) → at < length d → Put d at (b ∷ []) (at + 1) (set d at b)
put_in d at b h = record { next = (let e : at + 1 ≡ max at (min (at + 1) (length d)) = omega arith in e); done = refl }

pub put_out : (d : List ℕ) (at b : ℕ) → length d ≤ at → Put d at (b ∷ []) at d
put_out d at b h =
    record {
      next = (let e : at ≡ max at (min (at + 1) (length d)) = omega arith in e);
      done = sym (set_out d at b h);
    }

again : {d : List ℕ} {at : ℕ} {x : List ℕ} {r : ℕ} {d' : List ℕ} (y : List ℕ) (q : ℕ) (e : List ℕ) → Put d at x r d' → Put d' r y q e → Placed (length d) d' r y q e
again {r = r} {d'} y q e a b = subst (λ (n : ℕ). Placed n d' r y q e) (placed_same a) b

pub put_then : (d : List ℕ) (at : ℕ) (x : List ℕ) (r : ℕ) (d' : List ℕ) (y : List ℕ) (q : ℕ) (e : List ℕ) → Put d at x r d' → Put d' r y q e → Put d at (x ++ y) q e
put_then d at x r d' y q e a b = placed_then (length d) d at x r d' y q e (omega arith) a (again y q e a b)

pub put_more : (s : List ℕ) (i : ℕ) {d : List ℕ} {at r : ℕ} {d' : List ℕ} {q : ℕ} {e : List ℕ} → i < length s
    → Put d at (take i s) r d' → Put d' r (get_or s i 0 ∷ []) q e → Put d at (take (i + 1) s) q e
put_more s i {d} {q = q} {e} h a b = placed_more (length d) s i (omega arith) h a (again (get_or s i 0 ∷ []) q e a b)

pub put_fits : {d : List ℕ} {at : ℕ} {x : List ℕ} {r : ℕ} {d' : List ℕ} → Put d at x r d' → at + length x ≤ length d
    → (r ≡ at + length x) × (d' ≡ take at d ++ x ++ drop (at + length x) d)
put_fits {d} {at} {x} {r} q h =
    (let u : r ≡ max at (min (at + length x) (length d)) = q.next in omega arith, q.done ∙ sets-eq x d at h)

-- ---- pieces for which there is room
pub written : (d : List ℕ) (at : ℕ) (x : List ℕ) (k : ℕ) → length x ≡ k → Written d at x k (at + k) (sets d at x)
written d at x k e = record { next = refl; size = e; done = refl; same = length-sets d at x }

pub written_none : (d : List ℕ) (at : ℕ) → Written d at [] 0 at d
written_none d at = record { next = (let e : at ≡ at + 0 = omega arith in e); size = refl; done = refl; same = refl }

pub written_then : (d : List ℕ) (at : ℕ) (x : List ℕ) (k r : ℕ) (d' : List ℕ) (y : List ℕ) (m q : ℕ) (e : List ℕ)
    → Written d at x k r d' → Written d' r y m q e → Written d at (x ++ y) (k + m) q e
written_then d at x k r d' y m q e a b =
    let n : r ≡ at + length x = a.next ∙ ap (λ (z : ℕ). at + z) (sym a.size) in
    record {
      next = (let u : r ≡ at + k = a.next in let v : q ≡ r + m = b.next in omega arith);
      size = length-append x y ∙ ap₂ ◌+◌ a.size b.size;
      done = b.done ∙ ap₂ (λ (z : List ℕ) (j : ℕ). sets z j y) a.done n ∙ sets_append d at x y;
      same = b.same ∙ a.same;
    }

-- number by number
pub written_more : (d : List ℕ) (at : ℕ) (s : List ℕ) (i o v : ℕ) (d' : List ℕ) → i < length s → v ≡ get_or s i 0
    → Written d at (take i s) i o d' → Written d at (take (i + 1) s) (i + 1) (o + 1) (set d' o v)
written_more d at s i o v d' h g a =
    let e : take i s ++ (v ∷ []) ≡ take (i + 1) s =
    ap (λ (z : ℕ). take i s ++ (z ∷ [])) g ∙ sym (take-suc s i 0 h) ∙ ap (λ (k : ℕ). take k s) (sym (add-one i)) in
    subst (λ (x : List ℕ). Written d at x (i + 1) (o + 1) (set d' o v)) e
    (written_then d at (take i s) i o d' (v ∷ []) 1 (o + 1) (set d' o v) a (written d' o (v ∷ []) 1 refl))

pub written_all : (d : List ℕ) (at : ℕ) (s : List ℕ) (n i o : ℕ) (d' : List ℕ) → length s ≡ n → i ≤ n → n ≤ i
    → Written d at (take i s) i o d' → Written d at s n o d'
written_all d at s n i o d' l h k a =
    let e : i ≡ n = omega arith in
    subst (λ (x : List ℕ). Written d at x n o d') (take_all n s (omega arith)) (subst (λ (j : ℕ). Written d at (take j s) j o d') e a)

pub written_unique : {d : List ℕ} {at : ℕ} {x : List ℕ} {k r s : ℕ} {e f : List ℕ} → Written d at x k r e → Written d at x k s f → (r ≡ s) × (e ≡ f)
written_unique h k = (h.next ∙ sym k.next, h.done ∙ sym k.done)

-- x stands at the front of the slice d, which is d' then
module _ {d d' x : List ℕ} {n r : ℕ} (q : Written d 0 x n r d') (h : n ≤ length d) where
  pub front_long : length x ≡ r
  front_long = omega (arith, q.size, q.next)

  pub front_whole : d' ≡ x ++ drop (length x) d
  front_whole =
      let z : 0 + length x ≡ length x = omega arith in
      q.done ∙ sets-eq x d 0 (omega (arith, q.size)) ∙ ap (λ (j : ℕ). x ++ drop j d) z

  pub front_is : take r d' ≡ x
  front_is = ap (take r) front_whole ∙ take_at x (drop (length x) d) r front_long

  pub front_count : r ≡ length (take r d')
  front_count = sym (ap length front_is ∙ front_long)
