-- Lists with zeros above their coefficients.
--   unpad_short, unpad_long    the two cases of `unpad`
--   unpad_again, unpad_list    what it gives stands for itself, and so does a list of coefficients
--   unpad_zeros                zeros put behind a list change nothing
--   padded_list, list_padded   l is padded exactly where the list that it stands for is a list of coefficients
--   not_padded, no_padded      where it is none, it is empty or of zeros only, too long, too long without its zeros, or has a number from p on;
--                              and so it is none
--   unpadded_size, unpadded_none   the two answers of `unpadded`; unpadded_unique: one answer for each list; unpadded_length: so long is the front
--   fronts, unfronts           what holds of the fronts of two lists holds of the lists that they stand for, and the other way round
use mathlib.Core.Path.{◌≡◌, refl, sym, ap, ◌∙◌, subst}
use mathlib.Core.Logic.{◌≢◌, ◌⊎◌, inl, inr}
use mathlib.Core.Bool.{Bool, true, false}
use mathlib.Core.List.{List, [], ◌∷◌, ◌++◌}
use Prim.Native.Nat.{ℕ, zero, suc, ◌+◌, ◌-◌, ◌≤◌, ◌<◌}
use native.Mathlib.Omega.{arith}
use native.Mathlib.Decide.{dec_lt}
use lib.ListN.{length, get_or, take, replicate, length-append, length-replicate, get_or-eq_default}
use lib.Seq.{get_or-take, length-take-le, take-length}
use borrow.Author.Tests.{lt-ltb, le-ltb}
use Rattle.base_lists.specs.Coefficients.{Size, ahead, trim, Coefficients}
use Rattle.base_lists.specs.Padding.{unpad, Padded, NoPadded, Unpadded}
use Rattle.base_lists.proofs.Trims.{sized, trim_size, trim_length, trim_last}

pick : List ℕ → Bool → List ℕ
pick l b = elim b [ true ↦ [] | false ↦ trim l ]

module _ (room : ℕ) (l : List ℕ) where
  pub unpad_short : length l ≤ room → unpad room l ≡ trim l
  unfolding unpad pick
  unpad_short h = ap (pick l) (le-ltb room (length l) h)

  pub unpad_long : room < length l → unpad room l ≡ []
  unfolding unpad pick
  unpad_long h = ap (pick l) (lt-ltb room (length l) h)

-- ---- lists that stand for themselves
trim_fits : (l : List ℕ) → length (trim l) ≤ length l
trim_fits l = let (n, s) = sized l in let e : length (trim l) ≡ n = trim_length l n s in let f : n ≤ length l = s.fits in omega arith

pub tight : (l : List ℕ) → (0 < length l → get_or l (length l - 1) 0 ≢ 0) → trim l ≡ l
tight l h = trim_size l (length l) (record { fits = omega arith; above = λ i u. get_or-eq_default l 0 {n = i} u; top = h }) ∙ take-length l

pub unpad_again : (room : ℕ) (l : List ℕ) → unpad room (unpad room l) ≡ unpad room l
unpad_again room l = elim (dec_lt room (length l)) [
  | yes h ↦ let e = unpad_long room l h in ap (unpad room) e ∙ unpad_short room [] (omega arith) ∙ sym e
  | no h ↦
      let e = unpad_short room l (omega arith) in
      ap (unpad room) e ∙ unpad_short room (trim l) (omega (arith, trim_fits l)) ∙ tight (trim l) (trim_last l) ∙ sym e
]

pub unpad_list : {room most p : ℕ} {l : List ℕ} {d : ℕ} → most ≤ room → Coefficients most p l d → unpad room l ≡ l
unpad_list {room} {most} {p} {l} {d} h c =
    let e : length l ≡ suc d = c.whole in
    let o : length l - 1 ≡ d = omega arith in
    unpad_short room l (omega (arith, c.short)) ∙ tight l (λ u z. c.last (ap (λ k. get_or l k 0) (sym o) ∙ z))

trim_none : (k : ℕ) → trim (replicate k 0) ≡ []
trim_none zero = refl
trim_none (suc k) = ap (ahead 0) (trim_none k)

trim_zeros : (l : List ℕ) (k : ℕ) → trim (l ++ replicate k 0) ≡ trim l
trim_zeros [] k = trim_none k
trim_zeros (x ∷ l) k = ap (ahead x) (trim_zeros l k)

pub unpad_zeros : (room : ℕ) (l : List ℕ) (k : ℕ) → length l + k ≤ room → unpad room (l ++ replicate k 0) ≡ unpad room l
unpad_zeros room l k h =
    let e = length-append l (replicate k 0) in
    let f = length-replicate {A = ℕ} k 0 in
    unpad_short room (l ++ replicate k 0) (omega arith) ∙ trim_zeros l k ∙ sym (unpad_short room l (omega arith))

-- ---- the law between padded lists and lists of coefficients
module _ {room most p : ℕ} {l : List ℕ} {d : ℕ} where
  inside : Padded room most p l d → d < length l
  inside q = elim (dec_lt d (length l)) [ yes h ↦ h | no h ↦ absurd (q.last (get_or-eq_default l 0 {n = d} (omega arith))) ]

  padded_size : Padded room most p l d → Size l (suc d)
  padded_size q = record {
    fits = inside q;
    above = λ i h. q.above i h;
    top = λ h z. q.last (ap (λ k. get_or l k 0) (let o : d ≡ suc d - 1 = omega arith in o) ∙ z);
  }

  pub padded_list : Padded room most p l d → Coefficients most p (unpad room l) d
  padded_list q =
      let s : suc d ≤ length l = inside q in
      let w : length (take (suc d) l) ≡ suc d = length-take-le (suc d) l s in
      let e : take (suc d) l ≡ unpad room l = sym (unpad_short room l q.entries ∙ trim_size l (suc d) (padded_size q)) in
      subst (λ z. Coefficients most p z d) e (record {
        whole = w;
        short = (let o = q.short in omega arith);
        each = λ i h. let u : i < suc d = omega arith in subst (λ z. z < p) (sym (get_or-take (suc d) l i 0 u)) (q.each i (omega arith));
        last = λ z. q.last (sym (get_or-take (suc d) l d 0 (omega arith)) ∙ z);
      })

  pub list_padded : 0 < p → Coefficients most p (unpad room l) d → Padded room most p l d
  list_padded pos c = elim (dec_lt room (length l)) [ yes h ↦ absurd (long h) | no h ↦ short (omega arith) ]
    where
      long : room < length l → ⊥
      long h = let e : length (unpad room l) ≡ suc d = c.whole in let f : length (unpad room l) ≡ 0 = ap length (unpad_long room l h) in omega arith

      short : length l ≤ room → Padded room most p l d
      short h =
          let (n, s) = sized l in
          let e : unpad room l ≡ take n l = unpad_short room l h ∙ trim_size l n s in
          let c' : Coefficients most p (take n l) d = subst (λ z. Coefficients most p z d) e c in
          let w : length (take n l) ≡ n = length-take-le n l s.fits in
          let v : length (take n l) ≡ suc d = c'.whole in
          let b : length (take n l) ≤ most = c'.short in
          record {
            entries = h;
            short = omega arith;
            each = λ i u. elim (dec_lt i n) [
              | yes t ↦ subst (λ z. z < p) (get_or-take n l i 0 t) (c'.each i (omega arith))
              | no t ↦ subst (λ z. z < p) (sym (s.above i (omega arith))) pos
            ];
            last = λ z. c'.last (get_or-take n l d 0 (omega arith) ∙ z);
            above = λ i u. s.above i (omega arith);
          }

-- ---- the words of the refusal
search_p : (p : ℕ) (l : List ℕ) → ((i : ℕ) × (i < length l) × (p ≤ get_or l i 0)) ⊎ ((i : ℕ) → i < length l → get_or l i 0 < p)
search_p p [] = inr (λ i h. absurd (omega arith))
search_p p (x ∷ l) = go (dec_lt x p) (search_p p l)
  where
    all : x < p → ((i : ℕ) → i < length l → get_or l i 0 < p) → (i : ℕ) → i < suc (length l) → get_or (x ∷ l) i 0 < p
    all u h zero v = u
    all u h (suc i) v = h i (omega arith)

    go : Dec (x < p) → ((i : ℕ) × (i < length l) × (p ≤ get_or l i 0)) ⊎ ((i : ℕ) → i < length l → get_or l i 0 < p)
        → ((i : ℕ) × (i < suc (length l)) × (p ≤ get_or (x ∷ l) i 0)) ⊎ ((i : ℕ) → i < suc (length l) → get_or (x ∷ l) i 0 < p)
    go (no u) r = inl (0, omega arith, omega arith)
    go (yes u) (inl (i, v, w)) = inl (suc i, omega arith, w)
    go (yes u) (inr h) = inr (all u h)

module _ {room most p : ℕ} (l : List ℕ) where
  pub not_padded : ((d : ℕ) → Coefficients most p (unpad room l) d → ⊥) → NoPadded room most p l
  not_padded f = go (sized l) (dec_lt room (length l)) (search_p p l)
    where
      go : ((n : ℕ) × Size l n) → Dec (room < length l) → ((i : ℕ) × (i < length l) × (p ≤ get_or l i 0)) ⊎ ((i : ℕ) → i < length l → get_or l i 0 < p) → NoPadded room most p l
      go (zero, s) r b = inl (λ i. s.above i (omega arith))
      go (suc d, s) (yes r) b = inr (inl r)
      go (suc d, s) (no r) (inl b) = inr (inr (inr b))
      go (suc d, s) (no r) (inr b) = let e : length (trim l) ≡ suc d = trim_length l (suc d) s in elim (dec_lt most (length (trim l))) [
        | yes t ↦ inr (inr (inl t))
        | no t ↦ absurd (f d (padded_list (record {
          entries = omega arith;
          short = omega arith;
          each = b;
          last = λ z. s.top (omega arith) (ap (λ k. get_or l k 0) (let o : suc d - 1 ≡ d = omega arith in o) ∙ z);
          above = λ i u. s.above i u;
        })))
      ]

  pub no_padded : NoPadded room most p l → (d : ℕ) → Padded room most p l d → ⊥
  no_padded (inl h) d q = q.last (h d)
  no_padded (inr (inl h)) d q = let o = q.entries in omega arith
  no_padded (inr (inr (inl h))) d q = let e : length (trim l) ≡ suc d = trim_length l (suc d) (padded_size q) in let o = q.short in omega arith
  no_padded (inr (inr (inr (i, u, h)))) d q = let o = q.each i u in omega arith

-- ---- what `unpadded` answers
module _ {room : ℕ} {l : List ℕ} where
  pub unpadded_size : {n : ℕ} → length l ≤ room → Size l n → Unpadded room l n
  unpadded_size {n} h s = record { fits = s.fits; front = sym (unpad_short room l h ∙ trim_size l n s) }

  pub unpadded_none : room < length l → Unpadded room l 0
  unpadded_none h = record { fits = omega arith; front = sym (unpad_long room l h) }

  pub unpadded_length : {n : ℕ} → Unpadded room l n → n ≡ length (take n l)
  unpadded_length {n} a = sym (length-take-le n l a.fits)

  pub unpadded_unique : (m n : ℕ) → Unpadded room l m → Unpadded room l n → m ≡ n
  unpadded_unique m n a b = sym (length-take-le m l a.fits) ∙ ap length (a.front ∙ sym b.front) ∙ length-take-le n l b.fits

module _ {room : ℕ} {G H : List ℕ} {m n : ℕ} (P : List ℕ → List ℕ → Type 0) (a : Unpadded room G m) (b : Unpadded room H n) where
  pub fronts : P (take m G) (take n H) → P (unpad room G) (unpad room H)
  fronts x = subst (λ z. P z (unpad room H)) a.front (subst (P (take m G)) b.front x)

  pub unfronts : P (unpad room G) (unpad room H) → P (take m G) (take n H)
  unfronts x = subst (λ z. P z (take n H)) (sym a.front) (subst (P (unpad room G)) (sym b.front) x)
