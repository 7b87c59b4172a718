-- Six rows of c numbers in one list.
--   Three, six_ext   three rows that are the same in two lists; six of them, and the lists are equal
--   one_of           rows carry over only between pairs of one field
--   rows_unique         the rows and the pairs settle the rows carried over
--   carried_below    numbers that were multiplied are below p
--   carried_each     rows of numbers below p become rows of numbers below p
use mathlib.Core.Path.{◌≡◌, sym, ap, ◌∙◌, subst}
use mathlib.Core.Logic.{inl, inr}
use mathlib.Core.List.{List}
use Prim.Native.Nat.{ℕ, ◌+◌, ◌*◌, ◌-◌, ◌%◌, ◌<◌}
use native.Mathlib.Nat.{mod-lt}
use native.Mathlib.Omega.{arith}
use native.Mathlib.Decide.{dec_lt}
use lib.ListN.{length, get_or, get_or-eq_default}
use lib.Seq.{ext_get_or}
use Rattle.base_lists.proofs.Pieces.{six}
pub use Rattle.base_lists.proofs.Pieces.{three}
use Rattle.field_open.specs.Refusal.{Accepted}
use Rattle.pair_laws.specs.OneField.{OneField}
use Rattle.pair_laws.specs.Rows.{Stays, Times, Straight, Crossed, RowsCarry, straight, crossed}
use Rattle.pair_agree.specs.Answer.{Both}
use Rattle.pair_laws.proofs.Lists.{leading_not}
use Rattle.pair_agree.proofs.Relation.{not_both}
use Rattle.pair_laws.proofs.Laws.{law_unique}

abbrev pub Three : ℕ → List ℕ → ℕ → List ℕ → Type 0
Three c l at l' = Stays c l at l' × Stays c l (at + c) l' × Stays c l (at + c + c) l'

pub six_ext : (c : ℕ) (l l' : List ℕ) → length l ≡ 6 * c → length l' ≡ length l → Three c l 0 l' → Three c l (c + c + c) l' → l' ≡ l
six_ext c l l' w e (a, b, d) (a', b', d') =
    ext_get_or 0 l' l e (λ i u. six c (λ j. get_or l' j 0 ≡ get_or l j 0) (three c 0 (λ j. get_or l' j 0 ≡ get_or l j 0) a b d) (three c (c + c + c) (λ j. get_or l' j 0 ≡ get_or l j 0) a' b' d') i (omega arith))

-- ---- the rows are settled
pub one_of : {p c : ℕ} {G H G' H' l l' : List ℕ} → RowsCarry p G H G' H' c l l' → OneField p G H G' H'
one_of (straight a b x y w s t) = inl (a, b)
one_of (crossed a b x y w s t) = inr (a, b)

times_unique : (p c k k' : ℕ) (l l' l'' : List ℕ) (a b : ℕ) → k ≡ k' → Times p c k l a l' b → Times p c k' l a l'' b → Stays c l'' b l'
times_unique p c k k' l l' l'' a b e s t i u = s i u ∙ ap (λ z. (z * get_or l (a + i) 0) % p) e ∙ sym (t i u)

module _ (p c x y x' y' : ℕ) (l l' l'' : List ℕ) (at : ℕ) (e : (x ≡ x') × (y ≡ y')) where
  pub straight_unique : Straight p c x y l at l' → Straight p c x' y' l at l'' → Three c l'' at l'
  straight_unique s t = (λ i u. s.A i u ∙ sym (t.A i u), times_unique p c x x' l l' l'' _ _ e.0 s.B t.B, times_unique p c y y' l l' l'' _ _ e.1 s.C t.C)

  pub crossed_unique : Crossed p c x y l at l' → Crossed p c x' y' l at l'' → Three c l'' at l'
  crossed_unique s t = (λ i u. s.A i u ∙ sym (t.A i u), times_unique p c x x' l l' l'' _ _ e.0 s.B t.B, times_unique p c y y' l l' l'' _ _ e.1 s.C t.C)

module _ {p : ℕ} {G H G' H' : List ℕ} (t : Both p G H G' H') where
  abbrev P₁ : Accepted p G H
  P₁ = t.first

  abbrev P₂ : Accepted p G' H'
  P₂ = t.second

  pub rows_unique : (c : ℕ) (l l' l'' : List ℕ) → length l ≡ 6 * c → length l' ≡ length l → length l'' ≡ length l → RowsCarry p G H G' H' c l l' → RowsCarry p G H G' H' c l l'' → l' ≡ l''
  rows_unique c l l' l'' w e f (straight a b x y k s r) (straight a' b' x' y' k' s' r') =
      let q = law_unique p P₁.prime P₁.kind (leading_not p P₁.prime P₂.list_g) (leading_not p P₁.prime P₂.list_h) (leading_not p P₁.prime P₁.list_h) k k' in
      six_ext c l'' l' (f ∙ w) (e ∙ sym f) (straight_unique p c x y x' y' l l' l'' 0 q s s') (straight_unique p c x y x' y' l l' l'' (c + c + c) q r r')
  rows_unique c l l' l'' w e f (crossed a b x y k s r) (crossed a' b' x' y' k' s' r') =
      let q = law_unique p P₁.prime P₁.kind (leading_not p P₁.prime P₂.list_g) (leading_not p P₁.prime P₂.list_h) (leading_not p P₁.prime P₁.list_g) k k' in
      six_ext c l'' l' (f ∙ w) (e ∙ sym f) (crossed_unique p c x y x' y' l l' l'' 0 q s s') (crossed_unique p c x y x' y' l l' l'' (c + c + c) q r r')
  rows_unique c l l' l'' w e f (straight a b x y k s r) (crossed a' b' x' y' k' s' r') = absurd (not_both P₁.list_g P₂ a a')
  rows_unique c l l' l'' w e f (crossed a b x y k s r) (straight a' b' x' y' k' s' r') = absurd (not_both P₁.list_g P₂ a' a)

-- ---- the numbers are below p
module _ (p : ℕ) (pos : 0 < p) (c : ℕ) (l l' : List ℕ) where
  pub times_below : (k a b : ℕ) → Times p c k l a l' b → (i : ℕ) → i < c → get_or l' (b + i) 0 < p
  times_below k a b s i u = subst (λ z. z < p) (sym (s i u)) (mod-lt (k * get_or l (a + i) 0) pos)

  -- the second and the third of three rows
  abbrev pub Multiples : ℕ → Type 0
  Multiples at = ((i : ℕ) → i < c → get_or l' (at + c + i) 0 < p) × ((i : ℕ) → i < c → get_or l' (at + c + c + i) 0 < p)

  module _ {G H G' H' : List ℕ} where
    pub carried_below : RowsCarry p G H G' H' c l l' → Multiples 0 × Multiples (c + c + c)
    carried_below (straight a b x y w s t) = ((times_below _ _ _ s.B, times_below _ _ _ s.C), (times_below _ _ _ t.B, times_below _ _ _ t.C))
    carried_below (crossed a b x y w s t) = ((times_below _ _ _ s.B, times_below _ _ _ s.C), (times_below _ _ _ t.B, times_below _ _ _ t.C))

    first_rows : RowsCarry p G H G' H' c l l' → Stays c l 0 l' × Stays c l (c + c + c) l'
    first_rows (straight a b x y w s t) = (s.A, t.A)
    first_rows (crossed a b x y w s t) = (s.A, t.A)

    pub carried_each : length l' ≡ 6 * c → ((i : ℕ) → get_or l i 0 < p) → RowsCarry p G H G' H' c l l' → (i : ℕ) → get_or l' i 0 < p
    carried_each w h r i =
        let ((b, d), (b', d')) = carried_below r in
        let (a, a') = first_rows r in
        elim (dec_lt i (6 * c)) [
          | yes u ↦ six c (λ j. get_or l' j 0 < p) (three c 0 (λ j. get_or l' j 0 < p) (stays 0 a) b d) (three c (c + c + c) (λ j. get_or l' j 0 < p) (stays (c + c + c) a') b' d') i u
          | no u ↦ subst (λ z. z < p) (sym (get_or-eq_default l' 0 {n = i} (omega arith))) pos
        ]
      where
        stays : (at : ℕ) → Stays c l at l' → (j : ℕ) → j < c → get_or l' (at + j) 0 < p
        stays at s j v = subst (λ z. z < p) (sym (s j v)) (h (at + j))
