-- Rows carried over to the other pair and back are the rows.
--   there_and_back    of rows
--   transfers_back    of the function: what it carried over it carries back
-- The numbers are to be below p: a number of p or more in E1, E2, F1 or F2 comes back as its remainder.
use mathlib.Core.Path.{◌≡◌, sym, ap, ◌∙◌, subst}
use mathlib.Core.List.{List, [], ◌∷◌}
use Prim.Native.Nat.{ℕ, ◌+◌, ◌%◌, ◌<◌}
use Prim.Native.Nat as N
use native.Mathlib.Nat.{mod-lt}
use native.Mathlib.Omega.{arith}
use lib.ListN.{length, get_or}
use Rattle.base_answers.specs.Limits.{Six}
use Rattle.base_answers.proofs.Limits.{six_unique}
use Rattle.math_ring.proofs.Solve.{var, one, ◌:*◌, hyp, solve_by}
use Rattle.math_fp.specs.Fp.{Prime}
use Rattle.math_rows.specs.Reading.{Reading}
use Rattle.math_rows.specs.Made.{reading}
use Rattle.math_rows.proofs.Unique.{cast_inj}
use Rattle.pair_laws.specs.OneField.{leading}
use Rattle.pair_laws.specs.Rows.{Stays, Times, Straight, Crossed, RowsCarry, straight, crossed}
use Rattle.pair_agree.specs.Answer.{Both}
use Rattle.pair_laws.proofs.Lists.{agree_sym, leading_not}
use Rattle.pair_agree.proofs.Relation.{not_both, one_sym}
use Rattle.door_compare.proofs.Doors.{doors_out, doors_through}
use Rattle.door_transfer.specs.Transfer.{Goes, unfit, carried, Transfers}
use Rattle.pair_laws.proofs.Laws.{law_swap, law_back}
use Rattle.door_transfer.proofs.Rows.{Three, six_ext, one_of}

module _ (p : ℕ) (pr : Prime p) where
  abbrev ρ : Reading p
  ρ = reading p pr

  open ρ use {𝓥, cast}
  open 𝓥 use {K}
  open K.ops use {mul as ◌*◌, 𝟏 as 1ᵏ}

  infixl 70 ◌*◌
  module _ (c : ℕ) (l l' l'' : List ℕ) where
    -- k'' k = 1
    times_back : (k k'' a b : ℕ) → cast k * cast k'' ≡ 1ᵏ → ((i : ℕ) → i < c → get_or l (a + i) 0 < p) → Times p c k l a l' b → Times p c k'' l' b l'' a → Stays c l a l''
    times_back k k'' a b e h s t i u =
        t i u ∙ ap (λ z. (N.◌*◌ k'' z) % p) (s i u)
        ∙ cast_inj ρ _ (get_or l (a + i) 0) (mod-lt _ ρ.pos) (h i u)
        (ρ.cast_mod _ ∙ ρ.cast_mul k'' _ ∙ ap (λ z. cast k'' * z) (ρ.cast_mod _ ∙ ρ.cast_mul k (get_or l (a + i) 0))
        ∙ solve_by K (var 1 :* (var 0 :* var 2)) (var 2) (hyp (var 2) (var 0 :* var 1) one ∷ []) tt (cast k ∷ cast k'' ∷ cast (get_or l (a + i) 0) ∷ []) (e, tt))

    module _ (x y x'' y'' at : ℕ) (h : (i : ℕ) → i < at + c + c + c → get_or l i 0 < p) where
      straight_back : (cast x * cast x'' ≡ 1ᵏ) × (cast y * cast y'' ≡ 1ᵏ) → Straight p c x y l at l' → Straight p c x'' y'' l' at l'' → Three c l at l''
      straight_back (e, f) s t = (
        λ i u. t.A i u ∙ s.A i u,
        times_back x x'' (at + c) (at + c) e (λ i u. h (at + c + i) (omega arith)) s.B t.B,
        times_back y y'' (at + c + c) (at + c + c) f (λ i u. h (at + c + c + i) (omega arith)) s.C t.C,
      )

      crossed_back : (cast y * cast x'' ≡ 1ᵏ) × (cast x * cast y'' ≡ 1ᵏ) → Crossed p c x y l at l' → Crossed p c x'' y'' l' at l'' → Three c l at l''
      crossed_back (e, f) s t = (
        λ i u. t.A i u ∙ s.A i u,
        times_back y x'' (at + c) (at + c + c) e (λ i u. h (at + c + i) (omega arith)) s.C t.B,
        times_back x y'' (at + c + c) (at + c) f (λ i u. h (at + c + c + i) (omega arith)) s.B t.C,
      )

module _ {p : ℕ} {G H G' H' : List ℕ} (t : Both p G H G' H') where
  abbrev pr : Prime p
  pr = t.first.prime

  pub there_and_back : (c : ℕ) (l l' l'' : List ℕ) → length l ≡ N.◌*◌ 6 c → length l'' ≡ length l → ((i : ℕ) → i < length l → get_or l i 0 < p)
      → RowsCarry p G H G' H' c l l' → RowsCarry p G' H' G H c l' l'' → l'' ≡ l
  there_and_back c l l' l'' w e h (straight a b x y k s r) (straight a'' b'' x'' y'' k'' s'' r'') =
      let q = law_back p pr x y x'' y'' (leading G) (leading H) (leading G') (leading H') k k'' (leading_not p pr t.first.list_g) (leading_not p pr t.first.list_h) (leading_not p pr t.second.list_h) t.first.kind in
      six_ext c l l'' w e (straight_back p pr c l l' l'' x y x'' y'' 0 (λ i u. h i (omega arith)) q s s'') (straight_back p pr c l l' l'' x y x'' y'' (c + c + c) (λ i u. h i (omega arith)) q r r'')
  there_and_back c l l' l'' w e h (crossed a b x y k s r) (crossed a'' b'' x'' y'' k'' s'' r'') =
      let k' = law_swap p pr x y (leading H) (leading G) (leading G') (leading H') k (leading_not p pr t.first.list_g) in
      let q = law_back p pr y x x'' y'' (leading G) (leading H) (leading H') (leading G') k' k'' (leading_not p pr t.first.list_g) (leading_not p pr t.first.list_h) (leading_not p pr t.second.list_g) t.first.kind in
      six_ext c l l'' w e (crossed_back p pr c l l' l'' x y x'' y'' 0 (λ i u. h i (omega arith)) q s s'') (crossed_back p pr c l l' l'' x y x'' y'' (c + c + c) (λ i u. h i (omega arith)) q r r'')
  there_and_back c l l' l'' w e h (straight a b x y k s r) (crossed a'' b'' x'' y'' k'' s'' r'') = absurd (not_both t.first.list_g t.second a (agree_sym b''))
  there_and_back c l l' l'' w e h (crossed a b x y k s r) (straight a'' b'' x'' y'' k'' s'' r'') = absurd (not_both t.first.list_g t.second (agree_sym a'') a)

pub transfers_back : (p : ℕ) (G H G' H' rows rows' rows'' : List ℕ) (n : ℕ) → ((i : ℕ) → i < length rows → get_or rows i 0 < p)
    → Transfers p G H G' H' rows 0 rows' → Transfers p G' H' G H rows' n rows'' → (n ≡ 0) × (rows'' ≡ rows)
transfers_back p G H G' H' rows rows' rows'' n h a b =
    doors_out (λ k f l e. absurd (f (sym e.number))) (λ s k. back s k (doors_through (record { first = s.second; second = s.first }) b)) a
  where
    back : Both p G H G' H' → Goes p G H G' H' rows 0 rows' → Goes p G' H' G H rows' n rows'' → (n ≡ 0) × (rows'' ≡ rows)
    back s (unfit u e) k = absurd (let q : 0 ≡ 14 = e.number in omega arith)
    back s (carried c t k m w) (unfit u e) = absurd (u c (record { room = t.room; whole = m ∙ t.whole }) (one_sym (one_of w)))
    back s (carried c t k m w) (carried c' t' k' m' w') =
        let lent : Six c rows' = record { room = t.room; whole = m ∙ t.whole } in
        (k', there_and_back s c rows rows' rows'' t.whole (m' ∙ m) h w (subst (λ q. RowsCarry p G' H' G H q rows' rows'') (six_unique t' lent) w'))
