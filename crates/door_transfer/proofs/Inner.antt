-- One outcome for each input of the functions that `transfer` rests on; of the factors it is `law_unique` of crate pair_laws.
--   exchanged_unique                        two parts exchanged
--   multiplied_unique                       six rows times their factors
--   carried_unique, carried_swapped_unique  six rows carried over, in the one order and in the other
use mathlib.Core.Path.{◌≡◌, refl, sym, ap, ◌∙◌}
use mathlib.Core.List.{List}
use Prim.Native.Nat.{ℕ, ◌+◌, ◌*◌, ◌-◌, ◌<◌}
use native.Mathlib.Omega.{arith}
use native.Mathlib.Decide.{dec_lt}
use lib.ListN.{length, get_or}
use lib.Seq.{ext_get_or}
use Rattle.pair_laws.proofs.Lists.{leading_not}
use Rattle.pair_laws.proofs.Laws.{law_unique}
use Rattle.pair_rows.specs.Code.{Exchanged, Multiplied}
use Rattle.pair_carry.specs.Code.{CarryAsks, Carried, CarriedSwapped}
use Rattle.door_transfer.proofs.Rows.{six_ext, straight_unique, crossed_unique}

module _ (a b c : ℕ) (l x y : List ℕ) (h : Exchanged a b c l x) (k : Exchanged a b c l y) where
  -- the number at place m + j, where that is i
  moved : (i j m : ℕ) → i ≡ m + j → get_or x (m + j) 0 ≡ get_or y (m + j) 0 → get_or x i 0 ≡ get_or y i 0
  moved i j m e s = ap (λ z. get_or x z 0) e ∙ s ∙ ap (λ z. get_or y z 0) (sym e)

  each : (i : ℕ) → Dec (i < a) → Dec (i < a + c) → Dec (i < b) → Dec (i < b + c) → get_or x i 0 ≡ get_or y i 0
  each i (yes u) v w z = h.before i u ∙ sym (k.before i u)
  each i (no u) (yes v) w z = moved i (i - a) a (omega arith) (h.first (i - a) (omega arith) ∙ sym (k.first (i - a) (omega arith)))
  each i (no u) (no v) (yes w) z = h.between i (omega arith) w ∙ sym (k.between i (omega arith) w)
  each i (no u) (no v) (no w) (yes z) = moved i (i - b) b (omega arith) (h.second (i - b) (omega arith) ∙ sym (k.second (i - b) (omega arith)))
  each i (no u) (no v) (no w) (no z) = h.after i (omega arith) ∙ sym (k.after i (omega arith))

  pub exchanged_unique : x ≡ y
  exchanged_unique = ext_get_or 0 x y (h.size ∙ sym k.size) (λ i u. each i (dec_lt i a) (dec_lt i (a + c)) (dec_lt i b) (dec_lt i (b + c)))

pub multiplied_unique : (p x y c : ℕ) (l r s : List ℕ) → length l ≡ 6 * c → Multiplied p x y c l r → Multiplied p x y c l s → r ≡ s
multiplied_unique p x y c l r s w h k =
    six_ext c s r (k.size ∙ w) (h.size ∙ sym k.size) (straight_unique p c x y x y l r s 0 (refl, refl) h.E k.E)
    (straight_unique p c x y x y l r s (c + c + c) (refl, refl) h.F k.F)

module _ (p : ℕ) (G H G' H' : List ℕ) (c : ℕ) (l r s : List ℕ) (t : CarryAsks p G H G' H' c l) where
  pub carried_unique : Carried p G H G' H' c l r → Carried p G H G' H' c l s → r ≡ s
  carried_unique h k =
      let pr = t.modulus.prime in
      let q = law_unique p pr t.modulus.kind (leading_not p pr t.second.list_g) (leading_not p pr t.second.list_h) (leading_not p pr t.first.list_h) h.law k.law in
      six_ext c s r (k.size ∙ t.whole) (h.size ∙ sym k.size) (straight_unique p c h.x h.y k.x k.y l r s 0 q h.E k.E)
      (straight_unique p c h.x h.y k.x k.y l r s (c + c + c) q h.F k.F)

  pub carried_swapped_unique : CarriedSwapped p G H G' H' c l r → CarriedSwapped p G H G' H' c l s → r ≡ s
  carried_swapped_unique h k =
      let pr = t.modulus.prime in
      let q = law_unique p pr t.modulus.kind (leading_not p pr t.second.list_g) (leading_not p pr t.second.list_h) (leading_not p pr t.first.list_g) h.law k.law in
      six_ext c s r (k.size ∙ t.whole) (h.size ∙ sym k.size) (crossed_unique p c h.x h.y k.x k.y l r s 0 q h.E k.E)
      (crossed_unique p c h.x h.y k.x k.y l r s (c + c + c) q h.F k.F)
