-- Two pairs of one field (request E3: "Two pairs over the same p are of one field when they agree after both are made monic, in either
-- order").
--   leading l            the last entry of a list: its leading coefficient
--   Monic p l m          m is l made monic: as long, numbers below p, leading coefficient 1, and lc(l) · m = l mod p
--   Agree p l l'         l and l' agree after both are made monic
--   OneField             the pairs G, H and G', H' agree, in one order or the other
--   Cross p l l'         the same of two lists without an inverse: equally long, and lc(l') · l = lc(l) · l' mod p
-- In proofs/: Lists (`cross_of`, `agree_of`: for lists of coefficients Agree is Cross), Relation (`agree_refl`, `agree_sym`, `agree_trans`:
-- an equivalence on them), Example (`twice_in_the_table`: the field that stood in a table twice; `not_one`: two fields). What needs an
-- accepted field is in crate pair_agree.
use Rattle.std.specs.Prelude.{◌≡◌, List, ◌⊎◌, ℕ, ◌*◌, ◌-◌, ◌%◌, ◌<◌, length, get_or}

abbrev pub leading : List ℕ → ℕ
leading l = get_or l (length l - 1) 0

pub record Monic (p : ℕ) (l m : List ℕ) : Type 0 where
  pub long : length m ≡ length l
  pub below : (i : ℕ) → get_or m i 0 < p
  pub one : leading m ≡ 1
  pub times : (i : ℕ) → (leading l * get_or m i 0) % p ≡ get_or l i 0 % p

abbrev pub Agree : ℕ → List ℕ → List ℕ → Type 0
Agree p l l' = (m : List ℕ) × Monic p l m × Monic p l' m

abbrev pub OneField : ℕ → List ℕ → List ℕ → List ℕ → List ℕ → Type 0
OneField p G H G' H' = (Agree p G G' × Agree p H H') ⊎ (Agree p G H' × Agree p H G')

pub record Cross (p : ℕ) (l l' : List ℕ) : Type 0 where
  pub long : length l ≡ length l'
  pub cross : (i : ℕ) → (leading l' * get_or l i 0) % p ≡ (leading l * get_or l' i 0) % p
