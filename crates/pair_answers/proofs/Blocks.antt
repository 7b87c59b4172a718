-- Lists of rows of c numbers each.
--   straight_below, crossed_below, turned_below   rows that carry over hold numbers below p
--   all_below                                     and so does the whole list
--   made, made_size                               a list by its rows
--   straight_rows, crossed_rows, turned_rows      the list that six rows carry over to; `last_row`: and a seventh that stays
use mathlib.Core.Path.{◌≡◌, sym, ap, ap₂, ◌∙◌, subst}
use mathlib.Core.List.{List}
use Prim.Native.Nat.{ℕ, zero, suc, ◌+◌, ◌*◌, ◌-◌, ◌/◌, ◌%◌, ◌<◌, ◌≤◌}
use native.Mathlib.Nat.{add-zero, mod-eq_of_lt, div-eq_of_lt, mul-add-div, mul-add-mod_self_left}
use native.Mathlib.Omega.{arith}
use native.Mathlib.Decide.{dec_lt}
use lib.ListN.{length, get_or, get_or-eq_default}
use Rattle.math_rows.specs.Row.{tab}
use Rattle.math_rows.proofs.Tab.{length_tab, at_tab}
use Rattle.pair_laws.specs.Rows.{Stays, Straight, Crossed, Turned}
use Rattle.door_transfer.proofs.Rows.{three, times_below}

-- ---- numbers below p
module _ (p c : ℕ) (l l' : List ℕ) (below : (i : ℕ) → get_or l i 0 < p) where
  pos : 0 < p
  pos = omega (arith, below 0)

  stays_below : (a : ℕ) → Stays c l a l' → (i : ℕ) → i < c → get_or l' (a + i) 0 < p
  stays_below a h i u = subst (λ z. z < p) (sym (h i u)) (below (a + i))

  abbrev Small : ℕ → Type 0
  Small k = get_or l' k 0 < p

  pub row_below : (a : ℕ) → Stays c l a l' → (k : ℕ) → a ≤ k → k < a + c → Small k
  row_below a h k u v = let e : a + (k - a) ≡ k = omega arith in subst Small e (stays_below a h (k - a) (omega arith))

  module _ {x y a : ℕ} where
    pub straight_below : Straight p c x y l a l' → (k : ℕ) → a ≤ k → k < a + c + c + c → Small k
    straight_below h = three c a Small (stays_below a h.A) (times_below p pos c l l' x (a + c) (a + c) h.B) (times_below p pos c l l' y (a + c + c) (a + c + c) h.C)

    pub crossed_below : Crossed p c x y l a l' → (k : ℕ) → a ≤ k → k < a + c + c + c → Small k
    crossed_below h = three c a Small (stays_below a h.A) (times_below p pos c l l' x (a + c + c) (a + c) h.B) (times_below p pos c l l' y (a + c) (a + c + c) h.C)

    pub turned_below : Turned p c x y l a l' → (k : ℕ) → a ≤ k → k < a + c + c + c → Small k
    turned_below h =
        three c a Small (times_below p pos c l l' (p - 1) a a h.A)
        (times_below p pos c l l' (p - x) (a + c + c) (a + c) h.B) (times_below p pos c l l' (p - y) (a + c) (a + c + c) h.C)

  pub all_below : (n : ℕ) → length l' ≡ n → ((k : ℕ) → k < n → Small k) → (k : ℕ) → Small k
  all_below n e h k = elim (dec_lt k n) [
    | yes u ↦ h k u
    | no u ↦ subst (λ z. z < p) (sym (get_or-eq_default l' 0 {n = k} (omega arith))) pos
  ]

-- ---- the list that rows carry over to
abbrev seven : (a b c d e f g : ℕ → ℕ) → ℕ → ℕ → ℕ
seven a b c d e f g zero = a
seven a b c d e f g (suc zero) = b
seven a b c d e f g (suc (suc zero)) = c
seven a b c d e f g (suc (suc (suc zero))) = d
seven a b c d e f g (suc (suc (suc (suc zero)))) = e
seven a b c d e f g (suc (suc (suc (suc (suc zero))))) = f
seven a b c d e f g (suc (suc (suc (suc (suc (suc i)))))) = g

module _ (n c : ℕ) (h : ℕ → ℕ → ℕ) where
  -- number j of row i is h i j
  pub made : List ℕ
  made = tab n (λ k. h (k / c) (k % c))

  pub made_size : length made ≡ n
  unfolding made
  made_size = length_tab n (λ k. h (k / c) (k % c))

  made_at : (i a : ℕ) → a ≡ c * i → (j : ℕ) → j < c → a + j < n → get_or made (a + j) 0 ≡ h i j
  unfolding made
  made_at i a e j u v =
      let pos : 0 < c = omega arith in
      at_tab n (λ k. h (k / c) (k % c)) (a + j) v
      ∙ ap₂ h
      (ap (λ z. (z + j) / c) e ∙ mul-add-div pos i j ∙ ap (λ z. i + z) (div-eq_of_lt u) ∙ add-zero i)
      (ap (λ z. (z + j) % c) e ∙ mul-add-mod_self_left c i j ∙ mod-eq_of_lt u)

  module _ (room : 6 * c ≤ n) where
    row₀ : (j : ℕ) → j < c → get_or made (0 + j) 0 ≡ h 0 j
    row₀ j u = made_at 0 0 (omega arith) j u (omega arith)

    row₁ : (j : ℕ) → j < c → get_or made (0 + c + j) 0 ≡ h 1 j
    row₁ j u = made_at 1 (0 + c) (omega arith) j u (omega arith)

    row₂ : (j : ℕ) → j < c → get_or made (0 + c + c + j) 0 ≡ h 2 j
    row₂ j u = made_at 2 (0 + c + c) (omega arith) j u (omega arith)

    row₃ : (j : ℕ) → j < c → get_or made (c + c + c + j) 0 ≡ h 3 j
    row₃ j u = made_at 3 (c + c + c) (omega arith) j u (omega arith)

    row₄ : (j : ℕ) → j < c → get_or made (c + c + c + c + j) 0 ≡ h 4 j
    row₄ j u = made_at 4 (c + c + c + c) (omega arith) j u (omega arith)

    row₅ : (j : ℕ) → j < c → get_or made (c + c + c + c + c + j) 0 ≡ h 5 j
    row₅ j u = made_at 5 (c + c + c + c + c) (omega arith) j u (omega arith)

  pub last_row : 7 * c ≤ n → (j : ℕ) → j < c → get_or made (c + c + c + c + c + c + j) 0 ≡ h 6 j
  last_row room j u = made_at 6 (c + c + c + c + c + c) (omega arith) j u (omega arith)

module _ (p c x y : ℕ) (l : List ℕ) where
  -- c numbers from place a on, as they are, and times k
  abbrev stay : ℕ → ℕ → ℕ
  stay a j = get_or l (a + j) 0

  abbrev by : ℕ → ℕ → ℕ → ℕ
  by k a j = (k * get_or l (a + j) 0) % p

  abbrev pub straights : ℕ → ℕ → ℕ
  straights = seven (stay 0) (by x (0 + c)) (by y (0 + c + c)) (stay (c + c + c)) (by x (c + c + c + c)) (by y (c + c + c + c + c)) (stay (c + c + c + c + c + c))

  abbrev pub crosseds : ℕ → ℕ → ℕ
  crosseds = seven (stay 0) (by x (0 + c + c)) (by y (0 + c)) (stay (c + c + c)) (by x (c + c + c + c + c)) (by y (c + c + c + c)) (stay (c + c + c + c + c + c))

  -- the second three with the other sign
  abbrev pub turneds : ℕ → ℕ → ℕ
  turneds = seven (stay 0) (by x (0 + c + c)) (by y (0 + c)) (by (p - 1) (c + c + c)) (by (p - x) (c + c + c + c + c)) (by (p - y) (c + c + c + c)) (stay (c + c + c + c + c + c))

  module _ (n : ℕ) (room : 6 * c ≤ n) where
    pub straight_rows : Straight p c x y l 0 (made n c straights) × Straight p c x y l (c + c + c) (made n c straights)
    straight_rows =
        let h = straights in
        (record { A = row₀ n c h room; B = row₁ n c h room; C = row₂ n c h room }, record { A = row₃ n c h room; B = row₄ n c h room; C = row₅ n c h room })

    pub crossed_rows : Crossed p c x y l 0 (made n c crosseds) × Crossed p c x y l (c + c + c) (made n c crosseds)
    crossed_rows =
        let h = crosseds in
        (record { A = row₀ n c h room; B = row₁ n c h room; C = row₂ n c h room }, record { A = row₃ n c h room; B = row₄ n c h room; C = row₅ n c h room })

    pub turned_rows : Crossed p c x y l 0 (made n c turneds) × Turned p c x y l (c + c + c) (made n c turneds)
    turned_rows =
        let h = turneds in
        (record { A = row₀ n c h room; B = row₁ n c h room; C = row₂ n c h room }, record { A = row₃ n c h room; B = row₄ n c h room; C = row₅ n c h room })
