-- Numbers read out of bytes: what the code computes, and that writing and reading undo each other.
use mathlib.Core.Path.{◌≡◌, refl, sym, ap, ◌∙◌}
use mathlib.Core.List.{List, [], ◌∷◌, ◌++◌, append_assoc}
use Prim.Native.Nat.{ℕ, zero, suc, ◌+◌, ◌-◌, ◌*◌, ◌/◌, ◌%◌, ◌<◌, ◌≤◌}
use native.Mathlib.Nat.{add-zero}
use native.Mathlib.Omega.{arith}
use lib.ListN.{length, get_or, take, drop, get_or-eq_default, take-append-drop, length-drop}
use lib.Seq.{get_or-drop, drop-drop, drop_at}
use Rattle.book_bytes.specs.Bytes.{le, val, words, vals, u2, u4, Bytes, Small}

pub bytes_drop : (s : List ℕ) (i : ℕ) → Bytes s → Bytes (drop i s)
bytes_drop s i h j = let e : get_or (drop i s) j 0 ≡ get_or s (i + j) 0 = get_or-drop i s j 0 in omega (arith, h (i + j))

-- ---- what the code computes
pub val2 : (s : List ℕ) (i : ℕ) → u2 s i ≡ get_or s i 0 + 256 * get_or s (i + 1) 0
unfolding val
val2 s i =
    let a : get_or (drop i s) 0 0 ≡ get_or s (i + 0) 0 = get_or-drop i s 0 0 in
    let b : get_or (drop 1 (drop i s)) 0 0 ≡ get_or (drop i s) (1 + 0) 0 = get_or-drop 1 (drop i s) 0 0 in
    let c : get_or (drop i s) 1 0 ≡ get_or s (i + 1) 0 = get_or-drop i s 1 0 in
    let d : get_or s (i + 0) 0 ≡ get_or s i 0 = ap (λ (k : ℕ). get_or s k 0) (add-zero i) in
    omega arith

pub val4 : (s : List ℕ) (i : ℕ) → u4 s i ≡ u2 s i + 65536 * u2 s (i + 2)
unfolding val
val4 s i =
    let e : drop 2 (drop i s) ≡ drop (i + 2) s = drop-drop 2 i s in
    let a : drop 1 (drop 1 (drop i s)) ≡ drop 2 (drop i s) = drop-drop 1 1 (drop i s) in
    rw (a, e) (omega arith)

pub length_vals : (n : ℕ) (s : List ℕ) → length (vals n s) ≡ n
unfolding vals
length_vals zero s = refl
length_vals (suc n) s = ap suc (length_vals n (drop 2 s))

pub at_vals : (n : ℕ) (s : List ℕ) (j : ℕ) → j < n → get_or (vals n s) j 0 ≡ u2 s (2 * j)
unfolding vals
at_vals zero s j h = absurd (omega arith)
at_vals (suc n) s zero h = refl
at_vals (suc n) s (suc j) h =
    at_vals n (drop 2 s) j (omega arith) ∙ ap (val 2) (drop-drop (2 * j) 2 s)
    ∙ ap (λ (k : ℕ). val 2 (drop k s)) (let e : 2 + 2 * j ≡ 2 * suc j = omega arith in e)

pub at_list : (n : ℕ) (s : List ℕ) (i j : ℕ) → j < n → get_or (vals n (drop i s)) j 0 ≡ u2 s (i + 2 * j)
at_list n s i j h = at_vals n (drop i s) j h ∙ ap (val 2) (drop-drop (2 * j) i s)

-- past the end the numbers are 0
pub past2 : (s : List ℕ) (i : ℕ) → length s ≤ i → u2 s i ≡ 0
past2 s i h =
    let e : u2 s i ≡ get_or s i 0 + 256 * get_or s (i + 1) 0 = val2 s i in
    let a : get_or s i 0 ≡ 0 = get_or-eq_default s 0 {n = i} h in
    let b : get_or s (i + 1) 0 ≡ 0 = get_or-eq_default s 0 {n = i + 1} (omega arith) in
    omega arith

pub past4 : (s : List ℕ) (i : ℕ) → length s ≤ i → u4 s i ≡ 0
past4 s i h =
    let e : u4 s i ≡ u2 s i + 65536 * u2 s (i + 2) = val4 s i in
    let a : u2 s i ≡ 0 = past2 s i h in
    let b : u2 s (i + 2) ≡ 0 = past2 s (i + 2) (omega arith) in
    omega arith

-- ---- one number
step_mod : (x v : ℕ) → x < 256 → (x + 256 * v) % 256 ≡ x
step_mod x v h = omega arith

step_div : (x v : ℕ) → x < 256 → (x + 256 * v) / 256 ≡ v
step_div x v h = omega arith

pub le_val : (k : ℕ) (l : List ℕ) → Bytes l → k ≤ length l → le k (val k l) ≡ take k l
unfolding le val
le_val zero l b h = refl
le_val (suc k) [] b h = absurd (omega arith)
le_val (suc k) (x ∷ l) b h =
    rw (step_mod x (val k l) (b 0), step_div x (val k l) (b 0))
    (ap (λ (z : List ℕ). x ∷ z) (le_val k l (λ i. b (suc i)) (omega arith)))

pub peel : (k i : ℕ) (s : List ℕ) → Bytes s → i + k ≤ length s → drop i s ≡ le k (val k (drop i s)) ++ drop (i + k) s
peel k i s b h =
    let n : length (drop i s) ≡ length s - i = length-drop i s in
    sym (take-append-drop k (drop i s)) ∙ ap (λ (z : List ℕ). z ++ drop k (drop i s)) (sym (le_val k (drop i s) (bytes_drop s i b) (omega arith)))
    ∙ ap (λ (z : List ℕ). le k (val k (drop i s)) ++ z) (drop-drop k i s)

pub peel_list : (n i : ℕ) (s : List ℕ) → Bytes s → i + 2 * n ≤ length s → drop i s ≡ words (vals n (drop i s)) ++ drop (i + 2 * n) s
unfolding words vals
peel_list zero i s b h = ap (λ (k : ℕ). drop k s) (let e : i ≡ i + 0 = omega arith in e)
peel_list (suc n) i s b h =
    let e : (i + 2) + 2 * n ≡ i + 2 * suc n = omega arith in
    let r : drop (i + 2) s ≡ words (vals n (drop (i + 2) s)) ++ drop ((i + 2) + 2 * n) s = peel_list n (i + 2) s b (omega arith) in
    peel 2 i s b (omega arith)
    ∙ ap (λ (z : List ℕ). le 2 (val 2 (drop i s)) ++ z) (r ∙ ap (λ (k : ℕ). words (vals n (drop (i + 2) s)) ++ drop k s) e)
    ∙ sym (append_assoc (le 2 (val 2 (drop i s))) (words (vals n (drop (i + 2) s))) (drop (i + 2 * suc n) s))
    ∙ ap (λ (z : List ℕ). (le 2 (val 2 (drop i s)) ++ words (vals n z)) ++ drop (i + 2 * suc n) s) (sym (drop-drop 2 i s))

-- read after written
pub val_le2 : (n : ℕ) (r : List ℕ) → n < 65536 → val 2 (le 2 n ++ r) ≡ n
unfolding le val
val_le2 n r h = omega arith

pub val_le4 : (n : ℕ) (r : List ℕ) → n < 4294967296 → val 4 (le 4 n ++ r) ≡ n
unfolding le val
val_le4 n r h =
    let a : n ≡ n % 256 + 256 * (n / 256) = omega arith in
    let b : n / 256 ≡ n / 256 % 256 + 256 * (n / 256 / 256) = omega arith in
    let c : n / 256 / 256 ≡ n / 256 / 256 % 256 + 256 * (n / 256 / 256 / 256) = omega arith in
    let d : n / 256 / 256 / 256 % 256 ≡ n / 256 / 256 / 256 = omega arith in
    omega arith

pub past_le2 : (n : ℕ) (r : List ℕ) → drop 2 (le 2 n ++ r) ≡ r
unfolding le
past_le2 n r = refl

pub past_le4 : (n : ℕ) (r : List ℕ) → drop 4 (le 4 n ++ r) ≡ r
unfolding le
past_le4 n r = refl

pub length_le2 : (n : ℕ) → length (le 2 n) ≡ 2
unfolding le
length_le2 n = refl

pub length_le4 : (n : ℕ) → length (le 4 n) ≡ 4
unfolding le
length_le4 n = refl

pub vals_words : (l r : List ℕ) → Small l → vals (length l) (words l ++ r) ≡ l
unfolding words vals
vals_words [] r h = refl
vals_words (x ∷ l) r h =
    let e : (le 2 x ++ words l) ++ r ≡ le 2 x ++ (words l ++ r) = append_assoc (le 2 x) (words l) r in
    rw e
    (ap (λ (z : ℕ). z ∷ vals (length l) (drop 2 (le 2 x ++ (words l ++ r)))) (val_le2 x (words l ++ r) (h 0 (omega arith)))
    ∙ ap (λ (z : List ℕ). x ∷ z) (ap (vals (length l)) (past_le2 x (words l ++ r)) ∙ vals_words l r (λ i u. h (suc i) (omega arith))))

pub length_words : (l : List ℕ) → length (words l) ≡ 2 * length l
unfolding words le
length_words [] = refl
length_words (x ∷ l) = let e : length (words l) ≡ 2 * length l = length_words l in omega arith

pub next_list : (w : List ℕ) (i n : ℕ) (l r : List ℕ) → drop i w ≡ words l ++ r → n ≡ length l → drop (i + 2 * n) w ≡ r
next_list w i n l r e f =
    sym (drop-drop (2 * n) i w) ∙ ap (drop (2 * n)) e ∙ drop_at (words l) r (2 * n) (length_words l ∙ ap (λ (k : ℕ). 2 * k) (sym f))

pub read_list : (w : List ℕ) (i n : ℕ) (l r : List ℕ) → drop i w ≡ words l ++ r → n ≡ length l → Small l → vals n (drop i w) ≡ l
read_list w i n l r e f h = ap (λ (k : ℕ). vals k (drop i w)) f ∙ ap (vals (length l)) e ∙ vals_words l r h
