-- The table of primes is complete, and what the test by it rests on.
--   complete                   the primes below 256, sifted, are the table: one computed test
--   entry_prime, prime_entry   each entry is a prime, and each prime below 256 is an entry
--   passed_all                 what no entry divides unless equal to it is prime, up to 65,535
--   divided                    what another entry divides is not
--   tested                     the answer of the test as its contract
use mathlib.Core.Path.{◌≡◌, refl, sym, ap, ◌∙◌, subst}
use mathlib.Core.Logic.{◌≢◌}
use mathlib.Core.Bool.{Bool, true, false, true≢false}
use mathlib.Core.List.{List, [], ◌∷◌}
use Prim.Native.Nat.{ℕ, zero, suc, ◌+◌, ◌/◌, ◌%◌, ◌<◌, ◌≤◌, ◌∣◌}
use native.Mathlib.Nat.{dvd_of_mod-eq-zero, mod-eq-zero_of_dvd, dvd_trans, le_of_dvd}
use native.Mathlib.Omega.{arith}
use native.Mathlib.Decide.{dec_lt, ℕ_discrete}
use lib.Dec.{T}
use lib.ListN.{length, get_or}
use Rattle.math_fp.specs.Fp.{Prime}
use Rattle.math_fp.specs.Trial.{primeb}
use Rattle.math_fp.proofs.Trial.{primeb_sound, primeb_make, prime_divisor, only_step}
use Rattle.num_prime.specs.Table.{largest, primes, PrimeTest}

-- ---- the primes among n, n + 1, .., k numbers
abbrev keep : Bool → ℕ → List ℕ → List ℕ
keep true n l = n ∷ l
keep false n l = l

unfoldable pub sift : ℕ → ℕ → List ℕ
sift zero n = []
sift (suc k) n = keep (primeb n) n (sift k (suc n))

pub complete : sift 256 0 ≡ primes
unfolding sift primes primeb
complete = refl

abbrev Entries : List ℕ → Type 0
Entries l = (i : ℕ) → i < length l → Prime (get_or l i 0)

abbrev At : List ℕ → ℕ → Type 0
At l q = (i : ℕ) × (i < length l) × (get_or l i 0 ≡ q)

keep_prime : (b : Bool) (n : ℕ) (l : List ℕ) → (T b → Prime n) → Entries l → Entries (keep b n l)
keep_prime true n l f e zero h = f tt
keep_prime true n l f e (suc i) h = e i (omega arith)
keep_prime false n l f e i h = e i h

sift_prime : (k n : ℕ) → Entries (sift k n)
unfolding sift
sift_prime zero n i h = absurd (omega arith)
sift_prime (suc k) n i h = keep_prime (primeb n) n (sift k (suc n)) (primeb_sound n) (sift_prime k (suc n)) i h

keep_here : (b : Bool) (n : ℕ) (l : List ℕ) → T b → At (keep b n l) n
keep_here true n l t = (0, omega arith, refl)
keep_here false n l t = absurd t

keep_later : (b : Bool) (n q : ℕ) (l : List ℕ) → At l q → At (keep b n l) q
keep_later true n q l (i, h, e) = (suc i, omega arith, e)
keep_later false n q l a = a

sift_at : (k n q : ℕ) → Prime q → n ≤ q → q < n + k → At (sift k n) q
unfolding sift
sift_at zero n q pr h l = absurd (omega arith)
sift_at (suc k) n q pr h l = go (λ f. sift_at k (suc n) q pr (omega arith) (omega arith)) (ℕ_discrete n q)
  where
    go : (n ≢ q → At (sift k (suc n)) q) → Dec (n ≡ q) → At (keep (primeb n) n (sift k (suc n))) q
    go later (yes e) = subst (λ m. At (keep (primeb n) n (sift k (suc n))) m) e (keep_here (primeb n) n (sift k (suc n)) (primeb_make n (subst Prime (sym e) pr)))
    go later (no f) = keep_later (primeb n) n q (sift k (suc n)) (later f)

-- ---- the same of the table
pub entry_prime : (i : ℕ) → i < 54 → Prime (get_or primes i 0)
unfolding primes
entry_prime i h = subst Entries complete (sift_prime 256 0) i h

pub prime_entry : (q : ℕ) → Prime q → q < 256 → (i : ℕ) × (i < 54) × (get_or primes i 0 ≡ q)
unfolding primes
prime_entry q pr h = subst (λ l. At l q) complete (sift_at 256 0 q pr (omega arith) (omega arith))

-- ---- the test: the entries passed, and the two answers
abbrev pub Passed : ℕ → ℕ → Type 0
Passed p i = (k : ℕ) → k < i → get_or primes k 0 ≢ p → p % get_or primes k 0 ≢ 0

pub passed_all : (p : ℕ) → 1 < p → p ≤ largest → Passed p 54 → Prime p
passed_all p h l f = record {
  big = h;
  only = λ d i j z. only_step p 254 (omega arith) none d i j z (dec_lt d 256) (dec_lt (p / d) 256);
}
  where
    none : (d : ℕ) → 1 < d → d < 256 → d < p → p % d ≢ 0
    none d i j k z =
        let (q, pr, e) = prime_divisor d i in
        let w : q ∣ d = dvd_of_mod-eq-zero q e in
        let le : q ≤ d = le_of_dvd (omega arith) w in
        let (n, a, same) = prime_entry q pr (omega arith) in
        f n a (λ y. let s : q ≡ p = sym same ∙ y in omega arith)
        (ap (λ t. p % t) same ∙ mod-eq-zero_of_dvd q (dvd_trans q w (dvd_of_mod-eq-zero d z)))

pub divided : (p i : ℕ) → 1 < p → i < 54 → get_or primes i 0 ≢ p → p % get_or primes i 0 ≡ 0 → Prime p → ⊥
divided p i h l ne z pr =
    let q = get_or primes i 0 in
    let le : q ≤ p = le_of_dvd (omega arith) (dvd_of_mod-eq-zero q z) in
    pr.only q (entry_prime i l).big (omega arith) z

pub tested : {p : ℕ} {r : Bool} → 1 < p → p ≤ largest → (r ≡ true → Passed p 54) → (Passed p 54 → r ≡ true) → PrimeTest p r
tested {p} h l f g = record {
  yes! = λ e. (passed_all p h l (f e), l);
  no! = λ e pr u. true≢false (sym (g (λ i v ne z. divided p i h v ne z pr)) ∙ e);
}
