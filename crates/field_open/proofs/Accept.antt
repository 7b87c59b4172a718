-- The number is 0 exactly for the accepted fields.
--   accepted                            number 0: accepted
--   accepted_none                       accepted: number 0
--   degree_size, degree_lead, degree_has, degree_leads   of a list of coefficients: its trimmed length, its leading coefficient, which is not 0,
--                                       the degree of its polynomial, and what it leads with
--   stop_p, stop_lists, pass_lists      the rows put together
--   with_prime                          an accepted field at another proof that p is prime
--   shaped                              what rows 1 to 6 leave to rows 7 and 8
-- What is not at fault is good, since the faults 1 and 3 are of things that are decided, and the others are negations themselves.
use mathlib.Core.Path.{◌≡◌, refl, sym, ap, ◌∙◌, subst}
use mathlib.Core.Logic.{◌≢◌, inl, inr}
use mathlib.Core.List.{List}
use Prim.Native.Nat.{ℕ, suc, ◌+◌, ◌-◌, ◌%◌, ◌<◌, ◌≤◌}
use native.Mathlib.Nat.{mod-lt}
use native.Mathlib.Omega.{arith}
use native.Mathlib.Decide.{dec_le, ℕ_discrete}
use lib.ListN.{length, get_or}
use Rattle.base_answers.specs.Stage.{End}
use Rattle.base_answers.proofs.Stages.{later, past}
use Rattle.math_fp.specs.Fp.{Prime}
use Rattle.math_valued.specs.Degree.{Has, Leads}
use Rattle.math_valued.proofs.Factor.{free_no_square, no_square_free, apart_no_common, no_common_apart}
use Rattle.math_rows.specs.Made.{reading}
use Rattle.math_rows.specs.Row.{row, Size}
use Rattle.math_rows.proofs.Rows.{size_lead}
use Rattle.num_prime.specs.Table.{largest}
use Rattle.poly_rows.specs.Polynomial.{polynomial}
use Rattle.base_lists.proofs.Coefs.{coefs_size}
use Rattle.field_open.specs.Refusal.{longest, highest, Degree, Fault1, Fault2, Fault3, Fault4, Fault5, Fault6, Fault7, Fault8, Rows12, Rows36, Rows78, Refusal, Accepted}
use Rattle.field_open.specs.Parts.{Shaped}
use Rattle.field_open.proofs.Stages.{degree_unique}

le_stable : (a b : ℕ) → ((a ≤ b → ⊥) → ⊥) → a ≤ b
le_stable a b f = elim (dec_le a b) [ yes h ↦ h | no h ↦ absurd (f h) ]

eq_stable : {a b : ℕ} → ((a ≢ b) → ⊥) → a ≡ b
eq_stable {a} {b} f = elim (ℕ_discrete a b) [ yes h ↦ h | no h ↦ absurd (f h) ]

pub prime_stable : (p : ℕ) → ((Prime p → ⊥) → ⊥) → Prime p
prime_stable p f = record {
  big = le_stable 2 p (λ k. f (λ pr. k pr.big));
  only = λ d h l z. f (λ pr. pr.only d h l z);
}

-- the degree is the length less 1
pub degree_stable : (p : ℕ) (l : List ℕ) → (Fault3 p l → ⊥) → Degree p l (length l - 1)
degree_stable p l f =
    let some : 1 ≤ length l = le_stable 1 (length l) (λ k. f (λ d s. let e : length l ≡ suc d = s.whole in k (omega arith))) in record {
      whole = omega arith;
      short = le_stable (length l) longest (λ k. f (λ d s. k s.short));
      each = λ i h. le_stable (suc (get_or l i 0)) p (λ k. f (λ d s. k (s.each i h)));
      last = λ z. f (λ d s. s.last (let e : length l ≡ suc d = s.whole in let w : d ≡ length l - 1 = omega arith in ap (λ n. get_or l n 0) w ∙ z));
    }

-- a prime above 3 leaves 1 or 2 by 3
pub kind_of : (p : ℕ) → Prime p → 5 ≤ p → p % 3 ≢ 1 → p % 3 ≡ 2
kind_of p pr l f =
    let z : p % 3 ≢ 0 = pr.only 3 (omega arith) (omega arith) in
    let b : p % 3 < 3 = mod-lt p (omega arith) in
    omega arith

abbrev pub with_prime : {p : ℕ} {G H : List ℕ} → Accepted p G H → Prime p → Accepted p G H
with_prime A pr = record {
  prime = pr;
  low = A.low;
  high = A.high;
  kind = A.kind;
  deg_g = A.deg_g;
  deg_h = A.deg_h;
  list_g = A.list_g;
  list_h = A.list_h;
  some = A.some;
  sum = A.sum;
  thirds = A.thirds;
  free_g = A.free_g;
  free_h = A.free_h;
  apart = A.apart;
}

-- ---- the degree of the polynomial
pub degree_size : {p d : ℕ} {l : List ℕ} → Degree p l d → Size l (suc d)
degree_size = coefs_size

pub degree_lead : {p d : ℕ} {l : List ℕ} (pr : Prime p) → Degree p l d → (reading p pr).cast (get_or l d 0) ≢ (reading p pr).𝓥.K.ops.𝟎
degree_lead {p} {d} {l} pr s z = let e : length l ≡ suc d = s.whole in s.last ((reading p pr).cast_small (get_or l d 0) (s.each d (omega arith)) z)

pub degree_has : {p d : ℕ} {l : List ℕ} (pr : Prime p) → Degree p l d → Has (reading p pr).𝓥 (row (reading p pr) l) d
degree_has {p} {d} {l} pr s = let ρ = reading p pr in (ρ.cast (get_or l d 0), degree_lead pr s, size_lead ρ (degree_size s))

pub degree_leads : {p d : ℕ} {l : List ℕ} (pr : Prime p) → Degree p l d → Leads (reading p pr).𝓥 (row (reading p pr) l) ((reading p pr).cast (get_or l d 0))
degree_leads {p} {d} {l} pr s = (d, 0, degree_lead pr s, size_lead (reading p pr) (degree_size s))

-- ---- the rows put together: a row's number stops the table, 0 hands it on
module _ (p : ℕ) (G H : List ℕ) where
  pub stop_p : (n : ℕ) → n ≢ 0 → Rows12 p End n → Refusal p G H n
  unfolding Refusal
  stop_p n f = later (later (λ e. absurd (f e)))

  pass_p : (a : ℕ) → a ≡ 0 → Rows12 p End a → (Fault1 p → ⊥) × (Fault2 p → ⊥)
  pass_p a e s = let (f, t) = past (λ z. omega arith) s in let (g, u) = past (λ z. omega arith) t in (f, g)

  pub stop_lists : (a n : ℕ) → a ≡ 0 → Rows12 p End a → n ≢ 0 → Rows36 p G H End n → Refusal p G H n
  unfolding Refusal
  stop_lists a n z s f t =
      let (i, j) = pass_p a z s in
      inr (i, inr (j, later (later (later (later (later (λ e. absurd (f e)))))) t))

  pub pass_lists : (a b n : ℕ) → a ≡ 0 → Rows12 p End a → b ≡ 0 → Rows36 p G H End b → Rows78 p G H n → Refusal p G H n
  unfolding Refusal
  pass_lists a b n z s y t u =
      let (i, j) = pass_p a z s in
      inr (i, inr (j, after t))
    where
      after : Rows36 p G H End b → Rows36 p G H (Rows78 p G H) n
      after t =
          let (k₁, t₁) = past (λ z. omega arith) t in
          let (k₂, t₂) = past (λ z. omega arith) t₁ in
          let (k₃, t₃) = past (λ z. omega arith) t₂ in
          let (k₄, t₄) = past (λ z. omega arith) t₃ in
          let (k₅, t₅) = past (λ z. omega arith) t₄ in
          inr (k₁, inr (k₂, inr (k₃, inr (k₄, inr (k₅, u)))))

  pub shaped : (a b : ℕ) → a ≡ 0 → Rows12 p End a → b ≡ 0 → Rows36 p G H End b → Shaped p G H
  shaped a b z s y t =
      let (i, j) = pass_p a z s in
      let (k₁, t₁) = past (λ z. omega arith) t in
      let (k₂, t₂) = past (λ z. omega arith) t₁ in record {
        prime = prime_stable p (λ f. i (inr (inr f)));
        high = le_stable p largest (λ f. i (inr (inl (omega arith))));
        deg_g = length G - 1;
        deg_h = length H - 1;
        list_g = degree_stable p G k₁;
        list_h = degree_stable p H k₂;
      }

-- ---- the two ways
module _ (p : ℕ) (G H : List ℕ) where
  pub accepted : Refusal p G H 0 → Accepted p G H
  unfolding Refusal
  accepted n =
      let (n₁, m₁) = past {n = 0} {k = 1} (λ e. omega arith) n in
      let (n₂, m₂) = past {n = 0} {k = 2} (λ e. omega arith) m₁ in
      let (n₃, m₃) = past {n = 0} {k = 3} (λ e. omega arith) m₂ in
      let (n₄, m₄) = past {n = 0} {k = 3} (λ e. omega arith) m₃ in
      let (n₅, m₅) = past {n = 0} {k = 4} (λ e. omega arith) m₄ in
      let (n₆, m₆) = past {n = 0} {k = 5} (λ e. omega arith) m₅ in
      let (n₇, m₇) = past {n = 0} {k = 6} (λ e. omega arith) m₆ in
      let (n₈, m₈) = past {n = 0} {k = 7} (λ e. omega arith) m₇ in
      let (n₉, m₉) = past {n = 0} {k = 8} (λ e. omega arith) m₈ in
      let pr : Prime p = prime_stable p (λ f. n₁ (inr (inr f))) in
      let low : 5 ≤ p = le_stable 5 p (λ f. n₁ (inl (omega arith))) in
      let g : Degree p G (length G - 1) = degree_stable p G n₃ in
      let h : Degree p H (length H - 1) = degree_stable p H n₄ in record {
        prime = pr;
        low = low;
        high = le_stable p largest (λ f. n₁ (inr (inl (omega arith))));
        kind = kind_of p pr low n₂;
        deg_g = length G - 1;
        deg_h = length H - 1;
        list_g = g;
        list_h = h;
        some = le_stable 1 (length G - 1 + (length H - 1)) (λ f.
            let a : length G - 1 ≡ 0 = omega arith in
            let b : length H - 1 ≡ 0 = omega arith in
            n₅ (subst (Degree p G) a g, subst (Degree p H) b h));
        sum = le_stable (length G - 1 + (length H - 1)) highest (λ f. n₆ (length G - 1, length H - 1, g, h, omega arith));
        thirds = eq_stable (λ f. n₇ (length G - 1, length H - 1, g, h, f));
        free_g = λ q. no_square_free (reading p q).𝓥 (polynomial p q G) (degree_has q g) (λ s. n₈ (q, inl s));
        free_h = λ q. no_square_free (reading p q).𝓥 (polynomial p q H) (degree_has q h) (λ s. n₈ (q, inr s));
        apart = λ q. no_common_apart (reading p q).𝓥 (polynomial p q G) (polynomial p q H) (degree_has q g) (λ s. n₉ (q, s));
      }

  pub accepted_none : Accepted p G H → Refusal p G H 0
  unfolding Refusal
  accepted_none a = inr (one, inr (two, inr (λ f. f a.deg_g a.list_g, inr (λ f. f a.deg_h a.list_h, inr (four, inr (five, inr (six, inr (seven, inr (eight, refl)))))))))
    where
      one : Fault1 p → ⊥
      one (inl f) = omega (arith, a.low)
      one (inr (inl f)) = omega (arith, a.high)
      one (inr (inr f)) = f a.prime

      two : p % 3 ≢ 1
      two f = omega (arith, a.kind)

      four : Fault4 p G H → ⊥
      four (f, g) = omega (arith, a.some, degree_unique f a.list_g, degree_unique g a.list_h)

      five : Fault5 p G H → ⊥
      five (d, e, f, g, l) = omega (arith, a.sum, degree_unique f a.list_g, degree_unique g a.list_h)

      six : Fault6 p G H → ⊥
      six (d, e, f, g, ne) = ne (ap (λ n. n % 3) (degree_unique f a.list_g) ∙ a.thirds ∙ ap (λ n. n % 3) (sym (degree_unique g a.list_h)))

      seven : Fault7 p G H → ⊥
      seven (q, inl s) = free_no_square (reading p q).𝓥 (polynomial p q G) (a.free_g q) s
      seven (q, inr s) = free_no_square (reading p q).𝓥 (polynomial p q H) (a.free_h q) s

      eight : Fault8 p G H → ⊥
      eight (q, s) = apart_no_common (reading p q).𝓥 (polynomial p q G) (polynomial p q H) (a.apart q) s
