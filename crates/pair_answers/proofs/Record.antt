-- Records of the one pair and of the other.
--   RecordIn, record_way, record_in   what RecordCarries says for a given way; between the two
--   Over, over                        a list of 119 numbers below p that a record carries over to; there is one
--   basis_over                        as bases it is U, φM, σφN
--   record_over, record_back          what a record carries over to is a record, and nothing else carries over to one
--   record_of                         the record with the basis U, φM, σφN is the one that the record carries over to
use mathlib.Core.Path.{◌≡◌, sym, ◌∙◌, subst}
use mathlib.Core.List.{List}
use Prim.Native.Nat.{ℕ, ◌<◌}
use native.Mathlib.Omega.{arith}
use native.Mathlib.Decide.{dec_lt}
use lib.ListN.{length, get_or}
use Rattle.math_fp.specs.Fp.{Prime}
use Rattle.math_rows.specs.Made.{reading}
use Rattle.poly_rows.specs.Polynomial.{polynomial}
use Rattle.field_open.specs.Refusal.{Accepted}
use Rattle.field_open.proofs.Accept.{with_prime}
use Rattle.math_ideals.specs.Ideal.{Basis}
use Rattle.math_ideals.specs.Basis.{Good}
use Rattle.basis_record.specs.Record.{part, setting, basis_of, IsRecord}
use Rattle.basis_record.proofs.Unique.{basis_unique}
use Rattle.pair_laws.specs.Rows.{Stays, RecordCarries, straight, crossed}
use Rattle.math_ideals.specs.Setting.{at}
use Rattle.basis_record.specs.Setting.{roots}
use Rattle.math_carry.specs.Carries.{carry}
use Rattle.math_carry.proofs.Inverse.{back, carry_back}
use Rattle.math_carry.proofs.Transport.{good_carry}
use Rattle.pair_answers.proofs.Way.{Way, same, swapped, map}
use Rattle.pair_answers.proofs.Rows.{stays_row, tri, ThreeIn, SignedIn, three_below, signed_below, tri_over, signed_over}
use Rattle.pair_answers.proofs.Blocks.{row_below, all_below, straights, turneds, made, made_size, straight_rows, turned_rows, last_row}

module _ {p : ℕ} {G H G' H' : List ℕ} where
  abbrev pub RecordIn : Way p G H G' H' → List ℕ → List ℕ → Type 0
  RecordIn w B B' = ThreeIn w 17 B 0 B' × SignedIn w 17 B 51 B' × Stays 17 B 102 B'

  pub record_way : {B B' : List ℕ} → RecordCarries p G H G' H' B B' → (w : Way p G H G' H') × RecordIn w B B'
  record_way (straight a b x y l m n u) = (same a b x y l, (m, n, u))
  record_way (crossed a b x y l m n u) = (swapped a b x y l, (m, n, u))

  pub record_in : {B B' : List ℕ} (w : Way p G H G' H') → RecordIn w B B' → RecordCarries p G H G' H' B B'
  record_in (same a b x y l) (m, n, u) = straight a b x y l m n u
  record_in (swapped a b x y l) (m, n, u) = crossed a b x y l m n u

  -- ---- the list that a record carries over to
  pub record Over (w : Way p G H G' H') (B B' : List ℕ) : Type 0 where
    pub size : length B' ≡ 119
    pub below : (i : ℕ) → get_or B' i 0 < p
    pub rows : RecordIn w B B'

  module _ (B : List ℕ) (below : (i : ℕ) → get_or B i 0 < p) where
    pub record_below : (w : Way p G H G' H') (B' : List ℕ) → length B' ≡ 119 → RecordIn w B B' → Over w B B'
    record_below w B' e (m, n, u) = record {
      size = e;
      below = all_below p 17 B B' below 119 e (λ k v. elim (dec_lt k 51) [
        | yes a ↦ three_below 17 B B' below w 0 m k (omega arith) a
        | no a ↦ elim (dec_lt k 102) [ yes b ↦ signed_below 17 B B' below w 51 n k (omega arith) b | no b ↦ row_below p 17 B B' below 102 u k (omega arith) v ]
      ]);
      rows = (m, n, u);
    }

    pub over : (w : Way p G H G' H') → (B' : List ℕ) × Over w B B'
    over (same a b x y l) =
        let h = straights p 17 x y B in
        let (m, n) = straight_rows p 17 x y B 119 (omega arith) in
        (made 119 17 h, record_below (same a b x y l) (made 119 17 h) (made_size 119 17 h) (m, n, last_row 119 17 h (omega arith)))
    over (swapped a b x y l) =
        let h = turneds p 17 x y B in
        let (m, n) = turned_rows p 17 x y B 119 (omega arith) in
        (made 119 17 h, record_below (swapped a b x y l) (made 119 17 h) (made_size 119 17 h) (m, n, last_row 119 17 h (omega arith)))

  -- ---- as bases
  module _ (A : Accepted p G H) (A' : Accepted p G' H') (pr : Prime p) where
    abbrev basis : List ℕ → Basis (at (roots A pr))
    basis B = record { U = polynomial p pr (part 6 B); M = tri p pr 17 0 B; N = tri p pr 17 51 B }

    abbrev basis' : List ℕ → Basis (at (roots A' pr))
    basis' B = record { U = polynomial p pr (part 6 B); M = tri p pr 17 0 B; N = tri p pr 17 51 B }

    pub basis_over : (w : Way p G H G' H') (B B' : List ℕ) → RecordIn w B B' → carry (roots A pr) (roots A' pr) (map A A' pr w) (basis B) ≡ basis' B'
    basis_over w B B' (m, n, u) =
        let e_u = sym (stays_row p pr 17 B B' 102 u) in
        let eM = tri_over A A' pr 17 0 B B' w m in
        let eN = signed_over A A' pr 17 51 B B' w n in
        λ i. record { U = e_u i; M = eM i; N = eN i }

  -- ---- records
  pub record_over : Accepted p G H → (w : Way p G H G' H') {B B' : List ℕ} → Over w B B' → IsRecord p G H B → IsRecord p G' H' B'
  record_over A₀ w {B} {B'} o r = record {
    size = o.size;
    each = o.below;
    good = λ A'.
        let pr = A'.prime in
        let A = with_prime A₀ pr in
        subst (Good (setting A')) (basis_over A A' pr w B B' o.rows) (good_carry (reading p pr).𝓥 (map A A' pr w) (basis_of A B) (r.good A));
  }

  pub record_back : Accepted p G' H' → (w : Way p G H G' H') {B B' : List ℕ} → length B ≡ 119 → ((i : ℕ) → get_or B i 0 < p)
      → Over w B B' → IsRecord p G' H' B' → IsRecord p G H B
  record_back A₀ w {B} {B'} size below o r = record {
    size = size;
    each = below;
    good = λ A.
        let pr = A.prime in
        let A' = with_prime A₀ pr in
        let c = map A A' pr w in
        let k = subst (Good (setting A')) (sym (basis_over A A' pr w B B' o.rows)) (r.good A') in
        subst (Good (setting A)) (carry_back (reading p pr).𝓥 c (basis_of A B))
        (good_carry (reading p pr).𝓥 (back (reading p pr).𝓥 c) (carry (roots A pr) (roots A' pr) c (basis_of A B)) k);
  }

  pub record_of : (A : Accepted p G H) (A₀ : Accepted p G' H') (w : Way p G H G' H') {B B' : List ℕ} → IsRecord p G H B → IsRecord p G' H' B' →
      (let pr = A.prime in let A' = with_prime A₀ pr in carry (roots A pr) (roots A' pr) (map A A' pr w) (basis_of A B) ≡ basis_of A' B') → RecordCarries p G H G' H' B B'
  record_of A A₀ w {B} {B'} r r' e =
      let pr = A.prime in
      let A' = with_prime A₀ pr in
      let (B₁, o) = over B r.each w in
      let q : B₁ ≡ B' = basis_unique A' B₁ B' (record_over A w o r) r' (sym (basis_over A A' pr w B B₁ o.rows) ∙ e) in
      record_in w (subst (RecordIn w B) q o.rows)
