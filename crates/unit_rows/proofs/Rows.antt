-- One coordinate of E m: what `coordinate` hands out, from what it calls.
use mathlib.Core.Path.{◌≡◌, sym, ap, ap₂, ◌∙◌, subst}
use mathlib.Core.List.{List, ◌++◌}
use Prim.Native.Nat.{ℕ, ◌+◌, ◌-◌, ◌<◌, ◌≤◌}
use native.Mathlib.Omega.{arith}
use lib.ListN.{length, get_or, take, drop}
use lib.Seq.{get_or-take, get_or-drop}
use Rattle.math_rows.specs.Reading.{Reading}
use Rattle.math_rows.specs.Made.{reading}
use Rattle.math_rows.specs.Row.{row, Size}
use Rattle.math_rows.proofs.Unique.{list_exists}
use Rattle.poly_quotient.specs.Quotients.{QuotientAsks, Quotient}
use Rattle.base_lists.specs.Pieces.{cut, between}
use Rattle.unit_rows.specs.Six.{CoordinateAsks, Coordinate}
use Rattle.base_lists.proofs.Pieces.{between_length, between_cut}
use Rattle.base_lists.proofs.Puts.{Around, put_back, around_cut}
use Rattle.math_rows.proofs.Trims.{row_front}

-- the front of a list, as it is lent
row_lent : {p : ℕ} (ρ : Reading p) (l : List ℕ) (m : ℕ) → Size l m → row ρ (between 0 m l) ≡ row ρ l
row_lent ρ l m s = ap (λ k. row ρ (take k l)) (let o : m - 0 ≡ m = omega arith in o) ∙ row_front ρ l m s

module _ (p c n : ℕ) (a b d u e : List ℕ) (at : ℕ) (s : List ℕ) (la lb ld lu : ℕ) (h : CoordinateAsks p c n a b d u e at s) (sa : Size a la) (sb : Size b lb) (sd : Size d ld) (su : Size u lu) where
  trim : (l : List ℕ) (m : ℕ) → Size l m → length l ≤ 4096 → length (between 0 m l) ≤ 65536
  trim l m z k = let o : length (between 0 m l) ≡ m - 0 = between_length 0 m l (omega arith) z.fits in let f : m ≤ length l = z.fits in omega arith

  last : get_or (between 0 lu u) (length (between 0 lu u) - 1) 0 ≡ 1
  last =
      let (pos, top) = h.monic lu su in
      let o : length (between 0 lu u) ≡ lu - 0 = between_length 0 lu u (omega arith) su.fits in
      get_or-take (lu - 0) (drop 0 u) (length (between 0 lu u) - 1) 0 (omega arith) ∙ get_or-drop 0 u (length (between 0 lu u) - 1) 0
      ∙ ap (λ i. get_or u i 0) (let q : 0 + (length (between 0 lu u) - 1) ≡ lu - 1 = omega arith in q) ∙ top

  place : length (between at (at + n) s) ≡ n
  place = between_length at (at + n) s (omega arith) h.s_room ∙ (let q : at + n - at ≡ n = omega arith in q)

  pub coordinate_asks : QuotientAsks p (between 0 la a) (between 0 lb b) (between 0 ld d) (between 0 lu u) (between at (at + n) s)
  coordinate_asks = record {
    modulus = h.modulus;
    a_most = trim a la sa h.a_most;
    b_most = trim b lb sb h.b_most;
    c_most = trim d ld sd h.d_most;
    u_most = trim u lu su h.u_most;
    q_most = let o = place in let f : n ≤ c = h.upto in let g : c ≤ 4096 = h.most in omega arith;
    u_some = let (pos, top) = h.monic lu su in let o : length (between 0 lu u) ≡ lu - 0 = between_length 0 lu u (omega arith) su.fits in omega arith;
    monic = last;
  }

  module _ (q : List ℕ) (g : Quotient p (between 0 la a) (between 0 c e) (between 0 lb b) (between c (c + c) e) (between 0 ld d) (between (c + c) (c + c + c) e) (between 0 lu u) (between at (at + n) s) q) where
    put : Around at n s q (take at s ++ (q ++ drop n (drop at s)))
    put = put_back at n s q h.s_room (g.size ∙ place)

    -- the rows of E
    part₀ : between 0 c e ≡ cut 0 c e
    part₀ = between_cut 0 c e (omega arith) (let r : c + c + c ≤ length e = h.e_room in omega arith) ∙ ap (λ k. cut 0 k e) (let o : c - 0 ≡ c = omega arith in o)

    part₁ : between c (c + c) e ≡ cut c c e
    part₁ = between_cut c (c + c) e (omega arith) (let r : c + c + c ≤ length e = h.e_room in omega arith) ∙ ap (λ k. cut c k e) (let o : c + c - c ≡ c = omega arith in o)

    part₂ : between (c + c) (c + c + c) e ≡ cut (c + c) c e
    part₂ = between_cut (c + c) (c + c + c) e (omega arith) h.e_room ∙ ap (λ k. cut (c + c) k e) (let o : c + c + c - (c + c) ≡ c = omega arith in o)

    made : Coordinate p c n a b d u e at s (take at s ++ (q ++ drop n (drop at s)))
    made = record {
      size = put.size;
      before = put.before;
      after = put.after;
      each = λ i l. subst (λ v. v < p) (sym (put.inside i l)) (g.each i);
      law = λ pr w hw lw eq. let ρ = reading p pr in let o = ρ.𝓥.L.ops in
          let (l, sl, el, rl) = list_exists ρ n w hw lw in
          ap (row ρ) (around_cut put (g.size ∙ place)
          ∙ g.law pr l (sl ∙ sym place) el
          (ap₂ o.mul (row_lent ρ u lu su) rl ∙ eq
          ∙ sym (ap₂ o.add (ap₂ o.add (ap₂ o.mul (row_lent ρ a la sa) (ap (row ρ) part₀)) (ap₂ o.mul (row_lent ρ b lb sb) (ap (row ρ) part₁))) (ap₂ o.mul (row_lent ρ d ld sd) (ap (row ρ) part₂)))))
          ∙ rl;
    }

    -- as the slice stands after the loan
    pub coordinate_made : (k : ℕ) → k ≡ n → Coordinate p c n a b d u e at s (take at s ++ (q ++ drop k (drop at s)))
    coordinate_made k f = subst (λ i. Coordinate p c n a b d u e at s (take at s ++ (q ++ drop i (drop at s)))) (sym f) made
