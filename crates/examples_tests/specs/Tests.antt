-- The tests. Each computes on written lists; what a passed test proves is in proofs/.
--   every, up_to              all of a list of tests; a test at all numbers below n
--   last, below, some        the place of a list's last number that is not 0; numbers below p; a number that p does not divide
--   listed, apart, accepts   a list of coefficients; u a + v b = 1; an accepted field (proofs/Fields: `accepted_of`)
--   begins                   first coefficients of the two series (Fields: `series_of`)
--   det_l, lin_l, lies         e, α U + β M + γ N, and whether an element lies in the lattice (proofs/Bases: `lies_in`)
--   pure, root_r, root_w, by   a polynomial as an element, r, w, and products of elements
--   x_part, y_part, shaped     the polynomial parts of X and Y, and the sizes of a scaled reduced basis
--   good                     the scaled reduced basis of a reduced ideal (Bases: `good_rows`)
--   over, back_by, goes       quotients, and whether one basis is the next of another (proofs/Steps: `next_rows`)
--   kept                     a record holds these rows (Steps: `record_of`)
-- β, γ and α are found by long division (crate examples_lists) and then tested.
use Rattle.std.specs.Prelude.{Bool, true, ◌&&◌, ◌||◌, not, List, [], ◌∷◌, ℕ, zero, suc, ◌+◌, ◌*◌, ◌-◌, ◌%◌, eqb, ltb, leb, length, get_or}
use Rattle.base_lists.specs.Sums.{entry, prod}
use Rattle.math_triple.specs.Tri.{Tri, cof_t, norm_t}
use Rattle.math_triple.specs.Order.{triops}
use Rattle.math_fp.specs.Trial.{primeb}
use Rattle.num_prime.specs.Table.{largest}
use Rattle.field_open.specs.Refusal.{longest, highest}
use Rattle.field_roots.specs.SeriesOf.{top}
use Rattle.field_roots.specs.Prefix.{enough, plus_part, minus_part}
use Rattle.field_roots.specs.Pair.{deg_r, deg_w}
use Rattle.basis_record.specs.Record.{part}
use Rattle.base_lists.specs.Coefficients.{trim}
use Rattle.examples_lists.specs.Lists.{plus, scale, minus, slope, lists, alike, alike_t, ends}
use Rattle.examples_lists.specs.Quotients.{quotient, bezout}
use Rattle.examples_tests.specs.Rows.{Rows}

abbrev pub every : List Bool → Bool
every [] = true
every (b ∷ l) = b && every l

abbrev pub up_to : ℕ → (ℕ → Bool) → Bool
up_to zero f = true
up_to (suc n) f = f n && up_to n f

-- the place of the last entry that is not 0
abbrev pub last : List ℕ → ℕ
last l = length (trim l) - 1

module _ (p : ℕ) where
  abbrev pub below : List ℕ → Bool
  below [] = true
  below (a ∷ x) = ltb a p && below x

  abbrev pub some : ℕ → Bool
  some a = not (eqb (a % p) 0)

  -- ---- the field
  abbrev pub listed : List ℕ → List Bool
  listed l = leb 1 (length l) ∷ leb (length l) longest ∷ below l ∷ not (eqb (get_or l (length l - 1) 0) 0) ∷ []

  abbrev pub one_by : List ℕ × List ℕ → List ℕ → List ℕ → Bool
  one_by (u, v) a b = alike p (plus p ((lists p).mul u a) ((lists p).mul v b)) (1 ∷ [])

  abbrev pub apart : List ℕ → List ℕ → Bool
  apart a b = one_by (bezout p a b) a b

  abbrev pub accepts : List ℕ → List ℕ → List Bool
  accepts G H =
      primeb p ∷ leb 5 p ∷ leb p largest ∷ eqb (p % 3) 2 ∷ every (listed G) ∷ every (listed H)
      ∷ ltb 0 (length G - 1 + (length H - 1)) ∷ leb (length G - 1 + (length H - 1)) highest ∷ eqb ((length G - 1) % 3) ((length H - 1) % 3)
      ∷ apart G (slope p G) ∷ apart H (slope p H) ∷ apart G H ∷ []

  -- ---- the series
  abbrev pub begins : List ℕ → List ℕ → List ℕ → List ℕ → List Bool
  begins G H r w =
      eqb (length w) (length r) ∷ below r ∷ below w
      ∷ eqb ((entry r 0 * entry r 0 * entry r 0) % p) ((top G 0 * (top H 0 * top H 0)) % p)
      ∷ up_to (length r) (λ i. eqb (prod (entry r) (entry r) i % p) (prod (top H) (entry w) i % p))
      ∷ up_to (length r) (λ i. eqb (prod (entry r) (entry w) i % p) (prod (top G) (top H) i % p)) ∷ []

  -- ---- the lattice of a basis
  open lists p use {add as ◌+ˡ◌, mul as ◌*ˡ◌, neg as -ˡ◌}

  infixl 60 ◌+ˡ◌
  infixl 70 ◌*ˡ◌
  infix 80 -ˡ◌
  abbrev pub det_l : Rows → List ℕ
  det_l b = b.M.b *ˡ b.N.c +ˡ -ˡ (b.M.c *ˡ b.N.b)

  abbrev pub lin_l : Rows → List ℕ → List ℕ → List ℕ → Tri (List ℕ)
  lin_l b α β γ = record {
    a = α *ˡ b.U +ˡ β *ˡ b.M.a +ˡ γ *ˡ b.N.a;
    b = β *ˡ b.M.b +ˡ γ *ˡ b.N.b;
    c = β *ˡ b.M.c +ˡ γ *ˡ b.N.c;
  }

  -- the coordinates of v, as quotients by e and U
  abbrev pub βOf : Rows → Tri (List ℕ) → List ℕ
  βOf b v = quotient p (v.b *ˡ b.N.c +ˡ -ˡ (v.c *ˡ b.N.b)) (det_l b)

  abbrev pub γOf : Rows → Tri (List ℕ) → List ℕ
  γOf b v = quotient p (v.c *ˡ b.M.b +ˡ -ˡ (v.b *ˡ b.M.c)) (det_l b)

  abbrev pub αOf : Rows → Tri (List ℕ) → List ℕ → List ℕ → List ℕ
  αOf b v β γ = quotient p (v.a +ˡ -ˡ (β *ˡ b.M.a +ˡ γ *ˡ b.N.a)) b.U

  abbrev pub lies_by : Rows → Tri (List ℕ) → List ℕ → List ℕ → Bool
  lies_by b v β γ = alike_t p v (lin_l b (αOf b v β γ) β γ)

  abbrev pub lies : Rows → Tri (List ℕ) → Bool
  lies b v = lies_by b v (βOf b v) (γOf b v)

  -- ---- elements
  abbrev pub pure : List ℕ → Tri (List ℕ)
  pure a = record { a = a; b = []; c = [] }

  abbrev pub root_r : Tri (List ℕ)
  root_r = record { a = []; b = 1 ∷ []; c = [] }

  abbrev pub root_w : Tri (List ℕ)
  root_w = record { a = []; b = []; c = 1 ∷ [] }

  abbrev pub by : List ℕ → List ℕ → Tri (List ℕ) → Tri (List ℕ) → Tri (List ℕ)
  by G H = (triops (lists p) G H).mul

  -- ---- a good basis: the rows U, X(M), Y(M), X(N), Y(N), Z(M), Z(N), each but the first a polynomial part
  abbrev pub large : ℕ → ℕ → List ℕ → ℕ → Bool
  large u y nx i = ltb u y || (ltb u i && (ends nx (suc i) && some (get_or nx i 0)))

  abbrev pub shaped_at : ℕ → ℕ → ℕ → List ℕ → List ℕ → List ℕ → List ℕ → List ℕ → List ℕ → List ℕ → List Bool
  shaped_at u x y U mx my nx ny zm zn =
      ends U (suc u) ∷ eqb (get_or U u 0) 1 ∷ ends mx (suc x) ∷ eqb (get_or mx x 0) 2 ∷ ends ny (suc y) ∷ eqb (get_or ny y 0) 1
      ∷ ltb u x ∷ leb u y ∷ ends nx x ∷ ends my u ∷ ends zm u ∷ ends zn u ∷ large u y nx (last nx) ∷ []

  abbrev pub double : List ℕ → List ℕ → List ℕ
  double a x = plus p (scale p 2 a) (minus p x)

  abbrev pub shaped : Rows → List ℕ → List ℕ → List ℕ → List ℕ → Bool
  shaped b mx my nx ny = every (shaped_at (last b.U) (last mx) (last ny) b.U mx my nx ny (double b.M.a mx) (double b.N.a nx))

  abbrev pub has_top : List ℕ → Bool
  has_top l = ends l (suc (last l)) && some (get_or l (last l) 0)

  module _ (G H r w : List ℕ) where
    -- the polynomial parts of X and Y of an element
    abbrev pub x_part : Tri (List ℕ) → List ℕ
    x_part v = plus_part p v.b v.c r w (deg_r (length G - 1) (length H - 1)) (deg_w (length G - 1) (length H - 1))

    abbrev pub y_part : Tri (List ℕ) → List ℕ
    y_part v = minus_part p v.b v.c r w (deg_r (length G - 1) (length H - 1)) (deg_w (length G - 1) (length H - 1))

    abbrev pub short : Tri (List ℕ) → Bool
    short v = ends v.b 17 && ends v.c 17

    abbrev pub sizes : Rows → Bool
    sizes b = shaped b (x_part b.M) (y_part b.M) (x_part b.N) (y_part b.N)

    abbrev pub good : Rows → List Bool
    good b =
        every (begins G H r w) ∷ leb enough (length r) ∷ short b.M ∷ short b.N
        ∷ sizes b ∷ has_top (det_l b) ∷ apart b.U b.M.c
        ∷ lies b (by G H root_r (pure b.U)) ∷ lies b (by G H root_r b.M) ∷ lies b (by G H root_r b.N)
        ∷ lies b (by G H root_w (pure b.U)) ∷ lies b (by G H root_w b.M) ∷ lies b (by G H root_w b.N) ∷ []

  module _ (G H : List ℕ) where
    -- ---- the step: M M' = U' u and M N' = U' v in the old lattice; M x = U' U and M y = U' N in the new one
    abbrev pub over : Tri (List ℕ) → List ℕ → Tri (List ℕ)
    over v d = record { a = quotient p v.a d; b = quotient p v.b d; c = quotient p v.c d }

    -- x with M x = U' v, by the cofactor of M
    abbrev pub back_by : Tri (List ℕ) → List ℕ → Tri (List ℕ) → Tri (List ℕ)
    back_by M U v = over (by G H (by G H (pure U) v) (cof_t (lists p) G H M)) (norm_t (lists p) G H M)

    -- M v = U w, with v in the one lattice and w in the other
    abbrev pub meets : Tri (List ℕ) → List ℕ → Tri (List ℕ) → Tri (List ℕ) → Bool
    meets M U v w = alike_t p (by G H M v) (by G H (pure U) w)

    abbrev pub into : Rows → Rows → Tri (List ℕ) → Tri (List ℕ) → Bool
    into b b' v u = lies b u && meets b.M b'.U v u

    abbrev pub onto : Rows → Rows → Tri (List ℕ) → Tri (List ℕ) → Bool
    onto b b' u v = lies b' v && meets b.M b'.U v u

    abbrev pub goes : Rows → Rows → List Bool
    goes b b' =
        into b b' b'.M (over (by G H b.M b'.M) b'.U) ∷ into b b' b'.N (over (by G H b.M b'.N) b'.U)
        ∷ onto b b' (pure b.U) (back_by b.M b'.U (pure b.U)) ∷ onto b b' b.N (back_by b.M b'.U b.N) ∷ []

  -- ---- the record
  abbrev pub kept : List ℕ → Rows → List Bool
  kept B b =
      eqb (length B) 119 ∷ below B
      ∷ alike p (part 0 B) b.M.a ∷ alike p (part 1 B) b.M.b ∷ alike p (part 2 B) b.M.c
      ∷ alike p (part 3 B) b.N.a ∷ alike p (part 4 B) b.N.b ∷ alike p (part 5 B) b.N.c ∷ alike p (part 6 B) b.U ∷ []
