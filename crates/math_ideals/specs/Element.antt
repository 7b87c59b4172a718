-- Elements and sizes (document 01, "Elements and sizes").
--   O           the order: the triples A, B, C of polynomials, for A + B r + C w
--   sc a        the polynomial a as an element; el_r, el_w the elements r and w
--   times_r v   r v, and times_w v is w v, written out
--   ev x        the element as a series
--   X Y Z       its sizes
--   norm cof    its norm and its cofactor
-- The value and the sizes are those of crate math_triple (specs/Sizes), which are written over any operations.
-- Theorems: X, Y, Z are linear (proofs/Sizes); ev, norm and cof are multiplicative and x · cof x = norm x (proofs/Values); br + cw is 0
-- only for b = c = 0, and how small its degree can be (proofs/Bound).
use Rattle.math_ring.specs.Ring.{CRing}
use Rattle.math_triple.specs.Tri.{Tri, norm_t, cof_t}
use Rattle.math_triple.specs.Sizes.{ev_t, XT, YT, ZT}
use Rattle.math_triple.specs.Order.{order}
use Rattle.math_valued.specs.Polynomial.{polys}
use Rattle.math_ideals.specs.Setting.{Setting, P}

module _ (S : Setting) where
  open S use {𝓥}
  open S.roots use {G, H, r, w}

  -- "The order O is those with polynomial A, B, C"; products by rw = GH, r² = Hw, w² = Gr
  abbrev pub O : CRing
  O = order (polys 𝓥) G H

  abbrev pub sc : P S → O.El
  sc a = record { a = a; b = (polys 𝓥).ops.𝟎; c = (polys 𝓥).ops.𝟎 }

  abbrev pub el_r : O.El
  el_r = record { a = (polys 𝓥).ops.𝟎; b = (polys 𝓥).ops.𝟏; c = (polys 𝓥).ops.𝟎 }

  abbrev pub el_w : O.El
  el_w = record { a = (polys 𝓥).ops.𝟎; b = (polys 𝓥).ops.𝟎; c = (polys 𝓥).ops.𝟏 }

  -- r (a + br + cw) = cGH + ar + bHw and w (a + br + cw) = bGH + cGr + aw
  abbrev pub times_r : O.El → O.El
  times_r v = let o = (polys 𝓥).ops in record { a = o.mul v.c (o.mul G H); b = v.a; c = o.mul v.b H }

  abbrev pub times_w : O.El → O.El
  times_w v = let o = (polys 𝓥).ops in record { a = o.mul v.b (o.mul G H); b = o.mul v.c G; c = v.a }

  -- the three coordinates as series
  abbrev pub val : O.El → Tri 𝓥.L.El
  val x = record { a = x.a.0; b = x.b.0; c = x.c.0 }

  abbrev pub ev : O.El → 𝓥.L.El
  ev x = ev_t 𝓥.L.ops r w (val x)

  abbrev pub X : O.El → 𝓥.L.El
  X x = XT 𝓥.L.ops r w (val x)

  abbrev pub Y : O.El → 𝓥.L.El
  Y x = YT 𝓥.L.ops r w (val x)

  abbrev pub Z : O.El → 𝓥.L.El
  Z x = ZT 𝓥.L.ops r w (val x)

  -- "Norm: A³ + B³GH² + C³G²H − 3ABCGH"
  abbrev pub norm : O.El → P S
  norm x = norm_t (polys 𝓥).ops G H x

  -- "The cofactor, which times the element gives the norm, is (A² − BCGH) + (C²G − AB)r + (B²H − AC)w"
  abbrev pub cof : O.El → O.El
  cof x = cof_t (polys 𝓥).ops G H x
