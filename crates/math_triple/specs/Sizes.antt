-- The value and the sizes of an element a + br + cw (document 01, "Elements and sizes"), over any operations, so that they are read in the
-- series and in the solver's expressions.
--   size_x size_y size_z value   by the coordinates
--   XT YT ZT ev_t              of a triple
use Rattle.math_ring.specs.Ring.{Ops}
use Rattle.math_triple.specs.Tri.{Tri}

module _ {A : Type 0} (o : Ops A) (r w : A) where
  open o use {add as ◌+◌, mul as ◌*◌, neg as -◌, 𝟏}

  infixl 60 ◌+◌
  infixl 70 ◌*◌
  infix 80 -◌
  -- "Elements are A + Br + Cw"
  abbrev pub value : A → A → A → A
  value a b c = a + b * r + c * w

  -- "For x = a + br + cw put X(x) = br + cw, Y(x) = br − cw, Z(x) = 2a − br − cw"
  abbrev pub size_x : A → A → A
  size_x b c = b * r + c * w

  abbrev pub size_y : A → A → A
  size_y b c = b * r + - (c * w)

  abbrev pub size_z : A → A → A → A
  size_z a b c = (𝟏 + 𝟏) * a + - (b * r) + - (c * w)

  abbrev pub ev_t : Tri A → A
  ev_t x = value x.a x.b x.c

  abbrev pub XT : Tri A → A
  XT x = size_x x.b x.c

  abbrev pub YT : Tri A → A
  YT x = size_y x.b x.c

  abbrev pub ZT : Tri A → A
  ZT x = size_z x.a x.b x.c
