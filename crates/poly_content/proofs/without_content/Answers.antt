-- `poly_content::without_content` meets its contract: where the common factor is a constant nothing is divided.
use mathlib.Core.Path.{refl}
use Prim.Native.Nat.{◌<◌}
use native.Mathlib.Omega.{arith}
use Rattle.poly_content.proofs.Contents.{content_pos, content_lead, by_content, cut_none, cut_some}
use Rattle.poly_content.proofs.without_content.Goals as goal

pub content-k-requires : goal.content-k-requires
content-k-requires c = let s = c.requires in record { rows = s.inp.rows; modulus = s.modulus }

pub det_in-l-requires : goal.det_in-l-requires
det_in-l-requires c = let s = c.requires in
    let r = c.requires.inp.rows in
    record {
      modulus = s.modulus;
      prime = r.prime;
      hx = r.h2;
      hy = r.k0;
      hz = r.h0;
      hv = r.k2;
      sx = s.sx2;
      sy = s.sy0;
      sz = s.sx0;
      sv = s.sy2;
      left = s.inp.left _ _
          s.sx2 s.sy0;
      right = s.inp.right _ _ s.sx0 s.sy2;
      blank = s.blank;
    }

pub size-m-requires : goal.size-m-requires
size-m-requires c = c.content-k.ensures.is_row.size

pub overflow_sub-c : goal.overflow_sub-c
overflow_sub-c c = let l : 0 < c.size-m.result = content_pos c.requires.inp c.content-k.ensures c.det_in-l.ensures _ c.size-m.ensures in
    omega arith

pub inverse-il-requires : goal.inverse-il-requires
inverse-il-requires c = content_lead c.requires.inp c.content-k.ensures c.det_in-l.ensures c.size-m.ensures

pub shorten-requires : goal.shorten-requires
shorten-requires c = let s = c.requires in
    record {
      inp = by_content c.requires.inp c.content-k.ensures c.det_in-l.ensures c.size-m.ensures c.inverse-il.ensures _
          s.inp.rows.h0;
      modulus = s.modulus;
      sx = s.sx0;
      sk = c.size-m.ensures;
    }

pub shorten-requires-else-m-eq1 : goal.shorten-requires-else-m-eq1
shorten-requires-else-m-eq1 c = let s = c.requires in
    record {
      inp = by_content c.requires.inp c.content-k.ensures c.det_in-l.ensures c.size-m.ensures c.inverse-il.ensures _ s.inp.rows.h2;
      modulus = s.modulus;
      sx = s.sx2;
      sk = c.size-m.ensures;
    }

pub shorten-requires-else-m-eq1-2 : goal.shorten-requires-else-m-eq1-2
shorten-requires-else-m-eq1-2 c = let s = c.requires in
    record {
      inp = by_content c.requires.inp c.content-k.ensures c.det_in-l.ensures c.size-m.ensures c.inverse-il.ensures _ s.inp.rows.k0;
      modulus = s.modulus;
      sx = s.sy0;
      sk = c.size-m.ensures;
    }

pub shorten-requires-else-m-eq1-3 : goal.shorten-requires-else-m-eq1-3
shorten-requires-else-m-eq1-3 c = let s = c.requires in
    record {
      inp = by_content c.requires.inp c.content-k.ensures c.det_in-l.ensures c.size-m.ensures c.inverse-il.ensures _ s.inp.rows.k2;
      modulus = s.modulus;
      sx = s.sy2;
      sk = c.size-m.ensures;
    }

pub shorten-n-requires : goal.shorten-n-requires
shorten-n-requires c = let s = c.requires in
    record {
      inp = by_content c.requires.inp c.content-k.ensures c.det_in-l.ensures c.size-m.ensures c.inverse-il.ensures _
          c.det_in-l.ensures.is_row;
      modulus = s.modulus;
      sx = c.det_in-l.ensures.size;
      sk = c.size-m.ensures;
    }

pub overflow_sub-result : goal.overflow_sub-result
overflow_sub-result c = let l : 0 < c.size-m.result = content_pos c.requires.inp c.content-k.ensures c.det_in-l.ensures _ c.size-m.ensures in
    omega arith

pub returns-then-m-eq1 : goal.returns-then-m-eq1
returns-then-m-eq1 c = record {
  off = cut_none c.requires.inp c.content-k.ensures c.det_in-l.ensures _ _ c.size-m.ensures c.if-m-eq1.true refl refl refl refl refl
      refl;
  size = c.det_in-l.ensures.size;
}

pub returns-else-m-eq1 : goal.returns-else-m-eq1
returns-else-m-eq1 c = record {
  off = cut_some c.requires.inp c.content-k.ensures c.det_in-l.ensures _ c.size-m.ensures c.shorten.ensures.exact
      c.shorten-else-m-eq1.ensures.exact c.shorten-else-m-eq1-2.ensures.exact c.shorten-else-m-eq1-3.ensures.exact c.shorten-n.ensures.exact refl;
  size = c.shorten-n.ensures.size;
}
