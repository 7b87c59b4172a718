-- `step_part::parted` meets its contract.
use mathlib.Core.Path.{refl}
use native.Mathlib.Omega.{arith}
use Rattle.step_part.proofs.Loaded.{lead_low, divided_in, n_small, g_size, h_size, gh_size, dr_low, dw_low, degrees_small, shorter}
use Rattle.step_part.proofs.parted.Goals as goal

pub offset_bounds-gh-top : goal.offset_bounds-gh-top
offset_bounds-gh-top c = let s = c.requires.on in omega (arith, n_small s.inp s.n_is c.unpacked-rows.ensures)

pub bounds-gh-top : goal.bounds-gh-top
bounds-gh-top c = let s = c.requires.on in omega (arith, n_small s.inp s.n_is c.unpacked-rows.ensures)

pub overflow_add-top : goal.overflow_add-top
overflow_add-top c = let s = c.requires.on in omega (arith, n_small s.inp s.n_is c.unpacked-rows.ensures)

pub overflow_add-lk : goal.overflow_add-lk
overflow_add-lk c = let s = c.requires.on in omega (arith, n_small s.inp s.n_is c.unpacked-rows.ensures)

pub overflow_mul-lg : goal.overflow_mul-lg
overflow_mul-lg c = let s = c.requires.on in omega (arith, degrees_small s.inp s.n_is c.unpacked-rows.ensures)

pub overflow_add-lg : goal.overflow_add-lg
overflow_add-lg c = let s = c.requires.on in omega (arith, degrees_small s.inp s.n_is c.unpacked-rows.ensures)

pub overflow_mul-lh : goal.overflow_mul-lh
overflow_mul-lh c = let s = c.requires.on in omega (arith, degrees_small s.inp s.n_is c.unpacked-rows.ensures)

pub overflow_add-lh : goal.overflow_add-lh
overflow_add-lh c = let s = c.requires.on in omega (arith, degrees_small s.inp s.n_is c.unpacked-rows.ensures)

pub overflow_sub-lg : goal.overflow_sub-lg
overflow_sub-lg c = let s = c.requires.on in omega (arith, dr_low s.inp s.n_is c.unpacked-rows.ensures)

pub overflow_sub-lh : goal.overflow_sub-lh
overflow_sub-lh c = let s = c.requires.on in omega (arith, dw_low s.inp s.n_is c.unpacked-rows.ensures)

pub overflow_sub-q : goal.overflow_sub-q
overflow_sub-q c = let s = c.requires.on in lead_low s.inp s.n_is c.unpacked-rows.ensures

pub next_generators-k-requires : goal.next_generators-k-requires
next_generators-k-requires c = let s = c.requires.on in
    let l = c.unpacked-rows.ensures in
    record {
      inp = divided_in s.inp s.n_is l;
      modulus = s.modulus.prepared;
      sg = g_size s.inp s.n_is l;
      sh = h_size s.inp s.n_is l;
      sgh = gh_size s.inp s.n_is l;
      blank_x = s.blank_x;
      blank_y = s.blank_y;
      blank_d = s.blank_d;
    }

pub overflow_sub-result : goal.overflow_sub-result
overflow_sub-result c = let s = c.requires.on in shorter s.inp s.n_is c.unpacked-rows.ensures _ _ c.next_generators-k.ensures.was_m0 c.next_generators-k.ensures.was_u

pub returns : goal.returns
returns c = record { b = _; loaded = c.unpacked-rows.ensures; lm = _; lu = _; divided = c.next_generators-k.ensures; degree = refl }
