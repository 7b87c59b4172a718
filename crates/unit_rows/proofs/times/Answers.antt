-- `unit_rows::times` meets its contract: proofs/Multiply.antt.
use Prim.Native.Nat.{◌≤◌, ◌+◌}
use mathlib.Core.Path.{◌≡◌}
use native.Mathlib.Omega.{arith}
use lib.ListN.{length}
use Rattle.base_lists.specs.Pieces.{between}
use Rattle.unit_rows.proofs.Multiply.{piece_length, times_asks, times_made}
use Rattle.unit_rows.proofs.times.Goals as goal

pub by-m1gh-requires : goal.by-m1gh-requires
by-m1gh-requires c = record {
  modulus = c.requires.modulus;
  room = let l : length (between 17 34 c.args.b.now) ≡ 17 = piece_length c.args.p c.args.c c.args.n c.args.g.now c.args.h.now
      c.args.gh.now c.args.b.now c.args.e.now c.args.s.now c.requires 17 34 (omega arith) (omega arith) in let k : length c.args.gh.now ≤ 33 =
      c.requires.gh_most in omega arith;
}

pub by-m2gh-requires : goal.by-m2gh-requires
by-m2gh-requires c = record {
  modulus = c.requires.modulus;
  room = let l : length (between 34 51 c.args.b.now) ≡ 17 = piece_length c.args.p c.args.c c.args.n c.args.g.now c.args.h.now
      c.args.gh.now c.args.b.now c.args.e.now c.args.s.now c.requires 34 51 (omega arith) (omega arith) in let k : length c.args.gh.now ≤ 33 =
      c.requires.gh_most in omega arith;
}

pub by-m2g-requires : goal.by-m2g-requires
by-m2g-requires c = record {
  modulus = c.requires.modulus;
  room = let l : length (between 34 51 c.args.b.now) ≡ 17 = piece_length c.args.p c.args.c c.args.n c.args.g.now c.args.h.now
      c.args.gh.now c.args.b.now c.args.e.now c.args.s.now c.requires 34 51 (omega arith) (omega arith) in let k : length c.args.g.now ≤ 33 = c.requires.g_most in omega arith;
}

pub by-m1h-requires : goal.by-m1h-requires
by-m1h-requires c = record {
  modulus = c.requires.modulus;
  room = let l : length (between 17 34 c.args.b.now) ≡ 17 = piece_length c.args.p c.args.c c.args.n c.args.g.now c.args.h.now
      c.args.gh.now c.args.b.now c.args.e.now c.args.s.now c.requires 17 34 (omega arith) (omega arith) in let k : length c.args.h.now ≤ 33 = c.requires.h_most in omega arith;
}

pub coordinate-requires : goal.coordinate-requires
coordinate-requires c = let l₀ : length (between 0 17 c.args.b.now) ≡ 17 = piece_length c.args.p c.args.c c.args.n c.args.g.now c.args.h.now c.args.gh.now
    c.args.b.now c.args.e.now c.args.s.now c.requires 0 17 (omega arith) (omega arith) in
    let l₁ : length (between 17 34 c.args.b.now) ≡ 17 = piece_length c.args.p c.args.c c.args.n c.args.g.now c.args.h.now
    c.args.gh.now c.args.b.now c.args.e.now c.args.s.now c.requires 17 34 (omega arith) (omega arith) in
    let l₂ : length (between 34 51 c.args.b.now) ≡ 17 = piece_length c.args.p c.args.c c.args.n c.args.g.now c.args.h.now
    c.args.gh.now c.args.b.now c.args.e.now c.args.s.now c.requires 34 51 (omega arith) (omega arith) in
    times_asks c.args.p c.args.c c.args.n c.args.g.now c.args.h.now c.args.gh.now c.args.b.now c.args.e.now c.args.s.now
    c.requires _ _ _ 0 _ (omega arith) (omega (arith, c.by-m2gh.ensures.size)) (omega (arith, c.by-m1gh.ensures.size))
    (let r : c.args.c + c.args.c + c.args.c ≤ length c.args.s.now = c.requires.s_room in let v : c.args.n ≤ c.args.c = c.requires.upto in omega arith)

pub coordinate-requires-2 : goal.coordinate-requires-2
coordinate-requires-2 c = let l₀ : length (between 0 17 c.args.b.now) ≡ 17 = piece_length c.args.p c.args.c c.args.n c.args.g.now c.args.h.now c.args.gh.now
    c.args.b.now c.args.e.now c.args.s.now c.requires 0 17 (omega arith) (omega arith) in
    let l₁ : length (between 17 34 c.args.b.now) ≡ 17 = piece_length c.args.p c.args.c c.args.n c.args.g.now c.args.h.now
    c.args.gh.now c.args.b.now c.args.e.now c.args.s.now c.requires 17 34 (omega arith) (omega arith) in
    let l₂ : length (between 34 51 c.args.b.now) ≡ 17 = piece_length c.args.p c.args.c c.args.n c.args.g.now c.args.h.now
    c.args.gh.now c.args.b.now c.args.e.now c.args.s.now c.requires 34 51 (omega arith) (omega arith) in
    times_asks c.args.p c.args.c c.args.n c.args.g.now c.args.h.now c.args.gh.now c.args.b.now c.args.e.now c.args.s.now
    c.requires _ _ _ c.args.c _ (omega arith) (omega arith) (omega (arith, c.by-m2g.ensures.size))
    (let r : c.args.c + c.args.c + c.args.c ≤ length c.args.s.now = c.requires.s_room in let v : c.args.n ≤ c.args.c = c.requires.upto in omega (arith, c.coordinate.ensures.size))

pub overflow_add-c : goal.overflow_add-c
overflow_add-c c = let m : c.args.c ≤ 4096 = c.requires.most in
    omega arith

pub coordinate-requires-3 : goal.coordinate-requires-3
coordinate-requires-3 c = let l₀ : length (between 0 17 c.args.b.now) ≡ 17 = piece_length c.args.p c.args.c c.args.n c.args.g.now c.args.h.now c.args.gh.now
    c.args.b.now c.args.e.now c.args.s.now c.requires 0 17 (omega arith) (omega arith) in
    let l₁ : length (between 17 34 c.args.b.now) ≡ 17 = piece_length c.args.p c.args.c c.args.n c.args.g.now c.args.h.now
    c.args.gh.now c.args.b.now c.args.e.now c.args.s.now c.requires 17 34 (omega arith) (omega arith) in
    let l₂ : length (between 34 51 c.args.b.now) ≡ 17 = piece_length c.args.p c.args.c c.args.n c.args.g.now c.args.h.now
    c.args.gh.now c.args.b.now c.args.e.now c.args.s.now c.requires 34 51 (omega arith) (omega arith) in
    times_asks c.args.p c.args.c c.args.n c.args.g.now c.args.h.now c.args.gh.now c.args.b.now c.args.e.now c.args.s.now
    c.requires _ _ _ (c.args.c + c.args.c) _ (omega arith) (omega (arith, c.by-m1h.ensures.size)) (omega (arith, c.by-m2g.ensures.size))
    (let r : c.args.c + c.args.c + c.args.c ≤ length c.args.s.now = c.requires.s_room in let v : c.args.n ≤ c.args.c = c.requires.upto in omega
    (arith, c.coordinate.ensures.size, c.coordinate-2.ensures.size))

pub returns : goal.returns
returns c = times_made c.args.p c.args.c c.args.n c.args.g.now c.args.h.now c.args.gh.now c.args.b.now c.args.e.now c.args.s.now c.requires _ _ _ _ _ _ _
    c.by-m1gh.ensures c.by-m2gh.ensures c.by-m2g.ensures c.by-m1h.ensures
    c.coordinate.ensures c.coordinate-2.ensures c.coordinate-3.ensures
