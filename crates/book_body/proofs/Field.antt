-- A value that obeys the rules and whose field is accepted fits a body's bytes.
use Prim.Native.Nat.{◌<◌, ◌≤◌}
use native.Mathlib.Omega.{arith}
use lib.ListN.{length}
use Rattle.field_open.specs.Refusal.{Accepted}
use Rattle.field_open.proofs.Accept.{accepted}
use Rattle.book_bytes.specs.Bytes.{Small}
use Rattle.book_body.specs.Body.{Body, Rule, FieldSays}

pub record Fits (b : Body) : Type 0 where
  pub p : b.p < 65536
  pub period : b.period < 4294967296
  pub n_g : length b.G < 65536
  pub n_h : length b.H < 65536
  pub n0 : length b.E0 < 65536
  pub n1 : length b.E1 < 65536
  pub n2 : length b.E2 < 65536
  pub G : Small b.G
  pub H : Small b.H
  pub E0 : Small b.E0
  pub E1 : Small b.E1
  pub E2 : Small b.E2

pub fits : (b : Body) → Rule b → FieldSays b 0 → Fits b
fits b r o =
    let s : Accepted b.p b.G b.H = accepted b.p b.G b.H o in
    let hp : b.p ≤ 65535 = s.high in
    let t : b.period ≤ 1000000 = r.to in
    let g : length b.G ≤ 13 = s.list_g.short in
    let h : length b.H ≤ 13 = s.list_h.short in
    let a0 : length b.E0 ≤ 4096 = r.row0.short in
    let a1 : length b.E1 ≤ 4096 = r.row1.short in
    let a2 : length b.E2 ≤ 4096 = r.row2.short in
    record {
      p = omega arith;
      period = omega arith;
      n_g = omega arith;
      n_h = omega arith;
      n0 = omega arith;
      n1 = omega arith;
      n2 = omega arith;
      G = λ i u. omega (arith, s.list_g.each i u);
      H = λ i u. omega (arith, s.list_h.each i u);
      E0 = λ i u. omega (arith, r.row0.each i u);
      E1 = λ i u. omega (arith, r.row1.each i u);
      E2 = λ i u. omega (arith, r.row2.each i u);
    }
