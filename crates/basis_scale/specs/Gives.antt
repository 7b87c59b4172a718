-- The reduction of two elements over a denominator, from the elements to the scaled basis (crate basis_finish, specs/Based.antt).
--   ReducedBasisGives         Based, and Left, with m and n exchanged where `swap` is true
use Rattle.std.specs.Prelude.{Bool, List, ℕ}
use Rattle.basis_parts.specs.Frame.{Frame}
use Rattle.basis_clear.specs.Clear.{Pair, swap_if}
use Rattle.basis_finish.specs.Based.{Based, Left}

pub record ReducedBasisGives (F : Frame) (q : Pair) (d x1 y1 : List ℕ) (o' : Pair) (d' x1' y1' B : List ℕ) : Type 0 where
  pub based : Based F q d x1 y1 B
  pub swap : Bool
  pub left : Left F.m.p x1 y1 B (swap_if swap o') d' x1' y1'
