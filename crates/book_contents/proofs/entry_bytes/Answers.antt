-- `book_contents::entry_bytes` meets its contract.
use Rattle.book_contents.proofs.Contents.{inside, few_of}
use native.Mathlib.Omega.{arith}
use Rattle.book_contents.proofs.entry_bytes.Goals as goal

pub overflow_mul-i : goal.overflow_mul-i
overflow_mul-i c = let h = few_of _ c.requires.marked c.requires.listed in omega arith

pub overflow_add-i : goal.overflow_add-i
overflow_add-i c = let h = few_of _ c.requires.marked c.requires.listed in omega arith

pub overflow_mul-i-2 : goal.overflow_mul-i-2
overflow_mul-i-2 c = let h = few_of _ c.requires.marked c.requires.listed in omega arith

pub overflow_add-i-2 : goal.overflow_add-i-2
overflow_add-i-2 c = let h = few_of _ c.requires.marked c.requires.listed in omega arith

pub slice_bounds-result-end : goal.slice_bounds-result-end
slice_bounds-result-end c = let h = inside c.args.s.now c.args.i c.requires.listed c.requires.there in omega arith
