-- What a refusal leaves, by the contract's cases.
--   unit_kept transfer_kept rescale_kept   the rows, and the scratch
--   sheet_kept   the records
--   add_kept parse_kept         the lent slices; of a list and of a body written: list_kept (book_body), write-kept (book_write)
--   answer_kept                 of a slice into which an answer goes: what stands before it, and its length
--   pass_kept                   everything, where the slice is too short for an answer
use Rattle.std.specs.Prelude.{Option, Some, None}
use mathlib.Core.Path.{◌≡◌, refl, ap, ◌∙◌}
use mathlib.Core.Logic.{◌≢◌}
use mathlib.Core.List.{List}
use Prim.Native.Nat.{ℕ, ◌<◌}
use native.Mathlib.Omega.{arith}
use lib.ListN.{length, take}
use Rattle.base_lists.proofs.Puts.{take_put, placed_same}
use Rattle.base_answers.specs.Said.{Said}
use Rattle.base_answers.proofs.Said.{number_of}
use Rattle.field_open.proofs.Door.{door_out}
use Rattle.door_unit.specs.Unit.{UnitAnswer}
use Rattle.door_unit.specs.Unit as unit
use Rattle.door_compare.proofs.Doors.{doors_out}
use Rattle.door_transfer.specs.Transfer as transfer
use Rattle.door_rescale.specs.Rescale as rescale
use Rattle.walk_record.specs.declared.WalkRecord.{WalkRecord}
use Rattle.door_sheet.specs.Sheet as sheet
use Rattle.book_add.specs.Add as add
use Rattle.text_read.specs.Tells.{ParseTells}
use Rattle.text_read.specs.declared.Line.{Line}
use Rattle.lister.specs.Listing as lister
use Rattle.lister.specs.declared.Going.{Going}
use Rattle.demands_calls.specs.Numbers.{parse_says}

pub unit_kept : {i p n : ℕ} {G H rows scratch rows' scratch' : List ℕ} (m : UnitAnswer) → unit.Makes i p G H n rows scratch m rows' scratch'
    → m.refusal ≢ 0 → (rows' ≡ rows) × (scratch' ≡ scratch)
unit_kept {i} {p} {n} {G} {H} {rows} {scratch} {rows'} {scratch'} m h f = door_out (λ k g l r. (r.rows_same, r.scratch_same)) (λ A. goes) h
  where
    goes : unit.Goes i p G H n rows scratch m rows' scratch' → (rows' ≡ rows) × (scratch' ≡ scratch)
    goes (unit.bad g r) = (r.rows_same, r.scratch_same)
    goes (unit.spent v c b g r) = (r.rows_same, r.scratch_same)
    goes (unit.narrow v c l d b h g k r) = (r.rows_same, r.scratch_same)
    goes (unit.made v c l d b h g k r) = absurd (f r.number)

pub transfer_kept : {p n : ℕ} {G H G' H' rows rows' : List ℕ} → transfer.Transfers p G H G' H' rows n rows' → n ≢ 0 → rows' ≡ rows
transfer_kept {p} {n} {G} {H} {G'} {H'} {rows} {rows'} h g = doors_out (λ k f l e. e.kept) (λ t. goes) h
  where
    goes : transfer.Goes p G H G' H' rows n rows' → rows' ≡ rows
    goes (transfer.unfit u e) = e.kept
    goes (transfer.carried c l k m w) = absurd (g k)

pub rescale_kept : {p i j n : ℕ} {G H rows rows' : List ℕ} → rescale.Rescales p G H i j rows n rows' → n ≢ 0 → rows' ≡ rows
rescale_kept {p} {i} {j} {n} {G} {H} {rows} {rows'} h g = door_out (λ k f l e. e.kept) (λ A. goes) h
  where
    goes : rescale.Goes p G H i j rows n rows' → rows' ≡ rows
    goes (rescale.unfit u e) = e.kept
    goes (rescale.turned k k' c a b s z t) = absurd (g z)

pub sheet_kept : {rs os : List WalkRecord} {b n : ℕ} → sheet.Sheet rs b n os → n ≢ 0 → os ≡ rs
sheet_kept (sheet.refused v e f) g = f
sheet_kept (sheet.walked w e s) g = absurd (g e)

-- ---- the book
pub add_kept : {n : ℕ} {d b d' : List ℕ} {x : Said} → add.AddTells d n b x d' → x.number ≢ 0 → d' ≡ d
add_kept (add.length_out l e q) f = q
add_kept (add.book l a t q) f = q
add_kept (add.body l a t q) f = q
add_kept (add.known l a t j h o e q) f = q
add_kept (add.short l a t u o e q) f = q
add_kept (add.added l a t u h k e q) f = absurd (f (number_of e))

-- ---- lines
pub parse_kept : (line g h : List ℕ) (r : Option Line) (g' h' : List ℕ) → ParseTells line g h r g' h' → parse_says r ≢ 0 → (g' ≡ g) × (h' ≡ h)
parse_kept line g h (Some l) g' h' t f = absurd (f refl)
parse_kept line g h None g' h' t f = (t.1, t.2)

pub answer_kept : {line d : List ℕ} {at r : ℕ} {d' : List ℕ} → lister.Answer line d at r d' → (take at d' ≡ take at d) × (length d' ≡ length d)
answer_kept {line} {d} {at} h = (ap (take at) h.put.done ∙ take_put d at at h.text (omega arith), placed_same h.put)

-- no step begins where the room is too little
pub pass_kept : {k s d : List ℕ} {g r : Going} {k' d' : List ℕ} → lister.Passes k s d g r k' d' → length d < lister.room → (r ≡ g) × (k' ≡ k) × (d' ≡ d)
pass_kept {k} {s} {d} {g} h l = go h.way
  where
    go : {i : ℕ} {r : Going} {k' d' : List ℕ} → lister.Way k s d g i r k' d' → (r ≡ g) × (k' ≡ k) × (d' ≡ d)
    go lister.here = (refl, refl, refl)
    go (lister.more w a u x) = absurd (omega arith)
