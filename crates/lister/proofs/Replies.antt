-- The answer to a line, from what `parse` answers.
--   told_front   what `unit` answers, printed behind the fronts that the two lists stand for, is the answer to the field
--   lent_G, lent_H   the lists of a line that reads are within the slices
--   told_read    the answer to a line that reads
--   told_not     the answer to a line that does not
use mathlib.Core.Path.{◌≡◌, ap, ◌∙◌, subst}
use mathlib.Core.List.{List, ◌++◌}
use Prim.Native.Nat.{ℕ, ◌+◌, ◌≤◌}
use native.Mathlib.Omega.{arith}
use lib.ListN.{length, take, drop, length-append}
use lib.Seq.{take_at}
use Rattle.base_lists.specs.Pieces.{Put}
use Rattle.base_lists.proofs.Paddings.{fronts}
use Rattle.text_put.specs.Print.{line_text, refused_text}
use Rattle.text_read.specs.Tells.{ReadAs, ParseTells}
use Rattle.std.specs.Prelude.{None}
use Rattle.text_read.proofs.Answers.{malformed_means}
use Rattle.field_open.specs.Padding.{unpad, Unpadded}
use Rattle.door_unit.specs.Unit.{UnitAnswer, Makes}
use Rattle.lister_print.specs.Text.{made_text}
use Rattle.lister.specs.Listing.{budget, blank, malformed, read, Told, Answer}

pub told_front : {p : ℕ} {g h : List ℕ} {n k : ℕ} {m : UnitAnswer} {rows scratch d : List ℕ} {at r : ℕ} {d' : List ℕ}
    → Put d at (made_text (line_text p (take n g) (take k h)) m rows) r d' → Unpadded g n → Unpadded h k → Makes 1 p (unpad g) (unpad h) budget blank blank m rows scratch
    → Told p g h d at r d'
told_front {p} {m = m} {rows} {scratch} {d} {at} {r} {d'} w a b x =
    record { m = m; rows = rows; scratch = scratch; makes = x; put = fronts (λ G H. Put d at (made_text (line_text p G H) m rows) r d') a b w }

front_length : (G d d' : List ℕ) (n : ℕ) → length G ≡ n → d' ≡ G ++ drop n d → n ≤ length d'
front_length G d d' n e f = let o : length d' ≡ length G + length (drop n d) = ap length f ∙ length-append G (drop n d) in omega arith

module _ {line g h : List ℕ} {p ng nh : ℕ} {g' h' : List ℕ} (q : ReadAs line g h p ng nh g' h') where
  pub lent_G : ng ≤ length g'
  lent_G = front_length q.G g g' ng q.count_G q.front_G

  pub lent_H : nh ≤ length h'
  lent_H = front_length q.H h h' nh q.count_H q.front_H

  pub told_read : {d : List ℕ} {at r : ℕ} {d' : List ℕ} → Told p (take ng g') (take nh h') d at r d' → Answer line d at r d'
  told_read {d} {at} {r} {d'} t =
      let a : take ng g' ≡ q.G = ap (take ng) q.front_G ∙ take_at q.G (drop ng g) ng q.count_G in
      let b : take nh h' ≡ q.H = ap (take nh) q.front_H ∙ take_at q.H (drop nh h) nh q.count_H in
      let w : Told p q.G q.H d at r d' = subst (λ z. Told p q.G z d at r d') b (subst (λ z. Told p z (take nh h') d at r d') a t) in
      record { text = _; lists = read p q.G q.H w.m w.rows w.scratch q.reads w.makes; put = w.put }

pub told_not : {line : List ℕ} (g h g' h' : List ℕ) {d : List ℕ} {at q : ℕ} {d' : List ℕ} → 126 ≤ length g → 126 ≤ length h
    → ParseTells line g h None g' h' → Put d at (refused_text 12) q d' → Answer line d at q d'
told_not {line} g h g' h' u v t a =
    record { text = refused_text 12; lists = malformed (malformed_means line g h g' h' u v t); put = a }
