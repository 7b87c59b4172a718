-- One outcome for each input.
--   parse_unique      of `parse`
--   malformed_means   with slices of 126 entries a line is malformed exactly where it does not read
use mathlib.Core.Path.{◌≡◌, refl, sym, ap, ◌∙◌}
use mathlib.Core.List.{List, ◌++◌}
use Prim.Native.Nat.{ℕ, ◌≤◌}
use native.Mathlib.Omega.{arith}
use lib.ListN.{length, drop}
use Rattle.text_read.specs.Grammar.{Reads}
use Rattle.text_read.specs.Tells.{ReadAs, ParseTells}
use Rattle.text_read.specs.declared.Line.{Line}
use Rattle.std.specs.Prelude.{Option, Some, None}
use Rattle.text_read.proofs.Writings.{reads_unique, reads_room}

line_same : (l m : Line) → l.p ≡ m.p → l.ng ≡ m.ng → l.nh ≡ m.nh → l ≡ m
line_same l m a b c = λ i. record { p = a i; ng = b i; nh = c i }

-- what reads into a slice has room in it
read_not : {line g h : List ℕ} {p ng nh : ℕ} {g' h' : List ℕ} → ReadAs line g h p ng nh g' h'
    → ((p : ℕ) (G H : List ℕ) → Reads line p G H → length G ≤ length g → length H ≤ length h → ⊥) → ⊥
read_not {line} {g} {h} {p} {ng} {nh} a n =
    let n_g : length a.G ≡ ng = a.count_G in
    let n_h : length a.H ≡ nh = a.count_H in
    let rG : ng ≤ length g = a.room_G in
    let rH : nh ≤ length h = a.room_H in
    n p a.G a.H a.reads (omega arith) (omega arith)

front_same : (G G₂ d d' d₂ : List ℕ) (n n₂ : ℕ) → G ≡ G₂ → n ≡ n₂ → d' ≡ G ++ drop n d → d₂ ≡ G₂ ++ drop n₂ d → d' ≡ d₂
front_same G G₂ d d' d₂ n n₂ e f a b = a ∙ ap (λ (z : List ℕ). z ++ drop n d) e ∙ ap (λ (k : ℕ). G₂ ++ drop k d) f ∙ sym b

read_read : (line g h : List ℕ) (l m : Line) (g' h' g₂ h₂ : List ℕ) → ReadAs line g h l.p l.ng l.nh g' h' → ReadAs line g h m.p m.ng m.nh g₂ h₂
    → (Some l ≡ Some m) × (g' ≡ g₂) × (h' ≡ h₂)
read_read line g h l m g' h' g₂ h₂ a b =
    let u = reads_unique a.reads b.reads in
    let n : l.ng ≡ m.ng = sym a.count_G ∙ ap length u.1 ∙ b.count_G in
    let k : l.nh ≡ m.nh = sym a.count_H ∙ ap length u.2 ∙ b.count_H in (
      ap Some (line_same l m u.0 n k),
      front_same a.G b.G g g' g₂ l.ng m.ng u.1 n a.front_G b.front_G,
      front_same a.H b.H h h' h₂ l.nh m.nh u.2 k a.front_H b.front_H,
    )

pub parse_unique : (line g h : List ℕ) (r r₂ : Option Line) (g' h' g₂ h₂ : List ℕ) → ParseTells line g h r g' h' → ParseTells line g h r₂ g₂ h₂
    → (r ≡ r₂) × (g' ≡ g₂) × (h' ≡ h₂)
parse_unique line g h (Some l) (Some m) g' h' g₂ h₂ a b = read_read line g h l m g' h' g₂ h₂ a b
parse_unique line g h (Some l) None g' h' g₂ h₂ a b = absurd (read_not a b.0)
parse_unique line g h None (Some m) g' h' g₂ h₂ a b = absurd (read_not b a.0)
parse_unique line g h None None g' h' g₂ h₂ a b = (refl, a.1 ∙ sym b.1, a.2 ∙ sym b.2)

pub malformed_means : (line g h g' h' : List ℕ) → 126 ≤ length g → 126 ≤ length h → ParseTells line g h None g' h'
    → (p : ℕ) (G H : List ℕ) → Reads line p G H → ⊥
malformed_means line g h g' h' a b t p G H r =
    let u : length G ≤ 126 = (reads_room r).0 in
    let v : length H ≤ 126 = (reads_room r).1 in
    t.0 p G H r (omega arith) (omega arith)
