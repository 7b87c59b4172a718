-- Lists and lines: reading and printing are each other's inverse, and a line reads in at most one way.
--   list_is_text      a text that reads as the list l is list_text l
--   text_listed       list_text l, of one or more numbers below 100,000, reads as l
--   text_reads        line_text p G H, of such numbers and not too long, reads as p, G, H
--   reads_unique      a line reads in at most one way
--   reads_room        the lists of a line have at most 126 numbers
--   reads_below       each number of a line is below 100,000
use mathlib.Core.Path.{◌≡◌, refl, sym, ap, ◌∙◌, subst}
use mathlib.Core.List.{List, [], ◌∷◌, ◌++◌, map, map-map}
use Prim.Native.Nat.{ℕ, zero, suc, ◌+◌, ◌*◌, ◌≤◌, ◌<◌}
use native.Mathlib.Omega.{arith}
use lib.ListN.{length, get_or, length-append}
use Rattle.text_put.specs.Print.{comma, semicolon, number_text, join, list_text, line_text}
use Rattle.text_cut.specs.Pieces.{pieces}
use Rattle.text_cut.proofs.Cuts.{Free, pieces_some}
use Rattle.text_number.specs.Grammar.{value, Numeral, Number, Listed}
use Rattle.text_read.specs.Grammar.{field, Reads}
use Rattle.text_number.proofs.Values.{value_text}
use Rattle.text_number.proofs.Inverse.{text_numeral, text_number, numeral_text, number_below}
use Rattle.text_number.proofs.Joins.{pieces_join, join_pieces, join_long, join_free}
use Rattle.text_number.proofs.Lists.{listed_length, entry_value}
use Rattle.text_read.proofs.Parts.{three_of, reads_of}

-- a function that changes no entry of a list
map_same : (f : List ℕ → List ℕ) (ps : List (List ℕ)) → ((k : ℕ) → k < length ps → f (get_or ps k []) ≡ get_or ps k []) → map f ps ≡ ps
map_same f [] h = refl
map_same f (p ∷ ps) h =
    ap (λ (z : List ℕ). z ∷ map f ps) (h 0 (omega arith)) ∙ ap (λ (z : List (List ℕ)). p ∷ z) (map_same f ps (λ k l. h (suc k) (omega arith)))

pub list_is_text : {s l : List ℕ} → Listed s l → s ≡ list_text l
unfolding list_text
list_is_text {s} {l} a =
    let ps : List (List ℕ) = pieces comma s in
    let e : map (λ (p : List ℕ). number_text (value p)) ps ≡ ps = map_same (λ (p : List ℕ). number_text (value p)) ps (λ k h. sym (numeral_text (get_or ps k []) (a.each k h))) in
    sym (join_pieces comma s) ∙ ap (join comma) (sym e ∙ sym (map-map number_text value ps) ∙ ap (map number_text) (sym a.means))

-- ---- printing, then reading
numeral_free : (c : ℕ) {s : List ℕ} → (48 ≤ c → c ≤ 57 → ⊥) → Numeral s → Free c s
numeral_free c {s} n a k h e =
    let u : 48 ≤ get_or s k 0 = (a.digits k h).0 in
    let v : get_or s k 0 ≤ 57 = (a.digits k h).1 in
    n (omega arith) (omega arith)

abbrev pub Small : List ℕ → Type 0
Small l = (k : ℕ) → k < length l → get_or l k 0 < 100000

texts_numeral : (l : List ℕ) → Small l → (k : ℕ) → k < length (map number_text l) → Numeral (get_or (map number_text l) k [])
texts_numeral [] h k q = absurd (omega arith)
texts_numeral (n ∷ l) h zero q = text_numeral n (h 0 (omega arith))
texts_numeral (n ∷ l) h (suc k) q = texts_numeral l (λ j r. h (suc j) (omega arith)) k (omega arith)

values_texts : (l : List ℕ) → map value (map number_text l) ≡ l
values_texts [] = refl
values_texts (n ∷ l) = ap (λ (x : ℕ). x ∷ map value (map number_text l)) (value_text n) ∙ ap (λ (z : List ℕ). n ∷ z) (values_texts l)

texts_pieces : (n : ℕ) (l : List ℕ) → Small (n ∷ l) → pieces comma (list_text (n ∷ l)) ≡ map number_text (n ∷ l)
unfolding list_text
texts_pieces n l h =
    pieces_join comma (number_text n) (map number_text l) (λ k q. numeral_free comma (λ u v. omega arith) (texts_numeral (n ∷ l) h k q))

listed_by : (s : List ℕ) (ps : List (List ℕ)) (l : List ℕ) → pieces comma s ≡ ps → ((k : ℕ) → k < length ps → Numeral (get_or ps k [])) → l ≡ map value ps → Listed s l
listed_by s ps l e a m =
    record {
      each = subst (λ (z : List (List ℕ)). (k : ℕ) → k < length z → Numeral (get_or z k [])) (sym e) a;
      means = m ∙ ap (map value) (sym e);
    }

pub text_listed : (n : ℕ) (l : List ℕ) → Small (n ∷ l) → Listed (list_text (n ∷ l)) (n ∷ l)
text_listed n l h =
    listed_by (list_text (n ∷ l)) (map number_text (n ∷ l)) (n ∷ l) (texts_pieces n l h) (texts_numeral (n ∷ l) h) (sym (values_texts (n ∷ l)))

-- ---- lines
pub line_parts : {line : List ℕ} {p : ℕ} {G H : List ℕ} → Reads line p G H → line ≡ join semicolon (field line 0 ∷ field line 1 ∷ field line 2 ∷ [])
line_parts {line} r = sym (join_pieces semicolon line) ∙ ap (join semicolon) (three_of (pieces semicolon line) r.three)

pub reads_unique : {line : List ℕ} {p : ℕ} {G H : List ℕ} {p' : ℕ} {G' H' : List ℕ} → Reads line p G H → Reads line p' G' H' → (p ≡ p') × (G ≡ G') × (H ≡ H')
reads_unique a b =
    (a.first.means ∙ sym b.first.means, a.second.means ∙ sym b.second.means, a.third.means ∙ sym b.third.means)

-- three texts without a semicolon
three_free : (a b c : List ℕ) → Free semicolon a → Free semicolon b → Free semicolon c → (k : ℕ) → k < 3 → Free semicolon (get_or (a ∷ b ∷ c ∷ []) k [])
three_free a b c f g h zero q = f
three_free a b c f g h (suc zero) q = g
three_free a b c f g h (suc (suc zero)) q = h
three_free a b c f g h (suc (suc (suc k))) q = absurd (omega arith)

list_free : (n : ℕ) (l : List ℕ) → Small (n ∷ l) → Free semicolon (list_text (n ∷ l))
unfolding list_text
list_free n l h =
    join_free semicolon comma (number_text n) (map number_text l) (λ e. let z : ◌≡◌ {A = ℕ} 44 59 = e in omega arith)
    (λ k q. numeral_free semicolon (λ u v. omega arith) (texts_numeral (n ∷ l) h k q))

pub text_reads : (p g : ℕ) (G : List ℕ) (h : ℕ) (H : List ℕ) → p < 100000 → Small (g ∷ G) → Small (h ∷ H) → length (line_text p (g ∷ G) (h ∷ H)) ≤ 255
    → Reads (line_text p (g ∷ G) (h ∷ H)) p (g ∷ G) (h ∷ H)
unfolding line_text
text_reads p g G h H a b c l =
    reads_of (line_text p (g ∷ G) (h ∷ H)) cut l (text_number p a) (text_listed g G b) (text_listed h H c)
  where
    cut : pieces semicolon (line_text p (g ∷ G) (h ∷ H)) ≡ number_text p ∷ list_text (g ∷ G) ∷ list_text (h ∷ H) ∷ []
    cut =
        pieces_join semicolon (number_text p) (list_text (g ∷ G) ∷ list_text (h ∷ H) ∷ [])
        (three_free (number_text p) (list_text (g ∷ G)) (list_text (h ∷ H)) (numeral_free semicolon (λ u v. omega arith) (text_numeral p a)) (list_free g G b) (list_free h H c))

-- ---- how large and how many
listed_below : {s l : List ℕ} → Listed s l → Small l
listed_below {s} {l} a k h =
    let e : length l ≡ length (pieces comma s) = listed_length a in
    let n : Number (get_or (pieces comma s) k []) (value (get_or (pieces comma s) k [])) = record { numeral = a.each k (omega arith); means = refl } in
    let b : value (get_or (pieces comma s) k []) < 100000 = number_below n in
    let v : get_or l k 0 ≡ value (get_or (pieces comma s) k []) = entry_value s l k a in
    omega arith

pub reads_below : {line : List ℕ} {p : ℕ} {G H : List ℕ} → Reads line p G H → (p < 100000) × Small G × Small H
reads_below r = (number_below r.first, listed_below r.second, listed_below r.third)

-- a list has a comma or the end after each number
listed_long : {s l : List ℕ} → Listed s l → (1 ≤ length l) × (2 * length l ≤ length s + 1)
listed_long {s} {l} a =
    let r = pieces_some comma s in
    let ps : List (List ℕ) = r.0 ∷ r.1 in
    let e : pieces comma s ≡ ps = r.2 in
    let n : length l ≡ suc (length r.1) = listed_length a ∙ ap length e in
    let f : (k : ℕ) → k < length ps → Numeral (get_or ps k []) = subst (λ (z : List (List ℕ)). (k : ℕ) → k < length z → Numeral (get_or z k [])) e a.each in
    let j : 2 * suc (length r.1) ≤ length (join comma ps) + 1 = join_long comma r.0 r.1 (λ k h. (f k h).some) in
    let w : length (join comma ps) ≡ length s = ap length (ap (join comma) (sym e) ∙ join_pieces comma s) in
    (omega arith, omega arith)

pub reads_room : {line : List ℕ} {p : ℕ} {G H : List ℕ} → Reads line p G H → (length G ≤ 126) × (length H ≤ 126)
unfolding join
reads_room {line} {p} {G} {H} r =
    let short : length line ≤ 255 = r.short in
    let e : length line ≡ length (field line 0 ++ semicolon ∷ (field line 1 ++ semicolon ∷ field line 2)) = ap length (line_parts r) in
    let e0 : length (field line 0 ++ semicolon ∷ (field line 1 ++ semicolon ∷ field line 2)) ≡ length (field line 0) + suc (length (field line 1 ++ semicolon ∷ field line 2)) = length-append (field line 0) (semicolon ∷ (field line 1 ++ semicolon ∷ field line 2)) in
    let e1 : length (field line 1 ++ semicolon ∷ field line 2) ≡ length (field line 1) + suc (length (field line 2)) = length-append (field line 1) (semicolon ∷ field line 2) in
    let a : 1 ≤ length (field line 0) = r.first.numeral.some in
    let g1 : 1 ≤ length G = (listed_long r.second).0 in
    let g2 : 2 * length G ≤ length (field line 1) + 1 = (listed_long r.second).1 in
    let h1 : 1 ≤ length H = (listed_long r.third).0 in
    let h2 : 2 * length H ≤ length (field line 2) + 1 = (listed_long r.third).1 in
    (omega arith, omega arith)
