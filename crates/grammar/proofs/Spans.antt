-- Where the pieces of a text stand: one after the other, with a separator between each and the next.
-- Pieces are ordered from one offset to another when each begins no lower than the first and ends no higher than the second,
-- and those after it begin above its end. Cutting bytes that stand at an offset gives pieces ordered from that offset to the
-- end of the bytes, by induction over the bytes: a separator puts an empty piece in front, any other byte widens the first
-- piece to its left. Leaving pieces out keeps the order, and the words, from which the empty pieces are left out, have a byte each.
use Rattle.std.proofs.Common.{◌≡◌, ℕ, zero, suc, ◌+◌, ◌<◌, ◌≤◌, Bool, true, false, cond, eqb, List, [], ◌∷◌, length, Some, arith}
use Rattle.std.specs.List.{slice_get, AllByRecursion as All}
use Rattle.std.proofs.lemmas.Bool.{cond_both}
use Rattle.grammar.specs.Pieces.{Piece, piece, end, SPACE, SEMICOLON, LF, widened, split, is_empty, closed, solid, lines, statements, words}

abbrev pub Ordered : ℕ → ℕ → List Piece → Type 0
Ordered low high [] = Unit
Ordered low high (p ∷ ps) = (low ≤ p.offset) × (end p ≤ high) × Ordered (end p + 1) high ps

-- What is ordered from an offset is ordered from a lower one.
pub ordered_lower : (low low' high : ℕ) (ps : List Piece) → low' ≤ low → Ordered low high ps → Ordered low' high ps
ordered_lower low low' high [] h o = tt
ordered_lower low low' high (p ∷ ps) h o = (omega arith, omega arith, o.2)

widened_ordered : (at b high : ℕ) (ps : List Piece) → Ordered (at + 1) high ps → Ordered at high (widened at b ps)
widened_ordered at b high [] o = tt
widened_ordered at b high (p ∷ ps) o =
    (omega arith, omega arith, ordered_lower (end p + 1) (end (piece at (b ∷ p.bytes)) + 1) high ps (omega arith) o.2)

-- One byte in front of ordered pieces, a separator or not.
byte_ordered : (test : Bool) (at b high : ℕ) (ps : List Piece) → at ≤ high → Ordered (at + 1) high ps → Ordered at high (cond test (piece at [] ∷ ps) (widened at b ps))
byte_ordered true at b high ps h o = (omega arith, omega arith, ordered_lower (at + 1) (end (piece at []) + 1) high ps (omega arith) o)
byte_ordered false at b high ps h o = widened_ordered at b high ps o

pub split_ordered : (separator at high : ℕ) (bs : List ℕ) → at + length bs ≤ high → Ordered at high (split separator at bs)
split_ordered separator at high [] h = (omega arith, omega arith, tt)
split_ordered separator at high (b ∷ bs) h =
    byte_ordered (eqb b separator) at b high (split separator (at + 1) bs) (omega arith) (split_ordered separator (at + 1) high bs (omega arith))

pub closed_ordered : (low high : ℕ) (ps : List Piece) → Ordered low high ps → Ordered low high (closed ps)
closed_ordered low high [] o = tt
closed_ordered low high (p ∷ []) o = cond_both (is_empty p.bytes) [] (p ∷ []) (Ordered low high) (λ e. tt) (λ e. o)
closed_ordered low high (p ∷ q ∷ ps) o = (o.0, o.1, closed_ordered (end p + 1) high (q ∷ ps) o.2)

pub solid_ordered : (low high : ℕ) (ps : List Piece) → Ordered low high ps → Ordered low high (solid ps)
solid_ordered low high [] o = tt
solid_ordered low high (p ∷ ps) o =
    let rest = solid_ordered (end p + 1) high ps o.2 in
    cond_both (is_empty p.bytes) (solid ps) (p ∷ solid ps) (Ordered low high)
    (λ e. ordered_lower (end p + 1) low high (solid ps) (omega arith) rest)
    (λ e. (o.0, o.1, rest))

pub statements_ordered : (line : Piece) → Ordered line.offset (end line) (statements line)
statements_ordered line = split_ordered SEMICOLON line.offset (end line) line.bytes (omega arith)

pub lines_ordered : (text : List ℕ) → Ordered 0 (end (piece 0 text)) (lines text)
lines_ordered text = closed_ordered 0 (end (piece 0 text)) (split LF 0 text) (split_ordered LF 0 (end (piece 0 text)) text (omega arith))

-- Each of the pieces lies within the bounds.
pub nth_between : (low high : ℕ) (ps : List Piece) (i : ℕ) (p : Piece) → Ordered low high ps → slice_get ps i ≡ Some p → (low ≤ p.offset) × (end p ≤ high)
nth_between low high [] i p o e = let z : ◌≡◌ {A = ℕ} 0 1 = cc in omega arith
nth_between low high (q ∷ ps) zero p o e = let s : q ≡ p = cc in rw (← s) (o.0, o.1)
nth_between low high (q ∷ ps) (suc i) p o e = let h = nth_between (end q + 1) high ps i p o.2 e in omega arith

-- A piece with a byte at least, as the words of a statement are.
abbrev pub Solid : Piece → Type 0
Solid p = p.offset < end p

solid_if : (p : Piece) → is_empty p.bytes ≡ false → Solid p
solid_if p e = go p.bytes e
  where
    go : (bs : List ℕ) → is_empty bs ≡ false → p.offset < p.offset + length bs
    go [] e = let z : ◌≡◌ {A = ℕ} 0 1 = cc in absurd (omega arith)
    go (b ∷ bs) e = omega arith

solid_solid : (ps : List Piece) → All Solid (solid ps)
solid_solid [] = tt
solid_solid (p ∷ ps) =
    cond_both (is_empty p.bytes) (solid ps) (p ∷ solid ps) (All Solid) (λ _. solid_solid ps) (λ e. (solid_if p e, solid_solid ps))

pub words_ordered : (s : Piece) → Ordered s.offset (end s) (words s)
words_ordered s =
    solid_ordered s.offset (end s) (split SPACE s.offset s.bytes) (split_ordered SPACE s.offset (end s) s.bytes (omega arith))

pub words_solid : (s : Piece) → All Solid (words s)
words_solid s = solid_solid (split SPACE s.offset s.bytes)
