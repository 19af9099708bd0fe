-- The lines that lie ahead. Where a line begins, the lines of the rest of the text are that line, up to the next LF or the text's end,
-- and those after it; after an LF another line begins only if a byte follows, for nothing after the last LF is no line.
-- The lines that lie ahead. Where a line begins, the lines of the rest of the text are that line, up to the next LF or the text's end,
-- and those after it; after an LF another line begins only if a byte follows, for nothing after the last LF is no line.
use Rattle.std.proofs.Common.{◌≡◌, ℕ, ◌+◌, ◌<◌, ◌≤◌, Bool, true, false, not, cond, eqb, leb, List, [], ◌∷◌, length, drop, sym, refl, ap, ◌∙◌, add-zero, arith, MatchBool}
use Rattle.std.proofs.lemmas.List.{drop-drop, drop_all, at_drop_more, length-drop}
use Rattle.std.proofs.lemmas.Bool.{leb-true, leb-false}
use Rattle.std.proofs.lemmas.List.Folds.{length-prefix_len}
use Rattle.std.proofs.lemmas.List.Sums.{prefix_len-le-length}
use Rattle.std.specs.List.{before_first}
use Rattle.faults.specs.declared.Fault.TheVariants.{FifthLine}
use Rattle.grammar.specs.Answer.{read_each, read_thread, read_threads}
use Rattle.grammar.specs.Pieces.{Piece, piece, widened, split, closed, LF}
use Rattle.cursor.specs.Sight.{ends_line}
use Rattle.reader.specs.Ahead.{rest_of_line, line_end, lines_past, lines_after}
use Rattle.cursor.proofs.Ahead.{before_more, before_stop, before_over}

-- The lines after the byte that stands at the offset e, one of which may be empty and no line.
abbrev rest : ℕ → List ℕ → List Piece
rest e [] = []
rest e (b ∷ bs) = split LF (e + 1) bs

split_line : (at : ℕ) (bs : List ℕ) → split LF at bs ≡ piece at (before_first ends_line bs) ∷ rest (at + length (before_first ends_line bs)) (drop (length (before_first ends_line bs)) bs)
split_line at [] = refl
split_line at (b ∷ bs) = go (eqb b LF) refl (split_line (at + 1) bs)
  where
    go :
        (t : Bool) → eqb b LF ≡ t →
        split LF (at + 1) bs ≡ piece (at + 1) (before_first ends_line bs) ∷ rest (at + 1 + length (before_first ends_line bs)) (drop (length (before_first ends_line bs)) bs) →
        cond (eqb b LF) (piece at [] ∷ split LF (at + 1) bs) (widened at b (split LF (at + 1) bs)) ≡ piece at (before_first ends_line (b ∷ bs)) ∷ rest (at + length (before_first ends_line (b ∷ bs))) (drop (length (before_first ends_line (b ∷ bs))) (b ∷ bs))
    go true e ih = rw (before_stop ends_line b bs e, e, add-zero)
    go false e ih =
        rw (before_more ends_line b bs e, e)
        (ap (widened at b) ih
        ∙ ap (λ (i : ℕ). piece at (b ∷ before_first ends_line bs) ∷ rest i (drop (length (before_first ends_line bs)) bs)) (omega arith))

-- A first piece that is not the last, or not empty, stays.
closed_rest : (at : ℕ) (w : List ℕ) (e : ℕ) (bs : List ℕ) → 0 < length w + length bs → closed (piece at w ∷ rest e bs) ≡ piece at w ∷ lines_past e bs
closed_rest at [] e [] some = absurd (omega arith)
closed_rest at (b ∷ w) e [] some = refl
closed_rest at w e (b ∷ bs) some = rw (split_line (e + 1) bs)

length_before : (test : ℕ → Bool) (bs : List ℕ) → length bs ≡ length (before_first test bs) + length (drop (length (before_first test bs)) bs)
length_before test bs =
    omega (arith, length-drop (length (before_first test bs)) bs, length-prefix_len (λ b. not (test b)) bs, prefix_len-le-length (λ b. not (test b)) bs)

module _ (text : List ℕ) (at : ℕ) where
  abbrev size : ℕ
  size = length (before_first ends_line (drop at text))

  pub lines_ahead : at < length text → closed (split LF at (drop at text)) ≡ rest_of_line text at ∷ lines_after text (line_end text at)
  lines_ahead inside =
      ap closed (split_line at (drop at text))
      ∙ closed_rest at (before_first ends_line (drop at text)) (at + size) (drop size (drop at text)) (omega (arith, length_before ends_line (drop at text), length-drop at text))
      ∙ ap (λ bs. rest_of_line text at ∷ lines_past (line_end text at) bs) (drop-drop size at text)

  pub line_over : before_first ends_line (drop (line_end text at) text) ≡ []
  line_over = ap (before_first ends_line) (sym (drop-drop size at text)) ∙ before_over ends_line (drop at text)

-- Whether a byte follows the LF that was passed: if so, it begins another line. The cursor was at an offset of one text, and is now at
-- an offset of the text that it is over now.
pub passes : (over : Bool) (text now : List ℕ) (at then : ℕ) → now ≡ text → at < length text → then ≡ at + 1 → over ≡ leb (length now) then → MatchBool (not over) ((at < then) × (lines_after text at ≡ rest_of_line now then ∷ lines_after now (line_end now then)) × (then ≡ then) × (length now ≡ length text)) ((lines_after text at ≡ []) × (then ≡ length text))
passes true text now at then same inside step over =
    let end : length text ≤ at + 1 = omega (arith, leb-true (length now) then (sym over), ap length same) in
    (at_drop_more (lines_past at) text at 0 inside ∙ ap (λ bs. closed (split LF (at + 1) bs)) (drop_all (at + 1) text end), omega arith)
passes false text now at then same inside step over =
    let more : at + 1 < length text = omega (arith, leb-false (length now) then (sym over), ap length same) in
    rw (same, step)
    (omega arith, at_drop_more (lines_past at) text at 0 inside ∙ lines_ahead text (at + 1) more, refl, refl)

-- From the start of a text on, its lines are read.
pub read_ahead : (text now : List ℕ) (at : ℕ) → now ≡ text → at ≡ 0 → 0 < length text → read_each 4 FifthLine read_thread (rest_of_line now at ∷ lines_after now (line_end now at)) ≡ read_threads text
read_ahead text now at same start some =
    let all : List ℕ → ℕ → List Piece = λ (t : List ℕ) (n : ℕ). rest_of_line t n ∷ lines_after t (line_end t n) in
    ap (read_each 4 FifthLine read_thread) (ap (all now) start ∙ ap (λ (t : List ℕ). all t 0) same ∙ sym (lines_ahead text 0 some))
