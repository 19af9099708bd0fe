-- What a cursor at an offset of a text has before it.
use Rattle.std.specs.Prelude.{◌≡◌, ℕ, ◌+◌, ◌≤◌, Bool, true, cond, ◌||◌, List, [], ◌∷◌, drop, Ok, Err, Result, is_ok, ◌==◌}
use Rattle.std.specs.List.{before_first}
use Rattle.lang.specs.declared.syntax.Statement.{Statement}
use Rattle.faults.specs.declared.Fault.{Fault}
use Rattle.grammar.specs.Answer.{next}
use Rattle.cursor.specs.declared.text.Cursor.{Cursor}
use Rattle.grammar.specs.Pieces.{Piece, piece, end, split, words, SPACE, SEMICOLON, LF}

abbrev pub ends_line : ℕ → Bool
ends_line b = b == LF

abbrev pub ends_statement : ℕ → Bool
ends_statement b = b == SEMICOLON || b == LF

abbrev pub ends_word : ℕ → Bool
ends_word b = b == SPACE || ends_statement b

-- What is left, from an offset on, of the statement that it lies in.
abbrev pub rest_of_statement : List ℕ → ℕ → Piece
rest_of_statement text at = piece at (before_first ends_statement (drop at text))

-- The words that are left of the statement, and where it ends.
abbrev pub words_left : List ℕ → ℕ → List Piece
words_left text at = words (rest_of_statement text at)

abbrev pub statement_end : List ℕ → ℕ → ℕ
statement_end text at = end (rest_of_statement text at)

-- The cursor is over the same text, and no further left.
abbrev pub Advances : Cursor → Cursor → Type 0
Advances c d = (d.text ≡ c.text) × (c.at ≤ d.at)

-- The cursor took the next word, read as `read` says, and went on from c to d: whatever is done with the rest, reading on from the one
-- is going on from the other, or keeps the fault.
abbrev pub Takes : {X : Type 0} → (Piece → Result X Fault) → Cursor → Result X Fault → Cursor → Type 0
Takes {X} read c (Ok x) d =
    (statement_end c.text.now d.at ≡ statement_end c.text.now c.at)
    × ((k : X → List Piece → Result Statement Fault) → next read (words_left c.text.now c.at) (statement_end c.text.now c.at) k ≡ k x (words_left c.text.now d.at))
Takes {X} read c (Err f) d =
    (k : X → List Piece → Result Statement Fault) → next read (words_left c.text.now c.at) (statement_end c.text.now c.at) k ≡ Err f

-- The cursor read what was left of a statement, as `read` says, and if that is no fault, went on from c to d, its end.
abbrev pub Finishes : (List Piece → ℕ → Result Statement Fault) → Cursor → Result Statement Fault → Cursor → Type 0
Finishes read c r d =
    (r ≡ read (words_left c.text.now c.at) (statement_end c.text.now c.at)) × (is_ok r ≡ true → d.at ≡ statement_end c.text.now c.at)

-- The parts of a piece after the byte at the offset e, if that byte parts and does not end the piece.
abbrev pub parts_after : ℕ → (ℕ → Bool) → ℕ → List ℕ → List Piece
parts_after separator ends e [] = []
parts_after separator ends e (b ∷ bs) = cond (ends b) [] (split separator (e + 1) (before_first ends bs))
