-- What a cursor at an offset of a text still has to read: the rest of a line, and the lines after it.
use Rattle.std.specs.Prelude.{ℕ, ◌+◌, List, [], ◌∷◌, drop}
use Rattle.std.specs.List.{before_first}
use Rattle.grammar.specs.Pieces.{Piece, piece, end, split, closed, SEMICOLON, LF}
use Rattle.cursor.specs.Sight.{ends_line, parts_after}

-- What is left, from an offset on, of the line that it lies in, and where that line ends.
abbrev pub rest_of_line : List ℕ → ℕ → Piece
rest_of_line text at = piece at (before_first ends_line (drop at text))

abbrev pub line_end : List ℕ → ℕ → ℕ
line_end text at = end (rest_of_line text at)

-- The statements of the line after one that ends at the offset e.
abbrev pub statements_after : List ℕ → ℕ → List Piece
statements_after text e = parts_after SEMICOLON ends_line e (drop e text)

-- The lines of the text after one that ends at the offset e.
abbrev pub lines_past : ℕ → List ℕ → List Piece
lines_past e [] = []
lines_past e (b ∷ bs) = closed (split LF (e + 1) bs)

abbrev pub lines_after : List ℕ → ℕ → List Piece
lines_after text e = lines_past e (drop e text)
