-- A text cut into lines, statements and words, each with the offset at which it begins.
use Rattle.std.specs.Prelude.{ℕ, ◌+◌, Bool, true, false, cond, List, [], ◌∷◌, length, ◌==◌}

pub record Piece : Type 0 where
  pub offset : ℕ
  pub bytes : List ℕ

abbrev pub piece : ℕ → List ℕ → Piece
piece at bs = record { offset = at; bytes = bs }

-- The offset just after a piece: of the separator that follows it, or of the text's end.
abbrev pub end : Piece → ℕ
end p = p.offset + length p.bytes

-- The bytes of the text that mean something other than themselves.
abbrev pub SPACE : ℕ
SPACE = 32

abbrev pub SEMICOLON : ℕ
SEMICOLON = 59

abbrev pub LF : ℕ
LF = 10

-- One byte more in front of the first piece.
abbrev pub widened : ℕ → ℕ → List Piece → List Piece
widened at b [] = []
widened at b (p ∷ ps) = piece at (b ∷ p.bytes) ∷ ps

-- The pieces between the separators, one more than there are separators; the first begins at the offset `at`.
abbrev pub split : ℕ → ℕ → List ℕ → List Piece
split separator at [] = piece at [] ∷ []
split separator at (b ∷ bs) =
    cond (b == separator) (piece at [] ∷ split separator (at + 1) bs) (widened at b (split separator (at + 1) bs))

abbrev pub is_empty : List ℕ → Bool
is_empty [] = true
is_empty (b ∷ bs) = false

-- Without the last piece, if it is empty.
abbrev pub closed : List Piece → List Piece
closed [] = []
closed (p ∷ []) = cond (is_empty p.bytes) [] (p ∷ [])
closed (p ∷ q ∷ ps) = p ∷ closed (q ∷ ps)

-- Without the empty pieces.
abbrev pub solid : List Piece → List Piece
solid [] = []
solid (p ∷ ps) = cond (is_empty p.bytes) (solid ps) (p ∷ solid ps)

-- An LF ends a line, so nothing after the last LF is no line.
abbrev pub lines : List ℕ → List Piece
lines text = closed (split LF 0 text)

-- The statements of a line are parted by `;`.
abbrev pub statements : Piece → List Piece
statements line = split SEMICOLON line.offset line.bytes

-- The words of a statement are parted by spaces, of which there may be several, also at its ends.
abbrev pub words : Piece → List Piece
words statement = solid (split SPACE statement.offset statement.bytes)
