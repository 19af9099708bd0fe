-- What lies ahead in a line, one statement on. The statements of the line from an offset on are the one that lies here and those after
-- its end; a `;` there begins another, and where no `;` stands the line is over.
use Rattle.std.proofs.Common.{◌≡◌, ℕ, ◌+◌, ◌<◌, Bool, true, false, cond, eqb, List, [], ◌∷◌, length, get_or, drop, sym, refl, ap, ◌∙◌, add-zero, arith, MatchBool}
use Rattle.std.proofs.lemmas.List.{drop-drop, at_drop_more, length-drop, get_or-drop}
use Rattle.std.proofs.lemmas.Bool.{eqb-true}
use Rattle.std.specs.List.{before_first}
use Rattle.grammar.specs.Pieces.{statements, SEMICOLON}
use Rattle.cursor.specs.Sight.{ends_statement, ends_line, rest_of_statement, statement_end, parts_after}
use Rattle.reader.specs.Ahead.{rest_of_line, line_end, statements_after}
use Rattle.cursor.proofs.Ahead.{before_more, before_stop, before_over, after_none, split_ahead, length_ahead}

module _ (text : List ℕ) (o : ℕ) where
  pub statements_ahead : statements (rest_of_line text o) ≡ rest_of_statement text o ∷ statements_after text (statement_end text o)
  statements_ahead =
      split_ahead SEMICOLON ends_line o (drop o text)
      ∙ ap (λ bs. rest_of_statement text o ∷ parts_after SEMICOLON ends_line (statement_end text o) bs) (drop-drop (length (before_first ends_statement (drop o text))) o text)

  pub statement_line : line_end text (statement_end text o) ≡ line_end text o
  statement_line =
      omega (arith, length_ahead SEMICOLON ends_line (drop o text), ap (λ bs. length (before_first ends_line bs)) (drop-drop (length (before_first ends_statement (drop o text))) o text))

  pub statement_over : before_first ends_statement (drop (statement_end text o) text) ≡ []
  statement_over =
      ap (before_first ends_statement) (sym (drop-drop (length (before_first ends_statement (drop o text))) o text)) ∙ before_over ends_statement (drop o text)

-- At a `;` another statement of the line begins.
module _ (text : List ℕ) (o : ℕ) (inside : o < length text) (semicolon : get_or text o 0 ≡ SEMICOLON) where
  pub semicolon_more : statements_after text o ≡ rest_of_statement text (o + 1) ∷ statements_after text (statement_end text (o + 1))
  semicolon_more =
      at_drop_more (parts_after SEMICOLON ends_line o) text o 0 inside
      ∙ ap (λ b. cond (ends_line b) [] (statements (rest_of_line text (o + 1)))) semicolon
      ∙ statements_ahead text (o + 1)

  pub semicolon_line : line_end text (o + 1) ≡ line_end text o
  semicolon_line =
      let more = before_more ends_line (get_or text o 0) (drop (o + 1) text) (ap ends_line semicolon) in
      omega (arith, ap length (at_drop_more (before_first ends_line) text o 0 inside ∙ more))

-- Where a statement ends and no `;` stands, the line ends.
over : (bs : List ℕ) → before_first ends_statement bs ≡ [] → (0 < length bs → get_or bs 0 0 ≡ SEMICOLON → ⊥) → before_first ends_line bs ≡ []
over [] ended none = refl
over (b ∷ bs) ended none = go (ends_line b) refl (eqb b SEMICOLON) refl
  where
    go : (s : Bool) → ends_line b ≡ s → (t : Bool) → eqb b SEMICOLON ≡ t → before_first ends_line (b ∷ bs) ≡ []
    go true e t k = before_stop ends_line b bs e
    go false e true k = absurd (none (omega arith) (eqb-true b SEMICOLON k))
    go false e false k = absurd (omega (arith, ap length (rw (before_more ends_statement b bs (rw (k, e))) at ended)))

module _ (text : List ℕ) (o : ℕ) (ended : before_first ends_statement (drop o text) ≡ []) (none : o < length text → get_or text o 0 ≡ SEMICOLON → ⊥) where
  line_over : before_first ends_line (drop o text) ≡ []
  line_over = over (drop o text) ended λ some e. none (omega (arith, length-drop o text)) (sym (get_or-drop o text 0 0 ∙ rw add-zero) ∙ e)

  pub no_more : statements_after text o ≡ []
  no_more = after_none SEMICOLON ends_line o (drop o text) line_over

  pub line_ended : o ≡ line_end text o
  line_ended = omega (arith, ap length line_over)

-- Whether a `;` was passed. Where the cursor was, and where it is now, in the text that it is over now.
pub passes : (r : Bool) (text now : List ℕ) (at then : ℕ) → now ≡ text → before_first ends_statement (drop at text) ≡ [] → MatchBool r ((at < length text) × (get_or text at 0 ≡ SEMICOLON) × (then ≡ at + 1)) ((then ≡ at) × (at < length text → get_or text at 0 ≡ SEMICOLON → ⊥)) → MatchBool r ((at < then) × (statements_after text at ≡ rest_of_statement now then ∷ statements_after now (statement_end now then)) × (then ≡ then) × (line_end now then ≡ line_end text at)) ((statements_after text at ≡ []) × (then ≡ line_end text at))
passes true text now at then same ended (inside, semicolon, step) =
    rw (same, step) (omega arith, semicolon_more text at inside semicolon, refl, semicolon_line text at inside semicolon)
passes false text now at then same ended (step, none) = (no_more text at ended none, step ∙ line_ended text at ended none)
