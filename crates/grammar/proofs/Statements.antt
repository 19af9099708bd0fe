-- What a statement is read as.
-- The forms of a statement are rows of slots, so reading the words after the first is right by the rows' lemmas, one line a
-- kind; and the first word says the kind, or is refused or missing. The slots that a statement's words have to fill are a
-- function of its words, so that the faults of a statement are those of one row of slots. Its words lie in order between its
-- start and its end.
use Rattle.std.proofs.Common.{◌≡◌, ℕ, ◌≤◌, List, [], ◌∷◌, map, Some, None, Option, sym, refl, ap, subst, arith}
use Rattle.lang.specs.declared.syntax.Statement.{Statement}
use Rattle.lang.specs.declared.syntax.Statement.TheVariants.{Load, Store, Exchange, Add, Fence}
use Rattle.faults.specs.declared.Fault.{Fault}
use Rattle.faults.specs.declared.Fault.TheVariants.{WrongWord}
use Rattle.lang.specs.Spelling.{location_name, register_name}
use Rattle.grammar.specs.declared.kinds.Kind.{Kind}
use Rattle.grammar.specs.declared.kinds.Kind.TheVariants.{Load as Ld, Store as St, Exchange as Xchg, Add as Sum, Fence as Bar}
use Rattle.grammar.specs.Pieces.{Piece, end, words}
use Rattle.grammar.specs.Table.{kind_name, SpellsOperand, SpellsStatement, ld, st, xchg, add, fence, Slot, a_kind, operands, Slots, unnamed, unknown, known as known-kind, StatementFault, refused as word-refused, missing as word-missing, extra as word-extra}
use Rattle.grammar.specs.Texts.{SpellsWords}
use Rattle.grammar.specs.Answer.{kind_of, known, and_then, read_operands, read_words, read_statement}
use Rattle.grammar.proofs.Right.{ReadsRight, FaultsLie}
use Rattle.grammar.proofs.Names.{kinds_read, name_read, no_name, no_name_read}
use Rattle.grammar.proofs.Slots.{Is, IsTaken, Stands, kind_reads, register_reads, location_reads, value_reads, mode_reads}
use Rattle.grammar.proofs.Spans.{words_ordered, words_solid}
use Rattle.grammar.proofs.Rows.{RowFault, refused, missing, extra, row_stands, ReadsRow, Follows, then, Ends, over, done_right, next_right, missing_right, refused_right, accepted_right}

-- What follows the first word of a statement.
abbrev Row : Kind → List (List ℕ) → Statement → Type 0
Row Ld = Follows (Is register_name) λ r. Follows (Is location_name) λ l. Follows (IsTaken Ld) λ m. Ends (Load r l m)
Row St = Follows (Is location_name) λ l. Follows SpellsOperand λ v. Follows (IsTaken St) λ m. Ends (Store l v m)
Row Xchg = Follows (Is register_name) λ r. Follows (Is location_name) λ l. Follows SpellsOperand λ v. Follows (IsTaken Xchg) λ m. Ends (Exchange r l v m)
Row Sum = Follows (Is register_name) λ r. Follows (Is location_name) λ l. Follows SpellsOperand λ v. Follows (IsTaken Sum) λ m. Ends (Add r l v m)
Row Bar = Follows (IsTaken Bar) λ m. Ends (Fence m)

operands_right : (stop : ℕ) (k : Kind) (ws : List Piece) → ReadsRow stop (operands k) (Row k) ws (read_operands k ws stop)
operands_right stop Ld = next_right register_reads λ r. next_right location_reads λ l. next_right (mode_reads Ld) λ m. done_right (Load r l m)
operands_right stop St = next_right location_reads λ l. next_right value_reads λ v. next_right (mode_reads St) λ m. done_right (Store l v m)
operands_right stop Xchg = next_right register_reads λ r. next_right location_reads λ l. next_right value_reads λ v. next_right (mode_reads Xchg) λ m. done_right (Exchange r l v m)
operands_right stop Sum = next_right register_reads λ r. next_right location_reads λ l. next_right value_reads λ v. next_right (mode_reads Sum) λ m. done_right (Add r l v m)
operands_right stop Bar = next_right (mode_reads Bar) λ m. done_right (Fence m)

abbrev Form : List (List ℕ) → Statement → Type 0
Form = Follows (Is kind_name) Row

form_spells : (bs : List (List ℕ)) (x : Statement) → Form bs x → SpellsStatement bs x
form_spells bs x (then Ld e (then r f (then l g (then m h over)))) = rw (e, f, g, h.0) (ld r l m h.1)
form_spells bs x (then St e (then l f (then v g (then m h over)))) = rw (e, f, h.0) (st l _ v m g h.1)
form_spells bs x (then Xchg e (then r f (then l g (then v i (then m h over))))) = rw (e, f, g, h.0) (xchg r l _ v m i h.1)
form_spells bs x (then Sum e (then r f (then l g (then v i (then m h over))))) = rw (e, f, g, h.0) (add r l _ v m i h.1)
form_spells bs x (then Bar e (then m h over)) = rw (e, h.0) (fence m h.1)

spells_form : (bs : List (List ℕ)) (x : Statement) → SpellsStatement bs x → Form bs x
spells_form bs x (ld r l m t) = then Ld refl (then r refl (then l refl (then m (refl, t) over)))
spells_form bs x (st l w v m h t) = then St refl (then l refl (then v h (then m (refl, t) over)))
spells_form bs x (xchg r l w v m h t) = then Xchg refl (then r refl (then l refl (then v h (then m (refl, t) over))))
spells_form bs x (add r l w v m h t) = then Sum refl (then r refl (then l refl (then v h (then m (refl, t) over))))
spells_form bs x (fence m t) = then Bar refl (then m (refl, t) over)

-- The slots that the words of a statement have to fill.
abbrev after : Option Kind → List Slot
after o = elim o [ Some k ↦ operands k | None ↦ [] ]

abbrev slots : List Piece → List Slot
slots [] = a_kind ∷ []
slots (w ∷ ws) = a_kind ∷ after (kind_of w.bytes)

slots_fill : (ws : List Piece) → Slots ws (slots ws)
slots_fill [] = unnamed
slots_fill (w ∷ ws) = either (kind_of w.bytes) refl
  where
    either : (o : Option Kind) → kind_of w.bytes ≡ o → Slots (w ∷ ws) (a_kind ∷ after o)
    either (Some k) is = known-kind k w ws (kinds_read.some w.bytes k is)
    either None is = unknown w ws (no_name kinds_read w.bytes is)

slots_unique : (ws : List Piece) (ss : List Slot) → Slots ws ss → ss ≡ slots ws
slots_unique ws ss unnamed = refl
slots_unique ws ss (unknown w vs n) = ap (λ o. a_kind ∷ after o) (sym (no_name_read kinds_read w.bytes n))
slots_unique ws ss (known-kind k w vs e) = ap (λ o. a_kind ∷ after o) (sym (name_read kinds_read w.bytes k e))

words_right : (stop : ℕ) (ws : List Piece) → ReadsRow stop (slots ws) Form ws (read_words ws stop)
words_right stop [] = missing_right stop a_kind []
words_right stop (w ∷ ws) = either (kind_of w.bytes) refl
  where
    either : (o : Option Kind) → kind_of w.bytes ≡ o → ReadsRow stop (a_kind ∷ after o) Form (w ∷ ws) (and_then (known o w.offset) (λ k. read_operands k ws stop))
    either (Some k) is = accepted_right stop a_kind (operands k) w ws (kind_reads w) k (ap (λ o. known o w.offset) is) (read_operands k ws stop) (operands_right stop k ws)
    either None is = refused_right stop a_kind [] w ws (kind_reads w) (WrongWord w.offset) (ap (λ o. known o w.offset) is)

-- The faults of a statement are those of its words in those slots.
statement_row : (s : Piece) (f : Fault) → StatementFault s f → RowFault (slots (words s)) (words s) (end s) f
statement_row s f (word-refused ss i slot w fill a b h) = subst (λ ss. RowFault ss (words s) (end s) f) (slots_unique (words s) ss fill) (refused i slot w a b h)
statement_row s f (word-missing ss fill l e) = subst (λ ss. RowFault ss (words s) (end s) f) (slots_unique (words s) ss fill) (missing l e)
statement_row s f (word-extra ss w fill a e) = subst (λ ss. RowFault ss (words s) (end s) f) (slots_unique (words s) ss fill) (extra w a e)

row_statement : (s : Piece) (f : Fault) → RowFault (slots (words s)) (words s) (end s) f → StatementFault s f
row_statement s f (refused i slot w a b h) = word-refused (slots (words s)) i slot w (slots_fill (words s)) a b h
row_statement s f (missing l e) = word-missing (slots (words s)) (slots_fill (words s)) l e
row_statement s f (extra w a e) = word-extra (slots (words s)) w (slots_fill (words s)) a e

pub statement_right : (s : Piece) → ReadsRight read_statement SpellsWords StatementFault s
statement_right s =
    let row = words_right (end s) (words s) in
    record {
      spelt = λ x e. form_spells (map (λ w. w.bytes) (words s)) x (row.spelt x e);
      spells = λ x h. row.spells x (spells_form (map (λ w. w.bytes) (words s)) x h);
      clean = λ x f e h. row.clean x f e (statement_row s f h);
      fault = λ f e. row_statement s f (row.fault f e);
      least = λ f g e h. row.least s.offset (words_ordered s) (words_solid s) f g e (statement_row s g h);
    }

pub statement_faults_lie : (s : Piece) → FaultsLie 5 StatementFault s
statement_faults_lie s = record {
  from = λ f h. let p = stands f h in omega (arith, p.3.place);
  to = λ f h. let p = stands f h in omega (arith, p.3.place);
  high = λ f h. (stands f h).3.high;
  told = λ f h. (stands f h).3.told;
}
  where
    stands : (f : Fault) → StatementFault s f → (p : ℕ) × (s.offset ≤ p) × (p ≤ end s) × Stands f p
    stands f h = row_stands s.offset (end s) (slots (words s)) (words s) (omega arith) (words_ordered s) f (statement_row s f h)
