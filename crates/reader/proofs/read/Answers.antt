use Rattle.std.proofs.Common.{◌≡◌, ℕ, ◌<◌, ◌⊎◌, List, length, Option, sym, ap, ◌∙◌, inl, inr, arith}
use Rattle.std.proofs.lemmas.Bool.{eqb-true, eqb-false}
use Rattle.grammar.specs.Answer.{and_then, no_foreign, read_threads}
use Rattle.grammar.proofs.Theorem.{answer_length, answer_bytes, right_if}
use Rattle.reader.proofs.Lines.{read_ahead}
use Rattle.reader.proofs.read.Goals as goal

pub returns-then-is_empty : goal.returns-then-is_empty
returns-then-is_empty c =
    let wrong : (length c.args.text.now ≡ 0) ⊎ (2048 < length c.args.text.now) =
    elim c.then-is_empty.either [ inl e ↦ inl (eqb-true _ _ (sym c.is_empty.ensures ∙ e)) | inr e ↦ inr (omega (arith, e.1)) ] in
    let value = sym (answer_length c.args.text.now wrong) in
    record { value = value; right = right_if _ _ value }

pub returns-in-Some : goal.returns-in-Some
returns-in-Some c =
    let text : List ℕ = c.args.text.now in
    let some : 0 < length text = omega (arith, eqb-false _ _ (sym c.if-is_empty.ensures)) in
    let value =
    ap (λ (o : Option ℕ). and_then (no_foreign o) (λ _. read_threads text)) c.in-Some.ensures
    ∙ sym (answer_bytes text some (omega arith)) in
    record { value = value; right = right_if _ _ value }

pub returns-in-None : goal.returns-in-None
returns-in-None c =
    let text : List ℕ = c.args.text.now in
    let some : 0 < length text = omega (arith, eqb-false _ _ (sym c.if-is_empty.ensures)) in
    let value =
    c.parts.ensures.value
    ∙ read_ahead text _ _ (ap (λ t. t.now) c.new.ensures.1) c.new.ensures.0 some
    ∙ ap (λ (o : Option ℕ). and_then (no_foreign o) (λ _. read_threads text)) c.in-None.ensures
    ∙ sym (answer_bytes text some (omega arith)) in
    record { value = value; right = right_if _ _ value }
