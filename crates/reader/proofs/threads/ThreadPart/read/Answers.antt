use Rattle.std.proofs.Common.{◌≡◌, map, Ok, Err, Result, sym, refl, ap, ◌∙◌}
use Rattle.std.proofs.lemmas.List.{map-id}
use Rattle.faults.specs.declared.Fault.{Fault}
use Rattle.faults.specs.declared.Fault.TheVariants.{NinthStatement}
use Rattle.programs.specs.Entries.{entries}
use Rattle.programs.specs.Parts.{Thread, body}
use Rattle.grammar.specs.Answer.{read_statement, read_each}
use Rattle.grammar.specs.Texts.{seen}
use Rattle.reader.proofs.Looking.{statements_ahead}
use Rattle.reader.proofs.Lines.{line_over}
use Rattle.reader.proofs.threads.ThreadPart.read.Goals as goal

seen_same : (r : Result Thread Fault) → seen body r ≡ seen (λ list. map (λ s. s) (entries list)) r
seen_same (Ok list) = ap Ok (sym (map-id (entries list)))
seen_same (Err f) = refl

pub returns-clause-value : goal.returns-clause-value
returns-clause-value c =
    seen_same c.parts.result
    ∙ c.parts.ensures.value
    ∙ ap (read_each 8 NinthStatement read_statement) (sym (statements_ahead c.args.cursor.now.text.now c.args.cursor.now.at))

pub returns-clause-ended : goal.returns-clause-ended
returns-clause-ended c = λ ok.
    rw (c.parts.ensures.forward.0, c.parts.ensures.after ok) (line_over c.args.cursor.now.text.now c.args.cursor.now.at, refl, refl)
