use Rattle.std.proofs.Common.{refl}
use Rattle.reader.proofs.Looking.{statement_over, statement_line}
use Rattle.reader.proofs.threads.StatementPart.read.Goals as goal

pub returns-clause-ended : goal.returns-clause-ended
returns-clause-ended c = λ ok.
    let stop = c.statement.ensures.finishes.1 ok in
    let text = c.args.cursor.now.text.now in
    let at = c.args.cursor.now.at in
    rw (c.statement.ensures.forward.0, stop) (statement_over text at, refl, statement_line text at)
