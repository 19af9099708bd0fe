use Rattle.std.proofs.Common.{◌≡◌, ◌-◌, ◌∷◌, map, length}
use Rattle.programs.specs.Entries.{entries}
use Rattle.grammar.specs.Answer.{read_each}
use Rattle.cursor.specs.Sight.{Advances}
use Rattle.reader.proofs.Growing.{reading}
use Rattle.reader.proofs.threads.parts.Given as goal

-- Reading on from here answers what it was to answer when the first part began.
abbrev pub invariant-loop-cursor : goal.invariant-loop-cursor
invariant-loop-cursor g l = record {
  forward : Advances l.fn.cursor l.cursor;
  value : reading g.T.Part.over g.T.Part.reads g.row.MOST (map g.T.Part.view (entries l.parts)) (g.T.Part.after l.cursor) ≡ read_each g.row.MOST g.T.Part.over g.T.Part.reads (g.T.Part.here l.fn.cursor ∷ g.T.Part.rest l.fn.cursor);
  ended : g.T.Part.Ended l.cursor;
  stop : g.T.Part.stop l.cursor ≡ g.T.Part.stop l.fn.cursor;
}

abbrev pub decreases-loop-cursor : goal.decreases-loop-cursor
decreases-loop-cursor g l = length l.cursor.text.now - l.cursor.at
