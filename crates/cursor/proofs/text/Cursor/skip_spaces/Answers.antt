use Rattle.std.proofs.Common.{◌≡◌, drop, ap, ◌∙◌}
use Rattle.cursor.proofs.Looking.{spaces, space_words, space_end, space_over}
use Rattle.cursor.proofs.text.Cursor.skip_spaces.Goals as goal

count : (c : goal.After-self-1) → c.spaces.result ≡ spaces (drop c.args.self.now.at c.args.self.now.text.now)
count c = c.spaces.ensures.value ∙ ap spaces c.rest.ensures

pub returns-clause-left : goal.returns-clause-left
returns-clause-left c = rw (count c) (space_words c.args.self.now.text.now c.args.self.now.at)

pub returns-clause-stop : goal.returns-clause-stop
returns-clause-stop c = rw (count c) (space_end c.args.self.now.text.now c.args.self.now.at)

pub returns-clause-after : goal.returns-clause-after
returns-clause-after c = rw (count c) (space_over c.args.self.now.text.now c.args.self.now.at)
