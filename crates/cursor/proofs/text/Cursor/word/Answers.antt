use Rattle.std.proofs.Common.{◌≡◌, ℕ, List, [], length, take, drop, sym, refl, ap, ◌∙◌, arith, Bor}
use Rattle.std.specs.List.{before_first}
use Rattle.std.proofs.lemmas.List.Folds.{length-prefix_len}
use Rattle.cursor.specs.Sight.{ends_word, ends_statement}
use Rattle.cursor.proofs.Looking.{word_length, word_words, word_end, over, over_words, over_end}
use Rattle.cursor.proofs.text.Cursor.word.Goals as goal
use Rattle.cursor.proofs.text.Cursor.word.Goals.{After-word_length-length}

rest : (c : After-word_length-length) → c.rest-rest.result.now ≡ drop c.skip_spaces.new.self.at c.args.self.now.text.now
rest c = c.rest-rest.ensures ∙ ap (λ (t : Bor (List ℕ)). drop c.skip_spaces.new.self.at t.now) c.skip_spaces.ensures.forward.0

far : (c : After-word_length-length) → c.word_length-length.result ≡ word_length c.args.self.now.text.now c.skip_spaces.new.self.at
far c = c.word_length-length.ensures ∙ ap (λ bs. length (before_first ends_word bs)) (rest c)

pub returns-then-length-eq0-clause-cases : goal.returns-then-length-eq0-clause-cases
returns-then-length-eq0-clause-cases c =
    let text : List ℕ = c.args.self.now.text.now in
    let here : ℕ = c.skip_spaces.new.self.at in
    let ended : before_first ends_statement (drop here text) ≡ [] =
    over (drop here text) (omega (arith, far (goal.at.returns-then-length-eq0-clause-cases c).After-word_length-length)) c.skip_spaces.ensures.after in
    (sym c.skip_spaces.ensures.left ∙ over_words text here ended, refl, over_end text here ended ∙ c.skip_spaces.ensures.stop)

pub returns-clause-cases : goal.returns-clause-cases
returns-clause-cases c =
    let text : List ℕ = c.args.self.now.text.now in
    let here : ℕ = c.skip_spaces.new.self.at in
    let far = far (goal.at.returns-clause-cases c).After-word_length-length in
    let rest = rest (goal.at.returns-clause-cases c).After-word_length-length in
    let bytes : take c.word_length-length.result c.rest-rest.result.now ≡ before_first ends_word (drop here text) =
    rw (far, rest) (ap (λ n. take n (drop here text)) (length-prefix_len _ (drop here text))) in (
      rw (bytes, far) (sym c.skip_spaces.ensures.left ∙ word_words text here (omega arith)),
      rw (far) (word_end text here ∙ c.skip_spaces.ensures.stop),
    )
