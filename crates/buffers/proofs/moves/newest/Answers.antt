use Rattle.std.proofs.Common.{◌≡◌, reverse, rules, tests}
use Rattle.std.proofs.lemmas.Iterator.Adapters.{YieldsList-from_rev_slice}
use Rattle.std.proofs.lemmas.Iterator.Search.{find_from_yields_List}
use Rattle.std.specs.List.{find}
use Rattle.std.specs.Option.{option_map}
use Rattle.programs.specs.Entries.{entries}
use Rattle.buffers.specs.Buffers.{goes_to}
use Rattle.buffers.proofs.moves.newest.Goals as goal

pub returns : goal.returns
returns c =
    let found : option_map (λ y. y.now) c.find.result ≡ find (goes_to c.args.location) (reverse (entries c.args.buffer.now)) =
    find_from_yields_List (goes_to c.args.location) _ _ c.find.result c.find.ensures.ran (YieldsList-from_rev_slice (entries c.args.buffer.now) cc) (λ x b q k. search (rules, tests)) in
    search rules
