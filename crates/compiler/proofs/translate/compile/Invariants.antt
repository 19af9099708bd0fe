use Rattle.std.proofs.Common.{◌≡◌, map, take}
use Rattle.programs.specs.Entries.{entries}
use Rattle.programs.specs.Parts.{bodies}
use Rattle.compiler.specs.Compiled.{instructions_of, compiled_thread}
use Rattle.compiler.proofs.translate.compile.Given as goal

-- The threads so far have their code.
abbrev pub invariant-loop-thread : goal.invariant-loop-thread
invariant-loop-thread g l =
    map instructions_of (entries l.threads) ≡ map (compiled_thread (g.M.Mapping.meaning l.mapping)) (take l.thread-index (bodies l.program))
