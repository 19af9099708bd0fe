use Rattle.std.proofs.Common.{◌≡◌}
use Rattle.programs.specs.Parts.{body}
use Rattle.compiler.specs.Compiled.{instructions_of, compiled}
use Rattle.compiler.proofs.translate.compile_thread.Given as goal

-- The code of the statements so far.
abbrev pub invariant-loop-place : goal.invariant-loop-place
invariant-loop-place g l =
    instructions_of l.code ≡ compiled (g.M.Mapping.meaning l.mapping (body l.thread)) (body l.thread) l.place
