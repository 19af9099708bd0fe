use Rattle.std.proofs.Common.{◌≡◌, ◌≤◌, List, map, length, refl, sym, ap, ◌∙◌, subst, arith}
use Rattle.std.proofs.lemmas.List.{length-map, take_all}
use Rattle.std.specs.List.{slice_get}
use Rattle.programs.specs.Entries.{entries}
use Rattle.programs.specs.Parts.{body, bodies}
use Rattle.compiler.specs.declared.code.Instruction.{Instruction}
use Rattle.compiler.specs.Compiled.{instructions_of, compiled_thread}
use Rattle.compiler.specs.Faithful.{Faithful}
use Rattle.compiler.proofs.Faithfulness.{code_of, code_faithful}
use Rattle.compiler.proofs.translate.compile.Goals as goal

pub returns : goal.returns
returns g c =
    let ts = bodies c.args.program.now in
    let f = compiled_thread (g.M.Mapping.meaning c.args.mapping.now) in
    let through : length ts ≤ c.loop-thread.thread-index = omega (arith, length-map (entries c.args.program.now) body, ap length c.as_slice-thread-items.ensures, c.loop-thread-test.false) in
    let value : map instructions_of (entries c.loop-thread.threads) ≡ map f ts = c.loop-thread.invariant ∙ ap (map f) (take_all c.loop-thread.thread-index ts through) in
    record {
      source = refl;
      value = value;
      faithful = λ k t d a b.
          subst (Faithful t) (code_of f ts k t d a (ap (λ (cs : List (List Instruction)). slice_get cs k) (sym value) ∙ b))
          (code_faithful (g.M.Mapping.meaning c.args.mapping.now) (g.met.M.Mapping.fenced c.args.mapping.now) t);
    }
