-- How instructions are written.
use Rattle.std.specs.Prelude.{ℕ, List, ◌++◌, codes}
use Rattle.lang.specs.Spelling.{location_name, register_name, operand_text}
use Rattle.compiler.specs.declared.code.Instruction.{Instruction}
use Rattle.compiler.specs.declared.code.Instruction.TheVariants.{Load, Store, LockedStore, Exchange, Add, Fence, PlacedFence}

abbrev pub instruction_text : Instruction → List ℕ
instruction_text (Load p r l) = codes "mov " ++ (register_name r ++ (codes ",[" ++ (location_name l ++ codes "]")))
instruction_text (Store p l v) = codes "mov [" ++ (location_name l ++ (codes "]," ++ operand_text v))
instruction_text (LockedStore p l v) = codes "xchg [" ++ (location_name l ++ (codes "]," ++ operand_text v))
instruction_text (Exchange p r l v) = codes "xchg " ++ (register_name r ++ (codes ",[" ++ (location_name l ++ (codes "]," ++ operand_text v))))
instruction_text (Add p r l v) = codes "lock xadd " ++ (register_name r ++ (codes ",[" ++ (location_name l ++ (codes "]," ++ operand_text v))))
instruction_text (Fence p) = codes "mfence"
instruction_text PlacedFence = codes "mfence"
