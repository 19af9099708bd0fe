-- What each fault answers: its number, the pass that refuses and the place.
use Rattle.std.specs.Prelude.{ℕ, List, ◌++◌, codes, decimal}
use Rattle.faults.specs.declared.Fault.{Fault}
use Rattle.faults.specs.declared.Fault.TheVariants.{TextLength, ForeignByte, FifthLine, NinthStatement, WrongWord, WrongMode, LargeNumber, NoThread, NothingLeft, StoresPending, NoStorePending, NoWrite, Unfinished, TableFull, ListFull, ReportFull}
use Rattle.faults.specs.declared.Side.{Side}
use Rattle.faults.specs.declared.Side.TheVariants.{Machine, Draft}
use Rattle.faults.specs.declared.Search.{Search}
use Rattle.faults.specs.declared.Search.TheVariants.{Shown, Allowed}

pub record Refusal : Type 0 where
  pub number : ℕ
  pub pass : ℕ
  pub place : ℕ

abbrev refuses : ℕ → ℕ → ℕ → Refusal
refuses n p q = record { number = n; pass = p; place = q }

-- Pass 1 reads the bytes, 2 the statements, 3 (compiling) never refuses, 4 is the machine, 5 a draft, 6 a search, 7 a report.
abbrev pub side_pass : Side → ℕ
side_pass Machine = 4
side_pass Draft = 5

abbrev pub search_place : Search → ℕ
search_place Shown = 1
search_place Allowed = 2

abbrev pub refusal : Fault → Refusal
refusal TextLength = refuses 1 1 0
refusal (ForeignByte offset) = refuses 2 1 offset
refusal (FifthLine offset) = refuses 3 2 offset
refusal (NinthStatement offset) = refuses 4 2 offset
refusal (WrongWord offset) = refuses 5 2 offset
refusal (WrongMode offset) = refuses 6 2 offset
refusal (LargeNumber offset) = refuses 7 2 offset
refusal (NoThread side thread) = refuses 8 (side_pass side) thread
refusal (NothingLeft side thread) = refuses 9 (side_pass side) thread
refusal (StoresPending thread) = refuses 10 4 thread
refusal (NoStorePending thread) = refuses 11 4 thread
refusal (NoWrite thread) = refuses 12 5 thread
refusal (Unfinished side thread) = refuses 13 (side_pass side) thread
refusal (TableFull of) = refuses 14 6 (search_place of)
refusal (ListFull of) = refuses 15 6 (search_place of)
refusal (ReportFull lines) = refuses 16 7 lines

-- The line that is printed: `refused N pass P place Q`.
abbrev pub refusal_line : Fault → List ℕ
refusal_line f = codes "refused " ++ (decimal (refusal f).number ++ (codes " pass " ++ (decimal (refusal f).pass ++ (codes " place " ++ decimal (refusal f).place))))
