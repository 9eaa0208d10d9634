-- What one instruction does to the memory, the registers and the marks.
use Rattle.std.specs.Prelude.{ℕ, Bool, true, false, List, Option, Some, None}
use Rattle.ceu_base.specs.declared.kinds.Fault.{Fault}
use Rattle.ceu_base.specs.declared.kinds.Pos.{Pos}
use Rattle.ceu_base.specs.declared.kinds.Mark.{Mark}
use Rattle.ceu_isa.specs.declared.registers.Registers.{Registers}

-- what follows an abort
pub data After : Type 0 where
  GoesOn : After
  Frees : (place : ℕ) → After  -- a place of a pool becomes free, and the trail goes on
  Fails : Fault → Pos → After  -- the program has faulted

pub data Effect : Type 0 where
  Wrong : Effect  -- the instruction isn't allowed there
  Goes : Registers → (bytes : List ℕ) → (marks : List Mark) → Effect  -- the trail goes on
  Pauses : (bytes : List ℕ) → (marks : List Mark) → Effect  -- the turn ends
  Finishes : (bytes : List ℕ) → Effect  -- the program ends
  Faults : Fault → Pos → Effect
  Aborts : (from count : ℕ) → After → Effect  -- so many gates from one on are aborted first
  Leaves : Effect  -- a finalizer ends

-- the effect, where a test holds
abbrev pub provided : Bool → Effect → Effect
provided true e = e
provided false e = Wrong

-- the effect that there is for a thing, where there is the thing
abbrev pub for_some : {X : Type 0} → Option X → (X → Effect) → Effect
for_some None f = Wrong
for_some (Some x) f = f x
