-- Small words to write an image down, and what its runs are computed with.
use Rattle.std.proofs.Common.{ℕ, ℤ, Bool, true, false, List}
use Rattle.std.specs.List.{filter}
use Rattle.ceu_base.specs.declared.kinds.Ty.{Ty}
use Rattle.ceu_base.specs.declared.kinds.Pos.{Pos}
use Rattle.ceu_base.specs.declared.kinds.Port.{Port}
use Rattle.ceu_base.specs.declared.kinds.Fault.{Fault}
use Rattle.ceu_base.specs.declared.kinds.Mark.{Mark}
use Rattle.ceu_base.specs.declared.kinds.Mark.TheVariants.{Output}
use Rattle.ceu_code.specs.declared.image.Image.{Image}
use Rattle.ceu_code.specs.declared.image.CodeRow.{CodeRow}
use Rattle.ceu_mem.specs.Bytes.{number_at, with_number}
use Rattle.ceu_isa.specs.Layout.{gate_of, gate_put, each_gate, gates_from}
use Rattle.ceu_isa.specs.Cells.{popped, pushed}
use Rattle.ceu_isa.specs.Fetching.{readers, read_by, decoded, fetched}
use Rattle.ceu_isa.specs.Trails.{opened, woken}
use Rattle.ceu_isa.specs.Pools.{spawn_at, linked, alias_set, vacant, seated, instance_begun, life_of, filled, vacancies, free_place, some_taken}
use Rattle.ceu_isa.specs.Rows.{effect}
use Rattle.ceu_isa.specs.Order.{chain_in, before, found}
use Rattle.ceu_isa.specs.Turns.{tick, ticks, longest_turn}
use Rattle.ceu_isa.specs.Reactions.{Config, Lost, Waits, HasEnded, HasFaulted, next_turn, reaction}
use Rattle.ceu_isa.specs.Commands.{advanced, idle_turns, done, all_done, run, marks_of}

abbrev pub at : ℕ → ℕ → Pos
at l c = record { line = l; col = c }

abbrev pub port : Ty → List ℕ → Port
port t name = record { ty = t; name = name }

abbrev pub row : (entry frame gates : ℕ) → List Ty → CodeRow
row entry frame gates params = record { entry = entry; frame = frame; gates = gates; params = params }

abbrev pub image : (turns levels depth gates slots : ℕ) → List Port → List Port → List CodeRow → List ℕ → List Pos → List ℕ → Image
image turns levels depth gates slots inputs outputs codes pools places code = record {
  turns = turns;
  levels = levels;
  depth = depth;
  gates = gates;
  slots = slots;
  inputs = inputs;
  outputs = outputs;
  codes = codes;
  pools = pools;
  places = places;
  code = code;
}

-- how a run ended
pub data Ending : Type 0 where
  Never : Ending
  Still : Ending
  With : ℤ → Ending
  By : Fault → Pos → Ending

abbrev pub ending : Config → Ending
ending Lost = Never
ending (Waits m) = Still
ending (HasEnded v m) = With v
ending (HasFaulted f p m) = By f p

-- the marks and the ending
abbrev pub shown : Config → List Mark × Ending
shown c = (marks_of c, ending c)

abbrev is_output : Mark → Bool
is_output (Output k v) = true
is_output _ = false

abbrev pub outputs : Config → List Mark × Ending
outputs c = (filter is_output (marks_of c), ending c)

-- what computes
unfoldable pub computed : ℕ
unfolding spawn_at opened woken popped pushed gate_of gate_put linked alias_set vacant seated instance_begun life_of number_at with_number each_gate gates_from readers read_by decoded fetched filled vacancies free_place some_taken effect chain_in before found tick ticks longest_turn next_turn reaction advanced idle_turns done all_done run
computed = 0
