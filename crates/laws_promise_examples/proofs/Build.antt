-- The plan of a kernel in the overlapped layout, and what it is computed with.
use Rattle.std.proofs.Common.{ℕ, List, false}
use Rattle.ceu_tree.specs.declared.kernel.Kernel.{Kernel}
use Rattle.ceu_tree.specs.declared.command.Command.{Command}
use Rattle.ceu_tree.specs.Needs.{slots, stmt_need}
use Rattle.ceu_tree.proofs.Build as tree
use Rattle.ceu_code.specs.declared.image.Image.{Image}
use Rattle.ceu_slots.specs.Layout.{stmt_places, places, offset_of, frame_of_code, total_of}
use Rattle.ceu_gates.specs.Ranges.{stmt_ranges, ranges, first_gate, gate_count}
use Rattle.ceu_isa.specs.Commands as isa
use Rattle.ceu_isa.specs.Reactions.{Config}
use Rattle.ceu_isa.proofs.Build as machine_words
use Rattle.ceu_shape.specs.Plans.{Plan}
use Rattle.ceu_shape.proofs.Build.{coded}

unfoldable pub planned : Kernel → Plan
planned K = record { offset = offset_of false K; frame = frame_of_code false K; total = total_of false K; first = first_gate K; count = gate_count K }

-- the run of an image
abbrev pub machine : Image → List Command → Config
machine image commands = isa.run image commands

-- what both runs are computed with
unfoldable pub both_run : ℕ
unfolding slots stmt_need stmt_places places offset_of stmt_ranges ranges first_gate gate_count planned coded tree.computed machine_words.computed
both_run = 0
