-- An event of a code names one of the kernel's.
use Rattle.std.specs.Prelude.{⊤, ℕ, ◌<◌, length, Option, Some, None}
use Rattle.ceu_tree.specs.declared.kernel.Kernel.{Kernel}
use Rattle.ceu_tree.specs.declared.kernel.KEvent.{KEvent}
use Rattle.laws_kernel_shape.specs.Shaped.{AllOf}

abbrev pub CodeBelow : ℕ → Option ℕ → Type 0
CodeBelow n None = ⊤
CodeBelow n (Some c) = c < n

abbrev pub EventBelow : ℕ → KEvent → Type 0
EventBelow n e = CodeBelow n e.code

abbrev pub EventsInCodes : Kernel → Type 0
EventsInCodes K = AllOf (EventBelow (length K.codes)) K.events
