-- Which loops break a rule on bounds, and which place comes first (this project's own).
use Rattle.std.specs.Prelude.{◌≡◌, ℕ, ◌<◌, ◌≤◌, Bool, true, ◌||◌, List, [], ◌++◌, map, Option, Some, None, ◌⊎◌}
use Rattle.std.specs.List.{Contains, list_any}
use Rattle.ceu_base.specs.declared.kinds.Pos.{Pos}
use Rattle.ceu_base.specs.declared.kinds.Rule.{Rule}
use Rattle.ceu_base.specs.declared.kinds.Rule.TheVariants.{B1, B2, B3, B4}
use Rattle.ceu_base.specs.declared.kinds.CheckError.{CheckError}
use Rattle.ceu_base.specs.declared.kinds.CheckError.TheVariants.{Refused, Memory}
use Rattle.ceu_tree.specs.declared.kernel.KCode.{KCode}
use Rattle.ceu_tree.specs.declared.kernel.Kernel.{Kernel}
use Rattle.ceu_tree.specs.Paths.{has_end, is_continue, constant_bound, quick_block, passes_from}
use Rattle.ceu_tree.specs.Costs.{paced, bounds}
use Rattle.ceu_paths.specs.Joined.{joined}
use Rattle.ceu_paths.specs.Loops.{TrailLoop, block_loops}
use Rattle.ceu_paths.specs.Emits.{block_emits}
use Rattle.ceu_bound.specs.declared.bounds.Bounds.{Bounds}
use Rattle.ceu_bound.specs.declared.graph.Arrow.{Arrow}
use Rattle.ceu_bound.specs.Graph.{arrow, Path}

-- the loops of the program's body and of each code's
abbrev pub code_loops : KCode → List TrailLoop
code_loops c = block_loops c.body

abbrev pub all_loops : Kernel → List TrailLoop
all_loops K = block_loops K.body ++ joined code_loops K.codes

-- from the event that paces a loop to each event that the loop emits
abbrev pub arrows_from : Option ℕ → List ℕ → List Arrow
arrows_from None fs = []
arrows_from (Some e) fs = map (arrow e) fs

abbrev pub loop_arrows : TrailLoop → List Arrow
loop_arrows l = arrows_from (paced l.kind l.body) (block_emits l.body)

abbrev pub arrows : Kernel → List Arrow
arrows K = joined loop_arrows (all_loops K)

-- whether a loop's next turn may begin at once
abbrev pub goes_round : List Bool → TrailLoop → Bool
goes_round passing l = has_end (quick_block passing l.body) || list_any (is_continue l.node) (quick_block passing l.body)

-- The rules that a loop breaks, where `passing` says which codes may go on at once. B1: it has no constant bound, isn't paced, and its next
-- turn may begin at once. B2: it is paced by an event, and one of its arrows lies on a cycle. B3: its constant bound is over 65,536 turns.
abbrev pub LoopBreaks : List Bool → List Arrow → TrailLoop → Rule → Type 0
LoopBreaks passing graph l B1 = (constant_bound l.kind ≡ None) × (paced l.kind l.body ≡ None) × (goes_round passing l ≡ true)
LoopBreaks passing graph l B2 = (e : ℕ) × (paced l.kind l.body ≡ Some e) × (f : ℕ) × Contains (block_emits l.body) f × Path graph f e
LoopBreaks passing graph l B3 = (n : ℕ) × (constant_bound l.kind ≡ Some n) × (65536 < n)
LoopBreaks passing graph l _ = ⊥

-- a rule that the program breaks at a place
pub record Breaks (K : Kernel) (r : Rule) (p : Pos) : Type 0 where
  pub loop : TrailLoop
  pub within : Contains (all_loops K) loop
  pub place : loop.pos ≡ p
  pub broken : LoopBreaks (passes_from [] K.codes) (arrows K) loop r

abbrev pub rank : Rule → ℕ
rank B1 = 1
rank B2 = 2
rank B3 = 3
rank _ = 0

-- by line, then by column, then by the rule's number
pub record NotAfter (p : Pos) (r : Rule) (q : Pos) (s : Rule) : Type 0 where
  pub line : p.line ≤ q.line
  pub col : p.line ≡ q.line → p.col ≤ q.col
  pub number : p.line ≡ q.line → p.col ≡ q.col → rank r ≤ rank s

pub record IsFirstBreak (K : Kernel) (r : Rule) (p : Pos) : Type 0 where
  pub breaks : Breaks K r p
  pub first : (s : Rule) (q : Pos) → Breaks K s q → NotAfter p r q s

abbrev pub KeepsLoopRules : Kernel → Type 0
KeepsLoopRules K = (r : Rule) (p : Pos) → Breaks K r p → ⊥

abbrev pub at_start : Pos
at_start = record { line = 1; col = 1 }

-- B4 stands at the start of the text, and is looked at only where no loop breaks a rule
pub record IsTooMuch (K : Kernel) : Type 0 where
  pub keeps : KeepsLoopRules K
  pub over : (4294967295 < (bounds K).turns) ⊎ (65535 < (bounds K).opens)

abbrev pub IsBoundRefusal : Kernel → CheckError → Type 0
IsBoundRefusal K Memory = Unit {0}
IsBoundRefusal K (Refused r p) = IsFirstBreak K r p ⊎ ((r ≡ B4) × (p ≡ at_start) × IsTooMuch K)

pub record AreBounds (K : Kernel) (b : Bounds) : Type 0 where
  pub keeps : KeepsLoopRules K
  pub turns : b.turns ≡ (bounds K).turns
  pub levels : b.levels ≡ (bounds K).opens
