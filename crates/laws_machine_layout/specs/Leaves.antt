-- What the gate of a leaf says, between two turns: what the leaf waits for, and where its trail goes on.
use Rattle.std.specs.Prelude.{◌≡◌, ℕ, ◌+◌, ◌<◌, ℤ, Bool, true, false, List, [], ◌∷◌, Option, Some, None}
use Rattle.ceu_code.specs.Instructions.{cell}
use Rattle.ceu_mem.specs.declared.gate.Gate.{Gate}
use Rattle.ceu_isa.specs.Layout.{can_run, on_input, on_time, on_event, forever, unserved, served}
use Rattle.ceu_tree.specs.declared.kernel.Loc.{Loc}
use Rattle.ceu_tree.specs.declared.kernel.KNode.{KNode}
use Rattle.ceu_tree.specs.declared.kernel.KBlock.{KBlock, out-KBlock}
use Rattle.ceu_tree.specs.Residual.{Act, Begin, Start, Finish, AtEnd, AtHead, Again, Residual, Over, Run, WaitInput, WaitTime, WaitEvent, WaitForever, InAsync, Block, Open, Loop, Call, Par}
use Rattle.ceu_tree.specs.Leaf.{target}
use Rattle.laws_machine_layout.specs.Tables.{Tables}
use Rattle.laws_machine_layout.specs.Views.{View, Free, Home, Keeps}

-- ---- asyncs: a loop of the body has completed a turn, or the body hasn't begun

abbrev pub turned_at : Tables → (loop : ℕ) → Act → ℕ
turned_at t loop (Begin b) = t.begun (out-KBlock b).node
turned_at t loop Again = t.again loop
turned_at t loop a = 0

-- the code offset at which an async goes on whose body this is left of; `loop` is the loop around it
unfoldable pub async_at : Tables → (loop : ℕ) → Residual → ℕ
async_at t loop (Block b fin all r rest) = async_at t loop r
async_at t loop (Open s r) = async_at t loop r
async_at t loop (Loop s c r) = async_at t s.node r
async_at t loop (Run n a) = turned_at t loop a
async_at t loop r = 0

abbrev pub async_kind : Bool → ℕ
async_kind true = served
async_kind false = unserved

-- ---- leaves

abbrev pub if_taken : Option Loc → (value : ℤ) → Gate → Type 0
if_taken None value gate = Unit {0}
if_taken (Some l) value gate = gate.value ≡ cell value

-- a trail that can run: where it goes on, and with which value, where its statement takes one
abbrev pub RunsGate : Tables → Home → Act → Gate → Type 0
RunsGate t h (Begin b) gate = Keeps h can_run (t.begun (out-KBlock b).node) gate
RunsGate t h (Finish s value) gate = Keeps h can_run (t.resumed s.node) gate × if_taken (target s) value gate
RunsGate t h a gate = ⊥

abbrev pub LeafGate : Tables → Home → Residual → Gate → Type 0
LeafGate t h (Run n a) gate = RunsGate t h a gate × (gate.level ≡ n)
LeafGate t h (WaitInput k s) gate = Keeps h on_input (t.resumed s.node) gate × (gate.key ≡ k)
LeafGate t h (WaitTime left s) gate = Keeps h on_time (t.resumed s.node) gate × (gate.value ≡ left)
LeafGate t h (WaitEvent e s) gate = Keeps h on_event (t.resumed s.node) gate × (gate.key ≡ t.event e)
LeafGate t h (WaitForever s) gate = Keeps h forever (t.resumed s.node) gate
LeafGate t h (InAsync s is_served r) gate = Keeps h (async_kind is_served) (async_at t 0 r) gate
LeafGate t h r gate = ⊥

-- the statement or block at which a trail can run or waits
abbrev pub act_node : Act → ℕ
act_node (Begin b) = (out-KBlock b).node
act_node (Finish s value) = s.node
act_node a = 0

abbrev pub leaf_node : Residual → ℕ
leaf_node (Run n a) = act_node a
leaf_node (WaitInput k s) = s.node
leaf_node (WaitTime left s) = s.node
leaf_node (WaitEvent e s) = s.node
leaf_node (WaitForever s) = s.node
leaf_node (InAsync s is_served r) = s.node
leaf_node r = 0

-- A leaf has the first gate of its statement or block, and the other gates there are free.
pub record LeafStands (t : Tables) (v : View) (h : Home) (r : Residual) (low high : ℕ) : Type 0 where
  pub some_gate : low < high
  pub first_is : h.base + t.first (leaf_node r) ≡ low
  pub gate_is : LeafGate t h r (v.gate low)
  pub others : Free v (low + 1) high
