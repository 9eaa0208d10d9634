-- Changes of the leaves of a tree that a change of the gates stands for: an input, the clock, a new round of asyncs, an event.
use Rattle.std.specs.Prelude.{◌≡◌, ℕ, ℤ, Bool, if◌then◌else◌}
use Rattle.ceu_mem.specs.declared.gate.Gate.{Gate}
use Rattle.ceu_mem.specs.Memory.{IsGate}
use Rattle.ceu_isa.specs.Layout.{free, forever, finalizer}
use Rattle.ceu_tree.specs.Residual.{Body, Residual, InAsync}
use Rattle.laws_machine_layout.specs.Tables.{Tables}
use Rattle.laws_machine_layout.specs.Views.{View, Home}
use Rattle.laws_machine_layout.specs.Leaves.{LeafGate, leaf_node}
use Rattle.laws_machine_layout.specs.Stands.{Parked}

-- a gate that passes a test, with what f makes of it
abbrev pub changed : (Gate → Bool) → (Gate → Gate) → Gate → Gate
changed test f gate = if test gate then f gate else gate

-- the counters of an async's loops
abbrev pub ParkedLeaf : Tables → (Body → Home) → View → Residual → Body → Type 0
ParkedLeaf t home v (InAsync s served r) body = Parked t home v r body
ParkedLeaf t home v r body = Unit {0}

-- What a leaf becomes stands where the leaf stood, once its gate is changed; gates without a leaf stay.
pub record Belong (t : Tables) (f : Residual → Residual) (g : Gate → Gate) : Type 0 where
  pub free_stays : (gate : Gate) → gate.kind ≡ free → g gate ≡ gate
  pub finalizer_stays : (gate : Gate) → gate.kind ≡ finalizer → g gate ≡ gate
  pub forever_stays : (gate : Gate) → gate.kind ≡ forever → g gate ≡ gate
  pub node_stays : (h : Home) (r : Residual) (gate : Gate) → LeafGate t h r gate → leaf_node (f r) ≡ leaf_node r
  pub gate_follows : (h : Home) (r : Residual) (gate : Gate) → LeafGate t h r gate → LeafGate t h (f r) (g gate)
  pub parked_follows : (home : Body → Home) (v : View) (r : Residual) (body : Body) → ParkedLeaf t home v r body → ParkedLeaf t home v (f r) body
