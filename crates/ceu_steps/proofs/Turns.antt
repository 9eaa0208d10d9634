-- What is known of a turn whose leaf is a statement that begins.
use Rattle.std.proofs.Common.{◌≡◌, refl, sym, ap, subst, ◌<◌, ◌≤◌, ℕ, Bool, true, List, [], ◌∷◌, ◌++◌, arith}
use Rattle.ceu_base.specs.declared.kinds.Fault.{Fault}
use Rattle.ceu_base.specs.declared.kinds.Pos.{Pos}
use Rattle.ceu_code.specs.declared.image.Image.{Image}
use Rattle.ceu_isa.specs.Turns.{Machine, Trail}
use Rattle.ceu_tree.specs.declared.kernel.Kernel.{Kernel}
use Rattle.ceu_tree.specs.declared.kernel.KExp.{KExp}
use Rattle.ceu_tree.specs.declared.kernel.KNode.{KNode}
use Rattle.ceu_tree.specs.declared.kernel.KBlock.{KBlock, out-KBlock}
use Rattle.ceu_tree.specs.declared.kernel.KStmt.{out-KStmt}
use Rattle.ceu_tree.specs.Depth.{stmt_depth, exp_depth, depth}
use Rattle.ceu_tree.specs.Leaf as does
use Rattle.ceu_tree.specs.Leaf.{acted}
use Rattle.ceu_tree.specs.Legal.{finalizers_of}
use Rattle.ceu_tree.specs.Numbering.{stmt_slots, stmt_nodes}
use Rattle.ceu_tree.specs.Proper.{Scope, reads, asks}
use Rattle.ceu_tree.specs.Residual.{Program, Act, Start, no_instance}
use Rattle.ceu_tree.specs.Focus.{Frame, OfBlock, Here}
use Rattle.ceu_tree.specs.Around.{Moved}
use Rattle.ceu_tree.specs.Step.{stepped}
use Rattle.ceu_tree.specs.Typing.{typed}
use Rattle.ceu_tree.specs.World.{World}
use Rattle.laws_meaning_basics.specs.Shape.{Part, ABlock, AStatement, block_scope}
use Rattle.laws_meaning_basics.proofs.Static.{names_of, StmtOk}
use Rattle.ceu_shape.specs.Plans.{Plan}
use Rattle.ceu_shape.specs.Shape.{shape}
use Rattle.laws_machine_layout.specs.Views.{View}
use Rattle.laws_machine_layout.specs.Tables.{Tables}
use Rattle.laws_meaning_values.specs.Ready.{layer_has, exp_has}
use Rattle.laws_machine_code.specs.Seen.{NodePlaced}
use Rattle.ceu_trail.specs.Built.{number}
use Rattle.ceu_trail.specs.Compiled.{Compiled}
use Rattle.ceu_trail.specs.Coming.{Comes}
use Rattle.ceu_trail.specs.Parts.{PartSingle, AmongBuilt, GatesAt, StopsAt}
use Rattle.ceu_trail.specs.Turning.{MemoryHolds}
use Rattle.ceu_trail.specs.Within.{ValuesWithin}
use Rattle.ceu_steps.specs.Running.{trail_at}
use Rattle.ceu_steps.specs.Ready.{Ready, Breaks}
use Rattle.ceu_steps.specs.Premises.{BuiltLaws, LayerPlaced}
use Rattle.ceu_steps.specs.Reached.{wrap, is_whole, Reached, at_statement}
use Rattle.ceu_steps.specs.Live.{vars_in, Live}
use Rattle.ceu_steps.proofs.Frames.{AllCount, fails_is}
use Rattle.ceu_steps.proofs.Places.{built_of, gates_of, stops_of, opens_of}
use Rattle.ceu_steps.proofs.Comes.{StandsIn, comes_to_fault}
use Rattle.ceu_steps.proofs.Deep.{below_of, some_cell}
use Rattle.ceu_steps.proofs.Live.{lifted_of}
use Rattle.ceu_steps.proofs.Scenes.{Scene, scene_of}
use Rattle.ceu_steps.proofs.Seeing.{ready}
use Rattle.ceu_steps.proofs.Unseen.{SameNumbers, frame_stays}

-- ---- the image of a program

pub record Sizes (image : Image) (P : Plan) (K : Kernel) : Type 0 where
  pub slots_is : image.slots ≡ P.total
  pub depth_is : image.depth ≡ depth K
  pub outputs_is : image.outputs ≡ K.outputs

pub sizes_of : (image : Image) (P : Plan) (width : ℕ → ℕ) (K : Kernel) → Compiled image P width K → Sizes image P K
unfolding shape
sizes_of image P width K c = record {
  slots_is = ap (λ (i : Image). i.slots) c.shaped.3;
  depth_is = ap (λ (i : Image). i.depth) c.shaped.3;
  outputs_is = ap (λ (i : Image). i.outputs) c.shaped.3;
}

-- counters stay where nothing of the slots is changed
pub counts_stay : (t : Tables) (image : Image) (v u : View) (outer : List Frame) → SameNumbers v u → AllCount t image v outer → AllCount t image u outer
counts_stay t image v u [] s c = tt
counts_stay t image v u (fr ∷ outer) s c = (frame_stays t image v u fr s c.0, counts_stay t image v u outer s c.1)

-- a statement of a block that is reached
pub record Standing (K : Kernel) (outer : List Frame) (turn : Bool) (sc : Scope) (b : KBlock) (done rest : List KNode) (s : KNode) : Type 0 where
  pub block : Reached K outer (ABlock turn sc b)
  pub is : (out-KBlock b).list ≡ done ++ s ∷ rest
  pub plain : finalizers_of [] done ≡ []

-- a statement of a block, which begins
pub record AtStart (image : Image) (P : Plan) (width : ℕ → ℕ) (K : Kernel) (outer : List Frame) (turn : Bool) (sc : Scope) (b : KBlock) (done rest : List KNode) (s : KNode) (w : World) (at : ℕ) (m : Machine) : Type 0 where
  pub spot : Standing K outer turn sc b done rest s
  pub stands : StandsIn image P width K outer (OfBlock b [] no_instance rest) (Start s) w at m.bytes
  pub held : ValuesWithin (vars_in (OfBlock b [] no_instance rest ∷ outer)) w
  pub has : layer_has Program w (out-KStmt s.stmt) ≡ true

module _ (laws : BuiltLaws) (image : Image) (P : Plan) (width : ℕ → ℕ) (K : Kernel) (compiled : Compiled image P width K) where
  pub single_of : (outer : List Frame) (d : Part) → Reached K outer d → PartSingle d
  single_of outer d x = (built_of laws image P width K compiled x).0

  -- a fault of the act
  pub fault_comes : {outer : List Frame} {d : Part} (a : Act) (w : World) (m : Machine) (at n : ℕ) (e : Fault × Pos) → n ≤ 1000000 → Reached K outer d → acted K 0 Program a w ≡ does.done (does.Fails e) w → Breaks image n (Trail (trail_at image at 0) m) m e
      → let v = stepped K 0 Program (wrap outer (Here a)) w in Comes image P width K w (trail_at image at 0) m v.outcome v.world
  fault_comes {outer = outer} a w m at n e le x d y =
      subst (λ (v : Moved). Comes image P width K w (trail_at image at 0) m v.outcome v.world) (sym (fails_is a w w e x d)) (comes_to_fault image P width K w w m (trail_at image at 0) e n le refl y)

  module _ {outer : List Frame} {turn : Bool} {sc : Scope} {b : KBlock} {done rest : List KNode} {s : KNode} (h : Standing K outer turn sc b done rest s) where
    pub reached : Reached K (OfBlock b [] no_instance rest ∷ outer) (AStatement (block_scope sc b) s)
    reached = at_statement done h.block h.is h.plain

    pub among : AmongBuilt image P K (is_whole outer) b s rest
    among = (opens_of laws image P width K compiled h.block).statement done rest s h.is

    pub gates : GatesAt image P s.node
    gates = (gates_of laws image P width K compiled reached).2

    pub some_gate : 1 ≤ image.gates
    some_gate = (gates_of laws image P width K compiled reached).0

    pub stops : StopsAt image P width K s
    stops = stops_of laws image P width K compiled reached

    pub scene : Scene (OfBlock b [] no_instance rest ∷ outer) (block_scope sc b) (stmt_slots s.stmt) (s.node ∷ stmt_nodes s.stmt)
    scene = (scene_of K compiled.proper single_of reached).0

    pub fine : StmtOk K (names_of K) (block_scope sc b) s
    fine = (scene_of K compiled.proper single_of reached).1

    pub live : Live P.offset width P.frame P.total (OfBlock b [] no_instance rest ∷ outer)
    live = (lifted_of P.offset width P.frame P.total K compiled.slots reached).live

    pub deep : stmt_depth s.stmt ≤ image.depth
    deep = let a = below_of reached in let e = (sizes_of image P width K compiled).depth_is in omega arith

    pub cells : 0 < image.depth
    cells = let a = some_cell K in let e = (sizes_of image P width K compiled).depth_is in omega arith

    pub positions : LayerPlaced image (number image P K) s.pos (out-KStmt s.stmt)
    positions = laws.positions_are_placed image P width K (OfBlock b [] no_instance rest ∷ outer) (block_scope sc b) s compiled reached

    pub is_ready : (w : World) (bytes : List ℕ) (e : KExp) → ValuesWithin (vars_in (OfBlock b [] no_instance rest ∷ outer)) w → MemoryHolds image P width K w bytes → typed (reads K (block_scope sc b)) (asks K (block_scope sc b)) e ≡ true
        → exp_has Program w e ≡ true → exp_depth e ≤ image.depth → NodePlaced image (number image P K) e.node e.pos → Ready image P K w bytes e
    is_ready w bytes e held holds may has few placed =
        ready image P width K (sizes_of image P width K compiled).slots_is (OfBlock b [] no_instance rest ∷ outer) (block_scope sc b) (stmt_slots s.stmt) (s.node ∷ stmt_nodes s.stmt) scene live w bytes held holds e may has few placed
