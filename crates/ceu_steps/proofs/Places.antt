-- What the laws on the code say of a part that is reached.
use Rattle.std.proofs.Common.{◌≡◌, refl, sym, ◌∙◌, ◌≤◌, ℕ, Bool, List, [], ◌∷◌, ◌++◌, append_assoc}
use Rattle.ceu_code.specs.declared.image.Image.{Image}
use Rattle.ceu_tree.specs.declared.kernel.Kernel.{Kernel}
use Rattle.ceu_tree.specs.declared.kernel.KNode.{KNode}
use Rattle.ceu_tree.specs.declared.kernel.KBlock.{KBlock, out-KBlock}
use Rattle.ceu_tree.specs.Leaf.{next_of, rest_of}
use Rattle.ceu_tree.specs.Legal.{finalizers_of}
use Rattle.ceu_tree.specs.Proper.{Scope}
use Rattle.ceu_tree.specs.Residual.{Act, AtEnd, no_instance}
use Rattle.ceu_tree.specs.Focus.{Frame, OfBlock, OfOpen, OfLoop, Focus, Here, In}
use Rattle.laws_meaning_basics.specs.Shape.{Part, ABlock, FrameFits, around_statement, around_end, around_part, around_turn, Around, nothing_around, one_around, none_lives, program_part}
use Rattle.ceu_shape.specs.Plans.{Plan, end_label}
use Rattle.ceu_trail.specs.Built.{at_label, PartBuilt, ListBuilt}
use Rattle.ceu_trail.specs.Compiled.{Compiled}
use Rattle.ceu_trail.specs.Parts.{PartSingle, PartGates, PartStops, BlockOpens}
use Rattle.ceu_trail.specs.Turning.{ActAt}
use Rattle.ceu_steps.specs.Premises.{BuiltLaws}
use Rattle.ceu_steps.specs.Reached.{is_whole, Reached, at_program, at_statement, at_end, in_part, in_turn}

snoc : {K : Kernel} {f : Focus Act} {fr : Frame} {d e g : Part} → Around K 1 Act f d e → FrameFits K 1 fr e g → (x : Focus Act) × Around K 1 Act x d g
snoc {fr = fr} nothing_around y = (In fr (Here AtEnd), one_around y nothing_around)
snoc (one_around {fr = out} z x) y = let h = snoc x y in (In out h.0, one_around z h.1)

-- some focus has its leaf there
pub around_of : {K : Kernel} {outer : List Frame} {d : Part} → Reached K outer d → (f : Focus Act) × Around K 1 Act f (program_part K) d
around_of at_program = (Here AtEnd, nothing_around)
around_of (at_statement done x e pl) = let h = around_of x in snoc h.1 (around_statement done e refl none_lives)
around_of (at_end x pl) = let h = around_of x in snoc h.1 (around_end refl none_lives)
around_of (in_part b x o) = let h = around_of x in snoc h.1 (around_part b o)
around_of (in_turn k b x e n) = let h = around_of x in snoc h.1 (around_turn k b e n)

module _ (laws : BuiltLaws) (image : Image) (P : Plan) (width : ℕ → ℕ) (K : Kernel) (compiled : Compiled image P width K) where
  pub gates_of : {outer : List Frame} {d : Part} → Reached K outer d → (1 ≤ image.gates) × PartSingle d × PartGates image P d
  gates_of {d = d} x = let h = around_of x in laws.gates_are_first image P width K h.0 d compiled h.1

  pub stops_of : {outer : List Frame} {d : Part} → Reached K outer d → PartStops image P width K d
  stops_of {d = d} x = let h = around_of x in laws.stops_are_there image P width K h.0 d compiled h.1

  pub built_of : {outer : List Frame} {d : Part} → Reached K outer d → PartSingle d × PartBuilt image P K (is_whole outer) d
  built_of at_program = laws.program_is_built image P width K compiled
  built_of (at_statement {outer = outer} {turn = turn} {sc = sc} {b = b} {rest = rest} done x e pl) =
      let h = built_of x in laws.frames_are_built image P K 1 (is_whole outer) (OfBlock b (finalizers_of [] done) no_instance rest) _ _ compiled.single (around_statement {turn = turn} {sc = sc} done e refl none_lives) h.0 h.1
  built_of (at_end {outer = outer} {b = b} x pl) = (tt, tt)
  built_of (in_part {outer = outer} {sc = sc} {s = s} b x o) = let h = built_of x in laws.frames_are_built image P K 1 (is_whole outer) (OfOpen s) _ _ compiled.single (around_part {sc = sc} b o) h.0 h.1
  built_of (in_turn {outer = outer} {sc = sc} {s = s} {c = c} k b x e n) = let h = built_of x in laws.frames_are_built image P K 1 (is_whole outer) (OfLoop s c) _ _ compiled.single (around_turn {sc = sc} k b e n) h.0 h.1

  pub opens_of : {outer : List Frame} {turn : Bool} {sc : Scope} {b : KBlock} → Reached K outer (ABlock turn sc b) → BlockOpens image P K (is_whole outer) b
  opens_of {outer = outer} {b = b} x = let h = built_of x in laws.blocks_open image P K (is_whole outer) b h.0 h.1

  -- the next statements of a block, or its end
  pub next_place : (whole : Bool) (b : KBlock) (done list : List KNode) (at : ℕ) (bytes : List ℕ) → BlockOpens image P K whole b → (out-KBlock b).list ≡ done ++ list → ListBuilt image P K whole b list at
      → ActAt image P width K whole (OfBlock b [] no_instance (rest_of list)) (next_of list) at bytes
  next_place whole b done [] at bytes opens e built = built
  next_place whole b done (s ∷ rest) at bytes opens e built = laws.lists_begin image P K whole b s rest at (opens.statement done rest s e).single built

  -- behind a statement
  pub behind_place : {outer : List Frame} {turn : Bool} {sc : Scope} (b : KBlock) (done rest : List KNode) (s : KNode) (bytes : List ℕ) → Reached K outer (ABlock turn sc b) → (out-KBlock b).list ≡ done ++ s ∷ rest
      → ActAt image P width K (is_whole outer) (OfBlock b [] no_instance (rest_of rest)) (next_of rest) (at_label image P K (end_label s.node)) bytes
  behind_place {outer = outer} b done rest s bytes x e =
      let opens = opens_of x in
      next_place (is_whole outer) b (done ++ s ∷ []) rest (at_label image P K (end_label s.node)) bytes opens (e ∙ sym (append_assoc done (s ∷ []) rest)) (opens.statement done rest s e).follows
