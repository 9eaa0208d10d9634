-- How a part of a program of one trail is reached: the frames around it, the innermost first.
use Rattle.std.specs.Prelude.{◌≡◌, Bool, true, false, List, [], ◌∷◌, ◌++◌}
use Rattle.ceu_tree.specs.declared.kernel.Kernel.{Kernel}
use Rattle.ceu_tree.specs.declared.kernel.KLoop.{KLoop}
use Rattle.ceu_tree.specs.declared.kernel.KNode.{KNode}
use Rattle.ceu_tree.specs.declared.kernel.KBlock.{KBlock, out-KBlock}
use Rattle.ceu_tree.specs.declared.kernel.KStmt.{out-KStmt}
use Rattle.ceu_tree.specs.declared.kernel.KStmt.TheOpen.{KStmt-F}
use Rattle.ceu_tree.specs.Residual.{Counter, Residual, no_instance}
use Rattle.ceu_tree.specs.Focus.{Frame, OfBlock, OfOpen, OfLoop, Focus, In, fill}
use Rattle.ceu_tree.specs.Legal.{finalizers_of}
use Rattle.ceu_tree.specs.Proper.{Scope}
use Rattle.laws_meaning_basics.specs.Shape.{Part, ABlock, AStatement, AnEnd, block_scope, part_scope, turn_scope, program_part, opens_part, counts}

-- a focus inside these frames
abbrev pub wrap : {A : Type 0} → List Frame → Focus A → Focus A
wrap [] f = f
wrap (fr ∷ outer) f = wrap outer (In fr f)

-- what is left of the whole
abbrev pub filled : List Frame → Residual → Residual
filled [] q = q
filled (fr ∷ outer) q = filled outer (fill fr q)

-- whether these are all frames around the whole program's body, which has none
abbrev pub is_whole : List Frame → Bool
is_whole [] = true
is_whole (fr ∷ outer) = false

pub data Reached (K : Kernel) : List Frame → Part → Type 0 where
  at_program : Reached K [] (program_part K)
  at_statement : {outer : List Frame} {turn : Bool} {sc : Scope} {b : KBlock} {s : KNode} {rest : List KNode} (done : List KNode)
      → Reached K outer (ABlock turn sc b) → (out-KBlock b).list ≡ done ++ s ∷ rest → finalizers_of [] done ≡ [] → Reached K (OfBlock b [] no_instance rest ∷ outer) (AStatement (block_scope sc b) s)
  at_end : {outer : List Frame} {turn : Bool} {sc : Scope} {b : KBlock} → Reached K outer (ABlock turn sc b) → finalizers_of [] (out-KBlock b).list ≡ [] → Reached K (OfBlock b [] no_instance [] ∷ outer) AnEnd
  in_part : {outer : List Frame} {sc : Scope} {s : KNode} (b : KBlock) → Reached K outer (AStatement sc s) → opens_part (out-KStmt s.stmt) b
      → Reached K (OfOpen s ∷ outer) (ABlock false (part_scope K sc s.node (out-KStmt s.stmt)) b)
  in_turn : {outer : List Frame} {sc : Scope} {s : KNode} {c : Counter} (k : KLoop) (b : KBlock) → Reached K outer (AStatement sc s) → out-KStmt s.stmt ≡ KStmt-F.Loop k b → counts k c ≡ true
      → Reached K (OfLoop s c ∷ outer) (ABlock true (turn_scope K sc s.node k) b)
