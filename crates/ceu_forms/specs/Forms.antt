-- Which programs run: those of one trail, with small ports. Of every other one the first statement whose form doesn't run, in pre-order.
use Rattle.std.specs.Prelude.{nat_le, Bool, ◌&&◌, if◌then◌else◌, List, [], ◌∷◌, length, Option, Some, None}
use Rattle.ceu_base.specs.declared.kinds.Pos.{Pos}
use Rattle.ceu_single.specs.Single.{is_variable}
use Rattle.ceu_trace.specs.Lines.{short_names}
use Rattle.ceu_tree.specs.declared.kernel.Kernel.{Kernel}
use Rattle.ceu_tree.specs.declared.kernel.KCode.{KCode}
use Rattle.ceu_tree.specs.declared.kernel.KDecl.{KDecl}
use Rattle.ceu_tree.specs.declared.kernel.KNode.{KNode}
use Rattle.ceu_tree.specs.declared.kernel.KBlock.{KBlock, KBlock', out-KBlock, Row_of-KNode, end_of-KNode, more_of-KNode}
use Rattle.ceu_tree.specs.declared.kernel.KArm.{KArm, KArm'}
use Rattle.ceu_tree.specs.declared.kernel.KStmt.{KStmt, Row_of-KArm, end_of-KArm, more_of-KArm, Nothing, Assign, Out, AwaitIn, AwaitTime, Forever, Do, Escape, Break, Continue, If', Loop}

-- the first place, or else the second one
abbrev pub or_else : Option Pos → Option Pos → Option Pos
or_else (Some place) other = Some place
or_else None other = other

-- the first place of the members of a list
abbrev pub first_in : {A : Type 0} → (A → Option Pos) → List A → Option Pos
first_in place [] = None
first_in place (x ∷ xs) = or_else (place x) (first_in place xs)

-- a declaration that is no variable's
abbrev pub other_decl : KDecl → Option Pos
other_decl d = if is_variable d.kind then None else Some d.pos

-- Pools and aliases are looked at behind the statements of their block.
unfoldable mutual
  pub other_stmt : Pos → KStmt → Option Pos
  other_stmt place Nothing = None
  other_stmt place (Assign l e) = None
  other_stmt place (Out k e) = None
  other_stmt place (AwaitIn k t) = None
  other_stmt place (AwaitTime e u t) = None
  other_stmt place Forever = None
  other_stmt place (Do t b) = other_in_block b
  other_stmt place (Escape n e) = None
  other_stmt place (Break n) = None
  other_stmt place (Continue n) = None
  other_stmt place (If' _ arms last) = or_else (other_in_arms arms) (other_in_block last)
  other_stmt place (Loop k b) = other_in_block b
  other_stmt place _ = Some place

  pub other_in_block : KBlock → Option Pos
  other_in_block (KBlock' n ds _ list) = or_else (other_in_nodes list) (first_in other_decl ds)

  pub other_in_arm : KArm → Option Pos
  other_in_arm (KArm' c b) = other_in_block b

  pub other_in_nodes : {n : _} → Row_of-KNode n → Option Pos
  other_in_nodes end_of-KNode = None
  other_in_nodes (more_of-KNode n place s rest) = or_else (other_stmt place s) (other_in_nodes rest)

  pub other_in_arms : {n : _} → Row_of-KArm n → Option Pos
  other_in_arms end_of-KArm = None
  other_in_arms (more_of-KArm a rest) = or_else (other_in_arm a) (other_in_arms rest)

abbrev pub other_node : KNode → Option Pos
other_node s = other_stmt s.pos s.stmt

abbrev pub text_start : Pos
text_start = record { line = 1; col = 1 }

abbrev pub first_statement : List KNode → Pos
first_statement [] = text_start
first_statement (s ∷ ss) = s.pos

-- the first statement of the first code
abbrev pub other_code : List KCode → Option Pos
other_code [] = None
other_code (c ∷ cs) = Some (first_statement (out-KBlock c.body).list)

-- names of at most 64 bytes, and inputs with numbers of 16 bits
abbrev pub has_small_ports : Kernel → Bool
has_small_ports K = short_names K.outputs && nat_le (length K.inputs) 65535

abbrev pub other_port : Bool → Option Pos
other_port small = if small then None else Some text_start

-- The place of the first statement of the program whose form doesn't run; where there is none but codes, of the first code's first one.
unfoldable pub first_unbuilt : Kernel → Option Pos
first_unbuilt K = or_else (other_in_block K.body) (or_else (other_code K.codes) (other_port (has_small_ports K)))
