-- The program's variables that code names by `outer`: where the code is awaited or spawned, and where an instance of it lives, each of them is set.
use Rattle.std.specs.Prelude.{◌≡◌, ℕ, Bool, true, not, ◌||◌, List, [], Option, Some, None}
use Rattle.std.specs.List.{list_all}
use Rattle.ceu_tree.specs.declared.kernel.Kernel.{Kernel}
use Rattle.ceu_tree.specs.declared.kernel.KNode.{KNode}
use Rattle.ceu_tree.specs.declared.kernel.KBlock.{out-KBlock}
use Rattle.ceu_tree.specs.declared.kernel.KStmt.{out-KStmt}
use Rattle.ceu_tree.specs.declared.kernel.KStmt.TheOpen.{KStmt-F}
use Rattle.ceu_tree.specs.Residual.{Program, Act, Start, Residual, Over}
use Rattle.ceu_tree.specs.Focus.{plug}
use Rattle.ceu_tree.specs.Leaf.{Layer}
use Rattle.ceu_tree.specs.Legal.{is_set, is_program_variable, outer_set, seats}
use Rattle.ceu_tree.specs.Mentions.{named_by, outer_names_from}
use Rattle.ceu_tree.specs.Run.{Config, Turning, Between, Waiting, Ended, Faulted}

-- by these statements, of each variable of the program that the code names, itself or by other code that it awaits or spawns
abbrev pub code_set : Kernel → (done : List KNode) → (code : ℕ) → Bool
code_set K done code = list_all (λ slot. not (is_program_variable slot (out-KBlock K.body).decls) || is_set done slot) (named_by code (outer_names_from [] K.codes))

-- the code that a statement awaits or spawns
abbrev pub layer_code : Layer → Option ℕ
layer_code (KStmt-F.AwaitCode c es frame t) = Some c
layer_code (KStmt-F.Spawn c es pool alias) = Some c
layer_code layer = None

abbrev pub act_code : Act → Option ℕ
act_code (Start s) = layer_code (out-KStmt s.stmt)
act_code a = None

-- of the code of each instance of a tree, as in a legal configuration
abbrev pub OuterSet : Kernel → Residual → Type 0
OuterSet K r = list_all (outer_set K r) (seats r Program) ≡ true

-- where a turn is on, of the tree without its leaf
abbrev pub OuterStands : Kernel → Config → Type 0
OuterStands K (Turning n f w) = OuterSet K (plug f Over)
OuterStands K (Between n r w) = OuterSet K r
OuterStands K (Waiting r w) = OuterSet K r
OuterStands K (Ended v w) = Unit {0}
OuterStands K (Faulted e w) = Unit {0}
