-- Well-typed stores: each value that is held of a variable is one of its type, ranges count within an int, and trails go on with values that their targets
-- take (this project's own). The three go together: the ends of ranges are expressions that read variables, and what is read comes from what is handed over.
use Rattle.std.specs.Prelude.{◌≡◌, Some}
use Rattle.ceu_base.specs.declared.kinds.Ty.{Ty}
use Rattle.ceu_base.specs.Values.{IsValue}
use Rattle.ceu_tree.specs.declared.command.Command.{Command}
use Rattle.ceu_tree.specs.declared.command.Command.TheVariants.{Input}
use Rattle.ceu_tree.specs.declared.kernel.Kernel.{Kernel}
use Rattle.ceu_tree.specs.Residual.{Act, Residual}
use Rattle.ceu_tree.specs.Focus.{Focus, leaf}
use Rattle.ceu_tree.specs.World.{World}
use Rattle.ceu_tree.specs.Proper.{port_ty}
use Rattle.ceu_tree.specs.Run.{Config, Turning, Between, Waiting, Ended, Faulted}
use Rattle.laws_meaning_slots.specs.Typed.{all_typed}
use Rattle.laws_meaning_counters.specs.Ints.{tree_int, focus_int}
use Rattle.laws_meaning_types.specs.Ready.{act_ready, tree_ready, frames_ready}

module _ (K : Kernel) where
  pub record TreeTyped (r : Residual) (w : World) : Type 0 where
    pub values : all_typed K w
    pub ranges : tree_int r
    pub trails : tree_ready K r

  pub record TurnTyped (f : Focus Act) (w : World) : Type 0 where
    pub values : all_typed K w
    pub ranges : focus_int f
    pub trails : frames_ready K f
    pub turn : act_ready (leaf f)

  -- where a program has ended or faulted nothing is said
  abbrev pub StoresTyped : Config → Type 0
  StoresTyped (Turning n f w) = TurnTyped f w
  StoresTyped (Between n r w) = TreeTyped r w
  StoresTyped (Waiting r w) = TreeTyped r w
  StoresTyped (Ended v w) = Unit {0}
  StoresTyped (Faulted e w) = Unit {0}

  -- an input has a value of its type
  abbrev pub CommandTyped : Command → Type 0
  CommandTyped (Input event v) = (t : Ty) → port_ty K event K.inputs ≡ Some t → IsValue t v
  CommandTyped x = Unit {0}
