-- Values of the types of their slots, which the numbers of slots tell (this project's own).
use Rattle.std.specs.Prelude.{◌≡◌, Bool, true, List, [], ◌∷◌, Option, Some, None}
use Rattle.std.specs.List.{list_all}
use Rattle.ceu_base.specs.declared.kinds.Ty.{Ty}
use Rattle.ceu_base.specs.declared.kinds.Ty.TheVariants as ty
use Rattle.ceu_base.specs.Values.{is_value}
use Rattle.ceu_tree.specs.declared.kernel.Kernel.{Kernel}
use Rattle.ceu_tree.specs.declared.kernel.KCode.{KCode}
use Rattle.ceu_tree.specs.declared.kernel.KEvent.{KEvent}
use Rattle.ceu_tree.specs.declared.kernel.KDecl.{KDecl}
use Rattle.ceu_tree.specs.declared.kernel.KKind.TheVariants as kind
use Rattle.ceu_tree.specs.declared.kernel.KLoop.{KLoop}
use Rattle.ceu_tree.specs.declared.kernel.KLoop.TheVariants as turns
use Rattle.ceu_tree.specs.declared.kernel.KExp.{KExp}
use Rattle.ceu_tree.specs.declared.kernel.KArm.{KArm, out-KArm}
use Rattle.ceu_tree.specs.declared.kernel.KStmt.TheOpen.{KStmt-F}
use Rattle.ceu_tree.specs.Residual.{Body}
use Rattle.ceu_tree.specs.Expressions.{value_of}
use Rattle.ceu_tree.specs.Leaf.{Layer, code_at}
use Rattle.ceu_tree.specs.World.{Cell, Holds, Held, World}
use Rattle.ceu_tree.specs.Proper.{SlotKind, IsVariable, IsLoopVariable, port_ty, event_at}
use Rattle.laws_meaning_values.specs.Results.{IsResult}
use Rattle.laws_meaning_slots.specs.Declared.{rows, kind_at}

-- a variable that holds a value holds one of its type
abbrev pub cell_typed : Option SlotKind → Cell → Bool
cell_typed (Some (IsVariable t)) (Holds v) = is_value t v
cell_typed (Some IsLoopVariable) (Holds v) = is_value ty.S32 v
cell_typed k c = true

module _ (K : Kernel) where
  abbrev pub is_typed : Held → Bool
  is_typed h = cell_typed (kind_at h.slot (rows K)) h.cell

  abbrev pub all_typed : World → Type 0
  all_typed w = list_all is_typed w.values ≡ true

-- ---- what a statement evaluates when it starts

module _ (K : Kernel) (body : Body) (w : World) where
  abbrev pub gives_a : Ty → KExp → Type 0
  gives_a t e = IsResult t (value_of e body w)

  abbrev pub gives_if_any : Ty → Option KExp → Type 0
  gives_if_any t None = Unit {0}
  gives_if_any t (Some e) = gives_a t e

  -- a value for each parameter
  abbrev pub arguments_typed : List KDecl → List KExp → Type 0
  arguments_typed (d ∷ ds) (e ∷ es) = ((t : Ty) → d.kind ≡ kind.Var t → gives_a t e) × arguments_typed ds es
  arguments_typed ds es = Unit {0}

  abbrev pub conditions_typed : List KArm → Type 0
  conditions_typed [] = Unit {0}
  conditions_typed (a ∷ arms) = gives_a ty.Bool (out-KArm a).cond × conditions_typed arms

  abbrev pub ends_typed : KLoop → Type 0
  ends_typed (turns.Range i next end open_a a b open_b) = gives_a ty.S32 a × gives_a ty.S32 b
  ends_typed k = Unit {0}

  -- each expression gives a value of the type that its place wants: of its variable, port, event or parameter
  abbrev pub start_typed : Layer → Type 0
  start_typed (KStmt-F.Assign l e) = gives_a l.ty e
  start_typed (KStmt-F.Out k e) = (t : Ty) → port_ty K k K.outputs ≡ Some t → gives_if_any t e
  start_typed (KStmt-F.Emit k e) = (x : KEvent) → event_at K k K.events ≡ Some x → gives_if_any x.ty e
  start_typed (KStmt-F.AwaitTime e u t) = gives_a e.ty e
  start_typed (KStmt-F.AwaitCode c es f t) = (k : KCode) → code_at c K.codes ≡ Some k → arguments_typed k.params es
  start_typed (KStmt-F.Spawn c es p a) = (k : KCode) → code_at c K.codes ≡ Some k → arguments_typed k.params es
  start_typed (KStmt-F.If arms last) = conditions_typed arms
  start_typed (KStmt-F.Loop k b) = ends_typed k
  start_typed layer = Unit {0}
