-- The values that open bodies hold: each lies in an open slot, and is of that slot's kind (this project's own).
use Rattle.std.specs.Prelude.{◌≡◌, ℕ, Bool, true, false, ◌==◌, ◌&&◌, ◌||◌, List, [], ◌∷◌, Option, Some, None}
use Rattle.std.specs.List.{list_all}
use Rattle.ceu_base.specs.declared.kinds.Ty.TheVariants as ty
use Rattle.ceu_tree.specs.declared.kernel.Kernel.{Kernel}
use Rattle.ceu_tree.specs.declared.kernel.KCode.{KCode}
use Rattle.ceu_tree.specs.declared.kernel.KDecl.{KDecl}
use Rattle.ceu_tree.specs.declared.kernel.KKind.{KKind}
use Rattle.ceu_tree.specs.declared.kernel.KKind.TheVariants as kind
use Rattle.ceu_tree.specs.declared.kernel.KLoop.{KLoop}
use Rattle.ceu_tree.specs.declared.kernel.KLoop.TheVariants as turns
use Rattle.ceu_tree.specs.declared.kernel.KBlock.{out-KBlock}
use Rattle.ceu_tree.specs.declared.kernel.KStmt.{out-KStmt}
use Rattle.ceu_tree.specs.declared.kernel.KStmt.TheOpen.{KStmt-F}
use Rattle.ceu_tree.specs.Residual.{Body, Program, Awaited, Spawned, same_body, Residual, Over, InAsync, Block, Open, Loop, Call, Par, Branches, no_branch, branch, Instances, no_instance, instance}
use Rattle.ceu_tree.specs.Focus.{plug}
use Rattle.ceu_tree.specs.World.{Cell, Holds, NotSet, Names, Held, World}
use Rattle.ceu_tree.specs.Leaf.{Layer, code_at}
use Rattle.ceu_tree.specs.Legal.{lies, called_code}
use Rattle.ceu_tree.specs.Run.{Config, Turning, Between, Waiting, Ended, Faulted}

-- a variable holds a value, an alias is not set or has a number that was given, and a pool holds nothing
abbrev pub is_of_kind : (given : ℕ) → KKind → Cell → Bool
is_of_kind given (kind.Var t) (Holds v) = true
is_of_kind given (kind.Alias c) NotSet = true
is_of_kind given (kind.Alias c) (Names k) = lies 1 given k
is_of_kind given k c = false

-- whether a value lies in an open slot, and is of its kind
module _ (codes : List KCode) (given : ℕ) (h : Held) where
  abbrev pub lies_at : Body → ℕ → KKind → Bool
  lies_at body slot k = (slot == h.slot) && same_body body h.body && is_of_kind given k h.cell

  abbrev pub lies_declared : Body → List KDecl → Bool
  lies_declared body [] = false
  lies_declared body (d ∷ ds) = lies_at body d.slot d.kind || lies_declared body ds

  -- a loop's own variable
  abbrev pub lies_counted : Body → KLoop → Bool
  lies_counted body (turns.Range i next end open_a a b open_b) = lies_at body i (kind.Var ty.S32)
  lies_counted body k = false

  abbrev pub lies_turning : Body → Layer → Bool
  lies_turning body (KStmt-F.Loop k b) = lies_counted body k
  lies_turning body layer = false

  -- parameters
  abbrev pub lies_given : Body → Option KCode → Bool
  lies_given body None = false
  lies_given body (Some c) = lies_declared body c.params

  unfoldable mutual
    pub lies_in : Residual → Body → Bool
    lies_in (Block b fin all r rest) body = lies_declared body (out-KBlock b).decls || (lies_in_instances all || lies_in r body)
    lies_in (Open s r) body = lies_in r body
    lies_in (Loop s c r) body = lies_turning body (out-KStmt s.stmt) || lies_in r body
    lies_in (Call s r) body = lies_given (Awaited body s.node) (called_code codes (out-KStmt s.stmt)) || lies_in r (Awaited body s.node)
    lies_in (Par s bs) body = lies_in_branches bs body
    lies_in (InAsync s served r) body = lies_in r body
    lies_in r body = false

    pub lies_in_branches : Branches → Body → Bool
    lies_in_branches no_branch body = false
    lies_in_branches (branch r more) body = lies_in r body || lies_in_branches more body

    pub lies_in_instances : Instances → Bool
    lies_in_instances no_instance = false
    lies_in_instances (instance seat r more) = lies_given (Spawned seat.number) (code_at seat.code codes) || (lies_in r (Spawned seat.number) || lies_in_instances more)

abbrev pub all_lie : Kernel → Residual → World → Type 0
all_lie K r w = list_all (λ h. lies_in K.codes w.given h r Program) w.values ≡ true

-- Of a turn that is on the tree is taken without its leaf; where a program has ended or faulted nothing is said.
abbrev pub ValuesLie : Kernel → Config → Type 0
ValuesLie K (Turning n f w) = all_lie K (plug f Over) w
ValuesLie K (Between n r w) = all_lie K r w
ValuesLie K (Waiting r w) = all_lie K r w
ValuesLie K (Ended v w) = Unit {0}
ValuesLie K (Faulted e w) = Unit {0}
