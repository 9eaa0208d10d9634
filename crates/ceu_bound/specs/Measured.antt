-- What a statement costs from its start, and where it stood waiting, by the tables of the code.
use Rattle.std.specs.Prelude.{ℕ, ◌+◌, ◌*◌, List, [], ◌∷◌, Option, Some, None}
use Rattle.ceu_tree.specs.declared.kernel.KDecl.{KDecl}
use Rattle.ceu_tree.specs.declared.kernel.KKind.{KKind}
use Rattle.ceu_tree.specs.declared.kernel.KKind.TheVariants as kind
use Rattle.ceu_tree.specs.declared.kernel.KBlock.{KBlock}
use Rattle.ceu_tree.specs.declared.kernel.KNode.{KNode}
use Rattle.ceu_tree.specs.declared.kernel.KArm.{KArm}
use Rattle.ceu_tree.specs.declared.kernel.KStmt.{KStmt}
use Rattle.ceu_tree.specs.Costs as spec
use Rattle.ceu_tree.specs.Greatest.{total}
use Rattle.ceu_tree.specs.Needs.{entry}
use Rattle.ceu_bound.specs.declared.tables.Tables.{Tables}
use Rattle.ceu_bound.specs.Parts.{pick, turn, costs}

-- a paced loop costs nothing by itself
abbrev pub unless_paced : Option ℕ → ℕ → ℕ
unless_paced (Some e) n = 0
unless_paced None n = n

module _ (T : Tables) where
  unfoldable pub enter_stmt : ℕ → KStmt → ℕ
  enter_stmt n s = pick T.part (spec.enter T.passing.items (costs T.events.items) (costs T.entering.items) n s)

  unfoldable pub enter_block : KBlock → ℕ
  enter_block b = pick T.part (spec.enter_block T.passing.items (costs T.events.items) (costs T.entering.items) b)

  unfoldable pub enter_arm : KArm → ℕ
  enter_arm a = pick T.part (spec.enter_arm T.passing.items (costs T.events.items) (costs T.entering.items) a)

  unfoldable pub enter_list : List KNode → ℕ
  enter_list ss = pick T.part (spec.enter_list T.passing.items (costs T.events.items) (costs T.entering.items) ss)

  unfoldable pub stay_stmt : ℕ → KStmt → ℕ
  stay_stmt n s = pick T.part (spec.stay T.passing.items (costs T.events.items) (costs T.entering.items) (costs T.staying.items) n s)

  unfoldable pub stay_block : KBlock → ℕ
  stay_block b = pick T.part (spec.stay_block T.passing.items (costs T.events.items) (costs T.entering.items) (costs T.staying.items) b)

  unfoldable pub stay_arm : KArm → ℕ
  stay_arm a = pick T.part (spec.stay_arm T.passing.items (costs T.events.items) (costs T.entering.items) (costs T.staying.items) a)

  unfoldable pub stay_list : List KNode → ℕ
  stay_list ss = pick T.part (spec.stay_list T.passing.items (costs T.events.items) (costs T.entering.items) (costs T.staying.items) ss)

  -- a branch beside others takes a turn
  abbrev pub enter_branch : KBlock → ℕ
  enter_branch b = turn T.part + enter_block b

  -- the first branch goes on in the turn that reaches the par
  abbrev pub enter_branches : List KBlock → ℕ
  enter_branches [] = 0
  enter_branches (b ∷ bs) = enter_block b + total enter_branch bs

  -- the instances of a pool
  abbrev pub pool_stay : KKind → ℕ
  pool_stay (kind.Var t) = 0
  pool_stay (kind.Alias c) = 0
  pool_stay (kind.Pool n c) = n * entry c T.staying.items

  abbrev pub decl_stay : KDecl → ℕ
  decl_stay d = pool_stay d.kind
