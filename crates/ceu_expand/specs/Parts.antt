-- What the statements without blocks of their own stand for. Each takes the draft before it to the draft behind it; what stands in place of one
-- statement of the text has that statement's position, but a spawn that of its word `spawn`.
use Rattle.std.specs.Prelude.{ℕ, pos, Bool, if◌then◌else◌, [], ◌∷◌, Option, Some, None}
use Rattle.ceu_base.specs.declared.kinds.Ty.TheVariants as ty
use Rattle.ceu_base.specs.declared.kinds.Pos.{Pos}
use Rattle.ceu_tree.specs.declared.source.Ident.{Ident}
use Rattle.ceu_tree.specs.declared.source.Param.{Param}
use Rattle.ceu_tree.specs.declared.source.Call.{Call}
use Rattle.ceu_tree.specs.declared.source.Spawn.{Spawn}
use Rattle.ceu_tree.specs.declared.source.Target.{Target}
use Rattle.ceu_tree.specs.declared.source.Target.TheVariants as target
use Rattle.ceu_tree.specs.declared.source.Await.{Await}
use Rattle.ceu_tree.specs.declared.source.Await.TheVariants as await
use Rattle.ceu_tree.specs.declared.source.Exp.{Exp}
use Rattle.ceu_tree.specs.declared.kernel.Loc.{Loc}
use Rattle.ceu_tree.specs.declared.kernel.KKind.TheVariants as kind
use Rattle.ceu_tree.specs.declared.kernel.KLoop.TheVariants as turns
use Rattle.ceu_tree.specs.declared.kernel.Unit.TheVariants.{Us}
use Rattle.ceu_tree.specs.declared.kernel.KArm.{KArm'}
use Rattle.ceu_tree.specs.declared.kernel.KStmt.{KStmt}
use Rattle.ceu_tree.specs.declared.kernel.KStmt as kernel
use Rattle.ceu_scopes.specs.declared.known.Scopes.{Scopes}
use Rattle.ceu_types.specs.declared.typing.Types.{Types}
use Rattle.ceu_expand.specs.declared.around.Around.{Around}
use Rattle.ceu_expand.specs.declared.draft.Draft.{Draft}
use Rattle.ceu_expand.specs.Draft.{begun, hidden, placed, block_of, around_block, declared}
use Rattle.ceu_expand.specs.Lists.{each, gathered}
use Rattle.ceu_expand.specs.Uses.{names_output, use_number, used}
use Rattle.ceu_expand.specs.Uses as uses
use Rattle.ceu_expand.specs.Expressions.{constant, exp_passed, if_exp_passed, exp_written, if_exp_written}

-- a statement without parts
abbrev pub simple : Pos → KStmt → Draft → Draft
simple p s d = placed d.node p s (begun d)

-- the variable is set to zero, or to false
abbrev pub zeroed : Pos → Loc → Draft → Draft
zeroed p into d = simple p (kernel.Assign into (constant into.ty p (pos 0))) d

-- a block without statements
abbrev pub nothing_in : Draft → Draft
nothing_in d = d

-- ---- names that are declared

abbrev pub param_declared : Param → Draft → Draft
param_declared x d = declared (kind.Var x.ty) x.name d

abbrev pub name_passed : Ident → Draft → Draft
name_passed x d = used d

unfoldable pub pool_declared : Scopes → ℕ → Ident → Draft → Draft
pool_declared s places x d = declared (kind.Pool places (use_number s d)) x (used d)

unfoldable pub killed : Scopes → Pos → Draft → Draft
killed s p d = placed d.node p (kernel.Kill (use_number s (begun d))) (used (begun d))

unfoldable pub target_passed : Target → Draft → Draft
target_passed (target.Ext x) d = used d
target_passed (target.Event x) d = used d
target_passed (target.Time us) d = d
target_passed (target.TimeExp e unit) d = exp_passed e d

module _ (s : Scopes) (t : Types) where
  abbrev pub assigned : Pos → Loc → Exp → Draft → Draft
  assigned p into e d = placed d.node p (kernel.Assign into (exp_written s t e (begun d))) (exp_passed e (begun d))

  -- ---- emissions, escapes

  abbrev pub sent : Bool → ℕ → Option Exp → Draft → KStmt
  sent is_output n e d = if is_output then kernel.Out n (if_exp_written s t e d) else kernel.Emit n (if_exp_written s t e d)

  unfoldable pub emitted : Pos → Option Exp → Draft → Draft
  emitted p e d =
      placed d.node p (sent (names_output s (begun d).uses) (use_number s (begun d)) e (used (begun d))) (if_exp_passed e (used (begun d)))

  unfoldable pub escaped : Around → Pos → Option Ident → Option Exp → Draft → Draft
  escaped a p l e d = placed d.node p (kernel.Escape (uses.target a l d) (if_exp_written s t e (begun d))) (if_exp_passed e (begun d))

  -- ---- awaits

  -- an await of a target; a time without an expression is a constant in microseconds
  unfoldable pub await_written : Pos → Option Loc → Target → Draft → KStmt
  await_written p into (target.Ext x) d = kernel.AwaitIn (use_number s d) into
  await_written p into (target.Event x) d = kernel.AwaitEvent (use_number s d) into
  await_written p into (target.Time us) d = kernel.AwaitTime (constant ty.S64 p (pos us)) Us into
  await_written p into (target.TimeExp e unit) d = kernel.AwaitTime (exp_written s t e d) unit into

  unfoldable pub target_awaited : Pos → Option Loc → Target → Draft → Draft
  target_awaited p into x d = placed d.node p (await_written p into x (begun d)) (target_passed x (begun d))

  -- `if c then break; end` in the loop that has this node
  unfoldable pub broken_if : (loop : ℕ) → Pos → Exp → Draft → Draft
  broken_if loop p c d =
      let after = exp_passed c (begun d) in
      let behind = around_block 0 (simple p (kernel.Break loop)) after in
      placed d.node p
      (kernel.If (KArm' (exp_written s t c (begun d)) (block_of 0 (simple p (kernel.Break loop)) after) ∷ []) (block_of 0 nothing_in behind))
      (around_block 0 nothing_in behind)

  -- `await X until c` is `loop do await X; if c then break; end end`
  abbrev pub awaited_and_asked : (loop : ℕ) → Pos → Option Loc → Target → Exp → Draft → Draft
  awaited_and_asked loop p into x c d = broken_if loop p c (target_awaited p into x d)

  unfoldable pub awaited_until : Pos → Option Loc → Target → Exp → Draft → Draft
  awaited_until p into x c d =
      placed d.node p
      (kernel.Loop turns.Free (block_of 0 (awaited_and_asked d.node p into x c) (begun d)))
      (around_block 0 (awaited_and_asked d.node p into x c) (begun d))

  -- code that is awaited has its frame in a hidden slot
  unfoldable pub code_awaited : Pos → Option Loc → Call → Draft → Draft
  code_awaited p into c d =
      let inside = used (hidden 1 (begun d)) in
      placed d.node p (kernel.AwaitCode (use_number s (hidden 1 (begun d))) (gathered (exp_written s t) exp_passed c.args inside) d.slot into) (each exp_passed c.args inside)

  -- an await, whose value is assigned to the variable, if there is one
  unfoldable pub awaited : Pos → Option Loc → Await → Draft → Draft
  awaited p into await.Forever d = simple p kernel.Forever d
  awaited p into (await.Code c) d = code_awaited p into c d
  awaited p into (await.On x None) d = target_awaited p into x d
  awaited p into (await.On x (Some c)) d = awaited_until p into x c d

  -- ---- pools and aliases

  -- a spawn, which sets the alias, if there is one
  unfoldable pub spawned : (alias : Option ℕ) → Spawn → Draft → Draft
  spawned alias x d =
      let inside = used (begun d) in
      let behind = each exp_passed x.call.args inside in
      placed d.node x.pos
      (kernel.Spawn (use_number s (begun d)) (gathered (exp_written s t) exp_passed x.call.args inside) (use_number s behind) alias)
      (used behind)

  abbrev pub started : Pos → (alias : ℕ) → Option Spawn → Draft → Draft
  started p alias None d = simple p (kernel.Unset alias) d
  started p alias (Some x) d = spawned (Some alias) x d

  -- an alias without a value is not set
  unfoldable pub alias_declared : Pos → Ident → Option Spawn → Draft → Draft
  alias_declared p x start d = started p d.parts.slot start (declared (kind.Alias (use_number s d)) x (used d))
