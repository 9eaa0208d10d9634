-- The statements without blocks of their own.
use Rattle.std.proofs.Common.{◌≡◌, refl, ◌∙◌, ℕ, arith, [], ◌∷◌, Option, Some, None, Bool, true, false}
use Rattle.ceu_base.specs.declared.kinds.Pos.{Pos}
use Rattle.ceu_tree.specs.declared.source.Ident.{Ident}
use Rattle.ceu_tree.specs.declared.source.Call.{Call}
use Rattle.ceu_tree.specs.declared.source.Spawn.{Spawn}
use Rattle.ceu_tree.specs.declared.source.Target.{Target}
use Rattle.ceu_tree.specs.declared.source.Target.TheVariants as target
use Rattle.ceu_tree.specs.declared.source.Await.{Await}
use Rattle.ceu_tree.specs.declared.source.Await.TheVariants as await
use Rattle.ceu_tree.specs.declared.source.Exp.{Exp}
use Rattle.ceu_tree.specs.declared.kernel.Loc.{Loc}
use Rattle.ceu_tree.specs.declared.kernel.KKind.{KKind}
use Rattle.ceu_tree.specs.declared.kernel.KKind.TheVariants as kind
use Rattle.ceu_tree.specs.declared.kernel.KLoop.TheVariants as turns
use Rattle.ceu_tree.specs.declared.kernel.KArm.{KArm'}
use Rattle.ceu_tree.specs.declared.kernel.KStmt.{KStmt}
use Rattle.ceu_tree.specs.declared.kernel.KStmt as kernel
use Rattle.ceu_tree.specs.Numbering.{stmt_nodes, stmt_slots, arm_nodes, arm_slots}
use Rattle.ceu_scopes.specs.declared.known.Scopes.{Scopes}
use Rattle.ceu_types.specs.declared.typing.Types.{Types}
use Rattle.ceu_expand.specs.declared.around.Around.{Around}
use Rattle.ceu_expand.specs.declared.draft.Draft.{Draft}
use Rattle.ceu_expand.specs.Draft.{begun, hidden, opened, placed, block_of, around_block, declared}
use Rattle.ceu_expand.specs.Lists.{each, gathered}
use Rattle.ceu_expand.specs.Uses.{names_output, use_number, used}
use Rattle.ceu_expand.specs.Expressions.{constant, exp_passed, if_exp_passed, exp_written, if_exp_written}
use Rattle.ceu_expand.specs.Parts.{simple, zeroed, nothing_in, assigned, sent, emitted, escaped, await_written, target_passed, target_awaited, broken_if, awaited_and_asked, awaited_until, code_awaited, awaited, spawned, started, alias_declared, pool_declared, killed}
use Rattle.laws_kernel_shape.proofs.Frames.{frame, frame_used, frame_exp, frame_if_exp, frame_each, frame_target}
use Rattle.laws_kernel_shape.proofs.Shapes.{if_nodes, if_slots}
use Rattle.laws_kernel_shape.proofs.Inside.{append_none, inside_same, inside_then, inside_hidden, inside_as, Wrote, wrote_same, wrote_then, wrote_stmt, block_inside, empty_inside}

-- how many nodes and hidden slots an await takes
abbrev pub await_nodes_in : Await → ℕ
await_nodes_in (await.On x (Some c)) = 7
await_nodes_in _ = 1

abbrev pub await_slots_in : Await → ℕ
await_slots_in (await.Code c) = 1
await_slots_in _ = 0

-- a statement without nodes and slots of its own
leaf : (d : Draft) (p : Pos) (st : KStmt) (e : Draft) → stmt_nodes st ≡ [] → stmt_slots st ≡ [] → frame e ≡ frame (begun d) → Wrote 0 1 0 d (placed d.node p st e)
leaf d p st e h k same = wrote_stmt d p st e (inside_as h k (inside_same (begun d) e same))

pub simple_wrote : (p : Pos) (st : KStmt) (d : Draft) → stmt_nodes st ≡ [] → stmt_slots st ≡ [] → Wrote 0 1 0 d (simple p st d)
simple_wrote p st d h k = leaf d p st (begun d) h k refl

pub zeroed_wrote : (p : Pos) (into : Loc) (d : Draft) → Wrote 0 1 0 d (zeroed p into d)
unfolding stmt_nodes stmt_slots
zeroed_wrote p into d = simple_wrote p (kernel.Assign into (constant into.ty p _)) d refl refl

pub declared_wrote : (k : KKind) (x : Ident) (d : Draft) → Wrote 1 0 0 d (declared k x d)
unfolding declared
declared_wrote k x d =
    record {
      node_is = omega arith;
      hidden_is = omega arith;
      list = [];
      decls = record { slot = d.parts.slot; kind = k; name = x.name; pos = x.pos } ∷ [];
      list_is = append_none d.parts.list;
      decls_is = refl;
      slot_is = refl;
      nodes = refl;
      slots = refl;
      decl_runs = (refl, refl);
      codes = refl;
      other_node = refl;
      other_slot = refl;
    }

module _ (s : Scopes) (t : Types) where
  pub assigned_wrote : (p : Pos) (into : Loc) (e : Exp) (d : Draft) → Wrote 0 1 0 d (assigned s t p into e d)
  unfolding stmt_nodes stmt_slots
  assigned_wrote p into e d = leaf d p (kernel.Assign into (exp_written s t e (begun d))) (exp_passed e (begun d)) refl refl (frame_exp e (begun d))

  sent_nodes : (b : Bool) (n : ℕ) (e : Option Exp) (d : Draft) → stmt_nodes (sent s t b n e d) ≡ []
  unfolding stmt_nodes
  sent_nodes true n e d = refl
  sent_nodes false n e d = refl

  sent_slots : (b : Bool) (n : ℕ) (e : Option Exp) (d : Draft) → stmt_slots (sent s t b n e d) ≡ []
  unfolding stmt_slots
  sent_slots true n e d = refl
  sent_slots false n e d = refl

  pub emitted_wrote : (p : Pos) (e : Option Exp) (d : Draft) → Wrote 0 1 0 d (emitted s t p e d)
  unfolding emitted
  emitted_wrote p e d =
      let b = names_output s (begun d).uses in
      let n = use_number s (begun d) in
      leaf d p (sent s t b n e (used (begun d))) (if_exp_passed e (used (begun d))) (sent_nodes b n e (used (begun d))) (sent_slots b n e (used (begun d)))
      (frame_if_exp e (used (begun d)) ∙ frame_used (begun d))

  pub escaped_wrote : (a : Around) (p : Pos) (l : Option Ident) (e : Option Exp) (d : Draft) → Wrote 0 1 0 d (escaped s t a p l e d)
  unfolding escaped stmt_nodes stmt_slots
  escaped_wrote a p l e d = leaf d p (kernel.Escape _ (if_exp_written s t e (begun d))) (if_exp_passed e (begun d)) refl refl (frame_if_exp e (begun d))

  await_nodes : (p : Pos) (into : Option Loc) (x : Target) (d : Draft) → stmt_nodes (await_written s t p into x d) ≡ []
  unfolding await_written stmt_nodes
  await_nodes p into (target.Ext x) d = refl
  await_nodes p into (target.Event x) d = refl
  await_nodes p into (target.Time us) d = refl
  await_nodes p into (target.TimeExp e u) d = refl

  await_slots : (p : Pos) (into : Option Loc) (x : Target) (d : Draft) → stmt_slots (await_written s t p into x d) ≡ []
  unfolding await_written stmt_slots
  await_slots p into (target.Ext x) d = refl
  await_slots p into (target.Event x) d = refl
  await_slots p into (target.Time us) d = refl
  await_slots p into (target.TimeExp e u) d = refl

  pub target_wrote : (p : Pos) (into : Option Loc) (x : Target) (d : Draft) → Wrote 0 1 0 d (target_awaited s t p into x d)
  unfolding target_awaited
  target_wrote p into x d =
      leaf d p (await_written s t p into x (begun d)) (target_passed x (begun d)) (await_nodes p into x (begun d)) (await_slots p into x (begun d)) (frame_target x (begun d))

  breaking : (loop : ℕ) (p : Pos) (d : Draft) → Wrote 0 1 0 d (simple p (kernel.Break loop) d)
  unfolding stmt_nodes stmt_slots
  breaking loop p d = simple_wrote p (kernel.Break loop) d refl refl

  pub broken_wrote : (loop : ℕ) (p : Pos) (c : Exp) (d : Draft) → Wrote 0 4 0 d (broken_if s t loop p c d)
  unfolding broken_if arm_nodes arm_slots
  broken_wrote loop p c d =
      let after = exp_passed c (begun d) in
      let one = block_inside 0 (simple p (kernel.Break loop)) after (breaking loop p (opened 0 after)) in
      let last = empty_inside (around_block 0 (simple p (kernel.Break loop)) after) in
      let arms = KArm' (exp_written s t c (begun d)) (block_of 0 (simple p (kernel.Break loop)) after) ∷ [] in
      let empty = block_of 0 nothing_in (around_block 0 (simple p (kernel.Break loop)) after) in
      wrote_stmt d p (kernel.If arms empty) (around_block 0 nothing_in (around_block 0 (simple p (kernel.Break loop)) after))
      (inside_as (if_nodes arms empty) (if_slots arms empty)
      (inside_then (inside_then (inside_same (begun d) after (frame_exp c (begun d))) (inside_then one (inside_same _ _ refl))) last))

  asked_wrote : (loop : ℕ) (p : Pos) (into : Option Loc) (x : Target) (c : Exp) (d : Draft) → Wrote 0 5 0 d (awaited_and_asked s t loop p into x c d)
  asked_wrote loop p into x c d = wrote_then (target_wrote p into x d) (broken_wrote loop p c (target_awaited s t p into x d))

  pub until_wrote : (p : Pos) (into : Option Loc) (x : Target) (c : Exp) (d : Draft) → Wrote 0 7 0 d (awaited_until s t p into x c d)
  unfolding awaited_until stmt_nodes stmt_slots
  until_wrote p into x c d =
      wrote_stmt d p (kernel.Loop turns.Free (block_of 0 (awaited_and_asked s t d.node p into x c) (begun d))) (around_block 0 (awaited_and_asked s t d.node p into x c) (begun d))
      (block_inside 0 (awaited_and_asked s t d.node p into x c) (begun d) (asked_wrote d.node p into x c (opened 0 (begun d))))

  pub code_wrote : (p : Pos) (into : Option Loc) (c : Call) (d : Draft) → Wrote 0 1 1 d (code_awaited s t p into c d)
  unfolding code_awaited begun stmt_nodes stmt_slots
  code_wrote p into c d =
      let inside = used (hidden 1 (begun d)) in
      wrote_stmt d p (kernel.AwaitCode (use_number s (hidden 1 (begun d))) (gathered (exp_written s t) exp_passed c.args inside) d.slot into) (each exp_passed c.args inside)
      (inside_then (inside_hidden 1 (begun d)) (inside_same (hidden 1 (begun d)) (each exp_passed c.args inside) (frame_each exp_passed frame_exp c.args inside ∙ frame_used (hidden 1 (begun d)))))

  pub awaited_wrote : (p : Pos) (into : Option Loc) (w : Await) (d : Draft) → Wrote 0 (await_nodes_in w) (await_slots_in w) d (awaited s t p into w d)
  unfolding awaited stmt_nodes stmt_slots
  awaited_wrote p into await.Forever d = simple_wrote p kernel.Forever d refl refl
  awaited_wrote p into (await.Code c) d = code_wrote p into c d
  awaited_wrote p into (await.On x None) d = target_wrote p into x d
  awaited_wrote p into (await.On x (Some c)) d = until_wrote p into x c d

  pub spawned_wrote : (alias : Option ℕ) (x : Spawn) (d : Draft) → Wrote 0 1 0 d (spawned s t alias x d)
  unfolding spawned stmt_nodes stmt_slots
  spawned_wrote alias x d =
      let inside = used (begun d) in
      let behind = each exp_passed x.call.args inside in
      leaf d x.pos (kernel.Spawn (use_number s (begun d)) (gathered (exp_written s t) exp_passed x.call.args inside) (use_number s behind) alias) (used behind) refl refl
      (frame_used behind ∙ frame_each exp_passed frame_exp x.call.args inside ∙ frame_used (begun d))

  started_wrote : (p : Pos) (alias : ℕ) (x : Option Spawn) (d : Draft) → Wrote 0 1 0 d (started s t p alias x d)
  unfolding stmt_nodes stmt_slots
  started_wrote p alias None d = simple_wrote p (kernel.Unset alias) d refl refl
  started_wrote p alias (Some x) d = spawned_wrote (Some alias) x d

  pub alias_wrote : (p : Pos) (x : Ident) (start : Option Spawn) (d : Draft) → Wrote 1 1 0 d (alias_declared s t p x start d)
  unfolding alias_declared
  alias_wrote p x start d =
      let k = kind.Alias (use_number s d) in
      wrote_then (wrote_then (wrote_same d (used d) (frame_used d)) (declared_wrote k x (used d))) (started_wrote p d.parts.slot start (declared k x (used d)))

pub pool_wrote : (s : Scopes) (places : ℕ) (x : Ident) (d : Draft) → Wrote 1 0 0 d (pool_declared s places x d)
unfolding pool_declared
pool_wrote s places x d = wrote_then (wrote_same d (used d) (frame_used d)) (declared_wrote (kind.Pool places (use_number s d)) x (used d))

pub killed_wrote : (s : Scopes) (p : Pos) (d : Draft) → Wrote 0 1 0 d (killed s p d)
unfolding killed stmt_nodes stmt_slots
killed_wrote s p d = leaf d p (kernel.Kill (use_number s (begun d))) (used (begun d)) refl refl (frame_used (begun d))
