-- Statements use the code that is shown where they stand.
use Rattle.std.proofs.Common.{◌≡◌, refl, sym, ap, ◌∙◌, subst, ℕ, ◌≤◌, ◌<◌, length, arith, List, [], ◌∷◌, ◌++◌, Option, Some, None, Result, Ok, Bool, true, false}
use Rattle.std.specs.Prelude.{⊤}
use Rattle.ceu_base.specs.declared.kinds.Ty.{Ty}
use Rattle.ceu_base.specs.declared.kinds.Ty.TheVariants as ty
use Rattle.ceu_base.specs.declared.kinds.Pos.{Pos}
use Rattle.ceu_base.specs.declared.kinds.Rule.{Rule}
use Rattle.ceu_tree.specs.declared.source.Class.{Class}
use Rattle.ceu_tree.specs.declared.source.Class.TheVariants as class
use Rattle.ceu_tree.specs.declared.source.Ident.{Ident}
use Rattle.ceu_tree.specs.declared.source.Call.{Call}
use Rattle.ceu_tree.specs.declared.source.Spawn.{Spawn}
use Rattle.ceu_tree.specs.declared.source.Label.{Label}
use Rattle.ceu_tree.specs.declared.source.Label.TheVariants as label
use Rattle.ceu_tree.specs.declared.source.Target.{Target}
use Rattle.ceu_tree.specs.declared.source.Target.TheVariants as target
use Rattle.ceu_tree.specs.declared.source.Await.{Await}
use Rattle.ceu_tree.specs.declared.source.Await.TheVariants as await
use Rattle.ceu_tree.specs.declared.source.Exp.{Exp}
use Rattle.ceu_tree.specs.declared.source.Source as source
use Rattle.ceu_tree.specs.declared.source.Source.{Source}
use Rattle.ceu_tree.specs.declared.source.Item.{Held-Item-value, Item-value-None', Item-value-Some'}
use Rattle.ceu_tree.specs.declared.source.Do.{Do, Do'}
use Rattle.ceu_tree.specs.declared.source.Block.{Block, Block', Row_of-Node, end_of-Node, more_of-Node}
use Rattle.ceu_tree.specs.declared.source.Arm.{Arm'}
use Rattle.ceu_tree.specs.declared.source.Range.{Range, Range'}
use Rattle.ceu_tree.specs.declared.source.Stmt as stmt
use Rattle.ceu_tree.specs.declared.source.Stmt.{Stmt, Vars', If', Par', Row_of-Item, end_of-Item, more_of-Item, Row_of-Arm, end_of-Arm, more_of-Arm, Row_of-Block, end_of-Block, more_of-Block, Held-Stmt-If-1, Stmt-If-1-None', Stmt-If-1-Some'}
use Rattle.ceu_tree.specs.declared.kernel.Loc.{Loc}
use Rattle.ceu_tree.specs.declared.kernel.KNode.{KNode}
use Rattle.ceu_tree.specs.declared.kernel.KDecl.{KDecl}
use Rattle.ceu_tree.specs.declared.kernel.KKind.{KKind}
use Rattle.ceu_tree.specs.declared.kernel.KKind.TheVariants as kind
use Rattle.ceu_tree.specs.declared.kernel.KLoop.TheVariants as turns
use Rattle.ceu_tree.specs.declared.kernel.KArm.{KArm, KArm'}
use Rattle.ceu_tree.specs.declared.kernel.ParKind.{ParKind}
use Rattle.ceu_tree.specs.declared.kernel.ParKind.TheVariants as par
use Rattle.ceu_tree.specs.declared.kernel.KBlock.{KBlock, roll-KBlock, Row_of-KNode, end_of-KNode, more_of-KNode, items-the_row-KNode, items_hidden-the_row-KNode-2}
use Rattle.ceu_tree.specs.declared.kernel.KStmt as kernel
use Rattle.ceu_tree.specs.declared.kernel.KStmt.{KStmt, Row_of-KArm, end_of-KArm, more_of-KArm, items-the_row-KArm, items_hidden-the_row-KArm-0, items_hidden-the_row-KBlock-1, Row_of-KBlock, end_of-KBlock, more_of-KBlock, items-the_row-KBlock}
use Rattle.ceu_tree.specs.declared.kernel.KStmt.TheBlock.{hidden-the_row-KArm-0, hidden-the_row-KBlock-1, hidden-the_row-KNode-2}
use Rattle.ceu_scopes.specs.declared.known.Known.{Known}
use Rattle.ceu_scopes.specs.declared.known.Role.TheVariants as role
use Rattle.ceu_scopes.specs.declared.known.Scopes.{Scopes}
use Rattle.ceu_scopes.specs.declared.scope.Border.{Border}
use Rattle.ceu_scopes.specs.declared.scope.Border.TheVariants.{Plain, Async}
use Rattle.ceu_scopes.specs.declared.walk.Walk.{Walk}
use Rattle.ceu_scopes.specs.Walk.{Broken, ◌>>=◌, opened, closed, shown, fresh}
use Rattle.ceu_scopes.specs.Walk as walk
use Rattle.ceu_scopes.specs.Rules.{is_code, used, named, pool_used, inside_broken, declared}
use Rattle.ceu_scopes.specs.Names.{exp_walked, exps_walked, if_exp_walked, call_walked, spawned, spawn_walked, if_spawn_walked, target_walked, await_walked, ident_declared, port_declared, pool_declared, start_broken, alias_declared, pool_walked, alias_walked, value_broken, range_opened, labelled, unlabelled, escape_walked, name_listed, target_assigned, emit_walked, leave_walked, every_walked, stmt_walked, source_walked, value_walked, do_walked, block_walked, last_walked, range_walked, items_walked, arms_walked, blocks_walked, nodes_walked}
use Rattle.ceu_types.specs.declared.typing.Types.{Types}
use Rattle.ceu_expand.specs.declared.around.Around.{Around}
use Rattle.ceu_expand.specs.declared.draft.Draft.{Draft}
use Rattle.ceu_expand.specs.Draft as draft
use Rattle.ceu_expand.specs.Draft.{in_loop, in_do, begun, hidden, placed, outside, written, block_of, around_block, standing, event_declared, input_declared, output_declared, own}
use Rattle.ceu_expand.specs.Lists.{each}
use Rattle.ceu_expand.specs.Uses as uses
use Rattle.ceu_expand.specs.Uses.{names_output, use_number, variable, if_variable, if_used}
use Rattle.ceu_expand.specs.Expressions.{exp_passed, if_exp_passed, exp_written, if_exp_written}
use Rattle.ceu_expand.specs.Parts as parts
use Rattle.ceu_expand.specs.Parts.{simple, zeroed, nothing_in, assigned, sent, emitted, escaped, await_written, target_passed, target_awaited, broken_if, awaited_and_asked, awaited_until, code_awaited, awaited, started, killed, name_passed}
use Rattle.ceu_expand.specs.Expansion.{row_blocks, par_hidden, par_slot, turns_written, turns_passed, range_hidden, range_written, range_passed, declared_in, stmt_written, source_written, value_written, do_written, ranged, every_written, every_passed, block_written, block_passed, last_written, last_passed, nodes_written, items_written, arms_written, arms_passed, blocks_written, blocks_passed}
use Rattle.laws_kernel_shape.specs.Shaped.{AllOf}
use Rattle.laws_kernel_shape.proofs.Good.{all_append}
use Rattle.laws_kernel_shape.proofs.Codes.{NoCode, NoCodeInSource, NoCodeInValue, NoCodeInDo, NoCodeInBlock, NoCodeInLast, NoCodeInRange, NoCodeInItems, NoCodeInArms, NoCodeInBlocks, NoCodeInNodes}
use Rattle.laws_kernel_shape.proofs.Frames.{frame, frame_used, frame_standing, frame_labelled, frame_unlabelled, frame_exp, frame_if_exp, frame_each, frame_target}
use Rattle.laws_kernel_shape.proofs.Steps.{Always, always_ok, always_then}
use Rattle.laws_kernel_names.specs.Above.{KindUses, DeclUses, StmtUses, BlockUses, ArmUses, NodesUse, ArmsUse, BlocksUse}
use Rattle.laws_kernel_names.proofs.Stepping.{Both, Fits, Step, step_then, Goes, goes_then, used_goes, pool_goes, declared_goes, shown_goes, opened_step, closed_goes, draft_step}
use Rattle.laws_kernel_names.proofs.Pieces.{still_goes, draft_goes, exp_goes, exps_go, if_exp_goes, target_goes, assigned_goes, escape_goes, labelled_step, unlabelled_goes, list_goes, fresh_other, ident_goes, CodeUse, code_used, code_named}
use denote.Hole.Carrier

-- ---- kernels

abbrev pub NodeUses : ℕ → KNode → Type 0
NodeUses bound x = StmtUses bound x.stmt

pub record Holds (bound : ℕ) (d : Draft) : Type 0 where
  pub decls : AllOf (DeclUses bound) d.parts.decls
  pub list : AllOf (NodeUses bound) d.parts.list

module _ (bound : ℕ) where
  nodes_row : {n : _} (r : Row_of-KNode n) → AllOf (NodeUses bound) (items-the_row-KNode n r) → NodesUse bound r
  unfolding StmtUses
  nodes_row end_of-KNode h = tt
  nodes_row (more_of-KNode n p s rest) h = (h.0, nodes_row rest h.1)

  arms_row : {n : _} (r : Row_of-KArm n) → AllOf (ArmUses bound) (items-the_row-KArm n r) → ArmsUse bound r
  unfolding StmtUses
  arms_row end_of-KArm h = tt
  arms_row (more_of-KArm a rest) h = (h.0, arms_row rest h.1)

  blocks_row : {n : _} (r : Row_of-KBlock n) → AllOf (BlockUses bound) (items-the_row-KBlock n r) → BlocksUse bound r
  unfolding StmtUses
  blocks_row end_of-KBlock h = tt
  blocks_row (more_of-KBlock b rest) h = (h.0, blocks_row rest h.1)

  rolled_uses : (n : ℕ) (ds : List KDecl) (list : List KNode) → AllOf (DeclUses bound) ds → AllOf (NodeUses bound) list → BlockUses bound (roll-KBlock (record { node = n; decls = ds; list = list }))
  unfolding StmtUses roll-KBlock Carrier.roll
  rolled_uses n ds list h k = (h, nodes_row (hidden-the_row-KNode-2 list) (subst (AllOf (NodeUses bound)) (sym (items_hidden-the_row-KNode-2 list)) k))

  if_uses : (arms : List KArm) (last : KBlock) → AllOf (ArmUses bound) arms → BlockUses bound last → StmtUses bound (kernel.If arms last)
  unfolding StmtUses
  if_uses arms last h k = (arms_row (hidden-the_row-KArm-0 arms) (subst (AllOf (ArmUses bound)) (sym (items_hidden-the_row-KArm-0 arms)) h), k)

  par_uses : (kind : ParKind) (slot : ℕ) (bs : List KBlock) → AllOf (BlockUses bound) bs → StmtUses bound (kernel.Par kind slot bs)
  unfolding StmtUses
  par_uses kind slot bs h = blocks_row (hidden-the_row-KBlock-1 bs) (subst (AllOf (BlockUses bound)) (sym (items_hidden-the_row-KBlock-1 bs)) h)

  holds_as : (d e : Draft) → e.parts ≡ d.parts → Holds bound d → Holds bound e
  holds_as d e same h =
      record {
        decls = subst (λ ps. AllOf (DeclUses bound) ps) (sym (ap (λ p. p.decls) same)) h.decls;
        list = subst (λ ps. AllOf (NodeUses bound) ps) (sym (ap (λ p. p.list) same)) h.list;
      }

  holds_placed : (n : ℕ) (p : Pos) (st : KStmt) (d e : Draft) → e.parts ≡ d.parts → StmtUses bound st → Holds bound d → Holds bound (placed n p st e)
  unfolding placed
  holds_placed n p st d e same k h =
      let g : Holds bound e = holds_as d e same h in
      record { decls = g.decls; list = all_append (NodeUses bound) e.parts.list _ g.list k }

  holds_declared : (k : KKind) (x : Ident) (d : Draft) → DeclUses bound (record { slot = d.parts.slot; kind = k; name = x.name; pos = x.pos }) → Holds bound d → Holds bound (draft.declared k x d)
  unfolding draft.declared
  holds_declared k x d o h = record { decls = all_append (DeclUses bound) d.parts.decls _ h.decls o; list = h.list }

  pub holds_opened : (n : ℕ) (d : Draft) → Holds bound (draft.opened n d)
  unfolding draft.opened
  holds_opened n d = record { decls = tt; list = tt }

  pub holds_block : (n : ℕ) (f : Draft → Draft) (d : Draft) → Holds bound (f (draft.opened n d)) → BlockUses bound (block_of n f d)
  unfolding outside written
  holds_block n f d h = rolled_uses d.node (f (draft.opened n d)).parts.decls (f (draft.opened n d)).parts.list h.decls h.list

around_parts : (n : ℕ) (f : Draft → Draft) (d : Draft) → (around_block n f d).parts ≡ d.parts
unfolding outside draft.closed
around_parts n f d = refl

around_counts : (n : ℕ) (f : Draft → Draft) (d : Draft) → ((around_block n f d).uses ≡ (f (draft.opened n d)).uses) × ((around_block n f d).numbers ≡ (f (draft.opened n d)).numbers)
unfolding outside draft.closed
around_counts n f d = (refl, refl)

parts_of : (d e : Draft) → frame e ≡ frame d → e.parts ≡ d.parts
parts_of d e h = ap (λ (x : Draft). x.parts) h

-- uses and numbers stay
abbrev Calm : Draft → Draft → Type 0
Calm d e = (e.uses ≡ d.uses) × (e.numbers ≡ d.numbers)

calm_begun : (d : Draft) → Calm d (begun d)
unfolding begun
calm_begun d = (refl, refl)

calm_hidden : (n : ℕ) (d : Draft) → Calm d (hidden n d)
unfolding hidden
calm_hidden n d = (refl, refl)

calm_placed : (n : ℕ) (p : Pos) (st : KStmt) (d : Draft) → Calm d (placed n p st d)
unfolding placed
calm_placed n p st d = (refl, refl)

calm_opened : (n : ℕ) (d : Draft) → Calm d (draft.opened n d)
unfolding draft.opened
calm_opened n d = (refl, refl)

calm_labelled : (l : Label) (n : ℕ) (d : Draft) → Calm d (draft.labelled l n d)
unfolding draft.labelled
calm_labelled label.Plain n d = (refl, refl)
calm_labelled label.Under n d = (refl, refl)
calm_labelled (label.Named x) n d = (refl, refl)

calm_unlabelled : (l : Label) (d : Draft) → Calm d (draft.unlabelled l d)
unfolding draft.unlabelled
calm_unlabelled label.Plain d = (refl, refl)
calm_unlabelled label.Under d = (refl, refl)
calm_unlabelled (label.Named x) d = (refl, refl)

parts_begun : (d : Draft) → (begun d).parts ≡ d.parts
unfolding begun
parts_begun d = refl

parts_hidden : (n : ℕ) (d : Draft) → (hidden n d).parts ≡ d.parts
unfolding hidden
parts_hidden n d = refl

declared_numbers : (k : KKind) (x : Ident) (d : Draft) → ((draft.declared k x d).uses ≡ d.uses) × ((draft.declared k x d).numbers ≡ d.numbers ++ d.parts.slot ∷ [])
unfolding draft.declared
declared_numbers k x d = (refl, refl)

always_map : {A : Type 0} (P Q : A → Type 0) (x : Result A Broken) → ((a : A) → P a → Q a) → Always P x → Always Q x
always_map P Q x f h a e = f a (h a e)

module _ (s : Scopes) (t : Types) (limit bound : ℕ) (le : limit ≤ bound) where
  -- a step of both, by which the block around uses what it may use
  pub record Part (w : Walk) (d : Draft) (v : Walk) (e : Draft) : Type 0 where
    pub step : Step s limit w d v e
    pub uses : Both s limit w d → Fits s v → Holds bound d → Holds bound e

  abbrev pub Parts : Walk → Draft → Result Walk Broken → Draft → Type 0
  Parts w d x e = Always (λ v. Part w d v e) x

  pub part_then : {w v u : Walk} {d e c : Draft} → Part w d v e → Part v e u c → Part w d u c
  part_then a b =
      record { step = step_then s limit a.step b.step; uses = λ both fits h. b.uses (a.step.both both) fits (a.uses both (b.step.fits fits) h) }

  pub parts_then : (w : Walk) (d e c : Draft) (x : Result Walk Broken) (f : Walk → Result Walk Broken) → Parts w d x e → ((v : Walk) → Parts v e (f v) c) → Parts w d (x >>= f) c
  parts_then w d e c x f a b = always_then (λ v. Part w d v e) (λ v. Part w d v c) x f a (λ v k u h. part_then k (b v u h))

  -- the block around stays
  pub same_part : {w v : Walk} {d e : Draft} → Step s limit w d v e → e.parts ≡ d.parts → Part w d v e
  same_part {d = d} {e = e} step same = record { step = step; uses = λ both fits h. holds_as bound d e same h }

  same_parts : (w : Walk) (d e : Draft) (x : Result Walk Broken) → e.parts ≡ d.parts → Goes s limit w d x e → Parts w d x e
  same_parts w d e x same h v k = same_part (h v k) same

  calm_step : (w : Walk) (d e : Draft) → Calm d e → Step s limit w d w e
  calm_step w d e k = draft_step s limit w d e k.0 k.1

  -- a statement of the kernel
  placed_part : (p : Pos) (st : KStmt) (w v : Walk) (d c : Draft) → Step s limit w (begun d) v c → c.parts ≡ d.parts → (Both s limit w d → Fits s v → StmtUses bound st) → Part w d v (placed d.node p st c)
  placed_part p st w v d c step same stands =
      record {
        step = step_then s limit (calm_step w d (begun d) (calm_begun d)) (step_then s limit step (calm_step v c (placed d.node p st c) (calm_placed d.node p st c)));
        uses = λ both fits h. holds_placed bound d.node p st d c same (stands both fits) h;
      }

  placed_parts : (p : Pos) (st : KStmt) (w : Walk) (d c : Draft) (x : Result Walk Broken) → Goes s limit w (begun d) x c → c.parts ≡ d.parts → ((v : Walk) → Both s limit w d → Fits s v → StmtUses bound st) → Parts w d x (placed d.node p st c)
  placed_parts p st w d c x h same stands v k = placed_part p st w v d c (h v k) same (stands v)

  simple_parts : (p : Pos) (st : KStmt) (w : Walk) (d : Draft) → StmtUses bound st → Parts w d (Ok w) (simple p st d)
  simple_parts p st w d stands = placed_parts p st w d (begun d) (Ok w) (still_goes s limit w (begun d) (begun d) refl refl) (parts_begun d) (λ v both fits. stands)

  -- ---- assignments, emissions, escapes

  assigned_parts : (p : Pos) (into : Loc) (e : Exp) (w : Walk) (d : Draft) → Parts w d (exp_walked e w) (assigned s t p into e d)
  unfolding StmtUses
  assigned_parts p into e w d =
      placed_parts p (kernel.Assign into (exp_written s t e (begun d))) w d (exp_passed e (begun d)) (exp_walked e w) (exp_goes s limit e w (begun d)) (parts_of (begun d) (exp_passed e (begun d)) (frame_exp e (begun d)) ∙ parts_begun d)
      (λ v both fits. tt)

  sent_uses : (b : Bool) (n : ℕ) (e : Option Exp) (c : Draft) → StmtUses bound (sent s t b n e c)
  unfolding StmtUses
  sent_uses true n e c = tt
  sent_uses false n e c = tt

  emitted_parts : (p : Pos) (x : Ident) (e : Option Exp) (w : Walk) (d : Draft) → Parts w d (emit_walked x e w) (emitted s t p e d)
  unfolding emitted
  emitted_parts p x e w d =
      let d' = begun d in
      let c = if_exp_passed e (uses.used d') in
      placed_parts p (sent s t (names_output s d'.uses) (use_number s d') e (uses.used d')) w d c (emit_walked x e w)
      (goes_then s limit w d' (uses.used d') c (named role.Emitted x w) (if_exp_walked e) (used_goes s limit role.Emitted x w d') (λ v. if_exp_goes s limit e v (uses.used d')))
      (parts_of d' c (frame_if_exp e (uses.used d') ∙ frame_used d') ∙ parts_begun d)
      (λ v both fits. sent_uses (names_output s d'.uses) (use_number s d') e (uses.used d'))

  escaped_parts : (a : Around) (p : Pos) (l : Option Ident) (e : Option Exp) (w : Walk) (d : Draft) → Parts w d (leave_walked l e w) (escaped s t a p l e d)
  unfolding escaped StmtUses
  escaped_parts a p l e w d =
      let d' = begun d in
      let c = if_exp_passed e d' in
      placed_parts p (kernel.Escape (uses.target a l d) (if_exp_written s t e d')) w d c (leave_walked l e w)
      (goes_then s limit w d' d' c (escape_walked l w) (if_exp_walked e) (escape_goes s limit l w d') (λ v. if_exp_goes s limit e v d')) (parts_of d' c (frame_if_exp e d') ∙ parts_begun d) (λ v both fits. tt)

  killed_parts : (p : Pos) (x : Ident) (w : Walk) (d : Draft) → Parts w d (named role.Alias x w) (killed s p d)
  unfolding killed StmtUses
  killed_parts p x w d =
      placed_parts p (kernel.Kill (use_number s (begun d))) w d (uses.used (begun d)) (named role.Alias x w) (used_goes s limit role.Alias x w (begun d)) (parts_of (begun d) (uses.used (begun d)) (frame_used (begun d)) ∙ parts_begun d)
      (λ v both fits. tt)

  -- ---- awaits

  await_uses : (p : Pos) (into : Option Loc) (x : Target) (c : Draft) → StmtUses bound (await_written s t p into x c)
  unfolding await_written StmtUses
  await_uses p into (target.Ext x) c = tt
  await_uses p into (target.Event x) c = tt
  await_uses p into (target.Time us) c = tt
  await_uses p into (target.TimeExp e u) c = tt

  target_parts : (p : Pos) (into : Option Loc) (x : Target) (w : Walk) (d : Draft) → Parts w d (target_walked x w) (target_awaited s t p into x d)
  unfolding target_awaited
  target_parts p into x w d =
      placed_parts p (await_written s t p into x (begun d)) w d (target_passed x (begun d)) (target_walked x w) (target_goes s limit x w (begun d)) (parts_of (begun d) (target_passed x (begun d)) (frame_target x (begun d)) ∙ parts_begun d)
      (λ v both fits. await_uses p into x (begun d))

  -- a block around a part of the walk
  block_step : (n : ℕ) (f : Draft → Draft) (w v : Walk) (d : Draft) → Step s limit w (draft.opened n d) v (f (draft.opened n d)) → Step s limit w d v (around_block n f d)
  block_step n f w v d h =
      let k = around_counts n f d in
      step_then s limit (calm_step w d (draft.opened n d) (calm_opened n d)) (step_then s limit h (draft_step s limit v (f (draft.opened n d)) (around_block n f d) k.0 k.1))

  simple_step : (p : Pos) (st : KStmt) (w : Walk) (d : Draft) → Step s limit w d w (simple p st d)
  simple_step p st w d = step_then s limit (calm_step w d (begun d) (calm_begun d)) (calm_step w (begun d) (placed d.node p st (begun d)) (calm_placed d.node p st (begun d)))

  break_block : (loop : ℕ) (p : Pos) (c : Draft) → BlockUses bound (block_of 0 (simple p (kernel.Break loop)) c)
  unfolding StmtUses
  break_block loop p c =
      holds_block bound 0 (simple p (kernel.Break loop)) c
      (holds_placed bound (draft.opened 0 c).node p (kernel.Break loop) (draft.opened 0 c) (begun (draft.opened 0 c)) (parts_begun (draft.opened 0 c)) tt (holds_opened bound 0 c))

  empty_block : (c : Draft) → BlockUses bound (block_of 0 nothing_in c)
  empty_block c = holds_block bound 0 nothing_in c (holds_opened bound 0 c)

  broken_parts : (loop : ℕ) (p : Pos) (c : Exp) (w : Walk) (d : Draft) → Parts w d (exp_walked c w) (broken_if s t loop p c d)
  unfolding broken_if StmtUses
  broken_parts loop p c w d v k =
      let after = exp_passed c (begun d) in
      let break = simple p (kernel.Break loop) in
      let behind = around_block 0 break after in
      let last = around_block 0 nothing_in behind in
      placed_part p (kernel.If (KArm' (exp_written s t c (begun d)) (block_of 0 break after) ∷ []) (block_of 0 nothing_in behind)) w v d last
      (step_then s limit (exp_goes s limit c w (begun d) v k)
      (step_then s limit (block_step 0 break v v after (simple_step p (kernel.Break loop) v (draft.opened 0 after))) (block_step 0 nothing_in v v behind (calm_step v (draft.opened 0 behind) (draft.opened 0 behind) (refl, refl)))))
      (around_parts 0 nothing_in behind ∙ around_parts 0 break after ∙ parts_of (begun d) after (frame_exp c (begun d)) ∙ parts_begun d)
      (λ both fits. if_uses bound (KArm' (exp_written s t c (begun d)) (block_of 0 break after) ∷ []) (block_of 0 nothing_in behind) (break_block loop p after, tt) (empty_block behind))

  until_parts : (p : Pos) (into : Option Loc) (x : Target) (c : Exp) (w : Walk) (d : Draft) → Parts w d (target_walked x w >>= if_exp_walked (Some c)) (awaited_until s t p into x c d)
  unfolding awaited_until StmtUses
  until_parts p into x c w d v k =
      let body = awaited_and_asked s t d.node p into x c in
      let start = draft.opened 0 (begun d) in
      let middle = target_awaited s t p into x start in
      let inside : Part w start v (body start) = parts_then w start middle (body start) (target_walked x w) (if_exp_walked (Some c)) (target_parts p into x w start) (λ u. broken_parts d.node p c u middle) v k in
      placed_part p (kernel.Loop turns.Free (block_of 0 body (begun d))) w v d (around_block 0 body (begun d)) (block_step 0 body w v (begun d) inside.step) (around_parts 0 body (begun d) ∙ parts_begun d)
      (λ both fits. holds_block bound 0 body (begun d) (inside.uses ((step_then s limit (calm_step w d (begun d) (calm_begun d)) (calm_step w (begun d) start (calm_opened 0 (begun d)))).both both) fits (holds_opened bound 0 (begun d))))

  -- the number of a use stays while no use is passed
  same_number : (d e : Draft) → Calm d e → use_number s e ≡ use_number s d
  unfolding use_number
  same_number d e k = ap (λ n. uses.number_of s e.numbers n) k.0 ∙ ap (λ ns. uses.number_of s ns d.uses) k.1

  code_parts : (p : Pos) (into : Option Loc) (c : Call) (w : Walk) (d : Draft) → Parts w d (call_walked c w) (code_awaited s t p into c d)
  unfolding code_awaited StmtUses
  code_parts p into c w d =
      let start = hidden 1 (begun d) in
      let inside = uses.used start in
      let last = each exp_passed c.args inside in
      let first = step_then s limit (calm_step w d (begun d) (calm_begun d)) (calm_step w (begun d) start (calm_hidden 1 (begun d))) in
      always_then (λ v. CodeUse s limit w start v inside) (λ v. Part w d v (placed d.node p _ last)) (named role.Code c.code w) (exps_walked c.args) (code_named s limit c.code w start)
      (λ u k.
      always_map (λ v. Step s limit u inside v last) (λ v. Part w d v (placed d.node p _ last)) (exps_walked c.args u)
      (λ v rest.
      placed_part p _ w v d last (step_then s limit (calm_step w (begun d) start (calm_hidden 1 (begun d))) (step_then s limit k.step rest))
      (parts_of start last (frame_each exp_passed frame_exp c.args inside ∙ frame_used start) ∙ parts_hidden 1 (begun d) ∙ parts_begun d)
      (λ both fits. let lt = k.below (first.both both) (rest.fits fits) in omega (arith, le, lt)))
      (exps_go s limit c.args u inside))

  await_parts : (p : Pos) (into : Option Loc) (x : Await) (w : Walk) (d : Draft) → Parts w d (await_walked x w) (awaited s t p into x d)
  unfolding awaited StmtUses ◌>>=◌
  await_parts p into await.Forever w d = simple_parts p kernel.Forever w d tt
  await_parts p into (await.Code c) w d = code_parts p into c w d
  await_parts p into (await.On x None) w d = parts_then w d _ _ (target_walked x w) (λ v. Ok v) (target_parts p into x w d) (λ v. same_parts v _ _ (Ok v) refl (still_goes s limit v _ _ refl refl))
  await_parts p into (await.On x (Some c)) w d = until_parts p into x c w d

  -- ---- spawns, pools and aliases

  spawned_parts : (alias : Option ℕ) (x : Spawn) (w : Walk) (d : Draft) → Parts w d (spawn_walked x w) (parts.spawned s t alias x d)
  unfolding parts.spawned StmtUses
  spawned_parts alias x w d =
      let d' = begun d in
      let inside = uses.used d' in
      let behind = each exp_passed x.call.args inside in
      let st = kernel.Spawn (use_number s d') _ (use_number s behind) alias in
      always_then (λ (p : Known × Walk). CodeUse s limit w d' p.1 inside) (λ v. Part w d v (placed d.node x.pos st (uses.used behind))) (used role.Code x.call.code w) (spawned x) (code_used s limit x.call.code w d')
      (λ p k.
      always_map (λ v. Step s limit p.1 inside v (uses.used behind)) (λ v. Part w d v (placed d.node x.pos st (uses.used behind))) (spawned x p)
      (λ v rest.
      placed_part x.pos st w v d (uses.used behind) (step_then s limit k.step rest)
      (parts_of d' (uses.used behind) (frame_used behind ∙ frame_each exp_passed frame_exp x.call.args inside ∙ frame_used d') ∙ parts_begun d)
      (λ both fits. let lt = k.below ((calm_step w d d' (calm_begun d)).both both) (rest.fits fits) in omega (arith, le, lt)))
      (goes_then s limit p.1 inside behind (uses.used behind) (exps_walked x.call.args p.1) (pool_used p.0.number x.pool) (exps_go s limit x.call.args p.1 inside) (λ v. pool_goes s limit p.0.number x.pool v behind)))

  started_parts : (p : Pos) (alias : ℕ) (x : Option Spawn) (w : Walk) (d : Draft) → Parts w d (if_spawn_walked x w) (started s t p alias x d)
  unfolding StmtUses
  started_parts p alias None w d = simple_parts p (kernel.Unset alias) w d tt
  started_parts p alias (Some x) w d = spawned_parts (Some alias) x w d

  -- a declaration that names code
  code_declared : (c : Class) (u : Ty) (r : Option Rule) (k : KKind) (x : Ident) (w v : Walk) (d : Draft) → (use_number s d < bound → KindUses bound k) → CodeUse s limit w d v (uses.used d) →
      Parts w d (declared c u r x v) (draft.declared k x (uses.used d))
  code_declared c u r k x w v d ok named_code =
      let d' = uses.used d in
      let e = draft.declared k x d' in
      let counts = declared_numbers k x d' in
      always_map (λ a. Step s limit v d' a e) (λ a. Part w d a e) (declared c u r x v)
      (λ a step.
      record {
        step = step_then s limit named_code.step step;
        uses = λ both fits h.
            let lt = named_code.below both (step.fits fits) in
            holds_declared bound k x d' (ok (omega (arith, le, lt))) (holds_as bound d d' (parts_of d d' (frame_used d)) h);
      })
      (declared_goes s limit c u r x d'.parts.slot v d' e counts.0 counts.1)

  shown_parts : (x : Ident) (k : Known) (w : Walk) (d : Draft) → is_code k.class ≡ false → Parts w d (shown x k w) d
  shown_parts x k w d other = same_parts w d d (shown x k w) refl (shown_goes s limit x k w d other)

  pool_parts : (places : ℕ) (code x : Ident) (w : Walk) (d : Draft) → Parts w d (pool_walked code x w) (parts.pool_declared s places x d)
  unfolding parts.pool_declared
  pool_parts places code x w d =
      let k = kind.Pool places (use_number s d) in
      let e = draft.declared k x (uses.used d) in
      always_then (λ (p : Known × Walk). CodeUse s limit w d p.1 (uses.used d)) (λ v. Part w d v e) (used role.Code code w) (pool_declared x) (code_used s limit code w d)
      (λ p named_code.
      always_then (λ v. Part w d v e) (λ v. Part w d v e) (declared class.Pool ty.None None x p.1) (shown x (fresh class.Pool p.0.number p.1)) (code_declared class.Pool ty.None None k x w p.1 d (λ h. h) named_code)
      (λ v part. always_map (λ u. Part v e u e) (λ u. Part w d u e) (shown x (fresh class.Pool p.0.number p.1) v) (λ u rest. part_then part rest) (shown_parts x (fresh class.Pool p.0.number p.1) v e (fresh_other s limit class.Pool p.0.number p.1 refl))))

  alias_parts : (p : Pos) (code x : Ident) (start : Option Spawn) (w : Walk) (d : Draft) → Parts w d (alias_walked code x start w) (parts.alias_declared s t p x start d)
  unfolding parts.alias_declared
  alias_parts p code x start w d =
      let k = kind.Alias (use_number s d) in
      let e = draft.declared k x (uses.used d) in
      let c = started s t p d.parts.slot start e in
      always_then (λ (q : Known × Walk). CodeUse s limit w d q.1 (uses.used d)) (λ v. Part w d v c) (used role.Code code w) (alias_declared x start) (code_used s limit code w d)
      (λ q named_code.
      let alias = fresh class.Alias q.0.number q.1 in
      let r = start_broken q.1.scopes start alias in
      always_then (λ v. Part w d v c) (λ v. Part w d v c) (declared class.Alias ty.None r x q.1 >>= if_spawn_walked start) (shown x alias)
      (always_then (λ v. Part w d v e) (λ v. Part w d v c) (declared class.Alias ty.None r x q.1) (if_spawn_walked start) (code_declared class.Alias ty.None r k x w q.1 d (λ h. h) named_code)
      (λ v part. always_map (λ u. Part v e u c) (λ u. Part w d u c) (if_spawn_walked start v) (λ u rest. part_then part rest) (started_parts p d.parts.slot start v e)))
      (λ v part. always_map (λ u. Part v c u c) (λ u. Part w d u c) (shown x alias v) (λ u rest. part_then part rest) (shown_parts x alias v c (fresh_other s limit class.Alias q.0.number q.1 refl))))

  -- ---- names that take no slots

  each_parts : {A : Type 0} (step : A → Walk → Result Walk Broken) (pass : A → Draft → Draft) → ((x : A) (w : Walk) (d : Draft) → Parts w d (step x w) (pass x d)) → (xs : List A) (w : Walk) (d : Draft) → Parts w d (walk.each step xs w) (each pass xs d)
  unfolding each walk.each
  each_parts step pass h [] w d = same_parts w d d (Ok w) refl (still_goes s limit w d d refl refl)
  each_parts step pass h (x ∷ xs) w d = parts_then w d (pass x d) (each pass xs (pass x d)) (step x w) (walk.each step xs) (h x w d) (λ v. each_parts step pass h xs v (pass x d))

  event_parts : (code : Option ℕ) (u : Ty) (x : Ident) (w : Walk) (d : Draft) → Parts w d (ident_declared class.Event u None x w) (event_declared code u x d)
  unfolding event_declared
  event_parts code u x w d = same_parts w d _ (ident_declared class.Event u None x w) refl (ident_goes s limit class.Event u None x (length d.events) w d _ refl refl refl)

  input_parts : (u : Ty) (x : Ident) (w : Walk) (d : Draft) → Parts w d (port_declared class.Input u x w) (input_declared u x d)
  unfolding input_declared
  input_parts u x w d = same_parts w d _ (port_declared class.Input u x w) refl (ident_goes s limit class.Input u (inside_broken w.scopes) x (length d.inputs) w d _ refl refl refl)

  output_parts : (u : Ty) (x : Ident) (w : Walk) (d : Draft) → Parts w d (port_declared class.Output u x w) (output_declared u x d)
  unfolding output_declared
  output_parts u x w d = same_parts w d _ (port_declared class.Output u x w) refl (ident_goes s limit class.Output u (inside_broken w.scopes) x (length d.outputs) w d _ refl refl refl)

  var_parts : (u : Ty) (r : Option Rule) (x : Ident) (w : Walk) (d : Draft) → Parts w d (declared class.Var u r x w) (draft.declared (kind.Var u) x d)
  var_parts u r x w d =
      let e = draft.declared (kind.Var u) x d in
      let counts = declared_numbers (kind.Var u) x d in
      always_map (λ v. Step s limit w d v e) (λ v. Part w d v e) (declared class.Var u r x w)
      (λ v step. record { step = step; uses = λ both fits h. holds_declared bound (kind.Var u) x d tt h }) (declared_goes s limit class.Var u r x d.parts.slot w d e counts.0 counts.1)

  -- ---- blocks, as parts of statements

  pub record Made (w : Walk) (d : Draft) (v : Walk) (e : Draft) (U : Type 0) : Type 0 where
    pub step : Step s limit w d v e
    pub same : e.parts ≡ d.parts
    pub uses : Both s limit w d → Fits s v → U

  abbrev pub Makes : Walk → Draft → Result Walk Broken → Draft → Type 0 → Type 0
  Makes w d x e U = Always (λ v. Made w d v e U) x

  -- a statement whose only part is this one
  of_made : (p : Pos) (st : KStmt) (U : Type 0) (w : Walk) (d c e : Draft) (x : Result Walk Broken) → Step s limit w (begun d) w c → c.parts ≡ d.parts → (U → StmtUses bound st) → Makes w c x e U → Parts w d x (placed d.node p st e)
  of_made p st U w d c e x first same stands h v k =
      let m = h v k in
      placed_part p st w v d e (step_then s limit first m.step) (m.same ∙ same) (λ both fits. stands (m.uses ((step_then s limit (calm_step w d (begun d) (calm_begun d)) first).both both) fits))

  made_then : (U V : Type 0) (w : Walk) (d e c : Draft) (x : Result Walk Broken) (f : Walk → Result Walk Broken) → Makes w d x e U → ((v : Walk) → Makes v e (f v) c V) → Makes w d (x >>= f) c (U × V)
  made_then U V w d e c x f a b =
      always_then (λ v. Made w d v e U) (λ v. Made w d v c (U × V)) x f a
      (λ v m u k.
      let n = b v u k in
      record { step = step_then s limit m.step n.step; same = n.same ∙ m.same; uses = λ both fits. (m.uses both (n.step.fits fits), n.uses (m.step.both both) fits) })

  -- a walk comes first, which leaves the block around as it is
  made_after : (U : Type 0) (w : Walk) (d e c : Draft) (x : Result Walk Broken) (f : Walk → Result Walk Broken) → e.parts ≡ d.parts → Goes s limit w d x e → ((v : Walk) → Makes v e (f v) c U) → Makes w d (x >>= f) c U
  made_after U w d e c x f same a b =
      always_then (λ v. Step s limit w d v e) (λ v. Made w d v c U) x f a
      (λ v m u k. let n = b v u k in record { step = step_then s limit m n.step; same = n.same ∙ same; uses = λ both fits. n.uses (m.both both) fits })

  -- a block of the text
  block_made : (n : ℕ) (f : Draft → Draft) (border : Border) (w : Walk) (d : Draft) (x : Walk → Result Walk Broken) → ((v : Walk) → Parts v (draft.opened n d) (x v) (f (draft.opened n d))) →
      Makes w d (x (opened border w) >>= closed) (around_block n f d) (BlockUses bound (block_of n f d))
  block_made n f border w d x h =
      let start = draft.opened n d in
      let w' = opened border w in
      let enter = step_then s limit (calm_step w d start (calm_opened n d)) (opened_step s limit border w start) in
      let k = around_counts n f d in
      always_then (λ v. Part w' start v (f start)) (λ v. Made w d v (around_block n f d) (BlockUses bound (block_of n f d))) (x w') closed (h w')
      (λ v part u e.
      let leave = step_then s limit (closed_goes s limit v (f start) u e) (draft_step s limit u (f start) (around_block n f d) k.0 k.1) in
      record {
        step = step_then s limit enter (step_then s limit part.step leave);
        same = around_parts n f d;
        uses = λ both fits. holds_block bound n f d (part.uses (enter.both both) (leave.fits fits) (holds_opened bound n d));
      })

  turns_calm : (limit' : Option ℕ) (d : Draft) → Calm d (turns_passed limit' d)
  unfolding turns_passed
  turns_calm None d = (refl, refl)
  turns_calm (Some n) d = calm_hidden 1 d

  turns_parts : (limit' : Option ℕ) (d : Draft) → (turns_passed limit' d).parts ≡ d.parts
  unfolding turns_passed
  turns_parts None d = refl
  turns_parts (Some n) d = parts_hidden 1 d

  range_calm : (d : Draft) → Calm d (range_hidden d)
  unfolding hidden
  range_calm d = (refl, refl)

  -- the ends of a range, and its variable
  range_goes : (x : Ident) (low high : Exp) (w : Walk) (d : Draft) → Goes s limit w d (exp_walked low w >>= exp_walked high >>= range_opened x) (range_passed low high d)
  unfolding range_passed standing
  range_goes x low high w d =
      let three = range_hidden d in
      let d1 = exp_passed low three in
      let d2 = exp_passed high d1 in
      let last = standing d.slot d2 in
      draft_goes s limit w d three last (exp_walked low w >>= exp_walked high >>= range_opened x) (range_calm d).0 (range_calm d).1
      (goes_then s limit w three d2 last (exp_walked low w >>= exp_walked high) (range_opened x) (goes_then s limit w three d1 d2 (exp_walked low w) (exp_walked high) (exp_goes s limit low w three) (λ v. exp_goes s limit high v d1))
      (λ v u k. step_then s limit (opened_step s limit Plain v d2) (ident_goes s limit class.LoopVar ty.S32 None x d.slot (opened Plain v) d2 last refl refl refl u k)))

  range_parts : (low high : Exp) (d : Draft) → (range_passed low high d).parts ≡ d.parts
  unfolding range_passed hidden
  range_parts low high d =
      let three = hidden 1 (hidden 1 (hidden 1 d)) in
      parts_of three (standing d.slot (exp_passed high (exp_passed low three))) (frame_standing d.slot (exp_passed high (exp_passed low three)) ∙ frame_exp high (exp_passed low three) ∙ frame_exp low three)

  unlabelled_parts : (l : Label) (n : ℕ) (d c e : Draft) → c.parts ≡ (draft.labelled l n d).parts → e ≡ draft.unlabelled l c → e.parts ≡ d.parts
  unlabelled_parts l n d c e same is =
      ap (λ (x : Draft). x.parts) is ∙ parts_of c (draft.unlabelled l c) (frame_unlabelled l c) ∙ same ∙ parts_of d (draft.labelled l n d) (frame_labelled l n d)

  -- a `do`: its labels, its block
  do_made : (l : Label) (n : ℕ) (U : Type 0) (w : Walk) (d c : Draft) (x : Walk → Result Walk Broken) → ((v : Walk) → Makes v (draft.labelled l n d) (x v) c U) →
      Makes w d (x (labelled l w) >>= unlabelled l) (draft.unlabelled l c) U
  do_made l n U w d c x h =
      let inside = draft.labelled l n d in
      let enter = step_then s limit (calm_step w d inside (calm_labelled l n d)) (labelled_step s limit l w inside) in
      always_then (λ v. Made (labelled l w) inside v c U) (λ v. Made w d v (draft.unlabelled l c) U) (x (labelled l w)) (unlabelled l) (h (labelled l w))
      (λ v m u e.
      let leave = step_then s limit (unlabelled_goes s limit l v c u e) (calm_step u c (draft.unlabelled l c) (calm_unlabelled l c)) in
      record {
        step = step_then s limit enter (step_then s limit m.step leave);
        same = unlabelled_parts l n d c (draft.unlabelled l c) m.same refl;
        uses = λ both fits. m.uses (enter.both both) (leave.fits fits);
      })

  -- the head of an `every`
  every_head : (p : Pos) (x : Option Ident) (target : Target) (w : Walk) (d : Draft) → Parts w d (every_walked x target w) (target_awaited s t p (if_variable s x d) target (if_used x d))
  every_head p None target w d = target_parts p None target w d
  every_head p (Some x) target w d =
      parts_then w d (uses.used d) (target_awaited s t p (Some (variable s x d)) target (uses.used d)) (named role.Written x w) (target_walked target)
      (same_parts w d (uses.used d) (named role.Written x w) (parts_of d (uses.used d) (frame_used d)) (used_goes s limit role.Written x w d)) (λ v. target_parts p (Some (variable s x d)) target v (uses.used d))

  mutual
    unfolding NoCode stmt_walked stmt_written StmtUses

    pub stmt_parts : (a : Around) (p : Pos) (st : Stmt) → NoCode st → (w : Walk) (d : Draft) → Parts w d (stmt_walked st w) (stmt_written s t a p st d)
    stmt_parts a p stmt.Nothing k w d = simple_parts p kernel.Nothing w d tt
    stmt_parts a p stmt.Break k w d = simple_parts p (kernel.Break a.turns) w d tt
    stmt_parts a p stmt.Continue k w d = simple_parts p (kernel.Continue a.turns) w d tt
    stmt_parts a p (Vars' u _ items) k w d = items_parts a p u items k w d
    stmt_parts a p (stmt.AliasDecl code x start) k w d = alias_parts p code x start w d
    stmt_parts a p (stmt.Events u xs) k w d = each_parts (ident_declared class.Event u None) (event_declared a.code u) (event_parts a.code u) xs w d
    stmt_parts a p (stmt.Inputs u xs) k w d = each_parts (port_declared class.Input u) (input_declared u) (input_parts u) xs w d
    stmt_parts a p (stmt.Outputs u xs) k w d = each_parts (port_declared class.Output u) (output_declared u) (output_parts u) xs w d
    stmt_parts a p (stmt.Pool n code x) k w d = pool_parts n code x w d
    stmt_parts a p (stmt.Code x ps result b) k w d = absurd k
    stmt_parts a p (stmt.Assign x v) k w d =
        parts_then w d (uses.used d) (source_written s t a p (variable s x d) v (uses.used d)) (target_assigned v x w) (source_walked v)
        (same_parts w d (uses.used d) (target_assigned v x w) (parts_of d (uses.used d) (frame_used d)) (assigned_goes s limit v x w d)) (λ u. source_parts a p (variable s x d) v k u (uses.used d))
    stmt_parts a p (stmt.Emit x e) k w d = emitted_parts p x e w d
    stmt_parts a p (stmt.Await x) k w d = await_parts p None x w d
    stmt_parts a p (stmt.Spawn x) k w d = spawned_parts None x w d
    stmt_parts a p (stmt.Kill x) k w d = killed_parts p x w d
    stmt_parts a p (stmt.Escape l e) k w d = escaped_parts a p l e w d
    stmt_parts a p (stmt.Do b) k w d = do_parts a p None b k w d
    stmt_parts a p (stmt.Finalize b) k w d =
        of_made p (kernel.Finalize (block_written s t a b (begun d))) (BlockUses bound (block_written s t a b (begun d))) w d (begun d) (block_passed s t a b (begun d)) (block_walked b Plain w) (calm_step w (begun d) (begun d) (refl, refl)) (parts_begun d) (λ u. u)
        (block_parts a b Plain k w (begun d))
    stmt_parts a p (If' _ arms last) k w d =
        let d' = begun d in
        let e = arms_passed s t a arms d' in
        let made = arms_written s t a arms d' in
        let rest = last_written s t a last e in
        of_made p (kernel.If made rest) (AllOf (ArmUses bound) made × BlockUses bound rest) w d d' (last_passed s t a last e) (arms_walked arms w >>= last_walked last) (calm_step w d' d' (refl, refl)) (parts_begun d) (λ u. if_uses bound made rest u.0 u.1)
        (made_then (AllOf (ArmUses bound) made) (BlockUses bound rest) w d' e (last_passed s t a last e) (arms_walked arms w) (last_walked last) (arms_parts a arms k.0 w d') (λ v. last_parts a last k.1 v e))
    stmt_parts a p (stmt.Loop turns b) k w d =
        let c = turns_passed turns (begun d) in
        of_made p (kernel.Loop (turns_written turns (begun d)) (block_written s t (in_loop d.node a) b c)) (BlockUses bound (block_written s t (in_loop d.node a) b c)) w d c (block_passed s t (in_loop d.node a) b c) (block_walked b Plain w)
        (calm_step w (begun d) c (turns_calm turns (begun d))) (turns_parts turns (begun d) ∙ parts_begun d) (λ u. u) (block_parts (in_loop d.node a) b Plain k w c)
    stmt_parts a p (stmt.Range r) k w d = ranged_parts a p r k w d
    stmt_parts a p (stmt.Every x target b) k w d = every_parts a p x target b k w d
    stmt_parts a p (stmt.Watching target b) k w d =
        let d' = begun d in
        let f = target_awaited s t p None target in
        let inside = around_block 0 f d' in
        let first = block_of 0 f d' in
        let second = block_written s t a b inside in
        of_made p (kernel.Par par.Or 0 (first ∷ second ∷ [])) (BlockUses bound first × BlockUses bound second) w d d' (block_passed s t a b inside) (target_walked target w >>= block_walked b Plain) (calm_step w d' d' (refl, refl)) (parts_begun d)
        (λ u. par_uses bound par.Or 0 (first ∷ second ∷ []) (u.0, (u.1, tt)))
        (made_then (BlockUses bound first) (BlockUses bound second) w d' inside (block_passed s t a b inside) (target_walked target w) (block_walked b Plain)
        (always_map (λ v. Part w (draft.opened 0 d') v (f (draft.opened 0 d'))) (λ v. Made w d' v inside (BlockUses bound first)) (target_walked target w)
        (λ v part.
        record {
          step = block_step 0 f w v d' part.step;
          same = around_parts 0 f d';
          uses = λ both fits. holds_block bound 0 f d' (part.uses ((calm_step w d' (draft.opened 0 d') (calm_opened 0 d')).both both) fits (holds_opened bound 0 d'));
        })
        (target_parts p None target w (draft.opened 0 d')))
        (λ v. block_parts a b Plain k v inside))
    stmt_parts a p (Par' kind _ bs) k w d =
        let c = hidden (par_hidden kind (row_blocks bs)) (begun d) in
        let made = blocks_written s t a bs c in
        of_made p (kernel.Par kind (par_slot kind d.slot) made) (AllOf (BlockUses bound) made) w d c (blocks_passed s t a bs c) (blocks_walked bs w) (calm_step w (begun d) c (calm_hidden (par_hidden kind (row_blocks bs)) (begun d)))
        (parts_hidden (par_hidden kind (row_blocks bs)) (begun d) ∙ parts_begun d) (λ u. par_uses bound kind (par_slot kind d.slot) made u) (blocks_parts a bs k w c)
    stmt_parts a p (stmt.Async xs b) k w d =
        let d' = begun d in
        let inside = each name_passed xs d' in
        let made = block_written s t a b inside in
        let e = block_passed s t a b inside in
        of_made p (kernel.Async made) (BlockUses bound made) w d d' e (stmt_walked (stmt.Async xs b) w) (calm_step w d' d' (refl, refl)) (parts_begun d) (λ u. u)
        (always_then (λ (q : List ℕ × Walk). Step s limit w d' q.1 inside) (λ v. Made w d' v e (BlockUses bound made)) (walk.each name_listed xs ([], w)) (λ listed. block_walked b (Async listed.0) listed.1) (list_goes s limit xs ([], w) d')
        (λ q step u h.
        let m = block_parts a b (Async q.0) k q.1 inside u h in
        record { step = step_then s limit step m.step; same = m.same ∙ parts_of d' inside (frame_each name_passed (λ x e. frame_used e) xs d'); uses = λ both fits. m.uses (step.both both) fits }))

    source_parts : (a : Around) (p : Pos) (into : Loc) (v : Source) → NoCodeInSource v → (w : Walk) (d : Draft) → Parts w d (source_walked v w) (source_written s t a p into v d)
    source_parts a p into (source.Value e) k w d = assigned_parts p into e w d
    source_parts a p into (source.Wait x) k w d = await_parts p (Some into) x w d
    source_parts a p into (source.Start x) k w d = spawned_parts (Some into.slot) x w d
    source_parts a p into (source.Done b) k w d = do_parts a p (Some into) b k w d

    value_parts : (a : Around) (p : Pos) (into : Loc) (v : Held-Item-value) → NoCodeInValue v → (w : Walk) (d : Draft) → Parts w d (value_walked v w) (value_written s t a p into v d)
    value_parts a p into Item-value-None' k w d = simple_parts p _ w d tt
    value_parts a p into (Item-value-Some' v) k w d = source_parts a p into v k w d

    do_parts : (a : Around) (p : Pos) (into : Option Loc) (made : Do) → NoCodeInDo made → (w : Walk) (d : Draft) → Parts w d (do_walked made w) (do_written s t a p into made d)
    do_parts a p into (Do' l b) k w d =
        let d' = begun d in
        let inside = draft.labelled l d.node d' in
        let made = block_written s t (in_do l d.node a) b inside in
        let c = block_passed s t (in_do l d.node a) b inside in
        of_made p (kernel.Do into made) (BlockUses bound made) w d d' (draft.unlabelled l c) (do_walked (Do' l b) w) (calm_step w d' d' (refl, refl)) (parts_begun d) (λ u. u)
        (do_made l d.node (BlockUses bound made) w d' c (block_walked b Plain) (λ v. block_parts (in_do l d.node a) b Plain k v inside))

    ranged_parts : (a : Around) (p : Pos) (r : Range) → NoCodeInRange r → (w : Walk) (d : Draft) → Parts w d (range_walked r w) (ranged s t a p r d)
    ranged_parts a p (Range' x open_a low high open_b b) k w d =
        let d' = begun d in
        let inside = range_passed low high d' in
        let made = block_written s t (in_loop d.node a) b inside in
        let e = block_passed s t (in_loop d.node a) b inside in
        of_made p (kernel.Loop (range_written s t open_a low high open_b d') made) (BlockUses bound made) w d d' e (range_walked (Range' x open_a low high open_b b) w) (calm_step w d' d' (refl, refl)) (parts_begun d) (λ u. u)
        (always_then (λ v. Made w d' v e (BlockUses bound made)) (λ v. Made w d' v e (BlockUses bound made)) (exp_walked low w >>= exp_walked high >>= range_opened x >>= block_walked b Plain) closed
        (made_after (BlockUses bound made) w d' inside e (exp_walked low w >>= exp_walked high >>= range_opened x) (block_walked b Plain) (range_parts low high d') (range_goes x low high w d') (λ v. block_parts (in_loop d.node a) b Plain k v inside))
        (λ v m u h.
        let leave = closed_goes s limit v e u h in
        record { step = step_then s limit m.step leave; same = m.same; uses = λ both fits. m.uses both (leave.fits fits) }))

    every_parts : (a : Around) (p : Pos) (x : Option Ident) (target : Target) (b : Block) → NoCodeInBlock b → (w : Walk) (d : Draft) →
        Parts w d (every_walked x target w >>= block_walked b Plain) (placed d.node p (kernel.Loop turns.Free (every_written s t a d.node p x target b (begun d))) (every_passed s t a d.node p x target b (begun d)))
    every_parts a p x target (Block' _ list) k w d =
        let d' = begun d in
        let n = declared_in list in
        let start = draft.opened n d' in
        let f : Draft → Draft = λ inside. nodes_written s t (in_loop d.node a) list (target_awaited s t p (if_variable s x inside) target (if_used x inside)) in
        let d1 = if_used x start in
        let into = if_variable s x start in
        let d2 = target_awaited s t p into target d1 in
        let made = block_of n f d' in
        of_made p (kernel.Loop turns.Free made) (BlockUses bound made) w d d' (around_block n f d') (every_walked x target w >>= block_walked (Block' _ list) Plain) (calm_step w d' d' (refl, refl)) (parts_begun d) (λ u. u)
        (always_then (λ v. Part w start v d2) (λ v. Made w d' v (around_block n f d') (BlockUses bound made)) (every_walked x target w) (block_walked (Block' _ list) Plain) (every_head p x target w start)
        (λ v head.
        always_then (λ u. Part v d2 u (f start)) (λ u. Made w d' u (around_block n f d') (BlockUses bound made)) (nodes_walked list (opened Plain v)) closed
        (always_map (λ u. Part (opened Plain v) d2 u (f start)) (λ u. Part v d2 u (f start)) (nodes_walked list (opened Plain v)) (λ u part. part_then (same_part (opened_step s limit Plain v d2) refl) part) (nodes_parts (in_loop d.node a) list k (opened Plain v) d2))
        (λ u part y h.
        let counts = around_counts n f d' in
        let leave = step_then s limit (closed_goes s limit u (f start) y h) (draft_step s limit y (f start) (around_block n f d') counts.0 counts.1) in
        let enter = calm_step w d' start (calm_opened n d') in
        let inside = part_then head part in
        record {
          step = step_then s limit enter (step_then s limit inside.step leave);
          same = around_parts n f d';
          uses = λ both fits. holds_block bound n f d' (inside.uses (enter.both both) (leave.fits fits) (holds_opened bound n d'));
        })))

    pub block_parts : (a : Around) (b : Block) (border : Border) → NoCodeInBlock b → (w : Walk) (d : Draft) → Makes w d (block_walked b border w) (block_passed s t a b d) (BlockUses bound (block_written s t a b d))
    block_parts a (Block' _ list) border k w d = block_made (declared_in list) (nodes_written s t a list) border w d (nodes_walked list) (λ v. nodes_parts a list k v (draft.opened (declared_in list) d))

    last_parts : (a : Around) (b : Held-Stmt-If-1) → NoCodeInLast b → (w : Walk) (d : Draft) → Makes w d (last_walked b w) (last_passed s t a b d) (BlockUses bound (last_written s t a b d))
    last_parts a Stmt-If-1-None' k w d =
        always_ok (λ v. Made w d v (around_block 0 nothing_in d) (BlockUses bound (block_of 0 nothing_in d))) w
        (record { step = block_step 0 nothing_in w w d (calm_step w (draft.opened 0 d) (draft.opened 0 d) (refl, refl)); same = around_parts 0 nothing_in d; uses = λ both fits. empty_block d })
    last_parts a (Stmt-If-1-Some' b) k w d = block_parts a b Plain k w d

    pub nodes_parts : {n : _} (a : Around) (r : Row_of-Node n) → NoCodeInNodes r → (w : Walk) (d : Draft) → Parts w d (nodes_walked r w) (nodes_written s t a r d)
    nodes_parts a end_of-Node k w d = same_parts w d d (Ok w) refl (still_goes s limit w d d refl refl)
    nodes_parts a (more_of-Node p st rest) k w d =
        let e = stmt_written s t a p st d in
        parts_then w d e (nodes_written s t a rest e) (stmt_walked st w) (nodes_walked rest) (stmt_parts a p st k.0 w d) (λ v. nodes_parts a rest k.1 v e)

    items_parts : {n : _} (a : Around) (p : Pos) (u : Ty) (r : Row_of-Item n) → NoCodeInItems r → (w : Walk) (d : Draft) → Parts w d (items_walked r u w) (items_written s t a p u r d)
    items_parts a p u end_of-Item k w d = same_parts w d d (Ok w) refl (still_goes s limit w d d refl refl)
    items_parts a p u (more_of-Item x v rest) k w d =
        let first = draft.declared (kind.Var u) x d in
        let e = value_written s t a p (own d.parts.slot u) v first in
        let named = fresh class.Var 0 w in
        parts_then w d e (items_written s t a p u rest e) (declared class.Var u (value_broken v) x w >>= value_walked v >>= shown x named) (items_walked rest u)
        (parts_then w d e e (declared class.Var u (value_broken v) x w >>= value_walked v) (shown x named)
        (parts_then w d first e (declared class.Var u (value_broken v) x w) (value_walked v) (var_parts u (value_broken v) x w d) (λ y. value_parts a p (own d.parts.slot u) v k.0 y first))
        (λ y. shown_parts x named y e (fresh_other s limit class.Var 0 w refl)))
        (λ y. items_parts a p u rest k.1 y e)

    arms_parts : {n : _} (a : Around) (r : Row_of-Arm n) → NoCodeInArms r → (w : Walk) (d : Draft) → Makes w d (arms_walked r w) (arms_passed s t a r d) (AllOf (ArmUses bound) (arms_written s t a r d))
    arms_parts a end_of-Arm k w d =
        always_ok (λ v. Made w d v d ⊤) w (record { step = calm_step w d d (refl, refl); same = refl; uses = λ both fits. tt })
    arms_parts a (more_of-Arm (Arm' c b) rest) k w d =
        let d' = exp_passed c d in
        let e = block_passed s t a b d' in
        let made = block_written s t a b d' in
        made_then (BlockUses bound made) (AllOf (ArmUses bound) (arms_written s t a rest e)) w d e (arms_passed s t a rest e) (exp_walked c w >>= block_walked b Plain) (arms_walked rest)
        (made_after (BlockUses bound made) w d d' e (exp_walked c w) (block_walked b Plain) (parts_of d d' (frame_exp c d)) (exp_goes s limit c w d) (λ v. block_parts a b Plain k.0 v d')) (λ v. arms_parts a rest k.1 v e)

    blocks_parts : {n : _} (a : Around) (r : Row_of-Block n) → NoCodeInBlocks r → (w : Walk) (d : Draft) → Makes w d (blocks_walked r w) (blocks_passed s t a r d) (AllOf (BlockUses bound) (blocks_written s t a r d))
    blocks_parts a end_of-Block k w d = always_ok (λ v. Made w d v d ⊤) w (record { step = calm_step w d d (refl, refl); same = refl; uses = λ both fits. tt })
    blocks_parts a (more_of-Block b rest) k w d =
        let e = block_passed s t a b d in
        made_then (BlockUses bound (block_written s t a b d)) (AllOf (BlockUses bound) (blocks_written s t a rest e)) w d e (blocks_passed s t a rest e) (block_walked b Plain w) (blocks_walked rest) (block_parts a b Plain k.0 w d)
        (λ v. blocks_parts a rest k.1 v e)
