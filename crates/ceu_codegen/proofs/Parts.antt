-- One level of the parts of a statement, as the code builds it: their lines, what they name, and their room.
use Rattle.std.proofs.Common.{◌≡◌, refl, ap, subst, ℕ, ◌+◌, List}
use Rattle.ceu_tree.specs.declared.kernel.Kernel.{Kernel}
use Rattle.ceu_tree.specs.declared.kernel.KExp.{KExp}
use Rattle.ceu_tree.specs.declared.kernel.KBlock.{KBlock}
use Rattle.ceu_tree.specs.declared.kernel.KStmt as k
use Rattle.ceu_tree.specs.declared.kernel.KStmt.{KStmt}
use Rattle.ceu_tree.specs.Greatest.{total}
use Rattle.ceu_tree.specs.Weight.{exp_count, block_weight}
use Rattle.ceu_gates.specs.declared.plan.GatePlan.{GatePlan}
use Rattle.ceu_slots.specs.Plans.{Planned}
use Rattle.ceu_shape.specs.Plans.{Plan}
use Rattle.ceu_shape.specs.Pieces.{both, nothing}
use Rattle.ceu_shape.specs.Shape.{exp_part, exp_part_if, exp_parts, turn_parts, parts_draft}
use Rattle.ceu_low_expr.specs.Conditions.{NamesBelow}
use Rattle.ceu_codegen.specs.Conditions.{NamesIf, AllName, TurnsName, PartsFit, BlockFits}
use Rattle.ceu_codegen.specs.Rooms.{room_if, turns_room, parts_room}
use Rattle.ceu_codegen.specs.Lists.{branch_draft}

module _ (P : Plan) (K : Kernel) (begin : ℕ) where
  pub assign_is : (l : _) (e : KExp) → parts_draft P K (k.Assign l e) begin ≡ exp_part P K begin e
  unfolding parts_draft
  assign_is l e = refl

  pub out_is : (n : ℕ) (e : _) → parts_draft P K (k.Out n e) begin ≡ exp_part_if P K begin e
  unfolding parts_draft
  out_is n e = refl

  pub emit_is : (n : ℕ) (e : _) → parts_draft P K (k.Emit n e) begin ≡ exp_part_if P K begin e
  unfolding parts_draft
  emit_is n e = refl

  pub await_time_is : (e : KExp) (u : _) (t : _) → parts_draft P K (k.AwaitTime e u t) begin ≡ exp_part P K begin e
  unfolding parts_draft
  await_time_is e u t = refl

  pub await_code_is : (c : ℕ) (es : List KExp) (f : ℕ) (t : _) → parts_draft P K (k.AwaitCode c es f t) begin ≡ exp_parts P K begin es
  unfolding parts_draft
  await_code_is c es f t = refl

  pub spawn_is : (c : ℕ) (es : List KExp) (q : ℕ) (a : _) → parts_draft P K (k.Spawn c es q a) begin ≡ exp_parts P K begin es
  unfolding parts_draft
  spawn_is c es q a = refl

  pub escape_is : (n : ℕ) (e : _) → parts_draft P K (k.Escape n e) begin ≡ exp_part_if P K begin e
  unfolding parts_draft
  escape_is n e = refl

  pub async_is : (b : KBlock) → parts_draft P K (k.Async b) begin ≡ branch_draft P K b
  unfolding parts_draft
  async_is b = refl

  pub finalize_is : (b : KBlock) → parts_draft P K (k.Finalize b) begin ≡ branch_draft P K b
  unfolding parts_draft
  finalize_is b = refl

  pub do_is : (t : _) (b : KBlock) → parts_draft P K (k.Do t b) begin ≡ branch_draft P K b
  unfolding parts_draft
  do_is t b = refl

  pub loop_is : (kind : _) (b : KBlock) → parts_draft P K (k.Loop kind b) begin ≡ both (turn_parts P K begin kind) (branch_draft P K b)
  unfolding parts_draft
  loop_is kind b = refl

  pub nothing_is : parts_draft P K k.Nothing begin ≡ nothing
  unfolding parts_draft
  nothing_is = refl

  pub await_in_is : (n : ℕ) (t : _) → parts_draft P K (k.AwaitIn n t) begin ≡ nothing
  unfolding parts_draft
  await_in_is n t = refl

  pub await_event_is : (n : ℕ) (t : _) → parts_draft P K (k.AwaitEvent n t) begin ≡ nothing
  unfolding parts_draft
  await_event_is n t = refl

  pub forever_is : parts_draft P K k.Forever begin ≡ nothing
  unfolding parts_draft
  forever_is = refl

  pub kill_is : (n : ℕ) → parts_draft P K (k.Kill n) begin ≡ nothing
  unfolding parts_draft
  kill_is n = refl

  pub unset_is : (n : ℕ) → parts_draft P K (k.Unset n) begin ≡ nothing
  unfolding parts_draft
  unset_is n = refl

  pub break_is : (n : ℕ) → parts_draft P K (k.Break n) begin ≡ nothing
  unfolding parts_draft
  break_is n = refl

  pub continue_is : (n : ℕ) → parts_draft P K (k.Continue n) begin ≡ nothing
  unfolding parts_draft
  continue_is n = refl

module _ (p : Planned) (g : GatePlan) (K : Kernel) where
  pub assign_fits : (s : KStmt) (l : _) (e : KExp) → s ≡ k.Assign l e → PartsFit p g K s → NamesBelow p.slot_count e
  unfolding PartsFit
  assign_fits s l e is h = subst (λ (y : KStmt). PartsFit p g K y) is h

  pub out_fits : (s : KStmt) (n : ℕ) (e : _) → s ≡ k.Out n e → PartsFit p g K s → NamesIf p.slot_count e
  unfolding PartsFit
  out_fits s n e is h = subst (λ (y : KStmt). PartsFit p g K y) is h

  pub emit_fits : (s : KStmt) (n : ℕ) (e : _) → s ≡ k.Emit n e → PartsFit p g K s → NamesIf p.slot_count e
  unfolding PartsFit
  emit_fits s n e is h = subst (λ (y : KStmt). PartsFit p g K y) is h

  pub await_time_fits : (s : KStmt) (e : KExp) (u : _) (t : _) → s ≡ k.AwaitTime e u t → PartsFit p g K s → NamesBelow p.slot_count e
  unfolding PartsFit
  await_time_fits s e u t is h = subst (λ (y : KStmt). PartsFit p g K y) is h

  pub await_code_fits : (s : KStmt) (c : ℕ) (es : List KExp) (f : ℕ) (t : _) → s ≡ k.AwaitCode c es f t → PartsFit p g K s → AllName p.slot_count es
  unfolding PartsFit
  await_code_fits s c es f t is h = subst (λ (y : KStmt). PartsFit p g K y) is h

  pub spawn_fits : (s : KStmt) (c : ℕ) (es : List KExp) (q : ℕ) (a : _) → s ≡ k.Spawn c es q a → PartsFit p g K s → AllName p.slot_count es
  unfolding PartsFit
  spawn_fits s c es q a is h = subst (λ (y : KStmt). PartsFit p g K y) is h

  pub escape_fits : (s : KStmt) (n : ℕ) (e : _) → s ≡ k.Escape n e → PartsFit p g K s → NamesIf p.slot_count e
  unfolding PartsFit
  escape_fits s n e is h = subst (λ (y : KStmt). PartsFit p g K y) is h

  pub async_fits : (s : KStmt) (b : KBlock) → s ≡ k.Async b → PartsFit p g K s → BlockFits p g K b
  unfolding PartsFit
  async_fits s b is h = subst (λ (y : KStmt). PartsFit p g K y) is h

  pub finalize_fits : (s : KStmt) (b : KBlock) → s ≡ k.Finalize b → PartsFit p g K s → BlockFits p g K b
  unfolding PartsFit
  finalize_fits s b is h = subst (λ (y : KStmt). PartsFit p g K y) is h

  pub do_fits : (s : KStmt) (t : _) (b : KBlock) → s ≡ k.Do t b → PartsFit p g K s → BlockFits p g K b
  unfolding PartsFit
  do_fits s t b is h = subst (λ (y : KStmt). PartsFit p g K y) is h

  pub loop_fits : (s : KStmt) (kind : _) (b : KBlock) → s ≡ k.Loop kind b → PartsFit p g K s → TurnsName p.slot_count kind × BlockFits p g K b
  unfolding PartsFit
  loop_fits s kind b is h = subst (λ (y : KStmt). PartsFit p g K y) is h

pub assign_room : (s : KStmt) (l : _) (e : KExp) → s ≡ k.Assign l e → parts_room s ≡ exp_count e
unfolding parts_room
assign_room s l e is = ap (λ (y : KStmt). parts_room y) is

pub out_room : (s : KStmt) (n : ℕ) (e : _) → s ≡ k.Out n e → parts_room s ≡ room_if e
unfolding parts_room
out_room s n e is = ap (λ (y : KStmt). parts_room y) is

pub emit_room : (s : KStmt) (n : ℕ) (e : _) → s ≡ k.Emit n e → parts_room s ≡ room_if e
unfolding parts_room
emit_room s n e is = ap (λ (y : KStmt). parts_room y) is

pub await_time_room : (s : KStmt) (e : KExp) (u : _) (t : _) → s ≡ k.AwaitTime e u t → parts_room s ≡ exp_count e
unfolding parts_room
await_time_room s e u t is = ap (λ (y : KStmt). parts_room y) is

pub await_code_room : (s : KStmt) (c : ℕ) (es : List KExp) (f : ℕ) (t : _) → s ≡ k.AwaitCode c es f t → parts_room s ≡ total exp_count es
unfolding parts_room
await_code_room s c es f t is = ap (λ (y : KStmt). parts_room y) is

pub spawn_room : (s : KStmt) (c : ℕ) (es : List KExp) (q : ℕ) (a : _) → s ≡ k.Spawn c es q a → parts_room s ≡ total exp_count es
unfolding parts_room
spawn_room s c es q a is = ap (λ (y : KStmt). parts_room y) is

pub escape_room : (s : KStmt) (n : ℕ) (e : _) → s ≡ k.Escape n e → parts_room s ≡ room_if e
unfolding parts_room
escape_room s n e is = ap (λ (y : KStmt). parts_room y) is

pub async_room : (s : KStmt) (b : KBlock) → s ≡ k.Async b → parts_room s ≡ block_weight b
unfolding parts_room
async_room s b is = ap (λ (y : KStmt). parts_room y) is

pub finalize_room : (s : KStmt) (b : KBlock) → s ≡ k.Finalize b → parts_room s ≡ block_weight b
unfolding parts_room
finalize_room s b is = ap (λ (y : KStmt). parts_room y) is

pub do_room : (s : KStmt) (t : _) (b : KBlock) → s ≡ k.Do t b → parts_room s ≡ block_weight b
unfolding parts_room
do_room s t b is = ap (λ (y : KStmt). parts_room y) is

pub loop_room : (s : KStmt) (kind : _) (b : KBlock) → s ≡ k.Loop kind b → parts_room s ≡ turns_room kind + block_weight b
unfolding parts_room
loop_room s kind b is = ap (λ (y : KStmt). parts_room y) is
