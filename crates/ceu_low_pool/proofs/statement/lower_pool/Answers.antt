use Rattle.std.proofs.Common.{sym, ap, subst, ◌∙◌, ◌*◌, ℕ, List, [], ◌∷◌, length, arith}
use Rattle.ceu_base.specs.declared.kinds.Ty.{Ty}
use Rattle.ceu_tree.specs.declared.kernel.KExp.{KExp}
use Rattle.ceu_tree.specs.declared.kernel.KStmt.{KStmt}
use Rattle.ceu_asm.specs.declared.line.Line.{Line}
use Rattle.ceu_shape.specs.Plans.{Plan}
use Rattle.ceu_shape.specs.Pieces.{Draft, Added, stopping}
use Rattle.ceu_shape.specs.Pools.{call_lines, spawn_draft, stop_behind}
use Rattle.ceu_shape.specs.Searches.{result_ty}
use Rattle.ceu_shape.specs.Shape.{node_draft}
use Rattle.ceu_shape.proofs.Adding.{added_stopping}
use Rattle.ceu_low_pool.specs.Conditions.{StmtFits, CallFits, SpawnFits, part_count, planned}
use Rattle.ceu_low_pool.proofs.Adding.{on_ok, few_codes}
use Rattle.ceu_low_pool.proofs.statement.lower_pool.Goals as goal

pub returns-in-AwaitCode : goal.returns-in-AwaitCode
returns-in-AwaitCode g c =
    let plan : Plan = planned (g.P.Places.planned c.args.places.now) c.args.gates.now in
    let K = c.args.kernel.now in
    let s = c.args.node.now in
    let labels = c.args.labels.now in
    let a = c.in-AwaitCode in
    let draft : ℕ → Ty → Draft = λ (count : ℕ) (t : Ty). stopping (stop_behind s.node count labels 7 7 ∷ []) (call_lines plan s.node a.code a.frame count t a.target labels) in
    let count = length c.items-count.result.now in
    let t : Ty = c.result_ty-ty.result in
    let is = ap (λ (x : KStmt). node_draft plan K s.node s.pos x labels) a.is
    ∙ ap (λ (es : List KExp). draft (length es) (result_ty K a.code)) (sym c.items-count.ensures)
    ∙ ap (draft count) (sym c.result_ty-ty.ensures) in
    let lines : List Line = call_lines plan s.node a.code a.frame count t a.target labels in
    on_ok c.lower_call.result (λ e. subst (λ (d : Draft). Added c.args.sheet.now c.lower_call.new.sheet d) (sym is) (added_stopping c.args.sheet.now c.lower_call.new.sheet _ lines e)) c.lower_call.ensures

pub returns-in-Spawn : goal.returns-in-Spawn
returns-in-Spawn g c =
    let plan : Plan = planned (g.P.Places.planned c.args.places.now) c.args.gates.now in
    let K = c.args.kernel.now in
    let s = c.args.node.now in
    let labels = c.args.labels.now in
    let a = c.in-Spawn in
    let is = ap (λ (x : KStmt). node_draft plan K s.node s.pos x labels) a.is
    ∙ ap (λ (es : List KExp). spawn_draft plan K s.node s.pos a.code (length es) a.pool a.alias labels) (sym c.items-count-in-Spawn.ensures) in
    on_ok c.lower_spawn.result (λ h. subst (λ (d : Draft). Added c.args.sheet.now c.lower_spawn.new.sheet d) (sym is) h) c.lower_spawn.ensures

pub lower_call-requires-clause-parts : goal.lower_call-requires-clause-parts
lower_call-requires-clause-parts g c =
    c.requires.parts ∙ ap (λ (s : KStmt). 2 * part_count s) c.in-AwaitCode.is ∙ ap (λ (es : List KExp). 2 * length es) (sym c.items-count.ensures)

pub lower_spawn-requires-clause-parts : goal.lower_spawn-requires-clause-parts
lower_spawn-requires-clause-parts g c =
    c.requires.parts ∙ ap (λ (s : KStmt). 2 * part_count s) c.in-Spawn.is ∙ ap (λ (es : List KExp). 2 * length es) (sym c.items-count-in-Spawn.ensures)

pub overflow_cast-called : goal.overflow_cast-called
overflow_cast-called g c =
    let p = g.P.Places.planned c.args.places.now in
    let K = c.args.kernel.now in
    let a = c.in-AwaitCode in
    let fits : CallFits p.slot_count K a.code a.frame a.target = subst (λ (s : KStmt). StmtFits p.slot_count K s) a.is c.requires.fits in
    omega (arith, few_codes K c.requires.weight, fits.code_there)

pub overflow_cast-spawned : goal.overflow_cast-spawned
overflow_cast-spawned g c =
    let p = g.P.Places.planned c.args.places.now in
    let K = c.args.kernel.now in
    let a = c.in-Spawn in
    let fits : SpawnFits p.slot_count K a.code a.pool a.alias = subst (λ (s : KStmt). StmtFits p.slot_count K s) a.is c.requires.fits in
    omega (arith, few_codes K c.requires.weight, fits.code_there)
