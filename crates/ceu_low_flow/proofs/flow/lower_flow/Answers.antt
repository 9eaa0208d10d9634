use Rattle.std.proofs.Common.{sym, ap, subst, ◌∙◌, ℕ, ◌+◌, ◌*◌, ◌<◌, length, arith, List}
use Rattle.ceu_tree.specs.declared.kernel.KArm.{KArm}
use Rattle.ceu_tree.specs.declared.kernel.KStmt.{KStmt}
use Rattle.ceu_shape.specs.Pieces.{Draft, Added}
use Rattle.ceu_shape.specs.Plans.{plan_of}
use Rattle.ceu_shape.specs.Shape.{node_draft}
use Rattle.ceu_shape.specs.Flow.{if_draft}
use Rattle.ceu_low_flow.specs.Conditions.{StmtFits, HasRoom, part_count, label_count}
use Rattle.ceu_low_flow.proofs.Adding.{on_ok, few_ports, if_parts, if_labels, if_drafted}
use Rattle.ceu_low_flow.proofs.flow.lower_flow.Goals as goal

pub returns-in-If : goal.returns-in-If
returns-in-If g c =
    let p = g.P.Places.planned c.args.places.now in
    let plan = plan_of p.offset p.frame p.total c.args.gates.now.first c.args.gates.now.count in
    let s = c.args.node.now in
    let is = ap (λ (x : KStmt). node_draft plan c.args.kernel.now s.node s.pos x c.args.labels.now) c.in-If.is
    ∙ if_drafted plan c.args.kernel.now s.node s.pos c.in-If.arms c.in-If.field-1 c.args.labels.now
    ∙ ap (λ (arms : List KArm). if_draft (length arms) c.args.labels.now) (sym c.items.ensures) in
    on_ok c.lower_if.result (λ h. subst (λ (d : Draft). Added c.args.sheet.now c.lower_if.new.sheet d) (sym is) h) c.lower_if.ensures

pub overflow_cast-output : goal.overflow_cast-output
overflow_cast-output g c =
    let p = g.P.Places.planned c.args.places.now in
    let few = (few_ports c.args.kernel.now c.requires.weight).1 in
    let fits : c.in-Out.output < length c.args.kernel.now.outputs = subst (λ (s : KStmt). StmtFits p.slot_count (length c.args.gates.now.first) c.args.kernel.now s) c.in-Out.is c.requires.fits in
    omega (arith, few, fits)

pub event_number-event_number-requires-clause-few : goal.event_number-event_number-requires-clause-few
event_number-event_number-requires-clause-few g c = let few = (few_ports c.args.kernel.now c.requires.weight).2 in omega (arith, few)

pub overflow_cast-wait : goal.overflow_cast-wait
overflow_cast-wait g c =
    let p = g.P.Places.planned c.args.places.now in
    let few = (few_ports c.args.kernel.now c.requires.weight).0 in
    let fits = (subst (λ (s : KStmt). StmtFits p.slot_count (length c.args.gates.now.first) c.args.kernel.now s) c.in-AwaitIn.is c.requires.fits).0 in
    omega (arith, few, fits)

pub event_number-requires-clause-few : goal.event_number-requires-clause-few
event_number-requires-clause-few g c = let few = (few_ports c.args.kernel.now c.requires.weight).2 in omega (arith, few)

pub lower_if-requires-clause-parts : goal.lower_if-requires-clause-parts
lower_if-requires-clause-parts g c =
    c.requires.parts ∙ ap (λ (s : KStmt). 2 * part_count s) c.in-If.is ∙ ap (λ (n : ℕ). 2 * n) (if_parts c.in-If.arms c.in-If.field-1)
    ∙ ap (λ (arms : List KArm). 2 * (2 * length arms + 1)) (sym c.items.ensures)

pub lower_if-requires-clause-room : goal.lower_if-requires-clause-room
lower_if-requires-clause-room g c =
    let count = ap (λ (s : KStmt). label_count s) c.in-If.is ∙ if_labels c.in-If.arms c.in-If.field-1 ∙ ap (λ (arms : List KArm). length arms) (sym c.items.ensures) in
    subst (λ (n : ℕ). HasRoom c.args.sheet.now n) count c.requires.room
