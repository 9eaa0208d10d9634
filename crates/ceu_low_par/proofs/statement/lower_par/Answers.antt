use Rattle.std.proofs.Common.{ap, sym, subst, ◌∙◌, ◌*◌, ℕ, List, length}
use Rattle.ceu_tree.specs.declared.kernel.KBlock.{KBlock}
use Rattle.ceu_tree.specs.declared.kernel.KStmt.{KStmt}
use Rattle.ceu_shape.specs.Plans.{Plan}
use Rattle.ceu_shape.specs.Pieces.{Draft, Added}
use Rattle.ceu_shape.specs.Par.{par_draft}
use Rattle.ceu_shape.specs.Shape.{node_draft}
use Rattle.ceu_low_par.specs.Conditions.{HasRoom, ParFits, StmtFits, label_count, nodes_of, part_count, planned}
use Rattle.ceu_low_par.proofs.Adding.{on_ok, par_drafted, par_fits, par_parts}
use Rattle.ceu_low_par.proofs.statement.lower_par.Goals as goal

pub returns-in-Par : goal.returns-in-Par
returns-in-Par g c =
    let plan : Plan = planned (g.P.Places.planned c.args.places.now) c.args.gates.now in
    let s = c.args.node.now in
    let is = ap (λ (x : KStmt). node_draft plan c.args.kernel.now s.node s.pos x c.args.labels.now) c.in-Par.is
    ∙ par_drafted plan c.args.kernel.now s.node s.pos c.in-Par.kind c.in-Par.slot c.in-Par.branches c.args.labels.now
    ∙ ap (λ (bs : List KBlock). par_draft plan c.args.labels.now s.node c.in-Par.kind c.in-Par.slot (nodes_of bs)) (sym c.items.ensures) in
    on_ok c.lower_kind.result (λ h. subst (λ (d : Draft). Added c.args.sheet.now c.lower_kind.new.sheet d) (sym is) h) c.lower_kind.ensures

pub lower_kind-requires-clause-fits : goal.lower_kind-requires-clause-fits
lower_kind-requires-clause-fits g c =
    let p = g.P.Places.planned c.args.places.now in
    let nodes = length c.args.gates.now.first in
    let fits = par_fits p.slot_count nodes c.in-Par.kind c.in-Par.slot c.in-Par.branches (subst (λ (s : KStmt). StmtFits p.slot_count nodes s) c.in-Par.is c.requires.fits) in
    subst (λ (bs : List KBlock). ParFits p.slot_count nodes c.in-Par.kind c.in-Par.slot (nodes_of bs)) (sym c.items.ensures) fits

pub lower_kind-requires-clause-parts : goal.lower_kind-requires-clause-parts
lower_kind-requires-clause-parts g c =
    c.requires.parts ∙ ap (λ (s : KStmt). 2 * part_count s) c.in-Par.is ∙ ap (λ (n : ℕ). 2 * n) (par_parts c.in-Par.kind c.in-Par.slot c.in-Par.branches)
    ∙ ap (λ (bs : List KBlock). 2 * length bs) (sym c.items.ensures)

pub lower_kind-requires-clause-room : goal.lower_kind-requires-clause-room
lower_kind-requires-clause-room g c = subst (λ (s : KStmt). HasRoom c.args.sheet.now (label_count s)) c.in-Par.is c.requires.room
