use Rattle.std.proofs.Common.{◌≡◌, ap, subst, ◌∙◌, ℕ, ◌+◌, ◌*◌, List, [], ◌∷◌, length, arith}
use Rattle.ceu_base.specs.declared.kinds.Ty.TheVariants as ty
use Rattle.ceu_tree.specs.declared.kernel.KCode.{KCode}
use Rattle.ceu_tree.specs.Greatest.{total}
use Rattle.ceu_tree.specs.Weight.{block_weight, code_weight}
use Rattle.ceu_code.specs.declared.instr.Instr.TheVariants as instr
use Rattle.ceu_asm.specs.Pages.{Page}
use Rattle.ceu_shape.specs.Plans.{Plan}
use Rattle.ceu_shape.specs.Pieces.{Added}
use Rattle.ceu_shape.specs.Words.{plain}
use Rattle.ceu_shape.specs.Shape.{zero_given, program_draft, codes_draft, first_fresh}
use Rattle.ceu_shape.proofs.Adding.{added_both}
use Rattle.ceu_codegen.specs.Conditions.{planned}
use Rattle.ceu_codegen.proofs.Ended.{fresh_page, first_room, kernel_done, body_small}
use Rattle.ceu_codegen.proofs.Walks.{room_less, room_after}
use Rattle.ceu_codegen.proofs.bodies.lower_kernel.Goals as goal

-- the labels of all nodes are taken
taken : (s0 s1 : Page) (n m : ℕ) → s0 ≡ fresh_page 0 → s1 ≡ record s0 { labels = s0.labels + 2 * n } → n ≡ m → s1 ≡ fresh_page (2 * m)
taken s0 s1 n m e f same =
    let sum : 0 + 2 * n ≡ 2 * m = omega (arith, same) in
    f ∙ ap (λ (p : Page). record p { labels = p.labels + 2 * n }) e ∙ ap fresh_page sum

pub lower_body-requires-clause-room : goal.lower_body-requires-clause-room
lower_body-requires-clause-room g c =
    let K = c.args.kernel.now in
    let is = taken c.new-sheet.result c.take_labels.new.sheet (length c.items.result.now) (length c.args.gates.now.first) c.new-sheet.ensures c.take_labels.ensures.given (ap (length {A = ℕ}) c.items.ensures) in
    room_less c.take_labels.new.sheet (block_weight K.body) (block_weight K.body + total code_weight K.codes) (omega arith)
    (first_room K c.take_labels.new.sheet (length c.args.gates.now.first) c.requires.ready.few_nodes c.requires.ready.weight is)

pub lower_codes-requires-clause-room : goal.lower_codes-requires-clause-room
lower_codes-requires-clause-room g c =
    let plan : Plan = planned (g.P.Places.planned c.args.places.now) c.args.gates.now in
    let K = c.args.kernel.now in
    let is = taken c.new-sheet.result c.take_labels.new.sheet (length c.items.result.now) (length c.args.gates.now.first) c.new-sheet.ensures c.take_labels.ensures.given (ap (length {A = ℕ}) c.items.ensures) in
    let room = first_room K c.take_labels.new.sheet (length c.args.gates.now.first) c.requires.ready.few_nodes c.requires.ready.weight is in
    let same = ap (λ (cs : List KCode). total code_weight cs) c.items-codes.ensures in
    room_after c.take_labels.new.sheet c.lower_body.new.sheet (program_draft plan K K.body) (block_weight K.body) (total code_weight c.items-codes.result.now) (block_weight K.body + total code_weight K.codes) (omega (arith, same))
    (body_small plan K K.body (zero_given plan K ty.S32) (plain instr.End ∷ [])) c.in_ok-lower_body.ensures room

pub returns-clause-lines : goal.returns-clause-lines
returns-clause-lines g c =
    let plan : Plan = planned (g.P.Places.planned c.args.places.now) c.args.gates.now in
    let K = c.args.kernel.now in
    let is = taken c.new-sheet.result c.take_labels.new.sheet (length c.items.result.now) (length c.args.gates.now.first) c.new-sheet.ensures c.take_labels.ensures.given (ap (length {A = ℕ}) c.items.ensures) in
    let first : 2 * length c.args.gates.now.first ≡ first_fresh K = ap (λ (n : ℕ). 2 * n) c.requires.ready.all_nodes in
    let codes : Added c.lower_body.new.sheet c.lower_codes.new.sheet (codes_draft plan K K.codes) =
    subst (λ (cs : List KCode). Added c.lower_body.new.sheet c.lower_codes.new.sheet (codes_draft plan K cs)) c.items-codes.ensures c.in_ok-lower_codes.ensures in
    (kernel_done plan K (2 * length c.args.gates.now.first) c.take_labels.new.sheet c.lower_codes.new.sheet first is
    (added_both c.take_labels.new.sheet c.lower_body.new.sheet c.lower_codes.new.sheet (program_draft plan K K.body) (codes_draft plan K K.codes) c.in_ok-lower_body.ensures codes)).0

pub returns-clause-places : goal.returns-clause-places
returns-clause-places g c =
    let plan : Plan = planned (g.P.Places.planned c.args.places.now) c.args.gates.now in
    let K = c.args.kernel.now in
    let is = taken c.new-sheet.result c.take_labels.new.sheet (length c.items.result.now) (length c.args.gates.now.first) c.new-sheet.ensures c.take_labels.ensures.given (ap (length {A = ℕ}) c.items.ensures) in
    let first : 2 * length c.args.gates.now.first ≡ first_fresh K = ap (λ (n : ℕ). 2 * n) c.requires.ready.all_nodes in
    let codes : Added c.lower_body.new.sheet c.lower_codes.new.sheet (codes_draft plan K K.codes) =
    subst (λ (cs : List KCode). Added c.lower_body.new.sheet c.lower_codes.new.sheet (codes_draft plan K cs)) c.items-codes.ensures c.in_ok-lower_codes.ensures in
    (kernel_done plan K (2 * length c.args.gates.now.first) c.take_labels.new.sheet c.lower_codes.new.sheet first is
    (added_both c.take_labels.new.sheet c.lower_body.new.sheet c.lower_codes.new.sheet (program_draft plan K K.body) (codes_draft plan K K.codes) c.in_ok-lower_body.ensures codes)).1
