use Rattle.std.proofs.Common.{◌≡◌, sym, ap, subst, ◌∙◌, ◌+◌, [], ◌∷◌, ◌++◌, ℕ, List, rules, arith, refl}
use Rattle.ceu_base.specs.declared.kinds.Pos.{Pos}
use Rattle.ceu_code.specs.declared.instr.Instr.TheVariants as instr
use Rattle.ceu_tree.specs.declared.kernel.KExp.{KExp}
use Rattle.ceu_tree.specs.declared.kernel.KExpNode as exp
use Rattle.ceu_tree.specs.declared.kernel.KExpNode.{KExpNode}
use Rattle.ceu_tree.specs.Weight.{node_count, exp_count}
use Rattle.ceu_tree.proofs.Sizes.{node_size, exp_size, size_one, size_two, size_as}
use Rattle.ceu_asm.specs.declared.line.Line.{Line}
use Rattle.ceu_asm.specs.Pages.{Page}
use Rattle.ceu_shape.specs.Pieces.{Draft, Added, both, text, placed}
use Rattle.ceu_shape.specs.Words.{plain, load}
use Rattle.ceu_shape.specs.Expressions.{node_draft, exp_draft, two_draft}
use Rattle.ceu_shape.proofs.Adding.{added_text, added_both}
use Rattle.ceu_shape.proofs.Expressed.{exp_small, draft_const, draft_read, draft_alive, draft_one, draft_two, draft_as}
use Rattle.ceu_low_expr.specs.Conditions.{NodeNames, NamesBelow, HasRoom}
use Rattle.ceu_low_expr.proofs.Lowering.{on_ok, drafted, names_read, names_alive, names_one, names_two, names_as, count_one, count_two, count_as, room_less, room_after, room_taken, room_lined, and_added, or_added, noted_line}
use Rattle.ceu_low_expr.proofs.expression.+lowering.Goals as goal

pub lower_and-lower_exp-requires-2 : goal.lower_and-lower_exp-requires-2
lower_and-lower_exp-requires-2 g t c κs within =
    let p = g.P.Places.planned c.args.places.now in
    let l = exp_count c.args.left.now in
    let r = exp_count c.args.right.now in
    let all = room_less c.args.sheet.now (1 + (l + r)) (1 + l + r) (omega arith) c.requires.room in
    let taken = room_taken c.args.sheet.now c.two_labels-no.new.sheet (l + r) c.two_labels-no.ensures.given all in
    let behind = room_after c.two_labels-no.new.sheet c.lower_exp.new.sheet (exp_draft p.offset c.args.left.now) l r (exp_small p.offset c.args.left.now) c.in_ok-lower_exp.ensures taken in
    let left = room_lined c.lower_exp.new.sheet c.add.new.self _ r c.in_ok-add.ensures.ok behind in
    let names = c.requires.names.1 in
    search (rules, names, left)

pub lower_and-returns : goal.lower_and-returns
lower_and-returns g t c =
    let p = g.P.Places.planned c.args.places.now in
    on_ok c.end_and.result (λ e. and_added c.args.sheet.now c.two_labels-no.new.sheet c.lower_exp.new.sheet c.add.new.self c.lower_exp-2.new.sheet c.end_and.new.sheet
    (exp_draft p.offset c.args.left.now) (exp_draft p.offset c.args.right.now) c.two_labels-no.result c.two_labels-no.ensures.first c.two_labels-no.ensures.given
    c.in_ok-lower_exp.ensures c.in_ok-add.ensures.ok c.in_ok-lower_exp-2.ensures e) c.end_and.ensures

pub lower_or-lower_exp-requires-2 : goal.lower_or-lower_exp-requires-2
lower_or-lower_exp-requires-2 g t c κs within =
    let p = g.P.Places.planned c.args.places.now in
    let l = exp_count c.args.left.now in
    let r = exp_count c.args.right.now in
    let all = room_less c.args.sheet.now (1 + (l + r)) (1 + l + r) (omega arith) c.requires.room in
    let taken = room_taken c.args.sheet.now c.two_labels-no.new.sheet (l + r) c.two_labels-no.ensures.given all in
    let behind = room_after c.two_labels-no.new.sheet c.lower_exp.new.sheet (exp_draft p.offset c.args.left.now) l r (exp_small p.offset c.args.left.now) c.in_ok-lower_exp.ensures taken in
    let left = room_lined c.lower_exp.new.sheet c.begin_or.new.sheet _ r c.in_ok-begin_or.ensures behind in
    let names = c.requires.names.1 in
    search (rules, names, left)

pub lower_or-returns : goal.lower_or-returns
lower_or-returns g t c =
    let p = g.P.Places.planned c.args.places.now in
    on_ok c.add.result (λ e. or_added c.args.sheet.now c.two_labels-no.new.sheet c.lower_exp.new.sheet c.begin_or.new.sheet c.lower_exp-2.new.sheet c.add.new.self
    (exp_draft p.offset c.args.left.now) (exp_draft p.offset c.args.right.now) c.two_labels-no.result c.two_labels-no.ensures.first c.two_labels-no.ensures.given
    c.in_ok-lower_exp.ensures c.in_ok-begin_or.ensures c.in_ok-lower_exp-2.ensures e) c.add.ensures.ok

pub lower_binary-lower_exp-requires-2 : goal.lower_binary-lower_exp-requires-2
lower_binary-lower_exp-requires-2 g t c κs within =
    let p = g.P.Places.planned c.args.places.now in
    let l = exp_count c.args.left.now in
    let r = exp_count c.args.right.now in
    let all = room_less c.args.sheet.now (l + r) (1 + l + r) (omega arith) c.requires.room in
    let left = room_after c.args.sheet.now c.lower_exp.new.sheet (exp_draft p.offset c.args.left.now) l r (exp_small p.offset c.args.left.now) c.in_ok-lower_exp.ensures all in
    let names = c.requires.names.1 in
    search (rules, names, left)

pub lower_binary-place-requires : goal.lower_binary-place-requires
lower_binary-place-requires g t c =
    let p = g.P.Places.planned c.args.places.now in
    let l = exp_count c.args.left.now in
    let r = exp_count c.args.right.now in
    let all = room_less c.args.sheet.now (l + (r + 1)) (1 + l + r) (omega arith) c.requires.room in
    let behind = room_after c.args.sheet.now c.lower_exp.new.sheet (exp_draft p.offset c.args.left.now) l (r + 1) (exp_small p.offset c.args.left.now) c.in_ok-lower_exp.ensures all in
    let one = room_after c.lower_exp.new.sheet c.lower_exp-2.new.sheet (exp_draft p.offset c.args.right.now) r 1 (exp_small p.offset c.args.right.now) c.in_ok-lower_exp-2.ensures behind in
    omega (arith, one.places)

pub lower_binary-returns : goal.lower_binary-returns
lower_binary-returns g t c =
    let p = g.P.Places.planned c.args.places.now in
    let a = exp_draft p.offset c.args.left.now in
    let b = exp_draft p.offset c.args.right.now in
    let line : ℕ → List Line = λ (k : ℕ). plain (instr.Binary c.args.op c.args.ty k) ∷ [] in
    on_ok c.add.result (λ e. added_both c.args.sheet.now c.lower_exp.new.sheet c.add.new.self a (both b (placed c.args.place line)) c.in_ok-lower_exp.ensures
    (added_both c.lower_exp.new.sheet c.lower_exp-2.new.sheet c.add.new.self b (placed c.args.place line) c.in_ok-lower_exp-2.ensures
    (noted_line c.lower_exp-2.new.sheet c.place.new.self c.add.new.self c.args.place (λ k. instr.Binary c.args.op c.args.ty k) c.in_ok-number.number c.in_ok-number.ensures.number c.in_ok-number.ensures.ok e))) c.add.ensures.ok

pub lower_exp-load_line-requires : goal.lower_exp-load_line-requires
lower_exp-load_line-requires g t c =
    let p = g.P.Places.planned c.args.places.now in
    names_read p.slot_count c.in-Read.loc (subst (λ (n : KExpNode). NodeNames p.slot_count n) c.in-Read.is c.requires.names)

pub lower_exp-offset-requires : goal.lower_exp-offset-requires
lower_exp-offset-requires g t c =
    let p = g.P.Places.planned c.args.places.now in
    names_alive p.slot_count c.in-Alive.slot (subst (λ (n : KExpNode). NodeNames p.slot_count n) c.in-Alive.is c.requires.names)

pub lower_exp-returns-in-Const : goal.lower_exp-returns-in-Const
lower_exp-returns-in-Const g t c =
    let p = g.P.Places.planned c.args.places.now in
    let e = c.args.exp.now in
    let is = ap (λ (n : KExpNode). node_draft p.offset n e.ty e.pos) c.in-Const.is ∙ draft_const p.offset c.in-Const.value e.ty e.pos in
    on_ok c.add.result (λ h. drafted c.args.sheet.now c.add.new.self (text (plain (instr.Push e.ty c.in-Const.value) ∷ [])) (exp_draft p.offset e) is
    (added_text c.args.sheet.now c.add.new.self _ (h ∙ ap (λ (l : Line). record c.args.sheet.now { lines = c.args.sheet.now.lines ++ l ∷ [] }) c.push_line.ensures))) c.add.ensures.ok

pub lower_exp-returns-in-Read : goal.lower_exp-returns-in-Read
lower_exp-returns-in-Read g t c =
    let p = g.P.Places.planned c.args.places.now in
    let e = c.args.exp.now in
    let is = ap (λ (n : KExpNode). node_draft p.offset n e.ty e.pos) c.in-Read.is ∙ draft_read p.offset c.in-Read.loc e.ty e.pos in
    on_ok c.add-in-Read.result (λ h. drafted c.args.sheet.now c.add-in-Read.new.self (text (load p.offset c.in-Read.loc ∷ [])) (exp_draft p.offset e) is
    (added_text c.args.sheet.now c.add-in-Read.new.self _ (h ∙ ap (λ (l : Line). record c.args.sheet.now { lines = c.args.sheet.now.lines ++ l ∷ [] }) c.load_line.ensures))) c.add-in-Read.ensures.ok

pub lower_exp-returns-in-Alive : goal.lower_exp-returns-in-Alive
lower_exp-returns-in-Alive g t c =
    let p = g.P.Places.planned c.args.places.now in
    let e = c.args.exp.now in
    let is = ap (λ (n : KExpNode). node_draft p.offset n e.ty e.pos) c.in-Alive.is ∙ draft_alive p.offset c.in-Alive.slot e.ty e.pos in
    on_ok c.add-in-Alive.result (λ h. drafted c.args.sheet.now c.add-in-Alive.new.self (text (plain (instr.Alive (p.offset c.in-Alive.slot)) ∷ [])) (exp_draft p.offset e) is
    (added_text c.args.sheet.now c.add-in-Alive.new.self _ (h ∙ ap (λ (a : ℕ). record c.args.sheet.now { lines = c.args.sheet.now.lines ++ plain (instr.Alive a) ∷ [] }) c.offset.ensures))) c.add-in-Alive.ensures.ok

pub lower_exp-lower_exp-requires : goal.lower_exp-lower_exp-requires
lower_exp-lower_exp-requires g t c κs within =
    let p = g.P.Places.planned c.args.places.now in
    let e = c.args.exp.now in
    let n = ap (λ (k : KExpNode). node_count k) c.in-One.is ∙ count_one c.in-One.op c.in-One.a in
    let names = subst (λ (a : KExp). NamesBelow p.slot_count a) (sym c.get.ensures) (names_one p.slot_count c.in-One.op c.in-One.a (subst (λ (k : KExpNode). NodeNames p.slot_count k) c.in-One.is c.requires.names)) in
    let room = subst (λ (a : KExp). HasRoom c.args.sheet.now (exp_count a)) (sym c.get.ensures) (room_less c.args.sheet.now (exp_count c.in-One.a) (exp_count e) (omega (arith, n)) c.requires.room) in
    let size = ap (λ (k : KExpNode). node_size k) c.in-One.is ∙ size_one c.in-One.op c.in-One.a in
    let same = ap (λ (a : KExp). exp_size a) c.get.ensures in
    search (rules, names, room, size, same)

pub lower_exp-place-requires : goal.lower_exp-place-requires
lower_exp-place-requires g t c =
    let p = g.P.Places.planned c.args.places.now in
    let a = c.get.result.now in
    let n = ap (λ (k : KExpNode). node_count k) c.in-One.is ∙ count_one c.in-One.op c.in-One.a in
    let same = ap (λ (x : KExp). exp_count x) c.get.ensures in
    let all = room_less c.args.sheet.now (exp_count a + 1) (exp_count c.args.exp.now) (omega (arith, n, same)) c.requires.room in
    let left = room_after c.args.sheet.now c.lower_exp.new.sheet (exp_draft p.offset a) (exp_count a) 1 (exp_small p.offset a) c.in_ok-lower_exp-in-One.ensures all in
    omega (arith, left.places)

pub lower_exp-returns-in_ok-number-in-One : goal.lower_exp-returns-in_ok-number-in-One
lower_exp-returns-in_ok-number-in-One g t c =
    let p = g.P.Places.planned c.args.places.now in
    let e = c.args.exp.now in
    let a = exp_draft p.offset c.get.result.now in
    let line : ℕ → List Line = λ (k : ℕ). plain (instr.Prefix c.in-One.op e.ty k) ∷ [] in
    let is = ap (λ (n : KExpNode). node_draft p.offset n e.ty e.pos) c.in-One.is ∙ draft_one p.offset c.in-One.op c.in-One.a e.ty e.pos
    ∙ ap (λ (x : KExp). both (exp_draft p.offset x) (placed e.pos line)) (sym c.get.ensures) in
    on_ok c.add-in-One.result (λ h. drafted c.args.sheet.now c.add-in-One.new.self (both a (placed e.pos line)) (exp_draft p.offset e) is
    (added_both c.args.sheet.now c.lower_exp.new.sheet c.add-in-One.new.self a (placed e.pos line) c.in_ok-lower_exp-in-One.ensures
    (noted_line c.lower_exp.new.sheet c.place.new.self c.add-in-One.new.self e.pos (λ k. instr.Prefix c.in-One.op e.ty k) c.in_ok-number-in-One.number c.in_ok-number-in-One.ensures.number c.in_ok-number-in-One.ensures.ok h))) c.add-in-One.ensures.ok

pub lower_exp-lower_two-requires : goal.lower_exp-lower_two-requires
lower_exp-lower_two-requires g t c κs within =
    let p = g.P.Places.planned c.args.places.now in
    let e = c.args.exp.now in
    let a = c.in-Two.a in
    let b = c.in-Two.b in
    let both_names = names_two p.slot_count c.in-Two.op a b (subst (λ (k : KExpNode). NodeNames p.slot_count k) c.in-Two.is c.requires.names) in
    let left = subst (λ (x : KExp). NamesBelow p.slot_count x) (sym c.get-in-Two.ensures) both_names.0 in
    let right = subst (λ (x : KExp). NamesBelow p.slot_count x) (sym c.get-in-Two-2.ensures) both_names.1 in
    let n = ap (λ (k : KExpNode). node_count k) c.in-Two.is ∙ count_two c.in-Two.op a b in
    let na = ap (λ (x : KExp). exp_count x) c.get-in-Two.ensures in
    let nb = ap (λ (x : KExp). exp_count x) c.get-in-Two-2.ensures in
    let room = room_less c.args.sheet.now (1 + exp_count c.get-in-Two.result.now + exp_count c.get-in-Two-2.result.now) (exp_count e) (omega (arith, n, na, nb)) c.requires.room in
    let size = ap (λ (k : KExpNode). node_size k) c.in-Two.is ∙ size_two c.in-Two.op a b in
    let sa = ap (λ (x : KExp). exp_size x) c.get-in-Two.ensures in
    let sb = ap (λ (x : KExp). exp_size x) c.get-in-Two-2.ensures in
    search (rules, left, right, room, size, sa, sb)

pub lower_exp-returns-in-Two : goal.lower_exp-returns-in-Two
lower_exp-returns-in-Two g t c =
    let p = g.P.Places.planned c.args.places.now in
    let e = c.args.exp.now in
    let is = ap (λ (n : KExpNode). node_draft p.offset n e.ty e.pos) c.in-Two.is ∙ draft_two p.offset c.in-Two.op c.in-Two.a c.in-Two.b e.ty e.pos
    ∙ ap (λ (x : KExp). two_draft c.in-Two.op e.ty x.ty c.in-Two.b.ty e.pos (exp_draft p.offset x) (exp_draft p.offset c.in-Two.b)) (sym c.get-in-Two.ensures)
    ∙ ap (λ (x : KExp). two_draft c.in-Two.op e.ty c.get-in-Two.result.now.ty x.ty e.pos (exp_draft p.offset c.get-in-Two.result.now) (exp_draft p.offset x)) (sym c.get-in-Two-2.ensures) in
    on_ok c.lower_two.result (λ h. drafted c.args.sheet.now c.lower_two.new.sheet _ (exp_draft p.offset e) is h) c.lower_two.ensures

pub lower_exp-lower_exp-requires-in-As : goal.lower_exp-lower_exp-requires-in-As
lower_exp-lower_exp-requires-in-As g t c κs within =
    let p = g.P.Places.planned c.args.places.now in
    let e = c.args.exp.now in
    let n = ap (λ (k : KExpNode). node_count k) c.in-As.is ∙ count_as c.in-As.a in
    let names = subst (λ (a : KExp). NamesBelow p.slot_count a) (sym c.get-in-As.ensures) (names_as p.slot_count c.in-As.a (subst (λ (k : KExpNode). NodeNames p.slot_count k) c.in-As.is c.requires.names)) in
    let room = subst (λ (a : KExp). HasRoom c.args.sheet.now (exp_count a)) (sym c.get-in-As.ensures) (room_less c.args.sheet.now (exp_count c.in-As.a) (exp_count e) (omega (arith, n)) c.requires.room) in
    let size = ap (λ (k : KExpNode). node_size k) c.in-As.is ∙ size_as c.in-As.a in
    let same = ap (λ (a : KExp). exp_size a) c.get-in-As.ensures in
    search (rules, names, room, size, same)

pub lower_exp-returns-in_ok-lower_exp-in-As : goal.lower_exp-returns-in_ok-lower_exp-in-As
lower_exp-returns-in_ok-lower_exp-in-As g t c =
    let p = g.P.Places.planned c.args.places.now in
    let e = c.args.exp.now in
    let a = exp_draft p.offset c.get-in-As.result.now in
    let line : KExp → List Line = λ (x : KExp). plain (instr.Convert x.ty e.ty) ∷ [] in
    let is = ap (λ (n : KExpNode). node_draft p.offset n e.ty e.pos) c.in-As.is ∙ draft_as p.offset c.in-As.a e.ty e.pos
    ∙ ap (λ (x : KExp). both (exp_draft p.offset x) (text (line x))) (sym c.get-in-As.ensures)
    ∙ ap (λ (x : KExp). both a (text (line x))) (c.get-in-As.ensures ∙ sym c.get-in-As-2.ensures) in
    on_ok c.add-in-As.result (λ h. drafted c.args.sheet.now c.add-in-As.new.self (both a (text (line c.get-in-As-2.result.now))) (exp_draft p.offset e) is
    (added_both c.args.sheet.now c.lower_exp-in-As.new.sheet c.add-in-As.new.self a (text (line c.get-in-As-2.result.now)) c.in_ok-lower_exp-in-As.ensures
    (added_text c.lower_exp-in-As.new.sheet c.add-in-As.new.self (line c.get-in-As-2.result.now) h))) c.add-in-As.ensures.ok
