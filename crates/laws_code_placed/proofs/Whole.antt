-- The labels of the whole code.
use Rattle.std.proofs.Common.{◌≡◌, refl, ap, ◌∙◌, ℕ, ◌+◌, ◌*◌, ◌<◌, ◌≤◌, true, None, List, [], ◌∷◌, ◌++◌, length, if◌then◌else◌, zero-add, arith}
use Rattle.std.specs.Prelude.{nat_lt}
use Rattle.std.proofs.lemmas.Bool.{and_parts}
use Rattle.std.proofs.lemmas.Bool.Decides.{nat_tests}
use Rattle.ceu_base.specs.declared.kinds.Pos.{Pos}
use Rattle.ceu_tree.specs.declared.kernel.Kernel.{Kernel}
use Rattle.ceu_tree.specs.Numbering.{block_nodes, codes_nodes}
use Rattle.ceu_tree.specs.Proper.{is_proper, Proper, block_ok, codes_ok, body_scope}
use Rattle.std.specs.List.{AllByRecursion}
use Rattle.ceu_base.specs.declared.kinds.Ty.TheVariants as ty
use Rattle.ceu_tree.specs.Mentions.{outer_names_from}
use Rattle.ceu_asm.specs.declared.line.Line.{Line}
use Rattle.ceu_asm.specs.declared.line.Line.TheVariants.{Mark, Plain, Jump}
use Rattle.ceu_asm.specs.Lines.{marks, IsMarkedOnce}
use Rattle.ceu_shape.specs.Plans.{Plan}
use Rattle.ceu_shape.specs.Pieces.{numbered}
use Rattle.ceu_shape.specs.Shape.{kernel_draft, first_fresh, kernel_piece, shape_positions, shape_lines}
use Rattle.laws_code_placed.specs.Laws.{MarkEachLabelOnce, MarkNoLabelTwice, MarkWhatIsNamed}
use Rattle.laws_code_placed.proofs.Slots.{numbered_both}
use Rattle.laws_code_placed.proofs.Below.{below, below_zero, both_numbered}
use Rattle.laws_code_placed.proofs.MarkedParts.{kernel_adds}
use Rattle.laws_code_placed.proofs.Named.{Named}
use Rattle.laws_code_placed.proofs.Grounds.{Ground}
use Rattle.laws_code_placed.proofs.NamedParts.{kernel_goes}

-- what the lines of any positions mark
marks_of : (P : Plan) (K : Kernel) → Proper K → (number : Pos → ℕ) (label : ℕ) → marks label ((kernel_piece P K).lines number) ≡ below label (kernel_piece P K).next
unfolding kernel_piece
marks_of P K ok number label =
    let nodes : List ℕ = block_nodes K.body ++ codes_nodes K.codes in
    let all = (kernel_adds P K label number (first_fresh K)).is in
    let own = both_numbered label 0 nodes (numbered_both K ok).0 in
    let there : below label (2 * (0 + length nodes)) ≡ below label (first_fresh K) = ap (λ n. below label (2 * n)) (zero-add (length nodes)) in
    omega (arith, all, own, there, below_zero label)

below_is : (label bound : ℕ) → below label bound ≡ (if nat_lt label bound then 1 else 0)
unfolding below
below_is label bound = refl

below_one : (label bound : ℕ) → below label bound ≤ 1
unfolding below
below_one label bound = grind (arith, nat_tests)

pub mark_each : MarkEachLabelOnce
unfolding shape_lines
mark_each P K ok label = marks_of P K ok (numbered (shape_positions P K)) label ∙ below_is label (kernel_piece P K).next

pub mark_none_twice : MarkNoLabelTwice
unfolding shape_lines
mark_none_twice P K ok label = omega (arith, marks_of P K ok (numbered (shape_positions P K)) label, below_one label (kernel_piece P K).next)

-- ---- what lines go to

pub body_proper : (K : Kernel) → Proper K → (block_ok K (outer_names_from [] K.codes) (body_scope K (outer_names_from [] K.codes) None K.body ty.S32) K.body ≡ true) × (codes_ok K (outer_names_from [] K.codes) 0 K.codes ≡ true)
unfolding is_proper
body_proper K ok =
    let names = outer_names_from [] K.codes in
    let all = and_parts _ (codes_ok K names 0 K.codes) ok in
    ((and_parts _ (block_ok K names (body_scope K names None K.body ty.S32) K.body) all.0).1, all.1)

named_once : (bound : ℕ) (all ls : List Line) → ((label : ℕ) → label < bound → marks label all ≡ 1) → Named bound ls → AllByRecursion (IsMarkedOnce all) ls
named_once bound all [] h n = tt
named_once bound all (Mark l ∷ ls) h n = (tt, named_once bound all ls h n.1)
named_once bound all (Plain i ∷ ls) h n = (tt, named_once bound all ls h n.1)
named_once bound all (Jump i l ∷ ls) h n = (h l n.0, named_once bound all ls h n.1)

below_yes : (label bound : ℕ) → label < bound → below label bound ≡ 1
unfolding below
below_yes label bound h = grind (arith, nat_tests)

goes_of : (P : Plan) (K : Kernel) → Proper K → (number : Pos → ℕ) → Named (kernel_piece P K).next ((kernel_piece P K).lines number)
unfolding kernel_piece
goes_of P K ok number =
    let nodes : List ℕ = block_nodes K.body ++ codes_nodes K.codes in
    let bound : ℕ = (kernel_draft P K (first_fresh K)).next in
    let grown : first_fresh K ≤ bound = (kernel_adds P K 0 number (first_fresh K)).grows in
    let ground : Ground (length nodes) 0 nodes = record { counts = (numbered_both K ok).0; fits = omega arith } in
    let parts = body_proper K ok in
    (kernel_goes bound number (length nodes) grown P K (outer_names_from [] K.codes) ground parts.0 parts.1 (first_fresh K)).named (omega arith)

pub mark_named : MarkWhatIsNamed
unfolding shape_lines
mark_named P K ok =
    let number : Pos → ℕ = numbered (shape_positions P K) in
    let all : List Line = (kernel_piece P K).lines number in
    named_once (kernel_piece P K).next all all (λ (label : ℕ) (h : label < (kernel_piece P K).next). marks_of P K ok number label ∙ below_yes label (kernel_piece P K).next h) (goes_of P K ok number)
