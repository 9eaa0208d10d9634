-- The variables that an expression reads are seen in the memory.
use Rattle.std.proofs.Common.{◌≡◌, refl, sym, ap, ◌∙◌, subst, ◌≤◌, inr, ℕ, ◌+◌, ◌%◌, ◌^◌, Bool, true, false, ◌&&◌, ◌||◌, List, Option, Some, None, is_some, Contains, arith}
use Rattle.std.specs.Prelude.{not, if◌then◌else◌}
use Rattle.std.proofs.lemmas.Bool.{le-leb, and_parts, and_from, false≢true}
use Rattle.ceu_base.specs.declared.kinds.Ty.{Ty}
use Rattle.ceu_base.specs.declared.kinds.Ty.TheVariants as ty
use Rattle.ceu_base.specs.Values.{IsValue, is_bool}
use Rattle.ceu_code.specs.declared.image.Image.{Image}
use Rattle.ceu_code.specs.Instructions.{cell}
use Rattle.ceu_mem.specs.Bytes.{number_at}
use Rattle.ceu_mem.specs.Memory.{size, value_at, with_sign}
use Rattle.ceu_isa.specs.Layout.{slots_at, end_of, in_slots}
use Rattle.ceu_tree.specs.declared.kernel.Kernel.{Kernel}
use Rattle.ceu_tree.specs.declared.kernel.KExp.{KExp}
use Rattle.ceu_tree.specs.declared.kernel.KExpNode as exp
use Rattle.ceu_tree.specs.declared.kernel.KExpNode.{KExpNode, Row_of-KExp, end_of-KExp, more_of-KExp, One', Two', As'}
use Rattle.ceu_tree.specs.declared.kernel.Loc.{Loc}
use Rattle.ceu_tree.specs.Depth.{exp_depth}
use Rattle.ceu_tree.specs.Expressions.{number_in}
use Rattle.ceu_tree.specs.Proper.{Scope, reads, asks, is_alias, find, outside_asyncs}
use Rattle.ceu_tree.specs.Residual.{Body, Program}
use Rattle.ceu_tree.specs.Focus.{Frame}
use Rattle.ceu_tree.specs.Typing.{node_typed, operand_typed, same_ty, typed}
use Rattle.ceu_tree.specs.World.{World, Cell, Holds, NotSet, Names, look, place_of}
use Rattle.ceu_shape.specs.Plans.{Plan}
use Rattle.laws_meaning_values.specs.Ground.{has}
use Rattle.laws_meaning_values.specs.Ready.{node_has, operand_has, exp_has}
use Rattle.laws_machine_code.specs.Does.{Kept}
use Rattle.laws_machine_code.specs.Seen.{address, VariableSeen, NodeSeen, OperandSeen, NodePlaced}
use Rattle.laws_machine_code.proofs.Numbers.{number_agrees}
use Rattle.ceu_trail.specs.Built.{number}
use Rattle.ceu_trail.specs.Turning.{MemoryHolds}
use Rattle.ceu_trail.specs.Within.{Variable, IsHeld, ValuesWithin}
use Rattle.ceu_within.proofs.Widths.{variable}
use Rattle.ceu_within.proofs.Scopes.{read_in}
use Rattle.ceu_within.proofs.Leaf.{exp_reads}
use Rattle.ceu_steps.specs.Live.{vars_in, slots_in, Live}
use Rattle.ceu_steps.specs.Ready.{Ready}
use Rattle.ceu_steps.proofs.Numbers.{value_back}
use Rattle.ceu_steps.proofs.Scenes.{Scene}

either : {A : Type 0} (b : Bool) (x : A) → (if b then x else x) ≡ x
either true x = refl
either false x = refl

module _ (image : Image) (P : Plan) (width : ℕ → ℕ) (K : Kernel) (slots_is : image.slots ≡ P.total) (outer : List Frame) (sc : Scope) (slots nodes : List ℕ) (scene : Scene outer sc slots nodes) (live : Live P.offset width P.frame P.total outer) (w : World) (bytes : List ℕ)
    (held : ValuesWithin (vars_in outer) w) (holds : MemoryHolds image P width K w bytes) where
  module _ (l : Loc) (may : reads K sc l ≡ true) (some : has Program l.slot w ≡ true) (later : List ℕ) (kept : Kept image 0 bytes later) where
    there : Contains (vars_in outer) (variable l.slot l.ty)
    there = (read_in K sc l (vars_in outer) scene.scope may).1

    known : (width l.slot ≡ size l.ty) × Contains (slots_in outer) l.slot
    known = live.variables (variable l.slot l.ty) there

    place : ℕ
    place = slots_at image + P.offset l.slot

    lies : in_slots image (slots_at image + P.offset l.slot) (size l.ty) ≡ true
    lies =
        let a = live.within l.slot known.1 in
        and_from _ _ (le-leb (slots_at image) (slots_at image + P.offset l.slot) (omega arith)) (le-leb (slots_at image + P.offset l.slot + size l.ty) (end_of image) (omega (arith, a, known.0, slots_is)))

    of_cell : (c : Cell) → look Program l.slot w.values ≡ Some c → IsHeld l.ty c
    of_cell c e =
        let o = held.within Program l.slot c e in
        subst (λ (t : Ty). IsHeld t c) (ap (λ (x : Variable). x.ty) (scene.once.one o.variable (variable l.slot l.ty) o.there there o.slot_is)) o.is_held

    read : (c : Cell) → look Program l.slot w.values ≡ Some c → value_at l.ty later (slots_at image + P.offset l.slot) ≡ number_in (Some c)
    read (Holds v) e =
        let a = holds.values.held Program l.slot (Holds v) e in
        let b : (if in_slots image (slots_at image + P.offset l.slot) (size l.ty) then number_at (size l.ty) bytes (slots_at image + P.offset l.slot) else 0) ≡ cell v % 256 ^ size l.ty =
        subst (λ (k : ℕ). (if in_slots image (slots_at image + P.offset l.slot) k then number_at k bytes (slots_at image + P.offset l.slot) else 0) ≡ cell v % 256 ^ k) known.0 a in
        let c : number_at (size l.ty) bytes (slots_at image + P.offset l.slot) ≡ cell v % 256 ^ size l.ty =
        sym (ap (λ (t : Bool). if t then number_at (size l.ty) bytes (slots_at image + P.offset l.slot) else 0) lies) ∙ b in
        let d = number_agrees (size l.ty) later bytes (slots_at image + P.offset l.slot) (λ i x y. kept.outside i (inr (omega arith))) in
        ap (with_sign l.ty) (d ∙ c) ∙ value_back l.ty v (scene.some_type (variable l.slot l.ty) there) (of_cell (Holds v) e)
    read NotSet e = absurd (of_cell NotSet e)
    read (Names n) e = absurd (of_cell (Names n) e)

    valued : (c : Cell) → look Program l.slot w.values ≡ Some c → IsValue l.ty (number_in (Some c))
    valued (Holds v) e = of_cell (Holds v) e
    valued NotSet e = absurd (of_cell NotSet e)
    valued (Names n) e = absurd (of_cell (Names n) e)

    by_look : (o : Option Cell) → look Program l.slot w.values ≡ o → is_some o ≡ true → (value_at l.ty later (slots_at image + P.offset l.slot) ≡ number_in (look Program l.slot w.values)) × IsValue l.ty (number_in (look Program l.slot w.values))
    by_look None e s = absurd (false≢true s)
    by_look (Some c) e s = (read c e ∙ ap number_in (sym e), subst (λ (o : Option Cell). IsValue l.ty (number_in o)) (sym e) (valued c e))

    variable_seen : VariableSeen image P.offset (slots_at image) Program w later l
    variable_seen =
        let x = by_look (look Program l.slot w.values) refl some in
        let at_place : address image P.offset (slots_at image) Program w l ≡ slots_at image + P.offset l.slot = ap (λ (k : ℕ). k + P.offset l.slot) (either l.outer (slots_at image)) in
        let body : place_of l Program ≡ Program = either l.outer Program in
        record {
          some_type = scene.some_type (variable l.slot l.ty) there;
          lies = ap (λ (k : ℕ). in_slots image k (size l.ty)) at_place ∙ lies;
          seen = ap (value_at l.ty later) at_place ∙ x.0 ∙ ap (λ (b : Body). number_in (look b l.slot w.values)) (sym body);
          is_value = subst (λ (b : Body). IsValue l.ty (number_in (look b l.slot w.values))) (sym body) x.1;
        }

  -- of the program's own body: no slot is named by `outer`
  has_own : (l : Loc) → reads K sc l ≡ true → (l.outer || has Program l.slot w) ≡ true → has Program l.slot w ≡ true
  has_own l may h = subst (λ (b : Bool). (b || has Program l.slot w) ≡ true) (read_in K sc l (vars_in outer) scene.scope may).0 h

  mutual
    unfolding node_typed operand_typed node_has operand_has NodeSeen OperandSeen

    node_seen : (later : List ℕ) → Kept image 0 bytes later → (e : KExpNode) (t : Ty) → node_typed (reads K sc) (asks K sc) e t ≡ true → node_has Program w e ≡ true → NodeSeen image P.offset (slots_at image) Program w later e
    node_seen later kept (exp.Const v) t h s = tt
    node_seen later kept (exp.Read l) t h s = let may = (and_parts (same_ty l.ty t) (reads K sc l) h).1 in variable_seen l may (has_own l may s) later kept
    node_seen later kept (exp.Alive c) t h s =
        absurd (false≢true (sym (scene.no_alias c) ∙ (and_parts (outside_asyncs sc.place) (is_alias (find c sc.seen)) (and_parts (is_bool t) (asks K sc c) h).1).1))
    node_seen later kept (One' op _ a) t h s = operand_seen later kept a (and_parts (operand_typed (reads K sc) (asks K sc) a) _ h).0 s
    node_seen later kept (Two' op _ a _ b) t h s =
        let x = and_parts (operand_typed (reads K sc) (asks K sc) a && operand_typed (reads K sc) (asks K sc) b) _ h in
        let y = and_parts (operand_typed (reads K sc) (asks K sc) a) (operand_typed (reads K sc) (asks K sc) b) x.0 in
        let z = and_parts (operand_has Program w a) (operand_has Program w b) s in
        (operand_seen later kept a y.0 z.0, operand_seen later kept b y.1 z.1)
    node_seen later kept (As' _ a) t h s =
        operand_seen later kept a (and_parts (operand_typed (reads K sc) (asks K sc) a) _ (and_parts (operand_typed (reads K sc) (asks K sc) a && not (same_ty t ty.None)) _ h).0).0 s

    operand_seen : {n : _} (later : List ℕ) → Kept image 0 bytes later → (rows : Row_of-KExp n) → operand_typed (reads K sc) (asks K sc) rows ≡ true → operand_has Program w rows ≡ true → OperandSeen image P.offset (slots_at image) Program w later rows
    operand_seen later kept end_of-KExp h s = tt
    operand_seen later kept (more_of-KExp t p e rest) h s = node_seen later kept e t h s

  pub ready : (e : KExp) → typed (reads K sc) (asks K sc) e ≡ true → exp_has Program w e ≡ true → exp_depth e ≤ image.depth → NodePlaced image (number image P K) e.node e.pos → Ready image P K w bytes e
  ready e h s deep placed = record {
    reads = reads K sc;
    asks = asks K sc;
    is_typed = h;
    visible = λ later kept. node_seen later kept e.node e.ty h s;
    placed = placed;
    deep = deep;
    values = exp_reads K sc (vars_in outer) scene.scope scene.once w held e h;
  }
