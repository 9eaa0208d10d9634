-- How many bytes, labels and positions the lines of a statement of one trail take.
use Rattle.std.proofs.Common.{◌≡◌, ℕ, zero, suc, ◌+◌, ◌*◌, ◌≤◌, List, [], ◌∷◌, ◌++◌, length, arith, Option, Some, None, Bool, true, false, if◌then◌else◌}
use Rattle.ceu_base.specs.declared.kinds.Ty.{Ty}
use Rattle.ceu_base.specs.declared.kinds.Ty.TheVariants as ty
use Rattle.ceu_base.specs.declared.kinds.Pos.{Pos}
use Rattle.ceu_tree.specs.declared.kernel.Kernel.{Kernel}
use Rattle.ceu_tree.specs.declared.kernel.KExp.{KExp}
use Rattle.ceu_tree.specs.declared.kernel.Loc.{Loc}
use Rattle.ceu_tree.specs.declared.kernel.KLoop.{KLoop}
use Rattle.ceu_tree.specs.declared.kernel.KLoop.TheVariants as turns
use Rattle.ceu_tree.specs.declared.kernel.KStmt.{KStmt, Nothing, Assign, Out, Emit, AwaitIn, AwaitTime, AwaitEvent, Forever, AwaitCode, Spawn, Kill, Unset, Async, Finalize, Do, Escape, Break, Continue, If', Loop, Par'}
use Rattle.ceu_code.specs.declared.instr.Instr.TheVariants as instr
use Rattle.ceu_asm.specs.declared.line.Line.{Line}
use Rattle.ceu_asm.specs.declared.line.Labels.{Labels}
use Rattle.ceu_asm.specs.Lines.{code_size, line_size}
use Rattle.ceu_shape.specs.Plans.{Plan}
use Rattle.ceu_shape.specs.Words.{mark, plain, goto, begin_of, end_of, store, abort}
use Rattle.ceu_shape.specs.Searches.{input_ty, output_ty, event_ty, event_number, stands_in_async, escape_target}
use Rattle.ceu_shape.specs.Flow.{part_if, keep, turn_end, turn_lines, arms_lines, arm_ends, if_lines, zero_kept, escape_value, escape_kept, escape_lines, loop_of}
use Rattle.ceu_shape.specs.Shape.{arm_count, count_if, expression_count, ends_count, node_draft}
use Rattle.ceu_shape.proofs.Short.{size_append}
use Rattle.ceu_low_flow.specs.Conditions.{IsFlow, label_count}
use Rattle.ceu_low_flow.specs.Bounds.{arms_of}

store_size : (offset : ℕ → ℕ) (l : Loc) → line_size (store offset l) ≤ 4
store_size offset l = go l.outer
  where
    go : (b : Bool) → line_size (plain (if b then instr.StoreOuter l.ty (offset l.slot) else instr.Store l.ty (offset l.slot))) ≤ 4
    go true = omega arith
    go false = omega arith

part_size : {A : Type 0} (e : Option A) (labels : Labels) → code_size (part_if e labels) ≤ 3 * count_if e
part_size None labels = omega arith
part_size (Some e) labels = omega arith

keep_size : (offset : ℕ → ℕ) (t : Ty) (target : Option Loc) → code_size (keep offset t target) ≤ 6
keep_size offset t None = omega arith
keep_size offset t (Some l) = omega (arith, store_size offset l)

zero_size : (offset : ℕ → ℕ) (target : Option Loc) → code_size (zero_kept offset target) ≤ 14
zero_size offset None = omega arith
zero_size offset (Some l) = omega (arith, store_size offset l)

value_size : (e : Option KExp) (labels : Labels) → code_size (escape_value e labels) ≤ 3 * count_if e + 1
value_size None labels = omega arith
value_size (Some e) labels = omega arith

kept_size : (offset : ℕ → ℕ) (e : Option KExp) (target : Option Loc) → code_size (escape_kept offset e target) ≤ 6
kept_size offset None target = omega arith
kept_size offset (Some e) target = keep_size offset e.ty target

yield_size : (b : Bool) → code_size (turn_end b) ≤ 1
yield_size true = omega arith
yield_size false = omega arith

turn_size : (b : Bool) (body : ℕ) (labels : Labels) (head : ℕ) → code_size (turn_lines b body labels head) ≤ 7
turn_size b body labels head =
    let y : List Line = turn_end b in
    let g : List Line = goto head ∷ [] in
    let three : code_size g ≤ 3 = omega arith in
    omega (arith, yield_size b, size_append y g, three)

arms_size : (labels : Labels) (k over arms : ℕ) → code_size (arms_lines labels k over arms) ≤ 9 * arms
arms_size labels k over zero = omega arith
arms_size labels k over (suc arms) = omega (arith, arms_size labels (k + 2) (over + 1) arms)

ends_size : (labels : Labels) (k arms : ℕ) → code_size (arm_ends labels k arms) ≡ 0
ends_size labels k zero = omega arith
ends_size labels k (suc arms) = omega (arith, ends_size labels (k + 2) arms)

if_size : (arms : ℕ) (labels : Labels) (over : ℕ) → code_size (if_lines arms labels over) ≤ 9 * arms + 6
if_size arms labels over =
    let a : List Line = arms_lines labels 0 over arms in
    let e : List Line = arm_ends labels 0 arms in
    let t : List Line = mark (end_of labels (2 * arms)) ∷ goto labels.next ∷ [] in
    let b : List Line = goto (begin_of labels (2 * arms)) ∷ e in
    let three : code_size t ≤ 3 = omega arith in
    let back : code_size (b ++ t) ≤ 6 = omega (arith, size_append e t, ends_size labels 0 arms, three) in
    omega (arith, arms_size labels 0 over arms, size_append a (b ++ t), back)

loop_size : (offset : ℕ → ℕ) (b : Bool) (n : ℕ) (p : Pos) (kind : KLoop) (labels : Labels) (head : ℕ) (fresh : ℕ) (number : Pos → ℕ) →
    code_size ((loop_of offset b n p kind labels head fresh).lines number) ≤ 3 * ends_count kind + 33
loop_size offset b n p turns.Free labels head fresh number = omega (arith, turn_size b 0 labels head)
loop_size offset b n p (turns.Times slot limit) labels head fresh number = omega (arith, turn_size b 0 labels head)
loop_size offset b n p (turns.Range i next end open_a x y open_b) labels head fresh number = omega (arith, turn_size b 2 labels head)

escape_size : (P : Plan) (m : ℕ) (e : Option KExp) (target : Option Loc) (labels : Labels) → code_size (escape_lines P m e target labels) ≤ 3 * count_if e + 45 * 0 + 33
escape_size P m e target labels =
    let v : List Line = escape_value e labels in
    let k : List Line = escape_kept P.offset e target in
    let g : List Line = goto labels.next ∷ [] in
    let a : List Line = abort P m ∷ k in
    let three : code_size g ≤ 3 = omega arith in
    let back : code_size (a ++ g) ≤ 14 = omega (arith, size_append k g, kept_size P.offset e target, three) in
    omega (arith, size_append v (a ++ g), value_size e labels, back)

pub few_bytes : (P : Plan) (K : Kernel) (n : ℕ) (p : Pos) (s : KStmt) (labels : Labels) (fresh : ℕ) (number : Pos → ℕ) → IsFlow s →
    code_size ((node_draft P K n p s labels fresh).lines number) ≤ 3 * expression_count s + 45 * arms_of s + 33
few_bytes P K n p Nothing labels fresh number h = omega arith
few_bytes P K n p (Assign l e) labels fresh number h = omega (arith, store_size P.offset l)
few_bytes P K n p (Out k e) labels fresh number h = omega (arith, part_size e labels, size_append (part_if e labels) (plain (instr.Output k (output_ty K k)) ∷ goto labels.next ∷ []))
few_bytes P K n p (Emit k e) labels fresh number h = omega (arith, part_size e labels, size_append (part_if e labels) (plain (instr.Emit (event_number K k) (event_ty K k)) ∷ goto labels.next ∷ []))
few_bytes P K n p (AwaitIn k t) labels fresh number h = omega (arith, keep_size P.offset (input_ty K k) t, size_append (keep P.offset (input_ty K k) t) (goto labels.next ∷ []))
few_bytes P K n p (AwaitTime e u t) labels fresh number h = omega (arith, keep_size P.offset ty.S32 t, size_append (keep P.offset ty.S32 t) (goto labels.next ∷ []))
few_bytes P K n p (AwaitEvent k t) labels fresh number h = omega (arith, keep_size P.offset (event_ty K k) t, size_append (keep P.offset (event_ty K k) t) (goto labels.next ∷ []))
few_bytes P K n p Forever labels fresh number h = omega arith
few_bytes P K n p (Do t b) labels fresh number h = omega (arith, zero_size P.offset t, size_append (zero_kept P.offset t) (goto labels.next ∷ []))
few_bytes P K n p (Escape m e) labels fresh number h = escape_size P m e (escape_target K m) labels
few_bytes P K n p (Break m) labels fresh number h = omega arith
few_bytes P K n p (Continue m) labels fresh number h = omega arith
few_bytes P K n p (If' _ arms last) labels fresh number h = omega (arith, if_size (arm_count arms) labels fresh)
few_bytes P K n p (Loop kind b) labels fresh number h = omega (arith, loop_size P.offset (stands_in_async K n) n p kind labels fresh (fresh + 1) number)
few_bytes P K n p (AwaitCode c es f t) labels fresh number h = absurd h
few_bytes P K n p (Spawn c es q a) labels fresh number h = absurd h
few_bytes P K n p (Kill c) labels fresh number h = absurd h
few_bytes P K n p (Unset c) labels fresh number h = absurd h
few_bytes P K n p (Async b) labels fresh number h = absurd h
few_bytes P K n p (Finalize b) labels fresh number h = absurd h
few_bytes P K n p (Par' kind slot x bs) labels fresh number h = absurd h

pub few_labels : (P : Plan) (K : Kernel) (n : ℕ) (p : Pos) (s : KStmt) (labels : Labels) (fresh : ℕ) → IsFlow s → (node_draft P K n p s labels fresh).next ≤ fresh + label_count s
few_labels P K n p Nothing labels fresh h = omega arith
few_labels P K n p (Assign l e) labels fresh h = omega arith
few_labels P K n p (Out k e) labels fresh h = omega arith
few_labels P K n p (Emit k e) labels fresh h = omega arith
few_labels P K n p (AwaitIn k t) labels fresh h = omega arith
few_labels P K n p (AwaitTime e u t) labels fresh h = omega arith
few_labels P K n p (AwaitEvent k t) labels fresh h = omega arith
few_labels P K n p Forever labels fresh h = omega arith
few_labels P K n p (Do t b) labels fresh h = omega arith
few_labels P K n p (Escape m e) labels fresh h = omega arith
few_labels P K n p (Break m) labels fresh h = omega arith
few_labels P K n p (Continue m) labels fresh h = omega arith
few_labels P K n p (If' _ arms last) labels fresh h = omega arith
few_labels P K n p (Loop turns.Free b) labels fresh h = omega arith
few_labels P K n p (Loop (turns.Times slot limit) b) labels fresh h = omega arith
few_labels P K n p (Loop (turns.Range i next end open_a x y open_b) b) labels fresh h = omega arith
few_labels P K n p (AwaitCode c es f t) labels fresh h = absurd h
few_labels P K n p (Spawn c es q a) labels fresh h = absurd h
few_labels P K n p (Kill c) labels fresh h = absurd h
few_labels P K n p (Unset c) labels fresh h = absurd h
few_labels P K n p (Async b) labels fresh h = absurd h
few_labels P K n p (Finalize b) labels fresh h = absurd h
few_labels P K n p (Par' kind slot x bs) labels fresh h = absurd h

pub one_position : (P : Plan) (K : Kernel) (n : ℕ) (p : Pos) (s : KStmt) (labels : Labels) (fresh : ℕ) → IsFlow s → length (node_draft P K n p s labels fresh).noted ≤ 1
one_position P K n p Nothing labels fresh h = omega arith
one_position P K n p (Assign l e) labels fresh h = omega arith
one_position P K n p (Out k e) labels fresh h = omega arith
one_position P K n p (Emit k e) labels fresh h = omega arith
one_position P K n p (AwaitIn k t) labels fresh h = omega arith
one_position P K n p (AwaitTime e u t) labels fresh h = omega arith
one_position P K n p (AwaitEvent k t) labels fresh h = omega arith
one_position P K n p Forever labels fresh h = omega arith
one_position P K n p (Do t b) labels fresh h = omega arith
one_position P K n p (Escape m e) labels fresh h = omega arith
one_position P K n p (Break m) labels fresh h = omega arith
one_position P K n p (Continue m) labels fresh h = omega arith
one_position P K n p (If' _ arms last) labels fresh h = omega arith
one_position P K n p (Loop turns.Free b) labels fresh h = omega arith
one_position P K n p (Loop (turns.Times slot limit) b) labels fresh h = omega arith
one_position P K n p (Loop (turns.Range i next end open_a x y open_b) b) labels fresh h = omega arith
one_position P K n p (AwaitCode c es f t) labels fresh h = absurd h
one_position P K n p (Spawn c es q a) labels fresh h = absurd h
one_position P K n p (Kill c) labels fresh h = absurd h
one_position P K n p (Unset c) labels fresh h = absurd h
one_position P K n p (Async b) labels fresh h = absurd h
one_position P K n p (Finalize b) labels fresh h = absurd h
one_position P K n p (Par' kind slot x bs) labels fresh h = absurd h
