-- How many labels the parts of a statement have, by the kind of the statement.
use Rattle.std.proofs.Common.{◌≡◌, sym, ap, ◌∙◌, ℕ, zero, suc, ◌+◌, ◌-◌, ◌*◌, ◌<◌, ◌≤◌, List, [], ◌∷◌, ◌++◌, length, arith, append_assoc, length-append}
use Rattle.ceu_tree.specs.declared.kernel.ParKind.TheVariants as par
use Rattle.ceu_tree.specs.declared.kernel.KStmt.{KStmt, Row_of-KArm, end_of-KArm, more_of-KArm, Row_of-KBlock, end_of-KBlock, more_of-KBlock, Nothing, Assign, Out, Emit, AwaitIn, AwaitTime, AwaitEvent, Forever, AwaitCode, Spawn, Kill, Unset, Async, Finalize, Do, Escape, Break, Continue, If', Loop, Par'}
use Rattle.ceu_shape.specs.Shape.{count_if, arm_count, branch_nodes, ends_count, expression_labels, block_labels, arms_labels, branches_labels, part_labels}
use Rattle.ceu_low_flow.specs.Bounds.{arms_of}
use Rattle.ceu_low_flow.specs.Conditions as flow
use Rattle.ceu_low_pool.specs.Conditions as on_code
use Rattle.ceu_low_par.specs.Conditions as side
use Rattle.ceu_low_async.specs.Conditions as later
use Rattle.ceu_codegen.specs.declared.statement.Lowered.TheVariants as by
use Rattle.ceu_codegen.specs.Kinds.{lowered_by, parts_counted}

-- ---- two labels for each part

expressions_length : (n fresh : ℕ) → length (expression_labels n fresh) ≡ 2 * n
expressions_length zero fresh = omega arith
expressions_length (suc n) fresh = omega (arith, expressions_length n (fresh + 2))

arms_length : {n : _} (r : Row_of-KArm n) (fresh : ℕ) → length (arms_labels fresh r) ≡ 4 * arm_count r
arms_length end_of-KArm fresh = omega arith
arms_length (more_of-KArm a rest) fresh = omega (arith, arms_length rest (fresh + 2))

branches_length : {n : _} (r : Row_of-KBlock n) → length (branches_labels r) ≡ 2 * length (branch_nodes r)
branches_length end_of-KBlock = omega arith
branches_length (more_of-KBlock b rest) = omega (arith, branches_length rest)

pub parts_length : (s : KStmt) (fresh : ℕ) → length (part_labels fresh s) ≡ 2 * parts_counted s
parts_length Nothing fresh = omega arith
parts_length (Assign l e) fresh = omega (arith, expressions_length 1 fresh)
parts_length (Out k e) fresh = omega (arith, expressions_length (count_if e) fresh)
parts_length (Emit k e) fresh = omega (arith, expressions_length (count_if e) fresh)
parts_length (AwaitIn k t) fresh = omega arith
parts_length (AwaitTime e u t) fresh = omega (arith, expressions_length 1 fresh)
parts_length (AwaitEvent k t) fresh = omega arith
parts_length Forever fresh = omega arith
parts_length (AwaitCode c es frame t) fresh = omega (arith, expressions_length (length es) fresh)
parts_length (Spawn c es pool alias) fresh = omega (arith, expressions_length (length es) fresh)
parts_length (Kill c) fresh = omega arith
parts_length (Unset c) fresh = omega arith
parts_length (Async b) fresh = omega arith
parts_length (Finalize b) fresh = omega arith
parts_length (Do t b) fresh = omega arith
parts_length (Escape m e) fresh = omega (arith, expressions_length (count_if e) fresh)
parts_length (Break m) fresh = omega arith
parts_length (Continue m) fresh = omega arith
parts_length (If' _ arms last) fresh = omega (arith, arms_length arms fresh, length-append (arms_labels fresh arms) (block_labels last))
parts_length (Loop kind b) fresh = omega (arith, expressions_length (ends_count kind) fresh, length-append (expression_labels (ends_count kind) fresh) (block_labels b))
parts_length (Par' kind slot _ bs) fresh = omega (arith, branches_length bs)

-- ---- what each lowering call asks

pub record AsFlow (s : KStmt) : Type 0 where
  pub kind : flow.IsFlow s
  pub parts : parts_counted s ≡ flow.part_count s
  pub labels : flow.label_count s ≤ 1 + arms_of s

pub record AsOnCode (s : KStmt) : Type 0 where
  pub kind : on_code.IsPool s
  pub parts : parts_counted s ≡ on_code.part_count s

pub record AsSide (s : KStmt) : Type 0 where
  pub kind : side.IsPar s
  pub parts : parts_counted s ≡ side.part_count s
  pub labels : side.label_count s ≤ 2

pub record AsAsync (s : KStmt) : Type 0 where
  pub kind : later.IsAsync s
  pub parts : parts_counted s ≡ 1

pub as_flow : (s : KStmt) → lowered_by s ≡ by.Flow → AsFlow s
as_flow Nothing h = record { kind = tt; parts = omega arith; labels = omega arith }
as_flow (Assign l e) h = record { kind = tt; parts = omega arith; labels = omega arith }
as_flow (Out k e) h = record { kind = tt; parts = omega arith; labels = omega arith }
as_flow (Emit k e) h = record { kind = tt; parts = omega arith; labels = omega arith }
as_flow (AwaitIn k t) h = record { kind = tt; parts = omega arith; labels = omega arith }
as_flow (AwaitTime e u t) h = record { kind = tt; parts = omega arith; labels = omega arith }
as_flow (AwaitEvent k t) h = record { kind = tt; parts = omega arith; labels = omega arith }
as_flow Forever h = record { kind = tt; parts = omega arith; labels = omega arith }
as_flow (AwaitCode c es frame t) h = absurd cc
as_flow (Spawn c es pool alias) h = absurd cc
as_flow (Kill c) h = absurd cc
as_flow (Unset c) h = absurd cc
as_flow (Async b) h = absurd cc
as_flow (Finalize b) h = absurd cc
as_flow (Do t b) h = record { kind = tt; parts = omega arith; labels = omega arith }
as_flow (Escape m e) h = record { kind = tt; parts = omega arith; labels = omega arith }
as_flow (Break m) h = record { kind = tt; parts = omega arith; labels = omega arith }
as_flow (Continue m) h = record { kind = tt; parts = omega arith; labels = omega arith }
as_flow (If' _ arms last) h = record { kind = tt; parts = omega arith; labels = omega arith }
as_flow (Loop kind b) h = record { kind = tt; parts = omega arith; labels = omega arith }
as_flow (Par' kind slot _ bs) h = absurd cc

pub as_on_code : (s : KStmt) → lowered_by s ≡ by.OnCode → AsOnCode s
as_on_code Nothing h = absurd cc
as_on_code (Assign l e) h = absurd cc
as_on_code (Out k e) h = absurd cc
as_on_code (Emit k e) h = absurd cc
as_on_code (AwaitIn k t) h = absurd cc
as_on_code (AwaitTime e u t) h = absurd cc
as_on_code (AwaitEvent k t) h = absurd cc
as_on_code Forever h = absurd cc
as_on_code (AwaitCode c es frame t) h = record { kind = tt; parts = omega arith }
as_on_code (Spawn c es pool alias) h = record { kind = tt; parts = omega arith }
as_on_code (Kill c) h = record { kind = tt; parts = omega arith }
as_on_code (Unset c) h = record { kind = tt; parts = omega arith }
as_on_code (Async b) h = absurd cc
as_on_code (Finalize b) h = absurd cc
as_on_code (Do t b) h = absurd cc
as_on_code (Escape m e) h = absurd cc
as_on_code (Break m) h = absurd cc
as_on_code (Continue m) h = absurd cc
as_on_code (If' _ arms last) h = absurd cc
as_on_code (Loop kind b) h = absurd cc
as_on_code (Par' kind slot _ bs) h = absurd cc

pub as_side : (s : KStmt) → lowered_by s ≡ by.Side → AsSide s
as_side Nothing h = absurd cc
as_side (Assign l e) h = absurd cc
as_side (Out k e) h = absurd cc
as_side (Emit k e) h = absurd cc
as_side (AwaitIn k t) h = absurd cc
as_side (AwaitTime e u t) h = absurd cc
as_side (AwaitEvent k t) h = absurd cc
as_side Forever h = absurd cc
as_side (AwaitCode c es frame t) h = absurd cc
as_side (Spawn c es pool alias) h = absurd cc
as_side (Kill c) h = absurd cc
as_side (Unset c) h = absurd cc
as_side (Async b) h = absurd cc
as_side (Finalize b) h = record { kind = tt; parts = omega arith; labels = omega arith }
as_side (Do t b) h = absurd cc
as_side (Escape m e) h = absurd cc
as_side (Break m) h = absurd cc
as_side (Continue m) h = absurd cc
as_side (If' _ arms last) h = absurd cc
as_side (Loop kind b) h = absurd cc
as_side (Par' par.Never slot _ bs) h = record { kind = tt; parts = omega arith; labels = omega arith }
as_side (Par' par.Or slot _ bs) h = record { kind = tt; parts = omega arith; labels = omega arith }
as_side (Par' par.And slot _ bs) h = record { kind = tt; parts = omega arith; labels = omega arith }

pub as_async : (s : KStmt) → lowered_by s ≡ by.Async → AsAsync s
as_async Nothing h = absurd cc
as_async (Assign l e) h = absurd cc
as_async (Out k e) h = absurd cc
as_async (Emit k e) h = absurd cc
as_async (AwaitIn k t) h = absurd cc
as_async (AwaitTime e u t) h = absurd cc
as_async (AwaitEvent k t) h = absurd cc
as_async Forever h = absurd cc
as_async (AwaitCode c es frame t) h = absurd cc
as_async (Spawn c es pool alias) h = absurd cc
as_async (Kill c) h = absurd cc
as_async (Unset c) h = absurd cc
as_async (Async b) h = record { kind = tt; parts = omega arith }
as_async (Finalize b) h = absurd cc
as_async (Do t b) h = absurd cc
as_async (Escape m e) h = absurd cc
as_async (Break m) h = absurd cc
as_async (Continue m) h = absurd cc
as_async (If' _ arms last) h = absurd cc
as_async (Loop kind b) h = absurd cc
as_async (Par' kind slot _ bs) h = absurd cc

-- ---- labels that are added one after the other

pub labels_step : (all parts next : List ℕ) (count k fresh : ℕ) → k < count → all ≡ parts ++ expression_labels (count - k) (fresh + 2 * k) → next ≡ parts ++ ((fresh + 2 * k) ∷ (fresh + 2 * k + 1) ∷ []) →
    all ≡ next ++ expression_labels (count - (k + 1)) (fresh + 2 * (k + 1))
labels_step all parts next count k fresh below h e =
    let rest = count - (k + 1) in
    let one : count - k ≡ suc rest = omega arith in
    let two : fresh + 2 * k + 2 ≡ fresh + 2 * (k + 1) = omega arith in
    let pair : List ℕ = (fresh + 2 * k) ∷ (fresh + 2 * k + 1) ∷ [] in
    h ∙ ap (λ (n : ℕ). parts ++ expression_labels n (fresh + 2 * k)) one ∙ ap (λ (n : ℕ). parts ++ (pair ++ expression_labels rest n)) two
    ∙ sym (append_assoc parts pair (expression_labels rest (fresh + 2 * (k + 1)))) ∙ ap (λ (l : List ℕ). l ++ expression_labels rest (fresh + 2 * (k + 1))) (sym e)
