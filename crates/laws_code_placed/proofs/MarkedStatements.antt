-- The lines of a statement without its parts mark its own label, the ends of its parts and the labels that they take, each once.
use Rattle.std.proofs.Common.{◌≡◌, refl, ap, ◌∙◌, ℕ, zero, suc, ◌+◌, ◌*◌, List, [], ◌∷◌, ◌++◌, length, Bool, true, false, Option, Some, None, arith}
use Rattle.std.specs.Prelude.{slice_index}
use Rattle.ceu_base.specs.declared.kinds.Ty.{Ty}
use Rattle.ceu_base.specs.declared.kinds.Ty.TheVariants as ty
use Rattle.ceu_base.specs.declared.kinds.Pos.{Pos}
use Rattle.ceu_tree.specs.declared.kernel.Kernel.{Kernel}
use Rattle.ceu_tree.specs.declared.kernel.KLoop.{KLoop}
use Rattle.ceu_tree.specs.declared.kernel.KLoop.TheVariants as turns
use Rattle.ceu_tree.specs.declared.kernel.Loc.{Loc}
use Rattle.ceu_tree.specs.declared.kernel.ParKind.{ParKind}
use Rattle.ceu_tree.specs.declared.kernel.ParKind.TheVariants as par
use Rattle.ceu_tree.specs.declared.kernel.KBlock.{KBlock}
use Rattle.ceu_tree.specs.declared.kernel.KStmt.{KStmt, Row_of-KArm, end_of-KArm, more_of-KArm, Row_of-KBlock, end_of-KBlock, more_of-KBlock, Nothing, Assign, Out, Emit, AwaitIn, AwaitTime, AwaitEvent, Forever, AwaitCode, Spawn, Kill, Unset, Async, Finalize, Do, Escape, Break, Continue, If', Loop, Par'}
use Rattle.ceu_code.specs.declared.instr.Instr.TheVariants as instr
use Rattle.ceu_asm.specs.declared.line.Line.{Line}
use Rattle.ceu_asm.specs.declared.line.Labels.{Labels}
use Rattle.ceu_asm.specs.Lines.{marks}
use Rattle.ceu_shape.specs.Plans.{Plan, own_label, end_label}
use Rattle.ceu_shape.specs.Words.{mark, goto, plain, begin_of, end_of, abort}
use Rattle.ceu_shape.specs.Searches.{node_of_block, input_ty, event_ty, escape_target, stands_in_async, result_ty, pool_size}
use Rattle.ceu_shape.specs.Flow.{keep, zero_kept, turn_end, arms_lines, arm_ends, if_lines, loop_of}
use Rattle.ceu_shape.specs.Par.{forks, rest, move_to_first, forked, waiting_ends, never_lines, ends, or_lines, cleared, set_ends, tests, and_lines, par_draft}
use Rattle.ceu_shape.specs.Pools.{argument_lines, stop_behind, alias_offset, spawn_lines}
use Rattle.ceu_shape.specs.Async.{finalizer_lines}
use Rattle.ceu_shape.specs.Shape.{arm_count, arm_block, branch_nodes, arms_labels, branches_labels, block_labels, expression_labels, part_labels, labels_of, node_draft}
use Rattle.ceu_asm.proofs.Following.{marks-append}
use Rattle.laws_code_placed.proofs.Below.{one, below, below_more, ends_of}
use Rattle.laws_code_placed.proofs.Adding.{Adds, adds_text, adds_stopping, adds_placed, adds_placed_stopping}

-- the labels of parts from one on are those of a list
abbrev pub Reads : (parts : List ℕ) (part : ℕ) → List ℕ → Type 0
Reads parts k list = (j : ℕ) → slice_index parts (2 * k + j) ≡ slice_index list j

pub reads_all : (parts : List ℕ) → Reads parts 0 parts
reads_all parts j = ap (slice_index parts) (omega arith)

pub reads_next : (parts : List ℕ) (k a b : ℕ) (list : List ℕ) → Reads parts k (a ∷ b ∷ list) → Reads parts (k + 1) list
reads_next parts k a b list h j = let e : 2 * (k + 1) + j ≡ 2 * k + suc (suc j) = omega arith in ap (slice_index parts) e ∙ h (suc (suc j))

module _ (label : ℕ) where
  -- ---- lines without marks

  kept_none : (offset : ℕ → ℕ) (t : Ty) (target : Option Loc) (ls : List Line) → marks label (keep offset t target ++ ls) ≡ marks label ls
  kept_none offset t None ls = refl
  kept_none offset t (Some l) ls = omega arith

  zero_none : (offset : ℕ → ℕ) (target : Option Loc) (ls : List Line) → marks label (zero_kept offset target ++ ls) ≡ marks label ls
  zero_none offset None ls = refl
  zero_none offset (Some l) ls = omega arith

  turn_none : (b : Bool) (ls : List Line) → marks label (turn_end b ++ ls) ≡ marks label ls
  turn_none true ls = omega arith
  turn_none false ls = refl

  -- ---- arguments, and the parts of an if

  argument_marks : (labels : Labels) (k count begin : ℕ) → Reads labels.parts k (expression_labels count begin) → marks label (argument_lines labels k count) ≡ ends_of label (expression_labels count begin)
  argument_marks labels k zero begin h = refl
  argument_marks labels k (suc count) begin h =
      let more = argument_marks labels (k + 1) count (begin + 2) (reads_next labels.parts k begin (begin + 1) (expression_labels count (begin + 2)) h) in
      let e : one label (end_of labels k) ≡ one label (begin + 1) = ap (one label) (h 1) in
      omega (arith, more, e)

  arms_marks : {n : _} (rows : Row_of-KArm n) (last : KBlock) (labels : Labels) (k over begin z : ℕ) → z ≡ k + 2 * arm_count rows → Reads labels.parts k (arms_labels begin rows ++ block_labels last) →
      marks label (arms_lines labels k over (arm_count rows)) + (marks label (arm_ends labels k (arm_count rows)) + one label (end_of labels z)) + below label over
      ≡ ends_of label (arms_labels begin rows ++ block_labels last) + below label (over + arm_count rows)
  arms_marks end_of-KArm last labels k over begin z e h =
      let there : 2 * z + 1 ≡ 2 * k + 1 = omega (arith, e) in
      let same : one label (end_of labels z) ≡ one label (end_label (node_of_block last)) = ap (one label) (ap (slice_index labels.parts) there ∙ h 1) in
      let still : below label over ≡ below label (over + 0) = ap (below label) (omega arith) in
      omega (arith, same, still)
  arms_marks (more_of-KArm a more) last labels k over begin z e h =
      let first = reads_next labels.parts k begin (begin + 1) (block_labels (arm_block a) ++ (arms_labels (begin + 2) more ++ block_labels last)) h in
      let both : Reads labels.parts (k + 2) (arms_labels (begin + 2) more ++ block_labels last) =
      λ (j : ℕ). let i : 2 * (k + 2) + j ≡ 2 * k + suc (suc (suc (suc j))) = omega arith in ap (slice_index labels.parts) i ∙ h (suc (suc (suc (suc j)))) in
      let ih = arms_marks more last labels (k + 2) (over + 1) (begin + 2) z (omega (arith, e)) both in
      let condition : one label (end_of labels k) ≡ one label (begin + 1) = ap (one label) (h 1) in
      let body : one label (end_of labels (k + 1)) ≡ one label (end_label (node_of_block (arm_block a))) = ap (one label) (first 1) in
      let step = below_more label over (over + 1) refl in
      let still : below label (over + 1 + arm_count more) ≡ below label (over + suc (arm_count more)) = ap (below label) (omega arith) in
      omega (arith, ih, condition, body, step, still)

  -- ---- the parts of a par

  module _ (P : Plan) (labels : Labels) where
    forks_none : (k : ℕ) (bs : List ℕ) (ls : List Line) → marks label (forks P labels k bs ++ ls) ≡ marks label ls
    forks_none k [] ls = refl
    forks_none k (b ∷ bs) ls = omega (arith, forks_none (k + 1) bs ls)

    move_none : (bs : List ℕ) (ls : List Line) → marks label (move_to_first P labels bs ++ ls) ≡ marks label ls
    move_none [] ls = refl
    move_none (b ∷ bs) ls = omega arith

    forked_none : (bs : List ℕ) (ls : List Line) → marks label (forked P labels bs ++ ls) ≡ marks label ls
    forked_none bs ls =
        let x : List Line = forks P labels 1 (rest P labels bs) in
        let y : List Line = goto (begin_of labels 0) ∷ [] in
        let none : marks label y ≡ 0 = omega arith in
        let front : marks label (x ++ y) ≡ marks label y = forks_none 1 (rest P labels bs) y in
        omega (arith, marks-append label (x ++ y) ls, none, front)

    cleared_none : (slot : ℕ) (bs : List ℕ) (ls : List Line) → marks label (cleared P labels slot bs ++ ls) ≡ marks label ls
    cleared_none slot [] ls = refl
    cleared_none slot (b ∷ bs) ls = omega (arith, cleared_none (slot + 1) bs ls)

    tests_none : (slot halt : ℕ) (bs : List ℕ) (ls : List Line) → marks label (tests P labels slot halt bs ++ ls) ≡ marks label ls
    tests_none slot halt [] ls = refl
    tests_none slot halt (b ∷ bs) ls = omega (arith, tests_none (slot + 1) halt bs ls)

    waiting_marks : {n : _} (rows : Row_of-KBlock n) (k : ℕ) → Reads labels.parts k (branches_labels rows) → marks label (waiting_ends P labels k (branch_nodes rows)) ≡ ends_of label (branches_labels rows)
    waiting_marks end_of-KBlock k h = refl
    waiting_marks (more_of-KBlock b more) k h =
        let m : ℕ = node_of_block b in
        let ih = waiting_marks more (k + 1) (reads_next labels.parts k (own_label m) (end_label m) (branches_labels more) h) in
        let e : one label (end_of labels k) ≡ one label (end_label m) = ap (one label) (h 1) in
        omega (arith, ih, e)

    ends_marks : {n : _} (rows : Row_of-KBlock n) (k : ℕ) → Reads labels.parts k (branches_labels rows) → marks label (ends P labels k (branch_nodes rows)) ≡ ends_of label (branches_labels rows)
    ends_marks end_of-KBlock k h = refl
    ends_marks (more_of-KBlock b more) k h =
        let m : ℕ = node_of_block b in
        let ih = ends_marks more (k + 1) (reads_next labels.parts k (own_label m) (end_label m) (branches_labels more) h) in
        let e : one label (end_of labels k) ≡ one label (end_label m) = ap (one label) (h 1) in
        omega (arith, ih, e)

    set_marks : {n : _} (rows : Row_of-KBlock n) (k slot join : ℕ) → Reads labels.parts k (branches_labels rows) →
        marks label (set_ends P labels k slot join (branch_nodes rows)) ≡ ends_of label (branches_labels rows)
    set_marks end_of-KBlock k slot join h = refl
    set_marks (more_of-KBlock b more) k slot join h =
        let m : ℕ = node_of_block b in
        let ih = set_marks more (k + 1) (slot + 1) join (reads_next labels.parts k (own_label m) (end_label m) (branches_labels more) h) in
        let e : one label (end_of labels k) ≡ one label (end_label m) = ap (one label) (h 1) in
        omega (arith, ih, e)

    never_marks : {n : _} (rows : Row_of-KBlock n) → Reads labels.parts 0 (branches_labels rows) →
        marks label (never_lines P labels (branch_nodes rows)) ≡ one label labels.own + ends_of label (branches_labels rows)
    never_marks rows h =
        let bs : List ℕ = branch_nodes rows in
        let w : List Line = waiting_ends P labels 0 bs in
        omega (arith, move_none bs (forked P labels bs ++ w), forked_none bs w, waiting_marks rows 0 h)

    or_marks : {n : _} (rows : Row_of-KBlock n) (node : ℕ) → Reads labels.parts 0 (branches_labels rows) →
        marks label (or_lines P labels node (branch_nodes rows)) ≡ one label labels.own + ends_of label (branches_labels rows)
    or_marks rows node h =
        let bs : List ℕ = branch_nodes rows in
        let e : List Line = ends P labels 0 bs in
        let t : List Line = abort P node ∷ goto labels.next ∷ [] in
        let none : marks label t ≡ 0 = omega arith in
        omega (arith, move_none bs (forked P labels bs ++ (e ++ t)), forked_none bs (e ++ t), marks-append label e t, none, ends_marks rows 0 h)

    and_marks : {n : _} (rows : Row_of-KBlock n) (slot join : ℕ) → Reads labels.parts 0 (branches_labels rows) →
        marks label (and_lines P labels slot (branch_nodes rows) join) ≡ one label labels.own + (ends_of label (branches_labels rows) + (one label join + one label (join + 1)))
    and_marks rows slot join h =
        let bs : List ℕ = branch_nodes rows in
        let s : List Line = set_ends P labels 0 slot join bs in
        let u : List Line = goto labels.next ∷ mark (join + 1) ∷ plain instr.Halt ∷ [] in
        let t : List Line = (mark join ∷ tests P labels slot (join + 1) bs) ++ u in
        let last : marks label u ≡ one label (join + 1) = omega arith in
        let behind : marks label t ≡ one label join + one label (join + 1) = omega (arith, tests_none slot (join + 1) bs u, last) in
        omega (arith, move_none bs (cleared P labels slot bs ++ (forked P labels bs ++ (s ++ t))), cleared_none slot bs (forked P labels bs ++ (s ++ t)), forked_none bs (s ++ t), marks-append label s t, behind, set_marks rows 0 slot join h)

  if_marks : {n : _} (rows : Row_of-KArm n) (last : KBlock) (labels : Labels) (over begin : ℕ) → Reads labels.parts 0 (arms_labels begin rows ++ block_labels last) →
      marks label (if_lines (arm_count rows) labels over) + below label over ≡ one label labels.own + ends_of label (arms_labels begin rows ++ block_labels last) + below label (over + arm_count rows)
  if_marks rows last labels over begin h =
      let n : ℕ = arm_count rows in
      let a : List Line = arms_lines labels 0 over n in
      let e : List Line = arm_ends labels 0 n in
      let t : List Line = mark (end_of labels (2 * n)) ∷ goto labels.next ∷ [] in
      let b : List Line = (goto (begin_of labels (2 * n)) ∷ e) ++ t in
      let tail : marks label t ≡ one label (end_of labels (2 * n)) = omega arith in
      omega (arith, arms_marks rows last labels 0 over begin (2 * n) (omega arith) h, marks-append label a b, marks-append label e t, tail)

module _ (P : Plan) (K : Kernel) (label : ℕ) (number : Pos → ℕ) where
  abbrev NodeAdds : (node : ℕ) → Pos → KStmt → (begin fresh : ℕ) → Type 0
  NodeAdds n p s begin fresh = Adds label number (node_draft P K n p s (labels_of begin n s)) fresh 0 (one label (own_label n) + ends_of label (part_labels begin s))

  loop_adds : (yields : Bool) (n : ℕ) (p : Pos) (kind : KLoop) (b : KBlock) (begin head : ℕ) →
      let labels = labels_of begin n (Loop kind b) in
      Adds label number (λ (fresh : ℕ). loop_of P.offset yields n p kind labels fresh (fresh + 1)) head 0 (one label labels.own + ends_of label labels.parts)
  loop_adds yields n p turns.Free b begin head =
      let t = turn_none label yields (goto head ∷ []) in
      let s = below_more label head (head + 1) refl in
      record { is = omega (arith, t, s); grows = omega arith }
  loop_adds yields n p (turns.Times slot limit) b begin head =
      let t = turn_none label yields (goto head ∷ []) in
      let s = below_more label head (head + 1) refl in
      record { is = omega (arith, t, s); grows = omega arith }
  loop_adds yields n p (turns.Range i next end open_a x y open_b) b begin head =
      let t = turn_none label yields (goto head ∷ []) in
      let s = below_more label head (head + 1) refl in
      record { is = omega (arith, t, s); grows = omega arith }

  par_adds : {c : _} (n : ℕ) (kind : ParKind) (slot : ℕ) (rows : Row_of-KBlock c) (labels : Labels) (fresh : ℕ) → Reads labels.parts 0 (branches_labels rows) →
      Adds label number (par_draft P labels n kind slot (branch_nodes rows)) fresh 0 (one label labels.own + ends_of label (branches_labels rows))
  par_adds n par.Never slot rows labels fresh h = adds_stopping label number _ (never_lines P labels (branch_nodes rows)) fresh 0 _ (omega (arith, never_marks label P labels rows h))
  par_adds n par.Or slot rows labels fresh h = adds_text label number (or_lines P labels n (branch_nodes rows)) fresh 0 _ (omega (arith, or_marks label P labels rows n h))
  par_adds n par.And slot rows labels fresh h =
      let m = and_marks label P labels rows slot fresh h in
      let first = below_more label fresh (fresh + 1) refl in
      let second = below_more label (fresh + 1) (fresh + 2) (omega arith) in
      record { is = omega (arith, m, first, second); grows = omega arith }

  pub node_adds : (n : ℕ) (p : Pos) (s : KStmt) (begin fresh : ℕ) → NodeAdds n p s begin fresh
  node_adds n p Nothing begin fresh = adds_text label number _ fresh 0 _ (omega arith)
  node_adds n p (Assign l e) begin fresh = adds_text label number _ fresh 0 _ (omega arith)
  node_adds n p (Out k None) begin fresh = adds_text label number _ fresh 0 _ (omega arith)
  node_adds n p (Out k (Some e)) begin fresh = adds_text label number _ fresh 0 _ (omega arith)
  node_adds n p (Emit k None) begin fresh = adds_stopping label number _ _ fresh 0 _ (omega arith)
  node_adds n p (Emit k (Some e)) begin fresh = adds_stopping label number _ _ fresh 0 _ (omega arith)
  node_adds n p (AwaitIn k t) begin fresh = adds_stopping label number _ _ fresh 0 _ (omega (arith, kept_none label P.offset (input_ty K k) t (goto (end_label n) ∷ [])))
  node_adds n p (AwaitTime e u t) begin fresh = adds_stopping label number _ _ fresh 0 _ (omega (arith, kept_none label P.offset ty.S32 t (goto (end_label n) ∷ [])))
  node_adds n p (AwaitEvent k t) begin fresh = adds_stopping label number _ _ fresh 0 _ (omega (arith, kept_none label P.offset (event_ty K k) t (goto (end_label n) ∷ [])))
  node_adds n p Forever begin fresh = adds_stopping label number _ _ fresh 0 _ (omega arith)
  node_adds n p (AwaitCode c es f t) begin fresh =
      let labels = labels_of begin n (AwaitCode c es f t) in
      let a : List Line = argument_lines labels 0 (length es) in
      let g : List Line = goto (end_label n) ∷ [] in
      let k : List Line = (plain (instr.Call c (P.offset f) (P.first n)) ∷ keep P.offset (result_ty K c) t) ++ g in
      adds_stopping label number _ _ fresh 0 _ (omega (arith, marks-append label a k, kept_none label P.offset (result_ty K c) t g, argument_marks label labels 0 (length es) begin (reads_all labels.parts)))
  node_adds n p (Spawn c es q a) begin fresh =
      let labels = labels_of begin n (Spawn c es q a) in
      let x : List Line = argument_lines labels 0 (length es) in
      let g : List Line = plain (instr.Spawn c (P.offset q) (pool_size K q) (alias_offset P a) (number p)) ∷ goto (end_label n) ∷ [] in
      adds_placed_stopping label number (stop_behind n (length es) labels 14 11 ∷ []) p (λ position. spawn_lines P n c (length es) q (pool_size K q) a position labels) fresh 0 _ (omega (arith, marks-append label x g, argument_marks label labels 0 (length es) begin (reads_all labels.parts)))
  node_adds n p (Kill c) begin fresh = adds_text label number _ fresh 0 _ (omega arith)
  node_adds n p (Unset c) begin fresh = adds_text label number _ fresh 0 _ (omega arith)
  node_adds n p (Async b) begin fresh = adds_stopping label number _ _ fresh 0 _ (omega arith)
  node_adds n p (Finalize b) begin fresh = adds_placed label number p (λ position. finalizer_lines P n position (labels_of begin n (Finalize b))) fresh 0 _ (omega arith)
  node_adds n p (Do t b) begin fresh = adds_text label number _ fresh 0 _ (omega (arith, zero_none label P.offset t (goto (end_label n) ∷ [])))
  node_adds n p (Escape m None) begin fresh = adds_text label number _ fresh 0 _ (omega arith)
  node_adds n p (Escape m (Some e)) begin fresh = adds_text label number _ fresh 0 _ (omega (arith, kept_none label P.offset e.ty (escape_target K m) (goto (end_label m) ∷ [])))
  node_adds n p (Break m) begin fresh = adds_text label number _ fresh 0 _ (omega arith)
  node_adds n p (Continue m) begin fresh = adds_text label number _ fresh 0 _ (omega arith)
  node_adds n p (If' x arms last) begin fresh =
      let labels = labels_of begin n (If' x arms last) in
      let m = if_marks label arms last labels fresh begin (reads_all labels.parts) in
      record { is = omega (arith, m); grows = omega arith }
  node_adds n p (Loop kind b) begin fresh = let f = loop_adds (stands_in_async K n) n p kind b begin fresh in record { is = f.is; grows = f.grows }
  node_adds n p (Par' kind slot x bs) begin fresh = par_adds n kind slot bs (labels_of begin n (Par' kind slot x bs)) fresh (reads_all (branches_labels bs))
