-- The labels that the lines of a statement without its parts go to: its next label, the begins of its parts and those that it takes.
use Rattle.std.proofs.Common.{ℕ, zero, suc, ◌+◌, ◌*◌, ◌<◌, ◌≤◌, List, [], ◌∷◌, ◌++◌, length, Bool, true, false, Option, Some, None, arith}
use Rattle.std.specs.Prelude.{slice_index}
use Rattle.std.specs.List.{AllByRecursion}
use Rattle.ceu_base.specs.declared.kinds.Ty.{Ty}
use Rattle.ceu_base.specs.declared.kinds.Ty.TheVariants as ty
use Rattle.ceu_base.specs.declared.kinds.Pos.{Pos}
use Rattle.ceu_tree.specs.declared.kernel.Kernel.{Kernel}
use Rattle.ceu_tree.specs.declared.kernel.KLoop.{KLoop}
use Rattle.ceu_tree.specs.declared.kernel.KLoop.TheVariants as turns
use Rattle.ceu_tree.specs.declared.kernel.Loc.{Loc}
use Rattle.ceu_tree.specs.declared.kernel.ParKind.{ParKind}
use Rattle.ceu_tree.specs.declared.kernel.ParKind.TheVariants as par
use Rattle.ceu_tree.specs.declared.kernel.KStmt.{KStmt, Nothing, Assign, Out, Emit, AwaitIn, AwaitTime, AwaitEvent, Forever, AwaitCode, Spawn, Kill, Unset, Async, Finalize, Do, Escape, Break, Continue, If', Loop, Par'}
use Rattle.ceu_code.specs.declared.instr.Instr.TheVariants as instr
use Rattle.ceu_asm.specs.declared.line.Line.{Line}
use Rattle.ceu_asm.specs.declared.line.Labels.{Labels}
use Rattle.ceu_asm.specs.Tables.{NamesWithin}
use Rattle.ceu_shape.specs.Plans.{Plan}
use Rattle.ceu_shape.specs.Words.{mark, goto, plain, begin_of, end_of, abort}
use Rattle.ceu_shape.specs.Searches.{input_ty, event_ty, escape_target, stands_in_async, result_ty}
use Rattle.ceu_shape.specs.Flow.{keep, zero_kept, turn_lines, arms_lines, arm_ends, if_lines, loop_of}
use Rattle.ceu_shape.specs.Par.{forks, rest, move_to_first, forked, waiting_ends, ends, cleared, set_ends, tests, par_draft}
use Rattle.ceu_shape.specs.Pools.{argument_lines}
use Rattle.ceu_shape.specs.Shape.{arm_count, branch_nodes, node_draft}

module _ (bound : ℕ) where
  abbrev pub Named : List Line → Type 0
  Named ls = AllByRecursion (NamesWithin bound) ls

  pub named_append : (a b : List Line) → Named a → Named b → Named (a ++ b)
  named_append [] b f g = g
  named_append (x ∷ a) b f g = (f.0, named_append a b f.1 g)

  -- every label of a part is below
  abbrev pub PartsWithin : Labels → Type 0
  PartsWithin labels = (k : ℕ) → slice_index labels.parts k < bound

  keep_named : (offset : ℕ → ℕ) (t : Ty) (target : Option Loc) (ls : List Line) → Named ls → Named (keep offset t target ++ ls)
  keep_named offset t None ls h = h
  keep_named offset t (Some l) ls h = (tt, (tt, h))

  zero_named : (offset : ℕ → ℕ) (target : Option Loc) (ls : List Line) → Named ls → Named (zero_kept offset target ++ ls)
  zero_named offset None ls h = h
  zero_named offset (Some l) ls h = (tt, (tt, h))

  turn_named : (yields : Bool) (body : ℕ) (labels : Labels) (head : ℕ) → PartsWithin labels → head < bound → Named (turn_lines yields body labels head)
  turn_named true body labels head h low = (h (2 * body), (tt, (tt, (low, tt))))
  turn_named false body labels head h low = (h (2 * body), (tt, (low, tt)))

  arguments_named : (labels : Labels) (k count : ℕ) (ls : List Line) → PartsWithin labels → Named ls → Named (argument_lines labels k count ++ ls)
  arguments_named labels k zero ls h more = more
  arguments_named labels k (suc count) ls h more = (h (2 * k), (tt, arguments_named labels (k + 1) count ls h more))

  arms_named : (labels : Labels) (k over arms : ℕ) → PartsWithin labels → over + arms ≤ bound → Named (arms_lines labels k over arms)
  arms_named labels k over zero h low = tt
  arms_named labels k over (suc arms) h low = (h (2 * k), (tt, (omega arith, (h (2 * (k + 1)), (tt, arms_named labels (k + 2) (over + 1) arms h (omega arith))))))

  arm_ends_named : (labels : Labels) (k arms : ℕ) (ls : List Line) → Named ls → Named (arm_ends labels k arms ++ ls)
  arm_ends_named labels k zero ls h = h
  arm_ends_named labels k (suc arms) ls h = (tt, arm_ends_named labels (k + 2) arms ls h)

  if_named : (arms : ℕ) (labels : Labels) (over : ℕ) → PartsWithin labels → labels.next < bound → over + arms ≤ bound → Named (if_lines arms labels over)
  if_named arms labels over h next low =
      (tt, named_append (arms_lines labels 0 over arms) _ (arms_named labels 0 over arms h low) (h (2 * (2 * arms)), arm_ends_named labels 0 arms (mark (end_of labels (2 * arms)) ∷ goto labels.next ∷ []) (tt, (next, tt))))

  module _ (P : Plan) (labels : Labels) (h : PartsWithin labels) where
    forks_named : (k : ℕ) (bs : List ℕ) (ls : List Line) → Named ls → Named (forks P labels k bs ++ ls)
    forks_named k [] ls more = more
    forks_named k (b ∷ bs) ls more = (h (2 * k), forks_named (k + 1) bs ls more)

    move_named : (bs : List ℕ) (ls : List Line) → Named ls → Named (move_to_first P labels bs ++ ls)
    move_named [] ls more = more
    move_named (b ∷ bs) ls more = (tt, more)

    forked_named : (bs : List ℕ) (ls : List Line) → Named ls → Named (forked P labels bs ++ ls)
    forked_named bs ls more =
        named_append (forks P labels 1 (rest P labels bs) ++ (goto (begin_of labels 0) ∷ [])) ls (forks_named 1 (rest P labels bs) (goto (begin_of labels 0) ∷ []) (h 0, tt)) more

    cleared_named : (slot : ℕ) (bs : List ℕ) (ls : List Line) → Named ls → Named (cleared P labels slot bs ++ ls)
    cleared_named slot [] ls more = more
    cleared_named slot (b ∷ bs) ls more = (tt, (tt, cleared_named (slot + 1) bs ls more))

    tests_named : (slot halt : ℕ) (bs : List ℕ) (ls : List Line) → halt < bound → Named ls → Named (tests P labels slot halt bs ++ ls)
    tests_named slot halt [] ls low more = more
    tests_named slot halt (b ∷ bs) ls low more = (tt, (low, tests_named (slot + 1) halt bs ls low more))

    waiting_named : (k : ℕ) (bs : List ℕ) → Named (waiting_ends P labels k bs)
    waiting_named k [] = tt
    waiting_named k (b ∷ bs) = (tt, (tt, (tt, waiting_named (k + 1) bs)))

    ends_named : (k : ℕ) (bs : List ℕ) (ls : List Line) → Named ls → Named (ends P labels k bs ++ ls)
    ends_named k [] ls more = more
    ends_named k (b ∷ bs) ls more = (tt, ends_named (k + 1) bs ls more)

    set_named : (k slot join : ℕ) (bs : List ℕ) (ls : List Line) → join < bound → Named ls → Named (set_ends P labels k slot join bs ++ ls)
    set_named k slot join [] ls low more = more
    set_named k slot join (b ∷ bs) ls low more = (tt, (tt, (tt, (low, set_named (k + 1) (slot + 1) join bs ls low more))))

    par_named : (node : ℕ) (kind : ParKind) (slot : ℕ) (bs : List ℕ) (fresh : ℕ) (number : Pos → ℕ) → labels.next < bound → (par_draft P labels node kind slot bs fresh).next ≤ bound →
        Named ((par_draft P labels node kind slot bs fresh).lines number)
    par_named node par.Never slot bs fresh number next low = (tt, move_named bs _ (forked_named bs _ (waiting_named 0 bs)))
    par_named node par.Or slot bs fresh number next low = (tt, move_named bs _ (forked_named bs _ (ends_named 0 bs (abort P node ∷ goto labels.next ∷ []) (tt, (next, tt)))))
    par_named node par.And slot bs fresh number next low =
        let join : fresh < bound = omega (arith, low) in
        let halt : fresh + 1 < bound = omega (arith, low) in
        let last : Named (goto labels.next ∷ mark (fresh + 1) ∷ plain instr.Halt ∷ []) = (next, (tt, (tt, tt))) in
        (tt, move_named bs _ (cleared_named slot bs _ (forked_named bs _ (set_named 0 slot fresh bs _ join (tt, tests_named slot (fresh + 1) bs _ halt last)))))

  module _ (P : Plan) (K : Kernel) (labels : Labels) (h : PartsWithin labels) (next : labels.next < bound) where
    loop_named : (yields : Bool) (n : ℕ) (p : Pos) (kind : KLoop) (head fresh : ℕ) (number : Pos → ℕ) → head < bound → Named ((loop_of P.offset yields n p kind labels head fresh).lines number)
    loop_named yields n p turns.Free head fresh number low = (tt, (tt, turn_named yields 0 labels head h low))
    loop_named yields n p (turns.Times slot limit) head fresh number low = (tt, (tt, (tt, (tt, (tt, turn_named yields 0 labels head h low)))))
    loop_named yields n p (turns.Range i next_slot end open_a x y open_b) head fresh number low =
        (tt, (h 0, (tt, (tt, (h 2, (tt, (tt, (tt, (next, turn_named yields 2 labels head h low)))))))))

    pub node_named : (n : ℕ) (p : Pos) (s : KStmt) (fresh : ℕ) (number : Pos → ℕ) → (node_draft P K n p s labels fresh).next ≤ bound → Named ((node_draft P K n p s labels fresh).lines number)
    node_named n p Nothing fresh number low = (tt, (next, tt))
    node_named n p (Assign l e) fresh number low = (tt, (h 0, (tt, (tt, (next, tt)))))
    node_named n p (Out k None) fresh number low = (tt, (tt, (next, tt)))
    node_named n p (Out k (Some e)) fresh number low = (tt, (h 0, (tt, (tt, (next, tt)))))
    node_named n p (Emit k None) fresh number low = (tt, (tt, (tt, (next, tt))))
    node_named n p (Emit k (Some e)) fresh number low = (tt, (tt, (h 0, (tt, (tt, (next, tt))))))
    node_named n p (AwaitIn k t) fresh number low = (tt, (tt, (tt, keep_named P.offset (input_ty K k) t (goto labels.next ∷ []) (next, tt))))
    node_named n p (AwaitTime e u t) fresh number low = (tt, (tt, (h 0, (tt, (tt, keep_named P.offset ty.S32 t (goto labels.next ∷ []) (next, tt))))))
    node_named n p (AwaitEvent k t) fresh number low = (tt, (tt, (tt, keep_named P.offset (event_ty K k) t (goto labels.next ∷ []) (next, tt))))
    node_named n p Forever fresh number low = (tt, (tt, (tt, tt)))
    node_named n p (AwaitCode c es f t) fresh number low = (tt, arguments_named labels 0 (length es) _ h (tt, keep_named P.offset (result_ty K c) t (goto labels.next ∷ []) (next, tt)))
    node_named n p (Spawn c es q a) fresh number low = (tt, (tt, arguments_named labels 0 (length es) _ h (tt, (next, tt))))
    node_named n p (Kill c) fresh number low = (tt, (tt, (next, tt)))
    node_named n p (Unset c) fresh number low = (tt, (tt, (tt, (next, tt))))
    node_named n p (Async b) fresh number low = (tt, (tt, (tt, (h 0, (tt, (tt, (next, tt)))))))
    node_named n p (Finalize b) fresh number low = (tt, (h 0, (next, (tt, (tt, tt)))))
    node_named n p (Do t b) fresh number low = (tt, (h 0, (tt, zero_named P.offset t (goto labels.next ∷ []) (next, tt))))
    node_named n p (Escape m None) fresh number low = (tt, (tt, (next, tt)))
    node_named n p (Escape m (Some e)) fresh number low = (tt, (h 0, (tt, (tt, (tt, keep_named P.offset e.ty (escape_target K m) (goto labels.next ∷ []) (next, tt))))))
    node_named n p (Break m) fresh number low = (tt, (tt, (next, tt)))
    node_named n p (Continue m) fresh number low = (tt, (tt, (next, tt)))
    node_named n p (If' x arms last) fresh number low = if_named (arm_count arms) labels fresh h next low
    node_named n p (Loop kind b) fresh number low = loop_named (stands_in_async K n) n p kind fresh (fresh + 1) number (loop_low (stands_in_async K n) n p kind fresh number low)
      where
        loop_low : (yields : Bool) (n : ℕ) (p : Pos) (kind : KLoop) (fresh : ℕ) (number : Pos → ℕ) → (loop_of P.offset yields n p kind labels fresh (fresh + 1)).next ≤ bound → fresh < bound
        loop_low yields n p turns.Free fresh number low = omega arith
        loop_low yields n p (turns.Times slot limit) fresh number low = omega arith
        loop_low yields n p (turns.Range i next_slot end open_a x y open_b) fresh number low = omega arith
    node_named n p (Par' kind slot x bs) fresh number low = par_named P labels h n kind slot (branch_nodes bs) fresh number next low
