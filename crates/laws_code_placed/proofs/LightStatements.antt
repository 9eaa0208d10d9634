-- How many bytes, labels and positions the lines of a statement without its parts take.
use Rattle.std.proofs.Common.{◌≡◌, refl, ℕ, zero, suc, ◌+◌, ◌*◌, ◌≤◌, List, [], ◌∷◌, ◌++◌, length, Option, Some, None, Bool, true, false, if◌then◌else◌, arith}
use Rattle.ceu_base.specs.declared.kinds.Ty.{Ty}
use Rattle.ceu_base.specs.declared.kinds.Pos.{Pos}
use Rattle.ceu_tree.specs.declared.kernel.Kernel.{Kernel}
use Rattle.ceu_tree.specs.declared.kernel.Loc.{Loc}
use Rattle.ceu_tree.specs.declared.kernel.KLoop.TheVariants as turns
use Rattle.ceu_tree.specs.declared.kernel.ParKind.{ParKind}
use Rattle.ceu_tree.specs.declared.kernel.ParKind.TheVariants as par
use Rattle.ceu_tree.specs.declared.kernel.KStmt.{KStmt, Nothing, Assign, Out, Emit, AwaitIn, AwaitTime, AwaitEvent, Forever, AwaitCode, Spawn, Kill, Unset, Async, Finalize, Do, Escape, Break, Continue, If', Loop, Par'}
use Rattle.ceu_code.specs.declared.instr.Instr.TheVariants as instr
use Rattle.ceu_asm.specs.declared.line.Line.{Line}
use Rattle.ceu_asm.specs.declared.line.Labels.{Labels}
use Rattle.ceu_asm.specs.Lines.{code_size}
use Rattle.ceu_shape.specs.Plans.{Plan}
use Rattle.ceu_shape.specs.Words.{mark, plain, goto, begin_of, abort}
use Rattle.ceu_shape.specs.Searches.{result_ty, pool_size}
use Rattle.ceu_shape.specs.Flow.{keep}
use Rattle.ceu_shape.specs.Par.{forks, rest, move_to_first, forked, waiting_ends, never_lines, ends, or_lines, cleared, set_ends, tests, and_lines, par_draft}
use Rattle.ceu_shape.specs.Pools.{argument_lines, alias_offset}
use Rattle.ceu_shape.specs.Shape.{arm_count, branch_nodes, expression_count, node_draft}
use Rattle.ceu_shape.proofs.Short.{size_append}
use Rattle.ceu_low_flow.proofs.Bytes.{few_bytes}
use Rattle.laws_code_placed.proofs.Light.{Light}

more : {a b : ℕ} → a ≤ b → a + 0 ≤ b
more h = omega arith

-- the arms of an if, and the branches of a par
abbrev pub heads : KStmt → ℕ
heads (If' _ arms last) = arm_count arms
heads (Par' kind slot _ bs) = length (branch_nodes bs)
heads _ = 0

abbrev pub own_bytes : KStmt → ℕ
own_bytes (Finalize b) = 20
own_bytes _ = 33

kept_size : (offset : ℕ → ℕ) (t : Ty) (target : Option Loc) (ls : List Line) → code_size (keep offset t target ++ ls) ≤ 6 + code_size ls
kept_size offset t None ls = omega arith
kept_size offset t (Some l) ls = go l.outer
  where
    go : (b : Bool) → 2 + (code_size (plain (if b then instr.StoreOuter l.ty (offset l.slot) else instr.Store l.ty (offset l.slot)) ∷ ls)) ≤ 6 + code_size ls
    go true = omega arith
    go false = omega arith

arguments_size : (labels : Labels) (k count : ℕ) (ls : List Line) → code_size (argument_lines labels k count ++ ls) ≡ 3 * count + code_size ls
arguments_size labels k zero ls = omega arith
arguments_size labels k (suc count) ls = omega (arith, arguments_size labels (k + 1) count ls)

module _ (P : Plan) (labels : Labels) where
  forks_size : (k : ℕ) (bs : List ℕ) (ls : List Line) → code_size (forks P labels k bs ++ ls) ≡ 5 * length bs + code_size ls
  forks_size k [] ls = omega arith
  forks_size k (b ∷ bs) ls = omega (arith, forks_size (k + 1) bs ls)

  rest_short : (bs : List ℕ) → length (rest P labels bs) ≤ length bs
  rest_short [] = omega arith
  rest_short (b ∷ bs) = omega arith

  move_size : (bs : List ℕ) (ls : List Line) → code_size (move_to_first P labels bs ++ ls) ≤ 3 + code_size ls
  move_size [] ls = omega arith
  move_size (b ∷ bs) ls = omega arith

  forked_size : (bs : List ℕ) (ls : List Line) → code_size (forked P labels bs ++ ls) ≤ 5 * length bs + 3 + code_size ls
  forked_size bs ls =
      let r : List ℕ = rest P labels bs in
      let g : List Line = goto (begin_of labels 0) ∷ [] in
      let f : List Line = forks P labels 1 r in
      let three : code_size g ≤ 3 = omega arith in
      omega (arith, size_append (f ++ g) ls, forks_size 1 r g, rest_short bs, three)

  waiting_size : (k : ℕ) (bs : List ℕ) → code_size (waiting_ends P labels k bs) ≡ 4 * length bs
  waiting_size k [] = omega arith
  waiting_size k (b ∷ bs) = omega (arith, waiting_size (k + 1) bs)

  ends_size : (k : ℕ) (bs : List ℕ) (ls : List Line) → code_size (ends P labels k bs ++ ls) ≡ code_size ls
  ends_size k [] ls = refl
  ends_size k (b ∷ bs) ls = omega (arith, ends_size (k + 1) bs ls)

  cleared_size : (slot : ℕ) (bs : List ℕ) (ls : List Line) → code_size (cleared P labels slot bs ++ ls) ≡ 14 * length bs + code_size ls
  cleared_size slot [] ls = omega arith
  cleared_size slot (b ∷ bs) ls = omega (arith, cleared_size (slot + 1) bs ls)

  set_size : (k slot join : ℕ) (bs : List ℕ) (ls : List Line) → code_size (set_ends P labels k slot join bs ++ ls) ≡ 17 * length bs + code_size ls
  set_size k slot join [] ls = omega arith
  set_size k slot join (b ∷ bs) ls = omega (arith, set_size (k + 1) (slot + 1) join bs ls)

  tests_size : (slot halt : ℕ) (bs : List ℕ) (ls : List Line) → code_size (tests P labels slot halt bs ++ ls) ≡ 7 * length bs + code_size ls
  tests_size slot halt [] ls = omega arith
  tests_size slot halt (b ∷ bs) ls = omega (arith, tests_size (slot + 1) halt bs ls)

  par_light : (number : Pos → ℕ) (n : ℕ) (kind : ParKind) (slot : ℕ) (bs : List ℕ) (fresh : ℕ) → Light number (par_draft P labels n kind slot bs) fresh 0 (3 * 0 + 45 * length bs + 33) 0 (length bs + 2) 1
  par_light number n par.Never slot bs fresh = record { bytes_few = bytes; labels_few = omega arith; places_few = omega arith }
    where
      bytes : code_size (never_lines P labels bs) + 0 ≤ 3 * 0 + 45 * length bs + 33
      bytes = let w : List Line = waiting_ends P labels 0 bs in omega (arith, move_size bs (forked P labels bs ++ w), forked_size bs w, waiting_size 0 bs)
  par_light number n par.Or slot bs fresh = record { bytes_few = bytes; labels_few = omega arith; places_few = omega arith }
    where
      bytes : code_size (or_lines P labels n bs) + 0 ≤ 3 * 0 + 45 * length bs + 33
      bytes =
          let t : List Line = abort P n ∷ goto labels.next ∷ [] in
          let e : List Line = ends P labels 0 bs ++ t in
          let eight : code_size t ≤ 8 = omega arith in
          omega (arith, move_size bs (forked P labels bs ++ e), forked_size bs e, ends_size 0 bs t, eight)
  par_light number n par.And slot bs fresh = record { bytes_few = bytes; labels_few = omega arith; places_few = omega arith }
    where
      bytes : code_size (and_lines P labels slot bs fresh) + 0 ≤ 3 * 0 + 45 * length bs + 33
      bytes =
          let u : List Line = goto labels.next ∷ mark (fresh + 1) ∷ plain instr.Halt ∷ [] in
          let four : code_size u ≤ 4 = omega arith in
          let t : List Line = (mark fresh ∷ tests P labels slot (fresh + 1) bs) ++ u in
          let tested : code_size t ≤ 7 * length bs + 4 = omega (arith, tests_size slot (fresh + 1) bs u, four) in
          let s : List Line = set_ends P labels 0 slot fresh bs ++ t in
          omega (arith, move_size bs (cleared P labels slot bs ++ (forked P labels bs ++ s)), cleared_size slot bs (forked P labels bs ++ s), forked_size bs s, set_size 0 slot fresh bs t, tested)

module _ (P : Plan) (K : Kernel) (number : Pos → ℕ) where
  abbrev NodeLight : (n : ℕ) (p : Pos) (s : KStmt) (labels : Labels) (fresh : ℕ) → Type 0
  NodeLight n p s labels fresh = Light number (node_draft P K n p s labels) fresh 0 (3 * expression_count s + 45 * heads s + own_bytes s) 0 (heads s + 2) 1

  pub node_light : (n : ℕ) (p : Pos) (s : KStmt) (labels : Labels) (fresh : ℕ) → NodeLight n p s labels fresh
  node_light n p Nothing labels fresh = record { bytes_few = more (few_bytes P K n p Nothing labels fresh number tt); labels_few = omega arith; places_few = omega arith }
  node_light n p (Assign l e) labels fresh = record { bytes_few = more (few_bytes P K n p (Assign l e) labels fresh number tt); labels_few = omega arith; places_few = omega arith }
  node_light n p (Out k e) labels fresh = record { bytes_few = more (few_bytes P K n p (Out k e) labels fresh number tt); labels_few = omega arith; places_few = omega arith }
  node_light n p (Emit k e) labels fresh = record { bytes_few = more (few_bytes P K n p (Emit k e) labels fresh number tt); labels_few = omega arith; places_few = omega arith }
  node_light n p (AwaitIn k t) labels fresh = record { bytes_few = more (few_bytes P K n p (AwaitIn k t) labels fresh number tt); labels_few = omega arith; places_few = omega arith }
  node_light n p (AwaitTime e u t) labels fresh = record { bytes_few = more (few_bytes P K n p (AwaitTime e u t) labels fresh number tt); labels_few = omega arith; places_few = omega arith }
  node_light n p (AwaitEvent k t) labels fresh = record { bytes_few = more (few_bytes P K n p (AwaitEvent k t) labels fresh number tt); labels_few = omega arith; places_few = omega arith }
  node_light n p Forever labels fresh = record { bytes_few = more (few_bytes P K n p Forever labels fresh number tt); labels_few = omega arith; places_few = omega arith }
  node_light n p (Do t b) labels fresh = record { bytes_few = more (few_bytes P K n p (Do t b) labels fresh number tt); labels_few = omega arith; places_few = omega arith }
  node_light n p (Escape m e) labels fresh = record { bytes_few = more (few_bytes P K n p (Escape m e) labels fresh number tt); labels_few = omega arith; places_few = omega arith }
  node_light n p (Break m) labels fresh = record { bytes_few = more (few_bytes P K n p (Break m) labels fresh number tt); labels_few = omega arith; places_few = omega arith }
  node_light n p (Continue m) labels fresh = record { bytes_few = more (few_bytes P K n p (Continue m) labels fresh number tt); labels_few = omega arith; places_few = omega arith }
  node_light n p (If' x arms last) labels fresh = record { bytes_few = more (few_bytes P K n p (If' x arms last) labels fresh number tt); labels_few = omega arith; places_few = omega arith }
  node_light n p (Loop turns.Free b) labels fresh = record { bytes_few = more (few_bytes P K n p (Loop turns.Free b) labels fresh number tt); labels_few = omega arith; places_few = omega arith }
  node_light n p (Loop (turns.Times slot limit) b) labels fresh = record { bytes_few = more (few_bytes P K n p (Loop (turns.Times slot limit) b) labels fresh number tt); labels_few = omega arith; places_few = omega arith }
  node_light n p (Loop (turns.Range i next end open_a x y open_b) b) labels fresh = record { bytes_few = more (few_bytes P K n p (Loop (turns.Range i next end open_a x y open_b) b) labels fresh number tt); labels_few = omega arith; places_few = omega arith }
  node_light n p (AwaitCode c es f t) labels fresh = record { bytes_few = bytes; labels_few = omega arith; places_few = omega arith }
    where
      bytes : code_size ((node_draft P K n p (AwaitCode c es f t) labels fresh).lines number) + 0 ≤ 3 * length es + 45 * 0 + 33
      bytes =
          let g : List Line = goto labels.next ∷ [] in
          let three : code_size g ≤ 3 = omega arith in
          let k : List Line = keep P.offset (result_ty K c) t in
          let rest : List Line = (plain (instr.Call c (P.offset f) (P.first n)) ∷ k) ++ g in
          omega (arith, arguments_size labels 0 (length es) rest, kept_size P.offset (result_ty K c) t g, three)
  node_light n p (Spawn c es q a) labels fresh = record { bytes_few = bytes; labels_few = omega arith; places_few = omega arith }
    where
      bytes : code_size ((node_draft P K n p (Spawn c es q a) labels fresh).lines number) + 0 ≤ 3 * length es + 45 * 0 + 33
      bytes =
          let g : List Line = plain (instr.Spawn c (P.offset q) (pool_size K q) (alias_offset P a) (number p)) ∷ goto labels.next ∷ [] in
          let some : code_size g ≤ 14 = omega arith in
          omega (arith, arguments_size labels 0 (length es) g, some)
  node_light n p (Kill c) labels fresh = record { bytes_few = omega arith; labels_few = omega arith; places_few = omega arith }
  node_light n p (Unset c) labels fresh = record { bytes_few = omega arith; labels_few = omega arith; places_few = omega arith }
  node_light n p (Async b) labels fresh = record { bytes_few = omega arith; labels_few = omega arith; places_few = omega arith }
  node_light n p (Finalize b) labels fresh = record { bytes_few = omega arith; labels_few = omega arith; places_few = omega arith }
  node_light n p (Par' kind slot x bs) labels fresh = par_light P labels number n kind slot (branch_nodes bs) fresh
