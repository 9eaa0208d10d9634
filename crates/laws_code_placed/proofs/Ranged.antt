-- The operands of the lines of a statement without its parts, and of an expression, are in range where what it names is there.
use Rattle.std.proofs.Common.{◌≡◌, refl, ap, ℕ, zero, suc, ◌+◌, ◌-◌, ◌*◌, ◌^◌, ◌<◌, ◌≤◌, List, [], ◌∷◌, ◌++◌, length, Bool, true, false, if◌then◌else◌, Option, Some, None, arith}
use Rattle.std.specs.Prelude.{pos}
use Rattle.std.specs.List.{AllByRecursion}
use Rattle.ceu_base.specs.Values.{IsValue}
use Rattle.ceu_base.specs.declared.kinds.Ty.{Ty}
use Rattle.ceu_base.specs.declared.kinds.Ty.TheVariants as ty
use Rattle.ceu_base.specs.declared.kinds.Pos.{Pos}
use Rattle.ceu_base.specs.declared.kinds.Op2.{Op2}
use Rattle.ceu_base.specs.declared.kinds.Op2.TheVariants as op2
use Rattle.ceu_tree.specs.declared.kernel.Kernel.{Kernel}
use Rattle.ceu_tree.specs.declared.kernel.KExp.{KExp}
use Rattle.ceu_tree.specs.declared.kernel.KExpNode.{KExpNode, Row_of-KExp, end_of-KExp, more_of-KExp, Const, Read, Alive, One', Two', As'}
use Rattle.ceu_tree.specs.declared.kernel.KLoop.{KLoop}
use Rattle.ceu_tree.specs.declared.kernel.KLoop.TheVariants as turns
use Rattle.ceu_tree.specs.declared.kernel.Loc.{Loc}
use Rattle.ceu_tree.specs.declared.kernel.ParKind.{ParKind}
use Rattle.ceu_tree.specs.declared.kernel.ParKind.TheVariants as par
use Rattle.ceu_tree.specs.declared.kernel.KBlock.{KBlock, KBlock'}
use Rattle.ceu_tree.specs.declared.kernel.KStmt.{KStmt, Row_of-KBlock, end_of-KBlock, more_of-KBlock, Nothing, Assign, Out, Emit, AwaitIn, AwaitTime, AwaitEvent, Forever, AwaitCode, Spawn, Kill, Unset, Async, Finalize, Do, Escape, Break, Continue, If', Loop, Par'}
use Rattle.ceu_tree.specs.Numbering.{row_length}
use Rattle.ceu_tree.specs.Typing.{operand_ty}
use Rattle.ceu_code.specs.declared.instr.Instr.TheVariants as instr
use Rattle.ceu_code.specs.Instructions.{with_target, binary_byte}
use Rattle.ceu_asm.specs.declared.line.Line.{Line}
use Rattle.ceu_asm.specs.declared.line.Line.TheVariants.{Mark, Plain, Jump}
use Rattle.ceu_asm.specs.declared.line.Labels.{Labels}
use Rattle.ceu_asm.specs.Whole.{IsInRange}
use Rattle.ceu_shape.specs.Plans.{Plan}
use Rattle.ceu_shape.specs.Pieces.{Draft, both, nothing, text, placed, taking}
use Rattle.ceu_shape.specs.Words.{mark, goto, goto_if_false, plain, begin_of, end_of, load, store, abort}
use Rattle.ceu_shape.specs.Expressions.{and_draft, or_draft, binary_draft, two_draft, operator_ty, exp_draft, operand_draft}
use Rattle.ceu_shape.specs.Expressions as lines
use Rattle.ceu_shape.specs.Searches.{node_of_block, input_ty, event_ty, event_number, in_code, escape_target, stands_in_async, result_ty, pool_size, kernel_pools}
use Rattle.ceu_shape.specs.Flow.{keep, zero_kept, turn_lines, arms_lines, arm_ends, loop_of, one_if}
use Rattle.ceu_shape.specs.Par.{forks, rest, move_to_first, forked, waiting_ends, ends, cleared, set_ends, tests, par_draft}
use Rattle.ceu_shape.specs.Pools.{argument_lines, alias_offset}
use Rattle.ceu_shape.specs.Shape.{arm_count, branch_nodes, node_draft}
use Rattle.ceu_tree.specs.Proper.{event_at}
use Rattle.laws_code_placed.specs.Fits.{slot_count, node_count}
use Rattle.laws_code_placed.specs.There.{IsSome, LocThere, TargetThere, KeptThere, AliasThere, NodeThere, OperandThere, ExpThere, LoopThere, BranchesThere, OwnThere, PartsThere, BlockThere, BlocksThere}

-- the line's instruction is in range where labels stand at these offsets
abbrev pub LineRanged : (ℕ → ℕ) → Line → Type 0
LineRanged at (Mark l) = Unit {0}
LineRanged at (Plain i) = IsInRange i
LineRanged at (Jump i l) = IsInRange (with_target i (at l))

abbrev pub Ranged : (ℕ → ℕ) → List Line → Type 0
Ranged at ls = AllByRecursion (LineRanged at) ls

pub ranged_append : (at : ℕ → ℕ) (a b : List Line) → Ranged at a → Ranged at b → Ranged at (a ++ b)
ranged_append at [] b f g = g
ranged_append at (x ∷ a) b f g = (f.0, ranged_append at a b f.1 g)

-- all numbers that instructions have are below 2^16
pub record Numbers (P : Plan) (K : Kernel) (at : ℕ → ℕ) (number : Pos → ℕ) : Type 0 where
  pub labels : (label : ℕ) → at label < 2 ^ 16
  pub positions : (p : Pos) → number p < 2 ^ 16
  pub slots : (slot : ℕ) → slot < slot_count K → P.offset slot < 2 ^ 16
  pub firsts : (node : ℕ) → node < node_count K → P.first node < 2 ^ 16
  pub counts : (node : ℕ) → node < node_count K → P.count node < 2 ^ 16
  pub inputs : length K.inputs ≤ 65535
  pub outputs : length K.outputs ≤ 65535
  pub events : length K.events ≤ 32767
  pub codes : length K.codes ≤ 65535
  pub pools : length (kernel_pools K) ≤ 65535

pub some_bool : IsSome ty.Bool
some_bool e = cc

pub some_u32 : IsSome ty.U32
some_u32 e = cc

pub some_u64 : IsSome ty.U64
some_u64 e = cc

pub some_s32 : IsSome ty.S32
some_s32 e = cc

pub zero_value : (t : Ty) → IsSome t → IsValue t (pos 0)
zero_value ty.None h = absurd (h refl)
zero_value ty.Bool h = refl
zero_value ty.U8 h = refl
zero_value ty.S8 h = refl
zero_value ty.U16 h = refl
zero_value ty.S16 h = refl
zero_value ty.U32 h = refl
zero_value ty.S32 h = refl
zero_value ty.U64 h = refl
zero_value ty.S64 h = refl

module _ (P : Plan) (K : Kernel) (at : ℕ → ℕ) (number : Pos → ℕ) (few : Numbers P K at number) where
  abbrev In : List Line → Type 0
  In ls = Ranged at ls

  -- ---- variables

  load_ranged : (l : Loc) → LocThere P K l → LineRanged at (load P.offset l)
  load_ranged l h = go l.outer
    where
      go : (b : Bool) → LineRanged at (plain (if b then instr.LoadOuter l.ty (P.offset l.slot) else instr.Load l.ty (P.offset l.slot)))
      go true = (h.1, few.slots l.slot h.0)
      go false = (h.1, few.slots l.slot h.0)

  store_ranged : (l : Loc) → LocThere P K l → LineRanged at (store P.offset l)
  store_ranged l h = go l.outer
    where
      go : (b : Bool) → LineRanged at (plain (if b then instr.StoreOuter l.ty (P.offset l.slot) else instr.Store l.ty (P.offset l.slot)))
      go true = (h.1, few.slots l.slot h.0)
      go false = (h.1, few.slots l.slot h.0)

  keep_ranged : (t : Ty) (target : Option Loc) (ls : List Line) → KeptThere P K t target → In ls → In (keep P.offset t target ++ ls)
  keep_ranged t None ls h more = more
  keep_ranged t (Some l) ls h more = (h.0, (store_ranged l h.1, more))

  zero_ranged : (target : Option Loc) (ls : List Line) → TargetThere P K target → In ls → In (zero_kept P.offset target ++ ls)
  zero_ranged None ls h more = more
  zero_ranged (Some l) ls h more = ((h.1, zero_value l.ty h.1), (store_ranged l h, more))

  -- ---- expressions

  pub record Fine (draft : Draft) : Type 0 where
    pub ranged : (fresh : ℕ) → In ((draft fresh).lines number)

  pub fine_text : (ls : List Line) → In ls → Fine (text ls)
  fine_text ls h = record { ranged = λ fresh. h }

  pub fine_nothing : Fine nothing
  fine_nothing = record { ranged = λ fresh. tt }

  pub fine_placed : (p : Pos) (f : ℕ → List Line) → In (f (number p)) → Fine (placed p f)
  fine_placed p f h = record { ranged = λ fresh. h }

  pub fine_both : (a b : Draft) → Fine a → Fine b → Fine (both a b)
  fine_both a b f g = record { ranged = λ fresh. ranged_append at ((a fresh).lines number) ((b (a fresh).next).lines number) (f.ranged fresh) (g.ranged (a fresh).next) }

  fine_taking : (f : ℕ → Draft) → ((no : ℕ) → Fine (f no)) → Fine (taking 2 f)
  fine_taking f h = record { ranged = λ fresh. (h fresh).ranged (fresh + 2) }

  binary_fine : (op : Op2) (t : Ty) (p : Pos) (a b : Draft) → binary_byte op ≤ 15 → IsSome t → Fine a → Fine b → Fine (binary_draft op t p a b)
  binary_fine op t p a b small some f g =
      let line : ℕ → List Line = λ (n : ℕ). plain (instr.Binary op t n) ∷ [] in
      fine_both a (both b (placed p line)) f (fine_both b (placed p line) g (fine_placed p line ((small, some, few.positions p), tt)))

  two_fine : (op : Op2) (t u v : Ty) (p : Pos) (a b : Draft) → IsSome (operator_ty op t u v) → Fine a → Fine b → Fine (two_draft op t u v p a b)
  two_fine op2.And t u v p a b some f g =
      fine_taking (λ no. both a (both (text (goto_if_false no ∷ [])) (both b (text (goto (no + 1) ∷ mark no ∷ plain (instr.Push ty.Bool (pos 0)) ∷ mark (no + 1) ∷ []))))) (λ no.
      fine_both a (both (text (goto_if_false no ∷ [])) (both b (text (goto (no + 1) ∷ mark no ∷ plain (instr.Push ty.Bool (pos 0)) ∷ mark (no + 1) ∷ [])))) f
      (fine_both (text (goto_if_false no ∷ [])) (both b (text (goto (no + 1) ∷ mark no ∷ plain (instr.Push ty.Bool (pos 0)) ∷ mark (no + 1) ∷ []))) (fine_text (goto_if_false no ∷ []) (few.labels no, tt))
      (fine_both b (text (goto (no + 1) ∷ mark no ∷ plain (instr.Push ty.Bool (pos 0)) ∷ mark (no + 1) ∷ [])) g (fine_text _ (few.labels (no + 1), (tt, ((some_bool, refl), (tt, tt))))))))
  two_fine op2.Or t u v p a b some f g =
      fine_taking (λ no. both a (both (text (goto_if_false no ∷ plain (instr.Push ty.Bool (pos 1)) ∷ goto (no + 1) ∷ mark no ∷ [])) (both b (text (mark (no + 1) ∷ []))))) (λ no.
      fine_both a (both (text (goto_if_false no ∷ plain (instr.Push ty.Bool (pos 1)) ∷ goto (no + 1) ∷ mark no ∷ [])) (both b (text (mark (no + 1) ∷ [])))) f
      (fine_both (text (goto_if_false no ∷ plain (instr.Push ty.Bool (pos 1)) ∷ goto (no + 1) ∷ mark no ∷ [])) (both b (text (mark (no + 1) ∷ []))) (fine_text _ (few.labels no, ((some_bool, refl), (few.labels (no + 1), (tt, tt)))))
      (fine_both b (text (mark (no + 1) ∷ [])) g (fine_text (mark (no + 1) ∷ []) (tt, tt)))))
  two_fine op2.Eq t u v p a b some f g = binary_fine op2.Eq (operator_ty op2.Eq t u v) p a b (omega arith) some f g
  two_fine op2.Ne t u v p a b some f g = binary_fine op2.Ne (operator_ty op2.Ne t u v) p a b (omega arith) some f g
  two_fine op2.Lt t u v p a b some f g = binary_fine op2.Lt (operator_ty op2.Lt t u v) p a b (omega arith) some f g
  two_fine op2.Gt t u v p a b some f g = binary_fine op2.Gt (operator_ty op2.Gt t u v) p a b (omega arith) some f g
  two_fine op2.Le t u v p a b some f g = binary_fine op2.Le (operator_ty op2.Le t u v) p a b (omega arith) some f g
  two_fine op2.Ge t u v p a b some f g = binary_fine op2.Ge (operator_ty op2.Ge t u v) p a b (omega arith) some f g
  two_fine op2.BitOr t u v p a b some f g = binary_fine op2.BitOr t p a b (omega arith) some f g
  two_fine op2.BitXor t u v p a b some f g = binary_fine op2.BitXor t p a b (omega arith) some f g
  two_fine op2.BitAnd t u v p a b some f g = binary_fine op2.BitAnd t p a b (omega arith) some f g
  two_fine op2.Shl t u v p a b some f g = binary_fine op2.Shl t p a b (omega arith) some f g
  two_fine op2.Shr t u v p a b some f g = binary_fine op2.Shr t p a b (omega arith) some f g
  two_fine op2.Add t u v p a b some f g = binary_fine op2.Add t p a b (omega arith) some f g
  two_fine op2.Sub t u v p a b some f g = binary_fine op2.Sub t p a b (omega arith) some f g
  two_fine op2.Mul t u v p a b some f g = binary_fine op2.Mul t p a b (omega arith) some f g
  two_fine op2.Div t u v p a b some f g = binary_fine op2.Div t p a b (omega arith) some f g
  two_fine op2.Rem t u v p a b some f g = binary_fine op2.Rem t p a b (omega arith) some f g

  mutual
    unfolding lines.node_draft NodeThere

    node_fine : (e : KExpNode) (t : Ty) (p : Pos) → NodeThere P K e t → Fine (lines.node_draft P.offset e t p)
    node_fine (Const v) t p h = fine_text (plain (instr.Push t v) ∷ []) ((h.0, h.1), tt)
    node_fine (Read l) t p h = fine_text (load P.offset l ∷ []) (load_ranged l h, tt)
    node_fine (Alive c) t p h = fine_text (plain (instr.Alive (P.offset c)) ∷ []) (few.slots c h, tt)
    node_fine (One' op _ a) t p h = fine_both (operand_draft P.offset a) (placed p (λ n. plain (instr.Prefix op t n) ∷ [])) (operand_fine a h.1) (fine_placed p (λ n. plain (instr.Prefix op t n) ∷ []) ((h.0, few.positions p), tt))
    node_fine (Two' op _ a _ b) t p h = two_fine op t (operand_ty a) (operand_ty b) p (operand_draft P.offset a) (operand_draft P.offset b) h.0 (operand_fine a h.1.0) (operand_fine b h.1.1)
    node_fine (As' _ a) t p h = fine_both (operand_draft P.offset a) (text (plain (instr.Convert (operand_ty a) t) ∷ [])) (operand_fine a h.1) (fine_text (plain (instr.Convert (operand_ty a) t) ∷ []) ((h.0.0, h.0.1), tt))

    operand_fine : {n : _} (r : Row_of-KExp n) → OperandThere P K r → Fine (operand_draft P.offset r)
    operand_fine end_of-KExp h = fine_nothing
    operand_fine (more_of-KExp t p e rest) h = node_fine e t p h

  pub exp_fine : (e : KExp) → ExpThere P K e → Fine (exp_draft P.offset e)
  exp_fine e h = node_fine e.node e.ty e.pos h

  -- ---- parts of statements

  turn_ranged : (yields : Bool) (body : ℕ) (labels : Labels) (head : ℕ) → In (turn_lines yields body labels head)
  turn_ranged true body labels head = (few.labels (begin_of labels body), (tt, (tt, (few.labels head, tt))))
  turn_ranged false body labels head = (few.labels (begin_of labels body), (tt, (few.labels head, tt)))

  arguments_ranged : (labels : Labels) (k count : ℕ) (ls : List Line) → In ls → In (argument_lines labels k count ++ ls)
  arguments_ranged labels k zero ls more = more
  arguments_ranged labels k (suc count) ls more = (few.labels (begin_of labels k), (tt, arguments_ranged labels (k + 1) count ls more))

  arms_ranged : (labels : Labels) (k over arms : ℕ) (ls : List Line) → In ls → In (arms_lines labels k over arms ++ ls)
  arms_ranged labels k over zero ls more = more
  arms_ranged labels k over (suc arms) ls more = (few.labels (begin_of labels k), (tt, (few.labels over, (few.labels (begin_of labels (k + 1)), (tt, arms_ranged labels (k + 2) (over + 1) arms ls more)))))

  arm_ends_ranged : (labels : Labels) (k arms : ℕ) (ls : List Line) → In ls → In (arm_ends labels k arms ++ ls)
  arm_ends_ranged labels k zero ls more = more
  arm_ends_ranged labels k (suc arms) ls more = (tt, arm_ends_ranged labels (k + 2) arms ls more)

  event_small : (k : ℕ) → k < length K.events → event_number K k < 2 ^ 16
  event_small k h = go (in_code (event_at K k K.events))
    where
      go : (b : Bool) → (if b then k + 32768 else k) < 2 ^ 16
      go true = omega (arith, h, few.events)
      go false = omega (arith, h, few.events)

  alias_small : (a : Option ℕ) → AliasThere P K a → alias_offset P a < 2 ^ 16
  alias_small None h = omega arith
  alias_small (Some slot) h = few.slots slot h

  -- ---- par

  abbrev AllNodes : List ℕ → Type 0
  AllNodes [] = Unit {0}
  AllNodes (b ∷ bs) = (b < node_count K) × AllNodes bs

  module _ (labels : Labels) where
    rest_nodes : (bs : List ℕ) → AllNodes bs → AllNodes (rest P labels bs)
    rest_nodes [] h = tt
    rest_nodes (b ∷ bs) h = h.1

    forks_ranged : (k : ℕ) (bs : List ℕ) (ls : List Line) → AllNodes bs → In ls → In (forks P labels k bs ++ ls)
    forks_ranged k [] ls h more = more
    forks_ranged k (b ∷ bs) ls h more = ((few.firsts b h.0, few.labels (begin_of labels k)), forks_ranged (k + 1) bs ls h.1 more)

    move_ranged : (bs : List ℕ) (ls : List Line) → AllNodes bs → In ls → In (move_to_first P labels bs ++ ls)
    move_ranged [] ls h more = more
    move_ranged (b ∷ bs) ls h more = (few.firsts b h.0, more)

    forked_ranged : (bs : List ℕ) (ls : List Line) → AllNodes bs → In ls → In (forked P labels bs ++ ls)
    forked_ranged bs ls h more =
        ranged_append at (forked P labels bs) ls (forks_ranged 1 (rest P labels bs) (goto (begin_of labels 0) ∷ []) (rest_nodes bs h) (few.labels (begin_of labels 0), tt)) more

    waiting_ranged : (k : ℕ) (bs : List ℕ) → AllNodes bs → In (waiting_ends P labels k bs)
    waiting_ranged k [] h = tt
    waiting_ranged k (b ∷ bs) h = (tt, (few.firsts b h.0, (tt, waiting_ranged (k + 1) bs h.1)))

    ends_ranged : (k : ℕ) (bs : List ℕ) (ls : List Line) → In ls → In (ends P labels k bs ++ ls)
    ends_ranged k [] ls more = more
    ends_ranged k (b ∷ bs) ls more = (tt, ends_ranged (k + 1) bs ls more)

    cleared_ranged : (slot : ℕ) (bs : List ℕ) (ls : List Line) → slot + length bs ≤ slot_count K → In ls → In (cleared P labels slot bs ++ ls)
    cleared_ranged slot [] ls h more = more
    cleared_ranged slot (b ∷ bs) ls h more = ((some_bool, refl), ((some_bool, few.slots slot (omega (arith, h))), cleared_ranged (slot + 1) bs ls (omega (arith, h)) more))

    set_ranged : (k slot join : ℕ) (bs : List ℕ) (ls : List Line) → slot + length bs ≤ slot_count K → In ls → In (set_ends P labels k slot join bs ++ ls)
    set_ranged k slot join [] ls h more = more
    set_ranged k slot join (b ∷ bs) ls h more =
        (tt, ((some_bool, refl), ((some_bool, few.slots slot (omega (arith, h))), (few.labels join, set_ranged (k + 1) (slot + 1) join bs ls (omega (arith, h)) more))))

    tests_ranged : (slot halt : ℕ) (bs : List ℕ) (ls : List Line) → slot + length bs ≤ slot_count K → In ls → In (tests P labels slot halt bs ++ ls)
    tests_ranged slot halt [] ls h more = more
    tests_ranged slot halt (b ∷ bs) ls h more = ((some_bool, few.slots slot (omega (arith, h))), (few.labels halt, tests_ranged (slot + 1) halt bs ls (omega (arith, h)) more))

    par_ranged : (n : ℕ) (kind : ParKind) (slot : ℕ) (bs : List ℕ) (fresh : ℕ) → n < node_count K → AllNodes bs → BranchesThere P K kind slot (length bs) → In ((par_draft P labels n kind slot bs fresh).lines number)
    par_ranged n par.Never slot bs fresh own h s = (tt, move_ranged bs _ h (forked_ranged bs _ h (waiting_ranged 0 bs h)))
    par_ranged n par.Or slot bs fresh own h s =
        (tt, move_ranged bs _ h (forked_ranged bs _ h (ends_ranged 0 bs (abort P n ∷ goto labels.next ∷ []) ((few.firsts n own, few.counts n own), (few.labels labels.next, tt)))))
    par_ranged n par.And slot bs fresh own h s =
        let last : In (goto labels.next ∷ mark (fresh + 1) ∷ plain instr.Halt ∷ []) = (few.labels labels.next, (tt, (tt, tt))) in
        (tt, move_ranged bs _ h (cleared_ranged slot bs _ s (forked_ranged bs _ h (set_ranged 0 slot fresh bs _ s (tt, tests_ranged slot (fresh + 1) bs _ s last)))))

  -- ---- a statement

  branch_count : {n : _} (rows : Row_of-KBlock n) → length (branch_nodes rows) ≡ row_length rows
  branch_count end_of-KBlock = refl
  branch_count (more_of-KBlock b more) = ap suc (branch_count more)

  branches_there : (kind : ParKind) (slot m n : ℕ) → m ≡ n → BranchesThere P K kind slot n → BranchesThere P K kind slot m
  branches_there par.And slot m n e h = omega (arith, e, h)
  branches_there par.Or slot m n e h = tt
  branches_there par.Never slot m n e h = tt

  block_node : (b : KBlock) → BlockThere P K b → node_of_block b < node_count K
  unfolding BlockThere
  block_node (KBlock' n ds x list) h = h.0.here

  nodes_of_branches : {n : _} (rows : Row_of-KBlock n) → BlocksThere P K rows → AllNodes (branch_nodes rows)
  unfolding BlocksThere
  nodes_of_branches end_of-KBlock h = tt
  nodes_of_branches (more_of-KBlock b more) h = (block_node b h.0, nodes_of_branches more h.1)

  small_step : (b : Bool) → (1 + one_if b ≤ 2) × (1 - one_if b ≤ 2)
  small_step true = (omega arith, omega arith)
  small_step false = (omega arith, omega arith)

  loop_ranged : (yields : Bool) (n : ℕ) (p : Pos) (kind : KLoop) (labels : Labels) (head fresh : ℕ) → LoopThere P K kind → In ((loop_of P.offset yields n p kind labels head fresh).lines number)
  loop_ranged yields n p turns.Free labels head fresh h = (tt, (tt, turn_ranged yields 0 labels head))
  loop_ranged yields n p (turns.Times slot limit) labels head fresh h =
      (tt, ((some_u32, refl), ((some_u32, few.slots slot h.0), (tt, ((few.slots slot h.0, h.1, few.positions p), turn_ranged yields 0 labels head)))))
  loop_ranged yields n p (turns.Range i next end open_a x y open_b) labels head fresh h =
      (tt, (few.labels (begin_of labels 0), (tt, ((few.slots next h.1.0, (small_step open_a).0), (few.labels (begin_of labels 1), (tt, ((few.slots end h.1.1, (small_step open_b).1), (tt, ((few.slots next h.1.0, few.slots i h.0, few.labels labels.next), turn_ranged yields 2 labels head)))))))))

  pub node_ranged : (n : ℕ) (p : Pos) (s : KStmt) (labels : Labels) (fresh : ℕ) → n < node_count K → OwnThere P K s → PartsThere P K s → In ((node_draft P K n p s labels fresh).lines number)
  unfolding PartsThere
  node_ranged n p Nothing labels fresh own h parts = (tt, (few.labels labels.next, tt))
  node_ranged n p (Assign l e) labels fresh own h parts = (tt, (few.labels (begin_of labels 0), (tt, (store_ranged l h, (few.labels labels.next, tt)))))
  node_ranged n p (Out k None) labels fresh own h parts = (tt, (omega (arith, h, few.outputs), (few.labels labels.next, tt)))
  node_ranged n p (Out k (Some e)) labels fresh own h parts = (tt, (few.labels (begin_of labels 0), (tt, (omega (arith, h, few.outputs), (few.labels labels.next, tt)))))
  node_ranged n p (Emit k None) labels fresh own h parts = (tt, (few.firsts n own, (event_small k h, (few.labels labels.next, tt))))
  node_ranged n p (Emit k (Some e)) labels fresh own h parts = (tt, (few.firsts n own, (few.labels (begin_of labels 0), (tt, (event_small k h, (few.labels labels.next, tt))))))
  node_ranged n p (AwaitIn k t) labels fresh own h parts = (tt, (few.firsts n own, (omega (arith, h.0, few.inputs), keep_ranged (input_ty K k) t (goto labels.next ∷ []) h.1 (few.labels labels.next, tt))))
  node_ranged n p (AwaitTime e u t) labels fresh own h parts =
      (tt, (few.firsts n own, (few.labels (begin_of labels 0), (tt, (tt, keep_ranged ty.S32 t (goto labels.next ∷ []) (time_kept t h) (few.labels labels.next, tt))))))
    where
      time_kept : (t : Option Loc) → TargetThere P K t → KeptThere P K ty.S32 t
      time_kept None h = tt
      time_kept (Some l) h = (some_s32, h)
  node_ranged n p (AwaitEvent k t) labels fresh own h parts = (tt, (few.firsts n own, (event_small k h.0, keep_ranged (event_ty K k) t (goto labels.next ∷ []) h.1 (few.labels labels.next, tt))))
  node_ranged n p Forever labels fresh own h parts = (tt, (few.firsts n own, (tt, tt)))
  node_ranged n p (AwaitCode c es f t) labels fresh own h parts =
      (tt, arguments_ranged labels 0 (length es) _ ((omega (arith, h.0, few.codes), few.slots f h.1.0, few.firsts n own), keep_ranged (result_ty K c) t (goto labels.next ∷ []) h.1.1 (few.labels labels.next, tt)))
  node_ranged n p (Spawn c es q a) labels fresh own h parts =
      let code : c < 2 ^ 16 = omega (arith, h.0, few.codes) in
      let size : pool_size K q < 2 ^ 16 = omega (arith, h.1.1.0) in
      (tt, (few.firsts n own, arguments_ranged labels 0 (length es) _ ((code, few.slots q h.1.0, size, alias_small a h.1.1.1, few.positions p), (few.labels labels.next, tt))))
  node_ranged n p (Kill c) labels fresh own h parts = (tt, (few.slots c h, (few.labels labels.next, tt)))
  node_ranged n p (Unset c) labels fresh own h parts = (tt, ((some_u64, refl), ((some_u64, few.slots c h), (few.labels labels.next, tt))))
  node_ranged n p (Async b) labels fresh own h parts = (tt, (few.firsts n own, (tt, (few.labels (begin_of labels 0), (tt, (tt, (few.labels labels.next, tt)))))))
  node_ranged n p (Finalize b) labels fresh own h parts = (tt, ((few.firsts n own, few.labels (begin_of labels 0), few.positions p), (few.labels labels.next, (tt, (tt, tt)))))
  node_ranged n p (Do t b) labels fresh own h parts = (tt, (few.labels (begin_of labels 0), (tt, (zero_ranged t (goto labels.next ∷ []) h (few.labels labels.next, tt)))))
  node_ranged n p (Escape m None) labels fresh own h parts = (tt, ((few.firsts m h.0, few.counts m h.0), (few.labels labels.next, tt)))
  node_ranged n p (Escape m (Some e)) labels fresh own h parts =
      (tt, (few.labels (begin_of labels 0), (tt, (tt, ((few.firsts m h.0, few.counts m h.0), keep_ranged e.ty (escape_target K m) (goto labels.next ∷ []) h.1.1 (few.labels labels.next, tt))))))
  node_ranged n p (Break m) labels fresh own h parts = (tt, ((few.firsts m h, few.counts m h), (few.labels labels.next, tt)))
  node_ranged n p (Continue m) labels fresh own h parts = (tt, ((few.firsts m h, few.counts m h), (few.labels labels.next, tt)))
  node_ranged n p (If' x arms last) labels fresh own h parts =
      let c : ℕ = arm_count arms in
      let tail : In (mark (end_of labels (2 * c)) ∷ goto labels.next ∷ []) = (tt, (few.labels labels.next, tt)) in
      (tt, arms_ranged labels 0 fresh c _ (few.labels (begin_of labels (2 * c)), arm_ends_ranged labels 0 c _ tail))
  node_ranged n p (Loop kind b) labels fresh own h parts = loop_ranged (stands_in_async K n) n p kind labels fresh (fresh + 1) h
  node_ranged n p (Par' kind slot x bs) labels fresh own h parts =
      par_ranged labels n kind slot (branch_nodes bs) fresh own (nodes_of_branches bs parts) (branches_there kind slot (length (branch_nodes bs)) (row_length bs) (branch_count bs) h.1)
