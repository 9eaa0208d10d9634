-- Where the image has all positions that the lines of a statement note, it has those that its expressions and its loop name.
use Rattle.std.proofs.Common.{◌≡◌, sym, subst, ℕ, ◌+◌, List, [], ◌∷◌, ◌++◌, Option, Some, None}
use Rattle.std.specs.Prelude.{slice_get}
use Rattle.std.specs.List.{AllByRecursion}
use Rattle.ceu_base.specs.declared.kinds.Pos.{Pos}
use Rattle.ceu_base.specs.declared.kinds.Ty.{Ty}
use Rattle.ceu_base.specs.declared.kinds.Op2.{Op2}
use Rattle.ceu_base.specs.declared.kinds.Op2.TheVariants as op2
use Rattle.ceu_code.specs.declared.image.Image.{Image}
use Rattle.ceu_asm.specs.declared.line.Labels.{Labels}
use Rattle.ceu_tree.specs.declared.kernel.Kernel.{Kernel}
use Rattle.ceu_tree.specs.declared.kernel.KExp.{KExp}
use Rattle.ceu_tree.specs.declared.kernel.KExpNode.{KExpNode, Row_of-KExp, end_of-KExp, more_of-KExp, Const, Read, Alive, One', Two', As'}
use Rattle.ceu_tree.specs.declared.kernel.KLoop.{KLoop}
use Rattle.ceu_tree.specs.declared.kernel.KLoop.TheVariants as turns
use Rattle.ceu_tree.specs.declared.kernel.KArm.{KArm', out-KArm}
use Rattle.ceu_tree.specs.declared.kernel.KStmt.{KStmt, out-KStmt, Row_of-KArm, end_of-KArm, more_of-KArm, items-the_row-KArm, items_shown-the_row-KArm-0, Assign, Out, AwaitTime, Escape, If', Loop}
use Rattle.ceu_tree.specs.Typing.{operand_ty}
use Rattle.ceu_shape.specs.Plans.{Plan}
use Rattle.ceu_shape.specs.Pieces.{Piece, Draft}
use Rattle.ceu_shape.specs.Expressions.{two_draft, operand_draft, exp_draft}
use Rattle.ceu_shape.specs.Expressions as lines
use Rattle.ceu_shape.specs.Flow.{looping_draft}
use Rattle.ceu_shape.specs.Shape.{node_draft, exp_part, exp_part_if, turn_parts, to_end, parts_draft, block_draft, arm_parts, arms_parts}
use Rattle.laws_machine_code.specs.Seen.{OperatorPlaced, NodePlaced, OperandPlaced}
use Rattle.ceu_steps.specs.Premises.{ExpPlaced, MaybePlaced, ArmsPlaced, TurnsPlaced, LayerPlaced}
use denote.Hole.Carrier

module _ (Q : Pos → Type 0) where
  pub all_parts : (xs ys : List Pos) → AllByRecursion Q (xs ++ ys) → AllByRecursion Q xs × AllByRecursion Q ys
  all_parts [] ys h = (tt, h)
  all_parts (x ∷ xs) ys h = let k = all_parts xs ys h.1 in ((h.0, k.0), k.1)

module _ (image : Image) (number : Pos → ℕ) where
  -- the image has the position under its number
  abbrev pub Has : Pos → Type 0
  Has p = slice_get image.places (number p) ≡ Some p

  -- it has all that the piece notes
  abbrev pub Listed : Piece → Type 0
  Listed piece = AllByRecursion Has piece.noted

  pub listed_parts : (a b : Piece) → AllByRecursion Has (a.noted ++ b.noted) → Listed a × Listed b
  listed_parts a b h = all_parts Has a.noted b.noted h

  -- ---- expressions

  record Operands (a b : Draft) (op : Op2) (p : Pos) : Type 0 where
    pub fresh_a : ℕ
    pub fresh_b : ℕ
    pub left : Listed (a fresh_a)
    pub right : Listed (b fresh_b)
    pub operator : OperatorPlaced image number op p

  jumping : (a b : Draft) (op : Op2) (p : Pos) (fresh : ℕ) → OperatorPlaced image number op p → AllByRecursion Has ((a fresh).noted ++ ((b (a fresh).next).noted ++ [])) → Operands a b op p
  jumping a b op p fresh o h =
      let x = all_parts Has (a fresh).noted ((b (a fresh).next).noted ++ []) h in
      let y = all_parts Has (b (a fresh).next).noted [] x.1 in
      record { fresh_a = fresh; fresh_b = (a fresh).next; left = x.0; right = y.0; operator = o }

  binary : (a b : Draft) (op : Op2) (p : Pos) (fresh : ℕ) → (Has p → OperatorPlaced image number op p) → AllByRecursion Has ((a fresh).noted ++ ((b (a fresh).next).noted ++ (p ∷ []))) → Operands a b op p
  binary a b op p fresh o h =
      let x = all_parts Has (a fresh).noted ((b (a fresh).next).noted ++ (p ∷ [])) h in
      let y = all_parts Has (b (a fresh).next).noted (p ∷ []) x.1 in
      record { fresh_a = fresh; fresh_b = (a fresh).next; left = x.0; right = y.0; operator = o y.1.0 }

  operands : (op : Op2) (t u v : Ty) (p : Pos) (a b : Draft) (fresh : ℕ) → Listed (two_draft op t u v p a b fresh) → Operands a b op p
  operands op2.And t u v p a b fresh h = jumping a b op2.And p (fresh + 2) tt h
  operands op2.Or t u v p a b fresh h = jumping a b op2.Or p (fresh + 2) tt h
  operands op t u v p a b fresh h = binary a b op p fresh (λ x. x) h

  module _ (offset : ℕ → ℕ) where
    mutual
      unfolding lines.node_draft NodePlaced

      node_placed : (e : KExpNode) (t : Ty) (p : Pos) (fresh : ℕ) → Listed (lines.node_draft offset e t p fresh) → NodePlaced image number e p
      node_placed (Const v) t p fresh h = tt
      node_placed (Read l) t p fresh h = tt
      node_placed (Alive c) t p fresh h = tt
      node_placed (One' op _ a) t p fresh h =
          let x = all_parts Has (operand_draft offset a fresh).noted (p ∷ []) h in
          (operand_placed a fresh x.0, x.1.0)
      node_placed (Two' op _ a _ b) t p fresh h =
          let x = operands op t (operand_ty a) (operand_ty b) p (operand_draft offset a) (operand_draft offset b) fresh h in
          (operand_placed a x.fresh_a x.left, operand_placed b x.fresh_b x.right, x.operator)
      node_placed (As' _ a) t p fresh h = operand_placed a fresh (all_parts Has (operand_draft offset a fresh).noted [] h).0

      operand_placed : {n : _} (r : Row_of-KExp n) (fresh : ℕ) → Listed (operand_draft offset r fresh) → OperandPlaced image number r
      operand_placed end_of-KExp fresh h = tt
      operand_placed (more_of-KExp t p e rest) fresh h = node_placed e t p fresh h

    exp_placed : (e : KExp) (fresh : ℕ) → Listed (exp_draft offset e fresh) → ExpPlaced image number e
    exp_placed e fresh h = node_placed e.node e.ty e.pos fresh h

  -- ---- statements

  module _ (P : Plan) (K : Kernel) where
    part_placed : (begin : ℕ) (e : KExp) (fresh : ℕ) → Listed (exp_part P K begin e fresh) → ExpPlaced image number e
    part_placed begin e fresh h = exp_placed P.offset e fresh (all_parts Has (exp_draft P.offset e fresh).noted [] h).0

    maybe_placed : (begin : ℕ) (e : Option KExp) (fresh : ℕ) → Listed (exp_part_if P K begin e fresh) → MaybePlaced image number e
    maybe_placed begin None fresh h = tt
    maybe_placed begin (Some e) fresh h = part_placed begin e fresh h

    arms_placed : {n : _} (rows : Row_of-KArm n) (begin fresh : ℕ) → Listed (arms_parts P K rows begin fresh) → ArmsPlaced image number (items-the_row-KArm n rows)
    unfolding parts_draft out-KArm Carrier.out
    arms_placed end_of-KArm begin fresh h = tt
    arms_placed (more_of-KArm (KArm' c b) rest) begin fresh h =
        let arm = arm_parts P K (KArm' c b) begin fresh in
        let test = exp_part P K begin c fresh in
        let x = listed_parts arm (arms_parts P K rest (begin + 2) arm.next) h in
        let y = listed_parts test (to_end P K b (block_draft P K b) test.next) x.0 in
        (part_placed begin c fresh y.0, arms_placed rest (begin + 2) arm.next x.1)

    turns_placed : (n : ℕ) (p : Pos) (k : KLoop) (labels : Labels) (fresh begin next : ℕ) → Listed (looping_draft P K n p k labels fresh) → Listed (turn_parts P K begin k next) → TurnsPlaced image number p k
    turns_placed n p turns.Free labels fresh begin next own h = tt
    turns_placed n p (turns.Times slot limit) labels fresh begin next own h = own.0
    turns_placed n p (turns.Range i after end open_a a b open_b) labels fresh begin next own h =
        let first = exp_part P K begin a next in
        let x = listed_parts first (exp_part P K (begin + 2) b first.next) h in
        (part_placed begin a next x.0, part_placed (begin + 2) b first.next x.1)

    -- what the lines of a statement and those of its parts note
    pub layer_placed : (n : ℕ) (p : Pos) (s : KStmt) (labels : Labels) (fresh begin next : ℕ) → Listed (node_draft P K n p s labels fresh) → Listed (parts_draft P K s begin next) → LayerPlaced image number p (out-KStmt s)
    unfolding parts_draft out-KStmt Carrier.out
    layer_placed n p (Assign l e) labels fresh begin next own h = part_placed begin e next h
    layer_placed n p (Out k e) labels fresh begin next own h = maybe_placed begin e next h
    layer_placed n p (AwaitTime e u t) labels fresh begin next own h = part_placed begin e next h
    layer_placed n p (Escape m e) labels fresh begin next own h = maybe_placed begin e next h
    layer_placed n p (If' x arms last) labels fresh begin next own h =
        let front = arms_parts P K arms begin next in
        let y = listed_parts front (to_end P K last (block_draft P K last) front.next) h in
        subst (ArmsPlaced image number) (sym (items_shown-the_row-KArm-0 x arms)) (arms_placed arms begin next y.0)
    layer_placed n p (Loop k b) labels fresh begin next own h =
        let front = turn_parts P K begin k next in
        let y = listed_parts front (to_end P K b (block_draft P K b) front.next) h in
        turns_placed n p k labels fresh begin next own y.0
    layer_placed n p s labels fresh begin next own h = tt
