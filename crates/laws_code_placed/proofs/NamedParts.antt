-- In a proper kernel each label that a line goes to is below the first that isn't taken.
use Rattle.std.proofs.Common.{◌≡◌, refl, sym, subst, ℕ, zero, suc, ◌+◌, ◌*◌, ◌<◌, ◌≤◌, true, ◌&&◌, List, [], ◌∷◌, ◌++◌, length, Option, Some, None, arith}
use Rattle.std.specs.Prelude.{slice_index}
use Rattle.std.proofs.lemmas.Bool.{and_parts}
use Rattle.ceu_base.specs.declared.kinds.Pos.{Pos}
use Rattle.ceu_base.specs.declared.kinds.Ty.{Ty}
use Rattle.ceu_base.specs.declared.kinds.Ty.TheVariants as ty
use Rattle.ceu_base.specs.declared.kinds.Op2.{Op2}
use Rattle.ceu_base.specs.declared.kinds.Op2.TheVariants as op2
use Rattle.ceu_tree.specs.declared.kernel.Kernel.{Kernel}
use Rattle.ceu_tree.specs.declared.kernel.KCode.{KCode}
use Rattle.ceu_tree.specs.declared.kernel.KDecl.{KDecl}
use Rattle.ceu_tree.specs.declared.kernel.KKind.{KKind}
use Rattle.ceu_tree.specs.declared.kernel.KKind.TheVariants as kind
use Rattle.ceu_tree.specs.declared.kernel.KExp.{KExp}
use Rattle.ceu_tree.specs.declared.kernel.KExpNode.{KExpNode, Row_of-KExp, end_of-KExp, more_of-KExp, Const, Read, Alive, One', Two', As'}
use Rattle.ceu_tree.specs.declared.kernel.KLoop.{KLoop}
use Rattle.ceu_tree.specs.declared.kernel.KLoop.TheVariants as turns
use Rattle.ceu_tree.specs.declared.kernel.KBlock.{KBlock, KBlock', Row_of-KNode, end_of-KNode, more_of-KNode}
use Rattle.ceu_tree.specs.declared.kernel.KArm.{KArm, KArm'}
use Rattle.ceu_tree.specs.declared.kernel.KStmt.{KStmt, Row_of-KArm, end_of-KArm, more_of-KArm, Row_of-KBlock, end_of-KBlock, more_of-KBlock, Assign, Out, Emit, AwaitTime, AwaitCode, Spawn, Async, Finalize, Do, Escape, Break, Continue, If', Loop, Par'}
use Rattle.ceu_tree.specs.Typing.{operand_ty}
use Rattle.ceu_tree.specs.Needs.{nodes_finalizers}
use Rattle.ceu_tree.specs.Numbering.{stmt_nodes, block_nodes, arm_nodes, list_nodes, arms_nodes, blocks_nodes, codes_nodes}
use Rattle.ceu_tree.specs.Proper.{Scope, LoopAim, with_decls, with_aim, with_turns, do_aim, in_async, in_finalizer, is_trail, outside_finalizers, stmt_ok, block_ok, arm_ok, nodes_ok, arms_ok, blocks_ok, body_scope, codes_ok}
use Rattle.ceu_code.specs.declared.instr.Instr.TheVariants as instr
use Rattle.ceu_asm.specs.declared.line.Line.{Line}
use Rattle.ceu_shape.specs.Plans.{Plan, own_label, end_label}
use Rattle.ceu_shape.specs.Pieces.{Draft, both, nothing, text, placed}
use Rattle.ceu_shape.specs.Words.{mark, goto, plain, load}
use Rattle.ceu_shape.specs.Searches.{node_of_block}
use Rattle.ceu_shape.specs.Expressions.{and_draft, or_draft, binary_draft, two_draft, operator_ty, exp_draft, operand_draft}
use Rattle.ceu_shape.specs.Expressions as lines
use Rattle.ceu_shape.specs.Shape.{count_if, arm_count, arm_block, arms_labels, branches_labels, block_labels, expression_labels, expression_count, ends_count, part_labels, next_label, labels_of, node_draft, exp_part, exp_part_if, exp_parts, turn_parts, own_gates, pool_gates, pool_line, pool_lines, move_lines, block_begin, abort_own, block_end, with_parts, to_end, parts_draft, block_draft, arm_parts, nodes_draft, arms_parts, blocks_parts, zero_given, body_draft, program_draft, code_draft, codes_draft, kernel_draft}
use Rattle.laws_code_placed.proofs.MarkedStatements.{node_adds}
use Rattle.laws_code_placed.proofs.Named.{Named, PartsWithin, named_append, node_named}
use Rattle.laws_code_placed.proofs.Grounds.{Ground, ground_head, ground_append, block_ground, AimsWithin, escape_within, loop_within, do_within, turns_within, out_node}

module _ (bound : ℕ) (number : Pos → ℕ) where
  -- where all labels that a draft takes are below the bound, those that its lines go to are
  pub record Goes (draft : Draft) (fresh : ℕ) : Type 0 where
    pub grows : fresh ≤ (draft fresh).next
    pub named : (draft fresh).next ≤ bound → Named bound ((draft fresh).lines number)

  goes_text : (ls : List Line) (fresh : ℕ) → (fresh ≤ bound → Named bound ls) → Goes (text ls) fresh
  goes_text ls fresh h = record { grows = omega arith; named = λ low. h low }

  goes_nothing : (fresh : ℕ) → Goes nothing fresh
  goes_nothing fresh = record { grows = omega arith; named = λ low. tt }

  goes_placed : (p : Pos) (f : ℕ → List Line) (fresh : ℕ) → Named bound (f (number p)) → Goes (placed p f) fresh
  goes_placed p f fresh h = record { grows = omega arith; named = λ low. h }

  goes_both : (a b : Draft) (fresh : ℕ) → Goes a fresh → Goes b (a fresh).next → Goes (both a b) fresh
  goes_both a b fresh f g = record { grows = omega (arith, f.grows, g.grows); named = λ low. both_named low }
    where
      both_named : (b (a fresh).next).next ≤ bound → Named bound ((a fresh).lines number ++ (b (a fresh).next).lines number)
      both_named low = named_append bound ((a fresh).lines number) ((b (a fresh).next).lines number) (f.named (omega (arith, g.grows, low))) (g.named low)

  -- ---- expressions

  binary_goes : (op : Op2) (t : Ty) (p : Pos) (a b : Draft) → ((fresh : ℕ) → Goes a fresh) → ((fresh : ℕ) → Goes b fresh) → (fresh : ℕ) → Goes (binary_draft op t p a b) fresh
  binary_goes op t p a b f g fresh =
      let line : ℕ → List Line = λ (n : ℕ). plain (instr.Binary op t n) ∷ [] in
      goes_both a (both b (placed p line)) fresh (f fresh) (goes_both b (placed p line) (a fresh).next (g (a fresh).next) (goes_placed p line (b (a fresh).next).next (tt, tt)))

  two_goes : (op : Op2) (t u v : Ty) (p : Pos) (a b : Draft) → ((fresh : ℕ) → Goes a fresh) → ((fresh : ℕ) → Goes b fresh) → (fresh : ℕ) → Goes (two_draft op t u v p a b) fresh
  two_goes op2.And t u v p a b f g fresh = record { grows = omega (arith, f0.grows, g0.grows); named = λ low. all low }
    where
      f0 : Goes a (fresh + 2)
      f0 = f (fresh + 2)

      g0 : Goes b (a (fresh + 2)).next
      g0 = g (a (fresh + 2)).next

      all : (b (a (fresh + 2)).next).next ≤ bound → Named bound ((and_draft a b fresh).lines number)
      all low =
          let no : fresh < bound = omega (arith, f0.grows, g0.grows, low) in
          let end : fresh + 1 < bound = omega (arith, f0.grows, g0.grows, low) in
          named_append bound ((a (fresh + 2)).lines number) _ (f0.named (omega (arith, g0.grows, low)))
          (no, named_append bound ((b (a (fresh + 2)).next).lines number) _ (g0.named low) (end, (tt, (tt, (tt, tt)))))
  two_goes op2.Or t u v p a b f g fresh = record { grows = omega (arith, f0.grows, g0.grows); named = λ low. all low }
    where
      f0 : Goes a (fresh + 2)
      f0 = f (fresh + 2)

      g0 : Goes b (a (fresh + 2)).next
      g0 = g (a (fresh + 2)).next

      all : (b (a (fresh + 2)).next).next ≤ bound → Named bound ((or_draft a b fresh).lines number)
      all low =
          let no : fresh < bound = omega (arith, f0.grows, g0.grows, low) in
          let end : fresh + 1 < bound = omega (arith, f0.grows, g0.grows, low) in
          named_append bound ((a (fresh + 2)).lines number) _ (f0.named (omega (arith, g0.grows, low)))
          (no, (tt, (end, (tt, named_append bound ((b (a (fresh + 2)).next).lines number) _ (g0.named low) (tt, tt)))))
  two_goes op2.Eq t u v p a b f g fresh = binary_goes op2.Eq (operator_ty op2.Eq t u v) p a b f g fresh
  two_goes op2.Ne t u v p a b f g fresh = binary_goes op2.Ne (operator_ty op2.Ne t u v) p a b f g fresh
  two_goes op2.Lt t u v p a b f g fresh = binary_goes op2.Lt (operator_ty op2.Lt t u v) p a b f g fresh
  two_goes op2.Gt t u v p a b f g fresh = binary_goes op2.Gt (operator_ty op2.Gt t u v) p a b f g fresh
  two_goes op2.Le t u v p a b f g fresh = binary_goes op2.Le (operator_ty op2.Le t u v) p a b f g fresh
  two_goes op2.Ge t u v p a b f g fresh = binary_goes op2.Ge (operator_ty op2.Ge t u v) p a b f g fresh
  two_goes op t u v p a b f g fresh = binary_goes op t p a b f g fresh

  module _ (offset : ℕ → ℕ) where
    mutual
      unfolding lines.node_draft

      node_goes : (e : KExpNode) (t : Ty) (p : Pos) (fresh : ℕ) → Goes (lines.node_draft offset e t p) fresh
      node_goes (Const v) t p fresh = goes_text (plain (instr.Push t v) ∷ []) fresh (λ low. (tt, tt))
      node_goes (Read l) t p fresh = goes_text (load offset l ∷ []) fresh (λ low. (tt, tt))
      node_goes (Alive c) t p fresh = goes_text (plain (instr.Alive (offset c)) ∷ []) fresh (λ low. (tt, tt))
      node_goes (One' op _ a) t p fresh = goes_both (operand_draft offset a) (placed p (λ n. plain (instr.Prefix op t n) ∷ [])) fresh (operand_goes a fresh) (goes_placed p (λ n. plain (instr.Prefix op t n) ∷ []) _ (tt, tt))
      node_goes (Two' op _ a _ b) t p fresh = two_goes op t (operand_ty a) (operand_ty b) p (operand_draft offset a) (operand_draft offset b) (λ f. operand_goes a f) (λ f. operand_goes b f) fresh
      node_goes (As' _ a) t p fresh =
          goes_both (operand_draft offset a) (text (plain (instr.Convert (operand_ty a) t) ∷ [])) fresh (operand_goes a fresh) (goes_text (plain (instr.Convert (operand_ty a) t) ∷ []) _ (λ low. (tt, tt)))

      operand_goes : {n : _} (r : Row_of-KExp n) (fresh : ℕ) → Goes (operand_draft offset r) fresh
      operand_goes end_of-KExp fresh = goes_nothing fresh
      operand_goes (more_of-KExp t p e rest) fresh = node_goes e t p fresh

    exp_goes : (e : KExp) (fresh : ℕ) → Goes (exp_draft offset e) fresh
    exp_goes e fresh = node_goes e.node e.ty e.pos fresh

  -- ---- lists of labels

  abbrev EachBelow : List ℕ → Type 0
  EachBelow [] = Unit {0}
  EachBelow (x ∷ xs) = (x < bound) × EachBelow xs

  index_below : (xs : List ℕ) (k : ℕ) → 0 < bound → EachBelow xs → slice_index xs k < bound
  index_below [] k some h = some
  index_below (x ∷ xs) zero some h = h.0
  index_below (x ∷ xs) (suc k) some h = index_below xs k some h.1

  each_append : (xs ys : List ℕ) → EachBelow xs → EachBelow ys → EachBelow (xs ++ ys)
  each_append [] ys f g = g
  each_append (x ∷ xs) ys f g = (f.0, each_append xs ys f.1 g)

  expressions_below : (n fresh : ℕ) → fresh + 2 * n ≤ bound → EachBelow (expression_labels n fresh)
  expressions_below zero fresh low = tt
  expressions_below (suc n) fresh low = (omega arith, (omega arith, expressions_below n (fresh + 2) (omega arith)))

  arm_nodes_are : (a : KArm) → arm_nodes a ≡ block_nodes (arm_block a)
  unfolding arm_nodes
  arm_nodes_are (KArm' c b) = refl

  module _ (count : ℕ) (room : 2 * count ≤ bound) where
    block_below : (b : KBlock) (k : ℕ) → Ground count k (block_nodes b) → EachBelow (block_labels b)
    block_below b k g = let h = (block_ground count k b g).1 in (omega (arith, h), (omega (arith, h), tt))

    arms_below : {n : _} (rows : Row_of-KArm n) (fresh k : ℕ) → fresh + 2 * arm_count rows ≤ bound → Ground count k (arms_nodes rows) → EachBelow (arms_labels fresh rows)
    unfolding arms_nodes
    arms_below end_of-KArm fresh k low g = tt
    arms_below (more_of-KArm a rest) fresh k low g =
        let h = ground_append count k (arm_nodes a) (arms_nodes rest) g in
        let x = block_below (arm_block a) k (subst (λ (l : List ℕ). Ground count k l) (arm_nodes_are a) h.0) in
        (omega arith, (omega arith, (x.0, (x.1.0, arms_below rest (fresh + 2) (k + length (arm_nodes a)) (omega arith) h.1))))

    branches_below : {n : _} (rows : Row_of-KBlock n) (k : ℕ) → Ground count k (blocks_nodes rows) → EachBelow (branches_labels rows)
    unfolding blocks_nodes
    branches_below end_of-KBlock k g = tt
    branches_below (more_of-KBlock b rest) k g =
        let h = ground_append count k (block_nodes b) (blocks_nodes rest) g in
        let x = block_below b k h.0 in
        (x.0, (x.1.0, branches_below rest (k + length (block_nodes b)) h.1))

    parts_below : (s : KStmt) (begin k : ℕ) → begin + 2 * expression_count s ≤ bound → Ground count k (stmt_nodes s) → EachBelow (part_labels begin s)
    unfolding stmt_nodes
    parts_below (Async b) begin k low g = block_below b k g
    parts_below (Finalize b) begin k low g = block_below b k g
    parts_below (Do t b) begin k low g = block_below b k g
    parts_below (If' _ arms last) begin k low g =
        let h = ground_append count k (arms_nodes arms) (block_nodes last) g in
        each_append (arms_labels begin arms) (block_labels last) (arms_below arms begin k low h.0) (block_below last (k + length (arms_nodes arms)) h.1)
    parts_below (Loop kind b) begin k low g = each_append (expression_labels (ends_count kind) begin) (block_labels b) (expressions_below (ends_count kind) begin low) (block_below b k g)
    parts_below (Par' kind slot _ bs) begin k low g = branches_below bs k g
    parts_below (Assign l e) begin k low g = expressions_below 1 begin low
    parts_below (Out j e) begin k low g = expressions_below (count_if e) begin low
    parts_below (Emit j e) begin k low g = expressions_below (count_if e) begin low
    parts_below (AwaitTime e u t) begin k low g = expressions_below 1 begin low
    parts_below (AwaitCode c es f t) begin k low g = expressions_below (length es) begin low
    parts_below (Spawn c es p a) begin k low g = expressions_below (length es) begin low
    parts_below (Escape m e) begin k low g = expressions_below (count_if e) begin low
    parts_below _ begin k low g = tt

    module _ (P : Plan) (K : Kernel) (names : List (List ℕ)) where
      next_below : (sc : Scope) (n : ℕ) (s : KStmt) → n < count → AimsWithin count sc.aims → stmt_ok K names sc n s ≡ true → next_label n s < bound
      unfolding stmt_ok
      next_below sc n (Escape m e) own aims ok = let h = escape_within count K sc m e sc.aims aims (and_parts (outside_finalizers sc.place) _ ok).1 in omega (arith, h)
      next_below sc n (Break m) own aims ok = let h = loop_within count K m sc.aims aims (and_parts (outside_finalizers sc.place) _ ok).1 in omega (arith, h)
      next_below sc n (Continue m) own aims ok = let h = loop_within count K m sc.aims aims (and_parts (outside_finalizers sc.place) _ ok).1 in omega (arith, h)
      next_below sc n _ own aims ok = omega arith

      -- ---- parts that are expressions, whose labels were taken before

      exp_part_goes : (begin : ℕ) (e : KExp) (fresh : ℕ) → begin + 2 ≤ fresh → Goes (exp_part P K begin e) fresh
      exp_part_goes begin e fresh taken =
          let f = exp_goes P.offset e fresh in
          goes_both (text (mark begin ∷ [])) (both (exp_draft P.offset e) (text (goto (begin + 1) ∷ []))) fresh (goes_text (mark begin ∷ []) fresh (λ low. (tt, tt)))
          (goes_both (exp_draft P.offset e) (text (goto (begin + 1) ∷ [])) fresh f
          (goes_text (goto (begin + 1) ∷ []) (exp_draft P.offset e fresh).next (λ low. let g = f.grows in (omega (arith, g, low, taken), tt))))

      exp_parts_goes : (begin : ℕ) (es : List KExp) (fresh : ℕ) → begin + 2 * length es ≤ fresh → Goes (exp_parts P K begin es) fresh
      exp_parts_goes begin [] fresh taken = goes_nothing fresh
      exp_parts_goes begin (e ∷ es) fresh taken =
          let f = exp_part_goes begin e fresh (omega arith) in
          goes_both (exp_part P K begin e) (exp_parts P K (begin + 2) es) fresh f (exp_parts_goes (begin + 2) es (exp_part P K begin e fresh).next (let g = f.grows in omega (arith, g, taken)))

      exp_if_goes : (begin : ℕ) (e : Option KExp) (fresh : ℕ) → begin + 2 * count_if e ≤ fresh → Goes (exp_part_if P K begin e) fresh
      exp_if_goes begin None fresh taken = goes_nothing fresh
      exp_if_goes begin (Some e) fresh taken = exp_part_goes begin e fresh taken

      turn_goes : (begin : ℕ) (k : KLoop) (fresh : ℕ) → begin + 2 * ends_count k ≤ fresh → Goes (turn_parts P K begin k) fresh
      turn_goes begin turns.Free fresh taken = goes_nothing fresh
      turn_goes begin (turns.Times slot n) fresh taken = goes_nothing fresh
      turn_goes begin (turns.Range i next end open_a a b open_b) fresh taken =
          let f = exp_part_goes begin a fresh (omega arith) in
          goes_both (exp_part P K begin a) (exp_part P K (begin + 2) b) fresh f (exp_part_goes (begin + 2) b (exp_part P K begin a fresh).next (let g = f.grows in omega (arith, g, taken)))

      -- ---- lines around a block's statements go nowhere

      move_named : {n : _} (node gates : ℕ) (list : Row_of-KNode n) → Named bound (move_lines P K node gates list)
      move_named node zero list = tt
      move_named node (suc g) end_of-KNode = tt
      move_named node (suc g) (more_of-KNode m p s rest) = (tt, tt)

      pool_named : (first slot : ℕ) (k : KKind) (ls : List Line) → Named bound ls → Named bound (pool_line P K first slot k ++ ls)
      pool_named first slot (kind.Var t) ls h = h
      pool_named first slot (kind.Alias c) ls h = h
      pool_named first slot (kind.Pool n c) ls h = (tt, h)

      pools_named : (first : ℕ) (ds : List KDecl) → Named bound (pool_lines P K first ds)
      pools_named first [] = tt
      pools_named first (d ∷ ds) = pool_named first d.slot d.kind (pool_lines P K (first + pool_gates P K d.kind) ds) (pools_named (first + pool_gates P K d.kind) ds)

      abort_named : (node gates : ℕ) → Named bound (abort_own P K node gates)
      abort_named node zero = tt
      abort_named node (suc g) = (tt, tt)

      around_goes : {n : _} (node : ℕ) (ds : List KDecl) (list : Row_of-KNode n) (d : Draft) (fresh : ℕ) → Goes d fresh →
          Goes (both (text (mark (own_label node) ∷ block_begin P K node ds list)) (both d (text (block_end P K node ds list)))) fresh
      around_goes node ds list d fresh h =
          let first : List Line = mark (own_label node) ∷ block_begin P K node ds list in
          let last : List Line = block_end P K node ds list in
          goes_both (text first) (both d (text last)) fresh
          (goes_text first fresh (λ low. (
            tt,
            named_append bound (move_lines P K node (own_gates P K (nodes_finalizers list) ds) list) (pool_lines P K (P.first node + nodes_finalizers list) ds)
                (move_named node (own_gates P K (nodes_finalizers list) ds) list) (pools_named (P.first node + nodes_finalizers list) ds),
          )))
          (goes_both d (text last) fresh h (goes_text last (d fresh).next (λ low. abort_named node (own_gates P K (nodes_finalizers list) ds))))

      to_end_goes : (b : KBlock) (d : Draft) (fresh k : ℕ) → Ground count k (block_nodes b) → Goes d fresh → Goes (to_end P K b d) fresh
      to_end_goes b d fresh k g h =
          let own = (block_ground count k b g).1 in
          goes_both d (text (goto (end_label (node_of_block b)) ∷ [])) fresh h (goes_text (goto (end_label (node_of_block b)) ∷ []) (d fresh).next (λ low. (omega (arith, own), tt)))

      whole_goes : (sc : Scope) (n : ℕ) (p : Pos) (s : KStmt) (parts : ℕ → Draft) → n < count → Ground count (n + 1) (stmt_nodes s) → AimsWithin count sc.aims → stmt_ok K names sc n s ≡ true →
          ((begin fresh : ℕ) → begin + 2 * expression_count s ≤ fresh → Goes (parts begin) fresh) → (fresh : ℕ) → Goes (with_parts P K n p s parts) fresh
      whole_goes sc n p s parts own g aims ok h fresh = record { grows = omega (arith, taking_grows); named = λ low. all low }
        where
          first : ℕ
          first = fresh + 2 * expression_count s

          node : Draft
          node = node_draft P K n p s (labels_of fresh n s)

          node_grows : first ≤ (node first).next
          node_grows = (node_adds P K 0 number n p s fresh first).grows

          inside : Goes (parts fresh) (node first).next
          inside = h fresh (node first).next (omega (arith, node_grows))

          taking_grows : fresh ≤ (parts fresh (node first).next).next
          taking_grows = omega (arith, node_grows, inside.grows)

          all : (parts fresh (node first).next).next ≤ bound → Named bound ((with_parts P K n p s parts fresh).lines number)
          all low =
              let taken : fresh + 2 * expression_count s ≤ bound = omega (arith, node_grows, inside.grows, low) in
              let some : 0 < bound = omega (arith, own) in
              let below : PartsWithin bound (labels_of fresh n s) = λ (k : ℕ). index_below (part_labels fresh s) k some (parts_below s fresh (n + 1) taken g) in
              named_append bound ((node first).lines number) _ (node_named bound P K (labels_of fresh n s) below (next_below sc n s own aims ok) n p s first number (omega (arith, inside.grows, low)))
              (named_append bound ((parts fresh (node first).next).lines number) (mark (end_label n) ∷ []) (inside.named low) (tt, tt))

      mutual
        unfolding parts_draft stmt_nodes stmt_ok

        parts_go : (sc : Scope) (n : ℕ) (s : KStmt) → n < count → Ground count (n + 1) (stmt_nodes s) → AimsWithin count sc.aims → stmt_ok K names sc n s ≡ true →
            (begin fresh : ℕ) → begin + 2 * expression_count s ≤ fresh → Goes (parts_draft P K s begin) fresh
        parts_go sc n (Assign l e) own g aims ok begin fresh taken = exp_if_goes begin (Some e) fresh taken
        parts_go sc n (Out k e) own g aims ok begin fresh taken = exp_if_goes begin e fresh taken
        parts_go sc n (Emit k e) own g aims ok begin fresh taken = exp_if_goes begin e fresh taken
        parts_go sc n (AwaitTime e u t) own g aims ok begin fresh taken = exp_if_goes begin (Some e) fresh taken
        parts_go sc n (AwaitCode c es f t) own g aims ok begin fresh taken = exp_parts_goes begin es fresh taken
        parts_go sc n (Spawn c es p a) own g aims ok begin fresh taken = exp_parts_goes begin es fresh taken
        parts_go sc n (Escape m e) own g aims ok begin fresh taken = exp_if_goes begin e fresh taken
        parts_go sc n (Async b) own g aims ok begin fresh taken =
            to_end_goes b (block_draft P K b) fresh (n + 1) g (block_goes (in_async K sc) b (n + 1) g tt (and_parts (is_trail sc.place) _ ok).1 fresh)
        parts_go sc n (Finalize b) own g aims ok begin fresh taken =
            to_end_goes b (block_draft P K b) fresh (n + 1) g (block_goes (in_finalizer K sc) b (n + 1) g tt (and_parts (is_trail sc.place) _ ok).1 fresh)
        parts_go sc n (Do t b) own g aims ok begin fresh taken =
            to_end_goes b (block_draft P K b) fresh (n + 1) g (block_goes (with_aim (do_aim K n t) sc) b (n + 1) g (do_within count K n t own, aims) (and_parts _ (block_ok K names (with_aim (do_aim K n t) sc) b) ok).1 fresh)
        parts_go sc n (If' x arms last) own g aims ok begin fresh taken =
            let parts = ground_append count (n + 1) (arms_nodes arms) (block_nodes last) g in
            let both_ok = and_parts (outside_finalizers sc.place && arms_ok K names sc arms) (block_ok K names sc last) ok in
            let first = arms_go sc arms (n + 1) parts.0 aims (and_parts (outside_finalizers sc.place) (arms_ok K names sc arms) both_ok.0).1 begin fresh taken in
            goes_both (arms_parts P K arms begin) (to_end P K last (block_draft P K last)) fresh first
            (to_end_goes last (block_draft P K last) (arms_parts P K arms begin fresh).next (n + 1 + length (arms_nodes arms)) parts.1 (block_goes sc last (n + 1 + length (arms_nodes arms)) parts.1 aims both_ok.1 (arms_parts P K arms begin fresh).next))
        parts_go sc n (Loop k b) own g aims ok begin fresh taken =
            let inner : Scope = with_aim (LoopAim n) (with_turns K k sc) in
            let head = block_ground count (n + 1) b g in
            let behind : AimsWithin count inner.aims = (omega (arith, head.0, head.1), turns_within count K k sc aims) in
            let first = turn_goes begin k fresh taken in
            goes_both (turn_parts P K begin k) (to_end P K b (block_draft P K b)) fresh first
            (to_end_goes b (block_draft P K b) (turn_parts P K begin k fresh).next (n + 1) g (block_goes inner b (n + 1) g behind (and_parts _ (block_ok K names inner b) ok).1 (turn_parts P K begin k fresh).next))
        parts_go sc n (Par' k slot x bs) own g aims ok begin fresh taken = blocks_go sc bs (n + 1) g aims (and_parts _ (blocks_ok K names sc bs) ok).1 fresh
        parts_go sc n _ own g aims ok begin fresh taken = goes_nothing fresh

        block_goes : (sc : Scope) (b : KBlock) (k : ℕ) → Ground count k (block_nodes b) → AimsWithin count sc.aims → block_ok K names sc b ≡ true → (fresh : ℕ) → Goes (block_draft P K b) fresh
        block_goes sc (KBlock' n ds x list) k g aims ok fresh =
            around_goes n ds list (nodes_draft P K list) fresh (nodes_go (with_decls ds sc) list (k + 1) (ground_head count k n (list_nodes list) g).1.1 aims (and_parts _ (nodes_ok K names (with_decls ds sc) list) ok).1 fresh)

        nodes_go : {n : _} (sc : Scope) (rows : Row_of-KNode n) (k : ℕ) → Ground count k (list_nodes rows) → AimsWithin count sc.aims → nodes_ok K names sc rows ≡ true → (fresh : ℕ) → Goes (nodes_draft P K rows) fresh
        nodes_go sc end_of-KNode k g aims ok fresh = goes_nothing fresh
        nodes_go sc (more_of-KNode n p s rest) k g aims ok fresh =
            let head = ground_head count k n (stmt_nodes s ++ list_nodes rest) g in
            let parts = ground_append count (k + 1) (stmt_nodes s) (list_nodes rest) head.1.1 in
            let mine : Ground count (n + 1) (stmt_nodes s) = subst (λ (j : ℕ). Ground count (j + 1) (stmt_nodes s)) (sym head.0) parts.0 in
            let oks = and_parts _ (nodes_ok K names sc rest) ok in
            let stmt = (and_parts _ (stmt_ok K names sc n s) oks.0).1 in
            goes_both (with_parts P K n p s (parts_draft P K s)) (nodes_draft P K rest) fresh
            (whole_goes sc n p s (parts_draft P K s) head.1.0 mine aims stmt (λ begin f taken. parts_go sc n s head.1.0 mine aims stmt begin f taken) fresh)
            (nodes_go sc rest (k + 1 + length (stmt_nodes s)) parts.1 aims oks.1 (with_parts P K n p s (parts_draft P K s) fresh).next)

        arm_goes : (sc : Scope) (a : KArm) (k : ℕ) → Ground count k (arm_nodes a) → AimsWithin count sc.aims → arm_ok K names sc a ≡ true → (begin fresh : ℕ) → begin + 2 ≤ fresh → Goes (arm_parts P K a begin) fresh
        arm_goes sc (KArm' c b) k g aims ok begin fresh taken =
            goes_both (exp_part P K begin c) (to_end P K b (block_draft P K b)) fresh (exp_part_goes begin c fresh taken)
            (to_end_goes b (block_draft P K b) (exp_part P K begin c fresh).next k g (block_goes sc b k g aims (and_parts _ (block_ok K names sc b) ok).1 (exp_part P K begin c fresh).next))

        arms_go : {n : _} (sc : Scope) (rows : Row_of-KArm n) (k : ℕ) → Ground count k (arms_nodes rows) → AimsWithin count sc.aims → arms_ok K names sc rows ≡ true → (begin fresh : ℕ) → begin + 2 * arm_count rows ≤ fresh →
            Goes (arms_parts P K rows begin) fresh
        arms_go sc end_of-KArm k g aims ok begin fresh taken = goes_nothing fresh
        arms_go sc (more_of-KArm a rest) k g aims ok begin fresh taken =
            let parts = ground_append count k (arm_nodes a) (arms_nodes rest) g in
            let oks = and_parts (arm_ok K names sc a) (arms_ok K names sc rest) ok in
            let first = arm_goes sc a k parts.0 aims oks.0 begin fresh (omega arith) in
            goes_both (arm_parts P K a begin) (arms_parts P K rest (begin + 2)) fresh first
            (arms_go sc rest (k + length (arm_nodes a)) parts.1 aims oks.1 (begin + 2) (arm_parts P K a begin fresh).next (let f = first.grows in omega (arith, f, taken)))

        blocks_go : {n : _} (sc : Scope) (rows : Row_of-KBlock n) (k : ℕ) → Ground count k (blocks_nodes rows) → AimsWithin count sc.aims → blocks_ok K names sc rows ≡ true → (fresh : ℕ) → Goes (blocks_parts P K rows) fresh
        blocks_go sc end_of-KBlock k g aims ok fresh = goes_nothing fresh
        blocks_go sc (more_of-KBlock b rest) k g aims ok fresh =
            let parts = ground_append count k (block_nodes b) (blocks_nodes rest) g in
            let oks = and_parts (block_ok K names sc b) (blocks_ok K names sc rest) ok in
            goes_both (to_end P K b (block_draft P K b)) (blocks_parts P K rest) fresh (to_end_goes b (block_draft P K b) fresh k parts.0 (block_goes sc b k parts.0 aims oks.0 fresh))
            (blocks_go sc rest (k + length (block_nodes b)) parts.1 aims oks.1 (to_end P K b (block_draft P K b) fresh).next)

      -- ---- bodies

      zero_named : (t : Ty) (ls : List Line) → Named bound ls → Named bound (zero_given P K t ++ ls)
      zero_named ty.None ls h = h
      zero_named ty.Bool ls h = (tt, (tt, h))
      zero_named ty.U8 ls h = (tt, (tt, h))
      zero_named ty.S8 ls h = (tt, (tt, h))
      zero_named ty.U16 ls h = (tt, (tt, h))
      zero_named ty.S16 ls h = (tt, (tt, h))
      zero_named ty.U32 ls h = (tt, (tt, h))
      zero_named ty.S32 ls h = (tt, (tt, h))
      zero_named ty.U64 ls h = (tt, (tt, h))
      zero_named ty.S64 ls h = (tt, (tt, h))

      body_goes : (sc : Scope) (b : KBlock) (t : Ty) (end : List Line) (k : ℕ) → Ground count k (block_nodes b) → AimsWithin count sc.aims → block_ok K names sc b ≡ true → Named bound end → (fresh : ℕ) →
          Goes (body_draft P K b (zero_given P K t) end) fresh
      body_goes sc b t end k g aims ok h fresh =
          let e : List Line = mark (end_label (node_of_block b)) ∷ end in
          goes_both (block_draft P K b) (text (zero_given P K t ++ e)) fresh (block_goes sc b k g aims ok fresh) (goes_text (zero_given P K t ++ e) (block_draft P K b fresh).next (λ low. zero_named t e (tt, h)))

      body_aims : (code : Option ℕ) (b : KBlock) (t : Ty) (k : ℕ) → Ground count k (block_nodes b) → AimsWithin count (body_scope K names code b t).aims
      body_aims code b t k g = let h = (block_ground count k b g).1 in (omega (arith, h, out_node b), tt)

      codes_go : (number_of_code : ℕ) (cs : List KCode) (k : ℕ) → Ground count k (codes_nodes cs) → codes_ok K names number_of_code cs ≡ true → (fresh : ℕ) → Goes (codes_draft P K cs) fresh
      codes_go j [] k g ok fresh = goes_nothing fresh
      codes_go j (c ∷ cs) k g ok fresh =
          let parts = ground_append count k (block_nodes c.body) (codes_nodes cs) g in
          let sc : Scope = with_decls c.params (body_scope K names (Some j) c.body c.result) in
          let oks = and_parts _ (codes_ok K names (j + 1) cs) ok in
          let body = (and_parts _ (block_ok K names sc c.body) oks.0).1 in
          goes_both (code_draft P K c) (codes_draft P K cs) fresh (body_goes sc c.body c.result (plain instr.Return ∷ []) k parts.0 (body_aims (Some j) c.body c.result k parts.0) body (tt, tt) fresh)
          (codes_go (j + 1) cs (k + length (block_nodes c.body)) parts.1 oks.1 (code_draft P K c fresh).next)

      pub kernel_goes : Ground count 0 (block_nodes K.body ++ codes_nodes K.codes) → block_ok K names (body_scope K names None K.body ty.S32) K.body ≡ true → codes_ok K names 0 K.codes ≡ true → (fresh : ℕ) →
          Goes (kernel_draft P K) fresh
      kernel_goes g body codes fresh =
          let parts = ground_append count 0 (block_nodes K.body) (codes_nodes K.codes) g in
          goes_both (program_draft P K K.body) (codes_draft P K K.codes) fresh
          (body_goes (body_scope K names None K.body ty.S32) K.body ty.S32 (plain instr.End ∷ []) 0 parts.0 (body_aims None K.body ty.S32 0 parts.0) body (tt, tt) fresh)
          (codes_go 0 K.codes (0 + length (block_nodes K.body)) parts.1 codes (program_draft P K K.body fresh).next)
