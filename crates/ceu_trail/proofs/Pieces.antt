-- Where the piece of each part of a statement, of a block and of the program stands.
use Rattle.std.proofs.Common.{◌≡◌, refl, sym, ap, ◌∙◌, subst, inl, inr, ℕ, ◌+◌, ◌*◌, true, List, [], ◌∷◌, ◌++◌}
use Rattle.ceu_code.specs.declared.image.Image.{Image}
use Rattle.ceu_asm.specs.declared.line.Line.{Line}
use Rattle.ceu_tree.specs.declared.kernel.Kernel.{Kernel}
use Rattle.ceu_tree.specs.declared.kernel.KLoop.{KLoop}
use Rattle.ceu_tree.specs.declared.kernel.KNode.{KNode}
use Rattle.ceu_tree.specs.declared.kernel.KArm.{KArm', out-KArm}
use Rattle.ceu_tree.specs.declared.kernel.KBlock.{KBlock, KBlock', out-KBlock, Row_of-KNode, end_of-KNode, more_of-KNode, items-the_row-KNode, items_shown-the_row-KNode-2}
use Rattle.ceu_tree.specs.declared.kernel.KStmt.{KStmt, out-KStmt, Row_of-KArm, end_of-KArm, more_of-KArm, items-the_row-KArm, items_shown-the_row-KArm-0, Do, If', Loop}
use Rattle.ceu_tree.specs.declared.kernel.KStmt.TheOpen.{KStmt-F}
use Rattle.ceu_tree.specs.Leaf.{Layer}
use Rattle.laws_meaning_basics.specs.Shape.{among_arms, opens_part}
use Rattle.ceu_shape.specs.Plans.{Plan, own_label, end_label}
use Rattle.ceu_shape.specs.Pieces.{Piece, Draft, joined, both, text}
use Rattle.ceu_shape.specs.Words.{mark, goto}
use Rattle.ceu_shape.specs.Searches.{node_of_block}
use Rattle.ceu_shape.specs.Shape.{labels_of, expression_count, node_draft, with_parts, to_end, turn_parts, exp_part, parts_draft, block_draft, arm_parts, nodes_draft, arms_parts, block_end}
use Rattle.ceu_single.specs.Single.{stmt_single, block_single}
use Rattle.ceu_trail.specs.Built.{node_whole, list_draft}
use Rattle.ceu_trail.proofs.Cuts.{Inside, inside_itself, inside_left, inside_right, inside_before}
use Rattle.ceu_trail.proofs.Singles.{begin_empty, end_empty}
use denote.Hole.Carrier

-- by some first label
pub record Somewhere (whole : Piece) (draft : Draft) (more : List Line) : Type 0 where
  pub fresh : ℕ
  pub inside : Inside whole (draft fresh) more

pub somewhere_left : (a b : Piece) (d : Draft) (more : List Line) → Somewhere a d more → Somewhere (joined a b) d more
somewhere_left a b d more x = record { fresh = x.fresh; inside = inside_left a b (d x.fresh) more x.inside }

pub somewhere_right : (a b : Piece) (d : Draft) (more : List Line) → Somewhere b d more → Somewhere (joined a b) d more
somewhere_right a b d more x = record { fresh = x.fresh; inside = inside_right a b (d x.fresh) more x.inside }

module _ (image : Image) (P : Plan) (K : Kernel) where
  -- ---- the statements of a block

  row_list : {n : _} (rows : Row_of-KNode n) → nodes_draft P K rows ≡ list_draft image P K (items-the_row-KNode n rows)
  unfolding parts_draft
  row_list end_of-KNode = refl
  row_list (more_of-KNode n p s rest) = ap (both (with_parts P K n p s (parts_draft P K s))) (row_list rest)

  -- a block of a program of one trail is its statements
  abbrev pub opened : KBlock → Draft
  opened b = both (text (mark (own_label (node_of_block b)) ∷ [])) (both (list_draft image P K (out-KBlock b).list) (text []))

  pub block_is : (b : KBlock) → block_single b ≡ true → block_draft P K b ≡ opened b
  unfolding parts_draft stmt_single out-KBlock Carrier.out
  block_is (KBlock' n ds x list) h =
      ap (λ ls. both (text (mark (own_label n) ∷ ls)) (both (nodes_draft P K list) (text (block_end P K n ds list)))) (begin_empty P K n ds list h)
      ∙ ap (λ ls. both (text (mark (own_label n) ∷ [])) (both (nodes_draft P K list) (text ls))) (end_empty P K n ds list h)
      ∙ ap (λ d. both (text (mark (own_label n) ∷ [])) (both d (text []))) (row_list list ∙ ap (list_draft image P K) (sym (items_shown-the_row-KNode-2 x list)))

  list_inside : (done : List KNode) (s : KNode) (rest : List KNode) (fresh : ℕ) → Somewhere (list_draft image P K (done ++ s ∷ rest) fresh) (node_whole image P K s) []
  list_inside [] s rest fresh =
      somewhere_left (node_whole image P K s fresh) (list_draft image P K rest (node_whole image P K s fresh).next) (node_whole image P K s) []
      (record { fresh = fresh; inside = inside_itself (node_whole image P K s fresh) })
  list_inside (x ∷ done) s rest fresh =
      somewhere_right (node_whole image P K x fresh) (list_draft image P K (done ++ s ∷ rest) (node_whole image P K x fresh).next) (node_whole image P K s) []
      (list_inside done s rest (node_whole image P K x fresh).next)

  pub statement_inside : (b : KBlock) (done : List KNode) (s : KNode) (rest : List KNode) (fresh : ℕ) → block_single b ≡ true → (out-KBlock b).list ≡ done ++ s ∷ rest
      → Somewhere (block_draft P K b fresh) (node_whole image P K s) []
  statement_inside b done s rest fresh h e =
      subst (λ (d : Draft). Somewhere (d fresh) (node_whole image P K s) []) (sym (block_is b h))
      (subst (λ ls. Somewhere (both (text (mark (own_label (node_of_block b)) ∷ [])) (both (list_draft image P K ls) (text [])) fresh) (node_whole image P K s) []) (sym e)
      (somewhere_right (text (mark (own_label (node_of_block b)) ∷ []) fresh) (both (list_draft image P K (done ++ s ∷ rest)) (text []) fresh) (node_whole image P K s) []
      (somewhere_left (list_draft image P K (done ++ s ∷ rest) fresh) (text [] (list_draft image P K (done ++ s ∷ rest) fresh).next) (node_whole image P K s) []
      (list_inside done s rest fresh))))

  -- ---- the blocks of a statement

  -- behind which stands the jump to their end
  abbrev pub leaving : KBlock → List Line
  leaving b = goto (end_label (node_of_block b)) ∷ []

  ended : (b : KBlock) (fresh : ℕ) → Somewhere (to_end P K b (block_draft P K b) fresh) (block_draft P K b) (leaving b)
  ended b fresh = record { fresh = fresh; inside = inside_before (block_draft P K b) (leaving b) fresh }

  ended_as : (a b : KBlock) (fresh : ℕ) → a ≡ b → Somewhere (to_end P K a (block_draft P K a) fresh) (block_draft P K b) (leaving b)
  ended_as a b fresh e = subst (λ c. Somewhere (to_end P K a (block_draft P K a) fresh) (block_draft P K c) (leaving c)) e (ended a fresh)

  row_inside : {n : _} (rows : Row_of-KArm n) (b : KBlock) (begin fresh : ℕ) → among_arms (items-the_row-KArm n rows) b → Somewhere (arms_parts P K rows begin fresh) (block_draft P K b) (leaving b)
  unfolding parts_draft out-KArm Carrier.out
  row_inside end_of-KArm b begin fresh a = absurd a
  row_inside (more_of-KArm (KArm' c x) rest) b begin fresh (inl e) =
      let arm = arm_parts P K (KArm' c x) begin fresh in
      somewhere_left (arm_parts P K (KArm' c x) begin fresh) (arms_parts P K rest (begin + 2) arm.next) (block_draft P K b) (leaving b)
      (somewhere_right (exp_part P K begin c fresh) (to_end P K x (block_draft P K x) (exp_part P K begin c fresh).next) (block_draft P K b) (leaving b) (ended_as x b (exp_part P K begin c fresh).next e))
  row_inside (more_of-KArm (KArm' c x) rest) b begin fresh (inr a) =
      let arm = arm_parts P K (KArm' c x) begin fresh in
      somewhere_right (arm_parts P K (KArm' c x) begin fresh) (arms_parts P K rest (begin + 2) arm.next) (block_draft P K b) (leaving b) (row_inside rest b (begin + 2) arm.next a)

  opens_inside : (s : KStmt) (b : KBlock) (begin fresh : ℕ) → opens_part (out-KStmt s) b → Somewhere (parts_draft P K s begin fresh) (block_draft P K b) (leaving b)
  unfolding parts_draft out-KStmt Carrier.out
  opens_inside (Do t c) b begin fresh e = ended_as c b fresh e
  opens_inside (If' x arms last) b begin fresh (inl a) =
      let front = arms_parts P K arms begin fresh in
      somewhere_left front (to_end P K last (block_draft P K last) front.next) (block_draft P K b) (leaving b) (row_inside arms b begin fresh (subst (λ l. among_arms l b) (items_shown-the_row-KArm-0 x arms) a))
  opens_inside (If' x arms last) b begin fresh (inr e) =
      let front = arms_parts P K arms begin fresh in
      somewhere_right front (to_end P K last (block_draft P K last) front.next) (block_draft P K b) (leaving b) (ended_as last b front.next e)
  opens_inside s b begin fresh e = absurd e

  -- what a loop's layer says of its statement
  IsLoop : Layer → KBlock → Type 0
  IsLoop (KStmt-F.Loop k b) c = b ≡ c
  IsLoop layer c = ⊥

  turns_inside : (s : KStmt) (b : KBlock) (begin fresh : ℕ) → IsLoop (out-KStmt s) b → Somewhere (parts_draft P K s begin fresh) (block_draft P K b) (leaving b)
  unfolding parts_draft out-KStmt Carrier.out IsLoop
  turns_inside (Loop k c) b begin fresh e =
      let front = turn_parts P K begin k fresh in
      somewhere_right front (to_end P K c (block_draft P K c) front.next) (block_draft P K b) (leaving b) (ended_as c b front.next e)
  turns_inside s b begin fresh e = absurd e

  -- the parts of a statement stand behind its own lines
  parts_inside : (s : KNode) (d : Draft) (more : List Line) (fresh : ℕ) → ((begin next : ℕ) → Somewhere (parts_draft P K s.stmt begin next) d more) → Somewhere (node_whole image P K s fresh) d more
  parts_inside s d more fresh h =
      let begin = fresh in
      let own = node_draft P K s.node s.pos s.stmt (labels_of fresh s.node s.stmt) (fresh + 2 * expression_count s.stmt) in
      let parts = parts_draft P K s.stmt fresh own.next in
      somewhere_right own (both (parts_draft P K s.stmt fresh) (text (mark (end_label s.node) ∷ [])) own.next) d more
      (somewhere_left parts (text (mark (end_label s.node) ∷ []) parts.next) d more (h fresh own.next))

  pub part_inside : (s : KNode) (b : KBlock) (fresh : ℕ) → opens_part (out-KStmt s.stmt) b → Somewhere (node_whole image P K s fresh) (block_draft P K b) (leaving b)
  part_inside s b fresh e = parts_inside s (block_draft P K b) (leaving b) fresh (λ begin next. opens_inside s.stmt b begin next e)

  pub turn_inside : (s : KNode) (k : KLoop) (b : KBlock) (fresh : ℕ) → out-KStmt s.stmt ≡ KStmt-F.Loop k b → Somewhere (node_whole image P K s fresh) (block_draft P K b) (leaving b)
  unfolding IsLoop
  turn_inside s k b fresh e = parts_inside s (block_draft P K b) (leaving b) fresh (λ begin next. turns_inside s.stmt b begin next (subst (λ l. IsLoop l b) (sym e) refl))
