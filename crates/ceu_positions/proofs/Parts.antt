-- Where the image has all positions that the program notes, it has those that each reached part notes.
use Rattle.std.proofs.Common.{◌≡◌, refl, sym, subst, inl, inr, ℕ, ◌+◌, ◌*◌, List, [], ◌∷◌, ◌++◌}
use Rattle.ceu_base.specs.declared.kinds.Pos.{Pos}
use Rattle.ceu_code.specs.declared.image.Image.{Image}
use Rattle.ceu_tree.specs.declared.kernel.Kernel.{Kernel}
use Rattle.ceu_tree.specs.declared.kernel.KNode.{KNode}
use Rattle.ceu_tree.specs.declared.kernel.KArm.{KArm', out-KArm}
use Rattle.ceu_tree.specs.declared.kernel.KBlock.{KBlock, KBlock', out-KBlock, Row_of-KNode, end_of-KNode, more_of-KNode, items-the_row-KNode, items_shown-the_row-KNode-2}
use Rattle.ceu_tree.specs.declared.kernel.KStmt.{KStmt, out-KStmt, Row_of-KArm, end_of-KArm, more_of-KArm, items-the_row-KArm, items_shown-the_row-KArm-0, Do, If', Loop}
use Rattle.ceu_tree.specs.declared.kernel.KStmt.TheOpen.{KStmt-F}
use Rattle.ceu_tree.specs.Leaf.{Layer}
use Rattle.ceu_tree.specs.Focus.{Frame}
use Rattle.laws_meaning_basics.specs.Shape.{Part, ABlock, AStatement, AnEnd, among_arms, opens_part}
use Rattle.ceu_shape.specs.Plans.{Plan}
use Rattle.ceu_shape.specs.Pieces.{Draft}
use Rattle.ceu_shape.specs.Shape.{labels_of, expression_count, node_draft, with_parts, exp_part, turn_parts, to_end, parts_draft, block_draft, arm_parts, nodes_draft, arms_parts, codes_draft, program_draft, first_fresh, kernel_piece}
use Rattle.ceu_steps.specs.Reached.{Reached, at_program, at_statement, at_end, in_part, in_turn}
use Rattle.ceu_positions.proofs.Listed.{all_parts, Has, Listed, listed_parts}
use denote.Hole.Carrier

module _ (image : Image) (number : Pos → ℕ) (P : Plan) (K : Kernel) where
  -- all that a draft notes, by some first label
  pub record Noted (d : Draft) : Type 0 where
    pub fresh : ℕ
    pub held : Listed image number (d fresh)

  abbrev pub whole : KNode → Draft
  whole s = with_parts P K s.node s.pos s.stmt (parts_draft P K s.stmt)

  abbrev pub AllNoted : List KNode → Type 0
  AllNoted [] = Unit {0}
  AllNoted (s ∷ ss) = Noted (whole s) × AllNoted ss

  -- ---- the statements of a block

  row_noted : {n : _} (rows : Row_of-KNode n) (fresh : ℕ) → Listed image number (nodes_draft P K rows fresh) → AllNoted (items-the_row-KNode n rows)
  unfolding parts_draft
  row_noted end_of-KNode fresh h = tt
  row_noted (more_of-KNode n p s rest) fresh h =
      let first = with_parts P K n p s (parts_draft P K s) fresh in
      let x = listed_parts image number first (nodes_draft P K rest first.next) h in
      (record { fresh = fresh; held = x.0 }, row_noted rest first.next x.1)

  list_noted : (b : KBlock) → Noted (block_draft P K b) → AllNoted (out-KBlock b).list
  unfolding parts_draft out-KBlock Carrier.out
  list_noted (KBlock' n ds x list) h =
      subst AllNoted (sym (items_shown-the_row-KNode-2 x list)) (row_noted list h.fresh (all_parts (Has image number) (nodes_draft P K list h.fresh).noted [] h.held).0)

  among_noted : (done : List KNode) (s : KNode) (rest : List KNode) → AllNoted (done ++ s ∷ rest) → Noted (whole s)
  among_noted [] s rest h = h.0
  among_noted (x ∷ done) s rest h = among_noted done s rest h.1

  -- ---- the blocks of a statement

  ended : (a b : KBlock) (fresh : ℕ) → a ≡ b → Listed image number (to_end P K a (block_draft P K a) fresh) → Noted (block_draft P K b)
  ended a b fresh e h = subst (λ c. Noted (block_draft P K c)) e (record { fresh = fresh; held = (all_parts (Has image number) (block_draft P K a fresh).noted [] h).0 })

  arms_noted : {n : _} (rows : Row_of-KArm n) (b : KBlock) (begin fresh : ℕ) → among_arms (items-the_row-KArm n rows) b → Listed image number (arms_parts P K rows begin fresh) → Noted (block_draft P K b)
  unfolding parts_draft out-KArm Carrier.out
  arms_noted end_of-KArm b begin fresh a h = absurd a
  arms_noted (more_of-KArm (KArm' c y) rest) b begin fresh (inl e) h =
      let arm = arm_parts P K (KArm' c y) begin fresh in
      let test = exp_part P K begin c fresh in
      let x = listed_parts image number arm (arms_parts P K rest (begin + 2) arm.next) h in
      ended y b test.next e (listed_parts image number test (to_end P K y (block_draft P K y) test.next) x.0).1
  arms_noted (more_of-KArm (KArm' c y) rest) b begin fresh (inr a) h =
      let arm = arm_parts P K (KArm' c y) begin fresh in
      arms_noted rest b (begin + 2) arm.next a (listed_parts image number arm (arms_parts P K rest (begin + 2) arm.next) h).1

  opens_noted : (s : KStmt) (b : KBlock) (begin fresh : ℕ) → opens_part (out-KStmt s) b → Listed image number (parts_draft P K s begin fresh) → Noted (block_draft P K b)
  unfolding parts_draft out-KStmt Carrier.out
  opens_noted (Do t c) b begin fresh e h = ended c b fresh e h
  opens_noted (If' x arms last) b begin fresh (inl a) h =
      let front = arms_parts P K arms begin fresh in
      let y = listed_parts image number front (to_end P K last (block_draft P K last) front.next) h in
      arms_noted arms b begin fresh (subst (λ l. among_arms l b) (items_shown-the_row-KArm-0 x arms) a) y.0
  opens_noted (If' x arms last) b begin fresh (inr e) h =
      let front = arms_parts P K arms begin fresh in
      let y = listed_parts image number front (to_end P K last (block_draft P K last) front.next) h in
      ended last b front.next e y.1
  opens_noted s b begin fresh e h = absurd e

  -- what a loop's layer says of its statement
  IsLoop : Layer → KBlock → Type 0
  IsLoop (KStmt-F.Loop k b) c = b ≡ c
  IsLoop layer c = ⊥

  turns_noted : (s : KStmt) (b : KBlock) (begin fresh : ℕ) → IsLoop (out-KStmt s) b → Listed image number (parts_draft P K s begin fresh) → Noted (block_draft P K b)
  unfolding parts_draft out-KStmt Carrier.out IsLoop
  turns_noted (Loop k c) b begin fresh e h =
      let front = turn_parts P K begin k fresh in
      ended c b front.next e (listed_parts image number front (to_end P K c (block_draft P K c) front.next) h).1
  turns_noted s b begin fresh e h = absurd e

  -- ---- a statement's own lines, and those of its parts

  pub record Apart (s : KNode) : Type 0 where
    pub begin : ℕ
    pub fresh : ℕ
    pub next : ℕ
    pub own : Listed image number (node_draft P K s.node s.pos s.stmt (labels_of begin s.node s.stmt) fresh)
    pub parts : Listed image number (parts_draft P K s.stmt begin next)

  pub apart : (s : KNode) → Noted (whole s) → Apart s
  apart s h =
      let fresh = h.fresh + 2 * expression_count s.stmt in
      let own = node_draft P K s.node s.pos s.stmt (labels_of h.fresh s.node s.stmt) fresh in
      let parts = parts_draft P K s.stmt h.fresh own.next in
      let x = all_parts (Has image number) own.noted (parts.noted ++ []) h.held in
      record { begin = h.fresh; fresh = fresh; next = own.next; own = x.0; parts = (all_parts (Has image number) parts.noted [] x.1).0 }

  -- ---- the program and its parts

  abbrev pub PartNoted : Part → Type 0
  PartNoted (ABlock turn sc b) = Noted (block_draft P K b)
  PartNoted (AStatement sc s) = Noted (whole s)
  PartNoted AnEnd = Unit {0}

  body_noted : Listed image number (kernel_piece P K) → Noted (block_draft P K K.body)
  unfolding kernel_piece
  body_noted h =
      let body = block_draft P K K.body (first_fresh K) in
      let program = program_draft P K K.body (first_fresh K) in
      let x = listed_parts image number program (codes_draft P K K.codes program.next) h in
      record { fresh = first_fresh K; held = (all_parts (Has image number) body.noted [] x.0).0 }

  pub part_noted : {outer : List Frame} {d : Part} → Reached K outer d → Listed image number (kernel_piece P K) → PartNoted d
  unfolding IsLoop
  part_noted at_program h = body_noted h
  part_noted (at_statement {b = b} {s = s} {rest = rest} done x e pl) h = among_noted done s rest (subst AllNoted e (list_noted b (part_noted x h)))
  part_noted (at_end x pl) h = tt
  part_noted (in_part {s = s} b x o) h = let y = apart s (part_noted x h) in opens_noted s.stmt b y.begin y.next o y.parts
  part_noted (in_turn {s = s} k b x e n) h = let y = apart s (part_noted x h) in turns_noted s.stmt b y.begin y.next (subst (λ l. IsLoop l b) (sym e) refl) y.parts
