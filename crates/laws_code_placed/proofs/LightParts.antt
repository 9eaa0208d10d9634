-- How many bytes, labels and positions the lines of a kernel take, by its weight.
use Rattle.std.proofs.Common.{◌≡◌, refl, ℕ, zero, suc, ◌+◌, ◌*◌, ◌≤◌, max, List, [], ◌∷◌, ◌++◌, length, Option, Some, None, arith}
use Rattle.ceu_base.specs.declared.kinds.Pos.{Pos}
use Rattle.ceu_base.specs.declared.kinds.Ty.{Ty}
use Rattle.ceu_base.specs.declared.kinds.Ty.TheVariants as ty
use Rattle.ceu_tree.specs.declared.kernel.Kernel.{Kernel}
use Rattle.ceu_tree.specs.declared.kernel.KCode.{KCode}
use Rattle.ceu_tree.specs.declared.kernel.KDecl.{KDecl}
use Rattle.ceu_tree.specs.declared.kernel.KKind.{KKind}
use Rattle.ceu_tree.specs.declared.kernel.KKind.TheVariants as kind
use Rattle.ceu_tree.specs.declared.kernel.KExp.{KExp}
use Rattle.ceu_tree.specs.declared.kernel.KLoop.{KLoop}
use Rattle.ceu_tree.specs.declared.kernel.KLoop.TheVariants as turns
use Rattle.ceu_tree.specs.declared.kernel.KBlock.{KBlock, KBlock', Row_of-KNode, end_of-KNode, more_of-KNode}
use Rattle.ceu_tree.specs.declared.kernel.KArm.{KArm, KArm'}
use Rattle.ceu_tree.specs.declared.kernel.KStmt.{KStmt, Row_of-KArm, end_of-KArm, more_of-KArm, Row_of-KBlock, end_of-KBlock, more_of-KBlock, Assign, Out, Emit, AwaitTime, AwaitCode, Spawn, Async, Finalize, Do, Escape, If', Loop, Par'}
use Rattle.ceu_tree.specs.Greatest.{total}
use Rattle.ceu_tree.specs.Needs.{finalizers, nodes_finalizers}
use Rattle.ceu_tree.specs.Weight.{exp_count, exp_weight, weight_if, loop_weight, stmt_weight, block_weight, arm_weight, nodes_weight, arms_weight, blocks_weight, code_weight, weight}
use Rattle.ceu_code.specs.declared.instr.Instr.TheVariants as instr
use Rattle.ceu_asm.specs.declared.line.Line.{Line}
use Rattle.ceu_asm.specs.Lines.{code_size}
use Rattle.ceu_shape.specs.Plans.{Plan, own_label, end_label}
use Rattle.ceu_shape.specs.Pieces.{Draft, both, nothing, text}
use Rattle.ceu_shape.specs.Words.{mark, goto, plain}
use Rattle.ceu_shape.specs.Searches.{node_of_block}
use Rattle.ceu_shape.specs.Expressions.{exp_draft}
use Rattle.ceu_shape.specs.Shape.{count_if, arm_count, ends_count, expression_count, branch_nodes, labels_of, node_draft, exp_part, exp_part_if, exp_parts, turn_parts, pool_gates, pool_line, pool_lines, own_gates, move_lines, block_begin, abort_own, block_end, with_parts, to_end, parts_draft, block_draft, arm_parts, nodes_draft, arms_parts, blocks_parts, zero_given, body_draft, program_draft, code_draft, codes_draft, kernel_draft}
use Rattle.ceu_shape.proofs.Short.{size_append, exp_tight}
use Rattle.ceu_shape.proofs.Expressed.{exp_small}
use Rattle.laws_code_placed.proofs.Light.{Light, light_text, light_nothing, light_both, light_as, light_to}
use Rattle.laws_code_placed.proofs.LightStatements.{heads, own_bytes, node_light}

-- how many statements a list has
abbrev pub row_count : {n : _} → Row_of-KNode n → ℕ
row_count end_of-KNode = 0
row_count (more_of-KNode n p s rest) = suc (row_count rest)

-- the declarations and statements of a block
abbrev pub things : KBlock → ℕ
things (KBlock' n ds _ list) = length ds + row_count list

finalizer_bytes : (s : KStmt) → own_bytes s + 8 * finalizers s ≤ 33
finalizer_bytes (Finalize b) = omega arith
finalizer_bytes _ = omega arith

module _ (P : Plan) (K : Kernel) (number : Pos → ℕ) where
  -- ---- expressions that are parts

  exp_part_light : (begin : ℕ) (e : KExp) (fresh : ℕ) → Light number (exp_part P K begin e) fresh 3 (exp_weight e) 2 (exp_weight e) (exp_weight e)
  exp_part_light begin e fresh =
      let d : Draft = exp_draft P.offset e in
      let s = exp_small P.offset e in
      let tight = exp_tight P.offset e number fresh in
      let labels = s.labels fresh in
      let positions = s.positions fresh in
      let own : Light number d fresh 4 (14 * exp_count e) 0 (2 * exp_count e) (exp_count e) = record { bytes_few = tight; labels_few = omega (arith, labels); places_few = positions } in
      light_to number (text (mark begin ∷ [])) (both d (text (goto (begin + 1) ∷ []))) fresh 0 0 0 0 0 (4 + 0) (14 * exp_count e + 3) (0 + 0) (2 * exp_count e + 0) (exp_count e + 0) 3 (exp_weight e) 2 (exp_weight e) (exp_weight e)
      (omega (arith, tight)) (omega (arith, tight)) (omega arith)
      (light_text number (mark begin ∷ []) fresh 0 (omega arith))
      (light_both number d (text (goto (begin + 1) ∷ [])) fresh 4 (14 * exp_count e) 0 (2 * exp_count e) (exp_count e) 0 3 0 0 0 own (light_text number (goto (begin + 1) ∷ []) (d fresh).next 3 (omega arith)))

  exp_parts_light : (begin : ℕ) (es : List KExp) (fresh : ℕ) → Light number (exp_parts P K begin es) fresh (3 * length es) (total exp_weight es) (2 * length es) (total exp_weight es) (total exp_weight es)
  exp_parts_light begin [] fresh = light_nothing number fresh
  exp_parts_light begin (e ∷ es) fresh =
      let w : ℕ = total exp_weight es in
      let x : ℕ = exp_weight e in
      light_to number (exp_part P K begin e) (exp_parts P K (begin + 2) es) fresh 3 x 2 x x (3 * length es) w (2 * length es) w w (3 * suc (length es)) (x + w) (2 * suc (length es)) (x + w) (x + w)
      (omega arith) (omega arith) (omega arith) (exp_part_light begin e fresh) (exp_parts_light (begin + 2) es (exp_part P K begin e fresh).next)

  exp_if_light : (begin : ℕ) (e : Option KExp) (fresh : ℕ) → Light number (exp_part_if P K begin e) fresh (3 * count_if e) (weight_if e) (2 * count_if e) (weight_if e) (weight_if e)
  exp_if_light begin None fresh = light_nothing number fresh
  exp_if_light begin (Some e) fresh = exp_part_light begin e fresh

  turns_light : (begin : ℕ) (k : KLoop) (fresh : ℕ) → Light number (turn_parts P K begin k) fresh (3 * ends_count k) (loop_weight k) (2 * ends_count k) (loop_weight k) (loop_weight k)
  turns_light begin turns.Free fresh = light_nothing number fresh
  turns_light begin (turns.Times slot n) fresh = light_nothing number fresh
  turns_light begin (turns.Range i next end open_a a b open_b) fresh =
      let x : ℕ = exp_weight a in
      let y : ℕ = exp_weight b in
      light_to number (exp_part P K begin a) (exp_part P K (begin + 2) b) fresh 3 x 2 x x 3 y 2 y y 6 (48 + x + y) 4 (48 + x + y) (48 + x + y)
      (omega arith) (omega arith) (omega arith) (exp_part_light begin a fresh) (exp_part_light (begin + 2) b (exp_part P K begin a fresh).next)

  -- ---- around a block's statements: 8 bytes where it has finalizers or pools, and 9 for each pool

  move_size : {n : _} (node gates : ℕ) (list : Row_of-KNode n) → code_size (move_lines P K node gates list) + code_size (abort_own P K node gates) ≤ 8
  move_size node zero list = omega arith
  move_size node (suc g) end_of-KNode = omega arith
  move_size node (suc g) (more_of-KNode m p s rest) = omega arith

  no_move : {n : _} (node gates : ℕ) (list : Row_of-KNode n) → gates ≡ 0 → code_size (move_lines P K node gates list) + code_size (abort_own P K node gates) ≤ 0
  no_move node zero list e = omega arith
  no_move node (suc g) list e = absurd (omega arith)

  own_size : {n : _} (node : ℕ) (ds : List KDecl) (list : Row_of-KNode n) →
      code_size (move_lines P K node (own_gates P K (nodes_finalizers list) ds) list) + code_size (abort_own P K node (own_gates P K (nodes_finalizers list) ds)) ≤ 8 * nodes_finalizers list + 8 * length ds
  own_size node [] list = go (nodes_finalizers list) refl
    where
      go : (f : ℕ) → nodes_finalizers list ≡ f →
          code_size (move_lines P K node (own_gates P K (nodes_finalizers list) []) list) + code_size (abort_own P K node (own_gates P K (nodes_finalizers list) [])) ≤ 8 * nodes_finalizers list + 8 * 0
      go zero e = let h = no_move node (own_gates P K (nodes_finalizers list) []) list (omega (arith, e)) in omega (arith, h)
      go (suc f) e = let h = move_size node (own_gates P K (nodes_finalizers list) []) list in omega (arith, h, e)
  own_size node (d ∷ ds) list = let h = move_size node (own_gates P K (nodes_finalizers list) (d ∷ ds)) list in omega (arith, h)

  pool_size : (first slot : ℕ) (k : KKind) (ls : List Line) → code_size (pool_line P K first slot k ++ ls) ≤ 9 + code_size ls
  pool_size first slot (kind.Var t) ls = omega arith
  pool_size first slot (kind.Alias c) ls = omega arith
  pool_size first slot (kind.Pool n c) ls = omega arith

  pools_size : (first : ℕ) (ds : List KDecl) → code_size (pool_lines P K first ds) ≤ 9 * length ds
  pools_size first [] = omega arith
  pools_size first (d ∷ ds) = let rest : List Line = pool_lines P K (first + pool_gates P K d.kind) ds in omega (arith, pool_size first d.slot d.kind rest, pools_size (first + pool_gates P K d.kind) ds)

  around_light : {n : _} (node : ℕ) (ds : List KDecl) (list : Row_of-KNode n) (d : Draft) (w fresh : ℕ) → ((f : ℕ) → Light number d f (12 * row_count list + 8 * nodes_finalizers list) w 0 w w) →
      Light number (both (text (mark (own_label node) ∷ block_begin P K node ds list)) (both d (text (block_end P K node ds list)))) fresh (12 * (length ds + row_count list)) (48 * length ds + w) 0 (48 * length ds + w) (48 * length ds + w)
  around_light node ds list d w fresh h =
      let f : ℕ = nodes_finalizers list in
      let r : ℕ = row_count list in
      let moves : List Line = move_lines P K node (own_gates P K f ds) list in
      let pools : List Line = pool_lines P K (P.first node + f) ds in
      let first : List Line = mark (own_label node) ∷ block_begin P K node ds list in
      let last : List Line = block_end P K node ds list in
      let all : code_size first + code_size last ≤ 8 * f + 17 * length ds = omega (arith, own_size node ds list, pools_size (P.first node + f) ds, size_append moves pools) in
      light_to number (text first) (both d (text last)) fresh 0 (code_size first) 0 0 0 (12 * r + 8 * f + 0) (w + code_size last) (0 + 0) (w + 0) (w + 0) (12 * (length ds + r)) (48 * length ds + w) 0 (48 * length ds + w) (48 * length ds + w)
      (omega (arith, all)) (omega arith) (omega arith)
      (light_text number first fresh (code_size first) (omega arith))
      (light_both number d (text last) fresh (12 * r + 8 * f) w 0 w w 0 (code_size last) 0 0 0 (h fresh) (light_text number last (d fresh).next (code_size last) (omega arith)))

  to_end_light : (b : KBlock) (d : Draft) (fresh s w l q : ℕ) → Light number d fresh s w 0 l q → Light number (to_end P K b d) fresh 0 (w + 3) 0 l q
  to_end_light b d fresh s w l q h =
      let g : List Line = goto (end_label (node_of_block b)) ∷ [] in
      light_to number d (text g) fresh s w 0 l q 0 3 0 0 0 0 (w + 3) 0 l q (omega arith) (omega arith) (omega arith) h (light_text number g (d fresh).next 3 (omega arith))

  pub whole_light : (n : ℕ) (p : Pos) (s : KStmt) (parts : ℕ → Draft) (w : ℕ) →
      ((begin fresh : ℕ) → Light number (parts begin) fresh (3 * expression_count s + 45 * heads s) (w + 3) (2 * expression_count s + heads s) w w) →
      (fresh : ℕ) → Light number (with_parts P K n p s parts) fresh (12 + 8 * finalizers s) (48 + w) 0 (48 + w) (48 + w)
  whole_light n p s parts w h fresh =
      let c : ℕ = expression_count s in
      let first : ℕ = fresh + 2 * c in
      let a : Draft = node_draft P K n p s (labels_of fresh n s) in
      let e : List Line = mark (end_label n) ∷ [] in
      let x : ℕ = 3 * c + 45 * heads s + own_bytes s in
      let own = finalizer_bytes s in
      let all = light_to number a (both (parts fresh) (text e)) first 0 x 0 (heads s + 2) 1 (3 * c + 45 * heads s + 0) (w + 3 + 0) (2 * c + heads s + 0) (w + 0) (w + 0) (12 + 8 * finalizers s) (48 + w) (2 * c) (48 + w) (48 + w)
      (omega (arith, own)) (omega arith) (omega arith)
      (node_light P K number n p s (labels_of fresh n s) first)
      (light_both number (parts fresh) (text e) (a first).next (3 * c + 45 * heads s) (w + 3) (2 * c + heads s) w w 0 0 0 0 0 (h fresh (a first).next) (light_text number e (parts fresh (a first).next).next 0 (omega arith))) in
      record { bytes_few = all.bytes_few; labels_few = omega (arith, all.labels_few); places_few = all.places_few }

  alone : (c w : ℕ) (d : Draft) (fresh : ℕ) → Light number d fresh (3 * c) w (2 * c) w w → Light number d fresh (3 * c + 45 * 0) (w + 3) (2 * c + 0) w w
  alone c w d fresh h = light_as number d fresh (3 * c) w (2 * c) w w (3 * c + 45 * 0) (w + 3) (2 * c + 0) w w (omega arith) (omega arith) (omega arith) h

  mutual
    unfolding parts_draft stmt_weight nodes_finalizers

    pub parts_light : (s : KStmt) (begin fresh : ℕ) → Light number (parts_draft P K s begin) fresh (3 * expression_count s + 45 * heads s) (stmt_weight s + 3) (2 * expression_count s + heads s) (stmt_weight s) (stmt_weight s)
    parts_light (Assign l e) begin fresh = alone 1 (exp_weight e) (exp_part P K begin e) fresh (exp_part_light begin e fresh)
    parts_light (Out k e) begin fresh = alone (count_if e) (weight_if e) (exp_part_if P K begin e) fresh (exp_if_light begin e fresh)
    parts_light (Emit k e) begin fresh = alone (count_if e) (weight_if e) (exp_part_if P K begin e) fresh (exp_if_light begin e fresh)
    parts_light (AwaitTime e u t) begin fresh = alone 1 (exp_weight e) (exp_part P K begin e) fresh (exp_part_light begin e fresh)
    parts_light (AwaitCode c es f t) begin fresh = alone (length es) (total exp_weight es) (exp_parts P K begin es) fresh (exp_parts_light begin es fresh)
    parts_light (Spawn c es p a) begin fresh = alone (length es) (total exp_weight es) (exp_parts P K begin es) fresh (exp_parts_light begin es fresh)
    parts_light (Escape m e) begin fresh = alone (count_if e) (weight_if e) (exp_part_if P K begin e) fresh (exp_if_light begin e fresh)
    parts_light (Async b) begin fresh = to_end_light b (block_draft P K b) fresh _ (block_weight b) (block_weight b) (block_weight b) (block_light b fresh)
    parts_light (Finalize b) begin fresh = to_end_light b (block_draft P K b) fresh _ (block_weight b) (block_weight b) (block_weight b) (block_light b fresh)
    parts_light (Do t b) begin fresh = to_end_light b (block_draft P K b) fresh _ (block_weight b) (block_weight b) (block_weight b) (block_light b fresh)
    parts_light (If' x arms last) begin fresh =
        let c : ℕ = arm_count arms in
        let w : ℕ = arms_weight arms in
        let v : ℕ = block_weight last in
        light_to number (arms_parts P K arms begin) (to_end P K last (block_draft P K last)) fresh (48 * c) w (3 * c) w w 0 (v + 3) 0 v v (3 * c + 45 * c) (w + v + 3) (2 * c + c) (w + v) (w + v)
        (omega arith) (omega arith) (omega arith)
        (arms_light arms begin fresh) (to_end_light last (block_draft P K last) (arms_parts P K arms begin fresh).next _ v v v (block_light last (arms_parts P K arms begin fresh).next))
    parts_light (Loop k b) begin fresh =
        let c : ℕ = ends_count k in
        let w : ℕ = loop_weight k in
        let v : ℕ = block_weight b in
        light_to number (turn_parts P K begin k) (to_end P K b (block_draft P K b)) fresh (3 * c) w (2 * c) w w 0 (v + 3) 0 v v (3 * c + 45 * 0) (w + v + 3) (2 * c + 0) (w + v) (w + v)
        (omega arith) (omega arith) (omega arith)
        (turns_light begin k fresh) (to_end_light b (block_draft P K b) (turn_parts P K begin k fresh).next _ v v v (block_light b (turn_parts P K begin k fresh).next))
    parts_light (Par' k slot x bs) begin fresh =
        let c : ℕ = length (branch_nodes bs) in
        let w : ℕ = blocks_weight bs in
        light_as number (blocks_parts P K bs) fresh (45 * c) w c w w (3 * 0 + 45 * c) (w + 3) (2 * 0 + c) w w (omega arith) (omega arith) (omega arith) (blocks_light bs fresh)
    parts_light _ begin fresh = light_as number nothing fresh 0 0 0 0 0 0 (0 + 3) 0 0 0 (omega arith) (omega arith) (omega arith) (light_nothing number fresh)

    pub block_light : (b : KBlock) (fresh : ℕ) → Light number (block_draft P K b) fresh (12 * things b) (block_weight b) 0 (block_weight b) (block_weight b)
    block_light (KBlock' n ds x list) fresh = around_light n ds list (nodes_draft P K list) (nodes_weight list) fresh (λ f. nodes_light list f)

    nodes_light : {n : _} (rows : Row_of-KNode n) (fresh : ℕ) → Light number (nodes_draft P K rows) fresh (12 * row_count rows + 8 * nodes_finalizers rows) (nodes_weight rows) 0 (nodes_weight rows) (nodes_weight rows)
    nodes_light end_of-KNode fresh = light_nothing number fresh
    nodes_light (more_of-KNode n p s rest) fresh =
        let w : ℕ = 48 + stmt_weight s in
        let v : ℕ = nodes_weight rest in
        light_to number (with_parts P K n p s (parts_draft P K s)) (nodes_draft P K rest) fresh (12 + 8 * finalizers s) w 0 w w (12 * row_count rest + 8 * nodes_finalizers rest) v 0 v v
        (12 * suc (row_count rest) + 8 * (finalizers s + nodes_finalizers rest)) (w + v) 0 (w + v) (w + v)
        (omega arith) (omega arith) (omega arith)
        (whole_light n p s (parts_draft P K s) (stmt_weight s) (λ begin f. parts_light s begin f) fresh) (nodes_light rest (with_parts P K n p s (parts_draft P K s) fresh).next)

    arm_light : (a : KArm) (begin fresh : ℕ) → Light number (arm_parts P K a begin) fresh 48 (arm_weight a) 3 (arm_weight a) (arm_weight a)
    arm_light (KArm' c b) begin fresh =
        let x : ℕ = exp_weight c in
        let v : ℕ = block_weight b in
        light_to number (exp_part P K begin c) (to_end P K b (block_draft P K b)) fresh 3 x 2 x x 0 (v + 3) 0 v v 48 (48 + x + v) 3 (48 + x + v) (48 + x + v)
        (omega arith) (omega arith) (omega arith)
        (exp_part_light begin c fresh) (to_end_light b (block_draft P K b) (exp_part P K begin c fresh).next _ v v v (block_light b (exp_part P K begin c fresh).next))

    arms_light : {n : _} (rows : Row_of-KArm n) (begin fresh : ℕ) → Light number (arms_parts P K rows begin) fresh (48 * arm_count rows) (arms_weight rows) (3 * arm_count rows) (arms_weight rows) (arms_weight rows)
    arms_light end_of-KArm begin fresh = light_nothing number fresh
    arms_light (more_of-KArm a rest) begin fresh =
        let x : ℕ = arm_weight a in
        let v : ℕ = arms_weight rest in
        let c : ℕ = arm_count rest in
        light_to number (arm_parts P K a begin) (arms_parts P K rest (begin + 2)) fresh 48 x 3 x x (48 * c) v (3 * c) v v (48 * suc c) (x + v) (3 * suc c) (x + v) (x + v)
        (omega arith) (omega arith) (omega arith) (arm_light a begin fresh) (arms_light rest (begin + 2) (arm_parts P K a begin fresh).next)

    blocks_light : {n : _} (rows : Row_of-KBlock n) (fresh : ℕ) → Light number (blocks_parts P K rows) fresh (45 * length (branch_nodes rows)) (blocks_weight rows) (length (branch_nodes rows)) (blocks_weight rows) (blocks_weight rows)
    blocks_light end_of-KBlock fresh = light_nothing number fresh
    blocks_light (more_of-KBlock b rest) fresh =
        let x : ℕ = block_weight b in
        let v : ℕ = blocks_weight rest in
        let c : ℕ = length (branch_nodes rest) in
        light_to number (to_end P K b (block_draft P K b)) (blocks_parts P K rest) fresh 0 (x + 3) 0 x x (45 * c) v c v v (45 * suc c) (48 + x + v) (suc c) (48 + x + v) (48 + x + v)
        (omega arith) (omega arith) (omega arith)
        (to_end_light b (block_draft P K b) fresh _ x x x (block_light b fresh)) (blocks_light rest (to_end P K b (block_draft P K b) fresh).next)

  -- ---- bodies

  zero_size : (t : Ty) (ls : List Line) → code_size (zero_given P K t ++ ls) ≤ 11 + code_size ls
  zero_size ty.None ls = omega arith
  zero_size ty.Bool ls = omega arith
  zero_size ty.U8 ls = omega arith
  zero_size ty.S8 ls = omega arith
  zero_size ty.U16 ls = omega arith
  zero_size ty.S16 ls = omega arith
  zero_size ty.U32 ls = omega arith
  zero_size ty.S32 ls = omega arith
  zero_size ty.U64 ls = omega arith
  zero_size ty.S64 ls = omega arith

  pub body_light : (b : KBlock) (t : Ty) (end : List Line) → code_size end ≤ 1 → (fresh : ℕ) →
      Light number (body_draft P K b (zero_given P K t) end) fresh (12 * things b) (block_weight b + 12) 0 (block_weight b) (block_weight b)
  body_light b t end one fresh =
      let w : ℕ = block_weight b in
      let ls : List Line = zero_given P K t ++ (mark (end_label (node_of_block b)) ∷ end) in
      light_to number (block_draft P K b) (text ls) fresh (12 * things b) w 0 w w 0 12 0 0 0 (12 * things b) (w + 12) 0 w w (omega arith) (omega arith) (omega arith)
      (block_light b fresh) (light_text number ls (block_draft P K b fresh).next 12 (omega (arith, zero_size t (mark (end_label (node_of_block b)) ∷ end), one)))

  codes_light : (cs : List KCode) (fresh : ℕ) → Light number (codes_draft P K cs) fresh (36 * length cs) (total code_weight cs) 0 (total code_weight cs) (total code_weight cs)
  codes_light [] fresh = light_nothing number fresh
  codes_light (c ∷ cs) fresh =
      let w : ℕ = block_weight c.body in
      let x : ℕ = code_weight c in
      let v : ℕ = total code_weight cs in
      light_to number (code_draft P K c) (codes_draft P K cs) fresh (12 * things c.body) (w + 12) 0 w w (36 * length cs) v 0 v v (36 * suc (length cs)) (x + v) 0 (x + v) (x + v)
      (omega arith) (omega arith) (omega arith)
      (body_light c.body c.result (plain instr.Return ∷ []) (omega arith) fresh) (codes_light cs (code_draft P K c fresh).next)

  no_codes : (cs : List KCode) → length cs ≡ 0 → total code_weight cs ≡ 0
  no_codes [] e = refl
  no_codes (c ∷ cs) e = absurd (omega arith)

  paid : (w t v c z : ℕ) → (t ≡ 0 → w ≡ 0) → (c ≡ 0 → v ≡ 0) → w + 12 + v + 0 ≤ max (w + v + z) 12 + (12 * t + 36 * c)
  paid w zero v zero z f g = omega (arith, f refl, g refl)
  paid w zero v (suc c) z f g = omega (arith, f refl)
  paid w (suc t) v c z f g = omega arith

  no_rows : {n : _} (rows : Row_of-KNode n) → row_count rows ≡ 0 → nodes_weight rows ≡ 0
  unfolding nodes_weight
  no_rows end_of-KNode e = refl
  no_rows (more_of-KNode m p s rest) e = absurd (omega arith)

  no_things : (b : KBlock) → things b ≡ 0 → block_weight b ≡ 0
  unfolding block_weight
  no_things (KBlock' n ds x list) e = omega (arith, no_rows list (omega arith), e)

  -- the whole: where there is nothing, its 12 last bytes
  pub kernel_light : (fresh : ℕ) → Light number (kernel_draft P K) fresh 0 (max (weight K) 12) 0 (weight K) (weight K)
  unfolding weight
  kernel_light fresh =
      let w : ℕ = block_weight K.body in
      let t : ℕ = things K.body in
      let v : ℕ = total code_weight K.codes in
      let c : ℕ = length K.codes in
      let z : ℕ = 48 * (length K.inputs + length K.outputs + length K.events) in
      light_to number (program_draft P K K.body) (codes_draft P K K.codes) fresh (12 * t) (w + 12) 0 w w (36 * c) v 0 v v 0 (max (w + v + z) 12) 0 (w + v + z) (w + v + z)
      (paid w t v c z (no_things K.body) (no_codes K.codes)) (omega arith) (omega arith)
      (body_light K.body ty.S32 (plain instr.End ∷ []) (omega arith) fresh) (codes_light K.codes (program_draft P K K.body fresh).next)
