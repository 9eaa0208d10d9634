-- A statement with its parts and a block, from what the calls of the generator add.
use Rattle.std.proofs.Common.{◌≡◌, sym, ap, subst, ◌∙◌, ℕ, ◌+◌, ◌*◌, ◌<◌, ◌≤◌, List, [], ◌∷◌, ◌++◌, arith}
use Rattle.ceu_tree.specs.declared.kernel.Kernel.{Kernel}
use Rattle.ceu_tree.specs.declared.kernel.KNode.{KNode}
use Rattle.ceu_tree.specs.declared.kernel.KBlock.{KBlock, out-KBlock}
use Rattle.ceu_tree.specs.declared.kernel.KStmt.{KStmt, Escape, Break, Continue}
use Rattle.ceu_tree.specs.Greatest.{total}
use Rattle.ceu_tree.specs.Weight.{stmt_weight, block_weight, node_weight}
use Rattle.ceu_tree.proofs.WeightLaws.{weight_of_block}
use Rattle.ceu_asm.specs.declared.line.Line.{Line}
use Rattle.ceu_asm.specs.declared.line.Labels.{Labels}
use Rattle.ceu_asm.specs.Pages.{Page}
use Rattle.ceu_shape.specs.Plans.{Plan, end_label}
use Rattle.ceu_shape.specs.Pieces.{Draft, Added, both, text}
use Rattle.ceu_shape.specs.Words.{mark, goto}
use Rattle.ceu_shape.specs.Searches.{node_of_block}
use Rattle.ceu_shape.specs.Shape.{expression_count, labels_of, node_draft, parts_draft, block_draft}
use Rattle.ceu_shape.proofs.Adding.{added_text, added_both, added_taking}
use Rattle.ceu_low_expr.specs.Conditions.{HasRoom}
use Rattle.ceu_low_flow.specs.Bounds.{arms_of}
use Rattle.ceu_low_par.specs.Conditions.{AreNodes}
use Rattle.ceu_codegen.specs.Conditions.{LeavesBelow}
use Rattle.ceu_codegen.specs.Rooms.{parts_room}
use Rattle.ceu_codegen.specs.Lists.{one_draft, node_list_draft, begin_list, end_list, branch_draft}
use Rattle.ceu_codegen.proofs.Levels.{node_is, by_lists, block_is}
use Rattle.ceu_codegen.proofs.Small.{stmt_needs, node_small}
use Rattle.ceu_codegen.proofs.Fresh.{labels_fresh, parts_fresh}
use Rattle.ceu_codegen.proofs.Walks.{with_lines, drafted, room_less, room_after, room_lined, room_taken}

-- ---- numbers below a bound

pub are_more : (m n : ℕ) (xs : List ℕ) → m ≤ n → AreNodes m xs → AreNodes n xs
are_more m n [] le h = tt
are_more m n (x ∷ xs) le h = (omega (arith, h.0, le), are_more m n xs le h.1)

pub leaves_more : (m n : ℕ) (s : KStmt) → m ≤ n → LeavesBelow m s → LeavesBelow n s
leaves_more m n (Escape k e) le h = omega arith
leaves_more m n (Break k) le h = omega arith
leaves_more m n (Continue k) le h = omega arith
leaves_more m n _ le h = tt

-- ---- a statement with its parts

module _ (P : Plan) (K : Kernel) where
  pub node_added : (x : KNode) (s0 s1 s2 s3 s4 : Page) (r : ℕ) (labels : Labels) → (0 < 2 * expression_count x.stmt → r ≡ s0.labels) → s1 ≡ record s0 { labels = s0.labels + 2 * expression_count x.stmt } →
      labels ≡ labels_of r x.node x.stmt → Added s1 s2 (node_draft P K x.node x.pos x.stmt labels) → Added s2 s3 (parts_draft P K x.stmt r) →
      s4 ≡ with_lines s3 (s3.lines ++ mark (end_label x.node) ∷ []) → Added s0 s4 (one_draft P K x)
  unfolding one_draft
  node_added x s0 s1 s2 s3 s4 r labels first given are own parts last =
      let from : 0 < expression_count x.stmt → r ≡ s0.labels = λ h. first (omega arith) in
      let f : ℕ → Draft = λ fresh. both (node_draft P K x.node x.pos x.stmt (labels_of fresh x.node x.stmt)) (both (parts_draft P K x.stmt fresh) (text (mark (end_label x.node) ∷ []))) in
      let a : Added s1 s2 (node_draft P K x.node x.pos x.stmt (labels_of s0.labels x.node x.stmt)) =
      subst (λ (l : Labels). Added s1 s2 (node_draft P K x.node x.pos x.stmt l)) (are ∙ labels_fresh x.node x.stmt r s0.labels from) own in
      let b : Added s2 s3 (parts_draft P K x.stmt s0.labels) = subst (λ (d : Draft). Added s2 s3 d) (parts_fresh P K x.stmt r s0.labels from) parts in
      added_taking s0 s1 s4 (2 * expression_count x.stmt) f given
      (added_both s1 s2 s4 (node_draft P K x.node x.pos x.stmt (labels_of s0.labels x.node x.stmt)) (both (parts_draft P K x.stmt s0.labels) (text (mark (end_label x.node) ∷ []))) a
      (added_both s2 s3 s4 (parts_draft P K x.stmt s0.labels) (text (mark (end_label x.node) ∷ [])) b (added_text s3 s4 (mark (end_label x.node) ∷ []) last)))

  -- room for its own lines and for its parts
  pub node_room : (s0 s1 : Page) (s : KStmt) → s1 ≡ record s0 { labels = s0.labels + 2 * expression_count s } → HasRoom s0 (48 + stmt_weight s) → HasRoom s1 ((1 + arms_of s) + parts_room s)
  node_room s0 s1 s given room = room_taken s0 s1 (expression_count s) (48 + stmt_weight s) ((1 + arms_of s) + parts_room s) (omega (arith, stmt_needs s)) given room

  pub own_room : (s0 s1 : Page) (s : KStmt) → s1 ≡ record s0 { labels = s0.labels + 2 * expression_count s } → HasRoom s0 (48 + stmt_weight s) → HasRoom s1 (1 + arms_of s)
  own_room s0 s1 s given room = room_less s1 (1 + arms_of s) ((1 + arms_of s) + parts_room s) (omega arith) (node_room s0 s1 s given room)

  pub rest_room : (x : KNode) (s0 s1 s2 : Page) (labels : Labels) → s1 ≡ record s0 { labels = s0.labels + 2 * expression_count x.stmt } → HasRoom s0 (48 + stmt_weight x.stmt) →
      Added s1 s2 (node_draft P K x.node x.pos x.stmt labels) → HasRoom s2 (parts_room x.stmt)
  rest_room x s0 s1 s2 labels given room own =
      room_after s1 s2 (node_draft P K x.node x.pos x.stmt labels) (1 + arms_of x.stmt) (parts_room x.stmt) ((1 + arms_of x.stmt) + parts_room x.stmt) (omega arith)
      (node_small P K x.node x.pos x.stmt labels) own (node_room s0 s1 x.stmt given room)

  -- ---- blocks

  pub block_added : (b : KBlock) (nodes : List KNode) (s0 s1 s2 s3 : Page) → nodes ≡ (out-KBlock b).list → s1 ≡ with_lines s0 (s0.lines ++ begin_list P K (out-KBlock b).node (out-KBlock b).decls (out-KBlock b).list) →
      Added s1 s2 (node_list_draft P K nodes) → s3 ≡ with_lines s2 (s2.lines ++ end_list P K (out-KBlock b).node (out-KBlock b).decls (out-KBlock b).list) → Added s0 s3 (block_draft P K b)
  block_added b nodes s0 s1 s2 s3 same begin inner last =
      let n = (out-KBlock b).node in
      let ds = (out-KBlock b).decls in
      let list = (out-KBlock b).list in
      let a : Added s1 s2 (node_list_draft P K list) = subst (λ (xs : List KNode). Added s1 s2 (node_list_draft P K xs)) same inner in
      drafted s0 s3 (by_lists P K n ds list) (block_draft P K b) (block_is P K b)
      (added_both s0 s1 s3 (text (begin_list P K n ds list)) (both (node_list_draft P K list) (text (end_list P K n ds list))) (added_text s0 s1 (begin_list P K n ds list) begin)
      (added_both s1 s2 s3 (node_list_draft P K list) (text (end_list P K n ds list)) a (added_text s2 s3 (end_list P K n ds list) last)))

  pub block_room : (b : KBlock) (nodes : List KNode) (s0 s1 : Page) (ls : List Line) → nodes ≡ (out-KBlock b).list → s1 ≡ with_lines s0 (s0.lines ++ ls) → HasRoom s0 (block_weight b) → HasRoom s1 (total node_weight nodes)
  block_room b nodes s0 s1 ls same begin room =
      let few : total node_weight nodes ≤ block_weight b = omega (arith, weight_of_block b, ap (total node_weight) same) in
      room_lined s0 s1 ls (total node_weight nodes) begin (room_less s0 (total node_weight nodes) (block_weight b) few room)

  pub branch_added : (b : KBlock) (s0 s1 s2 : Page) (l : Line) → Added s0 s1 (block_draft P K b) → l ≡ goto (end_label (out-KBlock b).node) → s2 ≡ with_lines s1 (s1.lines ++ l ∷ []) → Added s0 s2 (branch_draft P K b)
  branch_added b s0 s1 s2 l inner is last =
      let line : l ≡ goto (end_label (node_of_block b)) = is ∙ ap (λ (n : ℕ). goto (end_label n)) (sym (node_is b)) in
      added_both s0 s1 s2 (block_draft P K b) (text (goto (end_label (node_of_block b)) ∷ [])) inner
      (added_text s1 s2 (goto (end_label (node_of_block b)) ∷ []) (last ∙ ap (λ (x : Line). with_lines s1 (s1.lines ++ x ∷ [])) line))
