-- Bodies, and the whole kernel, from what the calls of the generator add.
use Rattle.std.proofs.Common.{◌≡◌, sym, ap, subst, ◌∙◌, ℕ, ◌+◌, ◌*◌, ◌≤◌, List, [], ◌∷◌, ◌++◌, arith}
use Rattle.ceu_base.specs.declared.kinds.Pos.{Pos}
use Rattle.ceu_tree.specs.declared.kernel.Kernel.{Kernel}
use Rattle.ceu_tree.specs.declared.kernel.KCode.{KCode}
use Rattle.ceu_tree.specs.declared.kernel.KBlock.{KBlock, out-KBlock}
use Rattle.ceu_tree.specs.Greatest.{total}
use Rattle.ceu_tree.specs.Weight.{block_weight, code_weight, weight}
use Rattle.ceu_asm.specs.declared.line.Line.{Line}
use Rattle.ceu_asm.specs.Pages.{Page}
use Rattle.ceu_shape.specs.Plans.{Plan, end_label}
use Rattle.ceu_shape.specs.Pieces.{Added, text, numbered}
use Rattle.ceu_shape.specs.Words.{mark}
use Rattle.ceu_shape.specs.Searches.{node_of_block}
use Rattle.ceu_shape.specs.Shape.{block_draft, body_draft, code_draft, kernel_draft, first_fresh, kernel_piece, shape_lines, shape_positions}
use Rattle.ceu_shape.proofs.Adding.{added_text, added_both}
use Rattle.ceu_shape.proofs.Expressed.{IsSmall}
use Rattle.ceu_low_expr.specs.Conditions.{HasRoom}
use Rattle.ceu_codegen.proofs.Levels.{node_is}
use Rattle.ceu_codegen.proofs.Small.{block_small, small_then, small_more}
use Rattle.ceu_codegen.proofs.Walks.{with_lines, lined_both}

-- ---- a body

module _ (P : Plan) (K : Kernel) where
  pub body_added : (b : KBlock) (value : List Line) (e : Line) (l : ℕ) (s0 s1 s2 s3 s4 : Page) → Added s0 s1 (block_draft P K b) → s2 ≡ with_lines s1 (s1.lines ++ value) →
      l ≡ end_label (out-KBlock b).node → s3 ≡ with_lines s2 (s2.lines ++ mark l ∷ []) → s4 ≡ with_lines s3 (s3.lines ++ e ∷ []) → Added s0 s4 (body_draft P K b value (e ∷ []))
  body_added b value e l s0 s1 s2 s3 s4 inner given is marked ended =
      let label : l ≡ end_label (node_of_block b) = is ∙ ap (λ (n : ℕ). end_label n) (sym (node_is b)) in
      let m : List Line = mark (end_label (node_of_block b)) ∷ [] in
      let at : s3 ≡ with_lines s2 (s2.lines ++ m) = marked ∙ ap (λ (n : ℕ). with_lines s2 (s2.lines ++ mark n ∷ [])) label in
      let all = lined_both s1 s2 s4 value (m ++ (e ∷ [])) given (lined_both s2 s3 s4 m (e ∷ []) at ended) in
      added_both s0 s1 s4 (block_draft P K b) (text (value ++ (m ++ (e ∷ [])))) inner (added_text s1 s4 (value ++ (m ++ (e ∷ []))) all)

  pub body_small : (b : KBlock) (value end : List Line) → IsSmall (body_draft P K b value end) (block_weight b)
  body_small b value end = small_then (block_draft P K b) (value ++ ((mark (end_label (node_of_block b)) ∷ []) ++ end)) (block_weight b) (block_small P K b)

  pub code_small : (c : KCode) → IsSmall (code_draft P K c) (code_weight c)
  code_small c = small_more (code_draft P K c) (block_weight c.body) (code_weight c) (omega arith) (body_small c.body _ _)

-- ---- the kernel

pub weight_parts : (K : Kernel) → block_weight K.body + total code_weight K.codes ≤ weight K
unfolding weight
weight_parts K = omega arith

-- a sheet on which only labels are taken
abbrev pub fresh_page : ℕ → Page
fresh_page labels = record { lines = []; labels = labels; places = [] }

pub first_room : (K : Kernel) (s : Page) (labels : ℕ) → labels ≤ 65535 → weight K ≤ 65535 → s ≡ fresh_page (2 * labels) → HasRoom s (block_weight K.body + total code_weight K.codes)
first_room K s labels few small e =
    let all = weight_parts K in
    subst (λ (p : Page). HasRoom p (block_weight K.body + total code_weight K.codes)) (sym e) (record { labels = omega (arith, all, few, small); places = omega (arith, all, small) })

pub kernel_done : (P : Plan) (K : Kernel) (labels : ℕ) (s1 s3 : Page) → labels ≡ first_fresh K → s1 ≡ fresh_page labels → Added s1 s3 (kernel_draft P K) → (s3.lines ≡ shape_lines P K) × (s3.places ≡ shape_positions P K)
unfolding kernel_piece shape_positions shape_lines
kernel_done P K labels s1 s3 e is added =
    let h : Added (fresh_page (first_fresh K)) s3 (kernel_draft P K) = subst (λ (p : Page). Added p s3 (kernel_draft P K)) (is ∙ ap fresh_page e) added in
    let places : s3.places ≡ shape_positions P K = h.places in
    (h.lines [] ∙ ap (λ (ps : List Pos). (kernel_piece P K).lines (numbered ps)) places, places)
