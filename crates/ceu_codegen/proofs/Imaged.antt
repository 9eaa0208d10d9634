-- The image of a kernel, from the tables that are made and the lines that are assembled.
use Rattle.std.proofs.Common.{◌≡◌, refl, ap, ◌∙◌, ℕ, ◌<◌, ◌≤◌, List, [], ◌∷◌, ◌++◌, length, map, arith}
use Rattle.std.specs.Prelude.{nat_lt}
use Rattle.std.specs.List.{AllByRecursion}
use Rattle.std.proofs.lemmas.Bool.{lt-ltb}
use Rattle.ceu_base.specs.declared.kinds.Pos.{Pos}
use Rattle.ceu_base.specs.declared.kinds.Port.{Port}
use Rattle.ceu_tree.specs.declared.kernel.Kernel.{Kernel}
use Rattle.ceu_tree.specs.declared.kernel.KCode.{KCode}
use Rattle.ceu_tree.specs.Cut.{cut}
use Rattle.ceu_tree.specs.Depth.{depth}
use Rattle.ceu_tree.specs.Needs.{gates}
use Rattle.ceu_tree.specs.Numbering.{block_nodes, codes_nodes}
use Rattle.ceu_tree.specs.Proper.{Proper}
use Rattle.ceu_code.specs.declared.image.Image.{Image}
use Rattle.ceu_code.specs.declared.image.CodeRow.{CodeRow}
use Rattle.ceu_asm.specs.declared.line.Line.{Line}
use Rattle.ceu_asm.specs.Lines.{marks, code_size, assembled}
use Rattle.ceu_shape.specs.Plans.{Plan, own_label}
use Rattle.ceu_shape.specs.Pieces.{numbered}
use Rattle.ceu_shape.specs.Searches.{PoolRow, node_of_block, kernel_pools}
use Rattle.ceu_shape.specs.Shape.{first_fresh, kernel_piece, shape_lines, shape_positions, code_rows, pool_code, shape}
use Rattle.laws_code_placed.proofs.MarkedParts.{kernel_adds}
use Rattle.laws_code_placed.proofs.Whole.{mark_each}
use Rattle.ceu_low_par.specs.Conditions.{AreNodes}
use Rattle.ceu_codegen.specs.declared.pools.Pool.{Pool}
use Rattle.ceu_codegen.specs.Images.{CodesMarked}
use Rattle.ceu_codegen.specs.Pools.{as_pool}
use Rattle.ceu_codegen.proofs.Each.{are_append}
use Rattle.ceu_codegen.proofs.Fits.{block_below}
use Rattle.ceu_codegen.proofs.Searched.{RowsFit}
use Rattle.ceu_codegen.proofs.Whole.{pick}

-- a number below the limit stays
pub cut_small : (n : ℕ) → n ≤ 65535 → cut n ≡ n
cut_small n h = grind arith

-- ---- the labels of nodes are marked

labels_grow : (P : Plan) (K : Kernel) → first_fresh K ≤ (kernel_piece P K).next
unfolding kernel_piece
labels_grow P K = (kernel_adds P K 0 (numbered []) (first_fresh K)).grows

pub node_marked : (P : Plan) (K : Kernel) → Proper K → (node : ℕ) → node < length (block_nodes K.body ++ codes_nodes K.codes) → marks (own_label node) (shape_lines P K) ≡ 1
node_marked P K ok node below =
    let one : ℕ = 1 in
    let none : ℕ = 0 in
    let low : own_label node < (kernel_piece P K).next = omega (arith, labels_grow P K, below) in
    mark_each P K ok (own_label node) ∙ pick (nat_lt (own_label node) (kernel_piece P K).next) one none (lt-ltb (own_label node) (kernel_piece P K).next low)

pub codes_marked : (lines : List Line) (nodes : ℕ) (cs : List KCode) → nodes ≤ 65535 → code_size lines ≤ 65535 → ((node : ℕ) → node < nodes → marks (own_label node) lines ≡ 1) → AreNodes nodes (codes_nodes cs) → CodesMarked lines nodes cs
codes_marked lines nodes [] few fits marked low = tt
codes_marked lines nodes (c ∷ cs) few fits marked low =
    let x = are_append nodes (block_nodes c.body) (codes_nodes cs) low in
    let here = block_below nodes c.body x.0 in
    (record { node = here; few = few; marked = marked (node_of_block c.body) here; fits = fits }, codes_marked lines nodes cs few fits marked x.1)

-- ---- the codes of pools

pub codes_are : (rs : List PoolRow) → map (λ (pool : Pool). pool.code) (map as_pool rs) ≡ map pool_code rs
codes_are [] = refl
codes_are (r ∷ rs) = ap (λ (l : List ℕ). r.code ∷ l) (codes_are rs)

pub codes_small : (K : Kernel) (rs : List PoolRow) → length K.codes ≤ 65535 → RowsFit K rs → AllByRecursion (λ (pool : Pool). pool.code ≤ 65535) (map as_pool rs)
codes_small K [] few h = tt
codes_small K (r ∷ rs) few h = (omega (arith, few, h.0.1), codes_small K rs few h.1)

-- ---- the whole

pub image_done : (P : Plan) (K : Kernel) (turns levels : ℕ) (d : ℕ) (g : ℕ) (s : ℕ) (ins : List Port) (outs : List Port) (cs : List CodeRow) (ps : List ℕ) (qs : List Pos) (bytes : List ℕ) →
    d ≡ depth K → g ≡ gates K → s ≡ P.total → ins ≡ K.inputs → outs ≡ K.outputs → cs ≡ code_rows P (shape_lines P K) 0 K.codes → ps ≡ map pool_code (kernel_pools K) → qs ≡ shape_positions P K → bytes ≡ assembled (shape_lines P K) →
    (let image : Image = record { turns = turns; levels = levels; depth = d; gates = g; slots = s; inputs = ins; outputs = outs; codes = cs; pools = ps; places = qs; code = bytes } in image) ≡ shape P K turns levels
unfolding shape
image_done P K turns levels d g s ins outs cs ps qs bytes e0 e1 e2 e3 e4 e5 e6 e7 e8 =
    ap (λ (x : ℕ). let image : Image = record { turns = turns; levels = levels; depth = x; gates = g; slots = s; inputs = ins; outputs = outs; codes = cs; pools = ps; places = qs; code = bytes } in image) e0
    ∙ ap (λ (x : ℕ). let image : Image = record { turns = turns; levels = levels; depth = depth K; gates = x; slots = s; inputs = ins; outputs = outs; codes = cs; pools = ps; places = qs; code = bytes } in image) e1
    ∙ ap (λ (x : ℕ). let image : Image = record { turns = turns; levels = levels; depth = depth K; gates = gates K; slots = x; inputs = ins; outputs = outs; codes = cs; pools = ps; places = qs; code = bytes } in image) e2
    ∙ ap (λ (x : List Port). let image : Image = record { turns = turns; levels = levels; depth = depth K; gates = gates K; slots = P.total; inputs = x; outputs = outs; codes = cs; pools = ps; places = qs; code = bytes } in image) e3
    ∙ ap (λ (x : List Port). let image : Image = record { turns = turns; levels = levels; depth = depth K; gates = gates K; slots = P.total; inputs = K.inputs; outputs = x; codes = cs; pools = ps; places = qs; code = bytes } in image) e4
    ∙ ap (λ (x : List CodeRow). let image : Image = record { turns = turns; levels = levels; depth = depth K; gates = gates K; slots = P.total; inputs = K.inputs; outputs = K.outputs; codes = x; pools = ps; places = qs; code = bytes } in image) e5
    ∙ ap (λ (x : List ℕ). let image : Image = record { turns = turns; levels = levels; depth = depth K; gates = gates K; slots = P.total; inputs = K.inputs; outputs = K.outputs; codes = code_rows P (shape_lines P K) 0 K.codes; pools = x; places = qs; code = bytes } in image) e6
    ∙ ap (λ (x : List Pos). let image : Image = record { turns = turns; levels = levels; depth = depth K; gates = gates K; slots = P.total; inputs = K.inputs; outputs = K.outputs; codes = code_rows P (shape_lines P K) 0 K.codes; pools = map pool_code (kernel_pools K); places = x; code = bytes } in image) e7
    ∙ ap (λ (x : List ℕ). let image : Image = record { turns = turns; levels = levels; depth = depth K; gates = gates K; slots = P.total; inputs = K.inputs; outputs = K.outputs; codes = code_rows P (shape_lines P K) 0 K.codes; pools = map pool_code (kernel_pools K); places = shape_positions P K; code = x } in image) e8
