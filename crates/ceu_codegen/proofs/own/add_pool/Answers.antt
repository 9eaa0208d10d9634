use Rattle.std.proofs.Common.{◌≡◌, sym, ap, ◌∙◌, ℕ, List, [], ◌∷◌, ◌++◌}
use Rattle.ceu_tree.specs.declared.kernel.KKind.{KKind}
use Rattle.ceu_code.specs.declared.instr.Instr.TheVariants as instr
use Rattle.ceu_asm.specs.declared.line.Line.{Line}
use Rattle.ceu_shape.specs.Plans.{Plan}
use Rattle.ceu_shape.specs.Words.{plain}
use Rattle.ceu_shape.specs.Searches.{kernel_pools, pool_row}
use Rattle.ceu_shape.specs.Shape.{pool_line}
use Rattle.ceu_codegen.specs.Conditions.{planned}
use Rattle.ceu_codegen.specs.Pools.{row_among}
use Rattle.ceu_codegen.proofs.Collected.{row_is}
use Rattle.ceu_codegen.proofs.Walks.{on_ok, with_lines}
use Rattle.ceu_codegen.proofs.own.add_pool.Goals as goal

pub returns-in-Pool : goal.returns-in-Pool
returns-in-Pool g c =
    let plan : Plan = planned (g.P.Places.planned c.args.places.now) c.args.gates.now in
    let K = c.args.kernel.now in
    let old = c.args.sheet.now in
    let slot = c.args.decl.now.slot in
    let lines : ℕ → ℕ → List Line = λ (a r : ℕ). old.lines ++ (plain (instr.MakePool a c.in-Pool.number r c.args.first) ∷ []) in
    let row : c.row_of-row.result ≡ pool_row K slot = c.row_of-row.ensures ∙ ap (row_among slot) c.requires.ready.pools ∙ row_is slot (kernel_pools K) in
    on_ok c.add.result (λ e. e ∙ ap (λ (a : ℕ). with_lines old (lines a c.row_of-row.result)) c.offset-offset.ensures
    ∙ ap (λ (r : ℕ). with_lines old (lines (plan.offset slot) r)) row
    ∙ ap (λ (k : KKind). with_lines old (old.lines ++ pool_line plan K c.args.first slot k)) (sym c.in-Pool.is)) c.add.ensures.ok
