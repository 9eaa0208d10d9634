-- Each turn of a program of one trail ends within the longest run.
use Rattle.std.proofs.Common.{◌≡◌, ◌≤◌, ℕ, ◌+◌, ◌^◌, true, [], ◌∷◌, ◌++◌, None, arith}
use Rattle.std.proofs.Math.Nat.{pow-le-pow_right, le_trans}
use Rattle.std.proofs.lemmas.Bool.{and_parts}
use Rattle.std.proofs.lemmas.List.Elements.{Contains-append_left}
use Rattle.ceu_base.specs.declared.kinds.Ty.TheVariants as ty
use Rattle.ceu_tree.specs.declared.kernel.Kernel.{Kernel}
use Rattle.ceu_tree.specs.declared.kernel.KBlock.{out-KBlock}
use Rattle.ceu_tree.specs.Residual.{Program, Act}
use Rattle.ceu_tree.specs.Focus.{Focus}
use Rattle.ceu_tree.specs.World.{World}
use Rattle.ceu_tree.specs.Mentions.{outer_names_from}
use Rattle.ceu_tree.specs.Numbering.{counts_from, block_nodes, codes_nodes, is_numbered}
use Rattle.ceu_tree.specs.Proper.{BodyAim, body_scope, is_proper, block_ok, codes_ok}
use Rattle.ceu_tree.specs.Weight.{weight, block_weight}
use Rattle.ceu_tree.specs.Run.{Turning}
use Rattle.laws_meaning_basics.specs.Shape.{ConfigFits}
use Rattle.laws_meaning_basics.proofs.Static.{names_of, program_static}
use Rattle.ceu_paths.specs.Loops.{block_loops}
use Rattle.ceu_endings.specs.Counted.{Counted}
use Rattle.ceu_endings.specs.Ends.{longest_run, EndsTurns, TurnOver}
use Rattle.ceu_endings.proofs.Fine.{block_fine, block_cost}
use Rattle.ceu_endings.proofs.Rules.{counts_parts, block_counts, block_is}
use Rattle.ceu_endings.proofs.Bounds.{block_bound}
use Rattle.ceu_endings.proofs.Shapes.{no_codes}
use Rattle.ceu_endings.proofs.MidTurn.{around_halts}
use Rattle.ceu_endings.proofs.Over.{turn_over}

numbered : (K : Kernel) → is_proper K ≡ true → counts_from 0 (block_nodes K.body) ≡ true
unfolding is_proper is_numbered
numbered K h =
    let N = outer_names_from [] K.codes in
    let a = and_parts _ (codes_ok K N 0 K.codes) h in
    let b = and_parts _ (block_ok K N (body_scope K [] None K.body ty.S32) K.body) a.0 in
    let c = and_parts _ _ b.0 in
    let d = and_parts _ _ c.0 in
    let e = and_parts (counts_from 0 (block_nodes K.body ++ codes_nodes K.codes)) _ d.0 in
    (counts_parts 0 (block_nodes K.body) (codes_nodes K.codes) e.0).0

program_fine : (K : Kernel) → EndsTurns K → block_fine K (BodyAim (out-KBlock K.body).node ty.S32 ∷ []) K.body
program_fine K h =
    let a = no_codes K h.single in
    let c = numbered K h.proper in
    let e = block_counts K.body 0 c in
    block_is K a.0 h.keeps (names_of K) (body_scope K [] None K.body ty.S32) K.body 0 (program_static K h.proper) c a.1 (λ l i. Contains-append_left (block_loops K.body) _ l i) (omega (arith, e), tt)

under_longest : (a : ℕ) → a ≤ 65536 → 2 ^ a ≤ longest_run
unfolding longest_run
under_longest a l = pow-le-pow_right (omega arith) l

body_weighs : (K : Kernel) → weight K ≤ 65535 → block_weight K.body + 1 ≤ 65536
unfolding weight
body_weighs K l = omega (arith, l)

pub turn_ends : (K : Kernel) (f : Focus Act) (w : World) → EndsTurns K → ConfigFits K (Turning 0 f w) → Counted (Turning 0 f w) → TurnOver K longest_run (Turning 0 f w)
turn_ends K f w h x c =
    let a = no_codes K h.single in
    let fine = program_fine K h in
    let t = turn_over K h.proper h.single (block_cost K.body) 0 f w x (around_halts K 0 a.0 x.around x.acts fine c Program w) in
    let b = block_bound K _ K.body fine in
    let l = under_longest (block_weight K.body + 1) (body_weighs K h.weighs) in
    record { count = t.count; within = le_trans t.within (le_trans b l); over = t.over }
