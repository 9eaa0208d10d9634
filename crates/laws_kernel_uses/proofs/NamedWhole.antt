-- The kernel of a program names what is there.
use Rattle.std.proofs.Common.{◌≡◌, refl, sym, ap, ◌∙◌, ℕ, arith, [], Ok}
use Rattle.ceu_tree.specs.declared.source.Block.{Block, Block'}
use Rattle.ceu_tree.specs.declared.source.Tree.{Tree}
use Rattle.ceu_tree.specs.declared.kernel.Kernel.{Kernel}
use Rattle.ceu_tree.specs.declared.kernel.KBlock.{out-KBlock, roll-KBlock}
use Rattle.ceu_scopes.specs.declared.known.Scopes.{Scopes}
use Rattle.ceu_scopes.specs.declared.scope.Border.TheVariants.{Plain}
use Rattle.ceu_scopes.specs.declared.walk.Walk.{Walk}
use Rattle.ceu_scopes.specs.Walk.{opened, closed}
use Rattle.ceu_scopes.specs.Names.{stmt_walked, block_walked, nodes_walked, fresh_walk, gathered, scopes_of}
use Rattle.ceu_types.specs.declared.typing.Types.{Types}
use Rattle.ceu_expand.specs.declared.draft.Draft.{Draft}
use Rattle.ceu_expand.specs.Draft as draft
use Rattle.ceu_expand.specs.Draft.{of_program, nothing_written, outside, written, block_of, around_block}
use Rattle.ceu_expand.specs.Expansion.{declared_in, stmt_written, nodes_written, block_written, block_passed, counted, kernel_of}
use Rattle.laws_kernel_shape.proofs.Codes.{OutermostBlock, CodesOutermost}
use Rattle.laws_kernel_shape.proofs.Inside.{append_none}
use Rattle.laws_kernel_shape.proofs.Steps.{Always, always_ok, always_then}
use Rattle.laws_kernel_names.proofs.Seeing.{Fits}
use Rattle.laws_kernel_shape.specs.Exits.{KernelStands}
use Rattle.laws_kernel_uses.specs.Named.{KernelNamed}
use Rattle.laws_kernel_uses.proofs.Sites.{BlockHeld}
use Rattle.laws_kernel_uses.proofs.Asks.{CodesHeld, kernel_named}
use Rattle.laws_kernel_uses.proofs.Walking.{Lists, lists_as, View, Both}
use Rattle.laws_kernel_uses.proofs.Holding.{holds_block}
use Rattle.laws_kernel_uses.proofs.NamedBlocks.{lists_around}
use Rattle.laws_kernel_uses.proofs.OuterRows.{program_runs}
use Rattle.laws_kernel_uses.proofs.NamedCodes.{top_site, top_ground, Passes, nodes_pass}
use denote.Hole.Carrier

block_decls : (n : ℕ) (f : Draft → Draft) (d : Draft) → (out-KBlock (block_of n f d)).decls ≡ (f (draft.opened n d)).parts.decls
unfolding outside written roll-KBlock Carrier.roll out-KBlock Carrier.out
block_decls n f d = refl

module _ (s : Scopes) (t : Types) (K : Kernel) where
  -- a kernel with this body, and the events and ports that the body declares
  block_held : (b : Block) → OutermostBlock b → (m k : ℕ) →
      let d = nothing_written m k in
      K.body ≡ block_written s t of_program b d → Lists K (block_passed s t of_program b d) →
      Always (λ v. Fits s v → BlockHeld K top_site (block_written s t of_program b d) × CodesHeld K 0 (block_passed s t of_program b d).codes) (block_walked b Plain fresh_walk)
  unfolding OutermostBlock stmt_written stmt_walked nothing_written draft.opened draft.closed opened closed
  block_held (Block' _ list) o m k is lists =
      let n = declared_in list in
      let f = nodes_written s t of_program list in
      let d : Draft = nothing_written m k in
      let start : Draft = draft.opened n d in
      let w : Walk = opened Plain fresh_walk in
      let D = (f start).parts.decls in
      let g = top_ground D in
      let env : View g D start.slot = record { first = d.slot; runs = program_runs s t list o d; older = []; is = refl; later = []; since = refl; entered = refl } in
      let top : (out-KBlock K.body).decls ≡ D = ap (λ b. (out-KBlock b).decls) is ∙ block_decls n f d in
      let Q : Type 0 = BlockHeld K top_site (block_of n f d) × CodesHeld K 0 (f start).codes in
      always_then (λ v. Passes s t K D start.slot env top w start v (f start)) (λ v. Fits s v → Q) (nodes_walked list w) closed (nodes_pass s t K D start.slot env top list o w start)
      (λ v passes.
      always_ok (λ v. Fits s v → Q) _
      (λ fits.
      let begin : Both s K g start.slot w start = record {
        uses = refl;
        decls = refl;
        room = omega arith;
        limits = λ b. start.slot;
        grows = λ a b le. omega arith;
        within = λ a. omega arith;
        here = λ e. refl;
        top = omega arith;
        means = (tt, λ inside. tt);
        stands = (tt, tt);
        outer = refl;
        quiet = λ e none. absurd (cc);
      } in
      let all = passes.sees (record { rest = fits.rest; is = fits.is; later = fits.later; decls = fits.decls }) (record { more = []; is = append_none D; lists = lists_as K (f start) (around_block n f d) (lists_around n f d) lists }) begin (tt, tt) in
      (holds_block K top_site n f d all.0, all.1)))

pub named : (s : Scopes) (t : Types) (tree : Tree) → CodesOutermost tree → scopes_of tree ≡ Ok s → KernelStands (kernel_of s t tree) → KernelNamed (kernel_of s t tree)
unfolding kernel_of
named s t tree o h stands =
    let m = (counted s t tree.body).node in
    let k = (counted s t tree.body).slot in
    let d = nothing_written m k in
    let K = kernel_of s t tree in
    let Q : Type 0 = BlockHeld K top_site (block_written s t of_program tree.body d) × CodesHeld K 0 (block_passed s t of_program tree.body d).codes in
    let lists : Lists K (block_passed s t of_program tree.body d) = record { events = []; events_are = append_none K.events; inputs = []; inputs_are = append_none K.inputs; outputs = []; outputs_are = append_none K.outputs } in
    let held : Q =
    always_then (λ v. Fits s v → Q) (λ sc. sc ≡ s → Q) (block_walked tree.body Plain fresh_walk) gathered (block_held s t K tree.body o m k refl lists)
    (λ v all sc e same.
    let one : record { decls = v.decls; uses = v.uses } ≡ sc = cc in
    let is : record { decls = v.decls; uses = v.uses } ≡ s = one ∙ same in
    all (record { rest = []; is = ap (λ (x : Scopes). x.uses) (sym is) ∙ append_none v.uses; later = []; decls = ap (λ (x : Scopes). x.decls) (sym is) ∙ append_none v.decls }))
    s h refl in
    kernel_named K stands held.0 held.1
