-- Programs without code: an abortion of what is inside a part, or the end of a block, forgets nothing beside the part's ground.
use Rattle.std.proofs.Common.{◌≡◌, refl, sym, ap, subst, ◌≤◌, ℕ, ◌+◌, true, List, [], ◌∷◌, ◌++◌, length, length-append, arith}
use Rattle.ceu_tree.specs.declared.kernel.Kernel.{Kernel}
use Rattle.ceu_tree.specs.declared.kernel.KNode.{KNode}
use Rattle.ceu_tree.specs.declared.kernel.KBlock.{KBlock, out-KBlock}
use Rattle.ceu_tree.specs.declared.kernel.KStmt.TheOpen.{KStmt-F}
use Rattle.ceu_tree.specs.Residual.{Body, Program, Act, Residual, Over, Branches, no_branch, branch, Instances}
use Rattle.ceu_tree.specs.Focus.{Frame, Focus, Here, In, join, fill, plug}
use Rattle.ceu_tree.specs.World.{World}
use Rattle.ceu_tree.specs.Abort.{aborted, branches_aborted, instances_aborted, closed}
use Rattle.ceu_tree.specs.Numbering.{counts_from, decl_slots, block_slots, block_nodes}
use Rattle.ceu_tree.specs.Proper.{Scope, is_proper}
use Rattle.laws_meaning_basics.specs.Shape.{Part, AllFit, FrameFits, around_statement, around_end, around_instance, around_part, around_turn, around_call, around_branch, Around, nothing_around, one_around}
use Rattle.laws_meaning_basics.proofs.UpFits.{Sound, frame_sound}
use Rattle.laws_meaning_values.specs.Ground.{has, numbers_among, numbers_in, Ground, Numbered, On}
use Rattle.laws_meaning_values.proofs.Counts.{counts_parts, slots_all, block_slots_is}
use Rattle.laws_meaning_values.proofs.Grounds.{inner_ground, branch_ground}
use Rattle.laws_meaning_values.proofs.Stores.{forget_declared_spares, finalized_keeps}
use Rattle.laws_meaning_values.proofs.Spares.{declared_apart, turns_spared, each_spares, all_spares}
use Rattle.laws_meaning_values.proofs.Positions.{Beside, beside_outside, beside_inner}
use Rattle.laws_meaning_values.proofs.NeedsAt.{no_code, LowAt, frame_ground}

pub branches_joined : (xs ys : Branches) (here : Body) (w : World) → branches_aborted (join xs ys) here w ≡ branches_aborted xs here (branches_aborted ys here w)
unfolding branches_aborted
branches_joined no_branch ys here w = refl
branches_joined (branch r more) ys here w = ap (aborted r here) (branches_joined more ys here w)

pub decls_ground : (b : KBlock) (g : Ground) → Numbered (block_slots b) (block_nodes b) g → (counts_from g.low (decl_slots (out-KBlock b).decls) ≡ true) × (g.low + length (decl_slots (out-KBlock b).decls) ≤ g.high)
decls_ground b g h =
    let ds = decl_slots (out-KBlock b).decls in
    let e = block_slots_is b in
    ((counts_parts g.low ds (slots_all (out-KBlock b).list) (subst (λ l. counts_from g.low l ≡ true) e h.slots_from)).0, (let l = ap length e in omega (arith, h.slots_to, l, length-append ds (slots_all (out-KBlock b).list))))

module _ (K : Kernel) (proper : is_proper K ≡ true) (plain : K.codes ≡ []) (x : ℕ) where
  pub closed_spares : {t : ℕ} {sc : Scope} {all : Instances} (b : KBlock) (fin : List KNode) (g : Ground) (w : World) → AllFit K t sc all → Numbered (block_slots b) (block_nodes b) g → Beside g x → has Program x w ≡ true → has Program x (closed b fin all Program w) ≡ true
  closed_spares {all = all} b fin g w fit on p h =
      let c = decls_ground b g on in
      forget_declared_spares Program x Program (out-KBlock b).decls _ (declared_apart Program g [] Program x (out-KBlock b).decls c.0 c.1 (beside_outside g [] x p))
      (finalized_keeps Program x fin Program (instances_aborted all w) (all_spares K proper Program x fit Program g w (beside_outside g (numbers_in all) x p) h))

  frame_spares : {t : ℕ} {fr : Frame} {d e : Part} → FrameFits K t fr d e → (g : Ground) → On d g → Beside g x → (q : Residual) → ((w : World) → has Program x w ≡ true → has Program x (aborted q Program w) ≡ true)
      → (w : World) → has Program x w ≡ true → has Program x (aborted (fill fr q) Program w) ≡ true
  unfolding aborted
  frame_spares (around_statement {b = b} {fin = fin} done e f all) g on p q ih w h = closed_spares b fin g (aborted q Program w) all on p (ih w h)
  frame_spares (around_end {b = b} {fin = fin} f all) g on p q ih w h = closed_spares b fin g (aborted q Program w) all on p (ih w h)
  frame_spares (around_instance {seat = seat} done k e f r before after z c) g on p q ih w h = absurd (no_code K proper plain seat.code k c)
  frame_spares (around_part b o) g on p q ih w h = ih w h
  frame_spares (around_turn {s = s} k b e c) g on p q ih w h = turns_spared Program g [] s k b Program x (aborted q Program w) e on (beside_outside g [] x p) (ih w h)
  frame_spares (around_call c es f t k e z) g on p q ih w h = absurd (no_code K proper plain c k z)
  frame_spares (around_branch {s = s} {before = front} {after = back} k slot bs b cs e y z) g on p q ih w h =
      let i = inner_ground s (KStmt-F.Par k slot (bs ++ b ∷ cs)) g e on in
      let j = branch_ground bs b cs i.ground i.on in
      let l = beside_inner i.ground g x i.inner p in
      let u = branches_aborted back Program w in
      let hu = each_spares K proper Program x z Program j.after w j.on_after (beside_outside j.after (numbers_among back) x (beside_inner j.after i.ground x j.inner_after l)) h in
      subst (λ v. has Program x v ≡ true) (sym (branches_joined front (branch q back) Program w))
      (each_spares K proper Program x y Program j.before (aborted q Program u) j.on_before (beside_outside j.before (numbers_among front) x (beside_inner j.before i.ground x j.inner_before l)) (ih u hu))

  pub focus_spares : {t : ℕ} (f : Focus Act) (d e : Part) → Around K t Act f d e → (g : Ground) → On d g → LowAt d g → Sound K proper d → Beside g x → (w : World) → has Program x w ≡ true → has Program x (aborted (plug f Over) Program w) ≡ true
  unfolding aborted
  focus_spares (Here a) d e nothing_around g on low ok p w h = h
  focus_spares (In fr f) d e (one_around {e = c} a more) g on low ok p w h =
      let i = frame_ground K proper plain a g on low ok in
      let inside = focus_spares f c e more i.ground i.on i.low (frame_sound K proper a ok) (beside_inner i.ground g x i.inner p) in
      frame_spares a g on p (plug f Over) inside w h
