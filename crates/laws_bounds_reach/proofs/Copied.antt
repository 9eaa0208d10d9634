-- Each open body of a code is open in one other open body, whose code uses it so often at most.
use Rattle.std.proofs.Common.{refl, ap, ◌≤◌, ℕ, ◌+◌, List, arith}
use Rattle.ceu_tree.specs.declared.kernel.Kernel.{Kernel}
use Rattle.ceu_tree.specs.declared.kernel.KCode.{KCode}
use Rattle.ceu_tree.specs.declared.kernel.ParKind.{ParKind}
use Rattle.ceu_tree.specs.declared.kernel.KBlock.{KBlock, out-KBlock}
use Rattle.ceu_tree.specs.declared.kernel.KStmt.{out-KStmt}
use Rattle.ceu_tree.specs.declared.kernel.KStmt.TheOpen.{KStmt-F}
use Rattle.ceu_tree.specs.Residual.{Residual, Over, Branches, Instances}
use Rattle.ceu_tree.specs.Greatest.{total}
use Rattle.ceu_tree.specs.Costs.{Cost, pool_uses, block_uses, node_uses}
use Rattle.ceu_tree.specs.Proper.{Scope}
use Rattle.ceu_tree.proofs.UseLaws.{uses_of_block}
use Rattle.laws_meaning_basics.specs.Shape.{Part, ABlock, AStatement, AnEnd, Fits, to_begin, to_turn, in_list, to_finish, at_input, at_time, at_event, at_forever, at_async, in_part, in_turn, in_call, in_par, EachFits, no_more, an_ended, a_branch, AllFit, none_lives, one_lives}
use Rattle.laws_meaning_instances.specs.Instances.{pools_stand, each_pools_stand, seats_stand}
use Rattle.laws_bounds_reach.specs.Copies.{one_of, awaits, copies, copies_of_branches, copies_of_instances, weigh_instances}
use Rattle.laws_bounds_reach.proofs.Pools.{hold, pool_uses_is}
use Rattle.laws_bounds_reach.proofs.CopiesLayers.{uses_at, part_used, one_used}
use Rattle.laws_bounds_reach.proofs.Sums.{over, over_plus, over_more, over_one}

module _ (K : Kernel) (k : ℕ) where
  abbrev used : KCode → ℕ
  used c = block_uses k c.body

  -- what open bodies of codes use, where f says how many each code has
  abbrev pub used_by : (ℕ → ℕ) → ℕ
  used_by f = over used K.codes 0 f

  abbrev pub part_uses : Part → ℕ
  part_uses (ABlock turn sc b) = block_uses k b
  part_uses (AStatement sc s) = node_uses k s
  part_uses AnEnd = 0

  abbrev one : ℕ → Cost
  one c = record { turns = one_of k c; opens = 0 }

  abbrev seated : Instances → ℕ
  seated all = (weigh_instances one all).turns

  seated_used : (b : KBlock) (all : Instances) → seats_stand (out-KBlock b).decls all → seated all ≤ pool_uses k (out-KBlock b).decls
  seated_used b all h = let a = (hold one (out-KBlock b).decls all h).turns in let e = pool_uses_is k (out-KBlock b).decls in omega (arith, a, e)

  mutual
    unfolding copies pools_stand

    pub fits_copies : {t : ℕ} {d : Part} {r : Residual} → Fits K t d r → pools_stand r → copies k r ≤ part_uses d + used_by (λ j. copies j r)
    fits_copies (to_begin l) h = omega arith
    fits_copies (to_turn l q) h = omega arith
    fits_copies (in_list {b = b} {rest = rest} {all = all} {r = r} {s = s} done e f fit more) h =
        let x = all_copies fit (out-KBlock b).decls h.0 in
        let y = fits_copies more h.1 in
        let z = seated_used b all h.0 in
        let u = uses_of_block k b in
        let v = one_used k done s rest in
        let w = ap (total (node_uses k)) e in
        let p = over_plus used K.codes 0 (λ j. copies_of_instances j all) (λ j. copies j r) in omega (arith, x, y, z, u, v, w, p)
    fits_copies (to_finish l q) h = omega arith
    fits_copies (at_input q e) h = omega arith
    fits_copies (at_time q u y e) h = omega arith
    fits_copies (at_event q e) h = omega arith
    fits_copies (at_forever e) h = omega arith
    fits_copies (at_async b e more) h = omega arith
    fits_copies (in_part {s = s} b o more) h = let x = fits_copies more h in let y = part_used k (out-KStmt s.stmt) b o in let z = uses_at k s (out-KStmt s.stmt) refl in omega (arith, x, y, z)
    fits_copies (in_turn {s = s} i b e c more) h = let x = fits_copies more h in let z = uses_at k s (KStmt-F.Loop i b) e in omega (arith, x, z)
    fits_copies (in_call {s = s} {r = r} c es f y x e q more) h =
        let a = fits_copies more h in
        let z = uses_at k s (KStmt-F.AwaitCode c es f y) e in
        let w = ap (awaits k) e in
        let u = over_one used K.codes 0 c c x q (omega arith) in
        let m = over_more used K.codes 0 (λ j. one_of j c) (λ j. awaits j (out-KStmt s.stmt)) (λ j. let i = ap (awaits j) e in omega (arith, i)) in
        let p = over_plus used K.codes 0 (λ j. awaits j (out-KStmt s.stmt)) (λ j. copies j r) in omega (arith, a, z, w, u, m, p)
    fits_copies (in_par {s = s} i slot bs e q more) h = let x = each_copies more h in let z = uses_at k s (KStmt-F.Par i slot bs) e in omega (arith, x, z)

    each_copies : {t : ℕ} {sc : Scope} {i : ParKind} {bs : List KBlock} {rs : Branches} → EachFits K t sc i bs rs → each_pools_stand rs
        → copies_of_branches k rs ≤ total (block_uses k) bs + used_by (λ j. copies_of_branches j rs)
    each_copies no_more h = omega arith
    each_copies (an_ended {more = more} m fit) h =
        let x = each_copies fit h.1 in
        let p = over_plus used K.codes 0 (λ j. copies j Over) (λ j. copies_of_branches j more) in omega (arith, x, p)
    each_copies (a_branch {r = r} {more = more} fit rest) h =
        let x = fits_copies fit h.0 in
        let y = each_copies rest h.1 in
        let p = over_plus used K.codes 0 (λ j. copies j r) (λ j. copies_of_branches j more) in omega (arith, x, y, p)

    all_copies : {t : ℕ} {sc : Scope} {all : Instances} → AllFit K t sc all → (ds : List _) → seats_stand ds all
        → copies_of_instances k all ≤ seated all + used_by (λ j. copies_of_instances j all)
    all_copies none_lives ds h = omega arith
    all_copies (one_lives {seat = seat} {r = r} {more = more} x p e fit rest) ds h =
        let a = fits_copies fit h.2 in
        let b = all_copies rest ds h.3 in
        let u = over_one used K.codes 0 seat.code seat.code x e (omega arith) in
        let m = over_plus used K.codes 0 (λ j. one_of j seat.code) (λ j. copies j r + copies_of_instances j more) in
        let n = over_plus used K.codes 0 (λ j. copies j r) (λ j. copies_of_instances j more) in omega (arith, a, b, u, m, n)
