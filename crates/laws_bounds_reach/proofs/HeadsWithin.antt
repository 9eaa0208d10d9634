-- What an emission costs in a tree is at most what its part's loops cost, and those of each open body's code.
use Rattle.std.proofs.Common.{◌≡◌, refl, sym, ap, ◌∙◌, ◌≤◌, ℕ, ◌+◌, Bool, List, Some, arith}
use Rattle.ceu_tree.specs.declared.kernel.Kernel.{Kernel}
use Rattle.ceu_tree.specs.declared.kernel.KCode.{KCode}
use Rattle.ceu_tree.specs.declared.kernel.ParKind.{ParKind}
use Rattle.ceu_tree.specs.declared.kernel.KBlock.{KBlock}
use Rattle.ceu_tree.specs.declared.kernel.KStmt.{out-KStmt}
use Rattle.ceu_tree.specs.declared.kernel.KStmt.TheOpen.{KStmt-F}
use Rattle.ceu_tree.specs.Residual.{Residual, Over, Branches, Instances}
use Rattle.ceu_tree.specs.Leaf.{code_at}
use Rattle.ceu_tree.specs.Costs.{Cost, nothing, plus, sum_of, woken_block, woken_node}
use Rattle.ceu_tree.specs.Proper.{Scope}
use Rattle.ceu_tree.proofs.WokenLaws.{woken_of_block}
use Rattle.laws_meaning_basics.specs.Shape.{Part, ABlock, AStatement, AnEnd, Fits, to_begin, to_turn, in_list, to_finish, at_input, at_time, at_event, at_forever, at_async, in_part, in_turn, in_call, in_par, EachFits, no_more, an_ended, a_branch, AllFit, none_lives, one_lives}
use Rattle.laws_bounds_steps.specs.Pays.{Within}
use Rattle.laws_bounds_steps.specs.Heads.{layer_heads, heads, heads_of_branches, heads_of_instances}
use Rattle.laws_bounds_steps.proofs.Cost.{same, is, chain, both, least}
use Rattle.laws_bounds_reach.specs.Copies.{one_of, awaits, copies, copies_of_branches, copies_of_instances}
use Rattle.laws_bounds_reach.proofs.CopiesLayers.{woken_at, part_woken, one_woken}
use Rattle.laws_bounds_reach.proofs.Sums.{over, over_plus, over_more, over_one}

module _ (P : List Bool) (E N : List Cost) (e : ℕ) (K : Kernel) where
  abbrev pub turns_of : KCode → ℕ
  turns_of c = (woken_block P E N e c.body).turns

  abbrev pub opens_of : KCode → ℕ
  opens_of c = (woken_block P E N e c.body).opens

  -- what the loops of open bodies cost, where f says how many each code has
  abbrev pub woken_by : (ℕ → ℕ) → Cost
  woken_by f = record { turns = over turns_of K.codes 0 f; opens = over opens_of K.codes 0 f }

  by_plus : (f h : ℕ → ℕ) → Within (plus (woken_by f) (woken_by h)) (woken_by (λ j. f j + h j))
  by_plus f h = let a = over_plus turns_of K.codes 0 f h in let b = over_plus opens_of K.codes 0 f h in record { turns = omega (arith, a); opens = omega (arith, b) }

  by_more : (f h : ℕ → ℕ) → ((j : ℕ) → f j ≤ h j) → Within (woken_by f) (woken_by h)
  by_more f h l = record { turns = over_more turns_of K.codes 0 f h l; opens = over_more opens_of K.codes 0 f h l }

  by_one : (c : ℕ) (x : KCode) → code_at c K.codes ≡ Some x → Within (woken_block P E N e x.body) (woken_by (λ j. one_of j c))
  by_one c x q = record { turns = over_one turns_of K.codes 0 c c x q (omega arith); opens = over_one opens_of K.codes 0 c c x q (omega arith) }

  abbrev pub part_heads : Part → Cost
  part_heads (ABlock turn sc b) = woken_block P E N e b
  part_heads (AStatement sc s) = woken_node P E N e s
  part_heads AnEnd = nothing

  -- two parts side by side
  beside : (a b x y : Cost) (f h : ℕ → ℕ) → Within a (plus x (woken_by f)) → Within b (plus y (woken_by h)) → Within (plus a b) (plus (plus x y) (woken_by (λ j. f j + h j)))
  beside a b x y f h p q =
      let z = by_plus f h in
      let p0 = p.turns in let p1 = p.opens in let q0 = q.turns in let q1 = q.opens in let z0 = z.turns in let z1 = z.opens in
      record { turns = omega (arith, p0, q0, z0); opens = omega (arith, p1, q1, z1) }

  within_part : (a x y b : Cost) → Within a (plus x b) → Within x y → Within a (plus y b)
  within_part a x y b p q = chain _ _ _ p (both _ _ _ _ q (same b))

  mutual
    unfolding heads copies

    pub fits_heads : {t : ℕ} {d : Part} {r : Residual} → Fits K t d r → Within (heads P E N e r) (plus (part_heads d) (woken_by (λ j. copies j r)))
    fits_heads (to_begin l) = least _
    fits_heads (to_turn l q) = least _
    fits_heads (in_list {b = b} {rest = rest} {all = all} {r = r} {s = s} done q f fit more) =
        within_part _ _ _ _ (beside _ _ nothing _ (λ j. copies_of_instances j all) (λ j. copies j r) (all_heads fit) (fits_heads more))
        (chain _ _ _ (record { turns = omega arith; opens = omega arith })
        (chain _ _ _ (one_woken P E N e done s rest) (is _ _ (ap (sum_of (woken_node P E N e)) (sym q) ∙ sym (woken_of_block P E N e b)))))
    fits_heads (to_finish l q) = least _
    fits_heads (at_input q i) = least _
    fits_heads (at_time q u y i) = least _
    fits_heads (at_event q i) = least _
    fits_heads (at_forever i) = least _
    fits_heads (at_async b i more) = least _
    fits_heads (in_part {s = s} b o more) = within_part _ _ _ _ (fits_heads more) (chain _ _ _ (part_woken P E N e (out-KStmt s.stmt) b o) (is _ _ (sym (woken_at P E N e s (out-KStmt s.stmt) refl))))
    fits_heads (in_turn {s = s} i b q c more) =
        let a = fits_heads more in
        let x = is _ _ (ap (layer_heads P E N e) q) in
        let y = is _ _ (sym (woken_at P E N e s (KStmt-F.Loop i b) q)) in
        let a0 = a.turns in let a1 = a.opens in let x0 = x.turns in let x1 = x.opens in let y0 = y.turns in let y1 = y.opens in
        record { turns = omega (arith, a0, x0, y0); opens = omega (arith, a1, x1, y1) }
    fits_heads (in_call {s = s} {r = r} c es f y x q there more) =
        let a = fits_heads more in
        let b = chain _ _ _ (by_one c x there) (by_more (λ j. one_of j c) (λ j. awaits j (out-KStmt s.stmt)) (λ j. let i = ap (awaits j) q in omega (arith, i))) in
        let z = by_plus (λ j. awaits j (out-KStmt s.stmt)) (λ j. copies j r) in
        let a0 = a.turns in let a1 = a.opens in let b0 = b.turns in let b1 = b.opens in let z0 = z.turns in let z1 = z.opens in
        record { turns = omega (arith, a0, b0, z0); opens = omega (arith, a1, b1, z1) }
    fits_heads (in_par {s = s} i slot bs q o more) = within_part _ _ _ _ (each_heads more) (is _ _ (sym (woken_at P E N e s (KStmt-F.Par i slot bs) q)))

    each_heads : {t : ℕ} {sc : Scope} {i : ParKind} {bs : List KBlock} {rs : Branches} → EachFits K t sc i bs rs
        → Within (heads_of_branches P E N e rs) (plus (sum_of (woken_block P E N e) bs) (woken_by (λ j. copies_of_branches j rs)))
    each_heads no_more = least _
    each_heads (an_ended {b = b} {more = more} m fit) = beside nothing _ (woken_block P E N e b) _ (λ j. copies j Over) (λ j. copies_of_branches j more) (least _) (each_heads fit)
    each_heads (a_branch {r = r} {more = more} fit rest) = beside _ _ _ _ (λ j. copies j r) (λ j. copies_of_branches j more) (fits_heads fit) (each_heads rest)

    all_heads : {t : ℕ} {sc : Scope} {all : Instances} → AllFit K t sc all → Within (heads_of_instances P E N e all) (plus nothing (woken_by (λ j. copies_of_instances j all)))
    all_heads none_lives = least _
    all_heads (one_lives {seat = seat} {r = r} {more = more} x p there fit rest) =
        let a = fits_heads fit in
        let b = all_heads rest in
        let u = by_one seat.code x there in
        let m = by_plus (λ j. one_of j seat.code) (λ j. copies j r + copies_of_instances j more) in
        let n = by_plus (λ j. copies j r) (λ j. copies_of_instances j more) in
        let a0 = a.turns in let a1 = a.opens in let b0 = b.turns in let b1 = b.opens in let u0 = u.turns in let u1 = u.opens in let m0 = m.turns in let m1 = m.opens in let n0 = n.turns in let n1 = n.opens in
        record { turns = omega (arith, a0, b0, u0, m0, n0); opens = omega (arith, a1, b1, u1, m1, n1) }
