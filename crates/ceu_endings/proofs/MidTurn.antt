-- A turn of a program of one trail is over after so many steps as its place costs, wherever in it the trail is.
use Rattle.std.proofs.Common.{◌≡◌, sym, ap, ◌∙◌, subst, ◌≤◌, ℕ, suc, ◌+◌, ◌*◌, Bool, true, false, ◌==◌, List, [], ◌∷◌, ◌++◌, Option, Some, None, arith}
use Rattle.ceu_tree.specs.declared.kernel.Kernel.{Kernel}
use Rattle.ceu_tree.specs.declared.kernel.KLoop.{KLoop}
use Rattle.ceu_tree.specs.declared.kernel.KLoop.TheVariants as turns
use Rattle.ceu_tree.specs.declared.kernel.KNode.{KNode}
use Rattle.ceu_tree.specs.declared.kernel.KBlock.{KBlock, out-KBlock}
use Rattle.ceu_tree.specs.declared.kernel.KStmt.{out-KStmt}
use Rattle.ceu_tree.specs.declared.kernel.KStmt.TheOpen.{KStmt-F}
use Rattle.ceu_tree.specs.Residual.{Body, Act, Begin, Start, Finish, AtEnd, AtHead, Again, Counter, Free, Turns, Upward, Instances, no_instance}
use Rattle.ceu_tree.specs.Focus.{Frame, OfBlock, OfOpen, OfLoop, Focus, Here, In, leaf}
use Rattle.ceu_tree.specs.World.{World}
use Rattle.ceu_tree.specs.Leaf.{Exit, Escape, Break, Continue}
use Rattle.ceu_tree.specs.Around.{Outcome, Goes, Past, Registers, AtLoopHead, Ends, Leaves, turn_of, next_turn, body_left, loop_left, up}
use Rattle.ceu_tree.specs.Paths.{constant_bound, quick_block, quick_list}
use Rattle.ceu_tree.specs.Proper.{Scope, Aim, LoopAim}
use Rattle.laws_meaning_basics.specs.Shape.{Part, ABlock, AStatement, AnEnd, counts, FrameFits, around_statement, around_end, around_instance, around_part, around_turn, around_call, around_branch, Around, nothing_around, one_around, ActFits, begins, heads, goes_again, starts, finishes, ends}
use Rattle.ceu_endings.specs.Counted.{layer_counted, turns_counted, turns_left, at_most, focus_counted}
use Rattle.ceu_endings.proofs.Local.{Settles, local, Halts, halts_weaker, halts_first, settles_more, Answers, halts_in}
use Rattle.ceu_endings.proofs.Aims.{turns_aims}
use Rattle.ceu_endings.proofs.Shapes.{no_code_at}
use Rattle.ceu_endings.proofs.Fine.{bound_fine, stmt_fine, block_fine, turns_at_most, stmt_cost, block_cost, block_cost_is, list_cost}
use Rattle.ceu_endings.proofs.Layers.{LayerFine, ListFine, layer_cost, cost_layer, cost_positive, fine_layer, fine_list, fine_at, part_fine}
use Rattle.ceu_endings.proofs.Opened.{EachHalts, list_halts, begun_halts, any_takes, open_any}
use Rattle.ceu_endings.proofs.Looped.{LoopTakes, again_halts, Ready, RangeReady, loop_settles}
use Rattle.ceu_endings.proofs.Starts.{BlockHalts, block_halts}
use Rattle.ceu_endings.proofs.Statements.{stmt_halts, block_each}

abbrev pub part_cost : Part → ℕ
part_cost (ABlock turn sc b) = block_cost b
part_cost (AStatement sc s) = stmt_cost s.stmt
part_cost AnEnd = 1

abbrev pub PartFine : Kernel → Part → Type 0
PartFine K (ABlock turn sc b) = block_fine K sc.aims b
PartFine K (AStatement sc s) = stmt_fine K sc.aims s.node s.stmt
PartFine K AnEnd = Unit {0}

abbrev pub Any : Outcome → Type 0
Any x = Unit {0}

cost_in_list : (before : List KNode) (s : KNode) (rest : List KNode) → stmt_cost s.stmt + list_cost rest ≤ list_cost (before ++ s ∷ rest)
cost_in_list [] s rest = omega arith
cost_in_list (x ∷ before) s rest = let i = cost_in_list before s rest in omega (arith, i)

list_costs : (ss : List KNode) → 1 ≤ list_cost ss
list_costs [] = omega arith
list_costs (s ∷ ss) = let i = list_costs ss in omega (arith, i)

each_range_ready : (o : Option ℕ) (at last : _) → at_most o (turns_left at last) → RangeReady o (Unit {0}) at last
each_range_ready None at last h = tt
each_range_ready (Some n) at last h = (h, λ e. tt)

ready : (k : KLoop) (c : Counter) → turns_counted k c → Ready (Unit {0}) k c
ready turns.Free c h = tt
ready (turns.Times slot limit) Free h = tt
ready (turns.Times slot limit) (Turns j) h = h
ready (turns.Times slot limit) (Upward at last) h = tt
ready (turns.Range i next end open_a x y open_b) Free h = tt
ready (turns.Range i next end open_a x y open_b) (Turns j) h = tt
ready (turns.Range i next end open_a x y open_b) (Upward at last) h = each_range_ready (constant_bound (turns.Range i next end open_a x y open_b)) at last h

module _ (K : Kernel) (level : ℕ) (no_code : K.codes ≡ []) where
  each_rest : (aims : List Aim) (before : List KNode) (s : KNode) (rest : List KNode) → EachHalts K level aims (before ++ s ∷ rest) → EachHalts K level aims rest
  each_rest aims [] s rest h = h.1
  each_rest aims (x ∷ before) s rest h = each_rest aims before s rest h.1

  -- ---- what the part around makes of any outcome

  left_any : (go : Focus Act → World → Type 0) (t : Bool) (b : KBlock) (fin : List KNode) (all : Instances) (f : Focus Act) (body : Body) (n : ℕ) (x : Exit) (w : World) → Settles go Any (body_left t b fin all f body n x w)
  left_any go true b fin all f body n x w = tt
  left_any go false b fin all f body n x w = tt

  block_any : (aims : List Aim) (b : KBlock) (fin : List KNode) (all : Instances) (rest : List KNode) (body : Body) → EachHalts K level aims rest → Answers K level Any Any body (list_cost rest) (OfBlock b fin all rest)
  block_any aims b fin all rest body h (Goes g) f w p = absurd p
  block_any aims b fin all rest body h Past f w p = list_halts K level rest aims b fin all body _ Any h (any_takes K level (quick_list [] rest) aims b fin all body)
  block_any aims b fin all rest body h (Registers s) f w p = list_halts K level rest aims b (s ∷ fin) all body _ Any h (any_takes K level (quick_list [] rest) aims b (s ∷ fin) all body)
  block_any aims b fin all rest body h (Leaves n x) f w p = left_any _ (n == (out-KBlock b).node) b fin all f body n x w
  block_any aims b fin all rest body h x f w p = tt

  module _ (s : KNode) (k : KLoop) (b : KBlock) (is : out-KStmt s.stmt ≡ KStmt-F.Loop k b) (aims : List Aim) (inside : BlockHalts K level (LoopAim s.node ∷ aims) b) (fine : bound_fine (constant_bound k) s.node (quick_block [] b)) (body : Body) where
    takes_any : LoopTakes K level s k b is (quick_block [] b) aims (block_cost b) inside Any body
    takes_any = record { rests = λ r. tt; fails = λ e r. tt; leaves = λ n x e h l. tt; breaks = λ n e h. tt; escapes = λ n v e l. tt }

    head_any : (c : Counter) (w : World) → counts k c ≡ true → turns_counted k c → Settles (Halts K level Any body (turns_at_most (constant_bound k) * suc (block_cost b))) Any (turn_of s k b c body w)
    head_any c w h r = loop_settles K level s b (quick_block [] b) aims (block_cost b) inside Any body k c w is takes_any h (ready k c r) fine (λ n e z. tt)

    round_any : (c : Counter) (w : World) → counts k c ≡ true → turns_counted k c → Halts K level Any body (suc (turns_at_most (constant_bound k) * suc (block_cost b))) (In (OfLoop s c) (Here Again)) w
    round_any c w h r = again_halts K level s k b is (quick_block [] b) aims (block_cost b) inside Any body (turns_at_most (constant_bound k) * suc (block_cost b)) c w (head_any c w h r)

    loop_left_any : (m : ℕ) (c : Counter) → ((w : World) → Halts K level Any body m (In (OfLoop s c) (Here Again)) w) → (t : Bool) (f : Focus Act) (n : ℕ) (x : Exit) (w : World) → Settles (Halts K level Any body m) Any (loop_left t s c f body n x w)
    loop_left_any m c h true f n Continue w = h _
    loop_left_any m c h true f n Break w = tt
    loop_left_any m c h true f n (Escape v) w = tt
    loop_left_any m c h false f n x w = tt

    loop_any : (c : Counter) → counts k c ≡ true → turns_counted k c → Answers K level Any Any body (suc (turns_at_most (constant_bound k) * suc (block_cost b))) (OfLoop s c)
    loop_any c h r (Goes g) f w p = absurd p
    loop_any c h r AtLoopHead f w p =
        let m = turns_at_most (constant_bound k) * suc (block_cost b) in
        subst (λ l. Settles (Halts K level Any body (suc m)) Any (next_turn s l c body w)) (sym is) (settles_more K level Any body m (suc m) (turn_of s k b c body w) (omega arith) (head_any c w h r))
    loop_any c h r (Ends v) f w p = round_any c w h r
    loop_any c h r (Leaves n x) f w p = loop_left_any _ c (λ u. round_any c u h r) (n == s.node) f n x w
    loop_any c h r x f w p = tt

  -- ---- the leaf, and the parts around it

  weaker_any : (P : Outcome → Type 0) (body : Body) (n m : ℕ) (f : Focus Act) (w : World) → n ≤ m → Halts K level P body n f w → Halts K level Any body m f w
  weaker_any P body n m f w l h = halts_weaker K level P Any body n m f w l (λ x p. tt) h

  act_halts : {d : Part} {a : Act} → ActFits d a → PartFine K d → (body : Body) (w : World) → Halts K level Any body (part_cost d) (Here a) w
  unfolding local up
  act_halts (begins {sc = sc} {b = b}) h body w =
      weaker_any Any body (suc (list_cost (out-KBlock b).list)) (block_cost b) (Here (Begin b)) w (let e = block_cost_is b in omega (arith, e))
      (begun_halts K level sc.aims b body w Any (block_each K level sc.aims b h) (any_takes K level (quick_list [] (out-KBlock b).list) sc.aims b [] no_instance body))
  act_halts (heads {b = b}) h body w = halts_first K level Any body 0 (block_cost b) (Here AtHead) w (let e = block_cost_is b in omega (arith, e)) tt
  act_halts (goes_again {b = b}) h body w = halts_first K level Any body 0 (block_cost b) (Here Again) w (let e = block_cost_is b in omega (arith, e)) tt
  act_halts (starts {sc = sc} {s = s}) h body w = weaker_any _ body (stmt_cost s.stmt) (stmt_cost s.stmt) (Here (Start s)) w (omega arith) (stmt_halts K level sc.aims s.node s.pos s.stmt h body w)
  act_halts (finishes {s = s} {v = v} p) h body w = halts_first K level Any body 0 (stmt_cost s.stmt) (Here (Finish s v)) w (let e = cost_positive s.stmt in omega (arith, e)) tt
  act_halts ends h body w = halts_first K level Any body 0 1 (Here AtEnd) w (omega arith) tt

  layer_fine : (sc : Scope) (s : KNode) (layer : _) → out-KStmt s.stmt ≡ layer → stmt_fine K sc.aims s.node s.stmt → LayerFine K sc.aims s.node layer
  layer_fine sc s layer e h = subst (LayerFine K sc.aims s.node) e (fine_layer K sc.aims s.node s.stmt h)

  frame_halts : {t : ℕ} {fr : Frame} {d e : Part} → FrameFits K t fr d e → PartFine K d → (f : Focus Act) → focus_counted (In fr f) → (body : Body) (w : World)
      → (PartFine K e → (u : Body) → Halts K level Any u (part_cost e) f w) → Halts K level Any body (part_cost d) (In fr f) w
  unfolding focus_counted
  frame_halts (around_statement {sc = sc} {b = b} {fin = fin} {rest = rest} {all = all} {s = s} done q z i) h f c body w ih =
      weaker_any Any body (stmt_cost s.stmt + list_cost rest) (block_cost b) (In (OfBlock b fin all rest) f) w
      (let e = block_cost_is b in let l = cost_in_list done s rest in let g = ap list_cost q in omega (arith, e, l, g))
      (halts_in K level Any Any body (stmt_cost s.stmt) (list_cost rest) (OfBlock b fin all rest) f w
      (block_any sc.aims b fin all rest body (each_rest sc.aims done s rest (subst (EachHalts K level sc.aims) q (block_each K level sc.aims b h))))
      (ih (fine_at K sc.aims done s rest (subst (λ ss. ListFine K sc.aims ss) q (fine_list K sc.aims b h))) body))
  frame_halts (around_end {sc = sc} {b = b} {fin = fin} {all = all} z i) h f c body w ih =
      weaker_any Any body 2 (block_cost b) (In (OfBlock b fin all []) f) w (let e = block_cost_is b in let l = list_costs (out-KBlock b).list in omega (arith, e, l))
      (halts_in K level Any Any body 1 1 (OfBlock b fin all []) f w (block_any sc.aims b fin all [] body tt) (ih tt body))
  frame_halts (around_part {sc = sc} {s = s} b o) h f c body w ih =
      let p = part_fine K sc s.node (out-KStmt s.stmt) b (fine_layer K sc.aims s.node s.stmt h) o in
      weaker_any Any body (block_cost b + 0) (stmt_cost s.stmt) (In (OfOpen s) f) w (let e = cost_layer s.stmt in omega (arith, e, p.1))
      (halts_in K level Any Any body (block_cost b) 0 (OfOpen s) f w (open_any K level s Any body) (ih p.0 body))
  frame_halts (around_turn {sc = sc} {s = s} {c = j} k b q o) h f c body w ih =
      let p = layer_fine sc s (KStmt-F.Loop k b) q h in
      let m = turns_at_most (constant_bound k) * suc (block_cost b) in
      weaker_any Any body (block_cost b + suc m) (stmt_cost s.stmt) (In (OfLoop s j) f) w (let e = cost_layer s.stmt ∙ ap layer_cost q in omega (arith, e))
      (halts_in K level Any Any body (block_cost b) (suc m) (OfLoop s j) f w
      (loop_any s k b q sc.aims (block_halts K level (LoopAim s.node ∷ sc.aims) b p.1 (block_each K level (LoopAim s.node ∷ sc.aims) b p.2)) p.0 body j o (subst (λ l. layer_counted l j) q c.0))
      (ih (subst (λ y. block_fine K (LoopAim s.node ∷ y) b) (sym (turns_aims K k sc)) p.2) body))
  frame_halts (around_call {sc = sc} {s = s} m es g t k q o) h f c body w ih = absurd (layer_fine sc s _ q h)
  frame_halts (around_branch {sc = sc} {s = s} k slot bs b cs q x y) h f c body w ih = absurd (layer_fine sc s _ q h)
  frame_halts (around_instance {seat = seat} done k q z i x y p o) h f c body w ih = absurd (no_code_at K no_code seat.code k o)

  pub around_halts : {t : ℕ} {f : Focus Act} {d e : Part} → Around K t Act f d e → ActFits e (leaf f) → PartFine K d → focus_counted f → (body : Body) (w : World) → Halts K level Any body (part_cost d) f w
  unfolding focus_counted
  around_halts nothing_around a h c body w = act_halts a h body w
  around_halts (one_around {fr = fr} {f = f} x more) a h c body w = frame_halts x h f c body w (λ g u. around_halts more a g c.1 u w)
