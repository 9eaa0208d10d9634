-- Turns in blocks, in do and if: what they come to from the start of a part, and in how many steps.
use Rattle.std.proofs.Common.{◌≡◌, refl, sym, ℕ, suc, ℤ, pos, ◌∙◌, Bool, true, false, ◌==◌, List, [], ◌∷◌, ◌⊎◌, inl, inr, Option, arith, eqb-true}
use Rattle.std.proofs.lemmas.Bool.{eqb-false}
use Rattle.ceu_tree.specs.declared.kernel.Kernel.{Kernel}
use Rattle.ceu_tree.specs.declared.kernel.Loc.{Loc}
use Rattle.ceu_tree.specs.declared.kernel.KNode.{KNode}
use Rattle.ceu_tree.specs.declared.kernel.KBlock.{KBlock, out-KBlock}
use Rattle.ceu_tree.specs.Residual.{Body, Act, Begin, Start, Instances, no_instance}
use Rattle.ceu_tree.specs.Focus.{OfBlock, OfOpen, Focus, Here, In}
use Rattle.ceu_tree.specs.World.{World}
use Rattle.ceu_tree.specs.Leaf.{Exit, Escape, Break, Continue, next_of, rest_of}
use Rattle.ceu_tree.specs.Around.{Outcome, Goes, Rests, Raises, Fails, Past, Registers, AtBlockEnd, AtLoopHead, Ends, Leaves, body_left, open_left, up}
use Rattle.ceu_tree.specs.Paths.{Way, ToEnd, quick_node, quick_list, do_ways}
use Rattle.ceu_tree.specs.Proper.{Aim, do_aim}
use Rattle.ceu_endings.proofs.Local.{Settles, local, Halts, halts_first, Answers, halts_in}
use Rattle.ceu_endings.proofs.Among.{Among, exit_way, seq_then, seq_exit, do_end, do_escape, do_exit}
use Rattle.ceu_endings.proofs.Aims.{aims_at, Leads, Below, leads_below, aims_node, do_node, do_escapes}
use Rattle.ceu_endings.proofs.Fine.{stmt_cost, list_cost}

-- what a statement comes to: it is gone past only where that is among its ways, and so for its exits, which lead to aims
abbrev pub StmtEnds : List Way → List Aim → Outcome → Type 0
StmtEnds q aims (Rests r) = Unit {0}
StmtEnds q aims (Fails e r) = Unit {0}
StmtEnds q aims Past = Among ToEnd q
StmtEnds q aims (Leaves n x) = Among (exit_way n x) q × Leads aims n x
StmtEnds q aims x = ⊥

abbrev pub BlockEnds : List Way → List Aim → Outcome → Type 0
BlockEnds q aims (Rests r) = Unit {0}
BlockEnds q aims (Fails e r) = Unit {0}
BlockEnds q aims (Ends v) = Among ToEnd q
BlockEnds q aims (Leaves n x) = Among (exit_way n x) q × Leads aims n x
BlockEnds q aims x = ⊥

module _ (K : Kernel) (level : ℕ) where
  -- from the start of a statement
  abbrev pub StmtHalts : List Aim → KNode → Type 0
  StmtHalts aims s = (body : Body) (w : World) → Halts K level (StmtEnds (quick_node [] s) aims) body (stmt_cost s.stmt) (Here (Start s)) w

  abbrev pub EachHalts : List Aim → List KNode → Type 0
  EachHalts aims [] = Unit {0}
  EachHalts aims (s ∷ ss) = StmtHalts aims s × EachHalts aims ss

  -- what an open block has to come to, where its list is left by those ways
  pub record Takes (q : List Way) (aims : List Aim) (b : KBlock) (fin : List KNode) (all : Instances) (body : Body) (P : Outcome → Type 0) : Type 0 where
    pub rests : (r : _) → P (Rests r)
    pub fails : (e r : _) → P (Fails e r)
    pub ends : Among ToEnd q → (v : _) → P (Ends v)
    pub leaves : (n : ℕ) (x : Exit) (f : Focus Act) (w : World) → Among (exit_way n x) q → Leads aims n x → P (body_left (n == (out-KBlock b).node) b fin all f body n x w).outcome

  rest_takes : (s : KNode) (ss : List KNode) (aims : List Aim) (b : KBlock) (fin : List KNode) (all : Instances) (body : Body) (P : Outcome → Type 0)
      → Takes (quick_list [] (s ∷ ss)) aims b fin all body P → Among ToEnd (quick_node [] s) → Takes (quick_list [] ss) aims b fin all body P
  rest_takes s ss aims b fin all body P t e = record {
    rests = t.rests;
    fails = t.fails;
    ends = λ h. t.ends (seq_then ToEnd (quick_node [] s) (quick_list [] ss) e h);
    leaves = λ n x f w h l. t.leaves n x f w (seq_then (exit_way n x) (quick_node [] s) (quick_list [] ss) e h) l;
  }

  left_settles : (go : Focus Act → World → Type 0) (P : Outcome → Type 0) (t : Bool) (b : KBlock) (fin : List KNode) (all : Instances) (f : Focus Act) (body : Body) (n : ℕ) (x : Exit) (w : World)
      → P (body_left t b fin all f body n x w).outcome → Settles go P (body_left t b fin all f body n x w)
  left_settles go P true b fin all f body n x w h = h
  left_settles go P false b fin all f body n x w h = h

  -- from a statement of a block on, or from the block's end
  pub list_halts : (ss : List KNode) (aims : List Aim) (b : KBlock) (fin : List KNode) (all : Instances) (body : Body) (w : World) (P : Outcome → Type 0)
      → EachHalts aims ss → Takes (quick_list [] ss) aims b fin all body P → Halts K level P body (list_cost ss) (In (OfBlock b fin all (rest_of ss)) (Here (next_of ss))) w
  unfolding local up Halts
  list_halts [] aims b fin all body w P h t = t.ends (inl refl) (pos 0)
  list_halts (s ∷ ss) aims b fin all body w P h t = halts_in K level (StmtEnds (quick_node [] s) aims) P body (stmt_cost s.stmt) (list_cost ss) (OfBlock b fin all ss) (Here (Start s)) w (answer (λ u q. list_halts ss aims b fin all body u P h.1 (rest_takes s ss aims b fin all body P t q))) (h.0 body w)
    where
      answer : ((u : World) → Among ToEnd (quick_node [] s) → Halts K level P body (list_cost ss) (In (OfBlock b fin all (rest_of ss)) (Here (next_of ss))) u) → Answers K level (StmtEnds (quick_node [] s) aims) P body (list_cost ss) (OfBlock b fin all ss)
      answer ih (Goes g) f u p = absurd p
      answer ih (Rests r) f u p = t.rests _
      answer ih (Raises r) f u p = absurd p
      answer ih (Fails e r) f u p = t.fails e _
      answer ih Past f u p = ih u p
      answer ih (Registers q) f u p = absurd p
      answer ih AtBlockEnd f u p = absurd p
      answer ih AtLoopHead f u p = absurd p
      answer ih (Ends v) f u p = absurd p
      answer ih (Leaves n x) f u p = left_settles _ P (n == (out-KBlock b).node) b fin all f body n x u (t.leaves n x f u (seq_exit n x (quick_node [] s) (quick_list [] ss) p.0) p.1)

  -- from the start of a block
  pub begun_halts : (aims : List Aim) (b : KBlock) (body : Body) (w : World) (P : Outcome → Type 0)
      → EachHalts aims (out-KBlock b).list → Takes (quick_list [] (out-KBlock b).list) aims b [] no_instance body P → Halts K level P body (suc (list_cost (out-KBlock b).list)) (Here (Begin b)) w
  unfolding local
  begun_halts aims b body w P h t =
      halts_first K level P body (list_cost (out-KBlock b).list) (suc (list_cost (out-KBlock b).list)) (Here (Begin b)) w (omega arith) (list_halts (out-KBlock b).list aims b [] no_instance body w P h t)

  -- an exit from a block whose node comes after those of the aims goes on outward
  pub block_takes : (aims : List Aim) (b : KBlock) (fin : List KNode) (all : Instances) (body : Body) → Below aims (out-KBlock b).node
      → Takes (quick_list [] (out-KBlock b).list) aims b fin all body (BlockEnds (quick_list [] (out-KBlock b).list) aims)
  block_takes aims b fin all body below = record {
    rests = λ r. tt;
    fails = λ e r. tt;
    ends = λ h v. h;
    leaves = λ n x f w h l. go (n == (out-KBlock b).node) n x f w refl h l;
  }
    where
      go : (t : Bool) (n : ℕ) (x : Exit) (f : Focus Act) (w : World) → (n == (out-KBlock b).node) ≡ t → Among (exit_way n x) (quick_list [] (out-KBlock b).list) → Leads aims n x
          → BlockEnds (quick_list [] (out-KBlock b).list) aims (body_left t b fin all f body n x w).outcome
      go true n x f w q h l = let a = leads_below aims (out-KBlock b).node n x below l in let e = eqb-true n (out-KBlock b).node q in absurd (omega (arith, a, e))
      go false n x f w q h l = (h, l)

  pub any_takes : (q : List Way) (aims : List Aim) (b : KBlock) (fin : List KNode) (all : Instances) (body : Body) → Takes q aims b fin all body (λ x. Unit {0})
  any_takes q aims b fin all body = record { rests = λ r. tt; fails = λ e r. tt; ends = λ h v. tt; leaves = λ n x f w h l. tt }

  -- ---- do and if

  open_settles : (go : Focus Act → World → Type 0) (Q : Outcome → Type 0) (t : Bool) (s : KNode) (f : Focus Act) (body : Body) (n : ℕ) (x : Exit) (w : World)
      → (t ≡ true → Q Past) → (t ≡ false → Q (Leaves n x)) → Settles go Q (open_left t s f body n x w)
  open_settles go Q true s f body n x w h k = h refl
  open_settles go Q false s f body n x w h k = k refl

  pub do_answers : (s : KNode) (t : Option Loc) (q : List Way) (aims : List Aim) (body : Body) → Below aims s.node
      → Answers K level (BlockEnds q (do_aim K s.node t ∷ aims)) (StmtEnds (do_ways s.node q) aims) body 0 (OfOpen s)
  do_answers s t q aims body below (Goes g) f w p = absurd p
  do_answers s t q aims body below (Rests r) f w p = tt
  do_answers s t q aims body below (Raises r) f w p = absurd p
  do_answers s t q aims body below (Fails e r) f w p = tt
  do_answers s t q aims body below Past f w p = absurd p
  do_answers s t q aims body below (Registers y) f w p = absurd p
  do_answers s t q aims body below AtBlockEnd f w p = absurd p
  do_answers s t q aims body below AtLoopHead f w p = absurd p
  do_answers s t q aims body below (Ends v) f w p = do_end s.node q p
  do_answers s t q aims body below (Leaves n x) f w p = open_settles _ (StmtEnds (do_ways s.node q) aims) (n == s.node) s f body n x w (λ e. own (eqb-true n s.node e) p.1) (λ e. outer (eqb-false n s.node e) p.1)
    where
      escaped : (y : Exit) → (v : ℤ) × (y ≡ Escape v) → s.node ≡ n → Among (exit_way n y) q → Among ToEnd (do_ways s.node q)
      escaped (Escape v) z e h = do_escape s.node n q e h
      escaped Break z e h = absurd (let k = z.1 in cc)
      escaped Continue z e h = absurd (let k = z.1 in cc)

      own : n ≡ s.node → aims_at (do_aim K s.node t) n x ⊎ Leads aims n x → Among ToEnd (do_ways s.node q)
      own e (inl a) = escaped x (do_escapes K s.node n t x a) (sym e) p.0
      own e (inr l) = let a = leads_below aims s.node n x below l in absurd (omega (arith, a, e))

      outer : (n ≡ s.node → ⊥) → aims_at (do_aim K s.node t) n x ⊎ Leads aims n x → Among (exit_way n x) (do_ways s.node q) × Leads aims n x
      outer e (inl a) = absurd (e (sym (aims_node (do_aim K s.node t) n x a) ∙ do_node K s.node t))
      outer e (inr l) = (do_exit s.node n x q (λ i. e (sym i)) p.0, l)

  pub if_answers : (s : KNode) (q all : List Way) (aims : List Aim) (body : Body) → Below aims s.node → ((w : Way) → Among w q → Among w all)
      → Answers K level (BlockEnds q aims) (StmtEnds all aims) body 0 (OfOpen s)
  if_answers s q all aims body below sub (Goes g) f w p = absurd p
  if_answers s q all aims body below sub (Rests r) f w p = tt
  if_answers s q all aims body below sub (Raises r) f w p = absurd p
  if_answers s q all aims body below sub (Fails e r) f w p = tt
  if_answers s q all aims body below sub Past f w p = absurd p
  if_answers s q all aims body below sub (Registers y) f w p = absurd p
  if_answers s q all aims body below sub AtBlockEnd f w p = absurd p
  if_answers s q all aims body below sub AtLoopHead f w p = absurd p
  if_answers s q all aims body below sub (Ends v) f w p = sub ToEnd p
  if_answers s q all aims body below sub (Leaves n x) f w p =
      open_settles _ (StmtEnds all aims) (n == s.node) s f body n x w
      (λ e. (let a = leads_below aims s.node n x below p.1 in let i = eqb-true n s.node e in absurd (omega (arith, a, i))))
      (λ e. (sub (exit_way n x) p.0, p.1))

  pub open_any : (s : KNode) (P : Outcome → Type 0) (body : Body) → Answers K level P (λ x. Unit {0}) body 0 (OfOpen s)
  open_any s P body (Goes g) f w p = absurd p
  open_any s P body (Leaves n x) f w p = open_settles _ (λ y. Unit {0}) (n == s.node) s f body n x w (λ e. tt) (λ e. tt)
  open_any s P body x f w p = tt
