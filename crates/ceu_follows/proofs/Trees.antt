-- Where a tree of one trail stands, its one leaf has the first gate and all others are free; which trail is chosen.
use Rattle.std.proofs.Common.{◌≡◌, refl, sym, ap, ◌∙◌, subst, ℕ, zero, suc, ◌+◌, ◌<◌, [], append-nil, length, Option, Some, None, arith, ⊎_elim}
use Rattle.std.proofs.lemmas.Bool.{cases_lt}
use Rattle.ceu_code.specs.declared.image.Image.{Image}
use Rattle.ceu_tree.specs.declared.kernel.Kernel.{Kernel}
use Rattle.ceu_tree.specs.declared.kernel.KBlock.{out-KBlock}
use Rattle.ceu_tree.specs.declared.kernel.KStmt.{out-KStmt}
use Rattle.ceu_tree.specs.Residual.{Body, Program, Act, Residual, Run, WaitInput, WaitTime, WaitForever, Block, Open, Loop, Instances}
use Rattle.ceu_tree.specs.Focus.{Frame, OfBlock, OfOpen, OfLoop, Focus, Here, In, leaf, under, or_else, in_block, choose, choose_instance}
use Rattle.ceu_tree.specs.Wake.{runs_at}
use Rattle.laws_meaning_basics.specs.Shape.{Part, Fits, to_begin, to_turn, in_list, to_finish, at_input, at_time, at_event, at_forever, at_async, in_part, in_turn, in_call, in_par}
use Rattle.laws_machine_layout.specs.Tables.{Tables}
use Rattle.laws_machine_layout.specs.Views.{View, Free, Home}
use Rattle.laws_machine_layout.specs.Parts.{CounterStands, finalizers, pools_gates}
use Rattle.laws_machine_layout.specs.Leaves.{LeafGate}
use Rattle.laws_machine_layout.specs.Stands.{Stands}
use Rattle.ceu_endings.specs.OneTrail.{OneLeaf}
use Rattle.ceu_trail.specs.Parts.{PartSingle}
use Rattle.ceu_trail.specs.Turning.{home, FrameCounts, Counted}
use Rattle.ceu_trail.proofs.Plain.{blocks_are_plain}
use Rattle.ceu_trail.proofs.Singles.{AllSingle, list_single, among_single, part_single}
use Rattle.ceu_trail.proofs.Codes.{loop_single}

-- ---- trees whose blocks take no gates of their own

unfoldable pub Light : Tables → Residual → Type 0
Light t (Block b fin all r rest) = (finalizers b ≡ 0) × (pools_gates t (out-KBlock b).decls ≡ 0) × Light t r
Light t (Open s r) = Light t r
Light t (Loop s c r) = Light t r
Light t r = Unit {0}

module _ (K : Kernel) (t : Tables) where
  pub tree_light : {top : ℕ} {d : Part} {r : Residual} → Fits K top d r → PartSingle d → OneLeaf top r → Light t r
  unfolding Light OneLeaf
  tree_light (to_begin l) h o = tt
  tree_light (to_turn l p) h o = tt
  tree_light (in_list {b = b} {rest = rest} {s = s} done q z i more) h o =
      let plain = blocks_are_plain b h in
      let none : finalizers b ≡ 0 = ap length (plain.no_finalizer (out-KBlock b).list [] (sym (append-nil _))) in
      let single = among_single done s rest (subst (AllSingle) q (list_single b h)) in
      (none, plain.no_pool t, tree_light more single o.2)
  tree_light (to_finish l p) h o = tt
  tree_light (at_input x e) h o = tt
  tree_light (at_time x u y e) h o = tt
  tree_light (at_event x e) h o = absurd o
  tree_light (at_forever e) h o = tt
  tree_light (at_async b e f) h o = absurd o
  tree_light (in_part {s = s} b q f) h o = tree_light f (part_single s.stmt b h q) o
  tree_light (in_turn {s = s} k b q x f) h o = tree_light f (loop_single s.stmt k b q h) o
  tree_light (in_call c es f x k q e more) h o = absurd o
  tree_light (in_par k slot bs q e more) h o = absurd o

-- ---- the leaf

unfoldable pub bottom : Residual → Residual
bottom (Block b fin all r rest) = bottom r
bottom (Open s r) = bottom r
bottom (Loop s c r) = bottom r
bottom r = r

module _ (t : Tables) (homes : Body → Home) (v : View) where
  pub record AtGate (r : Residual) (low high : ℕ) : Type 0 where
    pub some_gate : low < high
    pub gate_is : LeafGate t (homes Program) (bottom r) (v.gate low)
    pub others : Free v (low + 1) high

  both_free : (low mid high : ℕ) → Free v low mid → Free v mid high → Free v low high
  both_free low mid high a b = record { free_at = λ g x y. ⊎_elim (λ lt. a.free_at g x lt) (λ ge. b.free_at g ge y) (cases_lt g mid) }

  pub at_gate : (top : ℕ) (r : Residual) (low high : ℕ) → OneLeaf top r → Light t r → Stands t homes v r Program low high → AtGate r low high
  unfolding OneLeaf Light bottom Stands
  at_gate top (Block b fin all r rest) low high o l x =
      let start : (low + finalizers b) + pools_gates t (out-KBlock b).decls ≡ low = omega (arith, l.0, l.1) in
      let inner : AtGate r low (low + t.count (out-KBlock b).node) =
      at_gate top r low (low + t.count (out-KBlock b).node) o.2 l.2 (subst (λ i. Stands t homes v r Program i (low + t.count (out-KBlock b).node)) start x.inner) in
      record { some_gate = omega (arith, inner.some_gate, x.within); gate_is = inner.gate_is; others = both_free (low + 1) (low + t.count (out-KBlock b).node) high inner.others x.behind }
  at_gate top (Open s r) low high o l x = let i = at_gate top r low high o l x.inner in record { some_gate = i.some_gate; gate_is = i.gate_is; others = i.others }
  at_gate top (Loop s c r) low high o l x = let i = at_gate top r low high o l x.inner in record { some_gate = i.some_gate; gate_is = i.gate_is; others = i.others }
  at_gate top (Run n a) low high o l x = record { some_gate = x.some_gate; gate_is = x.gate_is; others = x.others }
  at_gate top (WaitInput k s) low high o l x = record { some_gate = x.some_gate; gate_is = x.gate_is; others = x.others }
  at_gate top (WaitTime d s) low high o l x = record { some_gate = x.some_gate; gate_is = x.gate_is; others = x.others }
  at_gate top (WaitForever s) low high o l x = record { some_gate = x.some_gate; gate_is = x.gate_is; others = x.others }
  at_gate top r low high o l x = absurd o

-- ---- the trail that is chosen

pub record Chosen (t : Tables) (image : Image) (homes : Body → Home) (v : View) (r : Residual) (f : Focus Act) : Type 0 where
  pub bottom_is : bottom r ≡ Run 0 (leaf f)
  pub counted : Counted t image v f

none_some : (f : Focus Act) → None ≡ Some f → ⊥
none_some f h = absurd (cc)

abbrev focus_or : Focus Act → Option (Focus Act) → Focus Act
focus_or f None = f
focus_or f (Some g) = g

same_focus : (f g : Focus Act) → Some f ≡ Some g → f ≡ g
same_focus f g h = ap (focus_or f) h

abbrev act_or : Act → Option Act → Act
act_or a None = a
act_or a (Some b) = b

module _ (t : Tables) (image : Image) (homes : Body → Home) (v : View) (there : homes Program ≡ home image Program) where
  under_frame : (fr : Frame) (r q : Residual) (f : Focus Act) (o : Option (Focus Act)) → bottom q ≡ bottom r → FrameCounts t image v fr → ((g : Focus Act) → o ≡ Some g → Chosen t image homes v r g)
      → under fr o ≡ Some f → Chosen t image homes v q f
  unfolding Counted
  under_frame fr r q f None b c h e = absurd (none_some f e)
  under_frame fr r q f (Some g) b c h e =
      let i = h g refl in subst (Chosen t image homes v q) (same_focus (In fr g) f e) (record { bottom_is = b ∙ i.bottom_is; counted = (c, i.counted) })

  pub chosen : (r : Residual) (f : Focus Act) (low high : ℕ) → OneLeaf 1 r → choose Act (runs_at 0) r ≡ Some f → Stands t homes v r Program low high → Chosen t image homes v r f
  unfolding OneLeaf choose choose_instance Stands bottom Counted
  chosen (Block b fin all r rest) f low high p e x =
      let e' : under (OfBlock b fin all rest) (choose Act (runs_at 0) r) ≡ Some f =
      subst (λ (i : Instances). or_else (in_block b fin r rest (choose_instance Act (runs_at 0) i)) (under (OfBlock b fin all rest) (choose Act (runs_at 0) r)) ≡ Some f) p.1 e in
      under_frame (OfBlock b fin all rest) r (Block b fin all r rest) f (choose Act (runs_at 0) r) refl tt (λ g q. chosen r g ((low + finalizers b) + pools_gates t (out-KBlock b).decls) (low + t.count (out-KBlock b).node) p.2 q x.inner) e'
  chosen (Open s r) f low high p e x = under_frame (OfOpen s) r (Open s r) f (choose Act (runs_at 0) r) refl tt (λ g q. chosen r g low high p q x.inner) e
  chosen (Loop s c r) f low high p e x =
      under_frame (OfLoop s c) r (Loop s c r) f (choose Act (runs_at 0) r) refl (subst (λ (h : Home). CounterStands t v h (out-KStmt s.stmt) c) there x.counted) (λ g q. chosen r g low high p q x.inner) e
  chosen (Run zero a) f low high p e x = subst (Chosen t image homes v (Run 0 a)) (same_focus (Here a) f e) (record { bottom_is = refl; counted = tt })
  chosen (Run (suc n) a) f low high p e x = absurd (omega (arith, p))
  chosen (WaitInput k s) f low high p e x = absurd (none_some f e)
  chosen (WaitTime d s) f low high p e x = absurd (none_some f e)
  chosen (WaitForever s) f low high p e x = absurd (none_some f e)
  chosen r f low high p e x = absurd p

-- ---- where none is chosen

abbrev pub Stays : Residual → Type 0
Stays (Run n a) = ⊥
Stays r = Unit {0}

some_none : (f : Focus Act) → Some f ≡ None → ⊥
some_none f h = absurd (cc)

under_none : (fr : Frame) (o : Option (Focus Act)) → under fr o ≡ None → o ≡ None
under_none fr None h = refl
under_none fr (Some f) h = absurd (some_none (In fr f) h)

pub stays : (r : Residual) → OneLeaf 1 r → choose Act (runs_at 0) r ≡ None → Stays (bottom r)
unfolding OneLeaf choose choose_instance bottom
stays (Block b fin all r rest) p e =
    let e' : under (OfBlock b fin all rest) (choose Act (runs_at 0) r) ≡ None =
    subst (λ (i : Instances). or_else (in_block b fin r rest (choose_instance Act (runs_at 0) i)) (under (OfBlock b fin all rest) (choose Act (runs_at 0) r)) ≡ None) p.1 e in
    stays r p.2 (under_none (OfBlock b fin all rest) (choose Act (runs_at 0) r) e')
stays (Open s r) p e = stays r p (under_none (OfOpen s) (choose Act (runs_at 0) r) e)
stays (Loop s c r) p e = stays r p (under_none (OfLoop s c) (choose Act (runs_at 0) r) e)
stays (Run zero a) p e = absurd (some_none (Here a) e)
stays (Run (suc n) a) p e = absurd (omega (arith, p))
stays (WaitInput k s) p e = tt
stays (WaitTime d s) p e = tt
stays (WaitForever s) p e = tt
stays r p e = absurd p
