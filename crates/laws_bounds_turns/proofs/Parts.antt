-- Turns in blocks, in do, if and awaited code, and in pars: on which ways they leave them.
use Rattle.std.proofs.Common.{◌≡◌, refl, sym, subst, ℕ, Bool, true, false, if◌then◌else◌, ◌==◌, List, [], ◌∷◌, Option, Some, None, inl, inr, ◌⊎◌}
use Rattle.ceu_tree.specs.declared.kernel.Kernel.{Kernel}
use Rattle.ceu_tree.specs.declared.kernel.ParKind.{ParKind}
use Rattle.ceu_tree.specs.declared.kernel.ParKind.TheVariants as par
use Rattle.ceu_tree.specs.declared.kernel.KNode.{KNode}
use Rattle.ceu_tree.specs.declared.kernel.KBlock.{KBlock, out-KBlock}
use Rattle.ceu_tree.specs.declared.kernel.KStmt.{out-KStmt}
use Rattle.ceu_tree.specs.Residual.{Body, Act, Begin, Start, Over, Par, Branches, branch, Instances, no_instance}
use Rattle.ceu_tree.specs.Focus.{Frame, OfBlock, OfOpen, OfCall, OfPar, Focus, Here, In, join}
use Rattle.ceu_tree.specs.World.{World}
use Rattle.ceu_tree.specs.Leaf.{Exit, next_of, rest_of}
use Rattle.ceu_tree.specs.Around.{Outcome, Goes, Rests, Past, Registers, AtBlockEnd, Ends, Leaves, all_over, kind_of, moved, rejoined, body_left, open_left, through, up}
use Rattle.ceu_tree.specs.Step.{unseat_frame}
use Rattle.ceu_tree.specs.Paths.{Way, ToEnd, seq_ways, quick_node, quick_block, quick_list}
use Rattle.ceu_tree.proofs.PathLaws.{quick_of_block}
use Rattle.laws_bounds_steps.specs.Ways.{out_of}
use Rattle.laws_bounds_steps.specs.Pays.{IsOf, Fewer, way_of}
use Rattle.laws_bounds_steps.proofs.WayLists.{sub_out, out_end, out_own, out_other}
use Rattle.laws_bounds_steps.proofs.Steps.{seq_then, seq_exit}
use Rattle.laws_bounds_turns.proofs.Halting.{LeftAt, Halts, Comes, halts_of, halts_in, halts_under, halts_more}

-- ---- the ways of a turn, which in a turn of an async are any

abbrev pub allowed : (quiet : Bool) → List Way → Option Way → Type 0
allowed quiet q None = ⊥
allowed true q (Some w) = Unit {0}
allowed false q (Some w) = IsOf q w

abbrev pub any : Option Way → Type 0
any v = Unit {0}

pub allow : (quiet : Bool) (q : List Way) (w : Way) → (quiet ≡ false → IsOf q w) → allowed quiet q (Some w)
allow true q w h = tt
allow false q w h = h refl

pub allow_as : (quiet : Bool) (q r : List Way) (v w : Way) → (quiet ≡ false → IsOf q v → IsOf r w) → allowed quiet q (Some v) → allowed quiet r (Some w)
allow_as true q r v w h a = tt
allow_as false q r v w h a = h refl a

pub allow_more : (quiet : Bool) (q r : List Way) → (quiet ≡ false → Fewer q r) → (v : Option Way) → allowed quiet q v → allowed quiet r v
allow_more quiet q r h None a = absurd a
allow_more true q r h (Some w) a = tt
allow_more false q r h (Some w) a = h refl w a

pub allowed_is : (quiet : Bool) (q : List Way) (w : Way) → quiet ≡ false → allowed quiet q (Some w) → IsOf q w
allowed_is true q w e a = absurd (cc)
allowed_is false q w e a = a

module _ (K : Kernel) (n : ℕ) (quiet : Bool) (P : List Bool) where
  -- ---- an open block, with any registered finalizers and any instances

  data OfThis (b : KBlock) (rest : List KNode) : Frame → Type 0 where
    this : {fin : List KNode} {all : Instances} → OfThis b rest (OfBlock b fin all rest)

  stays : (b : KBlock) (rest : List KNode) (k : ℕ) (fr : Frame) → OfThis b rest fr → OfThis b rest (unseat_frame k fr)
  stays b rest k fr (this) = this

  module _ (b : KBlock) (rest : List KNode) (Q R : Option Way → Type 0)
      (next : (fin : List KNode) (all : Instances) → Q (Some ToEnd) → Halts K n quiet R (In (OfBlock b fin all (rest_of rest)) (Here (next_of rest))))
      (ends : Q None → R (Some ToEnd)) (own : (node : ℕ) (x : Exit) → (node == (out-KBlock b).node) ≡ true → Q (Some (way_of node x)) → R (Some ToEnd))
      (other : (node : ℕ) (x : Exit) → (node == (out-KBlock b).node) ≡ false → Q (Some (way_of node x)) → R (Some (way_of node x))) where
    left : (fin : List KNode) (all : Instances) (c : Body) (f : Focus Act) (node : ℕ) (x : Exit) (u : World) (t : Bool) → (node == (out-KBlock b).node) ≡ t → Q (Some (way_of node x)) → Comes K n quiet R (body_left t b fin all f c node x u).outcome
    left fin all c f node x u true e q = own node x e q
    left fin all c f node x u false e q = other node x e q

    answer : (fin : List KNode) (all : Instances) (c : Body) (f : Focus Act) (x : Outcome) (u : World) → LeftAt Q x → Comes K n quiet R (through c (OfBlock b fin all rest) f x u).outcome
    answer fin all c f (Goes g) u l = absurd l
    answer fin all c f Past u l = λ e. next fin all l
    answer fin all c f (Registers s) u l = λ e. next (s ∷ fin) all l
    answer fin all c f AtBlockEnd u l = ends l
    answer fin all c f (Leaves node x) u l = left fin all c f node x u (node == (out-KBlock b).node) refl l
    answer fin all c f x u l = tt

    takes : (fr : Frame) → OfThis b rest fr → (c : Body) (f : Focus Act) (x : Outcome) (u : World) → LeftAt Q x → Comes K n quiet R (through c fr f x u).outcome
    takes fr (this {fin = fin} {all = all}) c f x u l = answer fin all c f x u l

    pub block_halts : (f : Focus Act) (fin : List KNode) (all : Instances) → Halts K n quiet Q f → Halts K n quiet R (In (OfBlock b fin all rest) f)
    block_halts f fin all h = halts_in K n quiet Q R (OfThis b rest) (stays b rest) takes f h (OfBlock b fin all rest) this

  -- from a statement of a block on, or from the block's end

  abbrev pub EachHalts : List KNode → Type 0
  EachHalts [] = Unit {0}
  EachHalts (s ∷ ss) = Halts K n quiet (allowed quiet (quick_node P s)) (Here (Start s)) × EachHalts ss

  pub list_halts : (b : KBlock) (rest : List KNode) (fin : List KNode) (all : Instances) → EachHalts rest
      → Halts K n quiet (allowed quiet (out_of (out-KBlock b).node (quick_list P rest))) (In (OfBlock b fin all (rest_of rest)) (Here (next_of rest)))
  unfolding up
  list_halts b [] fin all h = halts_of K n quiet _ _ (λ a c w u. allow quiet (out_of (out-KBlock b).node (ToEnd ∷ [])) ToEnd (λ e. out_end (out-KBlock b).node (ToEnd ∷ []) (inl refl)))
  list_halts b (s ∷ ss) fin all h =
      let q = quick_node P s in
      let r = quick_list P ss in
      let o = (out-KBlock b).node in
      block_halts b ss (allowed quiet q) (allowed quiet (out_of o (seq_ways q r)))
      (λ f2 a2 m. halts_more K n quiet (allowed quiet (out_of o r)) (allowed quiet (out_of o (seq_ways q r))) _
      (allow_more quiet (out_of o r) (out_of o (seq_ways q r)) (λ e. sub_out o r (seq_ways q r) (seq_then q r (allowed_is quiet q ToEnd e m)))) (list_halts b ss f2 a2 h.1))
      (λ m. absurd m)
      (λ node x e. allow_as quiet q (out_of o (seq_ways q r)) (way_of node x) ToEnd (λ z i. out_own node o x (seq_ways q r) e (seq_exit node x q r i)))
      (λ node x e. allow_as quiet q (out_of o (seq_ways q r)) (way_of node x) (way_of node x) (λ z i. out_other node o x (seq_ways q r) e (seq_exit node x q r i)))
      (Here (Start s)) fin all h.0

  -- from the start of a block

  pub begun_halts : (b : KBlock) → EachHalts (out-KBlock b).list → Halts K n quiet (allowed quiet (out_of (out-KBlock b).node (quick_block P b))) (Here (Begin b))
  begun_halts b h = halts_of K n quiet _ (Here (Begin b)) (λ a c w u e. subst (λ q. Halts K n quiet (allowed quiet (out_of (out-KBlock b).node q)) (In (OfBlock b [] no_instance (rest_of (out-KBlock b).list)) (Here (next_of (out-KBlock b).list)))) (sym (quick_of_block P b)) (list_halts b (out-KBlock b).list [] no_instance h))

  -- ---- do and if: q are the ways of the block inside

  module _ (s : KNode) (Q R : Option Way → Type 0) (ends : Q (Some ToEnd) → R (Some ToEnd))
      (own : (node : ℕ) (x : Exit) → (node == s.node) ≡ true → Q (Some (way_of node x)) → R (Some ToEnd))
      (other : (node : ℕ) (x : Exit) → (node == s.node) ≡ false → Q (Some (way_of node x)) → R (Some (way_of node x))) where
    opened_left : (c : Body) (f : Focus Act) (node : ℕ) (x : Exit) (u : World) (t : Bool) → (node == s.node) ≡ t → Q (Some (way_of node x)) → Comes K n quiet R (open_left t s f c node x u).outcome
    opened_left c f node x u true e q = own node x e q
    opened_left c f node x u false e q = other node x e q

    open_takes : (c : Body) (f : Focus Act) (x : Outcome) (u : World) → LeftAt Q x → Comes K n quiet R (through c (OfOpen s) f x u).outcome
    open_takes c f (Goes g) u l = absurd l
    open_takes c f (Ends v) u l = ends l
    open_takes c f (Leaves node x) u l = opened_left c f node x u (node == s.node) refl l
    open_takes c f x u l = tt

    pub open_halts : (f : Focus Act) → Halts K n quiet Q f → Halts K n quiet R (In (OfOpen s) f)
    open_halts f h = halts_under K n quiet Q R (OfOpen s) f (λ k. refl) open_takes h

  pub part_halts : (s : KNode) (q r : List Way) (f : Focus Act) → (quiet ≡ false → Fewer (out_of s.node q) r) → Halts K n quiet (allowed quiet q) f → Halts K n quiet (allowed quiet r) (In (OfOpen s) f)
  part_halts s q r f sub h = open_halts s (allowed quiet q) (allowed quiet r)
      (allow_as quiet q r ToEnd ToEnd (λ z i. sub z ToEnd (out_end s.node q i)))
      (λ node x e. allow_as quiet q r (way_of node x) ToEnd (λ z i. sub z ToEnd (out_own node s.node x q e i)))
      (λ node x e. allow_as quiet q r (way_of node x) (way_of node x) (λ z i. sub z (way_of node x) (out_other node s.node x q e i))) f h

  -- ---- awaited code, which hands all on

  module _ (s : KNode) (Q : Option Way → Type 0) where
    call_takes : (c : Body) (f : Focus Act) (x : Outcome) (u : World) → LeftAt Q x → Comes K n quiet Q (through c (OfCall s) f x u).outcome
    call_takes c f (Goes g) u l = absurd l
    call_takes c f (Ends v) u l = l
    call_takes c f (Leaves node x) u l = l
    call_takes c f x u l = tt

    pub call_halts : (f : Focus Act) → Halts K n quiet Q f → Halts K n quiet Q (In (OfCall s) f)
    call_halts f h = halts_under K n quiet Q Q (OfCall s) f (λ k. refl) call_takes h

  -- ---- pars, with the branch whose turn it is

  module _ (s : KNode) (front back : Branches) (Q R : Option Way → Type 0)
      (ends : (kind_of (out-KStmt s.stmt) ≡ par.Or) ⊎ ((kind_of (out-KStmt s.stmt) ≡ par.And) × (all_over (join front (branch Over back)) ≡ true)) → Q (Some ToEnd) → R (Some ToEnd))
      (exits : (node : ℕ) (x : Exit) → Q (Some (way_of node x)) → R (Some (way_of node x))) where
    joined : (k : ParKind) (c : Body) (u : World) → kind_of (out-KStmt s.stmt) ≡ k → Q (Some ToEnd) → Comes K n quiet R (rejoined k s (join front (branch Over back)) c u).outcome
    joined par.Never c u e q = tt
    joined par.Or c u e q = ends (inl e) q
    joined par.And c u e q = go (all_over (join front (branch Over back))) refl
      where
        go : (t : Bool) → all_over (join front (branch Over back)) ≡ t → Comes K n quiet R (if t then moved Past u else moved (Rests (Par s (join front (branch Over back)))) u).outcome
        go true z = ends (inr (e, z)) q
        go false z = tt

    par_takes : (c : Body) (f : Focus Act) (x : Outcome) (u : World) → LeftAt Q x → Comes K n quiet R (through c (OfPar s front back) f x u).outcome
    par_takes c f (Goes g) u l = absurd l
    par_takes c f (Ends v) u l = joined (kind_of (out-KStmt s.stmt)) c u refl l
    par_takes c f (Leaves node x) u l = exits node x l
    par_takes c f x u l = tt

    pub par_halts : (f : Focus Act) → Halts K n quiet Q f → Halts K n quiet R (In (OfPar s front back) f)
    par_halts f h = halts_under K n quiet Q R (OfPar s front back) f (λ k. refl) par_takes h
