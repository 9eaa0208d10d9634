-- A turn is over in the end wherever in it the trail is, if what is left of each part around it is.
use Rattle.std.proofs.Common.{◌≡◌, refl, ℕ, ◌+◌, ◌-◌, pos, ◌+ℤ◌, int_lt, Bool, true, false, if◌then◌else◌, ◌==◌, List, [], arith}
use Rattle.std.proofs.lemmas.Bool.{false≢true}
use Rattle.ceu_tree.specs.declared.kernel.Kernel.{Kernel}
use Rattle.ceu_tree.specs.declared.kernel.KLoop.{KLoop}
use Rattle.ceu_tree.specs.declared.kernel.KLoop.TheVariants as turns
use Rattle.ceu_tree.specs.declared.kernel.KNode.{KNode}
use Rattle.ceu_tree.specs.declared.kernel.KBlock.{KBlock}
use Rattle.ceu_tree.specs.declared.kernel.KStmt.{out-KStmt}
use Rattle.ceu_tree.specs.declared.kernel.KStmt.TheOpen.{KStmt-F}
use Rattle.ceu_tree.specs.Residual.{Body, Act, Begin, Start, Finish, AtEnd, AtHead, Again, Counter, Free, Turns, Upward}
use Rattle.ceu_tree.specs.Focus.{Frame, OfBlock, OfInstance, OfOpen, OfLoop, OfCall, OfPar, Focus, Here, In}
use Rattle.ceu_tree.specs.World.{World}
use Rattle.ceu_tree.specs.Leaf.{Exit, Escape, Break, Continue}
use Rattle.ceu_tree.specs.Around.{Outcome, Goes, AtLoopHead, Ends, Leaves, Moved, next_turn, loop_left, through, up}
use Rattle.ceu_tree.specs.Paths.{passes_from}
use Rattle.laws_meaning_basics.specs.Shape.{counts}
use Rattle.ceu_endings.specs.Counted.{turns_left, turns_counted}
use Rattle.laws_bounds_turns.proofs.Halting.{LeftAt, Halts, Comes, halts_of, halts_under, halts_more}
use Rattle.laws_bounds_turns.proofs.Parts.{any, EachHalts, list_halts, block_halts, open_halts, call_halts, par_halts}
use Rattle.laws_bounds_turns.proofs.Loops.{HeadComes, LoopTakes, turn_halts, free_turn, times_turn, range_turn}
use Rattle.laws_bounds_turns.proofs.Started.{BlockHalts, Turn}

module _ (K : Kernel) (n : ℕ) (quiet : Bool) where
  abbrev pub Comes_any : Moved → Type 0
  Comes_any m = Comes K n quiet any m.outcome

  -- ---- what is asked of the leaf, and of each part around it

  abbrev pub ActReady : Act → Type 0
  ActReady (Begin b) = BlockHalts K n quiet b
  ActReady (Start s) = Halts K n quiet any (Here (Start s))
  ActReady a = Unit {0}

  abbrev pub FrameReady : Frame → Type 0
  FrameReady (OfBlock b fin all rest) = EachHalts K n quiet (passes_from [] K.codes) rest
  FrameReady (OfLoop s c) = (body : Body) (u : World) → Comes_any (next_turn s (out-KStmt s.stmt) c body u)
  FrameReady fr = Unit {0}

  abbrev pub FocusReady : Focus Act → Type 0
  FocusReady (Here a) = ActReady a
  FocusReady (In fr f) = FrameReady fr × FocusReady f

  leaf_halts : (a : Act) → ActReady a → Halts K n quiet any (Here a)
  unfolding up
  leaf_halts (Begin b) h = halts_more K n quiet _ any (Here (Begin b)) (λ w i. tt) h
  leaf_halts (Start s) h = h
  leaf_halts (Finish s v) h = halts_of K n quiet any (Here (Finish s v)) (λ a c w u. tt)
  leaf_halts AtEnd h = halts_of K n quiet any (Here AtEnd) (λ a c w u. tt)
  leaf_halts AtHead h = halts_of K n quiet any (Here AtHead) (λ a c w u. tt)
  leaf_halts Again h = halts_of K n quiet any (Here Again) (λ a c w u. tt)

  -- ---- loops

  module _ (s : KNode) (c : Counter) (head : (body : Body) (u : World) → Comes_any (next_turn s (out-KStmt s.stmt) c body u)) where
    again_any : Halts K n quiet any (In (OfLoop s c) (Here Again))
    unfolding up
    again_any = halts_of K n quiet any (In (OfLoop s c) (Here Again)) (λ a e w u. head e u)

    left_any : (t : Bool) (x : Exit) (f : Focus Act) (body : Body) (node : ℕ) (u : World) → Comes_any (loop_left t s c f body node x u)
    left_any true Continue f body node u = λ e. again_any
    left_any true Break f body node u = tt
    left_any true (Escape v) f body node u = tt
    left_any false x f body node u = tt

    loop_any : (body : Body) (f : Focus Act) (x : Outcome) (u : World) → LeftAt any x → Comes_any (through body (OfLoop s c) f x u)
    loop_any body f (Goes g) u l = absurd l
    loop_any body f AtLoopHead u l = head body u
    loop_any body f (Ends v) u l = λ e. again_any
    loop_any body f (Leaves node x) u l = left_any (node == s.node) x f body node u
    loop_any body f x u l = tt

  instance_any : (b : KBlock) (fin : List KNode) (front : _) (seat : _) (back : _) (r : _) (rest : List KNode) (body : Body) (f : Focus Act) (x : Outcome) (u : World)
      → LeftAt any x → Comes_any (through body (OfInstance b fin front seat back r rest) f x u)
  instance_any b fin front seat back r rest body f (Goes g) u l = absurd l
  instance_any b fin front seat back r rest body f x u l = tt

  pub focus_halts : (f : Focus Act) → FocusReady f → Halts K n quiet any f
  focus_halts (Here a) h = leaf_halts a h
  focus_halts (In (OfBlock b fin all rest) f) h = block_halts K n quiet (passes_from [] K.codes) b rest any any
      (λ fin2 all2 m. halts_more K n quiet _ any _ (λ w i. tt) (list_halts K n quiet (passes_from [] K.codes) b rest fin2 all2 h.0)) (λ m. tt) (λ node x e m. tt) (λ node x e m. tt) f fin all (focus_halts f h.1)
  focus_halts (In (OfInstance b fin front seat back r rest) f) h = halts_under K n quiet any any (OfInstance b fin front seat back r rest) f (λ k. refl) (instance_any b fin front seat back r rest) (focus_halts f h.1)
  focus_halts (In (OfOpen s) f) h = open_halts K n quiet (passes_from [] K.codes) s any any (λ m. tt) (λ node x e m. tt) (λ node x e m. tt) f (focus_halts f h.1)
  focus_halts (In (OfLoop s c) f) h = halts_under K n quiet any any (OfLoop s c) f (λ k. refl) (loop_any s c h.0) (focus_halts f h.1)
  focus_halts (In (OfCall s) f) h = call_halts K n quiet (passes_from [] K.codes) s any f (focus_halts f h.1)
  focus_halts (In (OfPar s front back) f) h = par_halts K n quiet (passes_from [] K.codes) s front back any any (λ z m. tt) (λ node x m. tt) f (focus_halts f h.1)

  -- ---- the head of a loop whose counter lies within its bound

  module _ (s : KNode) (b : KBlock) where
    takes_any : (k : KLoop) (is : out-KStmt s.stmt ≡ KStmt-F.Loop k b) (t : Turn K n quiet s k b) → LoopTakes K n quiet any s k b is t.ways
    takes_any k is t = record { inside = t.halts; breaks = λ node x e z m. tt; leaves = λ node x e m. tt }

    pub counted_head : (k : KLoop) (is : out-KStmt s.stmt ≡ KStmt-F.Loop k b) (c : Counter) → Turn K n quiet s k b → counts k c ≡ true → turns_counted k c → HeadComes K n quiet any s k b is c
    counted_head turns.Free is c t h m = free_turn K n quiet any s b t.ways is (takes_any turns.Free is t) (t.stands refl) c
    counted_head (turns.Times slot limit) is (Turns j) t h m = times_turn K n quiet any s b t.ways slot limit is (takes_any (turns.Times slot limit) is t) (limit - j) j (omega (arith, m))
    counted_head (turns.Times slot limit) is Free t h m = absurd (false≢true h)
    counted_head (turns.Times slot limit) is (Upward at last) t h m = absurd (false≢true h)
    counted_head (turns.Range i next end open_a x y open_b) is (Upward at last) t h m =
        range_turn K n quiet any s b t.ways i next end open_a x y open_b is (takes_any (turns.Range i next end open_a x y open_b) is t) (λ e g. tt) (turns_left at last) at last refl (λ e. tt)
    counted_head (turns.Range i next end open_a x y open_b) is Free t h m = absurd (false≢true h)
    counted_head (turns.Range i next end open_a x y open_b) is (Turns j) t h m = absurd (false≢true h)

    -- in an async any counter will do, since a turn of the loop is the last
    either : (t : Bool) (x y : Moved) → Comes_any x → Comes_any y → Comes_any (if t then x else y)
    either true x y h k = h
    either false x y h k = k

    pub quiet_head : quiet ≡ true → (k : KLoop) (is : out-KStmt s.stmt ≡ KStmt-F.Loop k b) (c : Counter) → Turn K n quiet s k b → HeadComes K n quiet any s k b is c
    quiet_head q k is c t = go k is c t
      where
        on : (k : KLoop) (is : out-KStmt s.stmt ≡ KStmt-F.Loop k b) (c : Counter) → Turn K n quiet s k b → Halts K n quiet any (In (OfLoop s c) (Here (Begin b)))
        on k is c t = turn_halts K n quiet any s k b is t.ways (takes_any k is t) c (λ e g. absurd (cc))

        go : (k : KLoop) (is : out-KStmt s.stmt ≡ KStmt-F.Loop k b) (c : Counter) → Turn K n quiet s k b → HeadComes K n quiet any s k b is c
        go turns.Free is c t body u = λ e. on turns.Free is c t
        go (turns.Times slot limit) is (Turns j) t body u = either (j == limit) _ _ tt (λ e. on (turns.Times slot limit) is (Turns (j + 1)) t)
        go (turns.Times slot limit) is Free t body u = λ e. on (turns.Times slot limit) is Free t
        go (turns.Times slot limit) is (Upward at last) t body u = λ e. on (turns.Times slot limit) is (Upward at last) t
        go (turns.Range i next end open_a x y open_b) is (Upward at last) t body u = either (int_lt last at) _ _ tt (λ e. on (turns.Range i next end open_a x y open_b) is (Upward (at +ℤ pos 1) last) t)
        go (turns.Range i next end open_a x y open_b) is Free t body u = λ e. on (turns.Range i next end open_a x y open_b) is Free t
        go (turns.Range i next end open_a x y open_b) is (Turns j) t body u = λ e. on (turns.Range i next end open_a x y open_b) is (Turns j) t
