-- A step of a part by itself, in the parts around it, and turns of a part that are over in the end, whatever the variables hold.
--
-- In a turn that a part is in by itself the leaf may read any world, and so may the parts around it: that forgets more than a turn does.
use Rattle.std.proofs.Common.{◌≡◌, refl, sym, ap, ◌∙◌, subst, ℕ, Bool, false, ◌&&◌, Option, Some, None}
use Rattle.ceu_tree.specs.declared.kernel.Kernel.{Kernel}
use Rattle.ceu_tree.specs.Residual.{Body, Act, Over}
use Rattle.ceu_tree.specs.Focus.{Frame, Focus, In, plug, graft, leaf, body_in}
use Rattle.ceu_tree.specs.World.{World}
use Rattle.ceu_tree.specs.Leaf as does
use Rattle.ceu_tree.specs.Leaf.{Does, acted}
use Rattle.ceu_tree.specs.Around.{Outcome, Goes, Rests, Raises, Fails, Past, Registers, AtBlockEnd, AtLoopHead, Ends, Leaves, Moved, moved, through, up}
use Rattle.ceu_tree.specs.Step.{unseat_frame, unseat}
use Rattle.ceu_tree.specs.Run.{is_again}
use Rattle.ceu_tree.specs.Paths.{Way, ToEnd}
use Rattle.laws_bounds_steps.specs.Pays.{way_of}

-- what a leaf's deed makes of the part around it: an emission ends the turn, and so does a spawn that has a place
abbrev pub does_local : Body → Focus Act → Does → World → Moved
does_local body f (does.Opens x) w = moved (Goes (graft f x)) w
does_local body f (does.Waits r) w = moved (Rests (plug f r)) w
does_local body f does.Passes w = up body f Past w
does_local body f (does.Leaves node x) w = up body f (Leaves node x) w
does_local body f (does.Registers s) w = up body f (Registers s) w
does_local body f does.Ends w = up body f AtBlockEnd w
does_local body f does.Heads w = up body f AtLoopHead w
does_local body f (does.Emits s e v) w = moved (Rests (plug f Over)) w
does_local body f (does.Spawns s c code pool alias vs) w = up body f Past w
does_local body f (does.Kills k) w = up body (unseat k f) Past w
does_local body f (does.Fails e) w = moved (Fails e (plug f Over)) w

-- the ways on which a turn may leave a part, where None is said of the end of a block and of a loop's head that the part around it has
abbrev pub Left : (Option Way → Type 0) → Outcome → Type 0
Left Q (Goes g) = Unit {0}
Left Q (Rests r) = Unit {0}
Left Q (Raises r) = Unit {0}
Left Q (Fails e r) = Unit {0}
Left Q (Leaves node x) = Q (Some (way_of node x))
Left Q AtBlockEnd = Q None
Left Q AtLoopHead = Q None
Left Q x = Q (Some ToEnd)

abbrev pub LeftAt : (Option Way → Type 0) → Outcome → Type 0
LeftAt Q (Goes g) = ⊥
LeftAt Q (Rests r) = Unit {0}
LeftAt Q (Raises r) = Unit {0}
LeftAt Q (Fails e r) = Unit {0}
LeftAt Q (Leaves node x) = Q (Some (way_of node x))
LeftAt Q AtBlockEnd = Q None
LeftAt Q AtLoopHead = Q None
LeftAt Q x = Q (Some ToEnd)

-- with `quiet`, a turn of an async, which is over where a loop's turn is completed
module _ (K : Kernel) (n : ℕ) (quiet : Bool) where
  abbrev pub deed : Body → Focus Act → World → Does
  deed body f w = (acted K n body (leaf f) w).does

  -- a turn that is over after some number of steps, and leaves the part on ways with Q alone
  pub data Halts (Q : Option Way → Type 0) : Focus Act → Type 0 where
    halts : {f : Focus Act}
        → ((a b : Body) (w u : World) (g : Focus Act) → (does_local b f (deed a f w) u).outcome ≡ Goes g → (quiet && is_again (leaf g)) ≡ false → Halts Q g)
        → ((a b : Body) (w u : World) → Left Q (does_local b f (deed a f w) u).outcome) → Halts Q f

  abbrev pub Comes : (Option Way → Type 0) → Outcome → Type 0
  Comes Q (Goes g) = (quiet && is_again (leaf g)) ≡ false → Halts Q g
  Comes Q x = LeftAt Q x

  came : (Q : Option Way → Type 0) (x : Outcome) → Comes Q x → (g : Focus Act) → x ≡ Goes g → (quiet && is_again (leaf g)) ≡ false → Halts Q g
  came Q (Goes h) c g e q = let i : h ≡ g = cc in subst (Halts Q) i (c (ap (λ k. quiet && is_again (leaf k)) i ∙ q))
  came Q x c g e q = absurd (cc)

  left_by : (Q : Option Way → Type 0) (x : Outcome) → Comes Q x → Left Q x
  left_by Q (Goes g) c = tt
  left_by Q (Rests r) c = tt
  left_by Q (Raises r) c = tt
  left_by Q (Fails e r) c = tt
  left_by Q x c = c

  pub halts_of : (Q : Option Way → Type 0) (f : Focus Act) → ((a b : Body) (w u : World) → Comes Q (does_local b f (deed a f w) u).outcome) → Halts Q f
  halts_of Q f h = halts (λ a b w u. came Q (does_local b f (deed a f w) u).outcome (h a b w u)) (λ a b w u. left_by Q (does_local b f (deed a f w) u).outcome (h a b w u))

  -- ---- a turn in a part, and in the part around it

  module _ (Q R : Option Way → Type 0) (F : Frame → Type 0) (stays : (k : ℕ) (fr : Frame) → F fr → F (unseat_frame k fr))
      (takes : (fr : Frame) → F fr → (b : Body) (f : Focus Act) (x : Outcome) (u : World) → LeftAt Q x → Comes R (through b fr f x u).outcome) where
    abbrev Inner : Outcome → Type 0
    Inner (Goes g) = (quiet && is_again (leaf g)) ≡ false → (fr : Frame) → F fr → Halts R (In fr g)
    Inner x = LeftAt Q x

    inner : (x : Outcome) → ((g : Focus Act) → x ≡ Goes g → (quiet && is_again (leaf g)) ≡ false → (fr : Frame) → F fr → Halts R (In fr g)) → Left Q x → Inner x
    inner (Goes g) h l = h g refl
    inner (Rests r) h l = tt
    inner (Raises r) h l = tt
    inner (Fails e r) h l = tt
    inner x h l = l

    answer : (fr : Frame) → F fr → (b : Body) (f : Focus Act) (x : Outcome) (u : World) → Inner x → Comes R (through b fr f x u).outcome
    answer fr m b f (Goes g) u i = λ q. i q fr m
    answer fr m b f (Rests r) u i = takes fr m b f (Rests r) u i
    answer fr m b f (Raises r) u i = takes fr m b f (Raises r) u i
    answer fr m b f (Fails e r) u i = takes fr m b f (Fails e r) u i
    answer fr m b f Past u i = takes fr m b f Past u i
    answer fr m b f (Registers s) u i = takes fr m b f (Registers s) u i
    answer fr m b f AtBlockEnd u i = takes fr m b f AtBlockEnd u i
    answer fr m b f AtLoopHead u i = takes fr m b f AtLoopHead u i
    answer fr m b f (Ends v) u i = takes fr m b f (Ends v) u i
    answer fr m b f (Leaves node x) u i = takes fr m b f (Leaves node x) u i

    around : (fr : Frame) → F fr → (f : Focus Act) (d : Does) → ((b : Body) (u : World) → Inner (does_local b f d u).outcome) → (b : Body) (u : World) → Comes R (does_local b (In fr f) d u).outcome
    unfolding up
    around fr m f (does.Kills k) h b u =
        let x = up (body_in (unseat_frame k fr) b) (unseat k f) Past u in answer (unseat_frame k fr) (stays k fr m) b (unseat k f) x.outcome x.world (h (body_in (unseat_frame k fr) b) u)
    around fr m f d h b u = let x = does_local (body_in fr b) f d u in answer fr m b f x.outcome x.world (h (body_in fr b) u)

    pub halts_in : (f : Focus Act) → Halts Q f → (fr : Frame) → F fr → Halts R (In fr f)
    halts_in f (halts go left) fr m = halts_of R (In fr f) (λ a b w u. around fr m f (deed a f w)
        (λ c v. inner (does_local c f (deed a f w) v).outcome (λ g e q gr k. halts_in g (go a c w v g e q) gr k) (left a c w v)) b u)

  -- a frame that has no instances
  pub halts_under : (Q R : Option Way → Type 0) (fr : Frame) (f : Focus Act) → ((k : ℕ) → unseat_frame k fr ≡ fr)
      → ((b : Body) (g : Focus Act) (x : Outcome) (u : World) → LeftAt Q x → Comes R (through b fr g x u).outcome) → Halts Q f → Halts R (In fr f)
  halts_under Q R fr f same takes h = halts_in Q R (λ gr. fr ≡ gr) (λ k gr e. sym (same k) ∙ ap (unseat_frame k) e)
      (λ gr e b g x u l. subst (λ hr. Comes R (through b hr g x u).outcome) e (takes b g x u l)) f h fr refl

  -- ---- more ways

  more_left : (Q R : Option Way → Type 0) (x : Outcome) → ((w : Option Way) → Q w → R w) → Left Q x → Left R x
  more_left Q R (Goes g) s l = tt
  more_left Q R (Rests r) s l = tt
  more_left Q R (Raises r) s l = tt
  more_left Q R (Fails e r) s l = tt
  more_left Q R (Leaves node x) s l = s (Some (way_of node x)) l
  more_left Q R AtBlockEnd s l = s None l
  more_left Q R AtLoopHead s l = s None l
  more_left Q R x s l = s (Some ToEnd) l

  pub halts_more : (Q R : Option Way → Type 0) (f : Focus Act) → ((w : Option Way) → Q w → R w) → Halts Q f → Halts R f
  halts_more Q R f s (halts go left) = halts (λ a b w u g e q. halts_more Q R g s (go a b w u g e q)) (λ a b w u. more_left Q R (does_local b f (deed a f w) u).outcome s (left a b w u))
