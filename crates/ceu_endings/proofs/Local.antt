-- A step of a part by itself, in the parts around it, and turns of a part that are over after some number of steps.
use Rattle.std.proofs.Common.{◌≡◌, refl, sym, subst, ◌<◌, ◌≤◌, ℕ, zero, suc, ◌+◌, arith}
use Rattle.ceu_tree.specs.declared.kernel.Kernel.{Kernel}
use Rattle.ceu_tree.specs.Residual.{Body, Act, Over}
use Rattle.ceu_tree.specs.Focus.{Frame, Focus, In, plug, graft, leaf, body_in, body_of}
use Rattle.ceu_tree.specs.World.{World}
use Rattle.ceu_tree.specs.Leaf as does
use Rattle.ceu_tree.specs.Leaf.{Does, acted}
use Rattle.ceu_tree.specs.Around.{Outcome, Goes, Rests, Raises, Fails, Past, Registers, AtBlockEnd, AtLoopHead, Ends, Leaves, Moved, moved, through, up}

-- what a leaf's deed makes of the part around it; emissions, spawns and kills are none of one trail
abbrev pub does_local : Body → Focus Act → Does → World → Moved
does_local body f (does.Opens x) w = moved (Goes (graft f x)) w
does_local body f (does.Waits r) w = moved (Rests (plug f r)) w
does_local body f does.Passes w = up body f Past w
does_local body f (does.Leaves node x) w = up body f (Leaves node x) w
does_local body f (does.Registers s) w = up body f (Registers s) w
does_local body f does.Ends w = up body f AtBlockEnd w
does_local body f does.Heads w = up body f AtLoopHead w
does_local body f (does.Fails e) w = moved (Fails e (plug f Over)) w
does_local body f x w = moved (Rests (plug f Over)) w

-- a turn goes on, or has come to an outcome
abbrev pub goes_or : (Focus Act → World → Type 0) → (Outcome → Type 0) → Outcome → World → Type 0
goes_or go P (Goes g) w = go g w
goes_or go P x w = P x

abbrev pub Settles : (Focus Act → World → Type 0) → (Outcome → Type 0) → Moved → Type 0
Settles go P m = goes_or go P m.outcome m.world

module _ (K : Kernel) (level : ℕ) where
  unfoldable pub local : Body → Focus Act → World → Moved
  local body f w = let d = acted K level (body_of f body) (leaf f) w in does_local body f d.does d.world

  -- the turn comes to an outcome with P after so many steps at most
  unfoldable pub Halts : (Outcome → Type 0) → Body → ℕ → Focus Act → World → Type 0
  Halts P body zero f w = ⊥
  Halts P body (suc n) f w = Settles (Halts P body n) P (local body f w)

  does_in : (fr : Frame) (body : Body) (f : Focus Act) (x : Does) (w : World)
      → does_local body (In fr f) x w ≡ (let m = does_local (body_in fr body) f x w in through body fr f m.outcome m.world)
  unfolding up
  does_in fr body f (does.Opens x) w = refl
  does_in fr body f (does.Waits r) w = refl
  does_in fr body f does.Passes w = refl
  does_in fr body f (does.Leaves node x) w = refl
  does_in fr body f (does.Registers s) w = refl
  does_in fr body f does.Ends w = refl
  does_in fr body f does.Heads w = refl
  does_in fr body f (does.Fails e) w = refl
  does_in fr body f (does.Emits s e v) w = refl
  does_in fr body f (does.Spawns s c code pool alias vs) w = refl
  does_in fr body f (does.Kills k) w = refl

  -- the part around answers what the part inside comes to
  pub local_in : (fr : Frame) (body : Body) (f : Focus Act) (w : World) → local body (In fr f) w ≡ (let m = local (body_in fr body) f w in through body fr f m.outcome m.world)
  unfolding local
  local_in fr body f w = let d = acted K level (body_of f (body_in fr body)) (leaf f) w in does_in fr body f d.does d.world

  -- ---- more steps, and weaker outcomes

  settles_weaker : (go go' : Focus Act → World → Type 0) (P Q : Outcome → Type 0) (x : Outcome) (w : World)
      → ((g : Focus Act) (u : World) → go g u → go' g u) → ((y : Outcome) → P y → Q y) → goes_or go P x w → goes_or go' Q x w
  settles_weaker go go' P Q (Goes g) w h k s = h g w s
  settles_weaker go go' P Q (Rests r) w h k s = k (Rests r) s
  settles_weaker go go' P Q (Raises r) w h k s = k (Raises r) s
  settles_weaker go go' P Q (Fails e r) w h k s = k (Fails e r) s
  settles_weaker go go' P Q Past w h k s = k Past s
  settles_weaker go go' P Q (Registers q) w h k s = k (Registers q) s
  settles_weaker go go' P Q AtBlockEnd w h k s = k AtBlockEnd s
  settles_weaker go go' P Q AtLoopHead w h k s = k AtLoopHead s
  settles_weaker go go' P Q (Ends v) w h k s = k (Ends v) s
  settles_weaker go go' P Q (Leaves node x) w h k s = k (Leaves node x) s

  pub halts_weaker : (P Q : Outcome → Type 0) (body : Body) (n m : ℕ) (f : Focus Act) (w : World) → n ≤ m → ((x : Outcome) → P x → Q x) → Halts P body n f w → Halts Q body m f w
  unfolding Halts
  halts_weaker P Q body zero m f w l k h = absurd h
  halts_weaker P Q body (suc n) zero f w l k h = absurd (omega (arith, l))
  halts_weaker P Q body (suc n) (suc m) f w l k h =
      settles_weaker (Halts P body n) (Halts Q body m) P Q (local body f w).outcome (local body f w).world (λ g u x. halts_weaker P Q body n m g u (omega (arith, l)) k x) k h

  pub settles_more : (P : Outcome → Type 0) (body : Body) (n m : ℕ) (x : Moved) → n ≤ m → Settles (Halts P body n) P x → Settles (Halts P body m) P x
  settles_more P body n m x l s = settles_weaker (Halts P body n) (Halts P body m) P P x.outcome x.world (λ g u y. halts_weaker P P body n m g u l (λ z p. p) y) (λ z p. p) s

  -- ---- a turn inside a part, and then the part's answer

  -- what the part around makes of each outcome with P that a turn inside comes to
  abbrev pub Answers : (Outcome → Type 0) → (Outcome → Type 0) → Body → ℕ → Frame → Type 0
  Answers P Q body m fr = (x : Outcome) (f : Focus Act) (w : World) → goes_or (λ g u. ⊥) P x w → Settles (Halts Q body m) Q (through body fr f x w)

  pub halts_first : (P : Outcome → Type 0) (body : Body) (n m : ℕ) (f : Focus Act) (w : World) → n < m → Settles (Halts P body n) P (local body f w) → Halts P body m f w
  unfolding Halts
  halts_first P body n zero f w l s = absurd (omega (arith, l))
  halts_first P body n (suc m) f w l s = settles_more P body n m (local body f w) (omega (arith, l)) s

  pub halts_in : (P Q : Outcome → Type 0) (body : Body) (n m : ℕ) (fr : Frame) (f : Focus Act) (w : World) → Answers P Q body m fr → Halts P (body_in fr body) n f w → Halts Q body (n + m) (In fr f) w
  unfolding Halts
  halts_in P Q body zero m fr f w a h = absurd h
  halts_in P Q body (suc n) m fr f w a h =
      halts_first Q body (n + m) (suc n + m) (In fr f) w (omega arith) (subst (Settles (Halts Q body (n + m)) Q) (sym (local_in fr body f w)) (go (local (body_in fr body) f w).outcome (local (body_in fr body) f w).world (λ g u s. halts_in P Q body n m fr g u a s) h))
    where
      go : (x : Outcome) (u : World) → ((g : Focus Act) (v : World) → Halts P (body_in fr body) n g v → Halts Q body (n + m) (In fr g) v) → goes_or (Halts P (body_in fr body) n) P x u → Settles (Halts Q body (n + m)) Q (through body fr f x u)
      go (Goes g) u ih s = ih g u s
      go (Rests r) u ih s = settles_more Q body m (n + m) (through body fr f (Rests r) u) (omega arith) (a (Rests r) f u s)
      go (Raises r) u ih s = settles_more Q body m (n + m) (through body fr f (Raises r) u) (omega arith) (a (Raises r) f u s)
      go (Fails e r) u ih s = settles_more Q body m (n + m) (through body fr f (Fails e r) u) (omega arith) (a (Fails e r) f u s)
      go Past u ih s = settles_more Q body m (n + m) (through body fr f Past u) (omega arith) (a Past f u s)
      go (Registers q) u ih s = settles_more Q body m (n + m) (through body fr f (Registers q) u) (omega arith) (a (Registers q) f u s)
      go AtBlockEnd u ih s = settles_more Q body m (n + m) (through body fr f AtBlockEnd u) (omega arith) (a AtBlockEnd f u s)
      go AtLoopHead u ih s = settles_more Q body m (n + m) (through body fr f AtLoopHead u) (omega arith) (a AtLoopHead f u s)
      go (Ends v) u ih s = settles_more Q body m (n + m) (through body fr f (Ends v) u) (omega arith) (a (Ends v) f u s)
      go (Leaves node x) u ih s = settles_more Q body m (n + m) (through body fr f (Leaves node x) u) (omega arith) (a (Leaves node x) f u s)
