-- What a step of a turn pays: what is left of a part costs less than the part did, by what the step pays, and may be left by no other way.
use Rattle.std.specs.Prelude.{◌≡◌, ◌≤◌, ℕ, Bool, true, false, ◌||◌, List, ◌⊎◌, [], ◌∷◌, Option, Some, None}
use Rattle.ceu_tree.specs.declared.kernel.KLoop.{KLoop}
use Rattle.ceu_tree.specs.declared.kernel.KBlock.{KBlock, out-KBlock}
use Rattle.ceu_tree.specs.declared.kernel.KStmt.{out-KStmt}
use Rattle.ceu_tree.specs.declared.kernel.KStmt.TheOpen.{KStmt-F}
use Rattle.std.specs.List.{list_any}
use Rattle.ceu_tree.specs.Residual.{Residual, Run}
use Rattle.ceu_tree.specs.Focus.{Frame, OfLoop, Focus, Here, In, plug, leaf}
use Rattle.ceu_tree.specs.Leaf.{Layer, Exit, Escape, Break, Continue}
use Rattle.ceu_tree.specs.Around.{Outcome, Goes, Rests, Raises, Fails, Leaves, is_over}
use Rattle.ceu_tree.specs.Paths.{Way, ToEnd, ToEscape, ToBreak, ToContinue, is_escape, has_end, constant_bound, quick_block}
use Rattle.ceu_tree.specs.Costs.{Cost, cost, nothing, plus, paced, paced_body}
use Rattle.laws_meaning_basics.specs.Shape.{Part, ABlock}
use Rattle.laws_bounds_steps.specs.Ways.{leads_to, goes_on, ways}
use Rattle.laws_bounds_steps.specs.Due.{at_await, at_head, running, due, due_at_head}

-- at most as much, part by part
pub record Within (a b : Cost) : Type 0 where
  pub turns : a.turns ≤ b.turns
  pub opens : a.opens ≤ b.opens

-- a way is one of a list, and each way of one list is one of the other
abbrev pub IsOf : List Way → Way → Type 0
IsOf [] w = ⊥
IsOf (x ∷ xs) w = (x ≡ w) ⊎ IsOf xs w

abbrev pub Fewer : List Way → List Way → Type 0
Fewer q p = (w : Way) → IsOf q w → IsOf p w

abbrev pub way_of : ℕ → Exit → Way
way_of n (Escape v) = ToEscape n
way_of n Break = ToBreak n
way_of n Continue = ToContinue n

-- a block that begins with an await that may pace a loop
abbrev pub is_paced : Option ℕ → Bool
is_paced None = false
is_paced (Some e) = true

abbrev pub may_be_paced : Part → Bool
may_be_paced (ABlock turn sc b) = is_paced (paced_body b)
may_be_paced d = false

module _ (passing : List Bool) (events : List Cost) (entering : List Cost) where
  -- what was left of the part d as `before` pays k, and `after` is left
  pub record Pays (d : Part) (k : Cost) (after before : Residual) : Type 0 where
    pub costs : Within (plus k (due passing events entering after)) (due passing events entering before)
    pub fewer : Fewer (ways passing after) (ways passing before)
    pub ended : (is_over after || has_end (ways passing after)) ≡ true → (is_over before || has_end (ways passing before)) ≡ true
    -- in a loop that an event paces it stays at the head, and so does a leaf at its await
    pub head : may_be_paced d ≡ true → at_head before ≡ true
        → (at_head after ≡ true) × Within (plus k (due_at_head passing events entering after)) (due_at_head passing events entering before)
    pub await : at_await before ≡ true → (at_await after ≡ true) × Within (plus k (running after)) (running before)

  -- a turn that is past its part
  pub record Leaving (r : Residual) (w : Way) : Type 0 where
    pub way : IsOf (ways passing r) w
    pub pays : Within (cost 1 0) (due passing events entering r)
    pub past_await : at_await r ≡ false
    pub past_head : at_head r ≡ true → Within (cost 1 0) (due_at_head passing events entering r)

  -- what a turn of that level has come to in the part d, of which r was left with the turn in it: it goes on, is over and has paid its turn, has opened a
  -- level too, or leaves the part
  abbrev pub Comes : (level : ℕ) → Part → Residual → Outcome → Type 0
  Comes n d r (Goes g) = Pays d nothing (plug g (Run n (leaf g))) r
  Comes n d r (Rests q) = Pays d (cost 1 0) q r
  Comes n d r (Raises q) = Pays d (cost 1 1) q r
  Comes n d r (Fails e q) = Unit {0}
  Comes n d r (Leaves node x) = Leaving r (way_of node x)
  Comes n d r x = Leaving r ToEnd

-- ---- loops that keep the rules

-- A loop without a constant bound that no event paces doesn't go on at once (B1); no escape leads to a loop, and no exit to its body.
pub record LoopKeeps (passing : List Bool) (node : ℕ) (k : KLoop) (b : KBlock) : Type 0 where
  pub stands : constant_bound k ≡ None → paced k b ≡ None → goes_on node (quick_block passing b) ≡ false
  pub breaks : list_any (is_escape node) (quick_block passing b) ≡ false
  pub clear : list_any (leads_to (out-KBlock b).node) (quick_block passing b) ≡ false

abbrev pub layer_keeps : List Bool → ℕ → Layer → Type 0
layer_keeps passing node (KStmt-F.Loop k b) = LoopKeeps passing node k b
layer_keeps passing node layer = Unit {0}

abbrev pub frame_keeps : List Bool → Frame → Type 0
frame_keeps passing (OfLoop s c) = layer_keeps passing s.node (out-KStmt s.stmt)
frame_keeps passing fr = Unit {0}

-- every loop around the trail whose turn is on
unfoldable pub focus_keeps : {A : Type 0} → List Bool → Focus A → Type 0
focus_keeps passing (Here a) = Unit {0}
focus_keeps passing (In fr f) = frame_keeps passing fr × focus_keeps passing f
