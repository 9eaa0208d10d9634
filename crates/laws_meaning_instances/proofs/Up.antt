-- What the parts around a leaf do keeps the balance of the numbers that live and those of the instances that are left.
use Rattle.std.proofs.Common.{◌≡◌, refl, sym, ℕ, ◌+◌, ℤ, pos, Bool, true, false, if◌then◌else◌, ◌==◌, int_lt, List, ◌∷◌, Option, Some, None, arith}
use Rattle.ceu_base.specs.declared.kinds.Mark.TheVariants as mark
use Rattle.ceu_tree.specs.declared.kernel.KLoop.{KLoop}
use Rattle.ceu_tree.specs.declared.kernel.KLoop.TheVariants as turns
use Rattle.ceu_tree.specs.declared.kernel.Loc.{Loc}
use Rattle.ceu_tree.specs.declared.kernel.ParKind.{ParKind}
use Rattle.ceu_tree.specs.declared.kernel.ParKind.TheVariants as par
use Rattle.ceu_tree.specs.declared.kernel.KNode.{KNode}
use Rattle.ceu_tree.specs.declared.kernel.KBlock.{KBlock, out-KBlock}
use Rattle.ceu_tree.specs.declared.kernel.KStmt.{out-KStmt}
use Rattle.ceu_tree.specs.declared.kernel.KStmt.TheOpen.{KStmt-F}
use Rattle.ceu_tree.specs.Residual.{Body, Act, Counter, Turns, Upward, Over, Run, WaitInput, WaitTime, WaitEvent, WaitForever, InAsync, Block, Open, Loop, Call, Par, Branches, no_branch, branch, Instances}
use Rattle.ceu_tree.specs.Focus.{Frame, OfBlock, OfInstance, OfOpen, OfLoop, OfCall, OfPar, Focus, Here, In, join, join_instances, fill, plug, body_in}
use Rattle.ceu_tree.specs.World.{World, marked, assign_if, dead}
use Rattle.ceu_tree.specs.Abort.{aborted, returned}
use Rattle.ceu_tree.specs.Leaf.{Layer, Exit, Escape, Break, Continue, target}
use Rattle.ceu_tree.specs.Around.{Outcome, Goes, Rests, Raises, Fails, Past, Registers, AtBlockEnd, AtLoopHead, Ends, Leaves, Moved, moved, value_with, goes_on, body_left, open_left, again, begins_turn, turn_of, next_turn, loop_exit, loop_left, all_over, kind_of, rejoined, through, up, taken, answered}
use Rattle.laws_meaning_instances.proofs.Living.{once, lives, live_branches, live_instances, Kept, kept_same, kept_then, kept_beside, kept_equal, Quiet, quiet, quiet_then, kept_quiet, forget_loop_quiet, dead_kept, aborted_kept, closed_kept}
use Rattle.laws_meaning_instances.proofs.Trees.{live_frame, live_focus, join_lives, join_instances_live, fill_lives, plug_lives}

-- what is left of the inner focus f, where the trail comes to that
abbrev pub left : {A : Type 0} → ℕ → Focus A → Outcome → ℕ
left p f (Goes g) = live_focus p g
left p f (Rests r) = lives p r
left p f (Raises r) = lives p r
left p f (Fails e r) = lives p r
left p f (Leaves node x) = live_focus p f
left p f _ = 0

pub record Balanced (p : ℕ) (w : World) (m : ℕ) (f : Focus Act) (a : Moved) : Type 0 where
  pub kept : Kept p w m a.world (left p f a.outcome)

abbrev pub stays : (p : ℕ) (w : World) (m : ℕ) (f : Focus Act) (x : Outcome) → left p f x ≡ m → Balanced p w m f (moved x w)
stays p w m f x e = record { kept = kept_equal p w w m m m _ refl (sym e) (kept_same p w w m (quiet w)) }

abbrev pub becomes : (p : ℕ) (w u : World) (m : ℕ) (f : Focus Act) (x : Outcome) → Kept p w m u (left p f x) → Balanced p w m f (moved x u)
becomes p w u m f x h = record { kept = h }

assign_if_quiet : (body : Body) (t : Option Loc) (v : ℤ) (w : World) → Quiet w (assign_if body t v w)
assign_if_quiet body None v w = quiet w
assign_if_quiet body (Some l) v w = record { living = refl; given = refl }

plug_aborted : (p : ℕ) (f : Focus Act) (body : Body) (w : World) (c : ℕ) → Kept p w (live_focus p f + c) (aborted (plug f Over) body w) c
unfolding lives
plug_aborted p f body w c = kept_equal p w _ (lives p (plug f Over) + c) c _ c (omega (arith, plug_lives p f Over)) refl (aborted_kept (plug f Over) p body w c)

all_over_stands : (p : ℕ) (bs : Branches) → all_over bs ≡ true → live_branches p bs ≡ 0
unfolding lives
all_over_stands p no_branch e = refl
all_over_stands p (branch Over more) e = omega (arith, all_over_stands p more e)
all_over_stands p (branch (Run n a) more) e = absurd (cc)
all_over_stands p (branch (WaitInput n a) more) e = absurd (cc)
all_over_stands p (branch (WaitTime n a) more) e = absurd (cc)
all_over_stands p (branch (WaitEvent n a) more) e = absurd (cc)
all_over_stands p (branch (WaitForever a) more) e = absurd (cc)
all_over_stands p (branch (InAsync a b c) more) e = absurd (cc)
all_over_stands p (branch (Block a b c d f) more) e = absurd (cc)
all_over_stands p (branch (Open a b) more) e = absurd (cc)
all_over_stands p (branch (Loop a b c) more) e = absurd (cc)
all_over_stands p (branch (Call a b) more) e = absurd (cc)
all_over_stands p (branch (Par a b) more) e = absurd (cc)

module _ (p : ℕ) (body : Body) (w : World) where
  either : (m : ℕ) (f : Focus Act) (b : Bool) (x y : Moved) → Balanced p w m f x → Balanced p w m f y → Balanced p w m f (if b then x else y)
  either m f true x y h k = h
  either m f false x y h k = k

  body_left_balanced : (b : Bool) (k : KBlock) (fin : List KNode) (all : Instances) (rest : List KNode) (f : Focus Act) (node : ℕ) (x : Exit)
      → Balanced p w (live_instances p all + live_focus p f) (In (OfBlock k fin all rest) f) (body_left b k fin all f body node x w)
  unfolding live_focus
  body_left_balanced true k fin all rest f node x =
      becomes p w _ _ _ (Ends (value_with x)) (kept_then p w (aborted (plug f Over) body w) _ _ (live_instances p all) _
      (kept_equal p w _ (live_focus p f + (live_instances p all)) (live_instances p all) _ _ (omega arith) refl (plug_aborted p f body w _))
      (closed_kept p k fin all body _))
  body_left_balanced false k fin all rest f node x = stays p w _ _ (Leaves node x) refl

  open_left_balanced : (b : Bool) (s : KNode) (f : Focus Act) (node : ℕ) (x : Exit) → Balanced p w (0 + live_focus p f) (In (OfOpen s) f) (open_left b s f body node x w)
  unfolding live_focus
  open_left_balanced true s f node x =
      becomes p w _ _ _ Past (kept_quiet p w _ _ _ 0 (kept_equal p w _ (live_focus p f + 0) 0 _ 0 (omega arith) refl (plug_aborted p f body w 0)) (assign_if_quiet body (target s) (value_with x) _))
  open_left_balanced false s f node x = stays p w _ _ (Leaves node x) refl

  loop_exit_balanced : (s : KNode) (c : Counter) (f : Focus Act) (x : Exit) → Balanced p w (0 + live_focus p f) (In (OfLoop s c) f) (loop_exit s c x body (aborted (plug f Over) body w))
  unfolding live_focus
  loop_exit_balanced s c f Continue = becomes p w _ _ _ (again s c w).outcome (kept_equal p w _ (live_focus p f + 0) 0 _ _ (omega arith) refl (plug_aborted p f body w 0))
  loop_exit_balanced s c f Break = becomes p w _ _ _ Past (kept_quiet p w _ _ _ 0 (kept_equal p w _ (live_focus p f + 0) 0 _ 0 (omega arith) refl (plug_aborted p f body w 0)) (forget_loop_quiet body s.stmt _))
  loop_exit_balanced s c f (Escape v) = becomes p w _ _ _ Past (kept_quiet p w _ _ _ 0 (kept_equal p w _ (live_focus p f + 0) 0 _ 0 (omega arith) refl (plug_aborted p f body w 0)) (forget_loop_quiet body s.stmt _))

  loop_left_balanced : (b : Bool) (s : KNode) (c : Counter) (f : Focus Act) (node : ℕ) (x : Exit) → Balanced p w (0 + live_focus p f) (In (OfLoop s c) f) (loop_left b s c f body node x w)
  unfolding live_focus
  loop_left_balanced true s c f node x = loop_exit_balanced s c f x
  loop_left_balanced false s c f node x = stays p w _ _ (Leaves node x) refl

  past_quiet : (f : Focus Act) (u : World) → Quiet w u → Balanced p w (0 + 0) f (moved Past u)
  past_quiet f u q = becomes p w u _ f Past (kept_quiet p w w u _ 0 (kept_same p w w 0 (quiet w)) q)

  begins_balanced : (s : KNode) (c : Counter) (b : KBlock) (f : Focus Act) (u : World) → Quiet w u → Balanced p w (0 + 0) f (begins_turn s c b u)
  unfolding live_focus
  begins_balanced s c b f u q = becomes p w u _ f (begins_turn s c b u).outcome (kept_quiet p w w u _ _ (kept_same p w w 0 (quiet w)) q)

  turn_balanced : (s : KNode) (k : KLoop) (b : KBlock) (c : Counter) (f : Focus Act) → Balanced p w (0 + 0) f (turn_of s k b c body w)
  unfolding lives
  turn_balanced s (turns.Times slot limit) b (Turns k) f =
      either _ f (k == limit) _ _ (stays p w _ f (Fails _ (Loop s (Turns k) Over)) refl) (begins_balanced s (Turns (k + 1)) b f w (quiet w))
  turn_balanced s (turns.Range i at end open_a x y open_b) b (Upward next last) f =
      either _ f (int_lt last next) _ _ (past_quiet f _ (forget_loop_quiet body s.stmt w)) (begins_balanced s _ b f _ (record { living = refl; given = refl }))
  turn_balanced s kind b c f = begins_balanced s c b f w (quiet w)

  next_turn_balanced : (s : KNode) (layer : Layer) (c : Counter) (f : Focus Act) → Balanced p w (0 + 0) f (next_turn s layer c body w)
  next_turn_balanced s (KStmt-F.Loop kind b) c f = turn_balanced s kind b c f
  next_turn_balanced s _ c f = past_quiet f w (quiet w)

  rejoined_balanced : (k : ParKind) (s : KNode) (bs : Branches) (f : Focus Act) → Balanced p w (live_branches p bs) f (rejoined k s bs body w)
  unfolding lives aborted
  rejoined_balanced par.Never s bs f = stays p w _ f (Rests (Par s bs)) refl
  rejoined_balanced par.Or s bs f = becomes p w _ _ f Past (kept_equal p w _ (lives p (Par s bs) + 0) 0 _ 0 (omega arith) refl (aborted_kept (Par s bs) p body w 0))
  rejoined_balanced par.And s bs f = go (all_over bs) refl
    where
      go : (b : Bool) → all_over bs ≡ b → Balanced p w (live_branches p bs) f (if b then moved Past w else moved (Rests (Par s bs)) w)
      go true e = stays p w _ f Past (sym (all_over_stands p bs e))
      go false e = stays p w _ f (Rests (Par s bs)) refl

  raised : (m n : ℕ) (f : Focus Act) (a : Moved) → m ≡ n → Balanced p w m f a → Balanced p w n f a
  raised m n f a e h = record { kept = kept_equal p w a.world m _ n _ e refl h.kept }

  pub through_balanced : (fr : Frame) (f : Focus Act) (x : Outcome) → Balanced p w (live_frame p fr + left p f x) (In fr f) (through body fr f x w)
  unfolding lives live_focus
  through_balanced fr f (Goes g) = stays p w _ _ (Goes (In fr g)) refl
  through_balanced fr f (Rests r) = stays p w _ _ (Rests (fill fr r)) (fill_lives p fr r)
  through_balanced fr f (Raises r) = stays p w _ _ (Raises (fill fr r)) (fill_lives p fr r)
  through_balanced fr f (Fails e r) = stays p w _ _ (Fails e (fill fr r)) (fill_lives p fr r)
  through_balanced (OfBlock b fin all rest) f Past = stays p w _ _ (goes_on b fin all rest w).outcome refl
  through_balanced (OfBlock b fin all rest) f (Registers s) =
      becomes p w _ _ _ (goes_on b (s ∷ fin) all rest w).outcome (kept_same p w (marked (mark.Registered s.pos) w) _ (record { living = refl; given = refl }))
  through_balanced (OfBlock b fin all rest) f AtBlockEnd = becomes p w _ _ _ (Ends (pos 0)) (kept_equal p w _ _ _ _ _ (omega arith) refl (closed_kept p b fin all body w))
  through_balanced (OfBlock b fin all rest) f (Leaves node x) = body_left_balanced (node == (out-KBlock b).node) b fin all rest f node x
  through_balanced (OfOpen s) f (Ends v) = past_quiet _ _ (assign_if_quiet body (target s) v w)
  through_balanced (OfOpen s) f (Leaves node x) = open_left_balanced (node == s.node) s f node x
  through_balanced (OfLoop s c) f AtLoopHead = next_turn_balanced s (out-KStmt s.stmt) c _
  through_balanced (OfLoop s c) f (Ends v) = stays p w _ _ (again s c w).outcome refl
  through_balanced (OfLoop s c) f (Leaves node x) = loop_left_balanced (node == s.node) s c f node x
  through_balanced (OfCall s) f (Ends v) =
      past_quiet _ _ (quiet_then w (returned body s w) _ (record { living = refl; given = refl }) (assign_if_quiet body (target s) v (returned body s w)))
  through_balanced (OfPar s before after) f (Ends v) =
      raised _ _ _ _ (omega (arith, join_lives p before (branch Over after))) (rejoined_balanced (kind_of (out-KStmt s.stmt)) s (join before (branch Over after)) (In (OfPar s before after) f))
  through_balanced (OfInstance b fin before seat after r rest) f (Ends v) =
      becomes p w _ _ _ (Rests (Block b fin (join_instances before after) r rest))
      (kept_equal p w (dead seat.number w) (once p seat.number + (live_instances p before + live_instances p after + lives p r)) (0 + (live_instances p before + live_instances p after + lives p r)) _ _ (omega arith) (omega (arith, join_instances_live p before after))
      (kept_beside p w (dead seat.number w) (once p seat.number) 0 (live_instances p before + live_instances p after + lives p r) (dead_kept p seat.number w)))
  through_balanced fr f (Leaves node x) = stays p w _ _ (Leaves node x) refl
  through_balanced fr f x = stays p w _ _ (Rests (fill fr Over)) (fill_lives p fr Over)

pub up_balanced : (p : ℕ) (f : Focus Act) (x : Outcome) (body : Body) (w : World) → ((a : Act) → left p (Here a) x ≡ 0) → Balanced p w (live_focus p f) f (up body f x w)
unfolding live_focus up
up_balanced p (Here a) x body w h = stays p w _ _ x (h a)
up_balanced p (In fr f) x body w h =
    let inner = up_balanced p f x (body_in fr body) w h in
    let m = up (body_in fr body) f x w in
    let outer = through_balanced p body m.world fr f m.outcome in
    record {
      kept = kept_then p w m.world _ _ (live_frame p fr + left p f m.outcome) _
          (kept_equal p w m.world (live_focus p f + live_frame p fr) (left p f m.outcome + live_frame p fr) _ _ (omega arith) (omega arith)
          (kept_beside p w m.world _ _ (live_frame p fr) inner.kept)) outer.kept;
    }

-- of a whole focus: no exit is left
abbrev pub left_whole : ℕ → Outcome → ℕ
left_whole p (Goes g) = live_focus p g
left_whole p (Rests r) = lives p r
left_whole p (Raises r) = lives p r
left_whole p (Fails e r) = lives p r
left_whole p _ = 0

whole_left : (p : ℕ) (f : Focus Act) (x : Outcome) → left_whole p (taken f x) ≡ left p f x
unfolding lives
whole_left p f (Goes g) = refl
whole_left p f (Rests r) = refl
whole_left p f (Raises r) = refl
whole_left p f (Fails e r) = refl
whole_left p f (Ends v) = refl
whole_left p f (Leaves node x) = let e = plug_lives p f Over in omega (arith, e)
whole_left p f Past = refl
whole_left p f (Registers s) = refl
whole_left p f AtBlockEnd = refl
whole_left p f AtLoopHead = refl

pub answered_balanced : (p : ℕ) (f : Focus Act) (x : Outcome) (root : Body) (w : World) → ((a : Act) → left p (Here a) x ≡ 0)
    → Kept p w (live_focus p f) (answered root f x w).world (left_whole p (answered root f x w).outcome)
answered_balanced p f x root w h =
    let b = up_balanced p f x root w h in
    kept_equal p w _ _ _ _ _ refl (sym (whole_left p f (up root f x w).outcome)) b.kept
