-- What a leaf does in a program of one trail: it opens a part, waits, goes on or fails, and neither emits, spawns nor kills.
use Rattle.std.proofs.Common.{◌≡◌, refl, ℕ, None, Result, Ok, Err}
use Rattle.ceu_base.specs.declared.kinds.Pos.{Pos}
use Rattle.ceu_base.specs.declared.kinds.Fault.{Fault}
use Rattle.ceu_tree.specs.declared.kernel.Kernel.{Kernel}
use Rattle.ceu_tree.specs.declared.kernel.KLoop.{KLoop}
use Rattle.ceu_tree.specs.declared.kernel.KLoop.TheVariants as turns
use Rattle.ceu_tree.specs.declared.kernel.KNode.{KNode}
use Rattle.ceu_tree.specs.declared.kernel.KStmt.{out-KStmt}
use Rattle.ceu_tree.specs.declared.kernel.KStmt.TheOpen.{KStmt-F}
use Rattle.ceu_tree.specs.Residual.{Body, Program, Act, Begin, Start, Finish, AtEnd, AtHead, Again}
use Rattle.ceu_tree.specs.Focus.{Focus, leaf, body_of, choose}
use Rattle.ceu_tree.specs.World.{World}
use Rattle.ceu_tree.specs.Expressions.{value_of, value_if}
use Rattle.ceu_tree.specs.Wake.{runs_at}
use Rattle.ceu_tree.specs.Leaf as does
use Rattle.ceu_tree.specs.Leaf.{Layer, Does, Done, or_fails, chosen_part, loop_reached, started, acted}
use Rattle.ceu_tree.specs.Around.{Moved, moved, taken}
use Rattle.ceu_tree.specs.Step.{does_in, stepped}
use Rattle.laws_meaning_basics.specs.Shape.{Part, ActFits, begins, heads, goes_again, starts, finishes, ends}
use Rattle.ceu_endings.proofs.Local.{does_local, local}
use Rattle.ceu_endings.proofs.Shapes.{LayerSingle, PartSingle, layer_single}

-- a leaf that waits can't run at level 0
abbrev pub PlainDoes : Does → Type 0
PlainDoes (does.Waits r) = choose Act (runs_at 0) r ≡ None
PlainDoes (does.Registers s) = ⊥
PlainDoes (does.Emits s e v) = ⊥
PlainDoes (does.Spawns s c code pool alias vs) = ⊥
PlainDoes (does.Kills k) = ⊥
PlainDoes x = Unit {0}

or_plain : {A : Type 0} (a : Result A (Fault × Pos)) (w : World) (go : A → Done) → ((x : A) → PlainDoes (go x).does) → PlainDoes (or_fails a w go).does
or_plain (Ok x) w go h = h x
or_plain (Err e) w go h = tt

module _ (K : Kernel) (n : ℕ) (body : Body) where
  loop_plain : (s : KNode) (k : KLoop) (w : World) → PlainDoes (loop_reached s k body w).does
  loop_plain s turns.Free w = tt
  loop_plain s (turns.Times slot limit) w = tt
  loop_plain s (turns.Range i next end open_a x y open_b) w = or_plain (value_of x body w) w _ (λ u. or_plain (value_of y body w) w _ (λ v. tt))

  started_plain : (s : KNode) (layer : Layer) (w : World) → LayerSingle layer → PlainDoes (started K n body s layer w).does
  unfolding choose
  started_plain s KStmt-F.Nothing w h = tt
  started_plain s (KStmt-F.Assign l e) w h = or_plain (value_of e body w) w _ (λ v. tt)
  started_plain s (KStmt-F.Out k e) w h = or_plain (value_if e body w) w _ (λ v. tt)
  started_plain s (KStmt-F.AwaitIn k t) w h = refl
  started_plain s (KStmt-F.AwaitTime e u t) w h = or_plain (value_of e body w) w _ (λ v. refl)
  started_plain s KStmt-F.Forever w h = refl
  started_plain s (KStmt-F.Escape m e) w h = or_plain (value_if e body w) w _ (λ v. tt)
  started_plain s (KStmt-F.Break m) w h = tt
  started_plain s (KStmt-F.Continue m) w h = tt
  started_plain s (KStmt-F.Do t b) w h = tt
  started_plain s (KStmt-F.If arms last) w h = or_plain (chosen_part arms last body w) w _ (λ b. tt)
  started_plain s (KStmt-F.Loop k b) w h = loop_plain s k w
  started_plain s layer w h = absurd h

  pub acted_plain : (d : Part) (a : Act) (w : World) → ActFits d a → PartSingle d → PlainDoes (acted K n body a w).does
  acted_plain d (Begin b) w begins h = tt
  acted_plain d AtHead w heads h = tt
  acted_plain d Again w goes_again h = tt
  acted_plain d (Start s) w starts h = started_plain s (out-KStmt s.stmt) w (layer_single s.stmt h)
  acted_plain d (Finish s v) w (finishes p) h = tt
  acted_plain d AtEnd w ends h = tt

-- a step of the whole program is one of the part, of which no exit is left over
abbrev pub whole : Focus Act → Moved → Moved
whole f m = moved (taken f m.outcome) m.world

does_whole : (K : Kernel) (n : ℕ) (body : Body) (f : Focus Act) (x : Does) (w : World) → PlainDoes x → does_in K n Program body f x w ≡ whole f (does_local Program f x w)
does_whole K n body f (does.Opens y) w h = refl
does_whole K n body f (does.Waits r) w h = refl
does_whole K n body f does.Passes w h = refl
does_whole K n body f (does.Leaves node y) w h = refl
does_whole K n body f (does.Registers s) w h = absurd h
does_whole K n body f does.Ends w h = refl
does_whole K n body f does.Heads w h = refl
does_whole K n body f (does.Emits s e v) w h = absurd h
does_whole K n body f (does.Spawns s c code pool alias vs) w h = absurd h
does_whole K n body f (does.Kills k) w h = absurd h
does_whole K n body f (does.Fails e) w h = refl

pub stepped_is : (K : Kernel) (n : ℕ) (d : Part) (f : Focus Act) (w : World) → ActFits d (leaf f) → PartSingle d → stepped K n Program f w ≡ whole f (local K n Program f w)
unfolding stepped local
stepped_is K n d f w a h = let m = acted K n (body_of f Program) (leaf f) w in does_whole K n (body_of f Program) f m.does m.world (acted_plain K n (body_of f Program) d (leaf f) w a h)
