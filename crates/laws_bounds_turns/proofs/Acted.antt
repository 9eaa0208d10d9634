-- What a leaf does by itself adds no mark of a turn that begins or of a level that opens, and no fault of a finalizer.
use Rattle.std.proofs.Common.{◌≡◌, refl, ℕ, ℤ, List, Option, Some, None, Result, Ok, Err}
use Rattle.ceu_base.specs.declared.kinds.Pos.{Pos}
use Rattle.ceu_base.specs.declared.kinds.Fault.{Fault}
use Rattle.ceu_base.specs.declared.kinds.Mark.TheVariants.{Output}
use Rattle.ceu_tree.specs.declared.kernel.Kernel.{Kernel}
use Rattle.ceu_tree.specs.declared.kernel.KCode.{KCode}
use Rattle.ceu_tree.specs.declared.kernel.KLoop.{KLoop}
use Rattle.ceu_tree.specs.declared.kernel.KLoop.TheVariants as turns
use Rattle.ceu_tree.specs.declared.kernel.Loc.{Loc}
use Rattle.ceu_tree.specs.declared.kernel.KNode.{KNode}
use Rattle.ceu_tree.specs.declared.kernel.KStmt.{out-KStmt}
use Rattle.ceu_tree.specs.declared.kernel.KStmt.TheOpen.{KStmt-F}
use Rattle.ceu_tree.specs.Residual.{Body, Awaited, Act, Begin, Start, Finish, AtEnd, AtHead, Again}
use Rattle.ceu_tree.specs.World.{World, assign_if}
use Rattle.ceu_tree.specs.Expressions.{value_of, value_if, values_of}
use Rattle.ceu_tree.specs.Leaf.{Layer, Done, or_fails, chosen_part, code_at, loop_reached, called, spawning, target, started, acted}
use Rattle.laws_meaning_basics.proofs.Balance.{Quiet}
use Rattle.laws_meaning_basics.proofs.LeafBalance.{set_parameters_quiet}
use Rattle.laws_bounds_turns.proofs.Silent.{Silent, silent, same_marks, mark_silent}

pub record Calm (w u : World) : Type 0 where
  pub marks : Silent w u
  pub fault : u.fault ≡ w.fault

pub calm : (w : World) → Calm w w
calm w = record { marks = silent w; fault = refl }

pub quietly : (w u : World) → Quiet w u → Calm w u
quietly w u q = record { marks = same_marks w u q.marks; fault = q.fault }

values_calm : (w u : World) → u.marks ≡ w.marks → u.fault ≡ w.fault → Calm w u
values_calm w u e h = record { marks = same_marks w u e; fault = h }

assign_calm : (body : Body) (l : Option Loc) (v : ℤ) (w : World) → Calm w (assign_if body l v w)
assign_calm body None v w = calm w
assign_calm body (Some l) v w = values_calm w _ refl refl

or_calm : {A : Type 0} (a : Result A (Fault × Pos)) (w : World) (go : A → Done) → ((x : A) → Calm w (go x).world) → Calm w (or_fails a w go).world
or_calm (Ok x) w go h = h x
or_calm (Err e) w go h = calm w

called_calm : (s : KNode) (c : Option KCode) (vs : List ℤ) (body : Body) (w : World) → Calm w (called s c vs body w).world
called_calm s None vs body w = calm w
called_calm s (Some c) vs body w = quietly w _ (set_parameters_quiet (Awaited body s.node) c.params vs w)

spawning_calm : (s : KNode) (c : Option KCode) (code pool : ℕ) (alias : Option ℕ) (vs : List ℤ) (w : World) → Calm w (spawning s c code pool alias vs w).world
spawning_calm s None code pool alias vs w = calm w
spawning_calm s (Some c) code pool alias vs w = calm w

module _ (K : Kernel) (n : ℕ) (body : Body) where
  reached_calm : (s : KNode) (k : KLoop) (w : World) → Calm w (loop_reached s k body w).world
  reached_calm s turns.Free w = calm w
  reached_calm s (turns.Times slot limit) w = calm w
  reached_calm s (turns.Range i next end open_a x y open_b) w = or_calm (value_of x body w) w _ (λ u. or_calm (value_of y body w) w _ (λ v. calm w))

  started_calm : (s : KNode) (layer : Layer) (w : World) → Calm w (started K n body s layer w).world
  started_calm s KStmt-F.Nothing w = calm w
  started_calm s (KStmt-F.Assign l e) w = or_calm (value_of e body w) w _ (λ v. values_calm w _ refl refl)
  started_calm s (KStmt-F.Out k e) w = or_calm (value_if e body w) w _ (λ v. record { marks = mark_silent (Output k v) w refl refl; fault = refl })
  started_calm s (KStmt-F.Emit k e) w = or_calm (value_if e body w) w _ (λ v. calm w)
  started_calm s (KStmt-F.AwaitIn k t) w = calm w
  started_calm s (KStmt-F.AwaitTime e u t) w = or_calm (value_of e body w) w _ (λ v. calm w)
  started_calm s (KStmt-F.AwaitEvent e t) w = calm w
  started_calm s KStmt-F.Forever w = calm w
  started_calm s (KStmt-F.AwaitCode c es frame t) w = or_calm (values_of es body w) w _ (λ vs. called_calm s (code_at c K.codes) vs body w)
  started_calm s (KStmt-F.Spawn c es pool alias) w = or_calm (values_of es body w) w _ (λ vs. spawning_calm s (code_at c K.codes) c pool alias vs w)
  started_calm s (KStmt-F.Kill c) w = calm w
  started_calm s (KStmt-F.Unset c) w = values_calm w _ refl refl
  started_calm s (KStmt-F.Async b) w = calm w
  started_calm s (KStmt-F.Finalize b) w = calm w
  started_calm s (KStmt-F.Do t b) w = calm w
  started_calm s (KStmt-F.Escape m e) w = or_calm (value_if e body w) w _ (λ v. calm w)
  started_calm s (KStmt-F.Break m) w = calm w
  started_calm s (KStmt-F.Continue m) w = calm w
  started_calm s (KStmt-F.If arms last) w = or_calm (chosen_part arms last body w) w _ (λ b. calm w)
  started_calm s (KStmt-F.Loop k b) w = reached_calm s k w
  started_calm s (KStmt-F.Par kind slot bs) w = calm w

  pub acted_calm : (a : Act) (w : World) → Calm w (acted K n body a w).world
  acted_calm (Begin b) w = calm w
  acted_calm (Start s) w = started_calm s (out-KStmt s.stmt) w
  acted_calm (Finish s v) w = assign_calm body (target s) v w
  acted_calm AtEnd w = calm w
  acted_calm AtHead w = calm w
  acted_calm Again w = calm w
