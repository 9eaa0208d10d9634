-- What is open in a state, by its shape, and what completes it.
use Rattle.std.proofs.Common.{◌≡◌, refl, sym, ap, ◌∙◌, ℕ, List, [], ◌∷◌, ◌++◌, Option, Some, None, arith, false}
use Rattle.ceu_base.specs.declared.kinds.Pos.{Pos}
use Rattle.ceu_base.specs.declared.kinds.Ty.{Ty}
use Rattle.ceu_tree.specs.declared.kernel.ParKind.{ParKind}
use Rattle.ceu_tree.specs.declared.source.Ident.{Ident}
use Rattle.ceu_tree.specs.declared.source.Exp.{Exp}
use Rattle.ceu_tree.specs.declared.source.Spawn.{Spawn}
use Rattle.ceu_tree.specs.declared.source.Target.{Target}
use Rattle.ceu_tree.specs.declared.source.Await.{Await}
use Rattle.ceu_tree.specs.declared.source.Block.{Block}
use Rattle.ceu_tree.specs.declared.source.Node.{Node}
use Rattle.ceu_tree.specs.declared.source.Do.{Do}
use Rattle.ceu_tree.specs.declared.source.Source.{Source}
use Rattle.ceu_tree.specs.declared.source.Source as source
use Rattle.ceu_tree.specs.declared.source.Item.{Item}
use Rattle.ceu_tree.specs.declared.source.Stmt.{Stmt}
use Rattle.ceu_tree.specs.declared.source.Stmt as stmt
use Rattle.ceu_syntax.specs.declared.terminal.Kind.{Kind}
use Rattle.ceu_syntax.specs.declared.terminal.Terminal.{Terminal}
use Rattle.ceu_syntax.specs.declared.machine.Body.{Body}
use Rattle.ceu_syntax.specs.declared.machine.Body.TheVariants as body
use Rattle.ceu_syntax.specs.declared.machine.Frame.{Frame}
use Rattle.ceu_syntax.specs.declared.machine.Frame.TheVariants as f
use Rattle.ceu_syntax.specs.declared.machine.Act.{Act}
use Rattle.ceu_syntax.specs.declared.machine.Act.TheVariants as act
use Rattle.ceu_syntax.specs.declared.machine.Declaring.TheVariants as d
use Rattle.ceu_syntax.specs.declared.machine.Acting.TheVariants as a
use Rattle.ceu_syntax.specs.declared.machine.Opening.TheVariants as o
use Rattle.ceu_syntax.specs.declared.machine.Looping.TheVariants as l
use Rattle.ceu_syntax.specs.declared.machine.Mode.{Mode}
use Rattle.ceu_syntax.specs.declared.machine.Mode.TheVariants as m
use Rattle.ceu_syntax.specs.Terminals.{token, lower, digits}
use Rattle.ceu_syntax.specs.Trees.{ident, call, spawn, block, node, do_block, item}
use Rattle.ceu_tree.specs.declared.source.Target.TheVariants as target
use Rattle.ceu_tree.specs.declared.source.Await.TheVariants as wait
use Rattle.ceu_syntax.specs.declared.terminal.Kind.TheVariants as k
use Rattle.ceu_syntax.specs.Terminals.{unit_name}
use Rattle.ceu_syntax.specs.Trees.{number, one, two}
use Rattle.ceu_syntax.specs.Steps as spec
use Rattle.ceu_syntax.specs.Steps.{State, state, Held, held, reduce, statement_of, source_of, case_of, closed}
use Rattle.ceu_syntax.specs.Runs.{run, step, then_run, finish}
use Rattle.ceu_syntax.proofs.Contexts.{ItemsAt, Around, Formed, DoAt, SourceAt, AwaitAt, SpawnAt, CallAt, TargetAt, Opened}
use Rattle.ceu_syntax.proofs.Takes.{Ender, close_ends, semicolon_ends, arrow_ends, right_ends, then_ends, binary_done}
use Rattle.ceu_tree.specs.declared.kernel.Unit.TheVariants as unit
use Rattle.ceu_tree.specs.declared.source.Label.{Label}
use Rattle.ceu_tree.specs.declared.source.Arm.{Arm'}
use Rattle.ceu_tree.specs.declared.source.Range.{Range'}

-- ---- what completes a state

pub here : Pos
here = record { line = 1; col = 1 }

pub letter : List ℕ
letter = 120 ∷ []

-- these tokens complete the state to a program
pub record Done (more : List Terminal) (s : State) : Type 0 where
  pub after : State
  pub ns : List Node
  pub runs : run more s ≡ Some after
  pub ends : finish after ≡ Some ns

-- they complete what comes of a step
pub record DoneBy (more : List Terminal) (next : Option State) : Type 0 where
  pub state : State
  pub is : next ≡ Some state
  pub done : Done more state

pub done_step : {more : List Terminal} {u : State} (t : Terminal) (s : State) → step t s ≡ Some u → Done more u → Done (t ∷ more) s
unfolding run
done_step {more = more} t s h d = record { after = d.after; ns = d.ns; runs = ap (then_run (run more)) h ∙ d.runs; ends = d.ends }

pub done_at : {more : List Terminal} (t : Terminal) (s : State) → DoneBy more (step t s) → Done (t ∷ more) s
done_at t s d = done_step t s d.is d.done

pub record Completed (s : State) : Type 0 where
  pub more : List Terminal
  pub done : Done more s

pub complete : {more : List Terminal} {s : State} → Done more s → Completed s
complete {more} d = record { more = more; done = d }

-- ---- shapes

abbrev mutual
  pub InBlock : List Frame → Type 0
  InBlock [] = Unit {0}
  InBlock (f.Body (body.Do l) ∷ K) = InDo K
  InBlock (f.Body b ∷ K) = InForm K
  InBlock _ = ⊥

  pub InForm : List Frame → Type 0
  InForm (f.Begun ns at ∷ K) = InBlock K
  InForm _ = ⊥

  pub InDo : List Frame → Type 0
  InDo (f.Begun ns at ∷ K) = InBlock K
  InDo (f.Store x ∷ K) = InForm K
  InDo (f.Initial ty is x ∷ K) = InForm K
  InDo _ = ⊥

abbrev pub InSource : List Frame → Type 0
InSource (f.Store x ∷ K) = InForm K
InSource (f.Initial ty is x ∷ K) = InForm K
InSource _ = ⊥

abbrev pub InAwait : List Frame → Type 0
InAwait (f.Begun ns at ∷ K) = InBlock K
InAwait (f.Store x ∷ K) = InForm K
InAwait (f.Initial ty is x ∷ K) = InForm K
InAwait _ = ⊥

abbrev pub InSpawn : List Frame → Type 0
InSpawn (f.Begun ns at ∷ K) = InBlock K
InSpawn (f.Store x ∷ K) = InForm K
InSpawn (f.Initial ty is x ∷ K) = InForm K
InSpawn (f.Alias code x ∷ K) = InForm K
InSpawn _ = ⊥

abbrev pub InCall : List Frame → Type 0
InCall (f.Spawn p ∷ K) = InSpawn K
InCall K = InAwait K

abbrev pub InTarget : List Frame → Type 0
InTarget (f.Every x ∷ K) = InForm K
InTarget (f.Watching ∷ K) = InForm K
InTarget K = InAwait K

abbrev pub InExp : List Frame → Type 0
InExp [] = ⊥
InExp (f.Binary op at a ∷ K) = InExp K
InExp (f.Prefix op at ∷ K) = InExp K
InExp (f.Paren at ∷ K) = InExp K
InExp (f.Store x ∷ K) = InForm K
InExp (f.Initial ty is x ∷ K) = InForm K
InExp (f.Emit x ∷ K) = InForm K
InExp (f.Until t ∷ K) = InAwait K
InExp (f.Escape x ∷ K) = InForm K
InExp (f.Condition arms ∷ K) = InForm K
InExp (f.RangeFrom x open_a ∷ K) = InForm K
InExp (f.RangeTo x open_a a ∷ K) = InForm K
InExp (f.Arguments code es ∷ K) = InCall K
InExp (f.Time ∷ K) = InTarget K
InExp _ = ⊥

pub block_shape : (whole from : List Terminal) (K : List Frame) → Around whole K from → InBlock K
block_shape whole from [] i = tt
block_shape whole from (f.Body (body.Do l) ∷ f.Begun ns at ∷ K) i = block_shape whole i.1.0 K i.1.1
block_shape whole from (f.Body (body.Do l) ∷ f.Store x ∷ f.Begun ns at ∷ K) i = block_shape whole i.1.0 K i.1.2
block_shape whole from (f.Body (body.Do l) ∷ f.Store x ∷ _) i = absurd i.1
block_shape whole from (f.Body (body.Do l) ∷ f.Initial ty is x ∷ f.Begun ns at ∷ K) i = block_shape whole i.1.2.0 K i.1.2.2
block_shape whole from (f.Body (body.Do l) ∷ f.Initial ty is x ∷ _) i = absurd i.1.2
block_shape whole from (f.Body (body.Do l) ∷ _) i = absurd i.1
block_shape whole from (f.Body b ∷ f.Begun ns at ∷ K) i = block_shape whole i.0 K i.2
block_shape whole from (f.Body b ∷ _) i = absurd i
block_shape whole from (_ ∷ K) i = absurd i

pub form_shape : (whole : List Terminal) (P : Pos → List Terminal → Type 0) (K : List Frame) → Formed whole K P → InForm K
form_shape whole P (f.Begun ns at ∷ K) i = block_shape whole i.0 K i.2
form_shape whole P _ i = absurd i

pub do_shape : (whole mid : List Terminal) (K : List Frame) → DoAt whole K mid → InDo K
do_shape whole mid (f.Begun ns at ∷ K) i = block_shape whole i.0 K i.1
do_shape whole mid (f.Store x ∷ f.Begun ns at ∷ K) i = block_shape whole i.0 K i.2
do_shape whole mid (f.Store x ∷ _) i = absurd i
do_shape whole mid (f.Initial ty is x ∷ K) i = form_shape whole (ItemsAt ty is i.0) K i.2
do_shape whole mid _ i = absurd i

pub source_shape : (whole mid : List Terminal) (K : List Frame) → SourceAt whole K mid → InSource K
source_shape whole mid (f.Store x ∷ f.Begun ns at ∷ K) i = block_shape whole i.0 K i.2
source_shape whole mid (f.Store x ∷ _) i = absurd i
source_shape whole mid (f.Initial ty is x ∷ K) i = form_shape whole (ItemsAt ty is i.0) K i.2
source_shape whole mid _ i = absurd i

pub await_shape : (whole mid : List Terminal) (K : List Frame) → AwaitAt whole K mid → InAwait K
await_shape whole mid (f.Begun ns at ∷ K) i = block_shape whole i.0 K i.2
await_shape whole mid (f.Store x ∷ f.Begun ns at ∷ K) i = block_shape whole i.0 K i.2
await_shape whole mid (f.Store x ∷ _) i = absurd i
await_shape whole mid (f.Initial ty is x ∷ K) i = form_shape whole (ItemsAt ty is i.0) K i.2
await_shape whole mid _ i = absurd i

pub spawn_shape : (whole mid : List Terminal) (p : Pos) (K : List Frame) → SpawnAt whole p K mid → InSpawn K
spawn_shape whole mid p (f.Begun ns at ∷ K) i = block_shape whole i.0 K i.2
spawn_shape whole mid p (f.Store x ∷ f.Begun ns at ∷ K) i = block_shape whole i.0 K i.2
spawn_shape whole mid p (f.Store x ∷ _) i = absurd i
spawn_shape whole mid p (f.Alias code x ∷ f.Begun ns at ∷ K) i = block_shape whole i.0 K i.2
spawn_shape whole mid p (f.Alias code x ∷ _) i = absurd i
spawn_shape whole mid p (f.Initial ty is x ∷ K) i = form_shape whole (ItemsAt ty is i.0) K i.2
spawn_shape whole mid p _ i = absurd i

pub call_shape : (whole mid : List Terminal) (K : List Frame) → CallAt whole K mid → InCall K
call_shape whole mid [] i = absurd i
call_shape whole mid (f.Spawn p ∷ K) i = spawn_shape whole mid p K i
call_shape whole mid (frame ∷ K) i = await_shape whole mid (frame ∷ K) i

pub target_shape : (whole mid : List Terminal) (K : List Frame) → TargetAt whole K mid → InTarget K
target_shape whole mid [] i = absurd i
target_shape whole mid (f.Every x ∷ f.Begun ns at ∷ K) i = block_shape whole i.0 K i.2
target_shape whole mid (f.Every x ∷ _) i = absurd i
target_shape whole mid (f.Watching ∷ f.Begun ns at ∷ K) i = block_shape whole i.0 K i.2
target_shape whole mid (f.Watching ∷ _) i = absurd i
target_shape whole mid (frame ∷ K) i = await_shape whole mid (frame ∷ K) i

pub exp_shape : (whole mid : List Terminal) (K : List Frame) → Opened whole K mid → InExp K
exp_shape whole mid [] i = absurd i
exp_shape whole mid (f.Binary op at a ∷ K) i = exp_shape whole i.0 K i.3
exp_shape whole mid (f.Prefix op at ∷ K) i = exp_shape whole (token i.0 at ∷ mid) K i.2
exp_shape whole mid (f.Paren at ∷ K) i = exp_shape whole (token k.OpenParen at ∷ mid) K i
exp_shape whole mid (f.Store x ∷ K) i = source_shape whole mid (f.Store x ∷ K) i
exp_shape whole mid (f.Initial ty is x ∷ K) i = source_shape whole mid (f.Initial ty is x ∷ K) i
exp_shape whole mid (f.Emit x ∷ f.Begun ns at ∷ K) i = block_shape whole i.0 K i.2
exp_shape whole mid (f.Emit x ∷ _) i = absurd i
exp_shape whole mid (f.Until t ∷ K) i = await_shape whole i.0 K i.2
exp_shape whole mid (f.Escape x ∷ f.Begun ns at ∷ K) i = block_shape whole i.0 K i.2
exp_shape whole mid (f.Escape x ∷ _) i = absurd i
exp_shape whole mid (f.Condition arms ∷ f.Begun ns at ∷ K) i = block_shape whole i.0 K i.2
exp_shape whole mid (f.Condition arms ∷ _) i = absurd i
exp_shape whole mid (f.RangeFrom x open_a ∷ f.Begun ns at ∷ K) i = block_shape whole i.0 K i.2
exp_shape whole mid (f.RangeFrom x open_a ∷ _) i = absurd i
exp_shape whole mid (f.RangeTo x open_a a ∷ f.Begun ns at ∷ K) i = block_shape whole i.0 K i.2
exp_shape whole mid (f.RangeTo x open_a a ∷ _) i = absurd i
exp_shape whole mid (f.Arguments code es ∷ K) i = call_shape whole i.0 K i.1
exp_shape whole mid (f.Time ∷ K) i = target_shape whole (token k.OpenParen i.0 ∷ mid) K i.1
exp_shape whole mid (_ ∷ K) i = absurd i

-- ---- closing tokens

-- they close a block, a statement, a do, whatever stands in it
pub record ClosesBlock (K : List Frame) : Type 0 where
  pub more : List Terminal
  pub done : (ns : List Node) → Done more (state K (m.In ns))

pub record ClosesForm (K : List Frame) : Type 0 where
  pub more : List Terminal
  pub done : (stmt : Stmt) → DoneBy more (closed stmt K)

pub record ClosesDo (K : List Frame) : Type 0 where
  pub more : List Terminal
  pub done : (v : Do) → DoneBy more (spec.do_end v K)

-- a statement that has begun ends
pub with_block : (ns : List Node) (at : Pos) (K : List Frame) → ClosesBlock K → ClosesForm (f.Begun ns at ∷ K)
with_block ns at K c = record { more = c.more; done = λ stmt. record { state = state K (m.In (ns ++ node at stmt ∷ [])); is = refl; done = c.done (ns ++ node at stmt ∷ []) } }

-- a body that `end` ends
unfoldable pub body_done : (b : Body) (K : List Frame) (make : Block → Stmt) → ((x : Block) → spec.body_end b x K ≡ closed (make x) K) → ClosesForm K → ClosesBlock (f.Body b ∷ K)
body_done b K make h c = record { more = token k.End here ∷ c.more; done = λ ns. let g = c.done (make (block ns)) in done_step (token k.End here) (state (f.Body b ∷ K) (m.In ns)) (h (block ns) ∙ g.is) g.done }

pub do_done : (l : Label) (K : List Frame) → ClosesDo K → ClosesBlock (f.Body (body.Do l) ∷ K)
do_done l K c = record { more = token k.End here ∷ c.more; done = λ ns. let g = c.done (do_block l ns) in done_step (token k.End here) (state (f.Body (body.Do l) ∷ K) (m.In ns)) g.is g.done }

pub branch_done : (kind : ParKind) (K : List Frame) → ClosesForm K → ClosesBlock (f.Body (body.FirstBranch kind) ∷ K)
branch_done kind K c = record {
  more = token k.With here ∷ token k.End here ∷ c.more;
  done = λ ns.
      let g = c.done (stmt.Par kind (block ns ∷ block [] ∷ [])) in
      done_step (token k.With here) (state (f.Body (body.FirstBranch kind) ∷ K) (m.In ns)) refl (done_step (token k.End here) (state (f.Body (body.Branch kind (block ns ∷ [])) ∷ K) (m.In [])) g.is g.done);
}

item_done : (ty : Ty) (is : List Item) (x : Ident) (ns : List Node) (at : Pos) (K : List Frame) → ClosesBlock K → ClosesDo (f.Initial ty is x ∷ f.Begun ns at ∷ K)
item_done ty is x ns at K c = record {
  more = token k.Semicolon here ∷ c.more;
  done = λ v. record {
    state = state (f.Begun ns at ∷ K) (m.Declaring (d.ItemEnd ty (is ++ item x (Some (source.Done v)) ∷ [])));
    is = refl;
    done = done_step (token k.Semicolon here) (state (f.Begun ns at ∷ K) (m.Declaring (d.ItemEnd ty (is ++ item x (Some (source.Done v)) ∷ [])))) refl (c.done (ns ++ node at (stmt.Vars ty (is ++ item x (Some (source.Done v)) ∷ [])) ∷ []));
  };
}

begun_done : (ns : List Node) (at : Pos) (K : List Frame) → ClosesBlock K → ClosesDo (f.Begun ns at ∷ K)
begun_done ns at K c = let g = with_block ns at K c in record { more = g.more; done = λ v. g.done (stmt.Do v) }

store_done : (x : Ident) (K : List Frame) → ClosesForm K → ClosesDo (f.Store x ∷ K)
store_done x K c = record { more = c.more; done = λ v. c.done (stmt.Assign x (source.Done v)) }

pub closes_block : (K : List Frame) → InBlock K → ClosesBlock K
unfolding run
closes_block [] i = record { more = []; done = λ ns. record { after = state [] (m.In ns); ns = ns; runs = refl; ends = refl } }
closes_block (f.Body (body.Do l) ∷ f.Begun ns at ∷ K) i = do_done l (f.Begun ns at ∷ K) (begun_done ns at K (closes_block K i))
closes_block (f.Body (body.Do l) ∷ f.Store x ∷ f.Begun ns at ∷ K) i = do_done l (f.Store x ∷ f.Begun ns at ∷ K) (store_done x (f.Begun ns at ∷ K) (with_block ns at K (closes_block K i)))
closes_block (f.Body (body.Do l) ∷ f.Store x ∷ _) i = absurd i
closes_block (f.Body (body.Do l) ∷ f.Initial ty is x ∷ f.Begun ns at ∷ K) i = do_done l (f.Initial ty is x ∷ f.Begun ns at ∷ K) (item_done ty is x ns at K (closes_block K i))
closes_block (f.Body (body.Do l) ∷ f.Initial ty is x ∷ _) i = absurd i
closes_block (f.Body (body.Do l) ∷ _) i = absurd i
closes_block (f.Body body.Finalize ∷ f.Begun ns at ∷ K) i = body_done body.Finalize (f.Begun ns at ∷ K) (λ b. stmt.Finalize b) (λ b. refl) (with_block ns at K (closes_block K i))
closes_block (f.Body (body.Arm arms e) ∷ f.Begun ns at ∷ K) i = body_done (body.Arm arms e) (f.Begun ns at ∷ K) (λ b. stmt.If (arms ++ Arm' e b ∷ []) None) (λ b. refl) (with_block ns at K (closes_block K i))
closes_block (f.Body (body.Else arms) ∷ f.Begun ns at ∷ K) i = body_done (body.Else arms) (f.Begun ns at ∷ K) (λ b. stmt.If arms (Some b)) (λ b. refl) (with_block ns at K (closes_block K i))
closes_block (f.Body (body.Loop n) ∷ f.Begun ns at ∷ K) i = body_done (body.Loop n) (f.Begun ns at ∷ K) (λ b. stmt.Loop n b) (λ b. refl) (with_block ns at K (closes_block K i))
closes_block (f.Body (body.Range x open_a from to open_b) ∷ f.Begun ns at ∷ K) i = body_done (body.Range x open_a from to open_b) (f.Begun ns at ∷ K) (λ b. stmt.Range (Range' x open_a from to open_b b)) (λ b. refl) (with_block ns at K (closes_block K i))
closes_block (f.Body (body.Every x t) ∷ f.Begun ns at ∷ K) i = body_done (body.Every x t) (f.Begun ns at ∷ K) (λ b. stmt.Every x t b) (λ b. refl) (with_block ns at K (closes_block K i))
closes_block (f.Body (body.Watching t) ∷ f.Begun ns at ∷ K) i = body_done (body.Watching t) (f.Begun ns at ∷ K) (λ b. stmt.Watching t b) (λ b. refl) (with_block ns at K (closes_block K i))
closes_block (f.Body (body.FirstBranch kind) ∷ f.Begun ns at ∷ K) i = branch_done kind (f.Begun ns at ∷ K) (with_block ns at K (closes_block K i))
closes_block (f.Body (body.Branch kind bs) ∷ f.Begun ns at ∷ K) i = body_done (body.Branch kind bs) (f.Begun ns at ∷ K) (λ b. stmt.Par kind (bs ++ b ∷ [])) (λ b. refl) (with_block ns at K (closes_block K i))
closes_block (f.Body (body.Async xs) ∷ f.Begun ns at ∷ K) i = body_done (body.Async xs) (f.Begun ns at ∷ K) (λ b. stmt.Async xs b) (λ b. refl) (with_block ns at K (closes_block K i))
closes_block (f.Body (body.Code x ps ty) ∷ f.Begun ns at ∷ K) i = body_done (body.Code x ps ty) (f.Begun ns at ∷ K) (λ b. stmt.Code x ps ty b) (λ b. refl) (with_block ns at K (closes_block K i))
closes_block (f.Body b ∷ _) i = absurd i
closes_block (_ ∷ K) i = absurd i

pub closes_form : (K : List Frame) → InForm K → ClosesForm K
closes_form (f.Begun ns at ∷ K) i = with_block ns at K (closes_block K i)
closes_form _ i = absurd i

pub closes_do : (K : List Frame) → InDo K → ClosesDo K
closes_do (f.Begun ns at ∷ K) i = begun_done ns at K (closes_block K i)
closes_do (f.Store x ∷ K) i = store_done x K (closes_form K i)
closes_do (f.Initial ty is x ∷ f.Begun ns at ∷ K) i = item_done ty is x ns at K (closes_block K i)
closes_do (f.Initial ty is x ∷ _) i = absurd i
closes_do _ i = absurd i

-- ---- what closes an await, a spawn, a call, a target

pub record ClosesAct (K : List Frame) (A : Type 0) (done_act : A → Act) : Type 0 where
  pub more : List Terminal
  pub done : (a : A) → DoneBy more (spec.act_semicolon (done_act a) K)

pub closes_await : (K : List Frame) → InAwait K → ClosesAct K Await (λ a. act.Wait a)
closes_await (f.Begun ns at ∷ K) i = let c = with_block ns at K (closes_block K i) in record { more = c.more; done = λ a. c.done (stmt.Await a) }
closes_await (f.Store x ∷ K) i = let c = closes_form K i in record { more = c.more; done = λ a. c.done (stmt.Assign x (source.Wait a)) }
closes_await (f.Initial ty is x ∷ K) i = let c = closes_form K i in record { more = c.more; done = λ a. c.done (stmt.Vars ty (is ++ item x (Some (source.Wait a)) ∷ [])) }
closes_await _ i = absurd i

pub closes_spawn : (K : List Frame) → InSpawn K → ClosesAct K Spawn (λ a. act.Start a)
closes_spawn (f.Begun ns at ∷ K) i = let c = with_block ns at K (closes_block K i) in record { more = c.more; done = λ a. c.done (stmt.Spawn a) }
closes_spawn (f.Store x ∷ K) i = let c = closes_form K i in record { more = c.more; done = λ a. c.done (stmt.Assign x (source.Start a)) }
closes_spawn (f.Initial ty is x ∷ K) i = let c = closes_form K i in record { more = c.more; done = λ a. c.done (stmt.Vars ty (is ++ item x (Some (source.Start a)) ∷ [])) }
closes_spawn (f.Alias code x ∷ K) i = let c = closes_form K i in record { more = c.more; done = λ a. c.done (stmt.AliasDecl code x (Some a)) }
closes_spawn _ i = absurd i

pub record ClosesCall (K : List Frame) : Type 0 where
  pub more : List Terminal
  pub done : (code : Ident) (es : List Exp) → DoneBy more (spec.called code es K)

awaited_done : (K : List Frame) → ((code : Ident) (es : List Exp) → spec.called code es K ≡ Some (state K (spec.awaited_call code es))) → InAwait K → ClosesCall K
awaited_done K h i = let c = closes_await K i in record {
  more = token k.Semicolon here ∷ c.more;
  done = λ code es. record {
    state = state K (spec.awaited_call code es);
    is = h code es;
    done = done_at (token k.Semicolon here) (state K (spec.awaited_call code es)) (c.done (wait.Code (call code es)));
  };
}

pub closes_call : (K : List Frame) → InCall K → ClosesCall K
closes_call [] i = absurd i
closes_call (f.Spawn p ∷ K) i = let c = closes_spawn K i in record {
  more = token k.In here ∷ lower letter here ∷ token k.Semicolon here ∷ c.more;
  done = λ code es. record {
    state = state K (m.Acting (a.SpawnIn p (call code es)));
    is = refl;
    done = done_step (token k.In here) (state K (m.Acting (a.SpawnIn p (call code es)))) refl (done_step (lower letter here) (state K (m.Acting (a.SpawnPool p (call code es)))) refl
        (done_at (token k.Semicolon here) (state K (m.Acting (a.ActEnd (act.Start (spawn p (call code es) (ident letter here)))))) (c.done (spawn p (call code es) (ident letter here)))));
  };
}
closes_call (frame ∷ K) i = awaited_done (frame ∷ K) (λ code es. refl) i

pub record ClosesTarget (K : List Frame) : Type 0 where
  pub more : List Terminal
  pub done : (t : Target) → DoneBy more (spec.aimed t K)

aimed_done : (K : List Frame) → ((t : Target) → spec.aimed t K ≡ Some (state K (m.Acting (a.AwaitEnd t)))) → InAwait K → ClosesTarget K
aimed_done K h i = let c = closes_await K i in record {
  more = token k.Semicolon here ∷ c.more;
  done = λ t. record {
    state = state K (m.Acting (a.AwaitEnd t));
    is = h t;
    done = done_at (token k.Semicolon here) (state K (m.Acting (a.AwaitEnd t))) (c.done (wait.On t None));
  };
}

-- a `do` and an `end`
pub opens_done : (b : Body) (K : List Frame) (mode : Mode) → step (token k.Do here) (state K mode) ≡ Some (state (f.Body b ∷ K) (m.In [])) → (c : ClosesBlock (f.Body b ∷ K)) → Done (token k.Do here ∷ c.more) (state K mode)
opens_done b K mode h c = done_step (token k.Do here) (state K mode) h (c.done [])

pub closes_target : (K : List Frame) → InTarget K → ClosesTarget K
unfolding body_done
closes_target [] i = absurd i
closes_target (f.Every x ∷ K) i = let c = closes_form K i in record {
  more = token k.Do here ∷ token k.End here ∷ c.more;
  done = λ t. record {
    state = state K (m.Looping (l.EveryDo x t));
    is = refl;
    done = opens_done (body.Every x t) K (m.Looping (l.EveryDo x t)) refl (body_done (body.Every x t) K (λ b. stmt.Every x t b) (λ b. refl) c);
  };
}
closes_target (f.Watching ∷ K) i = let c = closes_form K i in record {
  more = token k.Do here ∷ token k.End here ∷ c.more;
  done = λ t. record {
    state = state K (m.Opening (o.WatchingDo t));
    is = refl;
    done = opens_done (body.Watching t) K (m.Opening (o.WatchingDo t)) refl (body_done (body.Watching t) K (λ b. stmt.Watching t b) (λ b. refl) c);
  };
}
closes_target (frame ∷ K) i = aimed_done (frame ∷ K) (λ t. refl) i

-- ---- what closes an expression

-- one token that ends it, and those behind, whatever the expression is
pub record Closes (K : List Frame) : Type 0 where
  pub kind : Kind
  pub is : Ender kind
  pub more : List Terminal
  pub done : (e : Exp) → Done (token kind here ∷ more) (state K (m.After e))

pub done_as : {more : List Terminal} (t : Terminal) (s u : State) → step t s ≡ step t u → Done (t ∷ more) u → Done (t ∷ more) s
unfolding run
done_as {more = more} t s u h d = record { after = d.after; ns = d.ns; runs = ap (then_run (run more)) h ∙ d.runs; ends = d.ends }

-- an expression that `;` ends
semicolon_closes : (K : List Frame) (more : List Terminal) → ((e : Exp) → DoneBy more (spec.ends k.Semicolon here (reduce 0 e K))) → Closes K
semicolon_closes K more h = record { kind = k.Semicolon; is = semicolon_ends; more = more; done = λ e. done_at (token k.Semicolon here) (state K (m.After e)) (h e) }

pub closes : (K : List Frame) → InExp K → Closes K
unfolding body_done
closes [] i = absurd i
closes (f.Binary op at a ∷ K) i =
    let c = closes K i in
    record {
      kind = c.kind;
      is = c.is;
      more = c.more;
      done = λ e. done_as (token c.kind here) (state (f.Binary op at a ∷ K) (m.After e)) (state K (m.After (two op at a e)))
          (c.is.after here e (f.Binary op at a ∷ K) ∙ ap (spec.ends c.kind here) (binary_done op at a e K 0 (omega arith)) ∙ sym (c.is.after here (two op at a e) K)) (c.done (two op at a e));
    }
closes (f.Prefix op at ∷ K) i =
    let c = closes K i in
    record {
      kind = c.kind;
      is = c.is;
      more = c.more;
      done = λ e. done_as (token c.kind here) (state (f.Prefix op at ∷ K) (m.After e)) (state K (m.After (one op at e)))
          (c.is.after here e (f.Prefix op at ∷ K) ∙ sym (c.is.after here (one op at e) K)) (c.done (one op at e));
    }
closes (f.Paren at ∷ K) i = let c = closes K i in record { kind = k.CloseParen; is = close_ends; more = token c.kind here ∷ c.more; done = λ e. done_step (token k.CloseParen here) (state (f.Paren at ∷ K) (m.After e)) refl (c.done e) }
closes (f.Store x ∷ K) i = let c = closes_form K i in semicolon_closes (f.Store x ∷ K) c.more (λ e. c.done (stmt.Assign x (source.Value e)))
closes (f.Initial ty is x ∷ K) i = let c = closes_form K i in semicolon_closes (f.Initial ty is x ∷ K) c.more (λ e. c.done (stmt.Vars ty (is ++ item x (Some (source.Value e)) ∷ [])))
closes (f.Until t ∷ K) i = let c = closes_await K i in semicolon_closes (f.Until t ∷ K) c.more (λ e. c.done (wait.On t (Some e)))
closes (f.Escape x ∷ K) i = let c = closes_form K i in semicolon_closes (f.Escape x ∷ K) c.more (λ e. c.done (stmt.Escape x (Some e)))
closes (f.Emit x ∷ K) i = let c = closes_form K i in
    record { kind = k.CloseParen; is = close_ends; more = token k.Semicolon here ∷ c.more; done = λ e. done_step (token k.CloseParen here) (state (f.Emit x ∷ K) (m.After e)) refl (done_at (token k.Semicolon here) (state K (m.Semicolon (stmt.Emit x (Some e)))) (c.done (stmt.Emit x (Some e)))) }
closes (f.Condition arms ∷ K) i = let c = closes_form K i in
    record {
      kind = k.Then;
      is = then_ends;
      more = token k.End here ∷ c.more;
      done = λ e. done_step (token k.Then here) (state (f.Condition arms ∷ K) (m.After e)) refl
          (let b = body_done (body.Arm arms e) K (λ x. stmt.If (arms ++ Arm' e x ∷ []) None) (λ x. refl) c in b.done []);
    }
closes (f.RangeTo x open_a from ∷ K) i = let c = closes_form K i in
    record {
      kind = k.CloseBracket;
      is = right_ends;
      more = token k.Do here ∷ token k.End here ∷ c.more;
      done = λ e. done_step (token k.CloseBracket here) (state (f.RangeTo x open_a from ∷ K) (m.After e)) refl
          (opens_done (body.Range x open_a from e false) K (m.Looping (l.RangeDo x open_a from e false)) refl (body_done (body.Range x open_a from e false) K (λ b. stmt.Range (Range' x open_a from e false b)) (λ b. refl) c));
    }
closes (f.RangeFrom x open_a ∷ K) i = let c = closes_form K i in
    record {
      kind = k.Arrow;
      is = arrow_ends;
      more = digits 0 here ∷ token k.CloseBracket here ∷ token k.Do here ∷ token k.End here ∷ c.more;
      done = λ e. done_step (token k.Arrow here) (state (f.RangeFrom x open_a ∷ K) (m.After e)) refl
          (done_step (digits 0 here) (state (f.RangeTo x open_a e ∷ K) m.Start) refl (done_step (token k.CloseBracket here) (state (f.RangeTo x open_a e ∷ K) (m.After (number 0 here))) refl
          (opens_done (body.Range x open_a e (number 0 here) false) K (m.Looping (l.RangeDo x open_a e (number 0 here) false)) refl (body_done (body.Range x open_a e (number 0 here) false) K (λ b. stmt.Range (Range' x open_a e (number 0 here) false b)) (λ b. refl) c))));
    }
closes (f.Arguments code es ∷ K) i = let c = closes_call K i in
    record { kind = k.CloseParen; is = close_ends; more = c.more; done = λ e. done_at (token k.CloseParen here) (state (f.Arguments code es ∷ K) (m.After e)) (c.done code (es ++ e ∷ [])) }
closes (f.Time ∷ K) i = let c = closes_target K i in
    record {
      kind = k.CloseParen;
      is = close_ends;
      more = lower (unit_name unit.S) here ∷ c.more;
      done = λ e. done_step (token k.CloseParen here) (state (f.Time ∷ K) (m.After e)) refl
          (done_at (lower (unit_name unit.S) here) (state K (m.Acting (a.Unit e))) (c.done (target.TimeExp e unit.S)));
    }
closes (_ ∷ K) i = absurd i
