-- The rules on types that statements break, and the types of the expressions of a program, in pre-order.
use Rattle.std.specs.Prelude.{◌≡◌, ⊤, ℕ, ◌+◌, false, not, if◌then◌else◌, nat_le, List, [], ◌∷◌, length, fold, Option, Some, None, Result, Ok, Err}
use Rattle.ceu_base.specs.declared.kinds.Ty.{Ty}
use Rattle.ceu_base.specs.declared.kinds.Ty.TheVariants as ty
use Rattle.ceu_base.specs.declared.kinds.CheckError.{CheckError}
use Rattle.ceu_base.specs.declared.kinds.CheckError.TheVariants.{Refused, Memory}
use Rattle.ceu_base.specs.declared.kinds.Rule.TheVariants.{T1, T2, T4, T5, T6}
use Rattle.ceu_tree.specs.declared.source.Ident.{Ident}
use Rattle.ceu_tree.specs.declared.source.Param.{Param}
use Rattle.ceu_tree.specs.declared.source.Call.{Call}
use Rattle.ceu_tree.specs.declared.source.Spawn.{Spawn}
use Rattle.ceu_tree.specs.declared.source.Target.{Target}
use Rattle.ceu_tree.specs.declared.source.Target.TheVariants as target
use Rattle.ceu_tree.specs.declared.source.Await.{Await}
use Rattle.ceu_tree.specs.declared.source.Await.TheVariants as await
use Rattle.ceu_tree.specs.declared.source.Exp.{Exp}
use Rattle.ceu_tree.specs.declared.source.Source as source
use Rattle.ceu_tree.specs.declared.source.Source.{Source}
use Rattle.ceu_tree.specs.declared.source.Node.{Node}
use Rattle.ceu_tree.specs.declared.source.Item.{Item, Held-Item-value, Item-value-None', Item-value-Some'}
use Rattle.ceu_tree.specs.declared.source.Do.{Do, Do'}
use Rattle.ceu_tree.specs.declared.source.Block.{Block, Block', Row_of-Node, end_of-Node, more_of-Node}
use Rattle.ceu_tree.specs.declared.source.Arm.{Arm, Arm'}
use Rattle.ceu_tree.specs.declared.source.Range.{Range, Range'}
use Rattle.ceu_tree.specs.declared.source.Stmt as stmt
use Rattle.ceu_tree.specs.declared.source.Stmt.{Stmt, Vars', If', Par', Row_of-Item, end_of-Item, more_of-Item, Row_of-Arm, end_of-Arm, more_of-Arm, Row_of-Block, end_of-Block, more_of-Block, Held-Stmt-If-1, Stmt-If-1-None', Stmt-If-1-Some'}
use Rattle.ceu_tree.specs.declared.source.Tree.{Tree}
use Rattle.ceu_scopes.specs.declared.known.Scopes.{Scopes}
use Rattle.ceu_types.specs.declared.found.Found.{Found}
use Rattle.ceu_types.specs.declared.found.Broken.{Broken}
use Rattle.ceu_types.specs.declared.found.LabelTarget.{LabelTarget}
use Rattle.ceu_types.specs.declared.around.Around.{Around}
use Rattle.ceu_types.specs.Typing.{holds, is_none_type}
use Rattle.ceu_types.specs.Notes.{asks, asks_own, past, passed, begun, ended, not_in_every, not_in_async, not_in_finalizer}
use Rattle.ceu_types.specs.Uses.{use_type, is_output_use, has_parameters, parameter_type}
use Rattle.ceu_types.specs.Expressions.{given, condition, time, or_none}
use Rattle.ceu_types.specs.Around.{program_around, code_around, async_around, loop_around, do_around, labelled, unlabelled, target_takes, takes_value, jumped, escaped}

-- ---- calls, spawns, awaits

abbrev pub if_given : Scopes → Option Exp → Ty → Found → Found
if_given s None t f = f
if_given s (Some e) t f = given s e t f

-- arguments from this place on; the code's use stands at this place of the list of uses
abbrev pub arguments_found : Scopes → ℕ → ℕ → List Exp → Found → Found
arguments_found s code i [] f = f
arguments_found s code i (e ∷ es) f = arguments_found s code (i + 1) es (given s e (parameter_type s code i) f)

unfoldable pub call_found : Scopes → Call → Found → Found
call_found s c f =
    arguments_found s f.names 0 c.args (passed s (asks_own (has_parameters s f.names (length c.args)) T4 f))

unfoldable pub spawn_found : Scopes → Spawn → Found → Found
spawn_found s start f = passed s (call_found s start.call (not_in_async (not_in_finalizer f)))

unfoldable pub target_found : Scopes → Target → Found → Found
target_found s (target.Ext x) f = passed s f
target_found s (target.Event x) f = passed s f
target_found s (target.Time us) f = f
target_found s (target.TimeExp e u) f = time s e f

abbrev pub until_found : Scopes → Option Exp → Found → Found
until_found s None f = f
until_found s (Some e) f = condition s e f

unfoldable pub await_found : Scopes → Await → Found → Found
await_found s await.Forever f = f
await_found s (await.Code c) f = call_found s c f
await_found s (await.On t until) f = until_found s until (target_found s t f)

-- the type of an await's value; a time's is its delay
unfoldable pub target_type : Scopes → Target → ℕ → Ty
target_type s (target.Ext x) k = use_type s k
target_type s (target.Event x) k = use_type s k
target_type s (target.Time us) k = ty.S32
target_type s (target.TimeExp e u) k = ty.S32

unfoldable pub await_type : Scopes → Await → ℕ → Ty
await_type s await.Forever k = ty.None
await_type s (await.Code c) k = use_type s k
await_type s (await.On t until) k = target_type s t k

-- a variable of the first type takes the value of an await of the second
unfoldable pub taken : Ty → Ty → Found → Found
taken t value f = if is_none_type value then asks_own false T5 f else asks_own (holds t value) T2 f

-- an await, or what else waits
unfoldable pub waits : Found → Found
waits f = not_in_every (not_in_async (not_in_finalizer f))

-- a statement that neither an async nor a finalizer has
unfoldable pub acts : Found → Found
acts f = not_in_async (not_in_finalizer f)

-- a finalizer has emissions of outputs alone
abbrev pub emitted : Scopes → Found → Found
emitted s f = if is_output_use s f.names then not_in_async f else acts f

unfoldable pub emit_found : Scopes → Option Exp → Found → Found
emit_found s e f =
    if_given s e (use_type s f.names)
    (passed s (asks_own (takes_value (use_type s f.names) e) T4 (emitted s f)))

unfoldable pub escape_found : Scopes → Around → Option Ident → Option Exp → Found → Found
escape_found s a l e f = if_given s e (or_none (target_takes a f l)) (escaped (target_takes a f l) e (not_in_finalizer f))

abbrev pub if_spawn_found : Scopes → Option Spawn → Found → Found
if_spawn_found s None f = f
if_spawn_found s (Some start) f = spawn_found s start f

-- a variable or a parameter has a type with values
unfoldable pub name_typed : Ty → Ident → Found → Found
name_typed t x f = asks (not (is_none_type t)) T1 x.pos f

abbrev pub param_found : Found → Param → Found
param_found f p = name_typed p.ty p.name f

unfoldable pub params_found : Ident → List Param → Found → Found
params_found x ps f = fold param_found (asks (nat_le (length ps) 255) T4 x.pos (acts f)) ps

abbrev pub use_passed : Scopes → Found → Ident → Found
use_passed s f x = passed s f

abbrev pub uses_passed : Scopes → List Ident → Found → Found
uses_passed s xs f = fold (use_passed s) f xs

abbrev pub every_takes : Scopes → Option Ident → Target → Found → Found
every_takes s None t f = f
every_takes s (Some x) t f = passed s (taken (use_type s f.names) (target_type s t (past s f.names)) f)

-- ---- what holds something that it doesn't allow

unfoldable pub every_begun : Scopes → Option Ident → Target → Found → Found
every_begun s x t f = record (target_found s t (every_takes s x t (acts f))) { beyond_every = false }

unfoldable pub every_ended : Found → Found
every_ended f = not_in_every (asks_own (not f.beyond_every) T6 f)

unfoldable pub finalizer_begun : Found → Found
finalizer_begun f = record f { beyond_finalizer = false }

unfoldable pub finalizer_ended : Found → Found
finalizer_ended f = acts (asks_own (not f.beyond_finalizer) T6 f)

-- nothing leaves an async, so the labels around it don't count
unfoldable pub async_begun : Scopes → List Ident → Found → Found
async_begun s xs f = uses_passed s xs (record f { beyond_async = false; labels = [] })

unfoldable pub async_ended : List LabelTarget → Found → Found
async_ended labels f = waits (record (asks_own (not f.beyond_async) T6 f) { labels = labels })

-- ---- statements

unfoldable mutual
  pub stmt_found : Scopes → Around → Stmt → Found → Found
  stmt_found s a stmt.Nothing f = f
  stmt_found s a stmt.Break f = jumped a (not_in_finalizer f)
  stmt_found s a stmt.Continue f = jumped a (not_in_finalizer f)
  stmt_found s a (Vars' t _ items) f = items_found s a t items (not_in_finalizer f)
  stmt_found s a (stmt.AliasDecl code x start) f = if_spawn_found s start (passed s (acts f))
  stmt_found s a (stmt.Events t xs) f = acts f
  stmt_found s a (stmt.Inputs t xs) f = acts f
  stmt_found s a (stmt.Outputs t xs) f = acts f
  stmt_found s a (stmt.Pool n code x) f = passed s (acts f)
  stmt_found s a (stmt.Code x ps t b) f = block_found s (code_around t) b (params_found x ps f)
  stmt_found s a (stmt.Assign x v) f = source_found s a (use_type s f.names) v (passed s f)
  stmt_found s a (stmt.Emit x e) f = emit_found s e f
  stmt_found s a (stmt.Await w) f = await_found s w (waits f)
  stmt_found s a (stmt.Spawn start) f = spawn_found s start f
  stmt_found s a (stmt.Kill x) f = passed s (acts f)
  stmt_found s a (stmt.Escape l e) f = escape_found s a l e f
  stmt_found s a (stmt.Do d) f = do_found s a ty.None d (not_in_finalizer f)
  stmt_found s a (stmt.Finalize b) f = finalizer_ended (block_found s a b (finalizer_begun f))
  stmt_found s a (If' _ arms last) f = last_found s a last (arms_found s a arms (not_in_finalizer f))
  stmt_found s a (stmt.Loop n b) f = block_found s (loop_around a) b (not_in_finalizer f)
  stmt_found s a (stmt.Range r) f = range_found s a r (not_in_finalizer f)
  stmt_found s a (stmt.Every x t b) f = every_ended (block_found s (loop_around a) b (every_begun s x t f))
  stmt_found s a (stmt.Watching t b) f = block_found s a b (target_found s t (waits f))
  stmt_found s a (Par' kind _ bs) f = blocks_found s a bs (waits f)
  stmt_found s a (stmt.Async xs b) f = async_ended f.labels (block_found s async_around b (async_begun s xs f))

  -- the value of a variable of this type, or of an alias
  pub source_found : Scopes → Around → Ty → Source → Found → Found
  source_found s a t (source.Value e) f = given s e t f
  source_found s a t (source.Wait w) f = await_found s w (taken t (await_type s w f.names) (waits f))
  source_found s a t (source.Start start) f = spawn_found s start f
  source_found s a t (source.Done d) f = do_found s a t d (acts f)

  pub value_found : Scopes → Around → Ty → Held-Item-value → Found → Found
  value_found s a t Item-value-None' f = f
  value_found s a t (Item-value-Some' v) f = source_found s a t v f

  -- a `do` that takes a value of this type
  pub do_found : Scopes → Around → Ty → Do → Found → Found
  do_found s a t (Do' l b) f = unlabelled l (block_found s (do_around l t a) b (labelled l t f))

  pub block_found : Scopes → Around → Block → Found → Found
  block_found s a (Block' _ list) f = nodes_found s a list f

  pub arm_found : Scopes → Around → Arm → Found → Found
  arm_found s a (Arm' c b) f = block_found s a b (condition s c f)

  pub last_found : Scopes → Around → Held-Stmt-If-1 → Found → Found
  last_found s a Stmt-If-1-None' f = f
  last_found s a (Stmt-If-1-Some' b) f = block_found s a b f

  pub range_found : Scopes → Around → Range → Found → Found
  range_found s a (Range' x _ low high _ b) f = block_found s (loop_around a) b (given s high ty.S32 (given s low ty.S32 f))

  pub items_found : {n : _} → Scopes → Around → Ty → Row_of-Item n → Found → Found
  items_found s a t end_of-Item f = f
  items_found s a t (more_of-Item x v rest) f =
      items_found s a t rest (value_found s a t v (name_typed t x f))

  pub arms_found : {n : _} → Scopes → Around → Row_of-Arm n → Found → Found
  arms_found s a end_of-Arm f = f
  arms_found s a (more_of-Arm arm rest) f = arms_found s a rest (arm_found s a arm f)

  pub blocks_found : {n : _} → Scopes → Around → Row_of-Block n → Found → Found
  blocks_found s a end_of-Block f = f
  blocks_found s a (more_of-Block b rest) f = blocks_found s a rest (block_found s a b f)

  pub nodes_found : {n : _} → Scopes → Around → Row_of-Node n → Found → Found
  nodes_found s a end_of-Node f = f
  nodes_found s a (more_of-Node p st rest) f = nodes_found s a rest (ended p f (stmt_found s a st (begun f)))

-- ---- the same over the lists of a tree, a statement after the other

abbrev pub node_stepped : Scopes → Around → Found → Node → Found
node_stepped s a f n = ended n.pos f (stmt_found s a n.stmt (begun f))

abbrev pub if_source_found : Scopes → Around → Ty → Option Source → Found → Found
if_source_found s a t None f = f
if_source_found s a t (Some v) f = source_found s a t v f

abbrev pub item_stepped : Scopes → Around → Ty → Found → Item → Found
item_stepped s a t f x = if_source_found s a t x.value (name_typed t x.name f)

abbrev pub arm_stepped : Scopes → Around → Found → Arm → Found
arm_stepped s a f arm = arm_found s a arm f

abbrev pub block_stepped : Scopes → Around → Found → Block → Found
block_stepped s a f b = block_found s a b f

abbrev pub if_block_found : Scopes → Around → Option Block → Found → Found
if_block_found s a None f = f
if_block_found s a (Some b) f = block_found s a b f

-- ---- programs

-- before the first token
abbrev pub nothing_found : Found
nothing_found =
    record {
      names = 0;
      types = [];
      labels = [];
      own = None;
      broken = None;
      beyond_every = false;
      beyond_async = false;
      beyond_finalizer = false;
    }

abbrev pub answer : Option Broken → List Ty → Result (List Ty) CheckError
answer None types = Ok types
answer (Some b) types = Err (Refused b.rule b.pos)

abbrev pub found_answer : Found → Result (List Ty) CheckError
found_answer f = answer f.broken f.types

-- the type of each expression of a program in pre-order, or the rule on types that is broken first, with its place
unfoldable pub types_of : Scopes → Tree → Result (List Ty) CheckError
types_of s t = found_answer (block_found s program_around t.body nothing_found)

-- a refusal names the rule that is broken first; want of memory says nothing of the program
abbrev pub IsCause : CheckError → Result (List Ty) CheckError → Type 0
IsCause Memory answer = ⊤
IsCause (Refused r p) answer = answer ≡ Err (Refused r p)
