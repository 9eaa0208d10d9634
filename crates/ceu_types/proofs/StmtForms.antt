-- Definitions on statements, by the forms that the code meets.
use Rattle.std.proofs.Common.{◌≡◌, refl, sym, ap, ◌∙◌, ℕ, zero, suc, ◌<◌, length, take, get_or, arith, List, [], ◌∷◌, Option, Some, None}
use Rattle.std.specs.List.{fold}
use Rattle.ceu_base.specs.declared.kinds.Ty.{Ty}
use Rattle.ceu_base.specs.declared.kinds.Ty.TheVariants as ty
use Rattle.ceu_tree.specs.declared.source.Ident.{Ident}
use Rattle.ceu_tree.specs.declared.source.Param.{Param}
use Rattle.ceu_tree.specs.declared.source.Spawn.{Spawn}
use Rattle.ceu_tree.specs.declared.source.Target.{Target}
use Rattle.ceu_tree.specs.declared.source.Await.{Await}
use Rattle.ceu_tree.specs.declared.source.Exp.{Exp}
use Rattle.ceu_tree.specs.declared.source.Source as source
use Rattle.ceu_tree.specs.declared.source.Source.{Source}
use Rattle.ceu_tree.specs.declared.source.Item.{Item, Held-Item-value, Item-value-None', Item-value-Some', view-Item-value}
use Rattle.ceu_tree.specs.declared.source.Do.{Do, Do', out-Do}
use Rattle.ceu_tree.specs.declared.source.Block.{Block, Block', out-Block, Row_of-Node, end_of-Node, more_of-Node, items-the_row-Node, items_shown-the_row-Node-3}
use Rattle.ceu_tree.specs.declared.source.Arm.{Arm, Arm', out-Arm}
use Rattle.ceu_tree.specs.declared.source.Range.{Range, Range', out-Range}
use Rattle.ceu_tree.specs.declared.source.Stmt as stmt
use Rattle.ceu_tree.specs.declared.source.Stmt.{Stmt, Row_of-Item, end_of-Item, more_of-Item, items-the_row-Item, items_hidden-the_row-Item-0, Row_of-Arm, end_of-Arm, more_of-Arm, items-the_row-Arm, items_hidden-the_row-Arm-1, Row_of-Block, end_of-Block, more_of-Block, items-the_row-Block, items_hidden-the_row-Block-2, Held-Stmt-If-1, Stmt-If-1-None', Stmt-If-1-Some', back-Stmt-If-1}
use Rattle.ceu_tree.specs.declared.source.Source.TheBlock.{hidden-the_row-Item-0, hidden-the_row-Arm-1, hidden-the_row-Block-2}
use Rattle.ceu_scopes.specs.declared.known.Scopes.{Scopes}
use Rattle.ceu_types.specs.declared.found.Found.{Found}
use Rattle.ceu_types.specs.declared.around.Around.{Around}
use Rattle.ceu_types.specs.Notes.{passed, begun, ended, not_in_finalizer}
use Rattle.ceu_types.specs.Uses.{use_type}
use Rattle.ceu_types.specs.Expressions.{given, condition}
use Rattle.ceu_types.specs.Around.{code_around, async_around, loop_around, do_around, labelled, unlabelled, jumped}
use Rattle.ceu_types.specs.Statements.{stmt_found, source_found, value_found, do_found, block_found, arm_found, last_found, items_found, arms_found, blocks_found, nodes_found, node_stepped, item_stepped, if_source_found, arm_stepped, block_stepped, if_block_found, name_typed, if_spawn_found, params_found, emit_found, await_found, await_type, spawn_found, escape_found, target_found, taken, waits, acts, every_begun, every_ended, finalizer_begun, finalizer_ended, async_begun, async_ended}
use denote.Hole.Carrier

pub found_nothing : (s : Scopes) (a : Around) (f : Found) →
    stmt_found s a stmt.Nothing f
    ≡ f
unfolding stmt_found
found_nothing s a f = refl

pub found_break : (s : Scopes) (a : Around) (f : Found) →
    stmt_found s a stmt.Break f
    ≡ jumped a (not_in_finalizer f)
unfolding stmt_found
found_break s a f = refl

pub found_continue : (s : Scopes) (a : Around) (f : Found) →
    stmt_found s a stmt.Continue f
    ≡ jumped a (not_in_finalizer f)
unfolding stmt_found
found_continue s a f = refl

pub found_alias : (s : Scopes) (a : Around) (code x : Ident) (start : Option Spawn) (f : Found) →
    stmt_found s a (stmt.AliasDecl code x start) f
    ≡ if_spawn_found s start (passed s (acts f))
unfolding stmt_found
found_alias s a code x start f = refl

pub found_events : (s : Scopes) (a : Around) (t : Ty) (xs : List Ident) (f : Found) →
    stmt_found s a (stmt.Events t xs) f
    ≡ acts f
unfolding stmt_found
found_events s a t xs f = refl

pub found_inputs : (s : Scopes) (a : Around) (t : Ty) (xs : List Ident) (f : Found) →
    stmt_found s a (stmt.Inputs t xs) f
    ≡ acts f
unfolding stmt_found
found_inputs s a t xs f = refl

pub found_outputs : (s : Scopes) (a : Around) (t : Ty) (xs : List Ident) (f : Found) →
    stmt_found s a (stmt.Outputs t xs) f
    ≡ acts f
unfolding stmt_found
found_outputs s a t xs f = refl

pub found_pool : (s : Scopes) (a : Around) (n : ℕ) (code x : Ident) (f : Found) →
    stmt_found s a (stmt.Pool n code x) f
    ≡ passed s (acts f)
unfolding stmt_found
found_pool s a n code x f = refl

pub found_code : (s : Scopes) (a : Around) (x : Ident) (ps : List Param) (t : Ty) (b : Block) (f : Found) →
    stmt_found s a (stmt.Code x ps t b) f
    ≡ block_found s (code_around t) b (params_found x ps f)
unfolding stmt_found
found_code s a x ps t b f = refl

pub found_assign : (s : Scopes) (a : Around) (x : Ident) (v : Source) (f : Found) →
    stmt_found s a (stmt.Assign x v) f
    ≡ source_found s a (use_type s f.names) v (passed s f)
unfolding stmt_found
found_assign s a x v f = refl

pub found_emit : (s : Scopes) (a : Around) (x : Ident) (e : Option Exp) (f : Found) →
    stmt_found s a (stmt.Emit x e) f
    ≡ emit_found s e f
unfolding stmt_found
found_emit s a x e f = refl

pub found_await : (s : Scopes) (a : Around) (w : Await) (f : Found) →
    stmt_found s a (stmt.Await w) f
    ≡ await_found s w (waits f)
unfolding stmt_found
found_await s a w f = refl

pub found_spawn : (s : Scopes) (a : Around) (start : Spawn) (f : Found) →
    stmt_found s a (stmt.Spawn start) f
    ≡ spawn_found s start f
unfolding stmt_found
found_spawn s a start f = refl

pub found_kill : (s : Scopes) (a : Around) (x : Ident) (f : Found) →
    stmt_found s a (stmt.Kill x) f
    ≡ passed s (acts f)
unfolding stmt_found
found_kill s a x f = refl

pub found_escape : (s : Scopes) (a : Around) (l : Option Ident) (e : Option Exp) (f : Found) →
    stmt_found s a (stmt.Escape l e) f
    ≡ escape_found s a l e f
unfolding stmt_found
found_escape s a l e f = refl

pub found_of_do : (s : Scopes) (a : Around) (d : Do) (f : Found) →
    stmt_found s a (stmt.Do d) f
    ≡ do_found s a ty.None d (not_in_finalizer f)
unfolding stmt_found
found_of_do s a d f = refl

pub found_finalize : (s : Scopes) (a : Around) (b : Block) (f : Found) →
    stmt_found s a (stmt.Finalize b) f
    ≡ finalizer_ended (block_found s a b (finalizer_begun f))
unfolding stmt_found
found_finalize s a b f = refl

pub found_loop : (s : Scopes) (a : Around) (n : Option ℕ) (b : Block) (f : Found) →
    stmt_found s a (stmt.Loop n b) f
    ≡ block_found s (loop_around a) b (not_in_finalizer f)
unfolding stmt_found
found_loop s a n b f = refl

pub found_every : (s : Scopes) (a : Around) (x : Option Ident) (t : Target) (b : Block) (f : Found) →
    stmt_found s a (stmt.Every x t b) f
    ≡ every_ended (block_found s (loop_around a) b (every_begun s x t f))
unfolding stmt_found
found_every s a x t b f = refl

pub found_watching : (s : Scopes) (a : Around) (t : Target) (b : Block) (f : Found) →
    stmt_found s a (stmt.Watching t b) f
    ≡ block_found s a b (target_found s t (waits f))
unfolding stmt_found
found_watching s a t b f = refl

pub found_async : (s : Scopes) (a : Around) (xs : List Ident) (b : Block) (f : Found) →
    stmt_found s a (stmt.Async xs b) f
    ≡ async_ended f.labels (block_found s async_around b (async_begun s xs f))
unfolding stmt_found
found_async s a xs b f = refl

pub found_value : (s : Scopes) (a : Around) (t : Ty) (e : Exp) (f : Found) →
    source_found s a t (source.Value e) f
    ≡ given s e t f
unfolding stmt_found
found_value s a t e f = refl

pub found_wait : (s : Scopes) (a : Around) (t : Ty) (w : Await) (f : Found) →
    source_found s a t (source.Wait w) f
    ≡ await_found s w (taken t (await_type s w f.names) (waits f))
unfolding stmt_found
found_wait s a t w f = refl

pub found_start : (s : Scopes) (a : Around) (t : Ty) (start : Spawn) (f : Found) →
    source_found s a t (source.Start start) f
    ≡ spawn_found s start f
unfolding stmt_found
found_start s a t start f = refl

pub found_done : (s : Scopes) (a : Around) (t : Ty) (d : Do) (f : Found) →
    source_found s a t (source.Done d) f
    ≡ do_found s a t d (acts f)
unfolding stmt_found
found_done s a t d f = refl

-- ---- lists

value_view : (s : Scopes) (a : Around) (t : Ty) (v : Held-Item-value) (f : Found) → value_found s a t v f ≡ if_source_found s a t (view-Item-value v) f
unfolding value_found
value_view s a t Item-value-None' f = refl
value_view s a t (Item-value-Some' v) f = refl

last_back : (s : Scopes) (a : Around) (b : Option Block) (f : Found) → last_found s a (back-Stmt-If-1 b) f ≡ if_block_found s a b f
unfolding last_found
last_back s a None f = refl
last_back s a (Some b) f = refl

items_row : {n : _} (s : Scopes) (a : Around) (t : Ty) (r : Row_of-Item n) (f : Found) → items_found s a t r f ≡ fold (item_stepped s a t) f (items-the_row-Item n r)
unfolding items_found
items_row s a t end_of-Item f = refl
items_row s a t (more_of-Item x v rest) f =
    ap (items_found s a t rest) (value_view s a t v (name_typed t x f))
    ∙ items_row s a t rest (if_source_found s a t (view-Item-value v) (name_typed t x f))

arms_row : {n : _} (s : Scopes) (a : Around) (r : Row_of-Arm n) (f : Found) → arms_found s a r f ≡ fold (arm_stepped s a) f (items-the_row-Arm n r)
unfolding arms_found
arms_row s a end_of-Arm f = refl
arms_row s a (more_of-Arm arm rest) f = arms_row s a rest (arm_found s a arm f)

blocks_row : {n : _} (s : Scopes) (a : Around) (r : Row_of-Block n) (f : Found) → blocks_found s a r f ≡ fold (block_stepped s a) f (items-the_row-Block n r)
unfolding blocks_found
blocks_row s a end_of-Block f = refl
blocks_row s a (more_of-Block b rest) f = blocks_row s a rest (block_found s a b f)

nodes_row : {n : _} (s : Scopes) (a : Around) (r : Row_of-Node n) (f : Found) → nodes_found s a r f ≡ fold (node_stepped s a) f (items-the_row-Node n r)
unfolding nodes_found
nodes_row s a end_of-Node f = refl
nodes_row s a (more_of-Node p st rest) f = nodes_row s a rest (ended p f (stmt_found s a st (begun f)))

pub found_vars : (s : Scopes) (a : Around) (t : Ty) (items : List Item) (f : Found) →
    stmt_found s a (stmt.Vars t items) f ≡ fold (item_stepped s a t) (not_in_finalizer f) items
unfolding stmt_found
found_vars s a t items f =
    items_row s a t (hidden-the_row-Item-0 items) (not_in_finalizer f)
    ∙ ap (fold (item_stepped s a t) (not_in_finalizer f)) (items_hidden-the_row-Item-0 items)

pub found_if : (s : Scopes) (a : Around) (arms : List Arm) (last : Option Block) (f : Found) →
    stmt_found s a (stmt.If arms last) f ≡ if_block_found s a last (fold (arm_stepped s a) (not_in_finalizer f) arms)
unfolding stmt_found
found_if s a arms last f =
    last_back s a last (arms_found s a (hidden-the_row-Arm-1 arms) (not_in_finalizer f))
    ∙ ap (if_block_found s a last) (arms_row s a (hidden-the_row-Arm-1 arms) (not_in_finalizer f)
    ∙ ap (fold (arm_stepped s a) (not_in_finalizer f)) (items_hidden-the_row-Arm-1 arms))

pub found_par : (s : Scopes) (a : Around) (k : _) (bs : List Block) (f : Found) →
    stmt_found s a (stmt.Par k bs) f ≡ fold (block_stepped s a) (waits f) bs
unfolding stmt_found
found_par s a k bs f =
    blocks_row s a (hidden-the_row-Block-2 bs) (waits f) ∙ ap (fold (block_stepped s a) (waits f)) (items_hidden-the_row-Block-2 bs)

pub found_of_block : (s : Scopes) (a : Around) (b : Block) (f : Found) → block_found s a b f ≡ fold (node_stepped s a) f (out-Block b).list
unfolding block_found out-Block Carrier.out
found_of_block s a (Block' x list) f = nodes_row s a list f ∙ sym (ap (fold (node_stepped s a) f) (items_shown-the_row-Node-3 x list))

pub found_do : (s : Scopes) (a : Around) (t : Ty) (d : Do) (f : Found) →
    do_found s a t d f
    ≡ unlabelled (out-Do d).label (block_found s (do_around (out-Do d).label t a) (out-Do d).body (labelled (out-Do d).label t f))
unfolding do_found out-Do Carrier.out
found_do s a t (Do' l b) f = refl

pub found_range : (s : Scopes) (a : Around) (r : Range) (f : Found) →
    stmt_found s a (stmt.Range r) f
    ≡ block_found s (loop_around a) (out-Range r).body (given s (out-Range r).b ty.S32 (given s (out-Range r).a ty.S32 (not_in_finalizer f)))
unfolding stmt_found out-Range Carrier.out
found_range s a (Range' x _ low high _ b) f = refl

pub found_arm : (s : Scopes) (a : Around) (arm : Arm) (f : Found) →
    arm_found s a arm f ≡ block_found s a (out-Arm arm).body (condition s (out-Arm arm).cond f)
unfolding arm_found out-Arm Carrier.out
found_arm s a (Arm' c b) f = refl

pub fold_next : {A : Type 0} (step : Found → A → Found) (f : Found) (xs : List A) (i : ℕ) (d : A) → i < length xs →
    fold step f (take (suc i) xs) ≡ step (fold step f (take i xs)) (get_or xs i d)
fold_next step f [] i d h = absurd (omega arith)
fold_next step f (x ∷ xs) zero d h = refl
fold_next step f (x ∷ xs) (suc i) d h = fold_next step (step f x) xs i d (omega arith)

pub ruleset forms = (found_nothing, found_break, found_continue, found_alias, found_events, found_inputs, found_outputs, found_pool, found_code, found_assign, found_emit, found_await, found_spawn, found_kill, found_escape, found_of_do, found_finalize, found_loop, found_every, found_watching, found_async, found_value, found_wait, found_start, found_done, found_vars, found_if, found_par, found_of_block, found_do, found_range, found_arm, fold_next)
