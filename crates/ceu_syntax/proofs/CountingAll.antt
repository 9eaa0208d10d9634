-- How many operators the open expression has behind a token: blocks, declarations, statements, and any token.
use Rattle.std.proofs.Common.{◌≡◌, refl, subst, ◌+◌, arith, List, [], ◌∷◌, ◌++◌, Option, Some, None}
use Rattle.ceu_base.specs.declared.kinds.Pos.{Pos}
use Rattle.ceu_base.specs.declared.kinds.Ty.{Ty}
use Rattle.ceu_base.specs.declared.kinds.Ty.TheVariants as ty
use Rattle.ceu_tree.specs.declared.kernel.Unit.{Unit as TimeUnit}
use Rattle.ceu_tree.specs.declared.source.Ident.{Ident}
use Rattle.ceu_tree.specs.declared.source.Exp.{Exp}
use Rattle.ceu_tree.specs.declared.source.Item.{Item}
use Rattle.ceu_tree.specs.declared.source.Target.TheVariants as target
use Rattle.ceu_tree.specs.declared.source.Await.TheVariants as wait
use Rattle.ceu_tree.specs.declared.source.Node.{Node}
use Rattle.ceu_tree.specs.declared.source.Do.{Do'}
use Rattle.ceu_tree.specs.declared.source.Block.{Block}
use Rattle.ceu_tree.specs.declared.source.Arm.{Arm'}
use Rattle.ceu_tree.specs.declared.source.Range.{Range'}
use Rattle.ceu_tree.specs.declared.source.Label.TheVariants as label
use Rattle.ceu_tree.specs.declared.source.Source.{Source}
use Rattle.ceu_tree.specs.declared.source.Source as source
use Rattle.ceu_tree.specs.declared.source.Stmt.{Stmt}
use Rattle.ceu_tree.specs.declared.source.Stmt as stmt
use Rattle.ceu_syntax.specs.declared.terminal.Kind.{Kind}
use Rattle.ceu_syntax.specs.declared.terminal.Kind.TheVariants as k
use Rattle.ceu_syntax.specs.declared.machine.Body.{Body}
use Rattle.ceu_syntax.specs.declared.machine.Body.TheVariants as body
use Rattle.ceu_syntax.specs.declared.machine.Frame.{Frame}
use Rattle.ceu_syntax.specs.declared.machine.Frame.TheVariants as f
use Rattle.ceu_syntax.specs.declared.machine.Case.{Case}
use Rattle.ceu_syntax.specs.declared.machine.Case.TheVariants as case
use Rattle.ceu_syntax.specs.declared.machine.Listed.{Listed}
use Rattle.ceu_syntax.specs.declared.machine.Listed.TheVariants as listed
use Rattle.ceu_syntax.specs.declared.machine.Act.TheVariants as act
use Rattle.ceu_syntax.specs.declared.machine.Declaring.{Declaring}
use Rattle.ceu_syntax.specs.declared.machine.Declaring.TheVariants as d
use Rattle.ceu_syntax.specs.declared.machine.Coding.{Coding}
use Rattle.ceu_syntax.specs.declared.machine.Coding.TheVariants as c
use Rattle.ceu_syntax.specs.declared.machine.Acting.{Acting}
use Rattle.ceu_syntax.specs.declared.machine.Acting.TheVariants as a
use Rattle.ceu_syntax.specs.declared.machine.Opening.{Opening}
use Rattle.ceu_syntax.specs.declared.machine.Opening.TheVariants as o
use Rattle.ceu_syntax.specs.declared.machine.Looping.{Looping}
use Rattle.ceu_syntax.specs.declared.machine.Looping.TheVariants as l
use Rattle.ceu_syntax.specs.declared.machine.Mode.{Mode}
use Rattle.ceu_syntax.specs.declared.machine.Mode.TheVariants as m
use Rattle.ceu_syntax.specs.Limits.{last_operators, open_operators, operator_count, with_open}
use Rattle.ceu_syntax.specs.Steps as spec
use Rattle.ceu_syntax.specs.Steps.{state}
use Rattle.ceu_syntax.specs.Trees.{ident, item, node, block}
use Rattle.ceu_syntax.proofs.Counting.{Counted, Outside, act_out, aimed_out, called_out, closed_out, comma_out, do_out, outside, starts_count, ends_count, follows_count, named_count, cast_count, outer_count, outer_name_count}

-- ---- blocks

body_out : (b : Body) (x : Block) (K : List Frame) → Outside (spec.body_end b x K)
body_out (body.Do y) x K = do_out (Do' y x) K
body_out body.Finalize x K = closed_out (stmt.Finalize x) K
body_out (body.Arm arms e) x K = closed_out (stmt.If (arms ++ Arm' e x ∷ []) None) K
body_out (body.Else arms) x K = closed_out (stmt.If arms (Some x)) K
body_out (body.Loop n) x K = closed_out (stmt.Loop n x) K
body_out (body.Range y open_a from to open_b) x K = closed_out (stmt.Range (Range' y open_a from to open_b x)) K
body_out (body.Every y t) x K = closed_out (stmt.Every y t x) K
body_out (body.Watching t) x K = closed_out (stmt.Watching t x) K
body_out (body.FirstBranch kind) x K = tt
body_out (body.Branch kind bs) x K = closed_out (stmt.Par kind (bs ++ x ∷ [])) K
body_out (body.Async xs) x K = closed_out (stmt.Async xs x) K
body_out (body.Code y ps t) x K = closed_out (stmt.Code y ps t x) K

end_out : (ns : List Node) (K : List Frame) → Outside (spec.of_end ns K)
end_out ns [] = tt
end_out ns (f.Body b ∷ K) = body_out b (block ns) K
end_out ns (_ ∷ K) = tt

with_out : (ns : List Node) (K : List Frame) → Outside (spec.of_with ns K)
with_out ns [] = tt
with_out ns (f.Body (body.FirstBranch kind) ∷ K) = refl
with_out ns (f.Body (body.Branch kind bs) ∷ K) = refl
with_out ns (f.Body _ ∷ K) = tt
with_out ns (_ ∷ K) = tt

else_out : (ns : List Node) (K : List Frame) → Outside (spec.of_else ns K)
else_out ns [] = tt
else_out ns (f.Body (body.Arm arms e) ∷ K) = refl
else_out ns (f.Body _ ∷ K) = tt
else_out ns (_ ∷ K) = tt

pub block_count : (kind : Kind) (at : Pos) (ns : List Node) (K : List Frame) → Counted kind 0 (spec.of_block kind at ns K)
unfolding open_operators
block_count k.Semicolon at ns K = refl
block_count (k.Lower x) at ns K = refl
block_count k.End at ns K = outside k.End 0 (spec.of_end ns K) (end_out ns K)
block_count k.With at ns K = outside k.With 0 (spec.of_with ns K) (with_out ns K)
block_count k.Else at ns K = outside k.Else 0 (spec.of_else ns K) (else_out ns K)
block_count k.Outer at ns K = refl
block_count k.Spawn at ns K = refl
block_count k.If at ns K = refl
block_count k.Watching at ns K = refl
block_count k.Nothing at ns K = refl
block_count k.Break at ns K = refl
block_count k.Continue at ns K = refl
block_count k.Var at ns K = refl
block_count k.Event at ns K = refl
block_count k.Input at ns K = refl
block_count k.Output at ns K = refl
block_count k.Pool at ns K = refl
block_count k.Code at ns K = refl
block_count k.Emit at ns K = refl
block_count k.Await at ns K = refl
block_count k.Kill at ns K = refl
block_count k.Escape at ns K = refl
block_count k.Async at ns K = refl
block_count k.Do at ns K = refl
block_count k.Loop at ns K = refl
block_count k.Every at ns K = refl
block_count k.Par at ns K = refl
block_count _ at ns K = tt

-- ---- declarations

item_value_count : (kind : Kind) (t : Ty) (is : List Item) (x : Ident) (K : List Frame) → Counted kind 0 (spec.item_value kind t is x K)
unfolding open_operators
item_value_count k.Assign t is x K = refl
item_value_count k.Comma t is x K = refl
item_value_count k.Semicolon t is x K = outside k.Semicolon 0 (spec.closed (stmt.Vars t (is ++ item x None ∷ [])) K) (closed_out (stmt.Vars t (is ++ item x None ∷ [])) K)
item_value_count _ t is x K = tt

item_end_count : (kind : Kind) (at : Pos) (x : Stmt) (K : List Frame) → Counted kind 0 (spec.item_end kind at x K)
item_end_count kind at x [] = tt
item_end_count kind at x (f.Begun ns b ∷ K) = block_count kind at (ns ++ node b x ∷ []) K
item_end_count kind at x (_ ∷ K) = tt

name_out : (y : Case) (kind : Kind) (at : Pos) (x : Listed) (xs : List Ident) (K : List Frame) → Outside (spec.of_name y kind at x xs K)
name_out case.Lower (k.Lower y) at x xs K = refl
name_out case.Upper (k.Ext y) at x xs K = refl
name_out _ _ at x xs K = tt

declares_out : (x : Listed) (xs : List Ident) (K : List Frame) → Outside (spec.declares x xs K)
declares_out (listed.Events t) xs K = closed_out (stmt.Events t xs) K
declares_out (listed.Inputs t) xs K = closed_out (stmt.Inputs t xs) K
declares_out (listed.Outputs t) xs K = closed_out (stmt.Outputs t xs) K
declares_out listed.Shared xs K = tt

shares_out : (x : Listed) (xs : List Ident) (K : List Frame) → Outside (spec.shares x xs K)
shares_out listed.Shared xs K = refl
shares_out _ xs K = tt

name_end_out : (kind : Kind) (x : Listed) (xs : List Ident) (K : List Frame) → Outside (spec.of_name_end kind x xs K)
name_end_out k.Comma x xs K = refl
name_end_out k.Semicolon x xs K = declares_out x xs K
name_end_out k.CloseParen x xs K = shares_out x xs K
name_end_out _ x xs K = tt

declared_count : (mode : Declaring) (kind : Kind) (at : Pos) (K : List Frame) → Counted kind 0 (spec.declared mode kind at K)
declared_count d.Var (k.Type t) at K = refl
declared_count d.Var k.Ampersand at K = refl
declared_count d.AliasMark k.Question at K = refl
declared_count d.AliasCode (k.Abs code) at K = refl
declared_count (d.AliasName code) (k.Lower x) at K = refl
declared_count (d.AliasValue code x) k.Semicolon at K = outside k.Semicolon 0 (spec.closed (stmt.AliasDecl code x None) K) (closed_out (stmt.AliasDecl code x None) K)
declared_count (d.AliasValue code x) k.Assign at K = refl
declared_count d.AliasSpawn k.Spawn at K = refl
declared_count (d.Item t is) (k.Lower x) at K = refl
declared_count (d.ItemValue t is x) kind at K = item_value_count kind t is x K
declared_count (d.ItemEnd t is) k.Comma at K = refl
declared_count (d.ItemEnd t is) kind at K = item_end_count kind at (stmt.Vars t is) K
declared_count d.EventType (k.Type t) at K = refl
declared_count d.InputType (k.Type t) at K = refl
declared_count d.OutputType (k.Type t) at K = refl
declared_count (d.Name x xs) kind at K = outside kind 0 (spec.of_name (spec.case_of x) kind at x xs K) (name_out (spec.case_of x) kind at x xs K)
declared_count (d.NameEnd x xs) kind at K = outside kind 0 (spec.of_name_end kind x xs K) (name_end_out kind x xs K)
declared_count d.Pool k.OpenBracket at K = refl
declared_count d.PoolCount (k.Number n) at K = refl
declared_count (d.PoolClose n) k.CloseBracket at K = refl
declared_count (d.PoolCode n) (k.Abs x) at K = refl
declared_count (d.PoolName n code) (k.Lower x) at K = refl
declared_count _ _ at K = tt

-- ---- the head of a code

params_out : (kind : Kind) (code : Ident) (K : List Frame) → Outside (spec.of_params kind code K)
params_out k.CloseParen code K = refl
params_out (k.Type ty.None) code K = refl
params_out (k.Type _) code K = tt
params_out k.Var code K = refl
params_out _ code K = tt

coded_out : (mode : Coding) (kind : Kind) (at : Pos) (K : List Frame) → Outside (spec.coded mode kind at K)
coded_out c.Slash k.Slash at K = refl
coded_out c.Await k.Await at K = refl
coded_out c.Name (k.Abs code) at K = refl
coded_out (c.Open code) k.OpenParen at K = refl
coded_out (c.Params code) kind at K = params_out kind code K
coded_out (c.NoParams code) k.CloseParen at K = refl
coded_out (c.Param code ps) k.Var at K = refl
coded_out (c.ParamType code ps) (k.Type t) at K = refl
coded_out (c.ParamName code ps t) (k.Lower x) at K = refl
coded_out (c.ParamEnd code ps) k.Comma at K = refl
coded_out (c.ParamEnd code ps) k.CloseParen at K = refl
coded_out (c.Arrow code ps) k.Arrow at K = refl
coded_out (c.Result code ps) (k.Type t) at K = refl
coded_out (c.Do code ps t) k.Do at K = refl
coded_out _ _ at K = tt

-- ---- simple statements

target_count : (kind : Kind) (at : Pos) (K : List Frame) → Counted kind 0 (spec.of_target kind at K)
unfolding open_operators
target_count (k.Ext x) at K = outside (k.Ext x) 0 (spec.aimed (target.Ext (ident x at)) K) (aimed_out (target.Ext (ident x at)) K)
target_count (k.Lower x) at K = outside (k.Lower x) 0 (spec.aimed (target.Event (ident x at)) K) (aimed_out (target.Event (ident x at)) K)
target_count (k.Time n) at K = outside (k.Time n) 0 (spec.aimed (target.Time n) K) (aimed_out (target.Time n) K)
target_count k.OpenParen at K = refl
target_count k.Outer at K = refl
target_count _ at K = tt

statement_out : (kind : Kind) (mode : Mode) (K : List Frame) → last_operators mode ≡ None → Outside (spec.in_statement mode K)
statement_out kind mode [] h = tt
statement_out kind mode (f.Begun ns b ∷ K) h = h
statement_out kind mode (_ ∷ K) h = tt

await_count : (kind : Kind) (at : Pos) (K : List Frame) → Counted kind 0 (spec.of_await kind at K)
await_count k.Forever at K = refl
await_count k.Async at K = outside k.Async 0 (spec.in_statement (m.Opening o.Async) K) (statement_out k.Async (m.Opening o.Async) K refl)
await_count (k.Abs x) at K = refl
await_count kind at K = target_count kind at K

-- where an expression may begin, and nothing of it stands
first_count : (at : Pos) (kind : Kind) (K : List Frame) → open_operators K ≡ 0 → Counted kind 0 (spec.starts kind at K)
first_count at kind K h = let n : open_operators K + 0 ≡ 0 = omega arith in subst (λ n. Counted kind n (spec.starts kind at K)) n (starts_count at kind K)

source_count : (kind : Kind) (at : Pos) (K : List Frame) → Counted kind (open_operators K + 0) (spec.of_source kind at K)
source_count k.Await at K = refl
source_count k.Spawn at K = refl
source_count k.Do at K = refl
source_count kind at K = starts_count at kind K

arguments_count : (kind : Kind) (at : Pos) (code : Ident) (K : List Frame) → Counted kind 0 (spec.of_arguments kind at code K)
unfolding open_operators
arguments_count k.CloseParen at code K = outside k.CloseParen 0 (spec.called code [] K) (called_out code [] K)
arguments_count kind at code K = first_count at kind (f.Arguments code [] ∷ K) refl

emit_value_count : (kind : Kind) (at : Pos) (x : Ident) (K : List Frame) → Counted kind 0 (spec.of_emit_value kind at x K)
unfolding open_operators
emit_value_count k.CloseParen at x K = refl
emit_value_count kind at x K = first_count at kind (f.Emit x ∷ K) refl

escape_count : (kind : Kind) (at : Pos) (K : List Frame) → Counted kind 0 (spec.of_escape kind at K)
unfolding open_operators
escape_count k.Slash at K = refl
escape_count k.Semicolon at K = outside k.Semicolon 0 (spec.closed (stmt.Escape None None) K) (closed_out (stmt.Escape None None) K)
escape_count kind at K = first_count at kind (f.Escape None ∷ K) refl

escape_value_count : (kind : Kind) (at : Pos) (x : Ident) (K : List Frame) → Counted kind 0 (spec.of_escape_value kind at x K)
unfolding open_operators
escape_value_count k.Semicolon at x K = outside k.Semicolon 0 (spec.closed (stmt.Escape (Some x) None) K) (closed_out (stmt.Escape (Some x) None) K)
escape_value_count kind at x K = first_count at kind (f.Escape (Some x) ∷ K) refl

timed_out : (unit : Option TimeUnit) (e : Exp) (K : List Frame) → Outside (spec.timed unit e K)
timed_out (Some u) e K = aimed_out (target.TimeExp e u) K
timed_out None e K = tt

acted_count : (mode : Acting) (kind : Kind) (at : Pos) (K : List Frame) → Counted kind (with_open (last_operators (m.Acting mode)) K) (spec.acted mode kind at K)
unfolding open_operators
acted_count (a.Assign x) k.Assign at K = refl
acted_count a.Source kind at K = source_count kind at K
acted_count (a.AwaitEnd t) k.Until at K = refl
acted_count (a.AwaitEnd t) k.Semicolon at K = outside k.Semicolon 0 (spec.act_semicolon (act.Wait (wait.On t None)) K) (act_out (act.Wait (wait.On t None)) K)
acted_count (a.AwaitEnd t) k.Comma at K = outside k.Comma 0 (spec.source_comma (source.Wait (wait.On t None)) K) (comma_out (source.Wait (wait.On t None)) K)
acted_count (a.ActEnd x) k.Semicolon at K = outside k.Semicolon 0 (spec.act_semicolon x K) (act_out x K)
acted_count (a.ActEnd x) k.Comma at K = outside k.Comma 0 (spec.source_comma (spec.source_of x) K) (comma_out (spec.source_of x) K)
acted_count a.Emit (k.Ext x) at K = refl
acted_count a.Emit (k.Lower x) at K = refl
acted_count a.Emit k.Outer at K = refl
acted_count (a.EmitOpen x) k.OpenParen at K = refl
acted_count (a.EmitOpen x) k.Semicolon at K = outside k.Semicolon 0 (spec.closed (stmt.Emit x None) K) (closed_out (stmt.Emit x None) K)
acted_count (a.EmitValue x) kind at K = emit_value_count kind at x K
acted_count a.Await kind at K = await_count kind at K
acted_count (a.Call code) k.OpenParen at K = refl
acted_count (a.Arguments code) kind at K = arguments_count kind at code K
acted_count a.Target kind at K = target_count kind at K
acted_count (a.Unit e) (k.Lower x) at K = outside (k.Lower x) 0 (spec.timed (spec.unit_of x) e K) (timed_out (spec.unit_of x) e K)
acted_count a.Spawn (k.Abs x) at K = refl
acted_count (a.SpawnIn begin code) k.In at K = refl
acted_count (a.SpawnPool begin code) (k.Lower x) at K = refl
acted_count a.Kill (k.Lower x) at K = refl
acted_count a.Escape kind at K = escape_count kind at K
acted_count a.EscapeLabel (k.Lower x) at K = refl
acted_count (a.EscapeValue x) kind at K = escape_value_count kind at x K
acted_count _ _ at K = tt

-- ---- statements with blocks

do_count : (kind : Kind) (at : Pos) (K : List Frame) → Counted kind 0 (spec.of_do kind at K)
do_count k.Slash at K = refl
do_count k.Finalize at K = outside k.Finalize 0 (spec.in_statement (m.Opening o.Finalize) K) (statement_out k.Finalize (m.Opening o.Finalize) K refl)
do_count kind at K = block_count kind at [] (f.Body (body.Do label.Plain) ∷ K)

every_count : (kind : Kind) (at : Pos) (K : List Frame) → Counted kind 0 (spec.of_every kind at K)
every_count (k.Lower x) at K = refl
every_count k.Outer at K = refl
every_count kind at K = target_count kind at (f.Every None ∷ K)

looping_count : (mode : Looping) (kind : Kind) (at : Pos) (K : List Frame) → Counted kind 0 (spec.looping mode kind at K)
unfolding open_operators
looping_count l.Loop k.Slash at K = refl
looping_count l.Loop k.Do at K = refl
looping_count l.Loop (k.Lower x) at K = refl
looping_count l.Count (k.Number n) at K = refl
looping_count (l.CountDo n) k.Do at K = refl
looping_count (l.RangeIn x) k.In at K = refl
looping_count (l.RangeOpen x) k.OpenBracket at K = refl
looping_count (l.RangeOpen x) k.CloseBracket at K = refl
looping_count (l.RangeDo x open_a from to open_b) k.Do at K = refl
looping_count l.Every kind at K = every_count kind at K
looping_count (l.EveryIn x) k.In at K = refl
looping_count (l.EveryIn x) k.Do at K = refl
looping_count (l.EveryDo x t) k.Do at K = refl
looping_count _ _ at K = tt

opening_count : (mode : Opening) (kind : Kind) (at : Pos) (K : List Frame) → Counted kind 0 (spec.opening mode kind at K)
unfolding open_operators
opening_count o.Do kind at K = do_count kind at K
opening_count o.DoLabel k.Under at K = refl
opening_count o.DoLabel (k.Lower x) at K = refl
opening_count o.Finalize k.With at K = refl
opening_count (o.Else arms) k.Slash at K = refl
opening_count (o.Else arms) kind at K = block_count kind at [] (f.Body (body.Else arms) ∷ K)
opening_count (o.ElseIf arms) k.If at K = refl
opening_count (o.WatchingDo t) k.Do at K = refl
opening_count o.Par k.Slash at K = refl
opening_count o.Par k.Do at K = refl
opening_count o.ParWord k.Or at K = refl
opening_count o.ParWord k.And at K = refl
opening_count (o.ParDo kind) k.Do at K = refl
opening_count o.Async k.OpenParen at K = refl
opening_count o.Async k.Do at K = refl
opening_count o.AsyncOpen k.CloseParen at K = refl
opening_count o.AsyncOpen (k.Lower x) at K = refl
opening_count (o.AsyncDo xs) k.Do at K = refl
opening_count _ _ at K = tt

simple_count : (kind : Kind) (x : Stmt) (K : List Frame) → Counted kind 0 (spec.of_semicolon kind x K)
simple_count k.Semicolon x K = outside k.Semicolon 0 (spec.closed x K) (closed_out x K)
simple_count _ x K = tt

-- ---- one token

pub moved_count : (kind : Kind) (at : Pos) (K : List Frame) (mode : Mode) → Counted kind (operator_count (state K mode)) (spec.moved kind at K mode)
moved_count kind at K m.Start = starts_count at kind K
moved_count kind at K (m.Named x before) = named_count at kind x before K
moved_count kind at K (m.After x) = follows_count at kind x K
moved_count kind at K (m.Cast before x) = cast_count before kind x K
moved_count kind at K (m.Typed x) = ends_count at kind x K
moved_count kind at K (m.Outer whose begin) = outer_count begin kind whose K
moved_count kind at K (m.OuterName whose begin) = outer_name_count begin kind whose K
moved_count kind at K (m.In ns) = block_count kind at ns K
moved_count kind at K (m.Semicolon x) = simple_count kind x K
moved_count kind at K (m.Declaring mode) = declared_count mode kind at K
moved_count kind at K (m.Coding mode) = outside kind 0 (spec.coded mode kind at K) (coded_out mode kind at K)
moved_count kind at K (m.Acting mode) = acted_count mode kind at K
moved_count kind at K (m.Opening mode) = opening_count mode kind at K
moved_count kind at K (m.Looping mode) = looping_count mode kind at K
