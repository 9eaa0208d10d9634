-- The parser as a machine: what a token makes of what is open and of what may come next.
use Rattle.std.specs.Prelude.{ℕ, Bool, true, false, List, [], ◌∷◌, ◌++◌, Option, Some, None, if◌then◌else◌, nat_lt}
use Rattle.std.specs.Str.{bytes_eq}
use Rattle.ceu_base.specs.declared.kinds.Pos.{Pos}
use Rattle.ceu_base.specs.declared.kinds.Op1.{Op1}
use Rattle.ceu_base.specs.declared.kinds.Op2.{Op2}
use Rattle.ceu_base.specs.declared.kinds.Ty.{Ty}
use Rattle.ceu_base.specs.declared.kinds.Ty.TheVariants as ty
use Rattle.ceu_tree.specs.declared.kernel.ParKind.TheVariants as par
use Rattle.ceu_tree.specs.declared.kernel.Unit.{Unit as TimeUnit}
use Rattle.ceu_tree.specs.declared.kernel.Unit.TheVariants as unit
use Rattle.ceu_tree.specs.declared.source.Ident.{Ident}
use Rattle.ceu_tree.specs.declared.source.Exp.{Exp}
use Rattle.ceu_tree.specs.declared.source.Item.{Item}
use Rattle.ceu_tree.specs.declared.source.Target.{Target}
use Rattle.ceu_tree.specs.declared.source.Target.TheVariants as target
use Rattle.ceu_tree.specs.declared.source.Await.TheVariants as wait
use Rattle.ceu_tree.specs.declared.source.Label.TheVariants as label
use Rattle.ceu_tree.specs.declared.source.Node.{Node}
use Rattle.ceu_tree.specs.declared.source.Do.{Do, Do'}
use Rattle.ceu_tree.specs.declared.source.Arm.{Arm'}
use Rattle.ceu_tree.specs.declared.source.Block.{Block}
use Rattle.ceu_tree.specs.declared.source.Range.{Range'}
use Rattle.ceu_tree.specs.declared.source.Source.{Source}
use Rattle.ceu_tree.specs.declared.source.Source as source
use Rattle.ceu_tree.specs.declared.source.Stmt.{Stmt}
use Rattle.ceu_tree.specs.declared.source.Stmt as stmt
use Rattle.ceu_syntax.specs.declared.terminal.Kind.{Kind}
use Rattle.ceu_syntax.specs.declared.terminal.Kind.TheVariants as k
use Rattle.ceu_syntax.specs.declared.machine.Body.{Body}
use Rattle.ceu_syntax.specs.declared.machine.Body.TheVariants as body
use Rattle.ceu_syntax.specs.declared.machine.Frame.{Frame}
use Rattle.ceu_syntax.specs.declared.machine.Frame.TheVariants as f
use Rattle.ceu_syntax.specs.declared.machine.Owner.{Owner}
use Rattle.ceu_syntax.specs.declared.machine.Owner.TheVariants as owner
use Rattle.ceu_syntax.specs.declared.machine.Case.{Case}
use Rattle.ceu_syntax.specs.declared.machine.Case.TheVariants as case
use Rattle.ceu_syntax.specs.declared.machine.Listed.{Listed}
use Rattle.ceu_syntax.specs.declared.machine.Listed.TheVariants as listed
use Rattle.ceu_syntax.specs.declared.machine.Act.{Act}
use Rattle.ceu_syntax.specs.declared.machine.Act.TheVariants as act
use Rattle.ceu_syntax.specs.declared.machine.Declaring.{Declaring}
use Rattle.ceu_syntax.specs.declared.machine.Declaring.TheVariants as d
use Rattle.ceu_syntax.specs.declared.machine.Coding.{Coding}
use Rattle.ceu_syntax.specs.declared.machine.Coding.TheVariants as c
use Rattle.ceu_syntax.specs.declared.machine.Acting.{Acting}
use Rattle.ceu_syntax.specs.declared.machine.Acting.TheVariants as a
use Rattle.ceu_syntax.specs.declared.machine.Opening.{Opening}
use Rattle.ceu_syntax.specs.declared.machine.Opening.TheVariants as o
use Rattle.ceu_syntax.specs.declared.machine.Looping.{Looping}
use Rattle.ceu_syntax.specs.declared.machine.Looping.TheVariants as l
use Rattle.ceu_syntax.specs.declared.machine.Mode.{Mode}
use Rattle.ceu_syntax.specs.declared.machine.Mode.TheVariants as m
use Rattle.ceu_syntax.specs.Terminals.{binary_of, prefix_of, level, unit_name, saturated}
use Rattle.ceu_syntax.specs.Trees.{ident, outer, number, truth, variable, alive, one, two, cast, call, spawn, param, block, node, item, arm}

-- what is open, the top first, and what may come next
pub record State : Type 0 where
  pub stack : List Frame
  pub mode : Mode

abbrev pub state : List Frame → Mode → State
state stack mode = record { stack = stack; mode = mode }

-- an expression, and what is open around it
pub record Held : Type 0 where
  pub e : Exp
  pub stack : List Frame

abbrev pub held : Exp → List Frame → Held
held e stack = record { e = e; stack = stack }

-- the open operators of level p and above are done
abbrev pub reduce : ℕ → Exp → List Frame → Held
reduce p x [] = held x []
reduce p x (f.Binary op at a ∷ K) = if nat_lt (level op) p then held x (f.Binary op at a ∷ K) else reduce p (two op at a x) K
reduce p x (f.Prefix op at ∷ K) = reduce p (one op at x) K
reduce p x (f ∷ K) = held x (f ∷ K)

-- ---- the end of a part

-- the statements of a block with the one that ends, and what is open around the block
pub record Gathered : Type 0 where
  pub nodes : List Node
  pub stack : List Frame

abbrev pub gathered : Stmt → List Frame → Option Gathered
gathered stmt (f.Begun ns at ∷ K) = Some (record { nodes = ns ++ node at stmt ∷ []; stack = K })
gathered stmt _ = None

-- of a statement
abbrev pub closed : Stmt → List Frame → Option State
closed stmt (f.Begun ns at ∷ K) = Some (state K (m.In (ns ++ node at stmt ∷ [])))
closed stmt _ = None

-- of a source, at `;` and at `,`
abbrev pub source_semicolon : Source → List Frame → Option State
source_semicolon source (f.Store x ∷ K) = closed (stmt.Assign x source) K
source_semicolon source (f.Initial ty is x ∷ K) = closed (stmt.Vars ty (is ++ item x (Some source) ∷ [])) K
source_semicolon source _ = None

abbrev pub source_comma : Source → List Frame → Option State
source_comma source (f.Initial ty is x ∷ K) = Some (state K (m.Declaring (d.Item ty (is ++ item x (Some source) ∷ []))))
source_comma source _ = None

-- of an await or a spawn
abbrev pub statement_of : Act → Stmt
statement_of (act.Wait wait) = stmt.Await wait
statement_of (act.Start spawn) = stmt.Spawn spawn

abbrev pub source_of : Act → Source
source_of (act.Wait wait) = source.Wait wait
source_of (act.Start spawn) = source.Start spawn

abbrev pub alias_semicolon : Act → Ident → Ident → List Frame → Option State
alias_semicolon (act.Start spawn) code x K = closed (stmt.AliasDecl code x (Some spawn)) K
alias_semicolon (act.Wait wait) code x K = None

abbrev pub act_semicolon : Act → List Frame → Option State
act_semicolon done (f.Begun ns at ∷ K) = closed (statement_of done) (f.Begun ns at ∷ K)
act_semicolon done (f.Alias code x ∷ K) = alias_semicolon done code x K
act_semicolon done K = source_semicolon (source_of done) K

-- of a do
abbrev pub do_end : Do → List Frame → Option State
do_end done (f.Begun ns at ∷ K) = closed (stmt.Do done) (f.Begun ns at ∷ K)
do_end done (f.Store x ∷ K) = closed (stmt.Assign x (source.Done done)) K
do_end done (f.Initial ty is x ∷ K) = Some (state K (m.Declaring (d.ItemEnd ty (is ++ item x (Some (source.Done done)) ∷ []))))
do_end done _ = None

-- of a call, a target, a location
abbrev pub awaited_call : Ident → List Exp → Mode
awaited_call code es = m.Acting (a.ActEnd (act.Wait (wait.Code (call code es))))

abbrev pub called : Ident → List Exp → List Frame → Option State
called code es (f.Spawn at ∷ K) = Some (state K (m.Acting (a.SpawnIn at (call code es))))
called code es K = Some (state K (awaited_call code es))

abbrev pub aimed : Target → List Frame → Option State
aimed t (f.Every x ∷ K) = Some (state K (m.Looping (l.EveryDo x t)))
aimed t (f.Watching ∷ K) = Some (state K (m.Opening (o.WatchingDo t)))
aimed t K = Some (state K (m.Acting (a.AwaitEnd t)))

abbrev pub located : Owner → Ident → List Frame → Option State
located owner.Operand x K = Some (state K (m.After (variable x)))
located owner.Store x K = Some (state K (m.Acting (a.Assign x)))
located owner.Emit x K = Some (state K (m.Acting (a.EmitOpen x)))
located owner.Target x K = aimed (target.Event x) K
located owner.Every x K = Some (state K (m.Looping (l.EveryIn x)))

-- ---- expressions

abbrev pub operand : Kind → Pos → List Frame → Option State
operand (k.Number n) at K = Some (state K (m.After (number n at)))
operand (k.Lower x) at K = Some (state K (m.Named x at))
operand (k.Truth b) at K = Some (state K (m.After (truth b at)))
operand k.Outer at K = Some (state K (m.Outer owner.Operand at))
operand k.OpenParen at K = Some (state (f.Paren at ∷ K) m.Start)
operand _ at K = None

abbrev pub starts_with : Option Op1 → Kind → Pos → List Frame → Option State
starts_with (Some op) kind at K = Some (state (f.Prefix op at ∷ K) m.Start)
starts_with None kind at K = operand kind at K

abbrev pub starts : Kind → Pos → List Frame → Option State
starts kind at K = starts_with (prefix_of kind) kind at K

-- a token that ends an expression
abbrev pub ends_paren : Exp → List Frame → Option State
ends_paren e (f.Paren at ∷ K) = Some (state K (m.After e))
ends_paren e (f.Arguments code es ∷ K) = called code (es ++ e ∷ []) K
ends_paren e (f.Emit x ∷ K) = Some (state K (m.Semicolon (stmt.Emit x (Some e))))
ends_paren e (f.Time ∷ K) = Some (state K (m.Acting (a.Unit e)))
ends_paren e _ = None

abbrev pub ends_semicolon : Exp → List Frame → Option State
ends_semicolon e (f.Until t ∷ K) = act_semicolon (act.Wait (wait.On t (Some e))) K
ends_semicolon e (f.Escape x ∷ K) = closed (stmt.Escape x (Some e)) K
ends_semicolon e K = source_semicolon (source.Value e) K

abbrev pub ends_comma : Exp → List Frame → Option State
ends_comma e (f.Arguments code es ∷ K) = Some (state (f.Arguments code (es ++ e ∷ []) ∷ K) m.Start)
ends_comma e (f.Until t ∷ K) = source_comma (source.Wait (wait.On t (Some e))) K
ends_comma e K = source_comma (source.Value e) K

abbrev pub ends_condition : Exp → List Frame → Option State
ends_condition e (f.Condition arms ∷ K) = Some (state (f.Body (body.Arm arms e) ∷ K) (m.In []))
ends_condition e _ = None

abbrev pub ends_arrow : Exp → List Frame → Option State
ends_arrow e (f.RangeFrom x open_a ∷ K) = Some (state (f.RangeTo x open_a e ∷ K) m.Start)
ends_arrow e _ = None

abbrev pub ends_bracket : Bool → Exp → List Frame → Option State
ends_bracket open_b e (f.RangeTo x open_a from ∷ K) = Some (state K (m.Looping (l.RangeDo x open_a from e open_b)))
ends_bracket open_b e _ = None

abbrev pub ends : Kind → Pos → Held → Option State
ends k.As at h = Some (state h.stack (m.Cast at h.e))
ends k.Then at h = ends_condition h.e h.stack
ends k.CloseParen at h = ends_paren h.e h.stack
ends k.Semicolon at h = ends_semicolon h.e h.stack
ends k.Comma at h = ends_comma h.e h.stack
ends k.Arrow at h = ends_arrow h.e h.stack
ends k.CloseBracket at h = ends_bracket false h.e h.stack
ends k.OpenBracket at h = ends_bracket true h.e h.stack
ends _ at h = None

abbrev pub pushed : Op2 → Pos → Held → State
pushed op at h = state (f.Binary op at h.e ∷ h.stack) m.Start

abbrev pub follows_with : Option Op2 → Kind → Pos → Exp → List Frame → Option State
follows_with (Some op) kind at x K = Some (pushed op at (reduce (level op) x K))
follows_with None kind at x K = ends kind at (reduce 0 x K)

abbrev pub follows : Kind → Pos → Exp → List Frame → Option State
follows kind at x K = follows_with (binary_of kind) kind at x K

abbrev pub of_named : Kind → Pos → List ℕ → Pos → List Frame → Option State
of_named k.Question at x before K = Some (state K (m.After (alive (ident x before) at)))
of_named kind at x before K = follows kind at (variable (ident x before)) K

abbrev pub of_cast : Kind → Pos → Exp → List Frame → Option State
of_cast (k.Type ty) at x K = Some (state K (m.Typed (cast at x ty)))
of_cast _ at x K = None

-- behind the word `outer`
abbrev pub of_outer : Kind → Owner → Pos → List Frame → Option State
of_outer k.Dot whose at K = Some (state K (m.OuterName whose at))
of_outer _ whose at K = None

abbrev pub of_outer_name : Kind → Owner → Pos → List Frame → Option State
of_outer_name (k.Lower x) whose at K = located whose (outer x at) K
of_outer_name _ whose at K = None

-- ---- blocks

abbrev pub body_end : Body → Block → List Frame → Option State
body_end (body.Do l) b K = do_end (Do' l b) K
body_end body.Finalize b K = closed (stmt.Finalize b) K
body_end (body.Arm arms e) b K = closed (stmt.If (arms ++ Arm' e b ∷ []) None) K
body_end (body.Else arms) b K = closed (stmt.If arms (Some b)) K
body_end (body.Loop n) b K = closed (stmt.Loop n b) K
body_end (body.Range x open_a from to open_b) b K = closed (stmt.Range (Range' x open_a from to open_b b)) K
body_end (body.Every x t) b K = closed (stmt.Every x t b) K
body_end (body.Watching t) b K = closed (stmt.Watching t b) K
body_end (body.FirstBranch kind) b K = None
body_end (body.Branch kind bs) b K = closed (stmt.Par kind (bs ++ b ∷ [])) K
body_end (body.Async xs) b K = closed (stmt.Async xs b) K
body_end (body.Code x ps ty) b K = closed (stmt.Code x ps ty b) K

abbrev pub of_end : List Node → List Frame → Option State
of_end ns (f.Body b ∷ K) = body_end b (block ns) K
of_end ns _ = None

abbrev pub of_with : List Node → List Frame → Option State
of_with ns (f.Body (body.FirstBranch kind) ∷ K) = Some (state (f.Body (body.Branch kind (block ns ∷ [])) ∷ K) (m.In []))
of_with ns (f.Body (body.Branch kind bs) ∷ K) = Some (state (f.Body (body.Branch kind (bs ++ block ns ∷ [])) ∷ K) (m.In []))
of_with ns _ = None

abbrev pub of_else : List Node → List Frame → Option State
of_else ns (f.Body (body.Arm arms e) ∷ K) = Some (state K (m.Opening (o.Else (arms ++ arm e ns ∷ []))))
of_else ns _ = None

-- what may follow the word that begins a statement
abbrev pub head : Kind → Option Mode
head k.Nothing = Some (m.Semicolon stmt.Nothing)
head k.Break = Some (m.Semicolon stmt.Break)
head k.Continue = Some (m.Semicolon stmt.Continue)
head k.Var = Some (m.Declaring d.Var)
head k.Event = Some (m.Declaring d.EventType)
head k.Input = Some (m.Declaring d.InputType)
head k.Output = Some (m.Declaring d.OutputType)
head k.Pool = Some (m.Declaring d.Pool)
head k.Code = Some (m.Coding c.Slash)
head k.Emit = Some (m.Acting a.Emit)
head k.Await = Some (m.Acting a.Await)
head k.Kill = Some (m.Acting a.Kill)
head k.Escape = Some (m.Acting a.Escape)
head k.Async = Some (m.Opening o.Async)
head k.Do = Some (m.Opening o.Do)
head k.Loop = Some (m.Looping l.Loop)
head k.Every = Some (m.Looping l.Every)
head k.Par = Some (m.Opening o.Par)
head _ = None

abbrev pub headed : Option Mode → Pos → List Node → List Frame → Option State
headed (Some mode) at ns K = Some (state (f.Begun ns at ∷ K) mode)
headed None at ns K = None

abbrev pub of_block : Kind → Pos → List Node → List Frame → Option State
of_block k.Semicolon at ns K = Some (state K (m.In ns))
of_block (k.Lower x) at ns K = Some (state (f.Begun ns at ∷ K) (m.Acting (a.Assign (ident x at))))
of_block k.End at ns K = of_end ns K
of_block k.With at ns K = of_with ns K
of_block k.Else at ns K = of_else ns K
of_block k.Outer at ns K = Some (state (f.Begun ns at ∷ K) (m.Outer owner.Store at))
of_block k.Spawn at ns K = Some (state (f.Spawn at ∷ f.Begun ns at ∷ K) (m.Acting a.Spawn))
of_block k.If at ns K = Some (state (f.Condition [] ∷ f.Begun ns at ∷ K) m.Start)
of_block k.Watching at ns K = Some (state (f.Watching ∷ f.Begun ns at ∷ K) (m.Acting a.Target))
of_block kind at ns K = headed (head kind) at ns K

-- behind a value that ended with `end`
abbrev pub resumed : Kind → Pos → Option Gathered → Option State
resumed kind at (Some g) = of_block kind at g.nodes g.stack
resumed kind at None = None

abbrev pub item_end : Kind → Pos → Stmt → List Frame → Option State
item_end kind at stmt K = resumed kind at (gathered stmt K)

-- ---- declarations

abbrev pub case_of : Listed → Case
case_of (listed.Events ty) = case.Lower
case_of (listed.Inputs ty) = case.Upper
case_of (listed.Outputs ty) = case.Upper
case_of listed.Shared = case.Lower

abbrev pub declares : Listed → List Ident → List Frame → Option State
declares (listed.Events ty) xs K = closed (stmt.Events ty xs) K
declares (listed.Inputs ty) xs K = closed (stmt.Inputs ty xs) K
declares (listed.Outputs ty) xs K = closed (stmt.Outputs ty xs) K
declares listed.Shared xs K = None

abbrev pub shares : Listed → List Ident → List Frame → Option State
shares listed.Shared xs K = Some (state K (m.Opening (o.AsyncDo xs)))
shares _ xs K = None

abbrev pub listed_name : Ident → Listed → List Ident → List Frame → Option State
listed_name x l xs K = Some (state K (m.Declaring (d.NameEnd l (xs ++ x ∷ []))))

abbrev pub of_name : Case → Kind → Pos → Listed → List Ident → List Frame → Option State
of_name case.Lower (k.Lower x) at l xs K = listed_name (ident x at) l xs K
of_name case.Upper (k.Ext x) at l xs K = listed_name (ident x at) l xs K
of_name _ _ at l xs K = None

abbrev pub of_name_end : Kind → Listed → List Ident → List Frame → Option State
of_name_end k.Comma l xs K = Some (state K (m.Declaring (d.Name l xs)))
of_name_end k.Semicolon l xs K = declares l xs K
of_name_end k.CloseParen l xs K = shares l xs K
of_name_end _ l xs K = None

abbrev pub item_value : Kind → Ty → List Item → Ident → List Frame → Option State
item_value k.Assign ty is x K = Some (state (f.Initial ty is x ∷ K) (m.Acting a.Source))
item_value k.Comma ty is x K = Some (state K (m.Declaring (d.Item ty (is ++ item x None ∷ []))))
item_value k.Semicolon ty is x K = closed (stmt.Vars ty (is ++ item x None ∷ [])) K
item_value _ ty is x K = None

abbrev pub declared : Declaring → Kind → Pos → List Frame → Option State
declared d.Var (k.Type ty) at K = Some (state K (m.Declaring (d.Item ty [])))
declared d.Var k.Ampersand at K = Some (state K (m.Declaring d.AliasMark))
declared d.AliasMark k.Question at K = Some (state K (m.Declaring d.AliasCode))
declared d.AliasCode (k.Abs code) at K = Some (state K (m.Declaring (d.AliasName (ident code at))))
declared (d.AliasName code) (k.Lower x) at K = Some (state K (m.Declaring (d.AliasValue code (ident x at))))
declared (d.AliasValue code x) k.Semicolon at K = closed (stmt.AliasDecl code x None) K
declared (d.AliasValue code x) k.Assign at K = Some (state (f.Alias code x ∷ K) (m.Declaring d.AliasSpawn))
declared d.AliasSpawn k.Spawn at K = Some (state (f.Spawn at ∷ K) (m.Acting a.Spawn))
declared (d.Item ty is) (k.Lower x) at K = Some (state K (m.Declaring (d.ItemValue ty is (ident x at))))
declared (d.ItemValue ty is x) kind at K = item_value kind ty is x K
declared (d.ItemEnd ty is) k.Comma at K = Some (state K (m.Declaring (d.Item ty is)))
declared (d.ItemEnd ty is) kind at K = item_end kind at (stmt.Vars ty is) K
declared d.EventType (k.Type ty) at K = Some (state K (m.Declaring (d.Name (listed.Events ty) [])))
declared d.InputType (k.Type ty) at K = Some (state K (m.Declaring (d.Name (listed.Inputs ty) [])))
declared d.OutputType (k.Type ty) at K = Some (state K (m.Declaring (d.Name (listed.Outputs ty) [])))
declared (d.Name l xs) kind at K = of_name (case_of l) kind at l xs K
declared (d.NameEnd l xs) kind at K = of_name_end kind l xs K
declared d.Pool k.OpenBracket at K = Some (state K (m.Declaring d.PoolCount))
declared d.PoolCount (k.Number n) at K = Some (state K (m.Declaring (d.PoolClose (saturated n))))
declared (d.PoolClose n) k.CloseBracket at K = Some (state K (m.Declaring (d.PoolCode n)))
declared (d.PoolCode n) (k.Abs code) at K = Some (state K (m.Declaring (d.PoolName n (ident code at))))
declared (d.PoolName n code) (k.Lower x) at K = Some (state K (m.Semicolon (stmt.Pool n code (ident x at))))
declared _ _ at K = None

-- ---- the head of a code

abbrev pub no_params_of : Ty → Ident → List Frame → Option State
no_params_of ty.None code K = Some (state K (m.Coding (c.NoParams code)))
no_params_of _ code K = None

abbrev pub of_params : Kind → Ident → List Frame → Option State
of_params k.CloseParen code K = Some (state K (m.Coding (c.Arrow code [])))
of_params (k.Type ty) code K = no_params_of ty code K
of_params k.Var code K = Some (state K (m.Coding (c.ParamType code [])))
of_params _ code K = None

abbrev pub coded : Coding → Kind → Pos → List Frame → Option State
coded c.Slash k.Slash at K = Some (state K (m.Coding c.Await))
coded c.Await k.Await at K = Some (state K (m.Coding c.Name))
coded c.Name (k.Abs code) at K = Some (state K (m.Coding (c.Open (ident code at))))
coded (c.Open code) k.OpenParen at K = Some (state K (m.Coding (c.Params code)))
coded (c.Params code) kind at K = of_params kind code K
coded (c.NoParams code) k.CloseParen at K = Some (state K (m.Coding (c.Arrow code [])))
coded (c.Param code ps) k.Var at K = Some (state K (m.Coding (c.ParamType code ps)))
coded (c.ParamType code ps) (k.Type ty) at K = Some (state K (m.Coding (c.ParamName code ps ty)))
coded (c.ParamName code ps ty) (k.Lower x) at K = Some (state K (m.Coding (c.ParamEnd code (ps ++ param ty (ident x at) ∷ []))))
coded (c.ParamEnd code ps) k.Comma at K = Some (state K (m.Coding (c.Param code ps)))
coded (c.ParamEnd code ps) k.CloseParen at K = Some (state K (m.Coding (c.Arrow code ps)))
coded (c.Arrow code ps) k.Arrow at K = Some (state K (m.Coding (c.Result code ps)))
coded (c.Result code ps) (k.Type ty) at K = Some (state K (m.Coding (c.Do code ps ty)))
coded (c.Do code ps ty) k.Do at K = Some (state (f.Body (body.Code code ps ty) ∷ K) (m.In []))
coded _ _ at K = None

-- ---- simple statements

abbrev pub unit_of : List ℕ → Option TimeUnit
unit_of x =
    if bytes_eq x (unit_name unit.H) then Some unit.H
    else (if bytes_eq x (unit_name unit.Min) then Some unit.Min
    else (if bytes_eq x (unit_name unit.S) then Some unit.S
    else (if bytes_eq x (unit_name unit.Ms) then Some unit.Ms
    else (if bytes_eq x (unit_name unit.Us) then Some unit.Us
    else None))))

abbrev pub timed : Option TimeUnit → Exp → List Frame → Option State
timed (Some u) e K = aimed (target.TimeExp e u) K
timed None e K = None

abbrev pub of_target : Kind → Pos → List Frame → Option State
of_target (k.Ext x) at K = aimed (target.Ext (ident x at)) K
of_target (k.Lower x) at K = aimed (target.Event (ident x at)) K
of_target (k.Time n) at K = aimed (target.Time n) K
of_target k.OpenParen at K = Some (state (f.Time ∷ K) m.Start)
of_target k.Outer at K = Some (state K (m.Outer owner.Target at))
of_target _ at K = None

-- only a statement may be `await async`, and only one may be `do finalize`
abbrev pub in_statement : Mode → List Frame → Option State
in_statement mode (f.Begun ns at ∷ K) = Some (state (f.Begun ns at ∷ K) mode)
in_statement mode _ = None

abbrev pub of_await : Kind → Pos → List Frame → Option State
of_await k.Forever at K = Some (state K (m.Acting (a.ActEnd (act.Wait wait.Forever))))
of_await k.Async at K = in_statement (m.Opening o.Async) K
of_await (k.Abs code) at K = Some (state K (m.Acting (a.Call (ident code at))))
of_await kind at K = of_target kind at K

abbrev pub of_source : Kind → Pos → List Frame → Option State
of_source k.Await at K = Some (state K (m.Acting a.Await))
of_source k.Spawn at K = Some (state (f.Spawn at ∷ K) (m.Acting a.Spawn))
of_source k.Do at K = Some (state K (m.Opening o.Do))
of_source kind at K = starts kind at K

abbrev pub of_arguments : Kind → Pos → Ident → List Frame → Option State
of_arguments k.CloseParen at code K = called code [] K
of_arguments kind at code K = starts kind at (f.Arguments code [] ∷ K)

abbrev pub of_emit_value : Kind → Pos → Ident → List Frame → Option State
of_emit_value k.CloseParen at x K = Some (state K (m.Semicolon (stmt.Emit x None)))
of_emit_value kind at x K = starts kind at (f.Emit x ∷ K)

abbrev pub of_escape : Kind → Pos → List Frame → Option State
of_escape k.Slash at K = Some (state K (m.Acting a.EscapeLabel))
of_escape k.Semicolon at K = closed (stmt.Escape None None) K
of_escape kind at K = starts kind at (f.Escape None ∷ K)

abbrev pub of_escape_value : Kind → Pos → Ident → List Frame → Option State
of_escape_value k.Semicolon at x K = closed (stmt.Escape (Some x) None) K
of_escape_value kind at x K = starts kind at (f.Escape (Some x) ∷ K)

abbrev pub acted : Acting → Kind → Pos → List Frame → Option State
acted (a.Assign x) k.Assign at K = Some (state (f.Store x ∷ K) (m.Acting a.Source))
acted a.Source kind at K = of_source kind at K
acted (a.AwaitEnd t) k.Until at K = Some (state (f.Until t ∷ K) m.Start)
acted (a.AwaitEnd t) k.Semicolon at K = act_semicolon (act.Wait (wait.On t None)) K
acted (a.AwaitEnd t) k.Comma at K = source_comma (source.Wait (wait.On t None)) K
acted (a.ActEnd done) k.Semicolon at K = act_semicolon done K
acted (a.ActEnd done) k.Comma at K = source_comma (source_of done) K
acted a.Emit (k.Ext x) at K = Some (state K (m.Acting (a.EmitOpen (ident x at))))
acted a.Emit (k.Lower x) at K = Some (state K (m.Acting (a.EmitOpen (ident x at))))
acted a.Emit k.Outer at K = Some (state K (m.Outer owner.Emit at))
acted (a.EmitOpen x) k.OpenParen at K = Some (state K (m.Acting (a.EmitValue x)))
acted (a.EmitOpen x) k.Semicolon at K = closed (stmt.Emit x None) K
acted (a.EmitValue x) kind at K = of_emit_value kind at x K
acted a.Await kind at K = of_await kind at K
acted (a.Call code) k.OpenParen at K = Some (state K (m.Acting (a.Arguments code)))
acted (a.Arguments code) kind at K = of_arguments kind at code K
acted a.Target kind at K = of_target kind at K
acted (a.Unit e) (k.Lower x) at K = timed (unit_of x) e K
acted a.Spawn (k.Abs code) at K = Some (state K (m.Acting (a.Call (ident code at))))
acted (a.SpawnIn begin c) k.In at K = Some (state K (m.Acting (a.SpawnPool begin c)))
acted (a.SpawnPool begin c) (k.Lower x) at K = Some (state K (m.Acting (a.ActEnd (act.Start (spawn begin c (ident x at))))))
acted a.Kill (k.Lower x) at K = Some (state K (m.Semicolon (stmt.Kill (ident x at))))
acted a.Escape kind at K = of_escape kind at K
acted a.EscapeLabel (k.Lower x) at K = Some (state K (m.Acting (a.EscapeValue (ident x at))))
acted (a.EscapeValue x) kind at K = of_escape_value kind at x K
acted _ _ at K = None

-- ---- statements with blocks

abbrev pub opened : Body → List Frame → Option State
opened b K = Some (state (f.Body b ∷ K) (m.In []))

abbrev pub of_do : Kind → Pos → List Frame → Option State
of_do k.Slash at K = Some (state K (m.Opening o.DoLabel))
of_do k.Finalize at K = in_statement (m.Opening o.Finalize) K
of_do kind at K = of_block kind at [] (f.Body (body.Do label.Plain) ∷ K)

abbrev pub of_every : Kind → Pos → List Frame → Option State
of_every (k.Lower x) at K = Some (state K (m.Looping (l.EveryIn (ident x at))))
of_every k.Outer at K = Some (state K (m.Outer owner.Every at))
of_every kind at K = of_target kind at (f.Every None ∷ K)

abbrev pub looping : Looping → Kind → Pos → List Frame → Option State
looping l.Loop k.Slash at K = Some (state K (m.Looping l.Count))
looping l.Loop k.Do at K = opened (body.Loop None) K
looping l.Loop (k.Lower x) at K = Some (state K (m.Looping (l.RangeIn (ident x at))))
looping l.Count (k.Number n) at K = Some (state K (m.Looping (l.CountDo (saturated n))))
looping (l.CountDo n) k.Do at K = opened (body.Loop (Some n)) K
looping (l.RangeIn x) k.In at K = Some (state K (m.Looping (l.RangeOpen x)))
looping (l.RangeOpen x) k.OpenBracket at K = Some (state (f.RangeFrom x false ∷ K) m.Start)
looping (l.RangeOpen x) k.CloseBracket at K = Some (state (f.RangeFrom x true ∷ K) m.Start)
looping (l.RangeDo x open_a a b open_b) k.Do at K = opened (body.Range x open_a a b open_b) K
looping l.Every kind at K = of_every kind at K
looping (l.EveryIn x) k.In at K = Some (state (f.Every (Some x) ∷ K) (m.Acting a.Target))
looping (l.EveryIn x) k.Do at K = opened (body.Every None (target.Event x)) K
looping (l.EveryDo x t) k.Do at K = opened (body.Every x t) K
looping _ _ at K = None

abbrev pub shared : List ℕ → Pos → List Frame → Option State
shared x at K = Some (state K (m.Declaring (d.NameEnd listed.Shared (ident x at ∷ []))))

abbrev pub opening : Opening → Kind → Pos → List Frame → Option State
opening o.Do kind at K = of_do kind at K
opening o.DoLabel k.Under at K = opened (body.Do label.Under) K
opening o.DoLabel (k.Lower x) at K = opened (body.Do (label.Named (ident x at))) K
opening o.Finalize k.With at K = opened body.Finalize K
opening (o.Else arms) k.Slash at K = Some (state K (m.Opening (o.ElseIf arms)))
opening (o.Else arms) kind at K = of_block kind at [] (f.Body (body.Else arms) ∷ K)
opening (o.ElseIf arms) k.If at K = Some (state (f.Condition arms ∷ K) m.Start)
opening (o.WatchingDo t) k.Do at K = opened (body.Watching t) K
opening o.Par k.Slash at K = Some (state K (m.Opening o.ParWord))
opening o.Par k.Do at K = opened (body.FirstBranch par.Never) K
opening o.ParWord k.Or at K = Some (state K (m.Opening (o.ParDo par.Or)))
opening o.ParWord k.And at K = Some (state K (m.Opening (o.ParDo par.And)))
opening (o.ParDo kind) k.Do at K = opened (body.FirstBranch kind) K
opening o.Async k.OpenParen at K = Some (state K (m.Opening o.AsyncOpen))
opening o.Async k.Do at K = opened (body.Async []) K
opening o.AsyncOpen k.CloseParen at K = Some (state K (m.Opening (o.AsyncDo [])))
opening o.AsyncOpen (k.Lower x) at K = shared x at K
opening (o.AsyncDo xs) k.Do at K = opened (body.Async xs) K
opening _ _ at K = None

-- ---- one token

abbrev pub of_semicolon : Kind → Stmt → List Frame → Option State
of_semicolon k.Semicolon stmt K = closed stmt K
of_semicolon _ stmt K = None

abbrev pub moved : Kind → Pos → List Frame → Mode → Option State
moved kind at K m.Start = starts kind at K
moved kind at K (m.Named x before) = of_named kind at x before K
moved kind at K (m.After x) = follows kind at x K
moved kind at K (m.Cast as_ x) = of_cast kind as_ x K
moved kind at K (m.Typed x) = ends kind at (held x K)
moved kind at K (m.Outer whose begin) = of_outer kind whose begin K
moved kind at K (m.OuterName whose begin) = of_outer_name kind whose begin K
moved kind at K (m.In ns) = of_block kind at ns K
moved kind at K (m.Semicolon stmt) = of_semicolon kind stmt K
moved kind at K (m.Declaring mode) = declared mode kind at K
moved kind at K (m.Coding mode) = coded mode kind at K
moved kind at K (m.Acting mode) = acted mode kind at K
moved kind at K (m.Opening mode) = opening mode kind at K
moved kind at K (m.Looping mode) = looping mode kind at K
