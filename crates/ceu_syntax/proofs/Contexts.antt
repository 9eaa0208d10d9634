-- What stands in a state: what is open around the place that has been read to, as derivations of its parts. Each part that is open is kept
-- as a function from what is still to come to the whole statement.
use Rattle.std.proofs.Common.{◌≡◌, ℕ, ◌≤◌, ◌<◌, List, [], ◌∷◌, ◌++◌, Option, Some, None, Bool, true, false}
use Rattle.ceu_base.specs.declared.kinds.Pos.{Pos}
use Rattle.ceu_base.specs.declared.kinds.Op2.{Op2}
use Rattle.ceu_base.specs.declared.kinds.Ty.{Ty}
use Rattle.ceu_tree.specs.declared.kernel.ParKind.{ParKind}
use Rattle.ceu_tree.specs.declared.source.Ident.{Ident}
use Rattle.ceu_tree.specs.declared.source.Exp.{Exp}
use Rattle.ceu_tree.specs.declared.source.Call.{Call}
use Rattle.ceu_tree.specs.declared.source.Spawn.{Spawn}
use Rattle.ceu_tree.specs.declared.source.Target.{Target}
use Rattle.ceu_tree.specs.declared.source.Await.{Await}
use Rattle.ceu_tree.specs.declared.source.Param.{Param}
use Rattle.ceu_tree.specs.declared.source.Block.{Block}
use Rattle.ceu_tree.specs.declared.source.Node.{Node}
use Rattle.ceu_tree.specs.declared.source.Do.{Do}
use Rattle.ceu_tree.specs.declared.source.Source.{Source}
use Rattle.ceu_tree.specs.declared.source.Source as source
use Rattle.ceu_tree.specs.declared.source.Item.{Item}
use Rattle.ceu_tree.specs.declared.source.Arm.{Arm}
use Rattle.ceu_tree.specs.declared.source.Stmt.{Stmt}
use Rattle.ceu_tree.specs.declared.source.Stmt as stmt
use Rattle.ceu_syntax.specs.declared.terminal.Kind.{Kind}
use Rattle.ceu_syntax.specs.declared.terminal.Kind.TheVariants as k
use Rattle.ceu_syntax.specs.declared.terminal.Terminal.{Terminal}
use Rattle.ceu_syntax.specs.declared.machine.Body.{Body}
use Rattle.ceu_syntax.specs.declared.machine.Body.TheVariants as body
use Rattle.ceu_syntax.specs.declared.machine.Frame.{Frame}
use Rattle.ceu_syntax.specs.declared.machine.Frame.TheVariants as f
use Rattle.ceu_syntax.specs.declared.machine.Owner.{Owner}
use Rattle.ceu_syntax.specs.declared.machine.Owner.TheVariants as owner
use Rattle.ceu_syntax.specs.declared.machine.Listed.{Listed}
use Rattle.ceu_syntax.specs.declared.machine.Listed.TheVariants as listed
use Rattle.ceu_syntax.specs.declared.machine.Act.{Act}
use Rattle.ceu_syntax.specs.declared.machine.Act.TheVariants as act
use Rattle.ceu_syntax.specs.declared.machine.Declaring.{Declaring}
use Rattle.ceu_syntax.specs.declared.machine.Declaring.TheVariants as d
use Rattle.ceu_syntax.specs.declared.machine.Coding.{Coding}
use Rattle.ceu_syntax.specs.declared.machine.Coding.TheVariants as c
use Rattle.ceu_syntax.specs.declared.machine.Acting.{Acting}
use Rattle.ceu_syntax.specs.declared.machine.Acting.TheVariants as a
use Rattle.ceu_syntax.specs.declared.machine.Opening.{Opening}
use Rattle.ceu_syntax.specs.declared.machine.Opening.TheVariants as o
use Rattle.ceu_syntax.specs.declared.machine.Looping.{Looping}
use Rattle.ceu_syntax.specs.declared.machine.Looping.TheVariants as l
use Rattle.ceu_syntax.specs.declared.machine.Mode.{Mode}
use Rattle.ceu_syntax.specs.declared.machine.Mode.TheVariants as m
use Rattle.ceu_syntax.specs.Terminals.{token, lower, abs, binary_of, prefix_of, level, left_bracket, right_bracket}
use Rattle.ceu_syntax.specs.Trees.{ident, call, spawn, block, node, do_block, item, arm, range}
use Rattle.ceu_syntax.specs.Expressions.{Location, Expression, Arguments, Calls, Spawns, Targets, Awaits}
use Rattle.ceu_syntax.specs.Forms.{Names, Shares, ParamList, Params, Emits}
use Rattle.ceu_syntax.specs.Grammar.{Forms, Does, Sources, ItemOf, Items, Statements, Branches, Arms}
use Rattle.ceu_syntax.specs.Steps.{State, statement_of, source_of, case_of}

-- ---- statements whose beginning is known

-- whatever comes to stand in the block that begins here, it makes this statement
abbrev pub Makes : List Terminal → List Terminal → (List Node → Node) → Type 0
Makes from here make = (ns : List Node) (end : Pos) (rest : List Terminal) → Statements here ns (token k.End end ∷ rest) → Forms from (make ns) true rest

abbrev pub MakesAtDo : List Terminal → List Terminal → (List Node → Node) → Type 0
MakesAtDo from here make = (begin : Pos) (body : List Terminal) → here ≡ token k.Do begin ∷ body → Makes from body make

abbrev pub ArmAt : List Arm → Exp → List Terminal → Pos → List Terminal → Type 0
ArmAt arms e here at from = (ns : List Node) (mid : List Terminal) (more : List Arm) (last : Option Block) (rest : List Terminal) →
    Statements here ns mid → Arms mid more last rest → Forms from (node at (stmt.If (arms ++ arm e ns ∷ more) last)) true rest

abbrev pub CondAt : List Arm → List Terminal → Pos → List Terminal → Type 0
CondAt arms here at from = (e : Exp) (by : Pos) (body : List Terminal) → Expression 0 here e (token k.Then by ∷ body) → ArmAt arms e body at from

abbrev pub MoreArms : List Arm → List Terminal → Pos → List Terminal → Type 0
MoreArms arms here at from = (more : List Arm) (last : Option Block) (rest : List Terminal) → Arms here more last rest → Forms from (node at (stmt.If (arms ++ more) last)) true rest

abbrev pub FirstBranchAt : ParKind → List Terminal → Pos → List Terminal → Type 0
FirstBranchAt kind here at from = (ns : List Node) (with : Pos) (mid : List Terminal) (bs : List Block) (rest : List Terminal) →
    Statements here ns (token k.With with ∷ mid) → Branches mid bs rest → Forms from (node at (stmt.Par kind (block ns ∷ bs))) true rest

abbrev pub MoreBranches : ParKind → List Block → List Terminal → Pos → List Terminal → Type 0
MoreBranches kind bs here at from = (cs : List Block) (rest : List Terminal) → Branches here cs rest → Forms from (node at (stmt.Par kind (bs ++ cs))) true rest

abbrev pub BodyAt : Body → List Terminal → Pos → List Terminal → Type 0
BodyAt (body.Do label) here at from = ⊥
BodyAt body.Finalize here at from = Makes from here (λ ns. node at (stmt.Finalize (block ns)))
BodyAt (body.Arm arms e) here at from = ArmAt arms e here at from
BodyAt (body.Else arms) here at from = Makes from here (λ ns. node at (stmt.If arms (Some (block ns))))
BodyAt (body.Loop n) here at from = Makes from here (λ ns. node at (stmt.Loop n (block ns)))
BodyAt (body.Range x open_a a b open_b) here at from = Makes from here (λ ns. node at (stmt.Range (range x open_a a b open_b ns)))
BodyAt (body.Every x t) here at from = Makes from here (λ ns. node at (stmt.Every x t (block ns)))
BodyAt (body.Watching t) here at from = Makes from here (λ ns. node at (stmt.Watching t (block ns)))
BodyAt (body.FirstBranch kind) here at from = FirstBranchAt kind here at from
BodyAt (body.Branch kind bs) here at from = MoreBranches kind bs here at from
BodyAt (body.Async xs) here at from = Makes from here (λ ns. node at (stmt.Async xs (block ns)))
BodyAt (body.Code x ps ty) here at from = Makes from here (λ ns. node at (stmt.Code x ps ty (block ns)))

abbrev pub ItemsAt : Ty → List Item → List Terminal → Pos → List Terminal → Type 0
ItemsAt ty is here at from = (more : List Item) (b : Bool) (rest : List Terminal) → Items here more b rest → Forms from (node at (stmt.Vars ty (is ++ more))) b rest

abbrev mutual
  -- what is open around a block that begins here
  pub Around : List Terminal → List Frame → List Terminal → Type 0
  Around whole [] here = whole ≡ here
  Around whole (f.Body (body.Do label) ∷ K) here = (mid : List Terminal) × DoAt whole K mid × ((ns : List Node) (end : Pos) (rest : List Terminal) → Statements here ns (token k.End end ∷ rest) → Does mid (do_block label ns) rest)
  Around whole (f.Body b ∷ K) here = Formed whole K (BodyAt b here)
  Around whole _ here = ⊥

  -- a statement has begun, and this is known of its beginning
  pub Formed : List Terminal → List Frame → (Pos → List Terminal → Type 0) → Type 0
  Formed whole (f.Begun ns at ∷ K) P = (start from : List Terminal) × Around whole K start × Statements start ns from × P at from
  Formed whole _ P = ⊥

  -- behind the word `do` of a statement or a source
  pub DoAt : List Terminal → List Frame → List Terminal → Type 0
  DoAt whole (f.Begun ns at ∷ K) mid = (start : List Terminal) × Around whole K start × Statements start ns (token k.Do at ∷ mid)
  DoAt whole (f.Store x ∷ K) mid = Formed whole K (λ at from. (d : Do) (rest : List Terminal) → Does mid d rest → Forms from (node at (stmt.Assign x (source.Done d))) true rest)
  DoAt whole (f.Initial ty is x ∷ K) mid = (i : List Terminal) × ((d : Do) (rest : List Terminal) → Does mid d rest → ItemOf i (item x (Some (source.Done d))) true rest) × Formed whole K (ItemsAt ty is i)
  DoAt whole _ mid = ⊥

-- ---- sources

-- a source begins here
abbrev pub SourceAt : List Terminal → List Frame → List Terminal → Type 0
SourceAt whole (f.Store x ∷ K) here = Formed whole K (λ at from. (source : Source) (b : Bool) (rest : List Terminal) → Sources here source b rest → Forms from (node at (stmt.Assign x source)) b rest)
SourceAt whole (f.Initial ty is x ∷ K) here = (i : List Terminal) × ((source : Source) (b : Bool) (rest : List Terminal) → Sources here source b rest → ItemOf i (item x (Some source)) b rest) × Formed whole K (ItemsAt ty is i)
SourceAt whole _ here = ⊥

-- a source ends here
abbrev pub SourceTo : List Terminal → List Frame → Source → Bool → List Terminal → Type 0
SourceTo whole (f.Store x ∷ K) source b here = Formed whole K (λ at from. Forms from (node at (stmt.Assign x source)) b here)
SourceTo whole (f.Initial ty is x ∷ K) source b here = (i : List Terminal) × ItemOf i (item x (Some source)) b here × Formed whole K (ItemsAt ty is i)
SourceTo whole _ source b here = ⊥

abbrev pub AliasTo : Act → Ident → Ident → List Terminal → Pos → List Terminal → Type 0
AliasTo (act.Start sp) code x here at from = Forms from (node at (stmt.AliasDecl code x (Some sp))) false here
AliasTo (act.Wait wait) code x here at from = ⊥

-- an await or a spawn ends here
abbrev pub ActTo : List Terminal → List Frame → Act → List Terminal → Type 0
ActTo whole (f.Begun ns at ∷ K) done here = Formed whole (f.Begun ns at ∷ K) (λ begin from. Forms from (node begin (statement_of done)) false here)
ActTo whole (f.Alias code x ∷ K) done here = Formed whole K (AliasTo done code x here)
ActTo whole K done here = SourceTo whole K (source_of done) false here

-- behind the word `await`
abbrev pub AwaitAt : List Terminal → List Frame → List Terminal → Type 0
AwaitAt whole (f.Begun ns at ∷ K) here = Formed whole (f.Begun ns at ∷ K) (λ begin from. from ≡ token k.Await begin ∷ here)
AwaitAt whole (f.Store x ∷ K) here = Formed whole K (λ at from. (wait : Await) (rest : List Terminal) → Awaits here wait rest → Forms from (node at (stmt.Assign x (source.Wait wait))) false rest)
AwaitAt whole (f.Initial ty is x ∷ K) here = (i : List Terminal) × ((wait : Await) (rest : List Terminal) → Awaits here wait rest → ItemOf i (item x (Some (source.Wait wait))) false rest) × Formed whole K (ItemsAt ty is i)
AwaitAt whole _ here = ⊥

abbrev pub Spawning : Pos → List Terminal → (Spawn → List Terminal → Type 0) → Type 0
Spawning begin here Q = (code : Call) (x : List ℕ) (into name : Pos) (rest : List Terminal) → Calls here code (token k.In into ∷ lower x name ∷ rest) → Q (spawn begin code (ident x name)) rest

-- behind the word `spawn` at a place
abbrev pub SpawnAt : List Terminal → Pos → List Frame → List Terminal → Type 0
SpawnAt whole begin (f.Begun ns at ∷ K) here = Formed whole (f.Begun ns at ∷ K) (λ p from. Spawning begin here (λ sp rest. Forms from (node p (stmt.Spawn sp)) false rest))
SpawnAt whole begin (f.Store x ∷ K) here = Formed whole K (λ p from. Spawning begin here (λ sp rest. Forms from (node p (stmt.Assign x (source.Start sp))) false rest))
SpawnAt whole begin (f.Alias code x ∷ K) here = Formed whole K (λ p from. Spawning begin here (λ sp rest. Forms from (node p (stmt.AliasDecl code x (Some sp))) false rest))
SpawnAt whole begin (f.Initial ty is x ∷ K) here = (i : List Terminal) × Spawning begin here (λ sp rest. ItemOf i (item x (Some (source.Start sp))) false rest) × Formed whole K (ItemsAt ty is i)
SpawnAt whole begin _ here = ⊥

-- a call begins here
abbrev pub CallAt : List Terminal → List Frame → List Terminal → Type 0
CallAt whole (f.Spawn begin ∷ K) here = SpawnAt whole begin K here
CallAt whole K here = AwaitAt whole K here

-- a target begins here
abbrev pub TargetAt : List Terminal → List Frame → List Terminal → Type 0
TargetAt whole (f.Every x ∷ K) here = Formed whole K (λ at from. (t : Target) (mid : List Terminal) → Targets here t mid → MakesAtDo from mid (λ ns. node at (stmt.Every x t (block ns))))
TargetAt whole (f.Watching ∷ K) here = Formed whole K (λ at from. (t : Target) (mid : List Terminal) → Targets here t mid → MakesAtDo from mid (λ ns. node at (stmt.Watching t (block ns))))
TargetAt whole K here = AwaitAt whole K here

-- ---- expressions

-- an expression of each level up to m
abbrev pub Upto : ℕ → List Terminal → Exp → List Terminal → Type 0
Upto m from x rest = (q : ℕ) → q ≤ m → Expression q from x rest

-- only operators below l are open on top
abbrev pub Under : ℕ → List Frame → Type 0
Under l [] = Unit {0}
Under l (f.Binary op at a ∷ K) = level op < l
Under l (f.Prefix op at ∷ K) = ⊥
Under l (_ ∷ K) = Unit {0}

-- an expression of level m may be the operand of what is open on top
abbrev pub High : ℕ → List Frame → Type 0
High m [] = Unit {0}
High m (f.Binary op at a ∷ K) = level op < m
High m (f.Prefix op at ∷ K) = 10 ≤ m
High m (_ ∷ K) = Unit {0}

pub record Left (op : Op2) (at : Pos) (a : Exp) (from here : List Terminal) : Type 0 where
  pub kind : Kind
  pub is : binary_of kind ≡ Some op
  pub operand : Expression (level op) from a (token kind at ∷ here)

abbrev pub RangeToAt : Ident → Bool → Exp → List Terminal → Pos → List Terminal → Type 0
RangeToAt x open_a a here at from = (b : Exp) (open_b : Bool) (right : Pos) (mid : List Terminal) → Expression 0 here b (token (right_bracket open_b) right ∷ mid) →
    MakesAtDo from mid (λ ns. node at (stmt.Range (range x open_a a b open_b ns)))

abbrev pub RangeFromAt : Ident → Bool → List Terminal → Pos → List Terminal → Type 0
RangeFromAt x open_a here at from = (a : Exp) (arrow : Pos) (mid : List Terminal) → Expression 0 here a (token k.Arrow arrow ∷ mid) → RangeToAt x open_a a mid at from

abbrev pub MoreArguments : Ident → List Exp → List Terminal → List Terminal → Type 0
MoreArguments code es here mid = (more : List Exp) (rest : List Terminal) → Arguments here more rest → Calls mid (call code (es ++ more)) rest

-- what is open around an expression that begins here
abbrev pub Opened : List Terminal → List Frame → List Terminal → Type 0
Opened whole [] here = ⊥
Opened whole (f.Binary op at a ∷ K) here = (from : List Terminal) × Left op at a from here × Under (level op) K × Opened whole K from
Opened whole (f.Prefix op at ∷ K) here = (kind : Kind) × (prefix_of kind ≡ Some op) × Opened whole K (token kind at ∷ here)
Opened whole (f.Paren at ∷ K) here = Opened whole K (token k.OpenParen at ∷ here)
Opened whole (f.Store x ∷ K) here = SourceAt whole (f.Store x ∷ K) here
Opened whole (f.Initial ty is x ∷ K) here = SourceAt whole (f.Initial ty is x ∷ K) here
Opened whole (f.Emit x ∷ K) here = Formed whole K (λ at from. (e : Exp) (close : Pos) (rest : List Terminal) → Expression 0 here e (token k.CloseParen close ∷ rest) → Forms from (node at (stmt.Emit x (Some e))) false rest)
Opened whole (f.Until t ∷ K) here = (mid : List Terminal) × (until : Pos) × AwaitAt whole K mid × Targets mid t (token k.Until until ∷ here)
Opened whole (f.Escape x ∷ K) here = Formed whole K (λ at from. (e : Exp) (rest : List Terminal) → Expression 0 here e rest → Forms from (node at (stmt.Escape x (Some e))) false rest)
Opened whole (f.Condition arms ∷ K) here = Formed whole K (CondAt arms here)
Opened whole (f.RangeFrom x open_a ∷ K) here = Formed whole K (RangeFromAt x open_a here)
Opened whole (f.RangeTo x open_a a ∷ K) here = Formed whole K (RangeToAt x open_a a here)
Opened whole (f.Arguments code es ∷ K) here = (mid : List Terminal) × CallAt whole K mid × MoreArguments code es here mid
Opened whole (f.Time ∷ K) here = (paren : Pos) × TargetAt whole K (token k.OpenParen paren ∷ here)
Opened whole _ here = ⊥

-- ---- heads

-- a location begins here, whose first token has this place
abbrev pub OuterAt : Owner → List Terminal → List Frame → Pos → List Terminal → Type 0
OuterAt owner.Operand whole K at here = Opened whole K here
OuterAt owner.Store whole K at here = Formed whole K (λ begin from. (begin ≡ at) × (from ≡ here))
OuterAt owner.Emit whole K at here = Formed whole K (λ begin from. from ≡ token k.Emit begin ∷ here)
OuterAt owner.Target whole K at here = TargetAt whole K here
OuterAt owner.Every whole K at here = Formed whole K (λ begin from. from ≡ token k.Every begin ∷ here)

abbrev pub AliasValueAt : Ident → Ident → List Terminal → Pos → List Terminal → Type 0
AliasValueAt code x here at from = Forms from (node at (stmt.AliasDecl code x None)) false here
    × ((equal : Pos) (mid : List Terminal) (sp : Spawn) (rest : List Terminal) → here ≡ token k.Assign equal ∷ mid → Spawns mid sp rest → Forms from (node at (stmt.AliasDecl code x (Some sp))) false rest)

abbrev pub AliasNameAt : Ident → List Terminal → Pos → List Terminal → Type 0
AliasNameAt code here at from = (x : List ℕ) (name : Pos) (rest : List Terminal) → here ≡ lower x name ∷ rest → AliasValueAt code (ident x name) rest at from

abbrev pub ItemHead : Ident → List Terminal → List Terminal → Type 0
ItemHead x here i = ItemOf i (item x None) false here
    × ((equal : Pos) (mid : List Terminal) (source : Source) (b : Bool) (rest : List Terminal) → here ≡ token k.Assign equal ∷ mid → Sources mid source b rest → ItemOf i (item x (Some source)) b rest)

abbrev pub ItemEndAt : Ty → List Item → List Terminal → Pos → List Terminal → Type 0
ItemEndAt ty is here at from = Forms from (node at (stmt.Vars ty is)) true here
    × ((comma : Pos) (mid : List Terminal) (more : List Item) (b : Bool) (rest : List Terminal) → here ≡ token k.Comma comma ∷ mid → Items mid more b rest → Forms from (node at (stmt.Vars ty (is ++ more))) b rest)

-- what the names that end here make
abbrev pub Listing : Listed → List Ident → List Terminal → Pos → List Terminal → Type 0
Listing (listed.Events ty) xs here at from = Forms from (node at (stmt.Events ty xs)) false here
Listing (listed.Inputs ty) xs here at from = Forms from (node at (stmt.Inputs ty xs)) false here
Listing (listed.Outputs ty) xs here at from = Forms from (node at (stmt.Outputs ty xs)) false here
Listing listed.Shared xs here at from = (close : Pos) (mid : List Terminal) → here ≡ token k.CloseParen close ∷ mid → MakesAtDo from mid (λ ns. node at (stmt.Async xs (block ns)))

abbrev pub NamesAt : Listed → List Ident → List Terminal → Pos → List Terminal → Type 0
NamesAt l xs here at from = (more : List Ident) (rest : List Terminal) → Names (case_of l) here more rest → Listing l (xs ++ more) rest at from

abbrev pub NamesTo : Listed → List Ident → List Terminal → Pos → List Terminal → Type 0
NamesTo l xs here at from = Listing l xs here at from
    × ((comma : Pos) (mid : List Terminal) → here ≡ token k.Comma comma ∷ mid → NamesAt l xs mid at from)

abbrev pub PoolNameAt : ℕ → Ident → List Terminal → Pos → List Terminal → Type 0
PoolNameAt n code here at from = (x : List ℕ) (name : Pos) (rest : List Terminal) → here ≡ lower x name ∷ rest → Forms from (node at (stmt.Pool n code (ident x name))) false rest

abbrev pub PoolCodeAt : ℕ → List Terminal → Pos → List Terminal → Type 0
PoolCodeAt n here at from = (x : List ℕ) (name : Pos) (rest : List Terminal) → here ≡ abs x name ∷ rest → PoolNameAt n (ident x name) rest at from

abbrev pub PoolCloseAt : ℕ → List Terminal → Pos → List Terminal → Type 0
PoolCloseAt n here at from = (close : Pos) (rest : List Terminal) → here ≡ token k.CloseBracket close ∷ rest → PoolCodeAt n rest at from

abbrev pub DeclaringAt : List Terminal → List Frame → Declaring → List Terminal → Type 0
DeclaringAt whole K d.Var here = Formed whole K (λ at from. from ≡ token k.Var at ∷ here)
DeclaringAt whole K d.AliasMark here = (p : Pos) × Formed whole K (λ at from. from ≡ token k.Var at ∷ token k.Ampersand p ∷ here)
DeclaringAt whole K d.AliasCode here = (p q : Pos) × Formed whole K (λ at from. from ≡ token k.Var at ∷ token k.Ampersand p ∷ token k.Question q ∷ here)
DeclaringAt whole K (d.AliasName code) here = Formed whole K (AliasNameAt code here)
DeclaringAt whole K (d.AliasValue code x) here = Formed whole K (AliasValueAt code x here)
DeclaringAt whole (f.Alias code x ∷ K) d.AliasSpawn here = Formed whole K (λ at from. (sp : Spawn) (rest : List Terminal) → Spawns here sp rest → Forms from (node at (stmt.AliasDecl code x (Some sp))) false rest)
DeclaringAt whole _ d.AliasSpawn here = ⊥
DeclaringAt whole K (d.Item ty is) here = Formed whole K (ItemsAt ty is here)
DeclaringAt whole K (d.ItemValue ty is x) here = (i : List Terminal) × ItemHead x here i × Formed whole K (ItemsAt ty is i)
DeclaringAt whole K (d.ItemEnd ty is) here = Formed whole K (ItemEndAt ty is here)
DeclaringAt whole K d.EventType here = Formed whole K (λ at from. from ≡ token k.Event at ∷ here)
DeclaringAt whole K d.InputType here = Formed whole K (λ at from. from ≡ token k.Input at ∷ here)
DeclaringAt whole K d.OutputType here = Formed whole K (λ at from. from ≡ token k.Output at ∷ here)
DeclaringAt whole K (d.Name l xs) here = Formed whole K (NamesAt l xs here)
DeclaringAt whole K (d.NameEnd l xs) here = Formed whole K (NamesTo l xs here)
DeclaringAt whole K d.Pool here = Formed whole K (λ at from. from ≡ token k.Pool at ∷ here)
DeclaringAt whole K d.PoolCount here = (p : Pos) × Formed whole K (λ at from. from ≡ token k.Pool at ∷ token k.OpenBracket p ∷ here)
DeclaringAt whole K (d.PoolClose n) here = Formed whole K (PoolCloseAt n here)
DeclaringAt whole K (d.PoolCode n) here = Formed whole K (PoolCodeAt n here)
DeclaringAt whole K (d.PoolName n code) here = Formed whole K (PoolNameAt n code here)

abbrev pub CodeDoAt : Ident → List Param → Ty → List Terminal → Pos → List Terminal → Type 0
CodeDoAt code ps ty here at from = MakesAtDo from here (λ ns. node at (stmt.Code code ps ty (block ns)))

abbrev pub CodeResultAt : Ident → List Param → List Terminal → Pos → List Terminal → Type 0
CodeResultAt code ps here at from = (ty : Ty) (of : Pos) (mid : List Terminal) → here ≡ token (k.Type ty) of ∷ mid → CodeDoAt code ps ty mid at from

abbrev pub CodeArrowAt : Ident → List Param → List Terminal → Pos → List Terminal → Type 0
CodeArrowAt code ps here at from = (arrow : Pos) (mid : List Terminal) → here ≡ token k.Arrow arrow ∷ mid → CodeResultAt code ps mid at from

abbrev pub ParamsAt : Ident → List Terminal → Pos → List Terminal → Type 0
ParamsAt code here at from = (ps : List Param) (rest : List Terminal) → Params here ps rest → CodeArrowAt code ps rest at from

abbrev pub ParamListAt : Ident → List Param → List Terminal → Pos → List Terminal → Type 0
ParamListAt code ps here at from = (more : List Param) (rest : List Terminal) → ParamList here more rest → CodeArrowAt code (ps ++ more) rest at from

abbrev pub ParamEndAt : Ident → List Param → List Terminal → Pos → List Terminal → Type 0
ParamEndAt code ps here at from = ((close : Pos) (rest : List Terminal) → here ≡ token k.CloseParen close ∷ rest → CodeArrowAt code ps rest at from)
    × ((comma : Pos) (mid : List Terminal) → here ≡ token k.Comma comma ∷ mid → ParamListAt code ps mid at from)

abbrev pub CodingAt : List Terminal → List Frame → Coding → List Terminal → Type 0
CodingAt whole K c.Slash here = Formed whole K (λ at from. from ≡ token k.Code at ∷ here)
CodingAt whole K c.Await here = (p : Pos) × Formed whole K (λ at from. from ≡ token k.Code at ∷ token k.Slash p ∷ here)
CodingAt whole K c.Name here = (p q : Pos) × Formed whole K (λ at from. from ≡ token k.Code at ∷ token k.Slash p ∷ token k.Await q ∷ here)
CodingAt whole K (c.Open code) here = Formed whole K (λ at from. (paren : Pos) (mid : List Terminal) → here ≡ token k.OpenParen paren ∷ mid → ParamsAt code mid at from)
CodingAt whole K (c.Params code) here = Formed whole K (ParamsAt code here)
CodingAt whole K (c.NoParams code) here = Formed whole K (λ at from. (close : Pos) (rest : List Terminal) → here ≡ token k.CloseParen close ∷ rest → CodeArrowAt code [] rest at from)
CodingAt whole K (c.Param code ps) here = Formed whole K (ParamListAt code ps here)
CodingAt whole K (c.ParamType code ps) here = (p : Pos) × Formed whole K (ParamListAt code ps (token k.Var p ∷ here))
CodingAt whole K (c.ParamName code ps ty) here = (p q : Pos) × Formed whole K (ParamListAt code ps (token k.Var p ∷ token (k.Type ty) q ∷ here))
CodingAt whole K (c.ParamEnd code ps) here = Formed whole K (ParamEndAt code ps here)
CodingAt whole K (c.Arrow code ps) here = Formed whole K (CodeArrowAt code ps here)
CodingAt whole K (c.Result code ps) here = Formed whole K (CodeResultAt code ps here)
CodingAt whole K (c.Do code ps ty) here = Formed whole K (CodeDoAt code ps ty here)

abbrev pub ArgumentsAt : Ident → List Terminal → List Terminal → Type 0
ArgumentsAt code here mid = ((close : Pos) (rest : List Terminal) → here ≡ token k.CloseParen close ∷ rest → Calls mid (call code []) rest)
    × ((es : List Exp) (rest : List Terminal) → Arguments here es rest → Calls mid (call code es) rest)

abbrev pub EscapeValueAt : Ident → List Terminal → Pos → List Terminal → Type 0
EscapeValueAt x here at from = Forms from (node at (stmt.Escape (Some x) None)) false here
    × ((e : Exp) (rest : List Terminal) → Expression 0 here e rest → Forms from (node at (stmt.Escape (Some x) (Some e))) false rest)

abbrev pub ActingAt : List Terminal → List Frame → Acting → List Terminal → Type 0
ActingAt whole K (a.Assign x) here = Formed whole K (λ at from. (at ≡ x.pos) × Location from x here)
ActingAt whole K a.Source here = SourceAt whole K here
ActingAt whole K (a.AwaitEnd t) here = (mid : List Terminal) × AwaitAt whole K mid × Targets mid t here
ActingAt whole K (a.ActEnd done) here = ActTo whole K done here
ActingAt whole K a.Emit here = Formed whole K (λ at from. from ≡ token k.Emit at ∷ here)
ActingAt whole K (a.EmitOpen x) here = Formed whole K (λ at from. (mid : List Terminal) × (from ≡ token k.Emit at ∷ mid) × Emits mid x here)
ActingAt whole K (a.EmitValue x) here = (paren : Pos) × Formed whole K (λ at from. (mid : List Terminal) × (from ≡ token k.Emit at ∷ mid) × Emits mid x (token k.OpenParen paren ∷ here))
ActingAt whole K a.Await here = AwaitAt whole K here
ActingAt whole K (a.Call code) here = (mid : List Terminal) × CallAt whole K mid × ((paren : Pos) (rest : List Terminal) → here ≡ token k.OpenParen paren ∷ rest → ArgumentsAt code rest mid)
ActingAt whole K (a.Arguments code) here = (mid : List Terminal) × CallAt whole K mid × ArgumentsAt code here mid
ActingAt whole K a.Target here = TargetAt whole K here
ActingAt whole K (a.Unit e) here = (mid : List Terminal) × (p q : Pos) × TargetAt whole K (token k.OpenParen p ∷ mid) × Expression 0 mid e (token k.CloseParen q ∷ here)
ActingAt whole K a.Spawn here = CallAt whole K here
ActingAt whole K (a.SpawnIn begin code) here = (mid : List Terminal) × SpawnAt whole begin K mid × Calls mid code here
ActingAt whole K (a.SpawnPool begin code) here = (mid : List Terminal) × (into : Pos) × SpawnAt whole begin K mid × Calls mid code (token k.In into ∷ here)
ActingAt whole K a.Kill here = Formed whole K (λ at from. from ≡ token k.Kill at ∷ here)
ActingAt whole K a.Escape here = Formed whole K (λ at from. from ≡ token k.Escape at ∷ here)
ActingAt whole K a.EscapeLabel here = (p : Pos) × Formed whole K (λ at from. from ≡ token k.Escape at ∷ token k.Slash p ∷ here)
ActingAt whole K (a.EscapeValue x) here = Formed whole K (EscapeValueAt x here)

abbrev pub AsyncAt : List Terminal → Pos → List Terminal → Type 0
AsyncAt here at from = (xs : List Ident) (mid : List Terminal) → Shares here xs mid → MakesAtDo from mid (λ ns. node at (stmt.Async xs (block ns)))

abbrev pub OpeningAt : List Terminal → List Frame → Opening → List Terminal → Type 0
OpeningAt whole K o.Do here = DoAt whole K here
OpeningAt whole K o.DoLabel here = (p : Pos) × DoAt whole K (token k.Slash p ∷ here)
OpeningAt whole K o.Finalize here = (p : Pos) × Formed whole K (λ at from. from ≡ token k.Do at ∷ token k.Finalize p ∷ here)
OpeningAt whole K (o.Else arms) here = (p : Pos) × Formed whole K (MoreArms arms (token k.Else p ∷ here))
OpeningAt whole K (o.ElseIf arms) here = (p q : Pos) × Formed whole K (MoreArms arms (token k.Else p ∷ token k.Slash q ∷ here))
OpeningAt whole K (o.WatchingDo t) here = Formed whole K (λ at from. MakesAtDo from here (λ ns. node at (stmt.Watching t (block ns))))
OpeningAt whole K o.Par here = Formed whole K (λ at from. from ≡ token k.Par at ∷ here)
OpeningAt whole K o.ParWord here = (p : Pos) × Formed whole K (λ at from. from ≡ token k.Par at ∷ token k.Slash p ∷ here)
OpeningAt whole K (o.ParDo kind) here = Formed whole K (λ at from. (begin : Pos) (mid : List Terminal) → here ≡ token k.Do begin ∷ mid → FirstBranchAt kind mid at from)
OpeningAt whole K o.Async here = Formed whole K (AsyncAt here)
OpeningAt whole K o.AsyncOpen here = (p : Pos) × Formed whole K (AsyncAt (token k.OpenParen p ∷ here))
OpeningAt whole K (o.AsyncDo xs) here = Formed whole K (λ at from. MakesAtDo from here (λ ns. node at (stmt.Async xs (block ns))))

abbrev pub LoopingAt : List Terminal → List Frame → Looping → List Terminal → Type 0
LoopingAt whole K l.Loop here = Formed whole K (λ at from. from ≡ token k.Loop at ∷ here)
LoopingAt whole K l.Count here = (p : Pos) × Formed whole K (λ at from. from ≡ token k.Loop at ∷ token k.Slash p ∷ here)
LoopingAt whole K (l.CountDo n) here = Formed whole K (λ at from. MakesAtDo from here (λ ns. node at (stmt.Loop (Some n) (block ns))))
LoopingAt whole K (l.RangeIn x) here = Formed whole K (λ at from. (into left : Pos) (open_a : Bool) (mid : List Terminal) → here ≡ token k.In into ∷ token (left_bracket open_a) left ∷ mid → RangeFromAt x open_a mid at from)
LoopingAt whole K (l.RangeOpen x) here = Formed whole K (λ at from. (left : Pos) (open_a : Bool) (mid : List Terminal) → here ≡ token (left_bracket open_a) left ∷ mid → RangeFromAt x open_a mid at from)
LoopingAt whole K (l.RangeDo x open_a a b open_b) here = Formed whole K (λ at from. MakesAtDo from here (λ ns. node at (stmt.Range (range x open_a a b open_b ns))))
LoopingAt whole K l.Every here = Formed whole K (λ at from. from ≡ token k.Every at ∷ here)
LoopingAt whole K (l.EveryIn x) here = Formed whole K (λ at from. (mid : List Terminal) × (from ≡ token k.Every at ∷ mid) × Location mid x here)
LoopingAt whole K (l.EveryDo x t) here = Formed whole K (λ at from. MakesAtDo from here (λ ns. node at (stmt.Every x t (block ns))))

abbrev pub Stood : List Terminal → List Frame → Mode → List Terminal → Type 0
Stood whole K m.Start here = Opened whole K here
Stood whole K (m.Named x at) here = Opened whole K (lower x at ∷ here)
Stood whole K (m.After x) here = (from : List Terminal) × Opened whole K from × Upto 11 from x here
Stood whole K (m.Cast at x) here = (from : List Terminal) × Opened whole K from × Upto 0 from x (token k.As at ∷ here) × Under 0 K
Stood whole K (m.Typed x) here = (from : List Terminal) × Opened whole K from × Upto 0 from x here × Under 0 K
Stood whole K (m.Outer whose at) here = OuterAt whose whole K at (token k.Outer at ∷ here)
Stood whole K (m.OuterName whose at) here = (p : Pos) × OuterAt whose whole K at (token k.Outer at ∷ token k.Dot p ∷ here)
Stood whole K (m.In ns) here = (start : List Terminal) × Around whole K start × Statements start ns here
Stood whole K (m.Semicolon stmt) here = Formed whole K (λ at from. Forms from (node at stmt) false here)
Stood whole K (m.Declaring mode) here = DeclaringAt whole K mode here
Stood whole K (m.Coding mode) here = CodingAt whole K mode here
Stood whole K (m.Acting mode) here = ActingAt whole K mode here
Stood whole K (m.Opening mode) here = OpeningAt whole K mode here
Stood whole K (m.Looping mode) here = LoopingAt whole K mode here

abbrev pub Stands : List Terminal → State → List Terminal → Type 0
Stands whole state here = Stood whole state.stack state.mode here
