-- Tokens that a mode doesn't take.
use Rattle.std.proofs.Common.{◌≡◌, refl, ℕ, Bool, List, [], ◌∷◌, Option, None}
use Rattle.ceu_base.specs.declared.kinds.Pos.{Pos}
use Rattle.ceu_base.specs.declared.kinds.Ty.{Ty}
use Rattle.ceu_base.specs.declared.kinds.Ty.TheVariants as ty
use Rattle.ceu_tree.specs.declared.kernel.ParKind.{ParKind}
use Rattle.ceu_tree.specs.declared.source.Ident.{Ident}
use Rattle.ceu_tree.specs.declared.source.Exp.{Exp}
use Rattle.ceu_tree.specs.declared.source.Item.{Item}
use Rattle.ceu_tree.specs.declared.source.Param.{Param}
use Rattle.ceu_tree.specs.declared.source.Call.{Call}
use Rattle.ceu_tree.specs.declared.source.Target.{Target}
use Rattle.ceu_tree.specs.declared.source.Arm.{Arm}
use Rattle.ceu_tree.specs.declared.source.Label.TheVariants as label
use Rattle.ceu_tree.specs.declared.source.Stmt.{Stmt}
use Rattle.ceu_tree.specs.declared.source.Stmt as stmt
use Rattle.ceu_syntax.specs.declared.terminal.Kind.{Kind}
use Rattle.ceu_syntax.specs.declared.terminal.Kind.TheVariants as k
use Rattle.ceu_syntax.specs.declared.machine.Body.TheVariants as body
use Rattle.ceu_syntax.specs.declared.machine.Frame.{Frame}
use Rattle.ceu_syntax.specs.declared.machine.Frame.TheVariants as f
use Rattle.ceu_syntax.specs.declared.machine.Act.{Act}
use Rattle.ceu_syntax.specs.declared.machine.Owner.{Owner}
use Rattle.ceu_syntax.specs.declared.machine.Listed.{Listed}
use Rattle.ceu_syntax.specs.declared.machine.Case.TheVariants as case
use Rattle.ceu_syntax.specs.declared.machine.Listed.TheVariants as listed
use Rattle.ceu_syntax.specs.declared.machine.Declaring.TheVariants as d
use Rattle.ceu_syntax.specs.declared.machine.Coding.TheVariants as c
use Rattle.ceu_syntax.specs.declared.machine.Acting.TheVariants as a
use Rattle.ceu_syntax.specs.declared.machine.Opening.TheVariants as o
use Rattle.ceu_syntax.specs.declared.machine.Looping.TheVariants as l
use Rattle.ceu_syntax.specs.Steps as spec

pub declared_Var : (kind : Kind) (at : Pos) (K : List Frame) → ((x : Ty) → kind ≡ k.Type x → ⊥) → (kind ≡ k.Ampersand → ⊥) → spec.declared d.Var kind at K ≡ None
declared_Var (k.Type x) at K n0 n1 = absurd (n0 x refl)
declared_Var k.Ampersand at K n0 n1 = absurd (n1 refl)
declared_Var _ at K n0 n1 = refl

pub declared_AliasMark : (kind : Kind) (at : Pos) (K : List Frame) → (kind ≡ k.Question → ⊥) → spec.declared d.AliasMark kind at K ≡ None
declared_AliasMark k.Question at K n0 = absurd (n0 refl)
declared_AliasMark _ at K n0 = refl

pub declared_AliasCode : (kind : Kind) (at : Pos) (K : List Frame) → ((x : List ℕ) → kind ≡ k.Abs x → ⊥) → spec.declared d.AliasCode kind at K ≡ None
declared_AliasCode (k.Abs x) at K n0 = absurd (n0 x refl)
declared_AliasCode _ at K n0 = refl

pub declared_AliasName : (code : Ident) (kind : Kind) (at : Pos) (K : List Frame) → ((x : List ℕ) → kind ≡ k.Lower x → ⊥) → spec.declared (d.AliasName code) kind at K ≡ None
declared_AliasName code (k.Lower x) at K n0 = absurd (n0 x refl)
declared_AliasName code _ at K n0 = refl

pub declared_AliasValue : (code : Ident) (x : Ident) (kind : Kind) (at : Pos) (K : List Frame) → (kind ≡ k.Semicolon → ⊥) → (kind ≡ k.Assign → ⊥) → spec.declared (d.AliasValue code x) kind at K ≡ None
declared_AliasValue code x k.Semicolon at K n0 n1 = absurd (n0 refl)
declared_AliasValue code x k.Assign at K n0 n1 = absurd (n1 refl)
declared_AliasValue code x _ at K n0 n1 = refl

pub declared_AliasSpawn : (kind : Kind) (at : Pos) (K : List Frame) → (kind ≡ k.Spawn → ⊥) → spec.declared d.AliasSpawn kind at K ≡ None
declared_AliasSpawn k.Spawn at K n0 = absurd (n0 refl)
declared_AliasSpawn _ at K n0 = refl

pub declared_Item : (t : Ty) (is : List Item) (kind : Kind) (at : Pos) (K : List Frame) → ((x : List ℕ) → kind ≡ k.Lower x → ⊥) → spec.declared (d.Item t is) kind at K ≡ None
declared_Item t is (k.Lower x) at K n0 = absurd (n0 x refl)
declared_Item t is _ at K n0 = refl

pub declared_EventType : (kind : Kind) (at : Pos) (K : List Frame) → ((x : Ty) → kind ≡ k.Type x → ⊥) → spec.declared d.EventType kind at K ≡ None
declared_EventType (k.Type x) at K n0 = absurd (n0 x refl)
declared_EventType _ at K n0 = refl

pub declared_InputType : (kind : Kind) (at : Pos) (K : List Frame) → ((x : Ty) → kind ≡ k.Type x → ⊥) → spec.declared d.InputType kind at K ≡ None
declared_InputType (k.Type x) at K n0 = absurd (n0 x refl)
declared_InputType _ at K n0 = refl

pub declared_OutputType : (kind : Kind) (at : Pos) (K : List Frame) → ((x : Ty) → kind ≡ k.Type x → ⊥) → spec.declared d.OutputType kind at K ≡ None
declared_OutputType (k.Type x) at K n0 = absurd (n0 x refl)
declared_OutputType _ at K n0 = refl

pub declared_Pool : (kind : Kind) (at : Pos) (K : List Frame) → (kind ≡ k.OpenBracket → ⊥) → spec.declared d.Pool kind at K ≡ None
declared_Pool k.OpenBracket at K n0 = absurd (n0 refl)
declared_Pool _ at K n0 = refl

pub declared_PoolCount : (kind : Kind) (at : Pos) (K : List Frame) → ((x : ℕ) → kind ≡ k.Number x → ⊥) → spec.declared d.PoolCount kind at K ≡ None
declared_PoolCount (k.Number x) at K n0 = absurd (n0 x refl)
declared_PoolCount _ at K n0 = refl

pub declared_PoolClose : (n : ℕ) (kind : Kind) (at : Pos) (K : List Frame) → (kind ≡ k.CloseBracket → ⊥) → spec.declared (d.PoolClose n) kind at K ≡ None
declared_PoolClose n k.CloseBracket at K n0 = absurd (n0 refl)
declared_PoolClose n _ at K n0 = refl

pub declared_PoolCode : (n : ℕ) (kind : Kind) (at : Pos) (K : List Frame) → ((x : List ℕ) → kind ≡ k.Abs x → ⊥) → spec.declared (d.PoolCode n) kind at K ≡ None
declared_PoolCode n (k.Abs x) at K n0 = absurd (n0 x refl)
declared_PoolCode n _ at K n0 = refl

pub declared_PoolName : (n : ℕ) (code : Ident) (kind : Kind) (at : Pos) (K : List Frame) → ((x : List ℕ) → kind ≡ k.Lower x → ⊥) → spec.declared (d.PoolName n code) kind at K ≡ None
declared_PoolName n code (k.Lower x) at K n0 = absurd (n0 x refl)
declared_PoolName n code _ at K n0 = refl

pub declared_ItemEnd : (t : Ty) (is : List Item) (kind : Kind) (at : Pos) (K : List Frame) → (kind ≡ k.Comma → ⊥) → spec.declared (d.ItemEnd t is) kind at K ≡ spec.item_end kind at (stmt.Vars t is) K
declared_ItemEnd t is k.Comma at K n0 = absurd (n0 refl)
declared_ItemEnd t is _ at K n0 = refl

pub coded_Slash : (kind : Kind) (at : Pos) (K : List Frame) → (kind ≡ k.Slash → ⊥) → spec.coded c.Slash kind at K ≡ None
coded_Slash k.Slash at K n0 = absurd (n0 refl)
coded_Slash _ at K n0 = refl

pub coded_Await : (kind : Kind) (at : Pos) (K : List Frame) → (kind ≡ k.Await → ⊥) → spec.coded c.Await kind at K ≡ None
coded_Await k.Await at K n0 = absurd (n0 refl)
coded_Await _ at K n0 = refl

pub coded_Name : (kind : Kind) (at : Pos) (K : List Frame) → ((x : List ℕ) → kind ≡ k.Abs x → ⊥) → spec.coded c.Name kind at K ≡ None
coded_Name (k.Abs x) at K n0 = absurd (n0 x refl)
coded_Name _ at K n0 = refl

pub coded_Open : (code : Ident) (kind : Kind) (at : Pos) (K : List Frame) → (kind ≡ k.OpenParen → ⊥) → spec.coded (c.Open code) kind at K ≡ None
coded_Open code k.OpenParen at K n0 = absurd (n0 refl)
coded_Open code _ at K n0 = refl

pub coded_NoParams : (code : Ident) (kind : Kind) (at : Pos) (K : List Frame) → (kind ≡ k.CloseParen → ⊥) → spec.coded (c.NoParams code) kind at K ≡ None
coded_NoParams code k.CloseParen at K n0 = absurd (n0 refl)
coded_NoParams code _ at K n0 = refl

pub coded_Param : (code : Ident) (ps : List Param) (kind : Kind) (at : Pos) (K : List Frame) → (kind ≡ k.Var → ⊥) → spec.coded (c.Param code ps) kind at K ≡ None
coded_Param code ps k.Var at K n0 = absurd (n0 refl)
coded_Param code ps _ at K n0 = refl

pub coded_ParamType : (code : Ident) (ps : List Param) (kind : Kind) (at : Pos) (K : List Frame) → ((x : Ty) → kind ≡ k.Type x → ⊥) → spec.coded (c.ParamType code ps) kind at K ≡ None
coded_ParamType code ps (k.Type x) at K n0 = absurd (n0 x refl)
coded_ParamType code ps _ at K n0 = refl

pub coded_ParamName : (code : Ident) (ps : List Param) (t : Ty) (kind : Kind) (at : Pos) (K : List Frame) → ((x : List ℕ) → kind ≡ k.Lower x → ⊥) → spec.coded (c.ParamName code ps t) kind at K ≡ None
coded_ParamName code ps t (k.Lower x) at K n0 = absurd (n0 x refl)
coded_ParamName code ps t _ at K n0 = refl

pub coded_ParamEnd : (code : Ident) (ps : List Param) (kind : Kind) (at : Pos) (K : List Frame) → (kind ≡ k.Comma → ⊥) → (kind ≡ k.CloseParen → ⊥) → spec.coded (c.ParamEnd code ps) kind at K ≡ None
coded_ParamEnd code ps k.Comma at K n0 n1 = absurd (n0 refl)
coded_ParamEnd code ps k.CloseParen at K n0 n1 = absurd (n1 refl)
coded_ParamEnd code ps _ at K n0 n1 = refl

pub coded_Arrow : (code : Ident) (ps : List Param) (kind : Kind) (at : Pos) (K : List Frame) → (kind ≡ k.Arrow → ⊥) → spec.coded (c.Arrow code ps) kind at K ≡ None
coded_Arrow code ps k.Arrow at K n0 = absurd (n0 refl)
coded_Arrow code ps _ at K n0 = refl

pub coded_Result : (code : Ident) (ps : List Param) (kind : Kind) (at : Pos) (K : List Frame) → ((x : Ty) → kind ≡ k.Type x → ⊥) → spec.coded (c.Result code ps) kind at K ≡ None
coded_Result code ps (k.Type x) at K n0 = absurd (n0 x refl)
coded_Result code ps _ at K n0 = refl

pub coded_Do : (code : Ident) (ps : List Param) (t : Ty) (kind : Kind) (at : Pos) (K : List Frame) → (kind ≡ k.Do → ⊥) → spec.coded (c.Do code ps t) kind at K ≡ None
coded_Do code ps t k.Do at K n0 = absurd (n0 refl)
coded_Do code ps t _ at K n0 = refl

pub acted_Assign : (x : Ident) (kind : Kind) (at : Pos) (K : List Frame) → (kind ≡ k.Assign → ⊥) → spec.acted (a.Assign x) kind at K ≡ None
acted_Assign x k.Assign at K n0 = absurd (n0 refl)
acted_Assign x _ at K n0 = refl

pub acted_AwaitEnd : (target : Target) (kind : Kind) (at : Pos) (K : List Frame) → (kind ≡ k.Until → ⊥) → (kind ≡ k.Semicolon → ⊥) → (kind ≡ k.Comma → ⊥) → spec.acted (a.AwaitEnd target) kind at K ≡ None
acted_AwaitEnd target k.Until at K n0 n1 n2 = absurd (n0 refl)
acted_AwaitEnd target k.Semicolon at K n0 n1 n2 = absurd (n1 refl)
acted_AwaitEnd target k.Comma at K n0 n1 n2 = absurd (n2 refl)
acted_AwaitEnd target _ at K n0 n1 n2 = refl

pub acted_ActEnd : (done : Act) (kind : Kind) (at : Pos) (K : List Frame) → (kind ≡ k.Semicolon → ⊥) → (kind ≡ k.Comma → ⊥) → spec.acted (a.ActEnd done) kind at K ≡ None
acted_ActEnd done k.Semicolon at K n0 n1 = absurd (n0 refl)
acted_ActEnd done k.Comma at K n0 n1 = absurd (n1 refl)
acted_ActEnd done _ at K n0 n1 = refl

pub acted_Emit : (kind : Kind) (at : Pos) (K : List Frame) → ((x : List ℕ) → kind ≡ k.Ext x → ⊥) → ((x : List ℕ) → kind ≡ k.Lower x → ⊥) → (kind ≡ k.Outer → ⊥) → spec.acted a.Emit kind at K ≡ None
acted_Emit (k.Ext x) at K n0 n1 n2 = absurd (n0 x refl)
acted_Emit (k.Lower x) at K n0 n1 n2 = absurd (n1 x refl)
acted_Emit k.Outer at K n0 n1 n2 = absurd (n2 refl)
acted_Emit _ at K n0 n1 n2 = refl

pub acted_EmitOpen : (x : Ident) (kind : Kind) (at : Pos) (K : List Frame) → (kind ≡ k.OpenParen → ⊥) → (kind ≡ k.Semicolon → ⊥) → spec.acted (a.EmitOpen x) kind at K ≡ None
acted_EmitOpen x k.OpenParen at K n0 n1 = absurd (n0 refl)
acted_EmitOpen x k.Semicolon at K n0 n1 = absurd (n1 refl)
acted_EmitOpen x _ at K n0 n1 = refl

pub acted_Call : (code : Ident) (kind : Kind) (at : Pos) (K : List Frame) → (kind ≡ k.OpenParen → ⊥) → spec.acted (a.Call code) kind at K ≡ None
acted_Call code k.OpenParen at K n0 = absurd (n0 refl)
acted_Call code _ at K n0 = refl

pub acted_Unit : (e : Exp) (kind : Kind) (at : Pos) (K : List Frame) → ((x : List ℕ) → kind ≡ k.Lower x → ⊥) → spec.acted (a.Unit e) kind at K ≡ None
acted_Unit e (k.Lower x) at K n0 = absurd (n0 x refl)
acted_Unit e _ at K n0 = refl

pub acted_Spawn : (kind : Kind) (at : Pos) (K : List Frame) → ((x : List ℕ) → kind ≡ k.Abs x → ⊥) → spec.acted a.Spawn kind at K ≡ None
acted_Spawn (k.Abs x) at K n0 = absurd (n0 x refl)
acted_Spawn _ at K n0 = refl

pub acted_SpawnIn : (begin : Pos) (call : Call) (kind : Kind) (at : Pos) (K : List Frame) → (kind ≡ k.In → ⊥) → spec.acted (a.SpawnIn begin call) kind at K ≡ None
acted_SpawnIn begin call k.In at K n0 = absurd (n0 refl)
acted_SpawnIn begin call _ at K n0 = refl

pub acted_SpawnPool : (begin : Pos) (call : Call) (kind : Kind) (at : Pos) (K : List Frame) → ((x : List ℕ) → kind ≡ k.Lower x → ⊥) → spec.acted (a.SpawnPool begin call) kind at K ≡ None
acted_SpawnPool begin call (k.Lower x) at K n0 = absurd (n0 x refl)
acted_SpawnPool begin call _ at K n0 = refl

pub acted_Kill : (kind : Kind) (at : Pos) (K : List Frame) → ((x : List ℕ) → kind ≡ k.Lower x → ⊥) → spec.acted a.Kill kind at K ≡ None
acted_Kill (k.Lower x) at K n0 = absurd (n0 x refl)
acted_Kill _ at K n0 = refl

pub acted_EscapeLabel : (kind : Kind) (at : Pos) (K : List Frame) → ((x : List ℕ) → kind ≡ k.Lower x → ⊥) → spec.acted a.EscapeLabel kind at K ≡ None
acted_EscapeLabel (k.Lower x) at K n0 = absurd (n0 x refl)
acted_EscapeLabel _ at K n0 = refl

pub opening_DoLabel : (kind : Kind) (at : Pos) (K : List Frame) → (kind ≡ k.Under → ⊥) → ((x : List ℕ) → kind ≡ k.Lower x → ⊥) → spec.opening o.DoLabel kind at K ≡ None
opening_DoLabel k.Under at K n0 n1 = absurd (n0 refl)
opening_DoLabel (k.Lower x) at K n0 n1 = absurd (n1 x refl)
opening_DoLabel _ at K n0 n1 = refl

pub opening_Finalize : (kind : Kind) (at : Pos) (K : List Frame) → (kind ≡ k.With → ⊥) → spec.opening o.Finalize kind at K ≡ None
opening_Finalize k.With at K n0 = absurd (n0 refl)
opening_Finalize _ at K n0 = refl

pub opening_ElseIf : (arms : List Arm) (kind : Kind) (at : Pos) (K : List Frame) → (kind ≡ k.If → ⊥) → spec.opening (o.ElseIf arms) kind at K ≡ None
opening_ElseIf arms k.If at K n0 = absurd (n0 refl)
opening_ElseIf arms _ at K n0 = refl

pub opening_WatchingDo : (target : Target) (kind : Kind) (at : Pos) (K : List Frame) → (kind ≡ k.Do → ⊥) → spec.opening (o.WatchingDo target) kind at K ≡ None
opening_WatchingDo target k.Do at K n0 = absurd (n0 refl)
opening_WatchingDo target _ at K n0 = refl

pub opening_Par : (kind : Kind) (at : Pos) (K : List Frame) → (kind ≡ k.Slash → ⊥) → (kind ≡ k.Do → ⊥) → spec.opening o.Par kind at K ≡ None
opening_Par k.Slash at K n0 n1 = absurd (n0 refl)
opening_Par k.Do at K n0 n1 = absurd (n1 refl)
opening_Par _ at K n0 n1 = refl

pub opening_ParWord : (kind : Kind) (at : Pos) (K : List Frame) → (kind ≡ k.Or → ⊥) → (kind ≡ k.And → ⊥) → spec.opening o.ParWord kind at K ≡ None
opening_ParWord k.Or at K n0 n1 = absurd (n0 refl)
opening_ParWord k.And at K n0 n1 = absurd (n1 refl)
opening_ParWord _ at K n0 n1 = refl

pub opening_ParDo : (par : ParKind) (kind : Kind) (at : Pos) (K : List Frame) → (kind ≡ k.Do → ⊥) → spec.opening (o.ParDo par) kind at K ≡ None
opening_ParDo par k.Do at K n0 = absurd (n0 refl)
opening_ParDo par _ at K n0 = refl

pub opening_Async : (kind : Kind) (at : Pos) (K : List Frame) → (kind ≡ k.OpenParen → ⊥) → (kind ≡ k.Do → ⊥) → spec.opening o.Async kind at K ≡ None
opening_Async k.OpenParen at K n0 n1 = absurd (n0 refl)
opening_Async k.Do at K n0 n1 = absurd (n1 refl)
opening_Async _ at K n0 n1 = refl

pub opening_AsyncOpen : (kind : Kind) (at : Pos) (K : List Frame) → (kind ≡ k.CloseParen → ⊥) → ((x : List ℕ) → kind ≡ k.Lower x → ⊥) → spec.opening o.AsyncOpen kind at K ≡ None
opening_AsyncOpen k.CloseParen at K n0 n1 = absurd (n0 refl)
opening_AsyncOpen (k.Lower x) at K n0 n1 = absurd (n1 x refl)
opening_AsyncOpen _ at K n0 n1 = refl

pub opening_AsyncDo : (names : List Ident) (kind : Kind) (at : Pos) (K : List Frame) → (kind ≡ k.Do → ⊥) → spec.opening (o.AsyncDo names) kind at K ≡ None
opening_AsyncDo names k.Do at K n0 = absurd (n0 refl)
opening_AsyncDo names _ at K n0 = refl

pub opening_Else : (arms : List Arm) (kind : Kind) (at : Pos) (K : List Frame) → (kind ≡ k.Slash → ⊥) → spec.opening (o.Else arms) kind at K ≡ spec.of_block kind at [] (f.Body (body.Else arms) ∷ K)
opening_Else arms k.Slash at K n0 = absurd (n0 refl)
opening_Else arms _ at K n0 = refl

pub looping_Loop : (kind : Kind) (at : Pos) (K : List Frame) → (kind ≡ k.Slash → ⊥) → (kind ≡ k.Do → ⊥) → ((x : List ℕ) → kind ≡ k.Lower x → ⊥) → spec.looping l.Loop kind at K ≡ None
looping_Loop k.Slash at K n0 n1 n2 = absurd (n0 refl)
looping_Loop k.Do at K n0 n1 n2 = absurd (n1 refl)
looping_Loop (k.Lower x) at K n0 n1 n2 = absurd (n2 x refl)
looping_Loop _ at K n0 n1 n2 = refl

pub looping_Count : (kind : Kind) (at : Pos) (K : List Frame) → ((x : ℕ) → kind ≡ k.Number x → ⊥) → spec.looping l.Count kind at K ≡ None
looping_Count (k.Number x) at K n0 = absurd (n0 x refl)
looping_Count _ at K n0 = refl

pub looping_CountDo : (n : ℕ) (kind : Kind) (at : Pos) (K : List Frame) → (kind ≡ k.Do → ⊥) → spec.looping (l.CountDo n) kind at K ≡ None
looping_CountDo n k.Do at K n0 = absurd (n0 refl)
looping_CountDo n _ at K n0 = refl

pub looping_RangeIn : (x : Ident) (kind : Kind) (at : Pos) (K : List Frame) → (kind ≡ k.In → ⊥) → spec.looping (l.RangeIn x) kind at K ≡ None
looping_RangeIn x k.In at K n0 = absurd (n0 refl)
looping_RangeIn x _ at K n0 = refl

pub looping_RangeOpen : (x : Ident) (kind : Kind) (at : Pos) (K : List Frame) → (kind ≡ k.OpenBracket → ⊥) → (kind ≡ k.CloseBracket → ⊥) → spec.looping (l.RangeOpen x) kind at K ≡ None
looping_RangeOpen x k.OpenBracket at K n0 n1 = absurd (n0 refl)
looping_RangeOpen x k.CloseBracket at K n0 n1 = absurd (n1 refl)
looping_RangeOpen x _ at K n0 n1 = refl

pub looping_RangeDo : (x : Ident) (open_a : Bool) (from : Exp) (to : Exp) (open_b : Bool) (kind : Kind) (at : Pos) (K : List Frame) → (kind ≡ k.Do → ⊥) → spec.looping (l.RangeDo x open_a from to open_b) kind at K ≡ None
looping_RangeDo x open_a from to open_b k.Do at K n0 = absurd (n0 refl)
looping_RangeDo x open_a from to open_b _ at K n0 = refl

pub looping_EveryIn : (x : Ident) (kind : Kind) (at : Pos) (K : List Frame) → (kind ≡ k.In → ⊥) → (kind ≡ k.Do → ⊥) → spec.looping (l.EveryIn x) kind at K ≡ None
looping_EveryIn x k.In at K n0 n1 = absurd (n0 refl)
looping_EveryIn x k.Do at K n0 n1 = absurd (n1 refl)
looping_EveryIn x _ at K n0 n1 = refl

pub looping_EveryDo : (x : Option Ident) (target : Target) (kind : Kind) (at : Pos) (K : List Frame) → (kind ≡ k.Do → ⊥) → spec.looping (l.EveryDo x target) kind at K ≡ None
looping_EveryDo x target k.Do at K n0 = absurd (n0 refl)
looping_EveryDo x target _ at K n0 = refl

pub of_do : (kind : Kind) (at : Pos) (K : List Frame) → (kind ≡ k.Slash → ⊥) → (kind ≡ k.Finalize → ⊥) → spec.of_do kind at K ≡ spec.of_block kind at [] (f.Body (body.Do label.Plain) ∷ K)
of_do k.Slash at K n0 n1 = absurd (n0 refl)
of_do k.Finalize at K n0 n1 = absurd (n1 refl)
of_do _ at K n0 n1 = refl

pub of_every : (kind : Kind) (at : Pos) (K : List Frame) → ((x : List ℕ) → kind ≡ k.Lower x → ⊥) → (kind ≡ k.Outer → ⊥) → spec.of_every kind at K ≡ spec.of_target kind at (f.Every None ∷ K)
of_every (k.Lower x) at K n0 n1 = absurd (n0 x refl)
of_every k.Outer at K n0 n1 = absurd (n1 refl)
of_every _ at K n0 n1 = refl

pub of_lower_name : (kind : Kind) (at : Pos) (given : Listed) (names : List Ident) (K : List Frame) → ((x : List ℕ) → kind ≡ k.Lower x → ⊥) → spec.of_name case.Lower kind at given names K ≡ None
of_lower_name (k.Lower x) at given names K n0 = absurd (n0 x refl)
of_lower_name _ at given names K n0 = refl

pub of_upper_name : (kind : Kind) (at : Pos) (given : Listed) (names : List Ident) (K : List Frame) → ((x : List ℕ) → kind ≡ k.Ext x → ⊥) → spec.of_name case.Upper kind at given names K ≡ None
of_upper_name (k.Ext x) at given names K n0 = absurd (n0 x refl)
of_upper_name _ at given names K n0 = refl

pub of_name_end : (kind : Kind) (given : Listed) (names : List Ident) (K : List Frame) → (kind ≡ k.Comma → ⊥) → (kind ≡ k.Semicolon → ⊥) → (kind ≡ k.CloseParen → ⊥) → spec.of_name_end kind given names K ≡ None
of_name_end k.Comma given names K n0 n1 n2 = absurd (n0 refl)
of_name_end k.Semicolon given names K n0 n1 n2 = absurd (n1 refl)
of_name_end k.CloseParen given names K n0 n1 n2 = absurd (n2 refl)
of_name_end _ given names K n0 n1 n2 = refl

pub item_value : (kind : Kind) (t : Ty) (is : List Item) (x : Ident) (K : List Frame) → (kind ≡ k.Assign → ⊥) → (kind ≡ k.Comma → ⊥) → (kind ≡ k.Semicolon → ⊥) → spec.item_value kind t is x K ≡ None
item_value k.Assign t is x K n0 n1 n2 = absurd (n0 refl)
item_value k.Comma t is x K n0 n1 n2 = absurd (n1 refl)
item_value k.Semicolon t is x K n0 n1 n2 = absurd (n2 refl)
item_value _ t is x K n0 n1 n2 = refl

pub of_params : (kind : Kind) (code : Ident) (K : List Frame) → (kind ≡ k.CloseParen → ⊥) → ((x : Ty) → kind ≡ k.Type x → ⊥) → (kind ≡ k.Var → ⊥) → spec.of_params kind code K ≡ None
of_params k.CloseParen code K n0 n1 n2 = absurd (n0 refl)
of_params (k.Type x) code K n0 n1 n2 = absurd (n1 x refl)
of_params k.Var code K n0 n1 n2 = absurd (n2 refl)
of_params _ code K n0 n1 n2 = refl

pub no_params_of : (given : Ty) (code : Ident) (K : List Frame) → (given ≡ ty.None → ⊥) → spec.no_params_of given code K ≡ None
no_params_of ty.None code K n0 = absurd (n0 refl)
no_params_of _ code K n0 = refl

pub shares : (given : Listed) (names : List Ident) (K : List Frame) → (given ≡ listed.Shared → ⊥) → spec.shares given names K ≡ None
shares listed.Shared names K n0 = absurd (n0 refl)
shares _ names K n0 = refl

pub of_outer : (kind : Kind) (whose : Owner) (at : Pos) (K : List Frame) → (kind ≡ k.Dot → ⊥) → spec.of_outer kind whose at K ≡ None
of_outer k.Dot whose at K n0 = absurd (n0 refl)
of_outer _ whose at K n0 = refl

pub of_outer_name : (kind : Kind) (whose : Owner) (at : Pos) (K : List Frame) → ((x : List ℕ) → kind ≡ k.Lower x → ⊥) → spec.of_outer_name kind whose at K ≡ None
of_outer_name (k.Lower x) whose at K n0 = absurd (n0 x refl)
of_outer_name _ whose at K n0 = refl

pub of_semicolon : (kind : Kind) (statement : Stmt) (K : List Frame) → (kind ≡ k.Semicolon → ⊥) → spec.of_semicolon kind statement K ≡ None
of_semicolon k.Semicolon statement K n0 = absurd (n0 refl)
of_semicolon _ statement K n0 = refl
