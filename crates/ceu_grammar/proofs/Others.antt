-- Steps that go no further, or that hand on to another step, where a token, a frame or a mode is none of some.
use Rattle.std.proofs.Common.{◌≡◌, refl, ℕ, Bool, List, [], ◌∷◌, Option, Some, None}
use Rattle.ceu_base.specs.declared.kinds.Pos.{Pos}
use Rattle.ceu_base.specs.declared.kinds.Op1.{Op1}
use Rattle.ceu_base.specs.declared.kinds.Op2.{Op2}
use Rattle.ceu_base.specs.declared.kinds.Ty.{Ty}
use Rattle.ceu_tree.specs.declared.kernel.ParKind.{ParKind}
use Rattle.ceu_tree.specs.declared.source.Ident.{Ident}
use Rattle.ceu_tree.specs.declared.source.Exp.{Exp}
use Rattle.ceu_tree.specs.declared.source.Item.{Item}
use Rattle.ceu_tree.specs.declared.source.Target.{Target}
use Rattle.ceu_tree.specs.declared.source.Spawn.{Spawn}
use Rattle.ceu_tree.specs.declared.source.Node.{Node}
use Rattle.ceu_tree.specs.declared.source.Do.{Do}
use Rattle.ceu_tree.specs.declared.source.Arm.{Arm}
use Rattle.ceu_tree.specs.declared.source.Block.{Block}
use Rattle.ceu_tree.specs.declared.source.Source.{Source}
use Rattle.ceu_tree.specs.declared.source.Source as source
use Rattle.ceu_tree.specs.declared.source.Stmt.{Stmt}
use Rattle.ceu_syntax.specs.declared.terminal.Kind.{Kind}
use Rattle.ceu_syntax.specs.declared.terminal.Kind.TheVariants as k
use Rattle.ceu_syntax.specs.declared.machine.Body.{Body}
use Rattle.ceu_syntax.specs.declared.machine.Body.TheVariants as body
use Rattle.ceu_syntax.specs.declared.machine.Frame.{Frame}
use Rattle.ceu_syntax.specs.declared.machine.Frame.TheVariants as f
use Rattle.ceu_syntax.specs.declared.machine.Act.{Act}
use Rattle.ceu_syntax.specs.declared.machine.Act.TheVariants as act
use Rattle.ceu_syntax.specs.declared.machine.Acting.TheVariants as a
use Rattle.ceu_syntax.specs.declared.machine.Mode.{Mode}
use Rattle.ceu_syntax.specs.declared.machine.Mode.TheVariants as m
use Rattle.ceu_syntax.specs.Steps as spec
use Rattle.ceu_syntax.specs.Steps.{State, state, Gathered, Held, held}
use Rattle.ceu_syntax.specs.Trees.{ident, variable}

pub gathered : (stmt : Stmt) (frame : Frame) (K : List Frame) → ((x : List Node) (y : Pos) → frame ≡ f.Begun x y → ⊥) → spec.gathered stmt (frame ∷ K) ≡ None
gathered stmt (f.Begun x y) K n0 = absurd (n0 x y refl)
gathered stmt _ K n0 = refl

pub closed : (stmt : Stmt) (frame : Frame) (K : List Frame) → ((x : List Node) (y : Pos) → frame ≡ f.Begun x y → ⊥) → spec.closed stmt (frame ∷ K) ≡ None
closed stmt (f.Begun x y) K n0 = absurd (n0 x y refl)
closed stmt _ K n0 = refl

pub source_semicolon : (source : Source) (frame : Frame) (K : List Frame) → ((x : Ident) → frame ≡ f.Store x → ⊥) → ((x : Ty) (y : List Item) (z : Ident) → frame ≡ f.Initial x y z → ⊥) → spec.source_semicolon source (frame ∷ K) ≡ None
source_semicolon source (f.Store x) K n0 n1 = absurd (n0 x refl)
source_semicolon source (f.Initial x y z) K n0 n1 = absurd (n1 x y z refl)
source_semicolon source _ K n0 n1 = refl

pub source_comma : (source : Source) (frame : Frame) (K : List Frame) → ((x : Ty) (y : List Item) (z : Ident) → frame ≡ f.Initial x y z → ⊥) → spec.source_comma source (frame ∷ K) ≡ None
source_comma source (f.Initial x y z) K n0 = absurd (n0 x y z refl)
source_comma source _ K n0 = refl

pub alias_semicolon : (done : Act) (code name : Ident) (K : List Frame) → ((x : Spawn) → done ≡ act.Start x → ⊥) → spec.alias_semicolon done code name K ≡ None
alias_semicolon (act.Start x) code name K n0 = absurd (n0 x refl)
alias_semicolon _ code name K n0 = refl

pub act_semicolon : (done : Act) (frame : Frame) (K : List Frame) → ((x : List Node) (y : Pos) → frame ≡ f.Begun x y → ⊥) → ((x : Ident) (y : Ident) → frame ≡ f.Alias x y → ⊥) → spec.act_semicolon done (frame ∷ K) ≡ spec.source_semicolon (spec.source_of done) (frame ∷ K)
act_semicolon done (f.Begun x y) K n0 n1 = absurd (n0 x y refl)
act_semicolon done (f.Alias x y) K n0 n1 = absurd (n1 x y refl)
act_semicolon done _ K n0 n1 = refl

pub do_end : (done : Do) (frame : Frame) (K : List Frame) → ((x : List Node) (y : Pos) → frame ≡ f.Begun x y → ⊥) → ((x : Ident) → frame ≡ f.Store x → ⊥) → ((x : Ty) (y : List Item) (z : Ident) → frame ≡ f.Initial x y z → ⊥) → spec.do_end done (frame ∷ K) ≡ None
do_end done (f.Begun x y) K n0 n1 n2 = absurd (n0 x y refl)
do_end done (f.Store x) K n0 n1 n2 = absurd (n1 x refl)
do_end done (f.Initial x y z) K n0 n1 n2 = absurd (n2 x y z refl)
do_end done _ K n0 n1 n2 = refl

pub called : (code : Ident) (es : List Exp) (frame : Frame) (K : List Frame) → ((x : Pos) → frame ≡ f.Spawn x → ⊥) → spec.called code es (frame ∷ K) ≡ Some (state (frame ∷ K) (spec.awaited_call code es))
called code es (f.Spawn x) K n0 = absurd (n0 x refl)
called code es _ K n0 = refl

pub aimed : (t : Target) (frame : Frame) (K : List Frame) → ((x : Option Ident) → frame ≡ f.Every x → ⊥) → (frame ≡ f.Watching → ⊥) → spec.aimed t (frame ∷ K) ≡ Some (state (frame ∷ K) (m.Acting (a.AwaitEnd t)))
aimed t (f.Every x) K n0 n1 = absurd (n0 x refl)
aimed t f.Watching K n0 n1 = absurd (n1 refl)
aimed t _ K n0 n1 = refl

pub of_end : (ns : List Node) (frame : Frame) (K : List Frame) → ((x : Body) → frame ≡ f.Body x → ⊥) → spec.of_end ns (frame ∷ K) ≡ None
of_end ns (f.Body x) K n0 = absurd (n0 x refl)
of_end ns _ K n0 = refl

pub reduce : (p : ℕ) (e : Exp) (frame : Frame) (K : List Frame) → ((x : Op2) (y : Pos) (z : Exp) → frame ≡ f.Binary x y z → ⊥) → ((x : Op1) (y : Pos) → frame ≡ f.Prefix x y → ⊥) → spec.reduce p e (frame ∷ K) ≡ held e (frame ∷ K)
reduce p e (f.Binary x y z) K n0 n1 = absurd (n0 x y z refl)
reduce p e (f.Prefix x y) K n0 n1 = absurd (n1 x y refl)
reduce p e _ K n0 n1 = refl

pub operand : (kind : Kind) (at : Pos) (K : List Frame) → ((x : ℕ) → kind ≡ k.Number x → ⊥) → ((x : List ℕ) → kind ≡ k.Lower x → ⊥) → ((x : Bool) → kind ≡ k.Truth x → ⊥) → (kind ≡ k.Outer → ⊥) → (kind ≡ k.OpenParen → ⊥) → spec.operand kind at K ≡ None
operand (k.Number x) at K n0 n1 n2 n3 n4 = absurd (n0 x refl)
operand (k.Lower x) at K n0 n1 n2 n3 n4 = absurd (n1 x refl)
operand (k.Truth x) at K n0 n1 n2 n3 n4 = absurd (n2 x refl)
operand k.Outer at K n0 n1 n2 n3 n4 = absurd (n3 refl)
operand k.OpenParen at K n0 n1 n2 n3 n4 = absurd (n4 refl)
operand _ at K n0 n1 n2 n3 n4 = refl

pub ends_paren : (e : Exp) (frame : Frame) (K : List Frame) → ((x : Pos) → frame ≡ f.Paren x → ⊥) → ((x : Ident) (y : List Exp) → frame ≡ f.Arguments x y → ⊥) → ((x : Ident) → frame ≡ f.Emit x → ⊥) → (frame ≡ f.Time → ⊥) → spec.ends_paren e (frame ∷ K) ≡ None
ends_paren e (f.Paren x) K n0 n1 n2 n3 = absurd (n0 x refl)
ends_paren e (f.Arguments x y) K n0 n1 n2 n3 = absurd (n1 x y refl)
ends_paren e (f.Emit x) K n0 n1 n2 n3 = absurd (n2 x refl)
ends_paren e f.Time K n0 n1 n2 n3 = absurd (n3 refl)
ends_paren e _ K n0 n1 n2 n3 = refl

pub ends_semicolon : (e : Exp) (frame : Frame) (K : List Frame) → ((x : Target) → frame ≡ f.Until x → ⊥) → ((x : Option Ident) → frame ≡ f.Escape x → ⊥) → spec.ends_semicolon e (frame ∷ K) ≡ spec.source_semicolon (source.Value e) (frame ∷ K)
ends_semicolon e (f.Until x) K n0 n1 = absurd (n0 x refl)
ends_semicolon e (f.Escape x) K n0 n1 = absurd (n1 x refl)
ends_semicolon e _ K n0 n1 = refl

pub ends_comma : (e : Exp) (frame : Frame) (K : List Frame) → ((x : Ident) (y : List Exp) → frame ≡ f.Arguments x y → ⊥) → ((x : Target) → frame ≡ f.Until x → ⊥) → spec.ends_comma e (frame ∷ K) ≡ spec.source_comma (source.Value e) (frame ∷ K)
ends_comma e (f.Arguments x y) K n0 n1 = absurd (n0 x y refl)
ends_comma e (f.Until x) K n0 n1 = absurd (n1 x refl)
ends_comma e _ K n0 n1 = refl

pub ends_condition : (e : Exp) (frame : Frame) (K : List Frame) → ((x : List Arm) → frame ≡ f.Condition x → ⊥) → spec.ends_condition e (frame ∷ K) ≡ None
ends_condition e (f.Condition x) K n0 = absurd (n0 x refl)
ends_condition e _ K n0 = refl

pub ends_arrow : (e : Exp) (frame : Frame) (K : List Frame) → ((x : Ident) (y : Bool) → frame ≡ f.RangeFrom x y → ⊥) → spec.ends_arrow e (frame ∷ K) ≡ None
ends_arrow e (f.RangeFrom x y) K n0 = absurd (n0 x y refl)
ends_arrow e _ K n0 = refl

pub ends_bracket : (open_b : Bool) (e : Exp) (frame : Frame) (K : List Frame) → ((x : Ident) (y : Bool) (z : Exp) → frame ≡ f.RangeTo x y z → ⊥) → spec.ends_bracket open_b e (frame ∷ K) ≡ None
ends_bracket open_b e (f.RangeTo x y z) K n0 = absurd (n0 x y z refl)
ends_bracket open_b e _ K n0 = refl

pub ends : (kind : Kind) (at : Pos) (h : Held) → (kind ≡ k.As → ⊥) → (kind ≡ k.Then → ⊥) → (kind ≡ k.CloseParen → ⊥) → (kind ≡ k.Semicolon → ⊥) → (kind ≡ k.Comma → ⊥) → (kind ≡ k.Arrow → ⊥) → (kind ≡ k.CloseBracket → ⊥) → (kind ≡ k.OpenBracket → ⊥) → spec.ends kind at h ≡ None
ends k.As at h n0 n1 n2 n3 n4 n5 n6 n7 = absurd (n0 refl)
ends k.Then at h n0 n1 n2 n3 n4 n5 n6 n7 = absurd (n1 refl)
ends k.CloseParen at h n0 n1 n2 n3 n4 n5 n6 n7 = absurd (n2 refl)
ends k.Semicolon at h n0 n1 n2 n3 n4 n5 n6 n7 = absurd (n3 refl)
ends k.Comma at h n0 n1 n2 n3 n4 n5 n6 n7 = absurd (n4 refl)
ends k.Arrow at h n0 n1 n2 n3 n4 n5 n6 n7 = absurd (n5 refl)
ends k.CloseBracket at h n0 n1 n2 n3 n4 n5 n6 n7 = absurd (n6 refl)
ends k.OpenBracket at h n0 n1 n2 n3 n4 n5 n6 n7 = absurd (n7 refl)
ends _ at h n0 n1 n2 n3 n4 n5 n6 n7 = refl

pub of_named : (kind : Kind) (at : Pos) (x : List ℕ) (before : Pos) (K : List Frame) → (kind ≡ k.Question → ⊥) → spec.of_named kind at x before K ≡ spec.follows kind at (variable (ident x before)) K
of_named k.Question at x before K n0 = absurd (n0 refl)
of_named _ at x before K n0 = refl

pub of_cast : (kind : Kind) (at : Pos) (e : Exp) (K : List Frame) → ((x : Ty) → kind ≡ k.Type x → ⊥) → spec.of_cast kind at e K ≡ None
of_cast (k.Type x) at e K n0 = absurd (n0 x refl)
of_cast _ at e K n0 = refl

pub of_with_body : (ns : List Node) (closing : Body) (K : List Frame) → ((x : ParKind) → closing ≡ body.FirstBranch x → ⊥) → ((x : ParKind) (y : List Block) → closing ≡ body.Branch x y → ⊥) → spec.of_with ns (f.Body closing ∷ K) ≡ None
of_with_body ns (body.FirstBranch x) K n0 n1 = absurd (n0 x refl)
of_with_body ns (body.Branch x y) K n0 n1 = absurd (n1 x y refl)
of_with_body ns _ K n0 n1 = refl

pub of_with : (ns : List Node) (frame : Frame) (K : List Frame) → ((x : Body) → frame ≡ f.Body x → ⊥) → spec.of_with ns (frame ∷ K) ≡ None
of_with ns (f.Body x) K n0 = absurd (n0 x refl)
of_with ns _ K n0 = refl

pub of_else_body : (ns : List Node) (closing : Body) (K : List Frame) → ((x : List Arm) (y : Exp) → closing ≡ body.Arm x y → ⊥) → spec.of_else ns (f.Body closing ∷ K) ≡ None
of_else_body ns (body.Arm x y) K n0 = absurd (n0 x y refl)
of_else_body ns _ K n0 = refl

pub of_else : (ns : List Node) (frame : Frame) (K : List Frame) → ((x : Body) → frame ≡ f.Body x → ⊥) → spec.of_else ns (frame ∷ K) ≡ None
of_else ns (f.Body x) K n0 = absurd (n0 x refl)
of_else ns _ K n0 = refl

pub of_block : (kind : Kind) (at : Pos) (ns : List Node) (K : List Frame) → (kind ≡ k.Semicolon → ⊥) → ((x : List ℕ) → kind ≡ k.Lower x → ⊥) → (kind ≡ k.End → ⊥) → (kind ≡ k.With → ⊥) → (kind ≡ k.Else → ⊥) → (kind ≡ k.Outer → ⊥) → (kind ≡ k.Spawn → ⊥) → (kind ≡ k.If → ⊥) → (kind ≡ k.Watching → ⊥) → spec.of_block kind at ns K ≡ spec.headed (spec.head kind) at ns K
of_block k.Semicolon at ns K n0 n1 n2 n3 n4 n5 n6 n7 n8 = absurd (n0 refl)
of_block (k.Lower x) at ns K n0 n1 n2 n3 n4 n5 n6 n7 n8 = absurd (n1 x refl)
of_block k.End at ns K n0 n1 n2 n3 n4 n5 n6 n7 n8 = absurd (n2 refl)
of_block k.With at ns K n0 n1 n2 n3 n4 n5 n6 n7 n8 = absurd (n3 refl)
of_block k.Else at ns K n0 n1 n2 n3 n4 n5 n6 n7 n8 = absurd (n4 refl)
of_block k.Outer at ns K n0 n1 n2 n3 n4 n5 n6 n7 n8 = absurd (n5 refl)
of_block k.Spawn at ns K n0 n1 n2 n3 n4 n5 n6 n7 n8 = absurd (n6 refl)
of_block k.If at ns K n0 n1 n2 n3 n4 n5 n6 n7 n8 = absurd (n7 refl)
of_block k.Watching at ns K n0 n1 n2 n3 n4 n5 n6 n7 n8 = absurd (n8 refl)
of_block _ at ns K n0 n1 n2 n3 n4 n5 n6 n7 n8 = refl

pub of_target : (kind : Kind) (at : Pos) (K : List Frame) → ((x : List ℕ) → kind ≡ k.Ext x → ⊥) → ((x : List ℕ) → kind ≡ k.Lower x → ⊥) → ((x : ℕ) → kind ≡ k.Time x → ⊥) → (kind ≡ k.OpenParen → ⊥) → (kind ≡ k.Outer → ⊥) → spec.of_target kind at K ≡ None
of_target (k.Ext x) at K n0 n1 n2 n3 n4 = absurd (n0 x refl)
of_target (k.Lower x) at K n0 n1 n2 n3 n4 = absurd (n1 x refl)
of_target (k.Time x) at K n0 n1 n2 n3 n4 = absurd (n2 x refl)
of_target k.OpenParen at K n0 n1 n2 n3 n4 = absurd (n3 refl)
of_target k.Outer at K n0 n1 n2 n3 n4 = absurd (n4 refl)
of_target _ at K n0 n1 n2 n3 n4 = refl

pub in_statement : (mode : Mode) (frame : Frame) (K : List Frame) → ((x : List Node) (y : Pos) → frame ≡ f.Begun x y → ⊥) → spec.in_statement mode (frame ∷ K) ≡ None
in_statement mode (f.Begun x y) K n0 = absurd (n0 x y refl)
in_statement mode _ K n0 = refl

pub of_await : (kind : Kind) (at : Pos) (K : List Frame) → (kind ≡ k.Forever → ⊥) → (kind ≡ k.Async → ⊥) → ((x : List ℕ) → kind ≡ k.Abs x → ⊥) → spec.of_await kind at K ≡ spec.of_target kind at K
of_await k.Forever at K n0 n1 n2 = absurd (n0 refl)
of_await k.Async at K n0 n1 n2 = absurd (n1 refl)
of_await (k.Abs x) at K n0 n1 n2 = absurd (n2 x refl)
of_await _ at K n0 n1 n2 = refl

pub of_source : (kind : Kind) (at : Pos) (K : List Frame) → (kind ≡ k.Await → ⊥) → (kind ≡ k.Spawn → ⊥) → (kind ≡ k.Do → ⊥) → spec.of_source kind at K ≡ spec.starts kind at K
of_source k.Await at K n0 n1 n2 = absurd (n0 refl)
of_source k.Spawn at K n0 n1 n2 = absurd (n1 refl)
of_source k.Do at K n0 n1 n2 = absurd (n2 refl)
of_source _ at K n0 n1 n2 = refl

pub of_arguments : (kind : Kind) (at : Pos) (code : Ident) (K : List Frame) → (kind ≡ k.CloseParen → ⊥) → spec.of_arguments kind at code K ≡ spec.starts kind at (f.Arguments code [] ∷ K)
of_arguments k.CloseParen at code K n0 = absurd (n0 refl)
of_arguments _ at code K n0 = refl

pub of_emit_value : (kind : Kind) (at : Pos) (x : Ident) (K : List Frame) → (kind ≡ k.CloseParen → ⊥) → spec.of_emit_value kind at x K ≡ spec.starts kind at (f.Emit x ∷ K)
of_emit_value k.CloseParen at x K n0 = absurd (n0 refl)
of_emit_value _ at x K n0 = refl

pub of_escape : (kind : Kind) (at : Pos) (K : List Frame) → (kind ≡ k.Slash → ⊥) → (kind ≡ k.Semicolon → ⊥) → spec.of_escape kind at K ≡ spec.starts kind at (f.Escape None ∷ K)
of_escape k.Slash at K n0 n1 = absurd (n0 refl)
of_escape k.Semicolon at K n0 n1 = absurd (n1 refl)
of_escape _ at K n0 n1 = refl

pub of_escape_value : (kind : Kind) (at : Pos) (x : Ident) (K : List Frame) → (kind ≡ k.Semicolon → ⊥) → spec.of_escape_value kind at x K ≡ spec.starts kind at (f.Escape (Some x) ∷ K)
of_escape_value k.Semicolon at x K n0 = absurd (n0 refl)
of_escape_value _ at x K n0 = refl
