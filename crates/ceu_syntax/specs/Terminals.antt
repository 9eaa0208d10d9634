-- Tokens as the grammar sees them.
use Rattle.std.specs.Prelude.{ℕ, ◌-◌, Bool, true, false, List, [], ◌∷◌, map, take, drop, Option, Some, None, if◌then◌else◌, nat_le}
use Rattle.ceu_base.specs.declared.kinds.Pos.{Pos}
use Rattle.ceu_base.specs.declared.kinds.Op1.{Op1}
use Rattle.ceu_base.specs.declared.kinds.Op1.TheVariants as op1
use Rattle.ceu_base.specs.declared.kinds.Op2.{Op2}
use Rattle.ceu_base.specs.declared.kinds.Op2.TheVariants as op2
use Rattle.ceu_base.specs.declared.kinds.Ty.TheVariants as ty
use Rattle.ceu_lex.specs.declared.token.Token.{Token}
use Rattle.ceu_lex.specs.declared.token.TokenKind.{TokenKind}
use Rattle.ceu_lex.specs.declared.token.TokenKind.TheVariants as lexed
use Rattle.ceu_lex.specs.declared.token.Word.{Word}
use Rattle.ceu_lex.specs.declared.token.Word.TheVariants as w
use Rattle.ceu_lex.specs.declared.token.Sym.{Sym}
use Rattle.ceu_lex.specs.declared.token.Sym.TheVariants as s
use Rattle.ceu_tree.specs.declared.kernel.Unit.{Unit as TimeUnit}
use Rattle.ceu_tree.specs.declared.kernel.Unit.TheVariants as unit
use Rattle.ceu_syntax.specs.declared.terminal.Kind.{Kind}
use Rattle.ceu_syntax.specs.declared.terminal.Kind.TheVariants as k
use Rattle.ceu_syntax.specs.declared.terminal.Terminal.{Terminal}

-- ---- the tokens of a text

-- the bytes of a token
abbrev pub letters : List ℕ → Token → List ℕ
letters text token = take (token.end - token.start) (drop token.start text)

abbrev pub of_word : Word → Kind
of_word w.And = k.And
of_word w.As = k.As
of_word w.Async = k.Async
of_word w.Await = k.Await
of_word w.Break = k.Break
of_word w.Code = k.Code
of_word w.Continue = k.Continue
of_word w.Do = k.Do
of_word w.Else = k.Else
of_word w.Emit = k.Emit
of_word w.End = k.End
of_word w.Escape = k.Escape
of_word w.Event = k.Event
of_word w.Every = k.Every
of_word w.Finalize = k.Finalize
of_word w.If = k.If
of_word w.In = k.In
of_word w.Input = k.Input
of_word w.Kill = k.Kill
of_word w.Loop = k.Loop
of_word w.Not = k.Not
of_word w.Nothing = k.Nothing
of_word w.Or = k.Or
of_word w.Outer = k.Outer
of_word w.Output = k.Output
of_word w.Par = k.Par
of_word w.Pool = k.Pool
of_word w.Spawn = k.Spawn
of_word w.Then = k.Then
of_word w.Until = k.Until
of_word w.Var = k.Var
of_word w.Watching = k.Watching
of_word w.With = k.With
of_word w.Forever = k.Forever
of_word w.None = k.Type ty.None
of_word w.Void = k.Type ty.None
of_word w.Bool = k.Type ty.Bool
of_word w.Byte = k.Type ty.U8
of_word w.U8 = k.Type ty.U8
of_word w.S8 = k.Type ty.S8
of_word w.U16 = k.Type ty.U16
of_word w.S16 = k.Type ty.S16
of_word w.Uint = k.Type ty.U32
of_word w.U32 = k.Type ty.U32
of_word w.Int = k.Type ty.S32
of_word w.S32 = k.Type ty.S32
of_word w.U64 = k.Type ty.U64
of_word w.S64 = k.Type ty.S64
of_word w.True = k.Truth true
of_word w.On = k.Truth true
of_word w.Yes = k.Truth true
of_word w.False = k.Truth false
of_word w.Off = k.Truth false
of_word w.No = k.Truth false

abbrev pub of_symbol : Sym → Kind
of_symbol s.Arrow = k.Arrow
of_symbol s.Equal = k.Equal
of_symbol s.NotEqual = k.NotEqual
of_symbol s.LessEqual = k.LessEqual
of_symbol s.GreaterEqual = k.GreaterEqual
of_symbol s.ShiftLeft = k.ShiftLeft
of_symbol s.ShiftRight = k.ShiftRight
of_symbol s.OpenParen = k.OpenParen
of_symbol s.CloseParen = k.CloseParen
of_symbol s.OpenBracket = k.OpenBracket
of_symbol s.CloseBracket = k.CloseBracket
of_symbol s.Comma = k.Comma
of_symbol s.Semicolon = k.Semicolon
of_symbol s.Assign = k.Assign
of_symbol s.Dot = k.Dot
of_symbol s.Question = k.Question
of_symbol s.Slash = k.Slash
of_symbol s.Less = k.Less
of_symbol s.Greater = k.Greater
of_symbol s.Plus = k.Plus
of_symbol s.Minus = k.Minus
of_symbol s.Star = k.Star
of_symbol s.Percent = k.Percent
of_symbol s.Bar = k.Bar
of_symbol s.Caret = k.Caret
of_symbol s.Ampersand = k.Ampersand
of_symbol s.Tilde = k.Tilde

abbrev pub kind_of : TokenKind → List ℕ → Kind
kind_of (lexed.Reserved word) name = of_word word
kind_of lexed.Lower name = k.Lower name
kind_of lexed.Ext name = k.Ext name
kind_of lexed.Abs name = k.Abs name
kind_of lexed.Under name = k.Under
kind_of (lexed.Number n) name = k.Number n
kind_of (lexed.Time n) name = k.Time n
kind_of (lexed.Symbol symbol) name = of_symbol symbol

abbrev pub terminal : List ℕ → Token → Terminal
terminal text token = record { kind = kind_of token.kind (letters text token); pos = token.pos }

abbrev pub terminals : List ℕ → List Token → List Terminal
terminals text tokens = map (terminal text) tokens

-- ---- tokens at a place

abbrev pub token : Kind → Pos → Terminal
token kind at = record { kind = kind; pos = at }

abbrev pub lower : List ℕ → Pos → Terminal
lower x at = token (k.Lower x) at

abbrev pub ext : List ℕ → Pos → Terminal
ext x at = token (k.Ext x) at

abbrev pub abs : List ℕ → Pos → Terminal
abs x at = token (k.Abs x) at

abbrev pub digits : ℕ → Pos → Terminal
digits n at = token (k.Number n) at

-- ---- tables

abbrev pub binary_of : Kind → Option Op2
binary_of k.Or = Some op2.Or
binary_of k.And = Some op2.And
binary_of k.Equal = Some op2.Eq
binary_of k.NotEqual = Some op2.Ne
binary_of k.Less = Some op2.Lt
binary_of k.Greater = Some op2.Gt
binary_of k.LessEqual = Some op2.Le
binary_of k.GreaterEqual = Some op2.Ge
binary_of k.Bar = Some op2.BitOr
binary_of k.Caret = Some op2.BitXor
binary_of k.Ampersand = Some op2.BitAnd
binary_of k.ShiftLeft = Some op2.Shl
binary_of k.ShiftRight = Some op2.Shr
binary_of k.Plus = Some op2.Add
binary_of k.Minus = Some op2.Sub
binary_of k.Star = Some op2.Mul
binary_of k.Slash = Some op2.Div
binary_of k.Percent = Some op2.Rem
binary_of _ = None

abbrev pub prefix_of : Kind → Option Op1
prefix_of k.Not = Some op1.Not
prefix_of k.Minus = Some op1.Neg
prefix_of k.Tilde = Some op1.Compl
prefix_of _ = None

-- How tight a binary operator binds. `as` has level 0, the prefixes have 10.
abbrev pub level : Op2 → ℕ
level op2.Or = 1
level op2.And = 2
level op2.Eq = 3
level op2.Ne = 3
level op2.Lt = 3
level op2.Gt = 3
level op2.Le = 3
level op2.Ge = 3
level op2.BitOr = 4
level op2.BitXor = 5
level op2.BitAnd = 6
level op2.Shl = 7
level op2.Shr = 7
level op2.Add = 8
level op2.Sub = 8
level op2.Mul = 9
level op2.Div = 9
level op2.Rem = 9

-- `h`, `min`, `s`, `ms`, `us`
abbrev pub unit_name : TimeUnit → List ℕ
unit_name unit.H = 104 ∷ []
unit_name unit.Min = 109 ∷ 105 ∷ 110 ∷ []
unit_name unit.S = 115 ∷ []
unit_name unit.Ms = 109 ∷ 115 ∷ []
unit_name unit.Us = 117 ∷ 115 ∷ []

-- the brackets of a range, by whether the end beside it is left out
abbrev pub left_bracket : Bool → Kind
left_bracket false = k.OpenBracket
left_bracket true = k.CloseBracket

abbrev pub right_bracket : Bool → Kind
right_bracket false = k.CloseBracket
right_bracket true = k.OpenBracket

-- a literal count, at most 4,294,967,295
abbrev pub saturated : ℕ → ℕ
saturated n = if nat_le n 4294967295 then n else 4294967295
