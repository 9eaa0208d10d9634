-- The tokens of names, operators and types. Each definition has the tokens that follow as its last argument, and puts its own before them.
use Rattle.std.specs.Prelude.{ℕ, Bool, true, false, List, ◌∷◌, Ok, Err}
use Rattle.ceu_base.specs.declared.kinds.Op1.{Op1}
use Rattle.ceu_base.specs.declared.kinds.Op1.TheVariants as op1
use Rattle.ceu_base.specs.declared.kinds.Op2.{Op2}
use Rattle.ceu_base.specs.declared.kinds.Op2.TheVariants as op2
use Rattle.ceu_lex.specs.declared.token.TokenKind.{TokenKind}
use Rattle.ceu_lex.specs.declared.token.TokenKind.TheVariants as lexed
use Rattle.ceu_lex.specs.Lexemes.{Lexeme, lexeme}
use Rattle.ceu_syntax.specs.declared.terminal.Kind.{Kind}
use Rattle.ceu_syntax.specs.declared.terminal.Kind.TheVariants as k
use Rattle.ceu_tree.specs.declared.kernel.ParKind.{ParKind}
use Rattle.ceu_tree.specs.declared.kernel.ParKind.TheVariants as par
use Rattle.ceu_tree.specs.declared.source.Ident.{Ident}

abbrev pub prefix_kind : Op1 → Kind
prefix_kind op1.Not = k.Not
prefix_kind op1.Neg = k.Minus
prefix_kind op1.Compl = k.Tilde

abbrev pub binary_kind : Op2 → Kind
binary_kind op2.Or = k.Or
binary_kind op2.And = k.And
binary_kind op2.Eq = k.Equal
binary_kind op2.Ne = k.NotEqual
binary_kind op2.Lt = k.Less
binary_kind op2.Gt = k.Greater
binary_kind op2.Le = k.LessEqual
binary_kind op2.Ge = k.GreaterEqual
binary_kind op2.BitOr = k.Bar
binary_kind op2.BitXor = k.Caret
binary_kind op2.BitAnd = k.Ampersand
binary_kind op2.Shl = k.ShiftLeft
binary_kind op2.Shr = k.ShiftRight
binary_kind op2.Add = k.Plus
binary_kind op2.Sub = k.Minus
binary_kind op2.Mul = k.Star
binary_kind op2.Div = k.Slash
binary_kind op2.Rem = k.Percent

abbrev pub par_kinds : ParKind → (after : List Kind) → List Kind
par_kinds par.Never after = k.Par ∷ k.Do ∷ after
par_kinds par.Or after = k.Par ∷ k.Slash ∷ k.Or ∷ k.Do ∷ after
par_kinds par.And after = k.Par ∷ k.Slash ∷ k.And ∷ k.Do ∷ after

abbrev pub outer_kinds : Bool → (after : List Kind) → List Kind
outer_kinds true after = k.Outer ∷ k.Dot ∷ after
outer_kinds false after = after

-- x, outer.x
abbrev pub lower_kinds : Ident → (after : List Kind) → List Kind
lower_kinds x after = outer_kinds x.outer (k.Lower x.name ∷ after)

abbrev pub ext_kinds : Ident → (after : List Kind) → List Kind
ext_kinds x after = outer_kinds x.outer (k.Ext x.name ∷ after)

abbrev pub abs_kinds : Ident → (after : List Kind) → List Kind
abs_kinds x after = outer_kinds x.outer (k.Abs x.name ∷ after)

-- What is emitted: an external event by its capitals, else an internal one.
abbrev pub of_class : TokenKind → List ℕ → Kind
of_class lexed.Ext x = k.Ext x
of_class _ x = k.Lower x

abbrev pub of_lexeme : Lexeme → List ℕ → Kind
of_lexeme (Ok token) x = of_class token.0 x
of_lexeme (Err rule) x = k.Lower x

unfoldable pub event_kind : List ℕ → Kind
event_kind x = of_lexeme (lexeme x) x

abbrev pub event_kinds : Ident → (after : List Kind) → List Kind
event_kinds x after = outer_kinds x.outer (event_kind x.name ∷ after)
