-- How reserved words, symbols and units are written.
use Rattle.std.specs.Prelude.{ℕ, List, [], ◌∷◌, codes}
use Rattle.ceu_lex.specs.declared.token.Word.{Word}
use Rattle.ceu_lex.specs.declared.token.Word.TheVariants as word
use Rattle.ceu_lex.specs.declared.token.Sym.{Sym}
use Rattle.ceu_lex.specs.declared.token.Sym.TheVariants as sym

abbrev pub Text : Type 0
Text = List ℕ

unfoldable pub reserved_words : List (Text × Word)
reserved_words =
    (codes "and", word.And) ∷ (codes "as", word.As) ∷ (codes "async", word.Async) ∷ (codes "await", word.Await) ∷
    (codes "bool", word.Bool) ∷ (codes "break", word.Break) ∷ (codes "byte", word.Byte) ∷ (codes "code", word.Code) ∷
    (codes "continue", word.Continue) ∷ (codes "do", word.Do) ∷ (codes "else", word.Else) ∷ (codes "emit", word.Emit) ∷
    (codes "end", word.End) ∷ (codes "escape", word.Escape) ∷ (codes "event", word.Event) ∷ (codes "every", word.Every) ∷
    (codes "false", word.False) ∷ (codes "finalize", word.Finalize) ∷ (codes "if", word.If) ∷ (codes "in", word.In) ∷
    (codes "input", word.Input) ∷ (codes "int", word.Int) ∷ (codes "kill", word.Kill) ∷ (codes "loop", word.Loop) ∷
    (codes "no", word.No) ∷ (codes "none", word.None) ∷ (codes "not", word.Not) ∷ (codes "nothing", word.Nothing) ∷
    (codes "off", word.Off) ∷ (codes "on", word.On) ∷ (codes "or", word.Or) ∷ (codes "outer", word.Outer) ∷
    (codes "output", word.Output) ∷ (codes "par", word.Par) ∷ (codes "pool", word.Pool) ∷ (codes "s16", word.S16) ∷
    (codes "s32", word.S32) ∷ (codes "s64", word.S64) ∷ (codes "s8", word.S8) ∷ (codes "spawn", word.Spawn) ∷
    (codes "then", word.Then) ∷ (codes "true", word.True) ∷ (codes "u16", word.U16) ∷ (codes "u32", word.U32) ∷
    (codes "u64", word.U64) ∷ (codes "u8", word.U8) ∷ (codes "uint", word.Uint) ∷ (codes "until", word.Until) ∷
    (codes "var", word.Var) ∷ (codes "void", word.Void) ∷ (codes "watching", word.Watching) ∷ (codes "with", word.With) ∷
    (codes "yes", word.Yes) ∷ (codes "FOREVER", word.Forever) ∷
    []

-- the longer ones first
unfoldable pub symbols : List (Text × Sym)
symbols =
    (codes "->", sym.Arrow) ∷ (codes "==", sym.Equal) ∷ (codes "!=", sym.NotEqual) ∷ (codes "<=", sym.LessEqual) ∷
    (codes ">=", sym.GreaterEqual) ∷ (codes "<<", sym.ShiftLeft) ∷ (codes ">>", sym.ShiftRight) ∷ (codes "(", sym.OpenParen) ∷
    (codes ")", sym.CloseParen) ∷ (codes "[", sym.OpenBracket) ∷ (codes "]", sym.CloseBracket) ∷ (codes ",", sym.Comma) ∷
    (codes ";", sym.Semicolon) ∷ (codes "=", sym.Assign) ∷ (codes ".", sym.Dot) ∷ (codes "?", sym.Question) ∷
    (codes "/", sym.Slash) ∷ (codes "<", sym.Less) ∷ (codes ">", sym.Greater) ∷ (codes "+", sym.Plus) ∷
    (codes "-", sym.Minus) ∷ (codes "*", sym.Star) ∷ (codes "%", sym.Percent) ∷ (codes "|", sym.Bar) ∷
    (codes "^", sym.Caret) ∷ (codes "&", sym.Ampersand) ∷ (codes "~", sym.Tilde) ∷
    []

-- the units of time in their order, with their microseconds
unfoldable pub units : List (Text × ℕ)
units =
    (codes "h", 3600000000) ∷ (codes "min", 60000000) ∷ (codes "s", 1000000) ∷ (codes "ms", 1000) ∷ (codes "us", 1) ∷
    []
