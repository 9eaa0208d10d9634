-- The rules on tokens and those on grammar: a text has a tree, or breaks one of them first.
use Rattle.std.specs.Prelude.{◌⊎◌, ℕ, List}
use Rattle.ceu_base.specs.declared.kinds.Pos.{Pos}
use Rattle.ceu_base.specs.declared.kinds.Rule.{Rule}
use Rattle.ceu_lex.specs.Texts.{Reads, Breaks}
use Rattle.ceu_lex.specs.declared.token.Token.{Token}
use Rattle.ceu_grammar.specs.Answers.{PlaceOf}
use Rattle.ceu_syntax.specs.Grammar.{Derives}
use Rattle.ceu_syntax.specs.Limits.{FirstBroken, WithinLimits}
use Rattle.ceu_syntax.specs.Terminals.{terminals}
use Rattle.ceu_tree.specs.declared.source.Tree.{Tree}
use Rattle.ceu_compile.specs.declared.errors.CompileError.{CompileError}
use Rattle.ceu_compile.specs.declared.errors.CompileError.TheVariants.{Refused, Memory}

-- The text has these tokens, and they derive this tree, within the limits on nesting and on operators.
abbrev pub HasTree : List ℕ → List Token → Tree → Type 0
HasTree text tokens tree = Reads text tokens × Derives text tokens tree × WithinLimits (terminals text tokens)

-- The rule on the grammar that the tokens break first, at this place, with so many tokens before.
abbrev pub IsWrong : List ℕ → List Token → Rule → Pos → ℕ → Type 0
IsWrong text tokens rule place before = FirstBroken (terminals text tokens) rule before × PlaceOf text tokens before place

-- The text breaks a rule on tokens, or its tokens break one on the grammar.
abbrev pub HasNoTree : List ℕ → Rule → Pos → Type 0
HasNoTree text rule place = Breaks text rule place ⊎ ((tokens : List Token) × (before : ℕ) × Reads text tokens × IsWrong text tokens rule place before)

-- Want of memory says nothing.
abbrev pub IsTreeRefusal : List ℕ → CompileError → Type 0
IsTreeRefusal text (Refused rule place) = HasNoTree text rule place
IsTreeRefusal text Memory = Unit {0}
