-- How the number of operators goes on from token to token.
use Rattle.std.specs.Prelude.{ℕ, ◌+◌, Bool, true, false, is_some, if◌then◌else◌}
use Rattle.ceu_syntax.specs.declared.machine.Mode.{Mode}
use Rattle.ceu_syntax.specs.declared.terminal.Kind.{Kind}
use Rattle.ceu_syntax.specs.declared.terminal.Kind.TheVariants as k
use Rattle.ceu_syntax.specs.Limits.{last_operators}
use Rattle.ceu_syntax.specs.Terminals.{binary_of}

-- an operator, where it stands in an expression
abbrev pub is_operator : Kind → Bool
is_operator k.As = true
is_operator k.Question = true
is_operator k.Not = true
is_operator k.Tilde = true
is_operator kind = is_some (binary_of kind)

-- An expression that follows another one begins behind it.
abbrev pub begins_next : Kind → Bool
begins_next k.Comma = true
begins_next k.Arrow = true
begins_next _ = false

-- An expression is open, or may begin.
abbrev pub in_expression : Mode → Bool
in_expression mode = is_some (last_operators mode)

abbrev pub so_far : Kind → ℕ → ℕ
so_far kind n = if begins_next kind then 0 else n

-- the number behind a token, from the one before it
abbrev pub counted : Bool → Kind → ℕ → ℕ
counted false kind n = 0
counted true kind n = so_far kind n + (if is_operator kind then 1 else 0)
