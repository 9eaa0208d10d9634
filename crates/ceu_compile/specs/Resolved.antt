-- The rules on names and then those on types.
use Rattle.std.specs.Prelude.{◌≡◌, ◌⊎◌, List, Ok, Err}
use Rattle.ceu_base.specs.declared.kinds.CheckError.TheVariants as checking
use Rattle.ceu_base.specs.declared.kinds.Pos.{Pos}
use Rattle.ceu_base.specs.declared.kinds.Rule.{Rule}
use Rattle.ceu_base.specs.declared.kinds.Ty.{Ty}
use Rattle.ceu_scopes.specs.Names.{scopes_of}
use Rattle.ceu_scopes.specs.declared.known.Scopes.{Scopes}
use Rattle.ceu_tree.specs.declared.source.Tree.{Tree}
use Rattle.ceu_types.specs.Statements.{types_of}
use Rattle.ceu_compile.specs.declared.errors.CompileError.{CompileError}
use Rattle.ceu_compile.specs.declared.errors.CompileError.TheVariants.{Refused, Memory}

-- The tree breaks no rule on names and none on types; these are the declarations of its names and the types of its expressions.
abbrev pub IsResolved : Tree → Scopes → List Ty → Type 0
IsResolved tree scopes types = (scopes_of tree ≡ Ok scopes) × (types_of scopes tree ≡ Ok types)

-- The tree breaks this rule on names first; or it breaks none of these, and this rule on types first.
abbrev pub BreaksNamesOrTypes : Tree → Rule → Pos → Type 0
BreaksNamesOrTypes tree rule place = (scopes_of tree ≡ Err (rule, place))
    ⊎ ((scopes : Scopes) × (scopes_of tree ≡ Ok scopes) × (types_of scopes tree ≡ Err (checking.Refused rule place)))

-- Want of memory says nothing.
abbrev pub IsUnresolved : Tree → CompileError → Type 0
IsUnresolved tree (Refused rule place) = BreaksNamesOrTypes tree rule place
IsUnresolved tree Memory = Unit {0}
