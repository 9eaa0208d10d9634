-- What a walk through a program notes on its way.
use Rattle.std.specs.Prelude.{ℕ, ◌+◌, Bool, true, if◌then◌else◌, nat_lt, [], ◌∷◌, ◌++◌, length, Option, Some, None}
use Rattle.ceu_base.specs.declared.kinds.Ty.{Ty}
use Rattle.ceu_base.specs.declared.kinds.Pos.{Pos}
use Rattle.ceu_base.specs.declared.kinds.Rule.{Rule}
use Rattle.ceu_scopes.specs.declared.known.Scopes.{Scopes}
use Rattle.ceu_types.specs.Ranks.{lower}
use Rattle.ceu_types.specs.Places.{first, at_place}
use Rattle.ceu_types.specs.declared.found.Found.{Found}
use Rattle.ceu_types.specs.declared.found.Broken.{Broken}

-- the rule is broken at this place, unless the test holds
unfoldable pub asks : Bool → Rule → Pos → Found → Found
asks test r p f = if test then f else record f { broken = first f.broken (Some (record { rule = r; pos = p })) }

-- the rule is broken at the first token of the statement, unless the test holds; the lowest counts there
unfoldable pub asks_own : Bool → Rule → Found → Found
asks_own test r f = if test then f else record f { own = Some (lower f.own r) }

-- the next expression has this type
unfoldable pub typed : Ty → Found → Found
typed t f = record f { types = f.types ++ t ∷ [] }

-- the place behind a use of a name in the list of uses
unfoldable pub past : Scopes → ℕ → ℕ
past s k = if nat_lt k (length s.uses) then k + 1 else k

-- goes past a use of a name
unfoldable pub passed : Scopes → Found → Found
passed s f = record f { names = past s f.names }

-- an `every`, an async, or a finalizer around it doesn't allow this
unfoldable pub not_in_every : Found → Found
not_in_every f = record f { beyond_every = true }

unfoldable pub not_in_async : Found → Found
not_in_async f = record f { beyond_async = true }

unfoldable pub not_in_finalizer : Found → Found
not_in_finalizer f = record f { beyond_finalizer = true }

-- a statement begins, of which nothing is noted yet
unfoldable pub begun : Found → Found
begun f = record f { own = None; broken = None }

-- a statement has ended: what was noted before it comes first, then the lowest rule at its first token, then its parts
unfoldable pub ended_after : Pos → Option Rule → Option Broken → Found → Found
ended_after p own broken f = record f { own = own; broken = first broken (first (at_place p f.own) f.broken) }

abbrev pub ended : Pos → Found → Found → Found
ended p before f = ended_after p before.own before.broken f
