-- What the declaration of a name's use says. A use is told by its place in the list of uses.
use Rattle.std.specs.Prelude.{ℕ, ◌+◌, ◌==◌, Bool, true, false, if◌then◌else◌, List, [], ◌∷◌, drop, slice_get, Option, Some, None}
use Rattle.ceu_base.specs.declared.kinds.Ty.{Ty}
use Rattle.ceu_base.specs.declared.kinds.Ty.TheVariants as ty
use Rattle.ceu_tree.specs.declared.source.Class.{Class}
use Rattle.ceu_tree.specs.declared.source.Class.TheVariants.{Output, Param}
use Rattle.ceu_tree.specs.declared.source.Decl.{Decl}
use Rattle.ceu_scopes.specs.declared.known.Scopes.{Scopes}

abbrev pub type_of_decl : Option Decl → Ty
type_of_decl None = ty.None
type_of_decl (Some d) = d.ty

abbrev pub type_at : List Decl → Option ℕ → Ty
type_at ds None = ty.None
type_at ds (Some n) = type_of_decl (slice_get ds n)

-- the declared type: of code the type of its result
unfoldable pub use_type : Scopes → ℕ → Ty
use_type s k = type_at s.decls (slice_get s.uses k)

abbrev pub is_output : Class → Bool
is_output Output = true
is_output _ = false

abbrev pub is_output_decl : Option Decl → Bool
is_output_decl None = false
is_output_decl (Some d) = is_output d.class

abbrev pub is_output_at : List Decl → Option ℕ → Bool
is_output_at ds None = false
is_output_at ds (Some n) = is_output_decl (slice_get ds n)

unfoldable pub is_output_use : Scopes → ℕ → Bool
is_output_use s k = is_output_at s.decls (slice_get s.uses k)

abbrev pub is_parameter : Class → Bool
is_parameter Param = true
is_parameter _ = false

-- how many parameters a list of declarations begins with
abbrev pub leading_parameters : List Decl → ℕ
leading_parameters [] = 0
leading_parameters (d ∷ ds) = if is_parameter d.class then 1 + leading_parameters ds else 0

-- the declarations behind this one
abbrev pub behind : List Decl → Option ℕ → List Decl
behind ds None = []
behind ds (Some n) = drop (n + 1) ds

abbrev pub has_leading : ℕ → List Decl → Bool
has_leading n ds = n == leading_parameters ds

-- the parameters of code are declared behind it
unfoldable pub has_parameters : Scopes → ℕ → ℕ → Bool
has_parameters s k n = has_leading n (behind s.decls (slice_get s.uses k))

-- the type of a parameter, counted from 0
unfoldable pub parameter_type : Scopes → ℕ → ℕ → Ty
parameter_type s k i = type_of_decl (slice_get (behind s.decls (slice_get s.uses k)) i)
