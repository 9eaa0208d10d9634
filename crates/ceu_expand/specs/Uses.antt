-- What the next use of a name stands for.
use Rattle.std.specs.Prelude.{ℕ, ◌+◌, Bool, true, false, if◌then◌else◌, List, [], ◌∷◌, slice_get, Option, Some, None, unwrap_or, bytes_eq}
use Rattle.ceu_base.specs.declared.kinds.Ty.{Ty}
use Rattle.ceu_base.specs.declared.kinds.Ty.TheVariants as ty
use Rattle.ceu_tree.specs.declared.source.Class.{Class}
use Rattle.ceu_tree.specs.declared.source.Class.TheVariants.{Output}
use Rattle.ceu_tree.specs.declared.source.Decl.{Decl}
use Rattle.ceu_tree.specs.declared.source.Ident.{Ident}
use Rattle.ceu_tree.specs.declared.kernel.Loc.{Loc}
use Rattle.ceu_scopes.specs.declared.known.Scopes.{Scopes}
use Rattle.ceu_expand.specs.declared.around.Around.{Around}
use Rattle.ceu_expand.specs.declared.draft.Draft.{Draft}
use Rattle.ceu_expand.specs.declared.draft.LabelNode.{LabelNode}

-- the declaration of a use, which is told by its place among the uses
abbrev pub decl_at : List Decl → Option ℕ → Option Decl
decl_at ds None = None
decl_at ds (Some n) = slice_get ds n

abbrev pub decl_of : Scopes → ℕ → Option Decl
decl_of s k = decl_at s.decls (slice_get s.uses k)

abbrev pub is_output : Class → Bool
is_output Output = true
is_output _ = false

abbrev pub is_output_decl : Option Decl → Bool
is_output_decl None = false
is_output_decl (Some d) = is_output d.class

abbrev pub names_output : Scopes → ℕ → Bool
names_output s k = is_output_decl (decl_of s k)

abbrev pub type_of_decl : Option Decl → Ty
type_of_decl None = ty.None
type_of_decl (Some d) = d.ty

abbrev pub type_at : Scopes → ℕ → Ty
type_at s k = type_of_decl (decl_of s k)

abbrev pub number_at : List ℕ → Option ℕ → ℕ
number_at ns None = 0
number_at ns (Some n) = unwrap_or (slice_get ns n) 0

-- what a use stands for: the number of a slot, an input, an output, an event or a code
abbrev pub number_of : Scopes → List ℕ → ℕ → ℕ
number_of s numbers k = number_at numbers (slice_get s.uses k)

unfoldable pub use_number : Scopes → Draft → ℕ
use_number s d = number_of s d.numbers d.uses

-- the next use is passed
unfoldable pub used : Draft → Draft
used d = record d { uses = d.uses + 1 }

-- the variable that the next use names
unfoldable pub variable : Scopes → Ident → Draft → Loc
variable s x d = record { outer = x.outer; slot = use_number s d; ty = type_at s d.uses }

abbrev pub if_variable : Scopes → Option Ident → Draft → Option Loc
if_variable s None d = None
if_variable s (Some x) d = Some (variable s x d)

abbrev pub if_used : Option Ident → Draft → Draft
if_used None d = d
if_used (Some x) d = used d

unfoldable pub node_or : LabelNode → List ℕ → ℕ → ℕ
node_or l x node = if bytes_eq l.name x then l.node else node

-- the node of the innermost `do` with a label, which stands last, or else this one
unfoldable pub label_node : List LabelNode → List ℕ → ℕ → ℕ
label_node [] x node = node
label_node (l ∷ ls) x node = label_node ls x (node_or l x node)

-- the node that an escape leaves
unfoldable pub target : Around → Option Ident → Draft → ℕ
target a None d = a.plain
target a (Some l) d = label_node d.labels l.name 0
