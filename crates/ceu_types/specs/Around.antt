-- What stands around a statement, and what may leave it.
use Rattle.std.specs.Prelude.{ℕ, Bool, true, false, not, if◌then◌else◌, List, [], ◌∷◌, ◌++◌, Option, Some, None, bytes_eq}
use Rattle.std.specs.Option.{option_or}
use Rattle.ceu_base.specs.declared.kinds.Ty.{Ty}
use Rattle.ceu_base.specs.declared.kinds.Ty.TheVariants as ty
use Rattle.ceu_base.specs.declared.kinds.Rule.TheVariants.{T5}
use Rattle.ceu_tree.specs.declared.source.Ident.{Ident}
use Rattle.ceu_tree.specs.declared.source.Label.{Label}
use Rattle.ceu_tree.specs.declared.source.Label.TheVariants.{Plain, Under, Named}
use Rattle.ceu_tree.specs.declared.source.Exp.{Exp}
use Rattle.ceu_types.specs.declared.found.Found.{Found}
use Rattle.ceu_types.specs.declared.found.LabelTarget.{LabelTarget}
use Rattle.ceu_types.specs.declared.around.Around.{Around}
use Rattle.ceu_types.specs.Typing.{is_none_type}
use Rattle.ceu_types.specs.Notes.{asks_own, not_in_async}

-- the program's text, whose escapes give the program's status
abbrev pub program_around : Around
program_around = record { in_loop = false; plain = Some ty.S32 }

-- the body of code with this result
abbrev pub code_around : Ty → Around
code_around result = record { in_loop = false; plain = Some result }

-- an async, which nothing leaves
abbrev pub async_around : Around
async_around = record { in_loop = false; plain = None }

abbrev pub loop_around : Around → Around
loop_around a = record a { in_loop = true }

-- a `do` that takes a value of this type: one without a label is the target of plain escapes, `do/_` of none
unfoldable pub do_around : Label → Ty → Around → Around
do_around Plain t a = record a { plain = Some t }
do_around Under t a = a
do_around (Named l) t a = a

-- a `do` with a label begins and ends
unfoldable pub labelled : Label → Ty → Found → Found
labelled (Named l) t f = record f { labels = f.labels ++ record { name = l.name; takes = t } ∷ [] }
labelled Plain t f = f
labelled Under t f = f

abbrev pub all_but_last : List LabelTarget → List LabelTarget
all_but_last [] = []
all_but_last (l ∷ []) = []
all_but_last (l ∷ m ∷ ls) = l ∷ all_but_last (m ∷ ls)

unfoldable pub unlabelled : Label → Found → Found
unlabelled (Named l) f = record f { labels = all_but_last f.labels }
unlabelled Plain f = f
unlabelled Under f = f

abbrev pub takes_if_named : LabelTarget → List ℕ → Option Ty
takes_if_named l x = if bytes_eq l.name x then Some l.takes else None

-- what the `do` with this label takes, the innermost of several, which stands last
unfoldable pub label_takes : List LabelTarget → List ℕ → Option Ty
label_takes [] x = None
label_takes (l ∷ ls) x = option_or (label_takes ls x) (takes_if_named l x)

-- what the target of an escape takes, or none where it stands outside of an async
unfoldable pub target_takes : Around → Found → Option Ident → Option Ty
target_takes a f None = a.plain
target_takes a f (Some l) = label_takes f.labels l.name

-- an escape, as an emission, has a value exactly where its target takes one
unfoldable pub takes_value : Ty → Option Exp → Bool
takes_value t None = is_none_type t
takes_value t (Some e) = not (is_none_type t)

-- a break or a continue
unfoldable pub jumped : Around → Found → Found
jumped a f = if a.in_loop then f else not_in_async (asks_own false T5 f)

unfoldable pub escaped : Option Ty → Option Exp → Found → Found
escaped None e f = not_in_async (asks_own false T5 f)
escaped (Some t) e f = asks_own (takes_value t e) T5 f
