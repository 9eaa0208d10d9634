-- The command of a line. Its shapes are `NAME`, `NAME WORD`, `+WORD`, `idle` and `idle WORD`, with blanks or tabs between.
use Rattle.std.specs.Prelude.{ℕ, zero, suc, not, unsigned_abs, ℤ, pos, neg_ℤ, Bool, ◌&&◌, ◌||◌, ◌==◌, nat_lt, List, [], ◌∷◌, length, slice_index, Option, Some, None, Result, Ok, Err, option_map, if◌then◌else◌, codes, position, int_le}
use Rattle.std.specs.List.{list_all}
use Rattle.std.specs.Char.{is_ascii_digit, is_ascii_uppercase}
use Rattle.std.specs.Str.{bytes_eq}
use Rattle.ceu_base.specs.Values.{is_value}
use Rattle.ceu_base.specs.declared.kinds.Port.{Port}
use Rattle.ceu_base.specs.declared.kinds.Rule.{Rule}
use Rattle.ceu_base.specs.declared.kinds.Ty.{Ty}
use Rattle.ceu_base.specs.declared.kinds.Ty.TheVariants as type
use Rattle.ceu_lex.specs.Lexemes.{literal}
use Rattle.ceu_lex.specs.declared.token.TokenKind.{TokenKind}
use Rattle.ceu_lex.specs.declared.token.TokenKind.TheVariants.{Number, Time}
use Rattle.ceu_tree.specs.declared.command.Command.{Command}
use Rattle.ceu_tree.specs.declared.command.Command.TheVariants.{Input, Advance, Idle}
use Rattle.ceu_script.specs.Content.{first_word, after_word, leading_blanks}
use Rattle.ceu_script.specs.declared.items.BadKind.{BadKind}
use Rattle.ceu_script.specs.declared.items.BadKind.TheVariants as kind

abbrev pub all_digits : List ℕ → Bool
all_digits text = list_all (λ b. is_ascii_digit b) text

abbrev pub number_of : Result TokenKind Rule → Option ℕ
number_of (Ok (Number n)) = Some n
number_of other = None

-- decimal digits, for a number that 64 bits hold
abbrev pub natural : List ℕ → Option ℕ
natural text = if nat_lt 0 (length text) && all_digits text then number_of (literal text) else None

-- ... with an optional `-` before them
abbrev pub number : List ℕ → Option ℤ
number [] = None
number (b ∷ text) = if b == 45 then option_map (λ n. neg_ℤ (pos n)) (natural text) else option_map (λ n. pos n) (natural (b ∷ text))

abbrev pub of_type : Ty → Option ℤ → Option ℤ
of_type ty None = None
of_type ty (Some v) = if is_value ty v then Some v else None

abbrev pub truth : List ℕ → Option ℤ
truth word = if bytes_eq word (codes "true") then Some (pos 1) else (if bytes_eq word (codes "false") then Some (pos 0) else None)

-- the value that a word gives an input of a type; no word is the empty one
abbrev pub value : Ty → List ℕ → Option ℤ
value type.None word = if length word == 0 then Some (pos 0) else None
value type.Bool word = truth word
value ty word = of_type ty (number word)

-- capitals, digits and `_`, beginning with a capital
abbrev pub is_event_byte : ℕ → Bool
is_event_byte b = is_ascii_uppercase b || is_ascii_digit b || b == 95

abbrev pub all_event_bytes : List ℕ → Bool
all_event_bytes name = list_all (λ b. is_event_byte b) name

abbrev pub is_event_name : List ℕ → Bool
is_event_name name = nat_lt 0 (length name) && is_ascii_uppercase (slice_index name 0) && all_event_bytes name

-- the number of the input with that name
abbrev pub input_named : List ℕ → List Port → Option ℕ
input_named name inputs = position (λ port. bytes_eq port.name name) inputs

abbrev pub of_time : Result TokenKind Rule → Result Command BadKind
of_time (Ok (Time us)) = Ok (Advance us)
of_time other = Err kind.Time

abbrev pub advance : List ℕ → Result Command BadKind
advance word = of_time (literal word)

abbrev pub of_turns : Option ℤ → Result Command BadKind
of_turns None = Err kind.Value
of_turns (Some turns) = if int_le (pos 1) turns && int_le turns (pos 4294967295) then Ok (Idle (unsigned_abs turns)) else Err kind.Value

abbrev pub idle : List ℕ → Result Command BadKind
idle word = if length word == 0 then Ok (Idle 1) else of_turns (number word)

abbrev pub of_value : ℕ → Option ℤ → Result Command BadKind
of_value event (Some v) = Ok (Input event v)
of_value event None = Err kind.Value

abbrev pub type_at : List Port → ℕ → Ty
type_at [] event = type.None
type_at (port ∷ inputs) zero = port.ty
type_at (port ∷ inputs) (suc event) = type_at inputs event

abbrev pub of_event : Option ℕ → List ℕ → List Port → Result Command BadKind
of_event (Some event) word inputs = of_value event (value (type_at inputs event) word)
of_event None word inputs = Err kind.Unknown

abbrev pub input : List ℕ → List ℕ → List Port → Result Command BadKind
input name word inputs = of_event (input_named name inputs) word inputs

-- one or two words; no second word is the empty one
abbrev pub named : List ℕ → List ℕ → List Port → Result Command BadKind
named first second inputs = if bytes_eq first (codes "idle") then idle second else (if is_event_name first then input first second inputs else Err kind.Form)

abbrev pub of_words : List ℕ → List ℕ → List Port → Result Command BadKind
of_words [] second inputs = Err kind.Form
of_words (b ∷ first) second inputs =
    if b == 43
    then (if length second == 0 && not (length first == 0) then advance first else Err kind.Form)
    else named (b ∷ first) second inputs

-- the command, or the first that holds of: no shape, no such input, no value of its type, no time
unfoldable pub command_of : List ℕ → List Port → Result Command BadKind
command_of text inputs =
    let rest = after_word text in
    if nat_lt (leading_blanks (after_word rest)) (length (after_word rest))
    then Err kind.Form
    else of_words (first_word text) (first_word rest) inputs
