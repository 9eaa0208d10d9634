-- A command that a line gives is one that the program takes.
use Rattle.std.proofs.Common.{◌≡◌, ℕ, ◌<◌, ◌≤◌, Bool, true, false, cond, ◌&&◌, List, [], ◌∷◌, length, drop, Option, Some, None, Result, Ok, Err, refl, arith}
use Rattle.std.specs.Prelude.{ℤ, pos, negsuc, int_le, nat_eq, nat_lt, codes, IsTrue, not, IfOk}
use Rattle.std.specs.List.{position_or_len}
use Rattle.std.specs.Str.{bytes_eq}
use Rattle.std.proofs.lemmas.Bool.Decides.{nat_tests}
use Rattle.ceu_base.specs.Values.{is_value}
use Rattle.ceu_base.specs.declared.kinds.Port.{Port}
use Rattle.ceu_base.specs.declared.kinds.Rule.{Rule}
use Rattle.ceu_base.specs.declared.kinds.Rule.TheVariants.{L3, L4}
use Rattle.ceu_base.specs.declared.kinds.Ty.{Ty}
use Rattle.ceu_base.specs.declared.kinds.Ty.TheVariants as type
use Rattle.ceu_lex.specs.Lexemes as lex
use Rattle.ceu_lex.specs.Lexemes.{Groups, time_limit, of_groups, within_u64, literal}
use Rattle.ceu_lex.specs.Tables.{units}
use Rattle.ceu_lex.specs.declared.token.TokenKind.{TokenKind}
use Rattle.ceu_lex.specs.declared.token.TokenKind.TheVariants.{Number, Time}
use Rattle.ceu_tree.specs.declared.command.Command.{Command}
use Rattle.ceu_tree.specs.declared.command.Command.TheVariants.{Idle}
use Rattle.ceu_script.specs.Commands.{IsCommand}
use Rattle.ceu_script.specs.Shapes.{number, of_type, value, is_event_name, input_named, of_time, advance, of_turns, idle, of_value, type_at, of_event, input, named, of_words}
use Rattle.ceu_script.specs.declared.items.BadKind.{BadKind}
use Rattle.ceu_script.specs.declared.items.BadKind.TheVariants as kind

abbrev pub Allowed : List Port → Result Command BadKind → Type 0
Allowed inputs (Ok command) = IsCommand inputs command
Allowed inputs (Err k) = Unit {0}

allowed_if : (inputs : List Port) (t : Bool) (a b : Result Command BadKind) → Allowed inputs a → Allowed inputs b → Allowed inputs (cond t a b)
allowed_if inputs true a b p q = p
allowed_if inputs false a b p q = q

-- ---- times

abbrev TimeFits : Result TokenKind Rule → Type 0
TimeFits (Ok (Time us)) = us < 9223372036854775808
TimeFits other = Unit {0}

fits_if : (t : Bool) (a b : Result TokenKind Rule) → TimeFits a → TimeFits b → TimeFits (cond t a b)
fits_if true a b p q = p
fits_if false a b p q = q

fits_both : (a b : Bool) (n : ℕ) → (b ≡ true → n < 9223372036854775808) → TimeFits (cond (a && b) (Ok (Time n)) (Err L4))
fits_both true true n fits = fits refl
fits_both true false n fits = tt
fits_both false b n fits = tt

below_limit : (n : ℕ) → nat_lt n time_limit ≡ true → n < 9223372036854775808
below_limit n is = grind (arith, nat_tests)

groups_fit : (g : Groups) → TimeFits (of_groups g)
groups_fit g = fits_both (nat_eq (length g.rest) 0) (nat_lt g.total time_limit) g.total (below_limit g.total)

number_fits : (n : ℕ) → TimeFits (within_u64 n)
number_fits n = fits_if (nat_lt n 18446744073709551616) (Ok (Number n)) (Err L3) tt tt

time_fits : (text : List ℕ) → TimeFits (lex.time text)
unfolding lex.time
time_fits text = groups_fit (lex.after_groups units (record { total = 0; rest = text }))

literal_fits : (text : List ℕ) → TimeFits (literal text)
unfolding literal
literal_fits text =
    fits_if (lex.all_digits text) (within_u64 (lex.value 10 0 text)) (cond (lex.is_hex text) (within_u64 (lex.value 16 0 (drop 2 text))) (lex.time text))
    (number_fits (lex.value 10 0 text))
    (fits_if (lex.is_hex text) (within_u64 (lex.value 16 0 (drop 2 text))) (lex.time text) (number_fits (lex.value 16 0 (drop 2 text))) (time_fits text))

of_time_allowed : (inputs : List Port) (token : Result TokenKind Rule) → TimeFits token → Allowed inputs (of_time token)
of_time_allowed inputs (Ok (Time us)) fits = fits
of_time_allowed inputs other fits = tt

-- ---- idle turns

idle_both : (inputs : List Port) (a b : Bool) (n : ℕ) → (a ≡ true → 1 ≤ n) → Allowed inputs (cond (a && b) (Ok (Idle n)) (Err kind.Value))
idle_both inputs true true n some = some refl
idle_both inputs true false n some = tt
idle_both inputs false b n some = tt

one_le : (n : ℕ) → int_le (pos 1) (pos n) ≡ true → 1 ≤ n
one_le n is = grind (arith, nat_tests)

turns_allowed : (inputs : List Port) (turns : Option ℤ) → Allowed inputs (of_turns turns)
turns_allowed inputs None = tt
turns_allowed inputs (Some (pos n)) = idle_both inputs (int_le (pos 1) (pos n)) (int_le (pos n) (pos 4294967295)) n (one_le n)
turns_allowed inputs (Some (negsuc n)) = tt

idle_allowed : (inputs : List Port) (word : List ℕ) → Allowed inputs (idle word)
idle_allowed inputs word = allowed_if inputs (nat_eq (length word) 0) (Ok (Idle 1)) (of_turns (number word)) (omega arith) (turns_allowed inputs (number word))

-- ---- inputs

abbrev ValueFits : Ty → Option ℤ → Type 0
ValueFits ty (Some v) = IsTrue (is_value ty v)
ValueFits ty None = Unit {0}

kept : (ty : Ty) (v : ℤ) (t : Bool) → is_value ty v ≡ t → ValueFits ty (cond t (Some v) None)
kept ty v true is = is
kept ty v false is = tt

of_type_fits : (ty : Ty) (v : Option ℤ) → ValueFits ty (of_type ty v)
of_type_fits ty None = tt
of_type_fits ty (Some v) = kept ty v (is_value ty v) refl

fits_when : (ty : Ty) (t : Bool) (a b : Option ℤ) → ValueFits ty a → ValueFits ty b → ValueFits ty (cond t a b)
fits_when ty true a b p q = p
fits_when ty false a b p q = q

value_fits : (ty : Ty) (word : List ℕ) → ValueFits ty (value ty word)
value_fits type.None word = fits_when type.None (nat_eq (length word) 0) (Some (pos 0)) None refl tt
value_fits type.Bool word = fits_when type.Bool (bytes_eq word (codes "true")) (Some (pos 1)) (cond (bytes_eq word (codes "false")) (Some (pos 0)) None) refl
    (fits_when type.Bool (bytes_eq word (codes "false")) (Some (pos 0)) None refl tt)
value_fits type.U8 word = of_type_fits type.U8 (number word)
value_fits type.S8 word = of_type_fits type.S8 (number word)
value_fits type.U16 word = of_type_fits type.U16 (number word)
value_fits type.S16 word = of_type_fits type.S16 (number word)
value_fits type.U32 word = of_type_fits type.U32 (number word)
value_fits type.S32 word = of_type_fits type.S32 (number word)
value_fits type.U64 word = of_type_fits type.U64 (number word)
value_fits type.S64 word = of_type_fits type.S64 (number word)

abbrev EventFits : List Port → Option ℕ → Type 0
EventFits inputs (Some event) = event < length inputs
EventFits inputs None = Unit {0}

event_when : (inputs : List Port) (t : Bool) (event : ℕ) → (t ≡ true → event < length inputs) → EventFits inputs (cond t (Some event) None)
event_when inputs true event here = here refl
event_when inputs false event here = tt

below_length : (n m : ℕ) → nat_lt n m ≡ true → n < m
below_length n m is = grind (arith, nat_tests)

named_fits : (name : List ℕ) (inputs : List Port) → EventFits inputs (input_named name inputs)
named_fits name inputs =
    let at = position_or_len (λ (port : Port). bytes_eq port.name name) inputs in
    event_when inputs (nat_lt at (length inputs)) at (below_length at (length inputs))

of_value_allowed : (inputs : List Port) (event : ℕ) (v : Option ℤ) → event < length inputs → ValueFits (type_at inputs event) v → Allowed inputs (of_value event v)
of_value_allowed inputs event (Some v) here fits = (here, fits)
of_value_allowed inputs event None here fits = tt

of_event_allowed : (inputs : List Port) (event : Option ℕ) (word : List ℕ) → EventFits inputs event → Allowed inputs (of_event event word inputs)
of_event_allowed inputs (Some event) word here = of_value_allowed inputs event (value (type_at inputs event) word) here (value_fits (type_at inputs event) word)
of_event_allowed inputs None word here = tt

-- ---- lines

pub words_allowed : (first second : List ℕ) (inputs : List Port) → Allowed inputs (of_words first second inputs)
words_allowed [] second inputs = tt
words_allowed (b ∷ first) second inputs =
    allowed_if inputs (nat_eq b 43) (cond (nat_eq (length second) 0 && not (nat_eq (length first) 0)) (advance first) (Err kind.Form)) (named (b ∷ first) second inputs)
    (allowed_if inputs (nat_eq (length second) 0 && not (nat_eq (length first) 0)) (advance first) (Err kind.Form) (of_time_allowed inputs (literal first) (literal_fits first)) tt)
    (allowed_if inputs (bytes_eq (b ∷ first) (codes "idle")) (idle second) (cond (is_event_name (b ∷ first)) (input (b ∷ first) second inputs) (Err kind.Form))
    (idle_allowed inputs second)
    (allowed_if inputs (is_event_name (b ∷ first)) (input (b ∷ first) second inputs) (Err kind.Form) (of_event_allowed inputs (input_named (b ∷ first) inputs) second (named_fits (b ∷ first) inputs)) tt))

pub if_ok_allowed : (inputs : List Port) (answer : Result Command BadKind) → Allowed inputs answer → IfOk answer (IsCommand inputs)
if_ok_allowed inputs (Ok command) allowed = allowed
if_ok_allowed inputs (Err k) allowed = tt
