-- What the parser answers.
use Rattle.std.specs.Prelude.{◌≡◌, ◌<◌, ℕ, Bool, List, Option, Some, None, Result, Ok, Err, length, get_or}
use Rattle.ceu_base.specs.declared.kinds.Pos.{Pos}
use Rattle.ceu_base.specs.declared.kinds.Rule.TheVariants.{G1, G2, G3}
use Rattle.ceu_lex.specs.Positions.{first_pos, pos_after}
use Rattle.ceu_lex.specs.declared.token.Token.{Token}
use Rattle.ceu_tree.specs.declared.source.Node.{Node}
use Rattle.ceu_syntax.specs.declared.machine.Frame.{Frame}
use Rattle.ceu_syntax.specs.declared.machine.Mode.{Mode}
use Rattle.ceu_grammar.specs.declared.parser.ParseError.{ParseError}
use Rattle.ceu_grammar.specs.declared.parser.ParseError.TheVariants as error
use Rattle.ceu_grammar.specs.declared.parser.Refusal.{Refusal}
use Rattle.ceu_grammar.specs.declared.parser.Refusal.TheVariants as refusal
use Rattle.ceu_syntax.specs.Limits.{FirstBroken, IsDeep, IsLong, WithinLimits, operator_count}
use Rattle.ceu_syntax.specs.Runs.{Accepts}
use Rattle.ceu_syntax.specs.Steps.{State, state}
use Rattle.ceu_syntax.specs.Terminals.{terminals}

-- A token is taken within the limits, and these are the operators of the open expression behind it; or it breaks a rule, where of two rules
-- the one with the lower number counts. `finalize` says whether that word follows.
abbrev pub Takes : Result Mode Refusal → List Frame → ℕ → Bool → Option State → Type 0
Takes (Ok mode) K n finalize next = (next ≡ Some (state K mode)) × (n ≡ operator_count (state K mode)) × (IsDeep (state K mode) finalize → ⊥) × (IsLong (state K mode) → ⊥)
Takes (Err (refusal.Broken G1)) K n finalize next = next ≡ None
Takes (Err (refusal.Broken G2)) K n finalize next = (s : State) × (next ≡ Some s) × IsDeep s finalize
Takes (Err (refusal.Broken G3)) K n finalize next = (s : State) × (next ≡ Some s) × IsLong s × (IsDeep s finalize → ⊥)
Takes (Err (refusal.Broken _)) K n finalize next = ⊥
Takes (Err refusal.Memory) K n finalize next = Unit {0}

-- the place of token k, the text's end being the last one
pub record PlaceOf (text : List ℕ) (tokens : List Token) (k : ℕ) (pos : Pos) : Type 0 where
  pub at : k < length tokens → (other : Token) → pos ≡ (get_or tokens k other).pos
  pub end : k ≡ length tokens → pos ≡ pos_after first_pos text

abbrev pub Answers : Result (List Node) ParseError → List ℕ → List Token → Type 0
Answers (Ok ns) text tokens = Accepts (terminals text tokens) ns × WithinLimits (terminals text tokens)
Answers (Err (error.Refused rule pos k)) text tokens = FirstBroken (terminals text tokens) rule k × PlaceOf text tokens k pos
Answers (Err error.Memory) text tokens = Unit {0}

-- what stands behind the last token
abbrev pub EndsAs : Result (List Node) ParseError → Option (List Node) → List ℕ → List Token → Type 0
EndsAs (Ok ns) o text tokens = o ≡ Some ns
EndsAs (Err (error.Refused rule pos k)) o text tokens = (rule ≡ G1) × (k ≡ length tokens) × (o ≡ None) × (pos ≡ pos_after first_pos text)
EndsAs (Err error.Memory) o text tokens = Unit {0}

-- by a rule at token k, or for want of memory
abbrev pub IsRefused : Refusal → ParseError → List Token → ℕ → Type 0
IsRefused (refusal.Broken rule) e tokens k = (pos : Pos) × (e ≡ error.Refused rule pos k) × ((other : Token) → pos ≡ (get_or tokens k other).pos)
IsRefused refusal.Memory e tokens k = e ≡ error.Memory
