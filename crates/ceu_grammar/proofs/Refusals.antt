-- What the parser's answers say of the run, at a token and behind the last one.
use Rattle.std.proofs.Common.{◌≡◌, refl, sym, ap, subst, ◌∙◌, ℕ, suc, ◌<◌, inl, inr, Bool, List, [], ◌∷◌, Some, None, Result, Ok, Err, arith, length, take, drop, get_or}
use Rattle.ceu_base.specs.declared.kinds.Rule.{Rule}
use Rattle.ceu_base.specs.declared.kinds.Rule.TheVariants.{G1, G2, G3}
use Rattle.ceu_lex.specs.declared.token.Token.{Token}
use Rattle.ceu_tree.specs.declared.source.Node.{Node}
use Rattle.ceu_syntax.specs.declared.terminal.Terminal.{Terminal}
use Rattle.ceu_syntax.specs.declared.machine.Frame.{Frame}
use Rattle.ceu_syntax.specs.Limits.{FirstBroken, IsDeep, KeepsLimits, goes_on_finalize}
use Rattle.ceu_syntax.specs.Steps.{State}
use Rattle.ceu_syntax.specs.Runs.{run, begun, step, finish}
use Rattle.ceu_syntax.specs.Terminals.{terminal, terminals}
use Rattle.ceu_syntax.proofs.Completes.{first_wrong}
use Rattle.ceu_syntax.proofs.Outcomes.{shallow}
use Rattle.ceu_grammar.specs.Answers.{Answers, EndsAs, IsRefused, Takes}
use Rattle.ceu_grammar.specs.declared.parser.ParseError.{ParseError}
use Rattle.ceu_grammar.specs.declared.parser.ParseError.TheVariants as error
use Rattle.ceu_grammar.specs.declared.parser.Refusal.{Refusal}
use Rattle.ceu_grammar.specs.declared.parser.Refusal.TheVariants as refusal
use Rattle.ceu_grammar.proofs.Loops.{goes_on, terminals_length}

answers_as : (e f : ParseError) (text : List ℕ) (tokens : List Token) → e ≡ f → Answers (Err f) text tokens → Answers (Err e) text tokens
answers_as e f text tokens h a = subst (λ u. Answers (Err u) text tokens) (sym h) a

-- where the rules break
module _ (text : List ℕ) (tokens : List Token) (k : ℕ) (d : Token) (s : State) (finalize : Bool) (within : k < length tokens)
    (runs : run (take k (terminals text tokens)) begun ≡ Some s) (kept : KeepsLimits (terminals text tokens) k)
    (follows : finalize ≡ goes_on_finalize (drop (suc k) (terminals text tokens))) where
  inside : k < length (terminals text tokens)
  inside = let n : length (terminals text tokens) ≡ length tokens = terminals_length text tokens in omega arith

  broken : (r : Rule) (K : List Frame) (n : ℕ) → Takes (Err (refusal.Broken r)) K n finalize (step (terminal text (get_or tokens k d)) s) → FirstBroken (terminals text tokens) r k
  broken G1 K n t = (first_wrong (terminals text tokens) k (s, runs, inl (inside, goes_on text tokens k d s None within runs t)), kept)
  broken G2 K n (u, e, deep) = ((inside, u, goes_on text tokens k d s (Some u) within runs e, subst (λ b. IsDeep u b) follows deep), kept)
  broken G3 K n (u, e, long, flat) = let h : run (take (suc k) (terminals text tokens)) begun ≡ Some u = goes_on text tokens k d s (Some u) within runs e in
      ((inside, u, h, long), shallow (terminals text tokens) k u finalize h follows flat, kept)
  broken _ K n t = absurd t

  -- a refusal at token k
  pub refused_at : (r : Refusal) (e : ParseError) (K : List Frame) (n : ℕ) → Takes (Err r) K n finalize (step (terminal text (get_or tokens k d)) s) → IsRefused r e tokens k → Answers (Err e) text tokens
  refused_at (refusal.Broken rule) e K n t (pos, same, at) = answers_as e (error.Refused rule pos k) text tokens same
      (broken rule K n t, record { at = λ _ other. at other; end = λ same. absurd (omega arith) })
  refused_at refusal.Memory e K n t same = answers_as e error.Memory text tokens same tt

take_all : (ts : List Terminal) → take (length ts) ts ≡ ts
take_all [] = refl
take_all (t ∷ ts) = ap (λ l. t ∷ l) (take_all ts)

-- the answer behind the last token
pub ended_at : (r : Result (List Node) ParseError) (text : List ℕ) (tokens : List Token) (k : ℕ) (s : State) →
    k ≡ length tokens → run (take k (terminals text tokens)) begun ≡ Some s → KeepsLimits (terminals text tokens) k → EndsAs r (finish s) text tokens → Answers r text tokens
ended_at (Ok ns) text tokens k s l h kept e =
    let same : k ≡ length (terminals text tokens) = l ∙ sym (terminals_length text tokens) in
    ((s, subst (λ us. run us begun ≡ Some s) (ap (λ j. take j (terminals text tokens)) same ∙ take_all (terminals text tokens)) h, e), subst (λ j. KeepsLimits (terminals text tokens) j) same kept)
ended_at (Err (error.Refused rule pos i)) text tokens k s l h kept (first, at, none, place) =
    let same : k ≡ i = l ∙ sym at in (
      subst (λ r. FirstBroken (terminals text tokens) r i) (sym first) (
        first_wrong (terminals text tokens) i (s, subst (λ j. run (take j (terminals text tokens)) begun ≡ Some s) same h, inr (at ∙ sym (terminals_length text tokens), none)),
        subst (λ j. KeepsLimits (terminals text tokens) j) same kept,
      ),
      record { at = λ less. absurd (omega arith); end = λ _. place },
    )
ended_at (Err error.Memory) text tokens k s l h kept e = tt
