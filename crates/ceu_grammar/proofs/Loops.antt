-- One turn of the loop over the tokens.
use Rattle.std.proofs.Common.{◌≡◌, refl, ap, ◌∙◌, ℕ, zero, suc, ◌<◌, List, [], ◌∷◌, Option, Some, None, arith, length, take, get_or}
use Rattle.ceu_lex.specs.declared.token.Token.{Token}
use Rattle.ceu_syntax.specs.declared.terminal.Terminal.{Terminal}
use Rattle.ceu_syntax.specs.Steps.{State}
use Rattle.ceu_syntax.specs.Runs.{run, begun, step, then_run}
use Rattle.ceu_syntax.specs.Terminals.{terminal, terminals}

run_next : (ts : List Terminal) (i : ℕ) (d : Terminal) (s : State) → i < length ts → run (take (suc i) ts) s ≡ then_run (step (get_or ts i d)) (run (take i ts) s)
unfolding run
run_next [] i d s h = absurd (omega arith)
run_next (t ∷ ts) zero d s h = go (step t s)
  where
    go : (m : Option State) → then_run (λ u. Some u) m ≡ m
    go None = refl
    go (Some u) = refl
run_next (t ∷ ts) (suc i) d s h = go (step t s) (λ m. run_next ts i d m (omega arith))
  where
    go : (m : Option State) → ((m : State) → run (take (suc i) ts) m ≡ then_run (step (get_or ts i d)) (run (take i ts) m)) → then_run (run (take (suc i) ts)) m ≡ then_run (step (get_or ts i d)) (then_run (run (take i ts)) m)
    go None f = refl
    go (Some m) f = f m

pub run_none : (s : State) → run [] s ≡ Some s
unfolding run
run_none s = refl

terminal_at : (text : List ℕ) (ts : List Token) (i : ℕ) (d : Token) → get_or (terminals text ts) i (terminal text d) ≡ terminal text (get_or ts i d)
terminal_at text [] i d = refl
terminal_at text (t ∷ ts) zero d = refl
terminal_at text (t ∷ ts) (suc i) d = terminal_at text ts i d

pub terminals_length : (text : List ℕ) (ts : List Token) → length (terminals text ts) ≡ length ts
terminals_length text [] = refl
terminals_length text (t ∷ ts) = let e : length (terminals text ts) ≡ length ts = terminals_length text ts in omega arith

pub goes_on : (text : List ℕ) (ts : List Token) (i : ℕ) (d : Token) (s : State) (u : Option State) → i < length ts → run (take i (terminals text ts)) begun ≡ Some s → step (terminal text (get_or ts i d)) s ≡ u → run (take (suc i) (terminals text ts)) begun ≡ u
goes_on text ts i d s u h e f =
    let l : length (terminals text ts) ≡ length ts = terminals_length text ts in
    run_next (terminals text ts) i (terminal text d) begun (omega arith) ∙ ap (then_run (step (get_or (terminals text ts) i (terminal text d)))) e ∙ ap (λ t. step t s) (terminal_at text ts i d) ∙ f

pub ruleset loops = (run_none, goes_on)
