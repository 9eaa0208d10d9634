-- A run of several commands, as far as it has come.
use Rattle.std.proofs.Common.{◌≡◌, ℕ, ◌+◌, ◌≤◌, List, [], ◌++◌, Option, refl, sym, ap, ◌∙◌, subst, arith, append_assoc}
use Rattle.std.proofs.lemmas.List.{append-nil}
use Rattle.ceu_io.specs.Bytes.{Appends, AppendsProperFront}
use Rattle.ceu_io.proofs.Offers.{appends_nothing, appends_then}
use Rattle.ceu_tree.specs.Run.{Config, Waits, status_of}
use Rattle.ceu_run.specs.Printing.{Printed, CutShort}
use Rattle.ceu_run.specs.declared.reactor.After.{After}
use Rattle.ceu_run.specs.declared.reactor.After.TheVariants as after
use Rattle.ceu_run.proofs.Fronts.{front_behind, front_of_more}

-- The program waits after some commands; what is left is done by `rest` and prints `more`.
pub record Going (stands : Config → Type 0) (whole : ℕ → Config) (rest : ℕ → Config → Config) (text : ℕ → List ℕ) (more : ℕ → Config → List ℕ) (held now : Option (List ℕ)) : Type 0 where
  pub config : Config
  pub bound : ℕ
  pub comes : (n : ℕ) → bound ≤ n → whole n ≡ rest n config
  pub here : stands config
  pub waits : status_of config ≡ Waits
  pub shown : List ℕ
  pub texts : (n : ℕ) → bound ≤ n → text n ≡ shown ++ more n config
  pub written : Appends shown held now

pub going_starts : (stands : Config → Type 0) (rest : ℕ → Config → Config) (more : ℕ → Config → List ℕ) (c : Config) (held : Option (List ℕ)) → stands c → status_of c ≡ Waits
    → Going stands (λ n. rest n c) rest (λ n. more n c) more held held
going_starts stands rest more c held here waits = record { config = c; bound = 0; comes = λ n h. refl; here = here; waits = waits; shown = []; texts = λ n h. refl; written = appends_nothing held }

-- one more command, of which `step` and `lines` speak
module _ (S S' : Config → Type 0) (whole : ℕ → Config) (rest rest' step : ℕ → Config → Config) (text : ℕ → List ℕ) (more more' lines : ℕ → Config → List ℕ) (x y z : Option (List ℕ))
    (so_far : Going S whole rest text more x y)
    (rest_is : (n : ℕ) (c : Config) → rest n c ≡ rest' n (step n c))
    (more_is : (n : ℕ) (c : Config) → more n c ≡ lines n c ++ more' n (step n c)) where
  -- it waits again
  pub going_on : Printed S' (λ n. step n so_far.config) (λ n. lines n so_far.config) y z after.Waiting → Going S' whole rest' text more' x z
  going_on p = record {
    config = p.config;
    bound = so_far.bound + p.bound;
    comes = λ n h. so_far.comes n (omega arith) ∙ rest_is n so_far.config ∙ ap (rest' n) (p.comes n (omega arith));
    here = p.here;
    waits = p.status;
    shown = so_far.shown ++ p.shown;
    texts = λ n h. so_far.texts n (omega arith) ∙ ap (λ (l : List ℕ). so_far.shown ++ l) (more_is n so_far.config ∙ (λ i. p.texts n (omega arith) i ++ more' n (p.comes n (omega arith) i)))
        ∙ sym (append_assoc so_far.shown p.shown (more' n p.config));
    written = appends_then so_far.shown p.shown x y z so_far.written p.written;
  }

  -- it waits no longer
  pub going_ends : (a : After) (p : Printed S' (λ n. step n so_far.config) (λ n. lines n so_far.config) y z a) → ((n : ℕ) → rest' n p.config ≡ p.config) → ((n : ℕ) → more' n p.config ≡ []) → Printed S' whole text x z a
  going_ends a p stays ends = record {
    config = p.config;
    bound = so_far.bound + p.bound;
    comes = λ n h. so_far.comes n (omega arith) ∙ rest_is n so_far.config ∙ ap (rest' n) (p.comes n (omega arith)) ∙ stays n;
    here = p.here;
    status = p.status;
    shown = so_far.shown ++ p.shown;
    texts = λ n h. so_far.texts n (omega arith) ∙ ap (λ (l : List ℕ). so_far.shown ++ l) (more_is n so_far.config ∙ (λ i. p.texts n (omega arith) i ++ more' n (p.comes n (omega arith) i))
        ∙ ap (λ (l : List ℕ). p.shown ++ l) (ends n) ∙ append-nil p.shown);
    written = appends_then so_far.shown p.shown x y z so_far.written p.written;
  }

  -- the sink failed
  pub going_fails : CutShort (λ n. lines n so_far.config) y z → CutShort text x z
  going_fails cut = record {
    bound = so_far.bound + cut.bound;
    front = λ n h. subst (λ (l : List ℕ). AppendsProperFront l x z) (sym (so_far.texts n (omega arith) ∙ ap (λ (l : List ℕ). so_far.shown ++ l) (more_is n so_far.config)))
        (front_behind so_far.shown (lines n so_far.config ++ more' n (step n so_far.config)) x y z so_far.written (front_of_more (lines n so_far.config) (more' n (step n so_far.config)) y z (cut.front n (omega arith))));
  }

-- nothing is left to do
pub going_done : (S : Config → Type 0) (whole : ℕ → Config) (rest : ℕ → Config → Config) (text : ℕ → List ℕ) (more : ℕ → Config → List ℕ) (x y : Option (List ℕ)) → (so_far : Going S whole rest text more x y)
    → ((n : ℕ) → rest n so_far.config ≡ so_far.config) → ((n : ℕ) → more n so_far.config ≡ []) → Printed S whole text x y after.Waiting
going_done S whole rest text more x y so_far rest_is more_is = record {
  config = so_far.config;
  bound = so_far.bound;
  comes = λ n h. so_far.comes n h ∙ rest_is n;
  here = so_far.here;
  status = so_far.waits;
  shown = so_far.shown;
  texts = λ n h. so_far.texts n h ∙ ap (λ (l : List ℕ). so_far.shown ++ l) (more_is n) ∙ append-nil so_far.shown;
  written = so_far.written;
}
