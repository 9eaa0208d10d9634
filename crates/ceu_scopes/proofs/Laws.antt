-- One step of a walk after another.
use Rattle.std.proofs.Common.{◌≡◌, refl, ap, Result, Ok, Err}
use Rattle.ceu_base.specs.declared.kinds.CheckError.{CheckError}
use Rattle.ceu_base.specs.declared.kinds.CheckError.TheVariants.{Refused, Memory}
use Rattle.ceu_base.specs.declared.kinds.Rule.{Rule}
use Rattle.ceu_base.specs.declared.kinds.Pos.{Pos}
use Rattle.ceu_scopes.specs.Answers.{IsRefusal}
use Rattle.ceu_scopes.specs.Walk.{Broken, ◌>>=◌}

module _ {A B : Type 0} where
  pub ok_then : (x : A) (f : A → Result B Broken) → (Ok x >>= f) ≡ f x
  unfolding ◌>>=◌
  ok_then x f = refl

  pub err_then : (e : Broken) (f : A → Result B Broken) → (Err e >>= f) ≡ Err e
  unfolding ◌>>=◌
  err_then e f = refl

  -- a step that ends the walk ends it for all that follows
  pub refusal_then : (e : CheckError) (s : Result A Broken) (f : A → Result B Broken) → IsRefusal e s → IsRefusal e (s >>= f)
  unfolding IsRefusal ◌>>=◌
  refusal_then (Refused r p) s f h = ap (λ t. t >>= f) h
  refusal_then Memory s f h = tt

module _ {A : Type 0} where
  pub refusal_memory : (s : Result A Broken) → IsRefusal Memory s
  unfolding IsRefusal
  refusal_memory s = tt

  pub refusal_broken : (r : Rule) (p : Pos) (s : Result A Broken) → s ≡ Err (r, p) → IsRefusal (Refused r p) s
  unfolding IsRefusal
  refusal_broken r p s h = h

pub ruleset steps = (ok_then, err_then, refusal_then, refusal_memory, refusal_broken)
