-- Marks that went to a sink in parts.
use Rattle.std.proofs.Common.{◌≡◌, List, ◌++◌, sym, subst}
use Rattle.ceu_base.specs.declared.kinds.Mark.{Mark}
use Rattle.ceu_machine.specs.Noting.{Noted, Stopped}
use Rattle.ceu_machine.proofs.Turns.{noted_on, stopped_early, stopped_late}

-- some were noted, and the sink failed on the next ones, whatever follows them
pub stopped_in : {S : Type 0} (notes stops : S → Mark → S → Type 0) (all ms ds more : List Mark) (a b c : S) → all ≡ (ms ++ ds) ++ more → Noted notes ms a b → Stopped notes stops ds b c → Stopped notes stops all a c
stopped_in notes stops all ms ds more a b c e h k = subst (λ l. Stopped notes stops l a c) (sym e) (stopped_early notes stops (ms ++ ds) more a c (stopped_late notes stops ms ds a b c h k))

-- the sink failed on the first ones
pub stopped_first : {S : Type 0} (notes stops : S → Mark → S → Type 0) (all ms more : List Mark) (a b : S) → all ≡ ms ++ more → Stopped notes stops ms a b → Stopped notes stops all a b
stopped_first notes stops all ms more a b e h = subst (λ l. Stopped notes stops l a b) (sym e) (stopped_early notes stops ms more a b h)

-- some were noted, and then the others
pub noted_in : {S : Type 0} (notes : S → Mark → S → Type 0) (all ms more : List Mark) (a b c : S) → all ≡ ms ++ more → Noted notes ms a b → Noted notes more b c → Noted notes all a c
noted_in notes all ms more a b c e h k = subst (λ l. Noted notes l a c) (sym e) (noted_on notes ms more a b c h k)
