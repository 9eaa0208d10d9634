-- Marks that go to a sink one by one: those of a whole command, or those before the one on which the sink failed.
use Rattle.std.proofs.Common.{◌≡◌, refl, sym, ap, ◌∙◌, inl, inr, List, [], ◌∷◌, ◌++◌, append_assoc}
use Rattle.ceu_base.specs.declared.kinds.Mark.{Mark}
use Rattle.ceu_run.specs.Reactions.{Noted}
use Rattle.ceu_machine.specs.Noting as machine

module _ {W : Type 0} (notes stops : W → Mark → W → Type 0) where
  pub noted_so : (ms : List Mark) (out now : W) → machine.Noted notes ms out now → Noted notes ms out now
  noted_so [] out now h = h
  noted_so (m ∷ ms) out now h = (h.0, h.1, noted_so ms h.0 now h.2)

  -- the marks that were noted, and the one on which the sink failed
  pub record Cut (ms : List Mark) (out now : W) : Type 0 where
    pub front : List Mark
    pub last : Mark
    pub rest : List Mark
    pub parts : ms ≡ (front ++ last ∷ []) ++ rest
    pub between : W
    pub noted : Noted notes front out between
    pub stopped : stops between last now

  pub cut : (ms : List Mark) (out now : W) → machine.Stopped notes stops ms out now → Cut ms out now
  cut [] out now h = absurd h
  cut (m ∷ ms) out now (inl stopped) = record { front = []; last = m; rest = ms; parts = refl; between = out; noted = refl; stopped = stopped }
  cut (m ∷ ms) out now (inr h) =
      let more = cut ms h.0 now h.2 in
      record { front = m ∷ more.front; last = more.last; rest = more.rest; parts = ap (λ (l : List Mark). m ∷ l) more.parts; between = more.between; noted = (h.0, h.1, more.noted); stopped = more.stopped }

-- marks behind others
pub behind : (before front rest ms all : List Mark) → all ≡ before ++ ms → ms ≡ front ++ rest → all ≡ (before ++ front) ++ rest
behind before front rest ms all e p = e ∙ ap (λ (l : List Mark). before ++ l) p ∙ sym (append_assoc before front rest)
