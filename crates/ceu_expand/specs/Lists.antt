-- What is written for the items of a list, from the first to the last.
use Rattle.std.specs.Prelude.{List, [], ◌∷◌}
use Rattle.ceu_expand.specs.declared.draft.Draft.{Draft}

-- each item changes the draft
unfoldable pub each : {A : Type 0} → (A → Draft → Draft) → List A → Draft → Draft
each pass [] d = d
each pass (x ∷ xs) d = each pass xs (pass x d)

-- each item gives something, and changes the draft for those behind it
unfoldable pub gathered : {A B : Type 0} → (A → Draft → B) → (A → Draft → Draft) → List A → Draft → List B
gathered make pass [] d = []
gathered make pass (x ∷ xs) d = make x d ∷ gathered make pass xs (pass x d)
