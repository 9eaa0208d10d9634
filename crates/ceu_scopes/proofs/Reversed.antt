-- The stack of open blocks, of which the code sees the outermost first.
use Rattle.std.proofs.Common.{◌≡◌, refl, List, [], ◌∷◌, ◌++◌, reverse, ◌∙◌, ap}
use Rattle.std.proofs.lemmas.List.{reverse-append}
use Rattle.ceu_scopes.specs.declared.scope.Scope.{Scope}
use Rattle.ceu_scopes.specs.Walk.{outermost}

pub outermost-last : (xs : List Scope) (s : Scope) → outermost (xs ++ s ∷ []) ≡ s.names
outermost-last [] s = refl
outermost-last (x ∷ []) s = refl
outermost-last (x ∷ y ∷ xs) s = outermost-last (y ∷ xs) s

pub outermost_first : (s : Scope) (xs : List Scope) → outermost (reverse (s ∷ xs)) ≡ s.names
outermost_first s xs = ap outermost (reverse-append (s ∷ []) xs) ∙ outermost-last (reverse xs) s

pub ruleset outermost_laws = (outermost_first)
