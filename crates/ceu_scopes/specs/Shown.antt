-- The names that one block shows, with their declarations in order, and the numbers that an async lists.
use Rattle.std.specs.List.{list_any}
use Rattle.std.specs.Prelude.{ℕ, Bool, nat_eq, List, [], ◌∷◌, ◌++◌, Option, Some, None, bytes_eq, if◌then◌else◌}
use Rattle.ceu_scopes.specs.declared.known.Known.{Known}

-- the declaration of a name in one block
abbrev pub found : List (List ℕ × Known) → List ℕ → Option Known
found [] x = None
found (e ∷ es) x = if bytes_eq x e.0 then Some e.1 else found es x

-- the block shows one name more (a name that it shows already takes the new declaration; no name is declared twice in one block)
abbrev pub entered : List (List ℕ × Known) → List ℕ → Known → List (List ℕ × Known)
entered [] x k = (x, k) ∷ []
entered (e ∷ es) x k = if bytes_eq x e.0 then (e.0, k) ∷ es else e ∷ entered es x k

abbrev pub is_among : ℕ → List ℕ → Bool
is_among n ns = list_any (nat_eq n) ns

-- the numbers that an async lists, each once
abbrev pub added : List ℕ → ℕ → List ℕ
added ns n = if is_among n ns then ns else ns ++ n ∷ []

-- a list without its first item
abbrev pub rest_of : {A : Type 0} → List A → List A
rest_of [] = []
rest_of (x ∷ xs) = xs
