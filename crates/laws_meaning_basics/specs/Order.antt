-- The first leaf in lexical order acts, and an occurrence wakes exactly the leaves that wait for it.
use Rattle.std.specs.Prelude.{◌≡◌, ℕ, ℤ, List, [], ◌∷◌, Option, Some, None, map}
use Rattle.ceu_tree.specs.Residual.{Act, Residual}
use Rattle.ceu_tree.specs.Focus.{Focus, leaf, or_else, choose}
use Rattle.ceu_tree.specs.Wake.{each_leaf, leaves, runs_at, by_event, by_input, Unserved, unserved}

-- the first of the leaves of which `pick` gives something
abbrev pub first_of : {A : Type 0} → (Residual → Option A) → List Residual → Option A
first_of pick [] = None
first_of pick (r ∷ rs) = or_else (pick r) (first_of pick rs)

abbrev pub leaf_of : {A : Type 0} → Option (Focus A) → Option A
leaf_of None = None
leaf_of (Some f) = Some (leaf f)

-- The turn goes to the first leaf, in lexical order, that can run at the top level, and an idle turn to the first async that was not served.
abbrev pub FirstRuns : Type 0
FirstRuns = (n : ℕ) (r : Residual) → leaf_of (choose Act (runs_at n) r) ≡ first_of (runs_at n) (leaves r)

abbrev pub FirstServed : Type 0
FirstServed = (r : Residual) → leaf_of (choose Unserved unserved r) ≡ first_of unserved (leaves r)

-- Each leaf that waits for the event can run at the new level, and every other leaf is as it was.
abbrev pub EventWakes : Type 0
EventWakes = (level event : ℕ) (v : ℤ) (r : Residual) → leaves (each_leaf (by_event level event v) r) ≡ map (by_event level event v) (leaves r)

abbrev pub InputWakes : Type 0
InputWakes = (input : ℕ) (v : ℤ) (r : Residual) → leaves (each_leaf (by_input input v) r) ≡ map (by_input input v) (leaves r)
