-- What the rules on exits say of the blocks of a statement (this project's own).
use Rattle.std.specs.Prelude.{◌≡◌, ℕ, Bool, false, ◌||◌, List, [], ◌∷◌}
use Rattle.std.specs.List.{list_any}
use Rattle.ceu_tree.specs.declared.kernel.KArm.{KArm, out-KArm}
use Rattle.ceu_tree.specs.declared.kernel.KBlock.{KBlock, out-KBlock}
use Rattle.ceu_tree.specs.Paths.{is_break, is_continue, quick_block}
use Rattle.laws_bounds_steps.specs.Ways.{leads_to}

-- no exit leads to a block that isn't the body of code
abbrev pub BlockClear : List Bool → KBlock → Type 0
BlockClear passing b = list_any (leads_to (out-KBlock b).node) (quick_block passing b) ≡ false

-- an exit that leads to a do is an escape, and none leads to an if
abbrev pub DoKeeps : List Bool → ℕ → KBlock → Type 0
DoKeeps passing node b = BlockClear passing b × (list_any (λ w. is_break node w || is_continue node w) (quick_block passing b) ≡ false)

abbrev pub PartKeeps : List Bool → ℕ → KBlock → Type 0
PartKeeps passing node b = BlockClear passing b × (list_any (leads_to node) (quick_block passing b) ≡ false)

abbrev pub arms_keep : List Bool → ℕ → List KArm → Type 0
arms_keep passing node [] = Unit {0}
arms_keep passing node (a ∷ arms) = PartKeeps passing node (out-KArm a).body × arms_keep passing node arms

abbrev pub branches_keep : List Bool → List KBlock → Type 0
branches_keep passing [] = Unit {0}
branches_keep passing (b ∷ bs) = BlockClear passing b × branches_keep passing bs

-- a par has a branch
abbrev pub par_keeps : List Bool → List KBlock → Type 0
par_keeps passing [] = ⊥
par_keeps passing bs = branches_keep passing bs
