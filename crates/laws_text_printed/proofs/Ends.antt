-- Which statements end with `end`, by what they derive from; lists of parts, each but the first behind its separator.
use Rattle.std.proofs.Common.{◌≡◌, refl, Bool, false, List, [], ◌∷◌}
use Rattle.ceu_tree.specs.declared.source.Source.{Source}
use Rattle.ceu_tree.specs.declared.source.Source.TheBlock.{hidden-the_row-Item-0, hidden-the_row-Block-2}
use Rattle.ceu_tree.specs.declared.source.Item.{Item}
use Rattle.ceu_tree.specs.declared.source.Block.{Block}
use Rattle.ceu_tree.specs.declared.source.Node.{Node}
use Rattle.ceu_syntax.specs.declared.terminal.Kind.{Kind}
use Rattle.ceu_syntax.specs.declared.terminal.Kind.TheVariants as k
use Rattle.ceu_syntax.specs.declared.terminal.Terminal.{Terminal}
use Rattle.ceu_syntax.specs.Grammar.{Forms, is_vars, is_assign, Sources, is_value, is_wait, is_start, is_done, ItemOf, is_bare, is_initial, Items, last_item, one_item, Branches, last_branch, one_branch}
use Rattle.ceu_print.specs.Statements.{is_do, row_is_done, ends_in_end}
use Rattle.laws_text_printed.specs.Statements.{stmt_kinds, items_kinds, more_items, branches_kinds, more_branches}
use denote.Hole.Carrier

sources_end : {tokens : List Terminal} {s : Source} {b : Bool} {rest : List Terminal} → Sources tokens s b rest → is_do s ≡ b
sources_end (is_value d) = refl
sources_end (is_wait at d) = refl
sources_end (is_start d) = refl
sources_end (is_done at d) = refl

item_ends : {tokens : List Terminal} {i : Item} {b : Bool} {rest : List Terminal} → ItemOf tokens i b rest → (done : Bool) → row_is_done done (hidden-the_row-Item-0 (i ∷ [])) ≡ b
unfolding row_is_done hidden-the_row-Item-0 Carrier.hidden
item_ends (is_bare x at rest) done = refl
item_ends (is_initial x at equal d) done = sources_end d

items_end : {tokens : List Terminal} {is : List Item} {b : Bool} {rest : List Terminal} → Items tokens is b rest → (done : Bool) → row_is_done done (hidden-the_row-Item-0 is) ≡ b
unfolding row_is_done hidden-the_row-Item-0 Carrier.hidden
items_end (last_item d) done = item_ends d done
items_end (one_item {i = i} comma d m) done = items_end m (row_is_done false (hidden-the_row-Item-0 (i ∷ [])))

pub forms_end : {tokens : List Terminal} {n : Node} {b : Bool} {rest : List Terminal} → Forms tokens n b rest → ends_in_end n.stmt ≡ b
unfolding ends_in_end
forms_end (is_vars ty at of d) = items_end d false
forms_end (is_assign equal l d) = sources_end d
forms_end _ = refl

pub item_comma : {tokens : List Terminal} {is : List Item} {b : Bool} {rest : List Terminal} → Items tokens is b rest → (after : List Kind)
    → k.Comma ∷ items_kinds (hidden-the_row-Item-0 is) after ≡ more_items (hidden-the_row-Item-0 is) after
unfolding stmt_kinds hidden-the_row-Item-0 Carrier.hidden
item_comma (last_item d) after = refl
item_comma (one_item comma d m) after = refl

pub branch_with : {tokens : List Terminal} {bs : List Block} {rest : List Terminal} → Branches tokens bs rest → (after : List Kind)
    → k.With ∷ branches_kinds (hidden-the_row-Block-2 bs) after ≡ more_branches (hidden-the_row-Block-2 bs) after
unfolding stmt_kinds hidden-the_row-Block-2 Carrier.hidden
branch_with (last_branch end d) after = refl
branch_with (one_branch with d m) after = refl
