-- Whether a statement's last token is `end`, by the variants that a tree is made of.
use Rattle.std.proofs.Common.{◌≡◌, refl, ap, ◌∙◌, Bool, true, false, List, Option}
use Rattle.ceu_tree.specs.declared.source.Block.{Block}
use Rattle.ceu_tree.specs.declared.source.Source.{Source}
use Rattle.ceu_tree.specs.declared.source.Arm.{Arm}
use Rattle.ceu_tree.specs.declared.source.Item.{Item, Held-Item-value, Item-value-None', Item-value-Some', view-Item-value}
use Rattle.ceu_tree.specs.declared.source.Stmt as stmt
use Rattle.ceu_tree.specs.declared.source.Stmt.{Stmt, Row_of-Item, end_of-Item, more_of-Item, items-the_row-Item, items_hidden-the_row-Item-0}
use Rattle.ceu_tree.specs.declared.source.Source.TheBlock.{hidden-the_row-Item-0}
use Rattle.ceu_print.specs.Statements.{is_do, is_done, held_is_done, last_is_done, row_is_done, ends_in_end}

held_row : (v : Held-Item-value) → held_is_done v ≡ is_done (view-Item-value v)
held_row Item-value-None' = refl
held_row (Item-value-Some' s) = refl

done_row : {n : _} (done : Bool) (r : Row_of-Item n) → row_is_done done r ≡ last_is_done done (items-the_row-Item n r)
unfolding row_is_done
done_row done end_of-Item = refl
done_row done (more_of-Item x v rest) = done_row (held_is_done v) rest ∙ ap (λ (d : Bool). last_is_done d (items-the_row-Item _ rest)) (held_row v)

pub ends_vars : (t : _) (items : List Item) → ends_in_end (stmt.Vars t items) ≡ last_is_done false items
unfolding ends_in_end
ends_vars t items = done_row false (hidden-the_row-Item-0 items) ∙ ap (last_is_done false) (items_hidden-the_row-Item-0 items)

pub ends_assign : (x : _) (s : Source) → ends_in_end (stmt.Assign x s) ≡ is_do s
unfolding ends_in_end
ends_assign x s = refl

pub ends_code : (x ps t b : _) → ends_in_end (stmt.Code x ps t b) ≡ true
unfolding ends_in_end
ends_code x ps t b = refl

pub ends_do : (d : _) → ends_in_end (stmt.Do d) ≡ true
unfolding ends_in_end
ends_do d = refl

pub ends_finalize : (b : _) → ends_in_end (stmt.Finalize b) ≡ true
unfolding ends_in_end
ends_finalize b = refl

pub ends_if : (arms : List Arm) (last : Option Block) → ends_in_end (stmt.If arms last) ≡ true
unfolding ends_in_end
ends_if arms last = refl

pub ends_loop : (n b : _) → ends_in_end (stmt.Loop n b) ≡ true
unfolding ends_in_end
ends_loop n b = refl

pub ends_range : (r : _) → ends_in_end (stmt.Range r) ≡ true
unfolding ends_in_end
ends_range r = refl

pub ends_every : (x t b : _) → ends_in_end (stmt.Every x t b) ≡ true
unfolding ends_in_end
ends_every x t b = refl

pub ends_watching : (t b : _) → ends_in_end (stmt.Watching t b) ≡ true
unfolding ends_in_end
ends_watching t b = refl

pub ends_par : (k : _) (bs : List Block) → ends_in_end (stmt.Par k bs) ≡ true
unfolding ends_in_end
ends_par k bs = refl

pub ends_async : (xs b : _) → ends_in_end (stmt.Async xs b) ≡ true
unfolding ends_in_end
ends_async xs b = refl

pub ends_nothing : ends_in_end (stmt.Nothing) ≡ false
unfolding ends_in_end
ends_nothing = refl

pub ends_break : ends_in_end (stmt.Break) ≡ false
unfolding ends_in_end
ends_break = refl

pub ends_continue : ends_in_end (stmt.Continue) ≡ false
unfolding ends_in_end
ends_continue = refl

pub ends_alias : (c x s : _) → ends_in_end (stmt.AliasDecl c x s) ≡ false
unfolding ends_in_end
ends_alias c x s = refl

pub ends_events : (t xs : _) → ends_in_end (stmt.Events t xs) ≡ false
unfolding ends_in_end
ends_events t xs = refl

pub ends_inputs : (t xs : _) → ends_in_end (stmt.Inputs t xs) ≡ false
unfolding ends_in_end
ends_inputs t xs = refl

pub ends_outputs : (t xs : _) → ends_in_end (stmt.Outputs t xs) ≡ false
unfolding ends_in_end
ends_outputs t xs = refl

pub ends_pool : (n c x : _) → ends_in_end (stmt.Pool n c x) ≡ false
unfolding ends_in_end
ends_pool n c x = refl

pub ends_emit : (x e : _) → ends_in_end (stmt.Emit x e) ≡ false
unfolding ends_in_end
ends_emit x e = refl

pub ends_await : (a : _) → ends_in_end (stmt.Await a) ≡ false
unfolding ends_in_end
ends_await a = refl

pub ends_spawn : (s : _) → ends_in_end (stmt.Spawn s) ≡ false
unfolding ends_in_end
ends_spawn s = refl

pub ends_kill : (x : _) → ends_in_end (stmt.Kill x) ≡ false
unfolding ends_in_end
ends_kill x = refl

pub ends_escape : (l e : _) → ends_in_end (stmt.Escape l e) ≡ false
unfolding ends_in_end
ends_escape l e = refl

pub ruleset ends = (ends_vars, ends_assign, ends_code, ends_do, ends_finalize, ends_if, ends_loop, ends_range, ends_every, ends_watching, ends_par, ends_async, ends_nothing, ends_break, ends_continue, ends_alias, ends_events, ends_inputs, ends_outputs, ends_pool, ends_emit, ends_await, ends_spawn, ends_kill, ends_escape)
