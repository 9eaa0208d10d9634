-- Where a program may end.
use Rattle.std.proofs.Common.{◌≡◌, refl, sym, ap, ◌∙◌, List, [], ◌∷◌, Option, Some, None, Result, Err, subst}
use Rattle.ceu_base.specs.declared.kinds.Ty.{Ty}
use Rattle.ceu_tree.specs.declared.source.Item.{Item}
use Rattle.ceu_tree.specs.declared.source.Node.{Node}
use Rattle.ceu_tree.specs.declared.source.Stmt as stmt
use Rattle.ceu_syntax.specs.declared.machine.Frame.{Frame}
use Rattle.ceu_syntax.specs.declared.machine.Frame.TheVariants as f
use Rattle.ceu_syntax.specs.declared.machine.Declaring.{Declaring}
use Rattle.ceu_syntax.specs.declared.machine.Declaring.TheVariants as d
use Rattle.ceu_syntax.specs.declared.machine.Mode.{Mode}
use Rattle.ceu_syntax.specs.declared.machine.Mode.TheVariants as m
use Rattle.ceu_syntax.specs.Runs.{finish, whole}
use Rattle.ceu_syntax.specs.Steps.{Gathered, gathered, state}
use Rattle.ceu_grammar.specs.Moves.{Finishes, Gathers}
use Rattle.ceu_grammar.specs.declared.stop.Stop.{Stop}
use Rattle.ceu_grammar.specs.declared.stop.Stop.TheVariants.{Memory, Wrong}

-- the statements of a program whose last one ended with `end`
after : Option Gathered → Option (List Node)
after None = None
after (Some g) = whole g.stack (m.In g.nodes)

after-gathered : (ty : Ty) (items : List Item) (K : List Frame) → finish (state K (m.Declaring (d.ItemEnd ty items))) ≡ after (gathered (stmt.Vars ty items) K)
unfolding after
after-gathered ty items [] = refl
after-gathered ty items (f.Begun ns at ∷ K) = refl
after-gathered ty items (_ ∷ K) = refl

pub gathered_on : (ty : Ty) (items : List Item) (ns : List Node) (K L : List Frame) (r : Result (List Node) Stop) → gathered (stmt.Vars ty items) K ≡ Some (record { nodes = ns; stack = L }) → Finishes r (whole L (m.In ns)) → Finishes r (finish (state K (m.Declaring (d.ItemEnd ty items))))
unfolding after
gathered_on ty items ns K L r e h = subst (λ o. Finishes r o) (sym (after-gathered ty items K ∙ ap (λ g. after g) e)) h

pub gathered_none : (ty : Ty) (items : List Item) (K L : List Frame) (stop : Stop) → Gathers (Err stop) L (gathered (stmt.Vars ty items) K) → Finishes (Err stop) (finish (state K (m.Declaring (d.ItemEnd ty items))))
unfolding after
gathered_none ty items K L Wrong h = after-gathered ty items K ∙ ap (λ g. after g) h
gathered_none ty items K L Memory h = tt

nothing : (K : List Frame) (mode : Mode) → ((ns : List Node) → mode ≡ m.In ns → ⊥) → whole K mode ≡ None
nothing [] (m.In ns) n = absurd (n ns refl)
nothing [] _ n = refl
nothing (frame ∷ K) _ n = refl

pub other_declaring : (mode : Declaring) (K : List Frame) → ((x : Ty) (y : List Item) → mode ≡ d.ItemEnd x y → ⊥) → finish (state K (m.Declaring mode)) ≡ None
other_declaring (d.ItemEnd ty items) K n = absurd (n ty items refl)
other_declaring _ [] n = refl
other_declaring _ (frame ∷ K) n = refl

pub other_mode : (mode : Mode) (K : List Frame) → ((ns : List Node) → mode ≡ m.In ns → ⊥) → ((x : Declaring) → mode ≡ m.Declaring x → ⊥) → finish (state K mode) ≡ None
other_mode (m.In ns) K n0 n1 = absurd (n0 ns refl)
other_mode (m.Declaring x) K n0 n1 = absurd (n1 x refl)
other_mode _ [] n0 n1 = refl
other_mode _ (frame ∷ K) n0 n1 = refl
