-- Printed programs read back.
use Rattle.std.proofs.Common.{◌≡◌, refl, sym, ap, ◌∙◌, zero, suc, List, [], ◌∷◌, map, subst}
use Rattle.ceu_tree.specs.declared.source.Block.{Block', roll-Block}
use Rattle.ceu_tree.specs.declared.source.Node.{Node}
use Rattle.ceu_tree.specs.declared.source.Source.TheBlock.{hidden-the_row-Node-3, shape-the_row-Node-3}
use Rattle.ceu_syntax.specs.declared.terminal.Kind.{Kind}
use Rattle.ceu_syntax.specs.declared.terminal.Terminal.{Terminal}
use Rattle.ceu_syntax.specs.Trees.{tree}
use Rattle.ceu_syntax.specs.Grammar.{Program, Statements}
use Rattle.laws_text_printed.specs.Places.{nowhere, unplaced, unplaced_stmt}
use Rattle.laws_text_printed.specs.Spelled.{AllSpelled, TokensSpelled}
use Rattle.laws_text_printed.specs.Statements.{kinds_of, stmt_kinds}
use Rattle.laws_text_printed.proofs.Placed.{Places, placed}
use Rattle.laws_text_printed.proofs.SpelledStatements.{statements_kept}
use Rattle.laws_text_printed.proofs.ReadingStatements.{statements_read}
use denote.Hole.Carrier

-- the places of some tokens
abbrev places_of : List Terminal → Places
places_of [] n = nowhere
places_of (t ∷ ts) zero = t.pos
places_of (t ∷ ts) (suc n) = places_of ts n

placed_again : (ts : List Terminal) → placed (map (λ t. t.kind) ts) (places_of ts) ≡ ts
placed_again [] = refl
placed_again (t ∷ ts) = ap (λ (us : List Terminal). t ∷ us) (placed_again ts)

pub reads_back : (tokens : List Terminal) (ns : List Node) → Program tokens ns → TokensSpelled tokens → (printed : List Terminal) → map (λ t. t.kind) printed ≡ kinds_of (tree ns)
    → (again : List Node) × Program printed again × (unplaced (tree again) ≡ unplaced (tree ns))
unfolding stmt_kinds unplaced_stmt hidden-the_row-Node-3 shape-the_row-Node-3 roll-Block Carrier.hidden Carrier.roll
reads_back tokens ns d h printed e =
    let r = statements_read d h [] (places_of printed) in
    let same : placed (kinds_of (tree ns)) (places_of printed) ≡ printed = ap (λ (ks : List Kind). placed ks (places_of printed)) (sym e) ∙ placed_again printed in
    (r.found, subst (λ ts. Statements ts r.found []) same r.derives, λ i. record { body = Block' (r.same i).0 (r.same i).1 })

pub all_spelled : (tokens : List Terminal) (ns : List Node) → Program tokens ns → TokensSpelled tokens → AllSpelled (kinds_of (tree ns))
unfolding stmt_kinds hidden-the_row-Node-3 roll-Block Carrier.hidden Carrier.roll
all_spelled tokens ns d h = (statements_kept d h).printed [] tt
