-- The tree that the tokens of a text derive has positions, names and numbers of tokens.
use Rattle.std.proofs.Common.{sym, subst, ℕ, ◌+◌, arith, List, [], ◌∷◌, Bool, true, false, take}
use Rattle.std.specs.Prelude.{◌==◌, if◌then◌else◌}
use Rattle.ceu_base.specs.declared.kinds.Pos.{Pos}
use Rattle.ceu_lex.specs.declared.token.Token.{Token}
use Rattle.ceu_lex.specs.Positions.{first_pos, next_pos, pos_after, position_of}
use Rattle.ceu_lex.specs.Texts.{ReadsTo, Reads}
use Rattle.ceu_syntax.specs.Terminals.{terminals}
use Rattle.ceu_syntax.specs.Trees.{tree}
use Rattle.ceu_syntax.specs.Grammar.{Derives, Program}
use Rattle.ceu_tree.specs.declared.source.Node.{Node}
use Rattle.ceu_tree.specs.declared.source.Tree.{Tree}
use Rattle.ceu_tree.specs.declared.source.Block.{roll-Block}
use Rattle.ceu_tree.specs.declared.source.Source.TheBlock.{hidden-the_row-Node-3}
use Rattle.laws_text_printed.specs.Spelled.{TokensSpelled}
use Rattle.laws_text_printed.proofs.Tokens.{tokens_spelled}
use Rattle.laws_kernel_shape.specs.Shaped.{IsPlace, Placed, TreePlaced}
use Rattle.laws_kernel_names.specs.Ports.{TreeNamed}
use Rattle.laws_kernel_types.specs.Times.{Timed, TreeTimed}
use Rattle.laws_kernel_proper.proofs.Deriving.{Good, many}
use denote.Hole.Carrier

next_place : (b : Bool) (p : Pos) → IsPlace p → IsPlace (if b then record { line = p.line + 1; col = 1 } else record { line = p.line; col = p.col + 1 })
next_place true p h = (omega arith, omega arith)
next_place false p h = (h.0, omega arith)

place_after : (p : Pos) (bytes : List ℕ) → IsPlace p → IsPlace (pos_after p bytes)
unfolding pos_after
place_after p [] h = h
place_after p (b ∷ bytes) h = place_after (next_pos p b) bytes (next_place (b == 10) p h)

place_of : (text : List ℕ) (at : ℕ) → IsPlace (position_of text at)
place_of text at = place_after first_pos (take at text) (omega arith, omega arith)

good_tokens : (text : List ℕ) (from : ℕ) (tokens : List Token) (to : ℕ) → ReadsTo text from tokens to → TokensSpelled (terminals text tokens) → Good (terminals text tokens)
good_tokens text from [] to h k = tt
good_tokens text from (token ∷ tokens) to h k = ((subst IsPlace (sym h.0.place) (place_of text token.start), k.0), good_tokens text token.end tokens to h.1 k.1)

program_placed : (text : List ℕ) (tokens : List Token) (ns : List Node) → Reads text tokens → Program (terminals text tokens) ns → TreePlaced (tree ns) × TreeNamed (tree ns) × TreeTimed (tree ns)
unfolding Placed Timed hidden-the_row-Node-3 roll-Block Carrier.hidden Carrier.roll
program_placed text tokens ns reads program =
    let r = many program (good_tokens text 0 tokens reads.0 reads.1 (tokens_spelled text tokens reads)) in
    (r.placed, r.ports, r.timed)

pub placed : (text : List ℕ) (tokens : List Token) (t : Tree) → Reads text tokens → Derives text tokens t → TreePlaced t × TreeNamed t × TreeTimed t
placed text tokens t reads derived = subst (λ u. TreePlaced u × TreeNamed u × TreeTimed u) (sym derived.2) (program_placed text tokens derived.0 reads derived.1)
