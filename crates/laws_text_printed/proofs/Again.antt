-- What is printed of a tree that some tokens derive reads back.
use Rattle.std.proofs.Common.{◌≡◌, refl, sym, subst, ℕ, List, ap, ◌∙◌}
use Rattle.ceu_lex.specs.declared.token.Token.{Token}
use Rattle.ceu_lex.specs.Texts.{Reads}
use Rattle.ceu_syntax.specs.Grammar.{Derives, Program}
use Rattle.ceu_syntax.specs.Terminals.{terminals}
use Rattle.ceu_syntax.specs.Trees.{tree}
use Rattle.ceu_tree.specs.declared.source.Node.{Node}
use Rattle.ceu_tree.specs.declared.source.Tree.{Tree}
use Rattle.ceu_print.specs.Statements.{program_text}
use Rattle.ceu_lex.proofs.Once.{reads_once}
use Rattle.ceu_syntax.proofs.Exact.{one_derived}
use Rattle.laws_text_printed.specs.Places.{unplaced}
use Rattle.laws_text_printed.proofs.Programs.{all_spelled, reads_back}
use Rattle.laws_text_printed.proofs.SameText.{same_text}
use Rattle.laws_text_printed.specs.Again.{ReadsBack}
use Rattle.laws_text_printed.proofs.Tokens.{tokens_spelled}
use Rattle.laws_text_printed.proofs.HaveTokens.{printed_kinds}

program_back : (text : List ℕ) (tokens : List Token) (ns : List Node) → Reads text tokens → Program (terminals text tokens) ns → ReadsBack (tree ns)
program_back text tokens ns reads program =
    let spelled = tokens_spelled text tokens reads in
    let printed = printed_kinds (tree ns) (all_spelled (terminals text tokens) ns program spelled) in
    let back = reads_back (terminals text tokens) ns program spelled (terminals (program_text (tree ns)) printed.0) printed.2 in
    record { tokens = printed.0; again = tree back.0; reads = printed.1; derives = (back.0, back.1, refl); same = back.2 }

pub derived_back : (text : List ℕ) (tokens : List Token) (t : Tree) → Reads text tokens → Derives text tokens t → ReadsBack t
derived_back text tokens t reads derived = subst ReadsBack (sym derived.2) (program_back text tokens derived.0 reads derived.1)

-- its tokens are the only ones, so it reads back to nothing else
pub only_back : (text : List ℕ) (tokens : List Token) (t : Tree) → Reads text tokens → Derives text tokens t → (read : List Token) (u : Tree) → Reads (program_text t) read → Derives (program_text t) read u → unplaced u ≡ unplaced t
only_back text tokens t reads derived read u again derives =
    let back = derived_back text tokens t reads derived in
    let same : read ≡ back.tokens = reads_once (program_text t) read back.tokens again back.reads in
    ap unplaced (one_derived (program_text t) back.tokens u back.again (subst (λ l. Derives (program_text t) l u) same derives) back.derives) ∙ back.same

pub printed_again : (text : List ℕ) (tokens : List Token) (t : Tree) → Reads text tokens → Derives text tokens t → (read : List Token) (u : Tree) → Reads (program_text t) read → Derives (program_text t) read u → program_text u ≡ program_text t
printed_again text tokens t reads derived read u again derives = same_text t u (only_back text tokens t reads derived read u again derives)
