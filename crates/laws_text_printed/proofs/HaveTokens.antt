-- A printed text has tokens of the kinds of its tree.
use Rattle.std.proofs.Common.{◌≡◌, refl, ap, ◌∙◌, ◌-◌, List, [], ◌∷◌, map, take, drop}
use Rattle.ceu_lex.specs.Tables.{Text}
use Rattle.ceu_lex.specs.declared.token.Token.{Token}
use Rattle.ceu_syntax.specs.declared.terminal.Kind.{Kind}
use Rattle.ceu_syntax.specs.Terminals.{kind_of, letters, terminals}
use Rattle.ceu_tree.specs.declared.source.Tree.{Tree}
use Rattle.ceu_print.specs.Statements.{program_text}
use Rattle.laws_text_printed.specs.Spelled.{AllSpelled}
use Rattle.laws_text_printed.specs.Statements.{kinds_of}
use Rattle.laws_text_printed.specs.Kinds.{HasKinds}
use Rattle.laws_text_printed.proofs.Scanning.{scanned}
use Rattle.laws_text_printed.proofs.PrintedStatements.{program_says}

kinds_are : (text : Text) (tokens : List Token) → map (λ t. t.kind) (terminals text tokens) ≡ map (λ t. kind_of t.kind (take (t.end - t.start) (drop t.start text))) tokens
kinds_are text [] = refl
kinds_are text (t ∷ tokens) = ap (λ (ks : List Kind). kind_of t.kind (letters text t) ∷ ks) (kinds_are text tokens)

pub printed_kinds : (t : Tree) → AllSpelled (kinds_of t) → HasKinds (program_text t) (kinds_of t)
printed_kinds t all =
    let text = program_text t in
    let s = scanned kind_of text (kinds_of t) (program_says t all).scans in
    (s.0, s.1, kinds_are text s.0 ∙ s.2)
