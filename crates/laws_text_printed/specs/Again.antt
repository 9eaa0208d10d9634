-- What it means that a printed tree reads back.
use Rattle.std.specs.Prelude.{◌≡◌, List}
use Rattle.ceu_lex.specs.declared.token.Token.{Token}
use Rattle.ceu_lex.specs.Texts.{Reads}
use Rattle.ceu_syntax.specs.Grammar.{Derives}
use Rattle.ceu_tree.specs.declared.source.Tree.{Tree}
use Rattle.ceu_print.specs.Statements.{program_text}
use Rattle.laws_text_printed.specs.Places.{unplaced}

-- The printed text of a tree has tokens, and these derive the same tree but for positions.
pub record ReadsBack (t : Tree) : Type 0 where
  pub tokens : List Token
  pub again : Tree
  pub reads : Reads (program_text t) tokens
  pub derives : Derives (program_text t) tokens again
  pub same : unplaced again ≡ unplaced t
