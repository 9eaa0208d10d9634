-- What leaves the block around it as it is.
use Rattle.std.proofs.Common.{◌≡◌, refl, ◌∙◌, ℕ, Option, Some, None}
use Rattle.ceu_tree.specs.declared.source.Exp.{Exp}
use Rattle.ceu_tree.specs.declared.source.Arm.{Arm'}
use Rattle.ceu_tree.specs.declared.source.Stmt.{Row_of-Arm, end_of-Arm, more_of-Arm, Row_of-Block, end_of-Block, more_of-Block, Held-Stmt-If-1, Stmt-If-1-None', Stmt-If-1-Some'}
use Rattle.ceu_scopes.specs.declared.known.Scopes.{Scopes}
use Rattle.ceu_types.specs.declared.typing.Types.{Types}
use Rattle.ceu_expand.specs.declared.around.Around.{Around}
use Rattle.ceu_expand.specs.declared.draft.Draft.{Draft}
use Rattle.ceu_expand.specs.Draft.{standing, hidden}
use Rattle.ceu_expand.specs.Expressions.{exp_passed}
use Rattle.ceu_expand.specs.Parts.{nothing_in}
use Rattle.ceu_expand.specs.Expansion.{turns_passed, range_hidden, range_passed, block_passed, last_passed, arms_passed, blocks_passed, stmt_written}
use Rattle.laws_kernel_shape.proofs.Frames.{frame_standing, frame_exp}
use Rattle.laws_kernel_names.proofs.Holding.{parts_of, parts_hid, around_parts}
use Rattle.laws_kernel_names.proofs.Naming.{block_same}

pub turns_parts : (n : Option ℕ) (d : Draft) → (turns_passed n d).parts ≡ d.parts
unfolding turns_passed
turns_parts None d = refl
turns_parts (Some n) d = parts_hid 1 d

hidden_parts : (d : Draft) → (range_hidden d).parts ≡ d.parts
unfolding hidden
hidden_parts d = refl

pub range_parts : (low high : Exp) (d : Draft) → (range_passed low high d).parts ≡ d.parts
unfolding range_passed
range_parts low high d =
    let three = range_hidden d in
    parts_of three (standing d.slot (exp_passed high (exp_passed low three))) (frame_standing d.slot (exp_passed high (exp_passed low three)) ∙ frame_exp high (exp_passed low three) ∙ frame_exp low three) ∙ hidden_parts d

module _ (s : Scopes) (t : Types) where
  pub last_same : (a : Around) (b : Held-Stmt-If-1) (d : Draft) → (last_passed s t a b d).parts ≡ d.parts
  unfolding stmt_written
  last_same a Stmt-If-1-None' d = around_parts 0 nothing_in d
  last_same a (Stmt-If-1-Some' b) d = block_same s t a b d

  pub arms_same : {n : _} (a : Around) (r : Row_of-Arm n) (d : Draft) → (arms_passed s t a r d).parts ≡ d.parts
  unfolding stmt_written
  arms_same a end_of-Arm d = refl
  arms_same a (more_of-Arm (Arm' c b) rest) d = arms_same a rest (block_passed s t a b (exp_passed c d)) ∙ block_same s t a b (exp_passed c d) ∙ parts_of d (exp_passed c d) (frame_exp c d)

  pub blocks_same : {n : _} (a : Around) (r : Row_of-Block n) (d : Draft) → (blocks_passed s t a r d).parts ≡ d.parts
  unfolding stmt_written
  blocks_same a end_of-Block d = refl
  blocks_same a (more_of-Block b rest) d = blocks_same a rest (block_passed s t a b d) ∙ block_same s t a b d
