-- How printed statements and programs are read.
use Rattle.std.proofs.Common.{◌≡◌, refl, sym, ap, ◌∙◌, subst, Bool, List, [], ◌∷◌, ◌++◌, map, codes, append-nil, Ok, Err}
use Rattle.ceu_base.specs.declared.kinds.Rule.TheVariants.{L1}
use Rattle.ceu_lex.specs.Tables.{symbols}
use Rattle.ceu_lex.specs.Lexemes.{Lexeme, lexeme, symbol}
use Rattle.ceu_lex.specs.declared.token.TokenKind.TheVariants as lexed
use Rattle.ceu_tree.specs.declared.kernel.ParKind.{ParKind}
use Rattle.ceu_tree.specs.declared.kernel.ParKind.TheVariants as par
use Rattle.ceu_tree.specs.declared.source.Exp.{Exp}
use Rattle.ceu_tree.specs.declared.source.Source as source
use Rattle.ceu_tree.specs.declared.source.Source.{Source}
use Rattle.ceu_tree.specs.declared.source.Item.{Held-Item-value, Item-value-None', Item-value-Some'}
use Rattle.ceu_tree.specs.declared.source.Do.{Do, Do'}
use Rattle.ceu_tree.specs.declared.source.Block.{Block, Block', out-Block, Row_of-Node, end_of-Node, more_of-Node, items-the_row-Node, items_shown-the_row-Node-3}
use Rattle.ceu_tree.specs.declared.source.Arm.{Arm, Arm'}
use Rattle.ceu_tree.specs.declared.source.Range.{Range, Range'}
use Rattle.ceu_tree.specs.declared.source.Stmt as stmt
use Rattle.ceu_tree.specs.declared.source.Stmt.{Stmt, Vars', If', Par', Row_of-Item, end_of-Item, more_of-Item, Row_of-Arm, end_of-Arm, more_of-Arm, Row_of-Block, end_of-Block, more_of-Block, Held-Stmt-If-1, Stmt-If-1-None', Stmt-If-1-Some'}
use Rattle.ceu_tree.specs.declared.source.Tree.{Tree}
use Rattle.ceu_syntax.specs.declared.terminal.Kind.{Kind}
use Rattle.ceu_syntax.specs.declared.terminal.Kind.TheVariants as k
use Rattle.ceu_print.specs.Lists.{Text, each_after, joined, all}
use Rattle.ceu_print.specs.Words.{par_text}
use Rattle.ceu_print.specs.Expressions.{exp_text}
use Rattle.ceu_print.specs.Statements.{deeper, line_text, ends_in_end, stmt_text, source_text, value_text, do_text, body_text, block_text, arm_text, last_text, range_text, item_texts, arm_texts, block_texts, line_texts, node_line, lines_text, program_text}
use Rattle.laws_text_printed.specs.ReadingWords.{par_kinds}
use Rattle.laws_text_printed.specs.Expressions.{exp_kinds}
use Rattle.laws_text_printed.specs.Spelled.{AllSpelled}
use Rattle.laws_text_printed.specs.Statements.{ended_kinds, stmt_kinds, source_kinds, value_kinds, do_kinds, body_kinds, block_kinds, arm_kinds, last_kinds, range_kinds, items_kinds, more_items, arms_kinds, more_arms, branches_kinds, more_branches, nodes_kinds, kinds_of}
use Rattle.laws_text_printed.specs.SpellingWords.{Ends}
use Rattle.laws_text_printed.proofs.Scanning.{at_end}
use Rattle.laws_text_printed.proofs.Printing.{Prints, Opens, Follows, Says, oo, op, po, pp, loose, nothing, none_follows, starts, leaf, slash, space, line_break}
use Rattle.laws_text_printed.proofs.Keywords.{word_nothing, word_break, word_continue, word_var, word_event, word_input, word_output, word_pool, word_emit, word_kill, word_escape, word_do, word_finalize, word_if, word_then, word_else, word_end, word_with, word_type}
use Rattle.laws_text_printed.proofs.Symbols.{sym_open_bracket, sym_close_bracket, sym_ampersand, sym_question, spaced_assign}
use Rattle.laws_text_printed.proofs.Leaves.{number_leaf}
use Rattle.laws_text_printed.proofs.PrintedExpressions.{lower_prints, abs_prints, comma_space, each_follows, exp_prints, spawn_prints, await_prints}
use Rattle.laws_text_printed.proofs.Parts.{lowers_print, exts_print, start_prints, start_follows, emitted_prints, emitted_follows, left_prints, left_follows, answer_prints, answer_follows, event_prints, vars_opens, target_opens, code_prints, do_head_prints, loop_prints, range_prints, every_prints, watching_prints, async_prints, par_prints, end_opens, end_ends}
use denote.Hole.Carrier

-- a text of blanks
abbrev Blanks : Text → Type 0
Blanks m = Opens m (λ after. after)

more_blanks : (m : Text) → Blanks m → Blanks (deeper m)
unfolding deeper
more_blanks m b = oo b (oo space (oo space (oo space space)))

block_starts : (b : Block) (m rest : Text) → Ends (block_text b m ++ rest)
unfolding stmt_text
block_starts (Block' x list) m rest = refl

body_follows : (b : Block) (m : Text) → Follows (body_text b m)
unfolding stmt_text
body_follows (Block' x list) m = starts (body_text (Block' x list) m) (λ rest. refl)

line_opens : (ends : Bool) {m text : Text} {kinds : List Kind → List Kind} → Blanks m → Prints text kinds → Opens (line_text m text ends) (λ after. kinds (ended_kinds ends after))
line_opens ends b p = po (op b p) (end_ends ends) (end_opens ends)

arm_led : {lead : Text} {kinds : List Kind → List Kind} → Opens lead kinds → (c : Exp) (b : Block) (m : Text) → Opens (block_text b m) (block_kinds b)
    → Opens (lead ++ exp_text c ++ codes " then" ++ block_text b m) (λ after. kinds (exp_kinds c (k.Then ∷ block_kinds b after)))
arm_led l c b m o = po (pp (op l (exp_prints c)) (starts (codes " then") (λ rest. refl)) (op space (leaf word_then))) (block_starts b m) o

if_space : Opens (codes "if ") (λ after. k.If ∷ after)
if_space = po (leaf word_if) (λ rest. refl) space

else_if_space : Opens (codes "else/if ") (λ after. k.Else ∷ k.Slash ∷ k.If ∷ after)
else_if_space = po (pp (leaf word_else) (starts (codes "/if") (λ rest. refl)) (slash word_if)) (λ rest. refl) space

-- ---- a par has a branch

no_token : lexeme [] ≡ Err L1
unfolding lexeme symbol symbols
no_token = refl

no_name : lexeme [] ≡ Ok (lexed.Lower, 0) → ⊥
no_name e = let f : (let r : Lexeme = Err L1 in r) ≡ Ok (lexed.Lower, 0) = sym no_token ∙ e in cc

no_branch : (p : ParKind) (after : List Kind) → AllSpelled (par_kinds p (k.Lower [] ∷ after)) → ⊥
no_branch par.Never after all = no_name all.1.1.0
no_branch par.Or after all = no_name all.1.1.1.1.0
no_branch par.And after all = no_name all.1.1.1.1.0

-- ---- statements

mutual
  unfolding stmt_text stmt_kinds

  stmt_prints : (s : Stmt) (m : Text) → Blanks m → Prints (stmt_text s m) (stmt_kinds s)
  stmt_prints stmt.Nothing m b = leaf word_nothing
  stmt_prints stmt.Break m b = leaf word_break
  stmt_prints stmt.Continue m b = leaf word_continue
  stmt_prints (Vars' t _ items) m b = op (vars_opens t) (items_print items m b)
  stmt_prints (stmt.AliasDecl c x s) m b =
      pp (op (po (op (oo (oo (po (leaf word_var) (λ rest. refl) sym_ampersand) sym_question) space) (abs_prints c)) (λ rest. refl) space) (lower_prints x)) (start_follows s) (start_prints s)
  stmt_prints (stmt.Events t xs) m b = op (po (op (po (leaf word_event) (λ rest. refl) space) (leaf (word_type t))) (λ rest. refl) space) (lowers_print xs)
  stmt_prints (stmt.Inputs t xs) m b = op (po (op (po (leaf word_input) (λ rest. refl) space) (leaf (word_type t))) (λ rest. refl) space) (exts_print xs)
  stmt_prints (stmt.Outputs t xs) m b = op (po (op (po (leaf word_output) (λ rest. refl) space) (leaf (word_type t))) (λ rest. refl) space) (exts_print xs)
  stmt_prints (stmt.Pool n c x) m b =
      op (po (op (po (op (po (leaf word_pool) (λ rest. refl) sym_open_bracket) (leaf (number_leaf n))) (λ rest. refl) (oo sym_close_bracket space)) (abs_prints c)) (λ rest. refl) space) (lower_prints x)
  stmt_prints (stmt.Code x ps t body) m b = pp (code_prints x ps t) (body_follows body m) (body_prints body m b)
  stmt_prints (stmt.Assign x s) m b = op (target_opens x) (source_prints s m b)
  stmt_prints (stmt.Emit x e) m b = pp (op (po (leaf word_emit) (λ rest. refl) space) (event_prints x)) (emitted_follows e) (emitted_prints e)
  stmt_prints (stmt.Await a) m b = await_prints a
  stmt_prints (stmt.Spawn s) m b = spawn_prints s
  stmt_prints (stmt.Kill x) m b = op (po (leaf word_kill) (λ rest. refl) space) (lower_prints x)
  stmt_prints (stmt.Escape l e) m b = pp (pp (leaf word_escape) (left_follows l) (left_prints l)) (answer_follows e) (answer_prints e)
  stmt_prints (stmt.Do d) m b = do_prints d m b
  stmt_prints (stmt.Finalize body) m b =
      pp (op (oo (po (leaf word_do) (λ rest. refl) space) (po (leaf word_finalize) (λ rest. refl) space)) (leaf word_with)) (body_follows body m) (body_prints body m b)
  stmt_prints (If' _ arms last) m b = op (arms_open arms m b) (last_prints last m b)
  stmt_prints (stmt.Loop n body) m b = pp (loop_prints n) (body_follows body m) (body_prints body m b)
  stmt_prints (stmt.Range r) m b = range_of_prints r m b
  stmt_prints (stmt.Every x t body) m b = pp (every_prints x t) (body_follows body m) (body_prints body m b)
  stmt_prints (stmt.Watching t body) m b = pp (watching_prints t) (body_follows body m) (body_prints body m b)
  stmt_prints (Par' p _ bs) m b = branches_print p bs m b
  stmt_prints (stmt.Async xs body) m b = pp (async_prints xs) (body_follows body m) (body_prints body m b)

  source_prints : (s : Source) (m : Text) → Blanks m → Prints (source_text s m) (source_kinds s)
  source_prints (source.Value e) m b = exp_prints e
  source_prints (source.Wait a) m b = await_prints a
  source_prints (source.Start s) m b = spawn_prints s
  source_prints (source.Done d) m b = do_prints d m b

  value_prints : (v : Held-Item-value) (m : Text) → Blanks m → Prints (value_text v m) (value_kinds v)
  value_prints Item-value-None' m b = loose nothing
  value_prints (Item-value-Some' s) m b = op spaced_assign (source_prints s m b)

  value_follows : (v : Held-Item-value) (m : Text) → Follows (value_text v m)
  value_follows Item-value-None' m = none_follows
  value_follows (Item-value-Some' s) m = starts (value_text (Item-value-Some' s) m) (λ rest. refl)

  do_prints : (d : Do) (m : Text) → Blanks m → Prints (do_text d m) (do_kinds d)
  do_prints (Do' l body) m b = pp (do_head_prints l) (body_follows body m) (body_prints body m b)

  body_prints : (body : Block) (m : Text) → Blanks m → Prints (body_text body m) (body_kinds body)
  body_prints (Block' _ list) m b = op (oo (oo line_break (lines_open list (deeper m) (more_blanks m b))) b) (leaf word_end)

  block_opens : (body : Block) (m : Text) → Blanks m → Opens (block_text body m) (block_kinds body)
  block_opens (Block' _ list) m b = oo (oo line_break (lines_open list (deeper m) (more_blanks m b))) b

  first_arm : (a : Arm) (m : Text) → Blanks m → Opens (arm_text a m) (arm_kinds a)
  first_arm (Arm' c body) m b = arm_led if_space c body m (block_opens body m b)

  later_arm : (a : Arm) (m : Text) → Blanks m → Opens (codes "else/" ++ arm_text a m) (λ after. k.Else ∷ k.Slash ∷ arm_kinds a after)
  later_arm (Arm' c body) m b = arm_led else_if_space c body m (block_opens body m b)

  last_prints : (last : Held-Stmt-If-1) (m : Text) → Blanks m → Prints (last_text last m) (last_kinds last)
  last_prints Stmt-If-1-None' m b = leaf word_end
  last_prints (Stmt-If-1-Some' body) m b = pp (leaf word_else) (body_follows body m) (body_prints body m b)

  range_of_prints : (r : Range) (m : Text) → Blanks m → Prints (range_text r m) (range_kinds r)
  range_of_prints (Range' x open_a a c open_b body) m b = pp (range_prints x open_a a c open_b) (body_follows body m) (body_prints body m b)

  items_print : {n : _} (r : Row_of-Item n) (m : Text) → Blanks m → Prints (joined (codes ", ") (item_texts r m)) (items_kinds r)
  items_print end_of-Item m b = loose nothing
  items_print (more_of-Item x v rest) m b = pp (pp (lower_prints x) (value_follows v m) (value_prints v m b)) (each_follows (item_texts rest m)) (more_items_print rest m b)

  more_items_print : {n : _} (r : Row_of-Item n) (m : Text) → Blanks m → Prints (each_after (codes ", ") (item_texts r m)) (more_items r)
  more_items_print end_of-Item m b = loose nothing
  more_items_print (more_of-Item x v rest) m b = pp (op comma_space (pp (lower_prints x) (value_follows v m) (value_prints v m b))) (each_follows (item_texts rest m)) (more_items_print rest m b)

  arms_open : {n : _} (r : Row_of-Arm n) (m : Text) → Blanks m → Opens (joined (codes "else/") (arm_texts r m)) (arms_kinds r)
  arms_open end_of-Arm m b = nothing
  arms_open (more_of-Arm a rest) m b = oo (first_arm a m b) (more_arms_open rest m b)

  more_arms_open : {n : _} (r : Row_of-Arm n) (m : Text) → Blanks m → Opens (each_after (codes "else/") (arm_texts r m)) (more_arms r)
  more_arms_open end_of-Arm m b = nothing
  more_arms_open (more_of-Arm a rest) m b = oo (later_arm a m b) (more_arms_open rest m b)

  branches_print : (p : ParKind) {n : _} (r : Row_of-Block n) (m : Text) → Blanks m → Prints (par_text p ++ (joined (codes "with") (block_texts r m) ++ codes "end")) (λ after. par_kinds p (branches_kinds r (k.End ∷ after)))
  branches_print p end_of-Block m b = record { prints = λ rest after ends h all. absurd (no_branch p (k.End ∷ after) all) }
  branches_print p (more_of-Block body rest) m b =
      pp (par_prints p) (branches_follow body rest m) (op (oo (block_opens body m b) (more_branches_open rest m b)) (leaf word_end))

  branches_follow : {n : _} (body : Block) (rest : Row_of-Block n) (m : Text) → Follows (joined (codes "with") (block_text body m ∷ block_texts rest m) ++ codes "end")
  branches_follow (Block' x list) rest m = starts (joined (codes "with") (block_text (Block' x list) m ∷ block_texts rest m) ++ codes "end") (λ after. refl)

  more_branches_open : {n : _} (r : Row_of-Block n) (m : Text) → Blanks m → Opens (each_after (codes "with") (block_texts r m)) (more_branches r)
  more_branches_open end_of-Block m b = nothing
  more_branches_open (more_of-Block body rest) m b = oo (po (leaf word_with) (block_starts body m) (block_opens body m b)) (more_branches_open rest m b)

  lines_open : {n : _} (r : Row_of-Node n) (m : Text) → Blanks m → Opens (all (line_texts r m)) (nodes_kinds r)
  lines_open end_of-Node m b = nothing
  lines_open (more_of-Node p s rest) m b = oo (line_opens (ends_in_end s) b (stmt_prints s m b)) (lines_open rest m b)

-- ---- programs

lines_row : {n : _} (r : Row_of-Node n) (m : Text) → line_texts r m ≡ map (node_line m) (items-the_row-Node n r)
unfolding stmt_text
lines_row end_of-Node m = refl
lines_row (more_of-Node p s rest) m = ap (λ (ts : List Text). line_text m (stmt_text s m) (ends_in_end s) ∷ ts) (lines_row rest m)

-- the lines of a block without a margin
abbrev pub rows_text : Block → Text
rows_text (Block' x list) = all (line_texts list [])

pub program_is : (b : Block) → lines_text [] (out-Block b).list ≡ rows_text b
unfolding stmt_text out-Block Carrier.out
program_is (Block' x list) = ap all (ap (map (node_line [])) (items_shown-the_row-Node-3 x list) ∙ sym (lines_row list []))

rows_open : (b : Block) → Opens (rows_text b) (block_kinds b)
unfolding stmt_kinds
rows_open (Block' x list) = lines_open list [] nothing

program_opens : (b : Block) → Opens (lines_text [] (out-Block b).list) (block_kinds b)
program_opens b = subst (λ text. Opens text (block_kinds b)) (sym (program_is b)) (rows_open b)

pub program_says : (t : Tree) → Says (program_text t) (kinds_of t)
program_says t = subst (λ text. Says text (kinds_of t)) (append-nil (program_text t)) ((program_opens t.body).opens [] [] (λ all. record { scans = at_end; front = refl }))
