-- How the parts of printed statements are read, up to what may hold a block.
use Rattle.std.proofs.Common.{refl, ℕ, Bool, true, false, List, [], ◌∷◌, ◌++◌, map, codes, Option, Some, None}
use Rattle.ceu_base.specs.declared.kinds.Ty.{Ty}
use Rattle.ceu_base.specs.declared.kinds.Ty.TheVariants as ty
use Rattle.ceu_tree.specs.declared.kernel.ParKind.{ParKind}
use Rattle.ceu_tree.specs.declared.kernel.ParKind.TheVariants as par
use Rattle.ceu_tree.specs.declared.source.Ident.{Ident}
use Rattle.ceu_tree.specs.declared.source.Exp.{Exp}
use Rattle.ceu_tree.specs.declared.source.Param.{Param}
use Rattle.ceu_tree.specs.declared.source.Spawn.{Spawn}
use Rattle.ceu_tree.specs.declared.source.Label.{Label}
use Rattle.ceu_tree.specs.declared.source.Label.TheVariants as label
use Rattle.ceu_tree.specs.declared.source.Target.{Target}
use Rattle.ceu_syntax.specs.declared.terminal.Kind.TheVariants as k
use Rattle.ceu_syntax.specs.Terminals as syntax
use Rattle.ceu_print.specs.Lists.{Text, each_after}
use Rattle.ceu_print.specs.Words.{outer_text, ident_text, par_text}
use Rattle.ceu_print.specs.Statements.{names_text, param_text, params_text, label_text, start_text, emitted_text, left_text, answer_text, limit_text, received_text, shared_text, left_bracket, right_bracket, vars_head, target_head, code_name, listed_params, code_head, do_head, loop_head, interval_text, range_head, every_head, watching_head, async_head, line_end}
use Rattle.laws_text_printed.specs.ReadingWords.{outer_kinds, lower_kinds, abs_kinds, event_kinds, par_kinds}
use Rattle.laws_text_printed.specs.Expressions.{exp_kinds, target_kinds}
use Rattle.laws_text_printed.specs.Statements.{more_lowers, lowers_kinds, more_exts, exts_kinds, param_kinds, more_params, params_kinds, label_kinds, start_kinds, emitted_kinds, left_kinds, answer_kinds, limit_kinds, received_kinds, shared_kinds, ended_kinds}
use Rattle.laws_text_printed.specs.SpellingWords.{Ends}
use Rattle.laws_text_printed.proofs.Printing.{Prints, Opens, Follows, oo, op, po, pp, loose, nothing, none_follows, starts, leaf, slash, space, line_break}
use Rattle.laws_text_printed.proofs.Keywords.{word_outer, word_var, word_code, word_await, word_do, word_loop, word_every, word_watching, word_async, word_par, word_or, word_and, word_type}
use Rattle.laws_text_printed.proofs.Symbols.{sym_open_paren, sym_close_paren, sym_open_bracket, sym_close_bracket, sym_dot, sym_semicolon, spaced_assign, spaced_arrow}
use Rattle.laws_text_printed.proofs.Leaves.{lower_leaf, under_leaf, event_leaf, number_leaf}
use Rattle.laws_text_printed.proofs.PrintedExpressions.{ident_prints, lower_prints, ext_prints, abs_prints, comma_space, each_follows, exp_prints, spawn_prints, in_space, target_prints}

-- ---- lists

more_lowers_print : (xs : List Ident) → Prints (each_after (codes ", ") (map ident_text xs)) (more_lowers xs)
more_lowers_print [] = loose nothing
more_lowers_print (x ∷ xs) = pp (op comma_space (lower_prints x)) (each_follows (map ident_text xs)) (more_lowers_print xs)

pub lowers_print : (xs : List Ident) → Prints (names_text xs) (lowers_kinds xs)
lowers_print [] = loose nothing
lowers_print (x ∷ xs) = pp (lower_prints x) (each_follows (map ident_text xs)) (more_lowers_print xs)

more_exts_print : (xs : List Ident) → Prints (each_after (codes ", ") (map ident_text xs)) (more_exts xs)
more_exts_print [] = loose nothing
more_exts_print (x ∷ xs) = pp (op comma_space (ext_prints x)) (each_follows (map ident_text xs)) (more_exts_print xs)

pub exts_print : (xs : List Ident) → Prints (names_text xs) (exts_kinds xs)
exts_print [] = loose nothing
exts_print (x ∷ xs) = pp (ext_prints x) (each_follows (map ident_text xs)) (more_exts_print xs)

var_space : Opens (codes "var ") (λ after. k.Var ∷ after)
var_space = po (leaf word_var) (λ rest. refl) space

param_prints : (p : Param) → Prints (param_text p) (param_kinds p)
param_prints p = op (po (op var_space (leaf (word_type p.ty))) (λ rest. refl) space) (lower_prints p.name)

more_params_print : (ps : List Param) → Prints (each_after (codes ", ") (map param_text ps)) (more_params ps)
more_params_print [] = loose nothing
more_params_print (p ∷ ps) = pp (op comma_space (param_prints p)) (each_follows (map param_text ps)) (more_params_print ps)

params_print : (ps : List Param) → Prints (params_text ps) (params_kinds ps)
params_print [] = leaf (word_type ty.None)
params_print (p ∷ ps) = pp (param_prints p) (each_follows (map param_text ps)) (more_params_print ps)

-- ---- what may be left out

slash_ident : (o : Bool) (x : Text) → Prints (codes "/" ++ (outer_text o ++ x)) (λ after. k.Slash ∷ outer_kinds o (k.Lower x ∷ after))
slash_ident true x = op (po (slash word_outer) (λ rest. refl) sym_dot) (leaf (lower_leaf x))
slash_ident false x = slash (lower_leaf x)

label_prints : (l : Label) → Prints (label_text l) (label_kinds l)
label_prints label.Plain = loose nothing
label_prints label.Under = slash under_leaf
label_prints (label.Named x) = slash_ident x.outer x.name

label_follows : (l : Label) → Follows (label_text l)
label_follows label.Plain = none_follows
label_follows label.Under = starts (codes "/_") (λ rest. refl)
label_follows (label.Named x) = starts (codes "/" ++ ident_text x) (λ rest. refl)

pub start_prints : (s : Option Spawn) → Prints (start_text s) (start_kinds s)
start_prints None = loose nothing
start_prints (Some s) = op spaced_assign (spawn_prints s)

pub start_follows : (s : Option Spawn) → Follows (start_text s)
start_follows None = none_follows
start_follows (Some s) = starts (start_text (Some s)) (λ rest. refl)

pub emitted_prints : (e : Option Exp) → Prints (emitted_text e) (emitted_kinds e)
emitted_prints None = loose nothing
emitted_prints (Some e) = loose (po (op sym_open_paren (exp_prints e)) (λ rest. refl) sym_close_paren)

pub emitted_follows : (e : Option Exp) → Follows (emitted_text e)
emitted_follows None = none_follows
emitted_follows (Some e) = starts (emitted_text (Some e)) (λ rest. refl)

pub left_prints : (x : Option Ident) → Prints (left_text x) (left_kinds x)
left_prints None = loose nothing
left_prints (Some x) = slash_ident x.outer x.name

pub left_follows : (x : Option Ident) → Follows (left_text x)
left_follows None = none_follows
left_follows (Some x) = starts (left_text (Some x)) (λ rest. refl)

pub answer_prints : (e : Option Exp) → Prints (answer_text e) (answer_kinds e)
answer_prints None = loose nothing
answer_prints (Some e) = op space (exp_prints e)

pub answer_follows : (e : Option Exp) → Follows (answer_text e)
answer_follows None = none_follows
answer_follows (Some e) = starts (answer_text (Some e)) (λ rest. refl)

limit_prints : (n : Option ℕ) → Prints (limit_text n) (limit_kinds n)
limit_prints None = loose nothing
limit_prints (Some n) = slash (number_leaf n)

limit_follows : (n : Option ℕ) → Follows (limit_text n)
limit_follows None = none_follows
limit_follows (Some n) = starts (limit_text (Some n)) (λ rest. refl)

received_opens : (x : Option Ident) → Opens (received_text x) (received_kinds x)
received_opens None = nothing
received_opens (Some x) = po (lower_prints x) (λ rest. refl) in_space

shared_prints : (xs : List Ident) → Prints (shared_text xs) (shared_kinds xs)
shared_prints [] = loose nothing
shared_prints (x ∷ xs) = loose (po (op (oo space sym_open_paren) (lowers_print (x ∷ xs))) (λ rest. refl) sym_close_paren)

shared_follows : (xs : List Ident) → Follows (shared_text xs)
shared_follows [] = none_follows
shared_follows (x ∷ xs) = starts (shared_text (x ∷ xs)) (λ rest. refl)

left_opens : (b : Bool) → Opens (left_bracket b) (λ after. syntax.left_bracket b ∷ after)
left_opens true = sym_close_bracket
left_opens false = sym_open_bracket

right_opens : (b : Bool) → Opens (right_bracket b) (λ after. syntax.right_bracket b ∷ after)
right_opens true = sym_open_bracket
right_opens false = sym_close_bracket

right_ends : (b : Bool) (rest : Text) → Ends (right_bracket b ++ rest)
right_ends true rest = refl
right_ends false rest = refl

-- ---- heads

pub event_prints : (x : Ident) → Prints (ident_text x) (event_kinds x)
event_prints x = ident_prints x.outer (event_leaf x.name)

pub do_prints : Prints (codes " do") (λ after. k.Do ∷ after)
do_prints = op space (leaf word_do)

pub vars_opens : (t : Ty) → Opens (vars_head t) (λ after. k.Var ∷ k.Type t ∷ after)
unfolding vars_head
vars_opens t = po (op var_space (leaf (word_type t))) (λ rest. refl) space

pub target_opens : (x : Ident) → Opens (target_head x) (λ after. lower_kinds x (k.Assign ∷ after))
unfolding target_head
target_opens x = po (lower_prints x) (λ rest. refl) spaced_assign

code_name_prints : (x : Ident) → Prints (code_name x) (λ after. k.Code ∷ k.Slash ∷ k.Await ∷ abs_kinds x after)
unfolding code_name
code_name_prints x = op (po (pp (leaf word_code) (starts (codes "/await") (λ rest. refl)) (slash word_await)) (λ rest. refl) space) (abs_prints x)

listed_opens : (ps : List Param) → Opens (listed_params ps) (λ after. k.OpenParen ∷ params_kinds ps (k.CloseParen ∷ after))
unfolding listed_params
listed_opens ps = po (op sym_open_paren (params_print ps)) (λ rest. refl) sym_close_paren

listed_ends : (ps : List Param) (rest : Text) → Ends (listed_params ps ++ rest)
unfolding listed_params
listed_ends ps rest = refl

pub code_prints : (x : Ident) (ps : List Param) (t : Ty) → Prints (code_head x ps t) (λ after. k.Code ∷ k.Slash ∷ k.Await ∷ abs_kinds x (k.OpenParen ∷ params_kinds ps (k.CloseParen ∷ k.Arrow ∷ k.Type t ∷ k.Do ∷ after)))
unfolding code_head
code_prints x ps t = pp (op (oo (po (code_name_prints x) (listed_ends ps) (listed_opens ps)) spaced_arrow) (leaf (word_type t))) (starts (codes " do") (λ rest. refl)) do_prints

pub do_head_prints : (l : Label) → Prints (do_head l) (λ after. k.Do ∷ label_kinds l after)
unfolding do_head
do_head_prints l = pp (leaf word_do) (label_follows l) (label_prints l)

pub loop_prints : (n : Option ℕ) → Prints (loop_head n) (λ after. k.Loop ∷ limit_kinds n (k.Do ∷ after))
unfolding loop_head
loop_prints n = pp (pp (leaf word_loop) (limit_follows n) (limit_prints n)) (starts (codes " do") (λ rest. refl)) do_prints

interval_opens : (open_a : Bool) (a b : Exp) (open_b : Bool) → Opens (interval_text open_a a b open_b) (λ after. syntax.left_bracket open_a ∷ exp_kinds a (k.Arrow ∷ exp_kinds b (syntax.right_bracket open_b ∷ after)))
unfolding interval_text
interval_opens open_a a b open_b = po (op (po (op (left_opens open_a) (exp_prints a)) (λ rest. refl) spaced_arrow) (exp_prints b)) (right_ends open_b) (right_opens open_b)

pub range_prints : (x : Ident) (open_a : Bool) (a b : Exp) (open_b : Bool)
    → Prints (range_head x open_a a b open_b) (λ after. k.Loop ∷ lower_kinds x (k.In ∷ syntax.left_bracket open_a ∷ exp_kinds a (k.Arrow ∷ exp_kinds b (syntax.right_bracket open_b ∷ k.Do ∷ after))))
unfolding range_head
range_prints x open_a a b open_b = op (oo (po (op (po (leaf word_loop) (λ rest. refl) space) (lower_prints x)) (λ rest. refl) in_space) (interval_opens open_a a b open_b)) do_prints

pub every_prints : (x : Option Ident) (t : Target) → Prints (every_head x t) (λ after. k.Every ∷ received_kinds x (target_kinds t (k.Do ∷ after)))
unfolding every_head
every_prints x t = pp (op (oo (po (leaf word_every) (λ rest. refl) space) (received_opens x)) (target_prints t)) (starts (codes " do") (λ rest. refl)) do_prints

pub watching_prints : (t : Target) → Prints (watching_head t) (λ after. k.Watching ∷ target_kinds t (k.Do ∷ after))
unfolding watching_head
watching_prints t = pp (op (po (leaf word_watching) (λ rest. refl) space) (target_prints t)) (starts (codes " do") (λ rest. refl)) do_prints

pub async_prints : (xs : List Ident) → Prints (async_head xs) (λ after. k.Async ∷ shared_kinds xs (k.Do ∷ after))
unfolding async_head
async_prints xs = pp (pp (leaf word_async) (shared_follows xs) (shared_prints xs)) (starts (codes " do") (λ rest. refl)) do_prints

pub par_prints : (p : ParKind) → Prints (par_text p) (par_kinds p)
par_prints par.Never = pp (leaf word_par) (starts (codes " do") (λ rest. refl)) do_prints
par_prints par.Or = pp (pp (leaf word_par) (starts (codes "/or") (λ rest. refl)) (slash word_or)) (starts (codes " do") (λ rest. refl)) do_prints
par_prints par.And = pp (pp (leaf word_par) (starts (codes "/and") (λ rest. refl)) (slash word_and)) (starts (codes " do") (λ rest. refl)) do_prints

-- ---- ends of lines

pub end_opens : (ends : Bool) → Opens (line_end ends) (ended_kinds ends)
unfolding line_end
end_opens true = line_break
end_opens false = oo sym_semicolon line_break

pub end_ends : (ends : Bool) (rest : Text) → Ends (line_end ends ++ rest)
unfolding line_end
end_ends true rest = refl
end_ends false rest = refl
