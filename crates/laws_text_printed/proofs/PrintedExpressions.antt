-- How printed expressions, calls and awaits are read.
use Rattle.std.proofs.Common.{refl, ap, ℕ, suc, Bool, true, false, List, [], ◌∷◌, ◌++◌, map, codes, Option, Some, None}
use Rattle.std.specs.Prelude.{if◌then◌else◌, nat_lt}
use Rattle.ceu_base.specs.declared.kinds.Op2.{Op2}
use Rattle.ceu_lex.specs.Bytes.{is_word_byte}
use Rattle.ceu_tree.specs.declared.source.Ident.{Ident}
use Rattle.ceu_tree.specs.declared.source.Exp.{Exp}
use Rattle.ceu_tree.specs.declared.source.ExpNode as exp
use Rattle.ceu_tree.specs.declared.source.ExpNode.{ExpNode, Row_of-Exp, end_of-Exp, more_of-Exp, One', Two', As'}
use Rattle.ceu_tree.specs.declared.source.Call.{Call}
use Rattle.ceu_tree.specs.declared.source.Spawn.{Spawn}
use Rattle.ceu_tree.specs.declared.source.Target.{Target}
use Rattle.ceu_tree.specs.declared.source.Target.TheVariants as target
use Rattle.ceu_tree.specs.declared.source.Await.{Await}
use Rattle.ceu_tree.specs.declared.source.Await.TheVariants as await
use Rattle.ceu_syntax.specs.declared.terminal.Kind.{Kind}
use Rattle.ceu_syntax.specs.declared.terminal.Kind.TheVariants as k
use Rattle.ceu_print.specs.Lists.{Text, each_after, joined}
use Rattle.ceu_print.specs.Words.{level, outer_text, ident_text, binary_text}
use Rattle.ceu_print.specs.Expressions.{tightness, enclosed, node_text, operand_text, exp_text, call_text, spawn_text, target_text, until_text, awaited_text, await_text}
use Rattle.laws_text_printed.specs.ReadingWords.{outer_kinds, lower_kinds, ext_kinds, abs_kinds}
use Rattle.laws_text_printed.specs.Expressions.{node_kinds, operand_kinds, exp_kinds, more_arguments, argument_kinds, call_kinds, spawn_kinds, target_kinds, until_kinds, awaited_kinds}
use Rattle.laws_text_printed.specs.SpellingWords.{Ends}
use Rattle.laws_text_printed.proofs.Printing.{Prints, Opens, Follows, oo, op, po, pp, loose, nothing, none_follows, starts, Leaf, leaf, space}
use Rattle.laws_text_printed.proofs.Keywords.{word_outer, word_as, word_in, word_spawn, word_until, word_await, word_forever, word_truth, word_type}
use Rattle.laws_text_printed.proofs.Symbols.{sym_open_paren, sym_close_paren, sym_comma, sym_dot, sym_question, prefix_opens, binary_opens, binary_starts}
use Rattle.laws_text_printed.proofs.Leaves.{lower_leaf, ext_leaf, abs_leaf, unit_leaf, number_leaf, time_leaf}

-- ---- names

pub ident_prints : (o : Bool) {x : Text} {kind : Kind} → Leaf x kind → Prints (outer_text o ++ x) (λ after. outer_kinds o (kind ∷ after))
ident_prints true l = op (po (leaf word_outer) (λ rest. refl) sym_dot) (leaf l)
ident_prints false l = leaf l

pub lower_prints : (x : Ident) → Prints (ident_text x) (lower_kinds x)
lower_prints x = ident_prints x.outer (lower_leaf x.name)

pub ext_prints : (x : Ident) → Prints (ident_text x) (ext_kinds x)
ext_prints x = ident_prints x.outer (ext_leaf x.name)

pub abs_prints : (x : Ident) → Prints (ident_text x) (abs_kinds x)
abs_prints x = ident_prints x.outer (abs_leaf x.name)

pub comma_space : Opens (codes ", ") (λ after. k.Comma ∷ after)
comma_space = oo sym_comma space

pub each_follows : (ts : List Text) → Follows (each_after (codes ", ") ts)
each_follows [] = none_follows
each_follows (t ∷ ts) = starts (each_after (codes ", ") (t ∷ ts)) (λ rest. refl)

-- ---- expressions

in_parens : (b : Bool) {text : Text} {kinds : List Kind → List Kind} → Prints text kinds → Prints (enclosed b text) (λ after. if b then k.OpenParen ∷ kinds (k.CloseParen ∷ after) else kinds after)
in_parens true p = loose (po (op sym_open_paren p) (λ rest. refl) sym_close_paren)
in_parens false p = p

binary_ends : (o : Op2) (rest : Text) → Ends (binary_text o ++ rest)
binary_ends o rest = ap (λ (b : ℕ). is_word_byte b) (binary_starts o rest)

mutual
  unfolding node_text node_kinds

  node_prints : (e : ExpNode) → Prints (node_text e) (node_kinds e)
  node_prints (exp.Number n) = leaf (number_leaf n)
  node_prints (exp.Bool b) = leaf (word_truth b)
  node_prints (exp.Var x) = lower_prints x
  node_prints (exp.Alive x) = loose (po (lower_prints x) (λ rest. refl) sym_question)
  node_prints (One' o _ a) = op (prefix_opens o) (operand_prints 10 a)
  node_prints (Two' o _ a _ b) = op (po (operand_prints (level o) a) (binary_ends o) (binary_opens o)) (operand_prints (suc (level o)) b)
  node_prints (As' _ a t) = op (po (operand_prints 0 a) (λ rest. refl) (oo space (po (leaf word_as) (λ rest. refl) space))) (leaf (word_type t))

  operand_prints : (at : ℕ) {n : _} (r : Row_of-Exp n) → Prints (operand_text at r) (operand_kinds at r)
  operand_prints at end_of-Exp = loose nothing
  operand_prints at (more_of-Exp p e rest) = in_parens (nat_lt (tightness e) at) (node_prints e)

pub exp_prints : (e : Exp) → Prints (exp_text e) (exp_kinds e)
exp_prints e = node_prints e.node

-- ---- calls

more_prints : (es : List Exp) → Prints (each_after (codes ", ") (map exp_text es)) (more_arguments es)
more_prints [] = loose nothing
more_prints (e ∷ es) = pp (op comma_space (exp_prints e)) (each_follows (map exp_text es)) (more_prints es)

arguments_print : (es : List Exp) → Prints (joined (codes ", ") (map exp_text es)) (argument_kinds es)
arguments_print [] = loose nothing
arguments_print (e ∷ es) = pp (exp_prints e) (each_follows (map exp_text es)) (more_prints es)

pub call_opens : (c : Call) → Opens (call_text c) (call_kinds c)
call_opens c = po (op (po (abs_prints c.code) (λ rest. refl) sym_open_paren) (arguments_print c.args)) (λ rest. refl) sym_close_paren

pub in_space : Opens (codes " in ") (λ after. k.In ∷ after)
in_space = oo space (po (leaf word_in) (λ rest. refl) space)

pub spawn_prints : (s : Spawn) → Prints (spawn_text s) (spawn_kinds s)
spawn_prints s = op (oo (oo (po (leaf word_spawn) (λ rest. refl) space) (call_opens s.call)) in_space) (lower_prints s.pool)

-- ---- awaits

pub target_prints : (t : Target) → Prints (target_text t) (target_kinds t)
target_prints (target.Ext x) = ext_prints x
target_prints (target.Event x) = lower_prints x
target_prints (target.Time us) = leaf (time_leaf us)
target_prints (target.TimeExp e u) = op (po (op sym_open_paren (exp_prints e)) (λ rest. refl) (oo sym_close_paren space)) (leaf (unit_leaf u))

until_prints : (e : Option Exp) → Prints (until_text e) (until_kinds e)
until_prints None = loose nothing
until_prints (Some e) = op (oo space (po (leaf word_until) (λ rest. refl) space)) (exp_prints e)

until_follows : (e : Option Exp) → Follows (until_text e)
until_follows None = none_follows
until_follows (Some e) = starts (until_text (Some e)) (λ rest. refl)

awaited_prints : (a : Await) → Prints (awaited_text a) (awaited_kinds a)
awaited_prints await.Forever = leaf word_forever
awaited_prints (await.Code c) = loose (call_opens c)
awaited_prints (await.On t e) = pp (target_prints t) (until_follows e) (until_prints e)

pub await_prints : (a : Await) → Prints (await_text a) (λ after. k.Await ∷ awaited_kinds a after)
await_prints a = op (po (leaf word_await) (λ rest. refl) space) (awaited_prints a)
