-- The run accepts exactly what derives a tree.
use Rattle.std.proofs.Common.{◌≡◌, refl, sym, ap, ◌∙◌, List, [], ◌∷◌, ◌++◌, Option, Some, None, subst, append-nil, ℕ}
use Rattle.ceu_lex.specs.declared.token.Token.{Token}
use Rattle.ceu_tree.specs.declared.source.Node.{Node}
use Rattle.ceu_tree.specs.declared.source.Stmt.{Stmt}
use Rattle.ceu_tree.specs.declared.source.Stmt as stmt
use Rattle.ceu_tree.specs.declared.source.Tree.{Tree}
use Rattle.ceu_syntax.specs.declared.terminal.Terminal.{Terminal}
use Rattle.ceu_syntax.specs.declared.machine.Frame.{Frame}
use Rattle.ceu_syntax.specs.declared.machine.Frame.TheVariants as f
use Rattle.ceu_syntax.specs.declared.machine.Declaring.TheVariants as d
use Rattle.ceu_syntax.specs.declared.machine.Mode.{Mode}
use Rattle.ceu_syntax.specs.declared.machine.Mode.TheVariants as m
use Rattle.ceu_syntax.specs.Trees.{node, tree}
use Rattle.ceu_syntax.specs.Grammar.{is_ended, Statements, no_more, Program, Derives}
use Rattle.ceu_syntax.specs.Steps.{State, state}
use Rattle.ceu_syntax.specs.Terminals.{terminals}
use Rattle.ceu_syntax.specs.Runs.{run, step, then_run, begun, whole as all_nodes, finish, Accepts}
use Rattle.ceu_syntax.proofs.Contexts.{Stood}
use Rattle.ceu_syntax.proofs.Stands.{with_last}
use Rattle.ceu_syntax.proofs.StandsAll.{stands}
use Rattle.ceu_syntax.proofs.TakesForms.{resumed}

-- ---- what the run tells

pub run_append : (ts us : List Terminal) (s : State) → run (ts ++ us) s ≡ then_run (run us) (run ts s)
unfolding run
run_append [] us s = refl
run_append (t ∷ ts) us s = go (step t s) (λ m. run_append ts us m)
  where
    go : (m : Option State) → ((m : State) → run (ts ++ us) m ≡ then_run (run us) (run ts m)) → then_run (run (ts ++ us)) m ≡ then_run (run us) (then_run (run ts) m)
    go None f = refl
    go (Some m) f = f m

run_none : (s : State) → run [] s ≡ Some s
unfolding run
run_none s = refl

some_same : {s u : State} → Some s ≡ Some u → s ≡ u
some_same h = cc

nodes_same : {ns ms : List Node} → Some ns ≡ Some ms → ns ≡ ms
nodes_same h = cc

pub derived_accepted : (tokens : List Terminal) (ns : List Node) → Program tokens ns → Accepts tokens ns
derived_accepted tokens ns d =
    let i = resumed d begun [] [] refl in
    (i.after, i.runs ∙ run_none i.after, ap (λ u. all_nodes u.stack u.mode) i.settles)

pub accepts_one : (tokens : List Terminal) (ns ms : List Node) → Accepts tokens ns → Accepts tokens ms → ns ≡ ms
accepts_one tokens ns ms a b = nodes_same (sym a.2 ∙ ap (λ u. finish u) (some_same (sym a.1 ∙ b.1)) ∙ b.2)

pub one_tree : (tokens : List Terminal) (ns ms : List Node) → Program tokens ns → Program tokens ms → ns ≡ ms
one_tree tokens ns ms d e = accepts_one tokens ns ms (derived_accepted tokens ns d) (derived_accepted tokens ms e)

none_list : {A : Type 0} {ns : List Node} → None ≡ Some ns → A
none_list h = absurd (cc)

-- a whole program stands where its run ends
whole_program : (tokens : List Terminal) (K : List Frame) (mode : Mode) (ns : List Node) → finish (state K mode) ≡ Some ns → Stood tokens K mode [] → Program tokens ns
whole_program tokens [] (m.In ms) ns h o = subst (λ u. Statements tokens u []) (nodes_same h) (subst (λ u. Statements u ms []) (sym o.1) o.2)
whole_program tokens (f.Begun ms at ∷ []) (m.Declaring (d.ItemEnd ty is)) ns h o =
    subst (λ u. Statements tokens u []) (nodes_same h) (subst (λ u. Statements u (ms ++ node at (stmt.Vars ty is) ∷ []) []) (sym o.2) (with_last o.3 (is_ended o.4.0)))
whole_program tokens [] (m.Declaring (d.ItemEnd ty is)) ns h o = none_list h
whole_program tokens (frame ∷ K) (m.Declaring (d.ItemEnd ty is)) ns h o = none_list h
whole_program tokens _ _ ns h o = none_list h

pub accepted_derives : (tokens : List Terminal) (ns : List Node) → Accepts tokens ns → Program tokens ns
accepted_derives tokens ns a =
    whole_program tokens a.0.stack a.0.mode ns a.2 (stands tokens [] tokens begun a.0 a.1 (tokens, refl, subst (λ u. Statements tokens [] u) (sym (append-nil tokens)) (no_more tokens)))

pub one_derived : (text : List ℕ) (tokens : List Token) (t u : Tree) → Derives text tokens t → Derives text tokens u → t ≡ u
one_derived text tokens t u d e = d.2 ∙ ap tree (one_tree (terminals text tokens) d.0 e.0 d.1 e.1) ∙ sym e.2
