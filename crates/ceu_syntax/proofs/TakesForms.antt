-- Statements that derive are taken, and give their trees.
use Rattle.std.proofs.Common.{◌≡◌, refl, sym, ap, ◌∙◌, ℕ, List, [], ◌∷◌, ◌++◌, Option, Some, None, Bool, true, false, subst, append_assoc, append-nil}
use Rattle.ceu_base.specs.declared.kinds.Pos.{Pos}
use Rattle.ceu_base.specs.declared.kinds.Ty.{Ty}
use Rattle.ceu_tree.specs.declared.kernel.ParKind.{ParKind}
use Rattle.ceu_tree.specs.declared.source.Ident.{Ident}
use Rattle.ceu_tree.specs.declared.source.Exp.{Exp}
use Rattle.ceu_tree.specs.declared.source.Spawn.{Spawn}
use Rattle.ceu_tree.specs.declared.source.Block.{Block}
use Rattle.ceu_tree.specs.declared.source.Node.{Node}
use Rattle.ceu_tree.specs.declared.source.Do.{Do}
use Rattle.ceu_tree.specs.declared.source.Source.{Source}
use Rattle.ceu_tree.specs.declared.source.Source as source
use Rattle.ceu_tree.specs.declared.source.Item.{Item}
use Rattle.ceu_tree.specs.declared.source.Arm.{Arm}
use Rattle.ceu_tree.specs.declared.source.Stmt.{Stmt}
use Rattle.ceu_tree.specs.declared.source.Stmt as stmt
use Rattle.ceu_syntax.specs.declared.terminal.Kind.{Kind}
use Rattle.ceu_syntax.specs.declared.terminal.Terminal.{Terminal}
use Rattle.ceu_syntax.specs.declared.machine.Body.{Body}
use Rattle.ceu_syntax.specs.declared.machine.Body.TheVariants as body
use Rattle.ceu_syntax.specs.declared.machine.Frame.{Frame}
use Rattle.ceu_syntax.specs.declared.machine.Frame.TheVariants as f
use Rattle.ceu_syntax.specs.declared.machine.Listed.TheVariants as listed
use Rattle.ceu_syntax.specs.declared.machine.Act.{Act}
use Rattle.ceu_syntax.specs.declared.machine.Act.TheVariants as act
use Rattle.ceu_syntax.specs.declared.machine.Declaring.TheVariants as d
use Rattle.ceu_syntax.specs.declared.machine.Acting.TheVariants as a
use Rattle.ceu_syntax.specs.declared.machine.Opening.TheVariants as o
use Rattle.ceu_syntax.specs.declared.machine.Looping.TheVariants as l
use Rattle.ceu_syntax.specs.declared.machine.Mode.{Mode}
use Rattle.ceu_syntax.specs.declared.machine.Mode.TheVariants as m
use Rattle.ceu_syntax.specs.Terminals.{token, lower, left_bracket, right_bracket}
use Rattle.ceu_syntax.specs.Trees.{ident, spawn, block, node, item, arm, range}
use Rattle.ceu_tree.specs.declared.source.Label.TheVariants as label
use Rattle.ceu_syntax.specs.declared.terminal.Kind.TheVariants as k
use Rattle.ceu_syntax.specs.Terminals.{saturated}
use Rattle.ceu_syntax.specs.Expressions.{Location, is_here, is_outer, Expression, Spawns, spawns}
use Rattle.ceu_syntax.specs.Grammar as g
use Rattle.ceu_syntax.specs.Grammar.{Forms, Does, does_plain, does_under, does_named, Sources, is_value, is_wait, is_start, is_done, ItemOf, is_bare, is_initial, Items, last_item, one_item, Statement, is_simple, is_ended, Statements, no_more, skips, one_more, Branches, last_branch, one_branch, Arms, no_else, last_else, else_if}
use Rattle.ceu_syntax.specs.Steps as spec
use Rattle.ceu_syntax.specs.Steps.{State, state, Held, held, reduce, statement_of, source_of, case_of, closed}
use Rattle.ceu_syntax.specs.Runs.{run, step, then_run, settle, settled}
use Rattle.ceu_syntax.proofs.Takes.{Ender, close_ends, arrow_ends, left_ends, right_ends, then_ends, Fits}
use Rattle.ceu_syntax.proofs.TakesParts.{alike, expression_first, source_starts, emit_starts, escape_starts, escape_value_starts, taken_to, valued, taken_spawn, location_store, location_every, taken_emit, taken_target, taken_every, Owns, taken_await, taken_names, taken_shares, taken_params, taken_par}

-- ---- first tokens

-- a token that goes on no part that has ended, and is looked for nowhere else than in a block
abbrev pub PlainKind : Kind → Type 0
PlainKind k.Slash = ⊥
PlainKind k.Comma = ⊥
PlainKind k.Finalize = ⊥
PlainKind _ = Unit {0}

abbrev pub PlainFirst : List Terminal → Type 0
PlainFirst [] = ⊥
PlainFirst (t ∷ ts) = PlainKind t.kind

plain_location : {tokens : List Terminal} {x : Ident} {rest : List Terminal} → Location tokens x rest → PlainFirst tokens
plain_location (is_here x at rest) = tt
plain_location (is_outer x at dot name rest) = tt

plain_spawn : {tokens : List Terminal} {sp : Spawn} {rest : List Terminal} → Spawns tokens sp rest → PlainFirst tokens
plain_spawn (spawns x at into name v) = tt

plain_form : {tokens : List Terminal} {n : Node} {b : Bool} {rest : List Terminal} → Forms tokens n b rest → PlainFirst tokens
plain_form (g.is_assign equal v u) = plain_location v
plain_form (g.is_spawn v) = plain_spawn v
plain_form (g.is_nothing at rest) = tt
plain_form (g.is_break at rest) = tt
plain_form (g.is_continue at rest) = tt
plain_form (g.is_vars ty at of v) = tt
plain_form (g.is_alias y x at and mark code name rest) = tt
plain_form (g.is_alias_of y x at and mark code name equal v) = tt
plain_form (g.is_events ty at of v) = tt
plain_form (g.is_inputs ty at of v) = tt
plain_form (g.is_outputs ty at of v) = tt
plain_form (g.is_pool n y x at left count close code name rest) = tt
plain_form (g.is_code y ty at slash wait code paren arrow of begin end v u) = tt
plain_form (g.is_emit at v) = tt
plain_form (g.is_emit_empty at paren close v) = tt
plain_form (g.is_emit_value at paren close v u) = tt
plain_form (g.is_await at v) = tt
plain_form (g.is_async at begin end v u) = tt
plain_form (g.is_await_async at async begin end v u) = tt
plain_form (g.is_do at v) = tt
plain_form (g.is_kill x at name rest) = tt
plain_form (g.is_escape at rest) = tt
plain_form (g.is_escape_value at v) = tt
plain_form (g.is_escape_label x at slash name rest) = tt
plain_form (g.is_escape_both x at slash name v) = tt
plain_form (g.is_finalize at finalize with end v) = tt
plain_form (g.is_if at by x v u) = tt
plain_form (g.is_loop at begin end v) = tt
plain_form (g.is_times n at slash count begin end v) = tt
plain_form (g.is_range x open_a open_b at name into left arrow right begin end v u t) = tt
plain_form (g.is_every at begin end v u) = tt
plain_form (g.is_every_in at into begin end v u t) = tt
plain_form (g.is_watching at begin end v u) = tt
plain_form (g.is_par at begin with v u t) = tt

plain_statement : {tokens : List Terminal} {n : Node} {rest : List Terminal} → Statement tokens n rest → PlainFirst tokens
plain_statement (is_simple at v) = plain_form v
plain_statement (is_ended v) = plain_form v

plain_statements : {tokens : List Terminal} {ns : List Node} {rest : List Terminal} → Statements tokens ns rest → PlainFirst rest → PlainFirst tokens
plain_statements (no_more rest) p = p
plain_statements (skips at v) p = tt
plain_statements (one_more t v) p = plain_statement t

same : (tokens : List Terminal) → PlainFirst tokens → (u v : State) → ((kind : Kind) (at : Pos) → PlainKind kind → step (token kind at) u ≡ step (token kind at) v) → run tokens u ≡ run tokens v
unfolding run
same [] o u v h = absurd o
same (t ∷ ts) o u v h = ap (then_run (run ts)) (h t.kind t.pos o)

do_step : (K : List Frame) (kind : Kind) (at : Pos) → PlainKind kind → spec.of_do kind at K ≡ spec.of_block kind at [] (f.Body (body.Do label.Plain) ∷ K)
do_step K k.Slash at p = absurd p
do_step K k.Finalize at p = absurd p
do_step K kind at p = refl

else_step : (arms : List Arm) (K : List Frame) (kind : Kind) (at : Pos) → PlainKind kind → spec.opening (o.Else arms) kind at K ≡ spec.of_block kind at [] (f.Body (body.Else arms) ∷ K)
else_step arms K k.Slash at p = absurd p
else_step arms K kind at p = refl

item_end_step : (kind : Kind) (at : Pos) → PlainKind kind → (ty : Ty) (is : List Item) (K : List Frame) → spec.declared (d.ItemEnd ty is) kind at K ≡ spec.item_end kind at (stmt.Vars ty is) K
item_end_step k.Comma at p ty is K = absurd p
item_end_step kind at p ty is K = refl

settle_step : (K : List Frame) (mode : Mode) (kind : Kind) (at : Pos) → PlainKind kind → step (token kind at) (state K mode) ≡ step (token kind at) (settle mode K)
settle_step (f.Begun ns b ∷ K) (m.Declaring (d.ItemEnd ty is)) kind at p = item_end_step kind at p ty is (f.Begun ns b ∷ K)
settle_step _ (m.Declaring (d.ItemEnd ty is)) kind at p = refl
settle_step K (m.Declaring _) kind at p = refl
settle_step K _ kind at p = refl

pub settled_step : (st u : State) (kind : Kind) (at : Pos) → PlainKind kind → settled st ≡ u → step (token kind at) st ≡ step (token kind at) u
settled_step st u kind at p e = settle_step st.stack st.mode kind at p ∙ ap (step (token kind at)) e

-- ---- what a part ends with

abbrev pub Concluded : Bool → State → State → Type 0
Concluded false st u = (p : Pos) → step (token k.Semicolon p) st ≡ Some u
Concluded true st u = settled st ≡ u

pub record FormTaken (from : State) (tokens : List Terminal) (b : Bool) (rest : List Terminal) (to : State) : Type 0 where
  pub after : State
  pub runs : run tokens from ≡ run rest after
  pub ends : Concluded b after to

pub record ItemTaken (from : State) (tokens : List Terminal) (b : Bool) (rest : List Terminal) (more to : State) : Type 0 where
  pub after : State
  pub runs : run tokens from ≡ run rest after
  pub ends : Concluded b after to
  pub comma : (p : Pos) → step (token k.Comma p) after ≡ Some more

pub record Resumed (from : State) (tokens rest : List Terminal) (to : State) : Type 0 where
  pub after : State
  pub runs : run tokens from ≡ run rest after
  pub settles : settled after ≡ to

abbrev pub done_end : Source → List Frame → Option State
done_end source (f.Store x ∷ K) = closed (stmt.Assign x source) K
done_end source (f.Initial ty is x ∷ K) = Some (state K (m.Declaring (d.ItemEnd ty (is ++ item x (Some source) ∷ []))))
done_end source _ = None

abbrev pub SourceConcluded : Bool → Source → State → List Frame → Type 0
SourceConcluded false source st K = ((p : Pos) → step (token k.Semicolon p) st ≡ spec.source_semicolon source K) × ((p : Pos) → step (token k.Comma p) st ≡ spec.source_comma source K)
SourceConcluded true source st K = done_end source K ≡ Some st

pub record SourceTaken (tokens : List Terminal) (source : Source) (b : Bool) (rest : List Terminal) (K : List Frame) : Type 0 where
  pub after : State
  pub runs : run tokens (state K (m.Acting a.Source)) ≡ run rest after
  pub ends : SourceConcluded b source after K

-- what owns a source: a location that is set, or a variable
pub record SourceOwner (K : List Frame) : Type 0 where
  pub owns : Owns K
  pub fits : Fits 0 K
  pub acts : (done : Act) → spec.act_semicolon done K ≡ spec.source_semicolon (source_of done) K
  pub values : (e : Exp) → spec.ends_semicolon e K ≡ spec.source_semicolon (source.Value e) K
  pub commas : (e : Exp) → spec.ends_comma e K ≡ spec.source_comma (source.Value e) K
  pub dos : (v : Do) → spec.do_end v K ≡ done_end (source.Done v) K
  pub closes : Source → State
  pub closed_to : (source : Source) → done_end source K ≡ Some (closes source)

owns_begun : (ns : List Node) (at : Pos) (K : List Frame) → Owns (f.Begun ns at ∷ K)
owns_begun ns at K = record { calls = λ code es. refl; aims = λ t. refl }

store_owner : (x : Ident) (ns : List Node) (at : Pos) (K : List Frame) → SourceOwner (f.Store x ∷ f.Begun ns at ∷ K)
store_owner x ns at K = record {
  owns = record { calls = λ code es. refl; aims = λ t. refl };
  fits = λ l u v x. refl;
  acts = λ done. refl;
  values = λ e. refl;
  commas = λ e. refl;
  dos = λ v. refl;
  closes = λ source. state K (m.In (ns ++ node at (stmt.Assign x source) ∷ []));
  closed_to = λ source. refl;
}

item_owner : (ty : Ty) (is : List Item) (x : Ident) (ns : List Node) (at : Pos) (K : List Frame) → SourceOwner (f.Initial ty is x ∷ f.Begun ns at ∷ K)
item_owner ty is x ns at K = record {
  owns = record { calls = λ code es. refl; aims = λ t. refl };
  fits = λ l u v x. refl;
  acts = λ done. refl;
  values = λ e. refl;
  commas = λ e. refl;
  dos = λ v. refl;
  closes = λ source. state (f.Begun ns at ∷ K) (m.Declaring (d.ItemEnd ty (is ++ item x (Some source) ∷ [])));
  closed_to = λ source. refl;
}

-- a block and its `end`
closes_body : {tokens : List Terminal} {end : Pos} {rest : List Terminal} (b : Body) (ns : List Node) (K : List Frame) → Resumed (state (f.Body b ∷ K) (m.In [])) tokens (token k.End end ∷ rest) (state (f.Body b ∷ K) (m.In ns))
    → run tokens (state (f.Body b ∷ K) (m.In [])) ≡ then_run (run rest) (spec.body_end b (block ns) K)
unfolding run
closes_body {end = end} {rest = rest} b ns K r = r.runs ∙ ap (then_run (run rest)) (settled_step r.after (state (f.Body b ∷ K) (m.In ns)) k.End end tt r.settles)

bracket_ends : (open_b : Bool) → Ender (right_bracket open_b)
bracket_ends false = right_ends
bracket_ends true = left_ends

bracket_step : (x : Ident) (open_a : Bool) (a b : Exp) (open_b : Bool) (at : Pos) (K : List Frame) → spec.ends (right_bracket open_b) at (held b (f.RangeTo x open_a a ∷ K)) ≡ Some (state K (m.Looping (l.RangeDo x open_a a b open_b)))
bracket_step x open_a a b false at K = refl
bracket_step x open_a a b true at K = refl

range_step : (x : Ident) (open_a : Bool) (at : Pos) (K : List Frame) → step (token (left_bracket open_a) at) (state K (m.Looping (l.RangeOpen x))) ≡ Some (state (f.RangeFrom x open_a ∷ K) m.Start)
range_step x false at K = refl
range_step x true at K = refl

taken_range : {tokens mid inner : List Terminal} {a b : Exp} {arrow right begin : Pos} (x : Ident) (open_a open_b : Bool) (left : Pos) (K : List Frame) →
    Expression 0 tokens a (token k.Arrow arrow ∷ mid) → Expression 0 mid b (token (right_bracket open_b) right ∷ token k.Do begin ∷ inner) →
    run (token (left_bracket open_a) left ∷ tokens) (state K (m.Looping (l.RangeOpen x))) ≡ run inner (state (f.Body (body.Range x open_a a b open_b) ∷ K) (m.In []))
unfolding run
taken_range {tokens = tokens} {mid = mid} {inner = inner} {a = from} {b = to} {arrow = arrow} {right = right} {begin = begin} x open_a open_b left K u v =
    ap (then_run (run tokens)) (range_step x open_a left K)
    ∙ taken_to u arrow_ends (f.RangeFrom x open_a ∷ K) (λ l u v x. refl)
    ∙ taken_to v (bracket_ends open_b) (f.RangeTo x open_a from ∷ K) (λ l u v x. refl)
    ∙ ap (then_run (run (token k.Do begin ∷ inner))) (bracket_step x open_a from to open_b right K)

-- an expression and the `then` behind it
taken_condition : {tokens : List Terminal} {e : Exp} {by : Pos} {inner : List Terminal} → Expression 0 tokens e (token k.Then by ∷ inner) → (arms : List Arm) (K : List Frame)
    → run tokens (state (f.Condition arms ∷ K) m.Start) ≡ run inner (state (f.Body (body.Arm arms e) ∷ K) (m.In []))
unfolding run
taken_condition x arms K = taken_to x then_ends (f.Condition arms ∷ K) (λ l u v x. refl)

with_step : (st : State) (kind : ParKind) (ns : List Node) (K : List Frame) (at : Pos) → settled st ≡ state (f.Body (body.FirstBranch kind) ∷ K) (m.In ns) → step (token k.With at) st ≡ Some (state (f.Body (body.Branch kind (block ns ∷ [])) ∷ K) (m.In []))
with_step st kind ns K at e = settled_step st (state (f.Body (body.FirstBranch kind) ∷ K) (m.In ns)) k.With at tt e

more_step : (st : State) (kind : ParKind) (bs : List Block) (ns : List Node) (K : List Frame) (at : Pos) → settled st ≡ state (f.Body (body.Branch kind bs) ∷ K) (m.In ns) → step (token k.With at) st ≡ Some (state (f.Body (body.Branch kind (bs ++ block ns ∷ [])) ∷ K) (m.In []))
more_step st kind bs ns K at e = settled_step st (state (f.Body (body.Branch kind bs) ∷ K) (m.In ns)) k.With at tt e

arm_end_step : (st : State) (arms : List Arm) (e : Exp) (ns ms : List Node) (b : Pos) (K : List Frame) (at : Pos) → settled st ≡ state (f.Body (body.Arm arms e) ∷ f.Begun ms b ∷ K) (m.In ns) → step (token k.End at) st ≡ Some (state K (m.In (ms ++ node b (stmt.If (arms ++ arm e ns ∷ []) None) ∷ [])))
arm_end_step st arms e ns ms b K at i = settled_step st (state (f.Body (body.Arm arms e) ∷ f.Begun ms b ∷ K) (m.In ns)) k.End at tt i

arm_else_step : (st : State) (arms : List Arm) (e : Exp) (ns : List Node) (K : List Frame) (at : Pos) → settled st ≡ state (f.Body (body.Arm arms e) ∷ K) (m.In ns) → step (token k.Else at) st ≡ Some (state K (m.Opening (o.Else (arms ++ arm e ns ∷ []))))
arm_else_step st arms e ns K at i = settled_step st (state (f.Body (body.Arm arms e) ∷ K) (m.In ns)) k.Else at tt i

-- a source and what it is for
assigned : {tokens mid rest : List Terminal} (x : Ident) (source : Source) (b : Bool) (ns : List Node) (K : List Frame) (equal : Pos) → Location tokens x (token k.Assign equal ∷ mid)
    → SourceTaken mid source b rest (f.Store x ∷ f.Begun ns x.pos ∷ K) → FormTaken (state K (m.In ns)) tokens b rest (state K (m.In (ns ++ node x.pos (stmt.Assign x source) ∷ [])))
unfolding run
assigned x source false ns K equal v i = record { after = i.after; runs = location_store v ns K ∙ i.runs; ends = λ p. i.ends.0 p }
assigned x source true ns K equal v i = record { after = i.after; runs = location_store v ns K ∙ i.runs; ends = ap settled_of (sym i.ends) }
  where
    settled_of : Option State → State
    settled_of (Some st) = settled st
    settled_of None = state [] m.Start

initial : {tokens rest : List Terminal} {p equal : Pos} (ty : Ty) (is : List Item) (x : List ℕ) (source : Source) (b : Bool) (ns : List Node) (at : Pos) (K : List Frame)
    → SourceTaken tokens source b rest (f.Initial ty is (ident x p) ∷ f.Begun ns at ∷ K)
    → ItemTaken (state (f.Begun ns at ∷ K) (m.Declaring (d.Item ty is))) (lower x p ∷ token k.Assign equal ∷ tokens) b rest (state (f.Begun ns at ∷ K) (m.Declaring (d.Item ty (is ++ item (ident x p) (Some source) ∷ [])))) (state K (m.In (ns ++ node at (stmt.Vars ty (is ++ item (ident x p) (Some source) ∷ [])) ∷ [])))
unfolding run
initial ty is x source false ns at K i = record { after = i.after; runs = i.runs; ends = λ p. i.ends.0 p; comma = λ p. i.ends.1 p }
initial {p = p} ty is x source true ns at K i = record { after = i.after; runs = i.runs; ends = ap settled_of (sym i.ends); comma = λ q. ap (comma_of q) (sym i.ends) }
  where
    settled_of : Option State → State
    settled_of (Some st) = settled st
    settled_of None = state [] m.Start

    comma_of : Pos → Option State → Option State
    comma_of q (Some st) = step (token k.Comma q) st
    comma_of q None = None

-- ---- statements

mutual
  unfolding run

  taken_form : {tokens : List Terminal} {n : Node} {b : Bool} {rest : List Terminal} → Forms tokens n b rest → (ns : List Node) (K : List Frame) → FormTaken (state K (m.In ns)) tokens b rest (state K (m.In (ns ++ n ∷ [])))
  taken_form (g.is_nothing at rest) ns K = record { after = state (f.Begun ns at ∷ K) (m.Semicolon stmt.Nothing); runs = refl; ends = λ p. refl }
  taken_form (g.is_break at rest) ns K = record { after = state (f.Begun ns at ∷ K) (m.Semicolon stmt.Break); runs = refl; ends = λ p. refl }
  taken_form (g.is_continue at rest) ns K = record { after = state (f.Begun ns at ∷ K) (m.Semicolon stmt.Continue); runs = refl; ends = λ p. refl }
  taken_form (g.is_vars {tokens = tokens} ty at of v) ns K =
      let i = taken_items v ty [] ns at K in record { after = i.after; runs = i.runs; ends = i.ends }
  taken_form (g.is_alias y x at and mark code name rest) ns K = record { after = state (f.Begun ns at ∷ K) (m.Declaring (d.AliasValue (ident y code) (ident x name))); runs = refl; ends = λ p. refl }
  taken_form (g.is_alias_of y x at and mark code name equal (spawns {c = call_} z begin into pool v)) ns K =
      record { after = state (f.Alias (ident y code) (ident x name) ∷ f.Begun ns at ∷ K) (m.Acting (a.ActEnd (act.Start (spawn begin call_ (ident z pool))))); runs = taken_spawn v begin (f.Alias (ident y code) (ident x name) ∷ f.Begun ns at ∷ K); ends = λ p. refl }
  taken_form (g.is_events {tokens = tokens} {xs = xs} ty at of v) ns K = record { after = state (f.Begun ns at ∷ K) (m.Declaring (d.NameEnd (listed.Events ty) xs)); runs = taken_names v (listed.Events ty) [] (f.Begun ns at ∷ K) refl; ends = λ p. refl }
  taken_form (g.is_inputs {tokens = tokens} {xs = xs} ty at of v) ns K = record { after = state (f.Begun ns at ∷ K) (m.Declaring (d.NameEnd (listed.Inputs ty) xs)); runs = taken_names v (listed.Inputs ty) [] (f.Begun ns at ∷ K) refl; ends = λ p. refl }
  taken_form (g.is_outputs {tokens = tokens} {xs = xs} ty at of v) ns K = record { after = state (f.Begun ns at ∷ K) (m.Declaring (d.NameEnd (listed.Outputs ty) xs)); runs = taken_names v (listed.Outputs ty) [] (f.Begun ns at ∷ K) refl; ends = λ p. refl }
  taken_form (g.is_pool n y x at left count close code name rest) ns K = record { after = state (f.Begun ns at ∷ K) (m.Semicolon (stmt.Pool (saturated n) (ident y code) (ident x name))); runs = refl; ends = λ p. refl }
  taken_form (g.is_code {body = rest_} {ps = ps} {ns = ms} {rest = rest} y ty at slash wait code paren arrow of begin end v u) ns K =
      record {
        after = state K (m.In (ns ++ node at (stmt.Code (ident y code) ps ty (block ms)) ∷ []));
        runs = taken_params v (ident y code) (f.Begun ns at ∷ K)
            ∙ closes_body (body.Code (ident y code) ps ty) ms (f.Begun ns at ∷ K) (resumed u (state (f.Body (body.Code (ident y code) ps ty) ∷ f.Begun ns at ∷ K) (m.In [])) [] (f.Body (body.Code (ident y code) ps ty) ∷ f.Begun ns at ∷ K) refl);
        ends = refl;
      }
  taken_form (g.is_assign {x = x} {source = source} {b = b} equal v u) ns K = assigned x source b ns K equal v (taken_source u (f.Store x ∷ f.Begun ns x.pos ∷ K) (store_owner x ns x.pos K))
  taken_form (g.is_emit {x = x} at v) ns K = record { after = state (f.Begun ns at ∷ K) (m.Acting (a.EmitOpen x)); runs = taken_emit v (f.Begun ns at ∷ K); ends = λ p. refl }
  taken_form (g.is_emit_empty {x = x} at paren close v) ns K = record { after = state (f.Begun ns at ∷ K) (m.Semicolon (stmt.Emit x None)); runs = taken_emit v (f.Begun ns at ∷ K); ends = λ p. refl }
  taken_form (g.is_emit_value {x = x} {mid = mid} {e = e} at paren close v u) ns K = record {
    after = state (f.Begun ns at ∷ K) (m.Semicolon (stmt.Emit x (Some e)));
    runs = taken_emit v (f.Begun ns at ∷ K) ∙ alike mid (expression_first u) (state (f.Begun ns at ∷ K) (m.Acting (a.EmitValue x))) (state (f.Emit x ∷ f.Begun ns at ∷ K) m.Start) (emit_starts x (f.Begun ns at ∷ K)) ∙ taken_to u close_ends (f.Emit x ∷ f.Begun ns at ∷ K) (λ l u v x. refl);
    ends = λ p. refl;
  }
  taken_form (g.is_await at v) ns K = let i = taken_await v (f.Begun ns at ∷ K) (owns_begun ns at K) in record { after = i.after; runs = i.runs; ends = λ p. i.semicolon p }
  taken_form (g.is_spawn (spawns {c = call_} z begin into pool v)) ns K = record { after = state (f.Begun ns begin ∷ K) (m.Acting (a.ActEnd (act.Start (spawn begin call_ (ident z pool))))); runs = taken_spawn v begin (f.Begun ns begin ∷ K); ends = λ p. refl }
  taken_form (g.is_async {xs = xs} {body = rest_} {ns = ms} at begin end v u) ns K =
      let i = taken_shares v (f.Begun ns at ∷ K) in
      record { after = state K (m.In (ns ++ node at (stmt.Async xs (block ms)) ∷ [])); runs = i.runs ∙ ap (then_run (run rest_)) (i.opens begin) ∙ closes_body (body.Async xs) ms (f.Begun ns at ∷ K) (resumed u (state (f.Body (body.Async xs) ∷ f.Begun ns at ∷ K) (m.In [])) [] (f.Body (body.Async xs) ∷ f.Begun ns at ∷ K) refl); ends = refl }
  taken_form (g.is_await_async {xs = xs} {body = rest_} {ns = ms} at async begin end v u) ns K =
      let i = taken_shares v (f.Begun ns at ∷ K) in
      record { after = state K (m.In (ns ++ node at (stmt.Async xs (block ms)) ∷ [])); runs = i.runs ∙ ap (then_run (run rest_)) (i.opens begin) ∙ closes_body (body.Async xs) ms (f.Begun ns at ∷ K) (resumed u (state (f.Body (body.Async xs) ∷ f.Begun ns at ∷ K) (m.In [])) [] (f.Body (body.Async xs) ∷ f.Begun ns at ∷ K) refl); ends = refl }
  taken_form (g.is_do {d = done} at v) ns K = record { after = state K (m.In (ns ++ node at (stmt.Do done) ∷ [])); runs = taken_do v (f.Begun ns at ∷ K); ends = refl }
  taken_form (g.is_kill x at name rest) ns K = record { after = state (f.Begun ns at ∷ K) (m.Semicolon (stmt.Kill (ident x name))); runs = refl; ends = λ p. refl }
  taken_form (g.is_escape at rest) ns K = record { after = state (f.Begun ns at ∷ K) (m.Acting a.Escape); runs = refl; ends = λ p. refl }
  taken_form (g.is_escape_value {tokens = tokens} at v) ns K =
      let i = valued v (f.Escape None ∷ f.Begun ns at ∷ K) (λ l u v x. refl) in
      record { after = i.after; runs = alike tokens (expression_first v) (state (f.Begun ns at ∷ K) (m.Acting a.Escape)) (state (f.Escape None ∷ f.Begun ns at ∷ K) m.Start) (escape_starts (f.Begun ns at ∷ K)) ∙ i.runs; ends = λ p. i.semicolon p }
  taken_form (g.is_escape_label x at slash name rest) ns K = record { after = state (f.Begun ns at ∷ K) (m.Acting (a.EscapeValue (ident x name))); runs = refl; ends = λ p. refl }
  taken_form (g.is_escape_both {tokens = tokens} x at slash name v) ns K =
      let i = valued v (f.Escape (Some (ident x name)) ∷ f.Begun ns at ∷ K) (λ l u v x. refl) in
      record { after = i.after; runs = alike tokens (expression_first v) (state (f.Begun ns at ∷ K) (m.Acting (a.EscapeValue (ident x name)))) (state (f.Escape (Some (ident x name)) ∷ f.Begun ns at ∷ K) m.Start) (escape_value_starts (ident x name) (f.Begun ns at ∷ K)) ∙ i.runs; ends = λ p. i.semicolon p }
  taken_form (g.is_finalize {ns = ms} at finalize with end v) ns K =
      record { after = state K (m.In (ns ++ node at (stmt.Finalize (block ms)) ∷ [])); runs = closes_body body.Finalize ms (f.Begun ns at ∷ K) (resumed v (state (f.Body body.Finalize ∷ f.Begun ns at ∷ K) (m.In [])) [] (f.Body body.Finalize ∷ f.Begun ns at ∷ K) refl); ends = refl }
  taken_form (g.is_if {e = e} {ns = ms} {arms = arms} {last = last} at by x v u) ns K =
      let i = resumed v (state (f.Body (body.Arm [] e) ∷ f.Begun ns at ∷ K) (m.In [])) [] (f.Body (body.Arm [] e) ∷ f.Begun ns at ∷ K) refl in
      record { after = state K (m.In (ns ++ node at (stmt.If (arm e ms ∷ arms) last) ∷ [])); runs = taken_condition x [] (f.Begun ns at ∷ K) ∙ i.runs ∙ taken_arms u [] e ms ns at K i.after i.settles; ends = refl }
  taken_form (g.is_loop {ns = ms} at begin end v) ns K =
      record { after = state K (m.In (ns ++ node at (stmt.Loop None (block ms)) ∷ [])); runs = closes_body (body.Loop None) ms (f.Begun ns at ∷ K) (resumed v (state (f.Body (body.Loop None) ∷ f.Begun ns at ∷ K) (m.In [])) [] (f.Body (body.Loop None) ∷ f.Begun ns at ∷ K) refl); ends = refl }
  taken_form (g.is_times {ns = ms} n at slash count begin end v) ns K =
      record { after = state K (m.In (ns ++ node at (stmt.Loop (Some (saturated n)) (block ms)) ∷ [])); runs = closes_body (body.Loop (Some (saturated n))) ms (f.Begun ns at ∷ K) (resumed v (state (f.Body (body.Loop (Some (saturated n))) ∷ f.Begun ns at ∷ K) (m.In [])) [] (f.Body (body.Loop (Some (saturated n))) ∷ f.Begun ns at ∷ K) refl); ends = refl }
  taken_form (g.is_range {a = from} {b = to} {ns = ms} x open_a open_b at name into left arrow right begin end v u t) ns K =
      record {
        after = state K (m.In (ns ++ node at (stmt.Range (range (ident x name) open_a from to open_b ms)) ∷ []));
        runs = taken_range (ident x name) open_a open_b left (f.Begun ns at ∷ K) v u
            ∙ closes_body (body.Range (ident x name) open_a from to open_b) ms (f.Begun ns at ∷ K) (resumed t (state (f.Body (body.Range (ident x name) open_a from to open_b) ∷ f.Begun ns at ∷ K) (m.In [])) [] (f.Body (body.Range (ident x name) open_a from to open_b) ∷ f.Begun ns at ∷ K) refl);
        ends = refl;
      }
  taken_form (g.is_every {body = rest_} {t = t} {ns = ms} at begin end v u) ns K =
      let i = taken_every v (f.Begun ns at ∷ K) in
      record { after = state K (m.In (ns ++ node at (stmt.Every None t (block ms)) ∷ [])); runs = i.runs ∙ ap (then_run (run rest_)) (i.opens begin) ∙ closes_body (body.Every None t) ms (f.Begun ns at ∷ K) (resumed u (state (f.Body (body.Every None t) ∷ f.Begun ns at ∷ K) (m.In [])) [] (f.Body (body.Every None t) ∷ f.Begun ns at ∷ K) refl); ends = refl }
  taken_form (g.is_every_in {x = x} {t = t} {ns = ms} at into begin end v u q) ns K =
      record {
        after = state K (m.In (ns ++ node at (stmt.Every (Some x) t (block ms)) ∷ []));
        runs = location_every v (f.Begun ns at ∷ K) ∙ taken_target u (f.Every (Some x) ∷ f.Begun ns at ∷ K)
            ∙ closes_body (body.Every (Some x) t) ms (f.Begun ns at ∷ K) (resumed q (state (f.Body (body.Every (Some x) t) ∷ f.Begun ns at ∷ K) (m.In [])) [] (f.Body (body.Every (Some x) t) ∷ f.Begun ns at ∷ K) refl);
        ends = refl;
      }
  taken_form (g.is_watching {t = t} {ns = ms} at begin end v u) ns K =
      record {
        after = state K (m.In (ns ++ node at (stmt.Watching t (block ms)) ∷ []));
        runs = taken_target v (f.Watching ∷ f.Begun ns at ∷ K)
            ∙ closes_body (body.Watching t) ms (f.Begun ns at ∷ K) (resumed u (state (f.Body (body.Watching t) ∷ f.Begun ns at ∷ K) (m.In [])) [] (f.Body (body.Watching t) ∷ f.Begun ns at ∷ K) refl);
        ends = refl;
      }
  taken_form (g.is_par {body = rest_} {mid = mid} {kind = kind} {ns = ms} {bs = bs} at begin with v u q) ns K =
      let i = taken_par v (f.Begun ns at ∷ K) in
      let j = resumed u (state (f.Body (body.FirstBranch kind) ∷ f.Begun ns at ∷ K) (m.In [])) [] (f.Body (body.FirstBranch kind) ∷ f.Begun ns at ∷ K) refl in
      record { after = state K (m.In (ns ++ node at (stmt.Par kind (block ms ∷ bs)) ∷ [])); runs = i.runs ∙ ap (then_run (run rest_)) (i.opens begin) ∙ j.runs ∙ ap (then_run (run mid)) (with_step j.after kind ms (f.Begun ns at ∷ K) with j.settles) ∙ taken_branches q kind (block ms ∷ []) ns at K; ends = refl }

  taken_do : {tokens : List Terminal} {done : Do} {rest : List Terminal} → Does tokens done rest → (K : List Frame) → run tokens (state K (m.Opening o.Do)) ≡ then_run (run rest) (spec.do_end done K)
  taken_do (does_plain {tokens = tokens} {ns = ms} end v) K = same tokens (plain_statements v tt) (state K (m.Opening o.Do)) (state (f.Body (body.Do label.Plain) ∷ K) (m.In [])) (do_step K)
      ∙ closes_body (body.Do label.Plain) ms K (resumed v (state (f.Body (body.Do label.Plain) ∷ K) (m.In [])) [] (f.Body (body.Do label.Plain) ∷ K) refl)
  taken_do (does_under {ns = ms} slash at end v) K = closes_body (body.Do label.Under) ms K (resumed v (state (f.Body (body.Do label.Under) ∷ K) (m.In [])) [] (f.Body (body.Do label.Under) ∷ K) refl)
  taken_do (does_named {ns = ms} x slash at end v) K = closes_body (body.Do (label.Named (ident x at))) ms K (resumed v (state (f.Body (body.Do (label.Named (ident x at))) ∷ K) (m.In [])) [] (f.Body (body.Do (label.Named (ident x at))) ∷ K) refl)

  taken_source : {tokens : List Terminal} {source : Source} {b : Bool} {rest : List Terminal} → Sources tokens source b rest → (K : List Frame) → SourceOwner K → SourceTaken tokens source b rest K
  taken_source (is_value {tokens = tokens} {e = e} v) K own =
      let i = valued v K own.fits in record { after = i.after; runs = alike tokens (expression_first v) (state K (m.Acting a.Source)) (state K m.Start) (source_starts K) ∙ i.runs; ends = ((λ p. i.semicolon p ∙ own.values e), (λ p. i.comma p ∙ own.commas e)) }
  taken_source (is_wait {a = wait_} at v) K own = let i = taken_await v K own.owns in record { after = i.after; runs = i.runs; ends = ((λ p. i.semicolon p ∙ own.acts (act.Wait wait_)), (λ p. i.comma p)) }
  taken_source (is_start (spawns {c = call_} x begin into pool v)) K own =
      record { after = state K (m.Acting (a.ActEnd (act.Start (spawn begin call_ (ident x pool))))); runs = taken_spawn v begin K; ends = ((λ p. own.acts (act.Start (spawn begin call_ (ident x pool)))), (λ p. refl)) }
  taken_source (is_done {d = done} {rest = rest} at v) K own = record { after = own.closes (source.Done done); runs = taken_do v K ∙ ap (then_run (run rest)) (own.dos done ∙ own.closed_to (source.Done done)); ends = own.closed_to (source.Done done) }

  taken_item : {tokens : List Terminal} {i : Item} {b : Bool} {rest : List Terminal} → ItemOf tokens i b rest → (ty : Ty) (is : List Item) (ns : List Node) (at : Pos) (K : List Frame)
      → ItemTaken (state (f.Begun ns at ∷ K) (m.Declaring (d.Item ty is))) tokens b rest (state (f.Begun ns at ∷ K) (m.Declaring (d.Item ty (is ++ i ∷ [])))) (state K (m.In (ns ++ node at (stmt.Vars ty (is ++ i ∷ [])) ∷ [])))
  taken_item (is_bare x p rest) ty is ns at K = record { after = state (f.Begun ns at ∷ K) (m.Declaring (d.ItemValue ty is (ident x p))); runs = refl; ends = λ q. refl; comma = λ q. refl }
  taken_item (is_initial {source = source} {b = b} x p equal v) ty is ns at K = initial ty is x source b ns at K (taken_source v (f.Initial ty is (ident x p) ∷ f.Begun ns at ∷ K) (item_owner ty is (ident x p) ns at K))

  taken_items : {tokens : List Terminal} {more : List Item} {b : Bool} {rest : List Terminal} → Items tokens more b rest → (ty : Ty) (is : List Item) (ns : List Node) (at : Pos) (K : List Frame)
      → FormTaken (state (f.Begun ns at ∷ K) (m.Declaring (d.Item ty is))) tokens b rest (state K (m.In (ns ++ node at (stmt.Vars ty (is ++ more)) ∷ [])))
  taken_items (last_item v) ty is ns at K = let i = taken_item v ty is ns at K in record { after = i.after; runs = i.runs; ends = i.ends }
  taken_items (one_item {mid = mid} {i = first} {is = more} {b = b} comma v u) ty is ns at K =
      let i = taken_item v ty is ns at K in
      let j = taken_items u ty (is ++ first ∷ []) ns at K in
      record { after = j.after; runs = i.runs ∙ ap (then_run (run mid)) (i.comma comma) ∙ j.runs; ends = subst (λ q. Concluded b j.after (state K (m.In (ns ++ node at (stmt.Vars ty q) ∷ [])))) (append_assoc is (first ∷ []) more) j.ends }

  taken_statement : {tokens : List Terminal} {n : Node} {rest : List Terminal} → Statement tokens n rest → (ns : List Node) (K : List Frame) → Resumed (state K (m.In ns)) tokens rest (state K (m.In (ns ++ n ∷ [])))
  taken_statement (is_simple {n = n} {rest = rest} at v) ns K = let i = taken_form v ns K in record { after = state K (m.In (ns ++ n ∷ [])); runs = i.runs ∙ ap (then_run (run rest)) (i.ends at); settles = refl }
  taken_statement (is_ended v) ns K = let i = taken_form v ns K in record { after = i.after; runs = i.runs; settles = i.ends }

  -- from a state that may still go on
  pub resumed : {tokens : List Terminal} {ms : List Node} {rest : List Terminal} → Statements tokens ms rest → (st : State) (ns : List Node) (K : List Frame) → settled st ≡ state K (m.In ns) → Resumed st tokens rest (state K (m.In (ns ++ ms)))
  resumed (no_more rest) st ns K e = record { after = st; runs = refl; settles = e ∙ ap (λ u. state K (m.In u)) (sym (append-nil ns)) }
  resumed (skips {tokens = tokens} at v) st ns K e =
      let i = resumed v (state K (m.In ns)) ns K refl in record { after = i.after; runs = ap (then_run (run tokens)) (settled_step st (state K (m.In ns)) k.Semicolon at tt e) ∙ i.runs; settles = i.settles }
  resumed (one_more {tokens = tokens} {n = n} {ns = ms} t v) st ns K e =
      let i = taken_statement t ns K in
      let j = resumed v i.after (ns ++ n ∷ []) K i.settles in
      record { after = j.after; runs = same tokens (plain_statement t) st (state K (m.In ns)) (λ kind at p. settled_step st (state K (m.In ns)) kind at p e) ∙ i.runs ∙ j.runs; settles = j.settles ∙ ap (λ u. state K (m.In u)) (append_assoc ns (n ∷ []) ms) }

  taken_branches : {tokens : List Terminal} {bs : List Block} {rest : List Terminal} → Branches tokens bs rest → (kind : ParKind) (cs : List Block) (ns : List Node) (at : Pos) (K : List Frame)
      → run tokens (state (f.Body (body.Branch kind cs) ∷ f.Begun ns at ∷ K) (m.In [])) ≡ run rest (state K (m.In (ns ++ node at (stmt.Par kind (cs ++ bs)) ∷ [])))
  taken_branches (last_branch {ns = ms} end v) kind cs ns at K = closes_body (body.Branch kind cs) ms (f.Begun ns at ∷ K) (resumed v (state (f.Body (body.Branch kind cs) ∷ f.Begun ns at ∷ K) (m.In [])) [] (f.Body (body.Branch kind cs) ∷ f.Begun ns at ∷ K) refl)
  taken_branches (one_branch {ns = ms} {mid = mid} {bs = bs} {rest = rest} with v u) kind cs ns at K =
      let i = resumed v (state (f.Body (body.Branch kind cs) ∷ f.Begun ns at ∷ K) (m.In [])) [] (f.Body (body.Branch kind cs) ∷ f.Begun ns at ∷ K) refl in
      i.runs ∙ ap (then_run (run mid)) (more_step i.after kind cs ms (f.Begun ns at ∷ K) with i.settles) ∙ taken_branches u kind (cs ++ block ms ∷ []) ns at K
      ∙ ap (λ q. run rest (state K (m.In (ns ++ node at (stmt.Par kind q) ∷ [])))) (append_assoc cs (block ms ∷ []) bs)

  taken_arms : {tokens : List Terminal} {more : List Arm} {last : Option Block} {rest : List Terminal} → Arms tokens more last rest → (arms : List Arm) (e : Exp) (ms ns : List Node) (at : Pos) (K : List Frame)
      → (st : State) → settled st ≡ state (f.Body (body.Arm arms e) ∷ f.Begun ns at ∷ K) (m.In ms) → run tokens st ≡ run rest (state K (m.In (ns ++ node at (stmt.If (arms ++ arm e ms ∷ more) last) ∷ [])))
  taken_arms (no_else end rest) arms e ms ns at K st i = ap (then_run (run rest)) (arm_end_step st arms e ms ns at K end i)
  taken_arms (last_else {tokens = tokens} {ns = os} p end v) arms e ms ns at K st i =
      ap (then_run (run tokens)) (arm_else_step st arms e ms (f.Begun ns at ∷ K) p i)
      ∙ same tokens (plain_statements v tt) (state (f.Begun ns at ∷ K) (m.Opening (o.Else (arms ++ arm e ms ∷ [])))) (state (f.Body (body.Else (arms ++ arm e ms ∷ [])) ∷ f.Begun ns at ∷ K) (m.In [])) (else_step (arms ++ arm e ms ∷ []) (f.Begun ns at ∷ K))
      ∙ closes_body (body.Else (arms ++ arm e ms ∷ [])) os (f.Begun ns at ∷ K) (resumed v (state (f.Body (body.Else (arms ++ arm e ms ∷ [])) ∷ f.Begun ns at ∷ K) (m.In [])) [] (f.Body (body.Else (arms ++ arm e ms ∷ [])) ∷ f.Begun ns at ∷ K) refl)
  taken_arms (else_if {tokens = tokens} {e = x} {ns = os} {arms = more} {last = last} {rest = rest} p slash again by v u q) arms e ms ns at K st i =
      let j = resumed u (state (f.Body (body.Arm (arms ++ arm e ms ∷ []) x) ∷ f.Begun ns at ∷ K) (m.In [])) [] (f.Body (body.Arm (arms ++ arm e ms ∷ []) x) ∷ f.Begun ns at ∷ K) refl in
      ap (then_run (run (token k.Slash slash ∷ token k.If again ∷ tokens))) (arm_else_step st arms e ms (f.Begun ns at ∷ K) p i)
      ∙ taken_condition v (arms ++ arm e ms ∷ []) (f.Begun ns at ∷ K) ∙ j.runs ∙ taken_arms q (arms ++ arm e ms ∷ []) x os ns at K j.after j.settles
      ∙ ap (λ r. run rest (state K (m.In (ns ++ node at (stmt.If r last) ∷ [])))) (append_assoc arms (arm e ms ∷ []) (arm x os ∷ more))
