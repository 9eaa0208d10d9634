-- Parts of statements that derive are taken, and give their trees.
use Rattle.std.proofs.Common.{◌≡◌, refl, ap, ◌∙◌, ℕ, List, [], ◌∷◌, ◌++◌, Some, None, arith, append_assoc}
use Rattle.ceu_base.specs.declared.kinds.Pos.{Pos}
use Rattle.ceu_tree.specs.declared.kernel.ParKind.{ParKind}
use Rattle.ceu_tree.specs.declared.source.Ident.{Ident}
use Rattle.ceu_tree.specs.declared.source.Exp.{Exp}
use Rattle.ceu_tree.specs.declared.source.Call.{Call}
use Rattle.ceu_tree.specs.declared.source.Target.{Target}
use Rattle.ceu_tree.specs.declared.source.Await.{Await}
use Rattle.ceu_tree.specs.declared.source.Param.{Param}
use Rattle.ceu_tree.specs.declared.source.Node.{Node}
use Rattle.ceu_syntax.specs.declared.terminal.Kind.{Kind}
use Rattle.ceu_syntax.specs.declared.terminal.Terminal.{Terminal}
use Rattle.ceu_syntax.specs.declared.machine.Body.TheVariants as body
use Rattle.ceu_syntax.specs.declared.machine.Frame.{Frame}
use Rattle.ceu_syntax.specs.declared.machine.Frame.TheVariants as f
use Rattle.ceu_syntax.specs.declared.machine.Listed.{Listed}
use Rattle.ceu_syntax.specs.declared.machine.Listed.TheVariants as listed
use Rattle.ceu_syntax.specs.declared.machine.Act.{Act}
use Rattle.ceu_syntax.specs.declared.machine.Act.TheVariants as act
use Rattle.ceu_syntax.specs.declared.machine.Declaring.TheVariants as d
use Rattle.ceu_syntax.specs.declared.machine.Coding.TheVariants as c
use Rattle.ceu_syntax.specs.declared.machine.Acting.TheVariants as a
use Rattle.ceu_syntax.specs.declared.machine.Opening.TheVariants as o
use Rattle.ceu_syntax.specs.declared.machine.Looping.TheVariants as l
use Rattle.ceu_syntax.specs.declared.machine.Mode.TheVariants as m
use Rattle.ceu_syntax.specs.Terminals.{token, lower, prefix_of}
use Rattle.ceu_syntax.specs.Trees.{ident, spawn}
use Rattle.ceu_base.specs.declared.kinds.Op1.{Op1}
use Rattle.ceu_tree.specs.declared.kernel.ParKind.TheVariants as par
use Rattle.ceu_tree.specs.declared.kernel.Unit.{Unit as TimeUnit}
use Rattle.ceu_tree.specs.declared.source.Target.TheVariants as target
use Rattle.ceu_tree.specs.declared.source.Await.TheVariants as wait
use Rattle.ceu_syntax.specs.declared.terminal.Kind.TheVariants as k
use Rattle.ceu_syntax.specs.declared.machine.Case.{Case}
use Rattle.ceu_syntax.specs.declared.machine.Case.TheVariants as case
use Rattle.ceu_syntax.specs.Terminals.{unit_name}
use Rattle.ceu_syntax.specs.Trees.{param}
use Rattle.ceu_syntax.specs.Expressions.{Location, is_here, is_outer, Expression, is_number, is_truth, is_variable, is_alive, is_paren, is_prefix, is_binary, is_cast, Arguments, last_argument, one_argument, Calls, calls_empty, calls_with, Targets, is_input, is_event, is_time, is_time_expression, Awaits, is_forever, is_code, is_target, is_until}
use Rattle.ceu_syntax.specs.Forms.{named, Names, last_name, one_name, Shares, no_list, empty_list, shared, ParamList, last_param, one_param, Params, no_params, none_params, some_params, Pars, is_never, is_or, is_and, Emits, emits_output, emits_event}
use Rattle.ceu_syntax.specs.Steps as spec
use Rattle.ceu_syntax.specs.Steps.{State, state, Held, held, reduce, statement_of, source_of, case_of, closed}
use Rattle.ceu_syntax.specs.Runs.{run, step, then_run}
use Rattle.ceu_syntax.proofs.Takes.{Ender, close_ends, semicolon_ends, comma_ends, Fits, taken, hold_ends}
use Rattle.ceu_syntax.proofs.Units.{unit_named}

-- ---- first tokens

-- a token that may begin an operand, where also other tokens are looked for
abbrev pub OperandKind : Kind → Type 0
OperandKind k.Await = ⊥
OperandKind k.Spawn = ⊥
OperandKind k.Do = ⊥
OperandKind k.CloseParen = ⊥
OperandKind k.Slash = ⊥
OperandKind k.Semicolon = ⊥
OperandKind _ = Unit {0}

abbrev pub OperandFirst : List Terminal → Type 0
OperandFirst [] = ⊥
OperandFirst (t ∷ ts) = OperandKind t.kind

prefix_operand : (kind : Kind) (op : Op1) → prefix_of kind ≡ Some op → OperandKind kind
prefix_operand k.Await op h = absurd (cc)
prefix_operand k.Spawn op h = absurd (cc)
prefix_operand k.Do op h = absurd (cc)
prefix_operand k.CloseParen op h = absurd (cc)
prefix_operand k.Slash op h = absurd (cc)
prefix_operand k.Semicolon op h = absurd (cc)
prefix_operand _ op h = tt

location_first : {tokens : List Terminal} {x : Ident} {rest : List Terminal} → Location tokens x rest → OperandFirst tokens
location_first (is_here x at rest) = tt
location_first (is_outer x at dot name rest) = tt

pub expression_first : {p : ℕ} {tokens : List Terminal} {e : Exp} {rest : List Terminal} → Expression p tokens e rest → OperandFirst tokens
expression_first (is_number n at rest) = tt
expression_first (is_truth b at rest) = tt
expression_first (is_variable l) = location_first l
expression_first (is_alive x at mark rest) = tt
expression_first (is_paren at close d) = tt
expression_first (is_prefix kind op at c o d) = prefix_operand kind op o
expression_first (is_binary kind op at c o d g) = expression_first d
expression_first (is_cast ty at last d) = expression_first d

pub arguments_first : {tokens : List Terminal} {es : List Exp} {rest : List Terminal} → Arguments tokens es rest → OperandFirst tokens
arguments_first (last_argument close d) = expression_first d
arguments_first (one_argument comma d m) = expression_first d

-- two states that an operand's first token takes alike
pub alike : (tokens : List Terminal) → OperandFirst tokens → (u v : State) → ((kind : Kind) (at : Pos) → OperandKind kind → step (token kind at) u ≡ step (token kind at) v) → run tokens u ≡ run tokens v
unfolding run
alike [] o u v h = absurd o
alike (t ∷ ts) o u v h = ap (then_run (run ts)) (h t.kind t.pos o)

pub source_starts : (K : List Frame) (kind : Kind) (at : Pos) → OperandKind kind → spec.of_source kind at K ≡ spec.starts kind at K
source_starts K k.Await at o = absurd o
source_starts K k.Spawn at o = absurd o
source_starts K k.Do at o = absurd o
source_starts K kind at o = refl

arguments_starts : (code : Ident) (K : List Frame) (kind : Kind) (at : Pos) → OperandKind kind → spec.of_arguments kind at code K ≡ spec.starts kind at (f.Arguments code [] ∷ K)
arguments_starts code K k.CloseParen at o = absurd o
arguments_starts code K kind at o = refl

pub emit_starts : (x : Ident) (K : List Frame) (kind : Kind) (at : Pos) → OperandKind kind → spec.of_emit_value kind at x K ≡ spec.starts kind at (f.Emit x ∷ K)
emit_starts x K k.CloseParen at o = absurd o
emit_starts x K kind at o = refl

pub escape_starts : (K : List Frame) (kind : Kind) (at : Pos) → OperandKind kind → spec.of_escape kind at K ≡ spec.starts kind at (f.Escape None ∷ K)
escape_starts K k.Slash at o = absurd o
escape_starts K k.Semicolon at o = absurd o
escape_starts K kind at o = refl

pub escape_value_starts : (x : Ident) (K : List Frame) (kind : Kind) (at : Pos) → OperandKind kind → spec.of_escape_value kind at x K ≡ spec.starts kind at (f.Escape (Some x) ∷ K)
escape_value_starts x K k.Semicolon at o = absurd o
escape_value_starts x K kind at o = refl

-- ---- an expression and the token behind it

pub taken_to : {tokens : List Terminal} {e : Exp} {kind : Kind} {at : Pos} {rest : List Terminal} → Expression 0 tokens e (token kind at ∷ rest) → Ender kind → (K : List Frame) → Fits 0 K
    → run tokens (state K m.Start) ≡ then_run (run rest) (spec.ends kind at (held e K))
unfolding run
taken_to {tokens} {e} {kind} {at} {rest} d b K fits =
    let i = taken d K fits in i.runs ∙ ap (then_run (run rest)) (hold_ends i.mode i.stack e K kind at i.holds b (fits 0 (omega arith) (omega arith)))

-- what has been taken ends with the value e at any ending token
pub record Valued (tokens : List Terminal) (e : Exp) (rest : List Terminal) (K : List Frame) : Type 0 where
  pub after : State
  pub runs : run tokens (state K m.Start) ≡ run rest after
  pub semicolon : (at : Pos) → step (token k.Semicolon at) after ≡ spec.ends_semicolon e K
  pub comma : (at : Pos) → step (token k.Comma at) after ≡ spec.ends_comma e K

pub valued : {tokens : List Terminal} {e : Exp} {rest : List Terminal} → Expression 0 tokens e rest → (K : List Frame) → Fits 0 K → Valued tokens e rest K
valued {tokens} {e} {rest} d K fits =
    let i = taken d K fits in
    record {
      after = state i.stack i.mode;
      runs = i.runs;
      semicolon = λ at. hold_ends i.mode i.stack e K k.Semicolon at i.holds semicolon_ends (fits 0 (omega arith) (omega arith));
      comma = λ at. hold_ends i.mode i.stack e K k.Comma at i.holds comma_ends (fits 0 (omega arith) (omega arith));
    }

-- ---- calls

pub taken_arguments : {tokens : List Terminal} {more : List Exp} {rest : List Terminal} → Arguments tokens more rest → (code : Ident) (es : List Exp) (K : List Frame)
    → run tokens (state (f.Arguments code es ∷ K) m.Start) ≡ then_run (run rest) (spec.called code (es ++ more) K)
taken_arguments (last_argument {e = e} {rest = rest} close d) code es K = taken_to d close_ends (f.Arguments code es ∷ K) (λ l u v x. refl)
taken_arguments (one_argument {e = e} {mid = mid} {es = more} {rest = rest} comma d a) code es K =
    taken_to d comma_ends (f.Arguments code es ∷ K) (λ l u v x. refl) ∙ taken_arguments a code (es ++ e ∷ []) K
    ∙ ap (λ u. then_run (run rest) (spec.called code u K)) (append_assoc es (e ∷ []) more)

pub taken_call : {tokens : List Terminal} {c : Call} {rest : List Terminal} → Calls tokens c rest → (K : List Frame)
    → run tokens (state K (m.Acting a.Spawn)) ≡ then_run (run rest) (spec.called c.code c.args K)
unfolding run
taken_call (calls_empty x at open_ close rest) K = refl
taken_call (calls_with {tokens = tokens} x at open_ d) K = alike tokens (arguments_first d) (state K (m.Acting (a.Arguments (ident x at)))) (state (f.Arguments (ident x at) [] ∷ K) m.Start) (arguments_starts (ident x at) K) ∙ taken_arguments d (ident x at) [] K

call_await : {tokens : List Terminal} {c : Call} {rest : List Terminal} → Calls tokens c rest → (K : List Frame) → run tokens (state K (m.Acting a.Await)) ≡ run tokens (state K (m.Acting a.Spawn))
unfolding run
call_await (calls_empty x at open_ close rest) K = refl
call_await (calls_with x at open_ d) K = refl

-- behind the word `spawn`
pub taken_spawn : {tokens : List Terminal} {c : Call} {x : List ℕ} {into name : Pos} {rest : List Terminal} → Calls tokens c (token k.In into ∷ lower x name ∷ rest) → (begin : Pos) (K : List Frame)
    → run tokens (state (f.Spawn begin ∷ K) (m.Acting a.Spawn)) ≡ run rest (state K (m.Acting (a.ActEnd (act.Start (spawn begin c (ident x name))))))
unfolding run
taken_spawn d begin K = taken_call d (f.Spawn begin ∷ K)

-- ---- locations and targets

pub location_store : {tokens : List Terminal} {x : Ident} {rest : List Terminal} → Location tokens x rest → (ns : List Node) (K : List Frame)
    → run tokens (state K (m.In ns)) ≡ run rest (state (f.Begun ns x.pos ∷ K) (m.Acting (a.Assign x)))
unfolding run
location_store (is_here x at rest) ns K = refl
location_store (is_outer x at dot name rest) ns K = refl

pub location_every : {tokens : List Terminal} {x : Ident} {rest : List Terminal} → Location tokens x rest → (K : List Frame)
    → run tokens (state K (m.Looping l.Every)) ≡ run rest (state K (m.Looping (l.EveryIn x)))
unfolding run
location_every (is_here x at rest) K = refl
location_every (is_outer x at dot name rest) K = refl

location_target : {tokens : List Terminal} {x : Ident} {rest : List Terminal} → Location tokens x rest → (K : List Frame)
    → run tokens (state K (m.Acting a.Target)) ≡ then_run (run rest) (spec.aimed (target.Event x) K)
unfolding run
location_target (is_here x at rest) K = refl
location_target (is_outer x at dot name rest) K = refl

pub taken_emit : {tokens : List Terminal} {x : Ident} {rest : List Terminal} → Emits tokens x rest → (K : List Frame)
    → run tokens (state K (m.Acting a.Emit)) ≡ run rest (state K (m.Acting (a.EmitOpen x)))
unfolding run
taken_emit (emits_output x at rest) K = refl
taken_emit (emits_event (is_here x at rest)) K = refl
taken_emit (emits_event (is_outer x at dot name rest)) K = refl

taken_time : {tokens : List Terminal} {e : Exp} {close name : Pos} {rest : List Terminal} (unit : TimeUnit) → Expression 0 tokens e (token k.CloseParen close ∷ lower (unit_name unit) name ∷ rest) → (K : List Frame)
    → run tokens (state (f.Time ∷ K) m.Start) ≡ then_run (run rest) (spec.aimed (target.TimeExp e unit) K)
unfolding run
taken_time {e = e} {rest = rest} unit d K = taken_to d close_ends (f.Time ∷ K) (λ l u v x. refl) ∙ ap (λ o. then_run (run rest) (spec.timed o e K)) (unit_named unit)

pub taken_target : {tokens : List Terminal} {t : Target} {rest : List Terminal} → Targets tokens t rest → (K : List Frame)
    → run tokens (state K (m.Acting a.Target)) ≡ then_run (run rest) (spec.aimed t K)
unfolding run
taken_target (is_input x at rest) K = refl
taken_target (is_event d) K = location_target d K
taken_target (is_time n at rest) K = refl
taken_target (is_time_expression unit open_ close name d) K = taken_time unit d K

target_await : {tokens : List Terminal} {t : Target} {rest : List Terminal} → Targets tokens t rest → (K : List Frame) → run tokens (state K (m.Acting a.Await)) ≡ run tokens (state K (m.Acting a.Target))
unfolding run
target_await (is_input x at rest) K = refl
target_await (is_event (is_here x at rest)) K = refl
target_await (is_event (is_outer x at dot name rest)) K = refl
target_await (is_time n at rest) K = refl
target_await (is_time_expression unit open_ close name d) K = refl

-- the target of an `every` without a variable
pub record EveryTaken (tokens : List Terminal) (t : Target) (rest : List Terminal) (K : List Frame) : Type 0 where
  pub after : State
  pub runs : run tokens (state K (m.Looping l.Every)) ≡ run rest after
  pub opens : (begin : Pos) → step (token k.Do begin) after ≡ Some (state (f.Body (body.Every None t) ∷ K) (m.In []))

pub taken_every : {tokens : List Terminal} {t : Target} {rest : List Terminal} → Targets tokens t rest → (K : List Frame) → EveryTaken tokens t rest K
unfolding run
taken_every (is_input x at rest) K = record { after = state K (m.Looping (l.EveryDo None (target.Ext (ident x at)))); runs = refl; opens = λ p. refl }
taken_every (is_event {x = x} d) K = record { after = state K (m.Looping (l.EveryIn x)); runs = location_every d K; opens = λ p. refl }
taken_every (is_time n at rest) K = record { after = state K (m.Looping (l.EveryDo None (target.Time n))); runs = refl; opens = λ p. refl }
taken_every (is_time_expression {e = e} unit open_ close name d) K = record { after = state K (m.Looping (l.EveryDo None (target.TimeExp e unit))); runs = taken_time unit d (f.Every None ∷ K); opens = λ p. refl }

-- ---- awaits

-- what owns an await: a statement or a source
pub record Owns (K : List Frame) : Type 0 where
  pub calls : (code : Ident) (es : List Exp) → spec.called code es K ≡ Some (state K (spec.awaited_call code es))
  pub aims : (t : Target) → spec.aimed t K ≡ Some (state K (m.Acting (a.AwaitEnd t)))

pub record ActTaken (from : State) (tokens : List Terminal) (done : Act) (rest : List Terminal) (K : List Frame) : Type 0 where
  pub after : State
  pub runs : run tokens from ≡ run rest after
  pub semicolon : (at : Pos) → step (token k.Semicolon at) after ≡ spec.act_semicolon done K
  pub comma : (at : Pos) → step (token k.Comma at) after ≡ spec.source_comma (source_of done) K

pub taken_await : {tokens : List Terminal} {await : Await} {rest : List Terminal} → Awaits tokens await rest → (K : List Frame) → Owns K → ActTaken (state K (m.Acting a.Await)) tokens (act.Wait await) rest K
unfolding run
taken_await (is_forever at rest) K o = record { after = state K (m.Acting (a.ActEnd (act.Wait wait.Forever))); runs = refl; semicolon = λ p. refl; comma = λ p. refl }
taken_await (is_code {c = code} {rest = rest} d) K o = record { after = state K (m.Acting (a.ActEnd (act.Wait (wait.Code code)))); runs = call_await d K ∙ taken_call d K ∙ ap (then_run (run rest)) (o.calls code.code code.args); semicolon = λ p. refl; comma = λ p. refl }
taken_await (is_target {t = t} {rest = rest} d) K o = record { after = state K (m.Acting (a.AwaitEnd t)); runs = target_await d K ∙ taken_target d K ∙ ap (then_run (run rest)) (o.aims t); semicolon = λ p. refl; comma = λ p. refl }
taken_await (is_until {mid = mid} {t = t} until d v) K o =
    let i = valued v (f.Until t ∷ K) (λ l u v x. refl) in
    record { after = i.after; runs = target_await d K ∙ taken_target d K ∙ ap (then_run (run (token k.Until until ∷ mid))) (o.aims t) ∙ i.runs; semicolon = λ p. i.semicolon p; comma = λ p. i.comma p }

-- ---- lists of names and parameters

pub name_step : (l : Listed) (c : Case) (x : List ℕ) (at : Pos) (xs : List Ident) (K : List Frame) → case_of l ≡ c → step (named c x at) (state K (m.Declaring (d.Name l xs))) ≡ Some (state K (m.Declaring (d.NameEnd l (xs ++ ident x at ∷ []))))
name_step (listed.Events ty) case.Lower x at xs K e = refl
name_step (listed.Events ty) case.Upper x at xs K e = absurd (cc)
name_step (listed.Inputs ty) case.Lower x at xs K e = absurd (cc)
name_step (listed.Inputs ty) case.Upper x at xs K e = refl
name_step (listed.Outputs ty) case.Lower x at xs K e = absurd (cc)
name_step (listed.Outputs ty) case.Upper x at xs K e = refl
name_step listed.Shared case.Lower x at xs K e = refl
name_step listed.Shared case.Upper x at xs K e = absurd (cc)

pub taken_names : {c : Case} {tokens : List Terminal} {more : List Ident} {rest : List Terminal} → Names c tokens more rest → (l : Listed) (xs : List Ident) (K : List Frame) → case_of l ≡ c
    → run tokens (state K (m.Declaring (d.Name l xs))) ≡ run rest (state K (m.Declaring (d.NameEnd l (xs ++ more))))
unfolding run
taken_names (last_name {c} x at rest) l xs K e = ap (then_run (run rest)) (name_step l c x at xs K e)
taken_names (one_name {c = c} {tokens = tokens} {xs = ys} {rest = rest} x at comma v) l xs K e =
    ap (then_run (run (token k.Comma comma ∷ tokens))) (name_step l c x at xs K e) ∙ taken_names v l (xs ++ ident x at ∷ []) K e ∙ ap (λ u. run rest (state K (m.Declaring (d.NameEnd l u)))) (append_assoc xs (ident x at ∷ []) ys)

shared_step : (c : Case) (x : List ℕ) (at : Pos) (K : List Frame) → c ≡ case.Lower → step (named c x at) (state K (m.Opening o.AsyncOpen)) ≡ step (named c x at) (state K (m.Declaring (d.Name listed.Shared [])))
shared_step case.Lower x at K e = refl
shared_step case.Upper x at K e = absurd (cc)

shared_first : {c : Case} {tokens : List Terminal} {more : List Ident} {rest : List Terminal} → Names c tokens more rest → (K : List Frame) → c ≡ case.Lower
    → run tokens (state K (m.Opening o.AsyncOpen)) ≡ run tokens (state K (m.Declaring (d.Name listed.Shared [])))
unfolding run
shared_first (last_name {c} x at rest) K e = ap (then_run (run rest)) (shared_step c x at K e)
shared_first (one_name {c} {tokens} x at comma d) K e = ap (then_run (run (token k.Comma comma ∷ tokens))) (shared_step c x at K e)

-- the list of an async
pub record SharesTaken (tokens : List Terminal) (xs : List Ident) (rest : List Terminal) (K : List Frame) : Type 0 where
  pub after : State
  pub runs : run tokens (state K (m.Opening o.Async)) ≡ run rest after
  pub opens : (begin : Pos) → step (token k.Do begin) after ≡ Some (state (f.Body (body.Async xs) ∷ K) (m.In []))

pub taken_shares : {tokens : List Terminal} {xs : List Ident} {rest : List Terminal} → Shares tokens xs rest → (K : List Frame) → SharesTaken tokens xs rest K
unfolding run
taken_shares (no_list rest) K = record { after = state K (m.Opening o.Async); runs = refl; opens = λ p. refl }
taken_shares (empty_list open_ close rest) K = record { after = state K (m.Opening (o.AsyncDo [])); runs = refl; opens = λ p. refl }
taken_shares (shared {xs = xs} open_ close d) K = record { after = state K (m.Opening (o.AsyncDo xs)); runs = shared_first d K refl ∙ taken_names d listed.Shared [] K refl; opens = λ p. refl }

taken_param_list : {tokens : List Terminal} {more : List Param} {rest : List Terminal} → ParamList tokens more rest → (code : Ident) (ps : List Param) (K : List Frame)
    → run tokens (state K (m.Coding (c.Param code ps))) ≡ run rest (state K (m.Coding (c.Arrow code (ps ++ more))))
unfolding run
taken_param_list (last_param ty x at of name close rest) code ps K = refl
taken_param_list (one_param {tokens = tokens} {ps = more} {rest = rest} ty x at of name comma d) code ps K =
    taken_param_list d code (ps ++ param ty (ident x name) ∷ []) K ∙ ap (λ u. run rest (state K (m.Coding (c.Arrow code u)))) (append_assoc ps (param ty (ident x name) ∷ []) more)

params_first : {tokens : List Terminal} {more : List Param} {rest : List Terminal} → ParamList tokens more rest → (code : Ident) (K : List Frame)
    → run tokens (state K (m.Coding (c.Params code))) ≡ run tokens (state K (m.Coding (c.Param code [])))
unfolding run
params_first (last_param ty x at of name close rest) code K = refl
params_first (one_param ty x at of name comma d) code K = refl

pub taken_params : {tokens : List Terminal} {ps : List Param} {rest : List Terminal} → Params tokens ps rest → (code : Ident) (K : List Frame)
    → run tokens (state K (m.Coding (c.Params code))) ≡ run rest (state K (m.Coding (c.Arrow code ps)))
unfolding run
taken_params (no_params close rest) code K = refl
taken_params (none_params at close rest) code K = refl
taken_params (some_params d) code K = params_first d code K ∙ taken_param_list d code [] K

-- the word behind `par`
pub record ParTaken (tokens : List Terminal) (kind : ParKind) (rest : List Terminal) (K : List Frame) : Type 0 where
  pub after : State
  pub runs : run tokens (state K (m.Opening o.Par)) ≡ run rest after
  pub opens : (begin : Pos) → step (token k.Do begin) after ≡ Some (state (f.Body (body.FirstBranch kind) ∷ K) (m.In []))

pub taken_par : {tokens : List Terminal} {kind : ParKind} {rest : List Terminal} → Pars tokens kind rest → (K : List Frame) → ParTaken tokens kind rest K
unfolding run
taken_par (is_never rest) K = record { after = state K (m.Opening o.Par); runs = refl; opens = λ p. refl }
taken_par (is_or slash at rest) K = record { after = state K (m.Opening (o.ParDo par.Or)); runs = refl; opens = λ p. refl }
taken_par (is_and slash at rest) K = record { after = state K (m.Opening (o.ParDo par.And)); runs = refl; opens = λ p. refl }
