-- Each state in which tokens stand can be completed to a program.
use Rattle.std.proofs.Common.{◌≡◌, refl, sym, ap, ◌∙◌, ℕ, suc, List, [], ◌∷◌, ◌++◌, Some, None, arith, false, subst, append-nil}
use Rattle.ceu_base.specs.declared.kinds.Pos.{Pos}
use Rattle.ceu_base.specs.declared.kinds.Ty.{Ty}
use Rattle.ceu_base.specs.declared.kinds.Ty.TheVariants as ty
use Rattle.ceu_tree.specs.declared.kernel.ParKind.{ParKind}
use Rattle.ceu_tree.specs.declared.source.Ident.{Ident}
use Rattle.ceu_tree.specs.declared.source.Exp.{Exp}
use Rattle.ceu_tree.specs.declared.source.Param.{Param}
use Rattle.ceu_tree.specs.declared.source.Node.{Node}
use Rattle.ceu_tree.specs.declared.source.Item.{Item}
use Rattle.ceu_tree.specs.declared.source.Arm.{Arm}
use Rattle.ceu_tree.specs.declared.source.Stmt.{Stmt}
use Rattle.ceu_tree.specs.declared.source.Stmt as stmt
use Rattle.ceu_syntax.specs.declared.terminal.Terminal.{Terminal}
use Rattle.ceu_syntax.specs.declared.machine.Body.TheVariants as body
use Rattle.ceu_syntax.specs.declared.machine.Frame.{Frame}
use Rattle.ceu_syntax.specs.declared.machine.Frame.TheVariants as f
use Rattle.ceu_syntax.specs.declared.machine.Owner.{Owner}
use Rattle.ceu_syntax.specs.declared.machine.Owner.TheVariants as owner
use Rattle.ceu_syntax.specs.declared.machine.Listed.{Listed}
use Rattle.ceu_syntax.specs.declared.machine.Listed.TheVariants as listed
use Rattle.ceu_syntax.specs.declared.machine.Act.{Act}
use Rattle.ceu_syntax.specs.declared.machine.Act.TheVariants as act
use Rattle.ceu_syntax.specs.declared.machine.Declaring.{Declaring}
use Rattle.ceu_syntax.specs.declared.machine.Declaring.TheVariants as d
use Rattle.ceu_syntax.specs.declared.machine.Coding.{Coding}
use Rattle.ceu_syntax.specs.declared.machine.Coding.TheVariants as c
use Rattle.ceu_syntax.specs.declared.machine.Acting.{Acting}
use Rattle.ceu_syntax.specs.declared.machine.Acting.TheVariants as a
use Rattle.ceu_syntax.specs.declared.machine.Opening.{Opening}
use Rattle.ceu_syntax.specs.declared.machine.Opening.TheVariants as o
use Rattle.ceu_syntax.specs.declared.machine.Looping.{Looping}
use Rattle.ceu_syntax.specs.declared.machine.Looping.TheVariants as l
use Rattle.ceu_syntax.specs.declared.machine.Mode.{Mode}
use Rattle.ceu_syntax.specs.declared.machine.Mode.TheVariants as m
use Rattle.ceu_syntax.specs.Terminals.{token, lower, abs, digits}
use Rattle.ceu_syntax.specs.Trees.{ident, outer, spawn, block, do_block, item}
use Rattle.ceu_tree.specs.declared.kernel.ParKind.TheVariants as par
use Rattle.ceu_tree.specs.declared.source.Label.TheVariants as label
use Rattle.ceu_tree.specs.declared.source.Target.TheVariants as target
use Rattle.ceu_tree.specs.declared.source.Await.TheVariants as wait
use Rattle.ceu_syntax.specs.declared.terminal.Kind.TheVariants as k
use Rattle.ceu_syntax.specs.Terminals.{saturated, unit_name}
use Rattle.ceu_syntax.specs.Trees.{number, variable, cast, param}
use Rattle.ceu_syntax.specs.Forms.{named}
use Rattle.ceu_syntax.specs.Grammar.{Statements, no_more}
use Rattle.ceu_syntax.specs.Steps as spec
use Rattle.ceu_syntax.specs.Steps.{State, state, Held, held, reduce, statement_of, source_of, case_of, closed}
use Rattle.ceu_syntax.specs.Runs.{run, step, then_run, begun, finish, Accepts}
use Rattle.ceu_syntax.proofs.Contexts.{ActTo, Under, OuterAt, DeclaringAt, CodingAt, ActingAt, OpeningAt, LoopingAt, Stood}
use Rattle.ceu_syntax.proofs.StandsAll.{stands}
use Rattle.ceu_tree.specs.declared.kernel.Unit.TheVariants as unit
use Rattle.ceu_tree.specs.declared.source.Range.{Range'}
use Rattle.std.proofs.Math.Seq.{take-length}
use Rattle.std.proofs.Common.{take, inl, inr}
use Rattle.ceu_syntax.specs.Runs.{Ends}
use Rattle.ceu_syntax.specs.Grammar.{Begins, FirstWrong}
use Rattle.ceu_syntax.proofs.Exact.{run_append, derived_accepted, accepted_derives}
use Rattle.ceu_syntax.proofs.TakesParts.{name_step}
use Rattle.ceu_syntax.proofs.Completed.{here, letter, Done, done_step, done_at, Completed, complete, InForm, ClosesForm, ClosesDo, ClosesCall, Closes, block_shape, form_shape, do_shape, source_shape, await_shape, spawn_shape, call_shape, target_shape, exp_shape, with_block, body_done, do_done, branch_done, closes_block, closes_form, closes_do, closes_await, closes_spawn, closes_call, closes_target, opens_done, done_as, closes}

-- ---- each mode

-- steps that change the mode alone
steps : {more : List Terminal} (t : Terminal) (K : List Frame) (mode next : Mode) → step t (state K mode) ≡ Some (state K next) → Done more (state K next) → Done (t ∷ more) (state K mode)
steps t K mode next h d = done_step t (state K mode) h d

start_done : (K : List Frame) → (c : Closes K) → Done (digits 0 here ∷ token c.kind here ∷ c.more) (state K m.Start)
start_done K c = done_step (digits 0 here) (state K m.Start) refl (c.done (number 0 here))

under_rests : (K : List Frame) (x : Exp) → Under 0 K → reduce 0 x K ≡ held x K
under_rests [] x h = refl
under_rests (f.Binary op at a ∷ K) x h = absurd (omega arith)
under_rests (f.Prefix op at ∷ K) x h = absurd h
under_rests (_ ∷ K) x h = refl

typed_done : (K : List Frame) (x : Exp) → Under 0 K → (c : Closes K) → Done (token c.kind here ∷ c.more) (state K (m.Typed x))
typed_done K x u c = done_as (token c.kind here) (state K (m.Typed x)) (state K (m.After x)) (ap (spec.ends c.kind here) (sym (under_rests K x u)) ∙ sym (c.is.after here x K)) (c.done x)

named_done : (K : List Frame) (x : List ℕ) (at : Pos) → (c : Closes K) → Done (token c.kind here ∷ c.more) (state K (m.Named x at))
named_done K x at c = done_as (token c.kind here) (state K (m.Named x at)) (state K (m.After (variable (ident x at)))) (c.is.named here x at K ∙ sym (c.is.after here (variable (ident x at)) K)) (c.done (variable (ident x at)))

semicolon_done : (K : List Frame) (stmt : Stmt) → (c : ClosesForm K) → Done (token k.Semicolon here ∷ c.more) (state K (m.Semicolon stmt))
semicolon_done K stmt c = done_at (token k.Semicolon here) (state K (m.Semicolon stmt)) (c.done stmt)

assign_done : (K : List Frame) (x : Ident) → InForm K → Completed (state K (m.Acting (a.Assign x)))
assign_done K x i = let c = closes (f.Store x ∷ K) i in complete (done_step (token k.Assign here) (state K (m.Acting (a.Assign x))) refl (done_step (digits 0 here) (state (f.Store x ∷ K) (m.Acting a.Source)) refl (c.done (number 0 here))))

emit_open_done : (K : List Frame) (x : Ident) → (c : ClosesForm K) → Done (token k.Semicolon here ∷ c.more) (state K (m.Acting (a.EmitOpen x)))
emit_open_done K x c = done_at (token k.Semicolon here) (state K (m.Acting (a.EmitOpen x))) (c.done (stmt.Emit x None))

every_in_done : (K : List Frame) (x : Ident) → ClosesForm K → Completed (state K (m.Looping (l.EveryIn x)))
every_in_done K x c = complete (opens_done (body.Every None (target.Event x)) K (m.Looping (l.EveryIn x)) refl (body_done (body.Every None (target.Event x)) K (λ b. stmt.Every None (target.Event x) b) (λ b. refl) c))

-- ---- behind `outer`

located_done : (whose : Owner) (whole : List Terminal) (K : List Frame) (at : Pos) (mid : List Terminal) (x : List ℕ) → OuterAt whose whole K at mid → (s : State) → step (lower x here) s ≡ spec.located whose (outer x at) K → Completed s
located_done owner.Operand whole K at mid x i s h = let c = closes K (exp_shape whole mid K i) in complete (done_step (lower x here) s h (c.done (variable (outer x at))))
located_done owner.Store whole K at mid x i s h = let c = assign_done K (outer x at) (form_shape whole _ K i) in complete (done_step (lower x here) s h c.done)
located_done owner.Emit whole K at mid x i s h = let c = closes_form K (form_shape whole _ K i) in complete (done_step (lower x here) s h (emit_open_done K (outer x at) c))
located_done owner.Target whole K at mid x i s h = let c = closes_target K (target_shape whole mid K i) in let g = c.done (target.Event (outer x at)) in complete (done_step (lower x here) s (h ∙ g.is) g.done)
located_done owner.Every whole K at mid x i s h = let c = every_in_done K (outer x at) (closes_form K (form_shape whole _ K i)) in complete (done_step (lower x here) s h c.done)

-- ---- declarations

vars_done : (K : List Frame) (ty : Ty) (is : List Item) → (c : ClosesForm K) → Done (lower letter here ∷ token k.Semicolon here ∷ c.more) (state K (m.Declaring (d.Item ty is)))
vars_done K ty is c = done_step (lower letter here) (state K (m.Declaring (d.Item ty is))) refl (done_at (token k.Semicolon here) (state K (m.Declaring (d.ItemValue ty is (ident letter here)))) (c.done (stmt.Vars ty (is ++ item (ident letter here) None ∷ []))))

alias_done : (K : List Frame) (code : Ident) → (c : ClosesForm K) → Done (lower letter here ∷ token k.Semicolon here ∷ c.more) (state K (m.Declaring (d.AliasName code)))
alias_done K code c = done_step (lower letter here) (state K (m.Declaring (d.AliasName code))) refl (done_at (token k.Semicolon here) (state K (m.Declaring (d.AliasValue code (ident letter here)))) (c.done (stmt.AliasDecl code (ident letter here) None)))

names_done : (l : Listed) (xs : List Ident) (K : List Frame) → ClosesForm K → Completed (state K (m.Declaring (d.NameEnd l xs)))
names_done (listed.Events ty) xs K c = complete (done_at (token k.Semicolon here) (state K (m.Declaring (d.NameEnd (listed.Events ty) xs))) (c.done (stmt.Events ty xs)))
names_done (listed.Inputs ty) xs K c = complete (done_at (token k.Semicolon here) (state K (m.Declaring (d.NameEnd (listed.Inputs ty) xs))) (c.done (stmt.Inputs ty xs)))
names_done (listed.Outputs ty) xs K c = complete (done_at (token k.Semicolon here) (state K (m.Declaring (d.NameEnd (listed.Outputs ty) xs))) (c.done (stmt.Outputs ty xs)))
names_done listed.Shared xs K c = complete (done_step (token k.CloseParen here) (state K (m.Declaring (d.NameEnd listed.Shared xs))) refl
    (opens_done (body.Async xs) K (m.Opening (o.AsyncDo xs)) refl (body_done (body.Async xs) K (λ b. stmt.Async xs b) (λ b. refl) c)))

name_done : (l : Listed) (xs : List Ident) (K : List Frame) → ClosesForm K → Completed (state K (m.Declaring (d.Name l xs)))
name_done l xs K c = let g = names_done l (xs ++ ident letter here ∷ []) K c in complete (done_step (named (case_of l) letter here) (state K (m.Declaring (d.Name l xs))) (name_step l (case_of l) letter here xs K refl) g.done)

pool_done : (K : List Frame) (n : ℕ) → (c : ClosesForm K) → Done (token k.CloseBracket here ∷ abs letter here ∷ lower letter here ∷ token k.Semicolon here ∷ c.more) (state K (m.Declaring (d.PoolClose n)))
pool_done K n c = done_step (token k.CloseBracket here) (state K (m.Declaring (d.PoolClose n))) refl (done_step (abs letter here) (state K (m.Declaring (d.PoolCode n))) refl
    (done_step (lower letter here) (state K (m.Declaring (d.PoolName n (ident letter here)))) refl (semicolon_done K (stmt.Pool n (ident letter here) (ident letter here)) c)))

-- a variable, a list of names
typed_list_done : (K : List Frame) (mode : Mode) (l : Listed) → step (token (k.Type ty.U8) here) (state K mode) ≡ Some (state K (m.Declaring (d.Name l []))) → ClosesForm K → Completed (state K mode)
typed_list_done K mode l h c = let g = name_done l [] K c in complete (done_step (token (k.Type ty.U8) here) (state K mode) h g.done)

completed_declaring : (whole mid : List Terminal) (K : List Frame) (mode : Declaring) → DeclaringAt whole K mode mid → Completed (state K (m.Declaring mode))
completed_declaring whole mid K d.Var i = let c = closes_form K (form_shape whole _ K i) in complete (done_step (token (k.Type ty.U8) here) (state K (m.Declaring d.Var)) refl (vars_done K ty.U8 [] c))
completed_declaring whole mid K d.AliasMark i = let c = closes_form K (form_shape whole _ K i.1) in complete (done_step (token k.Question here) (state K (m.Declaring d.AliasMark)) refl (done_step (abs letter here) (state K (m.Declaring d.AliasCode)) refl (alias_done K (ident letter here) c)))
completed_declaring whole mid K d.AliasCode i = let c = closes_form K (form_shape whole _ K i.2) in complete (done_step (abs letter here) (state K (m.Declaring d.AliasCode)) refl (alias_done K (ident letter here) c))
completed_declaring whole mid K (d.AliasName code) i = complete (alias_done K code (closes_form K (form_shape whole _ K i)))
completed_declaring whole mid K (d.AliasValue code x) i = let c = closes_form K (form_shape whole _ K i) in complete (done_at (token k.Semicolon here) (state K (m.Declaring (d.AliasValue code x))) (c.done (stmt.AliasDecl code x None)))
completed_declaring whole mid (f.Alias code x ∷ K) d.AliasSpawn i =
    let c = closes_call (f.Spawn here ∷ f.Alias code x ∷ K) (form_shape whole _ K i) in
    let g = c.done (ident letter here) [] in
    complete (done_step (token k.Spawn here) (state (f.Alias code x ∷ K) (m.Declaring d.AliasSpawn)) refl (done_step (abs letter here) (state (f.Spawn here ∷ f.Alias code x ∷ K) (m.Acting a.Spawn)) refl
    (done_step (token k.OpenParen here) (state (f.Spawn here ∷ f.Alias code x ∷ K) (m.Acting (a.Call (ident letter here)))) refl (done_at (token k.CloseParen here) (state (f.Spawn here ∷ f.Alias code x ∷ K) (m.Acting (a.Arguments (ident letter here)))) g))))
completed_declaring whole mid _ d.AliasSpawn i = absurd i
completed_declaring whole mid K (d.Item ty is) i = complete (vars_done K ty is (closes_form K (form_shape whole _ K i)))
completed_declaring whole mid K (d.ItemValue ty is x) i = let c = closes_form K (form_shape whole _ K i.2) in complete (done_at (token k.Semicolon here) (state K (m.Declaring (d.ItemValue ty is x))) (c.done (stmt.Vars ty (is ++ item x None ∷ []))))
completed_declaring whole mid K (d.ItemEnd ty is) i = complete (done_step (token k.Comma here) (state K (m.Declaring (d.ItemEnd ty is))) refl (vars_done K ty is (closes_form K (form_shape whole _ K i))))
completed_declaring whole mid K d.EventType i = typed_list_done K (m.Declaring d.EventType) (listed.Events ty.U8) refl (closes_form K (form_shape whole _ K i))
completed_declaring whole mid K d.InputType i = typed_list_done K (m.Declaring d.InputType) (listed.Inputs ty.U8) refl (closes_form K (form_shape whole _ K i))
completed_declaring whole mid K d.OutputType i = typed_list_done K (m.Declaring d.OutputType) (listed.Outputs ty.U8) refl (closes_form K (form_shape whole _ K i))
completed_declaring whole mid K (d.Name l xs) i = name_done l xs K (closes_form K (form_shape whole _ K i))
completed_declaring whole mid K (d.NameEnd l xs) i = names_done l xs K (closes_form K (form_shape whole _ K i))
completed_declaring whole mid K d.Pool i = complete (done_step (token k.OpenBracket here) (state K (m.Declaring d.Pool)) refl (done_step (digits 0 here) (state K (m.Declaring d.PoolCount)) refl (pool_done K (saturated 0) (closes_form K (form_shape whole _ K i)))))
completed_declaring whole mid K d.PoolCount i = complete (done_step (digits 0 here) (state K (m.Declaring d.PoolCount)) refl (pool_done K (saturated 0) (closes_form K (form_shape whole _ K i.1))))
completed_declaring whole mid K (d.PoolClose n) i = complete (pool_done K n (closes_form K (form_shape whole _ K i)))
completed_declaring whole mid K (d.PoolCode n) i = let c = closes_form K (form_shape whole _ K i) in complete (done_step (abs letter here) (state K (m.Declaring (d.PoolCode n))) refl (done_step (lower letter here) (state K (m.Declaring (d.PoolName n (ident letter here)))) refl (semicolon_done K (stmt.Pool n (ident letter here) (ident letter here)) c)))
completed_declaring whole mid K (d.PoolName n code) i = let c = closes_form K (form_shape whole _ K i) in complete (done_step (lower letter here) (state K (m.Declaring (d.PoolName n code))) refl (semicolon_done K (stmt.Pool n code (ident letter here)) c))

-- ---- the head of a code

code_do_done : (K : List Frame) (code : Ident) (ps : List Param) (ty : Ty) → (g : ClosesForm K) → Done (token k.Do here ∷ token k.End here ∷ g.more) (state K (m.Coding (c.Do code ps ty)))
unfolding body_done
code_do_done K code ps ty g = opens_done (body.Code code ps ty) K (m.Coding (c.Do code ps ty)) refl (body_done (body.Code code ps ty) K (λ b. stmt.Code code ps ty b) (λ b. refl) g)

arrow_done : (K : List Frame) (code : Ident) (ps : List Param) → (g : ClosesForm K) → Done (token k.Arrow here ∷ token (k.Type ty.U8) here ∷ token k.Do here ∷ token k.End here ∷ g.more) (state K (m.Coding (c.Arrow code ps)))
arrow_done K code ps g = done_step (token k.Arrow here) (state K (m.Coding (c.Arrow code ps))) refl (done_step (token (k.Type ty.U8) here) (state K (m.Coding (c.Result code ps))) refl (code_do_done K code ps ty.U8 g))

param_end_done : (K : List Frame) (code : Ident) (ps : List Param) → ClosesForm K → Completed (state K (m.Coding (c.ParamEnd code ps)))
param_end_done K code ps g = complete (done_step (token k.CloseParen here) (state K (m.Coding (c.ParamEnd code ps))) refl (arrow_done K code ps g))

param_name_done : (K : List Frame) (code : Ident) (ps : List Param) (ty : Ty) → ClosesForm K → Completed (state K (m.Coding (c.ParamName code ps ty)))
param_name_done K code ps ty g = let p = param_end_done K code (ps ++ param ty (ident letter here) ∷ []) g in complete (done_step (lower letter here) (state K (m.Coding (c.ParamName code ps ty))) refl p.done)

param_type_done : (K : List Frame) (code : Ident) (ps : List Param) → ClosesForm K → Completed (state K (m.Coding (c.ParamType code ps)))
param_type_done K code ps g = let p = param_name_done K code ps ty.U8 g in complete (done_step (token (k.Type ty.U8) here) (state K (m.Coding (c.ParamType code ps))) refl p.done)

params_done : (K : List Frame) (code : Ident) → (g : ClosesForm K) → Done (token k.CloseParen here ∷ token k.Arrow here ∷ token (k.Type ty.U8) here ∷ token k.Do here ∷ token k.End here ∷ g.more) (state K (m.Coding (c.Params code)))
params_done K code g = done_step (token k.CloseParen here) (state K (m.Coding (c.Params code))) refl (arrow_done K code [] g)

code_name_done : (K : List Frame) → ClosesForm K → Completed (state K (m.Coding c.Name))
code_name_done K g = complete (done_step (abs letter here) (state K (m.Coding c.Name)) refl (done_step (token k.OpenParen here) (state K (m.Coding (c.Open (ident letter here)))) refl (params_done K (ident letter here) g)))

code_await_done : (K : List Frame) → ClosesForm K → Completed (state K (m.Coding c.Await))
code_await_done K g = let p = code_name_done K g in complete (done_step (token k.Await here) (state K (m.Coding c.Await)) refl p.done)

completed_coding : (whole mid : List Terminal) (K : List Frame) (mode : Coding) → CodingAt whole K mode mid → Completed (state K (m.Coding mode))
completed_coding whole mid K c.Slash i = let p = code_await_done K (closes_form K (form_shape whole _ K i)) in complete (done_step (token k.Slash here) (state K (m.Coding c.Slash)) refl p.done)
completed_coding whole mid K c.Await i = code_await_done K (closes_form K (form_shape whole _ K i.1))
completed_coding whole mid K c.Name i = code_name_done K (closes_form K (form_shape whole _ K i.2))
completed_coding whole mid K (c.Open code) i = complete (done_step (token k.OpenParen here) (state K (m.Coding (c.Open code))) refl (params_done K code (closes_form K (form_shape whole _ K i))))
completed_coding whole mid K (c.Params code) i = complete (params_done K code (closes_form K (form_shape whole _ K i)))
completed_coding whole mid K (c.NoParams code) i = complete (done_step (token k.CloseParen here) (state K (m.Coding (c.NoParams code))) refl (arrow_done K code [] (closes_form K (form_shape whole _ K i))))
completed_coding whole mid K (c.Param code ps) i = let p = param_type_done K code ps (closes_form K (form_shape whole _ K i)) in complete (done_step (token k.Var here) (state K (m.Coding (c.Param code ps))) refl p.done)
completed_coding whole mid K (c.ParamType code ps) i = param_type_done K code ps (closes_form K (form_shape whole _ K i.1))
completed_coding whole mid K (c.ParamName code ps ty) i = param_name_done K code ps ty (closes_form K (form_shape whole _ K i.2))
completed_coding whole mid K (c.ParamEnd code ps) i = param_end_done K code ps (closes_form K (form_shape whole _ K i))
completed_coding whole mid K (c.Arrow code ps) i = complete (arrow_done K code ps (closes_form K (form_shape whole _ K i)))
completed_coding whole mid K (c.Result code ps) i = complete (done_step (token (k.Type ty.U8) here) (state K (m.Coding (c.Result code ps))) refl (code_do_done K code ps ty.U8 (closes_form K (form_shape whole _ K i))))
completed_coding whole mid K (c.Do code ps ty) i = complete (code_do_done K code ps ty (closes_form K (form_shape whole _ K i)))

-- ---- simple statements

arguments_done : (K : List Frame) (code : Ident) → (g : ClosesCall K) → Done (token k.CloseParen here ∷ g.more) (state K (m.Acting (a.Arguments code)))
arguments_done K code g = done_at (token k.CloseParen here) (state K (m.Acting (a.Arguments code))) (g.done code [])

call_done : (K : List Frame) (code : Ident) → (g : ClosesCall K) → Done (token k.OpenParen here ∷ token k.CloseParen here ∷ g.more) (state K (m.Acting (a.Call code)))
call_done K code g = done_step (token k.OpenParen here) (state K (m.Acting (a.Call code))) refl (arguments_done K code g)

-- an await or a spawn that has ended
act_done : (whole mid : List Terminal) (K : List Frame) (done : Act) → ActTo whole K done mid → Completed (state K (m.Acting (a.ActEnd done)))
act_done whole mid (f.Begun ns at ∷ K) done i = let g = with_block ns at K (closes_block K (block_shape whole i.0 K i.2)) in complete (done_at (token k.Semicolon here) (state (f.Begun ns at ∷ K) (m.Acting (a.ActEnd done))) (g.done (statement_of done)))
act_done whole mid (f.Alias code x ∷ K) (act.Start sp) i = let g = closes_form K (form_shape whole _ K i) in complete (done_at (token k.Semicolon here) (state (f.Alias code x ∷ K) (m.Acting (a.ActEnd (act.Start sp)))) (g.done (stmt.AliasDecl code x (Some sp))))
act_done whole mid (f.Alias code x ∷ f.Begun ns at ∷ K) (act.Wait wait) i = absurd i.4
act_done whole mid (f.Alias code x ∷ _) (act.Wait wait) i = absurd i
act_done whole mid (f.Store x ∷ K) done i = let g = closes_form K (form_shape whole _ K i) in complete (done_at (token k.Semicolon here) (state (f.Store x ∷ K) (m.Acting (a.ActEnd done))) (g.done (stmt.Assign x (source_of done))))
act_done whole mid (f.Initial ty is x ∷ K) done i = let g = closes_form K (form_shape whole _ K i.2) in complete (done_at (token k.Semicolon here) (state (f.Initial ty is x ∷ K) (m.Acting (a.ActEnd done))) (g.done (stmt.Vars ty (is ++ item x (Some (source_of done)) ∷ []))))
act_done whole mid _ done i = absurd i

completed_acting : (whole mid : List Terminal) (K : List Frame) (mode : Acting) → ActingAt whole K mode mid → Completed (state K (m.Acting mode))
completed_acting whole mid K (a.Assign x) i = assign_done K x (form_shape whole _ K i)
completed_acting whole mid (f.Store x ∷ K) a.Source i = let g = closes (f.Store x ∷ K) (source_shape whole mid (f.Store x ∷ K) i) in complete (done_step (digits 0 here) (state (f.Store x ∷ K) (m.Acting a.Source)) refl (g.done (number 0 here)))
completed_acting whole mid (f.Initial ty is x ∷ K) a.Source i = let g = closes (f.Initial ty is x ∷ K) (source_shape whole mid (f.Initial ty is x ∷ K) i) in complete (done_step (digits 0 here) (state (f.Initial ty is x ∷ K) (m.Acting a.Source)) refl (g.done (number 0 here)))
completed_acting whole mid _ a.Source i = absurd i
completed_acting whole mid K (a.AwaitEnd t) i = let g = closes_await K (await_shape whole i.0 K i.1) in complete (done_at (token k.Semicolon here) (state K (m.Acting (a.AwaitEnd t))) (g.done (wait.On t None)))
completed_acting whole mid K (a.ActEnd done) i = act_done whole mid K done i
completed_acting whole mid K a.Emit i = complete (done_step (lower letter here) (state K (m.Acting a.Emit)) refl (emit_open_done K (ident letter here) (closes_form K (form_shape whole _ K i))))
completed_acting whole mid K (a.EmitOpen x) i = complete (emit_open_done K x (closes_form K (form_shape whole _ K i)))
completed_acting whole mid K (a.EmitValue x) i = complete (done_step (token k.CloseParen here) (state K (m.Acting (a.EmitValue x))) refl (semicolon_done K (stmt.Emit x None) (closes_form K (form_shape whole _ K i.1))))
completed_acting whole mid K a.Await i = let g = closes_await K (await_shape whole mid K i) in complete (done_step (token k.Forever here) (state K (m.Acting a.Await)) refl (done_at (token k.Semicolon here) (state K (m.Acting (a.ActEnd (act.Wait wait.Forever)))) (g.done wait.Forever)))
completed_acting whole mid K (a.Call code) i = complete (call_done K code (closes_call K (call_shape whole i.0 K i.1)))
completed_acting whole mid K (a.Arguments code) i = complete (arguments_done K code (closes_call K (call_shape whole i.0 K i.1)))
completed_acting whole mid K a.Target i = let g = closes_target K (target_shape whole mid K i) in complete (done_at (lower letter here) (state K (m.Acting a.Target)) (g.done (target.Event (ident letter here))))
completed_acting whole mid K (a.Unit e) i = let g = closes_target K (target_shape whole (token k.OpenParen i.1 ∷ i.0) K i.3) in complete (done_at (lower (unit_name unit.S) here) (state K (m.Acting (a.Unit e))) (g.done (target.TimeExp e unit.S)))
completed_acting whole mid K a.Spawn i = complete (done_step (abs letter here) (state K (m.Acting a.Spawn)) refl (call_done K (ident letter here) (closes_call K (call_shape whole mid K i))))
completed_acting whole mid K (a.SpawnIn begin code) i = let g = closes_spawn K (spawn_shape whole i.0 begin K i.1) in complete (done_step (token k.In here) (state K (m.Acting (a.SpawnIn begin code))) refl (done_step (lower letter here) (state K (m.Acting (a.SpawnPool begin code))) refl (done_at (token k.Semicolon here) (state K (m.Acting (a.ActEnd (act.Start (spawn begin code (ident letter here)))))) (g.done (spawn begin code (ident letter here))))))
completed_acting whole mid K (a.SpawnPool begin code) i = let g = closes_spawn K (spawn_shape whole i.0 begin K i.2) in complete (done_step (lower letter here) (state K (m.Acting (a.SpawnPool begin code))) refl (done_at (token k.Semicolon here) (state K (m.Acting (a.ActEnd (act.Start (spawn begin code (ident letter here)))))) (g.done (spawn begin code (ident letter here)))))
completed_acting whole mid K a.Kill i = complete (done_step (lower letter here) (state K (m.Acting a.Kill)) refl (semicolon_done K (stmt.Kill (ident letter here)) (closes_form K (form_shape whole _ K i))))
completed_acting whole mid K a.Escape i = let g = closes_form K (form_shape whole _ K i) in complete (done_at (token k.Semicolon here) (state K (m.Acting a.Escape)) (g.done (stmt.Escape None None)))
completed_acting whole mid K a.EscapeLabel i = let g = closes_form K (form_shape whole _ K i.1) in complete (done_step (lower letter here) (state K (m.Acting a.EscapeLabel)) refl (done_at (token k.Semicolon here) (state K (m.Acting (a.EscapeValue (ident letter here)))) (g.done (stmt.Escape (Some (ident letter here)) None))))
completed_acting whole mid K (a.EscapeValue x) i = let g = closes_form K (form_shape whole _ K i) in complete (done_at (token k.Semicolon here) (state K (m.Acting (a.EscapeValue x))) (g.done (stmt.Escape (Some x) None)))

-- ---- statements with blocks

do_head_done : (K : List Frame) → (g : ClosesDo K) → Done (token k.End here ∷ g.more) (state K (m.Opening o.Do))
do_head_done K g = let p = g.done (do_block label.Plain []) in done_step (token k.End here) (state K (m.Opening o.Do)) p.is p.done

else_done : (K : List Frame) (arms : List Arm) → (g : ClosesForm K) → Done (token k.End here ∷ g.more) (state K (m.Opening (o.Else arms)))
else_done K arms g = let p = g.done (stmt.If arms (Some (block []))) in done_step (token k.End here) (state K (m.Opening (o.Else arms))) p.is p.done

async_do_done : (K : List Frame) (xs : List Ident) → ClosesForm K → Completed (state K (m.Opening (o.AsyncDo xs)))
async_do_done K xs g = complete (opens_done (body.Async xs) K (m.Opening (o.AsyncDo xs)) refl (body_done (body.Async xs) K (λ b. stmt.Async xs b) (λ b. refl) g))

par_do_done : (K : List Frame) (kind : ParKind) → ClosesForm K → Completed (state K (m.Opening (o.ParDo kind)))
par_do_done K kind g = complete (opens_done (body.FirstBranch kind) K (m.Opening (o.ParDo kind)) refl (branch_done kind K g))

completed_opening : (whole mid : List Terminal) (K : List Frame) (mode : Opening) → OpeningAt whole K mode mid → Completed (state K (m.Opening mode))
completed_opening whole mid K o.Do i = complete (do_head_done K (closes_do K (do_shape whole mid K i)))
completed_opening whole mid K o.DoLabel i = let g = do_done label.Under K (closes_do K (do_shape whole (token k.Slash i.0 ∷ mid) K i.1)) in complete (done_step (token k.Under here) (state K (m.Opening o.DoLabel)) refl (g.done []))
completed_opening whole mid K o.Finalize i = let g = body_done body.Finalize K (λ b. stmt.Finalize b) (λ b. refl) (closes_form K (form_shape whole _ K i.1)) in complete (done_step (token k.With here) (state K (m.Opening o.Finalize)) refl (g.done []))
completed_opening whole mid K (o.Else arms) i = complete (else_done K arms (closes_form K (form_shape whole _ K i.1)))
completed_opening whole mid K (o.ElseIf arms) i = let g = closes (f.Condition arms ∷ K) (form_shape whole _ K i.2) in complete (done_step (token k.If here) (state K (m.Opening (o.ElseIf arms))) refl (start_done (f.Condition arms ∷ K) g))
completed_opening whole mid K (o.WatchingDo t) i = complete (opens_done (body.Watching t) K (m.Opening (o.WatchingDo t)) refl (body_done (body.Watching t) K (λ b. stmt.Watching t b) (λ b. refl) (closes_form K (form_shape whole _ K i))))
completed_opening whole mid K o.Par i = complete (opens_done (body.FirstBranch par.Never) K (m.Opening o.Par) refl (branch_done par.Never K (closes_form K (form_shape whole _ K i))))
completed_opening whole mid K o.ParWord i = let p = par_do_done K par.Or (closes_form K (form_shape whole _ K i.1)) in complete (done_step (token k.Or here) (state K (m.Opening o.ParWord)) refl p.done)
completed_opening whole mid K (o.ParDo kind) i = par_do_done K kind (closes_form K (form_shape whole _ K i))
completed_opening whole mid K o.Async i = complete (opens_done (body.Async []) K (m.Opening o.Async) refl (body_done (body.Async []) K (λ b. stmt.Async [] b) (λ b. refl) (closes_form K (form_shape whole _ K i))))
completed_opening whole mid K o.AsyncOpen i = let p = async_do_done K [] (closes_form K (form_shape whole _ K i.1)) in complete (done_step (token k.CloseParen here) (state K (m.Opening o.AsyncOpen)) refl p.done)
completed_opening whole mid K (o.AsyncDo xs) i = async_do_done K xs (closes_form K (form_shape whole _ K i))

count_done : (K : List Frame) (n : ℕ) → ClosesForm K → Completed (state K (m.Looping (l.CountDo n)))
count_done K n g = complete (opens_done (body.Loop (Some n)) K (m.Looping (l.CountDo n)) refl (body_done (body.Loop (Some n)) K (λ b. stmt.Loop (Some n) b) (λ b. refl) g))

range_open_done : (K : List Frame) (x : Ident) → InForm K → Completed (state K (m.Looping (l.RangeOpen x)))
range_open_done K x i = let g = closes (f.RangeFrom x false ∷ K) i in complete (done_step (token k.OpenBracket here) (state K (m.Looping (l.RangeOpen x))) refl (start_done (f.RangeFrom x false ∷ K) g))

completed_looping : (whole mid : List Terminal) (K : List Frame) (mode : Looping) → LoopingAt whole K mode mid → Completed (state K (m.Looping mode))
completed_looping whole mid K l.Loop i = complete (opens_done (body.Loop None) K (m.Looping l.Loop) refl (body_done (body.Loop None) K (λ b. stmt.Loop None b) (λ b. refl) (closes_form K (form_shape whole _ K i))))
completed_looping whole mid K l.Count i = let p = count_done K (saturated 0) (closes_form K (form_shape whole _ K i.1)) in complete (done_step (digits 0 here) (state K (m.Looping l.Count)) refl p.done)
completed_looping whole mid K (l.CountDo n) i = count_done K n (closes_form K (form_shape whole _ K i))
completed_looping whole mid K (l.RangeIn x) i = let p = range_open_done K x (form_shape whole _ K i) in complete (done_step (token k.In here) (state K (m.Looping (l.RangeIn x))) refl p.done)
completed_looping whole mid K (l.RangeOpen x) i = range_open_done K x (form_shape whole _ K i)
completed_looping whole mid K (l.RangeDo x open_a from to open_b) i = complete (opens_done (body.Range x open_a from to open_b) K (m.Looping (l.RangeDo x open_a from to open_b)) refl (body_done (body.Range x open_a from to open_b) K (λ b. stmt.Range (Range' x open_a from to open_b b)) (λ b. refl) (closes_form K (form_shape whole _ K i))))
completed_looping whole mid K l.Every i = let p = every_in_done K (ident letter here) (closes_form K (form_shape whole _ K i)) in complete (done_step (lower letter here) (state K (m.Looping l.Every)) refl p.done)
completed_looping whole mid K (l.EveryIn x) i = every_in_done K x (closes_form K (form_shape whole _ K i))
completed_looping whole mid K (l.EveryDo x t) i = complete (opens_done (body.Every x t) K (m.Looping (l.EveryDo x t)) refl (body_done (body.Every x t) K (λ b. stmt.Every x t b) (λ b. refl) (closes_form K (form_shape whole _ K i))))

-- ---- every state

pub completed : (whole mid : List Terminal) (K : List Frame) (mode : Mode) → Stood whole K mode mid → Completed (state K mode)
completed whole mid K m.Start i = complete (start_done K (closes K (exp_shape whole mid K i)))
completed whole mid K (m.Named x at) i = complete (named_done K x at (closes K (exp_shape whole (lower x at ∷ mid) K i)))
completed whole mid K (m.After x) i = let g = closes K (exp_shape whole i.0 K i.1) in complete (g.done x)
completed whole mid K (m.Cast at x) i = complete (done_step (token (k.Type ty.U8) here) (state K (m.Cast at x)) refl (typed_done K (cast at x ty.U8) i.3 (closes K (exp_shape whole i.0 K i.1))))
completed whole mid K (m.Typed x) i = complete (typed_done K x i.3 (closes K (exp_shape whole i.0 K i.1)))
completed whole mid K (m.Outer whose at) i = let p = located_done whose whole K at (token k.Outer at ∷ mid) letter i (state K (m.OuterName whose at)) refl in complete (done_step (token k.Dot here) (state K (m.Outer whose at)) refl p.done)
completed whole mid K (m.OuterName whose at) i = located_done whose whole K at (token k.Outer at ∷ token k.Dot i.0 ∷ mid) letter i.1 (state K (m.OuterName whose at)) refl
completed whole mid K (m.In ns) i = let g = closes_block K (block_shape whole i.0 K i.1) in complete (g.done ns)
completed whole mid K (m.Semicolon stmt) i = complete (semicolon_done K stmt (closes_form K (form_shape whole _ K i)))
completed whole mid K (m.Declaring mode) i = completed_declaring whole mid K mode i
completed whole mid K (m.Coding mode) i = completed_coding whole mid K mode i
completed whole mid K (m.Acting mode) i = completed_acting whole mid K mode i
completed whole mid K (m.Opening mode) i = completed_opening whole mid K mode i
completed whole mid K (m.Looping mode) i = completed_looping whole mid K mode i

-- ---- what the run tells

none_some : {s : State} → Some s ≡ None → ⊥
none_some h = cc

state_same : {s u : State} → Some s ≡ Some u → s ≡ u
state_same h = cc

some_nodes : {ns : List Node} → Some ns ≡ None → ⊥
some_nodes h = cc

pub begins_where : (ts : List Terminal) (s : State) → run ts begun ≡ Some s → Begins ts
begins_where ts s h =
    let i = stands ts [] ts begun s h (ts, refl, subst (λ u. Statements ts [] u) (sym (append-nil ts)) (no_more ts)) in
    let g = completed ts [] s.stack s.mode i in
    (g.more, g.done.ns, accepted_derives (ts ++ g.more) g.done.ns (g.done.after, run_append ts g.more begun ∙ ap (then_run (run g.more)) h ∙ g.done.runs, g.done.ends))

pub begins_nowhere : (ts : List Terminal) → run ts begun ≡ None → Begins ts → ⊥
begins_nowhere ts h b =
    let i = derived_accepted (ts ++ b.0) b.1 b.2 in
    none_some (sym i.1 ∙ run_append ts b.0 begun ∙ ap (then_run (run b.0)) h)

pub first_wrong : (tokens : List Terminal) (i : ℕ) → Ends tokens i → FirstWrong tokens i
first_wrong tokens i (s, h, inl (lt, e)) = record { within = omega arith; before = begins_where (take i tokens) s h; at = λ d b. begins_nowhere (take (suc i) tokens) e b; end = λ d ns v. absurd (omega arith) }
first_wrong tokens i (s, h, inr (q, e)) = record { within = omega arith; before = begins_where (take i tokens) s h; at = λ d b. absurd (omega arith); end = λ d ns v. ended (derived_accepted tokens ns v) }
  where
    ended : {ns : List Node} → Accepts tokens ns → ⊥
    ended w = some_nodes (sym w.2 ∙ ap (λ u. finish u) (state_same (sym w.1 ∙ sym (ap (λ u. run u begun) (ap (λ j. take j tokens) q ∙ take-length tokens)) ∙ h)) ∙ e)
