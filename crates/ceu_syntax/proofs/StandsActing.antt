-- A step keeps what stands: code and simple statements.
use Rattle.std.proofs.Common.{◌≡◌, refl, sym, ap, ◌∙◌, ℕ, List, [], ◌∷◌, ◌++◌, Option, Some, None, true, false, subst, append_assoc}
use Rattle.ceu_base.specs.declared.kinds.Pos.{Pos}
use Rattle.ceu_base.specs.declared.kinds.Ty.{Ty}
use Rattle.ceu_base.specs.declared.kinds.Ty.TheVariants as ty
use Rattle.ceu_tree.specs.declared.source.Ident.{Ident}
use Rattle.ceu_tree.specs.declared.source.Exp.{Exp}
use Rattle.ceu_tree.specs.declared.source.Call.{Call}
use Rattle.ceu_tree.specs.declared.source.Param.{Param}
use Rattle.ceu_tree.specs.declared.source.Source.{Source}
use Rattle.ceu_tree.specs.declared.source.Source as source
use Rattle.ceu_tree.specs.declared.source.Stmt.{Stmt}
use Rattle.ceu_tree.specs.declared.source.Stmt as stmt
use Rattle.ceu_syntax.specs.declared.terminal.Kind.{Kind}
use Rattle.ceu_syntax.specs.declared.terminal.Terminal.{Terminal}
use Rattle.ceu_syntax.specs.declared.machine.Frame.{Frame}
use Rattle.ceu_syntax.specs.declared.machine.Frame.TheVariants as f
use Rattle.ceu_syntax.specs.declared.machine.Act.TheVariants as act
use Rattle.ceu_syntax.specs.declared.machine.Coding.{Coding}
use Rattle.ceu_syntax.specs.declared.machine.Coding.TheVariants as c
use Rattle.ceu_syntax.specs.declared.machine.Acting.{Acting}
use Rattle.ceu_syntax.specs.declared.machine.Acting.TheVariants as a
use Rattle.ceu_syntax.specs.Terminals.{token, lower, ext, abs}
use Rattle.ceu_syntax.specs.Trees.{ident, call, spawn, node}
use Rattle.ceu_tree.specs.declared.kernel.Unit.{Unit as TimeUnit}
use Rattle.ceu_tree.specs.declared.source.Target.TheVariants as target
use Rattle.ceu_tree.specs.declared.source.Await.TheVariants as wait
use Rattle.ceu_syntax.specs.declared.terminal.Kind.TheVariants as k
use Rattle.ceu_syntax.specs.Trees.{param}
use Rattle.ceu_syntax.specs.Expressions.{is_here, Expression, Calls, calls_empty, calls_with, spawns, is_input, is_event, is_time, is_time_expression, is_forever, is_target}
use Rattle.ceu_syntax.specs.Forms.{Shares, ParamList, last_param, one_param, Params, no_params, none_params, some_params, emits_output, emits_event}
use Rattle.ceu_syntax.specs.Grammar as g
use Rattle.ceu_syntax.specs.Grammar.{Forms, Does, does_plain, does_under, does_named, Sources, is_value, is_wait, is_start, is_done, ItemOf, is_bare, is_initial, Items, last_item, one_item, Statement, is_simple, is_ended, Statements, no_more, skips, one_more, Branches, last_branch, one_branch, Arms, no_else, last_else, else_if}
use Rattle.ceu_syntax.specs.Steps as spec
use Rattle.ceu_syntax.specs.Steps.{State, state, Held, held, reduce, statement_of, source_of, case_of, closed}
use Rattle.ceu_syntax.proofs.Contexts.{DoAt, SourceAt, ActTo, AwaitAt, SpawnAt, CallAt, TargetAt, Opened, CodingAt, CodeArrowAt, ArgumentsAt, ActingAt, Stands}
use Rattle.ceu_syntax.proofs.Units.{unit_is}
use Rattle.ceu_syntax.proofs.Stands.{with_last, from_is, gives, none, stood_act_semicolon, stood_act_comma, stood_called, stood_aimed, stood_starts, await_to}

module _ (whole here : List Terminal) (s' : State) where
  -- ---- the head of a code

  stood_no_params : (ty : Ty) (at : Pos) (code : Ident) (K : List Frame) → spec.no_params_of ty code K ≡ Some s' → CodingAt whole K (c.Params code) (token (k.Type ty) at ∷ here) → Stands whole s' here
  stood_no_params ty.None at code (f.Begun ns b ∷ K) h o = gives whole here h (o.0, o.1, o.2, o.3, (λ close rest e. o.4 [] rest (subst (λ u. Params (token (k.Type ty.None) at ∷ u) [] rest) (sym e) (none_params at close rest))))
  stood_no_params ty.None at code _ h o = absurd o
  stood_no_params _ at code K h o = none h

  stood_params : (kind : Kind) (at : Pos) (code : Ident) (K : List Frame) → spec.of_params kind code K ≡ Some s' → CodingAt whole K (c.Params code) (token kind at ∷ here) → Stands whole s' here
  stood_params k.CloseParen at code (f.Begun ns b ∷ K) h o = gives whole here h (o.0, o.1, o.2, o.3, o.4 [] here (no_params at here))
  stood_params k.CloseParen at code _ h o = absurd o
  stood_params (k.Type ty) at code K h o = stood_no_params ty at code K h o
  stood_params k.Var at code (f.Begun ns b ∷ K) h o = gives whole here h (at, (o.0, o.1, o.2, o.3, (λ ps rest m. o.4 ps rest (some_params m))))
  stood_params k.Var at code _ h o = absurd o
  stood_params _ at code K h o = none h

  arrow_append : (code : Ident) (ps : List Param) (q : Param) (more : List Param) (rest : List Terminal) (b : Pos) (from : List Terminal) → CodeArrowAt code (ps ++ q ∷ more) rest b from → CodeArrowAt code ((ps ++ q ∷ []) ++ more) rest b from
  arrow_append code ps q more rest b from d = subst (λ u. CodeArrowAt code u rest b from) (sym (append_assoc ps (q ∷ []) more)) d

  stood_param_name : (x : List ℕ) (at : Pos) (code : Ident) (ps : List Param) (ty : Ty) (K : List Frame) → CodingAt whole K (c.ParamName code ps ty) (lower x at ∷ here) → CodingAt whole K (c.ParamEnd code (ps ++ param ty (ident x at) ∷ [])) here
  stood_param_name x at code ps ty (f.Begun ns b ∷ K) o = (
    o.2.0,
    o.2.1,
    o.2.2,
    o.2.3,
    (
      (λ close rest e. o.2.4 (param ty (ident x at) ∷ []) rest (subst (λ u. ParamList (token k.Var o.0 ∷ token (k.Type ty) o.1 ∷ lower x at ∷ u) (param ty (ident x at) ∷ []) rest) (sym e) (last_param ty x o.0 o.1 at close rest))),
      (λ comma mid e more rest m. arrow_append code ps (param ty (ident x at)) more rest b o.2.1
          (o.2.4 (param ty (ident x at) ∷ more) rest (subst (λ u. ParamList (token k.Var o.0 ∷ token (k.Type ty) o.1 ∷ lower x at ∷ u) (param ty (ident x at) ∷ more) rest) (sym e) (one_param ty x o.0 o.1 at comma m)))),
    ),
  )
  stood_param_name x at code ps ty _ o = absurd o.2

  pub stood_coding : (mode : Coding) (kind : Kind) (at : Pos) (K : List Frame) → spec.coded mode kind at K ≡ Some s' → CodingAt whole K mode (token kind at ∷ here) → Stands whole s' here
  stood_coding c.Slash k.Slash at K h o = gives whole here h (at, o)
  stood_coding c.Await k.Await at K h o = gives whole here h (o.0, at, o.1)
  stood_coding c.Name (k.Abs x) at (f.Begun ns b ∷ K) h o = gives whole here h (
    o.2.0,
    o.2.1,
    o.2.2,
    o.2.3,
    (λ paren mid e ps rest m arrow mid2 e2 ty of mid3 e3 begin body e4 ms end last q.
        from_is (o.2.4 ∙ ap (λ u. token k.Code b ∷ token k.Slash o.0 ∷ token k.Await o.1 ∷ abs x at ∷ u) e)
        (g.is_code x ty b o.0 o.1 at paren arrow of begin end (subst (λ u. Params mid ps u) (e2 ∙ ap (λ u. token k.Arrow arrow ∷ u) (e3 ∙ ap (λ u. token (k.Type ty) of ∷ u) e4)) m) q)),
  )
  stood_coding c.Name (k.Abs x) at _ h o = absurd o.2
  stood_coding (c.Open code) k.OpenParen at (f.Begun ns b ∷ K) h o = gives whole here h (o.0, o.1, o.2, o.3, o.4 at here refl)
  stood_coding (c.Open code) k.OpenParen at _ h o = absurd o
  stood_coding (c.Params code) kind at K h o = stood_params kind at code K h o
  stood_coding (c.NoParams code) k.CloseParen at (f.Begun ns b ∷ K) h o = gives whole here h (o.0, o.1, o.2, o.3, o.4 at here refl)
  stood_coding (c.NoParams code) k.CloseParen at _ h o = absurd o
  stood_coding (c.Param code ps) k.Var at K h o = gives whole here h (at, o)
  stood_coding (c.ParamType code ps) (k.Type ty) at K h o = gives whole here h (o.0, at, o.1)
  stood_coding (c.ParamName code ps ty) (k.Lower x) at K h o = gives whole here h (stood_param_name x at code ps ty K o)
  stood_coding (c.ParamEnd code ps) k.Comma at (f.Begun ns b ∷ K) h o = gives whole here h (o.0, o.1, o.2, o.3, o.4.1 at here refl)
  stood_coding (c.ParamEnd code ps) k.Comma at _ h o = absurd o
  stood_coding (c.ParamEnd code ps) k.CloseParen at (f.Begun ns b ∷ K) h o = gives whole here h (o.0, o.1, o.2, o.3, o.4.0 at here refl)
  stood_coding (c.ParamEnd code ps) k.CloseParen at _ h o = absurd o
  stood_coding (c.Arrow code ps) k.Arrow at (f.Begun ns b ∷ K) h o = gives whole here h (o.0, o.1, o.2, o.3, o.4 at here refl)
  stood_coding (c.Arrow code ps) k.Arrow at _ h o = absurd o
  stood_coding (c.Result code ps) (k.Type ty) at (f.Begun ns b ∷ K) h o = gives whole here h (o.0, o.1, o.2, o.3, o.4 ty at here refl)
  stood_coding (c.Result code ps) (k.Type ty) at _ h o = absurd o
  stood_coding (c.Do code ps ty) k.Do at (f.Begun ns b ∷ K) h o = gives whole here h (here, (o.0, o.1, o.2, o.3, o.4 at here refl), no_more here)
  stood_coding (c.Do code ps ty) k.Do at _ h o = absurd o
  stood_coding _ _ at K h o = none h

  -- ---- simple statements

  pub stood_target : (kind : Kind) (at : Pos) (K : List Frame) → spec.of_target kind at K ≡ Some s' → TargetAt whole K (token kind at ∷ here) → Stands whole s' here
  stood_target (k.Ext x) at K h o = stood_aimed whole here s' (target.Ext (ident x at)) (ext x at ∷ here) K h o (is_input x at here)
  stood_target (k.Lower x) at K h o = stood_aimed whole here s' (target.Event (ident x at)) (lower x at ∷ here) K h o (is_event (is_here x at here))
  stood_target (k.Time n) at K h o = stood_aimed whole here s' (target.Time n) (token (k.Time n) at ∷ here) K h o (is_time n at here)
  stood_target k.OpenParen at K h o = gives whole here h (at, o)
  stood_target k.Outer at K h o = gives whole here h o
  stood_target _ at K h o = none h

  await_call : (K : List Frame) (mid : List Terminal) → AwaitAt whole K mid → CallAt whole K mid
  await_call [] mid o = absurd o
  await_call (f.Spawn begin ∷ K) mid o = absurd o
  await_call (frame ∷ K) mid o = o

  await_target : (K : List Frame) (mid : List Terminal) → AwaitAt whole K mid → TargetAt whole K mid
  await_target [] mid o = absurd o
  await_target (f.Every x ∷ K) mid o = absurd o
  await_target (f.Watching ∷ K) mid o = absurd o
  await_target (frame ∷ K) mid o = o

  call_arguments : (x : List ℕ) (at : Pos) (paren : Pos) (rest : List Terminal) → here ≡ token k.OpenParen paren ∷ rest → ArgumentsAt (ident x at) rest (abs x at ∷ here)
  call_arguments x at paren rest e = (
    (λ close last i. subst (λ u. Calls (abs x at ∷ u) (call (ident x at) []) last) (sym (e ∙ ap (λ u. token k.OpenParen paren ∷ u) i)) (calls_empty x at paren close last)),
    (λ es last m. subst (λ u. Calls (abs x at ∷ u) (call (ident x at) es) last) (sym e) (calls_with x at paren m)),
  )

  stood_await : (kind : Kind) (at : Pos) (K : List Frame) → spec.of_await kind at K ≡ Some s' → AwaitAt whole K (token kind at ∷ here) → Stands whole s' here
  stood_await k.Forever at K h o = gives whole here h (await_to whole here s' (token k.Forever at ∷ here) wait.Forever K here o (is_forever at here))
  stood_await k.Async at (f.Begun ns b ∷ K) h o = gives whole here h (
    o.0,
    o.1,
    o.2,
    o.3,
    (λ xs mid x begin body e ms end rest t. from_is o.4 (g.is_await_async b at begin end (subst (λ u. Shares here xs u) e x) t)),
  )
  stood_await k.Async at _ h o = none h
  stood_await (k.Abs x) at K h o = gives whole here h (abs x at ∷ here, await_call K (abs x at ∷ here) o, (λ paren rest e. call_arguments x at paren rest e))
  stood_await kind at K h o = stood_target kind at K h (await_target K (token kind at ∷ here) o)

  source_await : (K : List Frame) (at : Pos) → SourceAt whole K (token k.Await at ∷ here) → AwaitAt whole K here
  source_await (f.Store x ∷ f.Begun ns b ∷ K) at o = (o.0, o.1, o.2, o.3, (λ wait rest d. o.4 (source.Wait wait) false rest (is_wait at d)))
  source_await (f.Store x ∷ K) at o = absurd o
  source_await (f.Initial ty is x ∷ K) at o = (o.0, (λ wait rest d. o.1 (source.Wait wait) false rest (is_wait at d)), o.2)
  source_await _ at o = absurd o

  source_spawn : (K : List Frame) (at : Pos) → SourceAt whole K (token k.Spawn at ∷ here) → SpawnAt whole at K here
  source_spawn (f.Store x ∷ f.Begun ns b ∷ K) at o = (o.0, o.1, o.2, o.3, (λ code y into name rest d. o.4 (source.Start (spawn at code (ident y name))) false rest (is_start (spawns y at into name d))))
  source_spawn (f.Store x ∷ K) at o = absurd o
  source_spawn (f.Initial ty is x ∷ K) at o = (o.0, (λ code y into name rest d. o.1 (source.Start (spawn at code (ident y name))) false rest (is_start (spawns y at into name d))), o.2)
  source_spawn _ at o = absurd o

  source_do : (K : List Frame) (at : Pos) → SourceAt whole K (token k.Do at ∷ here) → DoAt whole K here
  source_do (f.Store x ∷ f.Begun ns b ∷ K) at o = (o.0, o.1, o.2, o.3, (λ d rest m. o.4 (source.Done d) true rest (is_done at m)))
  source_do (f.Store x ∷ K) at o = absurd o
  source_do (f.Initial ty is x ∷ K) at o = (o.0, (λ d rest m. o.1 (source.Done d) true rest (is_done at m)), o.2)
  source_do _ at o = absurd o

  source_expression : (K : List Frame) (mid : List Terminal) → SourceAt whole K mid → Opened whole K mid
  source_expression (f.Store x ∷ K) mid o = o
  source_expression (f.Initial ty is x ∷ K) mid o = o
  source_expression _ mid o = absurd o

  stood_source : (kind : Kind) (at : Pos) (K : List Frame) → spec.of_source kind at K ≡ Some s' → SourceAt whole K (token kind at ∷ here) → Stands whole s' here
  stood_source k.Await at K h o = gives whole here h (source_await K at o)
  stood_source k.Spawn at K h o = gives whole here h (source_spawn K at o)
  stood_source k.Do at K h o = gives whole here h (source_do K at o)
  stood_source kind at K h o = stood_starts whole here s' kind at K h (source_expression K (token kind at ∷ here) o)

  stood_arguments : (kind : Kind) (at : Pos) (code : Ident) (K : List Frame) → spec.of_arguments kind at code K ≡ Some s' → ActingAt whole K (a.Arguments code) (token kind at ∷ here) → Stands whole s' here
  stood_arguments k.CloseParen at code K h o = stood_called whole here s' code [] o.0 K h o.1 (o.2.0 at here refl)
  stood_arguments kind at code K h o = stood_starts whole here s' kind at (f.Arguments code [] ∷ K) h (o.0, o.1, o.2.1)

  stood_emit_value : (kind : Kind) (at : Pos) (x : Ident) (K : List Frame) → spec.of_emit_value kind at x K ≡ Some s' → ActingAt whole K (a.EmitValue x) (token kind at ∷ here) → Stands whole s' here
  stood_emit_value k.CloseParen at x (f.Begun ns b ∷ K) h o = gives whole here h (o.1.0, o.1.1, o.1.2, o.1.3, from_is o.1.4.1 (g.is_emit_empty b o.0 at o.1.4.2))
  stood_emit_value k.CloseParen at x _ h o = absurd o.1
  stood_emit_value kind at x (f.Begun ns b ∷ K) h o = stood_starts whole here s' kind at (f.Emit x ∷ f.Begun ns b ∷ K) h (o.1.0, o.1.1, o.1.2, o.1.3, (λ e close rest d. from_is o.1.4.1 (g.is_emit_value b o.0 close o.1.4.2 d)))
  stood_emit_value kind at x _ h o = absurd o.1

  stood_escape : (kind : Kind) (at : Pos) (K : List Frame) → spec.of_escape kind at K ≡ Some s' → ActingAt whole K a.Escape (token kind at ∷ here) → Stands whole s' here
  stood_escape k.Slash at K h o = gives whole here h (at, o)
  stood_escape k.Semicolon at (f.Begun ns b ∷ K) h o = gives whole here h (o.0, o.2, with_last o.3 (is_simple at (from_is o.4 (g.is_escape b (token k.Semicolon at ∷ here)))))
  stood_escape k.Semicolon at _ h o = none h
  stood_escape kind at (f.Begun ns b ∷ K) h o = stood_starts whole here s' kind at (f.Escape None ∷ f.Begun ns b ∷ K) h (o.0, o.1, o.2, o.3, (λ e rest d. from_is o.4 (g.is_escape_value b d)))
  stood_escape kind at _ h o = absurd o

  stood_escape_value : (kind : Kind) (at : Pos) (x : Ident) (K : List Frame) → spec.of_escape_value kind at x K ≡ Some s' → ActingAt whole K (a.EscapeValue x) (token kind at ∷ here) → Stands whole s' here
  stood_escape_value k.Semicolon at x (f.Begun ns b ∷ K) h o = gives whole here h (o.0, o.2, with_last o.3 (is_simple at o.4.0))
  stood_escape_value k.Semicolon at x _ h o = none h
  stood_escape_value kind at x (f.Begun ns b ∷ K) h o = stood_starts whole here s' kind at (f.Escape (Some x) ∷ f.Begun ns b ∷ K) h (o.0, o.1, o.2, o.3, o.4.1)
  stood_escape_value kind at x _ h o = absurd o

  stood_timed : (x : List ℕ) (at : Pos) (e : Exp) (K : List Frame) (unit : Option TimeUnit) → spec.unit_of x ≡ unit → spec.timed unit e K ≡ Some s' → ActingAt whole K (a.Unit e) (lower x at ∷ here) → Stands whole s' here
  stood_timed x at e K (Some u) i h o = stood_aimed whole here s' (target.TimeExp e u) (token k.OpenParen o.1 ∷ o.0) K h o.3
      (is_time_expression u o.1 o.2 at (subst (λ y. Expression 0 o.0 e (token k.CloseParen o.2 ∷ lower y at ∷ here)) (unit_is x u i) o.4))
  stood_timed x at e K None i h o = none h

  spawned : (begin : Pos) (code : Call) (x : List ℕ) (into at : Pos) (mid : List Terminal) (K : List Frame) → SpawnAt whole begin K mid → Calls mid code (token k.In into ∷ lower x at ∷ here) → ActTo whole K (act.Start (spawn begin code (ident x at))) here
  spawned begin code x into at mid (f.Begun ns b ∷ K) o d = (o.0, o.1, o.2, o.3, o.4 code x into at here d)
  spawned begin code x into at mid (f.Store y ∷ f.Begun ns b ∷ K) o d = (o.0, o.1, o.2, o.3, o.4 code x into at here d)
  spawned begin code x into at mid (f.Store y ∷ K) o d = absurd o
  spawned begin code x into at mid (f.Alias y z ∷ f.Begun ns b ∷ K) o d = (o.0, o.1, o.2, o.3, o.4 code x into at here d)
  spawned begin code x into at mid (f.Alias y z ∷ K) o d = absurd o
  spawned begin code x into at mid (f.Initial ty is y ∷ K) o d = (o.0, o.1 code x into at here d, o.2)
  spawned begin code x into at mid _ o d = absurd o

  pub stood_acting : (mode : Acting) (kind : Kind) (at : Pos) (K : List Frame) → spec.acted mode kind at K ≡ Some s' → ActingAt whole K mode (token kind at ∷ here) → Stands whole s' here
  stood_acting (a.Assign x) k.Assign at (f.Begun ns b ∷ K) h o = gives whole here h (
    o.0,
    o.1,
    o.2,
    o.3,
    (λ source c rest v. subst (λ p. Forms o.1 (node p (stmt.Assign x source)) c rest) (sym o.4.0) (g.is_assign at o.4.1 v)),
  )
  stood_acting (a.Assign x) k.Assign at _ h o = absurd o
  stood_acting a.Source kind at K h o = stood_source kind at K h o
  stood_acting (a.AwaitEnd t) k.Until at K h o = gives whole here h (o.0, at, o.1, o.2)
  stood_acting (a.AwaitEnd t) k.Semicolon at K h o = stood_act_semicolon whole here s' at (act.Wait (wait.On t None)) K h (await_to whole here s' o.0 (wait.On t None) K (token k.Semicolon at ∷ here) o.1 (is_target o.2))
  stood_acting (a.AwaitEnd t) k.Comma at K h o = stood_act_comma whole here s' at (act.Wait (wait.On t None)) K h (await_to whole here s' o.0 (wait.On t None) K (token k.Comma at ∷ here) o.1 (is_target o.2))
  stood_acting (a.ActEnd done) k.Semicolon at K h o = stood_act_semicolon whole here s' at done K h o
  stood_acting (a.ActEnd done) k.Comma at K h o = stood_act_comma whole here s' at done K h o
  stood_acting a.Emit (k.Ext x) at (f.Begun ns b ∷ K) h o = gives whole here h (o.0, o.1, o.2, o.3, (ext x at ∷ here, o.4, emits_output x at here))
  stood_acting a.Emit (k.Ext x) at _ h o = absurd o
  stood_acting a.Emit (k.Lower x) at (f.Begun ns b ∷ K) h o = gives whole here h (o.0, o.1, o.2, o.3, (lower x at ∷ here, o.4, emits_event (is_here x at here)))
  stood_acting a.Emit (k.Lower x) at _ h o = absurd o
  stood_acting a.Emit k.Outer at K h o = gives whole here h o
  stood_acting (a.EmitOpen x) k.OpenParen at K h o = gives whole here h (at, o)
  stood_acting (a.EmitOpen x) k.Semicolon at (f.Begun ns b ∷ K) h o = gives whole here h (o.0, o.2, with_last o.3 (is_simple at (from_is o.4.1 (g.is_emit b o.4.2))))
  stood_acting (a.EmitOpen x) k.Semicolon at _ h o = none h
  stood_acting (a.EmitValue x) kind at K h o = stood_emit_value kind at x K h o
  stood_acting a.Await kind at K h o = stood_await kind at K h o
  stood_acting (a.Call code) k.OpenParen at K h o = gives whole here h (o.0, o.1, o.2 at here refl)
  stood_acting (a.Arguments code) kind at K h o = stood_arguments kind at code K h o
  stood_acting a.Target kind at K h o = stood_target kind at K h o
  stood_acting (a.Unit e) (k.Lower x) at K h o = stood_timed x at e K (spec.unit_of x) refl h o
  stood_acting a.Spawn (k.Abs x) at K h o = gives whole here h (abs x at ∷ here, o, (λ paren rest e. call_arguments x at paren rest e))
  stood_acting (a.SpawnIn begin code) k.In at K h o = gives whole here h (o.0, at, o.1, o.2)
  stood_acting (a.SpawnPool begin code) (k.Lower x) at K h o = gives whole here h (spawned begin code x o.1 at o.0 K o.2 o.3)
  stood_acting a.Kill (k.Lower x) at (f.Begun ns b ∷ K) h o = gives whole here h (o.0, o.1, o.2, o.3, from_is o.4 (g.is_kill x b at here))
  stood_acting a.Kill (k.Lower x) at _ h o = absurd o
  stood_acting a.Escape kind at K h o = stood_escape kind at K h o
  stood_acting a.EscapeLabel (k.Lower x) at (f.Begun ns b ∷ K) h o = gives whole here h (
    o.1.0,
    o.1.1,
    o.1.2,
    o.1.3,
    (from_is o.1.4 (g.is_escape_label x b o.0 at here), (λ e rest d. from_is o.1.4 (g.is_escape_both x b o.0 at d))),
  )
  stood_acting a.EscapeLabel (k.Lower x) at _ h o = absurd o.1
  stood_acting (a.EscapeValue x) kind at K h o = stood_escape_value kind at x K h o
  stood_acting _ _ at K h o = none h
