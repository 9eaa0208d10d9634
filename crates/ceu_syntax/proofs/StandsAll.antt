-- What has been taken stands in the state, as derivations of its parts.
use Rattle.std.proofs.Common.{◌≡◌, refl, ap, ◌∙◌, List, [], ◌∷◌, ◌++◌, Option, Some, None, true, false, subst, append-nil}
use Rattle.ceu_base.specs.declared.kinds.Pos.{Pos}
use Rattle.ceu_tree.specs.declared.source.Arm.{Arm}
use Rattle.ceu_tree.specs.declared.source.Stmt.{Stmt}
use Rattle.ceu_tree.specs.declared.source.Stmt as stmt
use Rattle.ceu_syntax.specs.declared.terminal.Kind.{Kind}
use Rattle.ceu_syntax.specs.declared.terminal.Terminal.{Terminal}
use Rattle.ceu_syntax.specs.declared.machine.Body.TheVariants as body
use Rattle.ceu_syntax.specs.declared.machine.Frame.{Frame}
use Rattle.ceu_syntax.specs.declared.machine.Frame.TheVariants as f
use Rattle.ceu_syntax.specs.declared.machine.Listed.TheVariants as listed
use Rattle.ceu_syntax.specs.declared.machine.Opening.{Opening}
use Rattle.ceu_syntax.specs.declared.machine.Opening.TheVariants as o
use Rattle.ceu_syntax.specs.declared.machine.Looping.{Looping}
use Rattle.ceu_syntax.specs.declared.machine.Looping.TheVariants as l
use Rattle.ceu_syntax.specs.declared.machine.Mode.{Mode}
use Rattle.ceu_syntax.specs.declared.machine.Mode.TheVariants as m
use Rattle.ceu_syntax.specs.Terminals.{token, lower, digits, right_bracket}
use Rattle.ceu_syntax.specs.Trees.{block, node, arm}
use Rattle.ceu_tree.specs.declared.source.Label.TheVariants as label
use Rattle.ceu_syntax.specs.declared.terminal.Kind.TheVariants as k
use Rattle.ceu_syntax.specs.declared.machine.Case.TheVariants as case
use Rattle.ceu_syntax.specs.Expressions.{is_here, Expression, Targets, is_event}
use Rattle.ceu_syntax.specs.Forms.{Names, no_list, empty_list, shared, is_never, is_or, is_and}
use Rattle.ceu_syntax.specs.Grammar as g
use Rattle.ceu_syntax.specs.Grammar.{Forms, Does, does_plain, does_under, does_named, Sources, is_value, is_wait, is_start, is_done, ItemOf, is_bare, is_initial, Items, last_item, one_item, Statement, is_simple, is_ended, Statements, no_more, skips, one_more, Branches, last_branch, one_branch, Arms, no_else, last_else, else_if}
use Rattle.ceu_syntax.specs.Steps as spec
use Rattle.ceu_syntax.specs.Steps.{State, state, Held, held, reduce, statement_of, source_of, case_of, closed}
use Rattle.ceu_syntax.specs.Runs.{run, step, then_run}
use Rattle.ceu_syntax.proofs.Contexts.{Formed, DoAt, TargetAt, OpeningAt, LoopingAt, Stood, Stands}
use Rattle.ceu_syntax.proofs.Stands.{from_is, gives, none, stood_simple, stood_expression}
use Rattle.ceu_syntax.proofs.StandsDeclaring.{stood_block, name_on, stood_declaring}
use Rattle.ceu_syntax.proofs.StandsActing.{stood_coding, stood_target, stood_acting}

module _ (whole here : List Terminal) (s' : State) where
  -- a body whose block ends with `end`
  stood_do : (kind : Kind) (at : Pos) (K : List Frame) → spec.of_do kind at K ≡ Some s' → DoAt whole K (token kind at ∷ here) → Stands whole s' here
  stood_do k.Slash at K h o = gives whole here h (at, o)
  stood_do k.Finalize at (f.Begun ns b ∷ K) h o = gives whole here h (at, (o.0, token k.Do b ∷ token k.Finalize at ∷ here, o.1, o.2, refl))
  stood_do k.Finalize at _ h o = none h
  stood_do kind at K h o = stood_block whole here s' kind at [] (f.Body (body.Do label.Plain) ∷ K) (token kind at ∷ here) h (token kind at ∷ here, o, (λ ns e rest t. does_plain e t)) (no_more (token kind at ∷ here))

  stood_else_head : (kind : Kind) (at : Pos) (arms : List Arm) (K : List Frame) → spec.opening (o.Else arms) kind at K ≡ Some s' → OpeningAt whole K (o.Else arms) (token kind at ∷ here) → Stands whole s' here
  stood_else_head k.Slash at arms K h o = gives whole here h (o.0, at, o.1)
  stood_else_head kind at arms (f.Begun ns b ∷ K) h o = stood_block whole here s' kind at [] (f.Body (body.Else arms) ∷ f.Begun ns b ∷ K) (token kind at ∷ here) h
      (o.1.0, o.1.1, o.1.2, o.1.3, (λ ms end rest t. subst (λ u. Forms o.1.1 (node b (stmt.If u (Some (block ms)))) true rest) (append-nil arms) (o.1.4 [] (Some (block ms)) rest (last_else o.0 end t)))) (no_more (token kind at ∷ here))
  stood_else_head kind at arms _ h o = absurd o.1

  pub stood_opening : (mode : Opening) (kind : Kind) (at : Pos) (K : List Frame) → spec.opening mode kind at K ≡ Some s' → OpeningAt whole K mode (token kind at ∷ here) → Stands whole s' here
  stood_opening o.Do kind at K h e = stood_do kind at K h e
  stood_opening o.DoLabel k.Under at K h e = gives whole here h (here, (token k.Slash e.0 ∷ token k.Under at ∷ here, e.1, (λ ns end rest t. does_under e.0 at end t)), no_more here)
  stood_opening o.DoLabel (k.Lower x) at K h e = gives whole here h (here, (token k.Slash e.0 ∷ lower x at ∷ here, e.1, (λ ns end rest t. does_named x e.0 at end t)), no_more here)
  stood_opening o.Finalize k.With at (f.Begun ns b ∷ K) h e = gives whole here h (here, (e.1.0, e.1.1, e.1.2, e.1.3, (λ ms end rest t. from_is e.1.4 (g.is_finalize b e.0 at end t))), no_more here)
  stood_opening o.Finalize k.With at _ h e = absurd e.1
  stood_opening (o.Else arms) kind at K h e = stood_else_head kind at arms K h e
  stood_opening (o.ElseIf arms) k.If at (f.Begun ns b ∷ K) h e = gives whole here h (e.2.0, e.2.1, e.2.2, e.2.3, (λ x by body d ms mid more last rest t a. e.2.4 (arm x ms ∷ more) last rest (else_if e.0 e.1 at by d t a)))
  stood_opening (o.ElseIf arms) k.If at _ h e = absurd e.2
  stood_opening (o.WatchingDo t) k.Do at (f.Begun ns b ∷ K) h e = gives whole here h (here, (e.0, e.1, e.2, e.3, e.4 at here refl), no_more here)
  stood_opening (o.WatchingDo t) k.Do at _ h e = absurd e
  stood_opening o.Par k.Slash at K h e = gives whole here h (at, e)
  stood_opening o.Par k.Do at (f.Begun ns b ∷ K) h e = gives whole here h (here, (e.0, e.1, e.2, e.3, (λ ms with mid bs rest t q. from_is e.4 (g.is_par b at with (is_never (token k.Do at ∷ here)) t q))), no_more here)
  stood_opening o.Par k.Do at _ h e = absurd e
  stood_opening o.ParWord k.Or at (f.Begun ns b ∷ K) h e = gives whole here h (
    e.1.0,
    e.1.1,
    e.1.2,
    e.1.3,
    (λ begin mid i ms with next bs rest t q. from_is (e.1.4 ∙ ap (λ u. token k.Par b ∷ token k.Slash e.0 ∷ token k.Or at ∷ u) i) (g.is_par b begin with (is_or e.0 at (token k.Do begin ∷ mid)) t q)),
  )
  stood_opening o.ParWord k.Or at _ h e = absurd e.1
  stood_opening o.ParWord k.And at (f.Begun ns b ∷ K) h e = gives whole here h (
    e.1.0,
    e.1.1,
    e.1.2,
    e.1.3,
    (λ begin mid i ms with next bs rest t q. from_is (e.1.4 ∙ ap (λ u. token k.Par b ∷ token k.Slash e.0 ∷ token k.And at ∷ u) i) (g.is_par b begin with (is_and e.0 at (token k.Do begin ∷ mid)) t q)),
  )
  stood_opening o.ParWord k.And at _ h e = absurd e.1
  stood_opening (o.ParDo kind) k.Do at (f.Begun ns b ∷ K) h e = gives whole here h (here, (e.0, e.1, e.2, e.3, e.4 at here refl), no_more here)
  stood_opening (o.ParDo kind) k.Do at _ h e = absurd e
  stood_opening o.Async k.OpenParen at K h e = gives whole here h (at, e)
  stood_opening o.Async k.Do at (f.Begun ns b ∷ K) h e = gives whole here h (here, (e.0, e.1, e.2, e.3, e.4 [] (token k.Do at ∷ here) (no_list (token k.Do at ∷ here)) at here refl), no_more here)
  stood_opening o.Async k.Do at _ h e = absurd e
  stood_opening o.AsyncOpen k.CloseParen at (f.Begun ns b ∷ K) h e = gives whole here h (e.1.0, e.1.1, e.1.2, e.1.3, e.1.4 [] here (empty_list e.0 at here))
  stood_opening o.AsyncOpen k.CloseParen at _ h e = absurd e.1
  stood_opening o.AsyncOpen (k.Lower x) at (f.Begun ns b ∷ K) h e = gives whole here h (
    e.1.0,
    e.1.1,
    e.1.2,
    e.1.3,
    (name_on whole here s' listed.Shared [] x at b e.1.1 (λ more rest m close mid i. e.1.4 more mid (shared e.0 close (subst (λ u. Names case.Lower (lower x at ∷ here) more u) i m)))),
  )
  stood_opening o.AsyncOpen (k.Lower x) at _ h e = absurd e.1
  stood_opening (o.AsyncDo xs) k.Do at (f.Begun ns b ∷ K) h e = gives whole here h (here, (e.0, e.1, e.2, e.3, e.4 at here refl), no_more here)
  stood_opening (o.AsyncDo xs) k.Do at _ h e = absurd e
  stood_opening _ _ at K h e = none h

  every_none : (K : List Frame) (mid : List Terminal) → Formed whole K (λ b from. from ≡ token k.Every b ∷ mid) → TargetAt whole (f.Every None ∷ K) mid
  every_none (f.Begun ns b ∷ K) mid o = (o.0, o.1, o.2, o.3, (λ t last d begin body i ms end rest q. from_is o.4 (g.is_every b begin end (subst (λ u. Targets mid t u) i d) q)))
  every_none _ mid o = absurd o

  stood_every : (kind : Kind) (at : Pos) (K : List Frame) → spec.of_every kind at K ≡ Some s' → LoopingAt whole K l.Every (token kind at ∷ here) → Stands whole s' here
  stood_every (k.Lower x) at (f.Begun ns b ∷ K) h o = gives whole here h (o.0, o.1, o.2, o.3, (lower x at ∷ here, o.4, is_here x at here))
  stood_every (k.Lower x) at _ h o = absurd o
  stood_every k.Outer at K h o = gives whole here h o
  stood_every kind at K h o = stood_target whole here s' kind at (f.Every None ∷ K) h (every_none K (token kind at ∷ here) o)

  pub stood_looping : (mode : Looping) (kind : Kind) (at : Pos) (K : List Frame) → spec.looping mode kind at K ≡ Some s' → LoopingAt whole K mode (token kind at ∷ here) → Stands whole s' here
  stood_looping l.Loop k.Slash at K h o = gives whole here h (at, o)
  stood_looping l.Loop k.Do at (f.Begun ns b ∷ K) h o = gives whole here h (here, (o.0, o.1, o.2, o.3, (λ ms end rest t. from_is o.4 (g.is_loop b at end t))), no_more here)
  stood_looping l.Loop k.Do at _ h o = absurd o
  stood_looping l.Loop (k.Lower x) at (f.Begun ns b ∷ K) h o = gives whole here h (
    o.0,
    o.1,
    o.2,
    o.3,
    (λ into left open_a mid e v arrow last d to open_b right next d2 begin body i ms end rest t.
        from_is (o.4 ∙ ap (λ u. token k.Loop b ∷ lower x at ∷ u) e) (g.is_range x open_a open_b b at into left arrow right begin end d (subst (λ u. Expression 0 last to (token (right_bracket open_b) right ∷ u)) i d2) t)),
  )
  stood_looping l.Loop (k.Lower x) at _ h o = absurd o
  stood_looping l.Count (k.Number n) at (f.Begun ns b ∷ K) h o = gives whole here h (
    o.1.0,
    o.1.1,
    o.1.2,
    o.1.3,
    (λ begin body i ms end rest t. from_is (o.1.4 ∙ ap (λ u. token k.Loop b ∷ token k.Slash o.0 ∷ digits n at ∷ u) i) (g.is_times n b o.0 at begin end t)),
  )
  stood_looping l.Count (k.Number n) at _ h o = absurd o.1
  stood_looping (l.CountDo n) k.Do at (f.Begun ns b ∷ K) h o = gives whole here h (here, (o.0, o.1, o.2, o.3, o.4 at here refl), no_more here)
  stood_looping (l.CountDo n) k.Do at _ h o = absurd o
  stood_looping (l.RangeIn x) k.In at (f.Begun ns b ∷ K) h o = gives whole here h (o.0, o.1, o.2, o.3, (λ left open_a mid e. o.4 at left open_a mid (ap (λ u. token k.In at ∷ u) e)))
  stood_looping (l.RangeIn x) k.In at _ h o = absurd o
  stood_looping (l.RangeOpen x) k.OpenBracket at (f.Begun ns b ∷ K) h o = gives whole here h (o.0, o.1, o.2, o.3, o.4 at false here refl)
  stood_looping (l.RangeOpen x) k.OpenBracket at _ h o = absurd o
  stood_looping (l.RangeOpen x) k.CloseBracket at (f.Begun ns b ∷ K) h o = gives whole here h (o.0, o.1, o.2, o.3, o.4 at true here refl)
  stood_looping (l.RangeOpen x) k.CloseBracket at _ h o = absurd o
  stood_looping (l.RangeDo x open_a from to open_b) k.Do at (f.Begun ns b ∷ K) h o = gives whole here h (here, (o.0, o.1, o.2, o.3, o.4 at here refl), no_more here)
  stood_looping (l.RangeDo x open_a from to open_b) k.Do at _ h o = absurd o
  stood_looping l.Every kind at K h o = stood_every kind at K h o
  stood_looping (l.EveryIn x) k.In at (f.Begun ns b ∷ K) h o = gives whole here h (
    o.0,
    o.1,
    o.2,
    o.3,
    (λ t mid d begin body i ms end rest q. from_is o.4.1 (g.is_every_in b at begin end o.4.2 (subst (λ u. Targets here t u) i d) q)),
  )
  stood_looping (l.EveryIn x) k.In at _ h o = absurd o
  stood_looping (l.EveryIn x) k.Do at (f.Begun ns b ∷ K) h o = gives whole here h (here, (o.0, o.1, o.2, o.3, (λ ms end rest t. from_is o.4.1 (g.is_every b at end (is_event o.4.2) t))), no_more here)
  stood_looping (l.EveryIn x) k.Do at _ h o = absurd o
  stood_looping (l.EveryDo x t) k.Do at (f.Begun ns b ∷ K) h o = gives whole here h (here, (o.0, o.1, o.2, o.3, o.4 at here refl), no_more here)
  stood_looping (l.EveryDo x t) k.Do at _ h o = absurd o
  stood_looping _ _ at K h o = none h

  stood_semicolon : (kind : Kind) (at : Pos) (stmt : Stmt) (K : List Frame) → spec.of_semicolon kind stmt K ≡ Some s' → Formed whole K (λ p from. Forms from (node p stmt) false (token kind at ∷ here)) → Stands whole s' here
  stood_semicolon k.Semicolon at stmt K h o = stood_simple whole here s' at stmt K h o
  stood_semicolon _ at stmt K h o = none h

  stood : (kind : Kind) (at : Pos) (K : List Frame) (mode : Mode) → spec.moved kind at K mode ≡ Some s' → Stood whole K mode (token kind at ∷ here) → Stands whole s' here
  stood kind at K (m.In ns) h o = stood_block whole here s' kind at ns K o.0 h o.1 o.2
  stood kind at K (m.Semicolon stmt) h o = stood_semicolon kind at stmt K h o
  stood kind at K (m.Declaring mode) h o = stood_declaring whole here s' mode kind at K h o
  stood kind at K (m.Coding mode) h o = stood_coding whole here s' mode kind at K h o
  stood kind at K (m.Acting mode) h o = stood_acting whole here s' mode kind at K h o
  stood kind at K (m.Opening mode) h o = stood_opening mode kind at K h o
  stood kind at K (m.Looping mode) h o = stood_looping mode kind at K h o
  stood kind at K mode h o = stood_expression whole here s' kind at K mode h o tt

pub stands : (whole rest : List Terminal) (ts : List Terminal) (s s' : State) → run ts s ≡ Some s' → Stands whole s (ts ++ rest) → Stands whole s' rest
unfolding run
stands whole rest [] s s' h o = gives whole rest h o
stands whole rest (t ∷ ts) s s' h o = go (step t s) refl h (λ m e g. stands whole rest ts m s' g (stood whole (ts ++ rest) m t.kind t.pos s.stack s.mode e o))
  where
    go : (m : Option State) → step t s ≡ m → then_run (run ts) m ≡ Some s' → ((m : State) → step t s ≡ Some m → run ts m ≡ Some s' → Stands whole s' rest) → Stands whole s' rest
    go None e h f = none h
    go (Some m) e h f = f m e h
