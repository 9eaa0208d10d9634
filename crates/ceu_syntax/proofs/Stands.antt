-- A step keeps what stands: ends of parts, and expressions.
use Rattle.std.proofs.Common.{◌≡◌, refl, sym, ℕ, suc, ◌≤◌, List, [], ◌∷◌, ◌++◌, Option, Some, None, if◌then◌else◌, arith, Bool, true, false, subst, append_assoc}
use Rattle.std.proofs.Common.{nat_lt}
use Rattle.std.proofs.lemmas.Bool.{ltb-true, ltb-false}
use Rattle.ceu_base.specs.declared.kinds.Pos.{Pos}
use Rattle.ceu_base.specs.declared.kinds.Op2.{Op2}
use Rattle.ceu_base.specs.declared.kinds.Ty.{Ty}
use Rattle.ceu_tree.specs.declared.source.Ident.{Ident}
use Rattle.ceu_tree.specs.declared.source.Exp.{Exp}
use Rattle.ceu_tree.specs.declared.source.Target.{Target}
use Rattle.ceu_tree.specs.declared.source.Await.{Await}
use Rattle.ceu_tree.specs.declared.source.Node.{Node}
use Rattle.ceu_tree.specs.declared.source.Do.{Do}
use Rattle.ceu_tree.specs.declared.source.Source.{Source}
use Rattle.ceu_tree.specs.declared.source.Source as source
use Rattle.ceu_tree.specs.declared.source.Item.{Item}
use Rattle.ceu_tree.specs.declared.source.Stmt.{Stmt}
use Rattle.ceu_tree.specs.declared.source.Stmt as stmt
use Rattle.ceu_syntax.specs.declared.terminal.Kind.{Kind}
use Rattle.ceu_syntax.specs.declared.terminal.Terminal.{Terminal}
use Rattle.ceu_syntax.specs.declared.machine.Frame.{Frame}
use Rattle.ceu_syntax.specs.declared.machine.Frame.TheVariants as f
use Rattle.ceu_syntax.specs.declared.machine.Owner.{Owner}
use Rattle.ceu_syntax.specs.declared.machine.Owner.TheVariants as owner
use Rattle.ceu_syntax.specs.declared.machine.Act.{Act}
use Rattle.ceu_syntax.specs.declared.machine.Act.TheVariants as act
use Rattle.ceu_syntax.specs.declared.machine.Mode.{Mode}
use Rattle.ceu_syntax.specs.declared.machine.Mode.TheVariants as m
use Rattle.ceu_syntax.specs.Terminals.{token, lower, digits, binary_of, prefix_of, level, right_bracket}
use Rattle.ceu_syntax.specs.Trees.{ident, outer, call, node, item}
use Rattle.ceu_base.specs.declared.kinds.Op1.{Op1}
use Rattle.ceu_tree.specs.declared.source.Target.TheVariants as target
use Rattle.ceu_tree.specs.declared.source.Await.TheVariants as wait
use Rattle.ceu_syntax.specs.declared.terminal.Kind.TheVariants as k
use Rattle.ceu_syntax.specs.Trees.{variable, one, two, cast}
use Rattle.ceu_syntax.specs.Expressions.{Location, is_here, is_outer, Expression, is_number, is_truth, is_variable, is_alive, is_paren, is_prefix, is_binary, is_cast, last_argument, one_argument, Calls, Targets, is_event, Awaits, is_code, is_until}
use Rattle.ceu_syntax.specs.Forms.{emits_event}
use Rattle.ceu_syntax.specs.Grammar as g
use Rattle.ceu_syntax.specs.Grammar.{Forms, Does, does_plain, does_under, does_named, Sources, is_value, is_wait, is_start, is_done, ItemOf, is_bare, is_initial, Items, last_item, one_item, Statement, is_simple, is_ended, Statements, no_more, skips, one_more, Branches, last_branch, one_branch, Arms, no_else, last_else, else_if}
use Rattle.ceu_syntax.specs.Steps as spec
use Rattle.ceu_syntax.specs.Steps.{State, state, Held, held, reduce, statement_of, source_of, case_of, closed}
use Rattle.ceu_syntax.proofs.Contexts.{ItemsAt, Formed, DoAt, SourceAt, SourceTo, AliasTo, ActTo, AwaitAt, CallAt, TargetAt, Upto, Under, High, Opened, OuterAt, Stood, Stands}
use Rattle.ceu_syntax.proofs.Takes.{low}

-- ---- the end of a list of statements

pub with_last : {start mid rest : List Terminal} {ns : List Node} {n : Node} → Statements start ns mid → Statement mid n rest → Statements start (ns ++ n ∷ []) rest
with_last (no_more mid) t = one_more t (no_more _)
with_last (skips at d) t = skips at (with_last d t)
with_last (one_more u d) t = one_more u (with_last d t)

pub skips_last : {start rest : List Terminal} {ns : List Node} (at : Pos) → Statements start ns (token k.Semicolon at ∷ rest) → Statements start ns rest
skips_last {start} {rest} at d = go d refl
  where
    go : {start mid : List Terminal} {ns : List Node} → Statements start ns mid → mid ≡ token k.Semicolon at ∷ rest → Statements start ns rest
    go (no_more mid) e = subst (λ u. Statements u [] rest) (sym e) (skips at (no_more rest))
    go (skips p d) e = skips p (go d e)
    go (one_more t d) e = one_more t (go d e)

pub from_is : {from mid rest : List Terminal} {n : Node} {b : Bool} → from ≡ mid → Forms mid n b rest → Forms from n b rest
from_is {rest = rest} {n = n} {b = b} e d = subst (λ u. Forms u n b rest) (sym e) d

-- ---- reducing

pub record Reduced (p : ℕ) (whole : List Terminal) (h : Held) (rest : List Terminal) : Type 0 where
  pub from : List Terminal
  pub opened : Opened whole h.stack from
  pub upto : Upto p from h.e rest
  pub under : Under p h.stack

high_ten : (K : List Frame) → High 10 K
high_ten [] = tt
high_ten (f.Binary op at a ∷ K) = let h : level op ≤ 9 = low op in omega arith
high_ten (f.Prefix op at ∷ K) = omega arith
high_ten (_ ∷ K) = tt

high_eleven : (K : List Frame) → High 11 K
high_eleven [] = tt
high_eleven (f.Binary op at a ∷ K) = let h : level op ≤ 9 = low op in omega arith
high_eleven (f.Prefix op at ∷ K) = omega arith
high_eleven (_ ∷ K) = tt

under_high : (l : ℕ) (K : List Frame) → Under l K → High l K
under_high l [] h = tt
under_high l (f.Binary op at a ∷ K) h = h
under_high l (f.Prefix op at ∷ K) h = absurd h
under_high l (_ ∷ K) h = tt

pub reduced : (whole rest : List Terminal) (p : ℕ) → p ≤ 10 → (K : List Frame) (m : ℕ) (x : Exp) (from : List Terminal) → p ≤ m → Opened whole K from → Upto m from x rest → High m K → Reduced p whole (reduce p x K) rest
reduced whole rest p c [] m x from d o u h = absurd o
reduced whole rest p c (f.Prefix op at ∷ K) m x from d o u h =
    reduced whole rest p c K 10 (one op at x) (token o.0 at ∷ from) c o.2 (λ q e. is_prefix o.0 op at e o.1 (u 10 h)) (high_ten K)
reduced whole rest p c (f.Binary op at a ∷ K) m x from d o u h = go (nat_lt (level op) p) refl
    (λ e. reduced whole rest p c K (level op) (two op at a x) o.0 (ltb-false (level op) p e) o.3 (λ q f. is_binary o.1.kind op at f o.1.is o.1.operand (u (suc (level op)) h)) (under_high (level op) K o.2))
  where
    go : (b : Bool) → nat_lt (level op) p ≡ b → (nat_lt (level op) p ≡ false → Reduced p whole (reduce p (two op at a x) K) rest) → Reduced p whole (if b then held x (f.Binary op at a ∷ K) else reduce p (two op at a x) K) rest
    go true e f = record { from = from; opened = o; upto = λ q g. u q (omega arith); under = ltb-true (level op) p e }
    go false e f = f e
reduced whole rest p c (frame ∷ K) m x from d o u h = record { from = from; opened = o; upto = λ q e. u q (omega arith); under = tt }

-- ---- a step keeps what stands

some_of : {A : Type 0} {a b : A} → Some a ≡ Some b → a ≡ b
some_of h = cc

pub gives : (whole here : List Terminal) {s s' : State} → Some s ≡ Some s' → Stands whole s here → Stands whole s' here
gives whole here h d = subst (λ u. Stands whole u here) (some_of h) d

pub none : {A : Type 0} {s' : State} → None ≡ Some s' → A
none h = absurd (cc)

-- the modes of an expression or a location
abbrev pub InExpression : Mode → Type 0
InExpression m.Start = Unit {0}
InExpression (m.Named x before) = Unit {0}
InExpression (m.After x) = Unit {0}
InExpression (m.Cast p x) = Unit {0}
InExpression (m.Typed x) = Unit {0}
InExpression (m.Outer whose p) = Unit {0}
InExpression (m.OuterName whose p) = Unit {0}
InExpression _ = ⊥

module _ (whole here : List Terminal) (s' : State) where
  -- a statement ends
  pub stood_simple : (p : Pos) (stmt : Stmt) (K : List Frame) → closed stmt K ≡ Some s' → Formed whole K (λ at from. Forms from (node at stmt) false (token k.Semicolon p ∷ here)) → Stands whole s' here
  stood_simple p stmt (f.Begun ns at ∷ K) h o = gives whole here h (o.0, o.2, with_last o.3 (is_simple p o.4))
  stood_simple p stmt _ h o = none h

  pub stood_ended : (stmt : Stmt) (K : List Frame) → closed stmt K ≡ Some s' → Formed whole K (λ at from. Forms from (node at stmt) true here) → Stands whole s' here
  stood_ended stmt (f.Begun ns at ∷ K) h o = gives whole here h (o.0, o.2, with_last o.3 (is_ended o.4))
  stood_ended stmt _ h o = none h

  -- a list of items goes on
  pub items_on : (ty : Ty) (is : List Item) (i : Item) (j : List Terminal) (b : Bool) (p : Pos) (K : List Frame) → ItemOf j i b (token k.Comma p ∷ here) → Formed whole K (ItemsAt ty is j) → Formed whole K (ItemsAt ty (is ++ i ∷ []) here)
  items_on ty is i j b p (f.Begun ns at ∷ K) d o = (o.0, o.1, o.2, o.3, λ more c rest m. subst (λ u. Forms o.1 (node at (stmt.Vars ty u)) c rest) (sym (append_assoc is (i ∷ []) more)) (o.4 (i ∷ more) c rest (one_item p d m)))
  items_on ty is i j b p _ d o = absurd o

  pub items_end : (ty : Ty) (is : List Item) (i : Item) (j : List Terminal) (b : Bool) (rest : List Terminal) (K : List Frame) → ItemOf j i b rest → Formed whole K (ItemsAt ty is j) → Formed whole K (λ at from. Forms from (node at (stmt.Vars ty (is ++ i ∷ []))) b rest)
  items_end ty is i j b rest (f.Begun ns at ∷ K) d o = (o.0, o.1, o.2, o.3, o.4 (i ∷ []) b rest (last_item d))
  items_end ty is i j b rest _ d o = absurd o

  pub stood_source_semicolon : (p : Pos) (source : Source) (K : List Frame) → spec.source_semicolon source K ≡ Some s' → SourceTo whole K source false (token k.Semicolon p ∷ here) → Stands whole s' here
  stood_source_semicolon p source (f.Store x ∷ K) h o = stood_simple p (stmt.Assign x source) K h o
  stood_source_semicolon p source (f.Initial ty is x ∷ K) h o = stood_simple p (stmt.Vars ty (is ++ item x (Some source) ∷ [])) K h (items_end ty is (item x (Some source)) o.0 false (token k.Semicolon p ∷ here) K o.1 o.2)
  stood_source_semicolon p source _ h o = none h

  pub stood_source_comma : (p : Pos) (source : Source) (K : List Frame) → spec.source_comma source K ≡ Some s' → SourceTo whole K source false (token k.Comma p ∷ here) → Stands whole s' here
  stood_source_comma p source (f.Initial ty is x ∷ K) h o = gives whole here h (items_on ty is (item x (Some source)) o.0 false p K o.1 o.2)
  stood_source_comma p source _ h o = none h

  stood_alias : (p : Pos) (done : Act) (code x : Ident) (K : List Frame) → spec.alias_semicolon done code x K ≡ Some s' → Formed whole K (AliasTo done code x (token k.Semicolon p ∷ here)) → Stands whole s' here
  stood_alias p (act.Start sp) code x K h o = stood_simple p (stmt.AliasDecl code x (Some sp)) K h o
  stood_alias p (act.Wait wait) code x K h o = none h

  pub stood_act_semicolon : (p : Pos) (done : Act) (K : List Frame) → spec.act_semicolon done K ≡ Some s' → ActTo whole K done (token k.Semicolon p ∷ here) → Stands whole s' here
  stood_act_semicolon p done (f.Begun ns at ∷ K) h o = stood_simple p (statement_of done) (f.Begun ns at ∷ K) h o
  stood_act_semicolon p done (f.Alias code x ∷ K) h o = stood_alias p done code x K h o
  stood_act_semicolon p done K h o = stood_source_semicolon p (source_of done) K h o

  pub stood_act_comma : (p : Pos) (done : Act) (K : List Frame) → spec.source_comma (source_of done) K ≡ Some s' → ActTo whole K done (token k.Comma p ∷ here) → Stands whole s' here
  stood_act_comma p done (f.Initial ty is x ∷ K) h o = stood_source_comma p (source_of done) (f.Initial ty is x ∷ K) h o
  stood_act_comma p done _ h o = none h

  pub stood_do_end : (done : Do) (mid : List Terminal) (K : List Frame) → spec.do_end done K ≡ Some s' → DoAt whole K mid → Does mid done here → Stands whole s' here
  stood_do_end done mid (f.Begun ns at ∷ K) h o d = gives whole here h (o.0, o.1, with_last o.2 (is_ended (g.is_do at d)))
  stood_do_end done mid (f.Store x ∷ f.Begun ns at ∷ K) h o d = gives whole here h (o.0, o.2, with_last o.3 (is_ended (o.4 done here d)))
  stood_do_end done mid (f.Store x ∷ K) h o d = none h
  stood_do_end done mid (f.Initial ty is x ∷ f.Begun ns at ∷ K) h o d =
      gives whole here h (
        o.2.0,
        o.2.1,
        o.2.2,
        o.2.3,
        (
          o.2.4 (item x (Some (source.Done done)) ∷ []) true here (last_item (o.1 done here d)),
          (λ comma mid more b rest e m. subst (λ u. Forms o.2.1 (node at (stmt.Vars ty u)) b rest) (sym (append_assoc is (item x (Some (source.Done done)) ∷ []) more))
              (o.2.4 (item x (Some (source.Done done)) ∷ more) b rest (one_item comma (subst (λ u. ItemOf o.0 (item x (Some (source.Done done))) true u) e (o.1 done here d)) m))),
        ),
      )
  stood_do_end done mid (f.Initial ty is x ∷ K) h o d = absurd o.2
  stood_do_end done mid _ h o d = none h

  -- ends of a call, a target, a location

  pub await_to : (mid : List Terminal) (wait : Await) (K : List Frame) (rest : List Terminal) → AwaitAt whole K mid → Awaits mid wait rest → ActTo whole K (act.Wait wait) rest
  await_to mid wait (f.Begun ns at ∷ K) rest o d = (o.0, o.1, o.2, o.3, from_is o.4 (g.is_await at d))
  await_to mid wait (f.Store x ∷ f.Begun ns at ∷ K) rest o d = (o.0, o.1, o.2, o.3, o.4 wait rest d)
  await_to mid wait (f.Store x ∷ K) rest o d = absurd o
  await_to mid wait (f.Initial ty is x ∷ K) rest o d = (o.0, o.1 wait rest d, o.2)
  await_to mid wait _ rest o d = absurd o

  pub stood_called : (code : Ident) (es : List Exp) (mid : List Terminal) (K : List Frame) → spec.called code es K ≡ Some s' → CallAt whole K mid → Calls mid (call code es) here → Stands whole s' here
  stood_called code es mid (f.Spawn begin ∷ K) h o d = gives whole here h (mid, o, d)
  stood_called code es mid K h o d = gives whole here h (await_to mid (wait.Code (call code es)) K here o (is_code d))

  pub stood_aimed : (t : Target) (mid : List Terminal) (K : List Frame) → spec.aimed t K ≡ Some s' → TargetAt whole K mid → Targets mid t here → Stands whole s' here
  stood_aimed t mid (f.Every x ∷ f.Begun ns at ∷ K) h o d = gives whole here h (o.0, o.1, o.2, o.3, o.4 t here d)
  stood_aimed t mid (f.Every x ∷ K) h o d = absurd o
  stood_aimed t mid (f.Watching ∷ f.Begun ns at ∷ K) h o d = gives whole here h (o.0, o.1, o.2, o.3, o.4 t here d)
  stood_aimed t mid (f.Watching ∷ K) h o d = absurd o
  stood_aimed t mid K h o d = gives whole here h (mid, o, d)

  stood_located : (whose : Owner) (x : List ℕ) (at p q : Pos) (K : List Frame) → spec.located whose (outer x at) K ≡ Some s' → OuterAt whose whole K at (token k.Outer at ∷ token k.Dot p ∷ lower x q ∷ here) → Stands whole s' here
  stood_located owner.Operand x at p q K h o = gives whole here h (token k.Outer at ∷ token k.Dot p ∷ lower x q ∷ here, o, λ m c. is_variable (is_outer x at p q here))
  stood_located owner.Store x at p q (f.Begun ns b ∷ K) h o = gives whole here h (o.0, o.1, o.2, o.3, (o.4.0, subst (λ u. Location u (outer x at) here) (sym o.4.1) (is_outer x at p q here)))
  stood_located owner.Store x at p q _ h o = absurd o
  stood_located owner.Emit x at p q (f.Begun ns b ∷ K) h o = gives whole here h (o.0, o.1, o.2, o.3, (token k.Outer at ∷ token k.Dot p ∷ lower x q ∷ here, o.4, emits_event (is_outer x at p q here)))
  stood_located owner.Emit x at p q _ h o = absurd o
  stood_located owner.Target x at p q K h o = stood_aimed (target.Event (outer x at)) (token k.Outer at ∷ token k.Dot p ∷ lower x q ∷ here) K h o (is_event (is_outer x at p q here))
  stood_located owner.Every x at p q (f.Begun ns b ∷ K) h o = gives whole here h (o.0, o.1, o.2, o.3, (token k.Outer at ∷ token k.Dot p ∷ lower x q ∷ here, o.4, is_outer x at p q here))
  stood_located owner.Every x at p q _ h o = absurd o

  -- expressions

  stood_operand : (kind : Kind) (at : Pos) (K : List Frame) → spec.operand kind at K ≡ Some s' → Opened whole K (token kind at ∷ here) → Stands whole s' here
  stood_operand (k.Number n) at K h o = gives whole here h (digits n at ∷ here, o, λ q c. is_number n at here)
  stood_operand (k.Lower x) at K h o = gives whole here h o
  stood_operand (k.Truth b) at K h o = gives whole here h (token (k.Truth b) at ∷ here, o, λ q c. is_truth b at here)
  stood_operand k.Outer at K h o = gives whole here h o
  stood_operand k.OpenParen at K h o = gives whole here h o
  stood_operand _ at K h o = none h

  pub stood_starts : (kind : Kind) (at : Pos) (K : List Frame) → spec.starts kind at K ≡ Some s' → Opened whole K (token kind at ∷ here) → Stands whole s' here
  stood_starts kind at K h o = go (prefix_of kind) refl h
    where
      go : (op : Option Op1) → prefix_of kind ≡ op → spec.starts_with op kind at K ≡ Some s' → Stands whole s' here
      go (Some op) e h = gives whole here h (kind, e, o)
      go None e h = stood_operand kind at K h o

  ends_paren : (p : Pos) (e : Exp) (K : List Frame) (from : List Terminal) → spec.ends_paren e K ≡ Some s' → Opened whole K from → Expression 0 from e (token k.CloseParen p ∷ here) → Stands whole s' here
  ends_paren p e (f.Paren at ∷ K) from h o d = gives whole here h (token k.OpenParen at ∷ from, o, λ q c. is_paren at p d)
  ends_paren p e (f.Arguments code es ∷ K) from h o d = stood_called code (es ++ e ∷ []) o.0 K h o.1 (o.2 (e ∷ []) here (last_argument p d))
  ends_paren p e (f.Emit x ∷ f.Begun ns at ∷ K) from h o d = gives whole here h (o.0, o.1, o.2, o.3, o.4 e p here d)
  ends_paren p e (f.Emit x ∷ K) from h o d = absurd o
  ends_paren p e (f.Time ∷ K) from h o d = gives whole here h (from, o.0, p, o.1, d)
  ends_paren p e _ from h o d = none h

  pub value_to : (e : Exp) (K : List Frame) (from rest : List Terminal) → SourceAt whole K from → Expression 0 from e rest → SourceTo whole K (source.Value e) false rest
  value_to e (f.Store x ∷ f.Begun ns at ∷ K) from rest o d = (o.0, o.1, o.2, o.3, o.4 (source.Value e) false rest (is_value d))
  value_to e (f.Store x ∷ K) from rest o d = absurd o
  value_to e (f.Initial ty is x ∷ K) from rest o d = (o.0, o.1 (source.Value e) false rest (is_value d), o.2)
  value_to e _ from rest o d = absurd o

  until_to : (e : Exp) (t : Target) (K : List Frame) (from rest : List Terminal) → Opened whole (f.Until t ∷ K) from → Expression 0 from e rest → ActTo whole K (act.Wait (wait.On t (Some e))) rest
  until_to e t K from rest o d = await_to o.0 (wait.On t (Some e)) K rest o.2 (is_until o.1 o.3 d)

  ends_semicolon : (p : Pos) (e : Exp) (K : List Frame) (from : List Terminal) → spec.ends_semicolon e K ≡ Some s' → Opened whole K from → Expression 0 from e (token k.Semicolon p ∷ here) → Stands whole s' here
  ends_semicolon p e (f.Until t ∷ K) from h o d = stood_act_semicolon p (act.Wait (wait.On t (Some e))) K h (until_to e t K from (token k.Semicolon p ∷ here) o d)
  ends_semicolon p e (f.Escape x ∷ f.Begun ns at ∷ K) from h o d = gives whole here h (o.0, o.2, with_last o.3 (is_simple p (o.4 e (token k.Semicolon p ∷ here) d)))
  ends_semicolon p e (f.Escape x ∷ K) from h o d = none h
  ends_semicolon p e (f.Store x ∷ K) from h o d = stood_source_semicolon p (source.Value e) (f.Store x ∷ K) h (value_to e (f.Store x ∷ K) from (token k.Semicolon p ∷ here) o d)
  ends_semicolon p e (f.Initial ty is x ∷ K) from h o d = stood_source_semicolon p (source.Value e) (f.Initial ty is x ∷ K) h (value_to e (f.Initial ty is x ∷ K) from (token k.Semicolon p ∷ here) o d)
  ends_semicolon p e _ from h o d = none h

  ends_comma : (p : Pos) (e : Exp) (K : List Frame) (from : List Terminal) → spec.ends_comma e K ≡ Some s' → Opened whole K from → Expression 0 from e (token k.Comma p ∷ here) → Stands whole s' here
  ends_comma p e (f.Arguments code es ∷ K) from h o d =
      gives whole here h (o.0, o.1, λ more rest a. subst (λ u. Calls o.0 (call code u) rest) (sym (append_assoc es (e ∷ []) more)) (o.2 (e ∷ more) rest (one_argument p d a)))
  ends_comma p e (f.Until t ∷ f.Initial ty is x ∷ K) from h o d = stood_source_comma p (source.Wait (wait.On t (Some e))) (f.Initial ty is x ∷ K) h (until_to e t (f.Initial ty is x ∷ K) from (token k.Comma p ∷ here) o d)
  ends_comma p e (f.Until t ∷ K) from h o d = none h
  ends_comma p e (f.Initial ty is x ∷ K) from h o d = stood_source_comma p (source.Value e) (f.Initial ty is x ∷ K) h (value_to e (f.Initial ty is x ∷ K) from (token k.Comma p ∷ here) o d)
  ends_comma p e _ from h o d = none h

  ends_condition : (p : Pos) (e : Exp) (K : List Frame) (from : List Terminal) → spec.ends_condition e K ≡ Some s' → Opened whole K from → Expression 0 from e (token k.Then p ∷ here) → Stands whole s' here
  ends_condition p e (f.Condition arms ∷ f.Begun ns at ∷ K) from h o d = gives whole here h (here, (o.0, o.1, o.2, o.3, o.4 e p here d), no_more here)
  ends_condition p e (f.Condition arms ∷ K) from h o d = absurd o
  ends_condition p e _ from h o d = none h

  ends_arrow : (p : Pos) (e : Exp) (K : List Frame) (from : List Terminal) → spec.ends_arrow e K ≡ Some s' → Opened whole K from → Expression 0 from e (token k.Arrow p ∷ here) → Stands whole s' here
  ends_arrow p e (f.RangeFrom x open_a ∷ f.Begun ns at ∷ K) from h o d = gives whole here h (o.0, o.1, o.2, o.3, o.4 e p here d)
  ends_arrow p e (f.RangeFrom x open_a ∷ K) from h o d = absurd o
  ends_arrow p e _ from h o d = none h

  ends_bracket : (open_b : Bool) (p : Pos) (e : Exp) (K : List Frame) (from : List Terminal) → spec.ends_bracket open_b e K ≡ Some s' → Opened whole K from → Expression 0 from e (token (right_bracket open_b) p ∷ here) → Stands whole s' here
  ends_bracket open_b p e (f.RangeTo x open_a a ∷ f.Begun ns at ∷ K) from h o d = gives whole here h (o.0, o.1, o.2, o.3, o.4 e open_b p here d)
  ends_bracket open_b p e (f.RangeTo x open_a a ∷ K) from h o d = absurd o
  ends_bracket open_b p e _ from h o d = none h

  pub stood_ends : (kind : Kind) (at : Pos) (h : Held) → spec.ends kind at h ≡ Some s' → Reduced 0 whole h (token kind at ∷ here) → Stands whole s' here
  stood_ends k.As at g h r = gives whole here h (r.from, r.opened, r.upto, r.under)
  stood_ends k.Then at g h r = ends_condition at g.e g.stack r.from h r.opened (r.upto 0 (omega arith))
  stood_ends k.CloseParen at g h r = ends_paren at g.e g.stack r.from h r.opened (r.upto 0 (omega arith))
  stood_ends k.Semicolon at g h r = ends_semicolon at g.e g.stack r.from h r.opened (r.upto 0 (omega arith))
  stood_ends k.Comma at g h r = ends_comma at g.e g.stack r.from h r.opened (r.upto 0 (omega arith))
  stood_ends k.Arrow at g h r = ends_arrow at g.e g.stack r.from h r.opened (r.upto 0 (omega arith))
  stood_ends k.CloseBracket at g h r = ends_bracket false at g.e g.stack r.from h r.opened (r.upto 0 (omega arith))
  stood_ends k.OpenBracket at g h r = ends_bracket true at g.e g.stack r.from h r.opened (r.upto 0 (omega arith))
  stood_ends _ at g h r = none h

  stood_follows : (kind : Kind) (at : Pos) (x : Exp) (K : List Frame) (from : List Terminal) → spec.follows kind at x K ≡ Some s' → Opened whole K from → Upto 11 from x (token kind at ∷ here) → Stands whole s' here
  stood_follows kind at x K from h o u = go (binary_of kind) refl h
    where
      go : (op : Option Op2) → binary_of kind ≡ op → spec.follows_with op kind at x K ≡ Some s' → Stands whole s' here
      go (Some op) e h =
          let l : level op ≤ 9 = low op in
          let r = reduced whole (token kind at ∷ here) (level op) (omega arith) K 11 x from (omega arith) o u (high_eleven K) in
          gives whole here h (r.from, record { kind = kind; is = e; operand = r.upto (level op) (omega arith) }, r.under, r.opened)
      go None e h = stood_ends kind at (reduce 0 x K) h (reduced whole (token kind at ∷ here) 0 (omega arith) K 11 x from (omega arith) o u (high_eleven K))

  stood_named : (kind : Kind) (at : Pos) (x : List ℕ) (before : Pos) (K : List Frame) → spec.of_named kind at x before K ≡ Some s' → Opened whole K (lower x before ∷ token kind at ∷ here) → Stands whole s' here
  stood_named k.Question at x before K h o = gives whole here h (_, o, λ q c. is_alive x before at here)
  stood_named kind at x before K h o = stood_follows kind at (variable (ident x before)) K _ h o (λ q c. is_variable (is_here x before _))

  stood_cast : (kind : Kind) (p at : Pos) (x : Exp) (K : List Frame) (from : List Terminal) → spec.of_cast kind at x K ≡ Some s' → Opened whole K from → Upto 0 from x (token k.As at ∷ token kind p ∷ here) → Under 0 K → Stands whole s' here
  stood_cast (k.Type ty) p at x K from h o u v = gives whole here h (from, o, (λ q c. subst (λ l. Expression l from (cast at x ty) here) (zero_is q c) (is_cast ty at p (u 0 (omega arith)))), v)
    where
      zero_is : (q : ℕ) → q ≤ 0 → 0 ≡ q
      zero_is q c = omega arith
  stood_cast _ p at x K from h o u v = none h

  -- every mode of an expression
  pub stood_expression : (kind : Kind) (at : Pos) (K : List Frame) (mode : Mode) → (spec.moved kind at K mode ≡ Some s') → Stood whole K mode (token kind at ∷ here) → InExpression mode → Stands whole s' here
  stood_expression kind at K m.Start h o i = stood_starts kind at K h o
  stood_expression kind at K (m.Named x before) h o i = stood_named kind at x before K h o
  stood_expression kind at K (m.After x) h o i = stood_follows kind at x K o.0 h o.1 o.2
  stood_expression kind at K (m.Cast p x) h o i = stood_cast kind at p x K o.0 h o.1 o.2 o.3
  stood_expression kind at K (m.Typed x) h o i = stood_ends kind at (held x K) h (record { from = o.0; opened = o.1; upto = o.2; under = o.3 })
  stood_expression k.Dot at K (m.Outer whose p) h o i = gives whole here h (at, o)
  stood_expression _ at K (m.Outer whose p) h o i = none h
  stood_expression (k.Lower x) at K (m.OuterName whose p) h o i = stood_located whose x p o.0 at K h o.1
  stood_expression _ at K (m.OuterName whose p) h o i = none h
  stood_expression kind at K _ h o i = absurd i
