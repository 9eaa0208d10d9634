-- How many operators the open expression has behind a token: ends of parts, and expressions.
use Rattle.std.proofs.Common.{◌≡◌, refl, subst, ℕ, ◌+◌, arith, Bool, true, false, List, [], ◌∷◌, ◌++◌, Option, Some, None, if◌then◌else◌, nat_lt}
use Rattle.std.specs.Prelude.{is_some}
use denote.Hole.Carrier
use Rattle.ceu_base.specs.declared.kinds.Pos.{Pos}
use Rattle.ceu_base.specs.declared.kinds.Op1.{Op1}
use Rattle.ceu_base.specs.declared.kinds.Op2.{Op2}
use Rattle.ceu_base.specs.declared.kinds.Ty.{Ty}
use Rattle.ceu_tree.specs.declared.source.Ident.{Ident}
use Rattle.ceu_tree.specs.declared.source.Exp.{Exp}
use Rattle.ceu_tree.specs.declared.source.ExpNode.TheBlock.{hidden-the_row-Exp-0}
use Rattle.ceu_tree.specs.declared.source.Target.{Target}
use Rattle.ceu_tree.specs.declared.source.Target.TheVariants as target
use Rattle.ceu_tree.specs.declared.source.Await.TheVariants as wait
use Rattle.ceu_tree.specs.declared.source.Do.{Do}
use Rattle.ceu_tree.specs.declared.source.Source.{Source}
use Rattle.ceu_tree.specs.declared.source.Source as source
use Rattle.ceu_tree.specs.declared.source.Stmt.{Stmt}
use Rattle.ceu_tree.specs.declared.source.Stmt as stmt
use Rattle.ceu_syntax.specs.declared.terminal.Kind.{Kind}
use Rattle.ceu_syntax.specs.declared.terminal.Kind.TheVariants as k
use Rattle.ceu_syntax.specs.declared.machine.Frame.{Frame}
use Rattle.ceu_syntax.specs.declared.machine.Frame.TheVariants as f
use Rattle.ceu_syntax.specs.declared.machine.Owner.{Owner}
use Rattle.ceu_syntax.specs.declared.machine.Owner.TheVariants as owner
use Rattle.ceu_syntax.specs.declared.machine.Act.{Act}
use Rattle.ceu_syntax.specs.declared.machine.Act.TheVariants as act
use Rattle.ceu_syntax.specs.declared.machine.Mode.TheVariants as m
use Rattle.ceu_syntax.specs.Counts.{counted, in_expression, is_operator, so_far}
use Rattle.ceu_syntax.specs.Limits.{last_operators, open_operators, operator_count, operators, node_operators, with_open}
use Rattle.ceu_syntax.specs.Steps as spec
use Rattle.ceu_syntax.specs.Steps.{State, held, reduce}
use Rattle.ceu_syntax.specs.Terminals.{binary_of, prefix_of, level}
use Rattle.ceu_syntax.specs.Trees.{ident, outer, number, truth, variable, alive, one, two, cast, item}

-- The number behind a token, where some state is: n is the one before it.
abbrev pub Counted : Kind → ℕ → Option State → Type 0
Counted kind n None = Unit {0}
Counted kind n (Some u) = operator_count u ≡ counted (in_expression u.mode) kind n

-- No expression is open behind the token.
abbrev pub Outside : Option State → Type 0
Outside None = Unit {0}
Outside (Some u) = last_operators u.mode ≡ None

pub outside : (kind : Kind) (n : ℕ) (x : Option State) → Outside x → Counted kind n x
outside kind n None h = tt
outside kind n (Some u) h = go (last_operators u.mode) h
  where
    go : (x : Option ℕ) → x ≡ None → with_open x u.stack ≡ counted (is_some x) kind n
    go None e = refl
    go (Some i) e = absurd (cc)

-- ---- operators of expressions

operators-two : (op : Op2) (at : Pos) (x y : Exp) → operators (two op at x y) ≡ operators x + operators y + 1
unfolding operators node_operators hidden-the_row-Exp-0 Carrier.hidden
operators-two op at x y = refl

operators-one : (op : Op1) (at : Pos) (x : Exp) → operators (one op at x) ≡ operators x + 1
unfolding operators node_operators hidden-the_row-Exp-0 Carrier.hidden
operators-one op at x = refl

operators-cast : (at : Pos) (x : Exp) (t : Ty) → operators (cast at x t) ≡ operators x + 1
unfolding operators node_operators hidden-the_row-Exp-0 Carrier.hidden
operators-cast at x t = refl

operators-number : (n : ℕ) (at : Pos) → operators (number n at) ≡ 0
unfolding operators node_operators
operators-number n at = refl

operators-truth : (b : Bool) (at : Pos) → operators (truth b at) ≡ 0
unfolding operators node_operators
operators-truth b at = refl

operators-variable : (x : Ident) → operators (variable x) ≡ 0
unfolding operators node_operators
operators-variable x = refl

operators-alive : (x : Ident) (at : Pos) → operators (alive x at) ≡ 1
unfolding operators node_operators
operators-alive x at = refl

pub reduce-operators : (p : ℕ) (x : Exp) (K : List Frame) → open_operators (reduce p x K).stack + operators (reduce p x K).e ≡ open_operators K + operators x
unfolding open_operators
reduce-operators p x [] = refl
reduce-operators p x (f.Binary op at y ∷ K) = go (nat_lt (level op) p) (reduce-operators p (two op at y x) K)
  where
    go : (b : Bool) → open_operators (reduce p (two op at y x) K).stack + operators (reduce p (two op at y x) K).e ≡ open_operators K + operators (two op at y x) →
        open_operators (if b then held x (f.Binary op at y ∷ K) else reduce p (two op at y x) K).stack + operators (if b then held x (f.Binary op at y ∷ K) else reduce p (two op at y x) K).e
        ≡ open_operators K + operators y + 1 + operators x
    go true h = refl
    go false h = omega (arith, h, operators-two op at y x)
reduce-operators p x (f.Prefix op at ∷ K) = omega (arith, reduce-operators p (one op at x) K, operators-one op at x)
reduce-operators p x (_ ∷ K) = refl

-- ---- tables

prefix_operator : (kind : Kind) (op : Op1) → prefix_of kind ≡ Some op → is_operator kind ≡ true
prefix_operator k.Not op h = refl
prefix_operator k.Minus op h = refl
prefix_operator k.Tilde op h = refl
prefix_operator _ op h = absurd (cc)

prefix_same : (kind : Kind) (op : Op1) (n : ℕ) → prefix_of kind ≡ Some op → so_far kind n ≡ n
prefix_same k.Comma op n h = absurd (cc)
prefix_same k.Arrow op n h = absurd (cc)
prefix_same _ op n h = refl

some_is : {A : Type 0} (x : Option A) (y : A) → x ≡ Some y → is_some x ≡ true
some_is None y h = absurd (cc)
some_is (Some z) y h = refl

binary_operator : (kind : Kind) (op : Op2) → binary_of kind ≡ Some op → is_operator kind ≡ true
binary_operator k.As op h = refl
binary_operator k.Question op h = refl
binary_operator k.Not op h = refl
binary_operator k.Tilde op h = refl
binary_operator kind op h = some_is (binary_of kind) op h

binary_same : (kind : Kind) (op : Op2) (n : ℕ) → binary_of kind ≡ Some op → so_far kind n ≡ n
binary_same k.Comma op n h = absurd (cc)
binary_same k.Arrow op n h = absurd (cc)
binary_same _ op n h = refl

-- an operator is one more
one_more : (kind : Kind) (n i : ℕ) → is_operator kind ≡ true → so_far kind n ≡ n → i ≡ n + 1 → i ≡ counted true kind n
one_more kind n i marked same h = go (is_operator kind) (so_far kind n) marked same
  where
    go : (b : Bool) (j : ℕ) → b ≡ true → j ≡ n → i ≡ j + (if b then 1 else 0)
    go true j e s = omega arith
    go false j e s = absurd (cc)

-- ---- the end of a part

pub closed_out : (x : Stmt) (K : List Frame) → Outside (spec.closed x K)
closed_out x [] = tt
closed_out x (f.Begun ns at ∷ K) = refl
closed_out x (_ ∷ K) = tt

semicolon_out : (x : Source) (K : List Frame) → Outside (spec.source_semicolon x K)
semicolon_out x [] = tt
semicolon_out x (f.Store y ∷ K) = closed_out (stmt.Assign y x) K
semicolon_out x (f.Initial t is y ∷ K) = closed_out (stmt.Vars t (is ++ item y (Some x) ∷ [])) K
semicolon_out x (_ ∷ K) = tt

pub comma_out : (x : Source) (K : List Frame) → Outside (spec.source_comma x K)
comma_out x [] = tt
comma_out x (f.Initial t is y ∷ K) = refl
comma_out x (_ ∷ K) = tt

alias_out : (x : Act) (code y : Ident) (K : List Frame) → Outside (spec.alias_semicolon x code y K)
alias_out (act.Start s) code y K = closed_out (stmt.AliasDecl code y (Some s)) K
alias_out (act.Wait w) code y K = tt

pub act_out : (x : Act) (K : List Frame) → Outside (spec.act_semicolon x K)
act_out x [] = tt
act_out x (f.Begun ns at ∷ K) = refl
act_out x (f.Alias code y ∷ K) = alias_out x code y K
act_out x (frame ∷ K) = semicolon_out (spec.source_of x) (frame ∷ K)

pub do_out : (x : Do) (K : List Frame) → Outside (spec.do_end x K)
do_out x [] = tt
do_out x (f.Begun ns at ∷ K) = refl
do_out x (f.Store y ∷ K) = closed_out (stmt.Assign y (source.Done x)) K
do_out x (f.Initial t is y ∷ K) = refl
do_out x (_ ∷ K) = tt

pub called_out : (code : Ident) (es : List Exp) (K : List Frame) → Outside (spec.called code es K)
called_out code es [] = refl
called_out code es (f.Spawn at ∷ K) = refl
called_out code es (_ ∷ K) = refl

pub aimed_out : (t : Target) (K : List Frame) → Outside (spec.aimed t K)
aimed_out t [] = refl
aimed_out t (f.Every x ∷ K) = refl
aimed_out t (f.Watching ∷ K) = refl
aimed_out t (_ ∷ K) = refl

-- ---- expressions

module _ (at : Pos) where
  operand_count : (kind : Kind) (K : List Frame) → Counted kind (open_operators K + 0) (spec.operand kind at K)
  unfolding open_operators
  operand_count (k.Number n) K = omega (arith, operators-number n at)
  operand_count (k.Lower x) K = omega arith
  operand_count (k.Truth b) K = omega (arith, operators-truth b at)
  operand_count k.Outer K = omega arith
  operand_count k.OpenParen K = omega arith
  operand_count _ K = tt

  pub starts_count : (kind : Kind) (K : List Frame) → Counted kind (open_operators K + 0) (spec.starts kind at K)
  unfolding open_operators
  starts_count kind K = go (prefix_of kind) refl
    where
      go : (x : Option Op1) → prefix_of kind ≡ x → Counted kind (open_operators K + 0) (spec.starts_with x kind at K)
      go None h = operand_count kind K
      go (Some op) h = one_more kind (open_operators K + 0) (open_operators K + 1 + 0) (prefix_operator kind op h) (prefix_same kind op (open_operators K + 0) h) (omega arith)

  paren_count : (e : Exp) (K : List Frame) → Counted k.CloseParen (open_operators K + operators e) (spec.ends_paren e K)
  unfolding open_operators
  paren_count e [] = tt
  paren_count e (f.Paren p ∷ K) = omega arith
  paren_count e (f.Arguments code es ∷ K) = outside k.CloseParen (open_operators (f.Arguments code es ∷ K) + operators e) (spec.called code (es ++ e ∷ []) K) (called_out code (es ++ e ∷ []) K)
  paren_count e (f.Emit x ∷ K) = refl
  paren_count e (f.Time ∷ K) = refl
  paren_count e (_ ∷ K) = tt

  semicolon_count : (e : Exp) (n : ℕ) (K : List Frame) → Counted k.Semicolon n (spec.ends_semicolon e K)
  semicolon_count e n [] = tt
  semicolon_count e n (f.Until t ∷ K) = outside k.Semicolon n (spec.act_semicolon (act.Wait (wait.On t (Some e))) K) (act_out (act.Wait (wait.On t (Some e))) K)
  semicolon_count e n (f.Escape x ∷ K) = outside k.Semicolon n (spec.closed (stmt.Escape x (Some e)) K) (closed_out (stmt.Escape x (Some e)) K)
  semicolon_count e n (frame ∷ K) = outside k.Semicolon n (spec.source_semicolon (source.Value e) (frame ∷ K)) (semicolon_out (source.Value e) (frame ∷ K))

  comma_count : (e : Exp) (n : ℕ) (K : List Frame) → Counted k.Comma n (spec.ends_comma e K)
  unfolding open_operators
  comma_count e n [] = tt
  comma_count e n (f.Arguments code es ∷ K) = refl
  comma_count e n (f.Until t ∷ K) = outside k.Comma n (spec.source_comma (source.Wait (wait.On t (Some e))) K) (comma_out (source.Wait (wait.On t (Some e))) K)
  comma_count e n (frame ∷ K) = outside k.Comma n (spec.source_comma (source.Value e) (frame ∷ K)) (comma_out (source.Value e) (frame ∷ K))

  condition_count : (e : Exp) (n : ℕ) (K : List Frame) → Counted k.Then n (spec.ends_condition e K)
  condition_count e n [] = tt
  condition_count e n (f.Condition arms ∷ K) = refl
  condition_count e n (_ ∷ K) = tt

  arrow_count : (e : Exp) (n : ℕ) (K : List Frame) → Counted k.Arrow n (spec.ends_arrow e K)
  unfolding open_operators
  arrow_count e n [] = tt
  arrow_count e n (f.RangeFrom x b ∷ K) = refl
  arrow_count e n (_ ∷ K) = tt

  bracket_out : (b : Bool) (e : Exp) (K : List Frame) → Outside (spec.ends_bracket b e K)
  bracket_out b e [] = tt
  bracket_out b e (f.RangeTo x y z ∷ K) = refl
  bracket_out b e (_ ∷ K) = tt

  pub ends_count : (kind : Kind) (e : Exp) (K : List Frame) → Counted kind (open_operators K + operators e) (spec.ends kind at (held e K))
  ends_count k.As e K = omega arith
  ends_count k.Then e K = condition_count e (open_operators K + operators e) K
  ends_count k.CloseParen e K = paren_count e K
  ends_count k.Semicolon e K = semicolon_count e (open_operators K + operators e) K
  ends_count k.Comma e K = comma_count e (open_operators K + operators e) K
  ends_count k.Arrow e K = arrow_count e (open_operators K + operators e) K
  ends_count k.CloseBracket e K = outside k.CloseBracket (open_operators K + operators e) (spec.ends_bracket false e K) (bracket_out false e K)
  ends_count k.OpenBracket e K = outside k.OpenBracket (open_operators K + operators e) (spec.ends_bracket true e K) (bracket_out true e K)
  ends_count _ e K = tt

  pub follows_count : (kind : Kind) (x : Exp) (K : List Frame) → Counted kind (open_operators K + operators x) (spec.follows kind at x K)
  unfolding open_operators
  follows_count kind x K = go (binary_of kind) refl
    where
      go : (y : Option Op2) → binary_of kind ≡ y → Counted kind (open_operators K + operators x) (spec.follows_with y kind at x K)
      go None h = subst (λ n. Counted kind n (spec.ends kind at (reduce 0 x K))) (reduce-operators 0 x K) (ends_count kind (reduce 0 x K).e (reduce 0 x K).stack)
      go (Some op) h = one_more kind (open_operators K + operators x) (open_operators (reduce (level op) x K).stack + operators (reduce (level op) x K).e + 1 + 0)
          (binary_operator kind op h) (binary_same kind op (open_operators K + operators x) h) (omega (arith, reduce-operators (level op) x K))

  -- a name, a type, `outer`
  pub named_count : (kind : Kind) (x : List ℕ) (before : Pos) (K : List Frame) → Counted kind (open_operators K + 0) (spec.of_named kind at x before K)
  named_count k.Question x before K = omega (arith, operators-alive (ident x before) at)
  named_count kind x before K = subst (λ n. Counted kind (open_operators K + n) (spec.of_named kind at x before K)) (operators-variable (ident x before)) (follows_count kind (variable (ident x before)) K)

  pub cast_count : (kind : Kind) (x : Exp) (K : List Frame) → Counted kind (open_operators K + (operators x + 1)) (spec.of_cast kind at x K)
  cast_count (k.Type t) x K = omega (arith, operators-cast at x t)
  cast_count _ x K = tt

  pub outer_count : (kind : Kind) (whose : Owner) (K : List Frame) → Counted kind (with_open (last_operators (m.Outer whose at)) K) (spec.of_outer kind whose at K)
  outer_count k.Dot owner.Operand K = omega arith
  outer_count k.Dot owner.Store K = refl
  outer_count k.Dot owner.Emit K = refl
  outer_count k.Dot owner.Target K = refl
  outer_count k.Dot owner.Every K = refl
  outer_count _ whose K = tt

  pub outer_name_count : (kind : Kind) (whose : Owner) (K : List Frame) → Counted kind (with_open (last_operators (m.OuterName whose at)) K) (spec.of_outer_name kind whose at K)
  outer_name_count (k.Lower x) owner.Operand K = omega (arith, operators-variable (outer x at))
  outer_name_count (k.Lower x) owner.Store K = refl
  outer_name_count (k.Lower x) owner.Emit K = refl
  outer_name_count (k.Lower x) owner.Target K = outside (k.Lower x) 0 (spec.aimed (target.Event (outer x at)) K) (aimed_out (target.Event (outer x at)) K)
  outer_name_count (k.Lower x) owner.Every K = refl
  outer_name_count _ whose K = tt
