-- Expressions, calls, awaits, emissions, escapes: the walk through types beside the draft, with the types of expressions.
use Rattle.std.proofs.Common.{◌≡◌, refl, sym, ap, ◌∙◌, subst, ℕ, ◌+◌, List, [], ◌∷◌, Option, Some, None, Bool, true, false}
use Rattle.std.specs.Prelude.{if◌then◌else◌}
use Rattle.ceu_base.specs.declared.kinds.Ty.{Ty}
use Rattle.ceu_base.specs.declared.kinds.Ty.TheVariants as ty
use Rattle.ceu_base.specs.declared.kinds.Pos.{Pos}
use Rattle.ceu_base.specs.declared.kinds.Op1.{Op1}
use Rattle.ceu_base.specs.declared.kinds.Op1.TheVariants as op1
use Rattle.ceu_tree.specs.declared.source.Ident.{Ident}
use Rattle.ceu_tree.specs.declared.source.Call.{Call}
use Rattle.ceu_tree.specs.declared.source.Spawn.{Spawn}
use Rattle.ceu_tree.specs.declared.source.Target.{Target}
use Rattle.ceu_tree.specs.declared.source.Target.TheVariants as target
use Rattle.ceu_tree.specs.declared.source.Exp.{Exp}
use Rattle.ceu_tree.specs.declared.source.ExpNode as exp
use Rattle.ceu_tree.specs.declared.source.ExpNode.{ExpNode, Row_of-Exp, end_of-Exp, more_of-Exp, One', Two', As'}
use Rattle.ceu_scopes.specs.declared.known.Scopes.{Scopes}
use Rattle.ceu_types.specs.declared.typing.Types.{Types}
use Rattle.ceu_types.specs.declared.found.Found.{Found}
use Rattle.ceu_types.specs.Notes.{asks, asks_own, typed, passed, not_in_async, not_in_finalizer}
use Rattle.ceu_types.specs.Expressions.{row_negated, literal_or, literal_found, node_found, row_found, exp_found, given, condition, time}
use Rattle.ceu_types.specs.Uses.{is_output_use}
use Rattle.ceu_types.specs.Around as found_around
use Rattle.ceu_types.specs.Statements.{if_given, arguments_found, call_found, spawn_found, target_found, taken, acts, emitted, emit_found, escape_found, name_typed, uses_passed, every_takes}
use Rattle.ceu_types.specs.declared.around.Around as types_around
use Rattle.ceu_types.specs.Typing.{is_none_type, holds}
use Rattle.ceu_expand.specs.declared.draft.Draft.{Draft}
use Rattle.ceu_expand.specs.Lists.{each}
use Rattle.ceu_expand.specs.Uses.{used, if_used}
use Rattle.ceu_expand.specs.Expressions as written
use Rattle.ceu_expand.specs.Expressions.{exp_passed, if_exp_passed, node_passed, row_passed}
use Rattle.ceu_expand.specs.Parts.{target_passed, name_passed}
use Rattle.laws_kernel_names.proofs.Stepping.{length_more}
use Rattle.laws_kernel_shape.proofs.Beside as Below
use Rattle.laws_kernel_types.proofs.Noting.{Step, prefix_less, none_step, step_then, used_step, note_step, asks_step, own_step, acts_step, finalizer_step, async_step}

module _ (s : Scopes) (t : Types) where
  -- ---- expressions

  -- a literal behind a prefix `-`: both are noted
  literal_step : (p : Pos) (b : Bool) (u : Ty) (f : Found) (d : Draft) → Step s t f d (literal_found p b u f) (written.typed d)
  unfolding literal_found
  literal_step p b u f d = step_then s t (asks_step s t b _ p f d) (note_step s t u (asks b _ p f) d)

  literal_row : {n : _} (op : Op1) (a : Row_of-Exp n) (k : ℕ) → row_negated op a ≡ Some k → (d : Draft) → row_passed a d ≡ written.typed d
  unfolding node_passed
  literal_row op1.Neg (more_of-Exp p (exp.Number m) rest) k e d = refl
  literal_row op end_of-Exp k e d = absurd (cc)
  literal_row op (more_of-Exp p x rest) k e d = absurd (cc)

  -- the rest of a prefix
  prefix_step : {n : _} (op : Op1) (a : Row_of-Exp n) (r : Option ℕ) → row_negated op a ≡ r → (literal : ℕ → Found) (f other : Found) (d : Draft) →
      ((k : ℕ) → Step s t f d (literal k) (written.typed (written.typed d))) → Step s t f d other (row_passed a (written.typed d)) →
      Step s t f d (literal_or r literal other) (row_passed a (written.typed d))
  prefix_step op a None e literal f other d one two = two
  prefix_step op a (Some k) e literal f other d one two = subst (λ c. Step s t f d (literal k) c) (sym (literal_row op a k e (written.typed d))) (one k)

  variable_step : (x : Ident) (u : Ty) (f : Found) (d : Draft) → Step s t f d (typed u (passed s f)) (used (written.typed d))
  unfolding typed passed used written.typed
  variable_step x u f d =
      let under = Below.step_then s (Below.typed_step s f d) (Below.step_then s (Below.used_step s f (written.typed d)) (Below.type_step s u (passed s f) (used (written.typed d)))) in
      record { under = under; grows = λ h. prefix_less f.types (u ∷ []) t.exps h; counts = λ h. length_more f.types u ∙ ap (λ n. n + 1) h }

  mutual
    unfolding node_found node_passed

    pub node_step : (e : ExpNode) (p : Pos) (w : Ty) (f : Found) (d : Draft) → Step s t f d (node_found s e p w f) (node_passed e d)
    node_step (exp.Number n) p w f d = literal_step p _ _ f d
    node_step (exp.Bool b) p w f d = note_step s t ty.Bool f d
    node_step (exp.Var x) p w f d = variable_step x _ f d
    node_step (exp.Alive x) p w f d = variable_step x ty.Bool f d
    node_step (One' op _ a) p w f d =
        prefix_step op a (row_negated op a) refl _ f _ d (λ k. step_then s t (literal_step p _ _ f d) (note_step s t _ _ (written.typed d)))
        (step_then s t (asks_step s t _ _ p f d) (step_then s t (note_step s t _ (asks _ _ p f) d) (row_step a _ _ (written.typed d))))
    node_step (Two' op _ a _ b) p w f d =
        step_then s t (asks_step s t _ _ p f d) (step_then s t (note_step s t _ (asks _ _ p f) d)
        (step_then s t (row_step a _ _ (written.typed d)) (row_step b _ _ (row_passed a (written.typed d)))))
    node_step (As' _ a u) p w f d =
        step_then s t (asks_step s t _ _ p f d) (step_then s t (note_step s t u (asks _ _ p f) d) (row_step a ty.S32 _ (written.typed d)))

    pub row_step : {n : _} (r : Row_of-Exp n) (w : Ty) (f : Found) (d : Draft) → Step s t f d (row_found s r w f) (row_passed r d)
    row_step end_of-Exp w f d = none_step s t f d
    row_step (more_of-Exp p e rest) w f d = node_step e p w f d

  pub exp_step : (e : Exp) (w : Ty) (f : Found) (d : Draft) → Step s t f d (exp_found s e w f) (exp_passed e d)
  exp_step e w f d = node_step e.node e.pos w f d

  pub given_step : (e : Exp) (u : Ty) (f : Found) (d : Draft) → Step s t f d (given s e u f) (exp_passed e d)
  unfolding given
  given_step e u f d = step_then s t (asks_step s t _ _ e.pos f d) (exp_step e u (asks _ _ e.pos f) d)

  pub condition_step : (e : Exp) (f : Found) (d : Draft) → Step s t f d (condition s e f) (exp_passed e d)
  unfolding condition
  condition_step e f d = step_then s t (asks_step s t _ _ e.pos f d) (exp_step e ty.Bool (asks _ _ e.pos f) d)

  pub time_step : (e : Exp) (f : Found) (d : Draft) → Step s t f d (time s e f) (exp_passed e d)
  unfolding time
  time_step e f d = step_then s t (asks_step s t _ _ e.pos f d) (exp_step e ty.S32 (asks _ _ e.pos f) d)

  pub if_given_step : (e : Option Exp) (u : Ty) (f : Found) (d : Draft) → Step s t f d (if_given s e u f) (if_exp_passed e d)
  if_given_step None u f d = none_step s t f d
  if_given_step (Some e) u f d = given_step e u f d

  -- ---- calls, spawns, awaits

  pub arguments_step : (code i : ℕ) (es : List Exp) (f : Found) (d : Draft) → Step s t f d (arguments_found s code i es f) (each exp_passed es d)
  unfolding each
  arguments_step code i [] f d = none_step s t f d
  arguments_step code i (e ∷ es) f d = step_then s t (given_step e _ f d) (arguments_step code (i + 1) es (given s e _ f) (exp_passed e d))

  -- the arguments stand behind the code's name
  pub call_step : (c : Call) (f : Found) (d : Draft) → Step s t f d (call_found s c f) (each exp_passed c.args (used d))
  unfolding call_found
  call_step c f d =
      step_then s t (own_step s t _ _ f d) (step_then s t (used_step s t (asks_own _ _ f) d) (arguments_step f.names 0 c.args (passed s (asks_own _ _ f)) (used d)))

  pub spawn_step : (x : Spawn) (f : Found) (d : Draft) → Step s t f d (spawn_found s x f) (used (each exp_passed x.call.args (used d)))
  unfolding spawn_found
  spawn_step x f d =
      step_then s t (finalizer_step s t f d) (step_then s t (async_step s t (not_in_finalizer f) d)
      (step_then s t (call_step x.call (not_in_async (not_in_finalizer f)) d) (used_step s t _ (each exp_passed x.call.args (used d)))))

  pub target_step : (x : Target) (f : Found) (d : Draft) → Step s t f d (target_found s x f) (target_passed x d)
  unfolding target_found target_passed
  target_step (target.Ext x) f d = used_step s t f d
  target_step (target.Event x) f d = used_step s t f d
  target_step (target.Time us) f d = none_step s t f d
  target_step (target.TimeExp e u) f d = time_step e f d

  by_none : (b : Bool) (f g h : Found) (d : Draft) → Step s t f d g d → Step s t f d h d → Step s t f d (if b then g else h) d
  by_none true f g h d a c = a
  by_none false f g h d a c = c

  pub taken_step : (u value : Ty) (f : Found) (d : Draft) → Step s t f d (taken u value f) d
  unfolding taken
  taken_step u value f d = by_none (is_none_type value) f _ _ d (own_step s t false _ f d) (own_step s t (holds u value) _ f d)

  -- ---- emissions, escapes, names

  pub emitted_step : (f : Found) (d : Draft) → Step s t f d (emitted s f) d
  emitted_step f d = by_none (is_output_use s f.names) f (not_in_async f) (acts f) d (async_step s t f d) (acts_step s t f d)

  pub typed_name_step : (u : Ty) (x : Ident) (f : Found) (d : Draft) → Step s t f d (name_typed u x f) d
  unfolding name_typed
  typed_name_step u x f d = asks_step s t _ _ x.pos f d

  pub emit_step : (e : Option Exp) (f : Found) (d : Draft) → Step s t f d (emit_found s e f) (if_exp_passed e (used d))
  unfolding emit_found
  emit_step e f d =
      step_then s t (emitted_step f d) (step_then s t (own_step s t _ _ (emitted s f) d) (step_then s t (used_step s t (asks_own _ _ (emitted s f)) d) (if_given_step e _ (passed s (asks_own _ _ (emitted s f))) (used d))))

  pub jumped_step : (a : types_around.Around) (f : Found) (d : Draft) → Step s t f d (found_around.jumped a f) d
  unfolding found_around.jumped
  jumped_step a f d = by_none a.in_loop f f _ d (none_step s t f d) (step_then s t (own_step s t false _ f d) (async_step s t (asks_own false _ f) d))

  pub left_step : (u : Option Ty) (e : Option Exp) (f : Found) (d : Draft) → Step s t f d (found_around.escaped u e f) d
  unfolding found_around.escaped
  left_step None e f d = step_then s t (own_step s t false _ f d) (async_step s t (asks_own false _ f) d)
  left_step (Some u) e f d = own_step s t _ _ f d

  pub escape_step : (a : types_around.Around) (l : Option Ident) (e : Option Exp) (f : Found) (d : Draft) → Step s t f d (escape_found s a l e f) (if_exp_passed e d)
  unfolding escape_found
  escape_step a l e f d =
      step_then s t (finalizer_step s t f d) (step_then s t (left_step _ e (not_in_finalizer f) d) (if_given_step e _ (found_around.escaped _ e (not_in_finalizer f)) d))

  pub names_step : (xs : List Ident) (f : Found) (d : Draft) → Step s t f d (uses_passed s xs f) (each name_passed xs d)
  unfolding each
  names_step [] f d = none_step s t f d
  names_step (x ∷ xs) f d = step_then s t (used_step s t f d) (names_step xs (passed s f) (used d))

  pub every_step : (x : Option Ident) (u : Target) (f : Found) (d : Draft) → Step s t f d (every_takes s x u f) (if_used x d)
  every_step None u f d = none_step s t f d
  every_step (Some x) u f d = step_then s t (taken_step _ _ f d) (used_step s t (taken _ _ f) d)
