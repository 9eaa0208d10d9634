-- Lists of names and parameters, and the word behind `par`.
use Rattle.std.specs.Prelude.{ℕ, List, [], ◌∷◌}
use Rattle.ceu_base.specs.declared.kinds.Pos.{Pos}
use Rattle.ceu_base.specs.declared.kinds.Ty.{Ty}
use Rattle.ceu_base.specs.declared.kinds.Ty.TheVariants as ty
use Rattle.ceu_syntax.specs.declared.terminal.Kind.TheVariants as k
use Rattle.ceu_tree.specs.declared.kernel.ParKind.{ParKind}
use Rattle.ceu_tree.specs.declared.kernel.ParKind.TheVariants as par
use Rattle.ceu_tree.specs.declared.source.Ident.{Ident}
use Rattle.ceu_tree.specs.declared.source.Param.{Param}
use Rattle.ceu_syntax.specs.declared.machine.Case.{Case}
use Rattle.ceu_syntax.specs.declared.machine.Case.TheVariants as case
use Rattle.ceu_syntax.specs.declared.terminal.Terminal.{Terminal}
use Rattle.ceu_syntax.specs.Expressions.{Location}
use Rattle.ceu_syntax.specs.Terminals.{token, lower, ext}
use Rattle.ceu_syntax.specs.Trees.{ident, param}

abbrev pub named : Case → List ℕ → Pos → Terminal
named case.Lower x at = lower x at
named case.Upper x at = ext x at

-- Lower { , Lower }, Ext { , Ext }
pub data Names : Case → List Terminal → List Ident → List Terminal → Type 0 where
  last_name : {c : Case} (x : List ℕ) (at : Pos) (rest : List Terminal) → Names c (named c x at ∷ rest) (ident x at ∷ []) rest
  one_name : {c : Case} {tokens : List Terminal} {xs : List Ident} {rest : List Terminal} (x : List ℕ) (at comma : Pos) →
      Names c tokens xs rest → Names c (named c x at ∷ token k.Comma comma ∷ tokens) (ident x at ∷ xs) rest

-- The names that an async shares: nothing, ( ), ( Lower { , Lower } )
pub data Shares : List Terminal → List Ident → List Terminal → Type 0 where
  no_list : (rest : List Terminal) → Shares rest [] rest
  empty_list : (paren close : Pos) (rest : List Terminal) → Shares (token k.OpenParen paren ∷ token k.CloseParen close ∷ rest) [] rest
  shared : {tokens : List Terminal} {xs : List Ident} {rest : List Terminal} (paren close : Pos) →
      Names case.Lower tokens xs (token k.CloseParen close ∷ rest) → Shares (token k.OpenParen paren ∷ tokens) xs rest

-- var type Lower { , var type Lower } )
pub data ParamList : List Terminal → List Param → List Terminal → Type 0 where
  last_param : (ty : Ty) (x : List ℕ) (at of name close : Pos) (rest : List Terminal) →
      ParamList (token k.Var at ∷ token (k.Type ty) of ∷ lower x name ∷ token k.CloseParen close ∷ rest) (param ty (ident x name) ∷ []) rest
  one_param : {tokens : List Terminal} {ps : List Param} {rest : List Terminal} (ty : Ty) (x : List ℕ) (at of name comma : Pos) →
      ParamList tokens ps rest → ParamList (token k.Var at ∷ token (k.Type ty) of ∷ lower x name ∷ token k.Comma comma ∷ tokens) (param ty (ident x name) ∷ ps) rest

-- [ none | void | params ] )
pub data Params : List Terminal → List Param → List Terminal → Type 0 where
  no_params : (close : Pos) (rest : List Terminal) → Params (token k.CloseParen close ∷ rest) [] rest
  none_params : (at close : Pos) (rest : List Terminal) → Params (token (k.Type ty.None) at ∷ token k.CloseParen close ∷ rest) [] rest
  some_params : {tokens : List Terminal} {ps : List Param} {rest : List Terminal} → ParamList tokens ps rest → Params tokens ps rest

-- [ / ( or | and ) ]
pub data Pars : List Terminal → ParKind → List Terminal → Type 0 where
  is_never : (rest : List Terminal) → Pars rest par.Never rest
  is_or : (slash at : Pos) (rest : List Terminal) → Pars (token k.Slash slash ∷ token k.Or at ∷ rest) par.Or rest
  is_and : (slash at : Pos) (rest : List Terminal) → Pars (token k.Slash slash ∷ token k.And at ∷ rest) par.And rest

-- Ext, loc
pub data Emits : List Terminal → Ident → List Terminal → Type 0 where
  emits_output : (x : List ℕ) (at : Pos) (rest : List Terminal) → Emits (ext x at ∷ rest) (ident x at) rest
  emits_event : {tokens : List Terminal} {x : Ident} {rest : List Terminal} → Location tokens x rest → Emits tokens x rest
