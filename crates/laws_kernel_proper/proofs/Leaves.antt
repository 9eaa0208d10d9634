-- Expressions that name what is visible have the types that they are given.
use Rattle.std.proofs.Common.{◌≡◌, refl, ap, ◌∙◌, List, [], ◌∷◌, Option, Some, None, Bool, true, false}
use Rattle.std.specs.Prelude.{◌&&◌, if◌then◌else◌}
use Rattle.ceu_base.specs.declared.kinds.Ty.{Ty}
use Rattle.ceu_tree.specs.declared.kernel.Kernel.{Kernel}
use Rattle.ceu_tree.specs.declared.kernel.KDecl.{KDecl}
use Rattle.ceu_tree.specs.declared.kernel.KKind.{KKind}
use Rattle.ceu_tree.specs.declared.kernel.KKind.TheVariants as kind
use Rattle.ceu_tree.specs.declared.kernel.Loc.{Loc}
use Rattle.ceu_tree.specs.declared.kernel.KExp.{KExp}
use Rattle.ceu_tree.specs.declared.kernel.KExpNode.{KExpNode, Row_of-KExp, end_of-KExp, more_of-KExp, Const, Read, Alive, One', Two', As'}
use Rattle.ceu_tree.specs.declared.kernel.KBlock.{out-KBlock}
use Rattle.ceu_tree.specs.Proper.{Scope, is_in_code, declared_seen, find, variable_ty, has_ty, reads, asks, gives, gives_if, gives_all}
use Rattle.laws_kernel_shape.specs.Shaped.{AllOf}
use Rattle.laws_kernel_names.specs.Sees.{LocSeen, NodeSeen, ExpSeen, OperandSeen}
use Rattle.laws_kernel_names.specs.Sees as sees
use Rattle.laws_kernel_types.specs.Typed.{LeavesOk, OperandOk, ExpGiven, MaybeGiven, ArgGiven, ArgsGiven}
use Rattle.laws_kernel_uses.specs.Named.{LocNamed, NodeNamed, OperandNamed, ExpNamed}
use Rattle.laws_kernel_uses.specs.Named as named

pub both : {a b : Bool} → a ≡ true → b ≡ true → (a && b) ≡ true
both {a = a} {b = b} h k = by_test a h
  where
    by_test : (c : Bool) → c ≡ true → (c && b) ≡ true
    by_test true e = k
    by_test false e = e

-- the scope but for the targets of exits
abbrev pub bare : Scope → Scope
bare sc = record sc { aims = [] }

module _ (K : Kernel) (sc : Scope) where
  pub loc_reads : (l : Loc) → LocSeen sc.seen l → LocNamed K (bare sc) l → reads K sc l ≡ true
  loc_reads l h k = by_outer l.outer refl
    where
      by_outer : (b : Bool) → l.outer ≡ b → reads K sc l ≡ true
      by_outer true e = k e
      by_outer false e = ap (λ b. has_ty (variable_ty (if b then (if is_in_code sc.code then find l.slot (declared_seen [] (out-KBlock K.body).decls []) else None) else find l.slot sc.seen)) l.ty) e ∙ h e

  mutual
    unfolding LeavesOk NodeSeen NodeNamed

    leaves_ok : (e : KExpNode) → NodeSeen sc.seen e → NodeNamed K (bare sc) e → LeavesOk (reads K sc) (asks K sc) e
    leaves_ok (Const v) h k = tt
    leaves_ok (Read l) h k = loc_reads l h k
    leaves_ok (Alive c) h k = k
    leaves_ok (One' op _ a) h k = row_ok a h k
    leaves_ok (Two' op _ a _ b) h k = (row_ok a h.0 k.0, row_ok b h.1 k.1)
    leaves_ok (As' _ a) h k = row_ok a h k

    row_ok : {n : _} (r : Row_of-KExp n) → OperandSeen sc.seen r → OperandNamed K (bare sc) r → OperandOk (reads K sc) (asks K sc) r
    row_ok end_of-KExp h k = tt
    row_ok (more_of-KExp t p e rest) h k = leaves_ok e h k

  pub exp_leaves : (e : KExp) → ExpSeen sc.seen e → ExpNamed K (bare sc) e → LeavesOk (reads K sc) (asks K sc) e.node
  exp_leaves e h k = leaves_ok e.node h k

  pub exp_given : (t : Ty) (e : KExp) → ExpSeen sc.seen e → ExpNamed K (bare sc) e → ExpGiven t e → gives K sc t e ≡ true
  exp_given t e h k g = g (reads K sc) (asks K sc) (exp_leaves e h k)

  pub maybe_given : (t : Ty) (e : Option KExp) → sees.MaybeExp sc.seen e → named.MaybeExp K (bare sc) e → MaybeGiven t e → gives_if K sc t e ≡ true
  maybe_given t None h k g = g
  maybe_given t (Some e) h k g = both g.0 (exp_given t e h k g.1)

  kind_given : (k : KKind) (e : KExp) → ExpSeen sc.seen e → ExpNamed K (bare sc) e → ArgGiven k e → (elim k as (λ _. Bool) [ kind.Var t ↦ gives K sc t e | _ ↦ false ]) ≡ true
  kind_given (kind.Var t) e h k g = exp_given t e h k g
  kind_given (kind.Alias c) e h k g = absurd g
  kind_given (kind.Pool n c) e h k g = absurd g

  pub args_given : (ds : List KDecl) (es : List KExp) → AllOf (ExpSeen sc.seen) es → AllOf (ExpNamed K (bare sc)) es → ArgsGiven ds es → gives_all K sc ds es ≡ true
  args_given [] [] h k g = refl
  args_given [] (e ∷ es) h k g = absurd g
  args_given (d ∷ ds) [] h k g = absurd g
  args_given (d ∷ ds) (e ∷ es) h k g = both (kind_given d.kind e h.0 k.0 g.0) (args_given ds es h.1 k.1 g.1)
