-- A variable that is named is one that may be read or assigned: of the own body or of the outermost block.
use Rattle.std.proofs.Common.{◌≡◌, refl, ap, ◌∙◌, [], Bool, true, false}
use Rattle.std.specs.Prelude.{not, if◌then◌else◌, None}
use Rattle.ceu_tree.specs.declared.kernel.Kernel.{Kernel}
use Rattle.ceu_tree.specs.declared.kernel.KBlock.{out-KBlock}
use Rattle.ceu_tree.specs.declared.kernel.Loc.{Loc}
use Rattle.ceu_tree.specs.Proper.{Scope, find, declared_seen, is_in_code, variable_ty, has_ty, is_loop_variable, looked_up, reads}
use Rattle.laws_kernel_names.specs.Sees.{LocSeen, TargetSeen}
use Rattle.laws_kernel_uses.specs.Named.{LocNamed, TargetNamed}

module _ (K : Kernel) (sc : Scope) (l : Loc) where
  own_lookup : l.outer ≡ false → looked_up K sc l ≡ find l.slot sc.seen
  own_lookup own = ap (λ b. if b then (if is_in_code sc.code then find l.slot (declared_seen [] (out-KBlock K.body).decls []) else None) else find l.slot sc.seen) own

  by_outer : (c : Bool) → (l.outer ≡ false → c ≡ true) → (l.outer ≡ true → c ≡ true) → c ≡ true
  by_outer c own outer = by_case l.outer refl
    where
      by_case : (b : Bool) → l.outer ≡ b → c ≡ true
      by_case false e = own e
      by_case true e = outer e

  pub named_reads : LocSeen sc.seen l → LocNamed K sc l → reads K sc l ≡ true
  named_reads seen named = by_outer (reads K sc l) (λ own. ap (λ o. has_ty (variable_ty o) l.ty) (own_lookup own) ∙ seen own) named

  pub target_reads : TargetSeen sc.seen l → TargetNamed K sc l → reads K sc l ≡ true
  target_reads seen named = named_reads seen.0 named.0

  pub target_no_loop : TargetSeen sc.seen l → TargetNamed K sc l → not (is_loop_variable (looked_up K sc l)) ≡ true
  target_no_loop seen named = by_outer (not (is_loop_variable (looked_up K sc l))) (λ own. ap (λ o. not (is_loop_variable o)) (own_lookup own) ∙ seen.1 own) named.1
