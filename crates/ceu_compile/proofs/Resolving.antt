-- Refusals by rules on names and on types.
use Rattle.std.proofs.Common.{◌≡◌, inl, inr, Ok}
use Rattle.ceu_base.specs.declared.kinds.CheckError.{CheckError}
use Rattle.ceu_base.specs.declared.kinds.CheckError.TheVariants as check_error
use Rattle.ceu_scopes.specs.Answers as naming
use Rattle.ceu_scopes.specs.Names.{scopes_of}
use Rattle.ceu_scopes.specs.declared.known.Scopes.{Scopes}
use Rattle.ceu_tree.specs.declared.source.Tree.{Tree}
use Rattle.ceu_types.specs.Statements as typing
use Rattle.ceu_types.specs.Statements.{types_of}
use Rattle.ceu_compile.specs.Errors.{of_check}
use Rattle.ceu_compile.specs.Resolved.{IsUnresolved}
use Rattle.ceu_compile.specs.declared.errors.CompileError.{CompileError}

named : (tree : Tree) (e : CheckError) → naming.IsRefusal e (scopes_of tree) → IsUnresolved tree (of_check e)
unfolding naming.IsRefusal
named tree (check_error.Refused r place) refused = inl refused
named tree check_error.Memory refused = tt

pub names_refused : (tree : Tree) (e : CheckError) (x : CompileError) → naming.IsRefusal e (scopes_of tree) → x ≡ of_check e → IsUnresolved tree x
names_refused tree e x refused is = rw is (named tree e refused)

typed : (tree : Tree) (scopes : Scopes) (e : CheckError) → scopes_of tree ≡ Ok scopes → typing.IsCause e (types_of scopes tree) → IsUnresolved tree (of_check e)
typed tree scopes (check_error.Refused r place) known refused = inr (scopes, known, refused)
typed tree scopes check_error.Memory known refused = tt

pub types_refused : (tree : Tree) (scopes : Scopes) (e : CheckError) (x : CompileError) → scopes_of tree ≡ Ok scopes → typing.IsCause e (types_of scopes tree) → x ≡ of_check e → IsUnresolved tree x
types_refused tree scopes e x known refused is = rw is (typed tree scopes e known refused)
