-- Where a statement puts values: into variables and aliases that are seen from its place.
use Rattle.std.proofs.Common.{◌≡◌, refl, ap, subst, ℕ, Bool, true, false, not, if◌then◌else◌, ◌&&◌, nat_le, nat_lt, ◌+◌, ◌^◌, ◌++◌, zero, suc, List, [], ◌∷◌, length, Option, Some, None}
use Rattle.std.proofs.lemmas.Bool.{and_parts, false≢true}
use Rattle.std.specs.List.{list_all}
use Rattle.ceu_base.specs.declared.kinds.Ty.{Ty}
use Rattle.ceu_base.specs.declared.kinds.Ty.TheVariants as ty
use Rattle.ceu_tree.specs.declared.kernel.Kernel.{Kernel}
use Rattle.ceu_tree.specs.declared.kernel.KCode.{KCode}
use Rattle.ceu_tree.specs.declared.kernel.KDecl.{KDecl}
use Rattle.ceu_tree.specs.declared.kernel.KKind.{KKind}
use Rattle.ceu_tree.specs.declared.kernel.KKind.TheVariants as kind
use Rattle.ceu_tree.specs.declared.kernel.Loc.{Loc}
use Rattle.ceu_tree.specs.declared.kernel.KNode.{KNode}
use Rattle.ceu_tree.specs.declared.kernel.KBlock.{KBlock, KBlock', out-KBlock}
use Rattle.ceu_tree.specs.declared.kernel.KStmt.{KStmt, out-KStmt, Assign, AwaitIn, AwaitTime, AwaitEvent, AwaitCode, Spawn, Unset, Finalize, Do}
use Rattle.ceu_tree.specs.declared.kernel.KStmt.TheOpen.{KStmt-F}
use Rattle.ceu_tree.specs.Leaf.{Layer, code_at, target_of}
use Rattle.ceu_tree.specs.Abort.{finalizer_list}
use Rattle.ceu_tree.specs.Legal.{finalizers_of, is_finalizer}
use Rattle.ceu_tree.specs.Mentions.{outer_names_from, all_set}
use Rattle.ceu_tree.specs.Proper.{Scope, find, is_trail, outside_finalizers, is_alias, alias_takes, is_pool_of, reads, takes, takes_if, gives, gives_all, time_ok, on_ty, on_code, port_ty, event_seen, event_at, decl_ok, in_finalizer, with_decls, with_aim, do_aim, stmt_ok, block_ok, nodes_ok, body_scope, is_parameter, codes_ok, is_proper}
use Rattle.ceu_tree.specs.Typing.{same_ty}
use Rattle.laws_meaning_basics.proofs.Static.{nodes_fine, block_static}
use denote.Hole.Carrier

first_holds : (x y : Bool) → (x && y) ≡ true → x ≡ true
first_holds x y h = (and_parts x y h).0

last_holds : (x y : Bool) → (x && y) ≡ true → y ≡ true
last_holds x y h = (and_parts x y h).1

module _ (K : Kernel) (names : List (List ℕ)) where
  abbrev pub target_takes : Scope → Option Loc → Type 0
  target_takes sc None = Unit {0}
  target_takes sc (Some l) = reads K sc l ≡ true

  abbrev pub alias_set : Scope → (code pool : ℕ) → Option ℕ → Type 0
  alias_set sc code pool None = Unit {0}
  alias_set sc code pool (Some a) = alias_takes code pool (find a sc.seen) ≡ true

  abbrev pub writes : Scope → Layer → Type 0
  writes sc (KStmt-F.Assign l e) = reads K sc l ≡ true
  writes sc (KStmt-F.AwaitIn k t) = target_takes sc t
  writes sc (KStmt-F.AwaitTime e u t) = target_takes sc t
  writes sc (KStmt-F.AwaitEvent e t) = target_takes sc t
  writes sc (KStmt-F.AwaitCode c es f t) = target_takes sc t
  writes sc (KStmt-F.Spawn c es p a) = alias_set sc c p a
  writes sc (KStmt-F.Unset c) = is_alias (find c sc.seen) ≡ true
  writes sc (KStmt-F.Do t b) = target_takes sc t
  writes sc layer = Unit {0}

  takes_reads : (sc : Scope) (t : Ty) (l : Loc) → takes K sc t l ≡ true → reads K sc l ≡ true
  takes_reads sc t l h = first_holds (reads K sc l) _ (first_holds _ _ (first_holds _ _ h))

  if_takes : (sc : Scope) (t : Ty) (o : Option Loc) → takes_if K sc t o ≡ true → target_takes sc o
  if_takes sc t None h = tt
  if_takes sc t (Some l) h = takes_reads sc t l h

  on_takes : (sc : Scope) (o : Option Ty) (t : Option Loc) → on_ty K o (λ u. takes_if K sc u t) ≡ true → target_takes sc t
  on_takes sc None t h = absurd (false≢true h)
  on_takes sc (Some u) t h = if_takes sc u t h

  code_takes : (sc : Scope) (o : Option KCode) (es : _) (t : Option Loc)
      → (elim o [ None ↦ false | Some k ↦ gives_all K sc k.params es && takes_if K sc k.result t ]) ≡ true → target_takes sc t
  code_takes sc None es t h = absurd (false≢true h)
  code_takes sc (Some k) es t h = if_takes sc k.result t (last_holds (gives_all K sc k.params es) _ h)

  do_takes : (sc : Scope) (t : Option Loc) → (elim t [ None ↦ true | Some l ↦ takes K sc l.ty l ]) ≡ true → target_takes sc t
  do_takes sc None h = tt
  do_takes sc (Some l) h = takes_reads sc l.ty l h

  spawn_sets : (sc : Scope) (c p : ℕ) (a : Option ℕ) → (elim a [ None ↦ true | Some x ↦ alias_takes c p (find x sc.seen) ]) ≡ true → alias_set sc c p a
  spawn_sets sc c p None h = tt
  spawn_sets sc c p (Some a) h = h

  stmt_writes : (sc : Scope) (n : ℕ) (st : KStmt) → stmt_ok K names sc n st ≡ true → writes sc (out-KStmt st)
  unfolding stmt_ok out-KStmt Carrier.out
  stmt_writes sc n (Assign l e) h = takes_reads sc l.ty l (first_holds _ (gives K sc l.ty e) h)
  stmt_writes sc n (AwaitIn k t) h = on_takes sc (port_ty K k K.inputs) t (last_holds (is_trail sc.place) _ h)
  stmt_writes sc n (AwaitTime e u t) h = if_takes sc ty.S32 t (last_holds (is_trail sc.place && time_ok K sc e u) _ h)
  stmt_writes sc n (AwaitEvent e t) h = on_takes sc (event_seen K sc (event_at K e K.events)) t (last_holds (is_trail sc.place) _ h)
  stmt_writes sc n (AwaitCode c es f t) h =
      code_takes sc (code_at c K.codes) es t (last_holds _ _ (last_holds (is_trail sc.place) (on_code K sc c (λ k. gives_all K sc k.params es && takes_if K sc k.result t)) h))
  stmt_writes sc n (Spawn c es p a) h = spawn_sets sc c p a (last_holds (is_trail sc.place && on_code K sc c (λ k. gives_all K sc k.params es) && is_pool_of c (find p sc.seen)) _ h)
  stmt_writes sc n (Unset c) h = last_holds (is_trail sc.place) _ h
  stmt_writes sc n (Do t b) h = do_takes sc t (last_holds (outside_finalizers sc.place) _ (first_holds _ (block_ok K names (with_aim (do_aim K n t) sc) b) h))
  stmt_writes sc n st h = tt

  pub assign_reads : (sc : Scope) (n : ℕ) (l : Loc) (e : _) → stmt_ok K names sc n (Assign l e) ≡ true → reads K sc l ≡ true
  unfolding stmt_ok
  assign_reads sc n l e h = takes_reads sc l.ty l (first_holds _ (gives K sc l.ty e) h)

  pub at_writes : (sc : Scope) (s : KNode) (layer : Layer) → out-KStmt s.stmt ≡ layer → stmt_ok K names sc s.node s.stmt ≡ true → writes sc layer
  at_writes sc s layer e h = subst (writes sc) e (stmt_writes sc s.node s.stmt h)

  pub target_written : (sc : Scope) (layer : Layer) → writes sc layer → target_takes sc (target_of layer)
  target_written sc (KStmt-F.AwaitIn k t) h = h
  target_written sc (KStmt-F.AwaitTime e u t) h = h
  target_written sc (KStmt-F.AwaitEvent e t) h = h
  target_written sc (KStmt-F.AwaitCode c es f t) h = h
  target_written sc (KStmt-F.Do t b) h = h
  target_written sc layer h = tt

  -- ---- finalizers, which declare nothing

  none_declared : (sc : Scope) (ds : List KDecl) → list_all (decl_ok K (in_finalizer K sc)) ds ≡ true → ds ≡ []
  none_declared sc [] h = refl
  none_declared sc (d ∷ ds) h = absurd (go d.kind (first_holds _ _ (first_holds _ _ (first_holds (decl_ok K (in_finalizer K sc) d) (list_all (decl_ok K (in_finalizer K sc)) ds) h))))
    where
      go : (k : KKind) → (elim k [
        | kind.Var t ↦ not (same_ty t ty.None) && outside_finalizers (in_finalizer K sc).place
        | kind.Alias c ↦ is_trail (in_finalizer K sc).place && on_code K (in_finalizer K sc) c (λ k. true)
        | kind.Pool n c ↦ is_trail (in_finalizer K sc).place && nat_lt n (2 ^ 32) && on_code K (in_finalizer K sc) c (λ k. true)
      ]) ≡ true → ⊥
      go (kind.Var t) q = false≢true (last_holds _ false q)
      go (kind.Alias c) q = false≢true q
      go (kind.Pool n c) q = false≢true q

  finalizer_decls : (sc : Scope) (b : KBlock) → block_ok K names (in_finalizer K sc) b ≡ true → (out-KBlock b).decls ≡ []
  unfolding block_ok out-KBlock Carrier.out
  finalizer_decls sc (KBlock' n ds x list) h =
      none_declared sc ds (first_holds (list_all (decl_ok K (in_finalizer K sc)) ds) (all_set names ds list) (first_holds _ (nodes_ok K names (with_decls ds (in_finalizer K sc)) list) h))

  pub finalizer_fine : (sc : Scope) (n : ℕ) (st : KStmt) → stmt_ok K names sc n st ≡ true → nodes_fine K names (in_finalizer K sc) (finalizer_list st)
  unfolding stmt_ok
  finalizer_fine sc n (Finalize b) h =
      let x = last_holds (is_trail sc.place) (block_ok K names (in_finalizer K sc) b) h in
      subst (λ ds. nodes_fine K names (with_decls ds (in_finalizer K sc)) (out-KBlock b).list) (finalizer_decls sc b x) (block_static K names (in_finalizer K sc) b x)
  finalizer_fine sc n st h = tt

  pub finalizers_fine : (sc : Scope) (found done : List KNode) → nodes_fine K names sc found → nodes_fine K names sc done
      → nodes_fine K names sc (finalizers_of found done)
  finalizers_fine sc found [] h k = h
  finalizers_fine sc found (s ∷ ss) h k = finalizers_fine sc (if is_finalizer s.stmt then s ∷ found else found) ss (go (is_finalizer s.stmt)) k.1
    where
      go : (b : Bool) → nodes_fine K names sc (if b then s ∷ found else found)
      go true = (k.0, h)
      go false = h

  pub front_fine : (sc : Scope) (done rest : List KNode) → nodes_fine K names sc (done ++ rest) → nodes_fine K names sc done
  front_fine sc [] rest h = tt
  front_fine sc (s ∷ done) rest h = (h.0, front_fine sc done rest h.1)

-- ---- parameters, which are variables

abbrev pub all_variables : List KDecl → Type 0
all_variables [] = Unit {0}
all_variables (d ∷ ds) = ((t : Ty) × (d.kind ≡ kind.Var t)) × all_variables ds

variables_are : (K : Kernel) (names : List (List ℕ)) (ds : List KDecl) → list_all (is_parameter K names) ds ≡ true → all_variables ds
variables_are K names [] h = tt
variables_are K names (d ∷ ds) h = (go d.kind refl (first_holds (is_parameter K names d) (list_all (is_parameter K names) ds) h), variables_are K names ds (last_holds (is_parameter K names d) (list_all (is_parameter K names) ds) h))
  where
    go : (k : KKind) → d.kind ≡ k → (elim k [ kind.Var t ↦ not (same_ty t ty.None) | _ ↦ false ]) ≡ true → (t : Ty) × (d.kind ≡ kind.Var t)
    go (kind.Var t) e q = (t, e)
    go (kind.Alias c) e q = absurd (false≢true q)
    go (kind.Pool n c) e q = absurd (false≢true q)

codes_variables : (K : Kernel) (names : List (List ℕ)) (i c : ℕ) (cs : List KCode) (k : KCode) → codes_ok K names i cs ≡ true → code_at c cs ≡ Some k
    → all_variables k.params
codes_variables K names i c [] k h e = absurd (cc)
codes_variables K names i zero (x ∷ cs) k h e =
    let same : x ≡ k = ap (λ o. elim o [ None ↦ x | Some y ↦ y ]) e in
    subst (λ y. all_variables y.params) same (variables_are K names x.params
    (first_holds (list_all (is_parameter K names) x.params) (nat_le (length x.params) 255) (first_holds _ (block_ok K names (with_decls x.params (body_scope K names (Some i) x.body x.result)) x.body) (first_holds _ (codes_ok K names (i + 1) cs) h))))
codes_variables K names i (suc c) (x ∷ cs) k h e = codes_variables K names (i + 1) c cs k (last_holds _ (codes_ok K names (i + 1) cs) h) e

pub parameters_are : (K : Kernel) (c : ℕ) (k : KCode) → is_proper K ≡ true → code_at c K.codes ≡ Some k → all_variables k.params
unfolding is_proper
parameters_are K c k h e = codes_variables K (outer_names_from [] K.codes) 0 c K.codes k (last_holds _ (codes_ok K (outer_names_from [] K.codes) 0 K.codes) h) e
