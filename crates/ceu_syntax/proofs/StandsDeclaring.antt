-- A step keeps what stands: blocks and declarations.
use Rattle.std.proofs.Common.{◌≡◌, refl, sym, ap, ◌∙◌, ℕ, List, [], ◌∷◌, ◌++◌, Some, None, true, false, subst, append_assoc}
use Rattle.ceu_base.specs.declared.kinds.Pos.{Pos}
use Rattle.ceu_base.specs.declared.kinds.Ty.{Ty}
use Rattle.ceu_tree.specs.declared.source.Ident.{Ident}
use Rattle.ceu_tree.specs.declared.source.Node.{Node}
use Rattle.ceu_tree.specs.declared.source.Item.{Item}
use Rattle.ceu_tree.specs.declared.source.Stmt.{Stmt}
use Rattle.ceu_tree.specs.declared.source.Stmt as stmt
use Rattle.ceu_syntax.specs.declared.terminal.Kind.{Kind}
use Rattle.ceu_syntax.specs.declared.terminal.Terminal.{Terminal}
use Rattle.ceu_syntax.specs.declared.machine.Body.TheVariants as body
use Rattle.ceu_syntax.specs.declared.machine.Frame.{Frame}
use Rattle.ceu_syntax.specs.declared.machine.Frame.TheVariants as f
use Rattle.ceu_syntax.specs.declared.machine.Listed.{Listed}
use Rattle.ceu_syntax.specs.declared.machine.Listed.TheVariants as listed
use Rattle.ceu_syntax.specs.declared.machine.Declaring.{Declaring}
use Rattle.ceu_syntax.specs.declared.machine.Declaring.TheVariants as d
use Rattle.ceu_syntax.specs.Terminals.{token, lower, abs, digits}
use Rattle.ceu_syntax.specs.Trees.{ident, spawn, block, node, do_block, item, arm}
use Rattle.ceu_syntax.specs.declared.terminal.Kind.TheVariants as k
use Rattle.ceu_syntax.specs.Expressions.{is_here, spawns, Targets}
use Rattle.ceu_syntax.specs.Forms.{named, Names, last_name, one_name, Shares}
use Rattle.ceu_syntax.specs.Grammar as g
use Rattle.ceu_syntax.specs.Grammar.{Forms, Does, does_plain, does_under, does_named, Sources, is_value, is_wait, is_start, is_done, ItemOf, is_bare, is_initial, Items, last_item, one_item, Statement, is_simple, is_ended, Statements, no_more, skips, one_more, Branches, last_branch, one_branch, Arms, no_else, last_else, else_if}
use Rattle.ceu_syntax.specs.Steps as spec
use Rattle.ceu_syntax.specs.Steps.{State, state, Held, held, reduce, statement_of, source_of, case_of, closed}
use Rattle.ceu_syntax.proofs.Contexts.{Around, Formed, ItemEndAt, Listing, NamesAt, NamesTo, DeclaringAt, Stands}
use Rattle.ceu_syntax.proofs.Stands.{with_last, skips_last, from_is, gives, none, stood_simple, items_on, items_end, stood_do_end}

module _ (whole here : List Terminal) (s' : State) where
  -- ---- blocks

  stood_end : (p : Pos) (ns : List Node) (K : List Frame) (start : List Terminal) → spec.of_end ns K ≡ Some s' → Around whole K start → Statements start ns (token k.End p ∷ here) → Stands whole s' here
  stood_end p ns (f.Body (body.Do label) ∷ K) start h o d = stood_do_end whole here s' (do_block label ns) o.0 K h o.1 (o.2 ns p here d)
  stood_end p ns (f.Body body.Finalize ∷ f.Begun ms at ∷ K) start h o d = gives whole here h (o.0, o.2, with_last o.3 (is_ended (o.4 ns p here d)))
  stood_end p ns (f.Body (body.Arm arms e) ∷ f.Begun ms at ∷ K) start h o d = gives whole here h (o.0, o.2, with_last o.3 (is_ended (o.4 ns (token k.End p ∷ here) [] None here d (no_else p here))))
  stood_end p ns (f.Body (body.Else arms) ∷ f.Begun ms at ∷ K) start h o d = gives whole here h (o.0, o.2, with_last o.3 (is_ended (o.4 ns p here d)))
  stood_end p ns (f.Body (body.Loop n) ∷ f.Begun ms at ∷ K) start h o d = gives whole here h (o.0, o.2, with_last o.3 (is_ended (o.4 ns p here d)))
  stood_end p ns (f.Body (body.Range x open_a a b open_b) ∷ f.Begun ms at ∷ K) start h o d = gives whole here h (o.0, o.2, with_last o.3 (is_ended (o.4 ns p here d)))
  stood_end p ns (f.Body (body.Every x t) ∷ f.Begun ms at ∷ K) start h o d = gives whole here h (o.0, o.2, with_last o.3 (is_ended (o.4 ns p here d)))
  stood_end p ns (f.Body (body.Watching t) ∷ f.Begun ms at ∷ K) start h o d = gives whole here h (o.0, o.2, with_last o.3 (is_ended (o.4 ns p here d)))
  stood_end p ns (f.Body (body.FirstBranch kind) ∷ K) start h o d = none h
  stood_end p ns (f.Body (body.Branch kind bs) ∷ f.Begun ms at ∷ K) start h o d = gives whole here h (o.0, o.2, with_last o.3 (is_ended (o.4 (block ns ∷ []) here (last_branch p d))))
  stood_end p ns (f.Body (body.Async xs) ∷ f.Begun ms at ∷ K) start h o d = gives whole here h (o.0, o.2, with_last o.3 (is_ended (o.4 ns p here d)))
  stood_end p ns (f.Body (body.Code x ps ty) ∷ f.Begun ms at ∷ K) start h o d = gives whole here h (o.0, o.2, with_last o.3 (is_ended (o.4 ns p here d)))
  stood_end p ns _ start h o d = none h

  stood_with : (p : Pos) (ns : List Node) (K : List Frame) (start : List Terminal) → spec.of_with ns K ≡ Some s' → Around whole K start → Statements start ns (token k.With p ∷ here) → Stands whole s' here
  stood_with p ns (f.Body (body.FirstBranch kind) ∷ f.Begun ms at ∷ K) start h o d = gives whole here h (here, (o.0, o.1, o.2, o.3, (λ cs rest b. o.4 ns p here cs rest d b)), no_more here)
  stood_with p ns (f.Body (body.FirstBranch kind) ∷ K) start h o d = absurd o
  stood_with p ns (f.Body (body.Branch kind bs) ∷ f.Begun ms at ∷ K) start h o d =
      gives whole here h (here, (o.0, o.1, o.2, o.3, (λ cs rest b. subst (λ u. Forms o.1 (node at (stmt.Par kind u)) true rest) (sym (append_assoc bs (block ns ∷ []) cs)) (o.4 (block ns ∷ cs) rest (one_branch p d b)))), no_more here)
  stood_with p ns (f.Body (body.Branch kind bs) ∷ K) start h o d = absurd o
  stood_with p ns _ start h o d = none h

  stood_else : (p : Pos) (ns : List Node) (K : List Frame) (start : List Terminal) → spec.of_else ns K ≡ Some s' → Around whole K start → Statements start ns (token k.Else p ∷ here) → Stands whole s' here
  stood_else p ns (f.Body (body.Arm arms e) ∷ f.Begun ms at ∷ K) start h o d =
      gives whole here h (p, (o.0, o.1, o.2, o.3, (λ more last rest a. subst (λ u. Forms o.1 (node at (stmt.If u last)) true rest) (sym (append_assoc arms (arm e ns ∷ []) more)) (o.4 ns (token k.Else p ∷ here) more last rest d a))))
  stood_else p ns (f.Body (body.Arm arms e) ∷ K) start h o d = absurd o
  stood_else p ns _ start h o d = none h

  pub stood_block : (kind : Kind) (at : Pos) (ns : List Node) (K : List Frame) (start : List Terminal) → spec.of_block kind at ns K ≡ Some s' → Around whole K start → Statements start ns (token kind at ∷ here) → Stands whole s' here
  stood_block k.Semicolon at ns K start h o d = gives whole here h (start, o, skips_last at d)
  stood_block (k.Lower x) at ns K start h o d = gives whole here h (start, lower x at ∷ here, o, d, (refl, is_here x at here))
  stood_block k.End at ns K start h o d = stood_end at ns K start h o d
  stood_block k.With at ns K start h o d = stood_with at ns K start h o d
  stood_block k.Else at ns K start h o d = stood_else at ns K start h o d
  stood_block k.Outer at ns K start h o d = gives whole here h (start, token k.Outer at ∷ here, o, d, (refl, refl))
  stood_block k.Spawn at ns K start h o d = gives whole here h (start, token k.Spawn at ∷ here, o, d, (λ code x into name rest c. g.is_spawn (spawns x at into name c)))
  stood_block k.If at ns K start h o d = gives whole here h (start, token k.If at ∷ here, o, d, (λ e by body x ms mid more last rest t a. g.is_if at by x t a))
  stood_block k.Watching at ns K start h o d = gives whole here h (start, token k.Watching at ∷ here, o, d, (λ t mid x begin body e ms end rest t'. g.is_watching at begin end (subst (λ u. Targets here t u) e x) t'))
  stood_block k.Nothing at ns K start h o d = gives whole here h (start, token k.Nothing at ∷ here, o, d, g.is_nothing at here)
  stood_block k.Break at ns K start h o d = gives whole here h (start, token k.Break at ∷ here, o, d, g.is_break at here)
  stood_block k.Continue at ns K start h o d = gives whole here h (start, token k.Continue at ∷ here, o, d, g.is_continue at here)
  stood_block k.Var at ns K start h o d = gives whole here h (start, token k.Var at ∷ here, o, d, refl)
  stood_block k.Event at ns K start h o d = gives whole here h (start, token k.Event at ∷ here, o, d, refl)
  stood_block k.Input at ns K start h o d = gives whole here h (start, token k.Input at ∷ here, o, d, refl)
  stood_block k.Output at ns K start h o d = gives whole here h (start, token k.Output at ∷ here, o, d, refl)
  stood_block k.Pool at ns K start h o d = gives whole here h (start, token k.Pool at ∷ here, o, d, refl)
  stood_block k.Code at ns K start h o d = gives whole here h (start, token k.Code at ∷ here, o, d, refl)
  stood_block k.Emit at ns K start h o d = gives whole here h (start, token k.Emit at ∷ here, o, d, refl)
  stood_block k.Await at ns K start h o d = gives whole here h (start, token k.Await at ∷ here, o, d, refl)
  stood_block k.Kill at ns K start h o d = gives whole here h (start, token k.Kill at ∷ here, o, d, refl)
  stood_block k.Escape at ns K start h o d = gives whole here h (start, token k.Escape at ∷ here, o, d, refl)
  stood_block k.Async at ns K start h o d = gives whole here h (start, token k.Async at ∷ here, o, d, (λ xs mid x begin body e ms end rest t. g.is_async at begin end (subst (λ u. Shares here xs u) e x) t))
  stood_block k.Do at ns K start h o d = gives whole here h (start, o, d)
  stood_block k.Loop at ns K start h o d = gives whole here h (start, token k.Loop at ∷ here, o, d, refl)
  stood_block k.Every at ns K start h o d = gives whole here h (start, token k.Every at ∷ here, o, d, refl)
  stood_block k.Par at ns K start h o d = gives whole here h (start, token k.Par at ∷ here, o, d, refl)
  stood_block _ at ns K start h o d = none h

  -- ---- declarations

  stood_item_value : (kind : Kind) (at : Pos) (ty : Ty) (is : List Item) (x : Ident) (K : List Frame) → spec.item_value kind ty is x K ≡ Some s' → DeclaringAt whole K (d.ItemValue ty is x) (token kind at ∷ here) → Stands whole s' here
  stood_item_value k.Assign at ty is x K h o = gives whole here h (o.0, (λ source b rest v. o.1.1 at here source b rest refl v), o.2)
  stood_item_value k.Comma at ty is x K h o = gives whole here h (items_on whole here s' ty is (item x None) o.0 false at K o.1.0 o.2)
  stood_item_value k.Semicolon at ty is x K h o = stood_simple whole here s' at (stmt.Vars ty (is ++ item x None ∷ [])) K h (items_end whole here s' ty is (item x None) o.0 false (token k.Semicolon at ∷ here) K o.1.0 o.2)
  stood_item_value _ at ty is x K h o = none h

  stood_item_end : (kind : Kind) (at : Pos) (ty : Ty) (is : List Item) (K : List Frame) → spec.item_end kind at (stmt.Vars ty is) K ≡ Some s' → Formed whole K (ItemEndAt ty is (token kind at ∷ here)) → Stands whole s' here
  stood_item_end kind at ty is (f.Begun ns b ∷ K) h o = stood_block kind at (ns ++ node b (stmt.Vars ty is) ∷ []) K o.0 h o.2 (with_last o.3 (is_ended o.4.0))
  stood_item_end kind at ty is _ h o = absurd o

  listing_append : (l : Listed) (xs : List Ident) (x : Ident) (more : List Ident) (rest : List Terminal) (at : Pos) (from : List Terminal) → Listing l (xs ++ x ∷ more) rest at from → Listing l ((xs ++ x ∷ []) ++ more) rest at from
  listing_append l xs x more rest at from d = subst (λ u. Listing l u rest at from) (sym (append_assoc xs (x ∷ []) more)) d

  pub name_on : (l : Listed) (xs : List Ident) (x : List ℕ) (at b : Pos) (from : List Terminal) → NamesAt l xs (named (case_of l) x at ∷ here) b from → NamesTo l (xs ++ ident x at ∷ []) here b from
  name_on l xs x at b from o = (
    o (ident x at ∷ []) here (last_name x at here),
    (λ comma mid e more rest m. listing_append l xs (ident x at) more rest b from (o (ident x at ∷ more) rest (subst (λ u. Names (case_of l) (named (case_of l) x at ∷ u) (ident x at ∷ more) rest) (sym e) (one_name x at comma m)))),
  )

  names_on : (l : Listed) (xs : List Ident) (x : List ℕ) (at : Pos) (K : List Frame) → Formed whole K (NamesAt l xs (named (case_of l) x at ∷ here)) → Formed whole K (NamesTo l (xs ++ ident x at ∷ []) here)
  names_on l xs x at (f.Begun ns b ∷ K) o = (o.0, o.1, o.2, o.3, name_on l xs x at b o.1 o.4)
  names_on l xs x at _ o = absurd o

  stood_name : (l : Listed) (kind : Kind) (at : Pos) (xs : List Ident) (K : List Frame) → spec.of_name (case_of l) kind at l xs K ≡ Some s' → Formed whole K (NamesAt l xs (token kind at ∷ here)) → Stands whole s' here
  stood_name (listed.Events ty) (k.Lower x) at xs K h o = gives whole here h (names_on (listed.Events ty) xs x at K o)
  stood_name (listed.Inputs ty) (k.Ext x) at xs K h o = gives whole here h (names_on (listed.Inputs ty) xs x at K o)
  stood_name (listed.Outputs ty) (k.Ext x) at xs K h o = gives whole here h (names_on (listed.Outputs ty) xs x at K o)
  stood_name listed.Shared (k.Lower x) at xs K h o = gives whole here h (names_on listed.Shared xs x at K o)
  stood_name _ _ at xs K h o = none h

  listed_formed : (l : Listed) (xs : List Ident) (rest : List Terminal) (K : List Frame) → Formed whole K (NamesTo l xs rest) → Formed whole K (Listing l xs rest)
  listed_formed l xs rest (f.Begun ns b ∷ K) o = (o.0, o.1, o.2, o.3, o.4.0)
  listed_formed l xs rest _ o = absurd o

  stood_declares : (l : Listed) (at : Pos) (xs : List Ident) (K : List Frame) → spec.declares l xs K ≡ Some s' → Formed whole K (Listing l xs (token k.Semicolon at ∷ here)) → Stands whole s' here
  stood_declares (listed.Events ty) at xs K h o = stood_simple whole here s' at (stmt.Events ty xs) K h o
  stood_declares (listed.Inputs ty) at xs K h o = stood_simple whole here s' at (stmt.Inputs ty xs) K h o
  stood_declares (listed.Outputs ty) at xs K h o = stood_simple whole here s' at (stmt.Outputs ty xs) K h o
  stood_declares listed.Shared at xs K h o = none h

  stood_shares : (l : Listed) (at : Pos) (xs : List Ident) (K : List Frame) → spec.shares l xs K ≡ Some s' → Formed whole K (Listing l xs (token k.CloseParen at ∷ here)) → Stands whole s' here
  stood_shares listed.Shared at xs (f.Begun ns b ∷ K) h o = gives whole here h (o.0, o.1, o.2, o.3, o.4 at here refl)
  stood_shares listed.Shared at xs _ h o = absurd o
  stood_shares _ at xs K h o = none h

  names_next : (l : Listed) (xs : List Ident) (at : Pos) (K : List Frame) → Formed whole K (NamesTo l xs (token k.Comma at ∷ here)) → Formed whole K (NamesAt l xs here)
  names_next l xs at (f.Begun ns b ∷ K) o = (o.0, o.1, o.2, o.3, o.4.1 at here refl)
  names_next l xs at _ o = absurd o

  stood_name_end : (kind : Kind) (at : Pos) (l : Listed) (xs : List Ident) (K : List Frame) → spec.of_name_end kind l xs K ≡ Some s' → Formed whole K (NamesTo l xs (token kind at ∷ here)) → Stands whole s' here
  stood_name_end k.Comma at l xs K h o = gives whole here h (names_next l xs at K o)
  stood_name_end k.Semicolon at l xs K h o = stood_declares l at xs K h (listed_formed l xs (token k.Semicolon at ∷ here) K o)
  stood_name_end k.CloseParen at l xs K h o = stood_shares l at xs K h (listed_formed l xs (token k.CloseParen at ∷ here) K o)
  stood_name_end _ at l xs K h o = none h

  pub stood_declaring : (mode : Declaring) (kind : Kind) (at : Pos) (K : List Frame) → spec.declared mode kind at K ≡ Some s' → DeclaringAt whole K mode (token kind at ∷ here) → Stands whole s' here
  stood_declaring d.Var (k.Type ty) at (f.Begun ns b ∷ K) h o = gives whole here h (o.0, o.1, o.2, o.3, (λ more c rest m. from_is o.4 (g.is_vars ty b at m)))
  stood_declaring d.Var (k.Type ty) at _ h o = absurd o
  stood_declaring d.Var k.Ampersand at K h o = gives whole here h (at, o)
  stood_declaring d.AliasMark k.Question at K h o = gives whole here h (o.0, at, o.1)
  stood_declaring d.AliasCode (k.Abs code) at (f.Begun ns b ∷ K) h o = gives whole here h (
    o.2.0,
    o.2.1,
    o.2.2,
    o.2.3,
    (λ x name rest e. (
      from_is (o.2.4 ∙ ap (λ u. token k.Var b ∷ token k.Ampersand o.0 ∷ token k.Question o.1 ∷ abs code at ∷ u) e) (g.is_alias code x b o.0 o.1 at name rest),
      (λ equal mid sp after i q. from_is (o.2.4 ∙ ap (λ u. token k.Var b ∷ token k.Ampersand o.0 ∷ token k.Question o.1 ∷ abs code at ∷ u) (e ∙ ap (λ u. lower x name ∷ u) i)) (g.is_alias_of code x b o.0 o.1 at name equal q)),
    )),
  )
  stood_declaring d.AliasCode (k.Abs code) at _ h o = absurd o.2
  stood_declaring (d.AliasName code) (k.Lower x) at (f.Begun ns b ∷ K) h o = gives whole here h (o.0, o.1, o.2, o.3, o.4 x at here refl)
  stood_declaring (d.AliasName code) (k.Lower x) at _ h o = absurd o
  stood_declaring (d.AliasValue code x) k.Semicolon at (f.Begun ns b ∷ K) h o = gives whole here h (o.0, o.2, with_last o.3 (is_simple at o.4.0))
  stood_declaring (d.AliasValue code x) k.Semicolon at _ h o = none h
  stood_declaring (d.AliasValue code x) k.Assign at (f.Begun ns b ∷ K) h o = gives whole here h (o.0, o.1, o.2, o.3, (λ sp rest q. o.4.1 at here sp rest refl q))
  stood_declaring (d.AliasValue code x) k.Assign at _ h o = absurd o
  stood_declaring d.AliasSpawn k.Spawn at (f.Alias code x ∷ f.Begun ns b ∷ K) h o = gives whole here h (o.0, o.1, o.2, o.3, (λ c y into name rest q. o.4 (spawn at c (ident y name)) rest (spawns y at into name q)))
  stood_declaring d.AliasSpawn k.Spawn at (f.Alias code x ∷ K) h o = absurd o
  stood_declaring d.AliasSpawn k.Spawn at _ h o = absurd o
  stood_declaring (d.Item ty is) (k.Lower x) at K h o = gives whole here h (lower x at ∷ here, (is_bare x at here, (λ equal mid source b rest e v. subst (λ u. ItemOf (lower x at ∷ u) (item (ident x at) (Some source)) b rest) (sym e) (is_initial x at equal v))), o)
  stood_declaring (d.ItemValue ty is x) kind at K h o = stood_item_value kind at ty is x K h o
  stood_declaring (d.ItemEnd ty is) k.Comma at (f.Begun ns b ∷ K) h o = gives whole here h (o.0, o.1, o.2, o.3, (λ more c rest m. o.4.1 at here more c rest refl m))
  stood_declaring (d.ItemEnd ty is) k.Comma at _ h o = absurd o
  stood_declaring (d.ItemEnd ty is) kind at K h o = stood_item_end kind at ty is K h o
  stood_declaring d.EventType (k.Type ty) at (f.Begun ns b ∷ K) h o = gives whole here h (o.0, o.1, o.2, o.3, (λ more rest m. from_is o.4 (g.is_events ty b at m)))
  stood_declaring d.EventType (k.Type ty) at _ h o = absurd o
  stood_declaring d.InputType (k.Type ty) at (f.Begun ns b ∷ K) h o = gives whole here h (o.0, o.1, o.2, o.3, (λ more rest m. from_is o.4 (g.is_inputs ty b at m)))
  stood_declaring d.InputType (k.Type ty) at _ h o = absurd o
  stood_declaring d.OutputType (k.Type ty) at (f.Begun ns b ∷ K) h o = gives whole here h (o.0, o.1, o.2, o.3, (λ more rest m. from_is o.4 (g.is_outputs ty b at m)))
  stood_declaring d.OutputType (k.Type ty) at _ h o = absurd o
  stood_declaring (d.Name l xs) kind at K h o = stood_name l kind at xs K h o
  stood_declaring (d.NameEnd l xs) kind at K h o = stood_name_end kind at l xs K h o
  stood_declaring d.Pool k.OpenBracket at K h o = gives whole here h (at, o)
  stood_declaring d.PoolCount (k.Number n) at (f.Begun ns b ∷ K) h o = gives whole here h (
    o.1.0,
    o.1.1,
    o.1.2,
    o.1.3,
    (λ close rest e x code after i y name last j. from_is (o.1.4 ∙ ap (λ u. token k.Pool b ∷ token k.OpenBracket o.0 ∷ digits n at ∷ u) (e ∙ ap (λ u. token k.CloseBracket close ∷ u) (i ∙ ap (λ u. abs x code ∷ u) j))) (g.is_pool n x y b o.0 at close code name last)),
  )
  stood_declaring d.PoolCount (k.Number n) at _ h o = absurd o.1
  stood_declaring (d.PoolClose n) k.CloseBracket at (f.Begun ns b ∷ K) h o = gives whole here h (o.0, o.1, o.2, o.3, o.4 at here refl)
  stood_declaring (d.PoolClose n) k.CloseBracket at _ h o = absurd o
  stood_declaring (d.PoolCode n) (k.Abs x) at (f.Begun ns b ∷ K) h o = gives whole here h (o.0, o.1, o.2, o.3, o.4 x at here refl)
  stood_declaring (d.PoolCode n) (k.Abs x) at _ h o = absurd o
  stood_declaring (d.PoolName n code) (k.Lower x) at (f.Begun ns b ∷ K) h o = gives whole here h (o.0, o.1, o.2, o.3, o.4 x at here refl)
  stood_declaring (d.PoolName n code) (k.Lower x) at _ h o = absurd o
  stood_declaring _ _ at K h o = none h
