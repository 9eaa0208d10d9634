-- A statement that may name what it names reads no slot without a value when it starts.
use Rattle.std.proofs.Common.{◌≡◌, refl, sym, ap, subst, ◌≤◌, ℕ, suc, Bool, true, false, not, if◌then◌else◌, ◌==◌, ◌&&◌, ◌||◌, ◌⊎◌, inl, inr, List, [], ◌∷◌, ◌++◌, Option, Some, None, arith, eq-eqb}
use Rattle.std.proofs.lemmas.Bool.{and_parts, and_from, false≢true}
use Rattle.ceu_base.specs.declared.kinds.Ty.{Ty}
use Rattle.ceu_base.specs.declared.kinds.Ty.TheVariants as ty
use Rattle.ceu_tree.specs.declared.kernel.Kernel.{Kernel}
use Rattle.ceu_tree.specs.declared.kernel.KCode.{KCode}
use Rattle.ceu_tree.specs.declared.kernel.KDecl.{KDecl}
use Rattle.ceu_tree.specs.declared.kernel.KKind.{KKind}
use Rattle.ceu_tree.specs.declared.kernel.KKind.TheVariants as kind
use Rattle.ceu_tree.specs.declared.kernel.KLoop.TheVariants as turns
use Rattle.ceu_tree.specs.declared.kernel.Loc.{Loc}
use Rattle.ceu_tree.specs.declared.kernel.KExp.{KExp}
use Rattle.ceu_tree.specs.declared.kernel.KExpNode as exp
use Rattle.ceu_tree.specs.declared.kernel.KExpNode.{KExpNode, Row_of-KExp, end_of-KExp, more_of-KExp, One', Two', As'}
use Rattle.ceu_tree.specs.declared.kernel.KArm.{KArm, KArm', out-KArm}
use Rattle.ceu_tree.specs.declared.kernel.KStmt as kernel
use Rattle.ceu_tree.specs.declared.kernel.KStmt.{KStmt, out-KStmt, If', Row_of-KArm, end_of-KArm, more_of-KArm, items-the_row-KArm, items_shown-the_row-KArm-0}
use Rattle.ceu_tree.specs.Residual.{Body}
use Rattle.ceu_tree.specs.World.{World}
use Rattle.ceu_tree.specs.Leaf.{code_at}
use denote.Hole.Carrier
use Rattle.ceu_tree.specs.Typing.{node_typed, operand_typed, holds_all, is_amount, typed}
use Rattle.ceu_tree.specs.Mentions.{named_by, loc_names, maybe_loc, maybe_own, node_names, operand_names, exp_names, maybe_exp, exps_names, block_names, arm_names, arms_names, stmt_names, sets, count_of, is_slot, outer_names_from}
use Rattle.ceu_tree.specs.Proper.{Scope, SlotKind, IsVariable, IsLoopVariable, IsPool, IsAlias, find, variable_ty, has_ty, is_alias, looked_up, reads, asks, Aim, DoAim, BodyAim, LoopAim, gives, gives_if, gives_all, takes, takes_if, on_ty, on_code, is_above, escape_ok, arm_ok, arms_ok, block_ok, stmt_ok, port_ty, event_seen, event_at, time_ok, loop_ok, alias_takes, outside_asyncs, outside_finalizers, is_trail}
use Rattle.laws_meaning_values.specs.Ground.{has}
use Rattle.laws_meaning_values.specs.Ready.{is_cell, node_has, operand_has, exp_has, exps_have, maybe_has, conditions_have, layer_has}
use Rattle.laws_meaning_values.proofs.Names.{count_append, loc_named}

module _ (K : Kernel) (sc : Scope) (body : Body) (w : World) where
  abbrev N : List (List ℕ)
  N = outer_names_from [] K.codes

  one : (x : ℕ) → 1 ≤ count_of x (x ∷ [])
  one x = subst (λ b. 1 ≤ (if b then 1 else 0)) (sym (eq-eqb x x refl)) (omega arith)

  -- names of an expression that have values
  abbrev Named : List ℕ → Type 0
  Named ns = (x : ℕ) → is_cell (find x sc.seen) ≡ true → 1 ≤ count_of x ns → has body x w ≡ true

  named_left : (ms ns : List ℕ) → Named (ms ++ ns) → Named ms
  named_left ms ns h = λ x c l. h x c (omega (arith, l, count_append x ms ns))

  named_right : (ms ns : List ℕ) → Named (ms ++ ns) → Named ns
  named_right ms ns h = λ x c l. h x c (omega (arith, l, count_append x ms ns))

  variable_cell : (o : Option SlotKind) (t : Ty) → has_ty (variable_ty o) t ≡ true → is_cell o ≡ true
  variable_cell None t h = absurd (false≢true h)
  variable_cell (Some (IsVariable u)) t h = refl
  variable_cell (Some IsLoopVariable) t h = refl
  variable_cell (Some (IsPool c)) t h = absurd (false≢true h)
  variable_cell (Some (IsAlias c pools)) t h = absurd (false≢true h)

  alias_cell : (o : Option SlotKind) → is_alias o ≡ true → is_cell o ≡ true
  alias_cell None h = absurd (false≢true h)
  alias_cell (Some (IsVariable u)) h = absurd (false≢true h)
  alias_cell (Some IsLoopVariable) h = absurd (false≢true h)
  alias_cell (Some (IsPool c)) h = absurd (false≢true h)
  alias_cell (Some (IsAlias c pools)) h = refl

  read_has : (l : Loc) → reads K sc l ≡ true → Named (l.slot ∷ []) → (l.outer || has body l.slot w) ≡ true
  read_has l h n = go l.outer h
    where
      go : (b : Bool) → has_ty (variable_ty (if b then looked_up K sc (record l { outer = true }) else find l.slot sc.seen)) l.ty ≡ true → (b || has body l.slot w) ≡ true
      go true e = refl
      go false e = n l.slot (variable_cell (find l.slot sc.seen) l.ty e) (one l.slot)

  mutual
    unfolding node_typed node_has node_names

    typed_has : (e : KExpNode) (t : Ty) → node_typed (reads K sc) (asks K sc) e t ≡ true → Named (node_names true N e) → node_has body w e ≡ true
    typed_has (exp.Const v) t h n = refl
    typed_has (exp.Read l) t h n = read_has l (and_parts _ (reads K sc l) h).1 n
    typed_has (exp.Alive c) t h n = n c (alias_cell (find c sc.seen) (and_parts _ (is_alias (find c sc.seen)) (and_parts _ (asks K sc c) h).1).1) (one c)
    typed_has (One' op x a) t h n = operand_typed_has a (and_parts (operand_typed (reads K sc) (asks K sc) a) _ h).0 n
    typed_has (Two' op x a y b) t h n =
        let k = (and_parts (operand_typed (reads K sc) (asks K sc) a && operand_typed (reads K sc) (asks K sc) b) _ h).0 in
        let m = and_parts (operand_typed (reads K sc) (asks K sc) a) (operand_typed (reads K sc) (asks K sc) b) k in
        and_from (operand_has body w a) (operand_has body w b) (operand_typed_has a m.0 (named_left (operand_names true N a) (operand_names true N b) n)) (operand_typed_has b m.1 (named_right (operand_names true N a) (operand_names true N b) n))
    typed_has (As' x a) t h n =
        operand_typed_has a (and_parts (operand_typed (reads K sc) (asks K sc) a) _ (and_parts (operand_typed (reads K sc) (asks K sc) a && not _) _ h).0).0 n

    operand_typed_has : {n : _} (a : Row_of-KExp n) → operand_typed (reads K sc) (asks K sc) a ≡ true → Named (operand_names true N a) → operand_has body w a ≡ true
    operand_typed_has end_of-KExp h n = refl
    operand_typed_has (more_of-KExp t p e rest) h n = typed_has e t h n

  -- ---- expressions of statements

  gives_has : (t : Ty) (e : KExp) → gives K sc t e ≡ true → Named (exp_names true N e) → exp_has body w e ≡ true
  gives_has t e h n =
      typed_has e.node e.ty (and_parts (typed (reads K sc) (asks K sc) e) _ (and_parts (typed (reads K sc) (asks K sc) e && holds_all t e.ty) _ h).0).0 n

  gives_if_has : (t : Ty) (e : Option KExp) → gives_if K sc t e ≡ true → Named (maybe_exp true N e) → maybe_has body w e ≡ true
  gives_if_has t None h n = refl
  gives_if_has t (Some e) h n = gives_has t e (and_parts _ (gives K sc t e) h).1 n

  gives_all_has : (ds : List KDecl) (es : List KExp) → gives_all K sc ds es ≡ true → Named (exps_names true N es) → exps_have body w es ≡ true
  gives_all_has [] [] h n = refl
  gives_all_has [] (e ∷ es) h n = absurd (false≢true h)
  gives_all_has (d ∷ ds) [] h n = absurd (false≢true h)
  gives_all_has (d ∷ ds) (e ∷ es) h n =
      let a = and_parts (elim d.kind [ kind.Var t ↦ gives K sc t e | _ ↦ false ]) (gives_all K sc ds es) h in
      and_from (exp_has body w e) (exps_have body w es) (go d.kind a.0 (named_left (exp_names true N e) (exps_names true N es) n)) (gives_all_has ds es a.1 (named_right (exp_names true N e) (exps_names true N es) n))
    where
      go : (k : KKind) → (elim k [ kind.Var t ↦ gives K sc t e | _ ↦ false ]) ≡ true → Named (exp_names true N e) → exp_has body w e ≡ true
      go (kind.Var t) x m = gives_has t e x m
      go (kind.Alias c) x m = absurd (false≢true x)
      go (kind.Pool c k) x m = absurd (false≢true x)

  on_ty_has : (o : Option Ty) (e : Option KExp) → on_ty K o (λ t. gives_if K sc t e) ≡ true → Named (maybe_exp true N e) → maybe_has body w e ≡ true
  on_ty_has None e h n = absurd (false≢true h)
  on_ty_has (Some t) e h n = gives_if_has t e h n

  code_has : (c : ℕ) (es : List KExp) (f : KCode → Bool) → on_code K sc c f ≡ true → ((k : KCode) → f k ≡ true → gives_all K sc k.params es ≡ true) → Named (exps_names true N es) → exps_have body w es ≡ true
  code_has c es f h g n = go (code_at c K.codes) (and_parts (is_above K c sc.code) _ h).1
    where
      go : (o : Option KCode) → (elim o [ None ↦ false | Some k ↦ f k ]) ≡ true → exps_have body w es ≡ true
      go None e = absurd (false≢true e)
      go (Some k) e = gives_all_has k.params es (g k e) n

  escape_has : (m : ℕ) (e : Option KExp) (aims : List Aim) → escape_ok K sc m e aims ≡ true → Named (maybe_exp true N e) → maybe_has body w e ≡ true
  escape_has m e [] h n = absurd (false≢true h)
  escape_has m e (DoAim j None ∷ aims) h n = go (j == m) h (λ x. escape_has m e aims x n)
    where
      go : (b : Bool) → (if b then gives_if K sc ty.None e else escape_ok K sc m e aims) ≡ true → (escape_ok K sc m e aims ≡ true → maybe_has body w e ≡ true) → maybe_has body w e ≡ true
      go true x ih = gives_if_has ty.None e x n
      go false x ih = ih x
  escape_has m e (DoAim j (Some t) ∷ aims) h n = go (j == m) h (λ x. escape_has m e aims x n)
    where
      go : (b : Bool) → (if b then gives_if K sc t e else escape_ok K sc m e aims) ≡ true → (escape_ok K sc m e aims ≡ true → maybe_has body w e ≡ true) → maybe_has body w e ≡ true
      go true x ih = gives_if_has t e x n
      go false x ih = ih x
  escape_has m e (BodyAim j t ∷ aims) h n = go (j == m) h (λ x. escape_has m e aims x n)
    where
      go : (b : Bool) → (if b then gives_if K sc t e else escape_ok K sc m e aims) ≡ true → (escape_ok K sc m e aims ≡ true → maybe_has body w e ≡ true) → maybe_has body w e ≡ true
      go true x ih = gives_if_has t e x n
      go false x ih = ih x
  escape_has m e (LoopAim j ∷ aims) h n = escape_has m e aims h n

  arm_has : (a : KArm) → arm_ok K N sc a ≡ true → Named (arm_names true N a) → exp_has body w (out-KArm a).cond ≡ true
  unfolding arm_ok arm_names out-KArm Carrier.out
  arm_has (KArm' c b) h m = gives_has ty.Bool c (and_parts (gives K sc ty.Bool c) (block_ok K N sc b) h).0 (named_left (exp_names true N c) (block_names true N b) m)

  arms_have : {n : _} (rows : Row_of-KArm n) → arms_ok K N sc rows ≡ true → Named (arms_names true N rows) → conditions_have body w (items-the_row-KArm n rows) ≡ true
  unfolding arms_ok arms_names
  arms_have end_of-KArm h m = refl
  arms_have (more_of-KArm a rest) h m =
      let x = and_parts (arm_ok K N sc a) (arms_ok K N sc rest) h in
      and_from (exp_has body w (out-KArm a).cond) (conditions_have body w (items-the_row-KArm _ rest)) (arm_has a x.0 (named_left (arm_names true N a) (arms_names true N rest) m)) (arms_have rest x.1 (named_right (arm_names true N a) (arms_names true N rest) m))

  -- ---- a statement

  abbrev FineStmt : KStmt → Type 0
  FineStmt st = (x : ℕ) → is_cell (find x sc.seen) ≡ true → (has body x w ≡ true) ⊎ ((count_of x (stmt_names true N st) ≡ 0) ⊎ ((sets x st ≡ true) × (count_of x (stmt_names true N st) ≡ 1)))

  fine_named : (st : KStmt) (ns : List ℕ) → FineStmt st → ((x : ℕ) → count_of x ns ≤ count_of x (stmt_names true N st)) → ((x : ℕ) → sets x st ≡ true → suc (count_of x ns) ≤ count_of x (stmt_names true N st)) → Named ns
  fine_named st ns f a b = λ x c l. go x l (f x c)
    where
      go : (x : ℕ) → 1 ≤ count_of x ns → (has body x w ≡ true) ⊎ ((count_of x (stmt_names true N st) ≡ 0) ⊎ ((sets x st ≡ true) × (count_of x (stmt_names true N st) ≡ 1))) → has body x w ≡ true
      go x l (inl h) = h
      go x l (inr (inl z)) = let y = a x in absurd (omega (arith, l, y, z))
      go x l (inr (inr z)) = let y = b x z.0 in absurd (omega (arith, l, y, z.1))

  own_named : (x : ℕ) (a : Option ℕ) → is_slot x a ≡ true → 1 ≤ count_of x (maybe_own true N a)
  own_named x None h = absurd (false≢true h)
  own_named x (Some y) h = subst (λ b. 1 ≤ (if b then 1 else 0)) (sym h) (omega arith)

  loc_counts : (l : Loc) (x : ℕ) → (l.slot == x) ≡ true → count_of x (loc_names true N l) ≡ 1
  loc_counts l x h = ap (λ b. if b then 1 else 0) h

  pub started_has : (n : ℕ) (st : KStmt) → stmt_ok K N sc n st ≡ true → FineStmt st → layer_has body w (out-KStmt st) ≡ true
  unfolding stmt_ok stmt_names out-KStmt Carrier.out
  started_has n (kernel.Assign l e) h f =
      gives_has l.ty e (and_parts (takes K sc l.ty l) (gives K sc l.ty e) h).1
      (fine_named (kernel.Assign l e) (exp_names true N e) f (λ x. omega (arith, count_append x (loc_names true N l) (exp_names true N e))) (λ x q. omega (arith, count_append x (loc_names true N l) (exp_names true N e), loc_counts l x q)))
  started_has n (kernel.Out k e) h f = on_ty_has (port_ty K k K.outputs) e (and_parts (outside_asyncs sc.place) _ h).1 (fine_named (kernel.Out k e) (maybe_exp true N e) f (λ x. omega arith) (λ x q. absurd (false≢true q)))
  started_has n (kernel.Emit k e) h f = on_ty_has (event_seen K sc (event_at K k K.events)) e (and_parts (is_trail sc.place) _ h).1 (fine_named (kernel.Emit k e) (maybe_exp true N e) f (λ x. omega arith) (λ x q. absurd (false≢true q)))
  started_has n (kernel.AwaitTime e u t) h f =
      typed_has e.node e.ty (and_parts (typed (reads K sc) (asks K sc) e) _ (and_parts (typed (reads K sc) (asks K sc) e && is_amount e.ty) _ (and_parts (is_trail sc.place) (time_ok K sc e u) (and_parts (is_trail sc.place && time_ok K sc e u) (takes_if K sc ty.S32 t) h).0).1).0).0
      (fine_named (kernel.AwaitTime e u t) (exp_names true N e) f (λ x. omega (arith, count_append x (exp_names true N e) (maybe_loc true N t))) (λ x q. let y = loc_named N x t q in omega (arith, y, count_append x (exp_names true N e) (maybe_loc true N t))))
  started_has n (kernel.AwaitCode c es g t) h f =
      code_has c es (λ k. gives_all K sc k.params es && takes_if K sc k.result t) (and_parts (is_trail sc.place) _ h).1 (λ k q. (and_parts (gives_all K sc k.params es) (takes_if K sc k.result t) q).0)
      (fine_named (kernel.AwaitCode c es g t) (exps_names true N es) f (λ x. omega (arith, count_append x (exps_names true N es) (maybe_loc true N t), count_append x (exps_names true N es ++ maybe_loc true N t) (named_by c N)))
      (λ x q. let y = loc_named N x t q in omega (arith, y, count_append x (exps_names true N es) (maybe_loc true N t), count_append x (exps_names true N es ++ maybe_loc true N t) (named_by c N))))
  started_has n (kernel.Spawn c es p a) h f =
      code_has c es (λ k. gives_all K sc k.params es)
      (and_parts (is_trail sc.place) _ (and_parts (is_trail sc.place && on_code K sc c (λ k. gives_all K sc k.params es)) _ (and_parts _ (elim a [ None ↦ true | Some y ↦ alias_takes c p (find y sc.seen) ]) h).0).0).1 (λ k q. q)
      (fine_named (kernel.Spawn c es p a) (exps_names true N es) f (λ x. omega (arith, count_append x (exps_names true N es) (maybe_own true N a), count_append x (exps_names true N es ++ maybe_own true N a) (named_by c N)))
      (λ x q. let y = own_named x a q in omega (arith, y, count_append x (exps_names true N es) (maybe_own true N a), count_append x (exps_names true N es ++ maybe_own true N a) (named_by c N))))
  started_has n (kernel.Kill c) h f = fine_named (kernel.Kill c) (c ∷ []) f (λ x. omega arith) (λ x q. absurd (false≢true q)) c (alias_cell (find c sc.seen) (and_parts (is_trail sc.place) _ h).1) (one c)
  started_has n (kernel.Escape m e) h f = escape_has m e sc.aims (and_parts (outside_finalizers sc.place) _ h).1 (fine_named (kernel.Escape m e) (maybe_exp true N e) f (λ x. omega arith) (λ x q. absurd (false≢true q)))
  started_has n (If' x arms last) h f =
      subst (λ l. conditions_have body w l ≡ true) (sym (items_shown-the_row-KArm-0 x arms))
      (arms_have arms (and_parts (outside_finalizers sc.place) _ (and_parts (outside_finalizers sc.place && arms_ok K N sc arms) (block_ok K N sc last) h).0).1
      (fine_named (If' x arms last) (arms_names true N arms) f (λ y. omega (arith, count_append y (arms_names true N arms) (block_names true N last))) (λ y q. absurd (false≢true q))))
  started_has n (kernel.Loop turns.Free b) h f = refl
  started_has n (kernel.Loop (turns.Times slot m) b) h f = refl
  started_has n (kernel.Loop (turns.Range i next end open_a a c open_b) b) h f =
      let k = turns.Range i next end open_a a c open_b in
      let g = (and_parts (outside_finalizers sc.place) (loop_ok K sc k) (and_parts (outside_finalizers sc.place && loop_ok K sc k) _ h).0).1 in
      let m = fine_named (kernel.Loop k b) (exp_names true N a ++ exp_names true N c) f (λ y. omega (arith, count_append y (exp_names true N a ++ exp_names true N c) (block_names true N b))) (λ y q. absurd (false≢true q)) in
      let z = and_parts (gives K sc ty.S32 a) (gives K sc ty.S32 c) g in
      and_from (exp_has body w a) (exp_has body w c) (gives_has ty.S32 a z.0 (named_left (exp_names true N a) (exp_names true N c) m)) (gives_has ty.S32 c z.1 (named_right (exp_names true N a) (exp_names true N c) m))
  started_has n st h f = refl
