-- A part that may name what it names has parts that may, too.
use Rattle.std.proofs.Common.{◌≡◌, refl, sym, ap, ◌∙◌, subst, ◌≤◌, ℕ, ◌+◌, Bool, true, false, if◌then◌else◌, ◌==◌, ◌&&◌, ◌||◌, ◌⊎◌, inl, inr, List, [], ◌∷◌, ◌++◌, Some, None, arith}
use Rattle.std.proofs.lemmas.Bool.{false≢true}
use Rattle.ceu_tree.specs.declared.kernel.Kernel.{Kernel}
use Rattle.ceu_tree.specs.declared.kernel.KCode.{KCode}
use Rattle.ceu_tree.specs.declared.kernel.KDecl.{KDecl}
use Rattle.ceu_tree.specs.declared.kernel.KKind.{KKind}
use Rattle.ceu_tree.specs.declared.kernel.KKind.TheVariants as kind
use Rattle.ceu_tree.specs.declared.kernel.KLoop.{KLoop}
use Rattle.ceu_tree.specs.declared.kernel.KLoop.TheVariants as turns
use Rattle.ceu_tree.specs.declared.kernel.ParKind.{ParKind}
use Rattle.ceu_tree.specs.declared.kernel.KNode.{KNode}
use Rattle.ceu_tree.specs.declared.kernel.KArm.{KArm, out-KArm}
use Rattle.ceu_tree.specs.declared.kernel.KBlock.{KBlock, out-KBlock}
use Rattle.ceu_tree.specs.declared.kernel.KStmt.{out-KStmt}
use Rattle.ceu_tree.specs.declared.kernel.KStmt.TheOpen.{KStmt-F}
use Rattle.ceu_tree.specs.Residual.{Body}
use Rattle.ceu_tree.specs.World.{World}
use Rattle.ceu_tree.specs.Leaf.{Layer}
use Rattle.ceu_tree.specs.Legal.{is_set}
use Rattle.ceu_tree.specs.Mentions.{maybe_loc, exp_names, stmt_names, block_names, turns_names, count_of, is_loc, body_target, sets, is_set_decl, outer_names_from}
use Rattle.ceu_tree.specs.Proper.{Scope, Seen, IsLoopVariable, find, declared_seen, slot_kind, pool_slots, pools_seen, block_ok}
use Rattle.laws_meaning_basics.specs.Shape.{ABlock, AStatement, block_scope, part_scope, turn_scope, async_scope, code_part, program_part, among_arms, opens_part}
use Rattle.laws_meaning_values.specs.Ground.{has}
use Rattle.laws_meaning_values.specs.Needed.{own_variable}
use Rattle.laws_meaning_values.specs.Ready.{is_cell, declares, stmt_named, block_named, Ready}
use Rattle.laws_meaning_values.proofs.Names.{count_append, list_names_all, blocks_names_all, arms_names_all, layer_names, block_names_is, stmt_names_is, set_first_all, set_at, declared_static, head_target, body_target_is, layer_sets, sets_is, target_sets, loc_named, target_named}

-- what is seen inside a block is declared there or seen around it
pub find_cell : (x : ℕ) (pools : List ℕ) (ds : List KDecl) (seen : List Seen) → is_cell (find x (declared_seen pools ds seen)) ≡ true → (declares x ds ≡ true) ⊎ (is_cell (find x seen) ≡ true)
find_cell x pools [] seen h = inr h
find_cell x pools (d ∷ ds) seen h = go (d.slot == x) h (find_cell x pools ds seen)
  where
    cell : (k : KKind) → is_cell (Some (slot_kind pools k)) ≡ true → is_set_decl k ≡ true
    cell (kind.Var t) e = refl
    cell (kind.Alias c) e = refl
    cell (kind.Pool n c) e = absurd (false≢true e)

    more : (b : Bool) → (declares x ds ≡ true) ⊎ (is_cell (find x seen) ≡ true) → ((b || declares x ds) ≡ true) ⊎ (is_cell (find x seen) ≡ true)
    more true c = inl refl
    more false c = c

    go : (b : Bool) → is_cell (if b then Some (slot_kind pools d.kind) else find x (declared_seen pools ds seen)) ≡ true
        → (is_cell (find x (declared_seen pools ds seen)) ≡ true → (declares x ds ≡ true) ⊎ (is_cell (find x seen) ≡ true)) → (((b && is_set_decl d.kind) || declares x ds) ≡ true) ⊎ (is_cell (find x seen) ≡ true)
    go true e ih = inl (ap (λ c. c || declares x ds) (cell d.kind e))
    go false e ih = more false (ih e)

module _ (K : Kernel) (body : Body) (w : World) where
  abbrev N : List (List ℕ)
  N = outer_names_from [] K.codes

  -- what a list names is what its statements name
  listed : (x : ℕ) (done : List KNode) (s : KNode) (rest : List KNode) → count_of x (list_names_all N (done ++ s ∷ rest)) ≡ count_of x (list_names_all N done) + (stmt_named K x s + count_of x (list_names_all N rest))
  listed x [] s rest = omega (arith, count_append x (stmt_names true N s.stmt) (list_names_all N rest))
  listed x (q ∷ done) s rest =
      let a = listed x done s rest in omega (arith, a, count_append x (stmt_names true N q.stmt) (list_names_all N (done ++ s ∷ rest)), count_append x (stmt_names true N q.stmt) (list_names_all N done))

  named_in : (x : ℕ) (b : KBlock) (done : List KNode) (s : KNode) (rest : List KNode) → (out-KBlock b).list ≡ done ++ s ∷ rest
      → block_named K x b ≡ count_of x (list_names_all N done) + (stmt_named K x s + count_of x (list_names_all N rest))
  named_in x b done s rest e = ap (count_of x) (block_names_is N b ∙ ap (list_names_all N) e) ∙ listed x done s rest

  abbrev Fine : ℕ → KNode → Type 0
  Fine x s = (has body x w ≡ true) ⊎ ((stmt_named K x s ≡ 0) ⊎ ((sets x s.stmt ≡ true) × (stmt_named K x s ≡ 1)))

  at_head : (x : ℕ) (done : List KNode) (s : KNode) (rest : List KNode) → is_loc x (head_target N (done ++ s ∷ rest)) ≡ true
      → count_of x (list_names_all N done) + (stmt_named K x s + count_of x (list_names_all N rest)) ≡ 1 → Fine x s
  at_head x [] s rest t e = let a = target_named N x s.stmt t in inr (inr (target_sets N x s.stmt t, omega (arith, a, e)))
  at_head x (q ∷ done) s rest t e = let a = target_named N x q.stmt t in inr (inl (omega (arith, a, e, count_append x (stmt_names true N q.stmt) (list_names_all N done))))

  pub ready_list : (turn : Bool) (sc : Scope) (b : KBlock) (done : List KNode) (s : KNode) (rest : List KNode) → block_ok K N sc b ≡ true → (out-KBlock b).list ≡ done ++ s ∷ rest
      → ((x : ℕ) → declares x (out-KBlock b).decls ≡ true → is_set done x ≡ true → has body x w ≡ true) → Ready K body w (ABlock turn sc b) → Ready K body w (AStatement (block_scope sc b) s)
  ready_list turn sc b done s rest ok e need h = λ x c. go x (find_cell x (pool_slots (out-KBlock b).decls ++ pools_seen sc.seen) (out-KBlock b).decls sc.seen c)
    where
      old : (x : ℕ) → (has body x w ≡ true) ⊎ ((block_named K x b ≡ 0) ⊎ ((turn ≡ true) × (is_loc x (body_target b) ≡ true) × (block_named K x b ≡ 1))) → Fine x s
      old x (inl a) = inl a
      old x (inr (inl a)) = inr (inl (let c = named_in x b done s rest e in omega (arith, a, c)))
      old x (inr (inr a)) = at_head x done s rest (sym (ap (is_loc x) (body_target_is N b ∙ ap (head_target N) e)) ∙ a.1) (sym (named_in x b done s rest e) ∙ a.2)

      new : (x : ℕ) → declares x (out-KBlock b).decls ≡ true → (is_set done x ≡ true) ⊎ ((stmt_named K x s ≡ 0) ⊎ ((sets x s.stmt ≡ true) × (stmt_named K x s ≡ 1))) → Fine x s
      new x d (inl a) = inl (need x d a)
      new x d (inr a) = inr a

      go : (x : ℕ) → (declares x (out-KBlock b).decls ≡ true) ⊎ (is_cell (find x sc.seen) ≡ true) → Fine x s
      go x (inl d) = new x d (set_at N x done s rest (subst (λ l. set_first_all N x l ≡ true) e (declared_static N K sc b x ok d)))
      go x (inr c) = old x (h x c)

  -- ---- the parts of a statement

  layer_of : (x : ℕ) (s : KNode) (layer : Layer) → out-KStmt s.stmt ≡ layer → Fine x s → (has body x w ≡ true) ⊎ ((count_of x (layer_names N layer) ≡ 0) ⊎ ((layer_sets N x layer ≡ true) × (count_of x (layer_names N layer) ≡ 1)))
  layer_of x s layer e (inl a) = inl a
  layer_of x s layer e (inr (inl a)) = inr (inl (sym (ap (count_of x) (stmt_names_is N s.stmt ∙ ap (layer_names N) e)) ∙ a))
  layer_of x s layer e (inr (inr a)) = inr (inr (sym (sets_is N x s.stmt ∙ ap (layer_sets N x) e) ∙ a.0, sym (ap (count_of x) (stmt_names_is N s.stmt ∙ ap (layer_names N) e)) ∙ a.1))

  abbrev Whole : ℕ → KBlock → Type 0
  Whole x b = (has body x w ≡ true) ⊎ ((block_named K x b ≡ 0) ⊎ ((false ≡ true) × (is_loc x (body_target b) ≡ true) × (block_named K x b ≡ 1)))

  among_named : (x : ℕ) (arms : List KArm) (b : KBlock) → among_arms arms b → block_named K x b ≤ count_of x (arms_names_all N arms)
  among_named x [] b h = elim h [ ]
  among_named x (a ∷ arms) b (inl e) =
      subst (λ c. block_named K x c ≤ count_of x (arms_names_all N (a ∷ arms))) e
      (omega (arith, count_append x (exp_names true N (out-KArm a).cond) (block_names true N (out-KArm a).body), count_append x (exp_names true N (out-KArm a).cond ++ block_names true N (out-KArm a).body) (arms_names_all N arms)))
  among_named x (a ∷ arms) b (inr h) =
      let i = among_named x arms b h in omega (arith, i, count_append x (exp_names true N (out-KArm a).cond ++ block_names true N (out-KArm a).body) (arms_names_all N arms))

  part_fine : (x : ℕ) (layer : Layer) (b : KBlock) → opens_part layer b → (has body x w ≡ true) ⊎ ((count_of x (layer_names N layer) ≡ 0) ⊎ ((layer_sets N x layer ≡ true) × (count_of x (layer_names N layer) ≡ 1))) → Whole x b
  part_fine x layer b o (inl a) = inl a
  part_fine x (KStmt-F.Do t c) b o (inr (inl a)) = subst (Whole x) o (inr (inl (omega (arith, a, count_append x (maybe_loc true N t) (block_names true N c)))))
  part_fine x (KStmt-F.Do t c) b o (inr (inr a)) = subst (Whole x) o (inr (inl (let l = loc_named N x t a.0 in omega (arith, l, a.1, count_append x (maybe_loc true N t) (block_names true N c)))))
  part_fine x (KStmt-F.If arms last) b (inl o) (inr (inl a)) = inr (inl (let l = among_named x arms b o in omega (arith, l, a, count_append x (arms_names_all N arms) (block_names true N last))))
  part_fine x (KStmt-F.If arms last) b (inr o) (inr (inl a)) = subst (Whole x) o (inr (inl (omega (arith, a, count_append x (arms_names_all N arms) (block_names true N last)))))
  part_fine x (KStmt-F.If arms last) b o (inr (inr a)) = absurd (false≢true a.0)
  part_fine x layer b o (inr a) = elim o [ ]

  pub ready_part : (sc : Scope) (s : KNode) (b : KBlock) → opens_part (out-KStmt s.stmt) b → Ready K body w (AStatement sc s) → Ready K body w (ABlock false (part_scope K sc s.node (out-KStmt s.stmt)) b)
  ready_part sc s b o h = λ x c. part_fine x (out-KStmt s.stmt) b o (layer_of x s (out-KStmt s.stmt) refl (h x (seen (out-KStmt s.stmt) o x c)))
    where
      seen : (layer : Layer) → opens_part layer b → (x : ℕ) → is_cell (find x (part_scope K sc s.node layer).seen) ≡ true → is_cell (find x sc.seen) ≡ true
      seen (KStmt-F.Do None c) p x e = e
      seen (KStmt-F.Do (Some l) c) p x e = e
      seen (KStmt-F.If arms last) p x e = e
      seen layer p x e = elim p [ ]

  pub ready_async : (sc : Scope) (s : KNode) (b : KBlock) → out-KStmt s.stmt ≡ KStmt-F.Async b → Ready K body w (AStatement sc s) → Ready K body w (ABlock false (async_scope K sc) b)
  ready_async sc s b e h = λ x c. go x (layer_of x s (KStmt-F.Async b) e (h x c))
    where
      go : (x : ℕ) → (has body x w ≡ true) ⊎ ((block_named K x b ≡ 0) ⊎ ((false ≡ true) × (block_named K x b ≡ 1))) → Whole x b
      go x (inl a) = inl a
      go x (inr (inl a)) = inr (inl a)
      go x (inr (inr a)) = absurd (false≢true a.0)

  one_branch : (x : ℕ) (bs : List KBlock) (b : KBlock) (cs : List KBlock) → block_named K x b ≤ count_of x (blocks_names_all N (bs ++ b ∷ cs))
  one_branch x [] b cs = omega (arith, count_append x (block_names true N b) (blocks_names_all N cs))
  one_branch x (q ∷ bs) b cs = let i = one_branch x bs b cs in omega (arith, i, count_append x (block_names true N q) (blocks_names_all N (bs ++ b ∷ cs)))

  pub ready_branch : (sc : Scope) (s : KNode) (k : ParKind) (slot : ℕ) (bs : List KBlock) (b : KBlock) (cs : List KBlock) → out-KStmt s.stmt ≡ KStmt-F.Par k slot (bs ++ b ∷ cs)
      → Ready K body w (AStatement sc s) → Ready K body w (ABlock false sc b)
  ready_branch sc s k slot bs b cs e h = λ x c. go x (layer_of x s (KStmt-F.Par k slot (bs ++ b ∷ cs)) e (h x c))
    where
      go : (x : ℕ) → (has body x w ≡ true) ⊎ ((count_of x (blocks_names_all N (bs ++ b ∷ cs)) ≡ 0) ⊎ ((false ≡ true) × (count_of x (blocks_names_all N (bs ++ b ∷ cs)) ≡ 1))) → Whole x b
      go x (inl a) = inl a
      go x (inr (inl a)) = inr (inl (let i = one_branch x bs b cs in omega (arith, i, a)))
      go x (inr (inr a)) = absurd (false≢true a.0)

  -- a loop's own variable has a value in its turns
  abbrev Turning : ℕ → KBlock → Type 0
  Turning x b = (has body x w ≡ true) ⊎ ((block_named K x b ≡ 0) ⊎ ((true ≡ true) × (is_loc x (body_target b) ≡ true) × (block_named K x b ≡ 1)))

  pub ready_turn : (sc : Scope) (s : KNode) (k : KLoop) (b : KBlock) → out-KStmt s.stmt ≡ KStmt-F.Loop k b → ((x : ℕ) → own_variable x k ≡ true → has body x w ≡ true)
      → Ready K body w (AStatement sc s) → Ready K body w (ABlock true (turn_scope K sc s.node k) b)
  ready_turn sc s k b e own h = λ x c. go k own e x c
    where
      inside : (k : KLoop) → out-KStmt s.stmt ≡ KStmt-F.Loop k b → (x : ℕ) → (has body x w ≡ true) ⊎ ((count_of x (layer_names N (KStmt-F.Loop k b)) ≡ 0) ⊎ ((layer_sets N x (KStmt-F.Loop k b) ≡ true) × (count_of x (layer_names N (KStmt-F.Loop k b)) ≡ 1))) → Turning x b
      inside k q x (inl a) = inl a
      inside k q x (inr (inl a)) = inr (inl (omega (arith, a, count_append x (turns_names true N k) (block_names true N b))))
      inside turns.Free q x (inr (inr a)) = inr (inr (refl, a.0, a.1))
      inside (turns.Times slot n) q x (inr (inr a)) = absurd (false≢true a.0)
      inside (turns.Range i next end open_a y z open_b) q x (inr (inr a)) = absurd (false≢true a.0)

      go : (k : KLoop) → ((x : ℕ) → own_variable x k ≡ true → has body x w ≡ true) → out-KStmt s.stmt ≡ KStmt-F.Loop k b → (x : ℕ) → is_cell (find x (turn_scope K sc s.node k).seen) ≡ true → Turning x b
      go turns.Free o q x c = inside turns.Free q x (layer_of x s _ q (h x c))
      go (turns.Times slot n) o q x c = inside (turns.Times slot n) q x (layer_of x s _ q (h x c))
      go (turns.Range i next end open_a y z open_b) o q x c = either (i == x) refl c
        where
          either : (t : Bool) → (i == x) ≡ t → is_cell (if t then Some IsLoopVariable else find x sc.seen) ≡ true → Turning x b
          either true u v = inl (o x u)
          either false u v = inside (turns.Range i next end open_a y z open_b) q x (layer_of x s _ q (h x v))

  pub ready_code : (c : ℕ) (k : KCode) → ((x : ℕ) → declares x k.params ≡ true → has body x w ≡ true) → Ready K body w (code_part K c k)
  ready_code c k h = λ x e. go x (find_cell x (pool_slots k.params ++ []) k.params [] e)
    where
      go : (x : ℕ) → (declares x k.params ≡ true) ⊎ (is_cell (find x []) ≡ true) → Whole x k.body
      go x (inl d) = inl (h x d)
      go x (inr f) = absurd (false≢true f)

  pub ready_program : Ready K body w (program_part K)
  ready_program = λ x e. absurd (false≢true e)
