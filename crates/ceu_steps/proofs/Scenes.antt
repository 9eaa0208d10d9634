-- What is seen from a part that is reached: the variables around it, each with a slot and a type of its own, and no alias.
use Rattle.std.proofs.Common.{◌≡◌, ◌≢◌, refl, sym, ap, ◌∙◌, subst, ◌<◌, ◌≤◌, ◌⊎◌, inl, inr, ℕ, zero, suc, ◌+◌, Bool, true, false, ◌==◌, ◌&&◌, if◌then◌else◌, List, [], ◌∷◌, ◌++◌, length, Some, None, Contains, arith, eqb-true}
use Rattle.std.proofs.lemmas.Bool.{and_parts, false≢true}
use Rattle.std.proofs.lemmas.List.{append-nil}
use Rattle.std.specs.List.{list_all}
use Rattle.std.specs.Prelude.{not, nat_le}
use Rattle.std.proofs.lemmas.List.Elements.{Contains-append_cases}
use Rattle.ceu_base.specs.declared.kinds.Ty.{Ty}
use Rattle.ceu_base.specs.declared.kinds.Ty.TheVariants as ty
use Rattle.ceu_tree.specs.declared.kernel.Kernel.{Kernel}
use Rattle.ceu_tree.specs.declared.kernel.KArm.{KArm}
use Rattle.ceu_tree.specs.declared.kernel.KDecl.{KDecl}
use Rattle.ceu_tree.specs.declared.kernel.KKind.{KKind}
use Rattle.ceu_tree.specs.declared.kernel.KKind.TheVariants as kind
use Rattle.ceu_tree.specs.declared.kernel.KLoop.{KLoop}
use Rattle.ceu_tree.specs.declared.kernel.KLoop.TheVariants as turns
use Rattle.ceu_tree.specs.declared.kernel.KNode.{KNode}
use Rattle.ceu_tree.specs.declared.kernel.KBlock.{KBlock, KBlock', out-KBlock}
use Rattle.ceu_tree.specs.declared.kernel.KStmt.{out-KStmt}
use Rattle.ceu_tree.specs.declared.kernel.KStmt.TheOpen.{KStmt-F}
use Rattle.ceu_tree.specs.Leaf.{Layer}
use Rattle.ceu_tree.specs.Legal.{finalizers_of}
use Rattle.ceu_tree.specs.Mentions.{all_set}
use Rattle.ceu_tree.specs.Numbering.{counts_from, decl_slots, loop_slots, stmt_slots, stmt_nodes, block_slots, block_nodes}
use Rattle.ceu_tree.specs.Proper.{Scope, Seen, IsLoopVariable, find, slot_kind, declared_seen, pool_slots, pools_seen, is_alias, outside_finalizers, decl_ok, block_ok, is_proper}
use Rattle.ceu_tree.specs.Residual.{no_instance}
use Rattle.ceu_tree.specs.Typing.{same_ty}
use Rattle.ceu_tree.specs.Focus.{Frame}
use Rattle.laws_meaning_basics.specs.Shape.{Part, ABlock, AStatement, AnEnd, block_scope, part_scope, turn_scope, opens_part, among_arms, around_statement, around_part, around_turn, none_lives}
use Rattle.laws_meaning_basics.proofs.Static.{names_of, BlockOk, StmtOk, nodes_fine, arms_fine, layer_fine, block_static, stmt_static, program_static}
use Rattle.ceu_single.specs.Single.{block_single, is_variable_decl, is_variable}
use Rattle.laws_meaning_values.specs.Ground.{Ground, Numbered}
use Rattle.laws_meaning_values.proofs.Grounds.{list_ground, inner_ground, hidden_counts, part_ground, program_ground}
use Rattle.ceu_trail.specs.Parts.{PartSingle}
use Rattle.ceu_trail.specs.Within.{Variable, declared, all_declared, turned, looped}
use Rattle.ceu_within.proofs.Widths.{variable, none_there, one_there, of_decl}
use Rattle.ceu_within.proofs.Scopes.{ScopeIn, frame_in}
use Rattle.ceu_within.proofs.Once.{Once, Before, before_more, block_once, turn_once}
use Rattle.ceu_steps.specs.Reached.{Reached, at_program, at_statement, at_end, in_part, in_turn}
use Rattle.ceu_steps.specs.Live.{vars_in, hidden_loop, hidden_layer, hidden_in}
use denote.Hole.Carrier

pub record Scene (outer : List Frame) (sc : Scope) (slots nodes : List ℕ) : Type 0 where
  pub scope : ScopeIn sc (vars_in outer)
  pub once : Once (vars_in outer)
  pub ground : Ground
  pub on : Numbered slots nodes ground
  pub before : Before (vars_in outer) ground.low
  pub hidden_before : (x : ℕ) → Contains (hidden_in outer) x → x < ground.low
  pub hidden_apart : (x : ℕ) (v : Variable) → Contains (hidden_in outer) x → Contains (vars_in outer) v → x ≢ v.slot
  pub some_type : (v : Variable) → Contains (vars_in outer) v → v.ty ≢ ty.None
  pub no_alias : (slot : ℕ) → is_alias (find slot sc.seen) ≡ false

-- ---- declarations

declared_low : (ds : List KDecl) (k : ℕ) (v : Variable) → counts_from k (decl_slots ds) ≡ true → Contains (all_declared ds) v → k ≤ v.slot
declared_low [] k v h c = absurd (none_there v c)
declared_low (d ∷ ds) k v h c =
    let a = and_parts (d.slot == k) (counts_from (k + 1) (decl_slots ds)) h in
    let e = eqb-true d.slot k a.0 in
    elim (Contains-append_cases (declared d d.kind) (all_declared ds) v c) [
      | inl x ↦ (let s = of_decl d d.kind v x in omega (arith, e, s))
      | inr x ↦ (let s = declared_low ds (k + 1) v a.1 x in omega arith)
    ]

same_none : (t : Ty) → not (same_ty t ty.None) ≡ true → t ≢ ty.None
same_none t h e = false≢true (subst (λ (u : Ty). not (same_ty u ty.None) ≡ true) e h)

declared_some : (K : Kernel) (sc : Scope) (ds : List KDecl) (v : Variable) → list_all (decl_ok K sc) ds ≡ true → Contains (all_declared ds) v → v.ty ≢ ty.None
declared_some K sc [] v h c = absurd (none_there v c)
declared_some K sc (d ∷ ds) v h c = by (Contains-append_cases (declared d d.kind) (all_declared ds) v c) (declared_some K sc ds v (and_parts (decl_ok K sc d) (list_all (decl_ok K sc) ds) h).1)
  where
    ok : decl_ok K sc d ≡ true
    ok = (and_parts (decl_ok K sc d) (list_all (decl_ok K sc) ds) h).0

    one : (j : KKind) → d.kind ≡ j → Contains (declared d j) v → v.ty ≢ ty.None
    one (kind.Var t) e x =
        let a : decl_ok K sc (record d { kind = kind.Var t }) ≡ true = subst (λ (j : KKind). decl_ok K sc (record d { kind = j }) ≡ true) e ok in
        let b = (and_parts (not (same_ty t ty.None) && outside_finalizers sc.place) (nat_le 1 d.pos.line) (and_parts (not (same_ty t ty.None) && outside_finalizers sc.place && nat_le 1 d.pos.line) (nat_le 1 d.pos.col) a).0).0 in
        subst (λ (u : Variable). u.ty ≢ ty.None) (one_there (variable d.slot t) v x) (same_none t (and_parts (not (same_ty t ty.None)) (outside_finalizers sc.place) b).0)
    one (kind.Alias n) e x = absurd (none_there v x)
    one (kind.Pool n m) e x = absurd (none_there v x)

    by : Contains (declared d d.kind) v ⊎ Contains (all_declared ds) v → (Contains (all_declared ds) v → v.ty ≢ ty.None) → v.ty ≢ ty.None
    by (inl x) ih = one d.kind refl x
    by (inr x) ih = ih x

-- ---- no alias

plain_kind : (pools : List ℕ) (j : KKind) → is_variable j ≡ true → is_alias (Some (slot_kind pools j)) ≡ false
plain_kind pools (kind.Var t) h = refl
plain_kind pools (kind.Alias c) h = absurd (false≢true h)
plain_kind pools (kind.Pool n c) h = absurd (false≢true h)

plain_declared : (pools : List ℕ) (ds : List KDecl) (seen : List Seen) (slot : ℕ) → list_all is_variable_decl ds ≡ true → is_alias (find slot seen) ≡ false → is_alias (find slot (declared_seen pools ds seen)) ≡ false
plain_declared pools [] seen slot h e = e
plain_declared pools (d ∷ ds) seen slot h e = go (d.slot == slot) (plain_declared pools ds seen slot (and_parts (is_variable_decl d) (list_all is_variable_decl ds) h).1 e)
  where
    go : (b : Bool) → is_alias (find slot (declared_seen pools ds seen)) ≡ false → is_alias (if b then Some (slot_kind pools d.kind) else find slot (declared_seen pools ds seen)) ≡ false
    go true ih = plain_kind pools d.kind (and_parts (is_variable_decl d) (list_all is_variable_decl ds) h).0
    go false ih = ih

pub block_plain : (b : KBlock) → block_single b ≡ true → list_all is_variable_decl (out-KBlock b).decls ≡ true
unfolding block_single out-KBlock Carrier.out
block_plain (KBlock' n ds k list) h = (and_parts (list_all is_variable_decl ds) _ h).0

part_seen : (K : Kernel) (sc : Scope) (n : ℕ) (layer : Layer) (b : KBlock) → opens_part layer b → (part_scope K sc n layer).seen ≡ sc.seen
part_seen K sc n (KStmt-F.Do None c) b o = refl
part_seen K sc n (KStmt-F.Do (Some l) c) b o = refl
part_seen K sc n (KStmt-F.If arms last) b o = refl
part_seen K sc n layer b o = elim o [ ]

turn_plain : (K : Kernel) (sc : Scope) (n : ℕ) (k : KLoop) (slot : ℕ) → is_alias (find slot sc.seen) ≡ false → is_alias (find slot (turn_scope K sc n k).seen) ≡ false
turn_plain K sc n turns.Free slot e = e
turn_plain K sc n (turns.Times s m) slot e = e
turn_plain K sc n (turns.Range i next end open_a a b open_b) slot e = go (i == slot)
  where
    go : (t : Bool) → is_alias (if t then Some IsLoopVariable else find slot sc.seen) ≡ false
    go true = refl
    go false = e

-- ---- what the rules on a kernel say of a part

fine_at : (K : Kernel) (sc : Scope) (done rest : List KNode) (s : KNode) → nodes_fine K (names_of K) sc (done ++ s ∷ rest) → StmtOk K (names_of K) sc s
fine_at K sc [] rest s h = h.0
fine_at K sc (q ∷ done) rest s h = fine_at K sc done rest s h.1

arm_fine : (K : Kernel) (sc : Scope) (arms : List KArm) (b : KBlock) → among_arms arms b → arms_fine K (names_of K) sc arms → BlockOk K (names_of K) sc b
arm_fine K sc [] b o h = elim o [ ]
arm_fine K sc (a ∷ arms) b (inl e) h = subst (BlockOk K (names_of K) sc) e h.0
arm_fine K sc (a ∷ arms) b (inr o) h = arm_fine K sc arms b o h.1

part_fine : (K : Kernel) (sc : Scope) (n : ℕ) (layer : Layer) (b : KBlock) → opens_part layer b → layer_fine K (names_of K) sc n layer → BlockOk K (names_of K) (part_scope K sc n layer) b
part_fine K sc n (KStmt-F.Do t c) b o h = subst (BlockOk K (names_of K) (part_scope K sc n (KStmt-F.Do t c))) o h
part_fine K sc n (KStmt-F.If arms last) b (inl o) h = arm_fine K sc arms b o h.0
part_fine K sc n (KStmt-F.If arms last) b (inr e) h = subst (BlockOk K (names_of K) sc) e h.1
part_fine K sc n layer b o h = elim o [ ]

decls_fine : (K : Kernel) (sc : Scope) (b : KBlock) → BlockOk K (names_of K) sc b → list_all (decl_ok K sc) (out-KBlock b).decls ≡ true
unfolding block_ok out-KBlock Carrier.out
decls_fine K sc (KBlock' n ds k list) h = (and_parts (list_all (decl_ok K sc) ds) _ (and_parts (list_all (decl_ok K sc) ds && all_set (names_of K) ds list) _ h).0).0

-- ---- hidden slots

hidden_within : (k : KLoop) (low : ℕ) (x : ℕ) → counts_from low (loop_slots k) ≡ true → Contains (hidden_loop k) x → (low ≤ x) × (x < low + length (loop_slots k))
hidden_within turns.Free low x h c = absurd (omega (arith, c.1))
hidden_within (turns.Times slot n) low x h (zero, lt, e) = let a = eqb-true slot low (and_parts (slot == low) true h).0 in (omega (arith, a, e), omega (arith, a, e))
hidden_within (turns.Times slot n) low x h (suc j, lt, e) = absurd (omega arith)
hidden_within (turns.Range i next end open_a a b open_b) low x h c = go c
  where
    second : next ≡ low + 1
    second = eqb-true next (low + 1) (and_parts (next == low + 1) (counts_from (low + 1 + 1) (end ∷ [])) (and_parts (i == low) (counts_from (low + 1) (next ∷ end ∷ [])) h).1).0

    third : end ≡ low + 1 + 1
    third = eqb-true end (low + 1 + 1) (and_parts (end == low + 1 + 1) true (and_parts (next == low + 1) (counts_from (low + 1 + 1) (end ∷ [])) (and_parts (i == low) (counts_from (low + 1) (next ∷ end ∷ [])) h).1).1).0

    go : Contains (next ∷ end ∷ []) x → (low ≤ x) × (x < low + 3)
    go (zero, lt, e) = (omega (arith, second, e), omega (arith, second, e))
    go (suc zero, lt, e) = (omega (arith, third, e), omega (arith, third, e))
    go (suc (suc j), lt, e) = absurd (omega arith)

hidden_own : (k : KLoop) (low : ℕ) (x : ℕ) (v : Variable) → counts_from low (loop_slots k) ≡ true → Contains (hidden_loop k) x → Contains (turned k) v → (v.slot ≡ low) × (x ≢ v.slot)
hidden_own turns.Free low x v h c d = absurd (none_there v d)
hidden_own (turns.Times slot n) low x v h c d = absurd (none_there v d)
hidden_own (turns.Range i next end open_a a b open_b) low x v h c d = (ap (λ u. u.slot) (sym (one_there (variable i ty.S32) v d)) ∙ first, go c)
  where
    first : i ≡ low
    first = eqb-true i low (and_parts (i == low) (counts_from (low + 1) (next ∷ end ∷ [])) h).0

    second : next ≡ low + 1
    second = eqb-true next (low + 1) (and_parts (next == low + 1) (counts_from (low + 1 + 1) (end ∷ [])) (and_parts (i == low) (counts_from (low + 1) (next ∷ end ∷ [])) h).1).0

    third : end ≡ low + 1 + 1
    third = eqb-true end (low + 1 + 1) (and_parts (end == low + 1 + 1) true (and_parts (next == low + 1) (counts_from (low + 1 + 1) (end ∷ [])) (and_parts (i == low) (counts_from (low + 1) (next ∷ end ∷ [])) h).1).1).0

    is_i : v.slot ≡ i
    is_i = ap (λ u. u.slot) (sym (one_there (variable i ty.S32) v d))

    go : Contains (next ∷ end ∷ []) x → x ≢ v.slot
    go (zero, lt, e) q = absurd (omega (arith, first, second, is_i, e, q))
    go (suc zero, lt, e) q = absurd (omega (arith, first, third, is_i, e, q))
    go (suc (suc j), lt, e) q = absurd (omega arith)

own_low : (k : KLoop) (low : ℕ) (v : Variable) → counts_from low (loop_slots k) ≡ true → Contains (turned k) v → v.slot ≡ low
own_low turns.Free low v h d = absurd (none_there v d)
own_low (turns.Times slot n) low v h d = absurd (none_there v d)
own_low (turns.Range i next end open_a a b open_b) low v h d = ap (λ u. u.slot) (sym (one_there (variable i ty.S32) v d)) ∙ eqb-true i low (and_parts (i == low) (counts_from (low + 1) (next ∷ end ∷ [])) h).0

own_type : (k : KLoop) (v : Variable) → Contains (turned k) v → v.ty ≢ ty.None
own_type turns.Free v d = absurd (none_there v d)
own_type (turns.Times slot n) v d = absurd (none_there v d)
own_type (turns.Range i next end open_a a b open_b) v d = subst (λ (u : Variable). u.ty ≢ ty.None) (one_there (variable i ty.S32) v d) (λ e. absurd (cc))

-- ---- the parts that are reached

module _ (K : Kernel) (proper : is_proper K ≡ true) (single_of : (outer : List Frame) (d : Part) → Reached K outer d → PartSingle d) where
  abbrev pub SceneAt : List Frame → Part → Type 0
  SceneAt outer (ABlock turn sc b) = Scene outer sc (block_slots b) (block_nodes b) × BlockOk K (names_of K) sc b
  SceneAt outer (AStatement sc s) = Scene outer sc (stmt_slots s.stmt) (s.node ∷ stmt_nodes s.stmt) × StmtOk K (names_of K) sc s
  SceneAt outer AnEnd = Unit {0}

  pub scene_of : {outer : List Frame} {d : Part} → Reached K outer d → SceneAt outer d
  scene_of at_program = (
    record {
      scope = record { seen = λ slot t e. absurd (cc); main = refl };
      once = record { one = λ x y c d e. absurd (none_there x c) };
      ground = record { low = 0; high = length (block_slots K.body); first = 0; last = length (block_nodes K.body) };
      on = program_ground K proper;
      before = record { lower = λ x c. absurd (none_there x c) };
      hidden_before = λ x c. absurd (omega (arith, c.1));
      hidden_apart = λ x v c d. absurd (none_there v d);
      some_type = λ v c. absurd (none_there v c);
      no_alias = λ slot. refl;
    },
    program_static K proper,
  )
  scene_of (at_statement {outer = outer} {turn = turn} {sc = sc} {b = b} {s = s} {rest = rest} done x e pl) =
      let h = scene_of x in
      let a = h.0 in
      let i = list_ground b done s rest a.ground e a.on in
      let o = block_once (vars_in outer) b done s rest a.ground e a.on a.once a.before in (
        record {
          scope = frame_in {t = 1} K (around_statement {turn = turn} {sc = sc} {b = b} {fin = finalizers_of [] done} {rest = rest} {all = no_instance} {s = s} done e refl none_lives) (pl, refl) (vars_in outer) a.scope;
          once = o.0;
          ground = i.ground;
          on = i.on;
          before = o.1;
          hidden_before = λ y c. (let z = a.hidden_before y c in omega (arith, z, i.inner.low));
          hidden_apart = λ y v c d. elim (Contains-append_cases (vars_in outer) (all_declared (out-KBlock b).decls) v d) [
            | inl z ↦ a.hidden_apart y v c z
            | inr z ↦ (λ q. (let l = declared_low (out-KBlock b).decls a.ground.low v i.declared z in let m = a.hidden_before y c in absurd (omega (arith, l, m, q))))
          ];
          some_type = λ v c. elim (Contains-append_cases (vars_in outer) (all_declared (out-KBlock b).decls) v c) [
            | inl z ↦ a.some_type v z
            | inr z ↦ declared_some K sc (out-KBlock b).decls v (decls_fine K sc b h.1) z
          ];
          no_alias = λ slot. plain_declared (pool_slots (out-KBlock b).decls ++ pools_seen sc.seen) (out-KBlock b).decls sc.seen slot (block_plain b (single_of outer (ABlock turn sc b) x)) (a.no_alias slot);
        },
        fine_at K (block_scope sc b) done rest s (subst (nodes_fine K (names_of K) (block_scope sc b)) e (block_static K (names_of K) sc b h.1)),
      )
  scene_of (at_end x pl) = tt
  scene_of (in_part {outer = outer} {sc = sc} {s = s} b x o) =
      let h = scene_of x in
      let a = h.0 in
      let i = part_ground s b a.ground o a.on in
      let same = append-nil (vars_in outer) in
      let back = λ (v : Variable) (c : Contains (vars_in outer ++ []) v). subst (λ (l : List Variable). Contains l v) same c in (
        record {
          scope = frame_in {t = 1} K (around_part {sc = sc} {s = s} b o) tt (vars_in outer) a.scope;
          once = subst Once (sym same) a.once;
          ground = i.ground;
          on = i.on;
          before = subst (λ (l : List Variable). Before l i.ground.low) (sym same) (before_more (vars_in outer) a.ground.low i.ground.low i.inner.low a.before);
          hidden_before = λ y c. (let z = a.hidden_before y c in omega (arith, z, i.inner.low));
          hidden_apart = λ y v c d. a.hidden_apart y v c (back v d);
          some_type = λ v c. a.some_type v (back v c);
          no_alias = λ slot. ap (λ l. is_alias (find slot l)) (part_seen K sc s.node (out-KStmt s.stmt) b o) ∙ a.no_alias slot;
        },
        part_fine K sc s.node (out-KStmt s.stmt) b o (stmt_static K (names_of K) sc s.node s.stmt h.1),
      )
  scene_of (in_turn {outer = outer} {sc = sc} {s = s} {c = c} k b x e n) =
      let h = scene_of x in
      let a = h.0 in
      let i = inner_ground s (KStmt-F.Loop k b) a.ground e a.on in
      let own = hidden_counts s (KStmt-F.Loop k b) a.ground e a.on in
      let o = turn_once (vars_in outer) s k b a.ground e a.on a.once a.before in
      let hid = λ (y : ℕ) (d : Contains (hidden_layer (out-KStmt s.stmt)) y). subst (λ l. Contains (hidden_layer l) y) e d in
      let var = λ (v : Variable) (d : Contains (looped (out-KStmt s.stmt)) v). subst (λ l. Contains (looped l) v) e d in (
        record {
          scope = frame_in {t = 1} K (around_turn {sc = sc} {s = s} {c = c} k b e n) tt (vars_in outer) a.scope;
          once = subst (λ l. Once (vars_in outer ++ looped l)) (sym e) o.0;
          ground = i.ground;
          on = i.on;
          before = subst (λ l. Before (vars_in outer ++ looped l) i.ground.low) (sym e) o.1;
          hidden_before = λ y d. elim (Contains-append_cases (hidden_layer (out-KStmt s.stmt)) (hidden_in outer) y d) [
            | inl z ↦ (let q = hidden_within k a.ground.low y own.0 (hid y z) in omega (arith, q.1, i.behind))
            | inr z ↦ (let q = a.hidden_before y z in omega (arith, q, i.inner.low))
          ];
          hidden_apart = λ y v d f. elim (Contains-append_cases (hidden_layer (out-KStmt s.stmt)) (hidden_in outer) y d) [
            | inl z ↦ elim (Contains-append_cases (vars_in outer) (looped (out-KStmt s.stmt)) v f) [
              | inl u ↦ (λ q. (let l = hidden_within k a.ground.low y own.0 (hid y z) in let m = a.before.lower v u in absurd (omega (arith, l.0, m, q))))
              | inr u ↦ (hidden_own k a.ground.low y v own.0 (hid y z) (var v u)).1
            ]
            | inr z ↦ elim (Contains-append_cases (vars_in outer) (looped (out-KStmt s.stmt)) v f) [
              | inl u ↦ a.hidden_apart y v z u
              | inr u ↦ (λ q. (let l = a.hidden_before y z in let m = own_low k a.ground.low v own.0 (var v u) in absurd (omega (arith, l, m, q))))
            ]
          ];
          some_type = λ v d. elim (Contains-append_cases (vars_in outer) (looped (out-KStmt s.stmt)) v d) [ inl u ↦ a.some_type v u | inr u ↦ own_type k v (var v u) ];
          no_alias = λ slot. turn_plain K sc s.node k slot (a.no_alias slot);
        },
        subst (layer_fine K (names_of K) sc s.node) e (stmt_static K (names_of K) sc s.node s.stmt h.1),
      )
