-- Where a block stands, which slots are seen from its parts, and on which ground they stand.
use Rattle.std.proofs.Common.{◌≡◌, refl, sym, ap, ◌∙◌, ◌<◌, ◌≤◌, ℕ, suc, ◌+◌, Bool, true, false, if◌then◌else◌, ◌==◌, ◌&&◌, ◌⊎◌, inl, inr, List, [], ◌∷◌, ◌++◌, length, length-append, Some, None, arith, eqb-true, eq-eqb}
use Rattle.std.proofs.lemmas.Bool.{and_parts, and_from, or_cases, false≢true}
use Rattle.ceu_tree.specs.declared.kernel.Kernel.{Kernel}
use Rattle.ceu_tree.specs.declared.kernel.KDecl.{KDecl}
use Rattle.ceu_tree.specs.declared.kernel.KKind.{KKind}
use Rattle.ceu_tree.specs.declared.kernel.KKind.TheVariants as kind
use Rattle.ceu_tree.specs.declared.kernel.KLoop.{KLoop}
use Rattle.ceu_tree.specs.declared.kernel.KLoop.TheVariants as turns
use Rattle.ceu_tree.specs.declared.kernel.KNode.{KNode}
use Rattle.ceu_tree.specs.declared.kernel.KBlock.{KBlock, out-KBlock}
use Rattle.ceu_tree.specs.declared.kernel.KStmt.{out-KStmt}
use Rattle.ceu_tree.specs.declared.kernel.KStmt.TheOpen.{KStmt-F}
use Rattle.ceu_tree.specs.Residual.{Program}
use Rattle.ceu_tree.specs.Leaf.{Layer, rest_of}
use Rattle.ceu_tree.specs.Legal.{same_nodes, before, is_set}
use Rattle.ceu_tree.specs.Mentions.{is_set_decl, sets}
use Rattle.ceu_tree.specs.Numbering.{counts_from, decl_slots, stmt_slots, stmt_nodes, block_slots, block_nodes}
use Rattle.ceu_tree.specs.Proper.{Scope, Seen, IsLoopVariable, find, declared_seen, slot_kind, pool_slots, pools_seen, is_in_code}
use Rattle.ceu_tree.specs.World.{is_among}
use Rattle.laws_meaning_basics.specs.Shape.{block_scope, part_scope, turn_scope, opens_part}
use Rattle.laws_meaning_values.specs.Ground.{Ground, Numbered, Outside}
use Rattle.laws_meaning_values.specs.Ready.{is_cell, declares}
use Rattle.laws_meaning_values.proofs.Counts.{counted_within, Inner}
use Rattle.laws_meaning_values.proofs.Grounds.{InBlock, InStatement, hidden_counts}
use Rattle.laws_meaning_values.proofs.Stores.{or_left, or_right}
use Rattle.laws_meaning_values.proofs.Readies.{find_cell}

-- ---- the statements before those that are left

same_length : (xs ys : List KNode) → same_nodes xs ys ≡ true → length xs ≡ length ys
same_length [] [] h = refl
same_length [] (y ∷ ys) h = absurd (false≢true h)
same_length (x ∷ xs) [] h = absurd (false≢true h)
same_length (x ∷ xs) (y ∷ ys) h = ap suc (same_length xs ys (and_parts (x.node == y.node) (same_nodes xs ys) h).1)

same_nodes_self : (xs : List KNode) → same_nodes xs xs ≡ true
same_nodes_self [] = refl
same_nodes_self (x ∷ xs) = and_from (x.node == x.node) (same_nodes xs xs) (eq-eqb x.node x.node refl) (same_nodes_self xs)

pub before_is : (done : List KNode) (s : KNode) (rest : List KNode) → before (done ++ s ∷ rest) rest ≡ done
before_is [] s rest = ap (λ b. if b then [] else s ∷ before rest rest) (same_nodes_self rest)
before_is (q ∷ done) s rest = go (same_nodes (done ++ s ∷ rest) rest) refl (before_is done s rest)
  where
    go : (b : Bool) → same_nodes (done ++ s ∷ rest) rest ≡ b → before (done ++ s ∷ rest) rest ≡ done → (if b then [] else q ∷ before (done ++ s ∷ rest) rest) ≡ q ∷ done
    go true e h = let l = same_length (done ++ s ∷ rest) rest e in absurd (omega (arith, l, length-append done (s ∷ rest)))
    go false e h = ap (◌∷◌ q) h

pub before_at : (b : KBlock) (done : List KNode) (s : KNode) (rest : List KNode) → (out-KBlock b).list ≡ done ++ s ∷ rest → before (out-KBlock b).list rest ≡ done
before_at b done s rest e = ap (λ l. before l rest) e ∙ before_is done s rest

-- at the start nothing is before
pub before_first : (list : List KNode) → before list (rest_of list) ≡ []
before_first [] = refl
before_first (s ∷ ss) = ap (λ b. if b then [] else s ∷ before ss ss) (same_nodes_self ss)

pub set_more : (x : ℕ) (done : List KNode) (s : KNode) → is_set (done ++ s ∷ []) x ≡ true → (is_set done x ≡ true) ⊎ (sets x s.stmt ≡ true)
set_more x [] s h = go (or_cases (sets x s.stmt) false h)
  where
    go : (sets x s.stmt ≡ true) ⊎ (false ≡ true) → (is_set [] x ≡ true) ⊎ (sets x s.stmt ≡ true)
    go (inl e) = inr e
    go (inr e) = absurd (false≢true e)
set_more x (q ∷ done) s h = go (or_cases (sets x q.stmt) (is_set (done ++ s ∷ []) x) h) (set_more x done s)
  where
    more : (is_set done x ≡ true) ⊎ (sets x s.stmt ≡ true) → (is_set (q ∷ done) x ≡ true) ⊎ (sets x s.stmt ≡ true)
    more (inl e) = inl (or_right (sets x q.stmt) (is_set done x) e)
    more (inr e) = inr e

    go : (sets x q.stmt ≡ true) ⊎ (is_set (done ++ s ∷ []) x ≡ true) → (is_set (done ++ s ∷ []) x ≡ true → (is_set done x ≡ true) ⊎ (sets x s.stmt ≡ true)) → (is_set (q ∷ done) x ≡ true) ⊎ (sets x s.stmt ≡ true)
    go (inl e) ih = inl (or_left (sets x q.stmt) (is_set done x) e)
    go (inr e) ih = more (ih e)

-- ---- declarations

declared_among : (x : ℕ) (ds : List KDecl) → declares x ds ≡ true → is_among x (decl_slots ds) ≡ true
declared_among x [] h = absurd (false≢true h)
declared_among x (d ∷ ds) h = go (or_cases ((d.slot == x) && is_set_decl d.kind) (declares x ds) h) (declared_among x ds)
  where
    go : (((d.slot == x) && is_set_decl d.kind) ≡ true) ⊎ (declares x ds ≡ true) → (declares x ds ≡ true → is_among x (decl_slots ds) ≡ true) → is_among x (decl_slots (d ∷ ds)) ≡ true
    go (inl e) ih = or_left (x == d.slot) (is_among x (decl_slots ds)) (eq-eqb x d.slot (sym (eqb-true d.slot x (and_parts (d.slot == x) (is_set_decl d.kind) e).0)))
    go (inr e) ih = or_right (x == d.slot) (is_among x (decl_slots ds)) (ih e)

pub declared_within : (x : ℕ) (ds : List KDecl) (k : ℕ) → counts_from k (decl_slots ds) ≡ true → declares x ds ≡ true → (k ≤ x) × (x < k + length (decl_slots ds))
declared_within x ds k c h = counted_within k (decl_slots ds) x c (declared_among x ds h)

-- what is declared is seen inside the block
pub declared_cell : (x : ℕ) (pools : List ℕ) (ds : List KDecl) (seen : List Seen) (k : ℕ) → counts_from k (decl_slots ds) ≡ true → declares x ds ≡ true → is_cell (find x (declared_seen pools ds seen)) ≡ true
declared_cell x pools [] seen k c h = absurd (false≢true h)
declared_cell x pools (d ∷ ds) seen k c h = go (d.slot == x) refl (or_cases ((d.slot == x) && is_set_decl d.kind) (declares x ds) h) (declared_cell x pools ds seen (k + 1) (and_parts (d.slot == k) (counts_from (k + 1) (decl_slots ds)) c).1)
  where
    cell : (j : KKind) → is_set_decl j ≡ true → is_cell (Some (slot_kind pools j)) ≡ true
    cell (kind.Var t) e = refl
    cell (kind.Alias n) e = refl
    cell (kind.Pool n m) e = absurd (false≢true e)

    apart : (d.slot == x) ≡ true → declares x ds ≡ true → ⊥
    apart e u =
        let a = and_parts (d.slot == k) (counts_from (k + 1) (decl_slots ds)) c in
        let l = declared_within x ds (k + 1) a.1 u in
        let p = eqb-true d.slot x e in
        let q = eqb-true d.slot k a.0 in omega (arith, l.0, p, q)

    go : (b : Bool) → (d.slot == x) ≡ b → (((d.slot == x) && is_set_decl d.kind) ≡ true) ⊎ (declares x ds ≡ true) → (declares x ds ≡ true → is_cell (find x (declared_seen pools ds seen)) ≡ true)
        → is_cell (if b then Some (slot_kind pools d.kind) else find x (declared_seen pools ds seen)) ≡ true
    go true e (inl u) ih = cell d.kind (and_parts (d.slot == x) (is_set_decl d.kind) u).1
    go true e (inr u) ih = absurd (apart e u)
    go false e (inl u) ih = absurd (false≢true (sym e ∙ (and_parts (d.slot == x) (is_set_decl d.kind) u).0))
    go false e (inr u) ih = ih u

-- ---- what is seen from a part lies before its ground. The part is one of the program's own.

pub record Low (sc : Scope) (g : Ground) : Type 0 where
  pub seen : (x : ℕ) → is_cell (find x sc.seen) ≡ true → x < g.low
  pub main : is_in_code sc.code ≡ false

pub low_inner : (sc : Scope) (g h : Ground) → Inner h g → Low sc g → Low sc h
low_inner sc g h i l = record { seen = λ x c. (let a = l.seen x c in omega (arith, a, i.low)); main = l.main }

pub low_list : (sc : Scope) (b : KBlock) (s : KNode) (g : Ground) (i : InBlock b s g) → Low sc g → Low (block_scope sc b) i.ground
low_list sc b s g i l = record { seen = λ x c. go x (find_cell x (pool_slots (out-KBlock b).decls ++ pools_seen sc.seen) (out-KBlock b).decls sc.seen c); main = l.main }
  where
    go : (x : ℕ) → (declares x (out-KBlock b).decls ≡ true) ⊎ (is_cell (find x sc.seen) ≡ true) → x < i.ground.low
    go x (inl d) = let a = declared_within x (out-KBlock b).decls g.low i.declared d in omega (arith, a.1, i.behind)
    go x (inr c) = let a = l.seen x c in omega (arith, a, i.inner.low)

pub low_part : (K : Kernel) (sc : Scope) (n : ℕ) (layer : Layer) (b : KBlock) (g h : Ground) → opens_part layer b → Inner h g → Low sc g → Low (part_scope K sc n layer) h
low_part K sc n (KStmt-F.Do None c) b g h o i l = record { seen = (low_inner sc g h i l).seen; main = l.main }
low_part K sc n (KStmt-F.Do (Some t) c) b g h o i l = record { seen = (low_inner sc g h i l).seen; main = l.main }
low_part K sc n (KStmt-F.If arms last) b g h o i l = low_inner sc g h i l
low_part K sc n layer b g h o i l = elim o [ ]

pub low_turn : (K : Kernel) (sc : Scope) (s : KNode) (k : KLoop) (b : KBlock) (g : Ground) (i : InStatement (KStmt-F.Loop k b) (block_slots b) (block_nodes b) g) → out-KStmt s.stmt ≡ KStmt-F.Loop k b
    → Numbered (stmt_slots s.stmt) (s.node ∷ stmt_nodes s.stmt) g → Low sc g → Low (turn_scope K sc s.node k) i.ground
low_turn K sc s turns.Free b g i e on l = record { seen = (low_inner sc g i.ground i.inner l).seen; main = l.main }
low_turn K sc s (turns.Times slot n) b g i e on l = record { seen = (low_inner sc g i.ground i.inner l).seen; main = l.main }
low_turn K sc s (turns.Range j next end open_a a c open_b) b g i e on l = record { seen = λ x c. go x (j == x) refl c; main = l.main }
  where
    first : j ≡ g.low
    first = eqb-true j g.low (and_parts (j == g.low) (counts_from (g.low + 1) (next ∷ end ∷ [])) (hidden_counts s (KStmt-F.Loop (turns.Range j next end open_a a c open_b) b) g e on).0).0

    go : (x : ℕ) (t : Bool) → (j == x) ≡ t → is_cell (if t then Some IsLoopVariable else find x sc.seen) ≡ true → x < i.ground.low
    go x true u v = let a = first in let q = eqb-true j x u in omega (arith, a, q, i.behind)
    go x false u v = let a = l.seen x v in omega (arith, a, i.inner.low)

-- outside a ground, in the program's own body
abbrev pub Beside : Ground → ℕ → Type 0
Beside g x = (x < g.low) ⊎ (g.high ≤ x)

pub beside_outside : (g : Ground) (ns : List ℕ) (x : ℕ) → Beside g x → Outside Program g ns Program x
beside_outside g ns x h = record { own = λ e. h; calls = λ n p q. refl; instances = λ m e. refl }

pub beside_inner : (h g : Ground) (x : ℕ) → Inner h g → Beside g x → Beside h x
beside_inner h g x i (inl p) = inl (omega (arith, p, i.low))
beside_inner h g x i (inr p) = inr (omega (arith, p, i.high))
