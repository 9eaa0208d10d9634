-- The variables of the parts around a leaf have slots of their own, all before the ground of the part inside.
use Rattle.std.proofs.Common.{◌≡◌, sym, ap, ◌∙◌, subst, ◌<◌, ◌≤◌, ℕ, ◌+◌, true, ◌==◌, ◌⊎◌, inl, inr, List, [], ◌∷◌, ◌++◌, append-nil, length, Contains, arith, eqb-true}
use Rattle.std.proofs.lemmas.Bool.{and_parts}
use Rattle.std.proofs.lemmas.List.Elements.{Contains-append_cases}
use Rattle.ceu_base.specs.declared.kinds.Ty.TheVariants as ty
use Rattle.ceu_tree.specs.declared.kernel.KDecl.{KDecl}
use Rattle.ceu_tree.specs.declared.kernel.KKind.{KKind}
use Rattle.ceu_tree.specs.declared.kernel.KKind.TheVariants as kind
use Rattle.ceu_tree.specs.declared.kernel.KLoop.{KLoop}
use Rattle.ceu_tree.specs.declared.kernel.KLoop.TheVariants as turns
use Rattle.ceu_tree.specs.declared.kernel.KNode.{KNode}
use Rattle.ceu_tree.specs.declared.kernel.KBlock.{KBlock, out-KBlock}
use Rattle.ceu_tree.specs.declared.kernel.KStmt.{out-KStmt}
use Rattle.ceu_tree.specs.declared.kernel.KStmt.TheOpen.{KStmt-F}
use Rattle.ceu_tree.specs.Numbering.{counts_from, decl_slots, loop_slots, stmt_slots, stmt_nodes, block_slots, block_nodes}
use Rattle.laws_meaning_values.proofs.Grounds.{list_ground, inner_ground, hidden_counts}
use Rattle.laws_meaning_values.specs.Ground.{Ground, Numbered}
use Rattle.ceu_trail.specs.Within.{Variable, declared, all_declared, turned}
use Rattle.ceu_within.proofs.Widths.{variable, none_there, one_there, of_decl}

pub record Once (vs : List Variable) : Type 0 where
  pub one : (x y : Variable) → Contains vs x → Contains vs y → x.slot ≡ y.slot → x ≡ y

pub record Before (vs : List Variable) (k : ℕ) : Type 0 where
  pub lower : (x : Variable) → Contains vs x → x.slot < k

pub before_more : (vs : List Variable) (j k : ℕ) → j ≤ k → Before vs j → Before vs k
before_more vs j k l h = record { lower = λ x c. (let a = h.lower x c in omega arith) }

-- two lists whose slots lie one behind the other
joined_once : (vs us : List Variable) (k : ℕ) → Once vs → Once us → Before vs k → ((x : Variable) → Contains us x → k ≤ x.slot) → Once (vs ++ us)
joined_once vs us k a b low high = record { one = λ x y p q e. go x y (Contains-append_cases vs us x p) (Contains-append_cases vs us y q) e }
  where
    go : (x y : Variable) → Contains vs x ⊎ Contains us x → Contains vs y ⊎ Contains us y → x.slot ≡ y.slot → x ≡ y
    go x y (inl p) (inl q) e = a.one x y p q e
    go x y (inr p) (inr q) e = b.one x y p q e
    go x y (inl p) (inr q) e = let c = low.lower x p in let d = high y q in absurd (omega (arith, e))
    go x y (inr p) (inl q) e = let c = low.lower y q in let d = high x p in absurd (omega (arith, e))

joined_before : (vs us : List Variable) (j k : ℕ) → j ≤ k → Before vs j → ((x : Variable) → Contains us x → x.slot < k) → Before (vs ++ us) k
joined_before vs us j k l a b = record { lower = λ x c. go x (Contains-append_cases vs us x c) }
  where
    go : (x : Variable) → Contains vs x ⊎ Contains us x → x.slot < k
    go x (inl p) = let c = a.lower x p in omega arith
    go x (inr q) = b x q

-- ---- declarations

declared_between : (ds : List KDecl) (k : ℕ) (x : Variable) → counts_from k (decl_slots ds) ≡ true → Contains (all_declared ds) x → (k ≤ x.slot) × (x.slot < k + length (decl_slots ds))
declared_between [] k x h c = absurd (none_there x c)
declared_between (d ∷ ds) k x h c =
    let a = and_parts (d.slot == k) (counts_from (k + 1) (decl_slots ds)) h in
    go a.0 (Contains-append_cases (declared d d.kind) (all_declared ds) x c) (declared_between ds (k + 1) x a.1)
  where
    go : (d.slot == k) ≡ true → Contains (declared d d.kind) x ⊎ Contains (all_declared ds) x → (Contains (all_declared ds) x → (k + 1 ≤ x.slot) × (x.slot < k + 1 + length (decl_slots ds))) → (k ≤ x.slot) × (x.slot < k + length (decl_slots (d ∷ ds)))
    go e (inl p) ih = let q = of_decl d d.kind x p in let r = eqb-true d.slot k e in (omega (arith, q, r), omega (arith, q, r))
    go e (inr p) ih = let i = ih p in (omega (arith, i.0), omega (arith, i.1))

decl_once : (d : KDecl) (j : KKind) → Once (declared d j)
decl_once d (kind.Var t) = record { one = λ x y p q e. sym (one_there (variable d.slot t) x p) ∙ one_there (variable d.slot t) y q }
decl_once d (kind.Alias c) = record { one = λ x y p q e. absurd (none_there x p) }
decl_once d (kind.Pool n c) = record { one = λ x y p q e. absurd (none_there x p) }

declared_once : (ds : List KDecl) (k : ℕ) → counts_from k (decl_slots ds) ≡ true → Once (all_declared ds)
declared_once [] k h = record { one = λ x y p q e. absurd (none_there x p) }
declared_once (d ∷ ds) k h =
    let a = and_parts (d.slot == k) (counts_from (k + 1) (decl_slots ds)) h in
    let r = eqb-true d.slot k a.0 in
    joined_once (declared d d.kind) (all_declared ds) (k + 1) (decl_once d d.kind) (declared_once ds (k + 1) a.1) (record { lower = λ x p. (let q = of_decl d d.kind x p in omega (arith, q, r)) }) (λ x p. (declared_between ds (k + 1) x a.1 p).0)

-- ---- the variables of a block, and of a loop, behind those around

pub block_once : (vs : List Variable) (b : KBlock) (done : List KNode) (s : KNode) (rest : List KNode) (g : Ground) → (e : (out-KBlock b).list ≡ done ++ s ∷ rest) → (on : Numbered (block_slots b) (block_nodes b) g) → Once vs → Before vs g.low
    → Once (vs ++ all_declared (out-KBlock b).decls) × Before (vs ++ all_declared (out-KBlock b).decls) (list_ground b done s rest g e on).ground.low
block_once vs b done s rest g e on o low =
    let i = list_ground b done s rest g e on in
    let ds = (out-KBlock b).decls in (
      joined_once vs (all_declared ds) g.low o (declared_once ds g.low i.declared) low (λ x p. (declared_between ds g.low x i.declared p).0),
      joined_before vs (all_declared ds) g.low i.ground.low (let a = i.inner.low in a) low (λ x p. (let a = (declared_between ds g.low x i.declared p).1 in let c = i.behind in omega arith)),
    )

turn_once_of : (vs : List Variable) (k : KLoop) (low high : ℕ) → low ≤ high → counts_from low (loop_slots k) ≡ true → low + length (loop_slots k) ≤ high → Once vs → Before vs low → Once (vs ++ turned k) × Before (vs ++ turned k) high
turn_once_of vs turns.Free low high l c t o b = (subst Once (sym (append-nil vs)) o, subst (λ z. Before z high) (sym (append-nil vs)) (before_more vs low high l b))
turn_once_of vs (turns.Times slot n) low high l c t o b = (subst Once (sym (append-nil vs)) o, subst (λ z. Before z high) (sym (append-nil vs)) (before_more vs low high l b))
turn_once_of vs (turns.Range i next end open_a x y open_b) low high l c t o b = (
  joined_once vs (variable i ty.S32 ∷ []) low o (record { one = λ u v p q e. sym (one_there (variable i ty.S32) u p) ∙ one_there (variable i ty.S32) v q }) b (λ u p. (let q = ap (λ z. z.slot) (one_there (variable i ty.S32) u p) in omega (arith, q, first))),
  joined_before vs (variable i ty.S32 ∷ []) low high l b (λ u p. (let q = ap (λ z. z.slot) (one_there (variable i ty.S32) u p) in omega (arith, q, first, t))),
)
  where
    first : i ≡ low
    first = eqb-true i low (and_parts (i == low) (counts_from (low + 1) (next ∷ end ∷ [])) c).0

pub turn_once : (vs : List Variable) (s : KNode) (k : KLoop) (b : KBlock) (g : Ground) (e : out-KStmt s.stmt ≡ KStmt-F.Loop k b) (on : Numbered (stmt_slots s.stmt) (s.node ∷ stmt_nodes s.stmt) g) → Once vs → Before vs g.low
    → Once (vs ++ turned k) × Before (vs ++ turned k) (inner_ground s (KStmt-F.Loop k b) g e on).ground.low
turn_once vs s k b g e on o low =
    let i = inner_ground s (KStmt-F.Loop k b) g e on in
    let c = hidden_counts s (KStmt-F.Loop k b) g e on in
    turn_once_of vs k g.low i.ground.low i.inner.low c.0 i.behind o low
