-- Instances of codes: the listed uses of a body are its uses, and the codes from the last to the first.
use Rattle.std.proofs.Common.{◌≡◌, refl, sym, ap, ◌∙◌, ℕ, zero, suc, ◌+◌, ◌*◌, ◌<◌, ◌≤◌, Bool, true, false, if◌then◌else◌, ◌==◌, ◌⊎◌, inl, inr, List, [], ◌∷◌, map, length, drop, get_or, add-one, arith}
use Rattle.std.proofs.lemmas.List.{drop_more}
use Rattle.ceu_tree.specs.declared.kernel.KCode.{KCode}
use Rattle.ceu_tree.specs.declared.kernel.KDecl.{KDecl}
use Rattle.ceu_tree.specs.declared.kernel.KKind.{KKind}
use Rattle.ceu_tree.specs.declared.kernel.KKind.TheVariants as kind
use Rattle.ceu_tree.specs.declared.kernel.KBlock.{KBlock, KBlock', Row_of-KNode, end_of-KNode, more_of-KNode}
use Rattle.ceu_tree.specs.declared.kernel.KArm.{KArm, KArm'}
use Rattle.ceu_tree.specs.declared.kernel.KStmt.{KStmt, Row_of-KArm, end_of-KArm, more_of-KArm, Row_of-KBlock, end_of-KBlock, more_of-KBlock, AwaitCode, Do, If', Loop, Par'}
use Rattle.ceu_tree.specs.Greatest.{total}
use Rattle.ceu_tree.specs.Costs.{pool_uses, uses, block_uses, arm_uses, nodes_uses, arms_uses, blocks_uses, held_by, instances_from}
use Rattle.ceu_paths.specs.Cap.{cap}
use Rattle.ceu_paths.proofs.CapLaws.{cap_times, same_plus}
use Rattle.ceu_paths.specs.Joined.{joined}
use Rattle.ceu_paths.specs.Uses as listed
use Rattle.ceu_bound.specs.Using.{times_used}
use Rattle.ceu_bound.proofs.Woken.{total_append}

if_zero : (t : Bool) (n : ℕ) → (if t then n else 0) + 0 ≡ (if t then n else 0)
if_zero true n = omega arith
if_zero false n = omega arith

one_decl : (j : ℕ) (kd : KKind) (rest : ℕ) → total (times_used j) (listed.kind_uses kd) + rest ≡ (elim kd as (λ _. ℕ) [ kind.Var t ↦ rest | kind.Alias c ↦ rest | kind.Pool n c ↦ (if c == j then n + rest else rest) ])
one_decl j (kind.Var t) rest = omega arith
one_decl j (kind.Alias c) rest = omega arith
one_decl j (kind.Pool n c) rest = elim (c == j) as (λ t. (if t then n else 0) + 0 + rest ≡ (if t then n + rest else rest)) [ true ↦ omega arith | false ↦ omega arith ]

decls_listed : (j : ℕ) (ds : List KDecl) → total (times_used j) (joined listed.decl_uses ds) ≡ pool_uses j ds
decls_listed j [] = refl
decls_listed j (d ∷ ds) =
    total_append (times_used j) (listed.kind_uses d.kind) (joined listed.decl_uses ds) ∙
    ap (λ k. total (times_used j) (listed.kind_uses d.kind) + k) (decls_listed j ds) ∙
    one_decl j d.kind (pool_uses j ds)

module _ (j : ℕ) where
  mutual
    unfolding uses listed.uses

    stmt_listed : (s : KStmt) → total (times_used j) (listed.uses s) ≡ uses j s
    stmt_listed (AwaitCode c es f t) = if_zero (c == j) 1
    stmt_listed (Do t b) = block_listed b
    stmt_listed (If' _ arms last) = total_append (times_used j) (listed.arms_uses arms) (listed.block_uses last) ∙ ap (λ k. k + total (times_used j) (listed.block_uses last)) (arms_listed arms) ∙ ap (λ k. arms_uses j arms + k) (block_listed last)
    stmt_listed (Par' k slot _ bs) = blocks_listed bs
    stmt_listed (Loop k b) = block_listed b
    stmt_listed _ = refl

    pub block_listed : (b : KBlock) → total (times_used j) (listed.block_uses b) ≡ block_uses j b
    block_listed (KBlock' n ds _ list) = total_append (times_used j) (joined listed.decl_uses ds) (listed.nodes_uses list) ∙ ap (λ k. k + total (times_used j) (listed.nodes_uses list)) (decls_listed j ds) ∙ ap (λ k. pool_uses j ds + k) (nodes_listed list)

    arm_listed : (a : KArm) → total (times_used j) (listed.arm_uses a) ≡ arm_uses j a
    arm_listed (KArm' c b) = block_listed b

    nodes_listed : {n : _} (r : Row_of-KNode n) → total (times_used j) (listed.nodes_uses r) ≡ nodes_uses j r
    nodes_listed end_of-KNode = refl
    nodes_listed (more_of-KNode n p s rest) = total_append (times_used j) (listed.uses s) (listed.nodes_uses rest) ∙ ap (λ k. k + total (times_used j) (listed.nodes_uses rest)) (stmt_listed s) ∙ ap (λ k. uses j s + k) (nodes_listed rest)

    arms_listed : {n : _} (r : Row_of-KArm n) → total (times_used j) (listed.arms_uses r) ≡ arms_uses j r
    arms_listed end_of-KArm = refl
    arms_listed (more_of-KArm a rest) = total_append (times_used j) (listed.arm_uses a) (listed.arms_uses rest) ∙ ap (λ k. k + total (times_used j) (listed.arms_uses rest)) (arm_listed a) ∙ ap (λ k. arm_uses j a + k) (arms_listed rest)

    blocks_listed : {n : _} (r : Row_of-KBlock n) → total (times_used j) (listed.blocks_uses r) ≡ blocks_uses j r
    blocks_listed end_of-KBlock = refl
    blocks_listed (more_of-KBlock b rest) = total_append (times_used j) (listed.block_uses b) (listed.blocks_uses rest) ∙ ap (λ k. k + total (times_used j) (listed.blocks_uses rest)) (block_listed b) ∙ ap (λ k. block_uses j b + k) (blocks_listed rest)

-- ---- from the last code to the first

-- what a code has from the main body and from the codes from number k on
abbrev pub held_from : KBlock → List KCode → ℕ → ℕ → ℕ
held_from main cs j k = block_uses j main + held_by j (drop k cs) (drop k (instances_from main 0 cs))

pub instances_length : (main : KBlock) (k : ℕ) (cs : List KCode) → length (instances_from main k cs) ≡ length cs
instances_length main k [] = refl
instances_length main k (c ∷ cs) = omega (arith, instances_length main (k + 1) cs)

-- the list from a later number on is the rest of the list
later : (main : KBlock) (m : ℕ) (cs : List KCode) (k : ℕ) → drop k (instances_from main m cs) ≡ instances_from main (m + k) (drop k cs)
later main m [] zero = refl
later main m [] (suc k) = refl
later main m (c ∷ cs) zero = ap (λ n. instances_from main n (c ∷ cs)) (omega arith)
later main m (c ∷ cs) (suc k) = later main (m + 1) cs k ∙ ap (λ n. instances_from main n (drop k cs)) (omega arith)

head_at : (main : KBlock) (m : ℕ) (cs : List KCode) (k : ℕ) → k < length cs → get_or (instances_from main m cs) k 0 ≡ block_uses (m + k) main + held_by (m + k) (drop (suc k) cs) (drop (suc k) (instances_from main m cs))
head_at main m [] k h = absurd (omega arith)
head_at main m (c ∷ cs) zero h = ap (λ n. block_uses n main + held_by n cs (instances_from main (m + 1) cs)) (omega arith)
head_at main m (c ∷ cs) (suc k) h =
    head_at main (m + 1) cs k (omega arith) ∙
    ap (λ n. block_uses n main + held_by n (drop (suc k) cs) (drop (suc k) (instances_from main (m + 1) cs))) (omega arith)

pub instances_at : (main : KBlock) (cs : List KCode) (k : ℕ) → k < length cs → get_or (instances_from main 0 cs) k 0 ≡ held_from main cs k (k + 1)
instances_at main cs k h = rw add-one (head_at main 0 cs k h ∙ ap (λ n. block_uses n main + held_by n (drop (suc k) cs) (drop (suc k) (instances_from main 0 cs))) (omega arith))

pub held_more : (main : KBlock) (cs : List KCode) (j k : ℕ) (d : KCode) → k < length cs → held_from main cs j k ≡ held_from main cs j (k + 1) + block_uses j (get_or cs k d).body * get_or (instances_from main 0 cs) k 0
held_more main cs j k d h =
    let codes = drop_more cs k d h in
    let counts = drop_more (instances_from main 0 cs) k 0 (omega (arith, instances_length main 0 cs)) in
    omega (arith, ap (λ k'. held_by j k' (drop k (instances_from main 0 cs))) codes, ap (λ ns. held_by j (get_or cs k d ∷ drop (k + 1) cs) ns) counts)

pub split : (k n : ℕ) → (k < n) ⊎ (n ≤ k)
split zero zero = inr (omega arith)
split zero (suc n) = inl (omega arith)
split (suc k) zero = inr (omega arith)
split (suc k) (suc n) = elim (split k n) as (λ _. (suc k < suc n) ⊎ (suc n ≤ suc k)) [ inl h ↦ inl (omega (arith, h)) | inr h ↦ inr (omega (arith, h)) ]

capped_product : (n u i : ℕ) → n ≡ cap i → cap (n * u) ≡ cap (u * i)
capped_product n u i h = ap (λ k. cap (k * u)) h ∙ ap cap (omega arith) ∙ cap_times u i

-- a code's instances are known, and its uses go to the codes above it
pub instances_step : (main : KBlock) (cs : List KCode) (k : ℕ) (d : KCode) (c0 c1 c2 : List ℕ) (n : ℕ) → k < length cs →
    ((j : ℕ) → j < k + 1 → cap (get_or c0 j 0) ≡ cap (held_from main cs j (k + 1))) →
    ((j : ℕ) → k + 1 ≤ j → j < length cs → get_or c0 j 0 ≡ cap (get_or (instances_from main 0 cs) j 0)) →
    n ≡ cap (get_or c0 k 0) → ((j : ℕ) → (j ≡ k → ⊥) → get_or c1 j 0 ≡ get_or c0 j 0) → get_or c1 k 0 ≡ n →
    ((j : ℕ) → k ≤ j → get_or c2 j 0 ≡ get_or c1 j 0) →
    ((j : ℕ) → j < k → cap (get_or c2 j 0) ≡ cap (get_or c1 j 0 + n * block_uses j d.body)) → d ≡ get_or cs k d →
    ((j : ℕ) → j < k → cap (get_or c2 j 0) ≡ cap (held_from main cs j k)) × ((j : ℕ) → k ≤ j → j < length cs → get_or c2 j 0 ≡ cap (get_or (instances_from main 0 cs) j 0))
instances_step main cs k d c0 c1 c2 n below still done made other own above each at =
    let count : n ≡ cap (get_or (instances_from main 0 cs) k 0) = made ∙ still k (omega arith) ∙ ap cap (sym (instances_at main cs k below)) in (
      λ j h.
          each j h ∙
          same_plus (get_or c1 j 0) (held_from main cs j (k + 1)) (n * block_uses j d.body) (block_uses j d.body * get_or (instances_from main 0 cs) k 0)
          (ap cap (other j (λ e. omega (arith, h, e))) ∙ still j (omega (arith, h)))
          (capped_product n (block_uses j d.body) (get_or (instances_from main 0 cs) k 0) count) ∙
          ap (λ (c : KCode). cap (held_from main cs j (k + 1) + block_uses j c.body * get_or (instances_from main 0 cs) k 0)) at ∙
          ap cap (sym (held_more main cs j k d below)),
      λ j h w. above j h ∙ elim (split k j) as (λ _. get_or c1 j 0 ≡ cap (get_or (instances_from main 0 cs) j 0)) [
        | inl later ↦ other j (λ e. omega (arith, later, e)) ∙ done j (omega (arith, later)) w
        | inr same ↦ (let equal : j ≡ k = omega (arith, h, same) in ap (λ m. get_or c1 m 0) equal ∙ own ∙ count ∙ ap (λ m. cap (get_or (instances_from main 0 cs) m 0)) (sym equal))
      ],
    )

pub map_by_get : (xs ys : List ℕ) → length xs ≡ length ys → ((j : ℕ) → j < length ys → get_or xs j 0 ≡ cap (get_or ys j 0)) → xs ≡ map cap ys
map_by_get [] [] h e = refl
map_by_get [] (y ∷ ys) h e = absurd (omega arith)
map_by_get (x ∷ xs) [] h e = absurd (omega arith)
map_by_get (x ∷ xs) (y ∷ ys) h e = ap (λ k. k ∷ xs) (e 0 (omega arith)) ∙ ap (λ k. cap y ∷ k) (map_by_get xs ys (omega arith) (λ j w. e (suc j) (omega (arith, w))))

capped_length : (xs : List ℕ) → length (map cap xs) ≡ length xs
capped_length [] = refl
capped_length (x ∷ xs) = omega (arith, capped_length xs)

pub counts_length : (main : KBlock) (cs : List KCode) (counts : List ℕ) → counts ≡ map cap (instances_from main 0 cs) → length counts ≡ length cs
counts_length main cs counts h = ap length h ∙ capped_length (instances_from main 0 cs) ∙ instances_length main 0 cs
