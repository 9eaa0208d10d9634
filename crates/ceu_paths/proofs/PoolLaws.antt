-- Pools of a list with one more declaration.
use Rattle.std.proofs.Common.{◌≡◌, refl, sym, ap, ◌∙◌, ℕ, zero, suc, ◌<◌, Bool, true, false, ◌||◌, List, [], ◌∷◌, length, take, get_or, arith}
use Rattle.ceu_tree.specs.declared.kernel.KDecl.{KDecl}
use Rattle.ceu_tree.specs.declared.kernel.KKind.{KKind}
use Rattle.ceu_tree.specs.declared.kernel.KKind.TheVariants as kind
use Rattle.ceu_tree.specs.Costs.{has_pool_decl}
use Rattle.ceu_paths.specs.Pools.{is_pool}

one_decl : (k : KKind) (b : Bool) → (elim k as (λ _. Bool) [ kind.Var t ↦ b | kind.Alias c ↦ b | kind.Pool n c ↦ true ]) ≡ (is_pool k || b)
one_decl (kind.Var t) b = refl
one_decl (kind.Alias c) b = refl
one_decl (kind.Pool n c) b = refl

or_none : (a : Bool) → (a || false) ≡ a
or_none true = refl
or_none false = refl

or_assoc : (a b c : Bool) → (a || (b || c)) ≡ ((a || b) || c)
or_assoc true b c = refl
or_assoc false b c = refl

or_true : (a : Bool) → (a || true) ≡ true
or_true true = refl
or_true false = refl

pub pool_more : (ds : List KDecl) (i : ℕ) (d : KDecl) → i < length ds → has_pool_decl (take (suc i) ds) ≡ (has_pool_decl (take i ds) || is_pool (get_or ds i d).kind)
pool_more [] i d h = absurd (omega arith)
pool_more (x ∷ xs) zero d h = one_decl x.kind false ∙ or_none (is_pool x.kind)
pool_more (x ∷ xs) (suc i) d h =
    one_decl x.kind (has_pool_decl (take (suc i) xs)) ∙
    ap (λ k. is_pool x.kind || k) (pool_more xs i d (omega arith)) ∙
    or_assoc (is_pool x.kind) (has_pool_decl (take i xs)) (is_pool (get_or xs i d).kind) ∙
    ap (λ k. k || is_pool (get_or xs i d).kind) (sym (one_decl x.kind (has_pool_decl (take i xs))))

pub pool_at : (ds : List KDecl) (i : ℕ) (d : KDecl) → i < length ds → is_pool (get_or ds i d).kind ≡ true → has_pool_decl ds ≡ true
pool_at [] i d h e = absurd (omega arith)
pool_at (x ∷ xs) zero d h e = one_decl x.kind (has_pool_decl xs) ∙ ap (λ k. k || has_pool_decl xs) e
pool_at (x ∷ xs) (suc i) d h e = one_decl x.kind (has_pool_decl xs) ∙ ap (λ k. is_pool x.kind || k) (pool_at xs i d (omega arith) e) ∙ or_true (is_pool x.kind)

pub ruleset pools = (pool_more, pool_at)
