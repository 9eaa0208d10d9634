-- The pool of a spawn is one of its code, and its alias takes places of the pool.
use Rattle.std.proofs.Common.{◌≡◌, refl, sym, ap, ◌∙◌, ℕ, ◌≤◌, arith, List, Option, Some, None, Ok, Bool, true, false}
use Rattle.std.specs.Prelude.{⊤, not, IsTrue, ◌==◌, ◌&&◌, nat_lt, if◌then◌else◌, slice_get}
use Rattle.std.proofs.lemmas.Bool.{ltb-false}
use Rattle.std.proofs.lemmas.Bool.Decides.{Decides-eqb}
use Rattle.ceu_base.specs.declared.kinds.Rule.TheVariants.{N3, N7}
use Rattle.ceu_tree.specs.declared.source.Spawn.{Spawn}
use Rattle.ceu_tree.specs.declared.kernel.Kernel.{Kernel}
use Rattle.ceu_tree.specs.Proper.{Seen, find, is_member, is_pool_of, alias_takes}
use Rattle.ceu_scopes.specs.declared.known.Known.{Known}
use Rattle.ceu_scopes.specs.declared.scope.Scope.{Scope}
use Rattle.ceu_scopes.specs.Walk.{decl_of}
use Rattle.ceu_scopes.specs.Rules.{is_pool, pool_broken, alias_broken, set_broken}
use Rattle.laws_kernel_uses.specs.Named.{MaybeAlias}
use Rattle.laws_kernel_uses.proofs.Sites.{Site, scope_of}
use Rattle.laws_kernel_uses.proofs.Means.{AliasAt, PoolAt}

and_true : (a b : Bool) → a ≡ true → b ≡ true → (a && b) ≡ true
and_true true b h k = k
and_true false b h k = absurd (cc)

same_test : (a b : ℕ) → a ≡ b → (a == b) ≡ true
same_test a b h = (Decides-eqb a b).1 h

some_same : {A : Type 0} (o : Option A) (x y : A) → o ≡ Some x → o ≡ Some y → x ≡ y
some_same o x y h k = cc

-- ---- rules that are kept

unbroken_test : (b : Bool) → (if b then None else Some N3) ≡ None → b ≡ true
unbroken_test true h = refl
unbroken_test false h = absurd (cc)

pub pool_is : (code : ℕ) (k : Known) → pool_broken code k ≡ None → k.code ≡ code
pool_is code k h = (Decides-eqb k.code code).0 (unbroken_test (k.code == code) h)

-- an alias is of the code, and stands in the pool's block or inside
pub record Sets (alias code pool : Known) : Type 0 where
  pub code_is : alias.code ≡ code.number
  pub inside : pool.block ≤ alias.block

sets_by : (a b c : Bool) (alias code pool : Known) → (a ≡ true → alias.code ≡ code.number) → b ≡ true → (c ≡ false → pool.block ≤ alias.block) → (if not a then Some N3 else if b && c then Some N7 else None) ≡ None → Sets alias code pool
sets_by true true false alias code pool same b within h = record { code_is = same refl; inside = within refl }
sets_by true true true alias code pool same b within h = absurd (cc)
sets_by true false c alias code pool same b within h = absurd (cc)
sets_by false b c alias code pool same p within h = absurd (cc)

pub sets_of : (scopes : List Scope) (x : Spawn) (alias code pool : Known) → set_broken scopes x alias ≡ None → decl_of scopes x.call.code ≡ Ok code → decl_of scopes x.pool ≡ Ok pool → is_pool pool.class ≡ true → Sets alias code pool
sets_of scopes x alias code pool h c p is =
    let both : alias_broken (Ok code) (Ok pool) alias ≡ None = ap (λ r. alias_broken (Ok code) r alias) (sym p) ∙ ap (λ r. alias_broken r (decl_of scopes x.pool) alias) (sym c) ∙ h in
    sets_by (alias.code == code.number) (is_pool pool.class) (nat_lt alias.block pool.block) alias code pool (Decides-eqb alias.code code.number).0 is (ltb-false alias.block pool.block) both

-- ---- kernels

pub pool_found : (view : List Seen) (limit : ℕ) (numbers : List ℕ) (code pool : Known) (c n : ℕ) → PoolAt view limit numbers pool → pool.code ≡ code.number → slice_get numbers code.number ≡ Some c → slice_get numbers pool.number ≡ Some n → is_pool_of c (find n view) ≡ true
pool_found view limit numbers code pool c n p same is number =
    let code_is : p.code ≡ c = some_same (slice_get numbers pool.code) p.code c p.code_is (ap (λ j. slice_get numbers j) same ∙ is) in
    let slot_is : p.slot.number ≡ n = some_same (slice_get numbers pool.number) p.slot.number n p.slot.is number in
    ap (λ j. is_pool_of c (find j view)) (sym slot_is) ∙ ap (is_pool_of c) p.slot.there ∙ same_test p.code c code_is

-- an alias at this slot takes what spawns of this kind take
abbrev pub AliasFor : List Seen → List ℕ → List Scope → Spawn → ℕ → Type 0
AliasFor view numbers scopes x a =
    (code pool : Known) (c n : ℕ) → decl_of scopes x.call.code ≡ Ok code → decl_of scopes x.pool ≡ Ok pool → is_pool pool.class ≡ true → slice_get numbers code.number ≡ Some c → slice_get numbers pool.number ≡ Some n → IsTrue (alias_takes c n (find a view))

abbrev pub MaybeFor : List Seen → List ℕ → List Scope → Spawn → Option ℕ → Type 0
MaybeFor view numbers scopes x None = ⊤
MaybeFor view numbers scopes x (Some a) = AliasFor view numbers scopes x a

pub maybe_alias : (K : Kernel) (v : Site) (numbers : List ℕ) (scopes : List Scope) (x : Spawn) (alias : Option ℕ) (code pool : Known) (c n : ℕ) → MaybeFor v.seen numbers scopes x alias → decl_of scopes x.call.code ≡ Ok code → decl_of scopes x.pool ≡ Ok pool → is_pool pool.class ≡ true →
    slice_get numbers code.number ≡ Some c → slice_get numbers pool.number ≡ Some n → MaybeAlias K (scope_of v) c n alias
maybe_alias K v numbers scopes x None code pool c n h a b p i j = tt
maybe_alias K v numbers scopes x (Some alias) code pool c n h a b p i j = h code pool c n a b p i j

pub alias_for : (view : List Seen) (limits : ℕ → ℕ) (base : ℕ) (numbers : List ℕ) (scopes : List Scope) (x : Spawn) (alias : Known) (a : ℕ) → ((m n : ℕ) → m ≤ n → limits m ≤ limits n) → AliasAt view (limits alias.block) base numbers alias → slice_get numbers alias.number ≡ Some a →
    set_broken scopes x alias ≡ None → ((pool : Known) → decl_of scopes x.pool ≡ Ok pool → is_pool pool.class ≡ true → PoolAt view (limits pool.block) numbers pool) → AliasFor view numbers scopes x a
alias_for view limits base numbers scopes x alias a grows own number h pools code pool c n e f is i j =
    let sets = sets_of scopes x alias code pool h e f is in
    let p = pools pool f is in
    let code_is : own.code ≡ c = some_same (slice_get numbers alias.code) own.code c own.code_is (ap (λ k. slice_get numbers k) sets.code_is ∙ i) in
    let slot_is : own.slot.number ≡ a = some_same (slice_get numbers alias.number) own.slot.number a own.slot.is number in
    let pool_is : p.slot.number ≡ n = some_same (slice_get numbers pool.number) p.slot.number n p.slot.is j in
    let below = p.slot.below in
    let up = grows pool.block alias.block sets.inside in
    let member : is_member n own.pools ≡ true = own.covers n p.code (omega (arith, below, up, pool_is)) (ap (λ k. find k view) (sym pool_is) ∙ p.slot.there) in
    ap (λ k. alias_takes c n (find k view)) (sym slot_is) ∙ ap (alias_takes c n) own.slot.there ∙ and_true (own.code == c) (is_member n own.pools) (same_test own.code c code_is) member
