-- What a search along the arrows has reached, where no arrow leads out of it, is just what paths lead to.
use Rattle.std.proofs.Common.{◌≡◌, refl, sym, ap, ◌∙◌, ℕ, zero, suc, ◌+◌, ◌<◌, ◌≤◌, Bool, true, false, not, ◌&&◌, ◌||◌, ◌==◌, ◌⊎◌, inl, inr, subst, cond, List, [], ◌∷◌, ◌++◌, length, take, get_or, arith}
use Rattle.std.specs.Prelude.{Option, Some, None, find, nat_lt}
use Rattle.std.specs.List.{Contains}
use Rattle.ceu_tree.specs.Needs.{entry}
use Rattle.ceu_tree.specs.Paths.{flag}
use Rattle.ceu_bound.specs.declared.graph.Arrow.{Arrow}
use Rattle.ceu_bound.specs.Graph.{arrow, Path, stays, goes, is_member, is_open, leaks, rises, NeverRises}

-- ---- membership

pub same_number : (x y : ℕ) → (x == y) ≡ true → x ≡ y
same_number x y h = grind (arith, h)

pub itself : (x : ℕ) → (x == x) ≡ true
itself x = grind arith

pub member_push : (n x : ℕ) (xs : List ℕ) → is_member n (xs ++ x ∷ []) ≡ (is_member n xs || (x == n))
member_push n x [] = grind arith
member_push n x (y ∷ ys) = let ih : is_member n (ys ++ x ∷ []) ≡ (is_member n ys || (x == n)) = member_push n x ys in grind (arith, ih)

-- ---- closed sets

none_head : (b : Bool) (x : Arrow) (r : Option Arrow) → cond b (Some x) r ≡ None → (b ≡ false) × (r ≡ None)
none_head true x r h = absurd (cc)
none_head false x r h = (refl, h)

closed_at : (R : List ℕ) (A : List Arrow) (k : ℕ) (a : Arrow) → find (is_open R) A ≡ None → k < length A → is_open R (get_or A k a) ≡ false
closed_at R [] k a h below = absurd (omega arith)
closed_at R (x ∷ xs) zero a h below = (none_head (is_open R x) x (find (is_open R) xs) h).0
closed_at R (x ∷ xs) (suc k) a h below = closed_at R xs k a (none_head (is_open R x) x (find (is_open R) xs) h).1 (omega arith)

not_open : (m n : Bool) → (m && not n) ≡ false → m ≡ true → n ≡ true
not_open true true h e = refl
not_open true false h e = absurd (cc)
not_open false n h e = absurd (cc)

closed_step : (R : List ℕ) (A : List Arrow) (e f : ℕ) → find (is_open R) A ≡ None → Contains A (arrow e f) → is_member e R ≡ true → is_member f R ≡ true
closed_step R A e f h (k, below, at) m = not_open (is_member e R) (is_member f R) (sym (ap (is_open R) at) ∙ closed_at R A k (arrow e f) h below) m

pub path_closed : (R : List ℕ) (A : List Arrow) (e g : ℕ) → find (is_open R) A ≡ None → Path A e g → is_member e R ≡ true → is_member g R ≡ true
path_closed R A _ _ h (stays e) m = m
path_closed R A _ _ h (goes e f g c p) m = path_closed R A f g h p (closed_step R A e f h c m)

-- ---- a step

some_head : (p : Arrow → Bool) (x a : Arrow) (xs : List Arrow) (b : Bool) → p x ≡ b → cond b (Some x) (find p xs) ≡ Some a → (find p xs ≡ Some a → Contains xs a × (p a ≡ true)) → Contains (x ∷ xs) a × (p a ≡ true)
some_head p x a xs true e h more = let same : x ≡ a = cc in ((0, omega arith, same), sym (ap p same) ∙ e)
some_head p x a xs false e h more = let found = more h in ((suc found.0.0, omega (arith, found.0.1), found.0.2), found.1)

pub found_in : (p : Arrow → Bool) (A : List Arrow) (a : Arrow) → find p A ≡ Some a → Contains A a × (p a ≡ true)
found_in p [] a h = absurd (cc)
found_in p (x ∷ xs) a h = some_head p x a xs (p x) refl h (found_in p xs a)

pub find_at : (p : Arrow → Bool) (A : List Arrow) (i : ℕ) (d : Arrow) → i < length A → find p (take i A) ≡ None → p (get_or A i d) ≡ true → find p A ≡ Some (get_or A i d)
find_at p [] i d below h e = absurd (omega arith)
find_at p (x ∷ xs) zero d below h e = ap (λ b. cond b (Some x) (find p xs)) e
find_at p (x ∷ xs) (suc i) d below h e =
    let parts = none_head (p x) x (find p (take i xs)) h in
    ap (λ b. cond b (Some x) (find p xs)) parts.0 ∙ find_at p xs i d (omega arith) parts.1 e

pub find_none_more : (p : Arrow → Bool) (A : List Arrow) (i : ℕ) (d : Arrow) → i < length A → find p (take i A) ≡ None → p (get_or A i d) ≡ false → find p (take (suc i) A) ≡ None
find_none_more p [] i d below h e = absurd (omega arith)
find_none_more p (x ∷ xs) zero d below h e = ap (λ b. cond b (Some x) None) e
find_none_more p (x ∷ xs) (suc i) d below h e =
    let parts = none_head (p x) x (find p (take i xs)) h in
    ap (λ b. cond b (Some x) (find p (take (suc i) xs))) parts.0 ∙ find_none_more p xs i d (omega arith) parts.1 e

pub ruleset finds = (find_at, find_none_more)

path_more : (A : List Arrow) (e f g : ℕ) → Path A e f → Contains A (arrow f g) → Path A e g
path_more A _ _ g (stays e) c = goes e g g c (stays g)
path_more A _ _ g (goes e d f a p) c = goes e d g a (path_more A d f g p c)

either_true : (m n : Bool) → (m || n) ≡ true → (m ≡ true) ⊎ (n ≡ true)
either_true true n h = inl refl
either_true false n h = inr h

both_true : (m n : Bool) → (m && n) ≡ true → (m ≡ true) × (n ≡ true)
both_true true n h = (refl, h)
both_true false n h = absurd (cc)

not_true : (m : Bool) → not m ≡ true → m ≡ false
not_true true h = absurd (cc)
not_true false h = refl

-- what a search has reached from an event
pub record Reached (A : List Arrow) (source : ℕ) (R : List ℕ) : Type 0 where
  pub begun : is_member source R ≡ true
  pub paths : (x : ℕ) → is_member x R ≡ true → Path A source x

pub reached_first : (A : List Arrow) (s : ℕ) → Reached A s (s ∷ [])
reached_first A s = record {
  begun = ap (λ k. k || false) (itself s);
  paths = λ x m. elim (either_true (s == x) false m) as (λ _. Path A s x) [ inl e ↦ (let P : ℕ → Type 0 = λ n. Path A s n in subst P (same_number s x e) (stays s)) | inr e ↦ absurd (cc) ];
}

pub reached_more : (A : List Arrow) (s : ℕ) (R : List ℕ) (a : Arrow) → Reached A s R → find (is_open R) A ≡ Some a → Reached A s (R ++ a.target ∷ [])
reached_more A s R a r h =
    let found = found_in (is_open R) A a h in
    let parts = both_true (is_member a.source R) (not (is_member a.target R)) found.1 in
    let path : Path A s a.target = path_more A s a.source a.target (r.paths a.source parts.0) found.0 in
    record {
      begun = member_push s a.target R ∙ ap (λ k. k || (a.target == s)) r.begun;
      paths = λ x m. elim (either_true (is_member x R) (a.target == x) (sym (member_push x a.target R) ∙ m)) as (λ _. Path A s x) [
        | inl e ↦ r.paths x e
        | inr e ↦ (let P : ℕ → Type 0 = λ n. Path A s n in subst P (same_number a.target x e) path)
      ];
    }

-- ---- how many arrows lead to what isn't reached yet

abbrev pub left : Bool → ℕ
left true = 0
left false = 1

unfoldable pub open_count : List ℕ → List Arrow → ℕ
open_count R [] = 0
open_count R (a ∷ more) = left (is_member a.target R) + open_count R more

left_less : (m n : Bool) → left (m || n) ≤ left m
left_less true n = omega arith
left_less false true = omega arith
left_less false false = omega arith

head_less : (R : List ℕ) (t : ℕ) (x : Arrow) → left (is_member x.target (R ++ t ∷ [])) ≤ left (is_member x.target R)
head_less R t x = omega (arith, ap left (member_push x.target t R), left_less (is_member x.target R) (t == x.target))

count_less : (R : List ℕ) (t : ℕ) (A : List Arrow) → open_count (R ++ t ∷ []) A ≤ open_count R A
unfolding open_count
count_less R t [] = omega arith
count_less R t (x ∷ xs) = omega (arith, head_less R t x, count_less R t xs)

head_falls : (R : List ℕ) (t : ℕ) (x : Arrow) → x.target ≡ t → is_member t R ≡ false → left (is_member x.target (R ++ t ∷ [])) + 1 ≤ left (is_member x.target R)
head_falls R t x e m =
    let out : is_member x.target R ≡ false = ap (λ k. is_member k R) e ∙ m in
    let now : (t == x.target) ≡ true = ap (λ k. t == k) e ∙ itself t in
    let whole : is_member x.target (R ++ t ∷ []) ≡ true = member_push x.target t R ∙ ap (λ k. k || (t == x.target)) out ∙ now in
    omega (arith, ap left whole, ap left out)

count_falls : (R : List ℕ) (t : ℕ) (A : List Arrow) (k : ℕ) (a : Arrow) → k < length A → get_or A k a ≡ a → a.target ≡ t → is_member t R ≡ false → open_count (R ++ t ∷ []) A < open_count R A
unfolding open_count
count_falls R t [] k a below at e m = absurd (omega arith)
count_falls R t (x ∷ xs) zero a below at e m = omega (arith, head_falls R t x (ap (λ (n : Arrow). n.target) at ∙ e) m, count_less R t xs)
count_falls R t (x ∷ xs) (suc k) a below at e m = omega (arith, head_less R t x, count_falls R t xs k a (omega arith) at e m)

pub search_falls : (R : List ℕ) (A : List Arrow) (a : Arrow) → find (is_open R) A ≡ Some a → open_count (R ++ a.target ∷ []) A < open_count R A
search_falls R A a h =
    let found = found_in (is_open R) A a h in
    let parts = both_true (is_member a.source R) (not (is_member a.target R)) found.1 in
    count_falls R a.target A found.0.0 a found.0.1 found.0.2 refl (not_true (is_member a.target R) parts.1)

-- ---- marks

leak_at : (M : List Bool) (A : List Arrow) (k : ℕ) (a : Arrow) → find (leaks M) A ≡ None → k < length A → leaks M (get_or A k a) ≡ false
leak_at M [] k a h below = absurd (omega arith)
leak_at M (x ∷ xs) zero a h below = (none_head (leaks M x) x (find (leaks M) xs) h).0
leak_at M (x ∷ xs) (suc k) a h below = leak_at M xs k a (none_head (leaks M x) x (find (leaks M) xs) h).1 (omega arith)

leak_step : (M : List Bool) (A : List Arrow) (e f : ℕ) → find (leaks M) A ≡ None → Contains A (arrow e f) → flag e M ≡ true → flag f M ≡ true
leak_step M A e f h (k, below, at) m = not_open (flag e M) (flag f M) (sym (ap (leaks M) at) ∙ leak_at M A k (arrow e f) h below) m

pub path_marked : (M : List Bool) (A : List Arrow) (e g : ℕ) → find (leaks M) A ≡ None → Path A e g → flag e M ≡ true → flag g M ≡ true
path_marked M A _ _ h (stays e) m = m
path_marked M A _ _ h (goes e f g c p) m = path_marked M A f g h p (leak_step M A e f h c m)

-- ---- a way back

pub before_path : (A : List Arrow) (k : ℕ) (a : Arrow) (at target : ℕ) → k < length A → get_or A k a ≡ a → a.target ≡ at → Path A at target → Path A a.source target
before_path A k a at target below here e path =
    let P : ℕ → Type 0 = λ n. Path A n target in
    goes a.source a.target target (k, below, here) (subst P (sym e) path)

pub at_itself : (A : List Arrow) (k : ℕ) (d : Arrow) → k < length A → get_or A k (get_or A k d) ≡ get_or A k d
at_itself [] k d h = absurd (omega arith)
at_itself (x ∷ xs) zero d h = refl
at_itself (x ∷ xs) (suc k) d h = at_itself xs k d (omega arith)

-- ---- numbers

rise_at : (N : List ℕ) (A : List Arrow) (k : ℕ) (a : Arrow) → NeverRises N A → k < length A → rises N (get_or A k a) ≡ false
rise_at N [] k a h below = absurd (omega arith)
rise_at N (x ∷ xs) zero a h below = (none_head (rises N x) x (find (rises N) xs) h).0
rise_at N (x ∷ xs) (suc k) a h below = rise_at N xs k a (none_head (rises N x) x (find (rises N) xs) h).1 (omega arith)

at_most : (x y : ℕ) → nat_lt x y ≡ false → y ≤ x
at_most x y h = grind (arith, h)

fall_step : (N : List ℕ) (A : List Arrow) (e f : ℕ) → NeverRises N A → Contains A (arrow e f) → entry f N ≤ entry e N
fall_step N A e f h (k, below, at) = at_most (entry e N) (entry f N) (sym (ap (rises N) at) ∙ rise_at N A k (arrow e f) h below)

-- along a path the numbers don't rise
pub path_falls : (N : List ℕ) (A : List Arrow) (e g : ℕ) → NeverRises N A → Path A e g → entry g N ≤ entry e N
path_falls N A _ _ h (stays e) = omega arith
path_falls N A _ _ h (goes e f g c p) = omega (arith, fall_step N A e f h c, path_falls N A f g h p)

-- without numbers nothing rises
pub none_rises : (A : List Arrow) → NeverRises [] A
none_rises [] = refl
none_rises (a ∷ more) = none_rises more
