-- A text has one outcome: the kernel of its program, or the rule that it breaks first with its place.
use Rattle.std.proofs.Common.{◌≡◌, refl, sym, ap, ◌∙◌, subst, ℕ, ◌<◌, ◌≤◌, ◌⊎◌, inl, inr, arith, List, [], ◌∷◌, Some, None, Result, Ok, Err, length}
use Rattle.ceu_base.specs.declared.kinds.CheckError.TheVariants as checking
use Rattle.ceu_base.specs.declared.kinds.Pos.{Pos}
use Rattle.ceu_base.specs.declared.kinds.Rule.{Rule}
use Rattle.ceu_base.specs.declared.kinds.Rule.TheVariants.{B1, B2, B3}
use Rattle.ceu_base.specs.declared.kinds.Ty.{Ty}
use Rattle.ceu_bound.specs.PhaseB.{Breaks as BreaksLoop, IsBoundRefusal, IsFirstBreak, rank}
use Rattle.ceu_expand.specs.Expansion.{kernel_of}
use Rattle.ceu_grammar.proofs.Loops.{terminals_length}
use Rattle.ceu_grammar.specs.Answers.{PlaceOf}
use Rattle.ceu_lex.proofs.Once.{breaks_once, reads_once, reads_or_breaks}
use Rattle.ceu_lex.specs.declared.token.Token.{Token}
use Rattle.ceu_scopes.specs.Names.{scopes_of}
use Rattle.ceu_scopes.specs.declared.known.Scopes.{Scopes}
use Rattle.ceu_syntax.proofs.Exact.{one_derived}
use Rattle.ceu_syntax.proofs.Outcomes.{inside, one_broken, order, program_or_broken}
use Rattle.ceu_syntax.specs.Grammar.{Derives}
use Rattle.ceu_syntax.specs.Limits.{FirstBroken}
use Rattle.ceu_syntax.specs.Terminals.{terminals}
use Rattle.ceu_tree.specs.Costs.{bounds}
use Rattle.ceu_tree.specs.declared.kernel.Kernel.{Kernel}
use Rattle.ceu_tree.specs.declared.source.Tree.{Tree}
use Rattle.ceu_types.specs.Statements.{types_of}
use Rattle.ceu_types.specs.declared.typing.Types.{Types}
use Rattle.ceu_compile.specs.Programs.{Breaks, BreaksKernel, BreaksTree, HasBounds, HasKernel, IsProgram, IsSound}
use Rattle.ceu_compile.specs.Resolved.{BreaksNamesOrTypes}
use Rattle.ceu_compile.specs.Trees.{HasNoTree, HasTree}

-- one rule at one place
abbrev Same : Rule → Rule → Pos → Pos → Type 0
Same r s p q = (r ≡ s) × (p ≡ q)

-- ---- tokens and grammar

tree_once : (text : List ℕ) (ts us : List Token) (t u : Tree) → HasTree text ts t → HasTree text us u → t ≡ u
tree_once text ts us t u h j = one_derived text ts t u h.1 (subst (λ x. Derives text x u) (sym (reads_once text ts us h.0 j.0)) j.1)

tree_or_broken : (text : List ℕ) (ts : List Token) (t : Tree) (r : Rule) (p : Pos) → HasTree text ts t → HasNoTree text r p → ⊥
tree_or_broken text ts t r p h (inl broken) = reads_or_breaks text ts r p h.0 broken
tree_or_broken text ts t r p h (inr (us, k, reads, broken)) =
    program_or_broken (terminals text ts) h.1.0 r k h.1.1 h.2 (subst (λ x. FirstBroken (terminals text x) r k) (reads_once text us ts reads h.0) broken.0)

place_once : (text : List ℕ) (tokens : List Token) (k : ℕ) (p q : Pos) → k ≤ length tokens → PlaceOf text tokens k p → PlaceOf text tokens k q → p ≡ q
place_once text [] k p q l a b = let n : k ≡ length {A = Token} [] = omega arith in a.end n ∙ sym (b.end n)
place_once text (t ∷ ts) k p q l a b = go (order k (length (t ∷ ts)))
  where
    go : (k < length (t ∷ ts)) ⊎ ((length (t ∷ ts) < k) ⊎ (k ≡ length (t ∷ ts))) → p ≡ q
    go (inl h) = a.at h t ∙ sym (b.at h t)
    go (inr (inl h)) = absurd (omega arith)
    go (inr (inr h)) = a.end h ∙ sym (b.end h)

no_tree_once : (text : List ℕ) (r s : Rule) (p q : Pos) → HasNoTree text r p → HasNoTree text s q → Same r s p q
no_tree_once text r s p q (inl a) (inl b) = breaks_once text r s p q a b
no_tree_once text r s p q (inl a) (inr (us, k, reads, b)) = absurd (reads_or_breaks text us r p reads a)
no_tree_once text r s p q (inr (ts, j, reads, a)) (inl b) = absurd (reads_or_breaks text ts s q reads b)
no_tree_once text r s p q (inr (ts, j, reads, a)) (inr (us, k, other, b)) =
    let same : us ≡ ts = reads_once text us ts other reads in
    let o : (r ≡ s) × (j ≡ k) = one_broken (terminals text ts) r s j k a.0 (subst (λ x. FirstBroken (terminals text x) s k) same b.0) in
    let n : length (terminals text ts) ≡ length ts = terminals_length text ts in
    let l : j ≤ length (terminals text ts) = inside (terminals text ts) r j a.0 in
    (o.0, place_once text ts j p q (omega arith) a.1 (subst (λ i. PlaceOf text ts i q) (sym o.1) (subst (λ x. PlaceOf text x k q) same b.1)))

-- ---- names and types

ok_same : {A E : Type 0} {x y : A} → (let a : Result A E = Ok x in a ≡ Ok y) → x ≡ y
ok_same h = cc

err_same : {A E : Type 0} {x y : E} → (let a : Result A E = Err x in a ≡ Err y) → x ≡ y
err_same h = cc

ok_or_err : {A E : Type 0} {x : A} {y : E} → (let a : Result A E = Ok x in a ≡ Err y) → ⊥
ok_or_err h = cc

same_types : (a b : Types) → a.exps ≡ b.exps → a ≡ b
same_types a b h = ap (λ e. let t : Types = record { exps = e } in t) h

scopes_once : (tree : Tree) (a b : Scopes) → scopes_of tree ≡ Ok a → scopes_of tree ≡ Ok b → a ≡ b
scopes_once tree a b h j = ok_same (sym h ∙ j)

types_once : (tree : Tree) (a b : Scopes) (x y : List Ty) → a ≡ b → types_of a tree ≡ Ok x → types_of b tree ≡ Ok y → x ≡ y
types_once tree a b x y same h j = ok_same (sym h ∙ ap (λ s. types_of s tree) same ∙ j)

kernel_once : (tree : Tree) (K L : Kernel) → HasKernel tree K → HasKernel tree L → K ≡ L
kernel_once tree K L (a, x, h, k) (b, y, j, l) =
    let same : a ≡ b = scopes_once tree a b h.0 j.0 in
    let types : x ≡ y = same_types x y (types_once tree a b x.exps y.exps same h.1 j.1) in
    k ∙ ap (λ s. kernel_of s x tree) same ∙ ap (λ t. kernel_of b t tree) types ∙ sym l

kernel_or_broken : (tree : Tree) (K : Kernel) (r : Rule) (p : Pos) → HasKernel tree K → BreaksNamesOrTypes tree r p → ⊥
kernel_or_broken tree K r p (a, x, h, k) (inl e) = ok_or_err (sym h.0 ∙ e)
kernel_or_broken tree K r p (a, x, h, k) (inr (b, j, e)) = ok_or_err (sym h.1 ∙ ap (λ s. types_of s tree) (scopes_once tree a b h.0 j) ∙ e)

pair_same : (r s : Rule) (p q : Pos) → (let a : Rule × Pos = (r, p) in a ≡ (s, q)) → Same r s p q
pair_same r s p q h = (ap (λ a. a.0) h, ap (λ a. a.1) h)

check_same : (r s : Rule) (p q : Pos) → checking.Refused r p ≡ checking.Refused s q → Same r s p q
check_same r s p q h = (cc, cc)

names_once : (tree : Tree) (r s : Rule) (p q : Pos) → BreaksNamesOrTypes tree r p → BreaksNamesOrTypes tree s q → Same r s p q
names_once tree r s p q (inl h) (inl j) = pair_same r s p q (err_same (sym h ∙ j))
names_once tree r s p q (inl h) (inr (b, j, e)) = absurd (ok_or_err (sym j ∙ h))
names_once tree r s p q (inr (a, h, e)) (inl j) = absurd (ok_or_err (sym h ∙ j))
names_once tree r s p q (inr (a, h, e)) (inr (b, j, i)) = check_same r s p q (err_same (sym e ∙ ap (λ s. types_of s tree) (scopes_once tree a b h j) ∙ i))

-- ---- bounds and sizes

same_pos : (p q : Pos) → p.line ≡ q.line → p.col ≡ q.col → p ≡ q
same_pos p q l c = ap (λ n. let u : Pos = record { line = n; col = p.col } in u) l ∙ ap (λ n. let u : Pos = record { line = q.line; col = n } in u) c

-- rules on loops have numbers of their own
rank_once : (K : Kernel) (r s : Rule) (p q : Pos) → BreaksLoop K r p → BreaksLoop K s q → rank r ≡ rank s → r ≡ s
rank_once K B1 B1 p q h j e = refl
rank_once K B2 B2 p q h j e = refl
rank_once K B3 B3 p q h j e = refl
rank_once K B1 B2 p q h j e = absurd (omega arith)
rank_once K B1 B3 p q h j e = absurd (omega arith)
rank_once K B2 B1 p q h j e = absurd (omega arith)
rank_once K B2 B3 p q h j e = absurd (omega arith)
rank_once K B3 B1 p q h j e = absurd (omega arith)
rank_once K B3 B2 p q h j e = absurd (omega arith)
rank_once K B1 _ p q h j e = absurd j.broken
rank_once K B2 _ p q h j e = absurd j.broken
rank_once K B3 _ p q h j e = absurd j.broken
rank_once K _ s p q h j e = absurd h.broken

loops_once : (K : Kernel) (r s : Rule) (p q : Pos) → IsFirstBreak K r p → IsFirstBreak K s q → Same r s p q
loops_once K r s p q a b =
    let x = a.first s q b.breaks in
    let y = b.first r p a.breaks in
    let line : p.line ≡ q.line = omega (arith, x.line, y.line) in
    let col : p.col ≡ q.col = omega (arith, x.col line, y.col (sym line)) in
    let number : rank r ≡ rank s = omega (arith, x.number line col, y.number (sym line) (sym col)) in
    (rank_once K r s p q a.breaks b.breaks number, same_pos p q line col)

bounds_once : (K : Kernel) (r s : Rule) (p q : Pos) → IsBoundRefusal K (checking.Refused r p) → IsBoundRefusal K (checking.Refused s q) → Same r s p q
bounds_once K r s p q (inl a) (inl b) = loops_once K r s p q a b
bounds_once K r s p q (inl a) (inr (i, j, m)) = absurd (m.keeps r p a.breaks)
bounds_once K r s p q (inr (i, j, m)) (inl b) = absurd (m.keeps s q b.breaks)
bounds_once K r s p q (inr (i, j, m)) (inr (k, l, n)) = (i ∙ sym k, j ∙ sym l)

bounds_or_broken : (K : Kernel) (r : Rule) (p : Pos) → HasBounds K → IsBoundRefusal K (checking.Refused r p) → ⊥
bounds_or_broken K r p h (inl a) = h.0 r p a.breaks
bounds_or_broken K r p h (inr (i, j, m)) = over m.over
  where
    over : (4294967295 < (bounds K).turns) ⊎ (65535 < (bounds K).opens) → ⊥
    over (inl x) = omega (arith, h.1)
    over (inr x) = omega (arith, h.2)

some_same : {A : Type 0} {x y : A} → Some x ≡ Some y → x ≡ y
some_same h = cc

none_or_some : {A : Type 0} {x : A} → None ≡ Some x → ⊥
none_or_some h = cc

kernels_once : (K : Kernel) (r s : Rule) (p q : Pos) → BreaksKernel K r p → BreaksKernel K s q → Same r s p q
kernels_once K r s p q (inl a) (inl b) = bounds_once K r s p q a b
kernels_once K r s p q (inl a) (inr (h, size, place)) = absurd (bounds_or_broken K r p h a)
kernels_once K r s p q (inr (h, size, place)) (inl b) = absurd (bounds_or_broken K s q h b)
kernels_once K r s p q (inr (h, size, place)) (inr (j, other, start)) = (some_same (sym size ∙ other), place ∙ sym start)

-- ---- a whole text

trees_once : (tree : Tree) (r s : Rule) (p q : Pos) → BreaksTree tree r p → BreaksTree tree s q → Same r s p q
trees_once tree r s p q (inl a) (inl b) = names_once tree r s p q a b
trees_once tree r s p q (inl a) (inr (L, has, b)) = absurd (kernel_or_broken tree L r p has a)
trees_once tree r s p q (inr (K, has, a)) (inl b) = absurd (kernel_or_broken tree K s q has b)
trees_once tree r s p q (inr (K, has, a)) (inr (L, other, b)) = kernels_once K r s p q a (subst (λ x. BreaksKernel x s q) (kernel_once tree L K other has) b)

sound_or_broken : (tree : Tree) (K : Kernel) (r : Rule) (p : Pos) → IsSound tree K → BreaksTree tree r p → ⊥
sound_or_broken tree K r p h (inl a) = kernel_or_broken tree K r p h.0 a
sound_or_broken tree K r p h (inr (L, has, a)) = go (subst (λ x. BreaksKernel x r p) (kernel_once tree L K has h.0) a)
  where
    go : BreaksKernel K r p → ⊥
    go (inl b) = bounds_or_broken K r p h.1 b
    go (inr (j, size, place)) = none_or_some (sym h.2 ∙ size)

pub programs_once : (text : List ℕ) (K L : Kernel) → IsProgram text K → IsProgram text L → K ≡ L
programs_once text K L (ts, t, has, sound) (us, u, other, whole) = kernel_once t K L sound.0 (subst (λ x. HasKernel x L) (sym (tree_once text ts us t u has other)) whole.0)

pub program_or_breaks : (text : List ℕ) (K : Kernel) (r : Rule) (p : Pos) → IsProgram text K → Breaks text r p → ⊥
program_or_breaks text K r p (ts, t, has, sound) (inl a) = tree_or_broken text ts t r p has a
program_or_breaks text K r p (ts, t, has, sound) (inr (us, u, other, a)) = sound_or_broken t K r p sound (subst (λ x. BreaksTree x r p) (sym (tree_once text ts us t u has other)) a)

pub breaks_one : (text : List ℕ) (r s : Rule) (p q : Pos) → Breaks text r p → Breaks text s q → Same r s p q
breaks_one text r s p q (inl a) (inl b) = no_tree_once text r s p q a b
breaks_one text r s p q (inl a) (inr (us, u, has, b)) = absurd (tree_or_broken text us u r p has a)
breaks_one text r s p q (inr (ts, t, has, a)) (inl b) = absurd (tree_or_broken text ts t s q has b)
breaks_one text r s p q (inr (ts, t, has, a)) (inr (us, u, other, b)) = trees_once t r s p q a (subst (λ x. BreaksTree x s q) (sym (tree_once text ts us t u has other)) b)
