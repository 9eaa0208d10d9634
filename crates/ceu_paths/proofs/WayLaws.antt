-- Exits of a list with one more item, and flags by code number.
use Rattle.std.proofs.Common.{◌≡◌, refl, sym, ap, ◌∙◌, ℕ, zero, suc, ◌+◌, ◌<◌, ◌≤◌, Bool, true, false, ◌&&◌, ◌||◌, if◌then◌else◌, List, [], ◌∷◌, ◌++◌, length, take, drop, get_or, append_assoc, arith}
use Rattle.std.specs.List.{filter, list_any}
use Rattle.std.proofs.lemmas.List.{append-nil, drop_more}
use Rattle.ceu_tree.specs.declared.kernel.KNode.{KNode}
use Rattle.ceu_tree.specs.declared.kernel.KBlock.{KBlock}
use Rattle.ceu_tree.specs.declared.kernel.KCode.{KCode}
use Rattle.ceu_tree.specs.Paths.{Way, ToEnd, ToEscape, ToBreak, ToContinue, has_end, without_end, flag, gathered, seq_ways, quick_block, quick_node, quick_list, all_blocks_end, passes, passes_from}
use Rattle.ceu_paths.specs.declared.ways.Exit.{Exit}
use Rattle.ceu_paths.specs.Ways.{way, ways}

pub any_more : (p : Way → Bool) (xs : List Exit) (i : ℕ) (d : Exit) → i < length xs → list_any p (ways (take (suc i) xs)) ≡ (list_any p (ways (take i xs)) || p (way (get_or xs i d)))
any_more p [] i d h = absurd (omega arith)
any_more p (x ∷ xs) zero d h = grind arith
any_more p (x ∷ xs) (suc i) d h = let ih : list_any p (ways (take (suc i) xs)) ≡ (list_any p (ways (take i xs)) || p (way (get_or xs i d))) = any_more p xs i d (omega arith) in grind (arith, ih)

pub any_at : (p : Way → Bool) (xs : List Exit) (i : ℕ) (d : Exit) → i < length xs → p (way (get_or xs i d)) ≡ true → list_any p (ways xs) ≡ true
any_at p [] i d h e = absurd (omega arith)
any_at p (x ∷ xs) zero d h e = grind (arith, e)
any_at p (x ∷ xs) (suc i) d h e = let ih : list_any p (ways xs) ≡ true = any_at p xs i d (omega arith) e in grind (arith, ih)

pub filter_more : (p : Way → Bool) (xs : List Exit) (i : ℕ) (d : Exit) → i < length xs → filter p (ways (take (suc i) xs)) ≡ filter p (ways (take i xs)) ++ (if p (way (get_or xs i d)) then way (get_or xs i d) ∷ [] else [])
filter_more p [] i d h = absurd (omega arith)
filter_more p (x ∷ xs) zero d h = grind arith
filter_more p (x ∷ xs) (suc i) d h = let ih : filter p (ways (take (suc i) xs)) ≡ filter p (ways (take i xs)) ++ (if p (way (get_or xs i d)) then way (get_or xs i d) ∷ [] else []) = filter_more p xs i d (omega arith) in grind (arith, ih)

pub without_end_none : (q : List Way) → has_end q ≡ false → without_end q ≡ q
without_end_none [] h = refl
without_end_none (ToEnd ∷ q) h = cc
without_end_none (ToEscape n ∷ q) h = ap (λ k. ToEscape n ∷ k) (without_end_none q h)
without_end_none (ToBreak n ∷ q) h = ap (λ k. ToBreak n ∷ k) (without_end_none q h)
without_end_none (ToContinue n ∷ q) h = ap (λ k. ToContinue n ∷ k) (without_end_none q h)

seq_true : (q rest : List Way) → has_end q ≡ true → seq_ways q rest ≡ without_end q ++ rest
seq_true q rest e = ap (λ b. if b then without_end q ++ rest else q) e

seq_false : (q rest : List Way) → has_end q ≡ false → seq_ways q rest ≡ q
seq_false q rest e = ap (λ b. if b then without_end q ++ rest else q) e

-- a list of statements that goes on behind one, and one that doesn't
pub goes_on : (whole old new q rest : List Way) → whole ≡ old ++ seq_ways q rest → has_end q ≡ true → new ≡ old ++ without_end q → whole ≡ new ++ rest
goes_on whole old new q rest a e n = a ∙ ap (λ k. old ++ k) (seq_true q rest e) ∙ sym (append_assoc old (without_end q) rest) ∙ ap (λ k. k ++ rest) (sym n)

pub stops : (whole old new q rest : List Way) → whole ≡ old ++ seq_ways q rest → has_end q ≡ false → new ≡ old ++ without_end q → new ≡ whole
stops whole old new q rest a e n = n ∙ ap (λ k. old ++ k) (without_end_none q e ∙ sym (seq_false q rest e)) ∙ sym a

pub list_step : (codes : List Bool) (nodes : List KNode) (i : ℕ) (d : KNode) → i < length nodes → quick_list codes (drop i nodes) ≡ seq_ways (quick_node codes (get_or nodes i d)) (quick_list codes (drop (i + 1) nodes))
list_step codes nodes i d h = ap (quick_list codes) (drop_more nodes i d h)

pub gathered_more : {X : Type 0} (f : X → List Way) (xs : List X) (i : ℕ) (d : X) → i < length xs → gathered f (take (suc i) xs) ≡ gathered f (take i xs) ++ f (get_or xs i d)
gathered_more f [] i d h = absurd (omega arith)
gathered_more f (x ∷ xs) zero d h = append-nil (f x)
gathered_more f (x ∷ xs) (suc i) d h = ap (λ k. f x ++ k) (gathered_more f xs i d (omega arith)) ∙ sym (append_assoc (f x) (gathered f (take i xs)) (f (get_or xs i d)))

and_assoc : (a b c : Bool) → (a && (b && c)) ≡ ((a && b) && c)
and_assoc true b c = refl
and_assoc false b c = refl

and_true : (a : Bool) → (a && true) ≡ a
and_true true = refl
and_true false = refl

pub all_end_more : (codes : List Bool) (bs : List KBlock) (i : ℕ) (d : KBlock) → i < length bs → all_blocks_end codes (take (suc i) bs) ≡ (all_blocks_end codes (take i bs) && has_end (quick_block codes (get_or bs i d)))
all_end_more codes [] i d h = absurd (omega arith)
all_end_more codes (b ∷ bs) zero d h = and_true (has_end (quick_block codes b))
all_end_more codes (b ∷ bs) (suc i) d h = ap (λ k. has_end (quick_block codes b) && k) (all_end_more codes bs i d (omega arith)) ∙ and_assoc (has_end (quick_block codes b)) (all_blocks_end codes (take i bs)) (has_end (quick_block codes (get_or bs i d)))

pub passes_more : (P : List Bool) (cs : List KCode) (i : ℕ) (d : KCode) → i < length cs → passes_from P (take (suc i) cs) ≡ passes_from P (take i cs) ++ passes (passes_from P (take i cs)) (get_or cs i d) ∷ []
passes_more P [] i d h = absurd (omega arith)
passes_more P (c ∷ cs) zero d h = refl
passes_more P (c ∷ cs) (suc i) d h = passes_more (P ++ passes P c ∷ []) cs i d (omega arith)

pub flag_within : (passing : List Bool) (code : ℕ) (d : Bool) → code < length passing → flag code passing ≡ get_or passing code d
flag_within [] code d h = absurd (omega arith)
flag_within (x ∷ xs) zero d h = refl
flag_within (x ∷ xs) (suc k) d h = flag_within xs k d (omega arith)

pub flag_beyond : (passing : List Bool) (code : ℕ) → length passing ≤ code → flag code passing ≡ false
flag_beyond [] code h = refl
flag_beyond (x ∷ xs) zero h = absurd (omega arith)
flag_beyond (x ∷ xs) (suc k) h = flag_beyond xs k (omega arith)

pub ruleset flags = (flag_within, flag_beyond)

pub ruleset steps = (any_more, any_at)
