-- The ways on which statements and blocks may be left at once, way by way.
use Rattle.std.proofs.Common.{◌≡◌, refl, sym, ap, ◌∙◌, ℕ, Bool, true, false, cond, not, if◌then◌else◌, ◌||◌, ◌⊎◌, inl, inr, List, [], ◌∷◌, ◌++◌, filter, Option, Some, None, zero, suc, eq-eqb}
use Rattle.std.proofs.lemmas.Bool.{ne_eqb, false≢true}
use Rattle.std.specs.List.{list_any}
use Rattle.ceu_tree.specs.declared.kernel.KLoop.{KLoop}
use Rattle.ceu_tree.specs.Leaf.{Exit, Escape, Break, Continue}
use Rattle.ceu_tree.specs.Paths.{Way, ToEnd, ToEscape, ToBreak, ToContinue, is_end, is_escape, is_break, is_continue, has_end, without_end, end_if, constant_bound, is_range, runs_out, outer_ways, loop_ways, seq_ways, do_ways}

abbrev pub Among : Way → List Way → Type 0
Among w [] = ⊥
Among w (x ∷ xs) = (x ≡ w) ⊎ Among w xs

abbrev pub exit_way : ℕ → Exit → Way
exit_way n (Escape v) = ToEscape n
exit_way n Break = ToBreak n
exit_way n Continue = ToContinue n

pub among_left : (w : Way) (xs ys : List Way) → Among w xs → Among w (xs ++ ys)
among_left w [] ys h = absurd h
among_left w (x ∷ xs) ys (inl e) = inl e
among_left w (x ∷ xs) ys (inr h) = inr (among_left w xs ys h)

pub among_right : (w : Way) (xs ys : List Way) → Among w ys → Among w (xs ++ ys)
among_right w [] ys h = h
among_right w (x ∷ xs) ys h = inr (among_right w xs ys h)

among_filter : (p : Way → Bool) (w : Way) (xs : List Way) → p w ≡ true → Among w xs → Among w (filter p xs)
among_filter p w [] e h = absurd h
among_filter p w (x ∷ xs) e h = go (p x) refl h (among_filter p w xs e)
  where
    go : (b : Bool) → p x ≡ b → (x ≡ w) ⊎ Among w xs → (Among w xs → Among w (filter p xs)) → Among w (cond b (x ∷ filter p xs) (filter p xs))
    go true q (inl i) ih = inl i
    go true q (inr i) ih = inr (ih i)
    go false q (inl i) ih = absurd (false≢true (sym q ∙ ap p i ∙ e))
    go false q (inr i) ih = ih i

pub any_among : (p : Way → Bool) (w : Way) (xs : List Way) → p w ≡ true → Among w xs → list_any p xs ≡ true
any_among p w [] e h = absurd h
any_among p w (x ∷ xs) e (inl i) = ap (λ b. b || list_any p xs) (ap p i ∙ e)
any_among p w (x ∷ xs) e (inr h) = go (p x) (any_among p w xs e h)
  where
    go : (b : Bool) → list_any p xs ≡ true → (b || list_any p xs) ≡ true
    go true i = refl
    go false i = i

pub end_here : (b : Bool) → b ≡ true → Among ToEnd (end_if b)
end_here true e = inl refl
end_here false e = absurd (false≢true e)

or_left : (a b : Bool) → a ≡ true → (a || b) ≡ true
or_left true b e = refl
or_left false b e = absurd (false≢true e)

or_right : (a b : Bool) → b ≡ true → (a || b) ≡ true
or_right true b e = refl
or_right false b e = e

not_both : (a b : Bool) → a ≡ false → b ≡ false → not (a || b) ≡ true
not_both a b e f = ap (λ x. not (x || b)) e ∙ ap not f

-- ---- one statement after the other

pub seq_then : (w : Way) (a rest : List Way) → Among ToEnd a → Among w rest → Among w (seq_ways a rest)
seq_then w a rest e h = go (has_end a) (any_among is_end ToEnd a refl e)
  where
    go : (b : Bool) → b ≡ true → Among w (if b then without_end a ++ rest else a)
    go true q = among_right w (without_end a) rest h
    go false q = absurd (false≢true q)

pub seq_exit : (n : ℕ) (x : Exit) (a rest : List Way) → Among (exit_way n x) a → Among (exit_way n x) (seq_ways a rest)
seq_exit n x a rest h = go (has_end a)
  where
    passes : (y : Exit) → not (is_end (exit_way n y)) ≡ true
    passes (Escape v) = refl
    passes Break = refl
    passes Continue = refl

    go : (b : Bool) → Among (exit_way n x) (if b then without_end a ++ rest else a)
    go true = among_left (exit_way n x) (without_end a) rest (among_filter (λ w. not (is_end w)) (exit_way n x) a (passes x) h)
    go false = h

-- ---- do

pub do_end : (node : ℕ) (q : List Way) → Among ToEnd q → Among ToEnd (do_ways node q)
do_end node q h = among_right ToEnd (filter (λ w. not (is_end w || is_escape node w)) q) _ (end_here (has_end q || list_any (is_escape node) q) (or_left (has_end q) _ (any_among is_end ToEnd q refl h)))

pub do_escape : (node n : ℕ) (q : List Way) → node ≡ n → Among (ToEscape n) q → Among ToEnd (do_ways node q)
do_escape node n q e h =
    among_right ToEnd (filter (λ w. not (is_end w || is_escape node w)) q) _ (end_here (has_end q || list_any (is_escape node) q) (or_right (has_end q) _ (any_among (is_escape node) (ToEscape n) q (eq-eqb node n e) h)))

pub do_exit : (node n : ℕ) (x : Exit) (q : List Way) → (node ≡ n → ⊥) → Among (exit_way n x) q → Among (exit_way n x) (do_ways node q)
do_exit node n x q e h =
    among_left (exit_way n x) (filter (λ w. not (is_end w || is_escape node w)) q) (end_if (has_end q || list_any (is_escape node) q)) (among_filter (λ w. not (is_end w || is_escape node w)) (exit_way n x) q (passes x) h)
  where
    passes : (y : Exit) → not (is_end (exit_way n y) || is_escape node (exit_way n y)) ≡ true
    passes (Escape v) = ap not (ne_eqb node n e)
    passes Break = refl
    passes Continue = refl

-- ---- loops

pub loop_exit : (node n : ℕ) (k : KLoop) (x : Exit) (q : List Way) → (node ≡ n → ⊥) → Among (exit_way n x) q → Among (exit_way n x) (loop_ways node k q)
loop_exit node n k x q e h = among_left (exit_way n x) (outer_ways node q) _ (among_filter (λ w. not (is_end w || is_break node w || is_continue node w)) (exit_way n x) q (passes x) h)
  where
    passes : (y : Exit) → not (is_end (exit_way n y) || is_break node (exit_way n y) || is_continue node (exit_way n y)) ≡ true
    passes (Escape v) = refl
    passes Break = ap (λ b. not (b || false)) (ne_eqb node n e)
    passes Continue = ap not (ne_eqb node n e)

loop_end : (node : ℕ) (k : KLoop) (q : List Way) → (list_any (is_break node) q || runs_out node (is_range k) (constant_bound k) q) ≡ true → Among ToEnd (loop_ways node k q)
loop_end node k q h = among_right ToEnd (outer_ways node q) _ (end_here _ h)

pub loop_break : (node n : ℕ) (k : KLoop) (q : List Way) → node ≡ n → Among (ToBreak n) q → Among ToEnd (loop_ways node k q)
loop_break node n k q e h = loop_end node k q (or_left (list_any (is_break node) q) _ (any_among (is_break node) (ToBreak n) q (eq-eqb node n e) h))

-- a range that may be without turns, and a loop that may go round
pub loop_empty : (node : ℕ) (k : KLoop) (q : List Way) → is_range k ≡ true → (constant_bound k ≡ None) ⊎ (constant_bound k ≡ Some 0) → Among ToEnd (loop_ways node k q)
loop_empty node k q r o = loop_end node k q (or_right (list_any (is_break node) q) _ (go (is_range k) (constant_bound k) r o))
  where
    go : (b : Bool) (c : Option ℕ) → b ≡ true → (c ≡ None) ⊎ (c ≡ Some 0) → runs_out node b c q ≡ true
    go true None e z = refl
    go true (Some zero) e z = refl
    go true (Some (suc n)) e (inl z) = absurd (cc)
    go true (Some (suc n)) e (inr z) = absurd (cc)
    go false c e z = absurd (false≢true e)

abbrev pub rounds : ℕ → List Way → Bool
rounds node q = has_end q || list_any (is_continue node) q

pub loop_round : (node n : ℕ) (k : KLoop) (q : List Way) → constant_bound k ≡ Some n → rounds node q ≡ true → Among ToEnd (loop_ways node k q)
loop_round node n k q e h = loop_end node k q (or_right (list_any (is_break node) q) _ (go (constant_bound k) (is_range k) e))
  where
    go : (c : Option ℕ) (b : Bool) → c ≡ Some n → runs_out node b c q ≡ true
    go None b z = absurd (cc)
    go (Some zero) true z = refl
    go (Some zero) false z = h
    go (Some (suc m)) b z = h

pub round_end : (node : ℕ) (q : List Way) → Among ToEnd q → rounds node q ≡ true
round_end node q h = or_left (has_end q) _ (any_among is_end ToEnd q refl h)

pub round_continue : (node n : ℕ) (q : List Way) → node ≡ n → Among (ToContinue n) q → rounds node q ≡ true
round_continue node n q e h = or_right (has_end q) _ (any_among (is_continue node) (ToContinue n) q (eq-eqb node n e) h)
