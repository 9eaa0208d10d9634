-- Lists of ways of which one holds no way that the other lacks.
use Rattle.std.proofs.Common.{◌≡◌, refl, sym, ap, ◌∙◌, subst, ℕ, Bool, true, false, cond, not, if◌then◌else◌, ◌||◌, ◌&&◌, ◌==◌, ◌⊎◌, inl, inr, List, [], ◌∷◌, ◌++◌, filter, eq-eqb, eqb-true}
use Rattle.std.proofs.lemmas.Bool.{ne_eqb, eqb-false, false≢true}
use Rattle.std.specs.List.{list_any}
use Rattle.ceu_tree.specs.declared.kernel.KLoop.{KLoop}
use Rattle.ceu_tree.specs.declared.kernel.KBlock.{KBlock}
use Rattle.ceu_tree.specs.declared.kernel.ParKind.{ParKind}
use Rattle.ceu_tree.specs.declared.kernel.ParKind.TheVariants as par
use Rattle.ceu_tree.specs.declared.kernel.KStmt.TheOpen.{KStmt-F}
use Rattle.ceu_tree.specs.Residual.{Counter}
use Rattle.ceu_tree.specs.Leaf.{Layer, Exit, Escape, Break, Continue}
use Rattle.ceu_tree.specs.Paths.{Way, ToEnd, ToEscape, ToBreak, ToContinue, is_end, is_continue, has_end, without_end, end_if, seq_ways, par_ways}
use Rattle.laws_bounds_steps.specs.Pays.{IsOf, Fewer, way_of}
use Rattle.laws_bounds_steps.specs.Ways.{leads_to, outward, out_of, goes_on, stops, head_ways, ways_of_loop}

-- ---- appends, filters and tests

pub among_left : (w : Way) (xs ys : List Way) → IsOf xs w → IsOf (xs ++ ys) w
among_left w [] ys h = absurd h
among_left w (x ∷ xs) ys (inl e) = inl e
among_left w (x ∷ xs) ys (inr h) = inr (among_left w xs ys h)

pub among_right : (w : Way) (xs ys : List Way) → IsOf ys w → IsOf (xs ++ ys) w
among_right w [] ys h = h
among_right w (x ∷ xs) ys h = inr (among_right w xs ys h)

pub any_among : (p : Way → Bool) (w : Way) (xs : List Way) → p w ≡ true → IsOf xs w → list_any p xs ≡ true
any_among p w [] e h = absurd h
any_among p w (x ∷ xs) e (inl i) = ap (λ b. b || list_any p xs) (ap p i ∙ e)
any_among p w (x ∷ xs) e (inr h) = go (p x) (any_among p w xs e h)
  where
    go : (b : Bool) → list_any p xs ≡ true → (b || list_any p xs) ≡ true
    go true i = refl
    go false i = i

pub end_here : (b : Bool) → b ≡ true → IsOf (end_if b) ToEnd
end_here true e = inl refl
end_here false e = absurd (false≢true e)

pub among_case : (w : Way) (xs ys : List Way) → IsOf (xs ++ ys) w → IsOf xs w ⊎ IsOf ys w
among_case w [] ys h = inr h
among_case w (x ∷ xs) ys (inl e) = inl (inl e)
among_case w (x ∷ xs) ys (inr h) = go (among_case w xs ys h)
  where
    go : IsOf xs w ⊎ IsOf ys w → IsOf (x ∷ xs) w ⊎ IsOf ys w
    go (inl i) = inl (inr i)
    go (inr i) = inr i

pub filter_in : (p : Way → Bool) (w : Way) (xs : List Way) → p w ≡ true → IsOf xs w → IsOf (filter p xs) w
filter_in p w [] e h = absurd h
filter_in p w (x ∷ xs) e h = go (p x) refl h (filter_in p w xs e)
  where
    go : (b : Bool) → p x ≡ b → (x ≡ w) ⊎ IsOf xs w → (IsOf xs w → IsOf (filter p xs) w) → IsOf (cond b (x ∷ filter p xs) (filter p xs)) w
    go true q (inl i) ih = inl i
    go true q (inr i) ih = inr (ih i)
    go false q (inl i) ih = absurd (false≢true (sym q ∙ ap p i ∙ e))
    go false q (inr i) ih = ih i

pub filter_out : (p : Way → Bool) (w : Way) (xs : List Way) → IsOf (filter p xs) w → (p w ≡ true) × IsOf xs w
filter_out p w [] h = absurd h
filter_out p w (x ∷ xs) h = go (p x) refl h (filter_out p w xs)
  where
    go : (b : Bool) → p x ≡ b → IsOf (cond b (x ∷ filter p xs) (filter p xs)) w → (IsOf (filter p xs) w → (p w ≡ true) × IsOf xs w) → (p w ≡ true) × IsOf (x ∷ xs) w
    go true q (inl i) ih = (ap p (sym i) ∙ q, inl i)
    go true q (inr i) ih = ((ih i).0, inr (ih i).1)
    go false q i ih = ((ih i).0, inr (ih i).1)

pub any_some : (p : Way → Bool) (xs : List Way) → list_any p xs ≡ true → (w : Way) × IsOf xs w × (p w ≡ true)
any_some p [] h = absurd (false≢true h)
any_some p (x ∷ xs) h = go (p x) refl h (any_some p xs)
  where
    go : (b : Bool) → p x ≡ b → (b || list_any p xs) ≡ true → (list_any p xs ≡ true → (w : Way) × IsOf xs w × (p w ≡ true)) → (w : Way) × IsOf (x ∷ xs) w × (p w ≡ true)
    go true q e ih = (x, inl refl, q)
    go false q e ih = let i = ih e in (i.0, inr i.1, i.2)

pub any_sub : (p : Way → Bool) (xs ys : List Way) → Fewer xs ys → list_any p xs ≡ true → list_any p ys ≡ true
any_sub p xs ys s h = let i = any_some p xs h in any_among p i.0 ys i.2 (s i.0 i.1)

pub or_case : (a b : Bool) → (a || b) ≡ true → (a ≡ true) ⊎ (b ≡ true)
or_case true b h = inl refl
or_case false b h = inr h

pub or_sub : (a b c d : Bool) → (a ≡ true → c ≡ true) → (b ≡ true → d ≡ true) → (a || b) ≡ true → (c || d) ≡ true
or_sub true b c d f g h = ap (λ x. x || d) (f refl)
or_sub false b true d f g h = refl
or_sub false b false d f g h = g h

pub and_sub : (a b c d : Bool) → (a ≡ true → c ≡ true) → (b ≡ true → d ≡ true) → (a && b) ≡ true → (c && d) ≡ true
and_sub true b c d f g h = ap (λ x. x && d) (f refl) ∙ g h
and_sub false b c d f g h = absurd (false≢true h)

pub end_out : (w : Way) (b : Bool) → IsOf (end_if b) w → (b ≡ true) × (ToEnd ≡ w)
end_out w true (inl e) = (refl, e)
end_out w true (inr h) = absurd h
end_out w false h = absurd h

-- ---- the parts of what a part may be left by

pub sub_append : (a b c d : List Way) → Fewer a b → Fewer c d → Fewer (a ++ c) (b ++ d)
sub_append a b c d f g w h = go (among_case w a c h)
  where
    go : IsOf a w ⊎ IsOf c w → IsOf (b ++ d) w
    go (inl i) = among_left w b d (f w i)
    go (inr i) = among_right w b d (g w i)

pub sub_filter : (p : Way → Bool) (a b : List Way) → Fewer a b → Fewer (filter p a) (filter p b)
sub_filter p a b f w h = let i = filter_out p w a h in filter_in p w b i.0 (f w i.1)

pub sub_end : (a b : Bool) → (a ≡ true → b ≡ true) → Fewer (end_if a) (end_if b)
sub_end a b f w h = let i = end_out w a h in subst (λ v. IsOf (end_if b) v) i.1 (end_here b (f i.0))

pub ends : (q : List Way) → IsOf q ToEnd → has_end q ≡ true
ends q h = any_among is_end ToEnd q refl h

end_is : (w : Way) → is_end w ≡ true → w ≡ ToEnd
end_is ToEnd h = refl
end_is (ToEscape n) h = absurd (false≢true h)
end_is (ToBreak n) h = absurd (false≢true h)
end_is (ToContinue n) h = absurd (false≢true h)

pub end_among : (q : List Way) → has_end q ≡ true → IsOf q ToEnd
end_among q h = let i = any_some is_end q h in subst (λ v. IsOf q v) (end_is i.0 i.2) i.1

pub sub_seq : (a b r t : List Way) → Fewer a b → Fewer r t → Fewer (seq_ways a r) (seq_ways b t)
sub_seq a b r t f g w h = go (has_end a) refl (has_end b) refl h
  where
    inner : (x : Bool) → is_end w ≡ x → has_end a ≡ false → IsOf a w → IsOf (without_end b ++ t) w
    inner true q e i = absurd (false≢true (sym e ∙ any_among is_end w a q i))
    inner false q e i = among_left w (without_end b) t (filter_in (λ v. not (is_end v)) w b (ap not q) (f w i))

    go : (x : Bool) → has_end a ≡ x → (y : Bool) → has_end b ≡ y → IsOf (if x then without_end a ++ r else a) w → IsOf (if y then without_end b ++ t else b) w
    go true e true k i = sub_append (without_end a) (without_end b) r t (sub_filter (λ v. not (is_end v)) a b f) g w i
    go true e false k i = absurd (false≢true (sym k ∙ any_sub is_end a b f e))
    go false e true k i = inner (is_end w) refl e i
    go false e false k i = f w i

pub sub_out : (n : ℕ) (a b : List Way) → Fewer a b → Fewer (out_of n a) (out_of n b)
sub_out n a b f =
    sub_append (outward n a) (outward n b) _ _ (sub_filter (λ w. not (is_end w || leads_to n w)) a b f)
    (sub_end _ _ (or_sub (has_end a) _ (has_end b) _ (any_sub is_end a b f) (any_sub (leads_to n) a b f)))

pub goes_sub : (n : ℕ) (a b : List Way) → Fewer a b → goes_on n a ≡ true → goes_on n b ≡ true
goes_sub n a b f = or_sub (has_end a) _ (has_end b) _ (any_sub is_end a b f) (any_sub (is_continue n) a b f)

pub sub_loop : (P : List Bool) (n : ℕ) (layer : Layer) (c : Counter) (a b : List Way) → Fewer a b → Fewer (ways_of_loop P n layer c a) (ways_of_loop P n layer c b)
sub_loop P n (KStmt-F.Loop k body) c a b f =
    sub_append (outward n a) (outward n b) _ _ (sub_filter (λ w. not (is_end w || leads_to n w)) a b f)
    (sub_append (end_if (stops n a)) (end_if (stops n b)) _ _ (sub_end _ _ (any_sub _ a b f)) (more (goes_on n a) (goes_on n b) (goes_sub n a b f)))
  where
    more : (x y : Bool) → (x ≡ true → y ≡ true) → Fewer (if x then head_ways P n k body c else []) (if y then head_ways P n k body c else [])
    more true true g w h = h
    more true false g w h = absurd (false≢true (g refl))
    more false y g w h = absurd h
sub_loop P n layer c a b f = f

pub sub_par : (k : ParKind) (a b : List Way) (x y : Bool) → Fewer a b → (x ≡ true → y ≡ true) → Fewer (par_ways k a x) (par_ways k b y)
sub_par par.Never a b x y f g = sub_filter (λ w. not (is_end w)) a b f
sub_par par.Or a b x y f g = f
sub_par par.And a b x y f g = sub_append (without_end a) (without_end b) _ _ (sub_filter (λ w. not (is_end w)) a b f) (sub_end x y g)

-- ---- exits

pub not_end : (n : ℕ) (x : Exit) → is_end (way_of n x) ≡ false
not_end n (Escape v) = refl
not_end n Break = refl
not_end n Continue = refl

pub exit_here : (n m : ℕ) (x : Exit) → (n == m) ≡ true → leads_to m (way_of n x) ≡ true
exit_here n m x e = go x (eq-eqb m n (sym (eqb-true n m e)))
  where
    go : (x : Exit) → (m == n) ≡ true → leads_to m (way_of n x) ≡ true
    go (Escape v) i = ap (λ b. b || false || false) i
    go Break i = ap (λ b. b || false) i
    go Continue i = i

pub exit_past : (n m : ℕ) (x : Exit) → (n == m) ≡ false → leads_to m (way_of n x) ≡ false
exit_past n m x e = go x (ne_eqb m n (λ i. eqb-false n m e (sym i)))
  where
    go : (x : Exit) → (m == n) ≡ false → leads_to m (way_of n x) ≡ false
    go (Escape v) i = ap (λ b. b || false || false) i
    go Break i = ap (λ b. b || false) i
    go Continue i = i

or_left : (a b : Bool) → a ≡ true → (a || b) ≡ true
or_left true b e = refl
or_left false b e = absurd (false≢true e)

or_right : (a b : Bool) → b ≡ true → (a || b) ≡ true
or_right true b e = refl
or_right false b e = e

pub out_end : (n : ℕ) (q : List Way) → IsOf q ToEnd → IsOf (out_of n q) ToEnd
out_end n q h = among_right ToEnd (outward n q) _ (end_here _ (or_left (has_end q) _ (ends q h)))

pub out_own : (n m : ℕ) (x : Exit) (q : List Way) → (n == m) ≡ true → IsOf q (way_of n x) → IsOf (out_of m q) ToEnd
out_own n m x q e h = among_right ToEnd (outward m q) _ (end_here _ (or_right (has_end q) _ (any_among (leads_to m) (way_of n x) q (exit_here n m x e) h)))

not_or : (a b : Bool) → a ≡ false → b ≡ false → not (a || b) ≡ true
not_or a b e f = ap (λ x. not (x || b)) e ∙ ap not f

pub outward_exit : (n m : ℕ) (x : Exit) (q : List Way) → (n == m) ≡ false → IsOf q (way_of n x) → IsOf (outward m q) (way_of n x)
outward_exit n m x q e h = filter_in (λ w. not (is_end w || leads_to m w)) (way_of n x) q (not_or (is_end (way_of n x)) (leads_to m (way_of n x)) (not_end n x) (exit_past n m x e)) h

pub out_other : (n m : ℕ) (x : Exit) (q : List Way) → (n == m) ≡ false → IsOf q (way_of n x) → IsOf (out_of m q) (way_of n x)
out_other n m x q e h = among_left (way_of n x) (outward m q) _ (outward_exit n m x q e h)

-- an exit passes a par
pub par_exit : (k : ParKind) (n : ℕ) (x : Exit) (q : List Way) (b : Bool) → IsOf q (way_of n x) → IsOf (par_ways k q b) (way_of n x)
par_exit par.Never n x q b h = filter_in (λ w. not (is_end w)) (way_of n x) q (ap not (not_end n x)) h
par_exit par.Or n x q b h = h
par_exit par.And n x q b h = among_left (way_of n x) (without_end q) (end_if b) (filter_in (λ w. not (is_end w)) (way_of n x) q (ap not (not_end n x)) h)

pub loop_other : (P : List Bool) (n m : ℕ) (x : Exit) (k : KLoop) (b : KBlock) (c : Counter) (q : List Way) → (n == m) ≡ false → IsOf q (way_of n x) → IsOf (ways_of_loop P m (KStmt-F.Loop k b) c q) (way_of n x)
loop_other P n m x k b c q e h = among_left (way_of n x) (outward m q) _ (outward_exit n m x q e h)
