-- The one of some gates that goes before all others is found by a walk that keeps the best so far.
use Rattle.std.proofs.Common.{◌≡◌, ◌≢◌, ℕ, zero, suc, ◌+◌, ◌-◌, ◌<◌, Bool, true, false, ◌&&◌, ◌||◌, not, nat_lt, eqb, if◌then◌else◌, List, [], ◌∷◌, Option, Some, None, refl, sym, ap, ◌∙◌, subst, ◌⊎◌, inl, inr, ⊎_elim, arith}
use Rattle.std.specs.Prelude.{IsSome, IfSome}
use Rattle.std.specs.List.{list_all}
use Rattle.std.proofs.lemmas.Bool.{false≢true, eqb-true}
use Rattle.std.proofs.lemmas.Bool.Decides.{nat_tests}
use Rattle.ceu_code.specs.declared.image.Image.{Image}
use Rattle.ceu_mem.specs.declared.gate.Gate.{Gate}
use Rattle.ceu_isa.specs.Layout.{gate_of, gates_from}
use Rattle.ceu_machine.specs.Ordering.{HasChain, better, ahead, end_of_all, choice_of, IsDecided}
use Rattle.ceu_isa.specs.Order.{Choice, Nowhere, Chosen, found, older, earlier, goes_before, before, chain, is_first, is_last}

-- ---- the order tells two gates apart

older_turned : (bytes : List ℕ) (f g : ℕ) (low : Bool) → older bytes f g low ≡ true → older bytes g f (not low) ≡ false
older_turned bytes f g true e = grind (arith, nat_tests)
older_turned bytes f g false e = grind (arith, nat_tests)

same_or_not : (a b : ℕ) → ((eqb a b ≡ true) × (eqb b a ≡ true)) ⊎ ((eqb a b ≡ false) × (eqb b a ≡ false))
same_or_not a b = grind (arith, nat_tests)

earlier_turned : (bytes fs gs : List ℕ) (low : Bool) → earlier bytes fs gs low ≡ true → earlier bytes gs fs (not low) ≡ false
earlier_turned bytes [] [] true e = refl
earlier_turned bytes [] [] false e = absurd (false≢true e)
earlier_turned bytes [] (g ∷ gs) true e = refl
earlier_turned bytes [] (g ∷ gs) false e = absurd (false≢true e)
earlier_turned bytes (f ∷ fs) [] true e = refl
earlier_turned bytes (f ∷ fs) [] false e = absurd (false≢true e)
earlier_turned bytes (f ∷ fs) (g ∷ gs) low e = ⊎_elim
    (λ (s : (eqb f g ≡ true) × (eqb g f ≡ true)).
    let h : earlier bytes fs gs low ≡ true = sym (ap (λ (b : Bool). if b then earlier bytes fs gs low else older bytes f g low) s.0) ∙ e in
    ap (λ (b : Bool). if b then earlier bytes gs fs (not low) else older bytes g f (not low)) s.1 ∙ earlier_turned bytes fs gs low h)
    (λ (s : (eqb f g ≡ false) × (eqb g f ≡ false)).
    let h : older bytes f g low ≡ true = sym (ap (λ (b : Bool). if b then earlier bytes fs gs low else older bytes f g low) s.0) ∙ e in
    ap (λ (b : Bool). if b then earlier bytes gs fs (not low) else older bytes g f (not low)) s.1 ∙ older_turned bytes f g low h)
    (same_or_not f g)

turned : (bytes : List ℕ) (p q : Option (List ℕ)) (low high : Bool) → high ≡ not low → goes_before bytes p q low ≡ true → goes_before bytes q p high ≡ false
turned bytes None q low high h e = absurd (false≢true e)
turned bytes (Some fs) None low high h e = refl
turned bytes (Some fs) (Some gs) low high h e = ap (λ (b : Bool). earlier bytes gs fs b) h ∙ earlier_turned bytes fs gs low e

pub before_turned : (image : Image) (bytes : List ℕ) (g h : ℕ) → g ≢ h → before image bytes g h ≡ true → before image bytes h g ≡ false
unfolding before
before_turned image bytes g h ne e =
    let other : nat_lt h g ≡ not (nat_lt g h) = grind (arith, nat_tests) in
    turned bytes (chain image bytes (gate_of image bytes g).frame) (chain image bytes (gate_of image bytes h).frame) (nat_lt g h) (nat_lt h g) other e

chained : (bytes : List ℕ) (p q : Option (List ℕ)) (low : Bool) → goes_before bytes p q low ≡ true → IsSome p × IsSome q
chained bytes None q low e = absurd (false≢true e)
chained bytes (Some fs) None low e = absurd (false≢true e)
chained bytes (Some fs) (Some gs) low e = (refl, refl)

pub before_chained : (image : Image) (bytes : List ℕ) (g h : ℕ) → before image bytes g h ≡ true → HasChain image bytes g × HasChain image bytes h
unfolding before
before_chained image bytes g h e = chained bytes (chain image bytes (gate_of image bytes g).frame) (chain image bytes (gate_of image bytes h).frame) (nat_lt g h) e

-- ---- the gates of a range

abbrev pub Among : ℕ → List ℕ → Type 0
Among g [] = ⊥
Among g (h ∷ hs) = (g ≡ h) ⊎ Among g hs

-- ---- a walk

pub scan : (ℕ → ℕ → Bool) → Option ℕ → List ℕ → Option ℕ
scan bef best [] = best
scan bef best (g ∷ gs) = scan bef (Some (better bef best g)) gs

-- one of the gates leads all others
pub record Leads (bef : ℕ → ℕ → Bool) (all : List ℕ) (c : ℕ) : Type 0 where
  pub member : Among c all
  pub beats : (h : ℕ) → Among h all → h ≢ c → bef c h ≡ true
  pub turned : (g h : ℕ) → g ≢ h → bef g h ≡ true → bef h g ≡ false

keeps_best : (bef : ℕ → ℕ → Bool) (all : List ℕ) (c : ℕ) → Leads bef all c → (gs : List ℕ) → ((h : ℕ) → Among h gs → Among h all) → scan bef (Some c) gs ≡ Some c
unfolding scan
keeps_best bef all c l [] sub = refl
keeps_best bef all c l (g ∷ gs) sub = ⊎_elim
    (λ (same : (eqb g c ≡ true) × (eqb c g ≡ true)).
    let e : g ≡ c = eqb-true g c same.0 in
    let kept : better bef (Some c) g ≡ c = subst (λ k. (if bef k c then k else c) ≡ c) (sym e) (either (bef c c) c) in
    ap (λ (k : ℕ). scan bef (Some k) gs) kept ∙ keeps_best bef all c l gs (λ h m. sub h (inr m)))
    (λ (other : (eqb g c ≡ false) × (eqb c g ≡ false)).
    let ne : g ≢ c = grind (arith, nat_tests) in
    let worse : bef g c ≡ false = l.turned c g (λ e. ne (sym e)) (l.beats g (sub g (inl refl)) ne) in
    ap (λ (b : Bool). scan bef (Some (if b then g else c)) gs) worse ∙ keeps_best bef all c l gs (λ h m. sub h (inr m)))
    (same_or_not g c)
  where
    either : (b : Bool) (k : ℕ) → (if b then k else k) ≡ k
    either true k = refl
    either false k = refl

finds_best : (bef : ℕ → ℕ → Bool) (all : List ℕ) (c : ℕ) → Leads bef all c → (b : ℕ) (gs : List ℕ) → Among b all → Among c gs → ((h : ℕ) → Among h gs → Among h all) → scan bef (Some b) gs ≡ Some c
unfolding scan
finds_best bef all c l b [] m d sub = absurd d
finds_best bef all c l b (g ∷ gs) m d sub = ⊎_elim
    (λ (same : (eqb b c ≡ true) × (eqb c b ≡ true)).
    let e : b ≡ c = eqb-true b c same.0 in
    subst (λ k. scan bef (Some k) (g ∷ gs) ≡ Some c) (sym e) (keeps_best bef all c l (g ∷ gs) sub))
    (λ (other : (eqb b c ≡ false) × (eqb c b ≡ false)).
    let ne : b ≢ c = grind (arith, nat_tests) in
    ⊎_elim
    (λ (here : c ≡ g).
    let best : bef g b ≡ true = subst (λ k. bef k b ≡ true) here (l.beats b m ne) in
    ap (λ (t : Bool). scan bef (Some (if t then g else b)) gs) best ∙ subst (λ k. scan bef (Some k) gs ≡ Some c) here (keeps_best bef all c l gs (λ h n. sub h (inr n))))
    (λ (later : Among c gs). finds_best bef all c l (better bef (Some b) g) gs (one_of (bef g b) (sub g (inl refl)) m) later (λ h n. sub h (inr n)))
    d)
    (same_or_not b c)
  where
    one_of : (t : Bool) → Among g all → Among b all → Among (if t then g else b) all
    one_of true x y = x
    one_of false x y = y

pub scan_finds : (bef : ℕ → ℕ → Bool) (all : List ℕ) (c : ℕ) → Leads bef all c → scan bef None all ≡ Some c
unfolding scan
scan_finds bef [] c l = absurd l.member
scan_finds bef (g ∷ gs) c l = ⊎_elim
    (λ (here : c ≡ g). subst (λ k. scan bef (Some k) gs ≡ Some c) here (keeps_best bef (g ∷ gs) c l gs (λ h m. inr m)))
    (λ (later : Among c gs). finds_best bef (g ∷ gs) c l g gs (inl refl) later (λ h m. inr m))
    l.member

-- ---- what the definition chose

all_pass : (test : ℕ → Bool) (gs : List ℕ) → list_all test gs ≡ true → (h : ℕ) → Among h gs → test h ≡ true
all_pass test [] e h m = absurd m
all_pass test (g ∷ gs) e h m =
    let both : (test g ≡ true) × (list_all test gs ≡ true) = parts (test g) (list_all test gs) e in
    ⊎_elim (λ (here : h ≡ g). subst (λ k. test k ≡ true) (sym here) both.0) (λ (later : Among h gs). all_pass test gs both.1 h later) m
  where
    parts : (a b : Bool) → (a && b) ≡ true → (a ≡ true) × (b ≡ true)
    parts true b e = (refl, e)
    parts false b e = absurd (false≢true e)

found_by : (test : ℕ → Bool) (g c : ℕ) (gs : List ℕ) (b : Bool) → test g ≡ b → (found test gs ≡ Chosen c → Among c gs × (test c ≡ true)) → (elim b as (λ _. Choice) [ true ↦ Chosen g | false ↦ found test gs ]) ≡ Chosen c → Among c (g ∷ gs) × (test c ≡ true)
found_by test g c gs true t rest e = let same : g ≡ c = cc in (inl (sym same), subst (λ k. test k ≡ true) same t)
found_by test g c gs false t rest e = let r = rest e in (inr r.0, r.1)

pub found_passes : (test : ℕ → Bool) (gs : List ℕ) (c : ℕ) → found test gs ≡ Chosen c → Among c gs × (test c ≡ true)
unfolding found
found_passes test [] c e = absurd (cc)
found_passes test (g ∷ gs) c e = found_by test g c gs (test g) refl (found_passes test gs c) e

pub found_leads : (bef : ℕ → ℕ → Bool) (all : List ℕ) (c : ℕ) → ((g h : ℕ) → g ≢ h → bef g h ≡ true → bef h g ≡ false) → found (λ g. list_all (λ h. eqb g h || bef g h) all) all ≡ Chosen c → Leads bef all c
found_leads bef all c turned e =
    let f = found_passes (λ g. list_all (λ h. eqb g h || bef g h) all) all c e in
    record {
      member = f.0;
      beats = λ h m ne. let t : (eqb c h || bef c h) ≡ true = all_pass (λ h. eqb c h || bef c h) all f.1 h m in let no : eqb c h ≡ false = grind (arith, nat_tests) in sym (ap (λ (b : Bool). b || bef c h) no) ∙ t;
      turned = turned;
    }

-- ---- of the order

ahead_turned : (image : Image) (bytes : List ℕ) (last : Bool) (g h : ℕ) → g ≢ h → ahead image bytes last g h ≡ true → ahead image bytes last h g ≡ false
unfolding ahead
ahead_turned image bytes true g h ne e = before_turned image bytes h g (λ s. ne (sym s)) e
ahead_turned image bytes false g h ne e = before_turned image bytes g h ne e

ahead_chained : (image : Image) (bytes : List ℕ) (last : Bool) (g h : ℕ) → ahead image bytes last g h ≡ true → HasChain image bytes g × HasChain image bytes h
unfolding ahead
ahead_chained image bytes true g h e = let b = before_chained image bytes h g e in (b.1, b.0)
ahead_chained image bytes false g h e = before_chained image bytes g h e

found_one : (test : ℕ → Bool) (g : ℕ) (gs : List ℕ) (b : Bool) → (IsDecided (found test gs) → (c : ℕ) × (found test gs ≡ Chosen c)) → IsDecided (elim b as (λ _. Choice) [ true ↦ Chosen g | false ↦ found test gs ]) → (c : ℕ) × ((elim b as (λ _. Choice) [ true ↦ Chosen g | false ↦ found test gs ]) ≡ Chosen c)
found_one test g gs true rest d = (g, refl)
found_one test g gs false rest d = rest d

pub found_or : (test : ℕ → Bool) (gs : List ℕ) → IsDecided (found test gs) → (c : ℕ) × (found test gs ≡ Chosen c)
unfolding found
found_or test [] d = absurd d
found_or test (g ∷ gs) d = found_one test g gs (test g) (found_or test gs) d

-- where there is a gate, and it is clear which one, one leads
pub record Decided (image : Image) (bytes : List ℕ) (last : Bool) (gs : List ℕ) : Type 0 where
  pub best : ℕ
  pub leads : Leads (ahead image bytes last) gs best
  pub is : end_of_all image bytes last gs ≡ Chosen best

pub decided : (image : Image) (bytes : List ℕ) (last : Bool) (gs : List ℕ) (g : ℕ) → Among g gs → IsDecided (end_of_all image bytes last gs) → Decided image bytes last gs
unfolding ahead end_of_all
decided image bytes last [] g m d = absurd m
decided image bytes true (h ∷ hs) g m d =
    let f = found_or (is_last image bytes (h ∷ hs)) (h ∷ hs) d in
    record { best = f.0; leads = found_leads (ahead image bytes true) (h ∷ hs) f.0 (ahead_turned image bytes true) f.1; is = f.1 }
decided image bytes false (h ∷ hs) g m d =
    let f = found_or (is_first image bytes (h ∷ hs)) (h ∷ hs) d in
    record { best = f.0; leads = found_leads (ahead image bytes false) (h ∷ hs) f.0 (ahead_turned image bytes false) f.1; is = f.1 }

none_chosen : (image : Image) (bytes : List ℕ) (last : Bool) → end_of_all image bytes last [] ≡ Nowhere
unfolding end_of_all
none_chosen image bytes true = refl
none_chosen image bytes false = refl

pub nothing_scanned : (bef : ℕ → ℕ → Bool) (best : Option ℕ) → scan bef best [] ≡ best
unfolding scan
nothing_scanned bef best = refl

one_scanned : (bef : ℕ → ℕ → Bool) (best : Option ℕ) (g : ℕ) (gs : List ℕ) → scan bef best (g ∷ gs) ≡ scan bef (Some (better bef best g)) gs
unfolding scan
one_scanned bef best g gs = refl

pub picked : (image : Image) (bytes : List ℕ) (last : Bool) (gs : List ℕ) → IsDecided (end_of_all image bytes last gs) → end_of_all image bytes last gs ≡ choice_of (scan (ahead image bytes last) None gs)
picked image bytes last [] d = none_chosen image bytes last ∙ ap choice_of (sym (nothing_scanned (ahead image bytes last) None))
picked image bytes last (g ∷ gs) d =
    let x = decided image bytes last (g ∷ gs) g (inl refl) d in
    x.is ∙ ap choice_of (sym (scan_finds (ahead image bytes last) (g ∷ gs) x.best x.leads))

-- two of the gates have chains
pub both_chained : (image : Image) (bytes : List ℕ) (last : Bool) (gs : List ℕ) (b g : ℕ) → b ≢ g → Among b gs → Among g gs → IsDecided (end_of_all image bytes last gs) → HasChain image bytes b × HasChain image bytes g
both_chained image bytes last gs b g ne mb mg d =
    let x = decided image bytes last gs b mb d in
    ⊎_elim
    (λ (s : (eqb b x.best ≡ true) × (eqb x.best b ≡ true)).
    let e : b ≡ x.best = eqb-true b x.best s.0 in
    let h = ahead_chained image bytes last x.best g (x.leads.beats g mg (λ t. ne (e ∙ sym t))) in
    (subst (λ k. HasChain image bytes k) (sym e) h.0, h.1))
    (λ (s : (eqb b x.best ≡ false) × (eqb x.best b ≡ false)).
    let nb : b ≢ x.best = grind (arith, nat_tests) in
    let h = ahead_chained image bytes last x.best b (x.leads.beats b mb nb) in
    ⊎_elim
    (λ (t : (eqb g x.best ≡ true) × (eqb x.best g ≡ true)). let e : g ≡ x.best = eqb-true g x.best t.0 in (h.1, subst (λ k. HasChain image bytes k) (sym e) h.0))
    (λ (t : (eqb g x.best ≡ false) × (eqb x.best g ≡ false)). let ng : g ≢ x.best = grind (arith, nat_tests) in (h.1, (ahead_chained image bytes last x.best g (x.leads.beats g mg ng)).1))
    (same_or_not g x.best))
    (same_or_not b x.best)

-- ---- the gates of a range, one by one

pub range_none : (image : Image) (bytes : List ℕ) (test : Gate → Bool) (f n : ℕ) → n ≡ 0 → gates_from image bytes test f n ≡ []
unfolding gates_from
range_none image bytes test f n e = subst (λ k. gates_from image bytes test f k ≡ []) (sym e) refl

pub range_next : (image : Image) (bytes : List ℕ) (test : Gate → Bool) (f n g k : ℕ) → g ≡ f + 1 → n ≡ k + 1 → (b : Bool) → test (gate_of image bytes f) ≡ b → gates_from image bytes test f n ≡ (if b then f ∷ gates_from image bytes test g k else gates_from image bytes test g k)
unfolding gates_from
range_next image bytes test f zero g k a e b t = absurd (omega arith)
range_next image bytes test f (suc n) g k a e b t =
    let m : n ≡ k = omega arith in
    let s : suc f ≡ g = omega arith in
    let rest : gates_from image bytes test (suc f) n ≡ gates_from image bytes test g k = ap (λ (x : ℕ). gates_from image bytes test x n) s ∙ ap (λ (x : ℕ). gates_from image bytes test g x) m in
    ap (λ (c : Bool). elim c as (λ _. List ℕ) [ true ↦ f ∷ gates_from image bytes test (suc f) n | false ↦ gates_from image bytes test (suc f) n ]) t ∙ same b rest
  where
    same : (c : Bool) → gates_from image bytes test (suc f) n ≡ gates_from image bytes test g k → (elim c as (λ _. List ℕ) [ true ↦ f ∷ gates_from image bytes test (suc f) n | false ↦ gates_from image bytes test (suc f) n ]) ≡ (if c then f ∷ gates_from image bytes test g k else gates_from image bytes test g k)
    same true r = ap (λ (x : List ℕ). f ∷ x) r
    same false r = r

-- a wanted gate is one of them
pub range_member : (image : Image) (bytes : List ℕ) (test : Gate → Bool) (i f n : ℕ) → i < n → test (gate_of image bytes (f + i)) ≡ true → Among (f + i) (gates_from image bytes test f n)
range_member image bytes test zero f n lt t =
    let e : f + 0 ≡ f = omega arith in
    let k : n ≡ (n - 1) + 1 = omega arith in
    subst (λ x. Among (f + 0) x) (sym (range_next image bytes test f n (f + 1) (n - 1) refl k true (subst (λ x. test (gate_of image bytes x) ≡ true) e t))) (inl e)
range_member image bytes test (suc i) f n lt t =
    let e : f + suc i ≡ (f + 1) + i = omega arith in
    let k : n ≡ (n - 1) + 1 = omega arith in
    let rest : Among (f + suc i) (gates_from image bytes test (f + 1) (n - 1)) = subst (λ x. Among x (gates_from image bytes test (f + 1) (n - 1))) (sym e) (range_member image bytes test i (f + 1) (n - 1) (omega arith) (subst (λ x. test (gate_of image bytes x) ≡ true) e t)) in
    subst (λ x. Among (f + suc i) x) (sym (range_next image bytes test f n (f + 1) (n - 1) refl k (test (gate_of image bytes f)) refl)) (either (test (gate_of image bytes f)) rest)
  where
    either : (c : Bool) → Among (f + suc i) (gates_from image bytes test (f + 1) (n - 1)) → Among (f + suc i) (if c then f ∷ gates_from image bytes test (f + 1) (n - 1) else gates_from image bytes test (f + 1) (n - 1))
    either true m = inr m
    either false m = m

-- ---- one more gate of a walk over a range

pub scan_on : (bef : ℕ → ℕ → Bool) (best : Option ℕ) (g : ℕ) (gs : List ℕ) (b : Bool) → scan bef (if b then Some (better bef best g) else best) gs ≡ scan bef best (if b then g ∷ gs else gs)
scan_on bef best g gs true = sym (one_scanned bef best g gs)
scan_on bef best g gs false = refl

abbrev pub SoFar : (k : ℕ) → List ℕ → Option ℕ → Type 0
SoFar k all best = IfSome best (λ b. (b < k) × Among b all)

pub so_far_on : (bef : ℕ → ℕ → Bool) (best : Option ℕ) (g k : ℕ) (all : List ℕ) (b : Bool) → g < k → (b ≡ true → Among g all) → SoFar g all best → SoFar k all (if b then Some (better bef best g) else best)
so_far_on bef None g k all true lt m s = (lt, m refl)
so_far_on bef (Some x) g k all true lt m s = one_of (bef g x)
  where
    one_of : (t : Bool) → ((if t then g else x) < k) × Among (if t then g else x) all
    one_of true = (lt, m refl)
    one_of false = (omega (arith, s.0), s.1)
so_far_on bef None g k all false lt m s = s
so_far_on bef (Some x) g k all false lt m s = (omega (arith, s.0), s.1)

pub chained_on : (image : Image) (bytes : List ℕ) (last : Bool) (best : Option ℕ) (g : ℕ) (all : List ℕ) → g < image.gates → Among g all → SoFar g all best → IsDecided (end_of_all image bytes last all) → IfSome best (λ b. (b < image.gates) × HasChain image bytes b × HasChain image bytes g)
chained_on image bytes last None g all lt m s d = tt
chained_on image bytes last (Some b) g all lt m s d =
    let ne : b ≢ g = omega (arith, s.0) in
    let h = both_chained image bytes last all b g ne s.1 m d in
    (omega (arith, s.0), h.0, h.1)
