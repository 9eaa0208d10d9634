-- The chains of two frames, walked outwards to where they meet.
use Rattle.std.proofs.Common.{◌≡◌, ◌≢◌, ℕ, zero, suc, ◌+◌, ◌<◌, ◌≤◌, Bool, true, false, eqb, if◌then◌else◌, List, [], ◌∷◌, ◌++◌, Option, Some, None, refl, sym, ap, ◌∙◌, append_assoc, ◌⊎◌, inl, inr, ⊎_elim, arith}
use Rattle.std.proofs.lemmas.List.{append-nil}
use Rattle.std.specs.Option.{option_map}
use Rattle.std.proofs.lemmas.Bool.{false≢true, eqb-true, eq-eqb}
use Rattle.std.proofs.lemmas.Bool.Decides.{nat_tests}
use Rattle.ceu_code.specs.declared.image.Image.{Image}
use Rattle.ceu_isa.specs.Layout.{slots_at, end_of}
use Rattle.ceu_isa.specs.Pools.{outer_frame}
use Rattle.ceu_machine.specs.Ordering.{by_last}
use Rattle.ceu_isa.specs.Order.{is_instance, leads_down, with_frame, chain_in, chain, older, earlier}

-- ---- one link

chosen_true : {X : Type 0} (b : Bool) (x y : X) → b ≡ true → (elim b as (λ _. X) [ true ↦ x | false ↦ y ]) ≡ x
chosen_true true x y e = refl
chosen_true false x y e = absurd (false≢true e)

chosen_false : {X : Type 0} (b : Bool) (x y : X) → b ≡ false → (elim b as (λ _. X) [ true ↦ x | false ↦ y ]) ≡ y
chosen_false true x y e = absurd (false≢true (sym e))
chosen_false false x y e = refl

abbrev linked_on : ℕ → Image → List ℕ → ℕ → Option (List ℕ)
linked_on n image bytes f = elim (leads_down image bytes f) as (λ _. Option (List ℕ)) [ true ↦ option_map (with_frame bytes f) (chain_in n image bytes (outer_frame bytes f)) | false ↦ None ]

at_root : (n : ℕ) (image : Image) (bytes : List ℕ) (f : ℕ) → eqb f (slots_at image) ≡ true → chain_in (suc n) image bytes f ≡ Some []
unfolding chain_in
at_root n image bytes f e = chosen_true (eqb f (slots_at image)) (Some []) (linked_on n image bytes f) e

at_frame : (n : ℕ) (image : Image) (bytes : List ℕ) (f : ℕ) → eqb f (slots_at image) ≡ false → chain_in (suc n) image bytes f ≡ linked_on n image bytes f
unfolding chain_in
at_frame n image bytes f e = chosen_false (eqb f (slots_at image)) (Some []) (linked_on n image bytes f) e

-- the link of a frame that isn't the program's, and the chain behind it
pub record Link (n : ℕ) (image : Image) (bytes : List ℕ) (f : ℕ) (xs : List ℕ) : Type 0 where
  pub down : leads_down image bytes f ≡ true
  pub outside : List ℕ
  pub there : chain_in n image bytes (outer_frame bytes f) ≡ Some outside
  pub is : xs ≡ with_frame bytes f outside

link_of : (n : ℕ) (image : Image) (bytes : List ℕ) (f : ℕ) (xs : List ℕ) (b : Bool) (o : Option (List ℕ)) → leads_down image bytes f ≡ b → chain_in n image bytes (outer_frame bytes f) ≡ o → (elim b as (λ _. Option (List ℕ)) [ true ↦ option_map (with_frame bytes f) o | false ↦ None ]) ≡ Some xs → Link n image bytes f xs
link_of n image bytes f xs false o d c e = absurd (let h : None ≡ Some xs = e in cc)
link_of n image bytes f xs true None d c e = absurd (let h : None ≡ Some xs = e in cc)
link_of n image bytes f xs true (Some ys) d c e = record { down = d; outside = ys; there = c; is = let h : Some (with_frame bytes f ys) ≡ Some xs = e in cc }

pub link : (n : ℕ) (image : Image) (bytes : List ℕ) (f : ℕ) (xs : List ℕ) → eqb f (slots_at image) ≡ false → chain_in (suc n) image bytes f ≡ Some xs → Link n image bytes f xs
link n image bytes f xs ne e = link_of n image bytes f xs (leads_down image bytes f) (chain_in n image bytes (outer_frame bytes f)) refl refl (sym (at_frame n image bytes f ne) ∙ e)

pub lower : (image : Image) (bytes : List ℕ) (f : ℕ) → leads_down image bytes f ≡ true → (outer_frame bytes f < f) × (slots_at image ≤ f) × (f + 8 ≤ end_of image)
lower image bytes f e = grind (arith, nat_tests)

by_cases : (b : Bool) → (b ≡ true) ⊎ (b ≡ false)
by_cases true = inl refl
by_cases false = inr refl

-- more links than are needed change nothing
pub enough : (n : ℕ) (image : Image) (bytes : List ℕ) (f : ℕ) (xs : List ℕ) → chain_in n image bytes f ≡ Some xs → (m : ℕ) → f < m → chain_in m image bytes f ≡ Some xs
unfolding chain_in
enough zero image bytes f xs e m lt = absurd (let h : None ≡ Some xs = e in cc)
enough (suc n) image bytes f xs e zero lt = absurd (omega arith)
enough (suc n) image bytes f xs e (suc m) lt = ⊎_elim
    (λ (root : eqb f (slots_at image) ≡ true). at_root m image bytes f root ∙ sym (at_root n image bytes f root) ∙ e)
    (λ (frame : eqb f (slots_at image) ≡ false).
    let l = link n image bytes f xs frame e in
    let down = lower image bytes f l.down in
    let rest : chain_in m image bytes (outer_frame bytes f) ≡ Some l.outside = enough n image bytes (outer_frame bytes f) l.outside l.there m (omega (arith, down.0)) in
    at_frame m image bytes f frame ∙ chosen_true (leads_down image bytes f) (option_map (with_frame bytes f) (chain_in m image bytes (outer_frame bytes f))) None l.down
    ∙ ap (λ (o : Option (List ℕ)). option_map (with_frame bytes f) o) rest ∙ ap (λ (ys : List ℕ). Some ys) (sym l.is))
    (by_cases (eqb f (slots_at image)))

-- ---- the chain of a frame

placed_at : (image : Image) (bytes : List ℕ) (f : ℕ) → leads_down image bytes f ≡ true → is_instance bytes f ≡ true → 9 ≤ f
placed_at image bytes f e i = grind (arith, nat_tests)

pub record Step (image : Image) (bytes : List ℕ) (f : ℕ) (xs : List ℕ) : Type 0 where
  pub lower : outer_frame bytes f < f
  pub within : f + 8 ≤ end_of image
  pub placed : is_instance bytes f ≡ true → 9 ≤ f
  pub outside : List ℕ
  pub there : chain image bytes (outer_frame bytes f) ≡ Some outside
  pub is : xs ≡ with_frame bytes f outside

pub step : (image : Image) (bytes : List ℕ) (f : ℕ) (xs : List ℕ) → f ≢ slots_at image → chain image bytes f ≡ Some xs → Step image bytes f xs
step image bytes f xs ne e =
    let frame : eqb f (slots_at image) ≡ false = grind (arith, nat_tests) in
    let l = link f image bytes f xs frame e in
    let down = lower image bytes f l.down in
    record {
      lower = down.0;
      within = down.2;
      placed = λ i. placed_at image bytes f l.down i;
      outside = l.outside;
      there = enough f image bytes (outer_frame bytes f) l.outside l.there (suc (outer_frame bytes f)) (omega arith);
      is = l.is;
    }

pub not_below : (image : Image) (bytes : List ℕ) (f : ℕ) (xs : List ℕ) → chain image bytes f ≡ Some xs → slots_at image ≤ f
not_below image bytes f xs e = ⊎_elim
    (λ (root : eqb f (slots_at image) ≡ true). omega (arith, eqb-true f (slots_at image) root))
    (λ (frame : eqb f (slots_at image) ≡ false). let l = link f image bytes f xs frame e in (lower image bytes f l.down).1)
    (by_cases (eqb f (slots_at image)))

-- ---- two frames, walked outwards, the higher one first, to where they meet

-- the first of some instances that are walked past
abbrev pub head_of : List ℕ → Option ℕ
head_of [] = None
head_of (x ∷ xs) = Some x

-- the instances walked past from f to a
pub record Walked (image : Image) (bytes : List ℕ) (f a : ℕ) (last : Option ℕ) : Type 0 where
  pub whole : List ℕ
  pub left : List ℕ
  pub passed : List ℕ
  pub whole_is : chain image bytes f ≡ Some whole
  pub left_is : chain image bytes a ≡ Some left
  pub joined : whole ≡ left ++ passed
  pub last_is : last ≡ head_of passed

pub walk_begins : (image : Image) (bytes : List ℕ) (f : ℕ) (xs : List ℕ) → chain image bytes f ≡ Some xs → Walked image bytes f f None
walk_begins image bytes f xs e = record { whole = xs; left = xs; passed = []; whole_is = e; left_is = e; joined = sym (append-nil xs); last_is = refl }

walks_on : (image : Image) (bytes : List ℕ) (f a : ℕ) (last : Option ℕ) (w : Walked image bytes f a last) (s : Step image bytes a w.left) (b : Bool) → is_instance bytes a ≡ b → Walked image bytes f (outer_frame bytes a) (if b then Some a else last)
walks_on image bytes f a last w s true e =
    let is : w.left ≡ s.outside ++ (a ∷ []) = s.is ∙ ap (λ (c : Bool). if c then s.outside ++ (a ∷ []) else s.outside) e in
    record { whole = w.whole; left = s.outside; passed = a ∷ w.passed; whole_is = w.whole_is; left_is = s.there; joined = w.joined ∙ ap (λ (ys : List ℕ). ys ++ w.passed) is ∙ append_assoc s.outside (a ∷ []) w.passed; last_is = refl }
walks_on image bytes f a last w s false e =
    let is : w.left ≡ s.outside = s.is ∙ ap (λ (c : Bool). if c then s.outside ++ (a ∷ []) else s.outside) e in
    record { whole = w.whole; left = s.outside; passed = w.passed; whole_is = w.whole_is; left_is = s.there; joined = w.joined ∙ ap (λ (ys : List ℕ). ys ++ w.passed) is; last_is = w.last_is }

pub walk_goes_on : (image : Image) (bytes : List ℕ) (f a : ℕ) (last : Option ℕ) → a ≢ slots_at image → Walked image bytes f a last → Walked image bytes f (outer_frame bytes a) (if is_instance bytes a then Some a else last)
walk_goes_on image bytes f a last ne w = walks_on image bytes f a last w (step image bytes a w.left ne w.left_is) (is_instance bytes a) refl

-- ---- where they meet

pub cut_off : (bytes xs us vs : List ℕ) (low : Bool) → earlier bytes (xs ++ us) (xs ++ vs) low ≡ earlier bytes us vs low
cut_off bytes [] us vs low = refl
cut_off bytes (x ∷ xs) us vs low = ap (λ (b : Bool). if b then earlier bytes (xs ++ us) (xs ++ vs) low else older bytes x x low) (eq-eqb x x refl) ∙ cut_off bytes xs us vs low

pub by_heads : (bytes us vs : List ℕ) (low : Bool) → ((x : ℕ) → head_of us ≡ Some x → head_of vs ≡ Some x → ⊥) → earlier bytes us vs low ≡ by_last bytes (head_of us) (head_of vs) low
by_heads bytes [] vs low ne = refl
by_heads bytes (x ∷ us) [] low ne = refl
by_heads bytes (x ∷ us) (y ∷ vs) low ne =
    let apart : x ≢ y = λ e. ne x refl (ap (λ z. Some z) (sym e)) in
    let test : eqb x y ≡ false = grind (arith, nat_tests) in
    ap (λ (b : Bool). if b then earlier bytes us vs low else older bytes x y low) test

pub met : (image : Image) (bytes : List ℕ) (f g a : ℕ) (p q : Option ℕ) (low : Bool) → Walked image bytes f a p → Walked image bytes g a q → ((x : ℕ) → p ≡ Some x → q ≡ Some x → ⊥) → (xs ys : List ℕ) → chain image bytes f ≡ Some xs → chain image bytes g ≡ Some ys → earlier bytes xs ys low ≡ by_last bytes p q low
met image bytes f g a p q low w v ne xs ys e d =
    let same : w.left ≡ v.left = let h : Some w.left ≡ Some v.left = sym w.left_is ∙ v.left_is in cc in
    let first : xs ≡ w.left ++ w.passed = let h : Some xs ≡ Some w.whole = sym e ∙ w.whole_is in cc (w.joined) in
    let second : ys ≡ w.left ++ v.passed = let h : Some ys ≡ Some v.whole = sym d ∙ v.whole_is in cc (v.joined) in
    ap (λ (l : List ℕ). earlier bytes l ys low) first ∙ ap (λ (l : List ℕ). earlier bytes (w.left ++ w.passed) l low) second
    ∙ cut_off bytes w.left w.passed v.passed low
    ∙ by_heads bytes w.passed v.passed low (λ x i j. ne x (w.last_is ∙ i) (v.last_is ∙ j))
    ∙ ap (λ (o : Option ℕ). by_last bytes o (head_of v.passed) low) (sym w.last_is) ∙ ap (λ (o : Option ℕ). by_last bytes p o low) (sym v.last_is)

-- ---- two walks at once

pub record Walks (image : Image) (bytes : List ℕ) (f g a b : ℕ) (p q : Option ℕ) : Type 0 where
  pub first : Walked image bytes f a p
  pub second : Walked image bytes g b q
  pub above_second : (x : ℕ) → p ≡ Some x → b < x
  pub above_first : (x : ℕ) → q ≡ Some x → a < x
  pub first_placed : (x : ℕ) → p ≡ Some x → (9 ≤ x) × (x + 8 ≤ end_of image)
  pub second_placed : (x : ℕ) → q ≡ Some x → (9 ≤ x) × (x + 8 ≤ end_of image)
  pub apart : (x : ℕ) → p ≡ Some x → q ≡ Some x → ⊥

pub walks_begin : (image : Image) (bytes : List ℕ) (f g : ℕ) (xs ys : List ℕ) → chain image bytes f ≡ Some xs → chain image bytes g ≡ Some ys → Walks image bytes f g f g None None
walks_begin image bytes f g xs ys e d = record {
  first = walk_begins image bytes f xs e;
  second = walk_begins image bytes g ys d;
  above_second = λ x h. absurd (cc);
  above_first = λ x h. absurd (cc);
  first_placed = λ x h. absurd (cc);
  second_placed = λ x h. absurd (cc);
  apart = λ x h k. (cc);
}

first_on : (image : Image) (bytes : List ℕ) (f g a b : ℕ) (p q : Option ℕ) (i : Bool) → is_instance bytes a ≡ i → b < a → (w : Walks image bytes f g a b p q) → (s : Step image bytes a w.first.left) → Walked image bytes f (outer_frame bytes a) (if i then Some a else p) → Walks image bytes f g (outer_frame bytes a) b (if i then Some a else p) q
first_on image bytes f g a b p q true e lt w s next = record {
  first = next;
  second = w.second;
  above_second = λ x h. let y : a ≡ x = cc in omega arith;
  above_first = λ x h. let y = w.above_first x h in omega (arith, s.lower);
  first_placed = λ x h. let y : a ≡ x = cc in (omega (arith, s.placed e), omega (arith, s.within));
  second_placed = w.second_placed;
  apart = λ x h k. let y : a ≡ x = cc in let z = w.above_first x k in omega arith;
}
first_on image bytes f g a b p q false e lt w s next = record {
  first = next;
  second = w.second;
  above_second = w.above_second;
  above_first = λ x h. let y = w.above_first x h in omega (arith, s.lower);
  first_placed = w.first_placed;
  second_placed = w.second_placed;
  apart = w.apart;
}

turned_round : (image : Image) (bytes : List ℕ) (f g a b : ℕ) (p q : Option ℕ) → Walks image bytes f g a b p q → Walks image bytes g f b a q p
turned_round image bytes f g a b p q w = record {
  first = w.second;
  second = w.first;
  above_second = w.above_first;
  above_first = w.above_second;
  first_placed = w.second_placed;
  second_placed = w.first_placed;
  apart = λ x h k. w.apart x k h;
}

-- the program's frame is the lowest
pub not_root : (image : Image) (bytes : List ℕ) (f g a b : ℕ) (p q : Option ℕ) → b < a → Walks image bytes f g a b p q → a ≢ slots_at image
not_root image bytes f g a b p q lt w e = let low = not_below image bytes b w.second.left w.second.left_is in omega arith

pub first_step : (image : Image) (bytes : List ℕ) (f g a b : ℕ) (p q : Option ℕ) → b < a → (w : Walks image bytes f g a b p q) → Step image bytes a w.first.left
first_step image bytes f g a b p q lt w = step image bytes a w.first.left (not_root image bytes f g a b p q lt w) w.first.left_is

pub first_walks : (image : Image) (bytes : List ℕ) (f g a b : ℕ) (p q : Option ℕ) → b < a → Walks image bytes f g a b p q → Walks image bytes f g (outer_frame bytes a) b (if is_instance bytes a then Some a else p) q
first_walks image bytes f g a b p q lt w =
    first_on image bytes f g a b p q (is_instance bytes a) refl lt w (first_step image bytes f g a b p q lt w) (walk_goes_on image bytes f a p (not_root image bytes f g a b p q lt w) w.first)

pub second_step : (image : Image) (bytes : List ℕ) (f g a b : ℕ) (p q : Option ℕ) → a < b → (w : Walks image bytes f g a b p q) → Step image bytes b w.second.left
unfolding turned_round
second_step image bytes f g a b p q lt w = first_step image bytes g f b a q p lt (turned_round image bytes f g a b p q w)

pub second_walks : (image : Image) (bytes : List ℕ) (f g a b : ℕ) (p q : Option ℕ) → a < b → Walks image bytes f g a b p q → Walks image bytes f g a (outer_frame bytes b) p (if is_instance bytes b then Some b else q)
second_walks image bytes f g a b p q lt w =
    turned_round image bytes g f (outer_frame bytes b) a (if is_instance bytes b then Some b else q) p (first_walks image bytes g f b a q p lt (turned_round image bytes f g a b p q w))
