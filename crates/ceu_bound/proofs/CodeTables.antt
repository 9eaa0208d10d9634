-- Tables of codes with one more code.
use Rattle.std.proofs.Common.{◌≡◌, refl, sym, ap, subst, ◌∙◌, ℕ, zero, suc, ◌+◌, ◌<◌, ◌≤◌, Bool, List, [], ◌∷◌, ◌++◌, length, take, get_or, add-one, arith}
use Rattle.std.specs.List.{AllZip}
use Rattle.std.proofs.lemmas.List.{map-append}
use Rattle.std.proofs.lemmas.List.Elements.{AllZip-push}
use Rattle.ceu_tree.specs.declared.kernel.KCode.{KCode}
use Rattle.ceu_tree.specs.Costs.{Cost, enter_block, stay_block, enters_from, stays_from}
use Rattle.ceu_paths.specs.Cap.{cap}
use Rattle.ceu_paths.proofs.CapLaws.{cap_idem}
use Rattle.ceu_bound.specs.declared.tables.Part.{Part}
use Rattle.ceu_bound.specs.declared.tables.Tables.{Tables}
use Rattle.ceu_bound.specs.Parts.{pick, both, costs, Same, SameTables}
use Rattle.ceu_bound.specs.Measured as measured
use Rattle.ceu_bound.proofs.CostLaws.{pick_both}
use Rattle.ceu_bound.proofs.Agree.{block_same, stay_block_same}

pub zip_tables : (w : Part) (A B : List Cost) → AllZip (Same w) A B → SameTables w A B
zip_tables w [] [] z k = refl
zip_tables w [] (b ∷ B) z k = absurd z
zip_tables w (a ∷ A) [] z k = absurd z
zip_tables w (a ∷ A) (b ∷ B) z zero = z.0
zip_tables w (a ∷ A) (b ∷ B) z (suc k) = zip_tables w A B z.1 k

take_none : {X : Type 0} (n : ℕ) → take {A = X} n [] ≡ []
take_none zero = refl
take_none (suc n) = refl

pub take_end : {X : Type 0} (n : ℕ) (xs : List X) → length xs ≤ n → take n xs ≡ xs
take_end n [] h = take_none n
take_end zero (x ∷ xs) h = absurd (omega arith)
take_end (suc n) (x ∷ xs) h = ap (λ k. x ∷ k) (take_end n xs (omega arith))

capped_same : (w : Part) (n : ℕ) (a b : Cost) → n ≡ cap (pick w a) → Same w a b → Same w (both n) b
capped_same w n a b e h = ap cap (pick_both w n ∙ e) ∙ cap_idem (pick w a) ∙ h

zip_push : (w : Part) (ns : List ℕ) (X : List Cost) (n : ℕ) (x : Cost) → AllZip (Same w) (costs ns) X → Same w (both n) x → AllZip (Same w) (costs (ns ++ n ∷ [])) (X ++ x ∷ [])
zip_push w ns X n x z h = let P : List Cost → Type 0 = λ A. AllZip (Same w) A (X ++ x ∷ []) in subst P (sym (map-append both ns (n ∷ []))) (AllZip-push (Same w) (costs ns) X (both n) x z h)

enters_more : (P : List Bool) (E N : List Cost) (cs : List KCode) (i : ℕ) (d : KCode) → i < length cs → enters_from P E N (take (suc i) cs) ≡ enters_from P E N (take i cs) ++ enter_block P E (enters_from P E N (take i cs)) (get_or cs i d).body ∷ []
enters_more P E N [] i d h = absurd (omega arith)
enters_more P E N (c ∷ cs) zero d h = refl
enters_more P E N (c ∷ cs) (suc i) d h = enters_more P E (N ++ enter_block P E N c.body ∷ []) cs i d (omega arith)

stays_more : (P : List Bool) (E N S : List Cost) (cs : List KCode) (i : ℕ) (d : KCode) → i < length cs → stays_from P E N S (take (suc i) cs) ≡ stays_from P E N S (take i cs) ++ stay_block P E N (stays_from P E N S (take i cs)) (get_or cs i d).body ∷ []
stays_more P E N S [] i d h = absurd (omega arith)
stays_more P E N S (c ∷ cs) zero d h = refl
stays_more P E N S (c ∷ cs) (suc i) d h = stays_more P E N (S ++ stay_block P E N S c.body ∷ []) cs i d (omega arith)

pub enter_push : (T : Tables) (E : List Cost) (cs : List KCode) (i : ℕ) (c : KCode) (n : ℕ) → i < length cs → c ≡ get_or cs i c → SameTables T.part (costs T.events.items) E →
    n ≡ cap (measured.enter_block T c.body) → AllZip (Same T.part) (costs T.entering.items) (enters_from T.passing.items E [] (take i cs)) →
    (new : List ℕ) → new ≡ T.entering.items ++ n ∷ [] → AllZip (Same T.part) (costs new) (enters_from T.passing.items E [] (take (i + 1) cs))
unfolding measured.enter_block
enter_push T E cs i c n below at events made z new pushed =
    let before = enters_from T.passing.items E [] (take i cs) in
    let same = block_same T.part T.passing.items (costs T.events.items) E (costs T.entering.items) before events (zip_tables T.part (costs T.entering.items) before z) c.body in
    let whole = zip_push T.part T.entering.items before n (enter_block T.passing.items E before c.body) z (capped_same T.part n (enter_block T.passing.items (costs T.events.items) (costs T.entering.items) c.body) (enter_block T.passing.items E before c.body) made same) in
    let P : List Cost → Type 0 = λ B. AllZip (Same T.part) (costs (T.entering.items ++ n ∷ [])) B in
    let Q : List ℕ → Type 0 = λ ns. AllZip (Same T.part) (costs ns) (enters_from T.passing.items E [] (take (i + 1) cs)) in
    let more = ap (λ (d : KCode). before ++ enter_block T.passing.items E before d.body ∷ []) at ∙ sym (enters_more T.passing.items E [] cs i c below) ∙ ap (λ k. enters_from T.passing.items E [] (take k cs)) (sym (add-one i)) in
    subst Q (sym pushed) (subst P more whole)

pub stay_push : (T : Tables) (E N : List Cost) (cs : List KCode) (i : ℕ) (c : KCode) (n : ℕ) → i < length cs → c ≡ get_or cs i c → SameTables T.part (costs T.events.items) E → SameTables T.part (costs T.entering.items) N →
    n ≡ cap (measured.stay_block T c.body) → AllZip (Same T.part) (costs T.staying.items) (stays_from T.passing.items E N [] (take i cs)) →
    (new : List ℕ) → new ≡ T.staying.items ++ n ∷ [] → AllZip (Same T.part) (costs new) (stays_from T.passing.items E N [] (take (i + 1) cs))
unfolding measured.stay_block
stay_push T E N cs i c n below at events entering made z new pushed =
    let before = stays_from T.passing.items E N [] (take i cs) in
    let same = stay_block_same T.part T.passing.items (costs T.events.items) E (costs T.entering.items) N events entering (costs T.staying.items) before (zip_tables T.part (costs T.staying.items) before z) c.body in
    let whole = zip_push T.part T.staying.items before n (stay_block T.passing.items E N before c.body) z (capped_same T.part n (stay_block T.passing.items (costs T.events.items) (costs T.entering.items) (costs T.staying.items) c.body) (stay_block T.passing.items E N before c.body) made same) in
    let P : List Cost → Type 0 = λ B. AllZip (Same T.part) (costs (T.staying.items ++ n ∷ [])) B in
    let Q : List ℕ → Type 0 = λ ns. AllZip (Same T.part) (costs ns) (stays_from T.passing.items E N [] (take (i + 1) cs)) in
    let more = ap (λ (d : KCode). before ++ stay_block T.passing.items E N before d.body ∷ []) at ∙ sym (stays_more T.passing.items E N [] cs i c below) ∙ ap (λ k. stays_from T.passing.items E N [] (take k cs)) (sym (add-one i)) in
    subst Q (sym pushed) (subst P more whole)
