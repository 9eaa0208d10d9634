-- What an emission reaches: an event of the program all open bodies, an event of a code the emitter's own body, which is one of that code.
use Rattle.std.proofs.Common.{◌≡◌, refl, sym, ap, ◌∙◌, subst, ◌≤◌, ℕ, zero, suc, ◌+◌, ◌*◌, pos, Bool, true, false, if◌then◌else◌, ◌==◌, ◌||◌, List, [], ◌∷◌, Option, Some, None, arith, eqb-true, eq-eqb}
use Rattle.std.proofs.lemmas.Bool.{false≢true}
use Rattle.ceu_tree.specs.declared.kernel.Kernel.{Kernel}
use Rattle.ceu_tree.specs.declared.kernel.KCode.{KCode}
use Rattle.ceu_tree.specs.declared.kernel.KNode.{KNode}
use Rattle.ceu_tree.specs.declared.kernel.KBlock.{KBlock}
use Rattle.ceu_tree.specs.declared.kernel.KStmt.{out-KStmt}
use Rattle.ceu_tree.specs.declared.kernel.KStmt.TheOpen.{KStmt-F}
use Rattle.ceu_tree.specs.Residual.{Act, Start, Finish, Residual, Over, Run}
use Rattle.ceu_tree.specs.Focus.{Frame, Focus, In, plug, leaf, begins_body, has_body}
use Rattle.ceu_tree.specs.Costs.{Cost, nothing, plus, times, woken_block, woken_codes, instances_from}
use Rattle.ceu_tree.specs.Leaf.{Layer, code_at}
use Rattle.ceu_tree.specs.Needs.{entry}
use Rattle.ceu_tree.specs.Step.{event_code}
use Rattle.ceu_tree.specs.Proper.{Scope, is_proper}
use Rattle.laws_meaning_basics.specs.Shape.{Part, ABlock, AStatement, AnEnd, program_part, code_part, part_scope, pauses, Fits, to_finish, FrameFits, around_statement, around_end, around_instance, around_part, around_turn, around_call, around_branch, Around, nothing_around, one_around, ActFits, starts, TurnFits}
use Rattle.laws_meaning_basics.proofs.Static.{program_static}
use Rattle.laws_meaning_basics.proofs.Fits.{plug_fits}
use Rattle.laws_meaning_basics.proofs.StepFits.{around_sound}
use Rattle.laws_meaning_instances.specs.Instances.{pools_stand}
use Rattle.laws_meaning_instances.proofs.Trees.{focus_stands, plugged, unplugged}
use Rattle.laws_bounds_steps.specs.Pays.{Within}
use Rattle.laws_bounds_steps.specs.Heads.{heads, heads_in_body, heads_reached}
use Rattle.laws_bounds_steps.proofs.Cost.{same, is, chain, both, first, second, least}
use Rattle.laws_bounds_reach.specs.Copies.{copies}
use Rattle.laws_bounds_reach.proofs.Sums.{over, over_none, more_times}
use Rattle.laws_bounds_reach.proofs.Used.{turn_code}
use Rattle.laws_bounds_reach.proofs.Bounded.{first_at, next_at, program_copies, code_copies}
use Rattle.laws_bounds_reach.proofs.Heard.{emits_in, code_quiet}
use Rattle.laws_bounds_reach.proofs.HeadsWithin.{turns_of, opens_of, fits_heads}

-- ---- the open body that a part stands in

abbrev pub stands_in : Option ℕ → Part → Type 0
stands_in code (ABlock turn sc b) = sc.code ≡ code
stands_in code (AStatement sc s) = sc.code ≡ code
stands_in code AnEnd = ⊥

part_code : (K : Kernel) (sc : Scope) (n : ℕ) (layer : Layer) → (part_scope K sc n layer).code ≡ sc.code
part_code K sc n (KStmt-F.Do t b) = refl
part_code K sc n layer = refl

neither : (a b : Bool) → (a || b) ≡ false → (a ≡ false) × (b ≡ false)
neither true b h = absurd (false≢true (sym h))
neither false b h = (refl, h)

first_if : (a b : Bool) → (a || b) ≡ true → b ≡ false → a ≡ true
first_if true b h k = refl
first_if false b h k = absurd (false≢true (sym k ∙ h))

module _ (K : Kernel) (code : Option ℕ) where
  frame_in : {t : ℕ} {fr : Frame} {d e : Part} → FrameFits K t fr d e → begins_body fr ≡ false → stands_in code e → stands_in code d
  frame_in (around_statement done e f all) h q = q
  frame_in (around_end f all) h q = absurd q
  frame_in (around_instance done k e f r before after p c) h q = absurd (false≢true (sym h))
  frame_in (around_part {sc = sc} {s = s} b o) h q = sym (part_code K sc s.node (out-KStmt s.stmt)) ∙ q
  frame_in (around_turn {sc = sc} k b e c) h q = sym (turn_code K k sc) ∙ q
  frame_in (around_call c es f t k e g) h q = absurd (false≢true (sym h))
  frame_in (around_branch k slot bs b cs e x y) h q = q

  pub around_in : {t : ℕ} {f : Focus Act} {d e : Part} → Around K t Act f d e → has_body f ≡ false → stands_in code e → stands_in code d
  around_in nothing_around h q = q
  around_in {f = In fr f} (one_around x more) h q = let z = neither (begins_body fr) (has_body f) h in frame_in x z.0 (around_in more z.1 q)

-- ---- the table of what is woken

module _ (P : List Bool) (E N : List Cost) (e : ℕ) (K : Kernel) where
  abbrev listed : List KCode → ℕ → (ℕ → ℕ) → Cost
  listed cs i f = record { turns = over (turns_of P E N e K) cs i f; opens = over (opens_of P E N e K) cs i f }

  none_times : (f : ℕ → ℕ) (i : ℕ) → ((j : ℕ) → f (i + j) ≤ 0) → (n x : ℕ) → f (i + n) * x ≡ 0
  none_times f i h n x = let a = more_times (f (i + n)) 0 x (h n) in omega (arith, a)

  by_table : (cs : List KCode) (i : ℕ) (f : ℕ → ℕ) (ns : List ℕ) → ((j : ℕ) → f (i + j) ≤ entry j ns) → Within (listed cs i f) (woken_codes P E N e None i cs ns)
  by_table [] i f ns h = least _
  by_table (c ∷ cs) i f [] h =
      let a = over_none (turns_of P E N e K) (c ∷ cs) i f (λ n x q. none_times f i h n (turns_of P E N e K x)) in
      let b = over_none (opens_of P E N e K) (c ∷ cs) i f (λ n x q. none_times f i h n (opens_of P E N e K x)) in
      record { turns = omega (arith, a); opens = omega (arith, b) }
  by_table (c ∷ cs) i f (n ∷ ns) h =
      let a = by_table cs (i + 1) f ns (λ j. let x = h (suc j) in let y = next_at f i j in omega (arith, x, y)) in
      let z = h 0 in
      let y = first_at f i in
      let few : f i ≤ n = omega (arith, z, y) in
      let t = more_times (f i) n (turns_of P E N e K c) few in
      let o = more_times (f i) n (opens_of P E N e K c) few in
      let a0 = a.turns in let a1 = a.opens in record { turns = omega (arith, a0, t); opens = omega (arith, a1, o) }

  own_listed : (main : KBlock) (c : ℕ) (x : KCode) (cs : List KCode) (i n : ℕ) → code_at n cs ≡ Some x → c ≡ i + n → Within (woken_block P E N e x.body) (woken_codes P E N e (Some c) i cs (instances_from main i cs))
  own_listed main c x [] i n q l = absurd (cc)
  own_listed main c x (y ∷ cs) i zero q l =
      let same_code : y ≡ x = ap (λ o. elim o [ None ↦ y | Some z ↦ z ]) q in
      let owner : (c == i) ≡ true = eq-eqb c i (omega (arith, l)) in
      chain _ _ _ (is _ _ (ap (λ (z : KCode). woken_block P E N e z.body) (sym same_code)))
      (first _ _ _ (chain _ _ _ (record { turns = omega arith; opens = omega arith }) (is _ _ (ap (λ b. times (if b then 1 else entry 0 (instances_from main i (y ∷ cs))) (woken_block P E N e y.body)) (sym owner)))))
  own_listed main c x (y ∷ cs) i (suc n) q l = second _ _ _ (own_listed main c x cs (i + 1) n q (omega (arith, l)))

  -- ---- the emitter's own body, of code c

  module _ (proper : is_proper K ≡ true) (c : ℕ) (own : event_code e K.events ≡ Some c) where
    pub record IsBody (d : Part) : Type 0 where
      pub code : KCode
      pub there : code_at c K.codes ≡ Some code
      pub is : d ≡ code_part K c code

    abbrev reached : Cost
    reached = woken_codes P E N e (Some c) 0 K.codes (instances_from K.body 0 K.codes)

    -- in it code c isn't open again, and other code has no loop that the event paces
    body_heads : (t : ℕ) (d : Part) (r : Residual) → Fits K t d r → pools_stand r → IsBody d → Within (heads P E N e r) reached
    body_heads t d r fit h b =
        let whole : Fits K t (code_part K c b.code) r = subst (λ d. Fits K t d r) b.is fit in
        let a = fits_heads P E N e K whole in
        let x = over_none (turns_of P E N e K) K.codes 0 (λ j. copies j r) (λ n y q. nothing_else whole n y q (turns_of P E N e K y) (λ z. ap (λ (m : Cost). m.turns) z)) in
        let y = over_none (opens_of P E N e K) K.codes 0 (λ j. copies j r) (λ n y q. nothing_else whole n y q (opens_of P E N e K y) (λ z. ap (λ (m : Cost). m.opens) z)) in
        let a0 = a.turns in let a1 = a.opens in
        chain _ _ _ (record { turns = omega (arith, a0, x); opens = omega (arith, a1, y) }) (own_listed K.body c b.code K.codes 0 c b.there (omega arith))
      where
        nothing_else : Fits K t (code_part K c b.code) r → (n : ℕ) (y : KCode) → code_at n K.codes ≡ Some y → (m : ℕ) → (woken_block P E N e y.body ≡ nothing → m ≡ 0) → copies (0 + n) r * m ≡ 0
        nothing_else whole n y q m z = go (n == c) refl
          where
            at : copies (0 + n) r ≡ copies n r
            at = ap (λ j. copies j r) (let e : 0 + n ≡ n = omega arith in e)

            go : (t : Bool) → (n == c) ≡ t → copies (0 + n) r * m ≡ 0
            go true k =
                let same_code = eqb-true n c k in
                ap (λ j. j * m) (at ∙ code_copies K t _ false r c n b.code proper b.there whole h (omega (arith, same_code))) ∙ omega arith
            go false k = ap (λ j. copies (0 + n) r * j) (z (code_quiet K P E N e c n y proper own q (λ u. false≢true (sym k ∙ eq-eqb n c u)))) ∙ omega arith

    inner_body : {t : ℕ} {fr : Frame} {d g : Part} → FrameFits K t fr d g → begins_body fr ≡ true → stands_in (Some c) g → IsBody g
    inner_body (around_statement done e f all) h q = absurd (false≢true h)
    inner_body (around_end f all) h q = absurd (false≢true h)
    inner_body (around_instance {seat = seat} done k e f r before after p there) h q =
        let m : seat.code ≡ c = cc in record { code = k; there = subst (λ j. code_at j K.codes ≡ Some k) m there; is = ap (λ j. code_part K j k) m }
    inner_body (around_part b o) h q = absurd (false≢true h)
    inner_body (around_turn k b e c) h q = absurd (false≢true h)
    inner_body (around_call a es f t k e there) h q = let m : a ≡ c = cc in record { code = k; there = subst (λ j. code_at j K.codes ≡ Some k) m there; is = ap (λ j. code_part K j k) m }
    inner_body (around_branch k slot bs b cs e x y) h q = absurd (false≢true h)

    own_body : {t : ℕ} {f : Focus Act} {d g : Part} (r : Residual) → Around K t Act f d g → stands_in (Some c) g → Fits K t g r → focus_stands f → pools_stand r → (has_body f ≡ false → IsBody d) → Within (heads_in_body P E N e f r) reached
    unfolding focus_stands
    own_body {t = t} {d = d} r nothing_around q fit h k home = body_heads t d r fit k (home refl)
    own_body {t = t} {f = In fr f} {d = d} r (one_around x more) q fit h k home =
        go (begins_body fr || has_body f) refl (λ u. own_body r more q fit h.1 k (λ v. inner_body x (first_if (begins_body fr) (has_body f) u v) (around_in K (Some c) more v q)))
      where
        go : (b : Bool) → (begins_body fr || has_body f) ≡ b → ((begins_body fr || has_body f) ≡ true → Within (heads_in_body P E N e f r) reached) → Within (if b then heads_in_body P E N e f r else heads P E N e (plug (In fr f) r)) reached
        go true u inside = inside u
        go false u inside = body_heads t d (plug (In fr f) r) (plug_fits K (one_around x more) fit) (plugged (In fr f) r h k) (home u)

at_start : {d : Part} {s : KNode} → ActFits d (Start s) → (sc : Scope) × (d ≡ AStatement sc s)
at_start (starts {sc = sc}) = (sc, refl)

pub reaches : (P : List Bool) (E N : List Cost) (K : Kernel) (n : ℕ) (f : Focus Act) (s : KNode) (e : ℕ) (x : _) → is_proper K ≡ true → TurnFits K (suc n) (program_part K) f → pools_stand (plug f Over) → leaf f ≡ Start s → out-KStmt s.stmt ≡ KStmt-F.Emit e x
    → Within (heads_reached P E N e (event_code e K.events) f (Run n (Finish s (pos 0)))) (plus (woken_block P E N e K.body) (woken_codes P E N e (event_code e K.events) 0 K.codes (instances_from K.body 0 K.codes)))
unfolding pools_stand
reaches P E N K n f s e x proper t h l q = go (event_code e K.events) refl
  where
    place : (sc : Scope) × (t.part ≡ AStatement sc s)
    place = at_start (subst (ActFits t.part) l t.acts)

    around : Around K (suc n) Act f (program_part K) (AStatement place.0 s)
    around = subst (Around K (suc n) Act f (program_part K)) place.1 t.around

    after : Residual
    after = Run n (Finish s (pos 0))

    fit : Fits K (suc n) (AStatement place.0 s) after
    fit = to_finish (omega arith) (ap pauses q)

    stands : focus_stands f
    stands = (unplugged f Over h).0

    quiet : pools_stand after
    quiet = tt

    go : (o : Option ℕ) → event_code e K.events ≡ o → Within (heads_reached P E N e o f after) (plus (woken_block P E N e K.body) (woken_codes P E N e o 0 K.codes (instances_from K.body 0 K.codes)))
    go None u =
        let whole : Fits K (suc n) (program_part K) (plug f after) = plug_fits K around fit in
        let each = λ (k : ℕ). program_copies K (suc n) (plug f after) k proper whole (plugged f after stands quiet) in
        chain _ _ _ (fits_heads P E N e K whole) (both _ _ _ _ (same _) (by_table P E N e K K.codes 0 (λ j. copies j (plug f after)) (instances_from K.body 0 K.codes)
        (λ j. let a = each j in let b = ap (λ k. copies k (plug f after)) (let z : 0 + j ≡ j = omega arith in z) in omega (arith, a, b))))
    go (Some c) u =
        let at = emits_in K e c place.0 s x u q (around_sound K proper around (program_static K proper)) in
        second _ _ _ (own_body P E N e K proper c u after around at fit stands quiet (λ v. absurd (let z = around_in K (Some c) around v at in let w : ⊥ = cc in w)))
