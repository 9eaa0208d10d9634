-- Each slot of a kernel ends below 2^16 in a plan that fits it.
use Rattle.std.proofs.Common.{◌≡◌, refl, sym, ◌∙◌, subst, ℕ, suc, ◌+◌, ◌<◌, ◌≤◌, Bool, true, false, ◌==◌, List, [], ◌∷◌, ◌++◌, length, arith}
use Rattle.std.specs.Prelude.{Contains}
use Rattle.std.specs.List.{AllByRecursion}
use Rattle.std.proofs.lemmas.Bool.{eqb-true, eqb-false, and_parts}
use Rattle.ceu_tree.specs.declared.kernel.Kernel.{Kernel}
use Rattle.ceu_tree.specs.declared.kernel.KCode.{KCode}
use Rattle.ceu_tree.specs.Numbering.{decl_slots, block_slots, codes_slots, block_nodes, codes_nodes, counts_from, is_numbered}
use Rattle.ceu_tree.specs.Proper.{is_proper, Proper}
use Rattle.ceu_slots.specs.Law.{FramesKept}
use Rattle.ceu_shape.specs.Plans.{Plan}
use Rattle.laws_code_placed.specs.Fits.{PlanFits, slot_count}

-- ---- lists

pub all_join : {X : Type 0} (Q : X → Type 0) (a b : List X) → AllByRecursion Q a → AllByRecursion Q b → AllByRecursion Q (a ++ b)
all_join Q [] b f g = g
all_join Q (x ∷ a) b f g = (f.0, all_join Q a b f.1 g)

pub all_split : {X : Type 0} (Q : X → Type 0) (a b : List X) → AllByRecursion Q (a ++ b) → AllByRecursion Q a × AllByRecursion Q b
all_split Q [] b h = (tt, h)
all_split Q (x ∷ a) b h = let more = all_split Q a b h.1 in ((h.0, more.0), more.1)

contained_all : (Q : ℕ → Type 0) (xs : List ℕ) → ((x : ℕ) → Contains xs x → Q x) → AllByRecursion Q xs
contained_all Q [] h = tt
contained_all Q (x ∷ xs) h = (h x (0, omega arith, refl), contained_all Q xs (λ (y : ℕ) (c : Contains xs y). h y (suc c.0, omega (arith, c.1), c.2)))

-- numbers that are counted from one on are all from there on
pub counted_hold : (Q : ℕ → Type 0) (k : ℕ) (ns : List ℕ) → counts_from k ns ≡ true → AllByRecursion Q ns → (x : ℕ) → k ≤ x → x < k + length ns → Q x
counted_hold Q k [] c h x low high = absurd (omega arith)
counted_hold Q k (n ∷ ns) c h x low high =
    let parts = and_parts (n == k) (counts_from (k + 1) ns) c in
    go (x == k) refl (eqb-true n k parts.0) (λ (more : k + 1 ≤ x). counted_hold Q (k + 1) ns parts.1 h.1 x more (omega arith))
  where
    go : (b : Bool) → (x == k) ≡ b → n ≡ k → (k + 1 ≤ x → Q x) → Q x
    go true e first rest = let same : n ≡ x = first ∙ sym (eqb-true x k e) in subst Q same h.0
    go false e first rest = let differ = eqb-false x k e in rest (omega (arith, differ, low))

-- and below the first behind them
pub counted_below : (k n : ℕ) (ns : List ℕ) → counts_from k ns ≡ true → k + length ns ≤ n → AllByRecursion (λ (x : ℕ). x < n) ns
counted_below k n [] c h = tt
counted_below k n (m ∷ ns) c h =
    let parts = and_parts (m == k) (counts_from (k + 1) ns) c in
    (omega (arith, eqb-true m k parts.0), counted_below (k + 1) n ns parts.1 (omega arith))

-- ---- slots

pub numbered_both : (K : Kernel) → Proper K → (counts_from 0 (block_nodes K.body ++ codes_nodes K.codes) ≡ true) × (counts_from 0 (block_slots K.body ++ codes_slots K.codes) ≡ true)
unfolding is_proper is_numbered
numbered_both K ok =
    let all = and_parts _ _ (and_parts _ _ (and_parts _ _ (and_parts _ _ (and_parts _ _ ok).0).0).0).0 in
    (all.0, all.1)

module _ (P : Plan) (K : Kernel) (fits : PlanFits P K) where
  abbrev pub Small : ℕ → Type 0
  Small slot = P.offset slot + fits.size slot ≤ 65535

  codes_small : (k : ℕ) (cs : List KCode) → FramesKept P.offset fits.size P.frame k cs → AllByRecursion Small (codes_slots cs)
  codes_small k [] h = tt
  codes_small k (c ∷ cs) h =
      let frame = fits.small_frames k in
      let own = contained_all Small (decl_slots c.params ++ block_slots c.body) (λ (s : ℕ) (x : Contains (decl_slots c.params ++ block_slots c.body) s). let lies = h.0.within s x in omega (arith, lies.1, frame)) in
      all_join Small (decl_slots c.params ++ block_slots c.body) (codes_slots cs) own (codes_small (k + 1) cs h.1)

  pub slots_small : Proper K → (slot : ℕ) → slot < slot_count K → Small slot
  slots_small ok slot low =
      let total = fits.few_bytes in
      let body = contained_all Small (block_slots K.body) (λ (s : ℕ) (x : Contains (block_slots K.body) s). let lies = fits.kept.within s x in omega (arith, lies, total)) in
      counted_hold Small 0 (block_slots K.body ++ codes_slots K.codes) (numbered_both K ok).1 (all_join Small (block_slots K.body) (codes_slots K.codes) body (codes_small 0 K.codes fits.kept.frames)) slot (omega arith) (omega arith)
