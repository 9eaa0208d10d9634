-- The lines at the ends of the blocks of an if: each goes to the if's end.
use Rattle.std.proofs.Common.{◌≡◌, sym, ap, ◌∙◌, subst, inl, inr, ◌⊎◌, ℕ, zero, suc, ◌+◌, ◌*◌, List, [], ◌∷◌, ◌++◌, Some, slice_index, arith}
use Rattle.ceu_code.specs.declared.image.Image.{Image}
use Rattle.ceu_code.specs.declared.instr.Instr.TheVariants as instr
use Rattle.ceu_base.specs.declared.kinds.Pos.{Pos}
use Rattle.ceu_asm.specs.declared.line.Labels.{Labels}
use Rattle.ceu_isa.specs.Fetching.{fetched}
use Rattle.laws_machine_code.specs.Placed.{Placed}
use Rattle.laws_machine_code.proofs.Lines.{parts_are_placed}
use Rattle.ceu_tree.specs.declared.kernel.Kernel.{Kernel}
use Rattle.ceu_tree.specs.declared.kernel.KArm.{KArm', out-KArm}
use Rattle.ceu_tree.specs.declared.kernel.KBlock.{KBlock}
use Rattle.ceu_tree.specs.declared.kernel.KStmt.{out-KStmt, Row_of-KArm, end_of-KArm, more_of-KArm, items-the_row-KArm, items_shown-the_row-KArm-0, If'}
use Rattle.laws_meaning_basics.specs.Shape.{among_arms, opens_part}
use Rattle.ceu_shape.specs.Plans.{Plan, own_label, end_label}
use Rattle.ceu_shape.specs.Words.{mark, goto, end_of}
use Rattle.ceu_shape.specs.Flow.{arms_lines, arm_ends, if_lines}
use Rattle.ceu_shape.specs.Searches.{node_of_block}
use Rattle.ceu_shape.specs.Pieces.{both, text}
use Rattle.ceu_shape.specs.Shape.{labels_of, arm_count, arms_labels, block_labels, node_draft, with_parts, parts_draft}
use Rattle.ceu_trail.specs.Built.{at_label, number, StatementBuilt}
use denote.Hole.Carrier

module _ (image : Image) (offset : ℕ → ℕ) (l : Labels) where
  -- the lines from the end of an arm's block on
  abbrev Ends : (k count z at : ℕ) → Type 0
  Ends k count z at = Placed image offset at (arm_ends l k count ++ (mark (end_of l z) ∷ goto l.next ∷ []))

  -- they go behind the statement
  leaves : (k count z at : ℕ) → Ends k count z at → fetched image at ≡ Some (instr.Jump (offset l.next))
  leaves k zero z at h = h.1.0
  leaves k (suc count) z at h = leaves (k + 2) count z at h.1

  -- the labels of the parts from one on are those of these arms, and of the last block
  abbrev pub Labelled : {n : _} → (k fresh : ℕ) → Row_of-KArm n → KBlock → Type 0
  Labelled k fresh rows last = (i : ℕ) → slice_index l.parts (2 * k + i) ≡ slice_index (arms_labels fresh rows ++ block_labels last) i

  ends_leave : {n : _} (rows : Row_of-KArm n) (last b : KBlock) (k fresh z at : ℕ) → Labelled k fresh rows last → z ≡ k + 2 * arm_count rows → Ends k (arm_count rows) z at
      → (among_arms (items-the_row-KArm n rows) b) ⊎ (last ≡ b) → fetched image (offset (end_label (node_of_block b))) ≡ Some (instr.Jump (offset l.next))
  unfolding out-KArm Carrier.out
  ends_leave end_of-KArm last b k fresh z at labelled e h (inl a) = absurd a
  ends_leave end_of-KArm last b k fresh z at labelled e h (inr same) =
      let here : end_of l z ≡ end_label (node_of_block last) = ap (λ (i : ℕ). slice_index l.parts i) (let x : 2 * z + 1 ≡ 2 * k + 1 = omega (arith, e) in x) ∙ labelled 1 in
      subst (λ (x : KBlock). fetched image (offset (end_label (node_of_block x))) ≡ Some (instr.Jump (offset l.next))) same
      (subst (λ (j : ℕ). fetched image j ≡ Some (instr.Jump (offset l.next))) (sym (sym (ap offset here) ∙ h.0)) h.1.0)
  ends_leave (more_of-KArm (KArm' c x) rest) last b k fresh z at labelled e h (inl (inl same)) =
      let here : end_of l (k + 1) ≡ end_label (node_of_block x) = ap (λ (i : ℕ). slice_index l.parts i) (let y : 2 * (k + 1) + 1 ≡ 2 * k + 3 = omega arith in y) ∙ labelled 3 in
      subst (λ (y : KBlock). fetched image (offset (end_label (node_of_block y))) ≡ Some (instr.Jump (offset l.next))) same
      (subst (λ (j : ℕ). fetched image j ≡ Some (instr.Jump (offset l.next))) (sym (sym (ap offset here) ∙ h.0)) (leaves (k + 2) (arm_count rest) z at h.1))
  ends_leave (more_of-KArm (KArm' c x) rest) last b k fresh z at labelled e h (inl (inr a)) =
      ends_leave rest last b (k + 2) (fresh + 2) z at
      (λ i. ap (λ (j : ℕ). slice_index l.parts j) (let y : 2 * (k + 2) + i ≡ 2 * k + suc (suc (suc (suc i))) = omega arith in y) ∙ labelled (suc (suc (suc (suc i)))))
      (omega (arith, e)) h.1 (inl a)
  ends_leave (more_of-KArm (KArm' c x) rest) last b k fresh z at labelled e h (inr same) =
      ends_leave rest last b (k + 2) (fresh + 2) z at
      (λ i. ap (λ (j : ℕ). slice_index l.parts j) (let y : 2 * (k + 2) + i ≡ 2 * k + suc (suc (suc (suc i))) = omega arith in y) ∙ labelled (suc (suc (suc (suc i)))))
      (omega (arith, e)) h.1 (inr same)

-- a block that an if opens is that of an arm or the last one
chosen : (y : List (Unit {0})) (arms : Row_of-KArm _) (last b : KBlock) → opens_part (out-KStmt (If' y arms last)) b → (among_arms (items-the_row-KArm _ arms) b) ⊎ (last ≡ b)
unfolding out-KStmt Carrier.out
chosen y arms last b (inl a) = inl (subst (λ l. among_arms l b) (items_shown-the_row-KArm-0 y arms) a)
chosen y arms last b (inr e) = inr e

module _ (image : Image) (P : Plan) (K : Kernel) where
  -- where the code of a block of an if leads
  pub if_leaves : (n : ℕ) (p : Pos) (y : List (Unit {0})) (arms : Row_of-KArm _) (last b : KBlock) → opens_part (out-KStmt (If' y arms last)) b → StatementBuilt image P K (record { node = n; pos = p; stmt = If' y arms last })
      → fetched image (at_label image P K (end_label (node_of_block b))) ≡ Some (instr.Jump (at_label image P K (end_label n)))
  unfolding parts_draft out-KStmt out-KArm Carrier.out
  if_leaves n p y arms last b o built =
      let none : (i : ℕ) → 2 * 0 + i ≡ i = λ i. omega arith in
      let end : 2 * arm_count arms ≡ 0 + 2 * arm_count arms = omega arith in
      let whole = (parts_are_placed image (at_label image P K) (at_label image P K (own_label n)) ((with_parts P K n p (If' y arms last) (parts_draft P K (If' y arms last)) built.fresh).lines (number image P K)) [] built.lines).0 in
      let lines = (parts_are_placed image (at_label image P K) (at_label image P K (own_label n)) (if_lines (arm_count arms) (labels_of built.fresh n (If' y arms last)) (built.fresh + 2 * arm_count arms))
      ((both (parts_draft P K (If' y arms last) built.fresh) (text (mark (end_label n) ∷ [])) (node_draft P K n p (If' y arms last) (labels_of built.fresh n (If' y arms last)) (built.fresh + 2 * arm_count arms)).next).lines (number image P K)) whole).0 in
      let behind = (parts_are_placed image (at_label image P K) (at_label image P K (own_label n)) (mark (own_label n) ∷ arms_lines (labels_of built.fresh n (If' y arms last)) 0 (built.fresh + 2 * arm_count arms) (arm_count arms)) _ lines).1 in
      ends_leave image (at_label image P K) (labels_of built.fresh n (If' y arms last)) arms last b 0 built.fresh (2 * arm_count arms) _
      (λ i. ap (λ (j : ℕ). slice_index (arms_labels built.fresh arms ++ block_labels last) j) (none i)) end behind.1 (chosen y arms last b o)
