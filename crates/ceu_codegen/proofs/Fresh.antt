-- A statement without expressions takes no labels: its lines are the same from any label on.
use Rattle.std.proofs.Common.{◌≡◌, refl, ap, ℕ, ◌<◌, List, [], ◌∷◌, ◌++◌, arith, Some, None}
use Rattle.ceu_tree.specs.declared.kernel.Kernel.{Kernel}
use Rattle.ceu_tree.specs.declared.kernel.KLoop.TheVariants as turns
use Rattle.ceu_tree.specs.declared.kernel.KStmt.{KStmt, Row_of-KArm, end_of-KArm, more_of-KArm, Nothing, Assign, Out, Emit, AwaitIn, AwaitTime, AwaitEvent, Forever, AwaitCode, Spawn, Kill, Unset, Async, Finalize, Do, Escape, Break, Continue, If', Loop, Par'}
use Rattle.ceu_shape.specs.Plans.{Plan, own_label}
use Rattle.ceu_shape.specs.Pieces.{Draft, both}
use Rattle.ceu_shape.specs.Shape.{arm_count, expression_count, block_labels, arms_labels, part_labels, next_label, labels_of, to_end, block_draft, arms_parts, parts_draft}

arms_labels_same : {n : _} (r : Row_of-KArm n) (x y : ℕ) → (0 < arm_count r → x ≡ y) → arms_labels x r ≡ arms_labels y r
arms_labels_same end_of-KArm x y h = refl
arms_labels_same (more_of-KArm a rest) x y h = ap (λ (f : ℕ). arms_labels f (more_of-KArm a rest)) (h (omega arith))

labels_same : (s : KStmt) (a b : ℕ) → (0 < expression_count s → a ≡ b) → part_labels a s ≡ part_labels b s
labels_same Nothing x y h = refl
labels_same (Assign l e) x y h = ap (λ (f : ℕ). part_labels f (Assign l e)) (h (omega arith))
labels_same (Out k None) x y h = refl
labels_same (Out k (Some e)) x y h = ap (λ (f : ℕ). part_labels f (Out k (Some e))) (h (omega arith))
labels_same (Emit k None) x y h = refl
labels_same (Emit k (Some e)) x y h = ap (λ (f : ℕ). part_labels f (Emit k (Some e))) (h (omega arith))
labels_same (AwaitIn k t) x y h = refl
labels_same (AwaitTime e u t) x y h = ap (λ (f : ℕ). part_labels f (AwaitTime e u t)) (h (omega arith))
labels_same (AwaitEvent k t) x y h = refl
labels_same Forever x y h = refl
labels_same (AwaitCode c [] frame t) x y h = refl
labels_same (AwaitCode c (e ∷ es) frame t) x y h = ap (λ (f : ℕ). part_labels f (AwaitCode c (e ∷ es) frame t)) (h (omega arith))
labels_same (Spawn c [] pool alias) x y h = refl
labels_same (Spawn c (e ∷ es) pool alias) x y h = ap (λ (f : ℕ). part_labels f (Spawn c (e ∷ es) pool alias)) (h (omega arith))
labels_same (Kill c) x y h = refl
labels_same (Unset c) x y h = refl
labels_same (Async b) x y h = refl
labels_same (Finalize b) x y h = refl
labels_same (Do t b) x y h = refl
labels_same (Escape m None) x y h = refl
labels_same (Escape m (Some e)) x y h = ap (λ (f : ℕ). part_labels f (Escape m (Some e))) (h (omega arith))
labels_same (Break m) x y h = refl
labels_same (Continue m) x y h = refl
labels_same (If' _ arms last) x y h = ap (λ (ls : List ℕ). ls ++ block_labels last) (arms_labels_same arms x y h)
labels_same (Loop turns.Free b) x y h = refl
labels_same (Loop (turns.Times slot limit) b) x y h = refl
labels_same (Loop (turns.Range i next end open_a a b open_b) body) x y h = ap (λ (f : ℕ). part_labels f (Loop (turns.Range i next end open_a a b open_b) body)) (h (omega arith))
labels_same (Par' kind slot _ bs) x y h = refl

pub labels_fresh : (n : ℕ) (s : KStmt) (a b : ℕ) → (0 < expression_count s → a ≡ b) → labels_of a n s ≡ labels_of b n s
labels_fresh n s a b h = ap (λ (ls : List ℕ). record { own = own_label n; next = next_label n s; parts = ls }) (labels_same s a b h)

module _ (P : Plan) (K : Kernel) where
  arms_parts_same : {n : _} (r : Row_of-KArm n) (x y : ℕ) → (0 < arm_count r → x ≡ y) → arms_parts P K r x ≡ arms_parts P K r y
  unfolding parts_draft
  arms_parts_same end_of-KArm x y h = refl
  arms_parts_same (more_of-KArm a rest) x y h = ap (λ (f : ℕ). arms_parts P K (more_of-KArm a rest) f) (h (omega arith))

  pub parts_fresh : (s : KStmt) (a b : ℕ) → (0 < expression_count s → a ≡ b) → parts_draft P K s a ≡ parts_draft P K s b
  unfolding parts_draft
  parts_fresh Nothing x y h = refl
  parts_fresh (Assign l e) x y h = ap (λ (f : ℕ). parts_draft P K (Assign l e) f) (h (omega arith))
  parts_fresh (Out k None) x y h = refl
  parts_fresh (Out k (Some e)) x y h = ap (λ (f : ℕ). parts_draft P K (Out k (Some e)) f) (h (omega arith))
  parts_fresh (Emit k None) x y h = refl
  parts_fresh (Emit k (Some e)) x y h = ap (λ (f : ℕ). parts_draft P K (Emit k (Some e)) f) (h (omega arith))
  parts_fresh (AwaitIn k t) x y h = refl
  parts_fresh (AwaitTime e u t) x y h = ap (λ (f : ℕ). parts_draft P K (AwaitTime e u t) f) (h (omega arith))
  parts_fresh (AwaitEvent k t) x y h = refl
  parts_fresh Forever x y h = refl
  parts_fresh (AwaitCode c [] frame t) x y h = refl
  parts_fresh (AwaitCode c (e ∷ es) frame t) x y h = ap (λ (f : ℕ). parts_draft P K (AwaitCode c (e ∷ es) frame t) f) (h (omega arith))
  parts_fresh (Spawn c [] pool alias) x y h = refl
  parts_fresh (Spawn c (e ∷ es) pool alias) x y h = ap (λ (f : ℕ). parts_draft P K (Spawn c (e ∷ es) pool alias) f) (h (omega arith))
  parts_fresh (Kill c) x y h = refl
  parts_fresh (Unset c) x y h = refl
  parts_fresh (Async b) x y h = refl
  parts_fresh (Finalize b) x y h = refl
  parts_fresh (Do t b) x y h = refl
  parts_fresh (Escape m None) x y h = refl
  parts_fresh (Escape m (Some e)) x y h = ap (λ (f : ℕ). parts_draft P K (Escape m (Some e)) f) (h (omega arith))
  parts_fresh (Break m) x y h = refl
  parts_fresh (Continue m) x y h = refl
  parts_fresh (If' _ arms last) x y h = ap (λ (d : Draft). both d (to_end P K last (block_draft P K last))) (arms_parts_same arms x y h)
  parts_fresh (Loop turns.Free b) x y h = refl
  parts_fresh (Loop (turns.Times slot limit) b) x y h = refl
  parts_fresh (Loop (turns.Range i next end open_a a b open_b) body) x y h = ap (λ (f : ℕ). parts_draft P K (Loop (turns.Range i next end open_a a b open_b) body) f) (h (omega arith))
  parts_fresh (Par' kind slot _ bs) x y h = refl
