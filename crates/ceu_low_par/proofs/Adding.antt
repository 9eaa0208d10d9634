-- Lines that are added one after the other, and by the branches of a par.
use Rattle.std.proofs.Common.{◌≡◌, refl, sym, ap, subst, ◌∙◌, ℕ, zero, suc, ◌+◌, ◌<◌, ◌≤◌, List, [], ◌∷◌, ◌++◌, length, drop, get_or, arith, add-one, append_assoc, Result, Ok, Err, OnOk}
use Rattle.std.proofs.lemmas.List.{append-nil}
use Rattle.std.proofs.Math.Seq.{drop-cons}
use Rattle.ceu_base.specs.declared.kinds.Pos.{Pos}
use Rattle.ceu_tree.specs.declared.kernel.Kernel.{Kernel}
use Rattle.ceu_tree.specs.declared.kernel.ParKind.{ParKind}
use Rattle.ceu_tree.specs.declared.kernel.ParKind.TheVariants as par
use Rattle.ceu_code.specs.declared.instr.Instr.TheVariants as instr
use Rattle.ceu_tree.specs.declared.kernel.KBlock.{KBlock, KBlock', out-KBlock}
use Rattle.ceu_tree.specs.declared.kernel.KStmt as k
use Rattle.ceu_tree.specs.declared.kernel.KStmt.{Row_of-KBlock, end_of-KBlock, more_of-KBlock, items-the_row-KBlock, items_hidden-the_row-KBlock-1}
use Rattle.ceu_tree.specs.declared.kernel.KStmt.TheBlock.{hidden-the_row-KBlock-1}
use denote.Hole.Carrier
use Rattle.ceu_asm.specs.declared.line.Line.{Line}
use Rattle.ceu_asm.specs.declared.line.Labels.{Labels}
use Rattle.ceu_asm.specs.Pages.{Page}
use Rattle.ceu_shape.specs.Plans.{Plan}
use Rattle.ceu_shape.specs.Pieces.{Added, text}
use Rattle.ceu_shape.specs.Words.{plain}
use Rattle.ceu_shape.proofs.Adding.{added_text, added_stopping, added_taking}
use Rattle.ceu_shape.specs.Par.{par_draft, rest, move_to_first, never_lines, or_lines, and_lines}
use Rattle.ceu_shape.specs.Searches.{node_of_block}
use Rattle.ceu_shape.specs.Shape.{branch_nodes, node_draft}
use Rattle.ceu_low_par.specs.Conditions.{AreNodes, ParFits, StmtFits, nodes_of, part_count}

pub on_ok : {T E A B : Type 0} → (r : Result T E) → (A → B) → OnOk r A → OnOk r B
on_ok (Ok v) f h = f h
on_ok (Err e) f h = h

abbrev pub with_lines : Page → List Line → Page
with_lines page ls = record page { lines = ls }

pub then_lines : (old mid new : Page) (a b : List Line) → mid ≡ with_lines old (old.lines ++ a) → new ≡ with_lines mid (mid.lines ++ b) → new ≡ with_lines old (old.lines ++ (a ++ b))
then_lines old mid new a b e f =
    f ∙ ap (λ (p : Page). with_lines p (p.lines ++ b)) e ∙ ap (with_lines old) (append_assoc old.lines a b)

-- ---- the nodes of branches

pub node_is : (b : KBlock) → (out-KBlock b).node ≡ node_of_block b
unfolding out-KBlock Carrier.out
node_is (KBlock' n ds x list) = refl

pub nodes_row : {n : _} (r : Row_of-KBlock n) → branch_nodes r ≡ nodes_of (items-the_row-KBlock n r)
nodes_row end_of-KBlock = refl
nodes_row (more_of-KBlock b rest) = ap (λ (ns : List ℕ). node_of_block b ∷ ns) (nodes_row rest)

pub nodes_hidden : (bs : List KBlock) → branch_nodes (hidden-the_row-KBlock-1 bs) ≡ nodes_of bs
nodes_hidden bs = nodes_row (hidden-the_row-KBlock-1 bs) ∙ ap nodes_of (items_hidden-the_row-KBlock-1 bs)

pub nodes_length : (bs : List KBlock) → length (nodes_of bs) ≡ length bs
nodes_length [] = refl
nodes_length (b ∷ bs) = ap suc (nodes_length bs)

pub node_below : (nodes k : ℕ) (bs : List KBlock) (d : KBlock) → AreNodes nodes (nodes_of bs) → k < length bs → (out-KBlock (get_or bs k d)).node < nodes
node_below nodes k [] d h below = absurd (omega arith)
node_below nodes zero (b ∷ bs) d h below = let same : (out-KBlock b).node ≡ node_of_block b = node_is b in omega (arith, same, h.0)
node_below nodes (suc k) (b ∷ bs) d h below = node_below nodes k bs d h.1 (omega arith)

pub rest_is : (P : Plan) (labels : Labels) (bs : List KBlock) → rest P labels (nodes_of bs) ≡ nodes_of (drop 1 bs)
rest_is P labels [] = refl
rest_is P labels (b ∷ bs) = refl

pub first_moved : (P : Plan) (labels : Labels) (bs : List KBlock) (d : KBlock) → 0 < length bs →
    move_to_first P labels (nodes_of bs) ≡ plain (instr.Move (P.first (out-KBlock (get_or bs 0 d)).node)) ∷ []
first_moved P labels [] d h = absurd (omega arith)
first_moved P labels (b ∷ bs) d h = ap (λ (n : ℕ). plain (instr.Move (P.first n)) ∷ []) (sym (node_is b))

pub par_drafted : (P : Plan) (K : Kernel) (n : ℕ) (p : Pos) (kind : ParKind) (slot : ℕ) (bs : List KBlock) (labels : Labels) →
    node_draft P K n p (k.Par kind slot bs) labels ≡ par_draft P labels n kind slot (nodes_of bs)
par_drafted P K n p kind slot bs labels = ap (par_draft P labels n kind slot) (nodes_hidden bs)

-- its conditions, by the branches that the code sees
pub par_fits : (slots nodes : ℕ) (kind : ParKind) (slot : ℕ) (bs : List KBlock) → StmtFits slots nodes (k.Par kind slot bs) → ParFits slots nodes kind slot (nodes_of bs)
par_fits slots nodes kind slot bs h = subst (λ (ns : List ℕ). ParFits slots nodes kind slot ns) (nodes_hidden bs) h

pub par_parts : (kind : ParKind) (slot : ℕ) (bs : List KBlock) → part_count (k.Par kind slot bs) ≡ length bs
par_parts kind slot bs = ap (length {A = ℕ}) (nodes_hidden bs) ∙ nodes_length bs

-- ---- the kinds

module _ (P : Plan) (labels : Labels) (old new : Page) (n : ℕ) (kind : ParKind) (slot : ℕ) (ns : List ℕ) where
  pub never_added : kind ≡ par.Never → new ≡ with_lines old (old.lines ++ never_lines P labels ns) → Added old new (par_draft P labels n kind slot ns)
  never_added is e = subst (λ (x : ParKind). Added old new (par_draft P labels n x slot ns)) (sym is) (added_stopping old new _ (never_lines P labels ns) e)

  pub or_added : kind ≡ par.Or → new ≡ with_lines old (old.lines ++ or_lines P labels n ns) → Added old new (par_draft P labels n kind slot ns)
  or_added is e = subst (λ (x : ParKind). Added old new (par_draft P labels n x slot ns)) (sym is) (added_text old new (or_lines P labels n ns) e)

  pub and_added : (mid : Page) (join : ℕ) → kind ≡ par.And → join ≡ old.labels → mid ≡ record old { labels = old.labels + 2 } → new ≡ with_lines mid (mid.lines ++ and_lines P labels slot ns join) →
      Added old new (par_draft P labels n kind slot ns)
  and_added mid join is first given e =
      subst (λ (x : ParKind). Added old new (par_draft P labels n x slot ns)) (sym is)
      (added_taking old mid new 2 (λ join. text (and_lines P labels slot ns join)) given
      (subst (λ (j : ℕ). Added mid new (text (and_lines P labels slot ns j))) first (added_text mid new (and_lines P labels slot ns join) e)))

-- ---- what each branch adds, in their order

one_dropped : (bs : List KBlock) (k : ℕ) → k < length bs → (b : KBlock) × (drop k bs ≡ b ∷ drop (suc k) bs)
one_dropped [] k h = absurd (omega arith)
one_dropped (b ∷ bs) zero h = (b, refl)
one_dropped (b ∷ bs) (suc k) h = one_dropped bs k (omega arith)

-- lines are added, and others are left
lines_left : (all sheet next : Page) (own left more : List Line) → left ≡ own ++ more → all ≡ with_lines sheet (sheet.lines ++ left) → next ≡ with_lines sheet (sheet.lines ++ own) →
    all ≡ with_lines next (next.lines ++ more)
lines_left all sheet next own left more split h e =
    h ∙ ap (λ (ls : List Line). with_lines sheet (sheet.lines ++ ls)) split
    ∙ ap (with_lines sheet) (sym (append_assoc sheet.lines own more))
    ∙ ap (λ (p : Page). with_lines p (p.lines ++ more)) (sym e)

-- a branch adds lines with its node, and those of the branches behind it are left
pub branch_step : (g : ℕ → List ℕ → List Line) (all sheet next : Page) (k : ℕ) (own : List Line) (bs : List KBlock) (d : KBlock) → k < length bs →
    ((ns : List ℕ) → g k ((out-KBlock (get_or bs k d)).node ∷ ns) ≡ own ++ g (k + 1) ns) → all ≡ with_lines sheet (sheet.lines ++ g k (nodes_of (drop k bs))) →
    next ≡ with_lines sheet (sheet.lines ++ own) → all ≡ with_lines next (next.lines ++ g (k + 1) (nodes_of (drop (k + 1) bs)))
branch_step g all sheet next k own bs d below one h e =
    let more = nodes_of (drop (k + 1) bs) in
    let b = get_or bs k d in
    let dropped : drop k bs ≡ b ∷ drop (k + 1) bs = drop-cons bs k d below ∙ ap (λ (j : ℕ). b ∷ drop j bs) (sym (add-one k)) in
    let split : g k (nodes_of (drop k bs)) ≡ own ++ g (k + 1) more =
    ap (λ (xs : List KBlock). g k (nodes_of xs)) dropped ∙ ap (λ (n : ℕ). g k (n ∷ more)) (sym (node_is b)) ∙ one more in
    lines_left all sheet next own (g k (nodes_of (drop k bs))) (g (k + 1) more) split h e

-- the same for lines without its node
pub each_step : (g : ℕ → List ℕ → List Line) (all sheet next : Page) (k : ℕ) (own : List Line) (bs : List KBlock) → k < length bs →
    ((n : ℕ) (ns : List ℕ) → g k (n ∷ ns) ≡ own ++ g (k + 1) ns) → all ≡ with_lines sheet (sheet.lines ++ g k (nodes_of (drop k bs))) →
    next ≡ with_lines sheet (sheet.lines ++ own) → all ≡ with_lines next (next.lines ++ g (k + 1) (nodes_of (drop (k + 1) bs)))
each_step g all sheet next k own bs below one h e =
    let more = nodes_of (drop (k + 1) bs) in
    let there = one_dropped bs k below in
    let dropped : drop k bs ≡ there.0 ∷ drop (k + 1) bs = there.1 ∙ ap (λ (j : ℕ). there.0 ∷ drop j bs) (sym (add-one k)) in
    let split : g k (nodes_of (drop k bs)) ≡ own ++ g (k + 1) more =
    ap (λ (xs : List KBlock). g k (nodes_of xs)) dropped ∙ one (node_of_block there.0) more in
    lines_left all sheet next own (g k (nodes_of (drop k bs))) (g (k + 1) more) split h e

dropped_all : (bs : List KBlock) (k : ℕ) → length bs ≤ k → drop k bs ≡ []
dropped_all [] zero h = refl
dropped_all [] (suc k) h = refl
dropped_all (b ∷ bs) zero h = absurd (omega arith)
dropped_all (b ∷ bs) (suc k) h = dropped_all bs k (omega arith)

-- no branch is left
pub branches_over : (g : List ℕ → List Line) (all sheet : Page) (k : ℕ) (bs : List KBlock) → length bs ≤ k → g [] ≡ [] → all ≡ with_lines sheet (sheet.lines ++ g (nodes_of (drop k bs))) → sheet ≡ all
branches_over g all sheet k bs over none h =
    sym (h ∙ ap (λ (xs : List KBlock). with_lines sheet (sheet.lines ++ g (nodes_of xs))) (dropped_all bs k over)
    ∙ ap (λ (ls : List Line). with_lines sheet (sheet.lines ++ ls)) none ∙ ap (with_lines sheet) (append-nil sheet.lines))
