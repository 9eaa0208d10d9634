-- A configuration that fits a kernel of one trail has one leaf, under blocks without finalizers and instances, do, if and loops.
use Rattle.std.proofs.Common.{◌≡◌, refl, sym, ap, ◌∙◌, subst, ℕ, true, false, if◌then◌else◌, inl, inr, List, [], ◌∷◌, ◌++◌, append-nil, Some}
use Rattle.std.proofs.lemmas.Bool.{and_parts, false≢true}
use Rattle.ceu_tree.specs.declared.kernel.Kernel.{Kernel}
use Rattle.ceu_tree.specs.declared.kernel.KCode.{KCode}
use Rattle.ceu_tree.specs.declared.kernel.KNode.{KNode}
use Rattle.ceu_tree.specs.declared.kernel.KArm.{KArm, KArm', out-KArm}
use Rattle.ceu_tree.specs.declared.kernel.KBlock.{KBlock, KBlock', out-KBlock, Row_of-KNode, end_of-KNode, more_of-KNode, items-the_row-KNode, items_shown-the_row-KNode-2}
use Rattle.ceu_tree.specs.declared.kernel.KStmt.{KStmt, out-KStmt, Row_of-KArm, end_of-KArm, more_of-KArm, items-the_row-KArm, items_shown-the_row-KArm-0, Nothing, Assign, Out, AwaitIn, AwaitTime, Forever, Finalize, Do, Escape, Break, Continue, If', Loop}
use Rattle.ceu_tree.specs.declared.kernel.KStmt.TheOpen.{KStmt-F}
use Rattle.ceu_tree.specs.Residual.{Act, Residual, Instances, no_instance}
use Rattle.ceu_tree.specs.Focus.{Focus}
use Rattle.ceu_tree.specs.Leaf.{Layer, code_at}
use Rattle.ceu_tree.specs.Run.{Config, Turning, Between, Waiting, Ended, Faulted}
use Rattle.ceu_tree.specs.Legal.{finalizers_of, is_finalizer}
use Rattle.laws_meaning_basics.specs.Shape.{Part, ABlock, AStatement, AnEnd, opens_part, among_arms, Fits, to_begin, to_turn, in_list, to_finish, at_input, at_time, at_event, at_forever, at_async, in_part, in_turn, in_call, in_par, AllFit, none_lives, one_lives, FrameFits, around_statement, around_end, around_instance, around_part, around_turn, around_call, around_branch, Around, nothing_around, one_around, ConfigFits}
use Rattle.ceu_single.specs.Single.{stmt_single, block_single, arm_single, nodes_single, arms_single, has_no_code, is_single}
use Rattle.ceu_endings.specs.OneTrail.{OneLeaf, PlainFrame, PlainFocus, OneTrail}
use denote.Hole.Carrier

-- ---- one level of a program of one trail

abbrev pub ListSingle : List KNode → Type 0
ListSingle [] = Unit {0}
ListSingle (s ∷ ss) = (stmt_single s.stmt ≡ true) × ListSingle ss

abbrev pub ArmsSingle : List KArm → Type 0
ArmsSingle [] = Unit {0}
ArmsSingle (a ∷ arms) = (block_single (out-KArm a).body ≡ true) × ArmsSingle arms

abbrev pub LayerSingle : Layer → Type 0
LayerSingle KStmt-F.Nothing = Unit {0}
LayerSingle (KStmt-F.Assign l e) = Unit {0}
LayerSingle (KStmt-F.Out k e) = Unit {0}
LayerSingle (KStmt-F.AwaitIn k t) = Unit {0}
LayerSingle (KStmt-F.AwaitTime e u t) = Unit {0}
LayerSingle KStmt-F.Forever = Unit {0}
LayerSingle (KStmt-F.Escape m e) = Unit {0}
LayerSingle (KStmt-F.Break m) = Unit {0}
LayerSingle (KStmt-F.Continue m) = Unit {0}
LayerSingle (KStmt-F.Do t b) = block_single b ≡ true
LayerSingle (KStmt-F.If arms last) = ArmsSingle arms × (block_single last ≡ true)
LayerSingle (KStmt-F.Loop k b) = block_single b ≡ true
LayerSingle layer = ⊥

nodes_row : {n : _} (rows : Row_of-KNode n) → nodes_single rows ≡ true → ListSingle (items-the_row-KNode n rows)
unfolding nodes_single
nodes_row end_of-KNode h = tt
nodes_row (more_of-KNode n p s rest) h = let a = and_parts (stmt_single s) (nodes_single rest) h in (a.0, nodes_row rest a.1)

pub list_single : (b : KBlock) → block_single b ≡ true → ListSingle (out-KBlock b).list
unfolding block_single out-KBlock Carrier.out
list_single (KBlock' n ds x list) h = subst ListSingle (sym (items_shown-the_row-KNode-2 x list)) (nodes_row list (and_parts _ (nodes_single list) h).1)

arm_body : (a : KArm) → arm_single a ≡ true → block_single (out-KArm a).body ≡ true
unfolding arm_single out-KArm Carrier.out
arm_body (KArm' c b) h = h

arms_row : {n : _} (rows : Row_of-KArm n) → arms_single rows ≡ true → ArmsSingle (items-the_row-KArm n rows)
unfolding arms_single
arms_row end_of-KArm h = tt
arms_row (more_of-KArm a rest) h = let x = and_parts (arm_single a) (arms_single rest) h in (arm_body a x.0, arms_row rest x.1)

pub layer_single : (st : KStmt) → stmt_single st ≡ true → LayerSingle (out-KStmt st)
unfolding stmt_single out-KStmt Carrier.out
layer_single (Do t b) h = h
layer_single (If' x arms last) h = let a = and_parts (arms_single arms) (block_single last) h in (subst ArmsSingle (sym (items_shown-the_row-KArm-0 x arms)) (arms_row arms a.0), a.1)
layer_single (Loop k b) h = h
layer_single Nothing h = tt
layer_single (Assign l e) h = tt
layer_single (Out k e) h = tt
layer_single (AwaitIn k t) h = tt
layer_single (AwaitTime e u t) h = tt
layer_single Forever h = tt
layer_single (Escape m e) h = tt
layer_single (Break m) h = tt
layer_single (Continue m) h = tt
layer_single st h = absurd (false≢true h)

no_finalizer : (st : KStmt) → stmt_single st ≡ true → is_finalizer st ≡ false
unfolding stmt_single
no_finalizer (Finalize b) h = absurd (false≢true h)
no_finalizer st h = refl

arm_among : (arms : List KArm) (b : KBlock) → ArmsSingle arms → among_arms arms b → block_single b ≡ true
arm_among [] b h o = absurd o
arm_among (a ∷ arms) b h (inl e) = subst (λ c. block_single c ≡ true) e h.0
arm_among (a ∷ arms) b h (inr o) = arm_among arms b h.1 o

part_single : (layer : Layer) (b : KBlock) → LayerSingle layer → opens_part layer b → block_single b ≡ true
part_single (KStmt-F.Do t c) b h e = subst (λ x. block_single x ≡ true) e h
part_single (KStmt-F.If arms last) b h (inl o) = arm_among arms b h.0 o
part_single (KStmt-F.If arms last) b h (inr e) = subst (λ x. block_single x ≡ true) e h.1
part_single layer b h o = absurd o

single_at : (before : List KNode) (s : KNode) (rest : List KNode) → ListSingle (before ++ s ∷ rest) → stmt_single s.stmt ≡ true
single_at [] s rest h = h.0
single_at (x ∷ before) s rest h = single_at before s rest h.1

abbrev pub PartSingle : Part → Type 0
PartSingle (ABlock turn sc b) = block_single b ≡ true
PartSingle (AStatement sc s) = stmt_single s.stmt ≡ true
PartSingle AnEnd = Unit {0}

-- no finalizer stands registered
none_found : (found before rest : List KNode) → ListSingle (before ++ rest) → found ≡ [] → finalizers_of found before ≡ []
none_found found [] rest h e = e
none_found found (s ∷ before) rest h e =
    let a : finalizers_of (if is_finalizer s.stmt then s ∷ found else found) before ≡ finalizers_of found before =
    ap (λ b. finalizers_of (if b then s ∷ found else found) before) (no_finalizer s.stmt h.0) in
    a ∙ none_found found before rest h.1 e

module _ (K : Kernel) (no_code : K.codes ≡ []) where
  pub no_code_at : (n : ℕ) (k : KCode) → code_at n K.codes ≡ Some k → ⊥
  no_code_at n k e = let z : code_at n [] ≡ Some k = subst (λ cs. code_at n cs ≡ Some k) no_code e in absurd (cc)

  none_live : {t : ℕ} {sc : _} {all : Instances} → AllFit K t sc all → all ≡ no_instance
  none_live none_lives = refl
  none_live (one_lives {seat = seat} k p e f more) = absurd (no_code_at seat.code k e)

  layer_is : (s : KNode) (layer : Layer) → out-KStmt s.stmt ≡ layer → stmt_single s.stmt ≡ true → LayerSingle layer
  layer_is s layer e h = subst LayerSingle e (layer_single s.stmt h)

  pub one_leaf : {t : ℕ} {d : Part} {r : Residual} → Fits K t d r → PartSingle d → OneLeaf t r
  unfolding OneLeaf
  one_leaf (to_begin l) h = l
  one_leaf (to_turn l p) h = l
  one_leaf (in_list {b = b} {rest = rest} {s = s} done q z i more) h =
      let ss = subst ListSingle q (list_single b h) in (z ∙ none_found [] done (s ∷ rest) ss refl, none_live i, one_leaf more (single_at done s rest ss))
  one_leaf (to_finish l p) h = l
  one_leaf (at_input t e) h = tt
  one_leaf (at_time x u t e) h = tt
  one_leaf (at_event {s = s} t e) h = absurd (layer_is s _ e h)
  one_leaf (at_forever e) h = tt
  one_leaf (at_async {s = s} b e f) h = absurd (layer_is s _ e h)
  one_leaf (in_part {s = s} b o f) h = one_leaf f (part_single (out-KStmt s.stmt) b (layer_single s.stmt h) o)
  one_leaf (in_turn {s = s} k b q o f) h = one_leaf f (layer_is s _ q h)
  one_leaf (in_call c es f t k q o more) h = absurd (no_code_at c k o)
  one_leaf (in_par {s = s} k slot bs q o more) h = absurd (layer_is s _ q h)

  frame_plain : {t : ℕ} {fr : _} {d e : Part} → FrameFits K t fr d e → PartSingle d → PlainFrame fr × PartSingle e
  frame_plain (around_statement {b = b} {rest = rest} {s = s} done q z i) h =
      let ss = subst ListSingle q (list_single b h) in ((z ∙ none_found [] done (s ∷ rest) ss refl, none_live i), single_at done s rest ss)
  frame_plain (around_end {b = b} z i) h = ((z ∙ none_found [] (out-KBlock b).list [] (subst ListSingle (sym (append-nil _)) (list_single b h)) refl, none_live i), tt)
  frame_plain (around_instance {seat = seat} done k q z i x y p o) h = absurd (no_code_at seat.code k o)
  frame_plain (around_part {s = s} b o) h = (tt, part_single (out-KStmt s.stmt) b (layer_single s.stmt h) o)
  frame_plain (around_turn {s = s} k b q o) h = (tt, layer_is s _ q h)
  frame_plain (around_call c es f t k q o) h = absurd (no_code_at c k o)
  frame_plain (around_branch {s = s} k slot bs b cs q x y) h = absurd (layer_is s _ q h)

  pub plain_focus : {t : ℕ} {f : Focus Act} {d e : Part} → Around K t Act f d e → PartSingle d → PlainFocus f × PartSingle e
  unfolding PlainFocus
  plain_focus nothing_around h = (tt, h)
  plain_focus (one_around x more) h = let a = frame_plain x h in let b = plain_focus more a.1 in ((a.0, b.0), b.1)

pub no_codes : (K : Kernel) → is_single K ≡ true → (K.codes ≡ []) × (block_single K.body ≡ true)
no_codes K h = let a = and_parts (has_no_code K.codes) (block_single K.body) h in (go K.codes a.0, a.1)
  where
    go : (cs : List KCode) → has_no_code cs ≡ true → cs ≡ []
    go [] e = refl
    go (c ∷ cs) e = absurd (false≢true e)

pub one_trail : (K : Kernel) (c : Config) → is_single K ≡ true → ConfigFits K c → OneTrail c
one_trail K (Turning n f w) h x = let a = no_codes K h in (plain_focus K a.0 x.around a.1).0
one_trail K (Between n r w) h x = let a = no_codes K h in one_leaf K a.0 x a.1
one_trail K (Waiting r w) h x = let a = no_codes K h in one_leaf K a.0 x a.1
one_trail K (Ended v w) h x = tt
one_trail K (Faulted e w) h x = tt
