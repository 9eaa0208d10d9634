-- The parts around a leaf keep values, counters and what exits carry within what is around.
use Rattle.std.proofs.Common.{◌≡◌, refl, sym, ap, ◌∙◌, subst, ℕ, ℤ, pos, Bool, true, false, ◌==◌, List, [], ◌∷◌, ◌++◌, Option, Some, None, arith, eqb-true, eq-eqb}
use Rattle.std.proofs.lemmas.Bool.{false≢true}
use Rattle.ceu_base.specs.declared.kinds.Ty.{Ty}
use Rattle.ceu_base.specs.declared.kinds.Ty.TheVariants as ty
use Rattle.ceu_base.specs.Values.{IsValue}
use Rattle.ceu_tree.specs.declared.kernel.Kernel.{Kernel}
use Rattle.ceu_tree.specs.declared.kernel.Loc.{Loc}
use Rattle.ceu_tree.specs.declared.kernel.KNode.{KNode}
use Rattle.ceu_tree.specs.declared.kernel.KBlock.{KBlock, out-KBlock}
use Rattle.ceu_tree.specs.Residual.{Program, Act, Over, Block, Instances, no_instance}
use Rattle.ceu_tree.specs.Focus.{OfBlock, Focus, Here, In, plug, leaf}
use Rattle.ceu_tree.specs.World.{World}
use Rattle.ceu_tree.specs.Abort.{aborted}
use Rattle.ceu_tree.specs.Leaf.{Exit, Escape, Break, Continue, next_of, rest_of}
use Rattle.ceu_tree.specs.Around.{Outcome, Goes, Rests, Raises, Fails, Past, Registers, AtBlockEnd, AtLoopHead, Ends, Leaves, value_with, body_left}
use Rattle.ceu_tree.specs.Proper.{Scope, Aim, DoAim, BodyAim, LoopAim, do_aim}
use Rattle.laws_meaning_basics.specs.Shape.{Part, ABlock, AStatement, AnEnd, aimed}
use Rattle.ceu_endings.specs.OneTrail.{PlainFocus}
use Rattle.ceu_trail.specs.Within.{Variable, all_declared, in_focus, in_rest, ValuesWithin, focus_within, act_brings, rest_within}
use Rattle.ceu_within.proofs.Widths.{with_nothing, ungroup, closed_within, aborted_within}
use Rattle.ceu_within.proofs.Exits.{AimsLow, leads_below}

pub zero_value : (t : Ty) → IsValue t (pos 0)
zero_value ty.None = refl
zero_value ty.Bool = refl
zero_value ty.U8 = refl
zero_value ty.S8 = refl
zero_value ty.U16 = refl
zero_value ty.S16 = refl
zero_value ty.U32 = refl
zero_value ty.S32 = refl
zero_value ty.U64 = refl
zero_value ty.S64 = refl

-- ---- what an exit carries: a value of the type that its aim takes

abbrev pub is_taken : Option Ty → ℤ → Type 0
is_taken None v = Unit {0}
is_taken (Some t) v = IsValue t v

abbrev pub choose_type : Bool → Type 0 → Type 0 → Type 0
choose_type true a b = a
choose_type false a b = b

abbrev pub carried : List Aim → ℕ → ℤ → Type 0
carried [] node v = Unit {0}
carried (DoAim m t ∷ aims) node v = choose_type (m == node) (is_taken t v) (carried aims node v)
carried (BodyAim m t ∷ aims) node v = choose_type (m == node) (Unit {0}) (carried aims node v)
carried (LoopAim m ∷ aims) node v = carried aims node v

abbrev pub exit_carries : List Aim → ℕ → Exit → Type 0
exit_carries aims node (Escape v) = carried aims node v
exit_carries aims node x = Unit {0}

abbrev pub aims_of : Part → List Aim
aims_of (ABlock turn sc b) = sc.aims
aims_of (AStatement sc s) = sc.aims
aims_of AnEnd = []

-- a block that ends by itself, or that isn't the program's body, gives 0
abbrev pub ends_with : (whole : Bool) → ℤ → Type 0
ends_with true v = Unit {0}
ends_with false v = v ≡ pos 0

-- ---- what a part comes to; `vs` are the variables around it

abbrev pub Inside : Kernel → (whole : Bool) → Part → List Variable → Focus Act → Outcome → World → Type 0
Inside K whole d vs f (Goes g) w = ValuesWithin (vs ++ in_focus g) w × focus_within g × act_brings K (leaf g)
Inside K whole d vs f (Rests r) w = ValuesWithin (vs ++ in_rest r) w × rest_within K r
Inside K whole d vs f (Raises r) w = Unit {0}
Inside K whole d vs f (Fails e r) w = Unit {0}
Inside K whole d vs f (Leaves node x) w = ValuesWithin (vs ++ in_focus f) w × exit_carries (aims_of d) node x
Inside K whole d vs f (Ends v) w = ValuesWithin vs w × ends_with whole v
Inside K whole d vs f Past w = ValuesWithin vs w
Inside K whole d vs f (Registers s) w = ValuesWithin vs w
Inside K whole d vs f AtBlockEnd w = ValuesWithin vs w
Inside K whole d vs f AtLoopHead w = ValuesWithin vs w

pub into : (vs us : List Variable) (w : World) → ValuesWithin (vs ++ us) w → ValuesWithin (vs ++ (us ++ [])) w
into vs us w h = ungroup vs us [] w (with_nothing (vs ++ us) w h)

pub next_brings : (K : Kernel) (list : List KNode) → act_brings K (next_of list)
next_brings K [] = tt
next_brings K (s ∷ ss) = tt

-- ---- blocks

module _ (K : Kernel) (vs : List Variable) (b : KBlock) (fin : List KNode) (all : Instances) (rest : List KNode) (f : Focus Act) (plain : (fin ≡ []) × (all ≡ no_instance)) (inner : PlainFocus f) (w : World) where
  abbrev Own : List Variable
  Own = all_declared (out-KBlock b).decls

  pub block_next : (fin : List KNode) (u : World) → ValuesWithin (vs ++ Own) u → ValuesWithin (vs ++ in_focus (In (OfBlock b fin all (rest_of rest)) (Here (next_of rest)))) u × focus_within (In (OfBlock b fin all (rest_of rest)) (Here (next_of rest))) × act_brings K (next_of rest)
  unfolding focus_within
  block_next fin u h = (into vs Own u h, (tt, tt), next_brings K rest)

  pub block_over : ValuesWithin (vs ++ Own) w → ValuesWithin (vs ++ in_rest (Block b fin all Over rest)) w × rest_within K (Block b fin all Over rest)
  unfolding in_rest rest_within
  block_over h = (into vs Own w h, tt)

  pub block_left : (whole : Bool) (turn : Bool) (sc : Scope) (t : Bool) (node : ℕ) (x : Exit) → (node == (out-KBlock b).node) ≡ t → AimsLow whole (ABlock turn sc b) → aimed node sc.aims ≡ true
      → ValuesWithin ((vs ++ Own) ++ in_focus f) w × exit_carries sc.aims node x
      → Inside K whole (ABlock turn sc b) vs (In (OfBlock b fin all rest) f) (body_left t b fin all f Program node x w).outcome (body_left t b fin all f Program node x w).world
  block_left whole turn sc true node x e low k h = (closed_within vs b fin all (aborted (plug f Over) Program w) plain.0 plain.1 (aborted_within f (vs ++ Own) w inner h.0), go whole low)
    where
      go : (z : Bool) → AimsLow z (ABlock turn sc b) → ends_with z (value_with x)
      go true l = tt
      go false l = let a = leads_below (out-KBlock b).node sc.aims node l k in let c = eqb-true node (out-KBlock b).node e in absurd (omega arith)
  block_left whole turn sc false node x e low k h = (ungroup vs Own (in_focus f) w h.0, h.1)

-- ---- do and if

pub escape_taken : (s : KNode) (t : Option Loc) (aims : List Aim) (K : Kernel) (node : ℕ) (x : Exit) → (s.node == node) ≡ true → exit_carries (do_aim K s.node t ∷ aims) node x → (l : Loc) → t ≡ Some l → IsValue l.ty (value_with x)
escape_taken s None aims K node x e h l q = absurd (cc)
escape_taken s (Some m) aims K node x e h l q = subst (λ z. IsValue z (value_with x)) (ap ty_of q) (go x h)
  where
    ty_of : Option Loc → Ty
    ty_of None = ty.None
    ty_of (Some z) = z.ty

    go : (x : Exit) → exit_carries (DoAim s.node (Some m.ty) ∷ aims) node x → IsValue m.ty (value_with x)
    go (Escape v) k = subst (λ z. choose_type z (IsValue m.ty v) (carried aims node v)) e k
    go Break k = zero_value m.ty
    go Continue k = zero_value m.ty

pub escape_further : (s : KNode) (t : Option Loc) (aims : List Aim) (K : Kernel) (node : ℕ) (x : Exit) → (s.node == node) ≡ false → exit_carries (do_aim K s.node t ∷ aims) node x → exit_carries aims node x
escape_further s None aims K node (Escape v) e h = subst (λ z. choose_type z (Unit {0}) (carried aims node v)) e h
escape_further s (Some m) aims K node (Escape v) e h = subst (λ z. choose_type z (IsValue m.ty v) (carried aims node v)) e h
escape_further s t aims K node Break e h = tt
escape_further s t aims K node Continue e h = tt

pub flip : (m n : ℕ) (t : Bool) → (m == n) ≡ t → (n == m) ≡ t
flip m n true e = eq-eqb n m (sym (eqb-true m n e))
flip m n false e = go (n == m) refl
  where
    go : (t : Bool) → (n == m) ≡ t → (n == m) ≡ false
    go false k = k
    go true k = absurd (false≢true (sym e ∙ eq-eqb m n (sym (eqb-true n m k))))
