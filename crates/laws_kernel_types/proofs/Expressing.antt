-- The expressions of a kernel have the types that their operators take.
use Rattle.std.proofs.Common.{◌≡◌, refl, sym, ap, ◌∙◌, subst, ℕ, length, Option, Some, None, Bool, true, false}
use Rattle.std.specs.Prelude.{⊤, ℤ, pos, neg_ℤ, option_map, ◌&&◌, ◌||◌, not, if◌then◌else◌}
use Rattle.ceu_base.specs.declared.kinds.Ty.{Ty}
use Rattle.ceu_base.specs.declared.kinds.Ty.TheVariants as ty
use Rattle.ceu_base.specs.declared.kinds.Pos.{Pos}
use Rattle.ceu_base.specs.declared.kinds.Op1.{Op1}
use Rattle.ceu_base.specs.declared.kinds.Op1.TheVariants as op1
use Rattle.ceu_base.specs.declared.kinds.Op2.{Op2}
use Rattle.ceu_base.specs.declared.kinds.Rule.{Rule}
use Rattle.ceu_base.specs.declared.kinds.Rule.TheVariants.{T1, T7}
use Rattle.ceu_base.specs.Values.{is_value, is_numeric, of_test}
use Rattle.ceu_tree.specs.declared.source.ExpNode as exp
use Rattle.ceu_tree.specs.declared.source.ExpNode.{ExpNode, Row_of-Exp, end_of-Exp, more_of-Exp, One', Two', As'}
use Rattle.ceu_tree.specs.declared.kernel.Loc.{Loc}
use Rattle.ceu_tree.specs.declared.kernel.KExp.{KExp}
use Rattle.ceu_tree.specs.declared.kernel.KExpNode as knode
use Rattle.ceu_tree.specs.declared.kernel.KExpNode.{KExpNode}
use Rattle.ceu_tree.specs.declared.kernel.KExpNode.TheBlock.{hidden-the_row-KExp-0}
use Rattle.ceu_tree.specs.Typing.{same_ty, node_open, keeps_open, opens_both, fits1, fits2, node_typed}
use Rattle.ceu_tree.specs.Proper.{Where}
use Rattle.ceu_scopes.specs.declared.known.Scopes.{Scopes}
use Rattle.ceu_types.specs.declared.typing.Types.{Types}
use Rattle.ceu_types.specs.declared.found.Found.{Found}
use Rattle.ceu_types.specs.declared.operands.Operand.{Operand}
use Rattle.ceu_types.specs.Typing.{open_type, is_none_type, result1}
use Rattle.ceu_types.specs.Notes.{asks, passed}
use Rattle.ceu_types.specs.Notes as notes
use Rattle.ceu_types.specs.Uses.{use_type}
use Rattle.ceu_types.specs.Expressions.{closed, int_literal, prefixed, joined, converted, type_in, or_none, prefix_wanted, left_wanted, right_wanted, meets1, meets2, row_negated, fits, negated_fits, literal_found, literal_or, node_past, row_past, node_operand, row_operand, node_found, row_found}
use Rattle.ceu_expand.specs.declared.draft.Draft.{Draft}
use Rattle.ceu_expand.specs.Uses.{variable, use_number}
use Rattle.ceu_expand.specs.Expressions as written
use Rattle.ceu_expand.specs.Expressions.{type_at, next_type, negated_or, node_passed, row_passed, node_written, operand_written}
use Rattle.laws_kernel_shape.proofs.Fine.{Fine, fine_asks, fine_typed}
use Rattle.laws_kernel_shape.proofs.Beside.{Level, same_type}
use Rattle.laws_kernel_types.specs.Typed.{LeavesOk}
use Rattle.laws_kernel_types.proofs.Meeting.{implied, both_hold, same_self, open_numeric, numeric_some, not_none}
use Rattle.laws_kernel_types.proofs.Operands.{placed_ty, one_fits, two_fits}
use Rattle.laws_kernel_types.proofs.Noting.{Step, Prefix, noted, none_step, step_then, asks_step, note_step}
use Rattle.laws_kernel_types.proofs.Passing.{row_step}
use denote.Hole.Carrier

-- an expression that is so by itself, has this type in its place
pub record Fit (x : Operand) (w : Ty) (k : KExpNode) (u : Ty) : Type 0 where
  pub by_itself : Ty
  pub has : x.ty ≡ Some by_itself
  pub int : x.is_open ≡ true → by_itself ≡ ty.S32
  pub is : u ≡ placed_ty x w
  pub opens : node_open k u ≡ x.is_open
  pub fits : (reads : Loc → Bool) (asks : ℕ → Bool) → LeavesOk reads asks k → node_typed reads asks k u ≡ true

fit_at : (x : Operand) (w : Ty) (k : KExpNode) (u v : Ty) → u ≡ v → Fit x w k v → Fit x w k u
fit_at x w k u v e h = subst (Fit x w k) (sym e) h

-- ---- single forms

literal_fit : (w : Ty) (v : ℤ) → is_value (open_type w) v ≡ true → Fit int_literal w (knode.Const v) (open_type w)
unfolding type_in node_open node_typed
literal_fit w v h =
    record {
      by_itself = ty.S32;
      has = refl;
      int = λ e. refl;
      is = refl;
      opens = open_numeric w;
      fits = λ reads asks leaves. both_hold (not (same_ty (open_type w) ty.None)) (is_value (open_type w) v) (implied (is_numeric (open_type w)) (not (same_ty (open_type w) ty.None)) (numeric_some (open_type w)) (open_numeric w)) h;
    }

bool_fit : (w : Ty) (b : Bool) → Fit (closed ty.Bool) w (knode.Const (of_test b)) ty.Bool
unfolding type_in node_open node_typed
bool_fit w true = record { by_itself = ty.Bool; has = refl; int = λ e. absurd (cc); is = refl; opens = refl; fits = λ reads asks leaves. refl }
bool_fit w false = record { by_itself = ty.Bool; has = refl; int = λ e. absurd (cc); is = refl; opens = refl; fits = λ reads asks leaves. refl }

read_fit : (w : Ty) (l : Loc) (u : Ty) → l.ty ≡ u → Fit (closed u) w (knode.Read l) u
unfolding type_in node_open node_typed LeavesOk
read_fit w l u e =
    record {
      by_itself = u;
      has = refl;
      int = λ e. absurd (cc);
      is = refl;
      opens = refl;
      fits = λ reads asks leaves. both_hold (same_ty l.ty u) (reads l) (ap (λ v. same_ty v u) e ∙ same_self u) leaves;
    }

alive_fit : (w : Ty) (c : ℕ) → Fit (closed ty.Bool) w (knode.Alive c) ty.Bool
unfolding type_in node_open node_typed LeavesOk
alive_fit w c = record { by_itself = ty.Bool; has = refl; int = λ e. absurd (cc); is = refl; opens = refl; fits = λ reads asks leaves. leaves }

one_fit : (op : Op1) (w : Ty) (x : Operand) (a : KExp) → Fit x (prefix_wanted op w) a.node a.ty → meets1 op x ≡ true → Fit (prefixed op x) w (knode.One op a) (placed_ty (prefixed op x) w)
unfolding node_open node_typed LeavesOk hidden-the_row-KExp-0 Carrier.hidden
one_fit op w x a h m =
    let k = one_fits op w x h.by_itself h.has h.int m in
    record {
      by_itself = k.by_itself;
      has = k.has;
      int = k.int;
      is = refl;
      opens = ap (λ b. keeps_open op && b) h.opens ∙ k.opens;
      fits = λ reads asks leaves.
          both_hold (node_typed reads asks a.node a.ty) (fits1 op (placed_ty (prefixed op x) w) a.ty) (h.fits reads asks leaves) (ap (fits1 op (placed_ty (prefixed op x) w)) h.is ∙ k.fits);
    }

pub three_hold : (a b c : Bool) → a ≡ true → b ≡ true → c ≡ true → (a && b && c) ≡ true
three_hold true true c h k l = l
three_hold true false c h k l = absurd (cc)
three_hold false b c h k l = absurd (cc)

two_fit : (op : Op2) (w : Ty) (x y : Operand) (a b : KExp) → Fit x (left_wanted op w y) a.node a.ty → Fit y (right_wanted op w x) b.node b.ty → meets2 op x y ≡ true →
    Fit (joined op x y) w (knode.Two op a b) (placed_ty (joined op x y) w)
unfolding node_open node_typed LeavesOk hidden-the_row-KExp-0 Carrier.hidden
two_fit op w x y a b h g m =
    let k = two_fits op w x y h.by_itself g.by_itself h.has g.has h.int g.int m in
    let u = placed_ty (joined op x y) w in
    record {
      by_itself = k.by_itself;
      has = k.has;
      int = k.int;
      is = refl;
      opens = ap (λ o. opens_both op o (node_open b.node b.ty)) h.opens ∙ ap (opens_both op x.is_open) g.opens ∙ k.opens;
      fits = λ reads asks leaves.
          three_hold (node_typed reads asks a.node a.ty) (node_typed reads asks b.node b.ty) (fits2 op (node_open a.node a.ty) (node_open b.node b.ty) u a.ty b.ty) (h.fits reads asks leaves.0) (g.fits reads asks leaves.1)
          (ap (λ o. fits2 op o (node_open b.node b.ty) u a.ty b.ty) h.opens ∙ ap (λ o. fits2 op x.is_open o u a.ty b.ty) g.opens ∙ ap (λ v. fits2 op x.is_open y.is_open u v b.ty) h.is ∙
          ap (fits2 op x.is_open y.is_open u (placed_ty x (left_wanted op w y))) g.is ∙ k.fits);
    }

-- an open operand of `as` is an integer
open_as : (x : Operand) (u v : Ty) (o : Bool) → x.is_open ≡ o → u ≡ placed_ty x ty.S32 → x.ty ≡ Some v → (not o || same_ty u ty.S32) ≡ true
unfolding type_in open_type
open_as x u v false e is has = refl
open_as x u v true e is has =
    let same : u ≡ ty.S32 = is ∙ ap (λ o. or_none (if o then option_map (λ t. open_type ty.S32) x.ty else x.ty)) e ∙ ap (λ r. or_none (option_map (λ t. open_type ty.S32) r)) has in
    ap (λ z. same_ty z ty.S32) same

not_true : (b : Bool) → not b ≡ true → b ≡ false
not_true true h = absurd (cc)
not_true false h = refl

converted_has : (v : Ty) (x : Operand) (u : Ty) → x.ty ≡ Some u → not (is_none_type v) ≡ true → (converted v x).ty ≡ Some v
unfolding converted
converted_has v x u has m = ap (λ b. if b then None else option_map (λ z. v) x.ty) (not_true (is_none_type v) m) ∙ ap (option_map (λ z. v)) has

as_fit : (v w : Ty) (x : Operand) (a : KExp) → Fit x ty.S32 a.node a.ty → not (is_none_type v) ≡ true → Fit (converted v x) w (knode.As a) v
unfolding node_open node_typed LeavesOk hidden-the_row-KExp-0 Carrier.hidden converted type_in
as_fit v w x a h m =
    record {
      by_itself = v;
      has = converted_has v x h.by_itself h.has m;
      int = λ e. absurd (cc);
      is = sym (ap or_none (converted_has v x h.by_itself h.has m));
      opens = refl;
      fits = λ reads asks leaves.
          three_hold (node_typed reads asks a.node a.ty) (not (same_ty v ty.None)) (not (node_open a.node a.ty) || same_ty a.ty ty.S32) (h.fits reads asks leaves) (implied (not (is_none_type v)) (not (same_ty v ty.None)) (not_none v) m)
          (ap (λ o. not o || same_ty a.ty ty.S32) h.opens ∙ open_as x a.ty h.by_itself x.is_open refl h.is h.has);
    }

module _ (s : Scopes) (t : Types) where
  -- ---- the place in the list of uses

  names_typed : (u : Ty) (f : Found) → (notes.typed u f).names ≡ f.names
  unfolding notes.typed
  names_typed u f = refl

  pub names_asks : (b : Bool) (r : Rule) (p : Pos) (f : Found) → (asks b r p f).names ≡ f.names
  unfolding asks
  names_asks true r p f = refl
  names_asks false r p f = refl

  names_literal : (p : Pos) (b : Bool) (u : Ty) (f : Found) → (literal_found p b u f).names ≡ f.names
  unfolding literal_found
  names_literal p b u f = names_typed u (asks b T7 p f) ∙ names_asks b T7 p f

  names_one : {n : _} (op : Op1) (a : Row_of-Exp n) (r : Option ℕ) → row_negated op a ≡ r → (k m : ℕ) (literal : ℕ → Found) (other : Found) → ((n : ℕ) → (literal n).names ≡ k) → other.names ≡ row_past s a k →
      (literal_or r literal other).names ≡ row_past s a k
  unfolding node_past
  names_one op a None e k m literal other one two = two
  names_one op1.Neg (more_of-Exp p (exp.Number i) rest) (Some j) e k m literal other one two = one j
  names_one op end_of-Exp (Some j) e k m literal other one two = absurd (cc)
  names_one op (more_of-Exp p x rest) (Some j) e k m literal other one two = absurd (cc)

  mutual
    unfolding node_found node_past passed

    names_node : (e : ExpNode) (p : Pos) (w : Ty) (f : Found) → (node_found s e p w f).names ≡ node_past s e f.names
    names_node (exp.Number n) p w f = names_literal p _ _ f
    names_node (exp.Bool b) p w f = names_typed ty.Bool f
    names_node (exp.Var x) p w f = names_typed _ (passed s f)
    names_node (exp.Alive x) p w f = names_typed _ (passed s f)
    names_node (One' op _ a) p w f =
        names_one op a (row_negated op a) refl f.names 0 _ _ (λ n. names_typed _ _ ∙ names_literal p _ _ f)
        (names_row a _ _ ∙ ap (row_past s a) (names_typed _ (asks _ _ p f) ∙ names_asks _ _ p f))
    names_node (Two' op _ a _ b) p w f =
        names_row b _ _ ∙ ap (row_past s b) (names_row a _ _ ∙ ap (row_past s a) (names_typed _ (asks _ _ p f) ∙ names_asks _ _ p f))
    names_node (As' _ a u) p w f = names_row a _ _ ∙ ap (row_past s a) (names_typed _ (asks _ _ p f) ∙ names_asks _ _ p f)

    names_row : {n : _} (r : Row_of-Exp n) (w : Ty) (f : Found) → (row_found s r w f).names ≡ row_past s r f.names
    names_row end_of-Exp w f = refl
    names_row (more_of-Exp p e rest) w f = names_node e p w f

  -- ---- expressions

  module _ (place : Where) where
    -- what is known where an expression begins, and that the walk goes on behind it
    pub record At (f : Found) (d : Draft) (g : Found) : Type 0 where
      pub fine : Fine place g
      pub more : Prefix g.types t.exps
      pub level : Level s f d
      pub count : length f.types ≡ d.exps

    -- an operand stands there
    abbrev There : {n : _} → Row_of-Exp n → Type 0
    There end_of-Exp = ⊥
    There (more_of-Exp p e rest) = ⊤

    -- with its type noted
    noted_at : (u : Ty) (b : Bool) (r : Rule) (p : Pos) (f g : Found) (d e : Draft) → Step s t (notes.typed u (asks b r p f)) (written.typed d) g e → At f d g → (b ≡ true) × (type_at t d.exps ≡ u) × At (notes.typed u (asks b r p f)) (written.typed d) g
    noted_at u b r p f g d e step h =
        let f' = asks b r p f in
        let start = asks_step s t b r p f d in
        let note = note_step s t u f' d in
        let fine' = step.under.back place h.fine in (
          (fine_asks place b r p f (fine_typed place u f' fine')).0,
          noted s t u f' d (step.grows h.more) (start.counts h.count),
          record { fine = h.fine; more = h.more; level = note.under.level (start.under.level h.level); count = note.counts (start.counts h.count) },
        )

    -- a prefix, and a literal behind a `-`
    negated_is : {n : _} (op : Op1) (a : Row_of-Exp n) (j k : ℕ) → row_negated op a ≡ Some j → prefixed op (row_operand s a k) ≡ int_literal
    unfolding node_operand prefixed result1
    negated_is op1.Neg (more_of-Exp p (exp.Number i) rest) j k e = refl
    negated_is op end_of-Exp j k e = absurd (cc)
    negated_is op (more_of-Exp p x rest) j k e = absurd (cc)

    abbrev OneFound : {n : _} → Op1 → Row_of-Exp n → Pos → Ty → Found → Found
    OneFound op a p w f = notes.typed (placed_ty (prefixed op (row_operand s a f.names)) w) (asks (meets1 op (row_operand s a f.names)) T1 p f)

    one_names : (u : Ty) (b : Bool) (r : Rule) (p : Pos) (f : Found) → (notes.typed u (asks b r p f)).names ≡ f.names
    one_names u b r p f = names_typed u (asks b r p f) ∙ names_asks b r p f

    abbrev RowFit : {n : _} → Row_of-Exp n → Ty → Type 0
    RowFit a w = (f : Found) (d : Draft) → At f d (row_found s a w f) → Fit (row_operand s a f.names) w (operand_written s t a d).node (operand_written s t a d).ty

    one_at : {n : _} (op : Op1) (a : Row_of-Exp n) (r : Option ℕ) → row_negated op a ≡ r → (p : Pos) (w : Ty) (f : Found) (d : Draft) → RowFit a (prefix_wanted op w) →
        At f d (literal_or r (λ n. notes.typed (open_type w) (literal_found p (negated_fits (open_type w) n) (open_type w) f)) (row_found s a (prefix_wanted op w) (OneFound op a p w f))) →
        Fit (prefixed op (row_operand s a f.names)) w (negated_or r (λ n. knode.Const (neg_ℤ (pos n))) (knode.One op (operand_written s t a (written.typed d)))) (type_at t d.exps)
    unfolding literal_found negated_fits
    one_at op a None e p w f d inner h =
        let x = row_operand s a f.names in
        let u = placed_ty (prefixed op x) w in
        let m = meets1 op x in
        let f' = OneFound op a p w f in
        let d' = written.typed d in
        let k = noted_at u m T1 p f (row_found s a (prefix_wanted op w) f') d (row_passed a d') (row_step s t a (prefix_wanted op w) f' d') h in
        let o = operand_written s t a d' in
        let fit = subst (λ n. Fit (row_operand s a n) (prefix_wanted op w) o.node o.ty) (one_names u m T1 p f) (inner f' d' k.2) in
        fit_at (prefixed op x) w (knode.One op o) (type_at t d.exps) u k.1 (one_fit op w x o fit k.0)
    one_at op a (Some j) e p w f d inner h =
        let u = open_type w in
        let b = negated_fits u j in
        let f' = notes.typed u (asks b T7 p f) in
        let d' = written.typed d in
        let v = neg_ℤ (pos j) in
        let k = noted_at u b T7 p f (notes.typed u f') d (written.typed d') (note_step s t u f' d') h in
        subst (λ y. Fit y w (knode.Const v) (type_at t d.exps)) (sym (negated_is op a j f.names e)) (fit_at int_literal w (knode.Const v) (type_at t d.exps) u k.1 (literal_fit w v k.0))

    there_is : (r : Row_of-Exp 1) → There r
    there_is (more_of-Exp p e rest) = tt

    mutual
      unfolding node_found node_operand node_past node_passed node_written next_type literal_found fits passed variable written.typed

      pub node_fit : (e : ExpNode) (p : Pos) (w : Ty) (f : Found) (d : Draft) → At f d (node_found s e p w f) → Fit (node_operand s e f.names) w (node_written s t e d) (type_at t d.exps)
      node_fit (exp.Number n) p w f d h =
          let u = open_type w in
          let k = noted_at u (fits u n) T7 p f (literal_found p (fits u n) u f) d (written.typed d) (none_step s t (literal_found p (fits u n) u f) (written.typed d)) h in
          fit_at int_literal w (knode.Const (pos n)) (type_at t d.exps) u k.1 (literal_fit w (pos n) k.0)
      node_fit (exp.Bool b) p w f d h = fit_at (closed ty.Bool) w (knode.Const (of_test b)) (type_at t d.exps) ty.Bool (noted s t ty.Bool f d h.more h.count) (bool_fit w b)
      node_fit (exp.Var x) p w f d h =
          let u = use_type s f.names in
          fit_at (closed u) w (knode.Read (variable s x (written.typed d))) (type_at t d.exps) u (noted s t u (passed s f) d h.more h.count)
          (read_fit w (variable s x (written.typed d)) u (sym (same_type s f.names d.uses h.level)))
      node_fit (exp.Alive x) p w f d h =
          fit_at (closed ty.Bool) w (knode.Alive (use_number s (written.typed d))) (type_at t d.exps) ty.Bool (noted s t ty.Bool (passed s f) d h.more h.count) (alive_fit w (use_number s (written.typed d)))
      node_fit (One' op _ a) p w f d h = one_at op a (row_negated op a) refl p w f d (λ g e k. row_fit a (there_is a) (prefix_wanted op w) g e k) h
      node_fit (Two' op _ a _ b) p w f d h =
          let x = row_operand s a f.names in
          let y = row_operand s b (row_past s a f.names) in
          let u = placed_ty (joined op x y) w in
          let m = meets2 op x y in
          let f1 = notes.typed u (asks m T1 p f) in
          let d1 = written.typed d in
          let wl = left_wanted op w y in
          let wr = right_wanted op w x in
          let one = row_step s t a wl f1 d1 in
          let f2 = row_found s a wl f1 in
          let d2 = row_passed a d1 in
          let two = row_step s t b wr f2 d2 in
          let k = noted_at u m T1 p f (row_found s b wr f2) d (row_passed b d2) (step_then s t one two) h in
          let at : At f1 d1 (row_found s b wr f2) = k.2 in
          let left : At f1 d1 f2 = record { fine = two.under.back place at.fine; more = two.grows at.more; level = at.level; count = at.count } in
          let right : At f2 d2 (row_found s b wr f2) = record { fine = at.fine; more = at.more; level = one.under.level at.level; count = one.counts at.count } in
          let oa = operand_written s t a d1 in
          let ob = operand_written s t b d2 in
          let names = one_names u m T1 p f in
          let fa = subst (λ n. Fit (row_operand s a n) wl oa.node oa.ty) names (row_fit a (there_is a) wl f1 d1 left) in
          let fb = subst (λ n. Fit (row_operand s b n) wr ob.node ob.ty) (names_row a wl f1 ∙ ap (row_past s a) names) (row_fit b (there_is b) wr f2 d2 right) in
          fit_at (joined op x y) w (knode.Two op oa ob) (type_at t d.exps) u k.1 (two_fit op w x y oa ob fa fb k.0)
      node_fit (As' _ a v) p w f d h =
          let x = row_operand s a f.names in
          let m = not (is_none_type v) in
          let f1 = notes.typed v (asks m T1 p f) in
          let d1 = written.typed d in
          let k = noted_at v m T1 p f (row_found s a ty.S32 f1) d (row_passed a d1) (row_step s t a ty.S32 f1 d1) h in
          let o = operand_written s t a d1 in
          let fit = subst (λ n. Fit (row_operand s a n) ty.S32 o.node o.ty) (one_names v m T1 p f) (row_fit a (there_is a) ty.S32 f1 d1 k.2) in
          fit_at (converted v x) w (knode.As o) (type_at t d.exps) v k.1 (as_fit v w x o fit k.0)

      row_fit : {n : _} (r : Row_of-Exp n) → There r → (w : Ty) → RowFit r w
      row_fit end_of-Exp there w f d h = absurd there
      row_fit (more_of-Exp p e rest) there w f d h = node_fit e p w f d h
