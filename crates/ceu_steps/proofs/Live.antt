-- The slots in use at a part lie within the frame and are pairwise disjoint.
use Rattle.std.proofs.Common.{◌≡◌, ◌≢◌, refl, sym, ap, ◌∙◌, subst, ◌≤◌, ◌⊎◌, inl, inr, ℕ, zero, suc, ◌+◌, Bool, List, [], ◌∷◌, ◌++◌, Contains, arith}
use Rattle.std.proofs.lemmas.List.{append-nil}
use Rattle.std.proofs.lemmas.List.Elements.{Contains-append_left, Contains-append_right, Contains-append_cases}
use Rattle.ceu_base.specs.declared.kinds.Ty.{Ty}
use Rattle.ceu_base.specs.declared.kinds.Ty.TheVariants as ty
use Rattle.ceu_tree.specs.declared.kernel.Kernel.{Kernel}
use Rattle.ceu_tree.specs.declared.kernel.KDecl.{KDecl}
use Rattle.ceu_tree.specs.declared.kernel.KKind.{KKind}
use Rattle.ceu_tree.specs.declared.kernel.KKind.TheVariants as kind
use Rattle.ceu_tree.specs.declared.kernel.KLoop.{KLoop}
use Rattle.ceu_tree.specs.declared.kernel.KLoop.TheVariants as turns
use Rattle.ceu_tree.specs.declared.kernel.KNode.{KNode}
use Rattle.ceu_tree.specs.declared.kernel.KBlock.{KBlock, out-KBlock}
use Rattle.ceu_tree.specs.declared.kernel.KStmt.{out-KStmt}
use Rattle.ceu_tree.specs.declared.kernel.KStmt.TheOpen.{KStmt-F}
use Rattle.ceu_tree.specs.Needs.{ty_size}
use Rattle.ceu_tree.specs.Numbering.{decl_slots, loop_slots, stmt_slots, block_slots}
use Rattle.ceu_tree.specs.Proper.{Scope}
use Rattle.ceu_tree.specs.Residual.{Counter, no_instance}
use Rattle.ceu_tree.specs.Focus.{Frame, OfBlock, OfLoop}
use Rattle.laws_meaning_basics.specs.Shape.{Part, ABlock, AStatement}
use Rattle.ceu_mem.specs.Memory.{size}
use Rattle.ceu_slots.specs.Law.{StmtTogether, BlockTogether, Disjoint, DeclsSized, StmtSized, TurnsSized, declared_size, KeepsPlaces}
use Rattle.ceu_trail.specs.Within.{Variable, declared, all_declared, turned, looped}
use Rattle.ceu_steps.specs.Reached.{Reached, at_program, at_statement, at_end, in_part, in_turn}
use Rattle.ceu_steps.specs.Live.{slots_in, vars_in, layer_slots, part_slots, PartTogether, PartSized, LayerSized, Live}
use Rattle.ceu_steps.proofs.Together.{in_block_slots, declared_in_block, statement_together, declared_together, statement_sized, declared_sized, part_together, part_has, part_sized, loop_is, turn_together, hidden_together, turn_slots, turn_sized}

pub in_none : {A : Type 0} {X : Type 0} (x : X) → Contains [] x → A
in_none x c = absurd (omega (arith, c.1))

pub only_one : {X : Type 0} (y x : X) → Contains (y ∷ []) x → y ≡ x
only_one y x (zero, lt, e) = e
only_one y x (suc k, lt, e) = absurd (omega arith)

-- ---- variables

pub same_size : (t : Ty) → ty_size t ≡ size t
same_size ty.None = refl
same_size ty.Bool = refl
same_size ty.U8 = refl
same_size ty.S8 = refl
same_size ty.U16 = refl
same_size ty.S16 = refl
same_size ty.U32 = refl
same_size ty.S32 = refl
same_size ty.U64 = refl
same_size ty.S64 = refl

swap : (offset width frame : ℕ → ℕ) (x y : ℕ) → Disjoint offset width frame y x → Disjoint offset width frame x y
swap offset width frame x y (inl e) = inr e
swap offset width frame x y (inr e) = inl e

module _ (offset width frame : ℕ → ℕ) (total : ℕ) (K : Kernel) (keeps : KeepsPlaces offset width frame K total) where
  declared_variable : (ds : List KDecl) (v : Variable) → DeclsSized offset width frame ds → Contains (all_declared ds) v → (width v.slot ≡ size v.ty) × Contains (decl_slots ds) v.slot
  declared_variable [] v h c = in_none v c
  declared_variable (d ∷ ds) v h c = by (Contains-append_cases (declared d d.kind) (all_declared ds) v c) (declared_variable ds v h.1)
    where
      one : (j : KKind) → width d.slot ≡ declared_size offset width frame j → Contains (declared d j) v → (width v.slot ≡ size v.ty) × Contains (decl_slots (d ∷ ds)) v.slot
      one (kind.Var t) e x =
          let same = only_one (record { slot = d.slot; ty = t }) v x in
          subst (λ (u : Variable). (width u.slot ≡ size u.ty) × Contains (decl_slots (d ∷ ds)) u.slot) same (e ∙ same_size t, (0, omega arith, refl))
      one (kind.Alias n) e x = in_none v x
      one (kind.Pool n m) e x = in_none v x

      by : Contains (declared d d.kind) v ⊎ Contains (all_declared ds) v → (Contains (all_declared ds) v → (width v.slot ≡ size v.ty) × Contains (decl_slots ds) v.slot) → (width v.slot ≡ size v.ty) × Contains (decl_slots (d ∷ ds)) v.slot
      by (inl x) ih = one d.kind h.0 x
      by (inr x) ih = let r = ih x in (r.0, Contains-append_right (d.slot ∷ []) (decl_slots ds) v.slot r.1)

  turned_variable : (k : KLoop) (v : Variable) → TurnsSized offset width frame k → Contains (turned k) v → (width v.slot ≡ size v.ty) × Contains (loop_slots k) v.slot
  turned_variable turns.Free v h c = in_none v c
  turned_variable (turns.Times slot n) v h c = in_none v c
  turned_variable (turns.Range i next end open_a a b open_b) v h c =
      let same = only_one (record { slot = i; ty = ty.S32 }) v c in
      subst (λ (u : Variable). (width u.slot ≡ size u.ty) × Contains (i ∷ next ∷ end ∷ []) u.slot) same (h.0, (0, omega arith, refl))

  -- ---- what lies inside a part

  pub record Lifted (outer : List Frame) (d : Part) : Type 0 where
    pub inside : (y : ℕ) → Contains (part_slots d) y → Contains (block_slots K.body) y
    pub lifts : (x y : ℕ) → PartTogether x y d → BlockTogether x y K.body
    pub sized : PartSized offset width frame total d
    pub cross : (x y : ℕ) → Contains (slots_in outer) x → Contains (part_slots d) y → BlockTogether x y K.body
    pub live : Live offset width frame total outer

  -- one more frame, whose slots are together with each other, and with those around it
  more_live : (own : List ℕ) (outer : List Frame) → Live offset width frame total outer → ((x : ℕ) → Contains own x → Contains (block_slots K.body) x)
      → ((x y : ℕ) → Contains own x → Contains own y → BlockTogether x y K.body) → ((x y : ℕ) → Contains (slots_in outer) x → Contains own y → BlockTogether x y K.body)
      → ((x : ℕ) → Contains (own ++ slots_in outer) x → offset x + width x ≤ total) × ((x y : ℕ) → Contains (own ++ slots_in outer) x → Contains (own ++ slots_in outer) y → x ≢ y → Disjoint offset width frame x y)
  more_live own outer live inside both cross = (
    λ x c. elim (Contains-append_cases own (slots_in outer) x c) [ inl a ↦ keeps.within x (inside x a) | inr a ↦ live.within x a ],
    λ x y c d ne. elim (Contains-append_cases own (slots_in outer) x c) [
      | inl a ↦ elim (Contains-append_cases own (slots_in outer) y d) [
        | inl b ↦ keeps.apart x y ne (both x y a b)
        | inr b ↦ swap offset width frame x y (keeps.apart y x (λ q. ne (sym q)) (cross y x b a))
      ]
      | inr a ↦ elim (Contains-append_cases own (slots_in outer) y d) [
        | inl b ↦ keeps.apart x y ne (cross x y a b)
        | inr b ↦ live.apart x y a b ne
      ]
    ],
  )

  block_live : {turn : Bool} {sc : Scope} (outer : List Frame) (b : KBlock) (rest : List KNode) → Lifted outer (ABlock turn sc b) → Live offset width frame total (OfBlock b [] no_instance rest ∷ outer)
  block_live outer b rest h =
      let own = decl_slots (out-KBlock b).decls in
      let m = more_live (decl_slots (out-KBlock b).decls) outer h.live (λ x c. h.inside x (declared_in_block b x c)) (λ x y c d. h.lifts x y (declared_together x y b c (declared_in_block b y d))) (λ x y c d. h.cross x y c (declared_in_block b y d)) in
      record {
        within = m.0;
        apart = m.1;
        sized = (tt, h.live.sized);
        variables = λ v c. elim (Contains-append_cases (vars_in outer) (all_declared (out-KBlock b).decls) v c) [
          | inr x ↦ (let r = declared_variable (out-KBlock b).decls v (declared_sized offset width frame b h.sized) x in (r.0, Contains-append_left (decl_slots (out-KBlock b).decls) (slots_in outer) v.slot r.1))
          | inl x ↦ (let r = h.live.variables v x in (r.0, Contains-append_right (decl_slots (out-KBlock b).decls) (slots_in outer) v.slot r.1))
        ];
      }

  turn_live : {sc : Scope} (outer : List Frame) (s : KNode) (c : Counter) (k : KLoop) (b : KBlock) → out-KStmt s.stmt ≡ KStmt-F.Loop k b → Lifted outer (AStatement sc s) → Live offset width frame total (OfLoop s c ∷ outer)
  turn_live outer s c k b e h =
      let st = loop_is s.stmt k b e in
      let slots_are : stmt_slots s.stmt ≡ loop_slots k ++ block_slots b = ap stmt_slots st ∙ turn_slots k b in
      let own_is : layer_slots (out-KStmt s.stmt) ≡ loop_slots k = ap layer_slots e in
      let mine = λ (x : ℕ) (d : Contains (layer_slots (out-KStmt s.stmt)) x). subst (λ (l : List ℕ). Contains l x) own_is d in
      let wide = λ (x : ℕ) (d : Contains (layer_slots (out-KStmt s.stmt)) x). Contains-append_left (loop_slots k) (block_slots b) x (mine x d) in
      let part = λ (x : ℕ) (d : Contains (layer_slots (out-KStmt s.stmt)) x). subst (λ (l : List ℕ). Contains l x) (sym slots_are) (wide x d) in
      let sized = turn_sized offset width frame k b (subst (λ q. StmtSized offset width frame q) st h.sized) in
      let m = more_live (layer_slots (out-KStmt s.stmt)) outer h.live (λ x d. h.inside x (part x d))
      (λ x y d f. h.lifts x y (subst (λ q. StmtTogether x y q) (sym st) (hidden_together x y k b (mine x d) (wide y f)))) (λ x y d f. h.cross x y d (part y f)) in
      record {
        within = m.0;
        apart = m.1;
        sized = (subst (λ l. LayerSized offset width frame total l) (sym e) sized.0, h.live.sized);
        variables = λ v d. elim (Contains-append_cases (vars_in outer) (looped (out-KStmt s.stmt)) v d) [
          | inr x ↦ (
              let r = turned_variable k v sized.0 (subst (λ l. Contains (looped l) v) e x) in
              (r.0, Contains-append_left (layer_slots (out-KStmt s.stmt)) (slots_in outer) v.slot (subst (λ (l : List ℕ). Contains l v.slot) (sym own_is) r.1))
              )
          | inl x ↦ (let r = h.live.variables v x in (r.0, Contains-append_right (layer_slots (out-KStmt s.stmt)) (slots_in outer) v.slot r.1))
        ];
      }

  pub lifted_of : {outer : List Frame} {d : Part} → Reached K outer d → Lifted outer d
  lifted_of at_program = record {
    inside = λ y c. c;
    lifts = λ x y t. t;
    sized = keeps.body_sized;
    cross = λ x y c d. in_none x c;
    live = record { within = λ x c. in_none x c; apart = λ x y c d ne. in_none x c; sized = tt; variables = λ v c. in_none v c };
  }
  lifted_of (at_statement {outer = outer} {b = b} {s = s} {rest = rest} done x e pl) =
      let h = lifted_of x in
      record {
        inside = λ y c. h.inside y (in_block_slots b done rest s y e c);
        lifts = λ x y t. h.lifts x y (statement_together x y b done rest s e t);
        sized = statement_sized offset width frame b done rest s e h.sized;
        cross = λ x y c d. elim (Contains-append_cases (decl_slots (out-KBlock b).decls) (slots_in outer) x c) [
          | inl a ↦ h.lifts x y (declared_together x y b a (in_block_slots b done rest s y e d))
          | inr a ↦ h.cross x y a (in_block_slots b done rest s y e d)
        ];
        live = block_live outer b rest h;
      }
  lifted_of (at_end {outer = outer} {b = b} x pl) =
      record { inside = λ y c. in_none y c; lifts = λ x y t. elim t [ ]; sized = tt; cross = λ x y c d. in_none y d; live = block_live outer b [] (lifted_of x) }
  lifted_of (in_part {outer = outer} {s = s} b x o) =
      let h = lifted_of x in
      record {
        inside = λ y c. h.inside y (part_has s.stmt b y o c);
        lifts = λ x y t. h.lifts x y (part_together x y s.stmt b o t);
        sized = part_sized offset width frame s.stmt b o h.sized;
        cross = λ x y c d. h.cross x y c (part_has s.stmt b y o d);
        live = record { within = h.live.within; apart = h.live.apart; sized = (tt, h.live.sized); variables = λ v c. h.live.variables v (subst (λ (l : List Variable). Contains l v) (append-nil (vars_in outer)) c) };
      }
  lifted_of (in_turn {outer = outer} {s = s} {c = c} k b x e n) =
      let h = lifted_of x in
      let st = loop_is s.stmt k b e in
      let slots_are : stmt_slots s.stmt ≡ loop_slots k ++ block_slots b = ap stmt_slots st ∙ turn_slots k b in
      let body = λ (y : ℕ) (d : Contains (block_slots b) y). subst (λ (l : List ℕ). Contains l y) (sym slots_are) (Contains-append_right (loop_slots k) (block_slots b) y d) in
      record {
        inside = λ y d. h.inside y (body y d);
        lifts = λ x y t. h.lifts x y (subst (λ q. StmtTogether x y q) (sym st) (turn_together x y k b t));
        sized = (turn_sized offset width frame k b (subst (λ q. StmtSized offset width frame q) st h.sized)).1;
        cross = λ x y a d. elim (Contains-append_cases (layer_slots (out-KStmt s.stmt)) (slots_in outer) x a) [
          | inl z ↦ h.lifts x y (subst (λ q. StmtTogether x y q) (sym st) (hidden_together x y k b (subst (λ (l : List ℕ). Contains l x) (ap layer_slots e) z) (Contains-append_right (loop_slots k) (block_slots b) y d)))
          | inr z ↦ h.cross x y z (body y d)
        ];
        live = turn_live outer s c k b e h;
      }
