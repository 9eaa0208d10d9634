-- The lines of each expression do what the reference semantics says.
use Rattle.std.proofs.Common.{◌≡◌, ◌≢◌, refl, sym, ap, ◌∙◌, subst, ◌≤◌, ℕ, ◌+◌, max, ℤ, Bool, true, false, List, [], ◌∷◌, Ok, arith}
use Rattle.std.specs.Prelude.{if◌then◌else◌, ◌&&◌, ◌||◌, not}
use Rattle.ceu_base.specs.declared.kinds.Ty.{Ty}
use Rattle.ceu_base.specs.declared.kinds.Ty.TheVariants as ty
use Rattle.ceu_base.specs.declared.kinds.Pos.{Pos}
use Rattle.ceu_base.specs.declared.kinds.Op2.{Op2}
use Rattle.ceu_base.specs.declared.kinds.Op2.TheVariants as op2
use Rattle.ceu_base.specs.Values.{IsValue, is_value, is_bool, of_test, wrapped, applied1, applied2}
use Rattle.ceu_code.specs.declared.image.Image.{Image}
use Rattle.ceu_code.specs.declared.instr.Instr.{Instr}
use Rattle.ceu_code.specs.declared.instr.Instr.TheVariants as instr
use Rattle.ceu_mem.specs.Memory.{size, value_at}
use Rattle.ceu_isa.specs.declared.registers.Registers.{Registers}
use Rattle.ceu_isa.specs.Layout.{slots_at, in_slots}
use Rattle.ceu_isa.specs.Effects.{provided}
use Rattle.ceu_isa.specs.Cells.{pushed, has_values}
use Rattle.ceu_isa.specs.Pools.{Life, Unclear, Over, Lives, life_of, told}
use Rattle.ceu_isa.specs.Rows.{effect}
use Rattle.ceu_isa.specs.Slots.{load_at}
use Rattle.ceu_shape.specs.Pieces.{Draft, both, text, placed}
use Rattle.ceu_shape.specs.Words.{plain, load}
use Rattle.ceu_shape.specs.Expressions.{two_draft, operator_ty, node_draft, operand_draft}
use Rattle.ceu_tree.specs.declared.kernel.Loc.{Loc}
use Rattle.ceu_tree.specs.declared.kernel.KExpNode.{KExpNode, Row_of-KExp, end_of-KExp, more_of-KExp, Const, Read, Alive, One', Two', As'}
use Rattle.ceu_tree.specs.Depth.{node_depth, operand_depth}
use Rattle.ceu_tree.specs.Expressions.{Answer, number_in, names_living, at, decides, and_then, node_value, operand_value, value_of}
use Rattle.ceu_tree.specs.Residual.{Body}
use Rattle.ceu_tree.specs.Typing.{same_ty, operand_ty, operand_open, fits1, fits2, node_typed, operand_typed}
use Rattle.ceu_tree.specs.World.{World, look, place_of}
use Rattle.laws_meaning_values.specs.Results.{NodeReads, OperandReads, IsResult}
use Rattle.laws_meaning_values.proofs.Operators.{and_left, and_right, bool_is, same_is}
use Rattle.laws_meaning_values.proofs.Results.{operand_result}
use Rattle.laws_machine_code.specs.Seen.{SaysAlive, VariableSeen, NodeSeen, OperandSeen, NodePlaced, OperandPlaced, OperatorPlaced}
use Rattle.laws_machine_code.specs.Laws.{ExpressionsEvaluate}
use Rattle.laws_machine_code.proofs.Runs.{Runs, run_one, run_prefix, run_convert, run_binary, run_and, run_or}
use Rattle.laws_machine_code.proofs.Steps.{kept_itself}
use Rattle.laws_machine_code.proofs.Works.{bool_some, works, works1}

not_none : (t : Ty) → not (same_ty t ty.None) ≡ true → t ≢ ty.None
not_none t h e = absurd (let z : not (same_ty ty.None ty.None) ≡ true = subst (λ (u : Ty). not (same_ty u ty.None) ≡ true) e h in cc)

has_some : (t : Ty) → t ≢ ty.None → has_values t ≡ true
has_some ty.None h = absurd (h refl)
has_some ty.Bool h = refl
has_some ty.U8 h = refl
has_some ty.S8 h = refl
has_some ty.U16 h = refl
has_some ty.S16 h = refl
has_some ty.U32 h = refl
has_some ty.S32 h = refl
has_some ty.U64 h = refl
has_some ty.S64 h = refl

truth : (t a b : Ty) → (is_bool t && is_bool a && is_bool b) ≡ true → t ≢ ty.None
truth t a b h = bool_some t (bool_is t (and_left (is_bool t) (is_bool a) (and_left (is_bool t && is_bool a) (is_bool b) h)))

test : (t : Ty) (rest : Bool) → (is_bool t && rest) ≡ true → t ≢ ty.None
test t rest h = bool_some t (bool_is t (and_left (is_bool t) rest h))

-- the result of a binary operator isn't of type none
two_some : (op : Op2) (p q : Bool) (t a b : Ty) → fits2 op p q t a b ≡ true → t ≢ ty.None
two_some op2.And p q t a b h = truth t a b h
two_some op2.Or p q t a b h = truth t a b h
two_some op2.Eq p q t a b h = test t _ h
two_some op2.Ne p q t a b h = test t _ h
two_some op2.Lt p q t a b h = test t _ h
two_some op2.Gt p q t a b h = test t _ h
two_some op2.Le p q t a b h = test t _ h
two_some op2.Ge p q t a b h = test t _ h
two_some op p q t a b h = (works op p q t a b h (λ e. cc) (λ e. cc)).some_type

module _ (image : Image) (labels offset : ℕ → ℕ) (number : Pos → ℕ) (body : Body) (w : World) (reads : Loc → Bool) (asks : ℕ → Bool) (frame : ℕ) where
  deeper : (d : Draft) (seen : List ℕ → Type 0) (m n : ℕ) (a : Answer) → m ≤ n → Runs image labels number frame d seen m a → Runs image labels number frame d seen n a
  deeper d seen m n a le run fresh r bytes f fits sees there room = run fresh r bytes f fits sees there (omega arith)

  -- ---- leaves

  const_runs : (t : Ty) (v : ℤ) (seen : List ℕ → Type 0) → Runs image labels number frame (text (plain (instr.Push t v) ∷ [])) seen 1 (Ok v)
  unfolding effect
  const_runs t v seen = run_one image labels number frame (instr.Push t v) seen v refl (λ r bytes f s. refl)

  load_is : (t : Ty) (v : ℤ) (place : ℕ) (r : Registers) (bytes : List ℕ) → in_slots image place (size t) ≡ true → value_at t bytes place ≡ v → IsValue t v → load_at image t place r bytes ≡ pushed image v r bytes
  load_is t v place r bytes lies is ok =
      ap (λ (b : Bool). provided (b && is_value t (value_at t bytes place)) (pushed image (value_at t bytes place) r bytes)) lies
      ∙ ap (λ (x : ℤ). provided (is_value t x) (pushed image x r bytes)) is ∙ ap (λ (b : Bool). provided b (pushed image v r bytes)) ok

  read_runs : (l : Loc) → Runs image labels number frame (text (load offset l ∷ [])) (λ bs. VariableSeen image offset frame body w bs l) 1 (Ok (number_in (look (place_of l body) l.slot w.values)))
  unfolding effect
  read_runs l = go l.outer refl
    where
      v : ℤ
      v = number_in (look (place_of l body) l.slot w.values)

      go : (b : Bool) → l.outer ≡ b → Runs image labels number frame (text (plain (if l.outer then instr.LoadOuter l.ty (offset l.slot) else instr.Load l.ty (offset l.slot)) ∷ [])) (λ bs. VariableSeen image offset frame body w bs l) 1 (Ok (number_in (look (place_of l body) l.slot w.values)))
      go true e = subst (λ (i : Instr). Runs image labels number frame (text (plain i ∷ [])) (λ bs. VariableSeen image offset frame body w bs l) 1 (Ok (number_in (look (place_of l body) l.slot w.values)))) (sym (ap (λ (c : Bool). if c then instr.LoadOuter l.ty (offset l.slot) else instr.Load l.ty (offset l.slot)) e))
          (run_one image labels number frame (instr.LoadOuter l.ty (offset l.slot)) (λ bs. VariableSeen image offset frame body w bs l) (number_in (look (place_of l body) l.slot w.values)) refl
          (λ r bytes f s.
          let here : (if l.outer then slots_at image else frame) + offset l.slot ≡ slots_at image + offset l.slot = ap (λ (c : Bool). (if c then slots_at image else frame) + offset l.slot) e in
          load_is l.ty (number_in (look (place_of l body) l.slot w.values)) (slots_at image + offset l.slot) r bytes (ap (λ (k : ℕ). in_slots image k (size l.ty)) (sym here) ∙ s.lies) (ap (value_at l.ty bytes) (sym here) ∙ s.seen) s.is_value))
      go false e = subst (λ (i : Instr). Runs image labels number frame (text (plain i ∷ [])) (λ bs. VariableSeen image offset frame body w bs l) 1 (Ok (number_in (look (place_of l body) l.slot w.values)))) (sym (ap (λ (c : Bool). if c then instr.LoadOuter l.ty (offset l.slot) else instr.Load l.ty (offset l.slot)) e))
          (run_one image labels number frame (instr.Load l.ty (offset l.slot)) (λ bs. VariableSeen image offset frame body w bs l) (number_in (look (place_of l body) l.slot w.values)) refl
          (λ r bytes f s.
          let here : (if l.outer then slots_at image else frame) + offset l.slot ≡ r.frame + offset l.slot = ap (λ (c : Bool). (if c then slots_at image else frame) + offset l.slot) e ∙ ap (λ (k : ℕ). k + offset l.slot) (sym f) in
          load_is l.ty (number_in (look (place_of l body) l.slot w.values)) (r.frame + offset l.slot) r bytes (ap (λ (k : ℕ). in_slots image k (size l.ty)) (sym here) ∙ s.lies) (ap (value_at l.ty bytes) (sym here) ∙ s.seen) s.is_value))

  told_is : (life : Life) (alive : Bool) (r : Registers) (bytes : List ℕ) → SaysAlive life alive → told image life r bytes ≡ pushed image (of_test alive) r bytes
  told_is Unclear alive r bytes h = absurd h
  told_is Over alive r bytes h = ap (λ (b : Bool). pushed image (of_test b) r bytes) (sym h)
  told_is (Lives place from count) alive r bytes h = ap (λ (b : Bool). pushed image (of_test b) r bytes) (sym h)

  alive_runs : (c : ℕ) → Runs image labels number frame (text (plain (instr.Alive (offset c)) ∷ [])) (λ bs. SaysAlive (life_of image bs (frame + offset c)) (names_living (look body c w.values) w.living)) 1 (Ok (of_test (names_living (look body c w.values) w.living)))
  unfolding effect
  alive_runs c = run_one image labels number frame (instr.Alive (offset c)) (λ bs. SaysAlive (life_of image bs (frame + offset c)) (names_living (look body c w.values) w.living)) (of_test (names_living (look body c w.values) w.living)) refl
      (λ r bytes f s.
      ap (λ (k : ℕ). told image (life_of image bytes (k + offset c)) r bytes) f ∙ told_is (life_of image bytes (frame + offset c)) (names_living (look body c w.values) w.living) r bytes s)

  -- ---- binary operators

  two_runs : (op : Op2) (x y : Bool) (t a b : Ty) (p : Pos) (d e : Draft) (left right : List ℕ → Type 0) (m n : ℕ) (u v : Answer) → fits2 op x y t a b ≡ true → 1 ≤ m → 1 ≤ n → IsResult a u → IsResult b v
      → OperatorPlaced image number op p → Runs image labels number frame d left m u → Runs image labels number frame e right n v
      → Runs image labels number frame (two_draft op t a b p d e) (λ bs. left bs × right bs) (max m (1 + n)) (and_then u (λ i. if decides op i then Ok i else and_then v (λ j. at p (applied2 op t i j))))
  two_runs op2.And x y t a b p d e left right m n u v h some more ra rb place rd re =
      let ab = and_left (is_bool t && is_bool a) (is_bool b) h in
      run_and image labels number frame t p d e left right m n u v some (subst (λ (z : Ty). IsResult z u) (bool_is a (and_right (is_bool t) (is_bool a) ab)) ra) (subst (λ (z : Ty). IsResult z v) (bool_is b (and_right (is_bool t && is_bool a) (is_bool b) h)) rb) rd re
  two_runs op2.Or x y t a b p d e left right m n u v h some more ra rb place rd re =
      let ab = and_left (is_bool t && is_bool a) (is_bool b) h in
      run_or image labels number frame t p d e left right m n u v some (subst (λ (z : Ty). IsResult z u) (bool_is a (and_right (is_bool t) (is_bool a) ab)) ra) (subst (λ (z : Ty). IsResult z v) (bool_is b (and_right (is_bool t && is_bool a) (is_bool b) h)) rb) rd re
  two_runs op x y t a b p d e left right m n u v h some more ra rb place rd re =
      run_binary image labels number frame op t a b (operator_ty op t a b) p d e left right m n u v (works op x y t a b h (λ z. cc) (λ z. cc)) more ra rb place rd re

  -- ---- all expressions

  mutual
    unfolding node_typed node_depth

    depth_some : (e : KExpNode) (t : Ty) → node_typed reads asks e t ≡ true → 1 ≤ node_depth e
    depth_some (Const v) t h = omega arith
    depth_some (Read l) t h = omega arith
    depth_some (Alive c) t h = omega arith
    depth_some (One' op _ a) t h = operand_some a (and_left (operand_typed reads asks a) (fits1 op t (operand_ty a)) h)
    depth_some (Two' op _ a _ b) t h = omega arith
    depth_some (As' _ a) t h = operand_some a (and_left (operand_typed reads asks a) (not (same_ty t ty.None)) (and_left (operand_typed reads asks a && not (same_ty t ty.None)) (not (operand_open a) || same_ty (operand_ty a) ty.S32) h))

    operand_some : {n : _} (a : Row_of-KExp n) → operand_typed reads asks a ≡ true → 1 ≤ operand_depth a
    operand_some end_of-KExp h = absurd (cc)
    operand_some (more_of-KExp t p e rest) h = depth_some e t h

  -- an expression that is seen isn't of type none
  type_some : (bytes : List ℕ) (e : KExpNode) (t : Ty) → node_typed reads asks e t ≡ true → NodeSeen image offset frame body w bytes e → t ≢ ty.None
  unfolding node_typed NodeSeen
  type_some bytes (Const v) t h s = not_none t (and_left (not (same_ty t ty.None)) (is_value t v) h)
  type_some bytes (Read l) t h s = subst (λ (u : Ty). u ≢ ty.None) (same_is l.ty t (and_left (same_ty l.ty t) (reads l) h)) s.some_type
  type_some bytes (Alive c) t h s = bool_some t (bool_is t (and_left (is_bool t) (asks c) h))
  type_some bytes (One' op _ a) t h s = (works1 op t (operand_ty a) (and_right (operand_typed reads asks a) (fits1 op t (operand_ty a)) h)).some_type
  type_some bytes (Two' op _ a _ b) t h s = two_some op (operand_open a) (operand_open b) t (operand_ty a) (operand_ty b) (and_right (operand_typed reads asks a && operand_typed reads asks b) (fits2 op (operand_open a) (operand_open b) t (operand_ty a) (operand_ty b)) h)
  type_some bytes (As' _ a) t h s = not_none t (and_right (operand_typed reads asks a) (not (same_ty t ty.None)) (and_left (operand_typed reads asks a && not (same_ty t ty.None)) (not (operand_open a) || same_ty (operand_ty a) ty.S32) h))

  operand_type_some : (bytes : List ℕ) {n : _} (a : Row_of-KExp n) → operand_typed reads asks a ≡ true → OperandSeen image offset frame body w bytes a → operand_ty a ≢ ty.None
  unfolding node_typed NodeSeen
  operand_type_some bytes end_of-KExp h s = absurd (cc)
  operand_type_some bytes (more_of-KExp t p e rest) h s = type_some bytes e t h s

  mutual
    unfolding NodeSeen NodeReads

    seen_reads : (bytes : List ℕ) (e : KExpNode) → NodeSeen image offset frame body w bytes e → NodeReads body w e
    seen_reads bytes (Const v) s = tt
    seen_reads bytes (Read l) s = s.is_value
    seen_reads bytes (Alive c) s = tt
    seen_reads bytes (One' op _ a) s = seen_operand bytes a s
    seen_reads bytes (Two' op _ a _ b) s = (seen_operand bytes a s.0, seen_operand bytes b s.1)
    seen_reads bytes (As' _ a) s = seen_operand bytes a s

    seen_operand : (bytes : List ℕ) {n : _} (a : Row_of-KExp n) → OperandSeen image offset frame body w bytes a → OperandReads body w a
    seen_operand bytes end_of-KExp s = tt
    seen_operand bytes (more_of-KExp t p e rest) s = seen_reads bytes e s

  -- `now` is some memory in which the expression is seen
  mutual
    unfolding node_draft node_value node_typed node_depth NodeSeen NodePlaced

    node_runs : (now : List ℕ) (e : KExpNode) (t : Ty) (p : Pos) → node_typed reads asks e t ≡ true → NodeSeen image offset frame body w now e → NodePlaced image number e p
        → Runs image labels number frame (node_draft offset e t p) (λ bs. NodeSeen image offset frame body w bs e) (node_depth e) (node_value e t p body w)
    node_runs now (Const v) t p h s places = const_runs t v (λ bs. Unit {0})
    node_runs now (Read l) t p h s places = read_runs l
    node_runs now (Alive c) t p h s places = alive_runs c
    node_runs now (One' op x a) t p h s places =
        let typed = and_left (operand_typed reads asks a) (fits1 op t (operand_ty a)) h in
        let fits = and_right (operand_typed reads asks a) (fits1 op t (operand_ty a)) h in
        let some = operand_some a typed in
        deeper (both (operand_draft offset a) (placed p (λ n. plain (instr.Prefix op t n) ∷ []))) (λ bs. OperandSeen image offset frame body w bs a) (max (operand_depth a) 1) (operand_depth a) (and_then (operand_value a body w) (λ v. at p (applied1 op t v))) (omega arith)
        (run_prefix image labels number frame op t (operand_ty a) p (operand_draft offset a) (λ bs. OperandSeen image offset frame body w bs a) (operand_depth a) (operand_value a body w) (works1 op t (operand_ty a) fits)
        (operand_result reads asks body w a typed (seen_operand now a s)) places.1 (operand_runs now a typed s places.0))
    node_runs now (Two' op x a y b) t p h s places =
        let both_typed = and_left (operand_typed reads asks a && operand_typed reads asks b) (fits2 op (operand_open a) (operand_open b) t (operand_ty a) (operand_ty b)) h in
        let fits = and_right (operand_typed reads asks a && operand_typed reads asks b) (fits2 op (operand_open a) (operand_open b) t (operand_ty a) (operand_ty b)) h in
        let typed_a = and_left (operand_typed reads asks a) (operand_typed reads asks b) both_typed in
        let typed_b = and_right (operand_typed reads asks a) (operand_typed reads asks b) both_typed in
        two_runs op (operand_open a) (operand_open b) t (operand_ty a) (operand_ty b) p (operand_draft offset a) (operand_draft offset b) (λ bs. OperandSeen image offset frame body w bs a) (λ bs. OperandSeen image offset frame body w bs b)
        (operand_depth a) (operand_depth b) (operand_value a body w) (operand_value b body w) fits (operand_some a typed_a) (operand_some b typed_b)
        (operand_result reads asks body w a typed_a (seen_operand now a s.0)) (operand_result reads asks body w b typed_b (seen_operand now b s.1)) places.2
        (operand_runs now a typed_a s.0 places.0) (operand_runs now b typed_b s.1 places.1)
    node_runs now (As' x a) t p h s places =
        let front = and_left (operand_typed reads asks a && not (same_ty t ty.None)) (not (operand_open a) || same_ty (operand_ty a) ty.S32) h in
        let typed = and_left (operand_typed reads asks a) (not (same_ty t ty.None)) front in
        let some = operand_some a typed in
        deeper (both (operand_draft offset a) (text (plain (instr.Convert (operand_ty a) t) ∷ []))) (λ bs. OperandSeen image offset frame body w bs a) (max (operand_depth a) 1) (operand_depth a) (and_then (operand_value a body w) (λ v. Ok (wrapped t v))) (omega arith)
        (run_convert image labels number frame (operand_ty a) t (operand_draft offset a) (λ bs. OperandSeen image offset frame body w bs a) (operand_depth a) (operand_value a body w) (operand_type_some now a typed s)
        (has_some t (not_none t (and_right (operand_typed reads asks a) (not (same_ty t ty.None)) front)))
        (operand_result reads asks body w a typed (seen_operand now a s)) (operand_runs now a typed s places))

    operand_runs : (now : List ℕ) {n : _} (a : Row_of-KExp n) → operand_typed reads asks a ≡ true → OperandSeen image offset frame body w now a → OperandPlaced image number a
        → Runs image labels number frame (operand_draft offset a) (λ bs. OperandSeen image offset frame body w bs a) (operand_depth a) (operand_value a body w)
    operand_runs now end_of-KExp h s places = absurd (cc)
    operand_runs now (more_of-KExp t p e rest) h s places = node_runs now e t p h s places

pub expressions_evaluate : ExpressionsEvaluate
unfolding value_of
expressions_evaluate image labels offset number body w reads asks e fresh r bytes h fits sees places there room =
    node_runs image labels offset number body w reads asks r.frame bytes e.node e.ty e.pos h (sees bytes (kept_itself image 0 bytes)) places fresh r bytes refl fits sees there room
