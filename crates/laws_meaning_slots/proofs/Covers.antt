-- Each slot that is seen from a place is open around it.
use Rattle.std.proofs.Common.{◌≡◌, refl, sym, ap, ◌∙◌, subst, ◌≤◌, ℕ, ◌+◌, Bool, true, false, if◌then◌else◌, ◌==◌, ◌⊎◌, inl, inr, List, [], ◌∷◌, Option, Some, None, arith}
use Rattle.std.proofs.lemmas.Bool.{and_from, false≢true}
use Rattle.ceu_base.specs.declared.kinds.Ty.{Ty}
use Rattle.ceu_base.specs.declared.kinds.Ty.TheVariants as ty
use Rattle.ceu_tree.specs.declared.kernel.Kernel.{Kernel}
use Rattle.ceu_tree.specs.declared.kernel.KCode.{KCode}
use Rattle.ceu_tree.specs.declared.kernel.KDecl.{KDecl}
use Rattle.ceu_tree.specs.declared.kernel.KKind.{KKind}
use Rattle.ceu_tree.specs.declared.kernel.KKind.TheVariants as kind
use Rattle.ceu_tree.specs.declared.kernel.KLoop.{KLoop}
use Rattle.ceu_tree.specs.declared.kernel.KLoop.TheVariants as turns
use Rattle.ceu_tree.specs.declared.kernel.Loc.{Loc}
use Rattle.ceu_tree.specs.declared.kernel.KBlock.{KBlock, out-KBlock}
use Rattle.ceu_tree.specs.declared.kernel.KStmt.{out-KStmt}
use Rattle.ceu_tree.specs.declared.kernel.KStmt.TheOpen.{KStmt-F}
use Rattle.ceu_tree.specs.Residual.{Body, Program, Awaited, Spawned}
use Rattle.ceu_tree.specs.Focus.{Frame, body_in}
use Rattle.ceu_tree.specs.World.{Cell, Holds, NotSet, Names, Held, place_of}
use Rattle.ceu_tree.specs.Leaf.{Layer, code_at}
use Rattle.ceu_tree.specs.Legal.{lies, called_code}
use Rattle.ceu_tree.specs.Proper.{SlotKind, IsVariable, IsLoopVariable, IsPool, IsAlias, Seen, Scope, find, slot_kind, declared_seen, variable_ty, has_ty, is_in_code, is_alias, alias_takes, reads}
use Rattle.laws_meaning_basics.specs.Shape.{Part, ABlock, AStatement, AnEnd, block_scope, part_scope, turn_scope, code_scope, opens_part, FrameFits, around_statement, around_end, around_instance, around_part, around_turn, around_call, around_branch, Around, nothing_around, one_around}
use Rattle.laws_meaning_values.proofs.Stores.{same_self}
use Rattle.ceu_tree.specs.Focus.{Focus, In, body_of}
use Rattle.laws_meaning_slots.specs.Held.{is_of_kind}
use Rattle.laws_meaning_slots.proofs.Slots.{once, at_room, decls_room, turns_room, layer_room, code_room, frame_room, focus_room}
use Rattle.laws_meaning_slots.proofs.Values.{held}

some_is : {A : Type 0} (a b : A) → Some a ≡ Some b → a ≡ b
some_is a b e = ap (λ o. elim o [ None ↦ a | Some x ↦ x ]) e

module _ (K : Kernel) (g : ℕ) where
  -- whether a cell is of the kind as which its slot is seen
  abbrev pub slot_is : SlotKind → Cell → Bool
  slot_is (IsVariable t) (Holds v) = true
  slot_is IsLoopVariable (Holds v) = true
  slot_is (IsAlias c ps) NotSet = true
  slot_is (IsAlias c ps) (Names k) = lies 1 g k
  slot_is k c = false

  -- what is seen in a body, and the variables of the program, are among the slots that c counts
  abbrev pub Own : (Held → ℕ) → List Seen → Body → Type 0
  Own c seen body = (slot : ℕ) (k : SlotKind) (cell : Cell) → find slot seen ≡ Some k → slot_is k cell ≡ true → 1 ≤ c (held body slot cell)

  abbrev pub program_seen : List Seen
  program_seen = declared_seen [] (out-KBlock K.body).decls []

  abbrev pub Outer : (Held → ℕ) → Type 0
  Outer c = Own c program_seen Program

  abbrev pub Covers : (Held → ℕ) → Part → Body → Type 0
  Covers c (ABlock turn sc b) body = Own c sc.seen body × (Outer c ⊎ ((b ≡ K.body) × (body ≡ Program)))
  Covers c (AStatement sc s) body = Own c sc.seen body × Outer c
  Covers c AnEnd body = Unit {0}

  pub own_more : (c d : Held → ℕ) (seen : List Seen) (body : Body) → ((h : Held) → 1 ≤ c h → 1 ≤ d h) → Own c seen body → Own d seen body
  own_more c d seen body f o slot k cell e i = f (held body slot cell) (o slot k cell e i)

  pub covers_more : (c d : Held → ℕ) (p : Part) (body : Body) → ((h : Held) → 1 ≤ c h → 1 ≤ d h) → Covers c p body → Covers d p body
  covers_more c d (ABlock turn sc b) body f o = (own_more c d sc.seen body f o.0, outer o.1)
    where
      outer : Outer c ⊎ ((b ≡ K.body) × (body ≡ Program)) → Outer d ⊎ ((b ≡ K.body) × (body ≡ Program))
      outer (inl x) = inl (own_more c d program_seen Program f x)
      outer (inr x) = inr x
  covers_more c d (AStatement sc s) body f o = (own_more c d sc.seen body f o.0, own_more c d program_seen Program f o.1)
  covers_more c d AnEnd body f o = tt

  -- ---- declarations

  pub kind_same : (pools : List ℕ) (k : KKind) (cell : Cell) → slot_is (slot_kind pools k) cell ≡ is_of_kind g k cell
  kind_same pools (kind.Var t) (Holds v) = refl
  kind_same pools (kind.Var t) NotSet = refl
  kind_same pools (kind.Var t) (Names n) = refl
  kind_same pools (kind.Alias c) (Holds v) = refl
  kind_same pools (kind.Alias c) NotSet = refl
  kind_same pools (kind.Alias c) (Names n) = refl
  kind_same pools (kind.Pool n c) (Holds v) = refl
  kind_same pools (kind.Pool n c) NotSet = refl
  kind_same pools (kind.Pool n c) (Names m) = refl

  pub at_one : (body : Body) (i slot : ℕ) (k : KKind) (cell : Cell) → (i == slot) ≡ true → is_of_kind g k cell ≡ true
      → at_room K.codes g (held body slot cell) body i k ≡ 1
  at_one body i slot k cell e f = ap once (and_from _ (is_of_kind g k cell) (and_from (i == slot) _ e (same_self body)) f)

  pub declared_own : (pools : List ℕ) (ds : List KDecl) (seen : List Seen) (body : Body) (c : Held → ℕ) → Own c seen body
      → Own (λ h. decls_room K.codes g h body ds + c h) (declared_seen pools ds seen) body
  declared_own pools [] seen body c o slot k cell e i = let a = o slot k cell e i in omega (arith, a)
  declared_own pools (d ∷ ds) seen body c o slot k cell e i = go (d.slot == slot) refl e (λ f. declared_own pools ds seen body c o slot k cell f i)
    where
      go : (b : Bool) → (d.slot == slot) ≡ b → (if b then Some (slot_kind pools d.kind) else find slot (declared_seen pools ds seen)) ≡ Some k
          → (find slot (declared_seen pools ds seen) ≡ Some k → 1 ≤ decls_room K.codes g (held body slot cell) body ds + c (held body slot cell))
          → 1 ≤ at_room K.codes g (held body slot cell) body d.slot d.kind + decls_room K.codes g (held body slot cell) body ds + c (held body slot cell)
      go true q f ih =
          let a = at_one body d.slot slot d.kind cell q (sym (kind_same pools d.kind cell) ∙ ap (λ x. slot_is x cell) (some_is (slot_kind pools d.kind) k f) ∙ i) in omega (arith, a)
      go false q f ih = let a = ih f in omega (arith, a)

  none_own : (body : Body) → Own (λ h. 0) [] body
  none_own body slot k cell e i = absurd (cc)

  -- the program's own variables, inside its block
  pub outer_inside : (b : KBlock) (body : Body) (c : Held → ℕ) → Outer c ⊎ ((b ≡ K.body) × (body ≡ Program))
      → Outer (λ h. decls_room K.codes g h body (out-KBlock b).decls + c h)
  outer_inside b body c (inl o) = own_more c (λ h. decls_room K.codes g h body (out-KBlock b).decls + c h) program_seen Program (λ h l. omega (arith, l)) o
  outer_inside b body c (inr p) =
      let a = declared_own [] (out-KBlock K.body).decls [] Program (λ h. 0) (none_own Program) in
      let d = own_more (λ h. decls_room K.codes g h Program (out-KBlock K.body).decls + 0) (λ h. decls_room K.codes g h Program (out-KBlock K.body).decls + c h) program_seen Program (λ h l. omega (arith, l)) a in
      subst (λ x. Outer (λ h. decls_room K.codes g h body (out-KBlock x).decls + c h)) (sym p.0) (subst (λ x. Outer (λ h. decls_room K.codes g h x (out-KBlock K.body).decls + c h)) (sym p.1) d)

  pub code_own : (i : ℕ) (k : KCode) (body : Body) → code_at i K.codes ≡ Some k
      → Own (λ h. code_room K.codes g h body (code_at i K.codes)) (code_scope K i k).seen body
  code_own i k body e =
      subst (λ o. Own (λ h. code_room K.codes g h body o) (code_scope K i k).seen body) (sym e)
      (own_more (λ h. decls_room K.codes g h body k.params + 0) (λ h. decls_room K.codes g h body k.params) (code_scope K i k).seen body (λ h l. omega (arith, l)) (declared_own _ k.params [] body (λ h. 0) (none_own body)))

  -- ---- the parts of statements

  part_own : (sc : Scope) (n : ℕ) (layer : Layer) (b : KBlock) (body : Body) (c : Held → ℕ) → opens_part layer b → Own c sc.seen body
      → Own c (part_scope K sc n layer).seen body
  part_own sc n (KStmt-F.Do t d) b body c p o = o
  part_own sc n (KStmt-F.If arms last) b body c p o = o
  part_own sc n layer b body c p o = elim p [ ]

  turns_own : (sc : Scope) (n : ℕ) (k : KLoop) (body : Body) (c : Held → ℕ) → Own c sc.seen body
      → Own (λ h. turns_room K.codes g h body k + c h) (turn_scope K sc n k).seen body
  turns_own sc n turns.Free body c o = own_more c (λ h. 0 + c h) sc.seen body (λ h l. omega (arith, l)) o
  turns_own sc n (turns.Times slot m) body c o = own_more c (λ h. 0 + c h) sc.seen body (λ h l. omega (arith, l)) o
  turns_own sc n (turns.Range i next end open_a x y open_b) body c o = λ slot k cell e f. counted slot k cell f (i == slot) refl e
    where
      counts : (cell : Cell) → slot_is IsLoopVariable cell ≡ true → is_of_kind g (kind.Var ty.S32) cell ≡ true
      counts (Holds v) q = q
      counts NotSet q = absurd (false≢true q)
      counts (Names m) q = absurd (false≢true q)

      counted : (slot : ℕ) (k : SlotKind) (cell : Cell) → slot_is k cell ≡ true → (b : Bool) → (i == slot) ≡ b
          → (if b then Some IsLoopVariable else find slot sc.seen) ≡ Some k
          → 1 ≤ at_room K.codes g (held body slot cell) body i (kind.Var ty.S32) + c (held body slot cell)
      counted slot k cell f true q z = let a = at_one body i slot (kind.Var ty.S32) cell q (counts cell (ap (λ x. slot_is x cell) (some_is IsLoopVariable k z) ∙ f)) in omega (arith, a)
      counted slot k cell f false q z = let a = o slot k cell z f in omega (arith, a)

  pub block_own : (sc : Scope) (b : KBlock) (body : Body) (c : Held → ℕ) → Own c sc.seen body
      → Own (λ h. decls_room K.codes g h body (out-KBlock b).decls + c h) (block_scope sc b).seen body
  block_own sc b body c o = declared_own _ (out-KBlock b).decls sc.seen body c o

  -- ---- frames

  pub frame_covers : {t : ℕ} {fr : Frame} {d e : Part} → FrameFits K t fr d e → (c : Held → ℕ) (body : Body) → Covers c d body
      → Covers (λ h. frame_room K.codes g h fr body + c h) e (body_in fr body)
  frame_covers {fr = fr} (around_statement {sc = sc} {b = b} done e f fit) c body o = (
    own_more (λ h. decls_room K.codes g h body (out-KBlock b).decls + c h) (λ h. frame_room K.codes g h fr body + c h) (block_scope sc b).seen body (λ h l. omega (arith, l)) (block_own sc b body c o.0),
    own_more (λ h. decls_room K.codes g h body (out-KBlock b).decls + c h) (λ h. frame_room K.codes g h fr body + c h) program_seen Program (λ h l. omega (arith, l)) (outer_inside b body c o.1),
  )
  frame_covers (around_end f fit) c body o = tt
  frame_covers {fr = fr} (around_instance {b = b} {seat = seat} done k e f r x y p q) c body o = (
    own_more (λ h. code_room K.codes g h (Spawned seat.number) (code_at seat.code K.codes)) (λ h. frame_room K.codes g h fr body + c h) (code_scope K seat.code k).seen (Spawned seat.number) (λ h l. omega (arith, l)) (code_own seat.code k (Spawned seat.number) q),
    inl (own_more (λ h. decls_room K.codes g h body (out-KBlock b).decls + c h) (λ h. frame_room K.codes g h fr body + c h) program_seen Program (λ h l. omega (arith, l)) (outer_inside b body c o.1)),
  )
  frame_covers (around_part {sc = sc} {s = s} b p) c body o =
      (own_more c (λ h. 0 + c h) (part_scope K sc s.node (out-KStmt s.stmt)).seen body (λ h l. omega (arith, l)) (part_own sc s.node (out-KStmt s.stmt) b body c p o.0), inl (own_more c (λ h. 0 + c h) program_seen Program (λ h l. omega (arith, l)) o.1))
  frame_covers {fr = fr} (around_turn {sc = sc} {s = s} k b e q) c body o = (
    subst (λ l. Own (λ h. layer_room K.codes g h body l + c h) (turn_scope K sc s.node k).seen body) (sym e) (turns_own sc s.node k body c o.0),
    inl (own_more c (λ h. frame_room K.codes g h fr body + c h) program_seen Program (λ h l. omega (arith, l)) o.1),
  )
  frame_covers {fr = fr} (around_call {s = s} i es f t k e q) c body o = (
    own_more (λ h. code_room K.codes g h (Awaited body s.node) (called_code K.codes (out-KStmt s.stmt))) (λ h. frame_room K.codes g h fr body + c h) (code_scope K i k).seen (Awaited body s.node) (λ h l. omega (arith, l))
        (subst (λ l. Own (λ h. code_room K.codes g h (Awaited body s.node) (called_code K.codes l)) (code_scope K i k).seen (Awaited body s.node)) (sym e) (code_own i k (Awaited body s.node) q)),
    inl (own_more c (λ h. frame_room K.codes g h fr body + c h) program_seen Program (λ h l. omega (arith, l)) o.1),
  )
  frame_covers {fr = fr} (around_branch {sc = sc} k slot bs b cs e x y) c body o =
      (own_more c (λ h. frame_room K.codes g h fr body + c h) sc.seen body (λ h l. omega (arith, l)) o.0, inl (own_more c (λ h. frame_room K.codes g h fr body + c h) program_seen Program (λ h l. omega (arith, l)) o.1))

  pub around_covers : {A : Type 0} {t : ℕ} {f : Focus A} {d e : Part} → Around K t A f d e → (c : Held → ℕ) (body : Body) → Covers c d body
      → Covers (λ h. focus_room K.codes g h f body + c h) e (body_of f body)
  unfolding focus_room
  around_covers {d = d} nothing_around c body o = covers_more c (λ h. 0 + c h) d body (λ h l. omega (arith, l)) o
  around_covers {f = In fr f} {e = e} (one_around a more) c body o =
      covers_more (λ h. focus_room K.codes g h f (body_in fr body) + (frame_room K.codes g h fr body + c h)) (λ h. frame_room K.codes g h fr body + focus_room K.codes g h f (body_in fr body) + c h) e (body_of f (body_in fr body)) (λ h l. omega (arith, l))
      (around_covers more (λ h. frame_room K.codes g h fr body + c h) (body_in fr body) (frame_covers a c body o))

  -- ---- variables and aliases that are named

  variable : (o : Option SlotKind) (t : Ty) (v : _) → has_ty (variable_ty o) t ≡ true → (k : SlotKind) × (o ≡ Some k) × (slot_is k (Holds v) ≡ true)
  variable None t v e = absurd (false≢true e)
  variable (Some (IsVariable u)) t v e = (IsVariable u, refl, refl)
  variable (Some IsLoopVariable) t v e = (IsLoopVariable, refl, refl)
  variable (Some (IsPool c)) t v e = absurd (false≢true e)
  variable (Some (IsAlias c ps)) t v e = absurd (false≢true e)

  pub loc_own : (sc : Scope) (l : Loc) (v : _) (body : Body) (c : Held → ℕ) → Own c sc.seen body → Outer c → reads K sc l ≡ true
      → 1 ≤ c (held (place_of l body) l.slot (Holds v))
  loc_own sc l v body c own outer e = go l.outer e
    where
      code : (b : Bool) → has_ty (variable_ty (if b then find l.slot program_seen else None)) l.ty ≡ true → 1 ≤ c (held Program l.slot (Holds v))
      code true e = let a = variable (find l.slot program_seen) l.ty v e in outer l.slot a.0 (Holds v) a.1 a.2
      code false e = absurd (false≢true e)

      go : (b : Bool) → has_ty (variable_ty (if b then (if is_in_code sc.code then find l.slot program_seen else None) else find l.slot sc.seen)) l.ty ≡ true
          → 1 ≤ c (held (if b then Program else body) l.slot (Holds v))
      go true e = code (is_in_code sc.code) e
      go false e = let a = variable (find l.slot sc.seen) l.ty v e in own l.slot a.0 (Holds v) a.1 a.2

  pub alias_own : (seen : List Seen) (slot : ℕ) (body : Body) (c : Held → ℕ) → Own c seen body → is_alias (find slot seen) ≡ true → 1 ≤ c (held body slot NotSet)
  alias_own seen slot body c own e = go (find slot seen) refl e
    where
      go : (o : Option SlotKind) → find slot seen ≡ o → is_alias o ≡ true → 1 ≤ c (held body slot NotSet)
      go None q e = absurd (false≢true e)
      go (Some (IsVariable t)) q e = absurd (false≢true e)
      go (Some IsLoopVariable) q e = absurd (false≢true e)
      go (Some (IsPool k)) q e = absurd (false≢true e)
      go (Some (IsAlias k ps)) q e = own slot (IsAlias k ps) NotSet q refl

  pub spawn_own : (seen : List Seen) (slot code pool : ℕ) (body : Body) (c : Held → ℕ) (cell : Cell) → Own c seen body
      → alias_takes code pool (find slot seen) ≡ true
      → ((k : ℕ) (ps : List ℕ) → slot_is (IsAlias k ps) cell ≡ true) → 1 ≤ c (held body slot cell)
  spawn_own seen slot code pool body c cell own e f = go (find slot seen) refl e
    where
      go : (o : Option SlotKind) → find slot seen ≡ o → alias_takes code pool o ≡ true → 1 ≤ c (held body slot cell)
      go None q e = absurd (false≢true e)
      go (Some (IsVariable t)) q e = absurd (false≢true e)
      go (Some IsLoopVariable) q e = absurd (false≢true e)
      go (Some (IsPool k)) q e = absurd (false≢true e)
      go (Some (IsAlias k ps)) q e = own slot (IsAlias k ps) cell q (f k ps)
