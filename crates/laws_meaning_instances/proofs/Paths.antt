-- Of the parts around the leaf that spawns, one has the spawn's pool.
use Rattle.std.proofs.Common.{◌≡◌, refl, sym, ap, ◌∙◌, subst, ◌<◌, ◌≤◌, ℕ, ◌+◌, Bool, true, false, if◌then◌else◌, ◌==◌, ◌&&◌, ◌||◌, ◌⊎◌, inl, inr, nat_lt, List, [], ◌∷◌, ◌++◌, length, Option, Some, None, arith, eqb-true, eq-eqb}
use Rattle.std.proofs.lemmas.Bool.{and_from, or_left, or_right, lt-ltb}
use Rattle.ceu_tree.specs.declared.kernel.Kernel.{Kernel}
use Rattle.ceu_tree.specs.declared.kernel.KDecl.{KDecl}
use Rattle.ceu_tree.specs.declared.kernel.KKind.{KKind}
use Rattle.ceu_tree.specs.declared.kernel.KKind.TheVariants as kind
use Rattle.ceu_tree.specs.declared.kernel.KLoop.{KLoop}
use Rattle.ceu_tree.specs.declared.kernel.KLoop.TheVariants as turns
use Rattle.ceu_tree.specs.declared.kernel.KBlock.{KBlock, out-KBlock}
use Rattle.ceu_tree.specs.declared.kernel.KStmt.{out-KStmt}
use Rattle.ceu_tree.specs.declared.kernel.KStmt.TheOpen.{KStmt-F}
use Rattle.ceu_tree.specs.Residual.{Act}
use Rattle.ceu_tree.specs.Focus.{Frame, OfBlock, OfInstance, OfOpen, OfLoop, OfCall, OfPar, Focus, In}
use Rattle.ceu_tree.specs.World.{is_among}
use Rattle.ceu_tree.specs.Numbering.{decl_slots, counts_from}
use Rattle.ceu_tree.specs.Leaf.{Layer}
use Rattle.ceu_tree.specs.Step.{size_in_decl, size_in}
use Rattle.ceu_tree.specs.Proper.{Scope, Seen, SlotKind, IsLoopVariable, IsPool, find, declared_seen, slot_kind, pool_slots, pools_seen, is_above, is_proper}
use Rattle.laws_meaning_basics.specs.Shape.{Part, ABlock, AStatement, AnEnd, part_scope, turn_scope, program_part, opens_part, FrameFits, around_statement, around_end, around_instance, around_part, around_turn, around_call, around_branch, Around, nothing_around, one_around}
use Rattle.laws_meaning_basics.proofs.Static.{names_of}
use Rattle.laws_meaning_basics.proofs.UpFits.{Sound, frame_sound}
use Rattle.laws_meaning_values.specs.Ground.{Ground, On}
use Rattle.laws_meaning_values.proofs.Counts.{Inner, counted_within}
use Rattle.laws_meaning_values.proofs.Grounds.{list_ground, inner_ground, part_ground, branch_ground, program_ground}
use Rattle.laws_meaning_values.proofs.FocusSpares.{decls_ground}
use Rattle.laws_meaning_instances.specs.Instances.{has_place}
use Rattle.laws_meaning_instances.proofs.Trees.{frame_stands, focus_stands}
use Rattle.laws_meaning_instances.proofs.Spawns.{DeclsHave, frame_without, frame_has, none_has, one_has, none_or_one}
use Rattle.laws_meaning_instances.proofs.Homes.{home_low, home_high, Beyond, own_beyond, code_beyond, code_home, at_says, instance_above, parameters_apart}

-- ---- declarations

sized_among : (x : ℕ) (ds : List KDecl) (n : ℕ) → size_in x ds ≡ Some n → is_among x (decl_slots ds) ≡ true
sized_among x [] n h = absurd (cc)
sized_among x (d ∷ ds) n h = go d.kind h (sized_among x ds n)
  where
    go : (k : KKind) → (elim (size_in_decl x d.slot k) [ Some m ↦ Some m | None ↦ size_in x ds ]) ≡ Some n → (size_in x ds ≡ Some n → is_among x (decl_slots ds) ≡ true) → ((x == d.slot) || is_among x (decl_slots ds)) ≡ true
    go (kind.Var t) e ih = or_right (x == d.slot) _ (ih e)
    go (kind.Alias c) e ih = or_right (x == d.slot) _ (ih e)
    go (kind.Pool m c) e ih = inner (d.slot == x) refl e
      where
        inner : (b : Bool) → (d.slot == x) ≡ b → (elim (if b then Some m else None) [ Some m ↦ Some m | None ↦ size_in x ds ]) ≡ Some n → ((x == d.slot) || is_among x (decl_slots ds)) ≡ true
        inner true q z = or_left (x == d.slot) (is_among x (decl_slots ds)) (eq-eqb x d.slot (sym (eqb-true d.slot x q)))
        inner false q z = or_right (x == d.slot) _ (ih z)

-- a pool that is seen behind declarations is one of them, or was seen before
find_declared : (x c : ℕ) (pools : List ℕ) (ds : List KDecl) (seen : List Seen) → find x (declared_seen pools ds seen) ≡ Some (IsPool c) → DeclsHave x c ds ⊎ ((size_in x ds ≡ None) × (find x seen ≡ Some (IsPool c)))
find_declared x c pools [] seen h = inr (refl, h)
find_declared x c pools (d ∷ ds) seen h = go (d.slot == x) refl h (find_declared x c pools ds seen)
  where
    here : (k : KKind) (n a : ℕ) → d.kind ≡ kind.Pool n a → a ≡ c → (d.slot == x) ≡ true → DeclsHave x c (d ∷ ds)
    here k n a e f q = record {
      size = n;
      sized = ap (λ j. elim (size_in_decl x d.slot j) [ Some m ↦ Some m | None ↦ size_in x ds ]) e ∙ ap (λ b. elim (if b then Some n else None) [ Some m ↦ Some m | None ↦ size_in x ds ]) q;
      place = λ seat p o l. or_left _ (has_place ds seat) (
          ap (λ j. elim j [ kind.Pool n c ↦ ((d.slot == seat.pool) && (c == seat.code) && nat_lt seat.place n) | _ ↦ false ]) e ∙
          and_from ((d.slot == seat.pool) && (a == seat.code)) (nat_lt seat.place n) (and_from (d.slot == seat.pool) (a == seat.code) (eq-eqb d.slot seat.pool (eqb-true d.slot x q ∙ sym p)) (eq-eqb a seat.code (f ∙ sym o))) (lt-ltb seat.place n l)
          );
    }

    kind_is : (k : KKind) → d.kind ≡ k → Some (slot_kind pools k) ≡ Some (IsPool c) → (d.slot == x) ≡ true → DeclsHave x c (d ∷ ds)
    kind_is (kind.Var t) e q s = absurd (cc)
    kind_is (kind.Alias a) e q s = absurd (cc)
    kind_is (kind.Pool n a) e q s = here (kind.Pool n a) n a e (ap (λ o. elim o [ None ↦ a | Some k ↦ elim k [ IsPool b ↦ b | _ ↦ a ] ]) q) s

    away : (k : KKind) → (d.slot == x) ≡ false → size_in_decl x d.slot k ≡ None
    away (kind.Var t) q = refl
    away (kind.Alias a) q = refl
    away (kind.Pool n a) q = ap (λ b. if b then Some n else None) q

    further : (d.slot == x) ≡ false → DeclsHave x c ds ⊎ ((size_in x ds ≡ None) × (find x seen ≡ Some (IsPool c))) → DeclsHave x c (d ∷ ds) ⊎ ((size_in x (d ∷ ds) ≡ None) × (find x seen ≡ Some (IsPool c)))
    further q (inl z) = inl (record { size = z.size; sized = ap (λ o. elim o [ Some m ↦ Some m | None ↦ size_in x ds ]) (away d.kind q) ∙ z.sized; place = λ seat p o l. or_right _ (has_place ds seat) (z.place seat p o l) })
    further q (inr z) = inr (ap (λ o. elim o [ Some m ↦ Some m | None ↦ size_in x ds ]) (away d.kind q) ∙ z.0, z.1)

    go : (b : Bool) → (d.slot == x) ≡ b → (if b then Some (slot_kind pools d.kind) else find x (declared_seen pools ds seen)) ≡ Some (IsPool c)
        → (find x (declared_seen pools ds seen) ≡ Some (IsPool c) → DeclsHave x c ds ⊎ ((size_in x ds ≡ None) × (find x seen ≡ Some (IsPool c)))) → DeclsHave x c (d ∷ ds) ⊎ ((size_in x (d ∷ ds) ≡ None) × (find x seen ≡ Some (IsPool c)))
    go true q e ih = inl (kind_is d.kind refl e q)
    go false q e ih = further q (ih e)

module _ (K : Kernel) (x : ℕ) where
  -- a slot that neither a part has nor code that is used in it
  pub record Gone (oc : Option ℕ) (g : Ground) : Type 0 where
    pub beside : (x < g.low) ⊎ (g.high ≤ x)
    pub beyond : Beyond K x oc

  abbrev pub PartGone : Part → Ground → Type 0
  PartGone (ABlock turn sc b) g = Gone sc.code g
  PartGone (AStatement sc s) g = Gone sc.code g
  PartGone AnEnd g = Unit {0}

  -- a part lies in its body
  pub record AtHome (oc : Option ℕ) (g : Ground) : Type 0 where
    pub from : home_low K oc ≤ g.low
    pub to : g.high ≤ home_high K oc

  abbrev pub PartHome : Part → Ground → Type 0
  PartHome (ABlock turn sc b) g = AtHome sc.code g
  PartHome (AStatement sc s) g = AtHome sc.code g
  PartHome AnEnd g = Unit {0}

  abbrev pub part_find : Part → Option SlotKind
  part_find (ABlock turn sc b) = find x sc.seen
  part_find (AStatement sc s) = find x sc.seen
  part_find AnEnd = None

  abbrev pub frame_declares : Frame → Type 0
  frame_declares (OfBlock b fin all rest) = is_among x (decl_slots (out-KBlock b).decls) ≡ true
  frame_declares fr = ⊥

  gone_inner : (oc : Option ℕ) (g h : Ground) → Inner h g → Gone oc g → Gone oc h
  gone_inner oc g h i p = record { beside = go p.beside; beyond = p.beyond }
    where
      go : (x < g.low) ⊎ (g.high ≤ x) → (x < h.low) ⊎ (h.high ≤ x)
      go (inl q) = inl (omega (arith, q, i.low))
      go (inr q) = inr (omega (arith, q, i.high))

  home_inner : (oc : Option ℕ) (g h : Ground) → Inner h g → AtHome oc g → AtHome oc h
  home_inner oc g h i p = record { from = omega (arith, p.from, i.low); to = omega (arith, p.to, i.high) }

  undeclared : (oc : Option ℕ) (ds : List KDecl) (g : Ground) → counts_from g.low (decl_slots ds) ≡ true → g.low + length (decl_slots ds) ≤ g.high → Gone oc g → size_in x ds ≡ None
  undeclared oc ds g c t p = go (size_in x ds) refl p.beside
    where
      go : (o : Option ℕ) → size_in x ds ≡ o → (x < g.low) ⊎ (g.high ≤ x) → o ≡ None
      go None e q = refl
      go (Some n) e (inl q) = let z = counted_within g.low (decl_slots ds) x c (sized_among x ds n e) in absurd (omega (arith, z.0, q))
      go (Some n) e (inr q) = let z = counted_within g.low (decl_slots ds) x c (sized_among x ds n e) in absurd (omega (arith, z.1, q, t))

  code_gone : (oc : Option ℕ) (c : ℕ) (g : Ground) → is_above K c oc ≡ true → home_low K (Some c) ≤ g.low → g.high ≤ home_high K (Some c) → Beyond K x oc → Gone (Some c) g
  code_gone oc c g a l t h = record { beside = go (h c a); beyond = code_beyond K x c oc a h }
    where
      go : (x < home_low K (Some c)) ⊎ (home_high K (Some c) ≤ x) → (x < g.low) ⊎ (g.high ≤ x)
      go (inl q) = inl (omega (arith, q, l))
      go (inr q) = inr (omega (arith, q, t))

  part_code : (sc : Scope) (n : ℕ) (layer : Layer) (b : KBlock) → opens_part layer b → (part_scope K sc n layer).code ≡ sc.code
  part_code sc n (KStmt-F.Do t c) b o = refl
  part_code sc n (KStmt-F.If arms last) b o = refl
  part_code sc n layer b o = elim o [ ]

  part_seen : (sc : Scope) (n : ℕ) (layer : Layer) (b : KBlock) → opens_part layer b → (part_scope K sc n layer).seen ≡ sc.seen
  part_seen sc n (KStmt-F.Do t c) b o = refl
  part_seen sc n (KStmt-F.If arms last) b o = refl
  part_seen sc n layer b o = elim o [ ]

  turn_code : (sc : Scope) (n : ℕ) (k : KLoop) → (turn_scope K sc n k).code ≡ sc.code
  turn_code sc n turns.Free = refl
  turn_code sc n (turns.Times slot m) = refl
  turn_code sc n (turns.Range i next end open_a a b open_b) = refl

  turn_find : (sc : Scope) (n c : ℕ) (k : KLoop) → find x (turn_scope K sc n k).seen ≡ Some (IsPool c) → find x sc.seen ≡ Some (IsPool c)
  turn_find sc n c turns.Free h = h
  turn_find sc n c (turns.Times slot m) h = h
  turn_find sc n c (turns.Range i next end open_a a b open_b) h = go (i == x) h
    where
      go : (t : Bool) → (if t then Some IsLoopVariable else find x sc.seen) ≡ Some (IsPool c) → find x sc.seen ≡ Some (IsPool c)
      go true e = absurd (cc)
      go false e = e

  module _ (proper : is_proper K ≡ true) where
    -- the part inside a frame
    pub record Inside (fr : Frame) (d e : Part) (g : Ground) : Type 0 where
      pub ground : Ground
      pub on : On e ground
      pub gone : PartGone d g → PartGone e ground
      pub home : PartHome d g → PartHome e ground
      pub without : PartGone d g → frame_without x fr
      pub declared : PartHome d g → frame_declares fr → PartGone e ground

    frame_inside : {t : ℕ} {fr : Frame} {d e : Part} → FrameFits K t fr d e → Sound K proper d → frame_stands fr → (g : Ground) → On d g → Inside fr d e g
    frame_inside (around_statement {sc = sc} {b = b} {rest = rest} {s = s} done e f all) h st g on =
        let i = list_ground b done s rest g e on in
        record {
          ground = i.ground;
          on = i.on;
          gone = gone_inner sc.code g i.ground i.inner;
          home = home_inner sc.code g i.ground i.inner;
          without = undeclared sc.code (out-KBlock b).decls g i.declared i.declared_to;
          declared = λ p m. (let z = counted_within g.low (decl_slots (out-KBlock b).decls) x i.declared m in record {
            beside = inl (omega (arith, z.1, i.behind));
            beyond = own_beyond K x sc.code (omega (arith, z.0, p.from)) (omega (arith, z.1, i.declared_to, p.to));
          });
        }
    frame_inside (around_end {sc = sc} {b = b} f all) h st g on =
        let i = decls_ground b g on in
        record { ground = g; on = tt; gone = λ p. tt; home = λ p. tt; without = undeclared sc.code (out-KBlock b).decls g i.0 i.1; declared = λ p m. tt }
    frame_inside (around_instance {sc = sc} {b = b} {before = front} {after = back} {seat = seat} done k e f r y z p c) h st g on =
        let i = code_home K seat.code k proper c in
        record {
          ground = i.ground;
          on = i.on;
          gone = λ q. code_gone sc.code seat.code i.ground (instance_above K (names_of K) sc b front seat back h st.0) i.from i.to q.beyond;
          home = λ q. record { from = i.from; to = i.to };
          without = λ q. tt;
          declared = λ q m. elim m [ ];
        }
    frame_inside (around_part {sc = sc} {s = s} b o) h st g on =
        let i = part_ground s b g o on in
        let e = sym (part_code sc s.node (out-KStmt s.stmt) b o) in
        record {
          ground = i.ground;
          on = i.on;
          gone = λ p. subst (λ oc. Gone oc i.ground) e (gone_inner sc.code g i.ground i.inner p);
          home = λ p. subst (λ oc. AtHome oc i.ground) e (home_inner sc.code g i.ground i.inner p);
          without = λ p. tt;
          declared = λ p m. elim m [ ];
        }
    frame_inside (around_turn {sc = sc} {s = s} k b e q) h st g on =
        let i = inner_ground s (KStmt-F.Loop k b) g e on in
        let f = sym (turn_code sc s.node k) in
        record {
          ground = i.ground;
          on = i.on;
          gone = λ p. subst (λ oc. Gone oc i.ground) f (gone_inner sc.code g i.ground i.inner p);
          home = λ p. subst (λ oc. AtHome oc i.ground) f (home_inner sc.code g i.ground i.inner p);
          without = λ p. tt;
          declared = λ p m. elim m [ ];
        }
    frame_inside (around_call {sc = sc} {s = s} c es f y k e q) h st g on =
        let i = code_home K c k proper q in
        record {
          ground = i.ground;
          on = i.on;
          gone = λ p. code_gone sc.code c i.ground (at_says K (names_of K) sc s (KStmt-F.AwaitCode c es f y) e h) i.from i.to p.beyond;
          home = λ p. record { from = i.from; to = i.to };
          without = λ p. tt;
          declared = λ p m. elim m [ ];
        }
    frame_inside (around_branch {sc = sc} {s = s} k slot bs b cs e y z) h st g on =
        let i = inner_ground s (KStmt-F.Par k slot (bs ++ b ∷ cs)) g e on in
        let j = branch_ground bs b cs i.ground i.on in
        record {
          ground = j.ground;
          on = j.on;
          gone = λ p. gone_inner sc.code i.ground j.ground j.inner (gone_inner sc.code g i.ground i.inner p);
          home = λ p. home_inner sc.code i.ground j.ground j.inner (home_inner sc.code g i.ground i.inner p);
          without = λ p. tt;
          declared = λ p m. elim m [ ];
        }

    none_path : {t : ℕ} {f : Focus Act} {d e : Part} → Around K t Act f d e → Sound K proper d → focus_stands f → (g : Ground) → On d g → PartGone d g → none_has x f
    unfolding none_has focus_stands
    none_path nothing_around h st g on p = tt
    none_path (one_around a more) h st g on p = let i = frame_inside a h st.0 g on in (i.without p, none_path more (frame_sound K proper a h) st.1 i.ground i.on (i.gone p))

    pub frame_found : {t : ℕ} {fr : Frame} {d e : Part} (c : ℕ) → FrameFits K t fr d e → part_find e ≡ Some (IsPool c) → frame_has x c fr ⊎ (frame_without x fr × (part_find d ≡ Some (IsPool c)))
    frame_found c (around_statement {sc = sc} {b = b} done e f all) p = find_declared x c (pool_slots (out-KBlock b).decls ++ pools_seen sc.seen) (out-KBlock b).decls sc.seen p
    frame_found c (around_end f all) p = absurd (cc)
    frame_found c (around_instance {seat = seat} done k e f r y z o q) p = absurd (parameters_apart K x c seat.code (pool_slots k.params ++ []) k proper q p)
    frame_found c (around_part {sc = sc} {s = s} b o) p = inr (tt, ap (find x) (sym (part_seen sc s.node (out-KStmt s.stmt) b o)) ∙ p)
    frame_found c (around_turn {sc = sc} {s = s} k b e q) p = inr (tt, turn_find sc s.node c k p)
    frame_found c (around_call m es f y k e q) p = absurd (parameters_apart K x c m (pool_slots k.params ++ []) k proper q p)
    frame_found c (around_branch k slot bs b cs e y z) p = inr (tt, p)

    frame_either : (fr : Frame) → frame_without x fr ⊎ frame_declares fr
    frame_either (OfBlock b fin all rest) = go (size_in x (out-KBlock b).decls) refl
      where
        go : (o : Option ℕ) → size_in x (out-KBlock b).decls ≡ o → (size_in x (out-KBlock b).decls ≡ None) ⊎ (is_among x (decl_slots (out-KBlock b).decls) ≡ true)
        go None e = inl e
        go (Some n) e = inr (sized_among x (out-KBlock b).decls n e)
    frame_either (OfInstance b fin front seat back r rest) = inl tt
    frame_either (OfOpen s) = inl tt
    frame_either (OfLoop s c) = inl tt
    frame_either (OfCall s) = inl tt
    frame_either (OfPar s front back) = inl tt

    -- a pool that is seen from a leaf is one of a block around it, and of no other, or it is seen from the whole
    one_path : {t : ℕ} {f : Focus Act} {d e : Part} (c : ℕ) → Around K t Act f d e → Sound K proper d → focus_stands f → (g : Ground) → On d g → PartHome d g → part_find e ≡ Some (IsPool c)
        → one_has x c f ⊎ (none_has x f × (part_find d ≡ Some (IsPool c)))
    unfolding none_has one_has focus_stands
    one_path c nothing_around h st g on p q = inr (tt, q)
    one_path {f = In fr f} {d = d} c (one_around {e = e} a more) h st g on p q =
        let i = frame_inside a h st.0 g on in
        go i (one_path c more (frame_sound K proper a h) st.1 i.ground i.on (i.home p) q)
      where
        outer : none_has x f → frame_has x c fr ⊎ (frame_without x fr × (part_find d ≡ Some (IsPool c)))
            → ((frame_has x c fr × none_has x f) ⊎ (frame_without x fr × one_has x c f)) ⊎ ((frame_without x fr × none_has x f) × (part_find d ≡ Some (IsPool c)))
        outer n (inl z) = inl (inl (z, n))
        outer n (inr z) = inr ((z.0, n), z.1)

        beside : Inside fr d e g → one_has x c f → frame_without x fr ⊎ frame_declares fr → frame_without x fr
        beside i o (inl z) = z
        beside i o (inr z) = absurd (none_or_one x c f (none_path more (frame_sound K proper a h) st.1 i.ground i.on (i.declared p z)) o)

        go : Inside fr d e g → one_has x c f ⊎ (none_has x f × (part_find e ≡ Some (IsPool c)))
            → ((frame_has x c fr × none_has x f) ⊎ (frame_without x fr × one_has x c f)) ⊎ ((frame_without x fr × none_has x f) × (part_find d ≡ Some (IsPool c)))
        go i (inl o) = inl (inr (beside i o (frame_either fr), o))
        go i (inr o) = outer o.0 (frame_found c a o.1)

    pub pool_path : {t : ℕ} {f : Focus Act} {e : Part} (c : ℕ) → Around K t Act f (program_part K) e → Sound K proper (program_part K) → focus_stands f → part_find e ≡ Some (IsPool c) → one_has x c f
    pool_path {f = f} c a h st q = go (one_path c a h st _ (program_ground K proper) (record { from = omega arith; to = omega arith }) q)
      where
        go : one_has x c f ⊎ (none_has x f × (part_find (program_part K) ≡ Some (IsPool c))) → one_has x c f
        go (inl o) = o
        go (inr o) = absurd (cc)
