-- Slots that may live together are disjoint, where offsets and sizes are those of the places.
use Rattle.std.proofs.Common.{◌≡◌, ◌≢◌, sym, ap, subst, ◌∙◌, ℕ, zero, suc, ◌+◌, ◌*◌, ◌<◌, ◌≤◌, ◌⊎◌, inl, inr, Bool, ◌&&◌, IsTrue, nat_le, List, [], ◌∷◌, ◌++◌, length, get_or, Contains, arith}
use Rattle.std.specs.List.{list_all}
use Rattle.std.proofs.lemmas.List.Elements.{Contains-append_cases}
use Rattle.ceu_base.specs.declared.kinds.Ty.TheVariants as ty
use Rattle.ceu_tree.specs.declared.kernel.Kernel.{Kernel}
use Rattle.ceu_tree.specs.declared.kernel.KDecl.{KDecl}
use Rattle.ceu_tree.specs.declared.kernel.KLoop.{KLoop}
use Rattle.ceu_tree.specs.declared.kernel.KLoop.TheVariants as turns
use Rattle.ceu_tree.specs.declared.kernel.KBlock.{KBlock, KBlock', Row_of-KNode, end_of-KNode, more_of-KNode}
use Rattle.ceu_tree.specs.declared.kernel.KArm.{KArm, KArm'}
use Rattle.ceu_tree.specs.declared.kernel.KStmt.{KStmt, Row_of-KArm, end_of-KArm, more_of-KArm, Row_of-KBlock, end_of-KBlock, more_of-KBlock, Async, Do, If', Loop, Par'}
use Rattle.ceu_tree.specs.Needs.{decl_size, decls_size, loop_size, branch_size, stmt_need, block_need, nodes_need, arm_need, arms_need}
use Rattle.ceu_tree.specs.Numbering.{decl_slots, loop_slots, par_slots, row_length, block_slots, list_slots, blocks_slots}
use Rattle.ceu_tree.specs.Proper.{Scope, is_trail, outside_finalizers, with_decls, with_turns, with_aim, do_aim, LoopAim, in_async, decl_ok, loop_ok, par_ok, gives, stmt_ok, block_ok, arm_ok, nodes_ok, arms_ok, blocks_ok}
use Rattle.ceu_tree.specs.Mentions.{all_set}
use Rattle.ceu_slots.specs.declared.layout.SlotPlace.{SlotPlace}
use Rattle.ceu_slots.specs.Layout.{behind, decl_places, turn_places, byte_places, stmt_places, block_places, arm_places, nodes_places, arms_places, blocks_places}
use Rattle.ceu_slots.specs.Law.{Beside, Across, StmtTogether, BlockTogether, ArmTogether, NodesTogether, ArmsTogether, BlocksTogether}
use Rattle.ceu_slots.proofs.Each.{Each, each_left, each_right, each_weaker, each_both, each_map, both_left, both_right}
use Rattle.ceu_slots.proofs.Between.{Between, bare, decls_between, turns_between, bytes_between, block_between, nodes_between, blocks_between}
use Rattle.ceu_slots.proofs.SlotNumbers.{numbers, decl_numbers, turn_numbers, par_numbers, block_numbers, nodes_numbers, blocks_numbers}

each_at : {X : Type 0} (P : X → Type 0) (xs : List X) (k : ℕ) (d : X) → k < length xs → Each P xs → P (get_or xs k d)
each_at P [] k d h all = absurd (omega arith)
each_at P (x ∷ xs) zero d h all = all.0
each_at P (x ∷ xs) (suc k) d h all = each_at P xs k d (omega arith) all.1

pub each_contains : {X : Type 0} (P : X → Type 0) (xs : List X) (x : X) → Each P xs → Contains xs x → P x
each_contains P xs x all c = subst P c.2 (each_at P xs c.0 x c.1 all)

contains_cons : {X : Type 0} (y : X) (xs : List X) (x : X) → Contains (y ∷ xs) x → (y ≡ x) ⊎ Contains xs x
contains_cons y xs x (zero, h, e) = inl e
contains_cons y xs x (suc k, h, e) = inr (k, omega arith, e)

-- each begins behind the end of those before it
abbrev pub InTurn : List SlotPlace → Type 0
InTurn [] = Unit {0}
InTurn (r ∷ rs) = Each (λ (q : SlotPlace). r.offset + r.size ≤ q.offset) rs × InTurn rs

from_between : (low high : ℕ) (rs : List SlotPlace) → Each (Between low high) rs → Each (λ (q : SlotPlace). low ≤ q.offset) rs
from_between low high rs all = each_weaker (Between low high) (λ (q : SlotPlace). low ≤ q.offset) (λ (q : SlotPlace) (b : Between low high q). b.0) rs all

pub decls_in_turn : (frames : List ℕ) (at : ℕ) (ds : List KDecl) → InTurn (decl_places frames at ds)
decls_in_turn frames at [] = tt
decls_in_turn frames at (d ∷ ds) =
    let next = at + decl_size frames d.kind in
    (from_between next (next + decls_size frames ds) (decl_places frames next ds) (decls_between frames next ds), decls_in_turn frames next ds)

turns_in_turn : (at : ℕ) (k : KLoop) → InTurn (turn_places at k)
turns_in_turn at turns.Free = tt
turns_in_turn at (turns.Times slot n) = (tt, tt)
turns_in_turn at (turns.Range i next end open_a a b open_b) = ((omega arith, (omega arith, tt)), ((omega arith, tt), (tt, tt)))

bytes_in_turn : (slot at n : ℕ) → InTurn (byte_places slot at n)
bytes_in_turn slot at zero = tt
bytes_in_turn slot at (suc n) = (from_between (at + 1) (at + 1 + n) (byte_places (slot + 1) (at + 1) n) (bytes_between (slot + 1) (at + 1) n), bytes_in_turn (slot + 1) (at + 1) n)

module _ (offset size : ℕ → ℕ) where
  abbrev pub Agrees : SlotPlace → Type 0
  Agrees r = (offset r.slot ≡ r.offset) × (size r.slot ≡ r.size)

  abbrev pub Away : (a b : ℕ) → Type 0
  Away a b = (offset a + size a ≤ offset b) ⊎ (offset b + size b ≤ offset a)

  abbrev pub Inside : (low high slot : ℕ) → Type 0
  Inside low high slot = (low ≤ offset slot) × (offset slot + size slot ≤ high)

  away_swapped : (a b : ℕ) → Away a b → Away b a
  away_swapped a b (inl h) = inr h
  away_swapped a b (inr h) = inl h

  pub inside : (low high : ℕ) (rs : List SlotPlace) → Each Agrees rs → Each (Between low high) rs → Each (Inside low high) (numbers rs)
  inside low high rs agree all =
      each_map (Inside low high) (λ (r : SlotPlace). r.slot) rs
      (each_both Agrees (Between low high) (λ (r : SlotPlace). Inside low high r.slot) (λ (r : SlotPlace) (e : Agrees r) (b : Between low high r). (omega (arith, e.0, b.0), omega (arith, e.0, e.1, b.1))) rs agree all)

  -- of two slots in turn, the one that comes first
  first_apart : (r : SlotPlace) (rs : List SlotPlace) (a b : ℕ) → Agrees r → Each Agrees rs → Each (λ (q : SlotPlace). r.offset + r.size ≤ q.offset) rs → r.slot ≡ a → Contains (numbers rs) b → Away a b
  first_apart r rs a b e agree later is c =
      let P : ℕ → Type 0 = λ s. r.offset + r.size ≤ offset s in
      let all : Each P (numbers rs) = each_map P (λ (q : SlotPlace). q.slot) rs
      (each_both Agrees (λ (q : SlotPlace). r.offset + r.size ≤ q.offset) (λ (q : SlotPlace). P q.slot) (λ (q : SlotPlace) (f : Agrees q) (h : r.offset + r.size ≤ q.offset). omega (arith, f.0, h)) rs agree later) in
      let at_b : r.offset + r.size ≤ offset b = each_contains P (numbers rs) b all c in
      let o : offset a ≡ r.offset = ap offset (sym is) ∙ e.0 in
      let s : size a ≡ r.size = ap size (sym is) ∙ e.1 in
      inl (omega (arith, at_b, o, s))

  turn_apart : (rs : List SlotPlace) (a b : ℕ) → InTurn rs → Each Agrees rs → a ≢ b → Contains (numbers rs) a → Contains (numbers rs) b → Away a b
  turn_apart [] a b t agree ne c d = absurd (nothing a c)
    where
      nothing : (a : ℕ) → Contains {X = ℕ} [] a → ⊥
      nothing a c = omega (arith, c.1)
  turn_apart (r ∷ rs) a b t agree ne c d =
      elim (contains_cons r.slot (numbers rs) a c) [
        | inl e ↦ elim (contains_cons r.slot (numbers rs) b d) [
          | inl f ↦ absurd (ne (sym e ∙ f))
          | inr d' ↦ first_apart r rs a b agree.0 agree.1 t.0 e d'
        ]
        | inr c' ↦ elim (contains_cons r.slot (numbers rs) b d) [
          | inl f ↦ away_swapped b a (first_apart r rs b a agree.0 agree.1 t.0 f c')
          | inr d' ↦ turn_apart rs a b t.1 agree.1 ne c' d'
        ]
      ]

  own_apart : (own : List SlotPlace) (more : List ℕ) (low middle high a b : ℕ) → InTurn own → Each Agrees own → Each (Between low middle) own → Each (Inside middle high) more → a ≢ b →
      Contains (numbers own) a → Contains (numbers own ++ more) b → Away a b
  own_apart own more low middle high a b t agree here there ne c d =
      elim (Contains-append_cases (numbers own) more b d) [
        | inl d' ↦ turn_apart own a b t agree ne c d'
        | inr d' ↦ inl (omega (arith, (each_contains (Inside low middle) (numbers own) a (inside low middle own agree here) c).1, (each_contains (Inside middle high) more b there d').0))
      ]

  pub beside_apart : (own : List SlotPlace) (slots more : List ℕ) (low middle high a b : ℕ) → InTurn own → Each Agrees own → Each (Between low middle) own → Each (Inside middle high) more → a ≢ b →
      numbers own ≡ slots → Beside a b slots more → Away a b
  beside_apart own slots more low middle high a b t agree here there ne is both =
      elim (subst (λ l. Beside a b l more) (sym is) both) [
        | inl p ↦ own_apart own more low middle high a b t agree here there ne p.0 p.1
        | inr p ↦ away_swapped b a (own_apart own more low middle high b a t agree here there (λ e. ne (sym e)) p.0 p.1)
      ]

  across_apart : (xs ys : List ℕ) (low middle high a b : ℕ) → Each (Inside low middle) xs → Each (Inside middle high) ys → Across a b xs ys → Away a b
  across_apart xs ys low middle high a b here there (inl p) = inl (omega (arith, (each_contains (Inside low middle) xs a here p.0).1, (each_contains (Inside middle high) ys b there p.1).0))
  across_apart xs ys low middle high a b here there (inr p) = inr (omega (arith, (each_contains (Inside low middle) xs b here p.0).1, (each_contains (Inside middle high) ys a there p.1).0))

  module _ (K : Kernel) (names : List (List ℕ)) (plain : Bool) (frames : List ℕ) where
    pub block_inside : (sc : Scope) (b : KBlock) (at : ℕ) → IsTrue (block_ok K names sc b) → Each Agrees (block_places plain frames at b) → Each (Inside at (at + block_need plain frames b)) (block_slots b)
    block_inside sc b at ok agree =
        subst (Each (Inside at (at + block_need plain frames b))) (block_numbers K names plain frames sc b at ok) (inside at (at + block_need plain frames b) (block_places plain frames at b) agree (block_between plain frames at b))

    nodes_inside : {n : _} (sc : Scope) (r : Row_of-KNode n) (at : ℕ) → IsTrue (nodes_ok K names sc r) → Each Agrees (nodes_places plain frames at r) → Each (Inside at (at + nodes_need plain frames r)) (list_slots r)
    nodes_inside sc r at ok agree =
        subst (Each (Inside at (at + nodes_need plain frames r))) (nodes_numbers K names plain frames sc r at ok) (inside at (at + nodes_need plain frames r) (nodes_places plain frames at r) agree (nodes_between plain frames at r))

    blocks_inside : {n : _} (sc : Scope) (r : Row_of-KBlock n) (at : ℕ) → IsTrue (blocks_ok K names sc r) → Each Agrees (blocks_places plain frames at r) → Each (Inside at (at + bare plain frames r)) (blocks_slots r)
    blocks_inside sc r at ok agree =
        subst (Each (Inside at (at + bare plain frames r))) (blocks_numbers K names plain frames sc r at ok) (inside at (at + bare plain frames r) (blocks_places plain frames at r) agree (blocks_between plain frames at r))

    module _ (a b : ℕ) (ne : a ≢ b) where
      mutual
        unfolding stmt_ok stmt_places StmtTogether

        stmt_apart : (sc : Scope) (n : ℕ) (s : KStmt) (at : ℕ) → IsTrue (stmt_ok K names sc n s) → Each Agrees (stmt_places plain frames at s) → StmtTogether a b s → Away a b
        stmt_apart sc n (Async body) at ok agree t = block_apart (in_async K sc) body at (both_right (is_trail sc.place) _ ok) agree t
        stmt_apart sc n (Do l body) at ok agree t = block_apart (with_aim (do_aim K n l) sc) body at (both_right (outside_finalizers sc.place && _) _ ok) agree t
        stmt_apart sc n (If' _ arms last) at ok agree t =
            let parts : IsTrue (outside_finalizers sc.place && arms_ok K names sc arms) = both_left (outside_finalizers sc.place && arms_ok K names sc arms) _ ok in
            let next = behind plain at (arms_need plain frames arms) in
            elim t [
              | inl h ↦ arms_apart sc arms at (both_right (outside_finalizers sc.place) _ parts) (each_left Agrees (arms_places plain frames at arms) (block_places plain frames next last) agree) h
              | inr h ↦ block_apart sc last next (both_right (outside_finalizers sc.place && arms_ok K names sc arms) _ ok) (each_right Agrees (arms_places plain frames at arms) (block_places plain frames next last) agree) h
            ]
        stmt_apart sc n (Loop k body) at ok agree t =
            let next = at + loop_size k in
            let scope = with_aim (LoopAim n) (with_turns K k sc) in
            let ok' = both_right (outside_finalizers sc.place && loop_ok K sc k) _ ok in
            let own = each_left Agrees (turn_places at k) (block_places plain frames next body) agree in
            let inner = each_right Agrees (turn_places at k) (block_places plain frames next body) agree in
            elim t [
              | inl h ↦ beside_apart (turn_places at k) (loop_slots k) (block_slots body) at next (next + block_need plain frames body) a b (turns_in_turn at k) own (turns_between at k)
                  (block_inside scope body next ok' inner) ne (turn_numbers at k) h
              | inr h ↦ block_apart scope body next ok' inner h
            ]
        stmt_apart sc n (Par' k slot _ bs) at ok agree t =
            let bytes = branch_size k * row_length bs in
            let ok' = both_right (is_trail sc.place && par_ok K k slot (row_length bs)) _ ok in
            let own = each_left Agrees (byte_places slot at bytes) (blocks_places plain frames (at + bytes) bs) agree in
            let inner = each_right Agrees (byte_places slot at bytes) (blocks_places plain frames (at + bytes) bs) agree in
            elim t [
              | inl h ↦ beside_apart (byte_places slot at bytes) (par_slots k slot (row_length bs)) (blocks_slots bs) at (at + bytes) (at + bytes + bare plain frames bs) a b (bytes_in_turn slot at bytes) own (bytes_between slot at bytes)
                  (blocks_inside sc bs (at + bytes) ok' inner) ne (par_numbers k slot at (row_length bs)) h
              | inr h ↦ blocks_apart sc bs (at + bytes) ok' inner h
            ]
        stmt_apart sc n _ at ok agree t = absurd t

        pub block_apart : (sc : Scope) (body : KBlock) (at : ℕ) → IsTrue (block_ok K names sc body) → Each Agrees (block_places plain frames at body) → BlockTogether a b body → Away a b
        block_apart sc (KBlock' n ds x list) at ok agree t =
            let next = at + decls_size frames ds in
            let ok' = both_right (list_all (decl_ok K sc) ds && all_set names ds list) _ ok in
            let own = each_left Agrees (decl_places frames at ds) (nodes_places plain frames next list) agree in
            let inner = each_right Agrees (decl_places frames at ds) (nodes_places plain frames next list) agree in
            elim t [
              | inl h ↦ beside_apart (decl_places frames at ds) (decl_slots ds) (list_slots list) at next (next + nodes_need plain frames list) a b (decls_in_turn frames at ds) own (decls_between frames at ds)
                  (nodes_inside (with_decls ds sc) list next ok' inner) ne (decl_numbers frames at ds) h
              | inr h ↦ nodes_apart (with_decls ds sc) list next ok' inner h
            ]

        arm_apart : (sc : Scope) (arm : KArm) (at : ℕ) → IsTrue (arm_ok K names sc arm) → Each Agrees (arm_places plain frames at arm) → ArmTogether a b arm → Away a b
        arm_apart sc (KArm' c body) at ok agree t = block_apart sc body at (both_right (gives K sc ty.Bool c) _ ok) agree t

        nodes_apart : {n : _} (sc : Scope) (r : Row_of-KNode n) (at : ℕ) → IsTrue (nodes_ok K names sc r) → Each Agrees (nodes_places plain frames at r) → NodesTogether a b r → Away a b
        nodes_apart sc end_of-KNode at ok agree t = absurd t
        nodes_apart sc (more_of-KNode n p s rest) at ok agree t =
            let next = behind plain at (stmt_need plain frames s) in
            elim t [
              | inl h ↦ stmt_apart sc n s at (both_right (nat_le 1 p.line && nat_le 1 p.col) _ (both_left (nat_le 1 p.line && nat_le 1 p.col && stmt_ok K names sc n s) _ ok))
                  (each_left Agrees (stmt_places plain frames at s) (nodes_places plain frames next rest) agree) h
              | inr h ↦ nodes_apart sc rest next (both_right (nat_le 1 p.line && nat_le 1 p.col && stmt_ok K names sc n s) _ ok) (each_right Agrees (stmt_places plain frames at s) (nodes_places plain frames next rest) agree) h
            ]

        arms_apart : {n : _} (sc : Scope) (r : Row_of-KArm n) (at : ℕ) → IsTrue (arms_ok K names sc r) → Each Agrees (arms_places plain frames at r) → ArmsTogether a b r → Away a b
        arms_apart sc end_of-KArm at ok agree t = absurd t
        arms_apart sc (more_of-KArm arm rest) at ok agree t =
            let next = behind plain at (arm_need plain frames arm) in
            elim t [
              | inl h ↦ arm_apart sc arm at (both_left (arm_ok K names sc arm) _ ok) (each_left Agrees (arm_places plain frames at arm) (arms_places plain frames next rest) agree) h
              | inr h ↦ arms_apart sc rest next (both_right (arm_ok K names sc arm) _ ok) (each_right Agrees (arm_places plain frames at arm) (arms_places plain frames next rest) agree) h
            ]

        blocks_apart : {n : _} (sc : Scope) (r : Row_of-KBlock n) (at : ℕ) → IsTrue (blocks_ok K names sc r) → Each Agrees (blocks_places plain frames at r) → BlocksTogether a b r → Away a b
        blocks_apart sc end_of-KBlock at ok agree t = absurd t
        blocks_apart sc (more_of-KBlock body rest) at ok agree t =
            let next = at + block_need plain frames body in
            let ok1 = both_left (block_ok K names sc body) _ ok in
            let ok2 = both_right (block_ok K names sc body) _ ok in
            let here = each_left Agrees (block_places plain frames at body) (blocks_places plain frames next rest) agree in
            let there = each_right Agrees (block_places plain frames at body) (blocks_places plain frames next rest) agree in
            elim t [
              | inl h ↦ across_apart (block_slots body) (blocks_slots rest) at next (next + bare plain frames rest) a b (block_inside sc body at ok1 here) (blocks_inside sc rest next ok2 there) h
              | inr both ↦ elim both [
                | inl h ↦ block_apart sc body at ok1 here h
                | inr h ↦ blocks_apart sc rest next ok2 there h
              ]
            ]
