-- In a proper kernel a finalizer has no slots, and the places stand in the order of the slots' numbers.
use Rattle.std.proofs.Common.{◌≡◌, refl, sym, ap, ◌∙◌, ℕ, zero, suc, ◌+◌, ◌*◌, Bool, false, ◌&&◌, IsTrue, nat_le, List, [], ◌∷◌, ◌++◌, map, arith}
use Rattle.std.specs.List.{list_all}
use Rattle.std.proofs.lemmas.List.{map-append}
use Rattle.ceu_base.specs.declared.kinds.Ty.TheVariants as ty
use Rattle.ceu_tree.specs.declared.kernel.Kernel.{Kernel}
use Rattle.ceu_tree.specs.declared.kernel.KDecl.{KDecl}
use Rattle.ceu_tree.specs.declared.kernel.KKind.{KKind}
use Rattle.ceu_tree.specs.declared.kernel.KKind.TheVariants as kind
use Rattle.ceu_tree.specs.declared.kernel.KLoop.{KLoop}
use Rattle.ceu_tree.specs.declared.kernel.KLoop.TheVariants as turns
use Rattle.ceu_tree.specs.declared.kernel.ParKind.{ParKind}
use Rattle.ceu_tree.specs.declared.kernel.ParKind.TheVariants as par
use Rattle.ceu_tree.specs.declared.kernel.KBlock.{KBlock, KBlock', Row_of-KNode, end_of-KNode, more_of-KNode}
use Rattle.ceu_tree.specs.declared.kernel.KArm.{KArm, KArm'}
use Rattle.ceu_tree.specs.declared.kernel.KStmt.{KStmt, Row_of-KArm, end_of-KArm, more_of-KArm, Row_of-KBlock, end_of-KBlock, more_of-KBlock, AwaitCode, Async, Finalize, Do, If', Loop, Par'}
use Rattle.ceu_tree.specs.Needs.{decl_size, decls_size, loop_size, branch_size, stmt_need, block_need, arm_need, arms_need}
use Rattle.ceu_tree.specs.Numbering.{decl_slots, loop_slots, par_slots, range_of, row_length, stmt_slots, block_slots, arm_slots, list_slots, arms_slots, blocks_slots}
use Rattle.ceu_tree.specs.Proper.{Scope, is_trail, outside_finalizers, with_decls, with_turns, with_aim, do_aim, LoopAim, in_async, in_finalizer, decl_ok, loop_ok, par_ok, gives, stmt_ok, block_ok, arm_ok, nodes_ok, arms_ok, blocks_ok}
use Rattle.ceu_tree.specs.Mentions.{all_set}
use Rattle.ceu_slots.specs.declared.layout.SlotPlace.{SlotPlace}
use Rattle.ceu_slots.specs.Layout.{behind, decl_places, turn_places, byte_places, stmt_places, block_places, arm_places, nodes_places, arms_places, blocks_places}
use Rattle.ceu_slots.proofs.Each.{both_left, both_right, contrary}

module _ (K : Kernel) (names : List (List ℕ)) where
  decl_none : (sc : Scope) (d : KDecl) (k : KKind) → is_trail sc.place ≡ false → outside_finalizers sc.place ≡ false → IsTrue (decl_ok K sc (record d { kind = k })) → ⊥
  decl_none sc d (kind.Var t) e f ok = contrary (outside_finalizers sc.place) f (both_right _ (outside_finalizers sc.place) (both_left _ (nat_le 1 d.pos.line) (both_left _ (nat_le 1 d.pos.col) ok)))
  decl_none sc d (kind.Alias c) e f ok = contrary (is_trail sc.place) e (both_left (is_trail sc.place) _ (both_left _ (nat_le 1 d.pos.line) (both_left _ (nat_le 1 d.pos.col) ok)))
  decl_none sc d (kind.Pool n c) e f ok =
      contrary (is_trail sc.place) e (both_left (is_trail sc.place) _ (both_left (is_trail sc.place && _) _ (both_left _ (nat_le 1 d.pos.line) (both_left _ (nat_le 1 d.pos.col) ok))))

  decls_none : (sc : Scope) (ds : List KDecl) → is_trail sc.place ≡ false → outside_finalizers sc.place ≡ false → IsTrue (list_all (decl_ok K sc) ds) → decl_slots ds ≡ []
  decls_none sc [] e f ok = refl
  decls_none sc (d ∷ ds) e f ok = absurd (decl_none sc d d.kind e f (both_left (decl_ok K sc d) _ ok))

  stmt_none : (sc : Scope) (n : ℕ) (s : KStmt) → is_trail sc.place ≡ false → outside_finalizers sc.place ≡ false → IsTrue (stmt_ok K names sc n s) → stmt_slots s ≡ []
  unfolding stmt_ok stmt_slots
  stmt_none sc n (AwaitCode c es frame t) e f ok = absurd (contrary (is_trail sc.place) e (both_left (is_trail sc.place) _ ok))
  stmt_none sc n (Async b) e f ok = absurd (contrary (is_trail sc.place) e (both_left (is_trail sc.place) _ ok))
  stmt_none sc n (Finalize b) e f ok = absurd (contrary (is_trail sc.place) e (both_left (is_trail sc.place) _ ok))
  stmt_none sc n (Do t b) e f ok = absurd (contrary (outside_finalizers sc.place) f (both_left (outside_finalizers sc.place) _ (both_left (outside_finalizers sc.place && _) _ ok)))
  stmt_none sc n (If' _ arms last) e f ok = absurd (contrary (outside_finalizers sc.place) f (both_left (outside_finalizers sc.place) (arms_ok K names sc arms) (both_left (outside_finalizers sc.place && arms_ok K names sc arms) _ ok)))
  stmt_none sc n (Loop k b) e f ok = absurd (contrary (outside_finalizers sc.place) f (both_left (outside_finalizers sc.place) (loop_ok K sc k) (both_left (outside_finalizers sc.place && loop_ok K sc k) _ ok)))
  stmt_none sc n (Par' k slot _ bs) e f ok =
      absurd (contrary (is_trail sc.place) e (both_left (is_trail sc.place) (par_ok K k slot (row_length bs)) (both_left (is_trail sc.place && par_ok K k slot (row_length bs)) _ ok)))
  stmt_none sc n _ e f ok = refl

  nodes_none : {n : _} (sc : Scope) (r : Row_of-KNode n) → is_trail sc.place ≡ false → outside_finalizers sc.place ≡ false → IsTrue (nodes_ok K names sc r) → list_slots r ≡ []
  unfolding stmt_ok stmt_slots
  nodes_none sc end_of-KNode e f ok = refl
  nodes_none sc (more_of-KNode n p s rest) e f ok =
      ap (λ l. l ++ list_slots rest) (stmt_none sc n s e f (both_right (nat_le 1 p.line && nat_le 1 p.col) _ (both_left (nat_le 1 p.line && nat_le 1 p.col && stmt_ok K names sc n s) _ ok))) ∙
      nodes_none sc rest e f (both_right (nat_le 1 p.line && nat_le 1 p.col && stmt_ok K names sc n s) _ ok)

  pub block_none : (sc : Scope) (b : KBlock) → is_trail sc.place ≡ false → outside_finalizers sc.place ≡ false → IsTrue (block_ok K names sc b) → block_slots b ≡ []
  unfolding stmt_ok stmt_slots
  block_none sc (KBlock' n ds x list) e f ok =
      ap (λ l. l ++ list_slots list) (decls_none sc ds e f (both_left (list_all (decl_ok K sc) ds) _ (both_left (list_all (decl_ok K sc) ds && all_set names ds list) _ ok))) ∙
      nodes_none (with_decls ds sc) list e f (both_right (list_all (decl_ok K sc) ds && all_set names ds list) _ ok)

-- ---- the numbers of the places

abbrev pub numbers : List SlotPlace → List ℕ
numbers rs = map (λ (r : SlotPlace). r.slot) rs

pub numbers_append : (xs ys : List SlotPlace) (a b : List ℕ) → numbers xs ≡ a → numbers ys ≡ b → numbers (xs ++ ys) ≡ a ++ b
numbers_append xs ys a b e f = map-append (λ (r : SlotPlace). r.slot) xs ys ∙ ap (λ l. l ++ numbers ys) e ∙ ap (λ l. a ++ l) f

pub decl_numbers : (frames : List ℕ) (at : ℕ) (ds : List KDecl) → numbers (decl_places frames at ds) ≡ decl_slots ds
decl_numbers frames at [] = refl
decl_numbers frames at (d ∷ ds) = ap (λ l. d.slot ∷ l) (decl_numbers frames (at + decl_size frames d.kind) ds)

pub turn_numbers : (at : ℕ) (k : KLoop) → numbers (turn_places at k) ≡ loop_slots k
turn_numbers at turns.Free = refl
turn_numbers at (turns.Times slot n) = refl
turn_numbers at (turns.Range i next end open_a a b open_b) = refl

byte_numbers : (slot at n : ℕ) → numbers (byte_places slot at n) ≡ range_of slot n
byte_numbers slot at zero = refl
byte_numbers slot at (suc n) = ap (λ l. slot ∷ l) (byte_numbers (slot + 1) (at + 1) n)

pub par_numbers : (k : ParKind) (slot at n : ℕ) → numbers (byte_places slot at (branch_size k * n)) ≡ par_slots k slot n
par_numbers par.And slot at n = let one : 1 * n ≡ n = omega arith in ap (λ m. numbers (byte_places slot at m)) one ∙ byte_numbers slot at n
par_numbers par.Or slot at n = let none : 0 * n ≡ 0 = omega arith in ap (λ m. numbers (byte_places slot at m)) none
par_numbers par.Never slot at n = let none : 0 * n ≡ 0 = omega arith in ap (λ m. numbers (byte_places slot at m)) none

module _ (K : Kernel) (names : List (List ℕ)) (plain : Bool) (frames : List ℕ) where
  mutual
    unfolding stmt_ok stmt_slots stmt_places

    pub stmt_numbers : (sc : Scope) (n : ℕ) (s : KStmt) (at : ℕ) → IsTrue (stmt_ok K names sc n s) → numbers (stmt_places plain frames at s) ≡ stmt_slots s
    stmt_numbers sc n (AwaitCode c es f t) at ok = refl
    stmt_numbers sc n (Async b) at ok = block_numbers (in_async K sc) b at (both_right (is_trail sc.place) _ ok)
    stmt_numbers sc n (Finalize b) at ok = sym (block_none K names (in_finalizer K sc) b refl refl (both_right (is_trail sc.place) _ ok))
    stmt_numbers sc n (Do t b) at ok = block_numbers (with_aim (do_aim K n t) sc) b at (both_right (outside_finalizers sc.place && _) _ ok)
    stmt_numbers sc n (If' _ arms last) at ok =
        let parts : IsTrue (outside_finalizers sc.place && arms_ok K names sc arms) = both_left (outside_finalizers sc.place && arms_ok K names sc arms) _ ok in
        numbers_append (arms_places plain frames at arms) (block_places plain frames (behind plain at (arms_need plain frames arms)) last) (arms_slots arms) (block_slots last)
        (arms_numbers sc arms at (both_right (outside_finalizers sc.place) _ parts)) (block_numbers sc last (behind plain at (arms_need plain frames arms)) (both_right (outside_finalizers sc.place && arms_ok K names sc arms) _ ok))
    stmt_numbers sc n (Loop k b) at ok =
        numbers_append (turn_places at k) (block_places plain frames (at + loop_size k) b) (loop_slots k) (block_slots b) (turn_numbers at k)
        (block_numbers (with_aim (LoopAim n) (with_turns K k sc)) b (at + loop_size k) (both_right (outside_finalizers sc.place && loop_ok K sc k) _ ok))
    stmt_numbers sc n (Par' k slot _ bs) at ok =
        let bytes = branch_size k * row_length bs in
        numbers_append (byte_places slot at bytes) (blocks_places plain frames (at + bytes) bs) (par_slots k slot (row_length bs)) (blocks_slots bs) (par_numbers k slot at (row_length bs))
        (blocks_numbers sc bs (at + bytes) (both_right (is_trail sc.place && par_ok K k slot (row_length bs)) _ ok))
    stmt_numbers sc n _ at ok = refl

    pub block_numbers : (sc : Scope) (b : KBlock) (at : ℕ) → IsTrue (block_ok K names sc b) → numbers (block_places plain frames at b) ≡ block_slots b
    block_numbers sc (KBlock' n ds x list) at ok =
        numbers_append (decl_places frames at ds) (nodes_places plain frames (at + decls_size frames ds) list) (decl_slots ds) (list_slots list) (decl_numbers frames at ds)
        (nodes_numbers (with_decls ds sc) list (at + decls_size frames ds) (both_right (list_all (decl_ok K sc) ds && all_set names ds list) _ ok))

    arm_numbers : (sc : Scope) (a : KArm) (at : ℕ) → IsTrue (arm_ok K names sc a) → numbers (arm_places plain frames at a) ≡ arm_slots a
    arm_numbers sc (KArm' c b) at ok = block_numbers sc b at (both_right (gives K sc ty.Bool c) _ ok)

    pub nodes_numbers : {n : _} (sc : Scope) (r : Row_of-KNode n) (at : ℕ) → IsTrue (nodes_ok K names sc r) → numbers (nodes_places plain frames at r) ≡ list_slots r
    nodes_numbers sc end_of-KNode at ok = refl
    nodes_numbers sc (more_of-KNode n p s rest) at ok =
        let next = behind plain at (stmt_need plain frames s) in
        numbers_append (stmt_places plain frames at s) (nodes_places plain frames next rest) (stmt_slots s) (list_slots rest)
        (stmt_numbers sc n s at (both_right (nat_le 1 p.line && nat_le 1 p.col) _ (both_left (nat_le 1 p.line && nat_le 1 p.col && stmt_ok K names sc n s) _ ok)))
        (nodes_numbers sc rest next (both_right (nat_le 1 p.line && nat_le 1 p.col && stmt_ok K names sc n s) _ ok))

    arms_numbers : {n : _} (sc : Scope) (r : Row_of-KArm n) (at : ℕ) → IsTrue (arms_ok K names sc r) → numbers (arms_places plain frames at r) ≡ arms_slots r
    arms_numbers sc end_of-KArm at ok = refl
    arms_numbers sc (more_of-KArm a rest) at ok =
        let next = behind plain at (arm_need plain frames a) in
        numbers_append (arm_places plain frames at a) (arms_places plain frames next rest) (arm_slots a) (arms_slots rest) (arm_numbers sc a at (both_left (arm_ok K names sc a) _ ok)) (arms_numbers sc rest next (both_right (arm_ok K names sc a) _ ok))

    pub blocks_numbers : {n : _} (sc : Scope) (r : Row_of-KBlock n) (at : ℕ) → IsTrue (blocks_ok K names sc r) → numbers (blocks_places plain frames at r) ≡ blocks_slots r
    blocks_numbers sc end_of-KBlock at ok = refl
    blocks_numbers sc (more_of-KBlock b rest) at ok =
        let next = at + block_need plain frames b in
        numbers_append (block_places plain frames at b) (blocks_places plain frames next rest) (block_slots b) (blocks_slots rest) (block_numbers sc b at (both_left (block_ok K names sc b) _ ok)) (blocks_numbers sc rest next (both_right (block_ok K names sc b) _ ok))
