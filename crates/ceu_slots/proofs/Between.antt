-- The slots of a part lie between its place and the end of what it needs.
use Rattle.std.proofs.Common.{◌≡◌, refl, ap, ◌∙◌, ℕ, zero, suc, ◌+◌, ◌*◌, ◌≤◌, max, Bool, true, false, List, [], ◌∷◌, ◌++◌, zero-le, arith}
use Rattle.ceu_tree.specs.declared.kernel.KDecl.{KDecl}
use Rattle.ceu_tree.specs.declared.kernel.KCode.{KCode}
use Rattle.ceu_tree.specs.declared.kernel.Kernel.{Kernel}
use Rattle.ceu_tree.specs.declared.kernel.KLoop.{KLoop}
use Rattle.ceu_tree.specs.declared.kernel.KLoop.TheVariants as turns
use Rattle.ceu_tree.specs.declared.kernel.KBlock.{KBlock, KBlock', Row_of-KNode, end_of-KNode, more_of-KNode}
use Rattle.ceu_tree.specs.declared.kernel.KArm.{KArm, KArm'}
use Rattle.ceu_tree.specs.declared.kernel.KStmt.{KStmt, Row_of-KArm, end_of-KArm, more_of-KArm, Row_of-KBlock, end_of-KBlock, more_of-KBlock, AwaitCode, Async, Do, If', Loop, Par'}
use Rattle.ceu_tree.specs.Greatest.{greatest}
use Rattle.ceu_tree.specs.Needs.{apart, decl_size, decls_size, loop_size, branch_size, stmt_need, block_need, nodes_need, arm_need, arms_need, blocks_need, frame_of, frames_from, greatest_of, slots}
use Rattle.ceu_tree.specs.Numbering.{row_length}
use Rattle.ceu_slots.specs.declared.layout.SlotPlace.{SlotPlace}
use Rattle.ceu_slots.specs.Layout.{behind, decl_places, turn_places, byte_places, stmt_places, block_places, arm_places, nodes_places, arms_places, blocks_places, code_places, codes_places, places}
use Rattle.ceu_slots.proofs.Each.{Each, each_append, each_weaker}

abbrev pub Between : (low high : ℕ) → SlotPlace → Type 0
Between low high r = (low ≤ r.offset) × (r.offset + r.size ≤ high)

pub wider : (low high low' high' : ℕ) → low' ≤ low → high ≤ high' → (rs : List SlotPlace) → Each (Between low high) rs → Each (Between low' high') rs
wider low high low' high' h k rs all = each_weaker (Between low high) (Between low' high') (λ (r : SlotPlace) (b : Between low high r). (omega (arith, b.0), omega (arith, b.1))) rs all

pub joined_between : (low middle high : ℕ) (xs ys : List SlotPlace) → low ≤ middle → middle ≤ high → Each (Between low middle) xs → Each (Between middle high) ys → Each (Between low high) (xs ++ ys)
joined_between low middle high xs ys h k a b =
    each_append (Between low high) xs ys (wider low middle low high (omega arith) k xs a) (wider middle high low high h (omega arith) ys b)

-- two parts, of which the second starts behind the first in the plain layout
behind_facts : (plain : Bool) (at a b : ℕ) → (at ≤ behind plain at a) × (behind plain at a + b ≤ at + apart plain a b) × (at + a ≤ at + apart plain a b)
behind_facts true at a b = (omega arith, omega arith, omega arith)
behind_facts false at a b = (omega arith, right_most at a b, left_most at a b)
  where
    right_most : (at a b : ℕ) → at + b ≤ at + max a b
    right_most at a b = grind arith

    left_most : (at a b : ℕ) → at + a ≤ at + max a b
    left_most at a b = grind arith

apart_between : (plain : Bool) (at a b : ℕ) (xs ys : List SlotPlace) → Each (Between at (at + a)) xs → Each (Between (behind plain at a) (behind plain at a + b)) ys → Each (Between at (at + apart plain a b)) (xs ++ ys)
apart_between plain at a b xs ys h k =
    let f = behind_facts plain at a b in
    each_append (Between at (at + apart plain a b)) xs ys (wider at (at + a) at (at + apart plain a b) (omega arith) f.2 xs h) (wider (behind plain at a) (behind plain at a + b) at (at + apart plain a b) f.0 f.1 ys k)

pub decls_between : (frames : List ℕ) (at : ℕ) (ds : List KDecl) → Each (Between at (at + decls_size frames ds)) (decl_places frames at ds)
decls_between frames at [] = tt
decls_between frames at (d ∷ ds) =
    let size = decl_size frames d.kind in
    ((omega arith, omega arith), wider (at + size) (at + size + decls_size frames ds) at (at + (size + decls_size frames ds)) (omega arith) (omega arith) (decl_places frames (at + size) ds) (decls_between frames (at + size) ds))

pub turns_between : (at : ℕ) (k : KLoop) → Each (Between at (at + loop_size k)) (turn_places at k)
turns_between at turns.Free = tt
turns_between at (turns.Times slot n) = ((omega arith, omega arith), tt)
turns_between at (turns.Range i next end open_a a b open_b) = ((omega arith, omega arith), ((omega arith, omega arith), ((omega arith, omega arith), tt)))

pub bytes_between : (slot at n : ℕ) → Each (Between at (at + n)) (byte_places slot at n)
bytes_between slot at zero = tt
bytes_between slot at (suc n) = ((omega arith, omega arith), wider (at + 1) (at + 1 + n) at (at + suc n) (omega arith) (omega arith) (byte_places (slot + 1) (at + 1) n) (bytes_between (slot + 1) (at + 1) n))

module _ (plain : Bool) (frames : List ℕ) where
  -- what the branches need beside their bytes
  pub bare : {n : _} → Row_of-KBlock n → ℕ
  bare end_of-KBlock = 0
  bare (more_of-KBlock b rest) = block_need plain frames b + bare rest

  pub with_bytes : {n : _} (each : ℕ) (r : Row_of-KBlock n) → blocks_need plain frames each r ≡ each * row_length r + bare r
  unfolding stmt_need bare
  with_bytes each end_of-KBlock = omega arith
  with_bytes each (more_of-KBlock b rest) =
      let ih : blocks_need plain frames each rest ≡ each * row_length rest + bare rest = with_bytes each rest in
      let step : each * suc (row_length rest) ≡ each + each * row_length rest = omega arith in
      omega (arith, ih, step)

  mutual
    unfolding stmt_places stmt_need bare

    pub stmt_between : (at : ℕ) (s : KStmt) → Each (Between at (at + stmt_need plain frames s)) (stmt_places plain frames at s)
    stmt_between at (AwaitCode c es f t) = ((omega arith, omega arith), tt)
    stmt_between at (Async b) = block_between at b
    stmt_between at (Do t b) = block_between at b
    stmt_between at (If' _ arms last) =
        apart_between plain at (arms_need plain frames arms) (block_need plain frames last) (arms_places plain frames at arms) (block_places plain frames (behind plain at (arms_need plain frames arms)) last)
        (arms_between at arms) (block_between (behind plain at (arms_need plain frames arms)) last)
    stmt_between at (Loop k b) =
        let own = at + loop_size k in
        wider at (own + block_need plain frames b) at (at + (loop_size k + block_need plain frames b)) (omega arith) (omega arith) _
        (joined_between at own (own + block_need plain frames b) (turn_places at k) (block_places plain frames own b) (omega arith) (omega arith) (turns_between at k) (block_between own b))
    stmt_between at (Par' k slot _ bs) =
        let bytes = branch_size k * row_length bs in
        wider at (at + bytes + bare bs) at (at + blocks_need plain frames (branch_size k) bs) (omega arith) (omega (arith, with_bytes (branch_size k) bs)) _
        (joined_between at (at + bytes) (at + bytes + bare bs) (byte_places slot at bytes) (blocks_places plain frames (at + bytes) bs) (omega arith) (omega arith) (bytes_between slot at bytes) (blocks_between (at + bytes) bs))
    stmt_between at _ = tt

    pub block_between : (at : ℕ) (b : KBlock) → Each (Between at (at + block_need plain frames b)) (block_places plain frames at b)
    block_between at (KBlock' n ds _ list) =
        let own = at + decls_size frames ds in
        wider at (own + nodes_need plain frames list) at (at + (decls_size frames ds + nodes_need plain frames list)) (omega arith) (omega arith) _
        (joined_between at own (own + nodes_need plain frames list) (decl_places frames at ds) (nodes_places plain frames own list) (omega arith) (omega arith) (decls_between frames at ds) (nodes_between own list))

    arm_between : (at : ℕ) (a : KArm) → Each (Between at (at + arm_need plain frames a)) (arm_places plain frames at a)
    arm_between at (KArm' c b) = block_between at b

    pub nodes_between : {n : _} (at : ℕ) (r : Row_of-KNode n) → Each (Between at (at + nodes_need plain frames r)) (nodes_places plain frames at r)
    nodes_between at end_of-KNode = tt
    nodes_between at (more_of-KNode n p s rest) =
        apart_between plain at (stmt_need plain frames s) (nodes_need plain frames rest) (stmt_places plain frames at s) (nodes_places plain frames (behind plain at (stmt_need plain frames s)) rest)
        (stmt_between at s) (nodes_between (behind plain at (stmt_need plain frames s)) rest)

    arms_between : {n : _} (at : ℕ) (r : Row_of-KArm n) → Each (Between at (at + arms_need plain frames r)) (arms_places plain frames at r)
    arms_between at end_of-KArm = tt
    arms_between at (more_of-KArm a rest) =
        apart_between plain at (arm_need plain frames a) (arms_need plain frames rest) (arm_places plain frames at a) (arms_places plain frames (behind plain at (arm_need plain frames a)) rest)
        (arm_between at a) (arms_between (behind plain at (arm_need plain frames a)) rest)

    pub blocks_between : {n : _} (at : ℕ) (r : Row_of-KBlock n) → Each (Between at (at + bare r)) (blocks_places plain frames at r)
    blocks_between at end_of-KBlock = tt
    blocks_between at (more_of-KBlock b rest) =
        let own = at + block_need plain frames b in
        wider at (own + bare rest) at (at + (block_need plain frames b + bare rest)) (omega arith) (omega arith) _
        (joined_between at own (own + bare rest) (block_places plain frames at b) (blocks_places plain frames own rest) (omega arith) (omega arith) (block_between at b) (blocks_between own rest))

-- ---- codes

pub code_between : (plain : Bool) (frames : List ℕ) (c : KCode) → Each (Between 8 (frame_of plain frames c)) (code_places plain frames c)
code_between plain frames c =
    let own = 8 + decls_size frames c.params in
    joined_between 8 own (own + block_need plain frames c.body) (decl_places frames 8 c.params) (block_places plain frames own c.body) (omega arith) (omega arith) (decls_between frames 8 c.params) (block_between plain frames own c.body)

greatest_last : (xs : List ℕ) (x : ℕ) → greatest_of (xs ++ x ∷ []) ≡ max (greatest_of xs) x
greatest_last [] x = most_none x
  where
    most_none : (x : ℕ) → max x 0 ≡ max 0 x
    most_none x = grind arith
greatest_last (y ∷ xs) x = ap (max y) (greatest_last xs x) ∙ most_assoc y (greatest_of xs) x
  where
    most_assoc : (a b c : ℕ) → max a (max b c) ≡ max (max a b) c
    most_assoc a b c = grind arith

grows : (a b c x : ℕ) → a ≡ max b x → a ≤ c → (b ≤ c) × (x ≤ c)
grows a b c x e h = (grind arith, grind arith)

more_frames : (plain : Bool) (frames : List ℕ) (cs : List KCode) → greatest_of frames ≤ greatest_of (frames_from plain frames cs)
more_frames plain frames [] = omega arith
more_frames plain frames (c ∷ cs) =
    (grows (greatest_of (frames ++ frame_of plain frames c ∷ [])) (greatest_of frames) _ (frame_of plain frames c) (greatest_last frames (frame_of plain frames c)) (more_frames plain (frames ++ frame_of plain frames c ∷ []) cs)).0

-- the frame of the next code is among the frames
pub frame_among : (plain : Bool) (frames : List ℕ) (c : KCode) (cs : List KCode) → frame_of plain frames c ≤ greatest_of (frames_from plain frames (c ∷ cs))
frame_among plain frames c cs =
    (grows (greatest_of (frames ++ frame_of plain frames c ∷ [])) (greatest_of frames) _ (frame_of plain frames c) (greatest_last frames (frame_of plain frames c)) (more_frames plain (frames ++ frame_of plain frames c ∷ []) cs)).1

codes_between : (plain : Bool) (frames : List ℕ) (cs : List KCode) → Each (Between 0 (greatest_of (frames_from plain frames cs))) (codes_places plain frames cs)
codes_between plain frames [] = tt
codes_between plain frames (c ∷ cs) =
    let all = greatest_of (frames_from plain frames (c ∷ cs)) in
    let later = frames ++ frame_of plain frames c ∷ [] in
    each_append (Between 0 all) (code_places plain frames c) (codes_places plain later cs) (wider 8 (frame_of plain frames c) 0 all (omega arith) (frame_among plain frames c cs) (code_places plain frames c) (code_between plain frames c)) (codes_between plain later cs)

max_left : (a b : ℕ) → 0 + a ≤ max a b
max_left a b = grind arith

max_right : (a b : ℕ) → b ≤ max a b
max_right a b = grind arith

-- every slot ends within the need
pub all_between : (plain : Bool) (K : Kernel) → Each (Between 0 (slots plain K)) (places plain K)
unfolding slots places
all_between plain K =
    let frames = frames_from plain [] K.codes in
    let body = block_need plain frames K.body in
    let most = greatest_of frames in
    each_append (Between 0 (max body most)) (block_places plain frames 0 K.body) (codes_places plain [] K.codes)
    (wider 0 (0 + body) 0 (max body most) (omega arith) (max_left body most) (block_places plain frames 0 K.body) (block_between plain frames 0 K.body))
    (wider 0 most 0 (max body most) (omega arith) (max_right body most) (codes_places plain [] K.codes) (codes_between plain [] K.codes))

abbrev pub reach : List SlotPlace → ℕ
reach rs = greatest (λ r. r.offset + r.size) rs

most_within : (a b c : ℕ) → a ≤ c → b ≤ c → max a b ≤ c
most_within a b c h k = grind arith

within_reach : (high : ℕ) (rs : List SlotPlace) → Each (Between 0 high) rs → reach rs ≤ high
within_reach high [] h = zero-le
within_reach high (r ∷ rs) h = most_within (r.offset + r.size) (reach rs) high h.0.1 (within_reach high rs h.1)

pub whole_reach : (plain : Bool) (K : Kernel) → reach (places plain K) ≤ slots plain K
whole_reach plain K = within_reach (slots plain K) (places plain K) (all_between plain K)

pub slots_parts : (plain : Bool) (K : Kernel) → (0 + block_need plain (frames_from plain [] K.codes) K.body ≤ slots plain K) × (greatest_of (frames_from plain [] K.codes) ≤ slots plain K)
unfolding slots
slots_parts plain K = let frames = frames_from plain [] K.codes in (max_left (block_need plain frames K.body) (greatest_of frames), max_right (block_need plain frames K.body) (greatest_of frames))

pub whole_slots : (plain : Bool) (K : Kernel) → slots plain K ≡ max (block_need plain (frames_from plain [] K.codes) K.body) (greatest_of (frames_from plain [] K.codes))
unfolding slots
whole_slots plain K = refl

pub whole_places : (plain : Bool) (K : Kernel) → places plain K ≡ block_places plain (frames_from plain [] K.codes) 0 K.body ++ codes_places plain [] K.codes
unfolding places
whole_places plain K = refl
