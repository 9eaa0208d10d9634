-- The law that a plan of slots keeps, whatever layout it has (this project's own).
--
-- Two slots of one frame may live together unless the innermost part of the kernel that holds both is a statement list that holds them in two
-- different statements, or an If that holds them in two different parts. A finalizer has no slots.
use Rattle.std.specs.Prelude.{◌≡◌, ◌≢◌, ℕ, ◌+◌, ◌*◌, ◌≤◌, ◌⊎◌, List, [], ◌∷◌, ◌++◌, ⊤, Contains}
use Rattle.ceu_tree.specs.declared.kernel.Kernel.{Kernel}
use Rattle.ceu_tree.specs.declared.kernel.KCode.{KCode}
use Rattle.ceu_tree.specs.declared.kernel.KDecl.{KDecl}
use Rattle.ceu_tree.specs.declared.kernel.KKind.{KKind}
use Rattle.ceu_tree.specs.declared.kernel.KKind.TheVariants as kind
use Rattle.ceu_tree.specs.declared.kernel.KLoop.{KLoop}
use Rattle.ceu_tree.specs.declared.kernel.KLoop.TheVariants as turns
use Rattle.ceu_tree.specs.declared.kernel.KBlock.{KBlock, KBlock', Row_of-KNode, end_of-KNode, more_of-KNode}
use Rattle.ceu_tree.specs.declared.kernel.KArm.{KArm, KArm'}
use Rattle.ceu_tree.specs.declared.kernel.KStmt.{KStmt, Row_of-KArm, end_of-KArm, more_of-KArm, Row_of-KBlock, end_of-KBlock, more_of-KBlock, AwaitCode, Async, Do, If', Loop, Par'}
use Rattle.ceu_tree.specs.Needs.{ty_size}
use Rattle.ceu_tree.specs.Numbering.{decl_slots, loop_slots, par_slots, row_length, block_slots, list_slots, blocks_slots}

-- ---- together

-- one of the two is among `own`, the other among these or those inside
abbrev pub Beside : (a b : ℕ) (own inside : List ℕ) → Type 0
Beside a b own inside = (Contains own a × Contains (own ++ inside) b) ⊎ (Contains own b × Contains (own ++ inside) a)

-- one of the two is here, the other there
abbrev pub Across : (a b : ℕ) (here there : List ℕ) → Type 0
Across a b here there = (Contains here a × Contains there b) ⊎ (Contains here b × Contains there a)

module _ (a b : ℕ) where
  unfoldable mutual
    pub StmtTogether : KStmt → Type 0
    StmtTogether (Async body) = BlockTogether body
    StmtTogether (Do t body) = BlockTogether body
    StmtTogether (If' _ arms last) = ArmsTogether arms ⊎ BlockTogether last
    StmtTogether (Loop k body) = Beside a b (loop_slots k) (block_slots body) ⊎ BlockTogether body
    StmtTogether (Par' k slot _ bs) = Beside a b (par_slots k slot (row_length bs)) (blocks_slots bs) ⊎ BlocksTogether bs
    StmtTogether _ = ⊥

    -- a declaration is together with every slot of its block
    pub BlockTogether : KBlock → Type 0
    BlockTogether (KBlock' n ds _ list) = Beside a b (decl_slots ds) (list_slots list) ⊎ NodesTogether list

    pub ArmTogether : KArm → Type 0
    ArmTogether (KArm' c body) = BlockTogether body

    -- slots of two statements aren't
    pub NodesTogether : {n : _} → Row_of-KNode n → Type 0
    NodesTogether end_of-KNode = ⊥
    NodesTogether (more_of-KNode n p s rest) = StmtTogether s ⊎ NodesTogether rest

    -- nor those of two parts of an If
    pub ArmsTogether : {n : _} → Row_of-KArm n → Type 0
    ArmsTogether end_of-KArm = ⊥
    ArmsTogether (more_of-KArm arm rest) = ArmTogether arm ⊎ ArmsTogether rest

    -- those of two branches are
    pub BlocksTogether : {n : _} → Row_of-KBlock n → Type 0
    BlocksTogether end_of-KBlock = ⊥
    BlocksTogether (more_of-KBlock body rest) = Across a b (block_slots body) (blocks_slots rest) ⊎ (BlockTogether body ⊎ BlocksTogether rest)

-- two slots of a code's frame
abbrev pub CodeTogether : (a b : ℕ) → KCode → Type 0
CodeTogether a b c = Beside a b (decl_slots c.params) (block_slots c.body) ⊎ BlockTogether a b c.body

-- ---- the law

module _ (offset size frame : ℕ → ℕ) where
  abbrev pub Disjoint : (a b : ℕ) → Type 0
  Disjoint a b = (offset a + size a ≤ offset b) ⊎ (offset b + size b ≤ offset a)

  abbrev pub Lies : (low high slot : ℕ) → Type 0
  Lies low high slot = (low ≤ offset slot) × (offset slot + size slot ≤ high)

  -- a place of a pool has 9 bytes before its frame
  abbrev pub declared_size : KKind → ℕ
  declared_size (kind.Var t) = ty_size t
  declared_size (kind.Alias c) = 8
  declared_size (kind.Pool n c) = n * (9 + frame c)

  abbrev pub DeclsSized : List KDecl → Type 0
  DeclsSized [] = ⊤
  DeclsSized (d ∷ ds) = (size d.slot ≡ declared_size d.kind) × DeclsSized ds

  -- the end of a range stands 8 behind its next value
  abbrev pub TurnsSized : KLoop → Type 0
  TurnsSized turns.Free = ⊤
  TurnsSized (turns.Times slot n) = size slot ≡ 4
  TurnsSized (turns.Range i next end open_a a b open_b) = (size i ≡ 4) × (size next ≡ 8) × (size end ≡ 8) × (offset end ≡ offset next + 8)

  abbrev pub BytesSized : List ℕ → Type 0
  BytesSized [] = ⊤
  BytesSized (s ∷ ss) = (size s ≡ 1) × BytesSized ss

  unfoldable mutual
    -- every slot of a part has its size
    pub StmtSized : KStmt → Type 0
    StmtSized (AwaitCode c es slot t) = size slot ≡ frame c
    StmtSized (Async body) = BlockSized body
    StmtSized (Do t body) = BlockSized body
    StmtSized (If' _ arms last) = ArmsSized arms × BlockSized last
    StmtSized (Loop k body) = TurnsSized k × BlockSized body
    StmtSized (Par' k slot _ bs) = BytesSized (par_slots k slot (row_length bs)) × BlocksSized bs
    StmtSized _ = ⊤

    pub BlockSized : KBlock → Type 0
    BlockSized (KBlock' n ds _ list) = DeclsSized ds × NodesSized list

    pub ArmSized : KArm → Type 0
    ArmSized (KArm' c body) = BlockSized body

    pub NodesSized : {n : _} → Row_of-KNode n → Type 0
    NodesSized end_of-KNode = ⊤
    NodesSized (more_of-KNode n p s rest) = StmtSized s × NodesSized rest

    pub ArmsSized : {n : _} → Row_of-KArm n → Type 0
    ArmsSized end_of-KArm = ⊤
    ArmsSized (more_of-KArm arm rest) = ArmSized arm × ArmsSized rest

    pub BlocksSized : {n : _} → Row_of-KBlock n → Type 0
    BlocksSized end_of-KBlock = ⊤
    BlocksSized (more_of-KBlock body rest) = BlockSized body × BlocksSized rest

  -- declarations one behind the other from `at` on
  abbrev pub StandFrom : (at : ℕ) → List KDecl → Type 0
  StandFrom at [] = ⊤
  StandFrom at (d ∷ ds) = (offset d.slot ≡ at) × StandFrom (at + size d.slot) ds

  -- the frame of a code: 8 bytes of link, the parameters, the body
  pub record FrameKept (c : KCode) (bytes : ℕ) : Type 0 where
    pub has_link : 8 ≤ bytes
    pub parameters_sized : DeclsSized c.params
    pub parameters_stand : StandFrom 8 c.params
    pub body_sized : BlockSized c.body
    pub within : (slot : ℕ) → Contains (decl_slots c.params ++ block_slots c.body) slot → Lies 8 bytes slot
    pub apart : (a b : ℕ) → a ≢ b → CodeTogether a b c → Disjoint a b

  -- of the codes from number k on
  abbrev pub FramesKept : (k : ℕ) → List KCode → Type 0
  FramesKept k [] = ⊤
  FramesKept k (c ∷ cs) = FrameKept c (frame k) × FramesKept (k + 1) cs

  pub record KeepsPlaces (K : Kernel) (total : ℕ) : Type 0 where
    pub body_sized : BlockSized K.body
    pub within : (slot : ℕ) → Contains (block_slots K.body) slot → offset slot + size slot ≤ total
    pub apart : (a b : ℕ) → a ≢ b → BlockTogether a b K.body → Disjoint a b
    pub frames : FramesKept 0 K.codes
