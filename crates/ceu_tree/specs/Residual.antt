-- What is left of a program that runs: a tree of the parts that are open, with a leaf for each trail.
--
-- A trail is a line of execution (Céu 0.30 manual, chapter on statements: parallel compositions; Sant'Anna et al., TECS 2017, section on the
-- formal semantics). The tree has the shape of the open statements alone; the values of variables stand beside it (World). Between two turns each
-- leaf waits, or can run at a level. Lexical order of the leaves: in a block its instances, the pools in order of declaration (which is that of
-- their slots) and in a pool by spawn number, then the running part; in a par the branches from left to right.
use Rattle.std.specs.Prelude.{ℕ, ℤ, Bool, true, false, ◌==◌, ◌&&◌, List}
use Rattle.ceu_tree.specs.declared.kernel.KNode.{KNode}
use Rattle.ceu_tree.specs.declared.kernel.KBlock.{KBlock}

-- An open body, whose variables have a store of their own: the program, code that a statement of an open body awaits, or an instance by its spawn
-- number. Code isn't recursive, so in an open body each statement and block is open once at most.
pub data Body : Type 0 where
  Program : Body
  Awaited : (by : Body) (node : ℕ) → Body
  Spawned : (number : ℕ) → Body

abbrev pub same_body : Body → Body → Bool
same_body Program Program = true
same_body (Awaited a n) (Awaited b m) = (n == m) && same_body a b
same_body (Spawned n) (Spawned m) = n == m
same_body _ _ = false

-- what a trail does next
pub data Act : Type 0 where
  Begin : KBlock → Act
  Start : KNode → Act
  Finish : KNode → (value : ℤ) → Act  -- of a statement that waited or paused
  AtEnd : Act  -- of its block
  AtHead : Act  -- of its loop, which is reached
  Again : Act  -- at its loop's head after a completed turn

-- how far a loop is
pub data Counter : Type 0 where
  Free : Counter
  Turns : (begun : ℕ) → Counter
  Upward : (next last : ℤ) → Counter

-- where an instance stands: its pool's slot, its place there, its code, and its spawn number
pub record Seat : Type 0 where
  pub pool : ℕ
  pub place : ℕ
  pub code : ℕ
  pub number : ℕ

mutual
  pub data Residual : Type 0 where
    -- leaves; `Over` is a branch of a par that has ended
    Over : Residual
    Run : (level : ℕ) → Act → Residual
    WaitInput : (input : ℕ) → KNode → Residual
    WaitTime : (left : ℕ) → KNode → Residual
    WaitEvent : (event : ℕ) → KNode → Residual
    WaitForever : KNode → Residual
    InAsync : KNode → (served : Bool) → (inner : Residual) → Residual
    -- an open block: its registered finalizers with the last one first, the instances of its pools, the running part and the statements after it
    Block : KBlock → (registered : List KNode) → Instances → Residual → (rest : List KNode) → Residual
    -- open statements: Do and If, loops, awaited code, and Par
    Open : KNode → Residual → Residual
    Loop : KNode → Counter → Residual → Residual
    Call : KNode → Residual → Residual
    Par : KNode → Branches → Residual

  pub data Branches : Type 0 where
    no_branch : Branches
    branch : Residual → Branches → Branches

  -- in lexical order
  pub data Instances : Type 0 where
    no_instance : Instances
    instance : Seat → Residual → Instances → Instances
