-- The ways on which what is left of a part may be left in the reaction that goes on (this project's own): those of `quick`, with the parts that are open.
--
-- A trail that waits for an input, a time, FOREVER or an async goes nowhere in this reaction, and one that waits for an event may go on. `passing` says of
-- each code whether an await of it may go on at once.
use Rattle.std.specs.Prelude.{ℕ, zero, suc, ◌-◌, Bool, true, not, ◌&&◌, ◌||◌, if◌then◌else◌, List, [], ◌∷◌, ◌++◌, Some, None}
use Rattle.std.specs.List.{filter, list_any}
use Rattle.ceu_tree.specs.declared.kernel.KLoop.{KLoop}
use Rattle.ceu_tree.specs.declared.kernel.KLoop.TheVariants as turns
use Rattle.ceu_tree.specs.declared.kernel.KBlock.{KBlock, out-KBlock}
use Rattle.ceu_tree.specs.declared.kernel.KStmt.{out-KStmt}
use Rattle.ceu_tree.specs.declared.kernel.KStmt.TheOpen.{KStmt-F}
use Rattle.ceu_tree.specs.Residual.{Act, Begin, Start, Counter, Turns, Upward, Residual, Over, Run, WaitInput, WaitTime, WaitEvent, WaitForever, InAsync, Block, Open, Loop, Call, Par, Branches, no_branch, branch}
use Rattle.ceu_tree.specs.Leaf.{Layer}
use Rattle.ceu_tree.specs.Around.{is_over, kind_of}
use Rattle.ceu_tree.specs.Paths.{Way, ToEnd, is_end, is_escape, is_break, is_continue, has_end, end_if, constant_bound, is_range, loop_ways, seq_ways, par_ways, quick_node, quick_block, quick_list}
use Rattle.ceu_endings.specs.Counted.{turns_left}

-- ---- exits that an open part takes

abbrev pub leads_to : ℕ → Way → Bool
leads_to node w = is_escape node w || is_break node w || is_continue node w

-- out of a part: an exit that leads to it is its end
abbrev pub outward : ℕ → List Way → List Way
outward node = filter (λ w. not (is_end w || leads_to node w))

abbrev pub out_of : ℕ → List Way → List Way
out_of node q = outward node q ++ end_if (has_end q || list_any (leads_to node) q)

-- ---- loops

-- whether the body's end, or its loop's continue, is among the ways
abbrev pub goes_on : ℕ → List Way → Bool
goes_on node q = has_end q || list_any (is_continue node) q

abbrev pub stops : ℕ → List Way → Bool
stops node q = list_any (λ w. is_escape node w || is_break node w) q

-- how many turns a loop with a bound has still to begin
abbrev pub to_begin : KLoop → Counter → ℕ
to_begin (turns.Times slot n) (Turns k) = n - k
to_begin (turns.Range i next end open_a a b open_b) (Upward at last) = turns_left at last
to_begin k c = 1

-- from a loop's head: no other turn begins, or one does and then perhaps more of them
abbrev pub ways_of_turns : List Bool → ℕ → KLoop → KBlock → ℕ → List Way
ways_of_turns passing node k b zero = end_if (is_range k)
ways_of_turns passing node k b (suc n) = loop_ways node k (quick_block passing b)

abbrev pub head_ways : List Bool → ℕ → KLoop → KBlock → Counter → List Way
head_ways passing node k b c = elim (constant_bound k) [ None ↦ loop_ways node k (quick_block passing b) | Some n ↦ ways_of_turns passing node k b (to_begin k c) ]

-- of an open loop, whose turn may be left by q
abbrev pub ways_of_loop : List Bool → ℕ → Layer → Counter → List Way → List Way
ways_of_loop passing node (KStmt-F.Loop k b) c q =
    outward node q ++ (end_if (stops node q) ++ (if goes_on node q then head_ways passing node k b c else []))
ways_of_loop passing node layer c q = q

-- ---- what is left

abbrev pub act_ways : List Bool → Act → List Way
act_ways passing (Begin b) = out_of (out-KBlock b).node (quick_block passing b)
act_ways passing (Start s) = quick_node passing s
act_ways passing a = ToEnd ∷ []

module _ (passing : List Bool) where
  unfoldable mutual
    pub ways : Residual → List Way
    ways (Run n a) = act_ways passing a
    ways (WaitEvent e s) = ToEnd ∷ []
    ways (Block b fin all r rest) = out_of (out-KBlock b).node (seq_ways (ways r) (quick_list passing rest))
    ways (Open s r) = out_of s.node (ways r)
    ways (Loop s c r) = ways_of_loop passing s.node (out-KStmt s.stmt) c (ways r)
    ways (Call s r) = ways r
    ways (Par s bs) = par_ways (kind_of (out-KStmt s.stmt)) (ways_of_branches bs) (each_may_end bs)
    ways Over = []
    ways (WaitInput k s) = []
    ways (WaitTime d s) = []
    ways (WaitForever s) = []
    ways (InAsync s served r) = []

    pub ways_of_branches : Branches → List Way
    ways_of_branches no_branch = []
    ways_of_branches (branch r more) = ways r ++ ways_of_branches more

    pub each_may_end : Branches → Bool
    each_may_end no_branch = true
    each_may_end (branch r more) = (is_over r || has_end (ways r)) && each_may_end more
