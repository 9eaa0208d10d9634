-- Each part around a leaf, and all of them together, keep values, counters and what exits carry within what is around.
use Rattle.std.proofs.Common.{◌≡◌, refl, sym, ap, ◌∙◌, subst, ◌≤ℤ◌, ℕ, ◌+◌, ℤ, pos, ◌+ℤ◌, Bool, true, false, if◌then◌else◌, ◌==◌, List, [], ◌∷◌, ◌++◌, Some, None, Contains, arith}
use Rattle.std.specs.Prelude.{int_lt, int_le}
use Rattle.std.proofs.lemmas.Int.{ints}
use Rattle.std.proofs.lemmas.Bool.{and_parts}
use Rattle.std.proofs.lemmas.List.Elements.{Contains-append_right, Contains-push}
use Rattle.ceu_base.specs.declared.kinds.Ty.TheVariants as ty
use Rattle.ceu_base.specs.declared.kinds.Fault.TheVariants.{LoopLimit}
use Rattle.ceu_base.specs.Values.{least, above, IsValue}
use Rattle.ceu_tree.specs.declared.kernel.Kernel.{Kernel}
use Rattle.ceu_tree.specs.declared.kernel.KLoop.{KLoop}
use Rattle.ceu_tree.specs.declared.kernel.KLoop.TheVariants as turns
use Rattle.ceu_tree.specs.declared.kernel.Loc.{Loc}
use Rattle.ceu_tree.specs.declared.kernel.KNode.{KNode}
use Rattle.ceu_tree.specs.declared.kernel.KBlock.{KBlock}
use Rattle.ceu_tree.specs.declared.kernel.KStmt as kernel
use Rattle.ceu_tree.specs.declared.kernel.KStmt.{KStmt, out-KStmt}
use Rattle.ceu_tree.specs.declared.kernel.KStmt.TheOpen.{KStmt-F}
use Rattle.ceu_tree.specs.Residual.{Program, Act, Begin, Again, Counter, Free, Turns, Upward, Over, Loop, Open}
use Rattle.ceu_tree.specs.Focus.{OfOpen, OfLoop, Focus, Here, In, plug}
use Rattle.ceu_tree.specs.World.{World, Holds, set, assign, assign_if}
use Rattle.ceu_tree.specs.Abort.{aborted, forget_loop}
use Rattle.ceu_tree.specs.Leaf.{Layer, Exit, Escape, Break, Continue, target, target_of}
use Rattle.ceu_tree.specs.Around.{Goes, Fails, Past, moved, value_with, open_left, begins_turn, turn_of, next_turn, loop_left}
use Rattle.ceu_tree.specs.Proper.{Scope, do_aim, takes, stmt_ok, block_ok, with_aim, outside_finalizers}
use Rattle.laws_meaning_basics.specs.Shape.{AStatement, part_scope, turn_scope, opens_part}
use Rattle.laws_meaning_basics.proofs.Static.{StmtOk, names_of}
use Rattle.laws_meaning_values.proofs.Ranges.{value_from}
use Rattle.ceu_endings.specs.OneTrail.{PlainFocus}
use Rattle.ceu_trail.specs.Within.{Variable, turned, looped, in_focus, in_rest, ValuesWithin, CountsWithin, counter_within, focus_within, act_brings, rest_within}
use Rattle.ceu_within.proofs.Widths.{variable, nothing_more, ungroup, set_within, loop_gone, aborted_within}
use Rattle.ceu_within.proofs.Scopes.{ScopeIn, TargetIn, target_in}
use Rattle.ceu_within.proofs.Around.{zero_value, exit_carries, Inside, into, escape_taken, escape_further, flip}
use denote.Hole.Carrier

-- ---- targets of do

do_takes_layer : Kernel → Scope → Layer → Type 0
do_takes_layer K sc (KStmt-F.Do (Some l) b) = takes K sc l.ty l ≡ true
do_takes_layer K sc layer = Unit {0}

do_takes : (K : Kernel) (sc : Scope) (n : ℕ) (st : KStmt) → stmt_ok K (names_of K) sc n st ≡ true → do_takes_layer K sc (out-KStmt st)
unfolding stmt_ok out-KStmt Carrier.out do_takes_layer
do_takes K sc n (kernel.Do None b) h = tt
do_takes K sc n (kernel.Do (Some l) b) h = (and_parts (outside_finalizers sc.place) (takes K sc l.ty l) (and_parts _ (block_ok K (names_of K) (with_aim (do_aim K n (Some l)) sc) b) h).0).1
do_takes K sc n st h = tt

pub assigned : (l : Loc) (v : ℤ) (vs : List Variable) (w : World) → TargetIn l l.ty vs → IsValue l.ty v → ValuesWithin vs w → ValuesWithin vs (assign Program l v w)
assigned l v vs w t i h = subst (λ b. ValuesWithin vs (set b l.slot (Holds v) w)) (sym (own l.outer)) (set_within vs l.slot l.ty v w t.there i h)
  where
    own : (b : Bool) → (if b then Program else Program) ≡ Program
    own true = refl
    own false = refl

module _ (K : Kernel) (vs : List Variable) (sc : Scope) (s : KNode) (scope : ScopeIn sc vs) (ok : StmtOk K (names_of K) sc s) where
  do_given : (layer : Layer) (b : KBlock) → out-KStmt s.stmt ≡ layer → opens_part layer b → (v : ℤ) (w : World) → ((l : Loc) → target_of layer ≡ Some l → IsValue l.ty v) → ValuesWithin vs w → ValuesWithin vs (assign_if Program (target_of layer) v w)
  unfolding do_takes_layer
  do_given (KStmt-F.Do None c) b e o v w i h = h
  do_given (KStmt-F.Do (Some l) c) b e o v w i h = assigned l v vs w (target_in K sc l l.ty vs scope (subst (do_takes_layer K sc) e (do_takes K sc s.node s.stmt ok))) (i l refl) h
  do_given (KStmt-F.If arms last) b e o v w i h = h
  do_given layer b e o v w i h = elim o [ ]

  pub part_given : (b : KBlock) → opens_part (out-KStmt s.stmt) b → (v : ℤ) (w : World) → ((l : Loc) → target s ≡ Some l → IsValue l.ty v) → ValuesWithin vs w → ValuesWithin vs (assign_if Program (target s) v w)
  part_given b o v w i h = do_given (out-KStmt s.stmt) b refl o v w i h

  exit_taken : (layer : Layer) (b : KBlock) → out-KStmt s.stmt ≡ layer → opens_part layer b → (node : ℕ) (x : Exit) → (s.node == node) ≡ true → exit_carries (part_scope K sc s.node layer).aims node x → (l : Loc) → target_of layer ≡ Some l → IsValue l.ty (value_with x)
  exit_taken (KStmt-F.Do None c) b e o node x z h l q = absurd (cc)
  exit_taken (KStmt-F.Do (Some m) c) b e o node x z h l q = escape_taken s (Some m) sc.aims K node x z h l q
  exit_taken (KStmt-F.If arms last) b e o node x z h l q = absurd (cc)
  exit_taken layer b e o node x z h l q = elim o [ ]

  exit_further : (layer : Layer) (b : KBlock) → opens_part layer b → (node : ℕ) (x : Exit) → (s.node == node) ≡ false → exit_carries (part_scope K sc s.node layer).aims node x → exit_carries sc.aims node x
  exit_further (KStmt-F.Do None c) b o node x z h = escape_further s None sc.aims K node x z h
  exit_further (KStmt-F.Do (Some m) c) b o node x z h = escape_further s (Some m) sc.aims K node x z h
  exit_further (KStmt-F.If arms last) b o node x z h = h
  exit_further layer b o node x z h = elim o [ ]

  -- ---- do and if

  module _ (whole : Bool) (b : KBlock) (o : opens_part (out-KStmt s.stmt) b) (f : Focus Act) (inner : PlainFocus f) (w : World) where
    pub open_over : ValuesWithin (vs ++ []) w → ValuesWithin (vs ++ in_rest (Open s Over)) w × rest_within K (Open s Over)
    unfolding in_rest rest_within
    open_over h = (h, tt)

    pub open_ends : (v : ℤ) → ValuesWithin (vs ++ []) w × (v ≡ pos 0) → ValuesWithin vs (assign_if Program (target s) v w)
    open_ends v h = part_given b o v w (λ l q. subst (IsValue l.ty) (sym h.1) (zero_value l.ty)) (nothing_more vs w h.0)

    pub open_exit : (t : Bool) (node : ℕ) (x : Exit) → (node == s.node) ≡ t → ValuesWithin ((vs ++ []) ++ in_focus f) w × exit_carries (part_scope K sc s.node (out-KStmt s.stmt)).aims node x
        → Inside K whole (AStatement sc s) vs (In (OfOpen s) f) (open_left t s f Program node x w).outcome (open_left t s f Program node x w).world
    open_exit true node x e h =
        part_given b o (value_with x) (aborted (plug f Over) Program w) (exit_taken (out-KStmt s.stmt) b refl o node x (flip node s.node true e) h.1)
        (nothing_more vs (aborted (plug f Over) Program w) (aborted_within f (vs ++ []) w inner h.0))
    open_exit false node x e h = (ungroup vs [] (in_focus f) w h.0, exit_further (out-KStmt s.stmt) b o node x (flip node s.node false e) h.1)

  -- ---- loops

  module _ (whole : Bool) (k : KLoop) (b : KBlock) (e : out-KStmt s.stmt ≡ KStmt-F.Loop k b) (c : Counter) (count : counter_within c) where
    own_is : turned k ≡ looped (out-KStmt s.stmt)
    own_is = sym (ap looped e)

    pub loop_goes : (d : Counter) (a : Act) (f : Focus Act) (u : World) → counter_within d → act_brings K a → ValuesWithin (vs ++ looped (out-KStmt s.stmt)) u → Inside K whole (AStatement sc s) vs f (Goes (In (OfLoop s d) (Here a))) u
    unfolding focus_within
    loop_goes d a f u n i h = (into vs (looped (out-KStmt s.stmt)) u h, (n, tt), i)

    pub loop_over : (u : World) → ValuesWithin (vs ++ looped (out-KStmt s.stmt)) u → ValuesWithin (vs ++ in_rest (Loop s c Over)) u × rest_within K (Loop s c Over)
    unfolding in_rest rest_within
    loop_over u h = (into vs (looped (out-KStmt s.stmt)) u h, (count, tt))

    counts_on : (next last : ℤ) → int_lt last next ≡ false → CountsWithin next last → CountsWithin (next +ℤ pos 1) last × IsValue ty.S32 next
    counts_on next last z n =
        let a = n.from in let p = n.to in let q = n.last_from in let r = n.last_to in
        (record { from = le_is (least ty.S32) (next +ℤ pos 1) (omega (arith, ints, a)); to = le_is (next +ℤ pos 1) (above ty.S32) (omega (arith, ints, r, z)); last_from = q; last_to = r }, value_from ty.S32 next (omega (arith, ints, a)) (omega (arith, ints, r, z)))
      where
        le_is : (x y : ℤ) → x ≤ℤ y → int_le x y ≡ true
        le_is x y h = go (int_le x y) refl
          where
            go : (t : Bool) → int_le x y ≡ t → int_le x y ≡ true
            go true g = g
            go false g = absurd (omega (arith, ints, g, h))

    loop_turn : (f : Focus Act) (w : World) (j : KLoop) → k ≡ j → (d : Counter) → counter_within d → ValuesWithin (vs ++ looped (out-KStmt s.stmt)) w
        → Inside K whole (AStatement sc s) vs f (turn_of s j b d Program w).outcome (turn_of s j b d Program w).world
    loop_turn f w turns.Free q d n h = loop_goes d (Begin b) f w n tt h
    loop_turn f w (turns.Times slot limit) q Free n h = loop_goes Free (Begin b) f w tt tt h
    loop_turn f w (turns.Times slot limit) q (Upward v last) n h = loop_goes (Upward v last) (Begin b) f w n tt h
    loop_turn f w (turns.Times slot limit) q (Turns i) n h = go (i == limit)
      where
        go : (t : Bool) → Inside K whole (AStatement sc s) vs f (if t then moved (Fails (LoopLimit, s.pos) (Loop s (Turns i) Over)) w else begins_turn s (Turns (i + 1)) b w).outcome (if t then moved (Fails (LoopLimit, s.pos) (Loop s (Turns i) Over)) w else begins_turn s (Turns (i + 1)) b w).world
        go true = tt
        go false = loop_goes (Turns (i + 1)) (Begin b) f w tt tt h
    loop_turn f w (turns.Range i next end open_a x y open_b) q Free n h = loop_goes Free (Begin b) f w tt tt h
    loop_turn f w (turns.Range i next end open_a x y open_b) q (Turns m) n h = loop_goes (Turns m) (Begin b) f w tt tt h
    loop_turn f w (turns.Range i next end open_a x y open_b) q (Upward v last) n h = go (int_lt last v) refl
      where
        own : looped (out-KStmt s.stmt) ≡ variable i ty.S32 ∷ []
        own = sym own_is ∙ ap turned q

        there : Contains (vs ++ looped (out-KStmt s.stmt)) (variable i ty.S32)
        there = Contains-append_right vs (looped (out-KStmt s.stmt)) (variable i ty.S32) (subst (λ l. Contains l (variable i ty.S32)) (sym own) (Contains-push [] (variable i ty.S32)))

        go : (t : Bool) → int_lt last v ≡ t → Inside K whole (AStatement sc s) vs f (if t then moved Past (forget_loop Program s.stmt w) else begins_turn s (Upward (v +ℤ pos 1) last) b (set Program i (Holds v) w)).outcome
            (if t then moved Past (forget_loop Program s.stmt w) else begins_turn s (Upward (v +ℤ pos 1) last) b (set Program i (Holds v) w)).world
        go true z = loop_gone vs s w h
        go false z =
            let a = counts_on v last z n in
            loop_goes (Upward (v +ℤ pos 1) last) (Begin b) f (set Program i (Holds v) w) a.0 tt (set_within (vs ++ looped (out-KStmt s.stmt)) i ty.S32 v w there a.1 h)

    pub loop_turns : (f : Focus Act) (w : World) → ValuesWithin (vs ++ looped (out-KStmt s.stmt)) w → Inside K whole (AStatement sc s) vs f (next_turn s (out-KStmt s.stmt) c Program w).outcome (next_turn s (out-KStmt s.stmt) c Program w).world
    loop_turns f w h = subst (λ l. Inside K whole (AStatement sc s) vs f (next_turn s l c Program w).outcome (next_turn s l c Program w).world) (sym e) (loop_turn f w k refl c count h)

    pub loop_exits : (t : Bool) (f : Focus Act) (w : World) (node : ℕ) (x : Exit) → PlainFocus f → ValuesWithin ((vs ++ looped (out-KStmt s.stmt)) ++ in_focus f) w × exit_carries sc.aims node x
        → Inside K whole (AStatement sc s) vs (In (OfLoop s c) f) (loop_left t s c f Program node x w).outcome (loop_left t s c f Program node x w).world
    loop_exits true f w node Continue p h = loop_goes c Again (In (OfLoop s c) f) (aborted (plug f Over) Program w) count tt (aborted_within f (vs ++ looped (out-KStmt s.stmt)) w p h.0)
    loop_exits true f w node Break p h = loop_gone vs s (aborted (plug f Over) Program w) (aborted_within f (vs ++ looped (out-KStmt s.stmt)) w p h.0)
    loop_exits true f w node (Escape v) p h = loop_gone vs s (aborted (plug f Over) Program w) (aborted_within f (vs ++ looped (out-KStmt s.stmt)) w p h.0)
    loop_exits false f w node x p h = (ungroup vs (looped (out-KStmt s.stmt)) (in_focus f) w h.0, h.1)

    pub turn_carries : (j : KLoop) (node : ℕ) (x : Exit) → exit_carries (turn_scope K sc s.node j).aims node x → exit_carries sc.aims node x
    turn_carries turns.Free node (Escape v) h = h
    turn_carries (turns.Times slot n) node (Escape v) h = h
    turn_carries (turns.Range i next end open_a x y open_b) node (Escape v) h = h
    turn_carries j node Break h = tt
    turn_carries j node Continue h = tt
