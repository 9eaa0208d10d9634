-- Numbers of nodes below a bound, and the nodes to which the exits of a place lead.
use Rattle.std.proofs.Common.{◌≡◌, refl, ap, ◌∙◌, subst, ℕ, suc, ◌+◌, ◌<◌, ◌≤◌, Bool, true, false, List, [], ◌∷◌, ◌++◌, length, ◌==◌, ◌&&◌, ◌||◌, if◌then◌else◌, Option, Some, None, arith}
use Rattle.std.specs.List.{list_any}
use Rattle.std.proofs.lemmas.Bool.{eqb-true, and_parts, false≢true}
use Rattle.std.proofs.lemmas.List.{length-append}
use Rattle.ceu_base.specs.declared.kinds.Ty.TheVariants as ty
use Rattle.ceu_tree.specs.declared.kernel.Kernel.{Kernel}
use Rattle.ceu_tree.specs.declared.kernel.KExp.{KExp}
use Rattle.ceu_tree.specs.declared.kernel.KLoop.{KLoop}
use Rattle.ceu_tree.specs.declared.kernel.KLoop.TheVariants as turns
use Rattle.ceu_tree.specs.declared.kernel.Loc.{Loc}
use Rattle.ceu_tree.specs.declared.kernel.KBlock.{KBlock, KBlock', out-KBlock}
use Rattle.ceu_tree.specs.Numbering.{block_nodes, list_nodes, counts_from}
use Rattle.ceu_tree.specs.Proper.{Scope, Aim, DoAim, BodyAim, LoopAim, with_turns, do_aim, gives_if, escape_ok, is_loop_aim}
use Rattle.ceu_shape.specs.Searches.{node_of_block}
use denote.Hole.Carrier

pub both_hold : (x y : Bool) → (x && y) ≡ true → (x ≡ true) × (y ≡ true)
both_hold x y h = ((and_parts x y h).0, (and_parts x y h).1)

module _ (count : ℕ) where
  -- these nodes are numbered from one on, and there are fewer than `count` in all
  pub record Ground (first : ℕ) (nodes : List ℕ) : Type 0 where
    pub counts : counts_from first nodes ≡ true
    pub fits : first + length nodes ≤ count

  pub ground_head : (first n : ℕ) (ns : List ℕ) → Ground first (n ∷ ns) → (n ≡ first) × ((n < count) × Ground (first + 1) ns)
  ground_head first n ns g =
      let h = and_parts (n == first) (counts_from (first + 1) ns) g.counts in
      let e : n ≡ first = eqb-true n first h.0 in
      (e, (omega (arith, e, g.fits), record { counts = h.1; fits = omega (arith, g.fits) }))

  counts_append : (first : ℕ) (a b : List ℕ) → counts_from first (a ++ b) ≡ true → (counts_from first a ≡ true) × (counts_from (first + length a) b ≡ true)
  counts_append first [] b h = (refl, subst (λ (k : ℕ). counts_from k b ≡ true) (omega arith) h)
  counts_append first (n ∷ a) b h =
      let x = and_parts (n == first) (counts_from (first + 1) (a ++ b)) h in
      let ih = counts_append (first + 1) a b x.1 in
      let e : first + 1 + length a ≡ first + suc (length a) = omega arith in
      (ap (λ y. y && counts_from (first + 1) a) x.0 ∙ ih.0, subst (λ (k : ℕ). counts_from k b ≡ true) e ih.1)

  pub ground_append : (first : ℕ) (a b : List ℕ) → Ground first (a ++ b) → Ground first a × Ground (first + length a) b
  ground_append first a b g =
      let h = counts_append first a b g.counts in
      (record { counts = h.0; fits = omega (arith, g.fits, length-append a b) }, record { counts = h.1; fits = omega (arith, g.fits, length-append a b) })

  -- a block's own node comes first
  pub block_ground : (first : ℕ) (b : KBlock) → Ground first (block_nodes b) → (node_of_block b ≡ first) × (node_of_block b < count)
  unfolding block_nodes
  block_ground first (KBlock' n ds x list) g = let h = ground_head first n (list_nodes list) g in (h.0, h.1.0)

  -- ---- exits

  -- behind what an exit leaves; a continue leads to the end of a loop's body, whose node is the next one
  abbrev pub AimWithin : Aim → Type 0
  AimWithin (DoAim m t) = m < count
  AimWithin (BodyAim m t) = m < count
  AimWithin (LoopAim m) = m + 1 < count

  abbrev pub AimsWithin : List Aim → Type 0
  AimsWithin [] = Unit {0}
  AimsWithin (a ∷ aims) = AimWithin a × AimsWithin aims

  here_or : (m n : ℕ) (x y : Bool) → n < count → (y ≡ true → m < count) → (if n == m then x else y) ≡ true → m < count
  here_or m n x y low more h = go (n == m) refl h
    where
      go : (b : Bool) → (n == m) ≡ b → (if b then x else y) ≡ true → m < count
      go true e h = omega (arith, eqb-true n m e, low)
      go false e h = more h

  pub escape_within : (K : Kernel) (sc : Scope) (m : ℕ) (e : Option KExp) (aims : List Aim) → AimsWithin aims → escape_ok K sc m e aims ≡ true → m < count
  escape_within K sc m e [] low h = absurd (false≢true h)
  escape_within K sc m e (DoAim n None ∷ aims) low h = here_or m n (gives_if K sc ty.None e) (escape_ok K sc m e aims) low.0 (escape_within K sc m e aims low.1) h
  escape_within K sc m e (DoAim n (Some t) ∷ aims) low h = here_or m n (gives_if K sc t e) (escape_ok K sc m e aims) low.0 (escape_within K sc m e aims low.1) h
  escape_within K sc m e (BodyAim n t ∷ aims) low h = here_or m n (gives_if K sc t e) (escape_ok K sc m e aims) low.0 (escape_within K sc m e aims low.1) h
  escape_within K sc m e (LoopAim n ∷ aims) low h = escape_within K sc m e aims low.1 h

  pub loop_within : (K : Kernel) (m : ℕ) (aims : List Aim) → AimsWithin aims → list_any (is_loop_aim K m) aims ≡ true → m + 1 < count
  loop_within K m [] low h = absurd (false≢true h)
  loop_within K m (DoAim n t ∷ aims) low h = loop_within K m aims low.1 h
  loop_within K m (BodyAim n t ∷ aims) low h = loop_within K m aims low.1 h
  loop_within K m (LoopAim n ∷ aims) low h = go (m == n) refl (λ more. loop_within K m aims low.1 more) h
    where
      go : (b : Bool) → (m == n) ≡ b → (list_any (is_loop_aim K m) aims ≡ true → m + 1 < count) → (b || list_any (is_loop_aim K m) aims) ≡ true → m + 1 < count
      go true e rest h = omega (arith, eqb-true m n e, low.0)
      go false e rest h = rest h

  pub do_within : (K : Kernel) (n : ℕ) (t : Option Loc) → n < count → AimWithin (do_aim K n t)
  do_within K n None h = h
  do_within K n (Some l) h = h

  pub turns_within : (K : Kernel) (k : KLoop) (sc : Scope) → AimsWithin sc.aims → AimsWithin (with_turns K k sc).aims
  turns_within K turns.Free sc h = h
  turns_within K (turns.Times slot n) sc h = h
  turns_within K (turns.Range i next end open_a a b open_b) sc h = h

pub out_node : (b : KBlock) → (out-KBlock b).node ≡ node_of_block b
unfolding out-KBlock Carrier.out
out_node (KBlock' n ds x list) = refl
