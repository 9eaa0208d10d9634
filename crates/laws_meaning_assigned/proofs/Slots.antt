-- What is needed has a value: in the words of legality.
use Rattle.std.proofs.Common.{◌≡◌, refl, ◌≤◌, ℕ, Bool, true, false, not, ◌==◌, ◌&&◌, ◌||◌, List, [], ◌∷◌, Option, Some, None, arith, eq-eqb}
use Rattle.std.proofs.lemmas.Bool.{and_from}
use Rattle.ceu_tree.specs.declared.kernel.Kernel.{Kernel}
use Rattle.ceu_tree.specs.declared.kernel.KCode.{KCode}
use Rattle.ceu_tree.specs.declared.kernel.KDecl.{KDecl}
use Rattle.ceu_tree.specs.declared.kernel.KNode.{KNode}
use Rattle.ceu_tree.specs.declared.kernel.KBlock.{KBlock, out-KBlock}
use Rattle.ceu_tree.specs.declared.kernel.KStmt.{out-KStmt}
use Rattle.ceu_tree.specs.Residual.{Body, Awaited, Spawned, Residual, Over, Run, WaitInput, WaitTime, WaitEvent, WaitForever, InAsync, Block, Open, Loop, Call, Par, Branches, no_branch, branch, Instances, no_instance, instance}
use Rattle.ceu_tree.specs.World.{World}
use Rattle.ceu_tree.specs.Leaf.{code_at}
use Rattle.ceu_tree.specs.Legal.{before, is_set, called_code}
use Rattle.ceu_tree.specs.Mentions.{is_set_decl, body_target}
use Rattle.laws_meaning_values.specs.Ground.{has}
use Rattle.laws_meaning_values.specs.Needed.{some_done}
use Rattle.laws_meaning_values.specs.Ready.{declares}
use Rattle.laws_meaning_values.proofs.Stores.{same_self, or_left, or_right}
use Rattle.laws_meaning_assigned.specs.Needed.{own_target, block_asks, asked, given_needed, needed, needed_each, needed_all}
use Rattle.laws_meaning_assigned.specs.Slots.{declared_set, parameters_set, given_set, slots_set, branches_set, instances_set}
use Rattle.laws_meaning_assigned.proofs.Settled.{asked_yes}

implied : (p q : Bool) → (p ≡ true → q ≡ true) → (not p || q) ≡ true
implied true q h = h refl
implied false q h = refl

module _ (K : Kernel) (w : World) where
  declares_first : (d : KDecl) (ds : List KDecl) → is_set_decl d.kind ≡ true → declares d.slot (d ∷ ds) ≡ true
  declares_first d ds e = or_left ((d.slot == d.slot) && is_set_decl d.kind) (declares d.slot ds) (and_from (d.slot == d.slot) (is_set_decl d.kind) (eq-eqb d.slot d.slot refl) e)

  declared_all : (body : Body) (done : List KNode) (ds : List KDecl) → ((x : ℕ) → declares x ds ≡ true → is_set done x ≡ true → has body x w ≡ true) → declared_set K.codes w body done ds ≡ true
  declared_all body done [] h = refl
  declared_all body done (d ∷ ds) h =
      and_from (not (is_set_decl d.kind) || (not (is_set done d.slot) || has body d.slot w)) (declared_set K.codes w body done ds)
      (implied (is_set_decl d.kind) (not (is_set done d.slot) || has body d.slot w) (λ e. implied (is_set done d.slot) (has body d.slot w) (λ q. h d.slot (declares_first d ds e) q)))
      (declared_all body done ds (λ x e q. h x (or_right ((d.slot == x) && is_set_decl d.kind) (declares x ds) e) q))

  parameters_all : (body : Body) (ds : List KDecl) → ((x : ℕ) → declares x ds ≡ true → has body x w ≡ true) → parameters_set K.codes w body ds ≡ true
  parameters_all body [] h = refl
  parameters_all body (d ∷ ds) h =
      and_from (not (is_set_decl d.kind) || has body d.slot w) (parameters_set K.codes w body ds) (implied (is_set_decl d.kind) (has body d.slot w) (λ e. h d.slot (declares_first d ds e)))
      (parameters_all body ds (λ x e. h x (or_right ((d.slot == x) && is_set_decl d.kind) (declares x ds) e)))

  own_yes : (here : Body) (x : ℕ) (t : Bool) → t ≡ true → 1 ≤ asked K.codes here x here t
  own_yes here x t h = asked_yes K here x here t (same_self here) h

  given_all : (body : Body) (o : Option KCode) → ((b : Body) (x : ℕ) → 1 ≤ given_needed K.codes b x body o → has b x w ≡ true) → given_set K.codes w body o ≡ true
  given_all body None h = refl
  given_all body (Some c) h = parameters_all body c.params (λ x e. h body x (own_yes body x (declares x c.params) e))

  block_all : (body : Body) (c : KBlock) (done : List KNode) → ((b : Body) (x : ℕ) → 1 ≤ asked K.codes b x body (block_asks c done x) → has b x w ≡ true) → declared_set K.codes w body done (out-KBlock c).decls ≡ true
  block_all body c done h = declared_all body done (out-KBlock c).decls (λ x e q. h body x (own_yes body x (block_asks c done x)
      (or_left (declares x (out-KBlock c).decls && is_set done x) (own_target x (body_target c) && some_done done) (and_from (declares x (out-KBlock c).decls) (is_set done x) e q))))

  mutual
    unfolding needed slots_set

    pub tree_set : (r : Residual) (body : Body) → ((b : Body) (x : ℕ) → 1 ≤ needed K.codes b x body r → has b x w ≡ true) → slots_set K.codes w r body ≡ true
    tree_set (Block c fin all r rest) body h =
        and_from (declared_set K.codes w body (before (out-KBlock c).list rest) (out-KBlock c).decls) _ (block_all body c (before (out-KBlock c).list rest) (λ b x m. h b x (omega (arith, m))))
        (and_from (instances_set K.codes w all) _ (all_set all (λ b x m. h b x (omega (arith, m)))) (tree_set r body (λ b x m. h b x (omega (arith, m)))))
    tree_set (Open s r) body h = tree_set r body h
    tree_set (Loop s c r) body h = tree_set r body (λ b x m. h b x (omega (arith, m)))
    tree_set (Call s r) body h =
        and_from (given_set K.codes w (Awaited body s.node) (called_code K.codes (out-KStmt s.stmt))) _ (given_all (Awaited body s.node) (called_code K.codes (out-KStmt s.stmt)) (λ b x m. h b x (omega (arith, m))))
        (tree_set r (Awaited body s.node) (λ b x m. h b x (omega (arith, m))))
    tree_set (Par s bs) body h = each_set bs body h
    tree_set (InAsync s served r) body h = tree_set r body (λ b x m. h b x (omega (arith, m)))
    tree_set Over body h = refl
    tree_set (Run n a) body h = refl
    tree_set (WaitInput k s) body h = refl
    tree_set (WaitTime d s) body h = refl
    tree_set (WaitEvent e s) body h = refl
    tree_set (WaitForever s) body h = refl

    each_set : (bs : Branches) (body : Body) → ((b : Body) (x : ℕ) → 1 ≤ needed_each K.codes b x body bs → has b x w ≡ true) → branches_set K.codes w bs body ≡ true
    each_set no_branch body h = refl
    each_set (branch r more) body h = and_from (slots_set K.codes w r body) _ (tree_set r body (λ b x m. h b x (omega (arith, m)))) (each_set more body (λ b x m. h b x (omega (arith, m))))

    all_set : (all : Instances) → ((b : Body) (x : ℕ) → 1 ≤ needed_all K.codes b x all → has b x w ≡ true) → instances_set K.codes w all ≡ true
    all_set no_instance h = refl
    all_set (instance seat r more) h =
        and_from (given_set K.codes w (Spawned seat.number) (code_at seat.code K.codes)) _ (given_all (Spawned seat.number) (code_at seat.code K.codes) (λ b x m. h b x (omega (arith, m))))
        (and_from (slots_set K.codes w r (Spawned seat.number)) _ (tree_set r (Spawned seat.number) (λ b x m. h b x (omega (arith, m)))) (all_set more (λ b x m. h b x (omega (arith, m)))))
