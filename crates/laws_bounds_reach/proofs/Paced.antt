-- A trail that awaits an event at its place in the body of a loop that an event paces awaits that event, and what follows the await is the rest of the body.
use Rattle.std.proofs.Common.{◌≡◌, refl, sym, ap, ◌∙◌, ℕ, Bool, true, false, if◌then◌else◌, ◌&&◌, List, [], ◌∷◌, ◌++◌, drop, Option, Some, None}
use Rattle.std.proofs.lemmas.Bool.{false≢true}
use Rattle.std.specs.List.{list_all}
use Rattle.ceu_tree.specs.declared.kernel.KLoop.{KLoop}
use Rattle.ceu_tree.specs.declared.kernel.KNode.{KNode}
use Rattle.ceu_tree.specs.declared.kernel.KBlock.{KBlock, out-KBlock}
use Rattle.ceu_tree.specs.declared.kernel.KStmt.{KStmt, out-KStmt, AwaitEvent}
use Rattle.ceu_tree.specs.declared.kernel.KStmt.TheOpen.{KStmt-F}
use Rattle.ceu_tree.specs.Leaf.{Layer}
use Rattle.ceu_tree.specs.Costs.{Cost, no_bound, is_calm, calm_node, awaited_event, paced, paced_body, paced_nodes, enter_list, body_cost}
use Rattle.ceu_tree.proofs.CalmLaws.{paced_of_body}
use Rattle.ceu_tree.proofs.WokenLaws.{body_cost_of}
use denote.Hole.Carrier

-- ---- an await of an event

abbrev event_of : Layer → Option ℕ
event_of (KStmt-F.AwaitEvent e t) = Some e
event_of layer = None

awaited_is : (st : KStmt) → awaited_event st ≡ event_of (out-KStmt st)
unfolding out-KStmt Carrier.out
awaited_is (AwaitEvent k t) = refl
awaited_is st = refl

waits_not_calm : (st : KStmt) (e : ℕ) → awaited_event st ≡ Some e → is_calm st ≡ false
unfolding is_calm
waits_not_calm (AwaitEvent k t) e h = refl
waits_not_calm st e h = absurd (cc)

-- ---- the body

if_some : (b : Bool) (o : Option ℕ) (x : ℕ) → (if b then o else None) ≡ Some x → (b ≡ true) × (o ≡ Some x)
if_some true o x h = (refl, h)
if_some false o x h = absurd (cc)

pub paced_by_body : (k : KLoop) (b : KBlock) (x : ℕ) → paced k b ≡ Some x → paced_body b ≡ Some x
paced_by_body k b x h = (if_some (no_bound k) (paced_body b) x h).1

not_all : (done rest : List KNode) (s : KNode) → is_calm s.stmt ≡ false → list_all calm_node (done ++ s ∷ rest) ≡ false
not_all [] rest s h = ap (λ b. b && list_all calm_node rest) h
not_all (d ∷ done) rest s h = ap (λ b. calm_node d && b) (not_all done rest s h) ∙ and_false (calm_node d)
  where
    and_false : (b : Bool) → (b && false) ≡ false
    and_false true = refl
    and_false false = refl

same_event : (x j : ℕ) → Some x ≡ Some j → x ≡ j
same_event x j h = cc

module _ (P : List Bool) (E N : List Cost) where
  first_awaits : (done rest : List KNode) (s : KNode) (x j : ℕ) → awaited_event s.stmt ≡ Some j → paced_nodes (done ++ s ∷ rest) ≡ Some x
      → (x ≡ j) × (drop 1 (done ++ s ∷ rest) ≡ rest)
  first_awaits [] rest s x j a h = (same_event x j (sym (if_some (list_all calm_node rest) (awaited_event s.stmt) x h).1 ∙ a), refl)
  first_awaits (d ∷ done) rest s x j a h =
      absurd (false≢true (sym (not_all done rest s (waits_not_calm s.stmt j a)) ∙ (if_some (list_all calm_node (done ++ s ∷ rest)) (awaited_event d.stmt) x h).0))

  pub paced_await : (b : KBlock) (done rest : List KNode) (s : KNode) (x j : ℕ) (t : _) → paced_body b ≡ Some x → (out-KBlock b).list ≡ done ++ s ∷ rest → out-KStmt s.stmt ≡ KStmt-F.AwaitEvent j t
      → (x ≡ j) × (enter_list P E N rest ≡ body_cost P E N b)
  paced_await b done rest s x j t p z q =
      let first = first_awaits done rest s x j (awaited_is s.stmt ∙ ap event_of q) (sym (paced_of_body b ∙ ap paced_nodes z) ∙ p) in
      (first.0, ap (enter_list P E N) (sym first.1 ∙ ap (drop 1) (sym z)) ∙ sym (body_cost_of P E N b))
