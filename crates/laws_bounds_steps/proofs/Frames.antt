-- A part that pays, in the part around it.
use Rattle.std.proofs.Common.{◌≡◌, refl, sym, ap, subst, ℕ, Bool, true, false, if◌then◌else◌, ◌||◌, List, Option, Some, None}
use Rattle.std.proofs.lemmas.Bool.{false≢true}
use Rattle.ceu_tree.specs.declared.kernel.Kernel.{Kernel}
use Rattle.ceu_tree.specs.declared.kernel.KLoop.{KLoop}
use Rattle.ceu_tree.specs.declared.kernel.KBlock.{KBlock, out-KBlock}
use Rattle.ceu_tree.specs.declared.kernel.KStmt.{out-KStmt}
use Rattle.ceu_tree.specs.declared.kernel.KStmt.TheOpen.{KStmt-F}
use Rattle.ceu_tree.specs.Residual.{Counter, Seat, Residual, Run, Block, Branches, no_branch, branch, Instances, no_instance, instance}
use Rattle.ceu_tree.specs.Focus.{Frame, OfBlock, OfInstance, OfOpen, OfLoop, OfCall, OfPar, join, join_instances, fill}
use Rattle.ceu_tree.specs.Around.{is_over, kind_of}
use Rattle.ceu_tree.specs.Paths.{Way, is_end, has_end, quick_list}
use Rattle.ceu_tree.specs.Costs.{Cost, nothing, plus, no_bound, paced, paced_body}
use Rattle.laws_meaning_basics.specs.Shape.{Part, FrameFits, around_turn}
use Rattle.laws_bounds_steps.specs.Ways.{goes_on, ways, ways_of_branches, each_may_end}
use Rattle.laws_bounds_steps.specs.Due.{at_head, running, head_due, due_in_loop, due, due_of_branches, due_of_instances, due_at_head}
use Rattle.laws_bounds_steps.specs.Pays.{Within, Fewer, is_paced, Pays}
use Rattle.laws_bounds_steps.proofs.WayLists.{any_sub, and_sub, sub_append, sub_seq, sub_out, sub_loop, sub_par, goes_sub}
use Rattle.laws_bounds_steps.proofs.Cost.{same, chain, both, pays_first, pays_second, first, least, if_more}

pub paced_begins : (k : KLoop) (b : KBlock) (e : ℕ) → paced k b ≡ Some e → is_paced (paced_body b) ≡ true
paced_begins k b e h = go (no_bound k) h
  where
    go : (x : Bool) → (if x then paced_body b else None) ≡ Some e → is_paced (paced_body b) ≡ true
    go true i = ap is_paced i
    go false i = absurd (cc)

module _ (P : List Bool) (E N : List Cost) where
  -- ---- one of several branches, and of several instances

  pub branch_pays : (k : Cost) (front back : Branches) (q r : Residual) → Within (plus k (due P E N q)) (due P E N r)
      → Within (plus k (due_of_branches P E N (join front (branch q back)))) (due_of_branches P E N (join front (branch r back)))
  unfolding due
  branch_pays k no_branch back q r h = pays_first k _ _ _ _ h (same _)
  branch_pays k (branch x more) back q r h = pays_second k _ _ _ _ (same _) (branch_pays k more back q r h)

  pub branch_fewer : (front back : Branches) (q r : Residual) → Fewer (ways P q) (ways P r) → Fewer (ways_of_branches P (join front (branch q back))) (ways_of_branches P (join front (branch r back)))
  unfolding ways
  branch_fewer no_branch back q r h = sub_append _ _ _ _ h (λ w i. i)
  branch_fewer (branch x more) back q r h = sub_append (ways P x) _ _ _ (λ w i. i) (branch_fewer more back q r h)

  pub branch_ended : (front back : Branches) (q r : Residual) → ((is_over q || has_end (ways P q)) ≡ true → (is_over r || has_end (ways P r)) ≡ true)
      → each_may_end P (join front (branch q back)) ≡ true → each_may_end P (join front (branch r back)) ≡ true
  unfolding ways
  branch_ended no_branch back q r h = and_sub (is_over q || has_end (ways P q)) _ (is_over r || has_end (ways P r)) _ h (λ i. i)
  branch_ended (branch x more) back q r h = and_sub (is_over x || has_end (ways P x)) _ (is_over x || has_end (ways P x)) _ (λ i. i) (branch_ended more back q r h)

  pub instance_pays : (k : Cost) (front back : Instances) (seat : Seat) (q r : Residual) → Within (plus k (due P E N q)) (due P E N r)
      → Within (plus k (due_of_instances P E N (join_instances front (instance seat q back)))) (due_of_instances P E N (join_instances front (instance seat r back)))
  unfolding due
  instance_pays k no_instance back seat q r h = pays_first k _ _ _ _ h (same _)
  instance_pays k (instance s x more) back seat q r h = pays_second k _ _ _ _ (same _) (instance_pays k more back seat q r h)

  -- ---- the head of a paced loop costs no more than elsewhere

  running_less : (r : Residual) → Within (running r) (due P E N r)
  unfolding due
  running_less (Run n a) = first _ _ _ (same _)
  running_less r = least _

  pub head_less : (r : Residual) → Within (due_at_head P E N r) (due P E N r)
  unfolding due
  head_less (Run n a) = first _ _ _ (same _)
  head_less (Block b fin all r rest) = both _ _ _ _ (same _) (first _ _ _ (running_less r))
  head_less r = least _

  loop_costs : (node : ℕ) (kind : KLoop) (b : KBlock) (c : Counter) (k : Cost) (h g : Bool) (v w i j : Cost) (q p : List Way)
      → Within (plus k i) j → Fewer q p → Within v i → (is_paced (paced_body b) ≡ true → g ≡ true → (h ≡ true) × Within (plus k v) w)
      → Within (plus k (due_in_loop P E N node (KStmt-F.Loop kind b) c h v i q)) (due_in_loop P E N node (KStmt-F.Loop kind b) c g w j p)
  loop_costs node kind b c k h g v w i j q p x f l a = go (paced kind b) refl
    where
      at : (h g : Bool) → (g ≡ true → (h ≡ true) × Within (plus k v) w) → Within (plus k (if h then v else i)) (if g then w else j)
      at h true a = let y = a refl in subst (λ b. Within (plus k (if b then v else i)) w) (sym y.0) y.1
      at true false a = chain _ _ _ (both _ _ _ _ (same k) l) x
      at false false a = x

      go : (o : Option ℕ) → paced kind b ≡ o → Within
          (plus k (elim o [ Some e ↦ if h then v else i | None ↦ plus i (if goes_on node q then head_due P E N node kind b c else nothing) ]))
          (elim o [ Some e ↦ if g then w else j | None ↦ plus j (if goes_on node p then head_due P E N node kind b c else nothing) ])
      go (Some e) z = at h g (a (paced_begins kind b e z))
      go None z = pays_first k _ _ _ _ x (if_more _ _ _ (goes_sub node q p f))

  -- ---- a part in the part around it

  pub fill_pays : {K : Kernel} {t : ℕ} {fr : Frame} {d e : Part} (k : Cost) (q r : Residual) → FrameFits K t fr d e → Pays P E N e k q r → Pays P E N d k (fill fr q) (fill fr r)
  unfolding due ways
  fill_pays {fr = OfBlock b fin all rest} k q r x h =
      let f = sub_out (out-KBlock b).node _ _ (sub_seq (ways P q) (ways P r) (quick_list P rest) (quick_list P rest) h.fewer (λ w i. i)) in record {
        costs = pays_second k _ _ _ _ (same _) (pays_first k _ _ _ _ h.costs (if_more _ _ _ (any_sub is_end (ways P q) (ways P r) h.fewer)));
        fewer = f;
        ended = any_sub is_end _ _ f;
        head = λ p a. let y = h.await a in (y.0, pays_second k _ _ _ _ (same _) y.1);
        await = λ a. absurd (false≢true a);
      }
  fill_pays {fr = OfInstance b fin front seat back running rest} k q r x h = record {
    costs = pays_first k _ _ _ _ (instance_pays k front back seat q r h.costs) (same _);
    fewer = λ w i. i;
    ended = λ i. i;
    head = λ p a. (a, pays_first k _ _ _ _ (instance_pays k front back seat q r h.costs) (same _));
    await = λ a. absurd (false≢true a);
  }
  fill_pays {fr = OfOpen s} k q r x h =
      let f = sub_out s.node (ways P q) (ways P r) h.fewer in record {
        costs = h.costs;
        fewer = f;
        ended = any_sub is_end _ _ f;
        head = λ p a. absurd (false≢true a);
        await = λ a. absurd (false≢true a);
      }
  fill_pays {fr = OfLoop s c} k q r (around_turn kind b z o) h =
      let f = sub_loop P s.node (out-KStmt s.stmt) c (ways P q) (ways P r) h.fewer in record {
        costs = subst (λ l. Within (plus k (due_in_loop P E N s.node l c (at_head q) (due_at_head P E N q) (due P E N q) (ways P q))) (due_in_loop P E N s.node l c (at_head r) (due_at_head P E N r) (due P E N r) (ways P r))) (sym z)
            (loop_costs s.node kind b c k _ _ _ _ _ _ (ways P q) (ways P r) h.costs h.fewer (head_less q) h.head);
        fewer = f;
        ended = any_sub is_end _ _ f;
        head = λ p a. absurd (false≢true a);
        await = λ a. absurd (false≢true a);
      }
  fill_pays {fr = OfCall s} k q r x h = record {
    costs = h.costs;
    fewer = h.fewer;
    ended = any_sub is_end _ _ h.fewer;
    head = λ p a. absurd (false≢true a);
    await = λ a. absurd (false≢true a);
  }
  fill_pays {fr = OfPar s front back} k q r x h =
      let f = sub_par (kind_of (out-KStmt s.stmt)) _ _ _ _ (branch_fewer front back q r h.fewer) (branch_ended front back q r h.ended) in record {
        costs = branch_pays k front back q r h.costs;
        fewer = f;
        ended = any_sub is_end _ _ f;
        head = λ p a. absurd (false≢true a);
        await = λ a. absurd (false≢true a);
      }
