-- Blocks: what they declare is set in them, and from outside they name no slot but those that are shown.
use Rattle.std.proofs.Common.{◌≡◌, refl, sym, ap, ◌∙◌, subst, ℕ, ◌≤◌, ◌+◌, arith, List, [], ◌∷◌, ◌++◌, Option, Some, None, Result, Ok, Err, Bool, true}
use Rattle.std.specs.Prelude.{⊤}
use Rattle.ceu_base.specs.declared.kinds.Pos.{Pos}
use Rattle.ceu_tree.specs.declared.source.Label.{Label}
use Rattle.ceu_tree.specs.declared.source.Label.TheVariants as label
use Rattle.ceu_tree.specs.declared.source.Target.{Target}
use Rattle.ceu_tree.specs.declared.source.Target.TheVariants as target
use Rattle.ceu_tree.specs.declared.source.Await.{Await}
use Rattle.ceu_tree.specs.declared.source.Await.TheVariants as await
use Rattle.ceu_tree.specs.declared.source.Exp.{Exp}
use Rattle.ceu_tree.specs.declared.kernel.Loc.{Loc}
use Rattle.ceu_tree.specs.declared.kernel.KNode.{KNode}
use Rattle.ceu_tree.specs.declared.kernel.KExp.{KExp}
use Rattle.ceu_tree.specs.declared.kernel.KLoop.TheVariants as turns
use Rattle.ceu_tree.specs.declared.kernel.KArm.{KArm'}
use Rattle.ceu_tree.specs.declared.kernel.KBlock.{KBlock, roll-KBlock}
use Rattle.ceu_tree.specs.declared.kernel.KStmt as kernel
use Rattle.ceu_tree.specs.declared.kernel.KStmt.{KStmt}
use Rattle.ceu_tree.specs.Mentions.{exp_names, stmt_names, block_names, arm_names, count_of, is_loc, await_target, body_target, sets}
use Rattle.ceu_scopes.specs.declared.known.Scopes.{Scopes}
use Rattle.ceu_scopes.specs.declared.scope.Border.{Border}
use Rattle.ceu_scopes.specs.declared.walk.Walk.{Walk}
use Rattle.ceu_scopes.specs.Shown.{rest_of}
use Rattle.ceu_scopes.specs.Walk.{Broken, ◌>>=◌, opened, closed}
use Rattle.ceu_scopes.specs.Names.{exp_walked, if_exp_walked, target_walked, await_walked, labelled, unlabelled}
use Rattle.ceu_types.specs.declared.typing.Types.{Types}
use Rattle.ceu_expand.specs.declared.draft.Draft.{Draft}
use Rattle.ceu_expand.specs.declared.draft.Parts.{Parts}
use Rattle.ceu_expand.specs.Draft as draft
use Rattle.ceu_expand.specs.Draft.{begun, placed, outside, written, block_of, around_block}
use Rattle.ceu_expand.specs.Expressions.{exp_passed, exp_written}
use Rattle.ceu_expand.specs.Parts.{simple, nothing_in, await_written, target_passed, target_awaited, broken_if, awaited_and_asked, awaited_until, awaited}
use Rattle.laws_kernel_shape.proofs.Steps.{always_ok, always_then}
use Rattle.laws_kernel_shape.proofs.Frames.{frame_exp, frame_target}
use Rattle.laws_kernel_names.proofs.Holding.{parts_of, parts_begun, around_parts, left_by, starts}
use Rattle.laws_kernel_uses.specs.Settled.{StmtSettled, BlockSettled, ArmSettled}
use Rattle.laws_kernel_uses.proofs.Absent.{count_left, count_right}
use Rattle.laws_kernel_uses.proofs.Sets.{if_settled, rolled_settled, if_absent, rolled_absent, rolled_count, first_aim, rolled_aim}
use Rattle.laws_kernel_uses.proofs.Knowing.{Means, Knows, Outside, Step, step_then, Goes, calm_knows, calm_step, still, opened_step, closed_goes, labels_step}
use Rattle.laws_kernel_uses.proofs.Passing.{no_names, clear_step, Made, Gives, made_join, step_made, made_step, exp_made}
use Rattle.laws_kernel_uses.proofs.Parts.{HoldsIn, SetAll, SettledIn, PutsBy, Holding, put_as, put, Part, PartBy, part_then, same_part}
use Rattle.laws_kernel_uses.proofs.SettledSingle.{slot_of, loc_target, target_is, simple_put, simple_part, target_put, code_put}

pub bind_ok : (m : Result Walk Broken) (f : Walk → Result Walk Broken) (z : Walk) → (m >>= f) ≡ Ok z → (a : Walk) × (m ≡ Ok a) × (f a ≡ Ok z)
unfolding ◌>>=◌
bind_ok (Ok a) f z h = (a, refl, h)
bind_ok (Err r) f z h = absurd (cc)

bound_ok : (m : Result Walk Broken) (z : Walk) → (m >>= (λ u. Ok u)) ≡ Ok z → m ≡ Ok z
unfolding ◌>>=◌
bound_ok (Ok a) z h = h
bound_ok (Err r) z h = h

module _ (T : List (List ℕ)) where
  block_absent : (own : Bool) (n k : ℕ) (f : Draft → Draft) (d : Draft) → HoldsIn T n (f (draft.opened k d)).parts → count_of n (block_names own T (block_of k f d)) ≡ 0
  unfolding outside written
  block_absent own n k f d h = rolled_absent T own n d.node (f (draft.opened k d)).parts.decls (f (draft.opened k d)).parts.list (h own)

  pub block_settled : (k : ℕ) (f : Draft → Draft) (d : Draft) → SetAll T (f (draft.opened k d)).parts → SettledIn T (f (draft.opened k d)).parts → BlockSettled T (block_of k f d)
  unfolding outside written
  block_settled k f d h g = rolled_settled T d.node (f (draft.opened k d)).parts.decls (f (draft.opened k d)).parts.list h g

  pub opened_empty : (k : ℕ) (d : Draft) (n : ℕ) → HoldsIn T n (draft.opened k d).parts
  unfolding draft.opened
  opened_empty k d n own = tt

  pub opened_set : (k : ℕ) (d : Draft) → SetAll T (draft.opened k d).parts × SettledIn T (draft.opened k d).parts
  unfolding draft.opened
  opened_set k d = (tt, tt)

  pub opened_own : (k : ℕ) (d : Draft) → (draft.opened k d).parts.slot ≡ d.slot
  unfolding draft.opened
  opened_own k d = refl

  module _ (s : Scopes) where
    -- a block ends, in which that was written
    pub end_block : (k : ℕ) (f : Draft → Draft) (w u : Walk) (d : Draft) → let start = draft.opened k d in (f start).parts.slot ≡ start.slot → Part T s w start u (f start) →
        Made T s w d u (around_block k f d) (λ own. block_names own T (block_of k f d)) (BlockSettled T (block_of k f d))
    end_block k f w u d full part =
        let start = draft.opened k d in
        let e = around_block k f d in
        let st = starts k d in
        let left = left_by k f d in
        let own : start.parts.slot ≡ d.slot = opened_own k d in
        let slot : start.slot ≡ d.slot + k = st.slot in
        let last : e.slot ≡ (f start).slot = left.slot in
        let slots : start.slot ≤ (f start).slot = part.slots in
        let inside : (n : ℕ) → Knows T n w d → Knows T n w start = λ n. calm_knows T s n w d start st.uses st.numbers in
        let o1 : (n : ℕ) → Outside d.slot e.slot n → Outside start.slot (f start).slot n = λ n o lo hi. o (omega (arith, lo, slot)) (omega (arith, hi, last)) in
        let o2 : (n : ℕ) → Outside d.slot e.slot n → Outside start.parts.slot (f start).parts.slot n = λ n o lo hi. o (omega (arith, lo, own)) (omega (arith, hi, full, slots, last)) in
        record {
          step = record {
            fits = part.fits;
            slots = omega (arith, slot, slots, last);
            knows = λ n o k'. calm_knows T s n u (f start) e left.uses left.numbers (part.knows n (o1 n o) (o2 n o) (inside n k'));
            means = λ n k' m. subst (λ ns. Means T n ns k') (sym left.numbers) (part.means n k' (subst (λ ns. Means T n ns k') (sym st.numbers) m));
          };
          so = λ fits n o k' own'. block_absent own' n k f d (part.holds fits n (o1 n o) (o2 n o) (inside n k') (opened_empty k d n));
          whole = λ fits top up clear.
              let none = opened_set k d in
              let all =
              part.goes fits top (omega (arith, up, last)) (omega (arith, full)) (λ n le lt. inside n (clear n (omega (arith, le, slot)) lt))
              (λ n lo hi. (inside n (clear n (omega (arith, lo, own)) (omega (arith, hi, full, slots, last, up))), opened_empty k d n)) none.1 none.0 in
              block_settled k f d all.1 all.0;
        }

    -- a block of the text
    pub block_gives : (k : ℕ) (f : Draft → Draft) (border : Border) (w : Walk) (d : Draft) (x : Walk → Result Walk Broken) → let start = draft.opened k d in (f start).parts.slot ≡ start.slot → ((v : Walk) → PartBy T s v start (x v) (f start)) →
        Gives T s w d (x (opened border w) >>= closed) (around_block k f d) (λ own. block_names own T (block_of k f d)) (BlockSettled T (block_of k f d))
    block_gives k f border w d x full h =
        let start = draft.opened k d in
        let e = around_block k f d in
        let xs : Bool → List ℕ = λ own. block_names own T (block_of k f d) in
        let S = BlockSettled T (block_of k f d) in
        always_then (λ u. Part T s (opened border w) start u (f start)) (λ z. Made T s w d z e xs S) (x (opened border w)) closed (h (opened border w))
        (λ u part z i. made_step T s xs S (end_block k f w u d full (part_then T s (same_part T s refl (opened_step T s border w start)) part)) (closed_goes T s u e z i))

    -- a block without statements
    pub empty_block : (w : Walk) (d : Draft) → Made T s w d w (around_block 0 nothing_in d) (λ own. block_names own T (block_of 0 nothing_in d)) (BlockSettled T (block_of 0 nothing_in d))
    empty_block w d =
        let start = draft.opened 0 d in
        let own = opened_own 0 d in
        let slot = (starts 0 d).slot in
        end_block 0 nothing_in w w d (omega (arith, own, slot)) (same_part T s refl (still T s w start))

    -- ---- labels

    labelled_step : (l : Label) (w : Walk) (d : Draft) → Step T s w d (labelled l w) d
    labelled_step label.Plain w d = still T s w d
    labelled_step label.Under w d = still T s w d
    labelled_step (label.Named l) w d = labels_step T s (l.name ∷ w.labels) w d

    unlabelled_goes : (l : Label) (w : Walk) (d : Draft) → Goes T s w d (unlabelled l w) d
    unlabelled_goes label.Plain w d = always_ok (λ v. Step T s w d v d) w (still T s w d)
    unlabelled_goes label.Under w d = always_ok (λ v. Step T s w d v d) w (still T s w d)
    unlabelled_goes (label.Named l) w d = always_ok (λ v. Step T s w d v d) (record w { labels = rest_of w.labels }) (labels_step T s (rest_of w.labels) w d)

    draft_labelled : (l : Label) (n : ℕ) (w : Walk) (d : Draft) → Step T s w d w (draft.labelled l n d)
    unfolding draft.labelled
    draft_labelled label.Plain n w d = calm_step T s w d _ refl refl (omega arith)
    draft_labelled label.Under n w d = calm_step T s w d _ refl refl (omega arith)
    draft_labelled (label.Named x) n w d = calm_step T s w d _ refl refl (omega arith)

    draft_unlabelled : (l : Label) (w : Walk) (d : Draft) → Step T s w d w (draft.unlabelled l d)
    unfolding draft.unlabelled
    draft_unlabelled label.Plain w d = calm_step T s w d _ refl refl (omega arith)
    draft_unlabelled label.Under w d = calm_step T s w d _ refl refl (omega arith)
    draft_unlabelled (label.Named x) w d = calm_step T s w d _ refl refl (omega arith)

    pub do_gives : (l : Label) (n : ℕ) (xs : Bool → List ℕ) (S : Type 0) (w : Walk) (d c : Draft) (x : Walk → Result Walk Broken) → ((v : Walk) → Gives T s v (draft.labelled l n d) (x v) c xs S) →
        Gives T s w d (x (labelled l w) >>= unlabelled l) (draft.unlabelled l c) xs S
    do_gives l n xs S w d c x h =
        let inside = draft.labelled l n d in
        let enter = step_then T s (draft_labelled l n w d) (labelled_step l w inside) in
        always_then (λ v. Made T s (labelled l w) inside v c xs S) (λ v. Made T s w d v (draft.unlabelled l c) xs S) (x (labelled l w)) (unlabelled l) (h (labelled l w))
        (λ v m u e. made_step T s xs S (step_made T s xs S enter m) (step_then T s (unlabelled_goes l v c u e) (draft_unlabelled l u c)))

    module _ (t : Types) where
      -- ---- awaits with conditions

      loop_count : (own : Bool) (n : ℕ) (b : KBlock) → count_of n (stmt_names own T (kernel.Loop turns.Free b)) ≡ count_of n (block_names own T b)
      unfolding stmt_names
      loop_count own n b = refl

      loop_settled : (b : KBlock) → BlockSettled T b → StmtSettled T (kernel.Loop turns.Free b)
      unfolding StmtSettled
      loop_settled b h = h

      pub arm_absent : (own : Bool) (n : ℕ) (cond : KExp) (b : KBlock) → count_of n (exp_names own T cond ++ block_names own T b) ≡ 0 → count_of n (arm_names own T (KArm' cond b)) ≡ 0
      unfolding stmt_names
      arm_absent own n cond b h = h

      pub arm_settled : (cond : KExp) (b : KBlock) → BlockSettled T b → ArmSettled T (KArm' cond b)
      unfolding StmtSettled
      arm_settled cond b h = h

      break_part : (loop : ℕ) (p : Pos) (w : Walk) (d : Draft) → PartBy T s w d (Ok w) (simple p (kernel.Break loop) d)
      unfolding stmt_names StmtSettled
      break_part loop p w d = simple_part T s t p (kernel.Break loop) w d (λ n own. refl) tt

      simple_own : (p : Pos) (st : KStmt) (d : Draft) → (simple p st d).parts.slot ≡ d.parts.slot
      unfolding placed begun
      simple_own p st d = refl

      broken_if_absent : (own : Bool) (n : ℕ) (cond : KExp) (one two : KBlock) → count_of n ((exp_names own T cond ++ block_names own T one) ++ block_names own T two) ≡ 0 → count_of n (stmt_names own T (kernel.If (KArm' cond one ∷ []) two)) ≡ 0
      broken_if_absent own n cond one two u =
          let xs = exp_names own T cond ++ block_names own T one in
          let ys = block_names own T two in
          if_absent T own n (KArm' cond one ∷ []) two (arm_absent own n cond one (count_left n xs ys u), tt) (count_right n xs ys u)

      broken_put : (loop : ℕ) (p : Pos) (c : Exp) (w : Walk) (d : Draft) → PutsBy T s w d (exp_walked c w) (broken_if s t loop p c d) None no_names
      unfolding broken_if
      broken_put loop p c w d =
          let d' = begun d in
          let after = exp_passed c d' in
          let break = simple p (kernel.Break loop) in
          let behind = around_block 0 break after in
          let last = around_block 0 nothing_in behind in
          let cond = exp_written s t c d' in
          let one = block_of 0 break after in
          let two = block_of 0 nothing_in behind in
          let xs : Bool → List ℕ = λ own. exp_names own T cond in
          let ys : Bool → List ℕ = λ own. block_names own T one in
          let zs : Bool → List ℕ = λ own. block_names own T two in
          let xy : Bool → List ℕ = λ own. exp_names own T cond ++ block_names own T one in
          let all : Bool → List ℕ = λ own. (exp_names own T cond ++ block_names own T one) ++ block_names own T two in
          let start = draft.opened 0 after in
          let own0 = simple_own p (kernel.Break loop) start in
          let own1 = opened_own 0 after in
          let slot = (starts 0 after).slot in
          put T s p (kernel.If (KArm' cond one ∷ []) two) all ((⊤ × BlockSettled T one) × BlockSettled T two) None no_names w d last (exp_walked c w)
          (around_parts 0 nothing_in behind ∙ around_parts 0 break after ∙ parts_of d' after (frame_exp c d') ∙ parts_begun d) (λ m e. absurd (cc)) (λ n own u. broken_if_absent own n cond one two u)
          (λ u. if_settled T (KArm' cond one ∷ []) two (arm_settled cond one u.0.1, tt) u.1)
          (λ v k.
          let first = exp_made T s t c w d' v k in
          let second = end_block 0 break v v after (omega (arith, own0, own1, slot)) (break_part loop p v start v refl) in
          made_join T s xy zs (⊤ × BlockSettled T one) (BlockSettled T two) w v v d' behind last (made_join T s xs ys ⊤ (BlockSettled T one) w v v d' after behind first second) (empty_block v behind))

      target_list : (p : Pos) (into : Option Loc) (x : Target) (d : Draft) →
          (target_awaited s t p into x d).parts ≡ record d.parts { list = d.parts.list ++ record { node = d.node; pos = p; stmt = await_written s t p into x (begun d) } ∷ [] }
      unfolding target_awaited placed
      target_list p into x d =
          ap (λ (ps : Parts). record ps { list = ps.list ++ record { node = d.node; pos = p; stmt = await_written s t p into x (begun d) } ∷ [] }) (parts_of (begun d) (target_passed x (begun d)) (frame_target x (begun d)) ∙ parts_begun d)

      opened_list : (d : Draft) → (draft.opened 0 d).parts ≡ record { decls = []; list = []; slot = d.slot }
      unfolding draft.opened
      opened_list d = refl

      written_is : (f : Draft → Draft) (d : Draft) (list : List KNode) → (f (draft.opened 0 d)).parts ≡ record { decls = []; list = list; slot = d.slot } → block_of 0 f d ≡ roll-KBlock (record { node = d.node; decls = []; list = list })
      unfolding outside written
      written_is f d list h = ap (λ (ps : Parts). roll-KBlock (record { node = d.node; decls = ps.decls; list = ps.list })) h

      await_aim : (p : Pos) (into : Option Loc) (x : Target) (c : Draft) (m : ℕ) → slot_of into ≡ Some m → is_loc m (await_target (await_written s t p into x c)) ≡ true
      unfolding await_written
      await_aim p into (target.Ext x) c m h = target_is T into m h
      await_aim p into (target.Event x) c m h = target_is T into m h
      await_aim p into (target.Time us) c m h = target_is T into m h
      await_aim p into (target.TimeExp e unit) c m h = target_is T into m h

      loop_sets : (m : ℕ) (b : KBlock) → sets m (kernel.Loop turns.Free b) ≡ is_loc m (body_target b)
      loop_sets m b = refl

      more_aim : (list : List KNode) (one two : KNode) → list ≡ one ∷ two ∷ [] → first_aim list ≡ await_target one.stmt
      more_aim list one two h = ap first_aim h

      -- the loop of an `await` with a condition
      until_sets : (p : Pos) (into : Option Loc) (x : Target) (c : Exp) (d : Draft) (two : KNode) → let body = awaited_and_asked s t d.node p into x c in let middle = target_awaited s t p into x (draft.opened 0 (begun d)) in
          (body (draft.opened 0 (begun d))).parts ≡ record middle.parts { list = middle.parts.list ++ two ∷ [] } → (m : ℕ) → slot_of into ≡ Some m → sets m (kernel.Loop turns.Free (block_of 0 body (begun d))) ≡ true
      until_sets p into x c d two h m e =
          let d' = begun d in
          let start = draft.opened 0 d' in
          let body = awaited_and_asked s t d.node p into x c in
          let one : KNode = record { node = start.node; pos = p; stmt = await_written s t p into x (begun start) } in
          let all : (body start).parts ≡ record { decls = []; list = one ∷ two ∷ []; slot = d'.slot } =
          h ∙ ap (λ (ps : Parts). record ps { list = ps.list ++ two ∷ [] }) (target_list p into x start ∙ ap (λ (ps : Parts). record ps { list = ps.list ++ one ∷ [] }) (opened_list d')) in
          ap (λ b. is_loc m (body_target b)) (written_is body d' (one ∷ two ∷ []) all) ∙ ap (is_loc m) (rolled_aim d'.node [] (one ∷ two ∷ [])) ∙ await_aim p into x (begun start) m e

      until_put : (p : Pos) (into : Option Loc) (x : Target) (c : Exp) (w : Walk) (d : Draft) → PutsBy T s w d (target_walked x w >>= if_exp_walked (Some c)) (awaited_until s t p into x c d) (slot_of into) (loc_target T into)
      unfolding awaited_until
      until_put p into x c w d v k =
          let d' = begun d in
          let body = awaited_and_asked s t d.node p into x c in
          let start = draft.opened 0 d' in
          let middle = target_awaited s t p into x start in
          let fin = body start in
          let e = around_block 0 body d' in
          let made = block_of 0 body d' in
          let split = bind_ok (target_walked x w) (if_exp_walked (Some c)) v k in
          let u = split.0 in
          let one = target_put T s t p into x w start u split.1 in
          let two = broken_put d.node p c u middle v split.2 in
          let parts : fin.parts ≡ record { decls = []; list = one.one ∷ two.one ∷ []; slot = d'.slot } =
          two.parts ∙ ap (λ (ps : Parts). record ps { list = ps.list ++ two.one ∷ [] }) (one.parts ∙ ap (λ (ps : Parts). record ps { list = ps.list ++ one.one ∷ [] }) (opened_list d')) in
          let st = starts 0 d' in
          let left = left_by 0 body d' in
          let enter : Step T s w d' w start = calm_step T s w d' start st.uses st.numbers (let q = st.slot in omega (arith, q)) in
          let leave : Step T s v fin v e = calm_step T s v fin e left.uses left.numbers (let q = left.slot in omega (arith, q)) in
          let is : made ≡ roll-KBlock (record { node = d'.node; decls = []; list = one.one ∷ two.one ∷ [] }) = written_is body d' (one.one ∷ two.one ∷ []) parts in
          let a : d'.slot ≤ start.slot = enter.slots in
          let b : start.slot ≤ middle.slot = one.step.slots in
          let f : middle.slot ≤ fin.slot = two.step.slots in
          let g : fin.slot ≤ e.slot = leave.slots in
          let o1 : (n : ℕ) → Outside d'.slot e.slot n → Outside start.slot middle.slot n = λ n o lo hi. o (omega (arith, lo, a)) (omega (arith, hi, f, g)) in
          let o2 : (n : ℕ) → Outside d'.slot e.slot n → Outside middle.slot fin.slot n = λ n o lo hi. o (omega (arith, lo, a, b)) (omega (arith, hi, g)) in
          let o0 : (n : ℕ) → Outside d'.slot e.slot n → Outside d'.slot start.slot n = λ n o lo hi. o lo (omega (arith, hi, b, f, g)) in
          let holding : Holding T s (kernel.Loop turns.Free made) (loc_target T into) w d' v e =
          record {
            step = step_then T s enter (step_then T s one.step (step_then T s two.step leave));
            count = λ fits n o i own.
                let k1 = enter.knows n (o0 n o) i in
                let c1 = one.count (two.step.fits fits) n (o1 n o) k1 own in
                let c2 = two.count fits n (o2 n o) (one.step.knows n (o1 n o) k1) own in
                loop_count own n made ∙ ap (λ b. count_of n (block_names own T b)) is ∙ rolled_count T own n d'.node [] (one.one ∷ two.one ∷ []) ∙ omega (arith, c1, c2);
            settled = λ fits top up clear.
                let clear1 = clear_step T s enter top clear in
                let first = one.settled (two.step.fits fits) top (omega (arith, f, g, up)) clear1 in
                let second = two.settled fits top (omega (arith, g, up)) (clear_step T s one.step top clear1) in
                loop_settled made (subst (BlockSettled T) (sym is) (rolled_settled T d'.node [] (one.one ∷ two.one ∷ []) tt (first, (second, tt))));
          } in
          put_as T s p (kernel.Loop turns.Free made) (slot_of into) (loc_target T into) w d e (Ok v) (around_parts 0 body d' ∙ parts_begun d) (until_sets p into x c d two.one two.parts)
          (always_ok (λ z. Holding T s (kernel.Loop turns.Free made) (loc_target T into) w d' z e) v holding) v refl

      -- what sets a variable comes to an end
      abbrev pub Comes : Option Loc → Await → Type 0
      Comes (Some into) await.Forever = ⊥
      Comes into x = ⊤

      pub await_put : (p : Pos) (into : Option Loc) (x : Await) → Comes into x → (w : Walk) (d : Draft) → PutsBy T s w d (await_walked x w) (awaited s t p into x d) (slot_of into) (loc_target T into)
      unfolding awaited stmt_names StmtSettled
      await_put p None await.Forever k w d = simple_put T s t p kernel.Forever None no_names w d (λ m e. absurd (cc)) (λ n own. refl) tt
      await_put p (Some into) await.Forever k w d = absurd k
      await_put p into (await.Code c) k w d = code_put T s t p into c w d
      await_put p into (await.On x None) k w d = λ v e. target_put T s t p into x w d v (bound_ok (target_walked x w) v e)
      await_put p into (await.On x (Some c)) k w d = until_put p into x c w d
