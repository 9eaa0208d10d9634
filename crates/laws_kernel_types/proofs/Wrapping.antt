-- What begins and ends around a block: finalizers, asyncs, labels, statements.
use Rattle.std.proofs.Common.{◌≡◌, refl, sym, ap, ◌∙◌, subst, ℕ, length, arith, List, [], ◌∷◌, ◌++◌, Option, Ok, Bool, true, false}
use Rattle.std.specs.Prelude.{IsTrue, not}
use Rattle.ceu_base.specs.declared.kinds.Ty.{Ty}
use Rattle.ceu_base.specs.declared.kinds.Pos.{Pos}
use Rattle.ceu_base.specs.declared.kinds.Rule.TheVariants.{T6}
use Rattle.ceu_tree.specs.declared.source.Label.{Label}
use Rattle.ceu_tree.specs.declared.source.Label.TheVariants as label
use Rattle.ceu_tree.specs.declared.kernel.Kernel.{Kernel}
use Rattle.ceu_tree.specs.Proper.{Where, InTrail, InsideAsync, InFinalizer, is_trail}
use Rattle.ceu_scopes.specs.declared.known.Scopes.{Scopes}
use Rattle.ceu_scopes.specs.declared.scope.Border.{Border}
use Rattle.ceu_scopes.specs.declared.walk.Walk.{Walk}
use Rattle.ceu_scopes.specs.Shown.{rest_of}
use Rattle.ceu_scopes.specs.Walk as walk
use Rattle.ceu_types.specs.declared.typing.Types.{Types}
use Rattle.ceu_types.specs.declared.found.Found.{Found}
use Rattle.ceu_types.specs.declared.found.LabelTarget.{LabelTarget}
use Rattle.ceu_types.specs.Notes.{asks_own, not_in_every, not_in_async, not_in_finalizer, begun, ended_after, ended}
use Rattle.ceu_types.specs.Around as types
use Rattle.ceu_types.specs.Statements.{waits, acts, every_ended, finalizer_begun, finalizer_ended, async_ended}
use Rattle.ceu_expand.specs.declared.draft.Draft.{Draft}
use Rattle.ceu_expand.specs.declared.draft.LabelNode.{LabelNode}
use Rattle.ceu_expand.specs.Draft as draft
use Rattle.laws_kernel_shape.proofs.Fine.{Fine, Allows, fine_as, fine_own, fine_every, fine_acts, fine_waits}
use Rattle.laws_kernel_shape.proofs.Beside.{Alike, Level}
use Rattle.laws_kernel_shape.proofs.Beside as exits
use Rattle.laws_kernel_shape.proofs.Beside.{own_names, own_labels}
use Rattle.laws_kernel_shape.proofs.Held.{dropped_target, dropped_node}
use Rattle.laws_kernel_types.proofs.Noting as noting
use Rattle.laws_kernel_types.proofs.Noting.{Prefix, prefix_as, own_types}
use Rattle.laws_kernel_types.proofs.Meaning.{Means}
use Rattle.laws_kernel_types.proofs.Naming.{Ends, closed_ok, opened_now, opened_ends, opened_rest}
use Rattle.laws_kernel_types.proofs.Running.{Step, Run}
use Rattle.laws_kernel_names.proofs.Stepping.{rest_all}

module _ (s : Scopes) where
  -- ---- finalizers

  pub allows_trail : (place : Where) (f : Found) → IsTrue (is_trail place) → Allows place f
  allows_trail InTrail f h = tt
  allows_trail InsideAsync f h = absurd (cc)
  allows_trail InFinalizer f h = absurd (cc)

  pub not_true : (b : Bool) → not b ≡ true → b ≡ false
  not_true true h = absurd (cc)
  not_true false h = refl

  pub finalizer_names : (f : Found) → (finalizer_begun f).names ≡ f.names
  unfolding finalizer_begun
  finalizer_names f = refl

  pub finalizer_labels : (f : Found) → (finalizer_begun f).labels ≡ f.labels
  unfolding finalizer_begun
  finalizer_labels f = refl

  pub finalizer_level : (f : Found) (d : Draft) → Level s f d → Level s (finalizer_begun f) (draft.begun d)
  unfolding finalizer_begun draft.begun
  finalizer_level f d h = h

  pub fine_closed : (place : Where) (g : Found) → Fine place (finalizer_ended g) → IsTrue (is_trail place) × Fine InFinalizer g
  unfolding finalizer_ended
  fine_closed place g h =
      let a = fine_acts place (asks_own (not g.beyond_finalizer) T6 g) h in
      let o = fine_own place (not g.beyond_finalizer) T6 g a.0 in
      let k : Fine place g = o.1 in
      (a.1, record { broken = k.broken; own = k.own; allows = not_true g.beyond_finalizer o.0 })

  pub fine_opened : (place : Where) (f : Found) → IsTrue (is_trail place) → Fine InFinalizer (finalizer_begun f) → Fine place f
  unfolding finalizer_begun
  fine_opened place f trail h = record { broken = h.broken; own = h.own; allows = allows_trail place f trail }

  pub closed_same : (g : Found) → ((finalizer_ended g).labels ≡ g.labels) × ((finalizer_ended g).names ≡ g.names)
  unfolding finalizer_ended acts not_in_async not_in_finalizer
  closed_same g = (own_labels s (not g.beyond_finalizer) T6 g, own_names s (not g.beyond_finalizer) T6 g)

  -- ---- asyncs

  pub fine_left : (place : Where) (labels : List LabelTarget) (g : Found) → Fine place (async_ended labels g) → IsTrue (is_trail place) × Fine InsideAsync g
  unfolding async_ended
  fine_left place labels g h =
      let noted : Found = asks_own (not g.beyond_async) T6 g in
      let a = fine_waits place (record noted { labels = labels }) h in
      let k : Fine place (record noted { labels = labels }) = a.0 in
      let o = fine_own place (not g.beyond_async) T6 g (fine_as place noted (record noted { labels = labels }) refl refl refl refl k) in
      let m : Fine place g = o.1 in
      (a.1, record { broken = m.broken; own = m.own; allows = not_true g.beyond_async o.0 })

  pub left_names : (labels : List LabelTarget) (g : Found) → (async_ended labels g).names ≡ g.names
  unfolding async_ended waits not_in_every not_in_async not_in_finalizer
  left_names labels g = own_names s (not g.beyond_async) T6 g

  pub left_labels : (labels : List LabelTarget) (g : Found) → (async_ended labels g).labels ≡ labels
  unfolding async_ended waits not_in_every not_in_async not_in_finalizer
  left_labels labels g = refl

  abbrev pub entered_async : Found → Found
  entered_async f = record f { beyond_async = false; labels = [] }

  pub fine_entered : (place : Where) (f : Found) → IsTrue (is_trail place) → Fine InsideAsync (entered_async f) → Fine place f
  fine_entered place f trail h = record { broken = h.broken; own = h.own; allows = allows_trail place f trail }

  -- ---- `do`

  pub do_around_step : (l : Label) (u : Ty) (n : ℕ) (f g : Found) (d e : Draft) → exits.Step s (types.labelled l u f) (draft.labelled l n d) g e → exits.Step s f d (types.unlabelled l g) (draft.unlabelled l e)
  unfolding types.labelled draft.labelled types.unlabelled draft.unlabelled
  do_around_step label.Plain u n f g d e h = record { labels = h.labels; node_labels = h.node_labels; up = h.up; level = h.level; back = h.back }
  do_around_step label.Under u n f g d e h = record { labels = h.labels; node_labels = h.node_labels; up = h.up; level = h.level; back = h.back }
  do_around_step (label.Named l) u n f g d e h =
      let new : LabelTarget = record { name = l.name; takes = u } in
      let node : LabelNode = record { name = l.name; node = n } in
      record {
        labels = ap types.all_but_last h.labels ∙ dropped_target f.labels new;
        node_labels = ap draft.all_but_last h.node_labels ∙ dropped_node d.labels node;
        up = h.up;
        level = h.level;
        back = λ place k.
            fine_as place f (record f { labels = f.labels ++ new ∷ [] }) refl refl refl refl
            (h.back place (fine_as place g (record g { labels = types.all_but_last g.labels }) refl refl refl refl k));
      }

  pub unlabelled_fine : (l : Label) (place : Where) (g : Found) → Fine place (types.unlabelled l g) → Fine place g
  unfolding types.unlabelled
  unlabelled_fine label.Plain place g h = h
  unlabelled_fine label.Under place g h = h
  unlabelled_fine (label.Named l) place g h = fine_as place g (record g { labels = types.all_but_last g.labels }) refl refl refl refl h

  pub every_fine : (place : Where) (g : Found) → Fine place (every_ended g) → Fine place g
  unfolding every_ended
  every_fine place g h = (fine_own place (not g.beyond_every) T6 g (fine_every place (asks_own (not g.beyond_every) T6 g) h)).1

  pub every_same : (g : Found) → ((every_ended g).labels ≡ g.labels) × ((every_ended g).names ≡ g.names)
  unfolding every_ended not_in_every
  every_same g = (own_labels s (not g.beyond_every) T6 g, own_names s (not g.beyond_every) T6 g)

  pub ended_same : (p : Pos) (f g : Found) → ((ended p f g).labels ≡ g.labels) × ((ended p f g).names ≡ g.names) × ((ended p f g).types ≡ g.types)
  unfolding ended_after
  ended_same p f g = (refl, refl, refl)

  pub begun_same : (f : Found) → ((begun f).labels ≡ f.labels) × ((begun f).names ≡ f.names) × ((begun f).types ≡ f.types)
  unfolding begun
  begun_same f = (refl, refl, refl)

  -- ---- types

  pub finalizer_begun_types : (f : Found) → (finalizer_begun f).types ≡ f.types
  unfolding finalizer_begun
  finalizer_begun_types f = refl

  module _ (t : Types) where
    pub finalizer_ended_types : (g : Found) → (finalizer_ended g).types ≡ g.types
    unfolding finalizer_ended acts not_in_async not_in_finalizer
    finalizer_ended_types g = own_types s t (not g.beyond_finalizer) T6 g

    pub async_ended_types : (labels : List LabelTarget) (g : Found) → (async_ended labels g).types ≡ g.types
    unfolding async_ended waits not_in_every not_in_async not_in_finalizer
    async_ended_types labels g = own_types s t (not g.beyond_async) T6 g

    pub every_ended_types : (g : Found) → (every_ended g).types ≡ g.types
    unfolding every_ended not_in_every
    every_ended_types g = own_types s t (not g.beyond_every) T6 g

  pub labelled_types : (l : Label) (u : Ty) (f : Found) → (types.labelled l u f).types ≡ f.types
  unfolding types.labelled
  labelled_types label.Plain u f = refl
  labelled_types label.Under u f = refl
  labelled_types (label.Named x) u f = refl

  pub unlabelled_types : (l : Label) (g : Found) → (types.unlabelled l g).types ≡ g.types
  unfolding types.unlabelled
  unlabelled_types label.Plain g = refl
  unlabelled_types label.Under g = refl
  unlabelled_types (label.Named x) g = refl

  pub labelled_names : (l : Label) (u : Ty) (f : Found) → (types.labelled l u f).names ≡ f.names
  unfolding types.labelled
  labelled_names label.Plain u f = refl
  labelled_names label.Under u f = refl
  labelled_names (label.Named x) u f = refl

  pub labelled_exps : (l : Label) (n : ℕ) (d : Draft) → ((draft.labelled l n d).exps ≡ d.exps) × ((draft.labelled l n d).uses ≡ d.uses)
  unfolding draft.labelled
  labelled_exps label.Plain n d = (refl, refl)
  labelled_exps label.Under n d = (refl, refl)
  labelled_exps (label.Named x) n d = (refl, refl)

  pub unlabelled_exps : (l : Label) (d : Draft) → (draft.unlabelled l d).exps ≡ d.exps
  unfolding draft.unlabelled
  unlabelled_exps label.Plain d = refl
  unlabelled_exps label.Under d = refl
  unlabelled_exps (label.Named x) d = refl

-- a walk through types that begins and ends in its own way
module _ (s : Scopes) (t : Types) where
  pub wrap_notes : (f f' g' g : Found) (d e : Draft) → f'.names ≡ f.names → g.names ≡ g'.names → g.labels ≡ f.labels → f'.types ≡ f.types → g.types ≡ g'.types → noting.Step s t f' d g' e → ((place : Where) → Fine place g → Fine place f) → noting.Step s t f d g e
  wrap_notes f f' g' g d e before after labels first last inner back =
      record {
        under = record {
          labels = labels;
          node_labels = inner.under.node_labels;
          up = inner.under.up;
          level = λ h. subst (λ k. Alike (length s.uses) k e.uses) (sym after) (inner.under.level (subst (λ k. Alike (length s.uses) k d.uses) (sym before) h));
          back = back;
        };
        grows = λ h. prefix_as f.types f'.types t.exps first (inner.grows (prefix_as g'.types g.types t.exps last h));
        counts = λ h. ap length last ∙ inner.counts (ap length first ∙ h);
      }

  module _ (numbers : List ℕ) (K : Kernel) (code : Option ℕ) where
    pub wrap_step : (w v : Walk) (f f' g' g : Found) (d e : Draft) → f'.names ≡ f.names → g.names ≡ g'.names → g.labels ≡ f.labels → f'.types ≡ f.types → g.types ≡ g'.types → Step s t numbers K code w f' d v g' e →
        ((place : Where) → Fine place g → Fine place f) → ((place : Where) → Fine place g → (p : Where) × Fine p g') → Step s t numbers K code w f d v g e
    wrap_step w v f f' g' g d e before after labels first last inner back inside =
        record {
          notes = wrap_notes f f' g' g d e before after labels first last inner.notes back;
          ends = inner.ends;
          now = λ place fine. let k = inside place fine in inner.now k.0 k.1;
          rest = inner.rest;
          up = inner.up;
        }

    pub wrap_run : (place p : Where) (w v : Walk) (f f' g' g : Found) (d e : Draft) → f'.names ≡ f.names → f'.types ≡ f.types → g.types ≡ g'.types → Fine p g' → Run s t numbers K code place w f d v g e → Run s t numbers K code p w f' d v g' e
    wrap_run place p w v f f' g' g d e before first last fine run =
        record {
          level = subst (λ k. Alike (length s.uses) k d.uses) (sym before) run.level;
          count = ap length first ∙ run.count;
          now = run.now;
          fine = fine;
          more = prefix_as g'.types g.types t.exps last run.more;
          ends = run.ends;
        }

    -- ---- blocks of the walk through names

    pub closed_back : (v : Walk) (e : Draft) → Ends s numbers K (record v { scopes = rest_of v.scopes }) e → Ends s numbers K v e
    closed_back v e k = record { uses = k.uses; decls = k.decls; plain = k.plain; given = k.given; inputs = k.inputs; outputs = k.outputs; events = k.events; codes = k.codes }

    pub closed_ends : (v u : Walk) (e : Draft) → walk.closed v ≡ Ok u → Ends s numbers K u e → Ends s numbers K v e
    closed_ends v u e is h = closed_back v e (subst (λ u. Ends s numbers K u e) (closed_ok s numbers K code v u is) h)

    pub closed_at : (b : Border) (w v : Walk) (f g : Found) (d e : Draft) → Step s t numbers K code (walk.opened b w) f d v g e → Step s t numbers K code w f d (record v { scopes = rest_of v.scopes }) g e
    closed_at b w v f g d e h =
        let out = opened_rest s numbers K code b w in
        let up = h.up in
        let same : length (walk.opened b w).decls ≡ length w.decls = ap length out.1 in
        record {
          notes = h.notes;
          ends = λ k. opened_ends s numbers K code b w d (h.ends (closed_back v e k));
          now = λ place fine k n.
              let m = h.now place fine (closed_back v e k) (opened_now s numbers K code b w d n) in
              record { uses = m.uses; decls = m.decls; shows = rest_all (Means s numbers K code (length e.numbers)) v.scopes m.shows };
          rest = ap rest_of (h.rest ∙ out.0);
          up = omega (arith, up, same);
        }

    pub closed_step : (b : Border) (w v u : Walk) (f g : Found) (d e : Draft) → Step s t numbers K code (walk.opened b w) f d v g e → walk.closed v ≡ Ok u → Step s t numbers K code w f d u g e
    closed_step b w v u f g d e h is = subst (λ u. Step s t numbers K code w f d u g e) (sym (closed_ok s numbers K code v u is)) (closed_at b w v f g d e h)

    pub closed_run : (place : Where) (b : Border) (w v u : Walk) (f g : Found) (d e : Draft) → walk.closed v ≡ Ok u → Run s t numbers K code place w f d u g e → Run s t numbers K code place (walk.opened b w) f d v g e
    closed_run place b w v u f g d e is run =
        record {
          level = run.level;
          count = run.count;
          now = opened_now s numbers K code b w d run.now;
          fine = run.fine;
          more = run.more;
          ends = closed_ends v u e is run.ends;
        }
