-- Steps of the walks through names and types and of the draft together, and what is known where one begins.
use Rattle.std.proofs.Common.{◌≡◌, refl, ◌∙◌, ℕ, ◌≤◌, length, arith, List, Option}
use Rattle.ceu_base.specs.declared.kinds.Pos.{Pos}
use Rattle.ceu_tree.specs.declared.kernel.Kernel.{Kernel}
use Rattle.ceu_tree.specs.declared.kernel.KStmt.{KStmt}
use Rattle.ceu_tree.specs.Proper.{Where}
use Rattle.ceu_scopes.specs.declared.known.Scopes.{Scopes}
use Rattle.ceu_scopes.specs.declared.walk.Walk.{Walk}
use Rattle.ceu_scopes.specs.Shown.{rest_of}
use Rattle.ceu_types.specs.declared.typing.Types.{Types}
use Rattle.ceu_types.specs.declared.found.Found.{Found}
use Rattle.ceu_expand.specs.declared.draft.Draft.{Draft}
use Rattle.ceu_expand.specs.Draft.{begun, placed, opened, closed, around_block}
use Rattle.laws_kernel_shape.proofs.Fine.{Fine}
use Rattle.laws_kernel_shape.proofs.Beside.{Level}
use Rattle.laws_kernel_shape.proofs.Beside as exits
use Rattle.laws_kernel_types.proofs.Noting as noting
use Rattle.laws_kernel_types.proofs.Noting.{Prefix, begun_step, placed_step, opened_step, draft_step}
use Rattle.laws_kernel_types.proofs.Naming.{Ends, Now, Goes, Calm, calm_goes}
use Rattle.laws_kernel_types.proofs.Walking.{calm_same, calm_begun, calm_placed, calm_opened, calm_around}
use Rattle.laws_kernel_types.proofs.Expressing.{At}

module _ (s : Scopes) (t : Types) (numbers : List ℕ) (K : Kernel) (code : Option ℕ) where
  pub record Step (w : Walk) (f : Found) (d : Draft) (v : Walk) (g : Found) (e : Draft) : Type 0 where
    pub notes : noting.Step s t f d g e
    pub ends : Ends s numbers K v e → Ends s numbers K w d
    pub now : (place : Where) → Fine place g → Ends s numbers K v e → Now s numbers K code w d → Now s numbers K code v e
    pub rest : rest_of v.scopes ≡ rest_of w.scopes
    pub up : length w.decls ≤ length v.decls

  pub of_goes : {w v : Walk} {f g : Found} {d e : Draft} → noting.Step s t f d g e → Goes s numbers K code w d v e → Step w f d v g e
  of_goes n h = record { notes = n; ends = h.ends; now = λ place fine. h.now; rest = h.rest; up = h.up }

  pub step_then : {w v u : Walk} {f g h : Found} {d e c : Draft} → Step w f d v g e → Step v g e u h c → Step w f d u h c
  step_then a b =
      let x = a.up in
      let y = b.up in
      record {
        notes = noting.step_then s t a.notes b.notes;
        ends = λ k. a.ends (b.ends k);
        now = λ place fine k n. b.now place fine k (a.now place (b.notes.under.back place fine) (b.ends k) n);
        rest = b.rest ∙ a.rest;
        up = omega (arith, x, y);
      }

  -- the walk through names stands still
  pub calm_step : (w : Walk) (f g : Found) (d e : Draft) → noting.Step s t f d g e → Calm d e → Step w f d w g e
  calm_step w f g d e n c = of_goes n (calm_goes s numbers K code w d e c)

  -- only the walk through types goes on
  pub found_step : (w : Walk) (f g : Found) (d : Draft) → noting.Step s t f d g d → Step w f d w g d
  found_step w f g d n = calm_step w f g d d n (calm_same d)

  module _ (place : Where) where
    pub record Run (w : Walk) (f : Found) (d : Draft) (v : Walk) (g : Found) (e : Draft) : Type 0 where
      pub level : Level s f d
      pub count : length f.types ≡ d.exps
      pub now : Now s numbers K code w d
      pub fine : Fine place g
      pub more : Prefix g.types t.exps
      pub ends : Ends s numbers K v e

    pub first_run : {w v u : Walk} {f g h : Found} {d e c : Draft} → Step v g e u h c → Run w f d u h c → Run w f d v g e
    first_run b r = record { level = r.level; count = r.count; now = r.now; fine = b.notes.under.back place r.fine; more = b.notes.grows r.more; ends = b.ends r.ends }

    pub last_run : {w v u : Walk} {f g h : Found} {d e c : Draft} → Step w f d v g e → Step v g e u h c → Run w f d u h c → Run v g e u h c
    last_run a b r =
        record {
          level = a.notes.under.level r.level;
          count = a.notes.counts r.count;
          now = a.now place (b.notes.under.back place r.fine) (b.ends r.ends) r.now;
          fine = r.fine;
          more = r.more;
          ends = r.ends;
        }

    pub at_run : {w v : Walk} {f g : Found} {d e : Draft} → Run w f d v g e → At s t place f d g
    at_run r = record { fine = r.fine; more = r.more; level = r.level; count = r.count }

  pub begin_step : (w : Walk) (f : Found) (d : Draft) → Step w f d w f (begun d)
  begin_step w f d = calm_step w f f d (begun d) (begun_step s t f d) (calm_begun d)

  pub place_step : (n : ℕ) (p : Pos) (st : KStmt) (w : Walk) (f : Found) (d : Draft) → Step w f d w f (placed n p st d)
  place_step n p st w f d = calm_step w f f d (placed n p st d) (placed_step s t n p st f d) (calm_placed n p st d)

  -- a statement of the kernel around these parts
  pub around_step : (n : ℕ) (p : Pos) (st : KStmt) (w v : Walk) (f g : Found) (d e : Draft) → Step w f (begun d) v g e → Step w f d v g (placed n p st e)
  around_step n p st w v f g d e h = step_then (begin_step w f d) (step_then h (place_step n p st v g e))

  pub inside_run : (place : Where) (n : ℕ) (p : Pos) (st : KStmt) (w v : Walk) (f g : Found) (d e : Draft) → Step w f (begun d) v g e → Run place w f d v g (placed n p st e) → Run place w f (begun d) v g e
  inside_run place n p st w v f g d e h r =
      first_run place (place_step n p st v g e) (last_run place (begin_step w f d) (step_then h (place_step n p st v g e)) r)

  -- ---- a block around a part

  open_step : (n : ℕ) (w : Walk) (f : Found) (d : Draft) → Step w f d w f (opened n d)
  open_step n w f d = calm_step w f f d (opened n d) (opened_step s t n f d) (calm_opened n d)

  close_notes : (n : ℕ) (body : Draft → Draft) (f : Found) (d : Draft) → noting.Step s t f (body (opened n d)) f (around_block n body d)
  unfolding closed
  close_notes n body f d = draft_step s t f (body (opened n d)) (around_block n body d) (exits.draft_step s f (body (opened n d)) (around_block n body d) refl (omega arith) refl) refl

  close_step : (n : ℕ) (body : Draft → Draft) (w : Walk) (f : Found) (d : Draft) → Step w f (body (opened n d)) w f (around_block n body d)
  close_step n body w f d = calm_step w f f (body (opened n d)) (around_block n body d) (close_notes n body f d) (calm_around n body d)

  pub block_step : (n : ℕ) (body : Draft → Draft) (w v : Walk) (f g : Found) (d : Draft) → Step w f (opened n d) v g (body (opened n d)) → Step w f d v g (around_block n body d)
  block_step n body w v f g d h = step_then (open_step n w f d) (step_then h (close_step n body v g d))

  pub block_run : (place : Where) (n : ℕ) (body : Draft → Draft) (w v : Walk) (f g : Found) (d : Draft) → Step w f (opened n d) v g (body (opened n d)) → Run place w f d v g (around_block n body d) →
      Run place w f (opened n d) v g (body (opened n d))
  block_run place n body w v f g d h r = first_run place (close_step n body v g d) (last_run place (open_step n w f d) (step_then h (close_step n body v g d)) r)
