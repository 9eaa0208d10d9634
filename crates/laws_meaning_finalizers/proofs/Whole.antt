-- The whole program: an abortion, what the parts around a leaf close and abort, and a kill read no variable without a value.
use Rattle.std.proofs.Common.{◌≡◌, refl, sym, subst, ℕ, Bool, true, false, ◌==◌, ◌&&◌, ◌⊎◌, inl, inr, List, [], ◌∷◌, ◌++◌, None, arith}
use Rattle.std.proofs.lemmas.Bool.{and_parts, and_from, or_cases, false≢true}
use Rattle.ceu_base.specs.declared.kinds.Ty.TheVariants as ty
use Rattle.ceu_tree.specs.declared.kernel.Kernel.{Kernel}
use Rattle.ceu_tree.specs.declared.kernel.KDecl.{KDecl}
use Rattle.ceu_tree.specs.declared.kernel.KKind.{KKind}
use Rattle.ceu_tree.specs.declared.kernel.KKind.TheVariants as kind
use Rattle.ceu_tree.specs.declared.kernel.KNode.{KNode}
use Rattle.ceu_tree.specs.declared.kernel.KBlock.{out-KBlock}
use Rattle.ceu_tree.specs.Residual.{Body, Program, Act, AtEnd, Residual, Over, no_instance}
use Rattle.ceu_tree.specs.Focus.{Frame, OfBlock, Focus, Here, In, fill, plug}
use Rattle.ceu_tree.specs.World.{World}
use Rattle.ceu_tree.specs.Around.{Outcome}
use Rattle.ceu_tree.specs.Step.{unseat}
use Rattle.ceu_tree.specs.Legal.{Seated, before, is_set, is_program_variable, program_done, finalizers_of, seats}
use Rattle.ceu_tree.specs.Mentions.{body_target, is_set_decl}
use Rattle.ceu_tree.specs.Proper.{Scope, body_scope, is_proper}
use Rattle.laws_meaning_basics.specs.Shape.{Part, AStatement, block_scope, program_part, Fits, to_begin, in_list, none_lives, FrameFits, around_statement, around_end, around_instance, Around, nothing_around, one_around}
use Rattle.laws_meaning_basics.proofs.UpFits.{list_sound}
use Rattle.laws_meaning_basics.proofs.RunFits.{root_sound}
use Rattle.laws_meaning_values.specs.Needed.{some_done}
use Rattle.laws_meaning_values.specs.Ready.{declares}
use Rattle.laws_meaning_values.proofs.Grounds.{program_ground}
use Rattle.laws_meaning_values.proofs.Readies.{ready_program}
use Rattle.laws_meaning_values.proofs.Stores.{or_left, or_right}
use Rattle.laws_meaning_slots.proofs.Seats.{each_seat, frame_seats, focus_seats}
use Rattle.laws_meaning_counters.specs.Counters.{is_first, at_loop}
use Rattle.laws_meaning_counters.proofs.Grips.{point}
use Rattle.laws_meaning_assigned.specs.Needed.{own_target, block_asks, asked, needed, frame_needed, focus_needed}
use Rattle.laws_meaning_assigned.proofs.Grips.{grip, focus_grip}
use Rattle.laws_meaning_assigned.proofs.Places.{declared_held, known_program, root_ground}
use Rattle.laws_meaning_assigned.proofs.Settled.{asked_yes, unneeded}
use Rattle.laws_meaning_assigned.proofs.Aborts.{aborted_spared}
use Rattle.laws_meaning_assigned.proofs.Outer.{outer_down}
use Rattle.laws_meaning_finalizers.specs.Closing.{aborted_reads, up_reads, killed_reads}
use Rattle.laws_meaning_finalizers.proofs.Envs.{SeatSet, Named, Env}
use Rattle.laws_meaning_finalizers.proofs.Trees.{Most, Has, code_named, tree_fine}
use Rattle.laws_meaning_finalizers.proofs.Frames.{inner_hold, hold_less, Names, frame_env}
use Rattle.laws_meaning_finalizers.proofs.Within.{frame_abort}
use Rattle.laws_meaning_finalizers.proofs.Fates.{Fate}
use Rattle.laws_meaning_finalizers.proofs.Up.{focus_abort, up_fine, needs_inner}
use Rattle.laws_meaning_finalizers.proofs.Kills.{kill_fine}

abbrev top : Kernel → Scope
top K = body_scope K [] None K.body ty.S32

variable_declared : (x : ℕ) (ds : List KDecl) → is_program_variable x ds ≡ true → declares x ds ≡ true
variable_declared x [] h = absurd (false≢true h)
variable_declared x (d ∷ ds) h = go (or_cases ((d.slot == x) && elim d.kind [ kind.Var t ↦ true | _ ↦ false ]) (is_program_variable x ds) h) (variable_declared x ds)
  where
    is_var : (k : KKind) → (elim k [ kind.Var t ↦ true | _ ↦ false ]) ≡ true → is_set_decl k ≡ true
    is_var (kind.Var t) e = refl
    is_var (kind.Alias c) e = absurd (false≢true e)
    is_var (kind.Pool n c) e = absurd (false≢true e)

    go : (((d.slot == x) && elim d.kind [ kind.Var t ↦ true | _ ↦ false ]) ≡ true) ⊎ (is_program_variable x ds ≡ true) → (is_program_variable x ds ≡ true → declares x ds ≡ true) → declares x (d ∷ ds) ≡ true
    go (inl e) ih =
        let a = and_parts (d.slot == x) (elim d.kind [ kind.Var t ↦ true | _ ↦ false ]) e in
        or_left ((d.slot == x) && is_set_decl d.kind) (declares x ds) (and_from (d.slot == x) (is_set_decl d.kind) a.0 (is_var d.kind a.1))
    go (inr e) ih = or_right ((d.slot == x) && is_set_decl d.kind) (declares x ds) (ih e)

module _ (K : Kernel) (proper : is_proper K ≡ true) (root : Residual) where
  abbrev P : Seated → Type 0
  P = SeatSet K proper root

  abbrev pub around : Body → ℕ → ℕ
  around b x = point b x Program

  -- a statement of the program's block names by `outer` what those before it set
  top_named : (front : List KNode) (s : KNode) (rest : List KNode) → program_done K.body root ≡ before (out-KBlock K.body).list rest → (out-KBlock K.body).list ≡ front ++ s ∷ rest → Named K proper root (AStatement (block_scope (top K) K.body) s)
  unfolding seats
  top_named front s rest q e x v m =
      subst (λ l. is_set l x ≡ true) (sym q)
      (outer_down K proper x {t = 0} (In (OfBlock K.body (finalizers_of [] front) no_instance rest) (Here AtEnd)) (AStatement (block_scope (top K) K.body) s) (one_around (around_statement front e refl none_lives) nothing_around) v refl m)

  pub root_names : {t : ℕ} {fr : Frame} {c : Part} → FrameFits K t fr (program_part K) c → (q : Residual) → program_done K.body root ≡ program_done K.body (fill fr q) → frame_seats P fr Program → Names K proper root fr (program_part K) c
  root_names (around_statement {rest = rest} {s = s} done e f all) q z st = record { in_code = λ y. absurd (false≢true y); running = λ front r i. top_named front r rest z i; inner = top_named done s rest z e }
  root_names (around_end f all) q z st = record { in_code = λ y. absurd (false≢true y); running = λ front r i. top_named front r [] z i; inner = λ x v m. absurd (omega (arith, m)) }
  root_names (around_instance {rest = rest} {seat = seat} done k e f r u v p i) q z st = record { in_code = λ y. absurd (false≢true y); running = λ front s i. top_named front s rest z i; inner = code_named K proper root seat.code k i st.1 }

  env_at : (rest : List KNode) (w : World) → program_done K.body root ≡ before (out-KBlock K.body).list rest → Has K proper root (λ b x. asked K.codes b x Program (block_asks K.body (before (out-KBlock K.body).list rest) x)) w → Env K proper root (program_part K) Program around w
  env_at rest w q h = record {
    ground = root_ground K;
    on = program_ground K proper;
    known = λ b x. known_program K proper b x (point b x Program) (omega arith);
    ready = ready_program K Program w;
    low = λ x v s. (let d = variable_declared x (out-KBlock K.body).decls v in (
      declared_held K proper Program x Program (out-KBlock K.body).decls (point Program x Program) (omega arith) refl d,
      h Program x (asked_yes K Program x Program (block_asks K.body (before (out-KBlock K.body).list rest) x) refl
          (or_left (declares x (out-KBlock K.body).decls && is_set (before (out-KBlock K.body).list rest) x) (own_target x (body_target K.body) && some_done (before (out-KBlock K.body).list rest)) (and_from (declares x (out-KBlock K.body).decls) (is_set (before (out-KBlock K.body).list rest) x) d (subst (λ l. is_set l x ≡ true) q s)))),
    ));
  }

  pub root_env : {t : ℕ} {fr : Frame} {c : Part} → FrameFits K t fr (program_part K) c → (q : Residual) → program_done K.body root ≡ program_done K.body (fill fr q) → (first : Bool) (w : World) → Has K proper root (λ b x. frame_needed K.codes b x first Program fr) w
      → Env K proper root (program_part K) Program around w
  root_env (around_statement {rest = rest} done e f all) q z first w h = env_at rest w z (λ b x l. h b x (omega (arith, l)))
  root_env (around_end f all) q z first w h = env_at [] w z (λ b x l. h b x (omega (arith, l)))
  root_env (around_instance {rest = rest} done k e f r u v p i) q z first w h = env_at rest w z (λ b x l. h b x (omega (arith, l)))

  -- ---- a focus, whose program's block stands where it stands in the whole tree

  abbrev pub SameDone : Focus Act → Type 0
  SameDone (Here a) = Unit {0}
  SameDone (In fr f) = (q : Residual) → program_done K.body root ≡ program_done K.body (fill fr q)

  module _ {t : ℕ} {e : Part} (f : Focus Act) (a : Around K t Act f (program_part K) e) (z : SameDone f) (w : World) (m : Most K proper root around (λ b x. focus_grip K.codes b x Program f))
      (h : Has K proper root (λ b x. focus_needed K.codes b x is_first Program f) w) (st : focus_seats P f Program) where
    pub root_abort : aborted_reads (plug f Over) Program w
    unfolding aborted_reads focus_seats focus_grip
    root_abort = go f e a z m h st
      where
        go : (f : Focus Act) (e : Part) → Around K t Act f (program_part K) e → SameDone f → Most K proper root around (λ b x. focus_grip K.codes b x Program f) → Has K proper root (λ b x. focus_needed K.codes b x is_first Program f) w → focus_seats P f Program
            → aborted_reads (plug f Over) Program w
        go (Here q) e nothing_around z m h st = tt
        go (In fr g) e (one_around b more) z m h st =
            let n = needs_inner K proper root fr g Program w h in
            focus_abort K proper root g b more (root_sound K proper) Program around (root_names b Over (z Over) st.0) w (root_env b Over (z Over) (at_loop is_first g) w n.0) m n st.0 st.1

    pub root_up : (y : Outcome) → ((a : Act) → Fate (Here a) w y w) → up_reads Program f y w
    unfolding up_reads focus_seats focus_grip
    root_up y fate = go f e a z m h st
      where
        go : (f : Focus Act) (e : Part) → Around K t Act f (program_part K) e → SameDone f → Most K proper root around (λ b x. focus_grip K.codes b x Program f) → Has K proper root (λ b x. focus_needed K.codes b x is_first Program f) w → focus_seats P f Program
            → up_reads Program f y w
        go (Here q) e nothing_around z m h st = tt
        go (In fr g) e (one_around b more) z m h st =
            let n = needs_inner K proper root fr g Program w h in
            up_fine K proper root g b more (root_sound K proper) Program around (root_names b Over (z Over) st.0) y w fate (root_env b Over (z Over) (at_loop is_first g) w n.0) m n st.0 st.1

    pub root_kill : (k : ℕ) → killed_reads k f w
    unfolding killed_reads focus_seats focus_grip
    root_kill k = go f e a z m h st
      where
        go : (f : Focus Act) (e : Part) → Around K t Act f (program_part K) e → SameDone f → Most K proper root around (λ b x. focus_grip K.codes b x Program f) → Has K proper root (λ b x. focus_needed K.codes b x is_first Program f) w → focus_seats P f Program
            → killed_reads k f w
        go (Here q) e nothing_around z m h st = tt
        go (In fr g) e (one_around b more) z m h st =
            let n = needs_inner K proper root fr g Program w h in
            kill_fine K proper root k g b more (root_sound K proper) Program around (root_names b Over (z Over) st.0) w (root_env b Over (z Over) (at_loop is_first g) w n.0) m n st.0 st.1

  -- ---- a tree

  pub tree_abort : {t : ℕ} {r : Residual} → Fits K t (program_part K) r → program_done K.body root ≡ program_done K.body r → (w : World) → Most K proper root around (λ b x. grip K.codes b x Program r) → Has K proper root (λ b x. needed K.codes b x Program r) w → each_seat P r Program
      → aborted_reads r Program w
  unfolding aborted_reads grip needed each_seat
  tree_abort (to_begin l) z w m h st = tt
  tree_abort {t = t} (in_list {fin = fin} {rest = rest} {all = all} {r = r} {s = s} done e f fit more) z w m h st =
      let fr = OfBlock K.body fin all rest in
      let a : FrameFits K t (OfBlock K.body fin all rest) (program_part K) (AStatement (block_scope (top K) K.body) s) = around_statement done e f fit in
      let needs : Has K proper root (λ b x. frame_needed K.codes b x false Program (OfBlock K.body fin all rest)) w = λ b x l. h b x (omega (arith, l)) in
      let names = root_names a r z st.0 in
      let v = root_env a r z false w needs in
      let env = frame_env K proper root a (root_sound K proper) false Program around w v needs refl in
      let inner = list_sound K proper (top K) K.body done s rest (root_sound K proper) e in
      frame_abort K proper root Program around false r (λ b x. needed K.codes b x Program r) (λ b x. grip K.codes b x Program r) a (root_sound K proper) names w v (λ b x. (let i = m b x in omega (arith, i))) needs st.0 (λ b x l. h b x (omega (arith, l)))
      (λ b x l. unneeded K proper b x more inner Program env.ground (inner_hold K proper root fr Program around b x) env.on (env.known b x) l)
      (λ u y k. tree_fine K proper root more inner Program (inner_hold K proper root fr Program around) u names.inner (y refl) (λ b x. (let i = m b x in let j = hold_less K proper root fr Program around b x in omega (arith, i))) k (λ q. st.1))
      (λ u b x l k. aborted_spared K.codes b x r Program u l k)

-- where a turn is on, also after a kill, the program's block stands where it stands
module _ (K : Kernel) (proper : is_proper K ≡ true) {t : ℕ} where
  pub same_plugged : (f : Focus Act) {e : Part} → Around K t Act f (program_part K) e → SameDone K proper (plug f Over) f
  same_plugged (Here a) nothing_around = tt
  same_plugged (In fr f) (one_around (around_statement done e z all) more) = λ q. refl
  same_plugged (In fr f) (one_around (around_end z all) more) = λ q. refl
  same_plugged (In fr f) (one_around (around_instance done k e z r u v p i) more) = λ q. refl

  pub same_unseated : (k : ℕ) (f : Focus Act) {e : Part} → Around K t Act f (program_part K) e → SameDone K proper (plug f Over) (unseat k f)
  same_unseated k (Here a) nothing_around = tt
  same_unseated k (In fr f) (one_around (around_statement done e z all) more) = λ q. refl
  same_unseated k (In fr f) (one_around (around_end z all) more) = λ q. refl
  same_unseated k (In fr f) (one_around (around_instance done j e z r u v p i) more) = λ q. refl
