-- A reaction of the machine comes to what that of the reference semantics comes to: a turn, if there is one, and the end.
use Rattle.std.proofs.Common.{◌≡◌, refl, sym, ap, ◌∙◌, subst, ℕ, zero, suc, ◌+◌, ◌-◌, ◌≤◌, false, List, [], ◌∷◌, ◌++◌, append_assoc, append-nil, Option, Some, None, inr, arith}
use Rattle.ceu_base.specs.declared.kinds.Mark.{Mark}
use Rattle.ceu_base.specs.declared.kinds.Mark.TheVariants.{Resume}
use Rattle.ceu_code.specs.declared.image.Image.{Image}
use Rattle.ceu_mem.proofs.Views.{number_written, number_outside}
use Rattle.ceu_isa.specs.declared.registers.Registers.{Registers}
use Rattle.ceu_isa.specs.Layout.{waiting, with_state, top_of}
use Rattle.ceu_isa.specs.Order.{Choice, Nowhere, Unclear, Chosen}
use Rattle.ceu_isa.specs.Reactions as machine
use Rattle.ceu_isa.specs.Reactions.{Next, Nothing, AllClosed, Resumes, first_at, next_turn, resumed, reaction, value_of_end}
use Rattle.ceu_isa.specs.Commands.{marks_of}
use Rattle.ceu_isa.specs.Turns as turns
use Rattle.ceu_isa.specs.Turns.{Machine, State, Trail, changed, rewritten, ticks, longest_turn, begun, turned}
use Rattle.ceu_tree.specs.declared.kernel.Kernel.{Kernel}
use Rattle.ceu_tree.specs.Residual.{Body, Act, Residual}
use Rattle.ceu_tree.specs.Focus.{Focus, choose}
use Rattle.ceu_tree.specs.Wake.{runs_at}
use Rattle.ceu_tree.specs.World.{World, Cell, Holds, NotSet, Names, marked}
use Rattle.ceu_tree.specs.Run.{Config, Turning, Between, Waiting, Ended, Faulted, next, steps, is_reacting, world_of}
use Rattle.ceu_shape.specs.Plans.{Plan}
use Rattle.ceu_shape.specs.Shape.{shape}
use Rattle.laws_machine_layout.specs.Views.{View, view, Home}
use Rattle.laws_machine_layout.specs.Values.{CellStands}
use Rattle.laws_meaning_basics.proofs.StepLaws.{steps_stand}
use Rattle.ceu_endings.specs.Ends.{EndsTurns}
use Rattle.ceu_endings.specs.Laws.{is_turning, Settled}
use Rattle.ceu_endings.proofs.Calm.{turn_settles}
use Rattle.ceu_trail.specs.Compiled.{Compiled}
use Rattle.ceu_trail.specs.Coming.{SameMarks}
use Rattle.ceu_trail.specs.Laws.{StepsAreDone}
use Rattle.ceu_trail.specs.Tables.{tables}
use Rattle.ceu_trail.specs.Turning.{home, TurnStands}
use Rattle.ceu_follows.specs.Kept.{Kept}
use Rattle.ceu_follows.specs.Turns.{StandsBetween, SameEnd, TurnDone, TurnBegun}
use Rattle.ceu_follows.specs.Reactions.{StandsWaiting, SameAdded, Follows}
use Rattle.ceu_follows.proofs.Stepping.{begins_next, waits_next, begins_kept, waits_kept}
use Rattle.ceu_follows.proofs.Turning.{turn_done}
use Rattle.ceu_follows.proofs.Beginning.{none_begins, turn_begins}
use Rattle.ceu_follows.proofs.Memory.{header_fits, number_bytes}
use Rattle.ceu_follows.proofs.Headers.{memory_same}

-- ---- the machine's reaction, by its next turn

-- what follows a turn
abbrev pub after_turn : Image → (turns : ℕ) → State → machine.Config
after_turn image n (turns.Paused j) = reaction image n j
after_turn image n (turns.Ended j) = machine.HasEnded (value_of_end j) j
after_turn image n (turns.Faulted f p j) = machine.HasFaulted f p j
after_turn image n turns.Stuck = machine.Lost
after_turn image n (turns.Trail r j) = machine.Lost
after_turn image n (turns.Sweeping s j) = machine.Lost
after_turn image n (turns.Finalizer s r j) = machine.Lost

abbrev closed_machine : Machine → Machine
closed_machine m = rewritten (with_state waiting m.bytes) m

abbrev by_choice : Choice → Machine → Next
by_choice Nowhere m = AllClosed m
by_choice Unclear m = Nothing
by_choice (Chosen g) m = Resumes g 0 m

next_zero : (image : Image) (m : Machine) (c : Choice) → first_at image 0 m.bytes ≡ c → next_turn image 0 m ≡ by_choice c m
unfolding next_turn
next_zero image m Nowhere e = rw (e, next_turn) refl
next_zero image m Unclear e = rw (e, next_turn) refl
next_zero image m (Chosen g) e = rw (e, next_turn) refl

next_is : (image : Image) (m : Machine) (c : Choice) → top_of m.bytes ≡ 0 → first_at image 0 m.bytes ≡ c → machine.next image m ≡ by_choice c m
next_is image m c t e = ap (λ (l : ℕ). next_turn image l m) t ∙ next_zero image m c e

closes : (image : Image) (n : ℕ) (m : Machine) → machine.next image m ≡ AllClosed m → reaction image n m ≡ machine.Waits (closed_machine m)
unfolding reaction
closes image zero m e = rw (e, reaction) refl
closes image (suc n) m e = rw (e, reaction) refl

goes_on : (image : Image) (n : ℕ) (m k : Machine) (g level : ℕ) (s : State) → machine.next image m ≡ Resumes g level k → resumed image g level k ≡ s → reaction image (suc n) m ≡ after_turn image n s
unfolding reaction
goes_on image n m k g level (turns.Paused j) e h = rw (e, reaction) (rw (h, reaction) refl)
goes_on image n m k g level (turns.Ended j) e h = rw (e, reaction) (rw (h, reaction) refl)
goes_on image n m k g level (turns.Faulted f p j) e h = rw (e, reaction) (rw (h, reaction) refl)
goes_on image n m k g level turns.Stuck e h = rw (e, reaction) (rw (h, reaction) refl)
goes_on image n m k g level (turns.Trail r j) e h = rw (e, reaction) (rw (h, reaction) refl)
goes_on image n m k g level (turns.Sweeping s j) e h = rw (e, reaction) (rw (h, reaction) refl)
goes_on image n m k g level (turns.Finalizer s r j) e h = rw (e, reaction) (rw (h, reaction) refl)

-- ---- marks are no part of what stands in the memory

cell_marked : (homes : Body → Home) (v : View) (w : World) (c : Cell) (width at : ℕ) → CellStands homes v w c width at → CellStands homes v (marked (Resume 0) w) c width at
cell_marked homes v w (Holds value) width at x = x
cell_marked homes v w NotSet width at x = x
cell_marked homes v w (Names number) width at x = record { number_is = x.number_is; is_set = x.is_set; lives = x.lives; is_gone = x.is_gone }

-- ---- steps of the reference semantics

first_turning : (K : Kernel) (m j n : ℕ) (f : Focus Act) (w : World) → m ≡ suc j → steps K m (Turning n f w) ≡ steps K j (next K (Turning n f w))
unfolding steps
first_turning K m j n f w e = ap (λ i. steps K i (Turning n f w)) e

first_between : (K : Kernel) (m j n : ℕ) (r : Residual) (w : World) → m ≡ suc j → steps K m (Between n r w) ≡ steps K j (next K (Between n r w))
unfolding steps
first_between K m j n r w e = ap (λ i. steps K i (Between n r w)) e

steps_more : (K : Kernel) (a b : ℕ) (c : Config) → steps K (a + b) c ≡ steps K b (steps K a c)
unfolding steps
steps_more K zero b c = ap (λ i. steps K i c) (omega arith)
steps_more K (suc a) b (Turning n f w) = first_turning K (suc a + b) (a + b) n f w (omega arith) ∙ steps_more K a b (next K (Turning n f w))
steps_more K (suc a) b (Between n r w) = first_between K (suc a + b) (a + b) n r w (omega arith) ∙ steps_more K a b (next K (Between n r w))
steps_more K (suc a) b (Waiting r w) = steps_stand K 0 (suc a + b) (Waiting r w) (omega arith) refl ∙ sym (steps_stand K 0 b (Waiting r w) (omega arith) refl)
steps_more K (suc a) b (Ended v w) = steps_stand K 0 (suc a + b) (Ended v w) (omega arith) refl ∙ sym (steps_stand K 0 b (Ended v w) (omega arith) refl)
steps_more K (suc a) b (Faulted z w) = steps_stand K 0 (suc a + b) (Faulted z w) (omega arith) refl ∙ sym (steps_stand K 0 b (Faulted z w) (omega arith) refl)

step_between : (K : Kernel) (n : ℕ) (r : Residual) (w : World) (c : Config) → next K (Between n r w) ≡ c → steps K 1 (Between n r w) ≡ c
unfolding steps
step_between K n r w c e = e

-- once it is over it stays so
comes_to : (K : Kernel) (a n : ℕ) (c d : Config) → steps K a c ≡ d → is_reacting d ≡ false → a ≤ n → steps K n c ≡ d
comes_to K a n c d e over le = steps_stand K a n c le (ap is_reacting e ∙ over) ∙ e

module _ (image : Image) (P : Plan) (width : ℕ → ℕ) (K : Kernel) where
  -- ---- where nothing can run

  waits_on : (r : Residual) (w : World) (m : Machine) → Kept K (Waiting r w) → StandsBetween image P width K r w m → StandsWaiting image P width K r w (closed_machine m)
  waits_on r w m kept h = record {
    kept = kept;
    fits = header_fits image m.bytes h.fits h.are_bytes 2 waiting 0;
    are_bytes = number_bytes 2 waiting m.bytes 0 h.are_bytes;
    top_is = number_outside 2 2 waiting m.bytes 0 2 (inr (omega arith)) ∙ h.stands.top_is;
    stands = record {
      home = h.stands.home;
      memory = memory_same image m.bytes h.fits h.are_bytes 2 waiting 0 (omega arith) (tables P width K) h.stands.home r w (omega arith) h.stands.memory;
      state_is = number_written 2 waiting m.bytes 0 (omega arith) (omega (arith, h.fits.size));
    };
  }

  module _ (compiled : Compiled image P width K) (ends : EndsTurns K) (laws : StepsAreDone) where
    -- the reaction is over
    rests : (n : ℕ) (r : Residual) (w : World) (m : Machine) → Kept K (Between 0 r w) → StandsBetween image P width K r w m → choose Act (runs_at 0) r ≡ None
        → Follows image P width K w.marks m.marks (λ i. steps K i (Between 0 r w)) (reaction image n m)
    rests n r w m kept stands e =
        let over : machine.next image m ≡ AllClosed m = next_is image m Nowhere stands.stands.top_is (none_begins image P width K compiled r w m kept stands e) in
        let is : reaction image n m ≡ machine.Waits (closed_machine m) = closes image n m over in
        let one : steps K 1 (Between 0 r w) ≡ Waiting r w = step_between K 0 r w (Waiting r w) (waits_next K ends.proper ends.single r w e) in
        subst (λ (c : machine.Config). Follows image P width K w.marks m.marks (λ i. steps K i (Between 0 r w)) c) (sym is) (record {
          config = Waiting r w;
          bound = 1;
          comes = λ i le. comes_to K 1 i (Between 0 r w) (Waiting r w) one refl le;
          agrees = waits_on r w m (waits_kept K ends.proper ends.single r w kept e) stands;
          marks = record { added = []; semantics = sym (append-nil w.marks); machine = sym (append-nil m.marks) };
        })

    -- ---- a turn

    marks_since : (w u : World) (m k : Machine) (a b : List Mark) → SameMarks w m u k → SameAdded u.marks a k.marks b → SameAdded w.marks a m.marks b
    marks_since w u m k a b x y = record {
      added = x.added ++ y.added;
      semantics = y.semantics ∙ ap (λ (l : List Mark). l ++ y.added) x.semantics ∙ append_assoc w.marks x.added y.added;
      machine = y.machine ∙ ap (λ (l : List Mark). l ++ y.added) x.machine ∙ append_assoc m.marks x.added y.added;
    }

    end_added : (w u : World) (m k : Machine) → SameMarks w m u k → SameAdded w.marks u.marks m.marks k.marks
    end_added w u m k x = record { added = x.added; semantics = x.semantics; machine = x.machine }

    -- what follows the turn; w is the world and m the machine when it began, and after so many steps d is the configuration
    turn_over : (n : ℕ) (c : Config) (w : World) (m : Machine) (count : ℕ) (d : Config) (s : State) → steps K count c ≡ d → Kept K d → SameEnd image P width K w m d s → Settled d
        → Follows image P width K w.marks m.marks (λ i. steps K i c) (after_turn image n s)
    turn_over n c w m count (Between l q u) (turns.Paused j) e kept h settled =
        let base : Between l q u ≡ Between 0 q u = ap (λ (i : ℕ). Between i q u) h.0 in
        let x : Follows image P width K u.marks j.marks (λ i. steps K i (Between 0 q u)) (reaction image n j) = rests n q u j (subst (Kept K) base kept) h.2 settled.1 in
        record {
          config = x.config;
          bound = count + x.bound;
          comes = λ i le. ap (λ (k : ℕ). steps K k c) (parts i count (omega (arith, le))) ∙ steps_more K count (i - count) c ∙ ap (λ (y : Config). steps K (i - count) y) (e ∙ base) ∙ x.comes (i - count) (omega (arith, le));
          agrees = x.agrees;
          marks = marks_since w u m j (world_of x.config).marks (marks_of (reaction image n j)) h.1 x.marks;
        }
      where
        parts : (i k : ℕ) → k ≤ i → i ≡ k + (i - k)
        parts i k le = omega (arith, le)
    turn_over n c w m count (Ended v u) (turns.Ended j) e kept h settled = record {
      config = Ended v u;
      bound = count;
      comes = λ i le. comes_to K count i c (Ended v u) e refl le;
      agrees = h.1;
      marks = end_added w u m j h.0;
    }
    turn_over n c w m count (Faulted z u) (turns.Faulted f p j) e kept h settled = record {
      config = Faulted z u;
      bound = count;
      comes = λ i le. comes_to K count i c (Faulted z u) e refl le;
      agrees = (h.1, h.2);
      marks = end_added w u m j h.0;
    }
    turn_over n c w m count d s e kept h settled = absurd h

    not_turning : (w : World) (m : Machine) (d : Config) (s : State) → SameEnd image P width K w m d s → is_turning d ≡ false
    not_turning w m (Between l q u) (turns.Paused j) h = refl
    not_turning w m (Ended v u) (turns.Ended j) h = refl
    not_turning w m (Faulted z u) (turns.Faulted f p j) h = refl
    not_turning w m d s h = absurd h

    stands_marked : (f : Focus Act) (w : World) (r : Registers) (bytes : List ℕ) → TurnStands image P width K f w r bytes → TurnStands image P width K f (marked (Resume 0) w) r bytes
    stands_marked f w r bytes h = record {
      memory = record {
        fits = h.memory.fits;
        are_bytes = h.memory.are_bytes;
        state_is = h.memory.state_is;
        top_is = h.memory.top_is;
        given_is = h.memory.given_is;
        free = h.memory.free;
        values = record { held = λ body slot c q. cell_marked (home image) (view image bytes) w c _ _ (h.memory.values.held body slot c q) };
        unfaulted = h.memory.unfaulted;
      };
      trail = h.trail;
      counted = h.counted;
      place = h.place;
    }

    turns_once : (n : ℕ) (r : Residual) (w : World) (m : Machine) (f : Focus Act) → Kept K (Between 0 r w) → StandsBetween image P width K r w m → choose Act (runs_at 0) r ≡ Some f
        → Follows image P width K w.marks m.marks (λ i. steps K i (Between 0 r w)) (reaction image (suc n) m)
    turns_once n r w m f kept stands e =
        let old : Machine = changed m.bytes (Resume 0 ∷ []) m in
        let new : World = marked (Resume 0) w in
        let there : StandsBetween image P width K r w old = record { fits = stands.fits; are_bytes = stands.are_bytes; stands = stands.stands } in
        let turn : Kept K (Turning 0 f new) = begins_kept K ends.proper ends.single r w f kept e in
        let b : TurnBegun image P width K f w old = turn_begins image P width K compiled r w old kept there f turn.fits e in
        let t : TurnDone image P width K new b.after (Turning 0 f new) (Trail b.registers b.after) =
        turn_done image P width K compiled ends laws f new b.registers b.after turn (stands_marked f w b.registers b.after.bytes b.stands) in
        let settled : Settled (steps K t.count (Turning 0 f new)) =
        turn_settles K t.count f new ends.proper ends.single turn.fits (not_turning new b.after (steps K t.count (Turning 0 f new)) (ticks image longest_turn (Trail b.registers b.after)) t.same) in
        let one : steps K 1 (Between 0 r w) ≡ Turning 0 f new = step_between K 0 r w (Turning 0 f new) (begins_next K ends.proper ends.single r w f e) in
        let all : steps K (1 + t.count) (Between 0 r w) ≡ steps K t.count (Turning 0 f new) = steps_more K 1 t.count (Between 0 r w) ∙ ap (λ (y : Config). steps K t.count y) one in
        let x : Follows image P width K new.marks b.after.marks (λ i. steps K i (Between 0 r w)) (after_turn image n (ticks image longest_turn (Trail b.registers b.after))) =
        turn_over n (Between 0 r w) new b.after (1 + t.count) (steps K t.count (Turning 0 f new)) (ticks image longest_turn (Trail b.registers b.after)) all t.kept t.same settled in
        let comes : resumed image 0 0 m ≡ ticks image longest_turn (Trail b.registers b.after) = ap (λ (s : State). ticks image longest_turn s) b.begins in
        let is : reaction image (suc n) m ≡ after_turn image n (ticks image longest_turn (Trail b.registers b.after)) =
        goes_on image n m m 0 0 (ticks image longest_turn (Trail b.registers b.after)) (next_is image m (Chosen 0) stands.stands.top_is b.first_is) comes in
        let begin : SameMarks w m new b.after = record { added = Resume 0 ∷ []; semantics = refl; machine = b.marks } in
        subst (λ (c : machine.Config). Follows image P width K w.marks m.marks (λ i. steps K i (Between 0 r w)) c) (sym is) (record {
          config = x.config;
          bound = x.bound;
          comes = x.comes;
          agrees = x.agrees;
          marks = marks_since w new m b.after (world_of x.config).marks (marks_of (after_turn image n (ticks image longest_turn (Trail b.registers b.after)))) begin x.marks;
        })

    -- ---- the whole reaction

    by_choice_follows : (n : ℕ) (r : Residual) (w : World) (m : Machine) → Kept K (Between 0 r w) → StandsBetween image P width K r w m → (o : Option (Focus Act)) → choose Act (runs_at 0) r ≡ o
        → Follows image P width K w.marks m.marks (λ i. steps K i (Between 0 r w)) (reaction image (suc n) m)
    by_choice_follows n r w m kept stands None e = rests (suc n) r w m kept stands e
    by_choice_follows n r w m kept stands (Some f) e = turns_once n r w m f kept stands e

    some_turns : 1 ≤ image.turns
    unfolding shape
    some_turns = let s = compiled.shaped in let e : image.turns ≡ s.0 = ap (λ (i : Image). i.turns) s.3 in omega (arith, e, s.2)

    pub reaction_follows : (r : Residual) (w : World) (m : Machine) → Kept K (Between 0 r w) → StandsBetween image P width K r w m
        → Follows image P width K w.marks m.marks (λ i. steps K i (Between 0 r w)) (reaction image image.turns m)
    reaction_follows r w m kept stands =
        let n : image.turns ≡ suc (image.turns - 1) = omega (arith, some_turns) in
        subst (λ (k : ℕ). Follows image P width K w.marks m.marks (λ i. steps K i (Between 0 r w)) (reaction image k m)) (sym n) (by_choice_follows (image.turns - 1) r w m kept stands (choose Act (runs_at 0) r) refl)
