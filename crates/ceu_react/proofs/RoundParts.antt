-- A round by its parts: the levels that close, the turn, and how it came out.
use Rattle.std.proofs.Common.{◌≡◌, ℕ, List, [], ◌∷◌, ◌++◌, Some, None, refl, sym, ap, ◌∙◌, subst}
use Rattle.std.proofs.lemmas.List.{append-nil}
use Rattle.ceu_base.specs.declared.kinds.Ty.TheVariants.{S64}
use Rattle.ceu_base.specs.declared.kinds.Mark.{Mark}
use Rattle.ceu_base.specs.declared.kinds.Mark.TheVariants.{Resume}
use Rattle.ceu_code.specs.declared.image.Image.{Image}
use Rattle.ceu_mem.specs.Memory.{value_at}
use Rattle.ceu_isa.specs.Layout.{scratch_at, with_state, waiting}
use Rattle.ceu_isa.specs.Turns as turns
use Rattle.ceu_isa.specs.Turns.{Machine, State, turned}
use Rattle.ceu_isa.specs.Reactions.{Next, Nothing, AllClosed, Resumes, next, resumed}
use Rattle.ceu_isa.specs.Safety.{IsOver}
use Rattle.ceu_machine.specs.declared.turning.Turned.{Turned}
use Rattle.ceu_machine.specs.declared.turning.Turned.TheVariants as turn
use Rattle.ceu_machine.specs.States.{marked, plain}
use Rattle.ceu_machine.specs.Turning.{Outcome, marks_in}
use Rattle.ceu_machine.proofs.Ticks.{unmarked_over}
use Rattle.ceu_machine.proofs.Turns.{marks_marked, over_allowed}
use Rattle.ceu_react.specs.declared.after.After.TheVariants.{Waiting}
use Rattle.ceu_react.specs.declared.closing.Resumption.{Resumption}
use Rattle.ceu_react.specs.Coming.{NextIs, RoundIs, end_of_turn}
use Rattle.ceu_react.specs.Rounds.{Round, after_turn, round_of, round, marks_of_round, marks_of_next, IsClear, IsRightRound}
use Rattle.ceu_react.proofs.Marks.{as_marked, turned_marked, resumed_marked}

pub round_is : (image : Image) (m : Machine) → round image m ≡ round_of image (next image m)
unfolding round
round_is image m = refl

clear_of : (image : Image) (x : Next) → IsRightRound (round_of image x) → IsClear x
clear_of image Nothing h = h
clear_of image (AllClosed m) h = tt
clear_of image (Resumes g level m) h = tt

pub clear_round : (image : Image) (m : Machine) → IsRightRound (round image m) → IsClear (next image m)
clear_round image m h = clear_of image (next image m) (subst IsRightRound (round_is image m) h)

-- ---- where all levels have closed

rests_of : (image : Image) (x : Next) (bytes : List ℕ) → NextIs x None bytes → RoundIs (round_of image x) (Some Waiting) (with_state waiting bytes)
rests_of image Nothing bytes h = absurd h
rests_of image (AllClosed m) bytes h = ap (with_state waiting) h
rests_of image (Resumes g level m) bytes h = absurd h

rest_marks_of : (image : Image) (x : Next) (bytes : List ℕ) → NextIs x None bytes → marks_of_round (round_of image x) ≡ marks_of_next x
rest_marks_of image Nothing bytes h = absurd h
rest_marks_of image (AllClosed m) bytes h = refl
rest_marks_of image (Resumes g level m) bytes h = absurd h

pub rests : (image : Image) (m : Machine) (bytes bytes' : List ℕ) → NextIs (next image m) None bytes → bytes' ≡ with_state waiting bytes → RoundIs (round image m) (Some Waiting) bytes'
rests image m bytes bytes' h b =
    subst (λ (x : Round). RoundIs x (Some Waiting) bytes') (sym (round_is image m)) (subst (λ (k : List ℕ). RoundIs (round_of image (next image m)) (Some Waiting) k) (sym b) (rests_of image (next image m) bytes h))

pub rest_marks : (image : Image) (m : Machine) (bytes : List ℕ) → NextIs (next image m) None bytes → marks_of_round (round image m) ≡ marks_of_next (next image m)
rest_marks image m bytes h = ap marks_of_round (round_is image m) ∙ rest_marks_of image (next image m) bytes h

-- ---- where a gate has its turn

resumed_of : (image : Image) (x : Next) (r : Resumption) (bytes : List ℕ) → NextIs x (Some r) bytes → round_of image x ≡ after_turn (marked (marks_of_next x) (resumed image r.gate r.level (plain bytes)))
resumed_of image Nothing r bytes h = absurd h
resumed_of image (AllClosed m) r bytes h = absurd h
resumed_of image (Resumes g level m) r bytes h =
    ap after_turn (ap (λ (k : Machine). resumed image g level k) (as_marked m) ∙ resumed_marked image g level m.marks (plain m.bytes)
    ∙ ap (λ (k : ℕ). marked m.marks (resumed image k level (plain m.bytes))) h.0 ∙ ap (λ (k : ℕ). marked m.marks (resumed image r.gate k (plain m.bytes))) h.1
    ∙ ap (λ (k : List ℕ). marked m.marks (resumed image r.gate r.level (plain k))) h.2)

pub resumed_round : (image : Image) (m : Machine) (r : Resumption) (bytes : List ℕ) → NextIs (next image m) (Some r) bytes → round image m ≡ after_turn (marked (marks_of_next (next image m)) (resumed image r.gate r.level (plain bytes)))
resumed_round image m r bytes h = round_is image m ∙ resumed_of image (next image m) r bytes h

pub resumed_plain : (image : Image) (g level : ℕ) (bytes : List ℕ) → resumed image g level (plain bytes) ≡ marked (Resume level ∷ []) (turned image g (plain bytes))
resumed_plain image g level bytes = turned_marked image g (Resume level ∷ []) (plain bytes)

pub resumed_marks : (image : Image) (g level : ℕ) (bytes : List ℕ) → IsOver (turned image g (plain bytes)) → marks_in (resumed image g level (plain bytes)) ≡ (Resume level ∷ []) ++ marks_in (turned image g (plain bytes))
resumed_marks image g level bytes h = ap marks_in (resumed_plain image g level bytes) ∙ marks_marked (Resume level ∷ []) (turned image g (plain bytes)) (over_allowed (turned image g (plain bytes)) h)

outcome_marked : (ms : List Mark) (s : State) (t : Turned) (bytes : List ℕ) → Outcome s t bytes → Outcome (marked ms s) t bytes
outcome_marked ms turns.Stuck t bytes h = absurd h
outcome_marked ms (turns.Trail r m) t bytes h = absurd h
outcome_marked ms (turns.Sweeping s m) t bytes h = absurd h
outcome_marked ms (turns.Finalizer s r m) t bytes h = absurd h
outcome_marked ms (turns.Paused m) turn.Paused bytes h = h
outcome_marked ms (turns.Paused m) turn.Ended bytes h = absurd h
outcome_marked ms (turns.Paused m) (turn.Faulted f p) bytes h = absurd h
outcome_marked ms (turns.Ended m) turn.Paused bytes h = absurd h
outcome_marked ms (turns.Ended m) turn.Ended bytes h = h
outcome_marked ms (turns.Ended m) (turn.Faulted f p) bytes h = absurd h
outcome_marked ms (turns.Faulted f p m) turn.Paused bytes h = absurd h
outcome_marked ms (turns.Faulted f p m) turn.Ended bytes h = absurd h
outcome_marked ms (turns.Faulted f p m) (turn.Faulted g q) bytes h = h

pub outcome_resumed : (image : Image) (g level : ℕ) (bytes bytes' : List ℕ) (t : Turned) → Outcome (turned image g (plain bytes)) t bytes' → Outcome (resumed image g level (plain bytes)) t bytes'
outcome_resumed image g level bytes bytes' t h =
    subst (λ (s : State). Outcome s t bytes') (sym (resumed_plain image g level bytes)) (outcome_marked (Resume level ∷ []) (turned image g (plain bytes)) t bytes' h)

over_of : (s : State) → IsRightRound (after_turn s) → IsOver s
over_of turns.Stuck h = h
over_of (turns.Trail r m) h = h
over_of (turns.Sweeping s m) h = h
over_of (turns.Finalizer s r m) h = h
over_of (turns.Paused m) h = tt
over_of (turns.Ended m) h = tt
over_of (turns.Faulted f p m) h = tt

-- the turn that comes is allowed, and ends
pub over_resumed : (image : Image) (m : Machine) (r : Resumption) (bytes : List ℕ) → NextIs (next image m) (Some r) bytes → IsRightRound (round image m) → IsOver (resumed image r.gate r.level (plain bytes))
over_resumed image m r bytes h k =
    let s = resumed image r.gate r.level (plain bytes) in
    let ms = marks_of_next (next image m) in
    unmarked_over (marks_of_next (next image m)) (resumed image r.gate r.level (plain bytes)) (over_of (marked ms s) (subst IsRightRound (resumed_round image m r bytes h) k))

pub over_turn : (image : Image) (m : Machine) (r : Resumption) (bytes : List ℕ) → NextIs (next image m) (Some r) bytes → IsRightRound (round image m) → IsOver (turned image r.gate (plain bytes))
over_turn image m r bytes h k =
    unmarked_over (Resume r.level ∷ []) (turned image r.gate (plain bytes)) (subst IsOver (resumed_plain image r.gate r.level bytes) (over_resumed image m r bytes h k))

turn_came : (ms : List Mark) (s : State) (t : Turned) (bytes : List ℕ) → Outcome s t bytes → RoundIs (after_turn (marked ms s)) (end_of_turn t bytes) bytes
turn_came ms turns.Stuck t bytes h = absurd h
turn_came ms (turns.Trail r m) t bytes h = absurd h
turn_came ms (turns.Sweeping s m) t bytes h = absurd h
turn_came ms (turns.Finalizer s r m) t bytes h = absurd h
turn_came ms (turns.Paused m) turn.Paused bytes h = h
turn_came ms (turns.Paused m) turn.Ended bytes h = absurd h
turn_came ms (turns.Paused m) (turn.Faulted f p) bytes h = absurd h
turn_came ms (turns.Ended m) turn.Paused bytes h = absurd h
turn_came ms (turns.Ended m) turn.Ended bytes h = (ap (λ (k : List ℕ). value_at S64 k scratch_at) h, h)
turn_came ms (turns.Ended m) (turn.Faulted f p) bytes h = absurd h
turn_came ms (turns.Faulted f p m) turn.Paused bytes h = absurd h
turn_came ms (turns.Faulted f p m) turn.Ended bytes h = absurd h
turn_came ms (turns.Faulted f p m) (turn.Faulted g q) bytes h = (h.0, h.1, h.2)

turn_marks : (ms : List Mark) (s : State) → IsOver s → marks_of_round (after_turn (marked ms s)) ≡ ms ++ marks_in s
turn_marks ms turns.Stuck h = absurd h
turn_marks ms (turns.Trail r m) h = absurd h
turn_marks ms (turns.Sweeping s m) h = absurd h
turn_marks ms (turns.Finalizer s r m) h = absurd h
turn_marks ms (turns.Paused m) h = refl
turn_marks ms (turns.Ended m) h = refl
turn_marks ms (turns.Faulted f p m) h = refl

pub turn_round : (image : Image) (m : Machine) (r : Resumption) (bytes bytes' : List ℕ) (t : Turned) → NextIs (next image m) (Some r) bytes → Outcome (resumed image r.gate r.level (plain bytes)) t bytes' → RoundIs (round image m) (end_of_turn t bytes') bytes'
turn_round image m r bytes bytes' t h o =
    subst (λ (x : Round). RoundIs x (end_of_turn t bytes') bytes') (sym (resumed_round image m r bytes h)) (turn_came (marks_of_next (next image m)) (resumed image r.gate r.level (plain bytes)) t bytes' o)

pub marks_round : (image : Image) (m : Machine) (r : Resumption) (bytes : List ℕ) → NextIs (next image m) (Some r) bytes → IsRightRound (round image m) → marks_of_round (round image m) ≡ marks_of_next (next image m) ++ marks_in (resumed image r.gate r.level (plain bytes))
marks_round image m r bytes h k = ap marks_of_round (resumed_round image m r bytes h) ∙ turn_marks (marks_of_next (next image m)) (resumed image r.gate r.level (plain bytes)) (over_resumed image m r bytes h k)

-- ---- the marks of closing come first

first_of : (image : Image) (x : Next) → IsRightRound (round_of image x) → (more : List Mark) × (marks_of_round (round_of image x) ≡ marks_of_next x ++ more)
first_of image Nothing h = absurd h
first_of image (AllClosed m) h = ([], sym (append-nil m.marks))
first_of image (Resumes g level m) h =
    let s = resumed image g level (plain m.bytes) in
    let is : resumed image g level m ≡ marked m.marks s = ap (λ (k : Machine). resumed image g level k) (as_marked m) ∙ resumed_marked image g level m.marks (plain m.bytes) in
    (marks_in s, ap (λ (k : State). marks_of_round (after_turn k)) is ∙ turn_marks m.marks s (unmarked_over m.marks s (over_of (marked m.marks s) (subst (λ (k : State). IsRightRound (after_turn k)) is h))))

pub first_marks : (image : Image) (m : Machine) → IsRightRound (round image m) → (more : List Mark) × (marks_of_round (round image m) ≡ marks_of_next (next image m) ++ more)
first_marks image m h =
    let f = first_of image (next image m) (subst IsRightRound (round_is image m) h) in
    (f.0, ap marks_of_round (round_is image m) ∙ f.1)
