-- Marks that came before: turns, rounds, reactions and commands are the same with them in front.
use Rattle.std.proofs.Common.{◌≡◌, ℕ, zero, suc, nat_lt, Bool, true, false, if◌then◌else◌, List, [], ◌∷◌, refl, sym, ap, ◌∙◌, append_assoc}
use Rattle.std.proofs.lemmas.List.{append-nil}
use Rattle.ceu_base.specs.declared.kinds.Mark.{Mark}
use Rattle.ceu_base.specs.declared.kinds.Mark.TheVariants.{Resume, Pop}
use Rattle.ceu_code.specs.declared.image.Image.{Image}
use Rattle.ceu_isa.specs.Layout.{gate_of, with_top, with_state, reacting}
use Rattle.ceu_isa.specs.Order.{Choice, Nowhere, Unclear, Chosen}
use Rattle.ceu_isa.specs.Turns as turns
use Rattle.ceu_isa.specs.Turns.{Machine, State, changed, rewritten, turned, begun, longest_turn}
use Rattle.ceu_isa.specs.Reactions.{Next, Nothing, AllClosed, Resumes, first_at, next_turn, next, resumed}
use Rattle.ceu_machine.specs.States.{marked, marked_machine, plain}
use Rattle.ceu_machine.proofs.Ticks.{ticks_marked}
use Rattle.ceu_react.specs.Marking.{marked_config}
use Rattle.ceu_react.specs.Rounds.{Round, Over, Goes, after_turn, round_of, round}

pub machine_marked : (ms : List Mark) (m : Machine) (bytes : List ℕ) (new : List Mark) → changed bytes new (marked_machine ms m) ≡ marked_machine ms (changed bytes new m)
machine_marked ms m bytes new = ap (λ (l : List Mark). let k : Machine = record { bytes = bytes; marks = l } in k) (append_assoc ms m.marks new)

-- a machine is that of its bytes, with its marks in front
pub as_marked : (m : Machine) → m ≡ marked_machine m.marks (plain m.bytes)
as_marked m = ap (λ (l : List Mark). let k : Machine = record { bytes = m.bytes; marks = l } in k) (sym (append-nil m.marks))

-- ---- a turn

begun_marked : (image : Image) (g : ℕ) (ms : List Mark) (m : Machine) → begun image g (marked_machine ms m) ≡ marked ms (begun image g m)
begun_marked image g ms m = by (nat_lt g image.gates)
  where
    by : (b : Bool) → (if b then turns.chosen image g (gate_of image m.bytes g) (marked_machine ms m) else turns.Stuck) ≡ marked ms (if b then turns.chosen image g (gate_of image m.bytes g) m else turns.Stuck)
    by true = refl
    by false = refl

pub turned_marked : (image : Image) (g : ℕ) (ms : List Mark) (m : Machine) → turned image g (marked_machine ms m) ≡ marked ms (turned image g m)
turned_marked image g ms m = ap (λ (s : State). turns.ticks image longest_turn s) (begun_marked image g ms m) ∙ ticks_marked image ms longest_turn (begun image g m)

pub resumed_marked : (image : Image) (g level : ℕ) (ms : List Mark) (m : Machine) → resumed image g level (marked_machine ms m) ≡ marked ms (resumed image g level m)
resumed_marked image g level ms m = ap (λ (k : Machine). turned image g k) (machine_marked ms m m.bytes (Resume level ∷ [])) ∙ turned_marked image g ms (changed m.bytes (Resume level ∷ []) m)

-- ---- a round

abbrev pub marked_next : List Mark → Next → Next
marked_next ms Nothing = Nothing
marked_next ms (AllClosed m) = AllClosed (marked_machine ms m)
marked_next ms (Resumes g level m) = Resumes g level (marked_machine ms m)

next_zero : (image : Image) (ms : List Mark) (m : Machine) (x : Choice) → (elim x as (λ _. Next) [ Nowhere ↦ AllClosed (marked_machine ms m) | Unclear ↦ Nothing | Chosen g ↦ Resumes g 0 (marked_machine ms m) ]) ≡ marked_next ms (elim x as (λ _. Next) [ Nowhere ↦ AllClosed m | Unclear ↦ Nothing | Chosen g ↦ Resumes g 0 m ])
next_zero image ms m Nowhere = refl
next_zero image ms m Unclear = refl
next_zero image ms m (Chosen g) = refl

next_suc : (image : Image) (n : ℕ) (ms : List Mark) (m : Machine) (a b : Next) → a ≡ marked_next ms b → (x : Choice) → (elim x as (λ _. Next) [ Nowhere ↦ a | Unclear ↦ Nothing | Chosen g ↦ Resumes g (suc n) (marked_machine ms m) ]) ≡ marked_next ms (elim x as (λ _. Next) [ Nowhere ↦ b | Unclear ↦ Nothing | Chosen g ↦ Resumes g (suc n) m ])
next_suc image n ms m a b e Nowhere = e
next_suc image n ms m a b e Unclear = refl
next_suc image n ms m a b e (Chosen g) = refl

pub next_marked : (image : Image) (level : ℕ) (ms : List Mark) (m : Machine) → next_turn image level (marked_machine ms m) ≡ marked_next ms (next_turn image level m)
unfolding next_turn
next_marked image zero ms m = next_zero image ms m (first_at image 0 m.bytes)
next_marked image (suc n) ms m =
    let closed = changed (with_top n m.bytes) (Pop (suc n) ∷ []) in
    next_suc image n ms m (next_turn image n (closed (marked_machine ms m))) (next_turn image n (closed m))
    (ap (λ (k : Machine). next_turn image n k) (machine_marked ms m (with_top n m.bytes) (Pop (suc n) ∷ [])) ∙ next_marked image n ms (closed m)) (first_at image (suc n) m.bytes)

abbrev pub marked_round : List Mark → Round → Round
marked_round ms (Over c) = Over (marked_config ms c)
marked_round ms (Goes m) = Goes (marked_machine ms m)

pub after_marked : (ms : List Mark) (s : State) → after_turn (marked ms s) ≡ marked_round ms (after_turn s)
after_marked ms turns.Stuck = refl
after_marked ms (turns.Trail r m) = refl
after_marked ms (turns.Sweeping s m) = refl
after_marked ms (turns.Finalizer s r m) = refl
after_marked ms (turns.Paused m) = refl
after_marked ms (turns.Ended m) = refl
after_marked ms (turns.Faulted f p m) = refl

of_next_marked : (image : Image) (ms : List Mark) (x : Next) → round_of image (marked_next ms x) ≡ marked_round ms (round_of image x)
of_next_marked image ms Nothing = refl
of_next_marked image ms (AllClosed m) = refl
of_next_marked image ms (Resumes g level m) = ap after_turn (resumed_marked image g level ms m) ∙ after_marked ms (resumed image g level m)

pub round_marked : (image : Image) (ms : List Mark) (m : Machine) → round image (marked_machine ms m) ≡ marked_round ms (round image m)
unfolding round
round_marked image ms m = ap (round_of image) (next_marked image (turns_top m) ms m) ∙ of_next_marked image ms (next image m)
  where
    turns_top : Machine → ℕ
    turns_top k = Rattle.ceu_isa.specs.Layout.top_of k.bytes
