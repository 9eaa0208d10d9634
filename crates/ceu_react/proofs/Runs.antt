-- A reaction so far: its marks went to the sink, and what is left of it is the definition's reaction from here on.
use Rattle.std.proofs.Common.{◌≡◌, ℕ, zero, suc, ◌<◌, List, [], ◌++◌, Some, None, refl, sym, ap, ◌∙◌, subst, append_assoc}
use Rattle.std.proofs.lemmas.List.{append-nil}
use Rattle.ceu_base.specs.declared.kinds.Mark.{Mark}
use Rattle.ceu_code.specs.declared.image.Image.{Image}
use Rattle.ceu_mem.specs.Memory.{Space}
use Rattle.ceu_isa.specs.Layout.{top_of, with_state, waiting, reacting}
use Rattle.ceu_isa.specs.Turns.{Machine, rewritten}
use Rattle.ceu_isa.specs.Reactions.{Config, Lost, Waits, HasEnded, HasFaulted, Next, Nothing, AllClosed, Resumes, next, reaction, reacts}
use Rattle.ceu_isa.specs.Commands.{marks_of}
use Rattle.ceu_machine.specs.Holding.{IsMachine}
use Rattle.ceu_machine.specs.Noting.{Noted}
use Rattle.ceu_machine.specs.States.{plain, marked_machine}
use Rattle.ceu_react.specs.declared.after.After.{After}
use Rattle.ceu_react.specs.declared.after.After.TheVariants.{Waiting, Ended, Faulted}
use Rattle.ceu_react.specs.Coming.{Came, RoundIs}
use Rattle.ceu_react.specs.Marking.{marked_config, IsKept}
use Rattle.ceu_react.specs.Rounds.{Round, Over, Goes, round, marks_of_round, IsRightRound}
use Rattle.ceu_react.proofs.Marks.{marked_next, next_marked, marked_round, round_marked, as_marked}
use Rattle.ceu_react.proofs.Reactions.{rest, one_more, stays, over, right_round, left, left_zero, left_over, left_on, left_less}

-- ---- marks that came before a reaction

zero_marked : (ms : List Mark) (x : Next) → (elim (marked_next ms x) as (λ _. Config) [ Nothing ↦ Lost | AllClosed k ↦ Waits (rewritten (with_state waiting k.bytes) k) | Resumes g level k ↦ Lost ]) ≡ marked_config ms (elim x as (λ _. Config) [ Nothing ↦ Lost | AllClosed k ↦ Waits (rewritten (with_state waiting k.bytes) k) | Resumes g level k ↦ Lost ])
zero_marked ms Nothing = refl
zero_marked ms (AllClosed m) = refl
zero_marked ms (Resumes g level m) = refl

rest_marked : (image : Image) (n : ℕ) (ms : List Mark) → ((m : Machine) → reaction image n (marked_machine ms m) ≡ marked_config ms (reaction image n m)) → (x : Round) → rest image (marked_round ms x) (suc n) ≡ marked_config ms (rest image x (suc n))
rest_marked image n ms before (Over c) = refl
rest_marked image n ms before (Goes m) = before m

pub reaction_marked : (image : Image) (n : ℕ) (ms : List Mark) (m : Machine) → reaction image n (marked_machine ms m) ≡ marked_config ms (reaction image n m)
unfolding reaction
reaction_marked image zero ms m =
    ap (λ (x : Next). elim x as (λ _. Config) [ Nothing ↦ Lost | AllClosed k ↦ Waits (rewritten (with_state waiting k.bytes) k) | Resumes g level k ↦ Lost ]) (next_marked image (top_of m.bytes) ms m)
    ∙ zero_marked ms (next image m)
reaction_marked image (suc n) ms m =
    one_more image n (marked_machine ms m) ∙ ap (λ (x : Round). rest image x (suc n)) (round_marked image ms m)
    ∙ rest_marked image n ms (λ j. reaction_marked image n ms j) (round image m) ∙ ap (marked_config ms) (sym (one_more image n m))

pub reacts_marked : (image : Image) (ms : List Mark) (m : Machine) → reacts image (marked_machine ms m) ≡ marked_config ms (reacts image m)
reacts_marked image ms m = reaction_marked image image.turns ms (rewritten (with_state reacting m.bytes) m)

left_marked : (image : Image) (n : ℕ) (ms : List Mark) (m : Machine) → left image n (marked_machine ms m) ≡ left image n m
left_marked image zero ms m = left_zero image (marked_machine ms m) ∙ sym (left_zero image m)
left_marked image (suc n) ms m = by (λ j. left_marked image n ms j) (round image m) refl
  where
    by : ((j : Machine) → left image n (marked_machine ms j) ≡ left image n j) → (x : Round) → round image m ≡ x → left image (suc n) (marked_machine ms m) ≡ left image (suc n) m
    by before (Over c) e = left_over image n (marked_machine ms m) (marked_config ms c) (round_marked image ms m ∙ ap (marked_round ms) e) ∙ sym (left_over image n m c e)
    by before (Goes j) e = left_on image n (marked_machine ms m) (marked_machine ms j) (round_marked image ms m ∙ ap (marked_round ms) e) ∙ ap suc (before j) ∙ sym (left_on image n m j e)

pub marked_twice : (ms ns : List Mark) (c : Config) → marked_config ms (marked_config ns c) ≡ marked_config (ms ++ ns) c
marked_twice ms ns Lost = refl
marked_twice ms ns (Waits m) = ap (λ (l : List Mark). Waits (record { bytes = m.bytes; marks = l })) (sym (append_assoc ms ns m.marks))
marked_twice ms ns (HasEnded v m) = ap (λ (l : List Mark). HasEnded v (record { bytes = m.bytes; marks = l })) (sym (append_assoc ms ns m.marks))
marked_twice ms ns (HasFaulted f p m) = ap (λ (l : List Mark). HasFaulted f p (record { bytes = m.bytes; marks = l })) (sym (append_assoc ms ns m.marks))

pub unmarked_kept : (ms : List Mark) (c : Config) → IsKept (marked_config ms c) → IsKept c
unmarked_kept ms Lost h = h
unmarked_kept ms (Waits m) h = tt
unmarked_kept ms (HasEnded v m) h = tt
unmarked_kept ms (HasFaulted f p m) h = tt

pub marks_marked : (ms : List Mark) (c : Config) → IsKept c → marks_of (marked_config ms c) ≡ ms ++ marks_of c
marks_marked ms Lost h = absurd h
marks_marked ms (Waits m) h = refl
marks_marked ms (HasEnded v m) h = refl
marks_marked ms (HasFaulted f p m) h = refl

pub came_marked : (ms : List Mark) (c : Config) (a : After) (bytes : List ℕ) → Came c a bytes → Came (marked_config ms c) a bytes
came_marked ms Lost a bytes h = absurd h
came_marked ms (Waits m) Waiting bytes h = h
came_marked ms (Waits m) (Ended v) bytes h = absurd h
came_marked ms (Waits m) (Faulted f p) bytes h = absurd h
came_marked ms (HasEnded v m) Waiting bytes h = absurd h
came_marked ms (HasEnded v m) (Ended w) bytes h = h
came_marked ms (HasEnded v m) (Faulted f p) bytes h = absurd h
came_marked ms (HasFaulted f p m) Waiting bytes h = absurd h
came_marked ms (HasFaulted f p m) (Ended w) bytes h = absurd h
came_marked ms (HasFaulted f p m) (Faulted g q) bytes h = h

pub came_kept : (c : Config) (a : After) (bytes : List ℕ) → Came c a bytes → IsKept c
came_kept Lost a bytes h = absurd h
came_kept (Waits m) a bytes h = tt
came_kept (HasEnded v m) a bytes h = tt
came_kept (HasFaulted f p m) a bytes h = tt

-- ---- the rounds so far

pub record SoFar {S : Type 0} (notes : S → Mark → S → Type 0) (faults : S → ℕ) (image : Image) (begin : List ℕ) (old : S) (mem : Space) (out : S) : Type 0 where
  pub marks : List Mark
  pub noted : Noted notes marks old out
  pub rest : reaction image image.turns (plain begin) ≡ marked_config marks (reaction image image.turns (plain mem.bytes))
  pub made : IsMachine image mem
  pub count : faults out ≡ faults old

pub kept_on : (image : Image) (n : ℕ) (ms : List Mark) (bytes : List ℕ) (t : Config) → t ≡ marked_config ms (reaction image n (plain bytes)) → IsKept t → IsKept (reaction image n (plain bytes))
kept_on image n ms bytes t e h = unmarked_kept ms (reaction image n (plain bytes)) (subst IsKept e h)

pub right_on : (image : Image) (n : ℕ) (ms : List Mark) (bytes : List ℕ) (t : Config) → t ≡ marked_config ms (reaction image n (plain bytes)) → IsKept t → IsRightRound (round image (plain bytes))
right_on image n ms bytes t e h = right_round image n (plain bytes) (kept_on image n ms bytes t e h)

-- one round on
pub one_on : (image : Image) (n : ℕ) (bytes bytes' : List ℕ) (x : Round) → round image (plain bytes) ≡ x → RoundIs x None bytes' → IsKept (reaction image n (plain bytes)) → reaction image n (plain bytes) ≡ marked_config (marks_of_round x) (reaction image n (plain bytes'))
one_on image n bytes bytes' (Over c) e h k = absurd h
one_on image n bytes bytes' (Goes j) e h k =
    stays image n (plain bytes) j e k ∙ ap (λ (m : Machine). reaction image n m) (as_marked j) ∙ reaction_marked image n j.marks (plain j.bytes)
    ∙ ap (λ (b : List ℕ). marked_config j.marks (reaction image n (plain b))) h

pub rest_on : (image : Image) (n : ℕ) (ms : List Mark) (bytes bytes' : List ℕ) (t : Config) → t ≡ marked_config ms (reaction image n (plain bytes)) → IsKept t → RoundIs (round image (plain bytes)) None bytes' → t ≡ marked_config (ms ++ marks_of_round (round image (plain bytes))) (reaction image n (plain bytes'))
rest_on image n ms bytes bytes' t e k h =
    e ∙ ap (marked_config ms) (one_on image n bytes bytes' (round image (plain bytes)) refl h (kept_on image n ms bytes t e k))
    ∙ marked_twice ms (marks_of_round (round image (plain bytes))) (reaction image n (plain bytes'))

fewer : (image : Image) (n : ℕ) (bytes bytes' : List ℕ) (x : Round) → round image (plain bytes) ≡ x → RoundIs x None bytes' → IsKept (reaction image n (plain bytes)) → left image n (plain bytes') < left image n (plain bytes)
fewer image n bytes bytes' (Over c) e h k = absurd h
fewer image n bytes bytes' (Goes j) e h k =
    let same : left image n j ≡ left image n (plain bytes') = ap (λ (m : Machine). left image n m) (as_marked j) ∙ left_marked image n j.marks (plain j.bytes) ∙ ap (λ (b : List ℕ). left image n (plain b)) h in
    subst (λ (l : ℕ). l < left image n (plain bytes)) same (left_less image n (plain bytes) j e k)

pub left_on_round : (image : Image) (n : ℕ) (ms : List Mark) (bytes bytes' : List ℕ) (t : Config) → t ≡ marked_config ms (reaction image n (plain bytes)) → IsKept t → RoundIs (round image (plain bytes)) None bytes' → left image n (plain bytes') < left image n (plain bytes)
left_on_round image n ms bytes bytes' t e k h = fewer image n bytes bytes' (round image (plain bytes)) refl h (kept_on image n ms bytes t e k)

-- the last round
last : (image : Image) (n : ℕ) (bytes bytes' : List ℕ) (a : After) (x : Round) → round image (plain bytes) ≡ x → RoundIs x (Some a) bytes' → IsKept (reaction image n (plain bytes)) → Came (reaction image n (plain bytes)) a bytes' × (marks_of (reaction image n (plain bytes)) ≡ marks_of_round x)
last image n bytes bytes' a (Goes j) e h k = absurd h
last image n bytes bytes' a (Over c) e h k =
    let is = over image n (plain bytes) c e k in
    (subst (λ (x : Config). Came x a bytes') (sym is) h, ap marks_of is)

pub ends_on : (image : Image) (n : ℕ) (ms : List Mark) (bytes bytes' : List ℕ) (a : After) (t : Config) → t ≡ marked_config ms (reaction image n (plain bytes)) → IsKept t → RoundIs (round image (plain bytes)) (Some a) bytes' → Came t a bytes' × (marks_of t ≡ ms ++ marks_of_round (round image (plain bytes)))
ends_on image n ms bytes bytes' a t e k h =
    let kept = kept_on image n ms bytes t e k in
    let l = last image n bytes bytes' a (round image (plain bytes)) refl h kept in (
      subst (λ (x : Config). Came x a bytes') (sym e) (came_marked ms (reaction image n (plain bytes)) a bytes' l.0),
      ap marks_of e ∙ marks_marked ms (reaction image n (plain bytes)) kept ∙ ap (λ (x : List Mark). ms ++ x) l.1,
    )

-- where the sink fails in a round
begins : (image : Image) (n : ℕ) (bytes : List ℕ) (x : Round) → round image (plain bytes) ≡ x → IsKept (reaction image n (plain bytes)) → (more : List Mark) × (marks_of (reaction image n (plain bytes)) ≡ marks_of_round x ++ more)
begins image n bytes (Over c) e k = ([], ap marks_of (over image n (plain bytes) c e k) ∙ sym (append-nil (marks_of c)))
begins image n bytes (Goes j) e k =
    let is : reaction image n (plain bytes) ≡ marked_config j.marks (reaction image n (plain j.bytes)) = one_on image n bytes j.bytes (Goes j) e refl k in
    let kept = unmarked_kept j.marks (reaction image n (plain j.bytes)) (subst IsKept is k) in
    (marks_of (reaction image n (plain j.bytes)), ap marks_of is ∙ marks_marked j.marks (reaction image n (plain j.bytes)) kept)

pub begins_on : (image : Image) (n : ℕ) (ms : List Mark) (bytes : List ℕ) (t : Config) → t ≡ marked_config ms (reaction image n (plain bytes)) → IsKept t → (more : List Mark) × (marks_of t ≡ (ms ++ marks_of_round (round image (plain bytes))) ++ more)
begins_on image n ms bytes t e k =
    let kept = kept_on image n ms bytes t e k in
    let b = begins image n bytes (round image (plain bytes)) refl kept in (
      b.0,
      ap marks_of e ∙ marks_marked ms (reaction image n (plain bytes)) kept ∙ ap (λ (x : List Mark). ms ++ x) b.1 ∙ sym (append_assoc ms (marks_of_round (round image (plain bytes))) b.0),
    )
