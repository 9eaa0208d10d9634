-- An advance so far: the reactions of the timers that came first, and what is left of it.
use Rattle.std.proofs.Common.{◌≡◌, ℕ, zero, suc, ◌+◌, ◌-◌, ◌<◌, ◌≤◌, nat_le, Bool, true, false, List, ◌++◌, Option, Some, None, refl, sym, ap, ◌∙◌, subst, arith}
use Rattle.std.proofs.lemmas.List.{append-nil}
use Rattle.std.proofs.lemmas.Bool.Decides.{nat_tests}
use Rattle.ceu_base.specs.declared.kinds.Mark.{Mark}
use Rattle.ceu_code.specs.declared.image.Image.{Image}
use Rattle.ceu_mem.specs.Memory.{Space}
use Rattle.ceu_isa.specs.Turns.{Machine}
use Rattle.ceu_isa.specs.Reactions.{Config, Lost, Waits, HasEnded, HasFaulted, reacts}
use Rattle.ceu_isa.specs.Commands.{advanced, least_time, time_passed, timers_woken, marks_of}
use Rattle.ceu_machine.specs.Holding.{IsMachine}
use Rattle.ceu_machine.specs.Noting.{Noted}
use Rattle.ceu_machine.specs.States.{plain}
use Rattle.ceu_react.specs.declared.after.After.{After}
use Rattle.ceu_react.specs.declared.after.After.TheVariants.{Waiting, Ended, Faulted}
use Rattle.ceu_react.specs.Coming.{Came}
use Rattle.ceu_react.specs.Marking.{marked_config, IsKept}
use Rattle.ceu_react.proofs.Marks.{as_marked}
use Rattle.ceu_react.proofs.Runs.{marked_twice, unmarked_kept, marks_marked, came_marked}
use Rattle.ceu_react.proofs.CommandMarks.{advanced_marked}

-- ---- one step of the definition

abbrev served : Image → (n d : ℕ) → Machine → (time : ℕ) → Config
served image n d m time = advanced image n (d - time) (reacts image (timers_woken image (d - time) (time_passed image time m)))

one_step : (image : Image) (n k d : ℕ) (m : Machine) → n ≡ k + 1 → advanced image n d (Waits m) ≡ (elim (least_time image m.bytes) as (λ _. Config) [
  | None ↦ Waits m
  | Some time ↦ elim (nat_le time d) as (λ _. Config) [ true ↦ served image k d m time | false ↦ Waits (time_passed image d m) ]
])
unfolding advanced
one_step image zero k d m e = absurd (omega arith)
one_step image (suc n) k d m e =
    let same : n ≡ k = omega arith in
    ap (λ (l : ℕ). elim (least_time image m.bytes) as (λ _. Config) [
      | None ↦ Waits m
      | Some time ↦ elim (nat_le time d) as (λ _. Config) [ true ↦ served image l d m time | false ↦ Waits (time_passed image d m) ]
    ]) same

at_time : (image : Image) (n k d : ℕ) (m : Machine) (x : Option ℕ) → n ≡ k + 1 → least_time image m.bytes ≡ x → advanced image n d (Waits m) ≡ (elim x as (λ _. Config) [
  | None ↦ Waits m
  | Some time ↦ elim (nat_le time d) as (λ _. Config) [ true ↦ served image k d m time | false ↦ Waits (time_passed image d m) ]
])
at_time image n k d m x e l =
    one_step image n k d m e ∙ ap (λ (y : Option ℕ). elim y as (λ _. Config) [
      | None ↦ Waits m
      | Some time ↦ elim (nat_le time d) as (λ _. Config) [ true ↦ served image k d m time | false ↦ Waits (time_passed image d m) ]
    ]) l

pub none_waits : (image : Image) (n k d : ℕ) (m : Machine) → n ≡ k + 1 → least_time image m.bytes ≡ None → advanced image n d (Waits m) ≡ Waits m
none_waits image n k d m e l = at_time image n k d m None e l

comes_later : (image : Image) (n k d time : ℕ) (m : Machine) → n ≡ k + 1 → least_time image m.bytes ≡ Some time → d < time → advanced image n d (Waits m) ≡ Waits (time_passed image d m)
comes_later image n k d time m e l lt =
    let f : nat_le time d ≡ false = grind (arith, nat_tests) in
    at_time image n k d m (Some time) e l ∙ ap (λ (b : Bool). elim b as (λ _. Config) [ true ↦ served image k d m time | false ↦ Waits (time_passed image d m) ]) f

comes_first : (image : Image) (n k d time : ℕ) (m : Machine) → n ≡ k + 1 → least_time image m.bytes ≡ Some time → time ≤ d → advanced image n d (Waits m) ≡ served image k d m time
comes_first image n k d time m e l le =
    let t : nat_le time d ≡ true = grind (arith, nat_tests) in
    at_time image n k d m (Some time) e l ∙ ap (λ (b : Bool). elim b as (λ _. Config) [ true ↦ served image k d m time | false ↦ Waits (time_passed image d m) ]) t

-- ---- after a reaction

at_lost : (image : Image) (n d : ℕ) → advanced image n d Lost ≡ Lost
unfolding advanced
at_lost image zero d = refl
at_lost image (suc n) d = refl

at_end : (image : Image) (n d : ℕ) (c : Config) (a : After) (bytes : List ℕ) → (a ≡ Waiting → ⊥) → Came c a bytes → advanced image n d c ≡ c
unfolding advanced
at_end image n d Lost a bytes ne h = absurd h
at_end image n d (Waits m) Waiting bytes ne h = absurd (ne refl)
at_end image n d (Waits m) (Ended v) bytes ne h = absurd h
at_end image n d (Waits m) (Faulted f p) bytes ne h = absurd h
at_end image zero d (HasEnded v m) a bytes ne h = refl
at_end image (suc n) d (HasEnded v m) a bytes ne h = refl
at_end image zero d (HasFaulted f p m) a bytes ne h = refl
at_end image (suc n) d (HasFaulted f p m) a bytes ne h = refl

kept_inner : (image : Image) (n d : ℕ) (c : Config) → IsKept (advanced image n d c) → IsKept c
kept_inner image n d Lost h = subst IsKept (at_lost image n d) h
kept_inner image n d (Waits m) h = tt
kept_inner image n d (HasEnded v m) h = tt
kept_inner image n d (HasFaulted f p m) h = tt

-- an outcome without its marks
abbrev bare : Config → Config
bare Lost = Lost
bare (Waits m) = Waits (plain m.bytes)
bare (HasEnded v m) = HasEnded v (plain m.bytes)
bare (HasFaulted f p m) = HasFaulted f p (plain m.bytes)

as_bare : (c : Config) → c ≡ marked_config (marks_of c) (bare c)
as_bare Lost = refl
as_bare (Waits m) = ap (λ (k : Machine). Waits k) (as_marked m)
as_bare (HasEnded v m) = ap (λ (k : Machine). HasEnded v k) (as_marked m)
as_bare (HasFaulted f p m) = ap (λ (k : Machine). HasFaulted f p k) (as_marked m)

bare_waits : (c : Config) (bytes : List ℕ) → Came c Waiting bytes → bare c ≡ Waits (plain bytes)
bare_waits Lost bytes h = absurd h
bare_waits (Waits m) bytes h = ap (λ (k : List ℕ). Waits (plain k)) h
bare_waits (HasEnded v m) bytes h = absurd h
bare_waits (HasFaulted f p m) bytes h = absurd h

from_bare : (image : Image) (n d : ℕ) (c : Config) → advanced image n d c ≡ marked_config (marks_of c) (advanced image n d (bare c))
from_bare image n d c = ap (λ (x : Config). advanced image n d x) (as_bare c) ∙ advanced_marked image n d (marks_of c) (bare c)

-- ---- an advance so far

pub record SoFar {S : Type 0} (notes : S → Mark → S → Type 0) (faults : S → ℕ) (image : Image) (us : ℕ) (begin : List ℕ) (old : S) (reactions left : ℕ) (mem : Space) (out : S) : Type 0 where
  pub marks : List Mark
  pub noted : Noted notes marks old out
  pub rest : advanced image (us + 1) us (Waits (plain begin)) ≡ marked_config marks (advanced image reactions left (Waits (plain mem.bytes)))
  pub made : IsMachine image mem
  pub count : faults out ≡ faults old

-- the reaction of the timers that come first
abbrev pub first_served : Image → (left time : ℕ) → List ℕ → Config
first_served image left time bytes = reacts image (timers_woken image (left - time) (time_passed image time (plain bytes)))

serves : (image : Image) (ms : List Mark) (n k d time : ℕ) (bytes : List ℕ) (t : Config) → t ≡ marked_config ms (advanced image n d (Waits (plain bytes))) → n ≡ k + 1 → least_time image bytes ≡ Some time → time ≤ d → t ≡ marked_config ms (advanced image k (d - time) (first_served image d time bytes))
serves image ms n k d time bytes t e s l le = e ∙ ap (marked_config ms) (comes_first image n k d time (plain bytes) s l le)

pub served_kept : (image : Image) (ms : List Mark) (n k d time : ℕ) (bytes : List ℕ) (t : Config) → t ≡ marked_config ms (advanced image n d (Waits (plain bytes))) → n ≡ k + 1 → least_time image bytes ≡ Some time → time ≤ d → IsKept t → IsKept (first_served image d time bytes)
served_kept image ms n k d time bytes t e s l le h =
    let c = first_served image d time bytes in
    kept_inner image k (d - time) c (unmarked_kept ms (advanced image k (d - time) c) (subst IsKept (serves image ms n k d time bytes t e s l le) h))

-- with the next reaction done, where the machine waits
pub rest_on : (image : Image) (ms : List Mark) (n k d time : ℕ) (bytes bytes' : List ℕ) (t : Config) → t ≡ marked_config ms (advanced image n d (Waits (plain bytes))) → n ≡ k + 1 → least_time image bytes ≡ Some time → time ≤ d → Came (first_served image d time bytes) Waiting bytes' → t ≡ marked_config (ms ++ marks_of (first_served image d time bytes)) (advanced image k (d - time) (Waits (plain bytes')))
rest_on image ms n k d time bytes bytes' t e s l le h =
    let c = first_served image d time bytes in
    serves image ms n k d time bytes t e s l le ∙ ap (marked_config ms) (from_bare image k (d - time) c ∙ ap (λ (x : Config). marked_config (marks_of c) (advanced image k (d - time) x)) (bare_waits c bytes' h))
    ∙ marked_twice ms (marks_of c) (advanced image k (d - time) (Waits (plain bytes')))

-- and where the program has ended or faulted
pub over_on : (image : Image) (ms : List Mark) (n k d time : ℕ) (bytes bytes' : List ℕ) (a : After) (t : Config) → t ≡ marked_config ms (advanced image n d (Waits (plain bytes))) → n ≡ k + 1 → least_time image bytes ≡ Some time → time ≤ d → IsKept t → (a ≡ Waiting → ⊥) → Came (first_served image d time bytes) a bytes' → Came t a bytes' × (marks_of t ≡ ms ++ marks_of (first_served image d time bytes))
over_on image ms n k d time bytes bytes' a t e s l le kept ne h =
    let c = first_served image d time bytes in
    let is : t ≡ marked_config ms c = serves image ms n k d time bytes t e s l le ∙ ap (marked_config ms) (at_end image k (d - time) c a bytes' ne h) in
    (subst (λ (x : Config). Came x a bytes') (sym is) (came_marked ms c a bytes' h), ap marks_of is ∙ marks_marked ms c (unmarked_kept ms c (subst IsKept is kept)))

-- where the sink fails in the reaction
pub begins_on : (image : Image) (ms : List Mark) (n k d time : ℕ) (bytes : List ℕ) (t : Config) → t ≡ marked_config ms (advanced image n d (Waits (plain bytes))) → n ≡ k + 1 → least_time image bytes ≡ Some time → time ≤ d → IsKept t → (more : List Mark) × (marks_of t ≡ (ms ++ marks_of (first_served image d time bytes)) ++ more)
begins_on image ms n k d time bytes t e s l le kept =
    let c = first_served image d time bytes in
    let later = advanced image k (d - time) (bare c) in
    let is : t ≡ marked_config (ms ++ marks_of c) later = serves image ms n k d time bytes t e s l le ∙ ap (marked_config ms) (from_bare image k (d - time) c) ∙ marked_twice ms (marks_of c) later in
    (marks_of later, ap marks_of is ∙ marks_marked (ms ++ marks_of c) later (unmarked_kept (ms ++ marks_of c) later (subst IsKept is kept)))

-- ---- the ways to stop

waits_on : (ms : List Mark) (bytes : List ℕ) (t : Config) → t ≡ marked_config ms (Waits (plain bytes)) → Came t Waiting bytes × (marks_of t ≡ ms)
waits_on ms bytes t e = (subst (λ (x : Config). Came x Waiting bytes) (sym e) refl, ap marks_of e ∙ append-nil ms)

pub none_on : (image : Image) (ms : List Mark) (n k d : ℕ) (bytes : List ℕ) (t : Config) → t ≡ marked_config ms (advanced image n d (Waits (plain bytes))) → n ≡ k + 1 → least_time image bytes ≡ None → Came t Waiting bytes × (marks_of t ≡ ms)
none_on image ms n k d bytes t e s l = waits_on ms bytes t (e ∙ ap (marked_config ms) (none_waits image n k d (plain bytes) s l))

pub later_on : (image : Image) (ms : List Mark) (n k d time : ℕ) (bytes bytes' : List ℕ) (t : Config) → t ≡ marked_config ms (advanced image n d (Waits (plain bytes))) → n ≡ k + 1 → least_time image bytes ≡ Some time → d < time → bytes' ≡ (time_passed image d (plain bytes)).bytes → Came t Waiting bytes' × (marks_of t ≡ ms)
later_on image ms n k d time bytes bytes' t e s l lt b =
    waits_on ms bytes' t (e ∙ ap (marked_config ms) (comes_later image n k d time (plain bytes) s l lt ∙ ap (λ (x : List ℕ). Waits (plain x)) (sym b)))

no_more : (image : Image) (d : ℕ) (c : Config) → advanced image 0 d c ≡ c
unfolding advanced
no_more image d c = refl

pub out_on : (image : Image) (ms : List Mark) (n d : ℕ) (bytes : List ℕ) (t : Config) → t ≡ marked_config ms (advanced image n d (Waits (plain bytes))) → n ≡ 0 → Came t Waiting bytes × (marks_of t ≡ ms)
out_on image ms n d bytes t e z = waits_on ms bytes t (e ∙ ap (marked_config ms) (ap (λ (k : ℕ). advanced image k d (Waits (plain bytes))) z ∙ no_more image d (Waits (plain bytes))))
