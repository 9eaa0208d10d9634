-- A walk through a program's types that has broken no rule, and what was so before each of its steps.
use Rattle.std.proofs.Common.{◌≡◌, refl, sym, ◌∙◌, Option, Some, None, Bool, true, false}
use Rattle.std.specs.Prelude.{⊤, IsTrue, if◌then◌else◌}
use Rattle.ceu_base.specs.declared.kinds.Ty.{Ty}
use Rattle.ceu_base.specs.declared.kinds.Pos.{Pos}
use Rattle.ceu_base.specs.declared.kinds.Rule.{Rule}
use Rattle.ceu_tree.specs.Proper.{Where, InTrail, InsideAsync, InFinalizer, is_trail, outside_asyncs, outside_finalizers}
use Rattle.ceu_scopes.specs.declared.known.Scopes.{Scopes}
use Rattle.ceu_types.specs.declared.found.Found.{Found}
use Rattle.ceu_types.specs.declared.found.Broken.{Broken}
use Rattle.ceu_types.specs.Ranks.{lower}
use Rattle.ceu_types.specs.Places.{first, at_place}
use Rattle.ceu_types.specs.Notes.{asks, asks_own, typed, passed, not_in_every, not_in_async, not_in_finalizer, begun, ended_after, ended}
use Rattle.ceu_types.specs.Statements.{waits, acts}

-- what the place forbids wasn't met
abbrev pub Allows : Where → Found → Type 0
Allows InTrail f = ⊤
Allows InsideAsync f = f.beyond_async ≡ false
Allows InFinalizer f = f.beyond_finalizer ≡ false

pub record Fine (place : Where) (f : Found) : Type 0 where
  pub broken : f.broken ≡ None
  pub own : f.own ≡ None
  pub allows : Allows place f

-- ---- single steps

never_later : (b : Option Broken) (c : Broken) → first b (Some c) ≡ None → ⊥
never_later None c h = absurd (cc)
never_later (Some b) c h = absurd (cc)

abbrev Asked : Where → Bool → Found → Type 0
Asked place test f = (test ≡ true) × Fine place f

asked_by : (place : Where) (test : Bool) (r : Rule) (p : Pos) (f : Found) → Fine place (if test then f else record f { broken = first f.broken (Some (record { rule = r; pos = p })) }) → Asked place test f
asked_by place true r p f h = (refl, h)
asked_by place false r p f h = absurd (never_later f.broken (record { rule = r; pos = p }) h.broken)

pub fine_asks : (place : Where) (test : Bool) (r : Rule) (p : Pos) (f : Found) → Fine place (asks test r p f) → Asked place test f
unfolding asks
fine_asks place test r p f h = asked_by place test r p f h

own_by : (place : Where) (test : Bool) (r : Rule) (f : Found) → Fine place (if test then f else record f { own = Some (lower f.own r) }) → Asked place test f
own_by place true r f h = (refl, h)
own_by place false r f h = let e : Some (lower f.own r) ≡ None = h.own in absurd (cc)

pub fine_own : (place : Where) (test : Bool) (r : Rule) (f : Found) → Fine place (asks_own test r f) → Asked place test f
unfolding asks_own
fine_own place test r f h = own_by place test r f h

allows_as : (place : Where) (f g : Found) → g.beyond_async ≡ f.beyond_async → g.beyond_finalizer ≡ f.beyond_finalizer → Allows place g → Allows place f
allows_as InTrail f g a b h = tt
allows_as InsideAsync f g a b h = sym a ∙ h
allows_as InFinalizer f g a b h = sym b ∙ h

-- a step that leaves rules and flags as they are
pub fine_as : (place : Where) (f g : Found) → g.broken ≡ f.broken → g.own ≡ f.own → g.beyond_async ≡ f.beyond_async → g.beyond_finalizer ≡ f.beyond_finalizer → Fine place g → Fine place f
fine_as place f g b o x y h = record { broken = sym b ∙ h.broken; own = sym o ∙ h.own; allows = allows_as place f g x y h.allows }

pub fine_typed : (place : Where) (t : Ty) (f : Found) → Fine place (typed t f) → Fine place f
unfolding typed
fine_typed place t f h = fine_as place f (typed t f) refl refl refl refl h

pub fine_passed : (s : Scopes) (place : Where) (f : Found) → Fine place (passed s f) → Fine place f
unfolding passed
fine_passed s place f h = fine_as place f (passed s f) refl refl refl refl h

pub fine_every : (place : Where) (f : Found) → Fine place (not_in_every f) → Fine place f
unfolding not_in_every
fine_every place f h = fine_as place f (not_in_every f) refl refl refl refl h

async_allows : (place : Where) (f : Found) → Allows place (record f { beyond_async = true }) → Allows place f × IsTrue (outside_asyncs place)
async_allows InTrail f h = (tt, refl)
async_allows InsideAsync f h = absurd (cc)
async_allows InFinalizer f h = (h, refl)

pub fine_async : (place : Where) (f : Found) → Fine place (not_in_async f) → Fine place f × IsTrue (outside_asyncs place)
unfolding not_in_async
fine_async place f h = let k = async_allows place f h.allows in (record { broken = h.broken; own = h.own; allows = k.0 }, k.1)

finalizer_allows : (place : Where) (f : Found) → Allows place (record f { beyond_finalizer = true }) → Allows place f × IsTrue (outside_finalizers place)
finalizer_allows InTrail f h = (tt, refl)
finalizer_allows InsideAsync f h = (h, refl)
finalizer_allows InFinalizer f h = absurd (cc)

pub fine_finalizer : (place : Where) (f : Found) → Fine place (not_in_finalizer f) → Fine place f × IsTrue (outside_finalizers place)
unfolding not_in_finalizer
fine_finalizer place f h = let k = finalizer_allows place f h.allows in (record { broken = h.broken; own = h.own; allows = k.0 }, k.1)

both_trail : (place : Where) → IsTrue (outside_asyncs place) → IsTrue (outside_finalizers place) → IsTrue (is_trail place)
both_trail InTrail h k = refl
both_trail InsideAsync h k = absurd (cc)
both_trail InFinalizer h k = absurd (cc)

pub fine_acts : (place : Where) (f : Found) → Fine place (acts f) → Fine place f × IsTrue (is_trail place)
unfolding acts
fine_acts place f h =
    let a = fine_async place (not_in_finalizer f) h in
    let b = fine_finalizer place f a.0 in
    (b.0, both_trail place a.1 b.1)

pub fine_waits : (place : Where) (f : Found) → Fine place (waits f) → Fine place f × IsTrue (is_trail place)
unfolding waits
fine_waits place f h =
    let e = fine_every place (not_in_async (not_in_finalizer f)) h in
    let a = fine_async place (not_in_finalizer f) e in
    let b = fine_finalizer place f a.0 in
    (b.0, both_trail place a.1 b.1)

-- ---- statements begin and end

first_none : (a b : Option Broken) → first a b ≡ None → (a ≡ None) × (b ≡ None)
first_none None b h = (refl, h)
first_none (Some a) b h = absurd (cc)

place_none : (p : Pos) (r : Option Rule) → at_place p r ≡ None → r ≡ None
place_none p None h = refl
place_none p (Some r) h = absurd (cc)

-- where nothing is broken behind a statement, nothing was before it, nor in it
pub fine_ended : (place : Where) (p : Pos) (f g : Found) → Fine place (ended p f g) → (f.broken ≡ None) × (f.own ≡ None) × Fine place g
unfolding ended_after
fine_ended place p f g h =
    let a = first_none f.broken (first (at_place p g.own) g.broken) h.broken in
    let b = first_none (at_place p g.own) g.broken a.1 in
    (a.0, h.own, record { broken = b.1; own = place_none p g.own b.0; allows = allows_as place g (ended p f g) refl refl h.allows })

pub fine_begun : (place : Where) (f : Found) → f.broken ≡ None → f.own ≡ None → Fine place (begun f) → Fine place f
unfolding begun
fine_begun place f b o h = record { broken = b; own = o; allows = allows_as place f (begun f) refl refl h.allows }

pub outside_trail : (place : Where) → IsTrue (is_trail place) → IsTrue (outside_finalizers place)
outside_trail InTrail h = refl
outside_trail InsideAsync h = absurd (cc)
outside_trail InFinalizer h = absurd (cc)

pub trail_is : (place : Where) → IsTrue (is_trail place) → place ≡ InTrail
trail_is InTrail h = refl
trail_is InsideAsync h = absurd (cc)
trail_is InFinalizer h = absurd (cc)
