-- A pool that is seen from a leaf is one of a block of the leaf's own body.
use Rattle.std.proofs.Common.{◌≡◌, refl, sym, ◌∙◌, ℕ, true, [], ◌++◌, ◌⊎◌, inl, inr, Some, None}
use Rattle.ceu_tree.specs.declared.kernel.Kernel.{Kernel}
use Rattle.ceu_tree.specs.declared.kernel.KBlock.{out-KBlock}
use Rattle.ceu_tree.specs.Residual.{Body, Act}
use Rattle.ceu_tree.specs.Focus.{Frame, OfBlock, OfInstance, OfOpen, OfLoop, OfCall, OfPar, Focus, Here, In, body_in, body_of}
use Rattle.ceu_tree.specs.Proper.{IsPool, pool_slots, is_proper}
use Rattle.ceu_tree.specs.Step.{size_in}
use Rattle.laws_meaning_basics.specs.Shape.{Part, FrameFits, around_statement, around_end, around_instance, around_part, around_turn, around_call, around_branch, Around, nothing_around, one_around}
use Rattle.laws_meaning_instances.proofs.Homes.{parameters_apart}
use Rattle.laws_meaning_instances.proofs.Spawns.{frame_without, frame_has, none_has, one_has, frame_apart}
use Rattle.laws_meaning_instances.proofs.Paths.{part_find, frame_found}

-- each block around the leaf that has the pool is of that body
abbrev pub frame_homed : ℕ → Frame → Body → Body → Type 0
frame_homed pool (OfBlock b fin all rest) body home = (n : ℕ) → size_in pool (out-KBlock b).decls ≡ Some n → body ≡ home
frame_homed pool fr body home = Unit {0}

unfoldable pub homed : ℕ → Focus Act → Body → Body → Type 0
homed pool (Here a) body home = Unit {0}
homed pool (In fr f) body home = frame_homed pool fr body home × homed pool f (body_in fr body) home

without_homed : (pool : ℕ) (fr : Frame) (body home : Body) → frame_without pool fr → frame_homed pool fr body home
without_homed pool (OfBlock b fin all rest) body home h = λ n e. absurd (some_none n (sym e ∙ h))
  where
    some_none : (n : ℕ) → Some n ≡ None → ⊥
    some_none n q = absurd (cc)
without_homed pool (OfInstance b fin front seat back r rest) body home h = tt
without_homed pool (OfOpen s) body home h = tt
without_homed pool (OfLoop s c) body home h = tt
without_homed pool (OfCall s) body home h = tt
without_homed pool (OfPar s front back) body home h = tt

none_homed : (pool : ℕ) (f : Focus Act) (body home : Body) → none_has pool f → homed pool f body home
unfolding none_has homed
none_homed pool (Here a) body home h = tt
none_homed pool (In fr f) body home h = (without_homed pool fr body home h.0, none_homed pool f (body_in fr body) home h.1)

module _ (K : Kernel) (pool : ℕ) (proper : is_proper K ≡ true) (code : ℕ) where
  -- where no block of the parts around has it, it is seen from outside them, and they begin no body
  record Through (f : Focus Act) (d : Part) : Type 0 where
    seen : part_find K pool d ≡ Some (IsPool code)
    same : (body : Body) → body_of f body ≡ body

  frame_same : {t : ℕ} {fr : Frame} {d e : Part} → FrameFits K t fr d e → part_find K pool e ≡ Some (IsPool code) → (body : Body) → body_in fr body ≡ body
  frame_same (around_statement done q f fit) p body = refl
  frame_same (around_end f fit) p body = refl
  frame_same (around_instance {seat = seat} done k q f r y z o c) p body = absurd (parameters_apart K pool code seat.code (pool_slots k.params ++ []) k proper c p)
  frame_same (around_part b o) p body = refl
  frame_same (around_turn k b q c) p body = refl
  frame_same (around_call m es f y k q c) p body = absurd (parameters_apart K pool code m (pool_slots k.params ++ []) k proper c p)
  frame_same (around_branch k slot bs b cs q y z) p body = refl

  frame_through : {t : ℕ} {fr : Frame} {d e : Part} → FrameFits K t fr d e → frame_without pool fr → part_find K pool e ≡ Some (IsPool code)
      → part_find K pool d ≡ Some (IsPool code)
  frame_through {fr = fr} {d = d} a n p = go (frame_found K pool proper code a p)
    where
      go : frame_has pool code fr ⊎ (frame_without pool fr × (part_find K pool d ≡ Some (IsPool code))) → part_find K pool d ≡ Some (IsPool code)
      go (inl h) = absurd (frame_apart pool code fr n h)
      go (inr h) = h.1

  through_none : {t : ℕ} {f : Focus Act} {d e : Part} → Around K t Act f d e → none_has pool f → part_find K pool e ≡ Some (IsPool code) → Through f d
  unfolding none_has
  through_none nothing_around n p = record { seen = p; same = λ body. refl }
  through_none {f = In fr f} (one_around a more) n p =
      let i = through_none more n.1 p in
      record { seen = frame_through a n.0 i.seen; same = λ body. i.same (body_in fr body) ∙ frame_same a i.seen body }

  block_homed : (fr : Frame) (body home : Body) → home ≡ body_in fr body → frame_has pool code fr → frame_homed pool fr body home
  block_homed (OfBlock b fin all rest) body home q h = λ n e. sym q
  block_homed fr body home q h = elim h [ ]

  pub one_homed : {t : ℕ} {f : Focus Act} {d e : Part} → Around K t Act f d e → one_has pool code f → part_find K pool e ≡ Some (IsPool code) → (body : Body)
      → homed pool f body (body_of f body)
  unfolding one_has homed none_has
  one_homed nothing_around o p body = elim o [ ]
  one_homed {f = In fr f} (one_around a more) (inl o) p body =
      (block_homed fr body (body_of f (body_in fr body)) ((through_none more o.1 p).same (body_in fr body)) o.0, none_homed pool f (body_in fr body) (body_of f (body_in fr body)) o.1)
  one_homed {f = In fr f} (one_around a more) (inr o) p body = (without_homed pool fr body (body_of f (body_in fr body)) o.0, one_homed more o.1 p (body_in fr body))
