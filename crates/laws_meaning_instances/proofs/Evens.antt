-- In a tree that fits a proper kernel no instance is inside an async, so the list of its numbers has each as often as it is an instance there.
use Rattle.std.proofs.Common.{◌≡◌, refl, sym, ap, ◌∙◌, ℕ, ◌+◌, true, false, List, [], ◌∷◌, ◌++◌, arith}
use Rattle.std.proofs.lemmas.Bool.{false≢true}
use Rattle.ceu_tree.specs.declared.kernel.Kernel.{Kernel}
use Rattle.ceu_tree.specs.declared.kernel.KLoop.{KLoop}
use Rattle.ceu_tree.specs.declared.kernel.KLoop.TheVariants as turns
use Rattle.ceu_tree.specs.declared.kernel.ParKind.{ParKind}
use Rattle.ceu_tree.specs.declared.kernel.KBlock.{KBlock}
use Rattle.ceu_tree.specs.declared.kernel.KStmt.{out-KStmt}
use Rattle.ceu_tree.specs.declared.kernel.KStmt.TheOpen.{KStmt-F}
use Rattle.ceu_tree.specs.Residual.{Body, Awaited, Spawned, Act, Seat, Residual, Over, Branches, branch, Instances, instance}
use Rattle.ceu_tree.specs.Focus.{Frame, OfBlock, OfInstance, OfPar, Focus, In, join, join_instances, fill, plug}
use Rattle.ceu_tree.specs.Leaf.{Layer}
use Rattle.ceu_tree.specs.Legal.{Seated, seats, branch_seats, instance_seats, numbers}
use Rattle.ceu_tree.specs.Proper.{Scope, is_trail, is_proper}
use Rattle.laws_meaning_basics.specs.Shape.{Part, ABlock, AStatement, AnEnd, part_scope, turn_scope, opens_part, Fits, to_begin, to_turn, in_list, to_finish, at_input, at_time, at_event, at_forever, at_async, in_part, in_turn, in_call, in_par, EachFits, no_more, an_ended, a_branch, AllFit, none_lives, one_lives, FrameFits, around_statement, around_end, around_instance, around_part, around_turn, around_call, around_branch, Around, nothing_around, one_around}
use Rattle.laws_meaning_basics.proofs.Static.{names_of, code_static, each_fine}
use Rattle.laws_meaning_basics.proofs.UpFits.{Sound, layer_of, list_sound, part_sound, frame_sound}
use Rattle.laws_meaning_instances.proofs.Living.{often, lives, live_branches, live_instances}
use Rattle.laws_meaning_instances.proofs.Lists.{often_append, numbers_append}

module _ (K : Kernel) (proper : is_proper K ≡ true) (n : ℕ) where
  -- ---- asyncs

  abbrev pub apart : Part → Type 0
  apart (ABlock turn sc b) = is_trail sc.place ≡ false
  apart (AStatement sc s) = is_trail sc.place ≡ false
  apart AnEnd = Unit {0}

  part_apart : (sc : Scope) (m : ℕ) (layer : Layer) (b : KBlock) → opens_part layer b → is_trail sc.place ≡ false → is_trail (part_scope K sc m layer).place ≡ false
  part_apart sc m (KStmt-F.Do t c) b o h = h
  part_apart sc m (KStmt-F.If arms last) b o h = h
  part_apart sc m layer b o h = elim o [ ]

  turn_apart : (sc : Scope) (m : ℕ) (k : KLoop) → is_trail sc.place ≡ false → is_trail (turn_scope K sc m k).place ≡ false
  turn_apart sc m turns.Free h = h
  turn_apart sc m (turns.Times slot j) h = h
  turn_apart sc m (turns.Range i next end open_a a b open_b) h = h

  none_apart : {t : ℕ} {sc : Scope} {all : Instances} → AllFit K t sc all → is_trail sc.place ≡ false → live_instances n all ≡ 0
  unfolding lives
  none_apart none_lives p = refl
  none_apart (one_lives k q e h more) p = absurd (false≢true (sym p ∙ q))

  apart_lives : {t : ℕ} {d : Part} {r : Residual} → Fits K t d r → Sound K proper d → apart d → lives n r ≡ 0
  unfolding lives
  apart_lives (to_begin l) h p = refl
  apart_lives (to_turn l q) h p = refl
  apart_lives (in_list {sc = sc} {b = b} {rest = rest} {s = s} done e f all more) h p =
      let a = none_apart all p in let c = apart_lives more (list_sound K proper sc b done s rest h e) p in omega (arith, a, c)
  apart_lives (to_finish l q) h p = refl
  apart_lives (at_input q e) h p = refl
  apart_lives (at_time q u y e) h p = refl
  apart_lives (at_event q e) h p = refl
  apart_lives (at_forever e) h p = refl
  apart_lives (at_async {sc = sc} {s = s} b e more) h p = absurd (false≢true (sym p ∙ (layer_of K proper sc s (KStmt-F.Async b) e h).0))
  apart_lives (in_part {sc = sc} {s = s} b o more) h p =
      apart_lives more (part_sound K proper sc s.node (out-KStmt s.stmt) b (layer_of K proper sc s (out-KStmt s.stmt) refl h) o) (part_apart sc s.node (out-KStmt s.stmt) b o p)
  apart_lives (in_turn {sc = sc} {s = s} k b e c more) h p = apart_lives more (layer_of K proper sc s (KStmt-F.Loop k b) e h) (turn_apart sc s.node k p)
  apart_lives (in_call {sc = sc} {s = s} c es f y k e q more) h p = absurd (false≢true (sym p ∙ (layer_of K proper sc s (KStmt-F.AwaitCode c es f y) e h).0))
  apart_lives (in_par {sc = sc} {s = s} k slot bs e q more) h p = absurd (false≢true (sym p ∙ (layer_of K proper sc s (KStmt-F.Par k slot bs) e h).0))

  -- ---- the list of numbers

  abbrev Same : Residual → Type 0
  Same r = (body : Body) → often n (numbers (seats r body)) ≡ lives n r

  abbrev SameBranches : Branches → Type 0
  SameBranches bs = (body : Body) → often n (numbers (branch_seats bs body)) ≡ live_branches n bs

  abbrev SameInstances : Instances → Type 0
  SameInstances all = (body : Body) → often n (numbers (instance_seats all body)) ≡ live_instances n all

  both : (xs ys : List Seated) → often n (numbers (xs ++ ys)) ≡ often n (numbers xs) + often n (numbers ys)
  both xs ys = ap (often n) (numbers_append xs ys) ∙ often_append n (numbers xs) (numbers ys)

  block_same : (all : Instances) (r : Residual) (body : Body) → SameInstances all → Same r → often n (numbers (instance_seats all body ++ seats r body)) ≡ live_instances n all + lives n r
  block_same all r body a c = let x = a body in let y = c body in omega (arith, both (instance_seats all body) (seats r body), x, y)

  branch_same : (r : Residual) (more : Branches) → Same r → SameBranches more → SameBranches (branch r more)
  unfolding seats lives
  branch_same r more a c body = let x = a body in let y = c body in omega (arith, both (seats r body) (branch_seats more body), x, y)

  instance_same : (seat : Seat) (r : Residual) (more : Instances) → Same r → SameInstances more → SameInstances (instance seat r more)
  unfolding seats lives
  instance_same seat r more a c body = let x = a (Spawned seat.number) in let y = c body in omega (arith, both (seats r (Spawned seat.number)) (instance_seats more body), x, y)

  over_same : Same Over
  unfolding seats lives
  over_same body = refl

  mutual
    unfolding seats lives

    pub fits_same : {t : ℕ} {d : Part} {r : Residual} → Fits K t d r → Sound K proper d → Same r
    fits_same (to_begin l) h body = refl
    fits_same (to_turn l q) h body = refl
    fits_same (in_list {sc = sc} {b = b} {rest = rest} {all = all} {r = r} {s = s} done e f fit more) h body = block_same all r body (all_same fit) (fits_same more (list_sound K proper sc b done s rest h e))
    fits_same (to_finish l q) h body = refl
    fits_same (at_input q e) h body = refl
    fits_same (at_time q u y e) h body = refl
    fits_same (at_event q e) h body = refl
    fits_same (at_forever e) h body = refl
    fits_same (at_async {sc = sc} {s = s} b e more) h body = sym (apart_lives more (layer_of K proper sc s (KStmt-F.Async b) e h).1 refl)
    fits_same (in_part {sc = sc} {s = s} b o more) h body = fits_same more (part_sound K proper sc s.node (out-KStmt s.stmt) b (layer_of K proper sc s (out-KStmt s.stmt) refl h) o) body
    fits_same (in_turn {sc = sc} {s = s} k b e c more) h body = fits_same more (layer_of K proper sc s (KStmt-F.Loop k b) e h) body
    fits_same (in_call {s = s} c es f y k e q more) h body = fits_same more (code_static K c k proper q) (Awaited body s.node)
    fits_same (in_par {sc = sc} {s = s} k slot bs e q more) h body = each_same more (layer_of K proper sc s (KStmt-F.Par k slot bs) e h).1 body

    each_same : {t : ℕ} {sc : Scope} {k : ParKind} {bs : List KBlock} {rs : Branches} → EachFits K t sc k bs rs → each_fine K (names_of K) sc bs → SameBranches rs
    each_same no_more h body = refl
    each_same (an_ended {more = more} m fit) h body = branch_same Over more over_same (each_same fit h.1) body
    each_same (a_branch {r = r} {more = more} fit rest) h body = branch_same r more (fits_same fit h.0) (each_same rest h.1) body

    all_same : {t : ℕ} {sc : Scope} {all : Instances} → AllFit K t sc all → SameInstances all
    all_same none_lives body = refl
    all_same (one_lives {seat = seat} {r = r} {more = more} k p e fit rest) body = instance_same seat r more (fits_same fit (code_static K seat.code k proper e)) (all_same rest) body

  -- ---- in frames

  join_same : {t : ℕ} {sc : Scope} {k : ParKind} {bs : List KBlock} {front : Branches} (back : Branches) (r : Residual) → EachFits K t sc k bs front → each_fine K (names_of K) sc bs → Same r → SameBranches back → SameBranches (join front (branch r back))
  join_same back r no_more h a c = branch_same r back a c
  join_same back r (an_ended {more = more} m fit) h a c = branch_same Over (join more (branch r back)) over_same (join_same back r fit h.1 a c)
  join_same back r (a_branch {r = q} {more = more} fit rest) h a c = branch_same q (join more (branch r back)) (fits_same fit h.0) (join_same back r rest h.1 a c)

  join_all_same : {t : ℕ} {sc : Scope} {front : Instances} (seat : Seat) (r : Residual) (back : Instances) → AllFit K t sc front → Same r → SameInstances back → SameInstances (join_instances front (instance seat r back))
  join_all_same seat r back none_lives a c = instance_same seat r back a c
  join_all_same seat r back (one_lives {seat = other} {r = q} {more = more} k p e fit rest) a c =
      instance_same other q (join_instances more (instance seat r back)) (fits_same fit (code_static K other.code k proper e)) (join_all_same seat r back rest a c)

  each_parts : (sc : Scope) (bs : List KBlock) (b : KBlock) (cs : List KBlock) → each_fine K (names_of K) sc (bs ++ b ∷ cs) → each_fine K (names_of K) sc bs × each_fine K (names_of K) sc cs
  each_parts sc [] b cs h = (tt, h.1)
  each_parts sc (x ∷ bs) b cs h = let a = each_parts sc bs b cs h.1 in ((h.0, a.0), a.1)

  fill_same : {t : ℕ} {fr : Frame} {d e : Part} (r : Residual) → FrameFits K t fr d e → Sound K proper d → Same r → Same (fill fr r)
  unfolding seats lives
  fill_same {fr = OfBlock b fin all rest} r (around_statement done e f fit) h a body = block_same all r body (all_same fit) a
  fill_same {fr = OfBlock b fin all rest} r (around_end f fit) h a body = block_same all r body (all_same fit) a
  fill_same {fr = OfInstance b fin front seat back q rest} r (around_instance {sc = sc} {s = s} done k e f fit x y p c) h a body =
      block_same (join_instances front (instance seat r back)) q body (join_all_same seat r back x a (all_same y)) (fits_same fit (list_sound K proper sc b done s rest h e))
  fill_same r (around_part b o) h a body = a body
  fill_same r (around_turn k b e c) h a body = a body
  fill_same r (around_call {s = s} c es f y k e q) h a body = a (Awaited body s.node)
  fill_same {fr = OfPar s front back} r (around_branch {sc = sc} k slot bs b cs e x y) h a body =
      let z = each_parts sc bs b cs (layer_of K proper sc s (KStmt-F.Par k slot (bs ++ b ∷ cs)) e h).1 in join_same back r x z.0 a (each_same y z.1) body

  plug_same : {A : Type 0} {t : ℕ} {f : Focus A} {d e : Part} (r : Residual) → Around K t A f d e → Sound K proper d → Same r → Same (plug f r)
  plug_same r nothing_around h a = a
  plug_same {f = In fr f} r (one_around x more) h a = fill_same (plug f r) x h (plug_same r more (frame_sound K proper x h) a)

  pub turn_same : {t : ℕ} {f : Focus Act} {d e : Part} → Around K t Act f d e → Sound K proper d → Same (plug f Over)
  turn_same a h = plug_same Over a h over_same
