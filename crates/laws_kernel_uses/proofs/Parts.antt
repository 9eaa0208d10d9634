-- What a statement adds to its block: one statement that sets a slot at most, or a declaration and the statement that sets it.
use Rattle.std.proofs.Common.{◌≡◌, ◌≢◌, refl, sym, ap, ◌∙◌, subst, ℕ, ◌≤◌, ◌<◌, ◌+◌, length, arith, List, [], ◌∷◌, ◌++◌, Option, Some, None, Result, Bool, true, false}
use Rattle.std.specs.Prelude.{slice_get}
use Rattle.ceu_base.specs.declared.kinds.Ty.{Ty}
use Rattle.ceu_base.specs.declared.kinds.Pos.{Pos}
use Rattle.ceu_base.specs.declared.kinds.Rule.{Rule}
use Rattle.ceu_tree.specs.declared.source.Class.{Class}
use Rattle.ceu_tree.specs.declared.source.Ident.{Ident}
use Rattle.ceu_tree.specs.declared.kernel.KNode.{KNode}
use Rattle.ceu_tree.specs.declared.kernel.KDecl.{KDecl}
use Rattle.ceu_tree.specs.declared.kernel.KKind.{KKind}
use Rattle.ceu_tree.specs.declared.kernel.KStmt.{KStmt}
use Rattle.ceu_tree.specs.Mentions.{stmt_names, count_of, sets, is_set_decl}
use Rattle.ceu_scopes.specs.declared.known.Known.{Known}
use Rattle.ceu_scopes.specs.declared.known.Scopes.{Scopes}
use Rattle.ceu_scopes.specs.declared.walk.Walk.{Walk}
use Rattle.ceu_scopes.specs.Walk.{Broken, ◌>>=◌, block_of, shown, fresh}
use Rattle.ceu_scopes.specs.Rules.{is_code, declared}
use Rattle.ceu_expand.specs.declared.draft.Draft.{Draft}
use Rattle.ceu_expand.specs.declared.draft.Parts.{Parts}
use Rattle.ceu_expand.specs.Draft as draft
use Rattle.ceu_expand.specs.Draft.{begun, hidden, placed}
use Rattle.laws_kernel_shape.specs.Shaped.{AllOf}
use Rattle.laws_kernel_shape.proofs.Good.{all_append}
use Rattle.laws_kernel_shape.proofs.Steps.{Always, always_then}
use Rattle.laws_kernel_names.proofs.Stepping.{Fits}
use Rattle.laws_kernel_uses.specs.Settled.{StmtSettled}
use Rattle.laws_kernel_uses.proofs.Sets.{first_here, Absent, SetIn, set_more, NodeSettled}
use Rattle.laws_kernel_uses.proofs.Knowing.{is_slotted, Means, slot_means, other_means, Knows, Outside, Step, step_then, calm_step, Declares, declares, shown_shows}
use Rattle.laws_kernel_uses.proofs.Passing.{out_left, out_right, Clear, clear_step, Gives}

module _ (T : List (List ℕ)) where
  -- n isn't named in the block so far
  abbrev pub HoldsIn : ℕ → Parts → Type 0
  HoldsIn n ps = (own : Bool) → AllOf (Absent T own n) ps.list

  -- what the block declares so far is set there
  abbrev pub SetAll : Parts → Type 0
  SetAll ps = AllOf (SetIn T ps.list) ps.decls

  abbrev pub SettledIn : Parts → Type 0
  SettledIn ps = AllOf (NodeSettled T) ps.list

  abbrev more_list : Parts → KNode → Parts
  more_list ps one = record ps { list = ps.list ++ one ∷ [] }

  holds_more : (n : ℕ) (ps : Parts) (one : KNode) → ((own : Bool) → count_of n (stmt_names own T one.stmt) ≡ 0) → HoldsIn n ps → HoldsIn n (more_list ps one)
  holds_more n ps one k h own = all_append (Absent T own n) ps.list one (h own) (k own)

  set_all_more : (ps : Parts) (one : KNode) → SetAll ps → SetAll (more_list ps one)
  set_all_more ps one h = set_more T ps.list (one ∷ []) ps.decls h

  settled_more : (ps : Parts) (one : KNode) → StmtSettled T one.stmt → SettledIn ps → SettledIn (more_list ps one)
  settled_more ps one k h = all_append (NodeSettled T) ps.list one h k

  module _ (s : Scopes) where
    -- one statement, which sets this slot and names it as the target, and else no slot that isn't shown
    pub record Puts (w : Walk) (d : Draft) (v : Walk) (e : Draft) (slot : Option ℕ) (target : Bool → List ℕ) : Type 0 where
      pub step : Step T s w d v e
      pub one : KNode
      pub parts : e.parts ≡ more_list d.parts one
      pub sets_it : (m : ℕ) → slot ≡ Some m → sets m one.stmt ≡ true
      pub count : Fits s v → (n : ℕ) → Outside d.slot e.slot n → Knows T n w d → (own : Bool) → count_of n (stmt_names own T one.stmt) ≡ count_of n (target own)
      pub settled : Fits s v → (top : ℕ) → e.slot ≤ top → Clear T s top w d → StmtSettled T one.stmt

    abbrev pub PutsBy : Walk → Draft → Result Walk Broken → Draft → Option ℕ → (Bool → List ℕ) → Type 0
    PutsBy w d x e slot target = Always (λ v. Puts w d v e slot target) x

    begun_step : (w : Walk) (d : Draft) → Step T s w d w (begun d)
    unfolding begun
    begun_step w d = calm_step T s w d _ refl refl (omega arith)

    placed_step : (n : ℕ) (p : Pos) (st : KStmt) (w : Walk) (d : Draft) → Step T s w d w (placed n p st d)
    unfolding placed
    placed_step n p st w d = calm_step T s w d _ refl refl (omega arith)

    pub hidden_step : (n : ℕ) (w : Walk) (d : Draft) → Step T s w d w (hidden n d)
    unfolding hidden
    hidden_step n w d = calm_step T s w d _ refl refl (omega arith)

    placed_parts : (n : ℕ) (p : Pos) (st : KStmt) (c : Draft) → (placed n p st c).parts ≡ more_list c.parts (record { node = n; pos = p; stmt = st })
    unfolding placed
    placed_parts n p st c = refl

    -- what lies in a statement, which names the target and else no slot but those that are shown
    pub record Holding (st : KStmt) (target : Bool → List ℕ) (w : Walk) (d : Draft) (v : Walk) (e : Draft) : Type 0 where
      pub step : Step T s w d v e
      pub count : Fits s v → (n : ℕ) → Outside d.slot e.slot n → Knows T n w d → (own : Bool) → count_of n (stmt_names own T st) ≡ count_of n (target own)
      pub settled : Fits s v → (top : ℕ) → e.slot ≤ top → Clear T s top w d → StmtSettled T st

    pub put_as : (p : Pos) (st : KStmt) (slot : Option ℕ) (target : Bool → List ℕ) (w : Walk) (d c : Draft) (x : Result Walk Broken) → c.parts ≡ d.parts → ((m : ℕ) → slot ≡ Some m → sets m st ≡ true) →
        Always (λ v. Holding st target w (begun d) v c) x → PutsBy w d x (placed d.node p st c) slot target
    put_as p st slot target w d c x same set h v k =
        let m = h v k in
        let first = begun_step w d in
        let last = placed_step d.node p st v c in
        let e = placed d.node p st c in
        let a : d.slot ≤ (begun d).slot = first.slots in
        let b : c.slot ≤ e.slot = last.slots in
        let i : (begun d).slot ≤ c.slot = m.step.slots in
        record {
          step = step_then T s first (step_then T s m.step last);
          one = record { node = d.node; pos = p; stmt = st };
          parts = placed_parts d.node p st c ∙ ap (λ ps. more_list ps (record { node = d.node; pos = p; stmt = st })) same;
          sets_it = set;
          count = λ fits n o k own.
              m.count (last.fits fits) n (out_left (begun d).slot c.slot e.slot n b (out_right d.slot (begun d).slot e.slot n a o)) (first.knows n (out_left d.slot (begun d).slot e.slot n (omega (arith, b, i)) o) k) own;
          settled = λ fits top up clear. m.settled (last.fits fits) top (omega (arith, b, up)) (clear_step T s first top clear);
        }

    -- a statement whose parts have these names
    pub put : (p : Pos) (st : KStmt) (xs : Bool → List ℕ) (S : Type 0) (slot : Option ℕ) (target : Bool → List ℕ) (w : Walk) (d c : Draft) (x : Result Walk Broken) → c.parts ≡ d.parts → ((m : ℕ) → slot ≡ Some m → sets m st ≡ true) →
        ((n : ℕ) (own : Bool) → count_of n (xs own) ≡ 0 → count_of n (stmt_names own T st) ≡ count_of n (target own)) → (S → StmtSettled T st) → Gives T s w (begun d) x c xs S → PutsBy w d x (placed d.node p st c) slot target
    put p st xs S slot target w d c x same set count stands h =
        put_as p st slot target w d c x same set
        (λ v k. let m = h v k in record { step = m.step; count = λ fits n o i own. count n own (m.so fits n o i own); settled = λ fits top up clear. stands (m.whole fits top up clear) })

    -- a step before it that leaves the block
    pub step_puts : {w v u : Walk} {d c e : Draft} (slot : Option ℕ) (target : Bool → List ℕ) → Step T s w d v c → c.parts ≡ d.parts → Puts v c u e slot target → Puts w d u e slot target
    step_puts {d = d} {c = c} {e = e} slot target a same h =
        let x : d.slot ≤ c.slot = a.slots in
        let y : c.slot ≤ e.slot = h.step.slots in
        record {
          step = step_then T s a h.step;
          one = h.one;
          parts = h.parts ∙ ap (λ ps. more_list ps h.one) same;
          sets_it = h.sets_it;
          count = λ fits n o k own. h.count fits n (out_right d.slot c.slot e.slot n x o) (a.knows n (out_left d.slot c.slot e.slot n y o) k) own;
          settled = λ fits top up clear. h.settled fits top up (clear_step T s a top clear);
        }

    -- ---- what a block's part does

    abbrev pub Pending : Walk → Draft → ℕ → Type 0
    Pending w d to = (n : ℕ) → d.parts.slot ≤ n → n < to → Knows T n w d × HoldsIn n d.parts

    pub record Part (w : Walk) (d : Draft) (v : Walk) (e : Draft) : Type 0 where
      pub fits : Fits s v → Fits s w
      pub slots : d.slot ≤ e.slot
      pub owns : d.parts.slot ≤ e.parts.slot
      pub means : (n : ℕ) (k : Known) → Means T n d.numbers k → Means T n e.numbers k
      pub knows : (n : ℕ) → Outside d.slot e.slot n → Outside d.parts.slot e.parts.slot n → Knows T n w d → Knows T n v e
      pub holds : Fits s v → (n : ℕ) → Outside d.slot e.slot n → Outside d.parts.slot e.parts.slot n → Knows T n w d → HoldsIn n d.parts → HoldsIn n e.parts
      pub goes : Fits s v → (top : ℕ) → e.slot ≤ top → e.parts.slot ≤ d.slot → Clear T s top w d → Pending w d e.parts.slot → SettledIn d.parts → SetAll d.parts → SettledIn e.parts × SetAll e.parts

    abbrev pub PartBy : Walk → Draft → Result Walk Broken → Draft → Type 0
    PartBy w d x e = Always (λ v. Part w d v e) x

    pub part_then : {w v u : Walk} {d e c : Draft} → Part w d v e → Part v e u c → Part w d u c
    part_then {d = d} {e = e} {c = c} a b =
        let x : d.slot ≤ e.slot = a.slots in
        let y : e.slot ≤ c.slot = b.slots in
        let p : d.parts.slot ≤ e.parts.slot = a.owns in
        let q : e.parts.slot ≤ c.parts.slot = b.owns in
        record {
          fits = λ h. a.fits (b.fits h);
          slots = omega (arith, x, y);
          owns = omega (arith, p, q);
          means = λ n k m. b.means n k (a.means n k m);
          knows = λ n o i k.
              b.knows n (out_right d.slot e.slot c.slot n x o) (out_right d.parts.slot e.parts.slot c.parts.slot n p i)
              (a.knows n (out_left d.slot e.slot c.slot n y o) (out_left d.parts.slot e.parts.slot c.parts.slot n q i) k);
          holds = λ f n o i k h.
              let o' = out_left d.slot e.slot c.slot n y o in
              let i' = out_left d.parts.slot e.parts.slot c.parts.slot n q i in
              b.holds f n (out_right d.slot e.slot c.slot n x o) (out_right d.parts.slot e.parts.slot c.parts.slot n p i) (a.knows n o' i' k) (a.holds (b.fits f) n o' i' k h);
          goes = λ f top up le clear pending st set.
              let first = a.goes (b.fits f) top (omega (arith, y, up)) (omega (arith, q, le)) clear (λ n lo hi. pending n lo (omega (arith, hi, q))) st set in
              b.goes f top up (omega (arith, le, x))
              (λ n low lt. a.knows n (λ lo hi. omega (arith, low, hi)) (λ lo hi. omega (arith, low, hi, q, le, x)) (clear n (omega (arith, low, x)) lt))
              (λ n lo hi.
              let r = pending n (omega (arith, lo, p)) hi in
              let o : Outside d.slot e.slot n = λ l h. omega (arith, l, hi, le) in
              let i : Outside d.parts.slot e.parts.slot n = λ l h. omega (arith, h, lo) in
              (a.knows n o i r.0, a.holds (b.fits f) n o i r.0 r.1)) first.0 first.1;
        }

    pub parts_then : (w : Walk) (d e c : Draft) (x : Result Walk Broken) (f : Walk → Result Walk Broken) → PartBy w d x e → ((v : Walk) → PartBy v e (f v) c) → PartBy w d (x >>= f) c
    parts_then w d e c x f a b = always_then (λ v. Part w d v e) (λ u. Part w d u c) x f a (λ v k u h. part_then k (b v u h))

    -- a statement that names no slot but those that are shown
    pub puts_part : {w v : Walk} {d e : Draft} (slot : Option ℕ) (target : Bool → List ℕ) → Puts w d v e slot target → (Fits s v → (n : ℕ) → Outside d.slot e.slot n → Knows T n w d → (own : Bool) → count_of n (target own) ≡ 0) → Part w d v e
    puts_part {d = d} {e = e} slot target h absent =
        let own : e.parts.slot ≡ d.parts.slot = ap (λ p. p.slot) h.parts in
        record {
          fits = h.step.fits;
          slots = h.step.slots;
          owns = omega (arith, own);
          means = h.step.means;
          knows = λ n o i k. h.step.knows n o k;
          holds = λ f n o i k held. subst (HoldsIn n) (sym h.parts) (holds_more n d.parts h.one (λ own. h.count f n o k own ∙ absent f n o k own) held);
          goes = λ f top up le clear pending st set. (subst SettledIn (sym h.parts) (settled_more d.parts h.one (h.settled f top up clear) st), subst SetAll (sym h.parts) (set_all_more d.parts h.one set));
        }

    -- one that has no target
    pub plain_part : (w : Walk) (d e : Draft) (x : Result Walk Broken) → PutsBy w d x e None (λ own. []) → PartBy w d x e
    plain_part w d e x h v k = puts_part None (λ own. []) (h v k) (λ f n o i own. refl)

    -- the block stays
    pub same_part : {w v : Walk} {d e : Draft} → e.parts ≡ d.parts → Step T s w d v e → Part w d v e
    same_part {d = d} {e = e} same h =
        let own : e.parts.slot ≡ d.parts.slot = ap (λ p. p.slot) same in
        record {
          fits = h.fits;
          slots = h.slots;
          owns = omega (arith, own);
          means = h.means;
          knows = λ n o i k. h.knows n o k;
          holds = λ f n o i k held. subst (HoldsIn n) (sym same) held;
          goes = λ f top up le clear pending st set. (subst SettledIn (sym same) st, subst SetAll (sym same) set);
        }

    -- ---- a declaration of the block

    abbrev pub own_decl : KKind → Ident → ℕ → KDecl
    own_decl k x m = record { slot = m; kind = k; name = x.name; pos = x.pos }

    pub record Declared (k : KKind) (x : Ident) (d : Draft) : Type 0 where
      pub uses : (draft.declared k x d).uses ≡ d.uses
      pub numbers : (draft.declared k x d).numbers ≡ d.numbers ++ d.parts.slot ∷ []
      pub slot : (draft.declared k x d).slot ≡ d.slot
      pub parts : (draft.declared k x d).parts ≡ record { decls = d.parts.decls ++ own_decl k x d.parts.slot ∷ []; list = d.parts.list; slot = d.parts.slot + 1 }

    pub declared_is : (k : KKind) (x : Ident) (d : Draft) → Declared k x d
    unfolding draft.declared
    declared_is k x d = record { uses = refl; numbers = refl; slot = refl; parts = refl }

    pub fresh_slot : (c : Class) (code : ℕ) (w : Walk) (n : ℕ) (numbers : List ℕ) (m : ℕ) → is_slotted c ≡ true → slice_get numbers (length w.decls) ≡ Some m → m ≢ n → Means T n numbers (fresh c code w)
    unfolding fresh
    fresh_slot c code w n numbers m h is other = slot_means T n numbers (record { number = length w.decls; class = c; code = code; block = block_of w.scopes }) c h (m, is, other)

    pub fresh_other : (c : Class) (code : ℕ) (w : Walk) (n : ℕ) (numbers : List ℕ) → is_slotted c ≡ false → is_code c ≡ false → Means T n numbers (fresh c code w)
    unfolding fresh
    fresh_other c code w n numbers h k = other_means T n numbers (record { number = length w.decls; class = c; code = code; block = block_of w.scopes }) c h k

    -- a name is declared, set, and then shown
    pub decl_part : (c : Class) (code : ℕ) (u : Ty) (r : Option Rule) (k : KKind) (x : Ident) (w : Walk) (d e : Draft) (f : Walk → Result Walk Broken) (target : Bool → List ℕ) → is_slotted c ≡ true →
        ((n : ℕ) (own : Bool) → d.parts.slot ≢ n → count_of n (target own) ≡ 0) → (count_of d.parts.slot (target true) ≡ 1) →
        ((y : Walk) → PutsBy y (draft.declared k x d) (f y) e (Some d.parts.slot) target) → PartBy w d (declared c u r x w >>= f >>= shown x (fresh c code w)) e
    decl_part c code u r k x w d e f target slotted other once h =
        let first = draft.declared k x d in
        let is = declared_is k x d in
        let m = d.parts.slot in
        let Q : Walk → Type 0 = λ v. (y : Walk) × Declares T s m w d y first × Puts y first v e (Some m) target in
        always_then Q (λ z. Part w d z e) (declared c u r x w >>= f) (shown x (fresh c code w))
        (always_then (λ y. Declares T s m w d y first) Q (declared c u r x w) f (declares T s c u r x m w d first is.uses is.numbers is.slot) (λ y dec v i. (y, dec, h y v i)))
        (λ v q z i.
        let dec = q.1 in
        let put = q.2 in
        let sh = shown_shows T s x (fresh c code w) v e z i in
        let all = step_then T s dec.step put.step in
        let parts = put.parts ∙ ap (λ ps. more_list ps put.one) is.parts in
        let slot : first.slot ≡ d.slot = is.slot in
        let own : e.parts.slot ≡ m + 1 = ap (λ p. p.slot) parts in
        let fits_v : Fits s z → Fits s v = (sh 0).fits in
        let from : (n : ℕ) → Outside d.slot e.slot n → Outside first.slot e.slot n = λ n o lo hi. o (omega (arith, slot, lo)) hi in
        let begin : (n : ℕ) → Outside d.slot first.slot n = λ n lo hi. omega (arith, slot, lo, hi) in
        let differs : (n : ℕ) → Outside m e.parts.slot n → m ≢ n = λ n out eq. out (omega (arith, eq)) (omega (arith, eq, own)) in
        record {
          fits = λ g. all.fits (fits_v g);
          slots = all.slots;
          owns = omega (arith, own);
          means = all.means;
          knows = λ n o out kn.
              let means : Means T n e.numbers (fresh c code w) = put.step.means n (fresh c code w) (fresh_slot c code w n first.numbers m slotted (dec.number kn.decls) (differs n out)) in
              (sh n).knows (all.knows n o kn) means;
          holds = λ g n o out kn held.
              subst (HoldsIn n) (sym parts)
              (holds_more n (record { decls = d.parts.decls ++ own_decl k x m ∷ []; list = d.parts.list; slot = m + 1 }) put.one (λ own. put.count (fits_v g) n (from n o) (dec.step.knows n (begin n) kn) own ∙ other n own (differs n out)) held);
          goes = λ g top up le clear pending st set.
              let p = pending m (omega arith) (omega (arith, own)) in
              let low : m < d.slot = omega (arith, own, le) in
              let count = put.count (fits_v g) m (λ lo hi. omega (arith, slot, lo, low)) (dec.step.knows m (begin m) p.0) true ∙ once in
              let list = d.parts.list ++ put.one ∷ [] in (
                subst SettledIn (sym parts) (all_append (NodeSettled T) d.parts.list put.one st (put.settled (fits_v g) top up (clear_step T s dec.step top clear))),
                subst SetAll (sym parts)
                    (all_append (SetIn T list) d.parts.decls (own_decl k x m) (set_more T d.parts.list (put.one ∷ []) d.parts.decls set) (λ is_set. first_here T m d.parts.list put.one (p.1 true) (put.sets_it m refl) count)),
              );
        })

    -- a declaration that isn't set
    pub bare_part : (c : Class) (code : ℕ) (u : Ty) (r : Option Rule) (k : KKind) (x : Ident) (w : Walk) (d : Draft) → is_slotted c ≡ false → is_code c ≡ false → is_set_decl k ≡ false → PartBy w d (declared c u r x w >>= shown x (fresh c code w)) (draft.declared k x d)
    bare_part c code u r k x w d slotted coded unset =
        let e = draft.declared k x d in
        let is = declared_is k x d in
        let m = d.parts.slot in
        always_then (λ y. Declares T s m w d y e) (λ z. Part w d z e) (declared c u r x w) (shown x (fresh c code w)) (declares T s c u r x m w d e is.uses is.numbers is.slot)
        (λ v dec z i.
        let sh = shown_shows T s x (fresh c code w) v e z i in
        let own : e.parts.slot ≡ m + 1 = ap (λ p. p.slot) is.parts in
        record {
          fits = λ g. dec.step.fits ((sh 0).fits g);
          slots = dec.step.slots;
          owns = omega (arith, own);
          means = dec.step.means;
          knows = λ n o out kn. (sh n).knows (dec.step.knows n o kn) (fresh_other c code w n e.numbers slotted coded);
          holds = λ g n o out kn held. subst (HoldsIn n) (sym is.parts) held;
          goes = λ g top up le clear pending st set. (
            subst SettledIn (sym is.parts) st,
            subst SetAll (sym is.parts) (all_append (SetIn T d.parts.list) d.parts.decls (own_decl k x m) set (λ is_set. absurd (cc))),
          );
        })
