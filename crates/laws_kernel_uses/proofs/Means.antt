-- What a name that is shown stands for in the kernel: its number, and what is found there.
use Rattle.std.proofs.Common.{◌≡◌, refl, sym, ap, ◌∙◌, ℕ, ◌≤◌, ◌<◌, arith, List, [], ◌∷◌, ◌++◌, Option, Some, None, Bool, true, false}
use Rattle.std.specs.Prelude.{⊤, is_some, IsTrue, slice_get, ◌==◌, ◌||◌, if◌then◌else◌}
use Rattle.std.proofs.lemmas.Bool.Decides.{Decides-eqb}
use Rattle.ceu_base.specs.declared.kinds.Ty.{Ty}
use Rattle.ceu_tree.specs.declared.source.Class.{Class}
use Rattle.ceu_tree.specs.declared.source.Class.TheVariants as class
use Rattle.ceu_tree.specs.declared.source.Decl.{Decl}
use Rattle.ceu_tree.specs.declared.kernel.Kernel.{Kernel}
use Rattle.ceu_tree.specs.declared.kernel.KBlock.{out-KBlock}
use Rattle.ceu_tree.specs.declared.kernel.KEvent.{KEvent}
use Rattle.ceu_tree.specs.declared.kernel.KDecl.{KDecl}
use Rattle.ceu_tree.specs.declared.kernel.KKind.{KKind}
use Rattle.ceu_tree.specs.declared.kernel.KKind.TheVariants as kind
use Rattle.ceu_tree.specs.Proper.{SlotKind, IsVariable, IsLoopVariable, IsPool, IsAlias, Seen, find, pools_seen, pool_slots, slot_kind, declared_seen, is_member, port_ty, event_at}
use Rattle.ceu_scopes.specs.declared.known.Known.{Known}
use Rattle.ceu_scopes.specs.declared.known.Scopes.{Scopes}
use Rattle.laws_kernel_names.proofs.Stepping.{get_more}
use Rattle.laws_kernel_names.proofs.Views.{Slot, decl_ty}
use Rattle.laws_kernel_uses.proofs.Sites.{Site}

abbrev pub class_of : Option Decl → Option Class
class_of None = None
class_of (Some d) = Some d.class

abbrev pub class_at : Scopes → ℕ → Option Class
class_at s n = class_of (slice_get s.decls n)

-- what the outermost block declares
abbrev pub shared : Kernel → List Seen
shared K = declared_seen [] (out-KBlock K.body).decls []

-- ---- what a name stands for, by its class

module _ (K : Kernel) where
  pub record EventAt (numbers : List ℕ) (code : Option ℕ) (k : Known) : Type 0 where
    pub number : ℕ
    pub is : slice_get numbers k.number ≡ Some number
    pub event : KEvent
    pub there : event_at K number K.events ≡ Some event
    pub code_is : event.code ≡ code

pub record AliasAt (view : List Seen) (limit base : ℕ) (numbers : List ℕ) (k : Known) : Type 0 where
  pub code : ℕ
  pub pools : List ℕ
  pub slot : Slot view base numbers k (IsAlias code pools)
  pub code_is : slice_get numbers k.code ≡ Some code
  pub covers : (q c : ℕ) → q < limit → find q view ≡ Some (IsPool c) → is_member q pools ≡ true

pub record PoolAt (view : List Seen) (limit : ℕ) (numbers : List ℕ) (k : Known) : Type 0 where
  pub code : ℕ
  pub slot : Slot view limit numbers k (IsPool code)
  pub code_is : slice_get numbers k.code ≡ Some code

module _ (s : Scopes) (K : Kernel) where
  -- ---- names of any block

  abbrev pub PortsOf : Class → ℕ → Type 0
  PortsOf class.Input n = IsTrue (is_some (port_ty K n K.inputs))
  PortsOf class.Output n = IsTrue (is_some (port_ty K n K.outputs))
  PortsOf _ n = ⊤

  pub record Stands (numbers : List ℕ) (k : Known) : Type 0 where
    pub number : ℕ
    pub is : slice_get numbers k.number ≡ Some number
    pub class_is : class_at s k.number ≡ Some k.class
    pub port : PortsOf k.class number

  pub stands_more : (numbers more : List ℕ) (k : Known) → Stands numbers k → Stands (numbers ++ more) k
  stands_more numbers more k h = record { number = h.number; is = get_more numbers more k.number h.number h.is; class_is = h.class_is; port = h.port }

  -- ---- names of the own body

  -- the slots of the name's block end at the limit, those of the innermost block at the base
  abbrev pub MeansOf : Site → (limit base : ℕ) → List ℕ → Known → Class → Type 0
  MeansOf site limit base numbers k class.Var = Slot site.seen base numbers k (IsVariable (decl_ty s k.number))
  MeansOf site limit base numbers k class.Event = EventAt K numbers site.code k
  MeansOf site limit base numbers k class.Alias = AliasAt site.seen limit base numbers k
  MeansOf site limit base numbers k class.Pool = PoolAt site.seen limit numbers k
  MeansOf site limit base numbers k _ = ⊤

  pub record Means (site : Site) (limits : ℕ → ℕ) (base top : ℕ) (numbers : List ℕ) (k : Known) : Type 0 where
    pub below : k.block < top
    pub of : MeansOf site (limits k.block) base numbers k k.class

  -- in a view that finds the same of the older slots, with more slots and more numbers
  module _ (site other : Site) (base base' : ℕ) (numbers more : List ℕ) (k : Known) (same : (n : ℕ) → n < base → find n other.seen ≡ find n site.seen) (code : other.code ≡ site.code) (le : base ≤ base') where
    slot_more : (x : SlotKind) → Slot site.seen base numbers k x → Slot other.seen base' (numbers ++ more) k x
    slot_more x h = let b = h.below in record { number = h.number; is = get_more numbers more k.number h.number h.is; below = omega (arith, le, b); there = same h.number h.below ∙ h.there }

    limit_more : (limit limit' : ℕ) (x : SlotKind) → limit ≤ base → limit' ≡ limit → Slot site.seen limit numbers k x → Slot other.seen limit' (numbers ++ more) k x
    limit_more limit limit' x in_base up h =
        let b = h.below in
        record { number = h.number; is = get_more numbers more k.number h.number h.is; below = omega (arith, b, up); there = same h.number (omega (arith, b, in_base)) ∙ h.there }

    event_more : EventAt K numbers site.code k → EventAt K (numbers ++ more) other.code k
    event_more h = record { number = h.number; is = get_more numbers more k.number h.number h.is; event = h.event; there = h.there; code_is = h.code_is ∙ sym code }

    means_of : (c : Class) (limit limit' : ℕ) → limit ≤ base → limit' ≡ limit → MeansOf site limit base numbers k c → MeansOf other limit' base' (numbers ++ more) k c
    means_of class.Var limit limit' in_base up h = slot_more (IsVariable (decl_ty s k.number)) h
    means_of class.Param limit limit' in_base up h = tt
    means_of class.LoopVar limit limit' in_base up h = tt
    means_of class.Event limit limit' in_base up h = event_more h
    means_of class.Input limit limit' in_base up h = tt
    means_of class.Output limit limit' in_base up h = tt
    means_of class.Code limit limit' in_base up h = tt
    means_of class.Alias limit limit' in_base up h =
        record {
          code = h.code;
          pools = h.pools;
          slot = slot_more (IsAlias h.code h.pools) h.slot;
          code_is = get_more numbers more k.code h.code h.code_is;
          covers = λ q c lt there. h.covers q c (omega (arith, lt, up)) (sym (same q (omega (arith, lt, up, in_base))) ∙ there);
        }
    means_of class.Pool limit limit' in_base up h =
        record { code = h.code; slot = limit_more limit limit' (IsPool h.code) in_base up h.slot; code_is = get_more numbers more k.code h.code h.code_is }

    pub means_more : (limits limits' : ℕ → ℕ) (top top' : ℕ) → top ≤ top' → ((b : ℕ) → limits b ≤ base) → ((b : ℕ) → b < top → limits' b ≡ limits b) → Means site limits base top numbers k → Means other limits' base' top' (numbers ++ more) k
    means_more limits limits' top top' up within equal h =
        let b = h.below in
        record { below = omega (arith, b, up); of = means_of k.class (limits k.block) (limits' k.block) (within k.block) (equal k.block h.below) h.of }

  -- ---- names of the outermost block, seen from code

  pub record SharedVar (numbers : List ℕ) (k : Known) : Type 0 where
    pub number : ℕ
    pub is : slice_get numbers k.number ≡ Some number
    pub there : find number (shared K) ≡ Some (IsVariable (decl_ty s k.number))

  abbrev pub SharedOf : List ℕ → Known → Class → Type 0
  SharedOf numbers k class.Var = SharedVar numbers k
  SharedOf numbers k class.Event = EventAt K numbers None k
  SharedOf numbers k _ = ⊤

  abbrev pub Shared : List ℕ → Known → Type 0
  Shared numbers k = SharedOf numbers k k.class

  shared_of : (numbers more : List ℕ) (k : Known) (c : Class) → SharedOf numbers k c → SharedOf (numbers ++ more) k c
  shared_of numbers more k class.Var h = record { number = h.number; is = get_more numbers more k.number h.number h.is; there = h.there }
  shared_of numbers more k class.Event h = record { number = h.number; is = get_more numbers more k.number h.number h.is; event = h.event; there = h.there; code_is = h.code_is }
  shared_of numbers more k class.Param h = tt
  shared_of numbers more k class.LoopVar h = tt
  shared_of numbers more k class.Input h = tt
  shared_of numbers more k class.Output h = tt
  shared_of numbers more k class.Code h = tt
  shared_of numbers more k class.Alias h = tt
  shared_of numbers more k class.Pool h = tt

  pub shared_more : (numbers more : List ℕ) (k : Known) → Shared numbers k → Shared (numbers ++ more) k
  shared_more numbers more k h = shared_of numbers more k k.class h

-- ---- what is found in a block, whatever pools its aliases may take

by_first : (b : Bool) (x y : SlotKind) (rest rest' : Option SlotKind) (t : Ty) → (x ≡ IsVariable t → y ≡ IsVariable t) → (rest ≡ Some (IsVariable t) → rest' ≡ Some (IsVariable t)) →
    (if b then Some x else rest) ≡ Some (IsVariable t) → (if b then Some y else rest') ≡ Some (IsVariable t)
by_first true x y rest rest' t first further h = let e : x ≡ IsVariable t = cc in ap Some (first e)
by_first false x y rest rest' t first further h = further h

kind_variable : (pools pools' : List ℕ) (k : KKind) (t : Ty) → slot_kind pools k ≡ IsVariable t → slot_kind pools' k ≡ IsVariable t
kind_variable pools pools' (kind.Var u) t h = h
kind_variable pools pools' (kind.Alias c) t h = absurd (cc)
kind_variable pools pools' (kind.Pool n c) t h = absurd (cc)

pub find_variable : (pools pools' : List ℕ) (ds : List KDecl) (view : List Seen) (n : ℕ) (t : Ty) → find n (declared_seen pools ds view) ≡ Some (IsVariable t) → find n (declared_seen pools' ds view) ≡ Some (IsVariable t)
find_variable pools pools' [] view n t h = h
find_variable pools pools' (d ∷ ds) view n t h =
    by_first (d.slot == n) (slot_kind pools d.kind) (slot_kind pools' d.kind) (find n (declared_seen pools ds view)) (find n (declared_seen pools' ds view)) t (kind_variable pools pools' d.kind t) (find_variable pools pools' ds view n t) h

-- ---- each pool that is visible is among the pools

or_right : (a b : Bool) → b ≡ true → (a || b) ≡ true
or_right true b h = refl
or_right false b h = h

or_left : (a b : Bool) → a ≡ true → (a || b) ≡ true
or_left true b h = refl
or_left false b h = absurd (cc)

equal : (m n : ℕ) (b : Bool) → (b ≡ true → m ≡ n) → b ≡ true → (n == m) ≡ true
equal m n b same h = (Decides-eqb n m).1 (sym (same h))

member_more : (n : ℕ) (xs ys : List ℕ) → is_member n ys ≡ true → is_member n (xs ++ ys) ≡ true
member_more n [] ys h = h
member_more n (x ∷ xs) ys h = or_right (n == x) (is_member n (xs ++ ys)) (member_more n xs ys h)

pub pools_found : (view : List Seen) (n c : ℕ) → find n view ≡ Some (IsPool c) → is_member n (pools_seen view) ≡ true
pools_found [] n c h = absurd (cc)
pools_found (x ∷ xs) n c h = by_kind x.kind (x.slot == n) (Decides-eqb x.slot n).0 (pools_found xs n c) h
  where
    by_kind : (k : SlotKind) (b : Bool) → (b ≡ true → x.slot ≡ n) → (find n xs ≡ Some (IsPool c) → is_member n (pools_seen xs) ≡ true) → (if b then Some k else find n xs) ≡ Some (IsPool c) →
        is_member n (elim k [ IsPool c ↦ x.slot ∷ pools_seen xs | _ ↦ pools_seen xs ]) ≡ true
    by_kind (IsPool j) true same further e = or_left (n == x.slot) (is_member n (pools_seen xs)) (equal x.slot n true same refl)
    by_kind (IsPool j) false same further e = or_right (n == x.slot) (is_member n (pools_seen xs)) (further e)
    by_kind (IsVariable t) true same further e = absurd (cc)
    by_kind (IsVariable t) false same further e = further e
    by_kind IsLoopVariable true same further e = absurd (cc)
    by_kind IsLoopVariable false same further e = further e
    by_kind (IsAlias j ps) true same further e = absurd (cc)
    by_kind (IsAlias j ps) false same further e = further e

own_pools : (pools : List ℕ) (ds : List KDecl) (view : List Seen) (n c : ℕ) → find n (declared_seen pools ds view) ≡ Some (IsPool c) → is_member n (pool_slots ds ++ pools_seen view) ≡ true
own_pools pools [] view n c h = pools_found view n c h
own_pools pools (d ∷ ds) view n c h = by_kind d.kind (d.slot == n) (Decides-eqb d.slot n).0 (own_pools pools ds view n c) h
  where
    by_kind : (k : KKind) (b : Bool) → (b ≡ true → d.slot ≡ n) → (find n (declared_seen pools ds view) ≡ Some (IsPool c) → is_member n (pool_slots ds ++ pools_seen view) ≡ true) →
        (if b then Some (slot_kind pools k) else find n (declared_seen pools ds view)) ≡ Some (IsPool c) → is_member n ((elim k [ kind.Pool n c ↦ d.slot ∷ pool_slots ds | _ ↦ pool_slots ds ]) ++ pools_seen view) ≡ true
    by_kind (kind.Pool p j) true same further e = or_left (n == d.slot) (is_member n (pool_slots ds ++ pools_seen view)) (equal d.slot n true same refl)
    by_kind (kind.Pool p j) false same further e = or_right (n == d.slot) (is_member n (pool_slots ds ++ pools_seen view)) (further e)
    by_kind (kind.Var t) true same further e = absurd (cc)
    by_kind (kind.Var t) false same further e = further e
    by_kind (kind.Alias j) true same further e = absurd (cc)
    by_kind (kind.Alias j) false same further e = further e

-- an alias of a block takes each pool that is visible there
pub covers_all : (ds : List KDecl) (view : List Seen) (n c : ℕ) → find n (declared_seen (pool_slots ds ++ pools_seen view) ds view) ≡ Some (IsPool c) → is_member n (pool_slots ds ++ pools_seen view) ≡ true
covers_all ds view n c h = own_pools (pool_slots ds ++ pools_seen view) ds view n c h
