-- The names of ports, and ports.
use Rattle.std.proofs.Common.{◌≡◌, ℕ, zero, suc, ◌+◌, ◌-◌, ◌≤◌, ◌<◌, Bool, true, false, List, [], ◌∷◌, ◌++◌, length, take, drop, get_or, refl, sym, ap, ◌∙◌, subst, arith}
use Rattle.std.specs.Prelude.{IsTrue, slice_range}
use Rattle.std.specs.List.{AllByRecursion}
use Rattle.std.proofs.Math.Seq.{take-append_seam, drop-length}
use Rattle.ceu_base.specs.declared.kinds.Port.{Port}
use Rattle.ceu_base.specs.declared.kinds.Ty.{Ty}
use Rattle.ceu_code.specs.Table.{low_first, type_byte, type_at}
use Rattle.ceu_code.specs.Spelling.{is_capital, is_name_byte, IsExternalName, IsPort, port}
use Rattle.ceu_code.specs.declared.decoding.DecodeError.{DecodeError}
use Rattle.ceu_code.specs.Reading.{Reads, Words, Stops, Unique, Refused, Spelled, IsBetween, IsNameRest, IsNameOf}
use Rattle.ceu_code.proofs.Reading.{same_head, same_tail, stop_here, stop_byte, refused_more, Pair, pair_first, pair_second, read_pair, some_pair, unique_pair, refused_as, reads_as, unique_as}
use Rattle.ceu_code.proofs.Numbers.{unique_between}
use Rattle.ceu_code.proofs.Parsed.{byte_word, type_byte-at, type_at-byte}

-- ---- the bytes between two places

pub slice_word : {V : Type 0} (F : V → List ℕ → Type 0) (bytes : List ℕ) (at next : ℕ) (v : V) → (r : Reads F bytes at v next) → slice_range bytes at next ≡ r.word
slice_word F bytes at next v r =
    let long : next - at ≡ length r.word = let e = r.ahead in omega arith in
    ap (λ (n : ℕ). take n (drop at bytes)) long ∙ ap (take (length r.word)) r.split ∙ take-append_seam r.word (drop next bytes)

pub read_slice : (F : List ℕ → List ℕ → Type 0) (bytes : List ℕ) (at next : ℕ) (v : List ℕ) → ((w : List ℕ) → F v w → w ≡ v) → Reads F bytes at v next → Reads F bytes at (slice_range bytes at next) next
read_slice F bytes at next v same r = subst (λ (u : List ℕ). Reads F bytes at u next) (sym (slice_word F bytes at next v r ∙ same r.word r.form)) r

-- a byte and what is behind it
pub read_cons : (F G : List ℕ → List ℕ → Type 0) (bytes : List ℕ) (at next b : ℕ) (v : List ℕ) → drop at bytes ≡ b ∷ drop (at + 1) bytes → ((w : List ℕ) → G v w → F (b ∷ v) (b ∷ w)) → Reads G bytes (at + 1) v next → Reads F bytes at (b ∷ v) next
read_cons F G bytes at next b v cut to r = record { word = b ∷ r.word; form = to r.word r.form; split = cut ∙ ap (λ (w : List ℕ). b ∷ w) r.split; ahead = let e = r.ahead in omega arith; within = r.within }

-- ---- capitals, digits and underscores

apart : false ≡ true → ⊥
apart e = cc

not_both : (b : Bool) → b ≡ false → IsTrue b → ⊥
not_both b e t = apart (sym e ∙ t)

some_rest : (k : ℕ) → (w : List ℕ) × Words (IsNameRest k) w
some_rest zero = ([], ([], (refl, tt, refl)))
some_rest (suc k) = let w = some_rest k in (65 ∷ w.0, (65 ∷ w.1.0, (ap suc w.1.1.0, (refl, w.1.1.1), ap (λ (l : List ℕ). 65 ∷ l) w.1.1.2)))

rest_to : (k b : ℕ) → IsTrue (is_name_byte b) → (w : List ℕ) → Words (IsNameRest k) w → Words (IsNameRest (suc k)) (b ∷ w)
rest_to k b t w (v, (l, p, e)) = (b ∷ v, (ap suc l, (t, p), ap (λ (u : List ℕ). b ∷ u) e))

rest_from : (k b : ℕ) (w : List ℕ) → Words (IsNameRest (suc k)) (b ∷ w) → Words (IsNameRest k) w
rest_from k b w ([], (l, p, e)) = absurd (omega arith)
rest_from k b w (c ∷ v, (l, p, e)) = (v, (let n : suc (length v) ≡ suc k = l in omega arith, p.1, same_tail b c w v e))

rest_head : (k b : ℕ) (w : List ℕ) → Words (IsNameRest (suc k)) (b ∷ w) → IsTrue (is_name_byte b)
rest_head k b w ([], (l, p, e)) = absurd (omega arith)
rest_head k b w (c ∷ v, (l, p, e)) = subst (λ (n : ℕ). IsTrue (is_name_byte n)) (sym (same_head b c w v e)) p.0

rest_empty : (k : ℕ) → Words (IsNameRest (suc k)) [] → ⊥
rest_empty k (v, (l, p, e)) = let z : 0 ≡ length v = ap length e in absurd (omega arith)

pub nothing_left : (bytes : List ℕ) (at b : ℕ) (rest : List ℕ) → at ≡ length bytes → drop at bytes ≡ b ∷ rest → ⊥
nothing_left bytes at b rest end e = let z : 0 ≡ suc (length rest) = ap length (sym (ap (λ (n : ℕ). drop n bytes) end ∙ drop-length bytes) ∙ e) in absurd (omega arith)

module _ (count k : ℕ) (is : suc k ≡ count) (bytes : List ℕ) (at : ℕ) where
  pub rest_ends : at ≡ length bytes → Stops (Words (IsNameRest count)) bytes at at
  rest_ends end = subst (λ (n : ℕ). Stops (Words (IsNameRest n)) bytes at at) is (stop_here (Words (IsNameRest (suc k))) bytes at (omega arith) (some_rest (suc k)).0 (some_rest (suc k)).1 (rest_empty k) (λ b rest more e l. nothing_left bytes at b rest end e))

  pub rest_refuses : (b : ℕ) → at < length bytes → drop at bytes ≡ b ∷ drop (at + 1) bytes → is_name_byte b ≡ false → Stops (Words (IsNameRest count)) bytes at at
  rest_refuses b inside cut wrong = subst (λ (n : ℕ). Stops (Words (IsNameRest n)) bytes at at) is (stop_here (Words (IsNameRest (suc k))) bytes at (omega arith) (some_rest (suc k)).0 (some_rest (suc k)).1 (rest_empty k) (λ c rest more e l. not_both (is_name_byte b) wrong (subst (λ (n : ℕ). IsTrue (is_name_byte n)) (same_head c b rest (drop (at + 1) bytes) (sym e ∙ cut)) (rest_head k c more l))))

  pub rest_refused : (b : ℕ) (e : DecodeError) → drop at bytes ≡ b ∷ drop (at + 1) bytes → IsTrue (is_name_byte b) → Refused (Words (IsNameRest k)) bytes (at + 1) e → Refused (Words (IsNameRest count)) bytes at e
  rest_refused b e cut t r = subst (λ (n : ℕ). Refused (Words (IsNameRest n)) bytes at e) is (refused_more (Words (IsNameRest (suc k))) (Words (IsNameRest k)) bytes at (at + 1) e (λ stop s. stop_byte (Words (IsNameRest (suc k))) (Words (IsNameRest k)) bytes at stop b cut (rest_to k b t) (rest_from k b) (rest_empty k) s) r)

  pub rest_read : (b next : ℕ) → drop at bytes ≡ b ∷ drop (at + 1) bytes → IsTrue (is_name_byte b) → Reads (IsNameRest k) bytes (at + 1) (slice_range bytes (at + 1) next) next → Reads (IsNameRest count) bytes at (slice_range bytes at next) next
  rest_read b next cut t r =
      let v = slice_range bytes (at + 1) next in
      subst (λ (n : ℕ). Reads (IsNameRest n) bytes at (slice_range bytes at next) next) is
      (read_slice (IsNameRest (suc k)) bytes at next (b ∷ v) (λ w f. f.2) (read_cons (IsNameRest (suc k)) (IsNameRest k) bytes at next b v cut (λ w f. (ap suc f.0, (t, f.1), ap (λ (u : List ℕ). b ∷ u) f.2)) r))

-- ---- names

name_to : (k b : ℕ) → IsTrue (is_capital b) → (w : List ℕ) → Words (IsNameRest k) w → Words (IsNameOf k) (b ∷ w)
name_to k b t w (v, (l, p, e)) = (b ∷ v, (let n : length v ≡ k = l in omega arith, (t, p), ap (λ (u : List ℕ). b ∷ u) e))

name_from : (k b : ℕ) (w : List ℕ) → Words (IsNameOf k) (b ∷ w) → Words (IsNameRest k) w
name_from k b w ([], (l, p, e)) = absurd p
name_from k b w (c ∷ v, (l, p, e)) = (v, (let n : suc (length v) ≡ k + 1 = l in omega arith, p.1, same_tail b c w v e))

name_head : (k b : ℕ) (w : List ℕ) → Words (IsNameOf k) (b ∷ w) → IsTrue (is_capital b)
name_head k b w ([], (l, p, e)) = absurd p
name_head k b w (c ∷ v, (l, p, e)) = subst (λ (n : ℕ). IsTrue (is_capital n)) (sym (same_head b c w v e)) p.0

name_empty : (k : ℕ) → Words (IsNameOf k) [] → ⊥
name_empty k (v, (l, p, e)) = let z : 0 ≡ length v = ap length e in absurd (omega arith)

some_name : (k : ℕ) → (w : List ℕ) × Words (IsNameOf k) w
some_name k = let w = some_rest k in (65 ∷ w.0, name_to k 65 refl w.0 w.1)

module _ (k : ℕ) (bytes : List ℕ) (at : ℕ) where
  pub name_ends : at ≡ length bytes → Stops (Words (IsNameOf k)) bytes at at
  name_ends end = stop_here (Words (IsNameOf k)) bytes at (omega arith) (some_name k).0 (some_name k).1 (name_empty k) (λ b rest more e l. nothing_left bytes at b rest end e)

  pub name_refuses : (b : ℕ) → at < length bytes → drop at bytes ≡ b ∷ drop (at + 1) bytes → is_capital b ≡ false → Stops (Words (IsNameOf k)) bytes at at
  name_refuses b inside cut wrong = stop_here (Words (IsNameOf k)) bytes at (omega arith) (some_name k).0 (some_name k).1 (name_empty k) (λ c rest more e l. not_both (is_capital b) wrong (subst (λ (n : ℕ). IsTrue (is_capital n)) (same_head c b rest (drop (at + 1) bytes) (sym e ∙ cut)) (name_head k c more l)))

  pub name_refused : (b : ℕ) (e : DecodeError) → drop at bytes ≡ b ∷ drop (at + 1) bytes → IsTrue (is_capital b) → Refused (Words (IsNameRest k)) bytes (at + 1) e → Refused (Words (IsNameOf k)) bytes at e
  name_refused b e cut t r = refused_more (Words (IsNameOf k)) (Words (IsNameRest k)) bytes at (at + 1) e (λ stop s. stop_byte (Words (IsNameOf k)) (Words (IsNameRest k)) bytes at stop b cut (name_to k b t) (name_from k b) (name_empty k) s) r

  pub name_read : (b next : ℕ) → drop at bytes ≡ b ∷ drop (at + 1) bytes → IsTrue (is_capital b) → Reads (IsNameRest k) bytes (at + 1) (slice_range bytes (at + 1) next) next → Reads (IsNameOf k) bytes at (slice_range bytes at next) next
  name_read b next cut t r =
      let v = slice_range bytes (at + 1) next in
      read_slice (IsNameOf k) bytes at next (b ∷ v) (λ w f. f.2) (read_cons (IsNameOf k) (IsNameRest k) bytes at next b v cut (λ w f. (let n : length v ≡ k = f.0 in omega arith, (t, f.1), ap (λ (u : List ℕ). b ∷ u) f.2)) r)

same_front : (a b x y : List ℕ) → length a ≡ length b → a ++ x ≡ b ++ y → a ≡ b
same_front a b x y l e = sym (take-append_seam a x) ∙ ap (take (length a)) e ∙ ap (λ (n : ℕ). take n (b ++ y)) l ∙ take-append_seam b y

unique_name : (k : ℕ) → Unique (IsNameOf k)
unique_name k v u a b x y (l, p, c) (m, q, d) e =
    let same = same_front a b x y (ap length c ∙ l ∙ sym m ∙ ap length (sym d)) e in
    (sym c ∙ same ∙ d, same)

-- ---- names are ASCII

name_byte_small : (b : ℕ) → IsTrue (is_name_byte b) → b < 128
name_byte_small b t = grind arith

capital_small : (b : ℕ) → IsTrue (is_capital b) → b < 128
capital_small b t = grind arith

rest_small : (bs : List ℕ) → AllByRecursion (λ b. IsTrue (is_name_byte b)) bs → (i : ℕ) → get_or bs i 0 < 128
rest_small [] p i = omega arith
rest_small (b ∷ bs) p zero = name_byte_small b p.0
rest_small (b ∷ bs) p (suc i) = rest_small bs p.1 i

pub name_ascii : (bs : List ℕ) → IsExternalName bs → (i : ℕ) → get_or bs i 0 < 128
name_ascii [] p i = absurd p
name_ascii (b ∷ bs) p zero = capital_small b p.0
name_ascii (b ∷ bs) p (suc i) = rest_small bs p.1 i

-- ---- ports

abbrev K : ℕ → List ℕ → Type 0
K = IsBetween 1 0 9

abbrev N : ℕ → List ℕ → Type 0
N = IsBetween 1 1 64

abbrev Named : ℕ × List ℕ → List ℕ → Type 0
Named = Pair N (λ n. IsNameOf (n - 1))

abbrev Parts : ℕ × (ℕ × List ℕ) → List ℕ → Type 0
Parts = Pair K (λ _. Named)

abbrev PortForm : Port → List ℕ → Type 0
PortForm = Spelled IsPort port

abbrev port_of : ℕ × (ℕ × List ℕ) → Port
port_of p = record { ty = type_at p.0; name = p.1.1 }

abbrev parts_of : Port → ℕ × (ℕ × List ℕ)
parts_of p = (type_byte p.ty, (length p.name, p.name))

type_small : (t : Ty) → type_byte t ≤ 9
type_small t = grind arith

port_to : (p : ℕ × (ℕ × List ℕ)) (w : List ℕ) → Parts p w → PortForm (port_of p) w
port_to p w t =
    let t1 = t.is_second in
    let low : 1 ≤ p.1.0 = t1.is_first.0.0 in
    let high : p.1.0 ≤ 64 = t1.is_first.0.1 in
    let kind : p.0 ≤ 9 = t.is_first.0.1 in
    let long : length p.1.1 ≡ p.1.0 - 1 + 1 = t1.is_second.0 in
    let first : t.first ≡ type_byte (type_at p.0) ∷ [] = t.is_first.1 ∙ byte_word p.0 (omega arith) ∙ ap (λ (b : ℕ). b ∷ []) (sym (type_byte-at p.0 kind)) in
    let second : t1.first ≡ length p.1.1 ∷ [] = t1.is_first.1 ∙ byte_word p.1.0 (omega arith) ∙ ap (λ (b : ℕ). b ∷ []) (let e : p.1.0 ≡ length p.1.1 = omega arith in e) in (
      record { form = t1.is_second.1; short = omega arith },
      t.joined ∙ ap (λ (a : List ℕ). a ++ t.second) first ∙ ap (λ (a : List ℕ). type_byte (type_at p.0) ∷ a) (t1.joined ∙ ap (λ (a : List ℕ). a ++ t1.second) second ∙ ap (λ (a : List ℕ). length p.1.1 ∷ a) t1.is_second.2),
    )

named_long : (name : List ℕ) → IsExternalName name → 1 ≤ length name
named_long [] p = absurd p
named_long (b ∷ bs) p = omega arith

port_from : (p : Port) (w : List ℕ) → PortForm p w → Parts (parts_of p) w
port_from p w (v, e) =
    let low = named_long p.name v.form in
    let high = v.short in
    let kind = type_small p.ty in
    let named : Named (length p.name, p.name) (length p.name ∷ p.name) = record { first = low_first 1 (length p.name); second = p.name; is_first = ((low, high), refl); is_second = (omega arith, v.form, refl); joined = ap (λ (a : List ℕ). a ++ p.name) (sym (byte_word (length p.name) (omega arith))) } in
    record { first = low_first 1 (type_byte p.ty); second = length p.name ∷ p.name; is_first = ((omega arith, kind), refl); is_second = named; joined = e ∙ ap (λ (a : List ℕ). a ++ (length p.name ∷ p.name)) (sym (byte_word (type_byte p.ty) (omega arith))) }

unique_k : Unique K
unique_k = unique_between 1 0 9 (omega arith)

unique_n : Unique N
unique_n = unique_between 1 1 64 (omega arith)

pub unique_port : Unique PortForm
unique_port = unique_as PortForm Parts parts_of port_of (λ p. ap (λ (t : Ty). record { ty = t; name = p.name }) (type_at-byte p.ty)) port_from (unique_pair K (λ _. Named) unique_k (λ _. unique_pair N (λ n. IsNameOf (n - 1)) unique_n (λ n. unique_name (n - 1))))

some_named : (w : List ℕ) × Words Named w
some_named = some_pair N (λ n. IsNameOf (n - 1)) 1 (low_first 1 1) ((omega arith, omega arith), refl) (some_name 0)

module _ (bytes : List ℕ) (e : DecodeError) (at : ℕ) where
  port_refused : Refused (Words Parts) bytes at e → Refused (Words PortForm) bytes at e
  port_refused r = refused_as Parts PortForm port_of parts_of bytes at e port_to port_from r

  pub refused_kind : Refused (Words K) bytes at e → Refused (Words PortForm) bytes at e
  refused_kind r = port_refused (pair_first K (λ _. Named) bytes at e (λ _. some_named) r)

  pub refused_length : (at1 kind : ℕ) → Reads K bytes at kind at1 → Refused (Words N) bytes at1 e → Refused (Words PortForm) bytes at e
  refused_length at1 kind r1 r = port_refused (pair_second K (λ _. Named) bytes at at1 kind e unique_k r1 (pair_first N (λ n. IsNameOf (n - 1)) bytes at1 e (λ n. some_name (n - 1)) r))

  pub refused_name : (at1 at2 kind n : ℕ) → Reads K bytes at kind at1 → Reads N bytes at1 n at2 → Refused (Words (IsNameOf (n - 1))) bytes at2 e → Refused (Words PortForm) bytes at e
  refused_name at1 at2 kind n r1 r2 r = port_refused (pair_second K (λ _. Named) bytes at at1 kind e unique_k r1 (pair_second N (λ n. IsNameOf (n - 1)) bytes at1 at2 n e unique_n r2 r))

pub port_read : (bytes : List ℕ) (at at1 at2 next kind n : ℕ) (name : List ℕ) → Reads K bytes at kind at1 → Reads N bytes at1 n at2 → Reads (IsNameOf (n - 1)) bytes at2 name next → Reads PortForm bytes at (record { ty = type_at kind; name = name }) next
port_read bytes at at1 at2 next kind n name r1 r2 r3 =
    reads_as Parts PortForm bytes at next (kind, (n, name)) (port_of (kind, (n, name))) (port_to (kind, (n, name))) (read_pair K (λ _. Named) bytes at at1 next kind (n, name) r1 (read_pair N (λ m. IsNameOf (m - 1)) bytes at1 at2 next n name r2 r3))
