-- A plan that has the places of a layout keeps the law.
use Rattle.std.proofs.Common.{◌≡◌, ◌≢◌, refl, sym, ap, subst, ◌∙◌, ℕ, zero, suc, ◌+◌, ◌<◌, ◌≤◌, inl, inr, Bool, ◌&&◌, IsTrue, nat_le, List, [], ◌∷◌, ◌++◌, length, get_or, map, Some, None, Contains, slice_index, arith}
use Rattle.std.specs.List.{list_all}
use Rattle.std.proofs.lemmas.Bool.{eqb-true}
use borrow.Author.Tests.{ltb-true}
use Rattle.ceu_base.specs.declared.kinds.Ty.TheVariants as ty
use Rattle.ceu_tree.specs.declared.kernel.Kernel.{Kernel}
use Rattle.ceu_tree.specs.declared.kernel.KCode.{KCode}
use Rattle.ceu_tree.specs.Needs.{entry, decls_size, block_need, frame_of, frames_from, slots}
use Rattle.ceu_tree.specs.Numbering.{decl_slots, block_slots, codes_slots, counts_from, is_numbered, block_nodes, codes_nodes}
use Rattle.ceu_tree.specs.Proper.{is_above, with_decls, block_ok, codes_ok, body_scope, is_parameter, is_proper, Proper}
use Rattle.ceu_tree.specs.Mentions.{outer_names_from}
use Rattle.ceu_slots.specs.declared.layout.SlotPlace.{SlotPlace}
use Rattle.ceu_slots.specs.Layout.{decl_places, block_places, code_places, codes_places, places, slot_numbers, the_offset, the_size}
use Rattle.ceu_slots.specs.Law.{CodeTogether, BlockTogether, FrameKept, FramesKept, KeepsPlaces}
use Rattle.ceu_slots.proofs.Each.{Each, each_append, each_left, each_right, both_left, both_right}
use Rattle.ceu_slots.proofs.Between.{decls_between, slots_parts}
use Rattle.ceu_slots.proofs.SlotNumbers.{numbers, numbers_append, decl_numbers, block_numbers}
use Rattle.ceu_slots.proofs.Apart.{Agrees, Inside, each_contains, inside, decls_in_turn, beside_apart, block_inside, block_apart}
use Rattle.ceu_slots.proofs.Sized.{block_sized, parameters_sized, parameters_stand}

-- ---- tables

entry_append : (c : ℕ) (xs ys : List ℕ) → c < length xs → entry c (xs ++ ys) ≡ entry c xs
entry_append c [] ys h = absurd (omega arith)
entry_append zero (x ∷ xs) ys h = refl
entry_append (suc c) (x ∷ xs) ys h = entry_append c xs ys (omega arith)

entry_last : (xs : List ℕ) (x : ℕ) → entry (length xs) (xs ++ x ∷ []) ≡ x
entry_last [] x = refl
entry_last (y ∷ xs) x = entry_last xs x

one_more : (xs : List ℕ) (x : ℕ) → length (xs ++ x ∷ []) ≡ suc (length xs)
one_more [] x = refl
one_more (y ∷ xs) x = ap suc (one_more xs x)

-- codes below change no frame above
frames_stay : (plain : Bool) (frames : List ℕ) (cs : List KCode) (c : ℕ) → c < length frames → entry c (frames_from plain frames cs) ≡ entry c frames
frames_stay plain frames [] c h = refl
frames_stay plain frames (k ∷ cs) c h =
    let own = frame_of plain frames k in
    let more = one_more frames own in
    frames_stay plain (frames ++ own ∷ []) cs c (omega (arith, more)) ∙ entry_append c frames (own ∷ []) h

own_frame : (plain : Bool) (frames : List ℕ) (k : KCode) (cs : List KCode) → entry (length frames) (frames_from plain frames (k ∷ cs)) ≡ frame_of plain frames k
own_frame plain frames k cs =
    let own = frame_of plain frames k in
    let more = one_more frames own in
    frames_stay plain (frames ++ own ∷ []) cs (length frames) (omega (arith, more)) ∙ entry_last frames own

module _ (offset size frame : ℕ → ℕ) (plain : Bool) (K : Kernel) (names : List (List ℕ)) where
  code_kept : (k : ℕ) (frames : List ℕ) (c : KCode) (bytes : ℕ) → bytes ≡ frame_of plain frames c → ((u : ℕ) → IsTrue (is_above K u (Some k)) → frame u ≡ entry u frames) →
      IsTrue (list_all (is_parameter K names) c.params) → IsTrue (block_ok K names (with_decls c.params (body_scope K names (Some k) c.body c.result)) c.body) →
      Each (Agrees offset size) (code_places plain frames c) → FrameKept offset size frame c bytes
  code_kept k frames c bytes long known params body agree =
      let next = 8 + decls_size frames c.params in
      let end = next + block_need plain frames c.body in
      let scope = with_decls c.params (body_scope K names (Some k) c.body c.result) in
      let own = each_left (Agrees offset size) (decl_places frames 8 c.params) (block_places plain frames next c.body) agree in
      let inner = each_right (Agrees offset size) (decl_places frames 8 c.params) (block_places plain frames next c.body) agree in
      let first = subst (Each (Inside offset size 8 next)) (decl_numbers frames 8 c.params) (inside offset size 8 next (decl_places frames 8 c.params) own (decls_between frames 8 c.params)) in
      let second = block_inside offset size K names plain frames scope c.body next body inner in
      let all : Each (Inside offset size 8 bytes) (decl_slots c.params ++ block_slots c.body) =
      each_append (Inside offset size 8 bytes) (decl_slots c.params) (block_slots c.body)
      (wide 8 next 8 bytes (omega arith) (omega (arith, long)) (decl_slots c.params) first) (wide next end 8 bytes (omega arith) (omega (arith, long)) (block_slots c.body) second) in
      record {
        has_link = omega (arith, long);
        parameters_sized = parameters_sized offset size frame K names plain frames (Some k) known c.params 8 params own;
        parameters_stand = parameters_stand offset size frame frames c.params 8 own;
        body_sized = block_sized offset size frame K names plain frames (Some k) known scope c.body next refl body inner;
        within = λ (slot : ℕ) (in' : Contains (decl_slots c.params ++ block_slots c.body) slot). each_contains (Inside offset size 8 bytes) (decl_slots c.params ++ block_slots c.body) slot all in';
        apart = λ (a b : ℕ) (ne : a ≢ b) (t : CodeTogether a b c). elim t [
          | inl h ↦ beside_apart offset size (decl_places frames 8 c.params) (decl_slots c.params) (block_slots c.body) 8 next end a b (decls_in_turn frames 8 c.params) own (decls_between frames 8 c.params) second ne (decl_numbers frames 8 c.params) h
          | inr h ↦ block_apart offset size K names plain frames a b ne scope c.body next body inner h
        ];
      }
    where
      wide : (low high low' high' : ℕ) → low' ≤ low → high ≤ high' → (ss : List ℕ) → Each (Inside offset size low high) ss → Each (Inside offset size low' high') ss
      wide low high low' high' h k [] all = tt
      wide low high low' high' h k (s ∷ ss) all = ((omega (arith, all.0.0), omega (arith, all.0.1)), wide low high low' high' h k ss all.1)

  codes_kept : (k : ℕ) (frames : List ℕ) (cs : List KCode) → length frames ≡ k → ((u : ℕ) → frame u ≡ entry u (frames_from plain frames cs)) → IsTrue (codes_ok K names k cs) →
      Each (Agrees offset size) (codes_places plain frames cs) → FramesKept offset size frame k cs
  codes_kept k frames [] long table ok agree = tt
  codes_kept k frames (c ∷ cs) long table ok agree =
      let own = frame_of plain frames c in
      let later = frames ++ own ∷ [] in
      let here = both_left (list_all (is_parameter K names) c.params && nat_le (length c.params) 255 && block_ok K names (with_decls c.params (body_scope K names (Some k) c.body c.result)) c.body) (codes_ok K names (k + 1) cs) ok in
      let rest = both_right (list_all (is_parameter K names) c.params && nat_le (length c.params) 255 && block_ok K names (with_decls c.params (body_scope K names (Some k) c.body c.result)) c.body) (codes_ok K names (k + 1) cs) ok in
      let few = both_left (list_all (is_parameter K names) c.params && nat_le (length c.params) 255) _ here in
      let bytes : frame k ≡ own = table k ∙ ap (λ n. entry n (frames_from plain frames (c ∷ cs))) (sym long) ∙ own_frame plain frames c cs in
      let more = one_more frames own in
      let known : (u : ℕ) → IsTrue (is_above K u (Some k)) → frame u ≡ entry u frames = λ (u : ℕ) (above : IsTrue (is_above K u (Some k))). table u ∙ frames_stay plain frames (c ∷ cs) u (below u above) in (
        code_kept k frames c (frame k) bytes known (both_left (list_all (is_parameter K names) c.params) _ few) (both_right (list_all (is_parameter K names) c.params && nat_le (length c.params) 255) _ here)
            (each_left (Agrees offset size) (code_places plain frames c) (codes_places plain later cs) agree),
        codes_kept (k + 1) later cs (omega (arith, more, long)) table rest (each_right (Agrees offset size) (code_places plain frames c) (codes_places plain later cs) agree),
      )
    where
      below : (u : ℕ) → IsTrue (is_above K u (Some k)) → u < length frames
      below u above = let h : u < k = ltb-true u k above in omega (arith, h, long)

-- ---- the numbers of all slots

codes_numbers : (plain : Bool) (K : Kernel) (names : List (List ℕ)) (k : ℕ) (frames : List ℕ) (cs : List KCode) → IsTrue (codes_ok K names k cs) → numbers (codes_places plain frames cs) ≡ codes_slots cs
codes_numbers plain K names k frames [] ok = refl
codes_numbers plain K names k frames (c ∷ cs) ok =
    let next = 8 + decls_size frames c.params in
    let later = frames ++ frame_of plain frames c ∷ [] in
    let here = both_left (list_all (is_parameter K names) c.params && nat_le (length c.params) 255 && block_ok K names (with_decls c.params (body_scope K names (Some k) c.body c.result)) c.body) (codes_ok K names (k + 1) cs) ok in
    let rest = both_right (list_all (is_parameter K names) c.params && nat_le (length c.params) 255 && block_ok K names (with_decls c.params (body_scope K names (Some k) c.body c.result)) c.body) (codes_ok K names (k + 1) cs) ok in
    let body = both_right (list_all (is_parameter K names) c.params && nat_le (length c.params) 255) _ here in
    numbers_append (code_places plain frames c) (codes_places plain later cs) (decl_slots c.params ++ block_slots c.body) (codes_slots cs)
    (numbers_append (decl_places frames 8 c.params) (block_places plain frames next c.body) (decl_slots c.params) (block_slots c.body) (decl_numbers frames 8 c.params)
    (block_numbers K names plain frames (with_decls c.params (body_scope K names (Some k) c.body c.result)) c.body next body))
    (codes_numbers plain K names (k + 1) later cs rest)

-- ---- what a proper kernel has

pub record Parts (K : Kernel) : Type 0 where
  pub body : IsTrue (block_ok K (outer_names_from [] K.codes) (body_scope K (outer_names_from [] K.codes) None K.body ty.S32) K.body)
  pub codes : IsTrue (codes_ok K (outer_names_from [] K.codes) 0 K.codes)
  pub numbered : IsTrue (counts_from 0 (slot_numbers K))

pub parts_of : (K : Kernel) → Proper K → Parts K
unfolding is_proper is_numbered
parts_of K ok =
    let names = outer_names_from [] K.codes in
    let first = both_left _ (codes_ok K names 0 K.codes) ok in
    record {
      body = both_right _ (block_ok K names (body_scope K names None K.body ty.S32) K.body) first;
      codes = both_right _ (codes_ok K names 0 K.codes) ok;
      numbered = both_right (counts_from 0 (block_nodes K.body ++ codes_nodes K.codes)) _ (both_left _ _ (both_left _ _ (both_left _ _ first)));
    }

pub all_numbers : (plain : Bool) (K : Kernel) → Proper K → numbers (places plain K) ≡ slot_numbers K
unfolding places
all_numbers plain K ok =
    let names = outer_names_from [] K.codes in
    let frames = frames_from plain [] K.codes in
    let parts = parts_of K ok in
    numbers_append (block_places plain frames 0 K.body) (codes_places plain [] K.codes) (block_slots K.body) (codes_slots K.codes)
    (block_numbers K names plain frames (body_scope K names None K.body ty.S32) K.body 0 parts.body) (codes_numbers plain K names 0 [] K.codes parts.codes)

-- a table of the places, by slot number, agrees with each of them
agrees_from : (offset size : ℕ → ℕ) (k : ℕ) (rs : List SlotPlace) → IsTrue (counts_from k (numbers rs)) →
    ((i : ℕ) → i < length rs → offset (k + i) ≡ get_or (map the_offset rs) i 0) → ((i : ℕ) → i < length rs → size (k + i) ≡ get_or (map the_size rs) i 0) → Each (Agrees offset size) rs
agrees_from offset size k [] ok o s = tt
agrees_from offset size k (r ∷ rs) ok o s =
    let same : r.slot ≡ k = eqb-true r.slot k (both_left _ (counts_from (k + 1) (numbers rs)) ok) in
    let here : r.slot ≡ k + 0 = omega (arith, same) in (
      (ap offset here ∙ o 0 (omega arith), ap size here ∙ s 0 (omega arith)),
      agrees_from offset size (k + 1) rs (both_right _ (counts_from (k + 1) (numbers rs)) ok)
          (λ (i : ℕ) (h : i < length rs). let next : k + 1 + i ≡ k + suc i = omega arith in ap offset next ∙ o (suc i) (omega arith))
          (λ (i : ℕ) (h : i < length rs). let next : k + 1 + i ≡ k + suc i = omega arith in ap size next ∙ s (suc i) (omega arith)),
    )

pub table_agrees : (plain : Bool) (K : Kernel) → Proper K → (offsets sizes : List ℕ) → offsets ≡ map the_offset (places plain K) → sizes ≡ map the_size (places plain K) →
    Each (Agrees (slice_index offsets) (slice_index sizes)) (places plain K)
table_agrees plain K ok offsets sizes o s =
    let parts = parts_of K ok in
    agrees_from (slice_index offsets) (slice_index sizes) 0 (places plain K) (ap (counts_from 0) (all_numbers plain K ok) ∙ parts.numbered)
    (λ (i : ℕ) (h : i < length (places plain K)). let e : 0 + i ≡ i = omega arith in ap (λ n. get_or offsets n 0) e ∙ ap (λ l. get_or l i 0) o)
    (λ (i : ℕ) (h : i < length (places plain K)). let e : 0 + i ≡ i = omega arith in ap (λ n. get_or sizes n 0) e ∙ ap (λ l. get_or l i 0) s)

pub kept : (plain : Bool) (K : Kernel) → Proper K → (offset size frame : ℕ → ℕ) (total : ℕ) → Each (Agrees offset size) (places plain K) → ((c : ℕ) → frame c ≡ entry c (frames_from plain [] K.codes)) → total ≡ slots plain K →
    KeepsPlaces offset size frame K total
unfolding places
kept plain K ok offset size frame total agree table whole =
    let names = outer_names_from [] K.codes in
    let frames = frames_from plain [] K.codes in
    let parts = parts_of K ok in
    let scope = body_scope K names None K.body ty.S32 in
    let own = each_left (Agrees offset size) (block_places plain frames 0 K.body) (codes_places plain [] K.codes) agree in
    let inner = each_right (Agrees offset size) (block_places plain frames 0 K.body) (codes_places plain [] K.codes) agree in
    let lies = block_inside offset size K names plain frames scope K.body 0 parts.body own in
    let fits = slots_parts plain K in
    record {
      body_sized = block_sized offset size frame K names plain frames None (λ (c : ℕ) (above : IsTrue (is_above K c None)). table c) scope K.body 0 refl parts.body own;
      within = λ (slot : ℕ) (in' : Contains (block_slots K.body) slot). omega (arith, (each_contains (Inside offset size 0 (0 + block_need plain frames K.body)) (block_slots K.body) slot lies in').1, fits.0, whole);
      apart = λ (a b : ℕ) (ne : a ≢ b) (t : BlockTogether a b K.body). block_apart offset size K names plain frames a b ne scope K.body 0 parts.body own t;
      frames = codes_kept offset size frame plain K names 0 [] K.codes refl table parts.codes inner;
    }
