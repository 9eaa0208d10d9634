-- Plans of a layout: they have its places, and keep the law.
use Rattle.std.proofs.Common.{◌≡◌, refl, sym, ap, ◌∙◌, ℕ, zero, suc, ◌+◌, ◌^◌, ◌<◌, Bool, true, false, IsTrue, ◌==◌, if◌then◌else◌, List, [], ◌∷◌, ◌++◌, length, get_or, slice_index, map, arith}
use Rattle.std.proofs.lemmas.List.{length-map, length-append}
use Rattle.std.proofs.lemmas.Bool.{eq-eqb, eqb-true, ne_eqb}
use Rattle.ceu_tree.specs.declared.kernel.Kernel.{Kernel}
use Rattle.ceu_tree.specs.declared.kernel.KCode.{KCode}
use Rattle.ceu_tree.specs.Needs.{entry, frame_of, frames_from, slots}
use Rattle.ceu_tree.specs.Numbering.{counts_from}
use Rattle.ceu_tree.specs.Proper.{Proper}
use Rattle.ceu_slots.specs.declared.layout.SlotPlace.{SlotPlace}
use Rattle.ceu_slots.specs.declared.plans.Layout.{Layout}
use Rattle.ceu_slots.specs.Layout.{places, the_offset, the_size, slot_numbers, number_of, offset_of, size_of}
use Rattle.ceu_slots.specs.Plans.{Lawful, HasPlaces, planned_of}
use Rattle.ceu_slots.proofs.Each.{both_left, both_right}
use Rattle.ceu_slots.proofs.SlotNumbers.{numbers}
use Rattle.ceu_slots.proofs.Kept.{kept, table_agrees, all_numbers, parts_of}

-- what `layout_of` makes
pub record IsLayoutOf (plain : Bool) (l : Layout) (K : Kernel) : Type 0 where
  pub proper : Proper K
  pub offset : l.offset.items ≡ map the_offset (places plain K)
  pub size : l.size.items ≡ map the_size (places plain K)
  pub frame : l.frame.items ≡ frames_from plain [] K.codes
  pub total : l.total ≡ slots plain K

entry_is : (c : ℕ) (xs : List ℕ) → slice_index xs c ≡ entry c xs
entry_is c [] = refl
entry_is zero (x ∷ xs) = refl
entry_is (suc c) (x ∷ xs) = entry_is c xs

frames_count : (plain : Bool) (frames : List ℕ) (cs : List KCode) → length (frames_from plain frames cs) ≡ length frames + length cs
frames_count plain frames [] = omega arith
frames_count plain frames (c ∷ cs) =
    let own = frame_of plain frames c in
    let more : length (frames ++ own ∷ []) ≡ length frames + 1 = length-append frames (own ∷ []) in
    frames_count plain (frames ++ own ∷ []) cs ∙ (omega (arith, more))

pub slots_counted : (plain : Bool) (l : Layout) (K : Kernel) → IsLayoutOf plain l K → length l.offset.items ≡ length (slot_numbers K)
slots_counted plain l K f =
    ap length f.offset ∙ length-map (places plain K) the_offset ∙ sym (length-map (places plain K) (λ (r : SlotPlace). r.slot)) ∙ ap length (all_numbers plain K f.proper)

pub sizes_counted : (plain : Bool) (l : Layout) (K : Kernel) → IsLayoutOf plain l K → length l.size.items ≡ length l.offset.items
sizes_counted plain l K f = ap length f.size ∙ length-map (places plain K) the_size ∙ sym (ap length f.offset ∙ length-map (places plain K) the_offset)

pub codes_counted : (plain : Bool) (l : Layout) (K : Kernel) → IsLayoutOf plain l K → length l.frame.items ≡ length K.codes
codes_counted plain l K f = let n = frames_count plain [] K.codes in ap length f.frame ∙ (omega (arith, n))

chosen : {X : Type 0} (t : Bool) (a b : X) → t ≡ true → (if t then a else b) ≡ a
chosen true a b e = refl
chosen false a b e = cc

other : {X : Type 0} (t : Bool) (a b : X) → t ≡ false → (if t then a else b) ≡ b
other true a b e = cc
other false a b e = refl

number_at : (f : SlotPlace → ℕ) (k : ℕ) (rs : List SlotPlace) (i : ℕ) → IsTrue (counts_from k (numbers rs)) → i < length rs → get_or (map f rs) i 0 ≡ number_of f (k + i) rs
number_at f k [] i ok h = absurd (omega arith)
number_at f k (r ∷ rs) zero ok h =
    let same : r.slot ≡ k = eqb-true r.slot k (both_left (r.slot == k) _ ok) in
    sym (chosen (r.slot == (k + 0)) (f r) (number_of f (k + 0) rs) (eq-eqb r.slot (k + 0) (omega (arith, same))))
number_at f k (r ∷ rs) (suc i) ok h =
    let same : r.slot ≡ k = eqb-true r.slot k (both_left (r.slot == k) _ ok) in
    let next : k + 1 + i ≡ k + suc i = omega arith in
    number_at f (k + 1) rs i (both_right (r.slot == k) _ ok) (omega arith) ∙ ap (λ n. number_of f n rs) next ∙
    sym (other (r.slot == (k + suc i)) (f r) (number_of f (k + suc i) rs) (ne_eqb r.slot (k + suc i) (λ q. omega (arith, same, q))))

listed : (plain : Bool) (K : Kernel) → Proper K → (f : SlotPlace → ℕ) (xs : List ℕ) → xs ≡ map f (places plain K) → (slot : ℕ) → slot < length (slot_numbers K) → slice_index xs slot ≡ number_of f slot (places plain K)
listed plain K ok f xs e slot below =
    let count : length (places plain K) ≡ length (slot_numbers K) = sym (length-map (places plain K) (λ (r : SlotPlace). r.slot)) ∙ ap length (all_numbers plain K ok) in
    let inOrder : IsTrue (counts_from 0 (numbers (places plain K))) = ap (counts_from 0) (all_numbers plain K ok) ∙ (parts_of K ok).numbered in
    let none : 0 + slot ≡ slot = omega arith in
    ap (λ l. get_or l slot 0) e ∙ number_at f 0 (places plain K) slot inOrder (omega (arith, count, below)) ∙ ap (λ n. number_of f n (places plain K)) none

pub has_places : (plain : Bool) (l : Layout) (K : Kernel) → IsLayoutOf plain l K → HasPlaces plain K (planned_of l)
unfolding offset_of size_of
has_places plain l K f = record {
  offsets = λ (slot : ℕ) (below : slot < length (slot_numbers K)). listed plain K f.proper the_offset l.offset.items f.offset slot below;
  sizes = λ (slot : ℕ) (below : slot < length (slot_numbers K)). listed plain K f.proper the_size l.size.items f.size slot below;
  frames = λ (code : ℕ). entry_is code l.frame.items ∙ ap (entry code) f.frame;
  whole = f.total;
}

pub lawful : (plain : Bool) (l : Layout) (K : Kernel) → length l.offset.items < 2 ^ 32 → length l.frame.items < 2 ^ 32 → IsLayoutOf plain l K → Lawful (planned_of l) K
lawful plain l K few few' f = record {
  slots_counted = slots_counted plain l K f;
  codes_counted = codes_counted plain l K f;
  few_slots = few;
  few_codes = few';
  kept = kept plain K f.proper (slice_index l.offset.items) (slice_index l.size.items) (slice_index l.frame.items) l.total (table_agrees plain K f.proper l.offset.items l.size.items f.offset f.size)
      (λ (c : ℕ). entry_is c l.frame.items ∙ ap (entry c) f.frame) f.total;
}
