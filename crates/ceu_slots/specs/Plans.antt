-- What a plan says, and when it fits a kernel.
use Rattle.std.specs.Prelude.{◌≡◌, ℕ, ◌^◌, ◌<◌, Bool, length, slice_index}
use Rattle.ceu_tree.specs.declared.kernel.Kernel.{Kernel}
use Rattle.ceu_slots.specs.declared.plans.Layout.{Layout}
use Rattle.ceu_slots.specs.Layout.{slot_numbers, offset_of, size_of, frame_of_code, total_of}
use Rattle.ceu_slots.specs.Law.{KeepsPlaces}

-- by the number of a slot its offset in its frame and its size, by the number of a code the size of its frame, and the bytes of the whole
pub record Planned : Type 0 where
  pub offset : ℕ → ℕ
  pub size : ℕ → ℕ
  pub frame : ℕ → ℕ
  pub total : ℕ
  pub slot_count : ℕ
  pub code_count : ℕ

-- a plan of this kernel: it has its slots and codes, and keeps the law; numbers of slots and codes have 32 bits
pub record Lawful (p : Planned) (K : Kernel) : Type 0 where
  pub slots_counted : p.slot_count ≡ length (slot_numbers K)
  pub codes_counted : p.code_count ≡ length K.codes
  pub few_slots : p.slot_count < 2 ^ 32
  pub few_codes : p.code_count < 2 ^ 32
  pub kept : KeepsPlaces p.offset p.size p.frame K p.total

-- its numbers are the places of a layout
pub record HasPlaces (plain : Bool) (K : Kernel) (p : Planned) : Type 0 where
  pub offsets : (slot : ℕ) → slot < length (slot_numbers K) → p.offset slot ≡ offset_of plain K slot
  pub sizes : (slot : ℕ) → slot < length (slot_numbers K) → p.size slot ≡ size_of plain K slot
  pub frames : (code : ℕ) → p.frame code ≡ frame_of_code plain K code
  pub whole : p.total ≡ total_of plain K

-- what a layout in memory says
abbrev pub planned_of : Layout → Planned
planned_of l = record {
  offset = slice_index l.offset.items;
  size = slice_index l.size.items;
  frame = slice_index l.frame.items;
  total = l.total;
  slot_count = length l.offset.items;
  code_count = length l.frame.items;
}
