-- The lines of a listing. The form of these lines is this project's own.
use Rattle.std.specs.Prelude.{ℕ, List, [], ◌∷◌, ◌++◌, codes, decimal, slice_index}
use Rattle.ceu_io.specs.Place.{at_place}
use Rattle.ceu_gates.specs.declared.plan.GatePlan.{GatePlan}
use Rattle.ceu_slots.specs.Plans.{Planned}
use Rattle.ceu_tree.specs.declared.kernel.Kernel.{Kernel}
use Rattle.ceu_listing.specs.Rows.{Row, SlotRow, GateRow, CodeRow, kernel_rows}

abbrev pub slot_head : (offset size : ℕ) → List ℕ
slot_head offset size = codes "slot " ++ decimal offset ++ 32 ∷ [] ++ decimal size ++ 32 ∷ []

abbrev pub code_tail : (frame gates : ℕ) → List ℕ
code_tail frame gates = codes " frame " ++ decimal frame ++ codes " gates " ++ decimal gates ++ 10 ∷ []

abbrev pub line : Planned → GatePlan → Row → List ℕ
line p g (SlotRow slot name place) = slot_head (p.offset slot) (p.size slot) ++ (name ++ at_place place)
line p g (GateRow node place) = codes "gate " ++ decimal (slice_index g.first node) ++ at_place place
line p g (CodeRow code name body) = codes "code " ++ (name ++ code_tail (p.frame code) (slice_index g.count body))

abbrev pub text : Planned → GatePlan → List Row → List ℕ
text p g [] = []
text p g (r ∷ rs) = line p g r ++ text p g rs

abbrev pub listing_text : Planned → GatePlan → Kernel → List ℕ
listing_text p g K = text p g (kernel_rows K)
