-- A change of all gates that pass a test leaves the header as it was, and what is changed are bytes.
use Rattle.std.proofs.Common.{◌≡◌, refl, ◌∙◌, ◌≤◌, ℕ, zero, suc, ◌+◌, Bool, true, false, List}
use Rattle.ceu_code.specs.declared.image.Image.{Image}
use Rattle.ceu_mem.specs.declared.gate.Gate.{Gate}
use Rattle.ceu_mem.specs.Bytes.{number_at}
use Rattle.ceu_isa.specs.Layout.{gate_of, if_changed, each_gate}
use Rattle.ceu_isa.specs.Safety.{Fits}
use Rattle.laws_machine_layout.specs.Laws.{AreBytes}
use Rattle.ceu_follows.proofs.Memory.{put_fits, put_bytes, put_header}

pub record Unmoved (image : Image) (old new : List ℕ) : Type 0 where
  pub fits : Fits image new
  pub are_bytes : AreBytes new
  pub header : (size at : ℕ) → at + size ≤ 16 → number_at size new at ≡ number_at size old at

module _ (image : Image) (test : Gate → Bool) (f : Gate → Gate) where
  one_more : (b : Bool) (g : ℕ) (old new : List ℕ) → Unmoved image old new → Unmoved image old (if_changed image f b g new)
  one_more false g old new h = h
  one_more true g old new h = record {
    fits = put_fits image new h.fits h.are_bytes (f (gate_of image new g)) g;
    are_bytes = put_bytes image new h.fits h.are_bytes (f (gate_of image new g)) g;
    header = λ size at le. put_header image new h.fits h.are_bytes (f (gate_of image new g)) g size at le ∙ h.header size at le;
  }

  pub each_unmoved : (n : ℕ) (bytes : List ℕ) → Fits image bytes → AreBytes bytes → Unmoved image bytes (each_gate image test f n bytes)
  unfolding each_gate
  each_unmoved zero bytes fits small = record { fits = fits; are_bytes = small; header = λ size at le. refl }
  each_unmoved (suc n) bytes fits small =
      one_more (test (gate_of image (each_gate image test f n bytes) n)) n bytes (each_gate image test f n bytes) (each_unmoved n bytes fits small)

pub unmoved_then : (image : Image) (a b c : List ℕ) → Unmoved image a b → Unmoved image b c → Unmoved image a c
unmoved_then image a b c x y = record { fits = y.fits; are_bytes = y.are_bytes; header = λ size at le. y.header size at le ∙ x.header size at le }
