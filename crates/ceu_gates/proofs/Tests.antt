-- Tests that are made of two.
use Rattle.std.proofs.Common.{◌≡◌, refl, Bool, true, false, ◌&&◌, IsTrue}

pub both_left : (a b : Bool) → IsTrue (a && b) → IsTrue a
both_left true b h = refl
both_left false b h = absurd cc

pub both_right : (a b : Bool) → IsTrue (a && b) → IsTrue b
both_right true b h = h
both_right false b h = absurd cc

pub contrary : (a : Bool) → a ≡ false → IsTrue a → ⊥
contrary true e h = cc
contrary false e h = cc
