-- How many bytes, labels and positions pieces take that are put together.
use Rattle.std.proofs.Common.{ℕ, ◌+◌, ◌≤◌, List, ◌++◌, length, arith, length-append}
use Rattle.ceu_base.specs.declared.kinds.Pos.{Pos}
use Rattle.ceu_asm.specs.declared.line.Line.{Line}
use Rattle.ceu_asm.specs.Lines.{code_size}
use Rattle.ceu_shape.specs.Pieces.{Draft, both, nothing, text}
use Rattle.ceu_shape.proofs.Short.{size_append}

module _ (number : Pos → ℕ) where
  -- The bytes, with some to spare, the labels, with some to spare, and the positions are at most so many.
  pub record Light (draft : Draft) (fresh spare bytes left labels places : ℕ) : Type 0 where
    pub bytes_few : code_size ((draft fresh).lines number) + spare ≤ bytes
    pub labels_few : (draft fresh).next + left ≤ fresh + labels
    pub places_few : length (draft fresh).noted ≤ places

  pub light_text : (ls : List Line) (fresh bytes : ℕ) → code_size ls ≤ bytes → Light (text ls) fresh 0 bytes 0 0 0
  light_text ls fresh bytes h = record { bytes_few = omega (arith, h); labels_few = omega arith; places_few = omega arith }

  pub light_nothing : (fresh : ℕ) → Light nothing fresh 0 0 0 0 0
  light_nothing fresh = record { bytes_few = omega arith; labels_few = omega arith; places_few = omega arith }

  pub light_both : (a b : Draft) (fresh s m k l p t n j i q : ℕ) → Light a fresh s m k l p → Light b (a fresh).next t n j i q → Light (both a b) fresh (s + t) (m + n) (k + j) (l + i) (p + q)
  light_both a b fresh s m k l p t n j i q f g = record { bytes_few = bytes f.bytes_few g.bytes_few; labels_few = omega (arith, f.labels_few, g.labels_few); places_few = places f.places_few g.places_few }
    where
      bytes : code_size ((a fresh).lines number) + s ≤ m → code_size ((b (a fresh).next).lines number) + t ≤ n →
          code_size ((a fresh).lines number ++ (b (a fresh).next).lines number) + (s + t) ≤ m + n
      bytes x y = omega (arith, x, y, size_append ((a fresh).lines number) ((b (a fresh).next).lines number))

      places : length (a fresh).noted ≤ p → length (b (a fresh).next).noted ≤ q → length ((a fresh).noted ++ (b (a fresh).next).noted) ≤ p + q
      places x y = omega (arith, x, y, length-append (a fresh).noted (b (a fresh).next).noted)

  -- other numbers, as far apart at most
  pub light_as : (d : Draft) (fresh s m k l p t n j i q : ℕ) → m + t ≤ n + s → l + j ≤ i + k → p ≤ q → Light d fresh s m k l p → Light d fresh t n j i q
  light_as d fresh s m k l p t n j i q x y z f = record { bytes_few = omega (arith, f.bytes_few, x); labels_few = omega (arith, f.labels_few, y); places_few = omega (arith, f.places_few, z) }

  pub light_to : (a b : Draft) (fresh s m k l p t n j i q u o v w r : ℕ) → m + n + u ≤ o + (s + t) → l + i + v ≤ w + (k + j) → p + q ≤ r → Light a fresh s m k l p → Light b (a fresh).next t n j i q →
      Light (both a b) fresh u o v w r
  light_to a b fresh s m k l p t n j i q u o v w r x y z f g =
      light_as (both a b) fresh (s + t) (m + n) (k + j) (l + i) (p + q) u o v w r x y z (light_both a b fresh s m k l p t n j i q f g)
