-- Where lines begin, over the calls of a reader.
use Rattle.std.proofs.Common.{◌≡◌, ℕ, zero, suc, ◌+◌, ◌-◌, ◌≤◌, ◌<◌, Bool, true, false, cond, List, [], ◌∷◌, ◌++◌, length, take, min, Option, Some, None, Result, Ok, Err, refl, sym, ap, ◌∙◌, subst, arith, length-append, length-take, add-one, replicate}
use Rattle.std.specs.Prelude.{nat_lt, unwrap_or}
use Rattle.ceu_io.specs.Told.{WhereTold}
use Rattle.ceu_io.proofs.Telling.{where_told_map, where_told_same, where_told_then}
use Rattle.ceu_script.specs.Bytewise.{Leading, line, nothing, too_long, over_budget, first_line, front_of, of_front, of_length, last_line}
use Rattle.ceu_script.specs.Lines.{Line, without_return, script_lines}
use Rattle.ceu_script.specs.Places.{after_line, from_line, line_start, IsAt, Skips}
use Rattle.ceu_script.specs.Reader.{Reader, Script, ahead, position, room, budget, GoesOn}
use Rattle.ceu_script.proofs.Front.{ahead_same}
use Rattle.ceu_script.proofs.Skipping.{SkippedTo}

-- ---- the bytes behind a line that was read

of_length_rest : (b : Bool) (text rest t r : List ℕ) → cond b too_long (line text rest) ≡ line t r → r ≡ rest
of_length_rest true text rest t r is = absurd (cc)
of_length_rest false text rest t r is = cc

no_line : (b : Bool) (t r : List ℕ) → cond b too_long over_budget ≡ line t r → r ≡ []
no_line true t r is = absurd (cc)
no_line false t r is = absurd (cc)

front_rest : (cut : Bool) (text : List ℕ) (after : Option (List ℕ)) (t r : List ℕ) → of_front cut text after ≡ line t r → r ≡ unwrap_or after []
front_rest cut text (Some rest) t r is = of_length_rest (nat_lt 200 (length (without_return text))) (without_return text) rest t r is
front_rest true text None t r is = no_line (nat_lt 201 (length text)) t r is
front_rest false [] None t r is = absurd (cc)
front_rest false (b ∷ text) None t r is = of_length_rest (nat_lt 200 (length (b ∷ text))) (b ∷ text) [] t r is

line_rest : (s : Script) (t r : List ℕ) → first_line s ≡ line t r → r ≡ after_line s.bytes
unfolding first_line
line_rest s t r is = front_rest s.cut (front_of s.bytes).before (front_of s.bytes).after t r is

from_more : (k : ℕ) (bytes : List ℕ) → from_line (suc k) bytes ≡ after_line (from_line k bytes)
from_more zero bytes = refl
from_more (suc k) bytes = from_more k (after_line bytes)

-- ---- places

-- a byte's place and what is from there on make up the script
place_and_rest : (r : Reader) (left : List ℕ) → length r.pending ≤ r.taken → r.taken ≤ budget → position r + length (ahead r left).bytes ≡ min (r.taken + length left) budget
unfolding ahead
place_and_rest r left held within = omega (arith, length-take (room r) (r.pending ++ left), length-append r.pending left)

-- where the next line begins
next_start : (bytes : List ℕ) (m : Reader) (rest : Script) → IsAt bytes m rest → position m ≡ line_start m.last.lines bytes
next_start bytes m rest at = omega (arith, at.placed, ap length at.rest_is)

same_line : (n m : ℕ) → n ≡ m + 1 → n - 1 ≡ m
same_line n m counted = omega arith

-- a line that was begun
pub line_began : (bytes : List ℕ) (m q : Reader) (rest : Script) → q.last.start ≡ position m → q.last.lines ≡ m.last.lines + 1 → IsAt bytes m rest → q.last.start ≡ line_start (q.last.lines - 1) bytes
line_began bytes m q rest start counted at = start ∙ next_start bytes m rest at ∙ ap (λ k. line_start k bytes) (sym (same_line q.last.lines m.last.lines counted))

-- none was
pub still_began : (bytes : List ℕ) (m q : Reader) (rest : Script) → q.last.start ≡ m.last.start → q.last.lines ≡ m.last.lines → IsAt bytes m rest → q.last.start ≡ line_start (q.last.lines - 1) bytes
still_began bytes m q rest start counted at = start ∙ at.began ∙ ap (λ k. line_start (k - 1) bytes) (sym counted)

where_told_both : {A : Type 0} (x y : Option A) (P Q R : A → A → Type 0) → ((a b : A) → P a b → Q a b → R a b) → WhereTold x y P → WhereTold x y Q → WhereTold x y R
where_told_both None y P Q R f p q = q
where_told_both (Some a) None P Q R f p q = q
where_told_both (Some a) (Some b) P Q R f p q = f a b p q

-- the last line, after what came before
pub line_stands : (r m q : Reader) (x y z : Option (List ℕ)) → q.last.start ≡ position m → q.last.lines ≡ m.last.lines + 1 → WhereTold x y (λ old new. (bytes : List ℕ) → IsAt bytes r (ahead r old) → IsAt bytes m (ahead m new))
    → WhereTold y z (λ old new. q.taken + length new ≡ m.taken + length old) → WhereTold x z (λ old new. (bytes : List ℕ) → IsAt bytes r (ahead r old) → q.last.start ≡ line_start (q.last.lines - 1) bytes)
line_stands r m q x y z start counted so_far moved = where_told_then x y z _ _ _ (λ a b d first then bytes at. line_began bytes m q (ahead m b) start counted (first bytes at)) so_far moved

pub nothing_stands : (r m q : Reader) (x y z : Option (List ℕ)) → q.last.start ≡ m.last.start → q.last.lines ≡ m.last.lines → WhereTold x y (λ old new. (bytes : List ℕ) → IsAt bytes r (ahead r old) → IsAt bytes m (ahead m new))
    → WhereTold y z (λ old new. q.taken + length new ≡ m.taken + length old) → WhereTold x z (λ old new. (bytes : List ℕ) → IsAt bytes r (ahead r old) → q.last.start ≡ line_start (q.last.lines - 1) bytes)
nothing_stands r m q x y z start counted so_far moved = where_told_then x y z _ _ _ (λ a b d first then bytes at. still_began bytes m q (ahead m b) start counted (first bytes at)) so_far moved

-- lines that were skipped before a call failed
pub some_skipped : (r m q : Reader) (x y z : Option (List ℕ)) → SkippedTo r m x y → q.last.lines ≡ m.last.lines → WhereTold y z (λ old new. q.taken + length new ≡ m.taken + length old)
    → WhereTold x z (λ old new. Skips r.last.lines q.last.lines (script_lines (ahead r old)))
some_skipped r m q x y z so_far counted moved = where_told_then x y z _ _ _
    (λ a b d first then. record { skips = so_far.skips; rest = script_lines (ahead m b); counted = counted ∙ so_far.counted; lines_are = first }) so_far.told moved

-- a line of text was read and kept
module _ (m q s : Reader) (text : List ℕ)
    (start : q.last.start ≡ position m) (counted : q.last.lines ≡ m.last.lines + 1) (m_held : length m.pending ≤ m.taken) (m_within : m.taken ≤ budget)
    (pending : s.pending ≡ q.pending) (taken : s.taken ≡ q.taken) (kept : s.last.start ≡ q.last.start) (lines : s.last.lines ≡ q.last.lines) (held : length s.pending ≤ s.taken) (within : q.taken ≤ budget) where
  text_placed : (old new : List ℕ) → first_line (ahead m old) ≡ line text (ahead q new).bytes → q.taken + length new ≡ m.taken + length old → (bytes : List ℕ) → IsAt bytes m (ahead m old) → IsAt bytes s (ahead s new)
  text_placed old new is moved bytes at = record {
    rest_is = ap (λ (t : Script). t.bytes) (sym (ahead_same q s new pending taken)) ∙ line_rest (ahead m old) text (ahead q new).bytes is ∙ ap after_line at.rest_is ∙ sym (from_more m.last.lines bytes)
        ∙ ap (λ k. from_line k bytes) (sym (lines ∙ counted ∙ add-one m.last.lines));
    placed = place_and_rest s new held (omega arith) ∙ ap (λ k. min k budget) (omega arith) ∙ sym (place_and_rest m old m_held m_within) ∙ at.placed;
    began = kept ∙ start ∙ next_start bytes m (ahead m old) at ∙ ap (λ k. line_start k bytes) (sym (same_line s.last.lines m.last.lines (lines ∙ counted)));
  }

  -- after what came before
  pub text_stands : (r : Reader) (x y z : Option (List ℕ)) → WhereTold x y (λ old new. (bytes : List ℕ) → IsAt bytes r (ahead r old) → IsAt bytes m (ahead m new))
      → WhereTold y z (λ old new. (first_line (ahead m old) ≡ line text (ahead q new).bytes) × ((ahead q new).cut ≡ (ahead m old).cut)) → WhereTold y z (λ old new. q.taken + length new ≡ m.taken + length old)
      → WhereTold x z (λ old new. (bytes : List ℕ) → IsAt bytes r (ahead r old) → IsAt bytes s (ahead s new))
  text_stands r x y z so_far is moved = where_told_then x y z (λ old new. (bytes : List ℕ) → IsAt bytes r (ahead r old) → IsAt bytes m (ahead m new)) (λ old new. (bytes : List ℕ) → IsAt bytes m (ahead m old) → IsAt bytes s (ahead s new)) _
      (λ a b d first then bytes at. then bytes (first bytes at)) so_far
      (where_told_both y z (λ old new. (first_line (ahead m old) ≡ line text (ahead q new).bytes) × ((ahead q new).cut ≡ (ahead m old).cut)) (λ old new. q.taken + length new ≡ m.taken + length old) _
      (λ old new f e. text_placed old new f.0 e) is moved)
