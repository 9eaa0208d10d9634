-- A line that was read byte by byte, and the first line of the script.
use Rattle.std.proofs.Common.{◌≡◌, ℕ, ◌+◌, ◌-◌, ◌≤◌, ◌<◌, Bool, true, false, cond, List, [], ◌∷◌, ◌++◌, length, take, get_or, Option, Some, None, refl, sym, ap, ◌∙◌, subst, arith, append_assoc, length-append, length-take}
use Rattle.std.specs.Prelude.{nat_lt, nat_eq}
use Rattle.std.proofs.lemmas.Bool.Decides.{nat_tests}
use Rattle.std.proofs.lemmas.List.{append-nil}
use Rattle.ceu_io.specs.Told.{WhereTold}
use Rattle.ceu_io.proofs.Telling.{where_told_map, where_told_then}
use Rattle.ceu_script.specs.Reader.{Reader, Script, ahead}
use Rattle.ceu_script.specs.Lines.{without_return}
use Rattle.ceu_script.specs.Bytewise.{Front, front_of, Leading, line, nothing, too_long, over_budget, first_line, of_front, of_length, last_line, Answers, AnswersByte, IsLine, Stops}
use Rattle.ceu_script.specs.declared.lines.Stop.{Stop}
use Rattle.ceu_script.specs.declared.lines.Stop.TheVariants as stop
use Rattle.ceu_script.specs.declared.lines.RawLine.{RawLine}
use Rattle.ceu_script.specs.declared.lines.RawLine.TheVariants.{Text, End, Long, Budget}
use Rattle.ceu_script.specs.declared.lines.NextByte.{NextByte}
use Rattle.ceu_script.specs.declared.lines.NextByte.TheVariants.{Byte, Last, Over}

abbrev pub NoNewline : List ℕ → Type 0
NoNewline [] = Unit {0}
NoNewline (b ∷ text) = (b ≡ 10 → ⊥) × NoNewline text

pub record Seen (text : List ℕ) (s now : Script) : Type 0 where
  pub bytes : s.bytes ≡ text ++ now.bytes
  pub cut : now.cut ≡ s.cut
  pub clean : NoNewline text

clean_push : (text : List ℕ) (b : ℕ) → NoNewline text → (b ≡ 10 → ⊥) → NoNewline (text ++ b ∷ [])
clean_push [] b clean other = (other, tt)
clean_push (a ∷ text) b clean other = (clean.0, clean_push text b clean.1 other)

no_test : (b : ℕ) → (b ≡ 10 → ⊥) → nat_eq b 10 ≡ false
no_test b other = grind (arith, nat_tests)

pub front-append : (text rest : List ℕ) → NoNewline text → front_of (text ++ rest) ≡ record { before = text ++ (front_of rest).before; after = (front_of rest).after }
front-append [] rest clean = refl
front-append (b ∷ text) rest clean =
    let e = no_test b clean.0 in
    let h = front-append text rest clean.1 in
    (λ i. cond (e i) (record { before = []; after = Some (text ++ rest) }) (record { before = b ∷ (h i).before; after = (h i).after }))

pub seen_none : (s : Script) → Seen [] s s
seen_none s = record { bytes = refl; cut = refl; clean = tt }

pub seen_more : (text : List ℕ) (b : ℕ) (s m n : Script) → Seen text s m → (b ≡ 10 → ⊥) → AnswersByte (Byte b) m n → Seen (text ++ b ∷ []) s n
seen_more text b s m n seen other is = record {
  bytes = seen.bytes ∙ ap (λ (l : List ℕ). text ++ l) is.0 ∙ sym (append_assoc text (b ∷ []) n.bytes);
  cut = is.1 ∙ seen.cut;
  clean = clean_push text b seen.clean other;
}

first_is : (s : Script) (front : Front) → front_of s.bytes ≡ front → first_line s ≡ of_front s.cut front.before front.after
unfolding first_line
first_is s front is = ap (λ (f : Front). of_front s.cut f.before f.after) is

pub ended_line : (text : List ℕ) (s m n : Script) → Seen text s m → AnswersByte (Byte 10) m n → first_line s ≡ of_length (without_return text) n.bytes
ended_line text s m n seen is =
    first_is s (record { before = text ++ []; after = Some n.bytes }) (ap front_of (seen.bytes ∙ ap (λ (l : List ℕ). text ++ l) is.0) ∙ front-append text (10 ∷ n.bytes) seen.clean)
    ∙ ap (λ (l : List ℕ). of_length (without_return l) n.bytes) (append-nil text)

unended : (text : List ℕ) (s : Script) → s.bytes ≡ text → NoNewline text → first_line s ≡ last_line s.cut text
unended text s is clean = first_is s (record { before = text ++ []; after = None }) (ap front_of (is ∙ sym (append-nil text)) ∙ front-append text [] clean) ∙ ap (λ (l : List ℕ). last_line s.cut l) (append-nil text)

too_far : (text rest : List ℕ) → 200 < length text → of_length text rest ≡ too_long
too_far text rest far = let e : nat_lt 200 (length text) ≡ true = grind (arith, nat_tests) in ap (λ (b : Bool). cond b too_long (line text rest)) e

pub last_text : (text : List ℕ) (s m : Script) → Seen text s m → 0 < length text → m ≡ record { cut = false; bytes = [] } → first_line s ≡ of_length text []
last_text [] s m seen some is = absurd (omega arith)
last_text (b ∷ text) s m seen some is =
    unended (b ∷ text) s (seen.bytes ∙ ap (λ (q : Script). (b ∷ text) ++ q.bytes) is ∙ append-nil (b ∷ text)) seen.clean
    ∙ ap (λ (c : Bool). last_line c (b ∷ text)) (sym seen.cut ∙ ap (λ (q : Script). q.cut) is)

pub last_nothing : (text : List ℕ) (s m : Script) → Seen text s m → length text ≡ 0 → m ≡ record { cut = false; bytes = [] } → first_line s ≡ nothing
last_nothing [] s m seen none is =
    unended [] s (seen.bytes ∙ ap (λ (q : Script). q.bytes) is) tt ∙ ap (λ (c : Bool). last_line c []) (sym seen.cut ∙ ap (λ (q : Script). q.cut) is)
last_nothing (b ∷ text) s m seen none is = absurd (omega arith)

pub budget_spent : (text : List ℕ) (s m : Script) → Seen text s m → length text ≤ 201 → m ≡ record { cut = true; bytes = [] } → first_line s ≡ over_budget
budget_spent text s m seen short is =
    let e : nat_lt 201 (length text) ≡ false = grind (arith, nat_tests) in
    unended text s (seen.bytes ∙ ap (λ (q : Script). text ++ q.bytes) is ∙ append-nil text) seen.clean
    ∙ ap (λ (c : Bool). last_line c text) (sym seen.cut ∙ ap (λ (q : Script). q.cut) is) ∙ ap (λ (b : Bool). cond b too_long over_budget) e

shorter : (c : Bool) (text : List ℕ) → length text ≤ length (cond c (take (length text - 1) text) text) + 1
shorter false text = omega arith
shorter true text = omega (arith, length-take (length text - 1) text)

-- 202 bytes without a newline
without_short : (text : List ℕ) → length text ≤ length (without_return text) + 1
without_short text = shorter (nat_eq (get_or text (length text - 1) 0) 13) text

long_front : (cut : Bool) (text : List ℕ) (after : Option (List ℕ)) → 201 < length text → of_front cut text after ≡ too_long
long_front cut text (Some rest) far = too_far (without_return text) rest (omega (arith, without_short text))
long_front true text None far = let e : nat_lt 201 (length text) ≡ true = grind (arith, nat_tests) in ap (λ (b : Bool). cond b too_long over_budget) e
long_front false [] None far = absurd (omega arith)
long_front false (b ∷ text) None far = too_far (b ∷ text) [] (omega arith)

pub long_line : (text : List ℕ) (b : ℕ) (s m n : Script) → Seen text s m → (b ≡ 10 → ⊥) → AnswersByte (Byte b) m n → 201 ≤ length text → first_line s ≡ too_long
long_line text b s m n seen other is far =
    let more = seen_more text b s m n seen other is in
    let f = front_of n.bytes in
    first_is s (record { before = (text ++ b ∷ []) ++ f.before; after = f.after }) (ap front_of more.bytes ∙ front-append (text ++ b ∷ []) n.bytes more.clean)
    ∙ long_front s.cut ((text ++ b ∷ []) ++ f.before) f.after (omega (arith, length-append (text ++ b ∷ []) f.before, length-append text (b ∷ [])))

pub answers_from : (l : RawLine) (s n : Script) (is : Leading) → first_line s ≡ is → n.cut ≡ s.cut → IsLine l is n.bytes → Answers l s n
answers_from (Text text) s n is first cut same = (first ∙ same, cut)
answers_from End s n is first cut same = first ∙ same
answers_from Long s n is first cut same = first ∙ same
answers_from Budget s n is first cut same = first ∙ same

-- what the next byte makes of the bytes that were read
module _ (x y z : Option (List ℕ)) (text : List ℕ) (r m n : Reader) (b : NextByte)
    (seen : WhereTold x y (λ old new. Seen text (ahead r old) (ahead m new)))
    (is : WhereTold y z (λ old new. AnswersByte b (ahead m old) (ahead n new))) where
  pub push_seen : (byte : ℕ) → b ≡ Byte byte → (byte ≡ 10 → ⊥) → WhereTold x z (λ old new. Seen (text ++ byte ∷ []) (ahead r old) (ahead n new))
  push_seen byte same other = where_told_then x y z _ _ _ (λ a c d s t. seen_more text byte _ _ _ s other (subst (λ q. AnswersByte q (ahead m c) (ahead n d)) same t)) seen is

  pub newline_stops : (byte : ℕ) → b ≡ Byte byte → byte ≡ 10 → WhereTold x z (λ old new. Stops stop.Newline text (ahead r old) (ahead n new))
  newline_stops byte same ten = where_told_then x y z _ _ _ (λ a c d s t.
      let u = subst (λ q. AnswersByte q (ahead m c) (ahead n d)) (same ∙ ap Byte ten) t in
      (ended_line text _ _ _ s u, u.1 ∙ s.cut)) seen is

  pub long_stops : (byte : ℕ) → b ≡ Byte byte → (byte ≡ 10 → ⊥) → 201 ≤ length text → WhereTold x z (λ old new. Stops stop.TooLong text (ahead r old) (ahead n new))
  long_stops byte same other far = where_told_then x y z _ _ _ (λ a c d s t. long_line text byte _ _ _ s other (subst (λ q. AnswersByte q (ahead m c) (ahead n d)) same t) far) seen is

  pub last_stops : b ≡ Last → WhereTold x z (λ old new. Stops stop.Last text (ahead r old) (ahead n new))
  last_stops same = where_told_then x y z _ _ _ (λ a c d s t.
      let u = subst (λ q. AnswersByte q (ahead m c) (ahead n d)) same t in
      let none : (ahead n d).bytes ≡ [] = ap (λ (q : Script). q.bytes) (u.1 ∙ u.0) in (
        (λ empty. last_nothing text _ _ s empty u.0, λ some. last_text text _ _ s some u.0 ∙ ap (λ (l : List ℕ). of_length text l) (sym none)),
        ap (λ (q : Script). q.cut) u.1 ∙ s.cut,
      )) seen is

  pub over_stops : b ≡ Over → length text ≤ 201 → WhereTold x z (λ old new. Stops stop.Over text (ahead r old) (ahead n new))
  over_stops same short = where_told_then x y z _ _ _ (λ a c d s t. budget_spent text _ _ s short (subst (λ q. AnswersByte q (ahead m c) (ahead n d)) same t).0) seen is

pub ahead_same : (m n : Reader) (left : List ℕ) → n.pending ≡ m.pending → n.taken ≡ m.taken → ahead m left ≡ ahead n left
unfolding ahead
ahead_same m n left held taken = λ i. ahead (record { pending = sym held i; taken = sym taken i; last = m.last }) left

module _ (x y : Option (List ℕ)) (p : Stop) (text : List ℕ) (l : RawLine) (r m n : Reader) where
  pub newline_answers : p ≡ stop.Newline → n.pending ≡ m.pending → n.taken ≡ m.taken → ((rest : List ℕ) → IsLine l (of_length (without_return text) rest) rest)
      → WhereTold x y (λ old new. Stops p text (ahead r old) (ahead m new)) → WhereTold x y (λ old new. Answers l (ahead r old) (ahead n new))
  newline_answers same held taken is told = where_told_map x y _ _ (λ old new s.
      let t = subst (λ q. Stops q text (ahead r old) (ahead m new)) same s in
      subst (λ q. Answers l (ahead r old) q) (ahead_same m n new held taken) (answers_from l _ _ _ t.0 t.1 (is _))) told

  pub last_answers : p ≡ stop.Last → 0 < length text → n.pending ≡ m.pending → n.taken ≡ m.taken → ((rest : List ℕ) → IsLine l (of_length text rest) rest)
      → WhereTold x y (λ old new. Stops p text (ahead r old) (ahead m new)) → WhereTold x y (λ old new. Answers l (ahead r old) (ahead n new))
  last_answers same some held taken is told = where_told_map x y _ _ (λ old new s.
      let t = subst (λ q. Stops q text (ahead r old) (ahead m new)) same s in
      subst (λ q. Answers l (ahead r old) q) (ahead_same m n new held taken) (answers_from l _ _ _ (t.0.1 some) t.1 (is _))) told

-- what a reader takes, its source loses
pub moved_then : (x y z : Option (List ℕ)) (p q r : ℕ) → WhereTold x y (λ old new. q + length new ≡ p + length old) → WhereTold y z (λ old new. r + length new ≡ q + length old) → WhereTold x z (λ old new. r + length new ≡ p + length old)
moved_then x y z p q r = where_told_then x y z (λ old new. q + length new ≡ p + length old) (λ old new. r + length new ≡ q + length old) (λ old new. r + length new ≡ p + length old) (λ a b d s t. omega arith)
