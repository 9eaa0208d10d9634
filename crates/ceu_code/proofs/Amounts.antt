-- The numbers of an image.
use Rattle.std.proofs.Common.{ℕ, ◌-◌, ◌*◌, ◌%◌, ◌^◌, ◌≤◌, ◌<◌, List, ◌++◌, refl, ap, ◌∙◌, arith, lit<, lit≤}
use Rattle.ceu_code.specs.declared.decoding.DecodeError.{DecodeError}
use Rattle.ceu_code.specs.Reading.{Reads, Words, Unique, Refused, IsBetween}
use Rattle.ceu_code.proofs.Reading.{Pair, pair_if, pair_second, read_pair, some_pair, unique_pair, refused_as, unique_as}
use Rattle.ceu_code.proofs.Numbers.{unique_between}
use Rattle.ceu_code.proofs.Parsed.{some_between}
use Rattle.std.proofs.Math.Nat.{div-add-mod}
use Rattle.ceu_code.specs.declared.decoder.Numbers.{Numbers}
use Rattle.ceu_code.specs.Spelling.{half, word}
use Rattle.ceu_code.specs.Decoding.{most_gates, most_slots, numbers_bytes, IsNumbers}

mod_19 : (n : ℕ) → n % 19 < 19
mod_19 n = grind arith

pub gate_fits : (depth g : ℕ) → g ≤ most_gates depth → 19 * g ≤ 65519 - 8 * depth
gate_fits depth g h = let d = div-add-mod (65519 - 8 * depth) 19 in omega arith

pub fits_gate : (depth g : ℕ) → g ≤ 3000 → 19 * g ≤ 65519 - 8 * depth → g ≤ most_gates depth
fits_gate depth g h k = let d = div-add-mod (65519 - 8 * depth) 19 in let m = mod_19 (65519 - 8 * depth) in omega arith

some_gate : (depth : ℕ) → depth ≤ 8187 → 1 ≤ most_gates depth
some_gate depth h = fits_gate depth 1 (lit≤ tt) (omega arith)

few_gates : (depth : ℕ) → most_gates depth < 256 ^ 2
few_gates depth = omega arith

few_slots : (depth gates : ℕ) → most_slots depth gates < 256 ^ 2
few_slots depth gates = omega arith

abbrev pub amount_form0 : ℕ → List ℕ → Type 0
amount_form0 = IsBetween 4 1 4294967295

abbrev pub amount_form1 : (turns : ℕ) → ℕ → List ℕ → Type 0
amount_form1 turns = IsBetween 2 0 65535

abbrev pub amount_form2 : (turns : ℕ) (levels : ℕ) → ℕ → List ℕ → Type 0
amount_form2 turns levels = IsBetween 2 1 8187

abbrev pub amount_form3 : (turns : ℕ) (levels : ℕ) (depth : ℕ) → ℕ → List ℕ → Type 0
amount_form3 turns levels depth = IsBetween 2 1 (most_gates depth)

abbrev pub amount_form4 : (turns : ℕ) (levels : ℕ) (depth : ℕ) (gates : ℕ) → ℕ → List ℕ → Type 0
amount_form4 turns levels depth gates = IsBetween 2 0 (most_slots depth gates)

abbrev pub amount4 : (turns : ℕ) (levels : ℕ) (depth : ℕ) (gates : ℕ) → ℕ → List ℕ → Type 0
amount4 turns levels depth gates = amount_form4 turns levels depth gates

abbrev pub amount3 : (turns : ℕ) (levels : ℕ) (depth : ℕ) → ℕ × ℕ → List ℕ → Type 0
amount3 turns levels depth = Pair (amount_form3 turns levels depth) (λ gates. amount4 turns levels depth gates)

abbrev pub amount2 : (turns : ℕ) (levels : ℕ) → ℕ × (ℕ × ℕ) → List ℕ → Type 0
amount2 turns levels = Pair (amount_form2 turns levels) (λ depth. amount3 turns levels depth)

abbrev pub amount1 : (turns : ℕ) → ℕ × (ℕ × (ℕ × ℕ)) → List ℕ → Type 0
amount1 turns = Pair (amount_form1 turns) (λ levels. amount2 turns levels)

abbrev pub amount0 : ℕ × (ℕ × (ℕ × (ℕ × ℕ))) → List ℕ → Type 0
amount0 = Pair (amount_form0) (λ turns. amount1 turns)

pub amount_unique4 : (turns : ℕ) (levels : ℕ) (depth : ℕ) (gates : ℕ) → Unique (amount4 turns levels depth gates)
amount_unique4 turns levels depth gates = unique_between 2 0 (most_slots depth gates) (few_slots depth gates)

pub amount_unique3 : (turns : ℕ) (levels : ℕ) (depth : ℕ) → Unique (amount3 turns levels depth)
amount_unique3 turns levels depth = unique_pair (amount_form3 turns levels depth) (λ gates. amount4 turns levels depth gates) (unique_between 2 1 (most_gates depth) (few_gates depth)) (λ gates. amount_unique4 turns levels depth gates)

pub amount_unique2 : (turns : ℕ) (levels : ℕ) → Unique (amount2 turns levels)
amount_unique2 turns levels = unique_pair (amount_form2 turns levels) (λ depth. amount3 turns levels depth) (unique_between 2 1 8187 (lit< tt)) (λ depth. amount_unique3 turns levels depth)

pub amount_unique1 : (turns : ℕ) → Unique (amount1 turns)
amount_unique1 turns = unique_pair (amount_form1 turns) (λ levels. amount2 turns levels) (unique_between 2 0 65535 (lit< tt)) (λ levels. amount_unique2 turns levels)

pub amount_unique0 : Unique (amount0)
amount_unique0 = unique_pair (amount_form0) (λ turns. amount1 turns) (unique_between 4 1 4294967295 (lit< tt)) (λ turns. amount_unique1 turns)

amount_some4 : (turns : ℕ) (w_turns : List ℕ) (f_turns : amount_form0 turns w_turns) (levels : ℕ) (w_levels : List ℕ) (f_levels : amount_form1 turns levels w_levels) (depth : ℕ) (w_depth : List ℕ) (f_depth : amount_form2 turns levels depth w_depth) (gates : ℕ) (w_gates : List ℕ) (f_gates : amount_form3 turns levels depth gates w_gates) → (w : List ℕ) × Words (amount4 turns levels depth gates) w
amount_some4 turns w_turns f_turns levels w_levels f_levels depth w_depth f_depth gates w_gates f_gates = some_between 2 0 (most_slots depth gates) (omega arith)

amount_some3 : (turns : ℕ) (w_turns : List ℕ) (f_turns : amount_form0 turns w_turns) (levels : ℕ) (w_levels : List ℕ) (f_levels : amount_form1 turns levels w_levels) (depth : ℕ) (w_depth : List ℕ) (f_depth : amount_form2 turns levels depth w_depth) → (w : List ℕ) × Words (amount3 turns levels depth) w
amount_some3 turns w_turns f_turns levels w_levels f_levels depth w_depth f_depth = let s : (w : List ℕ) × Words (amount_form3 turns levels depth) w = some_between 2 1 (most_gates depth) (some_gate depth f_depth.0.1) in some_pair (amount_form3 turns levels depth) (λ gates. amount4 turns levels depth gates) s.1.0 s.0 s.1.1 (amount_some4 turns w_turns f_turns levels w_levels f_levels depth w_depth f_depth s.1.0 s.0 s.1.1)

amount_some2 : (turns : ℕ) (w_turns : List ℕ) (f_turns : amount_form0 turns w_turns) (levels : ℕ) (w_levels : List ℕ) (f_levels : amount_form1 turns levels w_levels) → (w : List ℕ) × Words (amount2 turns levels) w
amount_some2 turns w_turns f_turns levels w_levels f_levels = let s : (w : List ℕ) × Words (amount_form2 turns levels) w = some_between 2 1 8187 (lit≤ tt) in some_pair (amount_form2 turns levels) (λ depth. amount3 turns levels depth) s.1.0 s.0 s.1.1 (amount_some3 turns w_turns f_turns levels w_levels f_levels s.1.0 s.0 s.1.1)

amount_some1 : (turns : ℕ) (w_turns : List ℕ) (f_turns : amount_form0 turns w_turns) → (w : List ℕ) × Words (amount1 turns) w
amount_some1 turns w_turns f_turns = let s : (w : List ℕ) × Words (amount_form1 turns) w = some_between 2 0 65535 (lit≤ tt) in some_pair (amount_form1 turns) (λ levels. amount2 turns levels) s.1.0 s.0 s.1.1 (amount_some2 turns w_turns f_turns s.1.0 s.0 s.1.1)

pub amount_refused0 : (bytes : List ℕ) (at : ℕ) (e : DecodeError) → Refused (Words (amount_form0)) bytes at e → Refused (Words (amount0)) bytes at e
amount_refused0 bytes at e r = (pair_if (amount_form0) (λ turns. amount1 turns) bytes at e (λ turns w f. amount_some1 turns w f) r)

pub amount_refused1 : (bytes : List ℕ) (at at1 : ℕ) (turns : ℕ) (e : DecodeError) → Reads (amount_form0) bytes at turns at1 → Refused (Words (amount_form1 turns)) bytes at1 e → Refused (Words (amount0)) bytes at e
amount_refused1 bytes at at1 turns e r0 r = (pair_second (amount_form0) (λ turns. amount1 turns) bytes at at1 turns e (unique_between 4 1 4294967295 (lit< tt)) r0 (pair_if (amount_form1 turns) (λ levels. amount2 turns levels) bytes at1 e (λ levels w f. amount_some2 turns r0.word r0.form levels w f) r))

pub amount_refused2 : (bytes : List ℕ) (at at1 at2 : ℕ) (turns : ℕ) (levels : ℕ) (e : DecodeError) → Reads (amount_form0) bytes at turns at1 → Reads (amount_form1 turns) bytes at1 levels at2 → Refused (Words (amount_form2 turns levels)) bytes at2 e → Refused (Words (amount0)) bytes at e
amount_refused2 bytes at at1 at2 turns levels e r0 r1 r = (pair_second (amount_form0) (λ turns. amount1 turns) bytes at at1 turns e (unique_between 4 1 4294967295 (lit< tt)) r0 (pair_second (amount_form1 turns) (λ levels. amount2 turns levels) bytes at1 at2 levels e (unique_between 2 0 65535 (lit< tt)) r1 (pair_if (amount_form2 turns levels) (λ depth. amount3 turns levels depth) bytes at2 e (λ depth w f. amount_some3 turns r0.word r0.form levels r1.word r1.form depth w f) r)))

pub amount_refused3 : (bytes : List ℕ) (at at1 at2 at3 : ℕ) (turns : ℕ) (levels : ℕ) (depth : ℕ) (e : DecodeError) → Reads (amount_form0) bytes at turns at1 → Reads (amount_form1 turns) bytes at1 levels at2 → Reads (amount_form2 turns levels) bytes at2 depth at3 → Refused (Words (amount_form3 turns levels depth)) bytes at3 e → Refused (Words (amount0)) bytes at e
amount_refused3 bytes at at1 at2 at3 turns levels depth e r0 r1 r2 r = (pair_second (amount_form0) (λ turns. amount1 turns) bytes at at1 turns e (unique_between 4 1 4294967295 (lit< tt)) r0 (pair_second (amount_form1 turns) (λ levels. amount2 turns levels) bytes at1 at2 levels e (unique_between 2 0 65535 (lit< tt)) r1 (pair_second (amount_form2 turns levels) (λ depth. amount3 turns levels depth) bytes at2 at3 depth e (unique_between 2 1 8187 (lit< tt)) r2 (pair_if (amount_form3 turns levels depth) (λ gates. amount4 turns levels depth gates) bytes at3 e (λ gates w f. amount_some4 turns r0.word r0.form levels r1.word r1.form depth r2.word r2.form gates w f) r))))

pub amount_refused4 : (bytes : List ℕ) (at at1 at2 at3 at4 : ℕ) (turns : ℕ) (levels : ℕ) (depth : ℕ) (gates : ℕ) (e : DecodeError) → Reads (amount_form0) bytes at turns at1 → Reads (amount_form1 turns) bytes at1 levels at2 → Reads (amount_form2 turns levels) bytes at2 depth at3 → Reads (amount_form3 turns levels depth) bytes at3 gates at4 → Refused (Words (amount_form4 turns levels depth gates)) bytes at4 e → Refused (Words (amount0)) bytes at e
amount_refused4 bytes at at1 at2 at3 at4 turns levels depth gates e r0 r1 r2 r3 r = (pair_second (amount_form0) (λ turns. amount1 turns) bytes at at1 turns e (unique_between 4 1 4294967295 (lit< tt)) r0 (pair_second (amount_form1 turns) (λ levels. amount2 turns levels) bytes at1 at2 levels e (unique_between 2 0 65535 (lit< tt)) r1 (pair_second (amount_form2 turns levels) (λ depth. amount3 turns levels depth) bytes at2 at3 depth e (unique_between 2 1 8187 (lit< tt)) r2 (pair_second (amount_form3 turns levels depth) (λ gates. amount4 turns levels depth gates) bytes at3 at4 gates e (unique_between 2 1 (most_gates depth) (few_gates depth)) r3 r))))

pub amount_read : (bytes : List ℕ) (at at1 at2 at3 at4 next : ℕ) (turns : ℕ) (levels : ℕ) (depth : ℕ) (gates : ℕ) (slots : ℕ) → Reads (amount_form0) bytes at turns at1 → Reads (amount_form1 turns) bytes at1 levels at2 → Reads (amount_form2 turns levels) bytes at2 depth at3 → Reads (amount_form3 turns levels depth) bytes at3 gates at4 → Reads (amount_form4 turns levels depth gates) bytes at4 slots next → Reads (amount0) bytes at (turns, (levels, (depth, (gates, slots)))) next
amount_read bytes at at1 at2 at3 at4 next turns levels depth gates slots r0 r1 r2 r3 r4 = (read_pair (amount_form0) (λ turns. amount1 turns) bytes at at1 next turns (levels, (depth, (gates, slots))) r0 (read_pair (amount_form1 turns) (λ levels. amount2 turns levels) bytes at1 at2 next levels (depth, (gates, slots)) r1 (read_pair (amount_form2 turns levels) (λ depth. amount3 turns levels depth) bytes at2 at3 next depth (gates, slots) r2 (read_pair (amount_form3 turns levels depth) (λ gates. amount4 turns levels depth gates) bytes at3 at4 next gates slots r3 r4))))

abbrev Tuple : Type 0
Tuple = ℕ × (ℕ × (ℕ × (ℕ × ℕ)))

abbrev numbers_at : Tuple → Numbers
numbers_at p = record { turns = p.0; levels = p.1.0; depth = p.1.1.0; gates = p.1.1.1.0; slots = p.1.1.1.1 }

abbrev tuple : Numbers → Tuple
tuple n = (n.turns, (n.levels, (n.depth, (n.gates, n.slots))))

numbers_to : (p : Tuple) (w : List ℕ) → amount0 p w → IsNumbers (numbers_at p) w
numbers_to p w t =
    let t1 = t.is_second in
    let t2 = t1.is_second in
    let t3 = t2.is_second in (
      record { turns = t.is_first.0; levels = t1.is_first.0.1; depth = t2.is_first.0; gates = t3.is_first.0; slots = t3.is_second.0.1 },
      t.joined ∙ ap (λ (a : List ℕ). a ++ t.second) t.is_first.1
          ∙ ap (λ (a : List ℕ). word p.0 ++ a) (t1.joined ∙ ap (λ (a : List ℕ). a ++ t1.second) t1.is_first.1)
          ∙ ap (λ (a : List ℕ). word p.0 ++ (half p.1.0 ++ a)) (t2.joined ∙ ap (λ (a : List ℕ). a ++ t2.second) t2.is_first.1)
          ∙ ap (λ (a : List ℕ). word p.0 ++ (half p.1.0 ++ (half p.1.1.0 ++ a))) (t3.joined ∙ ap (λ (a : List ℕ). a ++ t3.second) t3.is_first.1 ∙ ap (λ (a : List ℕ). half p.1.1.1.0 ++ a) t3.is_second.1),
    )

numbers_from : (n : Numbers) (w : List ℕ) → IsNumbers n w → amount0 (tuple n) w
numbers_from n w (r, e) =
    let t3 : amount3 n.turns n.levels n.depth (n.gates, n.slots) (half n.gates ++ half n.slots) = record { first = half n.gates; second = half n.slots; is_first = (r.gates, refl); is_second = ((omega arith, r.slots), refl); joined = refl } in
    let t2 : amount2 n.turns n.levels (n.depth, (n.gates, n.slots)) (half n.depth ++ (half n.gates ++ half n.slots)) = record { first = half n.depth; second = half n.gates ++ half n.slots; is_first = (r.depth, refl); is_second = t3; joined = refl } in
    let t1 : amount1 n.turns (n.levels, (n.depth, (n.gates, n.slots))) (half n.levels ++ (half n.depth ++ (half n.gates ++ half n.slots))) = record { first = half n.levels; second = half n.depth ++ (half n.gates ++ half n.slots); is_first = ((omega arith, r.levels), refl); is_second = t2; joined = refl } in
    record { first = word n.turns; second = half n.levels ++ (half n.depth ++ (half n.gates ++ half n.slots)); is_first = (r.turns, refl); is_second = t1; joined = e }

pub unique_numbers : Unique IsNumbers
unique_numbers = unique_as IsNumbers amount0 tuple numbers_at (λ n. refl) numbers_from amount_unique0

pub numbers_refused : (bytes : List ℕ) (at : ℕ) (e : DecodeError) → Refused (Words amount0) bytes at e → Refused (Words IsNumbers) bytes at e
numbers_refused bytes at e r = refused_as amount0 IsNumbers numbers_at tuple bytes at e numbers_to numbers_from r

pub some_numbers : (w : List ℕ) × Words IsNumbers w
some_numbers =
    let n : Numbers = record { turns = 1; levels = 0; depth = 1; gates = 1; slots = 0 } in
    (numbers_bytes n, (n, (record { turns = (lit≤ tt, lit≤ tt); levels = lit≤ tt; depth = (lit≤ tt, lit≤ tt); gates = (lit≤ tt, some_gate 1 (lit≤ tt)); slots = omega arith }, refl)))
