-- An image, and what is said of bytes that are refused.
use Rattle.std.proofs.Common.{◌≡◌, ℕ, ◌+◌, ◌-◌, ◌≤◌, ◌<◌, ◌⊎◌, List, [], ◌∷◌, ◌++◌, length, take, drop, suc, length-take-le, refl, sym, ap, ◌∙◌, subst, arith, lit<, lit≤, append_assoc, length-append}
use Rattle.ceu_code.specs.declared.decoding.DecodeError.{DecodeError}
use Rattle.ceu_code.specs.Reading.{Reads, Words, Unique, Refused, IsBetween}
use Rattle.ceu_code.proofs.Reading.{Pair, pair_if, pair_second, read_pair, some_pair, unique_pair, refused_as, reads_as, unique_as}
use Rattle.ceu_code.proofs.Numbers.{unique_between}
use Rattle.ceu_code.proofs.Parsed.{some_between}
use Rattle.std.proofs.lemmas.List.{append-nil}
use Rattle.std.proofs.Math.Seq.{take-append_seam, take-append-add, drop-length}
use Rattle.ceu_code.specs.declared.image.Image.{Image}
use Rattle.ceu_code.specs.declared.decoder.Numbers.{Numbers}
use Rattle.ceu_code.specs.declared.decoder.Lists.{Lists}
use Rattle.ceu_code.specs.declared.decoding.DecodeError.TheVariants.{Bad, Memory}
use Rattle.ceu_code.specs.Spelling.{half, version, HasSpelling, spelling, Spells, BeginsImage, numbers, lists}
use Rattle.ceu_code.specs.Reading.{Word, IsCodeOf}
use Rattle.ceu_code.specs.Decoding.{IsHead, IsNumbers, IsLists, IsImage, AreInRange, IsCause, image_of}
use Rattle.ceu_code.proofs.Codes.{some_code, unique_own, apart_code}
use Rattle.ceu_code.proofs.Heads.{unique_head}
use Rattle.ceu_code.proofs.Amounts.{unique_numbers, some_numbers, gate_fits, fits_gate}
use Rattle.ceu_code.proofs.Listed.{unique_lists, some_lists, some_pools}

pub one_or_two : (v : ℕ) → 1 ≤ v → v ≤ 2 → (v ≡ 1) ⊎ (v ≡ 2)
one_or_two v low high = grind arith

unique_code : (n : ℕ) → Unique (Word (IsCodeOf n))
unique_code n = unique_own (IsCodeOf n) (apart_code n)

abbrev pub image_form0 : ℕ → List ℕ → Type 0
image_form0 = IsHead

abbrev pub image_form1 : (v : ℕ) → Numbers → List ℕ → Type 0
image_form1 v = IsNumbers

abbrev pub image_form2 : (v : ℕ) (n : Numbers) → Lists → List ℕ → Type 0
image_form2 v n = IsLists v

abbrev pub image_form3 : (v : ℕ) (n : Numbers) (l : Lists) → ℕ → List ℕ → Type 0
image_form3 v n l = IsBetween 2 0 65535

abbrev pub image_form4 : (v : ℕ) (n : Numbers) (l : Lists) (c : ℕ) → List ℕ → List ℕ → Type 0
image_form4 v n l c = Word (IsCodeOf c)

abbrev pub image4 : (v : ℕ) (n : Numbers) (l : Lists) (c : ℕ) → List ℕ → List ℕ → Type 0
image4 v n l c = image_form4 v n l c

abbrev pub image3 : (v : ℕ) (n : Numbers) (l : Lists) → ℕ × (List ℕ) → List ℕ → Type 0
image3 v n l = Pair (image_form3 v n l) (λ c. image4 v n l c)

abbrev pub image2 : (v : ℕ) (n : Numbers) → Lists × (ℕ × (List ℕ)) → List ℕ → Type 0
image2 v n = Pair (image_form2 v n) (λ l. image3 v n l)

abbrev pub image1 : (v : ℕ) → Numbers × (Lists × (ℕ × (List ℕ))) → List ℕ → Type 0
image1 v = Pair (image_form1 v) (λ n. image2 v n)

abbrev pub image0 : ℕ × (Numbers × (Lists × (ℕ × (List ℕ)))) → List ℕ → Type 0
image0 = Pair (image_form0) (λ v. image1 v)

pub image_unique4 : (v : ℕ) (n : Numbers) (l : Lists) (c : ℕ) → Unique (image4 v n l c)
image_unique4 v n l c = unique_code c

pub image_unique3 : (v : ℕ) (n : Numbers) (l : Lists) → Unique (image3 v n l)
image_unique3 v n l = unique_pair (image_form3 v n l) (λ c. image4 v n l c) (unique_between 2 0 65535 (lit< tt)) (λ c. image_unique4 v n l c)

pub image_unique2 : (v : ℕ) (n : Numbers) → Unique (image2 v n)
image_unique2 v n = unique_pair (image_form2 v n) (λ l. image3 v n l) (unique_lists v) (λ l. image_unique3 v n l)

pub image_unique1 : (v : ℕ) → Unique (image1 v)
image_unique1 v = unique_pair (image_form1 v) (λ n. image2 v n) (unique_numbers) (λ n. image_unique2 v n)

pub image_unique0 : Unique (image0)
image_unique0 = unique_pair (image_form0) (λ v. image1 v) (unique_head) (λ v. image_unique1 v)

image_some4 : (v : ℕ) (w_v : List ℕ) (f_v : image_form0 v w_v) (n : Numbers) (w_n : List ℕ) (f_n : image_form1 v n w_n) (l : Lists) (w_l : List ℕ) (f_l : image_form2 v n l w_l) (c : ℕ) (w_c : List ℕ) (f_c : image_form3 v n l c w_c) → (w : List ℕ) × Words (image4 v n l c) w
image_some4 v w_v f_v n w_n f_n l w_l f_l c w_c f_c = some_code c

image_some3 : (v : ℕ) (w_v : List ℕ) (f_v : image_form0 v w_v) (n : Numbers) (w_n : List ℕ) (f_n : image_form1 v n w_n) (l : Lists) (w_l : List ℕ) (f_l : image_form2 v n l w_l) → (w : List ℕ) × Words (image3 v n l) w
image_some3 v w_v f_v n w_n f_n l w_l f_l = let s : (w : List ℕ) × Words (image_form3 v n l) w = some_between 2 0 65535 (lit≤ tt) in some_pair (image_form3 v n l) (λ c. image4 v n l c) s.1.0 s.0 s.1.1 (image_some4 v w_v f_v n w_n f_n l w_l f_l s.1.0 s.0 s.1.1)

image_some2 : (v : ℕ) (w_v : List ℕ) (f_v : image_form0 v w_v) (n : Numbers) (w_n : List ℕ) (f_n : image_form1 v n w_n) → (w : List ℕ) × Words (image2 v n) w
image_some2 v w_v f_v n w_n f_n = let s : (w : List ℕ) × Words (image_form2 v n) w = some_lists v (some_pools v (one_or_two v f_v.0.0 f_v.0.1)) in some_pair (image_form2 v n) (λ l. image3 v n l) s.1.0 s.0 s.1.1 (image_some3 v w_v f_v n w_n f_n s.1.0 s.0 s.1.1)

image_some1 : (v : ℕ) (w_v : List ℕ) (f_v : image_form0 v w_v) → (w : List ℕ) × Words (image1 v) w
image_some1 v w_v f_v = let s : (w : List ℕ) × Words (image_form1 v) w = some_numbers in some_pair (image_form1 v) (λ n. image2 v n) s.1.0 s.0 s.1.1 (image_some2 v w_v f_v s.1.0 s.0 s.1.1)

pub image_refused0 : (bytes : List ℕ) (at : ℕ) (e : DecodeError) → Refused (Words (image_form0)) bytes at e → Refused (Words (image0)) bytes at e
image_refused0 bytes at e r = (pair_if (image_form0) (λ v. image1 v) bytes at e (λ v w f. image_some1 v w f) r)

pub image_refused1 : (bytes : List ℕ) (at at1 : ℕ) (v : ℕ) (e : DecodeError) → Reads (image_form0) bytes at v at1 → Refused (Words (image_form1 v)) bytes at1 e → Refused (Words (image0)) bytes at e
image_refused1 bytes at at1 v e r0 r = (pair_second (image_form0) (λ v. image1 v) bytes at at1 v e (unique_head) r0 (pair_if (image_form1 v) (λ n. image2 v n) bytes at1 e (λ n w f. image_some2 v r0.word r0.form n w f) r))

pub image_refused2 : (bytes : List ℕ) (at at1 at2 : ℕ) (v : ℕ) (n : Numbers) (e : DecodeError) → Reads (image_form0) bytes at v at1 → Reads (image_form1 v) bytes at1 n at2 → Refused (Words (image_form2 v n)) bytes at2 e → Refused (Words (image0)) bytes at e
image_refused2 bytes at at1 at2 v n e r0 r1 r = (pair_second (image_form0) (λ v. image1 v) bytes at at1 v e (unique_head) r0 (pair_second (image_form1 v) (λ n. image2 v n) bytes at1 at2 n e (unique_numbers) r1 (pair_if (image_form2 v n) (λ l. image3 v n l) bytes at2 e (λ l w f. image_some3 v r0.word r0.form n r1.word r1.form l w f) r)))

pub image_refused3 : (bytes : List ℕ) (at at1 at2 at3 : ℕ) (v : ℕ) (n : Numbers) (l : Lists) (e : DecodeError) → Reads (image_form0) bytes at v at1 → Reads (image_form1 v) bytes at1 n at2 → Reads (image_form2 v n) bytes at2 l at3 → Refused (Words (image_form3 v n l)) bytes at3 e → Refused (Words (image0)) bytes at e
image_refused3 bytes at at1 at2 at3 v n l e r0 r1 r2 r = (pair_second (image_form0) (λ v. image1 v) bytes at at1 v e (unique_head) r0 (pair_second (image_form1 v) (λ n. image2 v n) bytes at1 at2 n e (unique_numbers) r1 (pair_second (image_form2 v n) (λ l. image3 v n l) bytes at2 at3 l e (unique_lists v) r2 (pair_if (image_form3 v n l) (λ c. image4 v n l c) bytes at3 e (λ c w f. image_some4 v r0.word r0.form n r1.word r1.form l r2.word r2.form c w f) r))))

pub image_refused4 : (bytes : List ℕ) (at at1 at2 at3 at4 : ℕ) (v : ℕ) (n : Numbers) (l : Lists) (c : ℕ) (e : DecodeError) → Reads (image_form0) bytes at v at1 → Reads (image_form1 v) bytes at1 n at2 → Reads (image_form2 v n) bytes at2 l at3 → Reads (image_form3 v n l) bytes at3 c at4 → Refused (Words (image_form4 v n l c)) bytes at4 e → Refused (Words (image0)) bytes at e
image_refused4 bytes at at1 at2 at3 at4 v n l c e r0 r1 r2 r3 r = (pair_second (image_form0) (λ v. image1 v) bytes at at1 v e (unique_head) r0 (pair_second (image_form1 v) (λ n. image2 v n) bytes at1 at2 n e (unique_numbers) r1 (pair_second (image_form2 v n) (λ l. image3 v n l) bytes at2 at3 l e (unique_lists v) r2 (pair_second (image_form3 v n l) (λ c. image4 v n l c) bytes at3 at4 c e (unique_between 2 0 65535 (lit< tt)) r3 r))))

pub image_read : (bytes : List ℕ) (at at1 at2 at3 at4 next : ℕ) (v : ℕ) (n : Numbers) (l : Lists) (c : ℕ) (code : List ℕ) → Reads (image_form0) bytes at v at1 → Reads (image_form1 v) bytes at1 n at2 → Reads (image_form2 v n) bytes at2 l at3 → Reads (image_form3 v n l) bytes at3 c at4 → Reads (image_form4 v n l c) bytes at4 code next → Reads (image0) bytes at (v, (n, (l, (c, code)))) next
image_read bytes at at1 at2 at3 at4 next v n l c code r0 r1 r2 r3 r4 = (read_pair (image_form0) (λ v. image1 v) bytes at at1 next v (n, (l, (c, code))) r0 (read_pair (image_form1 v) (λ n. image2 v n) bytes at1 at2 next n (l, (c, code)) r1 (read_pair (image_form2 v n) (λ l. image3 v n l) bytes at2 at3 next l (c, code) r2 (read_pair (image_form3 v n l) (λ c. image4 v n l c) bytes at3 at4 next c code r3 r4))))

abbrev Tuple : Type 0
Tuple = ℕ × (Numbers × (Lists × (ℕ × List ℕ)))

abbrev image_at : Tuple → Image
image_at p = image_of p.1.0 p.1.1.0 p.1.1.1.1

abbrev numbers_of : Image → Numbers
numbers_of i = record { turns = i.turns; levels = i.levels; depth = i.depth; gates = i.gates; slots = i.slots }

abbrev lists_of : Image → Lists
lists_of i = record { inputs = i.inputs; outputs = i.outputs; codes = i.codes; pools = i.pools; places = i.places }

abbrev tuple : Image → Tuple
tuple i = (version i.pools, (numbers_of i, (lists_of i, (length i.code, i.code))))

has_to : (n : Numbers) (l : Lists) (v : ℕ) (b : List ℕ) (count : ℕ) (code : List ℕ) → AreInRange n → IsLists v l b → count ≤ 65535 → IsCodeOf count code → HasSpelling (image_of n l code)
has_to n l v b count code r f small c = record {
  turns = (r.turns.0, let h = r.turns.1 in omega arith);
  levels = let h = r.levels in omega arith;
  depth = r.depth.0;
  gates = (r.gates.0, let h = r.gates.1 in omega arith);
  memory = let h = gate_fits n.depth n.gates r.gates.1 in let k = r.slots in let d = r.depth.1 in omega arith;
  inputs = (let h = f.inputs.0 in omega arith, f.inputs.1);
  outputs = (let h = f.outputs.0 in omega arith, f.outputs.1);
  codes = (let h = f.codes.0 in omega arith, f.codes.1);
  pools = (let h = f.pools.0 in omega arith, f.pools.1);
  places = (let h = f.places.0 in omega arith, f.places.1);
  code = (let h = c.1 in omega arith, c.0);
}

numbers_in : (i : Image) → HasSpelling i → AreInRange (numbers_of i)
numbers_in i h = record {
  turns = (h.turns.0, let k = h.turns.1 in omega arith);
  levels = let k = h.levels in omega arith;
  depth = (h.depth, let k = h.memory in let g = h.gates.0 in omega arith);
  gates = (h.gates.0, fits_gate i.depth i.gates h.gates.1 (let k = h.memory in omega arith));
  slots = let k = h.memory in omega arith;
}

lists_in : (i : Image) → HasSpelling i → IsLists (version i.pools) (lists_of i) (lists i)
lists_in i h = record {
  inputs = (let k = h.inputs.0 in omega arith, h.inputs.1);
  outputs = (let k = h.outputs.0 in omega arith, h.outputs.1);
  codes = (let k = h.codes.0 in omega arith, h.codes.1);
  version_is = refl;
  pools = (let k = h.pools.0 in omega arith, h.pools.1);
  places = (let k = h.places.0 in omega arith, h.places.1);
  spelled = refl;
}

version_small : (ps : List ℕ) → (1 ≤ version ps) × (version ps ≤ 2)
version_small [] = (lit≤ tt, lit≤ tt)
version_small (p ∷ ps) = (lit≤ tt, lit≤ tt)

image_to : (p : Tuple) (w : List ℕ) → image0 p w → IsImage (image_at p) w
image_to p w t =
    let t1 = t.is_second in
    let t2 = t1.is_second in
    let t3 = t2.is_second in
    let image = image_at p in
    let v : version p.1.1.0.pools ≡ p.0 = t2.is_first.version_is in
    let count : p.1.1.1.0 ≡ length p.1.1.1.1 = sym t3.is_second.0.1 ∙ ap length t3.is_second.1 in
    let code : IsCodeOf p.1.1.1.0 p.1.1.1.1 = subst (IsCodeOf p.1.1.1.0) t3.is_second.1 t3.is_second.0 in (
      has_to p.1.0 p.1.1.0 p.0 t2.first p.1.1.1.0 p.1.1.1.1 t1.is_first.0 t2.is_first t3.is_first.0.1 code,
      t.joined ∙ ap (λ (a : List ℕ). a ++ t.second) (t.is_first.1 ∙ ap (λ (n : ℕ). 67 ∷ 69 ∷ 85 ∷ n ∷ []) (sym v))
          ∙ ap (λ (a : List ℕ). (67 ∷ 69 ∷ 85 ∷ version image.pools ∷ []) ++ a)
          (t1.joined ∙ ap (λ (a : List ℕ). a ++ t1.second) t1.is_first.1
          ∙ ap (λ (a : List ℕ). numbers image ++ a)
          (t2.joined ∙ ap (λ (a : List ℕ). a ++ t2.second) t2.is_first.spelled
          ∙ ap (λ (a : List ℕ). lists image ++ a)
          (t3.joined ∙ ap (λ (a : List ℕ). a ++ t3.second) (t3.is_first.1 ∙ ap half count) ∙ ap (λ (a : List ℕ). half (length p.1.1.1.1) ++ a) t3.is_second.1))),
    )

image_from : (i : Image) (w : List ℕ) → IsImage i w → image0 (tuple i) w
image_from i w (h, e) =
    let b3 : List ℕ = half (length i.code) ++ i.code in
    let b2 : List ℕ = lists i ++ b3 in
    let b1 : List ℕ = numbers i ++ b2 in
    let v : ℕ = version i.pools in
    let t3 : image3 v (numbers_of i) (lists_of i) (length i.code, i.code) b3 = record { first = half (length i.code); second = i.code; is_first = ((omega arith, let k = h.code.0 in omega arith), refl); is_second = ((h.code.1, refl), refl); joined = refl } in
    let t2 : image2 v (numbers_of i) (lists_of i, (length i.code, i.code)) b2 = record { first = lists i; second = b3; is_first = lists_in i h; is_second = t3; joined = refl } in
    let t1 : image1 v (numbers_of i, (lists_of i, (length i.code, i.code))) b1 = record { first = numbers i; second = b2; is_first = (numbers_in i h, refl); is_second = t2; joined = refl } in
    record { first = 67 ∷ 69 ∷ 85 ∷ v ∷ []; second = b1; is_first = (version_small i.pools, refl); is_second = t1; joined = e }

pub unique_image : Unique IsImage
unique_image = unique_as IsImage image0 tuple image_at (λ i. refl) image_from image_unique0

pub image_refused : (bytes : List ℕ) (e : DecodeError) → Refused (Words image0) bytes 0 e → Refused (Words IsImage) bytes 0 e
image_refused bytes e r = refused_as image0 IsImage image_at tuple bytes 0 e image_to image_from r

pub image_as : (bytes : List ℕ) (next : ℕ) (p : Tuple) → Reads image0 bytes 0 p next → Reads IsImage bytes 0 (image_at p) next
image_as bytes next p r = reads_as image0 IsImage bytes 0 next p (image_at p) (image_to p) r

-- ---- the whole bytes

take_more : (front bytes : List ℕ) (n : ℕ) → length front ≤ n → (rest : List ℕ) → bytes ≡ front ++ rest → take n bytes ≡ front ++ take (n - length front) rest
take_more front bytes n h rest e = ap (λ (m : ℕ). take m bytes) (let k : n ≡ length front + (n - length front) = omega arith in k) ∙ ap (take (length front + (n - length front))) e ∙ take-append-add front rest (n - length front)

pub whole_is : (bytes : List ℕ) (next : ℕ) (i : Image) → length bytes ≤ next → Reads IsImage bytes 0 i next → Spells i bytes
whole_is bytes next i h r =
    let end : next ≡ length bytes = let k = r.within in omega arith in
    let none : drop next bytes ≡ [] = ap (λ (n : ℕ). drop n bytes) end ∙ drop-length bytes in
    (r.form.0, r.split ∙ ap (λ (l : List ℕ). r.word ++ l) none ∙ append-nil r.word ∙ r.form.1)

pub more_is_none : (bytes : List ℕ) (next : ℕ) (i : Image) → next < length bytes → Reads IsImage bytes 0 i next → IsCause bytes (Bad next)
more_is_none bytes next i less r = (record { within = omega arith; begins = begins; longest = longest }, none)
  where
    long : length r.word ≡ next
    long = let a = r.ahead in omega arith

    begins : BeginsImage (take next bytes)
    begins =
        let front : take next bytes ≡ r.word = ap (λ (n : ℕ). take n bytes) (sym long) ∙ ap (take (length r.word)) r.split ∙ take-append_seam r.word (drop next bytes) in
        (i, [], (r.form.0, append-nil (take next bytes) ∙ front ∙ r.form.1))

    longest : (n : ℕ) → next < n → n ≤ length bytes → BeginsImage (take n bytes) → ⊥
    longest n more fits (j, tail, p) =
        let h = p.0 in
        let e = p.1 in
        let front : take n bytes ≡ r.word ++ take (n - length r.word) (drop next bytes) = take_more r.word bytes n (omega arith) (drop next bytes) r.split in
        let piece : List ℕ = take (n - length r.word) (drop next bytes) in
        let both : r.word ++ (piece ++ tail) ≡ spelling j ++ [] = sym (append_assoc r.word piece tail) ∙ ap (λ (l : List ℕ). l ++ tail) (sym front) ∙ e ∙ sym (append-nil (spelling j)) in
        let same = unique_image i j r.word (spelling j) (piece ++ tail) [] r.form (h, refl) both in
        let whole : length (take n bytes ++ tail) ≡ length r.word = ap length e ∙ ap length (sym same.1) in
        let taken : length (take n bytes) ≡ n = length-take-le n bytes fits in
        let sum = length-append (take n bytes) tail in
        absurd (omega arith)

    none : (j : Image) → Spells j bytes → ⊥
    none j s =
        let both : r.word ++ drop next bytes ≡ spelling j ++ [] = sym r.split ∙ s.1 ∙ sym (append-nil (spelling j)) in
        let same = unique_image i j r.word (spelling j) (drop next bytes) [] r.form (s.0, refl) both in
        let whole : length bytes ≡ length r.word = ap length s.1 ∙ ap length (sym same.1) in
        absurd (omega arith)

pub cause_of : (bytes : List ℕ) (e : DecodeError) → Refused (Words IsImage) bytes 0 e → IsCause bytes e
cause_of bytes Memory r = tt
cause_of bytes (Bad k) s = (record { within = s.within; begins = begins; longest = longest }, none)
  where
    long : length s.front ≡ k
    long = let a = s.ahead in omega arith

    begins : BeginsImage (take k bytes)
    begins =
        let front : take k bytes ≡ s.front = ap (λ (n : ℕ). take n bytes) (sym long) ∙ ap (take (length s.front)) s.split ∙ take-append_seam s.front (drop k bytes) in
        let f = s.begins.1 in
        (f.0, s.begins.0, (f.1.0, ap (λ (l : List ℕ). l ++ s.begins.0) front ∙ f.1.1))

    beyond : (n : ℕ) (rest : List ℕ) → drop k bytes ≡ rest → 0 < length rest → k < n → (j : Image) (tail : List ℕ) → HasSpelling j → (s.front ++ take (n - length s.front) rest) ++ tail ≡ spelling j → ⊥
    beyond n [] e p more j tail h w = absurd (omega arith)
    beyond n (b ∷ rest) e p more j tail h w =
        let m : ℕ = n - length s.front - 1 in
        let first : take (n - length s.front) (b ∷ rest) ≡ b ∷ take m rest = ap (λ (c : ℕ). take c (b ∷ rest)) (let q : n - length s.front ≡ suc m = omega arith in q) in
        s.longest b rest (take m rest ++ tail) e (j, (h, sym (append_assoc s.front (b ∷ take m rest) tail) ∙ ap (λ (l : List ℕ). (s.front ++ l) ++ tail) (sym first) ∙ w))

    longest : (n : ℕ) → k < n → n ≤ length bytes → BeginsImage (take n bytes) → ⊥
    longest n more fits (j, tail, p) =
        let h = p.0 in
        let e = p.1 in
        let front : take n bytes ≡ s.front ++ take (n - length s.front) (drop k bytes) = take_more s.front bytes n (omega arith) (drop k bytes) s.split in
        let sum : length bytes ≡ length s.front + length (drop k bytes) = ap length s.split ∙ length-append s.front (drop k bytes) in
        beyond n (drop k bytes) refl (omega arith) more j tail h (ap (λ (l : List ℕ). l ++ tail) (sym front) ∙ e)

    none : (j : Image) → Spells j bytes → ⊥
    none j p = s.never bytes [] (j, (p.0, p.1)) (sym (append-nil bytes))
