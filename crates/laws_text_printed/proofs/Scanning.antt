-- A text is read from its front: blanks, and tokens each of which is the longest that begins there.
use Rattle.std.proofs.Common.{◌≡◌, refl, sym, ap, ◌∙◌, ℕ, ◌+◌, ◌-◌, true, false, List, [], ◌∷◌, ◌++◌, length, length-append, map, take, drop, Ok, arith}
use Rattle.std.specs.Prelude.{◌==◌, slice_index}
use Rattle.std.proofs.Math.Seq.{take-append_seam, drop-append_seam}
use Rattle.std.proofs.lemmas.List.{drop-drop}
use Rattle.std.proofs.lemmas.Bool.Decides.{nat_tests}
use Rattle.ceu_lex.specs.Bytes.{is_word_byte}
use Rattle.ceu_lex.specs.Gaps.{gap, gap_from}
use Rattle.ceu_lex.specs.Positions.{position_of}
use Rattle.ceu_lex.specs.Lexemes.{lexeme}
use Rattle.ceu_lex.specs.Texts.{ReadsTo, Reads}
use Rattle.ceu_lex.specs.declared.token.Token.{Token}
use Rattle.ceu_lex.specs.declared.token.TokenKind.{TokenKind}

-- the blanks that are printed
pub data IsBlank : ℕ → Type 0 where
  blank : IsBlank 32
  newline : IsBlank 10

-- No gap begins with these bytes.
abbrev pub NoGap : List ℕ → Type 0
NoGap text = (at : ℕ) → gap at text ≡ Ok at

-- A text is blanks and tokens, and `view` makes these of the tokens and their bytes.
pub data Scans {K : Type 0} (view : TokenKind → List ℕ → K) : List ℕ → List K → Type 0 where
  at_end : Scans view [] []
  past_blank : {rest : List ℕ} {ks : List K} {b : ℕ} → IsBlank b → Scans view rest ks → Scans view (b ∷ rest) ks
  past_token : {rest : List ℕ} {ks : List K} (kind : TokenKind) (bytes : List ℕ) → NoGap (bytes ++ rest) → lexeme (bytes ++ rest) ≡ Ok (kind, length bytes)
      → Scans view rest ks → Scans view (bytes ++ rest) (view kind bytes ∷ ks)

-- ---- gaps

after_space : (at : ℕ) (rest : List ℕ) → gap at (32 ∷ rest) ≡ gap (at + 1) rest
unfolding gap gap_from
after_space at [] = refl
after_space at (b ∷ rest) = refl

after_newline : (at : ℕ) (rest : List ℕ) → gap at (10 ∷ rest) ≡ gap (at + 1) rest
unfolding gap gap_from
after_newline at [] = refl
after_newline at (b ∷ rest) = refl

gap_blank : {b : ℕ} (at : ℕ) (rest : List ℕ) → IsBlank b → gap at (b ∷ rest) ≡ gap (at + 1) rest
gap_blank at rest blank = after_space at rest
gap_blank at rest newline = after_newline at rest

gap_end : (at : ℕ) → gap at [] ≡ Ok at
unfolding gap gap_from
gap_end at = refl

no_gap : (b : ℕ) (rest : List ℕ) → (b == 32) ≡ false → (b == 9) ≡ false → (b == 13) ≡ false → (b == 10) ≡ false → (b == 47) ≡ false → NoGap (b ∷ rest)
unfolding gap gap_from
no_gap b rest e f g h i at = simp (e, f, g, h, i)

pub word_no_gap : (w rest : List ℕ) → is_word_byte (slice_index w 0) ≡ true → NoGap (w ++ rest)
word_no_gap [] rest is = absurd (cc)
word_no_gap (b ∷ w) rest is = no_gap b (w ++ rest) (grind (arith, nat_tests)) (grind (arith, nat_tests)) (grind (arith, nat_tests)) (grind (arith, nat_tests)) (grind (arith, nat_tests))

pub slash_no_gap : (b : ℕ) (rest : List ℕ) → (b == 47) ≡ false → (b == 42) ≡ false → NoGap (47 ∷ b ∷ rest)
unfolding gap gap_from
slash_no_gap b rest e f at = simp (e, f)

-- ---- the tokens of a text

module _ {K : Type 0} (view : TokenKind → List ℕ → K) (whole : List ℕ) where
  abbrev seen : Token → K
  seen token = view token.kind (take (token.end - token.start) (drop token.start whole))

  -- from one place on the text has tokens that are seen as these
  record Rest (from : ℕ) (ks : List K) : Type 0 where
    tokens : List Token
    to : ℕ
    reads : ReadsTo whole from tokens to
    ended : gap to (drop to whole) ≡ Ok (length whole)
    are : map seen tokens ≡ ks

  rest_of : (text : List ℕ) (ks : List K) → Scans view text ks → (from at : ℕ) → drop at whole ≡ text → at + length text ≡ length whole → gap from (drop from whole) ≡ gap at text → Rest from ks
  rest_of _ _ at_end from at here size same = record {
    tokens = [];
    to = from;
    reads = refl;
    ended = same ∙ gap_end at ∙ ap (λ (n : ℕ). Ok n) (let e : at ≡ length whole = omega arith in e);
    are = refl;
  }
  rest_of _ _ (past_blank {rest} is more) from at here size same =
      rest_of _ _ more from (at + 1) (sym (drop-drop 1 at whole) ∙ ap (drop 1) here) (omega arith) (same ∙ gap_blank at rest is)
  rest_of _ _ (past_token {rest} kind bytes none is more) from at here size same =
      let n = length bytes in
      let token : Token = record { pos = position_of whole at; start = at; end = at + n; kind = kind } in
      let after : drop (at + n) whole ≡ rest = sym (drop-drop n at whole) ∙ ap (drop n) here ∙ drop-append_seam bytes rest in
      let taken : take (at + n - at) (drop at whole) ≡ bytes = (let m : at + n - at ≡ n = omega arith in λ i. take (m i) (here i)) ∙ take-append_seam bytes rest in
      let tail = rest_of _ _ more (at + n) (at + n) after (omega (arith, length-append bytes rest)) (ap (gap (at + n)) after) in
      record {
        tokens = token ∷ tail.tokens;
        to = tail.to;
        reads = (
          record {
            begins = same ∙ none at;
            longest = (n, ap lexeme here ∙ is, refl);
            place = refl;
          },
          tail.reads,
        );
        ended = tail.ended;
        are = λ i. view kind (taken i) ∷ tail.are i;
      }

-- the tokens of a text that is scanned
pub scanned : {K : Type 0} (view : TokenKind → List ℕ → K) (text : List ℕ) (ks : List K) → Scans view text ks
    → (tokens : List Token) × Reads text tokens × (map (λ t. view t.kind (take (t.end - t.start) (drop t.start text))) tokens ≡ ks)
scanned view text ks s = let r = rest_of view text text ks s 0 0 refl (omega arith) refl in (r.tokens, (r.to, r.reads, r.ended), r.are)
