-- The tokens that were read, and one more.
use Rattle.std.proofs.Common.{◌≡◌, inl, inr, ℕ, zero, suc, ◌+◌, ◌-◌, ◌≤◌, ◌<◌, List, [], ◌∷◌, ◌++◌, length, take, drop, Result, Ok, Err, refl, sym, ap, ◌∙◌, subst, arith, zero-add, length-drop, length-take}
use Rattle.std.specs.Result.{OnOk}
use Rattle.std.proofs.lemmas.List.{take_rest}
use Rattle.ceu_lex.specs.Gaps.{gap}
use Rattle.ceu_lex.specs.Positions.{next_pos, pos_after, position_of, first_pos}
use Rattle.ceu_lex.specs.Lexemes.{lexeme}
use Rattle.ceu_lex.specs.Texts.{IsNext, ReadsTo, Reads, Breaks}
use Rattle.ceu_base.specs.declared.kinds.Pos.{Pos}
use Rattle.ceu_base.specs.declared.kinds.Rule.{Rule}
use Rattle.ceu_base.specs.declared.kinds.Rule.TheVariants.{L2}
use Rattle.ceu_lex.specs.declared.token.Token.{Token}
use Rattle.ceu_lex.specs.declared.token.TokenKind.{TokenKind}

suc_add : (m n : ℕ) → suc m + n ≡ suc (m + n)
suc_add m n = omega arith

take_nil : (n : ℕ) → (let none : List ℕ = [] in take n none ≡ none)
take_nil zero = refl
take_nil (suc n) = refl

take-add : (m n : ℕ) (xs : List ℕ) → take (m + n) xs ≡ take m xs ++ take n (drop m xs)
take-add zero n xs = ap (λ k. take k xs) (zero-add n)
take-add (suc m) n [] = ap (λ k. take k []) (suc_add m n) ∙ sym (take_nil n)
take-add (suc m) n (x ∷ xs) = ap (λ k. take k (x ∷ xs)) (suc_add m n) ∙ ap (λ (l : List ℕ). x ∷ l) (take-add m n xs)

pos_after-append : (p : Pos) (x y : List ℕ) → pos_after p (x ++ y) ≡ pos_after (pos_after p x) y
unfolding pos_after
pos_after-append p [] y = refl
pos_after-append p (b ∷ x) y = pos_after-append (next_pos p b) x y

pub position_more : (text : List ℕ) (a b : ℕ) (p q : Pos) → p ≡ position_of text a → a ≤ b → q ≡ pos_after p (take (b - a) (drop a text)) → q ≡ position_of text b
position_more text a b p q here le is =
    let e : a + (b - a) ≡ b = omega arith in
    is ∙ ap (λ (r : Pos). pos_after r (take (b - a) (drop a text))) here ∙ sym (pos_after-append first_pos (take a text) (take (b - a) (drop a text)))
    ∙ ap (pos_after first_pos) (sym (take-add a (b - a) text)) ∙ ap (λ (n : ℕ). position_of text n) e

pub reads_more : (text : List ℕ) (from : ℕ) (tokens : List Token) (at : ℕ) (t : Token) → ReadsTo text from tokens at → IsNext text at t → ReadsTo text from (tokens ++ t ∷ []) t.end
reads_more text from [] at t read next = (subst (λ n. IsNext text n t) (sym read) next, refl)
reads_more text from (u ∷ tokens) at t read next = (read.0, reads_more text u.end tokens at t read.1 next)

rest_gap : (text : List ℕ) (at : ℕ) (r : Result ℕ ℕ) → r ≡ gap at (take (length text - at) (drop at text)) → gap at (drop at text) ≡ r
rest_gap text at r is = ap (gap at) (sym (take_rest text at)) ∙ sym is

rest_lexeme : (text : List ℕ) (at : ℕ) (r : Result (TokenKind × ℕ) Rule) → r ≡ lexeme (take (length text - at) (drop at text)) → lexeme (drop at text) ≡ r
rest_lexeme text at r is = ap lexeme (sym (take_rest text at)) ∙ sym is

pub breaks_gap : (text : List ℕ) (tokens : List Token) (at opened : ℕ) (p q : Pos) → ReadsTo text 0 tokens at → p ≡ position_of text at → at ≤ opened
    → Err opened ≡ gap at (take (length text - at) (drop at text)) → q ≡ pos_after p (take (opened - at) (drop at text)) → Breaks text L2 q
breaks_gap text tokens at opened p q read here le gap_is place =
    (tokens, at, read, inl (opened, rest_gap text at (Err opened) gap_is, refl, position_more text at opened p q here le place))

pub breaks_token : (text : List ℕ) (tokens : List Token) (at begin : ℕ) (p q : Pos) (rule : Rule) → ReadsTo text 0 tokens at → p ≡ position_of text at → at ≤ begin
    → Ok begin ≡ gap at (take (length text - at) (drop at text)) → q ≡ pos_after p (take (begin - at) (drop at text)) → begin < length text
    → Err rule ≡ lexeme (take (length text - begin) (drop begin text)) → Breaks text rule q
breaks_token text tokens at begin p q rule read here le gap_is place within rule_is =
    (tokens, at, read, inr (begin, rest_gap text at (Ok begin) gap_is, within, rest_lexeme text begin (Err rule) rule_is, position_more text at begin p q here le place))

pub is_next : (text : List ℕ) (at begin n : ℕ) (p q : Pos) (kind : TokenKind) → p ≡ position_of text at → at ≤ begin
    → Ok begin ≡ gap at (take (length text - at) (drop at text)) → q ≡ pos_after p (take (begin - at) (drop at text))
    → Ok (kind, n) ≡ lexeme (take (length text - begin) (drop begin text)) → IsNext text at (record { pos = q; start = begin; end = begin + n; kind = kind })
is_next text at begin n p q kind here le gap_is place lexeme_is = record {
  begins = rest_gap text at (Ok begin) gap_is;
  longest = (n, rest_lexeme text begin (Ok (kind, n)) lexeme_is, refl);
  place = position_more text at begin p q here le place;
}

pub nothing_read : (text : List ℕ) (tokens : List Token) → tokens ≡ [] → ReadsTo text 0 tokens 0
nothing_read text tokens none = subst (λ (l : List Token). ReadsTo text 0 l 0) (sym none) refl

pub length_rest : (text : List ℕ) (at : ℕ) → at ≤ length text → at + length (take (length text - at) (drop at text)) ≡ length text
length_rest text at within = omega (arith, length-drop at text, length-take (length text - at) (drop at text))

pub length_piece : (text : List ℕ) (a b : ℕ) → length (take (b - a) (drop a text)) ≤ b - a
length_piece text a b = omega (arith, length-take (b - a) (drop a text))

pub at_ok : {T E P : Type 0} (r : Result T E) (x : T) → r ≡ Ok x → OnOk r P → P
at_ok {P = P} r x is holds = subst (λ s. OnOk s P) is holds

pub all_read : (text : List ℕ) (tokens : List Token) (at begin : ℕ) → ReadsTo text 0 tokens at → Ok begin ≡ gap at (take (length text - at) (drop at text)) → begin ≡ length text → Reads text tokens
all_read text tokens at begin read gap_is ended = (at, read, rest_gap text at (Ok begin) gap_is ∙ ap (λ (n : ℕ). Ok n) ended)
