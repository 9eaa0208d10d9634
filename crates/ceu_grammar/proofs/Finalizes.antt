-- Which token is the word `finalize`, and what the limits ask of a number.
use Rattle.std.proofs.Common.{◌≡◌, refl, sym, ap, ◌∙◌, ℕ, zero, suc, ◌+◌, ◌-◌, ◌<◌, ◌≤◌, Bool, true, false, List, [], ◌∷◌, length, take, drop, arith, add-one, length-drop}
use Rattle.std.proofs.Math.Seq.{take-length}
use Rattle.ceu_lex.specs.declared.token.Sym.{Sym}
use Rattle.ceu_lex.specs.declared.token.Sym.TheVariants.{Arrow}
use Rattle.ceu_lex.specs.declared.token.Token.{Token}
use Rattle.ceu_lex.specs.declared.token.TokenKind.{TokenKind}
use Rattle.ceu_lex.specs.declared.token.TokenKind.TheVariants as lexed
use Rattle.ceu_lex.specs.declared.token.Word.{Word}
use Rattle.ceu_lex.specs.declared.token.Word.TheVariants.{Finalize}
use Rattle.ceu_syntax.specs.Limits.{goes_on_finalize, is_finalize}
use Rattle.ceu_syntax.specs.Terminals.{kind_of, of_symbol, of_word, terminals}

pub other_word : (word : Word) → (word ≡ Finalize → ⊥) → false ≡ is_finalize (of_word word)
other_word Finalize n = absurd (n refl)
other_word _ n = refl

symbol : (s : Sym) → false ≡ is_finalize (of_symbol s)
symbol Arrow = refl
symbol _ = refl

pub other_token : (kind : TokenKind) (name : List ℕ) → ((word : Word) → kind ≡ lexed.Reserved word → ⊥) → false ≡ is_finalize (kind_of kind name)
other_token (lexed.Reserved word) name n = absurd (n word refl)
other_token (lexed.Symbol s) name n = symbol s
other_token _ name n = refl

pub drop-terminals : (text : List ℕ) (tokens : List Token) (k : ℕ) → terminals text (drop k tokens) ≡ drop k (terminals text tokens)
drop-terminals text tokens zero = refl
drop-terminals text [] (suc k) = refl
drop-terminals text (t ∷ tokens) (suc k) = drop-terminals text tokens k

pub at_most : (n m : ℕ) → n ≡ m → (256 < m → ⊥) → n ≤ 256
at_most n m same over = grind (arith, same, over)

take_rest : (tokens : List Token) (i : ℕ) → take (length tokens - i) (drop i tokens) ≡ drop i tokens
take_rest tokens i = ap (λ n. take n (drop i tokens)) (sym (length-drop i tokens)) ∙ take-length (drop i tokens)

-- whether the word `finalize` follows token k
pub follows : (text : List ℕ) (tokens : List Token) (k : ℕ) (b : Bool) → ((text : List ℕ) → b ≡ goes_on_finalize (terminals text (take (length tokens - (k + 1)) (drop (k + 1) tokens)))) → b ≡ goes_on_finalize (drop (suc k) (terminals text tokens))
follows text tokens k b h =
    h text ∙ ap (λ us. goes_on_finalize (terminals text us)) (take_rest tokens (k + 1)) ∙ ap (λ i. goes_on_finalize (terminals text (drop i tokens))) (add-one k) ∙ ap (λ us. goes_on_finalize us) (drop-terminals text tokens (suc k))

pub other_truth : {b : Bool} → b ≡ true → b ≡ false → ⊥
other_truth h n = cc
