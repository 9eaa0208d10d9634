-- What a line says. The form of a script is this project's own.
use Rattle.std.specs.Prelude.{ℕ, suc, ◌-◌, Bool, ◌||◌, ◌==◌, nat_eq, not, List, [], ◌∷◌, length, take, drop, reverse, take_while, if◌then◌else◌}
use Rattle.std.specs.List.{starts_with}

-- a blank or a tab
abbrev pub is_blank : ℕ → Bool
is_blank b = b == 32 || b == 9

abbrev pub leading_blanks : List ℕ → ℕ
leading_blanks text = length (take_while (λ b. is_blank b) text)

abbrev pub trailing_blanks : List ℕ → ℕ
trailing_blanks text = leading_blanks (reverse text)

-- where `//` begins, or the text's length
abbrev pub comment_at : List ℕ → ℕ
comment_at [] = 0
comment_at (b ∷ rest) = if starts_with nat_eq (b ∷ rest) (47 ∷ 47 ∷ []) then 0 else suc (comment_at rest)

abbrev pub skip_blanks : List ℕ → List ℕ
skip_blanks text = drop (leading_blanks text) text

abbrev pub trimmed : List ℕ → List ℕ
trimmed text = let front = skip_blanks text in take (length front - trailing_blanks front) front

-- without its comment, and without blanks at both ends
unfoldable pub content_of : List ℕ → List ℕ
content_of text = trimmed (take (comment_at text) text)

-- the first word of a text, and what follows it
abbrev pub word_len : List ℕ → ℕ
word_len text = length (take_while (λ b. not (is_blank b)) text)

abbrev pub first_word : List ℕ → List ℕ
first_word text = take (word_len (skip_blanks text)) (skip_blanks text)

abbrev pub after_word : List ℕ → List ℕ
after_word text = drop (word_len (skip_blanks text)) (skip_blanks text)
