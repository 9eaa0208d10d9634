-- The lines of a script, one by one from its front.
use Rattle.std.proofs.Common.{◌≡◌, ℕ, ◌<◌, Bool, true, false, cond, List, [], ◌∷◌, length, Option, Some, None, refl, sym, ap, ◌∙◌, subst, arith}
use Rattle.std.specs.Prelude.{nat_eq, nat_lt}
use Rattle.ceu_script.specs.Bytewise.{Front, front_of, Leading, line, nothing, too_long, over_budget, first_line, of_front, of_length}
use Rattle.ceu_script.specs.Content.{content_of}
use Rattle.ceu_script.specs.Lines.{Line, skipped, content, bad, Split, split, with_byte, without_return, of_content, line_of, last_lines, lines_of, until_bad, script_lines}
use Rattle.ceu_script.specs.Reader.{Script}
use Rattle.ceu_script.specs.declared.items.BadKind.TheVariants.{Long, Budget}

-- a split by the first newline
abbrev SplitIs : Split → List ℕ → Option (List ℕ) → Type 0
SplitIs s before (Some rest) = s ≡ record { ended = before ∷ (split rest).ended; last = (split rest).last }
SplitIs s before None = s ≡ record { ended = []; last = before }

more_is : (b : ℕ) (s : Split) (before : List ℕ) (after : Option (List ℕ)) → SplitIs s before after → SplitIs (with_byte b s.ended s.last) (b ∷ before) after
more_is b s before (Some rest) is = ap (λ (q : Split). with_byte b q.ended q.last) is
more_is b s before None is = ap (λ (q : Split). with_byte b q.ended q.last) is

front_is : (bytes : List ℕ) → SplitIs (split bytes) (front_of bytes).before (front_of bytes).after
front_is [] = refl
front_is (b ∷ bytes) =
    let f = front_of bytes in
    let s = split bytes in
    let here : Front = record { before = []; after = Some bytes } in
    let later : Front = record { before = b ∷ f.before; after = f.after } in
    let first : Split = record { ended = [] ∷ s.ended; last = s.last } in
    elim (nat_eq b 10) as (λ t. SplitIs (cond t first (with_byte b s.ended s.last)) (cond t here later).before (cond t here later).after)
    [ true ↦ refl | false ↦ more_is b s f.before f.after (front_is bytes) ]

abbrev lines_at : Bool → List ℕ → Option (List ℕ) → List (Line (List ℕ))
lines_at cut before (Some rest) = line_of (without_return before) ∷ lines_of cut (split rest)
lines_at cut before None = last_lines cut before

lines_front : (cut : Bool) (s : Split) (before : List ℕ) (after : Option (List ℕ)) → SplitIs s before after → lines_of cut s ≡ lines_at cut before after
lines_front cut s before (Some rest) is = ap (lines_of cut) is
lines_front cut s before None is = ap (lines_of cut) is

-- what lines begin with
abbrev Begins : List (Line (List ℕ)) → Bool → Leading → Type 0
Begins lines cut (line text rest) = lines ≡ of_content (content_of text) ∷ lines_of cut (split rest)
Begins lines cut nothing = lines ≡ []
Begins lines cut too_long = (rest : List (Line (List ℕ))) × (lines ≡ bad Long ∷ rest)
Begins lines cut over_budget = lines ≡ bad Budget ∷ []

begins_length : (cut : Bool) (text rest : List ℕ) → Begins (line_of text ∷ lines_of cut (split rest)) cut (of_length text rest)
begins_length cut text rest =
    elim (nat_lt 200 (length text)) as (λ t. Begins (cond t (bad Long) (of_content (content_of text)) ∷ lines_of cut (split rest)) cut (cond t too_long (line text rest)))
    [ true ↦ (lines_of cut (split rest), refl) | false ↦ refl ]

begins_at : (cut : Bool) (before : List ℕ) (after : Option (List ℕ)) → Begins (lines_at cut before after) cut (of_front cut before after)
begins_at cut before (Some rest) = begins_length cut (without_return before) rest
begins_at true before None =
    elim (nat_lt 201 (length before)) as (λ t. Begins (cond t (bad Long) (bad Budget) ∷ []) true (cond t too_long over_budget)) [ true ↦ ([], refl) | false ↦ refl ]
begins_at false [] None = refl
begins_at false (b ∷ text) None = begins_length false (b ∷ text) []

begins : (s : Script) (is : Leading) → first_line s ≡ is → Begins (lines_of s.cut (split s.bytes)) s.cut is
unfolding first_line
begins s is first =
    let f = front_of s.bytes in
    subst (λ (q : Leading). Begins (lines_of s.cut (split s.bytes)) s.cut q) first
    (subst (λ (l : List (Line (List ℕ))). Begins l s.cut (of_front s.cut f.before f.after)) (sym (lines_front s.cut (split s.bytes) f.before f.after (front_is s.bytes))) (begins_at s.cut f.before f.after))

line_then : (text : List ℕ) (s t : Script) → first_line s ≡ line text t.bytes → t.cut ≡ s.cut → lines_of s.cut (split s.bytes) ≡ of_content (content_of text) ∷ lines_of t.cut (split t.bytes)
line_then text s t first cut = begins s (line text t.bytes) first ∙ ap (λ (c : Bool). of_content (content_of text) ∷ lines_of c (split t.bytes)) (sym cut)

content_then : (said : List ℕ) (lines : List (Line (List ℕ))) → 0 < length said → until_bad (of_content said ∷ lines) ≡ content said ∷ until_bad lines
content_then [] lines some = absurd (omega arith)
content_then (b ∷ said) lines some = refl

nothing_then : (said : List ℕ) (lines : List (Line (List ℕ))) → length said ≡ 0 → until_bad (of_content said ∷ lines) ≡ skipped ∷ until_bad lines
nothing_then [] lines none = refl
nothing_then (b ∷ said) lines none = absurd (omega arith)

pub content_line : (text : List ℕ) (s t : Script) → first_line s ≡ line text t.bytes → t.cut ≡ s.cut → 0 < length (content_of text) → script_lines s ≡ content (content_of text) ∷ script_lines t
unfolding script_lines
content_line text s t first cut some = ap until_bad (line_then text s t first cut) ∙ content_then (content_of text) (lines_of t.cut (split t.bytes)) some

pub skipped_line : (text : List ℕ) (s t : Script) → first_line s ≡ line text t.bytes → t.cut ≡ s.cut → length (content_of text) ≡ 0 → script_lines s ≡ skipped ∷ script_lines t
unfolding script_lines
skipped_line text s t first cut none = ap until_bad (line_then text s t first cut) ∙ nothing_then (content_of text) (lines_of t.cut (split t.bytes)) none

pub no_line : (s : Script) → first_line s ≡ nothing → script_lines s ≡ []
unfolding script_lines
no_line s first = ap until_bad (begins s nothing first)

pub long_line_is : (s : Script) → first_line s ≡ too_long → script_lines s ≡ bad Long ∷ []
unfolding script_lines
long_line_is s first = ap until_bad (begins s too_long first).1

pub budget_line : (s : Script) → first_line s ≡ over_budget → script_lines s ≡ bad Budget ∷ []
unfolding script_lines
budget_line s first = ap until_bad (begins s over_budget first)
