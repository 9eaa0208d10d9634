-- Lines that are skipped, and what comes behind them.
use Rattle.std.proofs.Common.{◌≡◌, ℕ, zero, suc, ◌+◌, ◌<◌, ◌≤◌, length, List, [], ◌∷◌, ◌++◌, Option, refl, sym, ap, ◌∙◌, arith, replicate}
use Rattle.ceu_io.specs.Told.{WhereTold}
use Rattle.ceu_io.proofs.Telling.{where_told_map, where_told_same, where_told_then}
use Rattle.ceu_script.specs.Lines.{Line, skipped, content, bad, script_lines, Comes, Spoils, Ends}
use Rattle.ceu_script.specs.Reader.{Reader, Script, ahead, position, budget, GoesOn}
use Rattle.ceu_script.specs.Bytewise.{first_line, line}
use Rattle.ceu_script.specs.Content.{content_of}
use Rattle.ceu_script.proofs.Front.{ahead_same}
use Rattle.ceu_script.proofs.Listing.{content_line, skipped_line}
use Rattle.ceu_script.specs.declared.items.BadKind.{BadKind}

pub record SkippedTo (r s : Reader) (x y : Option (List ℕ)) : Type 0 where
  pub skips : ℕ
  pub counted : s.last.lines ≡ r.last.lines + skips
  pub told : WhereTold x y (λ old new. script_lines (ahead r old) ≡ replicate skips skipped ++ script_lines (ahead s new))

pub skipped_none : (r : Reader) (x : Option (List ℕ)) → SkippedTo r r x x
skipped_none r x = record { skips = 0; counted = omega arith; told = where_told_same x (λ old new. script_lines (ahead r old) ≡ script_lines (ahead r new)) (λ old. refl) }

one_more : {C : Type 0} (k : ℕ) (lines : List (Line C)) → replicate k skipped ++ skipped ∷ lines ≡ replicate (suc k) skipped ++ lines
one_more {C = C} zero lines = refl
one_more {C = C} (suc k) lines = ap (λ (l : List (Line C)). skipped ∷ l) (one_more k lines)

module _ (r m s : Reader) (x y z : Option (List ℕ)) (so_far : SkippedTo r m x y) where
  pub skipped_more : s.last.lines ≡ m.last.lines + 1 → WhereTold y z (λ old new. script_lines (ahead m old) ≡ skipped ∷ script_lines (ahead s new)) → SkippedTo r s x z
  skipped_more counted next = record {
    skips = suc so_far.skips;
    counted = omega (arith, so_far.counted, counted);
    told = where_told_then x y z _ _ (λ old new. script_lines (ahead r old) ≡ replicate (suc so_far.skips) skipped ++ script_lines (ahead s new))
        (λ a b c first then. first ∙ ap (λ (l : List (Line (List ℕ))). replicate so_far.skips skipped ++ l) then ∙ one_more so_far.skips (script_lines (ahead s c))) so_far.told next;
  }

  pub comes : (text : List ℕ) → s.last.lines ≡ m.last.lines + 1 → WhereTold y z (λ old new. script_lines (ahead m old) ≡ content text ∷ script_lines (ahead s new))
      → WhereTold x z (λ old new. Comes text r.last.lines s.last.lines (script_lines (ahead r old)) (script_lines (ahead s new)))
  comes text counted next = where_told_then x y z _ _ (λ old new. Comes text r.last.lines s.last.lines (script_lines (ahead r old)) (script_lines (ahead s new)))
      (λ a b c first then. record { skips = so_far.skips; counted = omega (arith, so_far.counted, counted); lines_are = first ∙ ap (λ (l : List (Line (List ℕ))). replicate so_far.skips skipped ++ l) then }) so_far.told next

  pub spoils : (kind : BadKind) → s.last.lines ≡ m.last.lines + 1 → WhereTold y z (λ old new. script_lines (ahead m old) ≡ bad kind ∷ [])
      → WhereTold x z (λ old new. Spoils kind r.last.lines s.last.lines (script_lines (ahead r old)))
  spoils kind counted next = where_told_then x y z _ _ (λ old new. Spoils kind r.last.lines s.last.lines (script_lines (ahead r old)))
      (λ a b c first then. record { skips = so_far.skips; counted = omega (arith, so_far.counted, counted); lines_are = first ∙ ap (λ (l : List (Line (List ℕ))). replicate so_far.skips skipped ++ l) then }) so_far.told next

  nothing_behind : (k : ℕ) → (let none : List (Line (List ℕ)) = [] in replicate k skipped ++ none ≡ replicate k skipped)
  nothing_behind zero = refl
  nothing_behind (suc k) = ap (λ (l : List (Line (List ℕ))). skipped ∷ l) (nothing_behind k)

  pub ends : s.last.lines ≡ m.last.lines → WhereTold y z (λ old new. script_lines (ahead m old) ≡ [])
      → WhereTold x z (λ old new. Ends r.last.lines s.last.lines (script_lines (ahead r old)))
  ends counted next = where_told_then x y z _ _ (λ old new. Ends r.last.lines s.last.lines (script_lines (ahead r old)))
      (λ a b c first then. record { skips = so_far.skips; counted = omega (arith, so_far.counted, counted); lines_are = first ∙ ap (λ (l : List (Line (List ℕ))). replicate so_far.skips skipped ++ l) then ∙ nothing_behind so_far.skips }) so_far.told next

-- a line of text, which is kept
module _ (r m q s : Reader) (x y z : Option (List ℕ)) (text : List ℕ)
    (so_far : SkippedTo r m x y)
    (next : WhereTold y z (λ old new. (first_line (ahead m old) ≡ line text (ahead q new).bytes) × ((ahead q new).cut ≡ (ahead m old).cut)))
    (counted : q.last.lines ≡ m.last.lines + 1)
    (pending : s.pending ≡ q.pending) (taken : s.taken ≡ q.taken) (lines : s.last.lines ≡ q.last.lines) (said : s.last.text ≡ content_of text) where
  pub text_comes : 0 < length s.last.text → WhereTold x z (λ old new. Comes s.last.text r.last.lines s.last.lines (script_lines (ahead r old)) (script_lines (ahead s new)))
  text_comes some = comes r m s x y z so_far s.last.text (lines ∙ counted)
      (where_told_map y z _ (λ old new. script_lines (ahead m old) ≡ content s.last.text ∷ script_lines (ahead s new)) (λ old new is.
      content_line text (ahead m old) (ahead q new) is.0 is.1 (omega (arith, some, ap length said))
      ∙ ap (λ (l : List ℕ). content l ∷ script_lines (ahead q new)) (sym said)
      ∙ ap (λ (t : Script). content s.last.text ∷ script_lines t) (ahead_same q s new pending taken)) next)

  pub text_skipped : length s.last.text ≡ 0 → SkippedTo r s x z
  text_skipped none = skipped_more r m s x y z so_far (lines ∙ counted)
      (where_told_map y z _ (λ old new. script_lines (ahead m old) ≡ skipped ∷ script_lines (ahead s new)) (λ old new is.
      skipped_line text (ahead m old) (ahead q new) is.0 is.1 (omega (arith, none, ap length said))
      ∙ ap (λ (t : Script). skipped ∷ script_lines t) (ahead_same q s new pending taken)) next)

  pub goes_on_after : q.last.start ≡ position m → s.last.start ≡ q.last.start → position m < position q → position q ≤ position m + 203 → q.taken ≤ budget → GoesOn m → GoesOn s
  goes_on_after start kept behind near within goes_on =
      let held : length s.pending ≡ length q.pending = ap length pending in
      record { counted = omega (arith, goes_on.counted); here = omega arith; within = omega arith }
