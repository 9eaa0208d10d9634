-- Marks that were noted as lines.
use Rattle.std.proofs.Common.{◌≡◌, ℕ, length, drop, Bool, List, [], ◌∷◌, ◌++◌, Option, Result, Ok, Err, refl, sym, ap, ◌∙◌, subst, append_assoc}
use Rattle.std.proofs.lemmas.List.{append-nil}
use Rattle.ceu_base.specs.declared.kinds.Mark.{Mark}
use Rattle.ceu_base.specs.declared.kinds.Port.{Port}
use Rattle.ceu_io.specs.Bytes.{Appends, AppendsProperFront}
use Rattle.ceu_io.specs.declared.outside.Failed.{Failed}
use Rattle.ceu_io.proofs.Offers.{appends_nothing, appends_then}
use Rattle.ceu_trace.specs.Lines.{printed}
use Rattle.ceu_tree.specs.Run.{Config}
use Rattle.ceu_run.specs.Reactions.{Noted, Reaction}
use Rattle.ceu_run.specs.Printing.{marks_text, new_text, Prints}
use Rattle.ceu_run.specs.declared.reactor.After.{After}
use Rattle.ceu_run.proofs.Fronts.{front_behind, front_of_more}

-- what stays of a sink of lines
pub record Same {W : Type 0} (outputs : W → List Port) (all : W → Bool) (name : W → ℕ) (old new : W) : Type 0 where
  pub outputs_same : outputs new ≡ outputs old
  pub all_same : all new ≡ all old
  pub name_same : name new ≡ name old

module _ (W : Type 0) (held : W → Option (List ℕ)) (outputs : W → List Port) (all : W → Bool) (name : W → ℕ) (notes stops : W → Mark → W → Type 0)
    (is_noted : (old : W) (m : Mark) (new : W) → notes old m new → Appends (printed (all old) (outputs old) m) (held old) (held new) × (outputs new ≡ outputs old) × (all new ≡ all old) × (name new ≡ name old))
    (is_stopped : (old : W) (m : Mark) (new : W) → stops old m new → AppendsProperFront (printed (all old) (outputs old) m) (held old) (held new) × (outputs new ≡ outputs old) × (all new ≡ all old) × (name new ≡ name old)) where
  same_then : (a b c : W) → Same outputs all name a b → Same outputs all name b c → Same outputs all name a c
  same_then a b c first then = record { outputs_same = then.outputs_same ∙ first.outputs_same; all_same = then.all_same ∙ first.all_same; name_same = then.name_same ∙ first.name_same }

  one_same : (a : W) (m : Mark) (b : W) → notes a m b → Same outputs all name a b
  one_same a m b is = let f = is_noted a m b is in record { outputs_same = f.1; all_same = f.2; name_same = f.3 }

  noted_same : (ms : List Mark) (a b : W) → Noted notes ms a b → Same outputs all name a b
  noted_same [] a b noted = record { outputs_same = ap outputs noted; all_same = ap all noted; name_same = ap name noted }
  noted_same (m ∷ ms) a b noted = same_then a noted.0 b (one_same a m noted.0 noted.1) (noted_same ms noted.0 b noted.2)

  -- the lines of the marks
  noted_text : (ms : List Mark) (a b : W) → Noted notes ms a b → Appends (marks_text (all a) (outputs a) ms) (held a) (held b)
  noted_text [] a b noted = subst (λ (w : W). Appends [] (held a) (held w)) (sym noted) (appends_nothing (held a))
  noted_text (m ∷ ms) a b noted =
      let f = is_noted a m noted.0 noted.1 in
      appends_then (printed (all a) (outputs a) m) (marks_text (all a) (outputs a) ms) (held a) (held noted.0) (held b) f.0
      (subst (λ (o : List Port). Appends (marks_text (all a) o ms) (held noted.0) (held b)) f.1
      (subst (λ (t : Bool). Appends (marks_text t (outputs noted.0) ms) (held noted.0) (held b)) f.2 (noted_text ms noted.0 b noted.2)))

  text_more : (t : Bool) (o : List Port) (ms : List Mark) (m : Mark) → marks_text t o (ms ++ m ∷ []) ≡ marks_text t o ms ++ printed t o m
  text_more t o [] m = append-nil (printed t o m)
  text_more t o (n ∷ ms) m = ap (λ (l : List ℕ). printed t o n ++ l) (text_more t o ms m) ∙ sym (append_assoc (printed t o n) (marks_text t o ms) (printed t o m))

  stopped_same : (ms : List Mark) (m : Mark) (a b c : W) → Noted notes ms a b → stops b m c → Same outputs all name a c
  stopped_same ms m a b c noted stopped = let f = is_stopped b m c stopped in same_then a b c (noted_same ms a b noted) (record { outputs_same = f.1; all_same = f.2; name_same = f.3 })

  stopped_text : (ms : List Mark) (m : Mark) (a b c : W) → Noted notes ms a b → stops b m c → AppendsProperFront (marks_text (all a) (outputs a) (ms ++ m ∷ [])) (held a) (held c)
  stopped_text ms m a b c noted stopped =
      let f = is_stopped b m c stopped in
      let s = noted_same ms a b noted in
      let e : printed (all b) (outputs b) m ≡ printed (all a) (outputs a) m = λ i. printed (s.all_same i) (s.outputs_same i) m in
      subst (λ (l : List ℕ). AppendsProperFront l (held a) (held c)) (sym (text_more (all a) (outputs a) ms m))
      (front_behind (marks_text (all a) (outputs a) ms) (printed (all a) (outputs a) m) (held a) (held b) (held c) (noted_text ms a b noted) (subst (λ (l : List ℕ). AppendsProperFront l (held b) (held c)) e f.0))

  text_both : (t : Bool) (o : List Port) (ms ns : List Mark) → marks_text t o (ms ++ ns) ≡ marks_text t o ms ++ marks_text t o ns
  text_both t o [] ns = refl
  text_both t o (m ∷ ms) ns = ap (λ (l : List ℕ). printed t o m ++ l) (text_both t o ms ns) ∙ sym (append_assoc (printed t o m) (marks_text t o ms) (marks_text t o ns))

  behind : (xs ys : List Mark) → drop (length xs) (xs ++ ys) ≡ ys
  behind [] ys = refl
  behind (x ∷ xs) ys = behind xs ys

  pub reaction_prints : (stands : Config → Type 0) (later : ℕ → Config) (before : List Mark) (a b : W) (r : Result After Failed) → Reaction notes stops stands later before a b r
      → Prints stands later (λ n. new_text (all a) (outputs a) before (later n)) (held a) (held b) r
  reaction_prints stands later before a b (Ok after) is = record {
    config = is.config;
    bound = is.comes.bound;
    comes = is.comes.comes;
    here = is.here;
    status = is.status;
    shown = marks_text (all a) (outputs a) is.added;
    texts = λ n more. ap (λ (c : Config). new_text (all a) (outputs a) before c) (is.comes.comes n more) ∙ ap (λ (ms : List Mark). marks_text (all a) (outputs a) (drop (length before) ms)) is.marks ∙ ap (marks_text (all a) (outputs a)) (behind before is.added);
    written = noted_text is.added a b is.noted;
  }
  reaction_prints stands later before a b (Err e) is =
      let ms = is.noted_marks ++ is.last ∷ [] in
      record {
        bound = is.bound;
        front = λ n more.
            let f = is.come n more in
            let e : new_text (all a) (outputs a) before (later n) ≡ marks_text (all a) (outputs a) ms ++ marks_text (all a) (outputs a) f.0 =
            ap (λ (l : List Mark). marks_text (all a) (outputs a) (drop (length before) l)) (f.1 ∙ append_assoc before ms f.0) ∙ ap (marks_text (all a) (outputs a)) (behind before (ms ++ f.0)) ∙ text_both (all a) (outputs a) ms f.0 in
            subst (λ (l : List ℕ). AppendsProperFront l (held a) (held b)) (sym e)
            (front_of_more (marks_text (all a) (outputs a) ms) (marks_text (all a) (outputs a) f.0) (held a) (held b) (stopped_text is.noted_marks is.last a is.between b is.noted is.stopped));
      }

  pub reaction_keeps : (stands : Config → Type 0) (later : ℕ → Config) (before : List Mark) (a b : W) (r : Result After Failed) → Reaction notes stops stands later before a b r → Same outputs all name a b
  reaction_keeps stands later before a b (Ok after) is = noted_same is.added a b is.noted
  reaction_keeps stands later before a b (Err e) is = stopped_same is.noted_marks is.last a is.between b is.noted is.stopped
