-- A list of tokens has one outcome of the rules on the grammar.
use Rattle.std.proofs.Common.{◌≡◌, refl, sym, ap, ◌∙◌, subst, ℕ, zero, suc, ◌+◌, ◌<◌, ◌≤◌, ◌⊎◌, inl, inr, arith, Bool, true, false, List, [], ◌∷◌, ◌++◌, Option, Some, None, append_assoc, append-nil, below_more, length, take, drop, nat_lt, add-one}
use Rattle.std.proofs.lemmas.Bool.{ltb-true, ltb-false}
use Rattle.ceu_base.specs.declared.kinds.Rule.{Rule}
use Rattle.ceu_base.specs.declared.kinds.Rule.TheVariants.{G1, G2, G3}
use Rattle.ceu_tree.specs.declared.source.Node.{Node}
use Rattle.ceu_syntax.specs.declared.terminal.Terminal.{Terminal}
use Rattle.ceu_syntax.specs.Grammar.{Begins, Program}
use Rattle.ceu_syntax.specs.Limits.{Behind, FirstBroken, IsDeep, IsLong, IsOperatorTooMany, KeepsLimits, OpensTooDeep, WithinLimits, goes_on_finalize, levels, operator_count}
use Rattle.ceu_syntax.specs.Runs.{run, begun, finish}
use Rattle.ceu_syntax.specs.Steps.{State}
use Rattle.ceu_syntax.proofs.Completes.{begins_where, first_wrong}
use Rattle.ceu_syntax.proofs.Exact.{accepted_derives}

-- ---- beginnings of programs

-- what stands between the first i tokens and the first k
between : (ts : List Terminal) (i k : ℕ) → i ≤ k → (us : List Terminal) × (take k ts ≡ take i ts ++ us)
between ts zero k h = (take k ts, refl)
between ts (suc i) zero h = absurd (omega arith)
between [] (suc i) (suc k) h = ([], refl)
between (t ∷ ts) (suc i) (suc k) h = let r = between ts i k (omega arith) in (r.0, ap (λ us. t ∷ us) r.1)

less_begins : (ts : List Terminal) (i k : ℕ) → i ≤ k → Begins (take k ts) → Begins (take i ts)
less_begins ts i k h (more, ns, d) =
    let r = between ts i k h in
    (r.0 ++ more, ns, subst (λ us. Program us ns) (ap (λ us. us ++ more) r.1 ∙ append_assoc (take i ts) r.0 more) d)

all_taken : (ts : List Terminal) → take (length ts) ts ≡ ts
all_taken [] = refl
all_taken (t ∷ ts) = ap (λ us. t ∷ us) (all_taken ts)

program_begins : (ts : List Terminal) (ns : List Node) (k : ℕ) → Program ts ns → k ≤ length ts → Begins (take k ts)
program_begins ts ns k d h = less_begins ts k (length ts) h ([], ns, subst (λ us. Program us ns) (sym (append-nil (take (length ts) ts) ∙ all_taken ts)) d)

-- behind a token some program goes on
behind_begins : (ts : List Terminal) (k : ℕ) (P : State → Type 0) → Behind ts k P → Begins (take (suc k) ts)
behind_begins ts k P (within, s, runs, p) = begins_where (take (suc k) ts) s runs

-- ---- of two refusals the earlier one excludes the other

reaches : (ts : List Terminal) (r : Rule) (k : ℕ) → FirstBroken ts r k → Begins (take k ts)
reaches ts G1 k (wrong, kept) = wrong.before
reaches ts G2 k (deep, kept) = less_begins ts k (suc k) (omega arith) (behind_begins ts k (λ s. IsDeep s (goes_on_finalize (drop (suc k) ts))) deep)
reaches ts G3 k (long, flat, kept) = less_begins ts k (suc k) (omega arith) (behind_begins ts k IsLong long)
reaches ts _ k b = absurd b

pub inside : (ts : List Terminal) (r : Rule) (k : ℕ) → FirstBroken ts r k → k ≤ length ts
inside ts G1 k (wrong, kept) = wrong.within
inside ts G2 k (deep, kept) = omega (arith, deep.0)
inside ts G3 k (long, flat, kept) = omega (arith, long.0)
inside ts _ k b = absurd b

keeps : (ts : List Terminal) (r : Rule) (k : ℕ) → FirstBroken ts r k → KeepsLimits ts k
keeps ts G1 k (wrong, kept) = kept
keeps ts G2 k (deep, kept) = kept
keeps ts G3 k (long, flat, kept) = kept
keeps ts _ k b = absurd b

-- no rule breaks at a token before the k first, where these begin a program within the limits
none_before : (ts : List Terminal) (r : Rule) (j k : ℕ) → FirstBroken ts r j → j < k → k ≤ length ts → Begins (take k ts) → KeepsLimits ts k → ⊥
none_before ts G1 j k (wrong, kept) h l b m = wrong.at (omega arith) (less_begins ts (suc j) k (omega arith) b)
none_before ts G2 j k (deep, kept) h l b m = let n = m j h in n.0 deep
none_before ts G3 j k (long, flat, kept) h l b m = let n = m j h in n.1 long
none_before ts _ j k b h l _ _ = absurd b

same_rule : (ts : List Terminal) (r s : Rule) (k : ℕ) → FirstBroken ts r k → FirstBroken ts s k → r ≡ s
same_rule ts G1 G1 k b d = refl
same_rule ts G2 G2 k b d = refl
same_rule ts G3 G3 k b d = refl
same_rule ts G1 G2 k (wrong, _) (deep, _) = absurd (wrong.at deep.0 (behind_begins ts k (λ s. IsDeep s (goes_on_finalize (drop (suc k) ts))) deep))
same_rule ts G1 G3 k (wrong, _) (long, _, _) = absurd (wrong.at long.0 (behind_begins ts k IsLong long))
same_rule ts G2 G1 k (deep, _) (wrong, _) = absurd (wrong.at deep.0 (behind_begins ts k (λ s. IsDeep s (goes_on_finalize (drop (suc k) ts))) deep))
same_rule ts G2 G3 k (deep, _) (long, flat, _) = absurd (flat deep)
same_rule ts G3 G1 k (long, _, _) (wrong, _) = absurd (wrong.at long.0 (behind_begins ts k IsLong long))
same_rule ts G3 G2 k (long, flat, _) (deep, _) = absurd (flat deep)
same_rule ts G1 _ k b d = absurd d
same_rule ts G2 _ k b d = absurd d
same_rule ts G3 _ k b d = absurd d
same_rule ts _ s k b d = absurd b

pub order : (j k : ℕ) → (j < k) ⊎ ((k < j) ⊎ (j ≡ k))
order zero zero = inr (inr refl)
order zero (suc k) = inl (omega arith)
order (suc j) zero = inr (inl (omega arith))
order (suc j) (suc k) = go (order j k)
  where
    go : (j < k) ⊎ ((k < j) ⊎ (j ≡ k)) → (suc j < suc k) ⊎ ((suc k < suc j) ⊎ (suc j ≡ suc k))
    go (inl h) = inl (omega arith)
    go (inr (inl h)) = inr (inl (omega arith))
    go (inr (inr h)) = inr (inr (omega arith))

pub one_broken : (ts : List Terminal) (r s : Rule) (j k : ℕ) → FirstBroken ts r j → FirstBroken ts s k → (r ≡ s) × (j ≡ k)
one_broken ts r s j k b d = go (order j k)
  where
    go : (j < k) ⊎ ((k < j) ⊎ (j ≡ k)) → (r ≡ s) × (j ≡ k)
    go (inl h) = absurd (none_before ts r j k b h (inside ts s k d) (reaches ts s k d) (keeps ts s k d))
    go (inr (inl h)) = absurd (none_before ts s k j d h (inside ts r j b) (reaches ts r j b) (keeps ts r j b))
    go (inr (inr h)) = (same_rule ts r s k (subst (λ i. FirstBroken ts r i) h b) d, h)

pub program_or_broken : (ts : List Terminal) (ns : List Node) (r : Rule) (k : ℕ) → Program ts ns → WithinLimits ts → FirstBroken ts r k → ⊥
program_or_broken ts ns r k d kept b = go (order k (length ts))
  where
    at_end : (r : Rule) → FirstBroken ts r k → k ≡ length ts → ⊥
    at_end G1 (wrong, _) h = wrong.end h ns d
    at_end G2 (deep, _) h = omega (arith, deep.0)
    at_end G3 (long, _, _) h = omega (arith, long.0)
    at_end _ b h = absurd b

    go : (k < length ts) ⊎ ((length ts < k) ⊎ (k ≡ length ts)) → ⊥
    go (inl h) = none_before ts r k (length ts) b h (omega arith) (program_begins ts ns (length ts) d (omega arith)) kept
    go (inr (inl h)) = let n : k ≤ length ts = inside ts r k b in absurd (omega arith)
    go (inr (inr h)) = at_end r b h

-- ---- what is asked behind token k, where the run comes to s

state_same : {s u : State} → Some s ≡ Some u → s ≡ u
state_same h = cc

pub shallow : (ts : List Terminal) (k : ℕ) (s : State) (finalize : Bool) → run (take (suc k) ts) begun ≡ Some s → finalize ≡ goes_on_finalize (drop (suc k) ts) → (IsDeep s finalize → ⊥) → OpensTooDeep ts k → ⊥
shallow ts k s finalize h same n (within, u, e, deep) = n (subst (λ x. IsDeep x finalize) (state_same (sym e ∙ h)) (subst (λ b. IsDeep u b) (sym same) deep))

pub short : (ts : List Terminal) (k : ℕ) (s : State) → run (take (suc k) ts) begun ≡ Some s → (IsLong s → ⊥) → IsOperatorTooMany ts k → ⊥
short ts k s h n (within, u, e, long) = n (subst (λ x. IsLong x) (state_same (sym e ∙ h)) long)

-- the limits are kept at one more token
pub keeps_on : (ts : List Terminal) (k : ℕ) (s : State) (finalize : Bool) → KeepsLimits ts k → run (take (suc k) ts) begun ≡ Some s → finalize ≡ goes_on_finalize (drop (suc k) ts) → (IsDeep s finalize → ⊥) → (IsLong s → ⊥) → KeepsLimits ts (k + 1)
keeps_on ts k s finalize kept h same deep long = below_more (λ j. (OpensTooDeep ts j → ⊥) × (IsOperatorTooMany ts j → ⊥)) k kept (shallow ts k s finalize h same deep, short ts k s h long)

-- ---- there is an outcome

run_none : (s : State) → run [] s ≡ Some s
unfolding run
run_none s = refl

abbrev pub Outcome : List Terminal → Type 0
Outcome ts = ((ns : List Node) × Program ts ns × WithinLimits ts) ⊎ ((r : Rule) × (k : ℕ) × FirstBroken ts r k)

-- behind the last token
ends : (ts : List Terminal) (k : ℕ) (s : State) → k ≡ length ts → run (take k ts) begun ≡ Some s → KeepsLimits ts k → Outcome ts
ends ts k s l h kept = go (finish s) refl
  where
    go : (x : Option (List Node)) → finish s ≡ x → Outcome ts
    go None e = inr (G1, k, (first_wrong ts k (s, h, inr (l, e)), kept))
    go (Some ns) e = inl (ns, accepted_derives ts ns (s, subst (λ us. run us begun ≡ Some s) (ap (λ j. take j ts) l ∙ all_taken ts) h, e), subst (λ j. KeepsLimits ts j) l kept)

-- from token k on, with so many to come
goes : (n : ℕ) (ts : List Terminal) (k : ℕ) (s : State) → k + n ≡ length ts → run (take k ts) begun ≡ Some s → KeepsLimits ts k → Outcome ts
goes zero ts k s l h kept = ends ts k s (omega arith) h kept
goes (suc n) ts k s l h kept = go (run (take (suc k) ts) begun) refl (λ u m e. goes n ts (suc k) u (omega arith) e m)
  where
    flat : (u : State) → nat_lt 64 (levels u (goes_on_finalize (drop (suc k) ts))) ≡ false → IsDeep u (goes_on_finalize (drop (suc k) ts)) → ⊥
    flat u deep x = let i : levels u (goes_on_finalize (drop (suc k) ts)) ≤ 64 = ltb-false 64 (levels u (goes_on_finalize (drop (suc k) ts))) deep in omega arith

    judge : (u : State) → run (take (suc k) ts) begun ≡ Some u → (KeepsLimits ts (suc k) → Outcome ts) → (b d : Bool) → nat_lt 64 (levels u (goes_on_finalize (drop (suc k) ts))) ≡ b → nat_lt 256 (operator_count u) ≡ d → Outcome ts
    judge u e on true d deep long = inr (G2, k, ((omega arith, u, e, ltb-true 64 (levels u (goes_on_finalize (drop (suc k) ts))) deep), kept))
    judge u e on false true deep long = inr (
      G3,
      k,
      (
        (omega arith, u, e, ltb-true 256 (operator_count u) long),
        shallow ts k u (goes_on_finalize (drop (suc k) ts)) e refl (flat u deep),
        kept,
      ),
    )
    judge u e on false false deep long =
        on (subst (λ i. KeepsLimits ts i) (add-one k) (keeps_on ts k u (goes_on_finalize (drop (suc k) ts)) kept e refl (flat u deep) (λ x. let i : operator_count u ≤ 256 = ltb-false 256 (operator_count u) long in omega arith)))

    go : (x : Option State) → run (take (suc k) ts) begun ≡ x → ((u : State) → KeepsLimits ts (suc k) → run (take (suc k) ts) begun ≡ Some u → Outcome ts) → Outcome ts
    go None e f = inr (G1, k, (first_wrong ts k (s, h, inl (omega arith, e)), kept))
    go (Some u) e f = judge u e (λ m. f u m e) (nat_lt 64 (levels u (goes_on_finalize (drop (suc k) ts)))) (nat_lt 256 (operator_count u)) refl refl

pub some_outcome : (ts : List Terminal) → Outcome ts
some_outcome ts = goes (length ts) ts 0 begun (omega arith) (run_none begun) (λ j h. absurd (omega arith))
