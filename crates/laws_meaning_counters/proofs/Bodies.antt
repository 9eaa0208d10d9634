-- How much of a slot of an open body a part can have hold of, told by its ground.
use Rattle.std.proofs.Common.{◌≡◌, refl, sym, ap, ◌∙◌, subst, ◌<◌, ◌≤◌, ℕ, ◌+◌, ◌-◌, ◌*◌, min, Bool, true, false, if◌then◌else◌, ◌==◌, ◌&&◌, ◌⊎◌, inl, inr, [], ◌∷◌, length, arith, eqb-true, eq-eqb}
use Rattle.std.proofs.lemmas.Bool.{and_parts, false≢true}
use Rattle.ceu_tree.specs.declared.kernel.KLoop.{KLoop}
use Rattle.ceu_tree.specs.declared.kernel.KLoop.TheVariants as turns
use Rattle.ceu_tree.specs.declared.kernel.KNode.{KNode}
use Rattle.ceu_tree.specs.declared.kernel.KBlock.{KBlock}
use Rattle.ceu_tree.specs.declared.kernel.KStmt.{out-KStmt}
use Rattle.ceu_tree.specs.declared.kernel.KStmt.TheOpen.{KStmt-F}
use Rattle.ceu_tree.specs.Residual.{Body, Program, Awaited, Spawned, same_body}
use Rattle.ceu_tree.specs.Numbering.{counts_from, block_slots, block_nodes, stmt_slots, stmt_nodes, loop_slots}
use Rattle.laws_meaning_values.specs.Ground.{Ground, Numbered}
use Rattle.laws_meaning_values.proofs.Counts.{Inner}
use Rattle.laws_meaning_values.proofs.Grounds.{InStatement, hidden_counts}
use Rattle.laws_meaning_values.proofs.Stores.{same_is, same_self}
use Rattle.laws_meaning_instances.proofs.Living.{once, once_true}
use Rattle.laws_meaning_counters.specs.Counters.{counts_in}
use Rattle.laws_meaning_counters.proofs.Grips.{point, own}

-- ---- bodies

abbrev depth : Body → ℕ
depth Program = 0
depth (Spawned m) = 0
depth (Awaited c n) = depth c + 1

-- the instance that a body lies in; no instance has the number 0
abbrev pub root : Body → ℕ
root Program = 0
root (Spawned m) = m
root (Awaited c n) = root c

-- 1 where n lies from `low` to before `high`
abbrev pub inside : (low high n : ℕ) → ℕ
inside low high n = min 1 (min (n + 1 - low) (high - n))

-- 1 where the ground has the statement with which `here` awaits code on the way to the other body
abbrev pub calls : Body → Ground → Body → ℕ
calls here g Program = 0
calls here g (Spawned m) = 0
calls here g (Awaited c n) = if same_body here c then inside g.first g.last n else calls here g c

same_depth : (a c : Body) → same_body a c ≡ true → depth a ≡ depth c
same_depth a c e = ap depth (same_is a c e)

apart_by_depth : (a c : Body) → depth a < depth c → same_body a c ≡ false
apart_by_depth a c l = go (same_body a c) refl
  where
    go : (t : Bool) → same_body a c ≡ t → t ≡ false
    go false e = refl
    go true e = absurd (let d = same_depth a c e in omega (arith, d, l))

calls_one : (here : Body) (g : Ground) (d : Body) → calls here g d ≤ 1
calls_one here g Program = omega arith
calls_one here g (Spawned m) = omega arith
calls_one here g (Awaited c n) = go (same_body here c) (calls_one here g c)
  where
    go : (t : Bool) → calls here g c ≤ 1 → (if t then inside g.first g.last n else calls here g c) ≤ 1
    go true h = omega arith
    go false h = h

calls_inner : (here : Body) (h g : Ground) (d : Body) → Inner h g → calls here h d ≤ calls here g d
calls_inner here h g Program i = omega arith
calls_inner here h g (Spawned m) i = omega arith
calls_inner here h g (Awaited c n) i = go (same_body here c) (calls_inner here h g c i)
  where
    go : (t : Bool) → calls here h c ≤ calls here g c → (if t then inside h.first h.last n else calls here h c) ≤ (if t then inside g.first g.last n else calls here g c)
    go true k = let a = i.first in let c = i.last in omega (arith, a, c)
    go false k = k

calls_halves : (here : Body) (l r g : Ground) (d : Body) → l.last ≤ r.first → Inner l g → Inner r g → calls here l d + calls here r d ≤ calls here g d
calls_halves here l r g Program m i j = omega arith
calls_halves here l r g (Spawned n) m i j = omega arith
calls_halves here l r g (Awaited c n) m i j = go (same_body here c) (calls_halves here l r g c m i j)
  where
    go : (t : Bool) → calls here l c + calls here r c ≤ calls here g c → (if t then inside l.first l.last n else calls here l c) + (if t then inside r.first r.last n else calls here r c) ≤ (if t then inside g.first g.last n else calls here g c)
    go true k = let a = i.first in let c = i.last in let e = j.first in let f = j.last in omega (arith, a, c, e, f, m)
    go false k = k

-- ---- code that is awaited, and instances

own_call : (here : Body) (g : Ground) (n : ℕ) → g.first ≤ n → n < g.last → calls here g (Awaited here n) ≡ 1
own_call here g n p q = ap (λ t. if t then inside g.first g.last n else calls here g here) (same_self here) ∙ omega (arith, p, q)

-- on the way to what is further in than code that a part awaits, the part has the statement that awaits it
calls_more : (here : Body) (g h : Ground) (n : ℕ) (d : Body) → g.first ≤ n → n < g.last → (calls (Awaited here n) h d ≡ 0) ⊎ ((1 ≤ calls here g d) × (depth here < depth d))
calls_more here g h n Program p q = inl refl
calls_more here g h n (Spawned m) p q = inl refl
calls_more here g h n (Awaited c k) p q = go (same_body (Awaited here n) c) refl (calls_more here g h n c p q)
  where
    further : depth here < depth c → 1 ≤ calls here g c → 1 ≤ calls here g (Awaited c k)
    further l e = let z = ap (λ t. if t then inside g.first g.last k else calls here g c) (apart_by_depth here c l) in omega (arith, z, e)

    go : (t : Bool) → same_body (Awaited here n) c ≡ t → (calls (Awaited here n) h c ≡ 0) ⊎ ((1 ≤ calls here g c) × (depth here < depth c))
        → ((if t then inside h.first h.last k else calls (Awaited here n) h c) ≡ 0) ⊎ ((1 ≤ calls here g (Awaited c k)) × (depth here < depth c + 1))
    go true e ih =
        let s = same_depth (Awaited here n) c e in
        let z = ap (calls here g) (same_is (Awaited here n) c e) in
        let o = own_call here g n p q in
        inr (further (omega (arith, s)) (omega (arith, z, o)), omega (arith, s))
    go false e (inl z) = inl z
    go false e (inr z) = inr (further z.1 z.0, (let l = z.1 in omega (arith, l)))

calls_root : (n : ℕ) (g : Ground) (d : Body) → calls (Spawned n) g d ≤ once (root d) n
calls_root n g Program = omega arith
calls_root n g (Spawned m) = omega arith
calls_root n g (Awaited c k) = go (same_body (Spawned n) c) refl (calls_root n g c)
  where
    go : (t : Bool) → same_body (Spawned n) c ≡ t → calls (Spawned n) g c ≤ once (root c) n → (if t then inside g.first g.last k else calls (Spawned n) g c) ≤ once (root c) n
    go true e h = let z = once_true (root c) n (eq-eqb (root c) n (ap root (sym (same_is (Spawned n) c e)))) in omega (arith, z)
    go false e h = h

-- ---- the most that a part on a ground can have hold of

module _ (b : Body) (x : ℕ) where
  abbrev pub cap : Body → Ground → ℕ
  cap here g = if same_body here b then inside g.low g.high x else 3 * calls here g b

  pub cap_inner : (here : Body) (h g : Ground) → Inner h g → cap here h ≤ cap here g
  cap_inner here h g i = go (same_body here b)
    where
      go : (t : Bool) → (if t then inside h.low h.high x else 3 * calls here h b) ≤ (if t then inside g.low g.high x else 3 * calls here g b)
      go true = let a = i.low in let c = i.high in omega (arith, a, c)
      go false = let a = calls_inner here h g b i in omega (arith, a)

  pub cap_halves : (here : Body) (l r g : Ground) → l.high ≤ r.low → l.last ≤ r.first → Inner l g → Inner r g → cap here l + cap here r ≤ cap here g
  cap_halves here l r g m n i j = go (same_body here b)
    where
      go : (t : Bool) → (if t then inside l.low l.high x else 3 * calls here l b) + (if t then inside r.low r.high x else 3 * calls here r b) ≤ (if t then inside g.low g.high x else 3 * calls here g b)
      go true = let a = i.low in let c = i.high in let e = j.low in let f = j.high in omega (arith, a, c, e, f, m)
      go false = let a = calls_halves here l r g b n i j in omega (arith, a)

  pub cap_call : (here : Body) (g h : Ground) (n : ℕ) → g.first ≤ n → n < g.last → point b x (Awaited here n) + cap (Awaited here n) h ≤ cap here g
  cap_call here g h n p q = go (same_body (Awaited here n) b) refl
    where
      further : (calls (Awaited here n) h b ≡ 0) ⊎ ((1 ≤ calls here g b) × (depth here < depth b)) → 3 * calls (Awaited here n) h b ≤ cap here g
      further (inl e) = omega (arith, e)
      further (inr e) =
          let z = ap (λ t. if t then inside g.low g.high x else 3 * calls here g b) (apart_by_depth here b e.1) in
          let o = calls_one (Awaited here n) h b in
          let k = e.0 in
          omega (arith, z, o, k)

      go : (t : Bool) → same_body (Awaited here n) b ≡ t → (if t then 2 else 0) + (if t then inside h.low h.high x else 3 * calls (Awaited here n) h b) ≤ cap here g
      go true e =
          let s = same_depth (Awaited here n) b e in
          let z = ap (λ t. if t then inside g.low g.high x else 3 * calls here g b) (apart_by_depth here b (omega (arith, s))) in
          let k = ap (calls here g) (same_is (Awaited here n) b e) in
          let o = own_call here g n p q in
          omega (arith, z, k, o)
      go false e = let a = further (calls_more here g h n b p q) in omega (arith, a)

  pub cap_instance : (g : Ground) (n : ℕ) → point b x (Spawned n) + cap (Spawned n) g ≤ 3 * once (root b) n
  cap_instance g n = go (same_body (Spawned n) b) refl
    where
      go : (t : Bool) → same_body (Spawned n) b ≡ t → (if t then 2 else 0) + (if t then inside g.low g.high x else 3 * calls (Spawned n) g b) ≤ 3 * once (root b) n
      go true e = let z = once_true (root b) n (eq-eqb (root b) n (ap root (sym (same_is (Spawned n) b e)))) in omega (arith, z)
      go false e = let a = calls_root n g b in omega (arith, a)

  pub cap_most : (here : Body) (g : Ground) → point b x here + cap here g ≤ 3
  cap_most here g = go (same_body here b)
    where
      go : (t : Bool) → (if t then 2 else 0) + (if t then inside g.low g.high x else 3 * calls here g b) ≤ 3
      go true = omega arith
      go false = let a = calls_one here g b in omega (arith, a)

  -- a loop's own slot is the first of its ground
  turn_first : (k : KLoop) (low : ℕ) → counts_from low (loop_slots k) ≡ true → counts_in x k ≡ true → (x ≡ low) × (1 ≤ length (loop_slots k))
  turn_first turns.Free low c e = absurd (false≢true e)
  turn_first (turns.Times slot n) low c e = (sym (eqb-true slot x e) ∙ eqb-true slot low (and_parts (slot == low) true c).0, omega arith)
  turn_first (turns.Range i next end open_a y z open_b) low c e = (sym (eqb-true i x e) ∙ eqb-true i low (and_parts (i == low) (counts_from (low + 1) (next ∷ end ∷ [])) c).0, omega arith)

  pub cap_turn : (here : Body) (s : KNode) (k : KLoop) (c : KBlock) (g : Ground) → out-KStmt s.stmt ≡ KStmt-F.Loop k c → Numbered (stmt_slots s.stmt) (s.node ∷ stmt_nodes s.stmt) g
      → (i : InStatement (KStmt-F.Loop k c) (block_slots c) (block_nodes c) g) → own b x here (out-KStmt s.stmt) + cap here i.ground ≤ cap here g
  cap_turn here s k c g e on i = subst (λ l. own b x here l + cap here i.ground ≤ cap here g) (sym e) (go (same_body here b) (counts_in x k) refl)
    where
      hidden : (counts_from g.low (loop_slots k) ≡ true) × (g.low + length (loop_slots k) ≤ g.high)
      hidden = hidden_counts s (KStmt-F.Loop k c) g e on

      go : (t u : Bool) → counts_in x k ≡ u → (if t && u then 1 else 0) + (if t then inside i.ground.low i.ground.high x else 3 * calls here i.ground b) ≤ (if t then inside g.low g.high x else 3 * calls here g b)
      go true true q = let f = turn_first k g.low hidden.0 q in let a = f.0 in let l = f.1 in let d = hidden.1 in let m = i.behind in omega (arith, a, l, d, m)
      go true false q = let a = i.inner.low in let d = i.inner.high in omega (arith, a, d)
      go false u q = let a = calls_inner here i.ground g b i.inner in omega (arith, a)
