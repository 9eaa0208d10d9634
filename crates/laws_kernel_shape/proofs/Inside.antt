-- What a part of a statement adds: its nodes and slots are counted from the draft before it, and the block around it stays.
use Rattle.std.proofs.Common.{◌≡◌, refl, sym, ap, ◌∙◌, subst, ℕ, ◌+◌, arith, List, [], ◌∷◌, ◌++◌}
use Rattle.ceu_tree.specs.declared.kernel.KNode.{KNode}
use Rattle.ceu_tree.specs.declared.kernel.KDecl.{KDecl}
use Rattle.ceu_tree.specs.declared.kernel.KStmt.{KStmt}
use Rattle.ceu_base.specs.declared.kinds.Pos.{Pos}
use Rattle.ceu_tree.specs.Numbering.{range_of, stmt_nodes, stmt_slots, block_nodes, block_slots, decl_slots}
use Rattle.ceu_expand.specs.declared.draft.Draft.{Draft}
use Rattle.ceu_expand.specs.Draft.{begun, hidden, placed, outside, opened, written, closed, block_of, around_block}
use Rattle.ceu_expand.specs.Parts.{nothing_in}
use Rattle.laws_kernel_shape.proofs.Runs.{Runs, runs_append, runs_range}
use Rattle.laws_kernel_shape.proofs.Frames.{frame}
use Rattle.laws_kernel_shape.proofs.Shapes.{nodes_of, slots_of, rolled_nodes, rolled_slots}

-- a draft but for its counts
abbrev pub shell : Draft → Draft
shell d = record (frame d) { node = 0; slot = 0 }

-- it takes so many nodes, and so many slots
pub record Inside (many_nodes many_slots : ℕ) (before : Draft) (nodes slots : List ℕ) (after : Draft) : Type 0 where
  pub node_is : after.node ≡ before.node + many_nodes
  pub slot_is : after.slot ≡ before.slot + many_slots
  pub stays : shell after ≡ shell before
  pub node_runs : Runs before.node nodes after.node
  pub slot_runs : Runs before.slot slots after.slot

pub inside_same : (d e : Draft) → frame e ≡ frame d → Inside 0 0 d [] [] e
inside_same d e h = record {
  node_is = let i : e.node ≡ d.node = ap (λ (x : Draft). x.node) h in omega (arith, i);
  slot_is = let i : e.slot ≡ d.slot = ap (λ (x : Draft). x.slot) h in omega (arith, i);
  stays = ap (λ (x : Draft). record x { node = 0; slot = 0 }) h;
  node_runs = ap (λ (x : Draft). x.node) h;
  slot_runs = ap (λ (x : Draft). x.slot) h;
}

pub inside_then : {m n j l : ℕ} {d e f : Draft} {xs ys us vs : List ℕ} → Inside m j d xs us e → Inside n l e ys vs f → Inside (m + n) (j + l) d (xs ++ ys) (us ++ vs) f
inside_then {m = m} {n = n} {j = j} {l = l} {d = d} {e = e} {f = f} {xs = xs} {ys = ys} {us = us} {vs = vs} h k =
    let hn : e.node ≡ d.node + m = h.node_is in
    let kn : f.node ≡ e.node + n = k.node_is in
    let hs : e.slot ≡ d.slot + j = h.slot_is in
    let ks : f.slot ≡ e.slot + l = k.slot_is in
    record {
      node_is = omega (arith, hn, kn);
      slot_is = omega (arith, hs, ks);
      stays = k.stays ∙ h.stays;
      node_runs = runs_append d.node xs e.node ys f.node h.node_runs k.node_runs;
      slot_runs = runs_append d.slot us e.slot vs f.slot h.slot_runs k.slot_runs;
    }

pub inside_hidden : (n : ℕ) (d : Draft) → Inside 0 n d [] (range_of d.slot n) (hidden n d)
unfolding hidden
inside_hidden n d = record { node_is = omega arith; slot_is = refl; stays = refl; node_runs = refl; slot_runs = runs_range n d.slot }

-- what a row of statements adds to the block: so many slots are taken by declarations, so many nodes, and so many slots behind those
pub record Wrote (count many_nodes many_slots : ℕ) (before after : Draft) : Type 0 where
  pub node_is : after.node ≡ before.node + many_nodes
  pub hidden_is : after.slot ≡ before.slot + many_slots
  pub list : List KNode
  pub decls : List KDecl
  pub list_is : after.parts.list ≡ before.parts.list ++ list
  pub decls_is : after.parts.decls ≡ before.parts.decls ++ decls
  pub slot_is : after.parts.slot ≡ before.parts.slot + count
  pub nodes : Runs before.node (nodes_of list) after.node
  pub slots : Runs before.slot (slots_of list) after.slot
  pub decl_runs : Runs before.parts.slot (decl_slots decls) after.parts.slot
  pub codes : after.codes ≡ before.codes
  pub other_node : after.other_node ≡ before.other_node
  pub other_slot : after.other_slot ≡ before.other_slot

pub append_none : {A : Type 0} (xs : List A) → xs ≡ xs ++ []
append_none [] = refl
append_none (x ∷ xs) = ap (λ r. x ∷ r) (append_none xs)

pub append_assoc : {A : Type 0} (xs ys zs : List A) → (xs ++ ys) ++ zs ≡ xs ++ (ys ++ zs)
append_assoc [] ys zs = refl
append_assoc (x ∷ xs) ys zs = ap (λ r. x ∷ r) (append_assoc xs ys zs)

pub nodes_append : (xs ys : List KNode) → nodes_of (xs ++ ys) ≡ nodes_of xs ++ nodes_of ys
nodes_append [] ys = refl
nodes_append (x ∷ xs) ys = ap (λ r. x.node ∷ (stmt_nodes x.stmt ++ r)) (nodes_append xs ys) ∙ ap (λ r. x.node ∷ r) (sym (append_assoc (stmt_nodes x.stmt) (nodes_of xs) (nodes_of ys)))

pub slots_append : (xs ys : List KNode) → slots_of (xs ++ ys) ≡ slots_of xs ++ slots_of ys
slots_append [] ys = refl
slots_append (x ∷ xs) ys = ap (λ r. stmt_slots x.stmt ++ r) (slots_append xs ys) ∙ sym (append_assoc (stmt_slots x.stmt) (slots_of xs) (slots_of ys))

pub decl_slots_append : (xs ys : List KDecl) → decl_slots (xs ++ ys) ≡ decl_slots xs ++ decl_slots ys
decl_slots_append [] ys = refl
decl_slots_append (x ∷ xs) ys = ap (λ r. x.slot ∷ r) (decl_slots_append xs ys)

pub wrote_same : (d e : Draft) → frame e ≡ frame d → Wrote 0 0 0 d e
wrote_same d e h =
    record {
      node_is = let i : e.node ≡ d.node = ap (λ (x : Draft). x.node) h in omega (arith, i);
      hidden_is = let i : e.slot ≡ d.slot = ap (λ (x : Draft). x.slot) h in omega (arith, i);
      list = [];
      decls = [];
      list_is = ap (λ (x : Draft). x.parts.list) h ∙ append_none d.parts.list;
      decls_is = ap (λ (x : Draft). x.parts.decls) h ∙ append_none d.parts.decls;
      slot_is = let e : e.parts.slot ≡ d.parts.slot = ap (λ (x : Draft). x.parts.slot) h in omega (arith, e);
      nodes = ap (λ (x : Draft). x.node) h;
      slots = ap (λ (x : Draft). x.slot) h;
      decl_runs = ap (λ (x : Draft). x.parts.slot) h;
      codes = ap (λ (x : Draft). x.codes) h;
      other_node = ap (λ (x : Draft). x.other_node) h;
      other_slot = ap (λ (x : Draft). x.other_slot) h;
    }

pub wrote_then : {d e f : Draft} {m n i j u v : ℕ} → Wrote m i u d e → Wrote n j v e f → Wrote (m + n) (i + j) (u + v) d f
wrote_then {d = d} {e = e} {f = f} {m = m} {n = n} {i = i} {j = j} {u = u} {v = v} h k =
    let hn : e.node ≡ d.node + i = h.node_is in
    let kn : f.node ≡ e.node + j = k.node_is in
    let hs : e.slot ≡ d.slot + u = h.hidden_is in
    let ks : f.slot ≡ e.slot + v = k.hidden_is in
    record {
      node_is = omega (arith, hn, kn);
      hidden_is = omega (arith, hs, ks);
      list = h.list ++ k.list;
      decls = h.decls ++ k.decls;
      list_is = k.list_is ∙ ap (λ x. x ++ k.list) h.list_is ∙ append_assoc d.parts.list h.list k.list;
      decls_is = k.decls_is ∙ ap (λ x. x ++ k.decls) h.decls_is ∙ append_assoc d.parts.decls h.decls k.decls;
      slot_is = let a : e.parts.slot ≡ d.parts.slot + m = h.slot_is in let b : f.parts.slot ≡ e.parts.slot + n = k.slot_is in omega (arith, a, b);
      nodes = subst (λ x. Runs d.node x f.node) (sym (nodes_append h.list k.list)) (runs_append d.node (nodes_of h.list) e.node (nodes_of k.list) f.node h.nodes k.nodes);
      slots = subst (λ x. Runs d.slot x f.slot) (sym (slots_append h.list k.list)) (runs_append d.slot (slots_of h.list) e.slot (slots_of k.list) f.slot h.slots k.slots);
      decl_runs =
          subst (λ x. Runs d.parts.slot x f.parts.slot) (sym (decl_slots_append h.decls k.decls))
          (runs_append d.parts.slot (decl_slots h.decls) e.parts.slot (decl_slots k.decls) f.parts.slot h.decl_runs k.decl_runs);
      codes = k.codes ∙ h.codes;
      other_node = k.other_node ∙ h.other_node;
      other_slot = k.other_slot ∙ h.other_slot;
    }

-- one statement, whose parts add these
pub wrote_stmt : {m k : ℕ} (d : Draft) (p : Pos) (st : KStmt) (e : Draft) → Inside m k (begun d) (stmt_nodes st) (stmt_slots st) e →
    Wrote 0 (m + 1) k d (placed d.node p st e)
unfolding begun placed
wrote_stmt {m = m} {k = k} d p st e h =
    let hn : e.node ≡ d.node + 1 + m = h.node_is in
    record {
      node_is = omega (arith, hn);
      hidden_is = h.slot_is;
      list = record { node = d.node; pos = p; stmt = st } ∷ [];
      decls = [];
      list_is = ap (λ (x : Draft). x.parts.list ++ record { node = d.node; pos = p; stmt = st } ∷ []) h.stays;
      decls_is = ap (λ (x : Draft). x.parts.decls) h.stays ∙ append_none d.parts.decls;
      slot_is = let s : e.parts.slot ≡ d.parts.slot = ap (λ (x : Draft). x.parts.slot) h.stays in omega (arith, s);
      nodes = (refl, subst (λ x. Runs (d.node + 1) x e.node) (append_none (stmt_nodes st)) h.node_runs);
      slots = subst (λ x. Runs d.slot x e.slot) (append_none (stmt_slots st)) h.slot_runs;
      decl_runs = ap (λ (x : Draft). x.parts.slot) h.stays;
      codes = ap (λ (x : Draft). x.codes) h.stays;
      other_node = ap (λ (x : Draft). x.other_node) h.stays;
      other_slot = ap (λ (x : Draft). x.other_slot) h.stays;
    }

-- a block in which that was written
pub block_inside : {m k : ℕ} (n : ℕ) (f : Draft → Draft) (d : Draft) → Wrote n m k (opened n d) (f (opened n d)) →
    Inside (m + 1) (n + k) d (block_nodes (block_of n f d)) (block_slots (block_of n f d)) (around_block n f d)
unfolding outside opened written closed
block_inside {m = m} {k = k} n f d h =
    let e : Draft = f (opened n d) in
    let hn : e.node ≡ d.node + 1 + m = h.node_is in
    let hs : e.slot ≡ d.slot + n + k = h.hidden_is in
    let made : decl_slots e.parts.decls ++ slots_of e.parts.list ≡ decl_slots h.decls ++ slots_of h.list =
    ap (λ x. decl_slots x ++ slots_of e.parts.list) h.decls_is ∙ ap (λ x. decl_slots h.decls ++ slots_of x) h.list_is in
    record {
      node_is = omega (arith, hn);
      slot_is = omega (arith, hs);
      stays =
          ap (λ x. record (shell d) { other_node = x; other_slot = e.other_slot; codes = e.codes }) h.other_node
          ∙ ap (λ x. record (shell d) { other_slot = x; codes = e.codes }) h.other_slot
          ∙ ap (λ x. record (shell d) { codes = x }) h.codes;
      node_runs =
          subst (λ x. Runs d.node x e.node)
          (sym (rolled_nodes d.node e.parts.decls e.parts.list ∙ ap (λ x. d.node ∷ nodes_of x) h.list_is))
          (refl, h.nodes);
      slot_runs =
          subst (λ x. Runs d.slot x e.slot)
          (sym (rolled_slots d.node e.parts.decls e.parts.list ∙ made))
          (runs_append d.slot (decl_slots h.decls) (d.slot + n) (slots_of h.list) e.slot (subst (λ x. Runs d.slot (decl_slots h.decls) x) h.slot_is h.decl_runs) h.slots);
    }

-- a block without statements
pub empty_inside : (d : Draft) → Inside 1 0 d (block_nodes (block_of 0 nothing_in d)) (block_slots (block_of 0 nothing_in d)) (around_block 0 nothing_in d)
empty_inside d = block_inside 0 nothing_in d (wrote_same (opened 0 d) (opened 0 d) refl)

pub inside_as : {m n : ℕ} {d e : Draft} {xs ys us vs : List ℕ} → ys ≡ xs → vs ≡ us → Inside m n d xs us e → Inside m n d ys vs e
inside_as {m = m} {n = n} {d = d} {e = e} {ys = ys} {us = us} h k i = subst (λ u. Inside m n d ys u e) (sym k) (subst (λ x. Inside m n d x us e) (sym h) i)
