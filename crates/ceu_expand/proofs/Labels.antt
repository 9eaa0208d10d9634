-- Labels, from the outermost to the innermost.
use Rattle.std.proofs.Common.{◌≡◌, refl, ap, ℕ, zero, suc, ◌<◌, length, take, get_or, arith, List, [], ◌∷◌, ◌++◌}
use Rattle.ceu_expand.specs.declared.draft.LabelNode.{LabelNode}
use Rattle.ceu_expand.specs.Draft.{all_but_last}
use Rattle.ceu_expand.specs.Uses.{node_or, label_node}

pub last_dropped : (ls : List LabelNode) (l : LabelNode) → all_but_last (ls ++ l ∷ []) ≡ ls
last_dropped [] l = refl
last_dropped (m ∷ []) l = refl
last_dropped (m ∷ n ∷ ls) l = ap (λ r. m ∷ r) (last_dropped (n ∷ ls) l)

pub node_none : (x : List ℕ) (n : ℕ) → label_node [] x n ≡ n
unfolding label_node
node_none x n = refl

pub node_more : (ls : List LabelNode) (x : List ℕ) (n i : ℕ) (d : LabelNode) → i < length ls →
    label_node (take (suc i) ls) x n ≡ node_or (get_or ls i d) x (label_node (take i ls) x n)
unfolding label_node
node_more [] x n i d h = absurd (omega arith)
node_more (l ∷ ls) x n zero d h = refl
node_more (l ∷ ls) x n (suc i) d h = node_more ls x (node_or l x n) i d (omega arith)

pub ruleset labels = (last_dropped, node_none, node_more)
