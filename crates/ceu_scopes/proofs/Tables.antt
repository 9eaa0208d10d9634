-- A table of names as the list that contracts see.
use Rattle.std.proofs.Common.{◌≡◌, refl, ap, Bool, true, false, List, [], ◌∷◌, ℕ, bytes_eq, if◌then◌else◌, cond, Some, String, string_bytes, string_eq}
use Rattle.std.specs.Map.{lookup}
use Rattle.indexmap.specs.IndexMap.{insert_entry}
use Rattle.ceu_scopes.specs.declared.known.Known.{Known}
use Rattle.ceu_scopes.specs.Entries.{pair, pairs}
use Rattle.ceu_scopes.specs.Shown.{found, entered}

module _ {A : Type 0} where
  pub lookup-pairs : (x : List ℕ) (es : List (String A × Known)) → lookup (λ k. bytes_eq x (string_bytes k)) es ≡ found (pairs es) x
  lookup-pairs x [] = refl
  lookup-pairs x (e ∷ es) = ap (λ r. cond (bytes_eq x (string_bytes e.0)) (Some e.1) r) (lookup-pairs x es)

  pub pairs-insert_entry : (es : List (String A × Known)) (key : String A) (k : Known) → pairs (insert_entry string_eq es key k) ≡ entered (pairs es) (string_bytes key) k
  pairs-insert_entry [] key k = refl
  pairs-insert_entry (e ∷ es) key k = by (string_eq key e.0) (pairs-insert_entry es key k)
    where
      by : (b : Bool) → pairs (insert_entry string_eq es key k) ≡ entered (pairs es) (string_bytes key) k
          → pairs (if b then (e.0, k) ∷ es else e ∷ insert_entry string_eq es key k) ≡ (if b then (string_bytes e.0, k) ∷ pairs es else pair e ∷ entered (pairs es) (string_bytes key) k)
      by true ih = refl
      by false ih = ap (λ r. pair e ∷ r) ih
