-- The table of what codes name by `outer`, which goes on with each code.
use Rattle.std.proofs.Common.{◌≡◌, refl, sym, ap, ◌∙◌, ℕ, ◌+◌, length, arith, List, [], ◌∷◌, ◌++◌, false}
use Rattle.ceu_tree.specs.declared.kernel.KCode.{KCode}
use Rattle.ceu_tree.specs.Mentions.{named_by, block_names, outer_names_from}
use Rattle.ceu_expand.specs.declared.draft.Draft.{Draft}
use Rattle.laws_kernel_shape.proofs.Inside.{append_none, append_assoc}

pub grows : (names : List (List ℕ)) (cs : List KCode) → (more : List (List ℕ)) × (outer_names_from names cs ≡ names ++ more)
grows names [] = ([], append_none names)
grows names (c ∷ cs) =
    let x = block_names false names c.body in
    let h = grows (names ++ x ∷ []) cs in
    (x ∷ h.0, h.1 ∙ append_assoc names (x ∷ []) h.0)

table_more : (names : List (List ℕ)) (cs : List KCode) (c : KCode) → outer_names_from names (cs ++ c ∷ []) ≡ outer_names_from names cs ++ block_names false (outer_names_from names cs) c.body ∷ []
table_more names [] c = refl
table_more names (x ∷ cs) c = table_more (names ++ block_names false names x.body ∷ []) cs c

length_one : (xs : List (List ℕ)) (x : List ℕ) → length (xs ++ x ∷ []) ≡ length xs + 1
length_one [] x = refl
length_one (y ∷ ys) x = let e = length_one ys x in omega (arith, e)

table_length : (names : List (List ℕ)) (cs : List KCode) → length (outer_names_from names cs) ≡ length names + length cs
table_length names [] = omega arith
table_length names (c ∷ cs) =
    let x = block_names false names c.body in
    let h = table_length (names ++ x ∷ []) cs in
    let one = length_one names x in
    omega (arith, h, one)

named_here : (xs : List (List ℕ)) (y : List ℕ) (zs : List (List ℕ)) → named_by (length xs) (xs ++ y ∷ zs) ≡ y
named_here [] y zs = refl
named_here (x ∷ xs) y zs = named_here xs y zs

-- the table of the codes so far, with which the whole one begins
abbrev pub table_of : Draft → List (List ℕ)
table_of d = outer_names_from [] d.codes

pub record Tabled (T : List (List ℕ)) (d : Draft) : Type 0 where
  pub rest : List (List ℕ)
  pub is : T ≡ table_of d ++ rest

pub tabled_same : (T : List (List ℕ)) (d e : Draft) → e.codes ≡ d.codes → Tabled T e → Tabled T d
tabled_same T d e same h = record { rest = h.rest; is = h.is ∙ ap (λ cs. outer_names_from [] cs ++ h.rest) same }

module _ (T : List (List ℕ)) (d e : Draft) (c : KCode) (one : e.codes ≡ d.codes ++ c ∷ []) (h : Tabled T e) where
  whole_is : T ≡ table_of d ++ (block_names false (table_of d) c.body ∷ h.rest)
  whole_is = h.is ∙ ap (λ cs. outer_names_from [] cs ++ h.rest) one ∙ ap (λ x. x ++ h.rest) (table_more [] d.codes c) ∙ append_assoc (table_of d) (block_names false (table_of d) c.body ∷ []) h.rest

  pub tabled_before : Tabled T d
  tabled_before = record { rest = block_names false (table_of d) c.body ∷ h.rest; is = whole_is }

  -- the code's own entry
  pub tabled_own : named_by (length d.codes) T ≡ block_names false (table_of d) c.body
  tabled_own =
      let count : length (table_of d) ≡ length d.codes = let e = table_length [] d.codes in omega (arith, e) in
      ap (named_by (length d.codes)) whole_is ∙ ap (λ k. named_by k (table_of d ++ (block_names false (table_of d) c.body ∷ h.rest))) (sym count) ∙ named_here (table_of d) (block_names false (table_of d) c.body) h.rest
