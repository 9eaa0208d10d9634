-- A look-up in a map of texts, as one in the list of its names with their bytes.
use Rattle.std.proofs.Common.{◌≡◌, ℕ, Bool, true, false, cond, List, [], ◌∷◌, Option, Some, refl, sym, ap, ◌∙◌}
use Rattle.std.specs.Prelude.{option_map}
use Rattle.std.specs.Map.{lookup}
use Rattle.std.specs.BTreeMap.{BTreeMap, UpdatesBy, get_by_text, is_at}
use Rattle.std.specs.Cmp.Lexicographic.{slice_cmp}
use Rattle.std.specs.Global.{Vec, Global}
use Rattle.std.specs.Ordering.{nat_cmp}
use Rattle.std.specs.Str.{bytes_eq}
use Rattle.std.specs.String.{string_bytes, string_cmp}
use Rattle.std.specs.declared.string.String.{String}
use Rattle.std.proofs.lemmas.Bool.{false_from_ne_true}
use Rattle.std.proofs.lemmas.Map.Text.{is_eq-slice_cmp, btree_map_updates_text}
use Rattle.std.proofs.lemmas.Slice.Eq.{bytes_eq-Decides}
use Rattle.ceu_io.specs.Files.{file_of, texts, Puts}

-- the bytes that a map finds
abbrev pub items_of : Option (Vec ℕ) → Option (List ℕ)
items_of found = option_map (λ v. v.items) found

cond_items : (b c : Bool) (v : Vec ℕ) (x : Option (List ℕ)) (y : Option (Vec ℕ)) → b ≡ c → x ≡ items_of y → cond b (Some v.items) x ≡ items_of (cond c (Some v) y)
cond_items false false v x y same rest = rest
cond_items false true v x y same rest = absurd (cc)
cond_items true false v x y same rest = absurd (cc)
cond_items true true v x y same rest = refl

pub file_of-texts : (name : List ℕ) (entries : List (String Global × Vec ℕ)) → file_of (texts entries) name ≡ items_of (lookup (is_at (λ k. slice_cmp nat_cmp name (string_bytes k))) entries)
file_of-texts name [] = refl
file_of-texts name (e ∷ entries) = cond_items _ _ e.1 _ _ (sym (is_eq-slice_cmp name (string_bytes e.0))) (file_of-texts name entries)

-- what a look-up found is the file
pub file_found : (files : List (List ℕ × List ℕ)) (m : BTreeMap (String Global) (Vec ℕ)) (name : List ℕ) (found : Option (Vec ℕ)) → texts m.entries ≡ files → found ≡ get_by_text m name → file_of files name ≡ items_of found
file_found files m name found seen is = ap (λ (l : List (List ℕ × List ℕ)). file_of l name) (sym seen) ∙ file_of-texts name m.entries ∙ ap items_of (sym is)

cond_true : (b : Bool) (x y : Option (Vec ℕ)) → b ≡ true → cond b x y ≡ x
cond_true true x y is = refl
cond_true false x y is = absurd (cc)

cond_false : (b : Bool) (x y : Option (Vec ℕ)) → b ≡ false → cond b x y ≡ y
cond_false false x y is = refl
cond_false true x y is = absurd (cc)

pub puts : (files : List (List ℕ × List ℕ)) (m n : BTreeMap (String Global) (Vec ℕ)) (name : List ℕ) (v : Vec ℕ) → texts m.entries ≡ files
    → UpdatesBy string_cmp (λ k. slice_cmp nat_cmp name (string_bytes k)) m n (Some v) → Puts files (texts n.entries) name v.items
puts files m n name v seen updates = record {
  put = file_of-texts name n.entries ∙ ap items_of (btree_map_updates_text name m n (Some v) updates name ∙ cond_true (bytes_eq name name) _ _ ((bytes_eq-Decides name name).1 refl));
  others = λ other differs. file_of-texts other n.entries
      ∙ ap items_of (btree_map_updates_text name m n (Some v) updates other ∙ cond_false (bytes_eq name other) _ _ (false_from_ne_true _ (λ same. differs (sym ((bytes_eq-Decides name other).0 same)))))
      ∙ sym (file_of-texts other m.entries) ∙ ap (λ (l : List (List ℕ × List ℕ)). file_of l other) seen;
}
