-- The ports and the codes of an image have spellings.
use Rattle.std.proofs.Common.{◌≡◌, ◌≢◌, refl, Some, ℕ, ◌+◌, ◌^◌, ◌<◌, ◌≤◌, Bool, true, false, not, ◌&&◌, if◌then◌else◌, IsTrue, nat_le, nat_lt, List, [], ◌∷◌, length, map, arith}
use Rattle.std.specs.List.{AllByRecursion, list_all, list_any}
use Rattle.std.proofs.lemmas.Bool.{and_parts, leb-true, ltb-true}
use Rattle.ceu_base.specs.declared.kinds.Port.{Port}
use Rattle.ceu_base.specs.declared.kinds.Ty.{Ty}
use Rattle.ceu_base.specs.declared.kinds.Ty.TheVariants as ty
use Rattle.ceu_tree.specs.declared.kernel.Kernel.{Kernel}
use Rattle.ceu_tree.specs.declared.kernel.KCode.{KCode}
use Rattle.ceu_tree.specs.declared.kernel.KDecl.{KDecl}
use Rattle.ceu_tree.specs.declared.kernel.KKind.{KKind}
use Rattle.ceu_tree.specs.declared.kernel.KKind.TheVariants as kind
use Rattle.ceu_tree.specs.declared.kernel.KBlock.{KBlock, KBlock'}
use Rattle.ceu_tree.specs.Needs.{block_gates}
use Rattle.ceu_tree.specs.Proper as proper
use Rattle.ceu_tree.specs.Proper.{ports_ok, is_external, is_external_letter, same_name, is_parameter, codes_ok, with_decls, body_scope, block_ok}
use Rattle.ceu_tree.specs.Typing.{same_ty}
use Rattle.ceu_asm.specs.declared.line.Line.{Line}
use Rattle.ceu_asm.specs.Lines.{is_mark, line_size, code_size, offset_of}
use Rattle.ceu_code.specs.Spelling.{is_name_byte, IsExternalName, IsPort, IsCodeRow}
use Rattle.ceu_shape.specs.Plans.{Plan, own_label}
use Rattle.ceu_shape.specs.Searches.{node_of_block, PoolRow}
use Rattle.ceu_shape.specs.Shape.{param_ty, code_rows, pool_code}
use Rattle.laws_code_placed.specs.Fits.{node_count}
use Rattle.laws_code_placed.specs.There.{BlockThere, CodesThere}
use Rattle.ceu_codegen.proofs.Searched.{RowsFit}

-- ---- ports

letters : (cs : List ℕ) → list_all is_external_letter cs ≡ true → AllByRecursion (λ c. IsTrue (is_name_byte c)) cs
letters [] ok = tt
letters (c ∷ cs) ok =
    let x = and_parts (is_external_letter c) (list_all is_external_letter cs) ok in
    (letter c x.0, letters cs x.1)
  where
    letter : (c : ℕ) → is_external_letter c ≡ true → IsTrue (is_name_byte c)
    letter c h = h

name_formed : (name : List ℕ) → is_external name ≡ true → IsExternalName name × (length name ≤ 64)
name_formed [] ok = absurd (cc)
name_formed (c ∷ cs) ok =
    let x = and_parts (proper.is_capital c && list_all is_external_letter cs) (nat_lt (length cs) 64) ok in
    let y = and_parts (proper.is_capital c) (list_all is_external_letter cs) x.0 in
    let short = ltb-true (length cs) 64 x.1 in
    ((y.0, letters cs y.1), omega (arith, short))

pub ports_formed : (ps : List Port) → ports_ok ps ≡ true → AllByRecursion IsPort ps
ports_formed [] ok = tt
ports_formed (p ∷ ps) ok =
    let x = and_parts (is_external p.name && not (list_any (λ q. same_name p.name q.name) ps)) (ports_ok ps) ok in
    let y = and_parts (is_external p.name) (not (list_any (λ q. same_name p.name q.name) ps)) x.0 in
    let z = name_formed p.name y.0 in
    (record { form = z.0; short = z.1 }, ports_formed ps x.1)

-- ---- codes

some_param : (t : Ty) → not (same_ty t ty.None) ≡ true → t ≢ ty.None
some_param ty.None h = absurd (cc)
some_param ty.Bool h = λ e. cc
some_param ty.U8 h = λ e. cc
some_param ty.S8 h = λ e. cc
some_param ty.U16 h = λ e. cc
some_param ty.S16 h = λ e. cc
some_param ty.U32 h = λ e. cc
some_param ty.S32 h = λ e. cc
some_param ty.U64 h = λ e. cc
some_param ty.S64 h = λ e. cc

param_typed : (K : Kernel) (names : List (List ℕ)) (d : KDecl) → is_parameter K names d ≡ true → param_ty d ≢ ty.None
param_typed K names d ok = go d.kind ok
  where
    go : (k : KKind) → elim k [ kind.Var t ↦ not (same_ty t ty.None) | _ ↦ false ] ≡ true → elim k [ kind.Var t ↦ t | _ ↦ ty.None ] ≢ ty.None
    go (kind.Var t) h = some_param t h
    go (kind.Alias c) h = absurd (cc)
    go (kind.Pool n c) h = absurd (cc)

params_typed : (K : Kernel) (names : List (List ℕ)) (ds : List KDecl) → list_all (is_parameter K names) ds ≡ true → AllByRecursion (λ t. t ≢ ty.None) (map param_ty ds)
params_typed K names [] ok = tt
params_typed K names (d ∷ ds) ok =
    let x = and_parts (is_parameter K names d) (list_all (is_parameter K names) ds) ok in
    (param_typed K names d x.0, params_typed K names ds x.1)

params_length : (ds : List KDecl) → length (map param_ty ds) ≡ length ds
params_length [] = refl
params_length (d ∷ ds) = let more = params_length ds in omega (arith, more)

offset_within : (label : ℕ) (ls : List Line) → offset_of label ls ≤ code_size ls
offset_within label [] = omega arith
offset_within label (x ∷ ls) = go (is_mark label x) (offset_within label ls)
  where
    go : (b : Bool) → offset_of label ls ≤ code_size ls → (if b then 0 else (line_size x + offset_of label ls)) ≤ line_size x + code_size ls
    go true h = omega arith
    go false h = omega arith

body_here : (P : Plan) (K : Kernel) (b : KBlock) → BlockThere P K b → node_of_block b < node_count K
unfolding BlockThere
body_here P K (KBlock' n ds x list) h = h.0.here

module _ (P : Plan) (K : Kernel) (names : List (List ℕ)) (lines : List Line) (short : code_size lines ≤ 65535) (frames : (code : ℕ) → P.frame code ≤ 65535)
    (counts : (node : ℕ) → node < node_count K → P.count node ≤ 65535) where
  pub rows_formed : (k j : ℕ) (cs : List KCode) → codes_ok K names j cs ≡ true → CodesThere P K cs → AllByRecursion IsCodeRow (code_rows P lines k cs)
  rows_formed k j [] ok there = tt
  rows_formed k j (c ∷ cs) ok there =
      let x = and_parts _ (codes_ok K names (j + 1) cs) ok in
      let y = and_parts _ (block_ok K names (with_decls c.params (body_scope K names (Some j) c.body c.result)) c.body) x.0 in
      let z = and_parts (list_all (is_parameter K names) c.params) (nat_le (length c.params) 255) y.0 in
      let few = leb-true (length c.params) 255 z.1 in
      let frame = frames k in
      let count = counts (node_of_block c.body) (body_here P K c.body there.0) in (
        record {
          entry = omega (arith, offset_within (own_label (node_of_block c.body)) lines, short);
          frame = omega (arith, frame);
          gates = omega (arith, count);
          few = omega (arith, few, params_length c.params);
          typed = params_typed K names c.params z.0;
        },
        rows_formed (k + 1) (j + 1) cs x.1 there.1,
      )

  pub rows_length : (k : ℕ) (cs : List KCode) → length (code_rows P lines k cs) ≡ length cs
  rows_length k [] = refl
  rows_length k (c ∷ cs) = let more = rows_length (k + 1) cs in omega (arith, more)

-- ---- pools

pub pools_formed : (K : Kernel) (rs : List PoolRow) → length K.codes ≤ 65535 → RowsFit K rs → AllByRecursion (λ pool. pool < 2 ^ 16) (map pool_code rs)
pools_formed K [] few h = tt
pools_formed K (r ∷ rs) few h = (omega (arith, few, h.0.1), pools_formed K rs few h.1)

-- ---- gates

pub block_some : (all : List ℕ) (b : KBlock) → 1 ≤ block_gates all b
unfolding block_gates
block_some all (KBlock' n ds x list) = omega arith
