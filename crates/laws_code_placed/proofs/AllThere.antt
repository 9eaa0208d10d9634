-- What the parts of a proper kernel name is there: the whole.
use Rattle.std.proofs.Common.{◌≡◌, refl, subst, ℕ, zero, suc, ◌+◌, ◌<◌, ◌≤◌, true, ◌&&◌, List, [], ◌∷◌, ◌++◌, length, Option, Some, None, arith}
use Rattle.std.specs.List.{list_all}
use Rattle.std.proofs.lemmas.Bool.{and_parts, ltb-true}
use Rattle.ceu_base.specs.declared.kinds.Ty.{Ty}
use Rattle.ceu_base.specs.declared.kinds.Ty.TheVariants as ty
use Rattle.ceu_tree.specs.declared.kernel.Kernel.{Kernel}
use Rattle.ceu_tree.specs.declared.kernel.KCode.{KCode}
use Rattle.ceu_tree.specs.declared.kernel.KBlock.{KBlock, KBlock', out-KBlock}
use Rattle.ceu_tree.specs.Leaf.{code_at}
use Rattle.ceu_tree.specs.Mentions.{all_set, outer_names_from}
use Rattle.ceu_tree.specs.Needs.{block_gates, gates_from}
use Rattle.ceu_tree.specs.Numbering.{block_nodes, codes_nodes, decl_slots, list_slots, block_slots, codes_slots}
use Rattle.ceu_tree.specs.Proper.{Proper, Scope, is_above, decl_ok, is_parameter, with_decls, body_scope, pools_seen, pool_slots, declared_seen, block_ok, nodes_ok, codes_ok}
use Rattle.ceu_gates.specs.Ranges.{block_ranges, codes_ranges}
use Rattle.ceu_slots.specs.Law.{FramesKept}
use Rattle.ceu_shape.specs.Plans.{Plan}
use Rattle.ceu_shape.specs.Searches.{node_of_block, escape_target, pool_size}
use Rattle.laws_code_placed.specs.Fits.{PlanFits, slot_count, node_count}
use Rattle.laws_code_placed.specs.There.{SlotThere, TargetThere, BlockThere, CodesThere}
use Rattle.laws_code_placed.specs.Laws.{NamesAreThere}
use Rattle.laws_code_placed.proofs.Slots.{all_split, counted_below, numbered_both, slots_small}
use Rattle.laws_code_placed.proofs.Scopes.{AllSeen, OuterFine, SlotsThere, declared_fine, parameters_fine}
use Rattle.laws_code_placed.proofs.GateTables.{Kept, AllKept, Tabled, From, none_tabled, from_start, from_next, tabled_next, body_tabled, body_kept, codes_kept, gates_small}
use Rattle.laws_code_placed.proofs.Grounds.{Ground, ground_append, block_ground, AimsWithin, out_node}
use Rattle.laws_code_placed.proofs.Declared.{BodiesThere, Tables}
use Rattle.laws_code_placed.proofs.Searched.{kernel_found, pool_size_few}
use Rattle.laws_code_placed.proofs.ThereParts.{Standing, Part, body_there}
use Rattle.laws_code_placed.proofs.Whole.{body_proper}
use denote.Hole.Carrier

module _ (P : Plan) (K : Kernel) (fits : PlanFits P K) (proper : Proper K) where
  -- the outermost block's own slots
  outermost : (names : List (List ℕ)) (sc : Scope) (b : KBlock) → SlotsThere P K (block_slots b) → block_ok K names sc b ≡ true → AllSeen P K (declared_seen [] (out-KBlock b).decls [])
  unfolding block_slots block_ok out-KBlock Carrier.out
  outermost names sc (KBlock' n ds x list) slots ok =
      let y = and_parts (list_all (decl_ok K sc) ds && all_set names ds list) (nodes_ok K names (with_decls ds sc) list) ok in
      declared_fine P K sc [] ds [] (and_parts (list_all (decl_ok K sc) ds) (all_set names ds list) y.0).0 (all_split (SlotThere P K) (decl_slots ds) (list_slots list) slots).0 tt

  bodies_below : (first : ℕ) (cs : List KCode) → Ground (node_count K) first (codes_nodes cs) → (c : ℕ) (k : KCode) → code_at c cs ≡ Some k → node_of_block k.body < node_count K
  bodies_below first [] g c k e = absurd (cc)
  bodies_below first (x ∷ cs) g zero k e =
      let same : x ≡ k = cc in
      subst (λ (y : KCode). node_of_block y.body < node_count K) same (block_ground (node_count K) first x.body (ground_append (node_count K) first (block_nodes x.body) (codes_nodes cs) g).0).1
  bodies_below first (x ∷ cs) g (suc c) k e = bodies_below (first + length (block_nodes x.body)) cs (ground_append (node_count K) first (block_nodes x.body) (codes_nodes cs) g).1 c k e

  body_aims : (names : List (List ℕ)) (code : Option ℕ) (b : KBlock) (t : Ty) (first : ℕ) → Ground (node_count K) first (block_nodes b) → AimsWithin (node_count K) (body_scope K names code b t).aims
  body_aims names code b t first g = let h = (block_ground (node_count K) first b g).1 in (omega (arith, h, out_node b), tt)

  module _ (names : List (List ℕ)) (outer : OuterFine P K) (bodies : BodiesThere P K fits proper) (targets : (node : ℕ) → TargetThere P K (escape_target K node)) (pools : (slot : ℕ) → pool_size K slot ≤ 65535) where
    codes_there : (table : List ℕ) (k first : ℕ) (cs : List KCode) → From P K fits k cs → Tabled P K fits table k → AllKept P K fits (codes_ranges table cs) → Ground (node_count K) first (codes_nodes cs) → SlotsThere P K (codes_slots cs) →
        FramesKept P.offset fits.size P.frame k cs → codes_ok K names k cs ≡ true → CodesThere P K cs
    codes_there table k first [] from tabled kept nodes slots frames ok = tt
    codes_there table k first (c ∷ cs) from tabled kept nodes slots frames ok =
        let later : List ℕ = table ++ block_gates table c.body ∷ [] in
        let sc : Scope = with_decls c.params (body_scope K names (Some k) c.body c.result) in
        let x = and_parts _ (codes_ok K names (k + 1) cs) ok in
        let y = and_parts _ (block_ok K names sc c.body) x.0 in
        let params = (and_parts (list_all (is_parameter K names) c.params) _ y.0).0 in
        let ranges = all_split (Kept P K fits) (block_ranges table 0 c.body) (codes_ranges later cs) kept in
        let ground = ground_append (node_count K) first (block_nodes c.body) (codes_nodes cs) nodes in
        let split = all_split (SlotThere P K) (decl_slots c.params ++ block_slots c.body) (codes_slots cs) slots in
        let own = all_split (SlotThere P K) (decl_slots c.params) (block_slots c.body) split.0 in
        let tables : Tables P K fits proper table (Some k) = λ (j : ℕ) (up : is_above K j (Some k) ≡ true) (low : j < length K.codes). tabled.each j (ltb-true j k up) in
        let standing : Standing P K fits proper outer bodies names targets pools table (Some k) tables sc = record {
          aims = body_aims names (Some k) c.body c.result first ground.0;
          seen = parameters_fine P K (pool_slots c.params ++ pools_seen []) c.params names [] params own.0 tt;
          code_is = refl;
        } in
        let part : Part P K fits proper outer bodies names targets pools table (Some k) tables first (block_nodes c.body) (block_slots c.body) (block_ranges table 0 c.body) = record { nodes = ground.0; slots = own.1; ranges = ranges.0 } in (
          body_there P K fits proper outer bodies names targets pools table (Some k) tables sc first 0 c.body standing part (λ e. frames.0.body_sized) y.1,
          codes_there later (k + 1) (first + length (block_nodes c.body)) cs (from_next P K fits k c cs from) (tabled_next P K fits table k c cs from tabled ranges.0) ranges.1 ground.1 split.1 frames.1 x.1,
        )

    program_there : Ground (node_count K) 0 (block_nodes K.body) → SlotsThere P K (block_slots K.body) → block_ok K names (body_scope K names None K.body ty.S32) K.body ≡ true → BlockThere P K K.body
    program_there nodes slots ok =
        let table : List ℕ = gates_from [] K.codes in
        let tabled = body_tabled P K fits proper in
        let sc : Scope = body_scope K names None K.body ty.S32 in
        let tables : Tables P K fits proper table None = λ (j : ℕ) (up : is_above K j None ≡ true) (low : j < length K.codes). tabled.each j low in
        let standing : Standing P K fits proper outer bodies names targets pools table None tables sc = record { aims = body_aims names None K.body ty.S32 0 nodes; seen = tt; code_is = refl } in
        let part : Part P K fits proper outer bodies names targets pools table None tables 0 (block_nodes K.body) (block_slots K.body) (block_ranges table 0 K.body) = record { nodes = nodes; slots = slots; ranges = body_kept P K fits proper } in
        body_there P K fits proper outer bodies names targets pools table None tables sc 0 0 K.body standing part (λ e. fits.kept.body_sized) ok

pub names_there : NamesAreThere
names_there P K proper fits =
    let names : List (List ℕ) = outer_names_from [] K.codes in
    let counted = numbered_both K proper in
    let ok = body_proper K proper in
    let nodes : List ℕ = block_nodes K.body ++ codes_nodes K.codes in
    let ground : Ground (node_count K) 0 nodes = record { counts = counted.0; fits = omega arith } in
    let grounds = ground_append (node_count K) 0 (block_nodes K.body) (codes_nodes K.codes) ground in
    let slots : SlotsThere P K (block_slots K.body ++ codes_slots K.codes) = counted_below 0 (slot_count K) (block_slots K.body ++ codes_slots K.codes) counted.1 (omega arith) in
    let own = all_split (SlotThere P K) (block_slots K.body) (codes_slots K.codes) slots in
    let outer : OuterFine P K = outermost P K fits proper names (body_scope K names None K.body ty.S32) K.body own.0 ok.0 in
    let bodies : BodiesThere P K fits proper = bodies_below P K fits proper (0 + length (block_nodes K.body)) K.codes grounds.1 in
    let found = kernel_found P K fits proper outer bodies names slots ok.0 ok.1 in
    let pools : (slot : ℕ) → pool_size K slot ≤ 65535 = λ (slot : ℕ). pool_size_few P K fits proper outer bodies names slot found.few in
    record {
      body = program_there P K fits proper names outer bodies found.targets pools grounds.0 own.0 ok.0;
      codes = codes_there P K fits proper names outer bodies found.targets pools [] 0 (0 + length (block_nodes K.body)) K.codes (from_start P K fits) (none_tabled P K fits) (codes_kept P K fits proper) grounds.1 own.1 fits.kept.frames ok.1;
      slots = λ slot low. (let small = slots_small P K fits proper slot low in omega (arith, small));
      firsts = λ node low. (gates_small P K fits proper node low).0;
      counts = λ node low. (gates_small P K fits proper node low).1;
    }
