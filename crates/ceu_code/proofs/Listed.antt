-- The lists of an image.
use Rattle.std.proofs.Common.{◌≡◌, ℕ, ◌^◌, ◌≤◌, ◌<◌, ◌⊎◌, inl, inr, List, [], ◌∷◌, ◌++◌, refl, sym, ap, ◌∙◌, subst, arith, lit<, lit≤}
use Rattle.ceu_code.specs.declared.decoding.DecodeError.{DecodeError}
use Rattle.ceu_code.specs.Reading.{Reads, Words, Unique, Refused, Counted}
use Rattle.ceu_code.proofs.Reading.{Pair, pair_if, pair_second, read_pair, some_pair, unique_pair, refused_as, reads_as, unique_as}
use Rattle.ceu_base.specs.declared.kinds.Port.{Port}
use Rattle.ceu_base.specs.declared.kinds.Pos.{Pos}
use Rattle.ceu_code.specs.declared.image.CodeRow.{CodeRow}
use Rattle.ceu_code.specs.declared.decoder.Lists.{Lists}
use Rattle.ceu_code.specs.Spelling.{half, port, code_row, position, pool_list, counted, IsPort, IsCodeRow, IsPlace}
use Rattle.ceu_code.specs.Decoding.{IsPools, IsLists}
use Rattle.ceu_code.proofs.Rows.{unique_counted, unique_half}
use Rattle.ceu_code.proofs.Parsed.{unique_row, unique_place}
use Rattle.ceu_code.proofs.Ports.{unique_port}

some_counted : {V : Type 0} (Valid : V → Type 0) (spell : V → List ℕ) → (w : List ℕ) × Words (Counted Valid spell 0) w
some_counted Valid spell = (counted spell [], ([], ((lit≤ tt, lit≤ tt), (tt, refl))))

-- with pools the list is that of version 2
two_to : (ps : List ℕ) (w : List ℕ) → Counted (λ n. n < 2 ^ 16) half 1 ps w → IsPools 2 ps w
two_to [] w f = absurd (let h : 1 ≤ 0 = f.0.0 in omega arith)
two_to (p ∷ ps) w f = (refl, (f.0.1, (f.1.0, f.1.1)))

two_from : (ps : List ℕ) (w : List ℕ) → IsPools 2 ps w → Counted (λ n. n < 2 ^ 16) half 1 ps w
two_from [] w f = absurd (let h : 1 ≡ 2 = f.0 in omega arith)
two_from (p ∷ ps) w f = ((omega arith, f.1.0), (f.1.1.0, f.1.1.1))

pub unique_pools : (v : ℕ) → Unique (IsPools v)
unique_pools v [] [] a b x y f g e = (refl, f.1.1.1 ∙ sym g.1.1.1)
unique_pools v [] (u ∷ us) a b x y f g e = absurd (let h : 1 ≡ v = f.0 in let k : 2 ≡ v = g.0 in omega arith)
unique_pools v (p ∷ ps) [] a b x y f g e = absurd (let h : 2 ≡ v = f.0 in let k : 1 ≡ v = g.0 in omega arith)
unique_pools v (p ∷ ps) (u ∷ us) a b x y f g e = unique_counted (λ n. n < 2 ^ 16) half unique_half 1 (p ∷ ps) (u ∷ us) a b x y (two_from (p ∷ ps) a (refl, f.1)) (two_from (u ∷ us) b (refl, g.1)) e

pub pools_refused : (v : ℕ) (bytes : List ℕ) (at : ℕ) (e : DecodeError) → v ≡ 2 → Refused (Words (Counted (λ n. n < 2 ^ 16) half 1)) bytes at e → Refused (Words (IsPools v)) bytes at e
pools_refused v bytes at e is r = subst (λ (n : ℕ). Refused (Words (IsPools n)) bytes at e) (sym is) (refused_as (Counted (λ n. n < 2 ^ 16) half 1) (IsPools 2) (λ ps. ps) (λ ps. ps) bytes at e two_to two_from r)

pub pools_read : (v : ℕ) (bytes : List ℕ) (at next : ℕ) (ps : List ℕ) → v ≡ 2 → Reads (Counted (λ n. n < 2 ^ 16) half 1) bytes at ps next → Reads (IsPools v) bytes at ps next
pools_read v bytes at next ps is r = subst (λ (n : ℕ). Reads (IsPools n) bytes at ps next) (sym is) (reads_as (Counted (λ n. n < 2 ^ 16) half 1) (IsPools 2) bytes at next ps ps (two_to ps) r)

pub some_pools : (v : ℕ) → (v ≡ 1) ⊎ (v ≡ 2) → (w : List ℕ) × Words (IsPools v) w
some_pools v (inl e) = ([], ([], (sym e, (lit≤ tt, (tt, refl)))))
some_pools v (inr e) = (counted half (0 ∷ []), (0 ∷ [], (sym e, (lit≤ tt, ((lit< tt, tt), refl)))))

abbrev pub list_form0 : (v : ℕ) (sp : (w : List ℕ) × Words (IsPools v) w) → List Port → List ℕ → Type 0
list_form0 v sp = Counted IsPort port 0

abbrev pub list_form1 : (v : ℕ) (sp : (w : List ℕ) × Words (IsPools v) w) (inputs : List Port) → List Port → List ℕ → Type 0
list_form1 v sp inputs = Counted IsPort port 0

abbrev pub list_form2 : (v : ℕ) (sp : (w : List ℕ) × Words (IsPools v) w) (inputs : List Port) (outputs : List Port) → List CodeRow → List ℕ → Type 0
list_form2 v sp inputs outputs = Counted IsCodeRow code_row 0

abbrev pub list_form3 : (v : ℕ) (sp : (w : List ℕ) × Words (IsPools v) w) (inputs : List Port) (outputs : List Port) (codes : List CodeRow) → List ℕ → List ℕ → Type 0
list_form3 v sp inputs outputs codes = IsPools v

abbrev pub list_form4 : (v : ℕ) (sp : (w : List ℕ) × Words (IsPools v) w) (inputs : List Port) (outputs : List Port) (codes : List CodeRow) (pools : List ℕ) → List Pos → List ℕ → Type 0
list_form4 v sp inputs outputs codes pools = Counted IsPlace position 0

abbrev pub list4 : (v : ℕ) (sp : (w : List ℕ) × Words (IsPools v) w) (inputs : List Port) (outputs : List Port) (codes : List CodeRow) (pools : List ℕ) → List Pos → List ℕ → Type 0
list4 v sp inputs outputs codes pools = list_form4 v sp inputs outputs codes pools

abbrev pub list3 : (v : ℕ) (sp : (w : List ℕ) × Words (IsPools v) w) (inputs : List Port) (outputs : List Port) (codes : List CodeRow) → List ℕ × (List Pos) → List ℕ → Type 0
list3 v sp inputs outputs codes = Pair (list_form3 v sp inputs outputs codes) (λ pools. list4 v sp inputs outputs codes pools)

abbrev pub list2 : (v : ℕ) (sp : (w : List ℕ) × Words (IsPools v) w) (inputs : List Port) (outputs : List Port) → List CodeRow × (List ℕ × (List Pos)) → List ℕ → Type 0
list2 v sp inputs outputs = Pair (list_form2 v sp inputs outputs) (λ codes. list3 v sp inputs outputs codes)

abbrev pub list1 : (v : ℕ) (sp : (w : List ℕ) × Words (IsPools v) w) (inputs : List Port) → List Port × (List CodeRow × (List ℕ × (List Pos))) → List ℕ → Type 0
list1 v sp inputs = Pair (list_form1 v sp inputs) (λ outputs. list2 v sp inputs outputs)

abbrev pub list0 : (v : ℕ) (sp : (w : List ℕ) × Words (IsPools v) w) → List Port × (List Port × (List CodeRow × (List ℕ × (List Pos)))) → List ℕ → Type 0
list0 v sp = Pair (list_form0 v sp) (λ inputs. list1 v sp inputs)

pub list_unique4 : (v : ℕ) (sp : (w : List ℕ) × Words (IsPools v) w) (inputs : List Port) (outputs : List Port) (codes : List CodeRow) (pools : List ℕ) → Unique (list4 v sp inputs outputs codes pools)
list_unique4 v sp inputs outputs codes pools = unique_counted IsPlace position unique_place 0

pub list_unique3 : (v : ℕ) (sp : (w : List ℕ) × Words (IsPools v) w) (inputs : List Port) (outputs : List Port) (codes : List CodeRow) → Unique (list3 v sp inputs outputs codes)
list_unique3 v sp inputs outputs codes = unique_pair (list_form3 v sp inputs outputs codes) (λ pools. list4 v sp inputs outputs codes pools) (unique_pools v) (λ pools. list_unique4 v sp inputs outputs codes pools)

pub list_unique2 : (v : ℕ) (sp : (w : List ℕ) × Words (IsPools v) w) (inputs : List Port) (outputs : List Port) → Unique (list2 v sp inputs outputs)
list_unique2 v sp inputs outputs = unique_pair (list_form2 v sp inputs outputs) (λ codes. list3 v sp inputs outputs codes) (unique_counted IsCodeRow code_row unique_row 0) (λ codes. list_unique3 v sp inputs outputs codes)

pub list_unique1 : (v : ℕ) (sp : (w : List ℕ) × Words (IsPools v) w) (inputs : List Port) → Unique (list1 v sp inputs)
list_unique1 v sp inputs = unique_pair (list_form1 v sp inputs) (λ outputs. list2 v sp inputs outputs) (unique_counted IsPort port unique_port 0) (λ outputs. list_unique2 v sp inputs outputs)

pub list_unique0 : (v : ℕ) (sp : (w : List ℕ) × Words (IsPools v) w) → Unique (list0 v sp)
list_unique0 v sp = unique_pair (list_form0 v sp) (λ inputs. list1 v sp inputs) (unique_counted IsPort port unique_port 0) (λ inputs. list_unique1 v sp inputs)

list_some4 : (v : ℕ) (sp : (w : List ℕ) × Words (IsPools v) w) (inputs : List Port) (w_inputs : List ℕ) (f_inputs : list_form0 v sp inputs w_inputs) (outputs : List Port) (w_outputs : List ℕ) (f_outputs : list_form1 v sp inputs outputs w_outputs) (codes : List CodeRow) (w_codes : List ℕ) (f_codes : list_form2 v sp inputs outputs codes w_codes) (pools : List ℕ) (w_pools : List ℕ) (f_pools : list_form3 v sp inputs outputs codes pools w_pools) → (w : List ℕ) × Words (list4 v sp inputs outputs codes pools) w
list_some4 v sp inputs w_inputs f_inputs outputs w_outputs f_outputs codes w_codes f_codes pools w_pools f_pools = some_counted IsPlace position

list_some3 : (v : ℕ) (sp : (w : List ℕ) × Words (IsPools v) w) (inputs : List Port) (w_inputs : List ℕ) (f_inputs : list_form0 v sp inputs w_inputs) (outputs : List Port) (w_outputs : List ℕ) (f_outputs : list_form1 v sp inputs outputs w_outputs) (codes : List CodeRow) (w_codes : List ℕ) (f_codes : list_form2 v sp inputs outputs codes w_codes) → (w : List ℕ) × Words (list3 v sp inputs outputs codes) w
list_some3 v sp inputs w_inputs f_inputs outputs w_outputs f_outputs codes w_codes f_codes = let s : (w : List ℕ) × Words (list_form3 v sp inputs outputs codes) w = sp in some_pair (list_form3 v sp inputs outputs codes) (λ pools. list4 v sp inputs outputs codes pools) s.1.0 s.0 s.1.1 (list_some4 v sp inputs w_inputs f_inputs outputs w_outputs f_outputs codes w_codes f_codes s.1.0 s.0 s.1.1)

list_some2 : (v : ℕ) (sp : (w : List ℕ) × Words (IsPools v) w) (inputs : List Port) (w_inputs : List ℕ) (f_inputs : list_form0 v sp inputs w_inputs) (outputs : List Port) (w_outputs : List ℕ) (f_outputs : list_form1 v sp inputs outputs w_outputs) → (w : List ℕ) × Words (list2 v sp inputs outputs) w
list_some2 v sp inputs w_inputs f_inputs outputs w_outputs f_outputs = let s : (w : List ℕ) × Words (list_form2 v sp inputs outputs) w = some_counted IsCodeRow code_row in some_pair (list_form2 v sp inputs outputs) (λ codes. list3 v sp inputs outputs codes) s.1.0 s.0 s.1.1 (list_some3 v sp inputs w_inputs f_inputs outputs w_outputs f_outputs s.1.0 s.0 s.1.1)

list_some1 : (v : ℕ) (sp : (w : List ℕ) × Words (IsPools v) w) (inputs : List Port) (w_inputs : List ℕ) (f_inputs : list_form0 v sp inputs w_inputs) → (w : List ℕ) × Words (list1 v sp inputs) w
list_some1 v sp inputs w_inputs f_inputs = let s : (w : List ℕ) × Words (list_form1 v sp inputs) w = some_counted IsPort port in some_pair (list_form1 v sp inputs) (λ outputs. list2 v sp inputs outputs) s.1.0 s.0 s.1.1 (list_some2 v sp inputs w_inputs f_inputs s.1.0 s.0 s.1.1)

pub list_refused0 : (v : ℕ) (sp : (w : List ℕ) × Words (IsPools v) w) (bytes : List ℕ) (at : ℕ) (e : DecodeError) → Refused (Words (list_form0 v sp)) bytes at e → Refused (Words (list0 v sp)) bytes at e
list_refused0 v sp bytes at e r = (pair_if (list_form0 v sp) (λ inputs. list1 v sp inputs) bytes at e (λ inputs w f. list_some1 v sp inputs w f) r)

pub list_refused1 : (v : ℕ) (sp : (w : List ℕ) × Words (IsPools v) w) (bytes : List ℕ) (at at1 : ℕ) (inputs : List Port) (e : DecodeError) → Reads (list_form0 v sp) bytes at inputs at1 → Refused (Words (list_form1 v sp inputs)) bytes at1 e → Refused (Words (list0 v sp)) bytes at e
list_refused1 v sp bytes at at1 inputs e r0 r = (pair_second (list_form0 v sp) (λ inputs. list1 v sp inputs) bytes at at1 inputs e (unique_counted IsPort port unique_port 0) r0 (pair_if (list_form1 v sp inputs) (λ outputs. list2 v sp inputs outputs) bytes at1 e (λ outputs w f. list_some2 v sp inputs r0.word r0.form outputs w f) r))

pub list_refused2 : (v : ℕ) (sp : (w : List ℕ) × Words (IsPools v) w) (bytes : List ℕ) (at at1 at2 : ℕ) (inputs : List Port) (outputs : List Port) (e : DecodeError) → Reads (list_form0 v sp) bytes at inputs at1 → Reads (list_form1 v sp inputs) bytes at1 outputs at2 → Refused (Words (list_form2 v sp inputs outputs)) bytes at2 e → Refused (Words (list0 v sp)) bytes at e
list_refused2 v sp bytes at at1 at2 inputs outputs e r0 r1 r = (pair_second (list_form0 v sp) (λ inputs. list1 v sp inputs) bytes at at1 inputs e (unique_counted IsPort port unique_port 0) r0 (pair_second (list_form1 v sp inputs) (λ outputs. list2 v sp inputs outputs) bytes at1 at2 outputs e (unique_counted IsPort port unique_port 0) r1 (pair_if (list_form2 v sp inputs outputs) (λ codes. list3 v sp inputs outputs codes) bytes at2 e (λ codes w f. list_some3 v sp inputs r0.word r0.form outputs r1.word r1.form codes w f) r)))

pub list_refused3 : (v : ℕ) (sp : (w : List ℕ) × Words (IsPools v) w) (bytes : List ℕ) (at at1 at2 at3 : ℕ) (inputs : List Port) (outputs : List Port) (codes : List CodeRow) (e : DecodeError) → Reads (list_form0 v sp) bytes at inputs at1 → Reads (list_form1 v sp inputs) bytes at1 outputs at2 → Reads (list_form2 v sp inputs outputs) bytes at2 codes at3 → Refused (Words (list_form3 v sp inputs outputs codes)) bytes at3 e → Refused (Words (list0 v sp)) bytes at e
list_refused3 v sp bytes at at1 at2 at3 inputs outputs codes e r0 r1 r2 r = (pair_second (list_form0 v sp) (λ inputs. list1 v sp inputs) bytes at at1 inputs e (unique_counted IsPort port unique_port 0) r0 (pair_second (list_form1 v sp inputs) (λ outputs. list2 v sp inputs outputs) bytes at1 at2 outputs e (unique_counted IsPort port unique_port 0) r1 (pair_second (list_form2 v sp inputs outputs) (λ codes. list3 v sp inputs outputs codes) bytes at2 at3 codes e (unique_counted IsCodeRow code_row unique_row 0) r2 (pair_if (list_form3 v sp inputs outputs codes) (λ pools. list4 v sp inputs outputs codes pools) bytes at3 e (λ pools w f. list_some4 v sp inputs r0.word r0.form outputs r1.word r1.form codes r2.word r2.form pools w f) r))))

pub list_refused4 : (v : ℕ) (sp : (w : List ℕ) × Words (IsPools v) w) (bytes : List ℕ) (at at1 at2 at3 at4 : ℕ) (inputs : List Port) (outputs : List Port) (codes : List CodeRow) (pools : List ℕ) (e : DecodeError) → Reads (list_form0 v sp) bytes at inputs at1 → Reads (list_form1 v sp inputs) bytes at1 outputs at2 → Reads (list_form2 v sp inputs outputs) bytes at2 codes at3 → Reads (list_form3 v sp inputs outputs codes) bytes at3 pools at4 → Refused (Words (list_form4 v sp inputs outputs codes pools)) bytes at4 e → Refused (Words (list0 v sp)) bytes at e
list_refused4 v sp bytes at at1 at2 at3 at4 inputs outputs codes pools e r0 r1 r2 r3 r = (pair_second (list_form0 v sp) (λ inputs. list1 v sp inputs) bytes at at1 inputs e (unique_counted IsPort port unique_port 0) r0 (pair_second (list_form1 v sp inputs) (λ outputs. list2 v sp inputs outputs) bytes at1 at2 outputs e (unique_counted IsPort port unique_port 0) r1 (pair_second (list_form2 v sp inputs outputs) (λ codes. list3 v sp inputs outputs codes) bytes at2 at3 codes e (unique_counted IsCodeRow code_row unique_row 0) r2 (pair_second (list_form3 v sp inputs outputs codes) (λ pools. list4 v sp inputs outputs codes pools) bytes at3 at4 pools e (unique_pools v) r3 r))))

pub list_read : (v : ℕ) (sp : (w : List ℕ) × Words (IsPools v) w) (bytes : List ℕ) (at at1 at2 at3 at4 next : ℕ) (inputs : List Port) (outputs : List Port) (codes : List CodeRow) (pools : List ℕ) (places : List Pos) → Reads (list_form0 v sp) bytes at inputs at1 → Reads (list_form1 v sp inputs) bytes at1 outputs at2 → Reads (list_form2 v sp inputs outputs) bytes at2 codes at3 → Reads (list_form3 v sp inputs outputs codes) bytes at3 pools at4 → Reads (list_form4 v sp inputs outputs codes pools) bytes at4 places next → Reads (list0 v sp) bytes at (inputs, (outputs, (codes, (pools, places)))) next
list_read v sp bytes at at1 at2 at3 at4 next inputs outputs codes pools places r0 r1 r2 r3 r4 = (read_pair (list_form0 v sp) (λ inputs. list1 v sp inputs) bytes at at1 next inputs (outputs, (codes, (pools, places))) r0 (read_pair (list_form1 v sp inputs) (λ outputs. list2 v sp inputs outputs) bytes at1 at2 next outputs (codes, (pools, places)) r1 (read_pair (list_form2 v sp inputs outputs) (λ codes. list3 v sp inputs outputs codes) bytes at2 at3 next codes (pools, places) r2 (read_pair (list_form3 v sp inputs outputs codes) (λ pools. list4 v sp inputs outputs codes pools) bytes at3 at4 next pools places r3 r4))))

abbrev Tuple : Type 0
Tuple = List Port × (List Port × (List CodeRow × (List ℕ × List Pos)))

abbrev lists_at : Tuple → Lists
lists_at p = record { inputs = p.0; outputs = p.1.0; codes = p.1.1.0; pools = p.1.1.1.0; places = p.1.1.1.1 }

abbrev tuple : Lists → Tuple
tuple l = (l.inputs, (l.outputs, (l.codes, (l.pools, l.places))))

module _ (v : ℕ) (sp : (w : List ℕ) × Words (IsPools v) w) where
  lists_to : (p : Tuple) (w : List ℕ) → list0 v sp p w → IsLists v (lists_at p) w
  lists_to p w t =
      let t1 = t.is_second in
      let t2 = t1.is_second in
      let t3 = t2.is_second in
      record {
        inputs = (t.is_first.0.1, t.is_first.1.0);
        outputs = (t1.is_first.0.1, t1.is_first.1.0);
        codes = (t2.is_first.0.1, t2.is_first.1.0);
        version_is = t3.is_first.0;
        pools = (t3.is_first.1.0, t3.is_first.1.1.0);
        places = (t3.is_second.0.1, t3.is_second.1.0);
        spelled =
            t.joined ∙ ap (λ (a : List ℕ). a ++ t.second) t.is_first.1.1
            ∙ ap (λ (a : List ℕ). counted port p.0 ++ a) (t1.joined ∙ ap (λ (a : List ℕ). a ++ t1.second) t1.is_first.1.1)
            ∙ ap (λ (a : List ℕ). counted port p.0 ++ (counted port p.1.0 ++ a)) (t2.joined ∙ ap (λ (a : List ℕ). a ++ t2.second) t2.is_first.1.1)
            ∙ ap (λ (a : List ℕ). counted port p.0 ++ (counted port p.1.0 ++ (counted code_row p.1.1.0 ++ a))) (t3.joined ∙ ap (λ (a : List ℕ). a ++ t3.second) t3.is_first.1.1.1 ∙ ap (λ (a : List ℕ). pool_list p.1.1.1.0 ++ a) t3.is_second.1.1);
      }

  lists_from : (l : Lists) (w : List ℕ) → IsLists v l w → list0 v sp (tuple l) w
  lists_from l w r =
      let b3 : List ℕ = counted position l.places in
      let b2 : List ℕ = pool_list l.pools ++ b3 in
      let b1 : List ℕ = counted code_row l.codes ++ b2 in
      let b0 : List ℕ = counted port l.outputs ++ b1 in
      let t3 : list3 v sp l.inputs l.outputs l.codes (l.pools, l.places) b2 = record { first = pool_list l.pools; second = b3; is_first = (r.version_is, (r.pools.0, (r.pools.1, refl))); is_second = ((omega arith, r.places.0), (r.places.1, refl)); joined = refl } in
      let t2 : list2 v sp l.inputs l.outputs (l.codes, (l.pools, l.places)) b1 = record { first = counted code_row l.codes; second = b2; is_first = ((omega arith, r.codes.0), (r.codes.1, refl)); is_second = t3; joined = refl } in
      let t1 : list1 v sp l.inputs (l.outputs, (l.codes, (l.pools, l.places))) b0 = record { first = counted port l.outputs; second = b1; is_first = ((omega arith, r.outputs.0), (r.outputs.1, refl)); is_second = t2; joined = refl } in
      record { first = counted port l.inputs; second = b0; is_first = ((omega arith, r.inputs.0), (r.inputs.1, refl)); is_second = t1; joined = r.spelled }

  pub lists_refused : (bytes : List ℕ) (at : ℕ) (e : DecodeError) → Refused (Words (list0 v sp)) bytes at e → Refused (Words (IsLists v)) bytes at e
  lists_refused bytes at e r = refused_as (list0 v sp) (IsLists v) lists_at tuple bytes at e lists_to lists_from r

  pub lists_as : (bytes : List ℕ) (at next : ℕ) (p : Tuple) → Reads (list0 v sp) bytes at p next → Reads (IsLists v) bytes at (lists_at p) next
  lists_as bytes at next p r = reads_as (list0 v sp) (IsLists v) bytes at next p (lists_at p) (lists_to p) r

  pub some_lists : (w : List ℕ) × Words (IsLists v) w
  some_lists =
      let i = some_counted IsPort port in
      let s = some_pair (list_form0 v sp) (λ inputs. list1 v sp inputs) i.1.0 i.0 i.1.1 (list_some1 v sp i.1.0 i.0 i.1.1) in
      (s.0, (lists_at s.1.0, lists_to s.1.0 s.0 s.1.1))

pub unique_lists : (v : ℕ) → Unique (IsLists v)
unique_lists v l m a b x y f g e =
    let sp : (w : List ℕ) × Words (IsPools v) w = (pool_list l.pools, (l.pools, (f.version_is, (f.pools.0, (f.pools.1, refl))))) in
    unique_as (IsLists v) (list0 v sp) tuple lists_at (λ k. refl) (lists_from v sp) (list_unique0 v sp) l m a b x y f g e
