-- The chain of instances around a frame, from the link that leads out of the frame.
use Rattle.std.proofs.Common.{◌≡◌, refl, sym, ap, ◌∙◌, ◌<◌, ◌≤◌, ℕ, zero, suc, ◌-◌, Bool, true, false, ◌==◌, List, [], ◌∷◌, ◌++◌, Option, Some, None, arith}
use Rattle.std.specs.Prelude.{if◌then◌else◌}
use Rattle.std.specs.Option.{option_map}
use Rattle.std.proofs.lemmas.Bool.Decides.{nat_tests}
use Rattle.ceu_code.specs.declared.image.Image.{Image}
use Rattle.ceu_isa.specs.Layout.{slots_at, in_slots}
use Rattle.ceu_isa.specs.Pools.{outer_frame}
use Rattle.ceu_isa.specs.Order.{is_instance, leads_down, with_frame, chain_in, chain}

module _ (image : Image) (bytes : List ℕ) where
  abbrev one_link : (root down : Bool) (f : ℕ) → Option (List ℕ) → Option (List ℕ)
  one_link true down f o = Some []
  one_link false true f o = option_map (with_frame bytes f) o
  one_link false false f o = None

  link_is : (n f : ℕ) → chain_in (suc n) image bytes f ≡ one_link (f == slots_at image) (leads_down image bytes f) f (chain_in n image bytes (outer_frame bytes f))
  unfolding chain_in
  link_is n f = go (f == slots_at image) (leads_down image bytes f)
    where
      go : (a b : Bool) → (elim a as (λ _. Option (List ℕ)) [ true ↦ Some [] | false ↦ elim b as (λ _. Option (List ℕ)) [ true ↦ option_map (with_frame bytes f) (chain_in n image bytes (outer_frame bytes f)) | false ↦ None ] ]) ≡ one_link a b f (chain_in n image bytes (outer_frame bytes f))
      go true b = refl
      go false true = refl
      go false false = refl

  grown : (a b : Bool) (f : ℕ) (o p : Option (List ℕ)) (c : List ℕ) → ((d : List ℕ) → o ≡ Some d → p ≡ Some d) → one_link a b f o ≡ Some c → one_link a b f p ≡ Some c
  grown true b f o p c h e = e
  grown false true f None p c h e = absurd (cc)
  grown false true f (Some d) p c h e = ap (option_map (with_frame bytes f)) (h d refl) ∙ e
  grown false false f o p c h e = absurd (cc)

  -- more links than are needed change nothing
  more_links : (n m f : ℕ) (c : List ℕ) → n ≤ m → chain_in n image bytes f ≡ Some c → chain_in m image bytes f ≡ Some c
  unfolding chain_in
  more_links zero m f c le e = absurd (let h : None ≡ Some c = e in cc)
  more_links (suc n) zero f c le e = absurd (omega arith)
  more_links (suc n) (suc m) f c le e =
      link_is m f ∙ grown (f == slots_at image) (leads_down image bytes f) f (chain_in n image bytes (outer_frame bytes f)) (chain_in m image bytes (outer_frame bytes f)) c
      (λ d q. more_links n m (outer_frame bytes f) d (omega arith) q) (sym (link_is n f) ∙ e)

  pub chain_of_root : chain image bytes (slots_at image) ≡ Some []
  chain_of_root = link_is (slots_at image) (slots_at image) ∙ go (slots_at image == slots_at image) (grind (arith, nat_tests))
    where
      go : (a : Bool) → a ≡ true → one_link a (leads_down image bytes (slots_at image)) (slots_at image) (chain_in (slots_at image) image bytes (outer_frame bytes (slots_at image))) ≡ Some []
      go true e = refl
      go false e = absurd (cc)

  lies_at : (a b : Bool) (f : ℕ) (o : Option (List ℕ)) (c : List ℕ) → f == slots_at image ≡ a → leads_down image bytes f ≡ b → one_link a b f o ≡ Some c → slots_at image ≤ f
  lies_at true b f o c p q e = grind (arith, nat_tests)
  lies_at false true f o c p q e = grind (arith, nat_tests)
  lies_at false false f o c p q e = absurd (cc)

  pub lies : (f : ℕ) (c : List ℕ) → chain image bytes f ≡ Some c → slots_at image ≤ f
  lies f c e = lies_at (f == slots_at image) (leads_down image bytes f) f (chain_in f image bytes (outer_frame bytes f)) c refl refl (sym (link_is f f) ∙ e)

  -- where a frame above the program's leads down to another
  pub chain_on : (f : ℕ) (c : List ℕ) → slots_at image < f → leads_down image bytes f ≡ true → outer_frame bytes f < f → chain image bytes (outer_frame bytes f) ≡ Some c
      → chain image bytes f ≡ Some (with_frame bytes f c)
  chain_on f c above down lower e =
      let rest = more_links (suc (outer_frame bytes f)) f (outer_frame bytes f) c lower e in
      link_is f f ∙ go (f == slots_at image) (leads_down image bytes f) (grind (arith, nat_tests)) down (chain_in f image bytes (outer_frame bytes f)) rest
    where
      go : (a b : Bool) → a ≡ false → b ≡ true → (o : Option (List ℕ)) → o ≡ Some c → one_link a b f o ≡ Some (with_frame bytes f c)
      go false true p q o h = ap (option_map (with_frame bytes f)) h
      go true b p q o h = absurd (cc)
      go false false p q o h = absurd (cc)

  -- of awaited code, which is no instance
  pub chain_of_call : (f o : ℕ) (c : List ℕ) → in_slots image f 8 ≡ true → is_instance bytes f ≡ false → o < f → outer_frame bytes f ≡ o → chain image bytes o ≡ Some c → chain image bytes f ≡ Some c
  chain_of_call f o c room plain lower out e =
      let above = lies o c e in
      let down : leads_down image bytes f ≡ true = grind (arith, nat_tests) in
      chain_on f c (omega arith) down (omega arith) (ap (chain image bytes) out ∙ e) ∙ ap (λ (b : Bool). Some (if b then c ++ f ∷ [] else c)) plain

  -- and of an instance
  pub chain_of_instance : (f o : ℕ) (c : List ℕ) → in_slots image f 8 ≡ true → is_instance bytes f ≡ true → 9 ≤ f → in_slots image (f - 9) 9 ≡ true → o < f → outer_frame bytes f ≡ o → chain image bytes o ≡ Some c → chain image bytes f ≡ Some (c ++ f ∷ [])
  chain_of_instance f o c room inst nine place lower out e =
      let above = lies o c e in
      let down : leads_down image bytes f ≡ true = grind (arith, nat_tests) in
      chain_on f c (omega arith) down (omega arith) (ap (chain image bytes) out ∙ e) ∙ ap (λ (b : Bool). Some (if b then c ++ f ∷ [] else c)) inst
