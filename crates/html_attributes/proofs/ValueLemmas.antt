-- What the front of a value means.
use Rattle.std.proofs.Common.{ℕ, ◌≡◌, ◌<◌, List, [], ◌∷◌, ◌++◌, ap, drop, get_or, inl, inr, length, refl, sym, ◌∙◌}
use Rattle.std.proofs.lemmas.List.{drop_at, drop_more}
use Rattle.markdown_scanners_tree.specs.Ascii.{ampersand}
use Rattle.markdown_scanners_tree.specs.scanners.entities.CharacterReference.{IsReference, Lookup, StartsWithReference}
use Rattle.markdown_scanners_tree.specs.scanners.unescaping.Unescaping.{Fits, IsAmpersandReference}
use Rattle.html_attributes.specs.Values.{IsFirstMeaning}

-- the first byte of a reference is that of what begins with it
first_is : (source tail rest value : List ℕ) (opener : ℕ) → source ≡ opener ∷ tail → value ≡ source ++ rest → get_or value 0 0 ≡ ampersand
    → source ≡ ampersand ∷ tail
first_is source tail rest value opener spelled splits begins =
    let same : get_or value 0 0 ≡ opener = ap (λ (it : List ℕ). get_or it 0 0) (splits ∙ ap (λ (it : List ℕ). it ++ rest) spelled) in
    spelled ∙ ap (λ b. b ∷ tail) (sym same ∙ begins)

module _ (known : Lookup) (value : List ℕ) where
  with_ampersand : (source rest meaning : List ℕ) → value ≡ source ++ rest → get_or value 0 0 ≡ ampersand → IsReference known source meaning
      → IsAmpersandReference known source meaning
  with_ampersand source rest meaning splits begins (inl it) = (_, first_is source _ rest value it.opener it.spelled splits begins, inl it)
  with_ampersand source rest meaning splits begins (inr (inl it)) = (_, first_is source _ rest value it.opener it.spelled splits begins, inr (inl it))
  with_ampersand source rest meaning splits begins (inr (inr it)) = (_, first_is source _ rest value it.opener it.spelled splits begins, inr (inr it))

  -- a reference stands at the front
  pub means_reference : (n : ℕ) (meaning : List ℕ) → get_or value 0 0 ≡ ampersand → (it : StartsWithReference known value n meaning)
      → IsFirstMeaning known value (record { source = it.source; meaning = meaning }) × (value ≡ it.source ++ drop n value)
  means_reference n meaning begins it = (
    inl (with_ampersand it.source it.rest meaning it.splits begins it.is_reference),
    it.splits ∙ ap (λ (rest : List ℕ). it.source ++ rest) (sym (ap (drop n) it.splits ∙ drop_at it.source it.rest n (sym it.n_is_length))),
  )

  -- a byte that begins no reference
  pub means_itself : 0 < length value → ¬ (Fits (IsAmpersandReference known) value)
      → IsFirstMeaning known value (record { source = get_or value 0 0 ∷ []; meaning = get_or value 0 0 ∷ [] })
      × (value ≡ (get_or value 0 0 ∷ []) ++ drop 1 value)
  means_itself some none = (inr (none, (get_or value 0 0, refl, refl)), drop_more value 0 0 some)

  pub none_by_scan : ((k : ℕ) (meaning : List ℕ) → ¬ StartsWithReference known value k meaning) → ¬ (Fits (IsAmpersandReference known) value)
  none_by_scan none fits =
      none (length fits.0) fits.2 (record { source = fits.0; rest = fits.1; splits = fits.3; n_is_length = refl; is_reference = fits.4.2 })

  pub none_by_byte : ¬ (get_or value 0 0 ≡ ampersand) → ¬ (Fits (IsAmpersandReference known) value)
  none_by_byte other fits = other (ap (λ (it : List ℕ). get_or it 0 0) (fits.3 ∙ ap (λ (it : List ℕ). it ++ fits.1) fits.4.1))
