-- Whether a block may be a term is given by what is gathered of its content.
use Rattle.std.proofs.Common.{ℕ, true, false, List, [], ◌∷◌, ◌==◌, ◌≡◌, ◌≢◌, ◌≤◌, length, drop, inl, inr, refl, sym, ap, ◌∙◌, IsTrue, arith}
use Rattle.std.proofs.lemmas.Bool.{cases_Bool, eqb-true}
use Rattle.std.proofs.Common.{suc, Bool, ◌++◌, ◌⊎◌, subst}
use Rattle.std.specs.List.{flat_map, list_all, prefix_len}
use Rattle.std.specs.Prelude.{nat_lt}
use Rattle.std.proofs.lemmas.Bool.Decides.{nat_tests}
use Rattle.markdown_scanners_tree.specs.Bytes.{is_line_ending, is_space_or_tab}
use Rattle.markdown_scanners_tree.proofs.line.WrittenLemmas.{head-cons}
use Rattle.markdown_blocks.specs.blank_lines.BlankLines.{is_blank}
use Rattle.markdown_blocks.specs.blocks.Leaves.{IsBlank, IsLeafAfter}
use Rattle.markdown_blocks.specs.containers.Containers.{OpenContainers, Rest}
use Rattle.markdown_blocks.specs.declared.containers.Container.{Container}
use Rattle.markdown_blocks.specs.definitions.Content.{content_in, words_in}
use Rattle.markdown_blocks.specs.info.Info.{without_front}
use Rattle.markdown_scanners_tree.specs.declared.scanners.reference_definitions.ReferenceDefinition.{ReferenceDefinition}
use Rattle.markdown_blocks.specs.blocks.Pages.{IsTerm}
use Rattle.markdown_blocks.specs.declared.blocks.BlockKind.{BlockKind}
use Rattle.markdown_blocks.specs.declared.blocks.BlockKind.TheVariants.{Paragraph}
use Rattle.markdown_values.specs.declared.values.extensions.Extensions.{Extensions}
use Rattle.markdown_blocks.specs.definitions.Definitions.{AreDefinitions, HasText}
use Rattle.markdown_blocks.specs.walk.Walk.{IsGathered}
use Rattle.markdown_blocks.proofs.blocks.AfterLemmas.{paragraph_leaf}
use Rattle.markdown_blocks.proofs.definitions.DefinitionLemmas.{all_given}

no_bytes : (bytes : List ℕ) → length bytes ≡ 0 → bytes ≡ []
no_bytes [] none = refl
no_bytes (b ∷ bytes) none = absurd (omega (arith, none))

module _ (asked : Extensions) (kind : BlockKind) (content whole : List ℕ) (on : asked.definition_lists ≡ true) (is : kind ≡ Paragraph)
    (gathered : IsGathered whole content) where
  all_gathered : content ≢ [] → content ≡ whole
  all_gathered some = by gathered
    where
      by : IsGathered whole content → content ≡ whole
      by (inl all) = all
      by (inr none) = absurd (some none.0)

  -- all of it, or nothing where it begins with no definition
  pub term_given : (taken : ℕ) → (length content == 0) ≡ false → (definitions : List ReferenceDefinition) × AreDefinitions content
      definitions (drop taken content)
      → taken ≤ length content
      → (IsTrue (nat_lt taken (length content)) → IsTerm asked kind whole) × (IsTerm asked kind whole → IsTrue (nat_lt taken (length content)))
  term_given taken some found within =
      let whole_is = all_gathered (λ none. let both : true ≡ false = ap (λ bytes. length bytes == 0) (sym none) ∙ some in cc) in
      let tells = all_given content whole taken (length content) whole_is found within refl in
      (λ t. (on, is, tells.0 t), λ term. tells.1 term.2)

  pub whole_term : (length content == 0) ≡ true → whole ≢ [] → IsTerm asked kind whole
  whole_term none some = (on, is, by gathered)
    where
      by : IsGathered whole content → HasText whole
      by (inl all) = absurd (some (sym all ∙ no_bytes content (eqb-true (length content) 0 none)))
      by (inr plain) = record { definitions = []; rest = whole; after = (refl, plain.1); some = some }

-- the content of a paragraph is not empty
front_some : (text : List ℕ) → is_blank text ≡ false → without_front text ≢ []
front_some [] h none = cc
front_some (b ∷ bs) h none = by (is_space_or_tab b) refl (front_some bs)
  where
    by : (t : Bool) → is_space_or_tab b ≡ t → (is_blank bs ≡ false → without_front bs ≢ []) → ⊥
    by true is later =
        let plain : is_line_ending b ≡ false = grind (arith, nat_tests) in
        let same : is_blank (b ∷ bs) ≡ is_blank bs = ap (list_all is_space_or_tab) (head-cons b bs plain) ∙ rw is refl in
        let count : prefix_len is_space_or_tab (b ∷ bs) ≡ suc (prefix_len is_space_or_tab bs) = rw is (omega arith) in
        later (sym same ∙ h) (subst (λ n. drop n (b ∷ bs) ≡ []) count none)
    by false is later =
        let count : prefix_len is_space_or_tab (b ∷ bs) ≡ 0 = rw is refl in
        let all : b ∷ bs ≡ [] = subst (λ n. drop n (b ∷ bs) ≡ []) count none in cc

more_some : (front more : List ℕ) → front ≢ [] → front ++ more ≢ []
more_some [] more some none = some refl
more_some (b ∷ front) more some none = cc

paragraph_some : (words : Rest) (outer : List Container) (later : List (List ℕ)) → ¬ IsBlank words → content_in Paragraph outer words.text later ≢ []
paragraph_some words outer later text =
    more_some (without_front words.text) (flat_map (words_in outer) later) (front_some words.text (not_blank (cases_Bool (is_blank words.text))))
  where
    not_blank : (is_blank words.text ≡ true) ⊎ (is_blank words.text ≡ false) → is_blank words.text ≡ false
    not_blank (inl blank) = absurd (text blank)
    not_blank (inr other) = other

pub leaf_some : (header : Bool) (outer : OpenContainers) (kind : BlockKind) (words : Rest) (later rest : List (List ℕ))
    → IsLeafAfter header outer kind words later rest → kind ≡ Paragraph → content_in kind outer.containers words.text later ≢ []
leaf_some header outer kind words later rest leaf is =
    let there = (paragraph_leaf header outer kind words later rest is leaf).1 in
    subst (λ k. content_in k outer.containers words.text later ≢ []) (sym is) (paragraph_some words outer.containers later there.0.0)
