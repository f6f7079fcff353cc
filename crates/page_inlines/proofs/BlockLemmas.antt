-- What is printed of the events of a block is what is printed of its leaf blocks; and a content has as many offsets as bytes.
use Rattle.std.proofs.Common.{ℕ, zero, suc, List, [], ◌∷◌, ◌++◌, ◌≡◌, ◌+◌, ◌-◌}
use Rattle.std.proofs.Common.{length, take, refl, sym, ap, ap₂, ◌∙◌, subst, length-append, append_assoc}
use Rattle.std.specs.Prelude.{map, replicate}
use Rattle.std.specs.List.{flat_map, range_with_len}
use Rattle.std.proofs.lemmas.List.{length-replicate}
use Rattle.std.proofs.lemmas.List.FromFn.{length-range_with_len}
use Rattle.markdown_scanners_tree.specs.line.State.{LineState}
use Rattle.markdown_blocks.specs.containers.Containers.{after_marker}
use Rattle.markdown_blocks.specs.content.Content.{Placed, IsContent, text_of, offsets_of, content_len, joined}
use Rattle.markdown_blocks.specs.content.Parts.{Part}
use Rattle.markdown_blocks.specs.declared.blocks.BlockKind.{BlockKind}
use Rattle.markdown_blocks.specs.declared.containers.Container.{Container}
use Rattle.markdown_blocks.specs.events.Events.{Event, leaf, ends, LeafBlock, started}
use Rattle.markdown_inlines.specs.Inlines.{Setting}
use Rattle.page_inlines.specs.BlockTexts.{IsEventsText}
use Rattle.page_inlines.specs.Printed.{IsLeavesText}

-- ---- the offsets of a content

same_front : (n : ℕ) (xs ys : List ℕ) → length xs ≡ length ys → length (take n xs) ≡ length (take n ys)
same_front zero xs ys same = refl
same_front (suc n) [] [] same = refl
same_front (suc n) [] (y ∷ ys) same = cc
same_front (suc n) (x ∷ xs) [] same = cc
same_front (suc n) (x ∷ xs) (y ∷ ys) same = ap suc (same_front n xs ys cc)

part_offsets : (p : Part) → length (offsets_of p) ≡ length (text_of p)
part_offsets p =
    let columns : length (replicate p.columns (p.offset - 1)) ≡ length (replicate p.columns p.filler) =
    length-replicate p.columns (p.offset - 1) ∙ sym (length-replicate p.columns p.filler) in
    length-append (replicate p.columns (p.offset - 1)) (range_with_len p.offset (length p.bytes))
    ∙ ap₂ (λ m n. m + n) columns (length-range_with_len p.offset (length p.bytes))
    ∙ sym (length-append (replicate p.columns p.filler) p.bytes)

all_offsets : (parts : List Part) → length (flat_map offsets_of parts) ≡ length (flat_map text_of parts)
all_offsets [] = refl
all_offsets (p ∷ parts) =
    length-append (offsets_of p) (flat_map offsets_of parts) ∙ ap₂ (λ m n. m + n) (part_offsets p) (all_offsets parts)
    ∙ sym (length-append (text_of p) (flat_map text_of parts))

pub content_offsets : (kind : BlockKind) (outer : List Container) (kept : ℕ) (lines : List (List ℕ)) (content : Placed)
    → IsContent kind outer kept lines content → length content.offsets ≡ length content.text
content_offsets kind outer kept lines content is =
    ap (λ (p : Placed). length p.offsets) is.is_content
    ∙ same_front (content_len kind (joined is.parts).text) (joined is.parts).offsets (joined is.parts).text (all_offsets is.parts)
    ∙ sym (ap (λ (p : Placed). length p.text) is.is_content)

-- ---- events

module _ (setting : Setting) (page : List ℕ) (outer : List Container) where
  of_leaves : (leaves : List LeafBlock) (kept : ℕ) (text : List ℕ) → IsEventsText setting page outer kept (map leaf leaves) text
      → IsLeavesText setting page outer kept leaves text
  of_leaves [] kept text is = is
  of_leaves (block ∷ later) kept text is = (is.0, is.1, is.2, of_leaves later (length outer) is.1 is.3, is.4)

  of_started : (cs : List Container) (start : ℕ) (s : LineState) (kept : ℕ) (later : List Event) (text : List ℕ)
      → IsEventsText setting page outer kept (started start s cs ++ later) text → IsEventsText setting page outer kept later text
  of_started [] start s kept later text is = is
  of_started (c ∷ cs) start s kept later text is = of_started cs start (after_marker s) kept later text is

  of_ends : (count kept : ℕ) (later : List Event) (text : List ℕ) → IsEventsText setting page outer kept (replicate count ends ++ later) text
      → IsEventsText setting page outer kept later text
  of_ends zero kept later text is = is
  of_ends (suc count) kept later text is = of_ends count kept later text is

  pub leaves_text : (count start : ℕ) (s : LineState) (cs : List Container) (leaves : List LeafBlock) (kept : ℕ) (text : List ℕ)
      → IsEventsText setting page outer kept (replicate count ends ++ started start s cs ++ map leaf leaves) text
      → IsLeavesText setting page outer kept leaves text
  leaves_text count start s cs leaves kept text is =
      of_leaves leaves kept text (of_started cs start s kept (map leaf leaves) text
      (of_ends count kept (started start s cs ++ map leaf leaves) text
      (subst (λ es. IsEventsText setting page outer kept es text) (append_assoc (replicate count ends) (started start s cs) (map leaf leaves)) is)))
