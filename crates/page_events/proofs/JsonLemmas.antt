-- Arrays of what is seen of items; and the end of a tag by what it says.
use Rattle.std.proofs.Common.{ℕ, ◌≡◌, List, [], ◌∷◌, ◌++◌, Some, None, map, refl, ap, codes}
use Rattle.std.proofs.lemmas.List.Folds.{flat_map-map}
use Rattle.markdown_values.specs.strings.Text.{cow_text}
use Rattle.markdown_values.specs.values.Tags.{end_of, tag_view}
use Rattle.markdown_values.specs.declared.values.tags.Tag.{Tag}
use Rattle.markdown_values.specs.declared.values.tags.Tag.TheVariants.{Paragraph, Heading, BlockQuote, CodeBlock, HtmlBlock, List as ListTag, Item}
use Rattle.markdown_values.specs.declared.values.tags.Tag.TheVariants.{FootnoteDefinition, DefinitionList, DefinitionListTitle}
use Rattle.markdown_values.specs.declared.values.tags.Tag.TheVariants.{DefinitionListDefinition, Table, TableHead, TableRow, TableCell}
use Rattle.markdown_values.specs.declared.values.tags.Tag.TheVariants.{Emphasis, Strong, Strikethrough, Superscript, Subscript, Link, Image}
use Rattle.markdown_values.specs.declared.values.tags.Tag.TheVariants.{MetadataBlock}
use Rattle.markdown_events.specs.TagEnds.{tag_end}
use Rattle.page_events.specs.Json.{array_member, member}

pub array_of_seen : {A B : Type 0} (name : List ℕ) (item_json : B → List ℕ) (see : A → B) (items : List A)
    → array_member name item_json (map see items) ≡ array_member name (λ item. item_json (see item)) items
array_of_seen name item_json see [] = refl
array_of_seen name item_json see (first ∷ later) =
    ap (λ rest. member name (codes "[" ++ item_json (see first) ++ rest ++ codes "]"))
    (flat_map-map (λ item. codes "," ++ item_json item) see later)

pub ends_alike : (tag : Tag) → end_of tag ≡ tag_end (tag_view cow_text tag)
ends_alike Paragraph = refl
ends_alike (Heading level id classes attrs) = refl
ends_alike (BlockQuote kind) = refl
ends_alike (CodeBlock kind) = refl
ends_alike HtmlBlock = refl
ends_alike (ListTag None) = refl
ends_alike (ListTag (Some number)) = refl
ends_alike Item = refl
ends_alike (FootnoteDefinition label) = refl
ends_alike DefinitionList = refl
ends_alike DefinitionListTitle = refl
ends_alike DefinitionListDefinition = refl
ends_alike (Table alignments) = refl
ends_alike TableHead = refl
ends_alike TableRow = refl
ends_alike TableCell = refl
ends_alike Emphasis = refl
ends_alike Strong = refl
ends_alike Strikethrough = refl
ends_alike Superscript = refl
ends_alike Subscript = refl
ends_alike (Link kind dest title id) = refl
ends_alike (Image kind dest title id) = refl
ends_alike (MetadataBlock kind) = refl
