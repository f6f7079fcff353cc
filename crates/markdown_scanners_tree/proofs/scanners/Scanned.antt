-- What the scanners' definitions say beyond the contracts of the calls, for callers in other crates.
pub use Rattle.markdown_scanners_tree.proofs.scanners.breaks.BreakLemmas.{thematic_breaks}
pub use Rattle.markdown_scanners_tree.proofs.scanners.entities.ReferenceUnique.{one_reference}
pub use Rattle.markdown_scanners_tree.proofs.scanners.fences.OneFence.{one_code_fence, one_closing_fence}
pub use Rattle.markdown_scanners_tree.proofs.scanners.headings.OneHeading.{one_atx_heading, one_underline}
pub use Rattle.markdown_scanners_tree.proofs.scanners.html_kinds.StartLemmas.{one_html_block_start, one_html_kind}
pub use Rattle.markdown_scanners_tree.proofs.scanners.html_tag.OneTag.{one_tag, one_tag_alone}
pub use Rattle.markdown_scanners_tree.proofs.scanners.indent.IndentLemmas.{one_indent}
pub use Rattle.markdown_scanners_tree.proofs.scanners.lines.BlankLemmas.{blank_lines, one_blank_line}
pub use Rattle.markdown_scanners_tree.proofs.scanners.lines.OneQuoteStart.{one_quote_start}
pub use Rattle.markdown_scanners_tree.proofs.scanners.links.LinkLemmas.{one_uri, offset_of_rest}
pub use Rattle.markdown_scanners_tree.proofs.scanners.links.OneDestination.{one_destination}
pub use Rattle.markdown_scanners_tree.proofs.scanners.list_items.OneItem.{one_item}
pub use Rattle.markdown_scanners_tree.proofs.scanners.metadata.OneMetadata.{one_metadata_block, one_closing_metadata}
pub use Rattle.markdown_scanners_tree.proofs.scanners.reference_definitions.OneDefinition.{one_reference_definition, one_separated_title}
pub use Rattle.markdown_scanners_tree.proofs.scanners.tables.OneRow.{one_row}
pub use Rattle.markdown_scanners_tree.proofs.scanners.titles.OneTitle.{one_title}
pub use Rattle.markdown_scanners_tree.proofs.scanners.unescaping.PieceLemmas.{same_pieces}
