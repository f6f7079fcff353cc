-- Lemmas that other crates cite.
pub use Rattle.markdown_blocks.proofs.blocks.OneText.{one_piece, one_page}
pub use Rattle.markdown_blocks.proofs.byte_order_mark.MarkLemmas.{text_parts, text_utf8, text_within}
pub use Rattle.markdown_blocks.proofs.cells.CutLemmas.{IsCellCut, cell_ends, cell_utf8, cells_cut, row_cut}
pub use Rattle.markdown_blocks.proofs.cells.LawLemmas.{row_between}
pub use Rattle.markdown_blocks.proofs.cells.PieceLaws.{one_list_of_pieces, row_pieces}
pub use Rattle.markdown_blocks.proofs.containers.ContainerLemmas.{begun_by_all}
pub use Rattle.markdown_blocks.proofs.content.ByteLemmas.{DoNotFall, content_bytes, content_rises, content_sizes}
pub use Rattle.markdown_blocks.proofs.content.CutMoves.{cut_of_first, cut_of_part, cut_of_rest}
pub use Rattle.markdown_blocks.proofs.content.EndCuts.{cell_bytes, content_ends}
pub use Rattle.markdown_blocks.proofs.content.OneContent.{one_content, one_list_of_parts}
pub use Rattle.markdown_blocks.proofs.content.PastLemmas.{HasInlines, RisePast, RiseStrictly, content_past, inlines_strictly, offsets_past}
pub use Rattle.markdown_blocks.proofs.content.SizeLemmas.{content_few, inlines_few}
pub use Rattle.markdown_blocks.proofs.content.Utf8Lemmas.{content_cuts, content_utf8}
pub use Rattle.markdown_blocks.proofs.definitions.DefinitionLemmas.{one_list_of_definitions}
pub use Rattle.markdown_blocks.proofs.events.EventLemmas.{one_list_of_events, step_events}
pub use Rattle.markdown_blocks.proofs.events.LabelLemmas.{extensions_are_marked}
pub use Rattle.markdown_blocks.proofs.events.ShownLemmas.{one_list_of_shown, one_written, page_shown, shown_events, shown_next, step_shown}
pub use Rattle.markdown_blocks.proofs.first_blocks.OnePage.{one_list_of_alerts, one_list_of_tasks}
pub use Rattle.markdown_blocks.proofs.first_blocks.TaskLemmas.{task_bracket, task_within}
pub use Rattle.markdown_blocks.proofs.laws.CharacterLaw.{page_cut_out}
pub use Rattle.markdown_blocks.proofs.laws.ContentLaw.{page_contents_stand}
pub use Rattle.markdown_blocks.proofs.laws.FilledLaw.{containers_hold_some}
pub use Rattle.markdown_blocks.proofs.laws.FirstTextLaw.{page_firsts_begin_plain}
pub use Rattle.markdown_blocks.proofs.laws.ItemLaw.{list_item, one_list_item, blank_list_item, one_blank_list_item}
pub use Rattle.markdown_blocks.proofs.laws.OrderLaw.{page_in_order, page_nodes_stand}
pub use Rattle.markdown_blocks.proofs.laws.QuoteLaw.{block_quote, one_block_quote}
pub use Rattle.markdown_blocks.proofs.laws.SizeLaw.{few_containers, items_have_few_digits, leaves_have_bytes}
pub use Rattle.markdown_blocks.proofs.laws.TermLaw.{definitions_have_terms}
pub use Rattle.markdown_blocks.proofs.link_definitions.NamedLemmas.{one_list_of_named}
pub use Rattle.markdown_blocks.proofs.lists.ListLemmas.{page_lists}
pub use Rattle.markdown_blocks.proofs.lists.PageLemmas.{events_of_nodes, one_list_of_lists}
pub use Rattle.markdown_blocks.proofs.metadata.OneMetadata.{one_metadata}
pub use Rattle.markdown_blocks.proofs.rows.RowCuts.{IsRowCut, rows_cut}
pub use Rattle.markdown_blocks.proofs.rows.TableLaws.{head_cells, table_alignments}
pub use Rattle.markdown_blocks.proofs.taken.LineCuts.{lines_utf8, line_cut}
