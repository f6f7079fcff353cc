-- Lemmas that other crates cite.
pub use Rattle.markdown_events.proofs.MeaningSizes.{meaning_few, pieces_fit, reference_few}
pub use Rattle.markdown_events.proofs.found.FilledFacts.{HasBytes, HasInner}
pub use Rattle.markdown_events.proofs.found.InlineFacts.{inlines_found}
pub use Rattle.markdown_events.proofs.inline_events.Boundaries.{events_at_boundaries}
pub use Rattle.markdown_events.proofs.inline_events.Costs.{Cost, IsInlineCost, IsSound, total}
pub use Rattle.markdown_events.proofs.inline_events.Laws.{events_balance, events_filled}
pub use Rattle.markdown_events.proofs.inline_events.Unique.{one_list_of_inline_events, one_meaning}
pub use Rattle.markdown_events.proofs.line_feeds.LineFeedLemmas.{feeds_few}
pub use Rattle.markdown_events.proofs.page.BlockCosts.{IsBlockCost}
pub use Rattle.markdown_events.proofs.page.CellRoom.{page_cells_fit}
pub use Rattle.markdown_events.proofs.page.EventCounts.{few_inline_events, page_events_fit, page_events_with_fit, wiki_room}
pub use Rattle.markdown_events.proofs.page.FrontLists.{IsListed, front_list_is_listed}
pub use Rattle.markdown_events.proofs.page.leaf_events.BalanceLemmas.{leaf_events_balance}
pub use Rattle.markdown_events.proofs.page.leaf_events.OneLeaf.{one_list_of_leaf_events}
pub use Rattle.markdown_events.proofs.page.leaf_events.PagePlaces.{LeavesStandIn, StandsIn, page_leaves_stand}
pub use Rattle.markdown_events.proofs.page.ListFronts.{BeginsIn, listed_is_front_list}
pub use Rattle.markdown_events.proofs.page.OnePage.{one_list_of_page_events}
pub use Rattle.markdown_events.proofs.page.PageBalance.{page_events_balance, page_events_nest, page_events_with_balance, page_events_with_nest}
pub use Rattle.markdown_events.proofs.page.PageCosts.{IsPageCost, page_cost, page_cost_with}
pub use Rattle.markdown_events.proofs.page.PageCuts.{page_events_at_boundaries, page_events_with_at_boundaries}
pub use Rattle.markdown_events.proofs.page.PageRanges.{page_events_with_within, page_events_within}
pub use Rattle.markdown_events.proofs.page.PageRoom.{page_references_fit}
pub use Rattle.markdown_events.proofs.page.ParserLemmas.{given_first, given_none}
pub use Rattle.markdown_events.proofs.page.task_events.TaskLaws.{block_events_balance, one_list_of_block_events}
pub use Rattle.markdown_events.proofs.text_merge.KeptLaws.{merged_at_boundaries, merged_balance, merged_nest, merged_within}
