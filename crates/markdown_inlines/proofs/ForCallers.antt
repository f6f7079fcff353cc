-- Lemmas that other crates cite: a text has one answer.
pub use Rattle.markdown_inlines.proofs.code_spans.CodeSpanLemmas.{one_code_span}
pub use Rattle.markdown_inlines.proofs.delimiter_runs.DelimiterRunLemmas.{one_delimiter_run}
pub use Rattle.markdown_inlines.proofs.emails.EmailLemmas.{one_email}
pub use Rattle.markdown_inlines.proofs.line_breaks.LineBreakLemmas.{one_line_break}
pub use Rattle.markdown_inlines.proofs.link_tails.OneLinkTail.{one_link_tail}
pub use Rattle.markdown_inlines.proofs.pieces.OnePiece.{one_next}
pub use Rattle.markdown_inlines.proofs.emphasis.MadeLemmas.{emphasis_is_made}
pub use Rattle.markdown_inlines.proofs.emphasis.NestLemmas.{emphasis_nests}
pub use Rattle.markdown_inlines.proofs.cut.OneCut.{one_cut}
pub use Rattle.markdown_inlines.proofs.cut.LinkLaws.{links_hold_none}
pub use Rattle.markdown_inlines.proofs.cut.StrikethroughLaws.{none_struck_unasked}
pub use Rattle.markdown_inlines.proofs.cut.WikilinkLaws.{no_wikilink_unasked}
pub use Rattle.markdown_inlines.proofs.inlines.Nests.{inlines_nest, inlines_stand}
pub use Rattle.markdown_inlines.proofs.wiki_links.WikiLinkLemmas.{head_ends}
