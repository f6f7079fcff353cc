use Rattle.markdown_scanners_tree.proofs.inline_html.scan_inline_html_processing.Goals as goal

pub returns-clause-finds : goal.returns-clause-finds
returns-clause-finds c = rw c.new-text.ensures.start at c.scan_inline_html_processing_counted.ensures.finds
