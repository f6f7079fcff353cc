use Rattle.markdown_scanners_tree.proofs.inline_html.scan_inline_html_comment.Goals as goal

pub returns-clause-finds : goal.returns-clause-finds
returns-clause-finds c = rw c.new-text.ensures.start at c.scan_inline_html_comment_counted.ensures.finds
