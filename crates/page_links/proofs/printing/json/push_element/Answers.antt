use Rattle.page_links.proofs.printing.json.push_element.Goals as goal

pub returns : goal.returns
returns c = rw c.shown_as.ensures at c.push_word.ensures
