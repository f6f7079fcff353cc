use Rattle.page_links.proofs.printing.json.push_finding_word.Goals as goal

pub returns : goal.returns
returns c = rw c.finding_words.ensures at c.push_word.ensures
