use Rattle.std.proofs.Common.{inr, refl}
use Rattle.markdown_inlines.proofs.wiki_links.opener_len.Goals as goal

pub returns-in-None-clause-ends : goal.returns-in-None-clause-ends
returns-in-None-clause-ends c = inr ((λ asked target end is. c.in-None.ensures.found (target, end) is), refl)
