use Rattle.std.proofs.Common.{map}
use Rattle.std.proofs.lemmas.Result.{IfOk-weaker}
use Rattle.page_links.specs.html.Html.{seen_part}
use Rattle.page_links.proofs.html.html_of_page.Goals as goal

pub returns : goal.returns
returns c =
    let parts = map seen_part c.in_ok-parts.parts.items in
    IfOk-weaker c.in_place.result _ _ (λ html is. (parts, c.in_ok-parts.ensures, is)) (rw c.deref.ensures.value at c.in_place.ensures)
