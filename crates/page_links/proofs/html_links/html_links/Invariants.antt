-- With those of the tags that are left, the links are those of all.
use Rattle.std.proofs.Common.{List, ◌++◌, drop, map}
use Rattle.html_attributes.specs.StartTags.{seen_tag}
use Rattle.page_links.specs.html_links.HtmlLinks.{AreHtmlLinks}
use Rattle.page_links.specs.links.Links.{Seen, seen_link}
use Rattle.page_links.proofs.html_links.html_links.Given as goal

abbrev pub invariant-loop-tag : goal.invariant-loop-tag
invariant-loop-tag l =
    (rest : List Seen) → AreHtmlLinks (map seen_tag (drop l.tag-index l.tags)) rest
    → AreHtmlLinks (map seen_tag l.tags) (map seen_link l.links.items ++ rest)
