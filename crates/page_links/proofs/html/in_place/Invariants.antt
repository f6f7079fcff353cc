-- What is written, with the parts that are left, is what all make.
use Rattle.std.proofs.Common.{[], ◌≡◌, drop, map}
use Rattle.page_links.specs.html.Html.{in_place, seen_part}
use Rattle.page_links.proofs.html.in_place.Given as goal

abbrev pub invariant-loop-part : goal.invariant-loop-part
invariant-loop-part l = in_place l.html.items (map seen_part (drop l.part-index l.parts)) ≡ in_place [] (map seen_part l.parts)
