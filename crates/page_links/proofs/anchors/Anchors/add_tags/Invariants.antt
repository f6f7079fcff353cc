-- With what the tags that are left make, what is added is what all make.
use Rattle.std.proofs.Common.{ℕ, List, ◌++◌, drop, map}
use Rattle.html_attributes.specs.StartTags.{seen_tag}
use Rattle.page_links.specs.anchors.Anchors.{AreOfTags, HasAnchors}
use Rattle.page_links.proofs.anchors.Anchors.add_tags.Given as goal

abbrev pub invariant-loop-tag : goal.invariant-loop-tag
invariant-loop-tag l =
    (made : List (List ℕ))
    × ((later : List (List ℕ)) → AreOfTags (map seen_tag (drop l.tag-index l.tags)) later → AreOfTags (map seen_tag l.tags) (made ++ later))
    × ((anchors : List (List ℕ)) → HasAnchors l.initial.self anchors → HasAnchors l.self (anchors ++ made))
