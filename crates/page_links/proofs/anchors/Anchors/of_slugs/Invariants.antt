use Rattle.std.proofs.Common.{ℕ, List, [], ◌≡◌, ◌++◌, drop, map, string_bytes, take}
use Rattle.page_links.specs.anchors.Anchors.{HasAnchors, anchors_of}
use Rattle.page_links.specs.anchors.private.Counts.{AreCounts}
use Rattle.page_links.proofs.anchors.Anchors.of_slugs.Given as goal

-- The slugs that are passed are counted. The anchors that are made, and those of the slugs that are left, are those of all.
abbrev pub invariant-loop-slug : goal.invariant-loop-slug
invariant-loop-slug l =
    AreCounts l.counts (map string_bytes (take l.slug-index l.slugs))
    × (made : List (List ℕ)) × HasAnchors l.anchors made
    × (made ++ anchors_of (map string_bytes (take l.slug-index l.slugs)) (map string_bytes (drop l.slug-index l.slugs))
    ≡ anchors_of [] (map string_bytes l.slugs))
