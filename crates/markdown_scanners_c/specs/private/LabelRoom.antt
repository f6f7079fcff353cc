-- Numbers that an offset in a label may be added to.
use Rattle.std.specs.Prelude.{◌<◌, ◌+◌, ◌^◌, List, Option, IfSome, ⊤}
use Rattle.std.specs.List.{All}
use Rattle.markdown_inlines.specs.declared.links.Link.{Link}
use Rattle.markdown_inlines.specs.declared.links.LinkTarget.{LinkTarget}
use Rattle.markdown_inlines.specs.declared.links.LinkTarget.TheVariants.{Full}

-- a label has an offset after its left bracket
abbrev pub IsRoomy : LinkTarget → Type 0
IsRoomy (Full label) = label.start + 1 < 2 ^ 64
IsRoomy target = ⊤

abbrev pub HasRoom : Link → Type 0
HasRoom link = IsRoomy link.target

abbrev pub AreRoomy : List (Option Link) → Type 0
AreRoomy links = All (λ (link : Option Link). IfSome link HasRoom) links
