-- Links by the numbers of the brackets that begin them.
use Rattle.std.specs.Prelude.{ℕ, zero, suc, List, Option, None}
use Rattle.std.specs.List.{slice_get}
use Rattle.markdown_inlines.specs.declared.links.Link.{Link}

-- 0 stands for no link, and any other number for the one before it
abbrev pub link_of : List Link → ℕ → Option Link
link_of links zero = None
link_of links (suc index) = slice_get links index
