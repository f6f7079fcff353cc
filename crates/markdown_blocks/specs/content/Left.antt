-- The parts that are not read yet.
use Rattle.std.specs.Prelude.{ℕ, ◌-◌, ◌≤◌, ◌≡◌, List, [], ◌∷◌, ◌++◌, length, take, drop, Option, None, Some}
use Rattle.std.specs.List.{flat_map}
use Rattle.markdown_scanners_tree.specs.scanners.TextLines.{lines_of}
use Rattle.markdown_blocks.specs.content.Content.{text_of}
use Rattle.markdown_blocks.specs.content.Parts.{Part, GoOn, later_parts}
use Rattle.markdown_blocks.specs.content.Seen.{seen_part}
use Rattle.markdown_blocks.specs.declared.content.parts.LinePart.{LinePart}
use Rattle.markdown_blocks.specs.declared.content.parts.Parts.{Parts}

abbrev pub first_parts : Option LinePart → List Part
first_parts None = []
first_parts (Some p) = seen_part p ∷ []

abbrev pub parts_left : Parts → List Part
parts_left p =
    first_parts p.first
    ++ (first_parts p.ending
    ++ later_parts p.cut.kind p.cut.outer.now.containers p.cut.indent p.read.bytes
    (take (p.count - p.read.lines) (lines_of (drop p.read.bytes p.lines.now))))

-- joined, the parts are these bytes, which stand one after the other from this offset on
abbrev pub IsRunAt : List ℕ → ℕ → List Part → Type 0
IsRunAt run offset parts = (flat_map text_of parts ≡ run) × GoOn offset parts

-- they are the bytes of the lines from one offset up to another
abbrev pub IsRun : List ℕ → List Part → ℕ → ℕ → Type 0
IsRun lines parts begin end =
    (begin ≤ end) × (end ≤ length lines) × IsRunAt (take (end - begin) (drop begin lines)) begin parts
