-- Where bare link destinations end. (CommonMark 0.31.2, section 6.3, links)
use Rattle.std.specs.Prelude.{ℕ, Bool, true, ◌||◌, ◌==◌, nat_le, List, [], ◌∷◌}
use Rattle.markdown_scanners_tree.specs.Ascii.{space, right_parenthesis}

-- a bare destination in which no parenthesis is open ends before these bytes
abbrev pub ends_destination : List ℕ → Bool
ends_destination [] = true
ends_destination (b ∷ bs) = nat_le b space || b == right_parenthesis
