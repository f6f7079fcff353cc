-- Lines that are blank and that are not. (CommonMark 0.31.2, section 2.1)
use Rattle.std.proofs.Common.{true, false, ◌≡◌, [], ◌∷◌, Some, refl}
use Rattle.std.specs.Prelude.{codes}
use Rattle.markdown_scanners_tree.specs.line.ItemRules.{start_of}
use Rattle.markdown_blocks.specs.blank_lines.BlankLines.{is_blank}
use Rattle.markdown_blocks.specs.blocks.Leaves.{begins_filled_item, has_fed_signs}
use Rattle.markdown_blocks.specs.containers.ItemMarkers.{item_outcome}

nothing : is_blank [] ≡ true
nothing = refl

spaces_and_tabs : is_blank (32 ∷ 9 ∷ 10 ∷ codes "a") ≡ true
spaces_and_tabs = refl

carriage_return : is_blank (32 ∷ 13 ∷ codes "a") ≡ true
carriage_return = refl

form_feed : is_blank (32 ∷ 12 ∷ 10 ∷ []) ≡ false
form_feed = refl

vertical_tab : is_blank (11 ∷ []) ≡ false
vertical_tab = refl

text : is_blank (codes " a\n") ≡ false
text = refl

-- list items whose first line is a form feed after three spaces, and three spaces alone
item_of_a_feed : (item_outcome 0 (start_of (45 ∷ 32 ∷ 32 ∷ 32 ∷ 12 ∷ []))).answer ≡ Some (45, 0, 4)
item_of_a_feed = refl

item_of_spaces : (item_outcome 0 (start_of (codes "-   "))).answer ≡ Some (45, 0, 2)
item_of_spaces = refl

-- and whether they interrupt a paragraph
feed_interrupts : begins_filled_item (45 ∷ 32 ∷ 12 ∷ []) ≡ true
unfolding begins_filled_item
feed_interrupts = refl

spaces_do_not : begins_filled_item (codes "- ") ≡ false
unfolding begins_filled_item
spaces_do_not = refl

-- number signs before a vertical tab
no_heading : has_fed_signs (35 ∷ 35 ∷ 11 ∷ 97 ∷ []) ≡ true
no_heading = refl
