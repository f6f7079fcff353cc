-- The items that go on with a list.
use Rattle.std.proofs.Common.{ℕ, Bool, true, false, ◌||◌, ◌==◌, List, [], ◌∷◌, Option, Some, None, ◌≡◌, if◌then◌else◌, refl, sym}
use Rattle.std.proofs.lemmas.Bool.{eqb-true}
use Rattle.markdown_blocks.specs.declared.containers.Container.{Container}
use Rattle.markdown_blocks.specs.declared.containers.Container.TheVariants.{Item}
use Rattle.markdown_blocks.specs.declared.containers.ListItem.{ListItem}
use Rattle.markdown_blocks.specs.events.Events.{LeafBlock}
use Rattle.markdown_blocks.specs.lists.Lists.{Nodes, next_line, Child, are_alike}
use Rattle.markdown_events.specs.declared.page.levels.ItemList.{ItemList}
use Rattle.markdown_events.specs.page.Spans.{is_parted, list_alone, list_with}

-- how many lines of the page stand before what follows a leaf block
abbrev pub line_after : LeafBlock → ℕ
line_after = next_line

-- an item of this bullet or delimiter
abbrev pub is_of : ℕ → Option Container → Bool
is_of delimiter (Some (Item item)) = delimiter == item.delimiter
is_of delimiter container = false

pub alike_is : (item : ListItem) (c : Option Container) → are_alike (Some (Item item)) c ≡ is_of item.delimiter c
alike_is item None = refl
alike_is item (Some (Item other)) = refl
alike_is item (Some c) = refl

-- such items, with which blocks begin
abbrev pub run_of : ℕ → List Child → List Child
run_of delimiter [] = []
run_of delimiter (child ∷ later) = if is_of delimiter child.container then child ∷ run_of delimiter later else []

pub delimiter_with : (item : ListItem) (inner : Nodes) (set_off : Bool) (list : Option ItemList)
    → (list_with item inner set_off list).delimiter ≡ item.delimiter
delimiter_with item inner set_off None = refl
delimiter_with item inner set_off (Some list) = by_case (item.delimiter == list.delimiter) refl
  where
    by_case : (q : Bool) → (item.delimiter == list.delimiter) ≡ q
        → (if q then record list { is_loose = list.is_loose || (is_parted inner || set_off) } else list_alone item inner).delimiter ≡ item.delimiter
    by_case true is = sym (eqb-true item.delimiter list.delimiter is)
    by_case false is = refl
