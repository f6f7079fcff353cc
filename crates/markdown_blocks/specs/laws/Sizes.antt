-- How many blocks a page has by its bytes: a container has a byte of its own, with which its marker begins, and a leaf block has some.
-- (CommonMark 0.31.2, chapters 4 and 5)
use Rattle.std.specs.Prelude.{ℕ, suc, ◌<◌, ◌^◌, ◌≡◌, ◌⊎◌, List, [], ◌∷◌, ⊤}
use Rattle.markdown_blocks.specs.declared.blocks.BlockKind.TheVariants.{Definition}
use Rattle.markdown_blocks.specs.declared.containers.Container.{Container}
use Rattle.markdown_blocks.specs.declared.containers.Container.TheVariants.{Item}
use Rattle.markdown_blocks.specs.events.Events.{Event, LeafBlock, starts, leaf, ends}

-- so many containers begin among the events
abbrev pub containers_begun : List Event → ℕ
containers_begun [] = 0
containers_begun (starts container offset ∷ later) = suc (containers_begun later)
containers_begun (event ∷ later) = containers_begun later

-- it is a link reference definition, or has some bytes
abbrev pub HasBytes : LeafBlock → Type 0
HasBytes block = (block.kind ≡ Definition) ⊎ (0 < block.bytes)

-- so is each leaf block among the events
abbrev pub HaveBytes : List Event → Type 0
HaveBytes [] = ⊤
HaveBytes (leaf block ∷ later) = HasBytes block × HaveBytes later
HaveBytes (event ∷ later) = HaveBytes later

-- the number of an item has nine digits at most (5.2)
abbrev pub HasFewDigits : Container → Type 0
HasFewDigits (Item item) = item.start < 10 ^ 9
HasFewDigits container = ⊤

-- so has that of each item among the events
abbrev pub HaveFewDigits : List Event → Type 0
HaveFewDigits [] = ⊤
HaveFewDigits (starts container offset ∷ later) = HasFewDigits container × HaveFewDigits later
HaveFewDigits (event ∷ later) = HaveFewDigits later
