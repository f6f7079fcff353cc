-- The content of a paragraph. (CommonMark 0.31.2, section 4.8, paragraphs)
use Rattle.std.specs.Prelude.{ℕ, ◌-◌, List, [], ◌++◌, length, take}
use Rattle.std.specs.List.{flat_map}
use Rattle.markdown_blocks.specs.containers.Containers.{rest_in}
use Rattle.markdown_blocks.specs.declared.blocks.BlockKind.{BlockKind}
use Rattle.markdown_blocks.specs.declared.blocks.BlockKind.TheVariants.{Setext, Definition, Paragraph}
use Rattle.markdown_blocks.specs.declared.containers.Container.{Container}
use Rattle.markdown_blocks.specs.info.Info.{without_front}

-- what a line has after the containers that it goes on with, without the spaces and tabs at its front
abbrev pub words_in : List Container → List ℕ → List ℕ
words_in outer line = without_front (rest_in outer line).text

-- The content of a paragraph in these containers, whose first line has this text: that, and what its later lines have, joined,
-- each with its line ending.
abbrev pub content_of : List Container → List ℕ → List (List ℕ) → List ℕ
content_of outer text later = without_front text ++ flat_map (words_in outer) later

-- The content of a block: of a paragraph, of a definition that is parted from one (4.7), or of a setext heading without its
-- underline, which is its last line (4.3). Other blocks have none.
abbrev pub content_in : BlockKind → List Container → List ℕ → List (List ℕ) → List ℕ
content_in Paragraph outer text later = content_of outer text later
content_in Definition outer text later = content_of outer text later
content_in (Setext level) outer text later = content_of outer text (take (length later - 1) later)
content_in kind outer text later = []
