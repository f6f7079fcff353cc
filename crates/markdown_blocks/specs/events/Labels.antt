-- The markers of footnote definitions and definitions of terms on a page. (GitHub Docs, footnotes; pulldown-cmark, definition lists)
use Rattle.std.specs.Prelude.{ℕ, ◌==◌, List, [], ◌∷◌, drop, is_some, IsTrue, ⊤}
use Rattle.markdown_scanners_tree.specs.Ascii.{colon}
use Rattle.markdown_scanners_tree.specs.Bytes.{begins_with}
use Rattle.markdown_blocks.specs.containers.Footnotes.{footnote_label}
use Rattle.markdown_blocks.specs.declared.containers.Container.{Container}
use Rattle.markdown_blocks.specs.declared.containers.Container.TheVariants.{Quote, Item, Footnote, TermDefinition}
use Rattle.markdown_blocks.specs.events.Events.{Event, starts, leaf, ends}

-- a label stands at the front of a text if it begins a footnote definition, and a colon if it begins the definition of a term
abbrev pub IsMarked : Container → List ℕ → Type 0
IsMarked Quote text = ⊤
IsMarked (Item item) text = ⊤
IsMarked Footnote text = IsTrue (is_some (footnote_label text))
IsMarked (TermDefinition definition) text = IsTrue (begins_with (λ b. b == colon) text)

-- the same of each that begins in these events
abbrev pub AreMarked : List ℕ → List Event → Type 0
AreMarked page [] = ⊤
AreMarked page (starts container offset ∷ later) = IsMarked container (drop offset page) × AreMarked page later
AreMarked page (leaf block ∷ later) = AreMarked page later
AreMarked page (ends ∷ later) = AreMarked page later
