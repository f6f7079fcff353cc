-- What is printed of the events of one block.
use Rattle.std.specs.Prelude.{ℕ, ◌≡◌, List, [], ◌∷◌, ◌++◌, length}
use Rattle.markdown_blocks.specs.declared.containers.Container.{Container}
use Rattle.markdown_blocks.specs.events.Events.{Event, starts, leaf, ends}
use Rattle.markdown_blocks.specs.events.Given.{BlockLeft, GivesBlock}
use Rattle.markdown_inlines.specs.Inlines.{Setting}
use Rattle.page_inlines.specs.Printed.{IsLeafText}

-- of the leaf blocks among events in these containers, of which the first one's first line goes on with so many
abbrev pub IsEventsText : Setting → List ℕ → List Container → ℕ → List Event → List ℕ → Type 0
IsEventsText setting page outer kept [] text = text ≡ []
IsEventsText setting page outer kept (starts container marker ∷ later) text = IsEventsText setting page outer kept later text
IsEventsText setting page outer kept (leaf block ∷ later) text =
    (here : List ℕ) × (more : List ℕ) × IsLeafText setting page outer kept block here
    × IsEventsText setting page outer (length outer) later more × (text ≡ here ++ more)
IsEventsText setting page outer kept (ends ∷ later) text = IsEventsText setting page outer kept later text

-- a text grows by what is printed of the events that are left of a block, in these containers and with this content
pub record HasPrinted (setting : Setting) (page : List ℕ) (outer : List Container) (kept : ℕ) (content : List ℕ) (left : BlockLeft) (old new : List ℕ)
    : Type 0 where
  pub events : List Event
  pub gives : GivesBlock outer content left events
  pub text : List ℕ
  pub is_text : IsEventsText setting page outer kept events text
  pub grown : new ≡ old ++ text
