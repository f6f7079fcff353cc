-- Line endings of paragraphs as events. (CommonMark 0.31.2, sections 6.7 and 6.8)
use Rattle.markdown_values.specs.values.Events.{EventView, soft_break, hard_break}

-- the event, a hard line break in place of a soft one
abbrev pub hardened : {A : Type 0} → EventView A → EventView A
hardened soft_break = hard_break
hardened event = event
