-- The words of a text that is joined to others.
use Rattle.std.specs.Prelude.{ℕ, List}
use Rattle.std.specs.String.{string_bytes}
use Rattle.markdown_values.specs.strings.Text.{cow_text}
use Rattle.markdown_events.specs.declared.joined_text.Words.{Words}
use Rattle.markdown_events.specs.declared.joined_text.Words.TheVariants.{Alone, Own}

-- the bytes of the words, however they are kept
abbrev pub words_text : Words → List ℕ
words_text (Alone words) = cow_text words
words_text (Own words) = string_bytes words
