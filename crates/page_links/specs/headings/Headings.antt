-- What the headings of a page make of their texts. (GitHub Docs, "Section links")
use Rattle.std.specs.Prelude.{ℕ, Bool, true, false, ◌&&◌, ◌||◌, not, ◌==◌, ◌≡◌, max, nat_lt, List, [], ◌∷◌, ◌++◌, flat_map, map}
use Rattle.std.specs.Prelude.{chars, codes, encode_utf8, string_bytes, if◌then◌else◌}
use Rattle.std.specs.Char.Unicode.Alphabetic.{is_alphabetic}
use Rattle.std.specs.StrCase.Lower.{str_to_lowercase}
use Rattle.std.specs.declared.ops.Range.{Range}
use Rattle.ucd_category.specs.GeneralCategory.{general_category}
use Rattle.ucd_category.specs.GeneralCategoryGroup.{in_group}
use Rattle.ucd_category.specs.declared.GeneralCategory.{GeneralCategory}
use Rattle.ucd_category.specs.declared.GeneralCategory.TheVariants.{DecimalNumber, ConnectorPunctuation}
use Rattle.ucd_category.specs.declared.GeneralCategoryGroup.TheVariants.{Mark}
use Rattle.markdown_values.specs.declared.values.tags.TagEnd.TheVariants as End
use Rattle.markdown_values.specs.values.Events.{start, end, text, code}
use Rattle.markdown_values.specs.values.Tags.{heading, image}
use Rattle.markdown_events.specs.InlineEvents.{RangedEvent}
use Rattle.markdown_values.specs.declared.values.extensions.Extensions.{Extensions}
use Rattle.markdown_events.specs.page.PageEvents.{ArePageEvents}
use Rattle.page_links.specs.declared.headings.Headings.{Headings}

-- ---- the rule: lower case, each space a hyphen, and all else removed but characters of words and hyphens

-- marks, digits, and underscores and their like
abbrev pub is_word_category : GeneralCategory → Bool
is_word_category DecimalNumber = true
is_word_category ConnectorPunctuation = true
is_word_category category = in_group Mark category

-- Those of words, as Ruby's `\p{Word}` has them: alphabetic ones, by Unicode's property of that name, and those of these categories.
-- (Unicode Technical Standard 18, annex C, `\w`, without its Join_Control)
abbrev pub is_word : ℕ → Bool
is_word c = is_alphabetic c || is_word_category (general_category c)

-- what is kept of a character
abbrev pub kept : ℕ → List ℕ
kept c = if c == 32 then codes "-" else if c == 45 || is_word c then encode_utf8 c else []

abbrev pub slug_of : List ℕ → List ℕ
slug_of words = flat_map kept (chars (str_to_lowercase words))

-- ---- the texts of headings

-- What is read of headings: what those make that have ended; whether one is open, and its text; and where the last image ends.
pub record Reading : Type 0 where
  pub slugs : List (List ℕ)
  pub is_open : Bool
  pub words : List ℕ
  pub images_end : ℕ

abbrev pub seen_headings : Headings → Reading
seen_headings it = record { slugs = map string_bytes it.slugs.items; is_open = it.is_open; words = string_bytes it.words; images_end = it.images_end }

-- a text of the heading that is open, unless it stands in an image
abbrev pub with_words : List ℕ → Range ℕ → Reading → Reading
with_words words range it = if it.is_open && not (nat_lt range.start it.images_end) then record it { words = it.words ++ words } else it

-- the heading that is open ends
abbrev pub ended : Reading → Reading
ended it = record it { slugs = it.slugs ++ slug_of it.words ∷ []; is_open = false }

-- after an event
abbrev pub passed : RangedEvent → Reading → Reading
passed (start (heading level id classes attributes), range) it = record it { is_open = true; words = [] }
passed (end (End.Heading level), range) it = ended it
passed (start (image kind destination title label), range) it = record it { images_end = max it.images_end range.end }
passed (text words, range) it = with_words words range it
passed (code words, range) it = with_words words range it
passed event it = it

abbrev pub after_events : List RangedEvent → Reading → Reading
after_events [] it = it
after_events (event ∷ later) it = after_events later (passed event it)

-- before the first event
abbrev pub none_read : Reading
none_read = record { slugs = []; is_open = false; words = []; images_end = 0 }

-- These are what the headings of a page make, in order.
pub record AreSlugsOf (page : List ℕ) (setting : Extensions) (slugs : List (List ℕ)) : Type 0 where
  pub events : List RangedEvent
  pub are_events : ArePageEvents page setting events
  pub are_slugs : slugs ≡ (after_events events none_read).slugs
