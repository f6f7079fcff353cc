-- What the two passes over a label tell each other.
use Rattle.std.specs.Prelude.{ℕ, Bool, true, false, ◌&&◌, ◌==◌, not, List, [], ◌∷◌, ◌≡◌, ◌++◌, ◌+◌, ◌-◌, ◌≤◌, ◌<◌, nat_lt}
use Rattle.std.specs.Prelude.{length, drop, take, get_or, slice_index, slice_range, IsCharBoundary, String, if◌then◌else◌}
use Rattle.std.specs.String.{string_bytes, string_len}
use Rattle.markdown_scanners_tree.specs.Bytes.{begins_with, is_between, is_punctuation}
use Rattle.markdown_scanners_tree.specs.Ascii.{space, backslash, right_bracket, vertical_line}
use Rattle.markdown_scanners_tree.specs.linklabel.Answer.{without_first_space, without_last_space}
use Rattle.markdown_scanners_tree.specs.linklabel.Label.{Label, IsLabel}
use Rattle.markdown_scanners_tree.specs.declared.linklabel.tally.Tally.{Tally}
use Rattle.markdown_scanners_tree.specs.declared.linklabel.measure.Measure.{Measure}

-- how many characters begin at this byte
abbrev pub begun : ℕ → ℕ
begun byte = if not (is_between 128 191 byte) then 1 else 0

-- how many bytes this is that begin no character
abbrev pub continued : ℕ → ℕ
continued byte = if is_between 128 191 byte then 1 else 0

-- how many bytes a space takes where one is due
abbrev pub due_len : Bool → ℕ
due_len is_due = if is_due then 1 else 0

-- a word ends, and a word begins after it, with white space between
abbrev pub due_after : ℕ → ℕ → Bool
due_after end offset = nat_lt 0 end && nat_lt end offset

-- the space that is due, if one is
abbrev pub due_text : Bool → List ℕ
due_text is_due = if is_due then space ∷ [] else []

-- how many the space between a word that was read and the next one takes
abbrev pub space_len : Bool → Bool → ℕ
space_len has_word in_run = due_len (has_word && in_run)

-- how many white space adds to a text: the space after a word
abbrev pub gap_len : Bool → Bool → ℕ
gap_len has_word in_run = due_len (has_word && not in_run)

-- a backslash directly before a pipe stands at the front, and a cell of a table drops it
abbrev pub starts_dropped : Bool → List ℕ → Bool
starts_dropped is_in_table [] = false
starts_dropped is_in_table (b ∷ bs) =
    is_in_table && (b == backslash && begins_with (λ c. c == vertical_line) bs)

-- after so many bytes that are words with one space between, of which these begin no character
abbrev pub tally_after_words : ℕ → ℕ → Tally
tally_after_words count continued = record {
  skipped = continued;
  left_out = 0;
  has_word = nat_lt 0 count;
  in_run = false;
  has_ending = false;
  is_plain = true;
}

-- after a line ending of this many bytes, and those that are skipped after it
abbrev pub tally_past_ending : Tally → ℕ → ℕ → Tally
tally_past_ending y len skip = record y {
  skipped = y.skipped + skip;
  left_out = y.left_out + len + skip - gap_len y.has_word y.in_run;
  in_run = true;
  has_ending = true;
  is_plain = false;
}

-- after a byte of white space that ends no line
abbrev pub tally_past_space : Tally → ℕ → Tally
tally_past_space y byte = record y {
  left_out = y.left_out + 1 - gap_len y.has_word y.in_run;
  in_run = true;
  has_ending = y.in_run && y.has_ending;
  is_plain = y.is_plain && (byte == space && not y.in_run);
}

-- how many spaces are read at once: a space, and one more where it stands after it
abbrev pub spaces_len : List ℕ → ℕ
spaces_len after = if begins_with (λ b. b == space) after then 2 else 1

-- after a space, and one more where it stands after it
abbrev pub tally_past_spaces : Tally → List ℕ → Tally
tally_past_spaces y following =
    let after = tally_past_space y space in
    if begins_with (λ b. b == space) following then tally_past_space after space else after

-- after a byte of a word, which is or is not dropped
abbrev pub tally_past_word : Tally → ℕ → Bool → Tally
tally_past_word y byte dropped = record y {
  skipped = y.skipped + continued byte;
  left_out = y.left_out + (if dropped then 1 else 0);
  has_word = true;
  in_run = false;
  is_plain = y.is_plain && not dropped;
}

-- how many bytes a backslash at the front takes, with the byte that it escapes
abbrev pub backslash_len : List ℕ → ℕ
backslash_len rest = if begins_with is_punctuation (drop 1 rest) then 2 else 1

-- after a backslash at the front, and the byte that it escapes
abbrev pub tally_past_backslash : Bool → Tally → List ℕ → Tally
tally_past_backslash t y rest =
    let after = tally_past_word y backslash (starts_dropped t rest) in
    if begins_with is_punctuation (drop 1 rest)
    then tally_past_word after (get_or rest 1 0) (starts_dropped t (drop 1 rest))
    else after

-- the source has one label, and the first pass given of it what the second one needs
pub record IsMeasure (answers : List ℕ → ℕ → Type 0) (source : List ℕ) (is_in_table : Bool) (m : Measure) : Type 0 where
  pub label : Label
  pub is_label : IsLabel answers source is_in_table label
  pub only : (other : Label) → IsLabel answers source is_in_table other → other ≡ label
  pub len_is : m.close + 1 ≡ label.len
  pub length_is : m.length ≡ length label.text
  pub plain_is : m.is_plain ≡ label.plain
  pub stands : label.plain ≡ true → label.text ≡ without_last_space (without_first_space (take m.close source))
  pub inside : m.close < length source
  pub closes : get_or source m.close 0 ≡ right_bracket

-- the source has a label, which takes so many bytes at most
pub record HasLabelWithin (answers : List ℕ → ℕ → Type 0) (source : List ℕ) (is_in_table : Bool) (size : ℕ) : Type 0 where
  pub label : Label
  pub is_label : IsLabel answers source is_in_table label
  pub within : label.len ≤ size

-- what a byte of a word adds to a text: the space that is due before it, and itself, or nothing for
-- a backslash that a cell drops
abbrev pub word_text : Bool → Bool → ℕ → List ℕ
word_text is_due drops byte = due_text is_due ++ (if drops then [] else byte ∷ [])

-- A byte of a word was written: what is appended then, and the text from `next` up to after the
-- byte, are what was appended before, the text from `mark` up to `end`, where the last word ends, and
-- what the byte adds.
pub record IsWordWritten {Z : Type 0} (is_in_table : Bool) (text : List ℕ) (mark end offset : ℕ) (old new : String Z)
    (next : ℕ) : Type 0 where
  pub within : next ≤ offset + 1
  pub start : IsCharBoundary text next
  pub text_is : string_bytes new ++ slice_range text next (offset + 1)
      ≡ (string_bytes old ++ slice_range text mark end)
      ++ word_text (due_after end offset) (starts_dropped is_in_table (drop offset text)) (slice_index text offset)
  pub len_is : string_len new + (offset + 1 - next) ≡ string_len old + (end - mark)
      + length (word_text (due_after end offset) (starts_dropped is_in_table (drop offset text)) (slice_index text offset))
