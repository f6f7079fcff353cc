-- Link labels. (CommonMark 0.31.2, section 6.3, links)
use Rattle.std.specs.Prelude.{ℕ, Bool, true, false, List, [], ◌≡◌, ◌≢◌, ◌≤◌, ◌+◌, ◌⊎◌, nat_eq, length, take, drop, if◌then◌else◌}
use Rattle.std.specs.Cmp.Lexicographic.{pointwise}
use Rattle.std.specs.Str.{IsUtf8}
use Rattle.markdown_scanners_tree.specs.linklabel.Key.{label_key}
use Rattle.markdown_scanners_tree.specs.linklabel.Label.{Label, IsLabel}
use Rattle.markdown_scanners_c.specs.Answers.{none}
use Rattle.markdown_scanners_c.specs.Buffer.{IsWritten}
use Rattle.markdown_scanners_c.specs.Skips.{LeavesOut}
use Rattle.markdown_scanners_c.specs.Status.{ok, nothing, past_end, no_memory}
use Rattle.markdown_scanners_c.specs.TextPlace.{IsAnswerAt}
use Rattle.markdown_scanners_c.specs.declared.labels.LabelText.{LabelText}
use Rattle.markdown_scanners_c.specs.declared.skips.Skip.{Skip}

-- a status, and no label
abbrev pub IsNoLabelText : ℕ → LabelText → Type 0
IsNoLabelText status text = (text.status ≡ status) × (text.end ≡ 0) × (text.length ≡ 0) × (text.start ≡ 0)

-- A label's text stands in the input from the offset on, as it is; or it stands nowhere there.
abbrev pub IsStart : List ℕ → Label → ℕ → Type 0
IsStart bytes label start =
    ((label.plain ≡ true) × (start + length label.text ≤ length bytes)
    × (take (length label.text) (drop start bytes) ≡ label.text))
    ⊎ ((label.plain ≡ false) × (start ≡ none))

-- A label at the offset, over lines of which the skips are left out. The bytes that it takes are UTF-8; those after it may
-- be any.
abbrev pub IsLabelAt : List Skip → List ℕ → ℕ → Bool → Label → Type 0
IsLabelAt skips bytes start in_table label =
    IsLabel (LeavesOut skips bytes) (drop start bytes) in_table label × IsUtf8 (take label.len (drop start bytes))

-- A text that stands in the input is given by its offset alone where there is no buffer; and else a text is written.
abbrev pub IsGiven : Bool → List ℕ → List ℕ → List ℕ → ℕ → ℕ → Type 0
IsGiven stands text old new status needed =
    ((stands ≡ true) × (old ≡ []) × (status ≡ ok) × (needed ≡ length text) × (new ≡ old))
    ⊎ (¬ ((stands ≡ true) × (old ≡ [])) × IsWritten text old new status needed)

-- No label is one; or some is, which doesn't stand there as it is, and memory for its text was refused; or one is, and its
-- text is given.
unfoldable pub IsLabelText : (Label → Type 0) → List ℕ → ℕ → List ℕ → List ℕ → LabelText → Type 0
IsLabelText IsOne bytes start old new text =
    (IsNoLabelText nothing text × (new ≡ old) × ((label : Label) → ¬ (IsOne label)))
    ⊎ (IsNoLabelText no_memory text × (new ≡ old) × ¬ ((label : Label) → ¬ (IsOne label))
    × ((label : Label) → IsOne label → label.plain ≢ true))
    ⊎ ((label : Label) × IsOne label × (text.end ≡ start + label.len) × IsStart bytes label text.start
    × IsGiven label.plain label.text old new text.status text.length)

-- The offset is past the end; or the label at it is returned.
abbrev pub IsScannedLabel : Bool → List Skip → List ℕ → ℕ → List ℕ → List ℕ → LabelText → Type 0
IsScannedLabel in_table skips bytes start old new text =
    IsAnswerAt bytes start (IsNoLabelText past_end text × (new ≡ old))
    (IsLabelText (IsLabelAt skips bytes start in_table) bytes start old new text)

-- whether two labels have one key, as a status
abbrev pub match_status : List ℕ → List ℕ → ℕ
match_status one other = if pointwise nat_eq (label_key one) (label_key other) then ok else nothing
