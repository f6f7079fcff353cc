-- The label that the program reads, and what it prints.
-- (CommonMark 0.31.2, section 6.3, link labels)
use Rattle.std.specs.Prelude.{ℕ, Bool, false, List, ◌++◌, ◌≡◌, ◌⊎◌, codes}
use Rattle.std.specs.Fmt.{decimal}
use Rattle.std.specs.Str.{IsUtf8}
use Rattle.markdown_scanners_tree.specs.NoSkips.{SkipsNothing}
use Rattle.markdown_scanners_tree.specs.linklabel.Label.{Label, IsLabel}
use Rattle.cmark_scan.specs.printing.Outcome.{Outcome, no_text, line_of, flag_text}

-- the label at the front of a text, out of a table
abbrev pub IsLabelOf : List ℕ → Label → Type 0
IsLabelOf text label = IsLabel SkipsNothing text false label

-- a label: how many bytes it takes, whether its text is borrowed, and its text
abbrev pub label_lines : ℕ → Bool → List ℕ → List ℕ
label_lines taken borrowed text =
    line_of (codes "bytes " ++ decimal taken)
    ++ line_of (codes "borrowed " ++ flag_text borrowed)
    ++ line_of (codes "label " ++ text)

abbrev pub printed_label : Label → Outcome
printed_label label = record { printed = label_lines label.len label.plain label.text; status = 0 }

-- where there is no label: `none`, and status 1
abbrev pub no_label : Outcome
no_label = record { printed = line_of (codes "none"); status = 1 }

-- the label of a text, or that it has none, or nothing and status 1 where the input isn't UTF-8
abbrev pub IsLabelOutcome : List ℕ → Outcome → Type 0
IsLabelOutcome input outcome =
    (IsUtf8 input × ((label : Label) × IsLabelOf input label × (outcome ≡ printed_label label)))
    ⊎ (IsUtf8 input × ((label : Label) → ¬ IsLabelOf input label) × (outcome ≡ no_label))
    ⊎ ((¬ IsUtf8 input) × (outcome ≡ no_text))
