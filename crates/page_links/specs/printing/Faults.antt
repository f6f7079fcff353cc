-- The lines that are printed of faults, in words and as JSON.
use Rattle.std.specs.Prelude.{ℕ, List, [], ◌∷◌, ◌++◌, codes}
use Rattle.markdown_scanners_tree.specs.Ascii.{line_feed}
use Rattle.page_events.specs.Json.{member, text_member, word_json}
use Rattle.page_events.specs.Lines.{quoted}
use Rattle.page_positions.specs.declared.Position.{Position}
use Rattle.page_links.specs.declared.printing.LinkForm.{LinkForm}
use Rattle.page_links.specs.declared.printing.LinkForm.TheVariants.{Words, Json}
use Rattle.page_links.specs.declared.reports.Finding.{Finding}
use Rattle.page_links.specs.declared.reports.Finding.TheVariants.{NotDefined, NotUsed, DefinedBefore, NoFile, Denied, Unread, NoAnchor}
use Rattle.page_links.specs.printing.Lines.{file_member, position_members, position_words}
use Rattle.page_links.specs.reports.Reports.{Reported}

abbrev pub finding_words : Finding → List ℕ
finding_words NotDefined = codes "label not defined"
finding_words NotUsed = codes "label not used"
finding_words DefinedBefore = codes "label defined before"
finding_words NoFile = codes "no such file"
finding_words Denied = codes "permission denied"
finding_words Unread = codes "can't be read"
finding_words NoAnchor = codes "no such heading"

-- the line of a fault that is there in the page of this name
abbrev pub fault_line : List ℕ → Position → Reported → List ℕ
fault_line name position it = position_words name position ++ (finding_words it.finding ++ (quoted it.text ++ line_feed ∷ []))

-- its object
abbrev pub fault_json : List ℕ → Position → Reported → List ℕ
fault_json name position it =
    file_member name ++ (position_members position ++ (member (codes "fault") (word_json (finding_words it.finding))
    ++ (text_member (codes "text") it.text ++ codes "}\n")))

-- what is printed of it in this form
abbrev pub fault_in : LinkForm → List ℕ → Position → Reported → List ℕ
fault_in Words = fault_line
fault_in Json = fault_json
