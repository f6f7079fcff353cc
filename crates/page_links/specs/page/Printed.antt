-- What the program prints of a page: a line for each of its links and images, and of what is reported of its labels, in words or as JSON.
use Rattle.std.specs.Prelude.{ℕ, Bool, true, false, ◌≡◌, List, ◌++◌, Option, Result}
use Rattle.std.specs.List.{flat_map}
use Rattle.std.specs.Str.{IsUtf8}
use Rattle.markdown_values.specs.declared.values.extensions.Extensions.{Extensions}
use Rattle.page_links.specs.declared.checks.FileState.{FileState}
use Rattle.program_faults.specs.declared.reasons.Reason.{Reason}
use Rattle.page_programs.specs.Names.{shown}
use Rattle.page_links.specs.declared.printing.LinkForm.{LinkForm}
use Rattle.page_links.specs.declared.printing.LinkForm.TheVariants.{Words, Json}
use Rattle.page_links.specs.anchors.Anchors.{AreAnchorsOf}
use Rattle.page_links.specs.checks.Checks.{AreTargetReports}
use Rattle.html_attributes.specs.StartTags.{WrittenTag}
use Rattle.page_links.specs.html.Html.{AreTagsOf}
use Rattle.page_links.specs.html_links.HtmlLinks.{AreHtmlLinks}
use Rattle.page_links.specs.labels.Labels.{AreLabelReports}
use Rattle.page_links.specs.links.Links.{AreLinksOf, Seen}
use Rattle.page_positions.specs.Positions.{text_position}
use Rattle.page_links.specs.printing.Faults.{fault_in}
use Rattle.page_links.specs.printing.Lines.{line_in}
use Rattle.page_links.specs.reports.Reports.{Reported}

-- The name of a page as lines in this form have it: in words no control character of it breaks a line.
abbrev pub name_in : LinkForm → List ℕ → List ℕ
name_in Words name = shown name
name_in Json name = name

-- the line of a link of a page of this name
abbrev pub line_of : LinkForm → List ℕ → List ℕ → Seen → List ℕ
line_of form name page it = line_in form name (text_position page it.range.start) it

-- the lines of links of a page of this name
abbrev pub list_of : LinkForm → List ℕ → List ℕ → List Seen → List ℕ
list_of form name page links = flat_map (line_of form name page) links

-- the line of a report of a page of this name
abbrev pub report_line_of : LinkForm → List ℕ → List ℕ → Reported → List ℕ
report_line_of form name page it = fault_in form name (text_position page it.offset) it

-- the lines of reports of a page of this name
abbrev pub reports_of : LinkForm → List ℕ → List ℕ → List Reported → List ℕ
reports_of form name page reports = flat_map (report_line_of form name page) reports

-- The text is the lines of all links and images of the page of this name, and of no others; and then of what is reported of its labels.
pub record IsList (form : LinkForm) (setting : Extensions) (name page text : List ℕ) : Type 0 where
  pub is_text : IsUtf8 page
  pub links : List Seen
  pub are_links : AreLinksOf page setting links
  pub reports : List Reported
  pub are_reports : AreLabelReports page setting links reports
  pub is_list : text ≡ list_of form name page links ++ reports_of form name page reports

-- where files may be read and found, and this folder is the root of destinations from a slash on
module _ (reads : List ℕ → Result (List ℕ) Reason → Type 0) (setting : Extensions) (finds : List ℕ → FileState → Type 0)
    (root : Option (List ℕ)) where
  -- This is reported of the page of this name where it is checked.
  pub record AreReports (name page : List ℕ) (reports : List Reported) : Type 0 where
    pub links : List Seen
    pub are_links : AreLinksOf page setting links
    pub anchors : List (List ℕ)
    pub are_anchors : AreAnchorsOf page setting anchors
    pub labels : List Reported
    pub are_labels : AreLabelReports page setting links labels
    pub targets : List Reported
    pub are_targets : AreTargetReports reads setting finds root name anchors links targets
    pub tags : List WrittenTag
    pub are_tags : AreTagsOf page setting tags
    pub html_links : List Seen
    pub are_html_links : AreHtmlLinks tags html_links
    pub html_targets : List Reported
    pub are_html_targets : AreTargetReports reads setting finds root name anchors html_links html_targets
    pub are_reports : reports ≡ (labels ++ targets) ++ html_targets

  -- The text is the lines of that.
  pub record IsChecked (form : LinkForm) (name page text : List ℕ) : Type 0 where
    pub is_text : IsUtf8 page
    pub reports : List Reported
    pub are_reports : AreReports name page reports
    pub is_list : text ≡ reports_of form (name_in form name) page reports

-- what is printed of the page of this name: its list; or where it is checked what is reported of it
abbrev pub IsPrinted : Bool → (List ℕ → Result (List ℕ) Reason → Type 0) → Extensions → (List ℕ → FileState → Type 0) → Option (List ℕ)
    → LinkForm → List ℕ → List ℕ → List ℕ → Type 0
IsPrinted false reads setting finds root form name page text = IsList form setting (name_in form name) page text
IsPrinted true reads setting finds root form name page text = IsChecked reads setting finds root form name page text
