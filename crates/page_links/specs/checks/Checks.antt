-- What is reported of links that lead to files, to anchors of their page, or to those of other pages.
use Rattle.std.specs.Prelude.{ℕ, Bool, true, false, MatchBool, not, ◌&&◌, ◌||◌, ◌==◌, ◌≡◌, List, [], ◌∷◌, ◌++◌, length, Option, Some, None, codes, if◌then◌else◌}
use Rattle.std.specs.Prelude.{Result, Ok, Err}
use Rattle.std.specs.Borrow.{Bor}
use Rattle.std.specs.Option.{is_some, option_map}
use Rattle.std.specs.Str.{str_eq_ignore_ascii_case}
use Rattle.std.specs.Str.Lossy.{utf8_lossy}
use Rattle.markdown_values.specs.declared.values.extensions.Extensions.{Extensions}
use Rattle.markdown_values.specs.declared.values.LinkType.{LinkType}
use Rattle.markdown_values.specs.declared.values.LinkType.TheVariants as Kind
use Rattle.page_links.specs.declared.reports.Finding.{Finding}
use Rattle.page_links.specs.declared.reports.Finding.TheVariants.{NoFile, Denied, Unread, NoAnchor}
use Rattle.page_links.specs.declared.checks.FileState.{FileState}
use Rattle.page_links.specs.declared.checks.FileState.TheVariants as File
use Rattle.page_links.specs.anchors.Anchors.{AreAnchorsOf, is_among}
use Rattle.page_links.specs.labels.Labels.{is_footnote}
use Rattle.page_links.specs.links.Links.{Seen}
use Rattle.page_links.specs.reports.Reports.{Reported}
use Rattle.page_links.specs.targets.Targets.{fragment_of, fragment_text, is_elsewhere, is_page, opened_path, path_of}
use Rattle.program_faults.specs.declared.reasons.Reason.{Reason}
use Rattle.program_faults.specs.declared.reasons.Reason.TheVariants as Why

-- an autolink has an address, and a wikilink a name: neither has a path
abbrev pub has_path : LinkType → Bool
has_path Kind.Autolink = false
has_path Kind.Email = false
has_path (Kind.WikiLink has_pipe) = false
has_path kind = true

-- a report of where a link leads
abbrev pub reported : Finding → Seen → List Reported
reported finding it = record { offset = it.range.start; finding = finding; text = it.destination } ∷ []

-- a link leads elsewhere where this folder is the root: it has no path, or not one that is looked for, or it is a footnote
abbrev pub leads_away : Option (List ℕ) → Seen → Bool
leads_away root it = not (has_path it.link_type) || is_elsewhere root it.destination || is_footnote it.label

-- a fragment that is empty, or `top` in letters of any case, is the front of the page (HTML, "Scrolling to a fragment")
abbrev pub is_front : List ℕ → Bool
is_front text = length text == 0 || str_eq_ignore_ascii_case text (codes "top")

-- another is one of the anchors
abbrev pub is_known : List (List ℕ) → List ℕ → Bool
is_known anchors text = is_front text || is_among anchors text

abbrev pub fragment_report : List (List ℕ) → Seen → Option (List ℕ) → List Reported
fragment_report anchors it None = []
fragment_report anchors it (Some fragment) =
    if is_known anchors (fragment_text fragment) then [] else reported NoAnchor it

-- of a file that is there, that is not, or that may not be looked for
abbrev pub file_report : Seen → FileState → List Reported
file_report it File.There = []
file_report it File.Missing = reported NoFile it
file_report it File.Denied = reported Denied it

-- why a page can't be read: where no file can have its path, it is not there
abbrev pub unread_finding : Reason → Finding
unread_finding Why.NotFound = NoFile
unread_finding Why.NotFolder = NoFile
unread_finding Why.Links = NoFile
unread_finding Why.LongName = NoFile
unread_finding Why.Invalid = NoFile
unread_finding Why.Denied = Denied
unread_finding why = Unread

-- the folder that is the root, if one is
abbrev pub given : Option (Bor (List ℕ)) → Option (List ℕ)
given root = option_map (λ root. root.now) root

-- what reading files may come to, and how pages are read
module _ (reads : List ℕ → Result (List ℕ) Reason → Type 0) (setting : Extensions) where
  -- These are the anchors of the page of this path, if it can be read; what is not UTF-8 in it is U+FFFD.
  abbrev pub AreAnchorsAt : List ℕ → List (List ℕ) → Type 0
  AreAnchorsAt path anchors = (bytes : List ℕ) × reads path (Ok bytes) × AreAnchorsOf (utf8_lossy bytes) setting anchors

  -- What is reported of a link to the page of this path: whether that has the anchor; or why it can't be read.
  pub data IsPageReport (path : List ℕ) (it : Seen) : List Reported → Type 0 where
    is_read : (anchors : List (List ℕ)) → AreAnchorsAt path anchors → IsPageReport path it (fragment_report anchors it (fragment_of it.destination))
    is_unread : (why : Reason) → reads path (Err why) → IsPageReport path it (reported (unread_finding why) it)

  -- and what may be found of files, of which this folder is the root
  module _ (finds : List ℕ → FileState → Type 0) (root : Option (List ℕ)) where
    -- The same of a link to the file of this path: of one with a fragment, where the file is a page, that of the page; else whether it is there.
    abbrev pub IsFileReport : List ℕ → Seen → List Reported → Type 0
    IsFileReport path it here =
        MatchBool (is_some (fragment_of it.destination) && is_page path) (IsPageReport path it here)
        ((answer : FileState) × finds path answer × (here ≡ file_report it answer))

    -- What is reported of a link of the page of this name, which has these anchors: nothing, if it leads away; of a fragment alone, whether the
    -- page has that anchor; and else that of the file.
    abbrev pub IsTargetReport : List ℕ → List (List ℕ) → Seen → List Reported → Type 0
    IsTargetReport name anchors it here =
        MatchBool (leads_away root it) (here ≡ [])
        (MatchBool (length (path_of it.destination) == 0) (here ≡ fragment_report anchors it (fragment_of it.destination))
        (IsFileReport (opened_path root name (path_of it.destination)) it here))

    -- the same of each link, in order
    abbrev pub AreTargetReports : List ℕ → List (List ℕ) → List Seen → List Reported → Type 0
    AreTargetReports name anchors [] reports = reports ≡ []
    AreTargetReports name anchors (it ∷ later) reports =
        (here : List Reported) × (rest : List Reported) × IsTargetReport name anchors it here
        × AreTargetReports name anchors later rest × (reports ≡ here ++ rest)
