-- The extensions that the arguments of the command line ask for. An option and its value are one word.
use Rattle.std.specs.Prelude.{ℕ, Bool, ◌||◌, List, [], ◌∷◌, codes}
use Rattle.std.specs.Borrow.{Bor}
use Rattle.std.specs.Str.{bytes_eq}
use Rattle.markdown_values.specs.declared.values.extensions.Extensions.{Extensions}
use Rattle.page_programs.specs.Arguments.{asks}

-- packages/extensions
abbrev pub tables : List ℕ
tables = codes "-e tables"

abbrev pub footnotes : List ℕ
footnotes = codes "-e footnotes"

abbrev pub strikethrough : List ℕ
strikethrough = codes "-e strikethrough"

abbrev pub tasks : List ℕ
tasks = codes "-e tasks"

abbrev pub definition_lists : List ℕ
definition_lists = codes "-e definition-lists"

abbrev pub wikilinks : List ℕ
wikilinks = codes "-e wikilinks"

abbrev pub gfm : List ℕ
gfm = codes "--gfm"

-- the options that ask for extensions of which events are built
abbrev pub event_options : List (List ℕ)
event_options = tables ∷ strikethrough ∷ tasks ∷ wikilinks ∷ gfm ∷ []

-- those that ask for any extension
abbrev pub extension_options : List (List ℕ)
extension_options = footnotes ∷ definition_lists ∷ event_options

-- an extension of GitHub Flavored Markdown is on where its option asks for it, or `--gfm`
abbrev pub is_on : List ℕ → List (Bor (List ℕ)) → Bool
is_on option arguments = asks gfm arguments || asks option arguments

abbrev pub extensions_of : List (Bor (List ℕ)) → Extensions
extensions_of arguments = record {
  tables = is_on tables arguments;
  footnotes = asks footnotes arguments;
  strikethrough = is_on strikethrough arguments;
  tasks = is_on tasks arguments;
  definition_lists = asks definition_lists arguments;
  wikilinks = asks wikilinks arguments;
}

-- those that a word asks for
abbrev pub extensions_by : List ℕ → Extensions
extensions_by word = record {
  tables = bytes_eq word gfm || bytes_eq word tables;
  footnotes = bytes_eq word footnotes;
  strikethrough = bytes_eq word gfm || bytes_eq word strikethrough;
  tasks = bytes_eq word gfm || bytes_eq word tasks;
  definition_lists = bytes_eq word definition_lists;
  wikilinks = bytes_eq word wikilinks;
}

abbrev pub both : Extensions → Extensions → Extensions
both some others = record {
  tables = some.tables || others.tables;
  footnotes = some.footnotes || others.footnotes;
  strikethrough = some.strikethrough || others.strikethrough;
  tasks = some.tasks || others.tasks;
  definition_lists = some.definition_lists || others.definition_lists;
  wikilinks = some.wikilinks || others.wikilinks;
}

-- end
