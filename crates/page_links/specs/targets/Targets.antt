-- The parts of a destination. (RFC 3986, sections 3 and 4)
use Rattle.std.specs.Prelude.{ℕ, Bool, true, false, not, ◌&&◌, ◌||◌, ◌==◌, ◌-◌, List, [], ◌∷◌, ◌++◌, length, take, Option, Some, None, if◌then◌else◌}
use Rattle.std.specs.Prelude.{codes, drop, nat_eq}
use Rattle.std.specs.List.{prefix_len, starts_with, suffix_len}
use Rattle.std.specs.Option.{unwrap_or}
use Rattle.std.specs.Str.{str_eq_ignore_ascii_case}
use Rattle.std.specs.Str.Lossy.{utf8_lossy}
use Rattle.markdown_scanners_tree.specs.Ascii.{colon, full_stop}
use Rattle.markdown_scanners_tree.specs.Bytes.{begins_with, is_between}
use Rattle.percent_encoding.specs.Percent.{percent_decode}

abbrev pub is_letter : ℕ → Bool
is_letter b = is_between 65 90 b || is_between 97 122 b

-- letters, digits, `+`, `-` and `.` (3.1)
abbrev pub is_scheme_byte : ℕ → Bool
is_scheme_byte b = is_letter b || is_between 48 57 b || b == 43 || b == 45 || b == full_stop

-- such bytes, and then a colon
abbrev pub ends_scheme : List ℕ → Bool
ends_scheme [] = false
ends_scheme (b ∷ bytes) = if b == colon then true else is_scheme_byte b && ends_scheme bytes

-- a scheme begins with a letter
abbrev pub has_scheme : List ℕ → Bool
has_scheme destination = begins_with is_letter destination && ends_scheme destination

-- it begins with a slash (4.2)
abbrev pub is_from_root : List ℕ → Bool
is_from_root destination = begins_with (λ b. b == 47) destination

-- it begins with two, after which a host stands (4.2)
abbrev pub has_host : List ℕ → Bool
has_host destination = starts_with nat_eq destination (codes "//")

-- It is not looked for where this folder is the root: it has a scheme or a host; or begins with a slash, where no folder is.
abbrev pub is_elsewhere : Option (List ℕ) → List ℕ → Bool
is_elsewhere None destination = has_scheme destination || is_from_root destination
is_elsewhere (Some root) destination = has_scheme destination || has_host destination

-- a query or a fragment begins (3.3)
abbrev pub ends_path : ℕ → Bool
ends_path b = b == 63 || b == 35

-- what stands before them
abbrev pub path_of : List ℕ → List ℕ
path_of destination = take (prefix_len (λ b. not (ends_path b)) destination) destination

-- what stands after the first number sign (3.5)
abbrev pub fragment_of : List ℕ → Option (List ℕ)
fragment_of [] = None
fragment_of (b ∷ bytes) = if b == 35 then Some bytes else fragment_of bytes

-- what stands up to the last slash, with it
abbrev pub folder_of : List ℕ → List ℕ
folder_of name = take (length name - suffix_len (λ b. not (b == 47)) name) name

-- where a path leads from in the page of this name: from the root where it begins with a slash, and else from the folder of the page
abbrev pub base_of : Option (List ℕ) → List ℕ → List ℕ → List ℕ
base_of root name path = if is_from_root path then unwrap_or root [] else folder_of name

-- the path that it means: from there on, percent-encoded bytes decoded (2.1), and U+FFFD for what is not UTF-8 then
abbrev pub opened_path : Option (List ℕ) → List ℕ → List ℕ → List ℕ
opened_path root name path = utf8_lossy (base_of root name path ++ percent_decode path)

-- a text ends so, in ASCII letters of any case
abbrev pub ends_as : List ℕ → List ℕ → Bool
ends_as last text = str_eq_ignore_ascii_case (drop (length text - length last) text) last

-- the file of this path is a page of Markdown, by its name
abbrev pub is_page : List ℕ → Bool
is_page path = ends_as (codes ".md") path || ends_as (codes ".markdown") path

-- the text that a fragment means
abbrev pub fragment_text : List ℕ → List ℕ
fragment_text fragment = utf8_lossy (percent_decode fragment)
