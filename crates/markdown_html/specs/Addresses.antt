-- The schemes of addresses as a browser reads them. (URL standard, section 4.4, the basic URL parser)
use Rattle.std.specs.Prelude.{ℕ, Bool, true, ◌||◌, ◌==◌, not, nat_le, List, [], ◌∷◌, Option, Some, None, filter, map, if◌then◌else◌}
use Rattle.std.specs.List.{list_any}
use Rattle.std.specs.Option.{option_map, option_map_or}
use Rattle.std.specs.Char.{to_ascii_lowercase}
use Rattle.std.specs.Str.{bytes_eq}
use Rattle.markdown_scanners_tree.specs.Ascii.{tab, line_feed, carriage_return, space, colon}
use Rattle.markdown_scanners_tree.specs.Bytes.{is_letter}
use Rattle.markdown_scanners_tree.specs.scanners.links.Autolink.{is_scheme_byte}

-- a C0 control or space
abbrev pub is_control_or_space : ℕ → Bool
is_control_or_space b = nat_le b space

-- an ASCII tab or newline
abbrev pub is_tab_or_newline : ℕ → Bool
is_tab_or_newline b = b == tab || b == line_feed || b == carriage_return

-- Leading C0 controls and spaces are removed. (Those at the end are too, and stand in no scheme.)
abbrev pub without_leading : List ℕ → List ℕ
without_leading [] = []
without_leading (b ∷ bs) = if is_control_or_space b then without_leading bs else b ∷ bs

-- Then all ASCII tabs and newlines are removed.
abbrev pub without_breaks : List ℕ → List ℕ
without_breaks = filter (λ b. not (is_tab_or_newline b))

-- Scheme state: letters, digits, `+`, `-` and `.`, in lower case, up to a colon.
abbrev pub scheme_state : List ℕ → Option (List ℕ)
scheme_state [] = None
scheme_state (b ∷ bs) =
    if b == colon then Some []
    else if is_scheme_byte b then option_map (λ rest. to_ascii_lowercase b ∷ rest) (scheme_state bs)
    else None

-- Scheme start state: a letter.
abbrev pub scheme_start_state : List ℕ → Option (List ℕ)
scheme_start_state [] = None
scheme_start_state (b ∷ bs) =
    if is_letter b then option_map (λ rest. to_ascii_lowercase b ∷ rest) (scheme_state bs) else None

-- The scheme of an address, in lower case; none where the address is relative.
abbrev pub scheme_of : List ℕ → Option (List ℕ)
scheme_of address = scheme_start_state (without_breaks (without_leading address))

-- This scheme, in lower case, is one of these.
abbrev pub is_allowed_scheme : List (List ℕ) → List ℕ → Bool
is_allowed_scheme schemes scheme = list_any (λ allowed. bytes_eq scheme (map to_ascii_lowercase allowed)) schemes

-- The scheme of the address is one of these, or the address is relative.
abbrev pub is_allowed_address : List (List ℕ) → List ℕ → Bool
is_allowed_address schemes address = option_map_or (is_allowed_scheme schemes) (scheme_of address) true
