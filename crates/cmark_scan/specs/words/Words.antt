-- The words of the command line.
use Rattle.std.specs.Prelude.{ℕ, Bool, ◌&&◌, List, [], ◌∷◌, Option, None, Some, length, nat_lt, ◌^◌, if◌then◌else◌}
use Rattle.std.specs.List.{list_all, filter_map, position_or_len, before_first, after_first}
use Rattle.std.specs.Prelude.{option_and_then, is_some}
use Rattle.std.specs.Str.{all_ascii_digits, bytes_eq}
use Rattle.std.specs.Str.Parse.{digits_value}
use Rattle.std.specs.Prelude.{codes, ◌==◌}
use Rattle.markdown_scanners_tree.specs.Ascii.{colon}
use Rattle.markdown_scanners_tree.specs.declared.line.run.LineCall.{LineCall}
use Rattle.markdown_scanners_tree.specs.declared.line.run.LineCall.TheVariants as call

-- the number of a word of decimal digits, one or more, where a `usize` holds it
abbrev pub number_of : List ℕ → Option ℕ
number_of digits =
    if (nat_lt 0 (length digits) && all_ascii_digits digits)
    && nat_lt (digits_value 10 digits) (2 ^ 64)
    then Some (digits_value 10 digits) else None

-- the call that a name and a number ask for
abbrev pub numbered_call : List ℕ → ℕ → Option LineCall
numbered_call name n =
    if bytes_eq name (codes "space") then Some (call.Space n)
    else (if bytes_eq name (codes "upto") then Some (call.Upto n)
    else (if bytes_eq name (codes "list") then Some (call.List n)
    else (if bytes_eq name (codes "def") then Some (call.Definition n)
    else None)))

-- the call that a word asks for: a bare name, or a name, a colon and a number
abbrev pub call_of : List ℕ → Option LineCall
call_of word =
    if bytes_eq word (codes "eol") then Some call.Eol
    else (if bytes_eq word (codes "quote") then Some call.Quote
    else (if nat_lt (position_or_len (λ b. b == colon) word) (length word)
    then option_and_then (numbered_call (before_first (λ b. b == colon) word))
    (number_of (after_first (λ b. b == colon) word))
    else None))

-- each word asks for a call
abbrev pub are_calls : List (List ℕ) → Bool
are_calls = list_all (λ word. is_some (call_of word))

-- the calls that words ask for
abbrev pub calls_of : List (List ℕ) → List LineCall
calls_of = filter_map call_of

-- what the command line asks for
pub data Request : Type 0 where
  scan_line : List LineCall → Request
  scan_html : Request
  scan_unescape : Request
  scan_label : Request

-- the request that the words make, where they make one: `line` and words that each ask for a call;
-- `html`, `unescape` or `label` alone
abbrev pub request_of : List (List ℕ) → Option Request
request_of [] = None
request_of (word ∷ words) =
    if bytes_eq word (codes "line") && are_calls words then Some (scan_line (calls_of words))
    else (if bytes_eq word (codes "html") && length words == 0 then Some scan_html
    else (if bytes_eq word (codes "unescape") && length words == 0 then Some scan_unescape
    else (if bytes_eq word (codes "label") && length words == 0 then Some scan_label
    else None)))
