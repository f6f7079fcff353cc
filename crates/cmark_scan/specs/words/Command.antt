-- The command line as the program keeps it.
use Rattle.std.specs.Prelude.{ℕ, List, map}
use denote.Ref.{Bor}
use Rattle.cmark_scan.specs.words.Words.{Request, scan_line, scan_html, scan_unescape, scan_label, calls_of}
use Rattle.cmark_scan.specs.declared.words.Command.{Command}
use Rattle.cmark_scan.specs.declared.words.Command.TheVariants as command

-- the words as lists of bytes
abbrev pub texts : List (Bor (List ℕ)) → List (List ℕ)
texts = map (λ word. word.now)

-- the request that a command stands for
abbrev pub request_view : Command → Request
request_view (command.Line words) = scan_line (calls_of (texts words.now))
request_view command.Html = scan_html
request_view command.Unescape = scan_unescape
request_view command.Label = scan_label
