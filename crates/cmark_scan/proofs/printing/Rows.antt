-- Worked examples of words and of printed text, computed from the definitions.
use Rattle.std.proofs.Common.{◌≡◌, refl, [], ◌∷◌, ◌++◌, Some, None, true, false}
use Rattle.std.specs.Prelude.{codes}
use Rattle.std.specs.Fmt.{digits}
use Rattle.markdown_scanners_tree.specs.declared.line.run.LineCall.TheVariants as call
use Rattle.markdown_scanners_tree.specs.declared.line.run.LineAnswer.TheVariants as answer
use Rattle.markdown_scanners_tree.specs.declared.line.run.LineStop.TheVariants.{SpacePending}
use Rattle.cmark_scan.specs.words.Words.{call_of, request_of, scan_line, scan_html, scan_unescape, scan_label}
use Rattle.cmark_scan.specs.unescaping.EntityTexts.{entity_text}
use Rattle.cmark_scan.specs.html.HtmlScans.{html_text, scans_from, scans_of}
use Rattle.cmark_scan.specs.label.LabelRun.{label_lines}
use Rattle.cmark_scan.specs.printing.Outcome.{line_of}
use Rattle.cmark_scan.specs.printing.Printed.{run_text}
use Rattle.markdown_scanners_tree.specs.inline_html.InlineHtml.{declared_at, opening_at, least_offset, cost}

largest_number : call_of (codes "upto:18446744073709551615") ≡ Some (call.Upto 18446744073709551615)
largest_number = refl

number_too_large : call_of (codes "upto:18446744073709551616") ≡ None
number_too_large = refl

no_number : call_of (codes "space:") ≡ None
no_number = refl

signed_number : call_of (codes "space:+1") ≡ None
signed_number = refl

line_words : request_of (codes "line" ∷ codes "quote" ∷ codes "upto:3" ∷ codes "list:2" ∷ []) ≡ Some (scan_line (call.Quote ∷ call.Upto 3 ∷ call.List 2 ∷ []))
line_words = refl

one_other_word : request_of (codes "line" ∷ codes "quote" ∷ codes "quotes" ∷ []) ≡ None
one_other_word = refl

no_words : request_of [] ≡ None
no_words = refl

stopped : run_text (call.Upto 3 ∷ call.Eol ∷ []) (record { answers = answer.Count 3 ∷ []; rest = 32 ∷ 120 ∷ []; scanned = 1; stop = Some (1, SpacePending) })
    ≡ line_of (codes "upto 3") ++ line_of (codes "scanned 1") ++ line_of (codes "rest 2078") ++ line_of (codes "stop 1 SpacePending")
unfolding digits
stopped = refl

flags : run_text (call.Space 1 ∷ call.Eol ∷ []) (record { answers = answer.Flag true ∷ answer.Flag true ∷ []; rest = 10 ∷ []; scanned = 1; stop = None })
    ≡ line_of (codes "space true") ++ line_of (codes "eol true") ++ line_of (codes "scanned 1") ++ line_of (codes "rest 0a")
unfolding digits
flags = refl

nothing_left : run_text [] (record { answers = []; rest = []; scanned = 0; stop = None }) ≡ line_of (codes "scanned 0") ++ line_of (codes "rest -")
unfolding digits
nothing_left = refl

html_word : request_of (codes "html" ∷ []) ≡ Some scan_html
html_word = refl

word_after_html : request_of (codes "html" ∷ codes "line" ∷ []) ≡ None
word_after_html = refl

scans : html_text (codes "<!-- <!x> <!-- <![CDATA[ ]]>") (scans_of (codes "<!-- <!x> <!-- <![CDATA[ ]]>"))
    ≡ line_of (codes "2 none") ++ line_of (codes "7 9") ++ line_of (codes "12 none") ++ line_of (codes "17 28") ++ line_of (codes "passed 42 of 144")
unfolding digits declared_at opening_at least_offset cost scans_from
scans = refl

no_scans : html_text [] (scans_of []) ≡ line_of (codes "passed 0 of 0")
unfolding digits declared_at opening_at least_offset cost scans_from
no_scans = refl

label_word : request_of (codes "label" ∷ []) ≡ Some scan_label
label_word = refl

word_after_label : request_of (codes "label" ∷ codes "label" ∷ []) ≡ None
word_after_label = refl

label : label_lines 9 false (codes "Foo Bar") ≡ line_of (codes "bytes 9") ++ line_of (codes "borrowed false") ++ line_of (codes "label Foo Bar")
unfolding digits
label = refl

unescape_word : request_of (codes "unescape" ∷ []) ≡ Some scan_unescape
unescape_word = refl

word_after_unescape : request_of (codes "unescape" ∷ codes "" ∷ []) ≡ None
word_after_unescape = refl

quotation_mark : entity_text (codes "quot") ≡ Some (34 ∷ [])
quotation_mark = refl

unknown_entity : entity_text (codes "copy") ≡ None
unknown_entity = refl
