-- Where a piece ends: in the text, and at a character boundary.
use Rattle.std.proofs.Common.{◌≡◌, ℕ, ◌+◌, ◌-◌, ◌<◌, ◌≤◌, ◌==◌, Bool, true, false, cond, List, [], ◌∷◌, ◌++◌, length, take}
use Rattle.std.proofs.Common.{drop, get_or}
use Rattle.std.proofs.Common.{refl, sym, ap, ◌∙◌, subst, arith, inl, inr, Option, Some, None, append_assoc, length-append}
use Rattle.std.specs.Prelude.{codes, IfSome, option_map}
use Rattle.std.specs.List.{prefix_len}
use Rattle.std.specs.Str.{IsUtf8, IsCharBoundary}
use Rattle.std.proofs.lemmas.Bool.{cases_lt, ne_eqb}
use Rattle.std.proofs.lemmas.Bool.Decides.{nat_tests}
use Rattle.std.proofs.lemmas.List.{drop-drop, get_or-drop, length-drop}
use Rattle.std.proofs.Math.ListN.{get_or-eq_default}
use Rattle.std.proofs.lemmas.List.Sums.{prefix_len-le-length}
use Rattle.std.proofs.Math.Seq.{drop-append_seam}
use Rattle.memchr.specs.Find.{FindsNeedle, occurs_at}
use Rattle.memchr.proofs.lemmas.MatchLemmas.{OccursAt-true}
use Rattle.markdown_scanners_tree.specs.Bytes.{is_punctuation, line_ending, begins_with}
use Rattle.markdown_scanners_tree.specs.inline_html.InlineHtml.{Kind, Comment, Cdata, Declaration, Processing, Opening, Begins, Hyphen, Bracket}
use Rattle.markdown_scanners_tree.specs.inline_html.InlineHtml.{Nothing}
use Rattle.markdown_scanners_tree.specs.inline_html.InlineHtml.{closer, end_of, find_at, first_closer, lead, opening_at}
use Rattle.markdown_scanners_tree.specs.scanners.entities.CharacterReference.{Lookup, IsReference}
use Rattle.markdown_scanners_tree.proofs.ForCallers.{cut_after_ascii, offset_of_rest}
use Rattle.markdown_scanners_tree.proofs.PrefixLemmas.{from_offset}
use Rattle.markdown_scanners_tree.proofs.inline_html.LeastPlaces.{first_offset-FindsNeedle}
use Rattle.markdown_scanners_tree.proofs.inline_html.ScanBounds.{end_of-bounds}
use Rattle.markdown_inlines.specs.DelimiterRuns.{IsRunOf}
use Rattle.markdown_inlines.specs.LineBreaks.{IsLineBreak}
use Rattle.markdown_inlines.specs.Pieces.{BeginsAt, IsCodePiece, IsHtmlPiece}
use Rattle.markdown_inlines.specs.WikiLinks.{IsOpenerEnd}
use Rattle.markdown_inlines.specs.declared.delimiter_runs.DelimiterRun.{DelimiterRun}
use Rattle.markdown_values.specs.declared.values.extensions.Extensions.{Extensions}
use Rattle.markdown_inlines.specs.declared.line_breaks.LineBreak.{LineBreak}
use Rattle.markdown_inlines.specs.declared.pieces.PieceKind.{PieceKind}
use Rattle.markdown_inlines.specs.declared.pieces.PieceKind.TheVariants.{Text, Escape, HardBreak, SoftBreak, Reference, Code, Uri, Email, Html}
use Rattle.markdown_inlines.specs.declared.pieces.PieceKind.TheVariants.{Delimiters, LinkOpener, ImageOpener, Closer}
use Rattle.markdown_inlines.proofs.delimiter_runs.DelimiterRunLemmas.{run_ends}
use Rattle.markdown_inlines.proofs.line_breaks.LineBreakLemmas.{before_only, cut_after_break}
use Rattle.markdown_inlines.proofs.pieces.NoSkipTags.{tag_ends}
use Rattle.markdown_inlines.proofs.pieces.Openings.{begins_class, byte_class, no_kind}
use Rattle.markdown_inlines.proofs.wiki_links.WikiLinkLemmas.{head_ends}

-- some bytes from an offset on are in the text, and after them it may be cut
pub record IsPart (text : List ℕ) (offset len : ℕ) : Type 0 where
  pub some : 0 < len
  pub within : offset + len ≤ length text
  pub cut : IsUtf8 text → IsCharBoundary text (offset + len)

-- bytes of which the last is ASCII
by_last : (text : List ℕ) (offset len : ℕ) → 0 < len → offset + len ≤ length text → get_or text (offset + len - 1) 0 < 128
    → IsPart text offset len
by_last text offset len some within last = record {
  some = some;
  within = within;
  cut = λ utf8. cut_after_ascii text (offset + len) utf8 within (omega (arith, some)) last;
}

by_parts : (text : List ℕ) (offset len last : ℕ) (front after : List ℕ) → drop offset text ≡ front ++ last ∷ after
    → len ≡ length front + 1 → last < 128 → IsPart text offset len
by_parts text offset len last front after parts counted ascii =
    let whole = ap length parts ∙ length-append front (last ∷ after) in
    let following = length-drop offset text in
    let sum : length (last ∷ after) ≡ length after + 1 = omega arith in
    let index : offset + len - 1 ≡ offset + (length front + 0) = omega (arith, counted) in
    let at : get_or text (offset + len - 1) 0 ≡ last =
    ap (λ k. get_or text k 0) index ∙ sym (get_or-drop offset text (length front + 0) 0)
    ∙ ap (λ t. get_or t (length front + 0) 0) parts ∙ sym (get_or-drop (length front) (front ++ last ∷ after) 0 0)
    ∙ ap (λ t. get_or t 0 0) (drop-append_seam front (last ∷ after)) in
    by_last text offset len (omega (arith, counted)) (omega (arith, whole, following, sum, counted)) (omega (arith, at, ascii))

by_whole : (text : List ℕ) (offset len last : ℕ) (whole front rest : List ℕ) → drop offset text ≡ whole ++ rest
    → whole ≡ front ++ last ∷ [] → len ≡ length whole → last < 128 → IsPart text offset len
by_whole text offset len last whole front rest parts ends counted ascii =
    by_parts text offset len last front rest
    (parts ∙ ap (λ t. t ++ rest) ends ∙ append_assoc front (last ∷ []) rest)
    (omega (arith, counted, ap length ends ∙ length-append front (last ∷ []))) ascii

punctuation_ascii : (b : ℕ) → is_punctuation b ≡ true → b < 128
punctuation_ascii b is = grind (arith, nat_tests, is)

reference_part : (known : Lookup) (text : List ℕ) (offset len : ℕ) (source rest meaning : List ℕ) → drop offset text ≡ source ++ rest
    → len ≡ length source → IsReference known source meaning → IsPart text offset len
reference_part known text offset len source rest meaning parts counted (inl is) =
    by_whole text offset len 59 source (is.opener ∷ 35 ∷ is.digits) rest parts is.spelled counted (omega arith)
reference_part known text offset len source rest meaning parts counted (inr (inl is)) =
    by_whole text offset len 59 source (is.opener ∷ 35 ∷ is.mark ∷ is.digits) rest parts is.spelled counted (omega arith)
reference_part known text offset len source rest meaning parts counted (inr (inr is)) =
    by_whole text offset len 59 source (is.opener ∷ is.name) rest parts is.spelled counted (omega arith)

-- ---- code
code_part : (text : List ℕ) (offset backticks len : ℕ) → IsCodePiece (drop offset text) backticks len → IsPart text offset len
code_part text offset backticks len is =
    let span = is.span in
    let last = is.is_span.closes.backticks (span.content.start - 1) (omega (arith, is.is_span.closes.some)) in
    let index : offset + (span.content.end + (span.content.start - 1)) ≡ offset + len - 1 =
    omega (arith, is.counted, is.is_span.counted, is.is_span.closes.some) in
    let at : get_or text (offset + len - 1) 0 ≡ 96 =
    ap (λ k. get_or text k 0) (sym index)
    ∙ sym (get_or-drop offset text (span.content.end + (span.content.start - 1)) 0) ∙ last in
    let some : 0 < len = omega (arith, is.counted, is.is_span.counted, is.is_span.closes.some) in
    elim (cases_lt (offset + len - 1) (length text)) [
      | inl inside ↦ by_last text offset len some (omega (arith, inside, some)) (omega (arith, at))
      | inr past ↦ absurd (omega (arith, at, get_or-eq_default text 0 past))
    ]

-- ---- comments and their like
closed_last : (text : List ℕ) (kind : Kind) (p end : ℕ) (hit : Option ℕ) → FindsNeedle text (closer kind) (p + lead kind) hit
    → option_map (λ h. h + length (closer kind)) hit ≡ Some end → get_or text (end - 1) 0 ≡ 62
closed_last text kind p end None finds is = cc
closed_last text Comment p end (Some hit) finds is =
    let ends : hit + 3 ≡ end = cc in
    let at : end - 1 ≡ hit + 2 = omega (arith, ends) in
    ap (λ k. get_or text k 0) at ∙ finds.1.reads 2 (omega arith)
closed_last text Cdata p end (Some hit) finds is =
    let ends : hit + 3 ≡ end = cc in
    let at : end - 1 ≡ hit + 2 = omega (arith, ends) in
    ap (λ k. get_or text k 0) at ∙ finds.1.reads 2 (omega arith)
closed_last text Declaration p end (Some hit) finds is =
    let ends : hit + 1 ≡ end = cc in
    let at : end - 1 ≡ hit + 0 = omega (arith, ends) in
    ap (λ k. get_or text k 0) at ∙ finds.1.reads 0 (omega arith)
closed_last text Processing p end (Some hit) finds is =
    let ends : hit + 2 ≡ end = cc in
    let at : end - 1 ≡ hit + 1 = omega (arith, ends) in
    ap (λ k. get_or text k 0) at ∙ finds.1.reads 1 (omega arith)

opening_last : (text : List ℕ) (opening : Opening) (p end : ℕ) → end_of text opening p ≡ Some end
    → get_or text (end - 1) 0 ≡ 62
opening_last text (Begins kind) p end found =
    closed_last text kind p end (first_closer text kind p) (first_offset-FindsNeedle text (closer kind) (p + lead kind)) found
opening_last text Hyphen p end found = cc
opening_last text Bracket p end found = cc
opening_last text Nothing p end found = cc

find_part : (text : List ℕ) (offset len : ℕ) → find_at text (offset + 2) ≡ Some (offset + len) → IsPart text offset len
find_part text offset len found =
    let bounds = subst (λ f. IfSome f (λ end. (offset + 2 ≤ end) × (end ≤ length text))) found
    (end_of-bounds text (opening_at text (offset + 2)) (offset + 2)) in
    let last = opening_last text (opening_at text (offset + 2)) (offset + 2) (offset + len) found in
    by_last text offset len (omega (arith, bounds.0)) bounds.1 (omega (arith, last))

html_part : (text : List ℕ) (offset len : ℕ) → IsHtmlPiece text offset len → IsPart text offset len
html_part text offset len (inl is) =
    let ends = tag_ends is.tag is.is_tag in
    by_whole text offset len 62 is.tag ends.init is.after is.parts ends.is is.counted (omega arith)
html_part text offset len (inr found) = find_part text offset len found

-- ---- line breaks
some_ending : (lf cr next : Bool) (n : ℕ) → cond lf (Some 1) (cond cr (cond next (Some 2) (Some 1)) None) ≡ Some n → 0 < n
some_ending true cr next n is = let one : 1 ≡ n = cc in omega (arith, one)
some_ending false true true n is = let two : 2 ≡ n = cc in omega (arith, two)
some_ending false true false n is = let one : 1 ≡ n = cc in omega (arith, one)
some_ending false false next n is = cc

some_break : (text before after : List ℕ) (ending len : ℕ) → text ≡ before ++ after → line_ending after ≡ Some ending
    → length before + ending ≤ len → len < length text → 0 < len
some_break text before [] ending len parts ends counted goes_on =
    omega (arith, counted, goes_on, ap length parts ∙ length-append before [])
some_break text before (c ∷ after) ending len parts ends counted goes_on =
    omega (arith, counted, some_ending (c == 10) (c == 13) (begins_with (λ b. b == 10) after) ending ends)

front_ascii : (asked : Extensions) (text : List ℕ) (from offset : ℕ) (kind : PieceKind) (len : ℕ) → BeginsAt asked text from offset kind len
    → get_or text offset 0 < 128
front_ascii asked text from offset kind len begins = elim (cases_lt (get_or text offset 0) 128) [
  | inl low ↦ low
  | inr high ↦ absurd (no_kind kind (sym (none (get_or text offset 0) high) ∙ begins_class asked text from offset kind len begins))
]
  where
    none : (b : ℕ) → 128 ≤ b → byte_class b ≡ 0
    none b high =
        let other = λ (c : ℕ) (low : c < 128). ne_eqb b c (λ is. absurd (omega (arith, is, low, high))) in
        rw (other 92 (omega arith), other 32 (omega arith), other 10 (omega arith), other 13 (omega arith))
        (rw (other 38 (omega arith), other 96 (omega arith), other 60 (omega arith), other 42 (omega arith))
        (rw (other 95 (omega arith), other 33 (omega arith), other 91 (omega arith), other 93 (omega arith), other 126 (omega arith)) refl))

-- a piece begins where a text may be cut
pub starts_cut : (asked : Extensions) (text : List ℕ) (from offset : ℕ) (kind : PieceKind) (len : ℕ) → BeginsAt asked text from offset kind len
    → offset ≤ length text → IsCharBoundary text offset
starts_cut asked text from offset kind len begins within =
    let low = front_ascii asked text from offset kind len begins in
    (within, λ inside high. absurd (omega (arith, low, high)))

break_part : (asked : Extensions) (text : List ℕ) (from offset : ℕ) (kind : PieceKind) (break : LineBreak) → BeginsAt asked text from offset kind break.len
    → offset ≤ length text → IsLineBreak (drop offset text) break → IsPart text offset break.len
break_part asked text from offset kind break begins inside is =
    let rest = drop offset text in
    let only = before_only rest is.before is.after is.ending break.is_hard is.parts is.is_before is.ends in
    let n = length is.before in
    let after : is.after ≡ drop n rest = only.1 ∙ ap (λ k. drop k rest) (sym only.0) in
    let spaces = prefix_len (λ b. b == 32) (drop is.ending is.after) in
    let length_is = length-drop offset text in
    let whole : n + length is.after ≡ length rest = sym (ap length is.parts ∙ length-append is.before is.after) in
    let within : n + is.ending + spaces ≤ length rest = omega (arith, is.counted, is.goes_on) in
    let spaced : spaces ≡ prefix_len (λ b. b == 32) (take (length rest - (n + is.ending)) (drop (n + is.ending) rest)) =
    ap (prefix_len (λ b. b == 32)) (ap (drop is.ending) after ∙ drop-drop is.ending n rest ∙ sym (from_offset rest (n + is.ending))) in
    let ends : Some is.ending ≡ line_ending (take (length rest - n) (drop n rest)) =
    sym is.ends ∙ ap line_ending (after ∙ sym (from_offset rest n)) in
    record {
      some = some_break rest is.before is.after is.ending break.len is.parts is.ends (omega (arith, is.counted)) is.goes_on;
      within = omega (arith, is.goes_on, length_is);
      cut = λ utf8. offset_of_rest rest text offset break.len refl utf8 (λ _. starts_cut asked text from offset kind break.len begins inside)
          (λ rest_utf8. subst (IsCharBoundary rest) (sym is.counted)
          (cut_after_break rest n is.ending spaces only.0 (omega (arith, whole)) ends (omega (arith, within)) spaced within rest_utf8));
    }

-- ---- all kinds
occurs_part : (text bytes : List ℕ) (offset : ℕ) → occurs_at text bytes offset ≡ true → 0 < length bytes
    → get_or bytes (length bytes - 1) 0 < 128 → IsPart text offset (length bytes)
occurs_part text bytes offset occurs some ascii =
    let is = OccursAt-true text bytes offset occurs in
    let index : offset + length bytes - 1 ≡ offset + (length bytes - 1) = omega (arith, some) in
    let at = ap (λ k. get_or text k 0) index ∙ is.reads (length bytes - 1) (omega (arith, some)) in
    by_last text offset (length bytes) some is.fits (omega (arith, at, ascii))

run_part : (text : List ℕ) (offset len : ℕ) (run : DelimiterRun) → run.byte < 128 → 0 < run.count
    → run.count ≡ prefix_len (λ b. b == run.byte) (drop offset text) → len ≡ run.count → IsPart text offset len
run_part text offset len run ascii some longest counted =
    let inside = prefix_len-le-length (λ b. b == run.byte) (drop offset text) in
    let length_is = length-drop offset text in
    let within : offset + run.count ≤ length text = omega (arith, inside, longest, some, length_is) in
    record {
      some = omega (arith, some, counted);
      within = omega (arith, within, counted);
      cut = λ utf8. subst (λ n. IsCharBoundary text (offset + n)) (sym counted)
          (run_ends text offset run.count run.byte longest some ascii within utf8);
    }

run_of_part : (asked : Extensions) (text : List ℕ) (offset len : ℕ) (run : DelimiterRun) → IsRunOf asked text offset run → len ≡ run.count
    → IsPart text offset len
run_of_part asked text offset len run (inl is) counted =
    let ascii : run.byte < 128 = elim is.delimiter [ inl b ↦ omega (arith, b) | inr b ↦ omega (arith, b) ] in
    run_part text offset len run ascii is.some is.longest counted
run_of_part asked text offset len run (inr is) counted =
    run_part text offset len run (omega (arith, is.1.delimiter)) is.1.some is.1.longest counted

-- an opener from an offset on, whose left bracket stands at another, and which is so long without wikilinks
opener_part : (asked : Extensions) (text : List ℕ) (offset bracket len single : ℕ) → IsOpenerEnd asked text bracket (offset + len)
    → offset + single ≡ bracket + 1 → IsPart text offset single → IsPart text offset len
opener_part asked text offset bracket len single (inl is) ends part =
    let head = head_ends text bracket is.1 (offset + len) is.2 in
    record { some = omega (arith, head.later, ends, part.some); within = head.within; cut = head.cut }
opener_part asked text offset bracket len single (inr is) ends part =
    subst (IsPart text offset) (omega (arith, is.1, ends)) part

pub piece_part : (asked : Extensions) (text : List ℕ) (from offset : ℕ) (kind : PieceKind) (len : ℕ) → offset ≤ length text
    → BeginsAt asked text from offset kind len → IsPart text offset len
piece_part asked text from offset Text len inside begins = absurd begins
piece_part asked text from offset Escape len inside begins =
    by_parts text offset len begins.escaped (92 ∷ []) begins.after begins.parts begins.counted
    (punctuation_ascii begins.escaped begins.punctuation)
piece_part asked text from offset HardBreak len inside begins = break_part asked text from offset HardBreak _ begins inside begins
piece_part asked text from offset SoftBreak len inside begins = break_part asked text from offset SoftBreak _ begins inside begins
piece_part asked text from offset Reference len inside begins =
    let is = begins.is_reference in
    reference_part _ text offset len is.source is.rest begins.meaning is.splits is.n_is_length is.is_reference
piece_part asked text from offset (Code backticks) len inside begins = code_part text offset backticks len begins.1
piece_part asked text from offset Uri len inside begins =
    by_parts text offset len 62 (60 ∷ begins.uri) begins.is_uri.rest
    (begins.opens ∙ ap (λ t. 60 ∷ t) begins.is_uri.parts) (omega (arith, begins.counted)) (omega arith)
piece_part asked text from offset Email len inside begins =
    let is = begins.1 in
    by_parts text offset len 62 (60 ∷ is.address) is.is_address.rest
    (is.opens ∙ ap (λ t. 60 ∷ t) is.is_address.parts) (omega (arith, is.counted)) (omega arith)
piece_part asked text from offset Html len inside begins = html_part text offset len begins.2
piece_part asked text from offset (Delimiters run) len inside begins = run_of_part asked text offset len run begins.0 begins.1
piece_part asked text from offset LinkOpener len inside begins =
    opener_part asked text offset offset len 1 begins.1 refl (occurs_part text (codes "[") offset begins.0 (omega arith) (omega arith))
piece_part asked text from offset ImageOpener len inside begins =
    opener_part asked text offset (offset + 1) len 2 begins.1 (omega arith)
    (occurs_part text (codes "![") offset begins.0 (omega arith) (omega arith))
piece_part asked text from offset Closer len inside begins =
    subst (IsPart text offset) (sym begins.1) (occurs_part text (codes "]") offset begins.0 (omega arith) (omega arith))
