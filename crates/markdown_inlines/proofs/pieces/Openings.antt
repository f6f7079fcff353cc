-- The byte that a piece begins with says of which kinds it can be.
use Rattle.std.proofs.Common.{◌≡◌, ℕ, ◌+◌, ◌-◌, ◌<◌, ◌==◌, ◌||◌, ◌⊎◌, Bool, true, false, not, cond, List, [], ◌∷◌, ◌++◌, length, drop}
use Rattle.std.proofs.Common.{get_or}
use Rattle.std.proofs.Common.{refl, sym, ap, ◌∙◌, arith, inl, inr, replicate, Some, None, add-zero}
use Rattle.std.specs.Prelude.{codes, nat_le}
use Rattle.std.proofs.lemmas.Bool.{cases_Bool, and_parts, eqb-true, ne_eqb}
use Rattle.std.proofs.lemmas.Bool.Decides.{nat_tests}
use Rattle.std.proofs.lemmas.List.{get_or-drop}
use Rattle.memchr.specs.Find.{occurs_at}
use Rattle.memchr.proofs.lemmas.MatchLemmas.{OccursAt-true}
use Rattle.markdown_scanners_tree.specs.Ascii.{ampersand, asterisk, backslash, backtick, exclamation_mark, left_bracket, less_than_sign}
use Rattle.markdown_scanners_tree.specs.Ascii.{question_mark, right_bracket, space, tilde, underscore}
use Rattle.markdown_scanners_tree.specs.Bytes.{line_ending}
use Rattle.markdown_scanners_tree.specs.inline_html.InlineHtml.{Nothing, end_of, ends_opener, find_at, opener_before, opening_at}
use Rattle.markdown_scanners_tree.specs.scanners.html_tag.HtmlTag.{IsTag}
use Rattle.markdown_scanners_tree.proofs.ForCallers.{first-line_ending}
use Rattle.markdown_inlines.specs.LineBreaks.{IsLineBreak}
use Rattle.markdown_inlines.specs.PieceBytes.{is_plain, opens_break, opens_bracket, opens_long}
use Rattle.markdown_inlines.specs.Pieces.{BeginsAt, IsEscape, IsHtmlPiece, IsTagPiece}
use Rattle.markdown_values.specs.declared.values.extensions.Extensions.{Extensions}
use Rattle.markdown_inlines.specs.declared.line_breaks.LineBreak.{LineBreak}
use Rattle.markdown_inlines.specs.declared.pieces.PieceKind.{PieceKind}
use Rattle.markdown_inlines.specs.declared.pieces.PieceKind.TheVariants.{Text, Escape, HardBreak, SoftBreak, Reference, Code, Uri, Email, Html}
use Rattle.markdown_inlines.specs.declared.pieces.PieceKind.TheVariants.{Delimiters, LinkOpener, ImageOpener, Closer}
use Rattle.markdown_inlines.proofs.delimiter_runs.DelimiterRunLemmas.{byte_at, tilde_at}

-- Kinds that begin with the same bytes have one number, and so have those bytes.
abbrev pub kind_class : PieceKind → ℕ
kind_class Text = 7
kind_class Escape = 1
kind_class HardBreak = 1
kind_class SoftBreak = 1
kind_class Reference = 2
kind_class (Code backticks) = 3
kind_class Uri = 4
kind_class Email = 4
kind_class Html = 4
kind_class (Delimiters run) = 5
kind_class LinkOpener = 6
kind_class ImageOpener = 6
kind_class Closer = 6

abbrev pub byte_class : ℕ → ℕ
byte_class b =
    cond (opens_break b) 1 (cond (b == ampersand) 2 (cond (b == backtick) 3
    (cond (b == less_than_sign) 4 (cond (b == asterisk || b == underscore || b == tilde) 5 (cond (opens_bracket b) 6 0)))))

pub only_break : (P : PieceKind → Type 0) (kind : PieceKind) → 1 ≡ kind_class kind
    → P Escape → P HardBreak → P SoftBreak → P kind
only_break P Text e escape hardbreak softbreak = absurd (omega (arith, e))
only_break P Escape e escape hardbreak softbreak = escape
only_break P HardBreak e escape hardbreak softbreak = hardbreak
only_break P SoftBreak e escape hardbreak softbreak = softbreak
only_break P Reference e escape hardbreak softbreak = absurd (omega (arith, e))
only_break P (Code backticks) e escape hardbreak softbreak = absurd (omega (arith, e))
only_break P Uri e escape hardbreak softbreak = absurd (omega (arith, e))
only_break P Email e escape hardbreak softbreak = absurd (omega (arith, e))
only_break P Html e escape hardbreak softbreak = absurd (omega (arith, e))
only_break P (Delimiters run) e escape hardbreak softbreak = absurd (omega (arith, e))
only_break P LinkOpener e escape hardbreak softbreak = absurd (omega (arith, e))
only_break P ImageOpener e escape hardbreak softbreak = absurd (omega (arith, e))
only_break P Closer e escape hardbreak softbreak = absurd (omega (arith, e))

pub only_reference : (P : PieceKind → Type 0) (kind : PieceKind) → 2 ≡ kind_class kind
    → P Reference → P kind
only_reference P Text e reference = absurd (omega (arith, e))
only_reference P Escape e reference = absurd (omega (arith, e))
only_reference P HardBreak e reference = absurd (omega (arith, e))
only_reference P SoftBreak e reference = absurd (omega (arith, e))
only_reference P Reference e reference = reference
only_reference P (Code backticks) e reference = absurd (omega (arith, e))
only_reference P Uri e reference = absurd (omega (arith, e))
only_reference P Email e reference = absurd (omega (arith, e))
only_reference P Html e reference = absurd (omega (arith, e))
only_reference P (Delimiters run) e reference = absurd (omega (arith, e))
only_reference P LinkOpener e reference = absurd (omega (arith, e))
only_reference P ImageOpener e reference = absurd (omega (arith, e))
only_reference P Closer e reference = absurd (omega (arith, e))

pub only_code : (P : PieceKind → Type 0) (kind : PieceKind) → 3 ≡ kind_class kind
    → ((backticks : ℕ) → P (Code backticks)) → P kind
only_code P Text e code = absurd (omega (arith, e))
only_code P Escape e code = absurd (omega (arith, e))
only_code P HardBreak e code = absurd (omega (arith, e))
only_code P SoftBreak e code = absurd (omega (arith, e))
only_code P Reference e code = absurd (omega (arith, e))
only_code P (Code backticks) e code = code backticks
only_code P Uri e code = absurd (omega (arith, e))
only_code P Email e code = absurd (omega (arith, e))
only_code P Html e code = absurd (omega (arith, e))
only_code P (Delimiters run) e code = absurd (omega (arith, e))
only_code P LinkOpener e code = absurd (omega (arith, e))
only_code P ImageOpener e code = absurd (omega (arith, e))
only_code P Closer e code = absurd (omega (arith, e))

pub only_angle : (P : PieceKind → Type 0) (kind : PieceKind) → 4 ≡ kind_class kind
    → P Uri → P Email → P Html → P kind
only_angle P Text e uri email html = absurd (omega (arith, e))
only_angle P Escape e uri email html = absurd (omega (arith, e))
only_angle P HardBreak e uri email html = absurd (omega (arith, e))
only_angle P SoftBreak e uri email html = absurd (omega (arith, e))
only_angle P Reference e uri email html = absurd (omega (arith, e))
only_angle P (Code backticks) e uri email html = absurd (omega (arith, e))
only_angle P Uri e uri email html = uri
only_angle P Email e uri email html = email
only_angle P Html e uri email html = html
only_angle P (Delimiters run) e uri email html = absurd (omega (arith, e))
only_angle P LinkOpener e uri email html = absurd (omega (arith, e))
only_angle P ImageOpener e uri email html = absurd (omega (arith, e))
only_angle P Closer e uri email html = absurd (omega (arith, e))

pub only_delimiters : (P : PieceKind → Type 0) (kind : PieceKind) → 5 ≡ kind_class kind
    → ((run : _) → P (Delimiters run)) → P kind
only_delimiters P Text e delimiters = absurd (omega (arith, e))
only_delimiters P Escape e delimiters = absurd (omega (arith, e))
only_delimiters P HardBreak e delimiters = absurd (omega (arith, e))
only_delimiters P SoftBreak e delimiters = absurd (omega (arith, e))
only_delimiters P Reference e delimiters = absurd (omega (arith, e))
only_delimiters P (Code backticks) e delimiters = absurd (omega (arith, e))
only_delimiters P Uri e delimiters = absurd (omega (arith, e))
only_delimiters P Email e delimiters = absurd (omega (arith, e))
only_delimiters P Html e delimiters = absurd (omega (arith, e))
only_delimiters P (Delimiters run) e delimiters = delimiters run
only_delimiters P LinkOpener e delimiters = absurd (omega (arith, e))
only_delimiters P ImageOpener e delimiters = absurd (omega (arith, e))
only_delimiters P Closer e delimiters = absurd (omega (arith, e))

pub only_bracket : (P : PieceKind → Type 0) (kind : PieceKind) → 6 ≡ kind_class kind
    → P LinkOpener → P ImageOpener → P Closer → P kind
only_bracket P Text e linkopener imageopener closer = absurd (omega (arith, e))
only_bracket P Escape e linkopener imageopener closer = absurd (omega (arith, e))
only_bracket P HardBreak e linkopener imageopener closer = absurd (omega (arith, e))
only_bracket P SoftBreak e linkopener imageopener closer = absurd (omega (arith, e))
only_bracket P Reference e linkopener imageopener closer = absurd (omega (arith, e))
only_bracket P (Code backticks) e linkopener imageopener closer = absurd (omega (arith, e))
only_bracket P Uri e linkopener imageopener closer = absurd (omega (arith, e))
only_bracket P Email e linkopener imageopener closer = absurd (omega (arith, e))
only_bracket P Html e linkopener imageopener closer = absurd (omega (arith, e))
only_bracket P (Delimiters run) e linkopener imageopener closer = absurd (omega (arith, e))
only_bracket P LinkOpener e linkopener imageopener closer = linkopener
only_bracket P ImageOpener e linkopener imageopener closer = imageopener
only_bracket P Closer e linkopener imageopener closer = closer

pub no_kind : (kind : PieceKind) → 0 ≡ kind_class kind → ⊥
no_kind Text e = omega (arith, e)
no_kind Escape e = omega (arith, e)
no_kind HardBreak e = omega (arith, e)
no_kind SoftBreak e = omega (arith, e)
no_kind Reference e = omega (arith, e)
no_kind (Code backticks) e = omega (arith, e)
no_kind Uri e = omega (arith, e)
no_kind Email e = omega (arith, e)
no_kind Html e = omega (arith, e)
no_kind (Delimiters run) e = omega (arith, e)
no_kind LinkOpener e = omega (arith, e)
no_kind ImageOpener e = omega (arith, e)
no_kind Closer e = omega (arith, e)

-- ---- the first byte of each kind

front : (text : List ℕ) (offset b : ℕ) (rest : List ℕ) → drop offset text ≡ b ∷ rest → get_or text offset 0 ≡ b
front text offset b rest is =
    ap (λ k. get_or text k 0) (sym (add-zero offset)) ∙ sym (get_or-drop offset text 0 0) ∙ ap (λ t. get_or t 0 0) is

pub not_false_true : (b : Bool) → not b ≡ false → b ≡ true
not_false_true true e = refl
not_false_true false e = cc

-- what stands before a line ending, or the line ending
spaced_byte : (before after rest : List ℕ) (ending len : ℕ) → rest ≡ before ++ after → before ≡ replicate (length before) space
    → line_ending after ≡ Some ending → len < length rest → opens_break (get_or rest 0 0) ≡ true
spaced_byte [] [] rest ending len parts spaced ends goes_on = absurd (omega (arith, goes_on, ap length parts))
spaced_byte [] (c ∷ after) rest ending len parts spaced ends goes_on =
    ap (λ t. opens_break (get_or t 0 0)) parts
    ∙ not_false_true (opens_break c) (first-line_ending (λ b. not (opens_break b)) refl refl (c ∷ after) ending ends)
spaced_byte (b ∷ before) after rest ending len parts spaced ends goes_on =
    let head : b ≡ space = cc in
    ap (λ t. opens_break (get_or t 0 0)) parts ∙ ap opens_break head

break_byte : (rest : List ℕ) (break : LineBreak) → IsLineBreak rest break → opens_break (get_or rest 0 0) ≡ true
break_byte rest break is = elim is.is_before [
  | inl escaped ↦ ap (λ t. opens_break (get_or t 0 0)) (is.parts ∙ ap (λ b. b ++ is.after) escaped.0)
  | inr spaced ↦ spaced_byte is.before is.after rest is.ending break.len is.parts spaced.0 is.ends is.goes_on
]

break_class : (text : List ℕ) (offset : ℕ) (break : LineBreak) → IsLineBreak (drop offset text) break
    → byte_class (get_or text offset 0) ≡ 1
break_class text offset break is =
    let at : get_or text offset 0 ≡ get_or (drop offset text) 0 0 =
    ap (λ k. get_or text k 0) (sym (add-zero offset)) ∙ sym (get_or-drop offset text 0 0) in
    let opens : opens_break (get_or text offset 0) ≡ true = ap opens_break at ∙ break_byte (drop offset text) break is in
    rw opens refl

tag_byte : (rest tag after : List ℕ) → rest ≡ tag ++ after → IsTag tag → get_or rest 0 0 ≡ less_than_sign
tag_byte rest tag after parts (inl is) = ap (λ t. get_or t 0 0) (parts ∙ ap (λ t. t ++ after) is.parts)
tag_byte rest tag after parts (inr is) = ap (λ t. get_or t 0 0) (parts ∙ ap (λ t. t ++ after) is.parts)

-- an opener stands before a find
opener_found : (text : List ℕ) (p end : ℕ) (bang question : Bool) → ends_opener 33 text p ≡ bang
    → ends_opener 63 text p ≡ question → find_at text p ≡ Some end → (bang || question) ≡ true
unfolding opening_at
opener_found text p end true question b q found = refl
opener_found text p end false true b q found = refl
opener_found text p end false false b q found =
    absurd (let none : opening_at text p ≡ Nothing = rw (b, q) refl in
    let lost : None ≡ Some end = sym (ap (λ o. end_of text o p) none) ∙ found in
    cc)

-- without an opener nothing is found
no_mark : (text : List ℕ) (p : ℕ) (bang question : Bool) → ends_opener 33 text p ≡ bang → ends_opener 63 text p ≡ question
    → cond bang (Some exclamation_mark) (cond question (Some question_mark) None) ≡ None → find_at text p ≡ None
unfolding opening_at
no_mark text p true question b q none = cc
no_mark text p false true b q none = cc
no_mark text p false false b q none =
    let nothing : opening_at text p ≡ Nothing = rw (b, q) refl in ap (λ o. end_of text o p) nothing

pub no_opener : (text : List ℕ) (p : ℕ) → opener_before text p ≡ None → find_at text p ≡ None
no_opener text p none = no_mark text p _ _ refl refl none

pub mark_front : (mark : ℕ) (text : List ℕ) (offset : ℕ) → ends_opener mark text (offset + 2) ≡ true
    → get_or text offset 0 ≡ less_than_sign
mark_front mark text offset ends =
    let same : offset ≡ offset + 2 - 2 + 0 = omega arith in
    let occurs = OccursAt-true text (less_than_sign ∷ mark ∷ []) (offset + 2 - 2) (and_parts (nat_le 2 (offset + 2)) _ ends).1 in
    ap (λ k. get_or text k 0) same ∙ occurs.reads 0 (omega arith)

pub find_front : (text : List ℕ) (offset end : ℕ) → find_at text (offset + 2) ≡ Some end → get_or text offset 0 ≡ less_than_sign
find_front text offset end found = elim (cases_Bool (ends_opener 33 text (offset + 2))) [
  | inl bang ↦ mark_front 33 text offset bang
  | inr none ↦ mark_front 63 text offset
      (opener_found text (offset + 2) end false (ends_opener 63 text (offset + 2)) none refl found)
]

pub mark_second : (mark : ℕ) (text : List ℕ) (offset : ℕ) → ends_opener mark text (offset + 2) ≡ true → get_or text (offset + 1) 0 ≡ mark
mark_second mark text offset ends =
    let same : offset + 1 ≡ offset + 2 - 2 + 1 = omega arith in
    let occurs = OccursAt-true text (less_than_sign ∷ mark ∷ []) (offset + 2 - 2) (and_parts (nat_le 2 (offset + 2)) _ ends).1 in
    ap (λ k. get_or text k 0) same ∙ occurs.reads 1 (omega arith)

-- the byte after the `<` of a find
pub opener_of_find : (text : List ℕ) (offset end : ℕ) → find_at text (offset + 2) ≡ Some end
    → (get_or text (offset + 1) 0 ≡ 33) ⊎ (get_or text (offset + 1) 0 ≡ 63)
opener_of_find text offset end found = elim (cases_Bool (ends_opener 33 text (offset + 2))) [
  | inl bang ↦ inl (mark_second 33 text offset bang)
  | inr none ↦ inr (mark_second 63 text offset
      (opener_found text (offset + 2) end false (ends_opener 63 text (offset + 2)) none refl found))
]

-- neither a tag nor a find
pub no_html : (text : List ℕ) (offset : ℕ) → ((n : ℕ) → ¬ IsTagPiece (drop offset text) n) → find_at text (offset + 2) ≡ None
    → (n : ℕ) → ¬ IsHtmlPiece text offset n
no_html text offset no_tag none n (inl is) = no_tag n is
no_html text offset no_tag none n (inr found) = let lost : None ≡ Some (offset + n) = sym none ∙ found in cc

pub html_front : (text : List ℕ) (offset len : ℕ) → IsHtmlPiece text offset len → get_or text offset 0 ≡ less_than_sign
html_front text offset len (inl is) =
    ap (λ k. get_or text k 0) (sym (add-zero offset)) ∙ sym (get_or-drop offset text 0 0)
    ∙ tag_byte (drop offset text) is.tag is.after is.parts is.is_tag
html_front text offset len (inr found) = find_front text offset (offset + len) found

occurs_front : (text bytes : List ℕ) (offset : ℕ) → occurs_at text bytes offset ≡ true → 0 < length bytes
    → get_or text offset 0 ≡ get_or bytes 0 0
occurs_front text bytes offset occurs some =
    ap (λ k. get_or text k 0) (sym (add-zero offset)) ∙ (OccursAt-true text bytes offset occurs).reads 0 some

pub run_class : (byte : ℕ) → (byte ≡ asterisk) ⊎ (byte ≡ underscore) → byte_class byte ≡ 5
run_class byte (inl is) = ap byte_class is
run_class byte (inr is) = ap byte_class is

pub begins_class : (asked : Extensions) (text : List ℕ) (from offset : ℕ) (kind : PieceKind) (len : ℕ) → BeginsAt asked text from offset kind len
    → byte_class (get_or text offset 0) ≡ kind_class kind
begins_class asked text from offset Text len begins = absurd begins
begins_class asked text from offset Escape len begins = ap byte_class (front text offset _ _ begins.parts)
begins_class asked text from offset HardBreak len begins = break_class text offset _ begins
begins_class asked text from offset SoftBreak len begins = break_class text offset _ begins
begins_class asked text from offset Reference len begins = ap byte_class (front text offset _ _ begins.opens)
begins_class asked text from offset (Code backticks) len begins =
    ap byte_class (ap (λ k. get_or text k 0) (sym (add-zero offset)) ∙ sym (get_or-drop offset text 0 0)
    ∙ begins.1.is_span.opens.backticks 0 begins.1.is_span.opens.some)
begins_class asked text from offset Uri len begins = ap byte_class (front text offset _ _ begins.opens)
begins_class asked text from offset Email len begins = ap byte_class (front text offset _ _ begins.1.opens)
begins_class asked text from offset Html len begins = ap byte_class (html_front text offset len begins.2)
begins_class asked text from offset (Delimiters run) len begins =
    elim begins.0 [
      | inl is ↦ ap byte_class (sym (byte_at text offset run is)) ∙ run_class run.byte is.delimiter
      | inr is ↦ ap byte_class (sym (tilde_at text offset run is.1) ∙ is.1.delimiter)
    ]
begins_class asked text from offset LinkOpener len begins = ap byte_class (occurs_front text (codes "[") offset begins.0 (omega arith))
begins_class asked text from offset ImageOpener len begins = ap byte_class (occurs_front text (codes "![") offset begins.0 (omega arith))
begins_class asked text from offset Closer len begins = ap byte_class (occurs_front text (codes "]") offset begins.0 (omega arith))

-- the class of a byte that a test accepts
pub break_byte_class : (b : ℕ) → opens_break b ≡ true → byte_class b ≡ 1
break_byte_class b opens = rw opens refl

pub plain_class : (b : ℕ) → is_plain b ≡ true → byte_class b ≡ 0
plain_class b plain = grind (arith, nat_tests)

pub bracket_class : (b : ℕ) → opens_bracket b ≡ true → byte_class b ≡ 6
bracket_class b opens = elim (cases_Bool (b == exclamation_mark)) [
  | inl is ↦ ap byte_class (eqb-true b exclamation_mark is)
  | inr not_bang ↦ elim (cases_Bool (b == left_bracket)) [
    | inl is ↦ ap byte_class (eqb-true b left_bracket is)
    | inr other ↦ ap byte_class (eqb-true b right_bracket (let last : (b == right_bracket) ≡ true = rw (not_bang, other) at opens in last))
  ]
]

-- no piece begins with a plain byte
pub plain_begins_none : (asked : Extensions) (text : List ℕ) (from offset : ℕ) → is_plain (get_or text offset 0) ≡ true → (kind : PieceKind) (len : ℕ)
    → ¬ BeginsAt asked text from offset kind len
plain_begins_none asked text from offset plain kind len begins =
    no_kind kind (sym (plain_class (get_or text offset 0) plain) ∙ begins_class asked text from offset kind len begins)

pub plain_from : (b : ℕ) → opens_break b ≡ false → opens_bracket b ≡ false → opens_long b ≡ false → (b ≡ ampersand → ⊥)
    → is_plain b ≡ true
plain_from b no_break no_bracket short no_reference = by (opens_break b) (opens_bracket b) (opens_long b) no_break no_bracket short
  where
    by : (x y z : Bool) → x ≡ false → y ≡ false → z ≡ false → not (x || y || z || b == ampersand) ≡ true
    by true y z e f g = cc
    by false true z e f g = cc
    by false false true e f g = cc
    by false false false e f g = rw (ne_eqb b ampersand no_reference) refl

-- an escape begins with a backslash
pub escape_front : (text : List ℕ) (offset len : ℕ) → IsEscape (drop offset text) len → get_or text offset 0 ≡ backslash
escape_front text offset len is = front text offset backslash _ is.parts
