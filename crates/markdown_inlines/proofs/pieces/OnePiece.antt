-- One piece is the next one.
use Rattle.std.proofs.Common.{◌≡◌, ℕ, ◌+◌, ◌<◌, ◌≤◌, ◌⊎◌, Bool, true, false, List, [], ◌∷◌, ◌++◌, length, drop, get_or, refl, sym, ap, ◌∙◌, subst}
use Rattle.std.proofs.Common.{arith}
use Rattle.std.proofs.Common.{inl, inr, Some, append_assoc}
use Rattle.std.specs.Prelude.{codes}
use Rattle.std.proofs.lemmas.Bool.{cases_lt}
use Rattle.std.proofs.lemmas.List.{get_or-drop}
use denote.Param.Members.{Shared, fn_of, lent}
use denote.Ref.{Bor}
use Rattle.html_entities.specs.Entities.{html_entity}
use Rattle.memchr.specs.Find.{occurs_at}
use Rattle.memchr.proofs.lemmas.MatchLemmas.{OccursAt-true}
use Rattle.markdown_scanners_tree.specs.Bytes.{begins_with, is_letter, is_punctuation}
use Rattle.markdown_scanners_tree.specs.Handler.{Answers, IsSteady}
use Rattle.markdown_scanners_tree.specs.inline_html.InlineHtml.{find_at}
use Rattle.markdown_scanners_tree.specs.scanners.html_tag.HtmlTag.{IsTag, IsTagName}
use Rattle.markdown_scanners_tree.specs.scanners.html_tag.KeptTag.{offset_after}
use Rattle.markdown_scanners_tree.proofs.ForCallers.{first-line_ending, one_reference, one_tag, one_uri}
use Rattle.markdown_scanners_tree.specs.scanners.links.Autolink.{IsUriAutolink}
use Rattle.markdown_inlines.specs.Emails.{IsEmailAutolink}
use Rattle.markdown_inlines.specs.LineBreaks.{IsLineBreak}
use Rattle.markdown_inlines.specs.Pieces.{BeginsAt, HasOnlyText, IsEscape, IsHtmlPiece, IsNext, IsTagPiece}
use Rattle.markdown_values.specs.declared.values.extensions.Extensions.{Extensions}
use Rattle.markdown_inlines.specs.declared.line_breaks.LineBreak.{LineBreak}
use Rattle.markdown_inlines.specs.declared.pieces.Piece.{Piece}
use Rattle.markdown_inlines.specs.declared.pieces.PieceKind.{PieceKind}
use Rattle.markdown_inlines.specs.declared.pieces.PieceKind.TheVariants.{Text, Escape, HardBreak, SoftBreak, Reference, Code, Uri, Email, Html}
use Rattle.markdown_inlines.specs.declared.pieces.PieceKind.TheVariants.{Delimiters, LinkOpener, ImageOpener, Closer}
use Rattle.markdown_inlines.proofs.code_spans.CodeSpanLemmas.{one_code_span}
use Rattle.markdown_inlines.proofs.delimiter_runs.DelimiterRunLemmas.{one_run_of}
use Rattle.markdown_inlines.proofs.emails.EmailLemmas.{one_email}
use Rattle.markdown_inlines.proofs.line_breaks.LineBreakLemmas.{before_length, before_only, one_line_break}
use Rattle.markdown_inlines.proofs.pieces.NoSkipTags.{kept_of_source}
use Rattle.markdown_inlines.proofs.pieces.Openings.{begins_class, kind_class, opener_of_find}
use Rattle.markdown_inlines.proofs.pieces.Openings.{only_angle, only_bracket, only_break, only_code, only_delimiters, only_reference}
use Rattle.markdown_inlines.proofs.wiki_links.WikiLinkLemmas.{one_opener_end}

-- ---- escapes and line breaks

no_break_there : (rest : List ℕ) (len : ℕ) (break : LineBreak) → IsEscape rest len → IsLineBreak rest break → ⊥
no_break_there rest len break escape is =
    let only = before_only rest is.before is.after is.ending break.is_hard is.parts is.is_before is.ends in
    let after : is.after ≡ escape.escaped ∷ escape.after =
    only.1 ∙ subst (λ t. drop (before_length t) t ≡ escape.escaped ∷ escape.after) (sym escape.parts) refl in
    let none = first-line_ending is_punctuation refl refl is.after is.ending is.ends in
    let lost : false ≡ true = sym none ∙ ap (begins_with is_punctuation) after ∙ escape.punctuation in
    cc

one_break : (rest : List ℕ) (hard hard' : Bool) (len len' : ℕ) → IsLineBreak rest (record { is_hard = hard; len = len })
    → IsLineBreak rest (record { is_hard = hard'; len = len' }) → (hard ≡ hard') × (len ≡ len')
one_break rest hard hard' len len' is is' =
    let same = one_line_break rest (record { is_hard = hard; len = len }) (record { is_hard = hard'; len = len' }) is is' in
    (ap (λ b. b.is_hard) same, ap (λ b. b.len) same)

-- ---- raw HTML

-- a handler that skips nothing
abbrev zero_handler : Shared (Unit {0}) (Bor (List ℕ) × Unit {0}) ℕ
zero_handler = fn_of (λ f a. Unit {0}) (λ f a r. r ≡ 0)

skips_nothing : (rest : List ℕ) → Answers zero_handler tt rest 0
skips_nothing rest = record { shown = record { ref_ptr = (0, 0); now = rest }; shows = refl; says = record { met = refl } }

only_nothing : (rest : List ℕ) (n : ℕ) → Answers zero_handler tt rest n → n ≡ 0
only_nothing rest n answer = answer.says.met

is_steady : IsSteady zero_handler tt
is_steady = record {
  one_answer = λ rest m n a b. only_nothing rest m a ∙ sym (only_nothing rest n b);
  inside = λ rest n a. omega (arith, only_nothing rest n a);
}

one_tag_piece : (rest : List ℕ) (n n' : ℕ) → IsTagPiece rest n → IsTagPiece rest n' → n ≡ n'
one_tag_piece rest n n' is is' =
    let kept = kept_of_source (Answers zero_handler tt) skips_nothing only_nothing rest n is in
    let kept' = kept_of_source (Answers zero_handler tt) skips_nothing only_nothing rest n' is' in
    let same = one_tag zero_handler (Some (lent tt)) rest kept.0 kept'.0 is_steady kept.1 kept'.1 in
    sym kept.2 ∙ ap (offset_after 0) same ∙ kept'.2

-- the second byte of a tag, and of what else begins with `<`
name_first : (name rest : List ℕ) → IsTagName name → is_letter (get_or (name ++ rest) 0 0) ≡ true
name_first [] rest is = absurd is
name_first (b ∷ name) rest is = is.0

tag_second : (text : List ℕ) (offset n : ℕ) → IsTagPiece (drop offset text) n
    → (is_letter (get_or text (offset + 1) 0) ≡ true) ⊎ (get_or text (offset + 1) 0 ≡ 47)
tag_second text offset n is = by is.is_tag
  where
    at : get_or text (offset + 1) 0 ≡ get_or (is.tag ++ is.after) 1 0
    at = sym (get_or-drop offset text 1 0) ∙ ap (λ t. get_or t 1 0) is.parts

    by : IsTag is.tag → (is_letter (get_or text (offset + 1) 0) ≡ true) ⊎ (get_or text (offset + 1) 0 ≡ 47)
    by (inl opens) =
        let whole = ap (λ t. get_or (t ++ is.after) 1 0) opens.parts in
        let name = ap (λ t. get_or t 0 0) (append_assoc opens.name _ is.after) in
        inl (ap is_letter (at ∙ whole ∙ name) ∙ name_first opens.name _ opens.named)
    by (inr closes) = inr (at ∙ ap (λ t. get_or (t ++ is.after) 1 0) closes.parts)

no_tag_there : (text : List ℕ) (offset n end : ℕ) → IsTagPiece (drop offset text) n → find_at text (offset + 2) ≡ Some end → ⊥
no_tag_there text offset n end is found = clash (tag_second text offset n is) (opener_of_find text offset end found)
  where
    clash : (is_letter (get_or text (offset + 1) 0) ≡ true) ⊎ (get_or text (offset + 1) 0 ≡ 47)
        → (get_or text (offset + 1) 0 ≡ 33) ⊎ (get_or text (offset + 1) 0 ≡ 63) → ⊥
    clash (inl letter) (inl mark) = let lost : true ≡ false = sym letter ∙ ap is_letter mark in cc
    clash (inl letter) (inr mark) = let lost : true ≡ false = sym letter ∙ ap is_letter mark in cc
    clash (inr slash) (inl mark) = omega (arith, slash, mark)
    clash (inr slash) (inr mark) = omega (arith, slash, mark)

one_html : (text : List ℕ) (offset n n' : ℕ) → IsHtmlPiece text offset n → IsHtmlPiece text offset n' → n ≡ n'
one_html text offset n n' (inl is) (inl is') = one_tag_piece (drop offset text) n n' is is'
one_html text offset n n' (inl is) (inr found) = absurd (no_tag_there text offset n (offset + n') is found)
one_html text offset n n' (inr found) (inl is) = absurd (no_tag_there text offset n' (offset + n) is found)
one_html text offset n n' (inr found) (inr found') =
    let same : Some (offset + n) ≡ Some (offset + n') = sym found ∙ found' in
    let ends : offset + n ≡ offset + n' = cc in
    omega (arith, ends)

-- ---- all kinds

module _ (asked : Extensions) (text : List ℕ) (from offset len' : ℕ) where
  abbrev Is : PieceKind → ℕ → PieceKind → Type 0
  Is kind len kind' = BeginsAt asked text from offset kind' len' → (kind ≡ kind') × (len ≡ len')

  same_class : (kind kind' : PieceKind) (len : ℕ) → BeginsAt asked text from offset kind len → BeginsAt asked text from offset kind' len'
      → kind_class kind ≡ kind_class kind'
  same_class kind kind' len b b' = sym (begins_class asked text from offset kind len b) ∙ begins_class asked text from offset kind' len' b'

  first_is : (bytes bytes' : List ℕ) → occurs_at text bytes offset ≡ true → occurs_at text bytes' offset ≡ true
      → 0 < length bytes → 0 < length bytes' → get_or bytes 0 0 ≡ get_or bytes' 0 0
  first_is bytes bytes' is is' some some' =
      sym ((OccursAt-true text bytes offset is).reads 0 some) ∙ (OccursAt-true text bytes' offset is').reads 0 some'

  pub one_piece : (kind : PieceKind) (len : ℕ) (kind' : PieceKind) → BeginsAt asked text from offset kind len
      → BeginsAt asked text from offset kind' len' → (kind ≡ kind') × (len ≡ len')
  one_piece Text len kind' b b' = absurd b
  one_piece Escape len kind' b b' =
      only_break (Is Escape len) kind' (same_class Escape kind' len b b')
      (λ is. (refl, omega (arith, b.counted, is.counted)))
      (λ is. absurd (no_break_there _ len _ b is)) (λ is. absurd (no_break_there _ len _ b is)) b'
  one_piece HardBreak len kind' b b' =
      only_break (Is HardBreak len) kind' (same_class HardBreak kind' len b b')
      (λ is. absurd (no_break_there _ len' _ is b))
      (λ is. (refl, (one_break _ true true len len' b is).1))
      (λ is. absurd (let lost : true ≡ false = (one_break _ true false len len' b is).0 in cc)) b'
  one_piece SoftBreak len kind' b b' =
      only_break (Is SoftBreak len) kind' (same_class SoftBreak kind' len b b')
      (λ is. absurd (no_break_there _ len' _ is b))
      (λ is. absurd (let lost : false ≡ true = (one_break _ false true len len' b is).0 in cc))
      (λ is. (refl, (one_break _ false false len len' b is).1)) b'
  one_piece Reference len kind' b b' =
      only_reference (Is Reference len) kind' (same_class Reference kind' len b b')
      (λ is. (
        refl,
        ap (λ r. r.0) (one_reference html_entity (drop offset text) (len, b.meaning) (len', is.meaning) b.is_reference is.is_reference),
      )) b'
  one_piece (Code backticks) len kind' b b' =
      only_code (Is (Code backticks) len) kind' (same_class (Code backticks) kind' len b b')
      (λ backticks' is.
      let same = one_code_span (drop offset text) b.1.span is.1.span b.1.is_span is.1.is_span in (
        ap (λ n. Code n) (b.1.strings ∙ ap (λ s. s.content.start) same ∙ sym is.1.strings),
        b.1.counted ∙ ap (λ s. s.len) same ∙ sym is.1.counted,
      )) b'
  one_piece Uri len kind' b b' =
      only_angle (Is Uri len) kind' (same_class Uri kind' len b b')
      (λ is.
      let after : is.after ≡ b.after = ap (drop 1) (sym is.opens ∙ b.opens) in
      let same = one_uri b.after b.uri is.uri b.is_uri (subst (λ t. IsUriAutolink t is.uri) after is.is_uri) in
      (refl, omega (arith, b.counted, is.counted, ap length same)))
      (λ is. absurd (is.0 len b)) (λ is. absurd (is.0 len b)) b'
  one_piece Email len kind' b b' =
      only_angle (Is Email len) kind' (same_class Email kind' len b b')
      (λ is. absurd (b.0 len' is))
      (λ is.
      let after : is.1.after ≡ b.1.after = ap (drop 1) (sym is.1.opens ∙ b.1.opens) in
      let same = one_email b.1.after b.1.address is.1.address b.1.is_address (subst (λ t. IsEmailAutolink t is.1.address) after is.1.is_address) in
      (refl, omega (arith, b.1.counted, is.1.counted, ap length same)))
      (λ is. absurd (is.1 len b.1)) b'
  one_piece Html len kind' b b' =
      only_angle (Is Html len) kind' (same_class Html kind' len b b')
      (λ is. absurd (b.0 len' is)) (λ is. absurd (b.1 len' is.1)) (λ is. (refl, one_html text offset len len' b.2 is.2)) b'
  one_piece (Delimiters run) len kind' b b' =
      only_delimiters (Is (Delimiters run) len) kind' (same_class (Delimiters run) kind' len b b')
      (λ run' is.
      let same = one_run_of asked text offset run run' b.0 is.0 in
      (ap (λ r. Delimiters r) same, b.1 ∙ ap (λ r. r.count) same ∙ sym is.1)) b'
  one_piece LinkOpener len kind' b b' =
      only_bracket (Is LinkOpener len) kind' (same_class LinkOpener kind' len b b')
      (λ is. (refl, omega (arith, one_opener_end asked text offset (offset + len) (offset + len') b.1 is.1)))
      (λ is. absurd (omega (arith, first_is (codes "[") (codes "![") b.0 is.0 (omega arith) (omega arith))))
      (λ is. absurd (omega (arith, first_is (codes "[") (codes "]") b.0 is.0 (omega arith) (omega arith)))) b'
  one_piece ImageOpener len kind' b b' =
      only_bracket (Is ImageOpener len) kind' (same_class ImageOpener kind' len b b')
      (λ is. absurd (omega (arith, first_is (codes "![") (codes "[") b.0 is.0 (omega arith) (omega arith))))
      (λ is. (refl, omega (arith, one_opener_end asked text (offset + 1) (offset + len) (offset + len') b.1 is.1)))
      (λ is. absurd (omega (arith, first_is (codes "![") (codes "]") b.0 is.0 (omega arith) (omega arith)))) b'
  one_piece Closer len kind' b b' =
      only_bracket (Is Closer len) kind' (same_class Closer kind' len b b')
      (λ is. absurd (omega (arith, first_is (codes "]") (codes "[") b.0 is.0 (omega arith) (omega arith))))
      (λ is. absurd (omega (arith, first_is (codes "]") (codes "![") b.0 is.0 (omega arith) (omega arith))))
      (λ is. (refl, b.1 ∙ sym is.1)) b'

-- the next piece begins at one offset
same_start : (asked : Extensions) (text : List ℕ) (from start start' : ℕ) (kind kind' : PieceKind) (len len' : ℕ) → from ≤ start → from ≤ start'
    → HasOnlyText asked text from start → HasOnlyText asked text from start' → BeginsAt asked text from start kind len
    → BeginsAt asked text from start' kind' len' → start ≡ start'
same_start asked text from start start' kind kind' len len' low low' only only' begins begins' = elim (cases_lt start start') [
  | inl less ↦ absurd (only' start low less kind len begins)
  | inr not_less ↦ elim (cases_lt start' start) [
    | inl more ↦ absurd (only start' low' more kind' len' begins')
    | inr not_more ↦ omega (arith, not_less, not_more)
  ]
]

pub same_piece : {kind kind' : PieceKind} {start start' end end' : ℕ} → kind ≡ kind' → start ≡ start' → end ≡ end'
    → ◌≡◌ {A = Piece} (record { kind = kind; start = start; end = end }) (record { kind = kind'; start = start'; end = end' })
same_piece kinds starts ends = λ i. record { kind = kinds i; start = starts i; end = ends i }

pub one_next : (asked : Extensions) (text : List ℕ) (from : ℕ) (a b : Piece) → IsNext asked text from a → IsNext asked text from b → a ≡ b
one_next asked text from a b is_a is_b =
    let start : a.start ≡ b.start =
    same_start asked text from a.start b.start a.kind b.kind is_a.len is_b.len is_a.later is_b.later is_a.only_text is_b.only_text
    is_a.begins is_b.begins in
    let there = subst (λ p. BeginsAt asked text from p b.kind is_b.len) (sym start) is_b.begins in
    let same = one_piece asked text from a.start is_b.len a.kind is_a.len b.kind is_a.begins there in
    same_piece same.0 start (omega (arith, is_a.ends, is_b.ends, start, same.1))
