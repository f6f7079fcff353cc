use Rattle.std.proofs.Common.{◌∷◌, sym, subst, ◌∙◌}
use Rattle.markdown_scanners_tree.specs.scanners.html_block.HtmlBlock.{IsBlockStart}
use Rattle.markdown_scanners_tree.specs.scanners.html_tag.HtmlTag.{IsTagAloneInLine}
use Rattle.markdown_scanners_tree.specs.scanners.html_kinds.HtmlKinds.{IsHtmlBlockStart, MeetsStart}
use Rattle.markdown_scanners_tree.specs.declared.scanners.html_kinds.HtmlBlockKind.TheVariants.{RawText, BlockName, TagAlone}
use Rattle.markdown_scanners_tree.proofs.SomeExactlyLemmas.{SomeExactly-some, SomeExactly-none}
use Rattle.markdown_scanners_tree.proofs.scanners.html_kinds.StartLemmas.{raw_start, name_start, alone_start, no_start, not_false, named_raw}
use Rattle.markdown_scanners_tree.proofs.scanners.html_kinds.scan_tag_kind.Goals as goal
use Rattle.markdown_scanners_tree.proofs.scanners.html_kinds.scan_tag_kind.Goals.{else-is_some-via-then-is_some+else-not-has_raw_name, else-is_some-via-else-is_some}

pub returns-then-begins_raw_text : goal.returns-then-begins_raw_text
returns-then-begins_raw_text c =
    subst (λ bytes. IsHtmlBlockStart bytes RawText) (sym c.requires.opened)
    (raw_start c.args.rest.now c.requires.no_mark (sym c.begins_raw_text.ensures ∙ c.if-begins_raw_text.true))

pub returns-then-begins_block_name : goal.returns-then-begins_block_name
returns-then-begins_block_name c =
    subst (λ bytes. IsHtmlBlockStart bytes BlockName) (sym c.requires.opened)
    (name_start c.args.rest.now c.requires.no_mark (sym c.begins_raw_text.ensures ∙ c.if-begins_raw_text.false) (c.begins_block_name.ensures.0 c.if-begins_block_name.true))

pub returns-then-not-has_raw_name : goal.returns-then-not-has_raw_name
returns-then-not-has_raw_name c =
    let no_name : ¬ IsBlockStart c.args.rest.now = λ b. not_false c.if-begins_block_name.false (c.begins_block_name.ensures.1 b) in
    let alone =
    SomeExactly-some (IsTagAloneInLine c.args.bytes.now) c.scan_html_type_7.result
    (sym c.is_some.ensures ∙ c.if-is_some.true) c.scan_html_type_7.ensures.found in
    subst (λ bytes. IsHtmlBlockStart bytes TagAlone) (sym c.requires.opened)
    (alone_start c.args.rest.now c.requires.no_mark (sym c.begins_raw_text.ensures ∙ c.if-begins_raw_text.false) no_name
    alone.0 (subst (λ bytes. IsTagAloneInLine bytes alone.0) c.requires.opened alone.1)
    (sym c.has_raw_name.ensures ∙ c.if-not-has_raw_name.true))

pub returns : goal.returns
returns c =
    let no_name : ¬ IsBlockStart c.args.rest.now = λ b. not_false c.if-begins_block_name.false (c.begins_block_name.ensures.1 b) in
    let none : ¬ MeetsStart TagAlone (60 ∷ c.args.rest.now) = elim c.else-is_some.branch [
      | else-is_some-via-then-is_some+else-not-has_raw_name w ↦ λ h.
          named_raw (sym w.has_raw_name.ensures ∙ w.if-not-has_raw_name.false) h.2
      | else-is_some-via-else-is_some w ↦ λ h.
          SomeExactly-none (IsTagAloneInLine c.args.bytes.now) c.scan_html_type_7.result
          (sym c.is_some.ensures ∙ w.if-is_some.false) c.scan_html_type_7.ensures.found h.0
          (subst (λ bytes. IsTagAloneInLine bytes h.0) (sym c.requires.opened) h.1)
    ] in
    subst (λ bytes. (k : _) → ¬ IsHtmlBlockStart bytes k) (sym c.requires.opened)
    (no_start c.args.rest.now c.requires.no_mark (sym c.begins_raw_text.ensures ∙ c.if-begins_raw_text.false) no_name none)
