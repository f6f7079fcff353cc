use Rattle.std.proofs.Common.{◌≡◌, None, is_some, inl, inr, refl, sym, ap, ◌∙◌}
use Rattle.std.proofs.lemmas.Bool.{cases_Bool}
use Rattle.markdown_scanners_tree.specs.scanners.html_kinds.private.Marks.{marked_kind}
use Rattle.markdown_scanners_tree.specs.declared.scanners.html_kinds.HtmlBlockKind.TheVariants.{RawText, BlockName}
use Rattle.markdown_scanners_tree.proofs.scanners.html_kinds.StartLemmas.{marked_interruption, unmarked_kind, raw_start, name_start, no_interruption, not_false}
use Rattle.markdown_scanners_tree.proofs.scanners.html_kinds.begins_interrupting_html.Goals as goal

pub returns-then-is_some : goal.returns-then-is_some
returns-then-is_some c = (
  λ t. marked_interruption c.args.rest.now
      (ap is_some (sym c.scan_marked_kind.ensures) ∙ sym c.is_some.ensures ∙ c.if-is_some.true),
  λ h. refl,
)

pub returns-then-begins_raw_text : goal.returns-then-begins_raw_text
returns-then-begins_raw_text c =
    let none : marked_kind c.args.rest.now ≡ None = sym c.scan_marked_kind.ensures ∙ unmarked_kind c.scan_marked_kind.result (sym c.is_some.ensures ∙ c.if-is_some.false) in
    (λ t. (RawText, raw_start c.args.rest.now none (sym c.begins_raw_text.ensures ∙ c.if-begins_raw_text.true), refl), λ h. refl)

pub returns : goal.returns
returns c =
    let none : marked_kind c.args.rest.now ≡ None = sym c.scan_marked_kind.ensures ∙ unmarked_kind c.scan_marked_kind.result (sym c.is_some.ensures ∙ c.if-is_some.false) in
    let no_raw = sym c.begins_raw_text.ensures ∙ c.if-begins_raw_text.false in (
      λ t. (BlockName, name_start c.args.rest.now none no_raw (c.begins_block_name.ensures.0 t), refl),
      λ h. elim (cases_Bool c.begins_block_name.result) [
        | inl named ↦ named
        | inr other ↦ absurd (no_interruption c.args.rest.now none no_raw (λ b. not_false other (c.begins_block_name.ensures.1 b)) h)
      ],
    )
