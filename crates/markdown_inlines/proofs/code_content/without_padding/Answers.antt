use Rattle.std.proofs.Common.{◌≡◌, ◌-◌, ◌∙◌, ap, sym, subst, arith, length, take, drop, get_or}
use Rattle.std.specs.Str.{IsCharBoundary}
use Rattle.std.proofs.lemmas.List.{length-drop}
use Rattle.std.proofs.lemmas.Str.{IsCharBoundary-start, IsCharBoundary-end}
use Rattle.markdown_scanners_tree.proofs.ForCallers.{offset_of_rest}
use Rattle.markdown_scanners_tree.proofs.PrefixLemmas.{from_offset}
use Rattle.markdown_inlines.specs.CodeContent.{as_space, with_spaces}
use Rattle.markdown_inlines.proofs.code_content.CodeContentLemmas.{padded_bytes, padded_front, padded_rest, padding_kept}
use Rattle.markdown_inlines.proofs.code_content.CodeContentLemmas.{kept_between}
use Rattle.markdown_inlines.proofs.code_content.without_padding.Goals as goal

pub returns-then-not-is_padded-clause-text : goal.returns-then-not-is_padded-clause-text
returns-then-not-is_padded-clause-text c =
    let bytes = c.args.bytes.now in
    ap with_spaces (from_offset bytes 0)
    ∙ padding_kept (with_spaces bytes) (padded_bytes bytes ∙ sym c.is_padded.ensures ∙ c.if-not-is_padded.true)

pub returns-then-not-is_padded-clause-cut : goal.returns-then-not-is_padded-clause-cut
returns-then-not-is_padded-clause-cut c = λ utf8. (IsCharBoundary-start c.args.bytes.now utf8, IsCharBoundary-end c.args.bytes.now)

pub space_len-start-requires : goal.space_len-start-requires
space_len-start-requires c =
    padded_front c.args.bytes.now (padded_bytes c.args.bytes.now ∙ sym c.is_padded.ensures ∙ c.if-not-is_padded.false)

pub last_space_len-requires : goal.last_space_len-requires
last_space_len-requires c =
    let bytes = c.args.bytes.now in
    let start = c.space_len-start.result in
    subst (λ t. as_space (get_or t (length t - 1) 0) ≡ 32) (sym (from_offset bytes start))
    (padded_rest bytes (drop start bytes) c.space_len-start.ensures.rest
    (padded_bytes bytes ∙ sym c.is_padded.ensures ∙ c.if-not-is_padded.false))

pub returns-clause-text : goal.returns-clause-text
returns-clause-text c =
    let bytes = c.args.bytes.now in
    kept_between bytes c.space_len-start.result c.last_space_len.result c.space_len-start.ensures.rest c.last_space_len.ensures.front
    (padded_bytes bytes ∙ sym c.is_padded.ensures ∙ c.if-not-is_padded.false)

pub returns-clause-cut : goal.returns-clause-cut
returns-clause-cut c = λ utf8.
    let bytes = c.args.bytes.now in
    let start = c.space_len-start.result in
    let rest = take (length bytes - start) (drop start bytes) in
    let first : IsCharBoundary bytes start = c.space_len-start.ensures.cut utf8 in (
      first,
      subst (IsCharBoundary bytes)
          (omega (arith, c.last_space_len.ensures.within, c.space_len-start.ensures.within, ap length (from_offset bytes start), length-drop start bytes))
          (offset_of_rest _ bytes start (length rest - c.last_space_len.result) (from_offset bytes start) utf8 (λ _. first)
          (λ _. c.last_space_len.ensures.cut)),
    )
