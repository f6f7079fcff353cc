use Rattle.std.proofs.Common.{sym, ◌∙◌, arith}
use Rattle.std.specs.Prelude.{◌==◌}
use Rattle.markdown_scanners_tree.specs.Ascii.{colon}
use Rattle.markdown_html.proofs.AddressLemmas.{written_found, none_written, begins_at_offset, no_more, not_colon}
use Rattle.markdown_html.proofs.addresses.written_scheme.Goals as goal
use Rattle.markdown_html.proofs.addresses.written_scheme.Goals.{else-len-url-via-then-len-url+else-url-len-eq58, else-len-url-via-else-len-url}

pub returns-then-url-len-eq58 : goal.returns-then-url-len-eq58
returns-then-url-len-eq58 c =
    written_found c.args.url.now c.scheme_len-len.result c.requires (omega arith) (sym c.is_letter.ensures ∙ c.if-not-is_letter.false)
    c.scheme_len-len.ensures.count c.if-len-url.true c.if-url-len-eq58.true

pub returns-else-len-url : goal.returns-else-len-url
returns-else-len-url c =
    let url = c.args.url.now in
    let n = c.scheme_len-len.result in
    none_written url n c.requires c.scheme_len-len.ensures.count (elim c.else-len-url.branch [
      | else-len-url-via-then-len-url+else-url-len-eq58 w ↦
          begins_at_offset (λ b. b == colon) url n w.if-len-url.true ∙ not_colon _ w.if-url-len-eq58.false
      | else-len-url-via-else-len-url w ↦ no_more (λ b. b == colon) url n w.if-len-url.false
    ])
