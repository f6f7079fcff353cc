use Rattle.std.proofs.Common.{arith, bytes_eq, ◌∙◌, ◌+◌, ◌≡◌}
use Rattle.std.proofs.lemmas.List.Sums.{count_by-le-length}
use Rattle.page_links.specs.anchors.Anchors.{counted}
use Rattle.page_links.proofs.AnchorLemmas.{counted_once_more}
use Rattle.page_links.proofs.anchors.count_one.Goals as goal

pub returns : goal.returns
returns c = λ before are short.
    let slug = c.args.slug.now in
    let count = c.count_of-count.ensures ∙ are slug in
    let more : c.saturating_add.result ≡ counted before slug + 1 =
    omega (arith, c.saturating_add.ensures, count, count_by-le-length (bytes_eq slug) before, short) in (
      count,
      counted_once_more c.args.counts.now c.insert.new.self c.in_ok-key.key slug c.saturating_add.result before c.in_ok-key.ensures.ok are
          c.in_ok-insert.ensures.updates more,
    )
