use Rattle.std.proofs.Common.{arith}
use Rattle.page_links.specs.links.Links.{seen_link}
use Rattle.page_links.specs.page.Printed.{line_of}
use Rattle.page_links.proofs.TextLemmas.{written_all, written_more}
use Rattle.page_links.proofs.page.push_list.Goals as goal

pub loop-link-preserved : goal.loop-link-preserved
loop-link-preserved c = record {
  is_line = c.in_ok-push_found.ensures.line;
  written = written_more seen_link (line_of c.args.form c.args.name.now c.args.page.now) c.args.links.now c.loop-link.link-index
      c.link-item.result _ _ _ (omega arith) c.link-item.is c.loop-link.invariant.written c.in_ok-push_found.ensures.written;
}

pub returns : goal.returns
returns c = written_all seen_link (line_of c.args.form c.args.name.now c.args.page.now) c.args.links.now c.loop-link.link-index _ _
    (omega arith) c.loop-link.invariant.written
