use Rattle.std.proofs.Common.{◌==◌, ap, ◌∙◌, sym, arith}
use Rattle.std.specs.Prelude.{position}
use Rattle.markdown_scanners_tree.specs.Ascii.{vertical_line}
use Rattle.markdown_scanners_tree.proofs.scanners.links.LinkLemmas.{position-searched, searched_first}
use Rattle.markdown_scanners_tree.proofs.scanners.links.scan_wikilink_pipe_bytes.Goals as goal

pub returns : goal.returns
returns c =
    let first = c.first_bytes.ensures.first in
    let pipe =
    searched_first vertical_line c.args.len c.args.bytes.now c.first_bytes.result.now c.memchr.result first
    c.memchr.ensures (omega arith) in
    record {
      found = sym (position-searched vertical_line c.first_bytes.result.now c.memchr.result c.memchr.ensures)
          ∙ ap (position (λ b. b == vertical_line)) first;
      within = pipe.within;
      cut = pipe.cut;
      before = pipe.before;
      after = pipe.after;
    }
