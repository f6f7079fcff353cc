use Rattle.std.proofs.Common.{sym, ◌∙◌}
use Rattle.markdown_scanners_tree.proofs.linklabel.AsciiKeys.{label_key-ascii}
use Rattle.markdown_scanners_tree.proofs.linklabel.key.eq_ascii.Goals as goal

pub returns : goal.returns
returns c =
    let one = label_key-ascii c.args.one.now c.requires.one in
    let other = label_key-ascii c.args.other.now c.requires.other in (
      λ same. one ∙ c.eq_ignore_ascii_case.ensures.test.0 same ∙ sym other,
      λ same. c.eq_ignore_ascii_case.ensures.test.1 (sym one ∙ same ∙ other),
    )
