use Rattle.std.proofs.Common.{◌≤◌, ◌<◌, ap, arith, fold, length, sym, ◌∙◌}
use Rattle.std.specs.Char.{to_ascii_lowercase}
use Rattle.markdown_scanners_tree.specs.linklabel.Key.{blocks}
use Rattle.markdown_scanners_tree.proofs.linklabel.AsciiKeys.{key_bytes-ascii}
use Rattle.markdown_scanners_tree.proofs.linklabel.KeyBlocks.{first_mapped, last_mapped}
use Rattle.markdown_scanners_tree.proofs.linklabel.key.hash_ascii.Goals as goal

pub loop-rest-preserved : goal.loop-rest-preserved
loop-rest-preserved g c =
    let above : 16 < length c.loop-rest.rest.now = omega arith in
    rw (c.write_lowercase.ensures, c.split_at.ensures.front, c.split_at.ensures.back)
    (ap (fold g.H.Hasher.write c.loop-rest.state) (sym (first_mapped to_ascii_lowercase c.loop-rest.rest.now above))
    ∙ c.loop-rest.invariant)

pub returns : goal.returns
returns g c =
    let fits : length c.loop-rest.rest.now ≤ 16 = omega arith in
    c.write_lowercase-2.ensures
    ∙ ap (fold g.H.Hasher.write c.loop-rest.state) (sym (last_mapped to_ascii_lowercase c.loop-rest.rest.now fits))
    ∙ c.loop-rest.invariant
    ∙ ap (λ left. fold g.H.Hasher.write c.args.state.now (blocks left)) (sym (key_bytes-ascii c.args.text.now c.requires))
