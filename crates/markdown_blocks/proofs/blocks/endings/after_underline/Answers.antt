use Rattle.std.proofs.Common.{◌≡◌, drop, ap, ◌∙◌}
use Rattle.markdown_scanners_tree.specs.Ascii.{equals_sign}
use Rattle.markdown_blocks.proofs.blocks.UnderlineLemmas.{after_run, other_byte}
use Rattle.markdown_blocks.proofs.taken.TakenLemmas.{slice_after}
use Rattle.markdown_blocks.proofs.blocks.endings.after_underline.Goals.{in-H1, in_default}
use Rattle.markdown_blocks.proofs.blocks.endings.after_underline.Goals as goal

pub returns : goal.returns
returns c = λ n u.
    let byte = c.match-level.byte in
    let same : byte ≡ u.byte = elim c.match-level.branch [
      | in-H1 w ↦ w.byte-is ∙ (let of = rw w.in-H1.is at u.of_level in let is : equals_sign ≡ u.byte = cc in is)
      | in_default w ↦ w.byte-is ∙ other_byte c.args.level u.byte w.in_default.not-H1 u.of_level
    ] in
    slice_after c.args.text.now c.scan_ch_repeat.result ∙ ap (λ k. drop k c.args.text.now) c.scan_ch_repeat.ensures.run
    ∙ after_run c.args.text.now n byte c.args.level u same
