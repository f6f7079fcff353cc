use Rattle.std.proofs.Common.{◌≡◌, drop, refl, sym, ap, ◌∙◌}
use Rattle.markdown_blocks.proofs.taken.TakenLemmas.{slice_after}
use Rattle.markdown_blocks.proofs.kinds.is_tag_alone.Goals as goal
use Rattle.markdown_blocks.specs.blank_lines.BlankLines.{is_blank}

pub returns-in-Some : goal.returns-in-Some
returns-in-Some c =
    let text = c.args.text.now in
    let tells : c.is_blank.result ≡ is_blank (drop c.in-Some.length text) =
    c.is_blank.ensures ∙ ap is_blank (slice_after text c.in-Some.length) in (
      λ t n alone. ap (λ k. is_blank (drop k text)) (c.in-Some.ensures.only n alone) ∙ sym tells ∙ t,
      λ all. tells ∙ all c.in-Some.length c.in-Some.ensures.found,
    )

pub returns-in-None : goal.returns-in-None
returns-in-None c = (λ t n alone. absurd (c.in-None.ensures.found n alone), λ all. refl)
