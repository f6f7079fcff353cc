use Rattle.markdown_blocks.proofs.kinds.heading_level.Goals as goal

pub returns-in_err-level : goal.returns-in_err-level
returns-in_err-level c = rw c.from_residual.ensures (λ level h. c.in_err-level.ensures.found level h.0)
