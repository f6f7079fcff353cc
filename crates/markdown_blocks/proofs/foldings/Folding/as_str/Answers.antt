use Rattle.markdown_blocks.proofs.foldings.Folding.as_str.Goals as goal

pub unreachable-requires : goal.unreachable-requires
unreachable-requires c = c.in-Err.ensures.cases.0 c.as_bytes.ensures.utf8
