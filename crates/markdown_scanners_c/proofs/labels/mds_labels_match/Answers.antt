-- Two keys are the same characters where they are the same bytes.
use Rattle.markdown_scanners_c.proofs.KeyLemmas.{match_keys}
use Rattle.markdown_scanners_c.proofs.labels.mds_labels_match.Goals as goal

pub returns-in-Ok-Ok-clause-keys : goal.returns-in-Ok-Ok-clause-keys
returns-in-Ok-Ok-clause-keys c one other =
    rw (c.match_of.ensures, c.in-Ok-Ok.ensures.cases.0, c.in-Ok-Ok.ensures'.cases.0)
    (match_keys c.args.one.now c.args.other.now)
