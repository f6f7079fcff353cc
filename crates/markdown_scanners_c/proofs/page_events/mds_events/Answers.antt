use Rattle.std.proofs.Common.{length, ap, arith}
use Rattle.markdown_scanners_c.proofs.RecordLemmas.{records_len}
use Rattle.markdown_scanners_c.proofs.page_events.mds_events.Goals as goal

pub returns-in-Ok-made_events-clause-few : goal.returns-in-Ok-made_events-clause-few
returns-in-Ok-made_events-clause-few c =
    let made = c.in-Ok-made_events.ensures in
    omega (
      arith,
      c.write_events.ensures.written.0,
      ap length c.deref.ensures.value,
      ap length made.3,
      records_len 0 made.0,
      made.2,
      ap length c.in-Ok.ensures.cases.0,
    )
