use Rattle.std.proofs.Common.{◌∙◌, arith}
use Rattle.html_entities.proofs.RowFacts.{meaning_count}
use Rattle.html_entities.proofs.lookup.meaning_at.Goals as goal

pub part_at-requires : goal.part_at-requires
part_at-requires c =
    let at = c.meanings.ensures.each c.args.row (rw meaning_count c.requires) in
    record {
      enough = omega (arith, c.meanings.ensures.enough, meaning_count);
      in_order = at.in_order;
      starts = at.starts;
      ends = at.ends;
    }

pub returns : goal.returns
returns c =
    c.part_at.ensures ∙ (c.meanings.ensures.each c.args.row (rw meaning_count c.requires)).is
