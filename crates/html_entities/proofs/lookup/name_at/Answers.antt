use Rattle.std.proofs.Common.{◌∙◌, arith}
use Rattle.html_entities.proofs.RowFacts.{name_count}
use Rattle.html_entities.proofs.lookup.name_at.Goals as goal

pub part_at-requires : goal.part_at-requires
part_at-requires c =
    let at = c.names.ensures.each c.args.row (rw name_count c.requires) in
    record {
      enough = omega (arith, c.names.ensures.enough, name_count);
      in_order = at.in_order;
      starts = at.starts;
      ends = at.ends;
    }

pub returns : goal.returns
returns c =
    c.as_bytes.ensures.value ∙ c.part_at.ensures ∙ (c.names.ensures.each c.args.row (rw name_count c.requires)).is
