-- The first row that is found has the text.
use Rattle.std.proofs.Common.{◌∙◌}
use Rattle.markdown_scanners_tree.proofs.scanners.entities.TableLemmas.{text_of_first_row}
use Rattle.markdown_scanners_tree.proofs.scanners.entity_table.EntityTableEntities.get.Goals as goal

pub returns : goal.returns
returns c = c.text_of.ensures ∙ text_of_first_row c.args.self.now.rows.now c.args.name.now
