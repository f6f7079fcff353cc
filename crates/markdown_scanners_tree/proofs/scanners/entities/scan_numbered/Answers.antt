use Rattle.markdown_scanners_tree.proofs.scanners.entities.scan_numbered.Goals as goal

pub returns-in-None-clause-found : goal.returns-in-None-clause-found
returns-in-None-clause-found c known = c.in-None.ensures.found known
