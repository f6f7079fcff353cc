use Rattle.page_programs.proofs.ArgumentLemmas.{stripped}
use Rattle.page_programs.proofs.arguments.after.Goals as goal

pub returns : goal.returns
returns c = stripped c.args.front.now c.args.word.now c.strip_prefix.result c.strip_prefix.ensures.cases
