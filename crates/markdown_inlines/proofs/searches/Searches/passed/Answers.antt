use Rattle.std.proofs.Common.{arith}
use Rattle.markdown_inlines.specs.Searches.{Searched}
use Rattle.markdown_inlines.proofs.searches.SearchLemmas.{searched_budget}
use Rattle.markdown_inlines.proofs.searches.Searches.passed.Goals as goal

pub overflow_add-result : goal.overflow_add-result
overflow_add-result c =
    let searched = rw (← c.self.view_is) at c.requires.searched in
    let all : Searched = record { codes = c.self.inside.codes_passed; read = c.self.inside.read_from; html = c.self.inside.html } in
    let budget = searched_budget searched.0 all searched.1 searched.2 c.self.invariant.1 in
    omega (arith, budget, searched.2.fits, c.passed.ensures.value)

pub returns-clause-budget : goal.returns-clause-budget
returns-clause-budget c =
    let searched = rw (← c.self.view_is) at c.requires.searched in
    let all : Searched = record { codes = c.self.inside.codes_passed; read = c.self.inside.read_from; html = c.self.inside.html } in
    let budget = searched_budget searched.0 all searched.1 searched.2 c.self.invariant.1 in
    rw (← c.self.view_is) (omega (arith, budget, c.passed.ensures.value))
