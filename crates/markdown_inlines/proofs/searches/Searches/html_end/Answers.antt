use Rattle.std.proofs.Common.{◌+◌, ◌∙◌, sym, arith}
use Rattle.markdown_inlines.specs.Searches.{Searched}
use Rattle.markdown_inlines.proofs.searches.SearchLemmas.{html_refused, step_found, step_refused}
use Rattle.markdown_inlines.proofs.searches.Searches.html_end.Goals as goal
use Rattle.markdown_inlines.proofs.searches.Searches.html_end.Goals.{in-Ok, in-Err}

pub overflow_add-offset : goal.overflow_add-offset
overflow_add-offset c = omega (arith, c.requires.within, c.requires.searched.fits)

pub returns-clause-found : goal.returns-clause-found
returns-clause-found c =
    let is = rw (← c.self.view_is) at c.requires.searched in
    rw (← c.self.view_is) (elim c.match-step.branch [
      | in-Ok w ↦ (
          let given = step_found c.self.inside.html (c.args.offset + 2) _ _ w.in-Ok.ensures.answer in
          w.result-is ∙ given
          )
      | in-Err w ↦ (
          let refused = step_refused c.self.inside.html (c.args.offset + 2) _ _ w.in-Err.ensures.answer in
          let searched : Searched = record { codes = c.self.inside.codes_passed; read = c.self.inside.read_from; html = c.self.inside.html } in
          w.result-is ∙ sym (html_refused c.args.offset searched _ is refused)
          )
    ])
