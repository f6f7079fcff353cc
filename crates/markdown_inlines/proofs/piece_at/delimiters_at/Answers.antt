use Rattle.std.proofs.Common.{sym, ◌∙◌, ◌≡◌, ◌⊎◌, ℕ, List, inl, inr, get_or}
use Rattle.markdown_scanners_tree.proofs.SomeExactlyLemmas.{SomeExactly-from_none}
use Rattle.markdown_scanners_tree.specs.Ascii.{asterisk, underscore}
use Rattle.markdown_inlines.specs.DelimiterRuns.{IsDelimiterRun, IsRunOf}
use Rattle.markdown_inlines.specs.Pieces.{BeginsAt}
use Rattle.markdown_inlines.specs.declared.delimiter_runs.DelimiterRun.{DelimiterRun}
use Rattle.markdown_values.specs.declared.values.extensions.Extensions.{Extensions}
use Rattle.markdown_inlines.proofs.delimiter_runs.DelimiterRunLemmas.{no_tilde_run}
use Rattle.markdown_inlines.proofs.pieces.Openings.{begins_class, run_class, only_delimiters}
use Rattle.markdown_inlines.proofs.piece_at.delimiters_at.Goals as goal

no_run : (asked : Extensions) (text : List ℕ) (offset : ℕ) → (get_or text offset 0 ≡ asterisk) ⊎ (get_or text offset 0 ≡ underscore)
    → ((run : DelimiterRun) → ¬ IsDelimiterRun text offset run) → (run : DelimiterRun) → ¬ IsRunOf asked text offset run
no_run asked text offset opens none run (inl is) = none run is
no_run asked text offset opens none run (inr is) = no_tilde_run text offset run opens is.1

pub returns-in_err-run : goal.returns-in_err-run
returns-in_err-run c = record {
  found = λ asked from. SomeExactly-from_none _ c.from_residual.ensures (λ r begins.
      (let text = c.args.text.now in
      let same = sym (run_class (get_or text c.args.offset 0) c.requires.opens) ∙ begins_class asked text from c.args.offset r.0 r.1 begins in
      only_delimiters (λ kind. BeginsAt asked text from c.args.offset kind r.1 → ⊥) r.0 same
      (λ run is. no_run asked text c.args.offset c.requires.opens c.in_err-run.ensures.found run is.0) begins));
}
