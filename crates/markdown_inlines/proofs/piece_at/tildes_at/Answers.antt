use Rattle.std.proofs.Common.{◌≡◌, ◌∙◌, ℕ, List, Bool, not, true, false, sym, ap, inl, inr, get_or, IsTrue}
use Rattle.markdown_scanners_tree.specs.Ascii.{tilde}
use Rattle.markdown_scanners_tree.proofs.SomeExactlyLemmas.{SomeExactly-from_none}
use Rattle.markdown_inlines.specs.DelimiterRuns.{IsRunOf, IsTildeRun}
use Rattle.markdown_inlines.specs.Pieces.{BeginsAt}
use Rattle.markdown_inlines.specs.declared.delimiter_runs.DelimiterRun.{DelimiterRun}
use Rattle.markdown_values.specs.declared.values.extensions.Extensions.{Extensions}
use Rattle.markdown_inlines.specs.declared.pieces.PieceKind.{PieceKind}
use Rattle.markdown_inlines.proofs.delimiter_runs.DelimiterRunLemmas.{no_other_run}
use Rattle.markdown_inlines.proofs.pieces.Openings.{begins_class, byte_class, only_delimiters}
use Rattle.markdown_inlines.proofs.piece_at.tildes_at.Goals as goal

-- where a tilde stands nothing begins without a run of tildes that is asked for
none_there : (asked : Extensions) (text : List ℕ) (from offset : ℕ) → get_or text offset 0 ≡ tilde
    → (IsTrue asked.strikethrough → (run : DelimiterRun) → ¬ IsTildeRun text offset run) → (kind : PieceKind) (len : ℕ)
    → ¬ BeginsAt asked text from offset kind len
none_there asked text from offset there none kind len begins =
    let same = sym (ap byte_class there) ∙ begins_class asked text from offset kind len begins in
    only_delimiters (λ k. BeginsAt asked text from offset k len → ⊥) kind same (λ run is. by run is.0) begins
  where
    by : (run : DelimiterRun) → ¬ IsRunOf asked text offset run
    by run (inl is) = no_other_run text offset run there is
    by run (inr is) = none is.0 run is.1

not_asked : (asked : Bool) → not asked ≡ true → ¬ IsTrue asked
not_asked true is = λ on. cc
not_asked false is = λ on. cc

pub returns-then-not-extensions : goal.returns-then-not-extensions
returns-then-not-extensions c = record {
  found = λ from r. none_there c.args.extensions c.args.text.now from c.args.offset c.requires.opens
      (λ on. absurd (not_asked c.args.extensions.strikethrough c.if-not-extensions.true on)) r.0 r.1;
}

pub returns-in_err-run : goal.returns-in_err-run
returns-in_err-run c = record {
  found = λ from. SomeExactly-from_none _ c.from_residual.ensures
      (λ r. none_there c.args.extensions c.args.text.now from c.args.offset c.requires.opens (λ on. c.in_err-run.ensures.found) r.0 r.1);
}
