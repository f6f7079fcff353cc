use Rattle.std.proofs.Common.{◌∙◌, List, ap, arith, length, refl, subst, sym}
use Rattle.std.specs.List.{All}
use Rattle.markdown_inlines.specs.Written.{IsWithin, pieces_of, with_starts}
use Rattle.markdown_inlines.specs.declared.inlines.Inline.{Inline}
use Rattle.markdown_inlines.proofs.cut.WrittenLemmas.{all_put, all_whole, starts_put, starts_within}
use Rattle.markdown_inlines.proofs.inlines.InlineFinder.put_all.Goals as goal

pub returns-then-not-has_runs-clause-inlines : goal.returns-then-not-has_runs-clause-inlines
returns-then-not-has_runs-clause-inlines g c =
    let W = c.cut_within.new.buffers in
    let links = W.reader.links in
    let old = W.inlines.items in
    let shown = starts_put links _ old _ _ W.inlines.len refl c.deref_mut.ensures.value c.put_starts.ensures
    (omega (arith, c.deref_mut.ensures.len, ap (λ (l : List Inline). length l) c.deref_mut.ensures.value)) in
    record {
      pieces = pieces_of old;
      emphasis = W.reader.emphasis.items;
      cut = c.in_ok-has_runs.ensures.cut;
      inlines_are = shown ∙ (ap (with_starts links 0) c.in_ok-has_runs.ensures.written
          ∙ all_whole links W.reader.emphasis.items (pieces_of old) 0 (sym c.in_ok-has_runs.ensures.runs ∙ c.if-not-has_runs.true));
    }

pub put_delimiters-requires : goal.put_delimiters-requires
put_delimiters-requires g c =
    let W = c.cut_within.new.buffers in
    let links = W.reader.links in
    let old = W.inlines.items in
    let shown = starts_put links _ old _ _ W.inlines.len refl c.deref_mut.ensures.value c.put_starts.ensures
    (omega (arith, c.deref_mut.ensures.len, ap (λ (l : List Inline). length l) c.deref_mut.ensures.value)) in
    subst (λ (l : List Inline). All (IsWithin (length c.args.text.now)) l)
    (sym (shown ∙ ap (with_starts links 0) c.in_ok-has_runs.ensures.written))
    (starts_within links (length c.args.text.now) 0 (pieces_of old)
    (λ k d inside. (
      (c.in_ok-has_runs.ensures.sources.each k d inside).some,
      (c.in_ok-has_runs.ensures.sources.each k d inside).ends.0,
    )))

pub returns-clause-inlines : goal.returns-clause-inlines
returns-clause-inlines g c =
    let W = c.cut_within.new.buffers in
    let links = W.reader.links in
    let old = W.inlines.items in
    let shown = starts_put links _ old _ _ W.inlines.len refl c.deref_mut.ensures.value c.put_starts.ensures
    (omega (arith, c.deref_mut.ensures.len, ap (λ (l : List Inline). length l) c.deref_mut.ensures.value)) in
    record {
      pieces = pieces_of old;
      emphasis = W.reader.emphasis.items;
      cut = c.in_ok-has_runs.ensures.cut;
      inlines_are = all_put links W.reader.emphasis.items _ (pieces_of old) _ _ c.deref.ensures.value
          (shown ∙ ap (with_starts links 0) c.in_ok-has_runs.ensures.written) c.in_ok-put_delimiters.ensures;
    }
