use Rattle.std.proofs.Common.{◌∙◌, ap, sym, drop, ◌+◌}
use Rattle.page_programs.specs.Asked.{both_flags, flags_of}
use Rattle.page_programs.specs.Extensions.{both, extensions_of}
use Rattle.page_programs.proofs.AskedLemmas.{flags_step, extensions_step, root_step}
use Rattle.page_programs.proofs.asked.asked_options.Goals as goal

pub loop-word-preserved : goal.loop-word-preserved
loop-word-preserved c =
    let words = c.args.arguments.now in
    let i = c.loop-word.word-index in
    let low = c.loop-word-test.true in
    let more = sym c.eq.ensures ∙ c.if-eq.false in
    let asked = c.loop-word.asked in
    record {
      flags = ap (both_flags (flags_of (drop (i + 1) words))) c.with_flags.ensures ∙ flags_step words i _ low more asked.flags ∙ c.loop-word.invariant.flags;
      extensions =
          ap (both (extensions_of (drop (i + 1) words))) c.with_extensions.ensures
          ∙ extensions_step words i _ low more asked.extensions ∙ c.loop-word.invariant.extensions;
      root = rw c.or.ensures (root_step words i _ low more c.after.result asked.root c.after.ensures ∙ c.loop-word.invariant.root);
    }
