use Rattle.std.proofs.Common.{ap, get_or, arith, refl}
use Rattle.markdown_inlines.proofs.guarded_code_spans.LastStringLemmas.{one_more, all_last, none_yet}
use Rattle.markdown_inlines.proofs.guarded_code_spans.last_offsets.Goals as goal

pub loop-start-init : goal.loop-start-init
loop-start-init c = (none_yet c.args.text.now _ (λ k. ap (λ t. get_or t k 0) c.new-lasts.ensures.items), refl)

pub next_string-requires : goal.next_string-requires
next_string-requires c = record {
  within = c.loop-start.invariant.0.within;
  apart = c.loop-start.invariant.0.apart;
  room = omega (arith, c.requires, c.loop-start.invariant.0.within, c.loop-start.invariant.1);
}

pub loop-start-preserved : goal.loop-start-preserved
loop-start-preserved c =
    let found = c.in-Some.ensures.found in (
      one_more c.args.text.now 0 c.loop-start.lasts.items c.put_last.new.lasts.items c.loop-start.offset c.in-Some.start c.in-Some.run'
          c.loop-start.invariant.0 found.0 found.1 found.2 c.in-Some.ensures.within c.in_ok-put_last.ensures,
      omega (arith, c.loop-start.invariant.1, c.in-Some.ensures.counts),
    )

pub returns : goal.returns
returns c = all_last c.args.text.now 0 _ c.loop-start.offset c.loop-start.invariant.0 c.in_default.ensures.none
