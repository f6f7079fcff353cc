use Rattle.std.proofs.Common.{◌≡◌, ◌+◌, true, ap, arith, drop, get_or, take, inl, inr, refl, sym, ◌∙◌, subst}
use Rattle.std.specs.List.{prefix_len}
use Rattle.std.proofs.lemmas.Grind.{common_steps}
use Rattle.std.proofs.lemmas.Str.{IsCharBoundary-start}
use Rattle.markdown_scanners_tree.specs.scanners.classes.private.InDestination.{is_in_destination}
use Rattle.markdown_scanners_tree.specs.scanners.links.LinkDestination.{IsBareFrom}
use Rattle.markdown_scanners_tree.proofs.PrefixLemmas.{from_offset}
use Rattle.markdown_scanners_tree.specs.scanners.links.DestinationEnds.{ends_destination}
use Rattle.markdown_scanners_tree.proofs.scanners.destinations.DestinationLemmas.{bare_here}
use Rattle.markdown_scanners_tree.proofs.scanners.links.OneDestination.{one_destination}
use Rattle.markdown_scanners_tree.proofs.scanners.destinations.scan_link_dest_ahead.Goals as goal

pub returns-then-is_ended-clause-found : goal.returns-then-is_ended-clause-found
returns-then-is_ended-clause-found c =
    let bytes = c.args.bytes.now in
    let plain = c.plain_len-plain.result in
    let run : prefix_len is_in_destination bytes ≡ plain = sym c.plain_len-plain.ensures.run in
    let ends : ends_destination (drop plain bytes) ≡ true =
    ap ends_destination (sym (from_offset bytes plain)) ∙ sym c.is_ended.ensures ∙ c.if-is_ended.true in
    inr (record {
      unpointed = λ after e. c.if-bytes-ne60.true (ap (λ t. get_or t 0 0) e);
      bare = subst (IsBareFrom (c.args.max_next + 1) 0 bytes) run
          (bare_here (c.args.max_next + 1) bytes (ap (λ n. ends_destination (drop n bytes)) run ∙ ends));
      slice = ap (λ k. take k bytes) (omega arith);
    })

pub returns-then-is_ended-clause-only : goal.returns-then-is_ended-clause-only
returns-then-is_ended-clause-only c =
    λ other is. one_destination (c.args.max_next + 1) c.args.bytes.now other.0 other.1 _ _ is
    (returns-then-is_ended-clause-found c)

pub returns-then-is_ended-clause-raw_text : goal.returns-then-is_ended-clause-raw_text
returns-then-is_ended-clause-raw_text c =
    record {
      inside = inl (refl, refl);
      ordered = (omega arith, omega arith);
      within = c.plain_len-plain.ensures.within;
      begins = IsCharBoundary-start c.args.bytes.now;
      ends = grind (arith, common_steps);
      after = grind (arith, common_steps);
    }
