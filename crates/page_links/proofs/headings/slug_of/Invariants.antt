-- What is made is what is kept of the characters so far.
use Rattle.std.proofs.Common.{◌≡◌, flat_map, string_bytes}
use Rattle.page_links.specs.headings.Headings.{kept}
use Rattle.page_links.proofs.headings.slug_of.Given as goal

abbrev pub invariant-loop-c : goal.invariant-loop-c
invariant-loop-c l = string_bytes l.slug ≡ flat_map kept l.yielded
