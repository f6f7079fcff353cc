use Rattle.std.proofs.Common.{Bor, ℕ, List, ◌+◌, ap, sym, subst, drop}
use Rattle.std.specs.Option.{option_map}
use Rattle.markdown_scanners_tree.specs.scanners.links.LinkDestination.{IsLinkDestination}
use Rattle.markdown_scanners_tree.proofs.SomeExactlyLemmas.{SomeExactly-from_none}
use Rattle.markdown_scanners_tree.proofs.scanners.links.LinkLemmas.{slice_is_rest, part_of_rest, offset_of_rest, destination_of_rest}
use Rattle.markdown_scanners_tree.proofs.scanners.links.OneDestination.{one_destination}
use Rattle.markdown_scanners_tree.proofs.scanners.links.scan_link_dest.Goals as goal

pub returns-in_err-taken-clause-none : goal.returns-in_err-taken-clause-none
returns-in_err-taken-clause-none c =
    let read = slice_is_rest c.as_bytes.result.now c.args.text.now c.args.start c.as_bytes.ensures.value in
    rw c.from_residual.ensures (λ n raw is.
    c.in_err-taken.ensures.found (n, raw) (subst (λ t. IsLinkDestination (c.args.max_next + 1) t n raw) (sym read) is))

pub returns-in_err-taken-clause-found : goal.returns-in_err-taken-clause-found
returns-in_err-taken-clause-found c =
    let none = rw c.from_residual.ensures at (returns-in_err-taken-clause-none c) in
    SomeExactly-from_none _ (ap (option_map (λ (r : ℕ × Bor (List ℕ)). (r.0, r.1.now))) c.from_residual.ensures)
    (λ r. none r.0 r.1)

pub range-requires-clause-start_boundary : goal.range-requires-clause-start_boundary
range-requires-clause-start_boundary c = λ _.
    let read = slice_is_rest c.as_bytes.result.now c.args.text.now c.args.start c.as_bytes.ensures.value in
    offset_of_rest _ c.args.text.now c.args.start c.in_ok-taken.raw.start read c.utf8.text c.requires
    c.in_ok-taken.ensures.raw_text.begins

pub range-requires-clause-end_boundary : goal.range-requires-clause-end_boundary
range-requires-clause-end_boundary c =
    let read = slice_is_rest c.as_bytes.result.now c.args.text.now c.args.start c.as_bytes.ensures.value in
    offset_of_rest _ c.args.text.now c.args.start c.in_ok-taken.raw.end read c.utf8.text c.requires
    c.in_ok-taken.ensures.raw_text.ends

pub returns-clause-found : goal.returns-clause-found
returns-clause-found c =
    let text = c.args.text.now in
    let read = slice_is_rest c.as_bytes.result.now text c.args.start c.as_bytes.ensures.value in
    let raw = c.in_ok-taken.raw in
    let part = part_of_rest _ text c.range.result.now c.args.start raw.start raw.end read c.range.ensures.value in
    destination_of_rest (c.args.max_next + 1) _ (drop c.args.start text) c.in_ok-taken.taken _ c.range.result.now read
    part c.in_ok-taken.ensures.found

pub returns-clause-only : goal.returns-clause-only
returns-clause-only c =
    λ other is. one_destination (c.args.max_next + 1) (drop c.args.start c.args.text.now) other.0 other.1 _ _ is
    (returns-clause-found c)

pub returns-clause-boundary : goal.returns-clause-boundary
returns-clause-boundary c =
    let read = slice_is_rest c.as_bytes.result.now c.args.text.now c.args.start c.as_bytes.ensures.value in
    offset_of_rest _ c.args.text.now c.args.start c.in_ok-taken.taken read c.utf8.text c.requires
    c.in_ok-taken.ensures.raw_text.after
