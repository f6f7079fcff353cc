-- The events stand in two pieces of memory.
use Rattle.std.proofs.Common.{Option, Some, None, IfNone, arith}
use Rattle.std.proofs.lemmas.Option.{IfSome_then}
use Rattle.markdown_events.proofs.page.RoomLemmas.{added_in_pieces, left_after_pieces}
use Rattle.markdown_events.proofs.page.references.room_after.Goals as goal

if_none_then : {A P Q : Type 0} (left : Option A) → (P → Q) → IfNone left P → IfNone left Q
if_none_then None then p = then p
if_none_then (Some left) then p = p

pub returns-in-Some-clause-left : goal.returns-in-Some-clause-left
returns-in-Some-clause-left c =
    IfSome_then c.room_after_slice-in-Some.result c.room_after_slice-in-Some.ensures.left (λ left is.
    left_after_pieces c.args.room c.in-Some.left left c.args.events.now.items c.as_slices.result.0.now c.as_slices.result.1.now
    c.as_slices.ensures.items c.in-Some.ensures.left is)

pub returns-in-Some-clause-none : goal.returns-in-Some-clause-none
returns-in-Some-clause-none c =
    let both = added_in_pieces c.args.events.now.items c.as_slices.result.0.now c.as_slices.result.1.now c.as_slices.ensures.items in
    if_none_then c.room_after_slice-in-Some.result (λ more. omega (arith, more, both, c.in-Some.ensures.left.references))
    c.room_after_slice-in-Some.ensures.none

pub returns-in-None-clause-none : goal.returns-in-None-clause-none
returns-in-None-clause-none c =
    let both = added_in_pieces c.args.events.now.items c.as_slices.result.0.now c.as_slices.result.1.now c.as_slices.ensures.items in
    omega (arith, both, c.in-None.ensures.none)
