-- The closure answers 0 for each rest, and nothing else.
use Rattle.std.proofs.Common.{◌≡◌, rules, of_calls, refl}
use Rattle.markdown_inlines.proofs.pieces.NoSkipTags.{memory_for_none, no_source_tag, source_tag}
use Rattle.markdown_inlines.proofs.angles.tag_len.Goals as goal

pub returns-in-Ok-Some : goal.returns-in-Ok-Some
returns-in-Ok-Some c =
    let found = rw c.in-Ok-Some.field-0-is at c.in-Ok-Some.ensures.found in
    record {
      found = source_tag _ c.args.bytes.now found.0 found.1 _ found.2.1
          (λ rest. record { shown = record c.args.bytes { now = rest }; shows = refl; says = record { met = refl } })
          (λ rest n x. (let e : n ≡ 0 = search (rules, of_calls) in e));
    }

pub returns-in-Ok-None : goal.returns-in-Ok-None
returns-in-Ok-None c =
    let none = rw c.in-Ok-None.field-0-is at c.in-Ok-None.ensures.none in
    record {
      found = no_source_tag _ c.args.bytes.now none
          (λ rest. record { shown = record c.args.bytes { now = rest }; shows = refl; says = record { met = refl } })
          (λ rest n x. (let e : n ≡ 0 = search (rules, of_calls) in e));
    }

pub returns : goal.returns
returns c =
    let found = c.in-Err.ensures.memory in
    record {
      found = absurd (memory_for_none _ c.args.bytes.now found.0 found.1 found.2
          (λ rest. record { shown = record c.args.bytes { now = rest }; shows = refl; says = record { met = refl } })
          (λ rest n x. (let e : n ≡ 0 = search (rules, of_calls) in e)));
    }
