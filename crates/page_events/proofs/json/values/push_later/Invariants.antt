-- What is written and the items that are left make all of them.
use Rattle.std.proofs.Common.{◌≡◌, ◌++◌, codes, drop, string_bytes}
use Rattle.std.specs.List.{flat_map}
use Rattle.page_events.proofs.json.values.push_later.Given as goal

abbrev pub invariant-loop-item : goal.invariant-loop-item
invariant-loop-item g l =
    string_bytes l.text ++ flat_map (λ item. codes "," ++ g.T.Item.json item) (drop l.item-index l.later)
    ≡ string_bytes l.fn.text ++ flat_map (λ item. codes "," ++ g.T.Item.json item) l.later
