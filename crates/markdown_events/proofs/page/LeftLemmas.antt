-- The block events of a page that are left, where one more is read.
use Rattle.std.proofs.Common.{ℕ, zero, suc, ◌+◌, ◌<◌, ◌≤◌, ◌≡◌, List, [], ◌∷◌, ap, arith, drop, get_or, length, map, refl, sym, ◌∙◌, add-one}
use Rattle.std.proofs.lemmas.List.{drop_all, drop_more, length-drop, length-map}
use Rattle.markdown_blocks.specs.declared.events.BlockEvent.{BlockEvent}
use Rattle.markdown_blocks.specs.events.Events.{Event, seen_event}

abbrev left : List BlockEvent → ℕ → List Event
left blocks read = map seen_event (drop read blocks)

pub rest_left : (blocks : List BlockEvent) (read : ℕ) → map seen_event (drop (read + 1) blocks) ≡ drop 1 (map seen_event (drop read blocks))
rest_left blocks read = ap (λ n. left blocks n) (add-one read) ∙ by blocks read
  where
    by : (blocks : List BlockEvent) (read : ℕ) → left blocks (suc read) ≡ drop 1 (left blocks read)
    by [] zero = refl
    by [] (suc read) = refl
    by (block ∷ blocks) zero = refl
    by (block ∷ blocks) (suc read) = by blocks read

pub first_left : (blocks : List BlockEvent) (read : ℕ) (d : BlockEvent) → read < length blocks
    → map seen_event (drop read blocks) ≡ seen_event (get_or blocks read d) ∷ drop 1 (map seen_event (drop read blocks))
first_left blocks read d inside =
    ap (map seen_event) (drop_more blocks read d inside) ∙ ap (λ es. seen_event (get_or blocks read d) ∷ es) (rest_left blocks read)

pub none_left : (blocks : List BlockEvent) (read : ℕ) → length blocks ≤ read → map seen_event (drop read blocks) ≡ []
none_left blocks read past = ap (map seen_event) (drop_all read blocks past)

pub all_passed : (blocks : List BlockEvent) (read : ℕ) → length blocks ≤ read
    → map seen_event (drop read blocks) ≡ drop 1 (map seen_event (drop read blocks))
all_passed blocks read past = none_left blocks read past ∙ sym (ap (drop 1) (none_left blocks read past))

pub some_left : (blocks : List BlockEvent) (read : ℕ) → read < length blocks → 0 < length (map seen_event (drop read blocks))
some_left blocks read inside = omega (arith, inside, length-map (drop read blocks) seen_event, length-drop read blocks)
