-- The containers that are open after a step.
use Rattle.std.proofs.Common.{ℕ, Bool, true, false, List, [], ◌∷◌, ◌++◌, ◌≤◌, ◌≡◌, ◌==◌, ◌∙◌, length, map, take, drop, refl, ap, arith, length-append}
use Rattle.std.specs.Prelude.{if◌then◌else◌}
use Rattle.std.proofs.lemmas.List.{map-append, take-append-drop}
use Rattle.markdown_scanners_tree.specs.line.State.{LineState}
use Rattle.markdown_blocks.specs.containers.Containers.{Between, after_marker, marker_start}
use Rattle.markdown_blocks.specs.declared.containers.Container.{Container}
use Rattle.markdown_blocks.specs.declared.containers.Container.TheVariants.{Quote, Item, Footnote, TermDefinition}
use Rattle.markdown_blocks.specs.declared.step.Step.{Step}
use Rattle.markdown_blocks.specs.walk.Walk.{IsStep}
use Rattle.markdown_scanners_c.specs.BlockLines.{begun_returned, open_in, open_returned, opened_returned}

-- the step's line goes on with no more than are open after it
pub kept_within : (old new : Between) (lines : List ℕ) (step : Step) → IsStep old lines [] step new → step.kept ≤ length new.containers
kept_within old new lines step h =
    let all : length new.containers ≡ length (h.piece.kept ++ h.piece.begun) = ap (λ (o : Between). length o.containers) h.open_now in
    omega (arith, h.counted, all, length-append h.piece.kept h.piece.begun)

-- what is returned of an open container is read as that container
begun_back : (begun : Bool) → ((if begun then 1 else 0) == 1) ≡ begun
begun_back true = refl
begun_back false = refl

open_back : (c : Container) (offset : ℕ) → open_in (open_returned c offset) ≡ c
open_back Quote offset = refl
open_back Footnote offset = refl
open_back (TermDefinition definition) offset = ap (λ b. TermDefinition (record definition { starts_blank = b })) (begun_back definition.starts_blank)
open_back (Item item) offset = ap (λ b. Item (record item { starts_blank = b })) (begun_back item.starts_blank)

kept_back : (cs : List Container) → map open_in (map (λ c. open_returned c 0) cs) ≡ cs
kept_back [] = refl
kept_back (c ∷ cs) = ap (λ d. d ∷ map open_in (map (λ k. open_returned k 0) cs)) (open_back c 0) ∙ ap (λ ds. c ∷ ds) (kept_back cs)

begun_all_back : (s : LineState) (cs : List Container) → map open_in (begun_returned s cs) ≡ cs
begun_all_back s [] = refl
begun_all_back s (c ∷ cs) =
    ap (λ d. d ∷ map open_in (begun_returned (after_marker s) cs)) (open_back c (marker_start s)) ∙ ap (λ ds. c ∷ ds) (begun_all_back (after_marker s) cs)

-- The next call reads the containers that are open after a step, whatever else its array holds.
pub opened_back : (step : Step) (cs : List Container) → map open_in (opened_returned step cs) ≡ cs
opened_back step cs =
    let first = map (λ c. open_returned c 0) (take step.kept cs) in
    let second = begun_returned step.start (drop step.kept cs) in
    map-append open_in first second ∙ ap (λ ds. ds ++ map open_in second) (kept_back (take step.kept cs))
    ∙ ap (λ ds. take step.kept cs ++ ds) (begun_all_back step.start (drop step.kept cs)) ∙ take-append-drop step.kept cs
