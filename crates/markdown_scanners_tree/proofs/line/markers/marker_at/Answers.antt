use Rattle.std.proofs.Common.{ℕ, List, ◌≡◌, ◌==◌, ◌-◌, ◌≤◌, false, true, refl, sym, ap, subst, ◌∙◌, take, drop, length, arith}
use Rattle.std.proofs.lemmas.Bool.Decides.{nat_tests}
use Rattle.std.proofs.lemmas.List.{length-drop, length-take-le}
use Rattle.std.proofs.lemmas.Grind.{elements}
use Rattle.markdown_scanners_tree.specs.Bytes.{begins_with}
use Rattle.markdown_scanners_tree.specs.line.KnownBreaks.{AreTrueBreaks, learnt_at, learnt_by_marker}
use Rattle.markdown_scanners_tree.specs.scanners.Breaks.{is_thematic_break}
use Rattle.markdown_scanners_tree.specs.scanners.list_items.ListItem.{IsListMarker}
use Rattle.markdown_scanners_tree.specs.scanners.list_items.ListMarker.{is_bullet}
use Rattle.markdown_scanners_tree.specs.declared.line.known_breaks.KnownBreaks.{KnownBreaks}
use Rattle.markdown_scanners_tree.proofs.PrefixLemmas.{from_offset}
use Rattle.markdown_scanners_tree.proofs.line.ItemLemmas.{marker-break, marker-bullet, marker-found, marker-none, marker-width, no-bullet}
use Rattle.markdown_scanners_tree.proofs.line.PlaceLemmas.{breaks_stay}
use Rattle.markdown_scanners_tree.proofs.scanners.list_items.ListItemLemmas.{width_filled}
use Rattle.markdown_scanners_tree.proofs.line.markers.marker_at.Goals as goal
use Rattle.markdown_scanners_tree.proofs.line.markers.marker_at.Goals.{else-width-eq1-via-then-width-eq1+else-begins_break, else-width-eq1-via-else-width-eq1}

pub returns-clause-found : goal.returns-clause-found
returns-clause-found c known =
    let offset = c.args.offset in
    let bytes = take (length c.args.bytes.now - offset) (drop offset c.args.bytes.now) in
    let same : bytes ≡ drop offset c.args.bytes.now = from_offset c.args.bytes.now offset in
    let width = c.in_ok-width.width in
    let no_break : width ≡ 1 → is_thematic_break bytes ≡ false = elim c.else-width-eq1.branch [
      | else-width-eq1-via-then-width-eq1+else-begins_break w ↦
          (λ one. ap is_thematic_break same ∙ sym (w.begins_break.ensures.answer known) ∙ w.if-begins_break.false)
      | else-width-eq1-via-else-width-eq1 w ↦ (λ one. absurd (w.if-width-eq1.false one))
    ] in
    rw same at (marker-found bytes width c.in_ok-width.delimiter c.in_ok-width.start c.in_ok-width.ensures.found
    c.in_ok-width.ensures.within no_break)

pub returns-then-begins_break-clause-none : goal.returns-then-begins_break-clause-none
returns-then-begins_break-clause-none c known =
    let offset = c.args.offset in
    let bytes = take (length c.args.bytes.now - offset) (drop offset c.args.bytes.now) in
    let same : bytes ≡ drop offset c.args.bytes.now = from_offset c.args.bytes.now offset in
    let breaks : is_thematic_break bytes ≡ true =
    ap is_thematic_break same ∙ sym (c.begins_break.ensures.answer known) ∙ c.if-begins_break.true in
    rw same at (marker-break bytes c.in_ok-width.width c.in_ok-width.delimiter c.in_ok-width.start
    c.in_ok-width.ensures.found c.in_ok-width.ensures.within c.if-width-eq1.true breaks)

pub returns-in_err-width-clause-none : goal.returns-in_err-width-clause-none
returns-in_err-width-clause-none c known =
    let offset = c.args.offset in
    let bytes = take (length c.args.bytes.now - offset) (drop offset c.args.bytes.now) in
    let same : bytes ≡ drop offset c.args.bytes.now = from_offset c.args.bytes.now offset in
    rw c.from_residual.ensures
    (rw same at (marker-none bytes (λ n delimiter start. c.in_err-width.ensures.found (n, delimiter, start))))

pub returns-clause-inside : goal.returns-clause-inside
returns-clause-inside c =
    let bytes = c.args.bytes.now in
    let offset = c.args.offset in
    let inside : c.in_ok-width.width ≤ length bytes - offset =
    omega (
      arith,
      ap length (from_offset bytes offset),
      length-drop offset bytes,
      c.in_ok-width.ensures.within,
    ) in
    omega arith

pub returns-clause-width : goal.returns-clause-width
returns-clause-width c =
    let offset = c.args.offset in
    let bytes = take (length c.args.bytes.now - offset) (drop offset c.args.bytes.now) in
    let short = marker-width
    (take c.in_ok-width.width bytes) c.in_ok-width.delimiter c.in_ok-width.start c.in_ok-width.ensures.found in
    let count = length-take-le c.in_ok-width.width bytes c.in_ok-width.ensures.within in
    omega arith

-- a bullet stands at the offset exactly where the marker has one byte
bullet_is : (bytes : List ℕ) (offset width delimiter start : ℕ) →
    let rest = take (length bytes - offset) (drop offset bytes) in
    IsListMarker (take width rest) delimiter start → width ≤ length rest
    → begins_with is_bullet (drop offset bytes) ≡ (width == 1)
bullet_is bytes offset width delimiter start is within =
    ap (begins_with is_bullet) (sym (from_offset bytes offset))
    ∙ marker-bullet (take (length bytes - offset) (drop offset bytes)) width delimiter start is within

-- so what is known stays or is what a look there leaves
kept_at : (bytes : List ℕ) (offset : ℕ) (known : KnownBreaks) → begins_with is_bullet (drop offset bytes) ≡ false
    → known ≡ learnt_by_marker bytes offset known
kept_at bytes offset known other = rw other refl

looked_at : (bytes : List ℕ) (offset : ℕ) (known new : KnownBreaks) → begins_with is_bullet (drop offset bytes) ≡ true
    → new ≡ learnt_at bytes offset known → new ≡ learnt_by_marker bytes offset known
looked_at bytes offset known new bullet learnt = rw bullet learnt

pub returns-in_err-width-clause-learnt : goal.returns-in_err-width-clause-learnt
returns-in_err-width-clause-learnt c =
    let bytes = c.args.bytes.now in
    let rest = take (length bytes - c.args.offset) (drop c.args.offset bytes) in
    let none = no-bullet rest (λ n delimiter start. c.in_err-width.ensures.found (n, delimiter, start)) in
    kept_at bytes c.args.offset c.args.breaks.now
    (ap (begins_with is_bullet) (sym (from_offset bytes c.args.offset)) ∙ none)

pub returns-then-begins_break-clause-learnt : goal.returns-then-begins_break-clause-learnt
returns-then-begins_break-clause-learnt c =
    let is = bullet_is c.args.bytes.now c.args.offset c.in_ok-width.width c.in_ok-width.delimiter c.in_ok-width.start
    c.in_ok-width.ensures.found c.in_ok-width.ensures.within in
    looked_at c.args.bytes.now c.args.offset c.args.breaks.now c.begins_break.new.self
    (is ∙ ap (λ n. n == 1) c.if-width-eq1.true) c.begins_break.ensures.learnt

pub returns-clause-truth : goal.returns-clause-truth
returns-clause-truth c known = elim c.else-width-eq1.branch [
  | else-width-eq1-via-then-width-eq1+else-begins_break w ↦
      subst (λ breaks. (later : ℕ) → c.args.offset ≤ later → AreTrueBreaks c.args.bytes.now breaks later)
      (sym w.breaks-is) (w.begins_break.ensures.truth known)
  | else-width-eq1-via-else-width-eq1 w ↦
      subst (λ breaks. (later : ℕ) → c.args.offset ≤ later → AreTrueBreaks c.args.bytes.now breaks later)
      (sym w.breaks-is) (λ later forward. breaks_stay c.args.bytes.now c.args.breaks.now c.args.offset later forward known)
]

pub returns-clause-learnt : goal.returns-clause-learnt
returns-clause-learnt c =
    let bytes = c.args.bytes.now in
    let known = c.args.breaks.now in
    let is = bullet_is bytes c.args.offset c.in_ok-width.width c.in_ok-width.delimiter c.in_ok-width.start
    c.in_ok-width.ensures.found c.in_ok-width.ensures.within in
    elim c.else-width-eq1.branch [
      | else-width-eq1-via-then-width-eq1+else-begins_break w ↦
          w.breaks-is ∙ looked_at bytes c.args.offset known w.begins_break.new.self
          (is ∙ ap (λ n. n == 1) w.if-width-eq1.true) w.begins_break.ensures.learnt
      | else-width-eq1-via-else-width-eq1 w ↦ (
          let long : (c.in_ok-width.width == 1) ≡ false = (let other = w.if-width-eq1.false in grind (arith, nat_tests)) in
          w.breaks-is ∙ kept_at bytes c.args.offset known (is ∙ long)
          )
    ]

pub returns-clause-filled : goal.returns-clause-filled
returns-clause-filled c =
    width_filled _ c.in_ok-width.width c.in_ok-width.delimiter c.in_ok-width.start c.in_ok-width.ensures.found

pub returns-clause-marker : goal.returns-clause-marker
returns-clause-marker c = grind (arith, elements)
