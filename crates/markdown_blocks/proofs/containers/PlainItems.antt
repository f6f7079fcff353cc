-- Items that begin with a bullet, one space and text.
use Rattle.std.proofs.Common.{ℕ, Bool, true, false, ◌==◌, ◌≡◌, ◌<◌, ◌+◌, ◌%◌, List}
use Rattle.std.proofs.Common.{◌∷◌, length, drop, get_or, Option, Some, None, refl, sym, subst, ap, ◌∙◌, inl, arith}
use Rattle.std.specs.Prelude.{IfSome, is_some, nat_lt, not, ◌||◌, ◌&&◌, if◌then◌else◌}
use Rattle.std.specs.List.{list_all}
use Rattle.std.proofs.lemmas.Bool.{eqb-true}
use Rattle.std.proofs.lemmas.Bool.Decides.{nat_tests}
use Rattle.std.proofs.lemmas.List.{drop-drop, drop_more, length-drop}
use Rattle.markdown_scanners_tree.specs.Bytes.{is_digit, is_line_ending, line_head, is_space_or_tab, begins_with}
use Rattle.markdown_scanners_tree.specs.line.Outcome.{Outcome, space_or_end_follows}
use Rattle.markdown_scanners_tree.specs.line.State.{LineState, after_space, bytes_further, leading_spaces, rest_of, space_within, unscanned}
use Rattle.markdown_scanners_tree.specs.scanners.Breaks.{is_break_head, is_thematic_break}
use Rattle.markdown_scanners_tree.specs.scanners.list_items.ListMarker.{Marker, bullet_marker, is_bullet, list_marker, ordered_marker}
use Rattle.markdown_scanners_tree.proofs.line.SpaceLemmas.{IsTaken, none_at_front, none_of_byte, one_of_byte, state_of}
use Rattle.markdown_scanners_tree.proofs.line.WrittenLemmas.{head-cons}
use Rattle.markdown_blocks.specs.blank_lines.BlankLines.{is_blank}
use Rattle.markdown_blocks.specs.containers.Containers.{begun_after, item_of}
use Rattle.markdown_blocks.specs.containers.ItemMarkers.{further_spaces, item_outcome, item_outcome_after, item_outcome_by}
use Rattle.markdown_blocks.specs.containers.private.Markers.{IsPlainBullet, is_item_byte}
use Rattle.markdown_blocks.specs.declared.containers.Container.TheVariants.{Item}
use Rattle.markdown_values.specs.declared.values.extensions.Extensions.{Extensions}
use Rattle.markdown_blocks.proofs.containers.ContainerLemmas.{item_given}
use Rattle.markdown_blocks.proofs.containers.MarkerLemmas.{item_begun}

-- a byte of text is no white space
record Word (byte : ℕ) : Type 0 where
  space : (byte == 32) ≡ false
  tab : (byte == 9) ≡ false
  goes : is_line_ending byte ≡ false
  in_line : is_space_or_tab byte ≡ false

word : (byte : ℕ) → 62 < byte → Word byte
word byte more = record {
  space = grind (arith, nat_tests);
  tab = grind (arith, nat_tests);
  goes = grind (arith, nat_tests);
  in_line = grind (arith, nat_tests);
}

-- a bullet is one of three bytes
by_bullet : (P : ℕ → Type 0) → P 45 → P 43 → P 42 → (bullet : ℕ) → is_bullet bullet ≡ true → P bullet
by_bullet P hyphen plus asterisk bullet is = by (bullet == 45) refl
  where
    by_plus : (t : Bool) → (bullet == 43) ≡ t → (bullet == 45) ≡ false → P bullet
    by_plus true at none = rw (eqb-true bullet 43 at) plus
    by_plus false at none = rw (eqb-true bullet 42 (grind (arith, nat_tests))) asterisk

    by : (t : Bool) → (bullet == 45) ≡ t → P bullet
    by true at = rw (eqb-true bullet 45 at) hyphen
    by false at = by_plus (bullet == 43) refl at

-- the head of such a line
head_is : (bullet byte : ℕ) (rest : List ℕ) → is_line_ending bullet ≡ false → Word byte
    → line_head (bullet ∷ 32 ∷ byte ∷ rest) ≡ bullet ∷ 32 ∷ byte ∷ line_head rest
head_is bullet byte rest goes w =
    head-cons bullet (32 ∷ byte ∷ rest) goes ∙ ap (λ bs. bullet ∷ bs) (head-cons 32 (byte ∷ rest) refl)
    ∙ ap (λ bs. bullet ∷ 32 ∷ bs) (head-cons byte rest w.goes)

-- no thematic break begins so
abbrev IsNoBreak : ℕ → List ℕ → ℕ → Type 0
IsNoBreak byte rest bullet = is_thematic_break (bullet ∷ 32 ∷ byte ∷ rest) ≡ false

no_break : (byte : ℕ) (rest : List ℕ) → 62 < byte → (bullet : ℕ) → is_bullet bullet ≡ true → IsNoBreak byte rest bullet
no_break byte rest more =
    let w = word byte more in
    let hyphen : (byte == 45) ≡ false = grind (arith, nat_tests) in
    let asterisk : (byte == 42) ≡ false = grind (arith, nat_tests) in
    by_bullet (IsNoBreak byte rest)
    (ap is_break_head (head_is 45 byte rest refl w) ∙ rw (hyphen, w.space, w.tab) refl)
    (ap is_break_head (head_is 43 byte rest refl w))
    (ap is_break_head (head_is 42 byte rest refl w) ∙ rw (asterisk, w.space, w.tab) refl)

-- the marker of such an item
abbrev plain_marker : ℕ → Marker
plain_marker bullet = record { width = 1; delimiter = bullet; start = 0 }

marked : (byte : ℕ) (rest : List ℕ) → 62 < byte → (bullet : ℕ) → is_bullet bullet ≡ true
    → list_marker (bullet ∷ 32 ∷ byte ∷ rest) ≡ Some (plain_marker bullet)
marked byte rest more bullet is =
    let text = bullet ∷ 32 ∷ byte ∷ rest in
    let found : bullet_marker text ≡ Some (plain_marker bullet) =
    ap (λ t. if t && not (is_thematic_break text) then Some (plain_marker bullet) else None) is
    ∙ ap (λ t. if true && not t then Some (plain_marker bullet) else None) (no_break byte rest more bullet is) in
    ap (λ (m : Option Marker). elim m [ Some marker ↦ Some marker | None ↦ ordered_marker text ]) found

-- the bytes after the first of what is left
pub tail_at : (bytes : List ℕ) (offset b : ℕ) (rest : List ℕ) → drop offset bytes ≡ b ∷ rest → drop (offset + 1) bytes ≡ rest
tail_at bytes offset b rest at = sym (drop-drop 1 offset bytes) ∙ ap (drop 1) at

byte_there : (bytes : List ℕ) (offset b : ℕ) (rest : List ℕ) → drop offset bytes ≡ b ∷ rest → (offset < length bytes) × (get_or bytes offset 0 ≡ b)
byte_there bytes offset b rest at =
    let size : length (drop offset bytes) ≡ length (b ∷ rest) = ap length at in
    let inside : offset < length bytes = omega (arith, size, length-drop offset bytes) in
    let same : get_or bytes offset 0 ∷ drop (offset + 1) bytes ≡ b ∷ rest = sym (drop_more bytes offset 0 inside) ∙ at in
    (inside, (let head : get_or bytes offset 0 ≡ b = cc in head))

module _ (indent : ℕ) (s : LineState) (bullet byte : ℕ) (rest : List ℕ) (is : is_bullet bullet ≡ true) (more : 62 < byte)
    (none : s.pending ≡ 0) (at : unscanned s ≡ bullet ∷ 32 ∷ byte ∷ rest) where
  -- after the marker, and after its space
  abbrev past_marker : LineState
  past_marker = bytes_further 1 s

  abbrev pub past_space : LineState
  past_space = state_of s.bytes (s.offset + 1 + 1) 0 (s.phase + 2)

  space_there : drop (s.offset + 1) s.bytes ≡ 32 ∷ byte ∷ rest
  space_there = tail_at s.bytes s.offset bullet (32 ∷ byte ∷ rest) at

  pub word_there : unscanned past_space ≡ byte ∷ rest
  word_there = tail_at s.bytes (s.offset + 1) 32 (byte ∷ rest) space_there

  one_space : IsTaken 1 1 past_marker past_space
  one_space =
      let there = byte_there s.bytes (s.offset + 1) 32 (byte ∷ rest) space_there in
      let sum : s.phase + 1 + 1 ≡ s.phase + 2 = omega arith in
      subst (λ (c : ℕ). IsTaken 1 1 past_marker (state_of s.bytes (s.offset + 1 + 1) 0 c)) sum
      (one_of_byte s.bytes (s.offset + 1) (s.phase + 1) s.pending 32 1 0 none there.0 there.1 (inl (refl, refl)) refl)

  text_front : begins_with is_space_or_tab (unscanned past_space) ≡ false
  text_front = ap (begins_with is_space_or_tab) word_there ∙ (let w = word byte more in rw (w.space, w.tab) refl)

  no_space : IsTaken 0 0 past_space past_space
  no_space =
      let there = byte_there s.bytes (s.offset + 1 + 1) byte rest word_there in
      none_of_byte s.bytes (s.offset + 1 + 1) (s.phase + 2) 0 0 refl (omega (arith, there.0))
      (none_at_front (unscanned past_space) (s.phase + 2) text_front)

  pub not_blank : is_blank (unscanned past_space) ≡ false
  not_blank =
      let w = word byte more in
      ap is_blank word_there ∙ ap (list_all is_space_or_tab) (head-cons byte rest w.goes)
      ∙ ap (λ t. t && list_all is_space_or_tab (line_head rest)) w.in_line

  -- one space follows the marker
  follows : space_or_end_follows past_marker ≡ true
  follows =
      let some : 1 ≡ space_within 1 past_marker = one_space.answer in
      let there : nat_lt 0 (leading_spaces (rest_of past_marker)) ≡ true = grind (arith, nat_tests) in
      rw there refl

  none_further : further_spaces past_space ≡ 0
  none_further =
      let spaces : leading_spaces (rest_of past_space) ≡ 0 =
      none_at_front (unscanned past_space) ((s.phase + 2) % 4) text_front in
      rw (not_blank, spaces) refl

  abbrev outcome_with : ℕ → LineState → Outcome (ℕ × ℕ × ℕ)
  outcome_with further after = record { answer = Some (bullet, 0, indent + 1 + 1 + further); state = after }

  pub plain_outcome : item_outcome indent s ≡ outcome_with 0 past_space
  plain_outcome =
      ap (item_outcome_by indent s) (ap list_marker at ∙ marked byte rest more bullet is)
      ∙ (let here : item_outcome_by indent s (Some (plain_marker bullet)) ≡ item_outcome_after indent (plain_marker bullet) (after_space 1 past_marker) =
      rw follows refl in here)
      ∙ ap (item_outcome_after indent (plain_marker bullet)) (sym one_space.state)
      ∙ ap (λ n. outcome_with n (after_space n past_space)) none_further
      ∙ ap (outcome_with 0) (sym no_space.state)

-- a plain bullet begins an item
pub plain_given : (indent : ℕ) (s after : LineState) (bullet width : ℕ) → IsPlainBullet bullet (unscanned s) → s.pending ≡ 0
    → after ≡ record { bytes = s.bytes; offset = s.offset + 2; pending = 0; phase = (s.phase + 2) % 4 } → width ≡ indent + 2
    → item_of (item_outcome indent s) ≡ Some (Item (record { delimiter = bullet; start = 0; width = width; starts_blank = false }), after)
plain_given indent s after bullet width (byte, rest, is, more, at) none there wide =
    let two : s.offset + 1 + 1 ≡ s.offset + 2 = omega arith in
    let sum : indent + 1 + 1 + 0 ≡ indent + 2 = omega arith in
    let same : after ≡ past_space indent s bullet byte rest is more none at =
    there ∙ ap (λ p. record { bytes = s.bytes; offset = p; pending = 0; phase = (s.phase + 2) % 4 }) (sym two) in
    let whole = plain_outcome indent s bullet byte rest is more none at in
    item_given (item_outcome indent s) after bullet 0 width false
    (ap (λ n. Some (bullet, 0, n)) (wide ∙ sym sum) ∙ sym (ap (λ (o : Outcome (ℕ × ℕ × ℕ)). o.answer) whole))
    (same ∙ sym (ap (λ (o : Outcome (ℕ × ℕ × ℕ)). o.state) whole))
    (sym (ap (λ z. is_blank (unscanned z)) same ∙ not_blank indent s bullet byte rest is more none at))

-- so does one after less than four columns of space, whatever extensions are on
pub plain_begun : (asked : Extensions) (indent : ℕ) (s : LineState) (bullet : ℕ) → IsPlainBullet bullet (unscanned s) → s.pending ≡ 0
    → (indent == 4) ≡ false → is_some (begun_after asked indent s) ≡ true
plain_begun asked indent s bullet (byte, rest, is, more, at) none near =
    let item : begins_with is_item_byte (unscanned s) ≡ true =
    ap (begins_with is_item_byte) at ∙ ap (λ t. t || is_digit bullet) is in
    ap is_some (item_begun asked indent s item near
    ∙ plain_given indent s _ bullet _ (byte, rest, is, more, at) none refl refl)

pub some_bullet : (found : Option ℕ) (text : List ℕ) → is_some found ≡ true → IfSome found (λ bullet. IsPlainBullet bullet text)
    → (bullet : ℕ) × IsPlainBullet bullet text
some_bullet (Some bullet) text some is = (bullet, is)
some_bullet None text some is = absurd cc
