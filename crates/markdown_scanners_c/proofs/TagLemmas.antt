-- Tags under two handlers of which one gives all answers of the other, and how long their texts are.
use Rattle.std.proofs.Common.{ℕ, true, List, [], ◌∷◌, ◌++◌, ◌+◌, ◌-◌, ◌≤◌, ◌≡◌, ◌==◌, drop, length, inl, inr, refl, ◌∙◌, subst, arith}
use Rattle.std.proofs.lemmas.Bool.{cases_Bool}
use Rattle.std.proofs.lemmas.List.{length-map}
use Rattle.markdown_scanners_tree.specs.Kept.{KeptByte, AreSkips, line_len}
use Rattle.markdown_scanners_tree.specs.scanners.html_tag.KeptTag.{IsKeptTag, offset_after, tag_buffer}
use Rattle.markdown_scanners_tree.proofs.RisingBytes.{Rises, kept_rises, rises_front, rises_length}
use Rattle.markdown_scanners_c.specs.Skips.{are_skips, left_out, LeavesOut}
use Rattle.markdown_scanners_c.specs.private.Searched.{returned_skip}
use Rattle.markdown_scanners_c.specs.declared.skips.Skip.{Skip}
use Rattle.markdown_scanners_c.proofs.SameKept.{AgreeOnRests, kept_too}
use Rattle.markdown_scanners_c.proofs.SkipLemmas.{finds}

module _ (answers more : List ℕ → ℕ → Type 0) (gives : (rest : List ℕ) (skip : ℕ) → answers rest skip → more rest skip) where
  skips_of_more : (source skips : List ℕ) → AreSkips answers source skips → AreSkips more source skips
  skips_of_more source [] answered = tt
  skips_of_more source (skip ∷ skips) answered =
      let later = skips_of_more (drop (line_len source + skip) source) skips answered.2 in
      (answered.0, gives _ skip answered.1, later)

  pub tag_of_more : (source : List ℕ) (tag : List KeptByte) → IsKeptTag answers source tag → IsKeptTag more source tag
  tag_of_more source tag is = record {
    kept = record {
      skips = is.kept.skips;
      rest = is.kept.rest;
      answered = skips_of_more source is.kept.skips is.kept.answered;
      begins = is.kept.begins;
    };
    tag = is.tag;
  }

pub tag_too : (bytes : List ℕ) (answers others : List ℕ → ℕ → Type 0) → AgreeOnRests bytes answers others → (p : ℕ)
    (tag : List KeptByte) → IsKeptTag answers (drop p bytes) tag → IsKeptTag others (drop p bytes) tag
tag_too bytes answers others agree p tag is =
    let too = kept_too bytes answers others agree 0 p is.kept.skips is.kept.answered in
    record {
      kept = record { skips = too.0; rest = is.kept.rest; answered = too.1; begins = too.2 ∙ is.kept.begins };
      tag = is.tag;
    }

-- what a search tells, and what a table in order leaves out
abbrev pub Returned : List Skip → List ℕ → List ℕ → ℕ → Type 0
Returned skips bytes rest skip = skip ≡ returned_skip skips bytes rest

module _ (skips : List Skip) (bytes after : List ℕ) (stand : are_skips skips (bytes ++ after) ≡ true) where
  pub returned_is_left_out : AgreeOnRests bytes (Returned skips bytes) (LeavesOut skips bytes)
  returned_is_left_out p n returned =
      let offset = length bytes - length (drop p bytes) in
      (left_out skips offset, refl, omega (arith, returned, finds skips bytes after stand offset))

  pub left_out_is_returned : AgreeOnRests bytes (LeavesOut skips bytes) (Returned skips bytes)
  left_out_is_returned p n leaves =
      let rest = drop p bytes in
      (returned_skip skips bytes rest, refl, omega (arith, leaves, finds skips bytes after stand (length bytes - length rest)))

-- ---- how long the text of a tag is

buffer_room : (tag : List KeptByte) → length tag ≤ offset_after 0 tag → length (tag_buffer tag) ≤ offset_after 0 tag
buffer_room tag room = elim (cases_Bool (offset_after 0 tag == length tag)) [
  | inl whole ↦ rw whole (omega arith)
  | inr less ↦ rw less (omega (arith, room, length-map tag (λ (k : KeptByte). k.byte)))
]

-- the text that is made of a tag is no longer than the tag
pub tag_room : (answers : List ℕ → ℕ → Type 0) (source : List ℕ) (tag : List KeptByte) → IsKeptTag answers source tag
    → length (tag_buffer tag) ≤ offset_after 0 tag
tag_room answers source tag is =
    let rises = rises_front 0 tag is.kept.rest (subst (Rises 0) is.kept.begins (kept_rises 0 source is.kept.skips)) in
    buffer_room tag (omega (arith, rises_length 0 tag rises))
