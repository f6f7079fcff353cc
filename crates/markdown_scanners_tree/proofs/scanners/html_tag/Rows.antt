-- Worked instances of tags and kept texts.
use Rattle.std.proofs.Common.{ℕ, List, [], ◌∷◌, ◌++◌, ◌≡◌, false, refl, codes}
use Rattle.markdown_scanners_tree.specs.Ascii.{tab, line_feed, carriage_return}
use Rattle.markdown_scanners_tree.specs.Kept.{kept_text, line_endings}
use Rattle.markdown_scanners_tree.specs.scanners.html_tag.KeptTag.{offset_after, tag_buffer}
use Rattle.markdown_scanners_tree.specs.scanners.tag_state.private.TagMachine.{state_after, is_tag_end}
use Rattle.markdown_scanners_tree.specs.declared.scanners.tag_state.TagState.TheVariants.{Start}
use Rattle.markdown_scanners_tree.proofs.scanners.tag_state.TagEnds.{IsTagOf, tag_exactly}

foo_bar : IsTagOf (codes "<foo bar>") 0
foo_bar = (tag_exactly _ _).1 refl

unquoted_slash : IsTagOf (codes "<a b=c/>") 0
unquoted_slash = (tag_exactly _ _).1 refl

spaced_equals : IsTagOf (codes "<a b = c>") 0
spaced_equals = (tag_exactly _ _).1 refl

quoted_over_lines : IsTagOf (codes "<a b='x" ++ line_feed ∷ codes "y'>") 1
quoted_over_lines = (tag_exactly _ _).1 refl

closing : IsTagOf (codes "</a >") 0
closing = (tag_exactly _ _).1 refl

closing_over_lines : IsTagOf (codes "</a " ++ line_feed ∷ codes " >") 1
closing_over_lines = (tag_exactly _ _).1 refl

-- bytes with which the scanner does not come to an end of a tag are none
no_tag : (bytes : List ℕ) (endings : ℕ) → is_tag_end (state_after Start bytes) endings ≡ false → ¬ IsTagOf bytes endings
no_tag bytes endings none t = let whole = (tag_exactly bytes endings).0 t in cc

slash_before_space : ¬ IsTagOf (codes "<a/ >") 0
slash_before_space = no_tag _ _ refl

no_value : ¬ IsTagOf (codes "<a b=>") 0
no_value = no_tag _ _ refl

tab_for_a_value : ¬ IsTagOf (codes "<a b=" ++ tab ∷ codes ">") 0
tab_for_a_value = no_tag _ _ refl

digit_for_a_name : ¬ IsTagOf (codes "<1>") 0
digit_for_a_name = no_tag _ _ refl

-- a shorter unquoted value would leave room for a second attribute, but the longest run is taken
longest_value : ¬ IsTagOf (codes "<a b=c" ++ tab ∷ codes "d=e>") 0
longest_value = no_tag _ _ refl

two_endings : ¬ IsTagOf (codes "</a" ++ line_feed ∷ line_feed ∷ codes ">") 2
two_endings = no_tag _ _ refl

-- CR and LF with skipped bytes between them are two line endings of the source
parted_ending : ¬ IsTagOf (codes "</a" ++ carriage_return ∷ line_feed ∷ codes ">") 2
parted_ending = no_tag _ _ refl

parted_count : line_endings (kept_text (codes "a" ++ carriage_return ∷ codes "X" ++ line_feed ∷ codes "b") (1 ∷ 0 ∷ []))
    ≡ 2
parted_count = refl

joined_count : line_endings (kept_text (codes "a" ++ carriage_return ∷ line_feed ∷ codes "b") (0 ∷ [])) ≡ 1
joined_count = refl

-- the kept text of "<foo\n> bar>" with the skip 2: its text, and the offset after it
text_over_lines : tag_buffer (kept_text (codes "<foo" ++ line_feed ∷ codes "> bar>") (2 ∷ []))
    ≡ codes "<foo" ++ line_feed ∷ codes "bar>"
text_over_lines = refl

offset_over_lines : offset_after 0 (kept_text (codes "<foo" ++ line_feed ∷ codes "> bar>") (2 ∷ [])) ≡ 11
offset_over_lines = refl

nothing_skipped : tag_buffer (kept_text (codes "<a" ++ carriage_return ∷ line_feed ∷ codes ">") (0 ∷ [])) ≡ []
nothing_skipped = refl
