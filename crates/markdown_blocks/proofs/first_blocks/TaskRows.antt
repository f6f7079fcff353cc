-- Worked rows: which texts of paragraphs begin with the marker of a task. (GitHub Flavored Markdown 0.29, section 5.3)
use Rattle.std.proofs.Common.{ℕ, ◌≡◌, Bool, true, false, List, [], refl, codes}
use Rattle.std.specs.Prelude.{is_some}
use Rattle.markdown_blocks.specs.declared.blocks.BlockKind.TheVariants.{Paragraph}
use Rattle.markdown_blocks.specs.events.Events.{leaf_of}
use Rattle.markdown_blocks.specs.first_blocks.Tasks.{task_of}

abbrev begins_task : List ℕ → Bool
begins_task text = is_some (task_of (leaf_of Paragraph (record { line = 0; start = 0; words = record { indent = 0; text = text }; lines = [] })))

words_row : begins_task (codes "[ ] a\n") ≡ true
words_row = refl

letter_row : begins_task (codes "[X]\ta") ≡ true
letter_row = refl

later_words_row : begins_task (codes "[x]  a\nb") ≡ true
later_words_row = refl

-- The line has no other content.
alone_row : begins_task (codes "[ ]\n") ≡ false
alone_row = refl

end_row : begins_task (codes "[ ]") ≡ false
end_row = refl

space_row : begins_task (codes "[ ] \t\na") ≡ false
space_row = refl

-- Another byte stands in the brackets.
tab_row : begins_task (codes "[\t] a") ≡ false
tab_row = refl

other_row : begins_task (codes "[y] a") ≡ false
other_row = refl

-- No white space stands after the marker.
joined_row : begins_task (codes "[x]a") ≡ false
joined_row = refl
