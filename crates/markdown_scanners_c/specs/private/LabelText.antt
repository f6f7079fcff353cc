-- What is returned within a scan of a label.
use Rattle.std.specs.Prelude.{ℕ, List, Option, Some, None, ◌≡◌, ◌==◌, if◌then◌else◌}
use Rattle.markdown_scanners_tree.specs.Ascii.{space}
use Rattle.markdown_scanners_tree.specs.Bytes.{begins_with}
use Rattle.markdown_scanners_c.specs.Skips.{is_ascii_front}
use Rattle.markdown_scanners_c.specs.private.Searched.{returned_skip}
use Rattle.markdown_scanners_c.specs.declared.skips.Skip.{Skip}

-- how many bytes of a rest of the text are left out, where they are ASCII
abbrev pub returned_ascii : List Skip → List ℕ → List ℕ → Option ℕ
returned_ascii skips bytes rest =
    if is_ascii_front rest (returned_skip skips bytes rest) then Some (returned_skip skips bytes rest) else None

abbrev pub ReturnedAscii : List Skip → List ℕ → List ℕ → ℕ → Type 0
ReturnedAscii skips bytes rest skip = returned_ascii skips bytes rest ≡ Some skip

-- how many bytes a space at the front takes
abbrev pub space_len : List ℕ → ℕ
space_len bytes = if begins_with (λ b. b == space) bytes then 1 else 0
