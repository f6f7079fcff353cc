-- Info strings of fenced code. (CommonMark 0.31.2, section 4.5, fenced code blocks)
use Rattle.std.specs.Prelude.{ℕ, ◌==◌, ◌-◌, List, length, take, drop}
use Rattle.std.specs.List.{prefix_len, suffix_len}
use Rattle.markdown_scanners_tree.specs.Bytes.{is_space_or_tab, line_head}

-- without the spaces and tabs at its front
abbrev pub without_front : List ℕ → List ℕ
without_front bytes = drop (prefix_len is_space_or_tab bytes) bytes

-- without the spaces and tabs at its end
abbrev pub without_end : List ℕ → List ℕ
without_end bytes = take (length bytes - suffix_len is_space_or_tab bytes) bytes

-- what stands after a run of this byte
abbrev pub after_fence : ℕ → List ℕ → List ℕ
after_fence byte bytes = drop (prefix_len (λ b. b == byte) bytes) bytes

-- The info string where a fence of this byte opens code, and this is the rest of its line: what stands after the fence,
-- without the spaces and tabs at both ends.
abbrev pub info_of : ℕ → List ℕ → List ℕ
info_of byte fence = without_end (without_front (line_head (after_fence byte fence)))
