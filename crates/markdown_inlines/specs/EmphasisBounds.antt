-- How the search for an opener stops early: of each kind of closer some of the openers are known not to fit it. (CommonMark 0.31.2,
-- "Parsing strategy", phase 2, `openers_bottom`)
use Rattle.std.specs.Prelude.{ℕ, ◌==◌, ◌%◌, ◌+◌, ◌*◌, ◌<◌, ◌≤◌, ◌≡◌, ◌⊎◌, min, List, length, take, reverse, get_or, None, if◌then◌else◌}
use Rattle.std.specs.List.{All}
use Rattle.markdown_scanners_tree.specs.Ascii.{asterisk, underscore, tilde}
use Rattle.markdown_inlines.specs.declared.delimiter_runs.DelimiterRun.{DelimiterRun}
use Rattle.markdown_inlines.specs.declared.emphasis.Delimiters.{Delimiters}
use Rattle.markdown_inlines.specs.Emphasis.{nearest}

-- it is a run of one of the two delimiters, or of tildes
abbrev pub IsOfDelimiters : DelimiterRun → Type 0
IsOfDelimiters run = ((run.byte ≡ asterisk) ⊎ (run.byte ≡ underscore)) ⊎ (run.byte ≡ tilde)

abbrev pub AreOfDelimiters : List Delimiters → Type 0
AreOfDelimiters runs = All (λ run. IsOfDelimiters run.run) runs

-- each of the openers has delimiters left
abbrev pub AreLeft : List Delimiters → Type 0
AreLeft openers = All (λ opener. opener.start < opener.end) openers

-- the kind of a closer: openers that fit one of a kind fit each
abbrev pub kind_of : DelimiterRun → ℕ
kind_of run =
    if run.byte == tilde then 12 + min run.count 3
    else 4 * (run.count % 3) + (if run.byte == underscore then 2 else 0) + (if run.can_open then 1 else 0)

-- of each kind so many of the outermost openers, which stand first here, fit no closer of it
pub record ArePassed (passed : List ℕ) (openers : List Delimiters) : Type 0 where
  pub kinds : length passed ≡ 16
  pub few : (kind : ℕ) → get_or passed kind 0 ≤ length openers
  pub none : (closer : DelimiterRun) → IsOfDelimiters closer
      → nearest closer (reverse (take (get_or passed (kind_of closer) 0) openers)) ≡ None
