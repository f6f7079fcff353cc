-- What C callers get of the HTML of a page.
use Rattle.std.specs.Prelude.{ℕ, ◌≡◌, ◌≤◌, ◌+◌, ◌*◌, ◌⊎◌, List, length}
use Rattle.std.specs.Str.{IsUtf8, IsValidUpTo}
use Rattle.std.specs.Str.Lossy.{utf8_lossy}
use Rattle.markdown_html.specs.PageHtml.{IsHtmlOf}
use Rattle.markdown_html.specs.Settings.{Setting}
use Rattle.markdown_scanners_c.specs.Answers.{none}
use Rattle.markdown_scanners_c.specs.Buffer.{IsWritten}
use Rattle.markdown_scanners_c.specs.Extensions.{AreBuilt, extensions_of}
use Rattle.markdown_scanners_c.specs.HtmlSettings.{IsKnown, IsStrict, setting_of}
use Rattle.markdown_scanners_c.specs.KnownLabels.{AreTexts}
use Rattle.markdown_scanners_c.specs.Status.{bad_kind, not_utf8, no_memory}
use Rattle.markdown_scanners_c.specs.Texts.{IsNoText}
use Rattle.markdown_scanners_c.specs.declared.html_settings.AskedHtml.{AskedHtml}
use Rattle.markdown_scanners_c.specs.declared.texts.Text.{Text}

-- Memory was refused; or the HTML of the page by this setting is written. Where the page is not UTF-8 each part of it that is wrong is read
-- as U+FFFD: the longest that begins a character, or else one byte. (Encoding standard, the UTF-8 decoder with the error mode "replacement")
abbrev pub IsHtmlAnswer : List ℕ → ℕ → Setting → List ℕ → List ℕ → Text → Type 0
IsHtmlAnswer page bits setting old new answer =
    (IsNoText no_memory answer × (new ≡ old))
    ⊎ ((html : List ℕ) × IsHtmlOf (utf8_lossy page) (extensions_of bits) setting html
    × (answer.taken ≡ length page) × IsWritten html old new answer.status answer.length)

-- No page has more HTML than so many bytes for each of its own, which U+FFFD may make three, and so many more for a short one: `FitsPage`.
abbrev pub HasFewBytes : List ℕ → Text → Type 0
HasFewBytes page answer = answer.length ≤ 657 * length page + 3100000

-- Some extension is not built; or memory was refused; or the HTML of the page by this setting is written.
unfoldable pub IsHtmlReturned : List ℕ → ℕ → Setting → List ℕ → List ℕ → Text → Type 0
IsHtmlReturned page bits setting old new answer =
    (IsNoText bad_kind answer × (new ≡ old) × ¬ (AreBuilt bits))
    ⊎ (AreBuilt bits × IsHtmlAnswer page bits setting old new answer)

-- A page is read that is UTF-8, and every page of a caller who is not strict.
abbrev pub IsRead : List ℕ → AskedHtml → Type 0
IsRead page asked = IsStrict asked → IsUtf8 page

-- What is refused is not UTF-8: the page, and the offset of its first byte that is wrong is returned; or a scheme.
abbrev pub IsRefusedAt : List ℕ → AskedHtml → ℕ → Type 0
IsRefusedAt page asked taken =
    (IsStrict asked × ¬ (IsUtf8 page) × IsValidUpTo page taken)
    ⊎ (IsRead page asked × ¬ (AreTexts asked.schemes.now) × (taken ≡ none))

-- The same by what a caller asks for, whose numbers have to be known too, and its schemes UTF-8; and of a strict caller the page.
unfoldable pub IsAskedHtmlReturned : List ℕ → ℕ → AskedHtml → List ℕ → List ℕ → Text → Type 0
IsAskedHtmlReturned page bits asked old new answer =
    (IsNoText bad_kind answer × (new ≡ old) × ¬ (AreBuilt bits × IsKnown asked))
    ⊎ ((answer.status ≡ not_utf8) × (answer.length ≡ 0) × (new ≡ old) × AreBuilt bits × IsKnown asked
    × IsRefusedAt page asked answer.taken)
    ⊎ (AreBuilt bits × IsKnown asked × IsRead page asked × AreTexts asked.schemes.now
    × IsHtmlAnswer page bits (setting_of asked) old new answer)
