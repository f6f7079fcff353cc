-- Scans of raw HTML that remember for each kind how far a search is of no more use.
-- (CommonMark 0.31.2, section 6.6, raw HTML)
use Rattle.std.specs.Prelude.{ℕ, ◌+◌, ◌≡◌, ◌≤◌, ◌<◌, Bool, true, nat_le, nat_lt, List, length, Option, Some, None, IfSome, if◌then◌else◌}
use Rattle.memchr.specs.Find.{Nowhere, OccursAt}
use Rattle.markdown_scanners_tree.specs.declared.inline_html.HtmlScanGuard.{HtmlScanGuard}
use Rattle.markdown_scanners_tree.specs.inline_html.CountedText.{CountedBytes, passing}
use Rattle.markdown_scanners_tree.specs.inline_html.InlineHtml.{Kind, Comment, Cdata, Declaration, Processing, Opening, Begins, Hyphen}
use Rattle.markdown_scanners_tree.specs.inline_html.InlineHtml.{Bracket, Nothing, closer, first_closer, closed_at, find_at, cost}

-- the guard has a scan at offset p search for no closer of the kind
abbrev pub is_stopped : HtmlScanGuard → ℕ → Kind → Bool
is_stopped guard p Comment = nat_lt p guard.comment
is_stopped guard p Cdata = nat_lt p guard.cdata
is_stopped guard p Declaration = nat_lt p guard.declaration
is_stopped guard p Processing = nat_le p guard.processing

-- the guard with another number for the kind
abbrev pub with_number : HtmlScanGuard → Kind → ℕ → HtmlScanGuard
with_number guard Comment number = record guard { comment = number }
with_number guard Cdata number = record guard { cdata = number }
with_number guard Declaration number = record guard { declaration = number }
with_number guard Processing number = record guard { processing = number }

-- a kind's number after a search for its closer: the text's length where none was found
abbrev pub number_after : List ℕ → ℕ → Option ℕ → ℕ
number_after text number None = length text
number_after text number (Some hit) = number

-- after a search: the text's length where no closer was found; of a comment's closer the offset of
-- its second hyphen
abbrev pub searched_guard : List ℕ → HtmlScanGuard → Kind → Option ℕ → HtmlScanGuard
searched_guard text guard kind None = with_number guard kind (length text)
searched_guard text guard Comment (Some hit) = record guard { comment = hit + 1 }
searched_guard text guard Cdata (Some hit) = guard
searched_guard text guard Declaration (Some hit) = guard
searched_guard text guard Processing (Some hit) = guard

-- what a scan of what begins at p answers under a guard
abbrev pub guarded_answer : List ℕ → HtmlScanGuard → Opening → ℕ → Option ℕ
guarded_answer text guard (Begins kind) p =
    if is_stopped guard p kind then None
    else closed_at text kind p
guarded_answer text guard Hyphen p = None
guarded_answer text guard Bracket p = None
guarded_answer text guard Nothing p = None

-- the guard that it leaves
abbrev pub guard_after : List ℕ → HtmlScanGuard → Opening → ℕ → HtmlScanGuard
guard_after text guard (Begins kind) p =
    if is_stopped guard p kind then guard
    else searched_guard text guard kind (first_closer text kind p)
guard_after text guard Hyphen p = guard
guard_after text guard Bracket p = guard
guard_after text guard Nothing p = guard

-- The same of what begins at p by `declared_at`, just after `<!`, by `processing_at`, just after
-- `<?`, or by `opening_at`, just after either: what a scan at p answers,
abbrev pub answer_of_scan : (List ℕ → ℕ → Opening) → List ℕ → HtmlScanGuard → ℕ → Option ℕ
answer_of_scan begins text guard p = guarded_answer text guard (begins text p) p

-- the guard that it leaves,
abbrev pub guard_after_scan : (List ℕ → ℕ → Opening) → List ℕ → HtmlScanGuard → ℕ → HtmlScanGuard
guard_after_scan begins text guard p = guard_after text guard (begins text p) p

-- and the text with the bytes that it passes over
abbrev pub text_after_scan : (List ℕ → ℕ → Opening) → CountedBytes → HtmlScanGuard → ℕ → CountedBytes
text_after_scan begins counted guard p =
    passing counted (cost counted.text (is_stopped guard p) (begins counted.text p) p)

-- A guard is true at p: where it stops a kind, no closer of that kind stands at p or later.
abbrev pub IsTrueGuard : List ℕ → HtmlScanGuard → ℕ → Type 0
IsTrueGuard text guard p =
    (kind : Kind) → is_stopped guard p kind ≡ true → Nowhere (OccursAt text (closer kind)) p (length text + 1)

-- A scan at p, just after an opener, answers the find, and leaves the guard true at each later
-- offset that is not below the find.
pub record IsTrueScan (text : List ℕ) (p : ℕ) (answer : Option ℕ) (after : HtmlScanGuard) : Type 0 where
  pub finds : answer ≡ find_at text p
  pub stays_true : (q : ℕ) → p < q → IfSome answer (λ found. found ≤ q) → IsTrueGuard text after q
