use Rattle.std.proofs.Common.{List, ℕ, [], ◌++◌, ◌≡◌, ◌≤◌, true, false, IsTrue, Bool, MatchBool, take, drop, length, string_bytes}
use Rattle.std.proofs.Common.{refl, sym, ap, ◌∙◌, subst, arith, append_assoc, append-nil}
use Rattle.std.proofs.lemmas.List.{drop_all, length-take-le}
use Rattle.markdown_scanners_tree.specs.scanners.TextLines.{lines_of}
use Rattle.page_blocks.specs.declared.page.Printing.{Printing}
use Rattle.page_blocks.specs.Going.{HasPrinted, Prints}
use Rattle.page_blocks.specs.Printed.{PrintsPage, last_lines}
use Rattle.page_blocks.specs.Printers.{printed_of}
use Rattle.page_blocks.proofs.PageLemmas.{printing-page}
use Rattle.markdown_blocks.specs.taken.Whole.{AreWhole}
use Rattle.markdown_blocks.proofs.whole.WholeLemmas.{front_cut}
use Rattle.page_blocks.proofs.page.Printing.print.Goals as goal

-- nothing is after the text where the input has ended
nothing_after : (text more : List ℕ) (size : ℕ) (has_ended : Bool) → MatchBool has_ended (size ≡ length text) (AreWhole text size)
    → (IsTrue has_ended → more ≡ []) → IsTrue has_ended → lines_of (drop size text ++ more) ≡ []
nothing_after text more size true all none ended = rw (none refl, drop_all size text (omega (arith, all))) refl
nothing_after text more size false whole none ended = cc

-- what is printed of the lines at the front is printed of the text
printed_text : (old new : Printing) (text front : List ℕ) (size count : ℕ) (has_ended : Bool) → MatchBool has_ended (size ≡ length text) (AreWhole text size)
    → size ≤ length text → front ≡ take size text
    → ((more : List (List ℕ)) → (IsTrue has_ended → more ≡ []) → Prints old (lines_of front ++ more) new (lines_of (drop count front) ++ more))
    → count ≤ length front → (more : List ℕ) → (IsTrue has_ended → more ≡ [])
    → Prints old (lines_of (text ++ more)) new (lines_of (drop count text ++ more))
printed_text old new text front size count has_ended whole fits is printed within more none page written goes =
    let rest : List (List ℕ) = lines_of (drop size text ++ more) in
    let few : count ≤ size = omega (arith, within, ap length is, length-take-le size text fits) in
    let first = subst (λ lines. HasPrinted page written old lines) (front_cut text more size has_ended whole none 0 (omega arith)
    ∙ ap (λ f. lines_of f ++ rest) (sym is)) goes in
    subst (λ lines. HasPrinted page written new lines) (ap (λ f. lines_of (drop count f) ++ rest) is
    ∙ sym (front_cut text more size has_ended whole none count few))
    (printed rest (nothing_after text more size has_ended whole none) page written first)

-- all of the text is at the front where the input has ended
all_in_front : (X : Type 0) (has_ended : Bool) (size all : ℕ) → MatchBool has_ended (size ≡ all) X → has_ended ≡ true → size ≡ all
all_in_front X true size all is ended = is
all_in_front X false size all is ended = cc

-- the page is printed to its end
ended_page : (old mid : Printing) (text longer : List ℕ) (count depth : ℕ) → length text ≤ count → mid.printer.form ≡ old.printer.form
    → mid.walk.extensions ≡ old.walk.extensions
    → ((page written : List ℕ) → HasPrinted page written old (lines_of (text ++ [])) → HasPrinted page written mid (lines_of (drop count text ++ [])))
    → depth ≡ length mid.walk.containers → longer ≡ string_bytes mid.printer.text ++ last_lines mid.printer.form (printed_of mid.printer) depth
    → (page written : List ℕ) → HasPrinted page written old (lines_of text) → PrintsPage old.walk.extensions old.printer.form page (written ++ longer)
ended_page old mid text longer count depth all same on goes_on counted prints page written goes =
    let here : HasPrinted page written mid [] = rw (drop_all count text all) at
    (goes_on page written (subst (λ t. HasPrinted page written old (lines_of t)) (sym (append-nil text)) goes)) in
    subst (λ a. PrintsPage a old.printer.form page (written ++ longer)) on (subst (λ f. PrintsPage mid.walk.extensions f page (written ++ longer)) same
    (printing-page mid.printer.form page (written ++ string_bytes mid.printer.text) (written ++ longer) (printed_of mid.printer) mid.walk
    (ap (λ t. written ++ t) prints ∙ sym (append_assoc written (string_bytes mid.printer.text) _)
    ∙ ap (λ n. (written ++ string_bytes mid.printer.text) ++ last_lines mid.printer.form (printed_of mid.printer) n) counted) here))

pub returns-else-has_ended-clause-printed : goal.returns-else-has_ended-clause-printed
returns-else-has_ended-clause-printed c = λ other more.
    printed_text c.args.self.now c.print_lines.new.self c.args.text.now c.split_at.result.0.now c.front_of.result c.in_ok-count.count c.args.has_ended
    c.front_of.ensures.front c.front_of.ensures.within c.split_at.ensures.front c.in_ok-count.ensures.printed c.in_ok-count.ensures.within
    more (λ ended. absurd (other ended))

pub returns-in_ok-print_end-clause-ended : goal.returns-in_ok-print_end-clause-ended
returns-in_ok-print_end-clause-ended c = λ ended.
    let size : c.front_of.result ≡ length c.args.text.now = all_in_front _ c.args.has_ended c.front_of.result (length c.args.text.now)
    c.front_of.ensures.front ended in
    let front : length c.split_at.result.0.now ≡ c.front_of.result =
    ap length c.split_at.ensures.front ∙ length-take-le c.front_of.result c.args.text.now c.front_of.ensures.within in
    ended_page c.args.self.now c.print_lines.new.self c.args.text.now (string_bytes c.print_end.new.self.text) c.in_ok-count.count (length c.containers-depth.result.now)
    (omega (arith, size, front, c.in_ok-count.ensures.all ended)) c.in_ok-count.ensures.form c.in_ok-count.ensures.asked
    (printed_text c.args.self.now c.print_lines.new.self c.args.text.now c.split_at.result.0.now c.front_of.result c.in_ok-count.count c.args.has_ended
    c.front_of.ensures.front c.front_of.ensures.within c.split_at.ensures.front c.in_ok-count.ensures.printed c.in_ok-count.ensures.within
    [] (λ over. refl)) (ap length c.containers-depth.ensures.containers) c.in_ok-print_end.ensures.lines
