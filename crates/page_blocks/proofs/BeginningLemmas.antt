-- Bytes of a page that are printed, with a byte order mark before the first of them.
use Rattle.std.proofs.Common.{ℕ, Bool, List, [], ◌++◌, ◌+◌, ◌≡◌, ◌≤◌, true, false, MatchBool, drop, length, string_bytes}
use Rattle.std.proofs.Common.{refl, sym, ap, ◌∙◌, subst, append-nil}
use Rattle.std.specs.Prelude.{nat_eq, if◌then◌else◌}
use Rattle.std.specs.Cmp.Lexicographic.{pointwise}
use Rattle.std.proofs.lemmas.List.{drop-append-le, drop-drop, take-append-le}
use Rattle.markdown_scanners_tree.specs.scanners.TextLines.{lines_of}
use Rattle.markdown_blocks.proofs.ForCallers.{text_within}
use Rattle.markdown_blocks.specs.byte_order_mark.ByteOrderMark.{byte_order_mark, text_of, text_start}
use Rattle.markdown_values.specs.declared.values.extensions.Extensions.{Extensions}
use Rattle.page_blocks.specs.declared.beginning.PagePrinting.{PagePrinting}
use Rattle.page_blocks.specs.declared.page.Printing.{Printing}
use Rattle.page_blocks.specs.declared.arguments.Form.{Form}
use Rattle.page_blocks.specs.Beginning.{HasPrintedPage, IsFresh, PrintsMore}
use Rattle.page_blocks.specs.Going.{HasPrinted, Prints}
use Rattle.page_blocks.specs.Printed.{Printed, PrintsFront}
use Rattle.page_blocks.specs.Printers.{printed_of}
use Rattle.page_blocks.proofs.PageLemmas.{printing-front}

-- the first three bytes of a page show where its text begins
pub start_shown : (bytes more : List ℕ) → 3 ≤ length bytes → text_start (bytes ++ more) ≡ text_start bytes
start_shown bytes more some =
    ap (λ front. if pointwise nat_eq byte_order_mark front then length byte_order_mark else 0) (take-append-le 3 bytes more some)

pub text_shown : (bytes more : List ℕ) → 3 ≤ length bytes → text_of (bytes ++ more) ≡ drop (text_start bytes) bytes ++ more
text_shown bytes more some =
    ap (λ n. drop n (bytes ++ more)) (start_shown bytes more some) ∙ drop-append-le (text_start bytes) bytes more (text_within bytes)

-- ---- the page is printed as far as bytes that are left

has_page : (printing : PagePrinting) (page written left : List ℕ) → printing.has_begun ≡ true → HasPrinted page written printing.text (lines_of left)
    → HasPrintedPage page written printing left
has_page printing page written left begun has =
    subst (λ b. MatchBool b (HasPrinted page written printing.text (lines_of left)) ((page ≡ left) × IsFresh written printing.text)) (sym begun) has

has_text : (printing : PagePrinting) (page written left : List ℕ) → printing.has_begun ≡ true → HasPrintedPage page written printing left
    → HasPrinted page written printing.text (lines_of left)
has_text printing page written left begun has =
    subst (λ b. MatchBool b (HasPrinted page written printing.text (lines_of left)) ((page ≡ left) × IsFresh written printing.text)) begun has

is_fresh : (printing : PagePrinting) (page written left : List ℕ) → printing.has_begun ≡ false → HasPrintedPage page written printing left
    → (page ≡ left) × IsFresh written printing.text
is_fresh printing page written left not_begun has =
    subst (λ b. MatchBool b (HasPrinted page written printing.text (lines_of left)) ((page ≡ left) × IsFresh written printing.text)) not_begun has

pub is_unbegun : (printing : PagePrinting) (page : List ℕ) → printing.has_begun ≡ false → IsFresh [] printing.text → HasPrintedPage page [] printing page
is_unbegun printing page not_begun fresh =
    subst (λ b. MatchBool b (HasPrinted page [] printing.text (lines_of page)) ((page ≡ page) × IsFresh [] printing.text)) (sym not_begun) (refl, fresh)

-- the text has begun before
pub goes-on : (old new : PagePrinting) (left rest : List ℕ) → old.has_begun ≡ true → new.has_begun ≡ true
    → Prints old.text (lines_of left) new.text (lines_of rest) → PrintsMore old left new rest
goes-on old new left rest begun still prints page written has =
    has_page new page written rest still (prints page written (has_text old page written left begun has))

pub ends-on : (old : PagePrinting) (left : List ℕ) (printed : List ℕ → List ℕ → Type 0) → old.has_begun ≡ true
    → ((page written : List ℕ) → HasPrinted page written old.text (lines_of left) → printed page written)
    → (page written : List ℕ) → HasPrintedPage page written old left → printed page written
ends-on old left printed begun ended page written has = ended page written (has_text old page written left begun has)

-- it begins with these bytes
module _ (old : PagePrinting) (mid : Printing) (bytes : List ℕ) (start : ℕ) (is : start ≡ text_start bytes) (not_begun : old.has_begun ≡ false)
    (begun : (page written : List ℕ) → start ≡ text_start page → IsFresh written old.text → HasPrinted page written mid (lines_of (text_of page))) where
  pub begins-on : (new : PagePrinting) (more : List ℕ) (count : ℕ) → new.has_begun ≡ true → 3 ≤ length bytes
      → Prints mid (lines_of (drop start bytes ++ more)) new.text (lines_of (drop count (drop start bytes) ++ more))
      → PrintsMore old (bytes ++ more) new (drop (start + count) bytes ++ more)
  begins-on new more count still some prints page written has =
      let fresh = is_fresh old page written (bytes ++ more) not_begun has in
      let at : start ≡ text_start page = is ∙ sym (start_shown bytes more some) ∙ ap text_start (sym fresh.0) in
      let there : text_of page ≡ drop start bytes ++ more =
      ap text_of fresh.0 ∙ text_shown bytes more some ∙ ap (λ n. drop n bytes ++ more) (sym is) in
      let first = subst (λ t. HasPrinted page written mid (lines_of t)) there (begun page written at fresh.1) in
      has_page new page written (drop (start + count) bytes ++ more) still
      (subst (λ t. HasPrinted page written new.text (lines_of (t ++ more))) (drop-drop count start bytes) (prints page written first))

  pub ends-whole : (printed : List ℕ → List ℕ → Type 0)
      → ((page written : List ℕ) → HasPrinted page written mid (lines_of (drop start bytes)) → printed page written)
      → (page written : List ℕ) → HasPrintedPage page written old bytes → printed page written
  ends-whole printed ended page written has =
      let fresh = is_fresh old page written bytes not_begun has in
      let there : text_of page ≡ drop start bytes = ap text_of fresh.0 ∙ ap (λ n. drop n bytes) (sym is) in
      ended page written
      (subst (λ t. HasPrinted page written mid (lines_of t)) there (begun page written (is ∙ ap text_start (sym fresh.0)) fresh.1))

-- ---- what is written of a page

-- blocks at its front, or nothing
pub page-printed : (asked : Extensions) (form : Form) (page written longer : List ℕ) (printing : PagePrinting) (left : List ℕ)
    → printing.text.printer.form ≡ form → printing.text.walk.extensions ≡ asked → written ++ string_bytes printing.text.printer.text ≡ longer
    → HasPrintedPage page written printing left → PrintsFront asked form page longer
page-printed asked form page written longer printing left in_form is_asked same has = by printing.has_begun has
  where
    by : (b : Bool) → MatchBool b (HasPrinted page written printing.text (lines_of left)) ((page ≡ left) × IsFresh written printing.text)
        → PrintsFront asked form page longer
    by true goes =
        printing-front asked printing.text.printer.form form page (written ++ string_bytes printing.text.printer.text) longer
        (printed_of printing.text.printer) printing.text.walk (lines_of left) in_form is_asked same goes
    by false (is, (none, lists, walk)) = record {
      pieces = [];
      rest = lines_of (text_of page);
      shown = [];
      are_its_blocks = record { joined = refl; each = tt };
      are_their_events = refl;
      lines = sym same ∙ none;
    }

-- those that are written, where no more are printed
pub page-front : (asked : Extensions) (form : Form) (page written : List ℕ) (printing : PagePrinting) (left : List ℕ)
    → printing.text.printer.form ≡ form → printing.text.walk.extensions ≡ asked → string_bytes printing.text.printer.text ≡ []
    → HasPrintedPage page written printing left → PrintsFront asked form page written
page-front asked form page written printing left in_form is_asked empty has =
    page-printed asked form page written written printing left in_form is_asked (ap (λ t. written ++ t) empty ∙ append-nil written) has

-- what is printed is written, and nothing more is printed yet
pub page-written : (page written : List ℕ) (next cleared : PagePrinting) (left : List ℕ) → cleared.has_begun ≡ next.has_begun
    → cleared.text.printer.form ≡ next.text.printer.form → printed_of cleared.text.printer ≡ printed_of next.text.printer
    → cleared.text.walk ≡ next.text.walk → string_bytes cleared.text.printer.text ≡ [] → HasPrintedPage page written next left
    → HasPrintedPage page (written ++ string_bytes next.text.printer.text) cleared left
page-written page written next cleared left begun_is form_is so_far_is walk_is cleared_is has = by next.has_begun cleared.has_begun begun_is has
  where
    longer : List ℕ
    longer = written ++ string_bytes next.text.printer.text

    same : longer ++ string_bytes cleared.text.printer.text ≡ longer
    same = ap (λ t. longer ++ t) cleared_is ∙ append-nil longer

    by : (b c : Bool) → c ≡ b → MatchBool b (HasPrinted page written next.text (lines_of left)) ((page ≡ left) × IsFresh written next.text)
        → MatchBool c (HasPrinted page longer cleared.text (lines_of left)) ((page ≡ left) × IsFresh longer cleared.text)
    by true true e goes = rw (form_is, so_far_is, walk_is, same) goes
    by false false e (is, (none, lists, walk)) = (is, (same ∙ none, ap (λ (p : Printed). p.lists) so_far_is ∙ lists, rw walk_is walk))
    by true false e has = absurd cc
    by false true e has = absurd cc
