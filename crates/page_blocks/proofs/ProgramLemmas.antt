-- A page that is printed while it is read.
use Rattle.std.proofs.Common.{ℕ, Bool, true, false, IsTrue, List, [], ◌++◌, ◌≡◌, Option, string_bytes, drop}
use Rattle.std.proofs.Common.{inl, refl, sym, ap, ◌∙◌, subst, append_assoc, append-nil}
use Rattle.std.specs.Io.KnownBytes.{Consumes, Appends, IsAtEnd, append_known}
use Rattle.markdown_scanners_tree.specs.scanners.TextLines.{lines_of}
use Rattle.markdown_blocks.specs.blocks.Pages.{root}
use Rattle.markdown_blocks.specs.byte_order_mark.ByteOrderMark.{text_of, text_start}
use Rattle.markdown_values.specs.declared.values.extensions.Extensions.{Extensions}
use Rattle.page_blocks.specs.declared.beginning.PagePrinting.{PagePrinting}
use Rattle.page_blocks.specs.declared.arguments.Form.{Form}
use Rattle.page_blocks.specs.Beginning.{HasPrintedPage, PrintsMore}
use Rattle.page_blocks.specs.Printed.{PrintsPage, PrintsFront, IsPrintedTo, IsBegunTo, front_of}
use Rattle.markdown_blocks.specs.containers.Containers.{Between}
use Rattle.page_blocks.specs.Printers.{printed_of}
use Rattle.page_blocks.proofs.BeginningLemmas.{page-front, page-printed, page-written}
use Rattle.page_blocks.proofs.PageLemmas.{printing-first, printing-front}
use Rattle.program_faults.specs.Faults.{AppendsPrefix}
use Rattle.page_programs.specs.Cuts.{PrintsAllOf, PrintsPart}
use Rattle.page_programs.proofs.CutLemmas.{appends-known, begun-cut, front-after, front-more}
use Rattle.page_programs.proofs.ReadingLemmas.{consumes-none, consumes-more, appends-more, whole_input}

-- What was read, and what was written of it after the title: with the lines that are not yet written, it prints what was read as far
-- as the text that is left.
pub record Begun (asked : Extensions) (form : Form) (title : List ℕ) (input left old new : Option (List ℕ)) (printing : PagePrinting)
    (text : List ℕ) : Type 0 where
  pub read : List ℕ
  pub written : List ℕ
  pub consumed : Consumes input left read
  pub appended : Appends old new (title ++ written)
  pub goes : (more : List ℕ) → HasPrintedPage (read ++ more) written printing (text ++ more)
  pub in_form : printing.text.printer.form ≡ form
  pub is_asked : printing.text.walk.extensions ≡ asked

module _ (asked : Extensions) (form : Form) (title : List ℕ) (input old : Option (List ℕ)) where
  pub begun-first : (new : Option (List ℕ)) (printing : PagePrinting) (text : List ℕ) → Appends old new title → text ≡ []
      → ((page : List ℕ) → HasPrintedPage page [] printing page) → printing.text.printer.form ≡ form → printing.text.walk.extensions ≡ asked
      → Begun asked form title input input old new printing text
  begun-first new printing text entitled empty printed same on = record {
    read = [];
    written = [];
    consumed = consumes-none input;
    appended = subst (Appends old new) (sym (append-nil title)) entitled;
    goes = λ more. subst (λ t. HasPrintedPage more [] printing (t ++ more)) (sym empty) (printed more);
    in_form = same;
    is_asked = on;
  }

  pub begun-read : (left less new : Option (List ℕ)) (printing : PagePrinting) (text longer bytes : List ℕ)
      → Begun asked form title input left old new printing text → Consumes left less bytes → longer ≡ text ++ bytes
      → Begun asked form title input less old new printing longer
  begun-read left less new printing text longer bytes b consumes grown = record {
    read = b.read ++ bytes;
    written = b.written;
    consumed = consumes-more input left less b.read bytes b.consumed consumes;
    appended = b.appended;
    goes = λ more. subst (λ t. HasPrintedPage ((b.read ++ bytes) ++ more) b.written printing (t ++ more)) (sym grown)
        (subst (λ t. HasPrintedPage ((b.read ++ bytes) ++ more) b.written printing t) (sym (append_assoc text bytes more))
        (subst (λ p. HasPrintedPage p b.written printing (text ++ (bytes ++ more))) (sym (append_assoc b.read bytes more)) (b.goes (bytes ++ more))));
    in_form = b.in_form;
    is_asked = b.is_asked;
  }

  appended-more : (new longer : Option (List ℕ)) (written lines : List ℕ) → Appends old new (title ++ written) → Appends new longer lines
      → Appends old longer (title ++ (written ++ lines))
  appended-more new longer written lines first next =
      subst (Appends old longer) (append_assoc title written lines) (appends-more old new longer (title ++ written) lines first next)

  -- what is printed of it is written, and nothing more is printed yet
  pub begun-written : (left new longer : Option (List ℕ)) (printing next cleared : PagePrinting) (text rest : List ℕ) (count : ℕ)
      → Begun asked form title input left old new printing text → string_bytes printing.text.printer.text ≡ []
      → ((more : List ℕ) → PrintsMore printing (text ++ more) next (drop count text ++ more))
      → next.text.printer.form ≡ printing.text.printer.form → next.text.walk.extensions ≡ printing.text.walk.extensions
      → Appends new longer (string_bytes next.text.printer.text) → cleared.has_begun ≡ next.has_begun
      → cleared.text.printer.form ≡ next.text.printer.form → printed_of cleared.text.printer ≡ printed_of next.text.printer
      → cleared.text.walk ≡ next.text.walk
      → string_bytes cleared.text.printer.text ≡ [] → rest ≡ drop count text → Begun asked form title input left old longer cleared rest
  begun-written left new longer printing next cleared text rest count b empty prints same on writes begun_is form_is so_far_is walk_is cleared_is
      rest_is = record {
        read = b.read;
        written = b.written ++ string_bytes next.text.printer.text;
        consumed = b.consumed;
        appended = appended-more new longer b.written (string_bytes next.text.printer.text) b.appended writes;
        goes = λ more. rw rest_is (page-written (b.read ++ more) b.written next cleared (drop count text ++ more) begun_is form_is so_far_is walk_is cleared_is
            (prints more (b.read ++ more) b.written (b.goes more)));
        in_form = form_is ∙ same ∙ b.in_form;
        is_asked = ap (λ (o : Between). o.extensions) walk_is ∙ on ∙ b.is_asked;
      }

  -- a fault of the reader or of memory
  pub begun-stopped : (left new : Option (List ℕ)) (printing : PagePrinting) (text : List ℕ) → Begun asked form title input left old new printing text
      → string_bytes printing.text.printer.text ≡ [] → IsBegunTo asked form title input left old new
  begun-stopped left new printing text b empty = (b.read, b.consumed, b.written, front, b.appended)
    where
      front : (more : List ℕ) → PrintsFront asked form (b.read ++ more) b.written
      front more = page-front asked form (b.read ++ more) b.written printing (text ++ more) b.in_form b.is_asked empty (b.goes more)

  -- the whole page is printed
  pub begun-done : (left new longer : Option (List ℕ)) (printing next : PagePrinting) (text : List ℕ) → Begun asked form title input left old new printing text
      → ((page written : List ℕ) → HasPrintedPage page written printing text
      → PrintsPage printing.text.walk.extensions printing.text.printer.form page (written ++ string_bytes next.text.printer.text))
      → Appends new longer (string_bytes next.text.printer.text) → IsAtEnd left → PrintsAllOf (IsPrintedTo asked form title) input old longer
  begun-done left new longer printing next text b prints writes end = (
    b.read,
    whole_input input left b.read b.consumed end,
    (
      b.written ++ string_bytes next.text.printer.text,
      subst (λ p. PrintsPage asked form p (b.written ++ string_bytes next.text.printer.text)) (append-nil b.read) printed,
      appended-more new longer b.written (string_bytes next.text.printer.text) b.appended writes,
    ),
  )
    where
      printed : PrintsPage asked form (b.read ++ []) (b.written ++ string_bytes next.text.printer.text)
      printed =
          subst (λ a. PrintsPage a form (b.read ++ []) (b.written ++ string_bytes next.text.printer.text)) b.is_asked
          (subst (λ f. PrintsPage printing.text.walk.extensions f (b.read ++ []) (b.written ++ string_bytes next.text.printer.text)) b.in_form
          (prints (b.read ++ []) b.written (subst (λ t. HasPrintedPage (b.read ++ []) b.written printing t) (append-nil text) (b.goes []))))

  front-lines : (new longer : Option (List ℕ)) (written lines : List ℕ) → Appends old new (title ++ written) → AppendsPrefix new longer lines
      → AppendsPrefix old longer (title ++ (written ++ lines))
  front-lines new longer written lines first next =
      subst (AppendsPrefix old longer) (append_assoc title written lines) (front-after old new longer (title ++ written) lines first next)

  -- before anything is read nothing is printed after the title
  pub nothing-begun : IsBegunTo asked form title input input old (append_known old (title ++ []))
  nothing-begun = ([], consumes-none input, [], front, appends-known old (title ++ []))
    where
      front : (more : List ℕ) → PrintsFront asked form ([] ++ more) []
      front more =
          printing-front asked form form more [] [] (front_of (text_start more)) (root asked) (lines_of (text_of more)) refl refl refl
          (printing-first form more (front_of (text_start more)) (root asked) [] refl refl refl)

  -- The title can't be written.
  pub cut-title : (new : Option (List ℕ)) → AppendsPrefix old new title
      → PrintsPart (IsPrintedTo asked form title) (IsBegunTo asked form title) input input old new
  cut-title new front =
      begun-cut (IsPrintedTo asked form title) (IsBegunTo asked form title) (title ++ []) input input old new nothing-begun (front-more old new title [] front)

  -- The lines of what was read can't be written.
  pub cut-lines : (has_ended : Bool) (left new longer : Option (List ℕ)) (printing next : PagePrinting) (text : List ℕ) (count : ℕ)
      → Begun asked form title input left old new printing text → AppendsPrefix new longer (string_bytes next.text.printer.text)
      → (¬ IsTrue has_ended → (more : List ℕ) → PrintsMore printing (text ++ more) next (drop count text ++ more))
      → next.text.printer.form ≡ printing.text.printer.form → next.text.walk.extensions ≡ printing.text.walk.extensions
      → (IsTrue has_ended → (page written : List ℕ) → HasPrintedPage page written printing text
      → PrintsPage printing.text.walk.extensions printing.text.printer.form page (written ++ string_bytes next.text.printer.text))
      → (IsTrue has_ended → IsAtEnd left) → PrintsPart (IsPrintedTo asked form title) (IsBegunTo asked form title) input left old longer
  cut-lines true left new longer printing next text count b front prints same on ends at_end = (
    append_known new (string_bytes next.text.printer.text),
    inl (begun-done left new (append_known new (string_bytes next.text.printer.text)) printing next text b (ends refl) all (at_end refl)),
    (
      title ++ (b.written ++ string_bytes next.text.printer.text),
      appended-more new (append_known new (string_bytes next.text.printer.text)) b.written (string_bytes next.text.printer.text) b.appended all,
      front-lines new longer b.written (string_bytes next.text.printer.text) b.appended front,
    ),
  )
    where
      all : Appends new (append_known new (string_bytes next.text.printer.text)) (string_bytes next.text.printer.text)
      all = appends-known new (string_bytes next.text.printer.text)
  cut-lines false left new longer printing next text count b front prints same on ends at_end =
      begun-cut (IsPrintedTo asked form title) (IsBegunTo asked form title) (title ++ lines) input left old longer
      (b.read, b.consumed, lines, begun, appends-known old (title ++ lines))
      (front-lines new longer b.written (string_bytes next.text.printer.text) b.appended front)
    where
      lines : List ℕ
      lines = b.written ++ string_bytes next.text.printer.text

      begun : (more : List ℕ) → PrintsFront asked form (b.read ++ more) lines
      begun more =
          page-printed asked form (b.read ++ more) b.written lines next (drop count text ++ more) (same ∙ b.in_form) (on ∙ b.is_asked) refl
          (prints (λ is. cc) more (b.read ++ more) b.written (b.goes more))
