-- Where safe HTML is asked for, all that is written of pages is a part at the front of safe HTML.
use Rattle.std.proofs.Common.{ℕ, Bool, true, false, List, [], ◌++◌, ◌≡◌, ◌≢◌, Option, Result, Ok, Err, refl, sym, ap, subst, append-nil}
use Rattle.std.proofs.KnownBytes.{Appends-nil}
use Rattle.std.specs.Borrow.{Bor}
use Rattle.std.specs.Io.KnownBytes.{Appends}
use Rattle.markdown_html.specs.SafeHtml.{IsSafeHtml, finished}
use Rattle.markdown_html.specs.SafeSetting.{default_schemes}
use Rattle.program_faults.proofs.StepLemmas.{printed-none}
use Rattle.program_faults.specs.Faults.{AppendsPrefix}
use Rattle.program_faults.specs.declared.reasons.Reason.{Reason}
use Rattle.page_programs.proofs.CutLemmas.{front-after}
use Rattle.page_programs.specs.Answers.{OwnTexts}
use Rattle.page_programs.specs.Came.{came_at}
use Rattle.page_programs.specs.Runs.{IsRun}
use Rattle.page_programs.specs.Stops.{IsWrite}
use Rattle.page_programs.specs.Tried.{AreHandled, AreTried, IsHandled, IsReported, IsTried}
use Rattle.page_programs.specs.Tried.{in_turn, is_done, last_tried, none_begun, none_left, not_begun, not_done, not_opened, of_file, of_input, tried}
use Rattle.page_programs.specs.Wholes.{IsDue, PrintsWhole}
use Rattle.page_programs.specs.declared.came.Came.{Came}
use Rattle.page_programs.specs.declared.came.Came.TheVariants.{HasNoOutput}
use Rattle.page_programs.specs.declared.stops.Stop.{Stop}
use Rattle.page_programs.specs.declared.stops.Stop.TheVariants.{Read, NotText, Write, Memory, NotReplaced}
use Rattle.page_programs.specs.declared.streams.Outputs.{Outputs}
use Rattle.page_programs.specs.declared.streams.Streams.{Streams}
use Rattle.page_html.specs.declared.asked.Asked.{Asked}
use Rattle.page_html.specs.declared.asked.Form.TheVariants.{Html}
use Rattle.page_html.specs.Printed.{IsPrinted, PrintsSafely, mends, no_page, page}

pub nothing : (out : Option (List ℕ)) → PrintsSafely out out
nothing out = ([], no_page, ([], printed-none out []))

-- a page, or a part at its front
one : (old new : Option (List ℕ)) (html : List ℕ) → IsSafeHtml default_schemes html → AppendsPrefix old new html → PrintsSafely old new
one old new html safe front = (html ++ [], page html [] safe no_page, subst (AppendsPrefix old new) (sym (append-nil html)) front)

-- a page, and what is written after it
one_more : (old middle new : Option (List ℕ)) (html : List ℕ) → IsSafeHtml default_schemes html → Appends old middle html → PrintsSafely middle new
    → PrintsSafely old new
one_more old middle new html safe written later =
    (html ++ later.0, page html later.0 safe later.1, front-after old middle new html later.0 written later.2)

-- a text that is written whole is written as far as its end
front_whole : (old new : Option (List ℕ)) (text : List ℕ) → Appends old new text → AppendsPrefix old new text
front_whole old new text written =
    subst (AppendsPrefix old new) (append-nil text) (front-after old new new text [] written ([], printed-none new []))

-- no write has failed where more is tried
not_write : (stop : Stop) → came_at stop ≢ HasNoOutput → IsWrite stop → ⊥
not_write (Read why) other is = is
not_write (NotText offset) other is = is
not_write (Write why) other is = other refl
not_write Memory other is = is
not_write (NotReplaced refusal) other is = is

-- bytes grow by safe HTML
abbrev pub GrowsSafely : Option (List ℕ) → Option (List ℕ) → Type 0
GrowsSafely out longer = (html : List ℕ) × IsSafeHtml default_schemes html × Appends out longer html

-- What is written of a page that stopped is safe; unless a write failed nothing is.
abbrev Stopped : Stop → Option (List ℕ) → Option (List ℕ) → Type 0
Stopped stop out longer = PrintsSafely out longer × ((IsWrite stop → ⊥) → longer ≡ out)

unwritten : (stop : Stop) (out longer : Option (List ℕ)) → longer ≡ out → Stopped stop out longer
unwritten stop out longer same = (subst (PrintsSafely out) (sym same) (nothing out), λ no. same)

-- A run that prints by what these options say prints by those that they are.
pub asked_run : {R O F W V : Type 0} (contents : W → Option (List ℕ))
    (remaining : R → Option (List ℕ)) (reads : R → Result (List ℕ) Reason → R → Type 0)
    (opens : F → List ℕ → Result O Reason → F → Type 0) (holds : F → List ℕ → Option (List ℕ))
    (file_remaining : O → Option (List ℕ)) (file_reads : O → Result (List ℕ) Reason → O → Type 0)
    (writes : W → List ℕ → Result ℕ Reason → W → Type 0) (fault_writes : V → List ℕ → Result ℕ Reason → V → Type 0)
    (texts : OwnTexts) (options : List (List ℕ)) (arguments : List (Bor (List ℕ))) (status : ℕ) (old new : Streams R F W V) (other asked : Asked)
    → other ≡ asked
    → IsRun (PrintsWhole (mends other) (λ name. IsPrinted other) false contents) remaining reads opens holds file_remaining file_reads
    writes fault_writes contents texts options false false arguments status old new
    → IsRun (PrintsWhole (mends asked) (λ name. IsPrinted asked) false contents) remaining reads opens holds file_remaining file_reads
    writes fault_writes contents texts options false false arguments status old new
asked_run contents remaining reads opens holds file_remaining file_reads writes fault_writes texts options arguments status old new other asked same run =
    subst (λ (a : Asked). IsRun (PrintsWhole (mends a) (λ name. IsPrinted a) false contents) remaining reads opens holds file_remaining file_reads
    writes fault_writes contents texts options false false arguments status old new) same run

module _ (asked : Asked) (is_html : asked.form ≡ Html) (is_safe : asked.safe ≡ true) {R O F W V : Type 0} (contents : W → Option (List ℕ))
    (remaining : R → Option (List ℕ)) (reads : R → Result (List ℕ) Reason → R → Type 0)
    (opens : F → List ℕ → Result O Reason → F → Type 0) (holds : F → List ℕ → Option (List ℕ))
    (file_remaining : O → Option (List ℕ)) (file_reads : O → Result (List ℕ) Reason → O → Type 0)
    (writes : W → List ℕ → Result ℕ Reason → W → Type 0) (fault_writes : V → List ℕ → Result ℕ Reason → V → Type 0) (pages : ℕ) where
  abbrev Does : List ℕ → Option (List ℕ) → Option (List ℕ) → Outputs F W V → Outputs F W V → Result Bool Stop → Type 0
  Does = PrintsWhole (mends asked) (λ _. IsPrinted asked) false contents pages

  due_safe : (name : List ℕ) (input : Option (List ℕ)) (text : List ℕ) → IsDue (mends asked) (λ _. IsPrinted asked) name input text
      → IsSafeHtml default_schemes text
  due_safe name input text due = due.printed.is_safe is_html is_safe

  page_done : (name : List ℕ) (input left : Option (List ℕ)) (old new : Outputs F W V) (found : Bool) → Does name input left old new (Ok found)
      → GrowsSafely (contents old.output) (contents new.output)
  page_done name input left old new found done = (done.0, due_safe name input done.0 done.1, done.2)

  same_contents : (old new : Outputs F W V) → new ≡ old → contents new.output ≡ contents old.output
  same_contents old new same = ap (λ (o : Outputs F W V). contents o.output) same

  page_stopped : (name : List ℕ) (input left : Option (List ℕ)) (old new : Outputs F W V) (stop : Stop) → Does name input left old new (Err stop)
      → Stopped stop (contents old.output) (contents new.output)
  page_stopped name input left old new (Read why) same = unwritten (Read why) _ _ (same_contents old new same)
  page_stopped name input left old new (NotText offset) refused = unwritten (NotText offset) _ _ (same_contents old new refused.1)
  page_stopped name input left old new (Write why) cut =
      (one (contents old.output) (contents new.output) cut.0 (due_safe name input cut.0 cut.1) cut.2, λ no. absurd (no tt))
  page_stopped name input left old new Memory same = unwritten Memory _ _ (same_contents old new same)
  page_stopped name input left old new (NotReplaced refusal) never = absurd never

  abbrev Handles : List ℕ → Streams R F W V → Streams R F W V → Result Bool Stop → Type 0
  Handles = IsHandled Does remaining reads opens holds file_remaining file_reads

  named_done : (name : List ℕ) (old new : Streams R F W V) (found : Bool) → Handles name old new (Ok found)
      → GrowsSafely (contents old.outputs.output) (contents new.outputs.output)
  named_done name old new found (of_input is read done) = page_done name _ (remaining new.input) old.outputs new.outputs found done
  named_done name old new found (of_file is same opened last middle opening read done) =
      subst (λ out. GrowsSafely (contents out) (contents new.outputs.output)) opening.same_output
      (page_done name _ (file_remaining last) middle new.outputs found done)
  named_done name old new found (not_opened is same why refused end) = absurd cc

  named_stopped : (name : List ℕ) (old new : Streams R F W V) (stop : Stop) → Handles name old new (Err stop)
      → Stopped stop (contents old.outputs.output) (contents new.outputs.output)
  named_stopped name old new stop (of_input is read stopped) = page_stopped name _ (remaining new.input) old.outputs new.outputs stop stopped
  named_stopped name old new stop (of_file is same opened last middle opening read stopped) =
      subst (λ out. Stopped stop (contents out) (contents new.outputs.output)) opening.same_output
      (page_stopped name _ (file_remaining last) middle new.outputs stop stopped)
  named_stopped name old new stop (not_opened is same why refused end) = unwritten stop _ _ (ap contents refused.same_output)

  abbrev Tries : List ℕ → Streams R F W V → Streams R F W V → Came → Type 0
  Tries = IsTried Does remaining reads opens holds file_remaining file_reads writes fault_writes

  -- nothing is written where nothing is but why a page is not done
  reported_safe : (parts : List (List ℕ)) (old new : Streams R F W V) → IsReported fault_writes parts old new
      → PrintsSafely (contents old.outputs.output) (contents new.outputs.output)
  reported_safe parts old new reported =
      subst (λ out. PrintsSafely (contents old.outputs.output) (contents out)) (sym reported.same_output) (nothing (contents old.outputs.output))

  grows_by_none : (out longer : W) → contents longer ≡ contents out → GrowsSafely (contents out) (contents longer)
  grows_by_none out longer same = ([], finished, subst (λ o. Appends (contents out) o []) (sym same) (Appends-nil (contents out)))

  -- what is written of one page; where more is tried it is safe HTML
  one_tried : (name : List ℕ) (old new : Streams R F W V) (came : Came) → Tries name old new came
      → PrintsSafely (contents old.outputs.output) (contents new.outputs.output)
      × (came ≢ HasNoOutput → GrowsSafely (contents old.outputs.output) (contents new.outputs.output))
  one_tried name old new came (is_done found handled) =
      let html = named_done name old new found handled in (
        one (contents old.outputs.output) (contents new.outputs.output) html.0 html.1
            (front_whole (contents old.outputs.output) (contents new.outputs.output) html.0 html.2),
        λ other. html,
      )
  one_tried name old new came (not_done stop middle handled refused reported) =
      let stopped : Stopped stop (contents old.outputs.output) (contents new.outputs.output) =
      subst (λ out. Stopped stop (contents old.outputs.output) (contents out)) (sym reported.same_output)
      (named_stopped name old middle stop handled) in (
        stopped.0,
        λ other. grows_by_none old.outputs.output new.outputs.output (stopped.1 (not_write stop other)),
      )
  one_tried name old new came (not_begun reported) =
      (reported_safe _ old new reported, λ other. grows_by_none old.outputs.output new.outputs.output (ap contents reported.same_output))

  -- all pages, one after another
  all_safe : (names : List (List ℕ)) (old new : Streams R F W V) (came : Came)
      → AreTried Does remaining reads opens holds file_remaining file_reads writes fault_writes names old new came
      → PrintsSafely (contents old.outputs.output) (contents new.outputs.output)
  all_safe names old new came (none_left at) = nothing (contents at.outputs.output)
  all_safe names old new came (tried name later _ middle _ first_came more other first rest) =
      let html = (one_tried name old middle first_came first).1 other in
      one_more (contents old.outputs.output) (contents middle.outputs.output) (contents new.outputs.output) html.0 html.1 html.2
      (all_safe later middle new more rest)
  all_safe names old new came (last_tried name later _ _ first) = (one_tried name old new HasNoOutput first).0

  pub run_safely : (names : List (List ℕ)) (old new : Streams R F W V) (came : Came)
      → AreHandled Does remaining reads opens holds file_remaining file_reads writes fault_writes names old new came
      → PrintsSafely (contents old.outputs.output) (contents new.outputs.output)
  run_safely names old new came (in_turn _ all) = all_safe names old new came all
  run_safely names old new came (none_begun reported) = reported_safe _ old new reported
