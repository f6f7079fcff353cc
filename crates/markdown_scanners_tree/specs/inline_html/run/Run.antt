-- A run of scans of raw HTML over rising offsets of one text, and the bytes that it passes over.
-- (CommonMark 0.31.2, section 6.6, raw HTML)
use Rattle.std.specs.Prelude.{ℕ, ◌+◌, ◌*◌, ◌≤◌, ◌<◌, Bool, true, false, nat_le, nat_lt, is_none, List, [], ◌∷◌, length, Option, Some, None, Result, Ok, Err, unwrap_or, if◌then◌else◌}
use Rattle.markdown_scanners_tree.specs.declared.inline_html.HtmlStop.{HtmlStop}
use Rattle.markdown_scanners_tree.specs.declared.inline_html.HtmlStop.TheVariants.{NoOpener, NotRising, InsideFind}
use Rattle.markdown_scanners_tree.specs.inline_html.InlineHtml.{Kind, Comment, Cdata, Declaration, Processing, Opening, Begins, Hyphen, Bracket, Nothing, opener_before, opening_at, find_at, cost}

-- the kinds of which an earlier step had no closer
pub record ShutKinds : Type 0 where
  pub comment : Bool
  pub cdata : Bool
  pub declaration : Bool
  pub processing : Bool

abbrev pub is_shut : ShutKinds → Kind → Bool
is_shut shut Comment = shut.comment
is_shut shut Cdata = shut.cdata
is_shut shut Declaration = shut.declaration
is_shut shut Processing = shut.processing

abbrev pub shutting : ShutKinds → Kind → ShutKinds
shutting shut Comment = record shut { comment = true }
shutting shut Cdata = record shut { cdata = true }
shutting shut Declaration = record shut { declaration = true }
shutting shut Processing = record shut { processing = true }

-- a text, the last offset accepted and the end of the last find (each 0 before the first), the shut
-- kinds, the bytes passed over, the steps
pub record Run : Type 0 where
  pub text : List ℕ
  pub last : ℕ
  pub find_end : ℕ
  pub shut : ShutKinds
  pub passed : ℕ
  pub steps : ℕ

abbrev pub new_run : List ℕ → Run
new_run text = record {
  text = text;
  last = 0;
  find_end = 0;
  shut = record { comment = false; cdata = false; declaration = false; processing = false };
  passed = 0;
  steps = 0;
}

-- why an offset is refused: no opener ends there; it is not above the last offset; it is below the end
-- of the last find
abbrev pub offset_refusal : Run → ℕ → Option HtmlStop
offset_refusal run p =
    if is_none (opener_before run.text p) then Some NoOpener
    else if nat_le p run.last then Some NotRising
    else if nat_lt p run.find_end then Some InsideFind
    else None

-- a kind is shut by a step that begins a piece of it and has no find
abbrev pub shut_by : ShutKinds → Opening → Option ℕ → ShutKinds
shut_by shut (Begins kind) None = shutting shut kind
shut_by shut (Begins kind) (Some found) = shut
shut_by shut Hyphen found = shut
shut_by shut Bracket found = shut
shut_by shut Nothing found = shut

-- the run after a step at an offset that is not refused
abbrev pub run_step : Run → ℕ → Run
run_step run p =
    record {
      text = run.text;
      last = p;
      find_end = unwrap_or (find_at run.text p) run.find_end;
      shut = shut_by run.shut (opening_at run.text p) (find_at run.text p);
      passed = run.passed + cost run.text (is_shut run.shut) (opening_at run.text p) p;
      steps = run.steps + 1;
    }

-- what a step answers at an offset, by whether it is refused
abbrev pub answer_of : Run → ℕ → Option HtmlStop → Result (Option ℕ) HtmlStop
answer_of run p (Some stop) = Err stop
answer_of run p None = Ok (find_at run.text p)

-- the run after it: a refused offset changes nothing
abbrev pub run_after : Run → ℕ → Option HtmlStop → Run
run_after run p (Some stop) = run
run_after run p None = run_step run p

-- the finds of the offsets in turn, up to the first refused
abbrev pub run_answers : Run → List ℕ → List (Option ℕ)
run_answers run [] = []
run_answers run (p ∷ offsets) =
    if is_none (offset_refusal run p) then find_at run.text p ∷ run_answers (run_step run p) offsets
    else []

-- the bytes passed over at them
abbrev pub run_passed : Run → List ℕ → ℕ
run_passed run [] = run.passed
run_passed run (p ∷ offsets) =
    if is_none (offset_refusal run p) then run_passed (run_step run p) offsets
    else run.passed

abbrev pub stop_at : Option HtmlStop → ℕ → Option (ℕ × HtmlStop) → Option (ℕ × HtmlStop)
stop_at None i later = later
stop_at (Some stop) i later = Some (i, stop)

-- the index, counted from i, and the name of the first refusal
abbrev pub run_stop : Run → ℕ → List ℕ → Option (ℕ × HtmlStop)
run_stop run i [] = None
run_stop run i (p ∷ offsets) = stop_at (offset_refusal run p) i (run_stop (run_step run p) (i + 1) offsets)

abbrev pub one_if : Bool → ℕ
one_if b = if b then 1 else 0

-- how many kinds are shut
abbrev pub count_shut : ShutKinds → ℕ
count_shut shut = one_if shut.comment + one_if shut.cdata + one_if shut.declaration + one_if shut.processing

-- The bytes passed over are at most four for each byte of the text and eight for each step; while a
-- kind is open, once the text for each shut kind, the way to the last find, and eight for each
-- step.
pub record IsWithinBudget (run : Run) : Type 0 where
  pub whole : run.passed ≤ 4 * length run.text + 8 * run.steps
  pub while_open : count_shut run.shut < 4
      → run.passed ≤ count_shut run.shut * length run.text + run.find_end + 8 * run.steps
