-- The scans of a text, offset by offset, as a run makes them.
use Rattle.std.proofs.Common.{◌≡◌, ◌⊎◌, inl, inr, ℕ, suc, ◌+◌, ◌-◌, ◌≤◌, ◌<◌, true, false, List, [], ◌∷◌, ◌++◌, length, take, refl, ap, sym, ◌∙◌, arith, Option, Some, None, append-nil, append_assoc}
use Rattle.std.specs.List.{flat_map}
use Rattle.std.proofs.lemmas.List.{take_all, length-map}
use Rattle.std.proofs.lemmas.Bool.{cases_lt, lt-leb, lt-ltb, le-leb}
use Rattle.markdown_scanners_tree.specs.declared.inline_html.HtmlStop.{HtmlStop}
use Rattle.markdown_scanners_tree.specs.declared.inline_html.HtmlStop.TheVariants.{NoOpener, InsideFind}
use Rattle.markdown_scanners_tree.specs.inline_html.InlineHtml.{opener_before, find_at}
use Rattle.markdown_scanners_tree.specs.inline_html.run.Passed.{bytes_passed}
use Rattle.markdown_scanners_tree.specs.inline_html.run.Run.{Run, new_run, offset_refusal, run_after, run_step, run_answers, run_passed}
use Rattle.markdown_scanners_tree.proofs.ForCallers.{accepted, opener-bounds, passed-counted}
use Rattle.cmark_scan.specs.html.HtmlScans.{is_scanned, end_after, before_later, scans_from, scans_of, scans_at, offsets_of, scan_text}

-- the scans that are left from an offset on
abbrev pub left : List ℕ → Run → ℕ → List (ℕ × Option ℕ)
left bytes run offset = scans_from bytes run.find_end offset (length bytes + 1 - offset)

-- what is written, passed over and stepped, with what is left, makes up the whole
pub record IsUnderWay (bytes : List ℕ) (run : Run) (offset : ℕ) (written : List ℕ) : Type 0 where
  pub text : run.text ≡ bytes
  pub rising : run.last ≤ offset - 1
  pub lines : written ++ flat_map scan_text (left bytes run offset) ≡ flat_map scan_text (scans_of bytes)
  pub passed : run_passed run (offsets_of (left bytes run offset)) ≡ run_passed (new_run bytes) (offsets_of (scans_of bytes))
  pub answers : run.steps + length (run_answers run (offsets_of (left bytes run offset))) ≡ length (run_answers (new_run bytes) (offsets_of (scans_of bytes)))
  pub steps : run.steps + length (left bytes run offset) ≡ length (scans_of bytes)

module _ (bytes : List ℕ) (run : Run) (p : ℕ) (text : run.text ≡ bytes) (rising : run.last ≤ p - 1) where
  abbrev IsMade : Type 0
  IsMade = (offset_refusal run p ≡ None) × (is_scanned bytes run.find_end p ≡ true)

  abbrev IsRefused : HtmlStop → Type 0
  IsRefused stop = (offset_refusal run p ≡ Some stop) × (is_scanned bytes run.find_end p ≡ false)

  by_opener : (mark : Option ℕ) → opener_before run.text p ≡ mark → IsMade ⊎ ((stop : HtmlStop) × IsRefused stop)
  by_opener None e = inr (NoOpener, (rw e refl, rw (sym text, e) refl))
  by_opener (Some mark) e =
      let bounds = opener-bounds run.text p mark e in
      let above : run.last < p = omega (arith, bounds, rising) in
      elim (cases_lt p run.find_end) [
        | inl inside ↦ inr (InsideFind, (rw (e, lt-leb p run.last above, lt-ltb p run.find_end inside) refl, rw (sym text, e, lt-leb run.find_end p inside) refl))
        | inr outside ↦ inl (accepted run p mark e above outside, rw (sym text, e, le-leb run.find_end p outside) refl)
      ]

  -- an offset above the last one is refused, or a scan is made there
  made_or_refused : IsMade ⊎ ((stop : HtmlStop) × IsRefused stop)
  made_or_refused = by_opener _ refl

  module _ (within : p ≤ length bytes) where
    next : left bytes run p ≡ before_later (is_scanned bytes run.find_end p) (p, find_at bytes p) (scans_from bytes (end_after bytes run.find_end p) (p + 1) (length bytes + 1 - (p + 1)))
    unfolding scans_from
    next = let n : length bytes + 1 - p ≡ suc (length bytes + 1 - (p + 1)) = omega arith in rw n

    left_made : IsMade → left bytes run p ≡ (p, find_at run.text p) ∷ left bytes (run_step run p) (p + 1)
    left_made made = next ∙ (rw (made.1, text) refl)

    left_refused : (stop : HtmlStop) → IsRefused stop → left bytes run p ≡ left bytes run (p + 1)
    left_refused stop refused = next ∙ (rw refused.1 refl)

    passed_next : (later : List ℕ) → IsMade → run_passed run (p ∷ later) ≡ run_passed (run_step run p) later
    passed_next later made = rw made.0

    answers_next : (later : List ℕ) → IsMade → run_answers run (p ∷ later) ≡ find_at run.text p ∷ run_answers (run_step run p) later
    answers_next later made = rw made.0

    made_kept : (written : List ℕ) → IsMade → IsUnderWay bytes run p written → IsUnderWay bytes (run_step run p) (p + 1) (written ++ (scan_text (p, find_at run.text p) ++ []))
    made_kept written made way =
        let same = left_made made in
        let later = left bytes (run_step run p) (p + 1) in
        let line = scan_text (p, find_at run.text p) in
        record {
          text = text;
          rising = omega arith;
          lines = ap (λ t. (written ++ t) ++ flat_map scan_text later) (append-nil line) ∙ append_assoc written line _ ∙ sym (ap (λ l. written ++ flat_map scan_text l) same) ∙ way.lines;
          passed = sym (passed_next (offsets_of later) made) ∙ sym (ap (λ l. run_passed run (offsets_of l)) same) ∙ way.passed;
          answers =
              let all = ap (λ l. length (run_answers run (offsets_of l))) same in
              let one = ap length (answers_next (offsets_of later) made) in
              omega (arith, all, one, way.answers);
          steps = let all = ap length same in omega (arith, all, way.steps);
        }

    refused_kept : (written : List ℕ) (stop : HtmlStop) → IsRefused stop → IsUnderWay bytes run p written → IsUnderWay bytes run (p + 1) (written ++ [])
    refused_kept written stop refused way =
        let same = left_refused stop refused in
        record {
          text = text;
          rising = omega (arith, rising);
          lines = ap (λ t. t ++ flat_map scan_text (left bytes run (p + 1))) (append-nil written) ∙ sym (ap (λ l. written ++ flat_map scan_text l) same) ∙ way.lines;
          passed = rw (sym same) way.passed;
          answers = rw (sym same) way.answers;
          steps = rw (sym same) way.steps;
        }

pub step_kept : (bytes : List ℕ) (run : Run) (p : ℕ) (written : List ℕ) → p ≤ length bytes → IsUnderWay bytes run p written
    → IsUnderWay bytes (run_after run p (offset_refusal run p)) (p + 1) (written ++ flat_map scan_text (scans_at run p))
step_kept bytes run p written within way =
    elim (made_or_refused bytes run p way.text way.rising) [
      | inl made ↦ rw made.0 (made_kept bytes run p way.text way.rising within written made way)
      | inr refused ↦ rw refused.1.0 (refused_kept bytes run p way.text way.rising within written refused.0 refused.1 way)
    ]

none_left : (bytes : List ℕ) (run : Run) (p : ℕ) → length bytes < p → left bytes run p ≡ []
unfolding scans_from
none_left bytes run p past = let n : length bytes + 1 - p ≡ 0 = omega arith in rw n

-- past the end all is written and counted
pub ended : (bytes : List ℕ) (run : Run) (p : ℕ) (written : List ℕ) → length bytes < p → IsUnderWay bytes run p written
    → (written ≡ flat_map scan_text (scans_of bytes)) × (run.passed ≡ bytes_passed bytes (offsets_of (scans_of bytes))) × (run.steps ≡ length (scans_of bytes))
ended bytes run p written past way =
    let empty = none_left bytes run p past in
    let offsets = offsets_of (scans_of bytes) in
    let answers = run_answers (new_run bytes) offsets in
    let lines = sym (append-nil written) ∙ sym (ap (λ l. written ++ flat_map scan_text l) empty) ∙ way.lines in
    let passed = sym (ap (λ l. run_passed run (offsets_of l)) empty) ∙ way.passed in
    let none : length (left bytes run p) ≡ 0 = ap length empty in
    let no_answers : length (run_answers run (offsets_of (left bytes run p))) ≡ 0 = ap (λ l. length (run_answers run (offsets_of l))) empty in
    let count = length-map (scans_of bytes) (λ scan. scan.0) in
    let all : take (length answers) offsets ≡ offsets = take_all (length answers) offsets (omega (arith, count, none, no_answers, way.answers, way.steps)) in
    (lines, passed-counted bytes offsets run.passed answers passed refl ∙ ap (bytes_passed bytes) all, omega (arith, none, way.steps))
