-- Runs over a list of offsets, one offset at a time.
use Rattle.std.proofs.Common.{◌≡◌, ℕ, ◌+◌, ◌≤◌, ◌<◌, arith, inl, inr, List, [], ◌∷◌, ◌++◌, length, drop, get_or, refl, Option, Some, None, Ok, Err, append-nil, append_assoc, drop-cons, add-one}
use Rattle.std.specs.Option.{is_none}
use Rattle.std.proofs.lemmas.Bool.{cases_Bool}
use Rattle.markdown_scanners_tree.specs.declared.inline_html.HtmlStop.{HtmlStop}
use Rattle.markdown_scanners_tree.specs.inline_html.InlineHtml.{find_at}
use Rattle.markdown_scanners_tree.specs.inline_html.run.Run.{Run, offset_refusal, answer_of, run_step, run_answers, run_passed, run_stop}

pub answer-err : (run : Run) (p : ℕ) (why : Option HtmlStop) (stop : HtmlStop) → Err stop ≡ answer_of run p why
    → why ≡ Some stop
answer-err run p None stop e = absurd (cc)
answer-err run p (Some other) stop e = cc

pub answer-ok : (run : Run) (p : ℕ) (why : Option HtmlStop) (answer : Option ℕ) → Ok answer ≡ answer_of run p why
    → (why ≡ None) × (answer ≡ find_at run.text p)
answer-ok run p None answer e = (refl, cc)
answer-ok run p (Some other) answer e = absurd (cc)

module _ (run : Run) (offsets : List ℕ) (i : ℕ) (below : i < length offsets) where
  next : drop i offsets ≡ get_or offsets i 0 ∷ drop (i + 1) offsets
  next = rw (add-one, drop-cons offsets i 0)

  module _ (stop : HtmlStop) (refused : offset_refusal run (get_or offsets i 0) ≡ Some stop) where
    pub answers-refused : (before : List (Option ℕ)) → before ++ run_answers run (drop i offsets) ≡ before
    answers-refused before = rw (next, refused) (append-nil before)

    pub passed-refused : run_passed run (drop i offsets) ≡ run.passed
    passed-refused = rw (next, refused)

    pub stop-refused : run_stop run i (drop i offsets) ≡ Some (i, stop)
    stop-refused = rw (next, refused)

  module _ (free : offset_refusal run (get_or offsets i 0) ≡ None) where
    pub answers-accepted : (before : List (Option ℕ))
        → (before ++ find_at run.text (get_or offsets i 0) ∷ []) ++ run_answers (run_step run (get_or offsets i 0)) (drop (i + 1) offsets)
        ≡ before ++ run_answers run (drop i offsets)
    answers-accepted before = rw (next, free) (append_assoc before _ _)

    pub passed-accepted : run_passed (run_step run (get_or offsets i 0)) (drop (i + 1) offsets)
        ≡ run_passed run (drop i offsets)
    passed-accepted = rw (next, free)

    pub stop-accepted : run_stop (run_step run (get_or offsets i 0)) (i + 1) (drop (i + 1) offsets)
        ≡ run_stop run i (drop i offsets)
    stop-accepted = rw (next, free)

-- a run answers at most one offset each
pub answers-count : (run : Run) (offsets : List ℕ) → length (run_answers run offsets) ≤ length offsets
answers-count run [] = omega arith
answers-count run (p ∷ offsets) = elim (cases_Bool (is_none (offset_refusal run p))) [
  | inl accepted ↦ rw accepted (omega (arith, answers-count (run_step run p) offsets))
  | inr refused ↦ rw refused (omega arith)
]
