-- The bytes passed over, summed over the states of a run, are those of the list of accepted offsets.
use Rattle.std.proofs.Common.{◌≡◌, ℕ, ◌+◌, List, [], ◌∷◌, length, take, refl, ap, ◌∙◌, arith, Option, Some, None}
use Rattle.std.specs.Prelude.{◌&&◌, ◌||◌, is_none}
use Rattle.std.proofs.Math.Bool.{and-false}
use Rattle.markdown_scanners_tree.specs.declared.inline_html.HtmlStop.{HtmlStop}
use Rattle.markdown_scanners_tree.specs.inline_html.InlineHtml.{Kind, Comment, Cdata, Declaration, Processing, Opening, Begins, Hyphen, Bracket, Nothing, opening_at, find_at}
use Rattle.markdown_scanners_tree.specs.inline_html.run.Run.{ShutKinds, Run, is_shut, shut_by, offset_refusal, run_step, run_answers, run_passed, new_run}
use Rattle.markdown_scanners_tree.specs.inline_html.run.Passed.{begins_kind, is_shut_after, sum_after, bytes_passed}
use Rattle.markdown_scanners_tree.proofs.inline_html.Scans.{cost-same}

-- the shut kinds of a run are those of its earlier offsets
abbrev Agrees : Run → List ℕ → Type 0
Agrees run earlier = (kind : Kind) → is_shut run.shut kind ≡ is_shut_after run.text earlier kind

shut_by-is : (shut : ShutKinds) (opening : Opening) (found : Option ℕ) (kind : Kind)
    → is_shut (shut_by shut opening found) kind ≡ (begins_kind kind opening && is_none found || is_shut shut kind)
shut_by-is shut (Begins Comment) None Comment = refl
shut_by-is shut (Begins Comment) None Cdata = refl
shut_by-is shut (Begins Comment) None Declaration = refl
shut_by-is shut (Begins Comment) None Processing = refl
shut_by-is shut (Begins Cdata) None Comment = refl
shut_by-is shut (Begins Cdata) None Cdata = refl
shut_by-is shut (Begins Cdata) None Declaration = refl
shut_by-is shut (Begins Cdata) None Processing = refl
shut_by-is shut (Begins Declaration) None Comment = refl
shut_by-is shut (Begins Declaration) None Cdata = refl
shut_by-is shut (Begins Declaration) None Declaration = refl
shut_by-is shut (Begins Declaration) None Processing = refl
shut_by-is shut (Begins Processing) None Comment = refl
shut_by-is shut (Begins Processing) None Cdata = refl
shut_by-is shut (Begins Processing) None Declaration = refl
shut_by-is shut (Begins Processing) None Processing = refl
shut_by-is shut (Begins other) (Some end) kind = let is = and-false (begins_kind kind (Begins other)) in rw is
shut_by-is shut Hyphen found kind = refl
shut_by-is shut Bracket found kind = refl
shut_by-is shut Nothing found kind = refl

-- the sum over states is the sum over the accepted offsets
abbrev IsSum : Run → List ℕ → List ℕ → Type 0
IsSum run earlier offsets =
    run_passed run offsets ≡ run.passed + sum_after run.text earlier (take (length (run_answers run offsets)) offsets)

sum-next : (run : Run) (earlier : List ℕ) (p : ℕ) (offsets : List ℕ) (why : Option HtmlStop) → Agrees run earlier
    → offset_refusal run p ≡ why → IsSum (run_step run p) (p ∷ earlier) offsets → IsSum run earlier (p ∷ offsets)
sum-next run earlier p offsets (Some stop) agrees e next = rw e (omega arith)
sum-next run earlier p offsets None agrees e next =
    let same =
    cost-same run.text (is_shut run.shut) (is_shut_after run.text earlier) (opening_at run.text p) p agrees in
    rw e (omega (arith, next, same))

passed-is : (run : Run) (earlier offsets : List ℕ) → Agrees run earlier → IsSum run earlier offsets
passed-is run earlier [] agrees = omega arith
passed-is run earlier (p ∷ offsets) agrees =
    let later : Agrees (run_step run p) (p ∷ earlier) =
    λ kind. shut_by-is run.shut (opening_at run.text p) (find_at run.text p) kind
    ∙ ap (λ b. begins_kind kind (opening_at run.text p) && is_none (find_at run.text p) || b) (agrees kind) in
    sum-next run earlier p offsets _ agrees refl (passed-is (run_step run p) (p ∷ earlier) offsets later)

none_shut : (text : List ℕ) → Agrees (new_run text) []
none_shut text Comment = refl
none_shut text Cdata = refl
none_shut text Declaration = refl
none_shut text Processing = refl

pub passed-counted : (text offsets : List ℕ) (passed : ℕ) (answers : List (Option ℕ))
    → passed ≡ run_passed (new_run text) offsets → answers ≡ run_answers (new_run text) offsets
    → passed ≡ bytes_passed text (take (length answers) offsets)
passed-counted text offsets passed answers all each =
    let sum = passed-is (new_run text) [] offsets (none_shut text) in rw each (omega (arith, all, sum))
