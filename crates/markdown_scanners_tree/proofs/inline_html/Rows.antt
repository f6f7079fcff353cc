-- Worked examples of the definitions.
use Rattle.std.proofs.Common.{◌≡◌, ℕ, List, [], ◌∷◌, Option, Some, None, refl}
use Rattle.std.specs.Prelude.{codes}
use Rattle.markdown_scanners_tree.specs.declared.inline_html.HtmlStop.{HtmlStop}
use Rattle.markdown_scanners_tree.specs.declared.inline_html.HtmlStop.TheVariants.{NoOpener, NotRising, InsideFind}
use Rattle.markdown_scanners_tree.specs.inline_html.InlineHtml.{find_at, declared_at, opening_at, least_offset, cost}
use Rattle.markdown_scanners_tree.specs.inline_html.run.Run.{new_run, run_answers, run_passed, run_stop, run_step, offset_refusal}

-- one name to unfold
unfoldable computing : Unit {0}
unfolding declared_at opening_at least_offset cost
computing = tt

bracketed_cdata : find_at (codes "<![CDATA[a]>b]]>") 2 ≡ Some 16
unfolding computing
bracketed_cdata = refl

short_comment : find_at (codes "<!-->") 2 ≡ Some 5
unfolding computing
short_comment = refl

long_comment : find_at (codes "<!--->") 2 ≡ Some 6
unfolding computing
long_comment = refl

no_instruction : find_at (codes "<?>") 2 ≡ None
unfolding computing
no_instruction = refl

instruction : find_at (codes "<?>?>") 2 ≡ Some 5
unfolding computing
instruction = refl

-- answers, bytes passed over and stop of a run
abbrev Row : List ℕ → List ℕ → List (Option ℕ) → ℕ → Option (ℕ × HtmlStop) → Type 0
Row text offsets answers passed stop =
    (run_answers (new_run text) offsets ≡ answers) × (run_passed (new_run text) offsets ≡ passed) × (run_stop (new_run text) 0 offsets ≡ stop)

mixed : Row (codes "<!-- <!x> <!-- <![CDATA[ ]]>") (2 ∷ 7 ∷ 12 ∷ 17 ∷ []) (None ∷ Some 9 ∷ None ∷ Some 28 ∷ []) 42 None
unfolding computing
mixed = (refl, refl, refl)

inside : Row (codes "<!-- a <!-- b --> <!-- c") (2 ∷ 9 ∷ 20 ∷ []) (Some 17 ∷ []) 17 (Some (1, InsideFind))
unfolding computing
inside = (refl, refl, refl)

resumed : Row (codes "<!-- a <!-- b --> <!-- c") (2 ∷ 20 ∷ []) (Some 17 ∷ None ∷ []) 23 None
unfolding computing
resumed = (refl, refl, refl)

doctype : Row (codes "<!DOCTYPE html>") (2 ∷ []) (Some 15 ∷ []) 13 None
unfolding computing
doctype = (refl, refl, refl)

shortest : Row (codes "<!-->") (2 ∷ []) (Some 5 ∷ []) 5 None
unfolding computing
shortest = (refl, refl, refl)

one_hyphen : Row (codes "<!->") (2 ∷ []) (None ∷ []) 2 None
unfolding computing
one_hyphen = (refl, refl, refl)

bare : Row (codes "<!") (2 ∷ []) (None ∷ []) 1 None
unfolding computing
bare = (refl, refl, refl)

open_cdata : Row (codes "<![CDATA[") (2 ∷ []) (None ∷ []) 7 None
unfolding computing
open_cdata = (refl, refl, refl)

processed : Row (codes "<?a?>") (2 ∷ []) (Some 5 ∷ []) 3 None
unfolding computing
processed = (refl, refl, refl)

adjacent : Row (codes "<!a><!b>") (2 ∷ 6 ∷ []) (Some 4 ∷ Some 8 ∷ []) 4 None
unfolding computing
adjacent = (refl, refl, refl)

hyphen_then_comment : Row (codes "<!-x<!-->") (2 ∷ 6 ∷ []) (None ∷ Some 9 ∷ []) 7 None
unfolding computing
hyphen_then_comment = (refl, refl, refl)

-- refusals
refused : (offset_refusal (new_run (codes "<!a<!>x")) 0 ≡ Some NoOpener)
    × (offset_refusal (new_run (codes "<!a<!>x")) 1 ≡ Some NoOpener)
    × (offset_refusal (new_run (codes "<!a<!>x")) 8 ≡ Some NoOpener)
    × (offset_refusal (run_step (new_run (codes "<!a<!>x")) 2) 2 ≡ Some NotRising)
    × (offset_refusal (run_step (new_run (codes "<!a<!>x")) 2) 5 ≡ Some InsideFind)
    × ((run_step (new_run (codes "<!a<!>x")) 2).passed ≡ 4) × ((run_step (new_run (codes "<!a<!>x")) 2).steps ≡ 1)
unfolding computing
refused = (refl, refl, refl, refl, refl, refl, refl)

-- each comment not closed is searched for once
comments : List ℕ
comments = codes "<!--<!--<!--<!--<!--"

hostile_comments : Row (codes "<!--<!--<!--<!--<!--") (2 ∷ 6 ∷ 10 ∷ 14 ∷ 18 ∷ []) (None ∷ None ∷ None ∷ None ∷ None ∷ []) 24 None
unfolding computing
hostile_comments = (refl, refl, refl)

hostile_mixed : Row (codes "<!--<![CDATA[<!a<?<!--<![CDATA[<!a<?") (2 ∷ 6 ∷ 15 ∷ 18 ∷ 20 ∷ 24 ∷ 33 ∷ 36 ∷ []) (None ∷ None ∷ None ∷ None ∷ None ∷ None ∷ None ∷ None ∷ []) 114 None
unfolding computing
hostile_mixed = (refl, refl, refl)
