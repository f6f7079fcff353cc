-- The fields of a run stay those of a run over a step that is not refused.
--
-- The search budget is proved in two steps. Over the definitions alone, a step that is not refused
-- keeps it (`run_step-budget`): searches that are closed do not overlap, and one that is not closed
-- shuts its kind. And each step of the code is that step (`GuardsStay`): its guard is true wherever
-- a step may come, and stops exactly the shut kinds there.
use Rattle.std.proofs.Common.{◌≡◌, ℕ, ◌+◌, ◌≤◌, ◌<◌, Bool, true, false, List, length, refl, sym, ap, subst, ◌∙◌, arith, ⊎_elim, ◌⊎◌, inl, inr, Option, Some, None, cond}
use Rattle.std.specs.Prelude.{IfSome, unwrap_or, option_map, ◌≢◌, nat_lt, nat_le}
use Rattle.std.proofs.lemmas.Bool.{cases_eq, cases_lt, lt-ltb, le-ltb, le-leb, lt-leb, eq-eqb, eqb-true, and_parts, ne_eqb, and_from, and_right}
use Rattle.std.proofs.lemmas.Option.{slice_get_past}
use Rattle.markdown_scanners_tree.specs.declared.inline_html.HtmlScanGuard.{HtmlScanGuard}
use Rattle.markdown_scanners_tree.specs.inline_html.CountedText.{CountedBytes, passing}
use Rattle.markdown_scanners_tree.specs.inline_html.InlineHtml.{Kind, Comment, Cdata, Declaration, Processing, Opening, Begins, Hyphen, Bracket, Nothing, closer}
use Rattle.markdown_scanners_tree.specs.inline_html.InlineHtml.{lead, first_closer, closed_at, end_of, find_at, declared_at, opening_at, opener_before, cost}
use Rattle.markdown_scanners_tree.specs.inline_html.Guard.{is_stopped, with_number, searched_guard, guarded_answer, guard_after, IsTrueGuard, IsTrueScan}
use Rattle.markdown_scanners_tree.specs.inline_html.run.Run.{ShutKinds, Run, is_shut, shutting, shut_by, run_step, offset_refusal, IsWithinBudget}
use Rattle.markdown_scanners_tree.specs.inline_html.run.private.RunFields.{says_shut, shut_kinds, run_of, AreRunFields}
use Rattle.markdown_scanners_tree.proofs.inline_html.Openings.{declared_at-end}
use Rattle.markdown_scanners_tree.proofs.inline_html.Scans.{cost-same, first_offset-bounds}
use Rattle.markdown_scanners_tree.proofs.inline_html.TrueGuards.{opening_at-declared, opening_at-processing, opener-mark}
use Rattle.markdown_scanners_tree.proofs.inline_html.ScanBounds.{end_of-bounds}
use Rattle.markdown_scanners_tree.proofs.inline_html.run.Budget.{run_step-budget}

-- ---- one number

says-yes : (number size steps : ℕ) → number ≡ size → 0 < steps → says_shut number size steps ≡ true
says-yes number size steps same some = and_from _ _ (lt-ltb 0 steps some) (eq-eqb number size same)

says-no : (number size steps : ℕ) → number ≢ size → says_shut number size steps ≡ false
says-no number size steps other = and_right _ _ (ne_eqb number size other)

-- a step more says the same of a number that did not change
says-same : (number size steps : ℕ) → 0 < size → (steps ≡ 0 → number ≡ 0)
    → says_shut number size (steps + 1) ≡ says_shut number size steps
says-same number size steps some fresh =
    ⊎_elim
    (λ same. ⊎_elim
    (λ none. absurd (omega (arith, fresh none)))
    (λ more. says-yes number size (steps + 1) same (omega arith) ∙ sym (says-yes number size steps same (omega arith)))
    (cases_eq steps 0))
    (λ other. says-no number size (steps + 1) other ∙ sym (says-no number size steps other))
    (cases_eq number size)

-- a number that is the size or low stops a step exactly where it says that its kind is shut
stops-below : (number size steps low p : ℕ) → p < size → low ≤ p → (number ≢ size → number ≤ low)
    → (steps ≡ 0 → number ≡ 0) → nat_lt p number ≡ says_shut number size steps
stops-below number size steps low p in_text above is_low fresh =
    ⊎_elim
    (λ same. ⊎_elim
    (λ none. absurd (omega (arith, fresh none)))
    (λ more. lt-ltb p number (omega arith) ∙ sym (says-yes number size steps same (omega arith)))
    (cases_eq steps 0))
    (λ other. le-ltb p number (omega (arith, is_low other)) ∙ sym (says-no number size steps other))
    (cases_eq number size)

stops-upto : (number size steps p : ℕ) → 0 < p → p ≤ size → (number ≢ size → number ≡ 0) → (steps ≡ 0 → number ≡ 0)
    → nat_le p number ≡ says_shut number size steps
stops-upto number size steps p some in_text is_low fresh =
    ⊎_elim
    (λ same. ⊎_elim
    (λ none. absurd (omega (arith, fresh none)))
    (λ more. le-leb p number (omega arith) ∙ sym (says-yes number size steps same (omega arith)))
    (cases_eq steps 0))
    (λ other. lt-leb p number (omega (arith, is_low other)) ∙ sym (says-no number size steps other))
    (cases_eq number size)

-- ---- the four numbers

-- the number of a kind
abbrev number : HtmlScanGuard → Kind → ℕ
number guard Comment = guard.comment
number guard Cdata = guard.cdata
number guard Declaration = guard.declaration
number guard Processing = guard.processing

is_shut-says : (size : ℕ) (guard : HtmlScanGuard) (steps : ℕ) (kind : Kind)
    → is_shut (shut_kinds size guard steps) kind ≡ says_shut (number guard kind) size steps
is_shut-says size guard steps Comment = refl
is_shut-says size guard steps Cdata = refl
is_shut-says size guard steps Declaration = refl
is_shut-says size guard steps Processing = refl

with_number-own : (guard : HtmlScanGuard) (kind : Kind) → with_number guard kind (number guard kind) ≡ guard
with_number-own guard Comment = refl
with_number-own guard Cdata = refl
with_number-own guard Declaration = refl
with_number-own guard Processing = refl

ShutKinds-same : (a b : ShutKinds) → ((kind : Kind) → is_shut a kind ≡ is_shut b kind) → a ≡ b
ShutKinds-same a b same =
    let first = ap (λ x. record a { comment = x }) (same Comment) in
    let second = ap (λ x. record a { comment = b.comment; cdata = x }) (same Cdata) in
    let third = ap (λ x. record a { comment = b.comment; cdata = b.cdata; declaration = x }) (same Declaration) in
    let fourth =
    ap (λ x. record a { comment = b.comment; cdata = b.cdata; declaration = b.declaration; processing = x }) (same Processing) in
    first ∙ second ∙ third ∙ fourth

-- each number after a scan is what it was, or the size, or, of the comments, at most the end of the find
record NumbersAfter (size end : ℕ) (guard after : HtmlScanGuard) : Type 0 where
  comment : (after.comment ≡ guard.comment) ⊎ ((after.comment ≡ size) ⊎ (after.comment ≤ end))
  cdata : (after.cdata ≡ guard.cdata) ⊎ (after.cdata ≡ size)
  declaration : (after.declaration ≡ guard.declaration) ⊎ (after.declaration ≡ size)
  processing : (after.processing ≡ guard.processing) ⊎ (after.processing ≡ size)

same-numbers : (size end : ℕ) (guard : HtmlScanGuard) → NumbersAfter size end guard guard
same-numbers size end guard =
    record { comment = inl refl; cdata = inl refl; declaration = inl refl; processing = inl refl }

kind-numbers : (text : List ℕ) (e : ℕ) (guard : HtmlScanGuard) (kind : Kind) (stopped : Bool) (found : Option ℕ)
    → NumbersAfter (length text) (unwrap_or (option_map (λ hit. hit + length (closer kind)) found) e) guard
    (cond stopped guard (searched_guard text guard kind found))
kind-numbers text e guard kind true found = same-numbers _ _ guard
kind-numbers text e guard Comment false None =
    record { comment = inr (inl refl); cdata = inl refl; declaration = inl refl; processing = inl refl }
kind-numbers text e guard Cdata false None =
    record { comment = inl refl; cdata = inr refl; declaration = inl refl; processing = inl refl }
kind-numbers text e guard Declaration false None =
    record { comment = inl refl; cdata = inl refl; declaration = inr refl; processing = inl refl }
kind-numbers text e guard Processing false None =
    record { comment = inl refl; cdata = inl refl; declaration = inl refl; processing = inr refl }
kind-numbers text e guard Comment false (Some hit) =
    record { comment = inr (inr (omega arith)); cdata = inl refl; declaration = inl refl; processing = inl refl }
kind-numbers text e guard Cdata false (Some hit) = same-numbers _ _ guard
kind-numbers text e guard Declaration false (Some hit) = same-numbers _ _ guard
kind-numbers text e guard Processing false (Some hit) = same-numbers _ _ guard

numbers-after : (text : List ℕ) (e : ℕ) (guard : HtmlScanGuard) (opening : Opening) (p : ℕ)
    → NumbersAfter (length text) (unwrap_or (end_of text opening p) e) guard (guard_after text guard opening p)
numbers-after text e guard (Begins kind) p =
    kind-numbers text e guard kind (is_stopped guard p kind) (first_closer text kind p)
numbers-after text e guard Hyphen p = same-numbers _ _ guard
numbers-after text e guard Bracket p = same-numbers _ _ guard
numbers-after text e guard Nothing p = same-numbers _ _ guard

cost-processing : (text : List ℕ) (f h : Kind → Bool) (p : ℕ) → f Processing ≡ h Processing
    → cost text f (Begins Processing) p ≡ cost text h (Begins Processing) p
unfolding cost
cost-processing text f h p same = rw same

cost-nothing : (text : List ℕ) (f h : Kind → Bool) (p : ℕ) → cost text f Nothing p ≡ cost text h Nothing p
unfolding cost
cost-nothing text f h p = refl

closer-some : (kind : Kind) → 0 < length (closer kind)
closer-some Comment = omega arith
closer-some Cdata = omega arith
closer-some Declaration = omega arith
closer-some Processing = omega arith

comment-or : (kind : Kind) (size hit : ℕ) → hit + length (closer kind) ≤ size → (hit + 3 ≤ size) ⊎ (kind ≡ Comment → ⊥)
comment-or Comment size hit within = inl within
comment-or Cdata size hit within = inl within
comment-or Declaration size hit within = inr (λ e. cc)
comment-or Processing size hit within = inr (λ e. cc)

-- the end of the last find after a step
end-bounds : (found : Option ℕ) (e p size : ℕ) → e ≤ p → e ≤ size → IfSome found (λ end. (p ≤ end) × (end ≤ size))
    → (e ≤ unwrap_or found e) × (unwrap_or found e ≤ size)
end-bounds None e p size outside in_text bounds = (omega arith, in_text)
end-bounds (Some end) e p size outside in_text bounds = (omega (arith, bounds.0), bounds.1)

outside-some : (found : Option ℕ) (e q : ℕ) → unwrap_or found e ≤ q → IfSome found (λ end. end ≤ q)
outside-some None e q outside = tt
outside-some (Some end) e q outside = outside

-- ---- one step

module _ (t : CountedBytes) (guard : HtmlScanGuard) (last e steps p : ℕ) (fields : AreRunFields t guard last e steps) (two : 2 ≤ p) (in_text : p ≤ length t.text) (outside : e ≤ p) where
  fresh-number : steps ≡ 0 → (kind : Kind) → number guard kind ≡ 0
  fresh-number none Comment = (fields.new_guard none).0
  fresh-number none Cdata = (fields.new_guard none).1
  fresh-number none Declaration = (fields.new_guard none).2
  fresh-number none Processing = (fields.new_guard none).3

  processing-agrees : is_stopped guard p Processing ≡ is_shut (shut_kinds (length t.text) guard steps) Processing
  processing-agrees =
      stops-upto guard.processing (length t.text) steps p (omega arith) in_text fields.low_processing (λ none. fresh-number none Processing)

  -- below the end of the text the guard stops exactly the shut kinds
  kind-agrees : p < length t.text → (kind : Kind)
      → is_stopped guard p kind ≡ is_shut (shut_kinds (length t.text) guard steps) kind
  kind-agrees below Comment =
      stops-below guard.comment (length t.text) steps e p below outside fields.low_comment (λ none. fresh-number none Comment)
  kind-agrees below Cdata =
      stops-below guard.cdata (length t.text) steps 0 p below (omega arith) (λ other. omega (arith, fields.low_cdata other)) (λ none. fresh-number none Cdata)
  kind-agrees below Declaration =
      stops-below guard.declaration (length t.text) steps 0 p below (omega arith)
      (λ other. omega (arith, fields.low_declaration other)) (λ none. fresh-number none Declaration)
  kind-agrees below Processing = processing-agrees

  cost-declared : cost t.text (is_stopped guard p) (declared_at t.text p) p
      ≡ cost t.text (is_shut (shut_kinds (length t.text) guard steps)) (declared_at t.text p) p
  cost-declared =
      ⊎_elim
      (λ below. cost-same t.text (is_stopped guard p) _ (declared_at t.text p) p (kind-agrees below))
      (λ past. rw (declared_at-end t.text p (slice_get_past t.text p past))
      (cost-nothing t.text (is_stopped guard p) (is_shut (shut_kinds (length t.text) guard steps)) p))
      (cases_lt p (length t.text))

  cost-agrees : (mark : ℕ) → opener_before t.text p ≡ Some mark
      → cost t.text (is_stopped guard p) (opening_at t.text p) p ≡ cost t.text (is_shut (shut_kinds (length t.text) guard steps)) (opening_at t.text p) p
  cost-agrees mark opener =
      ⊎_elim
      (λ bang. rw (opening_at-declared t.text p bang.0) cost-declared)
      (λ question. rw (opening_at-processing t.text p question.0)
      (cost-processing t.text (is_stopped guard p) (is_shut (shut_kinds (length t.text) guard steps)) p processing-agrees))
      (opener-mark t.text p mark opener)

  -- ---- the shut kinds after the step

  same-shut : (after : HtmlScanGuard) (kind : Kind) → number after kind ≡ number guard kind
      → is_shut (shut_kinds (length t.text) after (steps + 1)) kind ≡ is_shut (shut_kinds (length t.text) guard steps) kind
  same-shut after kind same =
      is_shut-says (length t.text) after (steps + 1) kind
      ∙ ap (λ x. says_shut x (length t.text) (steps + 1)) same
      ∙ says-same (number guard kind) (length t.text) steps (omega arith) (λ none. fresh-number none kind)
      ∙ sym (is_shut-says (length t.text) guard steps kind)

  now-shut : says_shut (length t.text) (length t.text) (steps + 1) ≡ true
  now-shut = says-yes (length t.text) (length t.text) (steps + 1) refl (omega arith)

  missed-shut : (kind other : Kind)
      → is_shut (shut_kinds (length t.text) (with_number guard kind (length t.text)) (steps + 1)) other
      ≡ is_shut (shutting (shut_kinds (length t.text) guard steps) kind) other
  missed-shut Comment Comment = now-shut
  missed-shut Comment Cdata = same-shut guard Cdata refl
  missed-shut Comment Declaration = same-shut guard Declaration refl
  missed-shut Comment Processing = same-shut guard Processing refl
  missed-shut Cdata Comment = same-shut guard Comment refl
  missed-shut Cdata Cdata = now-shut
  missed-shut Cdata Declaration = same-shut guard Declaration refl
  missed-shut Cdata Processing = same-shut guard Processing refl
  missed-shut Declaration Comment = same-shut guard Comment refl
  missed-shut Declaration Cdata = same-shut guard Cdata refl
  missed-shut Declaration Declaration = now-shut
  missed-shut Declaration Processing = same-shut guard Processing refl
  missed-shut Processing Comment = same-shut guard Comment refl
  missed-shut Processing Cdata = same-shut guard Cdata refl
  missed-shut Processing Declaration = same-shut guard Declaration refl
  missed-shut Processing Processing = now-shut

  missed : (kind : Kind)
      → shut_kinds (length t.text) (with_number guard kind (length t.text)) (steps + 1)
      ≡ shutting (shut_kinds (length t.text) guard steps) kind
  missed kind = ShutKinds-same _ _ (missed-shut kind)

  unchanged : shut_kinds (length t.text) guard (steps + 1) ≡ shut_kinds (length t.text) guard steps
  unchanged = ShutKinds-same _ _ (λ kind. same-shut guard kind refl)

  hit-shut : (kind other : Kind) (hit : ℕ) → is_stopped guard p kind ≡ false → p < length t.text
      → (hit + 3 ≤ length t.text) ⊎ (kind ≡ Comment → ⊥)
      → is_shut (shut_kinds (length t.text) (searched_guard t.text guard kind (Some hit)) (steps + 1)) other ≡ is_shut
      (shut_kinds (length t.text) guard steps) other
  hit-shut Comment Comment hit free below ends =
      says-no (hit + 1) (length t.text) (steps + 1) (⊎_elim (λ fits. λ same. omega arith) (λ no_comment. absurd (no_comment refl)) ends)
      ∙ sym free ∙ kind-agrees below Comment
  hit-shut Comment Cdata hit free below ends = same-shut guard Cdata refl
  hit-shut Comment Declaration hit free below ends = same-shut guard Declaration refl
  hit-shut Comment Processing hit free below ends = same-shut guard Processing refl
  hit-shut Cdata other hit free below ends = same-shut guard other refl
  hit-shut Declaration other hit free below ends = same-shut guard other refl
  hit-shut Processing other hit free below ends = same-shut guard other refl

  -- a stopped kind is shut, so its number is the size
  stopped-number : (kind : Kind) → is_stopped guard p kind ≡ true → (p < length t.text) ⊎ (kind ≡ Processing)
      → number guard kind ≡ length t.text
  stopped-number kind stopped where_to =
      let shut : is_shut (shut_kinds (length t.text) guard steps) kind ≡ true =
      ⊎_elim (λ below. sym (kind-agrees below kind) ∙ stopped)
      (λ last_kind. subst (λ k. is_shut (shut_kinds (length t.text) guard steps) k ≡ true) (sym last_kind)
      (sym processing-agrees ∙ subst (λ k. is_stopped guard p k ≡ true) last_kind stopped))
      where_to in
      eqb-true _ _ (and_parts _ _ (sym (is_shut-says (length t.text) guard steps kind) ∙ shut)).1

  kind-shut : (kind : Kind) → (p < length t.text) ⊎ (kind ≡ Processing) → (stopped : Bool)
      → is_stopped guard p kind ≡ stopped → (found : Option ℕ) → first_closer t.text kind p ≡ found
      → cond stopped None (closed_at t.text kind p) ≡ closed_at t.text kind p
      → shut_kinds (length t.text) (cond stopped guard (searched_guard t.text guard kind found)) (steps + 1)
      ≡ shut_by (shut_kinds (length t.text) guard steps) (Begins kind) (closed_at t.text kind p)
  kind-shut kind where_to true is found same answers =
      rw (← answers) (ap (λ g. shut_kinds (length t.text) g (steps + 1)) (sym (with_number-own guard kind) ∙ ap (with_number guard kind) (stopped-number kind is where_to)) ∙ missed kind)
  kind-shut kind where_to false is None same answers = rw same (missed kind)
  kind-shut kind where_to false is (Some hit) same answers =
      let within = first_offset-bounds t.text (closer kind) (p + lead kind) hit same in
      let room : 0 < length (closer kind) = closer-some kind in
      rw same (ShutKinds-same _ _ (λ other. hit-shut kind other hit is (omega arith) (comment-or kind (length t.text) hit within.1)))

  opening-shut : (opening : Opening)
      → ((kind : Kind) → opening ≡ Begins kind → (p < length t.text) ⊎ (kind ≡ Processing))
      → guarded_answer t.text guard opening p ≡ end_of t.text opening p
      → shut_kinds (length t.text) (guard_after t.text guard opening p) (steps + 1) ≡ shut_by
      (shut_kinds (length t.text) guard steps) opening (end_of t.text opening p)
  opening-shut (Begins kind) where_to answers = kind-shut kind (where_to kind refl) _ refl _ refl answers
  opening-shut Hyphen where_to answers = unchanged
  opening-shut Bracket where_to answers = unchanged
  opening-shut Nothing where_to answers = unchanged

  -- what begins at the end of the text is a processing instruction
  where-begins : (mark : ℕ) → opener_before t.text p ≡ Some mark → (kind : Kind) → opening_at t.text p ≡ Begins kind
      → (p < length t.text) ⊎ (kind ≡ Processing)
  where-begins mark opener kind begins =
      ⊎_elim
      (λ bang. ⊎_elim (λ below. inl below)
      (λ past.
      let nothing : Nothing ≡ Begins kind =
      sym (declared_at-end t.text p (slice_get_past t.text p past)) ∙ sym (opening_at-declared t.text p bang.0)
      ∙ begins in
      absurd (cc))
      (cases_lt p (length t.text)))
      (λ question.
      let same : Begins kind ≡ Begins Processing = sym begins ∙ opening_at-processing t.text p question.0 in
      let known : kind ≡ Processing = cc in
      inr known)
      (opener-mark t.text p mark opener)

  -- ---- all together

  module _ (mark : ℕ) (opener : opener_before t.text p ≡ Some mark) (answer : Option ℕ) (after : HtmlScanGuard) (u : CountedBytes)
      (answers : answer ≡ guarded_answer t.text guard (opening_at t.text p) p) (guards : after ≡ guard_after t.text guard (opening_at t.text p) p)
      (counts : u ≡ passing t (cost t.text (is_stopped guard p) (opening_at t.text p) p)) (scan : IsTrueScan t.text p answer after) where
    -- the fields stand for the run after the step
    pub run-steps : run_of u after p (unwrap_or answer e) (steps + 1) ≡ run_step (run_of t guard last e steps) p
    run-steps =
        let cost_is = cost-agrees mark opener in
        let shut_is = opening-shut (opening_at t.text p) (where-begins mark opener) (sym answers ∙ scan.finds) in
        rw (counts, guards, scan.finds, shut_is, cost_is)

    numbers : NumbersAfter (length t.text) (unwrap_or answer e) guard after
    numbers =
        rw (guards, scan.finds) (numbers-after t.text e guard (opening_at t.text p) p)

    low-kind : (old new end : ℕ) → (new ≡ old) ⊎ (new ≡ length t.text) → (old ≢ length t.text → old ≡ 0)
        → new ≢ length t.text → new ≡ 0
    low-kind old new end changed low other =
        ⊎_elim (λ same. same ∙ low (λ is. other (same ∙ is))) (λ size. absurd (other size)) changed

    low-comment : (old new end : ℕ) → (new ≡ old) ⊎ ((new ≡ length t.text) ⊎ (new ≤ end)) → e ≤ end
        → (old ≢ length t.text → old ≤ e) → new ≢ length t.text → new ≤ end
    low-comment old new end changed grown low other = ⊎_elim
        (λ same. let below = low (λ is. other (same ∙ is)) in omega arith)
        (λ rest. ⊎_elim (λ size. absurd (other size)) (λ below. below) rest)
        changed

    ends : (e ≤ unwrap_or answer e) × (unwrap_or answer e ≤ length t.text)
    ends =
        rw scan.finds (end-bounds (find_at t.text p) e p (length t.text) outside fields.find_end_in_text (end_of-bounds t.text (opening_at t.text p) p))

    true-later : (q : ℕ) → p < q → unwrap_or answer e ≤ q → IsTrueGuard t.text after q
    true-later q later_offset outside_find = scan.stays_true q later_offset (outside-some answer e q outside_find)

    -- the fields are still those of a run
    pub fields-stay : last < p → AreRunFields u after p (unwrap_or answer e) (steps + 1)
    fields-stay later =
        let budget =
        subst IsWithinBudget (sym run-steps) (run_step-budget (run_of t guard last e steps) p fields.budget outside in_text) in
        let same : u.text ≡ t.text = ap (λ v. v.text) counts in
        record {
          true_guard = rw same true-later;
          low_comment =
              rw same (low-comment guard.comment after.comment (unwrap_or answer e) numbers.comment ends.0 fields.low_comment);
          low_cdata = rw same (low-kind guard.cdata after.cdata 0 numbers.cdata fields.low_cdata);
          low_declaration =
              rw same (low-kind guard.declaration after.declaration 0 numbers.declaration fields.low_declaration);
          low_processing =
              rw same (low-kind guard.processing after.processing 0 numbers.processing fields.low_processing);
          new_guard = λ none. absurd (omega arith);
          steps_at_most_last = omega (arith, fields.steps_at_most_last);
          last_in_text = rw same in_text;
          find_end_in_text = rw same ends.1;
          budget = budget;
        }

-- an offset just after an opener, above the last offset and not below the find, is not refused
pub accepted : (run : Run) (p mark : ℕ) → opener_before run.text p ≡ Some mark → run.last < p → run.find_end ≤ p
    → offset_refusal run p ≡ None
accepted run p mark opener later outside = rw (opener, lt-leb p run.last later, le-ltb p run.find_end outside)
