-- Reports of where links lead.
use Rattle.std.proofs.Common.{ℕ, Bool, false, List, [], ◌∷◌, ◌||◌, ◌==◌, ◌≡◌, length, Option, Some, None, Result, Ok, Err, refl, ap, subst, sym, if◌then◌else◌}
use Rattle.std.specs.Prelude.{MatchBool}
use Rattle.markdown_values.specs.declared.values.extensions.Extensions.{Extensions}
use Rattle.program_faults.specs.declared.reasons.Reason.{Reason}
use Rattle.page_links.specs.anchors.Anchors.{HasAnchors}
use Rattle.page_links.specs.checks.Checks.{AreTargetReports, IsFileReport, IsPageReport, IsTargetReport, is_read, is_unread}
use Rattle.page_links.specs.checks.Checks.{fragment_report, is_front, leads_away, reported}
use Rattle.page_links.specs.checks.private.Pages.{AreKept}
use Rattle.page_links.specs.declared.checks.FileState.{FileState}
use Rattle.page_links.specs.declared.reports.Finding.TheVariants.{NoAnchor}
use Rattle.page_links.specs.links.Links.{Seen}
use Rattle.page_links.specs.reports.Reports.{Reported}
use Rattle.page_links.specs.targets.Targets.{fragment_of, fragment_text, opened_path, path_of}

-- where the same anchors are kept, the same is reported of a fragment
pub same_fragment : (kept anchors : List (List ℕ)) → HasAnchors kept anchors → (it : Seen) (fragment : Option (List ℕ))
    → fragment_report kept it fragment ≡ fragment_report anchors it fragment
same_fragment kept anchors are it None = refl
same_fragment kept anchors are it (Some fragment) =
    ap (λ (known : Bool). if is_front (fragment_text fragment) || known then [] else reported NoAnchor it) (are (fragment_text fragment))

module _ (reads : List ℕ → Result (List ℕ) Reason → Type 0) (setting : Extensions) where
  -- what is reported by the anchors that are kept of a page
  pub reports_kept : (path : List ℕ) (it : Seen) (kept : List (List ℕ)) → AreKept reads setting path kept
      → IsPageReport reads setting path it (fragment_report kept it (fragment_of it.destination))
  reports_kept path it kept are =
      subst (IsPageReport reads setting path it) (sym (same_fragment kept are.0 are.2 it (fragment_of it.destination))) (is_read are.0 are.1)

  -- what is reported of a page where it is known by another path is reported of it, if reading that comes to the same
  pub same_page : (path real : List ℕ) → ((given : Result (List ℕ) Reason) → reads real given → reads path given) → (it : Seen) (here : List Reported)
      → IsPageReport reads setting real it here → IsPageReport reads setting path it here
  same_page path real same it here (is_read anchors at) = is_read anchors (at.0, same (Ok at.0) at.1, at.2)
  same_page path real same it here (is_unread why given) = is_unread why (same (Err why) given)

  module _ (finds : List ℕ → FileState → Type 0) (root : Option (List ℕ)) where
    -- this is reported of a link by its fragment, or by its file
    abbrev Asked : List ℕ → Seen → List Reported → List Reported → Bool → Type 0
    Asked name it of_fragment here is_alone =
        MatchBool is_alone (here ≡ of_fragment) (IsFileReport reads setting finds root (opened_path root name (path_of it.destination)) it here)

    pub reports_file : (name : List ℕ) (anchors : List (List ℕ)) (it : Seen) (here : List Reported) → leads_away root it ≡ false
        → (length (path_of it.destination) == 0) ≡ false → IsFileReport reads setting finds root (opened_path root name (path_of it.destination)) it here
        → IsTargetReport reads setting finds root name anchors it here
    reports_file name anchors it here stays some found =
        let of_fragment = fragment_report anchors it (fragment_of it.destination) in
        subst (λ (b : Bool). MatchBool b (here ≡ []) (Asked name it of_fragment here (length (path_of it.destination) == 0))) (sym stays)
        (subst (Asked name it of_fragment here) (sym some) found)

    module _ (kept anchors : List (List ℕ)) (are : HasAnchors kept anchors) where
      same_report : (name : List ℕ) (it : Seen) (here : List Reported)
          → IsTargetReport reads setting finds root name kept it here → IsTargetReport reads setting finds root name anchors it here
      same_report name it here =
          subst (λ (report : List Reported). MatchBool (leads_away root it) (here ≡ [])
          (Asked name it report here (length (path_of it.destination) == 0))) (same_fragment kept anchors are it (fragment_of it.destination))

      -- what is reported where the same anchors are kept is what is reported of them
      pub same_reports : (name : List ℕ) (links : List Seen) (reports : List Reported)
          → AreTargetReports reads setting finds root name kept links reports → AreTargetReports reads setting finds root name anchors links reports
      same_reports name [] reports made = made
      same_reports name (it ∷ later) reports made =
          (made.0, made.1, same_report name it made.0 made.2, same_reports name later made.1 made.3, made.4)
