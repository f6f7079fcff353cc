-- The anchors of pages that are kept by their paths.
use Rattle.std.proofs.Common.{ℕ, List, ◌≡◌, Some, Result, String, bytes_eq, inl, inr, string_bytes, string_cmp}
use Rattle.std.proofs.Common.{sym, ap, subst, ◌∙◌}
use Rattle.std.specs.BTreeMap.{BTreeMap, get_by_text, Updates as UpdatesMap}
use Rattle.std.specs.Option.{unwrap_or}
use Rattle.std.proofs.lemmas.Bool.{cases_Bool, cond-true, cond-false}
use Rattle.std.proofs.lemmas.Map.Text.{btree_map_updates_text}
use Rattle.std.proofs.lemmas.Slice.Eq.{bytes_eq-Decides}
use Rattle.markdown_values.specs.declared.values.extensions.Extensions.{Extensions}
use Rattle.program_faults.specs.declared.reasons.Reason.{Reason}
use Rattle.page_links.specs.checks.private.Pages.{AreAllKept, AreKept}

module _ (reads : List ℕ → Result (List ℕ) Reason → Type 0) (setting : Extensions) where
  some_same : {X : Type 0} (x y : X) → Some x ≡ Some y → x ≡ y
  some_same x y is = ap (λ o. unwrap_or o x) is

  pub one_more_kept : {Y : Type 0} (old new : BTreeMap (String Y) (List (List ℕ))) (key : String Y) (path : List ℕ) (kept : List (List ℕ))
      → string_bytes key ≡ path → AreAllKept reads setting old → UpdatesMap string_cmp old new key (Some kept) → AreKept reads setting path kept
      → AreAllKept reads setting new
  one_more_kept old new key path kept same are put is other anchors found =
      let one = string_bytes key in
      let now = sym (btree_map_updates_text one old new (Some kept) put other) ∙ found in
      elim (cases_Bool (bytes_eq one other)) [
        | inl equal ↦
            let here = some_same kept anchors (sym (cond-true (bytes_eq one other) (Some kept) (get_by_text old other) equal) ∙ now) in
            subst (AreKept reads setting other) here
            (subst (λ (text : List ℕ). AreKept reads setting text kept) (sym same ∙ (bytes_eq-Decides one other).0 equal) is)
        | inr differ ↦ are other anchors (sym (cond-false (bytes_eq one other) (Some kept) (get_by_text old other) differ) ∙ now)
      ]
