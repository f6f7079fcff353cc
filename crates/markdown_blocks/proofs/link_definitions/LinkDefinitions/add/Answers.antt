use Rattle.std.proofs.Common.{ℕ, List, Some, cond, ap, subst, sym, ◌∙◌, ◌≡◌}
use Rattle.std.specs.Prelude.{is_none, not, unwrap_or}
use Rattle.std.specs.List.{All}
use Rattle.std.specs.Map.{keys_of, lookup}
use Rattle.std.specs.Ordering.{is_eq, nat_cmp}
use Rattle.std.specs.Str.{bytes_eq}
use Rattle.std.specs.Cmp.Lexicographic.{slice_cmp}
use Rattle.std.proofs.lemmas.Map.Views.{All-keys-insert_entry}
use Rattle.markdown_blocks.specs.link_definitions.LinkDefinitions.{Known, Target, target_in}
use Rattle.markdown_blocks.specs.link_definitions.Listed.{IsFolding}
use Rattle.markdown_blocks.proofs.link_definitions.NamedLemmas.{found_by_order, known_once, leads, none_in, put_in_order, put_target, target_or}
use Rattle.markdown_blocks.proofs.link_definitions.LinkDefinitions.add.Goals.{in-Vacant, in-Occupied}
use Rattle.markdown_blocks.proofs.link_definitions.LinkDefinitions.add.Goals as goal

pub invariant_of-self : goal.invariant_of-self
invariant_of-self c = subst (λ es. All IsFolding (keys_of es)) (sym (rw c.in_err-entry.was at c.entry.follows.holds-at-none)) c.self.invariant

pub invariant_of-self-2 : goal.invariant_of-self-2
invariant_of-self-2 c =
    let map_is = c.self-3-1.given.1 (sym c.in_ok-entry.ensures.same_map) in
    subst (λ es. All IsFolding (keys_of es))
    (sym (ap (λ m. m.entries) map_is ∙ c.in_ok-entry.ensures.update.1 c.or_insert.result.now))
    (All-keys-insert_entry _ _ _ IsFolding _ c.self.invariant (c.args.label.now, c.in_ok-key.ensures))

pub returns-clause-is_first : goal.returns-clause-is_first
returns-clause-is_first c =
    let key = c.in_ok-key.key in
    let is : c.match-entry.is_first ≡ is_none (lookup (λ k. is_eq (slice_cmp nat_cmp key k)) c.self.inside.by_key.entries) =
    elim c.match-entry.branch [
      | in-Vacant w ↦ w.is_first-is ∙ sym (ap is_none (rw w.in-Vacant.is at c.in_ok-entry.ensures.found))
      | in-Occupied w ↦ w.is_first-is ∙ ap not (sym (rw w.in-Occupied.is at c.in_ok-entry.ensures.found).0)
    ] in
    rw (← c.self.view_is, ← c.in_ok-key.ensures) (is ∙ ap is_none (found_by_order c.self.inside.by_key.entries key) ∙ none_in _)

pub returns-clause-added : goal.returns-clause-added
returns-clause-added c =
    let old = c.self.inside.by_key.entries in
    let key = c.in_ok-key.key in
    let lent = c.or_insert.result.now in
    let map_is = c.self-3-1.given.1 (sym c.in_ok-entry.ensures.same_map) in
    let put = subst (λ (es : Known). (k : List ℕ) → lookup (bytes_eq k) es
    ≡ cond (bytes_eq key k) (Some lent) (lookup (bytes_eq k) old)) (sym (ap (λ m. m.entries) map_is))
    (put_in_order old _ key lent (c.in_ok-entry.ensures.update.0 lent).0) in
    let is = c.or_insert.ensures.value
    ∙ ap (λ found. unwrap_or found c.args.definition) (c.in_ok-entry.ensures.value ∙ found_by_order old key) in
    let target = ap target_in is ∙ target_or (lookup (bytes_eq key) old) c.args.definition in
    let put_there = subst (λ (t : Target). (k : List ℕ) → leads c.self-3-1.given.0.entries k
    ≡ cond (bytes_eq key k) (Some t) (leads old k)) target (put_target old _ key lent put) in
    known_once c.args.self.now _ c.args.label.now c.args.definition.target (rw (← c.self.view_is, ← c.in_ok-key.ensures) put_there)
