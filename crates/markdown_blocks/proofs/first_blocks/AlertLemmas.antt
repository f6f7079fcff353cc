-- What the scanner of alerts answers at a text.
use Rattle.std.proofs.Common.{ℕ, ◌≡◌, Option, Some, None, ap, ◌∙◌, arith}
use Rattle.std.specs.Option.{option_map}
use Rattle.markdown_values.specs.declared.values.BlockQuoteKind.{BlockQuoteKind}
use Rattle.markdown_scanners_tree.specs.line.ItemRules.{start_of}
use Rattle.markdown_scanners_tree.specs.line.Outcome.{Outcome, alert_line, alert_outcome, not_found}
use Rattle.markdown_scanners_tree.specs.line.State.{LineState, bytes_further}
use Rattle.markdown_blocks.specs.events.Events.{LeafBlock}
use Rattle.markdown_blocks.specs.first_blocks.Alerts.{alert_with}

abbrev outcome_by : LineState → Option (BlockQuoteKind × ℕ) → Outcome BlockQuoteKind
outcome_by s line = elim line [
  | Some alert ↦ record { answer = Some alert.0; state = bytes_further alert.1 s }
  | None ↦ not_found s
]

module _ (block : LeafBlock) (s : LineState) (here : s ≡ start_of block.text) where
  abbrev start : LineState
  start = start_of block.text

  pub alert_some : (kind : BlockQuoteKind) (len : ℕ) → Some kind ≡ (alert_outcome s).answer → len ≡ (alert_outcome s).state.offset
      → Some (alert_with block (kind, len)) ≡ option_map (alert_with block) (alert_line block.text)
  alert_some kind len found offset =
      by_line (alert_line block.text) (found ∙ ap (λ s. (alert_outcome s).answer) here) (offset ∙ ap (λ s. (alert_outcome s).state.offset) here)
    where
      by_line : (line : Option (BlockQuoteKind × ℕ)) → Some kind ≡ (outcome_by start line).answer → len ≡ (outcome_by start line).state.offset
          → Some (alert_with block (kind, len)) ≡ option_map (alert_with block) line
      by_line None found offset = cc
      by_line (Some line) found offset =
          let same : len ≡ line.1 = omega (arith, offset) in
          ap (λ n. Some (alert_with block (kind, n))) same ∙ ap (option_map (λ k. alert_with block (k, line.1))) found
