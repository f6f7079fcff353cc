-- What the scanner of task list markers answers at a text.
use Rattle.std.proofs.Common.{ℕ, Bool, true, false, ◌==◌, ◌&&◌, List, [], ◌∷◌, ◌≡◌, ◌≤◌, ◌+◌, ◌-◌, Option, Some, None, ap, sym, refl, ◌∙◌, arith, get_or}
use Rattle.std.proofs.Common.{length}
use Rattle.std.specs.Option.{option_map}
use Rattle.std.proofs.lemmas.Bool.Decides.{nat_tests}
use Rattle.std.proofs.lemmas.List.{get_or-drop, length-drop}
use Rattle.markdown_scanners_tree.specs.Ascii.{left_bracket, right_bracket}
use Rattle.markdown_scanners_tree.specs.Bytes.{is_white_space}
use Rattle.markdown_scanners_tree.specs.line.ItemRules.{start_of}
use Rattle.markdown_scanners_tree.specs.line.Outcome.{Outcome, not_found, task_box, task_outcome}
use Rattle.markdown_scanners_tree.specs.line.State.{LineState, after_space, bytes_further, unscanned}
use Rattle.markdown_blocks.specs.declared.first_blocks.Task.{Task}
use Rattle.markdown_blocks.specs.events.Events.{LeafBlock}
use Rattle.markdown_blocks.specs.first_blocks.Tasks.{is_task_text, scanned_task, task_of}

module _ (block : LeafBlock) (s : LineState) (here : s ≡ start_of block.text) (goes_on : is_task_text block.text ≡ true) where
  abbrev task_with : ℕ → Bool → Task
  task_with len checked = record { is_checked = checked; offset = block.offset; len = len }

  pub task_none : None ≡ (task_outcome s).answer → None ≡ task_of block
  task_none none = rw goes_on
      (ap (option_map (task_with (task_outcome (start_of block.text)).state.offset)) (none ∙ ap (λ s. (task_outcome s).answer) here))

  pub task_some : (checked : Bool) (len : ℕ) → Some checked ≡ (task_outcome s).answer → len ≡ (task_outcome s).state.offset
      → Some (record { is_checked = checked; offset = block.offset; len = len }) ≡ task_of block
  task_some checked len found offset = rw goes_on
      (ap (λ l. Some (task_with l checked)) (offset ∙ ap (λ s. (task_outcome s).state.offset) here)
      ∙ ap (option_map (task_with (task_outcome (start_of block.text)).state.offset)) (found ∙ ap (λ s. (task_outcome s).answer) here))

-- where its line does not go on after it, there is none
pub task_alone : (block : LeafBlock) → is_task_text block.text ≡ false → None ≡ task_of block
task_alone block ends = rw ends refl

-- a task is what the scanner finds
task_scanned : (block : LeafBlock) (task : Task) → task_of block ≡ Some task → scanned_task block ≡ Some task
task_scanned block task is = by (is_task_text block.text) refl
  where
    by : (goes_on : Bool) → is_task_text block.text ≡ goes_on → scanned_task block ≡ Some task
    by true goes_on = rw goes_on at is
    by false goes_on = absurd (let none = rw goes_on at is in cc)

-- ---- a marker stands in the text

box_some : (bytes : List ℕ) (checked : Bool) → task_box bytes ≡ Some checked → 4 ≤ length bytes
box_some [] checked is = absurd (cc)
box_some (a ∷ []) checked is = absurd (cc)
box_some (a ∷ b ∷ []) checked is = absurd (cc)
box_some (a ∷ b ∷ c ∷ []) checked is = absurd (cc)
box_some (a ∷ b ∷ c ∷ d ∷ more) checked is = omega arith

-- with its right bracket
box_bracket : (bytes : List ℕ) (checked : Bool) → task_box bytes ≡ Some checked → get_or bytes 2 0 ≡ right_bracket
box_bracket [] checked is = absurd (cc)
box_bracket (a ∷ []) checked is = absurd (cc)
box_bracket (a ∷ b ∷ []) checked is = absurd (cc)
box_bracket (a ∷ b ∷ c ∷ []) checked is = absurd (cc)
box_bracket (a ∷ b ∷ c ∷ d ∷ more) checked is = by (a == left_bracket && c == right_bracket && is_white_space d) refl
  where
    by : (t : Bool) → (a == left_bracket && c == right_bracket && is_white_space d) ≡ t → c ≡ right_bracket
    by true all = grind (arith, nat_tests)
    by false none = absurd (let lost = rw none at is in cc)

module _ (block : LeafBlock) where
  abbrev past_space : LineState
  past_space = after_space 3 (start_of block.text)

  abbrev outcome_of : Option Bool → Outcome Bool
  outcome_of box =
      elim box [
        | Some checked ↦ record { answer = Some checked; state = bytes_further 3 past_space }
        | None ↦ not_found (start_of block.text)
      ]

  abbrev task_by : Option Bool → Option Task
  task_by box =
      option_map (λ checked. record { is_checked = checked; offset = block.offset; len = (outcome_of box).state.offset }) (outcome_of box).answer

  bracket_by : (task : Task) (box : Option Bool) → box ≡ task_box (unscanned past_space) → task_by box ≡ Some task
      → (1 ≤ task.len) × (get_or block.text (task.len - 1) 0 ≡ right_bracket)
  bracket_by task None found is = absurd (cc)
  bracket_by task (Some checked) found is =
      let it : record { is_checked = checked; offset = block.offset; len = past_space.offset + 3 } ≡ task = cc in
      let len = ap (λ (t : Task). t.len) it in
      let last : task.len - 1 ≡ past_space.offset + 2 = omega (arith, len) in (
        omega (arith, len),
        ap (λ n. get_or block.text n 0) last ∙ sym (get_or-drop past_space.offset block.text 2 0)
            ∙ box_bracket (unscanned past_space) checked (sym found),
      )

  -- The task list marker of a block ends with a right bracket.
  pub task_bracket : (task : Task) → task_of block ≡ Some task → (1 ≤ task.len) × (get_or block.text (task.len - 1) 0 ≡ right_bracket)
  task_bracket task is = bracket_by task (task_box (unscanned past_space)) refl (task_scanned block task is)

  by_box : (task : Task) (box : Option Bool) → box ≡ task_box (unscanned past_space) → task_by box ≡ Some task
      → (task.offset ≡ block.offset) × (task.len ≤ length block.text)
  by_box task None found is = absurd (cc)
  by_box task (Some checked) found is =
      let it : record { is_checked = checked; offset = block.offset; len = past_space.offset + 3 } ≡ task = cc in
      let some = box_some (unscanned past_space) checked (sym found) in (
        sym (ap (λ (t : Task). t.offset) it),
        omega (arith, ap (λ (t : Task). t.len) it, some, length-drop past_space.offset past_space.bytes),
      )

  -- The task list marker of a block stands at the front of its text.
  pub task_within : (task : Task) → task_of block ≡ Some task → (task.offset ≡ block.offset) × (task.len ≤ length block.text)
  task_within task is = by_box task (task_box (unscanned past_space)) refl (task_scanned block task is)
