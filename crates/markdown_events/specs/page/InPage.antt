-- Leaf blocks that stand in a page as those do that are found in it.
use Rattle.std.specs.Prelude.{ℕ, ◌-◌, ◌<◌, ◌≡◌, List, [], ◌∷◌, ◌++◌, length, take, Option, Some, None, ⊤}
use Rattle.std.specs.List.{prefix_len}
use Rattle.markdown_scanners_tree.specs.Bytes.{is_space_or_tab}
use Rattle.markdown_blocks.specs.containers.Containers.{past_first_line}
use Rattle.markdown_blocks.specs.declared.blocks.BlockKind.{BlockKind}
use Rattle.markdown_blocks.specs.declared.blocks.BlockKind.TheVariants.{Fenced, Paragraph}
use Rattle.markdown_blocks.specs.declared.containers.Container.{Container}
use Rattle.markdown_blocks.specs.declared.first_blocks.Task.{Task}
use Rattle.markdown_blocks.specs.events.Events.{Event, LeafBlock, starts, leaf, ends}
use Rattle.markdown_blocks.specs.first_blocks.Tasks.{task_of}
use Rattle.markdown_blocks.specs.first_blocks.Waiting.{waiting_next}
use Rattle.markdown_blocks.specs.laws.Characters.{IsCutOut}
use Rattle.markdown_blocks.specs.laws.FirstTexts.{BeginsPlain}
use Rattle.markdown_blocks.specs.laws.Order.{HoldsText}

-- A fence is of bytes of ASCII. (4.5)
abbrev pub HasAsciiFence : BlockKind → Type 0
HasAsciiFence (Fenced count byte) = byte < 128
HasAsciiFence kind = ⊤

-- A leaf block in these containers, with so many of which its first line goes on, and of the last of which it is the first block, if this
-- one waits for that.
pub record IsInPage (page : List ℕ) (outer : List Container) (kept : ℕ) (waiting : Option Container) (block : LeafBlock) : Type 0 where
  pub cut_out : IsCutOut page block
  pub fence : HasAsciiFence block.kind
  pub text : HoldsText page outer kept block
  pub plain : BeginsPlain waiting block

-- so is each leaf block among the events that follow, where these containers are open
abbrev pub AreInPage : List ℕ → List Container → ℕ → Option Container → List Event → Type 0
AreInPage page outer kept waiting [] = ⊤
AreInPage page outer kept waiting (starts container before ∷ later) =
    AreInPage page (outer ++ past_first_line container ∷ []) kept (Some container) later
AreInPage page outer kept waiting (leaf block ∷ later) =
    IsInPage page outer kept waiting block × AreInPage page outer (length outer) (waiting_next waiting (leaf block)) later
AreInPage page outer kept waiting (ends ∷ later) =
    let around = take (length outer - 1) outer in AreInPage page around (length around) None later

-- It is a paragraph that begins with this task list marker.
pub record HasMarker (page : List ℕ) (outer : List Container) (kept : ℕ) (block : LeafBlock) (task : Task) : Type 0 where
  pub cut_out : IsCutOut page block
  pub text : HoldsText page outer kept block
  pub paragraph : block.kind ≡ Paragraph
  pub plain : prefix_len is_space_or_tab block.text ≡ 0
  pub found : task_of block ≡ Some task
