-- What is printed of a page, block by block.
use Rattle.std.proofs.Common.{ℕ, List, [], ◌∷◌, ◌++◌, ◌+◌, ◌-◌, ◌≡◌, length, drop, refl, sym, ap, subst, ◌∙◌, append_assoc}
use Rattle.std.specs.List.{concat}
use Rattle.markdown_scanners_tree.specs.scanners.TextLines.{lines_of}
use Rattle.markdown_blocks.specs.blocks.Pages.{Piece, IsPiece, AreBlocks, lines_in, root}
use Rattle.markdown_blocks.specs.byte_order_mark.ByteOrderMark.{text_of, text_start}
use Rattle.markdown_values.specs.declared.values.extensions.Extensions.{Extensions}
use Rattle.markdown_blocks.specs.containers.Containers.{Between, match_line}
use Rattle.markdown_blocks.specs.declared.step.Step.{Step}
use Rattle.markdown_blocks.specs.declared.taken.Extent.{Extent}
use Rattle.markdown_blocks.specs.events.Events.{Event, LeafBlock, piece_events}
use Rattle.markdown_blocks.specs.events.Given.{block_left}
use Rattle.markdown_blocks.specs.walk.Walk.{IsStep, IsContentOf}
use Rattle.markdown_blocks.proofs.ForCallers.{step_events}
use Rattle.markdown_blocks.proofs.taken.TakenLemmas.{lines_bytes}
use Rattle.markdown_inlines.specs.Inlines.{Setting}
use Rattle.markdown_inlines.specs.Links.{Known}
use Rattle.page_inlines.specs.BlockTexts.{HasPrinted, IsEventsText}
use Rattle.page_inlines.specs.Printed.{AreLabelsOf, IsLeavesText, IsPiecesText, IsPrinted}
use Rattle.page_inlines.proofs.BlockLemmas.{leaves_text}

-- what is printed of the blocks that are left of a page, where these containers are open, and so many lines and bytes stand before
pub record LeftText (setting : Setting) (page : List ℕ) (line start : ℕ) (open_now : Between) (rest text : List ℕ) : Type 0 where
  pub pieces : List Piece
  pub joined : lines_in pieces ≡ lines_of rest
  pub each : AreBlocks open_now pieces []
  pub is_text : IsPiecesText setting page line start pieces text

pub none_left : (setting : Setting) (page : List ℕ) (line start : ℕ) (open_now : Between) (rest : List ℕ) → rest ≡ []
    → LeftText setting page line start open_now rest []
none_left setting page line start open_now rest none = record { pieces = []; joined = sym (ap lines_of none); each = tt; is_text = refl }

pub whole_page : (asked : Extensions) (known : Known) (page text : List ℕ) → AreLabelsOf asked page known
    → LeftText (record { asked = asked; known = known }) page 0 (text_start page) (root asked) (text_of page) text → IsPrinted asked page text
whole_page asked known page text labels left = record {
  known = known;
  are_its_labels = labels;
  pieces = left.pieces;
  is_page = record { joined = left.joined; each = left.each };
  is_text = left.is_text;
}

module _ (setting : Setting) (page : List ℕ) (old new : Between) (lines : List ℕ) (step : Step) (s : IsStep old lines [] step new) (before : Extent)
    (content : List ℕ) (gathered : IsContentOf step new.containers content) where
  block_leaves : (events : List Event) (here : List ℕ) (leaves : List LeafBlock)
      → events ≡ piece_events old.containers before.bytes s.piece leaves → IsEventsText setting page new.containers step.kept events here
      → IsLeavesText setting page (s.piece.kept ++ s.piece.begun) (length s.piece.kept) leaves here
  block_leaves events here leaves given is =
      subst (λ n. IsLeavesText setting page (s.piece.kept ++ s.piece.begun) n leaves here) s.counted
      (subst (λ (o : Between). IsLeavesText setting page o.containers step.kept leaves here) s.open_now
      (leaves_text setting page new.containers (length old.containers - length s.piece.kept) before.bytes (match_line old.containers s.piece.first).state
      s.piece.begun leaves step.kept here
      (subst (λ es. IsEventsText setting page new.containers step.kept es here) given is)))

  -- with the block of a step
  pub block_text : (was now : List ℕ) (later : List ℕ)
      → HasPrinted setting page new.containers step.kept content (block_left step before (length old.containers)) was now
      → LeftText setting page (before.lines + step.block.taken.lines) (before.bytes + step.block.taken.bytes) new (drop step.block.taken.bytes lines) later
      → (more : List ℕ) × LeftText setting page before.lines before.bytes old lines more × (was ++ more ≡ now ++ later)
  block_text was now later p left =
      let leaves = step_events old new lines [] step s before content gathered p.events p.gives in
      let size : step.block.taken.bytes ≡ length (concat (s.piece.first ∷ s.piece.later)) =
      lines_bytes lines step.block.taken.bytes (s.piece.first ∷ s.piece.later) s.taken.within s.taken.parts in (
        p.text ++ later,
        record {
          pieces = s.piece ∷ left.pieces;
          joined = ap (λ ls. (s.piece.first ∷ s.piece.later) ++ ls) left.joined ∙ sym s.taken.parts;
          each = (
            subst (λ ls. IsPiece old s.piece (ls ++ [])) (sym left.joined) s.is_piece,
            subst (λ o. AreBlocks o left.pieces []) s.open_now left.each,
          );
          is_text = (
            leaves.0,
            p.text,
            later,
            leaves.1,
            block_leaves p.events p.text leaves.0 leaves.2 p.is_text,
            subst (λ n. IsPiecesText setting page (before.lines + length (s.piece.first ∷ s.piece.later)) (before.bytes + n) left.pieces later) size
                (subst (λ n. IsPiecesText setting page (before.lines + n) (before.bytes + step.block.taken.bytes) left.pieces later) s.taken.counted
                left.is_text),
            refl,
          );
        },
        sym (append_assoc was p.text later) ∙ ap (λ t. t ++ later) (sym p.grown),
      )
