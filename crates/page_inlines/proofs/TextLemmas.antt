-- What is printed of a leaf block and of a content.
use Rattle.std.proofs.Common.{ℕ, Bool, true, false, List, ◌++◌, ◌≡◌, inl, inr, if◌then◌else◌, Result, Ok, Err, OnOk, MatchBool}
use Rattle.std.proofs.Common.{length, refl, sym, ap, ◌∙◌, append_assoc}
use Rattle.std.specs.Prelude.{Option}
use Rattle.std.specs.List.{flat_map}
use Rattle.std.specs.Result.{is_ok}
use Rattle.std.specs.Str.{IsUtf8}
use Rattle.markdown_blocks.specs.content.Content.{Placed, IsContent}
use Rattle.markdown_blocks.specs.declared.containers.Container.{Container}
use Rattle.markdown_blocks.specs.events.Events.{LeafBlock}
use Rattle.markdown_inlines.specs.Inlines.{Setting}
use Rattle.markdown_inlines.specs.Output.{AreInlines}
use Rattle.markdown_inlines.specs.declared.inlines.Inline.{Inline}
use Rattle.markdown_inlines.specs.declared.links.Link.{Link}
use Rattle.page_inlines.specs.Printed.{AreContentLines, IsLeafText, lines_in_page}
use Rattle.page_inlines.specs.Lines.{has_inlines, block_line, inline_line, not_text}

first_of_two : (b : Bool) (A B : Type 0) → b ≡ true → A → MatchBool b A B
first_of_two true A B is a = a
first_of_two false A B is a = cc

pub second_of_two : (b : Bool) (A B : Type 0) → b ≡ false → B → MatchBool b A B
second_of_two true A B is b = cc
second_of_two false A B is b = b

module _ {T E : Type 0} (setting : Setting) (start : ℕ) (content : Placed) (old new : List ℕ) where
  pub inlines_printed : (r : Result T E) (inlines : List Inline) (links : List (Option Link)) → IsUtf8 content.text
      → AreInlines content.text setting inlines links → OnOk r (new ≡ old ++ flat_map (inline_line start content links) inlines)
      → OnOk r ((lines : List ℕ) × AreContentLines setting start content lines × (new ≡ old ++ lines))
  inlines_printed (Ok t) inlines links text are grown = (
    flat_map (inline_line start content links) inlines,
    inl (record { inlines = inlines; links = links; is_text = text; are_inlines = are; are_lines = refl }),
    grown,
  )
  inlines_printed (Err e) inlines links text are grown = tt

  pub none_printed : (r : Result T E) → ¬ IsUtf8 content.text → new ≡ (if is_ok r then old ++ not_text else old)
      → OnOk r ((lines : List ℕ) × AreContentLines setting start content lines × (new ≡ old ++ lines))
  none_printed (Ok t) other grown = (not_text, inr (other, refl), grown)
  none_printed (Err e) other grown = tt

module _ {T E : Type 0} (setting : Setting) (page : List ℕ) (outer : List Container) (kept : ℕ) (block : LeafBlock) (content : Placed)
    (old mid new : List ℕ) where
  pub leaf_printed : (r : Result T E) → has_inlines block.kind ≡ true → mid ≡ old ++ block_line (length outer) block
      → IsContent block.kind outer kept (lines_in_page page block) content
      → OnOk r ((lines : List ℕ) × AreContentLines setting block.start content lines × (new ≡ mid ++ lines))
      → OnOk r ((here : List ℕ) × IsLeafText setting page outer kept block here × (new ≡ old ++ here))
  leaf_printed (Ok t) has line is printed = (
    block_line (length outer) block ++ printed.0,
    first_of_two (has_inlines block.kind) _ _ has
        (record { content = content; lines = printed.0; is_content = is; are_lines = printed.1; text_is = refl }),
    printed.2 ∙ ap (λ t. t ++ printed.0) line ∙ append_assoc old (block_line (length outer) block) printed.0,
  )
  leaf_printed (Err e) has line is printed = tt

-- what is added before more
pub grown_before : (old here new more : List ℕ) → new ≡ old ++ here → old ++ (here ++ more) ≡ new ++ more
grown_before old here new more grown = sym (append_assoc old here more) ∙ ap (λ t. t ++ more) (sym grown)
