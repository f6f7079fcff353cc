-- The lines that are taken make a block.
use Rattle.std.proofs.Common.{ℕ, true, List, [], ◌∷◌, ◌++◌, ◌≡◌, ◌⊎◌, drop, inl, inr, refl, sym, ap, ◌∙◌, subst}
use Rattle.std.proofs.lemmas.List.{append_cancel_left}
use Rattle.markdown_values.specs.declared.values.HeadingLevel.{HeadingLevel}
use Rattle.markdown_scanners_tree.specs.declared.scanners.html_kinds.HtmlBlockKind.{HtmlBlockKind}
use Rattle.markdown_scanners_tree.specs.scanners.TextLines.{lines_of}
use Rattle.markdown_blocks.specs.containers.Containers.{OpenContainers, Rest, rest_in}
use Rattle.markdown_blocks.specs.declared.blocks.BlockKind.{BlockKind}
use Rattle.markdown_blocks.specs.declared.blocks.BlockKind.TheVariants.{Blank, Break, Heading, Indented, Fenced}
use Rattle.markdown_blocks.specs.declared.blocks.BlockKind.TheVariants.{Html, Setext, Table, Definition, Paragraph}
use Rattle.markdown_blocks.specs.declared.taken.Extent.{Extent}
use Rattle.markdown_blocks.specs.taken.Lines.{IsTaken, IsNext}
use Rattle.markdown_blocks.specs.blocks.Leaves.{Begins, IsBlank, Underlines, In, OutOr, LeavesAfter, ClosesFence}
use Rattle.markdown_blocks.specs.blocks.Leaves.{OnFirst, EndsAsHtml, GoesOnIndented, IsHead, IsRow, BeginsNoTable, BeginTable, EndParagraph, NoneAfter}
use Rattle.markdown_blocks.specs.blocks.Pages.{IsBlockAfter, IsBlockOf}
use Rattle.markdown_blocks.specs.definitions.Content.{words_in}
use Rattle.markdown_blocks.specs.info.Info.{without_front}
use Rattle.markdown_blocks.specs.delimiter_rows.DelimiterRows.{IsDelimiter}
use Rattle.markdown_blocks.proofs.blocks.ParagraphLemmas.{Reached, ReachedLast}
use Rattle.markdown_blocks.proofs.tables.TableLemmas.{one_number}
use Rattle.markdown_blocks.proofs.taken.TakenLemmas.{Until, Through, taken-next}

module _ (text : List ℕ) (outer : OpenContainers) (line : List ℕ) (rest : Rest) (first : Extent) (h : IsTaken text first (line ∷ [])) where
  -- blank lines
  pub blank_block : (taken : Extent) → Begins Blank rest → Until (OutOr outer.containers (λ r. ¬ IsBlank r)) text first taken
      → IsBlockOf text outer line rest (record { kind = Blank; taken = taken })
  blank_block taken begins until =
      let u = until (line ∷ []) h in record { later = u.0; taken = u.1; leaf = (begins, u.2) }

  -- a block of one line
  pub one_line : (kind : BlockKind) → Begins kind rest → ¬ (kind ≡ Blank) → ¬ (kind ≡ Indented)
      → ((count byte : ℕ) → ¬ (kind ≡ Fenced count byte)) → ((html : HtmlBlockKind) → ¬ (kind ≡ Html html)) → ¬ (kind ≡ Paragraph)
      → IsBlockOf text outer line rest (record { kind = kind; taken = first })
  one_line Blank begins blank indented fenced html paragraph = absurd (blank refl)
  one_line Indented begins blank indented fenced html paragraph = absurd (indented refl)
  one_line (Fenced count byte) begins blank indented fenced html paragraph = absurd (fenced count byte refl)
  one_line (Html kind) begins blank indented fenced html paragraph = absurd (html kind refl)
  one_line Paragraph begins blank indented fenced html paragraph = absurd (paragraph refl)
  one_line (Setext level) begins blank indented fenced html paragraph = absurd begins.2
  one_line (Table columns) begins blank indented fenced html paragraph = absurd begins.2
  one_line Definition begins blank indented fenced html paragraph = absurd begins.2
  one_line Break begins blank indented fenced html paragraph = record { later = []; taken = h; leaf = (begins, refl) }
  one_line (Heading level) begins blank indented fenced html paragraph = record { later = []; taken = h; leaf = (begins, refl) }

  -- fenced code
  pub fenced_block : (count byte : ℕ) (taken : Extent) → Begins (Fenced count byte) rest → Through (OutOr outer.containers
      (ClosesFence count byte)) text outer.containers first taken
      → IsBlockOf text outer line rest (record { kind = Fenced count byte; taken = taken })
  fenced_block count byte taken begins through =
      let u = through (line ∷ []) h in record { later = u.0; taken = u.1; leaf = (begins, u.2) }

  -- indented code
  pub indented_block : (taken : Extent) → Begins Indented rest
      → ((lines : List (List ℕ)) → IsTaken text first lines
      → (more : List (List ℕ)) × IsTaken text taken (lines ++ more) × GoesOnIndented outer.containers more (lines_of (drop taken.bytes text)))
      → IsBlockOf text outer line rest (record { kind = Indented; taken = taken })
  indented_block taken begins goes =
      let g = goes (line ∷ []) h in record { later = g.0; taken = g.1; leaf = (begins, g.2) }

  -- an HTML block
  pub html_block : (kind : HtmlBlockKind) (taken : Extent) → Begins (Html kind) rest
      → ((lines : List (List ℕ)) → IsTaken text first lines
      → (more : List (List ℕ)) × IsTaken text taken (lines ++ more)
      × EndsAsHtml outer.containers kind rest more (lines_of (drop taken.bytes text)))
      → IsBlockOf text outer line rest (record { kind = Html kind; taken = taken })
  html_block kind taken begins goes =
      let g = goes (line ∷ []) h in record { later = g.0; taken = g.1; leaf = (begins, g.2) }

  -- the lines after the first
  after_first : (taken : Extent) (more : List (List ℕ)) → IsTaken text taken (line ∷ more)
      → lines_of (drop first.bytes text) ≡ more ++ lines_of (drop taken.bytes text)
  after_first taken more t = append_cancel_left (line ∷ []) (lines_of (drop first.bytes text)) (more ++ lines_of (drop taken.bytes text))
      (sym h.parts ∙ t.parts)

  -- a paragraph, and a paragraph whose next line is an underline, where it begins no table
  module _ (no_table : BeginsNoTable outer rest (lines_of (drop first.bytes text))) (begins : Begins Paragraph rest) where
    none_in : (taken : Extent) (more : List (List ℕ)) → IsTaken text taken (line ∷ more)
        → BeginsNoTable outer rest (more ++ lines_of (drop taken.bytes text))
    none_in taken more t = subst (BeginsNoTable outer rest) (after_first taken more t) no_table

    pub paragraph_block : (taken : Extent) → Reached outer rest.text text first taken
        → ((later : List (List ℕ)) → IsTaken text taken (line ∷ later)
        → ((lines_of (drop taken.bytes text) ≡ []) ⊎ EndParagraph outer rest.text later (lines_of (drop taken.bytes text)))
        × OnFirst (λ l. (level : HeadingLevel) → ¬ Underlines outer.containers rest.text later level l) (lines_of (drop taken.bytes text)))
        → IsBlockOf text outer line rest (record { kind = Paragraph; taken = taken })
    paragraph_block taken reached stops =
        let r = reached line h in
        let s = stops r.0 r.1 in
        record {
          later = r.0;
          taken = r.1;
          leaf = (begins, none_in taken r.0 r.1, record { none = r.2; stopped = s.0 }, s.1);
        }

    -- a paragraph with which its next line doesn't go on
    pub ended_block : (taken more : Extent) (next : List ℕ) → Reached outer rest.text text first taken → IsNext text taken next more
        → ((later : List (List ℕ)) → IsTaken text taken (line ∷ later) → LeavesAfter outer rest.text later next
        × ((level : HeadingLevel) → ¬ Underlines outer.containers rest.text later level next))
        → IsBlockOf text outer line rest (record { kind = Paragraph; taken = taken })
    ended_block taken more next reached n ends = paragraph_block taken reached (λ later all. (
      inr (subst (EndParagraph outer rest.text later) (sym n.parts) (inl (ends later all).0)),
      subst (OnFirst (λ l. (level : HeadingLevel) → ¬ Underlines outer.containers rest.text later level l)) (sym n.parts) (ends later all).1,
    ))

    -- a paragraph whose next line is the header row of a table
    pub headed_block : (before taken more : Extent) (next : List ℕ) → ReachedLast outer rest.text text first before taken → IsNext text taken next more
        → ((last : List ℕ) (lines : List (List ℕ)) → lines_of (drop before.bytes text) ≡ last ∷ next ∷ lines → BeginTable outer (last ∷ next ∷ lines))
        → IsBlockOf text outer line rest (record { kind = Paragraph; taken = before })
    headed_block before taken more next reached n table = by (reached line h)
      where
        by : (later : List (List ℕ)) × (last : List ℕ) × IsTaken text before (line ∷ later) × IsNext text before last taken
            × NoneAfter (EndParagraph outer rest.text) [] later (lines_of (drop before.bytes text)) × (¬ LeavesAfter outer rest.text later last)
            → IsBlockOf text outer line rest (record { kind = Paragraph; taken = before })
        by (later, last, all, m, none, goes) =
            let two : lines_of (drop before.bytes text) ≡ last ∷ next ∷ lines_of (drop more.bytes text) = m.parts ∙ ap (λ ls. last ∷ ls) n.parts in
            record {
              later = later;
              taken = all;
              leaf = (
                begins,
                none_in before later all,
                record {
                  none = none;
                  stopped = inr (subst (EndParagraph outer rest.text later) (sym two) (inr (goes, table last (lines_of (drop more.bytes text)) two)));
                },
                subst (OnFirst (λ l. (level : HeadingLevel) → ¬ Underlines outer.containers rest.text later level l)) (sym two)
                    (λ level under. goes (inr (under.0.0, inr (inl (inl (level, under.0.1), under.1))))),
              );
            }

    pub setext_block : (last : List ℕ) (level : HeadingLevel) (taken more : Extent) → Reached outer rest.text text first taken
        → IsNext text taken last more
        → ((later : List (List ℕ)) → IsTaken text taken (line ∷ later) → Underlines outer.containers rest.text later level last)
        → IsBlockOf text outer line rest (record { kind = Setext level; taken = more })
    setext_block last level taken more reached next underlines =
        let r = reached line h in
        let u = underlines r.0 r.1 in
        let all = taken-next text taken more (line ∷ r.0) last r.1 next in
        record {
          later = r.0 ++ last ∷ [];
          taken = all;
          leaf = (
            begins,
            r.0,
            last,
            refl,
            none_in more (r.0 ++ last ∷ []) all,
            record {
              none = subst (NoneAfter (EndParagraph outer rest.text) [] r.0) next.parts r.2;
              stopped = inr (inl (inr (u.0.0, inr (inl (inl (level, u.0.1), u.1)))));
            },
            u,
          );
        }

  -- a table: its delimiter row, and the rows after that
  pub table_block : (columns : ℕ) (head : List ℕ) (second taken : Extent) → Begins Paragraph rest → IsNext text first head second
      → IsHead outer rest.text columns head → Until (λ l. ¬ IsRow outer l) text second taken
      → IsBlockOf text outer line rest (record { kind = Table columns; taken = taken })
  table_block columns head second taken begins next is_head until =
      let u = until (line ∷ head ∷ []) (taken-next text first second (line ∷ []) head h next) in
      record { later = head ∷ u.0; taken = u.1; leaf = (begins, (head, u.0, refl, is_head, u.2)) }

  -- the same after a line that goes on with the paragraph before it
  pub table_after : (columns : ℕ) (head : List ℕ) (second taken : Extent) → IsNext text first head second
      → BeginTable outer (line ∷ head ∷ lines_of (drop second.bytes text)) → rest ≡ rest_in outer.containers line
      → In outer.containers (IsDelimiter columns) head → Until (λ l. ¬ IsRow outer l) text second taken
      → IsBlockAfter true text outer line rest (record { kind = Table columns; taken = taken })
  table_after columns head second taken next (other, is_head) is delimiter until =
      let u = until (line ∷ head ∷ []) (taken-next text first second (line ∷ []) head h next) in
      let same : other ≡ columns = one_number (rest_in outer.containers head) columns other delimiter.1 is_head.2.1 in
      let here : IsHead outer (without_front rest.text) columns head =
      subst (λ (r : Rest). IsHead outer (without_front r.text) columns head) (sym is)
      (subst (λ n. IsHead outer (words_in outer.containers line) n head) same is_head) in
      record { later = head ∷ u.0; taken = u.1; leaf = (head, u.0, refl, here, u.2) }
