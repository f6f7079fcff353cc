-- Lines of HTML and of fenced code in no container are content as they are.
use Rattle.std.proofs.Common.{ℕ, zero, suc, false, ◌+◌, ◌-◌, ◌≤◌, ◌≡◌, List, [], ◌∷◌, ◌++◌}
use Rattle.std.proofs.Common.{length, take, drop, inr, refl, sym, ap, ◌∙◌, subst, arith, append-nil, length-append}
use Rattle.std.specs.List.{AllByRecursion, concat, flat_map}
use Rattle.std.proofs.Math.Seq.{take-append_seam}
use Rattle.std.proofs.lemmas.List.{drop_all, length-drop}
use Rattle.std.proofs.lemmas.List.Folds.{concat-append}
use Rattle.markdown_scanners_tree.specs.declared.scanners.html_kinds.HtmlBlockKind.{HtmlBlockKind}
use Rattle.markdown_scanners_tree.specs.line.ItemRules.{start_of}
use Rattle.markdown_scanners_tree.specs.line.State.{space_within}
use Rattle.markdown_scanners_tree.specs.scanners.TextLines.{lines_of}
use Rattle.markdown_scanners_tree.proofs.ForCallers.{lines_joined}
use Rattle.markdown_scanners_tree.proofs.line.StepLemmas.{no_space_taken}
use Rattle.markdown_blocks.specs.content.Content.{text_of}
use Rattle.markdown_blocks.specs.content.Left.{IsRun}
use Rattle.markdown_blocks.specs.content.Parts.{AreInner, AreParts, ArePartsAt, GoOn, Part, after_markers, ended, first_offset, has_return}
use Rattle.markdown_blocks.specs.content.Parts.{later_parts, moved, one_part, part_at}
use Rattle.markdown_blocks.specs.declared.blocks.BlockKind.{BlockKind}
use Rattle.markdown_blocks.specs.declared.blocks.BlockKind.TheVariants.{Fenced, Html}
use Rattle.markdown_blocks.specs.declared.containers.Container.{Container}
use Rattle.markdown_blocks.specs.declared.taken.Extent.{Extent}
use Rattle.markdown_blocks.proofs.content.EndingLemmas.{all_first, ended_none, none_in_lines}

-- the parts that are these lines, before which so many bytes stand
abbrev pub whole_parts : ℕ → List (List ℕ) → List Part
whole_parts before [] = []
whole_parts before (line ∷ lines) = one_part before line ++ whole_parts (before + length line) lines

one_whole : (before : ℕ) (line : List ℕ) → moved before (part_at (start_of line)) ∷ [] ≡ one_part before line
one_whole before line = let at : before + 0 ≡ before = omega arith in ap (λ n. one_part n line) at

-- no carriage return stands in them
abbrev HaveNone : List (List ℕ) → Type 0
HaveNone lines = AllByRecursion (λ line. has_return line ≡ false) lines

one_written : (before : ℕ) (line : List ℕ) → has_return line ≡ false → ended (moved before (part_at (start_of line))) ≡ one_part before line
one_written before line none = ended_none (moved before (part_at (start_of line))) none ∙ one_whole before line

html_later : (kind : HtmlBlockKind) (before : ℕ) (lines : List (List ℕ)) → HaveNone lines
    → later_parts (Html kind) [] 0 before lines ≡ whole_parts before lines
html_later kind before [] none = refl
html_later kind before (line ∷ lines) none =
    ap (λ ps. ps ++ later_parts (Html kind) [] 0 (before + length line) lines) (one_written before line none.0)
    ∙ ap (λ ps. one_part before line ++ ps) (html_later kind (before + length line) lines none.1)

fenced_later : (count byte before : ℕ) (lines : List (List ℕ)) → HaveNone lines
    → later_parts (Fenced count byte) [] 0 before lines ≡ whole_parts before lines
fenced_later count byte before [] none = refl
fenced_later count byte before (line ∷ lines) none =
    ap (λ s. ended (moved before (part_at s)) ++ later_parts (Fenced count byte) [] 0 (before + length line) lines)
    (sym (no_space_taken (start_of line) (omega arith)))
    ∙ ap (λ ps. ps ++ later_parts (Fenced count byte) [] 0 (before + length line) lines) (one_written before line none.0)
    ∙ ap (λ ps. one_part before line ++ ps) (fenced_later count byte (before + length line) lines none.1)

-- ---- they are a run

whole_text : (before : ℕ) (lines : List (List ℕ)) → flat_map text_of (whole_parts before lines) ≡ concat lines
whole_text before [] = refl
whole_text before (line ∷ lines) = ap (λ t. line ++ t) (whole_text (before + length line) lines)

whole_on : (before : ℕ) (lines : List (List ℕ)) → GoOn before (whole_parts before lines)
whole_on before [] = tt
whole_on before (line ∷ lines) = (refl, refl, whole_on (before + length line) lines)

pub whole_run : (text : List ℕ) (begin end : ℕ) (lines : List (List ℕ)) → begin ≤ end → end ≤ length text
    → lines_of (drop begin text) ≡ lines ++ lines_of (drop end text) → IsRun text (whole_parts begin lines) begin end
whole_run text begin end lines low within parts =
    let rest = drop end text in
    let here : drop begin text ≡ concat lines ++ rest =
    sym (lines_joined (drop begin text)) ∙ ap concat parts ∙ concat-append lines (lines_of rest)
    ∙ ap (λ t. concat lines ++ t) (lines_joined rest) in
    let sizes = ap length here ∙ length-append (concat lines) rest in
    let size : end - begin ≡ length (concat lines) = omega (arith, low, within, sizes, length-drop begin text, length-drop end text) in (
      low,
      within,
      (
        whole_text begin lines
            ∙ sym (ap (λ n. take n (drop begin text)) size ∙ ap (take (length (concat lines))) here ∙ take-append_seam (concat lines) rest),
        whole_on begin lines,
      ),
    )

-- ---- they are the parts of a block

first_start : (kept : ℕ) (line : List ℕ) → first_offset kept [] line ≡ start_of line
first_start zero line = refl
first_start (suc kept) line = let none : 0 - suc kept ≡ 0 = omega arith in ap (λ n. after_markers n (start_of line)) none

all_of_html : (kind : HtmlBlockKind) (kept : ℕ) (lines : List (List ℕ)) → HaveNone lines
    → AreParts (Html kind) [] kept lines (whole_parts 0 lines)
all_of_html kind kept [] none = refl
all_of_html kind kept (line ∷ later) none =
    let size : 0 + length line ≡ length line = omega arith in (
      later,
      inr (refl, λ before last is out. out),
      ap (λ n. one_part 0 line ++ whole_parts n later) size
          ∙ ap (λ ps. part_at (start_of line) ∷ ps) (sym (html_later kind (length line) later none.1))
          ∙ ap (λ ps. ps ++ later_parts (Html kind) [] 0 (length line) later) (sym (ended_none (part_at (start_of line)) none.0))
          ∙ ap (λ s. ended (part_at s) ++ later_parts (Html kind) [] 0 (length line) later) (sym (first_start kept line)),
    )

inner_of_fenced : (count byte kept : ℕ) (line : List ℕ) (later inner : List (List ℕ)) → space_within 4 (start_of line) ≡ 0
    → HaveNone inner → AreInner (Fenced count byte) [] later inner
    → ArePartsAt (Fenced count byte) [] (first_offset kept [] line) (length line) later (whole_parts (length line) inner)
inner_of_fenced count byte kept line later inner none have are = (
  inner,
  are,
  sym (ap (λ s. later_parts (Fenced count byte) [] (space_within 4 s) (length line) inner) (first_start kept line)
      ∙ ap (λ n. later_parts (Fenced count byte) [] n (length line) inner) none ∙ fenced_later count byte (length line) inner have),
)

-- ---- in the words of the code

text_lines : (text : List ℕ) → has_return text ≡ false → HaveNone (lines_of text)
text_lines text none = none_in_lines (lines_of text) (ap has_return (lines_joined text) ∙ none)

pub no_container : (outer : List Container) → length outer ≤ 0 → outer ≡ []
no_container [] none = refl
no_container (c ∷ outer) none = absurd (omega (arith, none))

pub html_is : (kind : BlockKind) (which : HtmlBlockKind) (outer : List Container) (text : List ℕ) → outer ≡ [] → kind ≡ Html which
    → has_return text ≡ false → (kept : ℕ)
    → (parts : List Part) × AreParts kind outer kept (lines_of text) parts × IsRun text parts 0 (length text)
html_is kind which outer text none is have kept =
    let lines = lines_of text in
    let parts : lines_of (drop 0 text) ≡ lines ++ lines_of (drop (length text) text) =
    sym (ap (λ t. lines ++ lines_of t) (drop_all (length text) text (omega arith)) ∙ append-nil lines) in (
      whole_parts 0 lines,
      subst (λ (k : BlockKind). AreParts k outer kept lines (whole_parts 0 lines)) (sym is)
          (subst (λ (cs : List Container). AreParts (Html which) cs kept lines (whole_parts 0 lines)) (sym none)
          (all_of_html which kept lines (text_lines text have))),
      whole_run text 0 (length text) lines (omega arith) (omega arith) parts,
    )

pub fenced_is : (kind : BlockKind) (count byte : ℕ) (outer : List Container) (text line : List ℕ) (first read : Extent) (inner : List (List ℕ)) → outer ≡ []
    → has_return text ≡ false → kind ≡ Fenced count byte
    → lines_of text ≡ line ∷ lines_of (drop first.bytes text) → first.bytes ≡ length line → space_within 4 (start_of line) ≡ 0
    → AreInner kind outer (lines_of (drop first.bytes text)) inner → lines_of (drop first.bytes text) ≡ inner ++ lines_of (drop read.bytes text)
    → first.bytes ≤ read.bytes → read.bytes ≤ length text → (kept : ℕ)
    → (parts : List Part) × AreParts kind outer kept (lines_of text) parts × IsRun text parts first.bytes read.bytes
fenced_is kind count byte outer text line first read inner none have is front size plain are parts low within kept =
    let later = lines_of (drop first.bytes text) in
    let whole = whole_parts first.bytes inner in
    let all : HaveNone (line ∷ later) = subst HaveNone front (text_lines text have) in
    let first_ones : HaveNone inner = all_first (λ l. has_return l ≡ false) inner (lines_of (drop read.bytes text)) (subst HaveNone parts all.1) in
    let there : AreInner (Fenced count byte) [] later inner =
    subst (λ (cs : List Container). AreInner (Fenced count byte) cs later inner) none (subst (λ (k : BlockKind). AreInner k outer later inner) is are) in
    let at : AreParts (Fenced count byte) [] kept (line ∷ later) whole =
    subst (λ n. AreParts (Fenced count byte) [] kept (line ∷ later) (whole_parts n inner)) (sym size)
    (inner_of_fenced count byte kept line later inner plain first_ones there) in (
      whole,
      subst (λ ls. AreParts kind outer kept ls whole) (sym front)
          (subst (λ (k : BlockKind). AreParts k outer kept (line ∷ later) whole) (sym is)
          (subst (λ (cs : List Container). AreParts (Fenced count byte) cs kept (line ∷ later) whole) (sym none) at)),
      whole_run text first.bytes read.bytes inner low within parts,
    )
