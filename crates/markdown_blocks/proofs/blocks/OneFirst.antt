-- The rest of a line begins a block of one kind.
use Rattle.std.proofs.Common.{ℕ, suc, Bool, true, false, ◌==◌, ◌+◌, ◌≡◌, ◌≤◌, ◌⊎◌, ◌&&◌, List}
use Rattle.std.proofs.Common.{[], ◌∷◌, ◌++◌, length, take, refl, sym, ap, ◌∙◌, subst, arith, inl, inr}
use Rattle.std.specs.Prelude.{codes, if◌then◌else◌, nat_le, not}
use Rattle.std.specs.List.{list_all, count_by, prefix_len}
use Rattle.std.proofs.lemmas.Bool.{and_parts, cases_Bool, eqb-true}
use Rattle.markdown_values.specs.declared.values.HeadingLevel.{HeadingLevel}
use Rattle.markdown_values.specs.declared.values.HeadingLevel.TheVariants.{H1, H2, H3, H4, H5, H6}
use Rattle.markdown_scanners_tree.specs.Ascii.{number_sign, less_than_sign, backtick, tilde}
use Rattle.markdown_scanners_tree.specs.Bytes.{is_line_ending}
use Rattle.markdown_scanners_tree.specs.declared.scanners.html_kinds.HtmlBlockKind.{HtmlBlockKind}
use Rattle.markdown_scanners_tree.specs.scanners.Breaks.{is_break_marker, is_break_byte, IsThematicBreak, is_break_head}
use Rattle.markdown_scanners_tree.specs.scanners.Fences.{is_fence_byte, IsCodeFence}
use Rattle.markdown_scanners_tree.specs.scanners.Headings.{IsAtxHeading}
use Rattle.markdown_scanners_tree.specs.scanners.html_kinds.HtmlKinds.{begins_with_text}
use Rattle.markdown_scanners_tree.proofs.ForCallers.{is_thematic_break-found, none_unopened, one_atx_heading, one_code_fence, one_html_block_start}
use Rattle.markdown_blocks.specs.containers.Containers.{Rest}
use Rattle.markdown_blocks.specs.declared.blocks.BlockKind.{BlockKind}
use Rattle.markdown_blocks.specs.declared.blocks.BlockKind.TheVariants.{Blank, Break, Heading, Setext, Indented, Fenced, Html, Table, Definition, Paragraph}
use Rattle.markdown_blocks.specs.blocks.Leaves.{IsBlank, HasIndent, Begins, BeginsAt, IsHeading, IsHtmlStart}

first_byte : List ℕ → ℕ
first_byte [] = 0
first_byte (b ∷ bs) = b

-- the first byte of a break, a heading, a fence, an HTML block
head_marked : (stays : Bool) (n m b : ℕ) (bs : List ℕ) → m ≡ suc n → is_break_head (take (if stays then m else 0) (b ∷ bs)) ≡ true
    → is_break_marker b ≡ true
head_marked true n m b bs some h =
    let begun : is_break_head (b ∷ take n bs) ≡ true = subst (λ k. is_break_head (take k (b ∷ bs)) ≡ true) some h in
    (and_parts (is_break_marker b) (list_all (is_break_byte b) (b ∷ take n bs))
    (and_parts (is_break_marker b && list_all (is_break_byte b) (b ∷ take n bs)) (nat_le 3 (count_by (λ c. c == b) (b ∷ take n bs))) begun).0).0
head_marked false n m b bs some h = cc

break_front : (bytes : List ℕ) → IsThematicBreak bytes → is_break_marker (first_byte bytes) ≡ true
unfolding first_byte
break_front [] is = let found = is_thematic_break-found [] is in cc
break_front (b ∷ bs) is =
    let n = prefix_len (λ c. not (is_line_ending c)) bs in
    head_marked (not (is_line_ending b)) n (1 + n) b bs (omega arith) (is_thematic_break-found (b ∷ bs) is)

heading_front : (bytes : List ℕ) (level : HeadingLevel) → IsAtxHeading bytes level → first_byte bytes ≡ number_sign
unfolding first_byte
heading_front bytes H1 is = ap first_byte is.parts
heading_front bytes H2 is = ap first_byte is.parts
heading_front bytes H3 is = ap first_byte is.parts
heading_front bytes H4 is = ap first_byte is.parts
heading_front bytes H5 is = ap first_byte is.parts
heading_front bytes H6 is = ap first_byte is.parts

fence_run : (byte : ℕ) (run rest : List ℕ) → 3 ≤ length run → list_all (λ b. b == byte) run ≡ true → is_fence_byte byte ≡ true
    → is_fence_byte (first_byte (run ++ rest)) ≡ true
unfolding first_byte
fence_run byte [] rest three all of = absurd (omega (arith, three))
fence_run byte (r ∷ run) rest three all of = subst (λ b. is_fence_byte b ≡ true) (sym (eqb-true r byte (and_parts _ _ all).0)) of

fence_front : (bytes : List ℕ) (n byte : ℕ) → IsCodeFence bytes n byte → is_fence_byte (first_byte bytes) ≡ true
fence_front bytes n byte is = subst (λ bs. is_fence_byte (first_byte bs) ≡ true) (sym is.is_run.parts)
    (fence_run byte is.run is.rest is.at_least_three is.is_run.all is.of_fence_byte)

opened : (bytes : List ℕ) → begins_with_text (codes "<") bytes ≡ true → first_byte bytes ≡ less_than_sign
unfolding first_byte
opened [] h = cc
opened (b ∷ bs) h = eqb-true b less_than_sign (and_parts _ _ h).0

html_front : (bytes : List ℕ) (kind : HtmlBlockKind) → IsHtmlStart kind bytes → first_byte bytes ≡ less_than_sign
html_front bytes kind is = elim (cases_Bool (begins_with_text (codes "<") bytes)) [
  | inl opens ↦ opened bytes opens
  | inr other ↦ absurd (none_unopened bytes other kind is.0)
]

-- what a block begins with, by its first byte, and by its kind
family : ℕ → ℕ
family b =
    if is_break_marker b then 1 else if b == number_sign then 2 else if is_fence_byte b then 3 else if b == less_than_sign then 4 else 0

marked_break : (b : ℕ) → is_break_marker b ≡ true → family b ≡ 1
unfolding family
marked_break b h = rw h refl

marked_fence : (b : ℕ) → is_fence_byte b ≡ true → family b ≡ 3
unfolding family
marked_fence b h = elim (cases_Bool (b == backtick)) [
  | inl tick ↦ rw (eqb-true b backtick tick) refl
  | inr other ↦ elim (cases_Bool (b == tilde)) [
    | inl wave ↦ rw (eqb-true b tilde wave) refl
    | inr none ↦ let both : false ≡ true = rw (other, none) at h in cc
  ]
]

break_family : (bytes : List ℕ) → IsThematicBreak bytes → family (first_byte bytes) ≡ 1
break_family bytes is = marked_break _ (break_front bytes is)

heading_family : (bytes : List ℕ) (level : HeadingLevel) → IsHeading level bytes → family (first_byte bytes) ≡ 2
unfolding family
heading_family bytes level is = rw (heading_front bytes level is.0) refl

fence_family : (bytes : List ℕ) (n byte : ℕ) → IsCodeFence bytes n byte → family (first_byte bytes) ≡ 3
fence_family bytes n byte is = marked_fence _ (fence_front bytes n byte is)

html_family : (bytes : List ℕ) (kind : HtmlBlockKind) → IsHtmlStart kind bytes → family (first_byte bytes) ≡ 4
unfolding family
html_family bytes kind is = rw (html_front bytes kind is) refl

differ : {P : Type 0} (b m n : ℕ) → family b ≡ m → family b ≡ n → ¬ (m ≡ n) → P
differ b m n first second other = absurd (other (sym first ∙ second))

-- after the indent
one_at : (kind other : BlockKind) (text : List ℕ) → BeginsAt kind text → BeginsAt other text → kind ≡ other
one_at Blank other text h h' = absurd h
one_at Indented other text h h' = absurd h
one_at (Setext level) other text h h' = absurd h
one_at (Table columns) other text h h' = absurd h
one_at Definition other text h h' = absurd h
one_at kind Blank text h h' = absurd h'
one_at kind Indented text h h' = absurd h'
one_at kind (Setext level) text h h' = absurd h'
one_at kind (Table columns) text h h' = absurd h'
one_at kind Definition text h h' = absurd h'
one_at Break Break text h h' = refl
one_at Break (Heading level) text h h' = differ (first_byte text) 1 2 (break_family text h) (heading_family text level h') (λ e. cc)
one_at Break (Fenced n byte) text h h' = differ (first_byte text) 1 3 (break_family text h) (fence_family text n byte h') (λ e. cc)
one_at Break (Html html) text h h' = differ (first_byte text) 1 4 (break_family text h) (html_family text html h') (λ e. cc)
one_at Break Paragraph text h h' = absurd (h'.0 h)
one_at (Heading level) Break text h h' = differ (first_byte text) 2 1 (heading_family text level h) (break_family text h') (λ e. cc)
one_at (Heading level) (Heading level') text h h' = ap Heading (one_atx_heading text level level' h.0 h'.0)
one_at (Heading level) (Fenced n byte) text h h' =
    differ (first_byte text) 2 3 (heading_family text level h) (fence_family text n byte h') (λ e. cc)
one_at (Heading level) (Html html) text h h' =
    differ (first_byte text) 2 4 (heading_family text level h) (html_family text html h') (λ e. cc)
one_at (Heading level) Paragraph text h h' = absurd (h'.1 level h)
one_at (Fenced n byte) Break text h h' = differ (first_byte text) 3 1 (fence_family text n byte h) (break_family text h') (λ e. cc)
one_at (Fenced n byte) (Heading level) text h h' =
    differ (first_byte text) 3 2 (fence_family text n byte h) (heading_family text level h') (λ e. cc)
one_at (Fenced n byte) (Fenced n' byte') text h h' = ap (λ p. Fenced p.0 p.1) (one_code_fence text n byte n' byte' h h')
one_at (Fenced n byte) (Html html) text h h' = differ (first_byte text) 3 4 (fence_family text n byte h) (html_family text html h') (λ e. cc)
one_at (Fenced n byte) Paragraph text h h' = absurd (h'.2 (n, byte) h)
one_at (Html html) Break text h h' = differ (first_byte text) 4 1 (html_family text html h) (break_family text h') (λ e. cc)
one_at (Html html) (Heading level) text h h' =
    differ (first_byte text) 4 2 (html_family text html h) (heading_family text level h') (λ e. cc)
one_at (Html html) (Fenced n byte) text h h' = differ (first_byte text) 4 3 (html_family text html h) (fence_family text n byte h') (λ e. cc)
one_at (Html html) (Html html') text h h' = ap Html (one_html_block_start text html html' h.0 h'.0)
one_at (Html html) Paragraph text h h' = absurd (h'.3 html h)
one_at Paragraph Break text h h' = absurd (h.0 h')
one_at Paragraph (Heading level) text h h' = absurd (h.1 level h')
one_at Paragraph (Fenced n byte) text h h' = absurd (h.2 (n, byte) h')
one_at Paragraph (Html html) text h h' = absurd (h.3 html h')
one_at Paragraph Paragraph text h h' = refl

-- what a block begins with: a blank line, an indent, or something after no indent
seen : (kind : BlockKind) (rest : Rest) → Begins kind rest
    → (IsBlank rest × (kind ≡ Blank)) ⊎ (((¬ IsBlank rest) × HasIndent rest × (kind ≡ Indented))
    ⊎ ((¬ IsBlank rest) × (¬ HasIndent rest) × BeginsAt kind rest.text))
seen Blank rest h = inl (h, refl)
seen Indented rest h = inr (inl (h.0, h.1, refl))
seen Break rest h = inr (inr h)
seen (Heading level) rest h = inr (inr h)
seen (Setext level) rest h = inr (inr h)
seen (Fenced n byte) rest h = inr (inr h)
seen (Html html) rest h = inr (inr h)
seen (Table columns) rest h = inr (inr h)
seen Definition rest h = inr (inr h)
seen Paragraph rest h = inr (inr h)

-- the rest of a line begins a block of one kind
pub one_first : (kind other : BlockKind) (rest : Rest) → Begins kind rest → Begins other rest → kind ≡ other
one_first kind other rest h h' = elim (seen kind rest h) [
  | inl blank ↦ elim (seen other rest h') [
    | inl blank' ↦ blank.1 ∙ sym blank'.1
    | inr text ↦ elim text [
      | inl near ↦ absurd (near.0 blank.0)
      | inr at ↦ absurd (at.0 blank.0)
    ]
  ]
  | inr text ↦ elim text [
    | inl near ↦ elim (seen other rest h') [
      | inl blank' ↦ absurd (near.0 blank'.0)
      | inr text' ↦ elim text' [
        | inl near' ↦ near.2 ∙ sym near'.2
        | inr at' ↦ absurd (at'.1 near.1)
      ]
    ]
    | inr at ↦ elim (seen other rest h') [
      | inl blank' ↦ absurd (at.0 blank'.0)
      | inr text' ↦ elim text' [
        | inl near' ↦ absurd (at.1 near'.1)
        | inr at' ↦ one_at kind other rest.text at.2 at'.2
      ]
    ]
  ]
]
