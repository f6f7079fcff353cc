use Rattle.markdown_blocks.specs.content.Bytes.{AreBytesOf}
use Rattle.markdown_blocks.specs.content.Content.{HasNoReturn, IsCodeOrHtml, IsContent, Placed, content_len, content_with, front, joined}
use Rattle.markdown_blocks.specs.content.Left.{IsRun}
use Rattle.markdown_blocks.specs.content.Parts.{AreOneRun, AreParts, Part}
use Rattle.markdown_blocks.specs.content.Seen.{seen_part}
use Rattle.markdown_blocks.specs.declared.blocks.BlockKind.{BlockKind}
use Rattle.markdown_blocks.specs.declared.containers.Container.{Container}
use Rattle.std.specs.Str.{IsUtf8}
use Rattle.std.proofs.Common.{ℕ, List, ◌∷◌, ◌≡◌, ◌∙◌, Result, Ok, Err, IfOk, ap, subst}
use Rattle.markdown_blocks.specs.content.Left.{parts_left}
use Rattle.markdown_scanners_tree.specs.scanners.TextLines.{lines_of}
use Rattle.markdown_blocks.proofs.content.ByteLemmas.{content_bytes}
use Rattle.markdown_blocks.proofs.content.Utf8Lemmas.{content_utf8}
use Rattle.markdown_blocks.proofs.content.NoReturn.{content_none}
use Rattle.markdown_blocks.proofs.content.OneContent.{one_list_of_parts}
use Rattle.markdown_blocks.proofs.content.RunLemmas.{no_one_run}
use Rattle.markdown_blocks.proofs.content.content_of.Goals as goal

pub returns-in-Err-clause-lent : goal.returns-in-Err-clause-lent
returns-in-Err-clause-lent c = λ parts are run.
    absurd (c.in-Err.ensures.none (subst AreOneRun
    (one_list_of_parts c.args.kind c.args.containers.now c.args.kept (lines_of c.args.lines.now) parts
    (parts_left c.of-parts.result) are (rw c.new-outer.ensures at c.of-parts.ensures.parts)) run))

-- what is built of parts that others are joined to
built_content : {E : Type 0} (r : Result Placed E) (kind : BlockKind) (outer : List Container) (kept : ℕ) (lines : List ℕ) (parts fewer : List Part)
    → AreParts kind outer kept (lines_of lines) parts → joined fewer ≡ joined parts → IfOk r (λ content. content ≡ content_with kind fewer)
    → IfOk r (IsContent kind outer kept (lines_of lines))
built_content (Err e) kind outer kept lines parts fewer are same is = tt
built_content (Ok content) kind outer kept lines parts fewer are same is = record {
  parts = parts;
  are_parts = are;
  is_content = is ∙ ap (λ j. front (content_len kind j.text) j) same;
}

-- the bytes of what is built
built_bytes : {E : Type 0} (r : Result Placed E) (kind : BlockKind) (outer : List Container) (kept : ℕ) (lines : List ℕ)
    → IfOk r (IsContent kind outer kept (lines_of lines)) → IfOk r (λ content. AreBytesOf lines content)
built_bytes (Err e) kind outer kept lines is = tt
built_bytes (Ok content) kind outer kept lines is = content_bytes kind outer kept lines content is

built_utf8 : {E : Type 0} (r : Result Placed E) (kind : BlockKind) (outer : List Container) (kept : ℕ) (lines : List ℕ)
    → IfOk r (IsContent kind outer kept (lines_of lines)) → IfOk r (λ content. IsUtf8 lines → IsUtf8 content.text)
built_utf8 (Err e) kind outer kept lines is = tt
built_utf8 (Ok content) kind outer kept lines is = content_utf8 kind outer kept lines content is

built_endings : {E : Type 0} (r : Result Placed E) (kind : BlockKind) (outer : List Container) (kept : ℕ) (lines : List ℕ)
    → IfOk r (IsContent kind outer kept (lines_of lines)) → IfOk r (λ content. IsCodeOrHtml kind → HasNoReturn content.text)
built_endings (Err e) kind outer kept lines is = tt
built_endings (Ok content) kind outer kept lines is = λ code. content_none kind code outer kept (lines_of lines) content is

-- what is whole lines
pub slice_bounds-lent-count : goal.slice_bounds-lent-count
slice_bounds-lent-count c = (c.in-Some.ensures c.args.kept).2.0

pub slice_bounds-lent-start : goal.slice_bounds-lent-start
slice_bounds-lent-start c = (c.in-Some.ensures c.args.kept).2.0

pub slice_bounds-lent-end : goal.slice_bounds-lent-end
slice_bounds-lent-end c = (c.in-Some.ensures c.args.kept).2.1

pub returns-in-Some-clause-content : goal.returns-in-Some-clause-content
returns-in-Some-clause-content c =
    let whole = c.in-Some.ensures c.args.kept in
    record {
      parts = whole.0;
      are_parts = rw c.new-outer.ensures at whole.1;
      is_content = c.lent.ensures whole.0 whole.2.2;
    }

pub returns-in-Some-clause-bytes : goal.returns-in-Some-clause-bytes
returns-in-Some-clause-bytes c =
    let whole = c.in-Some.ensures c.args.kept in
    content_bytes c.args.kind c.args.containers.now c.args.kept c.args.lines.now c.lent.result (record {
      parts = whole.0;
      are_parts = rw c.new-outer.ensures at whole.1;
      is_content = c.lent.ensures whole.0 whole.2.2;
    })

pub returns-in-Some-clause-utf8 : goal.returns-in-Some-clause-utf8
returns-in-Some-clause-utf8 c =
    let whole = c.in-Some.ensures c.args.kept in
    content_utf8 c.args.kind c.args.containers.now c.args.kept c.args.lines.now c.lent.result (record {
      parts = whole.0;
      are_parts = rw c.new-outer.ensures at whole.1;
      is_content = c.lent.ensures whole.0 whole.2.2;
    })

pub returns-in-Some-clause-endings : goal.returns-in-Some-clause-endings
returns-in-Some-clause-endings c = λ code.
    let whole = c.in-Some.ensures c.args.kept in
    content_none c.args.kind code c.args.containers.now c.args.kept (lines_of c.args.lines.now) c.lent.result (record {
      parts = whole.0;
      are_parts = rw c.new-outer.ensures at whole.1;
      is_content = c.lent.ensures whole.0 whole.2.2;
    })

-- what is one run
pub returns-in-Ok-clause-bytes : goal.returns-in-Ok-clause-bytes
returns-in-Ok-clause-bytes c =
    let parts = parts_left c.of-parts.result in
    let run = subst (λ ls. IsRun ls parts c.in-Ok.begin c.in-Ok.end) c.of-parts.ensures.lines c.in-Ok.ensures.run in
    content_bytes c.args.kind c.args.containers.now c.args.kept c.args.lines.now c.lent-in-Ok.result (record {
      parts = parts;
      are_parts = rw c.new-outer.ensures at c.of-parts.ensures.parts;
      is_content = c.lent-in-Ok.ensures parts run.2;
    })

pub returns-in-Ok-clause-utf8 : goal.returns-in-Ok-clause-utf8
returns-in-Ok-clause-utf8 c =
    let parts = parts_left c.of-parts.result in
    let run = subst (λ ls. IsRun ls parts c.in-Ok.begin c.in-Ok.end) c.of-parts.ensures.lines c.in-Ok.ensures.run in
    content_utf8 c.args.kind c.args.containers.now c.args.kept c.args.lines.now c.lent-in-Ok.result (record {
      parts = parts;
      are_parts = rw c.new-outer.ensures at c.of-parts.ensures.parts;
      is_content = c.lent-in-Ok.ensures parts run.2;
    })

pub returns-in-Ok-clause-endings : goal.returns-in-Ok-clause-endings
returns-in-Ok-clause-endings c = λ code.
    let parts = parts_left c.of-parts.result in
    let run = subst (λ ls. IsRun ls parts c.in-Ok.begin c.in-Ok.end) c.of-parts.ensures.lines c.in-Ok.ensures.run in
    content_none c.args.kind code c.args.containers.now c.args.kept (lines_of c.args.lines.now) c.lent-in-Ok.result (record {
      parts = parts;
      are_parts = rw c.new-outer.ensures at c.of-parts.ensures.parts;
      is_content = c.lent-in-Ok.ensures parts run.2;
    })

-- what is built
pub returns-in-Err-clause-content : goal.returns-in-Err-clause-content
returns-in-Err-clause-content c =
    built_content c.built.result c.args.kind c.args.containers.now c.args.kept c.args.lines.now (parts_left c.of-parts.result)
    (seen_part c.in-Err.front ∷ parts_left c.in-Err.later)
    (rw c.new-outer.ensures at c.of-parts.ensures.parts) c.in-Err.ensures.joined c.built.ensures

pub returns-in-Err-clause-bytes : goal.returns-in-Err-clause-bytes
returns-in-Err-clause-bytes c = built_bytes c.built.result c.args.kind c.args.containers.now c.args.kept c.args.lines.now (returns-in-Err-clause-content c)

pub returns-in-Err-clause-utf8 : goal.returns-in-Err-clause-utf8
returns-in-Err-clause-utf8 c = built_utf8 c.built.result c.args.kind c.args.containers.now c.args.kept c.args.lines.now (returns-in-Err-clause-content c)

pub returns-in-Err-clause-endings : goal.returns-in-Err-clause-endings
returns-in-Err-clause-endings c = built_endings c.built.result c.args.kind c.args.containers.now c.args.kept c.args.lines.now (returns-in-Err-clause-content c)

pub built-requires-clause-broken : goal.built-requires-clause-broken
built-requires-clause-broken c = ap (λ (p : Placed). p.is_lent) c.in-Err.ensures.joined ∙ no_one_run (parts_left c.of-parts.result) c.in-Err.ensures.none
