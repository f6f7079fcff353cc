use Rattle.std.proofs.Common.{ℕ, Bool, ◌↔◌, ◌&&◌, ◌==◌, ◌∷◌, [], IsTrue, inl, length, refl, sym, ap, ◌∙◌, subst, arith}
use Rattle.std.proofs.lemmas.List.{length-take-le}
use Rattle.markdown_blocks.specs.blocks.Pages.{BeginWithHeader, is_blank_kind}
use Rattle.markdown_blocks.specs.containers.Containers.{Between}
use Rattle.markdown_blocks.specs.events.Events.{first_of}
use Rattle.markdown_blocks.proofs.kinds.KindLemmas.{not_given}
use Rattle.markdown_blocks.proofs.blocks.OverLemmas.{header-more, leaf_after-more}
use Rattle.markdown_blocks.proofs.taken.TakenLemmas.{taken-next, first_within}
use Rattle.markdown_blocks.proofs.taken.FrontLemmas.{lines_of_taken}
use Rattle.markdown_blocks.proofs.whole.WholeLemmas.{some_lines}
use Rattle.markdown_blocks.specs.definitions.Content.{content_in}
use Rattle.markdown_blocks.specs.walk.Walk.{IsGathered}
use Rattle.markdown_blocks.proofs.terms.TermLemmas.{leaf_some}
use Rattle.markdown_blocks.proofs.walk.WalkLemmas.{some_bytes, step_here, content_here, none_over, with_open}
use Rattle.markdown_blocks.proofs.walk.Walk.next_block.Goals as goal

pub returns-in_default-clause-all : goal.returns-in_default-clause-all
returns-in_default-clause-all c = λ ended.
    some_lines c.args.lines.now ((c.nothing.ensures c.args.lines.now).parts ∙ c.in_default.ensures.none)

pub returns-then-not-is_over-clause-all : goal.returns-then-not-is_over-clause-all
returns-then-not-is_over-clause-all c = λ ended.
    let one = taken-next c.args.lines.now c.nothing.result c.in-Some.first [] c.in-Some.line.now (c.nothing.ensures c.args.lines.now) c.in-Some.ensures.line in
    let block = (c.in_ok-found.ensures.first one).found in
    let over : IsTrue c.is_over.result = (c.is_over.ensures (c.in-Some.line.now ∷ block.later) block.taken).1 (inl ended) in
    absurd (not_given c.if-not-is_over.true (λ t. t) over)

pub returns-then-not-is_over-clause-none : goal.returns-then-not-is_over-clause-none
returns-then-not-is_over-clause-none c =
    let one = taken-next c.args.lines.now c.nothing.result c.in-Some.first [] c.in-Some.line.now (c.nothing.ensures c.args.lines.now) c.in-Some.ensures.line in
    let old : Between = record {
      extensions = c.self.inside.extensions;
      containers = c.self.inside.opened.items;
      term = c.self.inside.is_after_term;
      paragraph = c.self.inside.is_after_paragraph;
    } in
    let found = rw (c.in_ok-extend_from_slice.ensures.items, c.clear.ensures.items, c.deref.ensures.value) at (c.in_ok-found.ensures.first one) in
    let over = rw (c.new-outer.ensures, c.deref-2.ensures.value) at (c.is_over.ensures (c.in-Some.line.now ∷ found.found.later) found.found.taken) in
    rw (← c.self.view_is) (none_over old c.scan_first.new.outer.items c.in-Some.line.now
    c.args.lines.now c.args.has_ended _ _ c.in_ok-found.found.block found (not_given c.if-not-is_over.true over.1))

pub returns-clause-some : goal.returns-clause-some
returns-clause-some c =
    let one = taken-next c.args.lines.now c.nothing.result c.in-Some.first [] c.in-Some.line.now (c.nothing.ensures c.args.lines.now) c.in-Some.ensures.line in
    (some_bytes (c.in_ok-found.ensures.first one).header c.args.lines.now _ c.in-Some.line.now _ c.in_ok-found.found.block (c.in_ok-found.ensures.first one).found).0

pub returns-clause-within : goal.returns-clause-within
returns-clause-within c =
    let one = taken-next c.args.lines.now c.nothing.result c.in-Some.first [] c.in-Some.line.now (c.nothing.ensures c.args.lines.now) c.in-Some.ensures.line in
    (some_bytes (c.in_ok-found.ensures.first one).header c.args.lines.now _ c.in-Some.line.now _ c.in_ok-found.found.block (c.in_ok-found.ensures.first one).found).1

pub returns-clause-step : goal.returns-clause-step
returns-clause-step c = λ more none.
    let old : Between = record {
      extensions = c.self.inside.extensions;
      containers = c.self.inside.opened.items;
      term = c.self.inside.is_after_term;
      paragraph = c.self.inside.is_after_paragraph;
    } in
    let inner = c.scan_first.new.outer.items in
    let block_now = c.in_ok-found.found.block in
    let kept = c.in_ok-found.found.opened.kept in
    let one = taken-next c.args.lines.now c.nothing.result c.in-Some.first [] c.in-Some.line.now (c.nothing.ensures c.args.lines.now) c.in-Some.ensures.line in
    let first = rw (c.in_ok-extend_from_slice.ensures.items, c.clear.ensures.items, c.deref.ensures.value, ← c.rest.view_is)
    at (c.in_ok-found.ensures.first one) in
    let block = first.found in
    let over = rw (c.new-outer.ensures, c.deref-2.ensures.value) at (c.is_over.ensures (c.in-Some.line.now ∷ block.later) block.taken) in
    let offset = rw (c.in_ok-extend_from_slice.ensures.items, c.clear.ensures.items, c.deref.ensures.value) at c.in_ok-found.ensures.offset in
    let leaf = leaf_after-more (with_open old inner) more first.header block_now.kind _
    block.later _ c.args.has_ended
    (over.0 c.if-not-is_over.false) none block.leaf in
    let header = header-more old c.in-Some.line.now block.later more first.header inner block_now.kind _ c.args.has_ended
    (over.0 c.if-not-is_over.false) none (subst (λ ls. IsTrue first.header ↔ BeginWithHeader old ls) block.taken.parts first.is_header) in
    let gathered = rw c.deref-3.ensures.value at (c.in_ok-gather_content.ensures c.in-Some.line.now block.later block.taken) in
    let given = c.is_term-is_term.ensures (content_in block_now.kind inner c.rest.inside.text.now block.later)
    (leaf_some first.header (with_open old inner) block_now.kind _ block.later _ block.leaf)
    (subst (IsGathered (content_in block_now.kind inner c.rest.inside.text.now block.later)) (sym c.deref-4.ensures.value) gathered) in
    let test : ℕ → ℕ → Bool = λ before after. is_blank_kind block_now.kind && (block_now.taken.lines == 1)
    && (kept == before) && (after == kept) in
    let tests = c.is_blank_between-is_between.ensures
    ∙ ap (λ n. test n c.len-after.result) (c.len-before.ensures ∙ c.self.inside.opened.ok.0)
    ∙ ap (test (length c.self.inside.opened.items)) (c.len-after.ensures ∙ c.scan_first.new.outer.ok.0) in
    rw (← c.self.view_is, c.swap.ensures.x_after) (step_here old inner c.in-Some.line.now c.args.lines.now more _ first refl offset refl header leaf
    c.is_term-is_term.result c.follows_term-stays.result c.is_blank_between-is_between.result c.is_paragraph-self-inside.result given tests
    c.follows_term-stays.ensures c.is_paragraph-self-inside.ensures)

pub returns-clause-content : goal.returns-clause-content
returns-clause-content c =
    let one = taken-next c.args.lines.now c.nothing.result c.in-Some.first [] c.in-Some.line.now (c.nothing.ensures c.args.lines.now) c.in-Some.ensures.line in
    let block = (c.in_ok-found.ensures.first one).found in
    rw c.swap.ensures.x_after (content_here c.args.lines.now c.rest.inside.text.now c.in_ok-found.found.block c.scan_first.new.outer.items
    c.in-Some.line.now block.later c.gather_content.new.content.items block.taken
    (rw c.deref-3.ensures.value at (c.in_ok-gather_content.ensures c.in-Some.line.now block.later block.taken)))

pub returns-clause-few : goal.returns-clause-few
returns-clause-few c =
    let one = taken-next c.args.lines.now c.nothing.result c.in-Some.first [] c.in-Some.line.now (c.nothing.ensures c.args.lines.now) c.in-Some.ensures.line in
    let block = (c.in_ok-found.ensures.first one).found in
    let line = first_within c.args.lines.now c.in_ok-found.found.block.taken c.in-Some.line.now block.later block.taken in
    rw c.swap.ensures.x_after (omega (arith, line, c.in_ok-found.ensures.few))

pub slice_bounds-result-end : goal.slice_bounds-result-end
slice_bounds-result-end c =
    let one = taken-next c.args.lines.now c.nothing.result c.in-Some.first [] c.in-Some.line.now (c.nothing.ensures c.args.lines.now) c.in-Some.ensures.line in
    let block = (c.in_ok-found.ensures.first one).found in
    sym (length-take-le c.in_ok-found.found.block.taken.bytes c.args.lines.now block.taken.within)

pub invariant_of-result : goal.invariant_of-result
invariant_of-result c =
    let one = taken-next c.args.lines.now c.nothing.result c.in-Some.first [] c.in-Some.line.now (c.nothing.ensures c.args.lines.now) c.in-Some.ensures.line in
    let block = (c.in_ok-found.ensures.first one).found in
    let size = length-take-le c.in_ok-found.found.block.taken.bytes c.args.lines.now block.taken.within in
    let line = first_within c.args.lines.now c.in_ok-found.found.block.taken c.in-Some.line.now block.later block.taken in
    let lines = lines_of_taken c.args.lines.now c.in_ok-found.found.block.taken (c.in-Some.line.now ∷ block.later) block.taken in
    record {
      at = c.in_ok-found.ensures.bytes;
      first = omega (arith, line, size);
      bytes = sym size;
      counted = block.taken.counted ∙ sym (ap length lines);
      front = sym (ap (λ ls. length (first_of ls)) lines);
    }
