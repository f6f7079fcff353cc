use Rattle.std.proofs.Common.{◌-◌, ◌+◌, refl, sym, inl, inr, arith}
use Rattle.markdown_scanners_tree.proofs.line.PlaceLemmas.{taken_forward}
use Rattle.markdown_scanners_tree.proofs.line.SpaceLemmas.{IsTaken, state_of, one_pending, one_of_byte, none_of_byte, none_at_end, none_at_byte}
use Rattle.markdown_scanners_tree.proofs.line.LineStart.scan_column.Goals as goal

pub returns-then-self-gt0 : goal.returns-then-self-gt0
returns-then-self-gt0 c =
    let s = c.self.inside in
    let t : IsTaken 1 1 c.args.self.now (state_of s.bytes.now s.offset (s.pending - 1) s.column) =
    rw (← c.self.view_is) (one_pending s.bytes.now s.offset s.column s.pending (omega arith) (omega arith) (omega arith)) in
    record { answer = (λ _. sym t.answer, λ _. refl); state = t.state; forward = taken_forward 1 c.args.self.now _ t.state; rest = rw (← t.answer) t.rest }

pub returns-then-self : goal.returns-then-self
returns-then-self c =
    let s = c.self.inside in
    let t : IsTaken 1 0 c.args.self.now c.args.self.now =
    rw (← c.self.view_is) (none_of_byte s.bytes.now s.offset s.column s.pending 1 (omega arith) (omega arith)
    (none_at_end s.bytes.now s.offset s.column (omega arith))) in
    record {
      answer = (λ yes. cc, λ one. absurd (omega (arith, t.answer)));
      state = t.state;
      forward = taken_forward 1 c.args.self.now _ t.state;
      rest = rw (← t.answer) t.rest;
    }

pub returns-in-32 : goal.returns-in-32
returns-in-32 c =
    let s = c.self.inside in
    let t : IsTaken 1 1 c.args.self.now (state_of s.bytes.now (s.offset + 1) s.pending (s.column + 1)) =
    rw (← c.self.view_is) (one_of_byte s.bytes.now s.offset s.column s.pending 32 1 s.pending (omega arith)
    (omega arith) c.in-32.is (inl (refl, refl)) (omega arith)) in
    record { answer = (λ _. sym t.answer, λ _. refl); state = t.state; forward = taken_forward 1 c.args.self.now _ t.state; rest = rw (← t.answer) t.rest }

pub returns-in-9 : goal.returns-in-9
returns-in-9 c =
    let s = c.self.inside in
    let width = c.tab_width-width.result in
    let t : IsTaken 1 1 c.args.self.now (state_of s.bytes.now (s.offset + 1) (width - 1) (s.column + width)) =
    rw (← c.self.view_is) (one_of_byte s.bytes.now s.offset s.column s.pending 9 width (width - 1) (omega arith)
    (omega arith) c.in-9.is (inr (refl, c.tab_width-width.ensures.width)) (omega (arith, c.tab_width-width.ensures))) in
    record { answer = (λ _. sym t.answer, λ _. refl); state = t.state; forward = taken_forward 1 c.args.self.now _ t.state; rest = rw (← t.answer) t.rest }

pub returns-in_default : goal.returns-in_default
returns-in_default c =
    let s = c.self.inside in
    let t : IsTaken 1 0 c.args.self.now c.args.self.now =
    rw (← c.self.view_is) (none_of_byte s.bytes.now s.offset s.column s.pending 1 (omega arith) (omega arith)
    (none_at_byte s.bytes.now s.offset s.column (omega arith) (omega (arith, c.in_default)) (omega (arith, c.in_default)))) in
    record {
      answer = (λ yes. cc, λ one. absurd (omega (arith, t.answer)));
      state = t.state;
      forward = taken_forward 1 c.args.self.now _ t.state;
      rest = rw (← t.answer) t.rest;
    }
