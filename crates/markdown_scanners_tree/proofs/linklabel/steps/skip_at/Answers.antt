-- After a line ending a handler gives one answer, and so many bytes are there.
use Rattle.std.proofs.Common.{ℕ, ◌≡◌, ◌≤◌, ◌+◌, arith, Option, Some, None, IfSome, drop, length}
use Rattle.std.proofs.lemmas.List.{length-drop}
use Rattle.std.specs.Fn.{FnReturnsAt}
use Rattle.markdown_scanners_tree.specs.SomeExactly.{SomeExactly, IsOnly}
use Rattle.markdown_scanners_tree.specs.Handler.{Skips}
use Rattle.markdown_scanners_tree.proofs.linklabel.SourceSteps.{rest_is}
use Rattle.markdown_scanners_tree.proofs.linklabel.steps.skip_at.Goals as goal

some-same : (m n : ℕ) → Some m ≡ Some n → m ≡ n
some-same m n e = cc

none-some : (m : ℕ) → Some m ≡ None → ⊥
none-some m e = cc

pub returns-clause-found : goal.returns-clause-found
returns-clause-found g c =
    by c.handler.result (record { shown = _; shows = rest_is c.args.bytes.now c.args.offset; says = record { met = c.handler.ensures } })
  where
    by : (r : Option ℕ) → FnReturnsAt g.F.Fn c.args.handler.now (drop c.args.offset c.args.bytes.now) r
        → SomeExactly (Skips g.F.Fn c.args.handler.now (drop c.args.offset c.args.bytes.now)) r
    by None h = λ skip k. none-some skip (c.requires.steady.one_answer _ _ _ c.requires.after k h)
    by (Some skip) h = h

pub returns-clause-only : goal.returns-clause-only
returns-clause-only g c =
    by c.handler.result (record { shown = _; shows = rest_is c.args.bytes.now c.args.offset; says = record { met = c.handler.ensures } })
  where
    by : (r : Option ℕ) → FnReturnsAt g.F.Fn c.args.handler.now (drop c.args.offset c.args.bytes.now) r
        → IsOnly (Skips g.F.Fn c.args.handler.now (drop c.args.offset c.args.bytes.now)) r
    by None h = tt
    by (Some skip) h = λ other k. some-same _ _ (c.requires.steady.one_answer _ _ _ c.requires.after k h)

pub returns-clause-within : goal.returns-clause-within
returns-clause-within g c =
    by c.handler.result (record { shown = _; shows = rest_is c.args.bytes.now c.args.offset; says = record { met = c.handler.ensures } })
  where
    by : (r : Option ℕ) → FnReturnsAt g.F.Fn c.args.handler.now (drop c.args.offset c.args.bytes.now) r
        → IfSome r (λ skip. c.args.offset + skip ≤ length c.args.bytes.now)
    by None h = tt
    by (Some skip) h = omega (
      arith,
      c.requires.steady.inside _ skip c.requires.after h,
      c.requires.there,
      length-drop c.args.offset c.args.bytes.now,
    )
