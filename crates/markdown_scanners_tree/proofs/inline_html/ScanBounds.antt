-- Where a scan's answer lies, and how many bytes the scan passes over at most.
use Rattle.std.proofs.Common.{◌≡◌, ℕ, ◌+◌, ◌≤◌, Bool, true, false, List, length, refl, arith, Option, Some, None, cond}
use Rattle.std.specs.Prelude.{IfSome}
use Rattle.markdown_scanners_tree.specs.declared.inline_html.HtmlScanGuard.{HtmlScanGuard}
use Rattle.markdown_scanners_tree.specs.inline_html.Guard.{is_stopped, guarded_answer}
use Rattle.markdown_scanners_tree.specs.inline_html.InlineHtml.{Kind, Comment, Cdata, Declaration, Processing, Opening, Begins, Hyphen, Bracket, Nothing}
use Rattle.markdown_scanners_tree.specs.inline_html.InlineHtml.{closer, lead, first_closer, closed_at, end_of, span, searched, looked_at, cost}
use Rattle.markdown_scanners_tree.proofs.inline_html.Scans.{first_offset-bounds}

-- a find lies between its offset and the end of the text
closed_at-bounds : (text : List ℕ) (kind : Kind) (p : ℕ) (hit : Option ℕ) → first_closer text kind p ≡ hit
    → IfSome (closed_at text kind p) (λ end. (p ≤ end) × (end ≤ length text))
closed_at-bounds text kind p None e = rw e tt
closed_at-bounds text kind p (Some hit) e =
    let within = first_offset-bounds text (closer kind) (p + lead kind) hit e in rw e (omega arith, within.1)

pub end_of-bounds : (text : List ℕ) (opening : Opening) (p : ℕ)
    → IfSome (end_of text opening p) (λ end. (p ≤ end) × (end ≤ length text))
end_of-bounds text (Begins kind) p = closed_at-bounds text kind p _ refl
end_of-bounds text Hyphen p = tt
end_of-bounds text Bracket p = tt
end_of-bounds text Nothing p = tt

-- so does what a scan answers under a guard
pub guarded_answer-bounds : (text : List ℕ) (guard : HtmlScanGuard) (opening : Opening) (p : ℕ)
    → IfSome (guarded_answer text guard opening p) (λ end. (p ≤ end) × (end ≤ length text))
guarded_answer-bounds text guard (Begins kind) p = by (is_stopped guard p kind)
  where
    by : (stopped : Bool) → IfSome (cond stopped None (closed_at text kind p)) (λ end. (p ≤ end) × (end ≤ length text))
    by true = tt
    by false = closed_at-bounds text kind p _ refl
guarded_answer-bounds text guard Hyphen p = tt
guarded_answer-bounds text guard Bracket p = tt
guarded_answer-bounds text guard Nothing p = tt

pub looked_at-le : (kind : Kind) → looked_at kind ≤ 7
looked_at-le Comment = omega arith
looked_at-le Cdata = omega arith
looked_at-le Declaration = omega arith
looked_at-le Processing = omega arith

pub searched-le : (text : List ℕ) (kind : Kind) (p : ℕ) → searched text kind p ≤ 2 + span text p (closed_at text kind p)
searched-le text Comment p = omega arith
searched-le text Cdata p = omega arith
searched-le text Declaration p = omega arith
searched-le text Processing p = omega arith

span-le : (text : List ℕ) (p : ℕ) (found : Option ℕ) → IfSome found (λ end. (p ≤ end) × (end ≤ length text))
    → span text p found ≤ length text
span-le text p None bounds = omega arith
span-le text p (Some end) bounds = omega (arith, bounds.1)

one-le : (test : Bool) (a b most : ℕ) → a ≤ most → b ≤ most → cond test a b ≤ most
one-le true a b most one other = one
one-le false a b most one other = other

-- a scan passes over the text at most, and eight bytes
pub cost-le : (text : List ℕ) (stopped : Kind → Bool) (opening : Opening) (p : ℕ) → cost text stopped opening p ≤ length text + 8
unfolding cost
cost-le text stopped (Begins kind) p =
    one-le (stopped kind) _ _ _ (omega (arith, looked_at-le kind))
    (omega (arith, searched-le text kind p, span-le text p (closed_at text kind p) (end_of-bounds text (Begins kind) p)))
cost-le text stopped Hyphen p = one-le (stopped Comment) 1 2 _ (omega arith) (omega arith)
cost-le text stopped Bracket p = omega arith
cost-le text stopped Nothing p = omega arith
