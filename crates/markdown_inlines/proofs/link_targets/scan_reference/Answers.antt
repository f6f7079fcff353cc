use Rattle.std.proofs.Common.{nat_eq, rules, [], ◌∷◌, ◌≡◌, ◌+◌, ◌∙◌, sym, subst, refl, true, arith}
use Rattle.std.specs.List.{starts_with}
use Rattle.std.specs.Str.{IsCharBoundary}
use Rattle.markdown_inlines.proofs.link_targets.TargetLemmas.{no_target, cut_after_bytes}
use Rattle.markdown_inlines.proofs.link_targets.scan_reference.Goals as goal

pub returns-then-not-branch-clause-found : goal.returns-then-not-branch-clause-found
returns-then-not-branch-clause-found g c = λ untailed unlabelled r is.
    no_target c.args.text.now _ c.args.from c.args.close untailed unlabelled
    (λ known. let is_true = c.in_ok-is_known.ensures.1 known in search (rules)) r.0 r.1 is

pub returns-then-starts_with-clause-boundary : goal.returns-then-starts_with-clause-boundary
returns-then-starts_with-clause-boundary g c =
    subst (IsCharBoundary c.args.text.now) (omega arith)
    (cut_after_bytes c.args.text.now (91 ∷ 93 ∷ []) (c.args.close + 1) c.utf8.text c.requires.after
    (subst (λ rest. starts_with nat_eq rest (91 ∷ 93 ∷ []) ≡ true) (c.as_bytes.ensures.value ∙ c.split_at.ensures.back)
    (sym c.starts_with.ensures.value ∙ c.if-starts_with.true)) refl)
