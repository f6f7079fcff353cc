use Rattle.std.proofs.Common.{◌≡◌, ◌∙◌, ◌∷◌, [], sym, subst, refl, true, nat_eq}
use Rattle.std.proofs.lemmas.Result.{IfOk-weaker}
use Rattle.std.specs.List.{starts_with}
use Rattle.markdown_inlines.proofs.link_targets.TargetLemmas.{cut_after_bytes, none_after}
use Rattle.markdown_inlines.proofs.link_targets.scan_label_after.Goals as goal

pub scan_label-requires : goal.scan_label-requires
scan_label-requires c =
    cut_after_bytes c.args.text.now (91 ∷ []) c.args.offset c.utf8.text c.requires
    (subst (λ rest. starts_with nat_eq rest (91 ∷ []) ≡ true) (c.as_bytes.ensures.value ∙ c.split_at.ensures.back)
    (sym c.starts_with.ensures.value ∙ c.if-not-starts_with.false)) refl

pub returns-clause-none : goal.returns-clause-none
returns-clause-none c = IfOk-weaker c.scan_label.result _ _ (λ found none. none_after c.args.text.now c.args.offset found none) c.scan_label.ensures.none
