use Rattle.std.proofs.Common.{◌-◌, subst}
use Rattle.std.specs.Prelude.{Result, Ok, Err, IfOk}
use Rattle.markdown_inlines.specs.declared.links.LinkTarget.{LinkTarget}
use Rattle.markdown_events.specs.Meanings.{IsWrittenTarget}
use Rattle.markdown_events.proofs.link_tags.label_of.Goals as goal

if_ok : {A E : Type 0} (r : Result A E) (P Q : A → Type 0) → ((a : A) → P a → Q a) → IfOk r P → IfOk r Q
if_ok (Ok a) P Q each is = each a is
if_ok (Err e) P Q each is = tt

pub returns-in-Full : goal.returns-in-Full
returns-in-Full c = if_ok c.label_at.result _ _ (λ label gives targets name target leads.
    (let full = subst (λ (t : LinkTarget). IsWrittenTarget c.args.source.now targets c.args.link.now.text t name target) c.in-Full.is leads in
    gives (c.in-Full.label.end - 1) name full.0)) c.label_at.ensures

pub returns-in-Collapsed : goal.returns-in-Collapsed
returns-in-Collapsed c = if_ok c.label_at-in-Collapsed.result _ _ (λ label gives targets name target leads.
    (let here = subst (λ (t : LinkTarget). IsWrittenTarget c.args.source.now targets c.args.link.now.text t name target) c.in-Collapsed.is leads in
    gives c.args.link.now.text.end name here.0)) c.label_at-in-Collapsed.ensures

pub returns-in-Shortcut : goal.returns-in-Shortcut
returns-in-Shortcut c = if_ok c.label_at-in-Shortcut.result _ _ (λ label gives targets name target leads.
    (let here = subst (λ (t : LinkTarget). IsWrittenTarget c.args.source.now targets c.args.link.now.text t name target) c.in-Shortcut.is leads in
    gives c.args.link.now.text.end name here.0)) c.label_at-in-Shortcut.ensures
