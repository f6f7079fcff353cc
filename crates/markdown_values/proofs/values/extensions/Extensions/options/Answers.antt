use Rattle.std.proofs.Common.{rules, ◌≡◌, ◌+◌, subst, sym}
use Rattle.markdown_values.specs.values.Extensions.{asked_by, extension_bits}
use Rattle.markdown_values.proofs.values.ExtensionLemmas.{comes_back}
use Rattle.markdown_values.proofs.values.extensions.Extensions.options.Goals as goal

pub returns-clause-back : goal.returns-clause-back
returns-clause-back c =
    let bits : c.bits_if.result + c.bits_if-2.result + c.bits_if-3.result + c.bits_if-4.result + c.bits_if-5.result + c.bits_if-6.result
    ≡ extension_bits c.args.self = search rules in
    subst (λ n. asked_by (record { 0 = n }) ≡ c.args.self) (sym bits) (comes_back c.args.self)
