use Rattle.std.proofs.Common.{ℕ, List, Option, Some, None}
use Rattle.std.specs.Option.{option_map}
use Rattle.markdown_values.specs.declared.strings.CowStr.{CowStr}
use Rattle.markdown_values.specs.strings.Text.{cow_text}
use Rattle.markdown_scanners_tree.specs.SomeExactly.{IsOnly}
use Rattle.markdown_scanners_tree.specs.scanners.entities.CharacterReference.{Lookup, StartsWithReference, IsReferenceAnswer}
use Rattle.markdown_scanners_tree.proofs.scanners.entities.ReferenceUnique.{one_reference}
use Rattle.markdown_scanners_tree.proofs.scanners.entities.scan_entity.Goals as goal

-- no other reference is an answer than the one that is answered
only_reference : (known : Lookup) (bytes : List ℕ) (n : ℕ) (text : Option CowStr) → IsReferenceAnswer known bytes n text
    → IsOnly (λ (r : ℕ × List ℕ). StartsWithReference known bytes r.0 r.1) (option_map (λ t. (n, cow_text t)) text)
only_reference known bytes n None none = tt
only_reference known bytes n (Some text) found = λ other is.
    one_reference known bytes other (n, cow_text text) is found

pub returns-then-bytes-lt2-clause-only : goal.returns-then-bytes-lt2-clause-only
returns-then-bytes-lt2-clause-only g c =
    only_reference (g.E.Entities.known c.args.entities.now) c.args.bytes.now c.scan_named.result.0 c.scan_named.result.1
    c.scan_named.ensures.found

pub returns-clause-found : goal.returns-clause-found
returns-clause-found g c = c.scan_numbered.ensures.found (g.E.Entities.known c.args.entities.now)

pub returns-clause-only : goal.returns-clause-only
returns-clause-only g c =
    only_reference (g.E.Entities.known c.args.entities.now) c.args.bytes.now c.scan_numbered.result.0
    c.scan_numbered.result.1 (c.scan_numbered.ensures.found (g.E.Entities.known c.args.entities.now))
