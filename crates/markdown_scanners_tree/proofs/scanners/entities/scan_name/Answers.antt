use Rattle.std.proofs.Common.{◌≡◌, ◌+◌, ◌-◌, arith, ap, ◌∙◌, take, drop, length-drop}
use Rattle.std.specs.List.{prefix_len}
use Rattle.std.specs.Option.{option_copied}
use Rattle.std.proofs.lemmas.List.{take_rest}
use Rattle.markdown_scanners_tree.specs.Bytes.{is_alphanumeric}
use Rattle.markdown_scanners_tree.proofs.scanners.entities.ReferenceLemmas.{only_entity, entity_ended, looked_up}
use Rattle.markdown_scanners_tree.proofs.scanners.entities.scan_name.Goals as goal
use Rattle.markdown_scanners_tree.proofs.scanners.entities.scan_name.Goals.{then-n-bytes-via-then-n-bytes, then-n-bytes-via-else-n-bytes+then-bytes-n-ne59}

pub returns-then-n-bytes-clause-name : goal.returns-then-n-bytes-clause-name
returns-then-n-bytes-clause-name g c =
    c.scan_alphanumerics-n.ensures.run ∙ ap (prefix_len is_alphanumeric) (take_rest c.args.bytes.now 1)

pub returns-then-n-bytes-clause-found : goal.returns-then-n-bytes-clause-found
returns-then-n-bytes-clause-found g c =
    λ n meaning is.
    let count = c.scan_alphanumerics-n.ensures.run ∙ ap (prefix_len is_alphanumeric) (take_rest c.args.bytes.now 1) in
    let ended =
    entity_ended (g.E.Entities.known c.args.entities.now) c.args.bytes.now c.scan_alphanumerics-n.result meaning
    c.requires.not_empty count
    (only_entity (g.E.Entities.known c.args.entities.now) c.args.bytes.now n meaning c.requires.no_number is) in
    elim c.then-n-bytes.branch [
      | then-n-bytes-via-then-n-bytes w ↦ absurd (omega (arith, ended.inside, w.if-n-bytes.true))
      | then-n-bytes-via-else-n-bytes+then-bytes-n-ne59 w ↦ w.if-bytes-n-ne59.true ended.ends
    ]

pub returns-clause-name : goal.returns-clause-name
returns-clause-name g c =
    c.scan_alphanumerics-n.ensures.run ∙ ap (prefix_len is_alphanumeric) (take_rest c.args.bytes.now 1)

pub returns-clause-found : goal.returns-clause-found
returns-clause-found g c =
    let known = g.E.Entities.known c.args.entities.now in
    let n = c.scan_alphanumerics-n.result in
    let count = c.scan_alphanumerics-n.ensures.run ∙ ap (prefix_len is_alphanumeric) (take_rest c.args.bytes.now 1) in
    let less : n + 1 - 1 ≡ n = omega arith in
    looked_up known c.args.bytes.now n (option_copied c.get.result) c.requires.not_empty c.requires.no_number count
    (omega (
      arith,
      c.if-n-bytes.false,
      c.scan_alphanumerics-n.ensures.within,
      length-drop 1 c.args.bytes.now,
      c.requires.not_empty,
    ))
    c.if-bytes-n-ne59.false
    (c.get.ensures ∙ ap (λ k. known (take k (drop 1 c.args.bytes.now))) less)
