use Rattle.std.proofs.Common.{◌≡◌, ◌∙◌, Some, None, append-nil, ap, map, refl, sym, drop, false}
use Rattle.html_attributes.specs.StartTags.{closer_of, from, begins_tag, seen_tag}
use Rattle.html_attributes.proofs.TagLemmas.{is_byte, is_closed}
use Rattle.html_attributes.proofs.tags.pass_piece.Goals as goal

pub returns-in-Some-clause-piece : goal.returns-in-Some-clause-piece
returns-in-Some-clause-piece c =
    let begins : closer_of c.args.bytes.now ≡ Some c.in-Some.closer.now = sym c.in-Some.ensures in
    let rest : c.from.result.now ≡ from c.in-Some.closer.now (drop 2 c.args.bytes.now) =
    c.from.ensures.rest ∙ ap (from c.in-Some.closer.now) c.bytes_after.ensures.rest in (
      record { tag = None; rest = c.from.result.now },
      is_closed c.args.offset c.args.bytes.now c.in-Some.closer.now c.from.result.now begins rest,
      refl,
      sym (append-nil (map seen_tag c.args.tags.now.items)),
    )

pub returns-clause-piece : goal.returns-clause-piece
returns-clause-piece c =
    let none : closer_of c.args.bytes.now ≡ None = sym c.in_default.ensures in
    let other : begins_tag c.args.bytes.now ≡ false = sym c.begins_tag.ensures ∙ c.if-begins_tag.false in (
      record { tag = None; rest = drop 1 c.args.bytes.now },
      is_byte c.args.offset c.args.bytes.now none other,
      sym c.bytes_after-2.ensures.rest,
      sym (append-nil (map seen_tag c.args.tags.now.items)),
    )
