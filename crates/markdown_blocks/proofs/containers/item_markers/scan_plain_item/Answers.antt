use Rattle.std.proofs.Common.{refl, sym, subst, ◌∙◌, arith}
use Rattle.markdown_blocks.specs.containers.private.Markers.{IsPlainBullet}
use Rattle.markdown_blocks.proofs.containers.ContainerLemmas.{rest_at_offset}
use Rattle.markdown_blocks.proofs.containers.PlainItems.{plain_given}
use Rattle.markdown_blocks.proofs.containers.item_markers.scan_plain_item.Goals as goal

pub returns-clause-found : goal.returns-clause-found
returns-clause-found c =
    let s = c.args.start.now in
    let there = rest_at_offset c.args.line.now s c.bytes_scanned-offset.result c.requires.bytes c.bytes_scanned-offset.ensures.offset in
    plain_given c.args.indent s c.in_ok-start.field-0 c.in_ok-bullet.bullet _
    (subst (IsPlainBullet c.in_ok-bullet.bullet) (sym there) c.in_ok-bullet.ensures)
    (omega (arith, c.remaining_space.ensures.pending, c.if-remaining_space-gt0.false))
    (c.in_ok-start.ensures.state ∙ rw (c.bytes_scanned-offset.ensures.offset, c.phase.ensures.phase, c.requires.bytes) refl)
    refl
