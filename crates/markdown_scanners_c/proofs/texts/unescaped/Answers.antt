-- What is written is what the pieces of the text mean; where memory is refused, some piece doesn't mean itself.
use Rattle.std.proofs.Common.{◌≡◌, IsUtf8, ap, length, refl, sym, subst, ◌∙◌, inl, inr, arith}
use Rattle.html_entities.specs.Entities.{html_entity}
use Rattle.markdown_values.specs.strings.Text.{cow_text}
use Rattle.markdown_scanners_tree.specs.scanners.unescaping.Unescaping.{ArePieces, joined_meanings}
use Rattle.markdown_scanners_c.specs.Buffer.{IsWritten}
use Rattle.markdown_scanners_c.specs.Texts.{IsMeaningText}
use Rattle.markdown_scanners_c.proofs.Meanings.{meanings_within, written_text}
use Rattle.markdown_scanners_c.proofs.texts.unescaped.Goals as goal

pub returns-in-Ok-clause-text : goal.returns-in-Ok-clause-text
unfolding IsMeaningText
returns-in-Ok-clause-text c =
    let pieces = c.unescape.ensures.pieces in
    let are : ArePieces c.args.is_in_table html_entity c.args.text.now pieces.0 =
    subst (λ t. ArePieces c.args.is_in_table html_entity t pieces.0) c.from.ensures.0 pieces.1 in
    let means : cow_text c.in-Ok.meaning ≡ joined_meanings pieces.0 = c.in-Ok.ensures.text pieces.0 pieces.1 in
    let same : c.as_bytes.result.now ≡ joined_meanings pieces.0 = c.as_bytes.ensures.value ∙ (c.as_str.ensures ∙ means) in
    let w = c.write_text in
    (pieces.0, are, inl (w.ensures.taken, subst (λ t. IsWritten t c.args.buffer.now w.new.buffer w.result.status w.result.length) same w.ensures.written))

pub returns-in-Ok-clause-room : goal.returns-in-Ok-clause-room
returns-in-Ok-clause-room c =
    let pieces = c.unescape.ensures.pieces in
    let are : ArePieces c.args.is_in_table html_entity c.args.text.now pieces.0 =
    subst (λ t. ArePieces c.args.is_in_table html_entity t pieces.0) c.from.ensures.0 pieces.1 in
    let means : cow_text c.in-Ok.meaning ≡ joined_meanings pieces.0 = c.in-Ok.ensures.text pieces.0 pieces.1 in
    let same : c.as_bytes.result.now ≡ joined_meanings pieces.0 = c.as_bytes.ensures.value ∙ (c.as_str.ensures ∙ means) in
    let w = c.write_text in
    omega (arith, meanings_within _ _ _ are, ap length same, w.ensures.written.0)

pub returns-in-Err-clause-text : goal.returns-in-Err-clause-text
unfolding IsMeaningText
returns-in-Err-clause-text c =
    let pieces = c.unescape.ensures.pieces in
    let are : ArePieces c.args.is_in_table html_entity c.args.text.now pieces.0 =
    subst (λ t. ArePieces c.args.is_in_table html_entity t pieces.0) c.from.ensures.0 pieces.1 in
    (pieces.0, are, inr (c.no_text.ensures, refl, λ themselves. (let e = c.in-Err.ensures.same pieces.0 pieces.1 themselves in grind (arith, e))))

pub returns-in-Ok-clause-utf8 : goal.returns-in-Ok-clause-utf8
returns-in-Ok-clause-utf8 c =
    let utf8 = subst IsUtf8 (sym c.as_bytes.ensures.value) c.as_str.utf8 in
    written_text _ _ _ _ _ utf8 c.write_text.ensures.written
