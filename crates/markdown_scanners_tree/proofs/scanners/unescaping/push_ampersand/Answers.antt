use Rattle.std.proofs.Common.{◌≡◌, ◌+◌, ◌-◌, ap, ◌∙◌, subst, ℕ, List, take, drop, length, get_or, refl, arith, encode_utf8}
use Rattle.std.proofs.lemmas.Bool.{false≢true}
use Rattle.std.proofs.lemmas.List.{take_rest, get_or-drop}
use Rattle.std.specs.Option.{option_copied}
use Rattle.markdown_scanners_tree.specs.Ascii.{ampersand}
use Rattle.markdown_scanners_tree.specs.scanners.entities.private.Name.{IsNameAnswer}
use Rattle.markdown_scanners_tree.specs.scanners.unescaping.private.FirstPiece.{IsChanged, ArePlain}
use Rattle.markdown_scanners_tree.proofs.scanners.unescaping.FirstPieceLemmas.{reference_changed, number_plain, lone_piece, name_plain}
use Rattle.markdown_scanners_tree.proofs.scanners.unescaping.PieceLemmas.{pushed_change, pushed_nothing}
use Rattle.markdown_scanners_tree.proofs.scanners.unescaping.push_ampersand.Goals as goal

-- What the bytes from the offset on are is so of the text from the offset on.
module _ (text bytes : List ℕ) (offset : ℕ) (same : bytes ≡ text) (begins : get_or text offset 0 ≡ ampersand) where
  at : take (length bytes - offset) (drop offset bytes) ≡ drop offset text
  at = take_rest bytes offset ∙ ap (drop offset) same

  begins_there : get_or (drop offset text) 0 0 ≡ ampersand
  begins_there =
      let zero' : offset + 0 ≡ offset = omega arith in
      get_or-drop offset text 0 0 ∙ (ap (λ k. get_or text k 0) zero' ∙ begins)

pub returns-in_default-clause-pushed : goal.returns-in_default-clause-pushed
returns-in_default-clause-pushed g c in_table =
    let known = g.E.Entities.known c.args.entities.now in
    let offset = c.args.offset in
    let rest = take (length c.as_bytes.result.now - offset) (drop offset c.as_bytes.result.now) in
    let same = at c.args.text.now c.as_bytes.result.now offset c.as_bytes.ensures.value c.requires.begins in
    let begins : get_or rest 0 0 ≡ ampersand = ap (λ bs. get_or bs 0 0) same
    ∙ begins_there c.args.text.now c.as_bytes.result.now offset c.as_bytes.ensures.value c.requires.begins in
    let first =
    lone_piece in_table known rest (omega (arith, c.if-bytes-gt1.true))
    (λ b. absurd (omega (arith, b, begins))) (λ b. absurd (omega (arith, b, begins)))
    (λ n meaning starts. c.in_default.ensures.found known n meaning starts.1) in
    let n = c.lone_len-plain.result in
    pushed_nothing in_table known c.args.text.now c.args.run offset (1 + n) c.args.out.now
    (subst (λ bs. ArePlain in_table known bs (1 + n)) same
    (number_plain in_table known rest n first c.if-bytes-eq35.true c.lone_len-plain.ensures.within
    c.lone_len-plain.ensures.at_most_two c.lone_len-plain.ensures.plain))

pub returns-in_err-push_with_char-clause-room : goal.returns-in_err-push_with_char-clause-room
returns-in_err-push_with_char-clause-room g c in_table room =
    let known = g.E.Entities.known c.args.entities.now in
    let offset = c.args.offset in
    let n = c.in-Some.length in
    let meaning = encode_utf8 c.in-Some.meaning in
    let same = at c.args.text.now c.as_bytes.result.now offset c.as_bytes.ensures.value c.requires.begins in
    let begins = begins_there c.args.text.now c.as_bytes.result.now offset c.as_bytes.ensures.value c.requires.begins in
    let is =
    subst (λ bs. IsChanged in_table known bs n n meaning) same
    (reference_changed in_table known _ n meaning
    (ap (λ bs. get_or bs 0 0) same ∙ begins, c.in-Some.ensures.found known)) in
    absurd (false≢true (c.in_err-push_with_char.ensures.succeeds
    (omega (arith, room n n meaning is, c.range.ensures.len))))

pub returns-then-bytes-eq35-clause-pushed : goal.returns-then-bytes-eq35-clause-pushed
returns-then-bytes-eq35-clause-pushed g c in_table =
    let known = g.E.Entities.known c.args.entities.now in
    let offset = c.args.offset in
    let n = c.in-Some.length in
    let meaning = encode_utf8 c.in-Some.meaning in
    let same = at c.args.text.now c.as_bytes.result.now offset c.as_bytes.ensures.value c.requires.begins in
    let begins = begins_there c.args.text.now c.as_bytes.result.now offset c.as_bytes.ensures.value c.requires.begins in
    let is =
    subst (λ bs. IsChanged in_table known bs n n meaning) same
    (reference_changed in_table known _ n meaning
    (ap (λ bs. get_or bs 0 0) same ∙ begins, c.in-Some.ensures.found known)) in
    pushed_change in_table known c.args.text.now c.args.run offset n n (offset + n) meaning c.range.result.now
    c.args.out.now c.push_with_char.new.out is refl c.range.ensures.value (omega (arith, c.range.ensures.len))
    c.in_ok-push_with_char.ensures.bytes (omega (arith, c.in_ok-push_with_char.ensures.len))

pub returns-in_default-meaning-clause-pushed : goal.returns-in_default-meaning-clause-pushed
returns-in_default-meaning-clause-pushed g c in_table =
    let known = g.E.Entities.known c.args.entities.now in
    let offset = c.args.offset in
    let n = c.scan_name-name.result.0 in
    let rest = take (length c.as_bytes.result.now - offset) (drop offset c.as_bytes.result.now) in
    let same = at c.args.text.now c.as_bytes.result.now offset c.as_bytes.ensures.value c.requires.begins in
    let begins = begins_there c.args.text.now c.as_bytes.result.now offset c.as_bytes.ensures.value c.requires.begins in
    let none =
    subst (λ o. IsNameAnswer known rest n (option_copied o)) c.in_default-meaning.is c.scan_name-name.ensures.found in
    pushed_nothing in_table known c.args.text.now c.args.run offset (n + 1) c.args.out.now
    (subst (λ bs. ArePlain in_table known bs (n + 1)) same
    (name_plain in_table known rest n (omega (arith, c.scan_name-name.ensures.within))
    (ap (λ bs. get_or bs 0 0) same ∙ begins) none c.scan_name-name.ensures.name))

pub returns-in_err-push_both-clause-room : goal.returns-in_err-push_both-clause-room
returns-in_err-push_both-clause-room g c in_table room =
    let known = g.E.Entities.known c.args.entities.now in
    let offset = c.args.offset in
    let n = c.scan_name-name.result.0 in
    let meaning = c.in-Some-meaning.meaning.now in
    let rest = take (length c.as_bytes.result.now - offset) (drop offset c.as_bytes.result.now) in
    let same = at c.args.text.now c.as_bytes.result.now offset c.as_bytes.ensures.value c.requires.begins in
    let begins = begins_there c.args.text.now c.as_bytes.result.now offset c.as_bytes.ensures.value c.requires.begins in
    let found =
    subst (λ o. IsNameAnswer known rest n (option_copied o)) c.in-Some-meaning.is c.scan_name-name.ensures.found in
    let is =
    subst (λ bs. IsChanged in_table known bs (n + 2) (n + 2) meaning) same
    (reference_changed in_table known rest (n + 2) meaning (ap (λ bs. get_or bs 0 0) same ∙ begins, found)) in
    absurd (false≢true (c.in_err-push_both.ensures.succeeds
    (omega (arith, room (n + 2) (n + 2) meaning is, c.range-2.ensures.len))))

pub returns-clause-pushed : goal.returns-clause-pushed
returns-clause-pushed g c in_table =
    let known = g.E.Entities.known c.args.entities.now in
    let offset = c.args.offset in
    let n = c.scan_name-name.result.0 in
    let meaning = c.in-Some-meaning.meaning.now in
    let rest = take (length c.as_bytes.result.now - offset) (drop offset c.as_bytes.result.now) in
    let same = at c.args.text.now c.as_bytes.result.now offset c.as_bytes.ensures.value c.requires.begins in
    let begins = begins_there c.args.text.now c.as_bytes.result.now offset c.as_bytes.ensures.value c.requires.begins in
    let found =
    subst (λ o. IsNameAnswer known rest n (option_copied o)) c.in-Some-meaning.is c.scan_name-name.ensures.found in
    let is =
    subst (λ bs. IsChanged in_table known bs (n + 2) (n + 2) meaning) same
    (reference_changed in_table known rest (n + 2) meaning (ap (λ bs. get_or bs 0 0) same ∙ begins, found)) in
    pushed_change in_table known c.args.text.now c.args.run offset (n + 2) (n + 2) (offset + (n + 2)) meaning
    c.range-2.result.now c.args.out.now c.push_both.new.out is refl c.range-2.ensures.value
    (omega (arith, c.range-2.ensures.len)) c.in_ok-push_both.ensures.bytes
    (omega (arith, c.in_ok-push_both.ensures.len))
