use Rattle.std.proofs.Common.{◌∷◌, ◌≡◌, ◌+◌, ◌-◌, ◌<◌, ◌≤◌, false, ap, ◌∙◌, subst, Bool, [], ℕ, List, take, drop, length, get_or, refl, arith}
use Rattle.std.proofs.lemmas.Bool.{false≢true}
use Rattle.std.proofs.lemmas.List.{take_rest}
use Rattle.std.proofs.lemmas.Grind.{common_steps, not_there}
use Rattle.markdown_scanners_tree.specs.Ascii.{carriage_return}
use Rattle.markdown_scanners_tree.specs.scanners.entities.CharacterReference.{Lookup}
use Rattle.markdown_scanners_tree.specs.scanners.unescaping.private.FirstPiece.{IsFirstPiece, IsChanged, ArePlain, begins_change}
use Rattle.markdown_scanners_tree.proofs.scanners.unescaping.FirstPieceLemmas.{return_changed, escape_changed, pair_plain, are_plain}
use Rattle.markdown_scanners_tree.proofs.scanners.unescaping.PieceLemmas.{pushed_change, pushed_drop, pushed_nothing}
use Rattle.markdown_scanners_tree.proofs.scanners.unescaping.push_first.Goals as goal

-- What the bytes from the offset on are is so of the text from the offset on.
module _ (text bytes : List ℕ) (offset : ℕ) (same : bytes ≡ text) where
  abbrev rest : List ℕ
  rest = take (length bytes - offset) (drop offset bytes)

  at : rest ≡ drop offset text
  at = take_rest bytes offset ∙ ap (drop offset) same

  return_at : (t : Bool) (known : Lookup) → 0 < length rest → get_or rest 0 0 ≡ carriage_return
      → IsChanged t known (drop offset text) 1 1 []
  return_at t known some is = subst (λ bs. IsChanged t known bs 1 1 []) at (return_changed t known rest some is)

  escape_at : (t : Bool) (known : Lookup) (d : ℕ) → IsFirstPiece t known rest (d + 1) d [] → 0 < d
      → get_or rest d 0 < 128 → IsChanged t known (drop offset text) (d + 1) (d + 1) (get_or rest d 0 ∷ [])
  escape_at t known d is some ascii =
      subst (λ bs. IsChanged t known bs (d + 1) (d + 1) (get_or rest d 0 ∷ [])) at
      (escape_changed t known rest d is some ascii)

  pair_at : (t : Bool) (known : Lookup) (n : ℕ) → n ≤ length rest → n ≤ 2 → IsFirstPiece t known rest 1 0 []
      → (1 < n → begins_change (get_or rest 1 0) ≡ false) → ArePlain t known (drop offset text) n
  pair_at t known n within few first second =
      subst (λ bs. ArePlain t known bs n) at (pair_plain t known rest n within few first second)

pub returns-in_ok-push_part-in-13-clause-pushed : goal.returns-in_ok-push_part-in-13-clause-pushed
returns-in_ok-push_part-in-13-clause-pushed g c =
    let known = g.E.Entities.known c.args.entities.now in
    let offset = c.args.offset in
    let is =
    return_at c.args.text.now c.as_bytes.result.now offset c.as_bytes.ensures.value c.args.is_in_table known
    (omega (arith, c.requires.within, c.as_bytes.ensures.len)) c.in-13.is in
    pushed_drop c.args.is_in_table known c.args.text.now c.args.run offset 1 1 (offset + 1) c.range.result.now
    c.args.out.now c.push_part.new.out is refl c.range.ensures.value (omega (arith, c.range.ensures.len))
    c.in_ok-push_part-in-13.ensures.bytes c.in_ok-push_part-in-13.ensures.len

pub returns-in_err-push_part-in-13-clause-room : goal.returns-in_err-push_part-in-13-clause-room
returns-in_err-push_part-in-13-clause-room g c room =
    let known = g.E.Entities.known c.args.entities.now in
    let is =
    return_at c.args.text.now c.as_bytes.result.now c.args.offset c.as_bytes.ensures.value c.args.is_in_table known
    (omega (arith, c.requires.within, c.as_bytes.ensures.len)) c.in-13.is in
    absurd (false≢true (c.in_err-push_part-in-13.ensures.succeeds (omega (arith, room 1 1 [] is, c.range.ensures.len))))

pub returns-in_ok-push_with_byte-in-92-clause-pushed : goal.returns-in_ok-push_with_byte-in-92-clause-pushed
returns-in_ok-push_with_byte-in-92-clause-pushed g c =
    let known = g.E.Entities.known c.args.entities.now in
    let offset = c.args.offset in
    let d = c.escape_len-dropped.result in
    let some : 0 < d = omega (arith, c.if-dropped-eq0.false) in
    let is =
    escape_at c.args.text.now c.as_bytes.result.now offset c.as_bytes.ensures.value c.args.is_in_table known d
    (c.escape_len-dropped.ensures.piece known) some (c.escape_len-dropped.ensures.ascii some) in
    pushed_change c.args.is_in_table known c.args.text.now c.args.run offset (d + 1) (d + 1) (offset + (d + 1)) _
    c.range-in-92.result.now c.args.out.now c.push_with_byte.new.out is refl c.range-in-92.ensures.value
    (omega (arith, c.range-in-92.ensures.len)) c.in_ok-push_with_byte-in-92.ensures.bytes
    c.in_ok-push_with_byte-in-92.ensures.len

pub returns-in_err-push_with_byte-in-92-clause-room : goal.returns-in_err-push_with_byte-in-92-clause-room
returns-in_err-push_with_byte-in-92-clause-room g c room =
    let known = g.E.Entities.known c.args.entities.now in
    let offset = c.args.offset in
    let d = c.escape_len-dropped.result in
    let some : 0 < d = omega (arith, c.if-dropped-eq0.false) in
    let is =
    escape_at c.args.text.now c.as_bytes.result.now offset c.as_bytes.ensures.value c.args.is_in_table known d
    (c.escape_len-dropped.ensures.piece known) some (c.escape_len-dropped.ensures.ascii some) in
    absurd (false≢true (c.in_err-push_with_byte-in-92.ensures.succeeds
    (omega (arith, room (d + 1) (d + 1) _ is, c.range-in-92.ensures.len))))

pub returns-then-dropped-eq0-clause-pushed : goal.returns-then-dropped-eq0-clause-pushed
returns-then-dropped-eq0-clause-pushed g c =
    let known = g.E.Entities.known c.args.entities.now in
    let bytes = c.as_bytes.result.now in
    let is =
    subst (λ d. IsFirstPiece c.args.is_in_table known
    (rest c.args.text.now bytes c.args.offset c.as_bytes.ensures.value) (d + 1) d []) c.if-dropped-eq0.true
    (c.escape_len-dropped.ensures.piece known) in
    let n = c.lone_len.result in
    pushed_nothing c.args.is_in_table known c.args.text.now c.args.run c.args.offset n c.args.out.now
    (pair_at c.args.text.now bytes c.args.offset c.as_bytes.ensures.value c.args.is_in_table known n
    c.lone_len.ensures.within c.lone_len.ensures.at_most_two is c.lone_len.ensures.plain)

pub returns-in-38-clause-pushed : goal.returns-in-38-clause-pushed
returns-in-38-clause-pushed g c = c.push_ampersand.ensures.pushed c.args.is_in_table

pub returns-in-38-clause-room : goal.returns-in-38-clause-room
returns-in-38-clause-room g c = c.push_ampersand.ensures.room c.args.is_in_table

pub returns-in_default-clause-pushed : goal.returns-in_default-clause-pushed
returns-in_default-clause-pushed g c =
    let known = g.E.Entities.known c.args.entities.now in
    let bytes = c.as_bytes.result.now in
    let same = at c.args.text.now bytes c.args.offset c.as_bytes.ensures.value in
    let n = c.plain_len.result in
    let are =
    are_plain c.args.is_in_table known (rest c.args.text.now bytes c.args.offset c.as_bytes.ensures.value) n
    c.plain_len.ensures.within c.plain_len.ensures.plain in
    pushed_nothing c.args.is_in_table known c.args.text.now c.args.run c.args.offset n c.args.out.now
    (subst (λ bs. ArePlain c.args.is_in_table known bs n) same are)

pub range-requires-clause-end_boundary : goal.range-requires-clause-end_boundary
range-requires-clause-end_boundary g c = grind (arith, common_steps, not_there)

pub range-requires-in-92-clause-end_boundary : goal.range-requires-in-92-clause-end_boundary
range-requires-in-92-clause-end_boundary g c = grind (arith, common_steps)

pub push_ampersand-requires-clause-begins : goal.push_ampersand-requires-clause-begins
push_ampersand-requires-clause-begins g c = grind (arith, common_steps)
