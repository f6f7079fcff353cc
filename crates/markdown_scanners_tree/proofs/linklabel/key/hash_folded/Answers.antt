-- The bytes of the key are gathered as its characters are folded.
use Rattle.std.proofs.Common.{ℕ, List, [], ◌∷◌, ◌≡◌, Option, Some, None, sym, ◌∙◌, ap, subst, MatchOption, encode_utf8, flat_map, fold, take}
use Rattle.std.specs.Str.Iter.{chars_steps}
use Rattle.caseless.specs.CaseFold.{FoldsCaseTo}
use Rattle.std.proofs.lemmas.Str.{Chars-gives, encodes-chars}
use Rattle.markdown_scanners_tree.specs.linklabel.Key.{blocks_after, label_key}
use Rattle.markdown_scanners_tree.proofs.linklabel.key.hash_folded.Goals as goal

-- what a call gave of the characters that are left
abbrev Gave : (List ℕ → Type 0) → List ℕ → Option ℕ → Type 0
Gave HasLeft cs r = MatchOption r (cs ≡ []) (λ c. (rest : List ℕ) × (cs ≡ c ∷ rest) × HasLeft rest)

first_left : (HasLeft : List ℕ → Type 0) (cs : List ℕ) (r : Option ℕ) (c : ℕ) → Gave HasLeft cs r → r ≡ Some c
    → (rest : List ℕ) × (cs ≡ c ∷ rest) × HasLeft rest
first_left HasLeft cs r c y e = subst (Gave HasLeft cs) e y

none_left : (HasLeft : List ℕ → Type 0) (cs : List ℕ) (r : Option ℕ) → Gave HasLeft cs r → r ≡ None → cs ≡ []
none_left HasLeft cs r y e = subst (Gave HasLeft cs) e y

pub loop-c-init : goal.loop-c-init
loop-c-init g c = record {
  left = label_key c.args.text.now;
  folds = subst (λ z. z) (λ i. FoldsCaseTo chars_steps (sym c.into_iter-c-iterator.ensures.into_iter_gives i)
      (label_key c.args.text.now))
      (c.default_case_fold-c-items.ensures.text _
      (Chars-gives _ _ (encodes-chars _ c.utf8.text ∙ sym c.chars.ensures.rest)));
  same = ap (λ gathered. fold g.H.Hasher.write c.args.state.now
      (blocks_after gathered (flat_map encode_utf8 (label_key c.args.text.now)))) c.new-block.ensures;
}

pub loop-c-preserved : goal.loop-c-preserved
loop-c-preserved g c =
    let first =
    first_left (FoldsCaseTo chars_steps c.next.new.self) _ _ c.in-Some.c
    (c.next.ensures.steps.first.at _ c.loop-c.invariant.folds) c.in-Some.is in record {
      left = first.0;
      folds = first.2;
      same = c.push_char.ensures (flat_map encode_utf8 first.0)
          ∙ ap (λ left. fold g.H.Hasher.write c.loop-c.state
          (blocks_after (take c.loop-c.block.len c.loop-c.block.bytes) (flat_map encode_utf8 left))) (sym first.1)
          ∙ c.loop-c.invariant.same;
    }

pub returns : goal.returns
returns g c =
    let done =
    none_left (FoldsCaseTo chars_steps c.next.new.self) _ _
    (c.next.ensures.steps.first.at _ c.loop-c.invariant.folds) c.in-None.is in
    c.end.ensures
    ∙ ap (λ left. fold g.H.Hasher.write c.loop-c.state
    (blocks_after (take c.loop-c.block.len c.loop-c.block.bytes) (flat_map encode_utf8 left))) (sym done)
    ∙ c.loop-c.invariant.same
