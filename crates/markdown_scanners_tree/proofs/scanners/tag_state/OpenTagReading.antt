-- In each state at the front of a tag or in an open tag, the state after a byte tells what is read with that byte.
use Rattle.std.proofs.Common.{ℕ, List, [], ◌∷◌, ◌++◌, ◌≡◌, not, ◌&&◌, ◌==◌, refl, sym, ap, ◌∙◌, subst, append_assoc, inl, inr, ◌⊎◌}
use Rattle.std.proofs.lemmas.List.{append-nil}
use Rattle.std.proofs.lemmas.Bool.{eqb-true, and_from}
use Rattle.markdown_scanners_tree.proofs.PassLemmas.{AllPass-nil, AllPass-snoc}
use Rattle.markdown_scanners_tree.proofs.RunLemmas.{not_false}
use Rattle.markdown_scanners_tree.specs.Ascii.{quotation_mark, apostrophe, slash, less_than_sign, equals_sign, greater_than_sign}
use Rattle.markdown_scanners_tree.specs.Bytes.{is_letter, is_unquoted, is_white_space}
use Rattle.markdown_scanners_tree.specs.scanners.html_tag.HtmlTag.{IsName, IsTagName, IsQuotedValue, is_tag_name_byte, is_attribute_start, is_attribute_byte}
use Rattle.markdown_scanners_tree.specs.scanners.tag_state.private.TagMachine.{next_state}
use Rattle.markdown_scanners_tree.specs.declared.scanners.tag_state.TagState.TheVariants.{Start, Opened, Name, Spaced, AttributeName, AfterName, BeforeValue}
use Rattle.markdown_scanners_tree.specs.declared.scanners.tag_state.TagState.TheVariants.{Unquoted, Quoted, AfterValue, Slashed, Open, Closing}
use Rattle.markdown_scanners_tree.proofs.scanners.tag_state.TagReading.{choose, name_more, name_all, Reading, more, committed, bare, with_value}
use Rattle.markdown_scanners_tree.proofs.scanners.tag_state.TagReading.{Valued, value_more, QuoteRead, Ended, opened, after_leads, Leads}

-- the first bytes of a tag name, and the first attribute's offset
named_only : (name : List ℕ) → IsTagName name → (b : ℕ) (pre : List ℕ) → pre ≡ less_than_sign ∷ name
    → Reading (Ended b) (pre ++ b ∷ [])
named_only name n b pre e =
    record {
      name = name;
      attributes = [];
      last = b ∷ [];
      parts = ap (λ z. z ++ b ∷ []) e;
      named = n;
      attributed =
          λ rest. tt;
      ends = ([], refl, AllPass-nil is_white_space);
    }

pub leads_name : (b : ℕ) (pre : List ℕ) → Leads Name pre → Leads (next_state Name b) (pre ++ b ∷ [])
leads_name b pre (name, e, n) = choose _ Name _ (λ s. Leads s (pre ++ b ∷ []))
    (λ t. (name ++ b ∷ [], ap (λ z. z ++ b ∷ []) e, name_more is_letter is_tag_name_byte name b n t))
    (λ t. after_leads b _ (named_only name n b pre e))

pub leads_start : (b : ℕ) (pre : List ℕ) → Leads Start pre → Leads (next_state Start b) (pre ++ b ∷ [])
leads_start b pre e =
    choose _ Opened _ (λ s. Leads s (pre ++ b ∷ []))
    (λ k. ap (λ z. z ++ b ∷ []) e ∙ ap (λ z. z ∷ []) (eqb-true b less_than_sign k))
    (λ k. tt)

pub leads_opened : (b : ℕ) (pre : List ℕ) → Leads Opened pre → Leads (next_state Opened b) (pre ++ b ∷ [])
leads_opened b pre e = choose _ Name _ (λ s. Leads s (pre ++ b ∷ []))
    (λ t. (b ∷ [], ap (λ z. z ++ b ∷ []) e, (t, AllPass-nil is_tag_name_byte)))
    (λ t. choose _ Closing _ (λ s. Leads s (pre ++ b ∷ []))
    (λ k. ap (λ z. z ++ b ∷ []) e ∙ ap (λ z. less_than_sign ∷ z ∷ []) (eqb-true b slash k))
    (λ k. tt))

pub leads_spaced : (b : ℕ) (pre : List ℕ) → Leads Spaced pre → Leads (next_state Spaced b) (pre ++ b ∷ [])
leads_spaced b pre r = choose _ AttributeName _ (λ s. Leads s (pre ++ b ∷ []))
    (λ t. more _ _ pre b r (λ last p. (last, b ∷ [], refl, p, (t, AllPass-nil is_attribute_byte))))
    (λ t. after_leads b _ (more _ _ pre b r (λ last p. (last, refl, name_all is_white_space last p))))

pub leads_attribute : (b : ℕ) (pre : List ℕ) → Leads AttributeName pre → Leads (next_state AttributeName b) (pre ++ b ∷ [])
leads_attribute b pre r = choose _ AttributeName _ (λ s. Leads s (pre ++ b ∷ []))
    (λ t. more _ _ pre b r
    (λ last (space, name, e, s, n). (
      space,
      name ++ b ∷ [],
      ap (λ z. z ++ b ∷ []) e ∙ append_assoc space name (b ∷ []),
      s,
      name_more is_attribute_start is_attribute_byte name b n t,
    )))
    (λ t. choose _ AfterName _ (λ s. Leads s (pre ++ b ∷ []))
    (λ w. more _ _ pre b r (λ last (space, name, e, s, n).
    (space, name, b ∷ [], ap (λ z. z ++ b ∷ []) e, s, n, (w, AllPass-nil is_white_space))))
    (λ w. choose _ BeforeValue _ (λ s. Leads s (pre ++ b ∷ []))
    (λ k. more _ _ pre b r
    (λ last (space, name, e, s, n). record {
      space = space;
      name = name;
      before = [];
      after = [];
      value = [];
      parts =
          ap (λ z. z ++ b ∷ []) e ∙ ap (λ z. (space ++ name) ++ z ∷ []) (eqb-true b equals_sign k)
          ∙ simp (append_assoc, append-nil);
      spaced = s;
      named = n;
      spaced_before = AllPass-nil is_white_space;
      spaced_after = AllPass-nil is_white_space;
      valued = refl;
    }))
    (λ k. after_leads b _
    (committed _ _ (more _ _ pre b r (λ last (space, name, e, s, n). (
      space ++ name,
      b ∷ [],
      ap (λ z. z ++ b ∷ []) e,
      λ rest. bare space name (b ∷ rest) s n,
      ([], refl, AllPass-nil is_white_space),
    )))))))

pub leads_after_name : (b : ℕ) (pre : List ℕ) → Leads AfterName pre → Leads (next_state AfterName b) (pre ++ b ∷ [])
leads_after_name b pre r = choose _ AttributeName _ (λ s. Leads s (pre ++ b ∷ []))
    (λ t. committed _ _
    (more _ _ pre b r (λ last (space, name, after, e, s, n, a). (
      space ++ name,
      after ++ b ∷ [],
      ap (λ z. z ++ b ∷ []) e ∙ append_assoc (space ++ name) after (b ∷ []),
      λ rest. bare space name _ s n,
      (after, b ∷ [], refl, a, (t, AllPass-nil is_attribute_byte)),
    ))))
    (λ t. choose _ AfterName _ (λ s. Leads s (pre ++ b ∷ []))
    (λ w. more _ _ pre b r
    (λ last (space, name, after, e, s, n, a). (
      space,
      name,
      after ++ b ∷ [],
      ap (λ z. z ++ b ∷ []) e ∙ append_assoc (space ++ name) after (b ∷ []),
      s,
      n,
      name_more is_white_space is_white_space after b a w,
    )))
    (λ w. choose _ BeforeValue _ (λ s. Leads s (pre ++ b ∷ []))
    (λ k. more _ _ pre b r
    (λ last (space, name, after, e, s, n, a). record {
      space = space;
      name = name;
      before = after;
      after = [];
      value = [];
      parts =
          ap (λ z. z ++ b ∷ []) e ∙ ap (λ z. ((space ++ name) ++ after) ++ z ∷ []) (eqb-true b equals_sign k)
          ∙ simp (append_assoc, append-nil);
      spaced = s;
      named = n;
      spaced_before = name_all is_white_space after a;
      spaced_after = AllPass-nil is_white_space;
      valued = refl;
    }))
    (λ k. after_leads b _
    (committed _ _ (more _ _ pre b r (λ last (space, name, after, e, s, n, a). (
      space ++ name,
      after ++ b ∷ [],
      ap (λ z. z ++ b ∷ []) e ∙ append_assoc (space ++ name) after (b ∷ []),
      λ rest. bare space name _ s n,
      (after, refl, name_all is_white_space after a),
    )))))))

-- a quoted value begins
quote_begins : (quote b : ℕ) (last : List ℕ) → ((quote ≡ apostrophe) ⊎ (quote ≡ quotation_mark)) → b ≡ quote
    → Valued (λ v. v ≡ []) last → Valued (QuoteRead quote) (last ++ b ∷ [])
quote_begins quote b last q e v =
    value_more _ (QuoteRead quote) last b v
    (λ value n. ([], ap (λ z. z ++ b ∷ []) n ∙ ap (λ z. z ∷ []) e, q, AllPass-nil (λ b. not (b == quote))))

pub leads_before_value : (b : ℕ) (pre : List ℕ) → Leads BeforeValue pre → Leads (next_state BeforeValue b) (pre ++ b ∷ [])
leads_before_value b pre r = choose _ BeforeValue _ (λ s. Leads s (pre ++ b ∷ []))
    (λ w. more _ _ pre b r
    (λ last v. record {
      space = v.space;
      name = v.name;
      before = v.before;
      after = v.after ++ b ∷ [];
      value = [];
      parts =
          ap (λ z. z ++ b ∷ [])
          (v.parts ∙ ap (λ z. (v.space ++ (v.name ++ (v.before ++ (equals_sign ∷ v.after)))) ++ z) v.valued)
          ∙ simp (append_assoc, append-nil);
      spaced = v.spaced;
      named = v.named;
      spaced_before = v.spaced_before;
      spaced_after = AllPass-snoc is_white_space v.after b v.spaced_after w;
      valued = refl;
    }))
    (λ w. choose _ Unquoted _ (λ s. Leads s (pre ++ b ∷ []))
    (λ u. more _ _ pre b r
    (λ last v. value_more _ _ last b v (λ value n.
    subst (λ z. IsName (λ b. is_unquoted b && not (is_white_space b)) is_unquoted (z ++ b ∷ [])) (sym n)
    (and_from _ _ u (not_false _ w), AllPass-nil is_unquoted))))
    (λ u. choose _ (Quoted apostrophe) _ (λ s. Leads s (pre ++ b ∷ []))
    (λ k. more _ _ pre b r (λ last v. quote_begins apostrophe b last (inl refl) (eqb-true b apostrophe k) v))
    (λ k. choose _ (Quoted quotation_mark) _ (λ s. Leads s (pre ++ b ∷ []))
    (λ k. more _ _ pre b r (λ last v. quote_begins quotation_mark b last (inr refl) (eqb-true b quotation_mark k) v))
    (λ k. tt))))

pub leads_unquoted : (b : ℕ) (pre : List ℕ) → Leads Unquoted pre → Leads (next_state Unquoted b) (pre ++ b ∷ [])
leads_unquoted b pre r = choose _ Unquoted _ (λ s. Leads s (pre ++ b ∷ []))
    (λ u. more _ _ pre b r (λ last v. value_more _ _ last b v
    (λ value n. name_more (λ b. is_unquoted b && not (is_white_space b)) is_unquoted value b n u)))
    (λ u. after_leads b _
    (committed _ _ (more _ _ pre b r (λ last v. (
      last,
      b ∷ [],
      refl,
      λ rest. with_value _ last (b ∷ rest) v (λ value n. inr (n, u)),
      ([], refl, AllPass-nil is_white_space),
    )))))

pub leads_quoted : (quote b : ℕ) (pre : List ℕ) → Leads (Quoted quote) pre
    → Leads (next_state (Quoted quote) b) (pre ++ b ∷ [])
leads_quoted quote b pre r = choose _ AfterValue _ (λ s. Leads s (pre ++ b ∷ []))
    (λ k. committed _ _ (more _ _ pre b r (λ last v. (
      last ++ b ∷ [],
      [],
      sym (append-nil (last ++ b ∷ [])),
      λ rest. with_value IsQuotedValue (last ++ b ∷ []) rest
          (value_more _ _ last b v (λ value (inner, e, q, a). (
            quote,
            inner,
            q,
            a,
            ap (λ z. z ++ b ∷ []) e ∙ ap (λ z. quote ∷ (inner ++ z ∷ [])) (eqb-true b quote k),
          )))
          (λ value n. inl n),
      refl,
    ))))
    (λ k. more _ _ pre b r
    (λ last v. value_more _ (QuoteRead quote) last b v (λ value (inner, e, q, a). (
      inner ++ b ∷ [],
      ap (λ z. z ++ b ∷ []) e,
      q,
      AllPass-snoc (λ b. not (b == quote)) inner b a (not_false _ k),
    ))))

pub leads_after_value : (b : ℕ) (pre : List ℕ) → Leads AfterValue pre → Leads (next_state AfterValue b) (pre ++ b ∷ [])
leads_after_value b pre r =
    after_leads b _ (more _ _ pre b r (λ last e. ([], ap (λ z. z ++ b ∷ []) e, AllPass-nil is_white_space)))

pub leads_slashed : (b : ℕ) (pre : List ℕ) → Leads Slashed pre → Leads (next_state Slashed b) (pre ++ b ∷ [])
leads_slashed b pre r = choose _ Open _ (λ s. Leads s (pre ++ b ∷ []))
    (λ k. opened (pre ++ b ∷ []) (more _ _ pre b r (λ last (space, e, a). (
      space,
      slash ∷ [],
      ap (λ z. z ++ b ∷ []) e ∙ append_assoc space (slash ∷ []) (b ∷ [])
          ∙ ap (λ z. space ++ (slash ∷ z ∷ [])) (eqb-true b greater_than_sign k),
      a,
      inr refl,
    ))))
    (λ k. tt)
