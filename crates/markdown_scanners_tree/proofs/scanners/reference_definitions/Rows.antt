-- Worked examples of link reference definitions, held against the definitions.
use Rattle.std.proofs.Common.{◌≡◌, ℕ, [], ◌∷◌, ◌++◌, refl, arith, codes, inl, Some, false, true, ◌==◌}
use Rattle.markdown_scanners_tree.specs.Ascii.{line_feed, carriage_return}
use Rattle.markdown_scanners_tree.specs.Bytes.{begins_with, line_ending}
use Rattle.markdown_scanners_tree.specs.scanners.reference_definitions.ReferenceDefinition.{IsGap, IsRestOfLine, IsLabelWithColon, IsReferenceDefinition}
use Rattle.markdown_scanners_tree.specs.scanners.reference_definitions.private.GapLength.{gap_length}
use Rattle.markdown_scanners_tree.proofs.scanners.reference_definitions.GapLemmas.{rest_not_scanned}

-- a gap with CR LF in it
gap_row : IsGap (codes " \t" ++ carriage_return ∷ line_feed ∷ codes " ")
gap_row = record {
  before = codes " \t";
  ending = carriage_return ∷ line_feed ∷ [];
  after = codes " ";
  parts = refl;
  spaces_before = refl;
  up_to_one_ending = refl;
  spaces_after = refl;
}

-- LF CR are two line endings, of which a gap has the first
two_endings_row : gap_length (codes " " ++ line_feed ∷ carriage_return ∷ codes "b") ≡ 2
two_endings_row = refl

two_endings_are_not_one : line_ending (line_feed ∷ carriage_return ∷ []) ≡ Some 1
two_endings_are_not_one = refl

-- a form feed is a further character
further_row : (n : ℕ) → ¬ IsRestOfLine (32 ∷ 12 ∷ []) n
further_row = rest_not_scanned (32 ∷ 12 ∷ []) 1 refl refl

-- `[\]]:`
label_row : IsLabelWithColon (codes "[\\]]:b") 5
label_row = record {
  inside = codes "\\]]:b";
  rest = codes "b";
  label_length = 3;
  opens = refl;
  is_label = record {
    label = record { len = 3; text = codes "\\]"; plain = true };
    is_label = record { skips = []; answered = tt; label_is = refl };
    counted = refl;
  };
  colon_follows = refl;
  counted = refl;
}

-- a space before the colon
apart_row : begins_with (λ b. b == 58) (codes " :b") ≡ false
apart_row = refl

-- `[a]: <b>`, and its title over the next two lines
titled_row : IsReferenceDefinition 32 (codes "[a]: <b>" ++ line_feed ∷ codes "'c" ++ line_feed ∷ codes "' " ++ line_feed ∷ codes "d") (record {
  label = record { start = 1; end = 2 };
  destination = record { start = 6; end = 7 };
  title = Some (record { start = 10; end = 12 });
  len = 15;
})
titled_row = record {
  offset = 8;
  target = record {
    named = 4;
    gap = codes " ";
    rest = codes "<b>" ++ line_feed ∷ codes "'c" ++ line_feed ∷ codes "' " ++ line_feed ∷ codes "d";
    taken = 3;
    raw = codes "b";
    is_named = record {
      inside = codes "a]: <b>" ++ line_feed ∷ codes "'c" ++ line_feed ∷ codes "' " ++ line_feed ∷ codes "d";
      rest = codes " <b>" ++ line_feed ∷ codes "'c" ++ line_feed ∷ codes "' " ++ line_feed ∷ codes "d";
      label_length = 2;
      opens = refl;
      is_label = record {
        label = record { len = 2; text = codes "a"; plain = true };
        is_label = record { skips = []; answered = tt; label_is = refl };
        counted = refl;
      };
      colon_follows = refl;
      counted = refl;
    };
    parts = refl;
    is_gap = record {
      before = codes " ";
      ending = [];
      after = [];
      parts = refl;
      spaces_before = refl;
      up_to_one_ending = refl;
      spaces_after = refl;
    };
    is_destination = inl (record {
      after = codes "b>" ++ line_feed ∷ codes "'c" ++ line_feed ∷ codes "' " ++ line_feed ∷ codes "d";
      n = 1;
      opens = refl;
      pointed = record {
        inner = codes "b" ∷ [];
        more = (line_feed ∷ []) ∷ codes "'" ∷ codes "c" ∷ (line_feed ∷ []) ∷ codes "'" ∷ codes " " ∷ (line_feed ∷ []) ∷ codes "d" ∷ [];
        splits = refl;
        each_stands = refl;
        n_is_length = refl;
      };
      with_brackets = refl;
      slice = refl;
    });
    some = omega arith;
    offset_is = refl;
    label_begins = refl;
    label_ends = refl;
    destination_begins = refl;
    destination_ends = refl;
  };
  ends = record {
    ending = 2;
    is_titled = record {
      gap = line_feed ∷ [];
      rest = codes "'c" ++ line_feed ∷ codes "' " ++ line_feed ∷ codes "d";
      taken = 4;
      parts = refl;
      is_gap = record {
        before = [];
        ending = line_feed ∷ [];
        after = [];
        parts = refl;
        spaces_before = refl;
        up_to_one_ending = refl;
        spaces_after = refl;
      };
      separated = omega arith;
      is_title = record {
        opening = 39;
        closing = 39;
        after = codes "c" ++ line_feed ∷ codes "' " ++ line_feed ∷ codes "d";
        inner = codes "c" ∷ (line_feed ∷ []) ∷ [];
        more = codes " " ∷ (line_feed ∷ []) ∷ codes "d" ∷ [];
        opens = refl;
        matching = refl;
        splits = refl;
        each_stands = refl;
        n_is_length = refl;
        no_blank_line = refl;
      };
      title_begins = refl;
      title_ends = refl;
    };
    nothing_further = record {
      spaces = codes " ";
      after = line_feed ∷ codes "d";
      ending = 1;
      parts = refl;
      all_spaces = refl;
      ends = refl;
      counted = refl;
    };
    len_is = refl;
  };
}
