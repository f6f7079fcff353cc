-- What the openers and the runs that have been read hold to stays so.
use Rattle.std.proofs.Common.{ℕ, Bool, true, false, length, List, [], ◌∷◌, ◌++◌, ◌≡◌, ◌≤◌, ◌<◌, arith, refl, sym, subst, take, drop, slice_set}
use Rattle.std.proofs.Common.{if◌then◌else◌, Option, Some, None, IsTrue, ◌+◌, inl, inr}
use Rattle.std.proofs.lemmas.List.{length-append, length-set, length-take}
use Rattle.std.proofs.lemmas.List.Elements.{All-append, All-cons, All-set, All-take}
use Rattle.std.specs.Option.{IfSome}
use Rattle.std.specs.Str.{IsCharBoundary}
use Rattle.markdown_scanners_tree.specs.SomeExactly.{SomeExactly}
use Rattle.markdown_scanners_tree.proofs.SomeExactlyLemmas.{SomeExactly-map}
use Rattle.markdown_inlines.specs.Inlines.{Reading, at_start, bracket_of, may_begin, IsClosed, IsLink, IsWikiTarget, LeadsTo}
use Rattle.markdown_inlines.specs.Inlines.{with_link, with_opener, with_piece, with_run}
use Rattle.markdown_inlines.specs.Links.{Known, IsTarget}
use Rattle.markdown_inlines.specs.declared.links.LinkTarget.{LinkTarget}
use Rattle.markdown_inlines.proofs.wiki_links.WikiLinkLemmas.{head_ends}
use Rattle.markdown_inlines.specs.Emphasis.{emphasis_of}
use Rattle.markdown_inlines.specs.declared.emphasis.Emphasis.{Emphasis}
use Rattle.markdown_inlines.specs.declared.links.Link.{Link}
use Rattle.markdown_inlines.specs.EmphasisBounds.{IsOfDelimiters}
use Rattle.markdown_inlines.specs.DelimiterRuns.{IsRunOf}
use Rattle.markdown_inlines.specs.Pieces.{BeginsAt}
use Rattle.markdown_inlines.specs.Readings.{AreBefore, AreOpen, IsKept}
use Rattle.markdown_inlines.specs.Sources.{IsLinkSource, IsSource, IsTargetSource}
use Rattle.markdown_inlines.specs.declared.delimiter_runs.DelimiterRun.{DelimiterRun}
use Rattle.markdown_values.specs.declared.values.extensions.Extensions.{Extensions}
use Rattle.markdown_inlines.specs.declared.pieces.Piece.{Piece}
use Rattle.markdown_inlines.specs.declared.pieces.PieceKind.{PieceKind}
use Rattle.markdown_inlines.specs.declared.pieces.PieceKind.TheVariants as K
use Rattle.markdown_inlines.specs.declared.emphasis.Delimiters.{Delimiters}
use Rattle.markdown_inlines.specs.declared.reading.Opener.{Opener}

-- where more runs and openers stand before them
pub more_open : (text : List ℕ) (openers : List Opener) (runs number runs' number' : ℕ) → runs ≤ runs' → number ≤ number'
    → AreOpen text openers runs number → AreOpen text openers runs' number'
more_open text [] runs number runs' number' few first are = tt
more_open text (opener ∷ outer) runs number runs' number' few first are =
    (omega (arith, few, are.0), omega (arith, first, are.1), are.2, are.3)

-- ---- what is kept

pub start_kept : (text : List ℕ) → IsKept (at_start text)
start_kept text = record {
  runs = λ k d inside. absurd (omega (arith, inside));
  openers = tt;
  links = λ k d inside. absurd (omega (arith, inside));
}

module _ (reading : Reading) (opener : Opener) (kept : IsKept (record reading { openers = opener ∷ reading.openers })) where
  -- where the innermost opener is taken away
  pub popped_kept : IsKept reading
  popped_kept = record {
    runs = kept.runs;
    openers = more_open reading.text reading.openers opener.runs opener.number (length reading.runs) (length reading.links) kept.openers.0
        (omega (arith, kept.openers.1)) kept.openers.3;
    links = kept.links;
  }

  -- where it begins a link
  pub link_kept : (link : Link) → IsLinkSource reading.text link → IsKept (with_link link opener reading.openers reading)
  link_kept link source = record {
    runs = All-take (λ (d : Delimiters). IsOfDelimiters d.run) opener.runs reading.runs kept.runs;
    openers = more_open reading.text reading.openers opener.runs opener.number _ _
        (omega (arith, kept.openers.0, length-take opener.runs reading.runs))
        (omega (arith, kept.openers.1, length-set reading.links opener.number (Some link))) kept.openers.3;
    links = All-set (λ (l : Option Link). IfSome l (IsLinkSource reading.text)) reading.links opener.number (Some link) source kept.links;
  }

module _ (reading : Reading) (piece : Piece) (source : IsSource reading.text piece) (kept : IsKept reading) where
  opened_kept : (is_image : Bool) → IsKept (with_opener is_image piece reading)
  opened_kept is_image = record {
    runs = kept.runs;
    openers = (
      omega arith,
      omega (arith, length-append reading.links (None ∷ [])),
      record { begins = source.begins; some = source.some; ends = source.ends },
      kept.openers,
    );
    links = All-append (λ (l : Option Link). IfSome l (IsLinkSource reading.text)) reading.links (None ∷ []) kept.links
        (All-cons (λ (l : Option Link). IfSome l (IsLinkSource reading.text)) None [] tt (λ k d inside. absurd (omega (arith, inside))));
  }

  run_kept : (run : DelimiterRun) → IsOfDelimiters run → IsKept (with_run run piece reading)
  run_kept run delimiter = record {
    runs = All-append (λ (d : Delimiters). IsOfDelimiters d.run) reading.runs (added ∷ []) kept.runs
        (All-cons (λ (d : Delimiters). IsOfDelimiters d.run) added [] delimiter (λ k d inside. absurd (omega (arith, inside))));
    openers = more_open reading.text reading.openers (length reading.runs) (length reading.links) (length (reading.runs ++ added ∷ [])) _
        (omega (arith, length-append reading.runs (added ∷ []))) (omega arith) kept.openers;
    links = kept.links;
  }
    where
      added : Delimiters
      added = record { start = piece.start; end = piece.end; run = run }

  is_delimiter : (asked : Extensions) (text : List ℕ) (s : ℕ) (run : DelimiterRun) → IsRunOf asked text s run → IsOfDelimiters run
  is_delimiter asked text s run (inl is) = inl is.delimiter
  is_delimiter asked text s run (inr is) = inr is.1.delimiter

  -- where a piece is read
  pub piece_kept : (asked : Extensions) (text : List ℕ) (from s len : ℕ) (kind : PieceKind) → BeginsAt asked text from s kind len
      → IsKept (with_piece kind piece reading)
  piece_kept asked text from s len K.Text is = kept
  piece_kept asked text from s len K.Escape is = kept
  piece_kept asked text from s len K.HardBreak is = kept
  piece_kept asked text from s len K.SoftBreak is = kept
  piece_kept asked text from s len K.Reference is = kept
  piece_kept asked text from s len (K.Code backticks) is = kept
  piece_kept asked text from s len K.Uri is = kept
  piece_kept asked text from s len K.Email is = kept
  piece_kept asked text from s len K.Html is = kept
  piece_kept asked text from s len (K.Delimiters run) is = run_kept run (is_delimiter asked text s run is.0)
  piece_kept asked text from s len K.LinkOpener is = opened_kept false
  piece_kept asked text from s len K.ImageOpener is = opened_kept true
  piece_kept asked text from s len K.Closer is = kept

-- ---- a right bracket, where an opener has been taken away

module _ (known : Known) (old new : Reading) (opener : Opener) (bracket : Piece)
    (popped : old ≡ record new { openers = opener ∷ new.openers }) (kept : IsKept old) where
  abbrev with_opener_back : Reading
  with_opener_back = record new { openers = opener ∷ new.openers }

  pub kept_with : IsKept with_opener_back
  kept_with = subst IsKept popped kept

  -- it ends no link
  pub ends_no_link : bracket.end ≡ bracket.start + 1
      → (IsTrue (may_begin opener new) → (link : Link) → ¬ IsLink new.text known opener bracket.start link)
      → IsClosed known old.openers old bracket.start bracket.end new
  ends_no_link one no_link =
      subst (λ (r : Reading). IsClosed known r.openers r bracket.start bracket.end new) (sym popped)
      (inr (record { no_link = no_link; end_is = one; next_is = refl }))

  pub none_kept : IsKept new
  none_kept = popped_kept new opener kept_with

  module _ (last : Reading) (target : LinkTarget) (end : ℕ) where
    abbrev link : Link
    link = record {
      is_image = opener.is_image;
      source = record { start = opener.start; end = end };
      text = record { start = opener.text; end = bracket.start };
      target = target;
    }

    -- it ends a link
    pub ends_a_link : IsTrue (may_begin opener new) → LeadsTo new.text known opener bracket.start target end
        → last ≡ with_link link opener new.openers new → IsClosed known old.openers old bracket.start end last
    ends_a_link may leads next =
        subst (λ (r : Reading). IsClosed known r.openers r bracket.start end last) (sym popped)
        (inl (record {
          link = link;
          may_begin = may;
          is_link = record { is_image = refl; begins = refl; text_begins = refl; text_ends = refl; target = leads };
          end_is = refl;
          next_is = next;
        }))

    pub ended_kept : AreBefore old.openers bracket.start → IsSource new.text bracket → IsCharBoundary new.text end → bracket.start < end
        → IsTargetSource new.text target → last ≡ with_link link opener new.openers new → IsKept last
    ended_kept before source boundary later target_source next =
        let of_opener = kept_with.openers.2 in
        let opens_before = subst (λ (r : Reading). AreBefore r.openers bracket.start) popped before in
        subst IsKept (sym next) (link_kept new opener kept_with link (record {
          source = (of_opener.begins, boundary);
          link_text = (of_opener.ends, source.begins);
          begins = of_opener.some;
          in_order = opens_before.0;
          ends = later;
          target = target_source;
        }))

-- what is known with the link of an opener, part by part
pub with_link_is : (link : Link) (opener : Opener) (reading : Reading) (runs : List Delimiters) (last_link : ℕ)
    (links : List (Option Link)) (emphasis : List Emphasis) → runs ≡ take opener.runs reading.runs
    → last_link ≡ (if link.is_image then reading.last_link else link.source.start)
    → links ≡ slice_set reading.links opener.number (Some link)
    → emphasis ≡ reading.emphasis ++ emphasis_of (drop opener.runs reading.runs)
    → record reading {
      runs = runs;
      last_link = last_link;
      links = links;
      emphasis = emphasis;
    } ≡ with_link link opener reading.openers reading
with_link_is link opener reading runs last_link links emphasis runs-are last-is links-are emphasis-is =
    λ i. record reading {
      runs = runs-are i;
      last_link = last-is i;
      links = links-are i;
      emphasis = emphasis-is i;
    }

-- where an opener leads that is one bracket, and where one leads that is not
module _ (text : List ℕ) (known : Known) (opener : Opener) (close : ℕ) where
  abbrev Leads : LinkTarget × ℕ → Type 0
  Leads r = LeadsTo text known opener close r.0 r.1

  abbrev Targets : LinkTarget × ℕ → Type 0
  Targets r = IsTarget text known opener.text close r.0 r.1

  abbrev WikiTargets : LinkTarget × ℕ → Type 0
  WikiTargets r = IsWikiTarget text (bracket_of opener) opener.text close r.0 r.1

  no_lead_single : opener.text ≡ bracket_of opener + 1 → ((r : LinkTarget × ℕ) → ¬ Targets r) → (r : LinkTarget × ℕ) → ¬ Leads r
  no_lead_single single none r (inl is) = none r is.1
  no_lead_single single none r (inr is) =
      omega (arith, single, (head_ends text (bracket_of opener) is.0 opener.text is.2).later)

  no_lead_wiki : ¬ (opener.text ≡ bracket_of opener + 1) → ((r : LinkTarget × ℕ) → ¬ WikiTargets r) → (r : LinkTarget × ℕ) → ¬ Leads r
  no_lead_wiki other none r (inl is) = other is.0
  no_lead_wiki other none r (inr is) = none r is

  pub leads_single : (found : Option (LinkTarget × ℕ)) → opener.text ≡ bracket_of opener + 1 → SomeExactly Targets found
      → SomeExactly Leads found
  leads_single found single holds =
      SomeExactly-map Targets Leads found (λ r is. inl (single, is)) (no_lead_single single) holds

  pub leads_wiki : (found : Option (LinkTarget × ℕ)) → ¬ (opener.text ≡ bracket_of opener + 1) → SomeExactly WikiTargets found
      → SomeExactly Leads found
  leads_wiki found other holds = SomeExactly-map WikiTargets Leads found (λ r is. inr is) (no_lead_wiki other) holds
