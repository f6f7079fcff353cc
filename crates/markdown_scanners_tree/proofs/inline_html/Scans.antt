-- What a guarded scan does, exit by exit.
use Rattle.std.proofs.Common.{◌≡◌, ℕ, ◌+◌, ◌≤◌, Bool, true, false, List, length, refl, sym, ap, subst, ◌∙◌, arith, Option, Some, None}
use Rattle.std.specs.Prelude.{option_map}
use Rattle.memchr.specs.Find.{FindsNeedle}
use Rattle.markdown_scanners_tree.specs.declared.inline_html.HtmlScanGuard.{HtmlScanGuard}
use Rattle.markdown_scanners_tree.specs.inline_html.CountedText.{CountedBytes, passing, searched_bytes}
use Rattle.markdown_scanners_tree.specs.inline_html.InlineHtml.{Kind, Comment, Cdata, Declaration, Processing, Opening, Begins, Hyphen, Bracket, Nothing}
use Rattle.markdown_scanners_tree.specs.inline_html.InlineHtml.{closer, lead, first_offset, first_closer, closed_at, span, looked_at, searched, cost}
use Rattle.markdown_scanners_tree.specs.inline_html.Guard.{is_stopped, searched_guard, guarded_answer, guard_after}
use Rattle.markdown_scanners_tree.proofs.inline_html.LeastPlaces.{first_offset-FindsNeedle}

-- what a scan of an opening at an offset answers, leaves as the guard, and counts
pub record IsScan (text : List ℕ) (guard : HtmlScanGuard) (opening : Opening) (p : ℕ) (answer : Option ℕ) (after : HtmlScanGuard) (count : ℕ) : Type 0 where
  pub answers : answer ≡ guarded_answer text guard opening p
  pub guards : after ≡ guard_after text guard opening p
  pub counts : count ≡ cost text (is_stopped guard p) opening p

module _ (text : List ℕ) (guard : HtmlScanGuard) (p : ℕ) where
  pub scan-stopped : (kind : Kind) → is_stopped guard p kind ≡ true
      → IsScan text guard (Begins kind) p None guard (looked_at kind)
  unfolding cost
  scan-stopped kind stopped = record { answers = rw stopped; guards = rw stopped; counts = rw stopped }

  pub scan-hyphen-stopped : is_stopped guard p Comment ≡ true → IsScan text guard Hyphen p None guard 1
  unfolding cost
  scan-hyphen-stopped stopped = record { answers = refl; guards = refl; counts = rw stopped }

  pub scan-hyphen : is_stopped guard p Comment ≡ false → IsScan text guard Hyphen p None guard 2
  unfolding cost
  scan-hyphen free = record { answers = refl; guards = refl; counts = rw free }

  pub scan-bracket : IsScan text guard Bracket p None guard 7
  unfolding cost
  scan-bracket = record { answers = refl; guards = refl; counts = refl }

  pub scan-nothing : IsScan text guard Nothing p None guard 1
  unfolding cost
  scan-nothing = record { answers = refl; guards = refl; counts = refl }

-- the kinds that are stopped decide what a scan costs
pub cost-same : (text : List ℕ) (stopped other : Kind → Bool) (opening : Opening) (p : ℕ)
    → ((kind : Kind) → stopped kind ≡ other kind) → cost text stopped opening p ≡ cost text other opening p
unfolding cost
cost-same text stopped other (Begins kind) p same = rw (same kind)
cost-same text stopped other Hyphen p same = rw (same Comment)
cost-same text stopped other Bracket p same = refl
cost-same text stopped other Nothing p same = refl

-- a search hits at its start or later, and the hit ends in the text
pub first_offset-bounds : (text bytes : List ℕ) (i hit : ℕ) → first_offset text bytes i ≡ Some hit
    → (i ≤ hit) × (hit + length bytes ≤ length text)
first_offset-bounds text bytes i hit found =
    let first = subst (FindsNeedle text bytes i) found (first_offset-FindsNeedle text bytes i) in
    (first.0.low, first.1.fits)

-- one count after another
passing-twice : (t u : CountedBytes) (a b c : ℕ) → u ≡ passing t a → a + b ≡ c → passing u b ≡ passing t c
passing-twice t u a b c e sum =
    rw e (let same : t.passed + a + b ≡ t.passed + c = omega arith in ap (λ n. record t { passed = n }) same)

pub passing-none : (t : CountedBytes) → t ≡ passing t 0
passing-none t = let same : t.passed ≡ t.passed + 0 = omega arith in ap (λ n. record t { passed = n }) same

-- what a scan did, as its clauses say it, where one byte more is counted before
pub scan-counts : {guard after : HtmlScanGuard} {opening : Opening} {p count : ℕ} {answer : Option ℕ} (t u : CountedBytes) (m : ℕ)
    → IsScan t.text guard opening p answer after count → u ≡ passing t m → m + 1 ≡ count
    → passing u 1 ≡ passing t (cost t.text (is_stopped guard p) opening p)
scan-counts t u m scan e sum = passing-twice t u m 1 _ e (sum ∙ scan.counts)

-- the bytes that a scan passes over before it searches for the closer: those that belong to the beginning of the piece,
-- and a comment's two hyphens, which are searched too
abbrev pub looked_before : Kind → ℕ
looked_before Comment = 2
looked_before Cdata = 7
looked_before Declaration = 1
looked_before Processing = 0

-- what is passed over in a search, with what was looked at before it, is what is given of the kind
module _ (text : List ℕ) (p : ℕ) where
  span-is : (kind : Kind) (found : Option ℕ) → found ≡ first_closer text kind p → p + lead kind ≤ length text
      → span text p (closed_at text kind p)
      ≡ lead kind + searched_bytes text (closer kind) (p + lead kind) found
  span-is kind None e in_text = rw (sym e) (omega arith)
  span-is kind (Some hit) e in_text =
      let within = first_offset-bounds text (closer kind) (p + lead kind) hit (sym e) in
      rw (sym e) (omega arith)

  searched-is : (kind : Kind) (found : Option ℕ) → found ≡ first_closer text kind p → p + lead kind ≤ length text
      → looked_before kind + searched_bytes text (closer kind) (p + lead kind) found ≡ searched text kind p
  searched-is Comment found e in_text = let s = span-is Comment found e in_text in omega arith
  searched-is Cdata found e in_text = sym (span-is Cdata found e in_text)
  searched-is Declaration found e in_text = sym (span-is Declaration found e in_text)
  searched-is Processing found e in_text = sym (span-is Processing found e in_text)

-- a search after an earlier count
module _ (t u : CountedBytes) (before : ℕ) (counted : u ≡ passing t before) (bytes : List ℕ) (i : ℕ) where
  found-after : (r : Option ℕ) → r ≡ first_offset u.text bytes i → first_offset t.text bytes i ≡ r
  found-after r found = sym (found ∙ ap (λ v. first_offset v.text bytes i) counted)

  counts-after : (v : CountedBytes) (r : Option ℕ) → v ≡ passing u (searched_bytes u.text bytes i r)
      → v ≡ passing t (before + searched_bytes t.text bytes i r)
  counts-after v r e =
      e ∙ ap (λ w. passing w (searched_bytes w.text bytes i r)) counted
      ∙ passing-twice t (passing t before) before (searched_bytes t.text bytes i r) _ refl refl

-- A scan that its guard does not stop: it looks at some bytes and searches after them.
module _ (t u v : CountedBytes) (guard : HtmlScanGuard) (p before : ℕ) (kind : Kind) (found : Option ℕ)
    (free : is_stopped guard p kind ≡ false) (counted : u ≡ passing t before)
    (answer : found ≡ first_offset u.text (closer kind) (p + lead kind))
    (counts : v ≡ passing u (searched_bytes u.text (closer kind) (p + lead kind) found))
    (in_text : p + lead kind ≤ length t.text) where
  closes : found ≡ first_closer t.text kind p
  closes = sym (found-after t u before counted (closer kind) (p + lead kind) found answer)

  does : IsScan t.text guard (Begins kind) p (option_map (λ hit. hit + length (closer kind)) found)
      (searched_guard t.text guard kind found) (searched t.text kind p)
  unfolding cost
  does = record {
    answers = rw free (ap (option_map (λ hit. hit + length (closer kind))) closes);
    guards = rw free (ap (searched_guard t.text guard kind) closes);
    counts = rw free refl;
  }

  -- what it counts, with `more` bytes that were counted earlier
  passes : (more : ℕ) → before + more ≡ looked_before kind
      → passing v more ≡ passing t (cost t.text (is_stopped guard p) (Begins kind) p)
  passes more sum =
      let sized = searched-is t.text p kind found closes in_text in
      let reach = searched_bytes t.text (closer kind) (p + lead kind) found in
      let after = counts-after t u before counted (closer kind) (p + lead kind) v found counts in
      passing-twice t v (before + reach) more _ after (omega arith) ∙ ap (passing t) does.counts

  pub scan-searched : IsScan t.text guard (Begins kind) p (option_map (λ hit. hit + length (closer kind)) found)
      (searched_guard t.text guard kind found) (searched t.text kind p)
      × ((more : ℕ) → before + more ≡ looked_before kind
      → passing v more ≡ passing t (cost t.text (is_stopped guard p) (Begins kind) p))
  scan-searched = (does, passes)
