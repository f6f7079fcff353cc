use Rattle.std.proofs.Common.{List, ℕ, Result, Ok, Err, OnOk, is_ok, ◌≡◌, ◌++◌, ◌∙◌, if◌then◌else◌, ap, append_assoc, codes, decimal, string_bytes}
use Rattle.page_tables.proofs.reports.push_line.Goals as goal

joined : (text start words last : List ℕ) → text ++ start ++ words ++ last ≡ text ++ (start ++ words ++ last)
joined text start words last = simp append_assoc

-- the text is the longer one where memory was not refused
longer : {T E : Type 0} (r : Result T E) (text more less all : List ℕ) → text ≡ (if is_ok r then more else less) → more ≡ all → OnOk r (text ≡ all)
longer (Ok value) text more less all is same = is ∙ same
longer (Err error) text more less all is same = tt

pub returns : goal.returns
returns c =
    let text = string_bytes c.args.text.now in
    let line = decimal c.args.position.line in
    let column = decimal c.args.position.column in
    let start = c.args.name.now ++ codes ":" ++ line ++ codes ":" ++ column ++ codes ": " in
    let words = c.args.words.now in
    let begun : string_bytes c.write.new.self ≡ text ++ start = rw c.in_ok-write.ensures.bytes (simp append_assoc) in
    let before = c.in_ok-push_str.ensures.bytes ∙ ap (λ t. t ++ words) begun in
    longer c.push_str-2.result _ _ _ _ c.push_str-2.ensures.bytes (ap (λ t. t ++ codes "\n") before ∙ joined text start words (codes "\n"))
