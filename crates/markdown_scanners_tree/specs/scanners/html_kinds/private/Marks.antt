-- What is looked at first: the mark after `<`, and the first byte of what ends a block.
use Rattle.std.specs.Prelude.{ℕ, List, [], ◌∷◌, ◌==◌, Option, Some, None, codes, if◌then◌else◌}
use Rattle.markdown_scanners_tree.specs.declared.scanners.html_kinds.HtmlBlockKind.{HtmlBlockKind}
use Rattle.markdown_scanners_tree.specs.declared.scanners.html_kinds.HtmlBlockKind.TheVariants.{RawText, Comment, Processing, Declaration, Cdata, BlockName, TagAlone}
use Rattle.markdown_scanners_tree.specs.Ascii.{line_feed, exclamation_mark, hyphen, less_than_sign, greater_than_sign, question_mark, right_bracket}
use Rattle.markdown_scanners_tree.specs.Bytes.{begins_with, is_letter}
use Rattle.markdown_scanners_tree.specs.scanners.html_kinds.HtmlKinds.{begins_with_text}

-- the kind that begins after `<!`
abbrev pub declared_kind : List ℕ → Option HtmlBlockKind
declared_kind bytes =
    if begins_with_text (codes "--") bytes then Some Comment
    else if begins_with is_letter bytes then Some Declaration
    else if begins_with_text (codes "[CDATA[") bytes then Some Cdata
    else None

-- the kind that a mark after `<` begins
abbrev pub marked_kind : List ℕ → Option HtmlBlockKind
marked_kind [] = None
marked_kind (mark ∷ bytes) =
    if mark == question_mark then Some Processing
    else if mark == exclamation_mark then declared_kind bytes
    else None

-- the first byte of what ends a block of this kind; a line feed where a blank line does
abbrev pub first_of_end : HtmlBlockKind → ℕ
first_of_end RawText = less_than_sign
first_of_end Comment = hyphen
first_of_end Processing = question_mark
first_of_end Declaration = greater_than_sign
first_of_end Cdata = right_bracket
first_of_end BlockName = line_feed
first_of_end TagAlone = line_feed
