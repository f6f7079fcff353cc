-- Worked instances of where HTML blocks begin and end.
use Rattle.std.proofs.Common.{[], ◌∷◌, ◌++◌, ◌≡◌, true, false, refl, codes}
use Rattle.markdown_scanners_tree.specs.Ascii.{line_feed, carriage_return}
use Rattle.markdown_scanners_tree.specs.scanners.html_kinds.HtmlKinds.{MeetsStart, begins_with_raw_name, ends_tag_name, is_html_end}
use Rattle.markdown_scanners_tree.specs.declared.scanners.html_kinds.HtmlBlockKind.TheVariants.{RawText, Comment, Processing, Declaration, Cdata, BlockName, TagAlone}

raw_text : MeetsStart RawText (codes "<Script>x")
raw_text = refl

raw_text_at_the_end : MeetsStart RawText (codes "<PRE")
raw_text_at_the_end = refl

raw_text_before_a_line_ending : MeetsStart RawText (codes "<style" ++ carriage_return ∷ [])
raw_text_before_a_line_ending = refl

longer_name : ¬ MeetsStart RawText (codes "<prex>")
longer_name h = cc

closing_tag : ¬ MeetsStart RawText (codes "</pre>")
closing_tag h = cc

slash_behind_the_name : ¬ MeetsStart RawText (codes "<pre/>")
slash_behind_the_name h = cc

-- this one has the name all the same, so it does not begin by start condition 7
named_raw_text : begins_with_raw_name ends_tag_name (codes "pre/>") ≡ true
named_raw_text = refl

named_otherwise : begins_with_raw_name ends_tag_name (codes "pre-x>") ≡ false
named_otherwise = refl

-- a closing tag has no name directly after its `<`
closing_is_other : begins_with_raw_name ends_tag_name (codes "/pre>") ≡ false
closing_is_other = refl

comment : MeetsStart Comment (codes "<!--")
comment = refl

no_comment : ¬ MeetsStart Comment (codes "<!- -")
no_comment h = cc

processing : MeetsStart Processing (codes "<?")
processing = refl

declaration : MeetsStart Declaration (codes "<!doctype html>")
declaration = refl

no_declaration : ¬ MeetsStart Declaration (codes "<! x")
no_declaration h = cc

cdata : MeetsStart Cdata (codes "<![CDATA[")
cdata = refl

cdata_in_lower_case : ¬ MeetsStart Cdata (codes "<![cdata[")
cdata_in_lower_case h = cc

raw_text_ends : is_html_end RawText (codes "a</Style>b") ≡ true
raw_text_ends = refl

raw_text_goes_on : is_html_end RawText (codes "</pre >") ≡ false
raw_text_goes_on = refl

comment_in_one_line : is_html_end Comment (codes "<!-->") ≡ true
comment_in_one_line = refl

closer_in_the_next_line : is_html_end Comment (codes "a" ++ line_feed ∷ codes "-->") ≡ false
closer_in_the_next_line = refl

brackets : is_html_end Cdata (codes "]]]>") ≡ true
brackets = refl

blank_line : is_html_end BlockName (codes " " ++ line_feed ∷ codes "a") ≡ true
blank_line = refl

no_blank_line : is_html_end TagAlone (codes "-->") ≡ false
no_blank_line = refl
