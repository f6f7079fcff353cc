use Rattle.std.proofs.lemmas.Result.{IfOk-weaker}
use Rattle.markdown_blocks.proofs.blocks.BlockLemmas.{blank_block, one_line, indented_block, fenced_block, html_block}
use Rattle.markdown_blocks.proofs.blocks.scan_block.Goals as goal

pub returns-in-Blank : goal.returns-in-Blank
returns-in-Blank c = λ line h.
    rw c.in-Blank.is (blank_block c.args.text.now c.args.outer.now line c.args.rest.now c.args.first h
    c.take_blank-taken.result c.in-Blank.ensures c.take_blank-taken.ensures)

pub returns-in-Indented : goal.returns-in-Indented
returns-in-Indented c = λ line h.
    rw c.in-Indented.is (indented_block c.args.text.now c.args.outer.now line c.args.rest.now c.args.first h
    c.take_indented-taken.result c.in-Indented.ensures c.take_indented-taken.ensures)

pub returns-in-Fenced : goal.returns-in-Fenced
returns-in-Fenced c = λ line h.
    fenced_block c.args.text.now c.args.outer.now line
    c.args.rest.now c.args.first h c.in-Fenced.count c.in-Fenced.byte
    c.take_through-taken.result c.in-Fenced.ensures c.take_through-taken.ensures

pub returns-in-Html : goal.returns-in-Html
returns-in-Html c = λ line h.
    html_block c.args.text.now c.args.outer.now line
    c.args.rest.now c.args.first h c.in-Html.kind c.take_html-taken.result
    c.in-Html.ensures c.take_html-taken.ensures

pub returns-in_default : goal.returns-in_default
returns-in_default c = λ line h.
    one_line c.args.text.now c.args.outer.now line c.args.rest.now c.args.first h
    c.kind_of-kind.result c.kind_of-kind.ensures c.in_default.not-Blank c.in_default.not-Indented c.in_default.not-Fenced c.in_default.not-Html
    c.in_default.not-Paragraph

pub returns-in-Paragraph : goal.returns-in-Paragraph
returns-in-Paragraph c =
    IfOk-weaker c.scan_paragraph.result _ _
    (λ block given line h. given line h c.in-Paragraph.ensures) c.scan_paragraph.ensures
