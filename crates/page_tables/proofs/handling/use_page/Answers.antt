use Rattle.std.proofs.Common.{ap, refl, string_bytes, ◌∙◌}
use Rattle.page_tables.specs.Looks.{made_text}
use Rattle.page_tables.specs.Arguments.{is_check}
use Rattle.page_tables.proofs.handling.use_page.Goals as goal

pub returns-in-Ok-write_bytes-clause-used : goal.returns-in-Ok-write_bytes-clause-used
returns-in-Ok-write_bytes-clause-used g c = rw c.in-Print.is (
  made_text c.args.page.now c.in-Ok-look_at_page.look.made,
  string_bytes c.in-Ok-look_at_page.look.lines,
  (
    record {
      notes = string_bytes c.in-Ok-look_at_page.look.notes;
      is_said = rw (c.as_str.ensures.value, c.in-Ok.ensures, c.is_check.ensures ∙ ap is_check c.in-Print.is) at c.in-Ok-look_at_page.ensures.said;
      is_given = rw c.as_str-2.ensures.value at c.complain.ensures.given;
    },
    rw (c.text.ensures, c.as_bytes.ensures.value) at c.in-Ok-write_bytes.ensures.written,
    refl,
    refl,
  ),
)

pub returns-in-Ok-write_whole-clause-used : goal.returns-in-Ok-write_whole-clause-used
returns-in-Ok-write_whole-clause-used g c = rw c.in-Check.is (
  made_text c.args.page.now c.in-Ok-look_at_page.look.made,
  string_bytes c.in-Ok-look_at_page.look.lines,
  (
    record {
      notes = string_bytes c.in-Ok-look_at_page.look.notes;
      is_said = rw (c.as_str.ensures.value, c.in-Ok.ensures, c.is_check.ensures ∙ ap is_check c.in-Check.is) at c.in-Ok-look_at_page.ensures.said;
      is_given = rw c.as_str-2.ensures.value at c.complain.ensures.given;
    },
    rw c.as_str-in-Check.ensures.value at c.in-Ok-write_whole.ensures.written,
    refl,
    rw c.as_str-in-Ok-write_whole.ensures.value at c.is_reported.ensures,
  ),
)

pub returns-in-Ok-replace_with-clause-used : goal.returns-in-Ok-replace_with-clause-used
returns-in-Ok-replace_with-clause-used g c = rw c.in-Replace.is (
  made_text c.args.page.now c.in-Ok-look_at_page.look.made,
  string_bytes c.in-Ok-look_at_page.look.lines,
  (
    record {
      notes = string_bytes c.in-Ok-look_at_page.look.notes;
      is_said = rw (c.as_str.ensures.value, c.in-Ok.ensures, c.is_check.ensures ∙ ap is_check c.in-Replace.is) at c.in-Ok-look_at_page.ensures.said;
      is_given = rw c.as_str-2.ensures.value at c.complain.ensures.given;
    },
    refl,
    rw c.as_bytes-in-Replace.ensures.value at c.in-Ok-replace_with.ensures.replaced,
    refl,
  ),
)

pub returns-in-Print-clause-used : goal.returns-in-Print-clause-used
returns-in-Print-clause-used g c = rw c.in-Print.is (
  made_text c.args.page.now c.in-Ok-look_at_page.look.made,
  string_bytes c.in-Ok-look_at_page.look.lines,
  (
    record {
      notes = string_bytes c.in-Ok-look_at_page.look.notes;
      is_said = rw (c.as_str.ensures.value, c.in-Ok.ensures, c.is_check.ensures ∙ ap is_check c.in-Print.is) at c.in-Ok-look_at_page.ensures.said;
      is_given = rw c.as_str-2.ensures.value at c.complain.ensures.given;
    },
    rw (c.text.ensures, c.as_bytes.ensures.value) at c.write_bytes.ensures.front,
    refl,
  ),
)

pub returns-in-Check-clause-used : goal.returns-in-Check-clause-used
returns-in-Check-clause-used g c = rw c.in-Check.is (
  made_text c.args.page.now c.in-Ok-look_at_page.look.made,
  string_bytes c.in-Ok-look_at_page.look.lines,
  (
    record {
      notes = string_bytes c.in-Ok-look_at_page.look.notes;
      is_said = rw (c.as_str.ensures.value, c.in-Ok.ensures, c.is_check.ensures ∙ ap is_check c.in-Check.is) at c.in-Ok-look_at_page.ensures.said;
      is_given = rw c.as_str-2.ensures.value at c.complain.ensures.given;
    },
    rw c.as_str-in-Check.ensures.value at c.write_whole.ensures.front,
    refl,
  ),
)

pub returns-clause-used : goal.returns-clause-used
returns-clause-used g c = (
  made_text c.args.page.now c.in-Ok-look_at_page.look.made,
  string_bytes c.in-Ok-look_at_page.look.lines,
  (
    record {
      notes = string_bytes c.in-Ok-look_at_page.look.notes;
      is_said = rw (c.as_str.ensures.value, c.in-Ok.ensures, c.is_check.ensures ∙ ap is_check c.in-Replace.is) at c.in-Ok-look_at_page.ensures.said;
      is_given = rw c.as_str-2.ensures.value at c.complain.ensures.given;
    },
    refl,
    rw c.as_bytes-in-Replace.ensures.value at c.in-Err-replace_with.ensures.refused,
  ),
)
