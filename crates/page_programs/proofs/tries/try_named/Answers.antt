use Rattle.std.proofs.Common.{refl}
use Rattle.page_programs.specs.Tried.{is_done, not_begun, not_done}
use Rattle.page_programs.proofs.tries.try_named.Goals as goal

pub returns-in_default-clause-tried : goal.returns-in_default-clause-tried
returns-in_default-clause-tried g c =
    not_begun record { is_given = c.report_stop.ensures; same_input = refl; same_files = refl; same_output = refl }

pub returns-in-Ok-do_named-clause-tried : goal.returns-in-Ok-do_named-clause-tried
returns-in-Ok-do_named-clause-tried g c = rw c.came_of.ensures (is_done c.in-Ok-do_named.found c.in-Ok-do_named.ensures.handled)

pub returns-clause-tried : goal.returns-clause-tried
returns-clause-tried g c =
    rw c.came_at.ensures (not_done c.in-Err.stop c.do_named.new.streams c.in-Err.ensures.handled c.in-Err.ensures.refused record {
      is_given = rw (c.as_str.ensures.value, c.in-Ok.ensures) at c.report_stop-in-Err.ensures;
      same_input = refl;
      same_files = refl;
      same_output = refl;
    })
