-- A page has one list of task list markers, and one of alerts.
use Rattle.std.proofs.Common.{ℕ, List, ◌≡◌}
use Rattle.markdown_blocks.proofs.first_blocks.FirstLemmas.{one_shown}
use Rattle.markdown_values.specs.declared.values.extensions.Extensions.{Extensions}
use Rattle.markdown_blocks.specs.declared.alerts.Alert.{Alert}
use Rattle.markdown_blocks.specs.declared.first_blocks.Task.{Task}
use Rattle.markdown_blocks.specs.first_blocks.Alerts.{AreAlertsOf, alert_at}
use Rattle.markdown_blocks.specs.first_blocks.Tasks.{AreTasksOf, task_at}

pub one_list_of_tasks : (asked : Extensions) (page : List ℕ) (tasks others : List Task) → AreTasksOf asked page tasks → AreTasksOf asked page others
    → tasks ≡ others
one_list_of_tasks asked page tasks others is is' = one_shown task_at asked page tasks others is is'

pub one_list_of_alerts : (asked : Extensions) (page : List ℕ) (alerts others : List Alert) → AreAlertsOf asked page alerts → AreAlertsOf asked page others
    → alerts ≡ others
one_list_of_alerts asked page alerts others is is' = one_shown alert_at asked page alerts others is is'
