-- Alerts: block quotes that begin with a line as `[!NOTE]`.
use Rattle.std.specs.Prelude.{ℕ}
use Rattle.markdown_values.specs.declared.values.BlockQuoteKind.{BlockQuoteKind}
use Rattle.markdown_values.specs.declared.values.BlockQuoteKind.TheVariants.{Note, Tip, Important, Warning, Caution}

-- the number of a kind, in the order of the kinds
abbrev pub alert_number : BlockQuoteKind → ℕ
alert_number Note = 1
alert_number Tip = 2
alert_number Important = 3
alert_number Warning = 4
alert_number Caution = 5
