-- What the arguments of the command line ask for, beside what those of each program ask for. An option and its value are one word.
use Rattle.std.specs.Prelude.{ℕ, Bool, true, false, not, List, ◌∷◌, codes, if◌then◌else◌}
use Rattle.std.specs.Borrow.{Bor}
use Rattle.page_programs.specs.Asked.{flags_of, strict, to_events, to_json, unsafe_html}
use Rattle.page_programs.specs.Extensions.{event_options, extensions_of}
use Rattle.page_programs.specs.declared.asked.Flags.{Flags}
use Rattle.page_html.specs.declared.asked.Asked.{Asked}
use Rattle.page_html.specs.declared.asked.Form.{Form}
use Rattle.page_html.specs.declared.asked.Form.TheVariants.{Html, Events, Json}

-- ---- the options that the program has of its own

abbrev pub to_html : List ℕ
to_html = codes "--to html"

abbrev pub own_options : List (List ℕ)
own_options = unsafe_html ∷ strict ∷ to_html ∷ to_events ∷ to_json ∷ event_options

-- ---- what they ask for

abbrev pub form_of : Flags → Form
form_of flags = if flags.to_events then Events else if flags.to_json then Json else Html

abbrev pub is_html : Form → Bool
is_html Html = true
is_html Events = false
is_html Json = false

abbrev pub asked_of : List (Bor (List ℕ)) → Asked
asked_of arguments =
    let flags = flags_of arguments in
    record { form = form_of flags; safe = not flags.unsafe_html; strict = flags.strict; setting = extensions_of arguments }
