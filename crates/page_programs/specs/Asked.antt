-- The options that commands have of their own, and what the arguments of the command line ask for of them. An option and its value are one word.
use Rattle.std.specs.Prelude.{ℕ, ◌||◌, List, Option, codes}
use Rattle.std.specs.Borrow.{Bor}
use Rattle.std.specs.Str.{bytes_eq}
use Rattle.page_programs.specs.Arguments.{asks, value_of}
use Rattle.page_programs.specs.declared.asked.Flags.{Flags}

-- packages/program
abbrev pub unsafe_html : List ℕ
unsafe_html = codes "--unsafe"

abbrev pub strict : List ℕ
strict = codes "--strict"

abbrev pub to_events : List ℕ
to_events = codes "--to events"

abbrev pub to_json : List ℕ
to_json = codes "--to json"

abbrev pub json : List ℕ
json = codes "--json"

abbrev pub check : List ℕ
check = codes "--check"

abbrev pub write : List ℕ
write = codes "--write"

-- what stands before `--`
abbrev pub flags_of : List (Bor (List ℕ)) → Flags
flags_of arguments = record {
  unsafe_html = asks unsafe_html arguments;
  strict = asks strict arguments;
  to_events = asks to_events arguments;
  to_json = asks to_json arguments;
  json = asks json arguments;
  check = asks check arguments;
  write = asks write arguments;
}

-- what a word is
abbrev pub flags_by : List ℕ → Flags
flags_by word = record {
  unsafe_html = bytes_eq word unsafe_html;
  strict = bytes_eq word strict;
  to_events = bytes_eq word to_events;
  to_json = bytes_eq word to_json;
  json = bytes_eq word json;
  check = bytes_eq word check;
  write = bytes_eq word write;
}

-- what either is
abbrev pub both_flags : Flags → Flags → Flags
both_flags some others = record {
  unsafe_html = some.unsafe_html || others.unsafe_html;
  strict = some.strict || others.strict;
  to_events = some.to_events || others.to_events;
  to_json = some.to_json || others.to_json;
  json = some.json || others.json;
  check = some.check || others.check;
  write = some.write || others.write;
}

-- end

-- with a folder after it
abbrev pub root : List ℕ
root = codes "--root "

-- the folder that the arguments give
abbrev pub root_of : List (Bor (List ℕ)) → Option (List ℕ)
root_of arguments = value_of root arguments
