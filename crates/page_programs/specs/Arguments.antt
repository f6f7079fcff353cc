-- What the arguments of the command line ask for.
use Rattle.std.specs.Prelude.{ℕ, Bool, true, false, not, ◌&&◌, ◌||◌, ◌==◌, List, [], ◌∷◌, ◌++◌, Option, Some, None, map, codes, if◌then◌else◌}
use Rattle.std.specs.Prelude.{drop, length, nat_eq}
use Rattle.std.specs.List.{ends_with, starts_with}
use Rattle.std.specs.Option.{option_or}
use Rattle.std.specs.Str.{bytes_eq}
use Rattle.std.specs.Borrow.{Bor}
use Rattle.page_programs.specs.declared.arguments.Options.{Options}
use Rattle.page_programs.specs.declared.arguments.Request.{Request}
use Rattle.page_programs.specs.declared.arguments.Request.TheVariants.{Pages, Help, Version}

-- a hyphen, and more
abbrev pub is_option : List ℕ → Bool
is_option [] = false
is_option (b ∷ []) = false
is_option (b ∷ c ∷ word) = b == 45

-- what stands before arguments that are no options
abbrev pub is_last : List ℕ → Bool
is_last word = bytes_eq word (codes "--")

abbrev pub asks_help : List ℕ → Bool
asks_help word = bytes_eq word (codes "-h") || bytes_eq word (codes "--help")

abbrev pub asks_version : List ℕ → Bool
asks_version word = bytes_eq word (codes "--version")

abbrev pub texts : List (Bor (List ℕ)) → List (List ℕ)
texts arguments = map (λ word. word.now) arguments

-- an option that is listed with a space at its end has any value after that
abbrev pub takes_any : List ℕ → Bool
takes_any option = ends_with nat_eq option (codes " ")

-- a word is this option
abbrev pub is_this : List ℕ → List ℕ → Bool
is_this option word = if takes_any option then starts_with nat_eq word option else bytes_eq word option

-- one of these options
abbrev pub is_named : List (List ℕ) → List ℕ → Bool
is_named [] word = false
is_named (option ∷ options) word = is_this option word || is_named options word

-- the options of a program, beside those that each program has
abbrev pub all_options : Options → List (List ℕ)
all_options options = texts options.own.now ++ texts options.extensions.now

-- one of these options, or one that each program has
abbrev pub is_known : List (List ℕ) → List ℕ → Bool
is_known options word = asks_help word || (asks_version word || is_named options word)

-- the first option that is not known
abbrev pub unknown_of : List (List ℕ) → List (Bor (List ℕ)) → Option (Bor (List ℕ))
unknown_of options [] = None
unknown_of options (word ∷ arguments) =
    if is_last word.now then None
    else if is_option word.now && not (is_known options word.now) then Some word
    else unknown_of options arguments

-- the first word that asks for the help or the version is answered; else pages are printed
abbrev pub request_of : List (Bor (List ℕ)) → Request
request_of [] = Pages
request_of (word ∷ arguments) =
    if is_last word.now then Pages
    else if asks_help word.now then Help
    else if asks_version word.now then Version
    else request_of arguments

-- this option stands before `--`
abbrev pub asks : List ℕ → List (Bor (List ℕ)) → Bool
asks option [] = false
asks option (word ∷ arguments) =
    if is_last word.now then false
    else if bytes_eq word.now option then true
    else asks option arguments

-- what stands in a word after this
abbrev pub after : List ℕ → List ℕ → Option (List ℕ)
after front word = if starts_with nat_eq word front then Some (drop (length front) word) else None

-- the value of an option, which is listed with a space at its end, before `--`: the last one, where it has several
abbrev pub value_of : List ℕ → List (Bor (List ℕ)) → Option (List ℕ)
value_of option [] = None
value_of option (word ∷ arguments) = if is_last word.now then None else option_or (value_of option arguments) (after option word.now)

-- the arguments that are no options, and all after `--`
abbrev pub operands : List (Bor (List ℕ)) → List (Bor (List ℕ))
operands [] = []
operands (word ∷ arguments) =
    if is_last word.now then arguments
    else if is_option word.now then operands arguments
    else word ∷ operands arguments

-- standard input
abbrev pub dash : List ℕ
dash = codes "-"

abbrev pub or_input : List (List ℕ) → List (List ℕ)
or_input [] = dash ∷ []
or_input (name ∷ names) = name ∷ names

-- the names of the pages: standard input, where no word names one
abbrev pub pages_of : List (Bor (List ℕ)) → List (List ℕ)
pages_of arguments = or_input (texts (operands arguments))
