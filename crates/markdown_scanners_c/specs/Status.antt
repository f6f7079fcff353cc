-- What a call comes to, as C gets it: the numbers of `enum mds_status`.
use Rattle.std.specs.Prelude.{ℕ}

-- an answer
abbrev pub ok : ℕ
ok = 0

-- nothing of the kind stands there
abbrev pub nothing : ℕ
nothing = 1

-- the text is not UTF-8
abbrev pub not_utf8 : ℕ
not_utf8 = 2

-- the offset is past the end of the bytes
abbrev pub past_end : ℕ
past_end = 3

-- the table of what is left out is none of the text
abbrev pub bad_skips : ℕ
bad_skips = 4

-- a number is so large that others can't be added to it
abbrev pub too_large : ℕ
too_large = 5

-- the bytes are empty
abbrev pub empty : ℕ
empty = 6

-- the buffer is too short
abbrev pub too_short : ℕ
too_short = 7

-- memory was refused
abbrev pub no_memory : ℕ
no_memory = 8

-- no opener of inline HTML, `<!` or `<?`, ends at the offset
abbrev pub no_opener : ℕ
no_opener = 9

-- the offset is not above the one before it
abbrev pub not_rising : ℕ
not_rising = 10

-- the offset is inside what was found before it
abbrev pub inside_find : ℕ
inside_find = 11

-- columns of a tab are pending, and the call is not one that takes space
abbrev pub space_pending : ℕ
space_pending = 12

-- a call of no known kind
abbrev pub bad_kind : ℕ
bad_kind = 13

-- the numbers are those of no line start on these bytes
abbrev pub bad_state : ℕ
bad_state = 14
