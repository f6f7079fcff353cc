-- What a search by halving finds in a table of skips, whether or not it is in order.
use Rattle.std.specs.Prelude.{ℕ, suc, zero, List, ◌-◌, ◌/◌, ◌==◌, min, nat_lt, length, take, drop, get_or, if◌then◌else◌}
use Rattle.markdown_scanners_c.specs.declared.skips.Skip.{Skip}

abbrev pub no_skip : Skip
no_skip = record { offset = 0; length = 0 }

-- in so many steps, each of which goes on in one half
abbrev pub halved : ℕ → List Skip → ℕ → ℕ
halved zero skips offset = 0
halved (suc steps) skips offset =
    let middle = length skips / 2 in
    let skip = get_or skips middle no_skip in
    if skip.offset == offset then skip.length
    else halved steps (if nat_lt skip.offset offset then drop (suc middle) skips else take middle skips) offset

abbrev pub searched : List Skip → ℕ → ℕ
searched skips offset = halved (length skips) skips offset

-- how many bytes of a rest of the text are left out, all of them where the table names more
abbrev pub returned_skip : List Skip → List ℕ → List ℕ → ℕ
returned_skip skips bytes rest = min (searched skips (length bytes - length rest)) (length rest)
