-- How many bytes a text may take.
use Rattle.std.specs.Prelude.{ℕ, ◌+◌, ◌*◌}
use Rattle.paper.specs.Sizes.{line_words}

-- the digits of a 64-bit number, and the byte after them
abbrev pub number_room : ℕ
number_room = 21

-- the two numbers of the first line, and a line for each of the offices listed; a refusal takes less than the first line
abbrev pub reply_room : ℕ → ℕ
reply_room count = number_room * (2 + line_words * count)
