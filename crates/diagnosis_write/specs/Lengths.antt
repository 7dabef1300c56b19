-- How long the line that tells of a call can become (document 02, Q-2). What it says stands in specs/Lines of the crate call_tests.
use Rattle.std.specs.Prelude.{ℕ, ◌+◌}

-- of a refusal number, which one byte holds
abbrev pub longest_number : ℕ
longest_number = 3

-- of a name, as "link-down-with-information" is
abbrev pub longest_name : ℕ
longest_name = 26

-- of a place, which 64 bits hold
abbrev pub longest_place : ℕ
longest_place = 20

-- of the line: its three words and two spaces
abbrev pub longest_line : ℕ
longest_line = longest_number + 1 + longest_name + 1 + longest_place
