-- The version of the library, three numbers in one, so that a caller can compare it. The first grows where a program, a client at
-- the plug or a stored state of the version before does not fit any more, the second where a call, an answer or a number comes beside
-- those that stand, the third where no caller can see a difference. include/birlimock.h has the same number, as a macro.
use Rattle.std.specs.Prelude.{ℕ, ◌+◌, ◌*◌}

abbrev pub version_of : (first second third : ℕ) → ℕ
version_of a b c = a * 10000 + b * 100 + c

abbrev pub library_version : ℕ
library_version = version_of 3 0 1
