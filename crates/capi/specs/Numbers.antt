-- Demand 1 of the static library: every call ends with a number that document 01 lists for it, for every state buffer and whatever is
-- lent; or with one of the three of its own, for what 01 does not know.
use Rattle.std.specs.Prelude.{◌≡◌, true, List, [], ◌∷◌, ◌++◌, ℕ}
use Rattle.model.specs.Periods.{listed}
use Rattle.model.specs.Calls.{frame, owner}
use Rattle.model.specs.Archive.{numbers}
use Rattle.model.specs.Demand3.{Handed}
use Rattle.meter.specs.declared.Meter.{Meter}
use Rattle.meter.specs.View.{view}
use Rattle.image.specs.Image.{wrong_length, wrong_version}
use Rattle.owner_calls.specs.Refusals.{wrong_argument}
use Rattle.owner_calls.specs.Lending.{LentOwner, registers, value, columns, period, clock, p5, powered, owner_of}
use Rattle.capi.specs.Lending.{LentOn, receive, own, LentCall, renew, call}
use Rattle.capi.specs.Runs.{Library}

-- of the arguments only a flag that is neither 0 nor 1 is unknown to 01
abbrev pub flag_numbers : LentOwner → List ℕ
flag_numbers (registers s) = []
flag_numbers (value n v) = []
flag_numbers (columns s) = []
flag_numbers (period d) = []
flag_numbers (clock t) = []
flag_numbers (p5 h) = wrong_argument ∷ []
flag_numbers powered = []

-- the numbers of a call on a meter, document 01's and those
abbrev pub on_numbers : LentOn → List ℕ
on_numbers (receive a) = numbers (frame a)
on_numbers (own c) = numbers (owner (owner_of c)) ++ flag_numbers c

abbrev pub library_numbers : LentCall → List ℕ
library_numbers (renew d t v h) = 0 ∷ wrong_length ∷ wrong_argument ∷ []
library_numbers (call c) = wrong_length ∷ wrong_version ∷ on_numbers c

-- Proved in proofs/NumberLaws.
abbrev pub LibraryNumbers : Type 0
LibraryNumbers =
    (s e : List ℕ) (c : LentCall) (h : Handed Meter view)
    → Library s e c h
    → listed h.refusal (library_numbers c) ≡ true
