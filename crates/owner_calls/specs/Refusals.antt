-- What a call on a state buffer refuses before it is made at all: bytes that are no whole image, by their number (image,
-- `image_refusal`); then an argument that cannot be taken. Where document 01 has a number for that fault it is the one, and the state
-- is tested before it: "owner's calls 3, then their own refusal".
use Rattle.std.specs.Prelude.{◌≡◌, Bool, cond, ◌&&◌, List, ℕ, eqb, ltb, length, Result, Ok, Err}
use Rattle.model.specs.Soundness.{sound}
use Rattle.meter.specs.declared.Meter.{Meter}
use Rattle.meter.specs.View.{view}
use Rattle.image.specs.Image.{Status, image_size, meter_of, status_of, fault_number, image_refusal, wrong_length, not_sound}
use Rattle.owner_calls.specs.declared.refusals.ArgumentFault.{ArgumentFault}
use Rattle.owner_calls.specs.declared.refusals.ArgumentFault.TheVariants.{ClockNotValid, RegistersBad, NoSuchRegister, ColumnsBad, WrongArgument}
use Rattle.owner_calls.specs.declared.refusals.Refusal.{Refusal}
use Rattle.owner_calls.specs.declared.refusals.Refusal.TheVariants.{Image, NotSound, Argument, Meter as ByMeter}

-- what document 01 does not know: an argument of a new meter of a wrong length, or a flag that is neither 0 nor 1
abbrev pub wrong_argument : ℕ
wrong_argument = 104

-- the fault of an argument: its number, or 0 where the argument is taken
abbrev pub fault_of : (taken : Bool) → (number : ℕ) → ℕ
fault_of taken k = cond taken 0 k

-- of a whole image: the state comes before the fault; 0 where there is none
abbrev pub fault_refusal : (sound : Bool) → (fault : ℕ) → ℕ
fault_refusal y k = cond (eqb k 0) 0 (cond y k not_sound)

-- of any buffer; 0 where the call is made
abbrev pub refusal_by : Status → (sound : Bool) → (fault : ℕ) → ℕ
refusal_by t y k = cond (eqb (image_refusal t) 0) (fault_refusal y k) (image_refusal t)

-- Arguments that are taken; a list of records by its own test (image, `whole_list`).

abbrev pub sized : ℕ → List ℕ → Bool
sized n s = eqb (length s) n

abbrev pub is_flag : ℕ → Bool
is_flag b = ltb b 2

-- a device name and the titles of the meter, of V and of H
abbrev pub new_sized : (device title verification han : List ℕ) → Bool
new_sized d t v h = sized 16 d && (sized 8 t && (sized 8 v && sized 8 h))

-- A new meter is written whatever the buffer held: its length is tested, and no byte of it.
abbrev pub new_refusal : List ℕ → (device title verification han : List ℕ) → ℕ
new_refusal s d t v h = cond (eqb (length s) image_size) (fault_of (new_sized d t v h) wrong_argument) wrong_length

-- The same of the code's answers.

abbrev pub argument_number : ArgumentFault → ℕ
argument_number ClockNotValid = 14
argument_number RegistersBad = 16
argument_number NoSuchRegister = 17
argument_number ColumnsBad = 18
argument_number WrongArgument = wrong_argument

abbrev pub number : Refusal → ℕ
number (Image f) = fault_number f
number NotSound = not_sound
number (Argument f) = argument_number f
number (ByMeter n) = n

abbrev pub number_of : Result (Unit {0}) Refusal → ℕ
number_of (Ok u) = 0
number_of (Err r) = number r

-- the meter in a buffer that held s, for a call whose argument has this fault or is taken; or what is refused
abbrev pub MeterFor : (s : List ℕ) → (fault : ℕ) → Result Meter Refusal → Type 0
MeterFor s k (Ok m) = (refusal_by (status_of s) (sound (view (meter_of s))) k ≡ 0) × (m ≡ meter_of s)
MeterFor s k (Err r) = (number r ≡ refusal_by (status_of s) (sound (view (meter_of s))) k) × (number r ≡ 0 → ⊥)
