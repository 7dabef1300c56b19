-- The image of a meter: a version byte, then the meter by its layout; and what reading comes to, for every byte string. What
-- writing promises is image_write's.
use Rattle.std.specs.Prelude.{◌≡◌, true, cond, List, ◌∷◌, ℕ, ◌+◌, ◌<◌, eqb, length, drop, get_or, replicate, Result, Ok, Err}
use Rattle.meter.specs.declared.Meter.{Meter}
use Rattle.meter.specs.Unsound.{holdable}
use Rattle.image.specs.declared.ImageFault.{ImageFault}
use Rattle.image.specs.declared.ImageFault.TheVariants.{WrongLength, WrongVersion, NoImage}
use Rattle.image.specs.Layout.{meter_part}

-- the version byte of this layout
abbrev pub version : ℕ
version = 2

unfoldable pub image_size : ℕ
image_size = 1 + meter_part.size

unfoldable pub image_of : Meter → List ℕ
image_of m = version ∷ meter_part.bytes m

-- the meter that an image holds
unfoldable pub meter_of : List ℕ → Meter
meter_of s = meter_part.value (drop 1 s)

-- the meter whose bytes are all 0
unfoldable pub blank_meter : Meter
blank_meter = meter_part.value (replicate meter_part.size 0)

-- the meter in bytes that may be no image: the blank one where they have another length
unfoldable pub meter_in : List ℕ → Meter
meter_in s = cond (eqb (length s) image_size) (meter_of s) blank_meter

-- Reading: tests in this order, a refusal for each.

-- what bytes come to as an image: whole, or the first test that they fail
abbrev pub Status : Type 0
Status = Result (Unit {0}) ImageFault

abbrev pub whole : Status
whole = Ok tt

unfoldable pub status_of : List ℕ → Status
status_of s =
    cond (eqb (length s) image_size)
    (cond (eqb (get_or s 0 0) version) (cond (meter_part.taken (drop 1 s)) whole (Err NoImage)) (Err WrongVersion))
    (Err WrongLength)

-- a meter where the bytes are a whole image, and their fault where they are not
abbrev pub read_by : Status → Meter → Result Meter ImageFault
read_by (Ok u) m = Ok m
read_by (Err f) m = Err f

abbrev pub read_image : List ℕ → Result Meter ImageFault
read_image s = read_by (status_of s) (meter_of s)

-- The number by which a call refuses bytes that are no whole image, or 0. Document 01 knows no lengths and no versions of a state;
-- a byte that no meter has is a state that is not sound, 3.

abbrev pub wrong_length : ℕ
wrong_length = 101

abbrev pub wrong_version : ℕ
wrong_version = 102

abbrev pub not_sound : ℕ
not_sound = 3

abbrev pub fault_number : ImageFault → ℕ
fault_number WrongLength = wrong_length
fault_number WrongVersion = wrong_version
fault_number NoImage = not_sound

abbrev pub image_refusal : Status → ℕ
image_refusal (Ok u) = 0
image_refusal (Err f) = fault_number f

-- What is proved of images.

-- every meter that the struct can hold is read back from its image
abbrev pub ReadBack : Type 0
ReadBack = (m : Meter) → holdable m ≡ true → read_image (image_of m) ≡ Ok m

-- every image that is read is written back, byte for byte: no byte of it is free
abbrev pub WrittenBack : Type 0
WrittenBack = (s : List ℕ) → ((i : ℕ) → get_or s i 0 < 0x100) → status_of s ≡ whole → image_of (meter_of s) ≡ s
