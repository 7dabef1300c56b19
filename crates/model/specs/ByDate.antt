-- Rows by date (document 02, Q-1): what a range read of the profile answers, over any rows, in whatever order their clocks
-- stand; and that the order of clocks is the order of their bytes. Proved in proofs/ByDate and proofs/ClockOrder.
use Rattle.std.specs.Prelude.{◌≡◌, Bool, true, false, cond, not, ◌&&◌, List, [], ◌∷◌, ◌++◌, ℕ, ◌<◌, length, get_or, eqb, ltb}
use Rattle.model.specs.declared.Client.TheVariants.{Ciphering}
use Rattle.model.specs.declared.CipherClient.TheVariants.{Han}
use Rattle.model.specs.declared.Clock.{Clock}
use Rattle.model.specs.Names.{every}
use Rattle.model.specs.Clocks.{valid_clock, later, in_range}
use Rattle.model.specs.Selecting.{Selection, all, selected, Picking, dated, range_selector, range_descriptor, is_range_descriptor, from_clock, to_clock, good_range}
use Rattle.model.specs.State.{Entry, profile, running, Body, with_transfer}
use Rattle.model.specs.Objects.{profile_named, get, Request, ask, Result, granted, denied, get_answer, fitting, rows_data, refusal_of, transfer_after, Turn, turned}

-- The order of clocks.

-- a clock as a meter holds it: twelve bytes
pub record TwelveBytes (t : Clock) : Type 0 where
  pub long : length t.bytes ≡ 12
  pub small : (i : ℕ) → get_or t.bytes i 0 < 256

-- the order of byte strings: by the first byte in which they differ
unfoldable pub bytes_after : List ℕ → List ℕ → Bool
bytes_after [] ys = false
bytes_after (x ∷ xs) [] = true
bytes_after (x ∷ xs) (y ∷ ys) = cond (eqb x y) (bytes_after xs ys) (ltb y x)

-- of valid clocks the later one is the one whose bytes come after
abbrev pub OrderOfBytes : Type 0
OrderOfBytes =
    (a b : Clock)
    → TwelveBytes a
    → TwelveBytes b
    → valid_clock a ≡ true
    → valid_clock b ≡ true
    → later a b ≡ bytes_after a.bytes b.bytes

-- and so a clock lies in the range that has valid ends exactly where its bytes come after those of from, and not after those of to
abbrev pub RangeOfBytes : Type 0
RangeOfBytes =
    (from to t : Clock)
    → TwelveBytes from
    → TwelveBytes to
    → TwelveBytes t
    → valid_clock from ≡ true
    → valid_clock to ≡ true
    → valid_clock t ≡ true
    → in_range from to t ≡ (bytes_after t.bytes from.bytes && not (bytes_after t.bytes to.bytes))

-- Descriptors.

-- the descriptor of two clocks is one, and they are found in it
pub record Describes (from to : Clock) : Type 0 where
  pub is : is_range_descriptor (range_descriptor from to) ≡ true
  pub first : from_clock (range_descriptor from to) ≡ from
  pub last : to_clock (range_descriptor from to) ≡ to

abbrev pub RangesDescribed : Type 0
RangesDescribed = (from to : Clock) → length from.bytes ≡ 12 → length to.bytes ≡ 12 → Describes from to

-- and no other value is one: no other object, shape or length, and none with picked columns
abbrev pub NoOtherRange : Type 0
NoOtherRange =
    (v : List ℕ) → is_range_descriptor v ≡ true → (length v ≡ 50) × (v ≡ range_descriptor (from_clock v) (to_clock v))

-- Rows.

-- of the first list exactly the rows that pass, each as often as it stands there, in the order in which they stand there
pub data Kept (f : Entry → Bool) : List Entry → List Entry → Type 0 where
  done : Kept f [] []
  taken : {r : Entry} {rs ks : List Entry} → f r ≡ true → Kept f rs ks → Kept f (r ∷ rs) (r ∷ ks)
  left : {r : Entry} {rs ks : List Entry} → f r ≡ false → Kept f rs ks → Kept f (r ∷ rs) ks

-- the rows later than one clock and not later than another, of rows in any order: "clocks go back, so no row may be skipped"
abbrev pub KeptWithin : (from to : Clock) → List Entry → List Entry → Type 0
KeptWithin from to = Kept (λ r. in_range from to r.clock)

-- H's GET of attribute 2 of the profile; selective access, and block transfer, agreed or not
abbrev pub profile_asked : (selective blocks : Bool) → (invoke : ℕ) → Selection → Request
profile_asked selective blocks i s =
    record { client = Ciphering Han; invoke = i; selective = selective; blocks = blocks; class = 7; name = profile_named; service = get 2 s }

abbrev pub profile_request : (blocks : Bool) → (invoke : ℕ) → Selection → Request
profile_request blocks i s = profile_asked true blocks i s

-- a turn that reads: of the body nothing moves but the transfer
abbrev pub read_turn : (invoke : ℕ) → Result → Body → Turn
read_turn i r b = record { refusal = refusal_of r; bytes = get_answer i r; body = with_transfer (transfer_after r) b }

-- these rows, picked so: whole where they fit, and else in blocks where they were agreed
abbrev pub rows_result : (blocks : Bool) → Picking → List Entry → Result
rows_result blocks p rs = fitting blocks (running (profile p) 1) (rows_data rs)

-- the answer: these rows
pub record RangeAnswer (blocks : Bool) (i : ℕ) (from to : Clock) (b : Body) : Type 0 where
  pub rows : List Entry
  pub kept : KeptWithin from to b.store.rows rows
  pub answer :
      turned (ask (profile_request blocks i (selected range_selector (range_descriptor from to)))) b
      ≡ read_turn i (rows_result blocks (dated from to) rows) b

abbrev pub RangeReads : Type 0
RangeReads =
    (blocks : Bool) (i : ℕ) (from to : Clock) (b : Body)
    → length from.bytes ≡ 12
    → length to.bytes ≡ 12
    → good_range from to ≡ true
    → RangeAnswer blocks i from to b

-- "(none: 01 00)"
abbrev pub NoneInRange : Type 0
NoneInRange =
    (blocks : Bool) (i : ℕ) (from to : Clock) (b : Body)
    → length from.bytes ≡ 12
    → length to.bytes ≡ 12
    → good_range from to ≡ true
    → every (λ n r. not (in_range from to r.clock)) 0 b.store.rows ≡ true
    → turned (ask (profile_request blocks i (selected range_selector (range_descriptor from to)))) b
    ≡ read_turn i (granted (0x01 ∷ 0x00 ∷ [])) b

-- the same answer
pub record SameAnswer (t u : Turn) : Type 0 where
  pub refusal : t.refusal ≡ u.refusal
  pub bytes : t.bytes ≡ u.bytes

-- a range that holds every clock is answered as the whole profile is
abbrev pub AllInRange : Type 0
AllInRange =
    (blocks : Bool) (i : ℕ) (from to : Clock) (b : Body)
    → length from.bytes ≡ 12
    → length to.bytes ≡ 12
    → good_range from to ≡ true
    → every (λ n r. in_range from to r.clock) 0 b.store.rows ≡ true
    → SameAnswer (turned (ask (profile_request blocks i (selected range_selector (range_descriptor from to)))) b) (turned (ask (profile_request blocks i all)) b)

-- two rows, one before the other
pub record TwoOf (r s : Entry) (rs : List Entry) : Type 0 where
  pub before : List Entry
  pub between : List Entry
  pub after : List Entry
  pub are : rs ≡ before ++ (r ∷ (between ++ (s ∷ after)))

-- of two rows in the range, of the same second too, both are kept
abbrev pub BothKept : Type 0
BothKept =
    (from to : Clock) (r s : Entry) (rs ks : List Entry)
    → KeptWithin from to rs ks
    → TwoOf r s rs
    → in_range from to r.clock ≡ true
    → in_range from to s.clock ≡ true
    → TwoOf r s ks

-- Refusals.

abbrev pub denied_turn : (invoke code : ℕ) → Body → Turn
denied_turn i c b = read_turn i (denied c) b

-- "another object, shape or length, or picked columns, code 12", whatever its clocks are
abbrev pub OtherShape : Type 0
OtherShape =
    (blocks : Bool) (i : ℕ) (v : List ℕ) (b : Body)
    → is_range_descriptor v ≡ false
    → turned (ask (profile_request blocks i (selected range_selector v))) b ≡ denied_turn i 12 b

-- "from not before to, or a clock not valid, code 13"
abbrev pub BadRange : Type 0
BadRange =
    (blocks : Bool) (i : ℕ) (v : List ℕ) (b : Body)
    → is_range_descriptor v ≡ true
    → good_range (from_clock v) (to_clock v) ≡ false
    → turned (ask (profile_request blocks i (selected range_selector v))) b ≡ denied_turn i 13 b

-- and no selector but these two: "range is 1, and 01's entry selection moves to 2"
abbrev pub OtherSelector : Type 0
OtherSelector =
    (blocks : Bool) (i k : ℕ) (v : List ℕ) (b : Body)
    → eqb k 1 ≡ false
    → eqb k 2 ≡ false
    → turned (ask (profile_request blocks i (selected k v))) b ≡ denied_turn i 12 b

-- nor any where selective access was not agreed, whatever its value is
abbrev pub NotAgreed : Type 0
NotAgreed =
    (blocks : Bool) (i k : ℕ) (v : List ℕ) (b : Body)
    → turned (ask (profile_asked false blocks i (selected k v))) b ≡ denied_turn i 12 b
