-- Valid clocks have the order of their bytes: the statements OrderOfBytes and RangeOfBytes of specs/ByDate, proved. The first byte in which two
-- valid clocks differ decides which of them is earlier, whichever byte it is.
use mathlib.Core.Path.{◌≡◌, refl, sym}
use mathlib.Core.Bool.{Bool, true, false, cond, ◌&&◌}
use mathlib.Core.List.{List, [], ◌∷◌}
use Prim.Native.Nat.{ℕ, zero, suc, ◌+◌, ◌-◌, ◌*◌, ◌<◌, ◌≤◌}
use native.Mathlib.Numerals.{sub-one}
use native.Mathlib.Omega.{arith}
use lib.Dec.{eqb, ltb, leb}
use lib.ListN.{length, get_or}
use borrow.Author.Tests.{eqb-true, eqb-false, leb-true, ltb-true, ltb-false, lt-ltb, le-ltb}
use Rattle.model.specs.declared.Clock.{Clock}
use Rattle.model.specs.Clocks.{clock_byte, year, month, day, hour, minute, second, between, days_in, real_date, real_time, fixed_bytes, valid_clock, days_of_months, days_of_years, day_number, moment, later, in_range}
use Rattle.model.specs.ByDate.{bytes_after, OrderOfBytes, RangeOfBytes}
use Rattle.model.proofs.ListLaws.{both, FirstOf, at_first}
use Rattle.model.proofs.MomentLaws.{more_months, more_years}

-- Dates.

-- the days before a month and its own
with_month : (y m : ℕ) → 1 ≤ m → days_of_months y (m - 1) + days_in y m ≡ days_of_months y m
unfolding days_of_months
with_month y zero h = absurd (omega arith)
with_month y (suc k) h = rw sub-one

-- the days before a year and its own
with_year : (y : ℕ) → 2000 ≤ y → days_of_years (y - 2000) + days_of_months y 12 ≡ days_of_years (suc (y - 2000))
unfolding days_of_years
with_year y h = let e : 2000 + (y - 2000) ≡ y = omega arith in rw e

-- a date that is real, of a year from 2000 on
record Date (y m d : ℕ) : Type 0 where
  first_year : 2000 ≤ y
  first_month : 1 ≤ m
  last_month : m ≤ 12
  first_day : 1 ≤ d
  last_day : d ≤ days_in y m

-- the days before it
abbrev days_to : (y m d : ℕ) → ℕ
days_to y m d = days_of_years (y - 2000) + days_of_months y (m - 1) + (d - 1)

-- an earlier date has fewer days before it
module _ {y m d y' m' d' : ℕ} (a : Date y m d) (b : Date y' m' d') where
  by_year : y < y' → days_to y m d < days_to y' m' d'
  by_year h = omega (arith, with_month y m a.first_month, more_months y m 12 a.last_month, with_year y a.first_year, more_years (suc (y - 2000)) (y' - 2000) (omega arith))

  by_month : y ≡ y' → m < m' → days_to y m d < days_to y' m' d'
  by_month e h = rw (← e) (omega (arith, with_month y m a.first_month, more_months y m (m' - 1) (omega arith)))

  by_day : y ≡ y' → m ≡ m' → d < d' → days_to y m d < days_to y' m' d'
  by_day e f h = rw (← e, ← f) (omega arith)

-- Valid clocks.

-- what a valid clock says of its bytes
record Valid (t : Clock) : Type 0 where
  date : Date (year t) (month t) (day t)
  hours : hour t ≤ 23
  minutes : minute t ≤ 59
  seconds : second t ≤ 59
  weekday : clock_byte 4 t ≡ 0xFF
  hundredths : clock_byte 8 t ≡ 0xFF
  deviation : clock_byte 9 t ≡ 0x80
  deviation_low : clock_byte 10 t ≡ 0x00
  status : clock_byte 11 t ≡ 0x00

-- tests joined by "and", of which each holds
abbrev joined : Bool → List Bool → Bool
joined b [] = b
joined b (c ∷ cs) = joined (b && c) cs

abbrev Each : List Bool → Type 0
Each [] = Unit {0}
Each (b ∷ bs) = (b ≡ true) × Each bs

each : (b : Bool) (cs : List Bool) → joined b cs ≡ true → Each (b ∷ cs)
each b [] e = (e, tt)
each b (c ∷ cs) e = let h = each (b && c) cs e in let k = both b c h.0 in (k.0, (k.1, h.1))

within : (low high n : ℕ) → between low high n ≡ true → (low ≤ n) × (n ≤ high)
within low high n e = let h = both (leb low n) (leb n high) e in (leb-true low n h.0, leb-true n high h.1)

valid : (t : Clock) → valid_clock t ≡ true → Valid t
unfolding valid_clock real_date real_time fixed_bytes
valid t e =
    let last = days_in (year t) (month t) in
    let parts = each (real_date t) (real_time t ∷ fixed_bytes t ∷ []) e in
    let dates = each (between 2000 2099 (year t)) (between 1 12 (month t) ∷ between 1 last (day t) ∷ []) parts.0 in
    let times = each (leb (hour t) 23) (leb (minute t) 59 ∷ leb (second t) 59 ∷ []) parts.1.0 in
    let fixed = each (eqb (clock_byte 4 t) 0xFF) (eqb (clock_byte 8 t) 0xFF ∷ eqb (clock_byte 9 t) 0x80 ∷ eqb (clock_byte 10 t) 0 ∷ eqb (clock_byte 11 t) 0 ∷ []) parts.1.1.0 in
    omega (arith, leb-true, eqb-true, within 2000 2099 (year t) dates.0, within 1 12 (month t) dates.1.0, within 1 last (day t) dates.1.1.0)

-- The first difference.

-- lists that agree up to a place
abbrev Agree : List ℕ → List ℕ → ℕ → Type 0
Agree xs ys = FirstOf (λ j. get_or xs j 0 ≡ get_or ys j 0)

-- a fact, and those of the places after it
infixr 10 ◌&◌
◌&◌ : {A B : Type 0} → A → B → A × B
x & y = (x, y)

-- where two clocks agree up to a place, the lesser byte there is that of the earlier clock
abbrev Decides : Clock → Clock → ℕ → Type 0
Decides a b i = Agree a.bytes b.bytes i → clock_byte i a < clock_byte i b → moment a < moment b

same_moment : (a b : Clock) → Agree a.bytes b.bytes 12 → moment a ≡ moment b
unfolding FirstOf moment day_number
same_moment a b s = cc

-- the seconds of the day
abbrev time_of : Clock → ℕ
time_of t = (hour t * 60 + minute t) * 60 + second t

module _ (a b : Clock) (u : Valid a) (v : Valid b) (small : clock_byte 1 a < 256) where
  by_date : day_number a < day_number b → moment a < moment b
  unfolding moment
  by_date h = omega arith

  by_time : day_number a ≡ day_number b → time_of a < time_of b → moment a < moment b
  unfolding moment
  by_time e h = omega arith

  -- the year's two bytes, month, day; day of week, in which they do not differ; hour, minute, second; the last four, as day of week
  each_decides : FirstOf (Decides a b) 12
  unfolding FirstOf day_number
  each_decides =
      (λ s h. by_date (by_year u.date v.date (omega arith)))
      & (λ s h. by_date (by_year u.date v.date (omega arith)))
      & (λ s h. by_date (by_month u.date v.date (omega arith) h))
      & (λ s h. by_date (by_day u.date v.date (omega arith) (omega arith) h))
      & (λ s h. omega arith)
      & (λ s h. by_time (cc) (omega arith))
      & (λ s h. by_time (cc) (omega arith))
      & (λ s h. by_time (cc) (omega arith))
      & omega arith

  decides : (i : ℕ) → i < 12 → Decides a b i
  decides = at_first (Decides a b) 12 each_decides

-- where the first difference of two lists decides which of two numbers is less, the numbers have the order of the lists
order_of_lists : (xs ys : List ℕ) (k m n : ℕ)
    → length xs ≡ k
    → length ys ≡ k
    → ((i : ℕ) → i < k → Agree xs ys i → get_or xs i 0 < get_or ys i 0 → m < n)
    → ((i : ℕ) → i < k → Agree ys xs i → get_or ys i 0 < get_or xs i 0 → n < m)
    → (Agree xs ys k → m ≡ n)
    → ltb n m ≡ bytes_after xs ys
unfolding FirstOf bytes_after
order_of_lists [] [] zero m n p q less more same = le-ltb n m (omega (arith, same tt))
order_of_lists [] [] (suc k) m n p q less more same = absurd (omega arith)
order_of_lists [] (y ∷ ys) k m n p q less more same = absurd (omega arith)
order_of_lists (x ∷ xs) [] k m n p q less more same = absurd (omega arith)
order_of_lists (x ∷ xs) (y ∷ ys) zero m n p q less more same = absurd (omega arith)
order_of_lists (x ∷ xs) (y ∷ ys) (suc k) m n p q less more same =
    go (eqb x y) refl
    (λ e. order_of_lists xs ys k m n (omega arith) (omega arith) (λ i l s. less (suc i) (omega arith) (e, s)) (λ i l s. more (suc i) (omega arith) (sym e, s)) (λ s. same (e, s)))
  where
    differ : (b : Bool) → ltb y x ≡ b → (x ≡ y → ⊥) → ltb n m ≡ b
    differ true e d = lt-ltb n m (more 0 (omega arith) tt (ltb-true y x e))
    differ false e d = le-ltb n m (omega (arith, less 0 (omega arith) tt (omega (arith, ltb-false y x e))))

    go : (b : Bool) → eqb x y ≡ b → (x ≡ y → ltb n m ≡ bytes_after xs ys) → ltb n m ≡ cond b (bytes_after xs ys) (ltb y x)
    go true e rest = rest (eqb-true x y e)
    go false e rest = differ (ltb y x) refl (eqb-false x y e)

-- of valid clocks the later one is the one whose bytes come after
pub order_of_bytes : OrderOfBytes
unfolding later
order_of_bytes a b s t p q =
    let u = valid a p in
    let v = valid b q in
    order_of_lists a.bytes b.bytes 12 (moment a) (moment b) s.long t.long (decides a b u v (s.small 1)) (decides b a v u (t.small 1)) (same_moment a b)

pub range_of_bytes : RangeOfBytes
unfolding in_range
range_of_bytes from to t f g h p q r = rw (order_of_bytes t from h f r p, order_of_bytes t to h g r q)
