-- Every meter that the struct of the code can hold can be written: its arrays have their lengths, and its numbers fit.
use mathlib.Core.Path.{◌≡◌}
use mathlib.Core.Bool.{Bool, true, ◌&&◌, and-eq-true_iff}
use mathlib.Core.List.{List, [], ◌∷◌}
use Prim.Native.Nat.{ℕ, suc}
use lib.Dec.{eqb, ltb}
use lib.ListN.{length}
use borrow.Author.Tests.{eqb-true, ltb-true}
use Rattle.model.specs.Names.{every}
use Rattle.model.specs.declared.Name.{Name}
use Rattle.model.specs.declared.Register.{Register}
use Rattle.store.specs.declared.Row.{Row}
use Rattle.picks.specs.declared.Transfer.{Transfer}
use Rattle.line.specs.declared.Party.{Party}
use Rattle.line.specs.declared.LineState.{LineState}
use Rattle.body.specs.declared.BodyState.{BodyState}
use Rattle.meter.specs.declared.Meter.{Meter}
use Rattle.meter.specs.Unsound.{array, bytes, u32, usize, holds_register, holds_row, holds_transfer, holds_body, holds_party, holds_line, holdable}
use Rattle.image.specs.Codec.{Codec, fields, flag, phase, progress, picking_kind, Each, none, more, many, number}
use Rattle.image.specs.Layout.{party_part, counters_part, cipher_party_part, line_part, name_part, clock_part, register_part, registers_part, columns_part, row_part, rows_part, picking_part, transfer_part, body_part, meter_part}

both : (a b : Bool) → (a && b) ≡ true → (a ≡ true) × (b ≡ true)
both a b h = (and-eq-true_iff a b).0 h

long : (n : ℕ) (xs : List ℕ) → bytes n xs ≡ true → length xs ≡ n
long n xs h = eqb-true (length xs) n (both (eqb (length xs) n) (every (λ i b. ltb b 0x100) 0 xs) h).0

each : {A : Type 0} {P : A → Type 0} (f : A → Bool) → ((x : A) → f x ≡ true → P x) → (k : ℕ) (xs : List A) → every (λ i x. f x) k xs ≡ true → Each P xs
each f g k [] h = none
each f g k (x ∷ xs) h = let p = both (f x) (every (λ i x. f x) (suc k) xs) h in more (g x p.0) (each f g (suc k) xs p.1)

items : {A : Type 0} (c : Codec A) (n : ℕ) (f : A → Bool) → ((x : A) → f x ≡ true → c.Holds x) → (xs : List A) → array n f xs ≡ true → (many n c).Holds xs
items c n f g xs h =
    let p = both (eqb (length xs) n) (every (λ i x. f x) 0 xs) h in
    (eqb-true (length xs) n p.0, each f g 0 xs p.1)

name_holds : (x : Name) → bytes 6 x.bytes ≡ true → name_part.Holds x
unfolding name_part fields
name_holds x h = long 6 x.bytes h

register_holds : (x : Register) → holds_register x ≡ true → register_part.Holds x
unfolding register_part flag fields
register_holds x h =
    let a = both (bytes 6 x.name.bytes) (ltb x.scaler 0x100 && (ltb x.unit 0x100 && u32 x.value)) h in
    let b = both (ltb x.scaler 0x100) (ltb x.unit 0x100 && u32 x.value) a.1 in
    let c = both (ltb x.unit 0x100) (u32 x.value) b.1 in
    (name_holds x.name a.0, (tt, (tt, (tt, ltb-true x.value 0x100000000 c.1))))

row_holds : (x : Row) → holds_row x ≡ true → row_part.Holds x
unfolding row_part clock_part fields
row_holds x h =
    let a = both (ltb x.number 0x10000) (bytes 12 x.clock.bytes && (usize x.count && array 16 u32 x.cells)) h in
    let b = both (bytes 12 x.clock.bytes) (usize x.count && array 16 u32 x.cells) a.1 in
    let c = both (usize x.count) (array 16 u32 x.cells) b.1 in
    (ltb-true x.number 0x10000 a.0, (long 12 x.clock.bytes b.0, (ltb-true x.count 0x10000000000000000 c.0, items (number 4) 16 u32 (λ n. ltb-true n 0x100000000) x.cells c.1)))

transfer_holds : (x : Transfer) → holds_transfer x ≡ true → transfer_part.Holds x
unfolding transfer_part picking_part clock_part progress picking_kind fields
transfer_holds x h =
    let y = x.picking in
    let c = u32 y.to && u32 x.block in
    let b = u32 y.from && c in
    let a = bytes 12 y.until.bytes && b in
    let p = both (bytes 12 y.after.bytes) a h in
    let q = both (bytes 12 y.until.bytes) b p.1 in
    let r = both (u32 y.from) c q.1 in
    let s = both (u32 y.to) (u32 x.block) r.1 in
    (tt, ((tt, (long 12 y.after.bytes p.0, (long 12 y.until.bytes q.0, (ltb-true y.from 0x100000000 r.0, ltb-true y.to 0x100000000 s.0)))), ltb-true x.block 0x100000000 s.1))

body_holds : (x : BodyState) → holds_body x ≡ true → body_part.Holds x
unfolding body_part clock_part registers_part columns_part rows_part fields
body_holds x h =
    let j = array 15 holds_row x.rows.items && holds_transfer x.transfer in
    let i = usize x.rows.count && j in
    let g = array 16 (λ n. bytes 6 n.bytes) x.columns.items && i in
    let f = usize x.columns.count && g in
    let e = array 16 holds_register x.registers.items && f in
    let d = usize x.registers.count && e in
    let c = ltb x.number 0x10000 && d in
    let b = u32 x.period && c in
    let a = bytes 12 x.clock.bytes && b in
    let p = both (bytes 16 x.device) a h in
    let q = both (bytes 12 x.clock.bytes) b p.1 in
    let r = both (u32 x.period) c q.1 in
    let s = both (ltb x.number 0x10000) d r.1 in
    let t = both (usize x.registers.count) e s.1 in
    let u = both (array 16 holds_register x.registers.items) f t.1 in
    let v = both (usize x.columns.count) g u.1 in
    let w = both (array 16 (λ n. bytes 6 n.bytes) x.columns.items) i v.1 in
    let y = both (usize x.rows.count) j w.1 in
    let z = both (array 15 holds_row x.rows.items) (holds_transfer x.transfer) y.1 in
    (long 16 x.device p.0, (long 12 x.clock.bytes q.0, (ltb-true x.period 0x100000000 r.0, (ltb-true x.number 0x10000 s.0, ((ltb-true x.registers.count 0x10000000000000000 t.0, items register_part 16 holds_register register_holds x.registers.items u.0), ((ltb-true x.columns.count 0x10000000000000000 v.0, items name_part 16 (λ n. bytes 6 n.bytes) name_holds x.columns.items w.0), ((ltb-true x.rows.count 0x10000000000000000 y.0, items row_part 15 holds_row row_holds x.rows.items z.0), transfer_holds x.transfer z.1)))))))

party_holds : (x : Party) → holds_party x ≡ true → party_part.Holds x
unfolding party_part flag phase fields
party_holds x h =
    let p = both (bytes 8 x.title) (bytes 3 x.agreed) h in
    (long 8 x.title p.0, (tt, (tt, long 3 x.agreed p.1)))

line_holds : (x : LineState) → holds_line x ≡ true → line_part.Holds x
unfolding line_part cipher_party_part counters_part flag fields
line_holds x h =
    let y = x.han in
    let f = u32 y.counters.accepted && u32 y.counters.sent in
    let e = bytes 8 y.meter && f in
    let d = bytes 8 y.client && e in
    let c = bytes 16 y.key && d in
    let b = holds_party y.party && c in
    let a = holds_party x.verification && b in
    let p = both (bytes 8 x.title) a h in
    let q = both (holds_party x.verification) b p.1 in
    let r = both (holds_party y.party) c q.1 in
    let s = both (bytes 16 y.key) d r.1 in
    let t = both (bytes 8 y.client) e s.1 in
    let u = both (bytes 8 y.meter) f t.1 in
    let v = both (u32 y.counters.accepted) (u32 y.counters.sent) u.1 in
    (long 8 x.title p.0, (party_holds x.verification q.0, ((party_holds y.party r.0, (long 16 y.key s.0, (long 8 y.client t.0, (long 8 y.meter u.0, (ltb-true y.counters.accepted 0x100000000 v.0, ltb-true y.counters.sent 0x100000000 v.1))))), tt)))

pub meter_holds : (m : Meter) → holdable m ≡ true → meter_part.Holds m
unfolding meter_part fields
meter_holds m h = let p = both (holds_line m.line) (holds_body m.body) h in (line_holds m.line p.0, body_holds m.body p.1)
