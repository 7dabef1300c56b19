-- The layout of a meter: each struct's fields in their order, arrays in full whatever a count says. `Places` is to be read before
-- it: it has the place of each field, and it is proved of this layout. A definition here has three parts: the fields of a struct as
-- nested pairs, the struct with such fields, and, in the same order, the part that each field is written as.
use Rattle.std.specs.Prelude.{ℕ}
use Rattle.model.specs.declared.Name.{Name}
use Rattle.model.specs.declared.Clock.{Clock}
use Rattle.model.specs.declared.Register.{Register}
use Rattle.model.specs.declared.Counters.{Counters}
use Rattle.store.specs.declared.Held.{Held}
use Rattle.store.specs.Held.{Registers, Columns, Rows}
use Rattle.store.specs.declared.Row.{Row}
use Rattle.picks.specs.declared.Picking.{Picking}
use Rattle.picks.specs.declared.Transfer.{Transfer}
use Rattle.line.specs.declared.Party.{Party}
use Rattle.line.specs.declared.CipherParty.{CipherParty}
use Rattle.line.specs.declared.LineState.{LineState}
use Rattle.body.specs.declared.BodyState.{BodyState}
use Rattle.meter.specs.declared.Meter.{Meter}
use Rattle.image.specs.Codec.{Codec, block, byte, number, flag, phase, progress, picking_kind, ◌&◌, fields, many}

-- The line.

-- title, up, phase, agreed
unfoldable pub party_part : Codec Party
party_part =
    fields (λ p. (p.title, (p.up, (p.phase, p.agreed))))
    (λ (title, (up, (kind, agreed))). record { title = title; up = up; phase = kind; agreed = agreed })
    (block 8 & flag & phase & block 3)

-- accepted, sent
unfoldable pub counters_part : Codec Counters
counters_part =
    fields (λ c. (c.accepted, c.sent))
    (λ (accepted, sent). record { accepted = accepted; sent = sent })
    (number 4 & number 4)

-- party, key, client, meter, counters
unfoldable pub cipher_party_part : Codec CipherParty
cipher_party_part =
    fields (λ p. (p.party, (p.key, (p.client, (p.meter, p.counters)))))
    (λ (party, (key, (client, (meter, counters)))). record { party = party; key = key; client = client; meter = meter; counters = counters })
    (party_part & block 16 & block 8 & block 8 & counters_part)

-- title, verification, han, p5
unfoldable pub line_part : Codec LineState
line_part =
    fields (λ l. (l.title, (l.verification, (l.han, l.p5))))
    (λ (title, (verification, (han, p5))). record { title = title; verification = verification; han = han; p5 = p5 })
    (block 8 & party_part & cipher_party_part & flag)

-- The body.

-- count, items
abbrev pub held_part : {A : Type 0} → (n : ℕ) → Codec A → Codec (Held A n)
held_part n part =
    fields (λ r. (r.count, r.items))
    (λ (count, items). record { count = count; items = items })
    (number 8 & many n part)

-- bytes
unfoldable pub name_part : Codec Name
name_part = fields (λ n. n.bytes) (λ bytes. record { bytes = bytes }) (block 6)

-- bytes
unfoldable pub clock_part : Codec Clock
clock_part = fields (λ c. c.bytes) (λ bytes. record { bytes = bytes }) (block 12)

-- name, readable, scaler, unit, value
unfoldable pub register_part : Codec Register
register_part =
    fields (λ r. (r.name, (r.readable, (r.scaler, (r.unit, r.value)))))
    (λ (name, (readable, (scaler, (unit, value)))). record { name = name; readable = readable; scaler = scaler; unit = unit; value = value })
    (name_part & flag & byte & byte & number 4)

unfoldable pub registers_part : Codec Registers
registers_part = held_part 16 register_part

unfoldable pub columns_part : Codec Columns
columns_part = held_part 16 name_part

-- number, clock, count, cells
unfoldable pub row_part : Codec Row
row_part =
    fields (λ r. (r.number, (r.clock, (r.count, r.cells))))
    (λ (record_number, (clock, (count, cells))). record { number = record_number; clock = clock; count = count; cells = cells })
    (number 2 & clock_part & number 8 & many 16 (number 4))

unfoldable pub rows_part : Codec Rows
rows_part = held_part 15 row_part

-- kind, after, until, from, to
unfoldable pub picking_part : Codec Picking
picking_part =
    fields (λ p. (p.kind, (p.after, (p.until, (p.from, p.to)))))
    (λ (kind, (after, (until, (from, to)))). record { kind = kind; after = after; until = until; from = from; to = to })
    (picking_kind & clock_part & clock_part & number 4 & number 4)

-- progress, picking, block
unfoldable pub transfer_part : Codec Transfer
transfer_part =
    fields (λ t. (t.progress, (t.picking, t.block)))
    (λ (state, (picking, last)). record { progress = state; picking = picking; block = last })
    (progress & picking_part & number 4)

-- device, clock, period, number, registers, columns, rows, transfer
unfoldable pub body_part : Codec BodyState
body_part =
    fields (λ b. (b.device, (b.clock, (b.period, (b.number, (b.registers, (b.columns, (b.rows, b.transfer))))))))
    (λ (device, (clock, (period, (record_number, (registers, (columns, (rows, transfer))))))).
    record {
      device = device;
      clock = clock;
      period = period;
      number = record_number;
      registers = registers;
      columns = columns;
      rows = rows;
      transfer = transfer;
    })
    (block 16 & clock_part & number 4 & number 2 & registers_part & columns_part & rows_part & transfer_part)

-- line, body
unfoldable pub meter_part : Codec Meter
meter_part = fields (λ m. (m.line, m.body)) (λ (line, body). record { line = line; body = body }) (line_part & body_part)
