-- "A state is sound when ..": the tests of document 01, one list of them in its order, then that of document 02, Q-4; and the state
-- that passes all.
use Rattle.std.specs.Prelude.{Bool, true, false, ◌&&◌, ◌||◌, List, [], ◌∷◌, map, ℕ, ◌*◌, length, eqb, ltb, leb}
use Rattle.model.specs.declared.Name.{Name}
use Rattle.model.specs.declared.Client.{Client}
use Rattle.model.specs.declared.Client.TheVariants.{Verification, Ciphering}
use Rattle.model.specs.declared.CipherClient.TheVariants.{Han}
use Rattle.model.specs.declared.Register.{Register}
use Rattle.model.specs.declared.SoundnessTest.{SoundnessTest}
use Rattle.model.specs.declared.SoundnessTest.TheVariants.{RegisterList, ColumnList, PeriodPermitted, ClockValid, RowClocksValid, RowCount, RowCells, AssociationKind, AssociationOnLink, AgreedServices, TransferPossible}
use Rattle.model.specs.Limits.{longest_sent, data_room, block_room, max_rows, max_registers, max_columns}
use Rattle.model.specs.Names.{every, distinct, all_among, none_among, name_of}
use Rattle.model.specs.Clocks.{valid_clock}
use Rattle.model.specs.Periods.{permitted_period}
use Rattle.model.specs.Services.{offered, within, get_service, selective_access, block_transfer}
use Rattle.model.specs.Selecting.{Picking, whole, numbered, dated, good_range}
use Rattle.model.specs.State.{Association, none, pending, associated, Peer, Line, Long, profile, Transfer, idle, running, ended, Store, Model}
use Rattle.model.specs.Objects.{own_names, long_data}

-- What the owner's calls accept.

-- registers: "16 at most, names distinct, and none that the meter's own objects bear"
unfoldable pub accepted_registers : List Register → Bool
accepted_registers rs =
    leb (length rs) max_registers && distinct (map name_of rs) && none_among own_names (map name_of rs)

-- columns: "given registers, none twice, 16 at most"
unfoldable pub accepted_columns : List Register → List Name → Bool
accepted_columns rs cs = all_among (map name_of rs) cs && distinct cs && leb (length cs) max_columns

-- Associations.

-- the kinds that a client may have: V none or associated; H none, pending or associated
abbrev pub known_kind : Client → Association → Bool
known_kind Verification (pending a k c s) = false
known_kind Verification none = true
known_kind Verification (associated a k) = true
known_kind (Ciphering c) a = true

abbrev pub is_none : Association → Bool
is_none none = true
is_none (pending a k c s) = false
is_none (associated a k) = false

-- no association stands on a link that is down
abbrev pub on_link : Peer → Bool
on_link p = p.up || is_none p.association

-- the agreed services lie within those offered; an association that does not stand has none
abbrev pub agreed_within : List ℕ → Association → Bool
agreed_within os none = true
agreed_within os (pending a k c s) = within a os
agreed_within os (associated a k) = within a os

-- the tests on the line, of "V" and of "H"

abbrev pub kinds_known : Line → Bool
kinds_known l = known_kind Verification l.verification.association && known_kind (Ciphering Han) l.han.peer.association

abbrev pub links_stand : Line → Bool
links_stand l = on_link l.verification && on_link l.han.peer

abbrev pub services_offered : Line → Bool
services_offered l =
    agreed_within (offered Verification) l.verification.association
    && agreed_within (offered (Ciphering Han)) l.han.peer.association

abbrev pub line_sound : Line → Bool
line_sound l = kinds_known l && links_stand l && services_offered l

-- A transfer "that no calls could have left, with H's association and the rows as they stand".

-- the services that are in force: an association that is pending has none yet
abbrev pub in_force : Association → List ℕ
in_force none = []
in_force (pending a k c s) = []
in_force (associated a k) = a

-- H is associated, with this service agreed
abbrev pub has_agreed : List ℕ → Line → Bool
has_agreed s l = within s (in_force l.han.peer.association)

-- H can ask for a read in blocks
abbrev pub takes_blocks : Line → Bool
takes_blocks l = has_agreed get_service l && has_agreed block_transfer l

-- a read by a selector needs selective access besides
abbrev pub could_pick : Picking → Line → Bool
could_pick whole l = true
could_pick (numbered from to) l = has_agreed selective_access l
could_pick (dated from to) l = has_agreed selective_access l

abbrev pub could_ask : Long → Line → Bool
could_ask (profile p) l = could_pick p l

-- "with H's association": it could have begun the transfer
unfoldable pub allowed : Line → Transfer → Bool
allowed l idle = true
allowed l (running x k) = takes_blocks l && could_ask x l
allowed l ended = takes_blocks l

-- the read would not be denied, whatever the rows; where it gives none, its data are too short to have begun a transfer
abbrev pub good_picking : Picking → Bool
good_picking whole = true
good_picking (numbered from to) = true
good_picking (dated from to) = good_range from to

abbrev pub could_grant : Long → Bool
could_grant (profile p) = good_picking p

-- data of n bytes are too long for one frame, and more of them come after block k
abbrev pub more_comes : (n k : ℕ) → Bool
more_comes n k = ltb (data_room longest_sent) n && leb 1 k && ltb (block_room longest_sent * k) n

-- "and the rows": the read has data in blocks, and more of them come after the one that went out last
unfoldable pub rows_allow : Store → Transfer → Bool
rows_allow s idle = true
rows_allow s (running x k) = could_grant x && more_comes (length (long_data x s)) k
rows_allow s ended = true

-- The tests.

-- the state passes the test
abbrev pub passes : SoundnessTest → Model → Bool
passes RegisterList m = accepted_registers m.body.store.registers
passes ColumnList m = accepted_columns m.body.store.registers m.body.store.columns
passes PeriodPermitted m = permitted_period m.body.period
passes ClockValid m = valid_clock m.body.clock
passes RowClocksValid m = every (λ i r. valid_clock r.clock) 0 m.body.store.rows
passes RowCount m = leb (length m.body.store.rows) max_rows
passes RowCells m = every (λ i r. eqb (length r.cells) (length m.body.store.columns)) 0 m.body.store.rows
passes AssociationKind m = kinds_known m.line
passes AssociationOnLink m = links_stand m.line
passes AgreedServices m = services_offered m.line
passes TransferPossible m = allowed m.line m.body.transfer && rows_allow m.body.store m.body.transfer

-- in the order of document 01, then that of document 02
abbrev pub soundness_tests : List SoundnessTest
soundness_tests =
    RegisterList
    ∷ ColumnList
    ∷ PeriodPermitted
    ∷ ClockValid
    ∷ RowClocksValid
    ∷ RowCount
    ∷ RowCells
    ∷ AssociationKind
    ∷ AssociationOnLink
    ∷ AgreedServices
    ∷ TransferPossible
    ∷ []

-- "sound"
unfoldable pub sound : Model → Bool
sound m = every (λ i t. passes t m) 0 soundness_tests
