-- Demand 3 at this protocol is proved; and so are, at it, the statements of the model for the archive, for honesty and for blocks.
use Rattle.model.specs.Archive.{DueTicks, RowsStay, NumberStays, StaysSound, NumbersAllowed, RefusalsKeep}
use Rattle.model.specs.Honesty.{UnchosenProfile, UnchosenBlocks}
use Rattle.model.specs.Blocks.{AllButLastFull, JoinedAreTheData, EndsTransfers, ForgetsTransfers, LeavesTransfers, TransfersAreReads}
use Rattle.model.proofs.Noninterference.{demand3}
use Rattle.model.proofs.Honesty.{unchosen_profile, unchosen_blocks}
use Rattle.model.proofs.KeptRows.{due_ticks, rows_stay}
use Rattle.model.proofs.RecordNumber.{number_stays}
use Rattle.model.proofs.StaySound.{stays_sound}
use Rattle.model.proofs.AllowedNumbers.{numbers_allowed, refusals_keep}
use Rattle.model.proofs.Transfers.{transfers_are_reads, ends_transfers, forgets_transfers, leaves_transfers}
use Rattle.model.proofs.Joined.{all_but_last_full, joined_are_the_data}
use Rattle.meter.specs.declared.Meter.{Meter}
use Rattle.meter.specs.View.{view}
use Rattle.protocol.specs.Decide.{p2}
use Rattle.protocol.specs.Claim.{P2Demand3}
use Rattle.protocol.proofs.Lengths.{keeps_lengths}
use Rattle.protocol.proofs.Numbers.{known_numbers}
use Rattle.protocol.proofs.Lines.{keeps_lines}

pub p2_demand3 : P2Demand3
p2_demand3 = demand3 Meter view p2 keeps_lengths

pub p2_unchosen_profile : UnchosenProfile p2
p2_unchosen_profile = unchosen_profile p2 keeps_lengths

pub p2_unchosen_blocks : UnchosenBlocks p2
p2_unchosen_blocks = unchosen_blocks p2 keeps_lengths

pub p2_due_ticks : DueTicks p2
p2_due_ticks = due_ticks p2

pub p2_rows_stay : RowsStay p2
p2_rows_stay = rows_stay p2

pub p2_number_stays : NumberStays p2
p2_number_stays = number_stays p2

-- a sound meter stays sound, whatever is called
pub p2_stays_sound : StaysSound p2
p2_stays_sound = stays_sound p2 keeps_lines

pub p2_numbers_allowed : NumbersAllowed p2
p2_numbers_allowed = numbers_allowed p2 known_numbers

pub p2_refusals_keep : RefusalsKeep p2
p2_refusals_keep = refusals_keep p2 known_numbers

-- Answers in blocks.

pub p2_all_but_last_full : AllButLastFull p2
p2_all_but_last_full = all_but_last_full p2

pub p2_joined_are_the_data : JoinedAreTheData p2
p2_joined_are_the_data = joined_are_the_data p2

pub p2_ends_transfers : EndsTransfers p2
p2_ends_transfers = ends_transfers p2

pub p2_forgets_transfers : ForgetsTransfers p2
p2_forgets_transfers = forgets_transfers p2

pub p2_transfers_are_reads : TransfersAreReads p2
p2_transfers_are_reads = transfers_are_reads p2

pub p2_leaves_transfers : LeavesTransfers p2
p2_leaves_transfers = leaves_transfers p2
