-- Each part of the layout is lawful: a line for each struct, which follows its layout.
use mathlib.Core.Path.{refl}
use Rattle.image.specs.Layout.{party_part, counters_part, cipher_party_part, line_part, name_part, clock_part, register_part, registers_part, columns_part, row_part, rows_part, picking_part, transfer_part, body_part, meter_part}
use Rattle.image.proofs.CodecLaws.{Lawful, block_lawful, byte_lawful, number_lawful, flag_lawful, phase_lawful, progress_lawful, kind_lawful, both_lawful, fields_lawful, many_lawful}

pub party_lawful : Lawful party_part
unfolding party_part
party_lawful = fields_lawful _ _ (both_lawful (block_lawful 8) (both_lawful flag_lawful (both_lawful phase_lawful (block_lawful 3)))) (λ x. refl) (λ y. refl)

pub counters_lawful : Lawful counters_part
unfolding counters_part
counters_lawful = fields_lawful _ _ (both_lawful (number_lawful 4) (number_lawful 4)) (λ x. refl) (λ y. refl)

pub cipher_party_lawful : Lawful cipher_party_part
unfolding cipher_party_part
cipher_party_lawful = fields_lawful _ _ (both_lawful party_lawful (both_lawful (block_lawful 16) (both_lawful (block_lawful 8) (both_lawful (block_lawful 8) counters_lawful)))) (λ x. refl) (λ y. refl)

pub line_lawful : Lawful line_part
unfolding line_part
line_lawful = fields_lawful _ _ (both_lawful (block_lawful 8) (both_lawful party_lawful (both_lawful cipher_party_lawful flag_lawful))) (λ x. refl) (λ y. refl)

pub name_lawful : Lawful name_part
unfolding name_part
name_lawful = fields_lawful _ _ (block_lawful 6) (λ x. refl) (λ y. refl)

pub clock_lawful : Lawful clock_part
unfolding clock_part
clock_lawful = fields_lawful _ _ (block_lawful 12) (λ x. refl) (λ y. refl)

pub register_lawful : Lawful register_part
unfolding register_part
register_lawful = fields_lawful _ _ (both_lawful name_lawful (both_lawful flag_lawful (both_lawful byte_lawful (both_lawful byte_lawful (number_lawful 4))))) (λ x. refl) (λ y. refl)

pub registers_lawful : Lawful registers_part
unfolding registers_part
registers_lawful = fields_lawful _ _ (both_lawful (number_lawful 8) (many_lawful register_lawful 16)) (λ x. refl) (λ y. refl)

pub columns_lawful : Lawful columns_part
unfolding columns_part
columns_lawful = fields_lawful _ _ (both_lawful (number_lawful 8) (many_lawful name_lawful 16)) (λ x. refl) (λ y. refl)

pub row_lawful : Lawful row_part
unfolding row_part
row_lawful = fields_lawful _ _ (both_lawful (number_lawful 2) (both_lawful clock_lawful (both_lawful (number_lawful 8) (many_lawful (number_lawful 4) 16)))) (λ x. refl) (λ y. refl)

pub rows_lawful : Lawful rows_part
unfolding rows_part
rows_lawful = fields_lawful _ _ (both_lawful (number_lawful 8) (many_lawful row_lawful 15)) (λ x. refl) (λ y. refl)

pub picking_lawful : Lawful picking_part
unfolding picking_part
picking_lawful = fields_lawful _ _ (both_lawful kind_lawful (both_lawful clock_lawful (both_lawful clock_lawful (both_lawful (number_lawful 4) (number_lawful 4))))) (λ x. refl) (λ y. refl)

pub transfer_lawful : Lawful transfer_part
unfolding transfer_part
transfer_lawful = fields_lawful _ _ (both_lawful progress_lawful (both_lawful picking_lawful (number_lawful 4))) (λ x. refl) (λ y. refl)

pub body_lawful : Lawful body_part
unfolding body_part
body_lawful = fields_lawful _ _ (both_lawful (block_lawful 16) (both_lawful clock_lawful (both_lawful (number_lawful 4) (both_lawful (number_lawful 2) (both_lawful registers_lawful (both_lawful columns_lawful (both_lawful rows_lawful transfer_lawful))))))) (λ x. refl) (λ y. refl)

pub meter_lawful : Lawful meter_part
unfolding meter_part
meter_lawful = fields_lawful _ _ (both_lawful line_lawful body_lawful) (λ x. refl) (λ y. refl)
