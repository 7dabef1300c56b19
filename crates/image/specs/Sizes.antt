-- How many bytes each part takes: worked out from the layout, once.
use Rattle.std.specs.Prelude.{◌≡◌, refl}
use Rattle.image.specs.Codec.{fields, flag, phase, progress, picking_kind}
use Rattle.image.specs.Layout.{party_part, counters_part, cipher_party_part, line_part, name_part, clock_part, register_part, registers_part, columns_part, row_part, rows_part, picking_part, transfer_part, body_part, meter_part}
use Rattle.image.specs.Image.{image_size}

pub record Sizes : Type 0 where
  pub flag_size : flag.size ≡ 1
  pub phase_size : phase.size ≡ 1
  pub progress_size : progress.size ≡ 1
  pub kind_size : picking_kind.size ≡ 1
  pub party_size : party_part.size ≡ 13
  pub counters_size : counters_part.size ≡ 8
  pub cipher_party_size : cipher_party_part.size ≡ 53
  pub line_size : line_part.size ≡ 75
  pub name_size : name_part.size ≡ 6
  pub clock_size : clock_part.size ≡ 12
  pub register_size : register_part.size ≡ 13
  pub registers_size : registers_part.size ≡ 216
  pub columns_size : columns_part.size ≡ 104
  pub row_size : row_part.size ≡ 86
  pub rows_size : rows_part.size ≡ 1298
  pub picking_size : picking_part.size ≡ 33
  pub transfer_size : transfer_part.size ≡ 38
  pub body_size : body_part.size ≡ 1690
  pub meter_size : meter_part.size ≡ 1765
  pub image_size_lem : image_size ≡ 1766

pub sizes : Sizes
unfolding fields flag phase progress picking_kind party_part counters_part cipher_party_part line_part name_part clock_part register_part registers_part columns_part row_part rows_part picking_part transfer_part body_part meter_part image_size
sizes =
    record {
      flag_size = refl;
      phase_size = refl;
      progress_size = refl;
      kind_size = refl;
      party_size = refl;
      counters_size = refl;
      cipher_party_size = refl;
      line_size = refl;
      name_size = refl;
      clock_size = refl;
      register_size = refl;
      registers_size = refl;
      columns_size = refl;
      row_size = refl;
      rows_size = refl;
      picking_size = refl;
      transfer_size = refl;
      body_size = refl;
      meter_size = refl;
      image_size_lem = refl;
    }
