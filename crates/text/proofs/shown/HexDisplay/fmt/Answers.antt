-- Each turn writes the two digits of its byte.
use Rattle.std.proofs.Common.{rules, true, ◌/◌, ◌%◌, ◌∷◌, [], slice_index}
use Rattle.std.proofs.lemmas.Grind.{put_two}
use Rattle.std.proofs.Output.{has_written_of_eq}
use Rattle.std.proofs.lemmas.Fmt.{hex_byte}
use Rattle.std.specs.Fmt.{digit_glyph}
use Rattle.text.proofs.Pairs.{pairs-next}
use Rattle.text.proofs.shown.HexDisplay.fmt.Goals as goal

pub loop-byte-preserved : goal.loop-byte-preserved
loop-byte-preserved g c = λ p.
    let b = slice_index c.args.self.now.0.now c.loop-byte.byte-index in
    put_two _ _ _ _ _ (digit_glyph true (b / 16) ∷ digit_glyph true (b % 16) ∷ []) _ (c.loop-byte.invariant p) (has_written_of_eq _ _ _ _ _ (hex_byte true b (search rules)) (search rules)) (pairs-next _ _ c.loop-byte-test.true)
