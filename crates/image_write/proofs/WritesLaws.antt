-- What writing an image comes to, by the length of the buffer: the steps of the writer, and what its caller learns.
use mathlib.Core.Path.{◌≡◌, ap, ◌∙◌}
use mathlib.Core.List.{List, [], ◌∷◌}
use Prim.Native.Nat.{ℕ}
use native.Mathlib.Omega.{arith}
use lib.ListN.{length}
use borrow.Author.Tests.{eq-eqb, ne_eqb}
use Rattle.wire.specs.Wrote.{Wrote}
use Rattle.wire_write.proofs.WroteLaws.{then, full}
use Rattle.meter.specs.declared.Meter.{Meter}
use Rattle.image.specs.Layout.{meter_part}
use Rattle.image.specs.Image.{version, image_size, image_of, read_image}
use Rattle.image.proofs.ImageLaws.{length_image, image_back}
use Rattle.std.specs.Prelude.{Result}
use Rattle.image_write.specs.declared.WrongBuffer.{WrongBuffer}
use Rattle.image_write.specs.Writing.{Put, done, wrong_buffer, Writes}

-- A buffer of another length is left as it was; in one of its size there is the image.

pub not_written : (m : Meter) (l : List ℕ) → (length l ≡ image_size → ⊥) → Writes m l l wrong_buffer
not_written m l h =
    record {
      answer = rw (ne_eqb (length l) image_size h);
      holds = rw (ne_eqb (length l) image_size h);
      back = λ q. cc;
    }

pub image_written : (m : Meter) {l p e : List ℕ} {k next : ℕ} → length l ≡ image_size → Wrote l 0 p k (version ∷ []) → Put meter_part m p k e next → Writes m l e done
unfolding image_of
image_written m {l} {p} {e} h u w =
    let i : e ≡ image_of m = full (then u w.wrote) (omega (arith, length_image m w.holds)) in
    record {
      answer = rw (eq-eqb (length l) image_size h);
      holds = rw (eq-eqb (length l) image_size h) i;
      back = λ q. ap read_image i ∙ image_back m w.holds;
    }

-- what the caller learns, by the length of its buffer
module _ {m : Meter} {l e : List ℕ} {r : Result (Unit {0}) WrongBuffer} (w : Writes m l e r) where
  pub answered : length l ≡ image_size → (r ≡ done) × (e ≡ image_of m)
  answered h =
      let t = eq-eqb (length l) image_size h in
      (w.answer ∙ rw t, w.holds ∙ rw t)

  pub kept : (length l ≡ image_size → ⊥) → (r ≡ wrong_buffer) × (e ≡ l)
  kept h =
      let t = ne_eqb (length l) image_size h in
      (w.answer ∙ rw t, w.holds ∙ rw t)
