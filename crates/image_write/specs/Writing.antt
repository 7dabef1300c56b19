-- What writing promises, for every buffer: of a part, from a place on that has room for it; and of a whole image, where the
-- length of the buffer decides.
use Rattle.std.specs.Prelude.{◌≡◌, cond, List, ℕ, eqb, length, Result, Ok, Err}
use Rattle.wire.specs.Wrote.{Wrote}
use Rattle.meter.specs.declared.Meter.{Meter}
use Rattle.image.specs.Codec.{Codec}
use Rattle.image.specs.Image.{image_size, image_of, read_image}
use Rattle.image_write.specs.declared.WrongBuffer.{WrongBuffer}

-- a part was written from a place on into a buffer that held l, which holds m now; next is the place after it
pub record Put {A : Type 0} (c : Codec A) (x : A) (l : List ℕ) (at : ℕ) (m : List ℕ) (next : ℕ) : Type 0 where
  pub wrote : Wrote l at m next (c.bytes x)
  pub sized : length (c.bytes x) ≡ c.size
  pub holds : c.Holds x

abbrev pub done : Result (Unit {0}) WrongBuffer
done = Ok tt

abbrev pub wrong_buffer : Result (Unit {0}) WrongBuffer
wrong_buffer = Err (record {})

-- into a buffer that held l and holds e then: the image, where the buffer has its size; else the buffer as it was. What was
-- written reads as this very meter.
pub record Writes (m : Meter) (l e : List ℕ) (r : Result (Unit {0}) WrongBuffer) : Type 0 where
  pub answer : r ≡ cond (eqb (length l) image_size) done wrong_buffer
  pub holds : e ≡ cond (eqb (length l) image_size) (image_of m) l
  pub back : r ≡ done → read_image e ≡ Ok m
