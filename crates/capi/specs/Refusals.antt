-- What a frame call of the static library refuses before it is made. What the owner's calls refuse is owner_calls'.
use Rattle.std.specs.Prelude.{cond, ℕ, eqb}
use Rattle.image.specs.Image.{Status, image_refusal}

-- "Frame calls test 1, 2, 3, then the frame": the number of what is lent, 1 or 2; where that is 0, the state buffer, by what reading
-- it comes to. 0 where the call is made.
abbrev pub frame_refusal : Status → (lent : ℕ) → ℕ
frame_refusal t k = cond (eqb k 0) (image_refusal t) k
