-- Lists as an owner lends them, as bytes: one record after the other, each as it stands in an image. For any part.
use Rattle.std.specs.Prelude.{◌≡◌, Bool, ◌&&◌, List, ℕ, ◌/◌, ◌%◌, ◌≤◌, eqb, length, take, drop}
use Rattle.image.specs.Codec.{Codec, values, all_taken}

module _ {A : Type 0} (c : Codec A) where
  -- how many whole records there are
  abbrev pub count_in : List ℕ → ℕ
  count_in s = length s / c.size

  -- whole records and nothing after them, and the bytes of each are taken
  unfoldable pub whole_list : List ℕ → Bool
  whole_list s = eqb (length s % c.size) 0 && all_taken c (count_in s) s

  -- the records
  unfoldable pub list_in : List ℕ → List A
  list_in s = values c (count_in s) s

  -- an array of so many places whose first n are read from a place on; the others may hold anything
  pub record Firsts (places n : ℕ) (s : List ℕ) (at : ℕ) (xs : List A) : Type 0 where
    pub full : length xs ≡ places
    pub are : take n xs ≡ values c n (drop at s)

  -- an array of so many places that begins with the records of a list, where they find room
  pub record Begins (places : ℕ) (s : List ℕ) (xs : List A) : Type 0 where
    pub full : length xs ≡ places
    pub are : count_in s ≤ places → take (count_in s) xs ≡ list_in s
