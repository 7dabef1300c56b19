-- Blocks of answers: what a block has room for, over any limit of the link, and how long an answer is; parts of a list, over any width,
-- and with them that the blocks joined are the data.
use mathlib.Core.Path.{◌≡◌, refl, sym, ◌∙◌, ap}
use mathlib.Core.Bool.{Bool, true, false, cond}
use mathlib.Core.List.{List, [], ◌∷◌, ◌++◌}
use Prim.Native.Nat.{ℕ, zero, suc, ◌+◌, ◌-◌, ◌*◌, ◌≤◌, ◌<◌}
use native.Mathlib.Omega.{arith}
use native.Mathlib.Nat.{mul-zero, mul-suc, mul-add}
use lib.ListN.{length, take, drop, get_or, length-append, length-take, length-drop, take-append-drop}
use lib.Seq.{take_all, take-add, drop-drop, drop-append_seam}
use lib.Dec.{leb, lit<}
use borrow.Author.Tests.{lt-leb, leb-true, leb-false}
use Rattle.wire.specs.Numbers.{high_first, length_field}
use Rattle.wire.proofs.NumberLaws.{length_high}
use Rattle.wire.proofs.ReadingLaws.{by_order}
use Rattle.wire.proofs.LengthLaws.{field_one, field_two, field_three, field_size}
use Rattle.model.specs.Limits.{longest_sent, text_room, data_room, block_length, greatest_block, block_room}
use Rattle.model.specs.Objects.{block, is_last, block_answer, block_refused}
use Rattle.model.specs.Blocks.{block_bytes, FullIsLargest}
use Rattle.model.proofs.LimitFacts.{block_room_lem}
use Rattle.model.proofs.ListLaws.{by_test}

-- Room.

-- a greater number has no shorter length field
field_grows : (k n : ℕ) → k ≤ n → length (length_field k) ≤ length (length_field n)
field_grows k n h =
    by_order 128 n
    (λ a.
    by_order 256 n (λ b. omega (arith, ap length (field_three n b), field_size k)) λ b.
    by_order 128 k (λ c. omega (arith, ap length (field_two n a b), ap length (field_two k c (omega arith)))) λ c.
    omega (arith, ap length (field_two n a b), ap length (field_one k c)))
    (λ a. omega (arith, ap length (field_one n a), ap length (field_one k (omega arith))))

-- more data make no shorter block
pub block_grows : (k n : ℕ) → k ≤ n → block_length k ≤ block_length n
unfolding block_length
block_grows k n h = omega (arith, field_grows k n h)

greatest_fits : (text n k : ℕ) → 0 < k → k ≤ greatest_block text n → block_length k ≤ text
unfolding greatest_block
greatest_fits text zero k some h = absurd (omega arith)
greatest_fits text (suc n) k some h =
    by_test (λ (g : ℕ). k ≤ g → block_length k ≤ text) (leb (block_length (suc n)) text)
    (λ e l. omega (arith, block_grows k (suc n) l, leb-true (block_length (suc n)) text e)) (λ _. greatest_fits text n k some) h

greatest_most : (text n k : ℕ) → k ≤ n → greatest_block text n < k → text < block_length k
unfolding greatest_block
greatest_most text zero k l h = absurd (omega arith)
greatest_most text (suc n) k l h =
    by_test (λ (g : ℕ). g < k → text < block_length k) (leb (block_length (suc n)) text) (λ _ i. absurd (omega arith))
    (λ e. by_order k n (greatest_most text n k) (λ i _. omega (arith, leb-false (block_length (suc n)) text e, block_grows (suc n) k (omega arith)))) h

-- for every limit: a block with data up to the room fits the text, and one with more does not

pub block_fits : (sent k : ℕ) → 0 < k → k ≤ block_room sent → block_length k ≤ text_room sent
unfolding block_room
block_fits sent k some h = greatest_fits (text_room sent) (text_room sent) k some h

pub block_most : (sent k : ℕ) → block_room sent < k → text_room sent < block_length k
unfolding block_room block_length
block_most sent k h = by_order k (text_room sent) (λ l. greatest_most (text_room sent) (text_room sent) k l h) (λ l. omega arith)

-- a block has less room for data than a whole answer has
pub less_room : (sent : ℕ) → block_room sent ≤ data_room sent
unfolding data_room block_length
less_room sent = by_order 1 (block_room sent) (λ h. omega (arith, block_fits sent (block_room sent) h (omega arith))) (λ h. omega arith)

-- Lengths of answers.

bytes_length : (i last k : ℕ) (d : List ℕ) → length (block_bytes i last k d) ≡ block_length (length d)
unfolding block_length
bytes_length i last k d =
    omega (arith, length-append (high_first 4 k) (0x00 ∷ length_field (length d) ++ d), length-append (length_field (length d)) d, length_high 4 k)

-- block k of the data, as it goes out
pub answer_bytes : (i k : ℕ) (d : List ℕ) → block_answer i k d ≡ block_bytes i (cond (is_last k d) 0x01 0x00) k (block k d)
unfolding block_answer
answer_bytes i k d = refl

pub answer_length : (i k : ℕ) (d : List ℕ) → length (block_answer i k d) ≡ block_length (length (block k d))
answer_length i k d = ap length (answer_bytes i k d) ∙ bytes_length i (cond (is_last k d) 0x01 0x00) k (block k d)

-- a refusal is as long as a block without data
pub refused_length : (i n c : ℕ) → length (block_refused i n c) ≡ block_length 0
unfolding block_length length_field
refused_length i n c = omega (arith, length-append (high_first 4 n) (0x01 ∷ c ∷ []), length_high 4 n)

pub block_within : (k : ℕ) (d : List ℕ) → length (block k d) ≤ block_room longest_sent
unfolding block
block_within k d = simp length-take (omega arith)

some_room : 0 < block_room longest_sent
some_room = rw block_room_lem (lit< tt)

pub answer_fits : (i k : ℕ) (d : List ℕ) → length (block_answer i k d) ≤ text_room longest_sent
answer_fits i k d =
    omega (arith, answer_length i k d, block_grows (length (block k d)) (block_room longest_sent) (block_within k d), block_fits longest_sent (block_room longest_sent) some_room (omega arith))

pub refused_fits : (i n c : ℕ) → length (block_refused i n c) ≤ text_room longest_sent
refused_fits i n c =
    omega (arith, refused_length i n c, block_grows 0 (block_room longest_sent) (omega arith), block_fits longest_sent (block_room longest_sent) some_room (omega arith))

-- a full block is the largest
pub full_is_largest : FullIsLargest
full_is_largest =
    record {
      fits =
          λ i last k d h.
          omega (arith, bytes_length i last k d, block_grows (length d) (block_room longest_sent) h, block_fits longest_sent (block_room longest_sent) some_room (omega arith));
      largest = λ i last k d h. omega (arith, bytes_length i last k d, block_most longest_sent (length d) h);
    }

-- What a block says: of the same number, whether it is the last and its data stand in its bytes.

block_only : (k n : ℕ) → block_length k ≡ block_length n → k ≡ n
unfolding block_length
block_only k n e =
    by_order k n (λ h. by_order n k (λ j. omega arith) (λ j. absurd (omega (arith, field_grows k n h))))
    (λ h. absurd (omega (arith, field_grows n k (omega arith))))

pub bytes_only : (i last other k : ℕ) (d e : List ℕ) → block_bytes i last k d ≡ block_bytes i other k e → (last ≡ other) × (d ≡ e)
bytes_only i last other k d e q =
    let n : length d ≡ length e = block_only (length d) (length e) (sym (bytes_length i last k d) ∙ ap length q ∙ bytes_length i other k e) in
    let f : length_field (length e) ++ d ≡ length_field (length e) ++ e = rw n at (ap (drop 9) q) in (
      ap (λ (xs : List ℕ). get_or xs 3 0) q,
      sym (drop-append_seam (length_field (length e)) d) ∙ ap (drop (length (length_field (length e)))) f ∙ drop-append_seam (length_field (length e)) e,
    )

-- Parts of a list, each w long but the last, counted from 1.

more : (w k : ℕ) → w * (k + 1) ≡ w * k + w
more w k = omega (arith, mul-add w k 1)

module _ {A : Type 0} (w : ℕ) where
  abbrev pub part : ℕ → List A → List A
  part k xs = take w (drop (w * (k - 1)) xs)

  -- the n parts after part k, joined
  unfoldable pub parts : (n k : ℕ) → List A → List A
  parts zero k xs = []
  parts (suc n) k xs = part (k + 1) xs ++ parts n (k + 1) xs

  part_next : (k : ℕ) (xs : List A) → part (k + 1) xs ≡ take w (drop (w * k) xs)
  part_next k xs = let e : k + 1 - 1 ≡ k = omega arith in rw e

  pub part_full : (k : ℕ) (xs : List A) → w * (k + 1) ≤ length xs → length (part (k + 1) xs) ≡ w
  part_full k xs h = rw part_next (simp (length-take, length-drop) (omega (arith, more w k)))

  -- a part, and what stands behind it
  pub part_rest : (k : ℕ) (xs : List A) → part (k + 1) xs ++ drop (w * (k + 1)) xs ≡ drop (w * k) xs
  part_rest k xs = rw (part_next, more w k, ← drop-drop w (w * k) xs) (take-append-drop w (drop (w * k) xs))

  pub parts_taken : (n k : ℕ) (xs : List A) → parts n k xs ≡ take (w * n) (drop (w * k) xs)
  unfolding parts
  parts_taken zero k xs = rw mul-zero
  parts_taken (suc n) k xs =
      let e : w * suc n ≡ w + w * n = omega (arith, mul-suc w n) in
      rw (parts_taken n (k + 1) xs, part_next k xs, e, take-add w (w * n) (drop (w * k) xs), drop-drop w (w * k) xs, more w k)

  -- as many parts as the list wants, joined, are the list
  pub parts_join : (n : ℕ) (xs : List A) → length xs ≤ w * n → parts n 0 xs ≡ xs
  parts_join n xs h = parts_taken n 0 xs ∙ rw mul-zero (take_all (w * n) xs h)

-- Blocks.

-- a block is such a part of the data
pub block_part : (k : ℕ) (d : List ℕ) → block k d ≡ part (block_room longest_sent) k d
unfolding block
block_part k d = refl

-- data too long for one frame are more than their first block
pub first_more : (d : List ℕ) → data_room longest_sent < length d → is_last 1 d ≡ false
unfolding is_last
first_more d h = lt-leb (length d) (block_room longest_sent * 1) (omega (arith, less_room longest_sent))

-- which goes out so
pub first_bytes : (i : ℕ) (d : List ℕ) → data_room longest_sent < length d → block_answer i 1 d ≡ block_bytes i 0x00 1 (block 1 d)
first_bytes i d h = answer_bytes i 1 d ∙ ap (λ (z : Bool). block_bytes i (cond z 0x01 0x00) 1 (block 1 d)) (first_more d h)

pub first_block : (d : List ℕ) → block 1 d ≡ take (block_room longest_sent) d
unfolding block
first_block d = rw mul-zero

-- "the blocks joined are exactly the data"
pub blocks_join : (n : ℕ) (d : List ℕ) → is_last n d ≡ true → parts (block_room longest_sent) n 0 d ≡ d
unfolding is_last
blocks_join n d e = parts_join (block_room longest_sent) n d (leb-true _ _ e)

-- "all but the last are full"
pub block_full : (k : ℕ) (d : List ℕ) → is_last (k + 1) d ≡ false → length (block (k + 1) d) ≡ block_room longest_sent
unfolding is_last
block_full k d e =
    let l = leb-false (length d) (block_room longest_sent * (k + 1)) e in ap length (block_part (k + 1) d) ∙ part_full (block_room longest_sent) k d (omega arith)
