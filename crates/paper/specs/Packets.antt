-- A packet as the host may write it: what the port's rules allow, said of the packet as a whole. Paper 01, Words for transmission.
--   Begun, Fine           a buffer that the port accepts after sizes bytes of a packet whose first B is b; and with all its payload words
--   Ended                 buffers of which the last is Last, and no other
--   GoodWhole p           a packet that keeps the rules: p in its range, and its buffers as the port accepts them
--   host_writes p         the words that the host writes for it
-- Assumes nothing.
use Rattle.std.specs.Prelude.{◌≡◌, Bool, true, false, List, [], ◌∷◌, ◌++◌, ℕ, ◌+◌, length}
use Rattle.paper.specs.Transmission.{buffer_size, is_last, host_words, good_a, good_length, sizes_agree}
use Rattle.paper.specs.Ledger.{Written, Whole}

-- 01: "First is bad with a packet open, and missing First is bad with none open."; "Sizes so far must not pass p, and equal p at Last"
pub record Begun (is_open : Bool) (b sizes a : ℕ) : Type 0 where
  pub good : good_a is_open a ≡ true
  pub agree : sizes_agree a b sizes ≡ true

-- 01: "The host writes (o + s) rounded up to the alignment, over 4, payload words."
pub record Fine (is_open : Bool) (b sizes : ℕ) (x : Written) : Type 0 where
  pub begun : Begun is_open b sizes x.a
  pub full : length x.words ≡ host_words x.a

pub data Ended : (is_open : Bool) (b sizes : ℕ) → List Written → Type 0 where
  last : {is_open : Bool} {b sizes : ℕ} {x : Written} → Fine is_open b sizes x → is_last x.a ≡ true → Ended is_open b sizes (x ∷ [])
  more : {is_open : Bool} {b sizes : ℕ} {x : Written} {xs : List Written}
      → Fine is_open b sizes x → is_last x.a ≡ false → Ended true b (sizes + buffer_size x.a) xs → Ended is_open b sizes (x ∷ xs)

-- 01: "The first B's p must be 1 to 1,514, or to 1,518 with bit 13 set."
pub record GoodWhole (p : Whole) : Type 0 where
  pub long : good_length p.b ≡ true
  pub ended : Ended false p.b 0 p.buffers

-- buffer after buffer A, B and the payload words; 01: "Later B words repeat tag and p."
unfoldable pub buffers_writes : (b : ℕ) → List Written → List ℕ
buffers_writes b [] = []
buffers_writes b (x ∷ xs) = x.a ∷ b ∷ x.words ++ buffers_writes b xs

abbrev pub host_writes : Whole → List ℕ
host_writes p = buffers_writes p.b p.buffers
