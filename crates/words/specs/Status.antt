-- A status word from its marks, and what the contracts of `words::status` cite besides.
--   has_error m            the error mark of an RX status
--   status_of len m        the RX status of a frame of len bytes with these marks; its terms stand in the order of paper's `status`,
--                         so that the two unfold to the same
--   outcome_error o        the error mark of a TX status, as `tx_status` of paper has it
--   TxLevels n statuses    the split and the number of TX statuses are in their ranges
-- Assumes nothing.
use Rattle.std.specs.Prelude.{Bool, ◌||◌, ℕ, ◌+◌, ◌*◌, ◌^◌, ◌≤◌}
use Rattle.paper.specs.Words.{bit, mark}
use Rattle.words.specs.declared.status.Marks.{Marks}

-- 01: "15: 11, 7, 6 or 1 is set."
abbrev pub has_error : Marks → Bool
has_error m = m.runt || m.long || m.collision || m.badfcs

-- 01: "30: the filter said no (RXALL). The packet length in bits 29 to 16." The others by their numbers.
unfoldable pub status_of : (len : ℕ) → Marks → ℕ
status_of len m =
    mark 30 m.miss
    + len * 2 ^ 16
    + mark 15 (has_error m)
    + mark 13 m.broadcast
    + mark 12 m.wronglength
    + mark 11 m.runt
    + mark 10 m.group
    + mark 7 m.long
    + mark 6 m.collision
    + mark 5 m.typed
    + mark 3 m.mii
    + mark 2 m.dribble
    + mark 1 m.badfcs

-- 01: "bit 15 set if 11, 10, 9, 8 or 2 is"
abbrev pub outcome_error : ℕ → Bool
outcome_error o = bit 11 o || bit 10 o || bit 9 o || bit 8 o || bit 2 o

-- 01: "TX_FIF_SZ is n, 2 to 14"; TX status has 128 words
pub record TxLevels (n statuses : ℕ) : Type 0 where
  pub least : 2 ≤ n
  pub most : n ≤ 14
  pub few : statuses ≤ 128
