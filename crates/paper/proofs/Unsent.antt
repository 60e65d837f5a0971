-- The packets that are whole and not yet sent, as they wait in TX data.
--   unsent l              those packets, by the ledger
--   laid_all-split        packets lie one behind the other
--   waiting_packets       the words waiting in TX data are theirs, and those of what is being written
--   next_good, next_counts, next_taken, next_waits    the oldest of them: it is good, one more may be sent, its words are next and wait
--   head_never_none       it is the head packet
-- Assumes nothing.
use mathlib.Core.Path.{◌≡◌, sym, ap, ◌∙◌}
use mathlib.Core.List.{List, [], ◌∷◌, ◌++◌, map, append_assoc, append-nil}
use Prim.Native.Nat.{ℕ, ◌+◌, ◌-◌, ◌≤◌}
use native.Mathlib.Omega.{arith}
use lib.ListN.{length, take, drop, length-append, length-drop, take-append-drop}
use lib.Seq.{take-add, drop-append_seam}
use Rattle.paper.specs.declared.Fifo.TheVariants.{TxData}
use Rattle.paper.specs.Sending.{Found, head_of}
use Rattle.paper.specs.Machine.{World, waits}
use Rattle.paper.specs.Ledger.{Whole, Ledger, laid, laid_all, laid_so_far, put, taken}
use Rattle.paper.proofs.Kept.{GoodWhole, AllGood, Kept}
use Rattle.paper.proofs.Packets.{buffer_of, head_of_laid}
use Rattle.paper.proofs.KeptRange.{laid_all-append, good_drop}

-- the packets whole and not yet sent
abbrev pub unsent : Ledger → List Whole
unsent l = drop l.wrote.sent l.wrote.packets

-- ---- The packets in TX data

-- The first k packets lie before the others.
pub laid_all-split : (k : ℕ) (ps : List Whole) → laid_all ps ≡ laid_all (take k ps) ++ laid_all (drop k ps)
laid_all-split k ps = ap laid_all (sym (take-append-drop k ps)) ∙ laid_all-append (take k ps) (drop k ps)

-- The words waiting in TX data are those of the packets not sent, and of what is being written.
pub waiting_packets : (l : Ledger) → drop (taken TxData l) (put TxData l) ≡ laid_all (unsent l) ++ laid_so_far l.wrote.taking
unfolding put taken
waiting_packets l =
    let gone = take l.wrote.sent l.wrote.packets in
    rw (laid_all-split l.wrote.sent l.wrote.packets, append_assoc (laid_all gone) (laid_all (unsent l)) (laid_so_far l.wrote.taking))
    (drop-append_seam (laid_all gone) (laid_all (unsent l) ++ laid_so_far l.wrote.taking))

module _ {l : Ledger} {w : World} (h : Kept l w) (p : Whole) (ps : List Whole) (e : unsent l ≡ p ∷ ps) where
  -- The oldest packet not sent is good.
  pub next_good : GoodWhole p
  unfolding AllGood
  next_good = (rw e at (good_drop l.wrote.sent l.wrote.packets h.legal.packets)).0

  -- The head packet is the oldest that is not sent.
  pub head_never_none : head_of (waits w).txdata ≡ Found p.b (map buffer_of p.buffers)
  unfolding laid_all
  head_never_none =
      let words : (waits w).txdata ≡ laid_all (p ∷ ps) ++ laid_so_far l.wrote.taking = h.queues TxData ∙ (rw e at (waiting_packets l)) in
      rw (words, append_assoc (laid p) (laid_all ps) (laid_so_far l.wrote.taking)) (head_of_laid p _ next_good)

  -- One packet is whole at least, and one more may be sent.
  pub next_counts : l.wrote.sent + 1 ≤ length l.wrote.packets
  next_counts = omega (arith, sym (length-drop l.wrote.sent l.wrote.packets) ∙ ap length e)

  -- The words of the packets sent, and this one.
  pub next_taken : length (laid_all (take (l.wrote.sent + 1) l.wrote.packets)) ≡ taken TxData l + length (laid p)
  unfolding taken laid_all
  next_taken =
      let gone = take l.wrote.sent l.wrote.packets in
      rw (take-add l.wrote.sent 1 l.wrote.packets, e, laid_all-append gone (p ∷ []), length-append (laid_all gone) (laid p ++ []), append-nil (laid p))

  -- Its words are waiting.
  pub next_waits : length (laid p) ≤ length (put TxData l) - taken TxData l
  unfolding laid_all
  next_waits =
      let words = ap length (rw e at (waiting_packets l)) in
      rw (← length-drop (taken TxData l) (put TxData l), words) (simp length-append (omega arith))
