-- One packet's words written in any world in range, reached or not, that expects an A with no packet open and has room for what is stored.
--   Taken whole ws stored w    after the words ws: all answered 0, one more whole packet, what is stored laid behind what waited, the world in range
--   packet_taken               so it is with the words of a good packet
-- Assumes nothing.
use Rattle.std.specs.Prelude.{Ok}
use mathlib.Core.Path.{◌≡◌, refl, ap, ◌∙◌}
use mathlib.Core.Bool.{true, false}
use mathlib.Core.List.{List, ◌++◌, append_assoc, map}
use Prim.Native.Nat.{ℕ, ◌+◌, ◌*◌, ◌≤◌}
use native.Mathlib.Omega.{arith}
use lib.ListN.{length, replicate, length-append}
use Rattle.paper.specs.declared.Packet.TheVariants.{Closed}
use Rattle.paper.specs.declared.Expect.{Expect}
use Rattle.paper.specs.declared.Expect.TheVariants.{CommandA}
use Rattle.paper.specs.declared.Port.{Port}
use Rattle.paper.specs.declared.Control.{Control}
use Rattle.paper.specs.declared.Fifo.TheVariants.{TxData}
use Rattle.paper.specs.Memory.{Four, size, words_lent}
use Rattle.paper.specs.Refusals.{expect_in_range, in_range}
use Rattle.paper.specs.Calls.{TxWord}
use Rattle.paper.specs.Acts.{with_port}
use Rattle.paper.specs.Machine.{World, waits, after, answers, world_after}
use Rattle.paper.specs.Ledger.{Whole, laid}
use Rattle.paper.proofs.Rings.{split}
use Rattle.paper.proofs.Entry.{Ready, ready, in_range_lem}
use Rattle.paper.proofs.Kept.{GoodWhole}
use Rattle.paper.proofs.Packets.{laid_three}
use Rattle.paper.proofs.WordsWritten.{clear, Writes, ends, on}
use Rattle.paper.specs.Packets.{host_writes}
use Rattle.paper.proofs.PacketWritten.{packet_writes}
use Rattle.paper.proofs.WordTaken.{laid_behind, Able, word_answer, word_control, word_waits, word_able}
use Rattle.paper.proofs.Fifos.{waits_count}
use Rattle.paper.specs.declared.Fifo.TheVariants.{TxData}

-- the words ws, of which stored are to be stored, are all taken in the world w, and make one packet more than whole
pub record Taken (whole : ℕ) (ws stored : List ℕ) (w : World) : Type 0 where
  pub answered : answers (map TxWord ws) w ≡ replicate (length ws) (Ok 0)
  pub control : (world_after (map TxWord ws) w).state.control ≡ with_port (clear (CommandA Closed) (whole + 1)) w.state.control
  pub waiting : waits (world_after (map TxWord ws) w) ≡ laid_behind (waits w) stored
  pub lent : length (world_after (map TxWord ws) w).memory ≡ words_lent
  pub range : in_range (world_after (map TxWord ws) w).state ≡ true

-- Words that a port accepts are taken, where there is room for what is stored.
words_taken : {whole : ℕ} {e : Expect} {ws stored : List ℕ} (w : World) → Writes whole e ws stored → Able w e whole
    → length (waits w).txdata + length stored ≤ size TxData (split w) → 3 * (whole + 1) ≤ length (waits w).txdata + length stored
    → Taken whole ws stored w
unfolding answers world_after expect_in_range
words_taken w (ends t) h room more =
    let able = word_able h t room refl more in
    record {
      answered = rw (word_answer h t room);
      control = word_control h t room;
      waiting = word_waits h t room;
      lent = able.lent;
      range = in_range_lem _ able.fit;
    }
words_taken {whole} w (on {e' = e'} {w = word} {ws = ws} {new = new} {stored = stored} t r rest) h room more =
    let sum : length (new ++ stored) ≡ length new + length stored = length-append new stored in
    let fits : length (waits w).txdata + length new ≤ size TxData (split w) = omega arith in
    let held : 3 * whole ≤ length (waits w).txdata + length new =
    omega (arith, waits_count w TxData, h.fit.whole, ap (λ (p : Port). p.whole) h.port) in
    let w' : World = after (TxWord word) w in
    let behind : waits w' ≡ laid_behind (waits w) new = word_waits h t fits in
    let count : length (waits w').txdata ≡ length (waits w).txdata + length new =
    ap (λ (q : Four (List ℕ)). length q.txdata) behind ∙ length-append (waits w).txdata new in
    let same : split w' ≡ split w = ap (λ (k : Control). k.registers.n) (word_control h t fits) in
    let others : Taken whole ws stored w' = words_taken w' rest (word_able h t fits r held) (rw same (omega arith)) (omega arith) in
    record {
      answered = rw (word_answer h t fits, others.answered);
      control = others.control ∙ ap (with_port (clear (CommandA Closed) (whole + 1))) (word_control h t fits);
      waiting = others.waiting ∙ ap (λ (q : Four (List ℕ)). laid_behind q stored) behind ∙ rw append_assoc;
      lent = others.lent;
      range = others.range;
    }

-- In a world in range that expects an A with no packet open and has room for what is stored, all words of a good packet are taken.
pub packet_taken : (p : Whole) (w : World) → GoodWhole p → length w.memory ≡ words_lent → in_range w.state ≡ true
    → w.state.control.port.expect ≡ CommandA Closed → w.state.control.port.failed ≡ false
    → length (waits w).txdata + length (laid p) ≤ size TxData w.state.control.registers.n
    → Taken w.state.control.port.whole (host_writes p) (laid p) w
packet_taken p w good lent range e f room =
    let fit : Ready w.state = ready w.state range in
    words_taken w (packet_writes w.state.control.port.whole p good)
    (record { lent = lent; fit = fit; port = λ i. record { expect = e i; failed = f i; whole = w.state.control.port.whole } })
    room (omega (arith, laid_three p good, waits_count w TxData, fit.whole))
