-- One call in each of two runs whose ledgers are alike: how it is answered.
--   Told                  the answers to one call in two runs: equal; or receive data words, and those equal for frames with equal bytes
--   told                  so every call is answered in two runs
-- Assumes nothing.
use Rattle.std.specs.Prelude.{Ok}
use mathlib.Core.Path.{◌≡◌, refl, ap, ◌∙◌}
use mathlib.Core.List.{List, [], ◌∷◌}
use Prim.Native.Nat.{ℕ, ◌-◌}
use native.Mathlib.Nat.{add-zero}
use native.Mathlib.Omega.{arith}
use lib.Dec.{eqb}
use mathlib.Core.Bool.{false}
use lib.ListN.{length, get_or}
use lib.Seq.{get_or-drop}
use borrow.Author.Tests.{eqb-false}
use Rattle.paper.specs.declared.Control.{Control}
use Rattle.paper.specs.Answers.{Answer}
use Rattle.paper.specs.declared.Fifo.{Fifo}
use Rattle.paper.specs.declared.Fifo.TheVariants.{TxData, TxStatus, RxData, RxStatus}
use Rattle.paper.specs.Memory.{Four, of, Change}
use Rattle.paper.specs.Registers.{rx_fifo_inf, tx_fifo_inf}
use Rattle.paper.specs.Status.{look}
use Rattle.paper.specs.Arrivals.{data_words}
use Rattle.paper.specs.Sending.{head_of}
use Rattle.paper.specs.Calls.{Call, Reset, MacWrite, MacRead, SetSplit, Split, RxFifoInf, TxFifoInf, RxDrop, DumpTxData, DumpTxStatus, DumpRx, Arrive, RxDataRead, RxStatusPop, RxStatusPeek, TxWord, Send, TxStatusPop, TxStatusPeek}
use Rattle.paper.specs.Acts.{oldest, sends, send, set_split, arrive, tx_word}
use Rattle.paper.specs.Machine.{World, waits, levels, decide, answer}
use Rattle.paper.specs.Ledger.{Ledger, all_words, put, taken}
use Rattle.paper.specs.Twins.{blank_word, source}
use Rattle.paper.proofs.Kept.{control_of, Kept}
use Rattle.paper.proofs.KeptRange.{kept_answer}
use Rattle.paper.proofs.Alike.{bare, Alike, shared, bare_control, bare_taken, bare_length, bare_txstatus, bare_rxstatus}
use Rattle.paper.proofs.AlikeWords.{word_alike}
use Rattle.paper.proofs.AlikeHeads.{due, due_bare, head_kept, sends_alike}
use Rattle.paper.proofs.Kept.{kept_held}
use Rattle.paper.specs.Promises.{held}
use mathlib.Core.Path.{sym}

module _ {l : Ledger} {w : World} (h : Kept l w) where
  -- The oldest data word is the next of the frames.
  next_kept : get_or (waits w).rxdata 0 0 ≡ get_or (all_words l.received.frames) l.received.read 0
  unfolding put taken
  next_kept = rw (h.queues RxData) (get_or-drop l.received.read (all_words l.received.frames) 0 0 ∙ rw add-zero)

-- the answers to one call in two runs: equal; or both a receive data word, and equal where that is of frames with equal bytes
pub data Told (l l' : Ledger) : Call → Answer → Answer → Type 0 where
  equal : {c : Call} {a a' : Answer} → a ≡ a' → Told l l' c a a'
  word : {a a' : Answer} → blank_word a ≡ blank_word a' → (source l ≡ source l' → a ≡ a') → Told l l' RxDataRead a a'

-- A read is answered equally where the same words wait.
oldest_alike : (k : Control) (c : Four Change) {q q' : List ℕ} → q ≡ q' → (oldest k c q).answer ≡ (oldest k c q').answer
oldest_alike k c e = ap (λ q. (oldest k c q).answer) e

-- Where as many words wait, it is answered by a word in both runs or in neither.
oldest_told : (l l' : Ledger) (k : Control) (c : Four Change) (q q' : List ℕ) → length q ≡ length q' → (source l ≡ source l' → get_or q 0 0 ≡ get_or q' 0 0)
    → Told l l' RxDataRead (oldest k c q).answer (oldest k c q').answer
oldest_told l l' k c [] [] n same = equal refl
oldest_told l l' k c [] (u ∷ q') n same = absurd (omega arith)
oldest_told l l' k c (u ∷ q) [] n same = absurd (omega arith)
oldest_told l l' k c (u ∷ q) (u' ∷ q') n same = word refl (λ s. ap Ok (same s))

module _ {l l' : Ledger} {w w' : World} (h : Kept l w) (h' : Kept l' w') (e : Alike l l') where
  -- In each FIFO as many words wait.
  level_alike : (f : Fifo) → length (of (waits w) f) ≡ length (of (waits w') f)
  level_alike f = kept_held h f ∙ shared (held f) (λ x. rw (bare_length f x, bare_taken f x)) l l' e ∙ sym (kept_held h' f)

  -- So the levels are the same.
  levels_alike : levels (waits w) ≡ levels (waits w')
  levels_alike = cc (level_alike TxData, level_alike TxStatus, level_alike RxData, level_alike RxStatus)

  -- Where what was put is no content, the same words wait.
  waits_alike : (f : Fifo) → ((x : Ledger) → put f (bare x) ≡ put f x) → of (waits w) f ≡ of (waits w') f
  waits_alike f no-content = rw (h.queues f, h'.queues f, shared (taken f) (bare_taken f) l l' e, shared (put f) no-content l l' e)

  -- As many packets wait.
  whole_alike : length l.wrote.packets - l.wrote.sent ≡ length l'.wrote.packets - l'.wrote.sent
  whole_alike = ap (λ (k : Control). k.port.whole) (shared control_of bare_control l l' e)

  -- Where a packet waits, sending it is answered equally.
  sends_told : (outcome out whole : ℕ) → (length l.wrote.packets - l.wrote.sent ≡ 0 → ⊥)
      → (sends (head_of (waits w).txdata) outcome out (length (waits w).txstatus) whole (control_of l)).answer
      ≡ (sends (head_of (waits w').txdata) outcome out (length (waits w').txstatus) whole (control_of l)).answer
  sends_told outcome out whole some =
      let head = head_kept h some in
      let head' = head_kept h' (λ z. some (whole_alike ∙ z)) in
      rw (level_alike TxStatus)
      (sends_alike (waits w).txdata (waits w').txdata (due l) head.0 head'.0 head.1 (rw (shared due due_bare l l' e) head'.1)
      outcome out _ whole (control_of l))

  -- So is sending.
  send_told : (outcome out : ℕ) → (send outcome out (control_of l) (waits w)).answer ≡ (send outcome out (control_of l) (waits w')).answer
  send_told outcome out =
      let last = λ (t : eqb (control_of l).port.whole 0 ≡ false). sends_told outcome out ((control_of l).port.whole - 1) (eqb-false _ _ t) in
      grind (arith, last)

  -- The next data word is equal where it is of frames with equal bytes.
  next_alike : source l ≡ source l' → get_or (waits w).rxdata 0 0 ≡ get_or (waits w').rxdata 0 0
  unfolding bare
  next_alike same =
      let at : l.received.read ≡ l'.received.read = ap (λ (x : Ledger). x.received.read) e in
      rw (next_kept h, next_kept h', at)
      (word_alike l.received.frames l'.received.frames l'.received.read (ap (λ (x : Ledger). x.received.frames) e) (rw at at same))

  -- Every call is decided to be answered so.
  decided_told : (c : Call) → Told l l' c (decide c (control_of l) (waits w)).answer (decide c (control_of l) (waits w')).answer
  unfolding decide
  decided_told Reset = equal refl
  decided_told (MacWrite register value) = equal refl
  decided_told (MacRead register) = equal refl
  decided_told (SetSplit n) = equal (ap (λ x. (set_split n (control_of l) x).answer) levels_alike)
  decided_told Split = equal refl
  decided_told RxFifoInf = equal (ap (λ (x : Four ℕ). Ok (rx_fifo_inf x.rxstatus x.rxdata)) levels_alike)
  decided_told TxFifoInf = equal (ap (λ (x : Four ℕ). Ok (tx_fifo_inf l.registers.n x.txstatus x.txdata)) levels_alike)
  decided_told RxDrop = equal refl
  decided_told DumpTxData = equal refl
  decided_told DumpTxStatus = equal refl
  decided_told DumpRx = equal refl
  decided_told (Arrive frame flags) = equal (ap (λ x. (arrive (control_of l) x (look frame flags) (data_words frame)).answer) levels_alike)
  decided_told RxDataRead = oldest_told l l' (control_of l) _ (waits w).rxdata (waits w').rxdata (level_alike RxData) next_alike
  decided_told RxStatusPop = equal (oldest_alike (control_of l) _ (waits_alike RxStatus bare_rxstatus))
  decided_told RxStatusPeek = equal (oldest_alike (control_of l) _ (waits_alike RxStatus bare_rxstatus))
  decided_told (TxWord u) = equal (ap (λ x. (tx_word u (control_of l) x).answer) levels_alike)
  decided_told (Send outcome out) = equal (send_told outcome (length out))
  decided_told TxStatusPop = equal (oldest_alike (control_of l) _ (waits_alike TxStatus bare_txstatus))
  decided_told TxStatusPeek = equal (oldest_alike (control_of l) _ (waits_alike TxStatus bare_txstatus))

  -- And so it is in the two runs.
  pub told : (c : Call) → Told l l' c (answer c w) (answer c w')
  told c = rw (kept_answer c h, kept_answer c h', ← shared control_of bare_control l l' e) (decided_told c)
