-- Sending keeps the invariant, and sends what the host wrote.
--   accepts, sends_to, send_of    what a sending does, by the ledger; send_does says that it is so
--   kept_send             a sending keeps the invariant
--   sends_of              its answer and the frame sent
-- Assumes nothing.
use Rattle.std.specs.Prelude.{if◌then◌else◌, Ok}
use mathlib.Core.Path.{◌≡◌, refl, sym, ap, subst, ◌∙◌}
use mathlib.Core.Bool.{false, not}
use mathlib.Core.List.{List, [], ◌∷◌}
use Prim.Native.Nat.{ℕ, ◌+◌, ◌-◌, ◌<◌}
use native.Mathlib.Omega.{arith}
use lib.Dec.{ltb, leb, eqb}
use lib.ListN.{length, length-drop}
use borrow.Author.Tests.{leb-false, eq-eqb, ne_eqb}
use Rattle.paper.specs.declared.Control.{Control}
use Rattle.paper.specs.declared.Refusal.{Refusal}
use Rattle.paper.specs.declared.Refusal.TheVariants.{SendingOff, OtherBits, NothingThere, StatusFull, OutShort}
use Rattle.paper.specs.Words.{bit}
use Rattle.paper.specs.declared.Fifo.{Fifo}
use Rattle.paper.specs.declared.Fifo.TheVariants.{TxData, TxStatus, RxData, RxStatus}
use Rattle.paper.specs.Memory.{size, keeps, puts, takes, of}
use Rattle.paper.specs.Registers.{TXEN}
use Rattle.paper.specs.Sending.{head_of, frame_of, out_after, good_outcome, tx_status, shortest_out}
use Rattle.paper.specs.Calls.{Send}
use Rattle.paper.specs.Acts.{Act, refuses, with_port, sends}
use Rattle.paper.specs.Machine.{World, waits, act, decide, step, after, answer}
use Rattle.paper.specs.Ledger.{Whole, Ledger, packet_bytes, laid, put, taken, sets_error, entered, note}
use Rattle.paper.specs.Runs.{sending, sending_to}
use Rattle.paper.specs.Promises.{SendsOf, held}
use Rattle.std.proofs.lemmas.Bool.{cond_both}
use Rattle.paper.proofs.Rings.{AllFit}
use Rattle.paper.proofs.Kept.{control_of, Kept, Follows, Moves, kept_count, kept_apply}
use Rattle.paper.proofs.KeptRange.{kept_act}
use Rattle.paper.proofs.KeptMoves.{KeptUnder, kept_refused}
use Rattle.paper.proofs.Packets.{sent_of_laid, freed_of_laid}
use Rattle.paper.proofs.Unsent.{unsent, next_good, next_counts, next_taken, next_waits, head_never_none}
use Rattle.paper.proofs.Kept.{kept_held}

-- ---- What a sending does, by the ledger

-- the act of a sending that is accepted
abbrev pub accepts : Whole → (outcome : ℕ) → Control → Act
accepts p outcome k =
    record {
      control = with_port (record { expect = k.port.expect; failed = k.port.failed; whole = k.port.whole - 1 }) k;
      changes = record { txdata = takes (length (laid p)); txstatus = puts (tx_status p.b outcome ∷ []); rxdata = keeps; rxstatus = keeps };
      sent = frame_of p.b (packet_bytes p);
      answer = Ok (length (frame_of p.b (packet_bytes p)));
    }

-- by the packets not sent and the statuses waiting
abbrev pub sends_to : (outcome out_length statuses : ℕ) → Control → List Whole → Act
sends_to outcome out_length statuses k [] = refuses NothingThere k
sends_to outcome out_length statuses k (p ∷ ps) =
    if leb (size TxStatus k.registers.n) statuses then refuses StatusFull k else
    if ltb out_length shortest_out then refuses OutShort k else
    accepts p outcome k

-- by the ledger
abbrev pub send_of : (outcome out_length : ℕ) → Ledger → Act
send_of outcome out_length l =
    if not (bit TXEN l.registers.maccr) then refuses SendingOff (control_of l) else
    if not (good_outcome outcome) then refuses OtherBits (control_of l) else
    sends_to outcome out_length (held TxStatus l) (control_of l) (unsent l)

-- What holds of each refusal and of the act that is accepted holds of a sending.
send_cases : (P : Act → Type 0) (l : Ledger) (outcome out_length : ℕ) → ((r : Refusal) → sets_error r ≡ false → P (refuses r (control_of l)))
    → ((p : Whole) (ps : List Whole) → unsent l ≡ p ∷ ps → held TxStatus l < size TxStatus l.registers.n → P (accepts p outcome (control_of l)))
    → P (send_of outcome out_length l)
send_cases P l outcome out_length refused accepted =
    cond_both (not (bit TXEN l.registers.maccr)) _ _ P (λ _. refused SendingOff refl)
    (λ _. cond_both (not (good_outcome outcome)) _ _ P (λ _. refused OtherBits refl) (λ _. by_unsent (unsent l) refl))
  where
    by_unsent : (qs : List Whole) → unsent l ≡ qs → P (sends_to outcome out_length (held TxStatus l) (control_of l) qs)
    by_unsent [] e = refused NothingThere refl
    by_unsent (p ∷ ps) e =
        cond_both (leb (size TxStatus l.registers.n) (held TxStatus l)) _ _ P (λ _. refused StatusFull refl)
        (λ room. cond_both (ltb out_length shortest_out) _ _ P (λ _. refused OutShort refl) (λ _. accepted p ps e (leb-false _ _ room)))

module _ {l : Ledger} {w : World} (h : Kept l w) (outcome : ℕ) (out : List ℕ) where
  -- Whether a packet is whole is decided by those not sent, and the head packet is the first of them.
  sends_unsent : (qs : List Whole) → unsent l ≡ qs
      → (if eqb (control_of l).port.whole 0 then refuses NothingThere (control_of l) else
      sends (head_of (waits w).txdata) outcome (length out) (length (waits w).txstatus) ((control_of l).port.whole - 1) (control_of l))
      ≡ sends_to outcome (length out) (held TxStatus l) (control_of l) qs
  unfolding sends
  sends_unsent [] e =
      let none : (control_of l).port.whole ≡ 0 = sym (length-drop l.wrote.sent l.wrote.packets) ∙ ap length e in
      rw (eq-eqb _ _ none)
  sends_unsent (p ∷ ps) e =
      let some : (control_of l).port.whole ≡ 0 → ⊥ = omega (arith, next_counts h p ps e) in
      let good = next_good h p ps e in
      rw (ne_eqb _ _ some, head_never_none h p ps e, kept_held h TxStatus, freed_of_laid p good, sent_of_laid p good)

  -- A sending does what the ledger says.
  pub send_does : act (Send outcome out) w ≡ send_of outcome (length out) l
  unfolding decide
  send_does = kept_act (Send outcome out) h ∙ rw (sends_unsent (unsent l) refl)

-- ---- The invariant

module _ {l : Ledger} {w : World} (h : Kept l w) (outcome : ℕ) (out : List ℕ) where
  module _ (p : Whole) (ps : List Whole) (e : unsent l ≡ p ∷ ps) (v : ℕ) where
    -- Its changes fit: the words are there, and there is room for the status.
    accepted_fits : held TxStatus l < size TxStatus l.registers.n → AllFit (accepts p outcome (control_of l)) w
    accepted_fits room TxData = rw (kept_count h TxData) (next_waits h p ps e)
    accepted_fits room TxStatus = rw (kept_count h TxStatus) (omega arith)
    accepted_fits room RxData = tt
    accepted_fits room RxStatus = tt

    -- The ledger after it has the packet's words taken and its status put.
    accepted_follows : (f : Fifo) → Follows (of (accepts p outcome (control_of l)).changes f) (put f l) (taken f l)
        (put f (entered (Send outcome out) v l)) (taken f (entered (Send outcome out) v l))
    unfolding entered put taken
    accepted_follows TxData = (refl, next_taken h p ps e)
    accepted_follows TxStatus = (rw e, refl)
    accepted_follows RxData = (refl, refl)
    accepted_follows RxStatus = (refl, refl)

    -- So it moves the world and the ledger alike.
    accepted_moves : held TxStatus l < size TxStatus l.registers.n → Moves l (entered (Send outcome out) v l) (accepts p outcome (control_of l)) w
    unfolding entered
    accepted_moves room =
        let fewer : length l.wrote.packets - (l.wrote.sent + 1) ≡ length l.wrote.packets - l.wrote.sent - 1 = omega arith in
        record {
          legal = record { registers = h.legal.registers; packets = h.legal.packets; taking = h.legal.taking; sent = next_counts h p ps e };
          control = rw fewer;
          split = refl;
          fits = accepted_fits room;
          follows = accepted_follows;
        }

  -- A sending that is accepted keeps the invariant.
  accepted_keeps : (p : Whole) (ps : List Whole) → unsent l ≡ p ∷ ps → held TxStatus l < size TxStatus l.registers.n
      → KeptUnder (Send outcome out) l w (accepts p outcome (control_of l))
  unfolding note
  accepted_keeps p ps e room = kept_apply h (accepted_moves p ps e _ room)

-- So a sending keeps the invariant.
pub kept_send : {l : Ledger} {w : World} (outcome : ℕ) (out : List ℕ) → Kept l w
    → Kept (note (Send outcome out) (answer (Send outcome out) w) l) (after (Send outcome out) w)
unfolding step
kept_send {l} {w} outcome out h =
    subst (KeptUnder (Send outcome out) l w) (sym (send_does h outcome out))
    (send_cases (KeptUnder (Send outcome out) l w) l outcome (length out) (kept_refused h (Send outcome out)) (accepted_keeps h outcome out))

-- ---- The answer and the frame

-- A sending answers as the ledger says.
send_answers : (l : Ledger) (outcome out_length : ℕ)
    → (send_of outcome out_length l).answer ≡ sending l.registers outcome out_length (held TxStatus l) (unsent l)
send_answers l outcome out_length = grind (arith, by_unsent (unsent l))
  where
    by_unsent : (qs : List Whole)
        → (sends_to outcome out_length (held TxStatus l) (control_of l) qs).answer ≡ sending_to l.registers.n out_length (held TxStatus l) qs
    by_unsent qs = grind arith

-- what the act a sends, where it answers a value, is the frame of the packet p
abbrev Sent : Whole → Act → Type 0
Sent p a = (n : ℕ) → a.answer ≡ Ok n → a.sent ≡ frame_of p.b (packet_bytes p)

-- A sending sends the oldest packet that is not sent.
send_sends : (l : Ledger) (outcome out_length : ℕ) (p : Whole) (ps : List Whole) → unsent l ≡ p ∷ ps → Sent p (send_of outcome out_length l)
send_sends l outcome out_length p ps e =
    send_cases (Sent p) l outcome out_length (λ r _ n a. absurd (cc))
    (λ p' ps' e' room n a. let one : p' ≡ p = cc in rw one)

-- The answer to a sending is the ledger's, and the frame sent is that of the oldest packet not sent, as the host wrote it.
pub sends_of : {l : Ledger} {w : World} → Kept l w → (outcome : ℕ) (out : List ℕ) → SendsOf w l outcome out
unfolding step
sends_of {l} h outcome out =
    let does = send_does h outcome out in
    record {
      answers = ap (λ a. a.answer) does ∙ send_answers l outcome (length out);
      sends = λ n a p ps e. ap (λ frame. out_after frame out) (subst (Sent p) (sym does) (send_sends l outcome (length out) p ps e) n a);
    }
