-- The promises of specs/Promises, proved of every run. Each is what the invariant `Kept` says of the world that the run has reached.
--   unique, never_lost, places, whole_or_nothing, dropped_exactly, reads_back, levels, sent_as_written, packet_accepted
-- Assumes nothing.
use mathlib.Core.Path.{◌≡◌, refl, sym, ap, ◌∙◌}
use mathlib.Core.Logic.{◌≢◌}
use mathlib.Core.Bool.{true}
use mathlib.Core.List.{List, [], ◌∷◌}
use Prim.Native.Nat.{ℕ, ◌+◌, ◌-◌, ◌%◌, ◌≤◌, ◌<◌}
use native.Mathlib.Nat.{mod-add-mod}
use native.Mathlib.Omega.{arith}
use lib.ListN.{length, get_or, drop}
use lib.Seq.{get_or-drop}
use Rattle.paper.specs.declared.Ring.{Ring}
use Rattle.paper.specs.Answers.{Answer}
use Rattle.paper.specs.declared.Fifo.{Fifo}
use Rattle.paper.specs.Memory.{size, base, place, waiting, Four}
use Rattle.paper.specs.Calls.{Call}
use Rattle.paper.specs.Machine.{World, answer, answers, world_after}
use Rattle.paper.specs.Ledger.{Ledger, noted, put, taken}
use Rattle.paper.specs.Runs.{Lent, reached, ledger_of}
use Rattle.paper.specs.Promises.{Told, Unique, NeverLost, Places, WholeOrNothing, DroppedExactly, ReadsBack, Levels, SentAsWritten, PacketAccepted}
use Rattle.paper.proofs.Words.{series-get_or}
use Rattle.paper.proofs.Answers.{said_one_to_one}
use Rattle.paper.specs.Memory.{ring}
use Rattle.paper.proofs.Rings.{split, waits_of}
use Rattle.paper.proofs.Kept.{Kept, kept_fresh, kept_count}
use Rattle.paper.proofs.KeptSend.{sends_of}
use Rattle.paper.proofs.NeverLost.{is_entry, never_entry}
use Rattle.paper.proofs.PromisesReceive.{levels_of_lem, reads_of, whole_or_nothing_at, dropped_exactly_at}
use Rattle.paper.proofs.Steps.{kept_step}
use Rattle.paper.specs.declared.Control.{Control}
use Rattle.paper.proofs.PacketTaken.{packet_taken}
use Rattle.std.proofs.lemmas.Bool.{true≢false}

-- Two results that meet a call's contract are equal.
pub unique : Unique
unique c w r r' e e' =
    let d = e ∙ sym e' in
    let a = said_one_to_one r.answer r'.answer (ap (λ (t : Told). t.answer) d) in
    λ i. record { answer = a i; world = record { state = (d i).state; memory = (d i).memory }; out = (d i).out }

-- ---- Every run keeps the invariant

kept_through : (cs : List Call) {l : Ledger} {w : World} → Kept l w → Kept (noted cs (answers cs w) l) (world_after cs w)
unfolding noted answers world_after
kept_through [] h = h
kept_through (c ∷ cs) h = kept_through cs (kept_step c h)

pub kept_run : (m : List ℕ) → Lent m → (cs : List Call) → Kept (ledger_of cs m) (reached cs m)
kept_run m lent cs = kept_through cs (kept_fresh m lent)

-- ---- What follows for every run

-- No call answers 14 or 15.
pub never_lost : NeverLost
never_lost m lent cs c = (other _ refl, other _ refl)
  where
    other : (a : Answer) → is_entry a ≡ true → answer c (reached cs m) ≢ a
    other a t e = true≢false (sym t ∙ sym (ap is_entry e) ∙ never_entry c (kept_run m lent cs))

-- A word that waits lies at its place: word j of a ring is at the place of its oldest plus j, and the oldest is at the number t of words taken, both mod size.
ring_place : (b s : ℕ) (r : Ring) (m p : List ℕ) (t j : ℕ) → waiting b s r m ≡ drop t p → r.at ≡ t % s → j < r.count
    → get_or m (place b s (t + j)) 0 ≡ get_or p (t + j) 0
unfolding waiting
ring_place b s r m p t j queue at inside =
    let same : (t + j) % s ≡ (r.at + j) % s = sym (rw at (mod-add-mod t s j)) in
    rw same (sym (series-get_or (λ k. get_or m (place b s k) 0) r.at r.count j 0 inside) ∙ rw queue (get_or-drop t p j 0))

place_at : {l : Ledger} {w : World} → Kept l w → (f : Fifo) (i : ℕ) → taken f l ≤ i → i < length (put f l)
    → get_or w.memory (place (base f (split w)) (size f (split w)) i) 0 ≡ get_or (put f l) i 0
place_at {l} {w} h f i low high =
    let back : i ≡ taken f l + (i - taken f l) = omega arith in
    rw back
    (ring_place (base f (split w)) (size f (split w)) (ring f w.state) w.memory (put f l) (taken f l) (i - taken f l)
    (sym (waits_of f w) ∙ h.queues f) (h.places f) (omega (arith, kept_count h f)))

pub places : Places
places m lent cs f i low high = place_at (kept_run m lent cs) f i low high

-- A frame is kept whole with its status, or nothing is.
pub whole_or_nothing : WholeOrNothing
whole_or_nothing m lent cs frame flags = whole_or_nothing_at (kept_run m lent cs) frame flags

-- Dropped is answered for lack of room, and for that alone.
pub dropped_exactly : DroppedExactly
dropped_exactly m lent cs frame flags = dropped_exactly_at (kept_run m lent cs) frame flags

-- The host reads back what was stored, in order.
pub reads_back : ReadsBack
reads_back m lent cs = reads_of (kept_run m lent cs)

-- Levels and RX_DROP are those that calls and answers imply.
pub levels : Levels
levels m lent cs = levels_of_lem (kept_run m lent cs)

-- What is sent is what the host wrote.
pub sent_as_written : SentAsWritten
sent_as_written m lent cs outcome out = sends_of (kept_run m lent cs) outcome out

-- A packet that keeps the rules is accepted whole.
pub packet_accepted : PacketAccepted
packet_accepted p w good lent range expects clear room =
    let t = packet_taken p w good lent range expects clear room in
    record { answered = t.answered; port = ap (λ (k : Control). k.port) t.control; words = ap (λ (q : Four (List ℕ)). q.txdata) t.waiting }
