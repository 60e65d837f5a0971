-- What the line that answers an arrival says of the frame, and what follows for the call.
--   stored_fits           a frame that is Stored has 14 to 2,048 bytes, and its words and one status are free
--   stored_leaves         what Stored does: the data words, then the status
--   arrived_told          the contract of an arrival: what it meets, and the world after what that does
-- Assumes nothing.
use Rattle.std.specs.Prelude.{Err, Ok}
use Rattle.std.proofs.Common.{◌≡◌, ℕ, true, not, eqb, ltb, List, [], ◌∷◌, length, sym, refl, ap, ◌∙◌, subst, arith, ltb-false}
use Rattle.paper.specs.declared.Control.{Control}
use Rattle.paper.specs.declared.Ring.{Ring}
use Rattle.paper.specs.declared.State.{State}
use Rattle.paper.specs.declared.Arrival.TheVariants.{Ignored, Discarded, Filtered, Dropped, Stored}
use Rattle.paper.specs.declared.Refusal.TheVariants.{ArrivingLength, OtherBits}
use Rattle.paper.specs.declared.Fifo.TheVariants.{RxData, RxStatus}
use Rattle.paper.specs.declared.Registers.{Registers}
use Rattle.paper.specs.Words.{bit}
use Rattle.paper.specs.Registers.{RXEN}
use Rattle.paper.specs.Memory.{words_lent, Four, puts, with_ring, ring_after, memory_after}
use Rattle.paper.specs.Filter.{passes}
use Rattle.paper.specs.Status.{Look, longest, status}
use Rattle.paper.specs.Arrivals.{Verdict, refuses_length, good_flags, discards, data_words, arrival, arrival_answer}
use Rattle.paper.specs.Refusals.{in_range}
use Rattle.paper.specs.Calls.{Arrive}
use Rattle.paper.specs.Acts.{arrives, arrive}
use Rattle.paper.specs.Machine.{waits, decide, apply}
use Rattle.paper.specs.Promises.{told, told_of}
use Rattle.std.proofs.lemmas.Bool.{cond_both, or_parts}
use Rattle.paper.proofs.ArrivalLines.{Says, arrival_says, arrives_answer}
use Rattle.paper.proofs.Contracts.{world, told_decided, levels_are}
use Rattle.entry.proofs.Parts.{in_ring}
use Rattle.rings.specs.declared.Part.{Part}
use Rattle.rings.specs.Rings.{Changed}
use Rattle.rings.specs.Parts.{PartOf}
use Rattle.receive.specs.declared.Wire.{Wire}
use Rattle.receive.specs.Judging.{seen, free, verdict_of, Sized, Fitting, arrived_at, Leaves}

-- Lines 1 and 4 let a frame that is Stored through.
stored_sized : (r : Registers) (words statuses : ℕ) (l : Look) → Ok Stored ≡ arrival r words statuses l → Sized l.len
unfolding arrival
stored_sized r words statuses l =
    cond_both (refuses_length l.len) _ _ says (λ _ (e : Ok Stored ≡ Err ArrivingLength). absurd (cc)) λ good.
    cond_both (not (good_flags l.flags)) _ _ says (λ _ (e : Ok Stored ≡ Err OtherBits). absurd (cc)) λ flags.
    cond_both (not (bit RXEN r.maccr)) _ _ says (λ _ (e : Ok Stored ≡ Ok Ignored). absurd (cc)) λ receiving.
    cond_both (discards r l) _ _ says (λ _ (e : Ok Stored ≡ Ok Discarded). absurd (cc)) λ whole _.
    record {
      least = ltb-false _ _ (or_parts (ltb l.len 14) _ whole).0;
      most = ltb-false _ _ (or_parts (eqb l.len 0) _ good).1;
    }
  where
    says : Verdict → Type 0
    says a = Ok Stored ≡ a → Sized l.len

-- A frame that is Stored fits.
pub stored_fits : (s : State) (l : Look) → in_range s ≡ true → Ok Stored ≡ verdict_of s l → Fitting s l.len
stored_fits s l range a =
    let r = s.control.registers in
    let room = subst (λ (v : Verdict). Says v r (free RxData s) (free RxStatus s) l) (sym a) (arrival_says r (free RxData s) (free RxStatus s) l) in
    record {
      sized = stored_sized r (free RxData s) (free RxStatus s) l a;
      words = omega (arith, room.0, (in_ring s range RxData).count_le);
      status = omega (arith, room.1);
    }

-- Stored puts the data words, then the status.
pub stored_leaves : (s : State) (m : List ℕ) (w : Wire) {p q : Part} {d e : Ring} {m' m'' : List ℕ} {v : ℕ}
    → PartOf RxData s.control.registers.n p → PartOf RxStatus s.control.registers.n q
    → v ≡ status longest (not (passes s.control.registers (seen w).head)) (seen w)
    → Changed p.base p.size (puts (data_words w.frame.now)) s.rxdata d m m'
    → Changed q.base q.size (puts (v ∷ [])) s.rxstatus e m' m''
    → Leaves (arrived_at (Ok Stored) s m w) (with_ring RxStatus e (with_ring RxData d s)) m''
unfolding arrives apply ring_after memory_after
stored_leaves s m w first second e words last =
    record {
      state = rw (words.ring, last.ring);
      memory = rw (last.memory, words.memory, e, first.first, first.words, second.first, second.words);
    }

-- An arrival sends nothing.
arrives_nothing_sent : (a : Verdict) (k : Control) (l : Look) (words : List ℕ) → (arrives a k l words).sent ≡ []
unfolding arrives
arrives_nothing_sent (Err e) k l words = refl
arrives_nothing_sent (Ok Ignored) k l words = refl
arrives_nothing_sent (Ok Discarded) k l words = refl
arrives_nothing_sent (Ok Filtered) k l words = refl
arrives_nothing_sent (Ok Dropped) k l words = refl
arrives_nothing_sent (Ok Stored) k l words = refl

-- What is decided of an arrival, by the rings' counts.
arrive_decided : (s : State) (m : List ℕ) (w : Wire)
    → decide (Arrive w.frame.now w.flags) s.control (waits (world s m)) ≡ arrives (verdict_of s (seen w)) s.control (seen w) (data_words w.frame.now)
unfolding decide
arrive_decided s m w = ap (λ (v : Four ℕ). arrive s.control v (seen w) (data_words w.frame.now)) (levels_are s m)

-- What an arrival meets, with the world after what that does, is what an arrival is told.
pub arrived_told : (s : State) (m : List ℕ) (w : Wire) → length m ≡ words_lent → in_range s ≡ true → (a : Verdict) → a ≡ verdict_of s (seen w)
    → (t : State) (m' : List ℕ) → Leaves (arrived_at a s m w) t m' → told (arrival_answer a) t m' ≡ told_of (Arrive w.frame.now w.flags) s m
arrived_told s m w lent range a met t m' after =
    let does = arrives a s.control (seen w) (data_words w.frame.now) in
    let decided = arrive_decided s m w ∙ ap (λ (x : Verdict). arrives x s.control (seen w) (data_words w.frame.now)) (sym met) in
    let nothing = arrives_nothing_sent a s.control (seen w) (data_words w.frame.now) in
    let called = told_decided (Arrive w.frame.now w.flags) s m lent range refl does decided nothing in
    rw (after.state, after.memory, ← arrives_answer a s.control (seen w) (data_words w.frame.now)) (sym called)
