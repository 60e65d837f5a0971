-- One payload word written to a port: the buffer goes on, or is full, and then the packet goes on or is whole.
--   payload_taken         what was written after a payload word is what the port shows after it
-- Assumes nothing.
use mathlib.Core.Path.{◌≡◌, refl}
use mathlib.Core.Bool.{Bool, true, false}
use mathlib.Core.List.{List, [], ◌∷◌, ◌++◌, append-nil}
use Prim.Native.Nat.{ℕ, suc, ◌+◌, ◌-◌, ◌≤◌, ◌<◌}
use native.Mathlib.Omega.{arith}
use lib.Dec.{ltb}
use lib.ListN.{length, length-append}
use lib.Seq.{take-append-le}
use borrow.Author.Tests.{ltb-true, ltb-false, lt-ltb, le-ltb}
use Rattle.paper.specs.declared.Packet.TheVariants.{Closed, Known}
use Rattle.paper.specs.declared.Expect.TheVariants.{CommandA, Payload}
use Rattle.paper.specs.Memory.{Change}
use Rattle.paper.specs.Transmission.{buffer_size, is_last, host_words, moves}
use Rattle.paper.specs.Transmission.{after_payload, whole_after}
use Rattle.paper.specs.Ledger.{Written, Whole, Nothing, Between, Filling, Wrote, laid_first, laid_all, laid_so_far}
use Rattle.paper.specs.Ledger.{filled, taking_on}
use Rattle.paper.proofs.Kept.{sizes_of, expect_of, Begun, Fine, open_behind, GoodOpen, GoodTaking}
use Rattle.paper.proofs.Buffers.{sizes_of-snoc, run-snoc, ended_snoc, open_snoc, laid_all-snoc, all_good_snoc}
use Rattle.paper.proofs.Turns.{GoodWrote, Lays, Turned, lays_behind, moves_on}

-- the buffer of a after the payload words, of which the last was taken with left words to come
module _ (free : Bool) (x : Wrote) (good : GoodWrote x) (ok : x.failed ≡ false) (b : ℕ) (xs : List Written) (a : ℕ) (words : List ℕ) (left : ℕ) (c : Change)
    (before : GoodOpen b xs) (begun : Begun (open_behind xs) b (sizes_of xs) a)
    (count : left ≡ suc (host_words a - length words)) (within : length words ≤ host_words a)
    (lays : Lays free c (laid_so_far x.taking) (laid_first b (xs ++ (record { a = a; words = words } ∷ [])))) where
  -- A full buffer is one that a port accepts.
  fine : host_words a ≤ length words → Fine (open_behind xs) b (sizes_of xs) (record { a = a; words = words })
  fine full = record { begun = begun; full = omega arith }

  -- Words to come: the buffer goes on.
  goes_on : length words < host_words a → Turned free x (taking_on (Filling b xs a words) x)
      (moves (Payload a (left - 1) (Known b (sizes_of xs + buffer_size a))) (length x.packets - x.sent) c)
  unfolding expect_of laid_so_far GoodTaking
  goes_on more =
      rw (let e : left - 1 ≡ host_words a - length words = omega arith in e)
      (moves_on free x good (Filling b xs a words) c ok (before, begun, more) lays)

  -- The buffer is full and not Last: the packet goes on.
  ends_buffer : host_words a ≤ length words → is_last a ≡ false → Turned free x (taking_on (Between b (xs ++ (record { a = a; words = words } ∷ []))) x)
      (moves (CommandA (Known b (sizes_of xs + buffer_size a))) (length x.packets - x.sent) c)
  unfolding expect_of laid_so_far GoodTaking
  ends_buffer full last =
      rw (← sizes_of-snoc xs (record { a = a; words = words }))
      (moves_on free x good (Between b (xs ++ (record { a = a; words = words } ∷ []))) c ok
      (record { long = before.long; run = run-snoc before.run (fine full) last }, open_snoc xs _) lays)

  -- The Last buffer is full: the packet is whole.
  ends_packet : host_words a ≤ length words → is_last a ≡ true
      → Turned free x
      (record {
        packets = x.packets ++ (record { b = b; buffers = xs ++ (record { a = a; words = words } ∷ []) } ∷ []);
        taking = Nothing;
        sent = x.sent;
        failed = x.failed;
      })
      (moves (CommandA Closed) (length x.packets - x.sent + 1) c)
  unfolding expect_of laid_so_far GoodTaking
  ends_packet full last =
      let p : Whole = record { b = b; buffers = xs ++ (record { a = a; words = words } ∷ []) } in
      record {
        port = rw (ok, length-append) (let e : length x.packets - x.sent + 1 ≡ length x.packets + 1 - x.sent = omega (arith, good.sent) in rw e);
        lays = rw (laid_all-snoc x.packets p, append-nil) (lays_behind (laid_all x.packets) lays);
        good = record {
          packets = all_good_snoc x.packets p good.packets (record { long = before.long; ended = ended_snoc before.run (fine full) last });
          taking = tt;
          sent = rw length-append (omega (arith, good.sent));
        };
        taken = rw (take-append-le x.sent x.packets (p ∷ []) good.sent);
      }

  -- So it is after each payload word.
  pub payload_taken : Turned free x (filled b xs a words x)
      (moves (after_payload a left (Known b (sizes_of xs + buffer_size a))) (whole_after a left (length x.packets - x.sent)) c)
  unfolding after_payload whole_after
  payload_taken = by_cases (ltb (length words) (host_words a)) refl (is_last a) refl
    where
      by_cases : (more : Bool) → ltb (length words) (host_words a) ≡ more → (last : Bool) → is_last a ≡ last → Turned free x (filled b xs a words x)
          (moves (after_payload a left (Known b (sizes_of xs + buffer_size a))) (whole_after a left (length x.packets - x.sent)) c)
      by_cases true e last l =
          let more : length words < host_words a = ltb-true _ _ e in
          rw (e, lt-ltb 1 left (omega arith)) (goes_on more)
      by_cases false e true l =
          let full : host_words a ≤ length words = ltb-false _ _ e in
          rw (e, le-ltb 1 left (omega arith), l) (ends_packet full l)
      by_cases false e false l =
          let full : host_words a ≤ length words = ltb-false _ _ e in
          rw (e, le-ltb 1 left (omega arith), l) (ends_buffer full l)
