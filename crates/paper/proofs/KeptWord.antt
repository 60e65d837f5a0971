-- A word written to the transmit port keeps the invariant.
--   turned                every turn of a port that is as what was written implies keeps to it
--   note_word             what the ledger notes of a word written
--   kept_tx_word          after a word written to the port the world is as the ledger says
-- Assumes nothing.
use mathlib.Core.Path.{◌≡◌, refl, sym, ap, subst, ◌∙◌}
use mathlib.Core.Bool.{Bool, true, false, not, ◌&&◌}
use mathlib.Core.List.{List, [], ◌∷◌, ◌++◌, append-nil}
use Prim.Native.Nat.{ℕ, suc, ◌-◌, ◌≤◌, ◌<◌}
use native.Mathlib.Nat.{sub-zero, zero-add}
use native.Mathlib.Omega.{arith}
use lib.Dec.{ltb}
use lib.ListN.{length, length-append}
use borrow.Author.Tests.{ltb-true, not-false}
use Rattle.paper.specs.declared.Ring.{Ring}
use Rattle.paper.specs.declared.Refusal.TheVariants.{BadCommand, Disagrees}
use Rattle.paper.specs.Answers.{Answer}
use Rattle.paper.specs.declared.Fifo.TheVariants.{TxData, TxStatus, RxData, RxStatus}
use Rattle.paper.specs.Memory.{size, Change, keeps, puts}
use Rattle.paper.specs.Transmission.{host_words, good_a, good_length, repeats, sizes_agree, is_stored, Turn}
use Rattle.paper.specs.Transmission.{takes_a, takes_b, takes_payload, takes_expected, port_takes}
use Rattle.paper.specs.Calls.{TxWord}
use Rattle.paper.specs.Acts.{Act, tx_word}
use Rattle.paper.specs.Machine.{World, waits, levels, decide, apply, step, answer, after}
use Rattle.paper.specs.Ledger.{Whole, Taking, Nothing, FirstA, Between, LaterA, Filling, Wrote, Ledger}
use Rattle.paper.specs.Ledger.{laid_so_far, wrote_word, with_wrote, entered, note, put, taken}
use Rattle.std.proofs.lemmas.Bool.{and_parts, cond_both}
use Rattle.paper.proofs.Counts.{host_words_pos}
use Rattle.paper.proofs.Memory.{Fits}
use Rattle.paper.proofs.Rings.{split}
use Rattle.paper.proofs.Kept.{sizes_of, expect_of, port_of, control_of, Begun, Run, open_behind, GoodOpen, GoodTaking}
use Rattle.paper.proofs.Kept.{Kept, Follows, Moves, kept_apply}
use Rattle.paper.proofs.KeptRange.{kept_act}
use Rattle.paper.proofs.Buffers.{kept_stored, kept_thrown, laid_first_lem, laid_begins, laid_grows}
use Rattle.paper.proofs.Turns.{wrote_after, GoodWrote, Lays, lays_none, lays_one, Turned, TurnsTo, stands, failed, stored, moves_on}
use Rattle.paper.proofs.Filled.{payload_taken}
use Rattle.paper.proofs.Fifos.{waits_count}

-- what was written, with no error
abbrev writing : List Whole → (sent : ℕ) → Taking → Wrote
writing packets sent t = record { packets = packets; taking = t; sent = sent; failed = false }

module _ (free : Bool) (w : ℕ) (packets : List Whole) (sent : ℕ) where
  -- A word that a port with no error takes.
  word_turned : (t : Taking) → GoodWrote (writing packets sent t)
      → TurnsTo free w (writing packets sent t) (takes_expected free (port_of (writing packets sent t)) (expect_of t) w)
  unfolding takes_expected takes_a takes_b takes_payload expect_of sizes_of wrote_word GoodTaking laid_so_far
  word_turned Nothing good =
      let x = writing packets sent Nothing in
      cond_both (good_a false w) _ _ (TurnsTo free w x)
      (λ g. stored free w x good _ _ (λ f. moves_on free x good (FirstA w) _ refl g (lays_one w f refl)))
      (λ g. failed free w x good BadCommand refl)
  word_turned (FirstA a) good =
      let x = writing packets sent (FirstA a) in
      cond_both (not (good_length w)) _ _ (TurnsTo free w x)
      (λ g. failed free w x good BadCommand refl)
      (λ g. cond_both (not (sizes_agree a w 0)) _ _ (TurnsTo free w x)
      (λ s. failed free w x good Disagrees refl)
      (λ s.
      let begun : Begun false w 0 a = record { good = good.taking; agree = not-false _ s } in
      let none_before : GoodOpen w [] = record { long = not-false _ g; run = Run.none } in
      stored free w x good _ _ λ f.
      rw (sub-zero, zero-add) at
      (moves_on free x good (Filling w [] a []) (puts (w ∷ [])) refl (none_before, begun, host_words_pos false a good.taking)
      (lays_one w f (laid_first_lem w a)))))
  word_turned (Between b xs) good =
      let x = writing packets sent (Between b xs) in
      cond_both (good_a true w) _ _ (TurnsTo free w x)
      (λ g. stored free w x good _ _ (λ f. moves_on free x good (LaterA b xs w) _ refl (good.taking.0, good.taking.1, g) (lays_one w f refl)))
      (λ g. failed free w x good BadCommand refl)
  word_turned (LaterA b xs a) good =
      let x = writing packets sent (LaterA b xs a) in
      cond_both (repeats b w && sizes_agree a b (sizes_of xs)) _ _ (TurnsTo free w x)
      (λ s.
      let begun : Begun (open_behind xs) b (sizes_of xs) a = record { good = rw good.taking.1 good.taking.2; agree = (and_parts (repeats b w) _ s).1 } in
      rw sub-zero at
      (moves_on free x good (Filling b xs a []) keeps refl (good.taking.0, begun, host_words_pos true a good.taking.2)
      (lays_none (laid_begins b xs a good.taking.1))))
      (λ s. failed free w x good Disagrees refl)
  word_turned (Filling b xs a words) good =
      let x = writing packets sent (Filling b xs a words) in
      cond_both (is_stored a (host_words a - (host_words a - length words))) _ _ (TurnsTo free w x)
      (λ s. stored free w x good _ _ (λ f.
      payload_taken free x good refl b xs a (words ++ (w ∷ [])) _ _ good.taking.0 good.taking.1 count within
      (lays_one w f (laid_grows b xs a words _ (w ∷ []) (kept_stored a words w (rw index at s))))))
      (λ s.
      payload_taken free x good refl b xs a (words ++ (w ∷ [])) _ _ good.taking.0 good.taking.1 count within
      (lays_none (laid_grows b xs a words _ [] (kept_thrown a words w (rw index at s) ∙ sym (append-nil _)) ∙ append-nil _)))
    where
      below : length words < host_words a
      below = good.taking.2

      index : host_words a - (host_words a - length words) ≡ length words
      index = omega (arith, below)

      count : host_words a - length words ≡ suc (host_words a - length (words ++ (w ∷ [])))
      count = rw length-append (omega (arith, below))

      within : length (words ++ (w ∷ [])) ≤ host_words a
      within = rw length-append (omega (arith, below))

-- Every turn of a port that is as what was written implies takes it to what its answer says.
pub turned : (free : Bool) (w : ℕ) (x : Wrote) → GoodWrote x → TurnsTo free w x (port_takes free (port_of x) w)
unfolding port_takes
turned free w x good = by_error x.failed good
  where
    with_error : Bool → Wrote
    with_error failed = record { packets = x.packets; taking = x.taking; sent = x.sent; failed = failed }

    by_error : (failed : Bool) → GoodWrote (with_error failed) → TurnsTo free w (with_error failed) (port_takes free (port_of (with_error failed)) w)
    by_error true g = stands free w (with_error true) g
    by_error false g = word_turned free w x.packets x.sent x.taking g

-- ---- the world

-- What the ledger notes of a word written is what was written after it.
pub note_word : (w : ℕ) (a : Answer) (l : Ledger) → note (TxWord w) a l ≡ with_wrote (wrote_after w a l.wrote) l
unfolding note entered
note_word w a l = grind arith

-- A change that lays words fits a ring that has a word free where one is said to be.
lays_fit : {free : Bool} {c : Change} {before behind : List ℕ} (s : ℕ) (r : Ring) → Lays free c before behind → (free ≡ true → r.count < s) → Fits s c r
lays_fit s r (lays_none e) room = tt
lays_fit s r (lays_one w f e) room = omega (arith, room f)

-- It does to the words put into a FIFO what it says, and takes none.
lays_follow : {free : Bool} {c : Change} {before behind : List ℕ} {t t' : ℕ} → Lays free c before behind → t' ≡ t → Follows c before t behind t'
lays_follow (lays_none e) same = (e, same)
lays_follow (lays_one w f e) same = (e, same)

module _ {l : Ledger} {w : World} (word : ℕ) (h : Kept l w) where
  -- whether a word of TX data is free, the turn of the port, and what was written after it
  abbrev free : Bool
  free = ltb (length (waits w).txdata) (size TxData l.registers.n)

  abbrev turn : Turn
  turn = port_takes free (port_of l.wrote) word

  abbrev wrote : Wrote
  wrote = wrote_after word turn.answer l.wrote

  -- What was written is good.
  good : GoodWrote l.wrote
  good = record { packets = h.legal.packets; taking = h.legal.taking; sent = h.legal.sent }

  -- The turn takes it to what the ledger notes.
  turns : Turned free l.wrote wrote turn
  turns = turned free word l.wrote good

  -- A word said to be free is free.
  room : free ≡ true → w.state.txdata.count < size TxData (split w)
  room e =
      let n : split w ≡ l.registers.n = ap (λ k. k.registers.n) h.control in
      let count : length (waits w).txdata ≡ w.state.txdata.count = waits_count w TxData in
      let below : length (waits w).txdata < size TxData l.registers.n = ltb-true _ _ e in
      rw n (omega arith)

  -- The act of the word moves the ledger as it moves the world.
  word_moves : Moves l (with_wrote wrote l) (tx_word word (control_of l) (levels (waits w))) w
  unfolding put taken
  word_moves =
      record {
        legal = record { registers = h.legal.registers; packets = turns.good.packets; taking = turns.good.taking; sent = turns.good.sent };
        control = rw turns.port;
        split = refl;
        fits = elim [ TxData ↦ lays_fit (size TxData (split w)) w.state.txdata turns.lays room | TxStatus ↦ tt | RxData ↦ tt | RxStatus ↦ tt ];
        follows = elim [
          | TxData ↦ lays_follow turns.lays (ap length turns.taken)
          | TxStatus ↦ (refl, refl)
          | RxData ↦ (refl, refl)
          | RxStatus ↦ (refl, refl)
        ];
      }

-- After a word written to the port the world is as the ledger says that has noted the word and its answer.
pub kept_tx_word : {l : Ledger} {w : World} (word : ℕ) → Kept l w → Kept (note (TxWord word) (answer (TxWord word) w) l) (after (TxWord word) w)
unfolding step decide
kept_tx_word {l} {w} word h =
    subst (λ (a : Act). Kept (note (TxWord word) a.answer l) (apply a w)) (sym (kept_act (TxWord word) h))
    (rw note_word (kept_apply h (word_moves word h)))
